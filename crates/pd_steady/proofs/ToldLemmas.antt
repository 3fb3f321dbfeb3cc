-- In a run the lines of each order tell all its boxes.
use Rattle.std.proofs.Common.{◌≡◌, ◌≤◌, ◌+◌, ℕ, List, [], ◌∷◌, length, map, Option, Some, None, refl, sym, ap, subst, ◌∙◌, arith}
use Rattle.std.specs.Prelude.{option_and_then}
use Rattle.std.proofs.lemmas.List.{take_all}
use Rattle.pd_order.specs.Listing.{Listing}
use Rattle.pd_tree.specs.Trees.{weight}
use Rattle.pd_grove.specs.declared.grove.Grove.{Grove}
use Rattle.pd_grove.specs.Standing.{GroveStands}
use Rattle.pd_grove.specs.Telling.{reached}
use Rattle.pd_patch.specs.declared.patch.Patch.{Patch}
use Rattle.pd_patch.specs.Orders.{AreOrdered}
use Rattle.pd_patch.specs.Telling.{order_in, number_in}
use Rattle.pd_patch.specs.Values.{Blocks}
use Rattle.pd_hearing.specs.Worlds.{Net, net_of}
use Rattle.pd_stage.specs.Stages.{Stage}
use Rattle.pd_stage.specs.Trees.{HasTree}
use Rattle.pd_stage.specs.Lines.{most_boxes}
use Rattle.pd_engine.specs.Commands.{step_to, led_to}
use Rattle.pd_engine.proofs.ShowLemmas.{led_is}
use Rattle.pd_steady.specs.Told.{TellsAll}
use Rattle.pd_steady.proofs.NetLemmas.{told_with, TellsOf, same_net}
use Rattle.pd_steady.proofs.ShortLemmas.{orders_short}

-- the blocks make no difference to where a path leads
pub led_other : (p : Patch) (blocks : Blocks) (here : Option ℕ) (path : List ℕ) → led_to (told_with p blocks) here path ≡ led_to (net_of p) here path
led_other p blocks here [] = refl
led_other p blocks here (n ∷ path) = led_other p blocks (option_and_then (λ canvas. step_to (net_of p) canvas n) here) path

found_some : (f : ℕ → Option Listing) (r : Option ℕ) (o : Listing) → option_and_then f r ≡ Some o → (c : ℕ) × (r ≡ Some c) × (f c ≡ Some o)
found_some f None o e = cc
found_some f (Some c) o e = (c, refl, e)

-- the order at a path is that of the patch
order_of : (p : Patch) (s : Stage) (path : List ℕ) (o : Listing) → TellsOf p s
    → option_and_then (λ c. order_in s.net.orders.items c) (led_to s.net (Some s.net.root) path) ≡ Some o
    → option_and_then (λ c. order_in p.orders.items c) (reached p.grove (Some p.grove.root) path) ≡ Some o
order_of p s path o h e =
    let f : ℕ → Option Listing = λ c. order_in p.orders.items c in
    ap (λ (r : Option ℕ). option_and_then f r) (sym (led_is p (Some p.grove.root) path) ∙ sym (led_other p s.net.blocks (Some p.grove.root) path))
    ∙ subst (λ (n : Net). option_and_then (λ c. order_in n.orders.items c) (led_to n (Some n.root) path) ≡ Some o) (same_net p s h) e

first_part : (a b n : ℕ) → a + b ≤ n → a ≤ n
first_part a b n l = omega arith

last_part : (a b n : ℕ) → a + b ≤ n → b ≤ n
last_part a b n l = omega arith

pub all_told : (net : Net) (o : Listing) → length o.chain + length o.stuck ≤ most_boxes → TellsAll net o
all_told net o l = record {
  chain = ap (λ (boxes : List ℕ). map (number_in net.numbers.items) boxes) (take_all most_boxes o.chain (first_part (length o.chain) (length o.stuck) most_boxes l));
  stuck = ap (λ (boxes : List ℕ). map (number_in net.numbers.items) boxes) (take_all most_boxes o.stuck (last_part (length o.chain) (length o.stuck) most_boxes l));
}

pub order_told : (p : Patch) (s : Stage) (path : List ℕ) (o : Listing)
    → ((path : List ℕ) (c : ℕ) (o : Listing) → reached p.grove (Some p.grove.root) path ≡ Some c → order_in p.orders.items c ≡ Some o → length o.chain + length o.stuck ≤ most_boxes)
    → TellsOf p s → option_and_then (λ c. order_in s.net.orders.items c) (led_to s.net (Some s.net.root) path) ≡ Some o → TellsAll s.net o
order_told p s path o short h e =
    let x : (c : ℕ) × (reached p.grove (Some p.grove.root) path ≡ Some c) × (order_in p.orders.items c ≡ Some o)
    = found_some (λ c. order_in p.orders.items c) (reached p.grove (Some p.grove.root) path) o (order_of p s path o h e) in
    all_told s.net o (short path x.0 o x.1 x.2)

-- as many as a patch has are as many as a line tells
pub few_told : (n weight : ℕ) → n ≤ weight → weight ≤ 16384 → n ≤ most_boxes
few_told n weight l m = omega arith

-- the orders of a patch in which a tree stands that is as large as is counted
pub tree_short : (s : Stage) (t : HasTree s) (q : Patch) → q.grove ≡ t.patch.grove → AreOrdered q.grove q.web q.orders.items → (path : List ℕ) (c : ℕ) (o : Listing)
    → reached t.patch.grove (Some t.patch.grove.root) path ≡ Some c → order_in q.orders.items c ≡ Some o → length o.chain + length o.stuck ≤ most_boxes
tree_short s t q same ordered path c o leads order =
    few_told (length o.chain + length o.stuck) (weight t.tree.boxes)
    (orders_short q t.tree (subst (λ (g : Grove). GroveStands g t.tree.sheet t.tree.boxes) (sym same) t.stands) ordered path c o
    (subst (λ (g : Grove). reached g (Some g.root) path ≡ Some c) (sym same) leads) order)
    (few_counted s.base.counts.boxes (weight t.tree.boxes) t.boxes t.within.boxes)
  where
    few_counted : (n m : ℕ) → n ≡ m → n ≤ 16384 → m ≤ 16384
    few_counted n m e l = omega (arith, e, l)
