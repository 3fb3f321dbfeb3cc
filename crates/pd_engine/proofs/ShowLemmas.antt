-- Where a path leads, and the numbers of boxes.
use Rattle.std.proofs.Common.{◌≡◌, ℕ, true, List, [], ◌∷◌, ◌++◌, refl, sym, ◌∙◌, ap, append_assoc, Option, Some, None}
use Rattle.std.proofs.Common.{subst}
use Rattle.std.specs.Prelude.{codes, slice_get, option_and_then}
use Rattle.pd_io.specs.Stream.{grown, TookPart}
use Rattle.pd_say.proofs.GatheringLemmas.{took_more, grown-grown}
use Rattle.pd_order.specs.Listing.{Listing}
use Rattle.pd_patch.specs.Telling.{order_in, is_looped}
use Rattle.slab.specs.Slab.{get}
use Rattle.pd_grove.specs.declared.nodes.Node.{Node}
use Rattle.pd_grove.specs.Telling.{inner_in, keys_in, step_in, reached}
use Rattle.pd_patch.specs.declared.patch.Patch.{Patch}
use Rattle.pd_hearing.specs.Worlds.{bare, net_of}
use Rattle.pd_engine.specs.Commands.{step_to, led_to}
use Rattle.pd_stage.specs.Lines.{boxes_text, loop_text, loops_text}

-- what was taken after this much was taken
took_after : (t₁ t₂ t₃ : Option (List ℕ)) (a b : List ℕ) → t₂ ≡ grown t₁ a → TookPart t₂ t₃ b → TookPart t₁ t₃ (a ++ b)
took_after t₁ t₂ t₃ a b is took = record {
  part = a ++ took.part;
  begins = record { rest = took.begins.rest; is = ap (λ (x : List ℕ). a ++ x) took.begins.is ∙ sym (append_assoc a took.part took.begins.rest) };
  is = took.is ∙ ap (λ (o : Option (List ℕ)). grown o took.part) is ∙ grown-grown t₁ a took.part;
}

inner_bare : (o : Option Node) → inner_in (bare o) ≡ inner_in o
inner_bare None = refl
inner_bare (Some n) = refl

inner_is : (p : Patch) (o : Option ℕ) → option_and_then (λ k. inner_in (bare (get p.grove.nodes k))) o ≡ option_and_then (λ k. inner_in (get p.grove.nodes k)) o
inner_is p None = refl
inner_is p (Some k) = inner_bare (get p.grove.nodes k)

step_is : (p : Patch) (here : Option ℕ) (n : ℕ) → option_and_then (λ canvas. step_to (net_of p) canvas n) here ≡ option_and_then (λ canvas. step_in p.grove canvas n) here
step_is p None n = refl
step_is p (Some canvas) n = inner_is p (slice_get (keys_in (get p.grove.boards canvas)) n)

pub led_is : (p : Patch) (here : Option ℕ) (path : List ℕ) → led_to (net_of p) here path ≡ reached p.grove here path
led_is p here [] = refl
led_is p here (n ∷ path) =
    ap (λ (o : Option ℕ). led_to (net_of p) o path) (step_is p here n) ∙ led_is p (option_and_then (λ canvas. step_in p.grove canvas n) here) path

-- the order of the canvas at a path
pub order_some : (p : Patch) (path : List ℕ) (c : ℕ) (o : Option Listing) → Some c ≡ reached p.grove (Some p.grove.root) path → o ≡ order_in p.orders.items c
    → o ≡ option_and_then {T = ℕ} {U = Listing} (λ k. order_in p.orders.items k) (led_to (net_of p) (Some p.grove.root) path)
order_some p path c o is found =
    found ∙ ap (λ (r : Option ℕ). option_and_then {T = ℕ} {U = Listing} (λ k. order_in p.orders.items k) r) (is ∙ sym (led_is p (Some p.grove.root) path))

pub order_none : (p : Patch) (path : List ℕ) → None ≡ reached p.grove (Some p.grove.root) path
    → None ≡ option_and_then {T = ℕ} {U = Listing} (λ k. order_in p.orders.items k) (led_to (net_of p) (Some p.grove.root) path)
order_none p path is =
    ap (λ (r : Option ℕ). option_and_then {T = ℕ} {U = Listing} (λ k. order_in p.orders.items k) r) (is ∙ sym (led_is p (Some p.grove.root) path))

-- the line of a canvas whose boxes feed one another in a loop
pub loops_some : (p : Patch) (canvas : ℕ) → is_looped (order_in p.orders.items canvas) ≡ true → loops_text p canvas ≡ loop_text p canvas
loops_some p canvas is = rw is refl

-- the lines of an order were taken in part
pub first_broke : (path a a' rest : List ℕ) (t t' : Option (List ℕ)) → a ≡ a' → TookPart t t' (boxes_text (codes "chain ") path a)
    → TookPart t t' (boxes_text (codes "chain ") path a' ++ rest)
first_broke path a a' rest t t' same took =
    took_more t t' (boxes_text (codes "chain ") path a') rest (subst (λ (x : List ℕ). TookPart t t' (boxes_text (codes "chain ") path x)) same took)

pub second_broke : (path a a' b b' : List ℕ) (t₁ t₂ t₃ : Option (List ℕ)) → a ≡ a' → b ≡ b' → t₂ ≡ grown t₁ (boxes_text (codes "chain ") path a)
    → TookPart t₂ t₃ (boxes_text (codes "stuck ") path b) → TookPart t₁ t₃ (boxes_text (codes "chain ") path a' ++ boxes_text (codes "stuck ") path b')
second_broke path a a' b b' t₁ t₂ t₃ same same' said took =
    took_after t₁ t₂ t₃ (boxes_text (codes "chain ") path a') (boxes_text (codes "stuck ") path b')
    (said ∙ ap (λ (x : List ℕ). grown t₁ (boxes_text (codes "chain ") path x)) same)
    (subst (λ (x : List ℕ). TookPart t₂ t₃ (boxes_text (codes "stuck ") path x)) same' took)
