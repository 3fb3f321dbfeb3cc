-- What wires rest on is known of a patch as soon as some proof of it is.
use Rattle.std.proofs.Common.{◌≡◌, ◌<◌, ◌≤◌, ◌⊎◌, length, ℕ, Bool, true, false, zero, suc, List, [], ◌∷◌, ◌++◌, refl, sym, ◌∙◌, ap, subst, eqb, inl, inr, Option, Some, None}
use Rattle.std.proofs.lemmas.Bool.{eqb-true, eq-eqb, false≢true}
use Rattle.std.proofs.Props.{props}
use Rattle.std.specs.Coded.{Coded, Coded-set, code_by, coded×, coded_list, coded_option, coded_ℕ, coded_bool, ×_prop, Unit-prop}
use Rattle.std.specs.List.{AllByRecursion}
use Rattle.std.specs.Prelude.{slice_get, IsSome}
use mathlib.Core.Logic.{∥∥₁_elim, ∥∥₁_map}
use Rattle.slab.specs.Slab.{Slab, get}
use Rattle.pd_atom.specs.Names.{Names, IsTable, Extends}
use Rattle.pd_object.specs.declared.kinds.Kind.{Kind}
use Rattle.pd_object.specs.declared.kinds.Kind.TheVariants as kind
use Rattle.pd_object.specs.declared.kinds.Glue.{Glue}
use Rattle.pd_object.specs.declared.kinds.Glue.TheVariants as glue
use Rattle.pd_object.specs.declared.kinds.Signal.{Signal}
use Rattle.pd_object.specs.declared.kinds.Signal.TheVariants as signal
use Rattle.pd_object.specs.Ports.{IsSmallGlue, IsSmallSignal, IsSmallKind}
use Rattle.std.specs.Prelude.{IfNone, ℤ}
use Rattle.pd_script.specs.declared.commands.Script.{Script}
use Rattle.pd_script.specs.Options.{Gives}
use Rattle.pd_script.specs.Scripts.{command_of}
use Rattle.pd_regrowth_law.proofs.StepLemmas.{extends_same}
use Rattle.pd_library.specs.declared.answers.Answer.{Answer}
use Rattle.pd_gather.specs.Gather.{AreProper}
use Rattle.pd_gather.proofs.SuitLemmas.{still_found}
use Rattle.pd_bind.specs.Owning.{root_owner}
use Rattle.pd_grove.specs.Forest.{IsForest}
use Rattle.pd_order.specs.Graph.{Graph, AreNext, IsLeast, AreByRank, IsOrder}
use Rattle.pd_order.specs.Listing.{Listing}
use Rattle.pd_grove.specs.declared.boards.Board.{Board}
use Rattle.pd_grove.specs.declared.grove.Grove.{Grove}
use Rattle.pd_grove.specs.declared.ports.Side.TheVariants.{Inlets, Outlets}
use Rattle.pd_grove.specs.Owning.{AreOwn, board_in}
use Rattle.pd_web.specs.declared.jacks.Jack.{Jack}
use Rattle.pd_web.specs.declared.web.Hop.{Hop}
use Rattle.pd_web.specs.declared.web.Web.{Web}
use Rattle.pd_web.specs.Canvases.{keys_at}
use Rattle.pd_web.specs.Hops.{fan_hops}
use Rattle.pd_web.specs.Homes.{IsPortOf, inner_in}
use Rattle.pd_web.specs.Jacks.{jacks_at}
use Rattle.pd_patch.specs.declared.patch.Patch.{Patch}
use Rattle.pd_patch.specs.Built.{HasPorts}
use Rattle.pd_patch.specs.Linked.{ShareCanvas, StayInside}
use Rattle.pd_patch.specs.Listing.{IsThere}
use Rattle.pd_patch.specs.Orders.{HasOrder}
use Rattle.pd_patch.specs.Walking.{RestStays, AllButTime}
use Rattle.pd_wiring.specs.Changes.{CanRewire, AreAlike}
use Rattle.pd_web.specs.Changes.{hop_at, wires_told, IsListed, Meet}
use Rattle.pd_block.specs.Nets as block
use Rattle.pd_hearing.specs.Worlds.{Net, bare, net_of}
use Rattle.pd_boxes.specs.Put.{CanPut}
use Rattle.pd_boxes.proofs.AskingLemmas.{put_alike, put_rewired}
use Rattle.pd_adding.specs.declared.counts.Counts.{Counts}
use Rattle.pd_adding.specs.Coming.{zero_in, own_zero}
use Rattle.pd_adding.specs.Counts.{AreWithin}

-- a fact, or that it can't be
abbrev Decided : Type 0 → Type 0
Decided P = P ⊎ (P → ⊥)

never : {P : Type 0} → (P → ⊥) → ∥ P ∥₁ → ⊥
never denied t = ∥∥₁_elim t (λ x y. absurd x) denied

sure : {P : Type 0} → Decided P → ∥ P ∥₁ → P
sure (inl p) t = p
sure (inr denied) t = absurd (never denied t)

same_sure : {A : Type 0} → Coded A → (x y : A) → ∥ x ≡ y ∥₁ → x ≡ y
same_sure code x y t = ∥∥₁_elim t (Coded-set code x y) (λ e. e)

-- ---- equations are decided

none_some : {A : Type 0} (x : A) → ◌≡◌ {A = Option A} None (Some x) → ⊥
none_some x e = cc

some_none : {A : Type 0} (x : A) → ◌≡◌ {A = Option A} (Some x) None → ⊥
some_none x e = cc

some_same : {A : Type 0} (x y : A) → ◌≡◌ {A = Option A} (Some x) (Some y) → x ≡ y
some_same x y e = cc

numbers_decided : (x y : ℕ) → Decided (x ≡ y)
numbers_decided x y =
    elim (eqb x y) as (λ (t : Bool). eqb x y ≡ t → Decided (x ≡ y)) [
      | true ↦ λ e. inl (eqb-true x y e)
      | false ↦ λ e. inr (λ same. false≢true (sym e ∙ eq-eqb x y same))
    ] refl

both_some : (x y : ℕ) → Decided (x ≡ y) → Decided (◌≡◌ {A = Option ℕ} (Some x) (Some y))
both_some x y (inl e) = inl (ap (λ (z : ℕ). Some z) e)
both_some x y (inr denied) = inr (λ e. denied (some_same x y e))

keys_decided : (o : Option ℕ) (k : ℕ) → Decided (o ≡ Some k)
keys_decided None k = inr (λ e. none_some k e)
keys_decided (Some x) k = both_some x k (numbers_decided x k)

-- ---- whether something stands in a list

some_value : {A : Type 0} (x y : A) → ◌≡◌ {A = Option A} (Some x) (Some y) → x ≡ y
some_value x y e = cc

module _ {A : Type 0} (same : (x y : A) → Decided (x ≡ y)) where
  listed_later : (x : A) (xs : List A) (k : A) → (x ≡ k → ⊥) → (IsListed xs k → ⊥) → (i : ℕ) → slice_get (x ∷ xs) i ≡ Some k → ⊥
  listed_later x xs k first denied zero e = first (some_value x k e)
  listed_later x xs k first denied (suc i) e = denied (i, e)

  listed_on : (x : A) (xs : List A) (k : A) → Decided (x ≡ k) → Decided (IsListed xs k) → Decided (IsListed (x ∷ xs) k)
  listed_on x xs k (inl e) d = inl (0, ap (λ (z : A). Some z) e)
  listed_on x xs k (inr first) (inl p) = inl (suc p.0, p.1)
  listed_on x xs k (inr first) (inr denied) = inr (λ p. listed_later x xs k first denied p.0 p.1)

  listed_decided : (xs : List A) (k : A) → Decided (IsListed xs k)
  listed_decided [] k = inr (λ p. none_some k p.1)
  listed_decided (x ∷ xs) k = listed_on x xs k (same x k) (listed_decided xs k)

there_decided : (keys : List ℕ) (k : ℕ) → Decided (IsThere keys k)
there_decided keys k = listed_decided numbers_decided keys k

hops_by : (x y : Hop) → Decided (x.key ≡ y.key) → Decided (x.node ≡ y.node) → Decided (x.port ≡ y.port) → Decided (x ≡ y)
hops_by x y (inl a) (inl b) (inl c) =
    inl (ap (λ (k : ℕ). hop_at k x.node x.port) a ∙ ap (λ (k : ℕ). hop_at y.key k x.port) b ∙ ap (λ (k : ℕ). hop_at y.key y.node k) c)
hops_by x y (inr denied) b c = inr (λ e. denied (ap (λ (h : Hop). h.key) e))
hops_by x y (inl a) (inr denied) c = inr (λ e. denied (ap (λ (h : Hop). h.node) e))
hops_by x y (inl a) (inl b) (inr denied) = inr (λ e. denied (ap (λ (h : Hop). h.port) e))

hops_decided : (x y : Hop) → Decided (x ≡ y)
hops_decided x y = hops_by x y (numbers_decided x.key y.key) (numbers_decided x.node y.node) (numbers_decided x.port y.port)

-- ---- whether two boxes stand in one canvas

both_there : (g : Grove) (k j c : ℕ) → ((s : ShareCanvas g k j) → s.canvas ≡ c) → Decided (IsThere (keys_at g c) k) → Decided (IsThere (keys_at g c) j) → Decided (ShareCanvas g k j)
both_there g k j c only (inl one) (inl other) = inl (record { canvas = c; one = one; other = other })
both_there g k j c only (inr denied) d = inr (λ s. denied (subst (λ (x : ℕ). IsThere (keys_at g x) k) (only s) s.one))
both_there g k j c only (inl one) (inr denied) = inr (λ s. denied (subst (λ (x : ℕ). IsThere (keys_at g x) j) (only s) s.other))

share_by : (g : Grove) (k j : ℕ) → AreOwn (get g.nodes) (get g.boards) → (o : Option ℕ) → board_in (get g.nodes k) ≡ o → Decided (ShareCanvas g k j)
share_by g k j own None e = inr (λ s. none_some s.canvas (sym e ∙ own.home s.canvas s.one.0 k s.one.1))
share_by g k j own (Some c) e =
    both_there g k j c (λ s. some_same s.canvas c (sym (own.home s.canvas s.one.0 k s.one.1) ∙ e)) (there_decided (keys_at g c) k) (there_decided (keys_at g c) j)

share_decided : (g : Grove) (k j : ℕ) → AreOwn (get g.nodes) (get g.boards) → Decided (ShareCanvas g k j)
share_decided g k j own = share_by g k j own (board_in (get g.nodes k)) refl

all_sure : {A : Type 0} (P : A → Type 0) → ((x : A) → ∥ P x ∥₁ → P x) → (xs : List A) → ∥ AllByRecursion P xs ∥₁ → AllByRecursion P xs
all_sure P each [] t = tt
all_sure P each (x ∷ xs) t = (each x (∥∥₁_map t (λ h. h.0)), all_sure P each xs (∥∥₁_map t (λ h. h.1)))

inside_sure : (g : Grove) (w : Web) → AreOwn (get g.nodes) (get g.boards) → ∥ StayInside g w ∥₁ → StayInside g w
inside_sure g w own t = λ k outlet.
    all_sure (λ h. ShareCanvas g k h.node) (λ h s. sure (share_decided g k h.node own) s) (fan_hops w k outlet) (∥∥₁_map t (λ h. h k outlet))

-- ---- ports

port_on : (g : Grove) (j k i : ℕ) → Decided (inner_in (slice_get (jacks_at Inlets g k) i) ≡ Some j) → Decided (inner_in (slice_get (jacks_at Outlets g k) i) ≡ Some j)
    → Decided (IsPortOf g j k i)
port_on g j k i (inl e) d = inl (record { side = Inlets; told = e })
port_on g j k i (inr denied) (inl e) = inl (record { side = Outlets; told = e })
port_on g j k i (inr denied) (inr neither) = inr (λ p. elim p.side as (λ s. inner_in (slice_get (jacks_at s g k) i) ≡ Some j → ⊥) [ Inlets ↦ denied | Outlets ↦ neither ] p.told)

port_decided : (g : Grove) (j k i : ℕ) → Decided (IsPortOf g j k i)
port_decided g j k i =
    port_on g j k i (keys_decided (inner_in (slice_get (jacks_at Inlets g k) i)) j) (keys_decided (inner_in (slice_get (jacks_at Outlets g k) i)) j)

jack_code : Coded Jack
jack_code = code_by (Bool × Option ℕ) (coded× coded_bool (coded_option coded_ℕ)) (λ j. (j.is_signal, j.inner)) (λ p. record { is_signal = p.0; inner = p.1 }) (λ _. refl)

some_sure : {A : Type 0} (o : Option A) → ∥ IsSome o ∥₁ → IsSome o
some_sure o t = same_sure coded_bool _ _ t

ports_sure : (g : Grove) (w : Web) → ∥ HasPorts g w ∥₁ → HasPorts g w
ports_sure g w t = record {
  ports = λ side k. same_sure (coded_list jack_code) _ _ (∥∥₁_map t (λ h. h.ports side k));
  made = λ k. same_sure coded_bool _ _ (∥∥₁_map t (λ h. h.made k));
  homes = λ j k i e. sure (port_decided g j k i) (∥∥₁_map t (λ h. h.homes j k i e));
  homes_found = λ j k i p. some_sure _ (∥∥₁_map t (λ h. h.homes_found j k i p));
}

-- ---- orders

AreNext-prop : (g : Graph) (nodes listed xs : List ℕ) → IsProp (AreNext g nodes listed xs)
AreNext-prop g nodes listed [] = Unit-prop
AreNext-prop g nodes listed (x ∷ xs) = ×_prop (hlevel props) (AreNext-prop g nodes (listed ++ x ∷ []) xs)

IsLeast-prop : (g : Graph) (x : ℕ) (ys : List ℕ) → IsProp (IsLeast g x ys)
IsLeast-prop g x [] = Unit-prop
IsLeast-prop g x (y ∷ ys) = ×_prop (hlevel props) (IsLeast-prop g x ys)

AreByRank-prop : (g : Graph) (xs : List ℕ) → IsProp (AreByRank g xs)
AreByRank-prop g [] = Unit-prop
AreByRank-prop g (x ∷ xs) = ×_prop (IsLeast-prop g x xs) (AreByRank-prop g xs)

IsOrder-prop : (g : Graph) (nodes chain stuck : List ℕ) → IsProp (IsOrder g nodes chain stuck)
IsOrder-prop g nodes chain stuck = hlevel (AreNext-prop, AreByRank-prop, props)

order_sure : (g : Grove) (w : Web) (b : Option Board) (o : Option Listing) → ∥ HasOrder g w b o ∥₁ → HasOrder g w b o
order_sure g w None None t = refl
order_sure g w None (Some o) t = absurd (never (λ e. some_none o e) t)
order_sure g w (Some b) None t = never (λ e. e) t
order_sure g w (Some b) (Some o) t = ∥∥₁_elim t (IsOrder-prop _ _ o.chain o.stuck) (λ h. h)

-- ---- all of it

own_sure : (g : Grove) → ∥ AreOwn (get g.nodes) (get g.boards) ∥₁ → AreOwn (get g.nodes) (get g.boards)
own_sure g t = record {
  home = λ c i k e. same_sure (coded_option coded_ℕ) _ _ (∥∥₁_map t (λ h. h.home c i k e));
  once = λ c i j k e f. same_sure coded_ℕ _ _ (∥∥₁_map t (λ h. h.once c i j k e f));
}

pub rewires_sure : (p : Patch) → ∥ CanRewire p ∥₁ → CanRewire p
rewires_sure p t =
    let own : AreOwn (get p.grove.nodes) (get p.grove.boards) = own_sure p.grove (∥∥₁_map t (λ h. h.own)) in
    record {
      own = own;
      ports = ports_sure p.grove p.web (∥∥₁_map t (λ h. h.ports));
      inside = inside_sure p.grove p.web own (∥∥₁_map t (λ h. h.inside));
      linked = record {
        followers = λ k j. same_sure coded_ℕ _ _ (∥∥₁_map t (λ h. h.linked.followers k j));
        feeders = λ k j. same_sure coded_ℕ _ _ (∥∥₁_map t (λ h. h.linked.feeders k j));
      };
      orders = λ c. order_sure p.grove p.web (get p.grove.boards c) _ (∥∥₁_map t (λ h. h.orders c));
      numbers = λ c i k e. same_sure (coded_option coded_ℕ) _ _ (∥∥₁_map t (λ h. h.numbers c i k e));
    }

-- ---- what a box that comes asks of a patch

less_prop : (m n : ℕ) → IsProp (m < n)
less_prop m n = hlevel props

less_sure : (m n : ℕ) → ∥ m < n ∥₁ → m < n
less_sure m n t = ∥∥₁_elim t (less_prop m n) (λ h. h)

few_prop : (m n : ℕ) → IsProp (m ≤ n)
few_prop m n = hlevel props

few_sure : (m n : ℕ) → ∥ m ≤ n ∥₁ → m ≤ n
few_sure m n t = ∥∥₁_elim t (few_prop m n) (λ h. h)

none_sure : {A : Type 0} (o : Option A) → ∥ o ≡ None ∥₁ → o ≡ None
none_sure None t = refl
none_sure (Some x) t = absurd (never (λ e. some_none x e) t)

glue_prop : (g : Glue) → IsProp (IsSmallGlue g)
glue_prop (glue.Message t) = few_prop (length t) 1024
glue_prop (glue.FloatBox t) = few_prop (length t) 1024
glue_prop (glue.SymbolBox t) = few_prop (length t) 1024
glue_prop (glue.Array t vs) = few_prop (length t) 1024
glue_prop (glue.Trigger w outs) = few_prop (length outs) 1024
glue_prop (glue.Pack slots) = few_prop (length slots) 1024
glue_prop (glue.Unpack slots) = few_prop (length slots) 1024
glue_prop (glue.Route args) = few_prop (length args) 1024
glue_prop (glue.Select w args) = few_prop (length args) 1024
glue_prop (glue.Print ws) = few_prop (length ws) 1024
glue_prop (glue.ListAppend w atoms) = few_prop (length atoms) 1024
glue_prop (glue.ListPrepend atoms) = few_prop (length atoms) 1024
glue_prop _ = Unit-prop

signal_prop : (x : Signal) → IsProp (IsSmallSignal x)
signal_prop (signal.Dac channels) = few_prop (length channels) 1024
signal_prop _ = Unit-prop

kind_prop : (k : Kind) → IsProp (IsSmallKind k)
kind_prop (kind.Glue g) = glue_prop g
kind_prop (kind.Signal x) = signal_prop x
kind_prop _ = Unit-prop

forest_sure : (g : Grove) → ∥ IsForest (get g.nodes) (get g.boards) g.root ∥₁ → IsForest (get g.nodes) (get g.boards) g.root
forest_sure g t = record {
  own = own_sure g (∥∥₁_map t (λ h. h.own));
  placed = λ k c e. sure (there_decided (keys_at g c) k) (∥∥₁_map t (λ h. h.placed k c e));
  inside = λ k j e. same_sure (coded_option coded_ℕ) _ _ (∥∥₁_map t (λ h. h.inside k j e));
  held = λ c k e. same_sure (coded_option coded_ℕ) _ _ (∥∥₁_map t (λ h. h.held c k e));
  deeper = λ k c j e f. same_sure coded_ℕ _ _ (∥∥₁_map t (λ h. h.deeper k c j e f));
  rooted = (
    some_sure _ (∥∥₁_map t (λ h. h.rooted.0)),
    same_sure (coded_option coded_ℕ) _ _ (∥∥₁_map t (λ h. h.rooted.1)),
    same_sure coded_ℕ _ _ (∥∥₁_map t (λ h. h.rooted.2)),
  );
  alone = λ c live none. same_sure coded_ℕ _ _ (∥∥₁_map t (λ h. h.alone c live none));
  shallow = λ c. less_sure _ _ (∥∥₁_map t (λ h. h.shallow c));
}

pub puts_sure : (p : Patch) → ∥ CanPut p ∥₁ → CanPut p
puts_sure p t = record {
  forest = forest_sure p.grove (∥∥₁_map t (λ h. h.forest));
  small = λ k n e. ∥∥₁_elim (∥∥₁_map t (λ h. h.small k n e)) (kind_prop n.kind) (λ h. h);
  apart = none_sure (get p.grove.nodes root_owner) (∥∥₁_map t (λ h. h.apart));
  runs = rewires_sure p (∥∥₁_map t (λ h. h.runs));
}

pub meet_sure : (w : Web) → ∥ Meet w ∥₁ → Meet w
meet_sure w t = record {
  fed = λ node outlet i h e. sure (listed_decided hops_decided _ _) (∥∥₁_map t (λ m. m.fed node outlet i h e));
  fanned = λ node inlet i h e. sure (listed_decided hops_decided _ _) (∥∥₁_map t (λ m. m.fanned node inlet i h e));
}

-- ---- what an edit of a box asks of a patch

-- boxes can come and go
pub record IsReady (p : Patch) : Type 0 where
  pub puts : CanPut p
  pub meet : Meet p.web

pub ready_sure : (p : Patch) → ∥ CanPut p ∥₁ → ∥ Meet p.web ∥₁ → IsReady p
ready_sure p puts meet = record { puts = puts_sure p puts; meet = meet_sure p.web meet }

pub within_sure : (n : Counts) → ∥ AreWithin n ∥₁ → AreWithin n
within_sure n t = record {
  boxes = few_sure _ _ (∥∥₁_map t (λ h. h.boxes));
  wires = few_sure _ _ (∥∥₁_map t (λ h. h.wires));
  sound = few_sure _ _ (∥∥₁_map t (λ h. h.sound));
  zeros = few_sure _ _ (∥∥₁_map t (λ h. h.zeros));
}

-- ---- what an edit asks of patches that are alike

-- boxes can come and go, wires are counted, and the patch's own `$0` is one that it may be
pub record IsKept (p : Patch) (counts : Counts) : Type 0 where
  pub puts : ∥ CanPut p ∥₁
  pub meet : ∥ Meet p.web ∥₁
  pub counted : counts.wires ≡ wires_told p.web
  pub zero : own_zero p ≤ 1000000000

zero_same : (p q : Patch) → q.grove.boards ≡ p.grove.boards → q.grove.root ≡ p.grove.root → own_zero q ≡ own_zero p
zero_same p q boards root = ap (λ (b : Slab Board). zero_in (get b q.grove.root)) boards ∙ ap (λ (r : ℕ). zero_in (get p.grove.boards r)) root

alike_kept : (p q : Patch) (counts : Counts) → AreAlike p q → q.grove.root ≡ p.grove.root → IsKept p counts → IsKept q counts
alike_kept p q counts a root k = record {
  puts = ∥∥₁_map k.puts (λ h. put_alike p q a root h);
  meet = subst (λ (w : Web). ∥ Meet w ∥₁) (sym a.web) k.meet;
  counted = k.counted ∙ ap wires_told (sym a.web);
  zero = subst (λ (n : ℕ). n ≤ 1000000000) (sym (zero_same p q a.boards root)) k.zero;
}

pub net_kept : (p q : Patch) (counts : Counts) → net_of q ≡ net_of p → IsKept p counts → IsKept q counts
net_kept p q counts e k =
    alike_kept p q counts (record {
      nodes = λ j. ap (λ (n : Net). n.nodes j) e;
      boards = ap (λ (n : Net). n.boards) e;
      web = ap (λ (n : Net). n.web) e;
      links = ap (λ (n : Net). n.links) e;
      orders = ap (λ (n : Net). n.orders) e;
      numbers = ap (λ (n : Net). n.numbers) e;
    }) (ap (λ (n : Net). n.root) e) k

pub block_kept : (p q : Patch) (counts : Counts) → block.net_of q ≡ block.net_of p → IsKept p counts → IsKept q counts
block_kept p q counts e k =
    alike_kept p q counts (record {
      nodes = λ j. ap (λ (n : block.Net). n.nodes j) e;
      boards = ap (λ (n : block.Net). n.boards) e;
      web = ap (λ (n : block.Net). n.web) e;
      links = ap (λ (n : block.Net). n.links) e;
      orders = ap (λ (n : block.Net). n.orders) e;
      numbers = ap (λ (n : block.Net). n.numbers) e;
    }) (ap (λ (n : block.Net). n.root) e) k

-- the boxes are the same, and so is the rest
tree_alike : (p q : Patch) → q.grove ≡ p.grove → q.web ≡ p.web → q.links ≡ p.links → q.orders ≡ p.orders → q.numbers ≡ p.numbers → AreAlike p q
tree_alike p q tree web links orders numbers = record {
  nodes = λ j. ap (λ (g : Grove). bare (get g.nodes j)) tree;
  boards = ap (λ (g : Grove). g.boards) tree;
  web = web;
  links = links;
  orders = orders;
  numbers = numbers;
}

pub now_kept : (p q : Patch) (counts : Counts) → AllButTime p q → IsKept p counts → IsKept q counts
now_kept p q counts h k = alike_kept p q counts (tree_alike p q h.tree h.web h.links h.orders h.numbers) (ap (λ (g : Grove). g.root) h.tree) k

pub clock_kept : (p q : Patch) (counts : Counts) → q.grove ≡ p.grove → RestStays p q → IsKept p counts → IsKept q counts
clock_kept p q counts tree h k = alike_kept p q counts (tree_alike p q tree h.web h.links h.orders h.numbers) (ap (λ (g : Grove). g.root) tree) k

-- an edit of wires keeps the boxes
pub wired_kept : (p q : Patch) (counts counts' : Counts) → q.grove ≡ p.grove → CanRewire q → (Meet p.web → Meet q.web) → counts'.wires ≡ wires_told q.web → IsKept p counts → IsKept q counts'
wired_kept p q counts counts' grove now meet counted k = record {
  puts = ∥∥₁_map k.puts (λ h. put_rewired p q grove now h);
  meet = ∥∥₁_map k.meet meet;
  counted = counted;
  zero = subst (λ (g : Grove). zero_in (get g.boards g.root) ≤ 1000000000) (sym grove) k.zero;
}

-- files that are known stay proper where names come
pub found_more : (names more : Names) (files : List (ℕ × Answer)) → Extends names more → IsTable names → IsTable more → ∥ AreProper names files ∥₁ → ∥ AreProper more files ∥₁
found_more names more files x before after t = ∥∥₁_map t (λ h. still_found names more x before after files h)

-- a record that is read only adds names
pub read_more : (r : Option (ℤ × Script)) (names after : Names) (tokens : List (List ℕ))
    → ((ms : ℤ) (s : Script) → command_of names tokens ≡ Some (ms, s, after) → Extends names after)
    → Gives (λ x. (x.0, x.1, after)) r (command_of names tokens) → IfNone r (after ≡ names) → Extends names after
read_more None names after tokens law exact same = subst (λ (n : Names). Extends names n) (sym same) (extends_same names)
read_more (Some x) names after tokens law exact same = law x.0 x.1 exact
