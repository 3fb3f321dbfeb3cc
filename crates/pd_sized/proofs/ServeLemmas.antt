-- Who owns a bus, a sum or a delay line goes on keeping one.
use Rattle.std.proofs.Common.{◌≡◌, ℕ, Bool, true, false, ◌&&◌, nat_eq, List, [], ◌∷◌, Option, Some, None, IfSome, IsSome, option_map, refl, sym, subst, true≢false}
use Rattle.std.proofs.lemmas.Option.{none-some, same_Some}
use Rattle.std.specs.List.{AllByRecursion, filter}
use Rattle.slab.specs.Slab.{get}
use Rattle.pd_atom.specs.Names.{Names}
use Rattle.pd_clock.specs.declared.times.Rate.{Rate}
use Rattle.pd_clock.specs.declared.times.Rate.TheVariants.{R44100}
use Rattle.pd_name.specs.declared.Class.{Class}
use Rattle.pd_name.specs.declared.Class.TheVariants.{Receiver, Catch, Bus, Delay}
use Rattle.pd_name.specs.Rows.{same_class, owners_of}
use Rattle.pd_object.specs.declared.kinds.Kind.{Kind}
use Rattle.pd_object.specs.declared.kinds.Kind.TheVariants as kind
use Rattle.pd_object.specs.declared.kinds.Signal.{Signal}
use Rattle.pd_object.specs.declared.kinds.Signal.TheVariants as signal
use Rattle.pd_kind.specs.declared.states.State.{State}
use Rattle.pd_kind.specs.declared.states.State.TheVariants as state
use Rattle.pd_kind.specs.Fit.{blank}
use Rattle.pd_kind.specs.States.{start_of}
use Rattle.pd_grove.specs.declared.nodes.Node.{Node}
use Rattle.pd_grove.specs.declared.spots.Spot.{Spot}
use Rattle.pd_grove.specs.TextOrder.{keys_of_spots, spots_in_order}
use Rattle.pd_grove.specs.Telling.{keys_in, kind_in}
use Rattle.pd_grove.proofs.SpotLemmas.{spots_live}
use Rattle.pd_bind.specs.Naming.{owned, canvas_symbol}
use Rattle.pd_bind.specs.Owning.{root_owner, is_owned, owned_at, boxes_owning, owner_if, root_owning}
use Rattle.pd_patch.specs.declared.patch.Patch.{Patch}
use Rattle.pd_patch.specs.Built.{IsBuilt}
use Rattle.pd_patch.specs.Grown.{IsFresh}
use Rattle.pd_patch.proofs.BuiltLemmas.{is_built}
use Rattle.pd_block.specs.Nets.{states_of}
use Rattle.pd_block.specs.Blocks.{first_owner, owner_of}
use Rattle.pd_guards.proofs.FactLemmas.{either, all-append, all-at}
use Rattle.pd_sized.specs.Sizes.{LooksAtSignal, LooksAt, Finds, Serves}
use Rattle.pd_sized.specs.Alike.{IsAlike, AreAlike}
use Rattle.pd_sized.specs.Kinds.{kinds_of, blank_of, KeepsOfKind}
use Rattle.pd_sized.proofs.KindLemmas.{made_of_kind}
use Rattle.pd_sized.proofs.OwnerLemmas.{owner_serves, looks_first}

-- a box looks at objects, whatever their values
to_blank : (g : Signal) (s : State) → LooksAtSignal g s → LooksAtSignal g (blank s)
to_blank (signal.Receive w name) (state.SignalSend held block) l = tt
to_blank (signal.Throw name) (state.Catch sum) l = tt
to_blank (signal.Delread name time) (state.Delwrite held values next ran) l = tt
to_blank g s l = absurd l

from_blank : (g : Signal) (s : State) → LooksAtSignal g (blank s) → LooksAtSignal g s
from_blank (signal.Receive w name) (state.SignalSend held block) l = tt
from_blank (signal.Throw name) (state.Catch sum) l = tt
from_blank (signal.Delread name time) (state.Delwrite held values next ran) l = tt
from_blank g s l = absurd l

looks_on : (k : Kind) (s t : State) → IsAlike s t → LooksAt k s → LooksAt k t
looks_on (kind.Signal g) s t e l = from_blank g t (subst (λ (x : State). LooksAtSignal g x) (sym e) (to_blank g s l))
looks_on k s t e l = absurd l

some_looks : (k : Kind) (old new : Option State) → option_map blank new ≡ option_map blank old → IfSome old (LooksAt k) → IfSome new (LooksAt k)
some_looks k old None e l = tt
some_looks k None (Some t) e l = absurd (none-some (blank t) (sym e))
some_looks k (Some s) (Some t) e l = looks_on k s t (same_Some (blank t) (blank s) e) l

some_stays : (old new : Option State) → option_map blank new ≡ option_map blank old → IsSome old → IsSome new
some_stays old (Some t) e h = refl
some_stays None None e h = h
some_stays (Some s) None e h = absurd (none-some (blank s) e)

pub goes_on : (k : Kind) (old new : ℕ → Option State) (o : ℕ) → AreAlike old new → Finds k (old o) → Finds k (new o)
goes_on k old new o a h = (some_stays (old o) (new o) (a o) h.0, some_looks k (old o) (new o) (a o) h.1)

-- what serves a box, and keeps what is of its kind, keeps what the box looks at
finds_of_kind : (k : Kind) (j : Option Kind) (s : Option State) → option_map blank s ≡ option_map blank_of j → IsSome j → IfSome j (Serves k) → Finds k s
finds_of_kind k None s e there serves = absurd (true≢false (sym there))
finds_of_kind k (Some j) None e there serves = absurd (none-some (blank_of j) e)
finds_of_kind k (Some j) (Some s) e there serves = (refl, looks_on k (start_of j R44100) s (same_Some (blank s) (blank_of j) e) (looks_first k j serves))

-- the boxes that own a name are there, in a class that no canvas has
keys_kept : (P : ℕ → Type 0) (f : Spot → Bool) (spots : List Spot) → AllByRecursion P (keys_of_spots spots) → AllByRecursion P (keys_of_spots (filter f spots))
keys_kept P f [] h = tt
keys_kept P f (x ∷ xs) h =
    let rest : AllByRecursion P (keys_of_spots (filter f xs)) = keys_kept P f xs h.1 in
    either (λ (l : List Spot). AllByRecursion P (keys_of_spots l)) (f x) (x ∷ filter f xs) (filter f xs) (h.0, rest) rest

no_root : (P : ℕ → Type 0) (class : Class) (name : ℕ) (m : Option ℕ) → same_class class Receiver ≡ false → AllByRecursion P (owner_if (is_owned class name (owned Receiver m)) root_owner)
no_root P class name None r = tt
no_root P class name (Some m) r = subst (λ (b : Bool). AllByRecursion P (owner_if (b && nat_eq name m) root_owner)) (sym r) tt

module _ (p : Patch) (names : Names) (file : List ℕ) (rate : Rate) (built : IsBuilt p names file rate) where
  abbrev IsThere : ℕ → Type 0
  IsThere k = IsSome (get p.grove.nodes k)

  owners_there : (class : Class) (name : ℕ) → same_class class Receiver ≡ false → AllByRecursion IsThere (owners_of p.names class name)
  owners_there class name r =
      let nodes = get p.grove.nodes in
      subst (AllByRecursion IsThere) (sym (built.owners class name))
      (all-append IsThere (root_owning names file class name) (boxes_owning names nodes class name (spots_in_order p.grove)) (no_root IsThere class name (canvas_symbol names file) r)
      (keys_kept IsThere (λ q. is_owned class name (owned_at names nodes q)) (spots_in_order p.grove) (spots_live nodes (get p.grove.boards) 257 true (keys_in (get p.grove.boards p.grove.root)))))

  first_there : (class : Class) → same_class class Receiver ≡ false → (m : Option ℕ) (o : ℕ) → first_owner p.names class m ≡ Some o → IsThere o
  first_there class r None o e = absurd (none-some o e)
  first_there class r (Some name) o e = subst (λ (x : Option ℕ). IfSome x IsThere) e (all-at IsThere (owners_of p.names class name) 0 (owners_there class name r))

  signal_there : (g : Signal) (o : ℕ) → owner_of p.names (kind.Signal g) ≡ Some o → IsThere o
  signal_there (signal.Receive w m) o e = first_there Bus refl m o e
  signal_there (signal.Throw m) o e = first_there Catch refl m o e
  signal_there (signal.Delread m time) o e = first_there Delay refl m o e
  signal_there g o e = absurd (none-some o e)

  owner_there : (k : Kind) (o : ℕ) → owner_of p.names k ≡ Some o → IsThere o
  owner_there (kind.Signal g) o e = signal_there g o e
  owner_there k o e = absurd (none-some o e)

  node_kind : (o : Option Node) → IsSome o → IsSome (kind_in o)
  node_kind None h = h
  node_kind (Some n) h = refl

  -- it keeps what the box looks at as long as what it keeps is of its kind
  pub owner_finds : (states : ℕ → Option State) → KeepsOfKind (kinds_of p) states → (k : Kind) (o : ℕ) → owner_of p.names k ≡ Some o → Finds k (states o)
  owner_finds states kept k o e =
      finds_of_kind k (kind_in (get p.grove.nodes o)) (states o) (kept o) (node_kind (get p.grove.nodes o) (owner_there k o e)) (owner_serves p names file rate built k o e)

pub owner_found : (p : Patch) (names : Names) (file : List ℕ) (rate : Rate) → IsFresh p names file rate → (k : Kind) (o : ℕ) → owner_of p.names k ≡ Some o → Finds k (states_of p o)
owner_found p names file rate fresh k o e = owner_finds p names file rate (is_built p names file rate fresh) (states_of p) (made_of_kind p rate 0 fresh.states) k o e
