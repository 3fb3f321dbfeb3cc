-- Who owns a bus, a sum or a delay line is a box that keeps one, as long as under each name stand its owners and boxes keep what is of their kinds.
use Rattle.std.proofs.Common.{◌≡◌, ℕ, ℤ, Bool, true, false, ◌&&◌, nat_eq, List, [], ◌∷◌, Option, Some, None, IfSome, IsSome, option_map, option_and_then, is_some, refl, sym, ap, subst, ◌∙◌, true≢false}
use Rattle.std.proofs.lemmas.Option.{none-some, same_Some}
use Rattle.std.specs.List.{AllByRecursion, filter}
use Rattle.slab.specs.Slab.{get}
use Rattle.pd_atom.specs.Names.{Names}
use Rattle.pd_clock.specs.declared.times.Rate.TheVariants.{R44100}
use Rattle.pd_name.specs.declared.Class.{Class}
use Rattle.pd_name.specs.declared.Class.TheVariants.{Receiver, Table, Catch, Bus, Delay}
use Rattle.pd_name.specs.Rows.{Row, same_class, owners_of}
use Rattle.pd_object.specs.declared.kinds.Kind.{Kind}
use Rattle.pd_object.specs.declared.kinds.Kind.TheVariants as kind
use Rattle.pd_object.specs.declared.kinds.Glue.{Glue}
use Rattle.pd_object.specs.declared.kinds.Glue.TheVariants as glue
use Rattle.pd_object.specs.declared.kinds.Panel.{Panel}
use Rattle.pd_object.specs.declared.kinds.Panel.TheVariants as panel
use Rattle.pd_object.specs.declared.kinds.Spelling.{Spelling}
use Rattle.pd_object.specs.declared.kinds.Signal.{Signal}
use Rattle.pd_object.specs.declared.kinds.Signal.TheVariants as signal
use Rattle.pd_naming.specs.Naming.{name_at}
use Rattle.pd_kind.specs.declared.states.State.{State}
use Rattle.pd_kind.specs.declared.states.State.TheVariants as state
use Rattle.pd_kind.specs.Fit.{blank}
use Rattle.pd_kind.specs.States.{start_of}
use Rattle.pd_tree.specs.Trees.{Cell}
use Rattle.pd_grove.specs.declared.grove.Grove.{Grove}
use Rattle.pd_grove.specs.declared.nodes.Node.{Node}
use Rattle.pd_grove.specs.declared.spots.Spot.{Spot}
use Rattle.pd_grove.specs.Standing.{node_seen}
use Rattle.pd_grove.specs.TextOrder.{is_sub, keys_of_spots, spots_in_order}
use Rattle.pd_grove.specs.Telling.{keys_in, kind_in}
use Rattle.pd_grove.proofs.SpotLemmas.{spots_live}
use Rattle.pd_bind.specs.Naming.{Owned, owned, receive_name, glue_owned, signal_owned, panel_owned, canvas_owned, canvas_symbol, subpatch_symbol, owned_by_kind, owned_by}
use Rattle.pd_bind.specs.Owning.{root_owner, is_owned, owned_at, boxes_owning, owner_if, root_owning, owners_in}
use Rattle.pd_block.specs.Blocks.{first_owner, owner_of}
use Rattle.pd_guards.proofs.FactLemmas.{either, either_by, all-append, all-at}
use Rattle.pd_sized.specs.Sizes.{LooksAtSignal, LooksAt, Finds, Serves}
use Rattle.pd_sized.specs.Alike.{IsAlike}
use Rattle.pd_sized.specs.Kinds.{blank_of, KeepsOfKind}
use Rattle.pd_sized.proofs.OwnerLemmas.{looks_first}

-- the kind of a box that owns a name in a class of signals
abbrev IsOwner : Class → Kind → Type 0
IsOwner Bus (kind.Signal (signal.Send w m)) = Unit {0}
IsOwner Catch (kind.Signal (signal.Catch m)) = Unit {0}
IsOwner Delay (kind.Signal (signal.Delwrite m time)) = Unit {0}
IsOwner Receiver k = Unit {0}
IsOwner Table k = Unit {0}
IsOwner class k = ⊥

never : (b : Bool) → b ≡ false → b ≡ true → ⊥
never b e h = true≢false (sym h ∙ e)

-- what is owned in one class is owned in no other
other_class : (a b : Class) (name : ℕ) (o : Option ℕ) → same_class a b ≡ false → is_owned a name (owned b o) ≡ true → ⊥
other_class a b name None e h = never false refl h
other_class a b name (Some m) e h = never (same_class a b && nat_eq name m) (ap (λ (x : Bool). x && nat_eq name m) e) h

module _ (names : Names) (class : Class) (r : same_class class Receiver ≡ false) (t : same_class class Table ≡ false) (name : ℕ) where
  glue_never : (g : Glue) → is_owned class name (glue_owned names g) ≡ true → ⊥
  glue_never (glue.Receive w m) h = other_class class Receiver name m r h
  glue_never (glue.FloatBox text) h = other_class class Receiver name (receive_name names text) r h
  glue_never (glue.SymbolBox text) h = other_class class Receiver name (receive_name names text) r h
  glue_never (glue.Table m size) h = other_class class Table name m t h
  glue_never (glue.Array text values) h = other_class class Table name (name_at text 0) t h
  glue_never g h = never false refl h

  panel_never : (p : Panel) → is_owned class name (panel_owned p) ≡ true → ⊥
  panel_never (panel.Bng b) h = other_class class Receiver name b.receive r h
  panel_never (panel.Tgl b) h = other_class class Receiver name b.receive r h

  canvas_never : (top : Bool) (c : Cell) → is_owned class name (canvas_owned names top c) ≡ true → ⊥
  canvas_never top c =
      either (λ (o : Option Owned). is_owned class name o ≡ true → ⊥) (top && is_sub c.head.form) (owned Receiver (subpatch_symbol names c.text)) None
      (λ h. other_class class Receiver name (subpatch_symbol names c.text) r h) (λ h. never false refl h)

-- a box of these kinds owns a name in its class
catch_told : (class : Class) (name : ℕ) (m : Option ℕ) → is_owned class name (owned Catch m) ≡ true → IsOwner class (kind.Signal (signal.Catch m))
catch_told Receiver name m h = tt
catch_told Table name m h = tt
catch_told Catch name m h = tt
catch_told Bus name m h = absurd (other_class Bus Catch name m refl h)
catch_told Delay name m h = absurd (other_class Delay Catch name m refl h)

bus_told : (class : Class) (name : ℕ) (m : Option ℕ) (w : Spelling) → is_owned class name (owned Bus m) ≡ true → IsOwner class (kind.Signal (signal.Send w m))
bus_told Receiver name m w h = tt
bus_told Table name m w h = tt
bus_told Bus name m w h = tt
bus_told Catch name m w h = absurd (other_class Catch Bus name m refl h)
bus_told Delay name m w h = absurd (other_class Delay Bus name m refl h)

delay_told : (class : Class) (name : ℕ) (m : Option ℕ) (time : ℤ) → is_owned class name (owned Delay m) ≡ true → IsOwner class (kind.Signal (signal.Delwrite m time))
delay_told Receiver name m time h = tt
delay_told Table name m time h = tt
delay_told Delay name m time h = tt
delay_told Catch name m time h = absurd (other_class Catch Delay name m refl h)
delay_told Bus name m time h = absurd (other_class Bus Delay name m refl h)

signal_told : (class : Class) (name : ℕ) (g : Signal) → is_owned class name (signal_owned g) ≡ true → IsOwner class (kind.Signal g)
signal_told class name (signal.Catch m) h = catch_told class name m h
signal_told class name (signal.Send w m) h = bus_told class name m w h
signal_told class name (signal.Delwrite m time) h = delay_told class name m time h
signal_told class name g h = absurd (never false refl h)

module _ (names : Names) (class : Class) (r : same_class class Receiver ≡ false) (t : same_class class Table ≡ false) (name : ℕ) where
  kind_told : (top : Bool) (c : Cell) (k : Kind) → is_owned class name (owned_by_kind names top c k) ≡ true → IsOwner class k
  kind_told top c (kind.Glue g) h = absurd (glue_never names class r t name g h)
  kind_told top c (kind.Signal g) h = signal_told class name g h
  kind_told top c (kind.Panel p) h = absurd (panel_never names class r t name p h)
  kind_told top c kind.Canvas h = absurd (canvas_never names class r t name top c h)
  kind_told top c k h = absurd (never false refl h)

  node_told : (top : Bool) (o : Option Node) → is_owned class name (option_and_then (λ c. owned_by names top c) (option_map (λ (n : Node). (node_seen n).cell) o)) ≡ true → IfSome (kind_in o) (IsOwner class)
  node_told top None h = tt
  node_told top (Some n) h = kind_told top (node_seen n).cell n.kind h

  module _ (nodes : ℕ → Option Node) where
    abbrev IsOwnerAt : ℕ → Type 0
    IsOwnerAt k = IfSome (kind_in (nodes k)) (IsOwner class)

    spots_told : (spots : List Spot) → AllByRecursion IsOwnerAt (boxes_owning names nodes class name spots)
    spots_told [] = tt
    spots_told (p ∷ spots) =
        either_by (λ (ps : List Spot). AllByRecursion IsOwnerAt (keys_of_spots ps)) (is_owned class name (owned_at names nodes p)) (p ∷ filter (λ q. is_owned class name (owned_at names nodes q)) spots)
        (filter (λ q. is_owned class name (owned_at names nodes q)) spots) (λ e. (node_told p.is_top (nodes p.node) e, spots_told spots)) (λ e. spots_told spots)

    owner_told : (b : Bool) (k : ℕ) → (b ≡ true → ⊥) → AllByRecursion IsOwnerAt (owner_if b k)
    owner_told true k n = absurd (n refl)
    owner_told false k n = tt

  owners_told : (file : List ℕ) (g : Grove) → AllByRecursion (IsOwnerAt (get g.nodes)) (owners_in names file g class name)
  owners_told file g =
      all-append (IsOwnerAt (get g.nodes)) (root_owning names file class name) (boxes_owning names (get g.nodes) class name (spots_in_order g))
      (owner_told (get g.nodes) (is_owned class name (owned Receiver (canvas_symbol names file))) root_owner (other_class class Receiver name (canvas_symbol names file) r))
      (spots_told (get g.nodes) (spots_in_order g))

-- a box looks at objects, whatever their values
to_blank : (g : Signal) (s : State) → LooksAtSignal g s → LooksAtSignal g (blank s)
to_blank (signal.Receive w name) (state.SignalSend held block) l = tt
to_blank (signal.Throw name) (state.Catch sum) l = tt
to_blank (signal.Delread name time) (state.Delwrite held values next ran) l = tt
to_blank g s l = absurd l

from_blank : (g : Signal) (s : State) → LooksAtSignal g (blank s) → LooksAtSignal g s
from_blank (signal.Receive w name) (state.SignalSend held block) l = tt
from_blank (signal.Throw name) (state.Catch sum) l = tt
from_blank (signal.Delread name time) (state.Delwrite held values next ran) l = tt
from_blank g s l = absurd l

looks_on : (k : Kind) (s t : State) → IsAlike s t → LooksAt k s → LooksAt k t
looks_on (kind.Signal g) s t e l = from_blank g t (subst (λ (x : State). LooksAtSignal g x) (sym e) (to_blank g s l))
looks_on k s t e l = absurd l

-- what serves a box, and keeps what is of its kind, keeps what the box looks at
finds_of_kind : (k : Kind) (j : Option Kind) (s : Option State) → option_map blank s ≡ option_map blank_of j → IsSome j → IfSome j (Serves k) → Finds k s
finds_of_kind k None s e there serves = absurd (true≢false (sym there))
finds_of_kind k (Some j) None e there serves = absurd (none-some (blank_of j) e)
finds_of_kind k (Some j) (Some s) e there serves = (refl, looks_on k (start_of j R44100) s (same_Some (blank s) (blank_of j) e) (looks_first k j serves))

-- the boxes that own a name are there, in a class that no canvas has
keys_kept : (P : ℕ → Type 0) (f : Spot → Bool) (spots : List Spot) → AllByRecursion P (keys_of_spots spots) → AllByRecursion P (keys_of_spots (filter f spots))
keys_kept P f [] h = tt
keys_kept P f (x ∷ xs) h =
    let rest : AllByRecursion P (keys_of_spots (filter f xs)) = keys_kept P f xs h.1 in
    either (λ (l : List Spot). AllByRecursion P (keys_of_spots l)) (f x) (x ∷ filter f xs) (filter f xs) (h.0, rest) rest

no_root : (P : ℕ → Type 0) (class : Class) (name : ℕ) (m : Option ℕ) → same_class class Receiver ≡ false → AllByRecursion P (owner_if (is_owned class name (owned Receiver m)) root_owner)
no_root P class name None r = tt
no_root P class name (Some m) r = subst (λ (b : Bool). AllByRecursion P (owner_if (b && nat_eq name m) root_owner)) (sym r) tt

-- where under each name stand its owners
module _ (g : Grove) (rows : List Row) (names : Names) (file : List ℕ) (owned_so : (class : Class) (name : ℕ) → owners_of rows class name ≡ owners_in names file g class name) where
  first_told : (class : Class) → same_class class Receiver ≡ false → same_class class Table ≡ false → (m : Option ℕ) (o : ℕ) → first_owner rows class m ≡ Some o
      → IfSome (kind_in (get g.nodes o)) (IsOwner class)
  first_told class r t None o e = absurd (true≢false (sym (ap (λ (x : Option ℕ). is_some x) e)))
  first_told class r t (Some name) o e =
      let all : AllByRecursion (IsOwnerAt names class r t name (get g.nodes)) (owners_of rows class name) =
      subst (λ (xs : List ℕ). AllByRecursion (IsOwnerAt names class r t name (get g.nodes)) xs) (sym (owned_so class name)) (owners_told names class r t name file g) in
      subst (λ (x : Option ℕ). IfSome x (IsOwnerAt names class r t name (get g.nodes))) e (all-at (IsOwnerAt names class r t name (get g.nodes)) (owners_of rows class name) 0 all)

  -- what owns the name serves the box that looks for it
  bus_serves : (w : Spelling) (m : Option ℕ) (k : Option Kind) → IfSome k (IsOwner Bus) → IfSome k (Serves (kind.Signal (signal.Receive w m)))
  bus_serves w m None h = tt
  bus_serves w m (Some (kind.Signal (signal.Send v n))) h = tt
  bus_serves w m (Some k) h = absurd h

  catch_serves : (m : Option ℕ) (k : Option Kind) → IfSome k (IsOwner Catch) → IfSome k (Serves (kind.Signal (signal.Throw m)))
  catch_serves m None h = tt
  catch_serves m (Some (kind.Signal (signal.Catch n))) h = tt
  catch_serves m (Some k) h = absurd h

  delay_serves : (m : Option ℕ) (time : ℤ) (k : Option Kind) → IfSome k (IsOwner Delay) → IfSome k (Serves (kind.Signal (signal.Delread m time)))
  delay_serves m time None h = tt
  delay_serves m time (Some (kind.Signal (signal.Delwrite n size))) h = tt
  delay_serves m time (Some k) h = absurd h

  no_owner : (o : ℕ) → None ≡ Some o → ⊥
  no_owner o e = true≢false (sym (ap (λ (x : Option ℕ). is_some x) e))

  signal_serves : (t : Signal) (o : ℕ) → owner_of rows (kind.Signal t) ≡ Some o → IfSome (kind_in (get g.nodes o)) (Serves (kind.Signal t))
  signal_serves (signal.Receive w m) o e = bus_serves w m (kind_in (get g.nodes o)) (first_told Bus refl refl m o e)
  signal_serves (signal.Throw m) o e = catch_serves m (kind_in (get g.nodes o)) (first_told Catch refl refl m o e)
  signal_serves (signal.Delread m time) o e = delay_serves m time (kind_in (get g.nodes o)) (first_told Delay refl refl m o e)
  signal_serves t o e = absurd (no_owner o e)

  owner_serves : (k : Kind) (o : ℕ) → owner_of rows k ≡ Some o → IfSome (kind_in (get g.nodes o)) (Serves k)
  owner_serves (kind.Signal t) o e = signal_serves t o e
  owner_serves k o e = absurd (no_owner o e)

  -- the boxes that own such a name are there
  abbrev IsThere : ℕ → Type 0
  IsThere k = IsSome (get g.nodes k)

  owners_there : (class : Class) (name : ℕ) → same_class class Receiver ≡ false → AllByRecursion IsThere (owners_of rows class name)
  owners_there class name r =
      let nodes = get g.nodes in
      subst (AllByRecursion IsThere) (sym (owned_so class name))
      (all-append IsThere (root_owning names file class name) (boxes_owning names nodes class name (spots_in_order g)) (no_root IsThere class name (canvas_symbol names file) r)
      (keys_kept IsThere (λ q. is_owned class name (owned_at names nodes q)) (spots_in_order g) (spots_live nodes (get g.boards) 257 true (keys_in (get g.boards g.root)))))

  first_there : (class : Class) → same_class class Receiver ≡ false → (m : Option ℕ) (o : ℕ) → first_owner rows class m ≡ Some o → IsThere o
  first_there class r None o e = absurd (none-some o e)
  first_there class r (Some name) o e = subst (λ (x : Option ℕ). IfSome x IsThere) e (all-at IsThere (owners_of rows class name) 0 (owners_there class name r))

  signal_there : (t : Signal) (o : ℕ) → owner_of rows (kind.Signal t) ≡ Some o → IsThere o
  signal_there (signal.Receive w m) o e = first_there Bus refl m o e
  signal_there (signal.Throw m) o e = first_there Catch refl m o e
  signal_there (signal.Delread m time) o e = first_there Delay refl m o e
  signal_there t o e = absurd (none-some o e)

  owner_there : (k : Kind) (o : ℕ) → owner_of rows k ≡ Some o → IsThere o
  owner_there (kind.Signal t) o e = signal_there t o e
  owner_there k o e = absurd (none-some o e)

  node_kind : (o : Option Node) → IsSome o → IsSome (kind_in o)
  node_kind None h = h
  node_kind (Some n) h = refl

  -- it keeps what the box looks at as long as what it keeps is of its kind
  pub owner_finds : (states : ℕ → Option State) → KeepsOfKind (λ j. kind_in (get g.nodes j)) states → (k : Kind) (o : ℕ) → owner_of rows k ≡ Some o → Finds k (states o)
  owner_finds states kept k o e =
      finds_of_kind k (kind_in (get g.nodes o)) (states o) (kept o) (node_kind (get g.nodes o) (owner_there k o e)) (owner_serves k o e)
