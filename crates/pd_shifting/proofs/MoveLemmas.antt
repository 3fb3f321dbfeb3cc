-- A patch of which a box stands at another place.
use Rattle.std.proofs.Common.{◌≡◌, ℕ, suc, ℤ, Bool, true, false, cond, ◌&&◌, ◌||◌, is_some, List, [], ◌∷◌, map, slice_get, Option, Some, None, IsSome, inl, inr, refl, sym, ap, ◌∙◌, subst, ◌≢◌}
use Rattle.std.specs.Prelude.{◌⊎◌, Result, Ok, Err, IfOk, IfErr, option_map}
use Rattle.std.specs.List.{AllByRecursion}
use Rattle.std.proofs.lemmas.Option.{none-some, same_Some}
use mathlib.Core.Logic.{⊎_elim}
use Rattle.std.proofs.lemmas.Bool.{cases_eq}
use Rattle.slab.specs.Slab.{Slab, get}
use Rattle.pd_object.specs.declared.kinds.Kind.{Kind}
use Rattle.pd_object.specs.Ports.{IsSmallKind}
use Rattle.pd_order.specs.Graph.{IsOrder}
use Rattle.pd_order.specs.Listing.{Listing}
use Rattle.pd_order.proofs.Basics.{by_test}
use Rattle.pd_chain.specs.Wires.{graph_of}
use Rattle.pd_grove.specs.declared.boards.Board.{Board}
use Rattle.pd_grove.specs.declared.grove.Grove.{Grove}
use Rattle.pd_grove.specs.declared.nodes.Node.{Node}
use Rattle.pd_grove.specs.declared.ports.PortSpot.{PortSpot}
use Rattle.pd_grove.specs.declared.ports.Side.{Side}
use Rattle.pd_grove.specs.declared.ports.Side.TheVariants.{Inlets, Outlets}
use Rattle.pd_grove.specs.Forest.{IsForest, holder_in}
use Rattle.pd_grove.specs.OwnPaths.{sub_reached}
use Rattle.pd_grove.specs.Owning.{board_in}
use Rattle.pd_grove.specs.Ports.{port_signal, ports_among, spot_at, spot_by, with_spot}
use Rattle.pd_grove.specs.Refits.{at_place, Alters}
use Rattle.pd_grove.specs.Standing.{depth_of}
use Rattle.pd_grove.specs.Telling.{inner_in, keys_in, kind_in}
use Rattle.pd_grove.proofs.OpenLemmas.{forest_alike}
use Rattle.pd_bind.specs.Owning.{root_owner}
use Rattle.pd_web.specs.declared.jacks.Jack.{Jack}
use Rattle.pd_web.specs.declared.web.Hop.{Hop}
use Rattle.pd_web.specs.declared.web.Web.{Web}
use Rattle.pd_web.specs.Canvases.{keys_at}
use Rattle.pd_web.specs.Homes.{IsPortOf, inner_in as box_in}
use Rattle.pd_web.specs.Changes.{wires_told, Meet}
use Rattle.pd_web.specs.Hops.{fan_hops}
use Rattle.pd_web.specs.Jacks.{KindsSmall, spot_jack, jacks_in, jacks_at, made_in}
use Rattle.pd_web.proofs.CountLemmas.{same_are_as_many}
use Rattle.pd_patch.specs.declared.patch.Patch.{Patch}
use Rattle.pd_patch.specs.Built.{HasPorts}
use Rattle.pd_patch.specs.Linked.{StayInside, ShareCanvas}
use Rattle.pd_patch.specs.Orders.{is_signal_node, signal_among, signal_wires_among, HasOrder, AreOrdered}
use Rattle.pd_patch.specs.Telling.{order_in}
use Rattle.pd_wiring.specs.declared.refusals.EditRefusal.{EditRefusal}
use Rattle.pd_wiring.specs.declared.refusals.EditRefusal.TheVariants.{NoBox, NoMemory}
use Rattle.pd_wiring.specs.Changes.{CanRewire, SameButRoom}
use Rattle.pd_wiring.proofs.BuiltLemmas.{roomed}
use Rattle.pd_boxes.specs.Put.{CanPut}
use Rattle.pd_boxes.proofs.AskingLemmas.{put_rewired}
use Rattle.pd_following.proofs.ReserveLemmas.{meet_same}
use Rattle.pd_adding.specs.Coming.{own_zero, zero_in}
use Rattle.pd_adding.specs.Standing.{is_port_in}
use Rattle.pd_shifting.specs.Moves.{is_array_in, is_port_around, moving, moving_box, moving_in, IsNotMoved, IsShortOfRoom, MovesBox, ShiftsBox, StaysButTree}
use Rattle.pd_shifting.specs.declared.shifting.MovedBox.{MovedBox}

-- Which box moves.

ok_part : Result (ℕ × ℕ) EditRefusal → Option (ℕ × ℕ)
ok_part (Ok x) = Some x
ok_part (Err why) = None

-- the path leads to this canvas, where the box of the number has this key, and it is no array
pub record IsMoving (g : Grove) (number : ℕ) (o : Option ℕ) (canvas key : ℕ) : Type 0 where
  pub leads : o ≡ Some canvas
  pub is : slice_get (keys_at g canvas) number ≡ Some key
  pub no_array : is_array_in (get g.nodes key) ≡ false

by_array : (g : Grove) (number d j : ℕ) (a : Bool) (canvas key : ℕ) → slice_get (keys_at g d) number ≡ Some j → is_array_in (get g.nodes j) ≡ a
    → cond {A = Result (ℕ × ℕ) EditRefusal} a (Err (NoBox number)) (Ok (d, j)) ≡ Ok (canvas, key) → IsMoving g number (Some d) canvas key
unfolding ok_part
by_array g number d j true canvas key at x e = cc
by_array g number d j false canvas key at x e =
    let same : (d, j) ≡ (canvas, key) = same_Some (d, j) (canvas, key) (ap ok_part e) in
    subst (λ (z : ℕ × ℕ). IsMoving g number (Some d) z.0 z.1) same (record { leads = refl; is = at; no_array = x })

by_box : (g : Grove) (number d : ℕ) (o : Option ℕ) (canvas key : ℕ) → slice_get (keys_at g d) number ≡ o → moving_box g d number o ≡ Ok (canvas, key) → IsMoving g number (Some d) canvas key
by_box g number d None canvas key at e = cc
by_box g number d (Some j) canvas key at e = by_array g number d j (is_array_in (get g.nodes j)) canvas key at refl e

pub is_moving : (g : Grove) (number : ℕ) (o : Option ℕ) (canvas key : ℕ) → moving_in g number o ≡ Ok (canvas, key) → IsMoving g number o canvas key
is_moving g number None canvas key e = cc
is_moving g number (Some d) canvas key e = by_box g number d (slice_get (keys_at g d) number) canvas key refl e

-- A box that is no port.

no_signal : (o : Option Bool) → is_some o ≡ false → o ≡ None
no_signal None h = refl
no_signal (Some a) h = cc

no_side : (k : Kind) → (is_some (port_signal Inlets k) || is_some (port_signal Outlets k)) ≡ false → (side : Side) → port_signal side k ≡ None
no_side k h Inlets = no_signal (port_signal Inlets k) (first_no (is_some (port_signal Inlets k)) (is_some (port_signal Outlets k)) h)
  where
    first_no : (a b : Bool) → (a || b) ≡ false → a ≡ false
    first_no true b e = cc
    first_no false b e = refl
no_side k h Outlets = no_signal (port_signal Outlets k) (second_no (is_some (port_signal Inlets k)) (is_some (port_signal Outlets k)) h)
  where
    second_no : (a b : Bool) → (a || b) ≡ false → b ≡ false
    second_no true b e = cc
    second_no false b e = e

-- the box is no port on any side
abbrev pub IsNoSpot : Option Node → Type 0
IsNoSpot o = (n : Node) → o ≡ Some n → (side : Side) → port_signal side n.kind ≡ None

pub no_spot : (a : Option ℕ) (o : Option Node) → (is_some a && is_port_in o) ≡ false → (a ≡ None) ⊎ IsNoSpot o
no_spot None o h = inl refl
no_spot (Some c) None h = inr (λ n e. absurd (none-some n e))
no_spot (Some c) (Some m) h = inr (λ n e side. ap (λ (x : Node). port_signal side x.kind) (sym (same_Some m n e)) ∙ no_side m.kind h side)

all_of : {X : Type 0} (P Q : X → Type 0) → ((x : X) → P x → Q x) → (xs : List X) → AllByRecursion P xs → AllByRecursion Q xs
all_of P Q f [] h = tt
all_of P Q f (x ∷ xs) h = (f x h.0, all_of P Q f xs h.1)

-- What a box tells, wherever it stands.

board_placed : (x y : ℤ) (o : Option Node) → board_in (option_map (at_place x y) o) ≡ board_in o
board_placed x y None = refl
board_placed x y (Some n) = refl

inner_placed : (x y : ℤ) (o : Option Node) → inner_in (option_map (at_place x y) o) ≡ inner_in o
inner_placed x y None = refl
inner_placed x y (Some n) = refl

kind_placed : (x y : ℤ) (o : Option Node) → kind_in (option_map (at_place x y) o) ≡ kind_in o
kind_placed x y None = refl
kind_placed x y (Some n) = refl

made_placed : (x y : ℤ) (o : Option Node) → made_in (option_map (at_place x y) o) ≡ made_in o
made_placed x y None = refl
made_placed x y (Some n) = refl

signal_placed : (x y : ℤ) (o : Option Node) → is_signal_node (option_map (at_place x y) o) ≡ is_signal_node o
signal_placed x y None = refl
signal_placed x y (Some n) = refl

jacks_placed : (side : Side) (g : Grove) (x y : ℤ) (o : Option Node) → jacks_in side g (option_map (at_place x y) o) ≡ jacks_in side g o
jacks_placed side g x y None = refl
jacks_placed side g x y (Some n) = refl

small_by : (a b : Option Node) → kind_in a ≡ kind_in b → ((n : Node) → b ≡ Some n → IsSmallKind n.kind) → (n : Node) → a ≡ Some n → IsSmallKind n.kind
small_by None b e small n is = absurd (none-some n is)
small_by (Some m) None e small n is = absurd (none-some m.kind (sym e))
small_by (Some m) (Some z) e small n is =
    subst (λ (kind : Kind). IsSmallKind kind) (sym (same_Some m.kind z.kind e) ∙ ap (λ (v : Node). v.kind) (same_Some m n is)) (small z refl)

none_by : (a b : Option Node) → kind_in a ≡ kind_in b → b ≡ None → a ≡ None
none_by None b e none = refl
none_by (Some m) None e none = absurd (none-some m.kind (sym e))
none_by (Some m) (Some n) e none = absurd (none-some n (sym none))

-- where a box is no port, it has no place among the ports, wherever it stands
spot_none : (side : Side) (k : ℕ) (o : Option Node) → IsNoSpot o → spot_at side (λ _. o) k ≡ None
spot_none side k None h = refl
spot_none side k (Some n) h = ap (spot_by k n.element.x) (h n refl side)

none_placed : (x y : ℤ) (o : Option Node) → IsNoSpot o → IsNoSpot (option_map (at_place x y) o)
none_placed x y None h n e side = absurd (none-some n e)
none_placed x y (Some m) h n e side = ap (λ (v : Node). port_signal side v.kind) (sym (same_Some (at_place x y m) n e)) ∙ h m refl side

module _ (g h : Grove) (canvas key number : ℕ) (x y : ℤ) (F : IsForest (get g.nodes) (get g.boards) g.root) (is : slice_get (keys_at g canvas) number ≡ Some key)
    (plain : (holder_in (get g.boards canvas) ≡ None) ⊎ IsNoSpot (get g.nodes key)) (A : Alters g h key (at_place x y)) where
  -- what a box tells wherever it stands, each box tells as before
  pub told_as : {X : Type 0} (f : Option Node → X) → ((o : Option Node) → f (option_map (at_place x y) o) ≡ f o) → (k : ℕ) → f (get h.nodes k) ≡ f (get g.nodes k)
  told_as f e k = ⊎_elim
      (λ (same : k ≡ key). subst (λ j. f (get h.nodes j) ≡ f (get g.nodes j)) (sym same) (ap f A.box ∙ e (get g.nodes key)))
      (λ (d : k ≢ key). ap f (A.others k d))
      (cases_eq k key)

  pub keys_as : (c : ℕ) → keys_at h c ≡ keys_at g c
  keys_as c = ap (λ (s : Slab Board). keys_in (get s c)) A.boards

  pub forest_as : IsForest (get h.nodes) (get h.boards) h.root
  forest_as = subst (λ (r : ℕ). IsForest (get h.nodes) (get h.boards) r) (sym A.root)
      (forest_alike (get g.nodes) (get h.nodes) (get g.boards) (get h.boards) g.root
      (record {
        lie = told_as board_in (board_placed x y);
        hold = told_as inner_in (inner_placed x y);
        keys = keys_as;
        holders = λ c. ap (λ (s : Slab Board). holder_in (get s c)) A.boards;
        depths = λ c. ap (λ (s : Slab Board). depth_of (get s c)) A.boards;
        live = λ c l. subst (λ (s : Slab Board). IsSome (get s c)) (sym A.boards) l;
        no_more = λ c l. subst (λ (s : Slab Board). IsSome (get s c)) A.boards l;
      })
      F)

  -- Ports.

  spot_other : (side : Side) (k : ℕ) → k ≢ key → spot_at side (get h.nodes) k ≡ spot_at side (get g.nodes) k
  spot_other side k d = ap (λ o. spot_at side (λ _. o) k) (A.others k d)

  spot_here : (side : Side) → IsNoSpot (get g.nodes key) → spot_at side (get h.nodes) key ≡ spot_at side (get g.nodes) key
  spot_here side none =
      ap (λ o. spot_at side (λ _. o) key) A.box ∙ spot_none side key (option_map (at_place x y) (get g.nodes key)) (none_placed x y (get g.nodes key) none)
      ∙ sym (spot_none side key (get g.nodes key) none)

  -- each of these boxes is the same port, or none
  ports_by : (side : Side) (ks : List ℕ) → ((i k : ℕ) → slice_get ks i ≡ Some k → spot_at side (get h.nodes) k ≡ spot_at side (get g.nodes) k)
      → ports_among side (get h.nodes) ks ≡ ports_among side (get g.nodes) ks
  ports_by side [] e = refl
  ports_by side (k ∷ ks) e =
      ap (λ (o : Option PortSpot). with_spot o (ports_among side (get h.nodes) ks)) (e 0 k refl)
      ∙ ap (λ (ps : List PortSpot). with_spot (spot_at side (get g.nodes) k) ps) (ports_by side ks (λ i. e (suc i)))

  -- a canvas that a box holds has the same ports
  ports_held : (side : Side) (k c : ℕ) → holder_in (get g.boards c) ≡ Some k → ports_among side (get h.nodes) (keys_at g c) ≡ ports_among side (get g.nodes) (keys_at g c)
  ports_held side k c holds = ports_by side (keys_at g c) (λ i j at. ⊎_elim
      (λ (same : j ≡ key). subst (λ z. spot_at side (get h.nodes) z ≡ spot_at side (get g.nodes) z) (sym same)
      (spot_here side (⊎_elim
      (λ (free : holder_in (get g.boards canvas) ≡ None). absurd (none-some k (sym free ∙ ap (λ z. holder_in (get g.boards z)) (home_of j i at same) ∙ holds)))
      (λ (none : IsNoSpot (get g.nodes key)). none)
      plain)))
      (λ (d : j ≢ key). spot_other side j d)
      (cases_eq j key))
    where
      home_of : (j i : ℕ) → slice_get (keys_at g c) i ≡ Some j → j ≡ key → canvas ≡ c
      home_of j i at same = same_Some canvas c
          (sym (F.own.home canvas number key is) ∙ ap (λ z. board_in (get g.nodes z)) (sym same) ∙ F.own.home c i j at)

  jacks_by_grove : (side : Side) (k : ℕ) (o : Option Node) → get g.nodes k ≡ o → jacks_in side h o ≡ jacks_in side g o
  jacks_by_grove side k None at = refl
  jacks_by_grove side k (Some n) at = by_inner n.inner refl
    where
      by_inner : (inner : Option ℕ) → n.inner ≡ inner → jacks_in side h (Some n) ≡ jacks_in side g (Some n)
      by_inner None e = rw e refl
      by_inner (Some c) e = rw e
          (ap (λ (ps : List PortSpot). map spot_jack ps)
          (ap (λ (ks : List ℕ). ports_among side (get h.nodes) ks) (keys_as c) ∙ ports_held side k c (F.inside k c (ap inner_in at ∙ e))))

  pub jacks_as : (side : Side) (k : ℕ) → jacks_at side h k ≡ jacks_at side g k
  jacks_as side k = told_as (jacks_in side h) (jacks_placed side h x y) k ∙ jacks_by_grove side k (get g.nodes k) refl

  pub port_back : (j k i : ℕ) → IsPortOf h j k i → IsPortOf g j k i
  port_back j k i P = record { side = P.side; told = ap (λ (js : List Jack). box_in (slice_get js i)) (sym (jacks_as P.side k)) ∙ P.told }

  pub port_too : (j k i : ℕ) → IsPortOf g j k i → IsPortOf h j k i
  port_too j k i P = record { side = P.side; told = ap (λ (js : List Jack). box_in (slice_get js i)) (jacks_as P.side k) ∙ P.told }

  pub ports_as : (w : Web) → HasPorts g w → HasPorts h w
  ports_as w P = record {
    ports = λ side k. P.ports side k ∙ sym (jacks_as side k);
    made = λ k. P.made k ∙ sym (told_as made_in (made_placed x y) k);
    homes = λ j k i e. port_too j k i (P.homes j k i e);
    homes_found = λ j k i e. P.homes_found j k i (port_back j k i e);
  }

  -- Wires and orders.

  share_as : (k j : ℕ) → ShareCanvas g k j → ShareCanvas h k j
  share_as k j s = record { canvas = s.canvas; one = rw A.boards s.one; other = rw A.boards s.other }

  pub inside_as : (w : Web) → StayInside g w → StayInside h w
  inside_as w inside k o = all_of (λ (z : Hop). ShareCanvas g k z.node) (λ (z : Hop). ShareCanvas h k z.node) (λ z s. share_as k z.node s) (fan_hops w k o) (inside k o)

  signal_as : (ks : List ℕ) → signal_among h ks ≡ signal_among g ks
  signal_as [] = refl
  signal_as (k ∷ ks) =
      let same = told_as is_signal_node (signal_placed x y) k in
      by_test (is_signal_node (get g.nodes k))
      (λ t. rw (same, t) (ap (λ (xs : List ℕ). k ∷ xs) (signal_as ks)))
      (λ f. rw (same, f) (signal_as ks))

  order_as : (w : Web) (b : Option Board) (o : Option Listing) → HasOrder g w b o → HasOrder h w b o
  order_as w None o e = e
  order_as w (Some b) None e = e
  order_as w (Some b) (Some o) e =
      subst (λ (xs : List ℕ). IsOrder (graph_of b.nodes.items (signal_wires_among w xs)) xs o.chain o.stuck) (sym (signal_as b.nodes.items)) e

  pub orders_as : (w : Web) (orders : List (Option Listing)) → AreOrdered g w orders → AreOrdered h w orders
  orders_as w orders O c =
      subst (λ (b : Option Board). HasOrder h w b (order_in orders c)) (ap (λ (s : Slab Board). get s c) (sym A.boards)) (order_as w (get g.boards c) (order_in orders c) (O c))

  pub small_as : KindsSmall g → KindsSmall h
  small_as small k n at = small_by (get h.nodes k) (get g.nodes k) (told_as kind_in (kind_placed x y) k) (λ m was. small k m was) n at

  pub none_as : (k : ℕ) → get g.nodes k ≡ None → get h.nodes k ≡ None
  none_as k none = none_by (get h.nodes k) (get g.nodes k) (told_as kind_in (kind_placed x y) k) none

-- A patch.

lives : (o : Option Node) (c : ℕ) → board_in o ≡ Some c → IsSome o
lives None c e = absurd (none-some c e)
lives (Some n) c e = refl

-- a box that moves is there
pub is_there : (p : Patch) (path : List ℕ) (number canvas key : ℕ) → CanPut p → moving p path number ≡ Ok (canvas, key) → IsSome (get p.grove.nodes key)
is_there p path number canvas key C e =
    let at = is_moving p.grove number (sub_reached p.grove (Some p.grove.root) path) canvas key e in
    lives (get p.grove.nodes key) canvas (C.forest.own.home canvas number key at.is)

pub still_rewires : (p q : Patch) (canvas key number : ℕ) (x y : ℤ) (F : IsForest (get p.grove.nodes) (get p.grove.boards) p.grove.root)
    → slice_get (keys_at p.grove canvas) number ≡ Some key → (holder_in (get p.grove.boards canvas) ≡ None) ⊎ IsNoSpot (get p.grove.nodes key)
    → Alters p.grove q.grove key (at_place x y) → StaysButTree p q → CanRewire p → CanRewire q
still_rewires p q canvas key number x y F is plain A S can = record {
  own = (forest_as p.grove q.grove canvas key number x y F is plain A).own;
  ports = subst (λ (w : Web). HasPorts q.grove w) (sym S.web) (ports_as p.grove q.grove canvas key number x y F is plain A p.web can.ports);
  inside = subst (λ (w : Web). StayInside q.grove w) (sym S.web) (inside_as p.grove q.grove canvas key number x y F is plain A p.web can.inside);
  linked = rw (S.web, S.links) can.linked;
  orders = rw (S.web, S.orders) (orders_as p.grove q.grove canvas key number x y F is plain A p.web p.orders.items can.orders);
  numbers = λ c. rw (S.numbers, A.boards) (can.numbers c);
}

-- a patch of which a box moved can be edited on
pub still_put : (p q : Patch) (path : List ℕ) (number : ℕ) (x y : ℤ) (b : MovedBox) → MovesBox p q path number x y b → CanPut p → CanPut q
still_put p q path number x y b M C = by_case M.shifts
  where
    at : IsMoving p.grove number (sub_reached p.grove (Some p.grove.root) path) b.canvas b.key
    at = is_moving p.grove number (sub_reached p.grove (Some p.grove.root) path) b.canvas b.key M.is

    by_case : ShiftsBox p q b.canvas b.key x y → CanPut q
    by_case (inr s) = s.slid.can
    by_case (inl s) =
        let g = p.grove in
        let h = q.grove in
        let plain = no_spot (holder_in (get g.boards b.canvas)) (get g.nodes b.key) s.plain in
        record {
          forest = forest_as g h b.canvas b.key number x y C.forest at.is plain s.box;
          small = small_as g h b.canvas b.key number x y C.forest at.is plain s.box C.small;
          apart = none_as g h b.canvas b.key number x y C.forest at.is plain s.box root_owner C.apart;
          runs = still_rewires p q b.canvas b.key number x y C.forest at.is plain s.box s.rest C.runs;
        }

-- wires still meet
pub still_meets : (p q : Patch) (path : List ℕ) (number : ℕ) (x y : ℤ) (b : MovedBox) → MovesBox p q path number x y b → Meet p.web → Meet q.web
still_meets p q path number x y b M meet = by_case M.shifts
  where
    by_case : ShiftsBox p q b.canvas b.key x y → Meet q.web
    by_case (inl s) = subst Meet (sym s.rest.web) meet
    by_case (inr s) = s.slid.meet

-- there are as many
pub as_many_wires : (p q : Patch) (path : List ℕ) (number : ℕ) (x y : ℤ) (b : MovedBox) → MovesBox p q path number x y b → wires_told q.web ≡ wires_told p.web
as_many_wires p q path number x y b M = by_case M.shifts
  where
    by_case : ShiftsBox p q b.canvas b.key x y → wires_told q.web ≡ wires_told p.web
    by_case (inl s) = ap wires_told s.rest.web
    by_case (inr s) = s.slid.wires ∙ same_are_as_many p.web s.ready.web s.room.web

zero_by : (g h : Grove) → h.boards ≡ g.boards → h.root ≡ g.root → zero_in (get h.boards h.root) ≡ zero_in (get g.boards g.root)
zero_by g h boards root = ap (λ (s : Slab Board). zero_in (get s h.root)) boards ∙ ap (λ (r : ℕ). zero_in (get g.boards r)) root

-- the patch has the `$0` that it had
pub zero_stays : (p q : Patch) (path : List ℕ) (number : ℕ) (x y : ℤ) (b : MovedBox) → MovesBox p q path number x y b → own_zero q ≡ own_zero p
zero_stays p q path number x y b M = by_case M.shifts
  where
    by_case : ShiftsBox p q b.canvas b.key x y → own_zero q ≡ own_zero p
    by_case (inl s) = zero_by p.grove q.grove s.box.boards s.box.root
    by_case (inr s) =
        zero_by s.ready.grove q.grove s.slid.box.boards s.slid.box.root ∙ zero_by p.grove s.ready.grove (ap (λ (g : Grove). g.boards) s.room.grove) (ap (λ (g : Grove). g.root) s.room.grove)

-- What `move_box` answers.

abbrev pub Answers : Patch → Patch → List ℕ → ℕ → ℤ → ℤ → Result MovedBox EditRefusal → Type 0
Answers p q path number x y (Ok b) = MovesBox p q path number x y b
Answers p q path number x y (Err why) = (why ≡ NoMemory) × IsShortOfRoom p q path number

module _ (p q : Patch) (path : List ℕ) (number : ℕ) (x y : ℤ) where
  pub moved_so : (r : Result MovedBox EditRefusal) → Answers p q path number x y r → IfOk r (λ b. MovesBox p q path number x y b)
  moved_so (Ok b) h = h
  moved_so (Err why) h = tt

  pub refused_so : (r : Result MovedBox EditRefusal) → Answers p q path number x y r → IfErr r (λ why. IsNotMoved p q path number why)
  refused_so (Ok b) h = tt
  refused_so (Err why) h = inr h

  pub on_so : (r : Result MovedBox EditRefusal) → Answers p q path number x y r → CanPut p → CanPut q
  on_so (Ok b) h C = still_put p q path number x y b h C
  on_so (Err why) h C = h.1.goes_on

  pub meet_so : (r : Result MovedBox EditRefusal) → Answers p q path number x y r → Meet p.web → Meet q.web
  meet_so (Ok b) h M = still_meets p q path number x y b h M
  meet_so (Err why) h M = meet_same p.web q.web h.1.room.web M

  pub zero_so : (r : Result MovedBox EditRefusal) → Answers p q path number x y r → own_zero q ≡ own_zero p
  zero_so (Ok b) h = zero_stays p q path number x y b h
  zero_so (Err why) h = zero_by p.grove q.grove (ap (λ (g : Grove). g.boards) h.1.room.grove) (ap (λ (g : Grove). g.root) h.1.room.grove)

  pub wires_so : (r : Result MovedBox EditRefusal) → Answers p q path number x y r → wires_told q.web ≡ wires_told p.web
  wires_so (Ok b) h = as_many_wires p q path number x y b h
  wires_so (Err why) h = same_are_as_many p.web q.web h.1.room.web

  -- of what moving a port box answers
  pub answers_by : (canvas key : ℕ) → moving p path number ≡ Ok (canvas, key) → is_port_around p.grove canvas key ≡ true → CanPut p → (r : Result MovedBox EditRefusal)
      → IfOk r (λ b. (path' : List ℕ) (number' : ℕ) → moving p path' number' ≡ Ok (canvas, key) → MovesBox p q path' number' x y b)
      → IfErr r (λ why. (why ≡ NoMemory) × SameButRoom p q) → Answers p q path number x y r
  answers_by canvas key is port C (Ok b) moved short = moved path number is
  answers_by canvas key is port C (Err why) moved short = (
    short.0,
    record {
      canvas = canvas;
      key = key;
      is = is;
      port = port;
      room = short.1;
      goes_on = put_rewired p q short.1.grove (roomed p q short.1 C.runs) C;
    },
  )
