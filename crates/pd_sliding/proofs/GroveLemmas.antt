-- A canvas in a box of which a port box stands at another place: one port of the box stands elsewhere among the others.
use Rattle.std.proofs.Common.{◌≡◌, ◌≢◌, ℕ, zero, suc, ℤ, ◌≤◌, List, [], ◌∷◌, ◌++◌, map, length, slice_get, Option, Some, None, IsSome, inl, inr, refl, sym, ap, ◌∙◌, subst, arith}
use Rattle.std.specs.Prelude.{option_map}
use Rattle.std.specs.List.{insert}
use mathlib.Core.Logic.{⊎_elim}
use Rattle.std.proofs.lemmas.Bool.{cases_eq}
use Rattle.std.proofs.lemmas.List.{length-map}
use Rattle.std.proofs.lemmas.Option.{none-some, same_Some}
use Rattle.slab.specs.Slab.{Slab, get}
use Rattle.pd_object.specs.declared.kinds.Kind.{Kind}
use Rattle.pd_object.specs.Ports.{IsSmallKind}
use Rattle.pd_grove.specs.declared.boards.Board.{Board}
use Rattle.pd_grove.specs.declared.grove.Grove.{Grove}
use Rattle.pd_grove.specs.declared.nodes.Node.{Node}
use Rattle.pd_grove.specs.declared.ports.Side.{Side}
use Rattle.pd_grove.specs.Forest.{IsForest, holder_in}
use Rattle.pd_grove.specs.Owning.{board_in}
use Rattle.pd_grove.specs.Ports.{port_signal, ports_among}
use Rattle.pd_grove.specs.Refits.{at_place, Alters}
use Rattle.pd_grove.specs.Standing.{depth_of}
use Rattle.pd_grove.specs.Telling.{inner_in, keys_in, kind_in}
use Rattle.pd_grove.proofs.OpenLemmas.{forest_alike}
use Rattle.pd_patch.specs.Orders.{is_signal_node}
use Rattle.pd_web.specs.declared.jacks.Jack.{Jack}
use Rattle.pd_web.specs.Jacks.{KindsSmall, spot_jack, canvas_jacks, jacks_by, jacks_in, jacks_at, made_in}
use Rattle.pd_following.specs.Ports.{port_jack}
use Rattle.pd_following.proofs.JackLemmas.{ports_held}
use Rattle.pd_following.proofs.ListLemmas.{map_insert}
use Rattle.pd_following.proofs.SpotLemmas.{among_more, among_same, spots_same, no_spot, port_spot, one_side}

-- What a box tells, wherever it stands.

board_placed : (x y : ℤ) (o : Option Node) → board_in (option_map (at_place x y) o) ≡ board_in o
board_placed x y None = refl
board_placed x y (Some n) = refl

inner_placed : (x y : ℤ) (o : Option Node) → inner_in (option_map (at_place x y) o) ≡ inner_in o
inner_placed x y None = refl
inner_placed x y (Some n) = refl

kind_placed : (x y : ℤ) (o : Option Node) → kind_in (option_map (at_place x y) o) ≡ kind_in o
kind_placed x y None = refl
kind_placed x y (Some n) = refl

made_placed : (x y : ℤ) (o : Option Node) → made_in (option_map (at_place x y) o) ≡ made_in o
made_placed x y None = refl
made_placed x y (Some n) = refl

signal_placed : (x y : ℤ) (o : Option Node) → is_signal_node (option_map (at_place x y) o) ≡ is_signal_node o
signal_placed x y None = refl
signal_placed x y (Some n) = refl

jacks_placed : (side : Side) (g : Grove) (x y : ℤ) (o : Option Node) → jacks_in side g (option_map (at_place x y) o) ≡ jacks_in side g o
jacks_placed side g x y None = refl
jacks_placed side g x y (Some n) = refl

small_by : (a b : Option Node) → kind_in a ≡ kind_in b → ((n : Node) → b ≡ Some n → IsSmallKind n.kind) → (n : Node) → a ≡ Some n → IsSmallKind n.kind
small_by None b e small n is = absurd (none-some n is)
small_by (Some m) None e small n is = absurd (none-some m.kind (sym e))
small_by (Some m) (Some z) e small n is =
    subst (λ (kind : Kind). IsSmallKind kind) (sym (same_Some m.kind z.kind e) ∙ ap (λ (v : Node). v.kind) (same_Some m n is)) (small z refl)

none_by : (a b : Option Node) → kind_in a ≡ kind_in b → b ≡ None → a ≡ None
none_by None b e none = refl
none_by (Some m) None e none = absurd (none-some m.kind (sym e))
none_by (Some m) (Some n) e none = absurd (none-some n (sym none))

some_by : (a b : Option Node) → kind_in a ≡ kind_in b → IsSome a → IsSome b
some_by None b e some = cc
some_by (Some m) None e some = absurd (none-some m.kind (sym e))
some_by (Some m) (Some n) e some = refl

module _ (g h : Grove) (key : ℕ) (x y : ℤ) (A : Alters g h key (at_place x y)) where
  -- what a box tells wherever it stands, each box tells as before
  pub told_as : {X : Type 0} (f : Option Node → X) → ((o : Option Node) → f (option_map (at_place x y) o) ≡ f o) → (k : ℕ) → f (get h.nodes k) ≡ f (get g.nodes k)
  told_as f e k = ⊎_elim
      (λ (same : k ≡ key). subst (λ j. f (get h.nodes j) ≡ f (get g.nodes j)) (sym same) (ap f A.box ∙ e (get g.nodes key)))
      (λ (d : k ≢ key). ap f (A.others k d))
      (cases_eq k key)

  pub keys_as : (c : ℕ) → keys_in (get h.boards c) ≡ keys_in (get g.boards c)
  keys_as c = ap (λ (s : Slab Board). keys_in (get s c)) A.boards

  pub inner_as : (k : ℕ) → inner_in (get h.nodes k) ≡ inner_in (get g.nodes k)
  inner_as = told_as inner_in (inner_placed x y)

  pub made_as : (k : ℕ) → made_in (get h.nodes k) ≡ made_in (get g.nodes k)
  made_as = told_as made_in (made_placed x y)

  pub signal_as : (k : ℕ) → is_signal_node (get h.nodes k) ≡ is_signal_node (get g.nodes k)
  signal_as = told_as is_signal_node (signal_placed x y)

  pub small_as : KindsSmall g → KindsSmall h
  small_as small k n at = small_by (get h.nodes k) (get g.nodes k) (told_as kind_in (kind_placed x y) k) (λ m was. small k m was) n at

  pub none_as : (k : ℕ) → get g.nodes k ≡ None → get h.nodes k ≡ None
  none_as k none = none_by (get h.nodes k) (get g.nodes k) (told_as kind_in (kind_placed x y) k) none

  pub lived : (k : ℕ) → IsSome (get h.nodes k) → IsSome (get g.nodes k)
  lived k some = some_by (get h.nodes k) (get g.nodes k) (told_as kind_in (kind_placed x y) k) some

  pub forest_as : IsForest (get g.nodes) (get g.boards) g.root → IsForest (get h.nodes) (get h.boards) h.root
  forest_as F = subst (λ (r : ℕ). IsForest (get h.nodes) (get h.boards) r) (sym A.root)
      (forest_alike (get g.nodes) (get h.nodes) (get g.boards) (get h.boards) g.root
      (record {
        lie = told_as board_in (board_placed x y);
        hold = inner_as;
        keys = keys_as;
        holders = λ c. ap (λ (s : Slab Board). holder_in (get s c)) A.boards;
        depths = λ c. ap (λ (s : Slab Board). depth_of (get s c)) A.boards;
        live = λ c l. subst (λ (s : Slab Board). IsSome (get s c)) (sym A.boards) l;
        no_more = λ c l. subst (λ (s : Slab Board). IsSome (get s c)) A.boards l;
      })
      F)

-- a list with this at a place
pub record IsSplit (xs : List ℕ) (i x : ℕ) : Type 0 where
  pub before : List ℕ
  pub behind : List ℕ
  pub whole : xs ≡ before ++ x ∷ behind
  pub place : i ≡ length before

pub split_at : (xs : List ℕ) (i x : ℕ) → slice_get xs i ≡ Some x → IsSplit xs i x
split_at [] i x e = absurd (none-some x e)
split_at (y ∷ xs) zero x e = record { before = []; behind = xs; whole = ap (λ z. z ∷ xs) (same_Some y x e); place = refl }
split_at (y ∷ xs) (suc i) x e =
    let s = split_at xs i x e in
    record { before = y ∷ s.before; behind = s.behind; whole = ap (λ zs. y ∷ zs) s.whole; place = ap suc s.place }

-- where the rest stands in the whole
rest_at : (a b : List ℕ) (x i k : ℕ) → slice_get (a ++ b) i ≡ Some k → (j : ℕ) × (slice_get (a ++ x ∷ b) j ≡ Some k) × (j ≢ length a)
rest_at [] b x i k e = (suc i, e, λ q. omega (arith, q))
rest_at (y ∷ a) b x zero k e = (0, e, λ q. omega (arith, q))
rest_at (y ∷ a) b x (suc i) k e = let r = rest_at a b x i k e in (suc r.0, r.1, λ q. r.2 (omega (arith, q)))

-- this port stands at a place among the others
pub record StandsAmong (rest : List Jack) (jack : Jack) (jacks : List Jack) : Type 0 where
  pub place : ℕ
  pub within : place ≤ length rest
  pub is : jacks ≡ insert rest place jack

module _ (g h : Grove) (key : ℕ) (x y : ℤ) (A : Alters g h key (at_place x y)) (F : IsForest (get g.nodes) (get g.boards) g.root) (n : Node) (stands : get g.nodes key ≡ Some n)
    (holder : ℕ) (held : holder_in (get g.boards n.board) ≡ Some holder) (side : Side) (port : IsSome (port_signal side n.kind)) where
  pub in_canvas : (i : ℕ) × (slice_get (keys_in (get g.boards n.board)) i ≡ Some key)
  in_canvas = F.placed key n.board (ap board_in stands)

  pub S : IsSplit (keys_in (get g.boards n.board)) in_canvas.0 key
  S = split_at (keys_in (get g.boards n.board)) in_canvas.0 key in_canvas.1

  pub holds : inner_in (get g.nodes holder) ≡ Some n.board
  holds = F.held n.board holder held

  now : get h.nodes key ≡ Some (at_place x y n)
  now = A.box ∙ ap (option_map (at_place x y)) stands

  -- the other boxes of the canvas are others
  not_it : (i k : ℕ) → slice_get (S.before ++ S.behind) i ≡ Some k → k ≢ key
  not_it i k e same =
      let r = rest_at S.before S.behind key i k e in
      let at : slice_get (keys_in (get g.boards n.board)) r.0 ≡ Some key = ap (λ (ks : List ℕ). slice_get ks r.0) S.whole ∙ r.1 ∙ ap (λ (z : ℕ). Some z) same in
      r.2 (F.own.once n.board r.0 in_canvas.0 key at in_canvas.1 ∙ S.place)

  rest_same : (s : Side) → ports_among s (get h.nodes) (S.before ++ S.behind) ≡ ports_among s (get g.nodes) (S.before ++ S.behind)
  rest_same s = spots_same s (get g.nodes) (get h.nodes) (S.before ++ S.behind) (λ i k e. A.others k (not_it i k e))

  whole_then : keys_in (get h.boards n.board) ≡ S.before ++ key ∷ S.behind
  whole_then = keys_as g h key x y A n.board ∙ S.whole

  -- the ports of the box around but that one
  pub rest_jacks : List Jack
  rest_jacks = map spot_jack (ports_among side (get g.nodes) (S.before ++ S.behind))

  inserted : (nodes : ℕ → Option Node) (m : Node) → nodes key ≡ Some m → m.kind ≡ n.kind → ports_among side nodes (S.before ++ S.behind) ≡ ports_among side (get g.nodes) (S.before ++ S.behind)
      → StandsAmong rest_jacks (port_jack side n.kind key) (map spot_jack (ports_among side nodes (S.before ++ key ∷ S.behind)))
  unfolding rest_jacks
  inserted nodes m is kind same =
      let P = port_spot side nodes key m is (subst (λ (k : Kind). IsSome (port_signal side k)) (sym kind) port) in
      let M = among_more side nodes S.before S.behind key P.spot P.is in
      let rest : map spot_jack (ports_among side nodes (S.before ++ S.behind)) ≡ rest_jacks = ap (map spot_jack) same in
      record {
        place = M.place;
        within = (let w = M.within in let l = ap length same in let c = length-map (ports_among side (get g.nodes) (S.before ++ S.behind)) spot_jack in omega (arith, w, l, c));
        is =
            ap (map spot_jack) M.is ∙ map_insert spot_jack (ports_among side nodes (S.before ++ S.behind)) M.place P.spot ∙ ap (λ (js : List Jack). insert js M.place (spot_jack P.spot)) rest
            ∙ ap (insert rest_jacks M.place) (P.jack ∙ ap (λ (k : Kind). port_jack side k key) kind);
      }

  jacks_before : jacks_at side g holder ≡ map spot_jack (ports_among side (get g.nodes) (S.before ++ key ∷ S.behind))
  jacks_before = ports_held g side holder n.board holds ∙ ap (λ (ks : List ℕ). map spot_jack (ports_among side (get g.nodes) ks)) S.whole

  pub holds_then : inner_in (get h.nodes holder) ≡ Some n.board
  holds_then = inner_as g h key x y A holder ∙ holds

  jacks_then : jacks_at side h holder ≡ map spot_jack (ports_among side (get h.nodes) (S.before ++ key ∷ S.behind))
  jacks_then = ports_held h side holder n.board holds_then ∙ ap (λ (ks : List ℕ). map spot_jack (ports_among side (get h.nodes) ks)) whole_then

  -- where the port stood among the others, and where it stands
  pub old : StandsAmong rest_jacks (port_jack side n.kind key) (jacks_at side g holder)
  old = subst (StandsAmong rest_jacks (port_jack side n.kind key)) (sym jacks_before) (inserted (get g.nodes) n stands refl refl)

  pub new : StandsAmong rest_jacks (port_jack side n.kind key) (jacks_at side h holder)
  new = subst (StandsAmong rest_jacks (port_jack side n.kind key)) (sym jacks_then) (inserted (get h.nodes) (at_place x y n) now refl (rest_same side))

  -- every other box has the ports that it had, and the box around has those of the other side
  canvas_same : (s : Side) (l d : ℕ) → (l ≡ holder → s ≢ side) → inner_in (get g.nodes l) ≡ Some d → canvas_jacks s h d ≡ canvas_jacks s g d
  canvas_same s l d differ inside = elim (cases_eq d n.board) [
    | inl e ↦
        let around : l ≡ holder = same_Some l holder (sym (F.inside l d inside) ∙ ap (λ z. holder_in (get g.boards z)) e ∙ held) in
        ap (canvas_jacks s h) e ∙ ap (λ (ks : List ℕ). map spot_jack (ports_among s (get h.nodes) ks)) whole_then
        ∙ ap (map spot_jack) (among_same s (get h.nodes) S.before S.behind key (no_spot s (get h.nodes) key (at_place x y n) now (one_side s side n.kind port (differ around))))
        ∙ ap (map spot_jack) (rest_same s)
        ∙ sym (ap (map spot_jack) (among_same s (get g.nodes) S.before S.behind key (no_spot s (get g.nodes) key n stands (one_side s side n.kind port (differ around)))))
        ∙ sym (ap (λ (ks : List ℕ). map spot_jack (ports_among s (get g.nodes) ks)) S.whole) ∙ sym (ap (canvas_jacks s g) e)
    | inr away ↦
        ap (λ (ks : List ℕ). map spot_jack (ports_among s (get h.nodes) ks)) (keys_as g h key x y A d)
        ∙ ap (map spot_jack) (spots_same s (get g.nodes) (get h.nodes) (keys_in (get g.boards d)) (λ i k e. A.others k (λ same.
        away (same_Some d n.board (sym (F.own.home d i k e) ∙ ap (λ z. board_in (get g.nodes z)) same ∙ ap board_in stands)))))
  ]

  by_inner : (s : Side) (kind : Kind) (o : Option ℕ) → ((d : ℕ) → o ≡ Some d → canvas_jacks s h d ≡ canvas_jacks s g d) → jacks_by s h kind o ≡ jacks_by s g kind o
  by_inner s kind None e = refl
  by_inner s kind (Some d) e = e d refl

  by_node : (s : Side) (l : ℕ) → (l ≡ holder → s ≢ side) → (o : Option Node) → get g.nodes l ≡ o → jacks_in s h o ≡ jacks_in s g o
  by_node s l differ None e = refl
  by_node s l differ (Some m) e = by_inner s m.kind m.inner (λ d q. canvas_same s l d differ (ap inner_in e ∙ q))

  pub jacks_same : (s : Side) (l : ℕ) → (l ≡ holder → s ≢ side) → jacks_at s h l ≡ jacks_at s g l
  jacks_same s l differ = told_as g h key x y A (jacks_in s h) (jacks_placed s h x y) l ∙ by_node s l differ (get g.nodes l) refl
