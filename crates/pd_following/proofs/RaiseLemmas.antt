-- A side of a box that follows its canvas, where that has one port more.
use Rattle.std.proofs.Common.{◌≡◌, ◌≢◌, ℕ, zero, suc, ◌<◌, ◌≤◌, ◌==◌, Bool, true, false, cond, List, [], ◌∷◌, map, length, slice_get, Option, Some, None, IsSome, inl, inr, eqb-true, eq-eqb, true≢false, refl, sym, ap, ◌∙◌, subst, arith}
use Rattle.std.specs.Prelude.{option_map, option_and_then}
use Rattle.std.proofs.lemmas.Bool.{cases_eq, cases_lt}
use Rattle.std.proofs.lemmas.List.{length-map}
use Rattle.std.proofs.lemmas.Option.{none-some, same_Some, slice_get-map, slice_get_past, slice_get_within}
use Rattle.pd_wire.specs.Book.{Book, wire_at}
use Rattle.pd_grove.specs.declared.grove.Grove.{Grove}
use Rattle.pd_grove.specs.declared.ports.Side.{Side}
use Rattle.pd_grove.specs.declared.ports.Side.TheVariants.{Inlets, Outlets}
use Rattle.pd_web.specs.declared.jacks.Jack.{Jack}
use Rattle.pd_web.specs.declared.lines.Line.{Line}
use Rattle.pd_web.specs.declared.sockets.Port.{Port}
use Rattle.pd_web.specs.declared.sockets.Spot.{Spot}
use Rattle.pd_web.specs.declared.web.Hop.{Hop}
use Rattle.pd_web.specs.declared.web.Web.{Web}
use Rattle.pd_web.specs.Changes.{line_by, line_told, hop_at, Meet}
use Rattle.pd_web.specs.Homes.{inner_in}
use Rattle.pd_web.specs.Hops.{ports_told, jack_told, fan_keys, feed_keys, fan_hops, feed_hops, hop_by, hop_from, hop_to}
use Rattle.pd_web.specs.Jacks.{jacks_at}
use Rattle.pd_web.specs.Sockets.{ports_at}
use Rattle.pd_web.specs.Wiring.{source_at, sink_at}
use Rattle.pd_ports.specs.Moves.{Goes, FollowsPorts, under, keys_at, box_of, port_of, with_port, StandsOn}
use Rattle.pd_following.specs.Raising.{up, raised, other, hops_at, Raises, IsOneMore}
use Rattle.pd_following.proofs.ListLemmas.{insert_here, insert_up, map_same}

abbrev pub hop_across : Side → Web → ℕ → Hop
hop_across Inlets w k = hop_from w k
hop_across Outlets w k = hop_to w k

pub hops_keys : (s : Side) (w : Web) (n i : ℕ) → hops_at s w n i ≡ map (hop_across s w) (keys_at w s n i)
hops_keys Inlets w n i = refl
hops_keys Outlets w n i = refl

whole : (k : ℕ) (o : Option Spot) → hop_by k o ≡ hop_at k (hop_by k o).node (hop_by k o).port
whole k None = refl
whole k (Some s) = refl

-- what a line says of a wire's other end
pub line_hop : (s : Side) (w : Web) (k : ℕ) (l : Line) → line_told w k ≡ Some l → hop_across s w k ≡ hop_at k (box_of (other s) l) (port_of (other s) l)
line_hop s w k l h = by_wire s (wire_at w.book k) h
  where
    by_side : (s : Side) → hop_across s w k ≡ hop_at k (box_of (other s) (line_by (hop_from w k) (hop_to w k))) (port_of (other s) (line_by (hop_from w k) (hop_to w k)))
    by_side Inlets = whole k (slice_get w.spots.items (source_at w.book k))
    by_side Outlets = whole k (slice_get w.spots.items (sink_at w.book k))

    by_wire : (s : Side) (o : Option (ℕ × ℕ)) → option_map (λ _. line_by (hop_from w k) (hop_to w k)) o ≡ Some l → hop_across s w k ≡ hop_at k (box_of (other s) l) (port_of (other s) l)
    by_wire s None e = absurd (none-some l e)
    by_wire s (Some p) e = by_side s ∙ ap (λ (x : Line). hop_at k (box_of (other s) x) (port_of (other s) x)) (same_Some (line_by (hop_from w k) (hop_to w k)) l e)

-- a mapped list has an element where the list has one
map_back : {X Y : Type 0} (f : X → Y) (xs : List X) (i : ℕ) (y : Y) → slice_get (map f xs) i ≡ Some y → (x : X) × (slice_get xs i ≡ Some x)
map_back f [] i y e = absurd (none-some y e)
map_back f (x ∷ xs) zero y e = (x, refl)
map_back f (x ∷ xs) (suc i) y e = map_back f xs i y e

pub map_then : {X Y Z : Type 0} (f : X → Z) (g : Y → Z) (h : X → Y) (xs : List X) → ((i : ℕ) (x : X) → slice_get xs i ≡ Some x → f x ≡ g (h x)) → map f xs ≡ map g (map h xs)
map_then f g h [] e = refl
map_then f g h (x ∷ xs) e = ap (λ z. z ∷ map f xs) (e 0 x refl) ∙ ap (λ zs. g (h x) ∷ zs) (map_then f g h xs (λ i. e (suc i)))

none_under : (s : Side) (b : Book) → under s b None ≡ []
none_under Inlets b = refl
none_under Outlets b = refl

-- where a wire stands, there is a port
pub keys_within : (w : Web) (s : Side) (n i p k : ℕ) → slice_get (keys_at w s n i) p ≡ Some k → i < length (ports_told w s n)
keys_within w s n i p k e = by (slice_get (ports_at w.sockets.items s n) i) refl e
  where
    by : (o : Option Port) → slice_get (ports_at w.sockets.items s n) i ≡ o → slice_get (under s w.book (option_and_then (λ (x : Port). x.end) o)) p ≡ Some k → i < length (ports_told w s n)
    by None at h = absurd (none-some k (ap (λ (ks : List ℕ). slice_get ks p) (sym (none_under s w.book)) ∙ h))
    by (Some x) at h =
        let l = slice_get_within (ports_at w.sockets.items s n) i x at in
        let m = length-map (ports_at w.sockets.items s n) (λ (y : Port). y.jack) in
        omega (arith, l, m)

pub keys_past : (w : Web) (s : Side) (n i : ℕ) → length (ports_told w s n) ≤ i → keys_at w s n i ≡ []
keys_past w s n i l =
    let m = length-map (ports_at w.sockets.items s n) (λ (y : Port). y.jack) in
    ap (λ (o : Option Port). under s w.book (option_and_then (λ (x : Port). x.end) o)) (slice_get_past (ports_at w.sockets.items s n) i (omega (arith, l, m)))
    ∙ none_under s w.book

pub differ_test : (a b : ℕ) → a ≢ b → (a == b) ≡ false
differ_test a b d = step (a == b) refl
  where
    step : (t : Bool) → (a == b) ≡ t → (a == b) ≡ false
    step true e = absurd (d (eqb-true a b e))
    step false e = e

pub other_differs : (s : Side) → other s ≢ s
other_differs Inlets e = cc
other_differs Outlets e = cc

pub some_of : {X : Type 0} (o : Option X) → IsSome o → (x : X) × (o ≡ Some x)
some_of None h = absurd (true≢false (sym h))
some_of (Some x) h = (x, refl)

abbrev pub FansTold : Web → Type 0
FansTold w = (node outlet i : ℕ) (h : Hop) → slice_get (fan_hops w node outlet) i ≡ Some h → line_told w h.key ≡ Some (line_by (hop_at h.key node outlet) h)

abbrev pub FeedsTold : Web → Type 0
FeedsTold w = (node inlet i : ℕ) (h : Hop) → slice_get (feed_hops w node inlet) i ≡ Some h → line_told w h.key ≡ Some (line_by h (hop_at h.key node inlet))

-- the line of a wire that stands at a port
pub record LineAt (w : Web) (s : Side) (n i k : ℕ) : Type 0 where
  pub line : Line
  pub told : line_told w k ≡ Some line
  pub box : box_of s line ≡ n
  pub port : port_of s line ≡ i

pub hop_key : (k : ℕ) (o : Option Spot) → (hop_by k o).key ≡ k
hop_key k None = refl
hop_key k (Some s) = refl

pub line_at : (w : Web) → FansTold w → FeedsTold w → (s : Side) (n i p k : ℕ) → slice_get (keys_at w s n i) p ≡ Some k → LineAt w s n i k
line_at w fans feeds Inlets n i p k e =
    let h = hop_from w k in
    let there : slice_get (feed_hops w n i) p ≡ Some h = slice_get-map (hop_from w) (feed_keys w n i) p ∙ ap (option_map (hop_from w)) e in
    record {
      line = line_by h (hop_at h.key n i);
      told = ap (line_told w) (sym (hop_key k (slice_get w.spots.items (source_at w.book k)))) ∙ feeds n i p h there;
      box = refl;
      port = refl;
    }
line_at w fans feeds Outlets n i p k e =
    let h = hop_to w k in
    let there : slice_get (fan_hops w n i) p ≡ Some h = slice_get-map (hop_to w) (fan_keys w n i) p ∙ ap (option_map (hop_to w)) e in
    record {
      line = line_by (hop_at h.key n i) h;
      told = ap (line_told w) (sym (hop_key k (slice_get w.spots.items (sink_at w.book k)))) ∙ fans n i p h there;
      box = refl;
      port = refl;
    }

-- the wire stands at the port at its other end too
across_within : (w : Web) → Meet w → (s : Side) (n i p k : ℕ) (l : Line) → slice_get (keys_at w s n i) p ≡ Some k → line_told w k ≡ Some l
    → port_of (other s) l < length (ports_told w (other s) (box_of (other s) l))
across_within w M Inlets n i p k l e told =
    let h = hop_at k l.source l.outlet in
    let there : slice_get (feed_hops w n i) p ≡ Some h = slice_get-map (hop_from w) (feed_keys w n i) p ∙ ap (option_map (hop_from w)) e ∙ ap (λ (x : Hop). Some x) (line_hop Inlets w k l told) in
    let f = M.fanned n i p h there in
    let x = map_back (hop_to w) (fan_keys w l.source l.outlet) f.0 (hop_at k n i) f.1 in
    keys_within w Outlets l.source l.outlet f.0 x.0 x.1
across_within w M Outlets n i p k l e told =
    let h = hop_at k l.sink l.inlet in
    let there : slice_get (fan_hops w n i) p ≡ Some h = slice_get-map (hop_to w) (fan_keys w n i) p ∙ ap (option_map (hop_to w)) e ∙ ap (λ (x : Hop). Some x) (line_hop Outlets w k l told) in
    let f = M.fed n i p h there in
    let x = map_back (hop_from w) (feed_keys w l.sink l.inlet) f.0 (hop_at k n i) f.1 in
    keys_within w Inlets l.sink l.inlet f.0 x.0 x.1

-- a wire's line with another port on a side keeps what it says of the other
pub other_box : (s : Side) (m : ℕ) (l : Line) → box_of (other s) (with_port s m l) ≡ box_of (other s) l
other_box Inlets m l = refl
other_box Outlets m l = refl

pub other_port : (s : Side) (m : ℕ) (l : Line) → port_of (other s) (with_port s m l) ≡ port_of (other s) l
other_port Inlets m l = refl
other_port Outlets m l = refl

pub own_box : (s : Side) (m : ℕ) (l : Line) → box_of s (with_port s m l) ≡ box_of s l
own_box Inlets m l = refl
own_box Outlets m l = refl

pub own_port : (s : Side) (m : ℕ) (l : Line) → port_of s (with_port s m l) ≡ m
own_port Inlets m l = refl
own_port Outlets m l = refl

pub twice : (s : Side) → other (other s) ≡ s
twice Inlets = refl
twice Outlets = refl

module _ (w w' : Web) (key : ℕ) (side : Side) (g : Grove) (at : ℕ) (jack : Jack) (O : IsOneMore w g key side at jack) (F : FollowsPorts w w' key side (jacks_at side g key)) (M : Meet w)
    (fans : FansTold w) (feeds : FeedsTold w) where
  goes_up : (i : ℕ) → i < length (ports_told w side key) → Goes (ports_told w side key) (jacks_at side g key) i (up at i)
  goes_up i l =
      let j = some_of (inner_in (jack_told w side key i)) (O.boxes i l) in
      (j.0, j.1, ap (λ (js : List Jack). inner_in (slice_get js (up at i))) O.ports ∙ ap inner_in (insert_up (ports_told w side key) at i jack O.within) ∙ j.1)

  none_comes : (i : ℕ) → Goes (ports_told w side key) (jacks_at side g key) i at → ⊥
  none_comes i (j, was, is) = O.apart i j was
      (sym (ap inner_in (insert_here (ports_told w side key) at jack O.within)) ∙ sym (ap (λ (js : List Jack). inner_in (slice_get js at)) O.ports) ∙ is)

  side_within : (s t : Side) → t ≡ side → (n i p k : ℕ) (l : Line) → slice_get (keys_at w s n i) p ≡ Some k → line_told w k ≡ Some l → box_of s l ≡ n → port_of s l ≡ i
      → port_of t l < length (ports_told w t (box_of t l))
  side_within Inlets Inlets same n i p k l e told box port =
      subst (λ x. x < length (ports_told w Inlets l.sink)) (sym port) (subst (λ x. i < length (ports_told w Inlets x)) (sym box) (keys_within w Inlets n i p k e))
  side_within Outlets Outlets same n i p k l e told box port =
      subst (λ x. x < length (ports_told w Outlets l.source)) (sym port) (subst (λ x. i < length (ports_told w Outlets x)) (sym box) (keys_within w Outlets n i p k e))
  side_within Inlets Outlets same n i p k l e told box port = across_within w M Inlets n i p k l e told
  side_within Outlets Inlets same n i p k l e told box port = across_within w M Outlets n i p k l e told

  -- the line of a wire then
  abbrev pub moved : Line → Line
  moved l = cond (box_of side l == key) (with_port side (up at (port_of side l)) l) l

  pub moved_told : (s : Side) (n i p k : ℕ) (l : Line) → slice_get (keys_at w s n i) p ≡ Some k → line_told w k ≡ Some l → box_of s l ≡ n → port_of s l ≡ i → line_told w' k ≡ Some (moved l)
  moved_told s n i p k l e told box port =
      let stands : StandsOn w s k l = (p, ap (λ x. slice_get (keys_at w s x (port_of s l)) p) box ∙ ap (λ x. slice_get (keys_at w s n x) p) port ∙ e) in
      elim (cases_eq (box_of side l) key) [
        | inl here ↦
            let low = subst (λ x. port_of side l < length (ports_told w side x)) here (side_within s side refl n i p k l e told box port) in
            F.lines k (up at (port_of side l)) l s told stands here (goes_up (port_of side l) low)
            ∙ ap (λ (t : Bool). Some (cond t (with_port side (up at (port_of side l)) l) l)) (sym (eq-eqb (box_of side l) key here))
        | inr away ↦
            F.other_lines k l s told stands away
            ∙ ap (λ (t : Bool). Some (cond t (with_port side (up at (port_of side l)) l) l)) (sym (differ_test (box_of side l) key away))
      ]

  near_box : (l : Line) → box_of (other side) (moved l) ≡ box_of (other side) l
  near_box l = step (box_of side l == key)
    where
      step : (t : Bool) → box_of (other side) (cond t (with_port side (up at (port_of side l)) l) l) ≡ box_of (other side) l
      step true = other_box side (up at (port_of side l)) l
      step false = refl

  near_port : (l : Line) → port_of (other side) (moved l) ≡ port_of (other side) l
  near_port l = step (box_of side l == key)
    where
      step : (t : Bool) → port_of (other side) (cond t (with_port side (up at (port_of side l)) l) l) ≡ port_of (other side) l
      step true = other_port side (up at (port_of side l)) l
      step false = refl

  far_box : (l : Line) → box_of side (moved l) ≡ box_of side l
  far_box l = step (box_of side l == key)
    where
      step : (t : Bool) → box_of side (cond t (with_port side (up at (port_of side l)) l) l) ≡ box_of side l
      step true = own_box side (up at (port_of side l)) l
      step false = refl

  far_port : (l : Line) → port_of side (moved l) ≡ cond (box_of side l == key) (up at (port_of side l)) (port_of side l)
  far_port l = step (box_of side l == key)
    where
      step : (t : Bool) → port_of side (cond t (with_port side (up at (port_of side l)) l) l) ≡ cond t (up at (port_of side l)) (port_of side l)
      step true = own_port side (up at (port_of side l)) l
      step false = refl

  -- a wire at a port of this side leads where it led
  near_hop : (n i p k : ℕ) → slice_get (keys_at w side n i) p ≡ Some k → hop_across side w' k ≡ hop_across side w k
  near_hop n i p k e =
      let L = line_at w fans feeds side n i p k e in
      line_hop side w' k (moved L.line) (moved_told side n i p k L.line e L.told L.box L.port)
      ∙ ap (λ x. hop_at k x (port_of (other side) (moved L.line))) (near_box L.line) ∙ ap (hop_at k (box_of (other side) L.line)) (near_port L.line)
      ∙ sym (line_hop side w k L.line L.told)

  -- one at a port of the other side leads to the same box, and to the port that has moved
  far_hop : (n i p k : ℕ) → slice_get (keys_at w (other side) n i) p ≡ Some k → hop_across (other side) w' k ≡ raised key at (hop_across (other side) w k)
  far_hop n i p k e =
      let L = line_at w fans feeds (other side) n i p k e in
      let l = L.line in
      let now : hop_across (other side) w' k ≡ hop_at k (box_of side (moved l)) (port_of side (moved l)) =
      subst (λ (t : Side). hop_across (other side) w' k ≡ hop_at k (box_of t (moved l)) (port_of t (moved l))) (twice side)
      (line_hop (other side) w' k (moved l) (moved_told (other side) n i p k l e L.told L.box L.port)) in
      let was : hop_across (other side) w k ≡ hop_at k (box_of side l) (port_of side l) =
      subst (λ (t : Side). hop_across (other side) w k ≡ hop_at k (box_of t l) (port_of t l)) (twice side) (line_hop (other side) w k l L.told) in
      now ∙ ap (λ x. hop_at k x (port_of side (moved l))) (far_box l) ∙ ap (hop_at k (box_of side l)) (far_port l) ∙ ap (raised key at) (sym was)

  own_keys : (i : ℕ) → keys_at w' side key (up at i) ≡ keys_at w side key i
  own_keys i = elim (cases_lt i (length (ports_told w side key))) [
    | inl l ↦ F.went i (up at i) (goes_up i l)
    | inr l ↦
        let past = slice_get_past (ports_told w side key) i l in
        F.came (up at i) (λ m t. none-some t.0 (sym (ap (λ (js : List Jack). inner_in (slice_get js (up at i))) O.ports ∙ ap inner_in (insert_up (ports_told w side key) at i jack O.within) ∙ ap inner_in past) ∙ t.2))
        ∙ sym (keys_past w side key i l)
  ]

  near_hops : (n i n' i' : ℕ) → keys_at w' side n' i' ≡ keys_at w side n i → hops_at side w' n' i' ≡ hops_at side w n i
  near_hops n i n' i' keys =
      hops_keys side w' n' i' ∙ ap (map (hop_across side w')) keys ∙ map_same (hop_across side w') (hop_across side w) (keys_at w side n i) (λ p k e. near_hop n i p k e)
      ∙ sym (hops_keys side w n i)

  pub one_raised : Raises w w' key side at jack
  one_raised = record {
    within = O.within;
    ports = F.ports ∙ O.ports;
    other_ports = F.other_ports;
    made = F.made;
    came = hops_keys side w' key at ∙ ap (map (hop_across side w')) (F.came at none_comes);
    own = λ i. near_hops key i key (up at i) (own_keys i);
    others = λ k i d. near_hops k i k i (F.other_keys side k i (λ e. absurd (d e)));
    across = λ k i.
        hops_keys (other side) w' k i ∙ ap (map (hop_across (other side) w')) (F.other_keys (other side) k i (λ _. other_differs side))
        ∙ map_then (hop_across (other side) w') (raised key at) (hop_across (other side) w) (keys_at w (other side) k i) (λ p x e. far_hop k i p x e)
        ∙ ap (map (raised key at)) (sym (hops_keys (other side) w k i));
  }
