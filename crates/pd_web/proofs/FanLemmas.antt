-- What the wires of the book lead to, by the lines that were laid.
use Rattle.std.proofs.Common.{◌≡◌, ℕ, Bool, true, false, ◌&&◌, ◌==◌, cond, List, [], ◌∷◌, map, filter, slice_get, Option, Some, None, refl, sym, ap, ◌∙◌, eq-eqb, eqb-true, ne_eqb, inl, inr}
use Rattle.std.proofs.lemmas.Bool.{cases_eq, cases_Bool, and_parts, and_from}
use Rattle.std.proofs.lemmas.Option.{none-some, same_Some}
use Rattle.pd_wire.specs.Book.{Book, fan_of, feeds_of}
use Rattle.pd_grove.specs.declared.ports.Side.{Side}
use Rattle.pd_grove.specs.declared.ports.Side.TheVariants.{Inlets, Outlets}
use Rattle.pd_web.specs.declared.joints.Joint.{Joint}
use Rattle.pd_web.specs.declared.sockets.Sockets.{Sockets}
use Rattle.pd_web.specs.declared.sockets.Spot.{Spot}
use Rattle.pd_web.specs.Sockets.{ArePlaced, IsBare, end_under}
use Rattle.pd_web.specs.Wiring.{source_at, sink_at, sinks_from, sources_to}
use Rattle.pd_web.specs.Lines.{Line, AreJoints, IsLaid, fed_from, feeding}
use Rattle.pd_web.specs.Hops.{hop_by, fan_under, feeds_under, places_of}

-- the box and the number of a port
place_in : Option Spot → ℕ × ℕ
place_in None = (0, 0)
place_in (Some s) = (s.node, s.port)

hop_place : (k : ℕ) (o : Option Spot) → ((hop_by k o).node, (hop_by k o).port) ≡ place_in o
unfolding place_in
hop_place k None = refl
hop_place k (Some s) = refl

place_some : (s : Spot) → place_in (Some s) ≡ (s.node, s.port)
unfolding place_in
place_some s = refl

-- the places of hops, by the ends to which they lead
places : (spots : List Spot) (at : ℕ → ℕ) (keys : List ℕ) → places_of (map (λ k. hop_by k (slice_get spots (at k))) keys) ≡ map (λ e. place_in (slice_get spots e)) (map at keys)
places spots at [] = refl
places spots at (k ∷ keys) =
    ap (λ p. p ∷ places_of (map (λ k. hop_by k (slice_get spots (at k))) keys)) (hop_place k (slice_get spots (at k)))
    ∙ ap (λ ps. place_in (slice_get spots (at k)) ∷ ps) (places spots at keys)

-- an end is that of its port
end_placed : (all : List Sockets) (spots : List Spot) (b : Book) (side : Side) (k i e : ℕ) → ArePlaced all spots b → end_under all side k i ≡ Some e → slice_get spots e ≡ Some (record { node = k; side = side; port = i })
end_placed all spots b side k i e placed h = (placed (record { node = k; side = side; port = i }) e h).told

-- ports with one end are one port
record Same (k i l j : ℕ) : Type 0 where
  node : k ≡ l
  port : i ≡ j

one_port : (all : List Sockets) (spots : List Spot) (b : Book) (side : Side) (k i l j e f : ℕ) → ArePlaced all spots b → end_under all side k i ≡ Some e → end_under all side l j ≡ Some f → e ≡ f → Same k i l j
one_port all spots b side k i l j e f placed g h same =
    let s = same_Some (record { node = k; side = side; port = i }) (record { node = l; side = side; port = j })
    (sym (end_placed all spots b side k i e placed g) ∙ ap (slice_get spots) same ∙ end_placed all spots b side l j f placed h) in
    record { node = ap (λ (x : Spot). x.node) s; port = ap (λ (x : Spot). x.port) s }

-- one end exactly where it is one port
ends_meet : (all : List Sockets) (spots : List Spot) (b : Book) (side : Side) (k i l j e f : ℕ) → ArePlaced all spots b → end_under all side k i ≡ Some e → end_under all side l j ≡ Some f
    → (e == f) ≡ (k == l && i == j)
ends_meet all spots b side k i l j e f placed g h = elim (cases_eq e f) [
  | inl same ↦
      let s = one_port all spots b side k i l j e f placed g h same in
      eq-eqb e f same ∙ sym (and_from (k == l) (i == j) (eq-eqb k l s.node) (eq-eqb i j s.port))
  | inr differ ↦
      elim (cases_Bool (k == l && i == j)) [
        | inl meets ↦
            let both = and_parts (k == l) (i == j) meets in
            absurd (differ (same_Some e f (sym g ∙ ap (λ x. end_under all side x i) (eqb-true k l both.0) ∙ ap (λ x. end_under all side l x) (eqb-true i j both.1) ∙ h)))
        | inr apart ↦ ne_eqb e f differ ∙ sym apart
      ]
]

-- a port that isn't there has no lines
no_port : (all : List Sockets) (side : Side) (k i l j f : ℕ) → end_under all side k i ≡ None → end_under all side l j ≡ Some f → (l == k && j == i) ≡ false
no_port all side k i l j f g h = elim (cases_Bool (l == k && j == i)) [
  | inl meets ↦
      let both = and_parts (l == k) (j == i) meets in
      absurd (none-some f (sym g ∙ ap (λ x. end_under all side x i) (sym (eqb-true l k both.0)) ∙ ap (λ x. end_under all side l x) (sym (eqb-true j i both.1)) ∙ h))
  | inr apart ↦ apart
]

cons_if : {X : Type 0} (b c : Bool) (x y : X) (xs ys : List X) → b ≡ c → (c ≡ true → x ≡ y) → xs ≡ ys → cond b (x ∷ xs) xs ≡ cond c (y ∷ ys) ys
cons_if b true x y xs ys h e t = ap (λ d. cond d (x ∷ xs) xs) h ∙ ap (λ z. z ∷ xs) (e refl) ∙ ap (λ zs. y ∷ zs) t
cons_if b false x y xs ys h e t = ap (λ d. cond d (x ∷ xs) xs) h ∙ t

map-cond : {X Y : Type 0} (f : X → Y) (b : Bool) (x : X) (xs : List X) → map f (cond b (x ∷ xs) xs) ≡ cond b (f x ∷ map f xs) (map f xs)
map-cond f true x xs = refl
map-cond f false x xs = refl

fed_lines : (all : List Sockets) (spots : List Spot) (b : Book) (k o e : ℕ) (js : List Joint) (ls : List Line) → ArePlaced all spots b → end_under all Outlets k o ≡ Some e → AreJoints all js ls
    → map (λ x. place_in (slice_get spots x)) (sinks_from e js) ≡ fed_from k o ls
fed_lines all spots b k o e [] [] placed h joints = refl
fed_lines all spots b k o e [] (l ∷ ls) placed h joints = absurd joints
fed_lines all spots b k o e (j ∷ js) [] placed h joints = absurd joints
fed_lines all spots b k o e (j ∷ js) (l ∷ ls) placed h joints =
    let at = joints.0 in
    ap (map (λ x. place_in (slice_get spots x))) (map-cond (λ (x : Joint). x.sink) (j.source == e) j (filter (λ (x : Joint). x.source == e) js))
    ∙ map-cond (λ x. place_in (slice_get spots x)) (j.source == e) j.sink (sinks_from e js)
    ∙ cons_if (j.source == e) (l.source == k && l.outlet == o) (place_in (slice_get spots j.sink)) (l.sink, l.inlet) _ _
    (ends_meet all spots b Outlets l.source l.outlet k o j.source e placed at.from h)
    (λ _. ap place_in (end_placed all spots b Inlets l.sink l.inlet j.sink placed at.to) ∙ place_some (record { node = l.sink; side = Inlets; port = l.inlet }))
    (fed_lines all spots b k o e js ls placed h joints.1)
    ∙ sym (map-cond (λ (x : Line). (x.sink, x.inlet)) (l.source == k && l.outlet == o) l (filter (λ (x : Line). x.source == k && x.outlet == o) ls))

feed_lines : (all : List Sockets) (spots : List Spot) (b : Book) (k i e : ℕ) (js : List Joint) (ls : List Line) → ArePlaced all spots b → end_under all Inlets k i ≡ Some e → AreJoints all js ls
    → map (λ x. place_in (slice_get spots x)) (sources_to e js) ≡ feeding k i ls
feed_lines all spots b k i e [] [] placed h joints = refl
feed_lines all spots b k i e [] (l ∷ ls) placed h joints = absurd joints
feed_lines all spots b k i e (j ∷ js) [] placed h joints = absurd joints
feed_lines all spots b k i e (j ∷ js) (l ∷ ls) placed h joints =
    let at = joints.0 in
    ap (map (λ x. place_in (slice_get spots x))) (map-cond (λ (x : Joint). x.source) (j.sink == e) j (filter (λ (x : Joint). x.sink == e) js))
    ∙ map-cond (λ x. place_in (slice_get spots x)) (j.sink == e) j.source (sources_to e js)
    ∙ cons_if (j.sink == e) (l.sink == k && l.inlet == i) (place_in (slice_get spots j.source)) (l.source, l.outlet) _ _
    (ends_meet all spots b Inlets l.sink l.inlet k i j.sink e placed at.to h)
    (λ _. ap place_in (end_placed all spots b Outlets l.source l.outlet j.source placed at.from) ∙ place_some (record { node = l.source; side = Outlets; port = l.outlet }))
    (feed_lines all spots b k i e js ls placed h joints.1)
    ∙ sym (map-cond (λ (x : Line). (x.source, x.outlet)) (l.sink == k && l.inlet == i) l (filter (λ (x : Line). x.sink == k && x.inlet == i) ls))

none_fed : (all : List Sockets) (k o : ℕ) (js : List Joint) (ls : List Line) → end_under all Outlets k o ≡ None → AreJoints all js ls → [] ≡ fed_from k o ls
none_fed all k o [] [] h joints = refl
none_fed all k o [] (l ∷ ls) h joints = absurd joints
none_fed all k o (j ∷ js) [] h joints = absurd joints
none_fed all k o (j ∷ js) (l ∷ ls) h joints =
    none_fed all k o js ls h joints.1
    ∙ sym (ap (λ c. map (λ (x : Line). (x.sink, x.inlet)) (cond c (l ∷ filter (λ (x : Line). x.source == k && x.outlet == o) ls) (filter (λ (x : Line). x.source == k && x.outlet == o) ls)))
    (no_port all Outlets k o l.source l.outlet j.source h joints.0.from))

none_feeding : (all : List Sockets) (k i : ℕ) (js : List Joint) (ls : List Line) → end_under all Inlets k i ≡ None → AreJoints all js ls → [] ≡ feeding k i ls
none_feeding all k i [] [] h joints = refl
none_feeding all k i [] (l ∷ ls) h joints = absurd joints
none_feeding all k i (j ∷ js) [] h joints = absurd joints
none_feeding all k i (j ∷ js) (l ∷ ls) h joints =
    none_feeding all k i js ls h joints.1
    ∙ sym (ap (λ c. map (λ (x : Line). (x.source, x.outlet)) (cond c (l ∷ filter (λ (x : Line). x.sink == k && x.inlet == i) ls) (filter (λ (x : Line). x.sink == k && x.inlet == i) ls)))
    (no_port all Inlets k i l.sink l.inlet j.sink h joints.0.to))

fans_at : (all : List Sockets) (spots : List Spot) (b : Book) (ls : List Line) (k o : ℕ) (x : Option ℕ) → ArePlaced all spots b → IsLaid all b ls → end_under all Outlets k o ≡ x
    → places_of (map (λ key. hop_by key (slice_get spots (sink_at b key))) (fan_under b x)) ≡ fed_from k o ls
fans_at all spots b ls k o None placed laid h = none_fed all k o laid.joints ls h laid.lines
fans_at all spots b ls k o (Some e) placed laid h =
    places spots (sink_at b) (fan_of b e) ∙ ap (map (λ x. place_in (slice_get spots x))) (laid.held.fans e) ∙ fed_lines all spots b k o e laid.joints ls placed h laid.lines

-- the hops from an outlet are the lines from it
pub fans_are : (all : List Sockets) (spots : List Spot) (b : Book) (ls : List Line) (k o : ℕ) → ArePlaced all spots b → IsLaid all b ls
    → places_of (map (λ key. hop_by key (slice_get spots (sink_at b key))) (fan_under b (end_under all Outlets k o))) ≡ fed_from k o ls
fans_are all spots b ls k o placed laid = fans_at all spots b ls k o (end_under all Outlets k o) placed laid refl

feeds_at : (all : List Sockets) (spots : List Spot) (b : Book) (ls : List Line) (k i : ℕ) (x : Option ℕ) → ArePlaced all spots b → IsLaid all b ls → end_under all Inlets k i ≡ x
    → places_of (map (λ key. hop_by key (slice_get spots (source_at b key))) (feeds_under b x)) ≡ feeding k i ls
feeds_at all spots b ls k i None placed laid h = none_feeding all k i laid.joints ls h laid.lines
feeds_at all spots b ls k i (Some e) placed laid h =
    places spots (source_at b) (feeds_of b e) ∙ ap (map (λ x. place_in (slice_get spots x))) (laid.held.feeds e) ∙ feed_lines all spots b k i e laid.joints ls placed h laid.lines

pub feeds_are : (all : List Sockets) (spots : List Spot) (b : Book) (ls : List Line) (k i : ℕ) → ArePlaced all spots b → IsLaid all b ls
    → places_of (map (λ key. hop_by key (slice_get spots (source_at b key))) (feeds_under b (end_under all Inlets k i))) ≡ feeding k i ls
feeds_are all spots b ls k i placed laid = feeds_at all spots b ls k i (end_under all Inlets k i) placed laid refl

-- a book without wires has no lines
pub none_laid : (all : List Sockets) (b : Book) → IsBare b → IsLaid all b []
none_laid all b bare = record {
  joints = [];
  held = record { fans = λ e. ap (map (sink_at b)) (bare e).0; feeds = λ e. ap (map (source_at b)) (bare e).1 };
  lines = tt;
}
