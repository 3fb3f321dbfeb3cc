-- From a wire that was joined or cut to a web with a wire more, and wires that stay in their canvases.
use Rattle.std.proofs.Common.{arith, ◌≡◌, ◌≢◌, ℕ, zero, suc, ◌<◌, ◌==◌, true, false, List, [], ◌∷◌, map, length, refl, sym, ap, ◌∙◌, subst, inl, inr}
use Rattle.std.specs.Prelude.{Option, Some, None, slice_get, not, option_map, option_and_then}
use Rattle.std.specs.List.{insert, AllByRecursion}
use Rattle.std.proofs.lemmas.Bool.{cases_eq}
use Rattle.std.proofs.lemmas.List.{length-map}
use Rattle.std.proofs.lemmas.Option.{none-some, same_Some, slice_get-map, slice_get_within}
use Rattle.pd_order.proofs.Basics.{same_test, other_test}
use Rattle.pd_wire.specs.Book.{Book}
use Rattle.pd_grove.specs.declared.grove.Grove.{Grove}
use Rattle.pd_grove.specs.declared.ports.Side.TheVariants.{Outlets}
use Rattle.pd_web.specs.declared.jacks.Jack.{Jack}
use Rattle.pd_web.specs.declared.sockets.Port.{Port}
use Rattle.pd_web.specs.declared.sockets.Spot.{Spot}
use Rattle.pd_web.specs.declared.web.Hop.{Hop}
use Rattle.pd_web.specs.declared.web.Web.{Web}
use Rattle.pd_web.specs.Sockets.{ports_at, port_at}
use Rattle.pd_web.specs.Wiring.{sink_at}
use Rattle.pd_web.specs.declared.lines.Line.{Line}
use Rattle.pd_web.specs.Lines.{IsRoute}
use Rattle.pd_web.specs.Hops.{ports_told, fan_hops, fan_keys, fan_under, hop_by, hop_to}
use Rattle.pd_web.specs.Changes.{hop_at, line_by, line_told, without_hop, Joins, CutsWire}
use Rattle.pd_patch.specs.Linked.{ShareCanvas, StayInside}
use Rattle.pd_patch.proofs.CanvasLemmas.{all_kept}
use Rattle.pd_wiring.specs.Changes.{LeadsAlong}
use Rattle.pd_wiring.proofs.CountLemmas.{HasWireMore}

-- A wire that was joined.

pub joined_more : (w v : Web) (key : ℕ) (l : Line) (fan feed : ℕ) → IsRoute w.sockets.items l → Joins w v key l fan feed → HasWireMore w v l
joined_more w v key l fan feed R J = record {
  ports = J.kept.ports;
  outlet = (let a = R.from in let b = length-map (ports_at w.sockets.items Outlets l.source) (λ (p : Port). p.jack) in omega (arith, a, b));
  key = key;
  place = fan;
  fan = J.fan;
  others = J.other_fans;
}

all_inserted : {X : Type 0} (P : X → Type 0) (xs : List X) (i : ℕ) (x : X) → AllByRecursion P xs → P x → AllByRecursion P (insert xs i x)
all_inserted P xs zero x h p = (p, h)
all_inserted P [] (suc i) x h p = (p, tt)
all_inserted P (y ∷ ys) (suc i) x h p = (h.0, all_inserted P ys i x h.1 p)

-- where the line is within a canvas, wires stay in theirs
pub joined_inside : (g : Grove) (w v : Web) (l : Line) → HasWireMore w v l → ShareCanvas g l.source l.sink → StayInside g w → StayInside g v
joined_inside g w v l M share inside k o = elim (cases_eq k l.source) [
  | inl same ↦
      elim (cases_eq o l.outlet) [
        | inl outlet ↦
            subst (λ (n : ℕ). AllByRecursion (λ (h : Hop). ShareCanvas g n h.node) (fan_hops v n o)) (sym same)
            (subst (λ (p : ℕ). AllByRecursion (λ (h : Hop). ShareCanvas g l.source h.node) (fan_hops v l.source p)) (sym outlet)
            (subst (AllByRecursion (λ (h : Hop). ShareCanvas g l.source h.node)) (sym M.fan)
            (all_inserted (λ (h : Hop). ShareCanvas g l.source h.node) (fan_hops w l.source l.outlet) M.place (hop_at M.key l.sink l.inlet) (inside l.source l.outlet) share)))
        | inr other ↦ subst (AllByRecursion (λ (h : Hop). ShareCanvas g k h.node)) (sym (M.others k o (λ _. other))) (inside k o)
      ]
  | inr other ↦ subst (AllByRecursion (λ (h : Hop). ShareCanvas g k h.node)) (sym (M.others k o (λ e. absurd (other e)))) (inside k o)
]

-- A wire that was cut.

key_kept : (k : ℕ) (o : Option Spot) → (hop_by k o).key ≡ k
key_kept k None = refl
key_kept k (Some s) = refl

some_key : (w : Web) (o : Option ℕ) (h : Hop) → option_map (hop_to w) o ≡ Some h → o ≡ Some h.key
some_key w None h e = absurd (none-some h e)
some_key w (Some k) h e = ap (λ x. Some x) (sym (key_kept k (slice_get w.spots.items (sink_at w.book k))) ∙ ap (λ (x : Hop). x.key) (same_Some (hop_to w k) h e))

-- the key of a hop stands at its place
key_at : (w : Web) (k o i : ℕ) (h : Hop) → slice_get (fan_hops w k o) i ≡ Some h → slice_get (fan_keys w k o) i ≡ Some h.key
key_at w k o i h e = some_key w (slice_get (fan_keys w k o) i) h (sym (slice_get-map (hop_to w) (fan_keys w k o) i) ∙ e)

-- what is true of every web's fan-outs
pub record HasLaws (w : Web) : Type 0 where
  pub fans : (node outlet i : ℕ) (h : Hop) → slice_get (fan_hops w node outlet) i ≡ Some h → line_told w h.key ≡ Some (line_by (hop_at h.key node outlet) h)
  pub once : (node outlet i j k : ℕ) → slice_get (fan_keys w node outlet) i ≡ Some k → slice_get (fan_keys w node outlet) j ≡ Some k → i ≡ j

without_none : (key : ℕ) (hops : List Hop) → ((i : ℕ) (h : Hop) → slice_get hops i ≡ Some h → h.key ≡ key → ⊥) → without_hop key hops ≡ hops
without_none key [] none = refl
without_none key (h ∷ hops) none =
    let f : (h.key == key) ≡ false = other_test h.key key (none 0 h refl) in
    rw f (ap (λ hs. h ∷ hs) (without_none key hops (λ i x at. none (suc i) x at)))

-- a list with a hop put back at its place
put_back : (key : ℕ) (hops : List Hop) (i : ℕ) (h : Hop) → slice_get hops i ≡ Some h → h.key ≡ key → ((j : ℕ) (x : Hop) → slice_get hops j ≡ Some x → x.key ≡ key → j ≡ i) → hops ≡ insert (without_hop key hops) i h
put_back key [] i h at same once = absurd (none-some h at)
put_back key (x ∷ hops) zero h at same once =
    let is : x ≡ h = same_Some x h at in
    let t : (x.key == key) ≡ true = ap (λ (y : Hop). y.key == key) is ∙ ap (λ (n : ℕ). n == key) same ∙ same_test key in
    let rest : without_hop key hops ≡ hops = without_none key hops (λ j y there e. let z : suc j ≡ 0 = once (suc j) y there e in absurd (omega (arith, z))) in
    rw (t, rest) (ap (λ (y : Hop). y ∷ hops) is)
put_back key (x ∷ hops) (suc i) h at same once =
    let f : (x.key == key) ≡ false = other_test x.key key (λ e. let z : 0 ≡ suc i = once 0 x refl e in absurd (omega (arith, z))) in
    let rest : hops ≡ insert (without_hop key hops) i h = put_back key hops i h at same (λ j y there e. let z : suc j ≡ suc i = once (suc j) y there e in omega (arith, z)) in
    rw f (ap (λ hs. x ∷ hs) rest)

same_line : (l m : Line) → ◌≡◌ {A = Option Line} (Some l) (Some m) → l ≡ m
same_line l m e = same_Some l m e

pub line_here : (w : Web) (key : ℕ) (l : Line) → HasLaws w → LeadsAlong w key l → line_told w key ≡ Some l
line_here w key l L A = L.fans l.source l.outlet A.place (hop_at key l.sink l.inlet) A.stands

-- the key stands in no other fan-out
elsewhere : (w : Web) (key : ℕ) (l : Line) (k o i : ℕ) (h : Hop) → HasLaws w → LeadsAlong w key l → (k ≡ l.source → o ≢ l.outlet) → slice_get (fan_hops w k o) i ≡ Some h → h.key ≡ key → ⊥
elsewhere w key l k o i h L A differ at same =
    let here : line_told w key ≡ Some (line_by (hop_at h.key k o) h) = ap (line_told w) (sym same) ∙ L.fans k o i h at in
    let e : line_by (hop_at h.key k o) h ≡ l = same_line (line_by (hop_at h.key k o) h) l (sym here ∙ line_here w key l L A) in
    differ (ap (λ (x : Line). x.source) e) (ap (λ (x : Line). x.outlet) e)

some_port : (b : Book) (w : Web) (o : Option Port) (i : ℕ) (h : Hop) → slice_get (map (hop_to w) (fan_under b (option_and_then (λ (p : Port). p.end) o))) i ≡ Some h → (p : Port) × (o ≡ Some p)
some_port b w None i h e = absurd (none-some h e)
some_port b w (Some p) i h e = (p, refl)

-- an outlet with a wire is there
outlet_there : (w : Web) (k o i : ℕ) (h : Hop) → slice_get (fan_hops w k o) i ≡ Some h → o < length (ports_told w Outlets k)
outlet_there w k o i h e =
    let p = some_port w.book w (port_at w.sockets.items Outlets k o) i h e in
    let a = slice_get_within (ports_at w.sockets.items Outlets k) o p.0 p.1 in
    let b = length-map (ports_at w.sockets.items Outlets k) (λ (q : Port). q.jack) in omega (arith, a, b)

pub cut_more : (w v : Web) (key : ℕ) (l : Line) → HasLaws w → LeadsAlong w key l → CutsWire w v key → HasWireMore v w l
cut_more w v key l L A C = record {
  ports = λ side k. sym (C.kept.ports side k);
  outlet = (let a = outlet_there w l.source l.outlet A.place (hop_at key l.sink l.inlet) A.stands in
      let b = ap (λ (js : List Jack). length js) (C.kept.ports Outlets l.source) in omega (arith, a, b));
  key = key;
  place = A.place;
  fan = put_back key (fan_hops w l.source l.outlet) A.place (hop_at key l.sink l.inlet) A.stands refl
      (λ j x at same. L.once l.source l.outlet j A.place key (key_at w l.source l.outlet j x at ∙ ap (λ (n : ℕ). Some n) same) (key_at w l.source l.outlet A.place (hop_at key l.sink l.inlet) A.stands))
      ∙ ap (λ (hs : List Hop). insert hs A.place (hop_at key l.sink l.inlet)) (sym (C.fans l.source l.outlet));
  others = λ k o differ. sym (C.fans k o ∙ without_none key (fan_hops w k o) (λ i h at same. elsewhere w key l k o i h L A differ at same));
}

pub cut_inside : (g : Grove) (w v : Web) (key : ℕ) → CutsWire w v key → StayInside g w → StayInside g v
cut_inside g w v key C inside k o =
    subst (AllByRecursion (λ (h : Hop). ShareCanvas g k h.node)) (sym (C.fans k o)) (all_kept (λ (h : Hop). ShareCanvas g k h.node) (λ (h : Hop). not (h.key == key)) (fan_hops w k o) (inside k o))

-- a line with a wire is within a canvas
pub line_inside : (g : Grove) (w : Web) (key : ℕ) (l : Line) → StayInside g w → LeadsAlong w key l → ShareCanvas g l.source l.sink
line_inside g w key l inside A = at_place (fan_hops w l.source l.outlet) A.place (inside l.source l.outlet) A.stands where
  at_place : (hops : List Hop) (i : ℕ) → AllByRecursion (λ (h : Hop). ShareCanvas g l.source h.node) hops → slice_get hops i ≡ Some (hop_at key l.sink l.inlet) → ShareCanvas g l.source l.sink
  at_place [] i h e = absurd (none-some (hop_at key l.sink l.inlet) e)
  at_place (x ∷ hops) zero h e = subst (λ (y : Hop). ShareCanvas g l.source y.node) (same_Some x (hop_at key l.sink l.inlet) e) h.0
  at_place (x ∷ hops) (suc i) h e = at_place hops i h.1 e
