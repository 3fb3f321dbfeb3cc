-- Each wire still stands at the ports between which it lies.
use Rattle.std.proofs.Common.{◌≡◌, ◌≢◌, ℕ, zero, suc, List, [], slice_get, Option, Some, refl, sym, ap, ◌∙◌, subst, inl, inr}
use Rattle.std.specs.Prelude.{option_map}
use Rattle.std.proofs.lemmas.Bool.{cases_eq}
use Rattle.std.proofs.lemmas.Option.{none-some, same_Some}
use Rattle.pd_wire.specs.Book.{wire_at}
use Rattle.pd_grove.specs.declared.ports.Side.{Side}
use Rattle.pd_grove.specs.declared.ports.Side.TheVariants.{Inlets, Outlets}
use Rattle.pd_web.specs.declared.sockets.Spot.{Spot}
use Rattle.pd_web.specs.Sockets.{end_under, end_at, jacks_of}
use Rattle.pd_web.specs.Wiring.{source_in, sink_in}
use Rattle.pd_web.specs.declared.lines.Line.{Line}
use Rattle.pd_web.specs.Hops.{hop_by}
use Rattle.pd_web.specs.Changes.{line_by}
use Rattle.pd_web.proofs.ChangeLemmas.{line_in}
use Rattle.pd_ports.specs.Moves.{under, Goes, box_of, port_of, with_port}
use Rattle.pd_ports.proofs.TakeLemmas.{goes_or_not}
use Rattle.pd_ports.proofs.MoveLemmas.{Scene, olds, IsMoved, StandsIn, AreThere, NoneIsGone, end_told, cases_side, wire_of, listed_end, end_before, under_after, keys_went, keys_stay, lines_stay, lines_went}

box_with : (s side : Side) (m : ℕ) (l : Line) → box_of s (with_port side m l) ≡ box_of s l
box_with Inlets Inlets m l = refl
box_with Inlets Outlets m l = refl
box_with Outlets Inlets m l = refl
box_with Outlets Outlets m l = refl

port_with : (side : Side) (m : ℕ) (l : Line) → port_of side (with_port side m l) ≡ m
port_with Inlets m l = refl
port_with Outlets m l = refl

port_kept : (s side : Side) (m : ℕ) (l : Line) → s ≢ side → port_of s (with_port side m l) ≡ port_of s l
port_kept Inlets Inlets m l ne = absurd (ne refl)
port_kept Inlets Outlets m l ne = refl
port_kept Outlets Inlets m l ne = refl
port_kept Outlets Outlets m l ne = absurd (ne refl)

-- the wires at a port of a line, after
abbrev keys_after : Scene → Side → ℕ → ℕ → List ℕ
keys_after c s k i = under s c.book_after (end_under c.all_after s k i)

abbrev Stands : Scene → ℕ → Side → Line → Type 0
Stands c k s l = (i : ℕ) × (slice_get (keys_after c s (box_of s l) (port_of s l)) i ≡ Some k)

empty_at : (i k : ℕ) → slice_get [] i ≡ Some k → ⊥
empty_at zero k h = none-some k h
empty_at (suc i) k h = none-some k h

-- the line of a wire before
abbrev old_line : Scene → ℕ → ℕ × ℕ → Line
old_line c k p = line_by (hop_by k (slice_get c.spots p.0)) (hop_by k (slice_get c.spots p.1))

old_told : (c : Scene) (k : ℕ) (p : ℕ × ℕ) → wire_at c.book k ≡ Some p → line_in c.spots c.book k ≡ Some (old_line c k p)
old_told c k p w = ap (λ (o : Option (ℕ × ℕ)). option_map (λ _. line_by (hop_by k (slice_get c.spots (source_in o))) (hop_by k (slice_get c.spots (sink_in o)))) o) w

old_side : (c : Scene) (k : ℕ) (p : ℕ × ℕ) (s : Side) (t : Spot) → slice_get c.spots (end_told s p) ≡ Some t → (box_of s (old_line c k p) ≡ t.node) × (port_of s (old_line c k p) ≡ t.port)
old_side c k p Inlets t h = (ap (λ o. (hop_by k o).node) h, ap (λ o. (hop_by k o).port) h)
old_side c k p Outlets t h = (ap (λ o. (hop_by k o).node) h, ap (λ o. (hop_by k o).port) h)

-- a wire that stands at a port after stood at one before
stood : (c : Scene) (k : ℕ) (l : Line) (p : ℕ × ℕ) (s : Side) → IsMoved c → wire_at c.book k ≡ Some p → Stands c k s l → StandsIn c s k (old_line c k p)
stood c k l p s v w stands =
    let now : Spot = record { node = box_of s l; side = s; port = port_of s l } in
    let at = ap (λ (xs : List ℕ). slice_get xs stands.0) (sym (under_after c now v)) ∙ stands.1 in
    let e = end_told s p in
    let has = listed_end s c.book (end_at c.all_after now) stands.0 k p v.linked at w in
    let was = end_before c now e v has in
    let told = old_side c k p s was.0 (v.tied.placed was.0 e was.1).told in
    let same : end_under c.all s (box_of s (old_line c k p)) (port_of s (old_line c k p)) ≡ Some e =
    ap (λ (n : ℕ). end_under c.all s n (port_of s (old_line c k p))) told.0 ∙ ap (end_under c.all s was.0.node) told.1 ∙ ap (λ (x : Side). end_under c.all x was.0.node was.0.port) (sym was.2) ∙ was.1 in
    (stands.0, ap (λ (o : Option ℕ). slice_get (under s c.book o) stands.0) (same ∙ sym has) ∙ at)

-- a wire that is not at the box on that side
stands_other : (c : Scene) (k : ℕ) (l : Line) (s : Side) → IsMoved c → StandsIn c s k l → box_of c.side l ≢ c.key → Stands c k s l
stands_other c k l s v t ne =
    (t.0, ap (λ (xs : List ℕ). slice_get xs t.0) (keys_stay c s (box_of s l) (port_of s l) v (λ a b. ne (ap (λ (x : Side). box_of x l) (sym b) ∙ a))) ∙ t.1)

-- a wire whose port has gone elsewhere
stands_went : (c : Scene) (k m : ℕ) (l : Line) (s : Side) → IsMoved c → ((x : Side) → StandsIn c x k l) → box_of c.side l ≡ c.key → Goes (jacks_of (olds c)) c.jacks (port_of c.side l) m → Stands c k s (with_port c.side m l)
stands_went c k m l s v there at g = elim (cases_side s c.side) [
  | inl same ↦
      let t = there c.side in
      let P : Side → Type 0 = λ x. Stands c k x (with_port c.side m l) in
      let e = ap (λ (n : ℕ). keys_after c c.side n (port_of c.side (with_port c.side m l))) (box_with c.side c.side m l ∙ at)
      ∙ ap (keys_after c c.side c.key) (port_with c.side m l) ∙ keys_went c (port_of c.side l) m v g
      ∙ ap (λ (n : ℕ). under c.side c.book (end_under c.all c.side n (port_of c.side l))) (sym at) in
      subst P (sym same) (t.0, ap (λ (xs : List ℕ). slice_get xs t.0) e ∙ t.1)
  | inr differ ↦
      let t = there s in
      let e = ap (λ (n : ℕ). keys_after c s n (port_of s (with_port c.side m l))) (box_with s c.side m l) ∙ ap (keys_after c s (box_of s l)) (port_kept s c.side m l differ)
      ∙ keys_stay c s (box_of s l) (port_of s l) v (λ a. differ) in
      (t.0, ap (λ (xs : List ℕ). slice_get xs t.0) e ∙ t.1)
]

pub there_after : (c : Scene) → IsMoved c → AreThere c → NoneIsGone c → (k : ℕ) (l : Line) (s t : Side) → line_in c.spots_after c.book_after k ≡ Some l → Stands c k s l → Stands c k t l
there_after c v there gone k l s t h stands =
    let w = wire_of c.spots_after c.book_after k l h in
    let wire = sym (v.drops.wires k) ∙ w.1 in
    let was = old_line c k w.0 in
    let told = old_told c k w.0 wire in
    let before = stood c k l w.0 s v wire stands in
    let P : Line → Type 0 = λ x. Stands c k t x in
    elim (cases_eq (box_of c.side was) c.key) [
      | inr ne ↦ subst P (same_Some was l (sym (lines_stay c k was s v there told before ne) ∙ h)) (stands_other c k was t v (there k was s t told before) ne)
      | inl at ↦ elim (goes_or_not (jacks_of (olds c)) c.jacks (port_of c.side was)) [
        | inl g ↦
            let now = with_port c.side g.0 was in
            subst P (same_Some now l (sym (lines_went c k g.0 was s v there told before at g.1) ∙ h)) (stands_went c k g.0 was t v (λ x. there k was s x told before) at g.1)
        | inr never ↦
            let here = there k was s c.side told before in
            let none = ap (λ (n : ℕ). under c.side c.book (end_under c.all c.side n (port_of c.side was))) at ∙ gone (port_of c.side was) never in
            absurd (empty_at here.0 k (ap (λ (xs : List ℕ). slice_get xs here.0) (sym none) ∙ here.1))
      ]
    ]
