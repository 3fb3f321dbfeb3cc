-- The wires that are told are in the order of their outlets and fan-outs.
use Rattle.std.proofs.Common.{◌≡◌, ℕ, ◌+◌, ◌&&◌, Bool, true, false, cond, not, List, [], ◌∷◌, ◌++◌, length, slice_get, Some, refl, sym, ap, ◌∙◌, subst, inl, inr}
use Rattle.std.specs.List.{range_with_len}
use Rattle.std.proofs.lemmas.Option.{none-some, same_Some}
use Rattle.pd_object.specs.declared.kinds.Kind.{Kind}
use Rattle.pd_grove.specs.declared.ports.Side.TheVariants.{Outlets}
use Rattle.pd_web.specs.declared.lines.Line.{Line}
use Rattle.pd_web.specs.declared.web.Hop.{Hop}
use Rattle.pd_web.specs.Canvases.{keys_at}
use Rattle.pd_web.specs.Hops.{ports_told, fan_hops}
use Rattle.pd_web.specs.Changes.{line_told, Meet}
use Rattle.pd_patch.specs.declared.patch.Patch.{Patch}
use Rattle.pd_patch.specs.Listing.{IsThere}
use Rattle.pd_wiring.specs.Changes.{CanRewire}
use Rattle.pd_taking.specs.Loosening.{line_at}
use Rattle.pd_misfits.specs.declared.wires.BoxWire.{BoxWire}
use Rattle.pd_misfits.specs.Misfits.{is_at, turning, turns, wire_of}
use Rattle.pd_misfits.specs.Shedding.{is_left, IsWired}
use Rattle.pd_misfits.proofs.ListLemmas.{listed_in, IsIn}
use Rattle.pd_misfits.proofs.ShedLemmas.{among_some}
use Rattle.pd_misfits.proofs.ToldLemmas.{turning_among, turning_picked, turning_told}
use Rattle.pd_turning.specs.Notes.{first_of, hops_behind, FollowFans, StandOnce}
use Rattle.pd_turning.proofs.ListLemmas.{by_cases, chosen_at, from_one, not_left, picks_of, yes_no}
use Rattle.pd_turning.proofs.BehindLemmas.{behind_is}

in_behind : (ahead : List Hop) (h : Hop) (rest : List Hop) (x : Hop) → IsIn x rest → IsIn x (ahead ++ h ∷ rest)
in_behind [] h rest x i = inr i
in_behind (y ∷ ahead) h rest x i = inr (in_behind ahead h rest x i)

module _ (p : Patch) (canvas key : ℕ) (k : Kind) (R : CanRewire p) (meet : Meet p.web) (W : IsWired p.web) (once : StandOnce p.web) (here : IsThere (keys_at p.grove canvas) key) where
  abbrev told : List BoxWire
  told = turning p canvas key k

  abbrev wire_at : ℕ → ℕ → Hop → BoxWire
  wire_at node outlet h = wire_of p.numbers.items h.key (line_at Outlets node outlet h)

  abbrev is_told : ℕ → ℕ → Hop → Bool
  is_told node outlet h = is_at key (line_at Outlets node outlet h) && turns p.web key k (line_at Outlets node outlet h)

  -- a wire of an outlet of the canvas is one of them just where it is picked
  picked_not_left : (node outlet place : ℕ) (h : Hop) → slice_get (keys_at p.grove canvas) place ≡ Some node → IsIn h (fan_hops p.web node outlet) → is_told node outlet h ≡ true → is_left told h ≡ false
  picked_not_left node outlet place h at i e = ap not (turning_among p canvas key k R meet here node outlet place h at i e)

  left_not_picked : (node outlet : ℕ) (h : Hop) → IsIn h (fan_hops p.web node outlet) → is_left told h ≡ false → is_told node outlet h ≡ true
  left_not_picked node outlet h i e =
      let s = among_some told h.key (not_left told h e) in
      let l = listed_in h (fan_hops p.web node outlet) i in
      let line : s.0.line ≡ line_at Outlets node outlet h = same_Some s.0.line (line_at Outlets node outlet h)
      (sym (turning_told p canvas key k s.0 W s.1.0) ∙ ap (line_told p.web) (sym s.1.1) ∙ W.fans node outlet l.0 h l.1) in
      subst (λ (x : Line). is_at key x && turns p.web key k x ≡ true) line (turning_picked p canvas key k s.0 s.1.0)

  -- the first of them among the wires of an outlet
  first_told : (node outlet place : ℕ) (hops : List Hop) (f : ℕ) → slice_get (keys_at p.grove canvas) place ≡ Some node → ((x : Hop) → IsIn x hops → IsIn x (fan_hops p.web node outlet))
      → first_of told hops ≡ Some f → (n : BoxWire) × (slice_get (picks_of (is_told node outlet) (wire_at node outlet) hops) 0 ≡ Some n) × (n.key ≡ f)
  first_told node outlet place [] f at all e = absurd (none-some f e)
  first_told node outlet place (x ∷ hops) f at all e =
      let rec = first_told node outlet place hops f at (λ y i. all y (inr i)) in
      by_cases (is_left told x)
      (λ t.
      let gone : is_told node outlet x ≡ false = by_cases (is_told node outlet x)
      (λ q. absurd (yes_no (sym t ∙ picked_not_left node outlet place x at (all x (inl refl)) q))) (λ q. q) in
      let r = rec (sym (ap (λ b. cond b (first_of told hops) (Some x.key)) t) ∙ e) in
      (r.0, ap (λ b. slice_get (cond b (wire_at node outlet x ∷ []) [] ++ picks_of (is_told node outlet) (wire_at node outlet) hops) 0) gone ∙ r.1, r.2))
      (λ t.
      let q = left_not_picked node outlet x (all x (inl refl)) t in
      let same : x.key ≡ f = same_Some x.key f (sym (ap (λ b. cond b (first_of told hops) (Some x.key)) t) ∙ e) in
      (wire_at node outlet x, ap (λ b. slice_get (cond b (wire_at node outlet x ∷ []) [] ++ picks_of (is_told node outlet) (wire_at node outlet) hops) 0) q, same))

  pub told_follow : FollowFans p.web told
  told_follow i m f at first =
      let keys = keys_at p.grove canvas in
      let a = from_one _ keys i m at in
      let node = a.of in
      let b = from_one _ (range_with_len 0 (length (ports_told p.web Outlets node))) a.place m a.stands in
      let outlet = b.of in
      let c = chosen_at (is_told node outlet) (wire_at node outlet) (fan_hops p.web node outlet) b.place m b.stands in
      let stands = listed_in node keys a.is_in in
      let found : first_of told c.rest ≡ Some f = ap (first_of told) (sym (behind_is p.web node outlet c.of c.ahead c.rest once c.parts)) ∙ subst (λ (x : BoxWire). first_of told (hops_behind p.web x) ≡ Some f) (sym c.is) first in
      let n = first_told node outlet stands.0 c.rest f stands.1 (λ x j. subst (λ (xs : List Hop). IsIn x xs) (sym c.parts) (in_behind c.ahead c.of c.rest x j)) found in
      (n.0, a.next n.0 (b.next n.0 (c.next ∙ n.1)), n.2)
