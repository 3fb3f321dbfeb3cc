-- Which ports ends are, one port after the other.
use Rattle.std.proofs.Common.{◌≡◌, ℕ, ◌+◌, ◌<◌, List, length, get_or, take, slice_get, Option, Some, refl, sym, ap, ◌∙◌, inl, inr, arith}
use Rattle.std.proofs.lemmas.Bool.{cases_lt}
use Rattle.pd_grove.specs.declared.ports.Side.{Side}
use Rattle.pd_web.specs.declared.sockets.Port.{Port}
use Rattle.pd_web.specs.declared.sockets.Spot.{Spot}
use Rattle.pd_ports.specs.Moves.{AreApart, Respots}
use Rattle.pd_ports.proofs.ListLemmas.{nothing, told_front, told_here, told_before, told_last, told_still, told_next}

pub respots_begun : (spots : List Spot) (ports : List Port) (side : Side) (key : ℕ) → Respots spots spots (take 0 ports) side key
respots_begun spots ports side key = record { told = λ m e h. absurd (nothing (λ (p : Port). p.end) e m h); others = λ e h. refl; len = refl }

pub respots_port : (a b c : List Spot) (ports : List Port) (side : Side) (key i : ℕ) (d : Port) → i < length ports → AreApart a ports → Respots a b (take i ports) side key
    → ((e : ℕ) → (get_or ports i d).end ≡ Some e → slice_get c e ≡ Some (record { node = key; side = side; port = i }))
    → ((e : ℕ) → ((get_or ports i d).end ≡ Some e → ⊥) → slice_get c e ≡ slice_get b e) → length c ≡ length b → Respots a c (take (i + 1) ports) side key
respots_port a b c ports side key i d l apart first is others far =
    let end : Port → Option ℕ = λ p. p.end in
    let spot : ℕ → Spot = λ n. record { node = key; side = side; port = n } in
    record {
      told = λ m e h.
          let r = told_front end ports (i + 1) m e h in
          let below = r.0 in
          elim (cases_lt m i) [
            | inl x ↦
                others e (λ q. let same = apart.once m i e r.1 (told_here end ports i e d l q) in absurd (omega (arith, same, x)))
                ∙ first.told m e (told_before end ports i m e x r.1)
            | inr y ↦ let same : m ≡ i = omega (arith, below, y) in is e (told_last end ports i m e d l same r.1) ∙ ap (λ (n : ℕ). Some (spot n)) (sym same)
          ];
      others = λ e h. others e (λ q. h (told_next end ports i e d l q)) ∙ first.others e (λ q. h (told_still end ports i e q));
      len = far ∙ first.len;
    }

pub next_within : (a b : List Spot) (ports : List Port) (side : Side) (key i e : ℕ) (d : Port) → i < length ports → AreApart a ports → Respots a b (take i ports) side key → (get_or ports i d).end ≡ Some e → e < length b
next_within a b ports side key i e d l apart first h = let w = apart.within i e (told_here (λ (p : Port). p.end) ports i e d l h) in let f = first.len in omega (arith, w, f)
