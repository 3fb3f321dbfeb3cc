-- The ports of a kind.
use Rattle.std.proofs.Common.{◌≡◌, ◌≢◌, ℕ, zero, suc, ◌<◌, ◌≤◌, Bool, nat_lt, List, [], ◌∷◌, ◌++◌, map, length, Some, refl, sym, ap, ◌∙◌, inl, inr, lt-ltb, le-ltb, arith}
use Rattle.std.specs.Prelude.{slice_get, ◌⊎◌}
use mathlib.Core.Logic.{⊎_elim}
use Rattle.std.proofs.lemmas.Bool.{cases_eq, cases_lt}
use Rattle.std.proofs.lemmas.List.{length-append, length-map}
use Rattle.std.proofs.lemmas.Option.{slice_get_past}
use Rattle.pd_object.specs.declared.kinds.Kind.{Kind}
use Rattle.pd_object.specs.Ports.{Ports, ports_of}
use Rattle.pd_grove.specs.declared.ports.Side.TheVariants.{Inlets, Outlets}
use Rattle.pd_web.specs.Jacks.{plain_jack, marks, kind_jacks}
use Rattle.pd_web.proofs.JackLemmas.{inlets_marked, outlets_marked}
use Rattle.pd_misfits.specs.Ports.{plain_jack_if}

marks_length : (first n : ℕ) → length (marks first n) ≡ n
marks_length first zero = refl
marks_length first (suc n) =
    let a = length-append (marks first n) (nat_lt n first ∷ []) in
    let b = marks_length first n in
    omega (arith, a, b)

mapped_at : (bs : List Bool) (c : Bool) (i : ℕ) → i < length bs → slice_get (map plain_jack (bs ++ c ∷ [])) i ≡ slice_get (map plain_jack bs) i
mapped_at [] c i l = absurd (omega (arith, l))
mapped_at (b ∷ bs) c zero l = refl
mapped_at (b ∷ bs) c (suc i) l = mapped_at bs c i (omega (arith, l))

mapped_last : (bs : List Bool) (c : Bool) (i : ℕ) → i ≡ length bs → slice_get (map plain_jack (bs ++ c ∷ [])) i ≡ Some (plain_jack c)
mapped_last [] c zero e = refl
mapped_last [] c (suc i) e = absurd (omega (arith, e))
mapped_last (b ∷ bs) c zero e = absurd (omega (arith, e))
mapped_last (b ∷ bs) c (suc i) e = mapped_last bs c i (omega (arith, e))

marked_at : (first n i : ℕ) → slice_get (map plain_jack (marks first n)) i ≡ plain_jack_if (nat_lt i n) (nat_lt i first)
marked_at first zero i = sym (ap (λ b. plain_jack_if b (nat_lt i first)) (le-ltb i 0 (omega arith)))
marked_at first (suc n) i = ⊎_elim
    (λ (l : i < n).
    mapped_at (marks first n) (nat_lt n first) i (let e = marks_length first n in omega (arith, e, l)) ∙ marked_at first n i
    ∙ ap (λ b. plain_jack_if b (nat_lt i first)) (lt-ltb i n l ∙ sym (lt-ltb i (suc n) (omega (arith, l)))))
    (λ (l : n ≤ i). past l (cases_eq i n)) (cases_lt i n)
  where
    past : n ≤ i → (i ≡ n) ⊎ (i ≢ n) → slice_get (map plain_jack (marks first (suc n))) i ≡ plain_jack_if (nat_lt i (suc n)) (nat_lt i first)
    past l (inl e) =
        mapped_last (marks first n) (nat_lt n first) i (let m = marks_length first n in omega (arith, e, m))
        ∙ ap (λ x. Some (plain_jack (nat_lt x first))) (sym e) ∙ sym (ap (λ b. plain_jack_if b (nat_lt i first)) (lt-ltb i (suc n) (omega (arith, e))))
    past l (inr d) =
        let m = marks_length first (suc n) in
        let a = length-map (marks first (suc n)) plain_jack in
        slice_get_past (map plain_jack (marks first (suc n))) i (omega (arith, m, a, l, d)) ∙ sym (ap (λ b. plain_jack_if b (nat_lt i first)) (le-ltb i (suc n) (omega (arith, l, d))))

pub inlet_jack : (k : Kind) (p : Ports) (i : ℕ) → p ≡ ports_of k → plain_jack_if (nat_lt i p.inlets) (nat_lt i p.signal_inlets) ≡ slice_get (kind_jacks Inlets k) i
inlet_jack k p i e =
    ap (λ (x : Ports). plain_jack_if (nat_lt i x.inlets) (nat_lt i x.signal_inlets)) e ∙ sym (marked_at (ports_of k).signal_inlets (ports_of k).inlets i)
    ∙ ap (λ (bs : List Bool). slice_get (map plain_jack bs) i) (inlets_marked k)

pub outlet_jack : (k : Kind) (p : Ports) (i : ℕ) → p ≡ ports_of k → plain_jack_if (nat_lt i p.outlets) (nat_lt i p.signal_outlets) ≡ slice_get (kind_jacks Outlets k) i
outlet_jack k p i e =
    ap (λ (x : Ports). plain_jack_if (nat_lt i x.outlets) (nat_lt i x.signal_outlets)) e ∙ sym (marked_at (ports_of k).signal_outlets (ports_of k).outlets i)
    ∙ ap (λ (bs : List Bool). slice_get (map plain_jack bs) i) (outlets_marked k)
