-- Labels given anew along a list.
use Rattle.std.proofs.Common.{◌≡◌, ◌≢◌, ◌<◌, ◌≤◌, ℕ, ◌+◌, ◌*◌, ◌/◌, List, length, Some, slice_get, get_or, set, refl, sym, ap, ◌∙◌, subst, arith}
use Rattle.std.specs.Prelude.{min}
use mathlib.Core.Logic.{⊎_elim}
use Rattle.std.proofs.lemmas.Bool.{cases_eq}
use Rattle.std.proofs.lemmas.List.{get_or-set_same, get_or-set_other, length-set}
use Rattle.std.proofs.lemmas.Option.{same_Some, slice_get_within}
use Rattle.std.proofs.Math.Nat.{mul-lt-mul_of_pos_right, le-div_iff_mul-le}
use Rattle.pd_label.specs.Labels.{label_of, Rise, RiseBut, IsBetween, Reach, AreApart, IsAway, PutsLabel}

-- the first n keys have even labels, and keys outside the list have theirs
pub record Labelled (old new keys : List ℕ) (step n : ℕ) : Type 0 where
  pub long : length new ≡ length old
  pub even : Reach old keys → AreApart keys → (i k : ℕ) → i < n → slice_get keys i ≡ Some k → label_of new k ≡ (i + 1) * step
  pub away : (k : ℕ) → IsAway keys k → label_of new k ≡ label_of old k

pub labelled_none : (old keys : List ℕ) (step : ℕ) → Labelled old old keys step 0
labelled_none old keys step = record { long = refl; even = λ R A i k l at. absurd (omega (arith, l)); away = λ k a. refl }

pub labelled_next : (old new keys : List ℕ) (step n k : ℕ) → slice_get keys n ≡ Some k → Labelled old new keys step n
    → Labelled old (set new k ((n + 1) * step)) keys step (n + 1)
labelled_next old new keys step n k at L =
    record {
      long = length-set new k _ ∙ L.long;
      even = λ R A i x l is. let in_range : k < length new = (let r = R n k at in let e = L.long in omega (arith, r, e)) in ⊎_elim
          (λ (e : x ≡ k). let same : i ≡ n = A i n k (is ∙ ap (λ y. Some y) e) at in
          ap (λ y. get_or (set new k ((n + 1) * step)) y 0) e ∙ get_or-set_same new k ((n + 1) * step) 0 in_range ∙ ap (λ y. (y + 1) * step) (sym same))
          (λ (d : x ≢ k). let differs : i ≢ n = (λ e. d (same_Some x k (sym is ∙ ap (slice_get keys) e ∙ at))) in
          get_or-set_other new k x ((n + 1) * step) 0 d ∙ L.even R A i x (omega (arith, l, differs)) is)
          (cases_eq x k);
      away = λ x a. get_or-set_other new k x ((n + 1) * step) 0 (λ e. a n (at ∙ ap (λ y. Some y) (sym e))) ∙ L.away x a;
    }

pub labelled_all : (old new keys : List ℕ) (step n : ℕ) → 0 < step → length keys ≤ n → Labelled old new keys step n → Reach old keys → AreApart keys → Rise new keys
labelled_all old new keys step n pos all L R A = λ i j a b l at bt.
    let il = slice_get_within keys i a at in
    let jl = slice_get_within keys j b bt in
    let e = L.even R A i a (omega (arith, il, all)) at in
    let f = L.even R A j b (omega (arith, jl, all)) bt in
    let m : (i + 1) * step < (j + 1) * step = mul-lt-mul_of_pos_right {m = i + 1} {n = j + 1} {k = step} (omega (arith, l)) pos in
    omega (arith, e, f, m)

-- the key of the number n has this label, and every other key has its own
pub record Puts (old new keys : List ℕ) (n x : ℕ) : Type 0 where
  pub here : (k : ℕ) → slice_get keys n ≡ Some k → label_of new k ≡ x
  pub others : (i k : ℕ) → i ≢ n → slice_get keys i ≡ Some k → label_of new k ≡ label_of old k

pub puts_set : (old keys : List ℕ) (n k x : ℕ) → Reach old keys → AreApart keys → slice_get keys n ≡ Some k → Puts old (set old k x) keys n x
puts_set old keys n k x R A at = record {
  here = λ l is. ap (λ y. get_or (set old k x) y 0) (same_Some l k (sym is ∙ at)) ∙ get_or-set_same old k x 0 (R n k at);
  others = λ i l d is. get_or-set_other old k l x 0 (λ e. d (A i n k (is ∙ ap (λ y. Some y) e) at));
}

pub put_rises : (old new keys : List ℕ) (n x : ℕ) → Puts old new keys n x → IsBetween old keys n x → RiseBut n old keys → Rise new keys
put_rises old new keys n x P B R = λ i j a b l at bt. ⊎_elim
    (λ (e : i ≡ n).
    let ha = P.here a (ap (slice_get keys) (sym e) ∙ at) in
    let hb = P.others j b (λ f. irrefl i j l (e ∙ sym f)) bt in
    let lt = B.below j b (subst (λ y. y < j) e l) bt in
    omega (arith, ha, hb, lt))
    (λ (d : i ≢ n). ⊎_elim
    (λ (e : j ≡ n).
    let ha = P.others i a d at in
    let hb = P.here b (ap (slice_get keys) (sym e) ∙ bt) in
    let lt = B.above i a (subst (λ y. i < y) e l) at in
    omega (arith, ha, hb, lt))
    (λ (f : j ≢ n).
    let ha = P.others i a d at in
    let hb = P.others j b f bt in
    let lt = R i j a b l d f at bt in
    omega (arith, ha, hb, lt))
    (cases_eq j n))
    (cases_eq i n)
  where
    irrefl : (i j : ℕ) → i < j → i ≡ j → ⊥
    irrefl i j l e = absurd (omega (arith, l, e))

-- even steps are no less than 1
pub some_step : (keys : List ℕ) (step : ℕ) → length keys + 1 ≤ 18446744073709551615 → step ≡ min (18446744073709551615 / (length keys + 1)) 64 → 0 < step
some_step keys step l e =
    let one : 1 ≤ 18446744073709551615 / (length keys + 1) = (le-div_iff_mul-le {k = length keys + 1} {x = 1} {y = 18446744073709551615} (omega arith)).1 (omega (arith, l)) in
    omega (arith, e, one)

-- one key is labelled, between the others
pub put_one : (old new keys : List ℕ) (n k x : ℕ) → slice_get keys n ≡ Some k → new ≡ set old k x → (RiseBut n old keys → IsBetween old keys n x) → PutsLabel old new keys n
put_one old new keys n k x at e B =
    subst (λ (y : List ℕ). PutsLabel old y keys n) (sym e) (record {
      rise = λ R A F. put_rises old (set old k x) keys n x (puts_set old keys n k x R A at) (B F) F;
      others = λ l a. get_or-set_other old k l x 0 (λ f. a n (at ∙ ap (λ y. Some y) (sym f)));
      long = length-set old k x;
    })
