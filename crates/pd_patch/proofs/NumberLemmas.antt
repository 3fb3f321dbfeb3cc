-- Numbers under keys, one box after another and one canvas after another.
use Rattle.std.proofs.Common.{arith, ◌≡◌, ℕ, ◌+◌, ◌<◌, ◌≤◌, List, length, sym, ap, ◌∙◌, subst, inl, inr}
use Rattle.std.specs.Prelude.{slice_get, Some, None}
use lib.ListN.{get_or}
use Rattle.std.proofs.lemmas.Bool.{cases_eq, cases_lt}
use Rattle.std.proofs.lemmas.List.{get_or_past}
use Rattle.std.proofs.lemmas.Option.{none-some, slice_get-get_or}
use Rattle.pd_grove.specs.declared.grove.Grove.{Grove}
use Rattle.pd_grove.specs.Telling.{keys_in}
use Rattle.pd_web.specs.Canvases.{keys_at, IsOwn}
use Rattle.pd_patch.specs.Numbers.{StayBut, Spares, AreApart, AreUnderFirst, AreUnder, AreNumbered}
use Rattle.pd_patch.proofs.ListingLemmas.{step}

-- one box more
pub under_more : (keys old new : List ℕ) (n : ℕ) → n < length keys → slice_get new (get_or keys n 0) ≡ Some n → StayBut old new (get_or keys n 0)
    → (AreApart keys → AreUnderFirst n old keys) → AreApart keys → AreUnderFirst (n + 1) new keys
under_more keys old new n l at stay h apart =
    step (λ i k. slice_get new k ≡ Some i) keys n
    (λ i k less e. stay k i
    (λ same. let there : slice_get keys n ≡ Some k = slice_get-get_or keys n 0 l ∙ ap (λ x. Some x) (sym same) in
    let twice = apart i n k e there in omega (arith, less, twice))
    (h apart i k less e))
    at

pub spares_more : (keys old now new : List ℕ) (n : ℕ) → n < length keys → StayBut now new (get_or keys n 0) → Spares old now keys → Spares old new keys
spares_more keys old now new n l stay h = record {
  others = λ k m out e. stay k m
      (λ same. out n (slice_get-get_or keys n 0 l ∙ ap (λ x. Some x) (sym same)))
      (h.others k m out e);
}

canvas_there : (g : Grove) (c i k : ℕ) → slice_get (keys_at g c) i ≡ Some k → c < length g.boards.slots
canvas_there g c i k h = elim (cases_lt c (length g.boards.slots)) [
  | inl l ↦ l
  | inr l ↦ absurd (none-some k (sym (ap (λ o. slice_get (keys_in o) i) (get_or_past g.boards.slots c None l)) ∙ h))
]

-- where the numbers of the canvases below a key that is above all are right, all are
pub all_numbered : (g : Grove) (numbers : List ℕ) (end : ℕ) → length g.boards.slots ≤ end → ((c : ℕ) → c < end → IsOwn g c → AreUnder numbers (keys_at g c)) → AreNumbered g numbers
all_numbered g numbers end l h = λ c own i k at. let there = canvas_there g c i k at in h c (omega (arith, l, there)) own i k at

-- one canvas more
pub numbered_more : (g : Grove) (old new : List ℕ) (n : ℕ) → (AreApart (keys_at g n) → AreUnder new (keys_at g n)) → Spares old new (keys_at g n)
    → ((c : ℕ) → c < n → IsOwn g c → AreUnder old (keys_at g c)) → (c : ℕ) → c < n + 1 → IsOwn g c → AreUnder new (keys_at g c)
numbered_more g old new n own spares h c l is_own i k at = elim (cases_eq c n) [
  | inl same ↦
      let apart : AreApart (keys_at g n) = subst (λ x. AreApart (keys_at g x)) same is_own.once in
      own apart i k (subst (λ x. slice_get (keys_at g x) i ≡ Some k) same at)
  | inr other ↦
      let less : c < n = omega (arith, l, other) in
      spares.others k i (λ j there. let same : n ≡ c = is_own.alone n i j k at there in omega (arith, less, same)) (h c less is_own i k at)
]
