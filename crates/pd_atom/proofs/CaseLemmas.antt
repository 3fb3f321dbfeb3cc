-- Cases of tests and of results.
use Rattle.std.proofs.Common.{◌≡◌, ◌≢◌, ℕ, Bool, true, false, eqb, IsOk, OnOk, IfOk, Result, Ok, Err, refl, sym, arith, true≢false}
use Rattle.std.proofs.lemmas.Bool.Decides.{nat_tests}

-- what holds where a call succeeds, of one that does
pub on_ok : {A E : Type 0} {P : Type 0} → (r : Result A E) → IsOk r → OnOk r P → P
on_ok (Ok a) ok p = p
on_ok (Err e) ok p = absurd (true≢false (sym ok))

pub if_ok : {A E : Type 0} {P : A → Type 0} → (r : Result A E) → IsOk r → IfOk r P → (a : A) × P a
if_ok (Ok a) ok p = (a, p)
if_ok (Err e) ok p = absurd (true≢false (sym ok))

-- by cases of a test
pub by_test : {P : Type 0} → (b : Bool) → (b ≡ true → P) → (b ≡ false → P) → P
by_test true yes_ no_ = yes_ refl
by_test false yes_ no_ = no_ refl

pub eqb-true : (m n : ℕ) → eqb m n ≡ true → m ≡ n
eqb-true m n h = grind (arith, nat_tests)

pub eqb-false : (m n : ℕ) → eqb m n ≡ false → m ≢ n
eqb-false m n h e = grind (arith, nat_tests)
