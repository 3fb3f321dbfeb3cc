-- Outlets that carry signals, without one of them.
use Rattle.std.proofs.Common.{◌≡◌, ◌≢◌, ℕ, zero, suc, ◌<◌, ◌≤◌, ◌||◌, Bool, true, false, List, [], ◌∷◌, length, slice_get, inl, inr, true≢false, refl, sym, ap, ◌∙◌, arith}
use Rattle.std.specs.Prelude.{if◌then◌else◌}
use Rattle.std.specs.List.{insert, list_any}
use Rattle.std.proofs.lemmas.Bool.{cases_lt}
use Rattle.std.proofs.lemmas.Option.{slice_get_past}
use Rattle.pd_web.specs.declared.jacks.Jack.{Jack}
use Rattle.pd_web.specs.Hops.{signal_in}
use Rattle.pd_patch.specs.Values.{block_count}
use Rattle.pd_following.proofs.ReserveLemmas.{no_signal, some_signal}
use Rattle.pd_leaving.specs.Room.{without_at}

abbrev sounds : List Jack → Bool
sounds js = list_any (λ (j : Jack). j.is_signal) js

or_true : (b : Bool) → (b || true) ≡ true
or_true true = refl
or_true false = refl

pub other_sounds : (js : List Jack) (port i : ℕ) → i ≢ port → signal_in (slice_get js i) ≡ true → list_any (λ (j : Jack). j.is_signal) (without_at js port) ≡ true
other_sounds [] port i d e = absurd (true≢false (sym e))
other_sounds (j ∷ js) zero zero d e = absurd (d refl)
other_sounds (j ∷ js) zero (suc i) d e = some_signal js i e
other_sounds (j ∷ js) (suc port) zero d e = ap (λ (b : Bool). b || sounds (without_at js port)) e
other_sounds (j ∷ js) (suc port) (suc i) d e = ap (λ (b : Bool). j.is_signal || b) (other_sounds js port i (λ f. d (ap suc f)) e) ∙ or_true j.is_signal

pub no_other_sounds : (js : List Jack) (port : ℕ) → ((i : ℕ) → i ≢ port → signal_in (slice_get js i) ≡ false) → list_any (λ (j : Jack). j.is_signal) (without_at js port) ≡ false
no_other_sounds [] port h = refl
no_other_sounds (j ∷ js) zero h = no_signal js (length js) (omega arith) (λ i l. h (suc i) (λ e. cc))
no_other_sounds (j ∷ js) (suc port) h = ap (λ (b : Bool). b || sounds (without_at js port)) (h 0 (λ e. cc)) ∙ no_other_sounds js port (λ i d. h (suc i) (λ e. d (omega (arith, e))))

-- where the one was put in, those without it are those before
pub without_inserted : (js : List Jack) (at : ℕ) (j : Jack) → at ≤ length js → without_at (insert js at j) at ≡ js
without_inserted [] zero j l = refl
without_inserted (x ∷ js) zero j l = refl
without_inserted [] (suc at) j l = absurd (omega (arith, l))
without_inserted (x ∷ js) (suc at) j l = ap (λ ys. x ∷ ys) (without_inserted js at j (omega (arith, l)))

pub none_before : (js : List Jack) (port n : ℕ) → length js ≤ n → ((i : ℕ) → i < n → i ≢ port → signal_in (slice_get js i) ≡ false) → list_any (λ (j : Jack). j.is_signal) (without_at js port) ≡ false
none_before js port n l h = no_other_sounds js port (λ i d. elim (cases_lt i n) [
  | inl m ↦ h i m d
  | inr m ↦ ap signal_in (slice_get_past js i (omega (arith, l, m)))
])

-- how many are left
pub one_shorter : (js : List Jack) (port : ℕ) → port < length js → suc (length (without_at js port)) ≡ length js
one_shorter [] port l = absurd (omega (arith, l))
one_shorter (j ∷ js) zero l = refl
one_shorter (j ∷ js) (suc port) l = ap suc (one_shorter js port (omega (arith, l)))

pub as_long : (js : List Jack) (port : ℕ) → length js ≤ port → length (without_at js port) ≡ length js
as_long [] port l = refl
as_long (j ∷ js) zero l = absurd (omega (arith, l))
as_long (j ∷ js) (suc port) l = ap suc (as_long js port (omega (arith, l)))

-- so many blocks there are, where one of so many outlets carries signals
pub count_then : (js : List Jack) (n : ℕ) → list_any (λ (j : Jack). j.is_signal) js ≡ true → length js ≡ n → n ≡ block_count js
count_then js n any count = sym count ∙ sym (ap (λ (b : Bool). if b then length js else 0) any)
