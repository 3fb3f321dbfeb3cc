-- The digits of a fraction, one at a time.
use Rattle.std.proofs.Common.{◌≡◌, ℕ, zero, suc, ◌+◌, ◌-◌, ◌*◌, ◌/◌, ◌%◌, ◌^◌, ◌<◌, ◌∷◌, false, refl, ap, ◌∙◌, arith}
use Rattle.std.proofs.Math.Nat.{pow-zero, pow-suc, one-le-pow, div-lt_iff_lt-mul}
use Rattle.std.proofs.lemmas.Bool.Decides.{nat_tests}
use Rattle.std.specs.Prelude.{nat_eq}
use Rattle.pd_num.specs.Printing.{places_text}

pub record IsStep (places rest unit : ℕ) : Type 0 where
  pub some : 0 < places
  pub above : 0 < unit
  pub digit : rest / unit < 10
  pub below : rest % unit < 10 ^ (places - 1)
  pub text : places_text places rest ≡ (48 + rest / unit) ∷ places_text (places - 1) (rest % unit)

pub place_step : (places rest unit : ℕ) → 0 < rest → rest < 10 ^ places → unit ≡ 10 ^ (places - 1) → IsStep places rest unit
place_step zero rest unit some small is = absurd (omega (arith, pow-zero 10))
place_step (suc k) rest unit some small is =
    let p : suc k - 1 ≡ k = omega arith in
    let u : unit ≡ 10 ^ k = is ∙ ap (λ x. 10 ^ x) p in
    let pos : 0 < unit = omega (arith, one-le-pow k 10 (omega arith)) in
    let less : rest < 10 * unit = omega (arith, pow-suc 10 k) in
    let low : rest % unit < unit = omega arith in
    let test : nat_eq rest 0 ≡ false = grind (arith, nat_tests) in
    record {
      some = omega arith;
      above = pos;
      digit = (div-lt_iff_lt-mul {k = unit} {x = rest} {y = 10} pos).1 less;
      below = rw p (omega arith);
      text = rw (p, u, test) refl;
    }
