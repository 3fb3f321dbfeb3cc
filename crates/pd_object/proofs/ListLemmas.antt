-- Lists that are cut.
use Rattle.std.proofs.Common.{◌≡◌, ℕ, ◌+◌, ◌-◌, ◌≤◌, min, List, ◌++◌, length, take, sym, ◌∙◌, ap, arith}
use Rattle.std.proofs.lemmas.List.{take_min, length-take}
use Rattle.std.proofs.Math.Seq.{take-append-add}

-- a list that goes on, cut behind it
pub cut_behind : {X : Type 0} → (xs ys : List X) (most : ℕ) → length xs ≤ most → take most (xs ++ ys) ≡ xs ++ take (most - length xs) ys
cut_behind xs ys most below =
    let e : most ≡ length xs + (most - length xs) = omega arith in
    ap (λ (n : ℕ). take n (xs ++ ys)) e ∙ take-append-add xs ys (most - length xs)

pub grown_up_to : {X : Type 0} → (xs ys : List X) (most count : ℕ) → length xs ≤ most → count ≡ min (most - length xs) (length ys) → xs ++ take count ys ≡ take most (xs ++ ys)
grown_up_to xs ys most count below e =
    ap (λ (n : ℕ). xs ++ take n ys) e ∙ ap (λ (zs : List _). xs ++ zs) (take_min (most - length xs) ys) ∙ sym (cut_behind xs ys most below)

pub cut_short : {X : Type 0} → (most : ℕ) (xs ys : List X) → ys ≡ take most xs → length ys ≤ most
cut_short most xs ys e = omega (arith, ap length e, length-take most xs)
