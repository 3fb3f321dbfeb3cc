-- What each voice of a made patch gives, in a row.
use Rattle.std.proofs.Common.{◌≡◌, ℕ, zero, suc, ◌+◌, ◌*◌, List, [], ◌∷◌, ◌++◌, length, refl, ap, ◌∙◌, arith, add-one, length-append}
use Rattle.std.specs.List.{flat_map}
use Rattle.std.proofs.lemmas.List.{flat_map_more}
use Rattle.pd_made.specs.Voices.{voices}

voices_more : (n : ℕ) → voices n ++ (n + 1) ∷ [] ≡ voices (n + 1)
voices_more n = rw add-one

-- one voice more, behind other things
pub one_more : {Y : Type 0} (f : ℕ → List Y) (bs : List Y) (n : ℕ) → (bs ++ flat_map f (voices n)) ++ f (n + 1) ≡ bs ++ flat_map f (voices (n + 1))
one_more f bs n = flat_map_more f bs (voices n) (n + 1) ∙ ap (λ vs. bs ++ flat_map f vs) (voices_more n)

-- one voice more
pub voice_more : {Y : Type 0} (f : ℕ → List Y) (n : ℕ) → flat_map f (voices n) ++ f (suc n) ≡ flat_map f (voices (suc n))
voice_more f n = flat_map_more f [] (voices n) (suc n)

-- where each gives two, there are twice as many
pub pairs : {Y : Type 0} (f : ℕ → List Y) → ((i : ℕ) → length (f i) ≡ 2) → (n : ℕ) → length (flat_map f (voices n)) ≡ 2 * n
pairs f h zero = refl
pairs f h (suc n) =
    let e : length (flat_map f (voices n) ++ f (suc n)) ≡ length (flat_map f (voices (suc n))) = ap length (voice_more f n) in
    omega (arith, e, length-append (flat_map f (voices n)) (f (suc n)), pairs f h n, h (suc n))
