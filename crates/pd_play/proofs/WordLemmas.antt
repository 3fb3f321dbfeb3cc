-- What the words ask for: at most 1,000 voices.
use Rattle.std.proofs.Common.{◌≡◌, ◌≤◌, ℕ, Bool, true, false, List, [], ◌∷◌, Option, Some, None, refl, sym, ap, ◌∙◌, subst}
use Rattle.std.specs.Prelude.{IfSome, ◌&&◌, nat_le, is_some, if◌then◌else◌}
use Rattle.std.specs.Str.Parse.{digits_value}
use Rattle.std.proofs.lemmas.Bool.{leb-true}
use Rattle.pd_words.specs.Grammar.{Text, Asked, is_number, is_count, number_where, given, make_of, of_kind, all_three, a_make, a_rate, a_patch, patch_of, rate_of, parts_of, words_of}
use Rattle.pd_words.specs.Shown.{asked}
use Rattle.pd_words.specs.declared.reading.Words.{Words}

-- where a number of voices is asked for, it is at most 1,000
abbrev pub IsFew : Option ℕ → Type 0
IsFew make = IfSome make (λ n. n ≤ 1000)

last_true : (a b : Bool) → (a && b) ≡ true → b ≡ true
last_true true b e = e
last_true false b e = absurd (cc)

where_few : (b : Bool) (n : ℕ) → (b ≡ true → n ≤ 1000) → IsFew (if b then Some n else None)
where_few true n h = h refl
where_few false n h = tt

number_few : (text : Text) → IsFew (number_where is_count text)
number_few text =
    let n : ℕ = digits_value 10 text in
    where_few (is_number text && is_count n) n (λ e. leb-true n 1000 (last_true (nat_le 1 n) (nat_le n 1000) (last_true (is_number text) (is_count n) e)))

given_few : (o : Option ℕ) → IsFew o → IfSome (given o) IsFew
given_few None h = tt
given_few (Some n) h = h

make_few : (texts : List Text) → IfSome (make_of texts) IsFew
make_few [] = tt
make_few (text ∷ []) = given_few (number_where is_count text) (number_few text)
make_few (text ∷ other ∷ texts) = tt

all_few : (patch : Option Text) (rate : Option ℕ) (make : Option (Option ℕ)) → IfSome make IsFew → IfSome (all_three patch rate make) (λ a. IsFew a.make)
all_few None rate make h = tt
all_few (Some patch) None make h = tt
all_few (Some patch) (Some rate) None h = tt
all_few (Some patch) (Some rate) (Some make) h = h

pub words_few : (words : List Text) → IfSome (words_of words) (λ a. IsFew a.make)
words_few words =
    let parts = parts_of words in
    all_few (patch_of (of_kind a_patch parts)) (rate_of (of_kind a_rate parts)) (make_of (of_kind a_make parts)) (make_few (of_kind a_make parts))

pub asked_few : (words : List Text) (w : Words) → Some (asked w) ≡ words_of words → IsFew w.make
asked_few words w e = subst (λ (o : Option Asked). IfSome o (λ a. IsFew a.make)) (sym e) (words_few words)

-- words that ask for something
pub some_asked : (o : Option Asked) (w : Words) → Some (asked w) ≡ o → is_some o ≡ false → ⊥
some_asked o w e denied = let so : true ≡ false = ap (λ (a : Option Asked). is_some a) e ∙ denied in cc

-- what is true of what the words ask for
pub asked_if : (o : Option Asked) (w : Words) (P : Type 0) → Some (asked w) ≡ o → (is_some w.make ≡ true → P) → IfSome o (λ a. is_some a.make ≡ true → P)
asked_if o w P e h = subst (λ (a : Option Asked). IfSome a (λ b. is_some b.make ≡ true → P)) e h

pub unasked_if : (o : Option Asked) (P : Type 0) → None ≡ o → IfSome o (λ a. is_some a.make ≡ true → P)
unasked_if o P e = subst (λ (a : Option Asked). IfSome a (λ b. is_some b.make ≡ true → P)) e tt

pub always_if : (o : Option Asked) (P : Type 0) → P → IfSome o (λ a. is_some a.make ≡ true → P)
always_if None P h = tt
always_if (Some a) P h = λ _. h
