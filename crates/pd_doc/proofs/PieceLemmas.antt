-- Tokens and their bytes.
use Rattle.std.proofs.Common.{◌≡◌, ℕ, ◌<◌, ◌≤◌, Bool, true, false, List, [], ◌∷◌, length, map, take, drop, ◌-◌, None, refl, sym, ap, ◌∙◌, arith, eqb, length-drop}
use Rattle.std.proofs.lemmas.Bool.Decides.{nat_tests}
use Rattle.std.proofs.lemmas.List.{take_all, drop-map}
use Rattle.pd_lex.specs.Text.{unescaped}
use Rattle.pd_doc.specs.Pieces.{piece, is_long}
use Rattle.pd_doc.specs.Fields.{wire_of}
use Rattle.pd_doc.specs.declared.lexemes.Lexeme.{Lexeme}

-- a test is true or false
pub by_test : {P : Type 0} (b : Bool) → (b ≡ true → P) → (b ≡ false → P) → P
by_test {P} b t f = elim b as (λ v. (v ≡ true → P) → (v ≡ false → P) → P) [ true ↦ (λ y n. y refl) | false ↦ (λ y n. n refl) ] t f

pub unescaped_length : (w : List ℕ) → length (unescaped w) ≤ length w
unescaped_length [] = omega arith
unescaped_length (b ∷ []) = omega arith
unescaped_length (b ∷ c ∷ cs) =
    by_test (eqb b 92) (λ e. rw e (omega (arith, unescaped_length cs))) (λ e. rw e (omega (arith, unescaped_length (c ∷ cs))))

-- a token whose escapes count fits
pub raw_fits : (l : Lexeme) → length l.raw.now ≤ 255 → is_long (piece l) ≡ false
raw_fits l h =
    let short = unescaped_length l.raw.now in
    by_test l.bare_comma (λ e. rw e refl) (λ e. rw e (grind (arith, nat_tests)))

pub pieces_behind : (ls : List Lexeme) (n : ℕ) → map piece (take (length ls - n) (drop n ls)) ≡ drop n (map piece ls)
pieces_behind ls n = ap (map piece) (take_all (length ls - n) (drop n ls) (omega (arith, length-drop n ls))) ∙ sym (drop-map piece n ls)

pub wire_short : (ls : List Lexeme) → length ls < 4 → wire_of (map piece ls) ≡ None
wire_short [] h = refl
wire_short (a ∷ []) h = refl
wire_short (a ∷ b ∷ []) h = refl
wire_short (a ∷ b ∷ c ∷ []) h = refl
wire_short (a ∷ b ∷ c ∷ d ∷ ls) h = absurd (omega arith)

pub wire_long : (ls : List Lexeme) → 5 ≤ length ls → wire_of (map piece ls) ≡ None
wire_long [] h = refl
wire_long (a ∷ []) h = refl
wire_long (a ∷ b ∷ []) h = refl
wire_long (a ∷ b ∷ c ∷ []) h = refl
wire_long (a ∷ b ∷ c ∷ d ∷ []) h = absurd (omega arith)
wire_long (a ∷ b ∷ c ∷ d ∷ e ∷ ls) h = refl
