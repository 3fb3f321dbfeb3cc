-- Words with blanks between them are tokens.
use Rattle.std.proofs.Common.{◌≡◌, ℕ, ◌<◌, ◌^◌, false, cond, List, [], ◌∷◌, ◌++◌, decimal, length, map, refl, sym, ap, ◌∙◌, subst, arith}
use Rattle.std.specs.List.{AllByRecursion}
use Rattle.std.specs.Char.{digit_value}
use Rattle.std.specs.Str.Parse.{digits_value, AllDigits}
use Rattle.std.proofs.lemmas.Bool.Decides.{nat_tests}
use Rattle.std.proofs.lemmas.Fmt.{digits_decimal, digits_value-decimal, decimal_nonempty}
use Rattle.std.proofs.lemmas.Str.Parse.{IsNumeralModel}
use Rattle.pd_lex.specs.Text.{Piece, is_special, escaped, unescaped, AreUnits, IsStopped, StandsForPieces}
use Rattle.pd_lex.specs.Text.Piece.{Word}
use Rattle.pd_lex.proofs.EscapeLemmas.{escaped_units, unescaped-escaped}
use Rattle.pd_lex.proofs.Relation.{stand_pieces}
use Rattle.pd_script.specs.Tokens.{bytes_of, tokens_of}

-- a word that needs no escape
pub record IsPlain (w : List ℕ) : Type 0 where
  pub some : 0 < length w
  pub same : escaped w ≡ w

plain_units : (w : List ℕ) → escaped w ≡ w → AreUnits w
plain_units w e = subst (λ (v : List ℕ). AreUnits v) e (escaped_units w)

plain_bytes : (w : List ℕ) → escaped w ≡ w → unescaped w ≡ w
plain_bytes w e = sym (ap unescaped e) ∙ unescaped-escaped w

-- words, each with a blank before it
abbrev pub behind : List (List ℕ) → List ℕ
behind [] = []
behind (w ∷ ws) = 32 ∷ (w ++ behind ws)

words : List (List ℕ) → List Piece
words ws = map (λ (w : List ℕ). Word w) ws

stopped : (ws : List (List ℕ)) → IsStopped (behind ws)
stopped [] = tt
stopped (w ∷ ws) = refl

behind_stand : (ws : List (List ℕ)) → AllByRecursion IsPlain ws → StandsForPieces (behind ws) (words ws)
unfolding words
behind_stand [] h = tt
behind_stand (w ∷ ws) h = (32 ∷ [], behind ws, (refl, tt), (h.0.some, plain_units w h.0.same), refl, stopped ws, behind_stand ws h.1)

words_bytes : (ws : List (List ℕ)) → AllByRecursion IsPlain ws → map bytes_of (words ws) ≡ ws
unfolding words
words_bytes [] h = refl
words_bytes (w ∷ ws) h = ap (λ (v : List ℕ). v ∷ map bytes_of (words ws)) (plain_bytes w h.0.same) ∙ ap (λ (vs : List (List ℕ)). w ∷ vs) (words_bytes ws h.1)

spaced_stand : (w : List ℕ) (ws : List (List ℕ)) → IsPlain w → AllByRecursion IsPlain ws → StandsForPieces (w ++ behind ws) (words (w ∷ ws))
unfolding words
spaced_stand w ws h hs = ([], behind ws, tt, (h.some, plain_units w h.same), refl, stopped ws, behind_stand ws hs)

pub tokens_spaced : (w : List ℕ) (ws : List (List ℕ)) → IsPlain w → AllByRecursion IsPlain ws → tokens_of (w ++ behind ws) ≡ w ∷ ws
tokens_spaced w ws h hs =
    ap (λ (ps : List Piece). map bytes_of ps) (stand_pieces (w ++ behind ws) (words (w ∷ ws)) (spaced_stand w ws h hs)) ∙ words_bytes (w ∷ ws) (h, hs)

-- ---- digits

own_numerals : IsNumeralModel (AllDigits 10) (digits_value 10)
own_numerals = record { to = λ ds d. d; from = λ ds d. d; same = λ ds d. refl }

pub all_digits : (n : ℕ) → n < 2 ^ 64 → AllDigits 10 (decimal n)
all_digits n h = digits_decimal own_numerals n h

plain_digit : (b : ℕ) → digit_value b < 10 → is_special b ≡ false
plain_digit b h = grind (arith, nat_tests)

pub plain_digits : (ds : List ℕ) → AllDigits 10 ds → escaped ds ≡ ds
plain_digits [] h = refl
plain_digits (d ∷ ds) h =
    ap (λ b. cond b (92 ∷ d ∷ escaped ds) (d ∷ escaped ds)) (plain_digit d h.0) ∙ ap (λ l. d ∷ l) (plain_digits ds h.1)

pub decimal_plain : (n : ℕ) → n < 2 ^ 64 → IsPlain (decimal n)
decimal_plain n h = record { some = decimal_nonempty n h; same = plain_digits (decimal n) (all_digits n h) }

pub decimal_value : (n : ℕ) → n < 2 ^ 64 → digits_value 10 (decimal n) ≡ n
decimal_value n h = digits_value-decimal own_numerals n h
