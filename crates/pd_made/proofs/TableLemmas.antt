-- Words that a table takes: each has a number there, and keeps it as the table goes on.
use Rattle.std.proofs.Common.{◌≡◌, ℕ, ◌+◌, ◌<◌, ◌≤◌, false, List, [], ◌∷◌, ◌++◌, length, codes, slice_get, unwrap_or, Some, Ok, eqb, position, bytes_eq, sym, ap, ◌∙◌, arith}
use Rattle.std.proofs.lemmas.List.{get_or_append_left, get_or-take, length-append}
use Rattle.std.proofs.lemmas.Option.{slice_get-get_or}
use Rattle.pd_atom.specs.Names.{Names, IsTable, Extends, longest, most, interned, name_of}
use Rattle.pd_atom.proofs.CaseLemmas.{by_test, eqb-true}
use Rattle.pd_atom.proofs.NameLemmas.{position_at, position_low, interned_found, interned_new, some_same, other_bytes}
use Rattle.pd_atom.proofs.TokenLemmas.{by_option}
use Rattle.pd_made.specs.declared.words.Words.{Words}
use Rattle.pd_made.specs.Voices.{number_of, words_in, AreWords}

-- a short name has a number where the table has room
pub interned_ok : (names : Names) (name : List ℕ) → length name ≤ longest → length names < most → (s : ℕ) × ((interned names name).answer ≡ Ok s)
interned_ok names name short room = by_option (position (bytes_eq name) names)
    (λ none. (length names, ap (λ o. o.answer) (interned_new names name short none room)))
    (λ s at. (s, ap (λ o. o.answer) (interned_found names name s short at)))

-- one name more at the most
pub interned_few : (names : Names) (name : List ℕ) → length name ≤ longest → length names < most → length (interned names name).names ≤ length names + 1
interned_few names name short room = by_option (position (bytes_eq name) names)
    (λ none.
    let e : length (interned names name).names ≡ length (names ++ name ∷ []) = ap (λ o. length o.names) (interned_new names name short none room) in
    omega (arith, e, length-append names (name ∷ [])))
    (λ s at.
    let e : length (interned names name).names ≡ length names = ap (λ o. length o.names) (interned_found names name s short at) in
    omega (arith, e))

-- a name stands at its place alone
pub place_of : (names : Names) (name : List ℕ) (s : ℕ) → IsTable names → s < length names → slice_get names s ≡ Some name →
    position (bytes_eq name) names ≡ Some s
place_of names name s table low got =
    position_at names name s table.distinct low (some_same (name_of names s) name (sym (slice_get-get_or names s [] low) ∙ got))

-- a name keeps its place as the table goes on
pub place_kept : (old new : Names) (name : List ℕ) (s : ℕ) → Extends old new → IsTable new → position (bytes_eq name) old ≡ Some s →
    position (bytes_eq name) new ≡ Some s
place_kept old new name s ext table at =
    let low = position_low old name s at in
    let longer : length new ≡ length (old ++ ext.0) = ap length ext.1 in
    position_at new name s table.distinct (omega (arith, low.0, longer, length-append old ext.0))
    (ap (λ ns. name_of ns s) ext.1 ∙ get_or_append_left old ext.0 [] s low.0 ∙ low.1)

-- another name than `pd` has another number
pub not_pd : (names : Names) (name : List ℕ) (s : ℕ) → IsTable names → bytes_eq name (codes "pd") ≡ false → position (bytes_eq name) names ≡ Some s →
    eqb s 4 ≡ false
not_pd names name s table other at = by_test (eqb s 4)
    (λ e.
    let four : s ≡ 4 = eqb-true s 4 e in
    let there : name_of names 4 ≡ codes "pd" = sym (get_or-take 6 names 4 [] (omega arith)) ∙ ap (λ ns. name_of ns 4) table.begins in
    absurd (other_bytes name (codes "pd") other (sym (position_low names name s at).1 ∙ ap (name_of names) four ∙ there)))
    (λ e. e)

abbrev words_by : ℕ → ℕ → ℕ → Words
words_by a b c = record { output = a; oscillator = b; factor = c }

same_words : (a b c d e f : ℕ) → a ≡ d → b ≡ e → c ≡ f → words_by a b c ≡ words_by d e f
same_words a b c d e f p q r = cc

-- the numbers of the words are those that the table tells
pub words_are : (names : Names) (words : Words) → AreWords names words → words ≡ words_in names
words_are names words h =
    same_words words.output words.oscillator words.factor (number_of names (codes "dac~")) (number_of names (codes "osc~")) (number_of names (codes "*~"))
    (sym (ap (λ o. unwrap_or o 0) h.output)) (sym (ap (λ o. unwrap_or o 0) h.oscillator)) (sym (ap (λ o. unwrap_or o 0) h.factor))
