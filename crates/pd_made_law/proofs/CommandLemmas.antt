-- What the records of the script say.
use Rattle.std.proofs.Common.{◌≡◌, ℕ, ◌*◌, ◌<◌, ◌≤◌, ◌^◌, pos, Bool, true, false, List, [], ◌∷◌, codes, decimal, length, Some, None, refl, ap, ◌∙◌, arith}
use Rattle.std.specs.Prelude.{nat_lt, nat_le, ◌&&◌, if◌then◌else◌}
use Rattle.std.specs.Char.{is_ascii_digit, digit_value}
use Rattle.std.specs.List.{list_all}
use Rattle.std.specs.Str.Parse.{digits_value, AllDigits}
use Rattle.std.proofs.lemmas.Bool.{le-leb, lt-ltb, le-ltb}
use Rattle.std.proofs.lemmas.Bool.Decides.{nat_tests}
use Rattle.std.proofs.lemmas.Fmt.{length-decimal-le, decimal_nonempty}
use Rattle.pd_atom.specs.Names.{Names}
use Rattle.pd_num.specs.Reading.{number_at, numeral_at, exponent_at}
use Rattle.pd_script.specs.Tokens.{is_long, tokens_of}
use Rattle.pd_script.specs.Fields.{whole_of, path_of}
use Rattle.pd_script.specs.Changes.{wire_of, change_of, box_verb_of, other_verb_of}
use Rattle.pd_script.specs.Scripts.{word_of, edit_in, edit_of, script_of, timed_of, command_of}
use Rattle.pd_script.specs.declared.commands.Script.TheVariants as script
use Rattle.pd_made_law.specs.Records.{cut_record, join_record, end_record, cut_edit, join_edit}
use Rattle.pd_made_law.proofs.TokenLemmas.{tokens_spaced, all_digits, decimal_plain, decimal_value}

small : (voice : ℕ) → voice ≤ 1000 → 2 * voice < 2 ^ 64
small voice h = omega (arith, h)

digit_is : (b : ℕ) → digit_value b < 10 → is_ascii_digit b ≡ true
digit_is b h = grind (arith, nat_tests)

digits_are : (ds : List ℕ) → AllDigits 10 ds → list_all is_ascii_digit ds ≡ true
digits_are [] h = refl
digits_are (d ∷ ds) h = ap (λ (b : Bool). b && list_all is_ascii_digit ds) (digit_is d h.0) ∙ digits_are ds h.1

-- a number in digits is read as itself
whole_read : (n : ℕ) → n ≤ 65535 → whole_of (decimal n) ≡ Some n
unfolding whole_of
whole_read n h =
    let s : n < 2 ^ 64 = omega (arith, h) in
    let v : digits_value 10 (decimal n) ≡ n = decimal_value n s in
    ap (λ (b : Bool). if (b && nat_lt 0 (length (decimal n))) && nat_le (digits_value 10 (decimal n)) 65535 then Some (digits_value 10 (decimal n)) else None) (digits_are (decimal n) (all_digits n s))
    ∙ ap (λ (b : Bool). if b && nat_le (digits_value 10 (decimal n)) 65535 then Some (digits_value 10 (decimal n)) else None) (lt-ltb 0 (length (decimal n)) (decimal_nonempty n s))
    ∙ ap (λ (k : ℕ). if nat_le k 65535 then Some k else None) v
    ∙ ap (λ (b : Bool). if b then Some n else None) (le-leb n 65535 h)

-- the tokens of a voice's record: five words, its number and three more
abbrev nine : (ms verb number inlet : List ℕ) → List (List ℕ)
nine ms verb number inlet =
    ms ∷ codes "edit" ∷ codes "." ∷ codes "/" ∷ verb ∷ number ∷ codes "0" ∷ codes "0" ∷ inlet ∷ []

cut_tokens : (voice : ℕ) → voice ≤ 1000 → tokens_of (cut_record voice) ≡ nine (codes "1") (codes "disconnect") (decimal (2 * voice)) (codes "0")
cut_tokens voice h =
    tokens_spaced (codes "1") (codes "edit" ∷ codes "." ∷ codes "/" ∷ codes "disconnect" ∷ decimal (2 * voice) ∷ codes "0" ∷ codes "0" ∷ codes "0" ∷ [])
    (record { some = omega arith; same = refl })
    (record { some = omega arith; same = refl }, (record { some = omega arith; same = refl }, (record { some = omega arith; same = refl }, (record { some = omega arith; same = refl }, (decimal_plain (2 * voice) (small voice h), (record { some = omega arith; same = refl }, (record { some = omega arith; same = refl }, (record { some = omega arith; same = refl }, tt))))))))

join_tokens : (voice : ℕ) → voice ≤ 1000 → tokens_of (join_record voice) ≡ nine (codes "0") (codes "connect") (decimal (2 * voice)) (codes "1")
join_tokens voice h =
    tokens_spaced (codes "0") (codes "edit" ∷ codes "." ∷ codes "/" ∷ codes "connect" ∷ decimal (2 * voice) ∷ codes "0" ∷ codes "0" ∷ codes "1" ∷ [])
    (record { some = omega arith; same = refl })
    (record { some = omega arith; same = refl }, (record { some = omega arith; same = refl }, (record { some = omega arith; same = refl }, (record { some = omega arith; same = refl }, (decimal_plain (2 * voice) (small voice h), (record { some = omega arith; same = refl }, (record { some = omega arith; same = refl }, (record { some = omega arith; same = refl }, tt))))))))

-- none of them is too long
short : (w : List ℕ) → length w ≤ 255 → is_long w ≡ false
short w h = le-ltb 255 (length w) h

-- a number of at most 2,000 has no more digits than that many
few_digits : (voice : ℕ) → voice ≤ 1000 → length (decimal (2 * voice)) ≤ 255
few_digits voice h = let l : length (decimal (2 * voice)) ≤ 4 = length-decimal-le 4 (2 * voice) (omega arith) (omega (arith, h)) (small voice h) in omega (arith, l)

cut_read : (names : Names) (voice : ℕ) (number : List ℕ) → is_long number ≡ false → whole_of number ≡ Some (2 * voice)
    → command_of names (nine (codes "1") (codes "disconnect") number (codes "0")) ≡ Some (pos 1000000, cut_edit voice, names)
unfolding command_of timed_of script_of edit_of edit_in change_of wire_of word_of box_verb_of other_verb_of path_of whole_of number_at numeral_at exponent_at
cut_read names voice number few read = rw (few, read) refl

join_read : (names : Names) (voice : ℕ) (number : List ℕ) → is_long number ≡ false → whole_of number ≡ Some (2 * voice)
    → command_of names (nine (codes "0") (codes "connect") number (codes "1")) ≡ Some (pos 0, join_edit voice, names)
unfolding command_of timed_of script_of edit_of edit_in change_of wire_of word_of box_verb_of other_verb_of path_of whole_of number_at numeral_at exponent_at
join_read names voice number few read = rw (few, read) refl

pub cut_said : (names : Names) (voice : ℕ) → voice ≤ 1000 → command_of names (tokens_of (cut_record voice)) ≡ Some (pos 1000000, cut_edit voice, names)
cut_said names voice h =
    ap (command_of names) (cut_tokens voice h)
    ∙ cut_read names voice (decimal (2 * voice)) (short (decimal (2 * voice)) (few_digits voice h)) (whole_read (2 * voice) (omega (arith, h)))

pub join_said : (names : Names) (voice : ℕ) → voice ≤ 1000 → command_of names (tokens_of (join_record voice)) ≡ Some (pos 0, join_edit voice, names)
join_said names voice h =
    ap (command_of names) (join_tokens voice h)
    ∙ join_read names voice (decimal (2 * voice)) (short (decimal (2 * voice)) (few_digits voice h)) (whole_read (2 * voice) (omega (arith, h)))

end_tokens : tokens_of end_record ≡ codes "0" ∷ codes "end" ∷ []
end_tokens = tokens_spaced (codes "0") (codes "end" ∷ []) (record { some = omega arith; same = refl }) (record { some = omega arith; same = refl }, tt)

end_read : (names : Names) → command_of names (codes "0" ∷ codes "end" ∷ []) ≡ Some (pos 0, script.End, names)
unfolding command_of timed_of script_of word_of number_at numeral_at exponent_at
end_read names = refl

pub end_said : (names : Names) → command_of names (tokens_of end_record) ≡ Some (pos 0, script.End, names)
end_said names = ap (command_of names) end_tokens ∙ end_read names
