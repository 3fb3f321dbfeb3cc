-- How the code's values show what the words ask for, and the command that `clap` reads.
use Rattle.std.specs.Prelude.{ℕ, Bool, true, false, not, ◌==◌, ◌&&◌, List, [], ◌∷◌, Option, Some, None, codes}
use Rattle.clap.specs.Words.{App, Rule, new_app, new_rule, with_rule}
use Rattle.clap.specs.Simple.{on_top}
use Rattle.pd_clock.specs.Rates.{samples}
use Rattle.pd_words.specs.declared.reading.Words.{Words}
use Rattle.pd_words.specs.Grammar.{Asked, Form, Text, absent, alone, all_three, form, joined, make_of, patch_of, rate_of}

-- what the words ask for, with the rate as a number
abbrev pub asked : Words → Asked
asked w = record { patch = w.patch.now; rate = samples w.rate; make = w.make }

abbrev pub listed : Option Text → List Text
listed None = []
listed (Some text) = text ∷ []

-- what at most one word of each kind asks for
abbrev pub asked_first : Option Text → Option Text → Option Text → Option Asked
asked_first patch rate make = all_three (patch_of (listed patch)) (rate_of (listed rate)) (make_of (listed make))

abbrev pub is_present : Form → Bool
is_present absent = false
is_present alone = true
is_present (joined value) = true

-- the word names the option
abbrev pub is_form : Text → Text → Bool
is_form name word = is_present (form name word)

abbrev pub begins_with_minus : Text → Bool
begins_with_minus [] = false
begins_with_minus (b ∷ bs) = b == 45

-- the word begins with a minus and names no option
abbrev pub is_stray : Text → Bool
is_stray word = begins_with_minus word && (not (is_form (codes "--rate") word) && not (is_form (codes "--make") word))

-- ---- the command

abbrev pub rate_rule : Rule
rate_rule = record (new_rule (codes "rate")) { long = Some (codes "rate") }

abbrev pub make_rule : Rule
make_rule = record (new_rule (codes "make")) { long = Some (codes "make") }

abbrev pub bare : App
bare = on_top (λ s. record s { no_binary_name = true; disable_help_flag = true }) (new_app (codes "pdplay"))

abbrev pub pdplay : App
pdplay = with_rule (with_rule (with_rule bare rate_rule) make_rule) (new_rule (codes "patch"))
