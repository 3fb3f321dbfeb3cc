-- What the words of the command line ask for.
use Rattle.std.specs.Prelude.{ℕ, Bool, true, false, not, ◌==◌, ◌&&◌, ◌||◌, List, [], ◌∷◌, Option, Some, None, codes, length, nat_lt, nat_le, if◌then◌else◌}
use Rattle.std.specs.List.{list_all, list_any}
use Rattle.std.specs.Char.{is_ascii_digit}
use Rattle.std.specs.Str.Parse.{digits_value}

abbrev pub Text : Type 0
Text = List ℕ

-- a patch by its file name, how many samples a second, and the number of `--make`, where it is given
pub record Asked : Type 0 where
  pub patch : Text
  pub rate : ℕ
  pub make : Option ℕ

-- ---- the parts that the words are

-- what a part is: a value of `--rate`, a value of `--make`, or a word of neither, which is to be the patch
pub data Kind : Type 0 where
  a_rate : Kind
  a_make : Kind
  a_patch : Kind

pub record Part : Type 0 where
  pub kind : Kind
  pub text : Text

abbrev pub part : Kind → Text → Part
part kind text = record { kind = kind; text = text }

-- what stands in a word behind its first bytes, where they are these
abbrev pub behind : Text → Text → Option Text
behind [] word = Some word
behind (b ∷ name) [] = None
behind (b ∷ name) (c ∷ word) = if c == b then behind name word else None

-- how a word names an option: not at all, alone, or with a value joined by `=`
pub data Form : Type 0 where
  absent : Form
  alone : Form
  joined : Text → Form

abbrev pub form_by : Option Text → Form
form_by None = absent
form_by (Some []) = alone
form_by (Some (c ∷ value)) = if c == 61 then joined value else absent

abbrev pub form : Text → Text → Form
form name word = form_by (behind name word)

-- what a word begins: an option whose value is the next word, or a part by itself
pub data Lead : Type 0 where
  asks : Kind → Lead
  stands : Part → Lead

abbrev pub lead_by : Kind → Form → Lead → Lead
lead_by kind absent next = next
lead_by kind alone next = asks kind
lead_by kind (joined value) next = stands (part kind value)

abbrev pub lead : Text → Lead
lead word = lead_by a_rate (form (codes "--rate") word) (lead_by a_make (form (codes "--make") word) (stands (part a_patch word)))

-- a word with no word behind it
abbrev pub last_part : Text → Lead → Part
last_part word (asks kind) = part a_patch word
last_part word (stands whole) = whole

-- a word with another behind it, where `after` are the parts behind both, and `between` those behind the first
abbrev pub first_parts : Lead → Text → List Part → List Part → List Part
first_parts (asks kind) value after between = part kind value ∷ after
first_parts (stands whole) value after between = whole ∷ between

abbrev pub parts_of : List Text → List Part
parts_of [] = []
parts_of (word ∷ []) = last_part word (lead word) ∷ []
parts_of (word ∷ value ∷ rest) = first_parts (lead word) value (parts_of rest) (parts_of (value ∷ rest))

abbrev pub is_same : Kind → Kind → Bool
is_same a_rate a_rate = true
is_same a_make a_make = true
is_same a_patch a_patch = true
is_same _ _ = false

-- the texts of the parts of a kind
abbrev pub of_kind : Kind → List Part → List Text
of_kind kind [] = []
of_kind kind (p ∷ parts) = if is_same p.kind kind then p.text ∷ of_kind kind parts else of_kind kind parts

-- ---- what the parts ask for

-- a patch's name isn't empty, doesn't begin with a minus, and has no slash
abbrev pub is_patch_name : Text → Bool
is_patch_name [] = false
is_patch_name (b ∷ bs) = not (b == 45) && list_all (λ c. not (c == 47)) (b ∷ bs)

-- a number is one decimal digit or more
abbrev pub is_number : Text → Bool
is_number [] = false
is_number (b ∷ bs) = list_all is_ascii_digit (b ∷ bs)

abbrev pub is_rate : ℕ → Bool
is_rate n = n == 44100 || (n == 48000 || (n == 88200 || n == 96000))

abbrev pub is_count : ℕ → Bool
is_count n = nat_le 1 n && nat_le n 1000

-- the number of a text, where it passes a test
abbrev pub number_where : (ℕ → Bool) → Text → Option ℕ
number_where test text = if is_number text && test (digits_value 10 text) then Some (digits_value 10 text) else None

-- the rate: 44,100 where none is given, and none where two are
abbrev pub rate_of : List Text → Option ℕ
rate_of [] = Some 44100
rate_of (text ∷ []) = number_where is_rate text
rate_of _ = None

abbrev pub given : Option ℕ → Option (Option ℕ)
given None = None
given (Some n) = Some (Some n)

abbrev pub make_of : List Text → Option (Option ℕ)
make_of [] = Some None
make_of (text ∷ []) = given (number_where is_count text)
make_of _ = None

abbrev pub patch_of : List Text → Option Text
patch_of (name ∷ []) = if is_patch_name name then Some name else None
patch_of _ = None

-- all three, where none is refused
abbrev pub all_three : Option Text → Option ℕ → Option (Option ℕ) → Option Asked
all_three (Some patch) (Some rate) (Some make) = Some (record { patch = patch; rate = rate; make = make })
all_three _ _ _ = None

abbrev pub asked_by : List Part → Option Asked
asked_by parts = all_three (patch_of (of_kind a_patch parts)) (rate_of (of_kind a_rate parts)) (make_of (of_kind a_make parts))

-- what the words ask for: one patch, at most one rate and at most one number of `--make`, in any order
abbrev pub words_of : List Text → Option Asked
words_of words = asked_by (parts_of words)
