-- Numbers and paths.
use Rattle.std.specs.Prelude.{ℕ, ℤ, pos, negsuc, min, Bool, ◌==◌, ◌&&◌, List, [], ◌∷◌, ◌++◌, length, Option, Some, None, if◌then◌else◌, nat_lt, nat_le}
use Rattle.std.specs.Char.{is_ascii_digit}
use Rattle.std.specs.List.{list_all, list_any}
use Rattle.std.specs.Str.Parse.{digits_value}
use Rattle.pd_num.specs.Reading.{number_at}
use Rattle.pd_script.specs.Options.{◌>>=◌}

-- the first token read, and the tokens behind it
abbrev pub first_by : {A : Type 0} → (List ℕ → Option A) → List (List ℕ) → Option (A × List (List ℕ))
first_by read [] = None
first_by read (t ∷ ts) = read t >>= (λ a. Some (a, ts))

-- a number that isn't below 0
abbrev pub from_zero : Option ℤ → Option ℤ
from_zero None = None
from_zero (Some (pos n)) = Some (pos n)
from_zero (Some (negsuc n)) = None

abbrev pub milliseconds_of : List ℕ → Option ℤ
milliseconds_of token = from_zero (number_at token)

abbrev pub number_first : List (List ℕ) → Option (ℤ × List (List ℕ))
number_first ts = first_by number_at ts

-- digits, and one at least
abbrev pub are_digits : List ℕ → Bool
are_digits ds = list_all is_ascii_digit ds && nat_lt 0 (length ds)

-- a whole number from 0 to 65,535 in digits
unfoldable pub whole_of : List ℕ → Option ℕ
whole_of token = if are_digits token && nat_le (digits_value 10 token) 65535 then Some (digits_value 10 token) else None

abbrev pub whole_first : List (List ℕ) → Option (ℕ × List (List ℕ))
whole_first ts = first_by whole_of ts

-- a number of a path in digits; all those above 65,535 are 65,536
unfoldable pub step_of : List ℕ → Option ℕ
step_of ds = if are_digits ds then Some (min (digits_value 10 ds) 65536) else None

abbrev pub steps_of : List (List ℕ) → Option (List ℕ)
steps_of [] = Some []
steps_of (p ∷ ps) = step_of p >>= (λ n. steps_of ps >>= (λ ns. Some (n ∷ ns)))

-- the parts between slashes; the first one goes on with the bytes
abbrev pub parts_after : List ℕ → List ℕ → List (List ℕ)
parts_after part [] = part ∷ []
parts_after part (b ∷ bs) = if b == 47 then part ∷ parts_after [] bs else parts_after (part ++ b ∷ []) bs

-- a path with a number above 65,535 is that one number, which leads to no canvas
abbrev pub far_path : List ℕ → List ℕ
far_path ns = if list_any (nat_lt 65535) ns then 65536 ∷ [] else ns

abbrev pub path_behind : List ℕ → Option (List ℕ)
path_behind [] = Some []
path_behind (b ∷ bs) = steps_of (parts_after [] (b ∷ bs)) >>= (λ ns. Some (far_path ns))

-- a slash by itself, or one or more times a slash and digits
unfoldable pub path_of : List ℕ → Option (List ℕ)
path_of [] = None
path_of (b ∷ bs) = if b == 47 then path_behind bs else None
