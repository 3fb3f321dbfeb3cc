-- What comes next in a script, by its bytes alone.
use Rattle.std.specs.Prelude.{ℕ, zero, suc, ◌+◌, Bool, true, false, List, [], ◌∷◌, length, Option, Some, None, if◌then◌else◌, ◌||◌, nat_lt, take, drop}
use Rattle.std.specs.List.{prefix_len, list_all}
use Rattle.pd_lex.specs.Text.{is_space}
use Rattle.pd_lex.specs.Reading.{semicolon}
use Rattle.pd_feed.specs.declared.feed.Fed.{Fed}
use Rattle.pd_feed.specs.declared.feed.Fed.TheVariants.{Record, End, TooLong, Unfinished}

abbrev pub is_white : List ℕ → Bool
is_white bytes = list_all is_space bytes

-- more bytes than may stand from the end of a record through the semicolon of the next one
abbrev pub is_long : ℕ → Bool
is_long count = nat_lt 65536 count

-- more bytes than a script may have
abbrev pub is_beyond : ℕ → Bool
is_beyond count = nat_lt 1073741824 count

-- A record ends so many bytes after the one before, with which so many bytes of the script have passed: it is too long or it is given.
abbrev pub record_fed : ℕ → ℕ → Fed
record_fed passed count = if is_long count || is_beyond (passed + count) then TooLong else Record

-- A rest of so many bytes, white space alone or not, follows the last whole record.
abbrev pub rest_fed : ℕ → ℕ → Bool → Fed
rest_fed passed count white =
    if is_beyond (passed + count) then TooLong else (if white then End else (if is_long count then TooLong else Unfinished))

abbrev pub fed_at : ℕ → ℕ → List ℕ → Option ℕ → Fed
fed_at passed blank bytes (Some place) = record_fed passed (blank + place + 1)
fed_at passed blank bytes None = rest_fed passed (blank + length bytes) (is_white bytes)

-- What comes next where so many bytes of the script have passed through the last whole record, and so many bytes of white space and then
-- these bytes follow, to the script's end.
abbrev pub fed_of : ℕ → ℕ → List ℕ → Fed
fed_of passed blank bytes = fed_at passed blank bytes (semicolon bytes)

-- the answers that stay whatever bytes follow
abbrev pub is_shown : Fed → Bool
is_shown Record = true
is_shown TooLong = true
is_shown End = false
is_shown Unfinished = false

-- a record whose semicolon stands at the place: without it, and without the white space before
abbrev pub record_text : ℕ → List ℕ → List ℕ
record_text place bytes = let body = take place bytes in drop (prefix_len is_space body) body

-- a script's records, and the answer after the last of them
pub record Script : Type 0 where
  pub records : List (List ℕ)
  pub end : Fed

abbrev pub with_first : List ℕ → Script → Script
with_first text script = record { records = text ∷ script.records; end = script.end }

abbrev pub ends_as : Fed → Script
ends_as fed = record { records = []; end = fed }

-- after this answer, and where a record ends at the place, after it
abbrev pub script_at : Fed → Option ℕ → (ℕ → Script) → Script
script_at Record (Some place) after = after place
script_at Record None after = ends_as Record
script_at End place after = ends_as End
script_at TooLong place after = ends_as TooLong
script_at Unfinished place after = ends_as Unfinished

-- at most so many records
abbrev pub script_within : ℕ → ℕ → ℕ → List ℕ → Script
script_within zero passed blank bytes = ends_as (fed_of passed blank bytes)
script_within (suc n) passed blank bytes =
    script_at (fed_of passed blank bytes) (semicolon bytes)
    (λ place. with_first (record_text place bytes) (script_within n (passed + (blank + place + 1)) 0 (drop (place + 1) bytes)))

-- All that comes where so many bytes of the script have passed through the last whole record, and so many bytes of white space and then these
-- bytes follow. There are no more records than bytes.
unfoldable pub script_of : ℕ → ℕ → List ℕ → Script
script_of passed blank bytes = script_within (length bytes) passed blank bytes
