-- Tables of names. A table is the list of its names, each a list of bytes, and a name's number is its place in the list.
use Rattle.std.specs.Prelude.{◌≡◌, ◌≢◌, ℕ, ◌<◌, ◌≤◌, List, [], ◌∷◌, ◌++◌, length, take, slice_index_or, Option, Some, None, Result, Ok, Err, if◌then◌else◌, nat_lt, position, bytes_eq, codes}
use Rattle.pd_atom.specs.declared.SymbolRefusal.{SymbolRefusal}
use Rattle.pd_atom.specs.declared.SymbolRefusal.TheVariants.{TooLong, Full}

abbrev pub Names : Type 0
Names = List (List ℕ)

-- the greatest length of a name
abbrev pub longest : ℕ
longest = 255

-- the greatest count of names
abbrev pub most : ℕ
most = 65536

-- the names of a new table
abbrev pub first_names : Names
first_names = codes "bang" ∷ codes "float" ∷ codes "symbol" ∷ codes "list" ∷ codes "pd" ∷ codes "subpatch" ∷ []

-- no name stands at two places
abbrev pub AreDistinct : Names → Type 0
AreDistinct names = (i j : ℕ) → i < j → j < length names → slice_index_or names i [] ≢ slice_index_or names j []

-- each name has from 1 to 255 bytes
abbrev pub AreShort : Names → Type 0
AreShort names = (i : ℕ) → i < length names → (0 < length (slice_index_or names i [])) × (length (slice_index_or names i []) ≤ longest)

-- what every table is
pub record IsTable (names : Names) : Type 0 where
  pub begins : take 6 names ≡ first_names
  pub distinct : AreDistinct names
  pub short : AreShort names
  pub few : length names ≤ most

-- one table goes on where another ends
abbrev pub Extends : Names → Names → Type 0
Extends old new = (more : Names) × (new ≡ old ++ more)

-- the name of a number
abbrev pub name_of : Names → ℕ → List ℕ
name_of names s = slice_index_or names s []

-- what a call that may need a name answers, and the names after it
pub record Outcome (A : Type 0) : Type 0 where
  pub answer : Result A SymbolRefusal
  pub names : Names

abbrev pub given : {A : Type 0} → A → Names → Outcome A
given a names = record { answer = Ok a; names = names }

abbrev pub refused : {A : Type 0} → SymbolRefusal → Names → Outcome A
refused e names = record { answer = Err e; names = names }

abbrev pub answer_map : {A B : Type 0} → (A → B) → Result A SymbolRefusal → Result B SymbolRefusal
answer_map f (Ok a) = Ok (f a)
answer_map f (Err e) = Err e

-- the same outcome, its answer changed by f
abbrev pub outcome_map : {A B : Type 0} → (A → B) → Outcome A → Outcome B
outcome_map f o = record { answer = answer_map f o.answer; names = o.names }

-- the number of a name that stands at a place, or else goes last where there is room
abbrev pub placed : Names → List ℕ → Option ℕ → Outcome ℕ
placed names name (Some s) = given s names
placed names name None = if nat_lt (length names) most then given (length names) (names ++ name ∷ []) else refused Full names

-- The number of a name: a name that is too long is refused, one of the table is found, and a new one goes last, or is refused
-- where the table is full. A refusal leaves the names.
unfoldable pub interned : Names → List ℕ → Outcome ℕ
interned names name = if nat_lt longest (length name) then refused TooLong names else placed names name (position (bytes_eq name) names)
