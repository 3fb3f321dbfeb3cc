-- What happens on the way, in its order, and what each sink gets of it.
use Rattle.std.specs.Prelude.{◌≡◌, ℕ, List, [], ◌∷◌, ◌++◌, map, Option}
use Rattle.pd_io.specs.Rows.{stored}
use Rattle.pd_io.specs.declared.files.FileRow.{FileRow}

-- a byte of a line, a byte of a block of samples, or a file that is put under a name
pub data Item : Type 0 where
  LineByte : ℕ → Item
  SampleByte : ℕ → Item
  Put : (name bytes : List ℕ) → Item

-- the bytes of lines, and those of blocks
unfoldable pub said : List ℕ → List Item
said bytes = map LineByte bytes

unfoldable pub heard : List ℕ → List Item
heard bytes = map SampleByte bytes

abbrev pub line_of : Item → List ℕ
line_of (LineByte b) = b ∷ []
line_of (SampleByte b) = []
line_of (Put name bytes) = []

abbrev pub sample_of : Item → List ℕ
sample_of (LineByte b) = []
sample_of (SampleByte b) = b ∷ []
sample_of (Put name bytes) = []

-- what the sink of lines gets of items, and that of samples
unfoldable pub lines_of : List Item → List ℕ
lines_of [] = []
lines_of (i ∷ items) = line_of i ++ lines_of items

unfoldable pub samples_of : List Item → List ℕ
samples_of [] = []
samples_of (i ∷ items) = sample_of i ++ samples_of items

-- what a folder holds once the files among items were put, where it tells what it holds
unfoldable pub held_after : List Item → Option (List FileRow) → Option (List FileRow)
held_after [] held = held
held_after (LineByte b ∷ items) held = held_after items held
held_after (SampleByte b ∷ items) held = held_after items held
held_after (Put name bytes ∷ items) held = held_after items (stored name bytes held)

-- the first of some items
pub record IsFront (part whole : List Item) : Type 0 where
  pub rest : List Item
  pub is : whole ≡ part ++ rest
