-- The samples of a block of two channels, as bytes.
use Rattle.std.specs.Prelude.{ℕ, ℤ, pos, ◌*ℤ◌, int_div, List, [], ◌∷◌, ◌++◌, slice_index_or}
use Rattle.std.specs.Int.{w16, cast_unsigned}
use Rattle.byteorder.specs.Endian.{little_bytes}
use Rattle.pd_num.specs.Scale.{billionths, saturated}

-- the sample of a signal value: limited to one whole, its share of the greatest sample, rounded toward zero
abbrev pub sample_of : ℤ → ℤ
sample_of z = int_div (saturated billionths.unit z *ℤ pos 32767) (pos billionths.unit)

-- a sample in two bytes, the lower one first
abbrev pub sample_bytes : ℤ → List ℕ
sample_bytes z = little_bytes 2 (cast_unsigned w16 (sample_of z))

-- two channels, value by value, the left one first
unfoldable pub frames : List ℤ → List ℤ → List ℕ
frames (x ∷ xs) (y ∷ ys) = sample_bytes x ++ (sample_bytes y ++ frames xs ys)
frames _ _ = []

-- a block of a left and a right channel
abbrev pub block_bytes : List (List ℤ) → List ℕ
block_bytes channels = frames (slice_index_or channels 0 []) (slice_index_or channels 1 [])
