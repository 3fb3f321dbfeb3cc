-- Bytes that a source gives.
use Rattle.std.specs.Prelude.{◌≡◌, ℕ, List, ◌++◌, length, Option}
use Rattle.pd_io.specs.Stream.{with_front}

-- so many bytes came from the source, behind those at hand
pub record Gains (count : ℕ) (old : List ℕ) (left_old : Option (List ℕ)) (new : List ℕ) (left_new : Option (List ℕ)) : Type 0 where
  pub piece : List ℕ
  pub count_is : length piece ≡ count
  pub bytes : new ≡ old ++ piece
  pub came : left_old ≡ with_front piece left_new
