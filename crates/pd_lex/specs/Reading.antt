-- Reading a text from the left.
use Rattle.std.specs.Prelude.{◌≡◌, ◌≢◌, slice_index, ℕ, ◌+◌, ◌-◌, ◌<◌, ◌≤◌, Bool, true, false, List, [], ◌∷◌, ◌++◌, length, cond, Option, Some, None, ◌==◌, take, drop, IsTrue, slice_range}
use Rattle.std.specs.List.{prefix_len}
use Rattle.pd_lex.specs.Text.{is_space, is_stop, Piece, AreSpaces, StandsFor}
use Rattle.pd_lex.specs.Text.Piece.{Word, Comma}
use Rattle.pd_lex.specs.declared.Step.{Step}
use Rattle.pd_lex.specs.declared.Step.TheVariants as step
use Rattle.pd_lex.specs.declared.Token.{Token}

-- how many bytes the longest run of units at the front has
abbrev pub units_len : List ℕ → ℕ
units_len [] = 0
units_len (b ∷ []) = cond (b == 92) 0 (cond (is_stop b) 0 1)
units_len (b ∷ c ∷ cs) = cond (b == 92) (2 + units_len cs) (cond (is_stop b) 0 (1 + units_len (c ∷ cs)))

abbrev pub plus : ℕ → Option ℕ → Option ℕ
plus n None = None
plus n (Some m) = Some (n + m)

-- where the first semicolon without a backslash is
abbrev pub semicolon : List ℕ → Option ℕ
semicolon [] = None
semicolon (b ∷ []) = cond (b == 59) (Some 0) None
semicolon (b ∷ c ∷ cs) = cond (b == 59) (Some 0) (cond (b == 92) (plus 2 (semicolon cs)) (plus 1 (semicolon (c ∷ cs))))

-- k is the first place from `at` on with a semicolon or a backslash: the search goes on there
pub record IsMark (bytes : List ℕ) (at k : ℕ) : Type 0 where
  pub from : at ≤ k
  pub within : k < length bytes
  pub either : slice_index bytes k ≢ 59 → slice_index bytes k ≡ 92
  pub passed : plus at (semicolon (drop at bytes)) ≡ plus k (semicolon (drop k bytes))

-- each backslash has a byte behind it, and each semicolon a backslash before it
abbrev pub is_body : List ℕ → Bool
is_body [] = true
is_body (b ∷ []) = cond (b == 92) false (cond (b == 59) false true)
is_body (b ∷ c ∷ cs) = cond (b == 92) (is_body cs) (cond (b == 59) false (is_body (c ∷ cs)))

-- the word so far, where there is one, and then the others
abbrev pub flush : List ℕ → List Piece → List Piece
flush [] ps = ps
flush (b ∷ w) ps = Word (b ∷ w) ∷ ps

-- a comma by itself, where the byte is one
abbrev pub comma_at : ℕ → List Piece → List Piece
comma_at b ps = cond (b == 44) (Comma ∷ ps) ps

abbrev pub pieces_after : List ℕ → List ℕ → List Piece
pieces_after w [] = flush w []
pieces_after w (b ∷ []) = cond (b == 92) (flush (w ++ b ∷ []) []) (cond (is_stop b) (flush w (comma_at b [])) (flush (w ++ b ∷ []) []))
pieces_after w (b ∷ c ∷ cs) =
    cond (b == 92) (pieces_after (w ++ b ∷ c ∷ []) cs)
    (cond (is_stop b) (flush w (comma_at b (pieces_after [] (c ∷ cs)))) (pieces_after (w ++ b ∷ []) (c ∷ cs)))

-- the tokens of what stands before a record's semicolon
unfoldable pub pieces : List ℕ → List Piece
pieces bs = pieces_after [] bs

abbrev pub records_after : List ℕ → List ℕ → List (List Piece)
records_after w [] = []
records_after w (b ∷ []) = cond (b == 59) (pieces w ∷ []) []
records_after w (b ∷ c ∷ cs) =
    cond (b == 59) (pieces w ∷ records_after [] (c ∷ cs))
    (cond (b == 92) (records_after (w ++ b ∷ c ∷ []) cs) (records_after (w ++ b ∷ []) (c ∷ cs)))

-- the records of a text, without what stands behind the last semicolon
unfoldable pub records : List ℕ → List (List Piece)
records bs = records_after [] bs

-- what stands behind the last semicolon without a backslash, and behind what came before
abbrev pub rest_after : List ℕ → List ℕ → List ℕ
rest_after w [] = w
rest_after w (b ∷ []) = cond (b == 59) [] (w ++ b ∷ [])
rest_after w (b ∷ c ∷ cs) =
    cond (b == 59) (rest_after [] (c ∷ cs)) (cond (b == 92) (rest_after (w ++ b ∷ c ∷ []) cs) (rest_after (w ++ b ∷ []) (c ∷ cs)))

abbrev pub rest_of : List ℕ → List ℕ
rest_of bs = rest_after [] bs

abbrev pub step_with : ℕ → ℕ → ℕ → Option ℕ → Step
step_with at spaces len None = cond (spaces == len) step.End (step.Bad (at + spaces))
step_with at spaces len (Some k) = cond (spaces == len) step.End (step.Rec (at + spaces) (at + k + 1))

-- the next step at a place
abbrev pub step_at : List ℕ → ℕ → Step
step_at bytes at = let rest = drop at bytes in step_with at (prefix_len is_space rest) (length rest) (semicolon rest)

-- what a step says of the records from the place on
abbrev pub Reads : List ℕ → ℕ → Step → Type 0
Reads bytes at (step.Rec first after) =
    (at < after) × (after ≤ length bytes) × IsTrue (is_body (slice_range bytes at (after - 1))) ×
    (records (drop at bytes) ≡ pieces (slice_range bytes at (after - 1)) ∷ records (drop after bytes))
Reads bytes at step.End = AreSpaces (drop at bytes) × (records (drop at bytes) ≡ [])
Reads bytes at (step.Bad byte) = records (drop at bytes) ≡ []

-- what a step says of the rest of the text from the place on: behind a record it is the same, and without one it is all that is left
abbrev pub KeepsRest : List ℕ → ℕ → Step → Type 0
KeepsRest bytes at (step.Rec first after) = rest_of (drop at bytes) ≡ rest_of (drop after bytes)
KeepsRest bytes at step.End = rest_of (drop at bytes) ≡ drop at bytes
KeepsRest bytes at (step.Bad byte) = (rest_of (drop at bytes) ≡ drop at bytes) × ¬ AreSpaces (drop at bytes)

-- The text before the rest: its records are those of the whole text, and its last byte, where it has one, is a record's semicolon.
-- The rest has no semicolon without a backslash.
pub record IsFront (text front : List ℕ) : Type 0 where
  pub parts : text ≡ front ++ rest_of text
  pub stands : StandsFor front (records text)
  pub ends : rest_of front ≡ []
  pub unfinished : semicolon (rest_of text) ≡ None

-- what a token of the code is
abbrev pub piece_of : List ℕ → Token → Piece
piece_of bytes t = cond t.bare_comma Comma (Word (slice_range bytes t.first t.after))

-- a token at the front: its first place behind the white space, its length, and whether it is a comma
pub record IsFirst (bs : List ℕ) (t : ℕ × ℕ × Bool) : Type 0 where
  pub from : t.0 ≡ prefix_len is_space bs
  pub some : 0 < t.1
  pub within : t.0 + t.1 ≤ length bs
  pub goes_on : is_body (drop (t.0 + t.1) bs) ≡ true
  pub tokens : pieces bs ≡ cond t.2 Comma (Word (take t.1 (drop t.0 bs))) ∷ pieces (drop (t.0 + t.1) bs)

-- a token is the first of those from the place on, and behind it the record goes on
pub record IsNext (bytes : List ℕ) (at after : ℕ) (t : Token) : Type 0 where
  pub from : t.first ≡ at + prefix_len is_space (slice_range bytes at after)
  pub some : t.first < t.after
  pub within : t.after ≤ after
  pub goes_on : IsTrue (is_body (slice_range bytes t.after after))
  pub tokens : pieces (slice_range bytes at after) ≡ piece_of bytes t ∷ pieces (slice_range bytes t.after after)
