-- A graph by a formula: box x is fed by box x - 8 and by box x - 9, where there are such boxes, and the last box has the least rank.
use Rattle.std.specs.Prelude.{ℕ, ◌+◌, ◌-◌, nat_lt, cond, List, [], ◌∷◌, ◌++◌}
use Rattle.pd_order.specs.Graph.{Graph}

-- among n boxes, the one that stands so many numbers before x
abbrev pub back : ℕ → ℕ → ℕ → List ℕ
back step n x = cond (nat_lt x step) [] (cond (nat_lt x n) ((x - step) ∷ []) [])

-- among n boxes, the one that stands so many numbers behind u
abbrev pub forth : ℕ → ℕ → ℕ → List ℕ
forth step n u = cond (nat_lt u (n - step)) ((u + step) ∷ []) []

abbrev pub rows : ℕ → Graph
rows n = record {
  rank = λ x. n - 1 - x;
  feeders = λ x. back 8 n x ++ back 9 n x;
  followers = λ u. forth 8 n u ++ forth 9 n u;
}
