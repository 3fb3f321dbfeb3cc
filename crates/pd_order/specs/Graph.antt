-- Graphs of nodes with ranks, and the order in which they are listed.
use Rattle.std.specs.Prelude.{◌≡◌, ℕ, ◌+◌, ◌<◌, ◌≤◌, ◌==◌, ◌^◌, cond, List, [], ◌∷◌, ◌++◌, length}

-- `feeders x` has a node as often as it has wires into x, and `followers x` as often as x has wires into it
pub record Graph : Type 0 where
  pub rank : ℕ → ℕ
  pub feeders : ℕ → List ℕ
  pub followers : ℕ → List ℕ

-- how often x is there
abbrev pub tally : ℕ → List ℕ → ℕ
tally x [] = 0
tally x (y ∷ ys) = cond (y == x) 1 0 + tally x ys

-- how many of `us` are not listed
abbrev pub missing : List ℕ → List ℕ → ℕ
missing listed [] = 0
missing listed (u ∷ us) = cond (tally u listed == 0) 1 0 + missing listed us

-- a node that is not listed, while all its feeders are
pub record IsReady (g : Graph) (nodes listed : List ℕ) (x : ℕ) : Type 0 where
  pub node : 0 < tally x nodes
  pub unlisted : tally x listed ≡ 0
  pub fed : missing listed (g.feeders x) ≡ 0

-- the ready node of the least rank
pub record IsNext (g : Graph) (nodes listed : List ℕ) (x : ℕ) : Type 0 where
  pub ready : IsReady g nodes listed x
  pub least : (y : ℕ) → IsReady g nodes listed y → g.rank x ≤ g.rank y

-- after `listed`, the nodes xs are listed, each the next
abbrev pub AreNext : Graph → List ℕ → List ℕ → List ℕ → Type 0
AreNext g nodes listed [] = Unit {0}
AreNext g nodes listed (x ∷ xs) = IsNext g nodes listed x × AreNext g nodes (listed ++ x ∷ []) xs

-- xs in the order of their ranks, no two of which are the same
abbrev pub IsLeast : Graph → ℕ → List ℕ → Type 0
IsLeast g x [] = Unit {0}
IsLeast g x (y ∷ ys) = (g.rank x < g.rank y) × IsLeast g x ys

abbrev pub AreByRank : Graph → List ℕ → Type 0
AreByRank g [] = Unit {0}
AreByRank g (x ∷ xs) = IsLeast g x xs × AreByRank g xs

-- The chain starts empty, and the ready node of the least rank is appended until there is none. The rest, by rank, is stuck.
pub record IsOrder (g : Graph) (nodes chain stuck : List ℕ) : Type 0 where
  pub listed : AreNext g nodes [] chain
  pub ended : (x : ℕ) → IsReady g nodes chain x → ⊥
  pub rest : (x : ℕ) → tally x stuck + tally x chain ≡ tally x nodes
  pub by_rank : AreByRank g stuck

-- ranks differ, and wires join nodes: each is at its sink as at its source
pub record IsLawful (g : Graph) (nodes : List ℕ) : Type 0 where
  pub once : (x : ℕ) → tally x nodes ≤ 1
  pub apart : (x y : ℕ) → 0 < tally x nodes → 0 < tally y nodes → g.rank x ≡ g.rank y → x ≡ y
  pub joined : (x u : ℕ) → tally u (g.feeders x) ≡ tally x (g.followers u)
  pub sources : (x u : ℕ) → 0 < tally u (g.feeders x) → 0 < tally u nodes
  pub sinks : (x u : ℕ) → 0 < tally u (g.feeders x) → 0 < tally x nodes
  pub few : (x : ℕ) → length (g.feeders x) + 1 < 2 ^ 32

-- the sum of f over a list
abbrev pub total : (ℕ → ℕ) → List ℕ → ℕ
total f [] = 0
total f (x ∷ xs) = f x + total f xs

-- wire ends at x
abbrev pub ends : Graph → ℕ → ℕ
ends g x = length (g.feeders x) + length (g.followers x)

-- without the first x
abbrev pub take_out : ℕ → List ℕ → List ℕ
take_out x [] = []
take_out x (y ∷ ys) = cond (y == x) ys (y ∷ take_out x ys)

-- the graph with one wire less, or one more
abbrev pub cut_wire : Graph → ℕ → ℕ → Graph
cut_wire g source sink = record {
  rank = g.rank;
  feeders = λ x. cond (x == sink) (take_out source (g.feeders x)) (g.feeders x);
  followers = λ x. cond (x == source) (take_out sink (g.followers x)) (g.followers x);
}

abbrev pub add_wire : Graph → ℕ → ℕ → Graph
add_wire g source sink = record {
  rank = g.rank;
  feeders = λ x. cond (x == sink) (source ∷ g.feeders x) (g.feeders x);
  followers = λ x. cond (x == source) (sink ∷ g.followers x) (g.followers x);
}

-- a node that no wire joins to another
pub record IsAlone (g : Graph) (x : ℕ) : Type 0 where
  pub unfed : g.feeders x ≡ []
  pub unfollowed : g.followers x ≡ []
