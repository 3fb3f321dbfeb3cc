-- A graph by a formula: of n voices, box 2i - 1 feeds box 2i, and box 2i feeds box 0, except where the voice i is cut.
use Rattle.std.specs.Prelude.{◌≡◌, ℕ, zero, suc, ◌+◌, ◌-◌, ◌*◌, ◌/◌, ◌%◌, ◌==◌, nat_lt, cond, List, [], ◌∷◌, ◌++◌}
use Rattle.pd_order.specs.Graph.{Graph, tally, IsOrder}
use Rattle.pd_order.specs.Listing.{Listing}
use Rattle.pd_order.specs.Spots.{nodes_of}
use Rattle.pd_order.specs.Wired.{numbers_below}

-- 2i and the even numbers behind it, so many
abbrev pub evens : ℕ → ℕ → List ℕ
evens i zero = []
evens i (suc k) = (2 * i) ∷ evens (suc i) k

-- what feeds box 0; a cut of 0 cuts none
abbrev pub outs : ℕ → ℕ → List ℕ
outs cut n = evens 1 (cut - 1) ++ evens (cut + 1) (n - cut)

-- the voice of the i-th feeder of box 0
abbrev pub voice_at : ℕ → ℕ → ℕ
voice_at cut i = cond (nat_lt (i + 1) cut) (i + 1) (cond (cut == 0) (i + 1) (i + 2))

-- what box 2i feeds
abbrev pub onward : ℕ → ℕ → ℕ → List ℕ
onward cut n i = cond (i == 0) [] (cond (nat_lt n i) [] (cond (i == cut) [] (0 ∷ [])))

-- what feeds a box other than 0
abbrev pub fed : ℕ → ℕ → List ℕ
fed n x = cond (x % 2 == 0) (cond (nat_lt (2 * n) x) [] ((x - 1) ∷ [])) []

-- a box's number is its rank
abbrev pub voices : ℕ → ℕ → Graph
voices n cut = record {
  rank = λ x. x;
  feeders = λ x. cond (x == 0) (outs cut n) (fed n x);
  followers = λ u. cond (u % 2 == 0) (onward cut n (u / 2)) (cond (nat_lt u (2 * n)) ((u + 1) ∷ []) []);
}

-- an order of the boxes of n voices, none of which is cut
pub record OrdersVoices (n : ℕ) (listing : Listing) : Type 0 where
  pub order : IsOrder (voices n 0) (nodes_of listing.spots) listing.chain listing.stuck
  pub nodes : (x : ℕ) → tally x (nodes_of listing.spots) ≡ tally x (numbers_below (2 * n + 1))
