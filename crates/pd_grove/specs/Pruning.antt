-- What goes when a box is taken out, with all that lies in it.
use Rattle.std.specs.Prelude.{◌≡◌, ℕ, ◌<◌, ◌⊎◌, List, Option, Some, None, IsSome, slice_get}
use Rattle.pd_grove.specs.declared.nodes.Node.{Node}
use Rattle.pd_grove.specs.declared.boards.Board.{Board}
use Rattle.pd_grove.specs.Owning.{board_in}
use Rattle.pd_grove.specs.Forest.{LiesIn}
use Rattle.pd_grove.specs.Grafts.{LiesInBox}

module _ {A : Type 0} where
  -- what is under these keys is gone, and all else stays
  pub record Loses (old new : ℕ → Option A) (keys : ℕ → Type 0) : Type 0 where
    pub go : (k : ℕ) → keys k → new k ≡ None
    pub stay : (k : ℕ) → (keys k → ⊥) → new k ≡ old k

  -- what is under these keys is the same
  abbrev pub AgreesAt : (old new : ℕ → Option A) (keys : ℕ → Type 0) → Type 0
  AgreesAt old new keys = (k : ℕ) → keys k → new k ≡ old k

  -- nothing is new or other
  abbrev pub GainsNone : (old new : ℕ → Option A) → Type 0
  GainsNone old new = (k : ℕ) → IsSome (new k) → new k ≡ old k

-- the canvas x lies in the canvas of this key, if there is one
abbrev pub LiesInOf : (ℕ → Option Node) → (ℕ → Option Board) → Option ℕ → ℕ → Type 0
LiesInOf nodes boards o x = (j : ℕ) × (o ≡ Some j) × LiesIn nodes boards j x

-- the box l lies in the canvas of this key, if there is one, or in one that lies in it
abbrev pub IsInsideOf : (ℕ → Option Node) → (ℕ → Option Board) → Option ℕ → ℕ → Type 0
IsInsideOf nodes boards o l = (x : ℕ) × (board_in (nodes l) ≡ Some x) × LiesInOf nodes boards o x

-- the box l is k, or lies in it
abbrev pub IsPart : (ℕ → Option Node) → (ℕ → Option Board) → ℕ → ℕ → Type 0
IsPart nodes boards k l = (l ≡ k) ⊎ ((x : ℕ) × (board_in (nodes l) ≡ Some x) × LiesInBox nodes boards k x)

-- the canvas x lies in one of the first n of these boxes
abbrev pub LiesInFirst : (ℕ → Option Node) → (ℕ → Option Board) → List ℕ → ℕ → ℕ → Type 0
LiesInFirst nodes boards ks n x = (i : ℕ) × (k : ℕ) × (i < n) × (slice_get ks i ≡ Some k) × LiesInBox nodes boards k x

-- the box l is one of the first n of these, or lies in one of them
abbrev pub IsPartOfFirst : (ℕ → Option Node) → (ℕ → Option Board) → List ℕ → ℕ → ℕ → Type 0
IsPartOfFirst nodes boards ks n l = (i : ℕ) × (k : ℕ) × (i < n) × (slice_get ks i ≡ Some k) × IsPart nodes boards k l

-- these canvases and boxes are as in the first
pub record AreThere (ns ns' : ℕ → Option Node) (bs bs' : ℕ → Option Board) (canvases boxes : ℕ → Type 0) : Type 0 where
  pub boards : AgreesAt bs bs' canvases
  pub nodes : AgreesAt ns ns' boxes

-- these canvases and boxes are gone, and all others stay
pub record Leave (ns ns' : ℕ → Option Node) (bs bs' : ℕ → Option Board) (canvases boxes : ℕ → Type 0) : Type 0 where
  pub boards : Loses bs bs' canvases
  pub nodes : Loses ns ns' boxes
