-- One box more under keys, or one canvas more.
use Rattle.std.specs.Prelude.{◌≡◌, ◌≢◌, ◌<◌, ℕ, ◌+◌, List, [], ◌∷◌, ◌++◌, Option, Some, None, IsSome, option_map, slice_get}
use Rattle.pd_tree.specs.declared.rows.Sheet.{Sheet}
use Rattle.pd_grove.specs.declared.nodes.Node.{Node}
use Rattle.pd_grove.specs.declared.boards.Board.{Board}
use Rattle.pd_grove.specs.Standing.{with_inner, depth_of}
use Rattle.pd_grove.specs.Telling.{inner_in, keys_in}
use Rattle.pd_grove.specs.Owning.{board_in}
use Rattle.pd_grove.specs.Forest.{holder_in, LiesIn}

-- one canvas has other boxes, and every other canvas stays
pub record HasOtherKeys (old new : ℕ → Option Board) (c : ℕ) (ks ks' : List ℕ) : Type 0 where
  pub before : Board
  pub after : Board
  pub was : old c ≡ Some before
  pub is : new c ≡ Some after
  pub holder : after.holder ≡ before.holder
  pub depth : after.depth ≡ before.depth
  pub sheet : after.sheet ≡ before.sheet
  pub had : before.nodes.items ≡ ks
  pub has : after.nodes.items ≡ ks'
  pub others : (x : ℕ) → x ≢ c → new x ≡ old x

-- the second are the first with one box more, which holds no canvas, in the canvas c, with these before it and these behind
pub record HasBoxMore (nodes nodes' : ℕ → Option Node) (boards boards' : ℕ → Option Board) (c k : ℕ) (n : Node) (before behind : List ℕ) : Type 0 where
  pub vacant : nodes k ≡ None
  pub is : nodes' k ≡ Some n
  pub lies : n.board ≡ c
  pub bare : n.inner ≡ None
  pub others : (l : ℕ) → l ≢ k → nodes' l ≡ nodes l
  pub keys : HasOtherKeys boards boards' c (before ++ behind) (before ++ k ∷ behind)

-- the second are the first with one canvas more, which has no boxes, in the box k
pub record HasCanvasMore (nodes nodes' : ℕ → Option Node) (boards boards' : ℕ → Option Board) (k j : ℕ) (n : Node) (b : Board) : Type 0 where
  pub was : nodes k ≡ Some n
  pub bare : n.inner ≡ None
  pub is : nodes' k ≡ Some (with_inner j n)
  pub others : (l : ℕ) → l ≢ k → nodes' l ≡ nodes l
  pub vacant : boards j ≡ None
  pub opened : boards' j ≡ Some b
  pub held : b.holder ≡ Some k
  pub deeper : b.depth ≡ depth_of (boards n.board) + 1
  pub low : b.depth < 257
  pub empty : b.nodes.items ≡ []
  pub stay : (x : ℕ) → x ≢ j → boards' x ≡ boards x

-- each box lies where it lay and holds what it held, and each canvas is where it was and has the same boxes
pub record AreAlike (nodes nodes' : ℕ → Option Node) (boards boards' : ℕ → Option Board) : Type 0 where
  pub lie : (k : ℕ) → board_in (nodes' k) ≡ board_in (nodes k)
  pub hold : (k : ℕ) → inner_in (nodes' k) ≡ inner_in (nodes k)
  pub keys : (c : ℕ) → keys_in (boards' c) ≡ keys_in (boards c)
  pub holders : (c : ℕ) → holder_in (boards' c) ≡ holder_in (boards c)
  pub depths : (c : ℕ) → depth_of (boards' c) ≡ depth_of (boards c)
  pub live : (c : ℕ) → IsSome (boards c) → IsSome (boards' c)
  pub no_more : (c : ℕ) → IsSome (boards' c) → IsSome (boards c)

-- the canvas x lies in the box k
abbrev pub LiesInBox : (ℕ → Option Node) → (ℕ → Option Board) → ℕ → ℕ → Type 0
LiesInBox nodes boards k x = (j : ℕ) × (inner_in (nodes k) ≡ Some j) × LiesIn nodes boards j x

-- the box k is gone from the canvas c with all that lies in it; these were before it and these behind
pub record TakesBox (nodes nodes' : ℕ → Option Node) (boards boards' : ℕ → Option Board) (c k : ℕ) (n : Node) (before behind : List ℕ) : Type 0 where
  pub was : nodes k ≡ Some n
  pub lay : n.board ≡ c
  pub gone : nodes' k ≡ None
  pub old : Board
  pub new : Board
  pub board : boards c ≡ Some old
  pub without : boards' c ≡ Some new
  pub holder : new.holder ≡ old.holder
  pub depth : new.depth ≡ old.depth
  pub sheet : new.sheet ≡ old.sheet
  pub had : old.nodes.items ≡ before ++ k ∷ behind
  pub has : new.nodes.items ≡ before ++ behind
  pub boards_go : (x : ℕ) → LiesInBox nodes boards k x → boards' x ≡ None
  pub nodes_go : (l x : ℕ) → board_in (nodes l) ≡ Some x → LiesInBox nodes boards k x → nodes' l ≡ None
  pub boards_stay : (x : ℕ) → x ≢ c → (LiesInBox nodes boards k x → ⊥) → boards' x ≡ boards x
  pub nodes_stay : (l x : ℕ) → l ≢ k → board_in (nodes l) ≡ Some x → (LiesInBox nodes boards k x → ⊥) → nodes' l ≡ nodes l
  pub none_comes : (l : ℕ) → IsSome (nodes' l) → nodes' l ≡ nodes l
  pub no_canvas_comes : (x : ℕ) → x ≢ c → IsSome (boards' x) → boards' x ≡ boards x

-- the box k of the canvas c has become another box, and all else that lived stays
pub record HasBoxChanged (nodes nodes' : ℕ → Option Node) (boards boards' : ℕ → Option Board) (c k : ℕ) (n n' : Node) : Type 0 where
  pub was : nodes k ≡ Some n
  pub is : nodes' k ≡ Some n'
  pub lay : n.board ≡ c
  pub lies : n'.board ≡ c
  pub others : (l : ℕ) → l ≢ k → nodes' l ≡ nodes l
  pub stay : (x : ℕ) → IsSome (boards x) → boards' x ≡ boards x

abbrev pub sheet_in : Option Board → Option Sheet
sheet_in o = option_map (λ (b : Board). b.sheet) o

-- a canvas has one box more, with all that lies in it, and all else stays: what is new is sound by itself
pub record HasPartMore (nodes nodes' : ℕ → Option Node) (boards boards' : ℕ → Option Board) (c k : ℕ) (before behind : List ℕ) : Type 0 where
  pub vacant : nodes k ≡ None
  pub lies : board_in (nodes' k) ≡ Some c
  pub boxes_stay : (l : ℕ) → IsSome (nodes l) → nodes' l ≡ nodes l
  pub canvases_stay : (x : ℕ) → x ≢ c → IsSome (boards x) → boards' x ≡ boards x
  pub live : IsSome (boards c)
  pub lives : IsSome (boards' c)
  pub holder : holder_in (boards' c) ≡ holder_in (boards c)
  pub depth : depth_of (boards' c) ≡ depth_of (boards c)
  pub sheet : sheet_in (boards' c) ≡ sheet_in (boards c)
  pub had : keys_in (boards c) ≡ before ++ behind
  pub has : keys_in (boards' c) ≡ before ++ k ∷ behind
  pub home : (x i l : ℕ) → boards x ≡ None → slice_get (keys_in (boards' x)) i ≡ Some l → board_in (nodes' l) ≡ Some x
  pub once : (x i m l : ℕ) → boards x ≡ None → slice_get (keys_in (boards' x)) i ≡ Some l → slice_get (keys_in (boards' x)) m ≡ Some l → i ≡ m
  pub placed : (l x : ℕ) → nodes l ≡ None → l ≢ k → board_in (nodes' l) ≡ Some x → (boards x ≡ None) × (i : ℕ) × (slice_get (keys_in (boards' x)) i ≡ Some l)
  pub inside : (l j : ℕ) → nodes l ≡ None → inner_in (nodes' l) ≡ Some j → (boards j ≡ None) × (holder_in (boards' j) ≡ Some l)
  pub held : (x l : ℕ) → boards x ≡ None → holder_in (boards' x) ≡ Some l → inner_in (nodes' l) ≡ Some x
  pub deeper : (l x j : ℕ) → nodes l ≡ None → board_in (nodes' l) ≡ Some x → inner_in (nodes' l) ≡ Some j → depth_of (boards' j) ≡ depth_of (boards' x) + 1
  pub closed : (x : ℕ) → boards x ≡ None → IsSome (boards' x) → holder_in (boards' x) ≢ None
  pub low : (x : ℕ) → boards x ≡ None → depth_of (boards' x) < 257
