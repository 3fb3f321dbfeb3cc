-- What a tree counts with a box at another place.
use Rattle.std.proofs.Common.{◌≡◌, ◌∷◌, ℕ, zero, suc, ℤ, List, [], refl}
use Rattle.pd_clock.specs.declared.times.Rate.{Rate}
use Rattle.pd_tree.specs.Trees.{Trees, Done, Leaf, Holder, Tree, weight, zeros_in, zeros_of}
use Rattle.pd_patch.specs.Sounds.{sound_of}
use Rattle.pd_regrowth_law.specs.Canvases.{canvas_with}
use Rattle.pd_putting_law.specs.Puts.{change_inside, change_at}
use Rattle.pd_shifted_law.specs.Shifts.{boxes_shifted, shifted_box, shifted_at}

-- what is counted of boxes, whatever places they have
pub record CountsAlike (t u : Trees) : Type 0 where
  pub boxes : weight u ≡ weight t
  pub sound : (rate : Rate) → sound_of rate u ≡ sound_of rate t
  pub zeros : zeros_in u ≡ zeros_in t

same_counts : (t : Trees) → CountsAlike t t
same_counts t = record { boxes = refl; sound = λ rate. refl; zeros = refl }

boxes_count : (n : ℕ) (x y : ℤ) (t : Trees) → CountsAlike t (boxes_shifted n x y t)
boxes_count n x y Done = same_counts Done
boxes_count zero x y (Leaf c rest) = record { boxes = refl; sound = λ rate. refl; zeros = refl }
boxes_count zero x y (Holder c s inner rest) = record { boxes = refl; sound = λ rate. refl; zeros = refl }
boxes_count (suc n) x y (Leaf c rest) =
    let k = boxes_count n x y rest in
    record { boxes = rw k.boxes refl; sound = λ rate. rw (k.sound rate) refl; zeros = rw k.zeros refl }
boxes_count (suc n) x y (Holder c s inner rest) =
    let k = boxes_count n x y rest in
    record { boxes = rw k.boxes refl; sound = λ rate. rw (k.sound rate) refl; zeros = rw k.zeros refl }

-- a canvas keeps its sheet
pub record TreesAlike (t u : Tree) : Type 0 where
  pub sheet : u.sheet ≡ t.sheet
  pub counts : CountsAlike t.boxes u.boxes

inside_counts : (n : ℕ) (f : Tree → Tree) (t : Trees) → ((v : Tree) → TreesAlike v (f v)) → CountsAlike t (change_inside n f t)
inside_counts n f Done e = same_counts Done
inside_counts zero f (Leaf c rest) e = same_counts (Leaf c rest)
inside_counts zero f (Holder c s inner rest) e =
    let k = e (canvas_with s inner) in
    record { boxes = rw k.counts.boxes refl; sound = λ rate. rw (k.counts.sound rate) refl; zeros = rw (k.sheet, k.counts.zeros) refl }
inside_counts (suc n) f (Leaf c rest) e =
    let k = inside_counts n f rest e in
    record { boxes = rw k.boxes refl; sound = λ rate. rw (k.sound rate) refl; zeros = rw k.zeros refl }
inside_counts (suc n) f (Holder c s inner rest) e =
    let k = inside_counts n f rest e in
    record { boxes = rw k.boxes refl; sound = λ rate. rw (k.sound rate) refl; zeros = rw k.zeros refl }

pub tree_counts : (path : List ℕ) (n : ℕ) (x y : ℤ) (t : Tree) → TreesAlike t (shifted_at path n x y t)
tree_counts [] n x y t = record { sheet = refl; counts = boxes_count n x y t.boxes }
tree_counts (i ∷ path) n x y t =
    record { sheet = refl; counts = inside_counts i (change_at path (shifted_box n x y)) t.boxes (λ v. tree_counts path n x y v) }

pub zeros_same : (path : List ℕ) (n : ℕ) (x y : ℤ) (t : Tree) → zeros_of (shifted_at path n x y t) ≡ zeros_of t
zeros_same path n x y t = let k = tree_counts path n x y t in rw (k.sheet, k.counts.zeros) refl

pub weight_same : (path : List ℕ) (n : ℕ) (x y : ℤ) (t : Tree) → weight (shifted_at path n x y t).boxes ≡ weight t.boxes
weight_same path n x y t = (tree_counts path n x y t).counts.boxes
