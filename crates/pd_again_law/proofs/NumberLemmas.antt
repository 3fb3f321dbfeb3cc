-- Which edits leave the `$0` numbers of a tree the first ones, and what is known of files goes on.
use Rattle.std.proofs.Common.{◌≡◌, ℕ, zero, suc, ◌+◌, ◌-◌, ◌≤◌, List, [], ◌∷◌, ◌++◌, refl, sym, ap, ◌∙◌, arith, append_assoc, append-nil}
use Rattle.pd_atom.specs.Names.{Names}
use Rattle.pd_library.specs.declared.answers.Answer.{Answer}
use Rattle.pd_tree.specs.declared.rows.Sheet.{Sheet}
use Rattle.pd_tree.specs.Trees.{Trees, Done, Leaf, Holder, Tree, weight, own_zeros, zeros_in, zeros_of}
use Rattle.pd_growth.specs.Steps.{beginning, zeros_from}
use Rattle.pd_gather.specs.Gather.{GoesOn}
use Rattle.pd_regrowth_law.specs.Canvases.{canvas_with}
use Rattle.pd_regrowth_law.specs.Regrowth.{stock}
use Rattle.pd_regrowth_law.proofs.TakeLemmas.{zeros_join}
use Rattle.pd_putting_law.specs.Puts.{change_inside, put_at}

-- ---- numbers

-- the `$0` numbers of a tree are the first ones from 1001 on, as those of a file that is opened are
abbrev pub HasFirstNumbers : Tree → Type 0
HasFirstNumbers t = (more : List ℕ) × (zeros_from 1001 ≡ zeros_of t ++ more)

-- a change of a canvas that leaves its sheet and the numbers inside it
abbrev KeepsNumbers : (Tree → Tree) → Type 0
KeepsNumbers f = (t : Tree) → ((f t).sheet ≡ t.sheet) × (zeros_in (f t).boxes ≡ zeros_in t.boxes)

inside_numbers : (n : ℕ) (f : Tree → Tree) → KeepsNumbers f → (t : Trees) → zeros_in (change_inside n f t) ≡ zeros_in t
inside_numbers n f k Done = refl
inside_numbers zero f k (Leaf c rest) = refl
inside_numbers zero f k (Holder c s inner rest) =
    let h = k (canvas_with s inner) in
    ap (λ (x : Sheet). own_zeros c.head.form x ++ (zeros_in (f (canvas_with s inner)).boxes ++ zeros_in rest)) h.0
    ∙ ap (λ (x : List ℕ). own_zeros c.head.form s ++ (x ++ zeros_in rest)) h.1
inside_numbers (suc n) f k (Leaf c rest) = inside_numbers n f k rest
inside_numbers (suc n) f k (Holder c s inner rest) = ap (λ (x : List ℕ). own_zeros c.head.form s ++ (zeros_in inner ++ x)) (inside_numbers n f k rest)

put_numbers : (new : Trees) → zeros_in new ≡ [] → (path : List ℕ) → KeepsNumbers (put_at path new)
put_numbers new none [] t =
    (refl, zeros_join t.boxes new ∙ ap (λ (zs : List ℕ). zeros_in t.boxes ++ zs) none ∙ append-nil (zeros_in t.boxes))
put_numbers new none (n ∷ path) t = (refl, inside_numbers n (put_at path new) (put_numbers new none path) t.boxes)

same_numbers : (new : Trees) → zeros_in new ≡ [] → (path : List ℕ) (t : Tree) → zeros_of (put_at path new t) ≡ zeros_of t
same_numbers new none path t =
    let h = put_numbers new none path t in
    ap (λ (x : Sheet). x.zero ∷ zeros_in (put_at path new t).boxes) h.0 ∙ ap (λ (x : List ℕ). t.sheet.zero ∷ x) h.1

-- a tree of the same numbers
pub still_first : (t u : Tree) → zeros_of u ≡ zeros_of t → HasFirstNumbers t → HasFirstNumbers u
still_first t u same h = (h.0, h.1 ∙ ap (λ (zs : List ℕ). zs ++ h.0) (sym same))

pub put_first : (new : Trees) → zeros_in new ≡ [] → (path : List ℕ) (t : Tree) → HasFirstNumbers t → HasFirstNumbers (put_at path new t)
put_first new none path t h = still_first t (put_at path new t) (same_numbers new none path t) h

-- what a file that is opened has at hand begins with these numbers, and has the room
pub as_opened : (names : Names) (t : Tree) (more : List ℕ) → weight t.boxes ≤ 16384 → zeros_from 1001 ≡ zeros_of t ++ more
    → beginning names 1001 ≡ stock names (zeros_of t ++ more) (weight t.boxes + (16384 - weight t.boxes))
as_opened names t more few is =
    ap (λ (zs : List ℕ). stock names zs 16384) is ∙ ap (stock names (zeros_of t ++ more)) (all_room (weight t.boxes) few)
  where
    all_room : (n : ℕ) → n ≤ 16384 → 16384 ≡ n + (16384 - n)
    all_room n h = omega (arith, h)

-- ---- files

pub goes_behind : (a b c : List (ℕ × Answer)) → GoesOn a b → GoesOn b c → GoesOn a c
goes_behind a b c x y = record {
  more = x.more ++ y.more;
  is = y.is ∙ ap (λ (l : List (ℕ × Answer)). l ++ y.more) x.is ∙ append_assoc a x.more y.more;
}
