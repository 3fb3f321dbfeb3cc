-- Each box of a forest is a box of its tree.
use Rattle.std.proofs.Common.{◌≡◌, ℕ, zero, suc, ◌+◌, List, [], ◌∷◌, Option, Some, None, inl, inr, refl, sym, ap, ◌∙◌, subst, arith}
use Rattle.std.specs.Prelude.{option_and_then, slice_get, ◌-◌}
use Rattle.std.proofs.lemmas.Option.{none-some, same_Some}
use Rattle.pd_tree.specs.Trees.{Cell, Trees, Done, Leaf, Holder, Tree, join}
use Rattle.pd_grove.specs.declared.nodes.Node.{Node}
use Rattle.pd_grove.specs.declared.boards.Board.{Board}
use Rattle.pd_grove.specs.Standing.{node_seen, depth_of, HasCell, NodesOf}
use Rattle.pd_grove.specs.Telling.{keys_in}
use Rattle.pd_grove.specs.Owning.{board_in}
use Rattle.pd_grove.specs.Forest.{IsForest, box_by, box_before, boxes_by, canvas_by, told, Nest, Alone, Inside, nested, StaysAround}
use Rattle.pd_grove.proofs.ForestLemmas.{told_suc}
use Rattle.pd_grove.proofs.NestLemmas.{board_there, canvas_changes}

has_inside : (b : Trees) (c : Cell) (t : Tree) (a : Trees) (x : Cell) → HasCell t.boxes x → HasCell (join b (Holder c t.sheet t.boxes a)) x
has_inside Done c t a x h = inr (inl h)
has_inside (Leaf y rest) c t a x h = inr (has_inside rest c t a x h)
has_inside (Holder y s inner rest) c t a x h = inr (inr (has_inside rest c t a x h))

has_nested : (nest : Nest) (t : Tree) (x : Cell) → HasCell t.boxes x → HasCell (nested nest t).boxes x
has_nested Alone t x h = h
has_nested (Inside s b c nest a) t x h = has_inside b c (nested nest t) a x (has_nested nest t x h)

has_first : (c : Cell) (o : Option Tree) (rest : Trees) → HasCell (box_before c o rest) c
has_first c None rest = inl refl
has_first c (Some u) rest = inl refl

has_behind : (c : Cell) (o : Option Tree) (rest : Trees) (x : Cell) → HasCell rest x → HasCell (box_before c o rest) x
has_behind c None rest x h = inr h
has_behind c (Some u) rest x h = inr (inr h)

has_later : (inside : ℕ → Option Tree) (o : Option Node) (rest : Trees) (x : Cell) → HasCell rest x → HasCell (box_by inside o rest) x
has_later inside None rest x h = h
has_later inside (Some n) rest x h = has_behind (node_seen n).cell (option_and_then inside n.inner) rest x h

has_key : (nodes : ℕ → Option Node) (inside : ℕ → Option Tree) (ks : List ℕ) (i k : ℕ) (n : Node) → slice_get ks i ≡ Some k → nodes k ≡ Some n → HasCell (boxes_by nodes inside ks) (node_seen n).cell
has_key nodes inside [] zero k n h e = absurd (none-some k h)
has_key nodes inside [] (suc i) k n h e = absurd (none-some k h)
has_key nodes inside (y ∷ ks) zero k n h e =
    subst (λ o. HasCell (box_by inside o (boxes_by nodes inside ks)) (node_seen n).cell) (sym (ap nodes (same_Some y k h) ∙ e)) (has_first (node_seen n).cell (option_and_then inside n.inner) (boxes_by nodes inside ks))
has_key nodes inside (y ∷ ks) (suc i) k n h e = has_later inside (nodes y) (boxes_by nodes inside ks) (node_seen n).cell (has_key nodes inside ks i k n h e)

pub all_told : (nodes : ℕ → Option Node) (boards : ℕ → Option Board) (root : ℕ) → IsForest nodes boards root → (t : Tree) → told nodes boards 257 root ≡ Some t → NodesOf t.boxes nodes
all_told nodes boards root F t is k n e = at (256 - depth_of (boards n.board)) (let s = F.shallow n.board in omega (arith, s))
  where
    at : (m : ℕ) → depth_of (boards n.board) + suc m ≡ 257 → HasCell t.boxes (node_seen n).cell
    at m q =
        let P = F.placed k n.board (ap board_in e) in
        let B = board_there (boards n.board) P.0 k P.1 in
        let u : Tree = record { sheet = B.0.sheet; boxes = boxes_by nodes (told nodes boards m) B.0.nodes.items } in
        let was : told nodes boards (suc m) n.board ≡ Some u = told_suc nodes boards m n.board ∙ ap (canvas_by nodes (told nodes boards m)) B.1 in
        let S : StaysAround nodes nodes boards boards n.board = record { boards_stay = λ x live no. refl; nodes_stay = λ l x h no. refl } in
        let H = canvas_changes nodes nodes boards boards root F (depth_of (boards n.board)) (suc m) n.board u u B.0 S B.1 (sym (ap depth_of B.1)) was was in
        let here : HasCell u.boxes (node_seen n).cell = has_key nodes (told nodes boards m) B.0.nodes.items P.0 k n (sym (ap (λ o. slice_get (keys_in o) P.0) B.1) ∙ P.1) e in
        let same : nested H.nest u ≡ t = same_Some (nested H.nest u) t (sym H.was ∙ ap (λ d. told nodes boards d root) q ∙ is) in
        subst (λ (z : Tree). HasCell z.boxes (node_seen n).cell) same (has_nested H.nest u (node_seen n).cell here)
