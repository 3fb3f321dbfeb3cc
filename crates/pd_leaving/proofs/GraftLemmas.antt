-- A box without a canvas inside that goes, read backwards.
use Rattle.std.proofs.Common.{◌≡◌, ◌≢◌, ℕ, List, Option, Some, None, is_some, refl, sym, ap, ◌∙◌}
use Rattle.std.proofs.lemmas.Option.{none-some}
use Rattle.pd_grove.specs.declared.nodes.Node.{Node}
use Rattle.pd_grove.specs.declared.boards.Board.{Board}
use Rattle.pd_grove.specs.Grafts.{HasBoxMore, LiesInBox, TakesBox}
use Rattle.pd_grove.specs.Owning.{board_in}
use Rattle.pd_grove.specs.Telling.{inner_in}

-- the boxes before have one more than those after
pub one_box_more : (nodes nodes' : ℕ → Option Node) (boards boards' : ℕ → Option Board) (c k : ℕ) (n : Node) (before behind : List ℕ) → TakesBox nodes nodes' boards boards' c k n before behind → n.inner ≡ None
    → HasBoxMore nodes' nodes boards' boards c k n before behind
one_box_more nodes nodes' boards boards' c k n before behind T leaf = record {
  vacant = T.gone;
  is = T.was;
  lies = T.lay;
  bare = leaf;
  others = λ l d. sym (stays l d (nodes l) (nodes' l) refl refl);
  keys = record {
    before = T.new;
    after = T.old;
    was = T.without;
    is = T.board;
    holder = sym T.holder;
    depth = sym T.depth;
    sheet = sym T.sheet;
    had = T.has;
    has = T.had;
    others = λ x d. sym (T.boards_stay x d (empty x));
  };
}
  where
    empty : (x : ℕ) → LiesInBox nodes boards k x → ⊥
    empty x h = none-some h.0 (sym (ap inner_in T.was ∙ leaf) ∙ h.1)

    stays : (l : ℕ) → l ≢ k → (o o' : Option Node) → nodes l ≡ o → nodes' l ≡ o' → nodes' l ≡ nodes l
    stays l d (Some m) o' was is = T.nodes_stay l m.board d (ap board_in was) (empty m.board)
    stays l d None None was is = is ∙ sym was
    stays l d None (Some m) was is = T.none_comes l (ap is_some is)
