use Rattle.std.proofs.Common.{◌≡◌, ℕ, zero, suc, ◌<◌, List, [], ◌∷◌, ◌++◌, take, drop, Option, Some, IsSome, refl, sym, ap, ◌∙◌, subst, arith}
use Rattle.slab.specs.Slab.{get}
use Rattle.slab.proofs.SlabLemmas.{Updates-with_value}
use Rattle.pd_grove.specs.declared.boards.Board.{Board}
use Rattle.pd_grove.specs.Standing.{board_room}
use Rattle.pd_grove.specs.Telling.{keys_in}
use Rattle.pd_grove.proofs.boards.put_at.Goals as goal

live : (o : Option Board) (b : Board) → o ≡ Some b → IsSome o
live o b e = subst (λ z. IsSome z) (sym e) refl

joined : (xs : List ℕ) (i : ℕ) → xs ≡ take i xs ++ drop i xs
joined [] zero = refl
joined [] (suc i) = refl
joined (x ∷ xs) zero = refl
joined (x ∷ xs) (suc i) = ap (λ ys. x ∷ ys) (joined xs i)

pub returns-clause-keys : goal.returns-clause-keys
returns-clause-keys c =
    let b = c.index_mut-board.result.now in
    let s = c.args.boards.now in
    let k = c.args.board in
    let n = c.args.number in
    let is = c.index_mut-board.ensures.value in
    let room : 0 < board_room (Some b) = subst (λ o. 0 < board_room o) is c.requires.room in
    let put : c.insert.new.self.items ≡ take n b.nodes.items ++ c.args.node ∷ drop n b.nodes.items = rw (c.insert.ensures.succeeds (omega (arith, room))) at c.insert.ensures.items in
    let after : Board = record { holder = b.holder; depth = b.depth; sheet = b.sheet; nodes = c.insert.new.self } in
    let u = Updates-with_value s k after (live (get s k) b is) in
    let ks : keys_in (get s k) ≡ b.nodes.items = ap keys_in is in
    record {
      before = b;
      after = after;
      was = is;
      is = u.changed;
      holder = refl;
      depth = refl;
      sheet = refl;
      had = joined b.nodes.items n ∙ ap (λ l. take n l ++ drop n l) (sym ks);
      has = put ∙ ap (λ l. take n l ++ c.args.node ∷ drop n l) (sym ks);
      others = u.others;
    }
