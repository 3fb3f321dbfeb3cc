use Rattle.std.proofs.Common.{◌≡◌, ℕ, zero, suc, ◌+◌, ◌<◌, List, [], ◌∷◌, ◌++◌, length, get_or, take, drop, Option, Some, IsSome, refl, sym, ap, ◌∙◌, subst, arith}
use Rattle.slab.specs.Slab.{get}
use Rattle.slab.proofs.SlabLemmas.{Updates-with_value}
use Rattle.pd_grove.specs.declared.boards.Board.{Board}
use Rattle.pd_grove.specs.Telling.{keys_in}
use Rattle.pd_grove.proofs.boards.take_key.Goals as goal

split_there : (xs : List ℕ) (i r : ℕ) → r ≡ get_or xs i r → i < length xs → xs ≡ take i xs ++ r ∷ drop (suc i) xs
split_there [] i r h l = absurd (omega (arith, l))
split_there (x ∷ xs) zero r h l = ap (λ y. y ∷ xs) (sym h)
split_there (x ∷ xs) (suc i) r h l = ap (λ ys. x ∷ ys) (split_there xs i r h (omega (arith, l)))

live : (o : Option Board) (b : Board) → o ≡ Some b → IsSome o
live o b e = subst (λ z. IsSome z) (sym e) refl

pub returns-clause-keys : goal.returns-clause-keys
returns-clause-keys c =
    let b = c.index_mut-board.result.now in
    let s = c.args.boards.now in
    let k = c.args.board in
    let n = c.args.number in
    let r = c.remove.result in
    let is = c.index_mut-board.ensures.value in
    let after : Board = record { holder = b.holder; depth = b.depth; sheet = b.sheet; nodes = c.remove.new.self } in
    let u = Updates-with_value s k after (live (get s k) b is) in
    let ks : keys_in (get s k) ≡ b.nodes.items = ap keys_in is in
    let next : suc n ≡ n + 1 = omega arith in
    record {
      before = b;
      after = after;
      was = is;
      is = u.changed;
      holder = refl;
      depth = refl;
      sheet = refl;
      had = split_there b.nodes.items n r c.remove.ensures.value (subst (λ l. n < length l) ks c.requires)
          ∙ ap (λ m. take n b.nodes.items ++ r ∷ drop m b.nodes.items) next ∙ ap (λ l. take n l ++ r ∷ drop (n + 1) l) (sym ks);
      has = c.remove.ensures.by_index.2 ∙ ap (λ l. take n l ++ drop (n + 1) l) (sym ks);
      others = u.others;
    }
