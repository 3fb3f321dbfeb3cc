-- Boxes around boxes, and how deep they lie.
use Rattle.std.proofs.Common.{◌≡◌, ◌≢◌, ℕ, zero, suc, ◌+◌, ◌-◌, ◌≤◌, Option, Some, None, refl, sym, ap, ◌∙◌, arith}
use Rattle.std.specs.Prelude.{min, option_and_then, slice_get}
use Rattle.std.proofs.lemmas.Option.{same_Some, option_and_then_some}
use Rattle.pd_grove.specs.declared.nodes.Node.{Node}
use Rattle.pd_grove.specs.declared.boards.Board.{Board}
use Rattle.pd_grove.specs.Standing.{depth_of}
use Rattle.pd_grove.specs.Telling.{inner_in, keys_in}
use Rattle.pd_grove.specs.Owning.{board_in}
use Rattle.pd_grove.specs.Forest.{holder_in, IsForest}
use Rattle.pd_grove.proofs.NestLemmas.{node_there}
use Rattle.pd_owning.specs.Order.{holder_of, box_out, level, StandBeside}

-- the way out begins with the box around
pub out_first : (nodes : ℕ → Option Node) (boards : ℕ → Option Board) (m k h : ℕ) → holder_of nodes boards k ≡ Some h → box_out nodes boards (suc m) k ≡ box_out nodes boards m h
out_first nodes boards zero k h e = e
out_first nodes boards (suc m) k h e = ap (option_and_then (holder_of nodes boards)) (out_first nodes boards m k h e)

pub out_none : (nodes : ℕ → Option Node) (boards : ℕ → Option Board) (m k : ℕ) → holder_of nodes boards k ≡ None → box_out nodes boards (suc m) k ≡ None
out_none nodes boards zero k e = e
out_none nodes boards (suc m) k e = ap (option_and_then (holder_of nodes boards)) (out_none nodes boards m k e)

-- the way out in two parts
pub record Parts (nodes : ℕ → Option Node) (boards : ℕ → Option Board) (m n k x : ℕ) : Type 0 where
  pub between : ℕ
  pub near : box_out nodes boards m k ≡ Some between
  pub far : box_out nodes boards n between ≡ Some x

pub out_parts : (nodes : ℕ → Option Node) (boards : ℕ → Option Board) (n m k x all : ℕ) → all ≡ m + n → box_out nodes boards all k ≡ Some x → Parts nodes boards m n k x
out_parts nodes boards zero m k x all h e =
    let same : all ≡ m = omega (arith, h) in
    record { between = x; near = ap (λ y. box_out nodes boards y k) (sym same) ∙ e; far = refl }
out_parts nodes boards (suc n) m k x zero h e = absurd (omega (arith, h))
out_parts nodes boards (suc n) m k x (suc all) h e =
    option_and_then_some (holder_of nodes boards) (box_out nodes boards all k) x e (λ y near far.
    let P = out_parts nodes boards n m k y all (omega (arith, h)) near in
    record { between = P.between; near = P.near; far = ap (option_and_then (holder_of nodes boards)) P.far ∙ far })

pub level_is : (nodes : ℕ → Option Node) (boards : ℕ → Option Board) (k c : ℕ) → board_in (nodes k) ≡ Some c → level nodes boards k ≡ depth_of (boards c)
level_is nodes boards k c lies = ap (λ o. depth_of (option_and_then boards o)) lies

module _ (nodes : ℕ → Option Node) (boards : ℕ → Option Board) (root : ℕ) (F : IsForest nodes boards root) where
  -- the box around lies in one canvas less
  pub holder_deep : (k h : ℕ) → holder_of nodes boards k ≡ Some h → level nodes boards k ≡ level nodes boards h + 1
  holder_deep k h e =
      option_and_then_some (λ c. holder_in (boards c)) (board_in (nodes k)) h e (λ c lies held.
      let holds : inner_in (nodes h) ≡ Some c = F.held c h held in
      let N = node_there (nodes h) c holds in
      let own : board_in (nodes h) ≡ Some N.0.board = ap board_in N.1 in
      let deeper = F.deeper h N.0.board c own holds in
      let here = level_is nodes boards k c lies in
      let there = level_is nodes boards h N.0.board own in
      omega (arith, deeper, here, there))

  pub out_deep : (m k x : ℕ) → box_out nodes boards m k ≡ Some x → level nodes boards k ≡ level nodes boards x + m
  out_deep zero k x e = (let q = ap (level nodes boards) (same_Some k x e) in omega (arith, q))
  out_deep (suc m) k x e =
      option_and_then_some (holder_of nodes boards) (box_out nodes boards m k) x e (λ y near far.
      let p = out_deep m k y near in
      let q = holder_deep y x far in
      omega (arith, p, q))

  pub level_at : (c i k : ℕ) → slice_get (keys_in (boards c)) i ≡ Some k → level nodes boards k ≡ depth_of (boards c)
  level_at c i k at = level_is nodes boards k c (F.own.home c i k at)

  -- two boxes that stand in one canvas are as deep
  pub beside_deep : (m n a b i j : ℕ) → StandBeside nodes boards m n a b i j → level nodes boards a + n ≡ level nodes boards b + m
  beside_deep m n a b i j B =
      let p = out_deep m a B.first B.out in
      let q = out_deep n b B.second B.other_out in
      let r = level_at B.canvas i B.first B.at in
      let s = level_at B.canvas j B.second B.other_at in
      omega (arith, p, q, r, s)

  -- boxes that stand under two numbers of a canvas are two
  pub beside_apart : (m a i j : ℕ) → i ≢ j → StandBeside nodes boards m m a a i j → ⊥
  beside_apart m a i j d B =
      let same : B.first ≡ B.second = same_Some B.first B.second (sym B.out ∙ B.other_out) in
      d (F.own.once B.canvas i j B.second (B.at ∙ ap (λ y. Some y) same) B.other_at)

  -- two boxes climbed out of to the same depth still have those around them beside each other
  pub record Lifted (a b p q s i j : ℕ) : Type 0 where
    pub outer : ℕ
    pub other_outer : ℕ
    pub near : box_out nodes boards p a ≡ Some outer
    pub other_near : box_out nodes boards q b ≡ Some other_outer
    pub rest : ℕ
    pub within : rest ≤ s
    pub beside : StandBeside nodes boards rest rest outer other_outer i j

  pub lifted : (m n a b i j s : ℕ) → s ≡ min (level nodes boards a) (level nodes boards b) → StandBeside nodes boards m n a b i j
      → Lifted a b (level nodes boards a - s) (level nodes boards b - s) s i j
  lifted m n a b i j s e B =
      let p = level nodes boards a - s in
      let q = level nodes boards b - s in
      let d = beside_deep m n a b i j B in
      let u = out_deep m a B.first B.out in
      let v = out_deep n b B.second B.other_out in
      let near_all : m ≡ p + min m n = omega (arith, d, e, u, v) in
      let far_all : n ≡ q + min m n = omega (arith, d, e, u, v) in
      let P = out_parts nodes boards (min m n) p a B.first m near_all B.out in
      let Q = out_parts nodes boards (min m n) q b B.second n far_all B.other_out in
      record {
        outer = P.between;
        other_outer = Q.between;
        near = P.near;
        other_near = Q.near;
        rest = min m n;
        within = omega (arith, d, e, u, v);
        beside = record { canvas = B.canvas; first = B.first; second = B.second; out = P.far; other_out = Q.far; at = B.at; other_at = B.other_at };
      }
