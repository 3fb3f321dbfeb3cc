-- What a comparison of two boxes answers, by the boxes around them.
use Rattle.std.proofs.Common.{◌≡◌, ◌≢◌, ℕ, zero, suc, ◌-◌, ◌<◌, ◌≤◌, Bool, true, false, Option, Some, None, IsTrue, refl, sym, ap, ◌∙◌, subst, arith}
use Rattle.std.specs.Prelude.{min, option_and_then, slice_get, ◌↔◌}
use mathlib.Core.Logic.{inl, inr}
use Rattle.std.proofs.lemmas.Option.{none-some, same_Some}
use Rattle.pd_grove.specs.declared.nodes.Node.{Node}
use Rattle.pd_grove.specs.declared.boards.Board.{Board}
use Rattle.pd_grove.specs.Telling.{keys_in}
use Rattle.pd_grove.specs.Owning.{board_in}
use Rattle.pd_grove.specs.Forest.{holder_in, IsForest}
use Rattle.pd_owning.specs.Order.{holder_of, box_out, level, StandBeside}
use Rattle.pd_owning.proofs.OutLemmas.{out_first, out_none, out_deep, beside_apart, Lifted, lifted}
use Rattle.pd_owning.proofs.OrderLemmas.{Holds, Comes, Answers}

-- the boxes around two boxes, each the last below its own
pub record Outer (nodes : ℕ → Option Node) (boards : ℕ → Option Board) (m a b i j : ℕ) : Type 0 where
  pub rest : ℕ
  pub one_less : m ≡ suc rest
  pub first : ℕ
  pub second : ℕ
  pub holds : holder_of nodes boards a ≡ Some first
  pub other_holds : holder_of nodes boards b ≡ Some second
  pub beside : StandBeside nodes boards rest rest first second i j

module _ (nodes : ℕ → Option Node) (boards : ℕ → Option Board) (root : ℕ) (F : IsForest nodes boards root) where
  less : {i j : ℕ} → i < j → i ≢ j
  less {i} {j} l = omega (arith, l)

  turned : (m n a b i j : ℕ) → StandBeside nodes boards m n a b i j → StandBeside nodes boards n m b a j i
  turned m n a b i j B = record { canvas = B.canvas; first = B.second; second = B.first; out = B.other_out; other_out = B.out; at = B.other_at; other_at = B.at }

  -- the boxes around stand in one canvas at two numbers, so they are two
  two_outer : (a b p q s i j x y : ℕ) → i ≢ j → (L : Lifted nodes boards root F a b p q s i j) → box_out nodes boards p a ≡ Some x → box_out nodes boards q b ≡ Some y → x ≡ y → ⊥
  two_outer a b p q s i j x y d L e f same =
      let u : L.outer ≡ L.other_outer = same_Some L.outer L.other_outer (sym L.near ∙ e ∙ ap (λ z. Some z) same ∙ sym f ∙ L.other_near) in
      beside_apart nodes boards root F L.rest L.other_outer i j d (subst (λ z. StandBeside nodes boards L.rest L.rest z L.other_outer i j) u L.beside)

  pub answer_same : (a b s x : ℕ) (r : Bool) → s ≡ min (level nodes boards a) (level nodes boards b)
      → box_out nodes boards (level nodes boards a - s) a ≡ Some x → box_out nodes boards (level nodes boards b - s) b ≡ Some x
      → (level nodes boards a < level nodes boards b → r ≡ true) → (level nodes boards b ≤ level nodes boards a → r ≡ false) → Answers nodes boards a b r
  answer_same a b s x r least e f up down = record { comes = comes; follows = follows; itself = λ q. let h = ap (level nodes boards) q in down (omega (arith, h)) }
    where
      comes : Comes nodes boards a b → r ≡ true
      comes (inl h) = (let d = out_deep nodes boards root F (suc h.boxes) b a h.out in up (omega (arith, d)))
      comes (inr l) =
          absurd (two_outer a b (level nodes boards a - s) (level nodes boards b - s) s l.number l.other_number x x (less l.less)
          (lifted nodes boards root F l.out l.other_out a b l.number l.other_number s least l.beside) e f refl)

      follows : Comes nodes boards b a → r ≡ false
      follows (inl h) = (let d = out_deep nodes boards root F (suc h.boxes) a b h.out in down (omega (arith, d)))
      follows (inr l) =
          absurd (two_outer b a (level nodes boards b - s) (level nodes boards a - s) s l.number l.other_number x x (less l.less)
          (lifted nodes boards root F l.out l.other_out b a l.number l.other_number s (omega (arith, least)) l.beside) f e refl)

  -- a box that holds another one is the one around it at its own depth
  held_same : (a b s x y : ℕ) → s ≡ min (level nodes boards a) (level nodes boards b) → box_out nodes boards (level nodes boards a - s) a ≡ Some x
      → box_out nodes boards (level nodes boards b - s) b ≡ Some y → Holds nodes boards a b → x ≡ y
  held_same a b s x y least e f h =
      let d = out_deep nodes boards root F (suc h.boxes) b a h.out in
      let none : level nodes boards a - s ≡ 0 = omega (arith, least, d) in
      let all : level nodes boards b - s ≡ suc h.boxes = omega (arith, least, d) in
      let own : x ≡ a = same_Some x a (sym e ∙ ap (λ m. box_out nodes boards m a) none) in
      let other : a ≡ y = same_Some a y (sym h.out ∙ ap (λ m. box_out nodes boards m b) (sym all) ∙ f) in
      own ∙ other

  pub answer_apart : (a b s x y : ℕ) (r : Bool) → s ≡ min (level nodes boards a) (level nodes boards b)
      → box_out nodes boards (level nodes boards a - s) a ≡ Some x → box_out nodes boards (level nodes boards b - s) b ≡ Some y → x ≢ y
      → ((m i j : ℕ) → m ≤ s → i ≢ j → StandBeside nodes boards m m x y i j → IsTrue r ↔ (i < j)) → Answers nodes boards a b r
  answer_apart a b s x y r least e f d told = record {
    comes = comes;
    follows = follows;
    itself = λ q. let h = ap (level nodes boards) q in
        let zero_a : level nodes boards a - s ≡ 0 = omega (arith, least, h) in
        let zero_b : level nodes boards b - s ≡ 0 = omega (arith, least, h) in
        absurd (d (same_Some x y (sym e ∙ ap (λ m. box_out nodes boards m a) zero_a ∙ ap (λ z. Some z) q ∙ ap (λ m. box_out nodes boards m b) (sym zero_b) ∙ f)));
  }
    where
      moved : (i j : ℕ) → (L : Lifted nodes boards root F a b (level nodes boards a - s) (level nodes boards b - s) s i j) → StandBeside nodes boards L.rest L.rest x y i j
      moved i j L =
          subst (λ z. StandBeside nodes boards L.rest L.rest z y i j) (same_Some L.outer x (sym L.near ∙ e))
          (subst (λ z. StandBeside nodes boards L.rest L.rest L.outer z i j) (same_Some L.other_outer y (sym L.other_near ∙ f)) L.beside)

      comes : Comes nodes boards a b → r ≡ true
      comes (inl h) = absurd (d (held_same a b s x y least e f h))
      comes (inr l) =
          let L = lifted nodes boards root F l.out l.other_out a b l.number l.other_number s least l.beside in
          (told L.rest l.number l.other_number L.within (less l.less) (moved l.number l.other_number L)).1 l.less

      follows : Comes nodes boards b a → r ≡ false
      follows (inl h) = absurd (d (sym (held_same b a s y x (omega (arith, least)) f e h)))
      follows (inr l) =
          let L = lifted nodes boards root F l.other_out l.out a b l.other_number l.number s least (turned l.out l.other_out b a l.number l.other_number l.beside) in
          let T = told L.rest l.other_number l.number L.within (λ q. less l.less (sym q)) (moved l.other_number l.number L) in
          by r T.0 l.less
        where
          by : (r : Bool) → (IsTrue r → l.other_number < l.number) → l.number < l.other_number → r ≡ false
          by true t lt = (let u = t refl in absurd (omega (arith, u, lt)))
          by false t lt = refl

  pub answer_none : (a b s : ℕ) → s ≡ min (level nodes boards a) (level nodes boards b) → box_out nodes boards (level nodes boards a - s) a ≡ None → Answers nodes boards a b false
  answer_none a b s least e = record { comes = comes; follows = λ q. refl; itself = λ q. refl }
    where
      comes : Comes nodes boards a b → false ≡ true
      comes (inl h) =
          let d = out_deep nodes boards root F (suc h.boxes) b a h.out in
          let none : level nodes boards a - s ≡ 0 = omega (arith, least, d) in
          absurd (none-some a (sym e ∙ ap (λ m. box_out nodes boards m a) none))
      comes (inr l) = (let L = lifted nodes boards root F l.out l.other_out a b l.number l.other_number s least l.beside in absurd (none-some L.outer (sym e ∙ L.near)))

  pub answer_other_none : (a b s : ℕ) → s ≡ min (level nodes boards a) (level nodes boards b) → box_out nodes boards (level nodes boards b - s) b ≡ None → Answers nodes boards a b false
  answer_other_none a b s least f = record { comes = comes; follows = λ q. refl; itself = λ q. refl }
    where
      comes : Comes nodes boards a b → false ≡ true
      comes (inl h) =
          let d = out_deep nodes boards root F (suc h.boxes) b a h.out in
          let all : level nodes boards b - s ≡ suc h.boxes = omega (arith, least, d) in
          absurd (none-some a (sym f ∙ ap (λ m. box_out nodes boards m b) all ∙ h.out))
      comes (inr l) = (let L = lifted nodes boards root F l.out l.other_out a b l.number l.other_number s least l.beside in absurd (none-some L.other_outer (sym f ∙ L.other_near)))

  -- of two boxes of one canvas neither has to be climbed out of
  pub here : (m a b i j : ℕ) (r : Bool) → board_in (nodes a) ≡ board_in (nodes b) → i ≢ j → StandBeside nodes boards m m a b i j
      → ((c i j : ℕ) → slice_get (keys_in (boards c)) i ≡ Some a → slice_get (keys_in (boards c)) j ≡ Some b → IsTrue r ↔ (i < j)) → IsTrue r ↔ (i < j)
  here zero a b i j r same d B told = told B.canvas i j (B.at ∙ sym B.out) (B.other_at ∙ sym B.other_out)
  here (suc m) a b i j r same d B told = by (holder_of nodes boards b) refl
    where
      both : holder_of nodes boards a ≡ holder_of nodes boards b
      both = ap (option_and_then (λ c. holder_in (boards c))) same

      by : (o : Option ℕ) → holder_of nodes boards b ≡ o → IsTrue r ↔ (i < j)
      by None e = absurd (none-some B.first (sym (out_none nodes boards m a (both ∙ e)) ∙ B.out))
      by (Some h) e =
          absurd (beside_apart nodes boards root F m h i j d
          (record { canvas = B.canvas; first = B.first; second = B.second; out = sym (out_first nodes boards m a h (both ∙ e)) ∙ B.out; other_out = sym (out_first nodes boards m b h e) ∙ B.other_out; at = B.at; other_at = B.other_at }))

  -- two boxes of different canvases have boxes around them
  pub outer : (m a b i j : ℕ) → (board_in (nodes a) ≡ board_in (nodes b) → ⊥) → StandBeside nodes boards m m a b i j → Outer nodes boards m a b i j
  outer zero a b i j d B =
      absurd (d (F.own.home B.canvas i a (B.at ∙ sym B.out) ∙ sym (F.own.home B.canvas j b (B.other_at ∙ sym B.other_out))))
  outer (suc m) a b i j d B = by (holder_of nodes boards a) refl (holder_of nodes boards b) refl
    where
      by : (o : Option ℕ) → holder_of nodes boards a ≡ o → (p : Option ℕ) → holder_of nodes boards b ≡ p → Outer nodes boards (suc m) a b i j
      by None e p f = absurd (none-some B.first (sym (out_none nodes boards m a e) ∙ B.out))
      by (Some h) e None f = absurd (none-some B.second (sym (out_none nodes boards m b f) ∙ B.other_out))
      by (Some h) e (Some k) f = record {
        rest = m;
        one_less = refl;
        first = h;
        second = k;
        holds = e;
        other_holds = f;
        beside = record { canvas = B.canvas; first = B.first; second = B.second; out = sym (out_first nodes boards m a h e) ∙ B.out; other_out = sym (out_first nodes boards m b k f) ∙ B.other_out; at = B.at; other_at = B.other_at };
      }
