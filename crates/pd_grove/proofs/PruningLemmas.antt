-- Taking out canvases and boxes one after another.
use Rattle.std.proofs.Common.{◌≡◌, ◌≢◌, ℕ, zero, suc, ◌+◌, ◌<◌, ◌≤◌, List, [], ◌∷◌, ◌++◌, length, get_or, Option, Some, None, IsSome, inl, inr, refl, sym, ap, ◌∙◌, subst, arith}
use Rattle.std.specs.Prelude.{option_and_then, slice_get, ◌⊎◌}
use mathlib.Core.Logic.{⊎_elim}
use Rattle.std.proofs.lemmas.Bool.{cases_eq}
use Rattle.std.proofs.lemmas.Option.{none-some, same_Some}
use Rattle.slab.specs.Slab.{Slab, get, slab_len}
use Rattle.pd_grove.specs.declared.nodes.Node.{Node}
use Rattle.pd_grove.specs.declared.boards.Board.{Board}
use Rattle.pd_grove.specs.Standing.{depth_of}
use Rattle.pd_grove.specs.Telling.{inner_in, keys_in}
use Rattle.pd_grove.specs.Owning.{board_in}
use Rattle.pd_grove.specs.Forest.{holder_in, IsForest, around, out_of, LiesIn}
use Rattle.pd_grove.specs.Grafts.{HasOtherKeys, LiesInBox, TakesBox}
use Rattle.pd_grove.specs.Pruning.{Loses, GainsNone, LiesInOf, IsInsideOf, IsPart, LiesInFirst, IsPartOfFirst, AreThere, Leave}
use Rattle.pd_grove.proofs.NestLemmas.{around_is, lies_deep, box_deep}

-- first some keys go, and then others
pub loses_then : {A : Type 0} (f g h : ℕ → Option A) (P Q R : ℕ → Type 0) → Loses f g P → Loses g h Q
    → ((k : ℕ) → R k → P k ⊎ Q k) → ((k : ℕ) → P k → R k) → ((k : ℕ) → Q k → R k) → ((k : ℕ) → P k → Q k → ⊥) → Loses f h R
loses_then f g h P Q R L M split first second apart = record {
  go = λ k r. ⊎_elim (λ (p : P k). M.stay k (λ q. apart k p q) ∙ L.go k p) (λ (q : Q k). M.go k q) (split k r);
  stay = λ k no. M.stay k (λ q. no (second k q)) ∙ L.stay k (λ p. no (first k p));
}

pub loses_same : {A : Type 0} (f g : ℕ → Option A) (P R : ℕ → Type 0) → Loses f g P → ((k : ℕ) → R k → P k) → ((k : ℕ) → P k → R k) → Loses f g R
loses_same f g P R L back on = record {
  go = λ k r. L.go k (back k r);
  stay = λ k no. L.stay k (λ p. no (on k p));
}

pub loses_none : {A : Type 0} (f : ℕ → Option A) (P : ℕ → Type 0) → ((k : ℕ) → P k → ⊥) → Loses f f P
loses_none f P none = record {
  go = λ k p. absurd (none k p);
  stay = λ k q. refl;
}

-- one key goes
pub loses_one : {A : Type 0} (f g : ℕ → Option A) (k : ℕ) → g k ≡ None → ((j : ℕ) → j ≢ k → g j ≡ f j) → Loses f g (λ j. j ≡ k)
loses_one f g k gone others = record {
  go = λ j e. ap g e ∙ gone;
  stay = λ j no. others j no;
}

pub gains_then : {A : Type 0} (f g h : ℕ → Option A) → GainsNone f g → GainsNone g h → GainsNone f h
gains_then f g h G H k live = H k live ∙ G k (subst (λ o. IsSome o) (H k live) live)

not_some : {A : Type 0} (o : Option A) → o ≡ None → IsSome o → ⊥
not_some None e h = absurd (cc)
not_some (Some a) e h = absurd (none-some a (sym e))

pub gains_one : {A : Type 0} (f g : ℕ → Option A) (k : ℕ) → g k ≡ None → ((j : ℕ) → j ≢ k → g j ≡ f j) → GainsNone f g
gains_one f g k gone others j live = others j (λ e. not_some (g j) (ap g e ∙ gone) live)

-- no canvas lies in two boxes of one canvas
pub boxes_apart : (ns : ℕ → Option Node) (bs : ℕ → Option Board) (root c : ℕ) → IsForest ns bs root → (i m k l x : ℕ) → i ≢ m
    → slice_get (keys_in (bs c)) i ≡ Some k → slice_get (keys_in (bs c)) m ≡ Some l → LiesInBox ns bs k x → LiesInBox ns bs l x → ⊥
boxes_apart ns bs root c F i m k l x differ at also P Q =
    let a = P.0 in
    let b = Q.0 in
    let deep_a = F.deeper k c a (F.own.home c i k at) P.1 in
    let deep_b = F.deeper l c b (F.own.home c m l also) Q.1 in
    let p = lies_deep ns bs root F P.2.0 x a P.2.1 in
    let q = lies_deep ns bs root F Q.2.0 x b Q.2.1 in
    let level : P.2.0 ≡ Q.2.0 = omega (arith, deep_a, deep_b, p, q) in
    let same : a ≡ b = same_Some a b (sym P.2.1 ∙ ap (λ n. out_of ns bs n x) level ∙ Q.2.1) in
    let keys : k ≡ l = same_Some k l (sym (F.inside k a P.1) ∙ ap (λ y. holder_in (bs y)) same ∙ F.inside l b Q.1) in
    differ (F.own.once c i m l (at ∙ ap (λ y. Some y) keys) also)

-- no box is part of two boxes of one canvas
pub parts_apart : (ns : ℕ → Option Node) (bs : ℕ → Option Board) (root c : ℕ) → IsForest ns bs root → (i m k l y : ℕ) → i ≢ m
    → slice_get (keys_in (bs c)) i ≡ Some k → slice_get (keys_in (bs c)) m ≡ Some l → IsPart ns bs k y → IsPart ns bs l y → ⊥
parts_apart ns bs root c F i m k l y differ at also P Q =
    let home_k = F.own.home c i k at in
    let home_l = F.own.home c m l also in
    ⊎_elim
    (λ (e : y ≡ k). ⊎_elim
    (λ (e' : y ≡ l). differ (F.own.once c i m l (at ∙ ap (λ z. Some z) (sym e ∙ e')) also))
    (λ (D : (x : ℕ) × (board_in (ns y) ≡ Some x) × LiesInBox ns bs l x).
    not_above l D.0 home_l D.2 (same_Some D.0 c (sym D.1 ∙ ap (λ z. board_in (ns z)) e ∙ home_k)))
    Q)
    (λ (D : (x : ℕ) × (board_in (ns y) ≡ Some x) × LiesInBox ns bs k x). ⊎_elim
    (λ (e' : y ≡ l). not_above k D.0 home_k D.2 (same_Some D.0 c (sym D.1 ∙ ap (λ z. board_in (ns z)) e' ∙ home_l)))
    (λ (E : (x : ℕ) × (board_in (ns y) ≡ Some x) × LiesInBox ns bs l x).
    boxes_apart ns bs root c F i m k l D.0 differ at also D.2 (subst (LiesInBox ns bs l) (same_Some E.0 D.0 (sym E.1 ∙ D.1)) E.2))
    Q)
    P
  where
    not_above : (z x : ℕ) → board_in (ns z) ≡ Some c → LiesInBox ns bs z x → x ≡ c → ⊥
    not_above z x home L e =
        let q = box_deep ns bs root z c x F home L in
        let d = ap (λ v. depth_of (bs v)) e in
        absurd (omega (arith, q, d))

-- the first n boxes of a canvas, and then the next
pub first_then : (ns nodes₀ nodes₁ nodes₂ : ℕ → Option Node) (bs boards₀ boards₁ boards₂ : ℕ → Option Board) (root c n k : ℕ) → IsForest ns bs root
    → (ks : List ℕ) → ks ≡ keys_in (bs c) → slice_get ks n ≡ Some k
    → Leave nodes₀ nodes₁ boards₀ boards₁ (LiesInFirst ns bs ks n) (IsPartOfFirst ns bs ks n) → Leave nodes₁ nodes₂ boards₁ boards₂ (LiesInBox ns bs k) (IsPart ns bs k)
    → Leave nodes₀ nodes₂ boards₀ boards₂ (LiesInFirst ns bs ks (n + 1)) (IsPartOfFirst ns bs ks (n + 1))
first_then ns nodes₀ nodes₁ nodes₂ bs boards₀ boards₁ boards₂ root c n k F ks is at L M =
    let there : (i l : ℕ) → slice_get ks i ≡ Some l → slice_get (keys_in (bs c)) i ≡ Some l = (λ i l h. ap (λ ls. slice_get ls i) (sym is) ∙ h) in
    record {
      boards = loses_then boards₀ boards₁ boards₂ (LiesInFirst ns bs ks n) (LiesInBox ns bs k) (LiesInFirst ns bs ks (n + 1)) L.boards M.boards
          (λ x r. ⊎_elim (λ (e : r.0 ≡ n). inr (subst (λ l. LiesInBox ns bs l x) (same_Some r.1 k (sym r.3 ∙ ap (slice_get ks) e ∙ at)) r.4))
          (λ (d : r.0 ≢ n). inl (r.0, r.1, below r.0 r.2 d, r.3, r.4)) (cases_eq r.0 n))
          (λ x p. (p.0, p.1, (let q = p.2 in omega (arith, q)), p.3, p.4))
          (λ x q. (n, k, omega arith, at, q))
          (λ x p q. boxes_apart ns bs root c F p.0 n p.1 k x (λ e. let h = p.2 in absurd (omega (arith, e, h))) (there p.0 p.1 p.3) (there n k at) p.4 q);
      nodes = loses_then nodes₀ nodes₁ nodes₂ (IsPartOfFirst ns bs ks n) (IsPart ns bs k) (IsPartOfFirst ns bs ks (n + 1)) L.nodes M.nodes
          (λ x r. ⊎_elim (λ (e : r.0 ≡ n). inr (subst (λ l. IsPart ns bs l x) (same_Some r.1 k (sym r.3 ∙ ap (slice_get ks) e ∙ at)) r.4))
          (λ (d : r.0 ≢ n). inl (r.0, r.1, below r.0 r.2 d, r.3, r.4)) (cases_eq r.0 n))
          (λ x p. (p.0, p.1, (let q = p.2 in omega (arith, q)), p.3, p.4))
          (λ x q. (n, k, omega arith, at, q))
          (λ x p q. parts_apart ns bs root c F p.0 n p.1 k x (λ e. let h = p.2 in absurd (omega (arith, e, h))) (there p.0 p.1 p.3) (there n k at) p.4 q);
    }
  where
    below : (i : ℕ) → i < n + 1 → i ≢ n → i < n
    below i h d = omega (arith, h, d)

-- what the next box needs is there as long as the first n alone went
pub next_there : (ns nodes₀ nodes₁ : ℕ → Option Node) (bs boards₀ boards₁ : ℕ → Option Board) (root c n k m : ℕ) → IsForest ns bs root
    → (ks : List ℕ) → ks ≡ keys_in (bs c) → slice_get ks n ≡ Some k → n < m
    → AreThere ns nodes₀ bs boards₀ (LiesInFirst ns bs ks m) (IsPartOfFirst ns bs ks m)
    → Leave nodes₀ nodes₁ boards₀ boards₁ (LiesInFirst ns bs ks n) (IsPartOfFirst ns bs ks n)
    → AreThere ns nodes₁ bs boards₁ (LiesInBox ns bs k) (IsPart ns bs k)
next_there ns nodes₀ nodes₁ bs boards₀ boards₁ root c n k m F ks is at low T L =
    let there : (i l : ℕ) → slice_get ks i ≡ Some l → slice_get (keys_in (bs c)) i ≡ Some l = (λ i l h. ap (λ ls. slice_get ls i) (sym is) ∙ h) in
    record {
      boards = λ x q. L.boards.stay x (λ p. boxes_apart ns bs root c F p.0 n p.1 k x (λ e. let h = p.2 in absurd (omega (arith, e, h))) (there p.0 p.1 p.3) (there n k at) p.4 q)
          ∙ T.boards x (n, k, low, at, q);
      nodes = λ x q. L.nodes.stay x (λ p. parts_apart ns bs root c F p.0 n p.1 k x (λ e. let h = p.2 in absurd (omega (arith, e, h))) (there p.0 p.1 p.3) (there n k at) p.4 q)
          ∙ T.nodes x (n, k, low, at, q);
    }

within : (xs : List ℕ) (i l : ℕ) → slice_get xs i ≡ Some l → i < length xs
within [] zero l h = absurd (none-some l h)
within [] (suc i) l h = absurd (none-some l h)
within (x ∷ xs) zero l h = omega arith
within (x ∷ xs) (suc i) l h = (let r = within xs i l h in omega (arith, r))

pub element_at : (xs : List ℕ) (i : ℕ) → i < length xs → slice_get xs i ≡ Some (get_or xs i 0)
element_at [] i h = absurd (omega (arith, h))
element_at (x ∷ xs) zero h = refl
element_at (x ∷ xs) (suc i) h = element_at xs i (omega (arith, h))

-- all boxes went
pub first_all : (ns n₀ n₁ : ℕ → Option Node) (bs b₀ b₁ : ℕ → Option Board) (ks : List ℕ) (n : ℕ) → length ks ≤ n → Leave n₀ n₁ b₀ b₁ (LiesInFirst ns bs ks n) (IsPartOfFirst ns bs ks n)
    → Leave n₀ n₁ b₀ b₁ (LiesInFirst ns bs ks (length ks)) (IsPartOfFirst ns bs ks (length ks))
first_all ns n₀ n₁ bs b₀ b₁ ks n all L = record {
  boards = loses_same b₀ b₁ (LiesInFirst ns bs ks n) (LiesInFirst ns bs ks (length ks)) L.boards
      (λ x p. (p.0, p.1, (let q = p.2 in omega (arith, q, all)), p.3, p.4)) (λ x p. (p.0, p.1, within ks p.0 p.1 p.3, p.3, p.4));
  nodes = loses_same n₀ n₁ (IsPartOfFirst ns bs ks n) (IsPartOfFirst ns bs ks (length ks)) L.nodes
      (λ x p. (p.0, p.1, (let q = p.2 in omega (arith, q, all)), p.3, p.4)) (λ x p. (p.0, p.1, within ks p.0 p.1 p.3, p.3, p.4));
}

-- no box went yet
pub first_none : (ns nodes : ℕ → Option Node) (bs boards : ℕ → Option Board) (ks : List ℕ) → Leave nodes nodes boards boards (LiesInFirst ns bs ks 0) (IsPartOfFirst ns bs ks 0)
first_none ns nodes bs boards ks = record {
  boards = loses_none boards (LiesInFirst ns bs ks 0) (λ k p. let h = p.2 in absurd (omega (arith, h)));
  nodes = loses_none nodes (IsPartOfFirst ns bs ks 0) (λ k p. let h = p.2 in absurd (omega (arith, h)));
}

-- a box goes, and then what it holds
pub box_goes : (ns nodes₀ nodes₁ nodes₂ : ℕ → Option Node) (bs boards₀ boards₁ : ℕ → Option Board) (root k : ℕ) (n : Node) → IsForest ns bs root
    → AreThere ns nodes₀ bs boards₀ (LiesInBox ns bs k) (IsPart ns bs k) → nodes₀ k ≡ Some n → Loses nodes₀ nodes₁ (λ j. j ≡ k)
    → (AreThere ns nodes₁ bs boards₀ (LiesInOf ns bs n.inner) (IsInsideOf ns bs n.inner) → Leave nodes₁ nodes₂ boards₀ boards₁ (LiesInOf ns bs n.inner) (IsInsideOf ns bs n.inner))
    → Leave nodes₀ nodes₂ boards₀ boards₁ (LiesInBox ns bs k) (IsPart ns bs k)
box_goes ns nodes₀ nodes₁ nodes₂ bs boards₀ boards₁ root k n F T is L rest =
    let held : inner_in (ns k) ≡ n.inner = ap inner_in (sym (T.nodes k (inl refl)) ∙ is) in
    let to : (x : ℕ) → LiesInOf ns bs n.inner x → LiesInBox ns bs k x = (λ x p. (p.0, held ∙ p.1, p.2)) in
    let from : (x : ℕ) → LiesInBox ns bs k x → LiesInOf ns bs n.inner x = (λ x p. (p.0, sym held ∙ p.1, p.2)) in
    let apart : (l : ℕ) → l ≡ k → IsInsideOf ns bs n.inner l → ⊥ = (λ l e D.
    let q = box_deep ns bs root k D.0 D.0 F (ap (λ z. board_in (ns z)) (sym e) ∙ D.1) (to D.0 D.2) in absurd (omega (arith, q))) in
    let M = rest (record {
      boards = λ x p. T.boards x (to x p);
      nodes = λ l D. L.stay l (λ e. apart l e D) ∙ T.nodes l (inr (D.0, D.1, to D.0 D.2));
    }) in
    record {
      boards = loses_same boards₀ boards₁ (LiesInOf ns bs n.inner) (LiesInBox ns bs k) M.boards from to;
      nodes = loses_then nodes₀ nodes₁ nodes₂ (λ j. j ≡ k) (IsInsideOf ns bs n.inner) (IsPart ns bs k) L M.nodes
          (λ l p. ⊎_elim (λ (e : l ≡ k). inl e) (λ (D : (x : ℕ) × (board_in (ns l) ≡ Some x) × LiesInBox ns bs k x). inr (D.0, D.1, from D.0 D.2)) p)
          (λ l e. inl e) (λ l D. inr (D.0, D.1, to D.0 D.2)) apart;
    }

-- a box that is not there has nothing in it
pub box_gone : (ns nodes nodes' : ℕ → Option Node) (bs boards : ℕ → Option Board) (k : ℕ) → AreThere ns nodes bs boards (LiesInBox ns bs k) (IsPart ns bs k) → nodes k ≡ None
    → Loses nodes nodes' (λ j. j ≡ k) → Leave nodes nodes' boards boards (LiesInBox ns bs k) (IsPart ns bs k)
box_gone ns nodes nodes' bs boards k T none L =
    let empty : (x : ℕ) → LiesInBox ns bs k x → ⊥ = (λ x p. none-some p.0 (sym (ap inner_in (sym (T.nodes k (inl refl)) ∙ none)) ∙ p.1)) in
    record {
      boards = loses_none boards (LiesInBox ns bs k) empty;
      nodes = loses_same nodes nodes' (λ j. j ≡ k) (IsPart ns bs k) L
          (λ l p. ⊎_elim (λ (e : l ≡ k). e) (λ (D : (x : ℕ) × (board_in (ns l) ≡ Some x) × LiesInBox ns bs k x). absurd (empty D.0 D.2)) p) (λ l e. inl e);
    }

-- what lies in a canvas is that canvas, or lies in one of its boxes
record IsInBoxOf (ns : ℕ → Option Node) (bs : ℕ → Option Board) (c x : ℕ) : Type 0 where
  place : ℕ
  box_key : ℕ
  at : slice_get (keys_in (bs c)) place ≡ Some box_key
  lies : LiesInBox ns bs box_key x

in_some_box : (ns : ℕ → Option Node) (bs : ℕ → Option Board) (root c x : ℕ) → IsForest ns bs root → LiesIn ns bs c x → (x ≡ c) ⊎ IsInBoxOf ns bs c x
in_some_box ns bs root c x F L = by L.0 L.1
  where
    last : (m j : ℕ) → out_of ns bs m x ≡ Some j → (o : Option ℕ) → holder_in (bs j) ≡ o → option_and_then (λ y. board_in (ns y)) o ≡ Some c → IsInBoxOf ns bs c x
    last m j h None e q = absurd (none-some c q)
    last m j h (Some k) e q =
        let P = F.placed k c q in
        record { place = P.0; box_key = k; at = P.1; lies = (j, F.held j k e, (m, h)) }

    step : (m : ℕ) (o : Option ℕ) → out_of ns bs m x ≡ o → option_and_then (around ns bs) o ≡ Some c → IsInBoxOf ns bs c x
    step m None e h = absurd (none-some c h)
    step m (Some j) e h = last m j e (holder_in (bs j)) refl h

    by : (m : ℕ) → out_of ns bs m x ≡ Some c → (x ≡ c) ⊎ IsInBoxOf ns bs c x
    by zero h = inl (same_Some x c h)
    by (suc m) h = inr (step m (out_of ns bs m x) refl h)

-- what lies in a box of a canvas lies in it
in_canvas : (ns : ℕ → Option Node) (bs : ℕ → Option Board) (root c k x : ℕ) → IsForest ns bs root → board_in (ns k) ≡ Some c → LiesInBox ns bs k x → LiesIn ns bs c x
in_canvas ns bs root c k x F home L = (suc L.2.0, ap (option_and_then (around ns bs)) L.2.1 ∙ around_is ns bs root F k c L.0 home L.1)

-- a canvas goes, and then its boxes
pub canvas_goes : (ns nodes₀ nodes₁ : ℕ → Option Node) (bs boards₀ boards₁ boards₂ : ℕ → Option Board) (root c : ℕ) (b : Board) → IsForest ns bs root
    → AreThere ns nodes₀ bs boards₀ (LiesInOf ns bs (Some c)) (IsInsideOf ns bs (Some c)) → boards₀ c ≡ Some b → Loses boards₀ boards₁ (λ j. j ≡ c)
    → (b.nodes.items ≡ keys_in (bs c) → AreThere ns nodes₀ bs boards₁ (LiesInFirst ns bs b.nodes.items (length b.nodes.items)) (IsPartOfFirst ns bs b.nodes.items (length b.nodes.items))
    → Leave nodes₀ nodes₁ boards₁ boards₂ (LiesInFirst ns bs b.nodes.items (length b.nodes.items)) (IsPartOfFirst ns bs b.nodes.items (length b.nodes.items)))
    → Leave nodes₀ nodes₁ boards₀ boards₂ (LiesInOf ns bs (Some c)) (IsInsideOf ns bs (Some c))
canvas_goes ns nodes₀ nodes₁ bs boards₀ boards₁ boards₂ root c b F T is L rest =
    let ks = b.nodes.items in
    let own : LiesInOf ns bs (Some c) c = (c, refl, (zero, refl)) in
    let keys : ks ≡ keys_in (bs c) = ap keys_in (sym is ∙ T.boards c own) in
    let there : (i l : ℕ) → slice_get ks i ≡ Some l → slice_get (keys_in (bs c)) i ≡ Some l = (λ i l h. ap (λ ls. slice_get ls i) (sym keys) ∙ h) in
    let back : (i l : ℕ) → slice_get (keys_in (bs c)) i ≡ Some l → slice_get ks i ≡ Some l = (λ i l h. ap (λ ls. slice_get ls i) keys ∙ h) in
    let home : (i l : ℕ) → slice_get ks i ≡ Some l → board_in (ns l) ≡ Some c = (λ i l h. F.own.home c i l (there i l h)) in
    let low : (i l : ℕ) → slice_get ks i ≡ Some l → i < length ks = (λ i l h. within ks i l h) in
    let to : (x : ℕ) → LiesInFirst ns bs ks (length ks) x → LiesInOf ns bs (Some c) x = (λ x p. (c, refl, in_canvas ns bs root c p.1 x F (home p.0 p.1 p.3) p.4)) in
    let lies : (x : ℕ) → LiesInOf ns bs (Some c) x → LiesIn ns bs c x = (λ x p. subst (λ j. LiesIn ns bs j x) (sym (same_Some c p.0 p.1)) p.2) in
    let apart : (x : ℕ) → x ≡ c → LiesInFirst ns bs ks (length ks) x → ⊥ = (λ x e p.
    let q = box_deep ns bs root p.1 c x F (home p.0 p.1 p.3) p.4 in let d = ap (λ v. depth_of (bs v)) e in absurd (omega (arith, q, d))) in
    let to_box : (l : ℕ) → IsPartOfFirst ns bs ks (length ks) l → IsInsideOf ns bs (Some c) l = (λ l p. ⊎_elim
    (λ (e : l ≡ p.1). (c, ap (λ z. board_in (ns z)) e ∙ home p.0 p.1 p.3, own))
    (λ (D : (x : ℕ) × (board_in (ns l) ≡ Some x) × LiesInBox ns bs p.1 x). (D.0, D.1, to D.0 (p.0, p.1, p.2, p.3, D.2))) p.4) in
    let from_box : (l : ℕ) → IsInsideOf ns bs (Some c) l → IsPartOfFirst ns bs ks (length ks) l = (λ l D. ⊎_elim
    (λ (e : D.0 ≡ c). let P = F.placed l c (D.1 ∙ ap (λ y. Some y) e) in let at = back P.0 l P.1 in (P.0, l, low P.0 l at, at, inl refl))
    (λ (B : IsInBoxOf ns bs c D.0). let at = back B.place B.box_key B.at in (B.place, B.box_key, low B.place B.box_key at, at, inr (D.0, D.1, B.lies)))
    (in_some_box ns bs root c D.0 F (lies D.0 D.2))) in
    let M = rest keys (record {
      boards = λ x p. L.stay x (λ e. apart x e p) ∙ T.boards x (to x p);
      nodes = λ l p. T.nodes l (to_box l p);
    }) in
    record {
      boards = loses_then boards₀ boards₁ boards₂ (λ j. j ≡ c) (LiesInFirst ns bs ks (length ks)) (LiesInOf ns bs (Some c)) L M.boards
          (λ x p. ⊎_elim (λ (e : x ≡ c). inl e)
          (λ (B : IsInBoxOf ns bs c x). let at = back B.place B.box_key B.at in inr (B.place, B.box_key, low B.place B.box_key at, at, B.lies))
          (in_some_box ns bs root c x F (lies x p)))
          (λ x e. subst (LiesInOf ns bs (Some c)) (sym e) own) to apart;
      nodes = loses_same nodes₀ nodes₁ (IsPartOfFirst ns bs ks (length ks)) (IsInsideOf ns bs (Some c)) M.nodes from_box to_box;
    }

-- no canvas, or one that is not there
pub none_goes : (ns nodes : ℕ → Option Node) (bs boards : ℕ → Option Board) → Leave nodes nodes boards boards (LiesInOf ns bs None) (IsInsideOf ns bs None)
none_goes ns nodes bs boards = record {
  boards = loses_none boards (LiesInOf ns bs None) (λ x p. none-some p.0 p.1);
  nodes = loses_none nodes (IsInsideOf ns bs None) (λ x D. none-some D.2.0 D.2.1);
}

pub canvas_gone : (ns nodes : ℕ → Option Node) (bs boards boards' : ℕ → Option Board) (root c : ℕ) → IsForest ns bs root → AreThere ns nodes bs boards (LiesInOf ns bs (Some c)) (IsInsideOf ns bs (Some c))
    → boards c ≡ None → Loses boards boards' (λ j. j ≡ c) → Leave nodes nodes boards boards' (LiesInOf ns bs (Some c)) (IsInsideOf ns bs (Some c))
canvas_gone ns nodes bs boards boards' root c F T none L =
    let own : LiesInOf ns bs (Some c) c = (c, refl, (zero, refl)) in
    let gone : bs c ≡ None = sym (T.boards c own) ∙ none in
    let empty : (i l : ℕ) → slice_get (keys_in (bs c)) i ≡ Some l → ⊥ = (λ i l h. none-some l (ap (λ o. slice_get (keys_in o) i) (sym gone) ∙ h)) in
    let lies : (x : ℕ) → LiesInOf ns bs (Some c) x → LiesIn ns bs c x = (λ x p. subst (λ j. LiesIn ns bs j x) (sym (same_Some c p.0 p.1)) p.2) in
    record {
      boards = loses_same boards boards' (λ j. j ≡ c) (LiesInOf ns bs (Some c)) L
          (λ x p. ⊎_elim (λ (e : x ≡ c). e) (λ (B : IsInBoxOf ns bs c x). absurd (empty B.place B.box_key B.at)) (in_some_box ns bs root c x F (lies x p)))
          (λ x e. subst (LiesInOf ns bs (Some c)) (sym e) own);
      nodes = loses_none nodes (IsInsideOf ns bs (Some c)) (λ l D. ⊎_elim
          (λ (e : D.0 ≡ c). let P = F.placed l c (D.1 ∙ ap (λ y. Some y) e) in empty P.0 l P.1)
          (λ (B : IsInBoxOf ns bs c D.0). empty B.place B.box_key B.at) (in_some_box ns bs root c D.0 F (lies D.0 D.2)));
    }

-- a box leaves its canvas, what it holds goes, and then the box
record IsLeft (nodes₀ nodes₁ : ℕ → Option Node) (boards₀ boards₁ boards₂ : ℕ → Option Board) (c k : ℕ) (o : Option ℕ) : Type 0 where
  home : board_in (nodes₀ k) ≡ Some c
  not_c : (x : ℕ) → LiesInOf nodes₀ boards₀ o x → x ≢ c
  not_k : (l : ℕ) → IsInsideOf nodes₀ boards₀ o l → l ≢ k
  leave : Leave nodes₀ nodes₁ boards₁ boards₂ (LiesInOf nodes₀ boards₀ o) (IsInsideOf nodes₀ boards₀ o)

is_left : (nodes₀ nodes₁ : ℕ → Option Node) (boards₀ boards₁ boards₂ : ℕ → Option Board) (root c i k : ℕ) (a b : List ℕ) (o : Option ℕ) → IsForest nodes₀ boards₀ root
    → slice_get (keys_in (boards₀ c)) i ≡ Some k → inner_in (nodes₀ k) ≡ o → HasOtherKeys boards₀ boards₁ c (a ++ k ∷ b) (a ++ b)
    → (AreThere nodes₀ nodes₀ boards₀ boards₁ (LiesInOf nodes₀ boards₀ o) (IsInsideOf nodes₀ boards₀ o)
    → Leave nodes₀ nodes₁ boards₁ boards₂ (LiesInOf nodes₀ boards₀ o) (IsInsideOf nodes₀ boards₀ o))
    → IsLeft nodes₀ nodes₁ boards₀ boards₁ boards₂ c k o
is_left nodes₀ nodes₁ boards₀ boards₁ boards₂ root c i k a b o F at held K rest =
    let home : board_in (nodes₀ k) ≡ Some c = F.own.home c i k at in
    let not_c : (x : ℕ) → LiesInOf nodes₀ boards₀ o x → x ≢ c = (λ x p e.
    let q = box_deep nodes₀ boards₀ root k c x F home (p.0, held ∙ p.1, p.2) in let d = ap (λ v. depth_of (boards₀ v)) e in absurd (omega (arith, q, d))) in
    record {
      home = home;
      not_c = not_c;
      not_k = λ l D e. not_c D.0 D.2 (same_Some D.0 c (sym D.1 ∙ ap (λ z. board_in (nodes₀ z)) e ∙ home));
      leave = rest (record { boards = λ x p. K.others x (not_c x p); nodes = λ l D. refl });
    }

-- the box itself is still there
pub box_spared : (nodes₀ nodes₁ : ℕ → Option Node) (boards₀ boards₁ boards₂ : ℕ → Option Board) (root c i k : ℕ) (a b : List ℕ) (o : Option ℕ) → IsForest nodes₀ boards₀ root
    → slice_get (keys_in (boards₀ c)) i ≡ Some k → inner_in (nodes₀ k) ≡ o → HasOtherKeys boards₀ boards₁ c (a ++ k ∷ b) (a ++ b)
    → (AreThere nodes₀ nodes₀ boards₀ boards₁ (LiesInOf nodes₀ boards₀ o) (IsInsideOf nodes₀ boards₀ o)
    → Leave nodes₀ nodes₁ boards₁ boards₂ (LiesInOf nodes₀ boards₀ o) (IsInsideOf nodes₀ boards₀ o))
    → nodes₁ k ≡ nodes₀ k
box_spared nodes₀ nodes₁ boards₀ boards₁ boards₂ root c i k a b o F at held K rest =
    let L = is_left nodes₀ nodes₁ boards₀ boards₁ boards₂ root c i k a b o F at held K rest in
    L.leave.nodes.stay k (λ D. L.not_k k D refl)

some_box : (o : Option Node) (x : ℕ) → board_in o ≡ Some x → IsSome o
some_box None x h = absurd (none-some x h)
some_box (Some n) x h = refl

pub box_lives : (nodes : ℕ → Option Node) (boards : ℕ → Option Board) (root c i k : ℕ) → IsForest nodes boards root → slice_get (keys_in (boards c)) i ≡ Some k → (o : Option Node) → o ≡ nodes k → IsSome o
box_lives nodes boards root c i k F at o e = subst (λ z. IsSome z) (sym e) (some_box (nodes k) c (F.own.home c i k at))

pub canvas_spared : (nodes₀ nodes₁ : ℕ → Option Node) (boards₀ boards₁ boards₂ : ℕ → Option Board) (root c i k : ℕ) (a b : List ℕ) (o : Option ℕ) → IsForest nodes₀ boards₀ root
    → slice_get (keys_in (boards₀ c)) i ≡ Some k → inner_in (nodes₀ k) ≡ o → HasOtherKeys boards₀ boards₁ c (a ++ k ∷ b) (a ++ b)
    → (AreThere nodes₀ nodes₀ boards₀ boards₁ (LiesInOf nodes₀ boards₀ o) (IsInsideOf nodes₀ boards₀ o)
    → Leave nodes₀ nodes₁ boards₁ boards₂ (LiesInOf nodes₀ boards₀ o) (IsInsideOf nodes₀ boards₀ o))
    → boards₂ c ≡ boards₁ c
canvas_spared nodes₀ nodes₁ boards₀ boards₁ boards₂ root c i k a b o F at held K rest =
    let L = is_left nodes₀ nodes₁ boards₀ boards₁ boards₂ root c i k a b o F at held K rest in
    L.leave.boards.stay c (λ p. L.not_c c p refl)

pub box_taken : (nodes₀ nodes₁ nodes₂ : ℕ → Option Node) (boards₀ boards₁ boards₂ : ℕ → Option Board) (root c i k : ℕ) (n : Node) (a b : List ℕ) (o : Option ℕ) → IsForest nodes₀ boards₀ root
    → slice_get (keys_in (boards₀ c)) i ≡ Some k → inner_in (nodes₀ k) ≡ o → HasOtherKeys boards₀ boards₁ c (a ++ k ∷ b) (a ++ b)
    → (AreThere nodes₀ nodes₀ boards₀ boards₁ (LiesInOf nodes₀ boards₀ o) (IsInsideOf nodes₀ boards₀ o)
    → Leave nodes₀ nodes₁ boards₁ boards₂ (LiesInOf nodes₀ boards₀ o) (IsInsideOf nodes₀ boards₀ o))
    → nodes₁ k ≡ Some n → nodes₂ k ≡ None → ((l : ℕ) → l ≢ k → nodes₂ l ≡ nodes₁ l)
    → GainsNone nodes₀ nodes₁ → GainsNone boards₁ boards₂ → TakesBox nodes₀ nodes₂ boards₀ boards₂ c k n a b
box_taken nodes₀ nodes₁ nodes₂ boards₀ boards₁ boards₂ root c i k n a b o F at held K rest is gone others G H =
    let L = is_left nodes₀ nodes₁ boards₀ boards₁ boards₂ root c i k a b o F at held K rest in
    let M = L.leave in
    let was : nodes₀ k ≡ Some n = sym (M.nodes.stay k (λ D. L.not_k k D refl)) ∙ is in
    let to : (x : ℕ) → LiesInOf nodes₀ boards₀ o x → LiesInBox nodes₀ boards₀ k x = (λ x p. (p.0, held ∙ p.1, p.2)) in
    let from : (x : ℕ) → LiesInBox nodes₀ boards₀ k x → LiesInOf nodes₀ boards₀ o x = (λ x p. (p.0, sym held ∙ p.1, p.2)) in
    record {
      was = was;
      lay = same_Some n.board c (sym (ap board_in was) ∙ L.home);
      gone = gone;
      old = K.before;
      new = K.after;
      board = K.was;
      without = M.boards.stay c (λ p. L.not_c c p refl) ∙ K.is;
      holder = K.holder;
      depth = K.depth;
      sheet = K.sheet;
      had = K.had;
      has = K.has;
      boards_go = λ x p. M.boards.go x (from x p);
      nodes_go = λ l x h p. others l (L.not_k l (x, h, from x p)) ∙ M.nodes.go l (x, h, from x p);
      boards_stay = λ x d no. M.boards.stay x (λ p. no (to x p)) ∙ K.others x d;
      nodes_stay = λ l x d h no. others l d ∙ M.nodes.stay l (λ D. no (subst (LiesInBox nodes₀ boards₀ k) (same_Some D.0 x (sym D.1 ∙ h)) (to D.0 D.2)));
      none_comes = gains_then nodes₀ nodes₁ nodes₂ G (gains_one nodes₁ nodes₂ k gone others);
      no_canvas_comes = λ x d live. H x live ∙ K.others x d;
    }

-- after the first n boxes of a canvas
pub record Pruned (nodes₀ nodes₁ : Slab Node) (boards₀ boards₁ : Slab Board) (ks : List ℕ) (n : ℕ) : Type 0 where
  pub leave : (ns : ℕ → Option Node) (bs : ℕ → Option Board) (root c : ℕ) → IsForest ns bs root → ks ≡ keys_in (bs c)
      → AreThere ns (get nodes₀) bs (get boards₀) (LiesInFirst ns bs ks (length ks)) (IsPartOfFirst ns bs ks (length ks))
      → Leave (get nodes₀) (get nodes₁) (get boards₀) (get boards₁) (LiesInFirst ns bs ks n) (IsPartOfFirst ns bs ks n)
  pub no_box_comes : GainsNone (get nodes₀) (get nodes₁)
  pub no_canvas_comes : GainsNone (get boards₀) (get boards₁)
  pub nodes_len : slab_len nodes₁ ≤ slab_len nodes₀
  pub boards_len : slab_len boards₁ ≤ slab_len boards₀
  pub nodes_capacity : nodes₁.capacity ≡ nodes₀.capacity
  pub boards_capacity : boards₁.capacity ≡ boards₀.capacity
