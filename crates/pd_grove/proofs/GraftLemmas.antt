-- A forest with one box more or less, or one canvas, is a forest.
use Rattle.std.proofs.Common.{◌≡◌, ◌≢◌, ℕ, zero, suc, ◌+◌, ◌<◌, List, [], ◌∷◌, ◌++◌, Option, Some, None, IsSome, inl, inr, refl, sym, ap, ◌∙◌, subst, arith}
use Rattle.std.specs.Prelude.{slice_get, ◌⊎◌}
use mathlib.Core.Logic.{⊎_elim}
use Rattle.std.proofs.lemmas.Bool.{cases_eq}
use Rattle.std.proofs.lemmas.Option.{none-some, same_Some}
use Rattle.pd_grove.specs.declared.nodes.Node.{Node}
use Rattle.pd_grove.specs.declared.boards.Board.{Board}
use Rattle.pd_grove.specs.Standing.{depth_of}
use Rattle.pd_grove.specs.Telling.{inner_in, keys_in}
use Rattle.pd_grove.specs.Owning.{board_in}
use Rattle.pd_grove.specs.Forest.{holder_in, IsForest}
use Rattle.pd_grove.specs.Grafts.{HasOtherKeys, HasBoxMore}

-- where a place of a list is, once a key has come in behind these
abbrev pub raised : List ℕ → ℕ → ℕ
raised [] i = suc i
raised (x ∷ a) zero = zero
raised (x ∷ a) (suc i) = suc (raised a i)

abbrev pub place_behind : List ℕ → ℕ
place_behind [] = zero
place_behind (x ∷ a) = suc (place_behind a)

pub raised_at : (a b : List ℕ) (k i : ℕ) → slice_get (a ++ k ∷ b) (raised a i) ≡ slice_get (a ++ b) i
raised_at [] b k i = refl
raised_at (x ∷ a) b k zero = refl
raised_at (x ∷ a) b k (suc i) = raised_at a b k i

pub raised_once : (a : List ℕ) (i j : ℕ) → raised a i ≡ raised a j → i ≡ j
raised_once [] i j h = omega (arith, h)
raised_once (x ∷ a) zero zero h = refl
raised_once (x ∷ a) zero (suc j) h = absurd (omega (arith, h))
raised_once (x ∷ a) (suc i) zero h = absurd (omega (arith, h))
raised_once (x ∷ a) (suc i) (suc j) h = ap suc (raised_once a i j (omega (arith, h)))

pub middle_at : (a b : List ℕ) (k : ℕ) → slice_get (a ++ k ∷ b) (place_behind a) ≡ Some k
middle_at [] b k = refl
middle_at (x ∷ a) b k = middle_at a b k

pub record IsHere (a : List ℕ) (k i l : ℕ) : Type 0 where
  pub key : l ≡ k
  pub place : i ≡ place_behind a

pub record IsThere (a b : List ℕ) (i l : ℕ) : Type 0 where
  pub spot : ℕ
  pub at : slice_get (a ++ b) spot ≡ Some l
  pub place : i ≡ raised a spot

pub where_is : (a b : List ℕ) (k i l : ℕ) → slice_get (a ++ k ∷ b) i ≡ Some l → IsHere a k i l ⊎ IsThere a b i l
where_is [] b k zero l h = inl (record { key = sym (same_Some k l h); place = refl })
where_is [] b k (suc i) l h = inr (record { spot = i; at = h; place = refl })
where_is (x ∷ a) b k zero l h = inr (record { spot = zero; at = h; place = refl })
where_is (x ∷ a) b k (suc i) l h = ⊎_elim
    (λ (H : IsHere a k i l). inl (record { key = H.key; place = ap suc H.place }))
    (λ (T : IsThere a b i l). inr (record { spot = suc T.spot; at = T.at; place = ap suc T.place }))
    (where_is a b k i l h)

-- what is seen of canvases, where one has other boxes
pub keys_had : (old new : ℕ → Option Board) (c : ℕ) (ks ks' : List ℕ) → HasOtherKeys old new c ks ks' → keys_in (old c) ≡ ks
keys_had old new c ks ks' K = ap keys_in K.was ∙ K.had

pub keys_has : (old new : ℕ → Option Board) (c : ℕ) (ks ks' : List ℕ) → HasOtherKeys old new c ks ks' → keys_in (new c) ≡ ks'
keys_has old new c ks ks' K = ap keys_in K.is ∙ K.has

pub same_holder : (old new : ℕ → Option Board) (c : ℕ) (ks ks' : List ℕ) → HasOtherKeys old new c ks ks' → (x : ℕ) → holder_in (new x) ≡ holder_in (old x)
same_holder old new c ks ks' K x = ⊎_elim
    (λ (e : x ≡ c). ap (λ y. holder_in (new y)) e ∙ ap holder_in K.is ∙ K.holder ∙ sym (ap holder_in K.was) ∙ ap (λ y. holder_in (old y)) (sym e))
    (λ (n : x ≢ c). ap holder_in (K.others x n)) (cases_eq x c)

pub same_depth : (old new : ℕ → Option Board) (c : ℕ) (ks ks' : List ℕ) → HasOtherKeys old new c ks ks' → (x : ℕ) → depth_of (new x) ≡ depth_of (old x)
same_depth old new c ks ks' K x = ⊎_elim
    (λ (e : x ≡ c). ap (λ y. depth_of (new y)) e ∙ ap depth_of K.is ∙ K.depth ∙ sym (ap depth_of K.was) ∙ ap (λ y. depth_of (old y)) (sym e))
    (λ (n : x ≢ c). ap depth_of (K.others x n)) (cases_eq x c)

pub is_some : (o : Option Board) (b : Board) → o ≡ Some b → IsSome o
is_some o b e = subst (λ z. IsSome z) (sym e) refl

live_new : (old new : ℕ → Option Board) (c : ℕ) (ks ks' : List ℕ) → HasOtherKeys old new c ks ks' → (x : ℕ) → IsSome (old x) → IsSome (new x)
live_new old new c ks ks' K x h = ⊎_elim
    (λ (e : x ≡ c). subst (λ y. IsSome (new y)) (sym e) (is_some (new c) K.after K.is))
    (λ (n : x ≢ c). subst (λ z. IsSome z) (sym (K.others x n)) h) (cases_eq x c)

live_old : (old new : ℕ → Option Board) (c : ℕ) (ks ks' : List ℕ) → HasOtherKeys old new c ks ks' → (x : ℕ) → IsSome (new x) → IsSome (old x)
live_old old new c ks ks' K x h = ⊎_elim
    (λ (e : x ≡ c). subst (λ y. IsSome (old y)) (sym e) (is_some (old c) K.before K.was))
    (λ (n : x ≢ c). subst (λ z. IsSome z) (K.others x n) h) (cases_eq x c)

-- a box of a forest is not the one that comes
pub not_new : (nodes : ℕ → Option Node) (k l x : ℕ) → nodes k ≡ None → board_in (nodes l) ≡ Some x → l ≢ k
not_new nodes k l x v h = λ e. none-some x (sym (ap board_in v) ∙ ap (λ y. board_in (nodes y)) (sym e) ∙ h)

pub not_held : (nodes : ℕ → Option Node) (k l x : ℕ) → nodes k ≡ None → inner_in (nodes l) ≡ Some x → l ≢ k
not_held nodes k l x v h = λ e. none-some x (sym (ap inner_in v) ∙ ap (λ y. inner_in (nodes y)) (sym e) ∙ h)

pub forest_more : (nodes nodes' : ℕ → Option Node) (boards boards' : ℕ → Option Board) (root c k : ℕ) (n : Node) (a b : List ℕ) → HasBoxMore nodes nodes' boards boards' c k n a b
    → IsForest nodes boards root → IsForest nodes' boards' root
forest_more nodes nodes' boards boards' root c k n a b M F =
    let K = M.keys in
    let had = keys_had boards boards' c (a ++ b) (a ++ k ∷ b) K in
    let has = keys_has boards boards' c (a ++ b) (a ++ k ∷ b) K in
    let holder = same_holder boards boards' c (a ++ b) (a ++ k ∷ b) K in
    let depth = same_depth boards boards' c (a ++ b) (a ++ k ∷ b) K in
    let lies_k : board_in (nodes' k) ≡ Some c = ap board_in M.is ∙ ap (λ y. Some y) M.lies in
    let bare_k : inner_in (nodes' k) ≡ None = ap inner_in M.is ∙ M.bare in
    let told : (x i l : ℕ) → x ≡ c → slice_get (keys_in (boards' x)) i ≡ Some l → IsHere a k i l ⊎ IsThere a b i l =
    (λ x i l e at. where_is a b k i l (sym (ap (λ ks. slice_get ks i) has) ∙ ap (λ y. slice_get (keys_in (boards' y)) i) (sym e) ∙ at)) in
    let back : (i l : ℕ) → slice_get (a ++ b) i ≡ Some l → slice_get (keys_in (boards c)) i ≡ Some l = (λ i l h. ap (λ ks. slice_get ks i) had ∙ h) in
    let other : (x i l : ℕ) → x ≢ c → slice_get (keys_in (boards' x)) i ≡ Some l → slice_get (keys_in (boards x)) i ≡ Some l =
    (λ x i l d at. sym (ap (λ o. slice_get (keys_in o) i) (K.others x d)) ∙ at) in
    let stays : (l x : ℕ) → board_in (nodes l) ≡ Some x → board_in (nodes' l) ≡ Some x = (λ l x h. ap board_in (M.others l (not_new nodes k l x M.vacant h)) ∙ h) in
    let absent : (x i : ℕ) → slice_get (keys_in (boards x)) i ≡ Some k → ⊥ = (λ x i h. not_new nodes k k x M.vacant (F.own.home x i k h) refl) in
    let inner : (l j : ℕ) → inner_in (nodes' l) ≡ Some j → l ≢ k = (λ l j h e. none-some j (sym bare_k ∙ ap (λ y. inner_in (nodes' y)) (sym e) ∙ h)) in
    let inner_old : (l j : ℕ) → inner_in (nodes' l) ≡ Some j → inner_in (nodes l) ≡ Some j = (λ l j h. sym (ap inner_in (M.others l (inner l j h))) ∙ h) in
    record {
      own = record {
        home = λ x i l at. ⊎_elim
            (λ (e : x ≡ c). ⊎_elim
            (λ (H : IsHere a k i l). ap (λ y. board_in (nodes' y)) H.key ∙ lies_k ∙ ap (λ y. Some y) (sym e))
            (λ (T : IsThere a b i l). stays l c (F.own.home c T.spot l (back T.spot l T.at)) ∙ ap (λ y. Some y) (sym e))
            (told x i l e at))
            (λ (d : x ≢ c). stays l x (F.own.home x i l (other x i l d at)))
            (cases_eq x c);
        once = λ x i m l at also. ⊎_elim
            (λ (e : x ≡ c). ⊎_elim
            (λ (H : IsHere a k i l). ⊎_elim
            (λ (H' : IsHere a k m l). H.place ∙ sym H'.place)
            (λ (T : IsThere a b m l). absurd (absent c T.spot (back T.spot l T.at ∙ ap (λ y. Some y) H.key)))
            (told x m l e also))
            (λ (T : IsThere a b i l). ⊎_elim
            (λ (H : IsHere a k m l). absurd (absent c T.spot (back T.spot l T.at ∙ ap (λ y. Some y) H.key)))
            (λ (T' : IsThere a b m l). T.place ∙ ap (raised a) (F.own.once c T.spot T'.spot l (back T.spot l T.at) (back T'.spot l T'.at)) ∙ sym T'.place)
            (told x m l e also))
            (told x i l e at))
            (λ (d : x ≢ c). F.own.once x i m l (other x i l d at) (other x m l d also))
            (cases_eq x c);
      };
      placed = λ l x h. ⊎_elim
          (λ (e : l ≡ k). let q : c ≡ x = same_Some c x (sym lies_k ∙ ap (λ y. board_in (nodes' y)) (sym e) ∙ h) in
          subst (λ z. (i : ℕ) × (slice_get (keys_in (boards' z)) i ≡ Some l)) q
          (place_behind a, ap (λ ks. slice_get ks (place_behind a)) has ∙ middle_at a b k ∙ ap (λ y. Some y) (sym e)))
          (λ (d : l ≢ k). let P = F.placed l x (sym (ap board_in (M.others l d)) ∙ h) in ⊎_elim
          (λ (e : x ≡ c). (
            raised a P.0,
            ap (λ y. slice_get (keys_in (boards' y)) (raised a P.0)) e ∙ ap (λ ks. slice_get ks (raised a P.0)) has ∙ raised_at a b k P.0
                ∙ ap (λ ks. slice_get ks P.0) (sym had) ∙ ap (λ y. slice_get (keys_in (boards y)) P.0) (sym e) ∙ P.1,
          ))
          (λ (f : x ≢ c). (P.0, ap (λ o. slice_get (keys_in o) P.0) (K.others x f) ∙ P.1))
          (cases_eq x c))
          (cases_eq l k);
      inside = λ l j h. holder j ∙ F.inside l j (inner_old l j h);
      held = λ x l h. let q = F.held x l (sym (holder x) ∙ h) in ap inner_in (M.others l (not_held nodes k l x M.vacant q)) ∙ q;
      deeper = λ l x j h q. depth j ∙ F.deeper l x j (sym (ap board_in (M.others l (inner l j q))) ∙ h) (inner_old l j q) ∙ ap (λ y. y + 1) (sym (depth x));
      rooted = (live_new boards boards' c (a ++ b) (a ++ k ∷ b) K root F.rooted.0, holder root ∙ F.rooted.1, depth root ∙ F.rooted.2);
      alone = λ x live h. F.alone x (live_old boards boards' c (a ++ b) (a ++ k ∷ b) K x live) (sym (holder x) ∙ h);
      shallow = λ x. subst (λ y. y < 257) (sym (depth x)) (F.shallow x);
    }
