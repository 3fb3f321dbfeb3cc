-- Labels rise along the boxes of each canvas while boxes come and go.
use Rattle.std.proofs.Common.{◌≡◌, ◌≢◌, ℕ, zero, suc, ◌+◌, ◌<◌, ◌≤◌, List, [], ◌∷◌, ◌++◌, length, take, drop, Option, Some, None, IsSome, inl, inr, refl, sym, ap, ◌∙◌, subst, arith}
use Rattle.std.specs.Prelude.{slice_get, ◌⊎◌}
use mathlib.Core.Logic.{⊎_elim}
use Rattle.std.proofs.lemmas.Bool.{cases_eq}
use Rattle.std.proofs.lemmas.List.{length-append, length-take}
use Rattle.std.proofs.lemmas.Option.{none-some, same_Some}
use Rattle.pd_label.specs.Labels.{label_of, Rise, RiseBut, Reach, IsAway, PutsLabel}
use Rattle.pd_grove.specs.declared.nodes.Node.{Node}
use Rattle.pd_grove.specs.declared.boards.Board.{Board}
use Rattle.pd_grove.specs.Telling.{keys_in}
use Rattle.pd_grove.specs.Owning.{AreOwn}
use Rattle.pd_grove.specs.Grafts.{HasOtherKeys, TakesBox}
use Rattle.pd_grove.specs.Labelled.{AreLabelled}
use Rattle.pd_grove.proofs.GraftLemmas.{raised, raised_at, place_behind, IsHere, IsThere, where_is, keys_had, keys_has}
use Rattle.pd_grove.proofs.UseLemmas.{none_or_some}

pub raised_more : (a : List ℕ) (i j : ℕ) → i < j → raised a i < raised a j
raised_more [] i j l = omega (arith, l)
raised_more (x ∷ a) zero zero l = absurd (omega (arith, l))
raised_more (x ∷ a) zero (suc j) l = omega arith
raised_more (x ∷ a) (suc i) zero l = absurd (omega (arith, l))
raised_more (x ∷ a) (suc i) (suc j) l = let h = raised_more a i j (omega (arith, l)) in omega (arith, h)

raised_less : (a : List ℕ) (i j : ℕ) → raised a i < raised a j → i < j
raised_less [] i j l = omega (arith, l)
raised_less (x ∷ a) zero zero l = absurd (omega (arith, l))
raised_less (x ∷ a) zero (suc j) l = omega arith
raised_less (x ∷ a) (suc i) zero l = absurd (omega (arith, l))
raised_less (x ∷ a) (suc i) (suc j) l = let h = raised_less a i j (omega (arith, l)) in omega (arith, h)

pub place_length : (a : List ℕ) → place_behind a ≡ length a
place_length [] = refl
place_length (x ∷ a) = let h = place_length a in omega (arith, h)

-- a list along which labels rise, with a key more that has none yet
rise_but : (labels a b : List ℕ) (k : ℕ) → Rise labels (a ++ b) → RiseBut (place_behind a) labels (a ++ k ∷ b)
rise_but labels a b k R = λ i j x y l di dj at bt. ⊎_elim
    (λ (H : IsHere a k i x). absurd (di H.place))
    (λ (T : IsThere a b i x). ⊎_elim
    (λ (H : IsHere a k j y). absurd (dj H.place))
    (λ (U : IsThere a b j y). R T.spot U.spot x y (raised_less a T.spot U.spot (subst (λ z. z < raised a U.spot) T.place (subst (λ z. i < z) U.place l))) T.at U.at)
    (where_is a b k j y bt))
    (where_is a b k i x at)

reach_more : (labels a b : List ℕ) (k : ℕ) → k < length labels → Reach labels (a ++ b) → Reach labels (a ++ k ∷ b)
reach_more labels a b k l R = λ i x at. ⊎_elim
    (λ (H : IsHere a k i x). subst (λ z. z < length labels) (sym H.key) l)
    (λ (T : IsThere a b i x). R T.spot x T.at)
    (where_is a b k i x at)

-- a key goes, and no label changes
rise_less : (labels a b : List ℕ) (k : ℕ) → Rise labels (a ++ k ∷ b) → Rise labels (a ++ b)
rise_less labels a b k R = λ i j x y l at bt. R (raised a i) (raised a j) x y (raised_more a i j l) (raised_at a b k i ∙ at) (raised_at a b k j ∙ bt)

reach_less : (labels a b : List ℕ) (k : ℕ) → Reach labels (a ++ k ∷ b) → Reach labels (a ++ b)
reach_less labels a b k R = λ i x at. R (raised a i) x (raised_at a b k i ∙ at)

-- the boxes of a canvas are in no other one
away : (nodes : ℕ → Option Node) (boards : ℕ → Option Board) (c x i a : ℕ) → AreOwn nodes boards → x ≢ c → slice_get (keys_in (boards x)) i ≡ Some a → IsAway (keys_in (boards c)) a
away nodes boards c x i a O d at = λ m is. d (same_Some x c (sym (O.home x i a at) ∙ O.home c m a is))

-- a box comes into a canvas, and is labelled there
pub labels_put : (labels labels' : List ℕ) (nodes : ℕ → Option Node) (b₀ b₁ : ℕ → Option Board) (c k n : ℕ) (a b : List ℕ) → HasOtherKeys b₀ b₁ c (a ++ b) (a ++ k ∷ b) → AreOwn nodes b₁ → k < length labels
    → n ≡ length a → PutsLabel labels labels' (keys_in (b₁ c)) n → AreLabelled labels b₀ → AreLabelled labels' b₁
labels_put labels labels' nodes b₀ b₁ c k n a b K O l e P A =
    let had = keys_had b₀ b₁ c (a ++ b) (a ++ k ∷ b) K in
    let has = keys_has b₀ b₁ c (a ++ b) (a ++ k ∷ b) K in
    let reach : Reach labels (keys_in (b₁ c)) = subst (Reach labels) (sym has) (reach_more labels a b k l (subst (Reach labels) had (A.reach c))) in
    let but : RiseBut n labels (keys_in (b₁ c)) =
    subst (λ m. RiseBut m labels (keys_in (b₁ c))) (place_length a ∙ sym e) (subst (RiseBut (place_behind a) labels) (sym has) (rise_but labels a b k (subst (Rise labels) had (A.rise c)))) in
    let here : Rise labels' (keys_in (b₁ c)) = P.rise reach (λ i j x at bt. O.once c i j x at bt) but in
    let long : (ks : List ℕ) → Reach labels ks → Reach labels' ks = (λ ks R i x at. let r = R i x at in let q = P.long in omega (arith, r, q)) in
    record {
      reach = λ x. ⊎_elim
          (λ (q : x ≡ c). subst (λ y. Reach labels' (keys_in (b₁ y))) (sym q) (long (keys_in (b₁ c)) reach))
          (λ (d : x ≢ c). subst (λ o. Reach labels' (keys_in o)) (sym (K.others x d)) (long (keys_in (b₀ x)) (A.reach x)))
          (cases_eq x c);
      rise = λ x. ⊎_elim
          (λ (q : x ≡ c). subst (λ y. Rise labels' (keys_in (b₁ y))) (sym q) here)
          (λ (d : x ≢ c) i j y z lt at bt.
          let ks = ap keys_in (K.others x d) in
          let ly = P.others y (away nodes b₁ c x i y O d at) in
          let lz = P.others z (away nodes b₁ c x j z O d bt) in
          let r = A.rise x i j y z lt (sym (ap (λ xs. slice_get xs i) ks) ∙ at) (sym (ap (λ xs. slice_get xs j) ks) ∙ bt) in
          omega (arith, ly, lz, r))
          (cases_eq x c);
    }

none_there : (labels ks : List ℕ) → ks ≡ [] → Rise labels ks
none_there labels [] e = λ i j a b l at bt. absurd (none-some a at)
none_there labels (x ∷ ks) e = absurd (cc)

none_reached : (labels ks : List ℕ) → ks ≡ [] → Reach labels ks
none_reached labels [] e = λ i a at. absurd (none-some a at)
none_reached labels (x ∷ ks) e = absurd (cc)

-- each canvas has no boxes, or those that it had
pub labels_keys : (labels : List ℕ) (old new : ℕ → Option Board) → ((c : ℕ) → (keys_in (new c) ≡ []) ⊎ (keys_in (new c) ≡ keys_in (old c))) → AreLabelled labels old → AreLabelled labels new
labels_keys labels old new h A = record {
  reach = λ c. ⊎_elim
      (λ (e : keys_in (new c) ≡ []). none_reached labels (keys_in (new c)) e)
      (λ (e : keys_in (new c) ≡ keys_in (old c)). subst (Reach labels) (sym e) (A.reach c)) (h c);
  rise = λ c. ⊎_elim
      (λ (e : keys_in (new c) ≡ []). none_there labels (keys_in (new c)) e)
      (λ (e : keys_in (new c) ≡ keys_in (old c)). subst (Rise labels) (sym e) (A.rise c)) (h c);
}

-- a canvas without boxes is opened
pub labels_open : (labels : List ℕ) (old new : ℕ → Option Board) (c : ℕ) → keys_in (new c) ≡ [] → ((d : ℕ) → d ≢ c → new d ≡ old d) → AreLabelled labels old → AreLabelled labels new
labels_open labels old new c none others A =
    labels_keys labels old new
    (λ d. ⊎_elim (λ (e : d ≡ c). inl (ap (λ x. keys_in (new x)) e ∙ none)) (λ (n : d ≢ c). inr (ap keys_in (others d n))) (cases_eq d c)) A

-- no canvas has boxes
pub labels_bare : (labels : List ℕ) (boards : ℕ → Option Board) → ((c : ℕ) → keys_in (boards c) ≡ []) → AreLabelled labels boards
labels_bare labels boards h = record { reach = λ c. none_reached labels (keys_in (boards c)) (h c); rise = λ c. none_there labels (keys_in (boards c)) (h c) }

-- there are more labels
pub labels_longer : (labels labels' : List ℕ) (old new : ℕ → Option Board) → length labels ≤ length labels' → ((k : ℕ) → k < length labels → label_of labels' k ≡ label_of labels k)
    → ((c : ℕ) → keys_in (new c) ≡ keys_in (old c)) → AreLabelled labels old → AreLabelled labels' new
labels_longer labels labels' old new l same ks A = record {
  reach = λ c i a at. let r = A.reach c i a (sym (ap (λ xs. slice_get xs i) (ks c)) ∙ at) in omega (arith, r, l);
  rise = λ c i j a b lt at bt.
      let at' = sym (ap (λ xs. slice_get xs i) (ks c)) ∙ at in
      let bt' = sym (ap (λ xs. slice_get xs j) (ks c)) ∙ bt in
      let ea = same a (A.reach c i a at') in
      let eb = same b (A.reach c j b bt') in
      let r = A.rise c i j a b lt at' bt' in
      omega (arith, ea, eb, r);
}

-- a box goes with all that lies in it
pub labels_less : (labels : List ℕ) (n₀ n₁ : ℕ → Option Node) (b₀ b₁ : ℕ → Option Board) (c k : ℕ) (n : Node) (a b : List ℕ) → TakesBox n₀ n₁ b₀ b₁ c k n a b → AreLabelled labels b₀ → AreLabelled labels b₁
labels_less labels n₀ n₁ b₀ b₁ c k n a b T A =
    let had : keys_in (b₀ c) ≡ a ++ k ∷ b = ap keys_in T.board ∙ T.had in
    let has : keys_in (b₁ c) ≡ a ++ b = ap keys_in T.without ∙ T.has in
    let gone : (x : ℕ) → b₁ x ≡ None → keys_in (b₁ x) ≡ [] = (λ x e. ap keys_in e) in
    record {
      reach = λ x. ⊎_elim
          (λ (q : x ≡ c). subst (λ y. Reach labels (keys_in (b₁ y))) (sym q) (subst (Reach labels) (sym has) (reach_less labels a b k (subst (Reach labels) had (A.reach c)))))
          (λ (d : x ≢ c). ⊎_elim
          (λ (e : b₁ x ≡ None). none_reached labels (keys_in (b₁ x)) (gone x e))
          (λ (s : IsSome (b₁ x)). subst (λ o. Reach labels (keys_in o)) (sym (T.no_canvas_comes x d s)) (A.reach x)) (none_or_some (b₁ x)))
          (cases_eq x c);
      rise = λ x. ⊎_elim
          (λ (q : x ≡ c). subst (λ y. Rise labels (keys_in (b₁ y))) (sym q) (subst (Rise labels) (sym has) (rise_less labels a b k (subst (Rise labels) had (A.rise c)))))
          (λ (d : x ≢ c). ⊎_elim
          (λ (e : b₁ x ≡ None). none_there labels (keys_in (b₁ x)) (gone x e))
          (λ (s : IsSome (b₁ x)). subst (λ o. Rise labels (keys_in o)) (sym (T.no_canvas_comes x d s)) (A.rise x)) (none_or_some (b₁ x)))
          (cases_eq x c);
    }

-- one more key, the last
pub one_longer : (xs ks : List ℕ) (k : ℕ) → xs ≡ ks ++ k ∷ [] → length xs ≡ length ks + 1
one_longer xs ks k e = let n = ap (λ ys. length ys) e ∙ length-append ks (k ∷ []) in omega (arith, n)

pub place_within : (xs keys : List ℕ) (k i : ℕ) → i ≤ length keys → xs ≡ take i keys ++ k ∷ drop i keys → i < length xs
place_within xs keys k i l e =
    let first = length-take i keys in
    let n = ap (λ ys. length ys) e ∙ length-append (take i keys) (k ∷ drop i keys) in
    omega (arith, n, first, l)

pub first_length : (keys : List ℕ) (i : ℕ) → i ≤ length keys → i ≡ length (take i keys)
first_length keys i l = let e = length-take i keys in omega (arith, e, l)
