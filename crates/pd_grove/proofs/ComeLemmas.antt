-- What came with a box into a forest is sound by itself, where a forest is left.
use Rattle.std.proofs.Common.{◌≡◌, ◌≢◌, ℕ, List, ◌∷◌, ◌++◌, Option, Some, None, IsSome, sym, ap, ◌∙◌, subst}
use Rattle.std.specs.Prelude.{slice_get}
use mathlib.Core.Logic.{⊎_elim}
use Rattle.std.proofs.lemmas.Bool.{cases_eq}
use Rattle.std.proofs.lemmas.Option.{none-some}
use Rattle.pd_grove.specs.declared.nodes.Node.{Node}
use Rattle.pd_grove.specs.declared.boards.Board.{Board}
use Rattle.pd_grove.specs.Standing.{depth_of}
use Rattle.pd_grove.specs.Telling.{inner_in, keys_in}
use Rattle.pd_grove.specs.Owning.{board_in}
use Rattle.pd_grove.specs.Forest.{holder_in, IsForest}
use Rattle.pd_grove.specs.Grafts.{HasBoxMore, HasPartMore, sheet_in}
use Rattle.pd_grove.proofs.UseLemmas.{none_or_some, not_both}
use Rattle.pd_grove.proofs.GraftLemmas.{IsHere, IsThere, where_is, is_some, keys_had, keys_has, same_holder, same_depth}

lies_none : (o : Option Node) (x : ℕ) → o ≡ None → board_in o ≡ Some x → ⊥
lies_none None x e h = absurd (none-some x h)
lies_none (Some n) x e h = absurd (none-some n (sym e))

holds_none : (o : Option Node) (x : ℕ) → o ≡ None → inner_in o ≡ Some x → ⊥
holds_none None x e h = absurd (none-some x h)
holds_none (Some n) x e h = absurd (none-some n (sym e))

-- a box came into the canvas c, then more came, and what lived stayed
pub part_more : (n₀ n₁ n₂ : ℕ → Option Node) (b₀ b₁ b₂ : ℕ → Option Board) (root c k : ℕ) (n : Node) (before after : List ℕ) → HasBoxMore n₀ n₁ b₀ b₁ c k n before after
    → ((l : ℕ) → l ≢ k → IsSome (n₁ l) → n₂ l ≡ n₁ l) → ((x : ℕ) → IsSome (b₁ x) → b₂ x ≡ b₁ x) → board_in (n₂ k) ≡ board_in (n₁ k)
    → IsForest n₀ b₀ root → IsForest n₂ b₂ root → HasPartMore n₀ n₂ b₀ b₂ c k before after
part_more n₀ n₁ n₂ b₀ b₁ b₂ root c k n before after M nodes_stay boards_stay lies F G =
    let K = M.keys in
    let had : keys_in (b₀ c) ≡ before ++ after = keys_had b₀ b₁ c (before ++ after) (before ++ k ∷ after) K in
    let stay : b₂ c ≡ b₁ c = boards_stay c (is_some (b₁ c) K.after K.is) in
    let has : keys_in (b₂ c) ≡ before ++ k ∷ after = ap keys_in stay ∙ keys_has b₀ b₁ c (before ++ after) (before ++ k ∷ after) K in
    let live_c : IsSome (b₀ c) = is_some (b₀ c) K.before K.was in
    let not_k : (l : ℕ) → IsSome (n₀ l) → l ≢ k = (λ l s e. not_both (n₀ l) (ap n₀ e ∙ M.vacant) s) in
    let boxes : (l : ℕ) → IsSome (n₀ l) → n₂ l ≡ n₀ l = (λ l s.
    let q = M.others l (not_k l s) in nodes_stay l (not_k l s) (subst (λ o. IsSome o) (sym q) s) ∙ q) in
    let canvases : (x : ℕ) → x ≢ c → IsSome (b₀ x) → b₂ x ≡ b₀ x = (λ x d s.
    let q = K.others x d in boards_stay x (subst (λ o. IsSome o) (sym q) s) ∙ q) in
    let holder_c : holder_in (b₂ c) ≡ holder_in (b₀ c) = ap holder_in stay ∙ same_holder b₀ b₁ c (before ++ after) (before ++ k ∷ after) K c in
    let holder : (x : ℕ) → IsSome (b₀ x) → holder_in (b₂ x) ≡ holder_in (b₀ x) = (λ x s. ⊎_elim
    (λ (e : x ≡ c). ap (λ y. holder_in (b₂ y)) e ∙ holder_c ∙ ap (λ y. holder_in (b₀ y)) (sym e)) (λ (d : x ≢ c). ap holder_in (canvases x d s)) (cases_eq x c)) in
    let keyed : (x i l : ℕ) → IsSome (b₀ x) → l ≢ k → slice_get (keys_in (b₂ x)) i ≡ Some l → board_in (n₀ l) ≡ Some x = (λ x i l s d at. ⊎_elim
    (λ (e : x ≡ c). ⊎_elim (λ (H : IsHere before k i l). absurd (d H.key))
    (λ (T : IsThere before after i l). F.own.home c T.spot l (ap (λ ks. slice_get ks T.spot) had ∙ T.at) ∙ ap (λ y. Some y) (sym e))
    (where_is before after k i l (ap (λ ks. slice_get ks i) (sym has) ∙ ap (λ y. slice_get (keys_in (b₂ y)) i) (sym e) ∙ at)))
    (λ (f : x ≢ c). F.own.home x i l (ap (λ o. slice_get (keys_in o) i) (sym (canvases x f s)) ∙ at)) (cases_eq x c)) in
    record {
      vacant = M.vacant;
      lies = lies ∙ ap board_in M.is ∙ ap (λ y. Some y) M.lies;
      boxes_stay = boxes;
      canvases_stay = canvases;
      live = live_c;
      lives = subst (λ o. IsSome o) (sym stay) (is_some (b₁ c) K.after K.is);
      holder = holder_c;
      depth = ap depth_of stay ∙ same_depth b₀ b₁ c (before ++ after) (before ++ k ∷ after) K c;
      sheet = ap sheet_in (stay ∙ K.is) ∙ ap (λ s. Some s) K.sheet ∙ ap sheet_in (sym K.was);
      had = had;
      has = has;
      home = λ x i l v at. G.own.home x i l at;
      once = λ x i m l v at also. G.own.once x i m l at also;
      placed = λ l x v d h. let P = G.placed l x h in (
        ⊎_elim (λ (e : b₀ x ≡ None). e) (λ (s : IsSome (b₀ x)). absurd (lies_none (n₀ l) x v (keyed x P.0 l s d P.1))) (none_or_some (b₀ x)),
        P.0,
        P.1,
      );
      inside = λ l j v h. let q = G.inside l j h in (
        ⊎_elim (λ (e : b₀ j ≡ None). e) (λ (s : IsSome (b₀ j)). absurd (holds_none (n₀ l) j v (F.held j l (sym (holder j s) ∙ q)))) (none_or_some (b₀ j)),
        q,
      );
      held = λ x l v h. G.held x l h;
      deeper = λ l x j v h q. G.deeper l x j h q;
      closed = λ x v live h. not_both (b₀ root) (ap b₀ (sym (G.alone x live h)) ∙ v) F.rooted.0;
      low = λ x v. G.shallow x;
    }
