-- A forest with a box more and all that lies in it is a forest.
use Rattle.std.proofs.Common.{◌≡◌, ◌≢◌, ℕ, ◌+◌, ◌<◌, List, ◌++◌, Option, Some, None, IsSome, inl, inr, refl, sym, ap, ◌∙◌, subst}
use Rattle.std.specs.Prelude.{slice_get, ◌⊎◌}
use mathlib.Core.Logic.{⊎_elim}
use Rattle.std.proofs.lemmas.Bool.{cases_eq}
use Rattle.std.proofs.lemmas.Option.{none-some, same_Some}
use Rattle.pd_grove.specs.declared.nodes.Node.{Node}
use Rattle.pd_grove.specs.declared.boards.Board.{Board}
use Rattle.pd_grove.specs.Standing.{depth_of}
use Rattle.pd_grove.specs.Telling.{inner_in, keys_in}
use Rattle.pd_grove.specs.Owning.{board_in}
use Rattle.pd_grove.specs.Forest.{holder_in, IsForest}
use Rattle.pd_grove.specs.Grafts.{HasPartMore}
use Rattle.pd_grove.proofs.ForestLemmas.{held_there}
use Rattle.pd_grove.proofs.NestLemmas.{board_there}
use Rattle.pd_grove.proofs.GraftLemmas.{raised, place_behind, raised_at, middle_at, IsHere, IsThere, where_is, is_some}

there : {A : Type 0} (o : Option A) → (o ≡ None) ⊎ IsSome o
there None = inl refl
there (Some a) = inr refl

both : {A : Type 0} (o : Option A) → o ≡ None → IsSome o → ⊥
both None e h = absurd (cc)
both (Some a) e h = none-some a (sym e)

box_lives : (o : Option Node) (x : ℕ) → board_in o ≡ Some x → IsSome o
box_lives None x h = absurd (none-some x h)
box_lives (Some n) x h = refl

holder_lives : (o : Option Node) (x : ℕ) → inner_in o ≡ Some x → IsSome o
holder_lives None x h = absurd (none-some x h)
holder_lives (Some n) x h = refl

pub forest_part : (nodes nodes' : ℕ → Option Node) (boards boards' : ℕ → Option Board) (root c k : ℕ) (a b : List ℕ) → HasPartMore nodes nodes' boards boards' c k a b
    → IsForest nodes boards root → IsForest nodes' boards' root
forest_part nodes nodes' boards boards' root c k a b M F =
    let holder : (x : ℕ) → IsSome (boards x) → holder_in (boards' x) ≡ holder_in (boards x) = (λ x h. ⊎_elim
    (λ (e : x ≡ c). ap (λ y. holder_in (boards' y)) e ∙ M.holder ∙ ap (λ y. holder_in (boards y)) (sym e)) (λ (d : x ≢ c). ap holder_in (M.canvases_stay x d h)) (cases_eq x c)) in
    let depth : (x : ℕ) → IsSome (boards x) → depth_of (boards' x) ≡ depth_of (boards x) = (λ x h. ⊎_elim
    (λ (e : x ≡ c). ap (λ y. depth_of (boards' y)) e ∙ M.depth ∙ ap (λ y. depth_of (boards y)) (sym e)) (λ (d : x ≢ c). ap depth_of (M.canvases_stay x d h)) (cases_eq x c)) in
    let lives : (x : ℕ) → IsSome (boards x) → IsSome (boards' x) = (λ x h. ⊎_elim
    (λ (e : x ≡ c). subst (λ y. IsSome (boards' y)) (sym e) M.lives) (λ (d : x ≢ c). subst (λ o. IsSome o) (sym (M.canvases_stay x d h)) h) (cases_eq x c)) in
    let stays : (l x : ℕ) → board_in (nodes l) ≡ Some x → board_in (nodes' l) ≡ Some x = (λ l x h. ap board_in (M.boxes_stay l (box_lives (nodes l) x h)) ∙ h) in
    let not_k : (l x : ℕ) → board_in (nodes l) ≡ Some x → l ≢ k = (λ l x h e. both (nodes l) (ap nodes e ∙ M.vacant) (box_lives (nodes l) x h)) in
    let keyed : (x i l : ℕ) → slice_get (keys_in (boards x)) i ≡ Some l → IsSome (boards x) = (λ x i l at. let B = board_there (boards x) i l at in is_some (boards x) B.0 B.1) in
    let told : (x i l : ℕ) → x ≡ c → slice_get (keys_in (boards' x)) i ≡ Some l → IsHere a k i l ⊎ IsThere a b i l =
    (λ x i l e at. where_is a b k i l (sym (ap (λ ks. slice_get ks i) M.has) ∙ ap (λ y. slice_get (keys_in (boards' y)) i) (sym e) ∙ at)) in
    let back : (i l : ℕ) → slice_get (a ++ b) i ≡ Some l → slice_get (keys_in (boards c)) i ≡ Some l = (λ i l h. ap (λ ks. slice_get ks i) M.had ∙ h) in
    let far : (x i l : ℕ) → x ≢ c → IsSome (boards x) → slice_get (keys_in (boards' x)) i ≡ Some l → slice_get (keys_in (boards x)) i ≡ Some l =
    (λ x i l d h at. sym (ap (λ o. slice_get (keys_in o) i) (M.canvases_stay x d h)) ∙ at) in
    let absent : (i : ℕ) → slice_get (keys_in (boards c)) i ≡ Some k → ⊥ = (λ i h. not_k k c (F.own.home c i k h) refl) in
    record {
      own = record {
        home = λ x i l at. ⊎_elim (λ (v : boards x ≡ None). M.home x i l v at)
            (λ (h : IsSome (boards x)). ⊎_elim
            (λ (e : x ≡ c). ⊎_elim
            (λ (H : IsHere a k i l). ap (λ y. board_in (nodes' y)) H.key ∙ M.lies ∙ ap (λ y. Some y) (sym e))
            (λ (T : IsThere a b i l). stays l c (F.own.home c T.spot l (back T.spot l T.at)) ∙ ap (λ y. Some y) (sym e))
            (told x i l e at))
            (λ (d : x ≢ c). stays l x (F.own.home x i l (far x i l d h at))) (cases_eq x c)) (there (boards x));
        once = λ x i m l at also. ⊎_elim (λ (v : boards x ≡ None). M.once x i m l v at also)
            (λ (h : IsSome (boards x)). ⊎_elim
            (λ (e : x ≡ c). ⊎_elim
            (λ (H : IsHere a k i l). ⊎_elim
            (λ (H' : IsHere a k m l). H.place ∙ sym H'.place)
            (λ (T : IsThere a b m l). absurd (absent T.spot (back T.spot l T.at ∙ ap (λ y. Some y) H.key))) (told x m l e also))
            (λ (T : IsThere a b i l). ⊎_elim
            (λ (H : IsHere a k m l). absurd (absent T.spot (back T.spot l T.at ∙ ap (λ y. Some y) H.key)))
            (λ (T' : IsThere a b m l). T.place ∙ ap (raised a) (F.own.once c T.spot T'.spot l (back T.spot l T.at) (back T'.spot l T'.at)) ∙ sym T'.place) (told x m l e also))
            (told x i l e at))
            (λ (d : x ≢ c). F.own.once x i m l (far x i l d h at) (far x m l d h also)) (cases_eq x c)) (there (boards x));
      };
      placed = λ l x h. ⊎_elim
          (λ (v : nodes l ≡ None). ⊎_elim
          (λ (e : l ≡ k). let q : c ≡ x = same_Some c x (sym M.lies ∙ ap (λ y. board_in (nodes' y)) (sym e) ∙ h) in
          subst (λ z. (i : ℕ) × (slice_get (keys_in (boards' z)) i ≡ Some l)) q (place_behind a, ap (λ ks. slice_get ks (place_behind a)) M.has ∙ middle_at a b k ∙ ap (λ y. Some y) (sym e)))
          (λ (d : l ≢ k). let P = M.placed l x v d h in (P.1, P.2)) (cases_eq l k))
          (λ (s : IsSome (nodes l)). let P = F.placed l x (sym (ap board_in (M.boxes_stay l s)) ∙ h) in ⊎_elim
          (λ (e : x ≡ c). (
            raised a P.0,
            ap (λ y. slice_get (keys_in (boards' y)) (raised a P.0)) e ∙ ap (λ ks. slice_get ks (raised a P.0)) M.has ∙ raised_at a b k P.0
                ∙ ap (λ ks. slice_get ks P.0) (sym M.had) ∙ ap (λ y. slice_get (keys_in (boards y)) P.0) (sym e) ∙ P.1,
          ))
          (λ (f : x ≢ c). (P.0, ap (λ o. slice_get (keys_in o) P.0) (M.canvases_stay x f (keyed x P.0 l P.1)) ∙ P.1)) (cases_eq x c)) (there (nodes l));
      inside = λ l j h. ⊎_elim (λ (v : nodes l ≡ None). (M.inside l j v h).1)
          (λ (s : IsSome (nodes l)).
          let q = F.inside l j (sym (ap inner_in (M.boxes_stay l s)) ∙ h) in let H = held_there (boards j) l q in
          holder j (is_some (boards j) H.board H.is) ∙ q) (there (nodes l));
      held = λ x l h. ⊎_elim (λ (v : boards x ≡ None). M.held x l v h)
          (λ (s : IsSome (boards x)). let q = F.held x l (sym (holder x s) ∙ h) in ap inner_in (M.boxes_stay l (holder_lives (nodes l) x q)) ∙ q) (there (boards x));
      deeper = λ l x j h q. ⊎_elim (λ (v : nodes l ≡ None). M.deeper l x j v h q)
          (λ (s : IsSome (nodes l)).
          let lay = sym (ap board_in (M.boxes_stay l s)) ∙ h in let held = sym (ap inner_in (M.boxes_stay l s)) ∙ q in
          let P = F.placed l x lay in let H = held_there (boards j) l (F.inside l j held) in
          depth j (is_some (boards j) H.board H.is) ∙ F.deeper l x j lay held ∙ ap (λ y. y + 1) (sym (depth x (keyed x P.0 l P.1)))) (there (nodes l));
      rooted = (lives root F.rooted.0, holder root F.rooted.0 ∙ F.rooted.1, depth root F.rooted.0 ∙ F.rooted.2);
      alone = λ x live h. ⊎_elim (λ (v : boards x ≡ None). absurd (M.closed x v live h)) (λ (s : IsSome (boards x)). F.alone x s (sym (holder x s) ∙ h)) (there (boards x));
      shallow = λ x. ⊎_elim (λ (v : boards x ≡ None). M.low x v) (λ (s : IsSome (boards x)). subst (λ y. y < 257) (sym (depth x s)) (F.shallow x)) (there (boards x));
    }
