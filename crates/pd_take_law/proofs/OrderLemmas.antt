-- The order of the wires to inlets, where a box went.
use Rattle.std.proofs.Common.{◌≡◌, ◌≢◌, ℕ, zero, suc, ◌<◌, ◌≤◌, Bool, true, false, cond, List, [], ◌∷◌, filter, slice_get, Option, Some, IsSome, refl, sym, ap, ◌∙◌, subst, inl, inr, arith}
use mathlib.Core.Logic.{⊎_elim}
use Rattle.std.proofs.lemmas.Bool.Decides.{nat_tests}
use Rattle.std.proofs.lemmas.Bool.{cases_eq}
use Rattle.std.proofs.lemmas.Option.{none-some, same_Some}
use Rattle.slab.specs.Slab.{get}
use Rattle.pd_canvas.specs.Wiring.{lowered}
use Rattle.pd_grove.specs.declared.boards.Board.{Board}
use Rattle.pd_grove.specs.Telling.{keys_in}
use Rattle.pd_grove.proofs.NestLemmas.{board_there}
use Rattle.pd_web.specs.declared.web.Hop.{Hop}
use Rattle.pd_web.specs.Canvases.{keys_at}
use Rattle.pd_web.specs.Changes.{hop_at, Meet}
use Rattle.pd_web.specs.Hops.{fan_hops, feed_hops}
use Rattle.pd_seek.specs.Places.{label_at, AreInOrder, IsNoLater}
use Rattle.pd_patch.specs.declared.patch.Patch.{Patch}
use Rattle.pd_patch.specs.Linked.{ShareCanvas}
use Rattle.pd_patch.specs.Listing.{IsThere}
use Rattle.pd_wiring.proofs.HeardLemmas.{all_at}
use Rattle.pd_boxes.specs.Put.{CanPut}
use Rattle.pd_alike_law.specs.Feeds.{FeedsInOrder}
use Rattle.pd_taking_law.specs.Taking.{TakesBoxAt, CutsBox}
use Rattle.pd_taking_law.proofs.StayLemmas.{keys_less}
use Rattle.pd_taking.specs.Loosening.{is_of_other}
use Rattle.pd_take_law.proofs.GoneLemmas.{BoxWent, lies_out, was_there, wires_gone}
use Rattle.pd_take_law.proofs.FitLemmas.{less_at}
use Rattle.pd_take_law.proofs.FeedLemmas.{from_other, passed}

-- what is in order stays so where some go
pub order_kept : (R : Hop → Hop → Type 0) (p : Hop → Bool) (xs : List Hop) → ((i j : ℕ) (g h : Hop) → i ≤ j → slice_get xs i ≡ Some g → slice_get xs j ≡ Some h → R g h)
    → (i j : ℕ) (g h : Hop) → i ≤ j → slice_get (filter p xs) i ≡ Some g → slice_get (filter p xs) j ≡ Some h → R g h
order_kept R p [] order i j g h l a b = order i j g h l a b
order_kept R p (y ∷ xs) order i j g h l a b = step (p y) i j l a b (order_kept R p xs (λ m n u v k c d. order (suc m) (suc n) u v (omega (arith, k)) c d))
  where
    step : (b : Bool) (i j : ℕ) → i ≤ j → slice_get (cond b (y ∷ filter p xs) (filter p xs)) i ≡ Some g → slice_get (cond b (y ∷ filter p xs) (filter p xs)) j ≡ Some h
        → ((m n : ℕ) (u v : Hop) → m ≤ n → slice_get (filter p xs) m ≡ Some u → slice_get (filter p xs) n ≡ Some v → R u v) → R g h
    step true zero zero l a b rest = order 0 0 g h (omega arith) a b
    step true zero (suc j) l a b rest = let q = passed p xs h j b in order 0 (suc q.place) g h (omega arith) a q.stood
    step true (suc i) zero l a b rest = absurd (omega (arith, l))
    step true (suc i) (suc j) l a b rest = rest i j g h (omega (arith, l)) a b
    step false i j l a b rest = rest i j g h l a b

pub label_is : (labels : List ℕ) (k i : ℕ) → slice_get labels k ≡ Some i → label_at labels k ≡ i
label_is [] k i e = absurd (nothing k e)
  where
    nothing : (k : ℕ) → slice_get [] k ≡ Some i → ⊥
    nothing zero h = none-some i h
    nothing (suc k) h = none-some i h
label_is (x ∷ xs) zero i e = same_Some x i e
label_is (x ∷ xs) (suc k) i e = label_is xs k i e

-- numbers that fall by one behind a number are in the same order
lowered_less : (n a b : ℕ) → a ≢ n → b ≢ n → a < b → lowered n a < lowered n b
lowered_less n a b d e l = grind (arith, nat_tests)

later_by : (labels labels' : List ℕ) (g h : Hop) (f : ℕ → ℕ) → label_at labels' g.node ≡ f (label_at labels g.node) → label_at labels' h.node ≡ f (label_at labels h.node)
    → (label_at labels g.node < label_at labels h.node → f (label_at labels g.node) < f (label_at labels h.node)) → IsNoLater labels g h → IsNoLater labels' g h
later_by labels labels' g h f a b up (inl l) = inl (let m = up l in omega (arith, a, b, m))
later_by labels labels' g h f a b up (inr e) = inr (a ∙ ap f e.0 ∙ sym b, e.1)

module _ (old new : Patch) (path : List ℕ) (canvas key number : ℕ) (part : List ℕ) (D : BoxWent old new path canvas key number part) (C : CanPut old) (meet : Meet old.web) where
  B : TakesBoxAt old.grove new.grove path canvas key number
  B = D.at

  W : CutsBox old.grove new.grove old.web new.web old.numbers.items new.numbers.items key
  W = wires_gone old new path canvas key number part D C

  -- what feeds a box of a canvas lies in it
  pub feeder_there : (c k inlet i : ℕ) (g : Hop) → IsThere (keys_at old.grove c) k → slice_get (feed_hops old.web k inlet) i ≡ Some g → IsThere (keys_at old.grove c) g.node
  feeder_there c k inlet i g t e =
      let f = meet.fanned k inlet i g e in
      let s = all_at (λ (x : Hop). ShareCanvas old.grove g.node x.node) (fan_hops old.web g.node g.port) f.0 (hop_at g.key k inlet) (C.runs.inside g.node g.port) f.1 in
      let same : s.canvas ≡ c = same_Some s.canvas c (sym (C.forest.own.home s.canvas s.other.0 k s.other.1) ∙ C.forest.own.home c t.0 k t.1) in
      (s.one.0, ap (λ x. slice_get (keys_at old.grove x) s.one.0) (sym same) ∙ s.one.1)

  label_here : (k : ℕ) → IsThere (keys_at old.grove canvas) k → k ≢ key → (label_at new.numbers.items k ≡ lowered number (label_at old.numbers.items k)) × (label_at old.numbers.items k ≢ number)
  label_here k t d =
      let was : label_at old.numbers.items k ≡ t.0 = label_is old.numbers.items k t.0 (C.runs.numbers canvas t.0 k t.1) in
      let apart : t.0 ≢ number = (λ e. d (same_Some k key (sym t.1 ∙ ap (slice_get (keys_at old.grove canvas)) e ∙ B.is))) in
      let at : slice_get (keys_at new.grove canvas) (lowered number t.0) ≡ Some k =
      ap (λ (ks : List ℕ). slice_get ks (lowered number t.0)) (keys_less old.grove new.grove path canvas key number B) ∙ less_at (keys_at old.grove canvas) number t.0 apart ∙ t.1 in
      (label_is new.numbers.items k (lowered number t.0) (W.renumbered canvas (lowered number t.0) k at) ∙ ap (lowered number) (sym was), λ e. apart (sym was ∙ e))

  label_aside : (c k : ℕ) → c ≢ canvas → get new.grove.boards c ≡ get old.grove.boards c → IsThere (keys_at old.grove c) k → label_at new.numbers.items k ≡ label_at old.numbers.items k
  label_aside c k d stays t =
      let at : slice_get (keys_at new.grove c) t.0 ≡ Some k = ap (λ (o : Option Board). slice_get (keys_in o) t.0) stays ∙ t.1 in
      label_is new.numbers.items k t.0 (W.renumbered c t.0 k at) ∙ sym (label_is old.numbers.items k t.0 (C.runs.numbers c t.0 k t.1))

  pub still_ordered : (c : ℕ) → FeedsInOrder old c → FeedsInOrder new c
  still_ordered c F = record { all = λ i k inlet at. one i k inlet at }
    where
      relabel : (g h : Hop) → IsSome (get new.grove.boards c) → IsThere (keys_at old.grove c) g.node → IsThere (keys_at old.grove c) h.node → g.node ≢ key → h.node ≢ key → IsNoLater old.numbers.items g h → IsNoLater new.numbers.items g h
      relabel g h live s t d e later = ⊎_elim
          (λ (same : c ≡ canvas).
          let x = label_here g.node (subst (λ z. IsThere (keys_at old.grove z) g.node) same s) d in
          let y = label_here h.node (subst (λ z. IsThere (keys_at old.grove z) h.node) same t) e in
          later_by old.numbers.items new.numbers.items g h (lowered number) x.0 y.0 (λ l. lowered_less number (label_at old.numbers.items g.node) (label_at old.numbers.items h.node) x.1 y.1 l) later)
          (λ (apart : c ≢ canvas).
          let stays = B.takes.no_canvas_comes c apart live in
          later_by old.numbers.items new.numbers.items g h (λ z. z) (label_aside c g.node apart stays s) (label_aside c h.node apart stays t) (λ l. l) later)
          (cases_eq c canvas)

      one : (i k inlet : ℕ) → slice_get (keys_at new.grove c) i ≡ Some k → AreInOrder new.numbers.items (feed_hops new.web k inlet)
      one i k inlet at x y g h l u v =
          let d = lies_out old.grove new.grove path canvas key number D.at part D.is_part c i k at in
          let t = was_there old.grove new.grove path canvas key number D.at c i k at in
          let hops = D.wires.feeds k inlet d in
          let u' = ap (λ (hs : List Hop). slice_get hs x) (sym hops) ∙ u in
          let v' = ap (λ (hs : List Hop). slice_get hs y) (sym hops) ∙ v in
          let p = passed (is_of_other key) (feed_hops old.web k inlet) g x u' in
          let q = passed (is_of_other key) (feed_hops old.web k inlet) h y v' in
          relabel g h (subst (λ (o : Option Board). IsSome o) (sym (board_there (get new.grove.boards c) i k at).1) refl) (feeder_there c k inlet p.place g t p.stood) (feeder_there c k inlet q.place h t q.stood) (from_other key g p.passes) (from_other key h q.passes)
          (order_kept (λ r s. IsNoLater old.numbers.items r s) (is_of_other key) (feed_hops old.web k inlet) (F.all t.0 k inlet t.1) x y g h l u' v')
