-- The boxes of canvases that have come get their numbers, canvas by canvas.
use Rattle.std.proofs.Common.{◌≡◌, ◌≢◌, ℕ, zero, suc, ◌+◌, ◌<◌, ◌≤◌, ◌^◌, List, [], ◌∷◌, ◌++◌, drop, length, Option, Some, None, IsSome, IsTrue, refl, sym, ap, ◌∙◌, subst, inl, inr, arith}
use Rattle.std.specs.Prelude.{slice_get, ◌⊎◌}
use mathlib.Core.Logic.{⊎_elim}
use Rattle.std.proofs.lemmas.Bool.{cases_eq, false≢true}
use Rattle.std.proofs.lemmas.Option.{none-some, same_Some, slice_get_within}
use Rattle.slab.specs.Slab.{get}
use Rattle.pd_grove.specs.declared.nodes.Node.{Node}
use Rattle.pd_grove.specs.declared.grove.Grove.{Grove}
use Rattle.pd_grove.specs.Owning.{AreOwn, board_in}
use Rattle.pd_grove.specs.Telling.{inner_in}
use Rattle.pd_owning.specs.Bound.{is_among}
use Rattle.pd_web.specs.Canvases.{keys_at}
use Rattle.pd_patch.specs.Numbers.{AreUnder, IsOut}
use Rattle.pd_patch.specs.Listing.{IsThere}
use Rattle.pd_boxes.specs.Rows.{NumbersFrom}
use Rattle.pd_instances.specs.Layers.{NumbersAll}
use Rattle.pd_instances.proofs.OpenLemmas.{among_here, among_left, last_or}

pub numbers_none : (g : Grove) (old : List ℕ) → NumbersAll g old old []
numbers_none g old = record { under = λ k c t e. absurd (false≢true t); others = λ x out. refl }

-- a key stands in a list or not
pub there_or_out : (keys : List ℕ) (x : ℕ) → IsThere keys x ⊎ IsOut keys x
there_or_out [] x = inr (λ i at. none-some x at)
there_or_out (k ∷ keys) x = by (cases_eq k x) (there_or_out keys x)
  where
    out : k ≢ x → IsOut keys x → (i : ℕ) → slice_get (k ∷ keys) i ≡ Some x → ⊥
    out d o zero at = d (same_Some k x at)
    out d o (suc i) at = o i at

    by : (k ≡ x) ⊎ (k ≢ x) → IsThere keys x ⊎ IsOut keys x → IsThere (k ∷ keys) x ⊎ IsOut (k ∷ keys) x
    by (inl e) r = inl (0, ap (λ y. Some y) e)
    by (inr d) (inl t) = inl (suc t.0, t.1)
    by (inr d) (inr o) = inr (out d o)

module _ (g : Grove) (O : AreOwn (get g.nodes) (get g.boards)) where
  -- a box of one canvas is none of another
  pub apart_canvas : (c d x : ℕ) → c ≢ d → IsThere (keys_at g c) x → IsOut (keys_at g d) x
  apart_canvas c d x differ at i also = differ (same_Some c d (sym (O.home c at.0 x at.1) ∙ O.home d i x also))

  module _ (old mid new ks : List ℕ) (k : ℕ) (A : NumbersAll g old mid ks) where
    -- a canvas more has its numbers
    pub numbers_more : (c : ℕ) → inner_in (get g.nodes k) ≡ Some c → NumbersFrom mid new (keys_at g c) 0 → NumbersAll g old new (ks ++ k ∷ [])
    numbers_more c holds N = record {
      under = λ x d t e. ⊎_elim
          (λ (s : x ≡ k).
          let same : d ≡ c = same_Some d c (sym e ∙ ap (λ y. inner_in (get g.nodes y)) s ∙ holds) in
          subst (λ y. AreUnder new (keys_at g y)) (sym same) here)
          (λ (s : IsTrue (is_among ks x)). later d (A.under x d s e)) (last_or ks k x t);
      others = λ x out.
          N.others x (λ i at. out k c (among_here ks k) holds i at) ∙ A.others x (λ y d s e. out y d (among_left ks k y s) e);
    }
      where
        here : AreUnder new (keys_at g c)
        here i x at = N.under i x (omega arith) at

        later : (d : ℕ) → AreUnder mid (keys_at g d) → AreUnder new (keys_at g d)
        later d U i x at = ⊎_elim
            (λ (s : d ≡ c). N.under i x (omega arith) (ap (λ y. slice_get (keys_at g y) i) (sym s) ∙ at))
            (λ (f : d ≢ c). N.others x (apart_canvas d c x f (i, at)) ∙ U i x at) (cases_eq d c)

    -- a box that holds none changes nothing
    pub numbers_same : inner_in (get g.nodes k) ≡ None → NumbersAll g old mid (ks ++ k ∷ [])
    numbers_same none = record {
      under = λ x d t e. ⊎_elim
          (λ (s : x ≡ k). absurd (none-some d (sym none ∙ ap (λ y. inner_in (get g.nodes y)) (sym s) ∙ e)))
          (λ (s : IsTrue (is_among ks x)). A.under x d s e) (last_or ks k x t);
      others = λ x out. A.others x (λ y d s e. out y d (among_left ks k y s) e);
    }

  -- a box more
  pub numbers_next : (old mid new ks : List ℕ) (k : ℕ) → NumbersAll g old mid ks → ((c : ℕ) → inner_in (get g.nodes k) ≡ Some c → NumbersFrom mid new (keys_at g c) 0)
      → (inner_in (get g.nodes k) ≡ None → new ≡ mid) → NumbersAll g old new (ks ++ k ∷ [])
  numbers_next old mid new ks k A some none = by (inner_in (get g.nodes k)) refl
    where
      by : (o : Option ℕ) → inner_in (get g.nodes k) ≡ o → NumbersAll g old new (ks ++ k ∷ [])
      by None e = subst (λ ns. NumbersAll g old ns (ks ++ k ∷ [])) (sym (none e)) (numbers_same old mid new ks k A e)
      by (Some c) e = numbers_more old mid new ks k A c e (some c e)

-- a list by key reaches as far, where what is under a key was there before or is there now
get_within : (xs ys : List ℕ) (x : ℕ) → slice_get ys x ≡ slice_get xs x → x < length xs → x < length ys
get_within xs ys x e l = by (there xs x l)
  where
    there : (zs : List ℕ) (i : ℕ) → i < length zs → (y : ℕ) × (slice_get zs i ≡ Some y)
    there [] i l = absurd (omega (arith, l))
    there (z ∷ zs) zero l = (z, refl)
    there (z ∷ zs) (suc i) l = there zs i (omega (arith, l))

    by : (y : ℕ) × (slice_get xs x ≡ Some y) → x < length ys
    by t = slice_get_within ys x t.0 (e ∙ t.1)

pub numbers_reach : (g : Grove) (old new : List ℕ) (c x : ℕ) → NumbersFrom old new (keys_at g c) 0 → x < length old → x < length new
numbers_reach g old new c x N l = by (there_or_out (keys_at g c) x)
  where
    by : IsThere (keys_at g c) x ⊎ IsOut (keys_at g c) x → x < length new
    by (inl t) = slice_get_within new x t.0 (N.under t.0 x (omega arith) t.1)
    by (inr o) = get_within old new x (N.others x o) l

dropped : (keys : List ℕ) (n i x : ℕ) → slice_get (drop n keys) i ≡ Some x → (j : ℕ) × (n ≤ j) × (slice_get keys j ≡ Some x)
dropped keys zero i x at = (i, omega arith, at)
dropped [] (suc n) i x at = absurd (none-some x at)
dropped (k ∷ keys) (suc n) i x at = let R = dropped keys n i x at in (suc R.0, let l = R.1 in omega (arith, l), R.2)

pub numbers_still : (old new keys : List ℕ) (n x : ℕ) → NumbersFrom old new keys n → x < length old → x < length new
numbers_still old new keys n x N l = by (there_or_out (drop n keys) x)
  where
    by : IsThere (drop n keys) x ⊎ IsOut (drop n keys) x → x < length new
    by (inl t) = let d = dropped keys n t.0 x t.1 in slice_get_within new x d.0 (N.under d.0 x d.1 d.2)
    by (inr o) = get_within old new x (N.others x o) l

-- a box of a canvas lives
pub box_lives : (o : Option Node) (c : ℕ) → board_in o ≡ Some c → IsSome o
box_lives None c h = absurd (none-some c h)
box_lives (Some n) c h = refl
