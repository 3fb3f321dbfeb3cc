-- Wires go, one after the other.
use Rattle.std.proofs.Common.{◌≡◌, ℕ, zero, suc, ◌+◌, ◌<◌, ◌≤◌, ◌==◌, Bool, true, false, cond, not, ◌&&◌, ◌||◌, List, [], ◌∷◌, ◌++◌, filter, length, take, get_or, slice_get, Some, refl, sym, ap, ◌∙◌, subst, inl, inr, eqb-true, arith}
use mathlib.Core.Logic.{⊎_elim}
use Rattle.std.proofs.Math.Seq.{take-suc}
use Rattle.std.proofs.lemmas.Option.{slice_get_within, get_or_from_slice_get}
use Rattle.pd_web.specs.declared.web.Hop.{Hop}
use Rattle.pd_web.specs.declared.web.Web.{Web}
use Rattle.pd_web.specs.Hops.{fan_hops, feed_hops}
use Rattle.pd_web.specs.Changes.{hop_at, line_told, without_hop, wires_told, CutsWire}
use Rattle.pd_patch.specs.declared.patch.Patch.{Patch}
use Rattle.pd_wiring.specs.Changes.{LeadsAlong}
use Rattle.pd_taking.specs.Loosening.{Loosens}
use Rattle.pd_misfits.specs.declared.wires.BoxWire.{BoxWire}
use Rattle.pd_misfits.specs.Shedding.{is_among, is_left, AreWiresAt, Sheds}
use Rattle.pd_taking.proofs.LoseLemmas.{IsWeb}
use Rattle.pd_taking.proofs.LoosenLemmas.{loosens_more, TakesOut}
use Rattle.pd_wiring.proofs.WebLemmas.{line_here, HasLaws}
use Rattle.pd_web.proofs.CountLemmas.{cut_is_one_less}
use Rattle.std.specs.Prelude.{is_some}
use Rattle.std.proofs.lemmas.List.{take_all}
use Rattle.pd_misfits.proofs.ListLemmas.{in_listed, listed_in, IsIn}

-- Filters.

all_stay : {X : Type 0} (xs : List X) (p : X → Bool) → ((x : X) → p x ≡ true) → filter p xs ≡ xs
all_stay [] p h = refl
all_stay {X} (x ∷ xs) p h = ap (λ (b : Bool). cond b (x ∷ filter p xs) (filter p xs)) (h x) ∙ ap (λ (ys : List X). x ∷ ys) (all_stay xs p h)

filter_both : (p q r : Hop → Bool) (xs : List Hop) → ((x : Hop) → r x ≡ (p x && q x)) → filter q (filter p xs) ≡ filter r xs
filter_both p q r [] h = refl
filter_both p q r (x ∷ xs) h = step (p x) (h x) (filter_both p q r xs h)
  where
    step : (b : Bool) → r x ≡ (b && q x) → filter q (filter p xs) ≡ filter r xs → filter q (cond b (x ∷ filter p xs) (filter p xs)) ≡ cond (r x) (x ∷ filter r xs) (filter r xs)
    step true e rec = ap (λ (ys : List Hop). cond (q x) (x ∷ ys) ys) rec ∙ ap (λ (b : Bool). cond b (x ∷ filter r xs) (filter r xs)) (sym e)
    step false e rec = rec ∙ ap (λ (b : Bool). cond b (x ∷ filter r xs) (filter r xs)) (sym e)

pub in_filter : {X : Type 0} (p : X → Bool) (xs : List X) (x : X) → IsIn x xs → p x ≡ true → IsIn x (filter p xs)
in_filter p [] x i e = absurd i
in_filter {X} p (y ∷ xs) x i e = ⊎_elim
    (λ (s : y ≡ x). subst (λ b. IsIn x (cond b (y ∷ filter p xs) (filter p xs))) (sym (ap p s ∙ e)) (inl s))
    (λ (r : IsIn x xs). step (p y) (in_filter p xs x r e)) i
  where
    step : (b : Bool) → IsIn x (filter p xs) → IsIn x (cond b (y ∷ filter p xs) (filter p xs))
    step true j = inr j
    step false j = j

pub from_filter : {X : Type 0} (p : X → Bool) (xs : List X) (x : X) → IsIn x (filter p xs) → IsIn x xs × (p x ≡ true)
from_filter p [] x i = absurd i
from_filter {X} p (y ∷ xs) x i = step (p y) refl i (λ j. from_filter p xs x j)
  where
    step : (b : Bool) → p y ≡ b → IsIn x (cond b (y ∷ filter p xs) (filter p xs)) → (IsIn x (filter p xs) → IsIn x xs × (p x ≡ true)) → IsIn x (y ∷ xs) × (p x ≡ true)
    step true e j rec = ⊎_elim (λ (s : y ≡ x). (inl s, ap p (sym s) ∙ e)) (λ (r : IsIn x (filter p xs)). let f = rec r in (inr f.0, f.1)) j
    step false e j rec = let f = rec j in (inr f.0, f.1)

-- Which are among the wires that go.

among_append : (ms : List BoxWire) (m : BoxWire) (k : ℕ) → is_among (ms ++ m ∷ []) k ≡ (is_among ms k || k == m.key)
among_append [] m k = or_false (k == m.key)
  where
    or_false : (b : Bool) → (b || false) ≡ b
    or_false true = refl
    or_false false = refl
among_append (x ∷ ms) m k = step (k == x.key) (among_append ms m k)
  where
    step : (b : Bool) → is_among (ms ++ m ∷ []) k ≡ (is_among ms k || k == m.key) → (b || is_among (ms ++ m ∷ []) k) ≡ ((b || is_among ms k) || k == m.key)
    step true e = refl
    step false e = e

left_append : (ms : List BoxWire) (m : BoxWire) (h : Hop) → is_left (ms ++ m ∷ []) h ≡ (is_left ms h && not (h.key == m.key))
left_append ms m h = ap not (among_append ms m h.key) ∙ neither (is_among ms h.key) (h.key == m.key)
  where
    neither : (a b : Bool) → not (a || b) ≡ (not a && not b)
    neither true b = refl
    neither false b = refl

pub among_some : (ms : List BoxWire) (k : ℕ) → is_among ms k ≡ true → (m : BoxWire) × (IsIn m ms × (k ≡ m.key))
among_some [] k e = cc
among_some (x ∷ ms) k e = step (k == x.key) refl e (λ f. among_some ms k f)
  where
    step : (b : Bool) → (k == x.key) ≡ b → (b || is_among ms k) ≡ true → (is_among ms k ≡ true → (m : BoxWire) × (IsIn m ms × (k ≡ m.key))) → (m : BoxWire) × (IsIn m (x ∷ ms) × (k ≡ m.key))
    step true f e rec = (x, (inl refl, eqb-true k x.key f))
    step false f e rec = let r = rec e in (r.0, (inr r.1.0, r.1.1))

take_more : (ms : List BoxWire) (i : ℕ) (m : BoxWire) → slice_get ms i ≡ Some m → take (i + 1) ms ≡ take i ms ++ m ∷ []
take_more ms i m e =
    let on : i + 1 ≡ suc i = omega arith in
    ap (λ n. take n ms) on ∙ take-suc ms i m (slice_get_within ms i m e) ∙ ap (λ (x : BoxWire). take i ms ++ x ∷ []) (get_or_from_slice_get ms i m m e)

taken_before : (ms : List BoxWire) (i : ℕ) (m : BoxWire) → IsIn m (take i ms) → (j : ℕ) × ((j < i) × (slice_get ms j ≡ Some m))
taken_before ms zero m h = absurd h
taken_before [] (suc i) m h = absurd h
taken_before (x ∷ ms) (suc i) m h = ⊎_elim
    (λ (e : x ≡ m). (0, (omega arith, ap (λ (y : BoxWire). Some y) e)))
    (λ (r : IsIn m (take i ms)). let t = taken_before ms i m r in let l = t.1.0 in (suc t.0, (omega (arith, l), t.1.1))) h

module _ (w : Web) (box : ℕ) (ms : List BoxWire) (A : AreWiresAt w box ms) (i : ℕ) (m : BoxWire) (at : slice_get ms i ≡ Some m) where
  -- none of those before has its key
  not_before : is_among (take i ms) m.key ≡ false
  not_before = step (is_among (take i ms) m.key) refl
    where
      step : (b : Bool) → is_among (take i ms) m.key ≡ b → b ≡ false
      step true e =
          let s = among_some (take i ms) m.key e in
          let t = taken_before ms i s.0 s.1.0 in
          let l = t.1.0 in
          let same = A.once t.0 i s.0 m t.1.1 at (sym s.1.1) in
          absurd (omega (arith, l, same))
      step false e = refl

  -- it stands where it stood
  pub leads_still : (v : Web) → Sheds w v (take i ms) → LeadsAlong v m.key m.line
  leads_still v S =
      let a = A.along i m at in
      let h = hop_at m.key m.line.sink m.line.inlet in
      let was : IsIn h (fan_hops w m.line.source m.line.outlet) = in_listed h (fan_hops w m.line.source m.line.outlet) a.place a.stands in
      let is : IsIn h (fan_hops v m.line.source m.line.outlet) =
      subst (λ hs. IsIn h hs) (sym (S.fans m.line.source m.line.outlet)) (in_filter (is_left (take i ms)) (fan_hops w m.line.source m.line.outlet) h was (ap not not_before)) in
      let l = listed_in h (fan_hops v m.line.source m.line.outlet) is in
      record { place = l.0; stands = l.1 }

  pub sheds_more : (v u : Web) → Sheds w v (take i ms) → CutsWire v u m.key → Sheds w u (take (i + 1) ms)
  sheds_more v u S C =
      let both : (x : Hop) → is_left (take (i + 1) ms) x ≡ (is_left (take i ms) x && not (x.key == m.key)) =
      (λ x. ap (λ (ns : List BoxWire). is_left ns x) (take_more ms i m at) ∙ left_append (take i ms) m x) in
      record {
        fans = λ node outlet. C.fans node outlet ∙ ap (without_hop m.key) (S.fans node outlet)
            ∙ filter_both (is_left (take i ms)) (λ x. not (x.key == m.key)) (is_left (take (i + 1) ms)) (fan_hops w node outlet) both;
        feeds = λ node inlet. C.feeds node inlet ∙ ap (without_hop m.key) (S.feeds node inlet)
            ∙ filter_both (is_left (take i ms)) (λ x. not (x.key == m.key)) (is_left (take (i + 1) ms)) (feed_hops w node inlet) both;
      }

pub sheds_none : (w : Web) → Sheds w w []
sheds_none w = record {
  fans = λ node outlet. sym (all_stay (fan_hops w node outlet) (is_left []) (λ x. refl));
  feeds = λ node inlet. sym (all_stay (feed_hops w node inlet) (is_left []) (λ x. refl));
}

-- the element at a place
pub item_at : (ms : List BoxWire) (i : ℕ) (m : BoxWire) → i < length ms → m ≡ get_or ms i m → slice_get ms i ≡ Some m
item_at [] i m l e = absurd (omega (arith, l))
item_at (x ∷ ms) zero m l e = ap (λ (y : BoxWire). Some y) (sym e)
item_at (x ∷ ms) (suc i) m l e = item_at ms i m (omega (arith, l)) e

-- One wire more goes.
module _ (p q r : Patch) (box : ℕ) (ms : List BoxWire) (i : ℕ) (m : BoxWire) (A : AreWiresAt p.web box ms) (S : Sheds p.web q.web (take i ms)) (within : i < length ms) (is : m ≡ get_or ms i m) where
  pub item_leads : LeadsAlong q.web m.key m.line
  item_leads = leads_still p.web box ms A i m (item_at ms i m within is) q.web S

  item_told : HasLaws q.web → line_told q.web m.key ≡ Some m.line
  item_told laws = line_here q.web m.key m.line laws item_leads

  pub item_loosens : (s s' s'' : ℕ) → Loosens p q box s s' → IsWeb q.web → HasLaws q.web → TakesOut q r m.key m.line s' s'' → Loosens p r box s s''
  item_loosens s s' s'' L web laws D = loosens_more p q r box m.key m.line s s' s'' L web (item_told laws) (A.at i m (item_at ms i m within is)) item_leads D

  pub item_sheds : CutsWire q.web r.web m.key → Sheds p.web r.web (take (i + 1) ms)
  item_sheds C = sheds_more p.web box ms A i m (item_at ms i m within is) q.web r.web S C

  pub item_one_less : HasLaws q.web → CutsWire q.web r.web m.key → wires_told r.web + 1 ≡ wires_told q.web
  item_one_less laws C = cut_is_one_less q.web r.web m.key C (ap is_some (item_told laws))

pub sheds_all : (w v : Web) (ms : List BoxWire) (i : ℕ) → length ms ≤ i → Sheds w v (take i ms) → Sheds w v ms
sheds_all w v ms i l S = subst (Sheds w v) (take_all i ms l) S
