-- Wires that stand once: among feeds as in fan-outs, and through edits of wires.
use Rattle.std.proofs.Common.{◌≡◌, ◌≢◌, ◌≤◌, ◌+◌, ℕ, zero, suc, ◌==◌, Bool, true, false, cond, not, List, [], ◌∷◌, filter, slice_get, Option, Some, None, refl, sym, ap, ◌∙◌, subst, inl, inr, arith}
use Rattle.std.specs.Prelude.{option_map, ◌⊎◌}
use Rattle.std.specs.List.{insert}
use Rattle.std.proofs.lemmas.Option.{none-some, same_Some, slice_get-map}
use Rattle.pd_canvas.specs.declared.edits.Edit.{Edit}
use Rattle.pd_order.specs.Graph.{tally}
use Rattle.pd_order.proofs.Basics.{same_test}
use Rattle.pd_web.specs.declared.lines.Line.{Line}
use Rattle.pd_web.specs.declared.web.Hop.{Hop}
use Rattle.pd_web.specs.declared.web.Web.{Web}
use Rattle.pd_web.specs.Changes.{hop_at, line_by, line_told, without_hop, Joins, CutsWire, IsListed, Meet}
use Rattle.pd_web.specs.Hops.{fan_hops, fan_keys, feed_hops, feed_keys}
use Rattle.pd_patch.specs.declared.patch.Patch.{Patch}
use Rattle.pd_patch.specs.Fed.{AreFed}
use Rattle.pd_patch.specs.Numbers.{AreApart}
use Rattle.pd_patch.proofs.ListingLemmas.{counted_at}
use Rattle.pd_wiring.specs.Plans.{Plan, Attaches, Detaches, IsCarriedOut, IsRewired}
use Rattle.pd_reload_law.specs.Wires.{StandOnce}
use Rattle.pd_alike_law.specs.Feeds.{FedOnce}
use Rattle.pd_alike_law.proofs.FeedLemmas.{keys_of, fan_keys_of, feed_keys_of}
use Rattle.pd_alike_law.proofs.MeetLemmas.{inserted_from, passed, same_port, spared}

-- ---- lists without repeats

apart_cons : (x : ℕ) (xs : List ℕ) → AreApart xs → ((i : ℕ) → slice_get xs i ≡ Some x → ⊥) → AreApart (x ∷ xs)
apart_cons x xs a n zero zero k e f = refl
apart_cons x xs a n zero (suc j) k e f = absurd (n j (f ∙ sym e))
apart_cons x xs a n (suc i) zero k e f = absurd (n i (e ∙ sym f))
apart_cons x xs a n (suc i) (suc j) k e f = ap (λ m. suc m) (a i j k e f)

apart_rest : (x : ℕ) (xs : List ℕ) → AreApart (x ∷ xs) → AreApart xs
apart_rest x xs a i j k e f = less i j (a (suc i) (suc j) k e f)
  where
    less : (i j : ℕ) → suc i ≡ suc j → i ≡ j
    less i j e = omega (arith, e)

apart_first : (x : ℕ) (xs : List ℕ) → AreApart (x ∷ xs) → (i : ℕ) → slice_get xs i ≡ Some x → ⊥
apart_first x xs a i e = never i (a 0 (suc i) x refl e)
  where
    never : (i : ℕ) → 0 ≡ suc i → ⊥
    never i e = omega (arith, e)

apart_insert : (xs : List ℕ) (p x : ℕ) → AreApart xs → ((i : ℕ) → slice_get xs i ≡ Some x → ⊥) → AreApart (insert xs p x)
apart_insert xs zero x a n = apart_cons x xs a n
apart_insert [] (suc p) x a n = apart_cons x [] a n
apart_insert (z ∷ xs) (suc p) x a n =
    apart_cons z (insert xs p x) (apart_insert xs p x (apart_rest z xs a) (λ i e. n (suc i) e)) (λ i e. out (inserted_from xs p x z i e))
  where
    out : (x ≡ z) ⊎ IsListed xs z → ⊥
    out (inl s) = n 0 (ap (λ y. Some y) (sym s))
    out (inr l) = apart_first z xs a l.0 l.1

apart_filter : (p : ℕ → Bool) (xs : List ℕ) → AreApart xs → AreApart (filter p xs)
apart_filter p [] a = a
apart_filter p (x ∷ xs) a = step (p x) (apart_filter p xs (apart_rest x xs a)) (λ i e. let s = passed p xs x i e in apart_first x xs a s.place s.stood)
  where
    step : (b : Bool) → AreApart (filter p xs) → ((i : ℕ) → slice_get (filter p xs) i ≡ Some x → ⊥) → AreApart (cond b (x ∷ filter p xs) (filter p xs))
    step true h n = apart_cons x (filter p xs) h n
    step false h n = h

rest_once : (y : ℕ) (ys : List ℕ) (x : ℕ) → tally x (y ∷ ys) ≤ 1 → tally x ys ≤ 1
rest_once y ys x h = omega (arith, h)

first_once : (y : ℕ) (ys : List ℕ) → tally y (y ∷ ys) ≤ 1 → (i : ℕ) → slice_get ys i ≡ Some y → ⊥
first_once y ys h i e =
    let more = counted_at y ys i e in
    let two : cond true 1 0 + tally y ys ≤ 1 = rw (same_test y) at h in
    omega (arith, more, two)

-- what is in a list once at most stands there apart
apart_tally : (xs : List ℕ) → ((x : ℕ) → tally x xs ≤ 1) → AreApart xs
apart_tally [] h = λ i j k e f. absurd (none-some k e)
apart_tally (y ∷ ys) h = apart_cons y ys (apart_tally ys (λ x. rest_once y ys x (h x))) (first_once y ys (h y))

keys_inserted : (hops : List Hop) (p : ℕ) (x : Hop) → keys_of (insert hops p x) ≡ insert (keys_of hops) p x.key
keys_inserted hops zero x = refl
keys_inserted [] (suc p) x = refl
keys_inserted (h ∷ hops) (suc p) x = ap (λ (l : List ℕ). h.key ∷ l) (keys_inserted hops p x)

keys_left : (key : ℕ) (hops : List Hop) → keys_of (without_hop key hops) ≡ filter (λ k. not (k == key)) (keys_of hops)
keys_left key [] = refl
keys_left key (h ∷ hops) = step (not (h.key == key)) (keys_left key hops)
  where
    step : (b : Bool) → keys_of (without_hop key hops) ≡ filter (λ k. not (k == key)) (keys_of hops)
        → keys_of (cond b (h ∷ without_hop key hops) (without_hop key hops)) ≡ cond b (h.key ∷ filter (λ k. not (k == key)) (keys_of hops)) (filter (λ k. not (k == key)) (keys_of hops))
    step true e = ap (λ (l : List ℕ). h.key ∷ l) e
    step false e = e

never_same : (a key : ℕ) → not (a == key) ≡ true → a ≢ key
never_same a key t e = absurd (wrong (a == key) t (ap (λ x. x == key) e ∙ same_test key))
  where
    wrong : (b : Bool) → not b ≡ true → b ≡ true → ⊥
    wrong true t e = cc
    wrong false t e = cc

-- ---- lists of hops by two numbers, at one side of wires

abbrev Told : (ℕ → Option Line) → (ℕ → ℕ → List Hop) → (ℕ → ℕ → Hop → Line) → Type 0
Told told hops line = (a b i : ℕ) (h : Hop) → slice_get (hops a b) i ≡ Some h → told h.key ≡ Some (line a b h)

abbrev Apart : (ℕ → ℕ → List Hop) → Type 0
Apart hops = (a b : ℕ) → AreApart (keys_of (hops a b))

module _ (told told' : ℕ → Option Line) (hops hops' : ℕ → ℕ → List Hop) (line : ℕ → ℕ → Hop → Line) where
  -- a key that is no wire's is in no list
  vacant_out : (key : ℕ) → told key ≡ None → Told told hops line → (a b i : ℕ) → slice_get (keys_of (hops a b)) i ≡ Some key → ⊥
  vacant_out key none t a b i e = by (slice_get (hops a b) i) refl (sym (slice_get-map (λ (h : Hop). h.key) (hops a b) i) ∙ e)
    where
      by : (o : Option Hop) → slice_get (hops a b) i ≡ o → option_map (λ (h : Hop). h.key) o ≡ Some key → ⊥
      by None s e = none-some key e
      by (Some h) s e = none-some (line a b h) (sym none ∙ ap told (sym (same_Some h.key key e)) ∙ t a b i h s)

  module _ (key a0 b0 place : ℕ) (x : Hop) (is : x.key ≡ key) (none : told key ≡ None) (new : told' key ≡ Some (line a0 b0 x))
      (others : (k : ℕ) → k ≢ key → told' k ≡ told k) (list : hops' a0 b0 ≡ insert (hops a0 b0) place x)
      (rest : (a b : ℕ) → (a ≡ a0 → b ≢ b0) → hops' a b ≡ hops a b) (t : Told told hops line) where
    old_told : (a b i : ℕ) (h : Hop) → slice_get (hops a b) i ≡ Some h → told' h.key ≡ Some (line a b h)
    old_told a b i h e = others h.key (λ s. none-some (line a b h) (sym none ∙ ap told (sym s) ∙ t a b i h e)) ∙ t a b i h e

    new_told : (h : Hop) → (x ≡ h) ⊎ IsListed (hops a0 b0) h → told' h.key ≡ Some (line a0 b0 h)
    new_told h (inl s) = subst (λ (y : Hop). told' y.key ≡ Some (line a0 b0 y)) s (ap told' is ∙ new)
    new_told h (inr l) = old_told a0 b0 l.0 h l.1

    joined_told : Told told' hops' line
    joined_told a b i h e = same_port a b a0 b0
        (λ s r. subst (λ n. told' h.key ≡ Some (line n b h)) (sym s) (subst (λ n. told' h.key ≡ Some (line a0 n h)) (sym r)
        (new_told h (inserted_from (hops a0 b0) place x h i
        (ap (λ (l : List Hop). slice_get l i) (sym list) ∙ ap (λ n. slice_get (hops' n b0) i) (sym s) ∙ ap (λ n. slice_get (hops' a n) i) (sym r) ∙ e)))))
        (λ other. old_told a b i h (ap (λ (l : List Hop). slice_get l i) (sym (rest a b other)) ∙ e))

    joined_apart : Apart hops → Apart hops'
    joined_apart p a b = same_port a b a0 b0
        (λ s r. subst (λ n. AreApart (keys_of (hops' n b))) (sym s) (subst (λ n. AreApart (keys_of (hops' a0 n))) (sym r)
        (subst AreApart (sym (ap keys_of list ∙ keys_inserted (hops a0 b0) place x))
        (apart_insert (keys_of (hops a0 b0)) place x.key (p a0 b0)
        (λ i e. vacant_out key none t a0 b0 i (e ∙ ap (λ k. Some k) is))))))
        (λ other. subst (λ (l : List Hop). AreApart (keys_of l)) (sym (rest a b other)) (p a b))

  module _ (key : ℕ) (others : (k : ℕ) → k ≢ key → told' k ≡ told k) (lists : (a b : ℕ) → hops' a b ≡ without_hop key (hops a b)) where
    cut_told : Told told hops line → Told told' hops' line
    cut_told t a b i h e =
        let s = passed (spared key) (hops a b) h i (ap (λ (l : List Hop). slice_get l i) (sym (lists a b)) ∙ e) in
        others h.key (never_same h.key key s.passes) ∙ t a b s.place h s.stood

    cut_apart : Apart hops → Apart hops'
    cut_apart p a b = subst AreApart (sym (ap keys_of (lists a b) ∙ keys_left key (hops a b))) (apart_filter (λ k. not (k == key)) (keys_of (hops a b)) (p a b))

-- ---- both sides

abbrev fan_line : ℕ → ℕ → Hop → Line
fan_line node outlet h = line_by (hop_at h.key node outlet) h

abbrev feed_line : ℕ → ℕ → Hop → Line
feed_line node inlet h = line_by h (hop_at h.key node inlet)

fans_apart : (w : Web) → StandOnce w → Apart (fan_hops w)
fans_apart w s a b = subst AreApart (sym (fan_keys_of w (fan_keys w a b))) (s.once a b)

fans_once : (w : Web) → Told (line_told w) (fan_hops w) fan_line → Apart (fan_hops w) → StandOnce w
fans_once w t p = record { lines = t; once = λ a b. subst AreApart (fan_keys_of w (fan_keys w a b)) (p a b) }

feeds_apart : (w : Web) → FedOnce w → Apart (feed_hops w)
feeds_apart w s a b = subst AreApart (sym (feed_keys_of w (feed_keys w a b))) (s.once a b)

feeds_once : (w : Web) → Told (line_told w) (feed_hops w) feed_line → Apart (feed_hops w) → FedOnce w
feeds_once w t p = record { lines = t; once = λ a b. subst AreApart (feed_keys_of w (feed_keys w a b)) (p a b) }

-- where each wire stands once in its fan-out and at both of its ports, and none twice among feeds, each stands once among feeds too
pub once_fed : (w : Web) → StandOnce w → Meet w → AreFed w → FedOnce w
once_fed w s m f = feeds_once w
    (λ node inlet i h e. let l = m.fanned node inlet i h e in s.lines h.node h.port l.0 (hop_at h.key node inlet) l.1)
    (λ node inlet. apart_tally (keys_of (feed_hops w node inlet)) (f.once node inlet))

joins_once : (w w' : Web) (key : ℕ) (l : Line) (fan_place feed_place : ℕ) → Joins w w' key l fan_place feed_place → StandOnce w → StandOnce w'
joins_once w w' key l fan_place feed_place j s =
    let x = hop_at key l.sink l.inlet in
    fans_once w'
    (joined_told (line_told w) (line_told w') (fan_hops w) (fan_hops w') fan_line key l.source l.outlet fan_place x refl j.was_vacant j.line j.other_lines j.fan j.other_fans s.lines)
    (joined_apart (line_told w) (line_told w') (fan_hops w) (fan_hops w') fan_line key l.source l.outlet fan_place x refl j.was_vacant j.line j.other_lines j.fan j.other_fans s.lines
    (fans_apart w s))

joins_fed : (w w' : Web) (key : ℕ) (l : Line) (fan_place feed_place : ℕ) → Joins w w' key l fan_place feed_place → FedOnce w → FedOnce w'
joins_fed w w' key l fan_place feed_place j s =
    let x = hop_at key l.source l.outlet in
    feeds_once w'
    (joined_told (line_told w) (line_told w') (feed_hops w) (feed_hops w') feed_line key l.sink l.inlet feed_place x refl j.was_vacant j.line j.other_lines j.feeds j.other_feeds s.lines)
    (joined_apart (line_told w) (line_told w') (feed_hops w) (feed_hops w') feed_line key l.sink l.inlet feed_place x refl j.was_vacant j.line j.other_lines j.feeds j.other_feeds s.lines
    (feeds_apart w s))

cuts_once : (w w' : Web) (key : ℕ) → CutsWire w w' key → StandOnce w → StandOnce w'
cuts_once w w' key c s = fans_once w'
    (cut_told (line_told w) (line_told w') (fan_hops w) (fan_hops w') fan_line key c.other_lines c.fans s.lines)
    (cut_apart (line_told w) (line_told w') (fan_hops w) (fan_hops w') fan_line key c.other_lines c.fans (fans_apart w s))

cuts_fed : (w w' : Web) (key : ℕ) → CutsWire w w' key → FedOnce w → FedOnce w'
cuts_fed w w' key c s = feeds_once w'
    (cut_told (line_told w) (line_told w') (feed_hops w) (feed_hops w') feed_line key c.other_lines c.feeds s.lines)
    (cut_apart (line_told w) (line_told w') (feed_hops w) (feed_hops w') feed_line key c.other_lines c.feeds (feeds_apart w s))

plan_once : (p q : Patch) (plan : Plan) → IsCarriedOut plan p q → StandOnce p.web → StandOnce q.web
plan_once p q (Attaches c l) a s = joins_once p.web q.web a.key l _ a.place a.joins s
plan_once p q (Detaches c key l) a s = cuts_once p.web q.web key a.cuts s

plan_fed : (p q : Patch) (plan : Plan) → IsCarriedOut plan p q → FedOnce p.web → FedOnce q.web
plan_fed p q (Attaches c l) a s = joins_fed p.web q.web a.key l _ a.place a.joins s
plan_fed p q (Detaches c key l) a s = cuts_fed p.web q.web key a.cuts s

pub edits_once : (p q : Patch) (path : List ℕ) (e : Edit) (canvas : ℕ) → IsRewired p q path e canvas → StandOnce p.web → StandOnce q.web
edits_once p q path e canvas x s = plan_once p q x.plan x.done s

pub edits_fed : (p q : Patch) (path : List ℕ) (e : Edit) (canvas : ℕ) → IsRewired p q path e canvas → FedOnce p.web → FedOnce q.web
edits_fed p q path e canvas x s = plan_fed p q x.plan x.done s
