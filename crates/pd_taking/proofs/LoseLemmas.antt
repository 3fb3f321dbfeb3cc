-- A web that loses wires at a box.
use Rattle.std.proofs.Common.{◌≡◌, ◌≢◌, ℕ, zero, suc, ◌==◌, Bool, true, false, cond, not, List, [], ◌∷◌, filter, slice_get, Some, None, refl, sym, ap, ◌∙◌, subst, inl, inr, eqb-true, eq-eqb, arith}
use mathlib.Core.Logic.{⊎_elim}
use Rattle.std.proofs.lemmas.Bool.{cases_eq}
use Rattle.std.proofs.lemmas.Option.{none-some, same_Some}
use Rattle.pd_grove.specs.declared.ports.Side.{Side}
use Rattle.pd_grove.specs.declared.ports.Side.TheVariants.{Inlets, Outlets}
use Rattle.pd_web.specs.declared.lines.Line.{Line}
use Rattle.pd_web.specs.declared.web.Hop.{Hop}
use Rattle.pd_web.specs.declared.web.Web.{Web}
use Rattle.pd_web.specs.Hops.{fan_hops, feed_hops}
use Rattle.pd_web.specs.Changes.{hop_at, line_by, line_told, without_hop, CutsWire, IsListed, KeepsPorts, Meet}
use Rattle.pd_ports.specs.Boxes.{HasNoWires}
use Rattle.pd_taking.specs.Loosening.{hops_at, is_of_other, IsAt, LosesSome, LosesWires}

-- Lists.

pub empty_list : {X : Type 0} (xs : List X) → slice_get xs 0 ≡ None → xs ≡ []
empty_list [] h = refl
empty_list (x ∷ xs) h = absurd (none-some x (sym h))

pub nothing_there : {X : Type 0} (x : X) (i : ℕ) → slice_get [] i ≡ Some x → ⊥
nothing_there x zero h = none-some x h
nothing_there x (suc i) h = none-some x h

-- all pass
all_stay : {X : Type 0} (p : X → Bool) (xs : List X) → ((i : ℕ) (x : X) → slice_get xs i ≡ Some x → p x ≡ true) → filter p xs ≡ xs
all_stay p [] h = refl
all_stay p (x ∷ xs) h = ap (λ (b : Bool). cond b (x ∷ filter p xs) (filter p xs)) (h 0 x refl) ∙ ap (λ ys. x ∷ ys) (all_stay p xs (λ i y e. h (suc i) y e))

kept : {X : Type 0} (p : X → Bool) (xs : List X) (x : X) (n : ℕ) → slice_get xs n ≡ Some x → p x ≡ true → IsListed (filter p xs) x
kept p [] x n e t = absurd (none-some x e)
kept p (y ∷ xs) x zero e t =
    let s : p y ≡ true = ap p (same_Some y x e) ∙ t in
    subst (λ b. IsListed (cond b (y ∷ filter p xs) (filter p xs)) x) (sym s) (0, e)
kept p (y ∷ xs) x (suc n) e t = step (p y) (kept p xs x n e t)
  where
    step : (b : Bool) → IsListed (filter p xs) x → IsListed (cond b (y ∷ filter p xs) (filter p xs)) x
    step true i = (suc i.0, i.1)
    step false i = i

-- what is left passes and stood in the list
record Passed {X : Type 0} (p : X → Bool) (xs : List X) (x : X) : Type 0 where
  place : ℕ
  stood : slice_get xs place ≡ Some x
  passes : p x ≡ true

passed : {X : Type 0} (p : X → Bool) (xs : List X) (x : X) (n : ℕ) → slice_get (filter p xs) n ≡ Some x → Passed p xs x
passed p [] x n e = absurd (none-some x e)
passed {X} p (y ∷ xs) x n e = step (p y) refl n e (λ m a. passed p xs x m a)
  where
    later : Passed p xs x → Passed p (y ∷ xs) x
    later r = record { place = suc r.place; stood = r.stood; passes = r.passes }

    step : (b : Bool) → p y ≡ b → (n : ℕ) → slice_get (cond b (y ∷ filter p xs) (filter p xs)) n ≡ Some x
        → ((m : ℕ) → slice_get (filter p xs) m ≡ Some x → Passed p xs x) → Passed p (y ∷ xs) x
    step true t zero e r = record { place = 0; stood = e; passes = ap p (sym (same_Some y x e)) ∙ t }
    step true t (suc n) e r = later (r n e)
    step false t n e r = later (r n e)

-- of those that pass none is taken out
others_cut : (key : ℕ) (p : Hop → Bool) (hops : List Hop) → ((i : ℕ) (h : Hop) → slice_get hops i ≡ Some h → h.key ≡ key → p h ≡ false) → filter p (without_hop key hops) ≡ filter p hops
others_cut key p [] h = refl
others_cut key p (x ∷ xs) h = step (x.key == key) refl (others_cut key p xs (λ i y e s. h (suc i) y e s))
  where
    step : (b : Bool) → (x.key == key) ≡ b → filter p (without_hop key xs) ≡ filter p xs
        → filter p (cond (not b) (x ∷ without_hop key xs) (without_hop key xs)) ≡ filter p (x ∷ xs)
    step true e rec = rec ∙ sym (ap (λ (b : Bool). cond b (x ∷ filter p xs) (filter p xs)) (h 0 x refl (eqb-true x.key key e)))
    step false e rec = ap (λ (ys : List Hop). cond (p x) (x ∷ ys) ys) rec

is_other : (box : ℕ) (h : Hop) → h.node ≢ box → is_of_other box h ≡ true
is_other box h differ = step (h.node == box) refl
  where
    step : (b : Bool) → (h.node == box) ≡ b → not b ≡ true
    step true e = absurd (differ (eqb-true h.node box e))
    step false e = refl

is_own : (box : ℕ) (h : Hop) → h.node ≡ box → is_of_other box h ≡ false
is_own box h same = ap not (eq-eqb h.node box same)

-- a wire of another key stays
left : (key : ℕ) (hops : List Hop) (i : ℕ) (h : Hop) → h.key ≢ key → slice_get hops i ≡ Some h → IsListed (without_hop key hops) h
left key [] i h differ e = absurd (nothing_there h i e)
left key (x ∷ xs) zero h differ e = step (x.key == key) refl
  where
    step : (b : Bool) → (x.key == key) ≡ b → IsListed (cond (not b) (x ∷ without_hop key xs) (without_hop key xs)) h
    step true t = absurd (differ (ap (λ (y : Hop). y.key) (sym (same_Some x h e)) ∙ eqb-true x.key key t))
    step false t = (0, e)
left key (x ∷ xs) (suc i) h differ e = step (x.key == key) (left key xs i h differ e)
  where
    step : (b : Bool) → IsListed (without_hop key xs) h → IsListed (cond (not b) (x ∷ without_hop key xs) (without_hop key xs)) h
    step true at = at
    step false at = (suc at.0, at.1)

pub none_listed : (hops : List Hop) (h : Hop) → hops ≡ [] → IsListed hops h → ⊥
none_listed hops h e at = nothing_there h at.0 (ap (λ (hs : List Hop). slice_get hs at.0) (sym e) ∙ at.1)

-- Some go.

-- what is true of each web
pub record IsWeb (w : Web) : Type 0 where
  pub fans : (node outlet i : ℕ) (h : Hop) → slice_get (fan_hops w node outlet) i ≡ Some h → line_told w h.key ≡ Some (line_by (hop_at h.key node outlet) h)
  pub feeds : (node inlet i : ℕ) (h : Hop) → slice_get (feed_hops w node inlet) i ≡ Some h → line_told w h.key ≡ Some (line_by h (hop_at h.key node inlet))

abbrev spared : ℕ → Hop → Bool
spared key h = not (h.key == key)

cut_meet : (w w' : Web) (key : ℕ) → CutsWire w w' key → Meet w → Meet w'
cut_meet w w' key c m = record {
  fed = λ node outlet i h e.
      let p = passed (spared key) (fan_hops w node outlet) h i (ap (λ (hs : List Hop). slice_get hs i) (sym (c.fans node outlet)) ∙ e) in
      let f = m.fed node outlet p.place h p.stood in
      subst (λ (hs : List Hop). IsListed hs (hop_at h.key node outlet)) (sym (c.feeds h.node h.port))
      (kept (spared key) (feed_hops w h.node h.port) (hop_at h.key node outlet) f.0 f.1 p.passes);
  fanned = λ node inlet i h e.
      let p = passed (spared key) (feed_hops w node inlet) h i (ap (λ (hs : List Hop). slice_get hs i) (sym (c.feeds node inlet)) ∙ e) in
      let f = m.fanned node inlet p.place h p.stood in
      subst (λ (hs : List Hop). IsListed hs (hop_at h.key node inlet)) (sym (c.fans h.node h.port))
      (kept (spared key) (fan_hops w h.node h.port) (hop_at h.key node inlet) f.0 f.1 p.passes);
}

pub kept_on : (w v u : Web) → KeepsPorts w v → KeepsPorts v u → KeepsPorts w u
kept_on w v u a b = record { ports = λ side k. b.ports side k ∙ a.ports side k; made = λ k. b.made k ∙ a.made k; homes = λ j. b.homes j ∙ a.homes j }

pub loses_none : (w : Web) (box : ℕ) → Meet w → LosesSome w w box
loses_none w box meet = record {
  fans = λ node outlet d. refl;
  feeds = λ node inlet d. refl;
  fewer = λ side port e. e;
  lines = λ node outlet i h e. inl (i, e);
  other_lines = λ k l d e. e;
  none_comes = λ k e. e;
  kept = record { ports = λ side k. refl; made = λ k. refl; homes = λ j. refl };
  room = λ k p n r. r;
  meet = meet;
}

pub loses_on : (w v u : Web) (box : ℕ) → LosesSome w v box → LosesSome v u box → LosesSome w u box
loses_on w v u box A B = record {
  fans = λ node outlet d. B.fans node outlet d ∙ A.fans node outlet d;
  feeds = λ node inlet d. B.feeds node inlet d ∙ A.feeds node inlet d;
  fewer = λ side port e. B.fewer side port (A.fewer side port e);
  lines = λ node outlet i h e. ⊎_elim
      (λ (at : IsListed (fan_hops v node outlet) h). B.lines node outlet at.0 h at.1)
      (λ (gone : line_told v h.key ≡ None). inr (B.none_comes h.key gone))
      (A.lines node outlet i h e);
  other_lines = λ k l d e. B.other_lines k l d (A.other_lines k l d e);
  none_comes = λ k e. B.none_comes k (A.none_comes k e);
  kept = kept_on w v u A.kept B.kept;
  room = λ k p n r. B.room k p n (A.room k p n r);
  meet = B.meet;
}

module _ (v u : Web) (key box : ℕ) (l : Line) (is : IsWeb v) (meet : Meet v) (told : line_told v key ≡ Some l) (at : IsAt box l) (C : CutsWire v u key) where
  same_line : (k : ℕ) (m : Line) → line_told v k ≡ Some m → k ≡ key → m ≡ l
  same_line k m e same = same_Some m l (sym e ∙ ap (line_told v) same ∙ told)

  at_box : (m : Line) → m ≡ l → IsAt box m
  at_box m e = subst (IsAt box) (sym e) at

  sink_is : (m : Line) → m ≡ l → m.source ≢ box → m.sink ≡ box
  sink_is m e d = ⊎_elim (λ (s : m.source ≡ box). absurd (d s)) (λ (s : m.sink ≡ box). s) (at_box m e)

  source_is : (m : Line) → m ≡ l → m.sink ≢ box → m.source ≡ box
  source_is m e d = ⊎_elim (λ (s : m.source ≡ box). s) (λ (s : m.sink ≡ box). absurd (d s)) (at_box m e)

  fans_left : (node outlet : ℕ) → node ≢ box → filter (is_of_other box) (fan_hops u node outlet) ≡ filter (is_of_other box) (fan_hops v node outlet)
  fans_left node outlet d = ap (filter (is_of_other box)) (C.fans node outlet) ∙ others_cut key (is_of_other box) (fan_hops v node outlet) (λ i h e same.
      is_own box h (sink_is (line_by (hop_at h.key node outlet) h) (same_line h.key (line_by (hop_at h.key node outlet) h) (is.fans node outlet i h e) same) d))

  feeds_left : (node inlet : ℕ) → node ≢ box → filter (is_of_other box) (feed_hops u node inlet) ≡ filter (is_of_other box) (feed_hops v node inlet)
  feeds_left node inlet d = ap (filter (is_of_other box)) (C.feeds node inlet) ∙ others_cut key (is_of_other box) (feed_hops v node inlet) (λ i h e same.
      is_own box h (source_is (line_by h (hop_at h.key node inlet)) (same_line h.key (line_by h (hop_at h.key node inlet)) (is.feeds node inlet i h e) same) d))

  fewer_left : (side : Side) (port : ℕ) → hops_at v side box port ≡ [] → hops_at u side box port ≡ []
  fewer_left Inlets port e = C.feeds box port ∙ ap (without_hop key) e
  fewer_left Outlets port e = C.fans box port ∙ ap (without_hop key) e

  pub cut_loses : LosesSome v u box
  cut_loses = record {
    fans = fans_left;
    feeds = feeds_left;
    fewer = fewer_left;
    lines = λ node outlet i h e. ⊎_elim
        (λ (same : h.key ≡ key). inr (ap (line_told u) same ∙ C.line))
        (λ (differ : h.key ≢ key). inl (subst (λ (hs : List Hop). IsListed hs h) (sym (C.fans node outlet)) (left key (fan_hops v node outlet) i h differ e)))
        (cases_eq h.key key);
    other_lines = λ k m d e. C.other_lines k (λ same. d (at_box m (same_line k m e same))) ∙ e;
    none_comes = λ k e. ⊎_elim
        (λ (same : k ≡ key). ap (line_told u) same ∙ C.line)
        (λ (differ : k ≢ key). C.other_lines k differ ∙ e)
        (cases_eq k key);
    kept = C.kept;
    room = λ k p n r. let x = C.room k p n r in record { boxes = x.boxes; homes = x.homes; ends = x.ends; wires = (let y = x.wires in omega (arith, y)) };
    meet = cut_meet v u key C meet;
  }

-- All go.

pub all_lost : (w v : Web) (box : ℕ) → Meet w → LosesSome w v box → HasNoWires v box → LosesWires w v box
all_lost w v box meet S bare = record {
  bare = bare;
  fans = λ node outlet d. sym (all_stay (is_of_other box) (fan_hops v node outlet) (λ i h e. is_other box h (λ same.
      none_listed (feed_hops v h.node h.port) (hop_at h.key node outlet) (ap (λ n. feed_hops v n h.port) same ∙ bare.feeds h.port) (S.meet.fed node outlet i h e))))
      ∙ S.fans node outlet d;
  feeds = λ node inlet d. sym (all_stay (is_of_other box) (feed_hops v node inlet) (λ i h e. is_other box h (λ same.
      none_listed (fan_hops v h.node h.port) (hop_at h.key node inlet) (ap (λ n. fan_hops v n h.port) same ∙ bare.fans h.port) (S.meet.fanned node inlet i h e))))
      ∙ S.feeds node inlet d;
  gone = λ outlet i h e. ⊎_elim
      (λ (at : IsListed (fan_hops v box outlet) h). absurd (none_listed (fan_hops v box outlet) h (bare.fans outlet) at))
      (λ (gone : line_told v h.key ≡ None). gone) (S.lines box outlet i h e);
  gone_to = λ inlet i h e.
      let f = meet.fanned box inlet i h e in
      ⊎_elim
      (λ (at : IsListed (fan_hops v h.node h.port) (hop_at h.key box inlet)).
      absurd (none_listed (feed_hops v box inlet) (hop_at h.key h.node h.port) (bare.feeds inlet) (S.meet.fed h.node h.port at.0 (hop_at h.key box inlet) at.1)))
      (λ (gone : line_told v h.key ≡ None). gone) (S.lines h.node h.port f.0 (hop_at h.key box inlet) f.1);
  other_lines = S.other_lines;
  none_comes = S.none_comes;
  kept = S.kept;
  room = S.room;
  meet = S.meet;
}
