-- Wires that stand at both of their ports, with one more or less.
use Rattle.std.proofs.Common.{◌≡◌, ◌≢◌, ℕ, zero, suc, ◌==◌, Bool, true, false, cond, not, List, [], ◌∷◌, filter, slice_get, Some, refl, sym, ap, ◌∙◌, subst, inl, inr}
use Rattle.std.specs.Prelude.{◌⊎◌}
use Rattle.std.specs.List.{insert}
use Rattle.std.proofs.lemmas.Bool.{cases_eq}
use Rattle.std.proofs.lemmas.Option.{none-some, same_Some}
use Rattle.pd_web.specs.declared.lines.Line.{Line}
use Rattle.pd_web.specs.declared.web.Hop.{Hop}
use Rattle.pd_web.specs.declared.web.Web.{Web}
use Rattle.pd_web.specs.Changes.{hop_at, Joins, CutsWire, IsListed, Meet}
use Rattle.pd_web.specs.Hops.{fan_hops, feed_hops}

-- ---- lists

listed_next : {X : Type 0} (y : X) (xs : List X) (x : X) → IsListed xs x → IsListed (y ∷ xs) x
listed_next y xs x i = (suc i.0, i.1)

inserted_here : {X : Type 0} (xs : List X) (p : ℕ) (x : X) → IsListed (insert xs p x) x
inserted_here xs zero x = (0, refl)
inserted_here [] (suc p) x = (0, refl)
inserted_here (y ∷ xs) (suc p) x = listed_next y (insert xs p x) x (inserted_here xs p x)

inserted_too : {X : Type 0} (xs : List X) (p : ℕ) (x y : X) (n : ℕ) → slice_get xs n ≡ Some y → IsListed (insert xs p x) y
inserted_too xs zero x y n e = (suc n, e)
inserted_too [] (suc p) x y n e = absurd (none-some y e)
inserted_too (z ∷ xs) (suc p) x y zero e = (0, e)
inserted_too (z ∷ xs) (suc p) x y (suc n) e = listed_next z (insert xs p x) y (inserted_too xs p x y n e)

-- what stands in a list with one more is that one or stood there
inserted_from : {X : Type 0} (xs : List X) (p : ℕ) (x y : X) (n : ℕ) → slice_get (insert xs p x) n ≡ Some y → (x ≡ y) ⊎ IsListed xs y
inserted_from xs zero x y zero e = inl (same_Some x y e)
inserted_from xs zero x y (suc n) e = inr (n, e)
inserted_from [] (suc p) x y zero e = inl (same_Some x y e)
inserted_from [] (suc p) x y (suc n) e = absurd (none-some y e)
inserted_from (z ∷ xs) (suc p) x y zero e = inr (0, e)
inserted_from (z ∷ xs) (suc p) x y (suc n) e = further (inserted_from xs p x y n e)
  where
    further : (x ≡ y) ⊎ IsListed xs y → (x ≡ y) ⊎ IsListed (z ∷ xs) y
    further (inl s) = inl s
    further (inr i) = inr (listed_next z xs y i)

kept : {X : Type 0} (p : X → Bool) (xs : List X) (x : X) (n : ℕ) → slice_get xs n ≡ Some x → p x ≡ true → IsListed (filter p xs) x
kept p [] x n e t = absurd (none-some x e)
kept p (y ∷ xs) x zero e t =
    let s : p y ≡ true = ap p (same_Some y x e) ∙ t in
    subst (λ b. IsListed (cond b (y ∷ filter p xs) (filter p xs)) x) (sym s) (0, e)
kept p (y ∷ xs) x (suc n) e t = step (p y) (kept p xs x n e t)
  where
    step : (b : Bool) → IsListed (filter p xs) x → IsListed (cond b (y ∷ filter p xs) (filter p xs)) x
    step true i = (suc i.0, i.1)
    step false i = i

-- what is left passes and stood in the list
pub record Passed {X : Type 0} (p : X → Bool) (xs : List X) (x : X) : Type 0 where
  pub place : ℕ
  pub stood : slice_get xs place ≡ Some x
  pub passes : p x ≡ true

pub passed : {X : Type 0} (p : X → Bool) (xs : List X) (x : X) (n : ℕ) → slice_get (filter p xs) n ≡ Some x → Passed p xs x
passed p [] x n e = absurd (none-some x e)
passed {X} p (y ∷ xs) x n e = step (p y) refl n e (λ m a. passed p xs x m a)
  where
    later : Passed p xs x → Passed p (y ∷ xs) x
    later r = record { place = suc r.place; stood = r.stood; passes = r.passes }

    step : (b : Bool) → p y ≡ b → (n : ℕ) → slice_get (cond b (y ∷ filter p xs) (filter p xs)) n ≡ Some x
        → ((m : ℕ) → slice_get (filter p xs) m ≡ Some x → Passed p xs x) → Passed p (y ∷ xs) x
    step true t zero e r = record { place = 0; stood = e; passes = ap p (sym (same_Some y x e)) ∙ t }
    step true t (suc n) e r = later (r n e)
    step false t n e r = later (r n e)

-- ---- one wire more

-- one port, and any other
pub same_port : {P : Type 0} (a b c d : ℕ) → (a ≡ c → b ≡ d → P) → ((a ≡ c → b ≢ d) → P) → P
same_port {P} a b c d f g = first (cases_eq a c) (cases_eq b d)
  where
    first : (a ≡ c) ⊎ (a ≢ c) → (b ≡ d) ⊎ (b ≢ d) → P
    first (inl x) (inl y) = f x y
    first (inl x) (inr y) = g (λ _. y)
    first (inr x) y = g (λ e. absurd (x e))

module _ (w w' : Web) (key : ℕ) (l : Line) (fan_place feed_place : ℕ) (j : Joins w w' key l fan_place feed_place) (m : Meet w) where
  feeds_too : (node inlet : ℕ) (x : Hop) → IsListed (feed_hops w node inlet) x → IsListed (feed_hops w' node inlet) x
  feeds_too node inlet x i = same_port node inlet l.sink l.inlet
      (λ a b. subst (λ n. IsListed (feed_hops w' n inlet) x) (sym a) (subst (λ o. IsListed (feed_hops w' l.sink o) x) (sym b)
      (subst (λ (hs : List Hop). IsListed hs x) (sym j.feeds) (inserted_too (feed_hops w l.sink l.inlet) feed_place (hop_at key l.source l.outlet) x i.0
      (ap (λ n. slice_get (feed_hops w n l.inlet) i.0) (sym a) ∙ ap (λ o. slice_get (feed_hops w node o) i.0) (sym b) ∙ i.1)))))
      (λ other. subst (λ (hs : List Hop). IsListed hs x) (sym (j.other_feeds node inlet other)) i)

  fans_too : (node outlet : ℕ) (x : Hop) → IsListed (fan_hops w node outlet) x → IsListed (fan_hops w' node outlet) x
  fans_too node outlet x i = same_port node outlet l.source l.outlet
      (λ a b. subst (λ n. IsListed (fan_hops w' n outlet) x) (sym a) (subst (λ o. IsListed (fan_hops w' l.source o) x) (sym b)
      (subst (λ (hs : List Hop). IsListed hs x) (sym j.fan) (inserted_too (fan_hops w l.source l.outlet) fan_place (hop_at key l.sink l.inlet) x i.0
      (ap (λ n. slice_get (fan_hops w n l.outlet) i.0) (sym a) ∙ ap (λ o. slice_get (fan_hops w node o) i.0) (sym b) ∙ i.1)))))
      (λ other. subst (λ (hs : List Hop). IsListed hs x) (sym (j.other_fans node outlet other)) i)

  abbrev Fed : ℕ → ℕ → Hop → Type 0
  Fed node outlet h = IsListed (feed_hops w' h.node h.port) (hop_at h.key node outlet)

  abbrev Fanned : ℕ → ℕ → Hop → Type 0
  Fanned node inlet h = IsListed (fan_hops w' h.node h.port) (hop_at h.key node inlet)

  new_fed : (h : Hop) → (hop_at key l.sink l.inlet ≡ h) ⊎ IsListed (fan_hops w l.source l.outlet) h → Fed l.source l.outlet h
  new_fed h (inl e) = subst (Fed l.source l.outlet) e
      (subst (λ (hs : List Hop). IsListed hs (hop_at key l.source l.outlet)) (sym j.feeds)
      (inserted_here (feed_hops w l.sink l.inlet) feed_place (hop_at key l.source l.outlet)))
  new_fed h (inr i) = feeds_too h.node h.port (hop_at h.key l.source l.outlet) (m.fed l.source l.outlet i.0 h i.1)

  new_fanned : (h : Hop) → (hop_at key l.source l.outlet ≡ h) ⊎ IsListed (feed_hops w l.sink l.inlet) h → Fanned l.sink l.inlet h
  new_fanned h (inl e) = subst (Fanned l.sink l.inlet) e
      (subst (λ (hs : List Hop). IsListed hs (hop_at key l.sink l.inlet)) (sym j.fan)
      (inserted_here (fan_hops w l.source l.outlet) fan_place (hop_at key l.sink l.inlet)))
  new_fanned h (inr i) = fans_too h.node h.port (hop_at h.key l.sink l.inlet) (m.fanned l.sink l.inlet i.0 h i.1)

  pub joined_meet : Meet w'
  joined_meet = record {
    fed = λ node outlet i h e. same_port node outlet l.source l.outlet
        (λ a b. subst (λ n. Fed n outlet h) (sym a) (subst (λ o. Fed l.source o h) (sym b)
        (new_fed h (inserted_from (fan_hops w l.source l.outlet) fan_place (hop_at key l.sink l.inlet) h i
        (ap (λ (hs : List Hop). slice_get hs i) (sym j.fan) ∙ ap (λ n. slice_get (fan_hops w' n l.outlet) i) (sym a) ∙ ap (λ o. slice_get (fan_hops w' node o) i) (sym b) ∙ e)))))
        (λ other. feeds_too h.node h.port (hop_at h.key node outlet)
        (m.fed node outlet i h (ap (λ (hs : List Hop). slice_get hs i) (sym (j.other_fans node outlet other)) ∙ e)));
    fanned = λ node inlet i h e. same_port node inlet l.sink l.inlet
        (λ a b. subst (λ n. Fanned n inlet h) (sym a) (subst (λ o. Fanned l.sink o h) (sym b)
        (new_fanned h (inserted_from (feed_hops w l.sink l.inlet) feed_place (hop_at key l.source l.outlet) h i
        (ap (λ (hs : List Hop). slice_get hs i) (sym j.feeds) ∙ ap (λ n. slice_get (feed_hops w' n l.inlet) i) (sym a) ∙ ap (λ o. slice_get (feed_hops w' node o) i) (sym b) ∙ e)))))
        (λ other. fans_too h.node h.port (hop_at h.key node inlet)
        (m.fanned node inlet i h (ap (λ (hs : List Hop). slice_get hs i) (sym (j.other_feeds node inlet other)) ∙ e)));
  }

-- ---- one wire less

abbrev spared : ℕ → Hop → Bool
spared key h = not (h.key == key)

pub cut_meet : (w w' : Web) (key : ℕ) → CutsWire w w' key → Meet w → Meet w'
cut_meet w w' key c m = record {
  fed = λ node outlet i h e.
      let p = passed (spared key) (fan_hops w node outlet) h i (ap (λ (hs : List Hop). slice_get hs i) (sym (c.fans node outlet)) ∙ e) in
      let f = m.fed node outlet p.place h p.stood in
      subst (λ (hs : List Hop). IsListed hs (hop_at h.key node outlet)) (sym (c.feeds h.node h.port))
      (kept (spared key) (feed_hops w h.node h.port) (hop_at h.key node outlet) f.0 f.1 p.passes);
  fanned = λ node inlet i h e.
      let p = passed (spared key) (feed_hops w node inlet) h i (ap (λ (hs : List Hop). slice_get hs i) (sym (c.feeds node inlet)) ∙ e) in
      let f = m.fanned node inlet p.place h p.stood in
      subst (λ (hs : List Hop). IsListed hs (hop_at h.key node inlet)) (sym (c.fans h.node h.port))
      (kept (spared key) (fan_hops w h.node h.port) (hop_at h.key node inlet) f.0 f.1 p.passes);
}
