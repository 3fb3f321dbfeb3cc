-- Two ways to do tasks that agree on what is in order, where what is in order stays so, give the same.
use Rattle.std.proofs.Common.{◌≡◌, ℕ, zero, suc, ◌-◌, Bool, true, cond, List, [], ◌∷◌, ◌++◌, refl, ap, ◌∙◌}
use Rattle.std.specs.List.{AllByRecursion}
use Rattle.pd_turns.specs.Turns.{Rules, World, causes, cost, acted, cut_off, by_budget, if_allowed, each, performed, finished, all_finished}
use Rattle.pd_keeping_law.proofs.FactLemmas.{either, all-weaker}

-- what is kept and a task are in order: the two agree there, and all that follows is in order again
pub record Agree {K T : Type 0} (r q : Rules K T) (I : K → Type 0) (J : K → T → Type 0) : Type 0 where
  pub kept : (k : K) (t : T) → I k → J k t → q.kept_after k t ≡ r.kept_after k t
  pub said : (k : K) (t : T) → I k → J k t → q.said_at k t ≡ r.said_at k t
  pub caused : (k : K) (t : T) → I k → J k t → q.caused k t ≡ r.caused k t
  pub costs : (t : T) → q.costs t ≡ r.costs t
  pub cut : q.cut_text ≡ r.cut_text
  pub stays : (k : K) (t : T) → I k → J k t → I (r.kept_after k t)
  pub others : (k : K) (t : T) → I k → J k t → (u : T) → J k u → J (r.kept_after k t) u
  pub follow : (k : K) (t : T) → I k → J k t → AllByRecursion (J (r.kept_after k t)) (r.caused k t)

-- a way agrees with itself
pub agree_self : {K T : Type 0} (r : Rules K T) (I : K → Type 0) (J : K → T → Type 0) → ((k : K) (t : T) → I k → J k t → I (r.kept_after k t))
    → ((k : K) (t : T) → I k → J k t → (u : T) → J k u → J (r.kept_after k t) u) → ((k : K) (t : T) → I k → J k t → AllByRecursion (J (r.kept_after k t)) (r.caused k t)) → Agree r r I J
agree_self r I J stays others follow =
    record { kept = λ k t h j. refl; said = λ k t h j. refl; caused = λ k t h j. refl; costs = λ t. refl; cut = refl; stays = stays; others = others; follow = follow }

-- a world after another: it is in order, and so is each task that was
pub record After {K T : Type 0} (I : K → Type 0) (J : K → T → Type 0) (w v : World K) : Type 0 where
  pub kept : I v.kept
  pub tasks : (u : T) → J w.kept u → J v.kept u

-- the same world, and in order
pub record Same {K T : Type 0} (I : K → Type 0) (J : K → T → Type 0) (w v u : World K) : Type 0 where
  pub same : u ≡ v
  pub after : After I J w v

module _ {K T : Type 0} (r q : Rules K T) (I : K → Type 0) (J : K → T → Type 0) (agree : Agree r q I J) where
  here : (w : World K) → I w.kept → After I J w w
  here w h = record { kept = h; tasks = λ u k. k }

  onward : (w v u : World K) → After I J w v → After I J v u → After I J w u
  onward w v u a b = record { kept = b.kept; tasks = λ t k. b.tasks t (a.tasks t k) }

  each_same : (one two : World K → T → World K) → ((w : World K) (t : T) → I w.kept → J w.kept t → Same I J w (one w t) (two w t))
      → (w : World K) (ts : List T) → I w.kept → AllByRecursion (J w.kept) ts → Same I J w (each one w ts) (each two w ts)
  each_same one two step w [] h k = record { same = refl; after = here w h }
  each_same one two step w (t ∷ ts) h k =
      let s : Same I J w (one w t) (two w t) = step w t h k.0 in
      let rest : AllByRecursion (J (one w t).kept) ts = all-weaker (J w.kept) (J (one w t).kept) s.after.tasks ts k.1 in
      let then : Same I J (one w t) (each one (one w t) ts) (each two (one w t) ts) = each_same one two step (one w t) ts s.after.kept rest in
      record { same = ap (λ v. each two v ts) s.same ∙ then.same; after = onward w (one w t) (each one (one w t) ts) s.after then.after }

  made : World K → K → ℕ → List ℕ → World K
  made w k b s = record { kept = k; budget = b; cut = w.cut; said = s }

  acted_same : (w : World K) (t : T) → I w.kept → J w.kept t → acted q w t ≡ acted r w t
  unfolding made
  acted_same w t h k =
      ap (λ x. made w x (w.budget - cost q t) (w.said ++ q.said_at w.kept t)) (agree.kept w.kept t h k)
      ∙ ap (λ c. made w (r.kept_after w.kept t) (w.budget - cond c 1 0) (w.said ++ q.said_at w.kept t)) (agree.costs t)
      ∙ ap (λ s. made w (r.kept_after w.kept t) (w.budget - cost r t) (w.said ++ s)) (agree.said w.kept t h k)

  causes_same : (k : K) (t : T) → I k → J k t → causes q k t ≡ causes r k t
  causes_same k t h j = ap (λ (c : Bool). cond c (q.caused k t) []) (agree.costs t) ∙ ap (λ (l : List T). cond (r.costs t) l []) (agree.caused k t h j)

  causes_in : (k : K) (t : T) → I k → J k t → AllByRecursion (J (r.kept_after k t)) (causes r k t)
  causes_in k t h j = either (AllByRecursion (J (r.kept_after k t))) (r.costs t) (r.caused k t) [] (agree.follow k t h j) tt

  by_in : (P : World K → Type 0) (b : ℕ) (x y : World K) → P x → P y → P (by_budget b x y)
  by_in P zero x y h k = h
  by_in P (suc b) x y h k = k

  allowed_in : (w : World K) (t : T) (v : World K) → I w.kept → After I J w v → After I J w (if_allowed r w t v)
  allowed_in w t v h a =
      either (After I J w) w.cut w _ (here w h)
      (either (After I J w) (r.costs t) (by_budget w.budget (cut_off r w) v) v (by_in (After I J w) w.budget (cut_off r w) v (record { kept = h; tasks = λ u k. k }) a) a)

  allowed_same : (w : World K) (t : T) (v u : World K) → u ≡ v → if_allowed q w t u ≡ if_allowed r w t v
  allowed_same w t v u e =
      ap (λ x. if_allowed q w t x) e
      ∙ ap (λ c. cond w.cut w (cond c (by_budget w.budget (cut_off q w) v) v)) (agree.costs t)
      ∙ ap (λ (x : List ℕ). cond w.cut w (cond (r.costs t) (by_budget w.budget (record { kept = w.kept; budget = w.budget; cut = true; said = w.said ++ x }) v) v)) agree.cut

  after_acted : (w : World K) (t : T) (v : World K) → I w.kept → J w.kept t → After I J (acted r w t) v → After I J w v
  after_acted w t v h k a = record { kept = a.kept; tasks = λ u j. a.tasks u (agree.others w.kept t h k u j) }

  performed_same : (n : ℕ) (w : World K) (t : T) → I w.kept → J w.kept t → Same I J w (performed r n w t) (performed q n w t)
  unfolding performed
  performed_same zero w t h k = record { same = refl; after = here w h }
  performed_same (suc n) w t h k =
      let s : Same I J (acted r w t) (each (performed r n) (acted r w t) (causes r w.kept t)) (each (performed q n) (acted r w t) (causes r w.kept t)) =
      each_same (performed r n) (performed q n) (performed_same n) (acted r w t) (causes r w.kept t) (agree.stays w.kept t h k) (causes_in w.kept t h k) in
      let e : each (performed q n) (acted q w t) (causes q w.kept t) ≡ each (performed r n) (acted r w t) (causes r w.kept t) =
      ap (λ v. each (performed q n) v (causes q w.kept t)) (acted_same w t h k) ∙ ap (λ (l : List T). each (performed q n) (acted r w t) l) (causes_same w.kept t h k) ∙ s.same in
      record {
        same = allowed_same w t (each (performed r n) (acted r w t) (causes r w.kept t)) (each (performed q n) (acted q w t) (causes q w.kept t)) e;
        after = allowed_in w t (each (performed r n) (acted r w t) (causes r w.kept t)) h (after_acted w t (each (performed r n) (acted r w t) (causes r w.kept t)) h k s.after);
      }

  finished_same : (w : World K) (t : T) → I w.kept → J w.kept t → Same I J w (finished r w t) (finished q w t)
  unfolding finished
  finished_same w t h k = performed_same (suc w.budget) w t h k

  pub all_same : (w : World K) (ts : List T) → I w.kept → AllByRecursion (J w.kept) ts → Same I J w (all_finished r w ts) (all_finished q w ts)
  all_same w ts h k = each_same (finished r) (finished q) finished_same w ts h k
