-- What the recursion does, one task at a time.
use Rattle.std.proofs.Common.{◌≡◌, ℕ, ◌-◌, ◌<◌, ◌≤◌, zero, suc, Bool, true, false, cond, List, [], ◌∷◌, ◌++◌, refl, sym, ◌∙◌, ap, append_assoc, append-nil, arith}
use Rattle.pd_io.specs.Stream.{IsPrefix}
use Rattle.pd_turns.specs.Turns.{Rules, World, causes, acted, cut_off, by_budget, if_allowed, each, performed, finished, all_finished, up_to, agenda}

pub each-append : {K T : Type 0} (one : World K → T → World K) (w : World K) (xs ys : List T) → each one w (xs ++ ys) ≡ each one (each one w xs) ys
each-append one w [] ys = refl
each-append one w (x ∷ xs) ys = each-append one (one w x) xs ys

-- the four ways that a task goes
pub allowed-cut : {K T : Type 0} (r : Rules K T) (w : World K) (t : T) (after : World K) → w.cut ≡ true → if_allowed r w t after ≡ w
allowed-cut r w t after e = rw e refl

pub allowed-free : {K T : Type 0} (r : Rules K T) (w : World K) (t : T) (after : World K) → w.cut ≡ false → r.costs t ≡ false → if_allowed r w t after ≡ after
allowed-free r w t after e f = rw (e, f) refl

by-some : {A : Type 0} (b : ℕ) (none some : A) → 0 < b → by_budget b none some ≡ some
by-some zero none some h = absurd (omega arith)
by-some (suc b) none some h = refl

by-none : {A : Type 0} (b : ℕ) (none some : A) → b ≡ 0 → by_budget b none some ≡ none
by-none zero none some h = refl
by-none (suc b) none some h = absurd (omega arith)

pub allowed-more : {K T : Type 0} (r : Rules K T) (w : World K) (t : T) (after : World K) → w.cut ≡ false → r.costs t ≡ true → 0 < w.budget → if_allowed r w t after ≡ after
allowed-more r w t after e f h = rw (e, f) (by-some w.budget (cut_off r w) after h)

pub allowed-none : {K T : Type 0} (r : Rules K T) (w : World K) (t : T) (after : World K) → w.cut ≡ false → r.costs t ≡ true → w.budget ≡ 0 → if_allowed r w t after ≡ cut_off r w
allowed-none r w t after e f h = rw (e, f) (by-none w.budget (cut_off r w) after h)

-- The same after, where it is looked at: where the task is free, or there is some of the budget.
by-same : {A : Type 0} (b : ℕ) (none x y : A) → (0 < b → x ≡ y) → by_budget b none x ≡ by_budget b none y
by-same zero none x y h = refl
by-same (suc b) none x y h = h (omega arith)

paid-same : {A : Type 0} (c : Bool) (b : ℕ) (none x y : A) → (c ≡ false → x ≡ y) → (c ≡ true → 0 < b → x ≡ y)
    → cond c (by_budget b none x) x ≡ cond c (by_budget b none y) y
paid-same true b none x y f g = by-same b none x y (g refl)
paid-same false b none x y f g = f refl

cond-same : {A : Type 0} (c : Bool) (w x y : A) → x ≡ y → cond c w x ≡ cond c w y
cond-same true w x y e = refl
cond-same false w x y e = e

allowed-same : {K T : Type 0} (r : Rules K T) (w : World K) (t : T) (x y : World K) → (r.costs t ≡ false → x ≡ y) → (r.costs t ≡ true → 0 < w.budget → x ≡ y)
    → if_allowed r w t x ≡ if_allowed r w t y
allowed-same r w t x y f g = cond-same w.cut w _ _ (paid-same (r.costs t) w.budget (cut_off r w) x y f g)

-- the budget never rises
by-budget : {K : Type 0} (b : ℕ) (x y : World K) (n : ℕ) → x.budget ≤ n → y.budget ≤ n → (by_budget b x y).budget ≤ n
by-budget zero x y n p q = p
by-budget (suc b) x y n p q = q

cond-budget : {K : Type 0} (b : Bool) (x y : World K) (n : ℕ) → x.budget ≤ n → y.budget ≤ n → (cond b x y).budget ≤ n
cond-budget true x y n p q = p
cond-budget false x y n p q = q

allowed-budget : {K T : Type 0} (r : Rules K T) (w : World K) (t : T) (after : World K) → after.budget ≤ w.budget → (if_allowed r w t after).budget ≤ w.budget
allowed-budget r w t after h =
    cond-budget w.cut w (cond (r.costs t) (by_budget w.budget (cut_off r w) after) after) w.budget (omega arith)
    (cond-budget (r.costs t) (by_budget w.budget (cut_off r w) after) after w.budget (by-budget w.budget (cut_off r w) after w.budget (omega arith) h) h)

each-budget : {K T : Type 0} (one : World K → T → World K) → ((w : World K) (t : T) → (one w t).budget ≤ w.budget) → (w : World K) (ts : List T) → (each one w ts).budget ≤ w.budget
each-budget one h w [] = omega arith
each-budget one h w (t ∷ ts) = let a : (each one (one w t) ts).budget ≤ (one w t).budget = each-budget one h (one w t) ts in let b : (one w t).budget ≤ w.budget = h w t in omega arith

acted-budget : {K T : Type 0} (r : Rules K T) (w : World K) (t : T) → (acted r w t).budget ≤ w.budget
acted-budget r w t = omega arith

acted-less : {K T : Type 0} (r : Rules K T) (w : World K) (t : T) → r.costs t ≡ true → (acted r w t).budget ≡ w.budget - 1
acted-less r w t e = rw e refl

pub performed-budget : {K T : Type 0} (r : Rules K T) (n : ℕ) (w : World K) (t : T) → (performed r n w t).budget ≤ w.budget
unfolding performed
performed-budget r zero w t = omega arith
performed-budget r (suc n) w t =
    let a : (each (performed r n) (acted r w t) (causes r w.kept t)).budget ≤ (acted r w t).budget = each-budget (performed r n) (performed-budget r n) (acted r w t) (causes r w.kept t) in
    let e : (acted r w t).budget ≤ w.budget = acted-budget r w t in
    let le : (each (performed r n) (acted r w t) (causes r w.kept t)).budget ≤ w.budget = omega arith in
    allowed-budget r w t (each (performed r n) (acted r w t) (causes r w.kept t)) le

-- what a free task causes
free-ends : {K T : Type 0} (r : Rules K T) (kept : K) (t : T) → r.costs t ≡ false → causes r kept t ≡ []
free-ends r kept t e = rw e refl

each-enough : {K T : Type 0} (r : Rules K T) (n m : ℕ) → ((w : World K) (t : T) → w.budget < n → w.budget < m → performed r n w t ≡ performed r m w t)
    → (w : World K) (ts : List T) → w.budget < n → w.budget < m → each (performed r n) w ts ≡ each (performed r m) w ts
each-enough r n m same w [] h k = refl
each-enough r n m same w (t ∷ ts) h k =
    let le : (performed r n w t).budget ≤ w.budget = performed-budget r n w t in
    let a : (performed r n w t).budget < n = omega arith in
    let b : (performed r n w t).budget < m = omega arith in
    rw (← (same w t h k)) (each-enough r n m same (performed r n w t) ts a b)

-- after a free task nothing follows
each-free : {K T : Type 0} (r : Rules K T) (one two : World K → T → World K) (w : World K) (t : T) → r.costs t ≡ false
    → each one (acted r w t) (causes r w.kept t) ≡ each two (acted r w t) (causes r w.kept t)
each-free r one two w t e = rw (free-ends r w.kept t e) refl

-- more than the budget is enough
pub performed-enough : {K T : Type 0} (r : Rules K T) (n m : ℕ) (w : World K) (t : T) → w.budget < n → w.budget < m → performed r n w t ≡ performed r m w t
unfolding performed
performed-enough r zero m w t h k = absurd (omega arith)
performed-enough r (suc n) zero w t h k = absurd (omega arith)
performed-enough r (suc n) (suc m) w t h k =
    allowed-same r w t (each (performed r n) (acted r w t) (causes r w.kept t)) (each (performed r m) (acted r w t) (causes r w.kept t))
    (each-free r (performed r n) (performed r m) w t)
    (λ (pays : r.costs t ≡ true) (more : 0 < w.budget).
    let e : (acted r w t).budget ≡ w.budget - 1 = acted-less r w t pays in
    let a : (acted r w t).budget < n = omega arith in
    let b : (acted r w t).budget < m = omega arith in
    each-enough r n m (performed-enough r n m) (acted r w t) (causes r w.kept t) a b)

each-finished : {K T : Type 0} (r : Rules K T) (n : ℕ) (w : World K) (ts : List T) → w.budget < n → each (performed r n) w ts ≡ all_finished r w ts
unfolding finished
each-finished r n w [] h = refl
each-finished r n w (t ∷ ts) h =
    let le : (performed r n w t).budget ≤ w.budget = performed-budget r n w t in
    let a : (performed r n w t).budget < n = omega arith in
    let b : w.budget < suc w.budget = omega arith in
    let e : performed r n w t ≡ performed r (suc w.budget) w t = performed-enough r n (suc w.budget) w t h b in
    rw (← e) (each-finished r n (performed r n w t) ts a)

-- One step of the recursion: a task and all that it causes is what it does, and then what follows from that.
pub finished-step : {K T : Type 0} (r : Rules K T) (w : World K) (t : T)
    → finished r w t ≡ if_allowed r w t (all_finished r (acted r w t) (causes r w.kept t))
unfolding finished performed
finished-step r w t =
    allowed-same r w t (each (performed r w.budget) (acted r w t) (causes r w.kept t)) (all_finished r (acted r w t) (causes r w.kept t))
    (each-free r (performed r w.budget) (finished r) w t)
    (λ (pays : r.costs t ≡ true) (more : 0 < w.budget).
    let e : (acted r w t).budget ≡ w.budget - 1 = acted-less r w t pays in
    let a : (acted r w t).budget < w.budget = omega arith in
    each-finished r w.budget (acted r w t) (causes r w.kept t) a)

-- The turns of a walk. While there is some of the budget, the first task is done, and what it causes comes before the rest.
pub all_finished-step : {K T : Type 0} (r : Rules K T) (w : World K) (t : T) (ts : List T) → w.cut ≡ false → r.costs t ≡ true → 0 < w.budget
    → all_finished r w (t ∷ ts) ≡ all_finished r (acted r w t) (causes r w.kept t ++ ts)
all_finished-step r w t ts cut pays more =
    ap (λ v. all_finished r v ts) (finished-step r w t ∙ allowed-more r w t (all_finished r (acted r w t) (causes r w.kept t)) cut pays more)
    ∙ sym (each-append (finished r) (acted r w t) (causes r w.kept t) ts)

-- a task that takes none of it is done
pub all_finished-free : {K T : Type 0} (r : Rules K T) (w : World K) (t : T) (ts : List T) → w.cut ≡ false → r.costs t ≡ false
    → all_finished r w (t ∷ ts) ≡ all_finished r (acted r w t) ts
all_finished-free r w t ts cut free =
    ap (λ v. all_finished r v ts) (finished-step r w t ∙ allowed-free r w t (all_finished r (acted r w t) (causes r w.kept t)) cut free
    ∙ ap (λ l. all_finished r (acted r w t) l) (free-ends r w.kept t free))

-- where it is cut off, nothing more is done
pub all_finished-cut : {K T : Type 0} (r : Rules K T) (w : World K) (ts : List T) → w.cut ≡ true → all_finished r w ts ≡ w
all_finished-cut r w [] cut = refl
all_finished-cut r w (t ∷ ts) cut =
    let e : finished r w t ≡ w = finished-step r w t ∙ allowed-cut r w t (all_finished r (acted r w t) (causes r w.kept t)) cut in
    rw e (all_finished-cut r w ts cut)

-- where the budget is used up, the first task that takes one of it cuts the event off
pub all_finished-end : {K T : Type 0} (r : Rules K T) (w : World K) (t : T) (ts : List T) → w.cut ≡ false → r.costs t ≡ true → w.budget ≡ 0 → all_finished r w (t ∷ ts) ≡ cut_off r w
all_finished-end r w t ts cut pays none =
    let e : finished r w t ≡ cut_off r w = finished-step r w t ∙ allowed-none r w t (all_finished r (acted r w t) (causes r w.kept t)) cut pays none in
    rw e (all_finished-cut r (cut_off r w) ts refl)

-- what was said stays said
pub prefix-whole : (xs : List ℕ) → IsPrefix xs xs
prefix-whole xs = record { rest = []; is = sym (append-nil xs) }

pub prefix-more : (xs ys zs : List ℕ) → IsPrefix (xs ++ ys) zs → IsPrefix xs zs
prefix-more xs ys zs p = record { rest = ys ++ p.rest; is = p.is ∙ append_assoc xs ys p.rest }

pub prefix-trans : (xs ys zs : List ℕ) → IsPrefix xs ys → IsPrefix ys zs → IsPrefix xs zs
prefix-trans xs ys zs p q = record { rest = p.rest ++ q.rest; is = q.is ∙ ap (λ (l : List ℕ). l ++ q.rest) p.is ∙ append_assoc xs p.rest q.rest }

acted-said : {K T : Type 0} (r : Rules K T) (w : World K) (t : T) → IsPrefix w.said (acted r w t).said
acted-said r w t = record { rest = r.said_at w.kept t; is = refl }

cut_off-said : {K T : Type 0} (r : Rules K T) (w : World K) → IsPrefix w.said (cut_off r w).said
cut_off-said r w = record { rest = r.cut_text; is = refl }

by-said : {K : Type 0} (b : ℕ) (x y : World K) (xs : List ℕ) → IsPrefix xs x.said → IsPrefix xs y.said → IsPrefix xs (by_budget b x y).said
by-said zero x y xs p q = p
by-said (suc b) x y xs p q = q

cond-said : {K : Type 0} (b : Bool) (x y : World K) (xs : List ℕ) → IsPrefix xs x.said → IsPrefix xs y.said → IsPrefix xs (cond b x y).said
cond-said true x y xs p q = p
cond-said false x y xs p q = q

allowed-said : {K T : Type 0} (r : Rules K T) (w : World K) (t : T) (after : World K) → IsPrefix w.said after.said → IsPrefix w.said (if_allowed r w t after).said
allowed-said r w t after h =
    cond-said w.cut w (cond (r.costs t) (by_budget w.budget (cut_off r w) after) after) w.said (prefix-whole w.said)
    (cond-said (r.costs t) (by_budget w.budget (cut_off r w) after) after w.said (by-said w.budget (cut_off r w) after w.said (cut_off-said r w) h) h)

each-said : {K T : Type 0} (one : World K → T → World K) → ((w : World K) (t : T) → IsPrefix w.said (one w t).said) → (w : World K) (ts : List T) → IsPrefix w.said (each one w ts).said
each-said one h w [] = prefix-whole w.said
each-said one h w (t ∷ ts) = prefix-trans w.said (one w t).said (each one (one w t) ts).said (h w t) (each-said one h (one w t) ts)

performed-said : {K T : Type 0} (r : Rules K T) (n : ℕ) (w : World K) (t : T) → IsPrefix w.said (performed r n w t).said
unfolding performed
performed-said r zero w t = prefix-whole w.said
performed-said r (suc n) w t =
    allowed-said r w t (each (performed r n) (acted r w t) (causes r w.kept t))
    (prefix-trans w.said (acted r w t).said (each (performed r n) (acted r w t) (causes r w.kept t)).said (acted-said r w t)
    (each-said (performed r n) (performed-said r n) (acted r w t) (causes r w.kept t)))

pub all_finished-said : {K T : Type 0} (r : Rules K T) (w : World K) (ts : List T) → IsPrefix w.said (all_finished r w ts).said
unfolding finished
all_finished-said r w ts = each-said (finished r) (λ v t. performed-said r (suc v.budget) v t) w ts

-- The list of what is left to do, at a given number that is the budget.
cut-or : {K : Type 0} (b : Bool) (x w y : World K) → (b ≡ true → x ≡ w) → (b ≡ false → x ≡ y) → x ≡ cond b w y
cut-or true x w y f g = f refl
cut-or false x w y f g = g refl

up_to-same : {K T : Type 0} (r : Rules K T) (n : ℕ) (next : World K → T → List T → World K)
    → ((w : World K) (t : T) (ts : List T) → w.cut ≡ false → w.budget ≡ n → r.costs t ≡ true → all_finished r w (t ∷ ts) ≡ next w t ts)
    → (w : World K) (ts : List T) → w.cut ≡ false → w.budget ≡ n → all_finished r w ts ≡ up_to r next w ts
up_to-same r n next step w [] cut is = refl
up_to-same {K} {T} r n next step w (t ∷ ts) cut is =
    elim (r.costs t) as (λ (b : Bool). r.costs t ≡ b → all_finished r w (t ∷ ts) ≡ cond b (next w t ts) (up_to r next (acted r w t) ts)) [
      | true ↦ λ pays. step w t ts cut is pays
      | false ↦ λ free.
          let left : (acted r w t).budget ≡ n = free-budget r w t free ∙ is in
          all_finished-free r w t ts cut free ∙ up_to-same r n next step (acted r w t) ts cut left
    ] refl
  where
    free-budget : (r : Rules K T) (w : World K) (t : T) → r.costs t ≡ false → (acted r w t).budget ≡ w.budget
    free-budget r w t e = rw e (omega arith)

agenda-same : {K T : Type 0} (r : Rules K T) (n : ℕ) (w : World K) (ts : List T) → w.cut ≡ false → w.budget ≡ n → all_finished r w ts ≡ agenda r n w ts
unfolding agenda
agenda-same r zero w ts cut is =
    up_to-same r zero (λ v task rest. cut_off r v) (λ v t rest uncut none pays. all_finished-end r v t rest uncut pays none) w ts cut is
agenda-same r (suc n) w ts cut is =
    up_to-same r (suc n) (λ v task rest. agenda r n (acted r v task) (causes r v.kept task ++ rest))
    (λ v t rest uncut some pays.
    let more : 0 < v.budget = omega arith in
    let e : (acted r v t).budget ≡ v.budget - 1 = acted-less r v t pays in
    let left : (acted r v t).budget ≡ n = omega arith in
    all_finished-step r v t rest uncut pays more ∙ agenda-same r n (acted r v t) (causes r v.kept t ++ rest) uncut left) w ts cut is

pub finished-agenda : {K T : Type 0} (r : Rules K T) (w : World K) (ts : List T) → all_finished r w ts ≡ cond w.cut w (agenda r w.budget w ts)
finished-agenda r w ts =
    cut-or w.cut (all_finished r w ts) w (agenda r w.budget w ts) (all_finished-cut r w ts) (λ uncut. agenda-same r w.budget w ts uncut refl)
