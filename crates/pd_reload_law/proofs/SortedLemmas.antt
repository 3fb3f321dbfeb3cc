-- Wires that stand by source and outlet: they are told by their fan-outs.
use Rattle.std.proofs.Common.{◌≡◌, ◌≢◌, ℕ, zero, suc, ◌+◌, ◌≤◌, ◌<◌, Bool, true, false, cond, ◌&&◌, ◌||◌, ◌==◌, List, [], ◌∷◌, ◌++◌, refl, sym, ap, ◌∙◌, subst, arith, append-nil}
use Rattle.std.specs.Prelude.{nat_lt}
use Rattle.std.specs.List.{AllByRecursion, flat_map, range_with_len}
use Rattle.std.proofs.lemmas.Bool.Decides.{nat_tests}
use Rattle.std.proofs.lemmas.List.Elements.{filter-append}
use Rattle.pd_canvas.specs.declared.wires.Wire.{Wire}
use Rattle.pd_canvas.specs.Wiring.{precedes, AreSorted, fan_out}

pub by_test : {P : Type 0} (b : Bool) → (b ≡ true → P) → (b ≡ false → P) → P
by_test true t f = t refl
by_test false t f = f refl

abbrev pub less : ℕ → ℕ → ℕ → ℕ → Bool
less a b c d = nat_lt a c || (a == c && nat_lt b d)

less_both : (a b c d : ℕ) → less a b c d ≡ true → less c d a b ≡ true → ⊥
less_both a b c d h k = grind (arith, nat_tests)

less_none : (a b c d : ℕ) → less a b c d ≡ false → less c d a b ≡ false → (a ≡ c) × (b ≡ d)
less_none a b c d h k = (less_first a b c d h k, less_second a b c d h k)
  where
    less_first : (a b c d : ℕ) → less a b c d ≡ false → less c d a b ≡ false → a ≡ c
    less_first a b c d h k = grind (arith, nat_tests)

    less_second : (a b c d : ℕ) → less a b c d ≡ false → less c d a b ≡ false → b ≡ d
    less_second a b c d h k = grind (arith, nat_tests)

less_apart : (a b c d : ℕ) → less a b c d ≡ true → (c == a && d == b) ≡ false
less_apart a b c d h = grind (arith, nat_tests)

less_apart_on : (a b c d e f : ℕ) → less a b c d ≡ true → less e f c d ≡ false → (e == a && f == b) ≡ false
less_apart_on a b c d e f h k = grind (arith, nat_tests)

from_own : (a b : ℕ) → (a == a && b == b) ≡ true
from_own a b = grind (arith, nat_tests)

abbrev pub from : ℕ → ℕ → Wire → Bool
from s o w = w.source == s && w.outlet == o

-- ---- lists in their parts

pub all_append : {X : Type 0} (P : X → Type 0) (xs ys : List X) → AllByRecursion P xs → AllByRecursion P ys → AllByRecursion P (xs ++ ys)
all_append P [] ys h k = k
all_append P (x ∷ xs) ys h k = (h.0, all_append P xs ys h.1 k)

pub all_on : {X : Type 0} (P Q : X → Type 0) (xs : List X) → ((x : X) → P x → Q x) → AllByRecursion P xs → AllByRecursion Q xs
all_on P Q [] f h = tt
all_on P Q (x ∷ xs) f h = (f x h.0, all_on P Q xs f h.1)

-- no wire of the first list comes later than one of the second
abbrev pub AreBefore : List Wire → List Wire → Type 0
AreBefore xs ys = AllByRecursion (λ x. AllByRecursion (λ y. precedes y x ≡ false) ys) xs

pub sorted_append : (xs ys : List Wire) → AreSorted xs → AreSorted ys → AreBefore xs ys → AreSorted (xs ++ ys)
sorted_append [] ys h k b = k
sorted_append (x ∷ xs) ys h k b = (all_append (λ v. precedes v x ≡ false) xs ys h.0 b.0, sorted_append xs ys h.1 k b.1)

-- all wires come from this outlet, from this box or a later one, from this outlet of this box or a later one
pub record IsAt (s o : ℕ) (w : Wire) : Type 0 where
  pub source : w.source ≡ s
  pub outlet : w.outlet ≡ o

pub record IsPast (s o : ℕ) (w : Wire) : Type 0 where
  pub source : w.source ≡ s
  pub outlet : o ≤ w.outlet

abbrev pub AreAt : ℕ → ℕ → List Wire → Type 0
AreAt s o ws = AllByRecursion (IsAt s o) ws

past_all : (s o : ℕ) (x : Wire) (ys : List Wire) → IsAt s o x → AllByRecursion (IsPast s (o + 1)) ys → AllByRecursion (λ y. precedes y x ≡ false) ys
past_all s o x [] h k = tt
past_all s o x (y ∷ ys) h k = (not_less s o x.source x.outlet y.source y.outlet h.source h.outlet k.0.source k.0.outlet, past_all s o x ys h k.1)
  where
    not_less : (s o a b c d : ℕ) → a ≡ s → b ≡ o → c ≡ s → o + 1 ≤ d → less c d a b ≡ false
    not_less s o a b c d h k l m = grind (arith, nat_tests)

past_before : (s o : ℕ) (xs ys : List Wire) → AreAt s o xs → AllByRecursion (IsPast s (o + 1)) ys → AreBefore xs ys
past_before s o [] ys h k = tt
past_before s o (x ∷ xs) ys h k = (past_all s o x ys h.0 k, past_before s o xs ys h.1 k)

at_all : (s o : ℕ) (x : Wire) (ys : List Wire) → IsAt s o x → AreAt s o ys → AllByRecursion (λ y. precedes y x ≡ false) ys
at_all s o x [] h k = tt
at_all s o x (y ∷ ys) h k = (not_less s o x.source x.outlet y.source y.outlet h.source h.outlet k.0.source k.0.outlet, at_all s o x ys h k.1)
  where
    not_less : (s o a b c d : ℕ) → a ≡ s → b ≡ o → c ≡ s → d ≡ o → less c d a b ≡ false
    not_less s o a b c d h k l m = grind (arith, nat_tests)

at_sorted : (s o : ℕ) (xs : List Wire) → AreAt s o xs → AreSorted xs
at_sorted s o [] h = tt
at_sorted s o (x ∷ xs) h = (at_all s o x xs h.0 h.1, at_sorted s o xs h.1)

-- ---- the fan-outs of one box, outlet by outlet

abbrev pub outlets : (ℕ → List Wire) → ℕ → ℕ → List Wire
outlets f a n = flat_map f (range_with_len a n)

pub outlets_past : (s : ℕ) (f : ℕ → List Wire) (a n : ℕ) → ((o : ℕ) → AreAt s o (f o)) → AllByRecursion (IsPast s a) (outlets f a n)
outlets_past s f a zero h = tt
outlets_past s f a (suc n) h =
    all_append (IsPast s a) (f a) (outlets f (a + 1) n)
    (all_on (IsAt s a) (IsPast s a) (f a) (λ w i. record { source = i.source; outlet = omega (arith, i.outlet) }) (h a))
    (all_on (IsPast s (a + 1)) (IsPast s a) (outlets f (a + 1) n) (λ w i. record { source = i.source; outlet = omega (arith, i.outlet) }) (outlets_past s f (a + 1) n h))

pub outlets_sorted : (s : ℕ) (f : ℕ → List Wire) (a n : ℕ) → ((o : ℕ) → AreAt s o (f o)) → AreSorted (outlets f a n)
outlets_sorted s f a zero h = tt
outlets_sorted s f a (suc n) h =
    sorted_append (f a) (outlets f (a + 1) n) (at_sorted s a (f a) (h a)) (outlets_sorted s f (a + 1) n h)
    (past_before s a (f a) (outlets f (a + 1) n) (h a) (outlets_past s f (a + 1) n h))

fan_all : (s o : ℕ) (xs : List Wire) → AreAt s o xs → fan_out s o xs ≡ xs
fan_all s o [] h = refl
fan_all s o (x ∷ xs) h = step (from s o x) (is_from s o x.source x.outlet h.0.source h.0.outlet) (fan_all s o xs h.1)
  where
    is_from : (s o a b : ℕ) → a ≡ s → b ≡ o → (a == s && b == o) ≡ true
    is_from s o a b h k = grind (arith, nat_tests)

    step : (b : Bool) → b ≡ true → fan_out s o xs ≡ xs → cond b (x ∷ fan_out s o xs) (fan_out s o xs) ≡ x ∷ xs
    step true e k = ap (λ (l : List Wire). x ∷ l) k
    step false e k = cc

-- none of the wires comes from this outlet
pub fan_none : (s o : ℕ) (xs : List Wire) → AllByRecursion (λ x. from s o x ≡ false) xs → fan_out s o xs ≡ []
fan_none s o [] h = refl
fan_none s o (x ∷ xs) h = step (from s o x) h.0 (fan_none s o xs h.1)
  where
    step : (b : Bool) → b ≡ false → fan_out s o xs ≡ [] → cond b (x ∷ fan_out s o xs) (fan_out s o xs) ≡ []
    step true e k = cc
    step false e k = k

past_none : (s o a : ℕ) (xs : List Wire) → o < a → AllByRecursion (IsPast s a) xs → AllByRecursion (λ x. from s o x ≡ false) xs
past_none s o a xs l h = all_on (IsPast s a) (λ x. from s o x ≡ false) xs (λ x i. not_from s o a x.source x.outlet l i.source i.outlet) h
  where
    not_from : (s o a b c : ℕ) → o < a → b ≡ s → a ≤ c → (b == s && c == o) ≡ false
    not_from s o a b c l h k = grind (arith, nat_tests)

other_none : (s o p : ℕ) (xs : List Wire) → p ≢ o → AreAt s p xs → AllByRecursion (λ x. from s o x ≡ false) xs
other_none s o p xs l h = all_on (IsAt s p) (λ x. from s o x ≡ false) xs (λ x i. not_from s o p x.source x.outlet l i.source i.outlet) h
  where
    not_from : (s o p b c : ℕ) → p ≢ o → b ≡ s → c ≡ p → (b == s && c == o) ≡ false
    not_from s o p b c l h k = grind (arith, nat_tests)

pub outlets_fan : (s : ℕ) (f : ℕ → List Wire) (a n o : ℕ) → ((p : ℕ) → AreAt s p (f p)) → a ≤ o → o < a + n → fan_out s o (outlets f a n) ≡ f o
outlets_fan s f a zero o h l m = absurd (omega (arith, l, m))
outlets_fan s f a (suc n) o h l m =
    filter-append (from s o) (f a) (outlets f (a + 1) n)
    ∙ by_test (a == o)
    (λ e. let same : a ≡ o = grind (arith, nat_tests) in
    ap (λ (x : List Wire). x ++ fan_out s o (outlets f (a + 1) n)) (fan_all s o (f a) (subst (λ y. AreAt s y (f a)) same (h a)))
    ∙ ap (λ (x : List Wire). f a ++ x) (fan_none s o (outlets f (a + 1) n) (past_none s o (a + 1) (outlets f (a + 1) n) (omega (arith, same)) (outlets_past s f (a + 1) n h)))
    ∙ append-nil (f a) ∙ ap f same)
    (λ e. let other : a ≢ o = λ x. grind (arith, nat_tests) in
    ap (λ (x : List Wire). x ++ fan_out s o (outlets f (a + 1) n)) (fan_none s o (f a) (other_none s o a (f a) other (h a)))
    ∙ outlets_fan s f (a + 1) n o h (past a o l other) (omega (arith, m)))
  where
    past : (a o : ℕ) → a ≤ o → a ≢ o → a + 1 ≤ o
    past a o l h = grind (arith)

pub outlets_out : (s : ℕ) (f : ℕ → List Wire) (a n o : ℕ) → ((p : ℕ) → AreAt s p (f p)) → a + n ≤ o → fan_out s o (outlets f a n) ≡ []
outlets_out s f a zero o h l = refl
outlets_out s f a (suc n) o h l =
    filter-append (from s o) (f a) (outlets f (a + 1) n)
    ∙ ap (λ (x : List Wire). x ++ fan_out s o (outlets f (a + 1) n)) (fan_none s o (f a) (other_none s o a (f a) (λ x. far a n o x l) (h a)))
    ∙ outlets_out s f (a + 1) n o h (omega (arith, l))
  where
    far : (a n o : ℕ) → a ≡ o → a + suc n ≤ o → ⊥
    far a n o e l = omega (arith, e, l)

-- ---- sorted wires with the same fan-outs are the same

head_in : (w : Wire) (ws : List Wire) → fan_out w.source w.outlet (w ∷ ws) ≡ w ∷ fan_out w.source w.outlet ws
head_in w ws = step (from w.source w.outlet w) (from_own w.source w.outlet)
  where
    step : (b : Bool) → b ≡ true → cond b (w ∷ fan_out w.source w.outlet ws) (fan_out w.source w.outlet ws) ≡ w ∷ fan_out w.source w.outlet ws
    step true e = refl
    step false e = cc

none_later : (y x : Wire) (xs : List Wire) → precedes y x ≡ true → AllByRecursion (λ v. precedes v x ≡ false) xs
    → AllByRecursion (λ v. from y.source y.outlet v ≡ false) (x ∷ xs)
none_later y x xs h k = (
  less_apart y.source y.outlet x.source x.outlet h,
  all_on (λ v. precedes v x ≡ false) (λ v. from y.source y.outlet v ≡ false) xs
      (λ v e. less_apart_on y.source y.outlet x.source x.outlet v.source v.outlet h e) k,
)

never : {X : Type 0} (x : X) (xs : List X) → x ∷ xs ≡ [] → ⊥
never x xs e = cc

-- a list that has a wire first which comes before all of another one has another fan-out
not_same : (y x : Wire) (ys xs : List Wire) → AllByRecursion (λ v. precedes v x ≡ false) xs → fan_out y.source y.outlet (x ∷ xs) ≡ fan_out y.source y.outlet (y ∷ ys)
    → precedes y x ≡ true → ⊥
not_same y x ys xs k e h =
    never y (fan_out y.source y.outlet ys) (sym (head_in y ys) ∙ sym e ∙ fan_none y.source y.outlet (x ∷ xs) (none_later y x xs h k))

tail_same : (b : Bool) (x : Wire) (xs ys : List Wire) → cond b (x ∷ xs) xs ≡ cond b (x ∷ ys) ys → xs ≡ ys
tail_same true x xs ys e = cc
tail_same false x xs ys e = e

firsts : (x y : Wire) (xs ys : List Wire) → x ∷ xs ≡ y ∷ ys → x ≡ y
firsts x y xs ys e = cc

pub sorted_same : (xs ys : List Wire) → AreSorted xs → AreSorted ys → ((s o : ℕ) → fan_out s o xs ≡ fan_out s o ys) → xs ≡ ys
sorted_same [] [] h k e = refl
sorted_same [] (y ∷ ys) h k e = absurd (never y (fan_out y.source y.outlet ys) (sym (head_in y ys) ∙ sym (e y.source y.outlet)))
sorted_same (x ∷ xs) [] h k e = absurd (never x (fan_out x.source x.outlet xs) (sym (head_in x xs) ∙ e x.source x.outlet))
sorted_same (x ∷ xs) (y ∷ ys) h k e =
    by_test (precedes x y) (λ t. absurd (not_same x y xs ys k.0 (sym (e x.source x.outlet)) t)) (λ f.
    by_test (precedes y x) (λ t. absurd (not_same y x ys xs h.0 (e y.source y.outlet) t)) (λ g.
    let p = less_none x.source x.outlet y.source y.outlet f g in
    let there : fan_out x.source x.outlet (y ∷ ys) ≡ y ∷ fan_out y.source y.outlet ys =
    ap (λ s. fan_out s x.outlet (y ∷ ys)) p.0 ∙ ap (λ o. fan_out y.source o (y ∷ ys)) p.1 ∙ head_in y ys in
    let first : x ≡ y = firsts x y _ _ (sym (head_in x xs) ∙ e x.source x.outlet ∙ there) in
    let rest : (s o : ℕ) → fan_out s o xs ≡ fan_out s o ys = λ s o.
    tail_same (from s o x) x (fan_out s o xs) (fan_out s o ys) (e s o ∙ ap (λ (v : Wire). fan_out s o (v ∷ ys)) (sym first)) in
    ap (λ (v : Wire). v ∷ xs) first ∙ ap (λ (l : List Wire). y ∷ l) (sorted_same xs ys h.1 k.1 rest)))
