-- Lists less some, and with one more.
use Rattle.std.proofs.Common.{◌≡◌, ◌≢◌, ℕ, zero, suc, ◌≤◌, ◌==◌, ◌&&◌, Bool, true, false, cond, not, List, [], ◌∷◌, ◌++◌, filter, map, length, slice_get, Some, None, refl, sym, ap, ◌∙◌, true≢false, eqb-true, eq-eqb, arith}
use Rattle.std.specs.List.{insert}
use Rattle.std.proofs.lemmas.Option.{none-some, same_Some}
use Rattle.pd_web.specs.declared.web.Hop.{Hop}
use Rattle.pd_web.specs.Changes.{without_hop}
use Rattle.pd_moving.specs.Outlets.{is_at}

-- what the test says of a port
pub at_yes : (n i : ℕ) (h : Hop) → h.node ≡ n → h.port ≡ i → is_at n i h ≡ true
at_yes n i h a b = ap (λ (x : Bool). x && h.port == i) (eq-eqb h.node n a) ∙ eq-eqb h.port i b

pub at_told : (n i : ℕ) (h : Hop) → is_at n i h ≡ true → (h.node ≡ n) × (h.port ≡ i)
at_told n i h t = step (h.node == n) refl t
  where
    step : (b : Bool) → (h.node == n) ≡ b → (b && h.port == i) ≡ true → (h.node ≡ n) × (h.port ≡ i)
    step true e x = (eqb-true h.node n e, eqb-true h.port i x)
    step false e x = absurd (true≢false (sym x))

pub at_no : (n i : ℕ) (h : Hop) → (h.node ≡ n → h.port ≢ i) → is_at n i h ≡ false
at_no n i h differ = step (is_at n i h) refl
  where
    step : (b : Bool) → is_at n i h ≡ b → is_at n i h ≡ false
    step true e = let t = at_told n i h e in absurd (differ t.0 t.1)
    step false e = e

-- all pass
pub all_stay : {X : Type 0} (p : X → Bool) (xs : List X) → ((i : ℕ) (x : X) → slice_get xs i ≡ Some x → p x ≡ true) → filter p xs ≡ xs
all_stay p [] h = refl
all_stay p (x ∷ xs) h = ap (λ (b : Bool). cond b (x ∷ filter p xs) (filter p xs)) (h 0 x refl) ∙ ap (λ ys. x ∷ ys) (all_stay p xs (λ i y e. h (suc i) y e))

-- none passes
pub none_stay : {X : Type 0} (p : X → Bool) (xs : List X) → ((i : ℕ) (x : X) → slice_get xs i ≡ Some x → p x ≡ false) → filter p xs ≡ []
none_stay p [] h = refl
none_stay p (x ∷ xs) h = ap (λ (b : Bool). cond b (x ∷ filter p xs) (filter p xs)) (h 0 x refl) ∙ none_stay p xs (λ i y e. h (suc i) y e)

key_test : (key : ℕ) (h : Hop) → h.key ≢ key → not (h.key == key) ≡ true
key_test key h differ = step (h.key == key) refl
  where
    step : (b : Bool) → (h.key == key) ≡ b → not b ≡ true
    step true e = absurd (differ (eqb-true h.key key e))
    step false e = refl

-- a key that isn't listed is taken out
pub absent_stays : (key : ℕ) (hops : List Hop) → ((i : ℕ) (h : Hop) → slice_get hops i ≡ Some h → h.key ≢ key) → without_hop key hops ≡ hops
absent_stays key hops h = all_stay (λ (x : Hop). not (x.key == key)) hops (λ i x e. key_test key x (h i x e))

-- the first is taken out
pub first_gone : (hops : List Hop) (hop : Hop) → slice_get hops 0 ≡ Some hop → ((i : ℕ) (h : Hop) → slice_get hops (suc i) ≡ Some h → h.key ≢ hop.key) → hops ≡ hop ∷ without_hop hop.key hops
first_gone [] hop first h = absurd (none-some hop first)
first_gone (x ∷ xs) hop first h =
    let same = same_Some x hop first in
    let gone : without_hop hop.key (x ∷ xs) ≡ xs =
    ap (λ (b : Bool). cond (not b) (x ∷ without_hop hop.key xs) (without_hop hop.key xs)) (eq-eqb x.key hop.key (ap (λ (y : Hop). y.key) same)) ∙ absent_stays hop.key xs (λ i y e. h i y e) in
    ap (λ (y : Hop). y ∷ xs) same ∙ ap (λ (ys : List Hop). hop ∷ ys) (sym gone)

-- of those that pass none is taken out
pub others_cut : (key : ℕ) (p : Hop → Bool) (hops : List Hop) → ((i : ℕ) (h : Hop) → slice_get hops i ≡ Some h → h.key ≡ key → p h ≡ false) → filter p (without_hop key hops) ≡ filter p hops
others_cut key p [] h = refl
others_cut key p (x ∷ xs) h = step (x.key == key) refl (others_cut key p xs (λ i y e s. h (suc i) y e s))
  where
    step : (b : Bool) → (x.key == key) ≡ b → filter p (without_hop key xs) ≡ filter p xs
        → filter p (cond (not b) (x ∷ without_hop key xs) (without_hop key xs)) ≡ filter p (x ∷ xs)
    step true e rec = rec ∙ sym (ap (λ (b : Bool). cond b (x ∷ filter p xs) (filter p xs)) (h 0 x refl (eqb-true x.key key e)))
    step false e rec = ap (λ (ys : List Hop). cond (p x) (x ∷ ys) ys) rec

-- one more that doesn't pass
pub insert_missed : {X : Type 0} (p : X → Bool) (xs : List X) (place : ℕ) (x : X) → p x ≡ false → filter p (insert xs place x) ≡ filter p xs
insert_missed p xs zero x miss = ap (λ (b : Bool). cond b (x ∷ filter p xs) (filter p xs)) miss
insert_missed p [] (suc n) x miss = ap (λ (b : Bool). cond b (x ∷ []) []) miss
insert_missed p (y ∷ ys) (suc n) x miss = ap (λ zs. cond (p y) (y ∷ zs) zs) (insert_missed p ys n x miss)

-- one more behind those that pass
pub insert_behind : {X : Type 0} (p : X → Bool) (xs : List X) (place : ℕ) (x : X) → p x ≡ true → place ≤ length xs → ((i : ℕ) (y : X) → place ≤ i → slice_get xs i ≡ Some y → p y ≡ false)
    → filter p (insert xs place x) ≡ filter p xs ++ x ∷ []
insert_behind p xs zero x hit l miss =
    let none = none_stay p xs (λ i y e. miss i y (omega arith) e) in
    ap (λ (b : Bool). cond b (x ∷ filter p xs) (filter p xs)) hit ∙ ap (λ ys. x ∷ ys) none ∙ ap (λ ys. ys ++ x ∷ []) (sym none)
insert_behind p [] (suc n) x hit l miss = absurd (omega (arith, l))
insert_behind p (y ∷ ys) (suc n) x hit l miss = step (p y) (insert_behind p ys n x hit (omega (arith, l)) (λ i z k e. miss (suc i) z (omega (arith, k)) e))
  where
    step : (b : Bool) → filter p (insert ys n x) ≡ filter p ys ++ x ∷ [] → cond b (y ∷ filter p (insert ys n x)) (filter p (insert ys n x)) ≡ cond b (y ∷ filter p ys) (filter p ys) ++ x ∷ []
    step true rec = ap (λ zs. y ∷ zs) rec
    step false rec = rec

pub filter_last : {X : Type 0} (p : X → Bool) (xs : List X) (x : X) → filter p (xs ++ x ∷ []) ≡ filter p xs ++ filter p (x ∷ [])
filter_last p [] x = refl
filter_last p (y ∷ ys) x = step (p y) (filter_last p ys x)
  where
    step : (b : Bool) → filter p (ys ++ x ∷ []) ≡ filter p ys ++ filter p (x ∷ []) → cond b (y ∷ filter p (ys ++ x ∷ [])) (filter p (ys ++ x ∷ [])) ≡ cond b (y ∷ filter p ys) (filter p ys) ++ filter p (x ∷ [])
    step true rec = ap (λ zs. y ∷ zs) rec
    step false rec = rec

pub map_last : {X Y : Type 0} (f : X → Y) (xs : List X) (x : X) → map f (xs ++ x ∷ []) ≡ map f xs ++ f x ∷ []
map_last f [] x = refl
map_last f (y ∷ ys) x = ap (λ zs. f y ∷ zs) (map_last f ys x)

pub empty_list : {X : Type 0} (xs : List X) → slice_get xs 0 ≡ None → xs ≡ []
empty_list [] h = refl
empty_list (x ∷ xs) h = absurd (none-some x (sym h))

pub nothing_there : {X : Type 0} (x : X) (i : ℕ) → slice_get [] i ≡ Some x → ⊥
nothing_there x zero h = none-some x h
nothing_there x (suc i) h = none-some x h
