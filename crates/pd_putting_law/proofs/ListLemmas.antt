-- Lists with an element more, or one changed.
use Rattle.std.proofs.Common.{◌≡◌, ◌≢◌, ℕ, zero, suc, ◌≤◌, List, [], ◌∷◌, ◌++◌, map, length, take, drop, slice_get, Option, Some, None, refl, sym, ap, ◌∙◌, arith}
use Rattle.std.proofs.lemmas.Option.{none-some}
use Rattle.std.proofs.lemmas.Bool.Decides.{nat_tests}
use Rattle.std.proofs.lemmas.List.{take_all, drop_all}
use Rattle.pd_canvas.specs.Paths.{at_place}
use Rattle.pd_canvas.specs.Wiring.{raised}

pub by_option : {X : Type 0} {P : Type 0} (o : Option X) → (o ≡ None → P) → ((x : X) → o ≡ Some x → P) → P
by_option None n s = n refl
by_option (Some x) n s = s x refl

pub map_same : {X Y : Type 0} (f g : X → Y) (xs : List X) → ((i : ℕ) (x : X) → slice_get xs i ≡ Some x → g x ≡ f x) → map g xs ≡ map f xs
map_same f g [] h = refl
map_same {X} {Y} f g (x ∷ xs) h =
    ap (λ (y : Y). y ∷ map g xs) (h 0 x refl) ∙ ap (λ (l : List Y). f x ∷ l) (map_same f g xs (λ i y e. h (suc i) y e))

-- the same elements, each changed
pub map_onto : {X Y : Type 0} (f g : X → Y) (change : Y → Y) (xs : List X) → ((i : ℕ) (x : X) → slice_get xs i ≡ Some x → g x ≡ change (f x))
    → map g xs ≡ map change (map f xs)
map_onto f g change [] h = refl
map_onto {X} {Y} f g change (x ∷ xs) h =
    ap (λ (y : Y). y ∷ map g xs) (h 0 x refl) ∙ ap (λ (l : List Y). change (f x) ∷ l) (map_onto f g change xs (λ i y e. h (suc i) y e))

pub map_changed : {X Y : Type 0} (f g : X → Y) (change : Y → Y) (n : ℕ) (xs : List X) → ((x : X) → slice_get xs n ≡ Some x → g x ≡ change (f x))
    → ((i : ℕ) (x : X) → i ≢ n → slice_get xs i ≡ Some x → g x ≡ f x) → map g xs ≡ at_place n change (map f xs)
map_changed f g change n [] h others = refl
map_changed {X} {Y} f g change zero (x ∷ xs) h others =
    ap (λ (y : Y). y ∷ map g xs) (h x refl)
    ∙ ap (λ (l : List Y). change (f x) ∷ l) (map_same f g xs (λ i y e. others (suc i) y (never i) e))
  where
    never : (i : ℕ) → suc i ≢ 0
    never i e = cc
map_changed {X} {Y} f g change (suc n) (x ∷ xs) h others =
    ap (λ (y : Y). y ∷ map g xs) (others 0 x (never n) refl)
    ∙ ap (λ (l : List Y). f x ∷ l) (map_changed f g change n xs h (λ i y a e. others (suc i) y (λ s. a (less i n s)) e))
  where
    never : (i : ℕ) → 0 ≢ suc i
    never i e = cc

    less : (i n : ℕ) → suc i ≡ suc n → i ≡ n
    less i n e = omega (arith, e)

-- ---- an element more at a number

pub map_more : {X Y : Type 0} (f : X → Y) (xs : List X) (n : ℕ) (x : X) → map f (take n xs ++ x ∷ drop n xs) ≡ take n (map f xs) ++ f x ∷ drop n (map f xs)
map_more f [] zero x = refl
map_more f [] (suc n) x = refl
map_more f (y ∷ xs) zero x = refl
map_more {X} {Y} f (y ∷ xs) (suc n) x = ap (λ (l : List Y). f y ∷ l) (map_more f xs n x)

-- the others have the numbers that they had, and from there on the next
pub get_raised : {X : Type 0} (xs : List X) (n : ℕ) (y : X) (s : ℕ) → n ≤ length xs → slice_get (take n xs ++ y ∷ drop n xs) (raised n s) ≡ slice_get xs s
get_raised [] zero y s l = ap (slice_get (y ∷ [])) (next s)
  where
    next : (s : ℕ) → raised 0 s ≡ suc s
    next s = grind (arith, nat_tests)
get_raised [] (suc n) y s l = absurd (none n l)
  where
    none : (n : ℕ) → suc n ≤ 0 → ⊥
    none n l = omega (arith, l)
get_raised (x ∷ xs) zero y s l = ap (slice_get (y ∷ x ∷ xs)) (next s)
  where
    next : (s : ℕ) → raised 0 s ≡ suc s
    next s = grind (arith, nat_tests)
get_raised (x ∷ xs) (suc n) y zero l = ap (slice_get (x ∷ take n xs ++ y ∷ drop n xs)) (first n)
  where
    first : (n : ℕ) → raised (suc n) 0 ≡ 0
    first n = grind (arith, nat_tests)
get_raised (x ∷ xs) (suc n) y (suc s) l = ap (slice_get (x ∷ take n xs ++ y ∷ drop n xs)) (next n s) ∙ get_raised xs n y s (less n (length xs) l)
  where
    next : (n s : ℕ) → raised (suc n) (suc s) ≡ suc (raised n s)
    next n s = grind (arith, nat_tests)

    less : (n m : ℕ) → suc n ≤ suc m → n ≤ m
    less n m l = omega (arith, l)

-- it has this number
pub get_new : (xs : List ℕ) (n y : ℕ) → n ≤ length xs → slice_get (take n xs ++ y ∷ drop n xs) n ≡ Some y
get_new [] zero y l = refl
get_new [] (suc n) y l = absurd (none n l)
  where
    none : (n : ℕ) → suc n ≤ 0 → ⊥
    none n l = omega (arith, l)
get_new (x ∷ xs) zero y l = refl
get_new (x ∷ xs) (suc n) y l = get_new xs n y (less n (length xs) l)
  where
    less : (n m : ℕ) → suc n ≤ suc m → n ≤ m
    less n m l = omega (arith, l)

-- ---- an element more behind the others

pub all_before : {X : Type 0} (xs : List X) → take (length xs) xs ≡ xs
all_before xs = take_all (length xs) xs (omega arith)

pub none_behind : {X : Type 0} (xs : List X) → drop (length xs) xs ≡ []
none_behind xs = drop_all (length xs) xs (omega arith)

pub insert_last : {X : Type 0} (xs : List X) (x : X) → take (length xs) xs ++ x ∷ drop (length xs) xs ≡ xs ++ x ∷ []
insert_last {X} xs x = ap (λ (l : List X). l ++ x ∷ drop (length xs) xs) (all_before xs) ∙ ap (λ (l : List X). xs ++ x ∷ l) (none_behind xs)

-- where nothing stands, the list has ended
pub slice_get_out : (xs : List ℕ) (i : ℕ) → slice_get xs i ≡ None → length xs ≤ i
slice_get_out [] i e = omega arith
slice_get_out (x ∷ xs) zero e = absurd (none-some x (sym e))
slice_get_out (x ∷ xs) (suc i) e = more (length xs) i (slice_get_out xs i e)
  where
    more : (n i : ℕ) → n ≤ i → suc n ≤ suc i
    more n i l = omega (arith, l)
