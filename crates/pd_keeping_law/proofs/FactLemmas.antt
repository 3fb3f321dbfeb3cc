-- What holds of each element of a list, and of either of two.
use Rattle.std.proofs.Common.{◌≡◌, ℕ, zero, suc, Bool, true, false, cond, List, [], ◌∷◌, ◌++◌, take, drop, map, slice_get, slice_set, slice_index_or, Option, Some, None, IfSome, refl}
use Rattle.std.specs.List.{AllByRecursion, filter, flat_map}

pub either : {A : Type 0} (P : A → Type 0) (b : Bool) (x y : A) → P x → P y → P (cond b x y)
either P true x y h k = h
either P false x y h k = k

pub either_by : {A : Type 0} (P : A → Type 0) (b : Bool) (x y : A) → (b ≡ true → P x) → (b ≡ false → P y) → P (cond b x y)
either_by P true x y h k = h refl
either_by P false x y h k = k refl

pub all-append : {A : Type 0} (P : A → Type 0) (xs ys : List A) → AllByRecursion P xs → AllByRecursion P ys → AllByRecursion P (xs ++ ys)
all-append P [] ys h k = k
all-append P (x ∷ xs) ys h k = (h.0, all-append P xs ys h.1 k)

pub all-both : {A : Type 0} (P Q : A → Type 0) (xs : List A) → AllByRecursion P xs → AllByRecursion Q xs → AllByRecursion (λ x. P x × Q x) xs
all-both P Q [] h k = tt
all-both P Q (x ∷ xs) h k = ((h.0, k.0), all-both P Q xs h.1 k.1)

pub all-take : {A : Type 0} (P : A → Type 0) (n : ℕ) (xs : List A) → AllByRecursion P xs → AllByRecursion P (take n xs)
all-take P zero xs h = tt
all-take P (suc n) [] h = tt
all-take P (suc n) (x ∷ xs) h = (h.0, all-take P n xs h.1)

pub all-filter : {A : Type 0} (P : A → Type 0) (q : A → Bool) (xs : List A) → AllByRecursion P xs → AllByRecursion P (filter q xs)
all-filter P q [] h = tt
all-filter P q (x ∷ xs) h = either (AllByRecursion P) (q x) (x ∷ filter q xs) (filter q xs) (h.0, all-filter P q xs h.1) (all-filter P q xs h.1)

pub all-drop : {A : Type 0} (P : A → Type 0) (n : ℕ) (xs : List A) → AllByRecursion P xs → AllByRecursion P (drop n xs)
all-drop P zero xs h = h
all-drop P (suc n) [] h = tt
all-drop P (suc n) (x ∷ xs) h = all-drop P n xs h.1

pub all-set : {A : Type 0} (P : A → Type 0) (xs : List A) (i : ℕ) (v : A) → P v → AllByRecursion P xs → AllByRecursion P (slice_set xs i v)
all-set P [] i v k h = h
all-set P (x ∷ xs) zero v k h = (k, h.1)
all-set P (x ∷ xs) (suc i) v k h = (h.0, all-set P xs i v k h.1)

pub all-at : {A : Type 0} (P : A → Type 0) (xs : List A) (i : ℕ) → AllByRecursion P xs → IfSome (slice_get xs i) P
all-at P [] i h = tt
all-at P (x ∷ xs) zero h = h.0
all-at P (x ∷ xs) (suc i) h = all-at P xs i h.1

pub all-map : {A B : Type 0} (P : A → Type 0) (Q : B → Type 0) (f : A → B) → ((x : A) → P x → Q (f x)) → (xs : List A) → AllByRecursion P xs → AllByRecursion Q (map f xs)
all-map P Q f k [] h = tt
all-map P Q f k (x ∷ xs) h = (k x h.0, all-map P Q f k xs h.1)

pub all-weaker : {A : Type 0} (P Q : A → Type 0) → ((x : A) → P x → Q x) → (xs : List A) → AllByRecursion P xs → AllByRecursion Q xs
all-weaker P Q k [] h = tt
all-weaker P Q k (x ∷ xs) h = (k x h.0, all-weaker P Q k xs h.1)

pub all-flat : {A B : Type 0} (P : A → Type 0) (Q : B → Type 0) (f : A → List B) → ((x : A) → P x → AllByRecursion Q (f x)) → (xs : List A) → AllByRecursion P xs → AllByRecursion Q (flat_map f xs)
all-flat P Q f k [] h = tt
all-flat P Q f k (x ∷ xs) h = all-append Q (f x) (flat_map f xs) (k x h.0) (all-flat P Q f k xs h.1)

pub some-weaker : {A : Type 0} (P Q : A → Type 0) → ((x : A) → P x → Q x) → (o : Option A) → IfSome o P → IfSome o Q
some-weaker P Q k None h = tt
some-weaker P Q k (Some x) h = k x h

pub all-from : {A : Type 0} (P : A → Type 0) (xs : List A) → ((i : ℕ) → IfSome (slice_get xs i) P) → AllByRecursion P xs
all-from P [] h = tt
all-from P (x ∷ xs) h = (h zero, all-from P xs (λ i. h (suc i)))

pub all-index : {A : Type 0} (P : A → Type 0) (xs : List A) (i : ℕ) (d : A) → P d → AllByRecursion P xs → P (slice_index_or xs i d)
all-index P [] i d k h = k
all-index P (x ∷ xs) zero d k h = h.0
all-index P (x ∷ xs) (suc i) d k h = all-index P xs i d k h.1

pub all-made : {A B : Type 0} (P : B → Type 0) (f : A → B) → ((x : A) → P (f x)) → (xs : List A) → AllByRecursion P (map f xs)
all-made P f k [] = tt
all-made P f k (x ∷ xs) = (k x, all-made P f k xs)
