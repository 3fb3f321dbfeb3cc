-- Lists without some of their keys, and one key put in or taken out.
use Rattle.std.proofs.Common.{◌≡◌, ◌≢◌, ℕ, zero, suc, ◌+◌, ◌<◌, ◌≤◌, Bool, true, false, not, cond, ◌||◌, List, [], ◌∷◌, ◌++◌, length, drop, Some, None, nat_eq, refl, sym, ap, ◌∙◌, arith}
use Rattle.std.specs.Prelude.{insert, remove}
use Rattle.std.specs.Option.{option_map_or}
use Rattle.std.specs.List.{position, position_or_len, AllByRecursion}
use Rattle.std.proofs.lemmas.Bool.{ne_eqb, eq-eqb, lt-ltb, le-ltb}
use Rattle.std.proofs.lemmas.List.{take_at, drop_at, length-append}
use Rattle.std.proofs.lemmas.List.Elements.{filter-append}
use Rattle.pd_name.specs.Rows.{without}
use Rattle.pd_owning.specs.Bound.{is_among, but}

-- the keys that stay
abbrev stays : List ℕ → ℕ → Bool
stays away k = not (is_among away k)

abbrev pub AreOther : ℕ → List ℕ → Type 0
AreOther k xs = AllByRecursion (λ x. x ≢ k) xs

stays_more : (away : List ℕ) (k x : ℕ) → x ≢ k → stays (k ∷ away) x ≡ stays away x
stays_more away k x d = ap (λ b. not (b || is_among away x)) (ne_eqb x k d)

pub gone_itself : (away : List ℕ) (k : ℕ) → stays (k ∷ away) k ≡ false
gone_itself away k = ap (λ b. not (b || is_among away k)) (eq-eqb k k refl)

pub but_other : (away : List ℕ) (k : ℕ) (xs : List ℕ) → AreOther k xs → but (k ∷ away) xs ≡ but away xs
but_other away k [] D = refl
but_other away k (x ∷ xs) D =
    ap (λ b. cond b (x ∷ but (k ∷ away) xs) (but (k ∷ away) xs)) (stays_more away k x D.0)
    ∙ ap (λ ys. cond (stays away x) (x ∷ ys) ys) (but_other away k xs D.1)

pub but_append : (away xs ys : List ℕ) → but away (xs ++ ys) ≡ but away xs ++ but away ys
but_append away xs ys = filter-append (stays away) xs ys

all_cond : (P : ℕ → Type 0) (b : Bool) (x : ℕ) (xs : List ℕ) → P x → AllByRecursion P xs → AllByRecursion P (cond b (x ∷ xs) xs)
all_cond P true x xs h A = (h, A)
all_cond P false x xs h A = A

pub but_all : (P : ℕ → Type 0) (away xs : List ℕ) → AllByRecursion P xs → AllByRecursion P (but away xs)
but_all P away [] A = tt
but_all P away (x ∷ xs) A = all_cond P (stays away x) x (but away xs) A.0 (but_all P away xs A.1)

-- without its only place for a key
but_split : (away : List ℕ) (k : ℕ) (us vs : List ℕ) → AreOther k us → AreOther k vs → but (k ∷ away) (us ++ k ∷ vs) ≡ but away us ++ but away vs
but_split away k us vs U V =
    but_append (k ∷ away) us (k ∷ vs)
    ∙ ap (λ b. but (k ∷ away) us ++ cond b (k ∷ but (k ∷ away) vs) (but (k ∷ away) vs)) (gone_itself away k)
    ∙ ap (λ xs. xs ++ but (k ∷ away) vs) (but_other away k us U)
    ∙ ap (λ ys. but away us ++ ys) (but_other away k vs V)

but_with : (away : List ℕ) (k : ℕ) (us vs : List ℕ) → is_among away k ≡ false → but away (us ++ k ∷ vs) ≡ but away us ++ k ∷ but away vs
but_with away k us vs h =
    but_append away us (k ∷ vs) ∙ ap (λ b. but away us ++ cond (not b) (k ∷ but away vs) (but away vs)) h

but_lacks : (away : List ℕ) (k : ℕ) (us vs : List ℕ) → is_among away k ≡ true → but away (us ++ k ∷ vs) ≡ but away us ++ but away vs
but_lacks away k us vs h =
    but_append away us (k ∷ vs) ∙ ap (λ b. but away us ++ cond (not b) (k ∷ but away vs) (but away vs)) h

insert_between : (us vs : List ℕ) (k n : ℕ) → length us ≡ n → insert (us ++ vs) n k ≡ us ++ k ∷ vs
insert_between us vs k n h =
    ap (λ xs. xs ++ k ∷ drop n (us ++ vs)) (take_at us vs n h) ∙ ap (λ ys. us ++ k ∷ ys) (drop_at us vs n h)

-- a key bound at its place
pub bound_at : (away : List ℕ) (k : ℕ) (us vs xs : List ℕ) (n : ℕ) → AreOther k us → AreOther k vs → is_among away k ≡ false
    → xs ≡ but (k ∷ away) (us ++ k ∷ vs) → (xs ≡ but away us ++ but away vs → n ≡ length (but away us)) → insert xs n k ≡ but away (us ++ k ∷ vs)
bound_at away k us vs xs n U V h e place =
    let parts = e ∙ but_split away k us vs U V in
    ap (λ ys. insert ys n k) parts ∙ insert_between (but away us) (but away vs) k n (sym (place parts)) ∙ sym (but_with away k us vs h)

-- one place further
further : (a b : ℕ) → a ≡ b → 1 + a ≡ suc b
further a b e = omega (arith, e)

-- the first place of a key
first_place : (k : ℕ) (us vs : List ℕ) → AreOther k us → position_or_len (nat_eq k) (us ++ k ∷ vs) ≡ length us
first_place k [] vs U = ap (λ b. cond (not b) (1 + position_or_len (nat_eq k) vs) 0) (eq-eqb k k refl)
first_place k (x ∷ us) vs U =
    ap (λ b. cond (not b) (1 + position_or_len (nat_eq k) (us ++ k ∷ vs)) 0) (ne_eqb k x (λ e. U.0 (sym e)))
    ∙ further (position_or_len (nat_eq k) (us ++ k ∷ vs)) (length us) (first_place k us vs U.1)

no_place : (k : ℕ) (xs : List ℕ) → AreOther k xs → position_or_len (nat_eq k) xs ≡ length xs
no_place k [] D = refl
no_place k (x ∷ xs) D =
    ap (λ b. cond (not b) (1 + position_or_len (nat_eq k) xs) 0) (ne_eqb k x (λ e. D.0 (sym e)))
    ∙ further (position_or_len (nat_eq k) xs) (length xs) (no_place k xs D.1)

drop_next : (k : ℕ) (us vs : List ℕ) (n : ℕ) → n ≡ length us → drop (suc n) (us ++ k ∷ vs) ≡ vs
drop_next k [] vs n e = ap (λ m. drop m vs) e
drop_next k (u ∷ us) vs zero e = absurd (omega (arith, e))
drop_next k (u ∷ us) vs (suc n) e = drop_next k us vs n (omega (arith, e))

other_append : (k : ℕ) (xs ys : List ℕ) → AreOther k xs → AreOther k ys → AreOther k (xs ++ ys)
other_append k [] ys X Y = Y
other_append k (x ∷ xs) ys X Y = (X.0, other_append k xs ys X.1 Y)

without_it : (k : ℕ) (us vs : List ℕ) → AreOther k us → without k (us ++ k ∷ vs) ≡ us ++ vs
without_it k us vs U =
    let xs = us ++ k ∷ vs in
    let at = first_place k us vs U in
    let long = length-append us (k ∷ vs) in
    let inside : position_or_len (nat_eq k) xs < length xs = omega (arith, at, long) in
    let found : position (nat_eq k) xs ≡ Some (length us) =
    (ap (λ b. cond b (Some (position_or_len (nat_eq k) xs)) None) (lt-ltb (position_or_len (nat_eq k) xs) (length xs) inside) ∙ ap (λ n. Some n) at) in
    ap (λ o. option_map_or (λ place. remove xs place) o xs) found
    ∙ ap (λ ys. ys ++ drop (suc (length us)) xs) (take_at us (k ∷ vs) (length us) refl)
    ∙ ap (λ ys. us ++ ys) (drop_next k us vs (length us) refl)

without_none : (k : ℕ) (xs : List ℕ) → AreOther k xs → without k xs ≡ xs
without_none k xs D =
    let at = no_place k xs D in
    let past : length xs ≤ position_or_len (nat_eq k) xs = omega (arith, at) in
    ap (λ b. option_map_or (λ place. remove xs place) (cond b (Some (position_or_len (nat_eq k) xs)) None) xs) (le-ltb (position_or_len (nat_eq k) xs) (length xs) past)

-- a key taken out of its place
pub unbound_at : (away : List ℕ) (k : ℕ) (us vs xs : List ℕ) → AreOther k us → AreOther k vs → xs ≡ but away (us ++ k ∷ vs) → without k xs ≡ but (k ∷ away) (us ++ k ∷ vs)
unbound_at away k us vs xs U V e = by (is_among away k) refl
  where
    after : but (k ∷ away) (us ++ k ∷ vs) ≡ but away us ++ but away vs
    after = but_split away k us vs U V

    by : (b : Bool) → is_among away k ≡ b → without k xs ≡ but (k ∷ away) (us ++ k ∷ vs)
    by true h =
        let parts = e ∙ but_lacks away k us vs h in
        ap (without k) parts ∙ without_none k (but away us ++ but away vs) (other_append k (but away us) (but away vs) (but_all (λ x. x ≢ k) away us U) (but_all (λ x. x ≢ k) away vs V)) ∙ sym after
    by false h =
        let parts = e ∙ but_with away k us vs h in
        ap (without k) parts ∙ without_it k (but away us) (but away vs) (but_all (λ x. x ≢ k) away us U) ∙ sym after

pub all_kept_none : (xs : List ℕ) → but [] xs ≡ xs
all_kept_none [] = refl
all_kept_none (x ∷ xs) = ap (λ ys. x ∷ ys) (all_kept_none xs)
