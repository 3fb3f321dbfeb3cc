-- Boxes bound in turn, and room for those that are left.
use Rattle.std.proofs.Common.{◌≡◌, ◌≢◌, ℕ, zero, suc, ◌+◌, Bool, true, false, not, cond, ◌||◌, List, [], ◌∷◌, ◌++◌, length, drop, Option, Some, None, nat_eq, refl, sym, ap, ◌∙◌, subst, arith}
use Rattle.std.specs.List.{filter}
use Rattle.std.proofs.lemmas.Bool.{false≢true}
use Rattle.std.proofs.lemmas.List.{map-append}
use Rattle.std.proofs.lemmas.List.Folds.{list_any-append}
use Rattle.pd_atom.specs.Names.{Names}
use Rattle.pd_name.specs.declared.Class.{Class}
use Rattle.pd_name.specs.Rows.{Row}
use Rattle.pd_grove.specs.declared.nodes.Node.{Node}
use Rattle.pd_grove.specs.declared.spots.Spot.{Spot}
use Rattle.pd_grove.specs.TextOrder.{keys_of_spots}
use Rattle.pd_bind.specs.Naming.{Owned}
use Rattle.pd_bind.specs.Owning.{is_owned, owned_at, boxes_owning}
use Rattle.pd_owning.specs.Bound.{is_among, but, AreNew, HasRoom, OthersStay}
use Rattle.pd_owning.proofs.BoundLemmas.{owned_same, owned_itself}

pub new_after : (ps : List Spot) (i : ℕ) (away : List ℕ) → AreNew (keys_of_spots ps) away → AreNew (keys_of_spots (drop i ps)) away
new_after ps zero away N = N
new_after [] (suc i) away N = N
new_after (p ∷ ps) (suc i) away N = new_after ps i away N.1

-- there is room for the owners of each name that one of these boxes owns
abbrev pub HasRooms : List Row → Names → (ℕ → Option Node) → List Spot → Type 0
HasRooms names table nodes ps = (class : Class) (name : ℕ) → length (boxes_owning table nodes class name ps) ≢ 0 → HasRoom names (Some (class, name)) (length (boxes_owning table nodes class name ps))

-- so many boxes, with one more where it is one
abbrev counted : Bool → Spot → List Spot → ℕ
counted b p ps = length (keys_of_spots (cond b (p ∷ ps) ps))

one_more : (p : Spot) (ps : List Spot) → counted true p ps ≡ length (keys_of_spots ps) + 1
one_more p ps = omega arith

some_counted : (p : Spot) (ps : List Spot) → counted true p ps ≢ 0
some_counted p ps = λ z. let more = one_more p ps in absurd (omega (arith, z, more))

pub first_room : (table : Names) (nodes : ℕ → Option Node) (names : List Row) (p : Spot) (ps : List Spot) → HasRooms names table nodes (p ∷ ps) → HasRoom names (owned_at table nodes p) 1
first_room table nodes names p ps H = by (owned_at table nodes p) refl
  where
    by : (o : Option Owned) → owned_at table nodes p ≡ o → HasRoom names o 1
    by None e = tt
    by (Some w) e =
        let rest = filter (λ q. is_owned w.0 w.1 (owned_at table nodes q)) ps in
        let R : HasRoom names (Some w) (counted true p rest) =
        (subst (λ b. counted b p rest ≢ 0 → HasRoom names (Some w) (counted b p rest)) (ap (is_owned w.0 w.1) e ∙ owned_itself w.0 w.1) (H w.0 w.1)) (some_counted p rest) in
        let few = R.0 in
        let small = R.1 in
        let more = one_more p rest in
        (omega (arith, few, more), omega (arith, small, more))

pub room_next : (table : Names) (nodes : ℕ → Option Node) (names names' : List Row) (p : Spot) (ps : List Spot) → OthersStay names names' (owned_at table nodes p)
    → ((n : ℕ) → HasRoom names (owned_at table nodes p) (n + 1) → HasRoom names' (owned_at table nodes p) n) → HasRooms names table nodes (p ∷ ps) → HasRooms names' table nodes ps
room_next table nodes names names' p ps O R H class name some = by (is_owned class name (owned_at table nodes p)) refl (owned_at table nodes p) refl
  where
    by : (b : Bool) → is_owned class name (owned_at table nodes p) ≡ b → (o : Option Owned) → owned_at table nodes p ≡ o → HasRoom names' (Some (class, name)) (length (boxes_owning table nodes class name ps))
    by false e o f =
        let A : HasRoom names (Some (class, name)) (length (boxes_owning table nodes class name ps)) =
        (subst (λ b. counted b p (filter (λ q. is_owned class name (owned_at table nodes q)) ps) ≢ 0 → HasRoom names (Some (class, name)) (counted b p (filter (λ q. is_owned class name (owned_at table nodes q)) ps))) e
        (H class name)) some in
        let spare = O.spare class name e in
        let owners = ap (λ (xs : List ℕ). length xs) (O.owners class name e) in
        let few = A.0 in
        let small = A.1 in
        (omega (arith, few, spare), omega (arith, small, owners))
    by true e None f = absurd (false≢true (ap (is_owned class name) (sym f) ∙ e))
    by true e (Some w) f =
        let own = filter (λ q. is_owned class name (owned_at table nodes q)) ps in
        let S = owned_same class w.0 name w.1 (ap (is_owned class name) (sym f) ∙ e) in
        let same : ◌≡◌ {A = Option Owned} (Some (class, name)) (Some w) = (λ i. Some (S.0 i, S.1 i)) in
        let A : HasRoom names (Some (class, name)) (counted true p own) =
        (subst (λ b. counted b p own ≢ 0 → HasRoom names (Some (class, name)) (counted b p own)) e (H class name)) (some_counted p own) in
        let B : HasRoom names (Some (class, name)) (length (keys_of_spots own) + 1) = subst (λ n. HasRoom names (Some (class, name)) n) (one_more p own) A in
        let C : HasRoom names (owned_at table nodes p) (length (keys_of_spots own) + 1) = subst (λ o. HasRoom names o (length (keys_of_spots own) + 1)) (same ∙ sym f) B in
        subst (λ o. HasRoom names' o (length (keys_of_spots own))) (sym (same ∙ sym f)) (R (length (keys_of_spots own)) C)

-- keys that are away, in another order
but_same : (a b : List ℕ) → ((x : ℕ) → is_among a x ≡ is_among b x) → (xs : List ℕ) → but a xs ≡ but b xs
but_same a b H [] = refl
but_same a b H (x ∷ xs) = ap (λ t. cond (not t) (x ∷ but a xs) (but a xs)) (H x) ∙ ap (λ ys. cond (not (is_among b x)) (x ∷ ys) ys) (but_same a b H xs)

or_turned : (a b c : Bool) → (a || (b || c)) ≡ ((b || (a || false)) || c)
or_turned true true c = refl
or_turned true false c = refl
or_turned false true c = refl
or_turned false false c = refl

-- one key more is away
pub away_more : (ps : List Spot) (p : Spot) (away xs : List ℕ) → but (p.node ∷ (keys_of_spots ps ++ away)) xs ≡ but (keys_of_spots (ps ++ p ∷ []) ++ away) xs
away_more ps p away xs =
    but_same (p.node ∷ (keys_of_spots ps ++ away)) (keys_of_spots (ps ++ p ∷ []) ++ away)
    (λ x. ap (λ b. nat_eq x p.node || b) (list_any-append (nat_eq x) (keys_of_spots ps) away)
    ∙ or_turned (nat_eq x p.node) (is_among (keys_of_spots ps) x) (is_among away x)
    ∙ ap (λ b. b || is_among away x) (sym (list_any-append (nat_eq x) (keys_of_spots ps) (p.node ∷ [])))
    ∙ sym (list_any-append (nat_eq x) (keys_of_spots ps ++ p.node ∷ []) away)
    ∙ ap (λ ks. is_among (ks ++ away) x) (sym (map-append (λ (q : Spot). q.node) ps (p ∷ []))))
    xs
