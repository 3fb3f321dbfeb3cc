-- A box bound among the owners of its name, or unbound.
use Rattle.std.proofs.Common.{◌≡◌, ◌≢◌, ℕ, zero, suc, ◌+◌, Bool, true, false, cond, List, [], ◌∷◌, ◌++◌, append_assoc, length, Option, Some, None, IsSome, inl, inr, nat_eq, refl, sym, ap, ◌∙◌, subst, arith}
use Rattle.std.specs.Prelude.{insert, slice_get, Result, Ok, Err, IsOk, OnOk}
use Rattle.std.specs.List.{filter, AllByRecursion}
use Rattle.std.proofs.lemmas.Bool.{false≢true, and_parts, and_from, eqb-true, eq-eqb, both_ways}
use Rattle.std.proofs.lemmas.List.{map-append}
use Rattle.std.proofs.lemmas.List.Elements.{filter-append}
use Rattle.std.proofs.lemmas.Option.{none-some, same_Some, slice_get_within}
use Rattle.slab.specs.Slab.{get}
use Rattle.pd_atom.specs.Names.{Names}
use Rattle.pd_name.specs.declared.Class.{Class}
use Rattle.pd_name.specs.declared.Class.TheVariants.{Receiver, Table, Catch, Bus, Delay}
use Rattle.pd_name.specs.Rows.{same_class, without}
use Rattle.pd_grove.specs.declared.nodes.Node.{Node}
use Rattle.pd_grove.specs.declared.grove.Grove.{Grove}
use Rattle.pd_grove.specs.declared.spots.Spot.{Spot}
use Rattle.pd_grove.specs.Telling.{keys_in}
use Rattle.pd_grove.specs.Forest.{IsForest}
use Rattle.pd_grove.specs.TextOrder.{spots_in_order, keys_of_spots, keys_in_order}
use Rattle.pd_grove.proofs.SpotLemmas.{spots_live}
use Rattle.pd_bind.specs.Naming.{owned, canvas_symbol}
use Rattle.pd_bind.specs.Owning.{root_owner, is_owned, owned_at, owner_if, root_owning, owners_in}
use Rattle.pd_owning.specs.Bound.{is_among, but, Precedes, IsAhead}
use Rattle.pd_owning.proofs.OrderLemmas.{all_append, all_map, all_at, comes_at, never_itself}
use Rattle.pd_owning.proofs.ListLemmas.{AreOther, but_other, but_all, bound_at, unbound_at}

same_of : (a b : Class) → same_class a b ≡ true → a ≡ b
same_of Receiver Receiver h = refl
same_of Table Table h = refl
same_of Catch Catch h = refl
same_of Bus Bus h = refl
same_of Delay Delay h = refl
same_of _ _ h = absurd (false≢true h)

class_itself : (a : Class) → same_class a a ≡ true
class_itself Receiver = refl
class_itself Table = refl
class_itself Catch = refl
class_itself Bus = refl
class_itself Delay = refl

-- the name that is owned
pub owned_same : (class c : Class) (name n : ℕ) → is_owned class name (Some (c, n)) ≡ true → (class ≡ c) × (name ≡ n)
owned_same class c name n h =
    let P = and_parts (same_class class c) (nat_eq name n) h in
    (same_of class c P.0, eqb-true name n P.1)

pub owned_itself : (c : Class) (n : ℕ) → is_owned c n (Some (c, n)) ≡ true
owned_itself c n = and_from (same_class c c) (nat_eq n n) (class_itself c) (eq-eqb n n refl)

pub owned_other : (class c : Class) (name n : ℕ) → is_owned class name (Some (c, n)) ≡ false → ¬ ((class ≡ c) × (name ≡ n))
owned_other class c name n h = λ e.
    both_ways (is_owned class name (Some (c, n))) h
    (ap (λ x. is_owned x name (Some (c, n))) e.0 ∙ ap (λ y. is_owned c y (Some (c, n))) e.1 ∙ owned_itself c n)

-- a list before and behind one of its places
record Split (xs : List Spot) (p : Spot) : Type 0 where
  before : List Spot
  behind : List Spot
  is : xs ≡ before ++ p ∷ behind

split : (xs : List Spot) (i : ℕ) (p : Spot) → slice_get xs i ≡ Some p → Split xs p
split [] i p at = absurd (none-some p at)
split (x ∷ xs) zero p at = record { before = []; behind = xs; is = ap (λ y. y ∷ xs) (same_Some x p at) }
split (x ∷ xs) (suc i) p at = (let S = split xs i p at in record { before = x ∷ S.before; behind = S.behind; is = ap (λ ys. x ∷ ys) S.is })

at_left : (xs ys : List ℕ) (i x : ℕ) → slice_get xs i ≡ Some x → slice_get (xs ++ ys) i ≡ Some x
at_left [] ys i x at = absurd (none-some x at)
at_left (y ∷ xs) ys zero x at = at
at_left (y ∷ xs) ys (suc i) x at = at_left xs ys i x at

at_right : (xs ys : List ℕ) (i n x : ℕ) → n ≡ length xs + i → slice_get ys i ≡ Some x → slice_get (xs ++ ys) n ≡ Some x
at_right [] ys i n x e at = (let q : i ≡ n = omega (arith, e) in subst (λ m. slice_get ys m ≡ Some x) q at)
at_right (y ∷ xs) ys i zero x e at = absurd (omega (arith, e))
at_right (y ∷ xs) ys i (suc n) x e at = at_right xs ys i n x (omega (arith, e)) at

all_places : (P : ℕ → Type 0) (xs : List ℕ) → ((i x : ℕ) → slice_get xs i ≡ Some x → P x) → AllByRecursion P xs
all_places P [] f = tt
all_places P (x ∷ xs) f = (f zero x refl, all_places P xs (λ i. f (suc i)))

precede : (xs ys : List ℕ) (k : ℕ) → AllByRecursion (λ x. Precedes (xs ++ k ∷ ys) x k) xs
precede xs ys k = all_places (λ x. Precedes (xs ++ k ∷ ys) x k) xs (λ i x at.
    record { first = i; second = length xs; at = at_left xs (k ∷ ys) i x at; other_at = at_right xs (k ∷ ys) 0 (length xs) k (omega arith) refl; less = slice_get_within xs i x at })

follow : (xs ys : List ℕ) (k : ℕ) → AllByRecursion (λ x. Precedes (xs ++ k ∷ ys) k x) ys
follow xs ys k = all_places (λ x. Precedes (xs ++ k ∷ ys) k x) ys (λ i x at.
    record {
      first = length xs;
      second = length xs + suc i;
      at = at_right xs (k ∷ ys) 0 (length xs) k (omega arith) refl;
      other_at = at_right xs (k ∷ ys) (suc i) (length xs + suc i) x refl at;
      less = omega arith;
    })

-- those of some boxes that pass a test
kept_cond : (P : ℕ → Type 0) (b : Bool) (p : Spot) (ps : List Spot) → P p.node → AllByRecursion P (keys_of_spots ps) → AllByRecursion P (keys_of_spots (cond b (p ∷ ps) ps))
kept_cond P true p ps h A = (h, A)
kept_cond P false p ps h A = A

kept_all : (P : ℕ → Type 0) (test : Spot → Bool) (ps : List Spot) → AllByRecursion P (keys_of_spots ps) → AllByRecursion P (keys_of_spots (filter test ps))
kept_all P test [] A = tt
kept_all P test (p ∷ ps) A = kept_cond P (test p) p (filter test ps) A.0 (kept_all P test ps A.1)

module _ (g : Grove) (F : IsForest (get g.nodes) (get g.boards) g.root) where
  -- a box stands once in text order
  pub never_twice : (k : ℕ) → Precedes (keys_in_order g) k k → ⊥
  never_twice k P = never_itself (get g.nodes) (get g.boards) g.root F k (comes_at g F P.first P.second k k P.less P.at P.other_at)

-- the boxes before a box in text order, and those behind it
record Around (g : Grove) (p : Spot) : Type 0 where
  before : List Spot
  behind : List Spot
  is : spots_in_order g ≡ before ++ p ∷ behind
  precede : AllByRecursion (λ x. Precedes (keys_in_order g) x p.node) (keys_of_spots before)
  follow : AllByRecursion (λ x. Precedes (keys_in_order g) p.node x) (keys_of_spots behind)
  others_before : AreOther p.node (keys_of_spots before)
  others_behind : AreOther p.node (keys_of_spots behind)
  live : IsSome (get g.nodes p.node)

around : (g : Grove) → IsForest (get g.nodes) (get g.boards) g.root → (p : Spot) (i : ℕ) → slice_get (spots_in_order g) i ≡ Some p → Around g p
around g F p i at =
    let S = split (spots_in_order g) i p at in
    let us = keys_of_spots S.before in
    let vs = keys_of_spots S.behind in
    let keys : keys_in_order g ≡ us ++ p.node ∷ vs = ap keys_of_spots S.is ∙ map-append (λ (q : Spot). q.node) S.before (p ∷ S.behind) in
    let all = keys_in_order g in
    let lower = subst (λ ks. AllByRecursion (λ x. Precedes ks x p.node) us) (sym keys) (precede us vs p.node) in
    let upper = subst (λ ks. AllByRecursion (λ x. Precedes ks p.node x) vs) (sym keys) (follow us vs p.node) in
    let alive = spots_live (get g.nodes) (get g.boards) 257 true (keys_in (get g.boards g.root)) in
    record {
      before = S.before;
      behind = S.behind;
      is = S.is;
      precede = lower;
      follow = upper;
      others_before = all_map (λ x. Precedes all x p.node) (λ x. x ≢ p.node) us (λ x P e. never_twice g F p.node (subst (λ y. Precedes all y p.node) e P)) lower;
      others_behind = all_map (λ x. Precedes all p.node x) (λ x. x ≢ p.node) vs (λ x P e. never_twice g F p.node (subst (λ y. Precedes all p.node y) e P)) upper;
      live = all_at (λ k. IsSome (get g.nodes k)) (us ++ p.node ∷ vs) (length us) p.node (at_right us (p.node ∷ vs) 0 (length us) p.node (omega arith) refl)
          (subst (λ ks. AllByRecursion (λ k. IsSome (get g.nodes k)) ks) keys alive);
    }

-- the owners of a name around the place of a box: those before it and those behind it
record Sides (table : Names) (file : List ℕ) (g : Grove) (class : Class) (name : ℕ) (p : Spot) : Type 0 where
  before : List ℕ
  behind : List ℕ
  with : is_owned class name (owned_at table (get g.nodes) p) ≡ true → owners_in table file g class name ≡ before ++ p.node ∷ behind
  lacks : is_owned class name (owned_at table (get g.nodes) p) ≡ false → owners_in table file g class name ≡ before ++ behind
  ahead : AllByRecursion (IsAhead g p.node) before
  follow : AllByRecursion (λ x. Precedes (keys_in_order g) p.node x) behind
  others_before : AreOther p.node before
  others_behind : AreOther p.node behind

root_all : (P : ℕ → Type 0) (b : Bool) → P root_owner → AllByRecursion P (owner_if b root_owner)
root_all P true h = (h, tt)
root_all P false h = tt

none_live : (o : Option Node) → IsSome o → o ≡ None → ⊥
none_live None h e = absurd (cc)
none_live (Some n) h e = absurd (none-some n (sym e))

sides : (g : Grove) → IsForest (get g.nodes) (get g.boards) g.root → get g.nodes root_owner ≡ None → (p : Spot) (i : ℕ) → slice_get (spots_in_order g) i ≡ Some p
    → (table : Names) (file : List ℕ) (class : Class) (name : ℕ) → Sides table file g class name p
sides g F apart p i at table file class name =
    let A = around g F p i at in
    let test : Spot → Bool = λ q. is_owned class name (owned_at table (get g.nodes) q) in
    let root = root_owning table file class name in
    let us = keys_of_spots (filter test A.before) in
    let vs = keys_of_spots (filter test A.behind) in
    let owners : owners_in table file g class name ≡ root ++ keys_of_spots (filter test A.before ++ filter test (p ∷ A.behind)) =
    (ap (λ ps. root ++ keys_of_spots (filter test ps)) A.is ∙ ap (λ ps. root ++ keys_of_spots ps) (filter-append test A.before (p ∷ A.behind))) in
    let parted : (ps : List Spot) → root ++ keys_of_spots (filter test A.before ++ ps) ≡ (root ++ us) ++ keys_of_spots ps =
    (λ ps. ap (λ ks. root ++ ks) (map-append (λ (q : Spot). q.node) (filter test A.before) ps) ∙ sym (append_assoc root us (keys_of_spots ps))) in
    let other_root : root_owner ≢ p.node = (λ e. none_live (get g.nodes p.node) A.live (ap (get g.nodes) (sym e) ∙ apart)) in
    let is_root : Bool = is_owned class name (owned Receiver (canvas_symbol table file)) in
    record {
      before = root ++ us;
      behind = vs;
      with = λ h. owners ∙ ap (λ b. root ++ keys_of_spots (filter test A.before ++ cond b (p ∷ filter test A.behind) (filter test A.behind))) h ∙ parted (p ∷ filter test A.behind);
      lacks = λ h. owners ∙ ap (λ b. root ++ keys_of_spots (filter test A.before ++ cond b (p ∷ filter test A.behind) (filter test A.behind))) h ∙ parted (filter test A.behind);
      ahead = all_append (IsAhead g p.node) root us (root_all (IsAhead g p.node) is_root (inl apart))
          (kept_all (IsAhead g p.node) test A.before (all_map (λ x. Precedes (keys_in_order g) x p.node) (IsAhead g p.node) (keys_of_spots A.before) (λ x P. inr P) A.precede));
      follow = kept_all (λ x. Precedes (keys_in_order g) p.node x) test A.behind A.follow;
      others_before = all_append (λ x. x ≢ p.node) root us (root_all (λ x. x ≢ p.node) is_root other_root) (kept_all (λ x. x ≢ p.node) test A.before A.others_before);
      others_behind = kept_all (λ x. x ≢ p.node) test A.behind A.others_behind;
    }

-- after a box is bound where its name's owners come before it and behind it, only the boxes that were away beside it are away
pub box_bound : (g : Grove) → IsForest (get g.nodes) (get g.boards) g.root → get g.nodes root_owner ≡ None → (p : Spot) → ((i : ℕ) × (slice_get (spots_in_order g) i ≡ Some p))
    → (table : Names) (file away : List ℕ) (class : Class) (name : ℕ) (old new : List ℕ) (n : ℕ) → is_among away p.node ≡ false
    → old ≡ but (p.node ∷ away) (owners_in table file g class name)
    → (is_owned class name (owned_at table (get g.nodes) p) ≡ false → new ≡ old)
    → (is_owned class name (owned_at table (get g.nodes) p) ≡ true → new ≡ insert old n p.node)
    → (is_owned class name (owned_at table (get g.nodes) p) ≡ true → (before behind : List ℕ) → old ≡ before ++ behind → AllByRecursion (IsAhead g p.node) before
    → AllByRecursion (λ x. Precedes (keys_in_order g) p.node x) behind → n ≡ length before)
    → new ≡ but away (owners_in table file g class name)
box_bound g F apart p at table file away class name old new n h was lacks owns place = by (is_owned class name (owned_at table (get g.nodes) p)) refl
  where
    S : Sides table file g class name p
    S = sides g F apart p at.0 at.1 table file class name

    by : (b : Bool) → is_owned class name (owned_at table (get g.nodes) p) ≡ b → new ≡ but away (owners_in table file g class name)
    by true e =
        let all = S.with e in
        owns e
        ∙ bound_at away p.node S.before S.behind old n S.others_before S.others_behind h (was ∙ ap (but (p.node ∷ away)) all)
        (λ parts. place e (but away S.before) (but away S.behind) parts (but_all (IsAhead g p.node) away S.before S.ahead) (but_all (λ x. Precedes (keys_in_order g) p.node x) away S.behind S.follow))
        ∙ ap (but away) (sym all)
    by false e =
        let all = S.lacks e in
        lacks e ∙ was ∙ ap (but (p.node ∷ away)) all
        ∙ but_other away p.node (S.before ++ S.behind) (all_append (λ x. x ≢ p.node) S.before S.behind S.others_before S.others_behind) ∙ ap (but away) (sym all)

-- after a box is unbound it is away too
pub box_unbound : (g : Grove) → IsForest (get g.nodes) (get g.boards) g.root → get g.nodes root_owner ≡ None → (p : Spot) → ((i : ℕ) × (slice_get (spots_in_order g) i ≡ Some p))
    → (table : Names) (file away : List ℕ) (class : Class) (name : ℕ) (old new : List ℕ)
    → old ≡ but away (owners_in table file g class name)
    → (is_owned class name (owned_at table (get g.nodes) p) ≡ false → new ≡ old)
    → (is_owned class name (owned_at table (get g.nodes) p) ≡ true → new ≡ without p.node old)
    → new ≡ but (p.node ∷ away) (owners_in table file g class name)
box_unbound g F apart p at table file away class name old new was lacks owns = by (is_owned class name (owned_at table (get g.nodes) p)) refl
  where
    S : Sides table file g class name p
    S = sides g F apart p at.0 at.1 table file class name

    by : (b : Bool) → is_owned class name (owned_at table (get g.nodes) p) ≡ b → new ≡ but (p.node ∷ away) (owners_in table file g class name)
    by true e =
        let all = S.with e in
        owns e ∙ unbound_at away p.node S.before S.behind old S.others_before S.others_behind (was ∙ ap (but away) all) ∙ ap (but (p.node ∷ away)) (sym all)
    by false e =
        let all = S.lacks e in
        lacks e ∙ was ∙ ap (but away) all
        ∙ sym (but_other away p.node (S.before ++ S.behind) (all_append (λ x. x ≢ p.node) S.before S.behind S.others_before S.others_behind)) ∙ ap (but (p.node ∷ away)) (sym all)

-- what is so of the name that is owned
pub moved : (f g : Class → ℕ → List ℕ) (class c : Class) (name n : ℕ) → class ≡ c → name ≡ n → f c n ≡ g c n → f class name ≡ g class name
moved f g class c name n e h q = subst (λ y. f y name ≡ g y name) (sym e) (subst (λ y. f c y ≡ g c y) (sym h) q)

-- no box stands where none lives
pub never_dead : (g : Grove) (i k : ℕ) → slice_get (keys_in_order g) i ≡ Some k → get g.nodes k ≡ None → ⊥
never_dead g i k at dead =
    none_live (get g.nodes k)
    (all_at (λ x. IsSome (get g.nodes x)) (keys_in_order g) i k at (spots_live (get g.nodes) (get g.boards) 257 true (keys_in (get g.boards g.root)))) dead

pub ok_then : {T E P : Type 0} (r : Result T E) → IsOk r → OnOk r P → P
ok_then (Ok x) h p = p
ok_then (Err e) h p = absurd (false≢true h)
