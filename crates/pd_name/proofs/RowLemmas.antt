-- The lists as a map's entries.
use Rattle.std.proofs.Common.{◌≡◌, ℕ, ◌&&◌, Bool, true, false, cond, List, [], ◌∷◌, nat_eq, Option, None, Some, refl, sym, ap, subst, ◌∙◌, eq-eqb, true≢false, ◌+◌, ◌-◌, ◌≤◌, ◌≢◌, is_some, is_ok, insert, if◌then◌else◌, vec_len, vec_capacity, OnOk, OnErr, Result, Ok, Err, arith}
use Rattle.std.specs.Option.{option_map_or}
use Rattle.std.specs.Map.{lookup}
use Rattle.std.specs.declared.vec.Vec.{Vec}
use Rattle.std.specs.declared.alloc.Global.{Global}
use Rattle.std.proofs.lemmas.Bool.{and_parts}
use Rattle.indexmap.specs.IndexMap.{IndexMap, get_by, Updates, WritesThrough}
use borrow.Author.Tests.{eqb-true}
use denote.Enum.Bare.{sameb, same_true, true_same}
use Rattle.pd_name.specs.contracts.Class.{the_type}
use Rattle.pd_name.specs.declared.Class.{Class}
use Rattle.pd_name.specs.declared.Class.TheVariants.{Receiver, Table, Catch, Bus, Delay}
use Rattle.pd_name.specs.declared.lists.Key.{Key}
use Rattle.pd_name.specs.Rows.{Row, same_class, owners_of, spare_of, AllStay, OthersStay, OwnersStay}
use Rattle.pd_name.specs.Stored.{rows_of, room}

-- what `==` of two keys gives
abbrev pub key_eq : Key → Key → Bool
key_eq a b = sameb the_type a.class b.class && nat_eq a.name b.name

abbrev pub Entries : Type 0
Entries = List (Key × Vec ℕ Global)

abbrev pub key : Class → ℕ → Key
key class name = record { class = class; name = name }

same_is : (a b : Class) → sameb the_type a b ≡ same_class a b
same_is Receiver Receiver = refl
same_is Table Table = refl
same_is Catch Catch = refl
same_is Bus Bus = refl
same_is Delay Delay = refl
same_is _ _ = refl

-- equal keys are the same class and name
equal_parts : (k q : Key) → key_eq k q ≡ true → (q.class ≡ k.class) × (q.name ≡ k.name)
equal_parts k q h =
    let parts = and_parts (sameb the_type k.class q.class) (nat_eq k.name q.name) h in
    (sym (same_true the_type tt k.class q.class parts.0), sym (eqb-true k.name q.name parts.1))

by_test : {P : Type 0} (b : Bool) → (b ≡ true → P) → (b ≡ false → P) → P
by_test true f g = f refl
by_test false f g = g refl

differ : (k : Key) (class : Class) (name : ℕ) → ¬ ((class ≡ k.class) × (name ≡ k.name)) → key_eq k (key class name) ≡ false
differ k class name other = by_test (key_eq k (key class name)) (λ e. absurd (other (equal_parts k (key class name) e))) (λ e. e)

picked : {X Y : Type 0} (f : X → Y) (b : Bool) (x : X) (o : Option X) (d rest : Y) → rest ≡ option_map_or f o d → cond b (f x) rest ≡ option_map_or f (cond b (Some x) o) d
picked f true x o d rest h = refl
picked f false x o d rest h = h

abbrev pub items : Vec ℕ Global → List ℕ
items v = v.items

-- what a look-up finds is what the rows say
pub owners_found : (es : Entries) (k : Key) → owners_of (rows_of es) k.class k.name ≡ option_map_or items (lookup (key_eq k) es) []
owners_found [] k = refl
owners_found (e ∷ es) k =
    ap (λ b. cond (b && nat_eq k.name e.0.name) e.1.items (owners_of (rows_of es) k.class k.name)) (sym (same_is k.class e.0.class))
    ∙ picked items (key_eq k e.0) e.1 (lookup (key_eq k) es) [] (owners_of (rows_of es) k.class k.name) (owners_found es k)

pub spare_found : (es : Entries) (k : Key) → spare_of (rows_of es) k.class k.name ≡ option_map_or room (lookup (key_eq k) es) 0
spare_found [] k = refl
spare_found (e ∷ es) k =
    ap (λ b. cond (b && nat_eq k.name e.0.name) (room e.1) (spare_of (rows_of es) k.class k.name)) (sym (same_is k.class e.0.class))
    ∙ picked room (key_eq k e.0) e.1 (lookup (key_eq k) es) 0 (spare_of (rows_of es) k.class k.name) (spare_found es k)

pub owners_at : (es : Entries) (k : Key) (o : Option (Vec ℕ Global)) → lookup (key_eq k) es ≡ o → owners_of (rows_of es) k.class k.name ≡ option_map_or items o []
owners_at es k o e = owners_found es k ∙ ap (λ p. option_map_or items p []) e

pub spare_at : (es : Entries) (k : Key) (o : Option (Vec ℕ Global)) → lookup (key_eq k) es ≡ o → spare_of (rows_of es) k.class k.name ≡ option_map_or room o 0
spare_at es k o e = spare_found es k ∙ ap (λ p. option_map_or room p 0) e

-- a change at one key leaves the other lists
pub others_kept : (old new : Entries) (k : Key) → ((q : Key) → key_eq k q ≡ false → lookup (key_eq q) new ≡ lookup (key_eq q) old)
    → OthersStay (rows_of old) (rows_of new) k.class k.name
others_kept old new k same = record {
  owners = λ class name other. owners_at new (key class name) (lookup (key_eq (key class name)) old) (same (key class name) (differ k class name other))
      ∙ sym (owners_found old (key class name));
  spare = λ class name other. spare_at new (key class name) (lookup (key_eq (key class name)) old) (same (key class name) (differ k class name other))
      ∙ sym (spare_found old (key class name));
}

same_key : (k q : Key) → q.class ≡ k.class → q.name ≡ k.name → key_eq k q ≡ true
same_key k q c n = ap (λ b. b && nat_eq k.name q.name) (true_same the_type k.class q.class (sym c)) ∙ eq-eqb k.name q.name (sym n)

-- what is the same at a key and everywhere else is the same everywhere
pub kept : {X : Type 0} (f g : Class → ℕ → X) (k : Key) → ((class : Class) (name : ℕ) → ¬ ((class ≡ k.class) × (name ≡ k.name)) → f class name ≡ g class name)
    → f k.class k.name ≡ g k.class k.name → (class : Class) (name : ℕ) → f class name ≡ g class name
kept {X} f g k others this class name =
    by_test (key_eq k (key class name))
    (λ e.
    let same = equal_parts k (key class name) e in
    let P : Class → ℕ → Type 0 = λ c n. f c n ≡ g c n in
    let at : P class k.name = subst (λ c. P c k.name) (sym same.0) this in
    subst (λ n. P class n) (sym same.1) at)
    (λ e. others class name (λ same. true≢false (sym (same_key k (key class name) same.0 same.1) ∙ e)))

pub all_kept : (old new : List Row) (k : Key) → OthersStay old new k.class k.name
    → owners_of new k.class k.name ≡ owners_of old k.class k.name → spare_of new k.class k.name ≡ spare_of old k.class k.name → AllStay old new
all_kept old new k others owners spare = record {
  owners = kept (owners_of new) (owners_of old) k others.owners owners;
  spare = kept (spare_of new) (spare_of old) k others.spare spare;
}

pub unchanged : (old new : Entries) → new ≡ old → AllStay (rows_of old) (rows_of new)
unchanged old new e = record {
  owners = λ class name. ap (λ es. owners_of (rows_of es) class name) e;
  spare = λ class name. ap (λ es. spare_of (rows_of es) class name) e;
}

-- the entries have this list at the key, and the others are as they were
pub record Puts (old new : Entries) (k : Key) (w : Vec ℕ Global) : Type 0 where
  pub this : lookup (key_eq k) new ≡ Some w
  pub others : (q : Key) → key_eq k q ≡ false → lookup (key_eq q) new ≡ lookup (key_eq q) old

pub written : {S : Type 0} (m n : IndexMap Key (Vec ℕ Global) S) (k : Key) (v w : Vec ℕ Global) → Some v ≡ get_by (key_eq k) m → WritesThrough key_eq (key_eq k) m w n
    → Puts m.entries n.entries k w
written m n k v w there h = let u = h.3 (ap is_some (sym there)) in record { this = u.1; others = u.2 }

pub inserted : {S : Type 0} (m m' n : IndexMap Key (Vec ℕ Global) S) (k : Key) (w : Vec ℕ Global) → m' ≡ m → Updates key_eq m' n k (Some w) → Puts m.entries n.entries k w
inserted m m' n k w e u = record { this = u.1; others = λ q other. u.2 q other ∙ ap (λ l. lookup (key_eq q) l.entries) e }

pub puts_owners : (old new : Entries) (k : Key) (w : Vec ℕ Global) → Puts old new k w → owners_of (rows_of new) k.class k.name ≡ w.items
puts_owners old new k w p = owners_at new k (Some w) p.this

pub puts_spare : (old new : Entries) (k : Key) (w : Vec ℕ Global) → Puts old new k w → spare_of (rows_of new) k.class k.name ≡ room w
puts_spare old new k w p = spare_at new k (Some w) p.this

pub puts_others : (old new : Entries) (k : Key) (w : Vec ℕ Global) → Puts old new k w → OthersStay (rows_of old) (rows_of new) k.class k.name
puts_others old new k w p = others_kept old new k p.others

-- a list that stays at its key leaves all lists
pub puts_same : (old new : Entries) (k : Key) (v w : Vec ℕ Global) → Puts old new k w → lookup (key_eq k) old ≡ Some v → w.items ≡ v.items → OwnersStay (rows_of old) (rows_of new)
puts_same old new k v w p there items =
    kept (owners_of (rows_of new)) (owners_of (rows_of old)) k (puts_others old new k w p).owners (puts_owners old new k w p ∙ items ∙ sym (owners_at old k (Some v) there))

pub puts_all : (old new : Entries) (k : Key) (v w : Vec ℕ Global) → Puts old new k w → lookup (key_eq k) old ≡ Some v → w.items ≡ v.items → room w ≡ room v
    → AllStay (rows_of old) (rows_of new)
puts_all old new k v w p there items spare =
    all_kept (rows_of old) (rows_of new) k (puts_others old new k w p)
    (puts_owners old new k w p ∙ items ∙ sym (owners_at old k (Some v) there))
    (puts_spare old new k w p ∙ spare ∙ sym (spare_at old k (Some v) there))

-- a new list without owners leaves all lists
pub puts_empty : (old new : Entries) (k : Key) (w : Vec ℕ Global) → Puts old new k w → lookup (key_eq k) old ≡ None → w.items ≡ [] → OwnersStay (rows_of old) (rows_of new)
puts_empty old new k w p absent items =
    kept (owners_of (rows_of new)) (owners_of (rows_of old)) k (puts_others old new k w p).owners (puts_owners old new k w p ∙ items ∙ sym (owners_at old k None absent))

pub along : (P : ℕ → ℕ → Type 0) (a a' b b' : ℕ) → a ≡ a' → b ≡ b' → P a' b' → P a b
along P a a' b b' e f h = subst (λ x. P x b) (sym e) (subst (λ y. P a' y) (sym f) h)

pub no_spare : (n m : ℕ) → n ≡ 0 → m ≤ n → m ≢ 0 → ⊥
no_spare n m e h k = omega arith

pub least : (a b : ℕ) → a ≡ 0 → a ≤ b
least a b e = omega arith

pub put_owners : {T E : Type 0} (r : Result T E) (old new v w : List ℕ) (i o : ℕ) → old ≡ v → new ≡ w → w ≡ (if is_ok r then insert v i o else v) → OnOk r (new ≡ insert old i o)
put_owners (Ok x) old new v w i o a b c = b ∙ c ∙ ap (λ xs. insert xs i o) (sym a)
put_owners (Err e) old new v w i o a b c = tt

pub put_err : {T E : Type 0} (r : Result T E) (old new : Entries) (k : Key) (v w : Vec ℕ Global) (i o : ℕ) → Puts old new k w → lookup (key_eq k) old ≡ Some v
    → w.items ≡ (if is_ok r then insert v.items i o else v.items) → OnErr r (room w ≡ room v) → OnErr r (AllStay (rows_of old) (rows_of new))
put_err (Ok x) old new k v w i o p there items spare = tt
put_err (Err e) old new k v w i o p there items spare = puts_all old new k v w p there items spare

pub reserve_err : {T E : Type 0} (r : Result T E) (old new : Entries) (k : Key) (v w : Vec ℕ Global) → Puts old new k w → lookup (key_eq k) old ≡ Some v
    → w.items ≡ v.items → vec_len w ≡ vec_len v → OnErr r (vec_capacity w ≡ vec_capacity v) → OnErr r (AllStay (rows_of old) (rows_of new))
reserve_err (Ok x) old new k v w p there items len spare = tt
reserve_err (Err e) old new k v w p there items len spare = puts_all old new k v w p there items ((λ i. spare i - len i))

pub reserve_room : {T E : Type 0} (r : Result T E) (len cap more spare : ℕ) → spare ≡ cap - len → OnOk r (len + more ≤ cap) → OnOk r (more ≤ spare)
reserve_room (Ok x) len cap more spare e h = omega arith
reserve_room (Err x) len cap more spare e h = tt

pub reserve_spare : (len cap len' cap' : ℕ) → len' ≡ len → cap ≤ cap' → cap - len ≤ cap' - len'
reserve_spare len cap len' cap' e h = omega arith

pub reserve_covers : (len cap more spare : ℕ) → spare ≡ cap - len → more ≢ 0 → more ≤ spare → len + more ≤ cap
reserve_covers len cap more spare e k h = omega arith
