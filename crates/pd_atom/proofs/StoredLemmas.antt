-- The names of a table as the keys of a set.
use Rattle.std.proofs.Common.{◌≡◌, ◌≢◌, ℕ, zero, suc, not, ◌+◌, ◌<◌, ◌||◌, List, [], ◌∷◌, ◌++◌, length, take, get_or, Bool, false, cond, nat_lt, position, bytes_eq, Some, None, refl, sym, ◌∙◌, ap, arith}
use Rattle.std.specs.List.{position_or_len, list_any}
use Rattle.std.proofs.lemmas.List.{get_or-map, get_or-take, length-map, length-take, map-append}
use Rattle.arrayvec.specs.ArrayVec.{ArrayVec}
use Rattle.indexmap.specs.IndexSet.{insert_key}
use Rattle.pd_atom.specs.Names.{Names, name_of, AreDistinct, AreShort, longest}
use Rattle.pd_atom.specs.Stored.{bytes_of}
use Rattle.pd_atom.proofs.NameLemmas.{bytes_other, absent_at, position_none}

-- whether two keys are the same name
abbrev pub same_key : ArrayVec ℕ → ArrayVec ℕ → Bool
same_key a b = bytes_eq a.items b.items

-- the name at a place is that of the key there
pub name_at : (ks : List (ArrayVec ℕ)) (i : ℕ) (k : ArrayVec ℕ) → i < length ks → k ≡ get_or ks i k → name_of (bytes_of ks) i ≡ k.items
name_at ks i k low is = get_or-map (λ v. v.items) ks i k [] low ∙ ap (λ v. v.items) (sym is)

pub position_or_len-bytes_of : (key : ArrayVec ℕ) (ks : List (ArrayVec ℕ)) → position_or_len (same_key key) ks ≡ position_or_len (bytes_eq key.items) (bytes_of ks)
position_or_len-bytes_of key [] = refl
position_or_len-bytes_of key (k ∷ ks) = ap (λ n. cond (not (same_key key k)) (1 + n) 0) (position_or_len-bytes_of key ks)

-- a key has the place of its name
pub position-bytes_of : (key : ArrayVec ℕ) (ks : List (ArrayVec ℕ)) → position (same_key key) ks ≡ position (bytes_eq key.items) (bytes_of ks)
position-bytes_of key ks =
    ap (λ i. cond (nat_lt i (length ks)) (Some i) None) (position_or_len-bytes_of key ks)
    ∙ ap (λ n. cond (nat_lt (position_or_len (bytes_eq key.items) (bytes_of ks)) n) (Some (position_or_len (bytes_eq key.items) (bytes_of ks))) None) (sym (length-map ks (λ v. v.items)))

-- a name that is too long has no place
pub position-long : (names : Names) (name : List ℕ) → AreShort names → longest < length name → position (bytes_eq name) names ≡ None
position-long names name short long =
    position_none names name (λ k low e. let len : length (name_of names k) ≡ length name = ap length e in absurd (omega (arith, len, long, (short k low).1)))

pub lacks : (key : ArrayVec ℕ) (ks : List (ArrayVec ℕ)) → ((k : ℕ) → k < length (bytes_of ks) → name_of (bytes_of ks) k ≢ key.items) → list_any (same_key key) ks ≡ false
lacks key [] h = refl
lacks key (k ∷ ks) h =
    ap (λ b. b || list_any (same_key key) ks) (bytes_other key.items k.items (λ e. h zero (omega arith) (sym e)))
    ∙ lacks key ks (λ i low. h (suc i) (omega (arith, low)))

-- a new key goes last
pub insert_key-new : (key : ArrayVec ℕ) (ks : List (ArrayVec ℕ)) → position (bytes_eq key.items) (bytes_of ks) ≡ None → bytes_of (insert_key same_key ks key) ≡ bytes_of ks ++ key.items ∷ []
insert_key-new key ks none =
    ap (λ b. bytes_of (cond b ks (ks ++ key ∷ []))) (lacks key ks (absent_at (bytes_of ks) key.items none))
    ∙ map-append (λ v. v.items) ks (key ∷ [])

-- of distinct names each is none of those before it
pub position-before : (names : Names) (i : ℕ) → AreDistinct names → i < length names → position (bytes_eq (name_of names i)) (take i names) ≡ None
position-before names i distinct low =
    let len = length-take i names in
    position_none (take i names) (name_of names i) (λ k below e.
    let low' : k < i = omega (arith, below, len) in
    distinct k i low' low (sym (get_or-take i names k [] low') ∙ e))
