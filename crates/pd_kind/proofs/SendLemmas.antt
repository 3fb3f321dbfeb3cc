-- Rows over one list of atoms.
use Rattle.std.proofs.Common.{◌≡◌, ℕ, ◌+◌, ◌-◌, ◌≤◌, Bool, true, ◌&&◌, nat_le, List, [], ◌∷◌, ◌++◌, length, map, take, drop, slice_range, refl, ◌∙◌, ap, arith}
use Rattle.std.proofs.lemmas.Bool.{and_parts, leb-true, le-leb}
use Rattle.std.proofs.lemmas.List.{map-append, take-append-le, drop-append-le, take_all, length-drop}
use Rattle.std.proofs.lemmas.List.Folds.{list_all-append}
use Rattle.std.proofs.Math.Seq.{drop-append_seam}
use Rattle.pd_atom.specs.declared.Atom.{Atom}
use Rattle.pd_kind.specs.declared.messages.Target.{Target}
use Rattle.pd_kind.specs.declared.sends.SendRow.{SendRow}
use Rattle.pd_kind.specs.Rows.{send_of, are_within}

abbrev row_within : ℕ → SendRow → Bool
row_within n row = nat_le row.first row.after && nat_le row.after n

pub within_more : (rows : List SendRow) (n m : ℕ) → n ≤ m → are_within n rows ≡ true → are_within m rows ≡ true
within_more [] n m l h = refl
within_more (r ∷ rows) n m l h =
    let parts : (row_within n r ≡ true) × (are_within n rows ≡ true) = and_parts (row_within n r) (are_within n rows) h in
    let bounds : (nat_le r.first r.after ≡ true) × (nat_le r.after n ≡ true) = and_parts (nat_le r.first r.after) (nat_le r.after n) parts.0 in
    let below : r.after ≤ n = leb-true r.after n bounds.1 in
    rw (bounds.0, le-leb r.after m (omega arith), within_more rows n m l parts.1) refl

-- an added row is among the atoms
pub within_one : (rows : List SendRow) (n : ℕ) (r : SendRow) → r.first ≤ r.after → r.after ≤ n → are_within n rows ≡ true → are_within n (rows ++ r ∷ []) ≡ true
within_one rows n r order below h =
    list_all-append (row_within n) rows (r ∷ []) ∙ rw (h, le-leb r.first r.after order, le-leb r.after n below) refl

range_more : (xs ys : List Atom) (a b : ℕ) → a ≤ b → b ≤ length xs → slice_range (xs ++ ys) a b ≡ slice_range xs a b
range_more xs ys a b order below =
    ap (take (b - a)) (drop-append-le a xs ys (omega arith)) ∙ take-append-le (b - a) (drop a xs) ys (let l : length (drop a xs) ≡ length xs - a = length-drop a xs in omega arith)

pub sends_more : (rows : List SendRow) (xs ys : List Atom) → are_within (length xs) rows ≡ true → map (send_of (xs ++ ys)) rows ≡ map (send_of xs) rows
sends_more [] xs ys h = refl
sends_more (r ∷ rows) xs ys h =
    let parts : (row_within (length xs) r ≡ true) × (are_within (length xs) rows ≡ true) = and_parts (row_within (length xs) r) (are_within (length xs) rows) h in
    let bounds : (nat_le r.first r.after ≡ true) × (nat_le r.after (length xs) ≡ true) = and_parts (nat_le r.first r.after) (nat_le r.after (length xs)) parts.0 in
    let same : slice_range (xs ++ ys) r.first r.after ≡ slice_range xs r.first r.after = range_more xs ys r.first r.after (leb-true r.first r.after bounds.0) (leb-true r.after (length xs) bounds.1) in
    rw (same, sends_more rows xs ys parts.1) refl

-- the added atoms are those of the last row
pub range_last : (xs ys : List Atom) (a b : ℕ) → a ≡ length xs → b ≡ length xs + length ys → slice_range (xs ++ ys) a b ≡ ys
range_last xs ys a b ea eb =
    let e : b - a ≡ length ys = omega arith in
    rw (e, ea) (ap (take (length ys)) (drop-append_seam xs ys) ∙ take_all (length ys) ys (omega arith))

pub send_last : (rows : List SendRow) (xs ys : List Atom) (r : SendRow) (target : Target) (selector : ℕ) → r.target ≡ target → r.selector ≡ selector → r.first ≡ length xs → r.after ≡ length xs + length ys → are_within (length xs) rows ≡ true →
    map (send_of (xs ++ ys)) (rows ++ r ∷ []) ≡ map (send_of xs) rows ++ record { target = target; selector = selector; atoms = ys } ∷ []
send_last rows xs ys r target selector et es ef ea h =
    map-append (send_of (xs ++ ys)) rows (r ∷ []) ∙ rw (sends_more rows xs ys h, range_last xs ys r.first r.after ef ea, et, es) refl
