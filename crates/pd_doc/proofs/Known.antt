-- What the crates below promise, as far as the laws need it, and atoms that are written and read.
use Rattle.std.proofs.Common.{◌≡◌, ℕ, ◌<◌, ◌≤◌, false, List, [], ◌∷◌, length, map, refl, ap, ◌∙◌, arith, ltb, Some, Ok}
use Rattle.std.specs.Prelude.{ℤ}
use Rattle.std.specs.List.{list_any, AllByRecursion}
use Rattle.std.proofs.lemmas.Bool.Decides.{nat_tests}
use Rattle.pd_num.specs.Scale.{millionths, IsInRange}
use Rattle.pd_num.specs.Reading.{number_at}
use Rattle.pd_num.specs.Printing.{printed}
use Rattle.pd_lex.specs.Text.{Piece, AreSpaces, AreUnits, StandsFor, unescaped, escaped}
use Rattle.pd_lex.specs.Reading.{records, rest_of}
use Rattle.pd_atom.specs.Names.{Names, IsTable, given}
use Rattle.pd_atom.specs.Atoms.{IsOf, HoldsNumber, spelled}
use Rattle.pd_atom.specs.Tokens.{atom_read, IsSettled}
use Rattle.pd_atom.specs.declared.Atom.{Atom}
use Rattle.pd_atom.specs.declared.Atom.TheVariants.{Number}
use Rattle.pd_canvas.specs.Proper.{IsReady, AreReady}
use Rattle.pd_doc.specs.Pieces.{is_long, number_of, numbers_of, cons_number}
use Rattle.pd_doc.specs.Results.{◌>>=◌, outcome_in}
use Rattle.pd_doc.specs.Fields.{atom_of, atom_from, atoms_of}
use Rattle.pd_doc.specs.Writing.{atom_piece, atom_pieces}

pub record Known (names : Names) : Type 0 where
  pub table : IsTable names
  pub stands : (text : List ℕ) (rs : List (List Piece)) → StandsFor text rs → records text ≡ rs
  pub spaces : (text : List ℕ) (rs : List (List Piece)) → StandsFor text rs → AreSpaces (rest_of text)
  pub units : (name : List ℕ) → AreUnits (escaped name)
  pub bytes : (name : List ℕ) → unescaped (escaped name) ≡ name
  pub some : (a : Atom) → IsOf names a → HoldsNumber a → 0 < length (spelled names a)
  pub short : (a : Atom) → IsOf names a → HoldsNumber a → length (spelled names a) ≤ 255
  pub holds : (a : Atom) → IsSettled names a → HoldsNumber a
  pub number : (z : ℤ) → IsInRange millionths z → number_at (printed z) ≡ Some z

not_long : (bs : List ℕ) → length bs ≤ 255 → ltb 255 (length bs) ≡ false
not_long bs h = grind (arith, nat_tests)

pub short_piece : (names : Names) → Known names → (a : Atom) → IsOf names a → HoldsNumber a → is_long (atom_piece names a) ≡ false
short_piece names k a o h = ap (λ b. ltb 255 (length b)) (k.bytes (spelled names a)) ∙ not_long (spelled names a) (k.short a o h)

pub number_piece : (names : Names) → Known names → (z : ℤ) → IsInRange millionths z → number_of (atom_piece names (Number z)) ≡ Some z
number_piece names k z h =
    let s = short_piece names k (Number z) tt h in
    rw s (ap number_at (k.bytes (printed z)) ∙ k.number z h)

pub numbers_piece : (names : Names) → Known names → (zs : List ℤ) → AllByRecursion (IsInRange millionths) zs →
    numbers_of (map (λ z. atom_piece names (Number z)) zs) ≡ Some zs
numbers_piece names k [] h = refl
numbers_piece names k (z ∷ zs) h =
    ap (λ o. cons_number o (numbers_of (map (λ z. atom_piece names (Number z)) zs))) (number_piece names k z h.0)
    ∙ ap (cons_number (Some z)) (numbers_piece names k zs h.1)

from_bytes : (n : ℕ) (names : Names) (bs : List ℕ) (a : Atom) → 0 < length bs → atom_read names bs ≡ given a names → atom_from n names bs ≡ Ok (a, names)
from_bytes n names [] a h r = absurd (omega arith)
from_bytes n names (b ∷ bs) a h r = ap (outcome_in n) r

pub atom_back : (names : Names) → Known names → (n : ℕ) (a : Atom) → IsReady names a → atom_of n names (atom_piece names a) ≡ Ok (a, names)
unfolding atom_of
atom_back names k n a h =
    let s = short_piece names k a h.0 (k.holds a h.1) in
    rw s (ap (atom_from n names) (k.bytes (spelled names a)) ∙ from_bytes n names (spelled names a) a (k.some a h.0 (k.holds a h.1)) h.1)

pub atoms_back : (names : Names) → Known names → (n : ℕ) (l : List Atom) → AreReady names l → atoms_of n names (atom_pieces names l) ≡ Ok (l, names)
unfolding atoms_of
atoms_back names k n [] h = refl
atoms_back names k n (a ∷ l) h =
    ap (λ r. r >>= (λ b. atoms_of n b.1 (atom_pieces names l) >>= (λ rest. Ok (b.0 ∷ rest.0, rest.1)))) (atom_back names k n a h.0)
    ∙ ap (λ r. r >>= (λ rest. Ok (a ∷ rest.0, rest.1))) (atoms_back names k n l h.1)

pub short_pieces : (names : Names) → Known names → (l : List Atom) → AreReady names l → list_any is_long (atom_pieces names l) ≡ false
short_pieces names k [] h = refl
short_pieces names k (a ∷ l) h =
    let s = short_piece names k a h.0.0 (k.holds a h.0.1) in
    rw s (short_pieces names k l h.1)

pub short_numbers : (names : Names) → Known names → (zs : List ℤ) → AllByRecursion (IsInRange millionths) zs →
    list_any is_long (map (λ z. atom_piece names (Number z)) zs) ≡ false
short_numbers names k [] h = refl
short_numbers names k (z ∷ zs) h =
    let s = short_piece names k (Number z) tt h.0 in
    rw s (short_numbers names k zs h.1)
