-- The fields of records.
use Rattle.std.specs.Prelude.{ℕ, ◌/◌, ◌%◌, ℤ, pos, negsuc, Bool, false, ◌&&◌, ◌||◌, ◌==◌, not, List, [], ◌∷◌, Option, Some, None, is_some, option_map, Result, Ok, Err, ok_or, if◌then◌else◌, nat_le, bytes_eq}
use Rattle.pd_lex.specs.Text.{Piece}
use Rattle.pd_atom.specs.Names.{Names}
use Rattle.pd_atom.specs.Tokens.{atom_read}
use Rattle.pd_atom.specs.declared.Atom.{Atom}
use Rattle.pd_atom.specs.declared.Atom.TheVariants.{Number}
use Rattle.pd_canvas.specs.Arrays.{size_of}
use Rattle.pd_canvas.specs.declared.wires.Wire.{Wire}
use Rattle.pd_doc.specs.declared.refusal.DocRefusal.{DocRefusal}
use Rattle.pd_doc.specs.declared.refusal.DocRefusal.TheVariants.{BadRecord, TooLong}
use Rattle.pd_doc.specs.Pieces.{bytes_of, is_long, number_of}
use Rattle.pd_doc.specs.Results.{◌>>=◌, outcome_in}

-- the atom of a token's bytes, of which there is at least one, and the names after it
abbrev pub atom_from : ℕ → Names → List ℕ → Result (Atom × Names) DocRefusal
atom_from n names [] = Err (BadRecord n)
atom_from n names (b ∷ bs) = outcome_in n (atom_read names (b ∷ bs))

unfoldable pub atom_of : ℕ → Names → Piece → Result (Atom × Names) DocRefusal
atom_of n names p = if is_long p then Err (TooLong n) else atom_from n names (bytes_of p)

-- the atoms of tokens, and the names after them
unfoldable pub atoms_of : ℕ → Names → List Piece → Result (List Atom × Names) DocRefusal
atoms_of n names [] = Ok ([], names)
atoms_of n names (p ∷ ps) = atom_of n names p >>= (λ a. atoms_of n a.1 ps >>= (λ rest. Ok (a.0 ∷ rest.0, rest.1)))

-- two numbers in the record n
abbrev pub both_in : ℕ → Option ℤ → Option ℤ → Result (ℤ × ℤ) DocRefusal
both_in n (Some x) (Some y) = Ok (x, y)
both_in n (Some x) None = Err (BadRecord n)
both_in n None y = Err (BadRecord n)

-- the position that the first two tokens give
abbrev pub position_of : ℕ → List Piece → Result (ℤ × ℤ) DocRefusal
position_of n [] = Err (BadRecord n)
position_of n (p ∷ []) = Err (BadRecord n)
position_of n (p ∷ q ∷ ps) = both_in n (number_of p) (number_of q)

-- the size that the second token of an array's text gives
abbrev pub size_in : List Piece → Option ℕ
size_in [] = None
size_in (p ∷ []) = None
size_in (p ∷ q ∷ ps) = option_map (λ z. size_of (Number z)) (number_of q)

-- the token reads as a symbol, a dollar or a dollar symbol
abbrev pub is_name : Piece → Bool
is_name p = not (bytes_eq (bytes_of p) (44 ∷ []) || bytes_eq (bytes_of p) (59 ∷ []) || is_some (number_of p))

abbrev pub starts_with_name : List Piece → Bool
starts_with_name [] = false
starts_with_name (p ∷ ps) = is_name p

-- the size of the array with this text
abbrev pub array_size : ℕ → List Piece → Result ℕ DocRefusal
array_size n ps = if starts_with_name ps then ok_or (size_in ps) (BadRecord n) else Err (BadRecord n)

-- a whole number from 0 to 65,535
abbrev pub whole_from : Option ℤ → Option ℕ
whole_from None = None
whole_from (Some (negsuc m)) = None
whole_from (Some (pos m)) = if m % 1000000 == 0 && nat_le (m / 1000000) 65535 then Some (m / 1000000) else None

abbrev pub whole_of : Piece → Option ℕ
whole_of p = whole_from (number_of p)

abbrev pub wire_from : Option ℕ → Option ℕ → Option ℕ → Option ℕ → Option Wire
wire_from (Some s) (Some o) (Some d) (Some i) = Some (record { source = s; outlet = o; sink = d; inlet = i })
wire_from (Some s) (Some o) (Some d) None = None
wire_from (Some s) (Some o) None i = None
wire_from (Some s) None d i = None
wire_from None o d i = None

-- the wire that exactly four tokens give
abbrev pub wire_of : List Piece → Option Wire
wire_of [] = None
wire_of (s ∷ []) = None
wire_of (s ∷ o ∷ []) = None
wire_of (s ∷ o ∷ d ∷ []) = None
wire_of (s ∷ o ∷ d ∷ i ∷ []) = wire_from (whole_of s) (whole_of o) (whole_of d) (whole_of i)
wire_of (s ∷ o ∷ d ∷ i ∷ j ∷ ps) = None
