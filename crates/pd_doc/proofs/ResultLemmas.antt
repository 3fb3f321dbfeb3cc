-- What reading gives, in steps.
use Rattle.std.proofs.Common.{◌≡◌, ℕ, ◌+◌, ◌<◌, ◌≤◌, length, map, drop, get_or, drop-cons, add-one, false, List, [], ◌∷◌, ◌++◌, refl, sym, ap, ◌∙◌, Result, Ok, Err, append_assoc}
use Rattle.std.proofs.lemmas.List.{append-nil, drop_all}
use Rattle.pd_lex.specs.Text.{Piece}
use Rattle.pd_atom.specs.Names.{Names, Extends}
use Rattle.pd_atom.specs.declared.Atom.{Atom}
use Rattle.pd_doc.specs.declared.refusal.DocRefusal.{DocRefusal}
use Rattle.pd_doc.specs.declared.refusal.DocRefusal.TheVariants.{BadRecord, DataStructure, TooDeep, TooLong, TooManyBoxes, TooManyWires, SymbolsFull, NoMemory}
use Rattle.pd_doc.specs.Results.{◌>>=◌, Refuses}
use Rattle.pd_doc.specs.Pieces.{piece}
use Rattle.pd_doc.specs.declared.lexemes.Lexeme.{Lexeme}
use Rattle.pd_doc.specs.Fields.{atom_of, atoms_of}

-- a table goes on where it ends
pub extends_same : (names : Names) → Extends names names
extends_same names = ([], sym (append-nil names))

pub extends_on : (a b c : Names) → Extends a b → Extends b c → Extends a c
extends_on a b c f g = (f.0 ++ g.0, g.1 ∙ ap (λ x. x ++ g.0) f.1 ∙ append_assoc a f.0 g.0)

-- what refuses, refuses whatever would come after it
pub refused_then : {A B : Type 0} (e : DocRefusal) (r : Result A DocRefusal) (f : A → Result B DocRefusal) → Refuses e r → Refuses e (r >>= f)
refused_then NoMemory r f h = tt
refused_then (BadRecord n) r f h = ap (λ x. x >>= f) h
refused_then (DataStructure n) r f h = ap (λ x. x >>= f) h
refused_then (TooDeep n) r f h = ap (λ x. x >>= f) h
refused_then (TooLong n) r f h = ap (λ x. x >>= f) h
refused_then (TooManyBoxes n) r f h = ap (λ x. x >>= f) h
refused_then (TooManyWires n) r f h = ap (λ x. x >>= f) h
refused_then (SymbolsFull n) r f h = ap (λ x. x >>= f) h

pub refused_at : {A : Type 0} (e : DocRefusal) (r : Result A DocRefusal) → r ≡ Err e → Refuses e r
refused_at NoMemory r h = tt
refused_at (BadRecord n) r h = h
refused_at (DataStructure n) r h = h
refused_at (TooDeep n) r h = h
refused_at (TooLong n) r h = h
refused_at (TooManyBoxes n) r h = h
refused_at (TooManyWires n) r h = h
refused_at (SymbolsFull n) r h = h

pub ruleset result_steps = (extends_same, extends_on, refused_then, refused_at)

-- the atoms so far, and then those that reading gives
abbrev pub with_front : List Atom → Result (List Atom × Names) DocRefusal → Result (List Atom × Names) DocRefusal
with_front front r = r >>= (λ x. Ok (front ++ x.0, x.1))

front_moves : (front : List Atom) (a : Atom) (r : Result (List Atom × Names) DocRefusal) →
    with_front front (r >>= (λ rest. Ok (a ∷ rest.0, rest.1))) ≡ with_front (front ++ a ∷ []) r
front_moves front a (Ok x) = ap (λ l. Ok (l, x.1)) (sym (append_assoc front (a ∷ []) x.0))
front_moves front a (Err e) = refl

pub atoms_more : (n : ℕ) (names names' : Names) (front : List Atom) (p : Piece) (ps : List Piece) (a : Atom) → atom_of n names p ≡ Ok (a, names') →
    with_front front (atoms_of n names (p ∷ ps)) ≡ with_front (front ++ a ∷ []) (atoms_of n names' ps)
unfolding atoms_of
atoms_more n names names' front p ps a h =
    ap (λ r. with_front front (r >>= (λ b. atoms_of n b.1 ps >>= (λ rest. Ok (b.0 ∷ rest.0, rest.1))))) h
    ∙ front_moves front a (atoms_of n names' ps)

pub atoms_stop : (n : ℕ) (names : Names) (front : List Atom) (p : Piece) (ps : List Piece) (e : DocRefusal) → atom_of n names p ≡ Err e →
    with_front front (atoms_of n names (p ∷ ps)) ≡ Err e
unfolding atoms_of
atoms_stop n names front p ps e h = ap (λ r. with_front front (r >>= (λ b. atoms_of n b.1 ps >>= (λ rest. Ok (b.0 ∷ rest.0, rest.1))))) h

pub atoms_end : (n : ℕ) (names : Names) (front : List Atom) → with_front front (atoms_of n names []) ≡ Ok (front, names)
unfolding atoms_of
atoms_end n names front = ap (λ l. Ok (l, names)) (append-nil front)

abbrev pub Whole : ℕ → List Atom → Names → List Piece → Result (List Atom × Names) DocRefusal → Type 0
Whole n front names ps whole = with_front front (atoms_of n names ps) ≡ whole

pub atoms_go_on : (n : ℕ) (names names' : Names) (front : List Atom) (ls : List Lexeme) (i : ℕ) (l : Lexeme) (a : Atom) (whole : Result (List Atom × Names) DocRefusal) →
    drop i ls ≡ l ∷ drop (i + 1) ls → atom_of n names (piece l) ≡ Ok (a, names') →
    Whole n front names (map piece (drop i ls)) whole → Whole n (front ++ a ∷ []) names' (map piece (drop (i + 1) ls)) whole
atoms_go_on n names names' front ls i l a whole d h w =
    sym (atoms_more n names names' front (piece l) (map piece (drop (i + 1) ls)) a h) ∙ ap (λ x. with_front front (atoms_of n names (map piece x))) (sym d) ∙ w

atoms_refused : (n : ℕ) (names : Names) (front : List Atom) (ls : List Lexeme) (i : ℕ) (l : Lexeme) (e : DocRefusal) (whole : Result (List Atom × Names) DocRefusal) →
    drop i ls ≡ l ∷ drop (i + 1) ls → atom_of n names (piece l) ≡ Err e →
    Whole n front names (map piece (drop i ls)) whole → whole ≡ Err e
atoms_refused n names front ls i l e whole d h w =
    sym w ∙ ap (λ x. with_front front (atoms_of n names (map piece x))) d ∙ atoms_stop n names front (piece l) (map piece (drop (i + 1) ls)) e h

pub atoms_refuse : (n : ℕ) (names : Names) (front : List Atom) (ls : List Lexeme) (i : ℕ) (l : Lexeme) (e : DocRefusal) (whole : Result (List Atom × Names) DocRefusal) →
    drop i ls ≡ l ∷ drop (i + 1) ls → Refuses e (atom_of n names (piece l)) →
    Whole n front names (map piece (drop i ls)) whole → Refuses e whole
atoms_refuse n names front ls i l NoMemory whole d h w = tt
atoms_refuse n names front ls i l (BadRecord k) whole d h w = atoms_refused n names front ls i l (BadRecord k) whole d h w
atoms_refuse n names front ls i l (DataStructure k) whole d h w = atoms_refused n names front ls i l (DataStructure k) whole d h w
atoms_refuse n names front ls i l (TooDeep k) whole d h w = atoms_refused n names front ls i l (TooDeep k) whole d h w
atoms_refuse n names front ls i l (TooLong k) whole d h w = atoms_refused n names front ls i l (TooLong k) whole d h w
atoms_refuse n names front ls i l (TooManyBoxes k) whole d h w = atoms_refused n names front ls i l (TooManyBoxes k) whole d h w
atoms_refuse n names front ls i l (TooManyWires k) whole d h w = atoms_refused n names front ls i l (TooManyWires k) whole d h w
atoms_refuse n names front ls i l (SymbolsFull k) whole d h w = atoms_refused n names front ls i l (SymbolsFull k) whole d h w

pub atoms_all : (n : ℕ) (names : Names) (front : List Atom) (ls : List Lexeme) (i : ℕ) (whole : Result (List Atom × Names) DocRefusal) →
    length ls ≤ i → Whole n front names (map piece (drop i ls)) whole → whole ≡ Ok (front, names)
atoms_all n names front ls i whole h w =
    sym w ∙ ap (λ x. with_front front (atoms_of n names (map piece x))) (drop_all i ls h) ∙ atoms_end n names front

-- a token that nothing is known of
abbrev pub blank : Lexeme
blank = record { raw = record { ref_ptr = (0, 0); now = [] }; bare_comma = false }

pub drop_at : {A : Type 0} (l : List A) (i : ℕ) (d : A) → i < length l → drop i l ≡ get_or l i d ∷ drop (i + 1) l
drop_at l i d h = rw add-one (drop-cons l i d h)
