-- The atoms of tokens, one after the other.
use Rattle.std.proofs.Common.{◌≡◌, List, [], ◌∷◌, ◌++◌, refl, sym, ap, ◌∙◌, Option, Some, None, append_assoc, ℕ, ◌<◌, length, length-append, arith}
use Rattle.std.proofs.lemmas.List.{append-nil}
use Rattle.pd_atom.specs.Names.{Names, Extends}
use Rattle.pd_atom.specs.declared.Atom.{Atom}
use Rattle.pd_atom.specs.Atoms.{IsOf}
use Rattle.pd_atom.specs.declared.Atom.TheVariants.{Number, Symbol, Dollar, DollarSymbol, Comma, Semi}
use Rattle.pd_script.specs.Tables.{AreOf, DocumentOf}
use Rattle.pd_script.specs.Options.{◌>>=◌}
use Rattle.pd_script.specs.Atoms.{atom_of, atoms_of}

-- a table goes on where it ends
pub extends_same : (names : Names) → Extends names names
extends_same names = ([], sym (append-nil names))

pub extends_on : (a b c : Names) → Extends a b → Extends b c → Extends a c
extends_on a b c f g = (f.0 ++ g.0, g.1 ∙ ap (λ x. x ++ g.0) f.1 ∙ append_assoc a f.0 g.0)

pub below_extended : (old new : Names) (s : ℕ) → Extends old new → s < length old → s < length new
below_extended old new s e h = omega (arith, ap length e.1, length-append old e.0)

pub document_extended : (old new : Names) (d : Option ℕ) → Extends old new → DocumentOf old d → DocumentOf new d
document_extended old new None e h = tt
document_extended old new (Some s) e h = below_extended old new s e h

of_extended : (old new : Names) (a : Atom) → Extends old new → IsOf old a → IsOf new a
of_extended old new (Number z) e h = tt
of_extended old new (Symbol s) e h = below_extended old new s e h
of_extended old new (Dollar n) e h = h
of_extended old new (DollarSymbol s) e h = below_extended old new s e h
of_extended old new Comma e h = tt
of_extended old new Semi e h = tt

pub are_of_more : (old new : Names) (front : List Atom) (a : Atom) → Extends old new → AreOf old front → IsOf new a → AreOf new (front ++ a ∷ [])
are_of_more old new [] a e h k = (k, tt)
are_of_more old new (b ∷ front) a e h k = (of_extended old new b e h.0, are_of_more old new front a e h.1 k)

pub ruleset names_go_on = (extends_same, extends_on, below_extended, document_extended)

-- the atoms so far, and then those that reading gives
abbrev pub with_front : List Atom → Option (List Atom × Names) → Option (List Atom × Names)
with_front front r = r >>= (λ x. Some (front ++ x.0, x.1))

front_moves : (front : List Atom) (a : Atom) (r : Option (List Atom × Names)) →
    with_front front (r >>= (λ rest. Some (a ∷ rest.0, rest.1))) ≡ with_front (front ++ a ∷ []) r
front_moves front a (Some x) = ap (λ l. Some (l, x.1)) (sym (append_assoc front (a ∷ []) x.0))
front_moves front a None = refl

pub atoms_more : (names names' : Names) (front : List Atom) (t : List ℕ) (ts : List (List ℕ)) (a : Atom) (whole : Option (List Atom × Names)) →
    atom_of names t ≡ Some (a, names') → with_front front (atoms_of names (t ∷ ts)) ≡ whole →
    with_front (front ++ a ∷ []) (atoms_of names' ts) ≡ whole
unfolding atoms_of
atoms_more names names' front t ts a whole h w =
    sym (ap (λ r. with_front front (r >>= (λ b. atoms_of b.1 ts >>= (λ rest. Some (b.0 ∷ rest.0, rest.1))))) h ∙ front_moves front a (atoms_of names' ts)) ∙ w

pub atoms_stop : (names : Names) (front : List Atom) (t : List ℕ) (ts : List (List ℕ)) (whole : Option (List Atom × Names)) →
    atom_of names t ≡ None → with_front front (atoms_of names (t ∷ ts)) ≡ whole → whole ≡ None
unfolding atoms_of
atoms_stop names front t ts whole h w =
    sym w ∙ ap (λ r. with_front front (r >>= (λ b. atoms_of b.1 ts >>= (λ rest. Some (b.0 ∷ rest.0, rest.1))))) h

pub atoms_end : (names : Names) (front : List Atom) (whole : Option (List Atom × Names)) → with_front front (atoms_of names []) ≡ whole → whole ≡ Some (front, names)
unfolding atoms_of
atoms_end names front whole w = sym w ∙ ap (λ l. Some (l, names)) (append-nil front)

same : (r : Option (List Atom × Names)) → with_front [] r ≡ r
same (Some x) = refl
same None = refl

pub atoms_start : (names : Names) (ts : List (List ℕ)) → with_front [] (atoms_of names ts) ≡ atoms_of names ts
atoms_start names ts = same (atoms_of names ts)
