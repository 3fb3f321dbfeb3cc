-- The name of an abstraction is that of its text.
use Rattle.std.proofs.Common.{◌≡◌, ℕ, ◌<◌, Bool, true, false, cond, List, [], ◌∷◌, length, Option, Some, None, refl, sym, subst, arith}
use Rattle.std.specs.List.{All}
use Rattle.std.proofs.lemmas.List.Elements.{All-head}
use Rattle.pd_atom.specs.declared.Atom.{Atom}
use Rattle.pd_atom.specs.declared.Atom.TheVariants as atom
use Rattle.pd_atom.specs.Names.{Names, name_of}
use Rattle.pd_atom.specs.Atoms.{IsOf}
use Rattle.pd_object.specs.declared.kinds.Kind.{Kind}
use Rattle.pd_object.specs.declared.kinds.Named.{Named}
use Rattle.pd_object.specs.declared.kinds.Named.TheVariants as named
use Rattle.pd_object.specs.Ports.{IsSmallNamed}
use Rattle.pd_naming.specs.Naming.{named_by, object_named, kind_or_abstraction, begins_foreign, word_kind}
use Rattle.pd_growth.specs.Growing.{NameSuits}

-- an abstraction of this name, or a kind
abbrev Bears : ℕ → Named → Type 0
Bears s (named.Kind k) = Unit {0}
Bears s (named.Abstraction t) = t ≡ s
Bears s named.Nothing = Unit {0}

kind_bears : (s : ℕ) (o : Option Kind) → Bears s (kind_or_abstraction s o)
kind_bears s (Some k) = tt
kind_bears s None = refl

cond_bears : (s : ℕ) (b : Bool) (x y : Named) → Bears s x → Bears s y → Bears s (cond b x y)
cond_bears s true x y h k = h
cond_bears s false x y h k = k

object_bears : (names : Names) (s : ℕ) (atoms : List Atom) → Bears s (object_named names s atoms)
object_bears names s atoms = cond_bears s _ _ _ (cond_bears s (begins_foreign names atoms) _ _ refl tt) (kind_bears s (word_kind names (name_of names s) atoms))

suits_by : (names : Names) (s : ℕ) (n : Named) → s < length names → Bears s n → IsSmallNamed n → NameSuits names n
suits_by names s (named.Kind k) h b m = m
suits_by names s (named.Abstraction t) h b m = omega (arith, h, b)
suits_by names s named.Nothing h b m = tt

suits_named : (names : Names) (text : List Atom) → All (IsOf names) text → IsSmallNamed (named_by names text) → NameSuits names (named_by names text)
suits_named names [] h m = tt
suits_named names (atom.Symbol s ∷ atoms) h m = suits_by names s (object_named names s atoms) (All-head (IsOf names) (atom.Symbol s) atoms h) (object_bears names s atoms) m
suits_named names (atom.Number z ∷ atoms) h m = tt
suits_named names (atom.Dollar n ∷ atoms) h m = tt
suits_named names (atom.DollarSymbol s ∷ atoms) h m = tt
suits_named names (atom.Comma ∷ atoms) h m = tt
suits_named names (atom.Semi ∷ atoms) h m = tt

pub name_suits : (names : Names) (text : List Atom) (n : Named) → n ≡ named_by names text → All (IsOf names) text → IsSmallNamed n → NameSuits names n
name_suits names text n e h m = subst (NameSuits names) (sym e) (suits_named names text h (subst IsSmallNamed e m))
