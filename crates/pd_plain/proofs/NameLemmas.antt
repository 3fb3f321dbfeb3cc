-- The names in a box's text are of the table.
use Rattle.std.proofs.Common.{◌≡◌, ◌<◌, ℕ, List, length, Option, Some, None, slice_get, IfSome, refl, subst}
use Rattle.std.specs.List.{All}
use Rattle.std.proofs.lemmas.List.Elements.{All-filter}
use Rattle.pd_atom.specs.Names.{Names}
use Rattle.pd_atom.specs.Atoms.{IsOf}
use Rattle.pd_atom.specs.declared.Atom.{Atom}
use Rattle.pd_atom.specs.declared.Atom.TheVariants as atom
use Rattle.pd_atom.proofs.FillLemmas.{all_got}
use Rattle.pd_naming.specs.Naming.{is_argument, arguments_of, name_at, symbol_in}

symbol_known : (names : Names) (o : Option Atom) → IfSome o (IsOf names) → IfSome (symbol_in o) (λ s. s < length names)
symbol_known names None h = tt
symbol_known names (Some (atom.Symbol s)) h = h
symbol_known names (Some a) h = tt

got : (names : Names) (o : Option Atom) → ((a : Atom) → o ≡ Some a → IsOf names a) → IfSome o (IsOf names)
got names None h = tt
got names (Some a) h = h a refl

pub name_known : (names : Names) (text : List Atom) (i s : ℕ) → All (IsOf names) text → name_at (arguments_of text) i ≡ Some s → s < length names
name_known names text i s h e =
    subst (λ (o : Option ℕ). IfSome o (λ t. t < length names)) e
    (symbol_known names (slice_get (arguments_of text) i) (got names (slice_get (arguments_of text) i) (λ a k. all_got (IsOf names) (arguments_of text) i a (All-filter is_argument (IsOf names) text h) k)))
