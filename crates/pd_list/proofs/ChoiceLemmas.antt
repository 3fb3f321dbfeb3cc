-- The first of the arguments that is an atom.
use Rattle.std.proofs.Common.{◌≡◌, ℕ, ◌+◌, ◌<◌, suc, Bool, true, false, List, ◌∷◌, length, drop, get_or, Option, Some, sym, ◌∙◌, ap, cond, arith}
use Rattle.std.proofs.Math.Seq.{drop-cons}
use Rattle.pd_atom.specs.declared.Atom.{Atom}
use Rattle.pd_list.specs.Choices.{same_atom, place_from}

pub place_step : (a b : Atom) (args : List Atom) (i : ℕ) → i < length args → b ≡ get_or args i b →
    place_from i a (drop i args) ≡ cond (same_atom a b) (Some i) (place_from (suc i) a (drop (suc i) args))
place_step a b args i within eb =
    ap (λ (xs : List Atom). place_from i a xs) (drop-cons args i b within)
    ∙ sym (ap (λ (c : Atom). cond (same_atom a c) (Some i) (place_from (suc i) a (drop (suc i) args))) eb)
