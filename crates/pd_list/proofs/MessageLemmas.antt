-- Messages as lists.
use Rattle.std.proofs.Common.{◌≡◌, ℕ, zero, suc, ◌≤◌, List, ◌∷◌, refl, arith}
use Rattle.pd_atom.specs.declared.Atom.{Atom}
use Rattle.pd_atom.specs.declared.Atom.TheVariants as atom
use Rattle.pd_kind.specs.Forming.{atoms_with_selector}

-- a selector that is not plain stands before the atoms
pub marked : (s : ℕ) (atoms : List Atom) → 4 ≤ s → atoms_with_selector s atoms ≡ atom.Symbol s ∷ atoms
marked zero atoms far = absurd (omega arith)
marked (suc zero) atoms far = absurd (omega arith)
marked (suc (suc zero)) atoms far = absurd (omega arith)
marked (suc (suc (suc zero))) atoms far = absurd (omega arith)
marked (suc (suc (suc (suc n)))) atoms far = refl
