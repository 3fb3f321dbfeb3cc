-- How atoms and messages are printed.
use Rattle.std.specs.Prelude.{ℕ, Bool, true, false, ◌==◌, ◌&&◌, ◌||◌, List, [], ◌∷◌, ◌++◌, codes, if◌then◌else◌}
use Rattle.std.specs.List.{flat_map}
use Rattle.pd_atom.specs.Names.{Names, name_of}
use Rattle.pd_atom.specs.Atoms.{spelled}
use Rattle.pd_atom.specs.declared.Atom.{Atom}
use Rattle.pd_atom.specs.declared.Atom.TheVariants.{Number}

-- an atom and a space before it
abbrev pub after_space : Names → Atom → List ℕ
after_space names a = 32 ∷ spelled names a

-- atoms, a space before each
abbrev pub spaced : Names → List Atom → List ℕ
spaced names atoms = flat_map (after_space names) atoms

-- atoms with a space between them
abbrev pub joined : Names → List Atom → List ℕ
joined names [] = []
joined names (a ∷ rest) = spelled names a ++ spaced names rest

abbrev pub starts_with_number : List Atom → Bool
starts_with_number (Number z ∷ rest) = true
starts_with_number _ = false

-- a `float` and a `list` whose first atom is a number show their atoms alone; their selectors are names 1 and 3 of every table
abbrev pub shows_atoms_alone : ℕ → List Atom → Bool
shows_atoms_alone selector atoms = (selector == 1 || selector == 3) && starts_with_number atoms

-- what a print shows of a message
abbrev pub message_text : Names → ℕ → List Atom → List ℕ
message_text names selector atoms =
    if shows_atoms_alone selector atoms then joined names atoms else name_of names selector ++ spaced names atoms

-- the words of a print, and `print` where it has none
abbrev pub words_text : Names → List Atom → List ℕ
words_text names [] = codes "print"
words_text names (a ∷ rest) = joined names (a ∷ rest)
