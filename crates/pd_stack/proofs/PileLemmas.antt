-- Piles: what is left stays left while the atoms below stay.
use Rattle.std.proofs.Common.{arith, ◌≡◌, ℕ, ◌≤◌, List, [], ◌∷◌, ◌++◌, length, take, drop, sym, ◌∙◌, ap, subst, length-take}
use Rattle.std.specs.List.{slice_range}
use Rattle.std.proofs.lemmas.Slice.{between_is}
use Rattle.std.proofs.lemmas.List.{take-take, take-append-le}
use Rattle.pd_atom.specs.declared.Atom.{Atom}
use Rattle.pd_stack.specs.declared.stack.Pending.{Pending}
use Rattle.pd_hearing.specs.Worlds.{Net}
use Rattle.pd_stack.specs.Tasks.{Task}
use Rattle.pd_stack.specs.Piles.{CursorTasks, AreLeft, AllLie}

-- a message stays where the atoms up to its end stay
pub slice-agree : (n a b : ℕ) (xs ys : List Atom) → take n xs ≡ take n ys → b ≤ n → slice_range xs a b ≡ slice_range ys a b
slice-agree n a b xs ys same le =
    let e : take b xs ≡ take b ys = sym (take-take b n xs le) ∙ ap (λ (l : List Atom). take b l) same ∙ take-take b n ys le in
    between_is xs a b ∙ ap (λ (l : List Atom). drop a l) e ∙ sym (between_is ys a b)

-- what is left stays where the atoms that are looked at stay
pub left-agree : (net : Net) (n : ℕ) (xs ys : List Atom) (ps : List Pending) (tasks : List Task) → take n xs ≡ take n ys → AllLie n ps → AreLeft net xs ps tasks → AreLeft net ys ps tasks
left-agree net n xs ys [] tasks same lie left = left
left-agree net n xs ys (p ∷ ps) tasks same lie left =
    let e : take p.floor xs ≡ take p.floor ys = sym (take-take p.floor n xs lie.0.floor) ∙ ap (λ (l : List Atom). take p.floor l) same ∙ take-take p.floor n ys lie.0.floor in
    record {
      here = left.here;
      later = left.later;
      first = subst (λ (message : List Atom). CursorTasks net p.depth p.selector message p.cursor left.here) (slice-agree n p.first p.after xs ys same lie.0.within) left.first;
      then = left-agree net p.floor xs ys ps left.later e lie.1 left.then;
      is = left.is;
    }

-- an empty pile has no atoms
pub no_atoms : (ps : List Pending) (n : ℕ) → AllLie n ps → ps ≡ [] → n ≡ 0
no_atoms [] n lie e = lie
no_atoms (p ∷ ps) n lie e = cc

-- atoms that are cut off above the lie of those below
pub cut-agree : (n : ℕ) (xs : List Atom) → take n xs ≡ take n (take n xs)
cut-agree n xs = sym (take-take n n xs (omega arith))

pub cut-length : (n : ℕ) (xs : List Atom) → n ≤ length xs → length (take n xs) ≡ n
cut-length n xs le = simp length-take (omega arith)

-- atoms that are put on top
pub more-agree : (xs ys : List Atom) → take (length xs) xs ≡ take (length xs) (xs ++ ys)
more-agree xs ys = sym (take-append-le (length xs) xs ys (omega arith))
