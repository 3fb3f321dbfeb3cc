-- Arguments without marks.
use Rattle.std.proofs.Common.{arith, ◌≡◌, ◌∙◌, ◌≤◌, ◌<◌, ◌+◌, ℕ, Bool, true, cond, List, [], ◌∷◌, ◌++◌, Some, None, not, length, take, drop, slice_get, slice_index_or, refl, sym, subst, ap}
use Rattle.std.specs.List.{All, filter}
use Rattle.std.proofs.lemmas.List.{length-take, take-append-drop, take_all}
use Rattle.std.proofs.lemmas.Option.{slice_get_past}
use Rattle.std.proofs.lemmas.List.Elements.{All-filter, filter-append, filter_more}
use Rattle.std.proofs.lemmas.List.Filters.{length-filter_both}
use Rattle.pd_atom.specs.Names.{Names}
use Rattle.pd_atom.specs.Atoms.{IsOf}
use Rattle.pd_atom.specs.declared.Atom.{Atom}
use Rattle.pd_naming.specs.Naming.{is_argument, arguments_of}

pub arguments_kept : (names : Names) (atoms list : List Atom) → list ≡ arguments_of atoms → All (IsOf names) atoms → All (IsOf names) list
arguments_kept names atoms list e h = subst (λ (xs : List Atom). All (IsOf names) xs) (sym e) (All-filter is_argument (IsOf names) atoms h)

filter_shorter : {X : Type 0} (p : X → Bool) (xs : List X) → length (filter p xs) ≤ length xs
filter_shorter p xs = omega (arith, length-filter_both p (λ x. not (p x)) (λ x. refl) xs)

-- the arguments among the first atoms are no more than the atoms
pub arguments_fewer : (list atoms : List Atom) (i : ℕ) → list ≡ arguments_of (take i atoms) → length list ≤ length atoms
arguments_fewer list atoms i e = omega (arith, ap (λ (xs : List Atom). length xs) e, filter_shorter is_argument (take i atoms), length-take i atoms)

-- where an argument stands at a place, its number is how many arguments there are before
pub argument_found : (atoms : List Atom) (n i : ℕ) (a : Atom) → n < length atoms → a ≡ slice_index_or atoms n a → is_argument a ≡ true →
    length (arguments_of (take n atoms)) ≡ i → Some a ≡ slice_get (arguments_of atoms) i
argument_found atoms n i a h e k l =
    let more : arguments_of (take (n + 1) atoms) ≡ arguments_of (take n atoms) ++ a ∷ [] =
    filter_more is_argument atoms n a h ∙ ap (λ (y : Atom). arguments_of (take n atoms) ++ cond (is_argument y) (y ∷ []) []) (sym e) ∙ ap (λ (b : Bool). arguments_of (take n atoms) ++ cond b (a ∷ []) []) k in
    let whole : arguments_of atoms ≡ (arguments_of (take n atoms) ++ a ∷ []) ++ arguments_of (drop (n + 1) atoms) =
    ap (λ (xs : List Atom). arguments_of xs) (sym (take-append-drop (n + 1) atoms)) ∙ filter-append is_argument (take (n + 1) atoms) (drop (n + 1) atoms) ∙
    ap (λ (xs : List Atom). xs ++ arguments_of (drop (n + 1) atoms)) more in
    sym (ap (λ (xs : List Atom). slice_get xs i) whole ∙ subst (λ (j : ℕ). slice_get ((arguments_of (take n atoms) ++ a ∷ []) ++ arguments_of (drop (n + 1) atoms)) j ≡ Some a) l
    (get_seam (arguments_of (take n atoms)) a (arguments_of (drop (n + 1) atoms))))
  where
    get_seam : (xs : List Atom) (a : Atom) (ys : List Atom) → slice_get ((xs ++ a ∷ []) ++ ys) (length xs) ≡ Some a
    get_seam [] a ys = refl
    get_seam (x ∷ xs) a ys = get_seam xs a ys

-- no argument has a number at or above how many there are
pub argument_missing : (atoms : List Atom) (n i : ℕ) → length atoms ≤ n → length (arguments_of (take n atoms)) ≤ i → None ≡ slice_get (arguments_of atoms) i
argument_missing atoms n i h l =
    sym (slice_get_past (arguments_of atoms) i (subst (λ (xs : List Atom). length (arguments_of xs) ≤ i) (take_all n atoms h) l))
