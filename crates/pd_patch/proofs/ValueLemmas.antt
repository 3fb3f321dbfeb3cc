-- One list of a list of lists is set.
use Rattle.std.proofs.Common.{◌≡◌, ◌<◌, ℕ, zero, suc, ℤ, List, [], ◌∷◌, length, ap, sym, refl, ◌∙◌, map, get_or, arith}
use Rattle.std.specs.Prelude.{slice_set, slice_index_or}
use Rattle.std.proofs.lemmas.List.{map-set}

index_map : {A : Type 0} (f : A → List (List ℤ)) (vs : List A) (node : ℕ) (d : A) → node < length vs → slice_index_or (map f vs) node [] ≡ f (get_or vs node d)
index_map f [] n d h = absurd (omega arith)
index_map f (v ∷ vs) zero d h = refl
index_map f (v ∷ vs) (suc n) d h = index_map f vs n d (omega arith)

pub own_set : {A : Type 0} (f : A → List (List ℤ)) (vs : List A) (node : ℕ) (old new : A) (g : List (List ℤ) → List (List ℤ)) → node < length vs
    → old ≡ get_or vs node old → f new ≡ g (f old)
    → map f (slice_set vs node new) ≡ slice_set (map f vs) node (g (slice_index_or (map f vs) node []))
own_set f vs node old new g within is set =
    map-set f vs node new ∙ ap (λ x. slice_set (map f vs) node x) (set ∙ ap g (ap f is ∙ sym (index_map f vs node old within)))
