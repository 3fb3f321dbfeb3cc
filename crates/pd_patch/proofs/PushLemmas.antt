-- Lists that grow by what each element of another gives.
use Rattle.std.proofs.Common.{◌≡◌, ℕ, ◌+◌, ◌<◌, Bool, List, [], ◌∷◌, ◌++◌, append_assoc, length, get_or, take, map, sym, ap, ◌∙◌}
use Rattle.std.specs.List.{filter, flat_map}
use Rattle.std.proofs.lemmas.List.{take_more, map-append, append-nil}
use Rattle.std.proofs.lemmas.List.Concat.{flat_map-append}
use Rattle.std.proofs.lemmas.List.Elements.{filter-append}

-- what two lists give together is what each gives
abbrev pub IsByParts : {X Y : Type 0} → (List X → List Y) → Type 0
IsByParts {X} f = (xs ys : List X) → f (xs ++ ys) ≡ f xs ++ f ys

-- what one element more gives goes to the end
pub push_more : {X Y : Type 0} (f : List X → List Y) → IsByParts f → (old now new : List Y) (xs : List X) (i : ℕ) (d : X) → i < length xs
    → new ≡ now ++ f (get_or xs i d ∷ []) → now ≡ old ++ f (take i xs) → new ≡ old ++ f (take (i + 1) xs)
push_more f parts old now new xs i d l e h =
    e ∙ ap (λ x. x ++ f (get_or xs i d ∷ [])) h
    ∙ append_assoc old (f (take i xs)) (f (get_or xs i d ∷ []))
    ∙ ap (λ x. old ++ x) (sym (parts (take i xs) (get_or xs i d ∷ [])) ∙ ap f (sym (take_more xs i d l)))

pub filter_parts : {X : Type 0} (p : X → Bool) → IsByParts (filter p)
filter_parts p = filter-append p

pub noted_parts : {X Y : Type 0} (f : X → Y) (p : X → Bool) → IsByParts (λ xs. map f (filter p xs))
noted_parts f p = λ xs ys. ap (map f) (filter-append p xs ys) ∙ map-append f (filter p xs) (filter p ys)

pub push_each : {X Y : Type 0} (g : X → List Y) (old now new : List Y) (xs : List X) (i : ℕ) (d : X) → i < length xs
    → new ≡ now ++ g (get_or xs i d) → now ≡ old ++ flat_map g (take i xs) → new ≡ old ++ flat_map g (take (i + 1) xs)
push_each g old now new xs i d l e h =
    push_more (flat_map g) (flat_map-append g) old now new xs i d l (e ∙ ap (λ x. now ++ x) (sym (append-nil (g (get_or xs i d))))) h
