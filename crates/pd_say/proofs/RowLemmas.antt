-- Pieces that are said one after another.
use Rattle.std.proofs.Common.{◌≡◌, ◌<◌, ◌+◌, ◌++◌, ◌∷◌, [], ℕ, zero, suc, List, length, take, drop, get_or, Option, refl, ap, sym, ◌∙◌, subst, append_assoc, add-one, arith}
use Rattle.std.proofs.Math.Seq.{take-suc, split_at}
use Rattle.std.proofs.lemmas.List.{append-nil}
use Rattle.std.proofs.lemmas.List.Concat.{flat_map-append}
use Rattle.std.specs.List.{All, AllByRecursion, flat_map}
use Rattle.pd_say.specs.Gathering.{Says, Fails}
use Rattle.pd_say.proofs.GatheringLemmas.{says_then, says_then_fails, fails_sooner}

-- one more
text-more : {X : Type 0} (f : X → List ℕ) (xs : List X) (i : ℕ) (x : X) → i < length xs → x ≡ get_or xs i x →
    flat_map f (take (i + 1) xs) ≡ flat_map f (take i xs) ++ f x
text-more f xs i x lt is =
    ap (λ n. flat_map f (take n xs)) (add-one i) ∙ ap (λ l. flat_map f l) (take-suc xs i x lt) ∙
    ap (λ y. flat_map f (take i xs ++ (y ∷ []))) (sym is) ∙ flat_map-append f (take i xs) (x ∷ []) ∙
    ap (λ t. flat_map f (take i xs) ++ t) (append-nil (f x))

-- those before a place, the one there, and those behind it
text-split : {X : Type 0} (f : X → List ℕ) (xs : List X) (i : ℕ) (x : X) → i < length xs → x ≡ get_or xs i x →
    flat_map f xs ≡ (flat_map f (take i xs) ++ f x) ++ flat_map f (drop (suc i) xs)
text-split f xs i x lt is =
    ap (λ l. flat_map f l) (split_at xs i x lt) ∙ ap (λ y. flat_map f (take i xs ++ (y ∷ drop (suc i) xs))) (sym is) ∙
    flat_map-append f (take i xs) (x ∷ drop (suc i) xs) ∙
    sym (append_assoc (flat_map f (take i xs)) (f x) (flat_map f (drop (suc i) xs)))

-- one more is said
pub says_more : {X : Type 0} (f : X → List ℕ) (xs : List X) (i : ℕ) (x : X) (t₁ t₂ t₃ : Option (List ℕ)) (h₁ h₂ h₃ : List ℕ) → i < length xs → x ≡ get_or xs i x →
    Says t₁ h₁ t₂ h₂ (flat_map f (take i xs)) → Says t₂ h₂ t₃ h₃ (f x) → Says t₁ h₁ t₃ h₃ (flat_map f (take (i + 1) xs))
says_more f xs i x t₁ t₂ t₃ h₁ h₂ h₃ lt is a b =
    subst (λ l. Says t₁ h₁ t₃ h₃ l) (sym (text-more f xs i x lt is)) (says_then t₁ t₂ t₃ h₁ h₂ h₃ (flat_map f (take i xs)) (f x) a b)

-- one breaks off, and those behind it aren't said
pub fails_within : {X : Type 0} (f : X → List ℕ) (xs : List X) (i : ℕ) (x : X) (t₁ t₂ t₃ : Option (List ℕ)) (h₁ h₂ : List ℕ) → i < length xs → x ≡ get_or xs i x →
    Says t₁ h₁ t₂ h₂ (flat_map f (take i xs)) → Fails t₂ h₂ t₃ (f x) → Fails t₁ h₁ t₃ (flat_map f xs)
fails_within f xs i x t₁ t₂ t₃ h₁ h₂ lt is a b =
    subst (λ l. Fails t₁ h₁ t₃ l) (sym (text-split f xs i x lt is))
    (fails_sooner t₁ t₃ h₁ (flat_map f (take i xs) ++ f x) (flat_map f (drop (suc i) xs))
    (says_then_fails t₁ t₂ t₃ h₁ h₂ (flat_map f (take i xs)) (f x) a b))

-- what holds of each holds of the one at a place
pub all_at : {X : Type 0} (P : X → Type 0) (xs : List X) (i : ℕ) (x : X) → AllByRecursion P xs → i < length xs → x ≡ get_or xs i x → P x
all_at P [] i x h lt is = absurd (omega arith)
all_at P (y ∷ ys) zero x h lt is = subst P (sym is) h.0
all_at P (y ∷ ys) (suc i) x h lt is = all_at P ys i x h.1 (omega arith) is

-- what stands at a place doesn't depend on what would stand behind the end
pub get_or-any : {X : Type 0} (xs : List X) (i : ℕ) (d e : X) → i < length xs → get_or xs i d ≡ get_or xs i e
get_or-any [] i d e lt = absurd (omega arith)
get_or-any (x ∷ xs) zero d e lt = refl
get_or-any (x ∷ xs) (suc i) d e lt = get_or-any xs i d e (omega arith)

-- what holds of each, place by place
pub all_of : {X : Type 0} (P : X → Type 0) (xs : List X) → AllByRecursion P xs → All P xs
all_of P [] h k d lt = absurd (omega arith)
all_of P (x ∷ xs) h zero d lt = h.0
all_of P (x ∷ xs) h (suc k) d lt = all_of P xs h.1 k d (omega arith)
