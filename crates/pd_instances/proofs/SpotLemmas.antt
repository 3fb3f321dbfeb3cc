-- Boxes told in text order, one after the other, in a list that has room for all of them.
use Rattle.std.proofs.Common.{◌≡◌, ℕ, zero, suc, ◌+◌, ◌<◌, ◌≤◌, List, [], ◌∷◌, ◌++◌, length, length-append, take, drop, get_or, append_assoc, take-append-drop, sym, ap, ◌∙◌, subst, arith}
use Rattle.std.specs.List.{flat_map}
use Rattle.std.proofs.lemmas.List.{append-nil, drop_more, take_more}
use Rattle.std.proofs.lemmas.List.Concat.{flat_map-append}

module _ {Y : Type 0} (f : ℕ → List Y) (ks : List ℕ) (i : ℕ) (low : i < length ks) where
  told_more : flat_map f (take (i + 1) ks) ≡ flat_map f (take i ks) ++ f (get_or ks i 0)
  told_more =
      ap (flat_map f) (take_more ks i 0 low) ∙ flat_map-append f (take i ks) (get_or ks i 0 ∷ [])
      ∙ ap (λ ys. flat_map f (take i ks) ++ ys) (append-nil (f (get_or ks i 0)))

  pub told_next : (old now new : List Y) → new ≡ now ++ f (get_or ks i 0) → now ≡ old ++ flat_map f (take i ks) → new ≡ old ++ flat_map f (take (i + 1) ks)
  told_next old now new e h =
      e ∙ ap (λ ys. ys ++ f (get_or ks i 0)) h ∙ append_assoc old (flat_map f (take i ks)) (f (get_or ks i 0)) ∙ ap (λ ys. old ++ ys) (sym told_more)

  pub len_next : (old now new : ℕ) → new ≡ now + length (f (get_or ks i 0)) → now ≡ old + length (flat_map f (take i ks)) → new ≡ old + length (flat_map f (take (i + 1) ks))
  len_next old now new e h =
      let l = ap length told_more ∙ length-append (flat_map f (take i ks)) (f (get_or ks i 0)) in
      omega (arith, e, h, l)

  -- the next one has room
  pub next_fits : (old now cap : ℕ) (all : List Y) → all ≡ flat_map f ks → old + length all ≤ cap → now ≡ old + length (flat_map f (take i ks)) → now + length (f (get_or ks i 0)) ≤ cap
  next_fits old now cap all e fits h =
      let split = ap (flat_map f) (sym (take-append-drop (i + 1) ks)) ∙ flat_map-append f (take (i + 1) ks) (drop (i + 1) ks) in
      let n = ap length (e ∙ split) ∙ length-append (flat_map f (take (i + 1) ks)) (flat_map f (drop (i + 1) ks)) in
      let l = ap length told_more ∙ length-append (flat_map f (take i ks)) (f (get_or ks i 0)) in
      omega (arith, fits, h, n, l)
