-- The ports of a kind, counted up.
use Rattle.std.proofs.Common.{◌≡◌, ℕ, zero, suc, ◌+◌, ◌-◌, ◌≤◌, Bool, true, false, [], ◌∷◌, ◌++◌, replicate, refl, sym, ap, ◌∙◌, add-one, add-zero, add-suc, lt-ltb, le-ltb, append_assoc, append-nil, arith}
use Rattle.std.proofs.lemmas.List.{replicate_more}
use Rattle.pd_object.specs.declared.kinds.Kind.{Kind}
use Rattle.pd_object.specs.Ports.{ports_of}
use Rattle.pd_tree.specs.Ports.{signals, sockets_of}
use Rattle.pd_fit.specs.Seeing.{marks}
use Rattle.pd_fit.proofs.KindPorts.{ports_sound}

replicate_suc : (n : ℕ) (b : Bool) → replicate n b ++ b ∷ [] ≡ replicate (suc n) b
replicate_suc n b = replicate_more n b ∙ ap (λ m. replicate m b) (add-one n)

-- none past the first some
low : (first n : ℕ) → n ≤ first → marks first n ≡ replicate n true
low first zero h = refl
low first (suc n) h =
    ap (λ b. marks first n ++ b ∷ []) (lt-ltb n first (omega arith)) ∙ ap (λ xs. xs ++ true ∷ []) (low first n (omega arith)) ∙ replicate_suc n true

high : (first m : ℕ) → marks first (first + m) ≡ replicate first true ++ replicate m false
high first zero = ap (marks first) (add-zero first) ∙ low first first (omega arith) ∙ sym (append-nil (replicate first true))
high first (suc m) =
    ap (marks first) (add-suc first m) ∙ ap (λ b. marks first (first + m) ++ b ∷ []) (le-ltb (first + m) first (omega arith))
    ∙ ap (λ xs. xs ++ false ∷ []) (high first m) ∙ append_assoc (replicate first true) (replicate m false) (false ∷ []) ∙ ap (λ xs. replicate first true ++ xs) (replicate_suc m false)

pub marks_are_signals : (first n : ℕ) → first ≤ n → marks first n ≡ signals first n
marks_are_signals first n h = let e : n ≡ first + (n - first) = omega arith in ap (marks first) e ∙ high first (n - first)

pub inlets_marked : (k : Kind) → marks (ports_of k).signal_inlets (ports_of k).inlets ≡ (sockets_of k).inlets
inlets_marked k = marks_are_signals _ _ (ports_sound k).ins

pub outlets_marked : (k : Kind) → marks (ports_of k).signal_outlets (ports_of k).outlets ≡ (sockets_of k).outlets
outlets_marked k = marks_are_signals _ _ (ports_sound k).outs
