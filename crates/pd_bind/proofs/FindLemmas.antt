-- Finding a name by asking for it and cutting the table back.
use Rattle.std.proofs.Common.{◌≡◌, ℕ, ◌<◌, ◌≤◌, List, [], ◌∷◌, ◌++◌, length, cond, Bool, true, false, nat_lt, Option, Some, None, Ok, Err, position, bytes_eq, refl, sym, ap, ◌∙◌, arith}
use Rattle.std.proofs.lemmas.Bool.{ltb-false}
use Rattle.pd_atom.specs.declared.SymbolRefusal.{SymbolRefusal}
use Rattle.pd_atom.specs.declared.SymbolRefusal.TheVariants.{TooLong, Full}
use Rattle.pd_atom.specs.Names.{Names, Outcome, given, refused, interned, longest, most}
use Rattle.pd_atom.proofs.NameLemmas.{lt_from, position_low, interned_long, interned_found, interned_full, interned_new}
use Rattle.pd_bind.specs.Naming.{symbol_named}

by_test : {P : Type 0} (b : Bool) → (b ≡ true → P) → (b ≡ false → P) → P
by_test true f g = f refl
by_test false f g = g refl

by_place : {P : Type 0} (o : Option ℕ) → (o ≡ None → P) → ((s : ℕ) → o ≡ Some s → P) → P
by_place None f g = f refl
by_place (Some s) f g = g s refl

-- a name is refused, or found, or new
asked : {P : Type 0} (names : Names) (name : List ℕ)
    → ((e : SymbolRefusal) → symbol_named names name ≡ None → interned names name ≡ refused e names → P)
    → ((s : ℕ) → symbol_named names name ≡ Some s → s < length names → interned names name ≡ given s names → P)
    → (symbol_named names name ≡ None → interned names name ≡ given (length names) (names ++ name ∷ []) → P) → P
asked {P = P} names name denied old new =
    let at = position (bytes_eq name) names in
    by_test (nat_lt longest (length name))
    (λ h. denied TooLong (ap (λ b. cond b None at) h) (interned_long names name (lt_from longest (length name) h)))
    (λ h.
    let short = ltb-false longest (length name) h in
    let named : symbol_named names name ≡ at = ap (λ b. cond b None at) h in
    by_place at
    (λ e. by_test (nat_lt (length names) most)
    (λ r. new (named ∙ e) (interned_new names name short e (lt_from (length names) most r)))
    (λ r. denied Full (named ∙ e) (interned_full names name short e (ltb-false (length names) most r))))
    (λ s e. old s (named ∙ e) (position_low names name s e).0 (interned_found names name s short e)))

pub asked_refused : (names : Names) (name : List ℕ) (e : SymbolRefusal) → (interned names name).answer ≡ Err e → symbol_named names name ≡ None
asked_refused names name e h =
    asked names name (λ r n i. n) (λ s n l i. absurd (let q = sym (ap (λ (o : Outcome ℕ). o.answer) i) ∙ h in cc)) (λ n i. n)

pub asked_found : (names : Names) (name : List ℕ) (s : ℕ) → (interned names name).answer ≡ Ok s → s < length names
    → (symbol_named names name ≡ Some s) × ((interned names name).names ≡ names)
asked_found names name s h l =
    asked names name (λ r n i. absurd (let q = sym (ap (λ (o : Outcome ℕ). o.answer) i) ∙ h in cc))
    (λ t n m i. let q = sym (ap (λ (o : Outcome ℕ). o.answer) i) ∙ h in let same : t ≡ s = cc in (n ∙ ap (λ x. Some x) same, ap (λ (o : Outcome ℕ). o.names) i))
    (λ n i. let q = sym (ap (λ (o : Outcome ℕ). o.answer) i) ∙ h in let same : length names ≡ s = cc in absurd (omega (arith, same, l)))

pub asked_new : (names : Names) (name : List ℕ) (s : ℕ) → (interned names name).answer ≡ Ok s → length names ≤ s → symbol_named names name ≡ None
asked_new names name s h l =
    asked names name (λ r n i. n)
    (λ t n m i. let q = sym (ap (λ (o : Outcome ℕ). o.answer) i) ∙ h in let same : t ≡ s = cc in absurd (omega (arith, same, l, m)))
    (λ n i. n)
