-- Lists without two clocks of one owner.
use Rattle.std.proofs.Common.{◌≡◌, ℕ, ◌+◌, ◌<◌, ◌≤◌, Bool, true, false, cond, List, [], ◌∷◌, ◌++◌, ◌⊎◌, inl, inr, length, length-append, refl, sym, ap, ◌∙◌, subst, arith, eqb}
use Rattle.std.proofs.lemmas.Bool.Decides.{nat_tests}
use Rattle.pd_clock.specs.Queue.{Clock}
use Rattle.pd_clock.specs.Queue.{without, clocks_of, AreApart, IsTaken}

pub by_test : {P : Type 0} (b : Bool) → (b ≡ true → P) → (b ≡ false → P) → P
by_test {P} b t f = elim b as (λ v. (v ≡ true → P) → (v ≡ false → P) → P) [ true ↦ (λ y n. y refl) | false ↦ (λ y n. n refl) ] t f

pub eqb-is : (m n : ℕ) → eqb m n ≡ true → m ≡ n
eqb-is m n h = grind (arith, nat_tests)

-- ---- no owner has two clocks

clocks-append : (q : ℕ) (xs ys : List Clock) → clocks_of q (xs ++ ys) ≡ clocks_of q xs + clocks_of q ys
clocks-append q [] ys = omega arith
clocks-append q (x ∷ xs) ys = omega (arith, clocks-append q xs ys)

pub without-fewer : (q o : ℕ) (cs : List Clock) → clocks_of q (without o cs) ≤ clocks_of q cs
without-fewer q o [] = omega arith
without-fewer q o (c ∷ cs) =
    let r = without-fewer q o cs in
    by_test (eqb c.owner o) (λ e. rw e (omega arith)) (λ e. rw e (omega arith))

pub without-none : (o : ℕ) (cs : List Clock) → clocks_of o (without o cs) ≡ 0
without-none o [] = refl
without-none o (c ∷ cs) =
    let r = without-none o cs in
    by_test (eqb c.owner o) (λ e. rw e r) (λ e. rw (e, e) (omega arith))

pub apart_without : (o : ℕ) (cs : List Clock) → AreApart cs → AreApart (without o cs)
apart_without o cs h = λ q. omega (arith, without-fewer q o cs, h q)

pub apart_set : (o : ℕ) (cs : List Clock) (c : Clock) → AreApart cs → c.owner ≡ o → AreApart (without o cs ++ c ∷ [])
apart_set o cs c h is = λ q.
    let s : clocks_of q (without o cs ++ c ∷ []) ≡ clocks_of q (without o cs) + clocks_of q (c ∷ []) =
    clocks-append q (without o cs) (c ∷ []) in
    by_test (eqb c.owner q)
    (λ e.
    let same : o ≡ q = sym is ∙ eqb-is c.owner q e in
    let none : clocks_of q (without o cs) ≡ 0 = subst (λ k. clocks_of k (without o cs) ≡ 0) same (without-none o cs) in
    let one : clocks_of q (c ∷ []) ≡ 1 = rw e refl in
    omega arith)
    (λ e.
    let one : clocks_of q (c ∷ []) ≡ 0 = rw e refl in
    omega (arith, without-fewer q o cs, h q))

pub apart_taken : (old new : List Clock) (c : Clock) → IsTaken old new c → AreApart old → AreApart new
apart_taken old new c t h = λ q.
    let b : clocks_of q (t.before ++ c ∷ t.after) ≤ 1 = subst (λ r. clocks_of q r ≤ 1) t.old_is (h q) in
    let s : clocks_of q (t.before ++ c ∷ t.after) ≡ clocks_of q t.before + clocks_of q (c ∷ t.after) =
    clocks-append q t.before (c ∷ t.after) in
    let n : clocks_of q new ≡ clocks_of q t.before + clocks_of q t.after =
    ap (clocks_of q) t.new_is ∙ clocks-append q t.before t.after in
    let m : clocks_of q (c ∷ t.after) ≡ cond (eqb c.owner q) 1 0 + clocks_of q t.after = refl in
    omega arith

pub length-without : (o : ℕ) (cs : List Clock) → length (without o cs) + clocks_of o cs ≡ length cs
length-without o [] = refl
length-without o (c ∷ cs) =
    let r = length-without o cs in
    by_test (eqb c.owner o) (λ e. rw e (omega arith)) (λ e. rw e (omega arith))

pub shorter : (o : ℕ) (cs new : List Clock) → new ≡ without o cs → length new ≤ length cs
shorter o cs new e = omega (arith, ap length e, length-without o cs)

pub has_space : (o room : ℕ) (cs new : List Clock) → new ≡ without o cs → length cs ≤ room →
    (0 < clocks_of o cs) ⊎ (length cs < room) → length new < room
has_space o room cs new e few h =
    let n = ap length e in
    let l = length-without o cs in
    elim h as (λ _. length new < room) [ inl x ↦ omega arith | inr x ↦ omega arith ]

pub shorter_taken : (old new : List Clock) (c : Clock) → IsTaken old new c → length new ≤ length old
shorter_taken old new c t =
    omega (arith, ap length t.old_is, ap length t.new_is, length-append t.before (c ∷ t.after), length-append t.before t.after)

pub longer_set : (o : ℕ) (cs new : List Clock) (c : Clock) → new ≡ without o cs ++ c ∷ [] → length new ≤ length cs + 1
longer_set o cs new c e = omega (arith, ap length e, length-without o cs, length-append (without o cs) (c ∷ []))

pub shorter_unset : (o : ℕ) (cs set new : List Clock) (c : Clock) → set ≡ without o cs ++ c ∷ [] → c.owner ≡ o → new ≡ without o set → length new ≤ length cs
shorter_unset o cs set new c s own e =
    let same : eqb c.owner o ≡ true = grind (arith, nat_tests) in
    let one : clocks_of o (c ∷ []) ≡ 1 = rw same refl in
    let all : clocks_of o set ≡ clocks_of o (without o cs) + clocks_of o (c ∷ []) = ap (clocks_of o) s ∙ clocks-append o (without o cs) (c ∷ []) in
    omega (arith, one, all, ap length s, ap length e, length-without o cs, length-without o set, length-append (without o cs) (c ∷ []))
