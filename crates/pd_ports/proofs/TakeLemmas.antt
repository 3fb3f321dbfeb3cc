-- Ports that take the ends of those that are the same boxes.
use Rattle.std.proofs.Common.{◌≡◌, ◌⊎◌, ℕ, zero, suc, Bool, true, false, cond, List, [], ◌∷◌, slice_get, Option, Some, None, refl, sym, ap, ◌∙◌, inl, inr, eq-eqb, eqb-true, true≢false, arith}
use Rattle.std.specs.Prelude.{option_and_then}
use Rattle.std.proofs.lemmas.Option.{none-some, same_Some}
use Rattle.pd_web.specs.declared.jacks.Jack.{Jack}
use Rattle.pd_web.specs.declared.sockets.Port.{Port}
use Rattle.pd_web.specs.Sockets.{jacks_of}
use Rattle.pd_web.specs.Homes.{inner_in, inner_of}
use Rattle.pd_ports.specs.Ends.{end_in}
use Rattle.pd_ports.specs.Moves.{Goes, AreOnce, is_box, end_of, moved_ports}
use Rattle.pd_ports.proofs.HomeLemmas.{inner_jacks}

pub same_boxes : (a o : Option ℕ) → is_box a o ≡ true → (j : ℕ) × (a ≡ Some j) × (o ≡ Some j)
same_boxes None o h = absurd (true≢false (sym h))
same_boxes (Some x) None h = absurd (true≢false (sym h))
same_boxes (Some x) (Some y) h = (x, refl, ap (λ (n : ℕ). Some n) (sym (eqb-true x y h)))

box_test : (a o : Option ℕ) (j : ℕ) → a ≡ Some j → o ≡ Some j → is_box a o ≡ true
box_test a o j p q = ap (λ x. is_box x o) p ∙ ap (is_box (Some j)) q ∙ eq-eqb j j refl

pub end_by : (p : Port) (ports : List Port) (o : Option ℕ) (b : Bool) → is_box p.jack.inner o ≡ b → end_of (p ∷ ports) o ≡ cond b p.end (end_of ports o)
end_by p ports o b t = ap (λ (v : Bool). cond v p.end (end_of ports o)) t

-- an end that is found is that of a port that is the box
end_told : (old : List Port) (o : Option ℕ) (e : ℕ) → end_of old o ≡ Some e → (n : ℕ) × (j : ℕ) × (inner_of old n ≡ Some j) × (o ≡ Some j) × (end_in old n ≡ Some e)
end_told [] o e h = absurd (none-some e h)
end_told (p ∷ ports) o e h = by_test (is_box p.jack.inner o) refl (λ k. end_told ports o e k)
  where
    by_test : (b : Bool) → is_box p.jack.inner o ≡ b → (end_of ports o ≡ Some e → (n : ℕ) × (j : ℕ) × (inner_of ports n ≡ Some j) × (o ≡ Some j) × (end_in ports n ≡ Some e))
        → (n : ℕ) × (j : ℕ) × (inner_of (p ∷ ports) n ≡ Some j) × (o ≡ Some j) × (end_in (p ∷ ports) n ≡ Some e)
    by_test true t rec = let s = same_boxes p.jack.inner o t in (zero, s.0, s.1, s.2, sym (end_by p ports o true t) ∙ h)
    by_test false t rec = let r = rec (sym (end_by p ports o false t) ∙ h) in (suc r.0, r.1, r.2, r.3, r.4)

once_rest : (p : Port) (ports : List Port) → AreOnce (jacks_of (p ∷ ports)) → AreOnce (jacks_of ports)
once_rest p ports once = λ i m j x y. let e = once (suc i) (suc m) j x y in omega (arith, e)

pub end_found : (old : List Port) (o : Option ℕ) (n : ℕ) → AreOnce (jacks_of old) → is_box (inner_of old n) o ≡ true → end_of old o ≡ end_in old n
end_found [] o zero once h = absurd (true≢false (sym h))
end_found [] o (suc n) once h = absurd (true≢false (sym h))
end_found (p ∷ ports) o zero once h = end_by p ports o true h
end_found (p ∷ ports) o (suc n) once h = by_test (is_box p.jack.inner o) refl (end_found ports o n (once_rest p ports once) h)
  where
    by_test : (b : Bool) → is_box p.jack.inner o ≡ b → end_of ports o ≡ end_in ports n → end_of (p ∷ ports) o ≡ end_in ports n
    by_test true t rec =
        let a = same_boxes p.jack.inner o t in
        let c = same_boxes (inner_of ports n) o h in
        let e = once zero (suc n) a.0 a.1 (inner_jacks ports n ∙ c.1 ∙ ap (λ (x : ℕ). Some x) (same_Some c.0 a.0 (sym c.2 ∙ a.2))) in
        absurd (omega (arith, e))
    by_test false t rec = end_by p ports o false t ∙ rec

moved_at : (old : List Port) (jacks : List Jack) (m : ℕ) → end_in (moved_ports old jacks) m ≡ option_and_then (λ (k : Jack). end_of old k.inner) (slice_get jacks m)
moved_at old [] zero = refl
moved_at old [] (suc m) = refl
moved_at old (k ∷ jacks) zero = refl
moved_at old (k ∷ jacks) (suc m) = moved_at old jacks m

-- a port with an end has it from a port that is the same box
pub moved_told : (old : List Port) (jacks : List Jack) (m e : ℕ) → end_in (moved_ports old jacks) m ≡ Some e → (n : ℕ) × Goes (jacks_of old) jacks n m × (end_in old n ≡ Some e)
moved_told old jacks m e h = at_jack (slice_get jacks m) refl (sym (moved_at old jacks m) ∙ h)
  where
    at_jack : (o : Option Jack) → slice_get jacks m ≡ o → option_and_then (λ (k : Jack). end_of old k.inner) o ≡ Some e → (n : ℕ) × Goes (jacks_of old) jacks n m × (end_in old n ≡ Some e)
    at_jack None q x = absurd (none-some e x)
    at_jack (Some k) q x = let r = end_told old k.inner e x in (r.0, (r.1, inner_jacks old r.0 ∙ r.2, ap inner_in q ∙ r.3), r.4)

pub moved_went : (old : List Port) (jacks : List Jack) (n m : ℕ) → AreOnce (jacks_of old) → Goes (jacks_of old) jacks n m → end_in (moved_ports old jacks) m ≡ end_in old n
moved_went old jacks n m once g = moved_at old jacks m ∙ at_jack (slice_get jacks m) refl
  where
    at_jack : (o : Option Jack) → slice_get jacks m ≡ o → option_and_then (λ (k : Jack). end_of old k.inner) o ≡ end_in old n
    at_jack None q = absurd (none-some g.0 (sym (ap inner_in q) ∙ g.2))
    at_jack (Some k) q = end_found old k.inner n once (box_test (inner_of old n) k.inner g.0 (sym (inner_jacks old n) ∙ g.1) (sym (ap inner_in q) ∙ g.2))

pub moved_came : (old : List Port) (jacks : List Jack) (m : ℕ) → ((n : ℕ) → Goes (jacks_of old) jacks n m → ⊥) → end_in (moved_ports old jacks) m ≡ None
moved_came old jacks m never = by_end (end_in (moved_ports old jacks) m) refl
  where
    by_end : (o : Option ℕ) → end_in (moved_ports old jacks) m ≡ o → o ≡ None
    by_end None q = refl
    by_end (Some e) q = let r = moved_told old jacks m e q in absurd (never r.0 r.1)

pub jacks_moved : (old : List Port) (jacks : List Jack) → jacks_of (moved_ports old jacks) ≡ jacks
jacks_moved old [] = refl
jacks_moved old (k ∷ jacks) = ap (λ xs. k ∷ xs) (jacks_moved old jacks)

nothing_in : (m j : ℕ) → inner_in (slice_get [] m) ≡ Some j → ⊥
nothing_in zero j h = none-some j h
nothing_in (suc m) j h = none-some j h

pub sought : (new : List Jack) (j : ℕ) → ((m : ℕ) × (inner_in (slice_get new m) ≡ Some j)) ⊎ ((m : ℕ) → inner_in (slice_get new m) ≡ Some j → ⊥)
sought [] j = inr (λ m h. nothing_in m j h)
sought (k ∷ new) j = by_head (is_box k.inner (Some j)) refl (sought new j)
  where
    behind : is_box k.inner (Some j) ≡ false → ((m : ℕ) → inner_in (slice_get new m) ≡ Some j → ⊥) → (m : ℕ) → inner_in (slice_get (k ∷ new) m) ≡ Some j → ⊥
    behind t never zero h = true≢false (sym (box_test k.inner (Some j) j h refl) ∙ t)
    behind t never (suc m) h = never m h

    by_head : (b : Bool) → is_box k.inner (Some j) ≡ b → ((m : ℕ) × (inner_in (slice_get new m) ≡ Some j)) ⊎ ((m : ℕ) → inner_in (slice_get new m) ≡ Some j → ⊥)
        → ((m : ℕ) × (inner_in (slice_get (k ∷ new) m) ≡ Some j)) ⊎ ((m : ℕ) → inner_in (slice_get (k ∷ new) m) ≡ Some j → ⊥)
    by_head true t rec = let s = same_boxes k.inner (Some j) t in inl (zero, s.1 ∙ sym s.2)
    by_head false t rec = elim rec [
      | inl r ↦ inl (suc r.0, r.1)
      | inr never ↦ inr (behind t never)
    ]

-- a port goes somewhere, or is gone
pub goes_or_not : (old new : List Jack) (n : ℕ) → ((m : ℕ) × Goes old new n m) ⊎ ((m : ℕ) → Goes old new n m → ⊥)
goes_or_not old new n = by_box (inner_in (slice_get old n)) refl
  where
    by_box : (o : Option ℕ) → inner_in (slice_get old n) ≡ o → ((m : ℕ) × Goes old new n m) ⊎ ((m : ℕ) → Goes old new n m → ⊥)
    by_box None q = inr (λ m g. none-some g.0 (sym q ∙ g.1))
    by_box (Some j) q = elim (sought new j) [
      | inl r ↦ inl (r.0, (j, q, r.1))
      | inr never ↦ inr (λ m g. never m (g.2 ∙ ap (λ (x : ℕ). Some x) (same_Some g.0 j (sym g.1 ∙ q))))
    ]
