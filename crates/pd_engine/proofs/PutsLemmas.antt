-- The lines of a box that came with all that lies in it.
use Rattle.std.proofs.Common.{◌≡◌, ℕ, Bool, true, false, not, List, [], ◌∷◌, ◌++◌, Option, Some, None, cond, refl, sym, ap, ◌∙◌, subst}
use Rattle.std.specs.Prelude.{filter, if◌then◌else◌}
use Rattle.std.specs.List.{cons_option, filter_map, flat_map}
use Rattle.slab.specs.Slab.{get}
use Rattle.pd_atom.specs.Names.{Names}
use Rattle.pd_canvas.specs.declared.wires.Wire.{Wire}
use Rattle.pd_tree.specs.Ports.{fits}
use Rattle.pd_grove.specs.Telling.{inner_in}
use Rattle.pd_web.specs.Canvases.{keys_at}
use Rattle.pd_web.specs.Hops.{boxes_told}
use Rattle.pd_web.specs.Lines.{wires_in}
use Rattle.pd_patch.specs.declared.patch.Patch.{Patch}
use Rattle.pd_patch.specs.Report.{canvases_inside}
use Rattle.pd_stage.specs.PassedOn.{keys_within}
use Rattle.pd_say.specs.Gathering.{Says, Fails}
use Rattle.pd_say.proofs.GatheringLemmas.{says_then, says_then_fails, fails_sooner}
use Rattle.pd_stage.specs.Lines.{canvas_of_port, loops_if, loops_text, path_in, put_text, unfit_text, unfit_wires, unfits_text, unmades_text}
use Rattle.pd_engine.specs.Remarks.{loops_held, part_text, unfits_held, unfits_in}

-- ---- canvas by canvas, or box by box

-- what is told of a canvas, if there is one
abbrev told_if : (ℕ → List ℕ) → Option ℕ → List ℕ
told_if f None = []
told_if f (Some c) = f c

held_first : (f : ℕ → List ℕ) (o : Option ℕ) (cs : List ℕ) → flat_map f (cons_option o cs) ≡ told_if f o ++ flat_map f cs
held_first f None cs = refl
held_first f (Some c) cs = refl

by_boxes : (f h : ℕ → List ℕ) (g : ℕ → Option ℕ) → ((k : ℕ) → told_if f (g k) ≡ h k) → (ks : List ℕ) → flat_map f (filter_map g ks) ≡ flat_map h ks
by_boxes f h g is [] = refl
by_boxes f h g is (k ∷ ks) =
    held_first f (g k) (filter_map g ks) ∙ ap (λ (l : List ℕ). l ++ flat_map f (filter_map g ks)) (is k) ∙ ap (λ (l : List ℕ). h k ++ l) (by_boxes f h g is ks)

-- each wire that doesn't fit, or each wire with its line, where it has one
unfit_first : (f : Wire → List ℕ) (w : Wire) (b : Bool) (ws : List Wire) → flat_map f (cond (not b) (w ∷ ws) ws) ≡ (if b then [] else f w) ++ flat_map f ws
unfit_first f w true ws = refl
unfit_first f w false ws = refl

by_wires : (f : Wire → List ℕ) (test : Wire → Bool) (ws : List Wire) → flat_map f (filter (λ w. not (test w)) ws) ≡ flat_map (λ w. if test w then [] else f w) ws
by_wires f test [] = refl
by_wires f test (w ∷ ws) =
    unfit_first f w (test w) (filter (λ v. not (test v)) ws) ∙ ap (λ (l : List ℕ). (if test w then [] else f w) ++ l) (by_wires f test ws)

module _ (names : Names) (p : Patch) (key canvas : ℕ) where
  abbrev inside : ℕ → Option ℕ
  inside k = inner_in (get p.grove.nodes k)

  unfits_of : (o : Option ℕ) → told_if (λ c. flat_map (unfit_text (path_in p c)) (unfit_wires p c)) o ≡ unfits_in p o
  unfits_of None = refl
  unfits_of (Some c) = by_wires (unfit_text (path_in p c)) (fits (boxes_told p.web (keys_at p.grove c))) (wires_in (get p.grove.boards c))

  loops_of : (o : Option ℕ) → told_if (loops_text p) o ≡ loops_if p o
  loops_of None = refl
  loops_of (Some c) = refl

  unfits_are : (part : List ℕ) → unfits_text p (canvases_inside p.grove part) ≡ unfits_held p part
  unfits_are part = by_boxes (λ c. flat_map (unfit_text (path_in p c)) (unfit_wires p c)) (λ k. unfits_in p (inside k)) inside (λ k. unfits_of (inside k)) part

  loops_are : (part : List ℕ) → flat_map (loops_text p) (canvases_inside p.grove part) ≡ loops_held p part
  loops_are part = by_boxes (loops_text p) (λ k. loops_if p (inside k)) inside (λ k. loops_of (inside k)) part

  pub part_is : (part : List ℕ) → part ≡ keys_within p key → part_text names p key canvas part ≡ put_text names p key canvas
  part_is part is =
      ap (λ (l : List ℕ). unmades_text names p part ++ (l ++ (loops_if p (canvas_of_port p key canvas) ++ (loops_text p canvas ++ loops_held p part)))) (sym (unfits_are part))
      ∙ ap (λ (l : List ℕ). unmades_text names p part ++ (unfits_text p (canvases_inside p.grove part) ++ (loops_if p (canvas_of_port p key canvas) ++ (loops_text p canvas ++ l)))) (sym (loops_are part))
      ∙ ap (λ (ks : List ℕ). unmades_text names p ks ++ (unfits_text p (canvases_inside p.grove ks) ++ (loops_if p (canvas_of_port p key canvas) ++ (loops_text p canvas ++ flat_map (loops_text p) (canvases_inside p.grove ks))))) is

  -- by the list and the canvas around that were asked for
  abbrev text_by : Option ℕ → List ℕ → List ℕ
  text_by around part = unmades_text names p part ++ (unfits_held p part ++ (loops_if p around ++ (loops_text p canvas ++ loops_held p part)))

  pub text_is : (around : Option ℕ) (part part' : List ℕ) → around ≡ canvas_of_port p key canvas → part ≡ part' → text_by around part ≡ part_text names p key canvas part'
  text_is around part part' a b = ap (λ (o : Option ℕ). text_by o part) a ∙ ap (λ (l : List ℕ). text_by (canvas_of_port p key canvas) l) b

-- ---- five pieces, one after the other

module _ (all a b c d e : List ℕ) (is : a ++ (b ++ (c ++ (d ++ e))) ≡ all) (t : Option (List ℕ)) (h : List ℕ) (t₁ : Option (List ℕ)) where
  pub first_fails : Fails t h t₁ a → Fails t h t₁ all
  first_fails f = subst (λ (l : List ℕ). Fails t h t₁ l) is (fails_sooner t t₁ h a (b ++ (c ++ (d ++ e))) f)

  module _ (h₁ : List ℕ) (first : Says t h t₁ h₁ a) (t₂ : Option (List ℕ)) where
    pub second_fails : Fails t₁ h₁ t₂ b → Fails t h t₂ all
    second_fails f = subst (λ (l : List ℕ). Fails t h t₂ l) is (says_then_fails t t₁ t₂ h h₁ a (b ++ (c ++ (d ++ e))) first (fails_sooner t₁ t₂ h₁ b (c ++ (d ++ e)) f))

    module _ (h₂ : List ℕ) (second : Says t₁ h₁ t₂ h₂ b) (t₃ : Option (List ℕ)) where
      third_in : Fails t₂ h₂ t₃ c → Fails t₁ h₁ t₃ (b ++ (c ++ (d ++ e)))
      third_in f = says_then_fails t₁ t₂ t₃ h₁ h₂ b (c ++ (d ++ e)) second (fails_sooner t₂ t₃ h₂ c (d ++ e) f)

      pub third_fails : Fails t₂ h₂ t₃ c → Fails t h t₃ all
      third_fails f = subst (λ (l : List ℕ). Fails t h t₃ l) is (says_then_fails t t₁ t₃ h h₁ a (b ++ (c ++ (d ++ e))) first (third_in f))

      module _ (h₃ : List ℕ) (third : Says t₂ h₂ t₃ h₃ c) (t₄ : Option (List ℕ)) where
        fourth_in : Fails t₃ h₃ t₄ (d ++ e) → Fails t₁ h₁ t₄ (b ++ (c ++ (d ++ e)))
        fourth_in f = says_then_fails t₁ t₂ t₄ h₁ h₂ b (c ++ (d ++ e)) second (says_then_fails t₂ t₃ t₄ h₂ h₃ c (d ++ e) third f)

        pub fourth_fails : Fails t₃ h₃ t₄ d → Fails t h t₄ all
        fourth_fails f = subst (λ (l : List ℕ). Fails t h t₄ l) is (says_then_fails t t₁ t₄ h h₁ a (b ++ (c ++ (d ++ e))) first (fourth_in (fails_sooner t₃ t₄ h₃ d e f)))

        module _ (h₄ : List ℕ) (fourth : Says t₃ h₃ t₄ h₄ d) (t₅ : Option (List ℕ)) where
          last_in : Fails t₄ h₄ t₅ e → Fails t₁ h₁ t₅ (b ++ (c ++ (d ++ e)))
          last_in f =
              says_then_fails t₁ t₂ t₅ h₁ h₂ b (c ++ (d ++ e)) second (says_then_fails t₂ t₃ t₅ h₂ h₃ c (d ++ e) third (says_then_fails t₃ t₄ t₅ h₃ h₄ d e fourth f))

          pub last_fails : Fails t₄ h₄ t₅ e → Fails t h t₅ all
          last_fails f = subst (λ (l : List ℕ). Fails t h t₅ l) is (says_then_fails t t₁ t₅ h h₁ a (b ++ (c ++ (d ++ e))) first (last_in f))

          pub all_said : (h₅ : List ℕ) → Says t₄ h₄ t₅ h₅ e → Says t h t₅ h₅ all
          all_said h₅ f =
              subst (λ (l : List ℕ). Says t h t₅ h₅ l) is
              (says_then t t₁ t₅ h h₁ h₅ a (b ++ (c ++ (d ++ e))) first
              (says_then t₁ t₂ t₅ h₁ h₂ h₅ b (c ++ (d ++ e)) second (says_then t₂ t₃ t₅ h₂ h₃ h₅ c (d ++ e) third (says_then t₃ t₄ t₅ h₃ h₄ h₅ d e fourth f))))
