-- An `osc~` runs at the number that its inlet holds.
use Rattle.std.proofs.Common.{◌≡◌, ℕ, ℤ, true, List, [], ◌∷◌, replicate, refl, ap, ◌∙◌}
use Rattle.std.proofs.lemmas.Bool.{false≢true}
use Rattle.pd_num.specs.Scale.{signal_of}
use Rattle.pd_object.specs.declared.kinds.Kind.{Kind}
use Rattle.pd_object.specs.declared.kinds.Kind.TheVariants as kind
use Rattle.pd_kind.specs.declared.states.State.{State}
use Rattle.pd_kind.specs.States.{silent_block}
use Rattle.pd_tone.specs.Rows.{Ran as Toned, row}
use Rattle.pd_turn.specs.Held.{held_of, held_block}
use Rattle.pd_turn.specs.Rows.{ran, is_osc, own_ran, tone_ran}

osc_ran : (start : ℕ) (k : Kind) (s : State) (ins : List (List ℤ)) → is_osc k ≡ true → tone_ran k s ins ≡ own_ran start k s ins
osc_ran start (kind.Tone t) s ins osc = refl
osc_ran start (kind.Arith a) s ins osc = absurd (false≢true osc)
osc_ran start (kind.Glue g) s ins osc = absurd (false≢true osc)
osc_ran start (kind.Signal g) s ins osc = absurd (false≢true osc)
osc_ran start (kind.Panel p) s ins osc = absurd (false≢true osc)
osc_ran start kind.Vline s ins osc = absurd (false≢true osc)
osc_ran start kind.Unmade s ins osc = absurd (false≢true osc)
osc_ran start kind.Canvas s ins osc = absurd (false≢true osc)

held_is : (s : State) → replicate 64 (signal_of (held_of s 0)) ≡ held_block s
unfolding held_block
held_is s = refl

pub osc_held : (start : ℕ) (k : Kind) (s s2 : State) (outs outs2 : List (List ℤ)) (held step : ℤ) → is_osc k ≡ true → outs ≡ silent_block ∷ []
    → held ≡ held_of s 0 → step ≡ signal_of held → record { state = s2; outs = outs2 } ≡ row k s (replicate 64 step ∷ []) outs
    → ran s2 outs2 ≡ own_ran start k s (held_block s ∷ [])
osc_held start k s s2 outs outs2 held step osc silent holds is run =
    ap (λ (r : Toned). ran r.state r.outs) run
    ∙ ap (λ (o : List (List ℤ)). ran (row k s (replicate 64 step ∷ []) o).state (row k s (replicate 64 step ∷ []) o).outs) silent
    ∙ ap (λ (b : List ℤ). tone_ran k s (b ∷ [])) (ap (replicate 64) (is ∙ ap signal_of holds) ∙ held_is s)
    ∙ osc_ran start k s (held_block s ∷ []) osc
