-- A toggle's values after messages.
use Rattle.std.proofs.Common.{◌≡◌, ℕ, ℤ, Bool, true, false, List, [], ◌∷◌, Option, Some, None, refl, ap, ◌∙◌, slice_get, codes, if◌then◌else◌}
use Rattle.pd_atom.specs.declared.Atom.{Atom}
use Rattle.pd_atom.specs.declared.Atom.TheVariants as atom
use Rattle.pd_atom.specs.Names.{Names}
use Rattle.pd_object.specs.declared.kinds.Kind.TheVariants as kind
use Rattle.pd_object.specs.declared.kinds.Panel.TheVariants as panel
use Rattle.pd_object.specs.declared.kinds.Toggle.{Toggle}
use Rattle.pd_kind.specs.declared.messages.Sort.{Sort}
use Rattle.pd_kind.specs.declared.messages.Sort.TheVariants as sort
use Rattle.pd_kind.specs.declared.states.State.TheVariants as state
use Rattle.pd_kind.specs.Messages.{sort_of}
use Rattle.pd_kind.specs.Hearing.{first_sort}
use Rattle.pd_panel.specs.Rows.{is_called, is_zero, toggle_set, toggle_nonzero, toggle_other, toggle_hot, heard}
use Rattle.pd_panel.specs.Fold.{Values, with_value, with_other, with_first, step_other, step_at, step, toggle_with, state_after, ToggleFolds}

set_steps : (v : Values) (saved : Bool) (selector : ℕ) (a : Option Atom) → (toggle_set v.value v.other saved selector a).state ≡ toggle_with (with_first with_value v a) saved
set_steps v saved selector (Some (atom.Number z)) = refl
set_steps v saved selector (Some (atom.Symbol s)) = refl
set_steps v saved selector (Some (atom.Dollar n)) = refl
set_steps v saved selector (Some (atom.DollarSymbol s)) = refl
set_steps v saved selector (Some atom.Comma) = refl
set_steps v saved selector (Some atom.Semi) = refl
set_steps v saved selector None = refl

other_steps : (b : Bool) (v : Values) (saved : Bool) (z : ℤ) → state.Toggle v.value (if b then v.other else z) saved ≡ toggle_with (if b then v else record { value = v.value; other = z }) saved
other_steps true v saved z = refl
other_steps false v saved z = refl

nonzero_steps : (v : Values) (saved : Bool) (selector : ℕ) (a : Option Atom) → (toggle_nonzero v.value v.other saved selector a).state ≡ toggle_with (with_first with_other v a) saved
nonzero_steps v saved selector (Some (atom.Number z)) = other_steps (is_zero z) v saved z
nonzero_steps v saved selector (Some (atom.Symbol s)) = refl
nonzero_steps v saved selector (Some (atom.Dollar n)) = refl
nonzero_steps v saved selector (Some (atom.DollarSymbol s)) = refl
nonzero_steps v saved selector (Some atom.Comma) = refl
nonzero_steps v saved selector (Some atom.Semi) = refl
nonzero_steps v saved selector None = refl

by_test : {P : Type 0} (b : Bool) → (b ≡ true → P) → (b ≡ false → P) → P
by_test true f g = f refl
by_test false f g = g refl

words_step : (names : Names) (v : Values) (saved : Bool) (selector : ℕ) (atoms : List Atom) → (toggle_other names v.value v.other saved selector atoms).state ≡ toggle_with (step_other names v selector atoms) saved
words_step names v saved selector atoms =
    by_test (is_called names selector (codes "set"))
    (λ e. rw e (set_steps v saved selector (slice_get atoms 0)))
    (λ e. by_test (is_called names selector (codes "nonzero"))
    (λ f. rw (e, f) (nonzero_steps v saved selector (slice_get atoms 0)))
    (λ f. rw (e, f) refl))

sort_steps : (names : Names) (name : Option ℕ) (v : Values) (saved : Bool) (selector : ℕ) (atoms : List Atom) (s : Sort) →
    (toggle_hot names name v.value v.other saved selector atoms s).state ≡ toggle_with (step_at names v selector atoms s) saved
sort_steps names name v saved selector atoms (sort.Float z) = refl
sort_steps names name v saved selector atoms sort.Bang = refl
sort_steps names name v saved selector atoms sort.Other = words_step names v saved selector atoms
sort_steps names name v saved selector atoms (sort.Symbol s) = refl
sort_steps names name v saved selector atoms sort.List = refl

heard_steps : (names : Names) (t : Toggle) (saved : Bool) (v : Values) (selector : ℕ) (atoms : List Atom) →
    (heard names (kind.Panel (panel.Tgl t)) (toggle_with v saved) selector atoms).state ≡ toggle_with (step names v selector atoms) saved
unfolding heard
heard_steps names t saved v selector atoms = sort_steps names t.send v saved selector atoms (first_sort (sort_of selector atoms) atoms)

pub toggles_fold : ToggleFolds
toggles_fold names t saved v [] = refl
toggles_fold names t saved v (m ∷ messages) =
    ap (λ s. state_after names (kind.Panel (panel.Tgl t)) s messages) (heard_steps names t saved v m.selector m.atoms)
    ∙ toggles_fold names t saved (step names v m.selector m.atoms) messages
