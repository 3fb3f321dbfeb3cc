-- What a box of a kind hears, by its kind.
use Rattle.std.proofs.Common.{◌≡◌, ℕ, ℤ, Bool, true, false, cond, List, Option, refl, sym, ◌∙◌, ap}
use Rattle.pd_atom.specs.Names.{Names}
use Rattle.pd_atom.specs.declared.Atom.{Atom}
use Rattle.pd_object.specs.declared.kinds.Kind.{Kind}
use Rattle.pd_object.specs.declared.kinds.Kind.TheVariants as kind
use Rattle.pd_object.specs.declared.kinds.Arith.{Arith}
use Rattle.pd_object.specs.declared.kinds.Panel.{Panel}
use Rattle.pd_kind.specs.declared.states.State.{State}
use Rattle.pd_kind.specs.Said.{Said, silent}
use Rattle.pd_arith.specs.Rows as arith
use Rattle.pd_panel.specs.Rows as panel
use Rattle.pd_glue.specs.Rows.{Hearing, with_names, quiet}
use Rattle.pd_hearing.specs.Guards.{is_message}
use Rattle.pd_hearing.specs.Hearing.{heard_kind, heard_by, heard_line, heard_other}

abbrev heard_as : State → Names → Said → Hearing
heard_as s n x = record { state = s; names = n; said = x }

module _ (names : Names) (k : Kind) (s : State) (inlet selector : ℕ) (atoms : List Atom) (now : ℕ) (table : Option (List ℤ)) where
  -- a message that can't be heard
  pub not-message : (b : Bool) (said : Said) → b ≡ is_message names selector atoms → b ≡ false → said ≡ silent
      → record { state = s; names = names; said = said } ≡ heard_kind names k s inlet selector atoms now table
  unfolding heard_kind
  not-message b said is e quiet_said =
      ap (λ (x : Said). heard_as s names x) quiet_said
      ∙ sym (ap (λ (t : Bool). cond t (heard_by names k s inlet selector atoms now table) (quiet names s)) (sym is ∙ e))

  -- one that can
  pub some-message : (b : Bool) (h : Hearing) → b ≡ is_message names selector atoms → b ≡ true → h ≡ heard_by names k s inlet selector atoms now table
      → h ≡ heard_kind names k s inlet selector atoms now table
  unfolding heard_kind
  some-message b h is e heard =
      heard ∙ sym (ap (λ (t : Bool). cond t (heard_by names k s inlet selector atoms now table) (quiet names s)) (sym is ∙ e))

  pub arith-heard : (a : Arith) (names2 : Names) (s2 : State) (said : Said) → k ≡ kind.Arith a → names2 ≡ names
      → record { state = s2; said = said } ≡ arith.heard k s inlet selector atoms
      → record { state = s2; names = names2; said = said } ≡ heard_by names k s inlet selector atoms now table
  arith-heard a names2 s2 said is same heard =
      ap (λ (n : Names). with_names n (record { state = s2; said = said })) same
      ∙ ap (λ h. with_names names h) heard
      ∙ ap (λ (x : Kind). with_names names (arith.heard x s inlet selector atoms)) is
      ∙ sym (ap (λ (x : Kind). heard_by names x s inlet selector atoms now table) is)

  pub panel-heard : (p : Panel) (names2 : Names) (s2 : State) (said : Said) → k ≡ kind.Panel p → names2 ≡ names
      → record { state = s2; said = said } ≡ panel.heard names k s selector atoms
      → record { state = s2; names = names2; said = said } ≡ heard_by names k s inlet selector atoms now table
  panel-heard p names2 s2 said is same heard =
      ap (λ (n : Names). with_names n (record { state = s2; said = said })) same
      ∙ ap (λ h. with_names names h) heard
      ∙ ap (λ (x : Kind). with_names names (panel.heard names x s selector atoms)) is
      ∙ sym (ap (λ (x : Kind). heard_by names x s inlet selector atoms now table) is)

  pub line-heard : (h : Hearing) → k ≡ kind.Vline → h ≡ heard_line names k s inlet selector atoms now
      → h ≡ heard_by names k s inlet selector atoms now table
  line-heard h is heard =
      heard ∙ ap (λ (x : Kind). heard_line names x s inlet selector atoms now) is
      ∙ sym (ap (λ (x : Kind). heard_by names x s inlet selector atoms now table) is)

-- a box of another kind
pub other-heard : (names : Names) (k : Kind) (s : State) (inlet selector : ℕ) (atoms : List Atom) (now : ℕ) (table : Option (List ℤ)) (h : Hearing)
    → ((a : Arith) → k ≡ kind.Arith a → ⊥) → ((p : Panel) → k ≡ kind.Panel p → ⊥) → (k ≡ kind.Vline → ⊥)
    → h ≡ heard_other names k s inlet selector atoms now table → h ≡ heard_by names k s inlet selector atoms now table
other-heard names (kind.Arith a) s inlet selector atoms now table h not_arith not_panel not_line heard = absurd (not_arith a refl)
other-heard names (kind.Glue g) s inlet selector atoms now table h not_arith not_panel not_line heard = heard
other-heard names (kind.Tone t) s inlet selector atoms now table h not_arith not_panel not_line heard = heard
other-heard names (kind.Signal g) s inlet selector atoms now table h not_arith not_panel not_line heard = heard
other-heard names (kind.Panel p) s inlet selector atoms now table h not_arith not_panel not_line heard = absurd (not_panel p refl)
other-heard names kind.Vline s inlet selector atoms now table h not_arith not_panel not_line heard = absurd (not_line refl)
other-heard names kind.Unmade s inlet selector atoms now table h not_arith not_panel not_line heard = heard
other-heard names kind.Canvas s inlet selector atoms now table h not_arith not_panel not_line heard = heard
