-- What a box hears of a brief message.
use Rattle.std.proofs.Common.{◌≡◌, ◌≤◌, ℕ, Bool, true, cond, nat_lt, List, length, Option, refl, sym, ◌∙◌, ap, arith}
use Rattle.std.proofs.lemmas.Bool.Decides.{nat_tests}
use Rattle.std.specs.Prelude.{Some, None, option_map}
use Rattle.pd_atom.specs.Names.{Names}
use Rattle.pd_atom.specs.declared.Atom.{Atom}
use Rattle.pd_kind.specs.Said.{Said}
use Rattle.pd_grove.specs.declared.nodes.Node.{Node}
use Rattle.pd_grove.specs.Telling.{with_state}
use Rattle.pd_object.specs.declared.kinds.Kind.{Kind}
use Rattle.pd_object.specs.declared.kinds.Kind.TheVariants as kind
use Rattle.pd_object.specs.declared.kinds.Arith.{Arith}
use Rattle.pd_object.specs.declared.kinds.Glue.{Glue}
use Rattle.pd_kind.specs.declared.states.State.{State}
use Rattle.pd_arith.specs.Rows.{arith_row}
use Rattle.pd_arith.specs.Rows as arith
use Rattle.pd_glue.specs.Rows.{Hearing, with_names, quiet, glue_heard}
use Rattle.pd_glue.specs.Rows as control
use Rattle.pd_plain.specs.Values.{leaves}
use Rattle.pd_hearing.specs.declared.briefs.Brief.{Brief}
use Rattle.pd_hearing.specs.declared.briefs.Brief.TheVariants as brief
use Rattle.pd_hearing.specs.declared.briefs.Reaction.{Reaction}
use Rattle.pd_hearing.specs.declared.briefs.Reaction.TheVariants as reaction
use Rattle.pd_hearing.specs.Guards.{is_message, are_atoms, is_small, is_small_box}
use Rattle.pd_hearing.specs.Hearing.{heard_kind, heard_by, box_reply, box_heard}
use Rattle.pd_hearing.specs.Briefs.{selector_of, atoms_of, IfHeard}

-- what holds where a box has heard follows from what else holds there
pub heard-map : {P Q : Type 0} (r : Reaction) → (P → Q) → IfHeard r P → IfHeard r Q
heard-map reaction.Unheard f h = tt
heard-map reaction.Silent f h = f h
heard-map reaction.Says f h = f h

pub heard-both : {P Q R : Type 0} (r : Reaction) → (P → Q → R) → IfHeard r P → IfHeard r Q → IfHeard r R
heard-both reaction.Unheard f h k = tt
heard-both reaction.Silent f h k = f h k
heard-both reaction.Says f h k = f h k

-- a brief message can be heard
pub brief-message : (names : Names) (m : Brief) → 2 ≤ length names → is_message names (selector_of m) (atoms_of m) ≡ true
unfolding are_atoms
brief-message names brief.Bang le = let e : nat_lt 0 (length names) ≡ true = grind (arith, nat_tests) in rw e refl
brief-message names (brief.Float z) le = let e : nat_lt 1 (length names) ≡ true = grind (arith, nat_tests) in rw e refl

brief-kind : (names : Names) (k : Kind) (s : State) (inlet : ℕ) (m : Brief) (now : ℕ) (h : Hearing) → 2 ≤ length names
    → h ≡ heard_by names k s inlet (selector_of m) (atoms_of m) now None → h ≡ heard_kind names k s inlet (selector_of m) (atoms_of m) now None
unfolding heard_kind
brief-kind names k s inlet m now h le heard =
    heard ∙ sym (ap (λ (t : Bool). cond t (heard_by names k s inlet (selector_of m) (atoms_of m) now None) (quiet names s)) (brief-message names m le))

pub brief-arith : (names : Names) (k : Kind) (a : Arith) (s s2 : State) (inlet : ℕ) (m : Brief) (said : Said) (now : ℕ) → 2 ≤ length names → k ≡ kind.Arith a
    → leaves s2 said ≡ arith_row a s inlet (selector_of m) (atoms_of m)
    → record { state = s2; names = names; said = said } ≡ heard_kind names k s inlet (selector_of m) (atoms_of m) now None
unfolding arith.heard
brief-arith names k a s s2 inlet m said now le is heard =
    brief-kind names k s inlet m now _ le
    (ap (λ h. with_names names h) heard ∙ sym (ap (λ (x : Kind). heard_by names x s inlet (selector_of m) (atoms_of m) now None) is))

pub brief-glue : (names : Names) (k : Kind) (g : Glue) (s s2 : State) (inlet : ℕ) (m : Brief) (said : Said) (now : ℕ) → 2 ≤ length names → k ≡ kind.Glue g
    → is_small_box names g s ≡ true
    → record { state = s2; names = names; said = said } ≡ glue_heard names g s inlet (selector_of m) (atoms_of m) now None
    → record { state = s2; names = names; said = said } ≡ heard_kind names k s inlet (selector_of m) (atoms_of m) now None
unfolding control.heard is_small
brief-glue names k g s s2 inlet m said now le is small heard =
    brief-kind names k s inlet m now _ le
    (heard
    ∙ sym (ap (λ (t : Bool). cond t (glue_heard names g s inlet (selector_of m) (atoms_of m) now None) (quiet names s)) small)
    ∙ sym (ap (λ (x : Kind). heard_by names x s inlet (selector_of m) (atoms_of m) now None) is))

-- a box hears what its kind does
pub brief-box : (names : Names) (n : Node) (s s2 : State) (inlet selector : ℕ) (atoms : List Atom) (now : ℕ) (said : Said) → n.state ≡ Some s
    → record { state = s2; names = names; said = said } ≡ heard_kind names n.kind s inlet selector atoms now None
    → record { node = with_state (Some s2) n; names = names; said = said } ≡ box_heard names n inlet selector atoms now
brief-box names n s s2 inlet selector atoms now said is heard =
    ap (λ (h : Hearing). record { node = with_state (Some h.state) n; names = h.names; said = h.said }) heard
    ∙ sym (ap (λ (o : Option State). box_reply n names (option_map (λ x. heard_kind names n.kind x inlet selector atoms now None) o)) is)
