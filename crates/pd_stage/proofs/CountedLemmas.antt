-- What is counted where an edit of wires was made.
use Rattle.std.proofs.Common.{arith, ◌≡◌, ◌≤◌, ◌+◌, ◌==◌, ℕ, false, List, refl, sym, ap, subst, ◌∙◌}
use Rattle.std.specs.Prelude.{is_some, Result, Ok}
use Rattle.pd_canvas.specs.declared.edits.Edit.{Edit}
use Rattle.pd_order.proofs.Basics.{by_test, same_node, other_node}
use Rattle.pd_web.specs.declared.web.Web.{Web}
use Rattle.pd_web.specs.Changes.{line_told, wires_told, CutsWire}
use Rattle.pd_web.proofs.CountLemmas.{held_alike, joined_is_one_more, cut_is_one_less}
use Rattle.pd_patch.specs.declared.patch.Patch.{Patch}
use Rattle.pd_wiring.specs.declared.refusals.EditRefusal.{EditRefusal}
use Rattle.pd_wiring.specs.Plans.{Plan, Attaches, Detaches, planned, IsCarriedOut}
use Rattle.pd_stage.specs.Choices.{Base}
use Rattle.pd_stage.proofs.FedLemmas.{PlanFits, Fits, planned_fits, told_some}

-- the same is known of files, and but for the wires the same is counted; wires that were counted still are, and stay few
pub record StaysCounted (b c : Base) (w w' : Web) : Type 0 where
  pub files : c.files ≡ b.files
  pub boxes : c.counts.boxes ≡ b.counts.boxes
  pub sound : c.counts.sound ≡ b.counts.sound
  pub zeros : c.counts.next_zero ≡ b.counts.next_zero
  pub wires : b.counts.wires ≡ wires_told w → c.counts.wires ≡ wires_told w'
  pub few : b.counts.wires ≡ wires_told w → b.counts.wires ≤ 65536 → c.counts.wires ≤ 65536

pub none_counted : (b : Base) (w : Web) → StaysCounted b b w w
none_counted b w = record { files = refl; boxes = refl; sound = refl; zeros = refl; wires = λ e. e; few = λ e low. low }

-- where no wire was under the key, none goes
cut_same : (w w' : Web) (key : ℕ) → CutsWire w w' key → is_some (line_told w key) ≡ false → wires_told w' ≡ wires_told w
cut_same w w' key c none =
    let at : (k : ℕ) → is_some (line_told w' k) ≡ is_some (line_told w k) = λ k. by_test (k == key)
    (λ t. subst (λ (j : ℕ). is_some (line_told w' j) ≡ is_some (line_told w j)) (sym (same_node k key t)) (ap is_some c.line ∙ sym none))
    (λ f. ap is_some (c.other_lines k (λ e. other_node k key f e))) in
    held_alike w.book.wires w'.book.wires (λ k. sym (told_some w' k) ∙ at k ∙ told_some w k)

no_more_wires : (w w' : Web) (key : ℕ) → CutsWire w w' key → wires_told w' ≤ wires_told w
no_more_wires w w' key c = by_test (is_some (line_told w key))
    (λ t. let e : wires_told w' + 1 ≡ wires_told w = cut_is_one_less w w' key c t in omega (arith, e))
    (λ f. let e : wires_told w' ≡ wires_told w = cut_same w w' key c f in omega (arith, e))

plan_few : (plan : Plan) (p q : Patch) → PlanFits p.web plan → IsCarriedOut plan p q → wires_told p.web ≤ 65536 → wires_told q.web ≤ 65536
plan_few (Attaches c l) p q few h low = let e : wires_told q.web ≡ wires_told p.web + 1 = joined_is_one_more p.web q.web h.key l _ h.place h.joins in omega (arith, e, few)
plan_few (Detaches c key l) p q few h low = let e : wires_told q.web ≤ wires_told p.web = no_more_wires p.web q.web key h.cuts in omega (arith, e, low)

pub edit_few : (plan : Plan) (p q : Patch) (path : List ℕ) (e : Edit) → planned p path e ≡ Ok plan → IsCarriedOut plan p q → wires_told p.web ≤ 65536 → wires_told q.web ≤ 65536
edit_few plan p q path e is h low = plan_few plan p q (subst (λ (r : Result Plan EditRefusal). Fits p.web r) is (planned_fits p path e)) h low
