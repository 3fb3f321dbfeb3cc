-- A box at another place, and the document of the patch.
use Rattle.std.proofs.Common.{◌≡◌, ℕ, ℤ, ◌==◌, Bool, true, false, cond, List, slice_get, Some, inl, inr, eqb-true, refl, sym, ap, ◌∙◌}
use Rattle.pd_canvas.specs.Pages.{Page}
use Rattle.pd_canvas.specs.Paths.{change_box, edit_at}
use Rattle.pd_canvas.specs.Edits.{moved}
use Rattle.pd_grove.specs.declared.grove.Grove.{Grove}
use Rattle.pd_grove.specs.OwnPaths.{sub_reached}
use Rattle.pd_web.specs.declared.web.Web.{Web}
use Rattle.pd_web.specs.Canvases.{keys_at}
use Rattle.pd_web.specs.Hops.{places_of}
use Rattle.pd_present.specs.Presents.{present_page}
use Rattle.pd_patch.specs.declared.patch.Patch.{Patch}
use Rattle.pd_patch.specs.Document.{present_document}
use Rattle.pd_boxes.specs.Put.{CanPut}
use Rattle.pd_wiring.specs.Changes.{SameButRoom}
use Rattle.pd_sliding_law.specs.Slid.{with_slid}
use Rattle.pd_sliding_law.proofs.PageLemmas.{page_after}
use Rattle.pd_sliding_law.proofs.WireLemmas.{places_stay}
use Rattle.pd_sliding_law.proofs.DocumentLemmas.{kept_document, moved_document, wires_document, within_same}
use Rattle.pd_shifting.specs.declared.shifting.MovedBox.{MovedBox}
use Rattle.pd_shifting.specs.Moves.{Shifts, ShiftsBox, ShiftsPort, MovesBox}
use Rattle.pd_shifting.proofs.MoveLemmas.{is_moving}
use Rattle.pd_shifted_law.specs.Ports.{edit_around, with_ports_moved}
use Rattle.pd_shifted_law.proofs.AroundLemmas.{edit_around_is, port_around, port_stands}

-- where there is more room the document is the same
room_document : (p q : Patch) → SameButRoom p q → CanPut p → present_page q.grove q.web q.numbers.items ≡ present_document p
room_document p q R C =
    ap (λ (g : Grove). present_page g q.web q.numbers.items) R.grove ∙ ap (λ ns. present_page p.grove q.web ns.items) R.numbers
    ∙ within_same p.grove p.web q.web p.numbers.items
    (λ c. places_stay p.web q.web p.numbers.items (keys_at p.grove c) (C.runs.numbers c) (λ k o a. ap places_of (R.web.fans k o))) 257 p.grove.root

module _ (p q : Patch) (path : List ℕ) (canvas key number : ℕ) (x y : ℤ) (C : CanPut p) (leads : sub_reached p.grove (Some p.grove.root) path ≡ Some canvas)
    (is : slice_get (keys_at p.grove canvas) number ≡ Some key) where
  plain_document : Shifts p q canvas key x y → present_document q ≡ edit_at path (change_box number (moved x y)) (present_document p)
  plain_document s =
      ap (λ (w : Web). present_page q.grove w q.numbers.items) s.rest.web ∙ ap (λ v. present_page q.grove p.web v.items) s.rest.numbers
      ∙ page_after p.grove q.grove canvas key number x y path p.web p.numbers.items C.forest is s.box leads

  module _ (s : ShiftsPort p q canvas key x y) where
    abbrev ready : Patch
    ready = s.ready

    moved_there : present_page q.grove ready.web ready.numbers.items ≡ edit_at path (change_box number (moved x y)) (present_document p)
    moved_there =
        moved_document ready q key s.holder s.side x y s.from s.to s.could s.slid path canvas number
        (ap (λ (g : Grove). sub_reached g (Some g.root) path) s.room.grove ∙ leads) (ap (λ (g : Grove). slice_get (keys_at g canvas) number) s.room.grove ∙ is)
        ∙ ap (λ (z : Page). edit_at path (change_box number (moved x y)) z) (room_document p ready s.room C)

    abbrev follow : ℕ → Page → Page
    follow n = with_slid s.side n s.from s.to

    port_document : (b : Bool) → (s.from == s.to) ≡ b
        → present_document q ≡ cond (s.from == s.to) (edit_at path (change_box number (moved x y)) (present_document p))
        (edit_around path follow (edit_at path (change_box number (moved x y)) (present_document p)))
    port_document true e =
        let page = edit_at path (change_box number (moved x y)) (present_document p) in
        kept_document ready q key s.holder s.side x y s.from s.to s.slid (eqb-true s.from s.to e) ∙ moved_there
        ∙ sym (ap (λ (t : Bool). cond t page (edit_around path follow page)) e)
    port_document false e =
        let page = edit_at path (change_box number (moved x y)) (present_document p) in
        let r = port_around p q path canvas key number x y C.forest leads is s in
        wires_document ready q key s.holder s.side x y s.from s.to s.could s.slid r.way r.number (port_stands p q path canvas key number x y C.forest leads is s)
        ∙ ap (λ (z : Page). edit_at r.way (follow r.number) z) moved_there
        ∙ sym (ap (λ (t : Bool). cond t page (edit_around path follow page)) e ∙ ap (λ (l : List ℕ). edit_around l follow page) r.whole ∙ edit_around_is r.way r.number follow page)

pub document_moved : (p q : Patch) (path : List ℕ) (number : ℕ) (x y : ℤ) (b : MovedBox) → (M : MovesBox p q path number x y b) → CanPut p
    → present_document q ≡ with_ports_moved p q b.canvas b.key x y M.shifts path (edit_at path (change_box number (moved x y)) (present_document p))
document_moved p q path number x y b M C =
    let at = is_moving p.grove number (sub_reached p.grove (Some p.grove.root) path) b.canvas b.key M.is in
    by at.leads at.is M.shifts
  where
    by : sub_reached p.grove (Some p.grove.root) path ≡ Some b.canvas → slice_get (keys_at p.grove b.canvas) number ≡ Some b.key → (s : ShiftsBox p q b.canvas b.key x y)
        → present_document q ≡ with_ports_moved p q b.canvas b.key x y s path (edit_at path (change_box number (moved x y)) (present_document p))
    by leads is (inl s) = plain_document p q path b.canvas b.key number x y C leads is s
    by leads is (inr s) = port_document p q path b.canvas b.key number x y C leads is s (s.from == s.to) refl
