-- The document of a patch in which a port box moved.
use Rattle.std.proofs.Common.{◌≡◌, ◌≢◌, ℕ, zero, suc, ℤ, List, map, slice_get, Option, Some, None, refl, sym, ap, ◌∙◌, subst}
use Rattle.std.proofs.lemmas.Option.{same_Some}
use Rattle.slab.specs.Slab.{Slab, get}
use Rattle.pd_canvas.specs.declared.wires.Wire.{Wire}
use Rattle.pd_canvas.specs.Edits.{moved}
use Rattle.pd_canvas.specs.Pages.{boxed, Page}
use Rattle.pd_canvas.specs.Paths.{change_box, edit_at}
use Rattle.pd_grove.specs.declared.boards.Board.{Board}
use Rattle.pd_grove.specs.declared.grove.Grove.{Grove}
use Rattle.pd_grove.specs.declared.ports.Side.{Side}
use Rattle.pd_grove.specs.OwnPaths.{sub_reached}
use Rattle.pd_grove.specs.Telling.{keys_in}
use Rattle.pd_web.specs.declared.web.Web.{Web}
use Rattle.pd_web.specs.Canvases.{keys_at}
use Rattle.pd_present.specs.Presents.{entry_at, page_on, page_within, present_page, wires_among}
use Rattle.pd_present.proofs.PresentLemmas.{within_none, within_suc}
use Rattle.pd_patch.specs.declared.patch.Patch.{Patch}
use Rattle.pd_reload_law.specs.Wires.{AreNumbered, IsAmong, RewiresAt, StayAmong}
use Rattle.pd_reload_law.proofs.EditLemmas.{document_edited}
use Rattle.pd_saved_law.proofs.EditLemmas.{stays_among}
use Rattle.pd_putting_law.proofs.PathLemmas.{Forest, paths_once, sub_leads}
use Rattle.pd_following_law.specs.Raised.{StandsAt}
use Rattle.pd_following_law.proofs.DocumentLemmas.{lives_by}
use Rattle.pd_sliding.specs.Sliding.{CanSlide, IsSlid}
use Rattle.pd_sliding_law.specs.Slid.{slid_wires, with_slid}
use Rattle.pd_sliding_law.proofs.WireLemmas.{slid_around, slid_away, slid_kept}
use Rattle.pd_sliding_law.proofs.PageLemmas.{page_after, path_low}

-- Where the wires of all canvases are saved alike, the document is the same.
module _ (g : Grove) (w v : Web) (numbers : List ℕ) (same : (c : ℕ) → wires_among v numbers (keys_at g c) ≡ wires_among w numbers (keys_at g c)) where
  page_same : (inside : ℕ → Page) (o : Option Board) → wires_among v numbers (keys_in o) ≡ wires_among w numbers (keys_in o)
      → page_on v numbers (get g.nodes) inside o ≡ page_on w numbers (get g.nodes) inside o
  page_same inside None e = refl
  page_same inside (Some b) e =
      ap (λ (ws : List Wire). record {
        header = b.sheet.header;
        kept = b.sheet.kept;
        boxes = boxed (map (λ k. entry_at inside (get g.nodes k)) b.nodes.items);
        wires = ws;
        coords = b.sheet.coords;
      }) e

  pub within_same : (n c : ℕ) → page_within v numbers (get g.nodes) (get g.boards) n c ≡ page_within w numbers (get g.nodes) (get g.boards) n c
  within_same zero c = within_none v numbers (get g.nodes) (get g.boards) c ∙ sym (within_none w numbers (get g.nodes) (get g.boards) c)
  within_same (suc n) c =
      within_suc v numbers (get g.nodes) (get g.boards) n c ∙ ap (λ (f : ℕ → Page). page_on v numbers (get g.nodes) f (get g.boards c)) (λ i x. within_same n x i)
      ∙ page_same (page_within w numbers (get g.nodes) (get g.boards) n) (get g.boards c) (same c) ∙ sym (within_suc w numbers (get g.nodes) (get g.boards) n c)

-- a port box that kept its number
pub kept_document : (p q : Patch) (key holder : ℕ) (side : Side) (x y : ℤ) (from to : ℕ) → IsSlid p q key holder side x y from to → from ≡ to
    → present_page q.grove q.web q.numbers.items ≡ present_page q.grove p.web p.numbers.items
kept_document p q key holder side x y from to I e =
    within_same q.grove p.web q.web q.numbers.items
    (λ c. slid_kept p.web q.web holder from to e q.numbers.items (keys_at q.grove c) (I.can.runs.numbers c) side I.slides) 257 q.grove.root
    ∙ ap (λ ns. present_page q.grove p.web ns.items) I.rest.numbers

module _ (p q : Patch) (key holder : ℕ) (side : Side) (x y : ℤ) (from to : ℕ) (C : CanSlide p key holder side from) (I : IsSlid p q key holder side x y from to) where
  keys_still : (c : ℕ) → keys_at q.grove c ≡ keys_at p.grove c
  keys_still c = ap (λ (s : Slab Board). keys_in (get s c)) I.box.boards

  among : (c : ℕ) → StayAmong p.web (keys_at q.grove c)
  among c = subst (StayAmong p.web) (sym (keys_still c)) (stays_among p c C.can.runs)

  numbered : (c : ℕ) → AreNumbered q.numbers.items (keys_at q.grove c)
  numbered = I.can.runs.numbers

  forest : Forest q.grove
  forest = I.can.forest

  module _ (path : List ℕ) (n : ℕ) (A : StandsAt q.grove path n holder) where
    away : (c : ℕ) → c ≢ A.canvas → IsAmong (keys_at q.grove c) holder → ⊥
    away c d there = d (same_Some c A.canvas (sym (forest.own.home c there.0 holder there.1) ∙ forest.own.home A.canvas n holder A.at))

    rewires : RewiresAt q.grove p.web q.web q.numbers.items path A.canvas (slid_wires side n from to)
    rewires = record {
      lives = lives_by (get q.grove.boards A.canvas) n holder A.at;
      once = λ other also. paths_once q.grove forest path other q.grove.root A.canvas (sub_leads q.grove q.grove.root A.canvas path A.leads) also;
      here = slid_around p.web q.web q.numbers.items (keys_at q.grove A.canvas) holder n from to (numbered A.canvas) (among A.canvas) A.at side I.slides;
      others = λ c d. slid_away p.web q.web q.numbers.items (keys_at q.grove c) holder from to (numbered c) (among c) (away c d) side I.slides;
    }

    -- the wires at the box around follow its ports
    pub wires_document : present_page q.grove q.web q.numbers.items ≡ edit_at path (with_slid side n from to) (present_page q.grove p.web p.numbers.items)
    wires_document =
        document_edited q.grove p.web q.web q.numbers.items path A.canvas (slid_wires side n from to) rewires A.leads (path_low q.grove forest path A.canvas A.leads)
        ∙ ap (λ ns. edit_at path (with_slid side n from to) (present_page q.grove p.web ns.items)) I.rest.numbers

  -- the box's element is at its place
  pub moved_document : (inner : List ℕ) (canvas number : ℕ) → sub_reached p.grove (Some p.grove.root) inner ≡ Some canvas → slice_get (keys_at p.grove canvas) number ≡ Some key
      → present_page q.grove p.web p.numbers.items ≡ edit_at inner (change_box number (moved x y)) (present_page p.grove p.web p.numbers.items)
  moved_document inner canvas number on is = page_after p.grove q.grove canvas key number x y inner p.web p.numbers.items C.can.forest is I.box on
