-- The document of a running patch is proper.
use Rattle.std.proofs.Common.{◌≡◌, ◌≤◌, ◌+◌, ℕ, List, [], slice_get, Option, Some, None, refl, sym, ap, ◌∙◌, subst, arith, true}
use Rattle.std.specs.List.{AllByRecursion}
use Rattle.slab.specs.Slab.{get}
use Rattle.pd_atom.specs.Names.{Names}
use Rattle.pd_canvas.specs.declared.wires.Wire.{Wire}
use Rattle.pd_canvas.specs.Proper.{IsSmall, AreBoxes, IsProper, count_wires}
use Rattle.pd_tree.specs.Ports.{Sockets, sockets_in, fits, inlet_signal, outlet_signal}
use Rattle.pd_tree.specs.Trees.{Trees, Done, Leaf, Holder, Tree, weight, document_boxes, document_in}
use Rattle.pd_grove.specs.Places.{CanvasStands}
use Rattle.pd_grove.specs.States.{NodesSmall}
use Rattle.pd_grove.proofs.PlaceLemmas.{seen_keys}
use Rattle.pd_web.specs.Canvases.{HoldersAreNoPorts, keys_at}
use Rattle.pd_web.specs.Hops.{boxes_told}
use Rattle.pd_web.proofs.TreeFits.{boxes_are}
use Rattle.pd_present.specs.Presents.{wires_among}
use Rattle.pd_patch.specs.declared.patch.Patch.{Patch}
use Rattle.pd_patch.specs.Document.{present_document}
use Rattle.pd_wiring.specs.Changes.{CanRewire}
use Rattle.pd_reload_law.specs.Reloading.{RunsAs}
use Rattle.pd_reload_law.specs.Saving.{boxes_now, tree_now, AreMade}
use Rattle.pd_reload_law.proofs.FanLemmas.{saved_sorted}
use Rattle.pd_saved_law.specs.Fitting.{WiresFit}
use Rattle.pd_saved_law.proofs.FitLemmas.{boxes_seen}
use Rattle.pd_guards.proofs.FactLemmas.{all-weaker}
use Rattle.pd_proper_law.specs.Saves.{AllSaveWell}
use Rattle.pd_proper_law.proofs.PortLemmas.{HasFew, width_less, boxes_few, sockets_many, fit_small}
use Rattle.pd_proper_law.proofs.TreeLemmas.{IsWiredWell, frame_proper, doc_weight, doc_levels, boxes_proper}

-- no box that holds a canvas is a port
bare_made : (t : Trees) → AreMade t → HoldersAreNoPorts t
bare_made Done m = tt
bare_made (Leaf c rest) m = bare_made rest m.1
bare_made (Holder c s inner rest) m = (ap inlet_signal m.0, ap outlet_signal m.0, bare_made inner m.1, bare_made rest m.2)

few_boxes : (a b c : ℕ) → a ≡ b → b ≤ c → c ≤ 16384 → a ≤ 65536
few_boxes a b c e h l = omega (arith, e, h, l)

canvas_wired : (p : Patch) (c : ℕ) (u : Tree) → CanRewire p → WiresFit p → NodesSmall (get p.grove.nodes) → CanvasStands p.grove c u → AreMade u.boxes → weight u.boxes ≤ 16384
    → IsWiredWell p.grove p.web p.numbers.items c
canvas_wired p c u r fit small C m l =
    let told : boxes_told p.web (keys_at p.grove c) ≡ sockets_in u.boxes =
    boxes_seen p.grove p.web (keys_at p.grove c) r.ports.ports r.ports.made ∙ boxes_are p.grove c u C (bare_made u.boxes m) in
    let few = boxes_few p.grove c C.depth C.keys u.boxes small C.stands l in
    record {
      small = all-weaker (λ (v : Wire). fits (boxes_told p.web (keys_at p.grove c)) v ≡ true) IsSmall
          (λ v e. fit_small (sockets_in u.boxes) v (few_boxes _ _ _ (sockets_many u.boxes) (width_less u.boxes) l) few (sym (ap (λ (x : List Sockets). fits x v) told) ∙ e))
          (wires_among p.web p.numbers.items (keys_at p.grove c)) (fit.all c);
      sorted = saved_sorted p.web p.numbers.items (keys_at p.grove c) (r.numbers c);
    }

-- the document of the tree as it stands
pub tree_proper : (names : Names) (p : Patch) (t : Tree) → IsProper names (document_in t) → RunsAs p.grove t → AreMade t.boxes → weight t.boxes ≤ 16384 → NodesSmall (get p.grove.nodes)
    → AllSaveWell names p.grove → CanRewire p → WiresFit p → count_wires (document_in (tree_now p.grove p.web p.numbers.items t)) ≤ 65536
    → IsProper names (document_in (tree_now p.grove p.web p.numbers.items t))
tree_proper names p t proper runs made few small saves r fit wires =
    let g = p.grove in
    let keys = keys_at g g.root in
    let G = runs.stands in
    let listed : keys ≡ G.keys = seen_keys (get g.boards g.root) _ G.root in
    let root : CanvasStands g g.root (record { sheet = t.sheet; boxes = t.boxes }) = record { holder = None; depth = 0; keys = G.keys; board = G.root; stands = G.stands } in
    let wired : (c : ℕ) (u : Tree) → CanvasStands g c u → AreMade u.boxes → weight u.boxes ≤ 16384 → IsWiredWell g p.web p.numbers.items c = λ c u C m l. canvas_wired p c u r fit small C m l in
    record {
      sound = (
        frame_proper g p.web p.numbers.items names t.sheet g.root keys refl (wired g.root (record { sheet = t.sheet; boxes = t.boxes }) root made few) proper.sound.0,
        subst (λ (ks : List ℕ). AreBoxes names (document_boxes (boxes_now p.web p.numbers.items (get g.nodes) (get g.boards) ks t.boxes))) (sym listed) (boxes_proper g p.web p.numbers.items names saves wired g.root 0 G.keys t.boxes
            (λ i k e. record { path = []; canvas = g.root; place = i; leads = refl; at = ap (λ (ks : List ℕ). slice_get ks i) listed ∙ e }) G.stands made few proper.sound.1),
      );
      limits = record {
        boxes = subst (λ x. x ≤ 16384) (sym (doc_weight g p.web p.numbers.items keys t.boxes)) proper.limits.boxes;
        wires = wires;
        levels = subst (λ x. x + 1 ≤ 256) (sym (doc_levels g p.web p.numbers.items keys t.boxes)) proper.limits.levels;
      };
    }
