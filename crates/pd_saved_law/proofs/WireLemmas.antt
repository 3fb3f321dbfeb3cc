-- The wires of a patch that has grown from the document that another one saved.
use Rattle.std.proofs.Common.{◌≡◌, ℕ, List, map, filter, Some, sym, ap, ◌∙◌, subst}
use Rattle.slab.specs.Slab.{get}
use Rattle.pd_canvas.specs.Wiring.{AreSorted, fan_out}
use Rattle.pd_tree.specs.Ports.{Sockets, inlet_signal, outlet_signal, sockets_in, fits}
use Rattle.pd_tree.specs.Trees.{Trees, Done, Leaf, Holder, Tree}
use Rattle.pd_grove.specs.OwnPaths.{sub_reached}
use Rattle.pd_grove.specs.Places.{CanvasStands}
use Rattle.pd_grove.specs.Standing.{GroveStands}
use Rattle.pd_grove.specs.Telling.{reached}
use Rattle.pd_web.specs.Canvases.{HoldersAreNoPorts, keys_at, sink_place}
use Rattle.pd_web.specs.Hops.{boxes_told, fan_hops, places_of}
use Rattle.pd_web.proofs.TreeFits.{boxes_are}
use Rattle.pd_present.specs.Presents.{wires_among}
use Rattle.pd_patch.specs.declared.patch.Patch.{Patch}
use Rattle.pd_patch.specs.Built.{HasPorts}
use Rattle.pd_patch.specs.Numbers.{AreUnder}
use Rattle.pd_patch.specs.Wired.{LeadsHere, IsWired}
use Rattle.pd_patch.proofs.WayLemmas.{root_stands}
use Rattle.pd_reload_law.specs.Saving.{tree_now, AreMade}
use Rattle.pd_reload_law.proofs.FanLemmas.{saved_sorted}
use Rattle.pd_reload_law.proofs.LaidLemmas.{fitting_saved}
use Rattle.pd_wiring.specs.Changes.{CanRewire}
use Rattle.pd_saved_law.specs.Fitting.{WiresFit, HaveSameWires}
use Rattle.pd_saved_law.proofs.FitLemmas.{boxes_seen, all_fit}
use Rattle.pd_saved_law.proofs.PortLemmas.{sockets_stay}
use Rattle.pd_saved_law.proofs.CanvasLemmas.{canvas_now, leads_now}

-- in a canvas of a patch the wires that are saved are those of its tree that fit
pub wired_saved : (q : Patch) (t u : Tree) (path : List ℕ) (c : ℕ) → ((d : ℕ) → AreUnder q.numbers.items (keys_at q.grove d)) → IsWired q.grove q.web t
    → LeadsHere q.grove t path c u → AreSorted u.sheet.wires
    → wires_among q.web q.numbers.items (keys_at q.grove c) ≡ filter (fits (boxes_told q.web (keys_at q.grove c))) u.sheet.wires
wired_saved q t u path c n w l sorted =
    let ports = w.ports path c u l in
    fitting_saved q.web q.numbers.items (keys_at q.grove c) u.sheet.wires (n c) sorted (λ i k o is.
    subst (λ (x : List Sockets). places_of (fan_hops q.web k o) ≡ map (sink_place (keys_at q.grove c)) (fan_out i o (filter (fits x) u.sheet.wires))) (sym ports)
    (w.fans path c u l i o k is))

-- no box that holds a canvas is a port
bare_made : (t : Trees) → AreMade t → HoldersAreNoPorts t
bare_made Done m = tt
bare_made (Leaf c rest) m = bare_made rest m.1
bare_made (Holder c s inner rest) m = (ap inlet_signal m.0, ap outlet_signal m.0, bare_made inner m.1, bare_made rest m.2)

-- the ports of the boxes of a canvas are those of its tree
canvas_ports : (p : Patch) (c : ℕ) (u : Tree) → HasPorts p.grove p.web → CanvasStands p.grove c u → AreMade u.boxes → boxes_told p.web (keys_at p.grove c) ≡ sockets_in u.boxes
canvas_ports p c u ports C m =
    boxes_seen p.grove p.web (keys_at p.grove c) ports.ports ports.made ∙ boxes_are p.grove c u C (bare_made u.boxes m)

pub reopened : (p q : Patch) (t : Tree) (path : List ℕ) (c d : ℕ) → CanRewire p → WiresFit p → ((x : ℕ) → AreUnder q.numbers.items (keys_at q.grove x))
    → GroveStands p.grove t.sheet t.boxes → AreMade t.boxes → IsWired q.grove q.web (tree_now p.grove p.web p.numbers.items t)
    → sub_reached p.grove (Some p.grove.root) path ≡ Some c → reached q.grove (Some q.grove.root) path ≡ Some d → HaveSameWires p c q d
reopened p q t path c d r f m G made w at there =
    let numbers = p.numbers.items in
    let keys = keys_at p.grove c in
    let l = leads_now p.grove p.web numbers path p.grove.root c t made (root_stands p.grove t.sheet t.boxes G) at in
    let u = canvas_now p.grove p.web numbers c l.canvas in
    let here : LeadsHere q.grove (tree_now p.grove p.web numbers t) path d u = record { key = there; canvas = l.told } in
    let ports : boxes_told q.web (keys_at q.grove d) ≡ boxes_told p.web keys =
    w.ports path d u here ∙ sockets_stay p.web numbers (get p.grove.nodes) (get p.grove.boards) keys l.canvas.boxes l.made
    ∙ sym (canvas_ports p c l.canvas r.ports l.stands l.made) in
    record {
      ports = ports;
      wires = wired_saved q (tree_now p.grove p.web numbers t) u path d m w here (saved_sorted p.web numbers keys (r.numbers c))
          ∙ ap (λ (x : List Sockets). filter (fits x) (wires_among p.web numbers keys)) ports
          ∙ all_fit (fits (boxes_told p.web keys)) (wires_among p.web numbers keys) (f.all c);
    }
