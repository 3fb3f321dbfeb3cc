use Rattle.std.proofs.Common.{List, ℕ, sym, ap, ◌∙◌}
use Rattle.std.specs.Prelude.{slice_index}
use Rattle.pd_links.specs.Linked.{feeders_of}
use Rattle.pd_wiring.specs.Graphs.{lies_in}
use Rattle.pd_wiring.proofs.GraphLemmas.{some_inside, some_there}
use Rattle.pd_wiring.proofs.graph.CanvasGraphSignalGraph.feeder.Goals as goal

pub feeder-requires : goal.feeder-requires
feeder-requires g c =
    let s = c.args.self.now in
    some_there (lies_in s.grove.now s.canvas c.args.node) (feeders_of s.links.now c.args.node) c.args.i c.requires

pub returns-clause-item : goal.returns-clause-item
returns-clause-item g c =
    let s = c.args.self.now in
    c.feeder.ensures ∙ ap (λ (xs : List ℕ). slice_index xs c.args.i) (sym (some_inside (lies_in s.grove.now s.canvas c.args.node) (feeders_of s.links.now c.args.node) c.args.i c.requires))
