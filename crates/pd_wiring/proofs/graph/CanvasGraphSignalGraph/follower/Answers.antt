use Rattle.std.proofs.Common.{List, ℕ, sym, ap, ◌∙◌}
use Rattle.std.specs.Prelude.{slice_index}
use Rattle.pd_links.specs.Linked.{followers_of}
use Rattle.pd_wiring.specs.Graphs.{lies_in}
use Rattle.pd_wiring.proofs.GraphLemmas.{some_inside, some_there}
use Rattle.pd_wiring.proofs.graph.CanvasGraphSignalGraph.follower.Goals as goal

pub follower-requires : goal.follower-requires
follower-requires g c =
    let s = c.args.self.now in
    some_there (lies_in s.grove.now s.canvas c.args.node) (followers_of s.links.now c.args.node) c.args.i c.requires

pub returns-clause-item : goal.returns-clause-item
returns-clause-item g c =
    let s = c.args.self.now in
    c.follower.ensures ∙ ap (λ (xs : List ℕ). slice_index xs c.args.i) (sym (some_inside (lies_in s.grove.now s.canvas c.args.node) (followers_of s.links.now c.args.node) c.args.i c.requires))
