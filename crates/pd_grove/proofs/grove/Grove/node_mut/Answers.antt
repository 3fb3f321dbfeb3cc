use Rattle.std.specs.Option.{ghost_name_of}
use Rattle.slab.specs.Slab.{with_value}
use Rattle.pd_grove.specs.Lending.{with_node}
use Rattle.pd_grove.proofs.LentLemmas.{one_grove, read_alike}
use Rattle.pd_grove.proofs.grove.Grove.node_mut.Goals as goal

pub returns : goal.returns
returns c =
    let g = c.args.self.now in
    let k = c.args.key in (
      read_alike (ghost_name_of c.get_mut.result) _ (with_node g k) _ g
          (λ w. one_grove (with_value g.nodes k w) g.boards g.labels g.root _ g.labelled)
          (one_grove g.nodes g.boards g.labels g.root _ g.labelled),
      c.get_mut.ensures,
    )
