use Rattle.std.proofs.Common.{◌≡◌, take}
use Rattle.std.specs.List.{flat_map}
use Rattle.pd_web.specs.Canvases.{keys_at}
use Rattle.pd_misfits.specs.Ranks.{wires_under}
use Rattle.pd_misfits.proofs.gathering.gather.Given as goal

abbrev pub invariant-loop-rank : goal.invariant-loop-rank
invariant-loop-rank l =
    l.found.items ≡ flat_map (wires_under l.fate l.patch.web l.patch.numbers.items (keys_at l.patch.grove l.canvas) l.key l.kind) (take l.rank-index l.ranks)
