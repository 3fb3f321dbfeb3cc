use Rattle.std.proofs.Common.{◌≤◌, ◌+◌, take, length, arith, ◌∙◌}
use Rattle.arrayvec.specs.ArrayVec.{array_vec_len}
use Rattle.std.proofs.lemmas.List.{length-take}
use Rattle.pd_atom.proofs.CaseLemmas.{on_ok}
use Rattle.pd_atom.proofs.FillLemmas.{put_taken}
use Rattle.pd_atom.proofs.expansion.put.Goals as goal

pub returns : goal.returns
returns c =
    let bytes = c.args.bytes.now in
    let old = c.args.out.now.items in
    let fits : array_vec_len c.args.out.now + length (take c.min-room.result bytes) ≤ 255 =
    omega (arith, c.min-room.ensures, c.remaining_capacity.ensures, length-take c.min-room.result bytes) in
    on_ok c.try_extend_from_slice.result (c.try_extend_from_slice.ensures.variant.1 fits) c.try_extend_from_slice.ensures.ok
    ∙ put_taken old bytes c.remaining_capacity.result c.min-room.result c.remaining_capacity.ensures c.min-room.ensures
