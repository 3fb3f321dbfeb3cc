use Rattle.std.proofs.Common.{◌+◌, ◌++◌, arith, ap, ◌∙◌}
use Rattle.std.specs.Prelude.{slice_range}
use Rattle.std.specs.Vec.{with_items}
use Rattle.std.proofs.lemmas.List.{with_items_is}
use Rattle.std.proofs.lemmas.Result.{err_from_is_err_and}
use Rattle.pd_feed.proofs.Parts.{moved_part, range-join, length-range}
use Rattle.pd_feed.proofs.buffer.Buffer.fill.Goals as goal

pub returns-in_err-count-clause-same : goal.returns-in_err-count-clause-same
returns-in_err-count-clause-same g c =
    let p = err_from_is_err_and c.from_residual.result c.from_residual.ensures.1 in
    let v = c.self.inside.store in
    let one = with_items_is v c.make_room-start.new.store (omega (arith, c.make_room-start.auto.store, c.deref_mut.ensures.len)) in
    let two = with_items_is (with_items v c.make_room-start.new.store) c.read_behind.new.store (omega (arith, c.read_behind.auto.store, c.deref_mut-2.ensures.len)) in
    rw p.1
    (ap (λ l. slice_range l c.make_room-start.result.0 c.make_room-start.result.1) two
    ∙ moved_part _ _ _ _ _ _ _ _ _ _ c.self.view_is c.deref_mut.ensures.value c.make_room-start.ensures.same (c.deref_mut-2.ensures.value ∙ one)
    c.in_err-count.ensures.front)

pub returns-clause-gains : goal.returns-clause-gains
returns-clause-gains g c =
    let s = c.make_room-start.result.0 in
    let e = c.make_room-start.result.1 in
    let n = c.in_ok-count.count in
    let xs = c.read_behind.new.store in
    let v = c.self.inside.store in
    let one = with_items_is v c.make_room-start.new.store (omega (arith, c.make_room-start.auto.store, c.deref_mut.ensures.len)) in
    let two = with_items_is (with_items v c.make_room-start.new.store) c.read_behind.new.store (omega (arith, c.read_behind.auto.store, c.deref_mut-2.ensures.len)) in
    record {
      piece = slice_range xs e (e + n);
      count_is = let l = length-range xs e (e + n) c.in_ok-count.ensures.fits in omega (arith, l);
      bytes =
          ap (λ l. slice_range l s (e + n)) two ∙ range-join xs s e n c.make_room-start.ensures.order (omega (arith, c.in_ok-count.ensures.fits))
          ∙ ap (λ front. front ++ slice_range xs e (e + n))
          (moved_part _ _ _ _ _ _ _ _ _ _ c.self.view_is c.deref_mut.ensures.value c.make_room-start.ensures.same (c.deref_mut-2.ensures.value ∙ one)
          c.in_ok-count.ensures.front);
      came = c.in_ok-count.ensures.came;
    }
