use Rattle.std.proofs.Common.{◌≡◌, ℕ, ◌+◌, ◌<◌, length, position, Some, List, sym, ◌∙◌, arith}
use Rattle.pd_atom.specs.declared.Atom.{Atom}
use Rattle.pd_message.specs.Texts.{is_comma}
use Rattle.pd_message.specs.Room.{run_of}
use Rattle.pd_message.proofs.TextLemmas.{place_within, segment_step, segment_end, all_extended, all_behind, extends_onward, front_length, back_length}
use Rattle.pd_message.proofs.segments.run_segment.Goals as goal

pub loop-place-preserved : goal.loop-place-preserved
loop-place-preserved c =
    let rest : List Atom = c.loop-place.rest.now in
    let front : List Atom = c.before-in-Some.result.now in
    let back : List Atom = c.behind-rest.result.now in
    let n : ℕ = c.in-Some.place in
    let inv = c.loop-place.invariant in
    let old = c.loop-place.symbols in
    let new = c.run_piece.new.symbols in
    let place : position is_comma rest ≡ Some n = sym c.in-Some.ensures in
    let low : n < length rest = place_within is_comma rest n place in
    let lf : length front ≡ n = front_length rest front n low c.before-in-Some.ensures in
    let lb : n + 1 + length back ≡ length rest = back_length rest back n low c.behind-rest.ensures in
    let rows = c.run_piece.ensures.takes.rows in
    let atoms = c.run_piece.ensures.takes.atoms in
    let notices = c.run_piece.ensures.takes.notices in
    record {
      run = segment_step c.args.args.now c.args.to.now (run_of old c.loop-place.out) (run_of new c.run_piece.new.out) rest front back n place c.before-in-Some.ensures c.behind-rest.ensures c.run_piece.ensures.run ∙ inv.run;
      extends = extends_onward c.args.symbols.now old new inv.extends c.run_piece.ensures.extends;
      of_rest = all_behind old new rest back n c.run_piece.ensures.extends c.behind-rest.ensures inv.of_rest;
      of_args = all_extended old new c.args.args.now c.run_piece.ensures.extends inv.of_args;
      short = omega (arith, inv.short);
      rows = omega (arith, inv.rows);
      atoms = omega (arith, inv.atoms);
      notices = omega (arith, inv.notices);
    }

pub returns-clause-run : goal.returns-clause-run
returns-clause-run c =
    segment_end c.args.args.now c.args.to.now (run_of c.loop-place.symbols c.loop-place.out) (run_of c.run_piece-2.new.symbols c.run_piece-2.new.out) c.loop-place.rest.now (sym c.first_comma.ensures ∙ c.in_default.is) c.run_piece-2.ensures.run
    ∙ c.loop-place.invariant.run
