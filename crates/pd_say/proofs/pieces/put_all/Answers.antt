use Rattle.std.proofs.Common.{◌<◌, length, arith}
use Rattle.std.proofs.lemmas.Result.{err_from_is_err_and}
use Rattle.pd_say.specs.Pieces.{piece_text, PieceOf}
use Rattle.pd_say.proofs.RowLemmas.{says_more, fails_within, all_at}
use Rattle.pd_say.proofs.pieces.put_all.Goals as goal

pub put_piece-requires : goal.put_piece-requires
put_piece-requires g c =
    let lt : c.loop-piece.piece-index < length c.args.pieces.now = omega arith in
    all_at (PieceOf c.args.symbols.now) c.args.pieces.now c.loop-piece.piece-index c.piece-item.result c.requires lt c.piece-item.is

pub returns-in_err-put_piece-clause-err : goal.returns-in_err-put_piece-clause-err
returns-in_err-put_piece-clause-err g c =
    let p = err_from_is_err_and c.from_residual.result c.from_residual.ensures.1 in
    let lt : c.loop-piece.piece-index < length c.args.pieces.now = omega arith in
    rw p.1
    (fails_within (piece_text c.args.symbols.now) c.args.pieces.now c.loop-piece.piece-index c.piece-item.result _ _ _ _ _ lt c.piece-item.is
    c.loop-piece.invariant.says c.in_err-put_piece.ensures.err)

pub loop-piece-preserved : goal.loop-piece-preserved
loop-piece-preserved g c =
    let lt : c.loop-piece.piece-index < length c.args.pieces.now = omega arith in
    record {
      says = says_more (piece_text c.args.symbols.now) c.args.pieces.now c.loop-piece.piece-index c.piece-item.result _ _ _ _ _ _ lt c.piece-item.is
          c.loop-piece.invariant.says c.in_ok-put_piece.ensures.ok;
      counted = omega arith;
    }
