use Rattle.std.proofs.Common.{length, ap, arith}
use Rattle.std.proofs.lemmas.Result.{on_ok_weaker}
use Rattle.pd_wire.specs.Book.{Book}
use Rattle.pd_web.proofs.ChangeLemmas.{same_more}
use Rattle.pd_web.proofs.web.Web.set_end_aside.Goals as goal

pub make_spare-requires : goal.make_spare-requires
make_spare-requires c = let e = ap (λ (b : Book). b.spare_ends) c.in_ok-reserve_book.ensures.room in omega (arith, e)

pub returns-clause-same : goal.returns-clause-same
returns-clause-same c = same_more c.args.self.now c.reserve_book.new.self c.make_spare.new.self c.reserve_book.ensures.same c.make_spare.ensures.same

pub returns-clause-kept : goal.returns-clause-kept
returns-clause-kept c = λ k p n h. c.make_spare.ensures.kept k p n (c.reserve_book.ensures.kept k p n h)

pub returns-clause-more : goal.returns-clause-more
returns-clause-more c =
    on_ok_weaker c.make_spare.result (λ h. let e = ap length c.reserve_book.ensures.spare in omega (arith, e, h)) c.make_spare.ensures.more
