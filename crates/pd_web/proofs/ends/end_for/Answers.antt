use Rattle.std.proofs.Common.{◌≡◌, ◌∙◌, ℕ, sym, subst}
use Rattle.pd_web.specs.Sockets.{IsAt}
use Rattle.pd_web.proofs.EndLemmas.{tied_more}
use Rattle.pd_web.proofs.ends.end_for.Goals as goal

pub returns-clause-tied : goal.returns-clause-tied
returns-clause-tied c =
    let h = c.in-Ok.ensures in
    let e : c.in_ok-end.end ≡ c.in-Ok.number = sym (h.1 ∙ c.number.ensures) in
    let P : ℕ → Type 0 = λ n. IsAt c.make_end.new.spots.items c.make_end.new.book n c.args.spot in
    tied_more c.args.sockets.now c.put_end.new.sockets c.args.spots.now.items c.make_end.new.spots.items c.args.book.now c.make_end.new.book c.args.spot c.in-Ok.number
    c.requires.tied c.in_ok-end.ensures.grows (subst P e c.in_ok-end.ensures.at) c.put_end.ensures
