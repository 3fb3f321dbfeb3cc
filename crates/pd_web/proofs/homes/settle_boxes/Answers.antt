use Rattle.std.proofs.Common.{◌≡◌, ℕ, length, ◌∙◌, subst, arith}
use Rattle.pd_web.specs.Homes.{AreKnown}
use Rattle.pd_web.proofs.SocketLemmas.{ports_few}
use Rattle.pd_web.proofs.HomeLemmas.{none_true, none_known, item_at, true_more, known_more}
use Rattle.pd_web.proofs.homes.settle_boxes.Goals as goal

pub loop-key-init : goal.loop-key-init
loop-key-init c = record {
  far = c.requires.far;
  told = none_true c.args.sockets.now c.args.homes.now c.requires.none;
  known = none_known c.args.sockets.now c.args.homes.now;
}

pub settle_box-requires : goal.settle_box-requires
settle_box-requires c = λ side.
    ports_few c.args.sockets.now side c.loop-key.key c.index-sockets-key.result c.requires.few
    (item_at c.args.sockets.now c.loop-key.key c.index-sockets-key.result c.loop-key-test.true c.index-sockets-key.is)

pub loop-key-preserved : goal.loop-key-preserved
loop-key-preserved c =
    let inv = c.loop-key.invariant in
    let s = c.settle_box.ensures in
    let at = item_at c.args.sockets.now c.loop-key.key c.index-sockets-key.result c.loop-key-test.true c.index-sockets-key.is in
    record {
      far = s.far ∙ inv.far;
      told = true_more c.args.sockets.now c.index-sockets-key.result c.loop-key.key c.loop-key.homes c.settle_box.new.homes at s inv.told;
      known = known_more c.args.sockets.now c.index-sockets-key.result c.loop-key.key c.loop-key.homes c.settle_box.new.homes at s c.requires.near inv.far inv.known;
    }

pub returns-clause-found : goal.returns-clause-found
returns-clause-found c =
    let P : ℕ → Type 0 = λ n. AreKnown c.args.sockets.now c.loop-key.homes n in
    let e : c.loop-key.key ≡ length c.args.sockets.now = omega arith in
    subst P e c.loop-key.invariant.known
