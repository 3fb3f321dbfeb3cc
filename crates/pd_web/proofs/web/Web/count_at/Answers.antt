use Rattle.std.proofs.Common.{◌≡◌, ℕ, List, length, slice_get, Option, Some, sym, ap, ◌∙◌, arith}
use Rattle.std.proofs.lemmas.List.{length-map}
use Rattle.std.specs.Option.{option_copied}
use Rattle.pd_web.specs.declared.sockets.Port.{Port}
use Rattle.pd_web.specs.declared.sockets.Sockets.{Sockets}
use Rattle.pd_web.specs.Sockets.{ports_in, jacks_of, side_ports}
use Rattle.pd_web.proofs.SocketLemmas.{ports_few}
use Rattle.pd_web.proofs.web.Web.count_at.Goals as goal

-- what was looked up
found : (all xs : List Sockets) (k : ℕ) (o : Option Sockets) (s : Sockets) → xs ≡ all → o ≡ slice_get xs k → o ≡ Some s → slice_get all k ≡ Some s
found all xs k o s a b e = ap (λ (ys : List Sockets). slice_get ys k) (sym a) ∙ sym b ∙ e

pub overflow_cast-result : goal.overflow_cast-result
overflow_cast-result c =
    let at = found c.args.self.now.sockets.items c.as_slice.result.now c.args.node (option_copied c.sockets_at.result) c.in-Some.own.now c.as_slice.ensures.value c.sockets_at.ensures (ap option_copied c.in-Some.is) in
    let h = ports_few c.args.self.now.sockets.items c.args.side c.args.node c.in-Some.own.now c.args.self.now.few at in
    let e = ap length c.ports.ensures in
    omega (arith, h, e)

pub returns-in-Some : goal.returns-in-Some
returns-in-Some c =
    let at = found c.args.self.now.sockets.items c.as_slice.result.now c.args.node (option_copied c.sockets_at.result) c.in-Some.own.now c.as_slice.ensures.value c.sockets_at.ensures (ap option_copied c.in-Some.is) in
    ap length c.ports.ensures ∙ sym (length-map (side_ports c.args.side c.in-Some.own.now) (λ (p : Port). p.jack)) ∙ ap (λ o. length (jacks_of (ports_in c.args.side o))) (sym at)

pub returns-in-None : goal.returns-in-None
returns-in-None c =
    ap (λ o. length (jacks_of (ports_in c.args.side o)))
    (sym (ap option_copied c.in-None.is) ∙ c.sockets_at.ensures ∙ ap (λ (ys : List Sockets). slice_get ys c.args.node) c.as_slice.ensures.value)
