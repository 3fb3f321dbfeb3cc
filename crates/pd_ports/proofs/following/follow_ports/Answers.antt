use Rattle.std.proofs.Common.{List, length, slice_get, sym, ap, ◌∙◌, subst, arith}
use Rattle.slab.specs.Slab.{get}
use Rattle.pd_web.specs.declared.jacks.Jack.{Jack}
use Rattle.pd_web.specs.Jacks.{jacks_at}
use Rattle.pd_web.specs.Homes.{inner_in}
use Rattle.pd_ports.specs.Moves.{AreOnce, FollowsPorts, KnowsSide}
use Rattle.pd_ports.specs.Known.{AreBareWithout}
use Rattle.pd_ports.proofs.OnceLemmas.{jacks_once}
use Rattle.pd_ports.proofs.LiveLemmas.{port_lives}
use Rattle.pd_ports.proofs.KnownLemmas.{followed_known}
use Rattle.pd_ports.proofs.FollowLemmas.{holder_lives, known_once, side_few, side_jacks, side_spots}
use Rattle.pd_ports.proofs.following.follow_ports.Goals as goal

pub gather_jacks-requires-clause-room : goal.gather_jacks-requires-clause-room
gather_jacks-requires-clause-room c = side_jacks c.args.grove.now c.args.key c.args.room c.args.side c.requires.lists

pub gather_jacks-requires-clause-spots : goal.gather_jacks-requires-clause-spots
gather_jacks-requires-clause-spots c = side_spots c.args.grove.now c.args.key c.args.room c.args.side c.requires.lists

pub set_ports-requires-clause-here : goal.set_ports-requires-clause-here
set_ports-requires-clause-here c = c.requires.near c.args.key (holder_lives (get c.args.grove.now.nodes c.args.key) c.requires.holds)

pub set_ports-requires-clause-near : goal.set_ports-requires-clause-near
set_ports-requires-clause-near c = λ m j h.
    let told = c.as_slice-told.ensures.value ∙ c.gather_jacks.ensures in
    c.requires.near j (port_lives c.args.grove.now j c.args.key m (record { side = c.args.side; told = ap (λ (js : List Jack). inner_in (slice_get js m)) (sym told) ∙ h }))

pub set_ports-requires-clause-fits : goal.set_ports-requires-clause-fits
set_ports-requires-clause-fits c =
    let e = ap length (c.as_slice-told.ensures.value ∙ c.gather_jacks.ensures) in
    let f = c.side_list-list.ensures.fits (λ side. length (jacks_at side c.args.grove.now c.args.key)) c.requires.lists.inlets_fit c.requires.lists.outlets_fit in
    omega (arith, e, f)

pub set_ports-requires-clause-few : goal.set_ports-requires-clause-few
set_ports-requires-clause-few c =
    let e = ap length (c.as_slice-told.ensures.value ∙ c.gather_jacks.ensures) in
    let f = side_few c.args.grove.now c.args.key c.args.room c.args.side c.requires.lists in
    omega (arith, e, f)

pub set_ports-requires-clause-once : goal.set_ports-requires-clause-once
set_ports-requires-clause-once c =
    subst AreOnce (sym (c.as_slice-told.ensures.value ∙ c.gather_jacks.ensures)) (jacks_once c.args.grove.now c.args.side c.args.key c.requires.own)

pub set_ports-requires-clause-once_before : goal.set_ports-requires-clause-once_before
set_ports-requires-clause-once_before c = known_once c.args.web.now c.args.side c.args.key c.requires.known

pub set_ports-requires-clause-gone : goal.set_ports-requires-clause-gone
set_ports-requires-clause-gone c =
    let P : List Jack → Type 0 = λ jacks. AreBareWithout c.args.web.now c.args.key c.args.side jacks in
    subst P (sym (c.as_slice-told.ensures.value ∙ c.gather_jacks.ensures)) c.requires.gone

pub returns-clause-follows : goal.returns-clause-follows
returns-clause-follows c =
    let P : List Jack → Type 0 = λ jacks. FollowsPorts c.args.web.now c.set_ports.new.web c.args.key c.args.side jacks in
    subst P (c.as_slice-told.ensures.value ∙ c.gather_jacks.ensures) c.set_ports.ensures.follows

pub returns-clause-known : goal.returns-clause-known
returns-clause-known c =
    let P : List Jack → Type 0 = λ jacks. FollowsPorts c.args.web.now c.set_ports.new.web c.args.key c.args.side jacks in
    let Q : List Jack → Type 0 = λ jacks. KnowsSide c.args.web.now c.set_ports.new.web c.args.key c.args.side jacks in
    let told = c.as_slice-told.ensures.value ∙ c.gather_jacks.ensures in
    followed_known c.args.web.now c.set_ports.new.web c.args.key c.args.side (jacks_at c.args.side c.args.grove.now c.args.key) (subst P told c.set_ports.ensures.follows)
    (subst Q told c.set_ports.ensures.homes) c.requires.free c.requires.known
