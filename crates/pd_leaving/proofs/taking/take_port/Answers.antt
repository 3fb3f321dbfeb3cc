use Rattle.std.proofs.Common.{◌≡◌, ◌+◌, ◌<◌, ◌≤◌, false, [], length, IsSome, refl, sym, ◌∙◌, subst}
use Rattle.pd_web.specs.Hops.{ports_told}
use Rattle.pd_web.specs.Jacks.{jacks_at}
use Rattle.pd_grove.specs.declared.ports.Side.TheVariants.{Inlets, Outlets}
use Rattle.pd_patch.specs.declared.patch.Patch.{Patch}
use Rattle.pd_clearing.proofs.ClearLemmas.{as_many}
use Rattle.pd_following.proofs.ComeLemmas.{fewer_lists}
use Rattle.pd_following.proofs.PutLemmas.{reaches_still}
use Rattle.pd_following.specs.Ports.{port_jack}
use Rattle.pd_leaving.specs.Leaving.{LeavesPort}
use Rattle.pd_leaving.proofs.TakeLemmas.{blocks_lost, built_then, can_then, held_then, holder_lives, key_lives, leaf_then, live_then, none_then, orders_then, port_then, ports_then, room_then, stands_then, told_then, values_then}
use Rattle.pd_leaving.proofs.GoneLemmas.{bare_out, free_out, holder_other, holds_now, live_before, no_fewer, one_more, ports_had, F}
use Rattle.pd_leaving.proofs.AfterLemmas.{lost_built, lost_can}
use Rattle.pd_misfits.specs.Shedding.{AreWiresAt, Sheds}
use Rattle.pd_leaving.proofs.taking.take_port.Goals as goal

pub loosen_wires-left-requires-clause-wires : goal.loosen_wires-left-requires-clause-wires
loosen_wires-left-requires-clause-wires g c =
    subst (AreWiresAt c.args.patch.now.web c.args.loss.port.node) (sym c.as_slice.ensures.value) c.requires.room.at

pub take_out-requires-clause-can : goal.take_out-requires-clause-can
take_out-requires-clause-can g c =
    can_then c.args.patch.now c.loosen_wires-left.new.patch c.loosen-left.new.patch c.args.place c.args.loss.key c.args.loss.port.node c.args.loss.port.side c.args.loss.port.port c.args.steps.now c.loosen_wires-left.new.steps c.loosen-left.new.steps c.requires.can c.loosen_wires-left.ensures.loosens (subst (Sheds c.args.patch.now.web c.loosen_wires-left.new.patch.web) (c.as_slice.ensures.value ∙ c.requires.room.wires) c.loosen_wires-left.ensures.sheds) c.loosen-left.ensures.loosens c.loosen-left.ensures.wires

pub take_out-requires-clause-is : goal.take_out-requires-clause-is
take_out-requires-clause-is g c =
    stands_then c.args.patch.now c.loosen_wires-left.new.patch c.loosen-left.new.patch c.args.place c.args.loss.key c.args.loss.port.node c.args.loss.port.side c.args.loss.port.port c.args.steps.now c.loosen_wires-left.new.steps c.loosen-left.new.steps c.requires.can c.loosen_wires-left.ensures.loosens (subst (Sheds c.args.patch.now.web c.loosen_wires-left.new.patch.web) (c.as_slice.ensures.value ∙ c.requires.room.wires) c.loosen_wires-left.ensures.sheds) c.loosen-left.ensures.loosens c.loosen-left.ensures.wires

pub take_out-requires-clause-leaf : goal.take_out-requires-clause-leaf
take_out-requires-clause-leaf g c =
    leaf_then c.args.patch.now c.loosen_wires-left.new.patch c.loosen-left.new.patch c.args.place c.args.loss.key c.args.loss.port.node c.args.loss.port.side c.args.loss.port.port c.args.steps.now c.loosen_wires-left.new.steps c.loosen-left.new.steps c.requires.can c.loosen_wires-left.ensures.loosens (subst (Sheds c.args.patch.now.web c.loosen_wires-left.new.patch.web) (c.as_slice.ensures.value ∙ c.requires.room.wires) c.loosen_wires-left.ensures.sheds) c.loosen-left.ensures.loosens c.loosen-left.ensures.wires

pub take_out-requires-clause-reached : goal.take_out-requires-clause-reached
take_out-requires-clause-reached g c =
    subst (λ vs. c.args.loss.key < length vs.items) (sym (values_then c.args.patch.now c.loosen_wires-left.new.patch c.loosen-left.new.patch c.args.place c.args.loss.key c.args.loss.port.node c.args.loss.port.side c.args.loss.port.port c.args.steps.now c.loosen_wires-left.new.steps c.loosen-left.new.steps c.requires.can c.loosen_wires-left.ensures.loosens (subst (Sheds c.args.patch.now.web c.loosen_wires-left.new.patch.web) (c.as_slice.ensures.value ∙ c.requires.room.wires) c.loosen_wires-left.ensures.sheds) c.loosen-left.ensures.loosens c.loosen-left.ensures.wires)) (c.requires.can.reached c.args.loss.key (key_lives c.args.patch.now c.loosen_wires-left.new.patch c.loosen-left.new.patch c.args.place c.args.loss.key c.args.loss.port.node c.args.loss.port.side c.args.loss.port.port c.args.steps.now c.loosen_wires-left.new.steps c.loosen-left.new.steps c.requires.can c.loosen_wires-left.ensures.loosens (subst (Sheds c.args.patch.now.web c.loosen_wires-left.new.patch.web) (c.as_slice.ensures.value ∙ c.requires.room.wires) c.loosen_wires-left.ensures.sheds) c.loosen-left.ensures.loosens c.loosen-left.ensures.wires))

pub take_out-requires-clause-near : goal.take_out-requires-clause-near
take_out-requires-clause-near g c =
    room_then c.args.patch.now c.loosen_wires-left.new.patch c.loosen-left.new.patch c.args.place c.args.loss.key c.args.loss.port.node c.args.loss.port.side c.args.loss.port.port c.args.steps.now c.loosen_wires-left.new.steps c.loosen-left.new.steps c.requires.can c.loosen_wires-left.ensures.loosens (subst (Sheds c.args.patch.now.web c.loosen_wires-left.new.patch.web) (c.as_slice.ensures.value ∙ c.requires.room.wires) c.loosen_wires-left.ensures.sheds) c.loosen-left.ensures.loosens c.loosen-left.ensures.wires (c.args.loss.key + 1) 0 0 (c.requires.room.near c.args.loss.key (key_lives c.args.patch.now c.loosen_wires-left.new.patch c.loosen-left.new.patch c.args.place c.args.loss.key c.args.loss.port.node c.args.loss.port.side c.args.loss.port.port c.args.steps.now c.loosen_wires-left.new.steps c.loosen-left.new.steps c.requires.can c.loosen_wires-left.ensures.loosens (subst (Sheds c.args.patch.now.web c.loosen_wires-left.new.patch.web) (c.as_slice.ensures.value ∙ c.requires.room.wires) c.loosen_wires-left.ensures.sheds) c.loosen-left.ensures.loosens c.loosen-left.ensures.wires))

pub leave_port-requires-clause-holds : goal.leave_port-requires-clause-holds
leave_port-requires-clause-holds g c =
    subst (λ o. IsSome o) (sym (holds_now c.loosen-left.new.patch c.take_out.new.patch c.args.symbols.now c.args.place c.args.loss.key (can_then c.args.patch.now c.loosen_wires-left.new.patch c.loosen-left.new.patch c.args.place c.args.loss.key c.args.loss.port.node c.args.loss.port.side c.args.loss.port.port c.args.steps.now c.loosen_wires-left.new.steps c.loosen-left.new.steps c.requires.can c.loosen_wires-left.ensures.loosens (subst (Sheds c.args.patch.now.web c.loosen_wires-left.new.patch.web) (c.as_slice.ensures.value ∙ c.requires.room.wires) c.loosen_wires-left.ensures.sheds) c.loosen-left.ensures.loosens c.loosen-left.ensures.wires) (stands_then c.args.patch.now c.loosen_wires-left.new.patch c.loosen-left.new.patch c.args.place c.args.loss.key c.args.loss.port.node c.args.loss.port.side c.args.loss.port.port c.args.steps.now c.loosen_wires-left.new.steps c.loosen-left.new.steps c.requires.can c.loosen_wires-left.ensures.loosens (subst (Sheds c.args.patch.now.web c.loosen_wires-left.new.patch.web) (c.as_slice.ensures.value ∙ c.requires.room.wires) c.loosen_wires-left.ensures.sheds) c.loosen-left.ensures.loosens c.loosen-left.ensures.wires) (leaf_then c.args.patch.now c.loosen_wires-left.new.patch c.loosen-left.new.patch c.args.place c.args.loss.key c.args.loss.port.node c.args.loss.port.side c.args.loss.port.port c.args.steps.now c.loosen_wires-left.new.steps c.loosen-left.new.steps c.requires.can c.loosen_wires-left.ensures.loosens (subst (Sheds c.args.patch.now.web c.loosen_wires-left.new.patch.web) (c.as_slice.ensures.value ∙ c.requires.room.wires) c.loosen_wires-left.ensures.sheds) c.loosen-left.ensures.loosens c.loosen-left.ensures.wires) c.loosen-left.ensures.wires.meet c.loosen-left.ensures.wires.bare c.take_out.ensures.out c.take_out.ensures.known c.take_out.ensures.lacks c.take_out.ensures.room c.args.loss.port.node (held_then c.args.patch.now c.loosen_wires-left.new.patch c.loosen-left.new.patch c.args.place c.args.loss.key c.args.loss.port.node c.args.loss.port.side c.args.loss.port.port c.args.steps.now c.loosen_wires-left.new.steps c.loosen-left.new.steps c.requires.can c.loosen_wires-left.ensures.loosens (subst (Sheds c.args.patch.now.web c.loosen_wires-left.new.patch.web) (c.as_slice.ensures.value ∙ c.requires.room.wires) c.loosen_wires-left.ensures.sheds) c.loosen-left.ensures.loosens c.loosen-left.ensures.wires) c.args.loss.port.side (port_then c.args.patch.now c.loosen_wires-left.new.patch c.loosen-left.new.patch c.args.place c.args.loss.key c.args.loss.port.node c.args.loss.port.side c.args.loss.port.port c.args.steps.now c.loosen_wires-left.new.steps c.loosen-left.new.steps c.requires.can c.loosen_wires-left.ensures.loosens (subst (Sheds c.args.patch.now.web c.loosen_wires-left.new.patch.web) (c.as_slice.ensures.value ∙ c.requires.room.wires) c.loosen_wires-left.ensures.sheds) c.loosen-left.ensures.loosens c.loosen-left.ensures.wires c.take_out.ensures.out.node c.take_out.ensures.out.grove.was))) refl

pub leave_port-requires-clause-own : goal.leave_port-requires-clause-own
leave_port-requires-clause-own g c =
    (F c.loosen-left.new.patch c.take_out.new.patch c.args.symbols.now c.args.place c.args.loss.key (can_then c.args.patch.now c.loosen_wires-left.new.patch c.loosen-left.new.patch c.args.place c.args.loss.key c.args.loss.port.node c.args.loss.port.side c.args.loss.port.port c.args.steps.now c.loosen_wires-left.new.steps c.loosen-left.new.steps c.requires.can c.loosen_wires-left.ensures.loosens (subst (Sheds c.args.patch.now.web c.loosen_wires-left.new.patch.web) (c.as_slice.ensures.value ∙ c.requires.room.wires) c.loosen_wires-left.ensures.sheds) c.loosen-left.ensures.loosens c.loosen-left.ensures.wires) (stands_then c.args.patch.now c.loosen_wires-left.new.patch c.loosen-left.new.patch c.args.place c.args.loss.key c.args.loss.port.node c.args.loss.port.side c.args.loss.port.port c.args.steps.now c.loosen_wires-left.new.steps c.loosen-left.new.steps c.requires.can c.loosen_wires-left.ensures.loosens (subst (Sheds c.args.patch.now.web c.loosen_wires-left.new.patch.web) (c.as_slice.ensures.value ∙ c.requires.room.wires) c.loosen_wires-left.ensures.sheds) c.loosen-left.ensures.loosens c.loosen-left.ensures.wires) (leaf_then c.args.patch.now c.loosen_wires-left.new.patch c.loosen-left.new.patch c.args.place c.args.loss.key c.args.loss.port.node c.args.loss.port.side c.args.loss.port.port c.args.steps.now c.loosen_wires-left.new.steps c.loosen-left.new.steps c.requires.can c.loosen_wires-left.ensures.loosens (subst (Sheds c.args.patch.now.web c.loosen_wires-left.new.patch.web) (c.as_slice.ensures.value ∙ c.requires.room.wires) c.loosen_wires-left.ensures.sheds) c.loosen-left.ensures.loosens c.loosen-left.ensures.wires) c.loosen-left.ensures.wires.meet c.loosen-left.ensures.wires.bare c.take_out.ensures.out c.take_out.ensures.known c.take_out.ensures.lacks c.take_out.ensures.room).own

pub leave_port-requires-clause-near : goal.leave_port-requires-clause-near
leave_port-requires-clause-near g c =
    λ k s. c.take_out.ensures.room (k + 1) 0 0 (room_then c.args.patch.now c.loosen_wires-left.new.patch c.loosen-left.new.patch c.args.place c.args.loss.key c.args.loss.port.node c.args.loss.port.side c.args.loss.port.port c.args.steps.now c.loosen_wires-left.new.steps c.loosen-left.new.steps c.requires.can c.loosen_wires-left.ensures.loosens (subst (Sheds c.args.patch.now.web c.loosen_wires-left.new.patch.web) (c.as_slice.ensures.value ∙ c.requires.room.wires) c.loosen_wires-left.ensures.sheds) c.loosen-left.ensures.loosens c.loosen-left.ensures.wires (k + 1) 0 0 (c.requires.room.near k (live_then c.args.patch.now c.loosen_wires-left.new.patch c.loosen-left.new.patch c.args.place c.args.loss.key c.args.loss.port.node c.args.loss.port.side c.args.loss.port.port c.args.steps.now c.loosen_wires-left.new.steps c.loosen-left.new.steps c.requires.can c.loosen_wires-left.ensures.loosens (subst (Sheds c.args.patch.now.web c.loosen_wires-left.new.patch.web) (c.as_slice.ensures.value ∙ c.requires.room.wires) c.loosen_wires-left.ensures.sheds) c.loosen-left.ensures.loosens c.loosen-left.ensures.wires k (live_before c.loosen-left.new.patch c.take_out.new.patch c.args.symbols.now c.args.place c.args.loss.key (can_then c.args.patch.now c.loosen_wires-left.new.patch c.loosen-left.new.patch c.args.place c.args.loss.key c.args.loss.port.node c.args.loss.port.side c.args.loss.port.port c.args.steps.now c.loosen_wires-left.new.steps c.loosen-left.new.steps c.requires.can c.loosen_wires-left.ensures.loosens (subst (Sheds c.args.patch.now.web c.loosen_wires-left.new.patch.web) (c.as_slice.ensures.value ∙ c.requires.room.wires) c.loosen_wires-left.ensures.sheds) c.loosen-left.ensures.loosens c.loosen-left.ensures.wires) (stands_then c.args.patch.now c.loosen_wires-left.new.patch c.loosen-left.new.patch c.args.place c.args.loss.key c.args.loss.port.node c.args.loss.port.side c.args.loss.port.port c.args.steps.now c.loosen_wires-left.new.steps c.loosen-left.new.steps c.requires.can c.loosen_wires-left.ensures.loosens (subst (Sheds c.args.patch.now.web c.loosen_wires-left.new.patch.web) (c.as_slice.ensures.value ∙ c.requires.room.wires) c.loosen_wires-left.ensures.sheds) c.loosen-left.ensures.loosens c.loosen-left.ensures.wires) (leaf_then c.args.patch.now c.loosen_wires-left.new.patch c.loosen-left.new.patch c.args.place c.args.loss.key c.args.loss.port.node c.args.loss.port.side c.args.loss.port.port c.args.steps.now c.loosen_wires-left.new.steps c.loosen-left.new.steps c.requires.can c.loosen_wires-left.ensures.loosens (subst (Sheds c.args.patch.now.web c.loosen_wires-left.new.patch.web) (c.as_slice.ensures.value ∙ c.requires.room.wires) c.loosen_wires-left.ensures.sheds) c.loosen-left.ensures.loosens c.loosen-left.ensures.wires) c.loosen-left.ensures.wires.meet c.loosen-left.ensures.wires.bare c.take_out.ensures.out c.take_out.ensures.known c.take_out.ensures.lacks c.take_out.ensures.room k s))))

pub leave_port-requires-clause-lists : goal.leave_port-requires-clause-lists
leave_port-requires-clause-lists g c =
    let o = c.take_out.new.patch in
    let holder = c.args.loss.port.node in
    let few = no_fewer c.loosen-left.new.patch c.take_out.new.patch c.args.symbols.now c.args.place c.args.loss.key (can_then c.args.patch.now c.loosen_wires-left.new.patch c.loosen-left.new.patch c.args.place c.args.loss.key c.args.loss.port.node c.args.loss.port.side c.args.loss.port.port c.args.steps.now c.loosen_wires-left.new.steps c.loosen-left.new.steps c.requires.can c.loosen_wires-left.ensures.loosens (subst (Sheds c.args.patch.now.web c.loosen_wires-left.new.patch.web) (c.as_slice.ensures.value ∙ c.requires.room.wires) c.loosen_wires-left.ensures.sheds) c.loosen-left.ensures.loosens c.loosen-left.ensures.wires) (stands_then c.args.patch.now c.loosen_wires-left.new.patch c.loosen-left.new.patch c.args.place c.args.loss.key c.args.loss.port.node c.args.loss.port.side c.args.loss.port.port c.args.steps.now c.loosen_wires-left.new.steps c.loosen-left.new.steps c.requires.can c.loosen_wires-left.ensures.loosens (subst (Sheds c.args.patch.now.web c.loosen_wires-left.new.patch.web) (c.as_slice.ensures.value ∙ c.requires.room.wires) c.loosen_wires-left.ensures.sheds) c.loosen-left.ensures.loosens c.loosen-left.ensures.wires) (leaf_then c.args.patch.now c.loosen_wires-left.new.patch c.loosen-left.new.patch c.args.place c.args.loss.key c.args.loss.port.node c.args.loss.port.side c.args.loss.port.port c.args.steps.now c.loosen_wires-left.new.steps c.loosen-left.new.steps c.requires.can c.loosen_wires-left.ensures.loosens (subst (Sheds c.args.patch.now.web c.loosen_wires-left.new.patch.web) (c.as_slice.ensures.value ∙ c.requires.room.wires) c.loosen_wires-left.ensures.sheds) c.loosen-left.ensures.loosens c.loosen-left.ensures.wires) c.loosen-left.ensures.wires.meet c.loosen-left.ensures.wires.bare c.take_out.ensures.out c.take_out.ensures.known c.take_out.ensures.lacks c.take_out.ensures.room c.args.loss.port.node (held_then c.args.patch.now c.loosen_wires-left.new.patch c.loosen-left.new.patch c.args.place c.args.loss.key c.args.loss.port.node c.args.loss.port.side c.args.loss.port.port c.args.steps.now c.loosen_wires-left.new.steps c.loosen-left.new.steps c.requires.can c.loosen_wires-left.ensures.loosens (subst (Sheds c.args.patch.now.web c.loosen_wires-left.new.patch.web) (c.as_slice.ensures.value ∙ c.requires.room.wires) c.loosen_wires-left.ensures.sheds) c.loosen-left.ensures.loosens c.loosen-left.ensures.wires) c.args.loss.port.side (port_then c.args.patch.now c.loosen_wires-left.new.patch c.loosen-left.new.patch c.args.place c.args.loss.key c.args.loss.port.node c.args.loss.port.side c.args.loss.port.port c.args.steps.now c.loosen_wires-left.new.steps c.loosen-left.new.steps c.requires.can c.loosen_wires-left.ensures.loosens (subst (Sheds c.args.patch.now.web c.loosen_wires-left.new.patch.web) (c.as_slice.ensures.value ∙ c.requires.room.wires) c.loosen_wires-left.ensures.sheds) c.loosen-left.ensures.loosens c.loosen-left.ensures.wires c.take_out.ensures.out.node c.take_out.ensures.out.grove.was) c.args.loss.port.port (told_then c.args.patch.now c.loosen_wires-left.new.patch c.loosen-left.new.patch c.args.place c.args.loss.key c.args.loss.port.node c.args.loss.port.side c.args.loss.port.port c.args.steps.now c.loosen_wires-left.new.steps c.loosen-left.new.steps c.requires.can c.loosen_wires-left.ensures.loosens (subst (Sheds c.args.patch.now.web c.loosen_wires-left.new.patch.web) (c.as_slice.ensures.value ∙ c.requires.room.wires) c.loosen_wires-left.ensures.sheds) c.loosen-left.ensures.loosens c.loosen-left.ensures.wires) in
    fewer_lists c.args.loss.around (length (ports_told c.args.patch.now.web Inlets holder)) (length (ports_told c.args.patch.now.web Outlets holder)) (length (jacks_at Inlets o.grove holder)) (length (jacks_at Outlets o.grove holder))
    (subst (λ js. length (jacks_at Inlets o.grove holder) ≤ length js) (ports_then c.args.patch.now c.loosen_wires-left.new.patch c.loosen-left.new.patch c.args.place c.args.loss.key c.args.loss.port.node c.args.loss.port.side c.args.loss.port.port c.args.steps.now c.loosen_wires-left.new.steps c.loosen-left.new.steps c.requires.can c.loosen_wires-left.ensures.loosens (subst (Sheds c.args.patch.now.web c.loosen_wires-left.new.patch.web) (c.as_slice.ensures.value ∙ c.requires.room.wires) c.loosen_wires-left.ensures.sheds) c.loosen-left.ensures.loosens c.loosen-left.ensures.wires Inlets holder) (few Inlets))
    (subst (λ js. length (jacks_at Outlets o.grove holder) ≤ length js) (ports_then c.args.patch.now c.loosen_wires-left.new.patch c.loosen-left.new.patch c.args.place c.args.loss.key c.args.loss.port.node c.args.loss.port.side c.args.loss.port.port c.args.steps.now c.loosen_wires-left.new.steps c.loosen-left.new.steps c.requires.can c.loosen_wires-left.ensures.loosens (subst (Sheds c.args.patch.now.web c.loosen_wires-left.new.patch.web) (c.as_slice.ensures.value ∙ c.requires.room.wires) c.loosen_wires-left.ensures.sheds) c.loosen-left.ensures.loosens c.loosen-left.ensures.wires Outlets holder) (few Outlets)) c.requires.room.lists

pub leave_port-requires-clause-free : goal.leave_port-requires-clause-free
leave_port-requires-clause-free g c =
    free_out c.loosen-left.new.patch c.take_out.new.patch c.args.symbols.now c.args.place c.args.loss.key (can_then c.args.patch.now c.loosen_wires-left.new.patch c.loosen-left.new.patch c.args.place c.args.loss.key c.args.loss.port.node c.args.loss.port.side c.args.loss.port.port c.args.steps.now c.loosen_wires-left.new.steps c.loosen-left.new.steps c.requires.can c.loosen_wires-left.ensures.loosens (subst (Sheds c.args.patch.now.web c.loosen_wires-left.new.patch.web) (c.as_slice.ensures.value ∙ c.requires.room.wires) c.loosen_wires-left.ensures.sheds) c.loosen-left.ensures.loosens c.loosen-left.ensures.wires) (stands_then c.args.patch.now c.loosen_wires-left.new.patch c.loosen-left.new.patch c.args.place c.args.loss.key c.args.loss.port.node c.args.loss.port.side c.args.loss.port.port c.args.steps.now c.loosen_wires-left.new.steps c.loosen-left.new.steps c.requires.can c.loosen_wires-left.ensures.loosens (subst (Sheds c.args.patch.now.web c.loosen_wires-left.new.patch.web) (c.as_slice.ensures.value ∙ c.requires.room.wires) c.loosen_wires-left.ensures.sheds) c.loosen-left.ensures.loosens c.loosen-left.ensures.wires) (leaf_then c.args.patch.now c.loosen_wires-left.new.patch c.loosen-left.new.patch c.args.place c.args.loss.key c.args.loss.port.node c.args.loss.port.side c.args.loss.port.port c.args.steps.now c.loosen_wires-left.new.steps c.loosen-left.new.steps c.requires.can c.loosen_wires-left.ensures.loosens (subst (Sheds c.args.patch.now.web c.loosen_wires-left.new.patch.web) (c.as_slice.ensures.value ∙ c.requires.room.wires) c.loosen_wires-left.ensures.sheds) c.loosen-left.ensures.loosens c.loosen-left.ensures.wires) c.loosen-left.ensures.wires.meet c.loosen-left.ensures.wires.bare c.take_out.ensures.out c.take_out.ensures.known c.take_out.ensures.lacks c.take_out.ensures.room c.args.loss.port.node (held_then c.args.patch.now c.loosen_wires-left.new.patch c.loosen-left.new.patch c.args.place c.args.loss.key c.args.loss.port.node c.args.loss.port.side c.args.loss.port.port c.args.steps.now c.loosen_wires-left.new.steps c.loosen-left.new.steps c.requires.can c.loosen_wires-left.ensures.loosens (subst (Sheds c.args.patch.now.web c.loosen_wires-left.new.patch.web) (c.as_slice.ensures.value ∙ c.requires.room.wires) c.loosen_wires-left.ensures.sheds) c.loosen-left.ensures.loosens c.loosen-left.ensures.wires) c.args.loss.port.side (port_then c.args.patch.now c.loosen_wires-left.new.patch c.loosen-left.new.patch c.args.place c.args.loss.key c.args.loss.port.node c.args.loss.port.side c.args.loss.port.port c.args.steps.now c.loosen_wires-left.new.steps c.loosen-left.new.steps c.requires.can c.loosen_wires-left.ensures.loosens (subst (Sheds c.args.patch.now.web c.loosen_wires-left.new.patch.web) (c.as_slice.ensures.value ∙ c.requires.room.wires) c.loosen_wires-left.ensures.sheds) c.loosen-left.ensures.loosens c.loosen-left.ensures.wires c.take_out.ensures.out.node c.take_out.ensures.out.grove.was) c.args.loss.port.port (told_then c.args.patch.now c.loosen_wires-left.new.patch c.loosen-left.new.patch c.args.place c.args.loss.key c.args.loss.port.node c.args.loss.port.side c.args.loss.port.port c.args.steps.now c.loosen_wires-left.new.steps c.loosen-left.new.steps c.requires.can c.loosen_wires-left.ensures.loosens (subst (Sheds c.args.patch.now.web c.loosen_wires-left.new.patch.web) (c.as_slice.ensures.value ∙ c.requires.room.wires) c.loosen_wires-left.ensures.sheds) c.loosen-left.ensures.loosens c.loosen-left.ensures.wires)

pub leave_port-requires-clause-gone : goal.leave_port-requires-clause-gone
leave_port-requires-clause-gone g c =
    bare_out c.loosen-left.new.patch c.take_out.new.patch c.args.symbols.now c.args.place c.args.loss.key (can_then c.args.patch.now c.loosen_wires-left.new.patch c.loosen-left.new.patch c.args.place c.args.loss.key c.args.loss.port.node c.args.loss.port.side c.args.loss.port.port c.args.steps.now c.loosen_wires-left.new.steps c.loosen-left.new.steps c.requires.can c.loosen_wires-left.ensures.loosens (subst (Sheds c.args.patch.now.web c.loosen_wires-left.new.patch.web) (c.as_slice.ensures.value ∙ c.requires.room.wires) c.loosen_wires-left.ensures.sheds) c.loosen-left.ensures.loosens c.loosen-left.ensures.wires) (stands_then c.args.patch.now c.loosen_wires-left.new.patch c.loosen-left.new.patch c.args.place c.args.loss.key c.args.loss.port.node c.args.loss.port.side c.args.loss.port.port c.args.steps.now c.loosen_wires-left.new.steps c.loosen-left.new.steps c.requires.can c.loosen_wires-left.ensures.loosens (subst (Sheds c.args.patch.now.web c.loosen_wires-left.new.patch.web) (c.as_slice.ensures.value ∙ c.requires.room.wires) c.loosen_wires-left.ensures.sheds) c.loosen-left.ensures.loosens c.loosen-left.ensures.wires) (leaf_then c.args.patch.now c.loosen_wires-left.new.patch c.loosen-left.new.patch c.args.place c.args.loss.key c.args.loss.port.node c.args.loss.port.side c.args.loss.port.port c.args.steps.now c.loosen_wires-left.new.steps c.loosen-left.new.steps c.requires.can c.loosen_wires-left.ensures.loosens (subst (Sheds c.args.patch.now.web c.loosen_wires-left.new.patch.web) (c.as_slice.ensures.value ∙ c.requires.room.wires) c.loosen_wires-left.ensures.sheds) c.loosen-left.ensures.loosens c.loosen-left.ensures.wires) c.loosen-left.ensures.wires.meet c.loosen-left.ensures.wires.bare c.take_out.ensures.out c.take_out.ensures.known c.take_out.ensures.lacks c.take_out.ensures.room c.args.loss.port.node (held_then c.args.patch.now c.loosen_wires-left.new.patch c.loosen-left.new.patch c.args.place c.args.loss.key c.args.loss.port.node c.args.loss.port.side c.args.loss.port.port c.args.steps.now c.loosen_wires-left.new.steps c.loosen-left.new.steps c.requires.can c.loosen_wires-left.ensures.loosens (subst (Sheds c.args.patch.now.web c.loosen_wires-left.new.patch.web) (c.as_slice.ensures.value ∙ c.requires.room.wires) c.loosen_wires-left.ensures.sheds) c.loosen-left.ensures.loosens c.loosen-left.ensures.wires) c.args.loss.port.side (port_then c.args.patch.now c.loosen_wires-left.new.patch c.loosen-left.new.patch c.args.place c.args.loss.key c.args.loss.port.node c.args.loss.port.side c.args.loss.port.port c.args.steps.now c.loosen_wires-left.new.steps c.loosen-left.new.steps c.requires.can c.loosen_wires-left.ensures.loosens (subst (Sheds c.args.patch.now.web c.loosen_wires-left.new.patch.web) (c.as_slice.ensures.value ∙ c.requires.room.wires) c.loosen_wires-left.ensures.sheds) c.loosen-left.ensures.loosens c.loosen-left.ensures.wires c.take_out.ensures.out.node c.take_out.ensures.out.grove.was) c.args.loss.port.port (told_then c.args.patch.now c.loosen_wires-left.new.patch c.loosen-left.new.patch c.args.place c.args.loss.key c.args.loss.port.node c.args.loss.port.side c.args.loss.port.port c.args.steps.now c.loosen_wires-left.new.steps c.loosen-left.new.steps c.requires.can c.loosen_wires-left.ensures.loosens (subst (Sheds c.args.patch.now.web c.loosen_wires-left.new.patch.web) (c.as_slice.ensures.value ∙ c.requires.room.wires) c.loosen_wires-left.ensures.sheds) c.loosen-left.ensures.loosens c.loosen-left.ensures.wires) (none_then c.args.patch.now c.loosen_wires-left.new.patch c.loosen-left.new.patch c.args.place c.args.loss.key c.args.loss.port.node c.args.loss.port.side c.args.loss.port.port c.args.steps.now c.loosen_wires-left.new.steps c.loosen-left.new.steps c.requires.can c.loosen_wires-left.ensures.loosens (subst (Sheds c.args.patch.now.web c.loosen_wires-left.new.patch.web) (c.as_slice.ensures.value ∙ c.requires.room.wires) c.loosen_wires-left.ensures.sheds) c.loosen-left.ensures.loosens c.loosen-left.ensures.wires)

pub leave_port-requires-clause-meet : goal.leave_port-requires-clause-meet
leave_port-requires-clause-meet g c =
    c.wires_still_meet.ensures c.loosen-left.new.patch.web c.take_out.new.patch.web c.args.loss.key (λ _. []) false c.take_out.ensures.out.ports c.loosen-left.ensures.wires.meet

pub leave_blocks-requires : goal.leave_blocks-requires
leave_blocks-requires g c =
    reaches_still (λ b. b.items) c.loosen-left.new.patch.values.items c.take_out.new.patch.values.items c.args.loss.port.node (c.take_out.ensures.out.blocks.others c.args.loss.port.node (holder_other c.loosen-left.new.patch c.take_out.new.patch c.args.symbols.now c.args.place c.args.loss.key (can_then c.args.patch.now c.loosen_wires-left.new.patch c.loosen-left.new.patch c.args.place c.args.loss.key c.args.loss.port.node c.args.loss.port.side c.args.loss.port.port c.args.steps.now c.loosen_wires-left.new.steps c.loosen-left.new.steps c.requires.can c.loosen_wires-left.ensures.loosens (subst (Sheds c.args.patch.now.web c.loosen_wires-left.new.patch.web) (c.as_slice.ensures.value ∙ c.requires.room.wires) c.loosen_wires-left.ensures.sheds) c.loosen-left.ensures.loosens c.loosen-left.ensures.wires) (stands_then c.args.patch.now c.loosen_wires-left.new.patch c.loosen-left.new.patch c.args.place c.args.loss.key c.args.loss.port.node c.args.loss.port.side c.args.loss.port.port c.args.steps.now c.loosen_wires-left.new.steps c.loosen-left.new.steps c.requires.can c.loosen_wires-left.ensures.loosens (subst (Sheds c.args.patch.now.web c.loosen_wires-left.new.patch.web) (c.as_slice.ensures.value ∙ c.requires.room.wires) c.loosen_wires-left.ensures.sheds) c.loosen-left.ensures.loosens c.loosen-left.ensures.wires) (leaf_then c.args.patch.now c.loosen_wires-left.new.patch c.loosen-left.new.patch c.args.place c.args.loss.key c.args.loss.port.node c.args.loss.port.side c.args.loss.port.port c.args.steps.now c.loosen_wires-left.new.steps c.loosen-left.new.steps c.requires.can c.loosen_wires-left.ensures.loosens (subst (Sheds c.args.patch.now.web c.loosen_wires-left.new.patch.web) (c.as_slice.ensures.value ∙ c.requires.room.wires) c.loosen_wires-left.ensures.sheds) c.loosen-left.ensures.loosens c.loosen-left.ensures.wires) c.loosen-left.ensures.wires.meet c.loosen-left.ensures.wires.bare c.take_out.ensures.out c.take_out.ensures.known c.take_out.ensures.lacks c.take_out.ensures.room c.args.loss.port.node (held_then c.args.patch.now c.loosen_wires-left.new.patch c.loosen-left.new.patch c.args.place c.args.loss.key c.args.loss.port.node c.args.loss.port.side c.args.loss.port.port c.args.steps.now c.loosen_wires-left.new.steps c.loosen-left.new.steps c.requires.can c.loosen_wires-left.ensures.loosens (subst (Sheds c.args.patch.now.web c.loosen_wires-left.new.patch.web) (c.as_slice.ensures.value ∙ c.requires.room.wires) c.loosen_wires-left.ensures.sheds) c.loosen-left.ensures.loosens c.loosen-left.ensures.wires) c.args.loss.port.side (port_then c.args.patch.now c.loosen_wires-left.new.patch c.loosen-left.new.patch c.args.place c.args.loss.key c.args.loss.port.node c.args.loss.port.side c.args.loss.port.port c.args.steps.now c.loosen_wires-left.new.steps c.loosen-left.new.steps c.requires.can c.loosen_wires-left.ensures.loosens (subst (Sheds c.args.patch.now.web c.loosen_wires-left.new.patch.web) (c.as_slice.ensures.value ∙ c.requires.room.wires) c.loosen_wires-left.ensures.sheds) c.loosen-left.ensures.loosens c.loosen-left.ensures.wires c.take_out.ensures.out.node c.take_out.ensures.out.grove.was)))
    (subst (λ vs. c.args.loss.port.node < length vs.items) (sym (values_then c.args.patch.now c.loosen_wires-left.new.patch c.loosen-left.new.patch c.args.place c.args.loss.key c.args.loss.port.node c.args.loss.port.side c.args.loss.port.port c.args.steps.now c.loosen_wires-left.new.steps c.loosen-left.new.steps c.requires.can c.loosen_wires-left.ensures.loosens (subst (Sheds c.args.patch.now.web c.loosen_wires-left.new.patch.web) (c.as_slice.ensures.value ∙ c.requires.room.wires) c.loosen_wires-left.ensures.sheds) c.loosen-left.ensures.loosens c.loosen-left.ensures.wires)) (c.requires.can.reached c.args.loss.port.node (holder_lives c.args.patch.now c.loosen_wires-left.new.patch c.loosen-left.new.patch c.args.place c.args.loss.key c.args.loss.port.node c.args.loss.port.side c.args.loss.port.port c.args.steps.now c.loosen_wires-left.new.steps c.loosen-left.new.steps c.requires.can c.loosen_wires-left.ensures.loosens (subst (Sheds c.args.patch.now.web c.loosen_wires-left.new.patch.web) (c.as_slice.ensures.value ∙ c.requires.room.wires) c.loosen_wires-left.ensures.sheds) c.loosen-left.ensures.loosens c.loosen-left.ensures.wires)))

pub returns-clause-left : goal.returns-clause-left
returns-clause-left g c =
    c.loosen-left.ensures.counted ∙ sym (as_many c.loosen-left.new.patch.web c.take_out.new.patch.web c.take_out.ensures.out.ports.lines) ∙ sym c.leave_port.ensures.as_many

pub returns-clause-taken : goal.returns-clause-taken
returns-clause-taken g c =
    let p = c.args.patch.now in
    let r = c.loosen-left.new.patch in
    let o = c.take_out.new.patch in
    let loss = c.args.loss in
    let O = c.take_out.ensures.out in
    let q : Patch = record o { web = c.leave_port.new.web; values = c.leave_blocks.new.values } in
    let jack = port_jack loss.port.side O.node.kind loss.key in
    let lowers = c.leave_port.ensures.lowers r.grove loss.port.port jack (ports_had c.loosen-left.new.patch c.take_out.new.patch c.args.symbols.now c.args.place c.args.loss.key (can_then c.args.patch.now c.loosen_wires-left.new.patch c.loosen-left.new.patch c.args.place c.args.loss.key c.args.loss.port.node c.args.loss.port.side c.args.loss.port.port c.args.steps.now c.loosen_wires-left.new.steps c.loosen-left.new.steps c.requires.can c.loosen_wires-left.ensures.loosens (subst (Sheds c.args.patch.now.web c.loosen_wires-left.new.patch.web) (c.as_slice.ensures.value ∙ c.requires.room.wires) c.loosen_wires-left.ensures.sheds) c.loosen-left.ensures.loosens c.loosen-left.ensures.wires) (stands_then c.args.patch.now c.loosen_wires-left.new.patch c.loosen-left.new.patch c.args.place c.args.loss.key c.args.loss.port.node c.args.loss.port.side c.args.loss.port.port c.args.steps.now c.loosen_wires-left.new.steps c.loosen-left.new.steps c.requires.can c.loosen_wires-left.ensures.loosens (subst (Sheds c.args.patch.now.web c.loosen_wires-left.new.patch.web) (c.as_slice.ensures.value ∙ c.requires.room.wires) c.loosen_wires-left.ensures.sheds) c.loosen-left.ensures.loosens c.loosen-left.ensures.wires) (leaf_then c.args.patch.now c.loosen_wires-left.new.patch c.loosen-left.new.patch c.args.place c.args.loss.key c.args.loss.port.node c.args.loss.port.side c.args.loss.port.port c.args.steps.now c.loosen_wires-left.new.steps c.loosen-left.new.steps c.requires.can c.loosen_wires-left.ensures.loosens (subst (Sheds c.args.patch.now.web c.loosen_wires-left.new.patch.web) (c.as_slice.ensures.value ∙ c.requires.room.wires) c.loosen_wires-left.ensures.sheds) c.loosen-left.ensures.loosens c.loosen-left.ensures.wires) c.loosen-left.ensures.wires.meet c.loosen-left.ensures.wires.bare c.take_out.ensures.out c.take_out.ensures.known c.take_out.ensures.lacks c.take_out.ensures.room c.args.loss.port.node (held_then c.args.patch.now c.loosen_wires-left.new.patch c.loosen-left.new.patch c.args.place c.args.loss.key c.args.loss.port.node c.args.loss.port.side c.args.loss.port.port c.args.steps.now c.loosen_wires-left.new.steps c.loosen-left.new.steps c.requires.can c.loosen_wires-left.ensures.loosens (subst (Sheds c.args.patch.now.web c.loosen_wires-left.new.patch.web) (c.as_slice.ensures.value ∙ c.requires.room.wires) c.loosen_wires-left.ensures.sheds) c.loosen-left.ensures.loosens c.loosen-left.ensures.wires) c.args.loss.port.side (port_then c.args.patch.now c.loosen_wires-left.new.patch c.loosen-left.new.patch c.args.place c.args.loss.key c.args.loss.port.node c.args.loss.port.side c.args.loss.port.port c.args.steps.now c.loosen_wires-left.new.steps c.loosen-left.new.steps c.requires.can c.loosen_wires-left.ensures.loosens (subst (Sheds c.args.patch.now.web c.loosen_wires-left.new.patch.web) (c.as_slice.ensures.value ∙ c.requires.room.wires) c.loosen_wires-left.ensures.sheds) c.loosen-left.ensures.loosens c.loosen-left.ensures.wires c.take_out.ensures.out.node c.take_out.ensures.out.grove.was)) (one_more c.loosen-left.new.patch c.take_out.new.patch c.args.symbols.now c.args.place c.args.loss.key (can_then c.args.patch.now c.loosen_wires-left.new.patch c.loosen-left.new.patch c.args.place c.args.loss.key c.args.loss.port.node c.args.loss.port.side c.args.loss.port.port c.args.steps.now c.loosen_wires-left.new.steps c.loosen-left.new.steps c.requires.can c.loosen_wires-left.ensures.loosens (subst (Sheds c.args.patch.now.web c.loosen_wires-left.new.patch.web) (c.as_slice.ensures.value ∙ c.requires.room.wires) c.loosen_wires-left.ensures.sheds) c.loosen-left.ensures.loosens c.loosen-left.ensures.wires) (stands_then c.args.patch.now c.loosen_wires-left.new.patch c.loosen-left.new.patch c.args.place c.args.loss.key c.args.loss.port.node c.args.loss.port.side c.args.loss.port.port c.args.steps.now c.loosen_wires-left.new.steps c.loosen-left.new.steps c.requires.can c.loosen_wires-left.ensures.loosens (subst (Sheds c.args.patch.now.web c.loosen_wires-left.new.patch.web) (c.as_slice.ensures.value ∙ c.requires.room.wires) c.loosen_wires-left.ensures.sheds) c.loosen-left.ensures.loosens c.loosen-left.ensures.wires) (leaf_then c.args.patch.now c.loosen_wires-left.new.patch c.loosen-left.new.patch c.args.place c.args.loss.key c.args.loss.port.node c.args.loss.port.side c.args.loss.port.port c.args.steps.now c.loosen_wires-left.new.steps c.loosen-left.new.steps c.requires.can c.loosen_wires-left.ensures.loosens (subst (Sheds c.args.patch.now.web c.loosen_wires-left.new.patch.web) (c.as_slice.ensures.value ∙ c.requires.room.wires) c.loosen_wires-left.ensures.sheds) c.loosen-left.ensures.loosens c.loosen-left.ensures.wires) c.loosen-left.ensures.wires.meet c.loosen-left.ensures.wires.bare c.take_out.ensures.out c.take_out.ensures.known c.take_out.ensures.lacks c.take_out.ensures.room c.args.loss.port.node (held_then c.args.patch.now c.loosen_wires-left.new.patch c.loosen-left.new.patch c.args.place c.args.loss.key c.args.loss.port.node c.args.loss.port.side c.args.loss.port.port c.args.steps.now c.loosen_wires-left.new.steps c.loosen-left.new.steps c.requires.can c.loosen_wires-left.ensures.loosens (subst (Sheds c.args.patch.now.web c.loosen_wires-left.new.patch.web) (c.as_slice.ensures.value ∙ c.requires.room.wires) c.loosen_wires-left.ensures.sheds) c.loosen-left.ensures.loosens c.loosen-left.ensures.wires) c.args.loss.port.side (port_then c.args.patch.now c.loosen_wires-left.new.patch c.loosen-left.new.patch c.args.place c.args.loss.key c.args.loss.port.node c.args.loss.port.side c.args.loss.port.port c.args.steps.now c.loosen_wires-left.new.steps c.loosen-left.new.steps c.requires.can c.loosen_wires-left.ensures.loosens (subst (Sheds c.args.patch.now.web c.loosen_wires-left.new.patch.web) (c.as_slice.ensures.value ∙ c.requires.room.wires) c.loosen_wires-left.ensures.sheds) c.loosen-left.ensures.loosens c.loosen-left.ensures.wires c.take_out.ensures.out.node c.take_out.ensures.out.grove.was) c.args.loss.port.port (told_then c.args.patch.now c.loosen_wires-left.new.patch c.loosen-left.new.patch c.args.place c.args.loss.key c.args.loss.port.node c.args.loss.port.side c.args.loss.port.port c.args.steps.now c.loosen_wires-left.new.steps c.loosen-left.new.steps c.requires.can c.loosen_wires-left.ensures.loosens (subst (Sheds c.args.patch.now.web c.loosen_wires-left.new.patch.web) (c.as_slice.ensures.value ∙ c.requires.room.wires) c.loosen_wires-left.ensures.sheds) c.loosen-left.ensures.loosens c.loosen-left.ensures.wires) c.leave_port.new.web c.leave_port.ensures.follows.ports) in
    let had : ports_told o.web Outlets loss.port.node ≡ ports_told p.web Outlets loss.port.node = O.ports.other_ports Outlets loss.port.node (holder_other c.loosen-left.new.patch c.take_out.new.patch c.args.symbols.now c.args.place c.args.loss.key (can_then c.args.patch.now c.loosen_wires-left.new.patch c.loosen-left.new.patch c.args.place c.args.loss.key c.args.loss.port.node c.args.loss.port.side c.args.loss.port.port c.args.steps.now c.loosen_wires-left.new.steps c.loosen-left.new.steps c.requires.can c.loosen_wires-left.ensures.loosens (subst (Sheds c.args.patch.now.web c.loosen_wires-left.new.patch.web) (c.as_slice.ensures.value ∙ c.requires.room.wires) c.loosen_wires-left.ensures.sheds) c.loosen-left.ensures.loosens c.loosen-left.ensures.wires) (stands_then c.args.patch.now c.loosen_wires-left.new.patch c.loosen-left.new.patch c.args.place c.args.loss.key c.args.loss.port.node c.args.loss.port.side c.args.loss.port.port c.args.steps.now c.loosen_wires-left.new.steps c.loosen-left.new.steps c.requires.can c.loosen_wires-left.ensures.loosens (subst (Sheds c.args.patch.now.web c.loosen_wires-left.new.patch.web) (c.as_slice.ensures.value ∙ c.requires.room.wires) c.loosen_wires-left.ensures.sheds) c.loosen-left.ensures.loosens c.loosen-left.ensures.wires) (leaf_then c.args.patch.now c.loosen_wires-left.new.patch c.loosen-left.new.patch c.args.place c.args.loss.key c.args.loss.port.node c.args.loss.port.side c.args.loss.port.port c.args.steps.now c.loosen_wires-left.new.steps c.loosen-left.new.steps c.requires.can c.loosen_wires-left.ensures.loosens (subst (Sheds c.args.patch.now.web c.loosen_wires-left.new.patch.web) (c.as_slice.ensures.value ∙ c.requires.room.wires) c.loosen_wires-left.ensures.sheds) c.loosen-left.ensures.loosens c.loosen-left.ensures.wires) c.loosen-left.ensures.wires.meet c.loosen-left.ensures.wires.bare c.take_out.ensures.out c.take_out.ensures.known c.take_out.ensures.lacks c.take_out.ensures.room c.args.loss.port.node (held_then c.args.patch.now c.loosen_wires-left.new.patch c.loosen-left.new.patch c.args.place c.args.loss.key c.args.loss.port.node c.args.loss.port.side c.args.loss.port.port c.args.steps.now c.loosen_wires-left.new.steps c.loosen-left.new.steps c.requires.can c.loosen_wires-left.ensures.loosens (subst (Sheds c.args.patch.now.web c.loosen_wires-left.new.patch.web) (c.as_slice.ensures.value ∙ c.requires.room.wires) c.loosen_wires-left.ensures.sheds) c.loosen-left.ensures.loosens c.loosen-left.ensures.wires) c.args.loss.port.side (port_then c.args.patch.now c.loosen_wires-left.new.patch c.loosen-left.new.patch c.args.place c.args.loss.key c.args.loss.port.node c.args.loss.port.side c.args.loss.port.port c.args.steps.now c.loosen_wires-left.new.steps c.loosen-left.new.steps c.requires.can c.loosen_wires-left.ensures.loosens (subst (Sheds c.args.patch.now.web c.loosen_wires-left.new.patch.web) (c.as_slice.ensures.value ∙ c.requires.room.wires) c.loosen_wires-left.ensures.sheds) c.loosen-left.ensures.loosens c.loosen-left.ensures.wires c.take_out.ensures.out.node c.take_out.ensures.out.grove.was)) ∙ ports_then c.args.patch.now c.loosen_wires-left.new.patch c.loosen-left.new.patch c.args.place c.args.loss.key c.args.loss.port.node c.args.loss.port.side c.args.loss.port.port c.args.steps.now c.loosen_wires-left.new.steps c.loosen-left.new.steps c.requires.can c.loosen_wires-left.ensures.loosens (subst (Sheds c.args.patch.now.web c.loosen_wires-left.new.patch.web) (c.as_slice.ensures.value ∙ c.requires.room.wires) c.loosen_wires-left.ensures.sheds) c.loosen-left.ensures.loosens c.loosen-left.ensures.wires Outlets loss.port.node in
    let leaves : LeavesPort o q loss.port.node loss.port.side loss.port.port jack = record {
      rest = record { grove = refl; names = refl; links = refl; numbers = refl; clocks = refl; rate = refl; present = refl };
      orders = refl;
      follows = c.leave_port.ensures.follows;
      lowers = lowers;
      known = c.leave_port.ensures.known;
      meet = c.leave_port.ensures.meet;
      wires = c.leave_port.ensures.as_many;
      blocks = blocks_lost o q loss.port.node loss.port.side loss.port.port jack lowers (ports_told p.web Outlets loss.port.node) had loss.blocks.items c.requires.room.blocks c.leave_blocks.ensures.inlets c.leave_blocks.ensures.outlets;
    } in
    record {
      loose = c.loosen_wires-left.new.patch;
      between = c.loosen_wires-left.new.steps;
      loosens = c.loosen_wires-left.ensures.loosens;
      sheds = subst (Sheds p.web c.loosen_wires-left.new.patch.web) (c.as_slice.ensures.value ∙ c.requires.room.wires) c.loosen_wires-left.ensures.sheds;
      ready = r;
      own = c.loosen-left.ensures.loosens;
      own_wires = c.loosen-left.ensures.wires;
      out = o;
      goes = O;
      leaves = leaves;
      orders = λ d f away. O.other_orders d f ∙ orders_then c.args.patch.now c.loosen_wires-left.new.patch c.loosen-left.new.patch c.args.place c.args.loss.key c.args.loss.port.node c.args.loss.port.side c.args.loss.port.port c.args.steps.now c.loosen_wires-left.new.steps c.loosen-left.new.steps c.requires.can c.loosen_wires-left.ensures.loosens (subst (Sheds c.args.patch.now.web c.loosen_wires-left.new.patch.web) (c.as_slice.ensures.value ∙ c.requires.room.wires) c.loosen_wires-left.ensures.sheds) c.loosen-left.ensures.loosens c.loosen-left.ensures.wires d f away;
      can = lost_can r o q c.args.symbols.now c.args.place c.args.loss.key (can_then c.args.patch.now c.loosen_wires-left.new.patch c.loosen-left.new.patch c.args.place c.args.loss.key c.args.loss.port.node c.args.loss.port.side c.args.loss.port.port c.args.steps.now c.loosen_wires-left.new.steps c.loosen-left.new.steps c.requires.can c.loosen_wires-left.ensures.loosens (subst (Sheds c.args.patch.now.web c.loosen_wires-left.new.patch.web) (c.as_slice.ensures.value ∙ c.requires.room.wires) c.loosen_wires-left.ensures.sheds) c.loosen-left.ensures.loosens c.loosen-left.ensures.wires) (stands_then c.args.patch.now c.loosen_wires-left.new.patch c.loosen-left.new.patch c.args.place c.args.loss.key c.args.loss.port.node c.args.loss.port.side c.args.loss.port.port c.args.steps.now c.loosen_wires-left.new.steps c.loosen-left.new.steps c.requires.can c.loosen_wires-left.ensures.loosens (subst (Sheds c.args.patch.now.web c.loosen_wires-left.new.patch.web) (c.as_slice.ensures.value ∙ c.requires.room.wires) c.loosen_wires-left.ensures.sheds) c.loosen-left.ensures.loosens c.loosen-left.ensures.wires) (leaf_then c.args.patch.now c.loosen_wires-left.new.patch c.loosen-left.new.patch c.args.place c.args.loss.key c.args.loss.port.node c.args.loss.port.side c.args.loss.port.port c.args.steps.now c.loosen_wires-left.new.steps c.loosen-left.new.steps c.requires.can c.loosen_wires-left.ensures.loosens (subst (Sheds c.args.patch.now.web c.loosen_wires-left.new.patch.web) (c.as_slice.ensures.value ∙ c.requires.room.wires) c.loosen_wires-left.ensures.sheds) c.loosen-left.ensures.loosens c.loosen-left.ensures.wires) c.loosen-left.ensures.wires.meet c.loosen-left.ensures.wires.bare c.take_out.ensures.out c.take_out.ensures.known c.take_out.ensures.lacks c.take_out.ensures.room c.args.loss.port.node (held_then c.args.patch.now c.loosen_wires-left.new.patch c.loosen-left.new.patch c.args.place c.args.loss.key c.args.loss.port.node c.args.loss.port.side c.args.loss.port.port c.args.steps.now c.loosen_wires-left.new.steps c.loosen-left.new.steps c.requires.can c.loosen_wires-left.ensures.loosens (subst (Sheds c.args.patch.now.web c.loosen_wires-left.new.patch.web) (c.as_slice.ensures.value ∙ c.requires.room.wires) c.loosen_wires-left.ensures.sheds) c.loosen-left.ensures.loosens c.loosen-left.ensures.wires) c.args.loss.port.side (port_then c.args.patch.now c.loosen_wires-left.new.patch c.loosen-left.new.patch c.args.place c.args.loss.key c.args.loss.port.node c.args.loss.port.side c.args.loss.port.port c.args.steps.now c.loosen_wires-left.new.steps c.loosen-left.new.steps c.requires.can c.loosen_wires-left.ensures.loosens (subst (Sheds c.args.patch.now.web c.loosen_wires-left.new.patch.web) (c.as_slice.ensures.value ∙ c.requires.room.wires) c.loosen_wires-left.ensures.sheds) c.loosen-left.ensures.loosens c.loosen-left.ensures.wires c.take_out.ensures.out.node c.take_out.ensures.out.grove.was) loss.port.port leaves;
      built = λ file rate b. lost_built r o q c.args.symbols.now c.args.place c.args.loss.key (can_then c.args.patch.now c.loosen_wires-left.new.patch c.loosen-left.new.patch c.args.place c.args.loss.key c.args.loss.port.node c.args.loss.port.side c.args.loss.port.port c.args.steps.now c.loosen_wires-left.new.steps c.loosen-left.new.steps c.requires.can c.loosen_wires-left.ensures.loosens (subst (Sheds c.args.patch.now.web c.loosen_wires-left.new.patch.web) (c.as_slice.ensures.value ∙ c.requires.room.wires) c.loosen_wires-left.ensures.sheds) c.loosen-left.ensures.loosens c.loosen-left.ensures.wires) (stands_then c.args.patch.now c.loosen_wires-left.new.patch c.loosen-left.new.patch c.args.place c.args.loss.key c.args.loss.port.node c.args.loss.port.side c.args.loss.port.port c.args.steps.now c.loosen_wires-left.new.steps c.loosen-left.new.steps c.requires.can c.loosen_wires-left.ensures.loosens (subst (Sheds c.args.patch.now.web c.loosen_wires-left.new.patch.web) (c.as_slice.ensures.value ∙ c.requires.room.wires) c.loosen_wires-left.ensures.sheds) c.loosen-left.ensures.loosens c.loosen-left.ensures.wires) (leaf_then c.args.patch.now c.loosen_wires-left.new.patch c.loosen-left.new.patch c.args.place c.args.loss.key c.args.loss.port.node c.args.loss.port.side c.args.loss.port.port c.args.steps.now c.loosen_wires-left.new.steps c.loosen-left.new.steps c.requires.can c.loosen_wires-left.ensures.loosens (subst (Sheds c.args.patch.now.web c.loosen_wires-left.new.patch.web) (c.as_slice.ensures.value ∙ c.requires.room.wires) c.loosen_wires-left.ensures.sheds) c.loosen-left.ensures.loosens c.loosen-left.ensures.wires) c.loosen-left.ensures.wires.meet c.loosen-left.ensures.wires.bare c.take_out.ensures.out c.take_out.ensures.known c.take_out.ensures.lacks c.take_out.ensures.room c.args.loss.port.node (held_then c.args.patch.now c.loosen_wires-left.new.patch c.loosen-left.new.patch c.args.place c.args.loss.key c.args.loss.port.node c.args.loss.port.side c.args.loss.port.port c.args.steps.now c.loosen_wires-left.new.steps c.loosen-left.new.steps c.requires.can c.loosen_wires-left.ensures.loosens (subst (Sheds c.args.patch.now.web c.loosen_wires-left.new.patch.web) (c.as_slice.ensures.value ∙ c.requires.room.wires) c.loosen_wires-left.ensures.sheds) c.loosen-left.ensures.loosens c.loosen-left.ensures.wires) c.args.loss.port.side (port_then c.args.patch.now c.loosen_wires-left.new.patch c.loosen-left.new.patch c.args.place c.args.loss.key c.args.loss.port.node c.args.loss.port.side c.args.loss.port.port c.args.steps.now c.loosen_wires-left.new.steps c.loosen-left.new.steps c.requires.can c.loosen_wires-left.ensures.loosens (subst (Sheds c.args.patch.now.web c.loosen_wires-left.new.patch.web) (c.as_slice.ensures.value ∙ c.requires.room.wires) c.loosen_wires-left.ensures.sheds) c.loosen-left.ensures.loosens c.loosen-left.ensures.wires c.take_out.ensures.out.node c.take_out.ensures.out.grove.was) loss.port.port leaves file rate (built_then c.args.patch.now c.loosen_wires-left.new.patch c.loosen-left.new.patch c.args.place c.args.loss.key c.args.loss.port.node c.args.loss.port.side c.args.loss.port.port c.args.steps.now c.loosen_wires-left.new.steps c.loosen-left.new.steps c.requires.can c.loosen_wires-left.ensures.loosens (subst (Sheds c.args.patch.now.web c.loosen_wires-left.new.patch.web) (c.as_slice.ensures.value ∙ c.requires.room.wires) c.loosen_wires-left.ensures.sheds) c.loosen-left.ensures.loosens c.loosen-left.ensures.wires c.args.symbols.now file rate b);
    }
