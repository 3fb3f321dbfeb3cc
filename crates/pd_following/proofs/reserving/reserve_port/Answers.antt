use Rattle.std.proofs.Common.{◌+◌, List, ◌∷◌, length, replicate, sym, ap, ◌∙◌, subst, IsSome}
use Rattle.slab.specs.Slab.{get}
use Rattle.pd_kind.specs.States.{silent_block}
use Rattle.pd_grove.specs.declared.ports.Side.{Side}
use Rattle.pd_grove.specs.declared.seeds.Seed.{Seed}
use Rattle.pd_grove.specs.declared.ports.Side.TheVariants.{Inlets, Outlets}
use Rattle.pd_grove.specs.Ports.{port_signal}
use Rattle.pd_web.specs.declared.jacks.Jack.{Jack}
use Rattle.pd_web.specs.Hops.{ports_told}
use Rattle.pd_web.specs.Jacks.{plain_jack}
use Rattle.pd_patch.specs.Values.{block_count}
use Rattle.pd_boxes.proofs.ReserveLemmas.{same_web, lists_for}
use Rattle.pd_following.specs.Ports.{carries}
use Rattle.pd_following.proofs.ReserveLemmas.{room_web, room_after, holder_same}
use Rattle.pd_following.proofs.reserving.reserve_port.Goals as goal

pub returns-in_err-inlets-clause-same : goal.returns-in_err-inlets-clause-same
returns-in_err-inlets-clause-same c = room_web c.args.patch.now c.args.patch.now.web (same_web c.args.patch.now.web)

pub returns-in_err-outlets-clause-same : goal.returns-in_err-outlets-clause-same
returns-in_err-outlets-clause-same c = room_web c.args.patch.now c.args.patch.now.web (same_web c.args.patch.now.web)

pub returns-in_err-around-clause-same : goal.returns-in_err-around-clause-same
returns-in_err-around-clause-same c = room_web c.args.patch.now c.reserve_ports.new.web c.reserve_ports.ensures.same

pub returns-in_err-blocks-clause-same : goal.returns-in_err-blocks-clause-same
returns-in_err-blocks-clause-same c = room_web c.args.patch.now c.reserve_ports.new.web c.reserve_ports.ensures.same

pub returns-in_err-own-clause-same : goal.returns-in_err-own-clause-same
returns-in_err-own-clause-same c = room_after c.args.patch.now c.reserve_box.new.patch c.reserve_ports.new.web c.reserve_ports.ensures.same c.reserve_box.ensures.same

pub returns-clause-same : goal.returns-clause-same
returns-clause-same c = room_after c.args.patch.now c.reserve_box.new.patch c.reserve_ports.new.web c.reserve_ports.ensures.same c.reserve_box.ensures.same

pub returns-clause-comes : goal.returns-clause-comes
returns-clause-comes c =
    let p = c.args.patch.now in
    let q = c.reserve_box.new.patch in
    record {
      box = c.in_ok-own.ensures.comes;
      port = record {
        held = holder_same (get p.grove.boards c.args.place.canvas) (get q.grove.boards c.args.place.canvas) (c.reserve_box.ensures.same.grove.boards c.args.place.canvas) ∙ c.holder_of-holder.ensures;
        port = subst (λ (t : Side). IsSome (port_signal t c.args.seed.row.kind)) (sym (c.side_of-side.ensures c.requires.port.1 c.requires.port.2.port)) c.requires.port.2.port;
      };
    }

pub returns-clause-room : goal.returns-clause-room
returns-clause-room c =
    let p = c.args.patch.now in
    let q = c.reserve_box.new.patch in
    let holder = c.holder_of-holder.result in
    let S = room_after p q c.reserve_ports.new.web c.reserve_ports.ensures.same c.reserve_box.ensures.same in
    record {
      box = c.in_ok-own.ensures.room;
      ports = lists_for c.in_ok-around.around c.in_ok-inlets.inlets c.in_ok-outlets.outlets (length (ports_told q.web Inlets holder) + 1) (length (ports_told q.web Outlets holder) + 1)
          (c.in_ok-inlets.ensures ∙ ap (λ n. n + 1) (c.inlets_at.ensures ∙ ap length (sym (S.web.kept.ports Inlets holder))))
          (c.in_ok-outlets.ensures ∙ ap (λ n. n + 1) (c.outlets_at.ensures ∙ ap length (sym (S.web.kept.ports Outlets holder))))
          c.in_ok-around.ensures.lists;
      blocks = c.in_ok-blocks.ensures ∙ ap (λ n. replicate n silent_block) (c.blocks_then-count.ensures
          ∙ ap (λ (js : List Jack). block_count (plain_jack (carries Outlets c.args.seed.row.kind) ∷ js)) (sym (S.web.kept.ports Outlets holder))
          ∙ ap (λ (s : Seed). block_count (plain_jack (carries Outlets s.row.kind) ∷ ports_told q.web Outlets holder)) (sym c.in_ok-own.ensures.comes.seed));
    }
