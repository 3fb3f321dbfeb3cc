use Rattle.std.proofs.Common.{◌*◌, ◌+◌, [], refl, ◌∙◌, arith}
use Rattle.pd_grove.specs.Planting.{seeds_in}
use Rattle.pd_grove.specs.TextOrder.{keys_of_spots}
use Rattle.pd_web.specs.Canvases.{keys_at}
use Rattle.pd_patch.specs.declared.patch.Patch.{Patch}
use Rattle.pd_wiring.proofs.GraphLemmas.{canvas_lawful}
use Rattle.pd_instances.specs.Needs.{insides_of, wires_all}
use Rattle.pd_instances.specs.Room.{stands_for}
use Rattle.pd_instances.proofs.NumberLemmas.{numbers_still}
use Rattle.pd_instances.proofs.ReadyLemmas.{F, more, ready, spots_fit}
use Rattle.pd_instances.proofs.RowLemmas.{wired_kept}
use Rattle.pd_instances.proofs.RunLemmas.{is_put}
use Rattle.pd_instances.proofs.putting.put_part.Goals as goal

pub put_box-key-requires-clause-deep : goal.put_box-key-requires-clause-deep
put_box-key-requires-clause-deep g c =
    let low = c.requires.can.forest.shallow c.args.room.place.canvas in let few = c.requires.room.countable in omega (arith, low, few)

pub tell_part-requires-clause-forest : goal.tell_part-requires-clause-forest
tell_part-requires-clause-forest g c =
    F c.args.patch.now c.args.room c.args.symbols.now c.requires.can c.requires.plain c.requires.room c.put_box-key.new.self c.put_box-key.result c.put_box-key.new.seeds c.put_box-key.ensures.part c.put_box-key.ensures.stands c.put_box-key.ensures.uses c.put_box-key.ensures.root
    c.put_box-key.ensures.nodes_capacity c.put_box-key.ensures.boards_capacity c.keys_are_low.ensures.boxes c.keys_are_low.ensures.canvases

pub tell_part-requires-clause-lies : goal.tell_part-requires-clause-lies
tell_part-requires-clause-lies g c =
    (more c.args.patch.now c.args.room c.args.symbols.now c.requires.can c.requires.plain c.requires.room c.put_box-key.new.self c.put_box-key.result c.put_box-key.new.seeds c.put_box-key.ensures.part c.put_box-key.ensures.stands c.put_box-key.ensures.uses c.put_box-key.ensures.root
    c.put_box-key.ensures.nodes_capacity c.put_box-key.ensures.boards_capacity c.keys_are_low.ensures.boxes c.keys_are_low.ensures.canvases).lies

pub tell_part-requires-clause-room : goal.tell_part-requires-clause-room
tell_part-requires-clause-room g c =
    λ top. (spots_fit c.args.patch.now c.args.room c.args.symbols.now c.requires.can c.requires.plain c.requires.room c.put_box-key.new.self c.put_box-key.result c.put_box-key.new.seeds c.put_box-key.ensures.part c.put_box-key.ensures.stands c.put_box-key.ensures.uses c.put_box-key.ensures.root
    c.put_box-key.ensures.nodes_capacity c.put_box-key.ensures.boards_capacity c.keys_are_low.ensures.boxes c.keys_are_low.ensures.canvases top).fits

pub open_all-requires-clause-small : goal.open_all-requires-clause-small
open_all-requires-clause-small g c =
    (ready c.args.patch.now c.args.room c.args.symbols.now c.requires.can c.requires.plain c.requires.room c.put_box-key.new.self c.put_box-key.result c.put_box-key.new.seeds c.put_box-key.ensures.part c.put_box-key.ensures.stands c.put_box-key.ensures.uses c.put_box-key.ensures.root
    c.put_box-key.ensures.nodes_capacity c.put_box-key.ensures.boards_capacity c.keys_are_low.ensures.boxes c.keys_are_low.ensures.canvases c.tell_part.ensures.0 c.as_slice-spots.result.now (c.as_slice-spots.ensures.value ∙ c.tell_part.ensures.1) (c.tell_part.ensures.2, c.tell_part.ensures.3)).small

pub open_all-requires-clause-live : goal.open_all-requires-clause-live
open_all-requires-clause-live g c =
    (ready c.args.patch.now c.args.room c.args.symbols.now c.requires.can c.requires.plain c.requires.room c.put_box-key.new.self c.put_box-key.result c.put_box-key.new.seeds c.put_box-key.ensures.part c.put_box-key.ensures.stands c.put_box-key.ensures.uses c.put_box-key.ensures.root
    c.put_box-key.ensures.nodes_capacity c.put_box-key.ensures.boards_capacity c.keys_are_low.ensures.boxes c.keys_are_low.ensures.canvases c.tell_part.ensures.0 c.as_slice-spots.result.now (c.as_slice-spots.ensures.value ∙ c.tell_part.ensures.1) (c.tell_part.ensures.2, c.tell_part.ensures.3)).all_live

pub open_all-requires-clause-near : goal.open_all-requires-clause-near
open_all-requires-clause-near g c =
    (ready c.args.patch.now c.args.room c.args.symbols.now c.requires.can c.requires.plain c.requires.room c.put_box-key.new.self c.put_box-key.result c.put_box-key.new.seeds c.put_box-key.ensures.part c.put_box-key.ensures.stands c.put_box-key.ensures.uses c.put_box-key.ensures.root
    c.put_box-key.ensures.nodes_capacity c.put_box-key.ensures.boards_capacity c.keys_are_low.ensures.boxes c.keys_are_low.ensures.canvases c.tell_part.ensures.0 c.as_slice-spots.result.now (c.as_slice-spots.ensures.value ∙ c.tell_part.ensures.1) (c.tell_part.ensures.2, c.tell_part.ensures.3)).near

pub open_all-requires-clause-once : goal.open_all-requires-clause-once
open_all-requires-clause-once g c =
    (ready c.args.patch.now c.args.room c.args.symbols.now c.requires.can c.requires.plain c.requires.room c.put_box-key.new.self c.put_box-key.result c.put_box-key.new.seeds c.put_box-key.ensures.part c.put_box-key.ensures.stands c.put_box-key.ensures.uses c.put_box-key.ensures.root
    c.put_box-key.ensures.nodes_capacity c.put_box-key.ensures.boards_capacity c.keys_are_low.ensures.boxes c.keys_are_low.ensures.canvases c.tell_part.ensures.0 c.as_slice-spots.result.now (c.as_slice-spots.ensures.value ∙ c.tell_part.ensures.1) (c.tell_part.ensures.2, c.tell_part.ensures.3)).list.once

pub open_all-requires-clause-own : goal.open_all-requires-clause-own
open_all-requires-clause-own g c =
    (ready c.args.patch.now c.args.room c.args.symbols.now c.requires.can c.requires.plain c.requires.room c.put_box-key.new.self c.put_box-key.result c.put_box-key.new.seeds c.put_box-key.ensures.part c.put_box-key.ensures.stands c.put_box-key.ensures.uses c.put_box-key.ensures.root
    c.put_box-key.ensures.nodes_capacity c.put_box-key.ensures.boards_capacity c.keys_are_low.ensures.boxes c.keys_are_low.ensures.canvases c.tell_part.ensures.0 c.as_slice-spots.result.now (c.as_slice-spots.ensures.value ∙ c.tell_part.ensures.1) (c.tell_part.ensures.2, c.tell_part.ensures.3)).forest.own

pub open_all-requires-clause-alone : goal.open_all-requires-clause-alone
open_all-requires-clause-alone g c =
    (ready c.args.patch.now c.args.room c.args.symbols.now c.requires.can c.requires.plain c.requires.room c.put_box-key.new.self c.put_box-key.result c.put_box-key.new.seeds c.put_box-key.ensures.part c.put_box-key.ensures.stands c.put_box-key.ensures.uses c.put_box-key.ensures.root
    c.put_box-key.ensures.nodes_capacity c.put_box-key.ensures.boards_capacity c.keys_are_low.ensures.boxes c.keys_are_low.ensures.canvases c.tell_part.ensures.0 c.as_slice-spots.result.now (c.as_slice-spots.ensures.value ∙ c.tell_part.ensures.1) (c.tell_part.ensures.2, c.tell_part.ensures.3)).homes_alone

pub open_all-requires-clause-rooms : goal.open_all-requires-clause-rooms
open_all-requires-clause-rooms g c =
    (ready c.args.patch.now c.args.room c.args.symbols.now c.requires.can c.requires.plain c.requires.room c.put_box-key.new.self c.put_box-key.result c.put_box-key.new.seeds c.put_box-key.ensures.part c.put_box-key.ensures.stands c.put_box-key.ensures.uses c.put_box-key.ensures.root
    c.put_box-key.ensures.nodes_capacity c.put_box-key.ensures.boards_capacity c.keys_are_low.ensures.boxes c.keys_are_low.ensures.canvases c.tell_part.ensures.0 c.as_slice-spots.result.now (c.as_slice-spots.ensures.value ∙ c.tell_part.ensures.1) (c.tell_part.ensures.2, c.tell_part.ensures.3)).rooms

pub open_all-requires-clause-bare : goal.open_all-requires-clause-bare
open_all-requires-clause-bare g c =
    (ready c.args.patch.now c.args.room c.args.symbols.now c.requires.can c.requires.plain c.requires.room c.put_box-key.new.self c.put_box-key.result c.put_box-key.new.seeds c.put_box-key.ensures.part c.put_box-key.ensures.stands c.put_box-key.ensures.uses c.put_box-key.ensures.root
    c.put_box-key.ensures.nodes_capacity c.put_box-key.ensures.boards_capacity c.keys_are_low.ensures.boxes c.keys_are_low.ensures.canvases c.tell_part.ensures.0 c.as_slice-spots.result.now (c.as_slice-spots.ensures.value ∙ c.tell_part.ensures.1) (c.tell_part.ensures.2, c.tell_part.ensures.3)).bare

pub open_all-requires-clause-apart : goal.open_all-requires-clause-apart
open_all-requires-clause-apart g c =
    (ready c.args.patch.now c.args.room c.args.symbols.now c.requires.can c.requires.plain c.requires.room c.put_box-key.new.self c.put_box-key.result c.put_box-key.new.seeds c.put_box-key.ensures.part c.put_box-key.ensures.stands c.put_box-key.ensures.uses c.put_box-key.ensures.root
    c.put_box-key.ensures.nodes_capacity c.put_box-key.ensures.boards_capacity c.keys_are_low.ensures.boxes c.keys_are_low.ensures.canvases c.tell_part.ensures.0 c.as_slice-spots.result.now (c.as_slice-spots.ensures.value ∙ c.tell_part.ensures.1) (c.tell_part.ensures.2, c.tell_part.ensures.3)).apart

pub bind_boxes-requires-clause-forest : goal.bind_boxes-requires-clause-forest
bind_boxes-requires-clause-forest g c =
    (ready c.args.patch.now c.args.room c.args.symbols.now c.requires.can c.requires.plain c.requires.room c.put_box-key.new.self c.put_box-key.result c.put_box-key.new.seeds c.put_box-key.ensures.part c.put_box-key.ensures.stands c.put_box-key.ensures.uses c.put_box-key.ensures.root
    c.put_box-key.ensures.nodes_capacity c.put_box-key.ensures.boards_capacity c.keys_are_low.ensures.boxes c.keys_are_low.ensures.canvases c.tell_part.ensures.0 c.as_slice-spots.result.now (c.as_slice-spots.ensures.value ∙ c.tell_part.ensures.1) (c.tell_part.ensures.2, c.tell_part.ensures.3)).forest

pub bind_boxes-requires-clause-apart : goal.bind_boxes-requires-clause-apart
bind_boxes-requires-clause-apart g c =
    (ready c.args.patch.now c.args.room c.args.symbols.now c.requires.can c.requires.plain c.requires.room c.put_box-key.new.self c.put_box-key.result c.put_box-key.new.seeds c.put_box-key.ensures.part c.put_box-key.ensures.stands c.put_box-key.ensures.uses c.put_box-key.ensures.root
    c.put_box-key.ensures.nodes_capacity c.put_box-key.ensures.boards_capacity c.keys_are_low.ensures.boxes c.keys_are_low.ensures.canvases c.tell_part.ensures.0 c.as_slice-spots.result.now (c.as_slice-spots.ensures.value ∙ c.tell_part.ensures.1) (c.tell_part.ensures.2, c.tell_part.ensures.3)).root_free

pub bind_boxes-requires-clause-here : goal.bind_boxes-requires-clause-here
bind_boxes-requires-clause-here g c =
    (ready c.args.patch.now c.args.room c.args.symbols.now c.requires.can c.requires.plain c.requires.room c.put_box-key.new.self c.put_box-key.result c.put_box-key.new.seeds c.put_box-key.ensures.part c.put_box-key.ensures.stands c.put_box-key.ensures.uses c.put_box-key.ensures.root
    c.put_box-key.ensures.nodes_capacity c.put_box-key.ensures.boards_capacity c.keys_are_low.ensures.boxes c.keys_are_low.ensures.canvases c.tell_part.ensures.0 c.as_slice-spots.result.now (c.as_slice-spots.ensures.value ∙ c.tell_part.ensures.1) (c.tell_part.ensures.2, c.tell_part.ensures.3)).list.stand

pub bind_boxes-requires-clause-room : goal.bind_boxes-requires-clause-room
bind_boxes-requires-clause-room g c =
    (ready c.args.patch.now c.args.room c.args.symbols.now c.requires.can c.requires.plain c.requires.room c.put_box-key.new.self c.put_box-key.result c.put_box-key.new.seeds c.put_box-key.ensures.part c.put_box-key.ensures.stands c.put_box-key.ensures.uses c.put_box-key.ensures.root
    c.put_box-key.ensures.nodes_capacity c.put_box-key.ensures.boards_capacity c.keys_are_low.ensures.boxes c.keys_are_low.ensures.canvases c.tell_part.ensures.0 c.as_slice-spots.result.now (c.as_slice-spots.ensures.value ∙ c.tell_part.ensures.1) (c.tell_part.ensures.2, c.tell_part.ensures.3)).owners

pub number_boxes-requires-clause-apart : goal.number_boxes-requires-clause-apart
number_boxes-requires-clause-apart g c =
    (ready c.args.patch.now c.args.room c.args.symbols.now c.requires.can c.requires.plain c.requires.room c.put_box-key.new.self c.put_box-key.result c.put_box-key.new.seeds c.put_box-key.ensures.part c.put_box-key.ensures.stands c.put_box-key.ensures.uses c.put_box-key.ensures.root
    c.put_box-key.ensures.nodes_capacity c.put_box-key.ensures.boards_capacity c.keys_are_low.ensures.boxes c.keys_are_low.ensures.canvases c.tell_part.ensures.0 c.as_slice-spots.result.now (c.as_slice-spots.ensures.value ∙ c.tell_part.ensures.1) (c.tell_part.ensures.2, c.tell_part.ensures.3)).outer_once

pub number_boxes-requires-clause-few : goal.number_boxes-requires-clause-few
number_boxes-requires-clause-few g c =
    (ready c.args.patch.now c.args.room c.args.symbols.now c.requires.can c.requires.plain c.requires.room c.put_box-key.new.self c.put_box-key.result c.put_box-key.new.seeds c.put_box-key.ensures.part c.put_box-key.ensures.stands c.put_box-key.ensures.uses c.put_box-key.ensures.root
    c.put_box-key.ensures.nodes_capacity c.put_box-key.ensures.boards_capacity c.keys_are_low.ensures.boxes c.keys_are_low.ensures.canvases c.tell_part.ensures.0 c.as_slice-spots.result.now (c.as_slice-spots.ensures.value ∙ c.tell_part.ensures.1) (c.tell_part.ensures.2, c.tell_part.ensures.3)).outer_few

pub number_boxes-requires-clause-reach : goal.number_boxes-requires-clause-reach
number_boxes-requires-clause-reach g c =
    (ready c.args.patch.now c.args.room c.args.symbols.now c.requires.can c.requires.plain c.requires.room c.put_box-key.new.self c.put_box-key.result c.put_box-key.new.seeds c.put_box-key.ensures.part c.put_box-key.ensures.stands c.put_box-key.ensures.uses c.put_box-key.ensures.root
    c.put_box-key.ensures.nodes_capacity c.put_box-key.ensures.boards_capacity c.keys_are_low.ensures.boxes c.keys_are_low.ensures.canvases c.tell_part.ensures.0 c.as_slice-spots.result.now (c.as_slice-spots.ensures.value ∙ c.tell_part.ensures.1) (c.tell_part.ensures.2, c.tell_part.ensures.3)).outer_reach

pub number_all-requires-clause-own : goal.number_all-requires-clause-own
number_all-requires-clause-own g c =
    (ready c.args.patch.now c.args.room c.args.symbols.now c.requires.can c.requires.plain c.requires.room c.put_box-key.new.self c.put_box-key.result c.put_box-key.new.seeds c.put_box-key.ensures.part c.put_box-key.ensures.stands c.put_box-key.ensures.uses c.put_box-key.ensures.root
    c.put_box-key.ensures.nodes_capacity c.put_box-key.ensures.boards_capacity c.keys_are_low.ensures.boxes c.keys_are_low.ensures.canvases c.tell_part.ensures.0 c.as_slice-spots.result.now (c.as_slice-spots.ensures.value ∙ c.tell_part.ensures.1) (c.tell_part.ensures.2, c.tell_part.ensures.3)).forest.own

pub number_all-requires-clause-few : goal.number_all-requires-clause-few
number_all-requires-clause-few g c =
    (ready c.args.patch.now c.args.room c.args.symbols.now c.requires.can c.requires.plain c.requires.room c.put_box-key.new.self c.put_box-key.result c.put_box-key.new.seeds c.put_box-key.ensures.part c.put_box-key.ensures.stands c.put_box-key.ensures.uses c.put_box-key.ensures.root
    c.put_box-key.ensures.nodes_capacity c.put_box-key.ensures.boards_capacity c.keys_are_low.ensures.boxes c.keys_are_low.ensures.canvases c.tell_part.ensures.0 c.as_slice-spots.result.now (c.as_slice-spots.ensures.value ∙ c.tell_part.ensures.1) (c.tell_part.ensures.2, c.tell_part.ensures.3)).few

pub place_box-requires-clause-here : goal.place_box-requires-clause-here
place_box-requires-clause-here g c =
    (ready c.args.patch.now c.args.room c.args.symbols.now c.requires.can c.requires.plain c.requires.room c.put_box-key.new.self c.put_box-key.result c.put_box-key.new.seeds c.put_box-key.ensures.part c.put_box-key.ensures.stands c.put_box-key.ensures.uses c.put_box-key.ensures.root
    c.put_box-key.ensures.nodes_capacity c.put_box-key.ensures.boards_capacity c.keys_are_low.ensures.boxes c.keys_are_low.ensures.canvases c.tell_part.ensures.0 c.as_slice-spots.result.now (c.as_slice-spots.ensures.value ∙ c.tell_part.ensures.1) (c.tell_part.ensures.2, c.tell_part.ensures.3)).stands_there

pub place_box-requires-clause-loose : goal.place_box-requires-clause-loose
place_box-requires-clause-loose g c =
    (ready c.args.patch.now c.args.room c.args.symbols.now c.requires.can c.requires.plain c.requires.room c.put_box-key.new.self c.put_box-key.result c.put_box-key.new.seeds c.put_box-key.ensures.part c.put_box-key.ensures.stands c.put_box-key.ensures.uses c.put_box-key.ensures.root
    c.put_box-key.ensures.nodes_capacity c.put_box-key.ensures.boards_capacity c.keys_are_low.ensures.boxes c.keys_are_low.ensures.canvases c.tell_part.ensures.0 c.as_slice-spots.result.now (c.as_slice-spots.ensures.value ∙ c.tell_part.ensures.1) (c.tell_part.ensures.2, c.tell_part.ensures.3)).loose

pub place_box-requires-clause-lacks : goal.place_box-requires-clause-lacks
place_box-requires-clause-lacks g c =
    (ready c.args.patch.now c.args.room c.args.symbols.now c.requires.can c.requires.plain c.requires.room c.put_box-key.new.self c.put_box-key.result c.put_box-key.new.seeds c.put_box-key.ensures.part c.put_box-key.ensures.stands c.put_box-key.ensures.uses c.put_box-key.ensures.root
    c.put_box-key.ensures.nodes_capacity c.put_box-key.ensures.boards_capacity c.keys_are_low.ensures.boxes c.keys_are_low.ensures.canvases c.tell_part.ensures.0 c.as_slice-spots.result.now (c.as_slice-spots.ensures.value ∙ c.tell_part.ensures.1) (c.tell_part.ensures.2, c.tell_part.ensures.3)).lacks

pub open_links-requires-clause-own : goal.open_links-requires-clause-own
open_links-requires-clause-own g c =
    (ready c.args.patch.now c.args.room c.args.symbols.now c.requires.can c.requires.plain c.requires.room c.put_box-key.new.self c.put_box-key.result c.put_box-key.new.seeds c.put_box-key.ensures.part c.put_box-key.ensures.stands c.put_box-key.ensures.uses c.put_box-key.ensures.root
    c.put_box-key.ensures.nodes_capacity c.put_box-key.ensures.boards_capacity c.keys_are_low.ensures.boxes c.keys_are_low.ensures.canvases c.tell_part.ensures.0 c.as_slice-spots.result.now (c.as_slice-spots.ensures.value ∙ c.tell_part.ensures.1) (c.tell_part.ensures.2, c.tell_part.ensures.3)).forest.own

pub open_links-requires-clause-alone : goal.open_links-requires-clause-alone
open_links-requires-clause-alone g c =
    (ready c.args.patch.now c.args.room c.args.symbols.now c.requires.can c.requires.plain c.requires.room c.put_box-key.new.self c.put_box-key.result c.put_box-key.new.seeds c.put_box-key.ensures.part c.put_box-key.ensures.stands c.put_box-key.ensures.uses c.put_box-key.ensures.root
    c.put_box-key.ensures.nodes_capacity c.put_box-key.ensures.boards_capacity c.keys_are_low.ensures.boxes c.keys_are_low.ensures.canvases c.tell_part.ensures.0 c.as_slice-spots.result.now (c.as_slice-spots.ensures.value ∙ c.tell_part.ensures.1) (c.tell_part.ensures.2, c.tell_part.ensures.3)).alone

pub open_links-requires-clause-once : goal.open_links-requires-clause-once
open_links-requires-clause-once g c =
    (ready c.args.patch.now c.args.room c.args.symbols.now c.requires.can c.requires.plain c.requires.room c.put_box-key.new.self c.put_box-key.result c.put_box-key.new.seeds c.put_box-key.ensures.part c.put_box-key.ensures.stands c.put_box-key.ensures.uses c.put_box-key.ensures.root
    c.put_box-key.ensures.nodes_capacity c.put_box-key.ensures.boards_capacity c.keys_are_low.ensures.boxes c.keys_are_low.ensures.canvases c.tell_part.ensures.0 c.as_slice-spots.result.now (c.as_slice-spots.ensures.value ∙ c.tell_part.ensures.1) (c.tell_part.ensures.2, c.tell_part.ensures.3)).list.once

pub open_links-requires-clause-boards : goal.open_links-requires-clause-boards
open_links-requires-clause-boards g c =
    (ready c.args.patch.now c.args.room c.args.symbols.now c.requires.can c.requires.plain c.requires.room c.put_box-key.new.self c.put_box-key.result c.put_box-key.new.seeds c.put_box-key.ensures.part c.put_box-key.ensures.stands c.put_box-key.ensures.uses c.put_box-key.ensures.root
    c.put_box-key.ensures.nodes_capacity c.put_box-key.ensures.boards_capacity c.keys_are_low.ensures.boxes c.keys_are_low.ensures.canvases c.tell_part.ensures.0 c.as_slice-spots.result.now (c.as_slice-spots.ensures.value ∙ c.tell_part.ensures.1) (c.tell_part.ensures.2, c.tell_part.ensures.3)).boards

pub open_links-requires-clause-rooms : goal.open_links-requires-clause-rooms
open_links-requires-clause-rooms g c =
    (ready c.args.patch.now c.args.room c.args.symbols.now c.requires.can c.requires.plain c.requires.room c.put_box-key.new.self c.put_box-key.result c.put_box-key.new.seeds c.put_box-key.ensures.part c.put_box-key.ensures.stands c.put_box-key.ensures.uses c.put_box-key.ensures.root
    c.put_box-key.ensures.nodes_capacity c.put_box-key.ensures.boards_capacity c.keys_are_low.ensures.boxes c.keys_are_low.ensures.canvases c.tell_part.ensures.0 c.as_slice-spots.result.now (c.as_slice-spots.ensures.value ∙ c.tell_part.ensures.1) (c.tell_part.ensures.2, c.tell_part.ensures.3)).link_rooms

pub open_links-requires-clause-reach : goal.open_links-requires-clause-reach
open_links-requires-clause-reach g c =
    (ready c.args.patch.now c.args.room c.args.symbols.now c.requires.can c.requires.plain c.requires.room c.put_box-key.new.self c.put_box-key.result c.put_box-key.new.seeds c.put_box-key.ensures.part c.put_box-key.ensures.stands c.put_box-key.ensures.uses c.put_box-key.ensures.root
    c.put_box-key.ensures.nodes_capacity c.put_box-key.ensures.boards_capacity c.keys_are_low.ensures.boxes c.keys_are_low.ensures.canvases c.tell_part.ensures.0 c.as_slice-spots.result.now (c.as_slice-spots.ensures.value ∙ c.tell_part.ensures.1) (c.tell_part.ensures.2, c.tell_part.ensures.3)).links_reach

pub open_links-requires-clause-bare : goal.open_links-requires-clause-bare
open_links-requires-clause-bare g c =
    (ready c.args.patch.now c.args.room c.args.symbols.now c.requires.can c.requires.plain c.requires.room c.put_box-key.new.self c.put_box-key.result c.put_box-key.new.seeds c.put_box-key.ensures.part c.put_box-key.ensures.stands c.put_box-key.ensures.uses c.put_box-key.ensures.root
    c.put_box-key.ensures.nodes_capacity c.put_box-key.ensures.boards_capacity c.keys_are_low.ensures.boxes c.keys_are_low.ensures.canvases c.tell_part.ensures.0 c.as_slice-spots.result.now (c.as_slice-spots.ensures.value ∙ c.tell_part.ensures.1) (c.tell_part.ensures.2, c.tell_part.ensures.3)).loose_inside

pub lay_part-requires-clause-alone : goal.lay_part-requires-clause-alone
lay_part-requires-clause-alone g c =
    (ready c.args.patch.now c.args.room c.args.symbols.now c.requires.can c.requires.plain c.requires.room c.put_box-key.new.self c.put_box-key.result c.put_box-key.new.seeds c.put_box-key.ensures.part c.put_box-key.ensures.stands c.put_box-key.ensures.uses c.put_box-key.ensures.root
    c.put_box-key.ensures.nodes_capacity c.put_box-key.ensures.boards_capacity c.keys_are_low.ensures.boxes c.keys_are_low.ensures.canvases c.tell_part.ensures.0 c.as_slice-spots.result.now (c.as_slice-spots.ensures.value ∙ c.tell_part.ensures.1) (c.tell_part.ensures.2, c.tell_part.ensures.3)).alone

pub lay_part-requires-clause-once : goal.lay_part-requires-clause-once
lay_part-requires-clause-once g c =
    (ready c.args.patch.now c.args.room c.args.symbols.now c.requires.can c.requires.plain c.requires.room c.put_box-key.new.self c.put_box-key.result c.put_box-key.new.seeds c.put_box-key.ensures.part c.put_box-key.ensures.stands c.put_box-key.ensures.uses c.put_box-key.ensures.root
    c.put_box-key.ensures.nodes_capacity c.put_box-key.ensures.boards_capacity c.keys_are_low.ensures.boxes c.keys_are_low.ensures.canvases c.tell_part.ensures.0 c.as_slice-spots.result.now (c.as_slice-spots.ensures.value ∙ c.tell_part.ensures.1) (c.tell_part.ensures.2, c.tell_part.ensures.3)).list.once

pub order_all-requires-clause-boards : goal.order_all-requires-clause-boards
order_all-requires-clause-boards g c =
    (ready c.args.patch.now c.args.room c.args.symbols.now c.requires.can c.requires.plain c.requires.room c.put_box-key.new.self c.put_box-key.result c.put_box-key.new.seeds c.put_box-key.ensures.part c.put_box-key.ensures.stands c.put_box-key.ensures.uses c.put_box-key.ensures.root
    c.put_box-key.ensures.nodes_capacity c.put_box-key.ensures.boards_capacity c.keys_are_low.ensures.boxes c.keys_are_low.ensures.canvases c.tell_part.ensures.0 c.as_slice-spots.result.now (c.as_slice-spots.ensures.value ∙ c.tell_part.ensures.1) (c.tell_part.ensures.2, c.tell_part.ensures.3)).boards

pub order_all-requires-clause-rooms : goal.order_all-requires-clause-rooms
order_all-requires-clause-rooms g c =
    (ready c.args.patch.now c.args.room c.args.symbols.now c.requires.can c.requires.plain c.requires.room c.put_box-key.new.self c.put_box-key.result c.put_box-key.new.seeds c.put_box-key.ensures.part c.put_box-key.ensures.stands c.put_box-key.ensures.uses c.put_box-key.ensures.root
    c.put_box-key.ensures.nodes_capacity c.put_box-key.ensures.boards_capacity c.keys_are_low.ensures.boxes c.keys_are_low.ensures.canvases c.tell_part.ensures.0 c.as_slice-spots.result.now (c.as_slice-spots.ensures.value ∙ c.tell_part.ensures.1) (c.tell_part.ensures.2, c.tell_part.ensures.3)).order_rooms

pub order_all-requires-clause-lists : goal.order_all-requires-clause-lists
order_all-requires-clause-lists g c =
    (ready c.args.patch.now c.args.room c.args.symbols.now c.requires.can c.requires.plain c.requires.room c.put_box-key.new.self c.put_box-key.result c.put_box-key.new.seeds c.put_box-key.ensures.part c.put_box-key.ensures.stands c.put_box-key.ensures.uses c.put_box-key.ensures.root
    c.put_box-key.ensures.nodes_capacity c.put_box-key.ensures.boards_capacity c.keys_are_low.ensures.boxes c.keys_are_low.ensures.canvases c.tell_part.ensures.0 c.as_slice-spots.result.now (c.as_slice-spots.ensures.value ∙ c.tell_part.ensures.1) (c.tell_part.ensures.2, c.tell_part.ensures.3)).lists

pub open_all-requires-clause-reach : goal.open_all-requires-clause-reach
open_all-requires-clause-reach g c =
    (ready c.args.patch.now c.args.room c.args.symbols.now c.requires.can c.requires.plain c.requires.room c.put_box-key.new.self c.put_box-key.result c.put_box-key.new.seeds c.put_box-key.ensures.part c.put_box-key.ensures.stands c.put_box-key.ensures.uses c.put_box-key.ensures.root
    c.put_box-key.ensures.nodes_capacity c.put_box-key.ensures.boards_capacity c.keys_are_low.ensures.boxes c.keys_are_low.ensures.canvases c.tell_part.ensures.0 c.as_slice-spots.result.now (c.as_slice-spots.ensures.value ∙ c.tell_part.ensures.1) (c.tell_part.ensures.2, c.tell_part.ensures.3)).values_reach

pub number_all-requires-clause-reach : goal.number_all-requires-clause-reach
number_all-requires-clause-reach g c =
    λ k live. let l = (ready c.args.patch.now c.args.room c.args.symbols.now c.requires.can c.requires.plain c.requires.room c.put_box-key.new.self c.put_box-key.result c.put_box-key.new.seeds c.put_box-key.ensures.part c.put_box-key.ensures.stands c.put_box-key.ensures.uses c.put_box-key.ensures.root
    c.put_box-key.ensures.nodes_capacity c.put_box-key.ensures.boards_capacity c.keys_are_low.ensures.boxes c.keys_are_low.ensures.canvases c.tell_part.ensures.0 c.as_slice-spots.result.now (c.as_slice-spots.ensures.value ∙ c.tell_part.ensures.1) (c.tell_part.ensures.2, c.tell_part.ensures.3)).numbers_reach k live in numbers_still c.args.patch.now.numbers.items c.number_boxes.new.numbers.items (keys_at c.put_box-key.new.self c.args.room.place.canvas) c.args.room.place.number k c.number_boxes.ensures l

pub place_box-requires-clause-lawful : goal.place_box-requires-clause-lawful
place_box-requires-clause-lawful g c =
    canvas_lawful c.put_box-key.new.self c.open_all.new.web c.args.patch.now.links ((ready c.args.patch.now c.args.room c.args.symbols.now c.requires.can c.requires.plain c.requires.room c.put_box-key.new.self c.put_box-key.result c.put_box-key.new.seeds c.put_box-key.ensures.part c.put_box-key.ensures.stands c.put_box-key.ensures.uses c.put_box-key.ensures.root
    c.put_box-key.ensures.nodes_capacity c.put_box-key.ensures.boards_capacity c.keys_are_low.ensures.boxes c.keys_are_low.ensures.canvases c.tell_part.ensures.0 c.as_slice-spots.result.now (c.as_slice-spots.ensures.value ∙ c.tell_part.ensures.1) (c.tell_part.ensures.2, c.tell_part.ensures.3)).wired c.open_all.new.web c.open_all.ensures.opens) c.args.room.place.canvas

pub place_box-requires-clause-room : goal.place_box-requires-clause-room
place_box-requires-clause-room g c =
    λ signal. c.requires.room.outer

pub lay_part-requires-clause-wired : goal.lay_part-requires-clause-wired
lay_part-requires-clause-wired g c =
    wired_kept c.put_box-key.new.self c.open_all.new.web c.args.patch.now.links c.open_links.new.links ((ready c.args.patch.now c.args.room c.args.symbols.now c.requires.can c.requires.plain c.requires.room c.put_box-key.new.self c.put_box-key.result c.put_box-key.new.seeds c.put_box-key.ensures.part c.put_box-key.ensures.stands c.put_box-key.ensures.uses c.put_box-key.ensures.root
    c.put_box-key.ensures.nodes_capacity c.put_box-key.ensures.boards_capacity c.keys_are_low.ensures.boxes c.keys_are_low.ensures.canvases c.tell_part.ensures.0 c.as_slice-spots.result.now (c.as_slice-spots.ensures.value ∙ c.tell_part.ensures.1) (c.tell_part.ensures.2, c.tell_part.ensures.3)).wired c.open_all.new.web c.open_all.ensures.opens) c.open_links.ensures.keeps

pub lay_part-requires-clause-made : goal.lay_part-requires-clause-made
lay_part-requires-clause-made g c =
    (ready c.args.patch.now c.args.room c.args.symbols.now c.requires.can c.requires.plain c.requires.room c.put_box-key.new.self c.put_box-key.result c.put_box-key.new.seeds c.put_box-key.ensures.part c.put_box-key.ensures.stands c.put_box-key.ensures.uses c.put_box-key.ensures.root
    c.put_box-key.ensures.nodes_capacity c.put_box-key.ensures.boards_capacity c.keys_are_low.ensures.boxes c.keys_are_low.ensures.canvases c.tell_part.ensures.0 c.as_slice-spots.result.now (c.as_slice-spots.ensures.value ∙ c.tell_part.ensures.1) (c.tell_part.ensures.2, c.tell_part.ensures.3)).made c.open_all.new.web c.open_all.ensures.opens

pub lay_part-requires-clause-room : goal.lay_part-requires-clause-room
lay_part-requires-clause-room g c =
    let n = wires_all (insides_of (stands_for c.args.room)) in (ready c.args.patch.now c.args.room c.args.symbols.now c.requires.can c.requires.plain c.requires.room c.put_box-key.new.self c.put_box-key.result c.put_box-key.new.seeds c.put_box-key.ensures.part c.put_box-key.ensures.stands c.put_box-key.ensures.uses c.put_box-key.ensures.root
    c.put_box-key.ensures.nodes_capacity c.put_box-key.ensures.boards_capacity c.keys_are_low.ensures.boxes c.keys_are_low.ensures.canvases c.tell_part.ensures.0 c.as_slice-spots.result.now (c.as_slice-spots.ensures.value ∙ c.tell_part.ensures.1) (c.tell_part.ensures.2, c.tell_part.ensures.3)).web_room c.open_all.new.web c.requires.room.end (c.open_all.ensures.room c.requires.room.end (2 * n) n c.requires.room.web)

pub lay_part-requires-clause-takes : goal.lay_part-requires-clause-takes
lay_part-requires-clause-takes g c =
    c.open_links.ensures.takes

pub order_all-requires-clause-lawful : goal.order_all-requires-clause-lawful
order_all-requires-clause-lawful g c =
    λ d. canvas_lawful c.put_box-key.new.self c.lay_part.new.web c.lay_part.new.links c.lay_part.ensures.wired d

pub order_all-requires-clause-slots : goal.order_all-requires-clause-slots
order_all-requires-clause-slots g c =
    λ k d t e. let l = (ready c.args.patch.now c.args.room c.args.symbols.now c.requires.can c.requires.plain c.requires.room c.put_box-key.new.self c.put_box-key.result c.put_box-key.new.seeds c.put_box-key.ensures.part c.put_box-key.ensures.stands c.put_box-key.ensures.uses c.put_box-key.ensures.root
    c.put_box-key.ensures.nodes_capacity c.put_box-key.ensures.boards_capacity c.keys_are_low.ensures.boxes c.keys_are_low.ensures.canvases c.tell_part.ensures.0 c.as_slice-spots.result.now (c.as_slice-spots.ensures.value ∙ c.tell_part.ensures.1) (c.tell_part.ensures.2, c.tell_part.ensures.3)).slots k d t e in let s = c.place_box.ensures.slots in omega (arith, l, s)

pub returns-clause-put : goal.returns-clause-put
returns-clause-put g c =
    let p = c.args.patch.now in
    let r = c.args.room in
    let ready = (ready c.args.patch.now c.args.room c.args.symbols.now c.requires.can c.requires.plain c.requires.room c.put_box-key.new.self c.put_box-key.result c.put_box-key.new.seeds c.put_box-key.ensures.part c.put_box-key.ensures.stands c.put_box-key.ensures.uses c.put_box-key.ensures.root
    c.put_box-key.ensures.nodes_capacity c.put_box-key.ensures.boards_capacity c.keys_are_low.ensures.boxes c.keys_are_low.ensures.canvases c.tell_part.ensures.0 c.as_slice-spots.result.now (c.as_slice-spots.ensures.value ∙ c.tell_part.ensures.1) (c.tell_part.ensures.2, c.tell_part.ensures.3)) in
    let q : Patch = record p { grove = c.put_box-key.new.self; web = c.lay_part.new.web; values = c.open_all.new.values; names = c.bind_boxes.new.names; numbers = c.number_all.new.numbers; orders = c.order_all.new.orders; links = c.lay_part.new.links } in
    is_put p q c.args.symbols.now r.place r.seed (seeds_in r.inside) c.put_box-key.result (keys_of_spots c.as_slice-spots.result.now) c.args.steps.now c.order_all.new.steps c.requires.can c.requires.plain c.requires.room.small c.requires.number
    (record { known = c.port_boxes_are_known.ensures.known; homes = c.port_boxes_are_known.ensures.homes; homes_found = c.port_boxes_are_known.ensures.homes_found })
    (record {
      grove = ready.more;
      stands = ready.stands;
      uses = ready.uses;
      kind = ready.kind;
      root = c.put_box-key.ensures.root;
      is_part = ready.list.are;
      in_order = ready.in_order;
      once = ready.list.once;
      low = ready.low;
      opened = c.open_all.new.web;
      opens = c.open_all.ensures.opens;
      blocks = c.open_all.ensures.blocks;
      binds = λ file was. c.bind_boxes.ensures.binds file [] ready.list.once was;
      numbers = c.number_boxes.new.numbers.items;
      outer_numbers = c.number_boxes.ensures;
      own_numbers = c.number_all.ensures.numbers;
      orders = c.place_box.new.orders.items;
      outer_order = c.place_box.ensures.order;
      other_orders = c.place_box.ensures.others;
      lays = c.lay_part.ensures.lays;
      wired = c.lay_part.ensures.wired;
      fed = record { lines = c.laws.ensures.feeds; once = c.laws.ensures.once_fed };
      own_orders = c.order_all.ensures.orders;
      looks = (let a = c.place_box.ensures.looks in let b = c.order_all.ensures.looks in omega (arith, a, b));
      clocks = refl;
      clock_room = ready.clock_room;
      rate = refl;
      present = refl;
    })

pub list_keys-requires : goal.list_keys-requires
list_keys-requires g c =
    let fits = (ready c.args.patch.now c.args.room c.args.symbols.now c.requires.can c.requires.plain c.requires.room c.put_box-key.new.self c.put_box-key.result c.put_box-key.new.seeds c.put_box-key.ensures.part c.put_box-key.ensures.stands c.put_box-key.ensures.uses c.put_box-key.ensures.root
    c.put_box-key.ensures.nodes_capacity c.put_box-key.ensures.boards_capacity c.keys_are_low.ensures.boxes c.keys_are_low.ensures.canvases c.tell_part.ensures.0 c.as_slice-spots.result.now (c.as_slice-spots.ensures.value ∙ c.tell_part.ensures.1) (c.tell_part.ensures.2, c.tell_part.ensures.3)).fits in
    let e = c.order_all.ensures.list in
    omega (arith, fits, e)

pub returns-clause-keys : goal.returns-clause-keys
returns-clause-keys g c =
    c.list_keys.ensures ∙ (ready c.args.patch.now c.args.room c.args.symbols.now c.requires.can c.requires.plain c.requires.room c.put_box-key.new.self c.put_box-key.result c.put_box-key.new.seeds c.put_box-key.ensures.part c.put_box-key.ensures.stands c.put_box-key.ensures.uses c.put_box-key.ensures.root
    c.put_box-key.ensures.nodes_capacity c.put_box-key.ensures.boards_capacity c.keys_are_low.ensures.boxes c.keys_are_low.ensures.canvases c.tell_part.ensures.0 c.as_slice-spots.result.now (c.as_slice-spots.ensures.value ∙ c.tell_part.ensures.1) (c.tell_part.ensures.2, c.tell_part.ensures.3)).in_order
