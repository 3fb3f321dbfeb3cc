-- The wires of a patch into which a box came that an edit names, and how much its tree counts.
use Rattle.std.proofs.Common.{◌≡◌, ◌+◌, ℕ, List, length, Some, ap, ◌∙◌, arith}
use Rattle.slab.specs.Slab.{get}
use Rattle.pd_canvas.specs.declared.edits.Edit.{Edit}
use Rattle.pd_tree.specs.Trees.{Tree, weight}
use Rattle.pd_grove.specs.Places.{CanvasStands}
use Rattle.pd_grove.specs.Standing.{depth_of, GroveStands}
use Rattle.pd_web.specs.Changes.{wires_told}
use Rattle.pd_patch.specs.declared.patch.Patch.{Patch}
use Rattle.pd_patch.specs.Sounds.{sound_of}
use Rattle.pd_gather.specs.Gather.{Known}
use Rattle.pd_fit.specs.Fitting.{wires_inside}
use Rattle.pd_boxes.specs.Put.{CanPut}
use Rattle.pd_regrowth_law.specs.Canvases.{own_along}
use Rattle.pd_reload_law.specs.Reloading.{RunsAs}
use Rattle.pd_saved_law.specs.Fitting.{WiresFit}
use Rattle.pd_inside_law.specs.Inside.{HoldsWires}
use Rattle.pd_putting_law.specs.Puts.{put_before}
use Rattle.pd_putting_law.proofs.StandLemmas.{grove_before, path_along}
use Rattle.pd_putting_law.proofs.WithinLemmas.{path_within}
use Rattle.pd_adding.specs.declared.counts.Counts.{Counts}
use Rattle.pd_adding.specs.Counts.{with_boxes}
use Rattle.pd_putting.specs.declared.adding.NewBox.{NewBox}
use Rattle.pd_putting.specs.Adds.{AddsBoxAt}
use Rattle.pd_put_law.proofs.RoomLemmas.{room_runs, room_holds, room_fits, room_wires}
use Rattle.pd_put_law.proofs.WholeLemmas.{comes_at}
use Rattle.pd_put_law.proofs.ComeLemmas.{HasComeIn, may, grew_so, came}
use Rattle.pd_put_law.proofs.InsideLemmas.{come_holds, come_fits}
use Rattle.pd_put_law.proofs.CountLemmas.{put_weight, put_sound}

module _ (old new : Patch) (number : ℕ) (n : Counts) (name path : List ℕ) (now : ℕ) (e : Edit) (k after : Known) (b : NewBox)
    (X : AddsBoxAt old new number n name path now e k after b) where
  -- ---- counts

  counted : b.counts ≡ with_boxes old.rate X.added.boxes n
  counted = X.counts ∙ (grew_so old new number n name path now e k after b X).counts

  pub more_wires : b.counts.wires ≡ n.wires + wires_inside X.added.boxes
  more_wires = ap (λ (x : Counts). x.wires) counted

  module _ (can : CanPut old) where
    abbrev in_it : HasComeIn old new number now X.added path b.key
    in_it = came old new number n name path now e k after b X can

    abbrev mid : Patch
    mid = in_it.ready

    abbrev done : Patch
    done = in_it.done

    pub box_holds : (t : Tree) → RunsAs old.grove t → HoldsWires old t → HoldsWires new (put_before path number X.added.boxes t)
    box_holds t r h =
        let stands : GroveStands mid.grove t.sheet t.boxes = (room_runs old.grove mid.grove in_it.room.grove t r).stands in
        let whole = in_it.whole in
        in_it.around.holds (put_before path number X.added.boxes t)
        (come_holds mid done path X.added.canvas b.key number whole X.added.boxes t stands
        (grove_before mid.grove done.grove path X.added.canvas b.key number t X.added.boxes (comes_at mid done path X.added.canvas b.key number whole) stands in_it.stands)
        (room_holds old mid in_it.room t h))

    pub box_fits : WiresFit old → WiresFit new
    box_fits f = in_it.around.fits (come_fits mid done path X.added.canvas b.key number in_it.whole (room_fits old mid in_it.room f))

    pub box_wires : wires_told new.web ≡ wires_told old.web + wires_inside X.added.boxes
    box_wires = in_it.wires ∙ ap (λ (m : ℕ). m + wires_inside X.added.boxes) (room_wires old mid in_it.room)

    module _ (t : Tree) (R : RunsAs old.grove t) where
      along : (u : Tree) × (own_along path t ≡ Some u) × CanvasStands old.grove X.added.canvas u × (depth_of (get old.grove.boards X.added.canvas) ≡ length path)
      along = path_along old.grove path X.added.canvas t can.forest R.stands (may old new number n name path now e k after b X).leads

      more : (a c s b w : ℕ) → a ≡ c → b ≡ a + s → w ≡ c + s → b ≡ w
      more a c s b w h k l = omega (arith, h, k, l)

      pub more_boxes : n.boxes ≡ weight t.boxes → b.counts.boxes ≡ weight (put_before path number X.added.boxes t).boxes
      more_boxes h =
          more n.boxes (weight t.boxes) (weight X.added.boxes) b.counts.boxes (weight (put_before path number X.added.boxes t).boxes) h (ap (λ (x : Counts). x.boxes) counted)
          (put_weight path t along.0 (path_within path t along.0 along.1) number X.added.boxes)

      pub more_sound : n.sound ≡ sound_of old.rate t.boxes → b.counts.sound ≡ sound_of old.rate (put_before path number X.added.boxes t).boxes
      more_sound h =
          more n.sound (sound_of old.rate t.boxes) (sound_of old.rate X.added.boxes) b.counts.sound (sound_of old.rate (put_before path number X.added.boxes t).boxes) h
          (ap (λ (x : Counts). x.sound) counted)
          (put_sound path t along.0 (path_within path t along.0 along.1) number X.added.boxes old.rate)
