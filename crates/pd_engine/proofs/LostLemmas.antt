-- A patch from which an edit took a box: with all that lay in it, or with the port that it was.
use Rattle.std.proofs.Common.{◌≡◌, ◌≤◌, ◌+◌, ℕ, List, drop, take, length, slice_get, Option, Some, None, Ok, inl, inr, refl, sym, ap, ◌∙◌, subst, arith}
use Rattle.std.specs.Prelude.{◌-◌}
use Rattle.std.proofs.lemmas.Option.{none-some}
use Rattle.slab.specs.Slab.{get}
use Rattle.pd_atom.specs.Names.{Names}
use Rattle.pd_clock.specs.Queue.{without}
use Rattle.pd_tree.specs.Trees.{Trees}
use Rattle.pd_grove.specs.declared.grove.Grove.{Grove}
use Rattle.pd_grove.specs.declared.nodes.Node.{Node}
use Rattle.pd_grove.specs.Grafts.{TakesBox}
use Rattle.pd_grove.specs.OwnPaths.{sub_reached}
use Rattle.pd_grove.specs.Owning.{board_in}
use Rattle.pd_grove.specs.Standing.{depth_of, Stands}
use Rattle.pd_grove.specs.Telling.{inner_in}
use Rattle.pd_web.specs.Canvases.{keys_at}
use Rattle.pd_web.specs.Changes.{wires_told}
use Rattle.pd_patch.specs.declared.patch.Patch.{Patch}
use Rattle.pd_owning.specs.Parts.{ArePart}
use Rattle.pd_boxes.specs.Put.{CanPut, HasOwners}
use Rattle.pd_adding.specs.declared.counts.Counts.{Counts}
use Rattle.pd_taking_law.specs.Taking.{TakesBoxAt}
use Rattle.pd_stage.specs.PassedOn.{OldBox, going, looks_around, looks_gone, part_gone, without_all, ClearsBox, DeletesBox, TakesPort}
use Rattle.pd_stage.proofs.PassedOn.{box_lives, found_there, leads_there}
use Rattle.pd_engine.proofs.CameLemmas.{owners_kept}
use Rattle.pd_engine.proofs.LessLemmas.{box_weight, weight_alone}
use Rattle.pd_engine.proofs.PartLemmas.{part_weight}

-- a box that holds a canvas lies in one
none_lies : (o : Option Node) (c : ℕ) → inner_in o ≡ Some c → None ≡ board_in o → ⊥
none_lies None c holds is = none-some c holds
none_lies (Some n) c holds is = none-some n.board is

module _ (old new : Patch) (n : Counts) (table : Names) (path : List ℕ) (number steps steps' : ℕ) (b : OldBox) where
  abbrev Clears : Type 0
  Clears = ClearsBox old new n table path number steps steps' b

  abbrev Takes : Type 0
  Takes = TakesPort old new n table path number steps steps' b

  abbrev Deletes : Type 0
  Deletes = DeletesBox old new n table path number steps steps' b

  abbrev part : Deletes → List ℕ
  part d = part_gone old new n table path number steps steps' b d

  abbrev looks : Deletes → ℕ
  looks d = looks_gone old new n table path number steps steps' b d

  is_going : Deletes → going old path number ≡ Ok (b.canvas, b.key)
  is_going (inl x) = x.is
  is_going (inr x) = x.is

  pub still_puts : Deletes → CanPut new
  still_puts (inl x) = x.cleared.can
  still_puts (inr x) = x.taken.can

  -- ---- counts and clocks

  pub wires_left : Deletes → b.counts.wires ≡ wires_told new.web
  wires_left (inl x) = ap (λ (m : Counts). m.wires) x.counts
  wires_left (inr x) = ap (λ (m : Counts). m.wires) x.counts

  pub boxes_left : (d : Deletes) → b.counts.boxes ≡ n.boxes - length (part d)
  boxes_left (inl x) = ap (λ (m : Counts). m.boxes) x.counts
  boxes_left (inr x) = ap (λ (m : Counts). m.boxes) x.counts

  port_clocks : Takes → new.timers.clocks.clocks ≡ without b.key old.timers.clocks.clocks
  port_clocks x =
      ap (λ t. t.clocks.clocks) x.taken.leaves.rest.clocks ∙ x.taken.goes.clocks ∙ ap (λ t. without b.key t.clocks.clocks) (x.taken.own.rest.timers ∙ x.taken.loosens.rest.timers ∙ x.room.timers)

  pub clocks_left : (d : Deletes) → new.timers.clocks.clocks ≡ without_all (part d) old.timers.clocks.clocks
  clocks_left (inl x) = x.cleared.clocks ∙ ap (λ t. without_all x.cleared.part t.clocks.clocks) x.room.timers
  clocks_left (inr x) = port_clocks x

  -- ---- there are no more looks than it may take

  looks_by : (x : Takes) (o : Option ℕ) → o ≡ board_in (get x.ready.grove.nodes x.holder) → x.taken.between ≤ steps + looks_around o x.taken.loosens.gone x.taken.loose
  looks_by x None is = absurd (none_lies (get x.ready.grove.nodes x.holder) b.canvas (x.can.can.forest.held b.canvas x.holder x.can.at.held) is)
  looks_by x (Some c) is = x.taken.loosens.looks c (sym is)

  port_looks : (x : Takes) → steps' ≤ steps + looks (inr x)
  port_looks x =
      let first = looks_by x b.around (x.around ∙ ap (λ (g : Grove). board_in (get g.nodes x.holder)) (sym x.room.grove)) in
      let lies : board_in (get x.taken.loose.grove.nodes b.key) ≡ Some b.canvas =
      ap (λ (g : Grove). board_in (get g.nodes b.key)) x.taken.loosens.rest.grove ∙ x.can.can.forest.own.home b.canvas number b.key x.can.is in
      let then = x.taken.own.looks b.canvas lies in
      omega (arith, first, then)

  pub few_looks : (d : Deletes) → steps' ≤ steps + looks d
  few_looks (inl x) = x.cleared.looks
  few_looks (inr x) = port_looks x

  -- ---- the box is out of the grove

  taken_from : (x y : Grove) (m : Node) → CanPut old → going old path number ≡ Ok (b.canvas, b.key) → x ≡ old.grove → new.grove ≡ y
      → TakesBox (get x.nodes) (get y.nodes) (get x.boards) (get y.boards) b.canvas b.key m (take number (keys_at x b.canvas)) (drop (number + 1) (keys_at x b.canvas)) → y.root ≡ x.root
      → TakesBoxAt old.grove new.grove path b.canvas b.key number
  taken_from x y m C is from to takes root =
      let o : Option ℕ = sub_reached old.grove (Some old.grove.root) path in
      record {
        forest = C.forest;
        leads = leads_there old.grove number o b.canvas b.key is;
        is = found_there old.grove number o b.canvas b.key is;
        node = m;
        takes = subst (λ (h : Grove). TakesBox (get old.grove.nodes) (get h.nodes) (get old.grove.boards) (get h.boards) b.canvas b.key m (take number (keys_at old.grove b.canvas))
            (drop (number + 1) (keys_at old.grove b.canvas))) (sym to)
            (subst (λ (g : Grove). TakesBox (get g.nodes) (get y.nodes) (get g.boards) (get y.boards) b.canvas b.key m (take number (keys_at g b.canvas)) (drop (number + 1) (keys_at g b.canvas)))
            from takes);
        root = ap (λ (h : Grove). h.root) to ∙ root ∙ ap (λ (g : Grove). g.root) from;
      }

  loose_grove : (x : Takes) → x.taken.ready.grove ≡ old.grove
  loose_grove x = x.taken.own.rest.grove ∙ x.taken.loosens.rest.grove ∙ x.room.grove

  pub takes_box : Deletes → CanPut old → TakesBoxAt old.grove new.grove path b.canvas b.key number
  takes_box (inl x) C = taken_from x.ready.grove new.grove x.cleared.node C x.is x.room.grove refl x.cleared.grove x.cleared.root
  takes_box (inr x) C = taken_from x.taken.ready.grove x.taken.out.grove x.taken.goes.node C x.is (loose_grove x) x.taken.leaves.rest.grove x.taken.goes.grove x.taken.goes.root

  -- ---- as many boxes went as the box is with those that lay in it

  -- in the canvas that has these keys and for which these boxes stand
  module _ (C : CanPut old) (depth : ℕ) (keys : List ℕ) (t : Trees) (S : Stands (get old.grove.nodes) (get old.grove.boards) b.canvas depth keys t) (low : depth_of (get old.grove.boards b.canvas) ≡ depth)
      (has : keys_at old.grove b.canvas ≡ keys) (at : slice_get keys number ≡ Some b.key) where
    part_many : (x : Clears) → length x.cleared.part ≡ box_weight number t
    part_many x =
        part_weight (get old.grove.nodes) (get old.grove.boards) old.grove.root C.forest b.canvas depth keys t number b.key x.cleared.part S low has at (box_lives old path number b.canvas b.key C x.is)
        (subst (λ (g : Grove). ArePart (get g.nodes) (get g.boards) b.key x.cleared.part) x.room.grove x.cleared.is_part) x.cleared.once

    port_many : Takes → 1 ≡ box_weight number t
    port_many x =
        sym (weight_alone (get old.grove.nodes) (get old.grove.boards) b.canvas depth keys t number b.key S at
        (ap (λ (g : Grove). inner_in (get g.nodes b.key)) (sym x.room.grove) ∙ ap inner_in x.can.stands ∙ x.can.leaf))

    pub many_gone : (d : Deletes) → length (part d) ≡ box_weight number t
    many_gone (inl x) = part_many x
    many_gone (inr x) = port_many x

  -- ---- the names of the other boxes have their owners

  pub owners_left : Deletes → (file : List ℕ) → HasOwners old table file → HasOwners new table file
  owners_left (inl x) file before = x.cleared.owners file (owners_kept old x.ready table file x.room.names x.room.grove before)
  owners_left (inr x) file before =
      owners_kept x.taken.out new table file x.taken.leaves.rest.names x.taken.leaves.rest.grove
      (x.taken.goes.owners file (owners_kept old x.taken.ready table file (x.taken.own.rest.names ∙ x.taken.loosens.rest.names ∙ x.room.names) (loose_grove x) before))
