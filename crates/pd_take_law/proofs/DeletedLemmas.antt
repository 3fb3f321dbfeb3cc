-- A box that an edit deleted: one that went with all that lay in it, or a port of the box around.
use Rattle.std.proofs.Common.{◌≡◌, ◌≤◌, ℕ, ◌+◌, ◌-◌, take, drop, filter, length, List, [], ◌∷◌, None, Some, inl, inr, refl, sym, ap, ◌∙◌, subst, arith}
use Rattle.slab.specs.Slab.{get}
use Rattle.pd_atom.specs.Names.{Names}
use Rattle.pd_tree.specs.Trees.{Tree, weight}
use Rattle.pd_grove.specs.declared.grove.Grove.{Grove}
use Rattle.pd_grove.specs.Grafts.{TakesBox}
use Rattle.pd_grove.specs.OwnPaths.{sub_reached}
use Rattle.pd_grove.specs.Telling.{inner_in}
use Rattle.pd_web.specs.Canvases.{keys_at}
use Rattle.pd_web.specs.Changes.{wires_told}
use Rattle.pd_web.proofs.CountLemmas.{same_are_as_many}
use Rattle.pd_patch.specs.declared.patch.Patch.{Patch}
use Rattle.pd_patch.specs.Sounds.{sound_of}
use Rattle.pd_boxes.specs.Put.{CanPut, HasOwners}
use Rattle.pd_owning.specs.Parts.{ArePart}
use Rattle.pd_owning.proofs.LeafLemmas.{leaf_alone}
use Rattle.pd_taking.specs.Loosening.{is_of_other}
use Rattle.pd_clearing.proofs.ClearLemmas.{as_many}
use Rattle.pd_reload_law.specs.Reloading.{RunsAs}
use Rattle.pd_taking_law.specs.Takes.{taken_at}
use Rattle.pd_taking_law.specs.Taking.{TakesBoxAt}
use Rattle.pd_adding.specs.declared.counts.Counts.{Counts}
use Rattle.pd_adding.specs.Counts.{counts_less, AreWithin}
use Rattle.pd_deleting.specs.declared.deleting.OldBox.{OldBox}
use Rattle.pd_deleting.specs.Deletes.{part_gone, values_of, ClearsBox, DeletesBox, TakesPort}
use Rattle.pd_deleting.proofs.DeleteLemmas.{fewer_wires, found_there, leads_there, within_less}
use Rattle.pd_leaving_law.proofs.DocumentLemmas.{takes_at}
use Rattle.pd_take_law.proofs.CountLemmas.{IsLess}
use Rattle.pd_take_law.proofs.GoneLemmas.{counts_less_by, BoxWent}

owners_move : (p q : Patch) (table : Names) (file : List ℕ) → q.names ≡ p.names → q.grove ≡ p.grove → HasOwners p table file → HasOwners q table file
owners_move p q table file names grove H class name = rw (names, grove) (H class name)

module _ (old new : Patch) (n : Counts) (table : Names) (path : List ℕ) (number steps steps' : ℕ) (b : OldBox) where
  -- A box that is no port.

  module _ (X : ClearsBox old new n table path number steps steps' b) where
    cleared_at : CanPut old → TakesBoxAt old.grove new.grove path b.canvas b.key number
    cleared_at C = record {
      forest = C.forest;
      leads = leads_there old.grove number (sub_reached old.grove (Some old.grove.root) path) b.canvas b.key X.is;
      is = found_there old.grove number (sub_reached old.grove (Some old.grove.root) path) b.canvas b.key X.is;
      node = X.cleared.node;
      takes = subst (λ (g : Grove). TakesBox (get g.nodes) (get new.grove.nodes) (get g.boards) (get new.grove.boards) b.canvas b.key X.cleared.node
          (take number (keys_at g b.canvas)) (drop (number + 1) (keys_at g b.canvas))) X.room.grove X.cleared.grove;
      root = X.cleared.root ∙ ap (λ (g : Grove). g.root) X.room.grove;
    }

    cleared_part : ArePart (get old.grove.nodes) (get old.grove.boards) b.key X.cleared.part
    cleared_part = subst (λ (g : Grove). ArePart (get g.nodes) (get g.boards) b.key X.cleared.part) X.room.grove X.cleared.is_part

    pub cleared_went : CanPut old → BoxWent old new path b.canvas b.key number X.cleared.part
    cleared_went C =
        let W = X.cleared.wires in
        record {
          at = cleared_at C;
          is_part = cleared_part;
          wires = record {
            bare = W.bare;
            fans = λ k outlet out. W.fans k outlet out ∙ ap (filter (is_of_other b.key)) (X.room.web.fans k outlet);
            feeds = λ k inlet out. W.feeds k inlet out ∙ ap (filter (is_of_other b.key)) (X.room.web.feeds k inlet);
            other_lines = λ k l apart told. W.other_lines k l apart (X.room.web.lines k ∙ told);
            none_comes = λ k none. W.none_comes k (X.room.web.lines k ∙ none);
          };
          ports = λ side k out. X.cleared.ports.ports side k out ∙ X.room.web.kept.ports side k;
          made = λ k out. X.cleared.ports.made k out ∙ X.room.web.kept.made k;
          numbers = X.cleared.numbers;
          meet = X.cleared.meet;
        }

  -- A box that is a port of the box around.

  module _ (X : TakesPort old new n table path number steps steps' b) where
    pub port_leads : sub_reached old.grove (Some old.grove.root) path ≡ Some b.canvas
    port_leads = leads_there old.grove number (sub_reached old.grove (Some old.grove.root) path) b.canvas b.key X.is

    pub port_at : TakesBoxAt old.grove new.grove path b.canvas b.key number
    port_at =
        subst (λ (g : Grove). TakesBoxAt g new.grove path b.canvas b.key number) X.room.grove
        (takes_at X.ready new table (record { canvas = b.canvas; number = number }) b.key X.holder X.side X.port steps steps' X.can X.taken path
        (ap (λ (g : Grove). sub_reached g (Some g.root) path) X.room.grove ∙ port_leads))

    port_leaf : inner_in (get old.grove.nodes b.key) ≡ None
    port_leaf = ap (λ (g : Grove). inner_in (get g.nodes b.key)) (sym X.room.grove) ∙ ap inner_in X.can.stands ∙ X.can.leaf

    pub port_part : CanPut old → ArePart (get old.grove.nodes) (get old.grove.boards) b.key (b.key ∷ [])
    port_part C = leaf_alone (get old.grove.nodes) (get old.grove.boards) old.grove.root C.forest b.key port_leaf

  -- Either.

  pub box_gone : DeletesBox old new n table path number steps steps' b → CanPut old → TakesBoxAt old.grove new.grove path b.canvas b.key number
  box_gone (inl X) C = cleared_at X C
  box_gone (inr X) C = port_at X

  pub owners_stay : DeletesBox old new n table path number steps steps' b → (file : List ℕ) → HasOwners old table file → HasOwners new table file
  owners_stay (inl X) file H = X.cleared.owners file (owners_move old X.ready table file X.room.names X.room.grove H)
  owners_stay (inr X) file H =
      let I = X.taken in
      owners_move I.out new table file I.leaves.rest.names I.leaves.rest.grove
      (I.goes.owners file (owners_move old I.ready table file (I.own.rest.names ∙ I.loosens.rest.names ∙ X.room.names) (I.own.rest.grove ∙ I.loosens.rest.grove ∙ X.room.grove) H))

  pub wires_fewer : DeletesBox old new n table path number steps steps' b → wires_told new.web ≤ wires_told old.web
  wires_fewer (inl X) = fewer_wires old new X.ready table (record { canvas = b.canvas; number = number }) b.key steps steps' X.room X.cleared
  wires_fewer (inr X) =
      let I = X.taken in
      let first = I.loosens.count in
      let own = I.own.count in
      let out = as_many I.ready.web I.out.web I.goes.ports.lines in
      let lost = I.leaves.wires in
      let room = same_are_as_many old.web X.ready.web X.room.web in
      omega (arith, first, own, out, lost, room)

  -- the counts are less by what went
  counts_are : (D : DeletesBox old new n table path number steps steps' b) → b.counts ≡ counts_less n (length (part_gone old new n table path number steps steps' b D))
      (values_of old.rate old.grove (part_gone old new n table path number steps steps' b D)) (wires_told new.web)
  counts_are (inl X) = X.counts
  counts_are (inr X) = X.counts

  less_by : (D : DeletesBox old new n table path number steps steps' b) → CanPut old → (t : Tree) → RunsAs old.grove t → IsLess old.rate t.boxes (taken_at path number t).boxes
      (length (part_gone old new n table path number steps steps' b D)) (values_of old.rate old.grove (part_gone old new n table path number steps steps' b D))
  less_by (inl X) C t R = counts_less_by old.grove new.grove path b.canvas b.key number (cleared_at X C) X.cleared.part (cleared_part X) X.cleared.once old.rate t R
  less_by (inr X) C t R = counts_less_by old.grove new.grove path b.canvas b.key number (port_at X) (b.key ∷ []) (port_part X C) (refl, tt) old.rate t R

  module _ (D : DeletesBox old new n table path number steps steps' b) where
    pub wires_counted : b.counts.wires ≡ wires_told new.web
    wires_counted = ap (λ (c : Counts). c.wires) (counts_are D)

    pub zeros_counted : b.counts.next_zero ≡ n.next_zero
    zeros_counted = ap (λ (c : Counts). c.next_zero) (counts_are D)

    pub counts_within : n.wires ≡ wires_told old.web → AreWithin n → AreWithin b.counts
    counts_within counted w =
        let fewer = wires_fewer D in
        subst AreWithin (sym (counts_are D)) (within_less n _ _ (wires_told new.web) (subst (λ (m : ℕ). wires_told new.web ≤ m) (sym counted) fewer) w)

    pub boxes_count : (t : Tree) → CanPut old → RunsAs old.grove t → n.boxes ≡ weight t.boxes → b.counts.boxes ≡ weight (taken_at path number t).boxes
    boxes_count t C R e =
        let less = (less_by D C t R).boxes in
        let is = ap (λ (c : Counts). c.boxes) (counts_are D) in
        omega (arith, less, is, e)

    pub sound_counts : (t : Tree) → CanPut old → RunsAs old.grove t → n.sound ≡ sound_of old.rate t.boxes → b.counts.sound ≡ sound_of old.rate (taken_at path number t).boxes
    sound_counts t C R e =
        let less = (less_by D C t R).sound in
        let is = ap (λ (c : Counts). c.sound) (counts_are D) in
        sum (sound_of old.rate t.boxes) (sound_of old.rate (taken_at path number t).boxes) (values_of old.rate old.grove (part_gone old new n table path number steps steps' b D)) n.sound b.counts.sound less is e
      where
        sum : (old new values sound count : ℕ) → new + values ≡ old → count ≡ sound - values → sound ≡ old → count ≡ new
        sum old new values sound count h k e = omega (arith, h, k, e)
