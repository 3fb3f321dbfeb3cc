-- A port box goes, and the box around loses the port that it was: all other boxes stay, and what is said of the wires to inlets and of blocks is still so.
use Rattle.std.proofs.Common.{◌≡◌, ◌⊎◌, inl, inr, ℕ, List, replicate, None, refl, sym, ap, subst, ◌∙◌}
use Rattle.std.proofs.lemmas.Bool.{cases_eq}
use Rattle.slab.specs.Slab.{get}
use Rattle.pd_atom.specs.Names.{Names}
use Rattle.pd_kind.specs.States.{silent_block}
use Rattle.pd_grove.specs.declared.grove.Grove.{Grove}
use Rattle.pd_grove.specs.declared.ports.Side.{Side}
use Rattle.pd_grove.specs.declared.ports.Side.TheVariants.{Inlets, Outlets}
use Rattle.pd_grove.specs.Forest.{IsForest}
use Rattle.pd_web.specs.declared.jacks.Jack.{Jack}
use Rattle.pd_web.specs.declared.web.Web.{Web}
use Rattle.pd_web.specs.Hops.{feed_hops}
use Rattle.pd_patch.specs.declared.patch.Patch.{Patch}
use Rattle.pd_patch.specs.Fed.{keys_of}
use Rattle.pd_patch.specs.Values.{block_count, blocks_told, first_blocks}
use Rattle.pd_wiring.specs.Changes.{SameButRoom}
use Rattle.pd_boxes.specs.declared.room.Place.{Place}
use Rattle.pd_boxes.specs.Put.{keys_before}
use Rattle.pd_boxes.specs.Rows.{PutsUnder}
use Rattle.pd_owning.specs.Parts.{LiesWithin}
use Rattle.pd_clearing.specs.Clearing.{keys_past}
use Rattle.pd_following.specs.Raising.{up, Raises}
use Rattle.pd_following.specs.Ports.{port_jack}
use Rattle.pd_leaving.specs.Leaving.{GoesOut, LeavesPort, IsPortTaken}
use Rattle.pd_guards.specs.Sounds.{AreValues}
use Rattle.pd_guards.proofs.SignalLemmas.{silent_values}
use Rattle.pd_sized.specs.Sizes.{IsBlock}
use Rattle.pd_sized.proofs.StartLemmas.{silent_count}
use Rattle.pd_steady.proofs.KeyLemmas.{KeepsBoxes, keeps_then, fed_same, put_blocks, put_each}
use Rattle.pd_steady.proofs.LessLemmas.{HasLess, gone_or, node_stays}
use Rattle.pd_steady.proofs.LooseLemmas.{loose_keeps, web_room_keeps}
use Rattle.pd_steady.proofs.FollowLemmas.{AreKeysIn, raised_keys, raised_fed, still_wires, follow_blocks, follow_each}

-- ---- a box less, between changes that leave each box

less_then : (p q r : Patch) (key : ℕ) → HasLess p q key → KeepsBoxes q r → HasLess p r key
less_then p q r key less kept = record {
  each = λ k. subst (λ o. (o ≡ None) ⊎ (o ≡ get p.grove.nodes k)) (sym (kept.nodes k)) (less.each k);
  others = λ k out. kept.nodes k ∙ less.others k out;
  fed = λ h. kept.fed (less.fed h);
  blocks = λ h. kept.blocks (less.blocks h);
  values = λ h. kept.values (less.values h);
  sizes = λ h. kept.sizes (less.sizes h);
}

then_less : (p q r : Patch) (key : ℕ) → q.grove ≡ p.grove → KeepsBoxes p q → HasLess q r key → HasLess p r key
then_less p q r key same kept less = record {
  each = λ k. subst (λ (g : Grove). (get r.grove.nodes k ≡ None) ⊎ (get r.grove.nodes k ≡ get g.nodes k)) same (less.each k);
  others = λ k. subst (λ (g : Grove). (LiesWithin (get g.nodes) (get g.boards) key k → ⊥) → get r.grove.nodes k ≡ get g.nodes k) same (less.others k);
  fed = λ h. less.fed (kept.fed h);
  blocks = λ h. less.blocks (kept.blocks h);
  values = λ h. less.values (kept.values h);
  sizes = λ h. less.sizes (kept.sizes h);
}

-- ---- the port box goes, when it has no wires

module _ (p q : Patch) (table : Names) (place : Place) (key : ℕ) (goes : GoesOut p q table place key) (F : IsForest (get p.grove.nodes) (get p.grove.boards) p.grove.root) where
  -- it has no blocks, as no outlet asks for one
  no_blocks : PutsUnder (blocks_told p) (blocks_told q) key (first_blocks q.web key)
  no_blocks =
      subst (PutsUnder (blocks_told p) (blocks_told q) key) (sym (ap (λ (js : List Jack). replicate (block_count js) silent_block) (goes.ports.ports Outlets))) goes.blocks

  out_less : HasLess p q key
  out_less = record {
    each = λ k. gone_or (get q.grove.nodes k) (get p.grove.nodes k) (goes.grove.none_comes k);
    others = λ k.
        node_stays (get p.grove.nodes) (get q.grove.nodes) (get p.grove.boards) (get q.grove.boards) p.grove.root place.canvas key goes.node (keys_before p place) (keys_past p place) F goes.grove
        k (get p.grove.nodes k) refl;
    fed = fed_same p.web q.web goes.ports.lines goes.ports.feeds;
    blocks = put_blocks p q key no_blocks (goes.ports.other_ports Outlets);
    values = put_each AreValues p q key no_blocks silent_values;
    sizes = put_each IsBlock p q key no_blocks silent_count;
  }

-- ---- the box around has a port less

-- each inlet that is left has the wires of one that was
lowered_in : (w v : Web) (key : ℕ) (side : Side) (at : ℕ) (jack : Jack) → Raises v w key side at jack → (n i : ℕ) → AreKeysIn w (keys_of (feed_hops v n i))
lowered_in w v key Inlets at jack X n i = elim (cases_eq n key) [
  | inr d ↦ inr (n, i, ap keys_of (sym (X.others n i d)))
  | inl e ↦ inr (key, up at i, ap keys_of (ap (λ (x : ℕ). feed_hops v x i) e ∙ sym (X.own i)))
]
lowered_in w v key Outlets at jack X n i = inr (n, i, sym (raised_keys key at (feed_hops v n i)) ∙ sym (ap keys_of (X.across n i)))

lost_keeps : (p q : Patch) (holder : ℕ) (side : Side) (port : ℕ) (jack : Jack) → LeavesPort p q holder side port jack → KeepsBoxes p q
lost_keeps p q holder side port jack l = record {
  nodes = λ k. ap (λ (g : Grove). get g.nodes k) l.rest.grove;
  fed = raised_fed p.web q.web (lowered_in p.web q.web holder side port jack l.lowers) (still_wires p.web q.web l.follows.no_lines l.wires);
  blocks = follow_blocks side p q holder l.blocks (l.follows.other_ports Outlets);
  values = follow_each AreValues side p q holder l.blocks silent_values;
  sizes = follow_each IsBlock side p q holder l.blocks silent_count;
}

-- ---- the patch without the port box, where room was set aside for that before

module _ (p r q : Patch) (table : Names) (place : Place) (key holder : ℕ) (side : Side) (port steps steps' : ℕ) (room : SameButRoom p r)
    (taken : IsPortTaken r q table place key holder side port steps steps') (F : IsForest (get p.grove.nodes) (get p.grove.boards) p.grove.root) where
  same_grove : taken.ready.grove ≡ p.grove
  same_grove = taken.own.rest.grove ∙ taken.loosens.rest.grove ∙ room.grove

  loosened : KeepsBoxes p taken.ready
  loosened =
      keeps_then p taken.loose taken.ready
      (keeps_then p r taken.loose (web_room_keeps p r room) (loose_keeps r taken.loose holder steps taken.between taken.loosens))
      (loose_keeps taken.loose taken.ready key taken.between steps' taken.own)

  pub port_less : HasLess p q key
  port_less =
      let forest = subst (λ (g : Grove). IsForest (get g.nodes) (get g.boards) g.root) (sym same_grove) F in
      let out : HasLess taken.ready taken.out key = out_less taken.ready taken.out table place key taken.goes forest in
      let lost : KeepsBoxes taken.out q = lost_keeps taken.out q holder side port (port_jack side taken.goes.node.kind key) taken.leaves in
      then_less p taken.ready q key same_grove loosened (less_then taken.ready taken.out q key out lost)
