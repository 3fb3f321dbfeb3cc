-- An edit that makes a box another one leaves a steady stage steady, where a tree and its owners stand after it.
use Rattle.std.proofs.Common.{◌≡◌, ◌≢◌, ◌⊎◌, ◌<◌, ◌≤◌, ◌^◌, inl, inr, ℕ, List, [], Option, Some, None, IfSome, option_map, refl, sym, ap, subst, ◌∙◌}
use Rattle.std.proofs.lemmas.Bool.{cases_lt}
use Rattle.std.proofs.lemmas.Option.{none-some}
use Rattle.slab.specs.Slab.{get}
use Rattle.pd_atom.specs.declared.Atom.{Atom}
use Rattle.pd_atom.specs.Names.{Names, Extends}
use Rattle.pd_gather.specs.Gather.{Known}
use Rattle.pd_kind.specs.declared.states.State.{State}
use Rattle.pd_kind.specs.Fit.{blank}
use Rattle.pd_kind.specs.States.{start_of}
use Rattle.pd_kind.specs.Tables.{started}
use Rattle.pd_canvas.specs.Pages.{Entry}
use Rattle.pd_tree.specs.Trees.{Cell, Stand, Trees}
use Rattle.pd_grove.specs.Standing.{HasCell}
use Rattle.pd_adding.specs.declared.counts.Counts.{Counts}
use Rattle.pd_adding.specs.Boxes.{CanBeWritten}
use Rattle.pd_grove.specs.declared.nodes.Node.{Node}
use Rattle.pd_grove.specs.Refits.{with_text}
use Rattle.pd_grove.specs.Telling.{kind_in, state_in}
use Rattle.pd_web.specs.declared.web.Web.{Web}
use Rattle.pd_patch.specs.declared.patch.Patch.{Patch}
use Rattle.pd_patch.specs.Fed.{AreFed}
use Rattle.pd_patch.specs.Values.{Blocks, blocks_told}
use Rattle.pd_stage.specs.PassedOn.{HasBecome, TakesText}
use Rattle.pd_hearing.specs.Worlds.{bare, net_of, states_of}
use Rattle.pd_guards.specs.Order.{HasFirst}
use Rattle.pd_sized.specs.Kinds.{blank_of, KeepsOfKind}
use Rattle.pd_stage.specs.Choices.{Base, Made, Choice, Makes}
use Rattle.pd_stage.specs.Stages.{Stage, with_ahead}
use Rattle.pd_stage.specs.Events.{stage_by}
use Rattle.pd_stage.specs.Lawful.{known_at, IsRetypedTo}
use Rattle.pd_steady.specs.Steady.{HasRows, IsSteady}
use Rattle.pd_steady.proofs.StartLemmas.{small_few}
use Rattle.pd_steady.proofs.AddedLemmas.{IsAddedWell, added_well}
use Rattle.pd_steady.proofs.AlikeLemmas.{KeepsAlike, altered_alike, alike_objects, alike_steady}
use Rattle.pd_steady.proofs.BackLemmas.{back_node, back_new}
use Rattle.pd_steady.proofs.ComeLemmas.{node_with}
use Rattle.pd_steady.proofs.KeyLemmas.{HasOneNew, KeepsBoxes, keeps_then, room_keeps, refit_under, one_new}
use Rattle.pd_steady.proofs.LooseLemmas.{loose_keeps}
use Rattle.pd_steady.proofs.NewLemmas.{HasNew, one_by, new_objects}
use Rattle.pd_steady.proofs.PutLemmas.{IsWell, IsWellAt, new_well, fresh_objects, standing, is_standing, put_stage, named_is, new_steady}
use Rattle.pd_engine.proofs.TreeLemmas.{HasBoth}

-- a box that stands keeps what is of its kind, so its key is low
stands_low : (p : Patch) (key : ℕ) (n : Node) → get p.grove.nodes key ≡ Some n → KeepsOfKind (λ k. kind_in ((net_of p).nodes k)) (states_of p)
    → ((k : ℕ) → 2 ^ 32 ≤ k → states_of p k ≡ None) → key < 2 ^ 32
stands_low p key n is kinds keys = elim (cases_lt key (2 ^ 32)) [
  | inl low ↦ low
  | inr far ↦ absurd (none-some (blank_of n.kind) (ap (option_map blank) (sym (keys key far)) ∙ kinds key ∙ ap (λ (o : Option Node). option_map blank_of (kind_in (bare o))) is))
]

-- with another text a box keeps what it kept, and is of the same kind
same_state : (written text : List Atom) (o : Option Node) → state_in (option_map (with_text written text) o) ≡ state_in o
same_state written text None = refl
same_state written text (Some n) = refl

same_kind : (written text : List Atom) (o : Option Node) → kind_in (bare (option_map (with_text written text) o)) ≡ kind_in (bare o)
same_kind written text None = refl
same_kind written text (Some n) = refl

module _ (s : Stage) (path : List ℕ) (number : ℕ) (text : List Atom) (m : Made) (to : IsRetypedTo s path number text m) where
  -- it became another one
  abbrev Other : Type 0
  Other = HasBecome to.old to.new s.time to.box.key to.retypes.node to.retypes.added to.box.gone.items to.steps to.steps'

  -- it took another text
  abbrev Renamed : Type 0
  Renamed = TakesText to.old to.new s.names text to.box.key to.retypes.node to.retypes.added to.box.gone.items to.steps to.steps'

  -- the box that it became
  abbrev new_node : Other → Node
  new_node b = node_with to.retypes.node.board b.seed None

  -- it stands among the others, which stay where wires went
  one_other : (b : Other) → HasOneNew to.old b.fitted to.box.key (new_node b)
  one_other b =
      let loose : KeepsBoxes to.old b.loose =
      keeps_then to.old b.ready b.loose (room_keeps to.old b.ready b.room) (loose_keeps b.ready b.loose to.box.key to.steps b.between b.loosens) in
      let free : KeepsBoxes to.old b.free = keeps_then to.old b.loose b.free loose (loose_keeps b.loose b.free to.box.key b.between b.freed b.frees) in
      one_new to.old b.free b.fitted to.box.key (new_node b) free (refit_under b.free b.fitted to.retypes.added.known.names to.box.key to.retypes.node b.seed b.refit)

  -- so it does where the wires that turn came back
  other_new : (b : Other) (P : ℕ → Node → Type 0) → P to.box.key (new_node b) → HasNew to.old to.new P
  other_new b P h =
      back_new b.fitted to.new to.box.key b.placed to.steps' b.back.tightens b.back.kept to.old P (one_by to.old b.fitted P to.box.key (new_node b) (one_other b) h)

  -- it keeps what its kind keeps at first
  other_fresh : (b : Other) → (new_node b).state ≡ Some (started (start_of (new_node b).kind to.old.rate) s.time)
  other_fresh b = ap (λ (x : State). Some x) b.fresh

  other_well : (b : Other) → HasFirst s.names → IsWell to.retypes.added.known.names s.time (new_node b)
  other_well b first =
      let x = to.retypes in
      let c : Cell = b.can.cell in
      let few : x.added.counts.sound ≤ 16777216 =
      subst (λ (y : Counts). y.sound ≤ 16777216) x.counts (subst (λ (y : Base). y.counts.sound ≤ 16777216) to.base to.within.sound) in
      let added : IsAddedWell x.added.known.names to.old.rate c.kind =
      added_well to.old _ s.file path _ (known_at s) x.files x.added x.grew first
      (subst (λ (o : Option Entry). IfSome o (CanBeWritten s.names)) (sym x.new_entry) x.written) few c (subst (λ (t : Trees). HasCell t c) (sym b.can.single) (inl refl)) in
      new_well to.old.rate s.time x.added.known.names (new_node b) (other_fresh b) (small_few b.seed.row.kind b.leaf.small)
      (subst (IsAddedWell x.added.known.names to.old.rate) (sym (ap (λ (y : Stand). y.cell.kind) b.is_row)) added)

  -- a subpatch with another text: each box keeps what it kept
  renamed_alike : Renamed → KeepsAlike to.old to.new
  renamed_alike b =
      let written : List Atom = b.can.cell.head.text in
      altered_alike (with_text written b.can.cell.text) (same_state written b.can.cell.text) (same_kind written b.can.cell.text) to.old b.ready to.new to.box.key
      (room_keeps to.old b.ready b.room) b.renamed.box b.renamed.rest.values
      (λ few h. subst AreFed (sym b.renamed.rest.web) h)
      (λ h. subst (λ (x : Blocks). HasRows to.new.web x) (sym (same_blocks b)) (subst (λ (w : Web). HasRows w (blocks_told b.ready)) (sym b.renamed.rest.web) h))
    where
      same_blocks : (r : Renamed) → blocks_told to.new ≡ blocks_told r.ready
      same_blocks r = rw (r.renamed.rest.values) refl

  -- each other box keeps what it kept
  pub retyped_others : (k : ℕ) → k ≢ to.box.key → states_of to.new k ≡ states_of to.old k
  retyped_others k other = by to.retypes.became
    where
      by : Other ⊎ Renamed → states_of to.new k ≡ states_of to.old k
      by (inl b) = ap (λ (o : Option Node). state_in o) (back_node b.fitted to.new to.box.key b.placed to.steps' b.back.tightens k ∙ (one_other b).others k other)
      by (inr b) = (renamed_alike b).state k

  -- what boxes keep is of their kinds
  pub retyped_objects : KeepsOfKind (λ k. kind_in ((net_of to.old).nodes k)) (states_of to.old) → KeepsOfKind (λ k. kind_in ((net_of to.new).nodes k)) (states_of to.new)
  retyped_objects old = by to.retypes.became
    where
      by : Other ⊎ Renamed → KeepsOfKind (λ k. kind_in ((net_of to.new).nodes k)) (states_of to.new)
      by (inl b) =
          let new : HasNew to.old to.new (λ k n. option_map blank n.state ≡ Some (blank_of n.kind)) =
          other_new b (λ k n. option_map blank n.state ≡ Some (blank_of n.kind)) (fresh_objects (new_node b) to.old.rate s.time (other_fresh b)) in
          new_objects to.old to.new (λ k n. option_map blank n.state ≡ Some (blank_of n.kind)) new (λ k n own. own) old
      by (inr b) = alike_objects to.old to.new (renamed_alike b) old

-- an edit that made a box another one
pub retype_steady : (most : ℕ) (s : Stage) (ahead : List Choice) (path : List ℕ) (number : ℕ) (text : List Atom) (m : Made) → IsSteady most s → IsRetypedTo (with_ahead s []) path number text m
    → HasBoth (stage_by (with_ahead s ahead) (Makes m)) → IsSteady most (stage_by (with_ahead s ahead) (Makes m))
retype_steady most s ahead path number text m h to tree =
    let told : m.names ≡ names = to.names ∙ ap (λ (k : Known). k.names) to.retypes.known_is in
    let on : Extends s.names names = subst (Extends s.names) told to.more in
    let is = named_is s to.new names ahead m to.net to.states told in
    let was : IsSteady most (standing s to.old) = subst (IsSteady most) (is_standing s to.old to.stands.net to.stands.states) h in
    subst (IsSteady most) (sym is) (by on was (subst HasBoth is tree) to.retypes.became)
  where
    at : Stage
    at = with_ahead s []

    names : Names
    names = to.retypes.added.known.names

    by : Extends s.names names → IsSteady most (standing s to.old) → HasBoth (put_stage s to.new m.clocks names m.base ahead)
        → Other at path number text m to ⊎ Renamed at path number text m to → IsSteady most (put_stage s to.new m.clocks names m.base ahead)
    by on was both (inl b) =
        let low : to.box.key < 2 ^ 32 = stands_low to.old to.box.key to.retypes.node to.retypes.chosen.is was.ready.kinds was.ready.keys in
        let new : HasNew to.old to.new (IsWellAt names s.time) =
        other_new at path number text m to b (IsWellAt names s.time) (other_well at path number text m to b h.order.first, low) in
        new_steady most s to.old to.new m.clocks names m.base ahead was on new both
    by on was both (inr b) = alike_steady to.old to.new (renamed_alike at path number text m to b) most s m.clocks names m.base ahead was on both
