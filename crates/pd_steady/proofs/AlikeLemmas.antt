-- A patch in which each box keeps what it kept and is of the kind that it was stands as steady as it did.
use Rattle.std.proofs.Common.{◌≡◌, ◌≤◌, ◌-◌, ℕ, ℤ, List, Option, IfSome, option_map, refl, sym, ap, subst, ◌∙◌}
use Rattle.std.specs.List.{AllByRecursion}
use Rattle.slab.specs.Slab.{get}
use Rattle.pd_atom.specs.Names.{Names, Extends}
use Rattle.pd_clock.specs.Queue.{Clock}
use Rattle.pd_object.specs.declared.kinds.Kind.{Kind}
use Rattle.pd_kind.specs.declared.states.State.{State}
use Rattle.pd_kind.specs.Fit.{blank}
use Rattle.pd_vline.specs.Rows.{IsOpen}
use Rattle.pd_grove.specs.declared.nodes.Node.{Node}
use Rattle.pd_grove.specs.Refits.{Alters}
use Rattle.pd_grove.specs.Telling.{kind_in, state_in}
use Rattle.pd_web.specs.Changes.{wires_told}
use Rattle.pd_patch.specs.declared.patch.Patch.{Patch}
use Rattle.pd_patch.specs.Fed.{AreFed}
use Rattle.pd_patch.specs.Values.{blocks_told}
use Rattle.pd_hearing.specs.Worlds.{bare, net_of, states_of}
use Rattle.pd_channels_law.specs.Channels.{HasFewChannels}
use Rattle.pd_guards.specs.Order.{IsKept, IsKind}
use Rattle.pd_guards.specs.Sounds.{AreValues, HasValues}
use Rattle.pd_guards.proofs.FactLemmas.{some-weaker}
use Rattle.pd_guards.proofs.MoreLemmas.{longer, first_more, kind_more, kept_more}
use Rattle.pd_sized.specs.Kinds.{blank_of, KeepsOfKind}
use Rattle.pd_sized.specs.Sizes.{HasSizes, IsBlock}
use Rattle.pd_stage.specs.Choices.{Base, Choice}
use Rattle.pd_stage.specs.Stages.{Stage}
use Rattle.pd_stage.specs.Times.{block_units}
use Rattle.pd_steady.specs.Steady.{HasRows, IsSteady}
use Rattle.pd_steady.proofs.KeyLemmas.{by_key, rows_blocks, KeepsBoxes}
use Rattle.pd_steady.proofs.PutLemmas.{standing, put_stage, no_more_wires}
use Rattle.pd_steady.proofs.StandLemmas.{tree_near, tree_serves}
use Rattle.pd_engine.proofs.TreeLemmas.{HasBoth}

-- Each box keeps what it kept and is of the kind that it was. What is said of the wires to inlets and of blocks is still so, where there are no more wires
-- than a patch may have.
pub record KeepsAlike (p q : Patch) : Type 0 where
  pub state : (k : ℕ) → states_of q k ≡ states_of p k
  pub kind : (k : ℕ) → kind_in ((net_of q).nodes k) ≡ kind_in ((net_of p).nodes k)
  pub fed : wires_told q.web ≤ 65536 → AreFed p.web → AreFed q.web
  pub blocks : HasRows p.web (blocks_told p) → HasRows q.web (blocks_told q)
  pub values : AllByRecursion (AllByRecursion AreValues) (blocks_told p) → AllByRecursion (AllByRecursion AreValues) (blocks_told q)
  pub sizes : AllByRecursion (AllByRecursion IsBlock) (blocks_told p) → AllByRecursion (AllByRecursion IsBlock) (blocks_told q)

-- a box becomes this, and keeps what it kept
module _ (f : Node → Node) (state : (o : Option Node) → state_in (option_map f o) ≡ state_in o) (kind : (o : Option Node) → kind_in (bare (option_map f o)) ≡ kind_in (bare o))
    (p r q : Patch) (key : ℕ) (kept : KeepsBoxes p r) (alters : Alters r.grove q.grove key f) (values : q.values ≡ r.values) where
  same_state : (k : ℕ) → states_of q k ≡ states_of p k
  same_state =
      by_key (λ k. states_of q k ≡ states_of p k) key
      (ap (λ (o : Option Node). state_in o) alters.box ∙ state (get r.grove.nodes key) ∙ ap (λ (o : Option Node). state_in o) (kept.nodes key))
      (λ k other. ap (λ (o : Option Node). state_in o) (alters.others k other ∙ kept.nodes k))

  same_kind : (k : ℕ) → kind_in ((net_of q).nodes k) ≡ kind_in ((net_of p).nodes k)
  same_kind =
      by_key (λ k. kind_in ((net_of q).nodes k) ≡ kind_in ((net_of p).nodes k)) key
      (ap (λ (o : Option Node). kind_in (bare o)) alters.box ∙ kind (get r.grove.nodes key) ∙ ap (λ (o : Option Node). kind_in (bare o)) (kept.nodes key))
      (λ k other. ap (λ (o : Option Node). kind_in (bare o)) (alters.others k other ∙ kept.nodes k))

  all_blocks : (P : List ℤ → Type 0) → AllByRecursion (AllByRecursion P) (blocks_told r) → AllByRecursion (AllByRecursion P) (blocks_told q)
  all_blocks P h = subst (AllByRecursion (AllByRecursion P)) (sym same) h
    where
      same : blocks_told q ≡ blocks_told r
      same = rw values refl

  pub altered_alike : (wires_told q.web ≤ 65536 → AreFed r.web → AreFed q.web) → (HasRows r.web (blocks_told r) → HasRows q.web (blocks_told q)) → KeepsAlike p q
  altered_alike fed rows = record {
    state = same_state;
    kind = same_kind;
    fed = λ few h. fed few (kept.fed h);
    blocks = λ h. rows (kept.blocks h);
    values = λ h. all_blocks AreValues (kept.values h);
    sizes = λ h. all_blocks IsBlock (kept.sizes h);
  }

module _ (p q : Patch) (alike : KeepsAlike p q) where
  all_states : (P : State → Type 0) → ((k : ℕ) → IfSome (states_of p k) P) → (k : ℕ) → IfSome (states_of q k) P
  all_states P old k = subst (λ (o : Option State). IfSome o P) (sym (alike.state k)) (old k)

  all_kinds : (P : Kind → Type 0) → ((k : ℕ) → IfSome (kind_in ((net_of p).nodes k)) P) → (k : ℕ) → IfSome (kind_in ((net_of q).nodes k)) P
  all_kinds P old k = subst (λ (o : Option Kind). IfSome o P) (sym (alike.kind k)) (old k)

  -- what boxes keep is of their kinds
  pub alike_objects : KeepsOfKind (λ k. kind_in ((net_of p).nodes k)) (states_of p) → KeepsOfKind (λ k. kind_in ((net_of q).nodes k)) (states_of q)
  alike_objects old k = ap (option_map blank) (alike.state k) ∙ old k ∙ sym (ap (option_map blank_of) (alike.kind k))

  -- such a patch stands, with these clocks and names, and other edits to come
  pub alike_steady : (most : ℕ) (s : Stage) (clocks : List Clock) (names : Names) (base : Base) (ahead : List Choice) → IsSteady most (standing s p) → Extends s.names names
      → HasBoth (put_stage s q clocks names base ahead) → IsSteady most (put_stage s q clocks names base ahead)
  alike_steady most s clocks names base ahead h on tree =
      let l = longer s.names names on in
      let objects : KeepsOfKind (λ k. kind_in ((net_of q).nodes k)) (states_of q) = alike_objects h.ready.kinds in
      record {
        time = h.time;
        near = tree_near (put_stage s q clocks names base ahead) tree.tree tree.owners;
        order = record {
          time = h.order.time;
          first = first_more s.names names l h.order.first;
          kinds = all_kinds (IsKind names) (λ k. some-weaker (IsKind s.names) (IsKind names) (kind_more s.names names l) (kind_in ((net_of p).nodes k)) (h.order.kinds k));
          states =
              all_states (IsKept names s.time)
              (λ k. some-weaker (IsKept s.names s.time) (IsKept names s.time) (kept_more s.names names l s.time) (states_of p k) (h.order.states k));
        };
        values = record { states = all_states HasValues h.values.states; blocks = alike.values h.values.blocks };
        ready = record {
          kinds = objects;
          whole = record { states = all_states HasSizes h.ready.whole.states; blocks = alike.sizes h.ready.whole.blocks };
          owners = tree_serves (put_stage s q clocks names base ahead) tree.tree tree.owners objects;
          channels = all_kinds HasFewChannels h.ready.channels;
          keys = λ k far. alike.state k ∙ h.ready.keys k far;
          fed = alike.fed (no_more_wires base.counts.wires (wires_told q.web) tree.tree.wires tree.tree.within.wires) h.ready.fed;
          blocks = rows_blocks q.web (blocks_told q) (alike.blocks h.rows);
        };
        rows = alike.blocks h.rows;
        block = h.block;
        ends = record { each = all_states (IsOpen (s.block_end - block_units)) h.ends.each };
        tree = tree.tree;
        owners = tree.owners;
      }
