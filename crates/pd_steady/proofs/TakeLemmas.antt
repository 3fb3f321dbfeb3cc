-- An edit that takes a box out leaves a steady stage steady, where a tree and its owners stand after it.
use Rattle.std.proofs.Common.{◌≡◌, inl, inr, ◌^◌, ◌-◌, ℕ, List, [], refl, sym, subst}
use Rattle.slab.specs.Slab.{get}
use Rattle.pd_atom.specs.Names.{Names}
use Rattle.pd_clock.specs.Queue.{Clock}
use Rattle.pd_vline.specs.Rows.{IsOpen}
use Rattle.pd_grove.specs.Forest.{IsForest}
use Rattle.pd_grove.specs.Telling.{kind_in}
use Rattle.pd_patch.specs.declared.patch.Patch.{Patch}
use Rattle.pd_patch.specs.Values.{blocks_told}
use Rattle.pd_adding.specs.declared.counts.Counts.{Counts}
use Rattle.pd_stage.specs.PassedOn.{DeletesBox, OldBox}
use Rattle.pd_hearing.specs.Worlds.{net_of, states_of}
use Rattle.pd_channels_law.specs.Channels.{HasFewChannels}
use Rattle.pd_guards.specs.Order.{IsKept, IsKind}
use Rattle.pd_guards.specs.Sounds.{HasValues}
use Rattle.pd_sized.specs.Kinds.{KeepsOfKind}
use Rattle.pd_sized.specs.Sizes.{HasSizes}
use Rattle.pd_stage.specs.Choices.{Base, Made, Choice, Makes}
use Rattle.pd_stage.specs.Stages.{Stage, with_ahead}
use Rattle.pd_stage.specs.Events.{stage_by}
use Rattle.pd_stage.specs.Times.{block_units}
use Rattle.pd_stage.specs.Lawful.{IsTakenOut}
use Rattle.pd_steady.specs.Steady.{IsSteady}
use Rattle.pd_steady.proofs.KeyLemmas.{rows_blocks}
use Rattle.pd_steady.proofs.LessLemmas.{HasLess, has_less, left_states, left_kinds, left_objects, left_keys}
use Rattle.pd_steady.proofs.LeaveLemmas.{port_less}
use Rattle.pd_steady.proofs.PutLemmas.{standing, is_standing}
use Rattle.pd_steady.proofs.StandLemmas.{tree_near, tree_serves}
use Rattle.pd_engine.proofs.TreeLemmas.{HasBoth}

-- a patch stands, with other clocks and other edits to come
abbrev pub taken_stage : Stage → Patch → List Clock → Base → List Choice → Stage
taken_stage s q clocks base ahead = record {
  file = s.file;
  net = net_of q;
  states = states_of q;
  clocks = clocks;
  names = s.names;
  base = base;
  time = s.time;
  block_end = s.block_end;
  fired = s.fired;
  tally = s.tally;
  ahead = ahead;
}

pub made_is : (s : Stage) (q : Patch) (ahead : List Choice) (m : Made) → m.net ≡ net_of q → m.states ≡ states_of q → m.names ≡ s.names
    → stage_by (with_ahead s ahead) (Makes m) ≡ taken_stage s q m.clocks m.base ahead
made_is s q ahead m net states names = rw (net, states, names) refl

-- the patch is the one that was, less a box and all that lay in it
deleted_less : (p q : Patch) (n : Counts) (table : Names) (path : List ℕ) (number steps steps' : ℕ) (b : OldBox) → IsForest (get p.grove.nodes) (get p.grove.boards) p.grove.root
    → DeletesBox p q n table path number steps steps' b → HasLess p q b.key
deleted_less p q n table path number steps steps' b F (inl x) =
    has_less p x.ready q table (record { canvas = b.canvas; number = number }) b.key steps steps' x.room x.cleared F
deleted_less p q n table path number steps steps' b F (inr x) =
    port_less p x.ready q table (record { canvas = b.canvas; number = number }) b.key x.holder x.side x.port steps steps' x.room x.taken F

pub taken_less : (s : Stage) (path : List ℕ) (number : ℕ) (m : Made) → (h : IsTakenOut s path number m) → HasLess h.old h.new h.box.key
taken_less s path number m h = deleted_less h.old h.new s.base.counts s.names path number h.steps h.steps' h.box h.stands.puts.forest h.deletes

-- a patch with a box less stands
less_steady : (most : ℕ) (s : Stage) (p q : Patch) (clocks : List Clock) (base : Base) (ahead : List Choice) (key : ℕ) → IsSteady most (standing s p) → HasLess p q key
    → HasBoth (taken_stage s q clocks base ahead) → IsSteady most (taken_stage s q clocks base ahead)
less_steady most s p q clocks base ahead key h less tree =
    let objects : KeepsOfKind (λ k. kind_in ((net_of q).nodes k)) (states_of q) = left_objects p q key less h.ready.kinds in
    record {
      time = h.time;
      near = tree_near (taken_stage s q clocks base ahead) tree.tree tree.owners;
      order = record {
        time = h.order.time;
        first = h.order.first;
        kinds = left_kinds p q key less (IsKind s.names) h.order.kinds;
        states = left_states p q key less (IsKept s.names s.time) h.order.states;
      };
      values = record { states = left_states p q key less HasValues h.values.states; blocks = less.values h.values.blocks };
      ready = record {
        kinds = objects;
        whole = record { states = left_states p q key less HasSizes h.ready.whole.states; blocks = less.sizes h.ready.whole.blocks };
        owners = tree_serves (taken_stage s q clocks base ahead) tree.tree tree.owners objects;
        channels = left_kinds p q key less HasFewChannels h.ready.channels;
        keys = left_keys p q key less (2 ^ 32) h.ready.keys;
        fed = less.fed h.ready.fed;
        blocks = rows_blocks q.web (blocks_told q) (less.blocks h.rows);
      };
      rows = less.blocks h.rows;
      block = h.block;
      ends = record { each = left_states p q key less (IsOpen (s.block_end - block_units)) h.ends.each };
      tree = tree.tree;
      owners = tree.owners;
    }

-- an edit that took a box out
pub take_steady : (most : ℕ) (s : Stage) (ahead : List Choice) (path : List ℕ) (number : ℕ) (m : Made) → IsSteady most s → IsTakenOut (with_ahead s []) path number m
    → HasBoth (stage_by (with_ahead s ahead) (Makes m)) → IsSteady most (stage_by (with_ahead s ahead) (Makes m))
take_steady most s ahead path number m h taken tree =
    let is = made_is s taken.new ahead m taken.net taken.states taken.names in
    let was : IsSteady most (standing s taken.old) = subst (IsSteady most) (is_standing s taken.old taken.stands.net taken.stands.states) h in
    subst (IsSteady most) (sym is)
    (less_steady most s taken.old taken.new m.clocks m.base ahead taken.box.key was (taken_less (with_ahead s []) path number m taken) (subst HasBoth is tree))
