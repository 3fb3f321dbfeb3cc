-- At each stage of a run a tree stands, and under each name its owners, whatever wires and boxes come and go, so that no box runs twice in a block.
use Rattle.std.proofs.Common.{ℕ, sym, subst}
use Rattle.pd_patch.specs.declared.patch.Patch.{Patch}
use Rattle.pd_block.specs.Nets as block
use Rattle.pd_ends_law.specs.Once.{RunsOnce}
use Rattle.pd_ends_law.proofs.OnceLemmas.{standing_once}
use Rattle.pd_stage.specs.Choices.{Wanted}
use Rattle.pd_stage.specs.Stages.{Stage}
use Rattle.pd_stage.specs.Events.{edit_taken}
use Rattle.pd_stage.specs.Times.{block_net, with_wires}
use Rattle.pd_stage.specs.Trees.{HasTree}
use Rattle.pd_engine.proofs.TreeLemmas.{HasBoth, altered_both}
use Rattle.pd_steady.proofs.FairLemmas.{AreFair, taken_left}

-- edits
pub taken_owned : (wanted : Wanted) (s : Stage) → AreFair (edit_taken wanted s).edits → HasBoth s → HasBoth (edit_taken wanted s).stage
taken_owned wanted s h o = altered_both s (edit_taken wanted s).stage (taken_left wanted s h) o

pub tree_once : (s : Stage) → HasTree s → (levels : ℕ) → RunsOnce levels (block_net s)
tree_once s t levels =
    let q : Patch = with_wires t.patch t.of.web t.of.links t.of.orders in
    subst (λ (n : block.Net). RunsOnce levels n) (sym t.of.net) (standing_once q t.tree s.clocks levels t.stands t.of.rewires.own t.of.rewires.orders)
