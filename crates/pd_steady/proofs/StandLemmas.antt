-- Where a tree stands at a stage, and under each name its owners, the canvases that own names are near, and the owners serve as long as boxes keep what is
-- of their kinds.
use Rattle.std.proofs.Common.{◌≡◌, ℕ, Option, Some, None, option_map, refl, sym, ap, subst, ◌∙◌}
use Rattle.slab.specs.Slab.{get}
use Rattle.pd_grove.specs.declared.nodes.Node.{Node}
use Rattle.pd_grove.specs.Telling.{kind_in}
use Rattle.pd_patch.specs.declared.patch.Patch.{Patch}
use Rattle.pd_hearing.specs.Worlds.{bare}
use Rattle.pd_block.specs.Nets as block
use Rattle.pd_block.specs.Blocks.{owner_of}
use Rattle.pd_guards.specs.Near.{AreNear}
use Rattle.pd_sized.specs.Kinds.{blank_of, KeepsOfKind}
use Rattle.pd_stage.specs.Stages.{Stage}
use Rattle.pd_stage.specs.Times.{with_wires}
use Rattle.pd_stage.specs.Trees.{HasTree, HasOwners}
use Rattle.pd_steady.specs.Serving.{OwnersServe}
use Rattle.pd_steady.proofs.NetLemmas.{same_net}
use Rattle.pd_steady.proofs.NearLemmas.{standing_near}
use Rattle.pd_steady.proofs.ServeLemmas.{owner_finds}

-- the patch with the wires that the stage has
abbrev pub patch_now : (s : Stage) → HasTree s → Patch
patch_now s t = with_wires t.patch t.of.web t.of.links t.of.orders

pub tree_near : (s : Stage) (t : HasTree s) → HasOwners s t.patch t.tree → AreNear s.net
tree_near s t o =
    subst AreNear (sym (same_net (patch_now s t) s t.of.net))
    (standing_near (patch_now s t) o.table s.file t.tree t.stands t.shallow t.apart o.owners)

-- a box is of the same kind without what it keeps
bare_kind : (o : Option Node) → kind_in (bare o) ≡ kind_in o
bare_kind None = refl
bare_kind (Some n) = refl

kind_now : (s : Stage) (t : HasTree s) (k : ℕ) → kind_in (s.net.nodes k) ≡ kind_in (get t.patch.grove.nodes k)
kind_now s t k = ap (λ (n : block.Net). kind_in (n.nodes k)) t.of.net ∙ bare_kind (get t.patch.grove.nodes k)

pub tree_serves : (s : Stage) (t : HasTree s) → HasOwners s t.patch t.tree → KeepsOfKind (λ k. kind_in (s.net.nodes k)) s.states → OwnersServe s
tree_serves s t owners kinds k o e =
    owner_finds t.patch.grove t.patch.names owners.table s.file owners.owners s.states (λ j. kinds j ∙ ap (option_map blank_of) (kind_now s t j)) k o
    (sym (ap (λ (n : block.Net). owner_of n.owners k) t.of.net) ∙ e)
