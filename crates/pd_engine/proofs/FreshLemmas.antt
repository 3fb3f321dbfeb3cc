-- What a patch that has just grown allows: boxes can come, and its counts are within the limits.
use Rattle.std.proofs.Common.{◌≡◌, ◌≤◌, ℕ, List, sym, subst}
use Rattle.slab.specs.Slab.{get}
use Rattle.pd_atom.specs.Names.{Names}
use Rattle.pd_clock.specs.declared.times.Rate.{Rate}
use Rattle.pd_tree.specs.Trees.{Tree, zeros_of}
use Rattle.pd_growth.specs.Steps.{Step}
use Rattle.pd_grove.specs.Forest.{IsForest}
use Rattle.pd_grove.specs.Standing.{GroveStands}
use Rattle.pd_web.specs.Changes.{wires_told}
use Rattle.pd_web.specs.Jacks.{KindsSmall}
use Rattle.pd_patch.specs.declared.patch.Patch.{Patch}
use Rattle.pd_patch.specs.Built.{IsBuilt}
use Rattle.pd_patch.specs.Grown.{IsFresh, IsTree}
use Rattle.pd_boxes.specs.Put.{CanPut}
use Rattle.pd_adding.specs.declared.counts.Counts.{Counts}
use Rattle.pd_adding.specs.Counted.{AreCounted, IsLimited, next_above}
use Rattle.pd_adding.specs.Counts.{AreWithin}

-- it has no more wires than there may be
few_wires : (p : Patch) (names : Names) (file : List ℕ) (rate : Rate) → IsFresh p names file rate → wires_told p.web ≤ 65536
few_wires p names file rate f = subst (λ (n : ℕ). n ≤ 65536) (sym f.wires.counted) f.wires.few

module _ (p : Patch) (names : Names) (file : List ℕ) (rate : Rate) (s : Step Tree) (t : IsTree p names rate s) (f : IsFresh p names file rate) where
  -- boxes can come
  pub can_put : ((q : Patch) → IsForest (get q.grove.nodes) (get q.grove.boards) q.grove.root → KindsSmall q.grove → (more : Names) (name : List ℕ) (r : Rate) → IsBuilt q more name r → CanPut q)
      → IsBuilt p names file rate → CanPut p
  can_put own built = own p t.forest t.small names file rate built

  -- it is within the limits, by its own rate
  abbrev here : IsLimited rate t.tree → IsLimited p.rate t.tree
  here limited = subst (λ (r : Rate). IsLimited r t.tree) (sym f.same_rate) limited

  -- its counts are within the limits
  module _ (limited : IsLimited rate t.tree) (n : Counts) where
    pub within_first : ((u : Tree) → GroveStands p.grove u.sheet u.boxes → IsLimited p.rate u → wires_told p.web ≤ 65536 → AreWithin n) → AreWithin n
    within_first within = within t.tree t.stands (here limited) (few_wires p names file rate f)

    pub counted_first : ((u : Tree) → GroveStands p.grove u.sheet u.boxes → IsLimited p.rate u → (a : AreCounted n p) × (a.tree ≡ u) × (n.next_zero ≡ next_above (zeros_of u)))
        → (a : AreCounted n p) × (a.tree ≡ t.tree)
    counted_first counted = let told = counted t.tree t.stands (here limited) in (told.0, told.1)
