-- What is asked of a patch that is saved: at first, and after an edit of wires.
use Rattle.std.proofs.Common.{◌≡◌, ℕ, ◌+◌, ◌≤◌, List, sym, subst, arith}
use Rattle.slab.specs.Slab.{get}
use Rattle.pd_atom.specs.Names.{Names}
use Rattle.pd_clock.specs.declared.times.Rate.{Rate}
use Rattle.pd_canvas.specs.declared.edits.Edit.{Edit}
use Rattle.pd_tree.specs.Trees.{Tree}
use Rattle.pd_growth.specs.Steps.{Step}
use Rattle.pd_grove.specs.declared.grove.Grove.{Grove}
use Rattle.pd_grove.specs.TextOrder.{deep}
use Rattle.pd_patch.specs.declared.patch.Patch.{Patch}
use Rattle.pd_patch.specs.Grown.{IsTree, IsFresh}
use Rattle.pd_wiring.specs.Plans.{Plan, Attaches, Detaches, IsCarriedOut, IsRewired}
use Rattle.pd_reload_law.specs.Reloading.{RunsAs}
use Rattle.pd_reload_law.proofs.FreshLemmas.{fresh_savable}

no_deeper : (n : ℕ) → n + 1 ≤ 256 → n ≤ 256
no_deeper n h = omega (arith, h)

pub first_runs : (p : Patch) (names : Names) (file : List ℕ) (rate : Rate) (s : Step Tree) → (grew : IsTree p names rate s) → IsFresh p names file rate → RunsAs p.grove grew.tree
first_runs p names file rate s grew fresh = record {
  stands = grew.stands;
  shallow = no_deeper (deep grew.tree.boxes) grew.shallow;
  savable = fresh_savable rate 0 (get p.grove.nodes) fresh.states;
}

grove_stays : (p q : Patch) (plan : Plan) → IsCarriedOut plan p q → q.grove ≡ p.grove
grove_stays p q (Attaches c l) a = a.rest.grove
grove_stays p q (Detaches c key l) a = a.rest.grove

pub edited_runs : (p q : Patch) (t : Tree) (path : List ℕ) (e : Edit) (canvas : ℕ) → RunsAs p.grove t → IsRewired p q path e canvas → RunsAs q.grove t
edited_runs p q t path e canvas r x = subst (λ (g : Grove). RunsAs g t) (sym (grove_stays p q x.plan x.done)) r
