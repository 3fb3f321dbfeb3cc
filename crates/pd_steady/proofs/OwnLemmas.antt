-- With pd_engine's own events and edits a run is pd_engine's.
use Rattle.std.proofs.Common.{◌≡◌, ◌+◌, ◌-◌, ℕ, zero, suc, Bool, nat_lt, nat_le, if◌then◌else◌, List, Option, Some, None, refl, ap, ◌∙◌}
use Rattle.pd_clock.specs.Queue.{Clock}
use Rattle.pd_atom.specs.Names.{Names}
use Rattle.pd_patch.specs.declared.patch.Patch.{Patch}
use Rattle.pd_script.specs.declared.commands.Command.{Command}
use Rattle.pd_script.specs.declared.commands.Command.TheVariants as command
use Rattle.pd_stage.specs.Choices.{Base, Choice}
use Rattle.pd_stage.specs.Stages.{Stage, Passage, still, joined, followed_by}
use Rattle.pd_stage.specs.Times.{block_units, most_fired, next_clock, fires, fires_or_not, fires_below, block_sounds, block_runs, blocks_run, time_is, comes_to, advanced, finished}
use Rattle.pd_engine.specs.Commands.{commanded}
use Rattle.pd_engine.specs.Opening.{opened}
use Rattle.pd_steady.specs.Runs.{own_ways, fires_or_not_by, fires_below_by, block_runs_by, blocks_run_by, comes_to_by, commanded_by, advanced_by, finished_by, opened_by}

-- two parts, each the same
both : (p q : Passage) (next other : Stage → Passage) → p ≡ q → next q.stage ≡ other q.stage → followed_by p next ≡ followed_by q other
both p q next other e f = ap (λ (x : Passage). followed_by x next) e ∙ ap (λ (x : Passage). joined q x) f

clock_own : (s : Stage) (rest other : Stage → Passage) (o : Option Clock) → ((r : Stage) → rest r ≡ other r) → fires_or_not_by own_ways s rest o ≡ fires_or_not s other o
clock_own s rest other None f = refl
clock_own s rest other (Some c) f = ap (λ (x : Passage). joined (fires s c) x) (f (fires s c).stage)

clocks_own : (n limit : ℕ) (s : Stage) → fires_below_by own_ways n limit s ≡ fires_below n limit s
unfolding fires_below fires_below_by
clocks_own zero limit s = refl
clocks_own (suc n) limit s = clock_own s (fires_below_by own_ways n limit) (fires_below n limit) (next_clock limit s.clocks) (λ r. clocks_own n limit r)

block_own : (s : Stage) → block_runs_by own_ways s ≡ block_runs s
block_own s = ap (λ (x : Passage). followed_by x block_sounds) (clocks_own (most_fired - s.fired) s.block_end s)

either_own : (b : Bool) (p q r : Passage) → p ≡ q → ◌≡◌ {A = Passage} (if b then p else r) (if b then q else r)
either_own b p q r e = ap (λ (x : Passage). if b then x else r) e

blocks_own : (n to : ℕ) (s : Stage) → blocks_run_by own_ways n to s ≡ blocks_run n to s
unfolding blocks_run blocks_run_by
blocks_own zero to s = refl
blocks_own (suc n) to s =
    either_own (nat_le s.block_end to) (followed_by (block_runs_by own_ways s) (blocks_run_by own_ways n to)) (followed_by (block_runs s) (blocks_run n to)) (still s)
    (both (block_runs_by own_ways s) (block_runs s) (blocks_run_by own_ways n to) (blocks_run n to) (block_own s) (blocks_own n to (block_runs s).stage))

comes_own : (to : ℕ) (s : Stage) → comes_to_by own_ways to s ≡ comes_to to s
comes_own to s = ap (λ (x : Passage). followed_by x (time_is to)) (clocks_own (most_fired - s.fired) to s)

pub advanced_own : (to : ℕ) (s : Stage) → advanced_by own_ways to s ≡ advanced to s
advanced_own to s =
    both (blocks_run_by own_ways (to + 1) to s) (blocks_run (to + 1) to s) (comes_to_by own_ways to) (comes_to to) (blocks_own (to + 1) to s)
    (comes_own to (blocks_run (to + 1) to s).stage)

pub finished_own : (s : Stage) → finished_by own_ways s ≡ finished s
finished_own s = either_own (nat_lt s.block_end (s.time + block_units)) (block_runs_by own_ways s) (block_runs s) (still s) (block_own s)

pub commanded_own : (c : Command) (s : Stage) → commanded_by own_ways c s ≡ commanded c s
unfolding commanded commanded_by
commanded_own (command.Send name atoms) s = refl
commanded_own (command.Edit place edit) s = refl
commanded_own (command.Save document) s = refl
commanded_own (command.Show path) s = refl
commanded_own command.Undo s = refl
commanded_own command.Redo s = refl

pub opened_own : (file : List ℕ) (p : Patch) (names : Names) (base : Base) (ahead : List Choice) → opened_by own_ways file p names base ahead ≡ opened file p names base ahead
opened_own file p names base ahead = refl
