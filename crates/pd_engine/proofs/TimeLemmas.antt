-- Blocks one after another, up to a time.
use Rattle.std.proofs.Common.{◌≡◌, ◌≤◌, ◌<◌, ◌+◌, ◌-◌, ◌^◌, ℕ, zero, suc, List, [], ◌++◌, refl, sym, ◌∙◌, ap, min, Option, Some, None, arith}
use Rattle.std.proofs.lemmas.Bool.{le-leb, lt-leb, lt-ltb, le-ltb}
use Rattle.pd_clock.specs.Queue.{Clock}
use Rattle.pd_stage.specs.Choices.{Choice}
use Rattle.pd_stage.specs.Stages.{Stage, Passage, choices_of, still, with_ahead, followed_by}
use Rattle.pd_stage.specs.Leads.{Sinks, Leads, BreaksOff, Comes, Stops}
use Rattle.pd_stage.specs.Events.{Firing}
use Rattle.pd_stage.specs.Times.{with_fired, with_taken, taken_off, fires, blocks_run, block_runs, block_sounds, clocks_fire, fires_below, fires_or_not, next_clock, comes_to, advanced, finished, with_time, time_is}
use Rattle.pd_stage.proofs.EditLemmas.{event_times}
use Rattle.pd_stage.proofs.LeadLemmas.{joined_assoc, leads_begin, way_goes_on, way_breaks}

blocks_none : (n to : ℕ) (s : Stage) → to < s.block_end → blocks_run n to s ≡ still s
unfolding blocks_run
blocks_none zero to s later = refl
blocks_none (suc n) to s later = rw (lt-leb s.block_end to later) refl

blocks_one : (n to : ℕ) (s : Stage) → s.block_end ≤ to → blocks_run (suc n) to s ≡ followed_by (block_runs s) (blocks_run n to)
unfolding blocks_run
blocks_one n to s due = rw (le-leb s.block_end to due) refl

-- the blocks that are left, and what follows them
abbrev rest_of : ℕ → ℕ → Stage → Passage
rest_of n to s = followed_by (blocks_run n to s) (comes_to to)

-- what is left are some blocks up to a time, and the clocks behind them
pub record HasBlocksLeft (to : ℕ) (whole : List Choice → Passage) (s : Stage) (x y : Sinks) : Type 0 where
  pub count : ℕ
  pub enough : to + 1 ≤ count + s.block_end
  pub way : Leads whole (λ m. rest_of count to (with_ahead s m)) x y

pub blocks_begin : (to : ℕ) (s : Stage) (x : Sinks) → HasBlocksLeft to (λ m. advanced to (with_ahead s m)) s x x
blocks_begin to s x = record {
  count = to + 1;
  enough = omega arith;
  way = leads_begin (λ m. advanced to (with_ahead s m)) x;
}

rest_one : (n to : ℕ) (s : Stage) → s.block_end ≤ to → rest_of (suc n) to s ≡ followed_by (block_runs s) (rest_of n to)
rest_one n to s due =
    ap (λ (p : Passage). followed_by p (comes_to to)) (blocks_one n to s due)
    ∙ joined_assoc (block_runs s) (blocks_run n to (block_runs s).stage) (comes_to to (blocks_run n to (block_runs s).stage).stage)

rest_none : (n to : ℕ) (s : Stage) → to < s.block_end → rest_of n to s ≡ comes_to to s
rest_none n to s later = ap (λ (p : Passage). followed_by p (comes_to to)) (blocks_none n to s later)

-- the count isn't used up while a block is due
count_is : (n end to : ℕ) → to + 1 ≤ n + end → end ≤ to → n ≡ suc (n - 1)
count_is n end to enough due = omega arith

-- clocks that fire leave the next block
end_by : (s : Stage) (rest : Stage → Passage) (o : Option Clock) → ((x : Stage) → (rest x).stage.block_end ≡ x.block_end) → (fires_or_not s rest o).stage.block_end ≡ s.block_end
end_by s rest None stays = refl
end_by s rest (Some c) stays = stays (fires s c).stage ∙ (event_times (with_fired (with_taken s (taken_off s.clocks)) c.time) (Firing c.owner)).block_end

pub fires_end : (n limit : ℕ) (s : Stage) → (fires_below n limit s).stage.block_end ≡ s.block_end
unfolding fires_below
fires_end zero limit s = refl
fires_end (suc n) limit s = end_by s (fires_below n limit) (next_clock limit s.clocks) (λ x. fires_end n limit x)

runs_end : (s : Stage) → (block_runs s).stage.block_end ≡ min (s.block_end + 64000000000) 340282366920938463463374607431768211455
unfolding block_sounds
runs_end s = ap (λ (t : ℕ). min (t + 64000000000) 340282366920938463463374607431768211455) (fires_end (10000 - s.fired) s.block_end s)

raised : (end end' to : ℕ) → to ≤ 2 ^ 100 → end ≤ to → end' ≡ min (end + 64000000000) 340282366920938463463374607431768211455 → end < end'
raised end end' to small due is = omega arith

-- a block raises the end of the next one
pub later_end : (to : ℕ) (s : Stage) (s' : List Choice → Stage) (x y : Sinks) → to ≤ 2 ^ 100 → s.block_end ≤ to → Comes block_runs (with_ahead s) s' x y → s.block_end < (s' []).block_end
later_end to s s' x y small due ran =
    raised s.block_end (s' []).block_end to small due (sym (ap (λ (p : Passage). p.stage.block_end) (ran.same [])) ∙ runs_end (with_ahead s (choices_of ran.edits ++ [])))

pub block_goes_on : (to : ℕ) (whole : List Choice → Passage) (s s' : Stage) (x y z : Sinks) → to ≤ 2 ^ 100 → s.block_end ≤ to
    → HasBlocksLeft to whole s x y → Comes block_runs (with_ahead s) (with_ahead s') y z → HasBlocksLeft to whole s' x z
block_goes_on to whole s s' x y z small due left ran =
    let n : ℕ = left.count - 1 in
    let is : left.count ≡ suc n = count_is left.count s.block_end to left.enough due in
    let more : s.block_end < s'.block_end = later_end to s (with_ahead s') y z small due ran in
    let e : to + 1 ≤ left.count + s.block_end = left.enough in
    record {
      count = n;
      enough = omega arith;
      way = way_goes_on whole (rest_of left.count to) block_runs (rest_of n to) (with_ahead s) (with_ahead s') x y z left.way
          (λ m. ap (λ (k : ℕ). rest_of k to (with_ahead s m)) is ∙ rest_one n to (with_ahead s m) due) ran;
    }

pub block_breaks : (to : ℕ) (whole : List Choice → Passage) (s : Stage) (x y z : Sinks) → s.block_end ≤ to
    → HasBlocksLeft to whole s x y → Stops block_runs (with_ahead s) y z → BreaksOff whole x z
block_breaks to whole s x y z due left off =
    let n : ℕ = left.count - 1 in
    let is : left.count ≡ suc n = count_is left.count s.block_end to left.enough due in
    way_breaks whole (rest_of left.count to) block_runs (rest_of n to) (with_ahead s) x y z left.way
    (λ m. ap (λ (k : ℕ). rest_of k to (with_ahead s m)) is ∙ rest_one n to (with_ahead s m) due) off

-- the clocks below the time fire, and then it is that time
pub clocks_go_on : (to : ℕ) (whole : List Choice → Passage) (s s' : Stage) (x y z : Sinks) → to < s.block_end
    → HasBlocksLeft to whole s x y → Comes (clocks_fire to) (with_ahead s) (with_ahead s') y z → Leads whole (λ m. still (with_ahead (with_time to s') m)) x z
clocks_go_on to whole s s' x y z later left fired =
    way_goes_on whole (rest_of left.count to) (clocks_fire to) (time_is to) (with_ahead s) (with_ahead s') x y z left.way
    (λ m. rest_none left.count to (with_ahead s m) later) fired

pub clocks_break : (to : ℕ) (whole : List Choice → Passage) (s : Stage) (x y z : Sinks) → to < s.block_end
    → HasBlocksLeft to whole s x y → Stops (clocks_fire to) (with_ahead s) y z → BreaksOff whole x z
clocks_break to whole s x y z later left off =
    way_breaks whole (rest_of left.count to) (clocks_fire to) (time_is to) (with_ahead s) x y z left.way
    (λ m. rest_none left.count to (with_ahead s m) later) off

-- whether a block has begun
pub is_begun : (s : Stage) → s.block_end < s.time + 64000000000 → finished s ≡ block_runs s
is_begun s h = rw (lt-ltb s.block_end (s.time + 64000000000) h) refl

pub is_not_begun : (s : Stage) → s.time + 64000000000 ≤ s.block_end → finished s ≡ still s
is_not_begun s h = rw (le-ltb s.block_end (s.time + 64000000000) h) refl
