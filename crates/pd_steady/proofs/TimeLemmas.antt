-- Clocks and blocks: nothing is passed over, and the stage stays steady where the edits on the way are fair.
use Rattle.std.proofs.Common.{◌≡◌, ◌<◌, ◌≤◌, ◌+◌, ◌-◌, ◌^◌, ℕ, zero, suc, max, min, Bool, true, false, nat_lt, nat_le, if◌then◌else◌, Option, Some, None, IfSome, refl, sym, ap, ◌∙◌, arith}
use Rattle.std.proofs.lemmas.Bool.{leb-true, ltb-true}
use Rattle.pd_clock.specs.Queue.{Clock}
use Rattle.pd_regrowth_law.proofs.StepLemmas.{extends_same}
use Rattle.pd_guards.specs.Worlds.{IsInOrder}
use Rattle.pd_guards.specs.Sounds.{IsSounding}
use Rattle.pd_guards.proofs.FactLemmas.{either_by}
use Rattle.pd_stage.specs.Stages.{Stage, Passage, kept_at, still, followed_by}
use Rattle.pd_stage.specs.Events.{Firing}
use Rattle.pd_stage.specs.Times.{block_units, most_fired, first_clock, if_below, next_clock, taken_off, with_taken, with_fired, fires, fires_or_not, fires_below, clocks_fire, block_net, sound_at, sounding, most_time, played_at, with_played, block_sounds, block_runs, blocks_run, with_time, time_is, comes_to, advanced, finished}
use Rattle.pd_stage.proofs.EditLemmas.{event_times}
use Rattle.pd_block.specs.Blocks.{Played, block_of}
use Rattle.pd_ends_law.proofs.OpenLemmas.{open_later}
use Rattle.pd_ends_law.proofs.BlockLemmas.{block_open}
use Rattle.pd_sound_law.specs.Ready.{IsReady}
use Rattle.pd_sound_law.proofs.ReadyLemmas.{ready_on, whole_free}
use Rattle.pd_sound_law.proofs.SlotLemmas.{block_holds}
use Rattle.pd_steady.specs.Runs.{fires_by, fires_or_not_by, fires_below_by, clocks_fire_by, block_runs_by, blocks_run_by, comes_to_by, advanced_by, finished_by}
use Rattle.pd_steady.specs.Freely.{block_freely, free_ways}
use Rattle.pd_steady.specs.Steady.{IsSteady}
use Rattle.pd_steady.proofs.FairLemmas.{AreFair, fair_first}
use Rattle.pd_engine.proofs.WholeLemmas.{both_on}
use Rattle.pd_steady.proofs.TreeLemmas.{tree_once}
use Rattle.pd_steady.proofs.EventLemmas.{Guards, IsFree, owned_at, followed, event_free}

-- a clock that is next is below the limit
pub below_limit : (limit : ℕ) (o : Option Clock) → IfSome (if_below limit o) (λ (c : Clock). c.time < limit)
below_limit limit None = tt
below_limit limit (Some c) =
    either_by (λ (o : Option Clock). IfSome o (λ (d : Clock). d.time < limit)) (nat_lt c.time limit) (Some c) None (λ e. ltb-true c.time limit e) (λ e. tt)

-- clocks that fire leave the next block
end_by : (s : Stage) (rest : Stage → Passage) (o : Option Clock) → ((x : Stage) → (rest x).stage.block_end ≡ x.block_end) → (fires_or_not s rest o).stage.block_end ≡ s.block_end
end_by s rest None stays = refl
end_by s rest (Some c) stays = stays (fires s c).stage ∙ (event_times (with_fired (with_taken s (taken_off s.clocks)) c.time) (Firing c.owner)).block_end

pub fires_end : (n limit : ℕ) (s : Stage) → (fires_below n limit s).stage.block_end ≡ s.block_end
unfolding fires_below
fires_end zero limit s = refl
fires_end (suc n) limit s = end_by s (fires_below n limit) (next_clock limit s.clocks) (λ x. fires_end n limit x)

-- numbers apart, since tactics read all that is in scope
pub within : (a b c : ℕ) → a ≤ b → b ≤ c → a ≤ c
within a b c h k = omega arith

pub below : (a b c : ℕ) → a < b → b ≤ c → a ≤ c
below a b c h k = omega arith

greatest : (a b most : ℕ) → a ≤ most → b ≤ most → max a b ≤ most
greatest a b most h k = omega arith

no_less : (a b : ℕ) → a ≤ max a b
no_less a b = omega arith

in_block : (time end : ℕ) → block_units ≤ end → (end - block_units) + 64000000000 ≤ max time end
in_block time end h = omega arith

pub same_end : (a b most : ℕ) → a ≡ b → b ≤ most → a ≤ most
same_end a b most e h = omega arith

one_block_more : (most : ℕ) → most ≤ most + block_units
one_block_more most = omega arith

pub ends_soon : (end time most : ℕ) → end < time + block_units → time ≤ most → end ≤ most + block_units
ends_soon end time most h k = omega arith

later_end : (n : ℕ) → block_units ≤ n → block_units ≤ min (n + block_units) 340282366920938463463374607431768211455
later_end n l = omega arith

next_start : (end most : ℕ) → block_units ≤ end → end ≤ most → most ≤ 2 ^ 101 → (end - block_units) + 64000000000 ≤ min (end + block_units) most_time - block_units
next_start end most h l top = omega arith

no_earlier : (a b : ℕ) → a + 64000000000 ≤ b → a ≤ b
no_earlier a b h = omega arith

early_start : (end most : ℕ) → end ≤ most → most ≤ 2 ^ 101 → end - block_units ≤ 2 ^ 101
early_start end most l top = omega arith

pub steady_longer : (most more : ℕ) (s : Stage) → most ≤ more → IsSteady most s → IsSteady more s
steady_longer most more s l h = record { time = within s.time most more h.time l; near = h.near; order = h.order; values = h.values; ready = h.ready; rows = h.rows; block = h.block; ends = h.ends; tree = h.tree; owners = h.owners }

-- the block that comes next passes nothing over
sounds_freely : (most : ℕ) (s : Stage) → IsSteady most s → s.block_end - block_units ≤ 2 ^ 101 → block_freely s ≡ block_sounds s
unfolding block_sounds block_freely
sounds_freely most s h early =
    ap (λ (p : Played). sounding s p) (sym (whole_free (block_net s) (sound_at s) (s.block_end - block_units) h.ready h.ends (tree_once s h.tree 257) early))

module _ (g : Guards) (most : ℕ) (top : most ≤ 2 ^ 101) where
  -- at a later time
  later : (s : Stage) (time : ℕ) → time ≤ most → IsSteady most s → IsInOrder s.net (max s.time time) (kept_at s)
  later s time l h =
      g.lasts s.net s.time (max s.time time) (kept_at s) h.order (no_less s.time time)
      (within (max s.time time) most (2 ^ 101) (greatest s.time time most h.time l) top)

  pub fired_steady : (s : Stage) (c : Clock) → c.time ≤ most → IsSteady most s → IsSteady most (with_fired (with_taken s (taken_off s.clocks)) c.time)
  fired_steady s c l h =
      let o : IsInOrder s.net (max s.time c.time) (kept_at s) = later s c.time l h in
      record {
        time = greatest s.time c.time most h.time l;
        near = h.near;
        order = record { time = o.time; first = o.first; kinds = o.kinds; states = o.states };
        values = h.values;
        ready = record { kinds = h.ready.kinds; whole = h.ready.whole; owners = h.ready.owners; channels = h.ready.channels; keys = h.ready.keys; fed = h.ready.fed; blocks = h.ready.blocks };
        rows = h.rows;
        block = h.block;
        ends = h.ends;
        tree = (both_on s (with_fired (with_taken s (taken_off s.clocks)) c.time) refl refl refl (extends_same s.names) (owned_at most s h)).tree;
        owners = (both_on s (with_fired (with_taken s (taken_off s.clocks)) c.time) refl refl refl (extends_same s.names) (owned_at most s h)).owners;
      }

  pub timed_steady : (s : Stage) (to : ℕ) → to ≤ most → IsSteady most s → IsSteady most (with_time to s)
  timed_steady s to l h =
      let o : IsInOrder s.net (max s.time to) (kept_at s) = later s to l h in
      record {
        time = greatest s.time to most h.time l;
        near = h.near;
        order = record { time = o.time; first = o.first; kinds = o.kinds; states = o.states };
        values = h.values;
        ready = record { kinds = h.ready.kinds; whole = h.ready.whole; owners = h.ready.owners; channels = h.ready.channels; keys = h.ready.keys; fed = h.ready.fed; blocks = h.ready.blocks };
        rows = h.rows;
        block = h.block;
        ends = h.ends;
        tree = (both_on s (with_time to s) refl refl refl (extends_same s.names) (owned_at most s h)).tree;
        owners = (both_on s (with_time to s) refl refl refl (extends_same s.names) (owned_at most s h)).owners;
      }

  here : (s : Stage) → IsSteady most s → IsFree most (still s) (still s)
  here s h = record { same = refl; steady = λ l. h }

  -- clocks
  clock_free : (s : Stage) (rest free : Stage → Passage) (limit : ℕ) (o : Option Clock) → limit ≤ most → IfSome o (λ (c : Clock). c.time < limit)
      → ((r : Stage) → IsSteady most r → AreFair (rest r).edits → IsFree most (rest r) (free r)) → IsSteady most s → AreFair (fires_or_not s rest o).edits
      → IsFree most (fires_or_not s rest o) (fires_or_not_by free_ways s free o)
  clock_free s rest free limit None l low f h w = here s h
  clock_free s rest free limit (Some c) l low f h w =
      let a : IsFree most (fires s c) (fires_by free_ways s c) =
      event_free g most (with_fired (with_taken s (taken_off s.clocks)) c.time) (Firing c.owner) (fired_steady s c (below c.time limit most low l) h) tt
      (fair_first (fires s c).edits (rest (fires s c).stage).edits w) in
      followed most (fires s c) (fires_by free_ways s c) rest free a (f (fires s c).stage) w

  clocks_free : (n limit : ℕ) (s : Stage) → limit ≤ most → IsSteady most s → AreFair (fires_below n limit s).edits → IsFree most (fires_below n limit s) (fires_below_by free_ways n limit s)
  unfolding fires_below fires_below_by
  clocks_free zero limit s l h w = here s h
  clocks_free (suc n) limit s l h w =
      clock_free s (fires_below n limit) (fires_below_by free_ways n limit) limit (next_clock limit s.clocks) l (below_limit limit (first_clock s.clocks)) (λ r k v. clocks_free n limit r l k v) h w

  -- blocks
  pub sounds_steady : (s : Stage) → s.block_end ≤ most → IsSteady most s → IsSteady most (block_sounds s).stage
  unfolding block_sounds
  sounds_steady s l h =
      let o : IsInOrder s.net (max s.time s.block_end) (kept_at s) = later s s.block_end l h in
      let start : ℕ = s.block_end - block_units in
      let next : ℕ = min (s.block_end + block_units) most_time - block_units in
      let soon : start + 64000000000 ≤ next = next_start s.block_end most h.block l top in
      record {
        time = greatest s.time s.block_end most h.time l;
        near = h.near;
        order = record {
          time = o.time;
          first = o.first;
          kinds = o.kinds;
          states = g.keeps (block_net s) s.names s.time (max s.time s.block_end) start (sound_at s) (no_less s.time s.block_end) (in_block s.time s.block_end h.block) h.order.states h.values;
        };
        values = let v : IsSounding (block_of (block_net s) (sound_at s) start).sound = g.sounds (block_net s) s.names s.time start (sound_at s) h.order.states h.values in
            record { states = v.states; blocks = v.blocks };
        ready = let r : IsReady (block_net s) (block_of (block_net s) (sound_at s) start).sound = ready_on (block_net s) start (sound_at s) h.ready in
            record { kinds = r.kinds; whole = record { states = r.whole.states; blocks = r.whole.blocks }; owners = r.owners; channels = r.channels; keys = r.keys; fed = r.fed; blocks = r.blocks };
        rows = λ k o l. block_holds (block_net s) start (sound_at s) k o ∙ h.rows k o l;
        block = later_end s.block_end h.block;
        ends = record { each = block_open (block_net s) start next (sound_at s) h.ready.kinds soon (open_later start next s.states (no_earlier start next soon) h.ends.each) };
        tree = (both_on s (with_played s (played_at s)) refl refl refl (extends_same s.names) (owned_at most s h)).tree;
        owners = (both_on s (with_played s (played_at s)) refl refl refl (extends_same s.names) (owned_at most s h)).owners;
      }

  pub block_free : (s : Stage) → s.block_end ≤ most → IsSteady most s → AreFair (block_runs s).edits → IsFree most (block_runs s) (block_runs_by free_ways s)
  block_free s l h w =
      let c : Passage = clocks_fire s.block_end s in
      let a : IsFree most c (clocks_fire_by free_ways s.block_end s) =
      clocks_free (most_fired - s.fired) s.block_end s l h (fair_first c.edits (block_sounds c.stage).edits w) in
      let e : c.stage.block_end ≡ s.block_end = fires_end (most_fired - s.fired) s.block_end s in
      followed most c (clocks_fire_by free_ways s.block_end s) block_sounds block_freely a
      (λ k v. record { same = sounds_freely most c.stage k (early_start c.stage.block_end most (same_end c.stage.block_end s.block_end most e l) top); steady = λ x. sounds_steady c.stage (same_end c.stage.block_end s.block_end most e l) k }) w

  pub if_free : (b : Bool) (p q free : Passage) (r : Passage) → (b ≡ true → AreFair p.edits → IsFree most p free) → IsFree most q r → AreFair (if b then p else q).edits
      → IsFree most (if b then p else q) (if b then free else r)
  if_free true p q free r f g w = f refl w
  if_free false p q free r f g w = g

  blocks_free : (n to : ℕ) (s : Stage) → to ≤ most → IsSteady most s → AreFair (blocks_run n to s).edits → IsFree most (blocks_run n to s) (blocks_run_by free_ways n to s)
  unfolding blocks_run blocks_run_by
  blocks_free zero to s l h w = here s h
  blocks_free (suc n) to s l h w =
      if_free (nat_le s.block_end to) (followed_by (block_runs s) (blocks_run n to)) (still s) (followed_by (block_runs_by free_ways s) (blocks_run_by free_ways n to)) (still s)
      (λ e v. let due : s.block_end ≤ to = leb-true s.block_end to e in
      let a : IsFree most (block_runs s) (block_runs_by free_ways s) =
      block_free s (within s.block_end to most due l) h (fair_first (block_runs s).edits (blocks_run n to (block_runs s).stage).edits v) in
      followed most (block_runs s) (block_runs_by free_ways s) (blocks_run n to) (blocks_run_by free_ways n to) a (λ k u. blocks_free n to (block_runs s).stage l k u) v)
      (here s h) w

  -- to a time
  comes_free : (to : ℕ) (s : Stage) → to ≤ most → IsSteady most s → AreFair (comes_to to s).edits → IsFree most (comes_to to s) (comes_to_by free_ways to s)
  comes_free to s l h w =
      let c : Passage = clocks_fire to s in
      let a : IsFree most c (clocks_fire_by free_ways to s) = clocks_free (most_fired - s.fired) to s l h (fair_first c.edits (time_is to c.stage).edits w) in
      followed most c (clocks_fire_by free_ways to s) (time_is to) (time_is to) a (λ k v. record { same = refl; steady = λ x. timed_steady c.stage to l k }) w

  pub advanced_free : (to : ℕ) (s : Stage) → to ≤ most → IsSteady most s → AreFair (advanced to s).edits → IsFree most (advanced to s) (advanced_by free_ways to s)
  advanced_free to s l h w =
      let b : Passage = blocks_run (to + 1) to s in
      let a : IsFree most b (blocks_run_by free_ways (to + 1) to s) = blocks_free (to + 1) to s l h (fair_first b.edits (comes_to to b.stage).edits w) in
      followed most b (blocks_run_by free_ways (to + 1) to s) (comes_to to) (comes_to_by free_ways to) a (λ k v. comes_free to b.stage l k v) w

-- the block that began runs
pub finished_free : (g : Guards) (most : ℕ) (s : Stage) → most + block_units ≤ 2 ^ 101 → IsSteady most s → AreFair (finished s).edits → IsFree (most + block_units) (finished s) (finished_by free_ways s)
finished_free g most s top h w =
    let k : IsSteady (most + block_units) s = steady_longer most (most + block_units) s (one_block_more most) h in
    if_free g (most + block_units) top (nat_lt s.block_end (s.time + block_units)) (block_runs s) (still s) (block_runs_by free_ways s) (still s)
    (λ e v. let due : s.block_end < s.time + block_units = ltb-true s.block_end (s.time + block_units) e in block_free g (most + block_units) top s (ends_soon s.block_end s.time most due h.time) k v)
    (record { same = refl; steady = λ l. k }) w
