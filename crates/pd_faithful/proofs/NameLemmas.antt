-- No name of the table is lost as time goes on, where the edits on the way are fair.
use Rattle.std.proofs.Common.{◌≡◌, ◌<◌, ◌≤◌, ◌+◌, ◌-◌, ◌^◌, ℕ, zero, suc, Bool, true, false, nat_lt, nat_le, if◌then◌else◌, List, length, Option, Some, None, IfSome, refl, arith}
use Rattle.std.proofs.lemmas.Bool.{leb-true, ltb-true}
use Rattle.pd_atom.specs.Names.{Names}
use Rattle.pd_clock.specs.Queue.{Clock}
use Rattle.pd_walk.specs.declared.walker.Start.TheVariants as start
use Rattle.pd_walk.specs.Outcome.{outcome, all_loaded}
use Rattle.pd_again_law.proofs.Runs.{either_by, longer, Alters, AreFair, fair_first, fair_second, altered_extends, event_keeps, Guards, event_free, loads_extend, outcome_extends, fired_steady, block_free}
use Rattle.pd_again_law.specs.Runs.{Stage, Passage, still, followed_by, Firing, Left, going_on, begun, delivered, event, most_fired, first_clock, if_below, next_clock, taken_off, with_taken, with_fired, fires, fires_or_not, fires_below, clocks_fire, block_sounds, block_runs, blocks_run, time_is, comes_to, advanced, IsSteady}

-- numbers apart, since tactics read all that is in scope
within : (a b c : ℕ) → a ≤ b → b ≤ c → a ≤ c
within a b c h k = omega arith

below : (a b c : ℕ) → a < b → b ≤ c → a ≤ c
below a b c h k = omega arith

same : (n : ℕ) → n ≤ n
same n = omega arith

-- what deliveries leave of the table, each edit goes on from
kept_names : (s : Stage) (owner : ℕ) → length s.names ≤ length (delivered s (Firing owner)).kept.names
unfolding outcome
kept_names s owner = longer s.names (delivered s (Firing owner)).kept.names (outcome_extends s.net s.time (begun s) (start.Clock owner))

loaded_names : (s r : Stage) (l : Left) (boxes : List ℕ) → length s.names ≤ length r.names
    → length s.names ≤ length (all_loaded r.net r.time (going_on r l) boxes).kept.names
loaded_names s r l boxes h =
    let to : Names = (all_loaded r.net r.time (going_on r l) boxes).kept.names in
    within (length s.names) (length r.names) (length to) h (longer r.names to (loads_extend r l boxes))

altered_names : (s r q : Stage) → Alters r q → length s.names ≤ length r.names → length s.names ≤ length q.names
altered_names s r q a l = within (length s.names) (length r.names) (length q.names) l (longer r.names q.names (altered_extends r q a))

fired_names : (s : Stage) (owner : ℕ) → AreFair (event s (Firing owner)).edits → length s.names ≤ length (event s (Firing owner)).stage.names
fired_names s owner w = event_keeps (λ (r : Stage). length s.names ≤ length r.names) (altered_names s) (loaded_names s) s (Firing owner) w (kept_names s owner)

-- a clock that is next is below the limit
below_limit : (limit : ℕ) (o : Option Clock) → IfSome (if_below limit o) (λ (c : Clock). c.time < limit)
below_limit limit None = tt
below_limit limit (Some c) =
    either_by (λ (o : Option Clock). IfSome o (λ (d : Clock). d.time < limit)) (nat_lt c.time limit) (Some c) None (λ e. ltb-true c.time limit e) (λ e. tt)

-- a stage to which a part of a run leads is steady, and no name is lost on the way
record Keeps (most : ℕ) (s r : Stage) : Type 0 where
  steady : IsSteady most r
  names : length s.names ≤ length r.names

module _ (g : Guards) (most : ℕ) (top : most ≤ 2 ^ 101) where
  here : (s : Stage) → IsSteady most s → Keeps most s s
  here s h = record { steady = h; names = same (length s.names) }

  onward : (s r t : Stage) → Keeps most s r → Keeps most r t → Keeps most s t
  onward s r t a b = record { steady = b.steady; names = within (length s.names) (length r.names) (length t.names) a.names b.names }

  -- clocks
  fires_keep : (s : Stage) (c : Clock) → c.time ≤ most → IsSteady most s → AreFair (fires s c).edits → Keeps most s (fires s c).stage
  fires_keep s c l h w =
      let r : Stage = with_fired (with_taken s (taken_off s.clocks)) c.time in
      let k : IsSteady most r = fired_steady g most top s c l h in
      record { steady = (event_free g most r (Firing c.owner) k tt w).steady w; names = fired_names r c.owner w }

  clock_keeps : (s : Stage) (rest : Stage → Passage) (limit : ℕ) (o : Option Clock) → limit ≤ most → IfSome o (λ (c : Clock). c.time < limit)
      → ((r : Stage) → IsSteady most r → AreFair (rest r).edits → Keeps most r (rest r).stage) → IsSteady most s → AreFair (fires_or_not s rest o).edits
      → Keeps most s (fires_or_not s rest o).stage
  clock_keeps s rest limit None l low f h w = here s h
  clock_keeps s rest limit (Some c) l low f h w =
      let p : Passage = fires s c in
      let a : Keeps most s p.stage = fires_keep s c (below c.time limit most low l) h (fair_first p.edits (rest p.stage).edits w) in
      onward s p.stage (rest p.stage).stage a (f p.stage a.steady (fair_second p.edits (rest p.stage).edits w))

  clocks_keep : (n limit : ℕ) (s : Stage) → limit ≤ most → IsSteady most s → AreFair (fires_below n limit s).edits → Keeps most s (fires_below n limit s).stage
  unfolding fires_below
  clocks_keep zero limit s l h w = here s h
  clocks_keep (suc n) limit s l h w =
      clock_keeps s (fires_below n limit) limit (next_clock limit s.clocks) l (below_limit limit (first_clock s.clocks)) (λ r k v. clocks_keep n limit r l k v) h w

  -- blocks
  sounds_names : (s r : Stage) → length s.names ≤ length r.names → length s.names ≤ length (block_sounds r).stage.names
  unfolding block_sounds
  sounds_names s r l = l

  block_keeps : (s : Stage) → s.block_end ≤ most → IsSteady most s → AreFair (block_runs s).edits → Keeps most s (block_runs s).stage
  block_keeps s l h w =
      let c : Passage = clocks_fire s.block_end s in
      record {
        steady = (block_free g most top s l h w).steady w;
        names = sounds_names s c.stage (clocks_keep (most_fired - s.fired) s.block_end s l h (fair_first c.edits (block_sounds c.stage).edits w)).names;
      }

  if_keeps : (b : Bool) (s : Stage) (p q : Passage) → (b ≡ true → AreFair p.edits → Keeps most s p.stage) → Keeps most s q.stage → AreFair (if b then p else q).edits
      → Keeps most s (if b then p else q).stage
  if_keeps true s p q f k w = f refl w
  if_keeps false s p q f k w = k

  blocks_keep : (n to : ℕ) (s : Stage) → to ≤ most → IsSteady most s → AreFair (blocks_run n to s).edits → Keeps most s (blocks_run n to s).stage
  unfolding blocks_run
  blocks_keep zero to s l h w = here s h
  blocks_keep (suc n) to s l h w =
      let p : Passage = block_runs s in
      if_keeps (nat_le s.block_end to) s (followed_by p (blocks_run n to)) (still s)
      (λ e v. let a : Keeps most s p.stage =
      block_keeps s (within s.block_end to most (leb-true s.block_end to e) l) h (fair_first p.edits (blocks_run n to p.stage).edits v) in
      onward s p.stage (blocks_run n to p.stage).stage a (blocks_keep n to p.stage l a.steady (fair_second p.edits (blocks_run n to p.stage).edits v)))
      (here s h) w

  -- to a time
  pub advanced_names : (to : ℕ) (s : Stage) → to ≤ most → IsSteady most s → AreFair (advanced to s).edits → length s.names ≤ length (advanced to s).stage.names
  advanced_names to s l h w =
      let p : Passage = blocks_run (to + 1) to s in
      let r : Stage = p.stage in
      let c : Passage = clocks_fire to r in
      let a : Keeps most s r = blocks_keep (to + 1) to s l h (fair_first p.edits (comes_to to r).edits w) in
      let b : Keeps most r c.stage =
      clocks_keep (most_fired - r.fired) to r l a.steady (fair_first c.edits (time_is to c.stage).edits (fair_second p.edits (comes_to to r).edits w)) in
      within (length s.names) (length r.names) (length c.stage.names) a.names b.names
