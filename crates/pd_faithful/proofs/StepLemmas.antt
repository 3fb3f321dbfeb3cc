-- The run of a script whose edits are fair is steps, one after another.
use Rattle.std.proofs.Common.{◌≡◌, ◌+◌, ◌*◌, ◌==◌, ℕ, ℤ, Bool, true, false, nat_lt, if◌then◌else◌, List, [], ◌∷◌, ◌++◌, length, Option, Some, None, refl, sym, ap, subst, ◌∙◌}
use Rattle.std.proofs.lemmas.Bool.{ltb-false}
use Rattle.pd_atom.specs.Names.{Names, Extends}
use Rattle.pd_feed.specs.Script.{Script as Text}
use Rattle.pd_feed.specs.declared.feed.Fed.{Fed}
use Rattle.pd_feed.specs.declared.feed.Fed.TheVariants as fed
use Rattle.pd_script.specs.Tokens.{tokens_of}
use Rattle.pd_script.specs.Scripts.{command_of}
use Rattle.pd_script.specs.declared.commands.Script.{Script}
use Rattle.pd_script.specs.declared.commands.Script.TheVariants as script
use Rattle.pd_again_law.specs.Runs.{Stage, Passage, with_names, joined, own_ways, commanded, Step, Does, Learns, Comes, IsStep, step_by, steps_by}
use Rattle.pd_again_law.proofs.Runs.{joined_assoc, AreFair, fair_first, fair_second, commanded_own, finished_own}
use Rattle.pd_play.specs.Runs.{Point, Run, Ending, Whole, Broken, most_time, at_stage, at_time, counted, ended, bad, behind, millionths, reached, done, said_run, read_run, record_run, records_run, end_run, run_of}
use Rattle.pd_play.specs.declared.status.Status.TheVariants.{ReadFault}
use Rattle.pd_faithful.specs.Points.{most_units, IsSteadyAt, ended_by, IsStepped}
use Rattle.pd_faithful.proofs.RecordLemmas.{reached_own}
use Rattle.pd_faithful.proofs.FreeLemmas.{Laws, IsSaid, IsRead, read_at, in_time, reached_command, carried_free}

-- nothing more happens
bad_stepped : (p : Point) → IsStepped most_units p.stage (bad p)
bad_stepped p = record { steps = []; are = tt; same = refl }

broken_stepped : (p : Point) → IsStepped most_units p.stage (ended p ReadFault)
broken_stepped p = record { steps = []; are = tt; same = refl }

done_stepped : (s : Stage) → IsStepped most_units s (done s)
unfolding done
done_stepped s = record { steps = []; are = tt; same = sym (finished_own s) }

-- a step, and then a run that is steps
step_first : (x : Step) (s : Stage) (run : Run) → IsStep most_units x s → IsStepped most_units (step_by own_ways x s).stage run → IsStepped most_units s (behind (step_by own_ways x s) run)
step_first x s run h k =
    let p : Passage = step_by own_ways x s in
    let q : Passage = steps_by own_ways k.steps p.stage in
    record {
      steps = x ∷ k.steps;
      are = (h, k.are);
      same = ap (λ (r : Passage). joined p r) k.same ∙ sym (joined_assoc p q (ended_by own_ways run.status q.stage));
    }

-- the same of a step that is this part of a run
part_first : (x : Step) (s : Stage) (part : Passage) (run : Run) → step_by own_ways x s ≡ part → IsStep most_units x s → IsStepped most_units part.stage run → IsStepped most_units s (behind part run)
part_first x s part run e h k =
    subst (λ (p : Passage). IsStepped most_units p.stage run → IsStepped most_units s (behind p run)) e (step_first x s run h) k

behind_assoc : (p q : Passage) (run : Run) → behind (joined p q) run ≡ behind p (behind q run)
behind_assoc p q run = ap (λ (x : Passage). record { status = run.status; passage = x }) (joined_assoc p q run.passage)

-- names are read
learns_first : (s : Stage) (names : Names) (run : Run) → Extends s.names names → IsStepped most_units (with_names s names) run → IsStepped most_units s run
learns_first s names run e k = step_first (Learns names) s run e k

-- the edits of a run are fair
abbrev IsFairRun : Run → Type 0
IsFairRun run = AreFair run.passage.edits

module _ (laws : Laws) where
  -- the time of a record is reached
  time_first : (p : Point) (run : Run) → IsSteadyAt p → IsStepped most_units (reached p).stage run → IsStepped most_units p.stage (behind (reached p) run)
  time_first p run h k = part_first (Comes (p.time * p.rate)) p.stage (reached p) run (reached_own p) (in_time p h) k

  -- what a record says, and the rest of the run
  module _ (rest : Point → Run) (goes : (q : Point) → IsSteadyAt q → IsFairRun (rest q) → IsStepped most_units q.stage (rest q)) where
    said_stepped : (s : Script) (p : Point) → IsSteadyAt p → IsSaid p.stage.names s → IsFairRun (said_run s p rest) → IsStepped most_units p.stage (said_run s p rest)
    said_stepped (script.Run c) p h k w =
        let r : Stage = (reached p).stage in
        let part : Passage = commanded c r in
        let q : Point = at_stage p part.stage in
        let both : AreFair ((reached p).edits ++ part.edits) = fair_first ((reached p).edits ++ part.edits) (rest q).passage.edits w in
        let first : AreFair (reached p).edits = fair_first (reached p).edits part.edits both in
        let second : AreFair part.edits = fair_second (reached p).edits part.edits both in
        let on : IsStepped most_units q.stage (rest q) =
        goes q (record { stage = (carried_free laws p c h k first second).steady second; rate = h.rate; time = h.time }) (fair_second ((reached p).edits ++ part.edits) (rest q).passage.edits w) in
        let does : IsStepped most_units r (behind part (rest q)) = part_first (Does c) r part (rest q) (commanded_own c r) (reached_command laws p c h k first) on in
        subst (λ (x : Run). IsStepped most_units p.stage x) (sym (behind_assoc (reached p) part (rest q))) (time_first p (behind part (rest q)) h does)
    said_stepped script.End p h k w = time_first p (done (reached p).stage) h (done_stepped (reached p).stage)

    either_stepped : (b : Bool) (s : Stage) (x y : Run) → IsFairRun (if b then x else y) → (IsFairRun x → IsStepped most_units s x) → (b ≡ false → IsFairRun y → IsStepped most_units s y)
        → IsStepped most_units s (if b then x else y)
    either_stepped true s x y w h f = h w
    either_stepped false s x y w h f = f refl w

    read_stepped : (p : Point) (tokens : List (List ℕ)) (o : Option (ℤ × Script × Names)) → command_of p.stage.names tokens ≡ o → IsSteadyAt p → IsFairRun (read_run o p rest)
        → IsStepped most_units p.stage (read_run o p rest)
    read_stepped p tokens None is h w = bad_stepped p
    read_stepped p tokens (Some r) is h w =
        let time : ℕ = p.time + millionths r.0 in
        let q : Point = at_stage p (with_names p.stage r.2) in
        let more : Extends p.stage.names r.2 = (laws.reads p.stage.names r.2 tokens r.0 r.1 is).0 in
        learns_first p.stage r.2 (if nat_lt most_time time then bad q else said_run r.1 (at_time q time) rest) more
        (either_stepped (nat_lt most_time time) q.stage (bad q) (said_run r.1 (at_time q time) rest) w (λ v. bad_stepped q)
        (λ n v. let k : IsRead laws (at_time q time) r.1 = read_at laws p tokens r.0 r.1 r.2 time h is (ltb-false most_time time n) in said_stepped r.1 (at_time q time) k.steady k.said v))

    record_stepped : (text : List ℕ) (p : Point) → IsSteadyAt p → IsFairRun (record_run text p rest) → IsStepped most_units p.stage (record_run text p rest)
    unfolding record_run
    record_stepped text p h w =
        either_stepped (length text == 0) p.stage (rest p) (read_run (command_of p.stage.names (tokens_of text)) p rest) w (λ v. goes p h v)
        (λ n v. read_stepped p (tokens_of text) (command_of p.stage.names (tokens_of text)) refl h v)

  records_stepped : (last : Point → Run) → ((q : Point) → IsSteadyAt q → IsFairRun (last q) → IsStepped most_units q.stage (last q)) → (texts : List (List ℕ)) (p : Point) → IsSteadyAt p
      → IsFairRun (records_run texts last p) → IsStepped most_units p.stage (records_run texts last p)
  records_stepped last goes [] p h w = goes p h w
  records_stepped last goes (text ∷ texts) p h w =
      record_stepped (records_run texts last) (λ q k v. records_stepped last goes texts q k v) text (counted p) (record { stage = h.stage; rate = h.rate; time = h.time }) w

  last_stepped : (ending : Ending) (v : Fed) (p : Point) → IsStepped most_units p.stage (end_run ending v p)
  unfolding end_run
  last_stepped Whole fed.Record p = bad_stepped (counted p)
  last_stepped Whole fed.End p = done_stepped p.stage
  last_stepped Whole fed.TooLong p = bad_stepped (counted p)
  last_stepped Whole fed.Unfinished p = bad_stepped (counted p)
  last_stepped Broken fed.Record p = bad_stepped (counted p)
  last_stepped Broken fed.End p = broken_stepped p
  last_stepped Broken fed.TooLong p = bad_stepped (counted p)
  last_stepped Broken fed.Unfinished p = broken_stepped p

  pub run_stepped : (ending : Ending) (text : Text) (p : Point) → IsSteadyAt p → AreFair (run_of ending text p).passage.edits → IsStepped most_units p.stage (run_of ending text p)
  run_stepped ending text p h w = records_stepped (end_run ending text.end) (λ q k v. last_stepped ending text.end q) text.records p h w
