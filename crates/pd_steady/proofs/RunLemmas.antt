-- Commands, names, opening and whole runs: nothing is passed over, and the stage stays steady where each edit is fair.
use Rattle.std.proofs.Common.{◌≡◌, ◌≤◌, ◌+◌, ◌^◌, ℕ, List, [], ◌∷◌, length, take, refl, sym, ap, subst, ◌∙◌, arith}
use Rattle.std.proofs.lemmas.List.{length-take}
use Rattle.pd_atom.specs.Names.{Names, IsTable, Extends}
use Rattle.pd_kind.specs.Forming.{cut_atoms}
use Rattle.pd_script.specs.declared.commands.Command.{Command}
use Rattle.pd_script.specs.declared.commands.Command.TheVariants as command
use Rattle.pd_grove.specs.TextOrder.{keys_in_order}
use Rattle.pd_grove.specs.Telling.{kind_in}
use Rattle.pd_patch.specs.declared.patch.Patch.{Patch}
use Rattle.pd_patch.specs.Report.{notices_in, loads_among}
use Rattle.pd_patch.specs.Values.{blocks_told}
use Rattle.pd_hearing.specs.Worlds.{net_of, states_of, kept_of}
use Rattle.pd_guards.specs.Order.{HasFirst, IsKept, IsKind}
use Rattle.pd_guards.specs.Near.{AreNear}
use Rattle.pd_guards.specs.Worlds.{IsInOrder}
use Rattle.pd_guards.specs.Sounds.{IsSounding, sound_with}
use Rattle.pd_block.specs.Nets as nets
use Rattle.pd_block.specs.Nets.{sound_of}
use Rattle.pd_ends_law.specs.Ends.{AreOpen}
use Rattle.pd_sound_law.specs.Ready.{IsReady}
use Rattle.pd_guards.proofs.FactLemmas.{some-weaker}
use Rattle.pd_guards.proofs.MoreLemmas.{longer, first_more, kind_more, kept_more}
use Rattle.pd_stage.specs.Choices.{Base, Choice, Edits, Saves, Undoes, Redoes}
use Rattle.pd_stage.specs.Stages.{Stage, Passage, with_names, saying, joined, followed_by}
use Rattle.pd_stage.specs.Events.{Beginning, Message, Loading, event}
use Rattle.pd_engine.specs.Messages.{message_in}
use Rattle.pd_stage.specs.Times.{block_units, advanced, finished}
use Rattle.pd_engine.specs.Commands.{cut_text, commanded}
use Rattle.pd_engine.specs.Remarks.{remarks_text}
use Rattle.pd_engine.specs.Opening.{first_stage, opened}
use Rattle.pd_steady.specs.Runs.{own_ways, commanded_by, advanced_by, finished_by, opened_by}
use Rattle.pd_steady.specs.Freely.{event_freely, free_ways}
use Rattle.pd_steady.specs.Steady.{HasRows, IsSteady, IsCommand}
use Rattle.pd_steady.specs.Steps.{Step, Does, Learns, Comes, IsStep, AreSteps, step_by, steps_by, run_by}
use Rattle.pd_steady.proofs.FairLemmas.{AreFair, fair_first, fair_second}
use Rattle.pd_engine.proofs.TreeLemmas.{HasBoth}
use Rattle.pd_engine.proofs.WholeLemmas.{both_on}
use Rattle.pd_steady.proofs.EventLemmas.{Guards, IsFree, owned_at, followed, event_free, edit_event_free}
use Rattle.pd_steady.proofs.TimeLemmas.{advanced_free, finished_free}
use Rattle.pd_steady.proofs.OwnLemmas.{commanded_own, advanced_own, finished_own}

-- numbers apart, since tactics read all that is in scope
early : (n : ℕ) → 0 ≤ n
early n = omega arith

first_end : block_units ≤ block_units
first_end = omega arith

room_left : (most : ℕ) → most + block_units ≤ 2 ^ 101 → most ≤ 2 ^ 101
room_left most l = omega arith

-- after lines
said_free : (most : ℕ) (s : Stage) (lines : List ℕ) (p free : Passage) → IsFree most p free → IsFree most (joined (saying s lines) p) (joined (saying s lines) free)
said_free most s lines p free a = record { same = ap (λ (x : Passage). joined (saying s lines) x) a.same; steady = a.steady }

-- commands
pub commanded_free : (g : Guards) (most : ℕ) (c : Command) (s : Stage) → IsSteady most s → IsCommand s.names c → AreFair (commanded c s).edits
    → IsFree most (commanded c s) (commanded_by free_ways c s)
unfolding commanded commanded_by
commanded_free g most (command.Send name atoms) s h k l =
    let b : Beginning = Message name (message_in atoms).selector (cut_atoms (message_in atoms).atoms) in
    said_free most s (cut_text (message_in atoms).atoms) (event s b) (event_freely s b) (event_free g most s b h (g.begins s.names name atoms h.order.first k.0 k.1) l)
commanded_free g most (command.Edit place edit) s h k l = edit_event_free g most (Edits place.document place.path edit) s h l
commanded_free g most (command.Save document) s h k l = edit_event_free g most (Saves document) s h l
commanded_free g most (command.Show path) s h k l = record { same = refl; steady = λ w. h }
commanded_free g most command.Undo s h k l = edit_event_free g most Undoes s h l
commanded_free g most command.Redo s h k l = edit_event_free g most Redoes s h l

-- names
pub named_steady : (most : ℕ) (s : Stage) (names : Names) → IsSteady most s → Extends s.names names → IsSteady most (with_names s names)
named_steady most s names h e =
    let l : length s.names ≤ length names = longer s.names names e in
    record {
      time = h.time;
      near = h.near;
      order = record {
        time = h.order.time;
        first = first_more s.names names l h.order.first;
        kinds = λ k. some-weaker (IsKind s.names) (IsKind names) (kind_more s.names names l) (kind_in (s.net.nodes k)) (h.order.kinds k);
        states = λ k. some-weaker (IsKept s.names s.time) (IsKept names s.time) (kept_more s.names names l s.time) (s.states k) (h.order.states k);
      };
      values = h.values;
      ready = h.ready;
      rows = h.rows;
      block = h.block;
      ends = h.ends;
      tree = (both_on s (with_names s names) refl refl refl e (owned_at most s h)).tree;
      owners = (both_on s (with_names s names) refl refl refl e (owned_at most s h)).owners;
    }

-- where a patch opens, at first
pub first_steady : (most : ℕ) (file : List ℕ) (p : Patch) (table : Names) (base : Base) (ahead : List Choice) → AreNear (net_of p) → IsInOrder (net_of p) 0 (kept_of p table []) → IsSounding (sound_with (net_of p) (kept_of p table [])) → IsReady (nets.net_of p) (sound_of p)
    → HasRows p.web (blocks_told p) → AreOpen 0 (states_of p) → HasBoth (first_stage file p table base ahead) → IsSteady most (first_stage file p table base ahead)
first_steady most file p table base ahead near o v w rows ended tree = record {
  time = early most;
  near = near;
  order = record { time = o.time; first = o.first; kinds = o.kinds; states = o.states };
  values = record { states = v.states; blocks = v.blocks };
  ready = record { kinds = w.kinds; whole = record { states = w.whole.states; blocks = w.whole.blocks }; owners = w.owners; channels = w.channels; keys = w.keys; fed = w.fed; blocks = w.blocks };
  rows = rows;
  block = first_end;
  ends = ended;
  tree = tree.tree;
  owners = tree.owners;
}

pub opened_free : (g : Guards) (most : ℕ) (file : List ℕ) (p : Patch) (table : Names) (base : Base) (ahead : List Choice) → AreNear (net_of p) → IsInOrder (net_of p) 0 (kept_of p table []) → IsSounding (sound_with (net_of p) (kept_of p table [])) → IsReady (nets.net_of p) (sound_of p)
    → HasRows p.web (blocks_told p) → AreOpen 0 (states_of p) → HasBoth (first_stage file p table base ahead) → AreFair (opened file p table base ahead).edits
    → IsFree most (opened file p table base ahead) (opened_by free_ways file p table base ahead)
opened_free g most file p table base ahead near o v w rows ended tree l =
    let s : Stage = first_stage file p table base ahead in
    let b : Beginning = Loading (loads_among p.grove (keys_in_order p.grove)) in
    said_free most s (remarks_text table p (notices_in p.grove p.web p.orders.items)) (event s b) (event_freely s b) (event_free g most s b (first_steady most file p table base ahead near o v w rows ended tree) tt l)

pub at_first : 0 ≤ 2 ^ 101
at_first = early (2 ^ 101)

-- a table has its first names
pub first_names_in : (names : Names) → IsTable names → HasFirst names
first_names_in names h = let six : length (take 6 names) ≡ 6 = ap length h.begins in omega (arith, six, length-take 6 names)

-- steps
module _ (g : Guards) (most : ℕ) (top : most ≤ 2 ^ 101) where
  same_part : (p q free : Passage) → p ≡ q → IsFree most q free → IsFree most p free
  same_part p q free e a = subst (λ (x : Passage). IsFree most x free) (sym e) a

  same_fair : (p q : Passage) → p ≡ q → AreFair p.edits → AreFair q.edits
  same_fair p q e l = subst (λ (x : Passage). AreFair x.edits) e l

  step_free : (x : Step) (s : Stage) → IsSteady most s → IsStep most x s → AreFair (step_by own_ways x s).edits → IsFree most (step_by own_ways x s) (step_by free_ways x s)
  step_free (Does c) s h k l = same_part (commanded_by own_ways c s) (commanded c s) (commanded_by free_ways c s) (commanded_own c s)
      (commanded_free g most c s h k (same_fair (commanded_by own_ways c s) (commanded c s) (commanded_own c s) l))
  step_free (Learns names) s h k l = record { same = refl; steady = λ w. named_steady most s names h k }
  step_free (Comes to) s h k l =
      same_part (advanced_by own_ways to s) (advanced to s) (advanced_by free_ways to s) (advanced_own to s)
      (advanced_free g most top to s k h (same_fair (advanced_by own_ways to s) (advanced to s) (advanced_own to s) l))

  pub steps_free : (xs : List Step) (s : Stage) → IsSteady most s → AreSteps most xs s → AreFair (steps_by own_ways xs s).edits → IsFree most (steps_by own_ways xs s) (steps_by free_ways xs s)
  steps_free [] s h k l = record { same = refl; steady = λ w. h }
  steps_free (x ∷ xs) s h k l =
      let p : Passage = step_by own_ways x s in
      let a : IsFree most p (step_by free_ways x s) = step_free x s h k.0 (fair_first p.edits (steps_by own_ways xs p.stage).edits l) in
      followed most p (step_by free_ways x s) (steps_by own_ways xs) (steps_by free_ways xs) a (λ y v. steps_free xs p.stage y k.1 v) l

-- whole runs
module _ (g : Guards) (file : List ℕ) (p : Patch) (table : Names) (base : Base) (ahead : List Choice) (near : AreNear (net_of p)) (first : IsInOrder (net_of p) 0 (kept_of p table []))
    (sounds : IsSounding (sound_with (net_of p) (kept_of p table []))) (ready : IsReady (nets.net_of p) (sound_of p)) (rows : HasRows p.web (blocks_told p)) (ended : AreOpen 0 (states_of p)) (tree : HasBoth (first_stage file p table base ahead)) where
  abbrev begun : List Step → Passage
  begun xs = followed_by (opened file p table base ahead) (steps_by own_ways xs)

  begun_free : (most : ℕ) (xs : List Step) → most ≤ 2 ^ 101 → AreSteps most xs (opened file p table base ahead).stage → AreFair (begun xs).edits
      → IsFree most (begun xs) (followed_by (opened_by free_ways file p table base ahead) (steps_by free_ways xs))
  begun_free most xs top k l =
      followed most (opened file p table base ahead) (opened_by free_ways file p table base ahead) (steps_by own_ways xs) (steps_by free_ways xs)
      (opened_free g most file p table base ahead near first sounds ready rows ended tree (fair_first (opened file p table base ahead).edits (steps_by own_ways xs (opened file p table base ahead).stage).edits l))
      (λ h v. steps_free g most top xs (opened file p table base ahead).stage h k v) l

  pub begun_steady : (most : ℕ) (xs : List Step) → most ≤ 2 ^ 101 → AreSteps most xs (opened file p table base ahead).stage → AreFair (begun xs).edits → IsSteady most (begun xs).stage
  begun_steady most xs top k l = (begun_free most xs top k l).steady l

  run_parts : (xs : List Step) → AreFair (run_by own_ways file p table base ahead xs).edits → AreFair (begun xs).edits × AreFair (finished (begun xs).stage).edits
  run_parts xs l =
      let r : Stage = (begun xs).stage in (
        fair_first (begun xs).edits (finished_by own_ways r).edits l,
        subst (λ (x : Passage). AreFair x.edits) (finished_own r) (fair_second (begun xs).edits (finished_by own_ways r).edits l),
      )

  ended_free : (most : ℕ) (xs : List Step) → most + block_units ≤ 2 ^ 101 → AreSteps most xs (opened file p table base ahead).stage → AreFair (run_by own_ways file p table base ahead xs).edits
      → IsFree (most + block_units) (finished (begun xs).stage) (finished_by free_ways (begun xs).stage)
  ended_free most xs top k l =
      finished_free g most (begun xs).stage top (begun_steady most xs (room_left most top) k (run_parts xs l).0) (run_parts xs l).1

  pub run_steady : (most : ℕ) (xs : List Step) → most + block_units ≤ 2 ^ 101 → AreSteps most xs (opened file p table base ahead).stage → AreFair (run_by own_ways file p table base ahead xs).edits
      → IsSteady (most + block_units) (run_by own_ways file p table base ahead xs).stage
  run_steady most xs top k l =
      subst (λ (x : Passage). IsSteady (most + block_units) x.stage) (sym (finished_own (begun xs).stage)) ((ended_free most xs top k l).steady (run_parts xs l).1)

  pub run_free : (most : ℕ) (xs : List Step) → most + block_units ≤ 2 ^ 101 → AreSteps most xs (opened file p table base ahead).stage → AreFair (run_by own_ways file p table base ahead xs).edits
      → run_by free_ways file p table base ahead xs ≡ run_by own_ways file p table base ahead xs
  run_free most xs top k l =
      let b : Passage = begun xs in
      let e : finished_by free_ways b.stage ≡ finished_by own_ways b.stage = (ended_free most xs top k l).same ∙ sym (finished_own b.stage) in
      ap (λ (x : Passage). followed_by x (finished_by free_ways)) (begun_free most xs (room_left most top) k (run_parts xs l).0).same ∙ ap (λ (x : Passage). joined b x) e
