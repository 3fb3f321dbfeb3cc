-- From a steady point nothing is passed over in the run of a script whose edits are fair.
use Rattle.std.proofs.Common.{◌≡◌, ◌≤◌, ◌+◌, ◌*◌, ◌^◌, ℕ, ℤ, List, length, Some, ap, arith}
use Rattle.std.proofs.lemmas.Nat.{mul-le}
use Rattle.pd_atom.specs.Names.{Names, Extends}
use Rattle.pd_atom.specs.declared.Atom.{Atom}
use Rattle.pd_feed.specs.Script.{Script as Text}
use Rattle.pd_script.specs.Origins.{CommandFrom, ScriptFrom}
use Rattle.pd_script.specs.Scripts.{send_of, command_of}
use Rattle.pd_script.specs.declared.commands.Command.{Command}
use Rattle.pd_script.specs.declared.commands.Command.TheVariants as command
use Rattle.pd_script.specs.declared.commands.Script.{Script}
use Rattle.pd_script.specs.declared.commands.Script.TheVariants as script
use Rattle.pd_again_law.specs.Runs.{IsSent, Stage, Passage, with_names, block_units, commanded, commanded_by, free_ways, IsSteady, IsCommand}
use Rattle.pd_again_law.proofs.Runs.{name_more, atoms_more, AreFair, fair_first, fair_second, Guards, IsFree, advanced_free, finished_free, commanded_free, named_steady}
use Rattle.pd_play.specs.Runs.{Point, Run, Ending, most_time, at_stage, at_time, reached, done, run_of}
use Rattle.pd_play.specs.declared.status.Status.TheVariants.{Done}
use Rattle.pd_faithful.specs.Scripts.{reached_by, done_by, run_of_by}
use Rattle.pd_faithful.specs.Points.{most_units, IsSteadyAt}
use Rattle.pd_faithful.proofs.NameLemmas.{advanced_names}
use Rattle.pd_faithful.proofs.RecordLemmas.{SaidSame, Agrees, carried_same, end_same, run_same}

-- what the laws of the crates below say
pub record Laws : Type 0 where
  pub guards : Guards
  pub reads : (names after : Names) (tokens : List (List ℕ)) (ms : ℤ) (s : Script) → command_of names tokens ≡ Some (ms, s, after) → Extends names after × ScriptFrom names after s
  pub sends : (names after : Names) (tokens : List (List ℕ)) (name : ℕ) (atoms : List Atom) → send_of names tokens ≡ Some (command.Send name atoms, after) → IsSent names after name atoms

-- numbers apart, since tactics read all that is in scope
pub block_more : most_units + block_units ≤ 2 ^ 101
block_more = omega arith

less : (n m limit : ℕ) → n + m ≤ limit → n ≤ limit
less n m limit l = omega arith

pub in_range : most_units ≤ 2 ^ 101
in_range = less most_units block_units (2 ^ 101) block_more

pub in_time : (p : Point) → IsSteadyAt p → p.time * p.rate ≤ most_units
in_time p h = mul-le p.time p.rate most_time 96000 h.time h.rate

-- a command that is in order in a table is so in a longer one
pub command_more : (old new : Names) → length old ≤ length new → (c : Command) → IsCommand old c → IsCommand new c
command_more old new l (command.Send name atoms) h = (name_more old new l name h.0, atoms_more old new l atoms h.1)
command_more old new l (command.Edit place edit) h = tt
command_more old new l (command.Save document) h = tt
command_more old new l (command.Show path) h = tt
command_more old new l command.Undo h = tt
command_more old new l command.Redo h = tt

-- what a record says is in order
abbrev pub IsSaid : Names → Script → Type 0
IsSaid names (script.Run c) = IsCommand names c
IsSaid names script.End = Unit {0}

module _ (laws : Laws) where
  command_read : (names after : Names) (c : Command) → CommandFrom names after c → IsCommand after c
  command_read names after (command.Send name atoms) h = let s : IsSent names after name atoms = laws.sends names after h.0 name atoms h.1 in (s.known, s.atoms_known)
  command_read names after (command.Edit place edit) h = tt
  command_read names after (command.Save document) h = tt
  command_read names after (command.Show path) h = tt
  command_read names after command.Undo h = tt
  command_read names after command.Redo h = tt

  said_read : (names after : Names) (s : Script) → ScriptFrom names after s → IsSaid after s
  said_read names after (script.Run c) h = command_read names after c h
  said_read names after script.End h = tt

  -- the point after a record was read, and what it says there
  pub record IsRead (p : Point) (s : Script) : Type 0 where
    pub steady : IsSteadyAt p
    pub said : IsSaid p.stage.names s

  pub read_at : (p : Point) (tokens : List (List ℕ)) (z : ℤ) (s : Script) (names : Names) (time : ℕ) → IsSteadyAt p → command_of p.stage.names tokens ≡ Some (z, s, names) → time ≤ most_time
      → IsRead (at_time (at_stage p (with_names p.stage names)) time) s
  read_at p tokens z s names time h is l =
      let r : Extends p.stage.names names × ScriptFrom p.stage.names names s = laws.reads p.stage.names names tokens z s is in
      record {
        steady = record { stage = named_steady most_units p.stage names h.stage r.0; rate = h.rate; time = l };
        said = said_read p.stage.names names s r.1;
      }

  -- the script's time is reached
  pub reached_free : (p : Point) → IsSteadyAt p → AreFair (reached p).edits → IsFree most_units (reached p) (reached_by free_ways p)
  unfolding reached
  reached_free p h w = advanced_free laws.guards most_units in_range (p.time * p.rate) p.stage (in_time p h) h.stage w

  pub reached_command : (p : Point) (c : Command) → IsSteadyAt p → IsCommand p.stage.names c → AreFair (reached p).edits → IsCommand (reached p).stage.names c
  unfolding reached
  reached_command p c h k w =
      command_more p.stage.names (reached p).stage.names (advanced_names laws.guards most_units in_range (p.time * p.rate) p.stage (in_time p h) h.stage w) c k

  -- a command is carried out
  pub carried_free : (p : Point) (c : Command) → IsSteadyAt p → IsCommand p.stage.names c → AreFair (reached p).edits
      → AreFair (commanded c (reached p).stage).edits → IsFree most_units (commanded c (reached p).stage) (commanded_by free_ways c (reached p).stage)
  carried_free p c h k w v = commanded_free laws.guards most_units c (reached p).stage ((reached_free p h w).steady w) (reached_command p c h k w) v

  -- the run comes to its end
  done_free : (s : Stage) → IsSteady most_units s → AreFair (done s).passage.edits → done_by free_ways s ≡ done s
  unfolding done
  done_free s h w = ap (λ (x : Passage). record { status = Done; passage = x }) (finished_free laws.guards most_units s block_more h w).same

  said_free : (s : Script) (p : Point) → IsSteadyAt p → IsSaid p.stage.names s → SaidSame free_ways IsSteadyAt AreFair s p
  said_free (script.Run c) p h k = λ w.
      let part : Passage = commanded c (reached p).stage in
      let first : AreFair (reached p).edits = fair_first (reached p).edits part.edits w in
      let second : AreFair part.edits = fair_second (reached p).edits part.edits w in
      let a : IsFree most_units part (commanded_by free_ways c (reached p).stage) = carried_free p c h k first second in
      (carried_same free_ways c p (reached_free p h first).same a.same, record { stage = a.steady second; rate = h.rate; time = h.time })
  said_free script.End p h k = λ w.
      let end : Run = done (reached p).stage in
      let first : AreFair (reached p).edits = fair_first (reached p).edits end.passage.edits w in
      let a : IsFree most_units (reached p) (reached_by free_ways p) = reached_free p h first in
      end_same free_ways p a.same (done_free (reached p).stage (a.steady first) (fair_second (reached p).edits end.passage.edits w))

  free_says : (s : Script) (p : Point) → IsRead p s → SaidSame free_ways IsSteadyAt AreFair s p
  free_says s p r = said_free s p r.steady r.said

  free_agrees : Agrees free_ways IsSteadyAt AreFair
  free_agrees = record {
    splits = record { first = fair_first; second = fair_second };
    counts = λ p h. record { stage = h.stage; rate = h.rate; time = h.time };
    ends = λ p h w. done_free p.stage h.stage w;
    says = λ p tokens z s names time h is l. free_says s (at_time (at_stage p (with_names p.stage names)) time) (read_at p tokens z s names time h is l);
  }

  pub run_free : (ending : Ending) (text : Text) (p : Point) → IsSteadyAt p → AreFair (run_of ending text p).passage.edits → run_of_by free_ways ending text p ≡ run_of ending text p
  run_free ending text p h w = run_same free_ways IsSteadyAt AreFair free_agrees ending text p h w
