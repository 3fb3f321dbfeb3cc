-- A script that meets an `end` has one run, whether its source failed behind that or not.
use Rattle.std.proofs.Common.{◌≡◌, ◌+◌, ◌==◌, ℕ, ℤ, Bool, true, false, nat_lt, if◌then◌else◌, List, [], ◌∷◌, length, Option, Some, None, refl, ap}
use Rattle.pd_atom.specs.Names.{Names}
use Rattle.pd_feed.specs.Script.{Script as Text}
use Rattle.pd_feed.specs.declared.feed.Fed.{Fed}
use Rattle.pd_feed.specs.declared.feed.Fed.TheVariants as fed
use Rattle.pd_script.specs.Tokens.{tokens_of}
use Rattle.pd_script.specs.Scripts.{command_of}
use Rattle.pd_script.specs.declared.commands.Script.{Script}
use Rattle.pd_script.specs.declared.commands.Script.TheVariants as script
use Rattle.pd_again_law.specs.Runs.{with_names}
use Rattle.pd_play.specs.Runs.{Point, Run, Ending, Broken, most_time, at_stage, at_time, counted, bad, behind, millionths, carried_out, said_run, read_run, record_run, records_run, end_run, run_of, MeetsEnd}
use Rattle.pd_play.specs.declared.status.Status.TheVariants.{Done, ScriptBad, ReadFault}

-- two runs are the same, where this one is done
abbrev SameDone : Run → Run → Type 0
SameDone run other = run.status ≡ Done → other ≡ run

if_done : (b : Bool) (x y z : Run) → SameDone y z → SameDone (if b then x else y) (if b then x else z)
if_done true x y z f e = refl
if_done false x y z f e = f e

or_done : (b : Bool) (x y v w : Run) → SameDone x y → SameDone v w → SameDone (if b then x else v) (if b then y else w)
or_done true x y v w f g e = f e
or_done false x y v w f g e = g e

module _ (rest other : Point → Run) (same : (q : Point) → SameDone (rest q) (other q)) where
  said_done : (s : Script) (p : Point) → SameDone (said_run s p rest) (said_run s p other)
  said_done (script.Run c) p e = ap (λ (r : Run). behind (carried_out c p) r) (same (at_stage p (carried_out c p).stage) e)
  said_done script.End p e = refl

  read_done : (o : Option (ℤ × Script × Names)) (p : Point) → SameDone (read_run o p rest) (read_run o p other)
  read_done None p e = refl
  read_done (Some r) p e =
      let time : ℕ = p.time + millionths r.0 in
      let q : Point = at_stage p (with_names p.stage r.2) in
      if_done (nat_lt most_time time) (bad q) (said_run r.1 (at_time q time) rest) (said_run r.1 (at_time q time) other) (said_done r.1 (at_time q time)) e

  record_done : (text : List ℕ) (p : Point) → SameDone (record_run text p rest) (record_run text p other)
  unfolding record_run
  record_done text p e =
      or_done (length text == 0) (rest p) (other p) (read_run (command_of p.stage.names (tokens_of text)) p rest) (read_run (command_of p.stage.names (tokens_of text)) p other)
      (same p) (read_done (command_of p.stage.names (tokens_of text)) p) e

records_done : (last other : Point → Run) → ((q : Point) → SameDone (last q) (other q)) → (texts : List (List ℕ)) (p : Point) → SameDone (records_run texts last p) (records_run texts other p)
records_done last other same [] p e = same p e
records_done last other same (text ∷ texts) p e =
    record_done (records_run texts last) (records_run texts other) (λ q k. records_done last other same texts q k) text (counted p) e

-- no run is done where the source failed
never_done : (v : Fed) (p : Point) → (end_run Broken v p).status ≡ Done → ⊥
unfolding end_run
never_done fed.Record p e = let no : ScriptBad (p.number + 1) ≡ Done = e in cc
never_done fed.End p e = let no : ReadFault ≡ Done = e in cc
never_done fed.TooLong p e = let no : ScriptBad (p.number + 1) ≡ Done = e in cc
never_done fed.Unfinished p e = let no : ReadFault ≡ Done = e in cc

pub end_met : (ending : Ending) (text : Text) (p : Point) → MeetsEnd text p → run_of ending text p ≡ run_of Broken text p
end_met ending text p e =
    records_done (end_run Broken text.end) (end_run ending text.end) (λ q k. absurd (never_done text.end q k)) text.records p e
