-- The runs of a script by two ways of events and blocks are the same where their parts are.
use Rattle.std.proofs.Common.{◌≡◌, ◌≤◌, ◌+◌, ◌*◌, ◌==◌, ℕ, ℤ, Bool, true, false, nat_lt, if◌then◌else◌, List, [], ◌∷◌, ◌++◌, length, Option, Some, None, refl, ap, ◌∙◌}
use Rattle.std.proofs.lemmas.Bool.{ltb-false}
use Rattle.pd_atom.specs.Names.{Names}
use Rattle.pd_feed.specs.Script.{Script as Text}
use Rattle.pd_feed.specs.declared.feed.Fed.{Fed}
use Rattle.pd_feed.specs.declared.feed.Fed.TheVariants as fed
use Rattle.pd_script.specs.Tokens.{tokens_of}
use Rattle.pd_script.specs.Scripts.{command_of}
use Rattle.pd_script.specs.declared.commands.Command.{Command}
use Rattle.pd_script.specs.declared.commands.Script.{Script}
use Rattle.pd_script.specs.declared.commands.Script.TheVariants as script
use Rattle.pd_again_law.specs.Runs.{Stage, Taken, Passage, with_names, joined, followed_by, commanded, Ways, own_ways, commanded_by}
use Rattle.pd_again_law.proofs.Runs.{commanded_own, advanced_own, finished_own}
use Rattle.pd_play.specs.Runs.{Point, Run, Ending, Whole, Broken, most_time, at_stage, at_time, counted, bad, behind, goes_on, millionths, reached, done, end_reached, carried_out, said_run, read_run, record_run, records_run, end_run, run_of}
use Rattle.pd_play.specs.declared.status.Status.TheVariants.{Done}
use Rattle.pd_faithful.specs.Scripts.{reached_by, done_by, said_run_by, read_run_by, record_run_by, records_run_by, end_run_by, run_of_by}

-- edits of a kind that are so together are so apart
pub record Splits (L : List Taken → Type 0) : Type 0 where
  pub first : (a b : List Taken) → L (a ++ b) → L a
  pub second : (a b : List Taken) → L (a ++ b) → L b

-- what a record says is the same, and leads to a point of the kind, where its edits are of theirs
abbrev pub SaidSame : Ways → (Point → Type 0) → (List Taken → Type 0) → Script → Point → Type 0
SaidSame e I L (script.Run c) p = L (carried_out c p).edits → (followed_by (reached_by e p) (commanded_by e c) ≡ carried_out c p) × I (at_stage p (carried_out c p).stage)
SaidSame e I L script.End p = L (end_reached p).passage.edits → behind (reached_by e p) (done_by e (reached_by e p).stage) ≡ end_reached p

-- from points of a kind all parts of a run are the same, where their edits are of theirs
pub record Agrees (e : Ways) (I : Point → Type 0) (L : List Taken → Type 0) : Type 0 where
  pub splits : Splits L
  pub counts : (p : Point) → I p → I (counted p)
  pub ends : (p : Point) → I p → L (done p.stage).passage.edits → done_by e p.stage ≡ done p.stage
  pub says : (p : Point) (tokens : List (List ℕ)) (z : ℤ) (s : Script) (names : Names) (time : ℕ) → I p → command_of p.stage.names tokens ≡ Some (z, s, names) → time ≤ most_time
      → SaidSame e I L s (at_time (at_stage p (with_names p.stage names)) time)

pub carried_same : (e : Ways) (c : Command) (p : Point) → reached_by e p ≡ reached p → commanded_by e c (reached p).stage ≡ commanded c (reached p).stage
    → followed_by (reached_by e p) (commanded_by e c) ≡ carried_out c p
carried_same e c p a b = ap (λ (x : Passage). followed_by x (commanded_by e c)) a ∙ ap (λ (x : Passage). joined (reached p) x) b

pub end_same : (e : Ways) (p : Point) → reached_by e p ≡ reached p → done_by e (reached p).stage ≡ done (reached p).stage
    → behind (reached_by e p) (done_by e (reached_by e p).stage) ≡ end_reached p
end_same e p a b = ap (λ (x : Passage). behind x (done_by e x.stage)) a ∙ ap (λ (r : Run). behind (reached p) r) b

-- edits of a run are of a kind
abbrev Are : (List Taken → Type 0) → Run → Type 0
Are L run = L run.passage.edits

else_same : (L : List Taken → Type 0) (b : Bool) (x y z : Run) → Are L (if b then x else z) → (b ≡ false → Are L z → y ≡ z) → ◌≡◌ {A = Run} (if b then x else y) (if b then x else z)
else_same L true x y z l f = refl
else_same L false x y z l f = f refl l

both_same : (L : List Taken → Type 0) (b : Bool) (x y v w : Run) → Are L (if b then y else w) → (Are L y → x ≡ y) → (Are L w → v ≡ w) → ◌≡◌ {A = Run} (if b then x else v) (if b then y else w)
both_same L true x y v w l a c = a l
both_same L false x y v w l a c = c l

module _ (e : Ways) (I : Point → Type 0) (L : List Taken → Type 0) (agrees : Agrees e I L) where
  -- a record, and the rest of the run
  module _ (rest other : Point → Run) (same : (q : Point) → I q → Are L (rest q) → other q ≡ rest q) where
    said_same : (s : Script) (p : Point) → SaidSame e I L s p → Are L (said_run s p rest) → said_run_by e s p other ≡ said_run s p rest
    said_same (script.Run c) p h l =
        let part : Passage = carried_out c p in
        let q : Point = at_stage p part.stage in
        let k = h (agrees.splits.first part.edits (rest q).passage.edits l) in
        ap (λ (x : Passage). goes_on p other x) k.0 ∙ ap (λ (r : Run). behind part r) (same q k.1 (agrees.splits.second part.edits (rest q).passage.edits l))
    said_same script.End p h l = h l

    read_same : (p : Point) (tokens : List (List ℕ)) (o : Option (ℤ × Script × Names)) → command_of p.stage.names tokens ≡ o → I p → Are L (read_run o p rest)
        → read_run_by e o p other ≡ read_run o p rest
    read_same p tokens None is h l = refl
    read_same p tokens (Some r) is h l =
        let time : ℕ = p.time + millionths r.0 in
        let q : Point = at_stage p (with_names p.stage r.2) in
        else_same L (nat_lt most_time time) (bad q) (said_run_by e r.1 (at_time q time) other) (said_run r.1 (at_time q time) rest) l
        (λ n k. said_same r.1 (at_time q time) (agrees.says p tokens r.0 r.1 r.2 time h is (ltb-false most_time time n)) k)

    record_same : (text : List ℕ) (p : Point) → I p → Are L (record_run text p rest) → record_run_by e text p other ≡ record_run text p rest
    unfolding record_run record_run_by
    record_same text p h l =
        both_same L (length text == 0) (other p) (rest p) (read_run_by e (command_of p.stage.names (tokens_of text)) p other) (read_run (command_of p.stage.names (tokens_of text)) p rest)
        l (λ k. same p h k) (λ k. read_same p (tokens_of text) (command_of p.stage.names (tokens_of text)) refl h k)

  records_same : (last other : Point → Run) → ((q : Point) → I q → Are L (last q) → other q ≡ last q) → (texts : List (List ℕ)) (p : Point) → I p → Are L (records_run texts last p)
      → records_run_by e texts other p ≡ records_run texts last p
  records_same last other same [] p h l = same p h l
  records_same last other same (text ∷ texts) p h l =
      record_same (records_run texts last) (records_run_by e texts other) (λ q k m. records_same last other same texts q k m) text (counted p) (agrees.counts p h) l

  last_same : (ending : Ending) (v : Fed) (p : Point) → I p → Are L (end_run ending v p) → end_run_by e ending v p ≡ end_run ending v p
  unfolding end_run end_run_by
  last_same Whole fed.Record p h l = refl
  last_same Whole fed.End p h l = agrees.ends p h l
  last_same Whole fed.TooLong p h l = refl
  last_same Whole fed.Unfinished p h l = refl
  last_same Broken fed.Record p h l = refl
  last_same Broken fed.End p h l = refl
  last_same Broken fed.TooLong p h l = refl
  last_same Broken fed.Unfinished p h l = refl

  pub run_same : (ending : Ending) (text : Text) (p : Point) → I p → Are L (run_of ending text p) → run_of_by e ending text p ≡ run_of ending text p
  run_same ending text p h l = records_same (end_run ending text.end) (end_run_by e ending text.end) (last_same ending text.end) text.records p h l

-- ---- pd_engine's own events and blocks

abbrev Any : Point → Type 0
Any p = Unit {0}

-- whatever the edits come to
abbrev All : List Taken → Type 0
All edits = Unit {0}

pub reached_own : (p : Point) → reached_by own_ways p ≡ reached p
unfolding reached
reached_own p = advanced_own (p.time * p.rate) p.stage

pub done_own : (s : Stage) → done_by own_ways s ≡ done s
unfolding done
done_own s = ap (λ (x : Passage). record { status = Done; passage = x }) (finished_own s)

said_own : (s : Script) (p : Point) → SaidSame own_ways Any All s p
said_own (script.Run c) p = λ l. (carried_same own_ways c p (reached_own p) (commanded_own c (reached p).stage), tt)
said_own script.End p = λ l. end_same own_ways p (reached_own p) (done_own (reached p).stage)

own_agrees : Agrees own_ways Any All
own_agrees = record {
  splits = record { first = λ a b l. tt; second = λ a b l. tt };
  counts = λ p h. tt;
  ends = λ p h l. done_own p.stage;
  says = λ p tokens z s names time h is l. said_own s (at_time (at_stage p (with_names p.stage names)) time);
}

pub run_own : (ending : Ending) (text : Text) (p : Point) → run_of_by own_ways ending text p ≡ run_of ending text p
run_own ending text p = run_same own_ways Any All own_agrees ending text p tt tt
