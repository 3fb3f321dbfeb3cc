-- Each save of a play opens again.
use Rattle.std.proofs.Common.{◌≤◌, ◌+◌, ℕ, inl, inr, List, [], ◌∷◌, ◌++◌, Option, sym, subst, ◌∙◌}
use Rattle.std.proofs.lemmas.List.{append-nil}
use Rattle.pd_io.specs.declared.files.FileRow.{FileRow}
use Rattle.pd_atom.specs.Names.{Names}
use Rattle.pd_canvas.specs.Pages.{Page}
use Rattle.pd_clock.specs.declared.times.Rate.{Rate}
use Rattle.pd_clock.specs.Rates.{samples}
use Rattle.pd_feed.specs.Script.{Script as Text}
use Rattle.pd_patch.specs.declared.patch.Patch.{Patch}
use Rattle.pd_again_law.specs.Runs.{Base, Choice, Sinks, Stage, Taken, Passage, block_units, Files, Grows, first_stage, opened, own_ways, IsSteady, steps_by}
use Rattle.pd_again_law.proofs.Runs.{AreFair, fair_first, fair_second}
use Rattle.pd_again_law.specs.Again.{AllLeaveNumbers, AreAgainBehind, AreAgain}
use Rattle.pd_again_law.proofs.StandLemmas.{EditLaws}
use Rattle.pd_again_law.proofs.FoundLemmas.{IsGood, AreFound, EndsWell, one_block, opened_leads, steps_lead, last_found, both_found}
use Rattle.pd_again_law.proofs.AgainLemmas.{Tells, ReadsBack, first_good, saves_again}
use Rattle.pd_play.specs.Runs.{Run, Point, Ending, run_of}
use Rattle.pd_play.specs.Playing.{Plays}
use Rattle.pd_play.specs.Patches.{start, with_line}
use Rattle.pd_play.specs.declared.status.Status.{Status}
use Rattle.pd_play.specs.declared.status.Status.TheVariants.{Done}
use Rattle.pd_faithful.specs.Points.{most_units, IsSteadyAt, ended_by, IsStepped}
use Rattle.pd_faithful.proofs.FreeLemmas.{Laws, block_more, in_range}
use Rattle.pd_faithful.proofs.StepLemmas.{run_stepped}

-- what the laws say of where a patch opens, of edits of boxes, and of documents
pub record AgainLaws : Type 0 where
  pub first : (holds : Option (List FileRow)) (name : List ℕ) (rate : Rate) (d : Page) (names table : Names) (p : Patch) (base : Base) (most : ℕ) (ahead : List Choice)
      → Grows holds name rate d names p table base → IsSteady most (first_stage name p table base ahead)
  pub edits : EditLaws
  pub tells : Tells
  pub reads : ReadsBack

module _ (laws : Laws) (again : AgainLaws) (holds : Option (List FileRow)) (name : List ℕ) (rate : Rate) (d : Page) (names : Names) (p : Patch) (table : Names) (base : Base)
    (grows : Grows holds name rate d names p table base) where
  -- the files that were gathered
  abbrev library : Files
  library = grows.files.files

  ended_found : (clean : Type 0) (status : Status) (r : Stage) → IsGood library rate name clean most_units r → AreFair (ended_by own_ways status r).edits
      → AreFound library rate name clean (most_units + block_units) (ended_by own_ways status r).edits
  ended_found clean Done r h l = last_found library rate name laws.guards again.edits clean most_units block_more r h l
  ended_found clean status r h l = tt

  -- from where the patch opens the run of a script
  pub played_again : (ahead : List Choice) (ending : Ending) (text : Text) → let o : Passage = opened name p table base ahead in
      let q : Point = start o.stage (samples rate) in
      IsSteadyAt q → AreFair (o.edits ++ (run_of ending text q).passage.edits) → AreAgain library name rate (o.edits ++ (run_of ending text q).passage.edits)
  played_again ahead ending text steady w =
      let o : Passage = opened name p table base ahead in
      let q : Point = start o.stage (samples rate) in
      let run : Run = run_of ending text q in
      let later : AreFair run.passage.edits = fair_second o.edits run.passage.edits w in
      let begins : EndsWell library rate name (Unit {0}) most_units o =
      opened_leads library rate name laws.guards again.edits most_units in_range name p table base ahead (Unit {0})
      (first_good holds name rate d names p table base grows (Unit {0}) most_units ahead (again.first holds name rate d names table p base most_units ahead grows)) (fair_first o.edits run.passage.edits w) in
      let k : IsStepped most_units o.stage run = run_stepped laws ending text q steady later in
      let mid : Passage = steps_by own_ways k.steps o.stage in
      let last : Passage = ended_by own_ways run.status mid.stage in
      let both : AreFair (mid.edits ++ last.edits) = subst (λ (x : Passage). AreFair x.edits) k.same later in
      let left : Type 0 = Unit {0} × AllLeaveNumbers o.edits in
      let goes : EndsWell library rate name left most_units mid =
      steps_lead library rate name laws.guards again.edits most_units in_range k.steps o.stage k.are left begins.stage (fair_first mid.edits last.edits both) in
      let more : most_units ≤ most_units + block_units = one_block library rate name most_units in
      let rest : AreFound library rate name left (most_units + block_units) (mid.edits ++ last.edits) =
      both_found library rate name left most_units (most_units + block_units) more mid.edits last.edits goes.found
      (ended_found (left × AllLeaveNumbers mid.edits) run.status mid.stage goes.stage (fair_second mid.edits last.edits both)) in
      saves_again again.tells again.reads library rate name (most_units + block_units) (o.edits ++ run.passage.edits)
      (both_found library rate name (Unit {0}) most_units (most_units + block_units) more o.edits run.passage.edits begins.found
      (subst (λ (x : Passage). AreFound library rate name left (most_units + block_units) x.edits) (sym k.same) rest))

-- ---- the edits of a run that are told

pub first_again : (files : Files) (name : List ℕ) (rate : Rate) (before xs ys : List Taken) → AreAgainBehind files name rate before (xs ++ ys) → AreAgainBehind files name rate before xs
first_again files name rate before [] ys h = tt
first_again files name rate before (x ∷ xs) ys h = (h.0, first_again files name rate (x ∷ before) xs ys h.1)

pub told_all : (P : List Taken → Type 0) → ((xs ys : List Taken) → P (xs ++ ys) → P xs) → (name : List ℕ) (closing : Stage → List ℕ) (run : Run) (log : List Taken) (status : Status) (x y : Sinks)
    → Plays (with_line name closing run) log status x y → P run.passage.edits → P log
told_all P first name closing run log status x y (inl k) h = subst P (sym (append-nil run.passage.edits) ∙ k.edits_are) h
told_all P first name closing run log status x y (inr k) h = first log k.begins.rest (subst P (sym (append-nil run.passage.edits) ∙ k.begins.edits_are) h)
