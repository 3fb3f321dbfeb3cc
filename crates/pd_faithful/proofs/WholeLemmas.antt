-- A patch opens at a steady point, and from there nothing is passed over.
use Rattle.std.proofs.Common.{◌≡◌, ◌≤◌, ◌⊎◌, inl, inr, ℕ, List, [], ◌++◌, Option, Some, None, refl, sym, ap, subst, ◌∙◌, arith}
use Rattle.pd_io.specs.declared.files.FileRow.{FileRow}
use Rattle.pd_atom.specs.Names.{Names}
use Rattle.pd_canvas.specs.Pages.{Page}
use Rattle.pd_clock.specs.declared.times.Rate.{Rate}
use Rattle.pd_clock.specs.declared.times.Rate.TheVariants as hz
use Rattle.pd_clock.specs.Rates.{samples}
use Rattle.pd_feed.specs.Script.{Script as Text, script_of}
use Rattle.pd_feed.specs.Feed.{IsAtEnd}
use Rattle.pd_patch.specs.declared.patch.Patch.{Patch}
use Rattle.pd_again_law.specs.Runs.{Item, Base, Choice, Stage, Taken, choices_of, Passage, still, saying, after, AreLawful, GoByFolder, Sinks, sinks, Took, Leads as LeadsOn, Grows, OpensFile, opened, Opens as EngineOpens, opened_by, free_ways, IsSteady}
use Rattle.pd_again_law.proofs.Runs.{after-joined, choices-append, lawful_both, AreFair, fair_second}
use Rattle.pd_again_law.specs.Again.{AreAgain}
use Rattle.pd_made.specs.Documents.{made_document}
use Rattle.pd_made.specs.Scripts.{made_script}
use Rattle.pd_play.specs.Ending.{no_line, last_line}
use Rattle.pd_play.specs.Made.{made_names, summary_line}
use Rattle.pd_play.specs.Runs.{Run, Ending, Broken, most_time, behind, run_after, run_of, MeetsEnd}
use Rattle.pd_play.specs.Playing.{Plays}
use Rattle.pd_play.specs.Patches.{start, with_line, once_open, PlaysFrom, PlaysOpened, PlaysMadeOpened}
use Rattle.pd_play.specs.declared.status.Status.{Status}
use Rattle.pd_play.specs.declared.status.Status.TheVariants.{Done}
use Rattle.pd_play.proofs.RunLemmas.{played_after}
use Rattle.pd_play.proofs.TookLemmas.{folder_on}
use Rattle.pd_faithful.specs.Scripts.{run_of_by, played_by}
use Rattle.pd_faithful.specs.Points.{most_units, IsSteadyAt}
use Rattle.pd_faithful.specs.Whole.{PlaysGrown, PlaysFreely, PlaysMadeFreely}
use Rattle.pd_faithful.proofs.FreeLemmas.{Laws, run_free}
use Rattle.pd_faithful.proofs.TakenLemmas.{whole_takes, played_fair}
use Rattle.pd_faithful.proofs.EndLemmas.{end_met}
use Rattle.pd_faithful.proofs.AgainLemmas.{AgainLaws, played_again, first_again, told_all}

-- what the laws say of opening
pub record Opens : Type 0 where
  pub laws : Laws
  pub steady : (holds : Option (List FileRow)) (name : List ℕ) (rate : Rate) (d : Page) (names table : Names) (p : Patch) (base : Base) (most : ℕ) (edits : List Choice) → Grows holds name rate d names p table base
      → AreLawful (opened name p table base edits).edits → IsSteady most (opened name p table base edits).stage
  pub freely : (holds : Option (List FileRow)) (name : List ℕ) (rate : Rate) (d : Page) (names table : Names) (p : Patch) (base : Base) (edits : List Choice) → Grows holds name rate d names p table base
      → AreLawful (opened name p table base edits).edits → opened_by free_ways name p table base edits ≡ opened name p table base edits

-- numbers apart
early : (n : ℕ) → 0 ≤ n
early n = omega arith

few_samples : (rate : Rate) → samples rate ≤ 96000
few_samples hz.R44100 = omega arith
few_samples hz.R48000 = omega arith
few_samples hz.R88200 = omega arith
few_samples hz.R96000 = omega arith

starts_steady : (s : Stage) (rate : Rate) → IsSteady most_units s → IsSteadyAt (start s (samples rate))
starts_steady s rate h = record { stage = h; rate = few_samples rate; time = early most_time }

line_after : (name : List ℕ) (closing : Stage → List ℕ) (items : List Item) (edits : List Taken) (run : Run)
    → with_line name closing (run_after items edits run) ≡ run_after items edits (with_line name closing run)
line_after name closing items edits run =
    ap (λ (x : Passage). record { status = run.status; passage = x }) (after-joined items edits run.passage (saying run.passage.stage (last_line name closing run.status run.passage.stage)))

-- from where a patch opened, the run of a script
run_at : Ending → Text → ℕ → Stage → Run
run_at ending text rate s = run_of ending text (start s rate)

-- the run from where it opens
abbrev own_run : List ℕ → Patch → Names → Base → List Choice → ℕ → Ending → Text → Run
own_run name p table base edits rate ending text = behind (opened name p table base edits) (run_of ending text (start (opened name p table base edits).stage rate))

module _ (opens : Opens) where
  -- where it opens by edits that are lawful
  pub opens_steady : (holds : Option (List FileRow)) (name : List ℕ) (rate : Rate) (s : List Choice → Stage) (lines lines' : Option (List ℕ)) (faults faults' : ℕ) (edits : List Choice)
      → OpensFile holds name rate s lines lines' faults faults' → IsSteadyAt (start (s edits) (samples rate))
  opens_steady holds name rate s lines lines' faults faults' edits h =
      let o = h.opens in
      let led = o.says 0 None in
      let ahead : List Choice = choices_of led.edits ++ edits in
      let lawful : AreLawful (opened name o.patch o.table o.base ahead).edits = subst (λ (p : Passage). AreLawful p.edits) (sym (led.same edits)) (lawful_both led.edits [] led.lawful tt) in
      starts_steady (s edits) rate
      (subst (λ (x : Stage). IsSteady most_units x) (ap (λ (p : Passage). p.stage) (led.same edits))
      (opens.steady holds name rate h.document h.names o.table o.patch o.base most_units ahead o.grows lawful))

  pub whole_free : (holds : Option (List FileRow)) (name : List ℕ) (rate : Rate) (d : Page) (names table : Names) (p : Patch) (base : Base) (edits : List Choice) (ending : Ending) (text : Text)
      → Grows holds name rate d names p table base → AreLawful (opened name p table base edits).edits
      → AreFair (run_of ending text (start (opened name p table base edits).stage (samples rate))).passage.edits
      → played_by free_ways name p table base edits (samples rate) ending text ≡ own_run name p table base edits (samples rate) ending text
  whole_free holds name rate d names table p base edits ending text g l w =
      ap (λ (x : Passage). behind x (run_of_by free_ways ending text (start x.stage (samples rate)))) (opens.freely holds name rate d names table p base edits g l)
      ∙ ap (λ (r : Run). behind (opened name p table base edits) r)
      (run_free opens.laws ending text (start (opened name p table base edits).stage (samples rate))
      (starts_steady (opened name p table base edits).stage rate (opens.steady holds name rate d names table p base most_units edits g l)) w)

  -- a patch that was opened is played by a script
  module _ (saves : AgainLaws) (d : Page) (names : Names) (name : List ℕ) (closing : Stage → List ℕ) (rate : Rate) (status : Status) (left left' : Option (List ℕ)) (read read' : ℕ) (old new : Sinks)
      (h : PlaysFrom (EngineOpens old.held name rate d names) name closing rate status left left' read read' old new) where
    abbrev o : EngineOpens old.held name rate d names h.stage old.lines h.printed old.faults h.faults
    o = h.opens

    abbrev led : LeadsOn (opened name o.patch o.table o.base) (λ m. still (h.stage m)) (sinks old.lines old.samples old.looks old.held old.faults) (sinks h.printed old.samples old.looks old.held h.faults)
    led = o.says old.looks old.samples

    abbrev log : List Taken
    log = led.edits ++ h.plays.edits

    abbrev text : Text
    text = script_of 0 0 h.plays.bytes

    abbrev run : Ending → Run
    run ending = run_at ending text (samples rate) (h.stage (choices_of h.plays.edits))

    abbrev own : Ending → Run
    own ending = own_run name o.patch o.table o.base (choices_of log) (samples rate) ending text

    lawful : AreLawful log
    lawful = lawful_both led.edits h.plays.edits led.lawful h.plays.lawful

    -- lines were taken while it opened, and no more
    opening_took : Took old (once_open old h.printed h.faults) led.items led.edits
    opening_took = record {
      lines_are = led.took.lines_are;
      samples_are = led.took.samples_are;
      few_looks = led.took.few_looks;
      held_are = led.took.held_are;
      leaves = led.took.leaves;
      few_faults = led.took.few_faults;
    }

    -- each edit went by what the folder held
    by_folder : GoByFolder old.held log
    by_folder = folder_on old (once_open old h.printed h.faults) led.items led.edits h.plays.edits opening_took led.by_folder h.plays.by_folder

    opened_so : opened name o.patch o.table o.base (choices_of log) ≡ after led.items led.edits (still (h.stage (choices_of h.plays.edits)))
    opened_so = ap (opened name o.patch o.table o.base) (choices-append led.edits h.plays.edits) ∙ led.same (choices_of h.plays.edits)

    opened_lawful : AreLawful (opened name o.patch o.table o.base (choices_of log)).edits
    opened_lawful = subst (λ (p : Passage). AreLawful p.edits) (sym opened_so) (lawful_both led.edits [] led.lawful tt)

    own_so : (ending : Ending) → own ending ≡ run_after led.items led.edits (run ending)
    unfolding run_at
    own_so ending =
        ap (λ (x : Passage). behind x (run_of ending text (start x.stage (samples rate)))) opened_so
        ∙ ap (λ (x : Passage). record { status = (run ending).status; passage = x }) (after-joined led.items led.edits (still (h.stage (choices_of h.plays.edits))) (run ending).passage)

    lined_so : with_line name closing (own h.plays.ending) ≡ run_after led.items led.edits (with_line name closing (run h.plays.ending))
    lined_so = ap (λ (r : Run). with_line name closing r) (own_so h.plays.ending) ∙ line_after name closing led.items led.edits (run h.plays.ending)

    own_tells : Plays (with_line name closing (own h.plays.ending)) log status old new
    unfolding run_at
    own_tells =
        subst (λ (r : Run). Plays r log status old new) (sym lined_so)
        (played_after led.items led.edits h.plays.edits (with_line name closing (run h.plays.ending)) status old (once_open old h.printed h.faults) new opening_took h.plays.tells)

    own_fair : AreFair (own h.plays.ending).passage.edits
    own_fair =
        played_fair name closing (own h.plays.ending) log status old new lawful
        (whole_takes name o.patch o.table o.base (choices_of log) h.plays.ending text (start (opened name o.patch o.table o.base (choices_of log)).stage (samples rate)) refl) own_tells

    free_so : (ending : Ending) → AreFair (own ending).passage.edits → played_by free_ways name o.patch o.table o.base (choices_of log) (samples rate) ending text ≡ own ending
    free_so ending w =
        let p : Passage = opened name o.patch o.table o.base (choices_of log) in
        whole_free old.held name rate d names o.table o.patch o.base (choices_of log) ending text o.grows opened_lawful
        (fair_second p.edits (run_of ending text (start p.stage (samples rate))).passage.edits w)

    -- where an `end` is met, the run is one
    broken_so : MeetsEnd text (start (h.stage (choices_of h.plays.edits)) (samples rate)) → own h.plays.ending ≡ own Broken
    unfolding run_at
    broken_so e =
        own_so h.plays.ending ∙ ap (λ (r : Run). run_after led.items led.edits r) (end_met h.plays.ending text (start (h.stage (choices_of h.plays.edits)) (samples rate)) e)
        ∙ sym (own_so Broken)

    over_free : IsAtEnd left' ⊎ MeetsEnd text (start (h.stage (choices_of h.plays.edits)) (samples rate))
        → IsAtEnd left' ⊎ ((played_by free_ways name o.patch o.table o.base (choices_of log) (samples rate) Broken text).status ≡ Done)
    unfolding run_at
    over_free (inl e) = inl e
    over_free (inr e) =
        let fair : AreFair (own Broken).passage.edits = subst (λ (r : Run). AreFair r.passage.edits) (broken_so e) own_fair in
        inr (ap (λ (r : Run). r.status) (free_so Broken fair ∙ own_so Broken) ∙ e)

    log_again : AreAgain o.grows.files.files name rate log
    log_again =
        let p : Passage = opened name o.patch o.table o.base (choices_of log) in
        told_all (AreAgain o.grows.files.files name rate) (first_again o.grows.files.files name rate []) name closing (own h.plays.ending) log status old new own_tells
        (played_again opens.laws saves old.held name rate d names o.patch o.table o.base o.grows (choices_of log) h.plays.ending text
        (starts_steady p.stage rate (opens.steady old.held name rate d names o.table o.patch o.base most_units (choices_of log) o.grows opened_lawful)) own_fair)

    plays_free : PlaysGrown d names name closing rate status left left' read read' old new
    plays_free = record {
      patch = o.patch;
      table = o.table;
      base = o.base;
      grows = o.grows;
      ending = h.plays.ending;
      bytes = h.plays.bytes;
      is_script = h.plays.is_script;
      edits = log;
      lawful = lawful;
      by_folder = by_folder;
      again = log_again;
      tells = subst (λ (r : Run). Plays r log status old new) (sym (ap (λ (r : Run). with_line name closing r) (free_so h.plays.ending own_fair))) own_tells;
      over = λ e. over_free (h.plays.over e);
    }

  pub opened_free : AgainLaws → (name : List ℕ) (rate : Rate) (status : Status) (left left' : Option (List ℕ)) (read read' : ℕ) (old new : Sinks) → PlaysOpened name rate status left left' read read' old new
      → PlaysFreely name rate status left left' read read' old new
  opened_free saves name rate status left left' read read' old new h =
      let d : Page = h.opens.document in
      let names : Names = h.opens.names in
      let from : PlaysFrom (EngineOpens old.held name rate d names) name no_line rate status left left' read read' old new = record {
        stage = h.stage;
        printed = h.printed;
        faults = h.faults;
        counted = h.counted;
        opens = h.opens.opens;
        plays = h.plays;
      } in
      record { document = d; names = names; reads = h.opens.reads; plays = plays_free saves d names name no_line rate status left left' read read' old new from }

  pub made_free : AgainLaws → (n : ℕ) (name : List ℕ) (rate : Rate) (status : Status) (left' : Option (List ℕ)) (old new : Sinks) → PlaysMadeOpened n name rate status left' old new
      → PlaysMadeFreely n name rate status left' old new
  made_free saves n name rate status left' old new h =
      plays_free saves (made_document made_names n) made_names name (summary_line n) rate status (Some (made_script n)) left' 0 0 old new h
