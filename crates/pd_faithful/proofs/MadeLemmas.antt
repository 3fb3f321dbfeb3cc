-- A made patch grows within the limits, and its script is commands up to its `end`.
use Rattle.std.proofs.Common.{◌≡◌, ◌≤◌, ◌+◌, ◌*◌, ◌==◌, ℕ, ℤ, suc, pos, Bool, false, if◌then◌else◌, List, [], ◌∷◌, ◌++◌, length, Option, Some, None, refl, sym, ap, ◌∙◌, arith}
use Rattle.std.specs.Prelude.{codes, decimal}
use Rattle.std.specs.List.{AllByRecursion, flat_map}
use Rattle.std.proofs.lemmas.Bool.{le-ltb}
use Rattle.std.proofs.lemmas.Bool.Decides.{nat_tests}
use Rattle.pd_io.specs.declared.files.FileRow.{FileRow}
use Rattle.pd_atom.specs.Names.{Names}
use Rattle.pd_canvas.specs.declared.edits.Edit.TheVariants.{Connect, Disconnect}
use Rattle.pd_feed.specs.Script.{Script as Text, script_of}
use Rattle.pd_feed.specs.declared.feed.Fed.TheVariants as fed
use Rattle.pd_script.specs.Tokens.{tokens_of}
use Rattle.pd_script.specs.Scripts.{command_of}
use Rattle.pd_script.specs.declared.commands.Command.{Command}
use Rattle.pd_script.specs.declared.commands.Command.TheVariants as command
use Rattle.pd_script.specs.declared.commands.Script.{Script}
use Rattle.pd_script.specs.declared.commands.Script.TheVariants as script
use Rattle.pd_library.specs.declared.answers.Answer.{Answer}
use Rattle.pd_library.specs.Files.{answer_in}
use Rattle.pd_tree.specs.Trees.{Tree}
use Rattle.pd_growth.specs.Steps.{Step}
use Rattle.pd_gather.specs.declared.fetching.Fetch.{Fetch}
use Rattle.pd_gather.specs.Gather.{Known, Gathering, Gathered, known, growth, asked_by, asked, gathered, Gathers}
use Rattle.pd_made.specs.Documents.{made_document}
use Rattle.pd_made.specs.Scripts.{made_script}
use Rattle.pd_made.specs.Voices.{voices}
use Rattle.pd_made_law.specs.Records.{cut_record, join_record, end_record, records_of, made_records, wire_to, cut_edit, join_edit}
use Rattle.pd_made_law.proofs.ScriptLemmas.{voices_few, voices_count}
use Rattle.pd_made_growth_law.specs.Grows.{GrowsSmall}
use Rattle.pd_again_law.specs.Runs.{with_names, followed_by, Ways, commanded_by}
use Rattle.pd_play.specs.Made.{made_names}
use Rattle.pd_play.specs.Runs.{Point, Run, Whole, most_time, at_stage, at_time, counted, bad}
use Rattle.pd_play.specs.declared.status.Status.TheVariants.{Done}
use Rattle.pd_faithful.specs.Scripts.{reached_by, said_run_by, read_run_by, record_run_by, records_run_by, end_run_by, run_of_by}

-- what the laws say of made patches
pub record MadeLaws : Type 0 where
  pub records : (n : ℕ) → n ≤ 1000 → script_of 0 0 (made_script n) ≡ record { records = made_records n; end = fed.End }
  pub cuts : (names : Names) (voice : ℕ) → voice ≤ 1000 → command_of names (tokens_of (cut_record voice)) ≡ Some (pos 1000000, cut_edit voice, names)
  pub joins : (names : Names) (voice : ℕ) → voice ≤ 1000 → command_of names (tokens_of (join_record voice)) ≡ Some (pos 0, join_edit voice, names)
  pub ends : (names : Names) → command_of names (tokens_of end_record) ≡ Some (pos 0, script.End, names)
  pub grows : (lib : ℕ → Option Answer) (name : List ℕ) (n : ℕ) → n ≤ 1000 → GrowsSmall lib name n

-- ---- its script

some_text : (b : ℕ) (bytes : List ℕ) → (length (b ∷ bytes) == 0) ≡ false
some_text b bytes = one_more (length bytes)
  where
    one_more : (n : ℕ) → (suc n == 0) ≡ false
    one_more n = grind (arith, nat_tests)

cut_some : (voice : ℕ) → (length (cut_record voice) == 0) ≡ false
cut_some voice = some_text 49 (codes " edit . / disconnect " ++ (decimal (2 * voice) ++ codes " 0 0 0"))

join_some : (voice : ℕ) → (length (join_record voice) == 0) ≡ false
join_some voice = some_text 48 (codes " edit . / connect " ++ (decimal (2 * voice) ++ codes " 0 0 1"))

end_some : (length end_record == 0) ≡ false
end_some = some_text 48 (codes " end")

-- so much later, with no new names
abbrev later : Point → ℕ → Point
later p ms = at_time (at_stage p (with_names p.stage p.stage.names)) (p.time + ms)

-- a command came to what it leads to
abbrev behind_command : Ways → Command → Point → Point
behind_command ways c p = at_stage p (followed_by (reached_by ways p) (commanded_by ways c)).stage

abbrev cut : ℕ → Command
cut voice = command.Edit (record { document = None; path = [] }) (Disconnect (wire_to voice 0))

abbrev join : ℕ → Command
join voice = command.Edit (record { document = None; path = [] }) (Connect (wire_to voice 1))

module _ (ways : Ways) (laws : MadeLaws) where
  record_said : (text : List ℕ) (p : Point) (rest : Point → Run) (ms : ℕ) (s : Script) → (length text == 0) ≡ false
      → command_of p.stage.names (tokens_of text) ≡ Some (pos ms, s, p.stage.names) → p.time + ms ≤ most_time
      → record_run_by ways text p rest ≡ said_run_by ways s (later p ms) rest
  unfolding record_run_by
  record_said text p rest ms s some reads in_time =
      ap (λ (b : Bool). if b then rest p else read_run_by ways (command_of p.stage.names (tokens_of text)) p rest) some
      ∙ ap (λ (o : Option (ℤ × Script × Names)). read_run_by ways o p rest) reads
      ∙ ap (λ (b : Bool). if b then bad (at_stage p (with_names p.stage p.stage.names)) else said_run_by ways s (later p ms) rest) (le-ltb most_time (p.time + ms) in_time)

  -- a record that is a command leads to the rest
  goes : (text : List ℕ) (p : Point) (rest : Point → Run) (ms : ℕ) (c : Command) → (length text == 0) ≡ false
      → command_of p.stage.names (tokens_of text) ≡ Some (pos ms, script.Run c, p.stage.names) → p.time + ms ≤ most_time
      → (record_run_by ways text p rest).status ≡ (rest (behind_command ways c (later p ms))).status
  goes text p rest ms c some reads in_time = ap (λ (r : Run). r.status) (record_said text p rest ms (script.Run c) some reads in_time)

  voices_done : (vs : List ℕ) (last : Point → Run) (p : Point) → AllByRecursion (λ v. v ≤ 1000) vs → p.time + 1000000 * length vs ≤ most_time
      → (records_run_by ways (flat_map records_of vs ++ end_record ∷ []) last p).status ≡ Done
  voices_done [] last p h l =
      let in_time : p.time + 0 ≤ most_time = omega (arith, l) in
      ap (λ (r : Run). r.status) (record_said end_record (counted p) last 0 script.End end_some (laws.ends p.stage.names) in_time)
  voices_done (v ∷ vs) last p h l =
      let rest : Point → Run = records_run_by ways (flat_map records_of vs ++ end_record ∷ []) last in
      let q : Point = behind_command ways (cut v) (later (counted p) 1000000) in
      let r : Point = behind_command ways (join v) (later (counted q) 0) in
      let first : p.time + 1000000 ≤ most_time = omega (arith, l) in
      let second : p.time + 1000000 + 0 ≤ most_time = omega (arith, l) in
      let more : p.time + 1000000 + 0 + 1000000 * length vs ≤ most_time = omega (arith, l) in
      goes (cut_record v) (counted p) (λ x. record_run_by ways (join_record v) (counted x) rest) 1000000 (cut v) (cut_some v) (laws.cuts p.stage.names v h.0) first
      ∙ goes (join_record v) (counted q) rest 0 (join v) (join_some v) (laws.joins q.stage.names v h.0) second
      ∙ voices_done vs last r h.1 more

  -- from where no time has passed
  pub script_done : (n : ℕ) (p : Point) → n ≤ 1000 → p.time ≡ 0 → (run_of_by ways Whole (script_of 0 0 (made_script n)) p).status ≡ Done
  script_done n p few start =
      let count : length (voices n) ≡ n = voices_count n in
      ap (λ (text : Text). (run_of_by ways Whole text p).status) (laws.records n few)
      ∙ voices_done (voices n) (end_run_by ways Whole fed.End) p (voices_few n 1000 few) (omega (arith, few, start, count))

-- ---- its growth

over_at_once : (ask : Known → Gathering) (k : Known) (fetches : List Fetch) → gathered ask fetches (Gathered k) ≡ Gathered k
over_at_once ask k [] = refl
over_at_once ask k (f ∷ fetches) = over_at_once ask k fetches

-- nothing more than its names is known
abbrev pub own_names : Known
own_names = known [] made_names

asks_none : (name : List ℕ) (n : ℕ) → GrowsSmall (answer_in []) name n → asked name (made_document made_names n) own_names ≡ Gathered own_names
unfolding growth
asks_none name n grows = ap (λ (s : Step Tree). asked_by own_names s.answer s.stock.names) grows.step

pub gathers_none : (holds : Option (List FileRow)) (name : List ℕ) (n : ℕ) (g : Gathering) → GrowsSmall (answer_in []) name n
    → Gathers holds name (made_document made_names n) own_names g → g ≡ Gathered own_names
gathers_none holds name n g grows h =
    let ask : Known → Gathering = asked name (made_document made_names n) in
    sym h.comes ∙ ap (gathered ask h.fetches) (asks_none name n grows) ∙ over_at_once ask own_names h.fetches
