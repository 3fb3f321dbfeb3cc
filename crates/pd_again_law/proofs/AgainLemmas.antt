-- A patch that was saved opens again.
use Rattle.std.proofs.Common.{◌≡◌, ◌≤◌, ◌+◌, ◌-◌, inl, ℕ, List, [], ◌∷◌, ◌++◌, length, Option, Some, None, Ok, IfSome, refl, sym, ap, ◌∙◌, subst, arith, append-nil}
use Rattle.slab.specs.Slab.{get}
use Rattle.pd_io.specs.declared.files.FileRow.{FileRow}
use Rattle.pd_atom.specs.Names.{Names, Extends, IsTable}
use Rattle.pd_atom.proofs.NameLemmas.{six_names}
use Rattle.pd_canvas.specs.Pages.{Page}
use Rattle.pd_canvas.specs.Proper.{IsProper, AreBoxes, count_wires}
use Rattle.pd_clock.specs.declared.times.Rate.{Rate}
use Rattle.pd_doc.specs.Reading.{document_of}
use Rattle.pd_doc.specs.Writing.{text_of}
use Rattle.pd_doc.proofs.GrowLaws.{proper_grows}
use Rattle.pd_object.specs.Ports.{IsSmallKind}
use Rattle.pd_object.specs.declared.kinds.Kind.{Kind}
use Rattle.pd_object.specs.declared.kinds.Kind.TheVariants as kind
use Rattle.pd_object.specs.declared.kinds.Glue.{Glue}
use Rattle.pd_object.specs.declared.kinds.Glue.TheVariants as glue
use Rattle.pd_kind.specs.declared.states.State.{State}
use Rattle.pd_library.specs.Files.{answer_in}
use Rattle.pd_library.specs.declared.answers.Answer.{Answer}
use Rattle.pd_tree.specs.Trees.{Tree, weight, zeros_of, document_in}
use Rattle.pd_growth.specs.Steps.{Stock, Step, beginning, gives, zeros_from}
use Rattle.pd_growth.specs.Growth.{grown}
use Rattle.pd_gather.specs.Gather.{GoesOn, known}
use Rattle.pd_grove.specs.declared.grove.Grove.{Grove}
use Rattle.pd_grove.specs.Standing.{GroveStands}
use Rattle.pd_grove.specs.States.{NodesSmall}
use Rattle.pd_grove.specs.Telling.{kind_in}
use Rattle.pd_grove.specs.TextOrder.{deep}
use Rattle.pd_web.specs.declared.web.Web.{Web}
use Rattle.pd_web.specs.Changes.{wires_told}
use Rattle.pd_present.specs.Presents.{present_page, wires_among}
use Rattle.pd_patch.specs.declared.patch.Patch.{Patch}
use Rattle.pd_patch.specs.Document.{present_document}
use Rattle.pd_patch.specs.Grown.{IsTree, IsFresh, HasCause}
use Rattle.pd_patch.specs.declared.refusal.GrowRefusal.{GrowRefusal}
use Rattle.pd_patch.specs.declared.refusal.GrowRefusal.TheVariants.{NoMemory}
use Rattle.pd_patch.specs.Sounds.{sound_of}
use Rattle.pd_patch.specs.Wired.{IsWired}
use Rattle.pd_patch.proofs.BuiltLemmas.{is_built}
use Rattle.pd_wiring.proofs.BuiltLemmas.{runs_rewire}
use Rattle.pd_hearing.specs.Worlds.{Net, net_of, states_of}
use Rattle.pd_regrowth_law.specs.Regrowth.{stock}
use Rattle.pd_regrowth_law.proofs.DocumentLemmas.{patch_stays}
use Rattle.pd_regrowth_law.proofs.StepLemmas.{extends_same, gives_same, gives_stock}
use Rattle.pd_regrowth_law.proofs.TakeLemmas.{patch_takes}
use Rattle.pd_reload_law.specs.Reloading.{HasGrown, RunsAs}
use Rattle.pd_reload_law.specs.Saving.{tree_now, AreMade}
use Rattle.pd_reload_law.specs.Wires.{StandOnce}
use Rattle.pd_putting_law.specs.Again.{StandsAgain}
use Rattle.pd_putting_law.proofs.AgainLemmas.{grown_stands, stands_made, present_grows}
use Rattle.pd_saved_law.proofs.FitLemmas.{fresh_fit}
use Rattle.pd_saved_law.proofs.OpenLemmas.{has_grown}
use Rattle.pd_alike_law.specs.Alike.{HasOpened, now_of}
use Rattle.pd_alike_law.proofs.OwnerLemmas.{owners_opened}
use Rattle.pd_put_law.proofs.OwnerLemmas.{again_alike}
use Rattle.pd_inside_law.proofs.FirstLemmas.{first_holds}
use Rattle.pd_inside_law.proofs.SameLemmas.{same_everywhere}
use Rattle.pd_inside_law.proofs.WayLemmas.{same_paths}
use Rattle.pd_limits_law.proofs.CountLemmas.{few_fit}
use Rattle.pd_limits_law.proofs.SoundLemmas.{same_sound, memory_alone}
use Rattle.pd_steady.specs.PassedOn.{IsKind, AreKept, kinds_of, Base, Wanted, Edits, Asks, Saves, Undoes, Redoes, Choice, Refuses, Lacks, Makes, StandsAt, Stage, Taken, Passage, Grows, first_stage, growth_of}
use Rattle.pd_steady.proofs.PassedOn.{some-weaker}
use Rattle.pd_channels_law.specs.Channels.{HasFewChannels}
use Rattle.pd_contents_law.specs.Contents.{IsGlueSettled, IsKindSettled, AreKindsSettled}
use Rattle.pd_contents_law.proofs.SettledLemmas.{onward, settled_more}
use Rattle.pd_contents_law.proofs.MadeLemmas.{grown_contents}
use Rattle.pd_proper_law.specs.Saves.{IsWritten, AllSaveWell}
use Rattle.pd_proper_law.proofs.DistinctLemmas.{few_saved}
use Rattle.pd_proper_law.proofs.DocumentCounts.{all_keys, document_count, dist_keys}
use Rattle.pd_proper_law.proofs.LawLemmas.{tree_proper}
use Rattle.pd_proper_law.proofs.OwnLemmas.{written_settled}
use Rattle.pd_proper_law.proofs.SavableLemmas.{contents_save}
use Rattle.pd_steady.specs.Steady.{IsSteady}
use Rattle.pd_again_law.specs.Again.{IsSamePatch, grown_alike, GrowsAgain, LeavesNumbers, AllLeaveNumbers, Reopens, SavedOpensAgain, AreAgainBehind, AreAgain}
use Rattle.pd_again_law.proofs.NumberLemmas.{HasFirstNumbers, as_opened}
use Rattle.pd_again_law.proofs.StandLemmas.{six_more, HasCounted, StaysProper, runs_at}
use Rattle.pd_again_law.proofs.FoundLemmas.{IsGood, AreFound, EndsWell, good_if}
use Rattle.pd_again_law.proofs.HeldLemmas.{IsHeld, Settled, bare_kind, told, held_in}

-- ---- small kinds

kind_small : (names : Names) (k : Kind) → IsKind names k → HasFewChannels k → IsSmallKind k
kind_small names (kind.Glue g) h c = h.small
kind_small names (kind.Signal s) h c = c
kind_small names k h c = tt

glue_more : (old new : Names) → Extends old new → (g : Glue) → IsGlueSettled old g → IsGlueSettled new g
glue_more old new x (glue.Message text) h = settled_more old new x text h
glue_more old new x g h = tt

kind_more : (old new : Names) → Extends old new → (k : Kind) → IsKindSettled old k → IsKindSettled new k
kind_more old new x (kind.Glue g) h = glue_more old new x g h
kind_more old new x k h = tt

no_deeper : (n : ℕ) → n + 1 ≤ 256 → n ≤ 256
no_deeper n h = omega (arith, h)

as_few : (a b c : ℕ) → a ≡ b → b ≤ c → a ≤ c
as_few a b c e l = omega (arith, e, l)

no_more : (a b c : ℕ) → a ≤ b → b ≤ c → a ≤ c
no_more a b c h l = omega (arith, h, l)

-- what a law of pd_reload_law says
abbrev pub Tells : Type 0
Tells = (g : Grove) (web : Web) (numbers : List ℕ) (t : Tree) → RunsAs g t → AreMade t.boxes → document_in (tree_now g web numbers t) ≡ present_page g web numbers

-- what a law of pd_doc says
abbrev pub ReadsBack : Type 0
ReadsBack = (names : Names) (p : Page) → IsTable names → IsProper names p → document_of names (text_of names p) ≡ Ok (p, names)

-- ---- where a patch opens

module _ (holds : Option (List FileRow)) (name : List ℕ) (rate : Rate) (d : Page) (names : Names) (p : Patch) (table : Names) (base : Base) (grows : Grows holds name rate d names p table base) where
  abbrev t : Tree
  t = grows.tree.tree

  abbrev before : Names
  before = grows.files.names

  grew : HasGrown (answer_in grows.files.files) name d (beginning before 1001) t grows.tree.given.after
  grew = has_grown grows.files.files name d before table 1001 rate p grows.proper grows.found grows.tree

  on : Extends before table
  on =
      subst (λ (n : Names). Extends before n) (sym grows.tree.given.table)
      (patch_takes (answer_in grows.files.files) name d (beginning before 1001) grows.tree.given.after t grows.tree.given.step).names

  again : StandsAgain (answer_in base.files) name table t
  again =
      subst (λ (fs : List (ℕ × Answer)). StandsAgain (answer_in fs) name table t) (sym grows.first.files_are)
      (subst (λ (n : Names). StandsAgain (answer_in grows.files.files) name n t) (sym grows.tree.given.table)
      (grown_stands (answer_in grows.files.files) name d (beginning before 1001) grows.tree.given.after t grew))

  numbers : HasFirstNumbers t
  numbers =
      let after : Stock = grows.tree.given.after in
      (after.zeros, (patch_takes (answer_in grows.files.files) name d (beginning before 1001) after t grows.tree.given.step).zeros)

  gathered : GoesOn grows.files.files base.files
  gathered = record { more = []; is = grows.first.files_are ∙ sym (append-nil grows.files.files) }

  made : AreMade t.boxes
  made = stands_made (answer_in base.files) name table t again

  six : 6 ≤ length table
  six = six_more before table on (six_names before grows.table)

  document : document_in t ≡ d
  document = patch_stays (answer_in grows.files.files) name d (beginning before 1001) grows.tree.given.after t grew.shallow grew.none grows.tree.given.step

  proper : StaysProper table t
  proper more x of =
      subst (IsProper more) (sym document) (proper_grows before more (record { extends = onward before table more on x; before = grows.table; after = of }) d grows.proper)

  settled : AreKindsSettled (IsWritten p.grove) table (kinds_of p)
  settled k w =
      some-weaker (IsKindSettled before) (IsKindSettled table) (kind_more before table on) (kinds_of p k)
      (written_settled before p.grove t grows.table grows.tree.stands made (subst (λ (x : Page). AreBoxes before x.boxes) (sym document) grows.proper.sound.1) k w)

  held : IsHeld name table (states_of p) t p
  held = record {
    stands = grows.tree.stands;
    fit = fresh_fit p grows.fresh.wires grows.fresh.own grows.fresh.numbers;
    holds = first_holds grows.files.files name d before table 1001 rate p grows.proper grows.tree grows.fresh;
    owners = grows.fresh.owners;
    contents = grown_contents table (IsWritten p.grove) p rate 0 grows.fresh.states settled;
  }

  pub first_good : (clean : Type 0) (most : ℕ) (ahead : List Choice) → IsSteady most (first_stage name p table base ahead)
      → IsGood grows.files.files rate name clean most (first_stage name p table base ahead)
  first_good clean most ahead steady = record {
    steady = steady;
    stands = record {
      file = refl;
      rates = grows.fresh.same_rate;
      six = six;
      tree = t;
      low = no_deeper (deep t.boxes) grows.tree.shallow;
      again = again;
      proper = proper;
      numbers = λ k. numbers;
      files = gathered;
      counted = counted_first;
      held = held_in name table (states_of p) t p (net_of p) refl held;
    };
  }
    where
      counted_first : HasCounted rate base t
      counted_first = record {
        boxes = grows.first.counted.boxes ∙ ap (λ (x : Tree). weight x.boxes) grows.first.tree_is;
        sound = grows.first.counted.sound ∙ ap (λ (r : Rate). sound_of r grows.first.counted.tree.boxes) grows.fresh.same_rate
            ∙ ap (λ (x : Tree). sound_of rate x.boxes) grows.first.tree_is;
      }

-- ---- a patch that stands at a stage

-- what a patch is that grew as this tree
grown_as : (q : Patch) (names2 names : Names) (rate : Rate) (s : Step Tree) (now : Tree) (zeros : List ℕ) (room : ℕ) → IsTree q names2 rate s → s ≡ gives now (stock names zeros room)
    → GroveStands q.grove now.sheet now.boxes × IsWired q.grove q.web now × (names2 ≡ names)
grown_as q names2 names rate s now zeros room t e =
    let both = sym t.given.step ∙ e in
    let same : t.tree ≡ now = gives_same t.tree now t.given.after (stock names zeros room) both in
    let after : t.given.after ≡ stock names zeros room = gives_stock t.tree now t.given.after (stock names zeros room) both in (
      subst (λ (x : Tree). GroveStands q.grove x.sheet x.boxes) same t.stands,
      subst (IsWired q.grove q.web) same t.wired,
      t.given.table ∙ ap (λ (x : Stock). x.names) after,
    )

module _ (tells : Tells) (reads : ReadsBack) (library : List (ℕ × Answer)) (rate : Rate) (name : List ℕ) (earlier : List Taken) (most : ℕ) (s : Stage) (good : IsGood library rate name (AllLeaveNumbers earlier) most s) (p : Patch)
    (at : StandsAt p s) (table : IsTable s.names) (once : StandOnce p.web) where
  abbrev tree : Tree
  tree = good.stands.tree

  abbrev files : List (ℕ × Answer)
  files = s.base.files

  -- it grows again from its own document
  stood : StandsAgain (answer_in files) name s.names tree
  stood = subst (λ (f : List ℕ). StandsAgain (answer_in files) f s.names tree) good.stands.file good.stands.again

  there : IsHeld name s.names s.states tree p
  there = subst (λ (f : List ℕ). IsHeld f s.names s.states tree p) good.stands.file (good.stands.held p (told s.net p at.net))

  runs : RunsAs p.grove tree
  runs = runs_at library rate name (AllLeaveNumbers earlier) most s p good.stands good.steady at

  all_made : AreMade tree.boxes
  all_made = stands_made (answer_in files) name s.names tree stood

  few_boxes : weight tree.boxes ≤ 16384
  few_boxes = as_few (weight tree.boxes) s.base.counts.boxes 16384 (sym good.stands.counted.boxes) good.steady.tree.within.boxes

  few_wires : wires_told p.web ≤ 65536
  few_wires =
      as_few (wires_told p.web) s.base.counts.wires 65536 (sym (good.steady.tree.wires ∙ ap (λ (n : Net). wires_told n.web) at.net)) good.steady.tree.within.wires

  -- the kind of a box, by what messages leave
  kind_told : (k : ℕ) → kind_in (s.net.nodes k) ≡ kinds_of p k
  kind_told k = ap (λ (n : Net). kind_in (n.nodes k)) at.net ∙ bare_kind (get p.grove.nodes k)

  small : NodesSmall (get p.grove.nodes)
  small k n e =
      let same : kind_in (s.net.nodes k) ≡ Some n.kind = kind_told k ∙ ap kind_in e in
      kind_small s.names n.kind (subst (λ (o : Option Kind). IfSome o (IsKind s.names)) same (good.steady.order.kinds k))
      (subst (λ (o : Option Kind). IfSome o HasFewChannels) same (good.steady.ready.channels k))

  kept : AreKept s.names s.time (states_of p)
  kept = subst (λ (f : ℕ → Option State). AreKept s.names s.time f) at.states good.steady.order.states

  saves : AllSaveWell s.names p.grove
  saves =
      contents_save s.names s.time p table kept (subst (λ (f : ℕ → Option State). Settled p s.names f) at.states there.contents)

  few_saved_wires : count_wires (document_in (tree_now p.grove p.web p.numbers.items tree)) ≤ 65536
  few_saved_wires =
      subst (λ (n : ℕ). n ≤ 65536) (sym (document_count p.grove tree runs.stands p.web p.numbers.items))
      (no_more (length (wires_among p.web p.numbers.items (all_keys p.grove tree))) (wires_told p.web) 65536
      (few_saved p.web p.numbers.items (all_keys p.grove tree) once (dist_keys p.grove tree runs.stands at.puts.runs.own)) few_wires)

  is_proper : IsProper s.names (present_document p)
  is_proper =
      subst (IsProper s.names) (tells p.grove p.web p.numbers.items tree runs all_made)
      (tree_proper s.names p tree (good.stands.proper s.names (extends_same s.names) table) runs all_made few_boxes small saves at.puts.runs there.fit few_saved_wires)

  grown_so : (more : List ℕ) (room : ℕ) → grown_alike files name (present_document p) s.names tree more room ≡ gives (now_of p tree) (stock s.names more room)
  grown_so more room =
      present_grows (answer_in files) (answer_in files) name s.names s.names tree p.grove p.web p.numbers.items more room stood (λ symbol answer e. e) runs (extends_same s.names)

  -- what is asked of a patch that opened
  has_opened : (q : Patch) (names2 : Names) → IsFresh q names2 name rate → GroveStands q.grove (now_of p tree).sheet (now_of p tree).boxes → IsWired q.grove q.web (now_of p tree)
      → HasOpened p tree q
  has_opened q names2 fresh stands wired = record {
    runs = at.puts.runs;
    fit = there.fit;
    stands = runs.stands;
    shallow = runs.shallow;
    made = all_made;
    opened = runs_rewire q names2 name rate (is_built q names2 name rate fresh);
    again = stands;
    wired = wired;
  }

  -- a growth that gives this tree
  module _ (grows : Step Tree) (more : List ℕ) (room : ℕ) (is : grows ≡ gives (now_of p tree) (stock s.names more room)) where
    same_patch : (q : Patch) (names2 : Names) → IsTree q names2 rate grows → IsFresh q names2 name rate → IsSamePatch p (now_of p tree) s.names q names2
    same_patch q names2 grew fresh =
        let o = grown_as q names2 s.names rate grows (now_of p tree) more room grew is in
        let h : HasOpened p tree q = has_opened q names2 fresh o.0 o.1 in
        record {
          tree = o.0;
          table = o.2;
          owners = λ class symbol. owners_opened p q tree s.names names2 name class symbol h (there.owners class symbol) (fresh.owners class symbol)
              (again_alike (answer_in files) name s.names names2 tree stood (subst (Extends s.names) (sym o.2) (extends_same s.names)));
          canvases = λ path. same_paths p q tree path h;
          alike = λ path c e here back. same_everywhere p q tree path c e h once there.holds here back;
        }

    for_memory : (why : GrowRefusal) → HasCause why grows rate → why ≡ NoMemory
    for_memory why cause =
        memory_alone rate grows (now_of p tree) (stock s.names more room) why is (few_fit p tree runs at.puts.runs once there.holds.inside (inl few_wires))
        (as_few (sound_of rate (now_of p tree).boxes) s.base.counts.sound 16777216 (same_sound p tree s.names rate runs all_made saves ∙ sym good.stands.counted.sound) good.steady.tree.within.sound)
        cause

    grows_again : GrowsAgain grows (stock s.names more room) name rate tree p s.names
    grows_again = record { tree = is; same = same_patch; refused = for_memory }

  -- the room that is left where its text is opened as a file
  abbrev room_left : ℕ
  room_left = 16384 - weight tree.boxes

  opened_so : (numbers_left : List ℕ) → zeros_from 1001 ≡ zeros_of tree ++ numbers_left
      → growth_of name (present_document p) (known files s.names) ≡ gives (now_of p tree) (stock s.names numbers_left room_left)
  opened_so numbers_left first =
      ap (grown (answer_in files) name (present_document p)) (as_opened s.names tree numbers_left few_boxes first) ∙ grown_so numbers_left room_left

  pub reopens : Reopens library name rate earlier s p
  reopens = record {
    tree = tree;
    files = good.stands.files;
    again = record {
      stands = runs;
      page = present_document p;
      reads = reads s.names (present_document p) table is_proper;
      is_now = refl;
      room_left = room_left;
      opened = λ numbers_left first. grows_again (growth_of name (present_document p) (known files s.names)) numbers_left room_left (opened_so numbers_left first);
      alike = λ more room. grows_again (grown_alike files name (present_document p) s.names tree more room) more room (grown_so more room);
    };
    numbers = good.stands.numbers;
  }

-- ---- edits that found such stages

one_again : Tells → ReadsBack → (library : List (ℕ × Answer)) (rate : Rate) (name : List ℕ) (earlier : List Taken) (most : ℕ) (wanted : Wanted) (taken : Taken) (c : Choice)
    → IsGood library rate name (AllLeaveNumbers earlier) most taken.found → SavedOpensAgain library name rate earlier wanted taken c
one_again tells reads library rate name earlier most (Edits place path e) taken c good = tt
one_again tells reads library rate name earlier most (Asks path e) taken c good = tt
one_again tells reads library rate name earlier most (Saves (Some place)) taken c good = tt
one_again tells reads library rate name earlier most (Saves None) taken (Refuses why) good = tt
one_again tells reads library rate name earlier most (Saves None) taken (Lacks net) good = tt
one_again tells reads library rate name earlier most (Saves None) taken (Makes m) good = λ saved.
    reopens tells reads library rate name earlier most taken.found good saved.patch saved.stands saved.table saved.once
one_again tells reads library rate name earlier most Undoes taken c good = tt
one_again tells reads library rate name earlier most Redoes taken c good = tt

all_again : Tells → ReadsBack → (library : List (ℕ × Answer)) (rate : Rate) (name : List ℕ) (earlier : List Taken) (clean : Type 0) → (AllLeaveNumbers earlier → clean) → (most : ℕ) (edits : List Taken)
    → AreFound library rate name clean most edits → AreAgainBehind library name rate earlier edits
all_again tells reads library rate name earlier clean f most [] h = tt
all_again tells reads library rate name earlier clean f most (x ∷ edits) h = (
  one_again tells reads library rate name earlier most x.wanted x x.choice (good_if library rate name clean (AllLeaveNumbers earlier) f most x.found h.0),
  all_again tells reads library rate name (x ∷ earlier) (clean × LeavesNumbers x.wanted x.found x.choice) (λ k. (f k.1, k.0)) most edits h.1,
)

-- ---- runs

-- each save of a run
pub saves_again : Tells → ReadsBack → (library : List (ℕ × Answer)) (rate : Rate) (name : List ℕ) (most : ℕ) (edits : List Taken) → AreFound library rate name (Unit {0}) most edits
    → AreAgain library name rate edits
saves_again tells reads library rate name most edits h = all_again tells reads library rate name [] (Unit {0}) (λ k. k) most edits h

-- a patch that stands where a part of a run ends
pub stage_again : Tells → ReadsBack → (library : List (ℕ × Answer)) (rate : Rate) (name : List ℕ) (most : ℕ) (q : Passage) → EndsWell library rate name (Unit {0}) most q → (p : Patch)
    → StandsAt p q.stage → IsTable q.stage.names → StandOnce p.web → Reopens library name rate q.edits q.stage p
stage_again tells reads library rate name most q h p at table once =
    reopens tells reads library rate name q.edits most q.stage (good_if library rate name (Unit {0} × AllLeaveNumbers q.edits) (AllLeaveNumbers q.edits) (λ k. (tt, k)) most q.stage h.stage)
    p at table once
