-- The walk over a document, under way.
use Rattle.std.proofs.Common.{◌≡◌, ℕ, ◌+◌, ◌≤◌, List, [], ◌∷◌, ◌++◌, length, take, drop, Option, sym, ap, refl, ◌∙◌, subst, arith, append_assoc, append-nil}
use Rattle.std.proofs.lemmas.List.{drop_all}
use Rattle.pd_io.specs.declared.files.FileRow.{FileRow}
use Rattle.pd_atom.specs.Names.{Names, IsTable, Extends}
use Rattle.pd_atom.proofs.NameLemmas.{six_names}
use Rattle.pd_doc.proofs.ResultLemmas.{extends_on, extends_same}
use Rattle.pd_canvas.specs.declared.tree.Element.{Element}
use Rattle.pd_canvas.specs.Pages.{Page, Entry, elements_of}
use Rattle.pd_canvas.specs.Proper.{IsProper}
use Rattle.pd_canvas.specs.Views.{entry_of, entries_of}
use Rattle.pd_library.specs.declared.answers.Answer.{Answer}
use Rattle.pd_library.specs.Files.{answer_in}
use Rattle.pd_tree.specs.Trees.{Trees}
use Rattle.pd_growth.specs.declared.growing.Stop.TheVariants as stop
use Rattle.pd_growth.specs.declared.supply.Supply.{Supply}
use Rattle.pd_growth.specs.Steps.{gives, beginning, brought}
use Rattle.pd_growth.specs.Growth.{receiver_bytes}
use Rattle.pd_growth.specs.Growing.{stock}
use Rattle.pd_growth.specs.Suits.{EntrySuits}
use Rattle.pd_regrowth_law.specs.Suits.{AnswersAlike}
use Rattle.pd_gather.specs.Gather.{Known, Asks, Gathered, Full, known, asked, Gathers, AnswersAll, GoesOn, AreProper}
use Rattle.pd_gather.specs.Steps.{LearnsOne, FillsTable}
use Rattle.pd_gather.specs.declared.boxes.Site.{Site}
use Rattle.pd_gather.specs.declared.boxes.Trial.{Trial}
use Rattle.pd_gather.specs.Boxes.{box_growth, root_box_growth, StopsSo, Tells}
use Rattle.pd_gather.proofs.SuitLemmas.{still_proper, still_found}
use Rattle.pd_gather.proofs.AskLemmas.{names_cut}
use Rattle.pd_gather.proofs.KnownLemmas.{learned_alike, library_of, first_entries, entry_suits}
use Rattle.pd_gather.proofs.GatherLemmas.{begun, one_more, one_too_many, comes_to, behind_on, behind_same}
use Rattle.pd_gather.proofs.WalkLemmas.{root_box, StandsAt, first_stand, next_stand, lacks_here, full_here, many_here, whole_here, stands_again}

-- The walk has come to a box. The present growth began with the names that are known since a file was learned last.
pub record IsUnderWay (holds now : Option (List FileRow)) (before faults : ℕ) (name : List ℕ) (p : Page) (first k : Known) (len at : ℕ) (supply : Supply) (es : List Element) : Type 0 where
  pub start : Names
  pub done : List Entry
  pub count : len ≡ length start
  pub split : elements_of p ≡ done ++ entries_of (drop at es)
  pub stands : StandsAt name k.files start done (stock k.names supply)
  pub gathers : Gathers holds name p first (asked name p (known k.files start))
  pub kept : now ≡ holds
  pub counted : before ≤ faults
  pub proper : IsProper start p
  pub found : AreProper start k.files
  pub table : IsTable start
  pub table_now : IsTable k.names
  pub behind : GoesOn first.files k.files
  pub extends : Extends first.names start
  pub more : Extends start k.names

-- All is gathered: these files, and this table of names.
pub record HasGathered (holds : Option (List FileRow)) (name : List ℕ) (p : Page) (first : Known) (files : List (ℕ × Answer)) (names : Names) : Type 0 where
  pub ok : Gathers holds name p first (Gathered (known files names))
  pub all : AnswersAll name p (known files names)
  pub found : AreProper names files
  pub extends : Extends first.names names

module _ (holds : Option (List FileRow)) (before : ℕ) (name : List ℕ) (p : Page) (first : Known) (es : List Element) where
  pub begins : (faults len : ℕ) (names : Names) (supply : Supply) → before ≤ faults → len ≡ length first.names → elements_of p ≡ entries_of es
      → brought (receiver_bytes name) (beginning first.names 1002) ≡ gives tt (stock names supply)
      → IsProper first.names p → AreProper first.names first.files → IsTable first.names → IsTable names → Extends first.names names
      → IsUnderWay holds holds before faults name p first (known first.files names) len 0 supply es
  begins faults len names supply counted count split b proper found table table_now more = record {
    start = first.names;
    done = [];
    count = count;
    split = split;
    stands = first_stand name first.files first.names (stock names supply) b;
    gathers = begun (asked name p) holds first;
    kept = refl;
    counted = counted;
    proper = proper;
    found = found;
    table = table;
    table_now = table_now;
    behind = behind_same first.files;
    extends = extends_same first.names;
    more = more;
  }

  module _ (now : Option (List FileRow)) (faults len at : ℕ) (files : List (ℕ × Answer)) (names : Names) (supply : Supply)
      (way : IsUnderWay holds now before faults name p first (known files names) len at supply es) where
    pub extends_now : Extends first.names names
    extends_now = extends_on first.names way.start names way.extends way.more

    pub found_now : AreProper names files
    found_now = still_found way.start names way.more way.table way.table_now files way.found

    gathered_now : asked name p (known files way.start) ≡ Gathered (known files way.start) → HasGathered holds name p first files way.start
    gathered_now all = record {
      ok = comes_to (asked name p) holds first (known files way.start) (Gathered (known files way.start)) way.gathers all;
      all = all;
      found = way.found;
      extends = way.extends;
    }

    gathered_with : (kept : Names) → kept ≡ take len names → asked name p (known files way.start) ≡ Gathered (known files way.start)
        → HasGathered holds name p first files kept
    gathered_with kept is all =
        subst (HasGathered holds name p first files) (sym (names_cut way.start names kept len way.more way.count is)) (gathered_now all)

    -- all boxes have grown
    pub whole : (kept : Names) → kept ≡ take len names → length es ≤ at → HasGathered holds name p first files kept
    whole kept is end =
        gathered_with kept is
        (whole_here name files way.start way.done (stock names supply) way.stands p
        (way.split ∙ ap (λ (xs : List Element). way.done ++ entries_of xs) (drop_all at es end) ∙ append-nil way.done))

    pub keeps_first : 6 ≤ len
    keeps_first = subst (λ n. 6 ≤ n) (sym way.count) (six_names way.start way.table)

    module _ (e : Element) (next : drop at es ≡ e ∷ drop (at + 1) es) where
      split_here : elements_of p ≡ way.done ++ entry_of e ∷ entries_of (drop (at + 1) es)
      split_here = way.split ∙ ap (λ (xs : List Element). way.done ++ entries_of xs) next

      -- what growing the box at the root's site tells
      pub told_here : (site : Site) → ((x : Entry) (s : Supply) (k : Known) → box_growth site x s k ≡ root_box_growth name x s k) → (t : Trial) (names2 : Names) (supply2 : Supply)
          → Tells t files names2 supply supply2 (box_growth site (entry_of e) supply (known files names))
          → Tells t files names2 supply supply2 (root_box name files (entry_of e) (stock names supply))
      told_here site grows t names2 supply2 h = subst (Tells t files names2 supply supply2) (grows (entry_of e) supply (known files names)) h

      -- the same where the trial is known
      pub told_as : (site : Site) → ((x : Entry) (s : Supply) (k : Known) → box_growth site x s k ≡ root_box_growth name x s k) → (t u : Trial) (names2 : Names) (supply2 : Supply)
          → t ≡ u → Tells t files names2 supply supply2 (box_growth site (entry_of e) supply (known files names))
          → Tells u files names2 supply supply2 (root_box name files (entry_of e) (stock names supply))
      told_as site grows t u names2 supply2 is h =
          told_here site grows u names2 supply2 (subst (λ (x : Trial). Tells x files names2 supply supply2 (box_growth site (entry_of e) supply (known files names))) is h)

      pub suits_now : EntrySuits names 255 (entry_of e)
      suits_now =
          entry_suits names p way.done (entries_of (drop (at + 1) es)) (entry_of e)
          (still_proper way.start names way.more way.table way.table_now p way.proper) split_here

      pub grows_on : (names2 : Names) (supply2 : Supply) (box : Trees) → Extends names names2 → IsTable names2
          → root_box name files (entry_of e) (stock names supply) ≡ gives box (stock names2 supply2)
          → IsUnderWay holds now before faults name p first (known files names2) len (at + 1) supply2 es
      grows_on names2 supply2 box x table grows = record {
        start = way.start;
        done = way.done ++ entry_of e ∷ [];
        count = way.count;
        split = split_here ∙ sym (append_assoc way.done (entry_of e ∷ []) (entries_of (drop (at + 1) es)));
        stands = next_stand name files way.start way.done (stock names supply) way.stands (entry_of e) box (stock names2 supply2) grows;
        gathers = way.gathers;
        kept = way.kept;
        counted = way.counted;
        proper = way.proper;
        found = way.found;
        table = way.table;
        table_now = table;
        behind = way.behind;
        extends = way.extends;
        more = extends_on way.start names names2 way.more x;
      }

      module _ (names2 : Names) where
        pub asks_here : (s : ℕ) → StopsSo (stop.Lacks s) names2 (root_box name files (entry_of e) (stock names supply))
            → asked name p (known files way.start) ≡ Asks s (known files names2)
        asks_here s h =
            lacks_here name files way.start way.done (stock names supply) way.stands p (entry_of e) (entries_of (drop (at + 1) es)) names2 split_here s h

        pub fills_here : StopsSo stop.SymbolsFull names2 (root_box name files (entry_of e) (stock names supply)) → Gathers holds name p first Full
        fills_here h =
            comes_to (asked name p) holds first (known files way.start) Full way.gathers
            (full_here name files way.start way.done (stock names supply) way.stands p (entry_of e) (entries_of (drop (at + 1) es)) names2 split_here h)

        pub fills_told : (site : Site) → ((x : Entry) (s : Supply) (k : Known) → box_growth site x s k ≡ root_box_growth name x s k)
            → StopsSo stop.SymbolsFull names2 (box_growth site (entry_of e) supply (known files names)) → Gathers holds name p first Full
        fills_told site grows h = fills_here (subst (StopsSo stop.SymbolsFull names2) (grows (entry_of e) supply (known files names)) h)

        pub stops_here : StopsSo stop.TooManyBoxes names2 (root_box name files (entry_of e) (stock names supply)) → Extends names names2
            → (kept : Names) → kept ≡ take len names2 → HasGathered holds name p first files kept
        stops_here h x kept is =
            subst (HasGathered holds name p first files)
            (sym (names_cut way.start names2 kept len (extends_on way.start names names2 way.more x) way.count is))
            (gathered_now (many_here name files way.start way.done (stock names supply) way.stands p (entry_of e) (entries_of (drop (at + 1) es)) names2 split_here h))

        pub fills_learning : (s : ℕ) → StopsSo (stop.Lacks s) names2 (root_box name files (entry_of e) (stock names supply))
            → FillsTable now s (known files names2) → Gathers holds name p first Full
        fills_learning s h fills =
            one_too_many (asked name p) holds first (known files way.start) s (known files names2) way.gathers (asks_here s h)
            (subst (λ o. FillsTable o s (known files names2)) way.kept fills)

        pub learns_on : (s : ℕ) (files3 : List (ℕ × Answer)) (names3 : Names) (now3 : Option (List FileRow)) (faults3 len3 : ℕ)
            → StopsSo (stop.Lacks s) names2 (root_box name files (entry_of e) (stock names supply)) → Extends names names2
            → LearnsOne now s (known files names2) (known files3 names3) → Extends names2 names3 → IsTable names3 → AreProper names3 files3
            → GoesOn files files3 → now3 ≡ now → faults ≤ faults3 → len3 ≡ length names3
            → IsUnderWay holds now3 before faults3 name p first (known files3 names3) len3 at supply es
        learns_on s files3 names3 now3 faults3 len3 h x learns x3 table found more kept counted count =
            let on = extends_on names names2 names3 x x3 in
            let up = extends_on way.start names names3 way.more on in
            let is : files3 ≡ files ++ (s, learns.answer) ∷ [] = ap (λ (k : Known). k.files) learns.learns in
            let early : before ≤ faults = way.counted in
            record {
              start = names3;
              done = way.done;
              count = count;
              split = way.split;
              stands =
                  stands_again name files way.start files3 names3 way.done (stock names supply)
                  (subst (λ (fs : List (ℕ × Answer)). AnswersAlike (answer_in files) (answer_in fs)) (sym is) (learned_alike files s learns.answer))
                  (library_of way.start files way.found) (first_entries way.start p way.done (entries_of (drop at es)) way.proper way.split) on way.stands;
              gathers =
                  one_more (asked name p) holds first (known files way.start) s (known files names2) (known files3 names3) way.gathers (asks_here s h)
                  (subst (λ o. LearnsOne o s (known files names2) (known files3 names3)) way.kept learns);
              kept = kept ∙ way.kept;
              counted = omega (arith, early, counted);
              proper = still_proper way.start names3 up way.table table p way.proper;
              found = found;
              table = table;
              table_now = table;
              behind = behind_on first.files files files3 way.behind more;
              extends = extends_on first.names way.start names3 way.extends up;
              more = extends_same names3;
            }
