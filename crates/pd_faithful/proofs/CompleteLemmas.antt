-- A patch that can be played by a script is played to its end, but where memory is short.
use Rattle.std.proofs.Common.{◌≡◌, ◌<◌, ◌≤◌, ◌⊎◌, inl, inr, ℕ, List, [], ◌∷◌, ◌++◌, Option, Some, None, Result, Ok, Err, refl, sym, ap, subst, ◌∙◌, arith}
use Rattle.std.proofs.lemmas.List.{append-nil}
use Rattle.std.specs.Prelude.{IfSome}
use Rattle.pd_io.specs.Faults.{Rose}
use Rattle.pd_io.specs.declared.files.FileRow.{FileRow}
use Rattle.pd_atom.specs.Names.{Names, first_names}
use Rattle.pd_canvas.specs.Pages.{Page}
use Rattle.pd_clock.specs.declared.times.Rate.{Rate}
use Rattle.pd_clock.specs.Rates.{samples}
use Rattle.pd_feed.specs.Script.{script_of}
use Rattle.pd_tree.specs.Trees.{Tree}
use Rattle.pd_fit.specs.Fitting.{wires_fitting}
use Rattle.pd_growth.specs.declared.growing.Stop.{Stop}
use Rattle.pd_growth.specs.Steps.{Stock, Step, gives, ends}
use Rattle.pd_gather.specs.declared.fetching.Fetch.{Fetch}
use Rattle.pd_gather.specs.Gather.{Known, Gathering, Asks, Gathered, Full, known, asked, after, gathered, AreHeld, Gathers}
use Rattle.pd_library.specs.Files.{answer_in}
use Rattle.pd_made.specs.Documents.{made_document}
use Rattle.pd_made.specs.Scripts.{made_script}
use Rattle.pd_made_growth_law.specs.Grows.{GrowsSmall}
use Rattle.pd_patch.specs.Sounds.{sound_of}
use Rattle.pd_words.specs.Grammar.{Asked}
use Rattle.pd_again_law.specs.Runs.opening
use Rattle.pd_again_law.specs.Runs.cause
use Rattle.pd_again_law.specs.Runs.{OpenRefusal, BadCause, Reads, Grows, growth_of, file_read, Stops, IsUngathered, IsUngrown, IsRefused, IsUnread, IsFileRefused, Stage, Taken, choices_of, AreLawful, GoByFolder, Sinks, opened_by, free_ways}
use Rattle.pd_play.specs.Causes.{HasCauses}
use Rattle.pd_play.specs.Ending.{no_line, opened_as}
use Rattle.pd_play.specs.Made.{made_names, summary_line}
use Rattle.pd_play.specs.Refusing.{IsMadeRefusal}
use Rattle.pd_play.specs.Telling.{told, Answers}
use Rattle.pd_play.specs.Runs.{Run, Ending, Whole, Broken}
use Rattle.pd_play.specs.Patches.{start, Tells, IsScript, Refuses, RefusesBy}
use Rattle.pd_play.specs.declared.status.Status.{Status}
use Rattle.pd_play.specs.declared.status.Status.TheVariants.{Done, ShelfFault, WriteFault, NoMemory}
use Rattle.pd_faithful.specs.Scripts.{played_by}
use Rattle.pd_play.proofs.MadeLemmas.{never_rose}
use Rattle.pd_play.proofs.WordLemmas.{IsFew}
use Rattle.pd_faithful.specs.Whole.{PlaysFreely, PlaysMadeFreely, PlaysByFreely, PlaysAskedFreely}
use Rattle.pd_faithful.specs.Complete.{GrowsWithin, IsPlayable, NoneRose, CanEnd, Completes}
use Rattle.pd_faithful.proofs.MadeLemmas.{MadeLaws, script_done, own_names, gathers_none}

-- ---- what is held gives one answer

reads_same : (rows : List FileRow) (name : List ℕ) (names : Names) (r s : Result (Page × Names) OpenRefusal)
    → Reads (Some rows) name names r → Reads (Some rows) name names s → r ≡ s
reads_same rows name names r s a b = sym a.reads ∙ ap (file_read names) (a.held ∙ sym b.held) ∙ b.reads

-- gathering is over
abbrev IsOver : Gathering → Type 0
IsOver (Asks s k) = ⊥
IsOver (Gathered k) = Unit {0}
IsOver Full = Unit {0}

gathered_same : (name : List ℕ) (p : Page) (rows : List FileRow) (fs hs : List Fetch) (g a b : Gathering) → AreHeld (asked name p) rows fs g → AreHeld (asked name p) rows hs g
    → gathered (asked name p) fs g ≡ a → gathered (asked name p) hs g ≡ b → IsOver a → IsOver b → a ≡ b
gathered_same name p rows [] [] g a b h k e d x y = sym e ∙ d
gathered_same name p rows [] (f ∷ hs) (Asks s n) a b h k e d x y = absurd (subst (λ (z : Gathering). IsOver z) (sym e) x)
gathered_same name p rows [] (f ∷ hs) (Gathered n) a b h k e d x y = absurd k.0
gathered_same name p rows [] (f ∷ hs) Full a b h k e d x y = absurd k.0
gathered_same name p rows (f ∷ fs) [] (Asks s n) a b h k e d x y = absurd (subst (λ (z : Gathering). IsOver z) (sym d) y)
gathered_same name p rows (f ∷ fs) [] (Gathered n) a b h k e d x y = absurd h.0
gathered_same name p rows (f ∷ fs) [] Full a b h k e d x y = absurd h.0
gathered_same name p rows (f ∷ fs) (j ∷ hs) (Asks s n) a b h k e d x y =
    let same : j ≡ f = k.0 ∙ sym h.0 in
    gathered_same name p rows fs hs (after (asked name p) f (Asks s n)) a b h.1 (subst (λ (z : Fetch). AreHeld (asked name p) rows hs (after (asked name p) z (Asks s n))) same k.1) e
    (subst (λ (z : Fetch). gathered (asked name p) hs (after (asked name p) z (Asks s n)) ≡ b) same d) x y
gathered_same name p rows (f ∷ fs) (j ∷ hs) (Gathered n) a b h k e d x y = absurd h.0
gathered_same name p rows (f ∷ fs) (j ∷ hs) Full a b h k e d x y = absurd h.0

gathers_same : (rows : List FileRow) (name : List ℕ) (p : Page) (k : Known) (a b : Gathering) → IsOver a → IsOver b → Gathers (Some rows) name p k a
    → Gathers (Some rows) name p k b → a ≡ b
gathers_same rows name p k a b x y h j = gathered_same name p rows h.fetches j.fetches (asked name p k) a b h.held j.held h.comes j.comes x y

-- ---- projections

abbrev read_in : Page × Names → Result (Page × Names) OpenRefusal → Page × Names
read_in x (Ok r) = r
read_in x (Err e) = x

abbrev known_in : Known → Gathering → Known
known_in k (Asks s n) = k
known_in k (Gathered n) = n
known_in k Full = k

abbrev tree_in : Tree → Result Tree Stop → Tree
tree_in t (Ok r) = r
tree_in t (Err e) = t

-- growth that gives a tree doesn't end before
never_ends : (s : Step Tree) (t : Tree) (w v : Stock) (e : Stop) → s ≡ gives t w → s ≡ ends e v → ⊥
never_ends s t w v e h k =
    let no : ◌≡◌ {A = Result Tree Stop} (Ok t) (Err e) = ap (λ (x : Step Tree). x.answer) (sym h ∙ k) in
    cc

one_tree : (s : Step Tree) (t u : Tree) (w v : Stock) → s ≡ gives t w → s ≡ gives u v → t ≡ u
one_tree s t u w v h k = ap (λ (x : Step Tree). tree_in t x.answer) (sym h ∙ k)

too_many : (a b limit : ℕ) → a ≡ b → a ≤ limit → limit < b → ⊥
too_many a b limit e h k = omega arith

-- ---- a patch that can be played is refused for a fault or for memory alone

abbrev IsFree : OpenRefusal → Type 0
IsFree e = (e ≡ opening.ShelfFault) ⊎ ((e ≡ opening.WriteFault) ⊎ (e ≡ opening.NoMemory))

-- growth that gives a tree within the limits
module _ (step : Step Tree) (tree : Tree) (stock : Stock) (rate : Rate) (grows : step ≡ gives tree stock) (few_wires : wires_fitting tree.sheet tree.boxes ≤ 65536)
    (few_values : sound_of rate tree.boxes ≤ 16777216) where
  never_stops : (c : BadCause) → Stops step rate c → ⊥
  never_stops cause.BadRecord h = h
  never_stops cause.DataStructure h = h
  never_stops cause.TooDeep h = h
  never_stops cause.TooLong h = h
  never_stops cause.TooManyBoxes h = never_ends step tree stock h.after _ grows h.step
  never_stops cause.TooManyWires h =
      too_many (wires_fitting tree.sheet tree.boxes) (wires_fitting h.tree.sheet h.tree.boxes) 65536
      (ap (λ (t : Tree). wires_fitting t.sheet t.boxes) (one_tree step tree h.tree stock h.after grows h.step)) few_wires h.many
  never_stops cause.TooMuchSound h =
      too_many (sound_of rate tree.boxes) (sound_of rate h.tree.boxes) 16777216
      (ap (λ (t : Tree). sound_of rate t.boxes) (one_tree step tree h.tree stock h.after grows h.step)) few_values h.much
  never_stops cause.SymbolsFull h = h

  ungrown_free : (e : OpenRefusal) → IsUngrown step rate e → IsFree e
  ungrown_free opening.Absent h = absurd h
  ungrown_free (opening.Bad n c) h = absurd (never_stops c h.1)
  ungrown_free opening.ShelfFault h = absurd h
  ungrown_free opening.WriteFault h = absurd h
  ungrown_free opening.NoMemory h = inr (inr refl)

ungathered_free : (rows : List FileRow) (name : List ℕ) (rate : Rate) (d : Page) (names : Names) (w : GrowsWithin rows name rate d names) (e : OpenRefusal)
    → IsUngathered (Some rows) name d names e → IsFree e
ungathered_free rows name rate d names w opening.Absent h = absurd h
ungathered_free rows name rate d names w (opening.Bad n c) h =
    let no : Full ≡ Gathered w.files = gathers_same rows name d (known [] names) Full (Gathered w.files) tt tt h.2 w.gathers in
    absurd (cc)
ungathered_free rows name rate d names w opening.ShelfFault h = inl refl
ungathered_free rows name rate d names w opening.WriteFault h = absurd h
ungathered_free rows name rate d names w opening.NoMemory h = inr (inr refl)

refused_free : (rows : List FileRow) (name : List ℕ) (rate : Rate) (d : Page) (names : Names) (t t' : Option (List ℕ)) (f f' : ℕ) (w : GrowsWithin rows name rate d names)
    (e : OpenRefusal) → IsRefused (Some rows) name rate d names t t' f f' e → IsFree e
refused_free rows name rate d names t t' f f' w e (inl h) = ungathered_free rows name rate d names w e h
refused_free rows name rate d names t t' f f' w e (inr (inl h)) =
    let same : Gathered h.files ≡ Gathered w.files = gathers_same rows name d (known [] names) (Gathered h.files) (Gathered w.files) tt tt h.gathers w.gathers in
    ungrown_free (growth_of name d w.files) w.tree w.after rate w.step w.few_wires w.few_values e
    (subst (λ (k : Known). IsUngrown (growth_of name d k) rate e) (ap (λ (g : Gathering). known_in h.files g) same) h.ungrown)
refused_free rows name rate d names t t' f f' w e (inr (inr h)) = inr (inl h.is)

unread_free : (rows : List FileRow) (name : List ℕ) (r : Page × Names) (e : OpenRefusal) → Reads (Some rows) name first_names (Ok r)
    → IsUnread (Some rows) name first_names e → IsFree e
unread_free rows name r opening.Absent a h =
    let no : Ok r ≡ Err opening.Absent = reads_same rows name first_names (Ok r) (Err opening.Absent) a h in
    absurd (cc)
unread_free rows name r (opening.Bad n c) a h =
    let no : Ok r ≡ Err (opening.Bad n c) = reads_same rows name first_names (Ok r) (Err (opening.Bad n c)) a h in
    absurd (cc)
unread_free rows name r opening.ShelfFault a h = inl refl
unread_free rows name r opening.WriteFault a h = absurd h
unread_free rows name r opening.NoMemory a h = inr (inr refl)

-- the document that is read is one
one_document : (rows : List FileRow) (name : List ℕ) (r s : Page × Names) → Reads (Some rows) name first_names (Ok r) → Reads (Some rows) name first_names (Ok s) → s ≡ r
one_document rows name r s a b = ap (read_in r) (reads_same rows name first_names (Ok s) (Ok r) b a)

file_free : (rows : List FileRow) (name : List ℕ) (rate : Rate) (script : List ℕ) (t t' : Option (List ℕ)) (f f' : ℕ) (e : OpenRefusal) → IsPlayable rows name rate script
    → IsFileRefused (Some rows) name rate t t' f f' e → IsFree e
file_free rows name rate script t t' f f' e p (inl h) = unread_free rows name (p.document, p.names) e p.reads h
file_free rows name rate script t t' f f' e p (inr h) =
    let same : ◌≡◌ {A = Page × Names} (h.document, h.names) (p.document, p.names) =
    one_document rows name (p.document, p.names) (h.document, h.names) p.reads h.reads in
    refused_free rows name rate p.document p.names t t' f f' p.within e
    (subst (λ (r : Page × Names). IsRefused (Some rows) name rate r.0 r.1 t t' f f' e) same h.refused)

-- ---- a made patch is refused for a fault or for memory alone

module _ (n : ℕ) (name : List ℕ) (rate : Rate) (few : n ≤ 1000) (grows : GrowsSmall (answer_in []) name n) where
  made_ungathered : (holds : Option (List FileRow)) (e : OpenRefusal) → IsUngathered holds name (made_document made_names n) made_names e → IsFree e
  made_ungathered holds opening.Absent h = absurd h
  made_ungathered holds (opening.Bad k c) h = let no : Full ≡ Gathered own_names = gathers_none holds name n Full grows h.2 in absurd (cc)
  made_ungathered holds opening.ShelfFault h = inl refl
  made_ungathered holds opening.WriteFault h = absurd h
  made_ungathered holds opening.NoMemory h = inr (inr refl)

  made_free : (holds : Option (List FileRow)) (t t' : Option (List ℕ)) (f f' : ℕ) (e : OpenRefusal) → IsRefused holds name rate (made_document made_names n) made_names t t' f f' e
      → IsFree e
  made_free holds t t' f f' e (inl h) = made_ungathered holds e h
  made_free holds t t' f f' e (inr (inl h)) =
      let same : Gathered h.files ≡ Gathered own_names = gathers_none holds name n (Gathered h.files) grows h.gathers in
      let wires = grows.few_wires in
      let none = grows.no_values rate in
      ungrown_free (growth_of name (made_document made_names n) own_names) grows.tree grows.after rate grows.step (omega (arith, few, wires)) (omega (arith, none)) e
      (subst (λ (k : Known). IsUngrown (growth_of name (made_document made_names n) k) rate e) (ap (λ (g : Gathering). known_in h.files g) same) h.ungrown)
  made_free holds t t' f f' e (inr (inr h)) = inr (inl h.is)

-- ---- how the run ends

told_free : (name : List ℕ) (why status : Status) (t t' : Option (List ℕ)) (x y : ℕ) (e : OpenRefusal) → why ≡ opened_as e → IsFree e
    → (status ≡ ShelfFault → ⊥) → (status ≡ WriteFault → ⊥) → Answers (told name why) status t t' x y → status ≡ NoMemory
told_free name why status t t' x y e is (inl h) f g (inl a) = absurd (f (a.0 ∙ is ∙ ap opened_as h))
told_free name why status t t' x y e is (inr (inl h)) f g (inl a) = absurd (g (a.0 ∙ is ∙ ap opened_as h))
told_free name why status t t' x y e is (inr (inr h)) f g (inl a) = a.0 ∙ is ∙ ap opened_as h
told_free name why status t t' x y e is h f g (inr a) = absurd (g a.0)

-- the run is done where its edits are lawful by what was held
ends_done : (holds : Option (List FileRow)) (name : List ℕ) (closing : Stage → List ℕ) (ending : Ending) (bytes script : List ℕ) (left' : Option (List ℕ)) (read read' : ℕ) (run : Ending → List ℕ → Run) (edits : List Taken) (status : Status) (old new : Sinks)
    → IsScript ending bytes (Some script) left' read read' → (Rose read read' → ⊥) → (status ≡ WriteFault → ⊥) → AreLawful edits → GoByFolder holds edits
    → (AreLawful (run Whole script).passage.edits → GoByFolder holds (run Whole script).passage.edits → (run Whole script).status ≡ Done) → Tells name closing (run ending bytes) edits status old new → status ≡ Done
ends_done holds name closing Whole bytes script left' read read' run edits status old new is f g lawful by_folder d (inl h) =
    let all : (run Whole script).passage.edits ≡ edits =
    sym (append-nil (run Whole script).passage.edits) ∙ ap (λ (b : List ℕ). (run Whole b).passage.edits ++ []) is ∙ h.edits_are in
    h.status_is ∙ ap (λ (b : List ℕ). (run Whole b).status) (sym is) ∙ d (subst (λ (l : List Taken). AreLawful l) (sym all) lawful) (subst (λ (l : List Taken). GoByFolder holds l) (sym all) by_folder)
ends_done holds name closing Whole bytes script left' read read' run edits status old new is f g lawful by_folder d (inr h) = absurd (g h.status_is)
ends_done holds name closing Broken bytes script left' read read' run edits status old new is f g lawful by_folder d h = absurd (f is.1)

either_not : (P Q : Type 0) → (P → ⊥) → (Q → ⊥) → P ⊎ Q → ⊥
either_not P Q f g (inl h) = f h
either_not P Q f g (inr h) = g h

module _ (rows : List FileRow) (name : List ℕ) (rate : Rate) (script : List ℕ) (left' : Option (List ℕ)) (status : Status) (folder folder' read read' x x' y y' : ℕ)
    (old new : Sinks) (holds : old.held ≡ Some rows) (p : IsPlayable rows name rate script) (none : NoneRose folder folder' read read' x x' y y')
    (causes : HasCauses folder folder' read read' x x' y y' status) where
  no_shelf : status ≡ ShelfFault → ⊥
  no_shelf e = none.folder_stays (causes.shelf e)

  no_write : status ≡ WriteFault → ⊥
  no_write e = either_not (Rose x x') (Rose y y') none.lines_stay none.samples_stay (causes.write e)

  refused_short : Refuses name rate status (Some script) left' x x' old new → status ≡ NoMemory
  refused_short h =
      told_free name h.why status h.printed new.lines x x' h.refused.refusal h.refused.status_is
      (file_free rows name rate script old.lines h.printed old.faults new.faults h.refused.refusal p
      (subst (λ (o : Option (List FileRow)). IsFileRefused o name rate old.lines h.printed old.faults new.faults h.refused.refusal) holds h.refused.refused)) no_shelf no_write h.tells

  played_done : PlaysFreely name rate status (Some script) left' read read' old new → status ≡ Done
  played_done h =
      let reads : Reads (Some rows) name first_names (Ok (h.document, h.names)) = subst (λ (o : Option (List FileRow)). Reads o name first_names (Ok (h.document, h.names))) holds h.reads in
      let held : Grows (Some rows) name rate h.document h.names h.plays.patch h.plays.table h.plays.base = subst (λ (o : Option (List FileRow)). Grows o name rate h.document h.names h.plays.patch h.plays.table h.plays.base) holds h.plays.grows in
      let same : ◌≡◌ {A = Page × Names} (h.document, h.names) (p.document, p.names) =
      one_document rows name (p.document, p.names) (h.document, h.names) p.reads reads in
      let grows : Grows (Some rows) name rate p.document p.names h.plays.patch h.plays.table h.plays.base =
      subst (λ (r : Page × Names). Grows (Some rows) name rate r.0 r.1 h.plays.patch h.plays.table h.plays.base) same held in
      ends_done (Some rows) name no_line h.plays.ending h.plays.bytes script left' read read' (λ ending bytes. played_by free_ways name h.plays.patch h.plays.table h.plays.base (choices_of h.plays.edits) (samples rate) ending (script_of 0 0 bytes)) h.plays.edits status
      old new h.plays.is_script none.script_stays no_write h.plays.lawful
      (subst (λ (o : Option (List FileRow)). GoByFolder o h.plays.edits) holds h.plays.by_folder) (p.commands h.plays.patch h.plays.table h.plays.base (choices_of h.plays.edits) grows) h.plays.tells

  either_done : Refuses name rate status (Some script) left' x x' old new ⊎ PlaysFreely name rate status (Some script) left' read read' old new → (status ≡ Done) ⊎ (status ≡ NoMemory)
  either_done (inl h) = inr (refused_short h)
  either_done (inr h) = inl (played_done h)

-- a made patch is played to its end
module _ (laws : MadeLaws) (n : ℕ) (name : List ℕ) (rate : Rate) (few : n ≤ 1000) (status : Status) (folder folder' read read' x x' y y' : ℕ) (old new : Sinks)
    (none : NoneRose folder folder' read read' x x' y y') (causes : HasCauses folder folder' read read' x x' y y' status) where
  made_no_write : status ≡ WriteFault → ⊥
  made_no_write e = either_not (Rose x x') (Rose y y') none.lines_stay none.samples_stay (causes.write e)

  made_short : RefusesBy (IsMadeRefusal n old.held name rate) name status None None x x' old new → status ≡ NoMemory
  made_short h =
      told_free name h.why status h.printed new.lines x x' h.refused.refusal h.refused.status_is
      (made_free n name rate few (laws.grows (answer_in []) name n few) old.held old.lines h.printed old.faults new.faults h.refused.refusal h.refused.refused) (λ e. none.folder_stays (causes.shelf e)) made_no_write h.tells

  made_done : (left' : Option (List ℕ)) → PlaysMadeFreely n name rate status left' old new → status ≡ Done
  made_done left' h =
      let run : Ending → List ℕ → Run = λ ending bytes. played_by free_ways name h.patch h.table h.base (choices_of h.edits) (samples rate) ending (script_of 0 0 bytes) in
      ends_done old.held name (summary_line n) h.ending h.bytes (made_script n) left' 0 0 run h.edits status old new h.is_script never_rose made_no_write h.lawful h.by_folder
      (λ _ _. script_done free_ways laws n (start (opened_by free_ways name h.patch h.table h.base (choices_of h.edits)).stage (samples rate)) few refl) h.tells

  made_either : RefusesBy (IsMadeRefusal n old.held name rate) name status None None x x' old new ⊎ ((left' : Option (List ℕ)) × PlaysMadeFreely n name rate status left' old new)
      → (status ≡ Done) ⊎ (status ≡ NoMemory)
  made_either (inl h) = inr (made_short h)
  made_either (inr (left', h)) = inl (made_done left' h)

by_done : (make : Option ℕ) → MadeLaws → IsFew make → (name : List ℕ) (rate : Rate) (left left' : Option (List ℕ)) (status : Status) (folder folder' read read' x x' y y' : ℕ) (old new : Sinks)
    → CanEnd make old.held name rate left → NoneRose folder folder' read read' x x' y y' → HasCauses folder folder' read read' x x' y y' status
    → PlaysByFreely make name rate status left left' read read' x x' old new → (status ≡ Done) ⊎ (status ≡ NoMemory)
by_done None laws few name rate left left' status folder folder' read read' x x' y y' old new can none causes h =
    either_done can.rows name rate can.script left' status folder folder' read read' x x' y y' old new can.held can.playable none causes
    (subst (λ (o : Option (List ℕ)). PlaysByFreely None name rate status o left' read read' x x' old new) can.told h)
by_done (Some n) laws few name rate left left' status folder folder' read read' x x' y y' old new can none causes h =
    made_either laws n name rate few status folder folder' read read' x x' y y' old new none causes h

pub completes : (o : Option Asked) → MadeLaws → IfSome o (λ a. IsFew a.make) → (left left' : Option (List ℕ)) (status : Status) (folder folder' read read' x x' y y' : ℕ) (old new : Sinks)
    → PlaysAskedFreely o status left left' read read' x x' old new → HasCauses folder folder' read read' x x' y y' status
    → Completes o old.held left status folder folder' read read' x x' y y'
completes None laws few left left' status folder folder' read read' x x' y y' old new h causes = tt
completes (Some a) laws few left left' status folder folder' read read' x x' y y' old new h causes = λ rate same can none.
    by_done a.make laws few a.patch rate left left' status folder folder' read read' x x' y y' old new can none causes (h rate same)
