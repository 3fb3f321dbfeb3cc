-- How files are read, documents refused, and patches opened.
use Rattle.std.proofs.Common.{◌≡◌, arith, ℕ, Bool, true, false, List, [], length, nat_le, refl, sym, ◌∙◌, ap, subst, Option, Some, None, Result, Ok, Err, IfSome, IfOk, IfErr, OnErr, inl, inr, if◌then◌else◌}
use Rattle.std.specs.Prelude.{◌≤◌, IsErrAnd}
use Rattle.pd_io.specs.Rows.{held_at, answer_of, handed_out, KeptOrUntold}
use Rattle.pd_io.specs.Stream.{TookPart, grown as lines_grown}
use Rattle.pd_io.specs.declared.files.FileRow.{FileRow}
use Rattle.pd_io.specs.declared.shelves.Fetched.{Fetched}
use Rattle.pd_io.specs.declared.shelves.Fetched.TheVariants as fetched
use Rattle.pd_io.specs.declared.shelves.TheConstants.{MAX_FILE}
use Rattle.pd_atom.specs.Names.{Names, first_names}
use Rattle.pd_canvas.specs.Pages.{Page}
use Rattle.pd_canvas.specs.declared.tree.Doc.{Doc}
use Rattle.pd_clock.specs.declared.times.Rate.{Rate}
use Rattle.pd_doc.specs.declared.refusal.DocRefusal.{DocRefusal}
use Rattle.pd_doc.specs.declared.refusal.DocRefusal.TheVariants as doc
use Rattle.pd_doc.specs.Reading.{document_of}
use Rattle.pd_doc.specs.Results.{Refuses}
use Rattle.pd_tree.specs.Trees.{Tree}
use Rattle.pd_growth.specs.declared.growing.Stop.TheVariants as stop
use Rattle.pd_growth.specs.Steps.{Step}
use Rattle.pd_gather.specs.declared.fetching.Fetch.TheVariants as fetch
use Rattle.pd_gather.specs.declared.refusal.GatherRefusal.{GatherRefusal}
use Rattle.pd_gather.specs.declared.refusal.GatherRefusal.TheVariants as gather
use Rattle.pd_gather.specs.Fetching.{given}
use Rattle.pd_gather.specs.Gather.{Known, Gathered, Full, known, Gathers, AnswersAll, growth, asked_by}
use Rattle.pd_made.specs.declared.tally.Tally.{Tally}
use Rattle.pd_made.specs.Tallies.{nothing}
use Rattle.pd_patch.specs.declared.patch.Patch.{Patch}
use Rattle.pd_patch.specs.declared.report.Remark.{Remark}
use Rattle.pd_patch.specs.declared.refusal.GrowRefusal.{GrowRefusal}
use Rattle.pd_patch.specs.declared.refusal.GrowRefusal.TheVariants as grow
use Rattle.pd_patch.specs.Grown.{Ends, HasCause}
use Rattle.pd_patch.specs.Report.{notices_in, loads_among}
use Rattle.pd_grove.specs.TextOrder.{keys_in_order}
use Rattle.pd_engine.specs.declared.engine.Engine.{Engine}
use Rattle.pd_engine.specs.declared.refusals.OpenRefusal.{OpenRefusal}
use Rattle.pd_engine.specs.declared.refusals.OpenRefusal.TheVariants.{Absent, Bad, ShelfFault, WriteFault, NoMemory}
use Rattle.pd_engine.specs.Refusals.{unread, ungathered, ungrown}
use Rattle.pd_stage.specs.Choices.{Base, Choice}
use Rattle.pd_stage.specs.Items.{Item, held_after}
use Rattle.pd_stage.specs.Stages.{Stage, Taken, faults_of, Passage, still, saying}
use Rattle.pd_stage.specs.Lawful.{held_behind, GoByFolder}
use Rattle.pd_stage.specs.Leads.{RoseBy, Sinks, sinks, Took, Comes, Stops}
use Rattle.pd_engine.specs.Stages.{stage_at}
use Rattle.pd_stage.specs.Events.{event, Loading}
use Rattle.pd_stage.specs.Times.{block_units}
use Rattle.pd_engine.proofs.ClockLemmas.{stage_with}
use Rattle.pd_engine.specs.Remarks.{remarks_text}
use Rattle.pd_engine.specs.Opening.{first_stage, loaded, opening, growth_of, Grows, Opens, IsUngathered, IsUngrown, IsRefused, text_read, IsUnreadText, IsUnread, Reads, OpensFile, IsFileRefused}
use Rattle.pd_stage.proofs.LeadLemmas.{leads_same, broke_same, comes_then, stops_first, stops_then, written_leads, written_breaks}

-- the shelf's answer to a fetch, and what it hands out
found_if : (t : Bool) (b bytes : List ℕ) → fetched.Found ≡ (if t then fetched.Found else fetched.TooLong) → bytes ≡ (if t then b else [])
    → fetch.Found bytes ≡ (if t then fetch.Found b else fetch.TooLong)
found_if true b bytes a h = ap (λ (x : List ℕ). fetch.Found x) h
found_if false b bytes a h = cc

found_given : (o : Option (List ℕ)) (bytes : List ℕ) → fetched.Found ≡ answer_of o → bytes ≡ handed_out o → fetch.Found bytes ≡ given o
found_given None bytes a h = cc
found_given (Some b) bytes a h = found_if (nat_le (length b) MAX_FILE) b bytes a h

pub found_held : (holds : Option (List FileRow)) (name bytes text : List ℕ) (a : Fetched) → a ≡ fetched.Found
    → IfSome holds (λ rows. a ≡ answer_of (held_at name rows)) → IfSome holds (λ rows. bytes ≡ handed_out (held_at name rows)) → text ≡ bytes
    → IfSome holds (λ rows. fetch.Found text ≡ given (held_at name rows))
found_held None name bytes text a found is h same = tt
found_held (Some rows) name bytes text a found is h same = found_given (held_at name rows) text (sym found ∙ is) (same ∙ h)

-- a text that reading refuses
pub text_refused : (r : DocRefusal) (d : Result (Page × Names) DocRefusal) → Refuses r d → IsUnreadText d (unread r)
text_refused (doc.BadRecord n) d h = ap text_read h
text_refused (doc.DataStructure n) d h = ap text_read h
text_refused (doc.TooDeep n) d h = ap text_read h
text_refused (doc.TooLong n) d h = ap text_read h
text_refused (doc.TooManyBoxes n) d h = ap text_read h
text_refused (doc.TooManyWires n) d h = ap text_read h
text_refused (doc.SymbolsFull n) d h = ap text_read h
text_refused doc.NoMemory d h = tt

-- a file whose text reading refuses
pub file_refused : (holds : Option (List FileRow)) (name : List ℕ) (names : Names) (bytes : List ℕ) (e : OpenRefusal)
    → IfSome holds (λ rows. fetch.Found bytes ≡ given (held_at name rows)) → IsUnreadText (document_of names bytes) e → IsUnread holds name names e
file_refused holds name names bytes Absent h r = absurd r
file_refused holds name names bytes (Bad n c) h r = record { file = fetch.Found bytes; held = h; reads = r }
file_refused holds name names bytes ShelfFault h r = tt
file_refused holds name names bytes WriteFault h r = r
file_refused holds name names bytes NoMemory h r = tt

pub file_reads : (holds : Option (List FileRow)) (name : List ℕ) (names names' : Names) (bytes : List ℕ) (r : Result Doc OpenRefusal)
    → IfSome holds (λ rows. fetch.Found bytes ≡ given (held_at name rows)) → IfOk r (λ doc. document_of names bytes ≡ Ok (doc.root, names'))
    → IfOk r (λ doc. Reads holds name names (Ok (doc.root, names')))
file_reads holds name names names' bytes (Ok d) h e = record { file = fetch.Found bytes; held = h; reads = ap text_read e }
file_reads holds name names names' bytes (Err x) h e = tt

pub file_unread : (holds : Option (List FileRow)) (name : List ℕ) (names : Names) (bytes : List ℕ) (r : Result Doc OpenRefusal)
    → IfSome holds (λ rows. fetch.Found bytes ≡ given (held_at name rows)) → IfErr r (IsUnreadText (document_of names bytes))
    → IfErr r (IsUnread holds name names)
file_unread holds name names bytes (Ok d) h u = tt
file_unread holds name names bytes (Err e) h u = file_refused holds name names bytes e h u

-- files that aren't gathered
pub gather_refused : (holds : Option (List FileRow)) (name : List ℕ) (d : Page) (names : Names) (r : GatherRefusal)
    → (r ≡ gather.SymbolsFull → Gathers holds name d (known [] names) Full) → IsUngathered holds name d names (ungathered r)
gather_refused holds name d names gather.ShelfFault f = tt
gather_refused holds name d names gather.SymbolsFull f = (refl, refl, f refl)
gather_refused holds name d names gather.NoMemory f = tt

-- once all files are gathered, growth finds room for its names
pub finds_room : (name : List ℕ) (d : Page) (k : Known) → AnswersAll name d k → Ends (growth_of name d k) stop.SymbolsFull → ⊥
unfolding growth
finds_room name d k all e =
    let full : Full ≡ Gathered k = subst (λ (s : Step Tree). asked_by k s.answer s.stock.names ≡ Gathered k) e.step all in cc

-- a document that doesn't grow
pub grow_refused : (s : Step Tree) (rate : Rate) (r : GrowRefusal) → (Ends s stop.SymbolsFull → ⊥) → HasCause r s rate → IsUngrown s rate (ungrown r)
grow_refused s rate grow.SymbolsFull none h = absurd (none h)
grow_refused s rate grow.TooManyBoxes none h = (refl, h)
grow_refused s rate grow.TooManyWires none h = (refl, h)
grow_refused s rate grow.TooMuchSound none h = (refl, h)
grow_refused s rate grow.NoMemory none h = tt

-- a patch that has grown stands at its first stage
pub begins_at : (file : List ℕ) (p : Patch) (names : Names) (base : Base) (time end : ℕ) (tally : Tally) → time ≡ 0 → end ≡ block_units → tally ≡ nothing
    → stage_with file p names base time end 0 tally ≡ first_stage file p names base
begins_at file p names base time end tally zero one none =
    ap (λ (t : ℕ). stage_with file p names base t end 0 tally) zero ∙ ap (λ (t : ℕ). stage_with file p names base 0 t 0 tally) one ∙ ap (λ (t : Tally). stage_with file p names base 0 block_units 0 t) none

-- nobody reads how many looks there were
took_unlooked : (t t' u : Option (List ℕ)) (k k' n : ℕ) (h h' : Option (List FileRow)) (f f' : ℕ) (items : List Item) (edits : List Taken) → Took (sinks t u k h f) (sinks t' u k' h' f') items edits
    → Took (sinks t u n h f) (sinks t' u n h' f') items edits
took_unlooked t t' u k k' n h h' f f' items edits a =
    record { lines_are = a.lines_are; samples_are = a.samples_are; few_looks = omega arith; held_are = a.held_are; leaves = a.leaves; few_faults = a.few_faults }

module _ (t t' u : Option (List ℕ)) (k k' n : ℕ) (h h' : Option (List FileRow)) (f f' : ℕ) where
  pub comes_unlooked : (part : Stage → Passage) (from to : List Choice → Stage) → Comes part from to (sinks t u k h f) (sinks t' u k' h' f') → Comes part from to (sinks t u n h f) (sinks t' u n h' f')
  comes_unlooked part from to a =
      record { items = a.items; edits = a.edits; same = a.same; took = took_unlooked t t' u k k' n h h' f f' a.items a.edits a.took; lawful = a.lawful; by_folder = a.by_folder }

  pub stops_unlooked : (part : Stage → Passage) (from : List Choice → Stage) → Stops part from (sinks t u k h f) (sinks t' u k' h' f') → Stops part from (sinks t u n h f) (sinks t' u n h' f')
  stops_unlooked part from a =
      record { items = a.items; edits = a.edits; begins = a.begins; took = took_unlooked t t' u k k' n h h' f f' a.items a.edits a.took; lawful = a.lawful; by_folder = a.by_folder }

-- lines are said, and then boxes are loaded
module _ (s s₂ : List Choice → Stage) (text boxes told : List ℕ) (t₁ t₂ u : Option (List ℕ)) (k : ℕ) (h : Option (List FileRow)) (f : ℕ) where
  abbrev loads : Stage → Passage
  loads x = event x (Loading boxes)

  module _ (z : Sinks) (is : t₂ ≡ lines_grown t₁ text) (same : told ≡ boxes) where
    pub loads_after : Comes (λ x. event x (Loading told)) s s₂ (sinks t₂ u k h f) z → Comes (λ x. loaded x text boxes) s s₂ (sinks t₁ u k h f) z
    loads_after c =
        comes_then (λ x. saying x text) loads s s s₂ (sinks t₁ u k h f) (sinks t₂ u k h f) z (written_leads s text t₁ t₂ u k h f is)
        (subst (λ (b : List ℕ). Comes (λ x. event x (Loading b)) s s₂ (sinks t₂ u k h f) z) same c)

    pub loads_torn : Stops (λ x. event x (Loading told)) s (sinks t₂ u k h f) z → Stops (λ x. loaded x text boxes) s (sinks t₁ u k h f) z
    loads_torn c =
        stops_then (λ x. saying x text) loads s s (sinks t₁ u k h f) (sinks t₂ u k h f) z (written_leads s text t₁ t₂ u k h f is)
        (subst (λ (b : List ℕ). Stops (λ x. event x (Loading b)) s (sinks t₂ u k h f) z) same c)

  pub loads_broken : TookPart t₁ t₂ text → Stops (λ x. loaded x text boxes) s (sinks t₁ u k h f) (sinks t₂ u k h f)
  loads_broken took = stops_first (λ x. saying x text) loads s (sinks t₁ u k h f) (sinks t₂ u k h f) (written_breaks s text t₁ t₂ u k h f took)

-- a count that rose from a greater number rose from a smaller one
rose_from : (n x y z : ℕ) → x ≤ y → RoseBy n y z → RoseBy n x z
rose_from n x y z low (inl k) = inl (omega (arith, low, k))
rose_from n x y z low (inr k) = inr k

-- a patch that has grown opens
module _ (holds : Option (List FileRow)) (name : List ℕ) (rate : Rate) (d : Page) (names : Names) (p : Patch) (table : Names) (base : Base) (remarks : List Remark) (boxes : List ℕ)
    (t t' : Option (List ℕ)) (h h' : Option (List FileRow)) (f g f' : ℕ) (same_folder : h ≡ holds) (still_same : h' ≡ h) (counted : f ≤ g)
    (grows : Grows holds name rate d names p table base) (notes : remarks ≡ notices_in p.grove p.web p.orders.items)
    (loads : boxes ≡ loads_among p.grove (keys_in_order p.grove)) where
  same : (s : Stage) → loaded s (remarks_text table p remarks) boxes ≡ opening p table s
  same s =
      ap (λ (x : List Remark). loaded s (remarks_text table p x) boxes) notes
      ∙ ap (λ (x : List ℕ). loaded s (remarks_text table p (notices_in p.grove p.web p.orders.items)) x) loads

  took_all : (samples : Option (List ℕ)) (looks : ℕ) (items : List Item) (edits : List Taken) → Took (sinks t samples looks h g) (sinks t' samples looks h' f') items edits
      → Took (sinks t samples looks holds f) (sinks t' samples looks holds f') items edits
  took_all samples looks items edits a = record {
    lines_are = a.lines_are;
    samples_are = a.samples_are;
    few_looks = a.few_looks;
    held_are = subst (λ (o : Option (List FileRow)). KeptOrUntold (held_after items o) o) same_folder (subst (λ (o : Option (List FileRow)). KeptOrUntold (held_after items h) o) still_same a.held_are);
    leaves = subst (λ (o : Option (List FileRow)). KeptOrUntold o (held_behind edits o)) same_folder (subst (λ (o : Option (List FileRow)). KeptOrUntold o (held_behind edits h)) still_same a.leaves);
    few_faults = rose_from (faults_of edits) f g f' counted a.few_faults;
  }

  all_go : (edits : List Taken) → GoByFolder h edits → GoByFolder holds edits
  all_go edits g = subst (λ (o : Option (List FileRow)). GoByFolder o edits) same_folder g

  pub opens_so : (r : Result Engine OpenRefusal)
      → IfOk r (λ e. (looks : ℕ) (samples : Option (List ℕ)) → Comes (λ s. loaded s (remarks_text table p remarks) boxes) (first_stage name p table base) (stage_at e) (sinks t samples looks h g) (sinks t' samples looks h' f'))
      → IfOk r (λ e. Opens holds name rate d names (stage_at e) t t' f f')
  opens_so (Ok e) says = record {
    patch = p;
    table = table;
    base = base;
    grows = grows;
    says = λ looks samples.
        let a : Comes (λ s. loaded s (remarks_text table p remarks) boxes) (first_stage name p table base) (stage_at e) (sinks t samples looks h g) (sinks t' samples looks h' f') = says looks samples in
        leads_same (λ m. loaded (first_stage name p table base m) (remarks_text table p remarks) boxes) (λ m. opening p table (first_stage name p table base m)) (λ m. still (stage_at e m)) _ _
        (λ m. sym (same (first_stage name p table base m)))
        (record { items = a.items; edits = a.edits; same = a.same; took = took_all samples looks a.items a.edits a.took; lawful = a.lawful; by_folder = all_go a.edits a.by_folder });
  }
  opens_so (Err e) says = tt

  pub breaks_so : (r : Result Engine OpenRefusal)
      → OnErr r ((looks : ℕ) (samples : Option (List ℕ)) → Stops (λ s. loaded s (remarks_text table p remarks) boxes) (first_stage name p table base) (sinks t samples looks h g) (sinks t' samples looks h' f'))
      → IfErr r (λ e. e ≡ WriteFault) → IfErr r (IsRefused holds name rate d names t t' f f')
  breaks_so (Ok e) took is = tt
  breaks_so (Err e) took is =
      inr (inr (record {
        patch = p;
        table = table;
        base = base;
        grows = grows;
        took = λ looks samples.
            let a : Stops (λ s. loaded s (remarks_text table p remarks) boxes) (first_stage name p table base) (sinks t samples looks h g) (sinks t' samples looks h' f') = took looks samples in
            broke_same (λ m. loaded (first_stage name p table base m) (remarks_text table p remarks) boxes) (λ m. opening p table (first_stage name p table base m)) _ _
            (λ m. sym (same (first_stage name p table base m)))
            (record { items = a.items; edits = a.edits; begins = a.begins; took = took_all samples looks a.items a.edits a.took; lawful = a.lawful; by_folder = all_go a.edits a.by_folder });
        is = is;
      }))

-- memory was wanting
pub short_ungrown : {T : Type 0} (s : Step Tree) (rate : Rate) (r : Result T OpenRefusal) → IsErrAnd r (λ e. e ≡ NoMemory) → IfErr r (IsUngrown s rate)
short_ungrown s rate (Ok e) h = absurd h
short_ungrown s rate (Err e) h = subst (λ (x : OpenRefusal). IsUngrown s rate x) (sym h) tt

-- ---- the file of a name was read before, and its shelf counted fewer faults then

module _ (holds held : Option (List FileRow)) (name : List ℕ) (rate : Rate) (first : Names) (d : Page) (names : Names) (t t' : Option (List ℕ)) (f g f' : ℕ)
    (same : held ≡ holds) (low : f ≤ g) (begins : first ≡ first_names) (reads : Reads holds name first (Ok (d, names))) where
  took_wider : (u : Option (List ℕ)) (k : ℕ) (h : Option (List FileRow)) (items : List Item) (edits : List Taken) → Took (sinks t u k h g) (sinks t' u k h f') items edits
      → Took (sinks t u k h f) (sinks t' u k h f') items edits
  took_wider u k h items edits a = record {
    lines_are = a.lines_are;
    samples_are = a.samples_are;
    few_looks = a.few_looks;
    held_are = a.held_are;
    leaves = a.leaves;
    few_faults = rose_from (faults_of edits) f g f' low a.few_faults;
  }

  opens_wider : (s : List Choice → Stage) → Opens holds name rate d names s t t' g f' → Opens holds name rate d names s t t' f f'
  opens_wider s o = record {
    patch = o.patch;
    table = o.table;
    base = o.base;
    grows = o.grows;
    says = λ looks samples.
        let a : Comes (opening o.patch o.table) (first_stage name o.patch o.table o.base) s (sinks t samples looks holds g) (sinks t' samples looks holds f') = o.says looks samples in
        record { items = a.items; edits = a.edits; same = a.same; took = took_wider samples looks holds a.items a.edits a.took; lawful = a.lawful; by_folder = a.by_folder };
  }

  refused_wider : (e : OpenRefusal) → IsRefused holds name rate d names t t' g f' e → IsRefused holds name rate d names t t' f f' e
  refused_wider e (inl h) = inl h
  refused_wider e (inr (inl h)) = inr (inl h)
  refused_wider e (inr (inr h)) =
      inr (inr (record {
        patch = h.patch;
        table = h.table;
        base = h.base;
        grows = h.grows;
        took = λ looks samples.
            let a : Stops (opening h.patch h.table) (first_stage name h.patch h.table h.base) (sinks t samples looks holds g) (sinks t' samples looks holds f') = h.took looks samples in
            record { items = a.items; edits = a.edits; begins = a.begins; took = took_wider samples looks holds a.items a.edits a.took; lawful = a.lawful; by_folder = a.by_folder };
        is = h.is;
      }))

  read_first : Reads holds name first_names (Ok (d, names))
  read_first = subst (λ (n : Names). Reads holds name n (Ok (d, names))) begins reads

  pub opens_file : (r : Result Engine OpenRefusal) → IfOk r (λ e. Opens held name rate d names (stage_at e) t t' g f') → IfOk r (λ e. OpensFile holds name rate (stage_at e) t t' f f')
  opens_file (Ok e) o = record {
    document = d;
    names = names;
    reads = read_first;
    opens = opens_wider (stage_at e) (subst (λ (h : Option (List FileRow)). Opens h name rate d names (stage_at e) t t' g f') same o);
  }
  opens_file (Err e) o = tt

  pub refuses_file : (r : Result Engine OpenRefusal) → IfErr r (IsRefused held name rate d names t t' g f') → IfErr r (IsFileRefused holds name rate t t' f f')
  refuses_file (Ok e) h = tt
  refuses_file (Err e) h = inr (record {
    document = d;
    names = names;
    reads = read_first;
    refused = refused_wider e (subst (λ (x : Option (List FileRow)). IsRefused x name rate d names t t' g f' e) same h);
  })
