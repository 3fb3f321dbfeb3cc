use Rattle.std.proofs.Common.{◌≡◌, refl, ℕ, List, Option, subst, IfOk, OnErr}
use Rattle.pd_gather.specs.Gather.{Known, known}
use Rattle.pd_gather.proofs.SuitLemmas.{still_found}
use Rattle.pd_patch.specs.declared.patch.Patch.{Patch}
use Rattle.pd_patch.specs.Grown.{IsTree}
use Rattle.pd_adding.specs.Counted.{AreCounted}
use Rattle.pd_stage.specs.Choices.{base_of}
use Rattle.pd_stage.specs.Leads.{sinks, Comes, Stops}
use Rattle.pd_engine.specs.Opening.{growth_of, Grows, loaded, first_stage}
use Rattle.pd_engine.specs.Remarks.{remarks_text}
use Rattle.pd_engine.specs.Stages.{stage_at}
use Rattle.pd_engine.proofs.FreshLemmas.{can_put}
use Rattle.pd_engine.proofs.OpeningLemmas.{opens_so, breaks_so}
use Rattle.pd_engine.proofs.opening.open_document.Goals as goal

pub grow_counted-requires-clause-proper : goal.grow_counted-requires-clause-proper
grow_counted-requires-clause-proper g c =
    c.proper_extended.ensures c.args.symbols c.gather_all.new.symbols c.args.doc.root c.gather_all.ensures.extends c.len-names.ensures.table c.len-names-2.ensures.table c.requires.proper

pub returns-clause-opens : goal.returns-clause-opens
returns-clause-opens g c =
    let p : Patch = c.in_ok-patch.patch in
    let k : Known = known c.gather_all.new.library c.gather_all.new.symbols in
    let tree : IsTree p c.grow_counted.new.symbols c.args.rate (growth_of c.args.name.now c.args.doc.root k) = c.in_ok-patch.ensures.tree in
    let counted : (a : AreCounted c.in_ok-patch.counts p) × (a.tree ≡ tree.tree) = c.in_ok-patch.ensures.counted tree in
    let grows : Grows (g.H.Shelf.holds c.args.shelf.now) c.args.name.now c.args.rate c.args.doc.root c.args.symbols p c.grow_counted.new.symbols (base_of c.gather_all.new.library c.in_ok-patch.counts) = record {
      files = k;
      gathers = c.in_ok-gather_all.ensures.gathers;
      table = c.len-names-2.ensures.table;
      proper = c.proper_extended.ensures c.args.symbols c.gather_all.new.symbols c.args.doc.root c.gather_all.ensures.extends c.len-names.ensures.table c.len-names-2.ensures.table c.requires.proper;
      found = c.gather_all.ensures.found;
      tree = tree;
      fresh = c.in_ok-patch.ensures.fresh;
      first = record { files_are = refl; counted = counted.0; tree_is = counted.1; within = c.in_ok-patch.ensures.within };
    } in
    opens_so (g.H.Shelf.holds c.args.shelf.now) c.args.name.now c.args.rate c.args.doc.root c.args.symbols c.in_ok-patch.patch c.grow_counted.new.symbols (base_of c.gather_all.new.library c.in_ok-patch.counts)
    c.in_ok-patch.report.notices.items c.in_ok-patch.report.fresh.items (g.L.Sink.taken c.args.lines.now) (g.L.Sink.taken c.begin.new.lines)
    (g.H.Shelf.holds c.gather_all.new.shelf) (g.H.Shelf.holds c.begin.new.shelf) (g.H.Shelf.faults c.args.shelf.now) (g.H.Shelf.faults c.gather_all.new.shelf) (g.H.Shelf.faults c.begin.new.shelf)
    c.gather_all.ensures.kept c.begin.ensures.kept c.gather_all.ensures.causes.folder_counted grows
    c.in_ok-patch.ensures.notices c.in_ok-patch.ensures.loads c.begin.result
    (subst
    (λ (n : List ℕ). IfOk c.begin.result (λ e. (looks : ℕ) (samples : Option (List ℕ)) → Comes (λ s. loaded s (remarks_text c.grow_counted.new.symbols c.in_ok-patch.patch c.in_ok-patch.report.notices.items) c.in_ok-patch.report.fresh.items)
    (first_stage n c.in_ok-patch.patch c.grow_counted.new.symbols (base_of c.gather_all.new.library c.in_ok-patch.counts)) (stage_at e) (sinks (g.L.Sink.taken c.args.lines.now) samples looks (g.H.Shelf.holds c.gather_all.new.shelf) (g.H.Shelf.faults c.gather_all.new.shelf)) (sinks (g.L.Sink.taken c.begin.new.lines) samples looks (g.H.Shelf.holds c.begin.new.shelf) (g.H.Shelf.faults c.begin.new.shelf))))
    c.requires.file c.begin.ensures.ok)

pub returns-clause-refused : goal.returns-clause-refused
returns-clause-refused g c =
    let p : Patch = c.in_ok-patch.patch in
    let k : Known = known c.gather_all.new.library c.gather_all.new.symbols in
    let tree : IsTree p c.grow_counted.new.symbols c.args.rate (growth_of c.args.name.now c.args.doc.root k) = c.in_ok-patch.ensures.tree in
    let counted : (a : AreCounted c.in_ok-patch.counts p) × (a.tree ≡ tree.tree) = c.in_ok-patch.ensures.counted tree in
    let grows : Grows (g.H.Shelf.holds c.args.shelf.now) c.args.name.now c.args.rate c.args.doc.root c.args.symbols p c.grow_counted.new.symbols (base_of c.gather_all.new.library c.in_ok-patch.counts) = record {
      files = k;
      gathers = c.in_ok-gather_all.ensures.gathers;
      table = c.len-names-2.ensures.table;
      proper = c.proper_extended.ensures c.args.symbols c.gather_all.new.symbols c.args.doc.root c.gather_all.ensures.extends c.len-names.ensures.table c.len-names-2.ensures.table c.requires.proper;
      found = c.gather_all.ensures.found;
      tree = tree;
      fresh = c.in_ok-patch.ensures.fresh;
      first = record { files_are = refl; counted = counted.0; tree_is = counted.1; within = c.in_ok-patch.ensures.within };
    } in
    breaks_so (g.H.Shelf.holds c.args.shelf.now) c.args.name.now c.args.rate c.args.doc.root c.args.symbols c.in_ok-patch.patch c.grow_counted.new.symbols (base_of c.gather_all.new.library c.in_ok-patch.counts)
    c.in_ok-patch.report.notices.items c.in_ok-patch.report.fresh.items (g.L.Sink.taken c.args.lines.now) (g.L.Sink.taken c.begin.new.lines)
    (g.H.Shelf.holds c.gather_all.new.shelf) (g.H.Shelf.holds c.begin.new.shelf) (g.H.Shelf.faults c.args.shelf.now) (g.H.Shelf.faults c.gather_all.new.shelf) (g.H.Shelf.faults c.begin.new.shelf)
    c.gather_all.ensures.kept c.begin.ensures.kept c.gather_all.ensures.causes.folder_counted grows
    c.in_ok-patch.ensures.notices c.in_ok-patch.ensures.loads c.begin.result
    (subst
    (λ (n : List ℕ). OnErr c.begin.result ((looks : ℕ) (samples : Option (List ℕ)) → Stops (λ s. loaded s (remarks_text c.grow_counted.new.symbols c.in_ok-patch.patch c.in_ok-patch.report.notices.items) c.in_ok-patch.report.fresh.items)
    (first_stage n c.in_ok-patch.patch c.grow_counted.new.symbols (base_of c.gather_all.new.library c.in_ok-patch.counts)) (sinks (g.L.Sink.taken c.args.lines.now) samples looks (g.H.Shelf.holds c.gather_all.new.shelf) (g.H.Shelf.faults c.gather_all.new.shelf)) (sinks (g.L.Sink.taken c.begin.new.lines) samples looks (g.H.Shelf.holds c.begin.new.shelf) (g.H.Shelf.faults c.begin.new.shelf))))
    c.requires.file c.begin.ensures.err) c.begin.ensures.fault

pub begin-requires-clause-can : goal.begin-requires-clause-can
begin-requires-clause-can g c =
    can_put c.in_ok-patch.patch c.grow_counted.new.symbols c.args.name.now c.args.rate (growth_of c.args.name.now c.args.doc.root (known c.gather_all.new.library c.gather_all.new.symbols)) c.in_ok-patch.ensures.tree c.in_ok-patch.ensures.fresh
    c.putting_asks_alike.ensures.own (c.what_grows_is_built.ensures.built c.in_ok-patch.patch c.grow_counted.new.symbols c.args.name.now c.args.rate c.in_ok-patch.ensures.fresh)

pub begin-requires-clause-counted : goal.begin-requires-clause-counted
begin-requires-clause-counted g c = (c.in_ok-patch.ensures.counted c.in_ok-patch.ensures.tree).0.wires

pub begin-requires-clause-found : goal.begin-requires-clause-found
begin-requires-clause-found g c =
    still_found c.gather_all.new.symbols c.grow_counted.new.symbols c.grow_counted.ensures.extends c.len-names-2.ensures.table c.len-names-3.ensures.table c.gather_all.new.library c.gather_all.ensures.found
