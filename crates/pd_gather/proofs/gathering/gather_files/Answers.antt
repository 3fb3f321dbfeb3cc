use Rattle.std.proofs.Common.{◌≡◌, ℕ, ◌+◌, ◌<◌, ◌≤◌, List, ◌∷◌, get_or, drop, length, rules, sym, ap, ◌∙◌, subst, arith}
use Rattle.std.proofs.lemmas.List.{drop_more}
use Rattle.pd_canvas.specs.declared.tree.Element.{Element}
use Rattle.pd_canvas.specs.Views.{entry_of}
use Rattle.pd_doc.proofs.ResultLemmas.{extends_on}
use Rattle.pd_growth.specs.declared.growing.Stop.TheVariants as stop
use Rattle.pd_growth.specs.declared.supply.Supply.{Supply}
use Rattle.pd_growth.specs.Steps.{Stock, gives, ends, with_names, beginning, brought}
use Rattle.pd_growth.specs.Growth.{receiver_bytes}
use Rattle.pd_growth.specs.Suits.{EntrySuits}
use Rattle.pd_gather.specs.Gather.{Full, known, asked}
use Rattle.pd_gather.specs.Steps.{FillsTable}
use Rattle.pd_gather.specs.Boxes.{box_growth, StopsSo}
use Rattle.pd_gather.proofs.GatherLemmas.{begun, comes_to, behind_on}
use Rattle.pd_gather.proofs.WalkLemmas.{full_at_name}
use Rattle.pd_gather.proofs.WayLemmas.{IsUnderWay, begins, found_now, suits_now, extends_now, told_as, keeps_first, grows_on, learns_on, fills_told, fills_learning, stops_here, whole}
use Rattle.pd_gather.proofs.gathering.gather_files.Goals as goal
use Rattle.pd_gather.proofs.gathering.gather_files.Goals.{in-Grown, in-Lacks+in_ok-learn-in-Lacks}

next_box : (es : List Element) (at : ℕ) (e : Element) → at < length es → e ≡ get_or es at e → drop at es ≡ e ∷ drop (at + 1) es
next_box es at e l is = drop_more es at e l ∙ ap (λ (x : Element). x ∷ drop (at + 1) es) (sym is)

pub loop-at-init : goal.loop-at-init
loop-at-init g c =
    begins (g.H.Shelf.holds c.args.shelf.now) (g.H.Shelf.faults c.args.shelf.now) c.args.name.now c.args.doc.now.root (known c.args.files.now c.args.symbols.now)
    c.elements-boxes.result.now (g.H.Shelf.faults c.args.shelf.now) c.len-names.result c.bring_receiver.new.symbols c.new-supply.result (omega arith)
    c.len-names.ensures.value (sym c.elements-boxes.ensures.elements)
    (c.in_ok-bring_receiver.ensures.brought (beginning c.args.symbols.now 1002) ∙ ap (λ (w : Stock). gives tt w) (sym (c.new-supply.ensures c.bring_receiver.new.symbols)))
    c.requires.proper c.requires.found c.len-names.ensures.table c.len-brought.ensures.table c.bring_receiver.ensures.extends

pub try_box-requires-clause-found : goal.try_box-requires-clause-found
try_box-requires-clause-found g c =
    found_now (g.H.Shelf.holds c.args.shelf.now) (g.H.Shelf.faults c.args.shelf.now) c.args.name.now c.args.doc.now.root (known c.args.files.now c.args.symbols.now)
    c.elements-boxes.result.now (g.H.Shelf.holds c.loop-at.shelf) (g.H.Shelf.faults c.loop-at.shelf) c.loop-at.names c.loop-at.at c.loop-at.files c.loop-at.symbols
    c.loop-at.supply c.loop-at.invariant

pub try_box-requires-clause-element : goal.try_box-requires-clause-element
try_box-requires-clause-element g c =
    let next = next_box c.elements-boxes.result.now c.loop-at.at c.index-boxes-at.result c.loop-at-test.true c.index-boxes-at.is in
    subst (λ n. EntrySuits c.loop-at.symbols n (entry_of c.index-boxes-at.result)) (sym c.root_site-site.ensures.left)
    (suits_now (g.H.Shelf.holds c.args.shelf.now) (g.H.Shelf.faults c.args.shelf.now) c.args.name.now c.args.doc.now.root (known c.args.files.now c.args.symbols.now)
    c.elements-boxes.result.now (g.H.Shelf.holds c.loop-at.shelf) (g.H.Shelf.faults c.loop-at.shelf) c.loop-at.names c.loop-at.at c.loop-at.files c.loop-at.symbols
    c.loop-at.supply c.loop-at.invariant c.index-boxes-at.result next)

pub try_box-requires-clause-scope : goal.try_box-requires-clause-scope
try_box-requires-clause-scope g c =
    c.root_site-site.ensures.suits c.loop-at.symbols

pub learn-requires-clause-unknown : goal.learn-requires-clause-unknown
learn-requires-clause-unknown g c =
    let next = next_box c.elements-boxes.result.now c.loop-at.at c.index-boxes-at.result c.loop-at-test.true c.index-boxes-at.is in
    let told = told_as (g.H.Shelf.holds c.args.shelf.now) (g.H.Shelf.faults c.args.shelf.now) c.args.name.now c.args.doc.now.root (known c.args.files.now c.args.symbols.now)
    c.elements-boxes.result.now (g.H.Shelf.holds c.loop-at.shelf) (g.H.Shelf.faults c.loop-at.shelf) c.loop-at.names c.loop-at.at c.loop-at.files c.loop-at.symbols
    c.loop-at.supply c.loop-at.invariant c.index-boxes-at.result next c.root_site-site.result c.root_site-site.ensures.grows c.in_ok-lacked.field-0 _
    c.try_box.new.symbols c.try_box.new.supply c.in-Lacks.is c.in_ok-lacked.ensures.tells in
    told.2

pub learn-requires-clause-found : goal.learn-requires-clause-found
learn-requires-clause-found g c =
    c.in_ok-lacked.ensures.found

pub cut_back-requires : goal.cut_back-requires
cut_back-requires g c =
    keeps_first (g.H.Shelf.holds c.args.shelf.now) (g.H.Shelf.faults c.args.shelf.now) c.args.name.now c.args.doc.now.root (known c.args.files.now c.args.symbols.now)
    c.elements-boxes.result.now (g.H.Shelf.holds c.loop-at.shelf) (g.H.Shelf.faults c.loop-at.shelf) c.loop-at.names c.loop-at.at c.loop-at.files c.loop-at.symbols
    c.loop-at.supply c.loop-at.invariant

pub cut_back-requires-2 : goal.cut_back-requires-2
cut_back-requires-2 g c =
    keeps_first (g.H.Shelf.holds c.args.shelf.now) (g.H.Shelf.faults c.args.shelf.now) c.args.name.now c.args.doc.now.root (known c.args.files.now c.args.symbols.now)
    c.elements-boxes.result.now (g.H.Shelf.holds c.loop-at.shelf) (g.H.Shelf.faults c.loop-at.shelf) c.loop-at.names c.loop-at.at c.loop-at.files c.loop-at.symbols
    c.loop-at.supply c.loop-at.invariant

pub loop-at-preserved-after-branch-3 : goal.loop-at-preserved-after-branch-3
loop-at-preserved-after-branch-3 g c =
    let next = next_box c.elements-boxes.result.now c.loop-at.at c.index-boxes-at.result c.loop-at-test.true c.index-boxes-at.is in
    elim c.match-branch-3.branch [
      | in-Grown w ↦ rw (w.files-is, w.shelf-is, w.symbols-is, w.names-is, w.at-is) (
          let told = told_as (g.H.Shelf.holds c.args.shelf.now) (g.H.Shelf.faults c.args.shelf.now) c.args.name.now c.args.doc.now.root (known c.args.files.now c.args.symbols.now)
          c.elements-boxes.result.now (g.H.Shelf.holds c.loop-at.shelf) (g.H.Shelf.faults c.loop-at.shelf) c.loop-at.names c.loop-at.at c.loop-at.files c.loop-at.symbols
          c.loop-at.supply c.loop-at.invariant c.index-boxes-at.result next c.root_site-site.result c.root_site-site.ensures.grows c.in_ok-lacked.field-0 _
          c.try_box.new.symbols c.try_box.new.supply w.in-Grown.is c.in_ok-lacked.ensures.tells in
          grows_on (g.H.Shelf.holds c.args.shelf.now) (g.H.Shelf.faults c.args.shelf.now) c.args.name.now c.args.doc.now.root (known c.args.files.now c.args.symbols.now)
          c.elements-boxes.result.now (g.H.Shelf.holds c.loop-at.shelf) (g.H.Shelf.faults c.loop-at.shelf) c.loop-at.names c.loop-at.at c.loop-at.files c.loop-at.symbols
          c.loop-at.supply c.loop-at.invariant c.index-boxes-at.result next c.try_box.new.symbols c.try_box.new.supply told.boxes c.in_ok-lacked.ensures.extends c.in_ok-lacked.ensures.table told.step)
      | in-Lacks+in_ok-learn-in-Lacks w ↦ rw (w.files-is, w.shelf-is, w.symbols-is, w.names-is, w.at-is) (
          let told = told_as (g.H.Shelf.holds c.args.shelf.now) (g.H.Shelf.faults c.args.shelf.now) c.args.name.now c.args.doc.now.root (known c.args.files.now c.args.symbols.now)
          c.elements-boxes.result.now (g.H.Shelf.holds c.loop-at.shelf) (g.H.Shelf.faults c.loop-at.shelf) c.loop-at.names c.loop-at.at c.loop-at.files c.loop-at.symbols
          c.loop-at.supply c.loop-at.invariant c.index-boxes-at.result next c.root_site-site.result c.root_site-site.ensures.grows c.in_ok-lacked.field-0 _
          c.try_box.new.symbols c.try_box.new.supply w.in-Lacks.is c.in_ok-lacked.ensures.tells in
          subst (λ (s : Supply). IsUnderWay (g.H.Shelf.holds c.args.shelf.now) (g.H.Shelf.holds w.learn.new.shelf) (g.H.Shelf.faults c.args.shelf.now) (g.H.Shelf.faults w.learn.new.shelf) c.args.name.now c.args.doc.now.root (known c.args.files.now c.args.symbols.now)
          (known w.learn.new.files w.learn.new.symbols) w.len-names-in-Lacks.result c.loop-at.at s c.elements-boxes.result.now) (sym told.1)
          (learns_on (g.H.Shelf.holds c.args.shelf.now) (g.H.Shelf.faults c.args.shelf.now) c.args.name.now c.args.doc.now.root (known c.args.files.now c.args.symbols.now)
          c.elements-boxes.result.now (g.H.Shelf.holds c.loop-at.shelf) (g.H.Shelf.faults c.loop-at.shelf) c.loop-at.names c.loop-at.at c.loop-at.files c.loop-at.symbols
          c.loop-at.supply c.loop-at.invariant c.index-boxes-at.result next c.try_box.new.symbols w.in-Lacks.lacked w.learn.new.files w.learn.new.symbols (g.H.Shelf.holds w.learn.new.shelf) (g.H.Shelf.faults w.learn.new.shelf)
          w.len-names-in-Lacks.result told.0 c.in_ok-lacked.ensures.extends w.in_ok-learn-in-Lacks.ensures.learns w.in_ok-learn-in-Lacks.ensures.extends w.in_ok-learn-in-Lacks.ensures.table
          w.in_ok-learn-in-Lacks.ensures.found w.in_ok-learn-in-Lacks.ensures.behind w.in_ok-learn-in-Lacks.ensures.kept w.in_ok-learn-in-Lacks.ensures.counted w.len-names-in-Lacks.ensures.value))
    ]

pub loop-at-preserved : goal.loop-at-preserved
loop-at-preserved g c =
    let next = next_box c.elements-boxes.result.now c.loop-at.at c.index-boxes-at.result c.loop-at-test.true c.index-boxes-at.is in
    elim c.match-branch-3.branch [
      | in-Grown w ↦ rw (w.files-is, w.shelf-is, w.symbols-is, w.names-is, w.at-is) (
          let told = told_as (g.H.Shelf.holds c.args.shelf.now) (g.H.Shelf.faults c.args.shelf.now) c.args.name.now c.args.doc.now.root (known c.args.files.now c.args.symbols.now)
          c.elements-boxes.result.now (g.H.Shelf.holds c.loop-at.shelf) (g.H.Shelf.faults c.loop-at.shelf) c.loop-at.names c.loop-at.at c.loop-at.files c.loop-at.symbols
          c.loop-at.supply c.loop-at.invariant c.index-boxes-at.result next c.root_site-site.result c.root_site-site.ensures.grows c.in_ok-lacked.field-0 _
          c.try_box.new.symbols c.try_box.new.supply w.in-Grown.is c.in_ok-lacked.ensures.tells in
          grows_on (g.H.Shelf.holds c.args.shelf.now) (g.H.Shelf.faults c.args.shelf.now) c.args.name.now c.args.doc.now.root (known c.args.files.now c.args.symbols.now)
          c.elements-boxes.result.now (g.H.Shelf.holds c.loop-at.shelf) (g.H.Shelf.faults c.loop-at.shelf) c.loop-at.names c.loop-at.at c.loop-at.files c.loop-at.symbols
          c.loop-at.supply c.loop-at.invariant c.index-boxes-at.result next c.try_box.new.symbols c.try_box.new.supply told.boxes c.in_ok-lacked.ensures.extends c.in_ok-lacked.ensures.table told.step)
      | in-Lacks+in_ok-learn-in-Lacks w ↦ rw (w.files-is, w.shelf-is, w.symbols-is, w.names-is, w.at-is) (
          let told = told_as (g.H.Shelf.holds c.args.shelf.now) (g.H.Shelf.faults c.args.shelf.now) c.args.name.now c.args.doc.now.root (known c.args.files.now c.args.symbols.now)
          c.elements-boxes.result.now (g.H.Shelf.holds c.loop-at.shelf) (g.H.Shelf.faults c.loop-at.shelf) c.loop-at.names c.loop-at.at c.loop-at.files c.loop-at.symbols
          c.loop-at.supply c.loop-at.invariant c.index-boxes-at.result next c.root_site-site.result c.root_site-site.ensures.grows c.in_ok-lacked.field-0 _
          c.try_box.new.symbols c.try_box.new.supply w.in-Lacks.is c.in_ok-lacked.ensures.tells in
          subst (λ (s : Supply). IsUnderWay (g.H.Shelf.holds c.args.shelf.now) (g.H.Shelf.holds w.learn.new.shelf) (g.H.Shelf.faults c.args.shelf.now) (g.H.Shelf.faults w.learn.new.shelf) c.args.name.now c.args.doc.now.root (known c.args.files.now c.args.symbols.now)
          (known w.learn.new.files w.learn.new.symbols) w.len-names-in-Lacks.result c.loop-at.at s c.elements-boxes.result.now) (sym told.1)
          (learns_on (g.H.Shelf.holds c.args.shelf.now) (g.H.Shelf.faults c.args.shelf.now) c.args.name.now c.args.doc.now.root (known c.args.files.now c.args.symbols.now)
          c.elements-boxes.result.now (g.H.Shelf.holds c.loop-at.shelf) (g.H.Shelf.faults c.loop-at.shelf) c.loop-at.names c.loop-at.at c.loop-at.files c.loop-at.symbols
          c.loop-at.supply c.loop-at.invariant c.index-boxes-at.result next c.try_box.new.symbols w.in-Lacks.lacked w.learn.new.files w.learn.new.symbols (g.H.Shelf.holds w.learn.new.shelf) (g.H.Shelf.faults w.learn.new.shelf)
          w.len-names-in-Lacks.result told.0 c.in_ok-lacked.ensures.extends w.in_ok-learn-in-Lacks.ensures.learns w.in_ok-learn-in-Lacks.ensures.extends w.in_ok-learn-in-Lacks.ensures.table
          w.in_ok-learn-in-Lacks.ensures.found w.in_ok-learn-in-Lacks.ensures.behind w.in_ok-learn-in-Lacks.ensures.kept w.in_ok-learn-in-Lacks.ensures.counted w.len-names-in-Lacks.ensures.value))
    ]

pub loop-at-smaller-after-branch-3 : goal.loop-at-smaller-after-branch-3
loop-at-smaller-after-branch-3 g c =
    let test = c.loop-at-test.true in
    elim c.match-branch-3.branch [
      | in-Grown w ↦ rw (w.files-is, w.at-is) (omega (arith, test))
      | in-Lacks+in_ok-learn-in-Lacks w ↦ rw (w.files-is, w.at-is) (omega (arith, test, w.in_ok-learn-in-Lacks.ensures.longer, w.in_ok-learn-in-Lacks.ensures.few))
    ]

pub loop-at-smaller : goal.loop-at-smaller
loop-at-smaller g c =
    let test = c.loop-at-test.true in
    elim c.match-branch-3.branch [
      | in-Grown w ↦ rw (w.files-is, w.at-is) (omega (arith, test))
      | in-Lacks+in_ok-learn-in-Lacks w ↦ rw (w.files-is, w.at-is) (omega (arith, test, w.in_ok-learn-in-Lacks.ensures.longer, w.in_ok-learn-in-Lacks.ensures.few))
    ]

pub returns-in_err-bring_receiver-clause-full : goal.returns-in_err-bring_receiver-clause-full
returns-in_err-bring_receiver-clause-full g c =
    λ h.
    let first = (known c.args.files.now c.args.symbols.now) in
    let full : (w : Stock) → brought (receiver_bytes c.args.name.now) (with_names c.args.symbols.now w) ≡ ends stop.SymbolsFull (with_names c.bring_receiver.new.symbols w) = search rules in
    comes_to (asked c.args.name.now c.args.doc.now.root) (g.H.Shelf.holds c.args.shelf.now) first first Full (begun (asked c.args.name.now c.args.doc.now.root) (g.H.Shelf.holds c.args.shelf.now) first)
    (full_at_name c.args.name.now c.args.doc.now.root c.args.files.now c.args.symbols.now _ (full (beginning c.args.symbols.now 1002)))

pub returns-in_err-lacked-clause-full : goal.returns-in_err-lacked-clause-full
returns-in_err-lacked-clause-full g c =
    λ h.
    let next = next_box c.elements-boxes.result.now c.loop-at.at c.index-boxes-at.result c.loop-at-test.true c.index-boxes-at.is in
    let full : StopsSo stop.SymbolsFull c.try_box.new.symbols (box_growth c.root_site-site.result (entry_of c.index-boxes-at.result) c.loop-at.supply (known c.loop-at.files c.loop-at.symbols)) = search rules in
    fills_told (g.H.Shelf.holds c.args.shelf.now) (g.H.Shelf.faults c.args.shelf.now) c.args.name.now c.args.doc.now.root (known c.args.files.now c.args.symbols.now)
    c.elements-boxes.result.now (g.H.Shelf.holds c.loop-at.shelf) (g.H.Shelf.faults c.loop-at.shelf) c.loop-at.names c.loop-at.at c.loop-at.files c.loop-at.symbols
    c.loop-at.supply c.loop-at.invariant c.index-boxes-at.result next c.try_box.new.symbols c.root_site-site.result c.root_site-site.ensures.grows full

pub returns-in_err-lacked-clause-kept : goal.returns-in_err-lacked-clause-kept
returns-in_err-lacked-clause-kept g c =
    c.loop-at.invariant.kept

pub returns-in_err-lacked-clause-counted : goal.returns-in_err-lacked-clause-counted
returns-in_err-lacked-clause-counted g c =
    c.loop-at.invariant.counted

pub returns-in_err-lacked-clause-behind : goal.returns-in_err-lacked-clause-behind
returns-in_err-lacked-clause-behind g c =
    c.loop-at.invariant.behind

pub returns-in_err-lacked-clause-extends : goal.returns-in_err-lacked-clause-extends
returns-in_err-lacked-clause-extends g c =
    extends_on c.args.symbols.now c.loop-at.symbols c.try_box.new.symbols (extends_now (g.H.Shelf.holds c.args.shelf.now) (g.H.Shelf.faults c.args.shelf.now) c.args.name.now c.args.doc.now.root (known c.args.files.now c.args.symbols.now)
    c.elements-boxes.result.now (g.H.Shelf.holds c.loop-at.shelf) (g.H.Shelf.faults c.loop-at.shelf) c.loop-at.names c.loop-at.at c.loop-at.files c.loop-at.symbols
    c.loop-at.supply c.loop-at.invariant) c.in_err-lacked.ensures.extends

pub returns-in_err-learn-in-Lacks-clause-full : goal.returns-in_err-learn-in-Lacks-clause-full
returns-in_err-learn-in-Lacks-clause-full g c =
    λ h.
    let next = next_box c.elements-boxes.result.now c.loop-at.at c.index-boxes-at.result c.loop-at-test.true c.index-boxes-at.is in
    let told = told_as (g.H.Shelf.holds c.args.shelf.now) (g.H.Shelf.faults c.args.shelf.now) c.args.name.now c.args.doc.now.root (known c.args.files.now c.args.symbols.now)
    c.elements-boxes.result.now (g.H.Shelf.holds c.loop-at.shelf) (g.H.Shelf.faults c.loop-at.shelf) c.loop-at.names c.loop-at.at c.loop-at.files c.loop-at.symbols
    c.loop-at.supply c.loop-at.invariant c.index-boxes-at.result next c.root_site-site.result c.root_site-site.ensures.grows c.in_ok-lacked.field-0 _
    c.try_box.new.symbols c.try_box.new.supply c.in-Lacks.is c.in_ok-lacked.ensures.tells in
    let fills : FillsTable (g.H.Shelf.holds c.loop-at.shelf) c.in-Lacks.lacked (known c.loop-at.files c.try_box.new.symbols) = search rules in
    fills_learning (g.H.Shelf.holds c.args.shelf.now) (g.H.Shelf.faults c.args.shelf.now) c.args.name.now c.args.doc.now.root (known c.args.files.now c.args.symbols.now)
    c.elements-boxes.result.now (g.H.Shelf.holds c.loop-at.shelf) (g.H.Shelf.faults c.loop-at.shelf) c.loop-at.names c.loop-at.at c.loop-at.files c.loop-at.symbols
    c.loop-at.supply c.loop-at.invariant c.index-boxes-at.result next c.try_box.new.symbols c.in-Lacks.lacked told.0 fills

pub returns-in_err-learn-in-Lacks-clause-kept : goal.returns-in_err-learn-in-Lacks-clause-kept
returns-in_err-learn-in-Lacks-clause-kept g c =
    c.in_err-learn-in-Lacks.ensures.kept ∙ c.loop-at.invariant.kept

pub returns-in_err-learn-in-Lacks-clause-counted : goal.returns-in_err-learn-in-Lacks-clause-counted
returns-in_err-learn-in-Lacks-clause-counted g c =
    let a = c.loop-at.invariant.counted in let b = c.in_err-learn-in-Lacks.ensures.counted in omega (arith, a, b)

pub returns-in_err-learn-in-Lacks-clause-behind : goal.returns-in_err-learn-in-Lacks-clause-behind
returns-in_err-learn-in-Lacks-clause-behind g c =
    behind_on c.args.files.now c.loop-at.files c.learn.new.files c.loop-at.invariant.behind c.in_err-learn-in-Lacks.ensures.behind

pub returns-in_err-learn-in-Lacks-clause-extends : goal.returns-in_err-learn-in-Lacks-clause-extends
returns-in_err-learn-in-Lacks-clause-extends g c =
    extends_on c.args.symbols.now c.try_box.new.symbols c.learn.new.symbols
    (extends_on c.args.symbols.now c.loop-at.symbols c.try_box.new.symbols (extends_now (g.H.Shelf.holds c.args.shelf.now) (g.H.Shelf.faults c.args.shelf.now) c.args.name.now c.args.doc.now.root (known c.args.files.now c.args.symbols.now)
    c.elements-boxes.result.now (g.H.Shelf.holds c.loop-at.shelf) (g.H.Shelf.faults c.loop-at.shelf) c.loop-at.names c.loop-at.at c.loop-at.files c.loop-at.symbols
    c.loop-at.supply c.loop-at.invariant) c.in_ok-lacked.ensures.extends) c.in_err-learn-in-Lacks.ensures.extends

pub returns-in-TooMany-clause-ok : goal.returns-in-TooMany-clause-ok
returns-in-TooMany-clause-ok g c =
    let next = next_box c.elements-boxes.result.now c.loop-at.at c.index-boxes-at.result c.loop-at-test.true c.index-boxes-at.is in
    let told = told_as (g.H.Shelf.holds c.args.shelf.now) (g.H.Shelf.faults c.args.shelf.now) c.args.name.now c.args.doc.now.root (known c.args.files.now c.args.symbols.now)
    c.elements-boxes.result.now (g.H.Shelf.holds c.loop-at.shelf) (g.H.Shelf.faults c.loop-at.shelf) c.loop-at.names c.loop-at.at c.loop-at.files c.loop-at.symbols
    c.loop-at.supply c.loop-at.invariant c.index-boxes-at.result next c.root_site-site.result c.root_site-site.ensures.grows c.in_ok-lacked.field-0 _
    c.try_box.new.symbols c.try_box.new.supply c.in-TooMany.is c.in_ok-lacked.ensures.tells in
    (stops_here (g.H.Shelf.holds c.args.shelf.now) (g.H.Shelf.faults c.args.shelf.now) c.args.name.now c.args.doc.now.root (known c.args.files.now c.args.symbols.now)
    c.elements-boxes.result.now (g.H.Shelf.holds c.loop-at.shelf) (g.H.Shelf.faults c.loop-at.shelf) c.loop-at.names c.loop-at.at c.loop-at.files c.loop-at.symbols
    c.loop-at.supply c.loop-at.invariant c.index-boxes-at.result next c.try_box.new.symbols told.0 c.in_ok-lacked.ensures.extends c.cut_back.new.self c.cut_back.ensures.kept).ok

pub returns-in-TooMany-clause-all : goal.returns-in-TooMany-clause-all
returns-in-TooMany-clause-all g c =
    let next = next_box c.elements-boxes.result.now c.loop-at.at c.index-boxes-at.result c.loop-at-test.true c.index-boxes-at.is in
    let told = told_as (g.H.Shelf.holds c.args.shelf.now) (g.H.Shelf.faults c.args.shelf.now) c.args.name.now c.args.doc.now.root (known c.args.files.now c.args.symbols.now)
    c.elements-boxes.result.now (g.H.Shelf.holds c.loop-at.shelf) (g.H.Shelf.faults c.loop-at.shelf) c.loop-at.names c.loop-at.at c.loop-at.files c.loop-at.symbols
    c.loop-at.supply c.loop-at.invariant c.index-boxes-at.result next c.root_site-site.result c.root_site-site.ensures.grows c.in_ok-lacked.field-0 _
    c.try_box.new.symbols c.try_box.new.supply c.in-TooMany.is c.in_ok-lacked.ensures.tells in
    (stops_here (g.H.Shelf.holds c.args.shelf.now) (g.H.Shelf.faults c.args.shelf.now) c.args.name.now c.args.doc.now.root (known c.args.files.now c.args.symbols.now)
    c.elements-boxes.result.now (g.H.Shelf.holds c.loop-at.shelf) (g.H.Shelf.faults c.loop-at.shelf) c.loop-at.names c.loop-at.at c.loop-at.files c.loop-at.symbols
    c.loop-at.supply c.loop-at.invariant c.index-boxes-at.result next c.try_box.new.symbols told.0 c.in_ok-lacked.ensures.extends c.cut_back.new.self c.cut_back.ensures.kept).all

pub returns-in-TooMany-clause-found : goal.returns-in-TooMany-clause-found
returns-in-TooMany-clause-found g c =
    let next = next_box c.elements-boxes.result.now c.loop-at.at c.index-boxes-at.result c.loop-at-test.true c.index-boxes-at.is in
    let told = told_as (g.H.Shelf.holds c.args.shelf.now) (g.H.Shelf.faults c.args.shelf.now) c.args.name.now c.args.doc.now.root (known c.args.files.now c.args.symbols.now)
    c.elements-boxes.result.now (g.H.Shelf.holds c.loop-at.shelf) (g.H.Shelf.faults c.loop-at.shelf) c.loop-at.names c.loop-at.at c.loop-at.files c.loop-at.symbols
    c.loop-at.supply c.loop-at.invariant c.index-boxes-at.result next c.root_site-site.result c.root_site-site.ensures.grows c.in_ok-lacked.field-0 _
    c.try_box.new.symbols c.try_box.new.supply c.in-TooMany.is c.in_ok-lacked.ensures.tells in
    (stops_here (g.H.Shelf.holds c.args.shelf.now) (g.H.Shelf.faults c.args.shelf.now) c.args.name.now c.args.doc.now.root (known c.args.files.now c.args.symbols.now)
    c.elements-boxes.result.now (g.H.Shelf.holds c.loop-at.shelf) (g.H.Shelf.faults c.loop-at.shelf) c.loop-at.names c.loop-at.at c.loop-at.files c.loop-at.symbols
    c.loop-at.supply c.loop-at.invariant c.index-boxes-at.result next c.try_box.new.symbols told.0 c.in_ok-lacked.ensures.extends c.cut_back.new.self c.cut_back.ensures.kept).found

pub returns-in-TooMany-clause-extends : goal.returns-in-TooMany-clause-extends
returns-in-TooMany-clause-extends g c =
    let next = next_box c.elements-boxes.result.now c.loop-at.at c.index-boxes-at.result c.loop-at-test.true c.index-boxes-at.is in
    let told = told_as (g.H.Shelf.holds c.args.shelf.now) (g.H.Shelf.faults c.args.shelf.now) c.args.name.now c.args.doc.now.root (known c.args.files.now c.args.symbols.now)
    c.elements-boxes.result.now (g.H.Shelf.holds c.loop-at.shelf) (g.H.Shelf.faults c.loop-at.shelf) c.loop-at.names c.loop-at.at c.loop-at.files c.loop-at.symbols
    c.loop-at.supply c.loop-at.invariant c.index-boxes-at.result next c.root_site-site.result c.root_site-site.ensures.grows c.in_ok-lacked.field-0 _
    c.try_box.new.symbols c.try_box.new.supply c.in-TooMany.is c.in_ok-lacked.ensures.tells in
    (stops_here (g.H.Shelf.holds c.args.shelf.now) (g.H.Shelf.faults c.args.shelf.now) c.args.name.now c.args.doc.now.root (known c.args.files.now c.args.symbols.now)
    c.elements-boxes.result.now (g.H.Shelf.holds c.loop-at.shelf) (g.H.Shelf.faults c.loop-at.shelf) c.loop-at.names c.loop-at.at c.loop-at.files c.loop-at.symbols
    c.loop-at.supply c.loop-at.invariant c.index-boxes-at.result next c.try_box.new.symbols told.0 c.in_ok-lacked.ensures.extends c.cut_back.new.self c.cut_back.ensures.kept).extends

pub returns-in-TooMany-clause-kept : goal.returns-in-TooMany-clause-kept
returns-in-TooMany-clause-kept g c =
    c.loop-at.invariant.kept

pub returns-clause-kept : goal.returns-clause-kept
returns-clause-kept g c =
    c.loop-at.invariant.kept

pub returns-in-TooMany-clause-counted : goal.returns-in-TooMany-clause-counted
returns-in-TooMany-clause-counted g c =
    c.loop-at.invariant.counted

pub returns-clause-counted : goal.returns-clause-counted
returns-clause-counted g c =
    c.loop-at.invariant.counted

pub returns-in-TooMany-clause-behind : goal.returns-in-TooMany-clause-behind
returns-in-TooMany-clause-behind g c =
    c.loop-at.invariant.behind

pub returns-clause-behind : goal.returns-clause-behind
returns-clause-behind g c =
    c.loop-at.invariant.behind

pub returns-clause-ok : goal.returns-clause-ok
returns-clause-ok g c =
    (whole (g.H.Shelf.holds c.args.shelf.now) (g.H.Shelf.faults c.args.shelf.now) c.args.name.now c.args.doc.now.root (known c.args.files.now c.args.symbols.now)
    c.elements-boxes.result.now (g.H.Shelf.holds c.loop-at.shelf) (g.H.Shelf.faults c.loop-at.shelf) c.loop-at.names c.loop-at.at c.loop-at.files c.loop-at.symbols
    c.loop-at.supply c.loop-at.invariant c.cut_back-2.new.self c.cut_back-2.ensures.kept c.loop-at-test.false).ok

pub returns-clause-all : goal.returns-clause-all
returns-clause-all g c =
    (whole (g.H.Shelf.holds c.args.shelf.now) (g.H.Shelf.faults c.args.shelf.now) c.args.name.now c.args.doc.now.root (known c.args.files.now c.args.symbols.now)
    c.elements-boxes.result.now (g.H.Shelf.holds c.loop-at.shelf) (g.H.Shelf.faults c.loop-at.shelf) c.loop-at.names c.loop-at.at c.loop-at.files c.loop-at.symbols
    c.loop-at.supply c.loop-at.invariant c.cut_back-2.new.self c.cut_back-2.ensures.kept c.loop-at-test.false).all

pub returns-clause-found : goal.returns-clause-found
returns-clause-found g c =
    (whole (g.H.Shelf.holds c.args.shelf.now) (g.H.Shelf.faults c.args.shelf.now) c.args.name.now c.args.doc.now.root (known c.args.files.now c.args.symbols.now)
    c.elements-boxes.result.now (g.H.Shelf.holds c.loop-at.shelf) (g.H.Shelf.faults c.loop-at.shelf) c.loop-at.names c.loop-at.at c.loop-at.files c.loop-at.symbols
    c.loop-at.supply c.loop-at.invariant c.cut_back-2.new.self c.cut_back-2.ensures.kept c.loop-at-test.false).found

pub returns-clause-extends : goal.returns-clause-extends
returns-clause-extends g c =
    (whole (g.H.Shelf.holds c.args.shelf.now) (g.H.Shelf.faults c.args.shelf.now) c.args.name.now c.args.doc.now.root (known c.args.files.now c.args.symbols.now)
    c.elements-boxes.result.now (g.H.Shelf.holds c.loop-at.shelf) (g.H.Shelf.faults c.loop-at.shelf) c.loop-at.names c.loop-at.at c.loop-at.files c.loop-at.symbols
    c.loop-at.supply c.loop-at.invariant c.cut_back-2.new.self c.cut_back-2.ensures.kept c.loop-at-test.false).extends
