use Rattle.std.proofs.Common.{◌≡◌, ◌<◌, ◌-◌, Option, Some, IfSome, length, slice_index_or, arith, sym, ap, ◌∙◌, subst}
use Rattle.pd_canvas.specs.declared.edits.Edit.{Edit}
use Rattle.pd_canvas.specs.declared.tree.Doc.{Doc}
use Rattle.pd_canvas.specs.declared.tree.Element.{Element}
use Rattle.pd_canvas.specs.Pages.{elements_of, page_with_header}
use Rattle.pd_canvas.specs.Views.{entries_of}
use Rattle.pd_canvas.specs.Edits.{edited}
use Rattle.pd_growth.proofs.SuitLemmas.{listed_boxed}
use Rattle.pd_adding.specs.Boxes.{settled_edit, PutsBox, box_put}
use Rattle.pd_adding.proofs.BoxLemmas.{put_last, last_bare}
use Rattle.pd_adding.proofs.boxes.box_of.Goals as goal

pub returns-clause-put : goal.returns-clause-put
returns-clause-put c =
    let names = c.args.symbols.now in
    let edit = c.in-Some.edit in
    let puts : PutsBox names edit = subst (λ (o : Option Edit). IfSome o (λ e. PutsBox names e)) c.in-Some.is c.in_ok-edit.ensures.puts in
    let same : edit ≡ settled_edit names c.args.edit.now =
    subst (λ (o : Option Edit). IfSome o (λ e. e ≡ settled_edit names c.args.edit.now)) c.in-Some.is c.in_ok-edit.ensures.edit in
    let items = c.into_vec-boxes.result.items in
    let len : c.into_vec-boxes.result.len ≡ length items = omega (arith, c.into_vec-boxes.result.ok) in
    let last = subst (λ n. (d : Element) → 0 < n → c.pop.result ≡ Some (slice_index_or items (n - 1) d)) len (λ d l. c.pop.ensures.value d l) in
    let page = ap (λ (d : Doc). d.root) c.doc.view_is ∙ c.in_ok-apply_plain.ensures.ok ∙ ap (edited edit) (c.new-2.ensures ∙ ap page_with_header c.new.ensures) in
    put_last names edit items c.pop.result puts
    (ap entries_of c.into_vec-boxes.ensures ∙ sym (listed_boxed _) ∙ ap elements_of page) last
    ∙ ap box_put same

pub returns-clause-bare : goal.returns-clause-bare
returns-clause-bare c =
    let names = c.args.symbols.now in
    let edit = c.in-Some.edit in
    let puts : PutsBox names edit = subst (λ (o : Option Edit). IfSome o (λ e. PutsBox names e)) c.in-Some.is c.in_ok-edit.ensures.puts in
    let same : edit ≡ settled_edit names c.args.edit.now =
    subst (λ (o : Option Edit). IfSome o (λ e. e ≡ settled_edit names c.args.edit.now)) c.in-Some.is c.in_ok-edit.ensures.edit in
    last_bare names edit c.pop.result c.len-names.ensures.table puts (returns-clause-put c ∙ sym (ap box_put same))
