-- A box that grew holds no canvas, or is of the kind of boxes that do.
use Rattle.std.proofs.Common.{◌≡◌, ℕ, ◌-◌, List, length, refl, subst}
use Rattle.pd_atom.specs.declared.Atom.{Atom}
use Rattle.pd_canvas.specs.declared.edits.Edit.{Edit}
use Rattle.pd_canvas.specs.Pages.{Head, Page, Entry}
use Rattle.pd_library.specs.Files.{answer_in}
use Rattle.pd_tree.specs.Trees.{Trees, Done, Leaf}
use Rattle.pd_growth.specs.Steps.{Stock, gives, numbered}
use Rattle.pd_growth.specs.Making.{Around, Making, Plain, Subpatch, File}
use Rattle.pd_growth.specs.Growing.{inside_grown}
use Rattle.pd_growth.specs.Growth.{Inner, cell_of, canvas_grown, receiver_brought, box_made, around_root, without_ending}
use Rattle.pd_regrowth_law.proofs.StepLemmas.{gives_same, chain, box_went}
use Rattle.pd_regrowth_law.proofs.TakeLemmas.{canvas_went}
use Rattle.pd_gather.specs.Gather.{Known}
use Rattle.pd_patch.specs.declared.patch.Patch.{Patch}
use Rattle.pd_adding.specs.declared.counts.Counts.{Counts}
use Rattle.pd_adding.specs.Coming.{own_zero}
use Rattle.pd_adding.specs.Counts.{stock_by}
use Rattle.pd_adding.specs.Growing.{Added, growth_of}
use Rattle.pd_adding.specs.Adding.{GrewWith}
use Rattle.pd_putting.specs.Places.{HoldsAsCanvas}

canvas_holds : (inner : Inner) (a : Around) (p : Page) (h : Head) (text : List Atom) (w : Stock) (t : Trees) (v : Stock) → canvas_grown inner a p h text w ≡ gives t v → HoldsAsCanvas t
canvas_holds inner a p h text w t v e = subst HoldsAsCanvas (canvas_went inner a p h text w t v e).tree_is refl

made_holds : (inner : Inner) (a : Around) (e : Entry) (text : List Atom) (m : Making) (w : Stock) (t : Trees) (v : Stock) → box_made inner a e text m w ≡ gives t v → HoldsAsCanvas t
made_holds inner a e text (Plain k fault) w t v h = subst HoldsAsCanvas (gives_same (Leaf (cell_of e.head text k fault) Done) t w v h) tt
made_holds inner a e text Subpatch w t v h =
    let c = chain (receiver_brought a.is_top text w) _ t v h in
    canvas_holds inner a e.page e.head text c.stock t v c.next
made_holds inner a e text (File s p) w t v h =
    let c = chain (numbered w) _ t v h in
    canvas_holds inner _ p e.head text c.stock t v c.next

pub grown_holds : (p : Patch) (n : Counts) (name path : List ℕ) (e : Edit) (k files : Known) (a : Added) → GrewWith p n name path e k files a → HoldsAsCanvas a.boxes
unfolding growth_of
grown_holds p n name path e k files a G =
    let lib = answer_in files.files in
    let root = without_ending name in
    let left = 255 - length path in
    let inner = inside_grown lib root left in
    let b = box_went lib root left inner (around_root (own_zero p)) G.entry (stock_by files.names n) a.boxes G.after G.grew in
    made_holds inner (around_root (own_zero p)) G.entry b.text b.making b.named a.boxes G.after b.box_is
