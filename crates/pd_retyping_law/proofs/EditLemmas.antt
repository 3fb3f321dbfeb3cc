-- An edit that gives a box of a running patch another text.
use Rattle.std.proofs.Common.{◌≡◌, ℕ, ◌&&◌, Bool, true, false, List, [], ◌∷◌, length, Option, Some, refl, sym, ap, ◌∙◌, subst, true≢false, if◌then◌else◌}
use Rattle.std.specs.Prelude.{IsTrue}
use Rattle.slab.specs.Slab.{get}
use Rattle.pd_atom.specs.declared.Atom.{Atom}
use Rattle.pd_canvas.specs.declared.edits.Edit.TheVariants as edit
use Rattle.pd_canvas.specs.Edits.{CanRetype, begins_with_pd, edited, element, object, retyped, retyped_as, takes_text}
use Rattle.pd_canvas.specs.Pages.{Shape, Obj, Msg, Comment, Sub, Page, Entry, boxed}
use Rattle.pd_canvas.specs.Paths.{change_box, edit_at}
use Rattle.pd_canvas.specs.Views.{entry_of}
use Rattle.pd_library.specs.declared.answers.Answer.{Answer}
use Rattle.pd_tree.specs.Trees.{Done, Leaf, Tree, document_boxes}
use Rattle.pd_growth.specs.Growth.{around_root, without_ending}
use Rattle.pd_growth.specs.Steps.{Stock}
use Rattle.pd_grove.specs.declared.nodes.Node.{Node}
use Rattle.pd_grove.specs.declared.grove.Grove.{Grove}
use Rattle.pd_grove.specs.Places.{CanvasStands}
use Rattle.pd_grove.specs.Standing.{depth_of}
use Rattle.pd_grove.specs.TextOrder.{is_sub}
use Rattle.pd_web.specs.declared.web.Web.{Web}
use Rattle.pd_present.specs.Presents.{present_page}
use Rattle.pd_regrowth_law.specs.Canvases.{own_along}
use Rattle.pd_regrowth_law.specs.Suits.{HoldNone}
use Rattle.pd_reload_law.specs.Reloading.{RunsAs}
use Rattle.pd_reload_law.specs.Saving.{IsMade, tree_now}
use Rattle.pd_putting_law.specs.Again.{StandsAgain}
use Rattle.pd_putting_law.specs.Putting.{IsBare, KeepsText, entry_kept}
use Rattle.pd_putting_law.proofs.AgainLemmas.{box_is}
use Rattle.pd_putting_law.proofs.GrownLemmas.{new_grown, put_bare}
use Rattle.pd_putting_law.proofs.StandLemmas.{path_along}
use Rattle.pd_retyping_law.specs.Edits.{GivesText, element_with}
use Rattle.pd_retyping_law.specs.Retypes.{retyped_at}
use Rattle.pd_retyping_law.specs.Retyping.{cell_in}
use Rattle.pd_retyping_law.proofs.AgainLemmas.{bare_there, box_made, retyped_stands}
use Rattle.pd_retyping_law.proofs.PageLemmas.{document_by, document_retyped, new_entry, retyped_there}
use Rattle.pd_retyping_law.proofs.SavedLemmas.{box_written, element_saved, tree_fresh}
use Rattle.pd_retyping_law.proofs.StandLemmas.{runs_retyped}

-- ---- the element

sub_bare : (b : Bool) (p : Page) (x y : _) (text : List Atom) → b ≡ false → IsBare (if b then element Sub p x y text else object x y text)
sub_bare true p x y text h = absurd (true≢false h)
sub_bare false p x y text h = put_bare (edit.Obj x y text) (object x y text) refl

bare_as : (f : Shape) (text : List Atom) (e : Entry) → IsTrue (takes_text f e.head.text) → (is_sub f && begins_with_pd text) ≡ false → IsBare (retyped_as f text e)
bare_as Obj text e can new = put_bare (edit.Obj e.head.x e.head.y text) (retyped_as Obj text e) refl
bare_as Msg text e can new = put_bare (edit.Msg e.head.x e.head.y text) (retyped_as Msg text e) refl
bare_as Comment text e can new = put_bare (edit.Comment e.head.x e.head.y text) (retyped_as Comment text e) refl
bare_as Sub text e can new = sub_bare (begins_with_pd text) e.page e.head.x e.head.y text new
bare_as f text e can new = cc

pub retyped_bare : (text : List Atom) (e : Entry) → CanRetype e → (is_sub e.head.form && begins_with_pd text) ≡ false → IsBare (retyped text e)
retyped_bare text e can new = bare_as e.head.form text e can new

never_kept : (f : Shape) (text : List Atom) → (is_sub f && begins_with_pd text) ≡ false → f ≡ Sub → begins_with_pd text ≡ true → ⊥
never_kept f text new form pd = true≢false (sym (ap (λ b. is_sub Sub && b) pd) ∙ sym (ap (λ x. is_sub x && begins_with_pd text) form) ∙ new)

none_held : (e : Entry) → IsBare e → HoldNone e.page.boxes
none_held e b = subst HoldNone (sym b.boxes) tt

-- ---- the edit

module _ (g h : Grove) (path : List ℕ) (canvas key number : ℕ) (lib : ℕ → Option Answer) (file : List ℕ) (t : Tree) (text : List Atom) (n n' : Node) (from after : Stock)
    (R : RunsAs g t) (A : StandsAgain lib file from.names t) (P : GivesText g h path canvas key number lib file t text n n' from after) where
  abbrev new : Entry
  new = element_with text n

  bare : IsBare new
  bare = retyped_bare text (entry_of n.element) P.takes P.new

  along : (u : Tree) × (own_along path t ≡ Some u) × CanvasStands g canvas u × (depth_of (get g.boards canvas) ≡ length path)
  along = path_along g path canvas t P.box.forest R.stands P.box.leads

  pub text_again : StandsAgain lib file after.names (retyped_at path number (cell_in n') t)
  text_again =
      retyped_stands lib file P.left path t along.0 new from after (cell_in n') A along.1 P.deep P.names P.room bare.holds (none_held new bare) P.grew number
      (bare_there g canvas key number n P.box.is P.box.was P.box.bare along.0 along.2)

  pub text_runs : RunsAs h (retyped_at path number (cell_in n') t)
  text_runs = runs_retyped g h path canvas key number n n' P.box t P.rate P.now R P.first

  made : IsMade (cell_in n').head.form (cell_in n')
  made = box_made lib file P.left path t along.0 new from after (cell_in n') A along.1 P.deep P.names P.room bare.holds (none_held new bare) P.grew

  plain : is_sub (cell_in n').head.form ≡ false
  plain = new_grown lib (without_ending file) P.left (around_root t.sheet.zero) new from after (Leaf (cell_in n') Done) bare P.grew

  document : document_boxes (Leaf (cell_in n') Done) ≡ boxed (new ∷ [])
  document = box_is lib file P.left t.sheet.zero new from after (Leaf (cell_in n') Done) P.room bare.holds (none_held new bare) P.grew

  pub text_kept : (w : Web) (numbers : List ℕ)
      → present_page h w numbers ≡ edit_at path (change_box number (λ e. entry_kept n'.state (retyped text e))) (present_page g w numbers)
  text_kept w numbers =
      document_by g h path canvas key number n n' P.box w numbers (λ e. entry_kept n'.state (retyped text e)) (λ before held.
      new_entry g h path canvas key number n n' P.box w numbers held (entry_kept n'.state new) (element_saved g h path canvas key number n n' P.box new plain document)
      ∙ ap (entry_kept n'.state) (sym (retyped_there g h path canvas key number n n' P.box w numbers text P.takes
      (never_kept (entry_of n.element).head.form text P.new) before)))

  pub text_document : (w : Web) (numbers : List ℕ) → KeepsText (cell_in n')
      → present_page h w numbers ≡ edit_at path (edited (edit.Retype number text)) (present_page g w numbers)
  text_document w numbers keeps =
      document_retyped g h path canvas key number n n' P.box w numbers text P.takes
      (box_written g h path canvas key number n n' P.box P.rate P.now new P.first plain made keeps document)

  pub text_now : (w : Web) (numbers : List ℕ) → KeepsText (cell_in n')
      → tree_now h w numbers (retyped_at path number (cell_in n') t) ≡ retyped_at path number (cell_in n') (tree_now g w numbers t)
  text_now w numbers keeps = tree_fresh g h path canvas key number n n' P.box w numbers t P.rate P.now R.stands P.first plain made keeps
