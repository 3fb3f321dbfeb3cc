-- The box that grew for an edit, with all that lies in it, and what these own.
use Rattle.std.proofs.Common.{◌≡◌, ◌≤◌, ◌+◌, ℕ, Bool, true, List, [], ◌∷◌, length, Option, Some, sym, ap, ◌∙◌, subst, arith}
use Rattle.std.specs.Prelude.{◌-◌, IfSome}
use Rattle.std.specs.List.{AllByRecursion}
use Rattle.pd_atom.specs.declared.Atom.{Atom}
use Rattle.pd_atom.specs.Names.{Names, Extends}
use Rattle.pd_canvas.specs.declared.edits.Edit.{Edit}
use Rattle.pd_canvas.specs.Pages.{Boxes, End, Entry}
use Rattle.pd_canvas.specs.Proper.{AreReady}
use Rattle.pd_library.specs.Files.{answer_in}
use Rattle.pd_growth.specs.Growth.{Inner, around_root, box_grown, without_ending}
use Rattle.pd_growth.specs.Growing.{inside_grown}
use Rattle.pd_growth.specs.Steps.{gives}
use Rattle.pd_grove.specs.OwnPaths.{sub_reached}
use Rattle.pd_grove.specs.TextOrder.{deep, Placed, placed_in_order}
use Rattle.pd_bind.specs.Naming.{owned_by}
use Rattle.pd_web.specs.Canvases.{HoldersAreNoPorts}
use Rattle.pd_patch.specs.declared.patch.Patch.{Patch}
use Rattle.pd_patch.proofs.GrowthLemmas.{box_shallow, grown_box_fits}
use Rattle.pd_regrowth_law.specs.Suits.{AreOf, IsEntryOf, TextsOf}
use Rattle.pd_regrowth_law.proofs.ExpandLemmas.{are_of_more}
use Rattle.pd_gather.specs.Gather.{Known}
use Rattle.pd_gather.proofs.KnownLemmas.{library_of}
use Rattle.pd_adding.specs.declared.counts.Counts.{Counts}
use Rattle.pd_adding.specs.Boxes.{CanBeWritten, settled_edit, box_put}
use Rattle.pd_adding.specs.Coming.{own_zero}
use Rattle.pd_adding.specs.Counts.{stock_by}
use Rattle.pd_adding.specs.Growing.{Added}
use Rattle.pd_adding.specs.Adding.{GrewWith}
use Rattle.pd_adding.proofs.GrowLemmas.{growth_is}
use Rattle.pd_adding.proofs.SingleLemmas.{same_inner}
use Rattle.pd_alike_law.proofs.NameLemmas.{box_alike}
use Rattle.pd_engine.proofs.ComingLemmas.{ComesFrom, comes_from, low_levels, put_empty}
use Rattle.pd_engine.proofs.PutLemmas.{all_anywhere}

ready_of : (names : Names) (text : List Atom) → AreReady names text → AreOf names text
ready_of names [] h = tt
ready_of names (x ∷ text) h = (h.0.0, ready_of names text h.1)

module _ (old : Patch) (n : Counts) (name path : List ℕ) (e : Edit) (k files : Known) (a : Added) (X : GrewWith old n name path e k files a) where
  abbrev entry : Entry
  entry = X.entry

  abbrev left : ℕ
  left = 255 - length path

  comes : ComesFrom k.names old path e a.canvas entry
  comes = comes_from k.names old path e a.canvas entry X.comes

  pub leads : sub_reached old.grove (Some old.grove.root) path ≡ Some a.canvas
  leads = comes.leads

  grew : box_grown (answer_in files.files) (without_ending name) left (inside_grown (answer_in files.files) (without_ending name) left) (around_root (own_zero old)) entry
      (stock_by files.names n) ≡ gives a.boxes X.after
  grew = sym (growth_is (own_zero old) n name left entry files) ∙ X.grew

  names_are : X.after.names ≡ a.known.names
  names_are = sym (ap (λ (x : Known). x.names) X.known_is)

  none_in : entry.page.boxes ≡ End
  none_in = put_empty (settled_edit k.names e) entry comes.put

  -- no box in it that holds a canvas is a port
  pub bare : HoldersAreNoPorts a.boxes
  bare = (grown_box_fits (answer_in files.files) (without_ending name) left (around_root (own_zero old)) entry (stock_by files.names n) X.after a.boxes grew).1

  -- no canvas lies too deep
  pub low : length path ≤ 255 → length path + deep a.boxes ≤ 255
  low short =
      let most : deep a.boxes ≤ left =
      box_shallow (answer_in files.files) (without_ending name) left (around_root (own_zero old)) entry (stock_by files.names n) X.after a.boxes
      (low_levels entry.head.form entry.page.boxes (length path) none_in comes.low) grew in
      omega (arith, short, most)

  -- it owns the same in each table that goes on
  abbrev Same : Names → Placed → Type 0
  Same more p = owned_by more p.is_top p.cell ≡ owned_by a.known.names p.is_top p.cell

  module _ (can_write : IfSome (box_put (settled_edit k.names e)) (CanBeWritten k.names)) where
    text_ready : AreReady k.names entry.head.text
    text_ready = (subst (λ (o : Option Entry). IfSome o (CanBeWritten k.names)) comes.put can_write).text

    entry_of : IsEntryOf files.names entry
    entry_of = record {
      text = are_of_more k.names files.names X.extends entry.head.text (ready_of k.names entry.head.text text_ready);
      inner = subst (λ (x : Boxes). TextsOf files.names x) (sym none_in) tt;
    }

    own_here : (more : Names) → Extends X.after.names more → AllByRecursion (λ (p : Placed). owned_by more p.is_top p.cell ≡ owned_by X.after.names p.is_top p.cell) (placed_in_order true a.boxes)
    own_here more x =
        box_alike (answer_in files.files) (without_ending name) left (around_root (own_zero old)) entry (stock_by files.names n) X.after a.boxes more
        (library_of files.names files.files X.found) (record { arguments = tt; inside = tt }) entry_of
        (subst (λ (i : Inner). box_grown (answer_in files.files) (without_ending name) left i (around_root (own_zero old)) entry (stock_by files.names n) ≡ gives a.boxes X.after)
        (same_inner (answer_in files.files) (without_ending name) left) grew) x

    pub own_steady : (more : Names) → Extends a.known.names more → (top : Bool) → AllByRecursion (Same more) (placed_in_order top a.boxes)
    own_steady more x top =
        all_anywhere a.known.names more a.boxes top
        (subst (λ (m : Names). (more : Names) → Extends m more → AllByRecursion (λ (p : Placed). owned_by more p.is_top p.cell ≡ owned_by m p.is_top p.cell) (placed_in_order true a.boxes)) names_are own_here more x)
