-- The new box is saved as its element, and stands as it grew.
use Rattle.std.proofs.Common.{◌≡◌, ℕ, false, List, [], ◌∷◌, Some, refl, sym, ap, ◌∙◌, subst}
use Rattle.std.specs.Prelude.{option_map}
use Rattle.std.proofs.lemmas.Option.{same_Some}
use Rattle.slab.specs.Slab.{get}
use Rattle.pd_clock.specs.declared.times.Rate.{Rate}
use Rattle.pd_kind.specs.States.{start_of}
use Rattle.pd_kind.specs.Tables.{started}
use Rattle.pd_canvas.specs.Pages.{Entry, boxed, empty_page}
use Rattle.pd_tree.specs.Trees.{Cell, Trees, Done, Leaf, Tree, document_boxes}
use Rattle.pd_grove.specs.declared.nodes.Node.{Node}
use Rattle.pd_grove.specs.declared.grove.Grove.{Grove}
use Rattle.pd_grove.specs.Standing.{node_seen, Stands, GroveStands}
use Rattle.pd_grove.specs.Telling.{state_in}
use Rattle.pd_grove.specs.TextOrder.{is_sub}
use Rattle.pd_web.specs.declared.web.Web.{Web}
use Rattle.pd_reload_law.specs.Saving.{IsMade, cell_now, tree_now}
use Rattle.pd_putting_law.specs.Putting.{IsSavedAs, KeepsText, entry_kept}
use Rattle.pd_putting_law.proofs.NewLemmas.{new_saved, new_stands, new_written}
use Rattle.pd_retyping_law.specs.Retypes.{retyped_at}
use Rattle.pd_retyping_law.specs.Retyping.{RetypesBoxAt, KeepsFirst, cell_in}
use Rattle.pd_retyping_law.proofs.TreeLemmas.{tree_retyped}

-- the first box as it stands
abbrev first_cell : Cell → Trees → Cell
first_cell c (Leaf x rest) = x
first_cell c t = c

module _ (g h : Grove) (path₀ : List ℕ) (canvas key number : ℕ) (n n' : Node) (B : RetypesBoxAt g h path₀ canvas key number n n') where
  abbrev grown : Trees
  grown = Leaf (cell_in n') Done

  stands_alone : Stands (get h.nodes) (get h.boards) n'.board 0 (key ∷ []) grown
  stands_alone = (ap (option_map node_seen) B.becomes ∙ ap (λ o. Some (record { board = n'.board; cell = cell_in n'; inner = o })) B.leaf, tt)

  pub element_saved : (e : Entry) → is_sub (cell_in n').head.form ≡ false → document_boxes grown ≡ boxed (e ∷ [])
      → IsSavedAs (get h.boards) (get h.nodes key) (entry_kept n'.state e)
  element_saved e plain document =
      subst (λ s. IsSavedAs (get h.boards) (get h.nodes key) (entry_kept s e)) (ap state_in B.becomes) (new_saved h n'.board 0 key grown e stands_alone plain document)

  pub box_saved : is_sub (cell_in n').head.form ≡ false
      → IsSavedAs (get h.boards) (get h.nodes key) (entry_kept n'.state (record { head = (cell_in n').head; page = empty_page }))
  box_saved plain = element_saved (record { head = (cell_in n').head; page = empty_page }) plain refl

  -- what it keeps is what its kind keeps at first
  fresh_as : (rate : Rate) (now : ℕ) → KeepsFirst rate now n' → (m : Node) → get h.nodes key ≡ Some m → m.state ≡ Some (started (start_of m.kind rate) now)
  fresh_as rate now f m e = subst (λ (x : Node). x.state ≡ Some (started (start_of x.kind rate) now)) (same_Some n' m (sym B.becomes ∙ e)) f

  pub box_written : (rate : Rate) (now : ℕ) (e : Entry) → KeepsFirst rate now n' → is_sub (cell_in n').head.form ≡ false → IsMade (cell_in n').head.form (cell_in n')
      → KeepsText (cell_in n') → document_boxes grown ≡ boxed (e ∷ []) → IsSavedAs (get h.boards) (get h.nodes key) e
  box_written rate now e f plain made keeps document =
      new_written h n'.board 0 key grown e rate now stands_alone (fresh_as rate now f) (made, tt) plain keeps document

  pub cell_same : (w : Web) (numbers : List ℕ) (rate : Rate) (now : ℕ) → KeepsFirst rate now n' → is_sub (cell_in n').head.form ≡ false
      → IsMade (cell_in n').head.form (cell_in n') → KeepsText (cell_in n') → cell_now n'.state (cell_in n') ≡ cell_in n'
  cell_same w numbers rate now f plain made keeps =
      sym (ap (λ o. cell_now (state_in o) (cell_in n')) B.becomes)
      ∙ ap (first_cell (cell_in n')) (new_stands h n'.board 0 key w numbers grown rate now stands_alone (fresh_as rate now f) (made, tt) plain keeps)

  pub tree_fresh : (w : Web) (numbers : List ℕ) (t : Tree) (rate : Rate) (now : ℕ) → GroveStands g t.sheet t.boxes → KeepsFirst rate now n'
      → is_sub (cell_in n').head.form ≡ false → IsMade (cell_in n').head.form (cell_in n') → KeepsText (cell_in n')
      → tree_now h w numbers (retyped_at path₀ number (cell_in n') t) ≡ retyped_at path₀ number (cell_in n') (tree_now g w numbers t)
  tree_fresh w numbers t rate now G f plain made keeps =
      tree_retyped g h path₀ canvas key number n n' B w numbers t G
      ∙ ap (λ (c : Cell). retyped_at path₀ number c (tree_now g w numbers t)) (cell_same w numbers rate now f plain made keeps)
