-- A box less in one canvas, and the document of the patch.
use Rattle.std.proofs.Common.{◌≡◌, ◌≢◌, ℕ, zero, suc, ◌+◌, ◌<◌, ◌≤◌, Bool, true, false, cond, List, [], ◌∷◌, map, length, slice_get, Option, Some, None, IsSome, refl, sym, ap, ◌∙◌, subst, arith}
use Rattle.std.specs.Prelude.{◌-◌, remove, filter}
use Rattle.std.proofs.lemmas.Option.{same_Some}
use Rattle.slab.specs.Slab.{get}
use Rattle.pd_canvas.specs.declared.wires.Wire.{Wire}
use Rattle.pd_canvas.specs.Pages.{Page, Entry, boxed, listed, elements_of, with_elements}
use Rattle.pd_canvas.specs.Paths.{at_place, inside, edit_at}
use Rattle.pd_canvas.specs.Edits.{without, with_wires}
use Rattle.pd_canvas.specs.Wiring.{lowered_wire, spares, without_box}
use Rattle.pd_canvas.proofs.TreeLemmas.{listed_boxed}
use Rattle.pd_tree.specs.declared.rows.Sheet.{Sheet}
use Rattle.pd_grove.specs.declared.nodes.Node.{Node}
use Rattle.pd_grove.specs.declared.boards.Board.{Board}
use Rattle.pd_grove.specs.declared.grove.Grove.{Grove}
use Rattle.pd_grove.specs.Grafts.{sheet_in}
use Rattle.pd_grove.specs.OwnPaths.{sub_reached}
use Rattle.pd_grove.specs.Standing.{depth_of}
use Rattle.pd_grove.specs.Telling.{inner_in, keys_in}
use Rattle.pd_grove.proofs.GraftLemmas.{is_some}
use Rattle.pd_web.specs.declared.web.Web.{Web}
use Rattle.pd_web.specs.Canvases.{keys_at}
use Rattle.pd_present.specs.Presents.{wires_among, entry_at, page_on, page_within, present_page}
use Rattle.pd_present.proofs.PresentLemmas.{within_none, within_suc}
use Rattle.pd_reload_law.proofs.EditLemmas.{sub_inner}
use Rattle.pd_putting_law.proofs.ListLemmas.{map_same, map_changed}
use Rattle.pd_putting_law.proofs.PathLemmas.{Forest, subs, sub_leads, live_box, live_canvas, deep_as, LeadsNot, not_same, not_inside, not_below, not_around, not_beside}
use Rattle.pd_putting_law.proofs.PageLemmas.{entry_same, sub_entry, page_with, entries, page_same, page_changed}
use Rattle.pd_taking_law.specs.Taking.{TakesBoxAt, CutsBox, cut_off}
use Rattle.pd_taking_law.proofs.StayLemmas.{map_less, forest_still, box_still, canvas_still, keys_less, leads_from_root}
use Rattle.pd_taking_law.proofs.WireLemmas.{wires_aside, wires_here}

page_less : (w w' : Web) (numbers numbers' : List ℕ) (nodes nodes' : ℕ → Option Node) (in1 in2 : ℕ → Page) (n : ℕ) (o o' : Option Board) → IsSome o → IsSome o'
    → sheet_in o' ≡ sheet_in o → keys_in o' ≡ remove (keys_in o) n → entries nodes' in2 (keys_in o') ≡ entries nodes in1 (keys_in o')
    → wires_among w' numbers' (keys_in o') ≡ without_box n (wires_among w numbers (keys_in o))
    → page_on w' numbers' nodes' in2 o' ≡ without n (page_on w numbers nodes in1 o)
page_less w w' numbers numbers' nodes nodes' in1 in2 n None o' live lives s k same f = cc
page_less w w' numbers numbers' nodes nodes' in1 in2 n (Some b) None live lives s k same f = cc
page_less w w' numbers numbers' nodes nodes' in1 in2 n (Some b) (Some b') live lives s k same f =
    let here = entries nodes in1 b.nodes.items in
    let all : entries nodes' in2 b'.nodes.items ≡ remove (listed (boxed here)) n =
    same ∙ ap (entries nodes in1) k ∙ map_less (λ k. entry_at in1 (nodes k)) b.nodes.items n ∙ ap (λ (l : List Entry). remove l n) (sym (listed_boxed here)) in
    ap (λ (x : Sheet). page_with x (entries nodes' in2 b'.nodes.items) (wires_among w' numbers' b'.nodes.items)) (same_Some b'.sheet b.sheet s)
    ∙ ap (λ (es : List Entry). page_with b.sheet es (wires_among w' numbers' b'.nodes.items)) all
    ∙ ap (λ (ws : List Wire). page_with b.sheet (remove (listed (boxed here)) n) ws) f

-- ---- the canvases of two groves

module _ (g h : Grove) (path₀ : List ℕ) (canvas key number : ℕ) (B : TakesBoxAt g h path₀ canvas key number) (w w' : Web) (numbers numbers' : List ℕ)
    (W : CutsBox g h w w' numbers numbers' key) (H : Forest h) where
  abbrev old : ℕ → ℕ → Page
  old n c = page_within w numbers (get g.nodes) (get g.boards) n c

  abbrev new : ℕ → ℕ → Page
  new n c = page_within w' numbers' (get h.nodes) (get h.boards) n c

  box_aside : (n c i k : ℕ) → slice_get (keys_at h c) i ≡ Some k → ((j : ℕ) → inner_in (get h.nodes k) ≡ Some j → new n j ≡ old n j)
      → entry_at (new n) (get h.nodes k) ≡ entry_at (old n) (get g.nodes k)
  box_aside n c i k is inner =
      entry_same (old n) (new n) (get h.nodes k) inner ∙ ap (entry_at (old n)) (box_still g h path₀ canvas key number B k (live_box h H c i k is))

  wires_by : (c : ℕ) → c ≢ canvas → get h.boards c ≡ get g.boards c → wires_among w' numbers' (keys_at h c) ≡ wires_among w numbers (keys_at h c)
  wires_by c apart stays =
      wires_aside g h path₀ canvas key number B w w' numbers numbers' W c apart stays ∙ ap (λ o. wires_among w numbers (keys_in o)) (sym stays)

  page_aside : (n c : ℕ) → IsSome (get h.boards c) → LeadsNot h canvas c → new n c ≡ old n c
  page_aside zero c live a = within_none w' numbers' (get h.nodes) (get h.boards) c ∙ sym (within_none w numbers (get g.nodes) (get g.boards) c)
  page_aside (suc n) c live a =
      let stays : get h.boards c ≡ get g.boards c = canvas_still g h path₀ canvas key number B c (not_same h canvas c a) live in
      within_suc w' numbers' (get h.nodes) (get h.boards) n c
      ∙ page_same w w' numbers numbers' (get g.nodes) (get h.nodes) (old n) (new n) (get h.boards c)
      (map_same (λ k. entry_at (old n) (get g.nodes k)) (λ k. entry_at (new n) (get h.nodes k)) (keys_at h c) (λ i k is.
      box_aside n c i k is (λ j holds. page_aside n j (live_canvas h H k j holds) (not_inside h canvas c i k j a is holds))))
      (wires_by c (not_same h canvas c a) stays)
      ∙ ap (page_on w numbers (get g.nodes) (old n)) stays
      ∙ sym (within_suc w numbers (get g.nodes) (get g.boards) n c)

  page_here : (n : ℕ) → new (suc n) canvas ≡ without number (old (suc n) canvas)
  page_here n =
      let T = B.takes in
      within_suc w' numbers' (get h.nodes) (get h.boards) n canvas
      ∙ page_less w w' numbers numbers' (get g.nodes) (get h.nodes) (old n) (new n) number (get g.boards canvas) (get h.boards canvas)
      (is_some (get g.boards canvas) T.old T.board) (is_some (get h.boards canvas) T.new T.without)
      (ap sheet_in T.without ∙ ap (λ (s : Sheet). Some s) T.sheet ∙ sym (ap sheet_in T.board)) (keys_less g h path₀ canvas key number B)
      (map_same (λ k. entry_at (old n) (get g.nodes k)) (λ k. entry_at (new n) (get h.nodes k)) (keys_at h canvas) (λ i k at.
      box_aside n canvas i k at (λ j holds. page_aside n j (live_canvas h H k j holds) (not_below h H canvas i k j at holds))))
      (wires_here g h path₀ canvas key number B w w' numbers numbers' W)
      ∙ sym (ap (without number) (within_suc w numbers (get g.nodes) (get g.boards) n canvas))

  pub page_gone : (m n c : ℕ) (path : List ℕ) → IsSome (get h.boards c) → sub_reached h (Some c) path ≡ Some canvas → n ≡ length path + suc m
      → new n c ≡ edit_at path (without number) (old n c)
  page_gone m zero c path live on low = absurd (nothing (length path) m low)
    where
      nothing : (n m : ℕ) → 0 ≡ n + suc m → ⊥
      nothing n m l = omega (arith, l)
  page_gone m (suc n) c [] live on low =
      let here : c ≡ canvas = same_Some c canvas on in
      ap (new (suc n)) here ∙ page_here n ∙ ap (λ x. without number (old (suc n) x)) (sym here)
  page_gone m (suc n) c (i ∷ path) live on low =
      let s = subs h c i path canvas on in
      let way = sub_leads h c canvas (i ∷ path) on in
      let apart : c ≢ canvas = not_around h H c i path canvas way in
      let change : Page → Page = edit_at path (without number) in
      let stays : get h.boards c ≡ get g.boards c = canvas_still g h path₀ canvas key number B c apart live in
      let holds = sub_inner (get h.nodes s.key) s.inner s.sub in
      within_suc w' numbers' (get h.nodes) (get h.boards) n c
      ∙ page_changed w w' numbers numbers' (get g.nodes) (get h.nodes) (old n) (new n) (inside change) i s.key (get h.boards c) s.is
      (map_changed (λ k. entry_at (old n) (get g.nodes k)) (λ k. entry_at (new n) (get h.nodes k)) (inside change) i (keys_at h c)
      (λ k at. subst (λ x. entry_at (new n) (get h.nodes x) ≡ inside change (entry_at (old n) (get g.nodes x))) (same_Some s.key k (sym s.is ∙ at))
      (sub_entry (old n) (new n) (get h.nodes s.key) s.inner change s.sub
      (page_gone m n s.inner path (live_canvas h H s.key s.inner holds) s.on (fewer n (length path) m low))
      ∙ ap (λ o. inside change (entry_at (old n) o)) (box_still g h path₀ canvas key number B s.key (live_box h H c i s.key s.is))))
      (λ i2 k away at. box_aside n c i2 k at (λ j inner. page_aside n j (live_canvas h H k j inner) (not_beside h H c i path canvas i2 k j way away at inner))))
      (wires_by c apart stays)
      ∙ ap (λ o. (λ (p : Page). with_elements (at_place i (inside change) (listed p.boxes)) p) (page_on w numbers (get g.nodes) (old n) o)) stays
      ∙ sym (ap (λ (p : Page). with_elements (at_place i (inside change) (listed p.boxes)) p) (within_suc w numbers (get g.nodes) (get g.boards) n c))
    where
      fewer : (n l m : ℕ) → suc n ≡ suc l + suc m → n ≡ l + suc m
      fewer n l m h = omega (arith, h)

-- ---- the document

pub document_less : (g h : Grove) (w w' : Web) (numbers numbers' path : List ℕ) (canvas key number : ℕ) → TakesBoxAt g h path canvas key number
    → CutsBox g h w w' numbers numbers' key → present_page h w' numbers' ≡ edit_at path (without number) (present_page g w numbers)
document_less g h w w' numbers numbers' path canvas key number B W =
    let H = forest_still g h path canvas key number B in
    let on = leads_from_root g h path canvas key number B in
    let deep = deep_as h H path h.root canvas (sub_leads h h.root canvas path on) in
    let low : length path ≤ 256 = shallow (depth_of (get h.boards canvas)) (depth_of (get h.boards h.root)) (length path) deep H.rooted.2 (H.shallow canvas) in
    page_gone g h path canvas key number B w w' numbers numbers' W H (256 - length path) 257 h.root path H.rooted.0 on (whole (length path) low)
    ∙ ap (λ r. edit_at path (without number) (page_within w numbers (get g.nodes) (get g.boards) 257 r)) B.root
  where
    shallow : (d r l : ℕ) → d ≡ r + l → r ≡ 0 → d < 257 → l ≤ 256
    shallow d r l a b c = omega (arith, a, b, c)

    whole : (l : ℕ) → l ≤ 256 → 257 ≡ l + suc (256 - l)
    whole l h = omega (arith, h)

-- ---- where the wires at the box are cut before

filter_twice : (p : Wire → Bool) (xs : List Wire) → filter p (filter p xs) ≡ filter p xs
filter_twice p [] = refl
filter_twice p (x ∷ xs) = by (p x) refl (filter_twice p xs)
  where
    by : (b : Bool) → p x ≡ b → filter p (filter p xs) ≡ filter p xs
        → filter p (cond b (x ∷ filter p xs) (filter p xs)) ≡ cond b (x ∷ filter p xs) (filter p xs)
    by true e k = ap (λ c. cond c (x ∷ filter p (filter p xs)) (filter p (filter p xs))) e ∙ ap (λ (l : List Wire). x ∷ l) k
    by false e k = k

place_twice : (i : ℕ) (f g k : Entry → Entry) (xs : List Entry) → ((e : Entry) → f (g e) ≡ k e) → at_place i f (at_place i g xs) ≡ at_place i k xs
place_twice i f g k [] h = refl
place_twice zero f g k (x ∷ xs) h = ap (λ (e : Entry). e ∷ xs) (h x)
place_twice (suc i) f g k (x ∷ xs) h = ap (λ (l : List Entry). x ∷ l) (place_twice i f g k xs h)

edit_twice : (path : List ℕ) (f g k : Page → Page) (d : Page) → ((p : Page) → f (g p) ≡ k p) → edit_at path f (edit_at path g d) ≡ edit_at path k d
edit_twice [] f g k d h = h d
edit_twice (i ∷ path) f g k d h =
    let first = at_place i (inside (edit_at path g)) (elements_of d) in
    ap (λ (l : List Entry). with_elements (at_place i (inside (edit_at path f)) l) d) (listed_boxed first)
    ∙ ap (λ (l : List Entry). with_elements l d)
    (place_twice i (inside (edit_at path f)) (inside (edit_at path g)) (inside (edit_at path k)) (elements_of d)
    (λ e. ap (λ (p : Page). record { head = e.head; page = p }) (edit_twice path f g k e.page h)))

pub cut_before : (path : List ℕ) (n : ℕ) (d : Page) → edit_at path (without n) (edit_at path (cut_off n) d) ≡ edit_at path (without n) d
cut_before path n d =
    edit_twice path (without n) (cut_off n) (without n) d
    (λ p. ap (λ (ws : List Wire). with_wires (map (lowered_wire n) ws) (with_elements (remove (elements_of p) n) p)) (filter_twice (spares n) p.wires))
