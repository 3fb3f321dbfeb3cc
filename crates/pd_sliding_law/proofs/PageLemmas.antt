-- A box at another place, and the document of the patch, where the wires stay.
use Rattle.std.proofs.Common.{◌≡◌, ◌≢◌, ℕ, zero, suc, ℤ, ◌+◌, ◌<◌, ◌≤◌, List, [], ◌∷◌, length, slice_get, Option, Some, None, IsSome, refl, sym, ap, ◌∙◌, subst, arith}
use Rattle.std.specs.Prelude.{◌-◌, option_map}
use Rattle.std.proofs.lemmas.Option.{same_Some}
use Rattle.slab.specs.Slab.{Slab, get}
use Rattle.pd_canvas.specs.Pages.{Page, listed, with_elements}
use Rattle.pd_canvas.specs.Paths.{at_place, change_box, inside, edit_at}
use Rattle.pd_canvas.specs.Edits.{moved}
use Rattle.pd_grove.specs.declared.boards.Board.{Board}
use Rattle.pd_grove.specs.declared.nodes.Node.{Node}
use Rattle.pd_grove.specs.declared.grove.Grove.{Grove}
use Rattle.pd_grove.specs.OwnPaths.{sub_reached}
use Rattle.pd_grove.specs.Owning.{board_in}
use Rattle.pd_grove.specs.Refits.{at_place as standing_at, Alters}
use Rattle.pd_grove.specs.Standing.{depth_of}
use Rattle.pd_grove.specs.Telling.{inner_in}
use Rattle.pd_web.specs.declared.web.Web.{Web}
use Rattle.pd_web.specs.Canvases.{keys_at}
use Rattle.pd_present.specs.Presents.{entry_at, page_within, present_page}
use Rattle.pd_present.proofs.PresentLemmas.{within_none, within_suc}
use Rattle.pd_putting_law.proofs.ListLemmas.{map_same, map_changed}
use Rattle.pd_putting_law.proofs.PathLemmas.{Forest, subs, sub_leads, live_box, deep_as, LeadsNot, not_same, not_inside, not_below, not_around, not_beside}
use Rattle.pd_putting_law.proofs.PageLemmas.{entry_same, sub_entry, page_same, page_changed}

entry_moved : (x y : ℤ) (in1 : ℕ → Page) (o : Option Node) → IsSome o → entry_at in1 (option_map (standing_at x y) o) ≡ moved x y (entry_at in1 o)
entry_moved x y in1 None live = cc
entry_moved x y in1 (Some n) live = refl

module _ (g : Grove) (canvas key number : ℕ) (F : Forest g) (is : slice_get (keys_at g canvas) number ≡ Some key) where
  -- a box of another canvas is another box, and so is one of another number
  pub elsewhere : (c i k : ℕ) → c ≢ canvas → slice_get (keys_at g c) i ≡ Some k → k ≢ key
  elsewhere c i k apart at same =
      apart (same_Some c canvas (sym (F.own.home c i k at) ∙ ap (λ z. board_in (get g.nodes z)) same ∙ F.own.home canvas number key is))

  pub beside : (i k : ℕ) → i ≢ number → slice_get (keys_at g canvas) i ≡ Some k → k ≢ key
  beside i k apart at same = apart (F.own.once canvas i number k at (is ∙ ap (λ z. Some z) (sym same)))

module _ (g h : Grove) (canvas key number : ℕ) (x y : ℤ) (F : Forest g) (is : slice_get (keys_at g canvas) number ≡ Some key) (A : Alters g h key (standing_at x y))
    (w : Web) (numbers : List ℕ) where
  abbrev old : ℕ → ℕ → Page
  old n c = page_within w numbers (get g.nodes) (get g.boards) n c

  abbrev new : ℕ → ℕ → Page
  new n c = page_within w numbers (get h.nodes) (get g.boards) n c

  box_aside : (n k : ℕ) → k ≢ key → ((j : ℕ) → inner_in (get g.nodes k) ≡ Some j → new n j ≡ old n j) → entry_at (new n) (get h.nodes k) ≡ entry_at (old n) (get g.nodes k)
  box_aside n k d inner = ap (entry_at (new n)) (A.others k d) ∙ entry_same (old n) (new n) (get g.nodes k) inner

  page_aside : (n c : ℕ) → LeadsNot g canvas c → new n c ≡ old n c
  page_aside zero c a = within_none w numbers (get h.nodes) (get g.boards) c ∙ sym (within_none w numbers (get g.nodes) (get g.boards) c)
  page_aside (suc n) c a =
      within_suc w numbers (get h.nodes) (get g.boards) n c
      ∙ page_same w w numbers numbers (get g.nodes) (get h.nodes) (old n) (new n) (get g.boards c)
      (map_same (λ k. entry_at (old n) (get g.nodes k)) (λ k. entry_at (new n) (get h.nodes k)) (keys_at g c) (λ i k at.
      box_aside n k (elsewhere g canvas key number F is c i k (not_same g canvas c a) at) (λ j holds. page_aside n j (not_inside g canvas c i k j a at holds))))
      refl
      ∙ sym (within_suc w numbers (get g.nodes) (get g.boards) n c)

  box_here : (n : ℕ) → entry_at (new n) (get h.nodes key) ≡ moved x y (entry_at (old n) (get g.nodes key))
  box_here n =
      ap (entry_at (new n)) A.box ∙ entry_moved x y (new n) (get g.nodes key) (live_box g F canvas number key is)
      ∙ ap (moved x y) (entry_same (old n) (new n) (get g.nodes key) (λ j holds. page_aside n j (not_below g F canvas number key j is holds)))

  page_here : (n : ℕ) → new (suc n) canvas ≡ change_box number (moved x y) (old (suc n) canvas)
  page_here n =
      within_suc w numbers (get h.nodes) (get g.boards) n canvas
      ∙ page_changed w w numbers numbers (get g.nodes) (get h.nodes) (old n) (new n) (moved x y) number key (get g.boards canvas) is
      (map_changed (λ k. entry_at (old n) (get g.nodes k)) (λ k. entry_at (new n) (get h.nodes k)) (moved x y) number (keys_at g canvas)
      (λ k at. subst (λ z. entry_at (new n) (get h.nodes z) ≡ moved x y (entry_at (old n) (get g.nodes z))) (same_Some key k (sym is ∙ at)) (box_here n))
      (λ i k away at. box_aside n k (beside g canvas key number F is i k away at) (λ j holds. page_aside n j (not_below g F canvas i k j at holds))))
      refl
      ∙ sym (ap (change_box number (moved x y)) (within_suc w numbers (get g.nodes) (get g.boards) n canvas))

  pub page_moved : (m n c : ℕ) (path : List ℕ) → sub_reached g (Some c) path ≡ Some canvas → n ≡ length path + suc m
      → new n c ≡ edit_at path (change_box number (moved x y)) (old n c)
  page_moved m zero c path on low = absurd (nothing (length path) m low)
    where
      nothing : (n m : ℕ) → 0 ≡ n + suc m → ⊥
      nothing n m l = omega (arith, l)
  page_moved m (suc n) c [] on low =
      let here : c ≡ canvas = same_Some c canvas on in
      ap (new (suc n)) here ∙ page_here n ∙ ap (λ z. change_box number (moved x y) (old (suc n) z)) (sym here)
  page_moved m (suc n) c (i ∷ path) on low =
      let s = subs g c i path canvas on in
      let way = sub_leads g c canvas (i ∷ path) on in
      let apart : c ≢ canvas = not_around g F c i path canvas way in
      let change : Page → Page = edit_at path (change_box number (moved x y)) in
      within_suc w numbers (get h.nodes) (get g.boards) n c
      ∙ page_changed w w numbers numbers (get g.nodes) (get h.nodes) (old n) (new n) (inside change) i s.key (get g.boards c) s.is
      (map_changed (λ k. entry_at (old n) (get g.nodes k)) (λ k. entry_at (new n) (get h.nodes k)) (inside change) i (keys_at g c)
      (λ k at. subst (λ z. entry_at (new n) (get h.nodes z) ≡ inside change (entry_at (old n) (get g.nodes z))) (same_Some s.key k (sym s.is ∙ at))
      (ap (entry_at (new n)) (A.others s.key (elsewhere g canvas key number F is c i s.key apart s.is))
      ∙ sub_entry (old n) (new n) (get g.nodes s.key) s.inner change s.sub (page_moved m n s.inner path s.on (fewer n (length path) m low))))
      (λ i2 k away at. box_aside n k (elsewhere g canvas key number F is c i2 k apart at) (λ j inner. page_aside n j (not_beside g F c i path canvas i2 k j way away at inner))))
      refl
      ∙ sym (ap (λ (p : Page). with_elements (at_place i (inside change) (listed p.boxes)) p) (within_suc w numbers (get g.nodes) (get g.boards) n c))
    where
      fewer : (n l m : ℕ) → suc n ≡ suc l + suc m → n ≡ l + suc m
      fewer n l m h = omega (arith, h)

-- ---- the document

pub path_low : (g : Grove) → Forest g → (path : List ℕ) (canvas : ℕ) → sub_reached g (Some g.root) path ≡ Some canvas → length path ≤ 256
path_low g F path canvas on =
    shallow (depth_of (get g.boards canvas)) (depth_of (get g.boards g.root)) (length path) (deep_as g F path g.root canvas (sub_leads g g.root canvas path on)) F.rooted.2 (F.shallow canvas)
  where
    shallow : (d r l : ℕ) → d ≡ r + l → r ≡ 0 → d < 257 → l ≤ 256
    shallow d r l a b c = omega (arith, a, b, c)

pub page_after : (g h : Grove) (canvas key number : ℕ) (x y : ℤ) (path : List ℕ) (w : Web) (numbers : List ℕ) → Forest g → slice_get (keys_at g canvas) number ≡ Some key
    → Alters g h key (standing_at x y) → sub_reached g (Some g.root) path ≡ Some canvas
    → present_page h w numbers ≡ edit_at path (change_box number (moved x y)) (present_page g w numbers)
page_after g h canvas key number x y path w numbers F is A on =
    let low : length path ≤ 256 = path_low g F path canvas on in
    ap (λ (s : Slab Board). page_within w numbers (get h.nodes) (get s) 257 h.root) A.boards
    ∙ ap (page_within w numbers (get h.nodes) (get g.boards) 257) A.root
    ∙ page_moved g h canvas key number x y F is A w numbers (256 - length path) 257 g.root path on (whole (length path) low)
  where
    whole : (l : ℕ) → l ≤ 256 → 257 ≡ l + suc (256 - l)
    whole l h = omega (arith, h)
