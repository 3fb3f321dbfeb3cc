-- A patch with other boxes in one of its canvases grows again, in the table that the growth of those boxes left.
use Rattle.std.proofs.Common.{◌≡◌, ℕ, ◌≤◌, List, [], Option, sym, ◌∙◌, subst, arith}
use Rattle.pd_atom.specs.Names.{Names}
use Rattle.pd_canvas.specs.Pages.{Boxes, End, Page, listed}
use Rattle.pd_canvas.specs.Proper.{levels}
use Rattle.pd_library.specs.declared.answers.Answer.{Answer}
use Rattle.pd_tree.specs.declared.rows.Sheet.{Sheet}
use Rattle.pd_tree.specs.Trees.{Trees, Done, Leaf, Holder, Tree, join, weight, box_with, document_boxes, document_in, zeros_of}
use Rattle.pd_growth.specs.Steps.{Stock, gives}
use Rattle.pd_growth.specs.Growth.{boxes_grown, without_ending, around_root, grown}
use Rattle.pd_regrowth_law.specs.Regrowth.{inner_of, stock}
use Rattle.pd_regrowth_law.specs.Rewiring.{own_trimmed_tree, IsTreeAlike}
use Rattle.pd_regrowth_law.specs.Suits.{TextsOf, IsLibraryOf, AnswersAlike, HoldNone}
use Rattle.pd_regrowth_law.specs.Canvases.{Site, IsSite, ListRegrows, Regrows, PatchRegrows, CanvasRegrows, canvas_with, Nest, Alone, Inside, nested, AreSubpatches, left_outside, own_site}
use Rattle.pd_regrowth_law.proofs.StepLemmas.{no_boxes}
use Rattle.pd_regrowth_law.proofs.TakeLemmas.{several_take}
use Rattle.pd_regrowth_law.proofs.AgainLemmas.{texts_more, library_more, entries_of, several_again, patch_again}
use Rattle.pd_regrowth_law.proofs.DocumentLemmas.{boxes_stay, inner_stays}
use Rattle.pd_regrowth_law.proofs.AlikeLemmas.{patch_alike, patch_texts}
use Rattle.pd_regrowth_law.proofs.TrimLemmas.{own_tree_alike}
use Rattle.pd_regrowth_law.proofs.OwnLemmas.{own_replaced, holder_before, holder_texts, texts_before, texts_behind}
use Rattle.pd_regrowth_law.proofs.LastLemmas.{again_later}
use Rattle.pd_regrowth_law.proofs.NestLemmas.{sub_texts, own_suits, patch_inside, patch_edited}

-- ---- texts

pub texts_join : (names : Names) (t u : Trees) → TextsOf names (document_boxes t) → TextsOf names (document_boxes u) → TextsOf names (document_boxes (join t u))
texts_join names Done u o k = k
texts_join names (Leaf c t) u o k = (o.0, tt, texts_join names t u o.2 k)
texts_join names (Holder c s inner t) u o k =
    holder_before names c.head.form c.head s (document_boxes inner) (document_boxes t) (document_boxes (join t u)) o
    (texts_join names t u (holder_texts names c.head.form c.head s (document_boxes inner) (document_boxes t) o) k)

pub nest_texts : (names : Names) (nest : Nest) (t : Tree) → AreSubpatches nest → TextsOf names (document_boxes (nested nest t).boxes) → TextsOf names (document_boxes t.boxes)
nest_texts names Alone t f o = o
nest_texts names (Inside sheet before c nest behind) t f o =
    let inner = nested nest t in
    let box = Holder c inner.sheet inner.boxes Done in
    nest_texts names nest t f.1 (sub_texts names c inner f.0 (texts_before names box behind (texts_behind names before (join box behind) o))).inner

pub texts_nested : (names : Names) (nest : Nest) (t u : Tree) → AreSubpatches nest → TextsOf names (document_boxes (nested nest t).boxes) → TextsOf names (document_boxes u.boxes)
    → TextsOf names (document_boxes (nested nest u).boxes)
texts_nested names Alone t u f o k = k
texts_nested names (Inside sheet before c nest behind) t u f o k =
    let inner = nested nest t in
    let other = nested nest u in
    let box = Holder c inner.sheet inner.boxes Done in
    let after = texts_behind names before (join box behind) o in
    let p = sub_texts names c inner f.0 (texts_before names box behind after) in
    texts_join names before (Holder c other.sheet other.boxes behind) (texts_before names before (join box behind) o)
    (subst (λ y. TextsOf names (box_with y c.head other.sheet (document_boxes other.boxes) (document_boxes behind))) (sym f.0)
    (p.text, texts_nested names nest t u f.1 p.inner k, texts_behind names box behind after))

-- ---- other boxes in a canvas

pub canvas_changed : (s : Site) (n : ℕ) (sheet sheet2 : Sheet) (before old new behind : Trees) → IsSite s
    → TextsOf s.names (document_boxes (join before (join old behind))) → CanvasRegrows s n (canvas_with sheet (join before (join old behind)))
    → sheet2.zero ≡ sheet.zero → sheet2.arguments ≡ sheet.arguments → Regrows s n new → CanvasRegrows s n (canvas_with sheet2 (join before (join new behind)))
canvas_changed s n sheet sheet2 before old new behind i o h z a k =
    record { zero = z ∙ h.zero; arguments = a ∙ h.arguments; boxes = own_replaced s n before old new behind i o h.boxes k }

pub patch_grown : (lib : ℕ → Option Answer) (file : List ℕ) (left : ℕ) (nest : Nest) (sheet sheet2 : Sheet) (before old behind : Trees) (b : Boxes) (w v : Stock) (new : Trees)
    → IsLibraryOf w.names lib → AreSubpatches nest → left_outside nest left ≡ 255
    → TextsOf w.names (document_boxes (nested nest (canvas_with sheet (join before (join old behind)))).boxes)
    → PatchRegrows lib file w.names (nested nest (canvas_with sheet (join before (join old behind))))
    → sheet2.zero ≡ sheet.zero → sheet2.arguments ≡ sheet.arguments → TextsOf w.names b → levels b ≤ left → HoldNone b
    → boxes_grown lib (without_ending file) left (inner_of lib (without_ending file) left)
    (around_root (nested nest (canvas_with sheet (join before (join old behind)))).sheet.zero) (listed b) w ≡ gives new v
    → PatchRegrows lib file v.names (nested nest (canvas_with sheet2 (join before (join new behind))))
patch_grown lib file left nest sheet sheet2 before old behind b w v new l f e o h z a ob low none grows =
    let t = canvas_with sheet (join before (join old behind)) in
    let u = canvas_with sheet2 (join before (join new behind)) in
    let whole = nested nest t in
    let own = whole.sheet.zero in
    let root = without_ending file in
    let up = (several_take lib root left (around_root own) (listed b) w v new grows).names in
    let l2 = library_more w.names v.names up lib l in
    let o2 = texts_more w.names v.names up (document_boxes whole.boxes) o in
    let h2 = again_later (grown lib file (document_in whole)) whole w.names v.names (zeros_of whole) (weight whole.boxes) up h in
    let s = own_site lib file v.names own in
    let listed_again : ListRegrows s left (listed b) new =
    several_again lib lib root left (around_root own) (listed b) w v new (λ _ _ k. k) l (record { arguments = tt; inside = tt }) (entries_of w.names b ob) grows in
    let document : document_boxes new ≡ b = boxes_stay lib root left (inner_of lib root left) (around_root own) b w new v (inner_stays lib root left) low none grows in
    patch_edited lib file v.names left nest t u l2 f o2 e h2
    (canvas_changed s left sheet sheet2 before old new behind (own_suits lib file v.names own l2) (nest_texts v.names nest t f o2)
    (patch_inside lib file v.names left nest t l2 f o2 e h2) z a (subst (λ y. ListRegrows s left (listed y) new) (sym document) listed_again))

-- ---- other wires in a canvas

pub patch_wired : (lib : ℕ → Option Answer) (file : List ℕ) (names : Names) (left : ℕ) (nest : Nest) (sheet sheet2 : Sheet) (boxes : Trees) → IsLibraryOf names lib → AreSubpatches nest
    → TextsOf names (document_boxes (nested nest (canvas_with sheet boxes)).boxes) → left_outside nest left ≡ 255
    → PatchRegrows lib file names (nested nest (canvas_with sheet boxes)) → sheet2.zero ≡ sheet.zero → sheet2.arguments ≡ sheet.arguments
    → PatchRegrows lib file names (nested nest (canvas_with sheet2 boxes))
patch_wired lib file names left nest sheet sheet2 boxes l f o e h z a =
    let k = patch_inside lib file names left nest (canvas_with sheet boxes) l f o e h in
    patch_edited lib file names left nest (canvas_with sheet boxes) (canvas_with sheet2 boxes) l f o e h
    (record { zero = z ∙ k.zero; arguments = a ∙ k.arguments; boxes = k.boxes })

-- ---- a patch that grew

pub patch_opened : (lib lib2 : ℕ → Option Answer) (file : List ℕ) (p : Page) (w v : Stock) (t u : Tree) → AnswersAlike lib lib2 → IsLibraryOf w.names lib
    → TextsOf w.names p.boxes → grown lib file p w ≡ gives t v → IsTreeAlike t u → PatchRegrows lib2 file v.names u
patch_opened lib lib2 file p w v t u like l o h alike =
    patch_again lib lib2 file (document_in u) w v u like l (patch_texts lib file p w v t u w.names h alike o) (patch_alike lib file p w v t u h alike)

pub own_opened : (lib lib2 : ℕ → Option Answer) (file : List ℕ) (p : Page) (w v : Stock) (t : Tree) → AnswersAlike lib lib2 → IsLibraryOf w.names lib
    → TextsOf w.names p.boxes → grown lib file p w ≡ gives t v → PatchRegrows lib2 file v.names (own_trimmed_tree t)
own_opened lib lib2 file p w v t like l o h = patch_opened lib lib2 file p w v t (own_trimmed_tree t) like l o h (own_tree_alike t)

pub patch_less : (lib : ℕ → Option Answer) (file : List ℕ) (names : Names) (left : ℕ) (nest : Nest) (sheet sheet2 : Sheet) (before old behind : Trees)
    → IsLibraryOf names lib → AreSubpatches nest → left_outside nest left ≡ 255
    → TextsOf names (document_boxes (nested nest (canvas_with sheet (join before (join old behind)))).boxes)
    → PatchRegrows lib file names (nested nest (canvas_with sheet (join before (join old behind))))
    → sheet2.zero ≡ sheet.zero → sheet2.arguments ≡ sheet.arguments
    → PatchRegrows lib file names (nested nest (canvas_with sheet2 (join before behind)))
patch_less lib file names left nest sheet sheet2 before old behind l f e o h z a =
    let w = stock names [] 0 in
    patch_grown lib file left nest sheet sheet2 before old behind End w w Done l f e o h z a tt (none left) tt
    (no_boxes lib (without_ending file) left (inner_of lib (without_ending file) left) (around_root (nested nest (canvas_with sheet (join before (join old behind)))).sheet.zero) w)
  where
    none : (n : ℕ) → 0 ≤ n
    none n = omega arith
