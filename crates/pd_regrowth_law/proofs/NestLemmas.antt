-- A canvas of a document grows again if the whole does, and the whole with another canvas there if that one does.
use Rattle.std.proofs.Common.{◌≡◌, ℕ, suc, ◌+◌, List, [], ◌∷◌, ◌++◌, Option, None, refl, sym, ap, ◌∙◌, subst, arith, append-nil}
use Rattle.pd_atom.specs.Names.{Names}
use Rattle.pd_atom.specs.declared.Atom.{Atom}
use Rattle.pd_object.specs.declared.kinds.Kind.TheVariants as kind
use Rattle.pd_canvas.specs.Pages.{Sub, End, Entry, listed}
use Rattle.pd_library.specs.declared.answers.Answer.{Answer}
use Rattle.pd_tree.specs.declared.rows.Sheet.{Sheet}
use Rattle.pd_tree.specs.Trees.{Cell, Trees, Done, Holder, Tree, join, weight, sheet_of, box_with, document_boxes, document_in, own_zeros, zeros_in, zeros_of}
use Rattle.pd_growth.specs.Steps.{Stock, Step, gives, goes_on, ◌>>=◌, counted, numbered, brought}
use Rattle.pd_growth.specs.Making.{Around, Subpatch, made}
use Rattle.pd_growth.specs.Growth.{cell_of, canvas_grown, receiver_bytes, receiver_brought, box_made, own_text, box_grown, page_grown, without_ending, around_root}
use Rattle.pd_regrowth_law.specs.Regrowth.{stock}
use Rattle.pd_regrowth_law.specs.Suits.{AreOf, TextsOf, IsLibraryOf}
use Rattle.pd_regrowth_law.specs.Canvases.{Site, IsSite, BoxRegrows, ListRegrows, Regrows, PatchRegrows, CanvasRegrows, Nest, Alone, Inside, nested, AreSubpatches, left_outside, own_site}
use Rattle.pd_regrowth_law.proofs.StepLemmas.{ok_same, chain, box_went, extends_same, extends_on, counted_takes, numbered_takes, brought_takes}
use Rattle.pd_regrowth_law.proofs.TakeLemmas.{text_takes, receiver_takes, canvas_went, page_takes, patch_went}
use Rattle.pd_regrowth_law.proofs.ExpandLemmas.{are_of_more}
use Rattle.pd_regrowth_law.proofs.AgainLemmas.{texts_more, library_more, around_more, own_text_of, counted_by, text_step, receiver_again, brought_again, page_again}
use Rattle.pd_regrowth_law.proofs.PartLemmas.{one_listed, one_alone, page_listed, listed_page}
use Rattle.pd_regrowth_law.proofs.OwnLemmas.{own_parted, own_replaced, texts_before, texts_behind}

-- ---- a subpatch

-- what a subpatch went through
record SubWent (lib : ℕ → Option Answer) (root : List ℕ) (n : ℕ) (a : Around) (e : Entry) (w : Stock) (t : Trees) (v : Stock) : Type 0 where
  start : Stock
  text : List Atom
  named : Stock
  ready : Stock
  boxes : Trees
  counted_is : counted w ≡ gives tt start
  text_is : own_text a e.head start ≡ gives text named
  ready_is : receiver_brought a.is_top text named ≡ gives tt ready
  boxes_is : page_grown lib root n a e.page ready ≡ gives boxes v
  tree_is : Holder (cell_of e.head text kind.Canvas None) (sheet_of a.zero a.arguments e.page) boxes Done ≡ t

sub_went : (lib : ℕ → Option Answer) (root : List ℕ) (n : ℕ) (a : Around) (e : Entry) (w : Stock) (t : Trees) (v : Stock) → e.head.form ≡ Sub
    → box_grown lib root (suc n) (page_grown lib root n) a e w ≡ gives t v → SubWent lib root n a e w t v
sub_went lib root n a e w t v f h =
    let inner = page_grown lib root n in
    let b = box_went lib root (suc n) inner a e w t v h in
    let is : Subpatch ≡ b.making =
    ok_same (made lib root (suc n) a b.named.names e.head.form b.text) Subpatch b.making (ap (λ y. made lib root (suc n) a b.named.names y b.text) f) b.made_is in
    let box : box_made inner a e b.text Subpatch b.named ≡ gives t v = subst (λ m. box_made inner a e b.text m b.named ≡ gives t v) (sym is) b.box_is in
    let c = chain (receiver_brought a.is_top b.text b.named) (λ _ u. canvas_grown inner a e.page e.head b.text u) t v box in
    let g = canvas_went inner a e.page e.head b.text c.stock t v c.next in
    record {
      start = b.start;
      text = b.text;
      named = b.named;
      ready = c.stock;
      boxes = g.boxes;
      counted_is = b.counted_is;
      text_is = b.text_is;
      ready_is = c.first;
      boxes_is = g.boxes_is;
      tree_is = g.tree_is;
    }

abbrev cell_in : Cell → Trees → Cell
cell_in d (Holder c s inner rest) = c
cell_in d t = d

abbrev sheet_in : Sheet → Trees → Sheet
sheet_in d (Holder c s inner rest) = s
sheet_in d t = d

abbrev inner_in : Trees → Trees
inner_in (Holder c s inner rest) = inner
inner_in t = t

abbrev sub_entry : Cell → Tree → Entry
sub_entry c t = record { head = c.head; page = document_in t }

sub_alone : (s : Site) (left : ℕ) (c : Cell) (t : Tree) → c.head.form ≡ Sub → Regrows s left (Holder c t.sheet t.boxes Done)
    → BoxRegrows s left (sub_entry c t) (Holder c t.sheet t.boxes Done)
sub_alone s left c t f h =
    one_alone s left (sub_entry c t) (Holder c t.sheet t.boxes Done)
    (subst (λ y. ListRegrows s left (listed (box_with y c.head t.sheet (document_boxes t.boxes) End)) (Holder c t.sheet t.boxes Done)) f h)

sub_listed : (s : Site) (left : ℕ) (c : Cell) (t : Tree) → c.head.form ≡ Sub → BoxRegrows s left (sub_entry c t) (Holder c t.sheet t.boxes Done)
    → Regrows s left (Holder c t.sheet t.boxes Done)
sub_listed s left c t f h =
    subst (λ y. ListRegrows s left (listed (box_with y c.head t.sheet (document_boxes t.boxes) End)) (Holder c t.sheet t.boxes Done)) (sym f)
    (one_listed s left (sub_entry c t) (Holder c t.sheet t.boxes Done) h)

-- the texts of a subpatch: its own, and those of its canvas
pub record SubTexts (names : Names) (c : Cell) (t : Tree) : Type 0 where
  pub text : AreOf names c.head.text
  pub inner : TextsOf names (document_boxes t.boxes)

pub sub_texts : (names : Names) (c : Cell) (t : Tree) → c.head.form ≡ Sub → TextsOf names (document_boxes (Holder c t.sheet t.boxes Done)) → SubTexts names c t
sub_texts names c t f o =
    let p = subst (λ y. TextsOf names (box_with y c.head t.sheet (document_boxes t.boxes) End)) f o in
    record { text = p.0; inner = p.1 }

-- the canvas of a subpatch grows again
pub canvas_inside : (s : Site) (n : ℕ) (c : Cell) (t : Tree) → IsSite s → c.head.form ≡ Sub → TextsOf s.names (document_boxes (Holder c t.sheet t.boxes Done))
    → Regrows s (suc n) (Holder c t.sheet t.boxes Done) → CanvasRegrows s n t
canvas_inside s n c t i f o h =
    let e = sub_entry c t in
    let box = Holder c t.sheet t.boxes Done in
    let w = stock s.names (zeros_in box ++ []) (weight box + 0) in
    let v = stock s.names [] 0 in
    let g = sub_went s.lib s.root n s.around e w box v f (sub_alone s (suc n) c t f h s.names [] 0 (extends_same s.names)) in
    let up = extends_on s.names g.named.names g.ready.names
    (extends_on s.names g.start.names g.named.names (counted_takes w g.start g.counted_is).names (text_takes s.around e.head g.start g.text g.named g.text_is).names)
    (receiver_takes s.around.is_top g.text g.named g.ready tt g.ready_is).names in
    record {
      zero = sym (ap (λ y. (sheet_in t.sheet y).zero) g.tree_is);
      arguments = sym (ap (λ y. (sheet_in t.sheet y).arguments) g.tree_is);
      boxes = subst (ListRegrows s n (listed (document_boxes t.boxes))) (ap inner_in g.tree_is)
          (page_listed s n e.page g.boxes
          (page_again s.lib s.lib s.root n s.around e.page g.ready v g.boxes (λ _ _ k. k) (library_more s.names g.ready.names up s.lib i.library)
          (around_more s.names g.ready.names up s.around i.around) (texts_more s.names g.ready.names up e.page.boxes (sub_texts s.names c t f o).inner) g.boxes_is));
    }

sheet_is : (s : Site) (left : ℕ) (u : Tree) → CanvasRegrows s left u → sheet_of s.around.zero s.around.arguments (document_in u) ≡ u.sheet
sheet_is s left u k =
    ap (λ z. sheet_of z s.around.arguments (document_in u)) (sym k.zero) ∙ ap (λ l. sheet_of u.sheet.zero l (document_in u)) (sym k.arguments)

-- a subpatch grows again with another canvas that does
pub canvas_other : (s : Site) (n : ℕ) (c : Cell) (t u : Tree) → IsSite s → c.head.form ≡ Sub → TextsOf s.names (document_boxes (Holder c t.sheet t.boxes Done))
    → Regrows s (suc n) (Holder c t.sheet t.boxes Done) → CanvasRegrows s n u → Regrows s (suc n) (Holder c u.sheet u.boxes Done)
canvas_other s n c t u i f o h k =
    let a = s.around in
    let e = sub_entry c t in
    let d = sub_entry c u in
    let inner = page_grown s.lib s.root n in
    let box = Holder c t.sheet t.boxes Done in
    let other = Holder c u.sheet u.boxes Done in
    let w = stock s.names (zeros_in box ++ []) (weight box + 0) in
    let v = stock s.names [] 0 in
    let g = sub_went s.lib s.root n a e w box v f (sub_alone s (suc n) c t f h s.names [] 0 (extends_same s.names)) in
    let up_start = (counted_takes w g.start g.counted_is).names in
    let up_named = (text_takes a e.head g.start g.text g.named g.text_is).names in
    let up_ready = (receiver_takes a.is_top g.text g.named g.ready tt g.ready_is).names in
    let up_all = (page_takes s.lib s.root n a e.page g.ready v g.boxes g.boxes_is).names in
    let i_start = around_more s.names g.start.names up_start a i.around in
    let text = are_of_more s.names g.start.names up_start c.head.text (sub_texts s.names c t f o).text in
    let o_named = own_text_of a e.head g.start g.named g.text i_start text g.text_is in
    let after : List Atom → Stock → Step Trees = λ y z. goes_on (made s.lib s.root (suc n) a z.names c.head.form y) z (λ m x. box_made inner a d y m x) in
    sub_listed s (suc n) c u f (λ names2 more room x.
    let ready = extends_on g.ready.names s.names names2 up_all x in
    let named = extends_on g.named.names g.ready.names names2 up_ready ready in
    let zs = zeros_in other ++ more in
    let m = weight u.boxes + room in
    let zeros : zs ≡ zeros_in u.boxes ++ more =
    ap (λ y. (own_zeros y u.sheet ++ (zeros_in u.boxes ++ [])) ++ more) f ∙ ap (λ l. l ++ more) (append-nil (zeros_in u.boxes)) in
    ap (λ y. y >>= (λ _ z. own_text a c.head z >>= after)) (counted_by names2 zs (weight other + room) m (omega arith))
    ∙ ap (λ y. y >>= after) (text_step a c.head g.start g.named g.text names2 zs m i_start text named g.text_is)
    ∙ ap (λ r. goes_on r (stock names2 zs m) (λ y z. box_made inner a d g.text y z)) (ap (λ y. made s.lib s.root (suc n) a names2 y g.text) f)
    ∙ ap (λ y. y >>= (λ _ z. canvas_grown inner a d.page c.head g.text z))
    (receiver_again a.is_top g.text g.named g.ready tt names2 zs m o_named up_ready ready g.ready_is)
    ∙ ap (λ l. canvas_grown inner a d.page c.head g.text (stock names2 l m)) zeros
    ∙ ap (λ y. y >>= (λ boxes z. gives (Holder (cell_of c.head g.text kind.Canvas None) (sheet_of a.zero a.arguments d.page) boxes Done) z))
    (listed_page s n d.page u.boxes k.boxes names2 more room x)
    ∙ ap (λ y. gives (Holder y (sheet_of a.zero a.arguments d.page) u.boxes Done) (stock names2 more room)) (ap (cell_in c) g.tree_is)
    ∙ ap (λ y. gives (Holder c y u.boxes Done) (stock names2 more room)) (sheet_is s n u k))

-- ---- nests

-- the box that holds the next canvas of a nest
record HolderRegrows (s : Site) (n : ℕ) (c : Cell) (t : Tree) : Type 0 where
  box : Regrows s (suc n) (Holder c t.sheet t.boxes Done)
  texts : TextsOf s.names (document_boxes (Holder c t.sheet t.boxes Done))

holder_inside : (s : Site) (n : ℕ) (before : Trees) (c : Cell) (t : Tree) (behind : Trees) → IsSite s
    → TextsOf s.names (document_boxes (join before (Holder c t.sheet t.boxes behind))) → Regrows s (suc n) (join before (Holder c t.sheet t.boxes behind))
    → HolderRegrows s n c t
holder_inside s n before c t behind i o h =
    let box = Holder c t.sheet t.boxes Done in
    let p = own_parted s (suc n) before (join box behind) i o h in
    let texts = texts_behind s.names before (join box behind) o in
    record { box = (own_parted s (suc n) box behind i texts p.1).0; texts = texts_before s.names box behind texts }

pub nest_inside : (s : Site) (n : ℕ) (nest : Nest) (t : Tree) → IsSite s → AreSubpatches nest → TextsOf s.names (document_boxes (nested nest t).boxes)
    → CanvasRegrows s (left_outside nest n) (nested nest t) → CanvasRegrows s n t
nest_inside s n Alone t i f o h = h
nest_inside s n (Inside sheet before c nest behind) t i f o h =
    let m = left_outside nest n in
    let g = holder_inside s m before c (nested nest t) behind i o h.boxes in
    nest_inside s n nest t i f.1 (sub_texts s.names c (nested nest t) f.0 g.texts).inner (canvas_inside s m c (nested nest t) i f.0 g.texts g.box)

pub nest_other : (s : Site) (n : ℕ) (nest : Nest) (t u : Tree) → IsSite s → AreSubpatches nest → TextsOf s.names (document_boxes (nested nest t).boxes)
    → CanvasRegrows s (left_outside nest n) (nested nest t) → CanvasRegrows s n u → CanvasRegrows s (left_outside nest n) (nested nest u)
nest_other s n Alone t u i f o h k = k
nest_other s n (Inside sheet before c nest behind) t u i f o h k =
    let m = left_outside nest n in
    let old = nested nest t in
    let new = nested nest u in
    let g = holder_inside s m before c old behind i o h.boxes in
    let inside = nest_other s n nest t u i f.1 (sub_texts s.names c old f.0 g.texts).inner (canvas_inside s m c old i f.0 g.texts g.box) k in
    record {
      zero = h.zero;
      arguments = h.arguments;
      boxes = own_replaced s (suc m) before (Holder c old.sheet old.boxes Done) (Holder c new.sheet new.boxes Done) behind i o h.boxes
          (canvas_other s m c old new i f.0 g.texts g.box inside);
    }

-- ---- patches

pub own_suits : (lib : ℕ → Option Answer) (file : List ℕ) (names : Names) (own : ℕ) → IsLibraryOf names lib → IsSite (own_site lib file names own)
own_suits lib file names own l = record { library = l; around = record { arguments = tt; inside = tt } }

pub patch_canvas : (lib : ℕ → Option Answer) (file : List ℕ) (names : Names) (t : Tree) → IsLibraryOf names lib → TextsOf names (document_boxes t.boxes)
    → PatchRegrows lib file names t → CanvasRegrows (own_site lib file names t.sheet.zero) 255 t
patch_canvas lib file names t l o h =
    let p = document_in t in
    let w = stock names (zeros_of t ++ []) (weight t.boxes + 0) in
    let v = stock names [] 0 in
    let g = patch_went lib file p w t v (h names [] 0 (extends_same names)) in
    let up = extends_on names g.start.names g.named.names (numbered_takes w g.start g.own g.own_is).names (brought_takes (receiver_bytes file) g.start g.named tt g.name_is).names in
    let boxes = page_again lib lib (without_ending file) 255 (around_root g.own) p g.named v g.boxes (λ _ _ k. k) (library_more names g.named.names up lib l)
    (record { arguments = tt; inside = tt }) (texts_more names g.named.names up p.boxes o) g.boxes_is in
    let s = own_site lib file names g.own in
    record {
      zero = refl;
      arguments = sym (ap (λ (y : Tree). y.sheet.arguments) g.tree_is);
      boxes = subst (λ z. Regrows (own_site lib file names z) 255 t.boxes) (ap (λ (y : Tree). y.sheet.zero) g.tree_is)
          (subst (ListRegrows s 255 (listed (document_boxes t.boxes))) (ap (λ (y : Tree). y.boxes) g.tree_is) (page_listed s 255 p g.boxes boxes));
    }

pub patch_other : (lib lib2 : ℕ → Option Answer) (file : List ℕ) (names : Names) (t u : Tree)
    → PatchRegrows lib file names t → CanvasRegrows (own_site lib2 file names t.sheet.zero) 255 u → PatchRegrows lib2 file names u
patch_other lib lib2 file names t u h k names2 more room x =
    let p = document_in t in
    let q = document_in u in
    let w = stock names (zeros_of t ++ []) (weight t.boxes + 0) in
    let v = stock names [] 0 in
    let s = own_site lib2 file names t.sheet.zero in
    let g = patch_went lib file p w t v (h names [] 0 (extends_same names)) in
    let on = (page_takes lib (without_ending file) 255 (around_root g.own) p g.named v g.boxes g.boxes_is).names in
    let zs = zeros_in u.boxes ++ more in
    let n = weight u.boxes + room in
    let tree : ℕ → Trees → Tree = λ z boxes. record { sheet = sheet_of z [] q; boxes = boxes } in
    let after : ℕ → Stock → Step Tree = λ z y. brought (receiver_bytes file) y >>= (λ _ r.
    page_grown lib2 (without_ending file) 255 (around_root z) q r >>= (λ boxes b. gives (tree z boxes) b)) in
    ap (λ z. numbered (stock names2 ((z ∷ zeros_in u.boxes) ++ more) n) >>= after) k.zero
    ∙ ap (λ y. y >>= (λ _ r. page_grown lib2 (without_ending file) 255 (around_root t.sheet.zero) q r >>= (λ boxes b. gives (tree t.sheet.zero boxes) b)))
    (brought_again (receiver_bytes file) g.start g.named tt names2 zs n (extends_on g.named.names names names2 on x) g.name_is)
    ∙ ap (λ y. y >>= (λ boxes b. gives (tree t.sheet.zero boxes) b)) (listed_page s 255 q u.boxes k.boxes names2 more room x)
    ∙ ap (λ y. gives (record { sheet = y; boxes = u.boxes }) (stock names2 more room)) (sheet_is s 255 u k)

pub patch_inside : (lib : ℕ → Option Answer) (file : List ℕ) (names : Names) (n : ℕ) (nest : Nest) (t : Tree) → IsLibraryOf names lib → AreSubpatches nest
    → TextsOf names (document_boxes (nested nest t).boxes) → left_outside nest n ≡ 255 → PatchRegrows lib file names (nested nest t)
    → CanvasRegrows (own_site lib file names (nested nest t).sheet.zero) n t
patch_inside lib file names n nest t l f o e h =
    let s = own_site lib file names (nested nest t).sheet.zero in
    nest_inside s n nest t (own_suits lib file names (nested nest t).sheet.zero l) f o
    (subst (λ m. CanvasRegrows s m (nested nest t)) (sym e) (patch_canvas lib file names (nested nest t) l o h))

pub patch_edited : (lib : ℕ → Option Answer) (file : List ℕ) (names : Names) (n : ℕ) (nest : Nest) (t u : Tree) → IsLibraryOf names lib → AreSubpatches nest
    → TextsOf names (document_boxes (nested nest t).boxes) → left_outside nest n ≡ 255 → PatchRegrows lib file names (nested nest t)
    → CanvasRegrows (own_site lib file names (nested nest t).sheet.zero) n u → PatchRegrows lib file names (nested nest u)
patch_edited lib file names n nest t u l f o e h k =
    let s = own_site lib file names (nested nest t).sheet.zero in
    patch_other lib lib file names (nested nest t) (nested nest u) h
    (subst (λ m. CanvasRegrows s m (nested nest u)) e
    (nest_other s n nest t u (own_suits lib file names (nested nest t).sheet.zero l) f o
    (subst (λ m. CanvasRegrows s m (nested nest t)) (sym e) (patch_canvas lib file names (nested nest t) l o h)) k))
