-- Boxes grow again exactly if each part of them does.
use Rattle.std.proofs.Common.{◌≡◌, ℕ, zero, suc, ◌+◌, List, [], ◌∷◌, ◌++◌, length, Option, drop, refl, sym, ap, ◌∙◌, subst, arith, append_assoc, append-nil, add-one, length-append}
use Rattle.pd_atom.specs.Names.{Names, Extends}
use Rattle.pd_atom.specs.declared.Atom.{Atom}
use Rattle.pd_naming.specs.Naming.{arguments_of}
use Rattle.pd_canvas.specs.Pages.{Page, Entry, elements_of}
use Rattle.pd_library.specs.declared.answers.Answer.{Answer}
use Rattle.pd_tree.specs.Trees.{Trees, Done, Leaf, Holder, join, width, weight, zeros_in}
use Rattle.pd_growth.specs.Steps.{Stock, Step, gives, ◌>>=◌, numbered}
use Rattle.pd_growth.specs.Making.{Around, Making, Plain, Subpatch, File}
use Rattle.pd_growth.specs.Growth.{Inner, cell_of, canvas_grown, receiver_brought, around_instance, box_made, box_grown, boxes_grown}
use Rattle.pd_regrowth_law.specs.Regrowth.{inner_of, stock}
use Rattle.pd_regrowth_law.specs.Suits.{AreEntriesOf, TextsOf}
use Rattle.pd_regrowth_law.specs.Canvases.{Site, IsSite, GivesBoxes, BoxRegrows, ListRegrows, PageRegrows, AreRegrown, PartsRegrow}
use Rattle.pd_regrowth_law.proofs.StepLemmas.{no_boxes, more_boxes, page_is, gives_same, gives_stock, chain, last, box_went, boxes_went, extends_same}
use Rattle.pd_regrowth_law.proofs.TakeLemmas.{zeros_join, weight_join, canvas_went, several_take}
use Rattle.pd_regrowth_law.proofs.AgainLemmas.{again_at, entries_of, entries_more, library_more, around_more, several_again}
use Rattle.pd_regrowth_law.proofs.SplitLemmas.{grown_splits}

-- ---- an element gives one box

making_wide : (inner : Inner) (a : Around) (e : Entry) (text : List Atom) (m : Making) (w : Stock) (t : Trees) (v : Stock)
    → box_made inner a e text m w ≡ gives t v → width t ≡ 1
making_wide inner a e text (Plain k fault) w t v h = ap width (sym (gives_same (Leaf (cell_of e.head text k fault) Done) t w v h))
making_wide inner a e text Subpatch w t v h =
    let c = chain (receiver_brought a.is_top text w) (λ _ u. canvas_grown inner a e.page e.head text u) t v h in
    ap width (sym (canvas_went inner a e.page e.head text c.stock t v c.next).tree_is)
making_wide inner a e text (File s p) w t v h =
    let args = arguments_of (drop 1 text) in
    let c = chain (numbered w) (λ z u. canvas_grown inner (around_instance a z s args) p e.head text u) t v h in
    ap width (sym (canvas_went inner (around_instance a c.value s args) p e.head text c.stock t v c.next).tree_is)

pub width_join : (t r : Trees) → width (join t r) ≡ width t + width r
width_join Done r = omega arith
width_join (Leaf c t) r = omega (arith, width_join t r)
width_join (Holder c s inner t) r = omega (arith, width_join t r)

pub one_wide : (lib : ℕ → Option Answer) (root : List ℕ) (left : ℕ) (inner : Inner) (a : Around) (e : Entry) (w : Stock) (t : Trees) (v : Stock)
    → box_grown lib root left inner a e w ≡ gives t v → width t ≡ 1
one_wide lib root left inner a e w t v h =
    let b = box_went lib root left inner a e w t v h in
    making_wide inner a e b.text b.making b.named t v b.box_is

pub several_wide : (lib : ℕ → Option Answer) (root : List ℕ) (left : ℕ) (inner : Inner) (a : Around) (es : List Entry) (w : Stock) (t : Trees) (v : Stock)
    → boxes_grown lib root left inner a es w ≡ gives t v → width t ≡ length es
several_wide lib root left inner a [] w t v h = ap width (sym (gives_same Done t w v (sym (no_boxes lib root left inner a w) ∙ h)))
several_wide lib root left inner a (e ∷ es) w t v h =
    let b = boxes_went lib root left inner a e es w t v h in
    let all : width (join b.box b.rest) ≡ width t = ap width b.all_is in
    omega (arith, all, width_join b.box b.rest, one_wide lib root left inner a e w b.box b.between b.box_is, several_wide lib root left inner a es b.between b.rest v b.rest_is)

-- ---- what two parts are joined of

abbrev front : ℕ → Trees → Trees
front zero t = Done
front (suc n) Done = Done
front (suc n) (Leaf c rest) = Leaf c (front n rest)
front (suc n) (Holder c s inner rest) = Holder c s inner (front n rest)

abbrev back : ℕ → Trees → Trees
back zero t = t
back (suc n) Done = Done
back (suc n) (Leaf c rest) = back n rest
back (suc n) (Holder c s inner rest) = back n rest

front_join : (t r : Trees) → front (width t) (join t r) ≡ t
front_join Done r = refl
front_join (Leaf c t) r = ap (λ n. front n (Leaf c (join t r))) (add-one (width t)) ∙ ap (Leaf c) (front_join t r)
front_join (Holder c s inner t) r = ap (λ n. front n (Holder c s inner (join t r))) (add-one (width t)) ∙ ap (Holder c s inner) (front_join t r)

back_join : (t r : Trees) → back (width t) (join t r) ≡ r
back_join Done r = refl
back_join (Leaf c t) r = ap (λ n. back n (Leaf c (join t r))) (add-one (width t)) ∙ back_join t r
back_join (Holder c s inner t) r = ap (λ n. back n (Holder c s inner (join t r))) (add-one (width t)) ∙ back_join t r

pub first_same : (t r u x : Trees) → width t ≡ width u → join t r ≡ join u x → t ≡ u
first_same t r u x w h = sym (front_join t r) ∙ ap (front (width t)) h ∙ ap (λ n. front n (join u x)) w ∙ front_join u x

pub rest_same : (t r u x : Trees) → width t ≡ width u → join t r ≡ join u x → r ≡ x
rest_same t r u x w h = sym (back_join t r) ∙ ap (back (width t)) h ∙ ap (λ n. back n (join u x)) w ∙ back_join u x

pub join_done : (t : Trees) → join t Done ≡ t
join_done Done = refl
join_done (Leaf c t) = ap (Leaf c) (join_done t)
join_done (Holder c s inner t) = ap (Holder c s inner) (join_done t)

-- ---- tables that go on in one another are one

nothing_more : (l : Names) → length l ≡ 0 → l ≡ []
nothing_more [] h = refl
nothing_more (x ∷ l) h = absurd (some (length l) h)
  where
    some : (n : ℕ) → suc n ≡ 0 → ⊥
    some n h = omega (arith, h)

pub same_names : (a b : Names) → Extends a b → Extends b a → b ≡ a
same_names a b f g =
    let whole : length a ≡ length ((a ++ f.0) ++ g.0) = ap length (g.1 ∙ ap (λ l. l ++ g.0) f.1) in
    f.1 ∙ ap (λ l. a ++ l) (nothing_more f.0 (omega (arith, whole, length-append (a ++ f.0) g.0, length-append a f.0))) ∙ append-nil a

-- ---- two parts

-- the boxes grow again as a whole if each part does
pub joined : (s : Site) (left : ℕ) (es fs : List Entry) (t u : Trees) → ListRegrows s left es t → ListRegrows s left fs u
    → ListRegrows s left (es ++ fs) (join t u)
joined s left es fs t u h k names2 more room x =
    let grown : List Entry → Stock → Step Trees = boxes_grown s.lib s.root left (inner_of s.lib s.root left) s.around in
    let zs = zeros_in (join t u) ++ more in
    let n = weight (join t u) + room in
    grown_splits s.lib s.root left (inner_of s.lib s.root left) s.around es fs (stock names2 zs n)
    ∙ ap (λ y. y >>= (λ first v. grown fs v >>= (λ rest z. gives (join first rest) z)))
    (again_at (grown es) t s.names (zeros_in t) (weight t) h names2 zs (zeros_in u ++ more) n (weight u + room) x
    (ap (λ y. y ++ more) (zeros_join t u) ∙ append_assoc (zeros_in t) (zeros_in u) more) (omega (arith, weight_join t u)))
    ∙ ap (λ y. y >>= (λ rest z. gives (join t rest) z)) (k names2 more room x)

-- what two parts went through
record PartsWent (grown : List Entry → Stock → Step Trees) (es fs : List Entry) (w : Stock) (t : Trees) (v : Stock) : Type 0 where
  first : Trees
  between : Stock
  rest : Trees
  first_is : grown es w ≡ gives first between
  rest_is : grown fs between ≡ gives rest v
  all_is : join first rest ≡ t

parts_went : (grown : List Entry → Stock → Step Trees) (es fs : List Entry) (w : Stock) (t : Trees) (v : Stock)
    → (grown es w >>= (λ first u. grown fs u >>= (λ rest z. gives (join first rest) z))) ≡ gives t v → PartsWent grown es fs w t v
parts_went grown es fs w t v h =
    let c = chain (grown es w) (λ first u. grown fs u >>= (λ rest z. gives (join first rest) z)) t v h in
    let d = last (grown fs c.stock) (λ rest. join c.value rest) t v c.next in
    record { first = c.value; between = c.stock; rest = d.value; first_is = c.first; rest_is = d.first; all_is = d.all }

-- and each part grows again if the whole does
pub parted : (s : Site) (left : ℕ) (es fs : List Entry) (t : Trees) → IsSite s → AreEntriesOf s.names es → AreEntriesOf s.names fs
    → ListRegrows s left (es ++ fs) t → PartsRegrow s left es fs t
parted s left es fs t i o q h =
    let grown : List Entry → Stock → Step Trees = boxes_grown s.lib s.root left (inner_of s.lib s.root left) s.around in
    let w = stock s.names (zeros_in t ++ []) (weight t + 0) in
    let v = stock s.names [] 0 in
    let g = parts_went grown es fs w t v
    (sym (grown_splits s.lib s.root left (inner_of s.lib s.root left) s.around es fs w) ∙ h s.names [] 0 (extends_same s.names)) in
    let up = (several_take s.lib s.root left s.around es w g.between g.first g.first_is).names in
    let on = (several_take s.lib s.root left s.around fs g.between v g.rest g.rest_is).names in
    record {
      first = g.first;
      rest = g.rest;
      all = sym g.all_is;
      before = subst (λ n. GivesBoxes (grown es) n g.first) (same_names s.names g.between.names up on)
          (several_again s.lib s.lib s.root left s.around es w g.between g.first (λ _ _ k. k) i.library i.around o g.first_is);
      behind = several_again s.lib s.lib s.root left s.around fs g.between v g.rest (λ _ _ k. k) (library_more s.names g.between.names up s.lib i.library)
          (around_more s.names g.between.names up s.around i.around) (entries_more s.names g.between.names up fs q) g.rest_is;
    }

-- ---- one box

pub one_listed : (s : Site) (left : ℕ) (e : Entry) (t : Trees) → BoxRegrows s left e t → ListRegrows s left (e ∷ []) t
one_listed s left e t h names2 more room x =
    let inner = inner_of s.lib s.root left in
    more_boxes s.lib s.root left inner s.around e [] (stock names2 (zeros_in t ++ more) (weight t + room))
    ∙ ap (λ y. y >>= (λ box v. boxes_grown s.lib s.root left inner s.around [] v >>= (λ rest u. gives (join box rest) u))) (h names2 more room x)
    ∙ ap (λ y. y >>= (λ rest u. gives (join t rest) u)) (no_boxes s.lib s.root left inner s.around (stock names2 more room))
    ∙ ap (λ y. gives y (stock names2 more room)) (join_done t)

pub one_alone : (s : Site) (left : ℕ) (e : Entry) (t : Trees) → ListRegrows s left (e ∷ []) t → BoxRegrows s left e t
one_alone s left e t h names2 more room x =
    let inner = inner_of s.lib s.root left in
    let v = stock names2 more room in
    let b = boxes_went s.lib s.root left inner s.around e [] (stock names2 (zeros_in t ++ more) (weight t + room)) t v (h names2 more room x) in
    let none = sym (no_boxes s.lib s.root left inner s.around b.between) ∙ b.rest_is in
    b.box_is ∙ ap (gives b.box) (gives_stock Done b.rest b.between v none)
    ∙ ap (λ y. gives y v) (sym (join_done b.box) ∙ ap (join b.box) (gives_same Done b.rest b.between v none) ∙ b.all_is)

-- ---- all boxes

pub nothing_regrows : (s : Site) (left : ℕ) → ListRegrows s left [] Done
nothing_regrows s left names2 more room x =
    no_boxes s.lib s.root left (inner_of s.lib s.root left) s.around (stock names2 more (0 + room)) ∙ ap (λ n. gives Done (stock names2 more n)) (none room)
  where
    none : (n : ℕ) → 0 + n ≡ n
    none n = omega arith

pub first_again : (s : Site) (left : ℕ) (e : Entry) (es : List Entry) (t r : Trees) → BoxRegrows s left e t → ListRegrows s left es r
    → ListRegrows s left (e ∷ es) (join t r)
first_again s left e es t r g h = joined s left (e ∷ []) es t r (one_listed s left e t g) h

pub regrown_listed : (s : Site) (left : ℕ) (es : List Entry) (t : Trees) → AreRegrown s left es t → ListRegrows s left es t
regrown_listed s left [] t h = subst (ListRegrows s left []) (sym h) (nothing_regrows s left)
regrown_listed s left (e ∷ es) t h =
    subst (ListRegrows s left (e ∷ es)) (sym h.2) (first_again s left e es h.0 h.1 h.3 (regrown_listed s left es h.1 h.4))

pub listed_regrown : (s : Site) (left : ℕ) (es : List Entry) (t : Trees) → IsSite s → AreEntriesOf s.names es → ListRegrows s left es t
    → AreRegrown s left es t
listed_regrown s left [] t i o h =
    let w = stock s.names (zeros_in t ++ []) (weight t + 0) in
    sym (gives_same Done t w (stock s.names [] 0)
    (sym (no_boxes s.lib s.root left (inner_of s.lib s.root left) s.around w) ∙ h s.names [] 0 (extends_same s.names)))
listed_regrown s left (e ∷ es) t i o h =
    let p = parted s left (e ∷ []) es t i (o.0, tt) o.1 h in
    (p.first, p.rest, p.all, one_alone s left e p.first p.before, listed_regrown s left es p.rest i o.1 p.behind)

-- ---- pages

pub page_listed : (s : Site) (left : ℕ) (p : Page) (t : Trees) → PageRegrows s left p t → ListRegrows s left (elements_of p) t
page_listed s left p t h names2 more room x =
    sym (page_is s.lib s.root left s.around p (stock names2 (zeros_in t ++ more) (weight t + room))) ∙ h names2 more room x

pub listed_page : (s : Site) (left : ℕ) (p : Page) (t : Trees) → ListRegrows s left (elements_of p) t → PageRegrows s left p t
listed_page s left p t h names2 more room x =
    page_is s.lib s.root left s.around p (stock names2 (zeros_in t ++ more) (weight t + room)) ∙ h names2 more room x

pub page_regrown : (s : Site) (left : ℕ) (p : Page) (t : Trees) → IsSite s → TextsOf s.names p.boxes → PageRegrows s left p t
    → AreRegrown s left (elements_of p) t
page_regrown s left p t i o h = listed_regrown s left (elements_of p) t i (entries_of s.names p.boxes o) (page_listed s left p t h)
