-- Boxes of a canvas grow again from their own document exactly if each part of them does.
use Rattle.std.proofs.Common.{◌≡◌, ℕ, ◌+◌, List, [], ◌∷◌, ◌++◌, length, refl, sym, ap, ◌∙◌, subst, arith}
use Rattle.pd_atom.specs.Names.{Names}
use Rattle.pd_canvas.specs.Pages.{Shape, Sub, Head, Boxes, Entry, page_of, empty_page, listed}
use Rattle.pd_tree.specs.declared.rows.Sheet.{Sheet}
use Rattle.pd_tree.specs.Trees.{Trees, Done, Leaf, Holder, join, width, weight, zeros_in, frame_in, box_with, document_boxes}
use Rattle.pd_regrowth_law.specs.Regrowth.{inner_of, stock}
use Rattle.pd_regrowth_law.specs.Suits.{AreEntriesOf, TextsOf}
use Rattle.pd_regrowth_law.specs.Canvases.{Site, IsSite, ListRegrows, Regrows, EachRegrows}
use Rattle.pd_regrowth_law.proofs.StepLemmas.{extends_same}
use Rattle.pd_regrowth_law.proofs.AgainLemmas.{entries_of}
use Rattle.pd_regrowth_law.proofs.PartLemmas.{several_wide, first_same, rest_same, joined, parted, nothing_regrows}

-- ---- the elements of boxes

holder_listed : (form : Shape) (h : Head) (s : Sheet) (b x y z : Boxes) → listed x ≡ listed y ++ listed z
    → listed (box_with form h s b x) ≡ listed (box_with form h s b y) ++ listed z
holder_listed Sub h s b x y z e = ap (λ l. record { head = h; page = page_of (frame_in s) b } ∷ l) e
holder_listed form h s b x y z e = ap (λ l. record { head = h; page = empty_page } ∷ l) e

pub listed_join : (t u : Trees) → listed (document_boxes (join t u)) ≡ listed (document_boxes t) ++ listed (document_boxes u)
listed_join Done u = refl
listed_join (Leaf c t) u = ap (λ l. record { head = c.head; page = empty_page } ∷ l) (listed_join t u)
listed_join (Holder c s inner t) u =
    holder_listed c.head.form c.head s (document_boxes inner) (document_boxes (join t u)) (document_boxes t) (document_boxes u) (listed_join t u)

holder_wide : (form : Shape) (h : Head) (s : Sheet) (b x : Boxes) (n : ℕ) → length (listed x) ≡ n → length (listed (box_with form h s b x)) ≡ n + 1
holder_wide Sub h s b x n e = omega (arith, e)
holder_wide form h s b x n e = omega (arith, e)

pub listed_wide : (t : Trees) → length (listed (document_boxes t)) ≡ width t
listed_wide Done = refl
listed_wide (Leaf c t) = omega (arith, listed_wide t)
listed_wide (Holder c s inner t) = holder_wide c.head.form c.head s (document_boxes inner) (document_boxes t) (width t) (listed_wide t)

pub entries_first : (names : Names) (es fs : List Entry) → AreEntriesOf names (es ++ fs) → AreEntriesOf names es
entries_first names [] fs h = tt
entries_first names (e ∷ es) fs h = (h.0, entries_first names es fs h.1)

pub entries_rest : (names : Names) (es fs : List Entry) → AreEntriesOf names (es ++ fs) → AreEntriesOf names fs
entries_rest names [] fs h = h
entries_rest names (e ∷ es) fs h = entries_rest names es fs h.1

-- ---- two parts

pub own_joined : (s : Site) (left : ℕ) (t u : Trees) → Regrows s left t → Regrows s left u → Regrows s left (join t u)
own_joined s left t u h k =
    subst (λ l. ListRegrows s left l (join t u)) (sym (listed_join t u)) (joined s left (listed (document_boxes t)) (listed (document_boxes u)) t u h k)

pub own_parted : (s : Site) (left : ℕ) (t u : Trees) → IsSite s → TextsOf s.names (document_boxes (join t u)) → Regrows s left (join t u)
    → Regrows s left t × Regrows s left u
own_parted s left t u i o h =
    let es = listed (document_boxes t) in
    let fs = listed (document_boxes u) in
    let texts : AreEntriesOf s.names (es ++ fs) = subst (AreEntriesOf s.names) (listed_join t u) (entries_of s.names (document_boxes (join t u)) o) in
    let p = parted s left es fs (join t u) i (entries_first s.names es fs texts) (entries_rest s.names es fs texts)
    (subst (λ l. ListRegrows s left l (join t u)) (listed_join t u) h) in
    let wide : width p.first ≡ width t =
    several_wide s.lib s.root left (inner_of s.lib s.root left) s.around es (stock s.names (zeros_in p.first ++ []) (weight p.first + 0)) p.first (stock s.names [] 0)
    (p.before s.names [] 0 (extends_same s.names)) ∙ listed_wide t in (
      subst (ListRegrows s left es) (first_same p.first p.rest t u wide (sym p.all)) p.before,
      subst (ListRegrows s left fs) (rest_same p.first p.rest t u wide (sym p.all)) p.behind,
    )

-- ---- each box

pub each_own : (s : Site) (left : ℕ) (t : Trees) → EachRegrows s left t → Regrows s left t
each_own s left Done h = nothing_regrows s left
each_own s left (Leaf c rest) h = own_joined s left (Leaf c Done) rest h.0 (each_own s left rest h.1)
each_own s left (Holder c sheet inner rest) h = own_joined s left (Holder c sheet inner Done) rest h.0 (each_own s left rest h.1)

-- the texts of boxes before and behind others
pub holder_texts : (names : Names) (form : Shape) (h : Head) (s : Sheet) (b x : Boxes) → TextsOf names (box_with form h s b x) → TextsOf names x
holder_texts names Sub h s b x o = o.2
holder_texts names form h s b x o = o.2

pub holder_before : (names : Names) (form : Shape) (h : Head) (s : Sheet) (b x y : Boxes) → TextsOf names (box_with form h s b x) → TextsOf names y
    → TextsOf names (box_with form h s b y)
holder_before names Sub h s b x y o k = (o.0, o.1, k)
holder_before names form h s b x y o k = (o.0, o.1, k)

pub texts_behind : (names : Names) (t u : Trees) → TextsOf names (document_boxes (join t u)) → TextsOf names (document_boxes u)
texts_behind names Done u h = h
texts_behind names (Leaf c t) u h = texts_behind names t u h.2
texts_behind names (Holder c s inner t) u h =
    texts_behind names t u (holder_texts names c.head.form c.head s (document_boxes inner) (document_boxes (join t u)) h)

pub texts_before : (names : Names) (t u : Trees) → TextsOf names (document_boxes (join t u)) → TextsOf names (document_boxes t)
texts_before names Done u h = tt
texts_before names (Leaf c t) u h = (h.0, tt, texts_before names t u h.2)
texts_before names (Holder c s inner t) u h =
    holder_before names c.head.form c.head s (document_boxes inner) (document_boxes (join t u)) (document_boxes t) h
    (texts_before names t u (holder_texts names c.head.form c.head s (document_boxes inner) (document_boxes (join t u)) h))

pub own_each : (s : Site) (left : ℕ) (t : Trees) → IsSite s → TextsOf s.names (document_boxes t) → Regrows s left t → EachRegrows s left t
own_each s left Done i o h = tt
own_each s left (Leaf c rest) i o h =
    let p = own_parted s left (Leaf c Done) rest i o h in
    (p.0, own_each s left rest i (texts_behind s.names (Leaf c Done) rest o) p.1)
own_each s left (Holder c sheet inner rest) i o h =
    let p = own_parted s left (Holder c sheet inner Done) rest i o h in
    (p.0, own_each s left rest i (texts_behind s.names (Holder c sheet inner Done) rest o) p.1)

-- ---- boxes in the middle

pub own_replaced : (s : Site) (left : ℕ) (t x y u : Trees) → IsSite s → TextsOf s.names (document_boxes (join t (join x u)))
    → Regrows s left (join t (join x u)) → Regrows s left y → Regrows s left (join t (join y u))
own_replaced s left t x y u i o h k =
    let p = own_parted s left t (join x u) i o h in
    let q = own_parted s left x u i (texts_behind s.names t (join x u) o) p.1 in
    own_joined s left t (join y u) p.0 (own_joined s left y u k q.1)
