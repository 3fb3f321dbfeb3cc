-- A tree that stands grows again from its own document, also with a box more.
use Rattle.std.proofs.Common.{◌≡◌, ℕ, ◌+◌, ◌≤◌, max, List, [], ◌∷◌, ◌++◌, length, Option, Some, refl, sym, ap, ◌∙◌, subst, arith}
use Rattle.pd_atom.specs.Names.{Names, Extends}
use Rattle.pd_canvas.specs.Pages.{Boxes, Page, Entry, boxed, listed}
use Rattle.pd_canvas.specs.Proper.{levels, levels_of, HoldsNone}
use Rattle.pd_library.specs.declared.answers.Answer.{Answer}
use Rattle.pd_tree.specs.Trees.{Trees, Done, Tree, join, width, weight, document_boxes, document_in, zeros_of}
use Rattle.pd_growth.specs.Steps.{Stock, gives, ◌>>=◌}
use Rattle.pd_growth.specs.Growth.{box_grown, boxes_grown, without_ending, around_root, grown}
use Rattle.pd_grove.specs.declared.grove.Grove.{Grove}
use Rattle.pd_web.specs.declared.web.Web.{Web}
use Rattle.pd_present.specs.Presents.{present_page}
use Rattle.pd_regrowth_law.specs.Regrowth.{inner_of, stock}
use Rattle.pd_regrowth_law.specs.Canvases.{CanvasRegrows, PatchRegrows, own_site, own_along, canvas_with, nested}
use Rattle.pd_regrowth_law.specs.Suits.{AnswersAlike, HoldNone, IsEntryOf, IsLibraryOf, TextsOf}
use Rattle.pd_regrowth_law.proofs.StepLemmas.{extends_on, extends_same, more_boxes, no_boxes}
use Rattle.pd_regrowth_law.proofs.TakeLemmas.{patch_takes, several_take}
use Rattle.pd_regrowth_law.proofs.AgainLemmas.{texts_more, library_more, patch_again, again_at}
use Rattle.pd_regrowth_law.proofs.ChangeLemmas.{alike_all}
use Rattle.pd_regrowth_law.proofs.DocumentLemmas.{boxes_stay, inner_stays, patch_stays}
use Rattle.pd_regrowth_law.proofs.EditLemmas.{nest_texts, patch_grown, texts_join, texts_nested}
use Rattle.pd_regrowth_law.proofs.OwnLemmas.{texts_before, texts_behind}
use Rattle.pd_regrowth_law.proofs.FillLemmas.{patch_refilled}
use Rattle.pd_regrowth_law.proofs.NestLemmas.{patch_edited, patch_inside}
use Rattle.pd_regrowth_law.proofs.PartLemmas.{join_done}
use Rattle.pd_regrowth_law.proofs.SameLemmas.{patch_same}
use Rattle.pd_reload_law.specs.Reloading.{HasGrown, RunsAs}
use Rattle.pd_reload_law.specs.Saving.{AreMade, tree_now}
use Rattle.pd_reload_law.proofs.NowLemmas.{document_told, tree_refilled, tree_zeros, tree_weight}
use Rattle.pd_reload_law.proofs.MadeLemmas.{patch_made}
use Rattle.pd_putting_law.specs.Again.{StandsAgain}
use Rattle.pd_putting_law.specs.Puts.{boxes_before, change_at, put_at, put_before, with_before}
use Rattle.pd_putting_law.proofs.WithinLemmas.{path_within, parts_at, put_before_last, levels_join, inside_levels, outside_levels, made_before}

pub grown_stands : (lib : ℕ → Option Answer) (file : List ℕ) (page : Page) (w v : Stock) (t : Tree) → HasGrown lib file page w t v → StandsAgain lib file v.names t
grown_stands lib file page w v t h =
    let x = (patch_takes lib file page w v t h.grew).names in
    let same : document_in t ≡ page = patch_stays lib file page w v t h.shallow h.none h.grew in
    let boxes : document_boxes t.boxes ≡ page.boxes = ap (λ (p : Page). p.boxes) same in
    record {
      library = library_more w.names v.names x lib h.library;
      texts = subst (TextsOf v.names) (sym boxes) (texts_more w.names v.names x page.boxes h.texts);
      shallow = subst (λ b. levels b ≤ 255) (sym boxes) h.shallow;
      regrows = λ names2 more room y. ap (λ (p : Page). grown lib file p (stock names2 (zeros_of t ++ more) (weight t.boxes + room))) same
          ∙ patch_again lib lib file page w v t (λ s a e. e) h.library h.texts h.grew names2 more room y;
    }

pub stands_made : (lib : ℕ → Option Answer) (file : List ℕ) (names : Names) (t : Tree) → StandsAgain lib file names t → AreMade t.boxes
stands_made lib file names t s =
    patch_made lib file (document_in t) (stock names (zeros_of t ++ []) (weight t.boxes + 0)) (stock names [] 0) t (s.regrows names [] 0 (extends_same names))

pub stands_on : (lib lib2 : ℕ → Option Answer) (file : List ℕ) (names names2 : Names) (t : Tree) → StandsAgain lib file names t → AnswersAlike lib lib2
    → Extends names names2 → IsLibraryOf names2 lib2 → StandsAgain lib2 file names2 t
stands_on lib lib2 file names names2 t s like x l = record {
  library = l;
  texts = texts_more names names2 x (document_boxes t.boxes) s.texts;
  shallow = s.shallow;
  regrows = λ names3 more room y. patch_same lib lib2 file (document_in t) (stock names3 (zeros_of t ++ more) (weight t.boxes + room)) (stock names3 more room) t
      (alike_all lib lib2 t.boxes like) (s.regrows names3 more room (extends_on names names2 names3 x y));
}

-- ---- with what boxes keep, and with the wires that there are

pub now_regrows : (lib : ℕ → Option Answer) (file : List ℕ) (names : Names) (t : Tree) (g : Grove) (web : Web) (numbers : List ℕ) → StandsAgain lib file names t
    → RunsAs g t → PatchRegrows lib file names (tree_now g web numbers t)
now_regrows lib file names t g web numbers s r =
    patch_refilled lib file names t (tree_now g web numbers t) s.library s.texts s.shallow s.regrows refl refl
    (tree_refilled (own_site lib file names t.sheet.zero) g web numbers t r.stands r.savable)

pub present_grows : (lib lib2 : ℕ → Option Answer) (file : List ℕ) (names names2 : Names) (t : Tree) (g : Grove) (web : Web) (numbers more : List ℕ) (room : ℕ)
    → StandsAgain lib file names t → AnswersAlike lib lib2 → RunsAs g t → Extends names names2
    → grown lib2 file (present_page g web numbers) (stock names2 (zeros_of t ++ more) (weight t.boxes + room)) ≡ gives (tree_now g web numbers t) (stock names2 more room)
present_grows lib lib2 file names names2 t g web numbers more room s like r x =
    let u = tree_now g web numbers t in
    let start = stock names2 (zeros_of t ++ more) (weight t.boxes + room) in
    ap (λ (p : Page). grown lib2 file p start) (sym (document_told g web numbers t r.stands r.savable (stands_made lib file names t s) r.shallow))
    ∙ patch_same lib lib2 file (document_in u) start (stock names2 more room) u (alike_all lib lib2 u.boxes like)
    (again_at (grown lib file (document_in u)) u names (zeros_of u) (weight u.boxes) (now_regrows lib file names t g web numbers s r)
    names2 (zeros_of t ++ more) more (weight t.boxes + room) room x (ap (λ (zs : List ℕ). zs ++ more) (sym (tree_zeros g web numbers t)))
    (ap (λ n. n + room) (sym (tree_weight g web numbers t))))

-- ---- with another canvas

pub canvas_regrows : (lib : ℕ → Option Answer) (file : List ℕ) (names : Names) (left : ℕ) (path : List ℕ) (t u : Tree) → StandsAgain lib file names t
    → own_along path t ≡ Some u → length path + left ≡ 255 → CanvasRegrows (own_site lib file names t.sheet.zero) left u
canvas_regrows lib file names left path t u s at low =
    let p = path_within path t u at in
    subst (λ (x : Tree). CanvasRegrows (own_site lib file names x.sheet.zero) left u) (sym p.whole)
    (patch_inside lib file names left p.nest u s.library p.subpatches (subst (λ (x : Tree). TextsOf names (document_boxes x.boxes)) p.whole s.texts) (p.deep left ∙ low)
    (subst (PatchRegrows lib file names) p.whole s.regrows))

pub change_stands : (lib : ℕ → Option Answer) (file : List ℕ) (names : Names) (left : ℕ) (path : List ℕ) (t u : Tree) (f : Tree → Tree) → StandsAgain lib file names t
    → own_along path t ≡ Some u → length path + left ≡ 255 → TextsOf names (document_boxes (f u).boxes) → levels (document_boxes (f u).boxes) ≤ left
    → CanvasRegrows (own_site lib file names t.sheet.zero) left (f u) → StandsAgain lib file names (change_at path f t)
change_stands lib file names left path t u f s at low o l k =
    let p = path_within path t u at in
    let out = p.deep left ∙ low in
    let texts : TextsOf names (document_boxes (nested p.nest u).boxes) = subst (λ (x : Tree). TextsOf names (document_boxes x.boxes)) p.whole s.texts in
    record {
      library = s.library;
      texts = subst (λ (x : Tree). TextsOf names (document_boxes x.boxes)) (sym (p.changed f)) (texts_nested names p.nest u (f u) p.subpatches texts o);
      shallow = subst (λ (x : Tree). levels (document_boxes x.boxes) ≤ 255) (sym (p.changed f))
          (outside_levels p.nest u (f u) left 255 p.subpatches out (subst (λ (x : Tree). levels (document_boxes x.boxes) ≤ 255) p.whole s.shallow) l);
      regrows = subst (PatchRegrows lib file names) (sym (p.changed f))
          (patch_edited lib file names left p.nest u (f u) s.library p.subpatches texts out (subst (PatchRegrows lib file names) p.whole s.regrows)
          (subst (λ (x : Tree). CanvasRegrows (own_site lib file names x.sheet.zero) left (f u)) p.whole k));
    }

-- ---- with boxes more

texts_more_boxes : (names : Names) (n : ℕ) (t new : Trees) → TextsOf names (document_boxes t) → TextsOf names (document_boxes new)
    → TextsOf names (document_boxes (boxes_before n new t))
texts_more_boxes names n t new o k =
    let q = parts_at n t in
    let all = subst (λ (x : Trees). TextsOf names (document_boxes x)) q.whole o in
    subst (λ (x : Trees). TextsOf names (document_boxes x)) (sym (q.more new))
    (texts_join names q.before (join new q.behind) (texts_before names q.before q.behind all)
    (texts_join names new q.behind k (texts_behind names q.before q.behind all)))

levels_more : (n : ℕ) (t new : Trees) (left : ℕ) → levels (document_boxes t) ≤ left → levels (document_boxes new) ≤ left
    → levels (document_boxes (boxes_before n new t)) ≤ left
levels_more n t new left low deep =
    let q = parts_at n t in
    let levels_of_all : Trees → ℕ = λ x. levels (document_boxes x) in
    all (levels_of_all q.before) (levels_of_all new) (levels_of_all q.behind) (levels_of_all (join new q.behind)) (levels_of_all t) (levels_of_all (boxes_before n new t)) left
    (levels_join new q.behind) (ap levels_of_all q.whole ∙ levels_join q.before q.behind)
    (ap levels_of_all (q.more new) ∙ levels_join q.before (join new q.behind)) low deep
  where
    all : (a n b i t x left : ℕ) → i ≡ max n b → t ≡ max a b → x ≡ max a i → t ≤ left → n ≤ left → x ≤ left
    all a n b i t x left p q r h k = omega (arith, p, q, r, h, k)

pub boxes_stand : (lib : ℕ → Option Answer) (file : List ℕ) (left : ℕ) (path : List ℕ) (n : ℕ) (t u : Tree) (b : Boxes) (w v : Stock) (new : Trees)
    → StandsAgain lib file w.names t → own_along path t ≡ Some u → length path + left ≡ 255 → TextsOf w.names b → levels b ≤ left → HoldNone b
    → boxes_grown lib (without_ending file) left (inner_of lib (without_ending file) left) (around_root t.sheet.zero) (listed b) w ≡ gives new v
    → StandsAgain lib file v.names (put_before path n new t)
boxes_stand lib file left path n t u b w v new s at low ob lev none grows =
    let p = path_within path t u at in
    let q = parts_at n u.boxes in
    let root = without_ending file in
    let up = (several_take lib root left (around_root t.sheet.zero) (listed b) w v new grows).names in
    let document : document_boxes new ≡ b = boxes_stay lib root left (inner_of lib root left) (around_root t.sheet.zero) b w new v (inner_stays lib root left) lev none grows in
    let old : t ≡ nested p.nest (canvas_with u.sheet (join q.before (join Done q.behind))) =
    p.whole ∙ ap (λ (x : Trees). nested p.nest (canvas_with u.sheet x)) q.whole in
    let put : nested p.nest (canvas_with u.sheet (join q.before (join new q.behind))) ≡ put_before path n new t =
    ap (λ (x : Trees). nested p.nest (canvas_with u.sheet x)) (sym (q.more new)) ∙ sym (p.changed (with_before n new)) in
    let out = p.deep left ∙ low in
    let inside : TextsOf w.names (document_boxes (nested p.nest u).boxes) = subst (λ (x : Tree). TextsOf w.names (document_boxes x.boxes)) p.whole s.texts in
    let inside2 : TextsOf v.names (document_boxes (nested p.nest u).boxes) = texts_more w.names v.names up (document_boxes (nested p.nest u).boxes) inside in
    let deep : levels (document_boxes (nested p.nest u).boxes) ≤ 255 = subst (λ (x : Tree). levels (document_boxes x.boxes) ≤ 255) p.whole s.shallow in
    record {
      library = library_more w.names v.names up lib s.library;
      texts = subst (λ (x : Tree). TextsOf v.names (document_boxes x.boxes)) (sym (p.changed (with_before n new)))
          (texts_nested v.names p.nest u (with_before n new u) p.subpatches inside2
          (texts_more_boxes v.names n u.boxes new (nest_texts v.names p.nest u p.subpatches inside2)
          (subst (TextsOf v.names) (sym document) (texts_more w.names v.names up b ob))));
      shallow = subst (λ (x : Tree). levels (document_boxes x.boxes) ≤ 255) (sym (p.changed (with_before n new)))
          (outside_levels p.nest u (with_before n new u) left 255 p.subpatches out deep
          (levels_more n u.boxes new left (inside_levels p.nest u left 255 p.subpatches out deep) (subst (λ x. levels x ≤ left) (sym document) lev)));
      regrows = subst (PatchRegrows lib file v.names) put
          (patch_grown lib file left p.nest u.sheet u.sheet q.before Done q.behind b w v new s.library p.subpatches out
          (subst (λ (x : Tree). TextsOf w.names (document_boxes x.boxes)) old s.texts) (subst (PatchRegrows lib file w.names) old s.regrows) refl refl ob lev none
          (subst (λ (x : Tree). boxes_grown lib root left (inner_of lib root left) (around_root x.sheet.zero) (listed b) w ≡ gives new v) old grows));
    }

pub put_stands : (lib : ℕ → Option Answer) (file : List ℕ) (left : ℕ) (path : List ℕ) (t u : Tree) (b : Boxes) (w v : Stock) (new : Trees)
    → StandsAgain lib file w.names t → own_along path t ≡ Some u → length path + left ≡ 255 → TextsOf w.names b → levels b ≤ left → HoldNone b
    → boxes_grown lib (without_ending file) left (inner_of lib (without_ending file) left) (around_root t.sheet.zero) (listed b) w ≡ gives new v
    → StandsAgain lib file v.names (put_at path new t)
put_stands lib file left path t u b w v new s at low ob lev none grows =
    subst (StandsAgain lib file v.names) (put_before_last path t u new at) (boxes_stand lib file left path (width u.boxes) t u b w v new s at low ob lev none grows)

-- an element, as it is put: its text is of the table, and it holds a canvas only as a subpatch
one_grown : (lib : ℕ → Option Answer) (root : List ℕ) (left own : ℕ) (e : Entry) (w v : Stock) (new : Trees)
    → box_grown lib root left (inner_of lib root left) (around_root own) e w ≡ gives new v
    → boxes_grown lib root left (inner_of lib root left) (around_root own) (e ∷ []) w ≡ gives new v
one_grown lib root left own e w v new h =
    let inner = inner_of lib root left in
    let a = around_root own in
    more_boxes lib root left inner a e [] w
    ∙ ap (λ y. y >>= (λ box u. boxes_grown lib root left inner a [] u >>= (λ rest x. gives (join box rest) x))) h
    ∙ ap (λ y. y >>= (λ rest u. gives (join new rest) u)) (no_boxes lib root left inner a v)
    ∙ ap (λ (y : Trees). gives y v) (join_done new)

one_low : (n left : ℕ) → n ≤ left → max n 0 ≤ left
one_low n left h = omega (arith, h)

pub one_stands : (lib : ℕ → Option Answer) (file : List ℕ) (left : ℕ) (path : List ℕ) (n : ℕ) (t u : Tree) (e : Entry) (w v : Stock) (new : Trees)
    → StandsAgain lib file w.names t → own_along path t ≡ Some u → length path + left ≡ 255 → IsEntryOf w.names e
    → levels_of e.head.form (levels e.page.boxes) ≤ left → HoldsNone e.head.form e.page → HoldNone e.page.boxes
    → box_grown lib (without_ending file) left (inner_of lib (without_ending file) left) (around_root t.sheet.zero) e w ≡ gives new v
    → StandsAgain lib file v.names (put_before path n new t)
one_stands lib file left path n t u e w v new s at low o lev none inner grows =
    boxes_stand lib file left path n t u (boxed (e ∷ [])) w v new s at low (o.text, o.inner, tt) (one_low (levels_of e.head.form (levels e.page.boxes)) left lev) (none, inner, tt)
    (one_grown lib (without_ending file) left t.sheet.zero e w v new grows)

pub box_stands : (lib : ℕ → Option Answer) (file : List ℕ) (left : ℕ) (path : List ℕ) (t u : Tree) (e : Entry) (w v : Stock) (new : Trees)
    → StandsAgain lib file w.names t → own_along path t ≡ Some u → length path + left ≡ 255 → IsEntryOf w.names e
    → levels_of e.head.form (levels e.page.boxes) ≤ left → HoldsNone e.head.form e.page → HoldNone e.page.boxes
    → box_grown lib (without_ending file) left (inner_of lib (without_ending file) left) (around_root t.sheet.zero) e w ≡ gives new v
    → StandsAgain lib file v.names (put_at path new t)
box_stands lib file left path t u e w v new s at low o lev none inner grows =
    subst (StandsAgain lib file v.names) (put_before_last path t u new at) (one_stands lib file left path (width u.boxes) t u e w v new s at low o lev none inner grows)

-- what came has the element, and is made
pub box_is : (lib : ℕ → Option Answer) (file : List ℕ) (left own : ℕ) (e : Entry) (w v : Stock) (new : Trees)
    → levels_of e.head.form (levels e.page.boxes) ≤ left → HoldsNone e.head.form e.page → HoldNone e.page.boxes
    → box_grown lib (without_ending file) left (inner_of lib (without_ending file) left) (around_root own) e w ≡ gives new v
    → document_boxes new ≡ boxed (e ∷ [])
box_is lib file left own e w v new lev none inner grows =
    let root = without_ending file in
    boxes_stay lib root left (inner_of lib root left) (around_root own) (boxed (e ∷ [])) w new v (inner_stays lib root left)
    (one_low (levels_of e.head.form (levels e.page.boxes)) left lev) (none, inner, tt) (one_grown lib root left own e w v new grows)

pub made_more : (lib : ℕ → Option Answer) (file : List ℕ) (names : Names) (path : List ℕ) (n : ℕ) (t u : Tree) (new : Trees) → own_along path t ≡ Some u
    → StandsAgain lib file names (put_before path n new t) → AreMade new
made_more lib file names path n t u new at s =
    let p = path_within path t u at in
    made_before p.nest u n new (subst (λ (x : Tree). AreMade x.boxes) (p.changed (with_before n new)) (stands_made lib file names (put_before path n new t) s))

pub new_made : (lib : ℕ → Option Answer) (file : List ℕ) (names : Names) (path : List ℕ) (t u : Tree) (new : Trees) → own_along path t ≡ Some u
    → StandsAgain lib file names (put_at path new t) → AreMade new
new_made lib file names path t u new at s =
    made_more lib file names path (width u.boxes) t u new at (subst (StandsAgain lib file names) (sym (put_before_last path t u new at)) s)
