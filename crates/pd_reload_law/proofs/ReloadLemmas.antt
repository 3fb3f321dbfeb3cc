-- The document of a patch as it stands grows again to its tree as it stands.
use Rattle.std.proofs.Common.{◌≡◌, ℕ, ◌+◌, ◌≤◌, List, ◌++◌, Option, refl, sym, ap, ◌∙◌, subst}
use Rattle.pd_atom.specs.Names.{Names, Extends}
use Rattle.pd_canvas.specs.Pages.{Page}
use Rattle.pd_canvas.specs.Proper.{levels}
use Rattle.pd_library.specs.declared.answers.Answer.{Answer}
use Rattle.pd_tree.specs.Trees.{Tree, weight, document_boxes, document_in, zeros_of}
use Rattle.pd_growth.specs.Steps.{Stock, gives}
use Rattle.pd_growth.specs.Growth.{grown}
use Rattle.pd_grove.specs.declared.grove.Grove.{Grove}
use Rattle.pd_web.specs.declared.web.Web.{Web}
use Rattle.pd_present.specs.Presents.{present_page}
use Rattle.pd_regrowth_law.specs.Regrowth.{stock}
use Rattle.pd_regrowth_law.specs.Canvases.{PatchRegrows, own_site}
use Rattle.pd_regrowth_law.specs.Suits.{AnswersAlike, TextsOf}
use Rattle.pd_regrowth_law.proofs.AgainLemmas.{texts_more, library_more, patch_again, again_at}
use Rattle.pd_regrowth_law.proofs.ChangeLemmas.{alike_all}
use Rattle.pd_regrowth_law.proofs.SameLemmas.{patch_same}
use Rattle.pd_regrowth_law.proofs.DocumentLemmas.{patch_stays}
use Rattle.pd_regrowth_law.proofs.TakeLemmas.{patch_takes}
use Rattle.pd_regrowth_law.proofs.FillLemmas.{patch_refilled}
use Rattle.pd_reload_law.specs.Saving.{tree_now}
use Rattle.pd_reload_law.specs.Reloading.{HasGrown, RunsAs}
use Rattle.pd_reload_law.proofs.NowLemmas.{document_told, tree_refilled, tree_zeros, tree_weight}
use Rattle.pd_reload_law.proofs.MadeLemmas.{patch_made}

-- the tree as it stands grows again from its own document
pub now_regrows : (lib : ℕ → Option Answer) (file : List ℕ) (page : Page) (w v : Stock) (t : Tree) (g : Grove) (web : Web) (numbers : List ℕ)
    → HasGrown lib file page w t v → RunsAs g t → PatchRegrows lib file v.names (tree_now g web numbers t)
now_regrows lib file page w v t g web numbers h r =
    let x = (patch_takes lib file page w v t h.grew).names in
    let same : document_in t ≡ page = patch_stays lib file page w v t h.shallow h.none h.grew in
    let boxes : document_boxes t.boxes ≡ page.boxes = ap (λ (p : Page). p.boxes) same in
    let again : PatchRegrows lib file v.names t = λ names2 more room y.
    ap (λ (p : Page). grown lib file p (stock names2 (zeros_of t ++ more) (weight t.boxes + room))) same
    ∙ patch_again lib lib file page w v t (λ s a e. e) h.library h.texts h.grew names2 more room y in
    patch_refilled lib file v.names t (tree_now g web numbers t) (library_more w.names v.names x lib h.library)
    (subst (TextsOf v.names) (sym boxes) (texts_more w.names v.names x page.boxes h.texts))
    (subst (λ b. levels b ≤ 255) (sym boxes) h.shallow) again refl refl (tree_refilled (own_site lib file v.names t.sheet.zero) g web numbers t r.stands r.savable)

pub document_grows : (lib lib2 : ℕ → Option Answer) (file : List ℕ) (page : Page) (w v : Stock) (t : Tree) (g : Grove) (web : Web) (numbers : List ℕ) (names : Names)
    (more : List ℕ) (room : ℕ) → HasGrown lib file page w t v → AnswersAlike lib lib2 → RunsAs g t → Extends v.names names
    → grown lib2 file (present_page g web numbers) (stock names (zeros_of t ++ more) (weight t.boxes + room)) ≡ gives (tree_now g web numbers t) (stock names more room)
document_grows lib lib2 file page w v t g web numbers names more room h like r x =
    let u = tree_now g web numbers t in
    let start = stock names (zeros_of t ++ more) (weight t.boxes + room) in
    ap (λ (p : Page). grown lib2 file p start) (sym (document_told g web numbers t r.stands r.savable (patch_made lib file page w v t h.grew) r.shallow))
    ∙ patch_same lib lib2 file (document_in u) start (stock names more room) u (alike_all lib lib2 u.boxes like)
    (again_at (grown lib file (document_in u)) u v.names (zeros_of u) (weight u.boxes) (now_regrows lib file page w v t g web numbers h r)
    names (zeros_of t ++ more) more (weight t.boxes + room) room x (ap (λ (zs : List ℕ). zs ++ more) (sym (tree_zeros g web numbers t)))
    (ap (λ n. n + room) (sym (tree_weight g web numbers t))))

-- so it does from where the patch itself began, with what the table has by now
pub document_opens : (lib lib2 : ℕ → Option Answer) (file : List ℕ) (page : Page) (w v : Stock) (t : Tree) (g : Grove) (web : Web) (numbers : List ℕ) (names : Names)
    → HasGrown lib file page w t v → AnswersAlike lib lib2 → RunsAs g t → Extends v.names names
    → grown lib2 file (present_page g web numbers) (stock names w.zeros w.room) ≡ gives (tree_now g web numbers t) (stock names v.zeros v.room)
document_opens lib lib2 file page w v t g web numbers names h like r x =
    let k = patch_takes lib file page w v t h.grew in
    ap (λ (zs : List ℕ). grown lib2 file (present_page g web numbers) (stock names zs w.room)) k.zeros
    ∙ ap (λ n. grown lib2 file (present_page g web numbers) (stock names (zeros_of t ++ v.zeros) n)) k.room
    ∙ document_grows lib lib2 file page w v t g web numbers names v.zeros v.room h like r x
