-- A tree with other contents grows again where its boxes do.
use Rattle.std.proofs.Common.{◌≡◌, ℕ, zero, suc, ◌+◌, ◌≤◌, max, ℤ, List, Option, None, if◌then◌else◌, refl, sym, ap, ◌∙◌, subst, arith}
use Rattle.pd_atom.specs.declared.Atom.{Atom}
use Rattle.pd_atom.specs.Names.{Names}
use Rattle.pd_object.specs.declared.kinds.Kind.TheVariants as kind
use Rattle.pd_object.specs.declared.kinds.Glue.TheVariants as glue
use Rattle.pd_canvas.specs.Pages.{Shape, Msg, Sub, Array, Head, Boxes, Entry, empty_page}
use Rattle.pd_canvas.specs.Proper.{levels_of, levels}
use Rattle.pd_library.specs.declared.answers.Answer.{Answer}
use Rattle.pd_tree.specs.declared.rows.Sheet.{Sheet}
use Rattle.pd_tree.specs.Trees.{Cell, Trees, Done, Leaf, Holder, Tree, weight, box_with, document_boxes}
use Rattle.pd_growth.specs.Steps.{Stock, Step, gives, goes_on, ◌>>=◌, named_step, counted, text_expanded}
use Rattle.pd_growth.specs.Making.{Around, made, is_expanded}
use Rattle.pd_growth.specs.Growth.{Inner, cell_of, box_made, own_text, box_grown}
use Rattle.pd_regrowth_law.specs.Regrowth.{inner_of, stock}
use Rattle.pd_regrowth_law.specs.Suits.{TextsOf, IsLibraryOf}
use Rattle.pd_regrowth_law.specs.Canvases.{Site, IsSite, Regrows, canvas_with, PatchRegrows, own_site}
use Rattle.pd_regrowth_law.specs.Filling.{LeafFollows, IsHolderRefilled, IsRefilled}
use Rattle.pd_regrowth_law.proofs.SplitLemmas.{chain_of_chain, same_chain}
use Rattle.pd_regrowth_law.proofs.AgainLemmas.{counted_by}
use Rattle.pd_regrowth_law.proofs.PartLemmas.{one_listed, one_alone, nothing_regrows}
use Rattle.pd_regrowth_law.proofs.OwnLemmas.{own_joined, own_parted, texts_before, texts_behind}
use Rattle.pd_regrowth_law.proofs.NestLemmas.{sub_texts, canvas_inside, canvas_other, own_suits, patch_canvas, patch_other}

-- ---- a message box

pub message_regrows : (s : Site) (c : Cell) (h : Head) → h.form ≡ Msg → LeafFollows s c (cell_of h h.text (kind.Glue (glue.Message h.text)) None)
message_regrows s c h f left _ =
    let a = s.around in
    let e : Entry = record { head = h; page = empty_page } in
    let inner = inner_of s.lib s.root left in
    let box = Leaf (cell_of h h.text (kind.Glue (glue.Message h.text)) None) Done in
    one_listed s left e box (λ names2 more room x.
    let w = stock names2 more room in
    ap (λ y. y >>= (λ _ u. own_text a h u >>= (λ text v. goes_on (made s.lib s.root left a v.names h.form text) v (λ m z. box_made inner a e text m z))))
    (counted_by names2 more (weight box + room) room (omega arith))
    ∙ ap (λ y. (if is_expanded y then named_step (text_expanded a.zero a.arguments h.text names2) w else gives h.text w)
    >>= (λ text v. goes_on (made s.lib s.root left a v.names y text) v (λ m z. box_made inner a e text m z))) f)

-- ---- an array

-- an array with another head, whose form has these values
abbrev revalued : Head → List ℤ → Trees → Trees
revalued k values Done = Done
revalued k values (Leaf c rest) = Leaf (cell_of k c.text (kind.Glue (glue.Array c.text values)) None) rest
revalued k values (Holder c s inner rest) = Holder c s inner rest

array_box : (lib : ℕ → Option Answer) (root : List ℕ) (left : ℕ) (inner : Inner) (a : Around) (e : Entry) (k : Head) (old new : List ℤ) (w : Stock)
    → e.head.form ≡ Array old → k.form ≡ Array new → k.text ≡ e.head.text
    → box_grown lib root left inner a (record { head = k; page = e.page }) w ≡ (box_grown lib root left inner a e w >>= (λ t u. gives (revalued k new t) u))
array_box lib root left inner a e k old new w is other text =
    let d : Entry = record { head = k; page = e.page } in
    let f : Trees → Stock → Step Trees = λ t u. gives (revalued k new t) u in
    let start = counted w in
    let after : Entry → Shape → List Atom → Stock → Step Trees = λ y s l u. goes_on (made lib root left a u.names s l) u (λ m t. box_made inner a y l m t) in
    let words : List Atom → Stock → Step (List Atom) = λ l v. named_step (text_expanded a.zero a.arguments l v.names) v in
    let named : Shape → List Atom → Stock → Step (List Atom) = λ s l v. if is_expanded s then words l v else gives l v in
    let middle : (y : Unit {0}) (v : Stock) → (named k.form k.text v >>= after d k.form) ≡ ((named e.head.form e.head.text v >>= after e e.head.form) >>= f) = λ _ v.
    let o = words e.head.text v in
    ap (λ s. named s k.text v >>= after d s) other
    ∙ ap (λ l. words l v >>= after d (Array new)) text
    ∙ same_chain o.answer o.stock (after d (Array new)) (λ l u. after e (Array old) l u >>= f) (λ l u. refl)
    ∙ sym (chain_of_chain o.answer o.stock (after e (Array old)) f)
    ∙ sym (ap (λ s. (named s e.head.text v >>= after e s) >>= f) is) in
    same_chain start.answer start.stock (λ y v. named k.form k.text v >>= after d k.form) (λ y v. (named e.head.form e.head.text v >>= after e e.head.form) >>= f) middle
    ∙ sym (chain_of_chain start.answer start.stock (λ y v. named e.head.form e.head.text v >>= after e e.head.form) f)

pub array_regrows : (s : Site) (c : Cell) (k : Head) (old new : List ℤ) → c.head.form ≡ Array old → k.form ≡ Array new → k.text ≡ c.head.text
    → LeafFollows s c (cell_of k c.text (kind.Glue (glue.Array c.text new)) None)
array_regrows s c k old new is other text left h =
    let e : Entry = record { head = c.head; page = empty_page } in
    let one = one_alone s left e (Leaf c Done) h in
    one_listed s left (record { head = k; page = empty_page }) (Leaf (cell_of k c.text (kind.Glue (glue.Array c.text new)) None) Done) (λ names2 more room x.
    array_box s.lib s.root left (inner_of s.lib s.root left) s.around e k old new (stock names2 more (weight (Leaf c Done) + room)) is other text
    ∙ ap (λ y. y >>= (λ t u. gives (revalued k new t) u)) (one names2 more room x))

-- ---- the whole

most_left : (m n k : ℕ) → max m n ≤ k → m ≤ k
most_left m n k h = omega (arith, h)

most_right : (m n k : ℕ) → max m n ≤ k → n ≤ k
most_right m n k h = omega (arith, h)

-- how deep a box that holds a canvas and those behind it are: `h` is its head, of this form
holder_inside : (form : Shape) (h : Head) (sheet : Sheet) (b x : Boxes) (left : ℕ) → h.form ≡ form → form ≡ Sub → levels (box_with form h sheet b x) ≤ left
    → levels b + 1 ≤ left
holder_inside form h sheet b x left e f low =
    let low2 : max (levels_of h.form (levels b)) (levels x) ≤ left = subst (λ y. levels (box_with y h sheet b x) ≤ left) f low in
    let low3 : max (levels b + 1) (levels x) ≤ left = subst (λ y. max (levels_of y (levels b)) (levels x) ≤ left) (e ∙ f) low2 in
    most_left (levels b + 1) (levels x) left low3

holder_behind : (form : Shape) (h : Head) (sheet : Sheet) (b x : Boxes) (left : ℕ) → levels (box_with form h sheet b x) ≤ left → levels x ≤ left
holder_behind Sub h sheet b x left low = most_right (levels_of h.form (levels b)) (levels x) left low
holder_behind form h sheet b x left low = most_right (levels_of h.form 0) (levels x) left low

-- what a box that is refilled, with those behind it, is
refilled_cases : (P : Trees → Type 0) (form : Shape) (c : Cell) (sheet : Sheet) (inner : Trees) (Within Rest : Trees → Type 0) (u : Trees)
    → (form ≡ Sub → (other : Sheet) (boxes others : Trees) → other.zero ≡ sheet.zero → other.arguments ≡ sheet.arguments → Within boxes → Rest others
    → P (Holder c other boxes others))
    → ((others : Trees) → Rest others → P (Holder c sheet inner others))
    → IsHolderRefilled form c sheet inner Within Rest u → P u
refilled_cases P Sub c sheet inner Within Rest u f g h = subst P (sym h.3) (f refl h.0 h.1 h.2 h.4 h.5 h.6 h.7)
refilled_cases P form c sheet inner Within Rest u f g h = subst P (sym h.1) (g h.0 h.2)

canvas_refilled : (s : Site) (left : ℕ) (c : Cell) (sheet other : Sheet) (inner boxes : Trees) → IsSite s → c.head.form ≡ Sub
    → TextsOf s.names (document_boxes (Holder c sheet inner Done)) → levels (document_boxes inner) + 1 ≤ left → other.zero ≡ sheet.zero
    → other.arguments ≡ sheet.arguments → ((n : ℕ) → TextsOf s.names (document_boxes inner) → levels (document_boxes inner) ≤ n → Regrows s n inner → Regrows s n boxes)
    → Regrows s left (Holder c sheet inner Done) → Regrows s left (Holder c other boxes Done)
canvas_refilled s zero c sheet other inner boxes i f o low z a k h = absurd (nowhere (levels (document_boxes inner)) low)
  where
    nowhere : (n : ℕ) → n + 1 ≤ 0 → ⊥
    nowhere n h = omega (arith, h)
canvas_refilled s (suc n) c sheet other inner boxes i f o low z a k h =
    let t = canvas_with sheet inner in
    let g = canvas_inside s n c t i f o h in
    canvas_other s n c t (canvas_with other boxes) i f o h
    (record { zero = z ∙ g.zero; arguments = a ∙ g.arguments; boxes = k n (sub_texts s.names c t f o).inner (less (levels (document_boxes inner)) n low) g.boxes })
  where
    less : (m n : ℕ) → m + 1 ≤ suc n → m ≤ n
    less m n h = omega (arith, h)

pub refilled_regrows : (s : Site) (left : ℕ) (t u : Trees) → IsSite s → TextsOf s.names (document_boxes t) → levels (document_boxes t) ≤ left → Regrows s left t
    → IsRefilled s t u → Regrows s left u
refilled_regrows s left Done u i o low h f = subst (Regrows s left) (sym f) (nothing_regrows s left)
refilled_regrows s left (Leaf c rest) u i o low h f =
    let p = own_parted s left (Leaf c Done) rest i o h in
    let low_rest = most_right (levels_of c.head.form 0) (levels (document_boxes rest)) left low in
    subst (Regrows s left) (sym f.2)
    (own_joined s left (Leaf f.0 Done) f.1 (f.3 left p.0) (refilled_regrows s left rest f.1 i (texts_behind s.names (Leaf c Done) rest o) low_rest p.1 f.4))
refilled_regrows s left (Holder c sheet inner rest) u i o low h f =
    let box = Holder c sheet inner Done in
    let p = own_parted s left box rest i o h in
    let texts = texts_before s.names box rest o in
    let low_rest = holder_behind c.head.form c.head sheet (document_boxes inner) (document_boxes rest) left low in
    refilled_cases (Regrows s left) c.head.form c sheet inner (IsRefilled s inner) (IsRefilled s rest) u
    (λ is other boxes others z a q r. own_joined s left (Holder c other boxes Done) others
    (canvas_refilled s left c sheet other inner boxes i is texts (holder_inside c.head.form c.head sheet (document_boxes inner) (document_boxes rest) left refl is low) z a
    (λ n o2 low2 h2. refilled_regrows s n inner boxes i o2 low2 h2 q) p.0)
    (refilled_regrows s left rest others i (texts_behind s.names box rest o) low_rest p.1 r))
    (λ others r. own_joined s left box others p.0 (refilled_regrows s left rest others i (texts_behind s.names box rest o) low_rest p.1 r)) f

pub patch_refilled : (lib : ℕ → Option Answer) (file : List ℕ) (names : Names) (t u : Tree) → IsLibraryOf names lib → TextsOf names (document_boxes t.boxes)
    → levels (document_boxes t.boxes) ≤ 255 → PatchRegrows lib file names t → u.sheet.zero ≡ t.sheet.zero → u.sheet.arguments ≡ t.sheet.arguments
    → IsRefilled (own_site lib file names t.sheet.zero) t.boxes u.boxes → PatchRegrows lib file names u
patch_refilled lib file names t u l o low h z a f =
    let s = own_site lib file names t.sheet.zero in
    let k = patch_canvas lib file names t l o h in
    patch_other lib lib file names t u h (record {
      zero = z;
      arguments = a ∙ k.arguments;
      boxes = refilled_regrows s 255 t.boxes u.boxes (own_suits lib file names t.sheet.zero l) o low k.boxes f;
    })
