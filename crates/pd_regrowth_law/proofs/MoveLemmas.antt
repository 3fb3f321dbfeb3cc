-- Growth never looks at where a box stands.
use Rattle.std.proofs.Common.{◌≡◌, ℕ, ◌+◌, List, [], ◌∷◌, ◌++◌, Option, drop, if◌then◌else◌, refl, sym, ap, ◌∙◌, subst}
use Rattle.pd_atom.specs.declared.Atom.{Atom}
use Rattle.pd_naming.specs.Naming.{arguments_of}
use Rattle.pd_canvas.specs.Pages.{Shape, Sub, Head, Boxes, End, Page, Entry, page_of, empty_page, listed}
use Rattle.pd_library.specs.declared.answers.Answer.{Answer}
use Rattle.pd_tree.specs.declared.rows.Sheet.{Sheet}
use Rattle.pd_tree.specs.Trees.{Cell, Trees, Done, Leaf, Holder, weight, frame_in, box_with, document_boxes, own_zeros, zeros_in}
use Rattle.pd_growth.specs.Steps.{Stock, Step, gives, goes_on, ◌>>=◌, named_step, counted, numbered, text_expanded}
use Rattle.pd_growth.specs.Making.{Around, Making, Plain, Subpatch, File, made, is_expanded}
use Rattle.pd_growth.specs.Growth.{Inner, canvas_grown, receiver_brought, around_instance, box_made, own_text, box_grown}
use Rattle.pd_regrowth_law.specs.Regrowth.{inner_of, stock}
use Rattle.pd_regrowth_law.specs.Canvases.{Site, BoxRegrows, ListRegrows, Regrows, with_head, IsMoved}
use Rattle.pd_regrowth_law.proofs.SplitLemmas.{chain_of_chain, same_chain}
use Rattle.pd_regrowth_law.proofs.PartLemmas.{one_listed, one_alone}

-- the first box with another head
abbrev headed : Head → Trees → Trees
headed k Done = Done
headed k (Leaf c rest) = Leaf (with_head k c) rest
headed k (Holder c s inner rest) = Holder (with_head k c) s inner rest

abbrev entry_with : Head → Entry → Entry
entry_with k e = record { head = k; page = e.page }

abbrev headed_step : Head → Step Trees → Step Trees
headed_step k s = s >>= (λ t u. gives (headed k t) u)

canvas_moved : (inner : Inner) (a : Around) (p : Page) (h k : Head) (text : List Atom) (w : Stock)
    → canvas_grown inner a p k text w ≡ headed_step k (canvas_grown inner a p h text w)
canvas_moved inner a p h k text w =
    let s = inner a p w in
    sym (chain_of_chain s.answer s.stock _ (λ t u. gives (headed k t) u))

making_moved : (inner : Inner) (a : Around) (e : Entry) (k : Head) (text : List Atom) (m : Making) (w : Stock)
    → box_made inner a (entry_with k e) text m w ≡ headed_step k (box_made inner a e text m w)
making_moved inner a e k text (Plain kind fault) w = refl
making_moved inner a e k text Subpatch w =
    let s = receiver_brought a.is_top text w in
    let old : Unit {0} → Stock → Step Trees = λ _ v. canvas_grown inner a e.page e.head text v in
    same_chain s.answer s.stock (λ _ v. canvas_grown inner a e.page k text v) (λ y v. headed_step k (old y v)) (λ _ v. canvas_moved inner a e.page e.head k text v)
    ∙ sym (chain_of_chain s.answer s.stock old (λ t u. gives (headed k t) u))
making_moved inner a e k text (File n p) w =
    let s = numbered w in
    let around : ℕ → Around = λ z. around_instance a z n (arguments_of (drop 1 text)) in
    let old : ℕ → Stock → Step Trees = λ z v. canvas_grown inner (around z) p e.head text v in
    same_chain s.answer s.stock (λ z v. canvas_grown inner (around z) p k text v) (λ z v. headed_step k (old z v)) (λ z v. canvas_moved inner (around z) p e.head k text v)
    ∙ sym (chain_of_chain s.answer s.stock old (λ t u. gives (headed k t) u))

text_moved : (a : Around) (h k : Head) (w : Stock) → IsMoved h k → own_text a k w ≡ own_text a h w
text_moved a h k w m =
    ap (λ f. if is_expanded f then named_step (text_expanded a.zero a.arguments k.text w.names) w else gives k.text w) m.form
    ∙ ap (λ l. if is_expanded h.form then named_step (text_expanded a.zero a.arguments l w.names) w else gives l w) m.text

pub box_moved : (lib : ℕ → Option Answer) (root : List ℕ) (left : ℕ) (inner : Inner) (a : Around) (e : Entry) (k : Head) (w : Stock) → IsMoved e.head k
    → box_grown lib root left inner a (entry_with k e) w ≡ headed_step k (box_grown lib root left inner a e w)
box_moved lib root left inner a e k w m =
    let f : Trees → Stock → Step Trees = λ t u. gives (headed k t) u in
    let start = counted w in
    let new_made : List Atom → Stock → Step Trees = λ text u. goes_on (made lib root left a u.names k.form text) u (λ y t. box_made inner a (entry_with k e) text y t) in
    let old_made : List Atom → Stock → Step Trees = λ text u. goes_on (made lib root left a u.names e.head.form text) u (λ y t. box_made inner a e text y t) in
    let new_text : Unit {0} → Stock → Step Trees = λ _ v. own_text a k v >>= new_made in
    let old_text : Unit {0} → Stock → Step Trees = λ _ v. own_text a e.head v >>= old_made in
    let made_moved : (text : List Atom) (u : Stock) → new_made text u ≡ (old_made text u >>= f) = λ text u.
    ap (λ y. goes_on (made lib root left a u.names y text) u (λ y t. box_made inner a (entry_with k e) text y t)) m.form
    ∙ same_chain (made lib root left a u.names e.head.form text) u (λ y t. box_made inner a (entry_with k e) text y t) (λ y t. box_made inner a e text y t >>= f)
    (λ y t. making_moved inner a e k text y t)
    ∙ sym (chain_of_chain (made lib root left a u.names e.head.form text) u (λ y t. box_made inner a e text y t) f) in
    let texts : (y : Unit {0}) (v : Stock) → new_text y v ≡ (old_text y v >>= f) = λ _ v.
    let o = own_text a e.head v in
    ap (λ y. y >>= new_made) (text_moved a e.head k v m)
    ∙ same_chain o.answer o.stock new_made (λ text u. old_made text u >>= f) made_moved
    ∙ sym (chain_of_chain o.answer o.stock old_made f) in
    same_chain start.answer start.stock new_text (λ y v. old_text y v >>= f) texts ∙ sym (chain_of_chain start.answer start.stock old_text f)

one_moved : (s : Site) (left : ℕ) (e : Entry) (k : Head) (t : Trees) → IsMoved e.head k → zeros_in (headed k t) ≡ zeros_in t → weight (headed k t) ≡ weight t
    → BoxRegrows s left e t → BoxRegrows s left (entry_with k e) (headed k t)
one_moved s left e k t m zeros weighs h names2 more room x =
    let grown : Stock → Step Trees = box_grown s.lib s.root left (inner_of s.lib s.root left) s.around (entry_with k e) in
    ap (λ l. grown (stock names2 (l ++ more) (weight (headed k t) + room))) zeros
    ∙ ap (λ n. grown (stock names2 (zeros_in t ++ more) (n + room))) weighs
    ∙ box_moved s.lib s.root left (inner_of s.lib s.root left) s.around e k (stock names2 (zeros_in t ++ more) (weight t + room)) m
    ∙ ap (headed_step k) (h names2 more room x)

pub leaf_moved : (s : Site) (left : ℕ) (c : Cell) (k : Head) → IsMoved c.head k → Regrows s left (Leaf c Done) → Regrows s left (Leaf (with_head k c) Done)
leaf_moved s left c k m h =
    let e : Entry = record { head = c.head; page = empty_page } in
    one_listed s left (entry_with k e) (Leaf (with_head k c) Done)
    (one_moved s left e k (Leaf c Done) m refl refl (one_alone s left e (Leaf c Done) h))

abbrev holder_page : Shape → Sheet → Boxes → Page
holder_page Sub s b = page_of (frame_in s) b
holder_page form s b = empty_page

holder_entry : (form : Shape) (h : Head) (s : Sheet) (b : Boxes) → listed (box_with form h s b End) ≡ record { head = h; page = holder_page form s b } ∷ []
holder_entry Sub h s b = refl
holder_entry form h s b = refl

pub holder_moved : (s : Site) (left : ℕ) (c : Cell) (k : Head) (sheet : Sheet) (inner : Trees) → IsMoved c.head k → Regrows s left (Holder c sheet inner Done)
    → Regrows s left (Holder (with_head k c) sheet inner Done)
holder_moved s left c k sheet inner m h =
    let b = document_boxes inner in
    let e : Entry = record { head = c.head; page = holder_page c.head.form sheet b } in
    let t = Holder c sheet inner Done in
    let u = Holder (with_head k c) sheet inner Done in
    let elements : listed (box_with k.form k sheet b End) ≡ entry_with k e ∷ [] =
    ap (λ y. listed (box_with y k sheet b End)) m.form ∙ holder_entry c.head.form k sheet b in
    let zeros : zeros_in u ≡ zeros_in t = ap (λ y. own_zeros y sheet ++ (zeros_in inner ++ [])) m.form in
    subst (λ l. ListRegrows s left l u) (sym elements)
    (one_listed s left (entry_with k e) u (one_moved s left e k t m zeros refl (one_alone s left e t
    (subst (λ l. ListRegrows s left l t) (holder_entry c.head.form c.head sheet b) h))))
