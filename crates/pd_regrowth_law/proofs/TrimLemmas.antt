-- Wires that fit: trimming twice is trimming once, and a patch's own document grows to a tree that is trimmed to the same.
use Rattle.std.proofs.Common.{◌≡◌, ℕ, ◌+◌, Bool, true, cond, List, [], ◌∷◌, ◌++◌, map, filter, Option, refl, sym, ap, ◌∙◌}
use Rattle.pd_atom.proofs.CaseLemmas.{by_test}
use Rattle.pd_object.specs.declared.kinds.Kind.{Kind}
use Rattle.pd_canvas.specs.Pages.{Shape, Sub, Boxes, End, Box, Page, page_of, frame_of, empty_page}
use Rattle.pd_library.specs.declared.answers.Answer.{Answer}
use Rattle.pd_tree.specs.declared.rows.Sheet.{Sheet}
use Rattle.pd_tree.specs.Trees.{Cell, Trees, Done, Leaf, Holder, Tree, weight, frame_in, box_with, document_boxes, document_in, own_zeros, zeros_in, zeros_of}
use Rattle.pd_tree.specs.Ports.{inlet_signal, outlet_signal, PortBox, with_port, port_boxes, by_x, Sockets, sockets_of, sockets_around, sockets_in, fits, trimmed_sheet, trimmed, trimmed_tree}
use Rattle.pd_growth.specs.Steps.{Stock, gives}
use Rattle.pd_growth.specs.Growth.{grown}
use Rattle.pd_regrowth_law.specs.Regrowth.{stock, GivesAgain}
use Rattle.pd_regrowth_law.specs.Suits.{TextsOf, IsLibraryOf, AnswersAlike}
use Rattle.pd_regrowth_law.specs.Rewiring.{with_wires, IsHolderAlike, AreAlike, IsTreeAlike, holder_trimmed, own_trimmed, own_trimmed_tree}
use Rattle.pd_regrowth_law.proofs.AgainLemmas.{patch_again}
use Rattle.pd_regrowth_law.proofs.AlikeLemmas.{patch_alike, patch_texts, holder_cases, weight_alike, zeros_of_alike}

filter_step : {X : Type 0} (p : X → Bool) (x : X) (xs : List X) → filter p (filter p xs) ≡ filter p xs → filter p (filter p (x ∷ xs)) ≡ filter p (x ∷ xs)
filter_step p x xs h = by_test (p x)
    (λ e. ap (λ b. filter p (cond b (x ∷ filter p xs) (filter p xs))) e
    ∙ ap (λ b. cond b (x ∷ filter p (filter p xs)) (filter p (filter p xs))) e
    ∙ ap (λ l. x ∷ l) h ∙ ap (λ b. cond b (x ∷ filter p xs) (filter p xs)) (sym e))
    (λ e. ap (λ b. filter p (cond b (x ∷ filter p xs) (filter p xs))) e ∙ h ∙ ap (λ b. cond b (x ∷ filter p xs) (filter p xs)) (sym e))

filter_twice : {X : Type 0} (p : X → Bool) (xs : List X) → filter p (filter p xs) ≡ filter p xs
filter_twice p [] = refl
filter_twice p (x ∷ xs) = filter_step p x xs (filter_twice p xs)

-- ---- ports do not change with wires

ports_trimmed : (side : Kind → Option Bool) (n : ℕ) (t : Trees) → port_boxes side n (trimmed t) ≡ port_boxes side n t
ports_trimmed side n Done = refl
ports_trimmed side n (Leaf c rest) = ap (with_port (side c.kind) n c.head.x) (ports_trimmed side (n + 1) rest)
ports_trimmed side n (Holder c s inner rest) = ports_trimmed side (n + 1) rest

abbrev around_ports : List PortBox → List PortBox → Sockets
around_ports inlets outlets = record { inlets = map (λ (p : PortBox). p.is_signal) (by_x inlets); outlets = map (λ (p : PortBox). p.is_signal) (by_x outlets); made = true }

around_same : (t u : Trees) → ((side : Kind → Option Bool) (n : ℕ) → port_boxes side n u ≡ port_boxes side n t) → sockets_around u ≡ sockets_around t
around_same t u h =
    ap (λ l. around_ports l (port_boxes outlet_signal 0 u)) (h inlet_signal 0) ∙ ap (around_ports (port_boxes inlet_signal 0 t)) (h outlet_signal 0)

sockets_trimmed : (t : Trees) → sockets_in (trimmed t) ≡ sockets_in t
sockets_trimmed Done = refl
sockets_trimmed (Leaf c rest) = ap (λ l. sockets_of c.kind ∷ l) (sockets_trimmed rest)
sockets_trimmed (Holder c s inner rest) =
    ap (λ x. x ∷ sockets_in (trimmed rest)) (around_same inner (trimmed inner) (λ side n. ports_trimmed side n inner))
    ∙ ap (λ l. sockets_around inner ∷ l) (sockets_trimmed rest)

ports_alike : (side : Kind → Option Bool) (n : ℕ) (t u : Trees) → AreAlike t u → port_boxes side n u ≡ port_boxes side n t
ports_alike side n Done u h = ap (port_boxes side n) h
ports_alike side n (Leaf c rest) u h = ap (port_boxes side n) h.1 ∙ ap (with_port (side c.kind) n c.head.x) (ports_alike side (n + 1) rest h.0 h.2)
ports_alike side n (Holder c s inner rest) u h =
    holder_cases (λ y. port_boxes side n y ≡ port_boxes side (n + 1) rest) c.head.form c s inner rest u
    (λ ws boxes others i r. ports_alike side (n + 1) rest others r) (λ others r. ports_alike side (n + 1) rest others r) h

pub sockets_alike : (t u : Trees) → AreAlike t u → sockets_in u ≡ sockets_in t
sockets_alike Done u h = ap sockets_in h
sockets_alike (Leaf c rest) u h = ap sockets_in h.1 ∙ ap (λ l. sockets_of c.kind ∷ l) (sockets_alike rest h.0 h.2)
sockets_alike (Holder c s inner rest) u h =
    holder_cases (λ y. sockets_in y ≡ sockets_around inner ∷ sockets_in rest) c.head.form c s inner rest u
    (λ ws boxes others i r. ap (λ x. x ∷ sockets_in others) (around_same inner boxes (λ side n. ports_alike side n inner boxes i))
    ∙ ap (λ l. sockets_around inner ∷ l) (sockets_alike rest others r))
    (λ others r. ap (λ l. sockets_around inner ∷ l) (sockets_alike rest others r)) h

-- ---- trimming again

sheet_twice : (t u : Trees) (s : Sheet) → sockets_in u ≡ sockets_in t → trimmed_sheet u (trimmed_sheet t s) ≡ trimmed_sheet t s
sheet_twice t u s e =
    ap (λ b. with_wires (filter (fits b) (filter (fits (sockets_in t)) s.wires)) s) e ∙ ap (λ ws. with_wires ws s) (filter_twice (fits (sockets_in t)) s.wires)

pub trimmed_twice : (t : Trees) → trimmed (trimmed t) ≡ trimmed t
trimmed_twice Done = refl
trimmed_twice (Leaf c rest) = ap (Leaf c) (trimmed_twice rest)
trimmed_twice (Holder c s inner rest) =
    ap (λ x. Holder c x (trimmed (trimmed inner)) (trimmed (trimmed rest))) (sheet_twice inner (trimmed inner) s (sockets_trimmed inner))
    ∙ ap (λ x. Holder c (trimmed_sheet inner s) x (trimmed (trimmed rest))) (trimmed_twice inner)
    ∙ ap (Holder c (trimmed_sheet inner s) (trimmed inner)) (trimmed_twice rest)

pub tree_twice : (t : Tree) → trimmed_tree (trimmed_tree t) ≡ trimmed_tree t
tree_twice t =
    ap (λ s. record { sheet = s; boxes = trimmed (trimmed t.boxes) }) (sheet_twice t.boxes (trimmed t.boxes) t.sheet (sockets_trimmed t.boxes))
    ∙ ap (λ b. record { sheet = trimmed_sheet t.boxes t.sheet; boxes = b }) (trimmed_twice t.boxes)

pub weight_trimmed : (t : Trees) → weight (trimmed t) ≡ weight t
weight_trimmed Done = refl
weight_trimmed (Leaf c rest) = ap (λ n. n + 1) (weight_trimmed rest)
weight_trimmed (Holder c s inner rest) = ap (λ n. n + weight (trimmed rest) + 1) (weight_trimmed inner) ∙ ap (λ n. weight inner + n + 1) (weight_trimmed rest)

own_trims : (form : Shape) (t : Trees) (s : Sheet) → own_zeros form (trimmed_sheet t s) ≡ own_zeros form s
own_trims Sub t s = refl
own_trims form t s = refl

zeros_trimmed : (t : Trees) → zeros_in (trimmed t) ≡ zeros_in t
zeros_trimmed Done = refl
zeros_trimmed (Leaf c rest) = zeros_trimmed rest
zeros_trimmed (Holder c s inner rest) =
    ap (λ x. x ++ (zeros_in (trimmed inner) ++ zeros_in (trimmed rest))) (own_trims c.head.form inner s)
    ∙ ap (λ x. own_zeros c.head.form s ++ (x ++ zeros_in (trimmed rest))) (zeros_trimmed inner)
    ∙ ap (λ x. own_zeros c.head.form s ++ (zeros_in inner ++ x)) (zeros_trimmed rest)

pub zeros_of_trimmed : (t : Tree) → zeros_of (trimmed_tree t) ≡ zeros_of t
zeros_of_trimmed t = ap (λ l. t.sheet.zero ∷ l) (zeros_trimmed t.boxes)

-- ---- the canvases of the document itself, trimmed

holder_own : (form : Shape) (c : Cell) (s : Sheet) (inner rest inside others : Trees) → AreAlike inner inside → AreAlike rest others
    → IsHolderAlike form c s inner (AreAlike inner) (AreAlike rest) (holder_trimmed form c s inner inside others)
holder_own Sub c s inner rest inside others i r = (filter (fits (sockets_in inner)) s.wires, inside, others, refl, i, r)
holder_own form c s inner rest inside others i r = (others, refl, r)

own_alike : (t : Trees) → AreAlike t (own_trimmed t)
own_alike Done = refl
own_alike (Leaf c rest) = (own_trimmed rest, refl, own_alike rest)
own_alike (Holder c s inner rest) = holder_own c.head.form c s inner rest (own_trimmed inner) (own_trimmed rest) (own_alike inner) (own_alike rest)

pub own_tree_alike : (t : Tree) → IsTreeAlike t (own_trimmed_tree t)
own_tree_alike t = record { wires = filter (fits (sockets_in t.boxes)) t.sheet.wires; sheet = refl; boxes = own_alike t.boxes }

holder_document : (form : Shape) (c : Cell) (s : Sheet) (inner inside others : Trees) (b r : Boxes) → c.head.form ≡ form
    → document_boxes inside ≡ b → document_boxes others ≡ r
    → document_boxes (holder_trimmed form c s inner inside others) ≡ box_with form c.head (trimmed_sheet inner s) b r
holder_document Sub c s inner inside others b r e i k =
    ap (λ y. box_with y c.head (trimmed_sheet inner s) (document_boxes inside) (document_boxes others)) e
    ∙ ap (λ y. Box c.head (frame_in (trimmed_sheet inner s)) y (document_boxes others)) i
    ∙ ap (Box c.head (frame_in (trimmed_sheet inner s)) b) k
holder_document form c s inner inside others b r e i k =
    ap (λ y. box_with y c.head s (document_boxes inner) (document_boxes others)) e ∙ ap (Box c.head (frame_of empty_page) End) k

own_document : (t : Trees) → document_boxes (own_trimmed t) ≡ document_boxes (trimmed t)
own_document Done = refl
own_document (Leaf c rest) = ap (Box c.head (frame_of empty_page) End) (own_document rest)
own_document (Holder c s inner rest) =
    holder_document c.head.form c s inner (own_trimmed inner) (own_trimmed rest) (document_boxes (trimmed inner)) (document_boxes (trimmed rest)) refl
    (own_document inner) (own_document rest)

pub own_tree_document : (t : Tree) → document_in (own_trimmed_tree t) ≡ document_in (trimmed_tree t)
own_tree_document t = ap (page_of (frame_in (trimmed_sheet t.boxes t.sheet))) (own_document t.boxes)

holder_twice : (form : Shape) (c : Cell) (s : Sheet) (inner inside others : Trees) (r : Trees) → sockets_in inside ≡ sockets_in inner
    → trimmed inside ≡ trimmed inner → trimmed others ≡ r → trimmed (holder_trimmed form c s inner inside others) ≡ Holder c (trimmed_sheet inner s) (trimmed inner) r
holder_twice Sub c s inner inside others r e i k =
    ap (λ x. Holder c x (trimmed inside) (trimmed others)) (sheet_twice inner inside s e)
    ∙ ap (λ x. Holder c (trimmed_sheet inner s) x (trimmed others)) i ∙ ap (Holder c (trimmed_sheet inner s) (trimmed inner)) k
holder_twice form c s inner inside others r e i k = ap (Holder c (trimmed_sheet inner s) (trimmed inner)) k

own_twice : (t : Trees) → trimmed (own_trimmed t) ≡ trimmed t
own_twice Done = refl
own_twice (Leaf c rest) = ap (Leaf c) (own_twice rest)
own_twice (Holder c s inner rest) =
    holder_twice c.head.form c s inner (own_trimmed inner) (own_trimmed rest) (trimmed rest) (sockets_alike inner (own_trimmed inner) (own_alike inner))
    (own_twice inner) (own_twice rest)

pub own_tree_twice : (t : Tree) → trimmed_tree (own_trimmed_tree t) ≡ trimmed_tree t
own_tree_twice t =
    ap (λ s. record { sheet = s; boxes = trimmed (own_trimmed t.boxes) })
    (sheet_twice t.boxes (own_trimmed t.boxes) t.sheet (sockets_alike t.boxes (own_trimmed t.boxes) (own_alike t.boxes)))
    ∙ ap (λ b. record { sheet = trimmed_sheet t.boxes t.sheet; boxes = b }) (own_twice t.boxes)

-- ---- a patch's own document grows again

pub patch_regrown : (lib lib2 : ℕ → Option Answer) (name : List ℕ) (p : Page) (w v : Stock) (t u : Tree) → AnswersAlike lib lib2
    → IsLibraryOf w.names lib → TextsOf w.names p.boxes → IsTreeAlike t u → grown lib name p w ≡ gives t v
    → GivesAgain (grown lib2 name (document_in u)) u v.names (zeros_of t) (weight t.boxes)
patch_regrown lib lib2 name p w v t u like l o alike h names2 more room x =
    let q = document_in u in
    ap (λ zs. grown lib2 name q (stock names2 (zs ++ more) (weight t.boxes + room))) (sym (zeros_of_alike t u alike))
    ∙ ap (λ n. grown lib2 name q (stock names2 (zeros_of u ++ more) (n + room))) (sym (weight_alike t.boxes u.boxes alike.boxes))
    ∙ patch_again lib lib2 name q w v u like l (patch_texts lib name p w v t u w.names h alike o) (patch_alike lib name p w v t u h alike) names2 more room x

pub own_regrown : (lib lib2 : ℕ → Option Answer) (name : List ℕ) (p : Page) (w v : Stock) (t : Tree) → AnswersAlike lib lib2
    → IsLibraryOf w.names lib → TextsOf w.names p.boxes → grown lib name p w ≡ gives t v
    → GivesAgain (grown lib2 name (document_in (trimmed_tree t))) (own_trimmed_tree t) v.names (zeros_of t) (weight t.boxes)
own_regrown lib lib2 name p w v t like l o h names2 more room x =
    ap (λ q. grown lib2 name q (stock names2 (zeros_of t ++ more) (weight t.boxes + room))) (sym (own_tree_document t))
    ∙ patch_regrown lib lib2 name p w v t (own_trimmed_tree t) like l o (own_tree_alike t) h names2 more room x
