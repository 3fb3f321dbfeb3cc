-- The running tree of a document: box by box in text order.
use Rattle.std.specs.Prelude.{ℕ, zero, suc, ◌-◌, Bool, true, false, List, [], ◌∷◌, ◌++◌, drop, take, length, Option, Some, None, if◌then◌else◌, bytes_eq, codes}
use Rattle.pd_atom.specs.declared.Atom.{Atom}
use Rattle.pd_atom.specs.declared.Atom.TheVariants as atom
use Rattle.pd_atom.specs.Names.{Names, name_of}
use Rattle.pd_object.specs.declared.kinds.Kind.{Kind}
use Rattle.pd_object.specs.declared.kinds.Kind.TheVariants as kind
use Rattle.pd_naming.specs.Naming.{arguments_of}
use Rattle.pd_canvas.specs.Pages.{Head, Page, Entry, elements_of}
use Rattle.pd_library.specs.declared.answers.Answer.{Answer}
use Rattle.pd_tree.specs.declared.rows.Fault.{Fault}
use Rattle.pd_tree.specs.Trees.{Cell, Trees, Done, Leaf, Holder, Tree, join, sheet_of}
use Rattle.pd_growth.specs.Steps.{Stock, Step, gives, goes_on, ◌>>=◌, named_step, counted, numbered, brought, text_expanded}
use Rattle.pd_growth.specs.Making.{Around, Making, Plain, Subpatch, File, made, is_expanded}

-- the boxes of a canvas of this page, grown under what is around them
abbrev pub Inner : Type 0
Inner = Around → Page → Stock → Step Trees

abbrev pub cell_of : Head → List Atom → Kind → Option Fault → Cell
cell_of h text k fault = record { head = h; text = text; kind = k; fault = fault }

-- a box that holds a canvas, and what it holds
abbrev pub canvas_grown : Inner → Around → Page → Head → List Atom → Stock → Step Trees
canvas_grown inner a p h text w =
    inner a p w >>= (λ boxes v. gives (Holder (cell_of h text kind.Canvas None) (sheet_of a.zero a.arguments p) boxes Done) v)

-- a subpatch of the patch's own document whose text is `pd` and a symbol is a receiver `pd-` and that symbol
abbrev pub receiver_bytes : List ℕ → List ℕ
receiver_bytes name = codes "pd-" ++ name

abbrev pub second_named : Names → List Atom → Option (List ℕ)
second_named names (atom.Symbol s ∷ rest) = Some (receiver_bytes (name_of names s))
second_named names _ = None

abbrev pub receiver_named : Names → List Atom → Option (List ℕ)
receiver_named names (atom.Symbol s ∷ rest) = if bytes_eq (name_of names s) (codes "pd") then second_named names rest else None
receiver_named names _ = None

abbrev pub brought_if : Option (List ℕ) → Stock → Step (Unit {0})
brought_if (Some name) w = brought name w
brought_if None w = gives tt w

abbrev pub receiver_brought : Bool → List Atom → Stock → Step (Unit {0})
receiver_brought true text w = brought_if (receiver_named w.names text) w
receiver_brought false text w = gives tt w

-- what is around the boxes of an abstraction with this `$0` and these arguments
abbrev pub around_instance : Around → ℕ → ℕ → List Atom → Around
around_instance a own s args = record { zero = own; arguments = args; inside = s ∷ a.inside; is_top = false }

-- a box by what it makes, with what it holds
abbrev pub box_made : Inner → Around → Entry → List Atom → Making → Stock → Step Trees
box_made inner a e text (Plain k fault) w = gives (Leaf (cell_of e.head text k fault) Done) w
box_made inner a e text Subpatch w = receiver_brought a.is_top text w >>= (λ _ v. canvas_grown inner a e.page e.head text v)
box_made inner a e text (File s p) w =
    numbered w >>= (λ z v. canvas_grown inner (around_instance a z s (arguments_of (drop 1 text))) p e.head text v)

-- the text of a box
abbrev pub own_text : Around → Head → Stock → Step (List Atom)
own_text a h w = if is_expanded h.form then named_step (text_expanded a.zero a.arguments h.text w.names) w else gives h.text w

-- a box of a document: it is counted, its text is expanded, and it makes what it makes
abbrev pub box_grown : (ℕ → Option Answer) → List ℕ → ℕ → Inner → Around → Entry → Stock → Step Trees
box_grown lib root left inner a e w =
    counted w >>= (λ _ v. own_text a e.head v >>= (λ text u.
    goes_on (made lib root left a u.names e.head.form text) u (λ m t. box_made inner a e text m t)))

-- boxes one after the other
unfoldable pub boxes_grown : (ℕ → Option Answer) → List ℕ → ℕ → Inner → Around → List Entry → Stock → Step Trees
boxes_grown lib root left inner a [] w = gives Done w
boxes_grown lib root left inner a (e ∷ es) w =
    box_grown lib root left inner a e w >>= (λ box v. boxes_grown lib root left inner a es v >>= (λ rest u. gives (join box rest) u))

-- The boxes of a canvas, inside which so many canvases may lie in one another.
unfoldable pub page_grown : (ℕ → Option Answer) → List ℕ → ℕ → Inner
page_grown lib root zero a p w = boxes_grown lib root zero (λ a p w. gives Done w) a (elements_of p) w
page_grown lib root (suc n) a p w = boxes_grown lib root (suc n) (page_grown lib root n) a (elements_of p) w

-- a file's name without `.pd` at its end
abbrev pub without_ending : List ℕ → List ℕ
without_ending name =
    if bytes_eq (drop (length name - 3) name) (codes ".pd") then take (length name - 3) name else name

abbrev pub around_root : ℕ → Around
around_root own = record { zero = own; arguments = []; inside = []; is_top = true }

-- a document under a file name: the root takes the first `$0`, and is a receiver `pd-` and that name
abbrev pub grown : (ℕ → Option Answer) → List ℕ → Page → Stock → Step Tree
grown lib name p w =
    numbered w >>= (λ z v. brought (receiver_bytes name) v >>= (λ _ u.
    page_grown lib (without_ending name) 255 (around_root z) p u >>= (λ boxes t. gives (record { sheet = sheet_of z [] p; boxes = boxes }) t)))
