-- The page that a path of box numbers leads to, and a change of it.
use Rattle.std.specs.Prelude.{ℕ, zero, suc, List, [], ◌∷◌, slice_get, Option, Some, None, option_and_then}
use Rattle.pd_canvas.specs.Pages.{Shape, Sub, Page, Entry, elements_of, with_elements}

abbrev pub page_within : Shape → Page → Option Page
page_within Sub p = Some p
page_within _ p = None

-- the page that an element holds
abbrev pub sub_page : Entry → Option Page
sub_page e = page_within e.head.form e.page

-- the page in box i
abbrev pub page_in : ℕ → Page → Option Page
page_in i p = option_and_then sub_page (slice_get (elements_of p) i)

abbrev pub along : List ℕ → Page → Option Page
along [] p = Some p
along (i ∷ path) p = option_and_then (along path) (page_in i p)

-- the list with its element at place i changed
abbrev pub at_place : {X : Type 0} → ℕ → (X → X) → List X → List X
at_place i f [] = []
at_place zero f (x ∷ xs) = f x ∷ xs
at_place (suc i) f (x ∷ xs) = x ∷ at_place i f xs

-- the page that an element holds changed
abbrev pub inside : (Page → Page) → Entry → Entry
inside f e = record { head = e.head; page = f e.page }

-- the element of box i changed
abbrev pub change_box : ℕ → (Entry → Entry) → Page → Page
change_box i f p = with_elements (at_place i f (elements_of p)) p

-- the page at the end of a path changed
abbrev pub edit_at : List ℕ → (Page → Page) → Page → Page
edit_at [] f p = f p
edit_at (i ∷ path) f p = change_box i (inside (edit_at path f)) p
