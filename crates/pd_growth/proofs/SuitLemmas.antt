-- What can grow can grow under a table that goes on.
use Rattle.std.proofs.Common.{◌≡◌, ℕ, ◌<◌, ◌≤◌, List, [], ◌∷◌, length, Option, Some, None, refl, sym, ap, subst, arith}
use Rattle.pd_canvas.specs.declared.tree.Element.{Element}
use Rattle.pd_canvas.specs.Views.{entry_of, entries_of}
use Rattle.std.specs.List.{All, AllByRecursion}
use Rattle.std.proofs.lemmas.List.Elements.{All-weaker, All-cons}
use Rattle.pd_atom.specs.Names.{Names, Extends}
use Rattle.pd_canvas.specs.Pages.{Boxes, End, Box, Page, Entry, listed, boxed, weight}
use Rattle.pd_canvas.specs.Proper.{levels}
use Rattle.pd_library.specs.declared.answers.Answer.{Answer}
use Rattle.pd_library.specs.declared.answers.Answer.TheVariants.{Found, Absent, Bad}
use Rattle.pd_tree.specs.declared.rows.Row.{Row}
use Rattle.pd_growth.specs.declared.scope.Scope.{Scope}
use Rattle.pd_growth.specs.Suits.{TextsSuit, PageSuits, EntrySuits, AnswerSuits, FilesSuit, RowSuits}
use Rattle.pd_growth.specs.Growing.{ScopeSuits}
use Rattle.pd_growth.proofs.TextLemmas.{longer_table, text_extended}

pub texts_extended : (old new : Names) (b : Boxes) → Extends old new → TextsSuit old b → TextsSuit new b
texts_extended old new End e h = tt
texts_extended old new (Box head f inner rest) e h =
    (text_extended old new head.text e h.0, texts_extended old new inner e h.1, texts_extended old new rest e h.2)

pub page_extended : (old new : Names) (p : Page) → Extends old new → PageSuits old p → PageSuits new p
page_extended old new p e h = (texts_extended old new p.boxes e h.0, h.1)

answer_extended : (old new : Names) (o : Option Answer) → Extends old new → AnswerSuits old o → AnswerSuits new o
answer_extended old new None e h = tt
answer_extended old new (Some (Found d)) e h = page_extended old new d.root e h
answer_extended old new (Some Absent) e h = tt
answer_extended old new (Some (Bad n)) e h = tt

pub files_extended : (old new : Names) (lib : ℕ → Option Answer) → Extends old new → FilesSuit old lib → FilesSuit new lib
files_extended old new lib e h = λ name. answer_extended old new (lib name) e (h name)

pub names_extended : (old new : Names) (inside : List ℕ) → Extends old new → All (λ t. t < length old) inside → All (λ t. t < length new) inside
names_extended old new inside e h = All-weaker (λ t. t < length old) (λ t. t < length new) (λ t l. let m = longer_table old new e in omega (arith, l, m)) inside h

pub scope_extended : (old new : Names) (s : Scope) → Extends old new → ScopeSuits old s → ScopeSuits new s
scope_extended old new s e h = (text_extended old new s.arguments.now e h.0, names_extended old new s.inside.now e h.1, h.2)

pub entries_extended : (old new : Names) (left : ℕ) (es : List Entry) → Extends old new → AllByRecursion (EntrySuits old left) es → AllByRecursion (EntrySuits new left) es
entries_extended old new left [] e h = tt
entries_extended old new left (x ∷ es) e h =
    ((text_extended old new x.head.text e h.0.0, page_extended old new x.page e h.0.1, h.0.2), entries_extended old new left es e h.1)

pub entry_extended : (old new : Names) (left : ℕ) (x : Entry) → Extends old new → EntrySuits old left x → EntrySuits new left x
entry_extended old new left x e h = (text_extended old new x.head.text e h.0, page_extended old new x.page e h.1, h.2)

pub rows_extended : (old new : Names) (rows : List Row) → Extends old new → AllByRecursion (RowSuits old) rows → AllByRecursion (RowSuits new) rows
rows_extended old new [] e h = tt
rows_extended old new (r ∷ rows) e h = ((text_extended old new r.text e h.0.0, h.0.1), rows_extended old new rows e h.1)

-- the boxes of a document that suits
pub boxes_suit : (names : Names) (left : ℕ) (b : Boxes) → TextsSuit names b → weight b ≤ 16384 → levels b ≤ left → AllByRecursion (EntrySuits names left) (listed b)
boxes_suit names left End t w l = tt
boxes_suit names left (Box h f inner rest) t w l =
    ((t.0, (t.1, omega (arith, w)), omega (arith, l)), boxes_suit names left rest t.2 (omega (arith, w)) (omega (arith, l)))

pub few_boxes : (b : Boxes) → length (listed b) ≤ weight b
few_boxes End = omega arith
few_boxes (Box h f inner rest) = omega (arith, few_boxes rest)

pub listed_boxed : (es : List Entry) → listed (boxed es) ≡ es
listed_boxed [] = refl
listed_boxed (e ∷ es) = ap (λ l. e ∷ l) (listed_boxed es)

pub split_suits : (names : Names) (left : ℕ) (ds es : List Element) (e : Element) → ds ≡ e ∷ es → AllByRecursion (EntrySuits names left) (entries_of ds)
    → EntrySuits names left (entry_of e) × AllByRecursion (EntrySuits names left) (entries_of es)
split_suits names left ds es e d h = let k : AllByRecursion (EntrySuits names left) (entries_of (e ∷ es)) = subst (λ xs. AllByRecursion (EntrySuits names left) (entries_of xs)) d h in (k.0, k.1)

pub names_with : (names : Names) (name : ℕ) (inside list : List ℕ) → list ≡ name ∷ inside → name < length names → All (λ t. t < length names) inside → All (λ t. t < length names) list
names_with names name inside list e l h =
    subst (λ (xs : List ℕ). All (λ t. t < length names) xs) (sym e) (All-cons (λ t. t < length names) name inside l h)
