-- Growth again: in a table that goes on, from the same `$0` numbers, what grew grows.
use Rattle.std.proofs.Common.{◌≡◌, ℕ, zero, suc, ◌+◌, ◌<◌, Bool, true, false, ◌||◌, List, [], ◌∷◌, ◌++◌, length, drop, Option, Some, None, Result, Ok, if◌then◌else◌, nat_lt, bytes_eq, codes, refl, sym, ap, ◌∙◌, subst, arith, append_assoc, append-nil}
use Rattle.std.specs.List.{AllByRecursion, list_any}
use Rattle.pd_atom.specs.declared.Atom.{Atom}
use Rattle.pd_atom.specs.declared.Atom.TheVariants as atom
use Rattle.pd_atom.specs.Names.{Names, Outcome, given, name_of, Extends, longest, interned}
use Rattle.pd_object.specs.declared.kinds.Kind.{Kind}
use Rattle.pd_object.specs.declared.kinds.Kind.TheVariants as kind
use Rattle.pd_object.specs.declared.kinds.Named.{Named}
use Rattle.pd_object.specs.declared.kinds.Named.TheVariants as named
use Rattle.pd_naming.specs.Naming.{arguments_of, named_by}
use Rattle.pd_canvas.specs.Pages.{Shape, Obj, Msg, Comment, FloatBox, SymbolBox, Sub, Array, Other, Head, Boxes, End, Box, Page, Entry, listed, elements_of}
use Rattle.pd_library.specs.declared.answers.Answer.{Answer}
use Rattle.pd_tree.specs.declared.rows.Fault.{Fault}
use Rattle.pd_tree.specs.declared.rows.Fault.TheVariants.{Unknown, InsideItself}
use Rattle.pd_tree.specs.Trees.{Trees, Done, Leaf, Holder, Tree, join, weight, sheet_of, own_zeros, zeros_in, zeros_of}
use Rattle.pd_growth.specs.declared.growing.Stop.{Stop}
use Rattle.pd_growth.specs.declared.growing.Stop.TheVariants.{Lacks}
use Rattle.pd_growth.specs.Steps.{Stock, Step, gives, goes_on, ◌>>=◌, named_step, counted, numbered, brought, text_expanded}
use Rattle.pd_growth.specs.Making.{Around, Making, Plain, Subpatch, File, unmade, is_inside, has_slash, answer_made, abstraction_made, object_made, made, is_expanded}
use Rattle.pd_growth.specs.Growth.{Inner, cell_of, canvas_grown, receiver_bytes, second_named, receiver_named, brought_if, receiver_brought, around_instance, box_made, own_text, box_grown, boxes_grown, page_grown, without_ending, around_root, grown}
use Rattle.pd_regrowth_law.specs.Regrowth.{inner_of, stock, GivesAgain}
use Rattle.pd_regrowth_law.specs.Suits.{AreOf, TextsOf, IsEntryOf, AreEntriesOf, IsLibraryOf, IsAroundOf, AnswersAlike}
use Rattle.pd_regrowth_law.proofs.StepLemmas.{no_boxes, more_boxes, page_is, gives_same, gives_stock, ok_same, err_never, chain, box_went, boxes_went, named_went, extends_on, counted_takes, numbered_takes, brought_takes}
use Rattle.pd_regrowth_law.proofs.MakeLemmas.{object_holds, MakesBy, made_by}
use Rattle.pd_regrowth_law.proofs.TakeLemmas.{zeros_join, weight_join, text_takes, receiver_takes, canvas_went, InnerTakes, making_takes, box_takes, boxes_take, inner_takes, page_takes, patch_went}
use Rattle.pd_regrowth_law.proofs.ExpandLemmas.{name_stays, below_more, are_of_more, interned_again, text_again, text_of}
use Rattle.pd_regrowth_law.proofs.NamingLemmas.{arguments_are_of, named_again, named_below}

-- ---- what is of a table is of one that goes on

pub texts_more : (names names2 : Names) → Extends names names2 → (b : Boxes) → TextsOf names b → TextsOf names2 b
texts_more names names2 x End h = tt
texts_more names names2 x (Box d f inner rest) h =
    (are_of_more names names2 x d.text h.0, texts_more names names2 x inner h.1, texts_more names names2 x rest h.2)

pub entries_more : (names names2 : Names) → Extends names names2 → (es : List Entry) → AreEntriesOf names es → AreEntriesOf names2 es
entries_more names names2 x [] h = tt
entries_more names names2 x (e ∷ es) h =
    (record { text = are_of_more names names2 x e.head.text h.0.text; inner = texts_more names names2 x e.page.boxes h.0.inner }, entries_more names names2 x es h.1)

pub entries_of : (names : Names) (b : Boxes) → TextsOf names b → AreEntriesOf names (listed b)
entries_of names End h = tt
entries_of names (Box d f inner rest) h = (record { text = h.0; inner = h.1 }, entries_of names rest h.2)

pub library_more : (names names2 : Names) → Extends names names2 → (lib : ℕ → Option Answer) → IsLibraryOf names lib → IsLibraryOf names2 lib
library_more names names2 x lib h = record { texts = λ s d at. texts_more names names2 x d.root.boxes (h.texts s d at) }

all_below : (names names2 : Names) → Extends names names2 → (l : List ℕ) → AllByRecursion (λ s. s < length names) l → AllByRecursion (λ s. s < length names2) l
all_below names names2 x [] h = tt
all_below names names2 x (s ∷ l) h = (below_more names names2 x s h.0, all_below names names2 x l h.1)

pub around_more : (names names2 : Names) → Extends names names2 → (a : Around) → IsAroundOf names a → IsAroundOf names2 a
around_more names names2 x a h = record { arguments = are_of_more names names2 x a.arguments h.arguments; inside = all_below names names2 x a.inside h.inside }

-- ---- what a box makes

inside_again : (names names2 : Names) → Extends names names2 → (l : List ℕ) (name : List ℕ) → AllByRecursion (λ s. s < length names) l
    → list_any (λ t. bytes_eq name (name_of names2 t)) l ≡ list_any (λ t. bytes_eq name (name_of names t)) l
inside_again names names2 x [] name h = refl
inside_again names names2 x (s ∷ l) name h =
    ap (λ n. bytes_eq name n || list_any (λ t. bytes_eq name (name_of names2 t)) l) (name_stays names names2 x s h.0)
    ∙ ap (λ b. bytes_eq name (name_of names s) || b) (inside_again names names2 x l name h.1)

is_inside_again : (names names2 : Names) → Extends names names2 → (root : List ℕ) (a : Around) (s : ℕ) → IsAroundOf names a → s < length names
    → is_inside root a names2 s ≡ is_inside root a names s
is_inside_again names names2 x root a s h low =
    ap (λ n. bytes_eq n root || list_any (λ t. bytes_eq n (name_of names2 t)) a.inside) (name_stays names names2 x s low)
    ∙ ap (λ b. bytes_eq (name_of names s) root || b) (inside_again names names2 x a.inside (name_of names s) h.inside)

answer_again : (left s : ℕ) (o o2 : Option Answer) (m : Making) → ((y : Answer) → o ≡ Some y → o2 ≡ Some y) → answer_made left s o ≡ Ok m
    → answer_made left s o2 ≡ Ok m
answer_again left s None o2 m k h = absurd (err_never (answer_made left s None) (Lacks s) m refl h)
answer_again left s (Some y) o2 m k h = ap (answer_made left s) (k y refl) ∙ h

found_again : (left s : ℕ) (around slash : Bool) (o o2 : Option Answer) (m : Making) → ((y : Answer) → o ≡ Some y → o2 ≡ Some y)
    → (if around then Ok (unmade InsideItself) else if slash then Ok (unmade Unknown) else answer_made left s o) ≡ Ok m
    → (if around then Ok (unmade InsideItself) else if slash then Ok (unmade Unknown) else answer_made left s o2) ≡ Ok m
found_again left s true slash o o2 m k h = h
found_again left s false true o o2 m k h = h
found_again left s false false o o2 m k h = answer_again left s o o2 m k h

abstraction_again : (lib lib2 : ℕ → Option Answer) (root : List ℕ) (left : ℕ) (a : Around) (names names2 : Names) (s : ℕ) (m : Making) → AnswersAlike lib lib2
    → Extends names names2 → IsAroundOf names a → s < length names → abstraction_made lib root left a names s ≡ Ok m → abstraction_made lib2 root left a names2 s ≡ Ok m
abstraction_again lib lib2 root left a names names2 s m like x h low e =
    ap (λ b. if b then Ok (unmade InsideItself) else if has_slash (name_of names2 s) then Ok (unmade Unknown) else answer_made left s (lib2 s))
    (is_inside_again names names2 x root a s h low)
    ∙ ap (λ n. if is_inside root a names s then Ok (unmade InsideItself) else if has_slash n then Ok (unmade Unknown) else answer_made left s (lib2 s))
    (name_stays names names2 x s low)
    ∙ found_again left s (is_inside root a names s) (has_slash (name_of names s)) (lib s) (lib2 s) m (like s) e

object_again : (lib lib2 : ℕ → Option Answer) (root : List ℕ) (left : ℕ) (a : Around) (names names2 : Names) (text : List Atom) (n : Named) (m : Making)
    → AnswersAlike lib lib2 → Extends names names2 → IsAroundOf names a → ((s : ℕ) → n ≡ named.Abstraction s → s < length names)
    → object_made lib root left a names text n ≡ Ok m → object_made lib2 root left a names2 text n ≡ Ok m
object_again lib lib2 root left a names names2 text (named.Kind k) m like x h low e = e
object_again lib lib2 root left a names names2 text (named.Abstraction s) m like x h low e =
    abstraction_again lib lib2 root left a names names2 s m like x h (low s refl) e
object_again lib lib2 root left a names names2 text named.Nothing m like x h low e = e

pub made_again : (lib lib2 : ℕ → Option Answer) (root : List ℕ) (left : ℕ) (a : Around) (names names2 : Names) (form : Shape) (text : List Atom) (m : Making)
    → AnswersAlike lib lib2 → Extends names names2 → IsAroundOf names a → AreOf names text
    → made lib root left a names form text ≡ Ok m → made lib2 root left a names2 form text ≡ Ok m
made_again lib lib2 root left a names names2 Obj text m like x h k e =
    ap (object_made lib2 root left a names2 text) (named_again names names2 x text k)
    ∙ object_again lib lib2 root left a names names2 text (named_by names text) m like x h (λ s is. named_below names text s k is) e
made_again lib lib2 root left a names names2 Msg text m like x h k e = e
made_again lib lib2 root left a names names2 Comment text m like x h k e = e
made_again lib lib2 root left a names names2 FloatBox text m like x h k e = e
made_again lib lib2 root left a names names2 SymbolBox text m like x h k e = e
made_again lib lib2 root left a names names2 Sub text m like x h k e = e
made_again lib lib2 root left a names names2 (Array values) text m like x h k e = e
made_again lib lib2 root left a names names2 (Other s) text m like x h k e = e

-- the file of an abstraction has a name of the table, and a document of the table
abbrev pub IsFileOf : Names → Making → Type 0
IsFileOf names (Plain k fault) = Unit {0}
IsFileOf names Subpatch = Unit {0}
IsFileOf names (File s p) = (s < length names) × TextsOf names p.boxes

plain_file : (names : Names) (k : Kind) (fault : Option Fault) (r : Result Making Stop) (m : Making) → r ≡ Ok (Plain k fault) → r ≡ Ok m → IsFileOf names m
plain_file names k fault r m e h = subst (IsFileOf names) (ok_same r (Plain k fault) m e h) tt

pub made_of : (lib : ℕ → Option Answer) (root : List ℕ) (left : ℕ) (a : Around) (names : Names) (form : Shape) (text : List Atom) (m : Making)
    → IsLibraryOf names lib → AreOf names text → made lib root left a names form text ≡ Ok m → IsFileOf names m
made_of lib root left a names Obj text m l k h =
    object_holds (IsFileOf names) lib root left a names text (named_by names text) m
    (record { plain = λ _ _. tt; file = λ s d is at. (named_below names text s k is, l.texts s d at) }) h
made_of lib root left a names Msg text m l k h = plain_file names _ _ (made lib root left a names Msg text) m refl h
made_of lib root left a names Comment text m l k h = plain_file names _ _ (made lib root left a names Comment text) m refl h
made_of lib root left a names FloatBox text m l k h = plain_file names _ _ (made lib root left a names FloatBox text) m refl h
made_of lib root left a names SymbolBox text m l k h = plain_file names _ _ (made lib root left a names SymbolBox text) m refl h
made_of lib root left a names Sub text m l k h = subst (IsFileOf names) (ok_same _ Subpatch m refl h) tt
made_of lib root left a names (Array values) text m l k h = plain_file names _ _ (made lib root left a names (Array values) text) m refl h
made_of lib root left a names (Other s) text m l k h = plain_file names _ _ (made lib root left a names (Other s) text) m refl h

-- ---- steps

pub counted_by : (names : Names) (zs : List ℕ) (n k : ℕ) → n ≡ suc k → counted (stock names zs n) ≡ gives tt (stock names zs k)
counted_by names zs zero k h = absurd (none k h)
  where
    none : (k : ℕ) → zero ≡ suc k → ⊥
    none k h = omega (arith, h)
counted_by names zs (suc n) k h = ap (λ i. gives tt (stock names zs i)) (less n k h)
  where
    less : (n k : ℕ) → suc n ≡ suc k → n ≡ k
    less n k h = omega (arith, h)

named_again_by : {A : Type 0} (o : Names → Outcome A) (a : A) (names2 : Names) (zs : List ℕ) (n : ℕ) → o names2 ≡ given a names2
    → named_step (o names2) (stock names2 zs n) ≡ gives a (stock names2 zs n)
named_again_by o a names2 zs n h = ap (λ y. named_step y (stock names2 zs n)) h

text_step_by : (b : Bool) (a : Around) (h : Head) (w v : Stock) (text : List Atom) (names2 : Names) (zs : List ℕ) (n : ℕ) → IsAroundOf w.names a
    → AreOf w.names h.text → Extends v.names names2
    → (if b then named_step (text_expanded a.zero a.arguments h.text w.names) w else gives h.text w) ≡ gives text v
    → (if b then named_step (text_expanded a.zero a.arguments h.text names2) (stock names2 zs n) else gives h.text (stock names2 zs n)) ≡ gives text (stock names2 zs n)
text_step_by true a h w v text names2 zs n i k x e =
    let o = text_expanded a.zero a.arguments h.text w.names in
    let g = named_went o w text v e in
    let names_is : o.names ≡ v.names = ap (λ (s : Stock). s.names) g.stock in
    let whole : o ≡ given text v.names = ap (λ r. record { answer = r; names = o.names }) g.answer ∙ ap (given text) names_is in
    ap (λ y. named_step y (stock names2 zs n)) (text_again a.zero a.arguments h.text w.names text v.names names2 i.arguments k whole x)
text_step_by false a h w v text names2 zs n i k x e = ap (λ y. gives y (stock names2 zs n)) (gives_same h.text text w v e)

pub text_step : (a : Around) (h : Head) (w v : Stock) (text : List Atom) (names2 : Names) (zs : List ℕ) (n : ℕ) → IsAroundOf w.names a
    → AreOf w.names h.text → Extends v.names names2 → own_text a h w ≡ gives text v → own_text a h (stock names2 zs n) ≡ gives text (stock names2 zs n)
text_step a h w v text names2 zs n i k x e = text_step_by (is_expanded h.form) a h w v text names2 zs n i k x e

text_of_by : (b : Bool) (a : Around) (h : Head) (w v : Stock) (text : List Atom) → IsAroundOf w.names a → AreOf w.names h.text
    → (if b then named_step (text_expanded a.zero a.arguments h.text w.names) w else gives h.text w) ≡ gives text v → AreOf v.names text
text_of_by true a h w v text i k e =
    let o = text_expanded a.zero a.arguments h.text w.names in
    let g = named_went o w text v e in
    let names_is : o.names ≡ v.names = ap (λ (s : Stock). s.names) g.stock in
    let whole : o ≡ given text v.names = ap (λ r. record { answer = r; names = o.names }) g.answer ∙ ap (given text) names_is in
    text_of a.zero a.arguments h.text w.names text v.names i.arguments k whole
text_of_by false a h w v text i k e =
    subst (AreOf v.names) (gives_same h.text text w v e) (subst (λ (s : Stock). AreOf s.names h.text) (gives_stock h.text text w v e) k)

pub own_text_of : (a : Around) (h : Head) (w v : Stock) (text : List Atom) → IsAroundOf w.names a → AreOf w.names h.text
    → own_text a h w ≡ gives text v → AreOf v.names text
own_text_of a h w v text i k e = text_of_by (is_expanded h.form) a h w v text i k e

abbrev brought_if_short : Bool → List ℕ → Names → Stock → Step (Unit {0})
brought_if_short long name names w = if long then gives tt w else (named_step (interned names name) w >>= (λ _ u. gives tt u))

brought_by : (long : Bool) (name : List ℕ) (w v : Stock) (y : Unit {0}) (names2 : Names) (zs : List ℕ) (n : ℕ) → Extends v.names names2
    → brought_if_short long name w.names w ≡ gives y v → brought_if_short long name names2 (stock names2 zs n) ≡ gives tt (stock names2 zs n)
brought_by true name w v y names2 zs n x e = refl
brought_by false name w v y names2 zs n x e =
    let c = chain (named_step (interned w.names name) w) (λ _ u. gives tt u) y v e in
    let o = interned w.names name in
    let g = named_went o w c.value c.stock c.first in
    let names_is : o.names ≡ v.names = ap (λ (s : Stock). s.names) (g.stock ∙ gives_stock tt y c.stock v c.next) in
    let whole : o ≡ given c.value v.names = ap (λ r. record { answer = r; names = o.names }) g.answer ∙ ap (given c.value) names_is in
    ap (λ z. named_step z (stock names2 zs n) >>= (λ _ u. gives tt u)) (interned_again w.names name c.value v.names names2 whole x)

pub brought_again : (name : List ℕ) (w v : Stock) (y : Unit {0}) (names2 : Names) (zs : List ℕ) (n : ℕ) → Extends v.names names2
    → brought name w ≡ gives y v → brought name (stock names2 zs n) ≡ gives tt (stock names2 zs n)
brought_again name w v y names2 zs n x e = brought_by (nat_lt longest (length name)) name w v y names2 zs n x e

if_again : (o : Option (List ℕ)) (w v : Stock) (y : Unit {0}) (names2 : Names) (zs : List ℕ) (n : ℕ) → Extends v.names names2
    → brought_if o w ≡ gives y v → brought_if o (stock names2 zs n) ≡ gives tt (stock names2 zs n)
if_again (Some name) w v y names2 zs n x e = brought_again name w v y names2 zs n x e
if_again None w v y names2 zs n x e = refl

second_stays : (names names2 : Names) → Extends names names2 → (text : List Atom) → AreOf names text → second_named names2 text ≡ second_named names text
second_stays names names2 x [] h = refl
second_stays names names2 x (atom.Symbol s ∷ text) h = ap (λ n. Some (receiver_bytes n)) (name_stays names names2 x s h.0)
second_stays names names2 x (atom.Number z ∷ text) h = refl
second_stays names names2 x (atom.Dollar n ∷ text) h = refl
second_stays names names2 x (atom.DollarSymbol s ∷ text) h = refl
second_stays names names2 x (atom.Comma ∷ text) h = refl
second_stays names names2 x (atom.Semi ∷ text) h = refl

receiver_stays : (names names2 : Names) → Extends names names2 → (text : List Atom) → AreOf names text → receiver_named names2 text ≡ receiver_named names text
receiver_stays names names2 x [] h = refl
receiver_stays names names2 x (atom.Symbol s ∷ text) h =
    ap (λ n. if bytes_eq n (codes "pd") then second_named names2 text else None) (name_stays names names2 x s h.0)
    ∙ ap (λ o. if bytes_eq (name_of names s) (codes "pd") then o else None) (second_stays names names2 x text h.1)
receiver_stays names names2 x (atom.Number z ∷ text) h = refl
receiver_stays names names2 x (atom.Dollar n ∷ text) h = refl
receiver_stays names names2 x (atom.DollarSymbol s ∷ text) h = refl
receiver_stays names names2 x (atom.Comma ∷ text) h = refl
receiver_stays names names2 x (atom.Semi ∷ text) h = refl

pub receiver_again : (b : Bool) (text : List Atom) (w v : Stock) (y : Unit {0}) (names2 : Names) (zs : List ℕ) (n : ℕ) → AreOf w.names text → Extends w.names v.names
    → Extends v.names names2 → receiver_brought b text w ≡ gives y v → receiver_brought b text (stock names2 zs n) ≡ gives tt (stock names2 zs n)
receiver_again true text w v y names2 zs n k on x e =
    ap (λ o. brought_if o (stock names2 zs n)) (receiver_stays w.names names2 (extends_on w.names v.names names2 on x) text k)
    ∙ if_again (receiver_named w.names text) w v y names2 zs n x e
receiver_again false text w v y names2 zs n k on x e = refl

-- ---- boxes

-- canvases inside: what the first library's growth gives the second one's gives again
abbrev pub InnerAgain : (ℕ → Option Answer) → Inner → Inner → Type 0
InnerAgain lib inner inner2 = (a : Around) (p : Page) (w : Stock) (t : Trees) (v : Stock) → IsLibraryOf w.names lib → IsAroundOf w.names a
    → AreEntriesOf w.names (elements_of p) → inner a p w ≡ gives t v → GivesAgain (inner2 a p) t v.names (zeros_in t) (weight t)

pub again_at : {A : Type 0} (f : Stock → Step A) (a : A) (names : Names) (numbers : List ℕ) (boxes : ℕ) → GivesAgain f a names numbers boxes
    → (names2 : Names) (zs more : List ℕ) (n room : ℕ) → Extends names names2 → zs ≡ numbers ++ more → n ≡ boxes + room
    → f (stock names2 zs n) ≡ gives a (stock names2 more room)
again_at f a names numbers boxes g names2 zs more n room x e k =
    ap (λ l. f (stock names2 l n)) e ∙ ap (λ i. f (stock names2 (numbers ++ more) i)) k ∙ g names2 more room x

-- a canvas grows again behind the numbers of its own box
record CanvasAgain (inner2 : Inner) (a : Around) (p : Page) (h : Head) (text : List Atom) (t : Trees) (own : List ℕ) (names2 : Names) (zs more : List ℕ) (n room : ℕ) : Type 0 where
  rest : List ℕ
  numbers : zs ≡ own ++ rest
  grows : canvas_grown inner2 a p h text (stock names2 rest n) ≡ gives t (stock names2 more room)

canvas_again : (lib : ℕ → Option Answer) (inner inner2 : Inner) (a : Around) (p : Page) (h : Head) (text : List Atom) (own : List ℕ) (w v : Stock) (t : Trees)
    → InnerAgain lib inner inner2 → IsLibraryOf w.names lib → IsAroundOf w.names a → AreEntriesOf w.names (elements_of p)
    → own_zeros h.form (sheet_of a.zero a.arguments p) ≡ own → canvas_grown inner a p h text w ≡ gives t v
    → (names2 : Names) (zs more : List ℕ) (n room : ℕ) → Extends v.names names2 → zs ≡ zeros_in t ++ more → n + 1 ≡ weight t + room
    → CanvasAgain inner2 a p h text t own names2 zs more n room
canvas_again lib inner inner2 a p h text own w v t k l i es own_is e names2 zs more n room x numbers count =
    let c = canvas_went inner a p h text w t v e in
    let s = sheet_of a.zero a.arguments p in
    let weighs : weight c.boxes + 0 + 1 ≡ weight t = ap weight c.tree_is in
    record {
      rest = zeros_in c.boxes ++ more;
      numbers = numbers ∙ ap (λ y. zeros_in y ++ more) (sym c.tree_is) ∙ ap (λ y. (y ++ (zeros_in c.boxes ++ [])) ++ more) own_is
          ∙ ap (λ y. (own ++ y) ++ more) (append-nil (zeros_in c.boxes)) ∙ append_assoc own (zeros_in c.boxes) more;
      grows = ap (λ y. y >>= (λ boxes u. gives (Holder (cell_of h text kind.Canvas None) s boxes Done) u))
          (again_at (inner2 a p) c.boxes v.names (zeros_in c.boxes) (weight c.boxes) (k a p w c.boxes v l i es c.boxes_is) names2 (zeros_in c.boxes ++ more) more n room x refl
          (omega (arith, count, weighs)))
          ∙ ap (λ y. gives y (stock names2 more room)) c.tree_is;
    }

drop_of : (names : Names) (text : List Atom) → AreOf names text → AreOf names (drop 1 text)
drop_of names [] h = tt
drop_of names (a ∷ text) h = h.1

pub around_of : (names : Names) (a : Around) (own s : ℕ) (text : List Atom) → IsAroundOf names a → s < length names → AreOf names text
    → IsAroundOf names (around_instance a own s (arguments_of (drop 1 text)))
around_of names a own s text i low k =
    record { arguments = arguments_are_of names (drop 1 text) (drop_of names text k); inside = (low, i.inside) }

from_number : (inner2 : Inner) (a : Around) (s : ℕ) (args : List Atom) (p : Page) (h : Head) (text : List Atom) (z : ℕ) (t : Trees) (names2 : Names) (zs more : List ℕ) (n room : ℕ)
    → CanvasAgain inner2 (around_instance a z s args) p h text t (z ∷ []) names2 zs more n room
    → (numbered (stock names2 zs n) >>= (λ own u. canvas_grown inner2 (around_instance a own s args) p h text u)) ≡ gives t (stock names2 more room)
from_number inner2 a s args p h text z t names2 zs more n room r =
    ap (λ y. numbered (stock names2 y n) >>= (λ own u. canvas_grown inner2 (around_instance a own s args) p h text u)) r.numbers ∙ r.grows

making_again : (lib : ℕ → Option Answer) (inner inner2 : Inner) (a : Around) (e : Entry) (text : List Atom) (m : Making) (w v : Stock) (t : Trees)
    → InnerTakes inner → InnerAgain lib inner inner2 → IsLibraryOf w.names lib → IsAroundOf w.names a → AreOf w.names text → TextsOf w.names e.page.boxes
    → MakesBy e.head.form m → IsFileOf w.names m → box_made inner a e text m w ≡ gives t v
    → (names2 : Names) (zs more : List ℕ) (n room : ℕ) → Extends v.names names2 → zs ≡ zeros_in t ++ more → n + 1 ≡ weight t + room
    → box_made inner2 a e text m (stock names2 zs n) ≡ gives t (stock names2 more room)
making_again lib inner inner2 a e text (Plain k fault) w v t q g l i o b f d h names2 zs more n room x numbers count =
    let leaf = Leaf (cell_of e.head text k fault) Done in
    let is = gives_same leaf t w v h in
    let weighs : 1 ≡ weight t = ap weight is in
    let same : n ≡ room = omega (arith, count, weighs) in
    ap (λ y. gives y (stock names2 zs n)) is
    ∙ ap (λ y. gives t (stock names2 y n)) (numbers ∙ ap (λ y. zeros_in y ++ more) (sym is))
    ∙ ap (λ y. gives t (stock names2 more y)) same
making_again lib inner inner2 a e text Subpatch w v t q g l i o b f d h names2 zs more n room x numbers count =
    let c = chain (receiver_brought a.is_top text w) (λ _ u. canvas_grown inner a e.page e.head text u) t v h in
    let up = (receiver_takes a.is_top text w c.stock c.value c.first).names in
    let held = canvas_went inner a e.page e.head text c.stock t v c.next in
    let after = (q a e.page c.stock held.boxes v held.boxes_is).names in
    let r = canvas_again lib inner inner2 a e.page e.head text [] c.stock v t g (library_more w.names c.stock.names up lib l) (around_more w.names c.stock.names up a i)
    (entries_of c.stock.names e.page.boxes (texts_more w.names c.stock.names up e.page.boxes b)) (ap (λ y. own_zeros y (sheet_of a.zero a.arguments e.page)) f) c.next
    names2 zs more n room x numbers count in
    ap (λ y. y >>= (λ _ u. canvas_grown inner2 a e.page e.head text u))
    (receiver_again a.is_top text w c.stock c.value names2 zs n o up (extends_on c.stock.names v.names names2 after x) c.first)
    ∙ ap (λ y. canvas_grown inner2 a e.page e.head text (stock names2 y n)) r.numbers ∙ r.grows
making_again lib inner inner2 a e text (File s p) w v t q g l i o b f d h names2 zs more n room x numbers count =
    let args = arguments_of (drop 1 text) in
    let c = chain (numbered w) (λ z u. canvas_grown inner (around_instance a z s args) p e.head text u) t v h in
    let up = (numbered_takes w c.stock c.value c.first).names in
    let around = around_of c.stock.names a c.value s text (around_more w.names c.stock.names up a i) (below_more w.names c.stock.names up s d.0) (are_of_more w.names c.stock.names up text o) in
    from_number inner2 a s args p e.head text c.value t names2 zs more n room
    (canvas_again lib inner inner2 (around_instance a c.value s args) p e.head text (c.value ∷ []) c.stock v t g (library_more w.names c.stock.names up lib l) around
    (entries_of c.stock.names p.boxes (texts_more w.names c.stock.names up p.boxes d.1)) (ap (λ y. own_zeros y (sheet_of c.value args p)) f) c.next names2 zs more n room x numbers count)

-- what grows at a box
pub box_again : (lib lib2 : ℕ → Option Answer) (root : List ℕ) (left : ℕ) (inner inner2 : Inner) (a : Around) (e : Entry) (w v : Stock) (t : Trees)
    → AnswersAlike lib lib2 → InnerTakes inner → InnerAgain lib inner inner2 → IsLibraryOf w.names lib → IsAroundOf w.names a → IsEntryOf w.names e
    → box_grown lib root left inner a e w ≡ gives t v → GivesAgain (box_grown lib2 root left inner2 a e) t v.names (zeros_in t) (weight t)
box_again lib lib2 root left inner inner2 a e w v t like q g l i o h names2 more room x =
    let b = box_went lib root left inner a e w t v h in
    let up_start = (counted_takes w b.start b.counted_is).names in
    let up_named = (text_takes a e.head b.start b.text b.named b.text_is).names in
    let up = extends_on w.names b.start.names b.named.names up_start up_named in
    let i_start = around_more w.names b.start.names up_start a i in
    let text = are_of_more w.names b.start.names up_start e.head.text o.text in
    let i_named = around_more w.names b.named.names up a i in
    let l_named = library_more w.names b.named.names up lib l in
    let o_named = own_text_of a e.head b.start b.named b.text i_start text b.text_is in
    let m = making_takes inner a e b.text b.making b.named t v q (made_by lib root left a b.named.names e.head.form b.text b.making b.made_is) b.box_is in
    let last = extends_on b.named.names v.names names2 m.takes.names x in
    let zs = zeros_in t ++ more in
    let n = m.inside + room in
    let after : List Atom → Stock → Step Trees = λ y u. goes_on (made lib2 root left a u.names e.head.form y) u (λ k s. box_made inner2 a e y k s) in
    ap (λ y. y >>= (λ _ u. own_text a e.head u >>= after)) (counted_by names2 zs (weight t + room) n (omega (arith, m.weighs)))
    ∙ ap (λ y. y >>= after) (text_step a e.head b.start b.named b.text names2 zs n i_start text last b.text_is)
    ∙ ap (λ r. goes_on r (stock names2 zs n) (λ k s. box_made inner2 a e b.text k s))
    (made_again lib lib2 root left a b.named.names names2 e.head.form b.text b.making like last i_named o_named b.made_is)
    ∙ making_again lib inner inner2 a e b.text b.making b.named v t q g l_named i_named o_named (texts_more w.names b.named.names up e.page.boxes o.inner)
    (made_by lib root left a b.named.names e.head.form b.text b.making b.made_is) (made_of lib root left a b.named.names e.head.form b.text b.making l_named o_named b.made_is) b.box_is
    names2 zs more n room x refl (omega (arith, m.weighs))

pub boxes_again : (lib lib2 : ℕ → Option Answer) (root : List ℕ) (left : ℕ) (inner inner2 : Inner) (a : Around) (es : List Entry) (w v : Stock) (t : Trees)
    → AnswersAlike lib lib2 → InnerTakes inner → InnerAgain lib inner inner2 → IsLibraryOf w.names lib → IsAroundOf w.names a → AreEntriesOf w.names es
    → boxes_grown lib root left inner a es w ≡ gives t v → GivesAgain (boxes_grown lib2 root left inner2 a es) t v.names (zeros_in t) (weight t)
boxes_again lib lib2 root left inner inner2 a [] w v t like q g l i o h names2 more room x =
    let is = gives_same Done t w v (sym (no_boxes lib root left inner a w) ∙ h) in
    let weighs : 0 ≡ weight t = ap weight is in
    let same : weight t + room ≡ room = omega (arith, weighs) in
    no_boxes lib2 root left inner2 a (stock names2 (zeros_in t ++ more) (weight t + room))
    ∙ ap (λ y. gives y (stock names2 (zeros_in t ++ more) (weight t + room))) is
    ∙ ap (λ y. gives t (stock names2 (zeros_in y ++ more) (weight t + room))) (sym is)
    ∙ ap (λ y. gives t (stock names2 more y)) same
boxes_again lib lib2 root left inner inner2 a (e ∷ es) w v t like q g l i o h names2 more room x =
    let b = boxes_went lib root left inner a e es w t v h in
    let up = (box_takes lib root left inner a e w b.box b.between q b.box_is).names in
    let on = (boxes_take lib root left inner a es b.between b.rest v q b.rest_is).names in
    let zs = zeros_in b.rest ++ more in
    let n = weight b.rest + room in
    let after : Trees → Stock → Step Trees = λ box u. boxes_grown lib2 root left inner2 a es u >>= (λ rest y. gives (join box rest) y) in
    let weighs : weight (join b.box b.rest) ≡ weight t = ap weight b.all_is in
    let first = again_at (box_grown lib2 root left inner2 a e) b.box b.between.names (zeros_in b.box) (weight b.box)
    (box_again lib lib2 root left inner inner2 a e w b.between b.box like q g l i o.0 b.box_is) names2 (zeros_in t ++ more) zs (weight t + room) n (extends_on b.between.names v.names names2 on x)
    (ap (λ y. zeros_in y ++ more) (sym b.all_is) ∙ ap (λ y. y ++ more) (zeros_join b.box b.rest) ∙ append_assoc (zeros_in b.box) (zeros_in b.rest) more)
    (omega (arith, weighs, weight_join b.box b.rest)) in
    let rest = boxes_again lib lib2 root left inner inner2 a es b.between v b.rest like q g (library_more w.names b.between.names up lib l) (around_more w.names b.between.names up a i)
    (entries_more w.names b.between.names up es o.1) b.rest_is names2 more room x in
    more_boxes lib2 root left inner2 a e es (stock names2 (zeros_in t ++ more) (weight t + room))
    ∙ ap (λ y. y >>= after) first
    ∙ ap (λ y. y >>= (λ r s. gives (join b.box r) s)) rest
    ∙ ap (λ y. gives y (stock names2 more room)) b.all_is

nothing_again : (lib : ℕ → Option Answer) → InnerAgain lib (λ a p w. gives Done w) (λ a p w. gives Done w)
nothing_again lib a p w t v l i o h names2 more room x =
    let is = gives_same Done t w v h in
    let weighs : 0 ≡ weight t = ap weight is in
    let same : weight t + room ≡ room = omega (arith, weighs) in
    ap (λ y. gives y (stock names2 (zeros_in t ++ more) (weight t + room))) is
    ∙ ap (λ y. gives t (stock names2 (zeros_in y ++ more) (weight t + room))) (sym is)
    ∙ ap (λ y. gives t (stock names2 more y)) same

pub inner_again : (lib lib2 : ℕ → Option Answer) (root : List ℕ) (left : ℕ) → AnswersAlike lib lib2 → InnerAgain lib (inner_of lib root left) (inner_of lib2 root left)
inner_again lib lib2 root zero like a p w t v l i o h names2 more room x = nothing_again lib a p w t v l i o h names2 more room x
inner_again lib lib2 root (suc n) like a p w t v l i o h names2 more room x =
    page_is lib2 root n a p (stock names2 (zeros_in t ++ more) (weight t + room))
    ∙ boxes_again lib lib2 root n (inner_of lib root n) (inner_of lib2 root n) a (elements_of p) w v t like (inner_takes lib root n) (inner_again lib lib2 root n like) l i o
    (sym (page_is lib root n a p w) ∙ h) names2 more room x

-- ---- the laws

pub one_again : (lib lib2 : ℕ → Option Answer) (root : List ℕ) (left : ℕ) (a : Around) (e : Entry) (w v : Stock) (t : Trees) → AnswersAlike lib lib2
    → IsLibraryOf w.names lib → IsAroundOf w.names a → IsEntryOf w.names e → box_grown lib root left (inner_of lib root left) a e w ≡ gives t v
    → GivesAgain (box_grown lib2 root left (inner_of lib2 root left) a e) t v.names (zeros_in t) (weight t)
one_again lib lib2 root left a e w v t like l i o h =
    box_again lib lib2 root left (inner_of lib root left) (inner_of lib2 root left) a e w v t like (inner_takes lib root left) (inner_again lib lib2 root left like) l i o h

pub several_again : (lib lib2 : ℕ → Option Answer) (root : List ℕ) (left : ℕ) (a : Around) (es : List Entry) (w v : Stock) (t : Trees) → AnswersAlike lib lib2
    → IsLibraryOf w.names lib → IsAroundOf w.names a → AreEntriesOf w.names es → boxes_grown lib root left (inner_of lib root left) a es w ≡ gives t v
    → GivesAgain (boxes_grown lib2 root left (inner_of lib2 root left) a es) t v.names (zeros_in t) (weight t)
several_again lib lib2 root left a es w v t like l i o h =
    boxes_again lib lib2 root left (inner_of lib root left) (inner_of lib2 root left) a es w v t like (inner_takes lib root left) (inner_again lib lib2 root left like) l i o h

pub page_again : (lib lib2 : ℕ → Option Answer) (root : List ℕ) (left : ℕ) (a : Around) (p : Page) (w v : Stock) (t : Trees) → AnswersAlike lib lib2
    → IsLibraryOf w.names lib → IsAroundOf w.names a → TextsOf w.names p.boxes → page_grown lib root left a p w ≡ gives t v
    → GivesAgain (page_grown lib2 root left a p) t v.names (zeros_in t) (weight t)
page_again lib lib2 root left a p w v t like l i o h names2 more room x =
    page_is lib2 root left a p (stock names2 (zeros_in t ++ more) (weight t + room))
    ∙ several_again lib lib2 root left a (elements_of p) w v t like l i (entries_of w.names p.boxes o) (sym (page_is lib root left a p w) ∙ h) names2 more room x

pub patch_again : (lib lib2 : ℕ → Option Answer) (name : List ℕ) (p : Page) (w v : Stock) (t : Tree) → AnswersAlike lib lib2
    → IsLibraryOf w.names lib → TextsOf w.names p.boxes → grown lib name p w ≡ gives t v
    → GivesAgain (grown lib2 name p) t v.names (zeros_of t) (weight t.boxes)
patch_again lib lib2 name p w v t like l o h names2 more room x =
    let g = patch_went lib name p w t v h in
    let up_start = (numbered_takes w g.start g.own g.own_is).names in
    let up_named = (brought_takes (receiver_bytes name) g.start g.named tt g.name_is).names in
    let up = extends_on w.names g.start.names g.named.names up_start up_named in
    let on = (page_takes lib (without_ending name) 255 (around_root g.own) p g.named v g.boxes g.boxes_is).names in
    let tree : Trees → Tree = λ boxes. record { sheet = sheet_of g.own [] p; boxes = boxes } in
    let zs = zeros_in g.boxes ++ more in
    let n = weight g.boxes + room in
    let after : ℕ → Stock → Step Tree = λ z s. brought (receiver_bytes name) s >>= (λ _ u.
    page_grown lib2 (without_ending name) 255 (around_root z) p u >>= (λ boxes y. gives (record { sheet = sheet_of z [] p; boxes = boxes }) y)) in
    ap (λ y. numbered (stock names2 (zeros_of y ++ more) (weight y.boxes + room)) >>= after) (sym g.tree_is)
    ∙ ap (λ y. y >>= (λ _ u. page_grown lib2 (without_ending name) 255 (around_root g.own) p u >>= (λ boxes s. gives (tree boxes) s)))
    (brought_again (receiver_bytes name) g.start g.named tt names2 zs n (extends_on g.named.names v.names names2 on x) g.name_is)
    ∙ ap (λ y. y >>= (λ boxes s. gives (tree boxes) s))
    (page_again lib lib2 (without_ending name) 255 (around_root g.own) p g.named v g.boxes like (library_more w.names g.named.names up lib l) (record { arguments = tt; inside = tt })
    (texts_more w.names g.named.names up p.boxes o) g.boxes_is names2 more room x)
    ∙ ap (λ y. gives y (stock names2 more room)) g.tree_is
