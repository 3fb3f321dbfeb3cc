-- What a box makes under a library that answers alike for the file that it asks for.
use Rattle.std.proofs.lemmas.Bool.{and_from}
use Rattle.std.specs.Prelude.{◌||◌, is_some}
use Rattle.std.proofs.Common.{◌≡◌, ℕ, ◌+◌, Bool, true, false, List, Option, Some, None, Ok, if◌then◌else◌, nat_lt, refl, sym, ap, ◌∙◌, subst, drop}
use Rattle.pd_atom.specs.declared.Atom.{Atom}
use Rattle.pd_atom.specs.Names.{Names, name_of}
use Rattle.pd_object.specs.declared.kinds.Kind.{Kind}
use Rattle.pd_object.specs.declared.kinds.Kind.TheVariants as kind
use Rattle.pd_object.specs.declared.kinds.Named.{Named}
use Rattle.pd_object.specs.declared.kinds.Named.TheVariants as named
use Rattle.pd_naming.specs.Naming.{arguments_of, named_by}
use Rattle.pd_canvas.specs.Pages.{Shape, Obj, Msg, Comment, FloatBox, SymbolBox, Sub, Array, Other, Entry}
use Rattle.pd_canvas.specs.Proper.{levels}
use Rattle.pd_library.specs.declared.answers.Answer.{Answer}
use Rattle.pd_library.specs.declared.answers.Answer.TheVariants.{Found, Absent, Bad}
use Rattle.pd_tree.specs.declared.rows.Fault.{Fault}
use Rattle.pd_tree.specs.declared.rows.Fault.TheVariants.{Unknown, InsideItself, BadFile, TooDeep}
use Rattle.pd_tree.specs.Trees.{Cell, Trees, Done, Leaf, Holder, join}
use Rattle.pd_growth.specs.declared.growing.Stop.TheVariants.{Lacks}
use Rattle.pd_growth.specs.Steps.{Stock, gives, numbered}
use Rattle.pd_growth.specs.Making.{Around, Making, Plain, Subpatch, File, unmade, is_inside, has_slash, file_made, answer_made, abstraction_made, object_made, made}
use Rattle.pd_growth.specs.Growth.{Inner, cell_of, canvas_grown, receiver_brought, around_instance, box_made}
use Rattle.pd_regrowth_law.specs.Asking.{begins_with, is_canvas, asks_by, cell_asks}
use Rattle.pd_regrowth_law.proofs.StepLemmas.{gives_same, ok_same, err_never, chain}
use Rattle.pd_regrowth_law.proofs.TakeLemmas.{canvas_went}
use Rattle.pd_regrowth_law.proofs.NamingLemmas.{NamesBy, names_by}

-- where the first library answers for this name, the second answers so too
abbrev IsAlikeAt : (ℕ → Option Answer) → (ℕ → Option Answer) → ℕ → Type 0
IsAlikeAt lib lib2 s = (x : Answer) → lib s ≡ Some x → lib2 s ≡ Some x

abbrev IsAlikeFor : (ℕ → Option Answer) → (ℕ → Option Answer) → Cell → Type 0
IsAlikeFor lib lib2 c = (s : ℕ) → cell_asks s c ≡ true → IsAlikeAt lib lib2 s

-- the second library answers alike for all that the boxes of a tree ask for
abbrev pub IsAlikeIn : (ℕ → Option Answer) → (ℕ → Option Answer) → Trees → Type 0
IsAlikeIn lib lib2 Done = Unit {0}
IsAlikeIn lib lib2 (Leaf c rest) = IsAlikeFor lib lib2 c × IsAlikeIn lib lib2 rest
IsAlikeIn lib lib2 (Holder c s inner rest) = IsAlikeFor lib lib2 c × IsAlikeIn lib lib2 inner × IsAlikeIn lib lib2 rest

pub alike_first : (lib lib2 : ℕ → Option Answer) (t r : Trees) → IsAlikeIn lib lib2 (join t r) → IsAlikeIn lib lib2 t
alike_first lib lib2 Done r h = tt
alike_first lib lib2 (Leaf c t) r h = (h.0, alike_first lib lib2 t r h.1)
alike_first lib lib2 (Holder c s inner t) r h = (h.0, h.1, alike_first lib lib2 t r h.2)

pub alike_rest : (lib lib2 : ℕ → Option Answer) (t r : Trees) → IsAlikeIn lib lib2 (join t r) → IsAlikeIn lib lib2 r
alike_rest lib lib2 Done r h = h
alike_rest lib lib2 (Leaf c t) r h = alike_rest lib lib2 t r h.1
alike_rest lib lib2 (Holder c s inner t) r h = alike_rest lib lib2 t r h.2

abbrev kind_made : Making → Kind
kind_made (Plain k fault) = k
kind_made m = kind.Canvas

abbrev fault_made : Making → Option Fault
fault_made (Plain k fault) = fault
fault_made m = None

-- what a box of this form and text asks for, by what it makes
abbrev pub asks_making : ℕ → Shape → List Atom → Making → Bool
asks_making s form text m = asks_by s form text (kind_made m) (fault_made m)

-- a canvas, or a box with a fault
abbrev pub needs_file : Making → Bool
needs_file m = is_canvas (kind_made m) || is_some (fault_made m)

abbrev pub IsAlikeMade : (ℕ → Option Answer) → (ℕ → Option Answer) → Shape → List Atom → Making → Type 0
IsAlikeMade lib lib2 form text m = (s : ℕ) → asks_making s form text m ≡ true → IsAlikeAt lib lib2 s

-- the box that was made is the tree's first
pub alike_made : (lib lib2 : ℕ → Option Answer) (inner : Inner) (a : Around) (e : Entry) (text : List Atom) (m : Making) (w : Stock) (t : Trees) (v : Stock)
    → box_made inner a e text m w ≡ gives t v → IsAlikeIn lib lib2 t → IsAlikeMade lib lib2 e.head.form text m
alike_made lib lib2 inner a e text (Plain k fault) w t v h like =
    let all = subst (IsAlikeIn lib lib2) (sym (gives_same (Leaf (cell_of e.head text k fault) Done) t w v h)) like in all.0
alike_made lib lib2 inner a e text Subpatch w t v h like =
    let c = chain (receiver_brought a.is_top text w) (λ _ u. canvas_grown inner a e.page e.head text u) t v h in
    let all = subst (IsAlikeIn lib lib2) (sym (canvas_went inner a e.page e.head text c.stock t v c.next).tree_is) like in all.0
alike_made lib lib2 inner a e text (File s p) w t v h like =
    let args = arguments_of (drop 1 text) in
    let c = chain (numbered w) (λ z u. canvas_grown inner (around_instance a z s args) p e.head text u) t v h in
    let all = subst (IsAlikeIn lib lib2) (sym (canvas_went inner (around_instance a c.value s args) p e.head text c.stock t v c.next).tree_is) like in all.0

-- ---- what an abstraction makes

answer_needs : (s left : ℕ) (o : Option Answer) (m : Making) → answer_made left s o ≡ Ok m → needs_file m ≡ true
answer_needs s left None m e = absurd (err_never (answer_made left s None) (Lacks s) m refl e)
answer_needs s left (Some Absent) m e = subst (λ x. needs_file x ≡ true) (ok_same (answer_made left s (Some Absent)) (unmade Unknown) m refl e) refl
answer_needs s left (Some (Bad n)) m e = subst (λ x. needs_file x ≡ true) (ok_same (answer_made left s (Some (Bad n))) (unmade (BadFile n)) m refl e) refl
answer_needs s left (Some (Found d)) m e =
    subst (λ x. needs_file x ≡ true) (ok_same (answer_made left s (Some (Found d))) (file_made left s d.root) m refl e) (file_needs (nat_lt left (levels d.root.boxes + 1)))
  where
    file_needs : (c : Bool) → needs_file (if c then unmade TooDeep else File s d.root) ≡ true
    file_needs true = refl
    file_needs false = refl

either_needs : (left s : ℕ) (around slash : Bool) (o : Option Answer) (m : Making)
    → (if around then Ok (unmade InsideItself) else if slash then Ok (unmade Unknown) else answer_made left s o) ≡ Ok m → needs_file m ≡ true
either_needs left s true slash o m e = subst (λ x. needs_file x ≡ true) (ok_same (Ok (unmade InsideItself)) (unmade InsideItself) m refl e) refl
either_needs left s false true o m e = subst (λ x. needs_file x ≡ true) (ok_same (Ok (unmade Unknown)) (unmade Unknown) m refl e) refl
either_needs left s false false o m e = answer_needs s left o m e

pub needs_abstraction : (lib : ℕ → Option Answer) (root : List ℕ) (left : ℕ) (a : Around) (names : Names) (s : ℕ) (m : Making)
    → abstraction_made lib root left a names s ≡ Ok m → needs_file m ≡ true
needs_abstraction lib root left a names s m e = either_needs left s (is_inside root a names s) (has_slash (name_of names s)) (lib s) m e

answer_same : (lib lib2 : ℕ → Option Answer) (left s : ℕ) (text : List Atom) (o : Option Answer) (m : Making) → IsAlikeMade lib lib2 Obj text m
    → begins_with s text ≡ true → lib s ≡ o → answer_made left s o ≡ Ok m → answer_made left s (lib2 s) ≡ Ok m
answer_same lib lib2 left s text None m like b at e = absurd (err_never (answer_made left s None) (Lacks s) m refl e)
answer_same lib lib2 left s text (Some y) m like b at e = ap (answer_made left s) (like s (and_from (needs_file m) (begins_with s text) (answer_needs s left (Some y) m e) b) y at) ∙ e

abstraction_same : (lib lib2 : ℕ → Option Answer) (left s : ℕ) (text : List Atom) (around slash : Bool) (m : Making) → IsAlikeMade lib lib2 Obj text m
    → begins_with s text ≡ true
    → (if around then Ok (unmade InsideItself) else if slash then Ok (unmade Unknown) else answer_made left s (lib s)) ≡ Ok m
    → (if around then Ok (unmade InsideItself) else if slash then Ok (unmade Unknown) else answer_made left s (lib2 s)) ≡ Ok m
abstraction_same lib lib2 left s text true slash m like b e = e
abstraction_same lib lib2 left s text false true m like b e = e
abstraction_same lib lib2 left s text false false m like b e = answer_same lib lib2 left s text (lib s) m like b refl e

object_same : (lib lib2 : ℕ → Option Answer) (root : List ℕ) (left : ℕ) (a : Around) (names : Names) (text : List Atom) (n : Named) (m : Making)
    → IsAlikeMade lib lib2 Obj text m → NamesBy text n
    → object_made lib root left a names text n ≡ Ok m → object_made lib2 root left a names text n ≡ Ok m
object_same lib lib2 root left a names text (named.Kind k) m like b e = e
object_same lib lib2 root left a names text (named.Abstraction s) m like b e =
    abstraction_same lib lib2 left s text (is_inside root a names s) (has_slash (name_of names s)) m like b e
object_same lib lib2 root left a names text named.Nothing m like b e = e

pub made_same : (lib lib2 : ℕ → Option Answer) (root : List ℕ) (left : ℕ) (a : Around) (names : Names) (form : Shape) (text : List Atom) (m : Making)
    → IsAlikeMade lib lib2 form text m → made lib root left a names form text ≡ Ok m → made lib2 root left a names form text ≡ Ok m
made_same lib lib2 root left a names Obj text m like e =
    object_same lib lib2 root left a names text (named_by names text) m like (names_by names text) e
made_same lib lib2 root left a names Msg text m like e = e
made_same lib lib2 root left a names Comment text m like e = e
made_same lib lib2 root left a names FloatBox text m like e = e
made_same lib lib2 root left a names SymbolBox text m like e = e
made_same lib lib2 root left a names Sub text m like e = e
made_same lib lib2 root left a names (Array values) text m like e = e
made_same lib lib2 root left a names (Other s) text m like e = e
