-- What a box makes, by its form and its name.
use Rattle.std.proofs.Common.{◌≡◌, ℕ, Bool, true, false, List, [], ◌∷◌, Option, Some, None, Result, Ok, if◌then◌else◌, nat_lt, refl, sym, ap, ◌∙◌, subst, true≢false}
use Rattle.std.specs.Prelude.{◌+◌}
use Rattle.pd_atom.specs.declared.Atom.{Atom}
use Rattle.pd_atom.specs.Names.{Names, name_of}
use Rattle.pd_object.specs.declared.kinds.Kind.{Kind}
use Rattle.pd_object.specs.declared.kinds.Named.{Named}
use Rattle.pd_object.specs.declared.kinds.Named.TheVariants as named
use Rattle.pd_naming.specs.Naming.{named_by}
use Rattle.pd_canvas.specs.declared.tree.Doc.{Doc}
use Rattle.pd_canvas.specs.Pages.{Shape, Obj, Msg, Comment, FloatBox, SymbolBox, Sub, Array, Other}
use Rattle.pd_canvas.specs.Proper.{levels}
use Rattle.pd_library.specs.declared.answers.Answer.{Answer}
use Rattle.pd_library.specs.declared.answers.Answer.TheVariants.{Found, Absent, Bad}
use Rattle.pd_tree.specs.declared.rows.Fault.{Fault}
use Rattle.pd_tree.specs.declared.rows.Fault.TheVariants.{Unknown, InsideItself, BadFile, TooDeep}
use Rattle.pd_growth.specs.declared.growing.Stop.{Stop}
use Rattle.pd_growth.specs.declared.growing.Stop.TheVariants.{Lacks}
use Rattle.pd_growth.specs.Making.{Around, Making, Plain, Subpatch, File, unmade, is_inside, has_slash, file_made, answer_made, nothing_made, object_made, made}
use Rattle.pd_regrowth_law.proofs.StepLemmas.{ok_same, err_never}

-- what holds of all that an object makes: of each kind, and of the canvas of each file that its name finds
pub record HoldsOf (lib : ℕ → Option Answer) (n : Named) (P : Making → Type 0) : Type 0 where
  pub plain : (k : Kind) (fault : Option Fault) → P (Plain k fault)
  pub file : (s : ℕ) (d : Doc) → n ≡ named.Abstraction s → lib s ≡ Some (Found d) → P (File s d.root)

file_holds : (P : Making → Type 0) (s : ℕ) (d : Doc) (b : Bool) → P (unmade TooDeep) → P (File s d.root) → P (if b then unmade TooDeep else File s d.root)
file_holds P s d true p q = p
file_holds P s d false p q = q

answer_holds : (P : Making → Type 0) (lib : ℕ → Option Answer) (n : Named) (left s : ℕ) (o : Option Answer) (m : Making) → HoldsOf lib n P
    → n ≡ named.Abstraction s → lib s ≡ o → answer_made left s o ≡ Ok m → P m
answer_holds P lib n left s None m h is at e = absurd (err_never (answer_made left s None) (Lacks s) m refl e)
answer_holds P lib n left s (Some Absent) m h is at e = subst P (ok_same (answer_made left s (Some Absent)) (unmade Unknown) m refl e) (h.plain _ _)
answer_holds P lib n left s (Some (Bad k)) m h is at e = subst P (ok_same (answer_made left s (Some (Bad k))) (unmade (BadFile k)) m refl e) (h.plain _ _)
answer_holds P lib n left s (Some (Found d)) m h is at e =
    subst P (ok_same (answer_made left s (Some (Found d))) (file_made left s d.root) m refl e)
    (file_holds P s d (nat_lt left (levels d.root.boxes + 1)) (h.plain _ _) (h.file s d is at))

abstraction_holds : (P : Making → Type 0) (lib : ℕ → Option Answer) (n : Named) (left s : ℕ) (around slash : Bool) (m : Making) → HoldsOf lib n P
    → n ≡ named.Abstraction s
    → (if around then Ok (unmade InsideItself) else if slash then Ok (unmade Unknown) else answer_made left s (lib s)) ≡ Ok m → P m
abstraction_holds P lib n left s true slash m h is e = subst P (ok_same _ (unmade InsideItself) m refl e) (h.plain _ _)
abstraction_holds P lib n left s false true m h is e = subst P (ok_same _ (unmade Unknown) m refl e) (h.plain _ _)
abstraction_holds P lib n left s false false m h is e = answer_holds P lib n left s (lib s) m h is refl e

nothing_holds : (P : Making → Type 0) (text : List Atom) → ((k : Kind) (fault : Option Fault) → P (Plain k fault)) → P (nothing_made text)
nothing_holds P [] p = p _ _
nothing_holds P (a ∷ text) p = p _ _

pub object_holds : (P : Making → Type 0) (lib : ℕ → Option Answer) (root : List ℕ) (left : ℕ) (a : Around) (names : Names) (text : List Atom) (n : Named) (m : Making)
    → HoldsOf lib n P → object_made lib root left a names text n ≡ Ok m → P m
object_holds P lib root left a names text (named.Kind k) m h e = subst P (ok_same _ (Plain k None) m refl e) (h.plain k None)
object_holds P lib root left a names text (named.Abstraction s) m h e =
    abstraction_holds P lib (named.Abstraction s) left s (is_inside root a names s) (has_slash (name_of names s)) m h refl e
object_holds P lib root left a names text named.Nothing m h e = subst P (ok_same _ (nothing_made text) m refl e) (nothing_holds P text h.plain)

-- ---- a subpatch's form makes a canvas of the document, an object's may make one of a file, and no other form makes one

pub record IsNoSub (form : Shape) : Type 0 where
  pub other : form ≡ Sub → ⊥

abbrev pub MakesBy : Shape → Making → Type 0
MakesBy form (Plain k fault) = IsNoSub form
MakesBy form Subpatch = form ≡ Sub
MakesBy form (File s p) = form ≡ Obj

abbrev is_sub : Shape → Bool
is_sub Sub = true
is_sub _ = false

no_sub : (form : Shape) → is_sub form ≡ false → IsNoSub form
no_sub form h = record { other = λ e. true≢false (sym (ap is_sub e) ∙ h) }

plain_by : (form : Shape) (k : Kind) (fault : Option Fault) (r : Result Making Stop) (m : Making) → is_sub form ≡ false
    → r ≡ Ok (Plain k fault) → r ≡ Ok m → MakesBy form m
plain_by form k fault r m f e h = subst (MakesBy form) (ok_same r (Plain k fault) m e h) (no_sub form f)

pub made_by : (lib : ℕ → Option Answer) (root : List ℕ) (left : ℕ) (a : Around) (names : Names) (form : Shape) (text : List Atom) (m : Making)
    → made lib root left a names form text ≡ Ok m → MakesBy form m
made_by lib root left a names Obj text m h =
    object_holds (MakesBy Obj) lib root left a names text (named_by names text) m
    (record { plain = λ k fault. no_sub Obj refl; file = λ s d is at. refl }) h
made_by lib root left a names Msg text m h = plain_by Msg _ _ (made lib root left a names Msg text) m refl refl h
made_by lib root left a names Comment text m h = plain_by Comment _ _ (made lib root left a names Comment text) m refl refl h
made_by lib root left a names FloatBox text m h = plain_by FloatBox _ _ (made lib root left a names FloatBox text) m refl refl h
made_by lib root left a names SymbolBox text m h = plain_by SymbolBox _ _ (made lib root left a names SymbolBox text) m refl refl h
made_by lib root left a names Sub text m h = subst (MakesBy Sub) (ok_same _ Subpatch m refl h) refl
made_by lib root left a names (Array values) text m h = plain_by (Array values) _ _ (made lib root left a names (Array values) text) m refl refl h
made_by lib root left a names (Other s) text m h = plain_by (Other s) _ _ (made lib root left a names (Other s) text) m refl refl h
