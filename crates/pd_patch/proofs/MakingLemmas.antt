-- Which canvases the boxes of a document may hold.
use Rattle.std.proofs.Common.{arith, ◌≡◌, ℕ, ◌+◌, ◌≤◌, max, nat_lt, Bool, true, false, if◌then◌else◌, List, [], ◌∷◌, Option, Some, None, refl, subst}
use Rattle.std.proofs.lemmas.Bool.Decides.{nat_tests}
use Rattle.std.specs.Prelude.{Result, Ok}
use Rattle.std.specs.List.{AllByRecursion}
use Rattle.pd_atom.specs.declared.Atom.{Atom}
use Rattle.pd_atom.specs.Names.{Names, name_of}
use Rattle.pd_object.specs.declared.kinds.Named.{Named}
use Rattle.pd_object.specs.declared.kinds.Named.TheVariants as named
use Rattle.pd_naming.specs.Naming.{named_by}
use Rattle.pd_canvas.specs.Pages.{Shape, Obj, Msg, Comment, FloatBox, SymbolBox, Sub, Array, Other, Boxes, End, Box, Page, Entry, page_of, listed}
use Rattle.pd_canvas.specs.Proper.{levels, levels_of}
use Rattle.pd_library.specs.declared.answers.Answer.{Answer}
use Rattle.pd_library.specs.declared.answers.Answer.TheVariants.{Found, Absent, Bad}
use Rattle.pd_tree.specs.declared.rows.Fault.TheVariants.{Unknown, InsideItself, TooDeep}
use Rattle.pd_growth.specs.declared.growing.Stop.{Stop}
use Rattle.pd_growth.specs.Making.{Around, Making, Plain, Subpatch, File, unmade, is_inside, has_slash, answer_made, abstraction_made, object_made, made}

-- the canvas that a box holds is one of these
abbrev pub Holds : (Page → Type 0) → Page → Making → Type 0
Holds Q own (Plain k fault) = Unit {0}
Holds Q own Subpatch = Q own
Holds Q own (File s p) = Q p

-- so is that of whatever this box makes, where so many canvases may lie in one another
abbrev pub MayHold : (ℕ → Option Answer) → List ℕ → ℕ → (Page → Type 0) → Entry → Type 0
MayHold lib root left Q e = (a : Around) (names : Names) (text : List Atom) (m : Making) → made lib root left a names e.head.form text ≡ Ok m → Holds Q e.page m

-- any canvas
abbrev pub IsAny : Page → Type 0
IsAny p = Unit {0}

any_held : (own : Page) (m : Making) → Holds IsAny own m
any_held own (Plain k fault) = tt
any_held own Subpatch = tt
any_held own (File s p) = tt

pub any_hold : (lib : ℕ → Option Answer) (root : List ℕ) (left : ℕ) (es : List Entry) → AllByRecursion (MayHold lib root left IsAny) es
any_hold lib root left [] = tt
any_hold lib root left (e ∷ es) = ((λ a names text m h. any_held e.page m), any_hold lib root left es)

-- no more than so many canvases lie in one another, this one with them
abbrev pub HasLevels : ℕ → Page → Type 0
HasLevels n p = levels p.boxes + 1 ≤ n

-- a box makes exactly this
is_made : (Q : Page → Type 0) (own : Page) (r : Result Making Stop) (x m : Making) → r ≡ Ok x → Holds Q own x → r ≡ Ok m → Holds Q own m
is_made Q own r x m e q h = subst (Holds Q own) (the_same x m r e h) q
  where
    the_same : (x m : Making) (r : Result Making Stop) → r ≡ Ok x → r ≡ Ok m → x ≡ m
    the_same x m r e h = cc

-- one of two answers
either : (Q : Page → Type 0) (own : Page) (b : Bool) (x y : Result Making Stop) (m : Making) → (x ≡ Ok m → Holds Q own m) → (y ≡ Ok m → Holds Q own m) → (if b then x else y) ≡ Ok m → Holds Q own m
either Q own true x y m f g h = f h
either Q own false x y m f g h = g h

few_levels : (left n : ℕ) → nat_lt left n ≡ false → n ≤ left
few_levels left n h = grind (arith, nat_tests)

file_holds : (left s : ℕ) (own p : Page) (b : Bool) (r : Result Making Stop) (m : Making) → nat_lt left (levels p.boxes + 1) ≡ b → r ≡ Ok (if b then unmade TooDeep else File s p) → r ≡ Ok m
    → Holds (HasLevels left) own m
file_holds left s own p true r m e f h = is_made (HasLevels left) own r (unmade TooDeep) m f tt h
file_holds left s own p false r m e f h = is_made (HasLevels left) own r (File s p) m f (few_levels left (levels p.boxes + 1) e) h

answer_holds : (left s : ℕ) (own : Page) (o : Option Answer) (m : Making) → answer_made left s o ≡ Ok m → Holds (HasLevels left) own m
answer_holds left s own None m h = absurd (cc h)
answer_holds left s own (Some Absent) m h = is_made (HasLevels left) own _ (unmade Unknown) m refl tt h
answer_holds left s own (Some (Bad n)) m h = is_made (HasLevels left) own _ _ m refl tt h
answer_holds left s own (Some (Found d)) m h = file_holds left s own d.root (nat_lt left (levels d.root.boxes + 1)) (answer_made left s (Some (Found d))) m refl refl h

abstraction_holds : (lib : ℕ → Option Answer) (root : List ℕ) (left : ℕ) (a : Around) (names : Names) (s : ℕ) (own : Page) (m : Making) → abstraction_made lib root left a names s ≡ Ok m → Holds (HasLevels left) own m
abstraction_holds lib root left a names s own m h =
    either (HasLevels left) own (is_inside root a names s) _ _ m (λ k. is_made (HasLevels left) own _ (unmade InsideItself) m refl tt k)
    (λ l. either (HasLevels left) own (has_slash (name_of names s)) _ _ m (λ k. is_made (HasLevels left) own _ (unmade Unknown) m refl tt k) (λ k. answer_holds left s own (lib s) m k) l) h

object_holds : (lib : ℕ → Option Answer) (root : List ℕ) (left : ℕ) (a : Around) (names : Names) (text : List Atom) (n : Named) (own : Page) (m : Making) → object_made lib root left a names text n ≡ Ok m
    → Holds (HasLevels left) own m
object_holds lib root left a names text (named.Kind k) own m h = is_made (HasLevels left) own _ (Plain k None) m refl tt h
object_holds lib root left a names text (named.Abstraction s) own m h = abstraction_holds lib root left a names s own m h
object_holds lib root left a names [] named.Nothing own m h = is_made (HasLevels left) own _ _ m refl tt h
object_holds lib root left a names (x ∷ text) named.Nothing own m h = is_made (HasLevels left) own _ (unmade Unknown) m refl tt h

-- a box of this form
pub form_holds : (lib : ℕ → Option Answer) (root : List ℕ) (left : ℕ) (form : Shape) (own : Page) → levels_of form (levels own.boxes) ≤ left
    → (a : Around) (names : Names) (text : List Atom) (m : Making) → made lib root left a names form text ≡ Ok m → Holds (HasLevels left) own m
form_holds lib root left Obj own l a names text m h = object_holds lib root left a names text (named_by names text) own m h
form_holds lib root left Msg own l a names text m h = is_made (HasLevels left) own _ _ m refl tt h
form_holds lib root left Comment own l a names text m h = is_made (HasLevels left) own _ _ m refl tt h
form_holds lib root left FloatBox own l a names text m h = is_made (HasLevels left) own _ _ m refl tt h
form_holds lib root left SymbolBox own l a names text m h = is_made (HasLevels left) own _ _ m refl tt h
form_holds lib root left Sub own l a names text m h = is_made (HasLevels left) own _ Subpatch m refl l h
form_holds lib root left (Array values) own l a names text m h = is_made (HasLevels left) own _ _ m refl tt h
form_holds lib root left (Other s) own l a names text m h = is_made (HasLevels left) own _ (unmade Unknown) m refl tt h

most_left : (m n k : ℕ) → max m n ≤ k → m ≤ k
most_left m n k h = omega (arith, h)

most_right : (m n k : ℕ) → max m n ≤ k → n ≤ k
most_right m n k h = omega (arith, h)

-- where no more canvases lie in one another in a document than may, what its boxes hold has no more either
pub levels_hold : (lib : ℕ → Option Answer) (root : List ℕ) (left : ℕ) (b : Boxes) → levels b ≤ left → AllByRecursion (MayHold lib root left (HasLevels left)) (listed b)
levels_hold lib root left End l = tt
levels_hold lib root left (Box d f inner rest) l = (
  (λ a names text m h. form_holds lib root left d.form (page_of f inner) (most_left (levels_of d.form (levels inner)) (levels rest) left l) a names text m h),
  levels_hold lib root left rest (most_right (levels_of d.form (levels inner)) (levels rest) left l),
)
