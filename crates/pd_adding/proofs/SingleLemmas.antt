-- Boxes that hold no canvas.
use Rattle.std.proofs.Common.{◌≡◌, ℕ, zero, suc, ◌+◌, ◌++◌, true, List, [], ◌∷◌, length, Option, Some, None, Result, Ok, if◌then◌else◌, refl, sym, ap, ◌∙◌, arith}
use Rattle.pd_atom.specs.declared.Atom.{Atom}
use Rattle.pd_atom.specs.Names.{Names, Outcome, given}
use Rattle.pd_object.specs.declared.kinds.Kind.{Kind}
use Rattle.pd_object.specs.declared.kinds.Named.TheVariants as named
use Rattle.pd_naming.specs.Naming.{named_by}
use Rattle.pd_canvas.specs.Pages.{Shape, Obj, Msg, Comment, FloatBox, SymbolBox, Sub, Array, Other, Entry}
use Rattle.pd_library.specs.declared.answers.Answer.{Answer}
use Rattle.pd_tree.specs.declared.rows.Fault.{Fault}
use Rattle.pd_tree.specs.declared.rows.Row.{Row}
use Rattle.pd_tree.specs.declared.rows.Sheet.{Sheet}
use Rattle.pd_tree.specs.Trees.{Cell, Trees, Leaf, Holder, Done, Stand, width, weight, zeros_in, stand_of, stands_of, stands_in}
use Rattle.pd_growth.specs.declared.growing.Stop.{Stop}
use Rattle.pd_growth.specs.Making.{Around, Making, Plain, made, object_made, is_expanded}
use Rattle.pd_growth.specs.Steps.{Stock, Step, gives, box_by_room, named_step, with_names, text_expanded}
use Rattle.pd_growth.specs.Growth.{Inner, cell_of, box_made, box_grown}
use Rattle.pd_growth.specs.Growing.{inside_grown}
use Rattle.pd_regrowth_law.specs.Regrowth.{Takes, inner_of}
use Rattle.pd_regrowth_law.proofs.StepLemmas.{gives_same, gives_stock, ends_never, ok_same, box_went}
use Rattle.pd_regrowth_law.proofs.TakeLemmas.{one_takes}
use Rattle.pd_adding.specs.Single.{IsSingle, is_plain}

-- ---- rows

stand_or : Stand → List Stand → Stand
stand_or d [] = d
stand_or d (x ∷ xs) = x

no_sheet : (o : Option Sheet) (s : Sheet) → Some s ≡ o → o ≡ None → ⊥
no_sheet o s e h = let never : Some s ≡ None = e ∙ h in (cc)

module _ (row : Row) where
  first_is : (more : List Row) (x : Stand) (xs : List Stand) → stands_in (row ∷ more) ≡ x ∷ xs → stand_of row ≡ x
  unfolding stand_or
  first_is more x xs h = ap (stand_or x) h

  pub one_row : (more : List Row) (t : Trees) → width t ≡ 1 → stands_in (row ∷ more) ≡ stands_of t → row.sheet ≡ None →
      (more ≡ []) × (t ≡ Leaf (stand_of row).cell Done)
  one_row more Done w s h = absurd (omega (arith, w))
  one_row [] (Leaf c Done) w s h =
      (refl, ap (λ (x : Stand). Leaf x.cell Done) (sym (first_is [] (record { cell = c; sheet = None; boxes = 0 }) [] s)))
  one_row (m ∷ more) (Leaf c Done) w s h = absurd (let n = ap (λ (xs : List Stand). length xs) s in omega (arith, n))
  one_row more (Leaf c (Leaf d rest)) w s h = absurd (omega (arith, w))
  one_row more (Leaf c (Holder d x inner rest)) w s h = absurd (omega (arith, w))
  one_row more (Holder c x inner rest) w s h =
      let first = first_is more (record { cell = c; sheet = Some x; boxes = width inner }) (stands_of inner ++ stands_of rest) s in
      absurd (no_sheet row.sheet x (sym (ap (λ (y : Stand). y.sheet) first)) h)

-- ---- what a box takes

pub same_inner : (lib : ℕ → Option Answer) (root : List ℕ) (left : ℕ) → inside_grown lib root left ≡ inner_of lib root left
same_inner lib root zero = refl
same_inner lib root (suc n) = refl

pub box_takes : (lib : ℕ → Option Answer) (root : List ℕ) (left : ℕ) (a : Around) (e : Entry) (w v : Stock) (t : Trees)
    → box_grown lib root left (inside_grown lib root left) a e w ≡ gives t v → Takes w (zeros_in t) (weight t) v
box_takes lib root left a e w v t h =
    one_takes lib root left a e w v t (ap (λ (inner : Inner). box_grown lib root left inner a e w) (sym (same_inner lib root left)) ∙ h)

pub single_takes : (lib : ℕ → Option Answer) (root : List ℕ) (left : ℕ) (a : Around) (e : Entry) (w v : Stock) (c : Cell)
    → box_grown lib root left (inside_grown lib root left) a e w ≡ gives (Leaf c Done) v → (v.zeros ≡ w.zeros) × (w.room ≡ v.room + 1)
single_takes lib root left a e w v c h =
    let takes = box_takes lib root left a e w v (Leaf c Done) h in
    (sym takes.zeros, omega (arith, takes.room))

-- ---- what makes no canvas

record IsPlainMaking (m : Making) : Type 0 where
  pub kind : Kind
  pub fault : Option Fault
  pub is : Plain kind fault ≡ m

plain_by : (r : Result Making Stop) (k : Kind) (fault : Option Fault) (m : Making) → r ≡ Ok (Plain k fault) → r ≡ Ok m → IsPlainMaking m
plain_by r k fault m h e = record { kind = k; fault = fault; is = ok_same r (Plain k fault) m h e }

plain_made : (lib : ℕ → Option Answer) (root : List ℕ) (left : ℕ) (a : Around) (names : Names) (form : Shape) (text : List Atom) (m : Making)
    → is_plain form ≡ true → made lib root left a names form text ≡ Ok m → IsPlainMaking m
plain_made lib root left a names Obj text m p h = (cc)
plain_made lib root left a names Msg text m p h = plain_by _ _ _ m refl h
plain_made lib root left a names Comment text m p h = plain_by _ _ _ m refl h
plain_made lib root left a names FloatBox text m p h = plain_by _ _ _ m refl h
plain_made lib root left a names SymbolBox text m p h = plain_by _ _ _ m refl h
plain_made lib root left a names Sub text m p h = (cc)
plain_made lib root left a names (Array values) text m p h = plain_by _ _ _ m refl h
plain_made lib root left a names (Other s) text m p h = plain_by _ _ _ m refl h

single_made : (inner : Inner) (a : Around) (e : Entry) (text : List Atom) (m : Making) (u v : Stock) (t : Trees)
    → IsPlainMaking m → box_made inner a e text m u ≡ gives t v → IsSingle t
single_made inner a e text m u v t p h =
    let leaf = Leaf (cell_of e.head text p.kind p.fault) Done in
    let made : gives leaf u ≡ gives t v = ap (λ (x : Making). box_made inner a e text x u) p.is ∙ h in
    record { cell = cell_of e.head text p.kind p.fault; is = sym (gives_same leaf t u v made) }

pub plain_single : (lib : ℕ → Option Answer) (root : List ℕ) (left : ℕ) (inner : Inner) (a : Around) (e : Entry) (w v : Stock) (t : Trees)
    → is_plain e.head.form ≡ true → box_grown lib root left inner a e w ≡ gives t v → IsSingle t
plain_single lib root left inner a e w v t p h =
    let b = box_went lib root left inner a e w t v h in
    single_made inner a e b.text b.making b.named v t (plain_made lib root left a b.named.names e.head.form b.text b.making p b.made_is) b.box_is

names_counted : (r : ℕ) (w u : Stock) → box_by_room r w ≡ gives tt u → u.names ≡ w.names
names_counted zero w u h = absurd (ends_never _ w tt u h)
names_counted (suc n) w u h = ap (λ (x : Stock). x.names) (sym (gives_stock tt tt _ u h))

pub object_single : (lib : ℕ → Option Answer) (root : List ℕ) (left : ℕ) (inner : Inner) (a : Around) (e : Entry) (w v : Stock) (t : Trees)
    (text : List Atom) (names : Names) (k : Kind) → e.head.form ≡ Obj → text_expanded a.zero a.arguments e.head.text w.names ≡ given text names →
    named_by names text ≡ named.Kind k → box_grown lib root left inner a e w ≡ gives t v → IsSingle t
object_single lib root left inner a e w v t text names k form expands names_it h =
    let b = box_went lib root left inner a e w t v h in
    let own : Shape → Outcome (List Atom) → Step (List Atom) = λ f o. if is_expanded f then named_step o b.start else gives e.head.text b.start in
    let known = names_counted w.room w b.start b.counted_is in
    let expanded_so : text_expanded a.zero a.arguments e.head.text b.start.names ≡ given text names =
    ap (text_expanded a.zero a.arguments e.head.text) known ∙ expands in
    let told : gives text (with_names names b.start) ≡ gives b.text b.named = sym (λ i. own (form i) (expanded_so i)) ∙ b.text_is in
    let text_same = gives_same text b.text (with_names names b.start) b.named told in
    let names_same = ap (λ (x : Stock). x.names) (gives_stock text b.text (with_names names b.start) b.named told) in
    let makes : made lib root left a b.named.names e.head.form b.text ≡ Ok (Plain k None) =
    sym (λ i. made lib root left a (names_same i) (sym form i) (text_same i)) ∙ ap (object_made lib root left a names text) names_it in
    single_made inner a e b.text b.making b.named v t (plain_by _ k None b.making makes b.made_is) b.box_is
