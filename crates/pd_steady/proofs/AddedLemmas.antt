-- What is known of boxes that an edit put: their kinds are in order, and their tables and delay lines are small.
use Rattle.std.proofs.Common.{arith, ◌≡◌, ℕ, zero, suc, ℤ, ◌+◌, ◌≤◌, ◌-◌, Bool, true, false, cond, List, ◌∷◌, length, map, Option, Some, None, IfSome, Result, Ok, Err, refl, sym, ap, subst, nat_lt, ◌&&◌}
use Rattle.std.proofs.lemmas.Bool.Decides.{nat_tests}
use Rattle.std.proofs.lemmas.Option.{none-some, same_Some}
use Rattle.pd_atom.specs.declared.Atom.{Atom}
use Rattle.pd_atom.specs.declared.Atom.TheVariants.{Symbol}
use Rattle.pd_atom.specs.Names.{Names}
use Rattle.pd_atom.specs.Tokens.{settled}
use Rattle.pd_atom.proofs.LawLemmas.{settled_number}
use Rattle.pd_clock.specs.declared.times.Rate.{Rate}
use Rattle.pd_object.specs.declared.kinds.Kind.{Kind}
use Rattle.pd_kind.specs.States.{size_of}
use Rattle.pd_canvas.specs.declared.edits.Edit.{Edit}
use Rattle.pd_canvas.specs.declared.edits.Edit.TheVariants as edit
use Rattle.pd_canvas.specs.Pages.{Shape, Obj, Sub, Array, End, Entry, empty_page, page_with_header}
use Rattle.pd_canvas.specs.Edits.{pd, begins_with_pd, new_header, element, object}
use Rattle.pd_canvas.specs.Proper.{IsReady, AreReady}
use Rattle.pd_library.specs.declared.answers.Answer.{Answer}
use Rattle.pd_library.specs.Files.{answer_in}
use Rattle.pd_tree.specs.Trees.{Cell}
use Rattle.pd_grove.specs.OwnPaths.{sub_reached}
use Rattle.pd_grove.specs.Standing.{HasCell}
use Rattle.pd_grove.specs.TextOrder.{is_sub}
use Rattle.pd_growth.specs.Steps.{Stock, gives}
use Rattle.pd_growth.specs.Making.{Around}
use Rattle.pd_growth.specs.Growth.{Inner, box_grown, around_root, without_ending}
use Rattle.pd_growth.specs.Growing.{inside_grown}
use Rattle.pd_gather.specs.Gather.{Known}
use Rattle.pd_patch.specs.declared.patch.Patch.{Patch}
use Rattle.pd_patch.specs.Sounds.{sound_of}
use Rattle.pd_wiring.specs.declared.refusals.EditRefusal.{EditRefusal}
use Rattle.pd_adding.specs.declared.counts.Counts.{Counts}
use Rattle.pd_adding.specs.Boxes.{CanBeWritten, settled_edit, box_put}
use Rattle.pd_adding.specs.Coming.{coming_in, coming_by, own_zero}
use Rattle.pd_adding.specs.Counts.{stock_by}
use Rattle.pd_adding.specs.Growing.{Added, growth_of}
use Rattle.pd_adding.specs.Adding.{GrewWith}
use Rattle.pd_regrowth_law.specs.Regrowth.{inner_of}
use Rattle.pd_guards.specs.Order.{HasFirst, IsAtom, AreAtoms}
use Rattle.pd_guards.specs.Growing.{IsBorn, AreBorn, ValuesIn, BoxesIn}
use Rattle.pd_guards.proofs.FactLemmas.{all-weaker}
use Rattle.pd_guards.proofs.MoreLemmas.{longer, first_more, atoms_more}
use Rattle.pd_guards.proofs.GrownLemmas.{one_in}
use Rattle.pd_guards.proofs.PatchLemmas.{zeros_in, library_in, cell_born, cell_size}

-- ---- the box that an edit puts

-- a box that edits put is no array
abbrev IsPlainForm : Shape → Type 0
IsPlainForm (Array values) = ⊥
IsPlainForm form = Unit {0}

plain_values : (form : Shape) → IsPlainForm form → ValuesIn form
plain_values (Array values) h = absurd h
plain_values form h = tt

-- it is no array, and no boxes lie in it yet
record IsFine (b : Entry) : Type 0 where
  form : IsPlainForm b.head.form
  empty : b.page.boxes ≡ End

by_fine : (x b : Entry) → Some x ≡ Some b → IsFine x → IsFine b
by_fine x b e h = subst IsFine (same_Some x b e) h

object_by : (x y : ℤ) (text : List Atom) (is : Bool) → IsFine (cond is (element Sub (page_with_header (new_header text)) x y text) (element Obj empty_page x y text))
object_by x y text true = record { form = tt; empty = refl }
object_by x y text false = record { form = tt; empty = refl }

object_fine : (x y : ℤ) (text : List Atom) → IsFine (object x y text)
object_fine x y text = object_by x y text (begins_with_pd text)

no_box : (n : ℕ) (b : Entry) → box_put (edit.Delete n) ≡ Some b → ⊥
no_box zero b h = none-some b h
no_box (suc n) b h = none-some b h

put_fine : (names : Names) (e : Edit) (b : Entry) → box_put (settled_edit names e) ≡ Some b → IsFine b
put_fine names (edit.Obj x y text) b h = by_fine (object x y (map (settled names) text)) b h (object_fine x y (map (settled names) text))
put_fine names (edit.Msg x y text) b h = by_fine _ b h (record { form = tt; empty = refl })
put_fine names (edit.Comment x y text) b h = by_fine _ b h (record { form = tt; empty = refl })
put_fine names (edit.FloatBox x y text) b h = by_fine _ b h (record { form = tt; empty = refl })
put_fine names (edit.SymbolBox x y text) b h = by_fine _ b h (record { form = tt; empty = refl })
put_fine names (edit.Sub x y name) b h = by_fine (object x y (Symbol pd ∷ map (settled names) name)) b h (object_fine x y (Symbol pd ∷ map (settled names) name))
put_fine names (edit.Connect wire) b h = absurd (none-some b h)
put_fine names (edit.Disconnect wire) b h = absurd (none-some b h)
put_fine names (edit.Delete n) b h = absurd (no_box n b h)
put_fine names (edit.Retype n text) b h = absurd (cc)
put_fine names (edit.Move n x y) b h = absurd (cc)

-- ---- that it comes

abbrev Coming : Type 0
Coming = Result (ℕ × Entry) EditRefusal

ok_same : (x c : ℕ × Entry) (r : Coming) → r ≡ Ok x → r ≡ Ok c → x ≡ c
ok_same x c r e f = cc

not_refused : (b : Bool) (why : EditRefusal) (r : Coming) (c : ℕ × Entry) → cond b (Err why) r ≡ Ok c → (b ≡ false) × (r ≡ Ok c)
not_refused true why r c h = absurd (cc)
not_refused false why r c h = (refl, h)

few_atoms : (n : ℕ) → nat_lt 1024 n ≡ false → n ≤ 1024
few_atoms n h = grind (arith, nat_tests)

-- what comes is the element, and its text has at most 1,024 atoms
in_entry : (depth : ℕ) (e : Entry) (canvas : Option ℕ) (c : ℕ × Entry) → coming_in depth e canvas ≡ Ok c → (e ≡ c.1) × (length c.1.head.text ≤ 1024)
in_entry depth e None c h = absurd (cc)
in_entry depth e (Some canvas) c h =
    let x = not_refused (nat_lt 1024 (length e.head.text)) _ _ c h in
    let same : (canvas, e) ≡ c = ok_same (canvas, e) c (Ok (canvas, e)) refl (not_refused (is_sub e.head.form && nat_lt 254 depth) _ _ c x.1).1 in
    (ap (λ (y : ℕ × Entry). y.1) same, subst (λ (y : ℕ × Entry). length y.1.head.text ≤ 1024) same (few_atoms (length e.head.text) x.0))

by_entry : (p : Patch) (path : List ℕ) (o : Option Entry) (c : ℕ × Entry) → coming_by p path o ≡ Ok c → (o ≡ Some c.1) × (length c.1.head.text ≤ 1024)
by_entry p path None c h = absurd (cc)
by_entry p path (Some e) c h =
    let x = in_entry (length path) e (sub_reached p.grove (Some p.grove.root) path) c h in
    (ap (λ (y : Entry). Some y) x.0, x.1)

-- ---- the boxes that came

-- its kind is in order, and its table or delay line is small
pub record IsAddedWell (names : Names) (rate : Rate) (k : Kind) : Type 0 where
  pub born : IsBorn names k
  pub small : size_of k rate ≤ 16777216

inside_is : (lib : ℕ → Option Answer) (root : List ℕ) (left : ℕ) → inside_grown lib root left ≡ inner_of lib root left
inside_is lib root zero = refl
inside_is lib root (suc n) = refl

ready_atoms : (names : Names) (atoms : List Atom) → AreReady names atoms → AreAtoms names atoms
ready_atoms names atoms h = all-weaker (IsReady names) (IsAtom names) (λ a k. (k.0, settled_number names a k.1)) atoms h

module _ (p : Patch) (n : Counts) (name path : List ℕ) (e : Edit) (k files : Known) (a : Added) (grew : GrewWith p n name path e k files a) where
  abbrev lib : ℕ → Option Answer
  lib = answer_in files.files

  abbrev root : List ℕ
  root = without_ending name

  abbrev left : ℕ
  left = 255 - length path

  abbrev around : Around
  around = around_root (own_zero p)

  abbrev start : Stock
  start = stock_by files.names n

  step : box_grown lib root left (inside_grown lib root left) around grew.entry start ≡ gives a.boxes grew.after
  unfolding growth_of
  step = grew.grew

  came : (box_put (settled_edit k.names e) ≡ Some grew.entry) × (length grew.entry.head.text ≤ 1024)
  came = by_entry p path (box_put (settled_edit k.names e)) (a.canvas, grew.entry) grew.comes

  -- what grew is of kinds in order
  added_born : HasFirst k.names → IfSome (box_put (settled_edit k.names e)) (CanBeWritten k.names) → AreBorn a.known.names a.boxes
  added_born first written =
      let on : length k.names ≤ length files.names = longer k.names files.names grew.extends in
      let known : HasFirst files.names = first_more k.names files.names on first in
      let fine : IsFine grew.entry = put_fine k.names e grew.entry came.0 in
      let w : CanBeWritten k.names grew.entry = subst (λ (o : Option Entry). IfSome o (CanBeWritten k.names)) came.0 written in
      let text : AreAtoms files.names grew.entry.head.text = atoms_more k.names files.names on grew.entry.head.text (ready_atoms k.names grew.entry.head.text w.text) in
      let inner : box_grown lib root left (inner_of lib root left) around grew.entry start ≡ gives a.boxes grew.after =
      subst (λ (i : Inner). box_grown lib root left i around grew.entry start ≡ gives a.boxes grew.after) (inside_is lib root left) step in
      subst (λ (x : Known). AreBorn x.names a.boxes) (sym grew.known_is)
      (one_in lib root left around grew.entry start grew.after a.boxes (library_in files.names files.files grew.found) tt (record { first = known; zeros = zeros_in n.next_zero })
      (record { text = record { few = came.1; all = text }; values = plain_values grew.entry.head.form fine.form })
      (subst (BoxesIn files.names) (sym fine.empty) tt) inner)

  few_values : (x s b : ℕ) → x ≡ b + s → x ≤ 16777216 → s ≤ 16777216
  few_values x s b e l = omega (arith, e, l)

  -- each box of it is well
  pub added_well : HasFirst k.names → IfSome (box_put (settled_edit k.names e)) (CanBeWritten k.names) → a.counts.sound ≤ 16777216 → (c : Cell) → HasCell a.boxes c
      → IsAddedWell a.known.names p.rate c.kind
  added_well first written few c of =
      let size : size_of c.kind p.rate ≤ sound_of p.rate a.boxes = cell_size p.rate a.boxes c of in
      let all : sound_of p.rate a.boxes ≤ 16777216 = few_values a.counts.sound (sound_of p.rate a.boxes) n.sound (ap (λ (y : Counts). y.sound) grew.counts) few in
      record { born = cell_born a.known.names a.boxes c (added_born first written) of; small = omega (arith, size, all) }
