-- A box of a made patch grows to an object.
use Rattle.std.proofs.Common.{◌≡◌, ℕ, suc, ◌+◌, ℤ, List, [], ◌∷◌, ◌++◌, codes, length, Option, Some, None, refl, ap, ◌∙◌, arith}
use Rattle.std.specs.List.{AllByRecursion}
use Rattle.pd_atom.specs.Names.{Names, first_names, given}
use Rattle.pd_atom.specs.Expansion.{expanded}
use Rattle.pd_atom.specs.declared.Atom.{Atom}
use Rattle.pd_atom.specs.declared.Atom.TheVariants.{Number, Symbol}
use Rattle.pd_canvas.specs.Pages.{Entry}
use Rattle.pd_clock.specs.declared.times.Rate.{Rate}
use Rattle.pd_growth.specs.Growth.{Inner, cell_of, box_grown, boxes_grown, box_made}
use Rattle.pd_growth.specs.Making.{Around, made, object_made}
use Rattle.pd_growth.specs.Steps.{Stock, Step, gives, goes_on, named_step, text_expanded}
use Rattle.pd_kind.specs.States.{size_of}
use Rattle.pd_library.specs.declared.answers.Answer.{Answer}
use Rattle.pd_made.specs.Documents.{object_box}
use Rattle.pd_naming.specs.Naming.{named_by, channels_of, simple_kind, listed_kind}
use Rattle.pd_object.specs.declared.kinds.Kind.{Kind}
use Rattle.pd_object.specs.declared.kinds.Kind.TheVariants as kind
use Rattle.pd_object.specs.declared.kinds.Tone.TheVariants as tone
use Rattle.pd_object.specs.declared.kinds.Signal.TheVariants as signal
use Rattle.pd_object.specs.declared.kinds.SignalOperation.TheVariants as operation
use Rattle.pd_object.specs.declared.kinds.Named.TheVariants as named
use Rattle.pd_patch.specs.Sounds.{sound_of}
use Rattle.pd_fit.specs.Fitting.{wires_inside}
use Rattle.pd_tree.specs.Trees.{Trees, Done, Leaf, join}

-- the table
abbrev pub nine : Names
nine = first_names ++ codes "dac~" ∷ codes "osc~" ∷ codes "*~" ∷ []

-- a text names a kind that keeps no values, and stays as it is
pub record IsObject (names : Names) (text : List Atom) : Type 0 where
  pub kind : Kind
  pub names_it : named_by names text ≡ named.Kind kind
  pub keeps_none : (rate : Rate) → size_of kind rate ≡ 0
  pub fixed : (own : ℕ) (args : List Atom) → text_expanded own args text names ≡ given text names

-- texts of one symbol, and of a symbol and a number
one_fixed : (names : Names) (s own : ℕ) (args : List Atom) → text_expanded own args (Symbol s ∷ []) names ≡ given (Symbol s ∷ []) names
unfolding text_expanded expanded
one_fixed names s own args = refl

two_fixed : (names : Names) (s : ℕ) (z : ℤ) (own : ℕ) (args : List Atom) → text_expanded own args (Symbol s ∷ Number z ∷ []) names ≡ given (Symbol s ∷ Number z ∷ []) names
unfolding text_expanded expanded
two_fixed names s z own args = refl

-- which kinds
output_named : (more : Names) → named_by (nine ++ more) (Symbol 6 ∷ []) ≡ named.Kind (kind.Signal (signal.Dac (channels_of [])))
unfolding simple_kind listed_kind
output_named more = refl

oscillator_named : (more : Names) (z : ℤ) → named_by (nine ++ more) (Symbol 7 ∷ Number z ∷ []) ≡ named.Kind (kind.Tone (tone.Osc z))
unfolding simple_kind listed_kind
oscillator_named more z = refl

factor_named : (more : Names) (z : ℤ) → named_by (nine ++ more) (Symbol 8 ∷ Number z ∷ []) ≡ named.Kind (kind.Signal (signal.Operation operation.Multiply (Some z)))
unfolding simple_kind listed_kind
factor_named more z = refl

pub output_object : (more : Names) → IsObject (nine ++ more) (Symbol 6 ∷ [])
output_object more = record { kind = kind.Signal (signal.Dac (channels_of [])); names_it = output_named more; keeps_none = λ rate. refl; fixed = one_fixed (nine ++ more) 6 }

pub oscillator_object : (more : Names) (z : ℤ) → IsObject (nine ++ more) (Symbol 7 ∷ Number z ∷ [])
oscillator_object more z = record { kind = kind.Tone (tone.Osc z); names_it = oscillator_named more z; keeps_none = λ rate. refl; fixed = two_fixed (nine ++ more) 7 z }

pub factor_object : (more : Names) (z : ℤ) → IsObject (nine ++ more) (Symbol 8 ∷ Number z ∷ [])
factor_object more z =
    record { kind = kind.Signal (signal.Operation operation.Multiply (Some z)); names_it = factor_named more z; keeps_none = λ rate. refl; fixed = two_fixed (nine ++ more) 8 z }

-- ---- boxes one after the other

zero_plus : (n : ℕ) → 0 + n ≡ n
zero_plus n = omega arith

abbrev pub stock : Names → List ℕ → ℕ → Stock
stock names zeros room = record { names = names; zeros = zeros; room = room }

-- objects at 0 0 with these texts
abbrev pub objects : List (List Atom) → List Entry
objects [] = []
objects (text ∷ texts) = object_box text ∷ objects texts

pub record GrowsSo (step : Step Trees) (w : Stock) : Type 0 where
  pub boxes : Trees
  pub is : step ≡ gives boxes w
  pub inside : wires_inside boxes ≡ 0
  pub no_values : (rate : Rate) → sound_of rate boxes ≡ 0

module _ (lib : ℕ → Option Answer) (root : List ℕ) (left : ℕ) (inner : Inner) (a : Around) (names : Names) (zeros : List ℕ) where
  one_grown : (text : List Atom) (k r : ℕ) (h : IsObject names text) → k ≡ suc r
      → box_grown lib root left inner a (object_box text) (stock names zeros k) ≡ gives (Leaf (cell_of (object_box text).head text h.kind None) Done) (stock names zeros r)
  one_grown text k r h room =
      let v : Stock = stock names zeros r in
      let e : Entry = object_box text in
      let grow : List Atom → Stock → Step Trees = λ t u. goes_on (made lib root left a u.names e.head.form t) u (λ m q. box_made inner a e t m q) in
      ap (λ (j : ℕ). box_grown lib root left inner a e (stock names zeros j)) room
      ∙ ap (λ o. goes_on (named_step o v).answer (named_step o v).stock grow) (h.fixed a.zero a.arguments)
      ∙ ap (λ n. goes_on (object_made lib root left a names text n) v (λ m q. box_made inner a e text m q)) h.names_it

  pub objects_grown : (texts : List (List Atom)) (k r : ℕ) → AllByRecursion (IsObject names) texts → k ≡ length texts + r
      → GrowsSo (boxes_grown lib root left inner a (objects texts) (stock names zeros k)) (stock names zeros r)
  unfolding boxes_grown
  objects_grown [] k r h room =
      let e : k ≡ r = omega (arith, room) in
      record { boxes = Done; is = ap (λ (j : ℕ). gives Done (stock names zeros j)) e; inside = refl; no_values = λ rate. refl }
  objects_grown (text ∷ texts) k r h room =
      let o : IsObject names text = h.0 in
      let v : Stock = stock names zeros (length texts + r) in
      let rest : GrowsSo (boxes_grown lib root left inner a (objects texts) v) (stock names zeros r) = objects_grown texts (length texts + r) r h.1 refl in
      let leaf : Trees = Leaf (cell_of (object_box text).head text o.kind None) Done in
      let more : Trees → Stock → Step Trees = λ box u. goes_on (boxes_grown lib root left inner a (objects texts) u).answer (boxes_grown lib root left inner a (objects texts) u).stock
      (λ others t. gives (join box others) t) in
      record {
        boxes = Leaf (cell_of (object_box text).head text o.kind None) rest.boxes;
        is = ap (λ (s : Step Trees). goes_on s.answer s.stock more) (one_grown text k (length texts + r) o (omega (arith, room)))
            ∙ ap (λ (s : Step Trees). goes_on s.answer s.stock (λ others t. gives (join leaf others) t)) rest.is;
        inside = rest.inside;
        no_values = λ rate. ap (λ (j : ℕ). j + sound_of rate rest.boxes) (o.keeps_none rate) ∙ zero_plus (sound_of rate rest.boxes) ∙ rest.no_values rate;
      }
