-- A box with what it keeps, as a document has it.
use Rattle.std.proofs.Common.{◌≡◌, ◌≤◌, ◌+◌, ℕ, ℤ, Bool, true, false, true≢false, List, [], ◌∷◌, ◌++◌, take, length, Option, Some, None, refl, sym, ap, ◌∙◌, arith, length-append}
use Rattle.std.specs.Prelude.{option_and_then}
use Rattle.std.specs.List.{AllByRecursion}
use Rattle.std.proofs.lemmas.List.{length-take}
use Rattle.pd_num.specs.Scale.{millionths, IsInRange}
use Rattle.pd_atom.specs.declared.Atom.{Atom}
use Rattle.pd_atom.specs.declared.Atom.TheVariants.{Number}
use Rattle.pd_atom.specs.Names.{Names}
use Rattle.pd_atom.proofs.TokenLemmas.{number_settled}
use Rattle.pd_canvas.specs.Arrays.{is_saved, IsArray}
use Rattle.pd_canvas.specs.Edits.{begins_with_pd}
use Rattle.pd_canvas.specs.Pages.{Shape, Obj, Msg, Array, Head}
use Rattle.pd_canvas.specs.Proper.{IsReady, IsText, IsHead}
use Rattle.pd_kind.specs.declared.states.State.{State}
use Rattle.pd_kind.specs.Tables.{table_of, saved_of}
use Rattle.pd_present.specs.Contents.{text_kept, text_or, toggled, values_or, present_values, present_head}
use Rattle.pd_guards.proofs.FactLemmas.{all-append, all-take}
use Rattle.pd_proper_law.specs.Saves.{IsNumber, SavesWell}

-- so many values are those of an array
abbrev pub CountFits : ℕ → Shape → Type 0
CountFits count (Array values) = count ≡ length values
CountFits count f = Unit {0}

-- ---- message boxes

message_text : (names : Names) (o : Option (List Atom)) (text : List Atom) → ((t : List Atom) → o ≡ Some t → IsText names t) → IsText names text → IsText names (text_or o text)
message_text names None text k h = h
message_text names (Some t) text k h = k t refl

-- ---- toggles

number_ready : (names : Names) (z : ℤ) → IsNumber z → IsReady names (Number z)
number_ready names z h = (tt, number_settled names z h)

few_atoms : (text : List Atom) (a b : Atom) → length (take 13 text ++ a ∷ b ∷ []) ≤ 1024
few_atoms text a b =
    let whole : length (take 13 text ++ a ∷ b ∷ []) ≡ length (take 13 text) + 2 = length-append (take 13 text) (a ∷ b ∷ []) in
    let front = length-take 13 text in
    omega (arith, whole, front)

toggled_text : (names : Names) (o : Option (ℤ × ℤ)) (text : List Atom) → ((v : ℤ × ℤ) → o ≡ Some v → IsNumber v.0 × IsNumber v.1) → IsText names text → IsText names (toggled o text)
toggled_text names None text k h = h
toggled_text names (Some v) text k h =
    let r = k v refl in (
      all-append (IsReady names) (take 13 text) (Number v.0 ∷ Number v.1 ∷ []) (all-take (IsReady names) 13 text h.0) (number_ready names v.0 r.0, (number_ready names v.1 r.1, tt)),
      few_atoms text (Number v.0) (Number v.1),
    )

toggled_form : (o : Option (ℤ × ℤ)) (text : List Atom) → begins_with_pd text ≡ false → begins_with_pd (toggled o text) ≡ false
toggled_form None text h = h
toggled_form (Some v) [] h = refl
toggled_form (Some v) (a ∷ text) h = h

-- ---- arrays

array_more : (text : List Atom) (values vs : List ℤ) → is_saved text ≡ true → IsArray text values → length vs ≡ length values → IsArray text vs
array_more [] values vs t h e = absurd h
array_more (a ∷ []) values vs t h e = absurd h
array_more (a ∷ b ∷ text) values vs t h e = (h.0, h.1, h.2, e ∙ h.3, λ f. absurd (true≢false (sym t ∙ f)))

array_or : (text : List Atom) (o : Option (List ℤ)) (values : List ℤ) → is_saved text ≡ true → IsArray text values → ((vs : List ℤ) → o ≡ Some vs → length vs ≡ length values)
    → IsArray text (values_or o values)
array_or text None values t h k = h
array_or text (Some vs) values t h k = array_more text values vs t h (k vs refl)

array_text : (text : List Atom) (b : Bool) (s : Option State) (values : List ℤ) → is_saved text ≡ b → IsArray text values
    → ((vs : List ℤ) → option_and_then table_of s ≡ Some vs → length vs ≡ length values) → IsArray text (present_values b s values)
array_text text true s values t h k = array_or text (option_and_then table_of s) values t h k
array_text text false s values t h k = h

numbers_or : (o : Option (List ℤ)) (values : List ℤ) → AllByRecursion (IsInRange millionths) values → ((vs : List ℤ) → o ≡ Some vs → AllByRecursion IsNumber vs)
    → AllByRecursion (IsInRange millionths) (values_or o values)
numbers_or None values h k = h
numbers_or (Some vs) values h k = k vs refl

array_numbers : (b : Bool) (s : Option State) (values : List ℤ) → AllByRecursion (IsInRange millionths) values
    → ((vs : List ℤ) → option_and_then table_of s ≡ Some vs → AllByRecursion IsNumber vs) → AllByRecursion (IsInRange millionths) (present_values b s values)
array_numbers true s values h k = numbers_or (option_and_then table_of s) values h k
array_numbers false s values h k = h

-- ---- each box

head_by : (names : Names) (count : ℕ) (s : Option State) (f : Shape) → SavesWell names f count s → (x y : ℤ) (text : List Atom) (width : Option ℤ) (tail : List (List Atom)) → CountFits count f
    → IsHead names (record { x = x; y = y; form = f; text = text; width = width; tail = tail })
    → IsHead names (present_head s (record { x = x; y = y; form = f; text = text; width = width; tail = tail }))
head_by names count s Msg w x y text width tail c h =
    record { x = h.x; y = h.y; text = message_text names (option_and_then text_kept s) text w h.text; width = h.width; tail = h.tail; form = tt }
head_by names count s Obj w x y text width tail c h = record {
  x = h.x;
  y = h.y;
  text = toggled_text names (option_and_then saved_of s) text w h.text;
  width = h.width;
  tail = h.tail;
  form = toggled_form (option_and_then saved_of s) text h.form;
}
head_by names count s (Array values) w x y text width tail c h = record {
  x = h.x;
  y = h.y;
  text = h.text;
  width = h.width;
  tail = h.tail;
  form = record {
    text = array_text text (is_saved text) s values refl h.form.text (λ vs e. (w vs e).1 ∙ c);
    numbers = array_numbers (is_saved text) s values h.form.numbers (λ vs e. (w vs e).0);
    x = h.form.x;
    y = h.form.y;
    width = h.form.width;
    tail = h.form.tail;
  };
}
head_by names count s f w x y text width tail c h = h

pub head_proper : (names : Names) (count : ℕ) (s : Option State) (h : Head) → SavesWell names h.form count s → CountFits count h.form → IsHead names h → IsHead names (present_head s h)
head_proper names count s h w c k = head_by names count s h.form w h.x h.y h.text h.width h.tail c k
