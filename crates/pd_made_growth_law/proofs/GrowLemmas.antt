-- A made patch grows.
use Rattle.std.proofs.Common.{◌≡◌, ℕ, zero, suc, ◌+◌, ◌-◌, ◌*◌, ◌≤◌, pos, Bool, true, false, List, [], ◌∷◌, ◌++◌, length, position, bytes_eq, Option, refl, ap, ◌∙◌, arith}
use Rattle.std.specs.Prelude.{nat_lt, cond, if◌then◌else◌}
use Rattle.std.specs.List.{AllByRecursion, flat_map, filter}
use Rattle.std.proofs.lemmas.Bool.{ltb-false}
use Rattle.std.proofs.lemmas.List.{length-append}
use Rattle.pd_atom.specs.Names.{Names, longest, interned}
use Rattle.pd_atom.specs.declared.Atom.{Atom}
use Rattle.pd_atom.specs.declared.Atom.TheVariants.{Number, Symbol}
use Rattle.pd_atom.proofs.NameLemmas.{interned_found, interned_new}
use Rattle.pd_atom.proofs.TokenLemmas.{by_option}
use Rattle.pd_canvas.specs.Pages.{Entry, Page, listed, boxed, elements_of}
use Rattle.pd_growth.specs.Growth.{grown, page_grown, boxes_grown, receiver_bytes, without_ending, around_root}
use Rattle.pd_growth.specs.Steps.{Stock, Step, gives, goes_on, beginning, brought, named_step, zeros_from}
use Rattle.pd_growth.proofs.SupplyLemmas.{zeros_next}
use Rattle.pd_library.specs.declared.answers.Answer.{Answer}
use Rattle.pd_made.specs.Documents.{object_box, whole, frequency, voice_boxes, made_wires, voice_wires, document_by, made_document}
use Rattle.pd_made.specs.Voices.{voices, words_in}
use Rattle.pd_tree.specs.Ports.{fits, sockets_in}
use Rattle.pd_tree.specs.Trees.{Trees, Tree, sheet_of}
use Rattle.pd_made_growth_law.specs.Grows.{word_names, GrowsSmall}
use Rattle.pd_made_growth_law.proofs.BoxLemmas.{nine, IsObject, output_object, oscillator_object, factor_object, stock, objects, GrowsSo, objects_grown}

-- ---- the document

names_are : word_names ≡ nine
unfolding interned
names_are = refl

-- the texts of a voice's boxes, and of all
voice_texts : ℕ → List (List Atom)
voice_texts voice = (Symbol 7 ∷ whole (frequency voice) ∷ []) ∷ (Symbol 8 ∷ Number (pos 1000) ∷ []) ∷ []

all_texts : ℕ → List (List Atom)
all_texts n = (Symbol 6 ∷ []) ∷ flat_map voice_texts (voices n)

listed_boxed : (texts : List (List Atom)) → listed (boxed (objects texts)) ≡ objects texts
listed_boxed [] = refl
listed_boxed (text ∷ texts) = ap (λ (es : List Entry). object_box text ∷ es) (listed_boxed texts)

voices_listed : (vs : List ℕ) → flat_map (voice_boxes (words_in nine)) vs ≡ objects (flat_map voice_texts vs)
unfolding voice_texts
voices_listed [] = refl
voices_listed (v ∷ vs) = ap (λ (es : List Entry). voice_boxes (words_in nine) v ++ es) (voices_listed vs)

made_listed : (n : ℕ) → elements_of (document_by (words_in nine) n) ≡ objects (all_texts n)
unfolding all_texts
made_listed n =
    ap (λ (es : List Entry). listed (boxed (object_box (Symbol 6 ∷ []) ∷ es))) (voices_listed (voices n)) ∙ listed_boxed (all_texts n)

voices_are : (more : Names) (vs : List ℕ) → AllByRecursion (IsObject (nine ++ more)) (flat_map voice_texts vs)
unfolding voice_texts
voices_are more [] = tt
voices_are more (v ∷ vs) = (oscillator_object more _, (factor_object more _, voices_are more vs))

all_are : (more : Names) (n : ℕ) → AllByRecursion (IsObject (nine ++ more)) (all_texts n)
unfolding all_texts
all_are more n = (output_object more, voices_are more (voices n))

voices_count : (n : ℕ) → length (voices n) ≡ n
voices_count zero = refl
voices_count (suc n) = length-append (voices n) (suc n ∷ []) ∙ ap (λ (k : ℕ). k + 1) (voices_count n) ∙ omega arith

texts_count : (vs : List ℕ) → length (flat_map voice_texts vs) ≡ 2 * length vs
unfolding voice_texts
texts_count [] = refl
texts_count (v ∷ vs) = ap (λ (k : ℕ). suc (suc k)) (texts_count vs) ∙ omega arith

all_count : (n : ℕ) → length (all_texts n) ≡ 2 * n + 1
unfolding all_texts
all_count n = ap suc (texts_count (voices n) ∙ ap (λ (k : ℕ). 2 * k) (voices_count n)) ∙ omega arith

wires_count : (vs : List ℕ) → length (flat_map voice_wires vs) ≡ 2 * length vs
wires_count [] = refl
wires_count (v ∷ vs) = ap (λ (k : ℕ). suc (suc k)) (wires_count vs) ∙ omega arith

-- ---- the names and the number of the patch

-- its receiver is brought, and all names stay
module _ (name : List ℕ) (zeros : List ℕ) (room : ℕ) where
  abbrev with_more : Names → Stock
  with_more more = record { names = nine ++ more; zeros = zeros; room = room }

  abbrev begun : Stock
  begun = record { names = nine; zeros = zeros; room = room }

  abbrev Brings : Type 0
  Brings = (more : Names) × (brought name begun ≡ gives tt (with_more more))

  by_name : (long : Bool) → Step (Unit {0})
  by_name long = if long then gives tt begun else goes_on (named_step (interned nine name) begun).answer (named_step (interned nine name) begun).stock (λ _ v. gives tt v)

  by_length : (long : Bool) → nat_lt longest (length name) ≡ long → Brings
  unfolding by_name
  by_length true e = ([], ap by_name e)
  by_length false e =
      let short : length name ≤ longest = ltb-false longest (length name) e in
      by_option (position (bytes_eq name) nine)
      (λ none. (name ∷ [], ap by_name e ∙ ap (λ o. goes_on (named_step o begun).answer (named_step o begun).stock (λ _ v. gives tt v)) (interned_new nine name short none (omega arith))))
      (λ s at. ([], ap by_name e ∙ ap (λ o. goes_on (named_step o begun).answer (named_step o begun).stock (λ _ v. gives tt v)) (interned_found nine name s short at)))

  brings : Brings
  brings = by_length (nat_lt longest (length name)) refl

either_few : {A : Type 0} (b : Bool) (x : A) (ys xs : List A) → length ys ≤ length xs → length (cond b (x ∷ ys) ys) ≤ length (x ∷ xs)
either_few true x ys xs h = omega (arith, h)
either_few false x ys xs h = omega (arith, h)

few_fit : {A : Type 0} (f : A → Bool) (xs : List A) → length (filter f xs) ≤ length xs
few_fit f [] = omega arith
few_fit f (x ∷ xs) = either_few (f x) x (filter f xs) xs (few_fit f xs)

pub made_grows : (lib : ℕ → Option Answer) (name : List ℕ) (n : ℕ) → n ≤ 1000 → GrowsSmall lib name n
unfolding page_grown
made_grows lib name n few =
    let p : Page = document_by (words_in nine) n in
    let root : List ℕ = without_ending name in
    let whole_of : Step Trees → Step Tree = λ s. goes_on s.answer s.stock (λ boxes t. gives (record { sheet = sheet_of 1001 [] p; boxes = boxes }) t) in
    let page : Stock → Step Tree = λ u. whole_of (page_grown lib root 255 (around_root 1001) p u) in
    let named = brings (receiver_bytes name) (zeros_from 1002) 16384 in
    let w : Stock = record { names = nine ++ named.0; zeros = zeros_from 1002; room = 16384 } in
    let boxes : List Entry → Step Trees = λ es. boxes_grown lib root 255 (page_grown lib root 254) (around_root 1001) es w in
    let room : 16384 ≡ length (all_texts n) + (16383 - 2 * n) = omega (arith, few, all_count n) in
    let rest : GrowsSo (boxes_grown lib root 255 (page_grown lib root 254) (around_root 1001) (objects (all_texts n)) w) (stock (nine ++ named.0) (zeros_from 1002) (16383 - 2 * n)) =
    objects_grown lib root 255 (page_grown lib root 254) (around_root 1001) (nine ++ named.0) (zeros_from 1002) (all_texts n) 16384 (16383 - 2 * n) (all_are named.0 n) room in
    record {
      tree = record { sheet = sheet_of 1001 [] p; boxes = rest.boxes };
      after = record { names = nine ++ named.0; zeros = zeros_from 1002; room = 16383 - 2 * n };
      step =
          ap (λ (m : Names). grown lib name (made_document m n) (beginning m 1001)) names_are
          ∙ ap (λ (zs : List ℕ). grown lib name p (record { names = nine; zeros = zs; room = 16384 })) (zeros_next 1001 (omega arith))
          ∙ ap (λ (s : Step (Unit {0})). goes_on s.answer s.stock (λ _ u. page u)) named.1
          ∙ ap whole_of (ap boxes (made_listed n) ∙ rest.is);
      few_wires = omega (arith, few_fit (fits (sockets_in rest.boxes)) (made_wires n), wires_count (voices n), voices_count n, rest.inside);
      no_values = rest.no_values;
    }
