-- Documents that suit: proper ones, and those of files.
use Rattle.std.proofs.Common.{ℕ, zero, suc, ◌==◌, Bool, true, false, cond, List, [], ◌∷◌, ◌++◌, take, Option, Some, None}
use Rattle.std.specs.List.{All}
use Rattle.std.proofs.lemmas.List.Elements.{All-nil, All-cons}
use Rattle.pd_atom.specs.declared.Atom.{Atom}
use Rattle.pd_atom.specs.Names.{Names}
use Rattle.pd_atom.specs.Atoms.{IsOf}
use Rattle.pd_canvas.specs.Pages.{Boxes, End, Box, Page}
use Rattle.pd_canvas.specs.Proper.{AreReady, AreBoxes, IsProper}
use Rattle.pd_library.specs.declared.answers.Answer.{Answer}
use Rattle.pd_library.specs.Files.{answer_in, with_answer}
use Rattle.pd_growth.specs.Suits.{TextsSuit, PageSuits, AnswerSuits}

ready_of : (names : Names) (atoms : List Atom) → AreReady names atoms → All (IsOf names) atoms
ready_of names [] h = All-nil (IsOf names)
ready_of names (a ∷ atoms) h = All-cons (IsOf names) a atoms h.0.0 (ready_of names atoms h.1)

texts_proper : (names : Names) (b : Boxes) → AreBoxes names b → TextsSuit names b
texts_proper names End h = tt
texts_proper names (Box head f inner rest) h =
    let text = h.0.text in ((ready_of names head.text text.0, text.1), texts_proper names inner h.3, texts_proper names rest h.4)

pub proper_page : (names : Names) (p : Page) → IsProper names p → PageSuits names p
proper_page names p h = (texts_proper names p.boxes h.sound.1, h.limits.boxes)

-- at one name, where more or fewer entries lie behind the first
behind_first : (names : Names) (b : Bool) (x y z : Option Answer) → (AnswerSuits names y → AnswerSuits names z) → AnswerSuits names (cond b x y) → AnswerSuits names (cond b x z)
behind_first names true x y z f h = h
behind_first names false x y z f h = f h

in_place : (names : Names) (b : Bool) (x x' y : Option Answer) → AnswerSuits names x' → AnswerSuits names (cond b x y) → AnswerSuits names (cond b x' y)
in_place names true x x' y a h = a
in_place names false x x' y a h = h

pub learned_at : (names : Names) (es : List (ℕ × Answer)) (name : ℕ) (answer : Answer) (n : ℕ) → AnswerSuits names (answer_in es n) → AnswerSuits names (Some answer)
    → AnswerSuits names (answer_in (es ++ (name, answer) ∷ []) n)
learned_at names [] name answer n h a = in_place names (name == n) None (Some answer) None a (none names (name == n))
  where
    none : (names : Names) (b : Bool) → AnswerSuits names (cond b None None)
    none names true = tt
    none names false = tt
learned_at names (e ∷ es) name answer n h a =
    behind_first names (e.0 == n) (Some e.1) (answer_in es n) (answer_in (es ++ (name, answer) ∷ []) n) (λ k. learned_at names es name answer n k a) h

either_list : (names : Names) (b : Bool) (xs ys : List (ℕ × Answer)) (n : ℕ) → AnswerSuits names (answer_in xs n) → AnswerSuits names (answer_in ys n) → AnswerSuits names (answer_in (cond b xs ys) n)
either_list names true xs ys n h k = h
either_list names false xs ys n h k = k

pub published_at : (names : Names) (es : List (ℕ × Answer)) (name : ℕ) (answer : Answer) (n : ℕ) → AnswerSuits names (answer_in es n) → AnswerSuits names (Some answer)
    → AnswerSuits names (answer_in (with_answer name answer es) n)
published_at names [] name answer n h a = learned_at names [] name answer n h a
published_at names (e ∷ es) name answer n h a =
    either_list names (e.0 == name) ((e.0, answer) ∷ es) (e ∷ with_answer name answer es) n
    (in_place names (e.0 == n) (Some e.1) (Some answer) (answer_in es n) a h)
    (behind_first names (e.0 == n) (Some e.1) (answer_in es n) (answer_in (with_answer name answer es) n) (λ k. published_at names es name answer n k a) h)

pub cut_at : (names : Names) (k : ℕ) (es : List (ℕ × Answer)) (n : ℕ) → AnswerSuits names (answer_in es n) → AnswerSuits names (answer_in (take k es) n)
cut_at names zero es n h = tt
cut_at names (suc k) [] n h = tt
cut_at names (suc k) (e ∷ es) n h = behind_first names (e.0 == n) (Some e.1) (answer_in es n) (answer_in (take k es) n) (λ j. cut_at names k es n j) h
