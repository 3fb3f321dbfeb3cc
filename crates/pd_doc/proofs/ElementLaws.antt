-- Elements that are written are read as they were.
use Rattle.std.proofs.Common.{◌≡◌, ℕ, ◌+◌, ◌-◌, ◌<◌, ◌≤◌, Bool, false, List, [], ◌∷◌, ◌++◌, length, take, drop, refl, ap, ◌∙◌, arith, eqb, ltb, leb, Option, Some, None, Ok, length-append}
use Rattle.std.specs.Prelude.{ℤ, pos, codes}
use Rattle.std.specs.List.{list_any}
use Rattle.std.proofs.lemmas.Bool.Decides.{nat_tests}
use Rattle.std.proofs.lemmas.List.{append-nil, drop-map, length-map}
use Rattle.std.proofs.Math.Seq.{drop-append_seam, take-append_seam}
use Rattle.pd_num.specs.Scale.{millionths, IsInRange}
use Rattle.pd_lex.specs.Text.{Piece}
use Rattle.pd_lex.specs.Text.Piece.{Word}
use Rattle.pd_atom.specs.Names.{Names}
use Rattle.pd_atom.specs.declared.Atom.{Atom}
use Rattle.pd_atom.specs.declared.Atom.TheVariants.{Number}
use Rattle.pd_canvas.specs.Pages.{Shape, Array, Head, Entry, empty_page}
use Rattle.pd_canvas.specs.Proper.{AreReady, IsText, IsWidth}
use Rattle.pd_doc.specs.declared.kinds.Kind.TheVariants as kind
use Rattle.pd_doc.specs.declared.kinds.BoxWord.{BoxWord}
use Rattle.pd_doc.specs.Pieces.{is_long, number_of, width_of, width_in, text_in}
use Rattle.pd_doc.specs.Kinds.{kind_of}
use Rattle.pd_doc.specs.Fields.{atoms_of, position_of, both_in, size_in, array_size}
use Rattle.pd_doc.specs.States.{Level, State, closed, first_page, with_boxes, one_box_more}
use Rattle.pd_doc.specs.Records.{is_much, is_large, room_of, plain_entry, page_entry, makes_canvas, form_of, zeros, element, closing, array}
use Rattle.pd_doc.specs.Reading.{any_record}
use Rattle.pd_doc.specs.Writing.{atom_piece, atom_pieces, width_pieces}
use Rattle.pd_doc.proofs.PieceLemmas.{by_test}
use Rattle.pd_doc.proofs.Known.{Known, number_piece, atoms_back, short_piece, short_pieces}
use Rattle.pd_doc.proofs.RecordLaws.{At, read_row}

-- ---- texts with a width

width_words : (names : Names) (l : List Atom) → width_of (atom_pieces names l) ≡ None
width_words names [] = refl
width_words names (a ∷ []) = refl
width_words names (a ∷ b ∷ []) = refl
width_words names (a ∷ b ∷ c ∷ l) = refl

front_length : (a b : List Piece) → length (a ++ b) - length b ≡ length a
front_length a b = omega (arith, length-append a b)

drop_front : (a b : List Piece) → drop (length (a ++ b) - length b) (a ++ b) ≡ b
drop_front a b = ap (λ n. drop n (a ++ b)) (front_length a b) ∙ drop-append_seam a b

front_only : (a b : List Piece) → take (length (a ++ b) - length b) (a ++ b) ≡ a
front_only a b = ap (λ n. take n (a ++ b)) (front_length a b) ∙ take-append_seam a b

no_width : (names : Names) (l : List Atom) → width_in (atom_pieces names l) ≡ None
no_width names l =
    ap width_of (drop-map (atom_piece names) (length (atom_pieces names l) - 3) l) ∙ width_words names (drop (length (atom_pieces names l) - 3) l)

pub width_back : (names : Names) → Known names → (l : List Atom) (w : Option ℤ) → IsWidth w → width_in (atom_pieces names l ++ width_pieces names w) ≡ w
width_back names kn l None h = ap width_in (append-nil (atom_pieces names l)) ∙ no_width names l
width_back names kn l (Some z) h = ap width_of (drop_front (atom_pieces names l) (width_pieces names (Some z))) ∙ number_piece names kn z h

pub text_back : (names : Names) → Known names → (l : List Atom) (w : Option ℤ) → IsWidth w → text_in (atom_pieces names l ++ width_pieces names w) ≡ atom_pieces names l
text_back names kn l None h =
    let e = no_width names l in
    ap text_in (append-nil (atom_pieces names l)) ∙ (rw e refl)
text_back names kn l (Some z) h =
    let e = width_back names kn l (Some z) h in
    rw e (front_only (atom_pieces names l) (width_pieces names (Some z)))

-- ---- elements, in steps

pub element_with : (wd : BoxWord) (s : State) (names : Names) (n : ℕ) (x y : Piece) (tw t : List Piece) (width : Option ℤ) (at : ℤ × ℤ) (form : Shape) (text : List Atom) →
    text_in tw ≡ t → width_in tw ≡ width → is_much t ≡ false → position_of n (x ∷ y ∷ tw) ≡ Ok at → makes_canvas wd t ≡ false → room_of s n ≡ Ok tt →
    form_of wd n names ≡ Ok (form, names) → atoms_of n names t ≡ Ok (text, names) →
    element wd s names n (x ∷ y ∷ tw) ≡ Ok (one_box_more (plain_entry form at text width) s, names)
unfolding element
element_with wd s names n x y tw t width at form text a b c d e f g h = rw (a, b, c, d, e, f, g, h) refl

pub closing_with : (s : State) (names : Names) (n : ℕ) (x y : Piece) (tw t : List Piece) (width : Option ℤ) (at : ℤ × ℤ) (text : List Atom) →
    text_in tw ≡ t → width_in tw ≡ width → is_much t ≡ false → position_of n (x ∷ y ∷ tw) ≡ Ok at → ltb (length s.levels) 2 ≡ false → room_of s n ≡ Ok tt →
    atoms_of n names t ≡ Ok (text, names) →
    closing s names n (x ∷ y ∷ tw) ≡ Ok (one_box_more (page_entry (first_page s.levels) at text width) (closed s), names)
unfolding closing
closing_with s names n x y tw t width at text a b c d e f g = rw (a, b, c, d, e, f, g) refl

pub array_with : (s : State) (names : Names) (n : ℕ) (t : List Piece) (size : ℕ) (text : List Atom) →
    is_much t ≡ false → is_large (size_in t) ≡ false → array_size n t ≡ Ok size → room_of s n ≡ Ok tt → atoms_of n names t ≡ Ok (text, names) →
    array s names n t ≡ Ok (one_box_more (plain_entry (Array (zeros size)) (pos 0, pos 0) text None) s, names)
unfolding array
array_with s names n t size text a b c d e = rw (a, b, c, d, e) refl

pub room_back : (l : Level) (ls : List Level) (k w n : ℕ) → k < 16384 → room_of (At l ls k w) n ≡ Ok tt
room_back l ls k w n h =
    let a : eqb (length (l ∷ ls)) 0 ≡ false = grind (arith, nat_tests) in
    let b : leb 16384 k ≡ false = grind (arith, nat_tests) in
    rw (a, b) refl

-- ---- what an element's text begins with

pub position_back : (names : Names) → Known names → (n : ℕ) (x y : ℤ) (tw : List Piece) → IsInRange millionths x → IsInRange millionths y →
    position_of n (atom_piece names (Number x) ∷ atom_piece names (Number y) ∷ tw) ≡ Ok (x, y)
position_back names kn n x y tw h k =
    ap (λ o. both_in n o (number_of (atom_piece names (Number y)))) (number_piece names kn x h) ∙ ap (both_in n (Some x)) (number_piece names kn y k)

pub few_pieces : (names : Names) (l : List Atom) → length l ≤ 1024 → is_much (atom_pieces names l) ≡ false
few_pieces names l h = let e = length-map l (atom_piece names) in grind (arith, nat_tests, e)

any_append : (p : Piece → Bool) (a b : List Piece) → list_any p a ≡ false → list_any p b ≡ false → list_any p (a ++ b) ≡ false
any_append p [] b h k = k
any_append p (x ∷ a) b h k =
    by_test (p x) (λ e. absurd (let q = rw e at h in cc)) (λ e. rw e (any_append p a b (rw e at h) k))

short_width : (names : Names) → Known names → (w : Option ℤ) → IsWidth w → list_any is_long (width_pieces names w) ≡ false
short_width names kn None h = refl
short_width names kn (Some z) h = let s = short_piece names kn (Number z) tt h in rw s refl

pub short_row : (names : Names) → Known names → (x y : ℤ) (l : List Atom) (w : Option ℤ) → IsInRange millionths x → IsInRange millionths y → AreReady names l → IsWidth w →
    list_any is_long (atom_piece names (Number x) ∷ atom_piece names (Number y) ∷ (atom_pieces names l ++ width_pieces names w)) ≡ false
short_row names kn x y l w h k r i =
    let a = short_piece names kn (Number x) tt h in
    let b = short_piece names kn (Number y) tt k in
    let c = any_append is_long (atom_pieces names l) (width_pieces names w) (short_pieces names kn l r) (short_width names kn w i) in
    rw (a, b, c) refl

-- the element of a head without its tail rows
abbrev pub fresh : Head → Head
fresh h = record { x = h.x; y = h.y; form = h.form; text = h.text; width = h.width; tail = [] }

-- what is common to the heads of elements
pub record Plain (names : Names) (h : Head) : Type 0 where
  pub x : IsInRange millionths h.x
  pub y : IsInRange millionths h.y
  pub text : IsText names h.text
  pub width : IsWidth h.width

plain_back : (names : Names) → Known names → (wd : BoxWord) (form : Shape) (h : Head) (l : Level) (ls : List Level) (k w n : ℕ) → Plain names h → k < 16384 →
    makes_canvas wd (atom_pieces names h.text) ≡ false → form_of wd n names ≡ Ok (form, names) →
    element wd (At l ls k w) names n (atom_piece names (Number h.x) ∷ atom_piece names (Number h.y) ∷ (atom_pieces names h.text ++ width_pieces names h.width))
    ≡ Ok (one_box_more (plain_entry form (h.x, h.y) h.text h.width) (At l ls k w), names)
plain_back names kn wd form h l ls k w n p d m f =
    element_with wd (At l ls k w) names n (atom_piece names (Number h.x)) (atom_piece names (Number h.y)) (atom_pieces names h.text ++ width_pieces names h.width)
    (atom_pieces names h.text) h.width (h.x, h.y) form h.text
    (text_back names kn h.text h.width p.width) (width_back names kn h.text h.width p.width) (few_pieces names h.text p.text.1)
    (position_back names kn n h.x h.y (atom_pieces names h.text ++ width_pieces names h.width) p.x p.y) m (room_back l ls k w n d) f (atoms_back names kn n h.text p.text.0)

-- the state with an element more
abbrev pub With : Level → List Level → ℕ → ℕ → Entry → State
With l ls k w e = At (with_boxes (l.boxes ++ e ∷ []) l) ls (k + 1) w

-- an element that holds no canvas and isn't an array
abbrev pub alone : Head → Entry
alone h = record { head = h; page = empty_page }

pub word_row : (names : Names) → Known names → (wd : BoxWord) (ws : List ℕ) (h : Head) (l : Level) (ls : List Level) (k w n : ℕ) → Plain names h → k < 16384 →
    is_long (Word ws) ≡ false → kind_of (Word (codes "#X") ∷ Word ws ∷ atom_piece names (Number h.x) ∷ atom_piece names (Number h.y) ∷ (atom_pieces names h.text ++ width_pieces names h.width)) ≡ kind.Plain wd →
    makes_canvas wd (atom_pieces names h.text) ≡ false → form_of wd n names ≡ Ok (h.form, names) →
    any_record (At l ls k w, names) n (Word (codes "#X") ∷ Word ws ∷ atom_piece names (Number h.x) ∷ atom_piece names (Number h.y) ∷ (atom_pieces names h.text ++ width_pieces names h.width))
    ≡ Ok (With l ls k w (alone (fresh h)), names)
word_row names kn wd ws h l ls k w n p d q e m f =
    let rest = atom_piece names (Number h.x) ∷ atom_piece names (Number h.y) ∷ (atom_pieces names h.text ++ width_pieces names h.width) in
    let s = short_row names kn h.x h.y h.text h.width p.x p.y p.text.0 p.width in
    let long : list_any is_long (Word (codes "#X") ∷ Word ws ∷ rest) ≡ false = rw (q, s) refl in
    read_row (At l ls k w) names n (Word (codes "#X")) (Word ws ∷ rest) (kind.Plain wd) long e
    ∙ plain_back names kn wd h.form h l ls k w n p d m f
