-- What the fields of a record are where it isn't refused.
use Rattle.std.proofs.Common.{◌≡◌, ℕ, ◌/◌, ◌%◌, ◌≤◌, ◌-◌, Bool, true, false, ◌||◌, ◌&&◌, List, [], ◌∷◌, length, drop, replicate, refl, sym, ap, ◌∙◌, subst, arith, eqb, leb, Option, Some, None, Result, Ok}
use Rattle.std.specs.Prelude.{ℤ, pos, negsuc, codes, bytes_eq, ok_or, option_map, nat_lt}
use Rattle.std.specs.List.{AllByRecursion, list_all}
use Rattle.std.proofs.lemmas.Bool.Decides.{nat_tests}
use Rattle.std.proofs.lemmas.List.{length-replicate}
use Rattle.pd_num.specs.Scale.{millionths, IsInRange}
use Rattle.pd_lex.specs.Text.{Piece}
use Rattle.pd_atom.specs.Names.{Names, IsTable}
use Rattle.pd_atom.specs.declared.Atom.{Atom}
use Rattle.pd_atom.specs.declared.Atom.TheVariants.{Number}
use Rattle.pd_canvas.specs.declared.wires.Wire.{Wire}
use Rattle.pd_canvas.specs.Arrays.{is_name as is_name_atom, is_number as is_number_atom, size_of, IsArray}
use Rattle.pd_canvas.specs.Edits.{begins_with_pd, is_pd}
use Rattle.pd_canvas.specs.Proper.{IsKept, IsWidth, IsSmall, is_record_word, is_number_row}
use Rattle.pd_doc.specs.declared.refusal.DocRefusal.{DocRefusal}
use Rattle.pd_doc.specs.declared.refusal.DocRefusal.TheVariants.{BadRecord}
use Rattle.pd_doc.specs.declared.kinds.Kind.TheVariants as kind
use Rattle.pd_doc.specs.Pieces.{is_long, bytes_of, is_bare_comma, spells, number_of, numbers_of, cons_number, starts_with, width_of, width_in}
use Rattle.pd_doc.specs.Results.{◌>>=◌, refuse_if}
use Rattle.pd_doc.specs.Kinds.{kind_of, kind_behind, opening_kind, word_kind}
use Rattle.pd_doc.specs.Fields.{position_of, both_in, size_in, array_size, is_name, whole_from, whole_of, wire_of, wire_from}
use Rattle.pd_doc.specs.Records.{is_much, is_large, zeros}
use Rattle.pd_doc.proofs.PieceLemmas.{by_test}
use Rattle.pd_doc.proofs.ReadyLaws.{AllStand, text_made, number_in_range, number_stands, stands_number, name_stands, pd_stands, word_stands}

-- what comes behind a test that did not refuse, and what the test said
pub allowed : {B : Type 0} (b : Bool) (e : DocRefusal) (r : Result B DocRefusal) (y : B) → (refuse_if b e >>= (λ _. r)) ≡ Ok y → (b ≡ false) × (r ≡ Ok y)
allowed true e r y h = absurd (cc)
allowed false e r y h = (refl, h)

pub neither : (a b : Bool) → (a || b) ≡ false → (a ≡ false) × (b ≡ false)
neither true b h = absurd (cc)
neither false b h = (refl, h)

-- ---- places and widths

both_range : (n : ℕ) (o p : Option ℤ) (at : ℤ × ℤ) → ((z : ℤ) → o ≡ Some z → IsInRange millionths z) → ((z : ℤ) → p ≡ Some z → IsInRange millionths z) →
    both_in n o p ≡ Ok at → IsInRange millionths at.0 × IsInRange millionths at.1
both_range n (Some x) (Some y) at f g h =
    let q : (x, y) ≡ at = cc in
    subst (λ (p : ℤ × ℤ). IsInRange millionths p.0 × IsInRange millionths p.1) q (f x refl, g y refl)
both_range n (Some x) None at f g h = absurd (cc)
both_range n None p at f g h = absurd (cc)

pub position_range : (n : ℕ) (ps : List Piece) (at : ℤ × ℤ) → position_of n ps ≡ Ok at → IsInRange millionths at.0 × IsInRange millionths at.1
position_range n [] at h = absurd (cc)
position_range n (p ∷ []) at h = absurd (cc)
position_range n (p ∷ q ∷ ps) at h = both_range n (number_of p) (number_of q) at (number_in_range p) (number_in_range q) h

option_width : (o : Option ℤ) → ((z : ℤ) → o ≡ Some z → IsInRange millionths z) → IsWidth o
option_width None f = tt
option_width (Some z) f = f z refl

width_range : (ps : List Piece) → IsWidth (width_of ps)
width_range [] = tt
width_range (p ∷ []) = tt
width_range (p ∷ q ∷ []) = tt
width_range (p ∷ q ∷ r ∷ ps) =
    by_test (is_bare_comma p && spells (codes "f") q) (λ e. rw e (option_width (number_of r) (number_in_range r))) (λ e. rw e tt)

pub width_is : (ps : List Piece) → IsWidth (width_in ps)
width_is ps = width_range (drop (length ps - 3) ps)

-- ---- wires

whole_small : (o : Option ℤ) (k : ℕ) → whole_from o ≡ Some k → k ≤ 65535
whole_small None k h = absurd (cc)
whole_small (Some (negsuc m)) k h = absurd (cc)
whole_small (Some (pos m)) k h =
    by_test (eqb (m % 1000000) 0 && leb (m / 1000000) 65535)
    (λ e. let q : m / 1000000 ≡ k = (let r = rw e at h in cc) in small_unit (m % 1000000) (m / 1000000) k e q)
    (λ e. absurd (let r = rw e at h in cc))
  where
    small_unit : (a b k : ℕ) → (eqb a 0 && leb b 65535) ≡ true → b ≡ k → k ≤ 65535
    small_unit a b k e q = grind (arith, nat_tests)

wire_small_from : (a b c d : Option ℕ) (w : Wire) → ((k : ℕ) → a ≡ Some k → k ≤ 65535) → ((k : ℕ) → b ≡ Some k → k ≤ 65535) → ((k : ℕ) → c ≡ Some k → k ≤ 65535) →
    ((k : ℕ) → d ≡ Some k → k ≤ 65535) → wire_from a b c d ≡ Some w → IsSmall w
wire_small_from (Some s) (Some o) (Some d) (Some i) w e f g j h =
    let made : Wire = record { source = s; outlet = o; sink = d; inlet = i } in
    let q : made ≡ w = cc in
    subst IsSmall q (record { source = e s refl; outlet = f o refl; sink = g d refl; inlet = j i refl })
wire_small_from (Some s) (Some o) (Some d) None w e f g j h = absurd (cc)
wire_small_from (Some s) (Some o) None i w e f g j h = absurd (cc)
wire_small_from (Some s) None d i w e f g j h = absurd (cc)
wire_small_from None o d i w e f g j h = absurd (cc)

pub wire_small : (ps : List Piece) (w : Wire) → wire_of ps ≡ Some w → IsSmall w
wire_small [] w h = absurd (cc)
wire_small (s ∷ []) w h = absurd (cc)
wire_small (s ∷ o ∷ []) w h = absurd (cc)
wire_small (s ∷ o ∷ d ∷ []) w h = absurd (cc)
wire_small (s ∷ o ∷ d ∷ i ∷ []) w h =
    wire_small_from (whole_of s) (whole_of o) (whole_of d) (whole_of i) w (whole_small (number_of s)) (whole_small (number_of o)) (whole_small (number_of d)) (whole_small (number_of i)) h
wire_small (s ∷ o ∷ d ∷ i ∷ j ∷ ps) w h = absurd (cc)

pub some_wire : (o : Option Wire) (e : DocRefusal) (w : Wire) → ok_or o e ≡ Ok w → o ≡ Some w
some_wire None e w h = absurd (cc)
some_wire (Some v) e w h = let q : v ≡ w = cc in ap (λ x. Some x) q

-- ---- the size of an array

sized : (o : Option ℤ) (e : DocRefusal) (size : ℕ) → ok_or (option_map (λ z. size_of (Number z)) o) e ≡ Ok size → (z : ℤ) × (o ≡ Some z) × (size_of (Number z) ≡ size)
sized None e size h = absurd (cc)
sized (Some z) e size h = let q : size_of (Number z) ≡ size = cc in (z, refl, q)

not_large : (o : Option ℤ) (z : ℤ) → o ≡ Some z → is_large (option_map (λ y. size_of (Number y)) o) ≡ false → size_of (Number z) ≤ 16777216
not_large o z e h = let q : nat_lt 16777216 (size_of (Number z)) ≡ false = rw e at h in below_large (size_of (Number z)) q where
  below_large : (n : ℕ) → nat_lt 16777216 n ≡ false → n ≤ 16777216
  below_large n h = grind (arith, nat_tests)

array_with : (names : Names) (n : ℕ) (p q : Piece) (ps : List Piece) (a b : Atom) (l : List Atom) (size : ℕ) (z : ℤ) → is_name_atom a ≡ true → b ≡ Number z →
    size_of (Number z) ≤ 16777216 → size_of (Number z) ≡ size → IsArray (a ∷ b ∷ l) (zeros size)
array_with names n p q ps a b l size z name number few is =
    let len : length (zeros size) ≡ size = length-replicate size (pos 0) in (
      name,
      ap is_number_atom number,
      subst (λ x. size_of x ≤ 16777216) (sym number) few,
      len ∙ sym is ∙ ap size_of (sym number),
      λ s. ap (λ k. replicate k (pos 0)) (sym len),
    )

pub array_is : (names : Names) (n : ℕ) (ps : List Piece) (l : List Atom) (size : ℕ) → AllStand names ps l → is_large (size_in ps) ≡ false → array_size n ps ≡ Ok size →
    IsArray l (zeros size)
array_is names n [] l size h k e = absurd (cc)
array_is names n (p ∷ []) l size h k e = absurd (by_test (is_name p) (λ f. let q = rw f at e in cc) (λ f. let q = rw f at e in cc))
array_is names n (p ∷ q ∷ ps) [] size h k e = absurd h
array_is names n (p ∷ q ∷ ps) (a ∷ []) size h k e = absurd h.1
array_is names n (p ∷ q ∷ ps) (a ∷ b ∷ l) size h k e =
    by_test (is_name p)
    (λ f.
    let s = sized (number_of q) (BadRecord n) size (rw f at e) in
    array_with names n p q ps a b l size s.0 (name_stands names p a h.0 f) (stands_number names q b s.0 h.1.0 s.1) (not_large (number_of q) s.0 s.1 k) s.2)
    (λ f. absurd (let r = rw f at e in cc))

-- ---- the text of an object

pub not_pd_text : (names : Names) (ps : List Piece) (l : List Atom) → IsTable names → AllStand names ps l → starts_with (codes "pd") ps ≡ false → begins_with_pd l ≡ false
not_pd_text names ps [] table h e = refl
not_pd_text names [] (a ∷ l) table h e = absurd h
not_pd_text names (p ∷ ps) (a ∷ l) table h e =
    by_test (is_pd a) (λ f. absurd (let q = sym (pd_stands names p a table h.0 f) ∙ e in cc)) (λ f. f)

-- ---- kept records

-- the first token is no word of another record
abbrev pub BeginsKept : List Piece → Type 0
BeginsKept [] = ⊥
BeginsKept (p ∷ ps) = is_record_word (bytes_of p) ≡ false

kept_word : (w : List ℕ) → word_kind w ≡ kind.Kept → is_record_word w ≡ false
kept_word w h =
    by_test (bytes_eq w (codes "obj")) (λ e. absurd (let q = rw e at h in cc)) (λ a.
    by_test (bytes_eq w (codes "msg")) (λ e. absurd (let q = rw (a, e) at h in cc)) (λ b.
    by_test (bytes_eq w (codes "text")) (λ e. absurd (let q = rw (a, b, e) at h in cc)) (λ c.
    by_test (bytes_eq w (codes "floatatom")) (λ e. absurd (let q = rw (a, b, c, e) at h in cc)) (λ d.
    by_test (bytes_eq w (codes "symbolatom")) (λ e. absurd (let q = rw (a, b, c, d, e) at h in cc)) (λ f.
    by_test (bytes_eq w (codes "listbox")) (λ e. absurd (let q = rw (a, b, c, d, f, e) at h in cc)) (λ g.
    by_test (bytes_eq w (codes "restore")) (λ e. absurd (let q = rw (a, b, c, d, f, g, e) at h in cc)) (λ i.
    by_test (bytes_eq w (codes "array")) (λ e. absurd (let q = rw (a, b, c, d, f, g, i, e) at h in cc)) (λ j.
    by_test (bytes_eq w (codes "connect")) (λ e. absurd (let q = rw (a, b, c, d, f, g, i, j, e) at h in cc)) (λ k.
    by_test (bytes_eq w (codes "coords")) (λ e. absurd (let q = rw (a, b, c, d, f, g, i, j, k, e) at h in cc)) (λ m.
    by_test (bytes_eq w (codes "scalar")) (λ e. absurd (let q = rw (a, b, c, d, f, g, i, j, k, m, e) at h in cc)) (λ o.
    rw (a, b, c, d, f, g, i, j, k, m, o) refl)))))))))))

behind_kept : (ps : List Piece) → kind_behind word_kind ps ≡ kind.Kept → BeginsKept ps
behind_kept [] h = absurd (cc)
behind_kept (p ∷ ps) h = by_test (is_long p) (λ e. absurd (let q = rw e at h in cc)) (λ e. kept_word (bytes_of p) (rw e at h))

opening_not : (ps : List Piece) → kind_behind opening_kind ps ≡ kind.Kept → ⊥
opening_not [] h = cc
opening_not (p ∷ ps) h =
    by_test (is_long p) (λ e. let q = rw e at h in cc)
    (λ e. by_test (bytes_eq (bytes_of p) (codes "canvas")) (λ f. let q = rw (e, f) at h in cc)
    (λ f. by_test (bytes_eq (bytes_of p) (codes "struct")) (λ g. let q = rw (e, f, g) at h in cc) (λ g. let q = rw (e, f, g) at h in cc)))

pub kind_kept : (ps : List Piece) → kind_of ps ≡ kind.Kept → BeginsKept (drop 1 ps)
unfolding kind_of
kind_kept [] h = absurd (cc)
kind_kept (p ∷ ps) h =
    by_test (spells (codes "#N") p) (λ e. absurd (opening_not ps (rw e at h)))
    (λ e. by_test (spells (codes "#X") p) (λ f. behind_kept ps (rw (e, f) at h))
    (λ f. by_test (spells (codes "#A") p) (λ g. absurd (let q = rw (e, f, g) at h in cc)) (λ g. absurd (let q = rw (e, f, g) at h in cc))))

pub kept_made : (names : Names) (ps : List Piece) (l : List Atom) → IsTable names → AllStand names ps l → is_much ps ≡ false → BeginsKept ps → IsKept names l
kept_made names [] l table h m k = absurd k
kept_made names (p ∷ ps) [] table h m k = absurd h
kept_made names (p ∷ ps) (a ∷ l) table h m k = (text_made names (p ∷ ps) (a ∷ l) table h m, word_stands names p a h.0 k)

-- ---- rows

and_both : (a b : Bool) → (a && b) ≡ true → (a ≡ true) × (b ≡ true)
and_both true b h = (refl, h)
and_both false b h = absurd (cc)

all_numbers : (names : Names) (ps : List Piece) (l : List Atom) → AllStand names ps l → list_all is_number_atom l ≡ true → (zs : List ℤ) × (numbers_of ps ≡ Some zs)
all_numbers names [] l h e = ([], refl)
all_numbers names (p ∷ ps) [] h e = absurd h
all_numbers names (p ∷ ps) (a ∷ l) h e =
    let b = and_both (is_number_atom a) (list_all is_number_atom l) e in
    let z = number_stands names p a h.0 b.0 in
    let zs = all_numbers names ps l h.1 b.1 in
    (z.0 ∷ zs.0, ap (λ o. cons_number o (numbers_of ps)) z.1 ∙ ap (cons_number (Some z.0)) zs.1)

-- the tokens spell no numbers, or there is none
abbrev pub NoNumbers : Option (List ℤ) → Type 0
NoNumbers None = Unit {0}
NoNumbers (Some []) = Unit {0}
NoNumbers (Some (z ∷ zs)) = ⊥

some_numbers : (o : Option (List ℤ)) (z : ℤ) (zs : List ℤ) → o ≡ Some (z ∷ zs) → NoNumbers o → ⊥
some_numbers o z zs e h = subst NoNumbers e h

pub no_number_row : (names : Names) (ps : List Piece) (l : List Atom) → AllStand names ps l → NoNumbers (numbers_of ps) → is_number_row l ≡ false
no_number_row names ps [] h k = refl
no_number_row names [] (a ∷ l) h k = absurd h
no_number_row names (p ∷ ps) (a ∷ l) h k =
    by_test (list_all is_number_atom (a ∷ l))
    (λ e.
    let b = and_both (is_number_atom a) (list_all is_number_atom l) e in
    let z = number_stands names p a h.0 b.0 in
    let zs = all_numbers names ps l h.1 b.1 in
    absurd (some_numbers (numbers_of (p ∷ ps)) z.0 zs.0 (ap (λ o. cons_number o (numbers_of ps)) z.1 ∙ ap (cons_number (Some z.0)) zs.1) k))
    (λ e. e)

cons_range : (o : Option ℤ) (r : Option (List ℤ)) (l : List ℤ) → ((z : ℤ) → o ≡ Some z → IsInRange millionths z) →
    ((zs : List ℤ) → r ≡ Some zs → AllByRecursion (IsInRange millionths) zs) → cons_number o r ≡ Some l → AllByRecursion (IsInRange millionths) l
cons_range None r l f g h = absurd (cc)
cons_range (Some z) None l f g h = absurd (cc)
cons_range (Some z) (Some zs) l f g h = let q : z ∷ zs ≡ l = cc in subst (AllByRecursion (IsInRange millionths)) q (f z refl, g zs refl)

pub numbers_range : (ps : List Piece) (l : List ℤ) → numbers_of ps ≡ Some l → AllByRecursion (IsInRange millionths) l
numbers_range [] l h = let q : [] ≡ l = cc in subst (AllByRecursion (IsInRange millionths)) q tt
numbers_range (p ∷ ps) l h = cons_range (number_of p) (numbers_of ps) l (number_in_range p) (numbers_range ps) h
