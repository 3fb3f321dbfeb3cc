-- Each record that is written is read as what it was written for.
use Rattle.std.proofs.Common.{◌≡◌, ℕ, ◌+◌, ◌*◌, ◌/◌, ◌%◌, ◌<◌, ◌≤◌, Bool, true, false, ◌||◌, List, [], ◌∷◌, ◌++◌, length, refl, ap, ◌∙◌, arith, eqb, leb, Some, Ok, min}
use Rattle.std.specs.Prelude.{codes, bytes_eq}
use Rattle.std.specs.List.{list_any}
use Rattle.std.proofs.lemmas.Bool.Decides.{nat_tests}
use Rattle.std.proofs.lemmas.List.{length-map}
use Rattle.std.proofs.lemmas.Int.{ints}
use Rattle.pd_num.specs.Scale.{millionths, IsInRange}
use Rattle.pd_lex.specs.Text.{Piece}
use Rattle.pd_lex.specs.Text.Piece.{Word}
use Rattle.pd_atom.specs.Names.{Names}
use Rattle.pd_atom.specs.Atoms.{spelled}
use Rattle.pd_atom.specs.declared.Atom.{Atom}
use Rattle.pd_atom.specs.declared.Atom.TheVariants.{Number}
use Rattle.pd_canvas.specs.declared.wires.Wire.{Wire}
use Rattle.pd_canvas.specs.Proper.{IsText, IsKept, IsSmall, is_record_word}
use Rattle.pd_doc.specs.declared.refusal.DocRefusal.TheVariants.{TooLong}
use Rattle.pd_doc.specs.declared.kinds.Kind.{Kind}
use Rattle.pd_doc.specs.declared.kinds.Kind.TheVariants as kind
use Rattle.pd_doc.specs.Pieces.{is_long}
use Rattle.pd_doc.specs.Results.{◌>>=◌, refuse_if}
use Rattle.pd_doc.specs.Kinds.{kind_of, word_kind}
use Rattle.pd_doc.specs.Fields.{wire_of, whole_from, whole_of}
use Rattle.pd_doc.specs.States.{Level, State, new_level, opened, with_kept, with_coords, with_wires, one_wire_more}
use Rattle.pd_doc.specs.Records.{is_much, is_deep, opening, kept, connect, by_kind}
use Rattle.pd_doc.specs.Reading.{any_record}
use Rattle.pd_doc.specs.Writing.{atom_piece, atom_pieces, whole, wire_atoms, opening_row, kept_row, connect_row, coords_row}
use Rattle.pd_doc.proofs.Known.{Known, number_piece, atoms_back, short_piece, short_pieces}

-- the state in which l is the innermost canvas
abbrev pub At : Level → List Level → ℕ → ℕ → State
At l ls k w = record { levels = l ∷ ls; elements = k; wires = w }

pub read_row : (s : State) (names : Names) (n : ℕ) (p : Piece) (ps : List Piece) (k : Kind) → list_any is_long (p ∷ ps) ≡ false → kind_of (p ∷ ps) ≡ k →
    any_record (s, names) n (p ∷ ps) ≡ by_kind k s names n (p ∷ ps)
read_row s names n p ps k h e =
    ap (λ b. refuse_if b (TooLong n) >>= (λ _. by_kind (kind_of (p ∷ ps)) s names n (p ∷ ps))) h
    ∙ ap (λ q. by_kind q s names n (p ∷ ps)) e

few : (names : Names) (l : List Atom) → length l ≤ 1024 → is_much (atom_pieces names l) ≡ false
few names l h = let e = length-map l (atom_piece names) in grind (arith, nat_tests, e)

some_open : (l : Level) (ls : List Level) → eqb (length (l ∷ ls)) 0 ≡ false
some_open l ls = grind (arith, nat_tests)

-- ---- kept records and coords

kept_read : (f : List Atom → Level → Level) (names : Names) → Known names → (l : Level) (ls : List Level) (k w n : ℕ) (r : List Atom) → IsText names r →
    kept f (At l ls k w) names n (atom_pieces names r) ≡ Ok (At (f r l) ls k w, names)
unfolding kept
kept_read f names kn l ls k w n r h =
    let a = few names r h.1 in
    let b = some_open l ls in
    let c = atoms_back names kn n r h.0 in
    rw (a, b, c) refl

or_false : (a b : Bool) → (a || b) ≡ false → (a ≡ false) × (b ≡ false)
or_false true b h = absurd (cc)
or_false false b h = (refl, h)

record_word_is : (w : List ℕ) → is_record_word w ≡ false → word_kind w ≡ kind.Kept
record_word_is w h =
    let a = or_false (bytes_eq w (codes "restore")) _ h in
    let b = or_false (bytes_eq w (codes "obj")) _ a.1 in
    let c = or_false (bytes_eq w (codes "msg")) _ b.1 in
    let d = or_false (bytes_eq w (codes "text")) _ c.1 in
    let e = or_false (bytes_eq w (codes "floatatom")) _ d.1 in
    let f = or_false (bytes_eq w (codes "symbolatom")) _ e.1 in
    let g = or_false (bytes_eq w (codes "listbox")) _ f.1 in
    let i = or_false (bytes_eq w (codes "array")) _ g.1 in
    let j = or_false (bytes_eq w (codes "connect")) _ i.1 in
    let k = or_false (bytes_eq w (codes "coords")) _ j.1 in
    let l = or_false (bytes_eq w (codes "scalar")) _ k.1 in
    rw (b.0, c.0, d.0, e.0, f.0, g.0, a.0, i.0, j.0, k.0, l.0) refl

kept_kind : (names : Names) → Known names → (a : Atom) (r : List Atom) → IsText names (a ∷ r) → is_record_word (spelled names a) ≡ false →
    kind_of (kept_row names (a ∷ r)) ≡ kind.Kept
unfolding kind_of
kept_kind names kn a r h e =
    let s = short_piece names kn a h.0.0.0 (kn.holds a h.0.0.1) in
    rw s (ap word_kind (kn.bytes (spelled names a)) ∙ record_word_is (spelled names a) e)

pub kept_back : (names : Names) → Known names → (l : Level) (ls : List Level) (k w n : ℕ) (r : List Atom) → IsKept names r →
    any_record (At l ls k w, names) n (kept_row names r) ≡ Ok (At (with_kept r l) ls k w, names)
kept_back names kn l ls k w n [] h = absurd h
kept_back names kn l ls k w n (a ∷ r) h =
    read_row (At l ls k w) names n (Word (codes "#X")) (atom_pieces names (a ∷ r)) kind.Kept (short_pieces names kn (a ∷ r) h.0.0) (kept_kind names kn a r h.0 h.1)
    ∙ kept_read with_kept names kn l ls k w n (a ∷ r) h.0

coords_kind : (names : Names) (r : List Atom) → kind_of (coords_row names r) ≡ kind.Coords
unfolding kind_of
coords_kind names r = refl

pub coords_back : (names : Names) → Known names → (l : Level) (ls : List Level) (k w n : ℕ) (r : List Atom) → IsText names r →
    any_record (At l ls k w, names) n (coords_row names r) ≡ Ok (At (with_coords r l) ls k w, names)
coords_back names kn l ls k w n r h =
    read_row (At l ls k w) names n (Word (codes "#X")) (Word (codes "coords") ∷ atom_pieces names r) kind.Coords (short_pieces names kn r h.0) (coords_kind names r)
    ∙ kept_read with_coords names kn l ls k w n r h

-- ---- the opening of a canvas

opening_kind : (names : Names) (r : List Atom) → kind_of (opening_row names r) ≡ kind.Canvas
unfolding kind_of
opening_kind names r = refl

opening_read : (names : Names) → Known names → (s : State) (n : ℕ) (r : List Atom) → IsText names r → length s.levels < 256 →
    opening s names n (atom_pieces names r) ≡ Ok (opened (new_level n r) s, names)
unfolding opening
opening_read names kn s n r h d =
    let a = few names r h.1 in
    let b : is_deep s ≡ false = grind (arith, nat_tests) in
    let c = atoms_back names kn n r h.0 in
    rw (a, b, c) refl

pub opening_back : (names : Names) → Known names → (s : State) (n : ℕ) (r : List Atom) → IsText names r → length s.levels < 256 →
    any_record (s, names) n (opening_row names r) ≡ Ok (opened (new_level n r) s, names)
opening_back names kn s n r h d =
    read_row s names n (Word (codes "#N")) (Word (codes "canvas") ∷ atom_pieces names r) kind.Canvas (short_pieces names kn r h.0) (opening_kind names r)
    ∙ opening_read names kn s n r h d

-- ---- wires

whole_is : (m : ℕ) → m ≤ 65535 → whole_from (Some (whole m)) ≡ Some m
whole_is m h =
    let a : min (m * 1000000) 1000000000000000 ≡ m * 1000000 = omega arith in
    let b : m * 1000000 % 1000000 ≡ 0 = omega arith in
    let c : m * 1000000 / 1000000 ≡ m = omega arith in
    let d : leb m 65535 ≡ true = grind (arith, nat_tests) in
    rw (a, b, c, d) refl

pub whole_in_range : (m : ℕ) → IsInRange millionths (whole m)
whole_in_range m = (omega (arith, ints), omega (arith, ints))

whole_back : (names : Names) → Known names → (m : ℕ) → m ≤ 65535 → whole_of (atom_piece names (Number (whole m))) ≡ Some m
whole_back names kn m h = ap whole_from (number_piece names kn (whole m) (whole_in_range m)) ∙ whole_is m h

wire_back : (names : Names) → Known names → (x : Wire) → IsSmall x → wire_of (atom_pieces names (wire_atoms x)) ≡ Some x
wire_back names kn x h =
    let a = whole_back names kn x.source h.source in
    let b = whole_back names kn x.outlet h.outlet in
    let c = whole_back names kn x.sink h.sink in
    let d = whole_back names kn x.inlet h.inlet in
    rw (a, b, c, d) refl

connect_kind : (names : Names) (x : Wire) → kind_of (connect_row names x) ≡ kind.Connect
unfolding kind_of
connect_kind names x = refl

connect_read : (names : Names) → Known names → (l : Level) (ls : List Level) (k w n : ℕ) (x : Wire) → IsSmall x → w < 65536 →
    connect (At l ls k w) names n (atom_pieces names (wire_atoms x)) ≡ Ok (one_wire_more x (At l ls k w), names)
unfolding connect
connect_read names kn l ls k w n x h d =
    let a = wire_back names kn x h in
    let b = some_open l ls in
    let c : leb 65536 w ≡ false = grind (arith, nat_tests) in
    rw (a, b, c) refl

short_whole : (names : Names) → Known names → (m : ℕ) → is_long (atom_piece names (Number (whole m))) ≡ false
short_whole names kn m = short_piece names kn (Number (whole m)) tt (whole_in_range m)

short_wire : (names : Names) → Known names → (x : Wire) → list_any is_long (atom_pieces names (wire_atoms x)) ≡ false
short_wire names kn x =
    let a = short_whole names kn x.source in
    let b = short_whole names kn x.outlet in
    let c = short_whole names kn x.sink in
    let d = short_whole names kn x.inlet in
    rw (a, b, c, d) refl

pub connect_back : (names : Names) → Known names → (l : Level) (ls : List Level) (k w n : ℕ) (x : Wire) → IsSmall x → w < 65536 →
    any_record (At l ls k w, names) n (connect_row names x) ≡ Ok (At (with_wires (l.wires ++ x ∷ []) l) ls k (w + 1), names)
connect_back names kn l ls k w n x h d =
    read_row (At l ls k w) names n (Word (codes "#X")) (Word (codes "connect") ∷ atom_pieces names (wire_atoms x)) kind.Connect (short_wire names kn x) (connect_kind names x)
    ∙ connect_read names kn l ls k w n x h d
