-- A document that is written is read again.
use Rattle.std.proofs.Common.{◌≡◌, ℕ, ◌+◌, ◌<◌, ◌≤◌, true, false, List, [], ◌∷◌, ◌++◌, length, map, refl, sym, ap, ◌∙◌, subst, arith, ltb, Some, None, Ok, append_assoc, inl, inr}
use Rattle.std.specs.Prelude.{codes, ◌⊎◌}
use Rattle.std.specs.List.{AllByRecursion}
use Rattle.std.proofs.lemmas.Bool.Decides.{nat_tests}
use Rattle.std.proofs.lemmas.List.{append-nil}
use Rattle.pd_lex.specs.Text.{Piece, escaped, unescaped}
use Rattle.pd_lex.specs.Text.Piece.{Word}
use Rattle.pd_atom.specs.Names.{Names, name_of}
use Rattle.pd_atom.specs.declared.Atom.{Atom}
use Rattle.pd_atom.specs.declared.Atom.TheVariants.{Number}
use Rattle.pd_canvas.specs.declared.wires.Wire.{Wire}
use Rattle.pd_canvas.specs.Pages.{Shape, Obj, Msg, Comment, FloatBox, SymbolBox, Sub, Array, Other, Head, Frame, Boxes, End, Box, Page, Entry, empty_page, page_of, listed, boxed}
use Rattle.pd_canvas.specs.Edits.{begins_with_pd}
use Rattle.pd_canvas.specs.Wiring.{AreSorted, with_wire, precedes}
use Rattle.pd_canvas.specs.Proper.{AreReady, IsText, IsKept, IsSmall, IsHead, is_number_row}
use Rattle.pd_doc.specs.declared.kinds.Kind.TheVariants as kind
use Rattle.pd_doc.specs.declared.kinds.BoxWord.{BoxWord}
use Rattle.pd_doc.specs.declared.kinds.BoxWord.TheVariants as word
use Rattle.pd_doc.specs.Pieces.{is_long, numbers_of}
use Rattle.pd_doc.specs.Results.{◌>>=◌}
use Rattle.pd_doc.specs.Kinds.{kind_of, word_kind}
use Rattle.pd_doc.specs.States.{Level, State, page_of_level, wired, sorted_wires, with_boxes, with_last, in_last, last_of, is_array}
use Rattle.pd_doc.specs.Records.{makes_canvas, form_of, row, row_of, row_behind, values_of}
use Rattle.pd_doc.specs.Reading.{any_record, run}
use Rattle.pd_doc.specs.Writing.{atom_piece, atom_pieces, word_of, width_pieces, element_row, tail_row as tail_line, kept_row, connect_row, coords_row}
use Rattle.pd_doc.proofs.RunLemmas.{run-record}
use Rattle.pd_doc.proofs.Known.{Known, short_pieces, atoms_back}
use Rattle.pd_doc.proofs.RecordLaws.{At, read_row, kept_back, coords_back, connect_back}
use Rattle.pd_doc.proofs.ElementLaws.{Plain, fresh, alone, With, word_row, closing_with, room_back, text_back, width_back, few_pieces, position_back, short_row}
use Rattle.pd_doc.proofs.NameLaws.{not_pd, listbox_back, row_numbers}

-- ---- from one state to another by rows

abbrev pub Reaches : Names → State → List (List Piece) → State → Type 0
Reaches names s rows t = (n : ℕ) (more : List (List Piece)) → (m : ℕ) × (run (s, names) n (rows ++ more) ≡ run (t, names) m more)

pub one : (names : Names) (s t : State) (r : List Piece) → ((n : ℕ) → any_record (s, names) n r ≡ Ok (t, names)) → Reaches names s (r ∷ []) t
one names s t r h n more =
    (n + 1, run-record (s, names) n r more ∙ ap (λ x. x >>= (λ u. run u (n + 1) more)) (h (n + 1)))

pub chain : (names : Names) (s t u : State) (a b : List (List Piece)) → Reaches names s a t → Reaches names t b u → Reaches names s (a ++ b) u
chain names s t u a b f g n more =
    let p = f n (b ++ more) in
    let q = g p.0 more in
    (q.0, ap (run (s, names) n) (append_assoc a b more) ∙ p.1 ∙ q.1)

pub none : (names : Names) (s : State) → Reaches names s [] s
none names s n more = (n, refl)

-- a canvas by its parts
abbrev pub Lv : ℕ → List Atom → List (List Atom) → List Entry → List Wire → List (List Atom) → Level
Lv n h kp b ws cs = record { number = n; header = h; kept = kp; boxes = b; wires = ws; coords = cs }

pub kept_all : (names : Names) → Known names → (rows : List (List Atom)) (n : ℕ) (h : List Atom) (kp : List (List Atom)) (b : List Entry) (ws : List Wire) (cs : List (List Atom)) (ls : List Level) (k w : ℕ) →
    AllByRecursion (IsKept names) rows → Reaches names (At (Lv n h kp b ws cs) ls k w) (map (kept_row names) rows) (At (Lv n h (kp ++ rows) b ws cs) ls k w)
kept_all names kn [] n h kp b ws cs ls k w g =
    subst (λ x. Reaches names (At (Lv n h kp b ws cs) ls k w) [] (At (Lv n h x b ws cs) ls k w)) (sym (append-nil kp)) (none names (At (Lv n h kp b ws cs) ls k w))
kept_all names kn (r ∷ rows) n h kp b ws cs ls k w g =
    let first = one names (At (Lv n h kp b ws cs) ls k w) (At (Lv n h (kp ++ r ∷ []) b ws cs) ls k w) (kept_row names r)
    (λ m. kept_back names kn (Lv n h kp b ws cs) ls k w m r g.0) in
    let rest = kept_all names kn rows n h (kp ++ r ∷ []) b ws cs ls k w g.1 in
    subst (λ x. Reaches names (At (Lv n h kp b ws cs) ls k w) (kept_row names r ∷ map (kept_row names) rows) (At (Lv n h x b ws cs) ls k w)) (append_assoc kp (r ∷ []) rows)
    (chain names (At (Lv n h kp b ws cs) ls k w) (At (Lv n h (kp ++ r ∷ []) b ws cs) ls k w) (At (Lv n h ((kp ++ r ∷ []) ++ rows) b ws cs) ls k w)
    (kept_row names r ∷ []) (map (kept_row names) rows) first rest)

pub coords_all : (names : Names) → Known names → (rows : List (List Atom)) (n : ℕ) (h : List Atom) (kp : List (List Atom)) (b : List Entry) (ws : List Wire) (cs : List (List Atom)) (ls : List Level) (k w : ℕ) →
    AllByRecursion (IsText names) rows → Reaches names (At (Lv n h kp b ws cs) ls k w) (map (coords_row names) rows) (At (Lv n h kp b ws (cs ++ rows)) ls k w)
coords_all names kn [] n h kp b ws cs ls k w g =
    subst (λ x. Reaches names (At (Lv n h kp b ws cs) ls k w) [] (At (Lv n h kp b ws x) ls k w)) (sym (append-nil cs)) (none names (At (Lv n h kp b ws cs) ls k w))
coords_all names kn (r ∷ rows) n h kp b ws cs ls k w g =
    let first = one names (At (Lv n h kp b ws cs) ls k w) (At (Lv n h kp b ws (cs ++ r ∷ [])) ls k w) (coords_row names r)
    (λ m. coords_back names kn (Lv n h kp b ws cs) ls k w m r g.0) in
    let rest = coords_all names kn rows n h kp b ws (cs ++ r ∷ []) ls k w g.1 in
    subst (λ x. Reaches names (At (Lv n h kp b ws cs) ls k w) (coords_row names r ∷ map (coords_row names) rows) (At (Lv n h kp b ws x) ls k w)) (append_assoc cs (r ∷ []) rows)
    (chain names (At (Lv n h kp b ws cs) ls k w) (At (Lv n h kp b ws (cs ++ r ∷ [])) ls k w) (At (Lv n h kp b ws ((cs ++ r ∷ []) ++ rows)) ls k w)
    (coords_row names r ∷ []) (map (coords_row names) rows) first rest)

pub wires_all : (names : Names) → Known names → (xs : List Wire) (n : ℕ) (h : List Atom) (kp : List (List Atom)) (b : List Entry) (ws : List Wire) (cs : List (List Atom)) (ls : List Level) (k w : ℕ) →
    AllByRecursion IsSmall xs → w + length xs ≤ 65536 →
    Reaches names (At (Lv n h kp b ws cs) ls k w) (map (connect_row names) xs) (At (Lv n h kp b (ws ++ xs) cs) ls k (w + length xs))
wires_all names kn [] n h kp b ws cs ls k w g d =
    let e : w ≡ w + length {A = Wire} [] = omega arith in
    subst (λ x. Reaches names (At (Lv n h kp b ws cs) ls k w) [] (At (Lv n h kp b x cs) ls k (w + length {A = Wire} []))) (sym (append-nil ws))
    (subst (λ x. Reaches names (At (Lv n h kp b ws cs) ls k w) [] (At (Lv n h kp b ws cs) ls k x)) e (none names (At (Lv n h kp b ws cs) ls k w)))
wires_all names kn (r ∷ xs) n h kp b ws cs ls k w g d =
    let first = one names (At (Lv n h kp b ws cs) ls k w) (At (Lv n h kp b (ws ++ r ∷ []) cs) ls k (w + 1)) (connect_row names r)
    (λ m. connect_back names kn (Lv n h kp b ws cs) ls k w m r g.0 (omega arith)) in
    let rest = wires_all names kn xs n h kp b (ws ++ r ∷ []) cs ls k (w + 1) g.1 (omega arith) in
    let all = chain names (At (Lv n h kp b ws cs) ls k w) (At (Lv n h kp b (ws ++ r ∷ []) cs) ls k (w + 1)) (At (Lv n h kp b ((ws ++ r ∷ []) ++ xs) cs) ls k (w + 1 + length xs))
    (connect_row names r ∷ []) (map (connect_row names) xs) first rest in
    let e : w + 1 + length xs ≡ w + length (r ∷ xs) = omega arith in
    subst (λ x. Reaches names (At (Lv n h kp b ws cs) ls k w) (connect_row names r ∷ map (connect_row names) xs) (At (Lv n h kp b x cs) ls k (w + length (r ∷ xs)))) (append_assoc ws (r ∷ []) xs)
    (subst (λ x. Reaches names (At (Lv n h kp b ws cs) ls k w) (connect_row names r ∷ map (connect_row names) xs) (At (Lv n h kp b ((ws ++ r ∷ []) ++ xs) cs) ls k x)) e all)

-- ---- rows behind the last element

last_pushed : (es : List Entry) (e : Entry) → last_of (es ++ e ∷ []) ≡ Some e
last_pushed [] e = refl
last_pushed (f ∷ []) e = refl
last_pushed (f ∷ g ∷ es) e = last_pushed (g ∷ es) e

in_last_pushed : (es : List Entry) (e f : Entry) → in_last f (es ++ e ∷ []) ≡ es ++ f ∷ []
in_last_pushed [] e f = refl
in_last_pushed (g ∷ []) e f = refl
in_last_pushed (g ∷ h ∷ es) e f = ap (λ l. g ∷ l) (in_last_pushed (h ∷ es) e f)

-- the state in which e is the last element
abbrev pub Last : Level → List Entry → Entry → List Level → ℕ → ℕ → State
Last l es e ls k w = At (with_boxes (es ++ e ∷ []) l) ls k w

pub row_last : (names : Names) (l : Level) (es : List Entry) (e f : Entry) (ls : List Level) (k w n : ℕ) (ps : List Piece) → row_of e names n ps ≡ Ok (f, names) →
    row (Last l es e ls k w) names n ps ≡ Ok (Last l es f ls k w, names)
unfolding row
row_last names l es e f ls k w n ps h =
    ap (λ o. row_behind o (Last l es e ls k w) names n ps) (last_pushed es e)
    ∙ ap (λ r. r >>= (λ x. Ok (with_last x.0 (Last l es e ls k w), x.1))) h
    ∙ ap (λ b. Ok (At (with_boxes b l) ls k w, names)) (in_last_pushed es e f)

tail_kind : (names : Names) (r : List Atom) → kind_of (tail_line names r) ≡ kind.Row
unfolding kind_of
tail_kind names r = refl

-- an element with further tail rows
abbrev pub with_tail : List (List Atom) → Entry → Entry
with_tail rows e = record { head = record { x = e.head.x; y = e.head.y; form = e.head.form; text = e.head.text; width = e.head.width; tail = e.head.tail ++ rows }; page = e.page }

values_none : (s : Shape) (ps : List Piece) → (is_array s ≡ true → (numbers_of ps ≡ None) ⊎ (numbers_of ps ≡ Some [])) → (values_of s ps ≡ None) ⊎ (values_of s ps ≡ Some [])
values_none (Array vs) ps h = h refl
values_none Obj ps h = inl refl
values_none Msg ps h = inl refl
values_none Comment ps h = inl refl
values_none FloatBox ps h = inl refl
values_none SymbolBox ps h = inl refl
values_none Sub ps h = inl refl
values_none (Other s) ps h = inl refl

row_kept : (names : Names) → Known names → (e : Entry) (n : ℕ) (r : List Atom) → AreReady names r →
    (values_of e.head.form (atom_pieces names r) ≡ None) ⊎ (values_of e.head.form (atom_pieces names r) ≡ Some []) →
    row_of e names n (atom_pieces names r) ≡ Ok (with_tail (r ∷ []) e, names)
unfolding row_of
row_kept names kn e n r g (inl h) = let a = atoms_back names kn n r g in rw (h, a) refl
row_kept names kn e n r g (inr h) = let a = atoms_back names kn n r g in rw (h, a) refl

-- no row would be read as the values of an array
abbrev pub NoValues : Shape → List (List Atom) → Type 0
NoValues s rows = is_array s ≡ true → AllByRecursion (λ r. is_number_row r ≡ false) rows

pub tails_all : (names : Names) → Known names → (rows : List (List Atom)) (l : Level) (es : List Entry) (e : Entry) (ls : List Level) (k w : ℕ) →
    AllByRecursion (AreReady names) rows → NoValues e.head.form rows → Reaches names (Last l es e ls k w) (map (tail_line names) rows) (Last l es (with_tail rows e) ls k w)
tails_all names kn [] l es e ls k w g h =
    subst (λ x. Reaches names (Last l es e ls k w) [] (Last l es (record { head = record { x = e.head.x; y = e.head.y; form = e.head.form; text = e.head.text; width = e.head.width; tail = x }; page = e.page }) ls k w))
    (sym (append-nil e.head.tail)) (none names (Last l es e ls k w))
tails_all names kn (r ∷ rows) l es e ls k w g h =
    let next = with_tail (r ∷ []) e in
    let v = values_none e.head.form (atom_pieces names r) (λ a. row_numbers names kn r g.0 (h a).0) in
    let first = one names (Last l es e ls k w) (Last l es next ls k w) (tail_line names r)
    (λ m. read_row (Last l es e ls k w) names m (Word (codes "#A")) (atom_pieces names r) kind.Row (short_pieces names kn r g.0) (tail_kind names r)
    ∙ row_last names l es e next ls k w m (atom_pieces names r) (row_kept names kn e m r g.0 v)) in
    let rest = tails_all names kn rows l es next ls k w g.1 (λ a. (h a).1) in
    subst (λ x. Reaches names (Last l es e ls k w) (tail_line names r ∷ map (tail_line names) rows) (Last l es (record { head = record { x = e.head.x; y = e.head.y; form = e.head.form; text = e.head.text; width = e.head.width; tail = x }; page = e.page }) ls k w))
    (append_assoc e.head.tail (r ∷ []) rows)
    (chain names (Last l es e ls k w) (Last l es next ls k w) (Last l es (with_tail rows next) ls k w) (tail_line names r ∷ []) (map (tail_line names) rows) first rest)

-- ---- wires in their order

all_at : (P : Wire → Type 0) (a : List Wire) (w : Wire) (ws : List Wire) → AllByRecursion P (a ++ w ∷ ws) → P w
all_at P [] w ws h = h.0
all_at P (x ∷ a) w ws h = all_at P a w ws h.1

wire_last : (w : Wire) (done : List Wire) (ws : List Wire) → AreSorted (done ++ w ∷ ws) → with_wire w done ≡ done ++ w ∷ []
wire_last w [] ws h = refl
wire_last w (v ∷ done) ws h =
    let e : precedes w v ≡ false = all_at (λ x. precedes x v ≡ false) done w ws h.0 in
    rw e (ap (λ l. v ∷ l) (wire_last w done ws h.1))

wired_sorted : (done ws : List Wire) → AreSorted (done ++ ws) → wired done ws ≡ done ++ ws
wired_sorted done [] h = sym (append-nil done)
wired_sorted done (w ∷ ws) h =
    ap (λ x. wired x ws) (wire_last w done ws h)
    ∙ wired_sorted (done ++ w ∷ []) ws (subst AreSorted (sym (append_assoc done (w ∷ []) ws)) h) ∙ append_assoc done (w ∷ []) ws

boxed_listed : (b : Boxes) → boxed (listed b) ≡ b
boxed_listed End = refl
boxed_listed (Box h f inner rest) = ap (λ x. Box h f inner x) (boxed_listed rest)

-- the canvas that its parts make
pub closed_page : (n : ℕ) (f : Frame) (b : Boxes) → AreSorted f.wires → page_of_level (Lv n f.header f.kept (listed b) f.wires f.coords) ≡ page_of f b
closed_page n f b s =
    ap (λ x. record { header = f.header; kept = f.kept; boxes = x; wires = sorted_wires f.wires; coords = f.coords }) (boxed_listed b)
    ∙ ap (λ x. record { header = f.header; kept = f.kept; boxes = b; wires = x; coords = f.coords }) (wired_sorted [] f.wires s)

-- ---- elements that hold no canvas

-- what an element's record has behind its word
abbrev pub body : Names → Head → List Piece
body names h = atom_piece names (Number h.x) ∷ atom_piece names (Number h.y) ∷ (atom_pieces names h.text ++ width_pieces names h.width)

head_plain : (names : Names) (h : Head) → IsHead names h → Plain names h
head_plain names h g = record { x = g.x; y = g.y; text = g.text; width = g.width }

-- an element without its tail rows is read
abbrev Own : Names → Head → Level → List Level → ℕ → ℕ → List (List Piece) → Page → Type 0
Own names h l ls k w rows page = Reaches names (At l ls k w) rows (With l ls k w (record { head = fresh h; page = page }))

-- the element row of a word
own_word : (names : Names) → Known names → (wd : BoxWord) (ws : List ℕ) (h : Head) (l : Level) (ls : List Level) (k w : ℕ) → IsHead names h → k < 16384 →
    word_of names h.form ≡ ws → is_long (Word ws) ≡ false → kind_of (Word (codes "#X") ∷ Word ws ∷ body names h) ≡ kind.Plain wd →
    makes_canvas wd (atom_pieces names h.text) ≡ false → ((n : ℕ) → form_of wd n names ≡ Ok (h.form, names)) →
    Own names h l ls k w (element_row names h ∷ []) empty_page
own_word names kn wd ws h l ls k w g d e q c m f =
    one names (At l ls k w) (With l ls k w (alone (fresh h))) (element_row names h) (λ n.
    ap (λ x. any_record (At l ls k w, names) n (Word (codes "#X") ∷ Word x ∷ body names h)) e
    ∙ word_row names kn wd ws h l ls k w n (head_plain names h g) d q c m (f n))

plain_form : (names : Names) (wd : BoxWord) (n : ℕ) (s form : Shape) → s ≡ form → form_of wd n names ≡ Ok (form, names) → form_of wd n names ≡ Ok (s, names)
plain_form names wd n s form e h = h ∙ ap (λ x. Ok (x, names)) (sym e)

obj_form : (n : ℕ) (names : Names) → form_of word.Obj n names ≡ Ok (Obj, names)
unfolding form_of
obj_form n names = refl

msg_form : (n : ℕ) (names : Names) → form_of word.Msg n names ≡ Ok (Msg, names)
unfolding form_of
msg_form n names = refl

text_form : (n : ℕ) (names : Names) → form_of word.Text n names ≡ Ok (Comment, names)
unfolding form_of
text_form n names = refl

float_form : (n : ℕ) (names : Names) → form_of word.FloatAtom n names ≡ Ok (FloatBox, names)
unfolding form_of
float_form n names = refl

symbol_form : (n : ℕ) (names : Names) → form_of word.SymbolAtom n names ≡ Ok (SymbolBox, names)
unfolding form_of
symbol_form n names = refl

word_kind_is : (ws : List ℕ) (rest : List Piece) (wd : BoxWord) → is_long (Word ws) ≡ false → word_kind (unescaped ws) ≡ kind.Plain wd →
    kind_of (Word (codes "#X") ∷ Word ws ∷ rest) ≡ kind.Plain wd
unfolding kind_of
word_kind_is ws rest wd q e = rw q e

pub own_obj : (names : Names) → Known names → (h : Head) (l : Level) (ls : List Level) (k w : ℕ) → IsHead names h → k < 16384 → h.form ≡ Obj → begins_with_pd h.text ≡ false →
    Own names h l ls k w (element_row names h ∷ []) empty_page
own_obj names kn h l ls k w g d e b =
    own_word names kn word.Obj (codes "obj") h l ls k w g d (ap (word_of names) e) refl (word_kind_is (codes "obj") (body names h) word.Obj refl refl)
    (not_pd names kn h.text g.text.0 b) (λ n. plain_form names word.Obj n h.form Obj e (obj_form n names))

pub own_msg : (names : Names) → Known names → (h : Head) (l : Level) (ls : List Level) (k w : ℕ) → IsHead names h → k < 16384 → h.form ≡ Msg →
    Own names h l ls k w (element_row names h ∷ []) empty_page
own_msg names kn h l ls k w g d e =
    own_word names kn word.Msg (codes "msg") h l ls k w g d (ap (word_of names) e) refl (word_kind_is (codes "msg") (body names h) word.Msg refl refl)
    refl (λ n. plain_form names word.Msg n h.form Msg e (msg_form n names))

pub own_text : (names : Names) → Known names → (h : Head) (l : Level) (ls : List Level) (k w : ℕ) → IsHead names h → k < 16384 → h.form ≡ Comment →
    Own names h l ls k w (element_row names h ∷ []) empty_page
own_text names kn h l ls k w g d e =
    own_word names kn word.Text (codes "text") h l ls k w g d (ap (word_of names) e) refl (word_kind_is (codes "text") (body names h) word.Text refl refl)
    refl (λ n. plain_form names word.Text n h.form Comment e (text_form n names))

pub own_float : (names : Names) → Known names → (h : Head) (l : Level) (ls : List Level) (k w : ℕ) → IsHead names h → k < 16384 → h.form ≡ FloatBox →
    Own names h l ls k w (element_row names h ∷ []) empty_page
own_float names kn h l ls k w g d e =
    own_word names kn word.FloatAtom (codes "floatatom") h l ls k w g d (ap (word_of names) e) refl (word_kind_is (codes "floatatom") (body names h) word.FloatAtom refl refl)
    refl (λ n. plain_form names word.FloatAtom n h.form FloatBox e (float_form n names))

pub own_symbol : (names : Names) → Known names → (h : Head) (l : Level) (ls : List Level) (k w : ℕ) → IsHead names h → k < 16384 → h.form ≡ SymbolBox →
    Own names h l ls k w (element_row names h ∷ []) empty_page
own_symbol names kn h l ls k w g d e =
    own_word names kn word.SymbolAtom (codes "symbolatom") h l ls k w g d (ap (word_of names) e) refl (word_kind_is (codes "symbolatom") (body names h) word.SymbolAtom refl refl)
    refl (λ n. plain_form names word.SymbolAtom n h.form SymbolBox e (symbol_form n names))

pub own_other : (names : Names) → Known names → (h : Head) (s : ℕ) (l : Level) (ls : List Level) (k w : ℕ) → IsHead names h → k < 16384 → h.form ≡ Other s →
    s < length names → name_of names s ≡ codes "listbox" → Own names h l ls k w (element_row names h ∷ []) empty_page
own_other names kn h s l ls k w g d e below name =
    own_word names kn word.ListBox (codes "listbox") h l ls k w g d (ap (word_of names) e ∙ ap escaped name) refl (word_kind_is (codes "listbox") (body names h) word.ListBox refl refl)
    refl (λ n. plain_form names word.ListBox n h.form (Other s) e (listbox_back names kn n s below name))

-- ---- subpatches

restore_kind : (rest : List Piece) → kind_of (Word (codes "#X") ∷ Word (codes "restore") ∷ rest) ≡ kind.Restore
unfolding kind_of
restore_kind rest = refl

pub own_sub : (names : Names) → Known names → (h : Head) (inner l : Level) (ls : List Level) (k w : ℕ) → IsHead names h → k < 16384 → h.form ≡ Sub →
    Reaches names (At inner (l ∷ ls) k w) (element_row names h ∷ []) (With l ls k w (record { head = fresh h; page = page_of_level inner }))
own_sub names kn h inner l ls k w g d e =
    let p = head_plain names h g in
    let tw = atom_pieces names h.text ++ width_pieces names h.width in
    let two : ltb (length (inner ∷ l ∷ ls)) 2 ≡ false = grind (arith, nat_tests) in
    one names (At inner (l ∷ ls) k w) (With l ls k w (record { head = fresh h; page = page_of_level inner })) (element_row names h) (λ n.
    ap (λ x. any_record (At inner (l ∷ ls) k w, names) n (Word (codes "#X") ∷ Word (word_of names x) ∷ body names h)) e
    ∙ read_row (At inner (l ∷ ls) k w) names n (Word (codes "#X")) (Word (codes "restore") ∷ body names h) kind.Restore
    (short_row names kn h.x h.y h.text h.width p.x p.y p.text.0 p.width) (restore_kind (body names h))
    ∙ closing_with (At inner (l ∷ ls) k w) names n (atom_piece names (Number h.x)) (atom_piece names (Number h.y)) tw
    (atom_pieces names h.text) h.width (h.x, h.y) h.text
    (text_back names kn h.text h.width p.width) (width_back names kn h.text h.width p.width) (few_pieces names h.text p.text.1)
    (position_back names kn n h.x h.y tw p.x p.y) two (room_back inner (l ∷ ls) k w n d) (atoms_back names kn n h.text p.text.0)
    ∙ ap (λ x. Ok (With l ls k w (record { head = record { x = h.x; y = h.y; form = x; text = h.text; width = h.width; tail = [] }; page = page_of_level inner }), names)) (sym e))
