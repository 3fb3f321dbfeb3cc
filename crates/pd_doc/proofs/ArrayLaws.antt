-- Arrays that are written are read with their values.
use Rattle.std.proofs.Common.{◌≡◌, ℕ, zero, suc, ◌+◌, ◌*◌, ◌/◌, ◌<◌, ◌≤◌, Bool, true, false, List, [], ◌∷◌, ◌++◌, length, map, take, drop, refl, sym, ap, ◌∙◌, subst, arith, ltb, Option, Some, None, Ok, Err, length-append, length-drop, length-take, append_assoc, replicate}
use Rattle.std.specs.Prelude.{ℤ, pos, codes, if◌then◌else◌, ok_or, option_map}
use Rattle.std.specs.List.{AllByRecursion}
use Rattle.std.proofs.lemmas.Bool.Decides.{nat_tests}
use Rattle.std.proofs.lemmas.List.{take_all, take-append-drop}
use Rattle.std.proofs.Math.Seq.{drop-append_seam, take-append_seam}
use Rattle.pd_num.specs.Scale.{millionths, IsInRange}
use Rattle.pd_lex.specs.Text.{Piece}
use Rattle.pd_lex.specs.Text.Piece.{Word}
use Rattle.pd_atom.specs.Names.{Names}
use Rattle.pd_atom.specs.declared.Atom.{Atom}
use Rattle.pd_atom.specs.declared.Atom.TheVariants.{Number, Symbol, Dollar, DollarSymbol, Semi}
use Rattle.pd_atom.specs.declared.Atom.TheVariants as atom
use Rattle.pd_canvas.specs.Pages.{Shape, Array, Head, Entry, empty_page}
use Rattle.pd_canvas.specs.Arrays.{size_of, is_saved, IsArray}
use Rattle.pd_canvas.specs.Proper.{AreReady, IsText, IsHead, IsArrayHead}
use Rattle.pd_doc.specs.declared.refusal.DocRefusal.TheVariants.{BadRecord}
use Rattle.pd_doc.specs.declared.kinds.Kind.TheVariants as kind
use Rattle.pd_doc.specs.Pieces.{numbers_of, number_of}
use Rattle.pd_doc.specs.Kinds.{kind_of}
use Rattle.pd_doc.specs.Fields.{size_in, array_size}
use Rattle.pd_doc.specs.States.{Level, placed, overlaid}
use Rattle.pd_doc.specs.Records.{is_large, zeros, row_of}
use Rattle.pd_doc.specs.Writing.{atom_piece, atom_pieces, whole, array_row, runs, value_rows}
use Rattle.pd_doc.proofs.Known.{Known, number_piece, numbers_piece, short_pieces, short_numbers, atoms_back}
use Rattle.pd_doc.proofs.RecordLaws.{At, read_row, whole_in_range}
use Rattle.pd_doc.proofs.ElementLaws.{fresh, With, array_with, room_back, few_pieces}
use Rattle.pd_doc.proofs.NameLaws.{name_back}
use Rattle.pd_doc.proofs.TreeLaws.{Reaches, one, none, chain, Last, row_last}

-- ---- the array itself

size_back : (names : Names) → Known names → (n : ℕ) (text : List Atom) (vs : List ℤ) → AreReady names text → IsArray text vs →
    (is_large (size_in (atom_pieces names text)) ≡ false) × (array_size n (atom_pieces names text) ≡ Ok (length vs))
size_back names kn n [] vs r h = absurd h
size_back names kn n (a ∷ []) vs r h = absurd h
size_back names kn n (a ∷ Number z ∷ text) vs r h =
    let s : number_of (atom_piece names (Number z)) ≡ Some z = number_piece names kn z (kn.holds (Number z) r.1.0.1) in
    let m = name_back names kn a r.0 h.0 in
    let c : ltb 16777216 (size_of (Number z)) ≡ false = grind (arith, nat_tests, h.2) in (
      ap (λ o. is_large (option_map (λ y. size_of (Number y)) o)) s ∙ c,
      ap (λ b. if b then ok_or (size_in (atom_pieces names (a ∷ Number z ∷ text))) (BadRecord n) else Err (BadRecord n)) m
          ∙ ap (λ o. ok_or (option_map (λ y. size_of (Number y)) o) (BadRecord n)) s ∙ ap (λ x. Ok x) (sym h.3),
    )
size_back names kn n (a ∷ Symbol s ∷ text) vs r h = absurd (let q = h.1 in cc)
size_back names kn n (a ∷ Dollar s ∷ text) vs r h = absurd (let q = h.1 in cc)
size_back names kn n (a ∷ DollarSymbol s ∷ text) vs r h = absurd (let q = h.1 in cc)
size_back names kn n (a ∷ atom.Comma ∷ text) vs r h = absurd (let q = h.1 in cc)
size_back names kn n (a ∷ Semi ∷ text) vs r h = absurd (let q = h.1 in cc)

array_kind : (names : Names) (text : List Atom) → kind_of (array_row names text) ≡ kind.Array
unfolding kind_of
array_kind names text = refl

-- an array with these values
abbrev pub arr : List Atom → List ℤ → Entry
arr text vs = record { head = record { x = pos 0; y = pos 0; form = Array vs; text = text; width = None; tail = [] }; page = empty_page }

array_zeros : (names : Names) → Known names → (text : List Atom) (vs : List ℤ) (l : Level) (ls : List Level) (k w : ℕ) → IsText names text → IsArray text vs → k < 16384 →
    Reaches names (At l ls k w) (array_row names text ∷ []) (With l ls k w (arr text (zeros (length vs))))
array_zeros names kn text vs l ls k w t h d =
    one names (At l ls k w) (With l ls k w (arr text (zeros (length vs)))) (array_row names text) (λ n.
    let s = size_back names kn n text vs t.0 h in
    read_row (At l ls k w) names n (Word (codes "#X")) (Word (codes "array") ∷ atom_pieces names text) kind.Array (short_pieces names kn text t.0) (array_kind names text)
    ∙ array_with (At l ls k w) names n (atom_pieces names text) (length vs) text (few_pieces names text t.1) s.0 s.1 (room_back l ls k w n d) (atoms_back names kn n text t.0))

-- ---- its values

whole_units : (from : ℕ) → from ≤ 16777216 → (m : ℕ) × (whole from ≡ pos m) × (m / 1000000 ≡ from)
whole_units from h = (from * 1000000, ap pos (omega arith), omega arith)

placed_at : (from : ℕ) (run done zs : List ℤ) → from ≤ 16777216 → length done ≡ from → length run ≤ length zs →
    placed (whole from) run (done ++ zs) ≡ (done ++ run) ++ drop (length run) zs
placed_at from run done zs h d e =
    let u = whole_units from h in
    let n : u.0 / 1000000 ≡ length done = u.2 ∙ sym d in
    let a : take (u.0 / 1000000) (done ++ zs) ≡ done = ap (λ i. take i (done ++ zs)) n ∙ take-append_seam done zs in
    let b : drop (u.0 / 1000000) (done ++ zs) ≡ zs = ap (λ i. drop i (done ++ zs)) n ∙ drop-append_seam done zs in
    let c : take (length zs) run ≡ run = take_all (length zs) run e in
    ap (λ z. placed z run (done ++ zs)) u.1
    ∙ ap (λ l. l ++ overlaid run (drop (u.0 / 1000000) (done ++ zs))) a
    ∙ ap (λ l. done ++ overlaid run l) b
    ∙ ap (λ l. done ++ (l ++ drop (length run) zs)) c
    ∙ sym (append_assoc done run (drop (length run) zs))

values_kind : (rest : List Piece) → kind_of (Word (codes "#A") ∷ rest) ≡ kind.Row
unfolding kind_of
values_kind rest = refl

pub all_take : (n : ℕ) (zs : List ℤ) → AllByRecursion (IsInRange millionths) zs → AllByRecursion (IsInRange millionths) (take n zs)
all_take zero zs h = tt
all_take (suc n) [] h = tt
all_take (suc n) (z ∷ zs) h = (h.0, all_take n zs h.1)

pub all_drop : (n : ℕ) (zs : List ℤ) → AllByRecursion (IsInRange millionths) zs → AllByRecursion (IsInRange millionths) (drop n zs)
all_drop zero zs h = h
all_drop (suc n) [] h = tt
all_drop (suc n) (z ∷ zs) h = all_drop n zs h.1

abbrev numbers : Names → ℕ → List ℤ → List Piece
numbers names from run = atom_piece names (Number (whole from)) ∷ map (λ v. atom_piece names (Number v)) run

run_row : (names : Names) → Known names → (n from : ℕ) (run vs : List ℤ) (text : List Atom) → is_saved text ≡ true → AllByRecursion (IsInRange millionths) run →
    row_of (arr text vs) names n (numbers names from run) ≡ Ok (arr text (placed (whole from) run vs), names)
unfolding row_of
run_row names kn n from run vs text s h =
    let a : numbers_of (numbers names from run) ≡ Some (whole from ∷ run) = numbers_piece names kn (whole from ∷ run) (whole_in_range from, h) in
    rw (a, s) refl

run_step : (names : Names) → Known names → (from : ℕ) (run done zs : List ℤ) (text : List Atom) (l : Level) (es : List Entry) (ls : List Level) (k w : ℕ) →
    is_saved text ≡ true → AllByRecursion (IsInRange millionths) run → from ≤ 16777216 → length done ≡ from → length run ≤ length zs →
    Reaches names (Last l es (arr text (done ++ zs)) ls k w) ((Word (codes "#A") ∷ numbers names from run) ∷ []) (Last l es (arr text ((done ++ run) ++ drop (length run) zs)) ls k w)
run_step names kn from run done zs text l es ls k w s h b d e =
    let old = arr text (done ++ zs) in
    let new = arr text ((done ++ run) ++ drop (length run) zs) in
    one names (Last l es old ls k w) (Last l es new ls k w) (Word (codes "#A") ∷ numbers names from run) (λ n.
    read_row (Last l es old ls k w) names n (Word (codes "#A")) (numbers names from run) kind.Row
    (short_numbers names kn (whole from ∷ run) (whole_in_range from, h)) (values_kind (numbers names from run))
    ∙ row_last names l es old new ls k w n (numbers names from run)
    (run_row names kn n from run (done ++ zs) text s h ∙ ap (λ v. Ok (arr text v, names)) (placed_at from run done zs b d e)))

no_values : (vs : List ℤ) → length vs ≡ 0 → vs ≡ []
no_values [] h = refl
no_values (v ∷ vs) h = absurd (omega arith)

length-replicate : (n : ℕ) (z : ℤ) → length (replicate n z) ≡ n
length-replicate zero z = refl
length-replicate (suc n) z = ap suc (length-replicate n z)

runs_all : (names : Names) → Known names → (k' from : ℕ) (vs done zs : List ℤ) (text : List Atom) (l : Level) (es : List Entry) (ls : List Level) (k w : ℕ) →
    is_saved text ≡ true → AllByRecursion (IsInRange millionths) vs → k' ≡ (length vs + 999) / 1000 → length zs ≡ length vs → (0 < length vs → length done ≡ from) →
    (0 < length vs → from + length vs ≤ 16777216) →
    Reaches names (Last l es (arr text (done ++ zs)) ls k w) (runs names k' from vs) (Last l es (arr text (done ++ vs)) ls k w)
runs_all names kn zero from vs done zs text l es ls k w s h c e d b =
    let a : length vs ≡ 0 = omega arith in
    let v = no_values vs a in
    let z = no_values zs (e ∙ a) in
    subst (λ x. Reaches names (Last l es (arr text (done ++ zs)) ls k w) [] (Last l es (arr text (done ++ x)) ls k w)) (z ∙ sym v) (none names (Last l es (arr text (done ++ zs)) ls k w))
runs_all names kn (suc k') from vs done zs text l es ls k w s h c e d b =
    let run = take 1000 vs in
    let some : 0 < length vs = omega arith in
    let len = length-take 1000 vs in
    let left = length-drop 1000 vs in
    let first = run_step names kn from run done zs text l es ls k w s (all_take 1000 vs h) (omega (arith, b some)) (d some) (omega arith) in
    let rest = runs_all names kn k' (from + 1000) (drop 1000 vs) (done ++ run) (drop (length run) zs) text l es ls k w s (all_drop 1000 vs h) (omega arith)
    (omega (arith, length-drop (length run) zs)) (λ x. omega (arith, d some, length-append done run)) (λ x. omega (arith, b some)) in
    let whole_is : (done ++ run) ++ drop 1000 vs ≡ done ++ vs = append_assoc done run (drop 1000 vs) ∙ ap (λ x. done ++ x) (take-append-drop 1000 vs) in
    subst (λ x. Reaches names (Last l es (arr text (done ++ zs)) ls k w) (runs names (suc k') from vs) (Last l es (arr text x) ls k w)) whole_is
    (chain names (Last l es (arr text (done ++ zs)) ls k w) (Last l es (arr text ((done ++ run) ++ drop (length run) zs)) ls k w)
    (Last l es (arr text ((done ++ run) ++ drop 1000 vs)) ls k w)
    ((Word (codes "#A") ∷ numbers names from run) ∷ []) (runs names k' (from + 1000) (drop 1000 vs)) first rest)

-- ---- an array without its tail rows

saved_rows : (names : Names) → Known names → (b : Bool) (text : List Atom) (vs : List ℤ) (l : Level) (es : List Entry) (ls : List Level) (k w : ℕ) → is_saved text ≡ b →
    AllByRecursion (IsInRange millionths) vs → length vs ≤ 16777216 → (b ≡ false → vs ≡ replicate (length vs) (pos 0)) →
    Reaches names (Last l es (arr text (zeros (length vs))) ls k w) (if b then value_rows names vs else []) (Last l es (arr text vs) ls k w)
saved_rows names kn true text vs l es ls k w s h c z =
    runs_all names kn ((length vs + 999) / 1000) 0 vs [] (zeros (length vs)) text l es ls k w s h refl (length-replicate (length vs) (pos 0)) (λ x. refl) (λ x. omega arith)
saved_rows names kn false text vs l es ls k w s h c z =
    subst (λ x. Reaches names (Last l es (arr text (zeros (length vs))) ls k w) [] (Last l es (arr text x) ls k w)) (sym (z refl)) (none names (Last l es (arr text (zeros (length vs))) ls k w))

array_parts : (text : List Atom) (vs : List ℤ) → IsArray text vs → (length vs ≤ 16777216) × (is_saved text ≡ false → vs ≡ replicate (length vs) (pos 0))
array_parts [] vs h = absurd h
array_parts (a ∷ []) vs h = absurd h
array_parts (a ∷ b ∷ text) vs h = (omega (arith, h.2, h.3), h.4)

abbrev head_of : ℤ → ℤ → Shape → List Atom → Option ℤ → Head
head_of x y f text w = record { x = x; y = y; form = f; text = text; width = w; tail = [] }

head_is : (h : Head) (x y : ℤ) (f : Shape) (w : Option ℤ) → h.x ≡ x → h.y ≡ y → h.form ≡ f → h.width ≡ w →
    record { x = x; y = y; form = f; text = h.text; width = w; tail = [] } ≡ fresh h
head_is h x y f w a b c d =
    ap (λ i. head_of i y f h.text w) (sym a) ∙ ap (λ i. head_of h.x i f h.text w) (sym b) ∙ ap (λ i. head_of h.x h.y i h.text w) (sym c) ∙ ap (λ i. head_of h.x h.y h.form h.text i) (sym d)

pub own_array : (names : Names) → Known names → (h : Head) (vs : List ℤ) (l : Level) (ls : List Level) (k w : ℕ) → IsHead names h → k < 16384 → h.form ≡ Array vs → IsArrayHead h vs →
    Reaches names (At l ls k w) (array_row names h.text ∷ (if is_saved h.text then value_rows names vs else [])) (With l ls k w (record { head = fresh h; page = empty_page }))
own_array names kn h vs l ls k w g d e a =
    let p = array_parts h.text vs a.text in
    let first = array_zeros names kn h.text vs l ls k w g.text a.text d in
    let rest = saved_rows names kn (is_saved h.text) h.text vs l l.boxes ls (k + 1) w refl a.numbers p.0 p.1 in
    let made = head_is h (pos 0) (pos 0) (Array vs) None a.x a.y e a.width in
    subst (λ x. Reaches names (At l ls k w) (array_row names h.text ∷ (if is_saved h.text then value_rows names vs else [])) (With l ls k w (record { head = x; page = empty_page }))) made
    (chain names (At l ls k w) (With l ls k w (arr h.text (zeros (length vs)))) (With l ls k w (arr h.text vs))
    (array_row names h.text ∷ []) (if is_saved h.text then value_rows names vs else []) first rest)
