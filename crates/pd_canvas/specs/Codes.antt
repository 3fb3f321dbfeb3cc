-- How pages are stored: their boxes as the list of their heads and frames, with a mark where a list of boxes ends.
use Rattle.std.specs.Prelude.{ℕ, ℤ, zero, suc, Bool, true, false, ◌≡◌, ◌⊎◌, List, [], ◌∷◌, ◌++◌, Option, Some, None}
use Rattle.std.specs.Coded.{Coded, code_by, coded×, coded⊎, coded_list, coded_option, coded_ℕ, coded_ℤ, coded_bool}
use Rattle.std.proofs.Common.{refl, ap, sym, ◌∙◌, inl, inr, append_assoc}
use Rattle.std.proofs.lemmas.List.{append-nil}
use Rattle.pd_atom.specs.declared.Atom.{Atom}
use Rattle.pd_atom.specs.declared.Atom.TheVariants.{Number, Symbol, Dollar, DollarSymbol, Comma, Semi}
use Rattle.pd_canvas.specs.declared.wires.Wire.{Wire}
use Rattle.pd_canvas.specs.Pages.{Shape, Obj, Msg, Comment, FloatBox, SymbolBox, Sub, Array, Other, Head, Frame, Boxes, End, Box, Page}

abbrev pub AtomParts : Type 0
AtomParts = ℤ ⊎ (ℕ ⊎ (ℕ ⊎ (ℕ ⊎ Bool)))

abbrev pub atom_parts : Atom → AtomParts
atom_parts (Number z) = inl z
atom_parts (Symbol s) = inr (inl s)
atom_parts (Dollar n) = inr (inr (inl n))
atom_parts (DollarSymbol s) = inr (inr (inr (inl s)))
atom_parts Comma = inr (inr (inr (inr true)))
atom_parts Semi = inr (inr (inr (inr false)))

abbrev pub atom_from : AtomParts → Atom
atom_from (inl z) = Number z
atom_from (inr (inl s)) = Symbol s
atom_from (inr (inr (inl n))) = Dollar n
atom_from (inr (inr (inr (inl s)))) = DollarSymbol s
atom_from (inr (inr (inr (inr true)))) = Comma
atom_from (inr (inr (inr (inr false)))) = Semi

pub atom_back : (a : Atom) → atom_from (atom_parts a) ≡ a
atom_back (Number z) = refl
atom_back (Symbol s) = refl
atom_back (Dollar n) = refl
atom_back (DollarSymbol s) = refl
atom_back Comma = refl
atom_back Semi = refl

abbrev pub atom_code : Coded Atom
atom_code = code_by AtomParts (coded⊎ coded_ℤ (coded⊎ coded_ℕ (coded⊎ coded_ℕ (coded⊎ coded_ℕ coded_bool)))) atom_parts atom_from atom_back

abbrev pub wire_code : Coded Wire
wire_code = code_by (ℕ × (ℕ × (ℕ × ℕ))) (coded× coded_ℕ (coded× coded_ℕ (coded× coded_ℕ coded_ℕ)))
    (λ w. (w.source, (w.outlet, (w.sink, w.inlet)))) (λ p. record { source = p.0; outlet = p.1.0; sink = p.1.1.0; inlet = p.1.1.1 }) (λ _. refl)

-- a shape is stored as its number among those that hold nothing, or as what it holds
abbrev pub shape_parts : Shape → ℕ ⊎ (List ℤ ⊎ ℕ)
shape_parts Obj = inl 0
shape_parts Msg = inl 1
shape_parts Comment = inl 2
shape_parts FloatBox = inl 3
shape_parts SymbolBox = inl 4
shape_parts Sub = inl 5
shape_parts (Array vs) = inr (inl vs)
shape_parts (Other s) = inr (inr s)

abbrev pub plain_shape : ℕ → Shape
plain_shape zero = Obj
plain_shape (suc zero) = Msg
plain_shape (suc (suc zero)) = Comment
plain_shape (suc (suc (suc zero))) = FloatBox
plain_shape (suc (suc (suc (suc zero)))) = SymbolBox
plain_shape (suc (suc (suc (suc (suc n))))) = Sub

abbrev pub shape_from : ℕ ⊎ (List ℤ ⊎ ℕ) → Shape
shape_from (inl n) = plain_shape n
shape_from (inr (inl vs)) = Array vs
shape_from (inr (inr s)) = Other s

pub shape_back : (s : Shape) → shape_from (shape_parts s) ≡ s
shape_back Obj = refl
shape_back Msg = refl
shape_back Comment = refl
shape_back FloatBox = refl
shape_back SymbolBox = refl
shape_back Sub = refl
shape_back (Array vs) = refl
shape_back (Other s) = refl

abbrev pub shape_code : Coded Shape
shape_code = code_by (ℕ ⊎ (List ℤ ⊎ ℕ)) (coded⊎ coded_ℕ (coded⊎ (coded_list coded_ℤ) coded_ℕ)) shape_parts shape_from shape_back

abbrev pub atoms_code : Coded (List Atom)
atoms_code = coded_list atom_code

abbrev pub head_code : Coded Head
head_code = code_by (ℤ × (ℤ × (Shape × (List Atom × (Option ℤ × List (List Atom))))))
    (coded× coded_ℤ (coded× coded_ℤ (coded× shape_code (coded× atoms_code (coded× (coded_option coded_ℤ) (coded_list atoms_code))))))
    (λ h. (h.x, (h.y, (h.form, (h.text, (h.width, h.tail))))))
    (λ p. record { x = p.0; y = p.1.0; form = p.1.1.0; text = p.1.1.1.0; width = p.1.1.1.1.0; tail = p.1.1.1.1.1 })
    (λ _. refl)

abbrev pub frame_code : Coded Frame
frame_code = code_by (List Atom × (List (List Atom) × (List Wire × List (List Atom))))
    (coded× atoms_code (coded× (coded_list atoms_code) (coded× (coded_list wire_code) (coded_list atoms_code))))
    (λ f. (f.header, (f.kept, (f.wires, f.coords)))) (λ p. record { header = p.0; kept = p.1.0; wires = p.1.1.0; coords = p.1.1.1 }) (λ _. refl)

-- a box, or the end of a list of boxes
abbrev pub Mark : Type 0
Mark = Option (Head × Frame)

abbrev pub marks : Boxes → List Mark
marks End = None ∷ []
marks (Box h f inner rest) = Some (h, f) ∷ (marks inner ++ marks rest)

-- the last two lists of boxes, under a new first box
abbrev pub joined : Mark → List Boxes → List Boxes
joined None bs = End ∷ bs
joined (Some m) [] = []
joined (Some m) (b ∷ []) = []
joined (Some m) (inner ∷ (rest ∷ bs)) = Box m.0 m.1 inner rest ∷ bs

abbrev pub read_marks : List Mark → List Boxes
read_marks [] = []
read_marks (m ∷ ms) = joined m (read_marks ms)

abbrev pub first_boxes : List Boxes → Boxes
first_boxes [] = End
first_boxes (b ∷ bs) = b

pub read_marks-marks : (b : Boxes) (ms : List Mark) → read_marks (marks b ++ ms) ≡ b ∷ read_marks ms
read_marks-marks End ms = refl
read_marks-marks (Box h f inner rest) ms =
    let mark : Mark = Some (h, f) in
    ap (λ l. joined mark (read_marks l)) (append_assoc (marks inner) (marks rest) ms)
    ∙ (ap (joined mark) (read_marks-marks inner (marks rest ++ ms))
    ∙ ap (λ l. joined mark (inner ∷ l)) (read_marks-marks rest ms))

pub boxes_back : (b : Boxes) → first_boxes (read_marks (marks b)) ≡ b
boxes_back b = ap (λ l. first_boxes (read_marks l)) (sym (append-nil (marks b))) ∙ ap first_boxes (read_marks-marks b [])

abbrev pub boxes_code : Coded Boxes
boxes_code = code_by (List Mark) (coded_list (coded_option (coded× head_code frame_code))) marks (λ ms. first_boxes (read_marks ms)) boxes_back

abbrev pub page_code : Coded Page
page_code = code_by (Frame × Boxes) (coded× frame_code boxes_code)
    (λ p. (record { header = p.header; kept = p.kept; wires = p.wires; coords = p.coords }, p.boxes))
    (λ q. record { header = q.0.header; kept = q.0.kept; boxes = q.1; wires = q.0.wires; coords = q.0.coords })
    (λ _. refl)
