-- How much a tree counts where boxes come into one of its canvases, and that its document is proper.
use Rattle.std.proofs.Common.{◌≡◌, ◌≤◌, ◌+◌, ℕ, List, [], ◌∷◌, length, refl, sym, ap, ◌∙◌, subst, arith}
use Rattle.pd_atom.specs.Names.{Names}
use Rattle.pd_clock.specs.declared.times.Rate.{Rate}
use Rattle.pd_kind.specs.States.{size_of}
use Rattle.pd_canvas.specs.declared.wires.Wire.{Wire}
use Rattle.pd_canvas.specs.Pages as pages
use Rattle.pd_canvas.specs.Pages.{Shape, Sub, Head, Boxes, End, Entry, boxed, frame_of, page_of}
use Rattle.pd_canvas.specs.Proper.{HoldsNone, IsHead, IsFrame, AreBoxes, IsProper, levels, inner_wires}
use Rattle.pd_tree.specs.declared.rows.Sheet.{Sheet}
use Rattle.pd_tree.specs.Trees.{Cell, Trees, Done, Leaf, Holder, Tree, join, weight, frame_in, box_with, document_boxes, document_in}
use Rattle.pd_patch.specs.Sounds.{sound_of}
use Rattle.pd_regrowth_law.specs.Canvases.{Nest, Alone, Inside, nested, AreSubpatches}
use Rattle.pd_putting_law.specs.Puts.{boxes_before, with_before, put_before}
use Rattle.pd_putting_law.proofs.WithinLemmas.{ChangesWithin, parts_at}

-- what is counted box by box is more by what the boxes more count
more_before : (f : Trees → ℕ) → ((t u : Trees) → f (join t u) ≡ f t + f u) → (n : ℕ) (t new : Trees) → f (boxes_before n new t) ≡ f t + f new
more_before f joined n t new =
    let q = parts_at n t in
    sum (f q.before) (f new) (f q.behind) (f (join new q.behind)) (f t) (f (boxes_before n new t)) (joined new q.behind) (ap f q.whole ∙ joined q.before q.behind)
    (ap f (q.more new) ∙ joined q.before (join new q.behind))
  where
    sum : (a n b i t x : ℕ) → i ≡ n + b → t ≡ a + b → x ≡ a + i → x ≡ t + n
    sum a n b i t x h k e = omega (arith, h, k, e)

-- ---- boxes and values

weight_join : (t u : Trees) → weight (join t u) ≡ weight t + weight u
weight_join Done u = omega arith
weight_join (Leaf c t) u = omega (arith, weight_join t u)
weight_join (Holder c s inner t) u = omega (arith, weight_join t u)

sound_join : (rate : Rate) (t u : Trees) → sound_of rate (join t u) ≡ sound_of rate t + sound_of rate u
sound_join rate Done u = omega arith
sound_join rate (Leaf c t) u = sum (size_of c.kind rate) (sound_of rate t) (sound_of rate u) (sound_of rate (join t u)) (sound_join rate t u)
  where
    sum : (a b c x : ℕ) → x ≡ b + c → a + x ≡ (a + b) + c
    sum a b c x h = omega (arith, h)
sound_join rate (Holder c s inner t) u =
    sum (size_of c.kind rate) (sound_of rate inner) (sound_of rate t) (sound_of rate u) (sound_of rate (join t u)) (sound_join rate t u)
  where
    sum : (a i b c x : ℕ) → x ≡ b + c → a + (i + x) ≡ (a + (i + b)) + c
    sum a i b c x h = omega (arith, h)

nest_weight : (nest : Nest) (u : Tree) (n : ℕ) (new : Trees) → weight (nested nest (with_before n new u)).boxes ≡ weight (nested nest u).boxes + weight new
nest_weight Alone u n new = more_before weight weight_join n u.boxes new
nest_weight (Inside sheet before c nest behind) u n new =
    let t = nested nest u in
    let r = nested nest (with_before n new u) in
    sum (weight before) (weight t.boxes) (weight r.boxes) (weight behind) (weight new) (weight (join before (Holder c t.sheet t.boxes behind)))
    (weight (join before (Holder c r.sheet r.boxes behind))) (weight_join before (Holder c t.sheet t.boxes behind)) (weight_join before (Holder c r.sheet r.boxes behind))
    (nest_weight nest u n new)
  where
    sum : (a t r b n x y : ℕ) → x ≡ a + (t + b + 1) → y ≡ a + (r + b + 1) → r ≡ t + n → y ≡ x + n
    sum a t r b n x y h k e = omega (arith, h, k, e)

nest_sound : (rate : Rate) (nest : Nest) (u : Tree) (n : ℕ) (new : Trees) → sound_of rate (nested nest (with_before n new u)).boxes ≡ sound_of rate (nested nest u).boxes + sound_of rate new
nest_sound rate Alone u n new = more_before (sound_of rate) (sound_join rate) n u.boxes new
nest_sound rate (Inside sheet before c nest behind) u n new =
    let t = nested nest u in
    let r = nested nest (with_before n new u) in
    sum (sound_of rate before) (size_of c.kind rate) (sound_of rate t.boxes) (sound_of rate r.boxes) (sound_of rate behind) (sound_of rate new)
    (sound_of rate (join before (Holder c t.sheet t.boxes behind))) (sound_of rate (join before (Holder c r.sheet r.boxes behind)))
    (sound_join rate before (Holder c t.sheet t.boxes behind)) (sound_join rate before (Holder c r.sheet r.boxes behind)) (nest_sound rate nest u n new)
  where
    sum : (a s t r b n x y : ℕ) → x ≡ a + (s + (t + b)) → y ≡ a + (s + (r + b)) → r ≡ t + n → y ≡ x + n
    sum a s t r b n x y h k e = omega (arith, h, k, e)

-- ---- wires of the document

abbrev kept_wires : Shape → Sheet → Boxes → ℕ
kept_wires Sub s inner = length s.wires + inner_wires inner
kept_wires f s inner = 0 + 0

box_wires : (f : Shape) (h : Head) (s : Sheet) (inner rest : Boxes) → inner_wires (box_with f h s inner rest) ≡ kept_wires f s inner + inner_wires rest
box_wires Sub h s inner rest = refl
box_wires f h s inner rest = refl

wires_join : (t u : Trees) → inner_wires (document_boxes (join t u)) ≡ inner_wires (document_boxes t) + inner_wires (document_boxes u)
wires_join Done u = omega arith
wires_join (Leaf c t) u = sum (inner_wires (document_boxes t)) (inner_wires (document_boxes u)) (inner_wires (document_boxes (join t u))) (wires_join t u)
  where
    sum : (b c x : ℕ) → x ≡ b + c → 0 + 0 + x ≡ (0 + 0 + b) + c
    sum b c x h = omega (arith, h)
wires_join (Holder c s inner t) u =
    let f = c.head.form in
    let d = document_boxes inner in
    box_wires f c.head s d (document_boxes (join t u))
    ∙ sum (kept_wires f s d) (inner_wires (document_boxes t)) (inner_wires (document_boxes u)) (inner_wires (document_boxes (join t u))) (wires_join t u)
    ∙ ap (λ (x : ℕ). x + inner_wires (document_boxes u)) (sym (box_wires f c.head s d (document_boxes t)))
  where
    sum : (a b c x : ℕ) → x ≡ b + c → a + x ≡ (a + b) + c
    sum a b c x h = omega (arith, h)

sheet_stays : (nest : Nest) (u : Tree) (n : ℕ) (new : Trees) → (nested nest (with_before n new u)).sheet ≡ (nested nest u).sheet
sheet_stays Alone u n new = refl
sheet_stays (Inside sheet before c nest behind) u n new = refl

sub_wires : (c : Cell) (s : Sheet) (inner rest : Boxes) → c.head.form ≡ Sub → inner_wires (box_with c.head.form c.head s inner rest) ≡ length s.wires + inner_wires inner + inner_wires rest
sub_wires c s inner rest f = box_wires c.head.form c.head s inner rest ∙ ap (λ (y : Shape). kept_wires y s inner + inner_wires rest) f

nest_wires : (nest : Nest) (u : Tree) (n : ℕ) (new : Trees) → AreSubpatches nest
    → inner_wires (document_boxes (nested nest (with_before n new u)).boxes) ≡ inner_wires (document_boxes (nested nest u).boxes) + inner_wires (document_boxes new)
nest_wires Alone u n new f = more_before (λ x. inner_wires (document_boxes x)) wires_join n u.boxes new
nest_wires (Inside sheet before c nest behind) u n new f =
    let t = nested nest u in
    let r = nested nest (with_before n new u) in
    let b = document_boxes behind in
    sum (inner_wires (document_boxes before)) (length t.sheet.wires) (length r.sheet.wires) (inner_wires (document_boxes t.boxes)) (inner_wires (document_boxes r.boxes))
    (inner_wires b) (inner_wires (document_boxes new)) (inner_wires (document_boxes (join before (Holder c t.sheet t.boxes behind))))
    (inner_wires (document_boxes (join before (Holder c r.sheet r.boxes behind))))
    (wires_join before (Holder c t.sheet t.boxes behind) ∙ ap (λ (x : ℕ). inner_wires (document_boxes before) + x) (sub_wires c t.sheet (document_boxes t.boxes) b f.0))
    (wires_join before (Holder c r.sheet r.boxes behind) ∙ ap (λ (x : ℕ). inner_wires (document_boxes before) + x) (sub_wires c r.sheet (document_boxes r.boxes) b f.0))
    (ap (λ (s : Sheet). length s.wires) (sheet_stays nest u n new)) (nest_wires nest u n new f.1)
  where
    sum : (a l m t r b n x y : ℕ) → x ≡ a + (l + t + b) → y ≡ a + (m + r + b) → m ≡ l → r ≡ t + n → y ≡ x + n
    sum a l m t r b n x y h k e f = omega (arith, h, k, e, f)

-- ---- boxes of the document

box_weight : (f : Shape) (h : Head) (s : Sheet) (inner rest : Boxes) (i r : ℕ) → pages.weight inner ≤ i → pages.weight rest ≤ r → pages.weight (box_with f h s inner rest) ≤ i + r + 1
box_weight Sub h s inner rest i r a b = both (pages.weight inner) (pages.weight rest) i r a b
  where
    both : (x y i r : ℕ) → x ≤ i → y ≤ r → x + y + 1 ≤ i + r + 1
    both x y i r a b = omega (arith, a, b)
box_weight f h s inner rest i r a b = one (pages.weight rest) i r b
  where
    one : (y i r : ℕ) → y ≤ r → 0 + y + 1 ≤ i + r + 1
    one y i r b = omega (arith, b)

pub document_weight : (t : Trees) → pages.weight (document_boxes t) ≤ weight t
document_weight Done = omega arith
document_weight (Leaf c t) = one (pages.weight (document_boxes t)) (weight t) (document_weight t)
  where
    one : (y r : ℕ) → y ≤ r → 0 + y + 1 ≤ r + 1
    one y r b = omega (arith, b)
document_weight (Holder c s inner t) =
    box_weight c.head.form c.head s (document_boxes inner) (document_boxes t) (weight inner) (weight t) (document_weight inner) (document_weight t)

-- ---- sound documents

module _ (names : Names) where
  rest_of : (f : Shape) (h : Head) (s : Sheet) (inner rest : Boxes) → AreBoxes names (box_with f h s inner rest) → AreBoxes names rest
  rest_of Sub h s inner rest a = a.4
  rest_of f h s inner rest a = a.4

  with_rest : (f : Shape) (h : Head) (s : Sheet) (inner rest other : Boxes) → AreBoxes names (box_with f h s inner rest) → AreBoxes names other → AreBoxes names (box_with f h s inner other)
  with_rest Sub h s inner rest other a b = (a.0, a.1, a.2, a.3, b)
  with_rest f h s inner rest other a b = (a.0, a.1, a.2, a.3, b)

  are_joined : (t u : Trees) → AreBoxes names (document_boxes t) → AreBoxes names (document_boxes u) → AreBoxes names (document_boxes (join t u))
  are_joined Done u a b = b
  are_joined (Leaf c t) u a b = (a.0, a.1, a.2, a.3, are_joined t u a.4 b)
  are_joined (Holder c s inner t) u a b =
      with_rest c.head.form c.head s (document_boxes inner) (document_boxes t) (document_boxes (join t u)) a
      (are_joined t u (rest_of c.head.form c.head s (document_boxes inner) (document_boxes t) a) b)

  are_first : (t u : Trees) → AreBoxes names (document_boxes (join t u)) → AreBoxes names (document_boxes t)
  are_first Done u a = tt
  are_first (Leaf c t) u a = (a.0, a.1, a.2, a.3, are_first t u a.4)
  are_first (Holder c s inner t) u a =
      with_rest c.head.form c.head s (document_boxes inner) (document_boxes (join t u)) (document_boxes t) a
      (are_first t u (rest_of c.head.form c.head s (document_boxes inner) (document_boxes (join t u)) a))

  are_last : (t u : Trees) → AreBoxes names (document_boxes (join t u)) → AreBoxes names (document_boxes u)
  are_last Done u a = a
  are_last (Leaf c t) u a = are_last t u a.4
  are_last (Holder c s inner t) u a = are_last t u (rest_of c.head.form c.head s (document_boxes inner) (document_boxes (join t u)) a)

  are_before : (n : ℕ) (t new : Trees) → AreBoxes names (document_boxes t) → AreBoxes names (document_boxes new) → AreBoxes names (document_boxes (boxes_before n new t))
  are_before n t new a b =
      let q = parts_at n t in
      let all = subst (λ (x : Trees). AreBoxes names (document_boxes x)) q.whole a in
      subst (λ (x : Trees). AreBoxes names (document_boxes x)) (sym (q.more new))
      (are_joined q.before (join new q.behind) (are_first q.before q.behind all) (are_joined new q.behind b (are_last q.before q.behind all)))

  inner_are : (f : Shape) (h : Head) (s : Sheet) (inner rest : Boxes) → f ≡ Sub → AreBoxes names (box_with f h s inner rest) → AreBoxes names inner
  inner_are f h s inner rest e a = (subst (λ (y : Shape). AreBoxes names (box_with y h s inner rest)) e a).3

  with_inner : (f : Shape) (h : Head) (s : Sheet) (inner other rest : Boxes) → h.form ≡ Sub → AreBoxes names (box_with f h s inner rest) → AreBoxes names other
      → AreBoxes names (box_with f h s other rest)
  with_inner Sub h s inner other rest e a b = (a.0, subst (λ (y : Shape). HoldsNone y (page_of (frame_in s) other)) (sym e) tt, a.2, b, a.4)
  with_inner f h s inner other rest e a b = a

  nest_boxes : (nest : Nest) (u : Tree) (n : ℕ) (new : Trees) → AreSubpatches nest → AreBoxes names (document_boxes (nested nest u).boxes) → AreBoxes names (document_boxes new)
      → AreBoxes names (document_boxes (nested nest (with_before n new u)).boxes)
  nest_boxes Alone u n new f a b = are_before n u.boxes new a b
  nest_boxes (Inside sheet before c nest behind) u n new f a b =
      let t = nested nest u in
      let r = nested nest (with_before n new u) in
      let hold = Holder c t.sheet t.boxes behind in
      let here : AreBoxes names (box_with c.head.form c.head t.sheet (document_boxes t.boxes) (document_boxes behind)) = are_last before hold a in
      let inner : AreBoxes names (document_boxes r.boxes) =
      nest_boxes nest u n new f.1 (inner_are c.head.form c.head t.sheet (document_boxes t.boxes) (document_boxes behind) f.0 here) b in
      are_joined before (Holder c r.sheet r.boxes behind) (are_first before hold a)
      (subst (λ (s : Sheet). AreBoxes names (box_with c.head.form c.head s (document_boxes r.boxes) (document_boxes behind))) (sym (sheet_stays nest u n new))
      (with_inner c.head.form c.head t.sheet (document_boxes t.boxes) (document_boxes r.boxes) (document_boxes behind) f.0 here inner))

  -- an element that holds no boxes
  pub entry_boxes : (e : Entry) → IsHead names e.head → HoldsNone e.head.form e.page → IsFrame names (frame_of e.page) → e.page.boxes ≡ End → AreBoxes names (boxed (e ∷ []))
  entry_boxes e h holds f none = (h, holds, f, subst (AreBoxes names) (sym none) tt, tt)

pub entry_wires : (e : Entry) → e.page.boxes ≡ End → e.page.wires ≡ [] → inner_wires (boxed (e ∷ [])) ≡ 0
entry_wires e boxes wires = none (length e.page.wires) (inner_wires e.page.boxes) (ap (λ (ws : List Wire). length ws) wires) (ap inner_wires boxes)
  where
    none : (a b : ℕ) → a ≡ 0 → b ≡ 0 → a + b + 0 ≡ 0
    none a b h k = omega (arith, h, k)

-- ---- the tree with boxes more in a canvas

module _ (path : List ℕ) (t u : Tree) (w : ChangesWithin path t u) (n : ℕ) (new : Trees) where
  pub put_weight : weight (put_before path n new t).boxes ≡ weight t.boxes + weight new
  put_weight =
      ap (λ (x : Tree). weight x.boxes) (w.changed (with_before n new)) ∙ nest_weight w.nest u n new ∙ ap (λ (x : Tree). weight x.boxes + weight new) (sym w.whole)

  pub put_sound : (rate : Rate) → sound_of rate (put_before path n new t).boxes ≡ sound_of rate t.boxes + sound_of rate new
  put_sound rate =
      ap (λ (x : Tree). sound_of rate x.boxes) (w.changed (with_before n new)) ∙ nest_sound rate w.nest u n new
      ∙ ap (λ (x : Tree). sound_of rate x.boxes + sound_of rate new) (sym w.whole)

  put_wires : inner_wires (document_boxes (put_before path n new t).boxes) ≡ inner_wires (document_boxes t.boxes) + inner_wires (document_boxes new)
  put_wires =
      ap (λ (x : Tree). inner_wires (document_boxes x.boxes)) (w.changed (with_before n new)) ∙ nest_wires w.nest u n new w.subpatches
      ∙ ap (λ (x : Tree). inner_wires (document_boxes x.boxes) + inner_wires (document_boxes new)) (sym w.whole)

  pub put_sheet : (put_before path n new t).sheet ≡ t.sheet
  put_sheet = ap (λ (x : Tree). x.sheet) (w.changed (with_before n new)) ∙ sheet_stays w.nest u n new ∙ ap (λ (x : Tree). x.sheet) (sym w.whole)

  put_boxes : (names : Names) → AreBoxes names (document_boxes t.boxes) → AreBoxes names (document_boxes new) → AreBoxes names (document_boxes (put_before path n new t).boxes)
  put_boxes names a b =
      subst (λ (x : Tree). AreBoxes names (document_boxes x.boxes)) (sym (w.changed (with_before n new)))
      (nest_boxes names w.nest u n new w.subpatches (subst (λ (x : Tree). AreBoxes names (document_boxes x.boxes)) w.whole a) b)

  pub put_proper : (names : Names) → IsProper names (document_in t) → AreBoxes names (document_boxes new) → inner_wires (document_boxes new) ≡ 0
      → weight (put_before path n new t).boxes ≤ 16384 → levels (document_boxes (put_before path n new t).boxes) ≤ 255 → IsProper names (document_in (put_before path n new t))
  put_proper names h b none few low = record {
    sound = (subst (λ (s : Sheet). IsFrame names (frame_in s)) (sym put_sheet) h.sound.0, put_boxes names h.sound.1 b);
    limits = record {
      boxes = within (pages.weight (document_boxes (put_before path n new t).boxes)) (weight (put_before path n new t).boxes) (document_weight (put_before path n new t).boxes) few;
      wires = same (length t.sheet.wires) (length (put_before path n new t).sheet.wires) (inner_wires (document_boxes t.boxes)) (inner_wires (document_boxes new))
          (inner_wires (document_boxes (put_before path n new t).boxes)) (ap (λ (s : Sheet). length s.wires) put_sheet) none put_wires h.limits.wires;
      levels = more (levels (document_boxes (put_before path n new t).boxes)) low;
    };
  }
    where
      within : (a b : ℕ) → a ≤ b → b ≤ 16384 → a ≤ 16384
      within a b h k = omega (arith, h, k)

      same : (l m t n r : ℕ) → m ≡ l → n ≡ 0 → r ≡ t + n → l + t ≤ 65536 → m + r ≤ 65536
      same l m t n r e f g h = omega (arith, e, f, g, h)

      more : (n : ℕ) → n ≤ 255 → n + 1 ≤ 256
      more n h = omega (arith, h)
