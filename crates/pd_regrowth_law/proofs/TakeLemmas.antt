-- What growth takes: the `$0` numbers of what it gives, and as much room as that has boxes.
use Rattle.std.proofs.Common.{◌≡◌, ℕ, zero, suc, ◌+◌, ◌≤◌, Bool, true, false, List, [], ◌∷◌, ◌++◌, Option, Some, None, if◌then◌else◌, refl, sym, ap, ◌∙◌, subst, arith, append_assoc, append-nil}
use Rattle.std.specs.Prelude.{drop}
use Rattle.pd_atom.specs.Names.{Names}
use Rattle.pd_atom.specs.declared.Atom.{Atom}
use Rattle.pd_object.specs.declared.kinds.Kind.TheVariants as kind
use Rattle.pd_naming.specs.Naming.{arguments_of}
use Rattle.pd_canvas.specs.Pages.{Head, Page, Entry, elements_of}
use Rattle.pd_library.specs.declared.answers.Answer.{Answer}
use Rattle.pd_tree.specs.Trees.{Trees, Done, Leaf, Holder, Tree, join, weight, sheet_of, own_zeros, zeros_in, zeros_of}
use Rattle.pd_growth.specs.Steps.{Stock, beginning, gives, ◌>>=◌, numbered, named_step, brought, text_expanded}
use Rattle.pd_growth.specs.Making.{Around, Making, Plain, Subpatch, File, is_expanded}
use Rattle.pd_growth.specs.Growth.{Inner, cell_of, canvas_grown, receiver_bytes, receiver_named, brought_if, receiver_brought, around_instance, box_made, own_text, box_grown, boxes_grown, page_grown, without_ending, around_root, grown}
use Rattle.pd_regrowth_law.specs.Regrowth.{Takes, inner_of}
use Rattle.pd_regrowth_law.proofs.MakeLemmas.{MakesBy, made_by}
use Rattle.pd_regrowth_law.proofs.StepLemmas.{no_boxes, page_is, gives_same, gives_stock, chain, last, takes_number, box_went, boxes_went, takes_none, takes_on, takes_then, counted_takes, numbered_takes, named_takes, text_extends, brought_takes}

-- ---- lists of a tree

pub zeros_join : (t r : Trees) → zeros_in (join t r) ≡ zeros_in t ++ zeros_in r
zeros_join Done r = refl
zeros_join (Leaf c t) r = zeros_join t r
zeros_join (Holder c s inner t) r =
    ap (λ x. own_zeros c.head.form s ++ (zeros_in inner ++ x)) (zeros_join t r)
    ∙ ap (λ x. own_zeros c.head.form s ++ x) (sym (append_assoc (zeros_in inner) (zeros_in t) (zeros_in r)))
    ∙ sym (append_assoc (own_zeros c.head.form s) (zeros_in inner ++ zeros_in t) (zeros_in r))

pub weight_join : (t r : Trees) → weight (join t r) ≡ weight t + weight r
weight_join Done r = omega arith
weight_join (Leaf c t) r = omega (arith, weight_join t r)
weight_join (Holder c s inner t) r = omega (arith, weight_join t r)

-- ---- steps of a box

text_takes_by : (b : Bool) (a : Around) (h : Head) (w : Stock) (text : List Atom) (v : Stock)
    → (if b then named_step (text_expanded a.zero a.arguments h.text w.names) w else gives h.text w) ≡ gives text v → Takes w [] 0 v
text_takes_by true a h w text v e = named_takes (text_expanded a.zero a.arguments h.text w.names) w text v (text_extends a.zero a.arguments h.text w.names) e
text_takes_by false a h w text v e = subst (Takes w [] 0) (gives_stock h.text text w v e) (takes_none w)

pub text_takes : (a : Around) (h : Head) (w : Stock) (text : List Atom) (v : Stock) → own_text a h w ≡ gives text v → Takes w [] 0 v
text_takes a h w text v e = text_takes_by (is_expanded h.form) a h w text v e

if_takes : (o : Option (List ℕ)) (w v : Stock) (x : Unit {0}) → brought_if o w ≡ gives x v → Takes w [] 0 v
if_takes (Some name) w v x h = brought_takes name w v x h
if_takes None w v x h = subst (Takes w [] 0) (gives_stock tt x w v h) (takes_none w)

pub receiver_takes : (b : Bool) (text : List Atom) (w v : Stock) (x : Unit {0}) → receiver_brought b text w ≡ gives x v → Takes w [] 0 v
receiver_takes true text w v x h = if_takes (receiver_named w.names text) w v x h
receiver_takes false text w v x h = subst (Takes w [] 0) (gives_stock tt x w v h) (takes_none w)

-- what a box that holds a canvas is
pub record CanvasWent (inner : Inner) (a : Around) (p : Page) (h : Head) (text : List Atom) (w : Stock) (t : Trees) (v : Stock) : Type 0 where
  pub boxes : Trees
  pub boxes_is : inner a p w ≡ gives boxes v
  pub tree_is : Holder (cell_of h text kind.Canvas None) (sheet_of a.zero a.arguments p) boxes Done ≡ t

pub canvas_went : (inner : Inner) (a : Around) (p : Page) (h : Head) (text : List Atom) (w : Stock) (t : Trees) (v : Stock)
    → canvas_grown inner a p h text w ≡ gives t v → CanvasWent inner a p h text w t v
canvas_went inner a p h text w t v e =
    let c = last (inner a p w) (λ boxes. Holder (cell_of h text kind.Canvas None) (sheet_of a.zero a.arguments p) boxes Done) t v e in
    record { boxes = c.value; boxes_is = c.first; tree_is = c.all }

-- ---- boxes

-- what a canvas takes is what its boxes are
abbrev pub InnerTakes : Inner → Type 0
InnerTakes inner = (a : Around) (p : Page) (w : Stock) (t : Trees) (v : Stock) → inner a p w ≡ gives t v → Takes w (zeros_in t) (weight t) v

-- a box but for its place among the boxes counted
pub record BoxTakes (w : Stock) (t : Trees) (v : Stock) : Type 0 where
  pub inside : ℕ
  pub weighs : weight t ≡ inside + 1
  pub takes : Takes w (zeros_in t) inside v

canvas_takes : (inner : Inner) (a : Around) (p : Page) (h : Head) (text : List Atom) (numbers : List ℕ) (w u v : Stock) (t : Trees) → InnerTakes inner
    → own_zeros h.form (sheet_of a.zero a.arguments p) ≡ numbers → Takes w numbers 0 u → canvas_grown inner a p h text u ≡ gives t v → BoxTakes w t v
canvas_takes inner a p h text numbers w u v t k own first e =
    let c = canvas_went inner a p h text u t v e in
    let both = takes_on w u v numbers (zeros_in c.boxes) 0 (weight c.boxes) first (k a p u c.boxes v c.boxes_is) in
    let zeros : own_zeros h.form (sheet_of a.zero a.arguments p) ++ (zeros_in c.boxes ++ []) ≡ numbers ++ zeros_in c.boxes =
    ap (λ x. x ++ (zeros_in c.boxes ++ [])) own ∙ ap (λ x. numbers ++ x) (append-nil (zeros_in c.boxes)) in
    subst (λ x. BoxTakes w x v) c.tree_is (record {
      inside = weight c.boxes;
      weighs = omega arith;
      takes = record { zeros = both.zeros ∙ ap (λ x. x ++ v.zeros) (sym zeros); room = omega (arith, both.room); names = both.names };
    })

pub making_takes : (inner : Inner) (a : Around) (e : Entry) (text : List Atom) (m : Making) (w : Stock) (t : Trees) (v : Stock) → InnerTakes inner
    → MakesBy e.head.form m → box_made inner a e text m w ≡ gives t v → BoxTakes w t v
making_takes inner a e text (Plain k fault) w t v i f h =
    let leaf = Leaf (cell_of e.head text k fault) Done in
    subst (λ x. BoxTakes w x v) (gives_same leaf t w v h)
    (subst (BoxTakes w leaf) (gives_stock leaf t w v h) (record { inside = 0; weighs = omega arith; takes = takes_none w }))
making_takes inner a e text Subpatch w t v i f h =
    let c = chain (receiver_brought a.is_top text w) (λ _ u. canvas_grown inner a e.page e.head text u) t v h in
    canvas_takes inner a e.page e.head text [] w c.stock v t i (ap (λ s. own_zeros s (sheet_of a.zero a.arguments e.page)) f)
    (receiver_takes a.is_top text w c.stock c.value c.first) c.next
making_takes inner a e text (File s p) w t v i f h =
    let args = arguments_of (drop 1 text) in
    let c = chain (numbered w) (λ z u. canvas_grown inner (around_instance a z s args) p e.head text u) t v h in
    canvas_takes inner (around_instance a c.value s args) p e.head text (c.value ∷ []) w c.stock v t i
    (ap (λ x. own_zeros x (sheet_of c.value args p)) f) (numbered_takes w c.stock c.value c.first) c.next

pub box_takes : (lib : ℕ → Option Answer) (root : List ℕ) (left : ℕ) (inner : Inner) (a : Around) (e : Entry) (w : Stock) (t : Trees) (v : Stock)
    → InnerTakes inner → box_grown lib root left inner a e w ≡ gives t v → Takes w (zeros_in t) (weight t) v
box_takes lib root left inner a e w t v i h =
    let b = box_went lib root left inner a e w t v h in
    let c = counted_takes w b.start b.counted_is in
    let x = text_takes a e.head b.start b.text b.named b.text_is in
    let m = making_takes inner a e b.text b.making b.named t v i (made_by lib root left a b.named.names e.head.form b.text b.making b.made_is) b.box_is in
    let all = takes_on w b.start v [] (zeros_in t) 1 m.inside c (takes_then b.start b.named v (zeros_in t) m.inside x m.takes) in
    record { zeros = all.zeros; room = omega (arith, all.room, m.weighs); names = all.names }

pub boxes_take : (lib : ℕ → Option Answer) (root : List ℕ) (left : ℕ) (inner : Inner) (a : Around) (es : List Entry) (w : Stock) (t : Trees) (v : Stock)
    → InnerTakes inner → boxes_grown lib root left inner a es w ≡ gives t v → Takes w (zeros_in t) (weight t) v
boxes_take lib root left inner a [] w t v i h =
    let e = sym (no_boxes lib root left inner a w) ∙ h in
    subst (λ x. Takes w (zeros_in x) (weight x) v) (gives_same Done t w v e) (subst (Takes w [] 0) (gives_stock Done t w v e) (takes_none w))
boxes_take lib root left inner a (e ∷ es) w t v i h =
    let b = boxes_went lib root left inner a e es w t v h in
    let one = box_takes lib root left inner a e w b.box b.between i b.box_is in
    let rest = boxes_take lib root left inner a es b.between b.rest v i b.rest_is in
    let all = takes_on w b.between v (zeros_in b.box) (zeros_in b.rest) (weight b.box) (weight b.rest) one rest in
    subst (λ x. Takes w (zeros_in x) (weight x) v) b.all_is
    (record { zeros = all.zeros ∙ ap (λ x. x ++ v.zeros) (sym (zeros_join b.box b.rest)); room = omega (arith, all.room, weight_join b.box b.rest); names = all.names })

nothing_takes : InnerTakes (λ a p w. gives Done w)
nothing_takes a p w t v h =
    subst (λ x. Takes w (zeros_in x) (weight x) v) (gives_same Done t w v h) (subst (Takes w [] 0) (gives_stock Done t w v h) (takes_none w))

pub inner_takes : (lib : ℕ → Option Answer) (root : List ℕ) (left : ℕ) → InnerTakes (inner_of lib root left)
inner_takes lib root zero a p w t v h = nothing_takes a p w t v h
inner_takes lib root (suc n) a p w t v h =
    boxes_take lib root n (inner_of lib root n) a (elements_of p) w t v (inner_takes lib root n) (sym (page_is lib root n a p w) ∙ h)

-- ---- the laws

pub one_takes : (lib : ℕ → Option Answer) (root : List ℕ) (left : ℕ) (a : Around) (e : Entry) (w v : Stock) (t : Trees)
    → box_grown lib root left (inner_of lib root left) a e w ≡ gives t v → Takes w (zeros_in t) (weight t) v
one_takes lib root left a e w v t h = box_takes lib root left (inner_of lib root left) a e w t v (inner_takes lib root left) h

pub several_take : (lib : ℕ → Option Answer) (root : List ℕ) (left : ℕ) (a : Around) (es : List Entry) (w v : Stock) (t : Trees)
    → boxes_grown lib root left (inner_of lib root left) a es w ≡ gives t v → Takes w (zeros_in t) (weight t) v
several_take lib root left a es w v t h = boxes_take lib root left (inner_of lib root left) a es w t v (inner_takes lib root left) h

pub page_takes : (lib : ℕ → Option Answer) (root : List ℕ) (left : ℕ) (a : Around) (p : Page) (w v : Stock) (t : Trees)
    → page_grown lib root left a p w ≡ gives t v → Takes w (zeros_in t) (weight t) v
page_takes lib root left a p w v t h = several_take lib root left a (elements_of p) w v t (sym (page_is lib root left a p w) ∙ h)

-- what a patch went through
pub record PatchWent (lib : ℕ → Option Answer) (name : List ℕ) (p : Page) (w : Stock) (t : Tree) (v : Stock) : Type 0 where
  pub own : ℕ
  pub start : Stock
  pub named : Stock
  pub boxes : Trees
  pub own_is : numbered w ≡ gives own start
  pub name_is : brought (receiver_bytes name) start ≡ gives tt named
  pub boxes_is : page_grown lib (without_ending name) 255 (around_root own) p named ≡ gives boxes v
  pub tree_is : record { sheet = sheet_of own [] p; boxes = boxes } ≡ t

pub patch_went : (lib : ℕ → Option Answer) (name : List ℕ) (p : Page) (w : Stock) (t : Tree) (v : Stock)
    → grown lib name p w ≡ gives t v → PatchWent lib name p w t v
patch_went lib name p w t v h =
    let tree : ℕ → Trees → Tree = λ z boxes. record { sheet = sheet_of z [] p; boxes = boxes } in
    let first = chain (numbered w) (λ z s. brought (receiver_bytes name) s >>= (λ _ u.
    page_grown lib (without_ending name) 255 (around_root z) p u >>= (λ boxes x. gives (tree z boxes) x))) t v h in
    let second = chain (brought (receiver_bytes name) first.stock) (λ _ u.
    page_grown lib (without_ending name) 255 (around_root first.value) p u >>= (λ boxes x. gives (tree first.value boxes) x)) t v first.next in
    let third = last (page_grown lib (without_ending name) 255 (around_root first.value) p second.stock) (tree first.value) t v second.next in
    record {
      own = first.value;
      start = first.stock;
      named = second.stock;
      boxes = third.value;
      own_is = first.first;
      name_is = second.first;
      boxes_is = third.first;
      tree_is = third.all;
    }

pub patch_takes : (lib : ℕ → Option Answer) (name : List ℕ) (p : Page) (w v : Stock) (t : Tree)
    → grown lib name p w ≡ gives t v → Takes w (zeros_of t) (weight t.boxes) v
patch_takes lib name p w v t h =
    let g = patch_went lib name p w t v h in
    subst (λ x. Takes w (zeros_of x) (weight x.boxes) v) g.tree_is
    (takes_number w g.start v g.own (zeros_in g.boxes) (weight g.boxes) (numbered_takes w g.start g.own g.own_is)
    (takes_then g.start g.named v (zeros_in g.boxes) (weight g.boxes) (brought_takes (receiver_bytes name) g.start g.named tt g.name_is)
    (page_takes lib (without_ending name) 255 (around_root g.own) p g.named v g.boxes g.boxes_is)))

pub patch_small : (lib : ℕ → Option Answer) (name : List ℕ) (p : Page) (names : Names) (n : ℕ) (v : Stock) (t : Tree)
    → grown lib name p (beginning names n) ≡ gives t v → weight t.boxes ≤ 16384
patch_small lib name p names n v t h =
    let room : 16384 ≡ weight t.boxes + v.room = (patch_takes lib name p (beginning names n) v t h).room in
    omega (arith, room)
