-- What boxes keep changes neither whether they sound nor which names they own.
use Rattle.std.proofs.Common.{◌≡◌, ℕ, ℤ, zero, suc, ◌+◌, max, Bool, true, false, ◌&&◌, List, [], ◌∷◌, ◌++◌, map, slice_get, Option, Some, None, refl, sym, ap, ◌∙◌}
use Rattle.std.specs.Prelude.{option_map, option_and_then, is_some, ◌||◌, if◌then◌else◌}
use Rattle.std.proofs.lemmas.List.{map-append}
use Rattle.std.proofs.lemmas.Option.{none-some, same_Some}
use Rattle.pd_atom.specs.Names.{Names}
use Rattle.pd_object.specs.declared.kinds.Kind.{Kind}
use Rattle.pd_object.specs.declared.kinds.Kind.TheVariants as kind
use Rattle.pd_object.specs.declared.kinds.Panel.TheVariants as panel
use Rattle.pd_kind.specs.declared.states.State.{State}
use Rattle.pd_kind.specs.Tables.{saved_of}
use Rattle.pd_name.specs.declared.Class.{Class}
use Rattle.pd_canvas.specs.Pages.{Shape, Obj, Msg, Sub, Array}
use Rattle.pd_tree.specs.declared.rows.Sheet.{Sheet}
use Rattle.pd_tree.specs.Trees.{Cell, Trees, Done, Leaf, Holder}
use Rattle.pd_grove.specs.declared.nodes.Node.{Node}
use Rattle.pd_grove.specs.declared.boards.Board.{Board}
use Rattle.pd_grove.specs.Standing.{NodeSeen, node_seen, Stands}
use Rattle.pd_grove.specs.Telling.{inner_in, state_in}
use Rattle.pd_grove.specs.TextOrder.{deep, is_sub, Placed, placed, placed_in_order, keys_inside}
use Rattle.pd_bind.specs.Naming.{canvas_owned, owned_by_kind, owned_by}
use Rattle.pd_bind.specs.Owning.{is_owned, owns}
use Rattle.pd_web.specs.declared.web.Web.{Web}
use Rattle.pd_present.specs.Contents.{present_form, present_head}
use Rattle.pd_present.specs.Presents.{wires_among}
use Rattle.pd_patch.specs.Orders.{is_signal, is_signal_node}
use Rattle.pd_regrowth_law.specs.Rewiring.{with_wires}
use Rattle.pd_reload_law.specs.Saving.{kind_turned, object_now, cell_by, holder_now, boxes_now, IsMade, AreMade}

-- ---- whether a box sounds

-- whether the box of a number stands in the signal order
abbrev pub sounds_at : ℕ → Trees → Bool
sounds_at n Done = false
sounds_at zero (Leaf c rest) = is_signal c.kind
sounds_at zero (Holder c s inner rest) = true
sounds_at (suc n) (Leaf c rest) = sounds_at n rest
sounds_at (suc n) (Holder c s inner rest) = sounds_at n rest

seen_sounds : (o : Option Node) (x : NodeSeen) → option_map node_seen o ≡ Some x → is_signal_node o ≡ (is_some x.inner || is_signal x.cell.kind)
seen_sounds None x h = absurd (none-some x h)
seen_sounds (Some n) x h = ap (λ (y : NodeSeen). is_some y.inner || is_signal y.cell.kind) (same_Some (node_seen n) x h)

pub stands_sound : (nodes : ℕ → Option Node) (boards : ℕ → Option Board) (b d : ℕ) (ks : List ℕ) (t : Trees) (i k : ℕ) → Stands nodes boards b d ks t → slice_get ks i ≡ Some k
    → is_signal_node (nodes k) ≡ sounds_at i t
stands_sound nodes boards b d [] t i k S e = absurd (none-some k e)
stands_sound nodes boards b d (x ∷ ks) Done i k S e = absurd S
stands_sound nodes boards b d (x ∷ ks) (Leaf c rest) zero k S e = ap (λ y. is_signal_node (nodes y)) (sym (same_Some x k e)) ∙ seen_sounds (nodes x) _ S.0
stands_sound nodes boards b d (x ∷ ks) (Leaf c rest) (suc i) k S e = stands_sound nodes boards b d ks rest i k S.1 e
stands_sound nodes boards b d (x ∷ ks) (Holder c s inner rest) zero k S e = ap (λ y. is_signal_node (nodes y)) (sym (same_Some x k e)) ∙ seen_sounds (nodes x) _ S.2
stands_sound nodes boards b d (x ∷ ks) (Holder c s inner rest) (suc i) k S e = stands_sound nodes boards b d ks rest i k S.5 e

turned_sounds : (v : ℤ × ℤ) (k : Kind) → is_signal (kind_turned v k) ≡ is_signal k
turned_sounds v (kind.Panel (panel.Tgl t)) = refl
turned_sounds v k = refl

object_sounds : (o : Option (ℤ × ℤ)) (s : Option State) (c : Cell) → is_signal (object_now o c (present_head s c.head)).kind ≡ is_signal c.kind
object_sounds None s c = refl
object_sounds (Some v) s c = turned_sounds v c.kind

sounds_by : (f : Shape) (s : Option State) (c : Cell) → IsMade f c → is_signal (cell_by f s c (present_head s c.head)).kind ≡ is_signal c.kind
sounds_by Msg s c m = sym (ap (λ (x : Cell). is_signal x.kind) m)
sounds_by (Array values) s c m = sym (ap (λ (x : Cell). is_signal x.kind) m)
sounds_by Obj s c m = object_sounds (option_and_then saved_of s) s c
sounds_by f s c m = refl

first_sounds : (f : Shape) (c : Cell) (sheet : Sheet) (inner : Trees) (now : Sheet) (boxes others : Trees) → sounds_at zero (holder_now f c sheet inner now boxes others) ≡ true
first_sounds Sub c sheet inner now boxes others = refl
first_sounds f c sheet inner now boxes others = refl

next_sounds : (n : ℕ) (f : Shape) (c : Cell) (sheet : Sheet) (inner : Trees) (now : Sheet) (boxes others : Trees)
    → sounds_at (suc n) (holder_now f c sheet inner now boxes others) ≡ sounds_at n others
next_sounds n Sub c sheet inner now boxes others = refl
next_sounds n f c sheet inner now boxes others = refl

-- ---- which name a box owns

pub no_canvas : (names : Names) (top : Bool) (c : Cell) → is_sub c.head.form ≡ false → canvas_owned names top c ≡ None
no_canvas names true c e = rw e refl
no_canvas names false c e = refl

turned_owned : (names : Names) (top : Bool) (v : ℤ × ℤ) (c d : Cell) (k : Kind) → canvas_owned names top d ≡ canvas_owned names top c
    → owned_by_kind names top d (kind_turned v k) ≡ owned_by_kind names top c k
turned_owned names top v c d (kind.Panel (panel.Tgl t)) h = refl
turned_owned names top v c d kind.Canvas h = h
turned_owned names top v c d k h = refl

object_owned : (names : Names) (top : Bool) (o : Option (ℤ × ℤ)) (s : Option State) (c : Cell) → c.head.form ≡ Obj
    → owned_by names top (object_now o c (present_head s c.head)) ≡ owned_by names top c
object_owned names top None s c e = refl
object_owned names top (Some v) s c e =
    let d = object_now (Some v) c (present_head s c.head) in
    turned_owned names top v c d c.kind
    (no_canvas names top d (ap is_sub (ap (present_form c.head.text s) e)) ∙ sym (no_canvas names top c (ap is_sub e)))

owned_now : (names : Names) (top : Bool) (f : Shape) (s : Option State) (c : Cell) → c.head.form ≡ f → IsMade f c
    → owned_by names top (cell_by f s c (present_head s c.head)) ≡ owned_by names top c
owned_now names top Msg s c e m = sym (ap (owned_by names top) m)
owned_now names top (Array values) s c e m = sym (ap (owned_by names top) m)
owned_now names top Obj s c e m = object_owned names top (option_and_then saved_of s) s c e
owned_now names top f s c e m = refl

deep_holder : (f : Shape) (c : Cell) (sheet : Sheet) (inner : Trees) (now : Sheet) (boxes others rest : Trees) → deep boxes ≡ deep inner → deep others ≡ deep rest
    → deep (holder_now f c sheet inner now boxes others) ≡ max (deep inner + 1) (deep rest)
deep_holder Sub c sheet inner now boxes others rest e g = ap (λ n. max (n + 1) (deep others)) e ∙ ap (max (deep inner + 1)) g
deep_holder f c sheet inner now boxes others rest e g = ap (max (deep inner + 1)) g

module _ (names : Names) (class : Class) (name : ℕ) where
  abbrev flags : Bool → Trees → List Bool
  flags top t = map (owns names class name) (placed_in_order top t)

  parts : (top : Bool) (c : Cell) (within rest : List Placed)
      → map (owns names class name) (placed top c ∷ (within ++ rest))
      ≡ is_owned class name (owned_by names top c) ∷ (map (owns names class name) within ++ map (owns names class name) rest)
  parts top c within rest = ap (λ (l : List Bool). is_owned class name (owned_by names top c) ∷ l) (map-append (owns names class name) within rest)

  holder_flags : (top : Bool) (f : Shape) (c : Cell) (sheet : Sheet) (inner : Trees) (now : Sheet) (boxes others rest : Trees)
      → flags (top && is_sub c.head.form) boxes ≡ flags (top && is_sub c.head.form) inner → flags top others ≡ flags top rest
      → flags top (holder_now f c sheet inner now boxes others) ≡ flags top (Holder c sheet inner rest)
  holder_flags top Sub c sheet inner now boxes others rest e g =
      let here = is_owned class name (owned_by names top c) in
      parts top c (placed_in_order (top && is_sub c.head.form) boxes) (placed_in_order top others)
      ∙ ap (λ (l : List Bool). here ∷ (l ++ flags top others)) e ∙ ap (λ (l : List Bool). here ∷ (flags (top && is_sub c.head.form) inner ++ l)) g
      ∙ sym (parts top c (placed_in_order (top && is_sub c.head.form) inner) (placed_in_order top rest))
  holder_flags top f c sheet inner now boxes others rest e g =
      let here = is_owned class name (owned_by names top c) in
      parts top c (placed_in_order (top && is_sub c.head.form) inner) (placed_in_order top others)
      ∙ ap (λ (l : List Bool). here ∷ (flags (top && is_sub c.head.form) inner ++ l)) g
      ∙ sym (parts top c (placed_in_order (top && is_sub c.head.form) inner) (placed_in_order top rest))

  module _ (web : Web) (numbers : List ℕ) (nodes : ℕ → Option Node) (boards : ℕ → Option Board) where
    pub owned_stay : (top : Bool) (keys : List ℕ) (t : Trees) → AreMade t → flags top (boxes_now web numbers nodes boards keys t) ≡ flags top t
    owned_stay top [] t m = refl
    owned_stay top (k ∷ ks) Done m = refl
    owned_stay top (k ∷ ks) (Leaf c rest) m =
        ap (λ o. is_owned class name o ∷ flags top (boxes_now web numbers nodes boards ks rest)) (owned_now names top c.head.form (state_in (nodes k)) c refl m.0)
        ∙ ap (λ (l : List Bool). is_owned class name (owned_by names top c) ∷ l) (owned_stay top ks rest m.1)
    owned_stay top (k ∷ ks) (Holder c s inner rest) m =
        let js = keys_inside boards (inner_in (nodes k)) in
        holder_flags top c.head.form c s inner (with_wires (wires_among web numbers js) s) (boxes_now web numbers nodes boards js inner)
        (boxes_now web numbers nodes boards ks rest) rest (owned_stay (top && is_sub c.head.form) js inner m.1) (owned_stay top ks rest m.2)

module _ (web : Web) (numbers : List ℕ) (nodes : ℕ → Option Node) (boards : ℕ → Option Board) where
  pub sounds_stay : (keys : List ℕ) (t : Trees) (i : ℕ) → AreMade t → sounds_at i (boxes_now web numbers nodes boards keys t) ≡ sounds_at i t
  sounds_stay [] t i m = refl
  sounds_stay (k ∷ ks) Done i m = refl
  sounds_stay (k ∷ ks) (Leaf c rest) zero m = sounds_by c.head.form (state_in (nodes k)) c m.0
  sounds_stay (k ∷ ks) (Leaf c rest) (suc i) m = sounds_stay ks rest i m.1
  sounds_stay (k ∷ ks) (Holder c s inner rest) zero m =
      first_sounds c.head.form c s inner (with_wires (wires_among web numbers (keys_inside boards (inner_in (nodes k)))) s)
      (boxes_now web numbers nodes boards (keys_inside boards (inner_in (nodes k))) inner) (boxes_now web numbers nodes boards ks rest)
  sounds_stay (k ∷ ks) (Holder c s inner rest) (suc i) m =
      next_sounds i c.head.form c s inner (with_wires (wires_among web numbers (keys_inside boards (inner_in (nodes k)))) s)
      (boxes_now web numbers nodes boards (keys_inside boards (inner_in (nodes k))) inner) (boxes_now web numbers nodes boards ks rest)
      ∙ sounds_stay ks rest i m.2

  pub deep_stay : (keys : List ℕ) (t : Trees) → deep (boxes_now web numbers nodes boards keys t) ≡ deep t
  deep_stay [] t = refl
  deep_stay (k ∷ ks) Done = refl
  deep_stay (k ∷ ks) (Leaf c rest) = deep_stay ks rest
  deep_stay (k ∷ ks) (Holder c s inner rest) =
      let js = keys_inside boards (inner_in (nodes k)) in
      deep_holder c.head.form c s inner (with_wires (wires_among web numbers js) s) (boxes_now web numbers nodes boards js inner)
      (boxes_now web numbers nodes boards ks rest) rest (deep_stay js inner) (deep_stay ks rest)
