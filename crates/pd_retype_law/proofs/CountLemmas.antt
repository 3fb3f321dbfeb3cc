-- The counts of a patch in which a box became another one are those of its tree.
use Rattle.std.proofs.Common.{◌≡◌, ◌≤◌, ◌+◌, ◌-◌, ℕ, zero, suc, List, [], ◌∷◌, length, slice_get, Some, refl, sym, ap, ◌∙◌, subst, arith}
use Rattle.std.specs.Prelude.{option_map}
use Rattle.std.proofs.lemmas.Option.{none-some, same_Some}
use Rattle.slab.specs.Slab.{get}
use Rattle.pd_atom.specs.declared.Atom.{Atom}
use Rattle.pd_clock.specs.declared.times.Rate.{Rate}
use Rattle.pd_kind.specs.States.{size_of}
use Rattle.pd_tree.specs.declared.rows.Sheet.{Sheet}
use Rattle.pd_tree.specs.Trees.{Cell, Trees, Done, Leaf, Holder, Tree, join, weight, zeros_in, zeros_of}
use Rattle.pd_grove.specs.declared.nodes.Node.{Node}
use Rattle.pd_grove.specs.declared.grove.Grove.{Grove}
use Rattle.pd_grove.specs.Standing.{NodeSeen, node_seen, GroveStands, Stands}
use Rattle.pd_grove.proofs.PlaceLemmas.{seen_keys}
use Rattle.pd_web.specs.Changes.{wires_told}
use Rattle.pd_patch.specs.declared.patch.Patch.{Patch}
use Rattle.pd_patch.specs.Sounds.{sound_of}
use Rattle.pd_gather.specs.Gather.{Known}
use Rattle.pd_boxes.specs.Put.{CanPut}
use Rattle.pd_regrowth_law.specs.Canvases.{Nest, Alone, Inside, nested}
use Rattle.pd_reload_law.specs.Reloading.{RunsAs}
use Rattle.pd_putting_law.proofs.StandLemmas.{path_along}
use Rattle.pd_putting_law.proofs.WithinLemmas.{path_within}
use Rattle.pd_adding.specs.declared.counts.Counts.{Counts}
use Rattle.pd_adding.specs.Counts.{with_boxes}
use Rattle.pd_put_law.proofs.RoomLemmas.{room_runs}
use Rattle.pd_retyping.specs.declared.retyping.RetypedBox.{RetypedBox}
use Rattle.pd_retyping.specs.Retypes.{counts_but, with_wires, HasBecome, RetypesBox}
use Rattle.pd_retyping_law.specs.Retypes.{retyped_at}
use Rattle.pd_retyping_law.proofs.CountLemmas.{tree_trades, weight_same, zeros_retyped}
use Rattle.pd_retype_law.proofs.BecomeLemmas.{mid, is_now, box, cell_is, same_boxes}
use Rattle.pd_retype_law.proofs.GrewLemmas.{grew_so}

-- ---- what the box that was there counts

-- among these boxes is one that keeps so many values
record CountsOne (rate : Rate) (size : ℕ) (t : Trees) : Type 0 where
  boxes : 1 ≤ weight t
  sound : size ≤ sound_of rate t

with_first : (rate : Rate) (size : ℕ) (c : Cell) (t : Trees) → CountsOne rate size t → CountsOne rate size (Leaf c t)
with_first rate size c t h = record {
  boxes = more (weight t) h.boxes;
  sound = behind (size_of c.kind rate) size (sound_of rate t) h.sound;
}
  where
    more : (a : ℕ) → 1 ≤ a → 1 ≤ a + 1
    more a h = omega (arith, h)

    behind : (f a b : ℕ) → a ≤ b → a ≤ f + b
    behind f a b h = omega (arith, h)

with_holder : (rate : Rate) (size : ℕ) (c : Cell) (s : Sheet) (inner t : Trees) → CountsOne rate size t → CountsOne rate size (Holder c s inner t)
with_holder rate size c s inner t h = record {
  boxes = more (weight inner) (weight t) h.boxes;
  sound = behind (size_of c.kind rate) (sound_of rate inner) size (sound_of rate t) h.sound;
}
  where
    more : (i a : ℕ) → 1 ≤ a → 1 ≤ i + a + 1
    more i a h = omega (arith, h)

    behind : (f i a b : ℕ) → a ≤ b → a ≤ f + (i + b)
    behind f i a b h = omega (arith, h)

with_inner : (rate : Rate) (size : ℕ) (c : Cell) (s : Sheet) (inner t : Trees) → CountsOne rate size inner → CountsOne rate size (Holder c s inner t)
with_inner rate size c s inner t h = record {
  boxes = more (weight inner) (weight t);
  sound = inside (size_of c.kind rate) (sound_of rate t) size (sound_of rate inner) h.sound;
}
  where
    more : (i a : ℕ) → 1 ≤ i + a + 1
    more i a = omega arith

    inside : (f r a b : ℕ) → a ≤ b → a ≤ f + (b + r)
    inside f r a b h = omega (arith, h)

behind_all : (rate : Rate) (size : ℕ) (before t : Trees) → CountsOne rate size t → CountsOne rate size (join before t)
behind_all rate size Done t h = h
behind_all rate size (Leaf c before) t h = with_first rate size c (join before t) (behind_all rate size before t h)
behind_all rate size (Holder c s inner before) t h = with_holder rate size c s inner (join before t) (behind_all rate size before t h)

nest_counts : (rate : Rate) (size : ℕ) (nest : Nest) (u : Tree) → CountsOne rate size u.boxes → CountsOne rate size (nested nest u).boxes
nest_counts rate size Alone u h = h
nest_counts rate size (Inside sheet before c nest behind) u h =
    let t = nested nest u in
    behind_all rate size before (Holder c t.sheet t.boxes behind) (with_inner rate size c t.sheet t.boxes behind (nest_counts rate size nest u h))

-- the box of a key, that stands among these
module _ (rate : Rate) (g : Grove) (key : ℕ) (n : Node) (is : get g.nodes key ≡ Some n) where
  seen_as : (k : ℕ) (z : NodeSeen) → Some k ≡ Some key → option_map node_seen (get g.nodes k) ≡ Some z → node_seen n ≡ z
  seen_as k z same e = same_Some (node_seen n) z (sym (ap (option_map node_seen) (ap (λ j. get g.nodes j) (same_Some k key same) ∙ is)) ∙ e)

  first_counts : (c : Cell) (t : Trees) → n.kind ≡ c.kind → CountsOne rate (size_of n.kind rate) (Leaf c t)
  first_counts c t same = record {
    boxes = one (weight t);
    sound = front (size_of n.kind rate) (size_of c.kind rate) (sound_of rate t) (ap (λ x. size_of x rate) same);
  }
    where
      one : (a : ℕ) → 1 ≤ a + 1
      one a = omega arith

      front : (a f r : ℕ) → a ≡ f → a ≤ f + r
      front a f r h = omega (arith, h)

  holder_counts : (c : Cell) (s : Sheet) (inner t : Trees) → n.kind ≡ c.kind → CountsOne rate (size_of n.kind rate) (Holder c s inner t)
  holder_counts c s inner t same = record {
    boxes = one (weight inner) (weight t);
    sound = front (size_of n.kind rate) (size_of c.kind rate) (sound_of rate inner) (sound_of rate t) (ap (λ x. size_of x rate) same);
  }
    where
      one : (i a : ℕ) → 1 ≤ i + a + 1
      one i a = omega arith

      front : (a f i r : ℕ) → a ≡ f → a ≤ f + (i + r)
      front a f i r h = omega (arith, h)

  stands_counts : (b d : ℕ) (keys : List ℕ) (t : Trees) (m : ℕ) → slice_get keys m ≡ Some key → Stands (get g.nodes) (get g.boards) b d keys t → CountsOne rate (size_of n.kind rate) t
  stands_counts b d [] t m at S = absurd (none-some key at)
  stands_counts b d (k ∷ ks) Done m at S = absurd S
  stands_counts b d (k ∷ ks) (Leaf c rest) zero at S = first_counts c rest (ap (λ (y : NodeSeen). y.cell.kind) (seen_as k _ at S.0))
  stands_counts b d (k ∷ ks) (Leaf c rest) (suc m) at S = with_first rate (size_of n.kind rate) c rest (stands_counts b d ks rest m at S.1)
  stands_counts b d (k ∷ ks) (Holder c s inner rest) zero at S = holder_counts c s inner rest (ap (λ (y : NodeSeen). y.cell.kind) (seen_as k _ at S.2))
  stands_counts b d (k ∷ ks) (Holder c s inner rest) (suc m) at S = with_holder rate (size_of n.kind rate) c s inner rest (stands_counts b d ks rest m at S.5)

-- ---- an edit that gave a box another text

module _ (old new : Patch) (n : Counts) (name path : List ℕ) (number : ℕ) (text : List Atom) (now : ℕ) (k after : Known) (steps steps' : ℕ) (b : RetypedBox)
    (X : RetypesBox old new n name path number text now k after steps steps' b) where
  counted : (boxes : Trees) → X.added.boxes ≡ boxes → b.counts ≡ with_wires (with_boxes old.rate boxes (counts_but old.rate X.node n)) (wires_told new.web)
  counted boxes is =
      X.counts
      ∙ ap (λ (c : Counts). with_wires c (wires_told new.web)) ((grew_so old new n name path number text now k after steps steps' b X).counts
      ∙ ap (λ (t : Trees). with_boxes old.rate t (counts_but old.rate X.node n)) is)

  none_more : (a m x : ℕ) → m ≡ 0 → x ≡ a + m → x ≡ a
  none_more a m x e h = omega (arith, e, h)

  pub as_many_wires : b.counts.wires ≡ wires_told new.web
  as_many_wires = ap (λ (x : Counts). x.wires) (counted X.added.boxes refl)

  -- what grew has no `$0` of its own
  pub same_next : (boxes : Trees) → X.added.boxes ≡ boxes → length (zeros_in boxes) ≡ 0 → b.counts.next_zero ≡ n.next_zero
  same_next boxes is none = none_more n.next_zero (length (zeros_in boxes)) b.counts.next_zero none (ap (λ (x : Counts). x.next_zero) (counted boxes is))

  module _ (can : CanPut old) (t : Tree) (R : RunsAs old.grove t) where
    was_counted : CountsOne old.rate (size_of X.node.kind old.rate) t.boxes
    was_counted =
        let g = old.grove in
        let at = path_along g path b.canvas t can.forest R.stands X.chosen.leads in
        let S = at.2 in
        let w = path_within path t at.0 at.1 in
        subst (λ (x : Tree). CountsOne old.rate (size_of X.node.kind old.rate) x.boxes) (sym w.whole)
        (nest_counts old.rate (size_of X.node.kind old.rate) w.nest at.0
        (stands_counts old.rate g b.key X.node X.chosen.is b.canvas S.depth S.keys at.0.boxes number
        (ap (λ (ks : List ℕ). slice_get ks number) (sym (seen_keys (get g.boards b.canvas) _ S.board)) ∙ X.chosen.at) S.stands))

    -- what grew is one box
    pub as_many_boxes : (boxes : Trees) → X.added.boxes ≡ boxes → weight boxes ≡ 1 → (cell : Cell) → n.boxes ≡ weight t.boxes
        → b.counts.boxes ≡ weight (retyped_at path number cell t).boxes
    as_many_boxes boxes is one cell h =
        again n.boxes (weight t.boxes) (weight boxes) b.counts.boxes (weight (retyped_at path number cell t).boxes) h was_counted.boxes one
        (ap (λ (x : Counts). x.boxes) (counted boxes is)) (weight_same path number cell t)
      where
        again : (a w m x v : ℕ) → a ≡ w → 1 ≤ w → m ≡ 1 → x ≡ (a - 1) + m → v ≡ w → x ≡ v
        again a w m x v h k o l e = omega (arith, h, k, o, l, e)

    pub as_much_sound : (boxes : Trees) → X.added.boxes ≡ boxes → (cell : Cell)
        → sound_of old.rate (retyped_at path number cell t).boxes + size_of X.node.kind old.rate ≡ sound_of old.rate t.boxes + sound_of old.rate boxes
        → n.sound ≡ sound_of old.rate t.boxes → b.counts.sound ≡ sound_of old.rate (retyped_at path number cell t).boxes
    as_much_sound boxes is cell traded h =
        again n.sound (sound_of old.rate t.boxes) (size_of X.node.kind old.rate) (sound_of old.rate boxes) b.counts.sound (sound_of old.rate (retyped_at path number cell t).boxes)
        h was_counted.sound (ap (λ (x : Counts). x.sound) (counted boxes is)) traded
      where
        again : (a s o m x v : ℕ) → a ≡ s → o ≤ s → x ≡ (a - o) + m → v + o ≡ s + m → x ≡ v
        again a s o m x v h k l e = omega (arith, h, k, l, e)

-- ---- the box became another one

module _ (old new : Patch) (n : Counts) (name path : List ℕ) (number : ℕ) (text : List Atom) (now : ℕ) (k after : Known) (steps steps' : ℕ) (b : RetypedBox)
    (X : RetypesBox old new n name path number text now k after steps steps' b) (Y : HasBecome old new now b.key X.node X.added b.gone.items steps steps')
    (t : Tree) (R : RunsAs old.grove t) where
  abbrev loose : Patch
  loose = mid old new n name path number text now k after steps steps' b X Y

  stands : GroveStands loose.grove t.sheet t.boxes
  stands = (room_runs old.grove loose.grove (same_boxes old new n name path number text now k after steps steps' b X Y) t R).stands

  pub box_zeros : zeros_of (retyped_at path number Y.can.cell t) ≡ zeros_of t
  box_zeros =
      subst (λ (c : Cell). zeros_of (retyped_at path number c t) ≡ zeros_of t) (cell_is old new n name path number text now k after steps steps' b X Y)
      (zeros_retyped loose.grove new.grove path b.canvas b.key number X.node (is_now old new n name path number text now k after steps steps' b X Y)
      (box old new n name path number text now k after steps steps' b X Y) t stands)

  pub box_traded : sound_of old.rate (retyped_at path number Y.can.cell t).boxes + size_of X.node.kind old.rate ≡ sound_of old.rate t.boxes + sound_of old.rate (Leaf Y.can.cell Done)
  box_traded =
      none (sound_of old.rate (retyped_at path number Y.can.cell t).boxes + size_of X.node.kind old.rate) (sound_of old.rate t.boxes) (size_of Y.can.cell.kind old.rate)
      (subst (λ (c : Cell). sound_of old.rate (retyped_at path number c t).boxes + size_of X.node.kind old.rate ≡ sound_of old.rate t.boxes + size_of c.kind old.rate)
      (cell_is old new n name path number text now k after steps steps' b X Y)
      (tree_trades old.rate loose.grove new.grove path b.canvas b.key number X.node (is_now old new n name path number text now k after steps steps' b X Y)
      (box old new n name path number text now k after steps steps' b X Y) t stands))
    where
      none : (a s m : ℕ) → a ≡ s + m → a ≡ s + (m + 0)
      none a s m h = omega (arith, h)
