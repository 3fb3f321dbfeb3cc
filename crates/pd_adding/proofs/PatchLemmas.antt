-- What is counted of the boxes of a patch.
use Rattle.std.proofs.Common.{arith, ◌≡◌, ℕ, zero, suc, ◌+◌, ◌-◌, ◌^◌, ◌<◌, ◌≤◌, min, max, List, [], ◌∷◌, ◌++◌, length, take, map, get_or, Option, Some, None, refl, sym, ap, ◌∙◌, subst}
use Rattle.std.specs.Prelude.{option_map}
use Rattle.std.specs.List.{AllByRecursion}
use Rattle.std.proofs.lemmas.List.{length-append, length-map, map-append}
use Rattle.slab.specs.Slab.{get}
use Rattle.pd_clock.specs.declared.times.Rate.{Rate}
use Rattle.pd_kind.specs.States.{size_of}
use Rattle.pd_tree.specs.declared.rows.Sheet.{Sheet}
use Rattle.pd_tree.specs.Trees.{Cell, Tree, Trees, Done, Leaf, Holder, weight, zeros_of}
use Rattle.pd_grove.specs.declared.nodes.Node.{Node}
use Rattle.pd_grove.specs.declared.boards.Board.{Board}
use Rattle.pd_grove.specs.declared.grove.Grove.{Grove}
use Rattle.pd_grove.specs.Standing.{node_seen, board_seen, Stands, GroveStands}
use Rattle.pd_grove.specs.Telling.{with_state}
use Rattle.pd_grove.specs.TextOrder.{cells_in_order, cell_under}
use Rattle.pd_web.specs.Changes.{wires_told}
use Rattle.pd_patch.specs.declared.patch.Patch.{Patch}
use Rattle.pd_patch.specs.Sounds.{sound_of}
use Rattle.pd_wiring.specs.Changes.{AreAlike}
use Rattle.pd_adding.specs.declared.counts.Counts.{Counts}
use Rattle.pd_adding.specs.Counts.{AreWithin}
use Rattle.pd_adding.specs.Counted.{AreCounted, IsLimited, next_above, sound_seen, sound_among, with_wires}

-- ---- boxes

weight_told : (t : Trees) → length (cells_in_order t) ≡ weight t
weight_told Done = refl
weight_told (Leaf c rest) = let h = weight_told rest in omega (arith, h)
weight_told (Holder c s inner rest) =
    let h = weight_told inner in
    let k = weight_told rest in
    let e = length-append (cells_in_order inner) (cells_in_order rest) in
    omega (arith, h, k, e)

abbrev AreOf : (ℕ → Option Node) → List ℕ → Trees → Type 0
AreOf nodes keys t = map (cell_under nodes) keys ≡ map (λ c. Some c) (cells_in_order t)

boxes_told : (nodes : ℕ → Option Node) (keys : List ℕ) (t : Trees) → AreOf nodes keys t → length keys ≡ weight t
boxes_told nodes keys t h =
    let f : Cell → Option Cell = λ c. Some c in
    sym (length-map keys (cell_under nodes)) ∙ ap (λ (os : List (Option Cell)). length os) h ∙ length-map (cells_in_order t) f ∙ weight_told t

-- ---- sound

sound_join : (r : Rate) (xs ys : List (Option Cell)) → sound_among r (xs ++ ys) ≡ sound_among r xs + sound_among r ys
sound_join r [] ys = omega arith
sound_join r (x ∷ xs) ys = let h = sound_join r xs ys in omega (arith, h)

sound_cells : (r : Rate) (t : Trees) → sound_among r (map (λ c. Some c) (cells_in_order t)) ≡ sound_of r t
sound_cells r Done = refl
sound_cells r (Leaf c rest) = ap (λ n. size_of c.kind r + n) (sound_cells r rest)
sound_cells r (Holder c s inner rest) =
    let f : Cell → Option Cell = λ x. Some x in
    let xs = cells_in_order inner in
    let ys = cells_in_order rest in
    ap (λ n. size_of c.kind r + n)
    (ap (sound_among r) (map-append f xs ys) ∙ sound_join r (map f xs) (map f ys) ∙ (λ i. sound_cells r inner i + sound_cells r rest i))

sound_told : (r : Rate) (nodes : ℕ → Option Node) (keys : List ℕ) (t : Trees) → AreOf nodes keys t → sound_among r (map (cell_under nodes) keys) ≡ sound_of r t
sound_told r nodes keys t h = ap (sound_among r) h ∙ sound_cells r t

module _ (r : Rate) (nodes : ℕ → Option Node) where
  sound_at : (keys : List ℕ) (n key d : ℕ) → n < length keys → key ≡ get_or keys n d
      → sound_among r (map (cell_under nodes) (take (suc n) keys)) ≡ sound_among r (map (cell_under nodes) (take n keys)) + sound_seen r (cell_under nodes key)
  sound_at [] n key d l h = absurd (omega (arith, l))
  sound_at (k ∷ keys) zero key d l h = let e = ap (λ (x : ℕ). sound_seen r (cell_under nodes x)) h in omega (arith, e)
  sound_at (k ∷ keys) (suc n) key d l h = let rest = sound_at keys n key d (omega (arith, l)) h in omega (arith, rest)

  -- one box more
  pub sound_more : (keys : List ℕ) (n key d : ℕ) → n < length keys → key ≡ get_or keys n d
      → sound_among r (map (cell_under nodes) (take (n + 1) keys)) ≡ sound_among r (map (cell_under nodes) (take n keys)) + sound_seen r (cell_under nodes key)
  sound_more keys n key d l h =
      let e : suc n ≡ n + 1 = omega arith in
      subst (λ m. sound_among r (map (cell_under nodes) (take m keys)) ≡ sound_among r (map (cell_under nodes) (take n keys)) + sound_seen r (cell_under nodes key)) e
      (sound_at keys n key d l h)

-- ---- `$0` numbers

above_at : (zs : List ℕ) (n z d : ℕ) → n < length zs → z ≡ get_or zs n d → next_above (take (suc n) zs) ≡ max (next_above (take n zs)) (z + 1)
above_at [] n z d l h = absurd (omega (arith, l))
above_at (x ∷ zs) zero z d l h = omega (arith, h)
above_at (x ∷ zs) (suc n) z d l h = let rest = above_at zs n z d (omega (arith, l)) h in omega (arith, rest)

-- one number more
pub above_more : (zs : List ℕ) (n z d : ℕ) → n < length zs → z ≡ get_or zs n d → next_above (take (n + 1) zs) ≡ max (next_above (take n zs)) (z + 1)
above_more zs n z d l h =
    let e : suc n ≡ n + 1 = omega arith in
    subst (λ m. next_above (take m zs) ≡ max (next_above (take n zs)) (z + 1)) e (above_at zs n z d l h)

all_below : (zs : List ℕ) (n : ℕ) → next_above zs ≤ n → AllByRecursion (λ z. z < n) zs
all_below [] n h = tt
all_below (z ∷ zs) n h = (omega (arith, h), all_below zs n (omega (arith, h)))

few_above : (zs : List ℕ) (n : ℕ) → AllByRecursion (λ z. z ≤ n) zs → next_above zs ≤ n + 1
few_above [] n h = omega arith
few_above (z ∷ zs) n h = let first = h.0 in let rest = few_above zs n h.1 in omega (arith, first, rest)

-- ---- the counts

-- the counts of a patch whose boxes in text order have these keys
pub record IsCount (n : Counts) (p : Patch) (keys zeros : List ℕ) : Type 0 where
  pub boxes : n.boxes ≡ min (length keys) 16384
  pub wires : n.wires ≡ wires_told p.web
  pub sound : n.sound ≡ min (sound_among p.rate (map (cell_under (get p.grove.nodes)) keys)) (2 ^ 64 - 1)
  pub next : n.next_zero ≡ min (next_above zeros) (2 ^ 32 - 1)

module _ (n : Counts) (p : Patch) (t : Tree) (keys zeros : List ℕ) (are : AreOf (get p.grove.nodes) keys t.boxes) (told : zeros ≡ zeros_of t) (few : IsLimited p.rate t)
    (count : IsCount n p keys zeros) where
  boxes_so : n.boxes ≡ weight t.boxes
  boxes_so =
      let b = count.boxes in
      let w = boxes_told (get p.grove.nodes) keys t.boxes are in
      let l = few.boxes in
      omega (arith, b, w, l)

  sound_so : n.sound ≡ sound_of p.rate t.boxes
  sound_so =
      let b = count.sound in
      let w = sound_told p.rate (get p.grove.nodes) keys t.boxes are in
      let l = few.sound in
      omega (arith, b, w, l)

  zeros_few : next_above (zeros_of t) ≤ 1000000001
  zeros_few = few_above (zeros_of t) 1000000000 few.zeros

  zeros_so : n.next_zero ≡ next_above (zeros_of t)
  zeros_so =
      let b = count.next in
      let w = ap next_above told in
      let l = zeros_few in
      omega (arith, b, w, l)

  pub counted_so : GroveStands p.grove t.sheet t.boxes → (a : AreCounted n p) × (a.tree ≡ t) × (n.next_zero ≡ next_above (zeros_of t))
  counted_so g =
      let z = zeros_so in (
        record {
          tree = t;
          stands = g;
          boxes = boxes_so;
          wires = count.wires;
          sound = sound_so;
          zeros = all_below (zeros_of t) n.next_zero (omega (arith, z));
        },
        refl,
        zeros_so,
      )

  pub within_so : wires_told p.web ≤ 65536 → AreWithin n
  within_so l =
      let b = boxes_so in
      let bl = few.boxes in
      let w = count.wires in
      let s = sound_so in
      let sl = few.sound in
      let z = zeros_so in
      let zl = zeros_few in
      record { boxes = omega (arith, b, bl); wires = omega (arith, w, l); sound = omega (arith, s, sl); zeros = omega (arith, z, zl) }

-- ---- where the tree stays

seen_bare : (o : Option Node) → option_map node_seen (option_map (with_state None) o) ≡ option_map node_seen o
seen_bare None = refl
seen_bare (Some n) = refl

stands_stays : (nodes nodes2 : ℕ → Option Node) (boards : ℕ → Option Board) (b d : ℕ) (keys : List ℕ) (t : Trees)
    → ((k : ℕ) → option_map node_seen (nodes2 k) ≡ option_map node_seen (nodes k)) → Stands nodes boards b d keys t → Stands nodes2 boards b d keys t
stands_stays nodes nodes2 boards b d [] Done e S = tt
stands_stays nodes nodes2 boards b d (k ∷ ks) Done e S = absurd S
stands_stays nodes nodes2 boards b d [] (Leaf c rest) e S = absurd S
stands_stays nodes nodes2 boards b d (k ∷ ks) (Leaf c rest) e S = (e k ∙ S.0, stands_stays nodes nodes2 boards b d ks rest e S.1)
stands_stays nodes nodes2 boards b d [] (Holder c s inner rest) e S = absurd S
stands_stays nodes nodes2 boards b d (k ∷ ks) (Holder c s inner rest) e S =
    (S.0, S.1, e k ∙ S.2, S.3, stands_stays nodes nodes2 boards S.0 (d + 1) S.1 inner e S.4, stands_stays nodes nodes2 boards b d ks rest e S.5)

-- a tree stands whatever its boxes keep
grove_stays : (g g2 : Grove) (s : Sheet) (t : Trees) → ((k : ℕ) → option_map (with_state None) (get g2.nodes k) ≡ option_map (with_state None) (get g.nodes k))
    → g2.boards ≡ g.boards → g2.root ≡ g.root → GroveStands g s t → GroveStands g2 s t
grove_stays g g2 s t e f r G =
    let same : (k : ℕ) → option_map node_seen (get g2.nodes k) ≡ option_map node_seen (get g.nodes k) = λ k.
    sym (seen_bare (get g2.nodes k)) ∙ ap (option_map node_seen) (e k) ∙ seen_bare (get g.nodes k) in
    record {
      keys = G.keys;
      root = ap (λ x. option_map board_seen (get x g2.root)) f ∙ ap (λ x. option_map board_seen (get g.boards x)) r ∙ G.root;
      stands = subst (λ x. Stands (get g2.nodes) (get x) g2.root 0 G.keys t) (sym f)
          (subst (λ x. Stands (get g2.nodes) (get g.boards) x 0 G.keys t) (sym r)
          (stands_stays (get g.nodes) (get g2.nodes) (get g.boards) g.root 0 G.keys t same G.stands));
    }

pub wires_anew : (n : Counts) (p q : Patch) → AreCounted n p → q.grove ≡ p.grove → q.rate ≡ p.rate → AreCounted (with_wires (wires_told q.web) n) q
wires_anew n p q a g r = record {
  tree = a.tree;
  stands = subst (λ (x : Grove). GroveStands x a.tree.sheet a.tree.boxes) (sym g) a.stands;
  boxes = a.boxes;
  wires = refl;
  sound = a.sound ∙ ap (λ (x : Rate). sound_of x a.tree.boxes) (sym r);
  zeros = a.zeros;
}

pub counts_alike : (n : Counts) (p q : Patch) → AreCounted n p → AreAlike p q → q.grove.root ≡ p.grove.root → q.rate ≡ p.rate → AreCounted n q
counts_alike n p q a e o r = record {
  tree = a.tree;
  stands = grove_stays p.grove q.grove a.tree.sheet a.tree.boxes e.nodes e.boards o a.stands;
  boxes = a.boxes;
  wires = a.wires ∙ sym (ap wires_told e.web);
  sound = a.sound ∙ ap (λ (x : Rate). sound_of x a.tree.boxes) (sym r);
  zeros = a.zeros;
}
