-- Planting box by box.
use Rattle.std.proofs.Common.{◌≡◌, ◌≢◌, ℕ, suc, ◌+◌, ◌-◌, ◌<◌, ◌≤◌, List, [], ◌∷◌, ◌++◌, append_assoc, length, Option, Some, None, IsSome, refl, sym, ap, ◌∙◌, subst, arith}
use Rattle.std.specs.Prelude.{option_map, max}
use Rattle.std.proofs.lemmas.List.{append-nil}
use Rattle.std.proofs.lemmas.Option.{none-some}
use Rattle.slab.specs.Slab.{Slab, get}
use Rattle.pd_clock.specs.declared.times.Rate.{Rate}
use Rattle.pd_tree.specs.declared.rows.Sheet.{Sheet}
use Rattle.pd_tree.specs.Trees.{Cell, Trees, Done, Leaf, Holder, Stand, join, width, stands_of}
use Rattle.pd_grove.specs.declared.nodes.Node.{Node}
use Rattle.pd_grove.specs.declared.boards.Board.{Board}
use Rattle.pd_grove.specs.declared.seeds.Seed.{Seed}
use Rattle.pd_grove.specs.Standing.{NodeSeen, node_seen, BoardSeen, board_seen, depth_of, board_room, with_inner, Gains, NodesOf, Stands}
use Rattle.pd_grove.specs.Planting.{stands_ready, SeedsOf, AreRoomy, HaveRoom, Keeps, Plants, PlantsInside, Uses, with_keys}
use Rattle.pd_grove.specs.States.{AreFresh, NodesFresh, SeedsSmall, NodesSmall}
use Rattle.pd_grove.specs.Owning.{AreOwn}
use Rattle.pd_grove.specs.TextOrder.{deep}
use Rattle.pd_grove.specs.Forest.{IsForest}
use Rattle.pd_grove.specs.Labelled.{HaveLabels}
use Rattle.pd_grove.proofs.UseLemmas.{uses_none, uses_then, made_stays}
use Rattle.pd_grove.proofs.TreeLemmas.{width-join, deep-join, join-assoc, first_box, other_boxes, first_other, first_width, first_stands, no_boxes}
use Rattle.pd_grove.proofs.Standings.{stands_on, stands_join}

-- of boxes to be planted the first i stand, and the others are ready
pub record Split (nodes₀ nodes₁ : ℕ → Option Node) (boards₀ boards₁ : ℕ → Option Board) (seeds : List Seed) (b d i : ℕ) (t : Trees) (more : List Stand) : Type 0 where
  pub done : Trees
  pub left : Trees
  pub whole : join done left ≡ t
  pub wide : width done ≡ i
  pub plants : Plants nodes₀ nodes₁ boards₀ boards₁ b d done
  pub ready : stands_ready seeds ≡ stands_of left ++ more

-- planting after i of the boxes
pub record Halfway (nodes₀ nodes₁ : Slab Node) (boards₀ boards₁ : Slab Board) (labels₀ labels₁ : List ℕ) (seeds₀ seeds₁ : List Seed) (b d i count : ℕ) : Type 0 where
  pub within : i ≤ count
  pub kept : Keeps (get nodes₀) (get nodes₁) (get boards₀) (get boards₁) b
  pub own_room : board_room (get boards₀ b) ≤ board_room (get boards₁ b) + i
  pub room : HaveRoom nodes₁ boards₁ (length seeds₁)
  pub nodes_capacity : nodes₁.capacity ≡ nodes₀.capacity
  pub boards_capacity : boards₁.capacity ≡ boards₀.capacity
  pub roomy : AreRoomy seeds₁
  pub fewer : length seeds₁ ≤ length seeds₀
  pub fresh : (rate : Rate) (now : ℕ) → AreFresh rate now seeds₀ → NodesFresh rate now (get nodes₀) → AreFresh rate now seeds₁ × NodesFresh rate now (get nodes₁)
  pub small : SeedsSmall seeds₀ → NodesSmall (get nodes₀) → SeedsSmall seeds₁ × NodesSmall (get nodes₁)
  pub of_tree : (t : Trees) → SeedsOf t seeds₀ → NodesOf t (get nodes₀) → SeedsOf t seeds₁ × NodesOf t (get nodes₁)
  pub own : AreOwn (get nodes₀) (get boards₀) → AreOwn (get nodes₁) (get boards₁)
  pub labelled : AreOwn (get nodes₀) (get boards₀) → HaveLabels nodes₀.capacity labels₀ (get boards₀) → HaveLabels nodes₁.capacity labels₁ (get boards₁)
  pub uses : Uses (get nodes₀) (get nodes₁) seeds₀ seeds₁
  pub forest : (root : ℕ) (t : Trees) (more : List Stand) → stands_ready seeds₀ ≡ stands_of t ++ more → width t ≡ count → d + deep t < 257
      → IsForest (get nodes₀) (get boards₀) root → IsForest (get nodes₁) (get boards₁) root
  pub splits : (t : Trees) (more : List Stand) → stands_ready seeds₀ ≡ stands_of t ++ more → width t ≡ count
      → Split (get nodes₀) (get nodes₁) (get boards₀) (get boards₁) seeds₁ b d i t more

pub keeps_same : (nodes : ℕ → Option Node) (boards : ℕ → Option Board) (b : ℕ) → IsSome (boards b) → Keeps nodes nodes boards boards b
keeps_same nodes boards b l = record { nodes_stay = λ k h. refl; boards_stay = λ k n h. refl; lives = l; depth = refl }

pub some_on : {A : Type 0} (x y : Option A) → y ≡ x → IsSome x → IsSome y
some_on x y e h = let P : Option _ → Type 0 = λ o. IsSome o in subst P (sym e) h

pub keeps_then : (n₀ n₁ n₂ : ℕ → Option Node) (b₀ b₁ b₂ : ℕ → Option Board) (b : ℕ) → Keeps n₀ n₁ b₀ b₁ b → Keeps n₁ n₂ b₁ b₂ b → Keeps n₀ n₂ b₀ b₂ b
keeps_then n₀ n₁ n₂ b₀ b₁ b₂ b K L = record {
  nodes_stay = λ k h. L.nodes_stay k (some_on (n₀ k) (n₁ k) (K.nodes_stay k h) h) ∙ K.nodes_stay k h;
  boards_stay = λ k n h. L.boards_stay k n (some_on (b₀ k) (b₁ k) (K.boards_stay k n h) h) ∙ K.boards_stay k n h;
  lives = L.lives;
  depth = L.depth ∙ K.depth;
}

with_none : (o : Option BoardSeen) → o ≡ option_map (with_keys []) o
with_none None = refl
with_none (Some s) =
    ap (λ (ks : List ℕ). Some (record { holder = s.holder; depth = s.depth; sheet = s.sheet; keys = ks })) (sym (append-nil s.keys))

with_more : (ks ls : List ℕ) (o : Option BoardSeen) → option_map (with_keys ls) (option_map (with_keys ks) o) ≡ option_map (with_keys (ks ++ ls)) o
with_more ks ls None = refl
with_more ks ls (Some s) =
    ap (λ (l : List ℕ). Some (record { holder = s.holder; depth = s.depth; sheet = s.sheet; keys = l })) (append_assoc s.keys ks ls)

pub plants_none : (nodes : ℕ → Option Node) (boards : ℕ → Option Board) (b d : ℕ) → Plants nodes nodes boards boards b d Done
plants_none nodes boards b d = record { keys = []; gains = with_none (option_map board_seen (boards b)); stands = tt }

deep_differs : (boards : ℕ → Option Board) (b d j : ℕ) → depth_of (boards b) ≡ d → d < depth_of (boards j) → j ≢ b
deep_differs boards b d j e h q = let s : depth_of (boards j) ≡ depth_of (boards b) = ap (λ x. depth_of (boards x)) q in absurd (omega (arith, e, h, s))

pub plants_then : (n₀ n₁ n₂ : ℕ → Option Node) (b₀ b₁ b₂ : ℕ → Option Board) (b d : ℕ) (t u : Trees)
    → depth_of (b₁ b) ≡ d → Keeps n₁ n₂ b₁ b₂ b → Plants n₀ n₁ b₀ b₁ b d t → Plants n₁ n₂ b₁ b₂ b d u → Plants n₀ n₂ b₀ b₂ b d (join t u)
plants_then n₀ n₁ n₂ b₀ b₁ b₂ b d t u e K P Q = record {
  keys = P.keys ++ Q.keys;
  gains = Q.gains ∙ ap (option_map (with_keys Q.keys)) P.gains ∙ with_more P.keys Q.keys (option_map board_seen (b₀ b));
  stands = stands_join n₂ b₂ b d P.keys Q.keys t u
      (stands_on n₁ n₂ b₁ b₂ b d P.keys t K.nodes_stay (λ j l h. K.boards_stay j (deep_differs b₁ b d j e h) l) P.stands) Q.stands;
}

pub halfway_start : (nodes : Slab Node) (boards : Slab Board) (labels : List ℕ) (seeds : List Seed) (b d count : ℕ) → IsSome (get boards b) → HaveRoom nodes boards (length seeds) → AreRoomy seeds
    → Halfway nodes nodes boards boards labels labels seeds seeds b d 0 count
halfway_start nodes boards labels seeds b d count l R A = record {
  within = omega arith;
  kept = keeps_same (get nodes) (get boards) b l;
  own_room = omega arith;
  room = R;
  roomy = A;
  fewer = omega arith;
  nodes_capacity = refl;
  boards_capacity = refl;
  fresh = λ rate now f g. (f, g);
  small = λ f g. (f, g);
  of_tree = λ t f g. (f, g);
  own = λ h. h;
  labelled = λ o h. h;
  uses = uses_none (get nodes) seeds;
  forest = λ root t more h w low F. F;
  splits = λ t more h w. record { done = Done; left = t; whole = refl; wide = refl; plants = plants_none (get nodes) (get boards) b d; ready = h };
}

-- one box more
pub split_next : (n₀ n₁ n₂ : ℕ → Option Node) (b₀ b₁ b₂ : ℕ → Option Board) (seeds seeds' : List Seed) (b d i count : ℕ) (t : Trees) (more : List Stand)
    → i < count → width t ≡ count → depth_of (b₁ b) ≡ d → Keeps n₁ n₂ b₁ b₂ b
    → ((u : Trees) (rest : List Stand) → stands_ready seeds ≡ stands_of u ++ rest → width u ≡ 1 → Plants n₁ n₂ b₁ b₂ b d u × (stands_ready seeds' ≡ rest))
    → Split n₀ n₁ b₀ b₁ seeds b d i t more → Split n₀ n₂ b₀ b₂ seeds' b d (i + 1) t more
split_next n₀ n₁ n₂ b₀ b₁ b₂ seeds seeds' b d i count t more l w e K P S =
    let u = first_box S.left in
    let v = other_boxes S.left in
    let wide : width S.left ≡ suc (count - i - 1) = (let a = width-join S.done S.left in let c = ap width S.whole in let z = S.wide in omega (arith, a, c, z, w, l)) in
    let one : width u ≡ 1 = first_width S.left (count - i - 1) wide in
    let ready : stands_ready seeds ≡ stands_of u ++ (stands_of v ++ more) = S.ready ∙ ap (λ x. x ++ more) (first_stands S.left) ∙ append_assoc (stands_of u) (stands_of v) more in
    let p = P u (stands_of v ++ more) ready one in
    record {
      done = join S.done u;
      left = v;
      whole = join-assoc S.done u v ∙ ap (join S.done) (first_other S.left) ∙ S.whole;
      wide = (let a = width-join S.done u in let z = S.wide in omega (arith, a, z, one));
      plants = plants_then n₀ n₁ n₂ b₀ b₁ b₂ b d S.done u e K S.plants p.0;
      ready = p.1;
    }

-- all boxes stand
pub split_end : (n₀ n₁ : ℕ → Option Node) (b₀ b₁ : ℕ → Option Board) (seeds : List Seed) (b d i : ℕ) (t : Trees) (more : List Stand)
    → width t ≡ i → Split n₀ n₁ b₀ b₁ seeds b d i t more → Plants n₀ n₁ b₀ b₁ b d t × (stands_ready seeds ≡ more)
split_end n₀ n₁ b₀ b₁ seeds b d i t more w S =
    let none : S.left ≡ Done = no_boxes S.left (let a = width-join S.done S.left in let c = ap width S.whole in let z = S.wide in omega (arith, a, c, z, w)) in
    let all : S.done ≡ t = sym (join_done S.done) ∙ ap (join S.done) (sym none) ∙ S.whole in
    (subst (λ x. Plants n₀ n₁ b₀ b₁ b d x) all S.plants, S.ready ∙ ap (λ x. stands_of x ++ more) none)
  where
    join_done : (x : Trees) → join x Done ≡ x
    join_done Done = refl
    join_done (Leaf c rest) = ap (Leaf c) (join_done rest)
    join_done (Holder c s inner rest) = ap (Holder c s inner) (join_done rest)

-- a forest stays one with the next box
forest_next : (n₀ n₁ n₂ : ℕ → Option Node) (b₀ b₁ b₂ : ℕ → Option Board) (seeds : List Seed) (root b d i count : ℕ) (t : Trees) (more : List Stand)
    → i < count → width t ≡ count → d + deep t < 257 → Split n₀ n₁ b₀ b₁ seeds b d i t more
    → ((root : ℕ) (u : Trees) (rest : List Stand) → stands_ready seeds ≡ stands_of u ++ rest → width u ≡ 1 → d + deep u < 257 → IsForest n₁ b₁ root → IsForest n₂ b₂ root)
    → IsForest n₁ b₁ root → IsForest n₂ b₂ root
forest_next n₀ n₁ n₂ b₀ b₁ b₂ seeds root b d i count t more l w low S G =
    let u = first_box S.left in
    let v = other_boxes S.left in
    let wide : width S.left ≡ suc (count - i - 1) = (let a = width-join S.done S.left in let c = ap width S.whole in let z = S.wide in omega (arith, a, c, z, w, l)) in
    let whole : deep t ≡ max (deep S.done) (deep S.left) = ap deep (sym S.whole) ∙ deep-join S.done S.left in
    let first : deep S.left ≡ max (deep u) (deep v) = ap deep (sym (first_other S.left)) ∙ deep-join u v in
    G root u (stands_of v ++ more) (S.ready ∙ ap (λ x. x ++ more) (first_stands S.left) ∙ append_assoc (stands_of u) (stands_of v) more) (first_width S.left (count - i - 1) wide)
    (omega (arith, whole, first, low))

-- one box more has been planted
pub halfway_next : (n₀ n₁ n₂ : Slab Node) (b₀ b₁ b₂ : Slab Board) (l₀ l₁ l₂ : List ℕ) (seeds₀ seeds₁ seeds₂ : List Seed) (b d i count : ℕ)
    → i < count → depth_of (get b₀ b) ≡ d
    → Halfway n₀ n₁ b₀ b₁ l₀ l₁ seeds₀ seeds₁ b d i count
    → Keeps (get n₁) (get n₂) (get b₁) (get b₂) b
    → board_room (get b₁ b) ≤ board_room (get b₂ b) + 1
    → HaveRoom n₂ b₂ (length seeds₂) → n₂.capacity ≡ n₁.capacity → b₂.capacity ≡ b₁.capacity → AreRoomy seeds₂ → length seeds₂ ≤ length seeds₁
    → ((rate : Rate) (now : ℕ) → AreFresh rate now seeds₁ → NodesFresh rate now (get n₁) → AreFresh rate now seeds₂ × NodesFresh rate now (get n₂))
    → (SeedsSmall seeds₁ → NodesSmall (get n₁) → SeedsSmall seeds₂ × NodesSmall (get n₂))
    → ((t : Trees) → SeedsOf t seeds₁ → NodesOf t (get n₁) → SeedsOf t seeds₂ × NodesOf t (get n₂))
    → (AreOwn (get n₁) (get b₁) → AreOwn (get n₂) (get b₂))
    → (AreOwn (get n₁) (get b₁) → HaveLabels n₁.capacity l₁ (get b₁) → HaveLabels n₂.capacity l₂ (get b₂))
    → Uses (get n₁) (get n₂) seeds₁ seeds₂
    → ((root : ℕ) (u : Trees) (rest : List Stand) → stands_ready seeds₁ ≡ stands_of u ++ rest → width u ≡ 1 → d + deep u < 257 → IsForest (get n₁) (get b₁) root → IsForest (get n₂) (get b₂) root)
    → ((u : Trees) (rest : List Stand) → stands_ready seeds₁ ≡ stands_of u ++ rest → width u ≡ 1 → Plants (get n₁) (get n₂) (get b₁) (get b₂) b d u × (stands_ready seeds₂ ≡ rest))
    → Halfway n₀ n₂ b₀ b₂ l₀ l₂ seeds₀ seeds₂ b d (i + 1) count
halfway_next n₀ n₁ n₂ b₀ b₁ b₂ l₀ l₁ l₂ seeds₀ seeds₁ seeds₂ b d i count l e H K O R X Y A F N M T W Q U G P = record {
  within = omega (arith, l);
  kept = keeps_then (get n₀) (get n₁) (get n₂) (get b₀) (get b₁) (get b₂) b H.kept K;
  own_room = (let o = H.own_room in omega (arith, o, O));
  nodes_capacity = X ∙ H.nodes_capacity;
  boards_capacity = Y ∙ H.boards_capacity;
  room = R;
  roomy = A;
  fewer = (let f = H.fewer in omega (arith, f, F));
  fresh = λ rate now f g. let x = H.fresh rate now f g in N rate now x.0 x.1;
  small = λ f g. let x = H.small f g in M x.0 x.1;
  of_tree = λ t f g. let x = H.of_tree t f g in T t x.0 x.1;
  own = λ h. W (H.own h);
  labelled = λ o h. Q (H.own o) (H.labelled o h);
  uses = uses_then (get n₀) (get n₁) (get n₂) seeds₀ seeds₁ seeds₂ (λ k s m. made_stays (get n₁ k) (get n₂ k) s (K.nodes_stay k) m) H.uses U;
  forest = λ root t more h w low F. forest_next (get n₀) (get n₁) (get n₂) (get b₀) (get b₁) (get b₂) seeds₁ root b d i count t more l w low (H.splits t more h w) G (H.forest root t more h w low F);
  splits = λ t more h w. split_next (get n₀) (get n₁) (get n₂) (get b₀) (get b₁) (get b₂) seeds₁ seeds₂ b d i count t more l w (H.kept.depth ∙ e) K P (H.splits t more h w);
}

-- no box where no seed is left
pub none_left : (t : Trees) (more : List Stand) → [] ≡ stands_of t ++ more → width t ≡ 1 → ⊥
none_left Done more h w = absurd (omega (arith, w))
none_left (Leaf c rest) more h w = absurd (cc)
none_left (Holder c s inner rest) more h w = absurd (cc)

abbrev pub first_cell : Cell → List Stand → Cell
first_cell c [] = c
first_cell c (x ∷ xs) = x.cell

abbrev pub first_sheet : Option Sheet → List Stand → Option Sheet
first_sheet s [] = s
first_sheet s (x ∷ xs) = x.sheet

abbrev pub first_count : ℕ → List Stand → ℕ
first_count n [] = n
first_count n (x ∷ xs) = x.boxes

abbrev pub behind : List Stand → List Stand
behind [] = []
behind (x ∷ xs) = xs

inner_seen : (j : ℕ) (o : Option Node) → option_map node_seen (option_map (with_inner j) o) ≡ option_map (λ (s : NodeSeen). record { board = s.board; cell = s.cell; inner = Some j }) (option_map node_seen o)
inner_seen j None = refl
inner_seen j (Some n) = refl

-- a box that was put under the key k stands in its canvas, with what it holds
pub box_stood : (n₁ n₂ : ℕ → Option Node) (b₁ b₂ : ℕ → Option Board) (k b d boxes : ℕ) (c : Cell) (sheet : Option Sheet) (seeds seeds' : List Seed)
    → option_map node_seen (n₁ k) ≡ Some (record { board = b; cell = c; inner = None })
    → (sheet ≡ None → (n₂ k ≡ n₁ k) × (seeds' ≡ seeds))
    → ((s : Sheet) (t : Trees) (more : List Stand) → sheet ≡ Some s → stands_ready seeds ≡ stands_of t ++ more → width t ≡ boxes
    → PlantsInside n₁ n₂ b₁ b₂ k (d + 1) s t × (stands_ready seeds' ≡ more))
    → (t : Trees) (more : List Stand) → record { cell = c; sheet = sheet; boxes = boxes } ∷ stands_ready seeds ≡ stands_of t ++ more → width t ≡ 1
    → Stands n₂ b₂ b d (k ∷ []) t × (stands_ready seeds' ≡ more)
box_stood n₁ n₂ b₁ b₂ k b d boxes c sheet seeds seeds' N P I Done more h w = absurd (omega (arith, w))
box_stood n₁ n₂ b₁ b₂ k b d boxes c sheet seeds seeds' N P I (Leaf c' (Leaf x rest)) more h w = absurd (omega (arith, w))
box_stood n₁ n₂ b₁ b₂ k b d boxes c sheet seeds seeds' N P I (Leaf c' (Holder x y z rest)) more h w = absurd (omega (arith, w))
box_stood n₁ n₂ b₁ b₂ k b d boxes c sheet seeds seeds' N P I (Holder c' s inner (Leaf x rest)) more h w = absurd (omega (arith, w))
box_stood n₁ n₂ b₁ b₂ k b d boxes c sheet seeds seeds' N P I (Holder c' s inner (Holder x y z rest)) more h w = absurd (omega (arith, w))
box_stood n₁ n₂ b₁ b₂ k b d boxes c sheet seeds seeds' N P I (Leaf c' Done) more h w =
    let p = P (ap (first_sheet sheet) h) in (
      (ap (option_map node_seen) p.0 ∙ N ∙ ap (λ (x : Cell). Some (record { board = b; cell = x; inner = None })) (ap (first_cell c) h), tt),
      ap stands_ready p.1 ∙ ap behind h,
    )
box_stood n₁ n₂ b₁ b₂ k b d boxes c sheet seeds seeds' N P I (Holder c' s inner Done) more h w =
    let p = I s inner more (ap (first_sheet sheet) h) (ap behind h ∙ ap (λ x. x ++ more) (append-nil (stands_of inner))) (sym (ap (first_count boxes) h)) in
    let q = p.0 in (
      (
        q.inner,
        q.keys,
        ap (option_map node_seen) q.node ∙ inner_seen q.inner (n₁ k) ∙ ap (option_map (λ (s : NodeSeen). record { board = s.board; cell = s.cell; inner = Some q.inner })) N
            ∙ ap (λ (x : Cell). Some (record { board = b; cell = x; inner = Some q.inner })) (ap (first_cell c) h),
        q.board,
        q.stands,
        tt,
      ),
      p.1,
    )

gained_live : (o o' : Option Board) (k : ℕ) → IsSome o → option_map board_seen o' ≡ option_map (with_keys (k ∷ [])) (option_map board_seen o) → IsSome o'
gained_live None o' k l h = absurd (cc)
gained_live (Some b) None k l h = absurd (none-some _ h)
gained_live (Some b) (Some b') k l h = refl

-- a canvas that gained a box is there
pub gains_live : (b₀ b₁ : ℕ → Option Board) (b k : ℕ) → IsSome (b₀ b) → Gains b₀ b₁ b k → IsSome (b₁ b)
gains_live b₀ b₁ b k l G = gained_live (b₀ b) (b₁ b) k l G.seen

-- a box that came last in its canvas stands there, with what it holds
pub box_planted : (n₀ n₁ n₂ : ℕ → Option Node) (b₀ b₁ b₂ : ℕ → Option Board) (k b d : ℕ) (seeds' : List Seed)
    → IsSome (b₀ b) → Gains b₀ b₁ b k → ((j : ℕ) → IsSome (b₁ j) → b₂ j ≡ b₁ j)
    → (t : Trees) (more : List Stand) → Stands n₂ b₂ b d (k ∷ []) t × (stands_ready seeds' ≡ more) → Plants n₀ n₂ b₀ b₂ b d t × (stands_ready seeds' ≡ more)
box_planted n₀ n₁ n₂ b₀ b₁ b₂ k b d seeds' l G B t more S = (
  record { keys = k ∷ []; gains = ap (option_map board_seen) (B b (gains_live b₀ b₁ b k l G)) ∙ G.seen; stands = S.0 },
  S.1,
)
