-- In text order each box that stands in a tree is listed once.
use Rattle.std.proofs.Common.{◌≡◌, ◌≢◌, ◌≤◌, ◌+◌, ◌-◌, ℕ, zero, suc, true, List, [], ◌∷◌, ◌++◌, slice_get, Option, Some, None, IfSome, refl, sym, ap, ◌∙◌, subst, arith}
use Rattle.std.specs.Prelude.{option_map, option_and_then}
use Rattle.std.specs.List.{AllByRecursion}
use Rattle.std.specs.Option.{option_map_or}
use Rattle.std.proofs.lemmas.Option.{none-some, same_Some}
use Rattle.slab.specs.Slab.{get}
use Rattle.pd_tree.specs.Trees.{Trees, Done, Leaf, Holder, Tree}
use Rattle.pd_grove.specs.declared.boards.Board.{Board}
use Rattle.pd_grove.specs.declared.grove.Grove.{Grove}
use Rattle.pd_grove.specs.Owning.{AreOwn, board_in}
use Rattle.pd_grove.specs.Standing.{BoardSeen, board_seen, depth_of, Stands, GroveStands}
use Rattle.pd_grove.specs.TextOrder.{deep, keys_standing, keys_in_order, keys_of_spots}
use Rattle.pd_grove.proofs.PlaceLemmas.{seen_keys}
use Rattle.pd_grove.proofs.SpotLemmas.{grove_spots, keys_stand}
use Rattle.pd_web.specs.Canvases.{keys_at}
use Rattle.pd_guards.proofs.FactLemmas.{all-append, all-at, all-weaker}
use Rattle.pd_proper_law.proofs.DistinctLemmas.{Dist, dist_from}

dist_both : (xs ys : List ℕ) → Dist xs → Dist ys → AllByRecursion (λ x. AllByRecursion (λ y. y ≢ x) ys) xs → Dist (xs ++ ys)
dist_both [] ys d e h = e
dist_both (x ∷ xs) ys d e h = (all-append (λ y. y ≢ x) xs ys d.0 h.0, dist_both xs ys d.1 e h.1)

seen_depth : (o : Option Board) (y : BoardSeen) → option_map board_seen o ≡ Some y → depth_of o ≡ y.depth
seen_depth None y h = absurd (none-some y h)
seen_depth (Some b) y h = ap (λ (x : BoardSeen). x.depth) (same_Some (board_seen b) y h)

seen_holder : (o : Option Board) (y : BoardSeen) → option_map board_seen o ≡ Some y → option_and_then (λ (b : Board). b.holder) o ≡ y.holder
seen_holder None y h = absurd (none-some y h)
seen_holder (Some b) y h = ap (λ (x : BoardSeen). x.holder) (same_Some (board_seen b) y h)

module _ (g : Grove) (own : AreOwn (get g.nodes) (get g.boards)) where
  -- the canvas of a box, the box around that, and how deep a box lies
  abbrev home : ℕ → Option ℕ
  home x = board_in (get g.nodes x)

  abbrev up : ℕ → Option ℕ
  up x = option_and_then (λ c. option_and_then (λ (b : Board). b.holder) (get g.boards c)) (home x)

  abbrev depth : ℕ → ℕ
  depth x = option_map_or (λ c. depth_of (get g.boards c)) (home x) 0

  -- the box around it so many levels up
  above : ℕ → ℕ → Option ℕ
  above zero x = Some x
  above (suc n) x = option_and_then up (above n x)

  -- the box x lies in the box k, which lies in so many canvases, or is it
  record LiesIn (d k x : ℕ) : Type 0 where
    low : d ≤ depth x
    top : above (depth x - d) x ≡ Some k

  record LiesAmong (d : ℕ) (keys : List ℕ) (x : ℕ) : Type 0 where
    key : ℕ
    place : ℕ
    at : slice_get keys place ≡ Some key
    lies : LiesIn d key x

  zero_left : (a d : ℕ) → a ≡ d → a - d ≡ 0
  zero_left a d e = omega (arith, e)

  no_less : (a d : ℕ) → a ≡ d → d ≤ a
  no_less a d e = omega (arith, e)

  one_less : (a d : ℕ) → d + 1 ≤ a → a - d ≡ suc (a - (d + 1))
  one_less a d h = omega (arith, h)

  less_deep : (a d : ℕ) → d + 1 ≤ a → d ≤ a
  less_deep a d h = omega (arith, h)

  never_deep : (a b d : ℕ) → a ≡ d → b ≡ a → d + 1 ≤ b → ⊥
  never_deep a b d e f h = omega (arith, e, f, h)

  itself : (d k : ℕ) → depth k ≡ d → LiesIn d k k
  unfolding above
  itself d k e = record { low = no_less (depth k) d e; top = subst (λ n. above n k ≡ Some k) (sym (zero_left (depth k) d e)) refl }

  one_up : (d k j x : ℕ) → LiesIn (d + 1) j x → up j ≡ Some k → LiesIn d k x
  unfolding above
  one_up d k j x h e = record {
    low = less_deep (depth x) d h.low;
    top = ap (λ n. above n x) (one_less (depth x) d h.low) ∙ ap (option_and_then up) h.top ∙ e;
  }

  later : (d k : ℕ) (ks : List ℕ) (x : ℕ) → LiesAmong d ks x → LiesAmong d (k ∷ ks) x
  later d k ks x h = record { key = h.key; place = suc h.place; at = h.at; lies = h.lies }

  home_depth : (b k : ℕ) (y : BoardSeen) → home k ≡ Some b → option_map board_seen (get g.boards b) ≡ Some y → depth k ≡ y.depth
  home_depth b k y h e = ap (λ (o : Option ℕ). option_map_or (λ c. depth_of (get g.boards c)) o 0) h ∙ seen_depth (get g.boards b) y e

  home_up : (b k : ℕ) (y : BoardSeen) → home k ≡ Some b → option_map board_seen (get g.boards b) ≡ Some y → up k ≡ y.holder
  home_up b k y h e = ap (option_and_then (λ c. option_and_then (λ (x : Board). x.holder) (get g.boards c))) h ∙ seen_holder (get g.boards b) y e

  -- boxes of a canvas lie in so many canvases
  abbrev AtDepth : ℕ → List ℕ → Type 0
  AtDepth d keys = (i k : ℕ) → slice_get keys i ≡ Some k → depth k ≡ d

  keyed : (j : ℕ) (y : BoardSeen) → option_map board_seen (get g.boards j) ≡ Some y → (i x : ℕ) → slice_get y.keys i ≡ Some x → slice_get (keys_at g j) i ≡ Some x
  keyed j y e i x at = ap (λ (ks : List ℕ). slice_get ks i) (seen_keys (get g.boards j) y e) ∙ at

  board_home : (j : ℕ) (y : BoardSeen) → option_map board_seen (get g.boards j) ≡ Some y → (i x : ℕ) → slice_get y.keys i ≡ Some x → home x ≡ Some j
  board_home j y e i x at = own.home j i x (keyed j y e i x at)

  board_depth : (j : ℕ) (y : BoardSeen) → option_map board_seen (get g.boards j) ≡ Some y → AtDepth y.depth y.keys
  board_depth j y e i x at = home_depth j x y (board_home j y e i x at) e

  board_once : (j : ℕ) (y : BoardSeen) → option_map board_seen (get g.boards j) ≡ Some y → Dist y.keys
  board_once j y e = dist_from y.keys (λ i n x a b. own.once j i n x (keyed j y e i x a) (keyed j y e n x b))

  -- a box in a canvas lies in the box that holds it
  board_up : (d k j : ℕ) (y : BoardSeen) → option_map board_seen (get g.boards j) ≡ Some y → y.holder ≡ Some k → (x : ℕ) → LiesAmong (d + 1) y.keys x → LiesIn d k x
  board_up d k j y e held x h = one_up d k h.key x h.lies (home_up j h.key y (board_home j y e h.place h.key h.at) e ∙ held)

  abbrev standing : (b d : ℕ) (keys : List ℕ) (t : Trees) → Stands (get g.nodes) (get g.boards) b d keys t → List ℕ
  standing b d keys t S = keys_standing (get g.nodes) (get g.boards) b d keys t S

  all_lie : (b d : ℕ) (keys : List ℕ) (t : Trees) → AtDepth d keys → (S : Stands (get g.nodes) (get g.boards) b d keys t) → AllByRecursion (LiesAmong d keys) (standing b d keys t S)
  all_lie b d [] Done dep S = tt
  all_lie b d (k ∷ ks) Done dep S = tt
  all_lie b d [] (Leaf c rest) dep S = tt
  all_lie b d (k ∷ ks) (Leaf c rest) dep S = (
    record { key = k; place = 0; at = refl; lies = itself d k (dep 0 k refl) },
    all-weaker (LiesAmong d ks) (LiesAmong d (k ∷ ks)) (later d k ks) (standing b d ks rest S.1) (all_lie b d ks rest (λ i x e. dep (suc i) x e) S.1),
  )
  all_lie b d [] (Holder c s inner rest) dep S = tt
  all_lie b d (k ∷ ks) (Holder c s inner rest) dep S =
      let inside = all_lie S.0 (d + 1) S.1 inner (board_depth S.0 _ S.3) S.4 in (
        record { key = k; place = 0; at = refl; lies = itself d k (dep 0 k refl) },
        all-append (LiesAmong d (k ∷ ks)) (standing S.0 (d + 1) S.1 inner S.4) (standing b d ks rest S.5)
            (all-weaker (LiesAmong (d + 1) S.1) (LiesAmong d (k ∷ ks))
            (λ x h. record { key = k; place = 0; at = refl; lies = board_up d k S.0 _ S.3 refl x h }) (standing S.0 (d + 1) S.1 inner S.4) inside)
            (all-weaker (LiesAmong d ks) (LiesAmong d (k ∷ ks)) (later d k ks) (standing b d ks rest S.5) (all_lie b d ks rest (λ i x e. dep (suc i) x e) S.5)),
      )

  -- a box that lies in one of others lies not in this one
  not_in : (d k : ℕ) (ks : List ℕ) → AllByRecursion (λ j. j ≢ k) ks → (x y : ℕ) → LiesIn d k x → LiesAmong d ks y → y ≢ x
  not_in d k ks n x y h a e = known (slice_get ks a.place) a.at (all-at (λ j. j ≢ k) ks a.place n)
    where
      same : a.key ≡ k
      same = same_Some a.key k (sym a.lies.top ∙ ap (λ z. above (depth z - d) z) e ∙ h.top)

      known : (o : Option ℕ) → o ≡ Some a.key → IfSome o (λ j. j ≢ k) → ⊥
      known o at other = (subst (λ (u : Option ℕ). IfSome u (λ j. j ≢ k)) at other) same

  pub dist_standing : (b d : ℕ) (keys : List ℕ) (t : Trees) → AtDepth d keys → Dist keys → (S : Stands (get g.nodes) (get g.boards) b d keys t) → Dist (standing b d keys t S)
  dist_standing b d [] Done dep u S = tt
  dist_standing b d (k ∷ ks) Done dep u S = tt
  dist_standing b d [] (Leaf c rest) dep u S = tt
  dist_standing b d (k ∷ ks) (Leaf c rest) dep u S =
      let on = all_lie b d ks rest (λ i x e. dep (suc i) x e) S.1 in
      let here = itself d k (dep 0 k refl) in (
        all-weaker (LiesAmong d ks) (λ y. y ≢ k) (λ y a. not_in d k ks u.0 k y here a) (standing b d ks rest S.1) on,
        dist_standing b d ks rest (λ i x e. dep (suc i) x e) u.1 S.1,
      )
  dist_standing b d [] (Holder c s inner rest) dep u S = tt
  dist_standing b d (k ∷ ks) (Holder c s inner rest) dep u S =
      let xs = standing S.0 (d + 1) S.1 inner S.4 in
      let ys = standing b d ks rest S.5 in
      let inside = all_lie S.0 (d + 1) S.1 inner (board_depth S.0 _ S.3) S.4 in
      let on = all_lie b d ks rest (λ i x e. dep (suc i) x e) S.5 in
      let here = itself d k (dep 0 k refl) in (
        all-append (λ y. y ≢ k) xs ys
            (all-weaker (LiesAmong (d + 1) S.1) (λ y. y ≢ k) (λ y h e. never_deep (depth k) (depth y) d (dep 0 k refl) (ap (λ z. depth z) e) h.lies.low) xs inside)
            (all-weaker (LiesAmong d ks) (λ y. y ≢ k) (λ y a. not_in d k ks u.0 k y here a) ys on),
        dist_both xs ys (dist_standing S.0 (d + 1) S.1 inner (board_depth S.0 _ S.3) (board_once S.0 _ S.3) S.4) (dist_standing b d ks rest (λ i x e. dep (suc i) x e) u.1 S.5)
            (all-weaker (LiesAmong (d + 1) S.1) (λ x. AllByRecursion (λ y. y ≢ x) ys)
            (λ x h. all-weaker (LiesAmong d ks) (λ y. y ≢ x) (λ y a. not_in d k ks u.0 x y (board_up d k S.0 _ S.3 refl x h) a) ys on) xs inside),
      )

-- ---- a whole tree

pub in_order : (g : Grove) (t : Tree) (G : GroveStands g t.sheet t.boxes) → deep t.boxes ≤ 256
    → keys_in_order g ≡ keys_standing (get g.nodes) (get g.boards) g.root 0 G.keys t.boxes G.stands
in_order g t G low = ap keys_of_spots (grove_spots g t.sheet t.boxes G low) ∙ keys_stand (get g.nodes) (get g.boards) g.root 0 true G.keys t.boxes G.stands

pub dist_tree : (g : Grove) (t : Tree) (G : GroveStands g t.sheet t.boxes) → AreOwn (get g.nodes) (get g.boards)
    → Dist (keys_standing (get g.nodes) (get g.boards) g.root 0 G.keys t.boxes G.stands)
dist_tree g t G own = dist_standing g own g.root 0 G.keys t.boxes (board_depth g own g.root _ G.root) (board_once g own g.root _ G.root) G.stands
