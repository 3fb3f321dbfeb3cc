-- How many wires the document of a running patch has: those that leave the boxes of it, each of which stands once in it.
use Rattle.std.proofs.Common.{◌≡◌, ◌≢◌, ◌≤◌, ◌+◌, ◌-◌, ℕ, zero, suc, List, [], ◌∷◌, ◌++◌, length, slice_get, Option, Some, None, IfSome, refl, sym, ap, ◌∙◌, subst, arith, length-append}
use Rattle.std.specs.Prelude.{option_map, option_and_then}
use Rattle.std.specs.List.{AllByRecursion}
use Rattle.std.specs.Option.{option_map_or}
use Rattle.std.proofs.lemmas.Option.{none-some, same_Some}
use Rattle.slab.specs.Slab.{get}
use Rattle.pd_canvas.specs.declared.wires.Wire.{Wire}
use Rattle.pd_canvas.specs.Pages.{Shape, Sub, Head, Boxes}
use Rattle.pd_canvas.specs.Proper.{inner_wires, count_wires}
use Rattle.pd_tree.specs.declared.rows.Sheet.{Sheet}
use Rattle.pd_tree.specs.Trees.{Cell, Trees, Done, Leaf, Holder, Tree, box_with, document_boxes, document_in}
use Rattle.pd_grove.specs.declared.nodes.Node.{Node}
use Rattle.pd_grove.specs.declared.boards.Board.{Board}
use Rattle.pd_grove.specs.declared.grove.Grove.{Grove}
use Rattle.pd_grove.specs.Owning.{AreOwn, board_in}
use Rattle.pd_grove.specs.Standing.{BoardSeen, board_seen, depth_of, Stands, GroveStands}
use Rattle.pd_grove.specs.Telling.{inner_in, keys_in}
use Rattle.pd_grove.specs.TextOrder.{keys_inside}
use Rattle.pd_grove.proofs.PlaceLemmas.{seen_keys}
use Rattle.pd_web.specs.declared.web.Web.{Web}
use Rattle.pd_web.specs.Canvases.{keys_at}
use Rattle.pd_web.specs.Changes.{wires_told}
use Rattle.pd_present.specs.Presents.{box_wires, wires_among}
use Rattle.pd_regrowth_law.specs.Rewiring.{with_wires}
use Rattle.pd_reload_law.specs.Saving.{holder_now, boxes_now, tree_now}
use Rattle.pd_reload_law.specs.Wires.{StandOnce}
use Rattle.pd_guards.proofs.FactLemmas.{all-append, all-at, all-weaker}
use Rattle.pd_proper_law.proofs.DistinctLemmas.{Dist, dist_from, few_saved}
use Rattle.pd_proper_law.proofs.TreeLemmas.{holder_doc, inside_at}

-- ---- the boxes of the document

abbrev pub own_keys : Shape → List ℕ → List ℕ
own_keys Sub ks = ks
own_keys f ks = []

-- the boxes of a canvas, and of the subpatches in it, in text order
abbrev pub doc_keys : Grove → List ℕ → Trees → List ℕ
doc_keys g [] t = []
doc_keys g (k ∷ ks) Done = []
doc_keys g (k ∷ ks) (Leaf c rest) = k ∷ doc_keys g ks rest
doc_keys g (k ∷ ks) (Holder c s inner rest) = k ∷ (own_keys c.head.form (doc_keys g (keys_inside (get g.boards) (inner_in (get g.nodes k))) inner) ++ doc_keys g ks rest)

own_all : (P : ℕ → Type 0) (f : Shape) (ks : List ℕ) → AllByRecursion P ks → AllByRecursion P (own_keys f ks)
own_all P Sub ks h = h
own_all P f ks h = tt

own_dist : (f : Shape) (ks : List ℕ) → Dist ks → Dist (own_keys f ks)
own_dist Sub ks h = h
own_dist f ks h = tt

-- ---- how many wires leave them

module _ (web : Web) (numbers : List ℕ) where
  abbrev pub count : List ℕ → ℕ
  count ks = length (wires_among web numbers ks)

  count_more : (k : ℕ) (ks : List ℕ) → count (k ∷ ks) ≡ length (box_wires web numbers k) + count ks
  count_more k ks = length-append (box_wires web numbers k) (wires_among web numbers ks)

  count_both : (xs ys : List ℕ) → count (xs ++ ys) ≡ count xs + count ys
  count_both [] ys = omega arith
  count_both (x ∷ xs) ys =
      let a = count_more x (xs ++ ys) in
      let b = count_more x xs in
      sum (count ((x ∷ xs) ++ ys)) (length (box_wires web numbers x)) (count (xs ++ ys)) (count (x ∷ xs)) (count xs) (count ys) a b (count_both xs ys)
    where
      sum : (a b c d e f : ℕ) → a ≡ b + c → d ≡ b + e → c ≡ e + f → a ≡ d + f
      sum a b c d e f p q r = omega (arith, p, q, r)

  -- a box that holds a canvas
  holder_count : (f : Shape) (h : Head) (s : Sheet) (inner rest : Boxes) (js ks : List ℕ) → length s.wires ≡ count js → count js + inner_wires inner ≡ count ks
      → inner_wires (box_with f h s inner rest) ≡ count (own_keys f ks) + inner_wires rest
  holder_count Sub h s inner rest js ks e c = sum (length s.wires) (count js) (inner_wires inner) (count ks) (inner_wires rest) e c
    where
      sum : (a b c d e : ℕ) → a ≡ b → b + c ≡ d → a + c + e ≡ d + e
      sum a b c d e p q = omega (arith, p, q)
  holder_count f h s inner rest js ks e c = none (inner_wires rest)
    where
      none : (n : ℕ) → 0 + 0 + n ≡ 0 + n
      none n = omega arith

  leaf_sum : (a b c d e f : ℕ) → a ≡ b + c → d ≡ b + e → c + f ≡ e → a + (0 + 0 + f) ≡ d
  leaf_sum a b c d e f p q r = omega (arith, p, q, r)

  holder_sum : (a b c d e f g h i : ℕ) → a ≡ b + c → d ≡ b + e → e ≡ f + g → h ≡ f + i → c + i ≡ g → a + h ≡ d
  holder_sum a b c d e f g h i p q r s t = omega (arith, p, q, r, s, t)

  module _ (g : Grove) where
    abbrev now : List ℕ → Trees → Trees
    now keys t = boxes_now web numbers (get g.nodes) (get g.boards) keys t

    pub counted : (b d : ℕ) (keys : List ℕ) (t : Trees) → Stands (get g.nodes) (get g.boards) b d keys t → count keys + inner_wires (document_boxes (now keys t)) ≡ count (doc_keys g keys t)
    counted b d [] Done S = omega arith
    counted b d (k ∷ ks) Done S = absurd S
    counted b d [] (Leaf c rest) S = absurd S
    counted b d (k ∷ ks) (Leaf c rest) S =
        leaf_sum (count (k ∷ ks)) (length (box_wires web numbers k)) (count ks) (count (k ∷ doc_keys g ks rest)) (count (doc_keys g ks rest)) (inner_wires (document_boxes (now ks rest)))
        (count_more k ks) (count_more k (doc_keys g ks rest)) (counted b d ks rest S.1)
    counted b d [] (Holder c s inner rest) S = absurd S
    counted b d (k ∷ ks) (Holder c s inner rest) S =
        let js = keys_inside (get g.boards) (inner_in (get g.nodes k)) in
        let there : js ≡ S.1 = inside_at g (get g.nodes k) _ S.0 S.2 refl ∙ seen_keys (get g.boards S.0) _ S.3 in
        let new : Sheet = with_wires (wires_among web numbers js) s in
        let inside : count js + inner_wires (document_boxes (now js inner)) ≡ count (doc_keys g js inner) =
        subst (λ (x : List ℕ). count x + inner_wires (document_boxes (now x inner)) ≡ count (doc_keys g x inner)) (sym there) (counted S.0 (d + 1) S.1 inner S.4) in
        let own = own_keys c.head.form (doc_keys g js inner) in
        let rest_keys = doc_keys g ks rest in
        let held : inner_wires (document_boxes (holder_now c.head.form c s inner new (now js inner) (now ks rest))) ≡ count own + inner_wires (document_boxes (now ks rest)) =
        ap inner_wires (holder_doc c.head.form c s new inner (now js inner) (now ks rest) refl)
        ∙ holder_count c.head.form c.head new (document_boxes (now js inner)) (document_boxes (now ks rest)) js (doc_keys g js inner) refl inside in
        holder_sum (count (k ∷ ks)) (length (box_wires web numbers k)) (count ks) (count (k ∷ (own ++ rest_keys))) (count (own ++ rest_keys)) (count own) (count rest_keys)
        (inner_wires (document_boxes (holder_now c.head.form c s inner new (now js inner) (now ks rest)))) (inner_wires (document_boxes (now ks rest)))
        (count_more k ks) (count_more k (own ++ rest_keys)) (count_both own rest_keys) held (counted b d ks rest S.5)

-- ---- each box stands once

dist_both : (xs ys : List ℕ) → Dist xs → Dist ys → AllByRecursion (λ x. AllByRecursion (λ y. y ≢ x) ys) xs → Dist (xs ++ ys)
dist_both [] ys d e h = e
dist_both (x ∷ xs) ys d e h = (all-append (λ y. y ≢ x) xs ys d.0 h.0, dist_both xs ys d.1 e h.1)

seen_depth : (o : Option Board) (y : BoardSeen) → option_map board_seen o ≡ Some y → depth_of o ≡ y.depth
seen_depth None y h = absurd (none-some y h)
seen_depth (Some b) y h = ap (λ (x : BoardSeen). x.depth) (same_Some (board_seen b) y h)

seen_holder : (o : Option Board) (y : BoardSeen) → option_map board_seen o ≡ Some y → option_and_then (λ (b : Board). b.holder) o ≡ y.holder
seen_holder None y h = absurd (none-some y h)
seen_holder (Some b) y h = ap (λ (x : BoardSeen). x.holder) (same_Some (board_seen b) y h)

module _ (g : Grove) (own : AreOwn (get g.nodes) (get g.boards)) where
  -- the canvas of a box, the box around that, and how deep a box lies
  abbrev home : ℕ → Option ℕ
  home x = board_in (get g.nodes x)

  abbrev up : ℕ → Option ℕ
  up x = option_and_then (λ c. option_and_then (λ (b : Board). b.holder) (get g.boards c)) (home x)

  abbrev depth : ℕ → ℕ
  depth x = option_map_or (λ c. depth_of (get g.boards c)) (home x) 0

  -- the box around it so many levels up
  above : ℕ → ℕ → Option ℕ
  above zero x = Some x
  above (suc n) x = option_and_then up (above n x)

  -- the box x lies in the box k, which lies in so many canvases, or is it
  record LiesIn (d k x : ℕ) : Type 0 where
    deep : d ≤ depth x
    top : above (depth x - d) x ≡ Some k

  record LiesAmong (d : ℕ) (keys : List ℕ) (x : ℕ) : Type 0 where
    key : ℕ
    place : ℕ
    at : slice_get keys place ≡ Some key
    lies : LiesIn d key x

  zero_left : (a d : ℕ) → a ≡ d → a - d ≡ 0
  zero_left a d e = omega (arith, e)

  no_less : (a d : ℕ) → a ≡ d → d ≤ a
  no_less a d e = omega (arith, e)

  one_less : (a d : ℕ) → d + 1 ≤ a → a - d ≡ suc (a - (d + 1))
  one_less a d h = omega (arith, h)

  less_deep : (a d : ℕ) → d + 1 ≤ a → d ≤ a
  less_deep a d h = omega (arith, h)

  never_deep : (a b d : ℕ) → a ≡ d → b ≡ a → d + 1 ≤ b → ⊥
  never_deep a b d e f h = omega (arith, e, f, h)

  itself : (d k : ℕ) → depth k ≡ d → LiesIn d k k
  unfolding above
  itself d k e = record { deep = no_less (depth k) d e; top = subst (λ n. above n k ≡ Some k) (sym (zero_left (depth k) d e)) refl }

  one_up : (d k j x : ℕ) → LiesIn (d + 1) j x → up j ≡ Some k → LiesIn d k x
  unfolding above
  one_up d k j x h e = record {
    deep = less_deep (depth x) d h.deep;
    top = ap (λ n. above n x) (one_less (depth x) d h.deep) ∙ ap (option_and_then up) h.top ∙ e;
  }

  later : (d k : ℕ) (ks : List ℕ) (x : ℕ) → LiesAmong d ks x → LiesAmong d (k ∷ ks) x
  later d k ks x h = record { key = h.key; place = suc h.place; at = h.at; lies = h.lies }

  home_depth : (b k : ℕ) (y : BoardSeen) → home k ≡ Some b → option_map board_seen (get g.boards b) ≡ Some y → depth k ≡ y.depth
  home_depth b k y h e = ap (λ (o : Option ℕ). option_map_or (λ c. depth_of (get g.boards c)) o 0) h ∙ seen_depth (get g.boards b) y e

  home_up : (b k : ℕ) (y : BoardSeen) → home k ≡ Some b → option_map board_seen (get g.boards b) ≡ Some y → up k ≡ y.holder
  home_up b k y h e = ap (option_and_then (λ c. option_and_then (λ (x : Board). x.holder) (get g.boards c))) h ∙ seen_holder (get g.boards b) y e

  -- boxes of a canvas lie in so many canvases
  abbrev AtDepth : ℕ → List ℕ → Type 0
  AtDepth d keys = (i k : ℕ) → slice_get keys i ≡ Some k → depth k ≡ d

  inner_home : (j : ℕ) (js : List ℕ) (y : BoardSeen) → option_map board_seen (get g.boards j) ≡ Some y → y.keys ≡ js → (i x : ℕ) → slice_get js i ≡ Some x → home x ≡ Some j
  inner_home j js y e s i x at = own.home j i x (ap (λ (ks : List ℕ). slice_get ks i) (seen_keys (get g.boards j) y e ∙ s) ∙ at)

  all_lie : (b d : ℕ) (keys : List ℕ) (t : Trees) → AtDepth d keys → Stands (get g.nodes) (get g.boards) b d keys t → AllByRecursion (LiesAmong d keys) (doc_keys g keys t)
  all_lie b d [] t dep S = tt
  all_lie b d (k ∷ ks) Done dep S = tt
  all_lie b d (k ∷ ks) (Leaf c rest) dep S =
      (record { key = k; place = 0; at = refl; lies = itself d k (dep 0 k refl) }, all-weaker (LiesAmong d ks) (LiesAmong d (k ∷ ks)) (later d k ks) (doc_keys g ks rest) (all_lie b d ks rest (λ i x e. dep (suc i) x e) S.1))
  all_lie b d (k ∷ ks) (Holder c s inner rest) dep S =
      let js = keys_inside (get g.boards) (inner_in (get g.nodes k)) in
      let there : js ≡ S.1 = inside_at g (get g.nodes k) _ S.0 S.2 refl ∙ seen_keys (get g.boards S.0) _ S.3 in
      let inside : AllByRecursion (LiesAmong (d + 1) S.1) (doc_keys g js inner) =
      subst (λ (x : List ℕ). AllByRecursion (LiesAmong (d + 1) S.1) (doc_keys g x inner)) (sym there)
      (all_lie S.0 (d + 1) S.1 inner (λ i x e. home_depth S.0 x _ (inner_home S.0 S.1 _ S.3 refl i x e) S.3) S.4) in (
        record { key = k; place = 0; at = refl; lies = itself d k (dep 0 k refl) },
        all-append (LiesAmong d (k ∷ ks)) (own_keys c.head.form (doc_keys g js inner)) (doc_keys g ks rest)
            (own_all (LiesAmong d (k ∷ ks)) c.head.form (doc_keys g js inner)
            (all-weaker (LiesAmong (d + 1) S.1) (LiesAmong d (k ∷ ks))
            (λ x h. record { key = k; place = 0; at = refl; lies = one_up d k h.key x h.lies (home_up S.0 h.key _ (inner_home S.0 S.1 _ S.3 refl h.place h.key h.at) S.3) })
            (doc_keys g js inner) inside))
            (all-weaker (LiesAmong d ks) (LiesAmong d (k ∷ ks)) (later d k ks) (doc_keys g ks rest) (all_lie b d ks rest (λ i x e. dep (suc i) x e) S.5)),
      )

  -- a box that lies in one of others lies not in this one
  not_in : (d k : ℕ) (ks : List ℕ) → AllByRecursion (λ j. j ≢ k) ks → (x y : ℕ) → LiesIn d k x → LiesAmong d ks y → y ≢ x
  not_in d k ks n x y h a e = known (slice_get ks a.place) a.at (all-at (λ j. j ≢ k) ks a.place n)
    where
      same : a.key ≡ k
      same = same_Some a.key k (sym a.lies.top ∙ ap (λ z. above (depth z - d) z) e ∙ h.top)

      known : (o : Option ℕ) → o ≡ Some a.key → IfSome o (λ j. j ≢ k) → ⊥
      known o at other = (subst (λ (u : Option ℕ). IfSome u (λ j. j ≢ k)) at other) same

  pub dist_doc : (b d : ℕ) (keys : List ℕ) (t : Trees) → AtDepth d keys → Dist keys → Stands (get g.nodes) (get g.boards) b d keys t → Dist (doc_keys g keys t)
  dist_doc b d [] t dep u S = tt
  dist_doc b d (k ∷ ks) Done dep u S = tt
  dist_doc b d (k ∷ ks) (Leaf c rest) dep u S =
      let on = all_lie b d ks rest (λ i x e. dep (suc i) x e) S.1 in
      let here = itself d k (dep 0 k refl) in
      (all-weaker (LiesAmong d ks) (λ y. y ≢ k) (λ y a. not_in d k ks u.0 k y here a) (doc_keys g ks rest) on, dist_doc b d ks rest (λ i x e. dep (suc i) x e) u.1 S.1)
  dist_doc b d (k ∷ ks) (Holder c s inner rest) dep u S =
      let js = keys_inside (get g.boards) (inner_in (get g.nodes k)) in
      let there : js ≡ S.1 = inside_at g (get g.nodes k) _ S.0 S.2 refl ∙ seen_keys (get g.boards S.0) _ S.3 in
      let inner_dep : AtDepth (d + 1) S.1 = λ i x e. home_depth S.0 x _ (inner_home S.0 S.1 _ S.3 refl i x e) S.3 in
      let inside : AllByRecursion (LiesAmong (d + 1) S.1) (doc_keys g js inner) =
      subst (λ (x : List ℕ). AllByRecursion (LiesAmong (d + 1) S.1) (doc_keys g x inner)) (sym there) (all_lie S.0 (d + 1) S.1 inner inner_dep S.4) in
      let inner_dist : Dist (doc_keys g js inner) =
      subst (λ (x : List ℕ). Dist (doc_keys g x inner)) (sym there)
      (dist_doc S.0 (d + 1) S.1 inner inner_dep (dist_from S.1 (λ i j x e f. own.once S.0 i j x (keyed S.0 S.1 _ S.3 i x e) (keyed S.0 S.1 _ S.3 j x f))) S.4) in
      let on = all_lie b d ks rest (λ i x e. dep (suc i) x e) S.5 in
      let here = itself d k (dep 0 k refl) in
      let up_in : (x : ℕ) → LiesAmong (d + 1) S.1 x → LiesIn d k x =
      λ x h. one_up d k h.key x h.lies (home_up S.0 h.key _ (inner_home S.0 S.1 _ S.3 refl h.place h.key h.at) S.3) in (
        all-append (λ y. y ≢ k) (own_keys c.head.form (doc_keys g js inner)) (doc_keys g ks rest)
            (own_all (λ y. y ≢ k) c.head.form (doc_keys g js inner)
            (all-weaker (LiesAmong (d + 1) S.1) (λ y. y ≢ k) (λ y h e. never_deep (depth k) (depth y) d (dep 0 k refl) (ap (λ z. depth z) e) h.lies.deep) (doc_keys g js inner) inside))
            (all-weaker (LiesAmong d ks) (λ y. y ≢ k) (λ y a. not_in d k ks u.0 k y here a) (doc_keys g ks rest) on),
        dist_both (own_keys c.head.form (doc_keys g js inner)) (doc_keys g ks rest) (own_dist c.head.form (doc_keys g js inner) inner_dist) (dist_doc b d ks rest (λ i x e. dep (suc i) x e) u.1 S.5)
            (own_all (λ x. AllByRecursion (λ y. y ≢ x) (doc_keys g ks rest)) c.head.form (doc_keys g js inner)
            (all-weaker (LiesAmong (d + 1) S.1) (λ x. AllByRecursion (λ y. y ≢ x) (doc_keys g ks rest))
            (λ x h. all-weaker (LiesAmong d ks) (λ y. y ≢ x) (λ y a. not_in d k ks u.0 x y (up_in x h) a) (doc_keys g ks rest) on) (doc_keys g js inner) inside)),
      )
    where
      keyed : (j : ℕ) (js : List ℕ) (y : BoardSeen) → option_map board_seen (get g.boards j) ≡ Some y → (i x : ℕ) → slice_get y.keys i ≡ Some x → slice_get (keys_at g j) i ≡ Some x
      keyed j js y e i x at = ap (λ (ks : List ℕ). slice_get ks i) (seen_keys (get g.boards j) y e) ∙ at

-- the boxes of the document of a patch
abbrev pub all_keys : Grove → Tree → List ℕ
all_keys g t = doc_keys g (keys_at g g.root) t.boxes

module _ (g : Grove) (t : Tree) (G : GroveStands g t.sheet t.boxes) where
  listed : keys_at g g.root ≡ G.keys
  listed = seen_keys (get g.boards g.root) _ G.root

  -- its wires are those that leave them
  pub document_count : (web : Web) (numbers : List ℕ) → count_wires (document_in (tree_now g web numbers t)) ≡ count web numbers (all_keys g t)
  document_count web numbers =
      subst
      (λ (ks : List ℕ). count web numbers ks + inner_wires (document_boxes (boxes_now web numbers (get g.nodes) (get g.boards) ks t.boxes)) ≡ count web numbers (doc_keys g ks t.boxes))
      (sym listed) (counted web numbers g g.root 0 G.keys t.boxes G.stands)

  pub dist_keys : AreOwn (get g.nodes) (get g.boards) → Dist (all_keys g t)
  dist_keys own =
      subst (λ (ks : List ℕ). Dist (doc_keys g ks t.boxes)) (sym listed)
      (dist_doc g own g.root 0 G.keys t.boxes
      (λ i k e. home_depth g own g.root k _ (own.home g.root i k (ap (λ (ks : List ℕ). slice_get ks i) listed ∙ e)) G.root)
      (dist_from G.keys (λ i j k e f. own.once g.root i j k (ap (λ (ks : List ℕ). slice_get ks i) listed ∙ e) (ap (λ (ks : List ℕ). slice_get ks j) listed ∙ f))) G.stands)

  -- they are no more than all wires of the patch
  pub few_counted : (web : Web) (numbers : List ℕ) → AreOwn (get g.nodes) (get g.boards) → StandOnce web → count web numbers (all_keys g t) ≤ wires_told web
  few_counted web numbers own once = few_saved web numbers (all_keys g t) once (dist_keys own)
