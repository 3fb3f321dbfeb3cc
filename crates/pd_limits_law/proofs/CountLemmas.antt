-- The wires that fit in a tree as it stands are no more than those that leave its boxes.
use Rattle.std.proofs.Common.{◌≡◌, ◌≤◌, ◌+◌, inl, inr, ℕ, suc, Bool, true, false, cond, List, [], ◌∷◌, ◌++◌, length, filter, slice_get, Option, Some, None, refl, sym, ap, ◌∙◌, subst, arith, length-append}
use Rattle.std.specs.Prelude.{option_map, option_and_then}
use Rattle.std.proofs.lemmas.Option.{none-some, same_Some}
use Rattle.slab.specs.Slab.{get}
use Rattle.pd_canvas.specs.Pages.{Shape, Sub}
use Rattle.pd_order.proofs.Basics.{by_test}
use Rattle.pd_fit.specs.Fitting.{wires_inside, wires_fitting}
use Rattle.pd_tree.specs.declared.rows.Sheet.{Sheet}
use Rattle.pd_tree.specs.Ports.{fits, sockets_in, trimmed_sheet}
use Rattle.pd_tree.specs.Trees.{Cell, Trees, Done, Leaf, Holder, Tree}
use Rattle.pd_grove.specs.declared.grove.Grove.{Grove}
use Rattle.pd_grove.specs.declared.nodes.Node.{Node}
use Rattle.pd_grove.specs.OwnPaths.{sub_in, sub_reached}
use Rattle.pd_grove.specs.Places.{canvas_in_box, canvas_along}
use Rattle.pd_grove.specs.Standing.{NodeSeen, node_seen, Stands}
use Rattle.pd_grove.specs.Telling.{inner_in, reached}
use Rattle.pd_grove.specs.TextOrder.{is_sub, keys_inside, keys_standing}
use Rattle.pd_grove.proofs.PlaceLemmas.{seen_keys}
use Rattle.pd_web.specs.declared.web.Web.{Web}
use Rattle.pd_web.specs.Canvases.{keys_at}
use Rattle.pd_web.specs.Changes.{wires_told}
use Rattle.pd_present.specs.Presents.{box_wires, wires_among}
use Rattle.pd_patch.specs.declared.patch.Patch.{Patch}
use Rattle.pd_wiring.specs.Changes.{CanRewire}
use Rattle.pd_regrowth_law.specs.Rewiring.{with_wires}
use Rattle.pd_reload_law.specs.Reloading.{RunsAs}
use Rattle.pd_reload_law.specs.Saving.{holder_now, boxes_now}
use Rattle.pd_reload_law.specs.Wires.{AreNumbered, StandOnce}
use Rattle.pd_alike_law.specs.Alike.{now_of}
use Rattle.pd_inside_law.specs.Inside.{HasWiresOf, IsWiredInside}
use Rattle.pd_inside_law.proofs.SameLemmas.{fans_are}
use Rattle.pd_proper_law.proofs.DistinctLemmas.{few_saved}
use Rattle.pd_proper_law.proofs.TreeLemmas.{seen_sub}
use Rattle.pd_limits_law.specs.Limits.{wires_leaving, HasFewWires}
use Rattle.pd_limits_law.proofs.LengthLemmas.{same_length}
use Rattle.pd_limits_law.proofs.OnceLemmas.{in_order, dist_tree}

-- ---- sums

filter_fewer : {X : Type 0} (p : X → Bool) (xs : List X) → length (filter p xs) ≤ length xs
filter_fewer p [] = omega arith
filter_fewer p (x ∷ xs) = step (p x) (filter_fewer p xs)
  where
    step : (b : Bool) → length (filter p xs) ≤ length xs → length (cond b (x ∷ filter p xs) (filter p xs)) ≤ length (x ∷ xs)
    step true h = omega (arith, h)
    step false h = omega (arith, h)

leaf_same : (a b c d e f : ℕ) → a ≡ b + c → d ≡ b + e → c + f ≡ e → a + f ≡ d
leaf_same a b c d e f p q r = omega (arith, p, q, r)

leaf_less : (a b c d e f : ℕ) → a ≡ b + c → d ≡ b + e → c + f ≤ e → a + f ≤ d
leaf_less a b c d e f p q r = omega (arith, p, q, r)

-- of a box that holds a canvas: all behind it, the box, those behind it, the wires of its canvas, those inside, and those inside others
holder_same : (a len ks t js i r all both xs ys : ℕ) → a ≡ len + ks → all ≡ len + both → both ≡ xs + ys → t ≡ js → js + i ≡ xs → ks + r ≡ ys → a + (t + (i + r)) ≡ all
holder_same a len ks t js i r all both xs ys p q s e f h = omega (arith, p, q, s, e, f, h)

holder_less : (a len ks t js i r all both xs ys : ℕ) → a ≡ len + ks → all ≡ len + both → both ≡ xs + ys → t ≤ js → js + i ≤ xs → ks + r ≤ ys → a + (t + (i + r)) ≤ all
holder_less a len ks t js i r all both xs ys p q s e f h = omega (arith, p, q, s, e, f, h)

equal_less : (a b : ℕ) → a ≡ b → a ≤ b
equal_less a b e = omega (arith, e)

as_few : (a b c : ℕ) → a ≡ b → b ≤ c → a ≤ c
as_few a b c e l = omega (arith, e, l)

no_more : (a b c : ℕ) → a ≤ b → b ≤ c → a ≤ c
no_more a b c h l = omega (arith, h, l)

-- ---- the wires inside a box

sub_wires : (f : Shape) (c : Cell) (s : Sheet) (inner : Trees) (new : Sheet) (boxes others : Trees) → is_sub f ≡ true
    → wires_inside (holder_now f c s inner new boxes others) ≡ length (trimmed_sheet boxes new).wires + (wires_inside boxes + wires_inside others)
sub_wires Sub c s inner new boxes others e = refl
sub_wires f c s inner new boxes others e = cc

other_wires : (f : Shape) (c : Cell) (s : Sheet) (inner : Trees) (new : Sheet) (boxes others : Trees) → is_sub f ≡ false
    → wires_inside (holder_now f c s inner new boxes others) ≡ length (trimmed_sheet inner s).wires + (wires_inside inner + wires_inside others)
other_wires Sub c s inner new boxes others e = cc
other_wires f c s inner new boxes others e = refl

seen_inner : (o : Option Node) (x : NodeSeen) → option_map node_seen o ≡ Some x → inner_in o ≡ x.inner
seen_inner None x h = absurd (none-some x h)
seen_inner (Some n) x h = ap (λ (y : NodeSeen). y.inner) (same_Some (node_seen n) x h)

module _ (w : Web) (N : List ℕ) where
  abbrev pub count : List ℕ → ℕ
  count ks = length (wires_among w N ks)

  count_more : (k : ℕ) (ks : List ℕ) → count (k ∷ ks) ≡ length (box_wires w N k) + count ks
  count_more k ks = length-append (box_wires w N k) (wires_among w N ks)

  count_both : (xs ys : List ℕ) → count (xs ++ ys) ≡ count xs + count ys
  count_both [] ys = omega arith
  count_both (x ∷ xs) ys =
      sum (count ((x ∷ xs) ++ ys)) (length (box_wires w N x)) (count (xs ++ ys)) (count (x ∷ xs)) (count xs) (count ys) (count_more x (xs ++ ys)) (count_more x xs) (count_both xs ys)
    where
      sum : (a b c d e f : ℕ) → a ≡ b + c → d ≡ b + e → c ≡ e + f → a ≡ d + f
      sum a b c d e f p q r = omega (arith, p, q, r)

  -- a canvas that has the wires of a tree saves as many as fit
  pub saves_as_many : (keys : List ℕ) (u : Tree) → AreNumbered N keys → HasWiresOf w keys u → length (trimmed_sheet u.boxes u.sheet).wires ≡ count keys
  saves_as_many keys u n h = sym (same_length (wires_among w N keys) (trimmed_sheet u.boxes u.sheet).wires (λ s o. fans_are w N keys u n h s o))

  module _ (g : Grove) where
    abbrev now : List ℕ → Trees → Trees
    now keys t = boxes_now w N (get g.nodes) (get g.boards) keys t

    abbrev standing : (b d : ℕ) (keys : List ℕ) (t : Trees) → Stands (get g.nodes) (get g.boards) b d keys t → List ℕ
    standing b d keys t S = keys_standing (get g.nodes) (get g.boards) b d keys t S

    abbrev step_at : List ℕ → ℕ → Option ℕ
    step_at keys n = option_and_then (λ k. inner_in (get g.nodes k)) (slice_get keys n)

    abbrev sub_at : List ℕ → ℕ → Option ℕ
    sub_at keys n = option_and_then (λ k. sub_in (get g.nodes k)) (slice_get keys n)

    abbrev IsEven : ℕ → Tree → Type 0
    IsEven e v = length (trimmed_sheet v.boxes v.sheet).wires ≡ count (keys_at g e)

    -- so are all canvases inside these boxes
    abbrev pub AllEven : List ℕ → Trees → Type 0
    AllEven keys t = (n : ℕ) (path : List ℕ) (e : ℕ) (v : Tree) → reached g (step_at keys n) path ≡ Some e
        → option_and_then (canvas_along path) (canvas_in_box n t) ≡ Some v → IsEven e v

    -- so are those inside abstractions
    abbrev pub InsideEven : List ℕ → Trees → Type 0
    InsideEven keys t = (n : ℕ) (path : List ℕ) (e : ℕ) (v : Tree) → reached g (step_at keys n) path ≡ Some e → sub_reached g (sub_at keys n) path ≡ None
        → option_and_then (canvas_along path) (canvas_in_box n t) ≡ Some v → IsEven e v

    nowhere : (path : List ℕ) → sub_reached g None path ≡ None
    nowhere [] = refl
    nowhere (n ∷ path) = nowhere path

    -- a step into a box, and on
    step_in_box : (k j : ℕ) (js : List ℕ) (n : ℕ) (path : List ℕ) (o : Option ℕ) → inner_in (get g.nodes k) ≡ Some j → keys_at g j ≡ js → reached g (step_at js n) path ≡ o
        → reached g (inner_in (get g.nodes k)) (n ∷ path) ≡ o
    step_in_box k j js n path o is there at =
        ap (λ x. reached g x (n ∷ path)) is ∙ ap (λ (ks : List ℕ). reached g (step_at ks n) path) there ∙ at

    sub_step_in_box : (k j : ℕ) (js : List ℕ) (n : ℕ) (path : List ℕ) (o : Option ℕ) → sub_in (get g.nodes k) ≡ Some j → keys_at g j ≡ js → sub_reached g (sub_at js n) path ≡ o
        → sub_reached g (sub_in (get g.nodes k)) (n ∷ path) ≡ o
    sub_step_in_box k j js n path o is there at =
        ap (λ x. sub_reached g x (n ∷ path)) is ∙ ap (λ (ks : List ℕ). sub_reached g (sub_at ks n) path) there ∙ at

    -- in a tree whose wires are as they grew
    pub as_grown : (b d : ℕ) (keys : List ℕ) (t : Trees) (S : Stands (get g.nodes) (get g.boards) b d keys t) → AllEven keys t
        → count keys + wires_inside t ≡ count (standing b d keys t S)
    as_grown b d [] Done S h = omega arith
    as_grown b d (k ∷ ks) Done S h = absurd S
    as_grown b d [] (Leaf c rest) S h = absurd S
    as_grown b d (k ∷ ks) (Leaf c rest) S h =
        leaf_same (count (k ∷ ks)) (length (box_wires w N k)) (count ks) (count (k ∷ standing b d ks rest S.1)) (count (standing b d ks rest S.1)) (wires_inside rest)
        (count_more k ks) (count_more k (standing b d ks rest S.1)) (as_grown b d ks rest S.1 (λ n path e v at v_is. h (suc n) path e v at v_is))
    as_grown b d [] (Holder c s inner rest) S h = absurd S
    as_grown b d (k ∷ ks) (Holder c s inner rest) S h =
        let xs = standing S.0 (d + 1) S.1 inner S.4 in
        let ys = standing b d ks rest S.5 in
        let is : inner_in (get g.nodes k) ≡ Some S.0 = seen_inner (get g.nodes k) _ S.2 in
        let there : keys_at g S.0 ≡ S.1 = seen_keys (get g.boards S.0) _ S.3 in
        let here : length (trimmed_sheet inner s).wires ≡ count S.1 = h 0 [] S.0 (record { sheet = s; boxes = inner }) is refl ∙ ap count there in
        holder_same (count (k ∷ ks)) (length (box_wires w N k)) (count ks) (length (trimmed_sheet inner s).wires) (count S.1) (wires_inside inner) (wires_inside rest)
        (count (k ∷ (xs ++ ys))) (count (xs ++ ys)) (count xs) (count ys) (count_more k ks) (count_more k (xs ++ ys)) (count_both xs ys) here
        (as_grown S.0 (d + 1) S.1 inner S.4 (λ n path e v at v_is. h 0 (n ∷ path) e v (step_in_box k S.0 S.1 n path (Some e) is there at) v_is))
        (as_grown b d ks rest S.5 (λ n path e v at v_is. h (suc n) path e v at v_is))

    -- in a tree as it stands
    pub as_now : (b d : ℕ) (keys : List ℕ) (t : Trees) (S : Stands (get g.nodes) (get g.boards) b d keys t) → InsideEven keys t
        → count keys + wires_inside (now keys t) ≤ count (standing b d keys t S)
    as_now b d [] Done S h = omega arith
    as_now b d (k ∷ ks) Done S h = absurd S
    as_now b d [] (Leaf c rest) S h = absurd S
    as_now b d (k ∷ ks) (Leaf c rest) S h =
        leaf_less (count (k ∷ ks)) (length (box_wires w N k)) (count ks) (count (k ∷ standing b d ks rest S.1)) (count (standing b d ks rest S.1)) (wires_inside (now ks rest))
        (count_more k ks) (count_more k (standing b d ks rest S.1)) (as_now b d ks rest S.1 (λ n path e v at out v_is. h (suc n) path e v at out v_is))
    as_now b d [] (Holder c s inner rest) S h = absurd S
    as_now b d (k ∷ ks) (Holder c s inner rest) S h =
        let xs = standing S.0 (d + 1) S.1 inner S.4 in
        let ys = standing b d ks rest S.5 in
        let js = keys_inside (get g.boards) (inner_in (get g.nodes k)) in
        let new : Sheet = with_wires (wires_among w N js) s in
        let is : inner_in (get g.nodes k) ≡ Some S.0 = seen_inner (get g.nodes k) _ S.2 in
        let there : keys_at g S.0 ≡ S.1 = seen_keys (get g.boards S.0) _ S.3 in
        let same : js ≡ S.1 = ap (keys_inside (get g.boards)) is ∙ there in
        let sub : sub_in (get g.nodes k) ≡ cond (is_sub c.head.form) (Some S.0) None = seen_sub (get g.nodes k) _ S.2 in
        let behind : count ks + wires_inside (now ks rest) ≤ count ys = as_now b d ks rest S.5 (λ n path e v at out v_is. h (suc n) path e v at out v_is) in
        let all : (t i : ℕ) → t ≤ count S.1 → count S.1 + i ≤ count xs → count (k ∷ ks) + (t + (i + wires_inside (now ks rest))) ≤ count (k ∷ (xs ++ ys)) = λ t i low inside.
        holder_less (count (k ∷ ks)) (length (box_wires w N k)) (count ks) t (count S.1) i (wires_inside (now ks rest)) (count (k ∷ (xs ++ ys))) (count (xs ++ ys)) (count xs) (count ys)
        (count_more k ks) (count_more k (xs ++ ys)) (count_both xs ys) low inside behind in
        by_test (is_sub c.head.form)
        (λ f.
        let own : sub_in (get g.nodes k) ≡ Some S.0 = sub ∙ ap (λ b. cond b (Some S.0) None) f in
        let inside : count S.1 + wires_inside (now js inner) ≤ count xs =
        subst (λ (ks : List ℕ). count S.1 + wires_inside (now ks inner) ≤ count xs) (sym same)
        (as_now S.0 (d + 1) S.1 inner S.4 (λ n path e v at out v_is.
        h 0 (n ∷ path) e v (step_in_box k S.0 S.1 n path (Some e) is there at) (sub_step_in_box k S.0 S.1 n path None own there out) v_is)) in
        let low : length (trimmed_sheet (now js inner) new).wires ≤ count S.1 =
        subst (λ (ks : List ℕ). length (trimmed_sheet (now js inner) new).wires ≤ count ks) same (filter_fewer (fits (sockets_in (now js inner))) (wires_among w N js)) in
        subst (λ x. count (k ∷ ks) + x ≤ count (k ∷ (xs ++ ys))) (sym (sub_wires c.head.form c s inner new (now js inner) (now ks rest) f))
        (all (length (trimmed_sheet (now js inner) new).wires) (wires_inside (now js inner)) low inside))
        (λ f.
        let none : sub_in (get g.nodes k) ≡ None = sub ∙ ap (λ b. cond b (Some S.0) None) f in
        let out : (path : List ℕ) → sub_reached g (sub_in (get g.nodes k)) path ≡ None = λ path. ap (λ x. sub_reached g x path) none ∙ nowhere path in
        let even : length (trimmed_sheet inner s).wires ≡ count S.1 = h 0 [] S.0 (record { sheet = s; boxes = inner }) is (out []) refl ∙ ap count there in
        let inside : count S.1 + wires_inside inner ≡ count xs =
        as_grown S.0 (d + 1) S.1 inner S.4 (λ n path e v at v_is. h 0 (n ∷ path) e v (step_in_box k S.0 S.1 n path (Some e) is there at) (out (n ∷ path)) v_is) in
        subst (λ x. count (k ∷ ks) + x ≤ count (k ∷ (xs ++ ys))) (sym (other_wires c.head.form c s inner new (now js inner) (now ks rest) f))
        (all (length (trimmed_sheet inner s).wires) (wires_inside inner) (equal_less _ (count S.1) even) (equal_less _ (count xs) inside)))

-- ---- a running patch

-- its canvases inside abstractions save as many wires as fit there
inside_even : (p : Patch) (t : Tree) (keys : List ℕ) → keys_at p.grove p.grove.root ≡ keys → CanRewire p → IsWiredInside p.grove p.web t
    → InsideEven p.web p.numbers.items p.grove keys t.boxes
inside_even p t keys listed r h n path e v at out is =
    saves_as_many p.web p.numbers.items (keys_at p.grove e) v (r.numbers e)
    (h.all (n ∷ path) e v (record {
      here = record { key = ap (λ (ks : List ℕ). reached p.grove (step_at p.web p.numbers.items p.grove ks n) path) listed ∙ at; canvas = is };
      inside = ap (λ (ks : List ℕ). sub_reached p.grove (sub_at p.web p.numbers.items p.grove ks n) path) listed ∙ out;
    }))

few_leave : (p : Patch) (t : Tree) → RunsAs p.grove t → CanRewire p → StandOnce p.web → HasFewWires p → wires_leaving p ≤ 65536
few_leave p t runs r once (inl few) =
    no_more (wires_leaving p) (wires_told p.web) 65536
    (subst (λ (ks : List ℕ). length (wires_among p.web p.numbers.items ks) ≤ wires_told p.web) (sym (in_order p.grove t runs.stands runs.shallow))
    (few_saved p.web p.numbers.items (keys_standing (get p.grove.nodes) (get p.grove.boards) p.grove.root 0 runs.stands.keys t.boxes runs.stands.stands) once
    (dist_tree p.grove t runs.stands r.own))) few
few_leave p t runs r once (inr few) = few

pub few_fit : (p : Patch) (t : Tree) → RunsAs p.grove t → CanRewire p → StandOnce p.web → IsWiredInside p.grove p.web t → HasFewWires p
    → wires_fitting (now_of p t).sheet (now_of p t).boxes ≤ 65536
few_fit p t runs r once inside few =
    let g = p.grove in
    let w = p.web in
    let N = p.numbers.items in
    let G = runs.stands in
    let root = keys_at g g.root in
    let listed : root ≡ G.keys = seen_keys (get g.boards g.root) _ G.root in
    let boxes : Trees = (now_of p t).boxes in
    let all : count w N root + wires_inside boxes ≤ wires_leaving p =
    subst (λ (ks : List ℕ). count w N root + wires_inside boxes ≤ count w N ks) (sym (in_order g t G runs.shallow))
    (subst (λ (ks : List ℕ). count w N ks + wires_inside (boxes_now w N (get g.nodes) (get g.boards) ks t.boxes)
    ≤ count w N (keys_standing (get g.nodes) (get g.boards) g.root 0 G.keys t.boxes G.stands)) (sym listed)
    (as_now w N g g.root 0 G.keys t.boxes G.stands (inside_even p t G.keys listed r inside))) in
    both (length (trimmed_sheet boxes (now_of p t).sheet).wires) (count w N root) (wires_inside boxes) (wires_leaving p)
    (filter_fewer (fits (sockets_in boxes)) (wires_among w N root)) all (few_leave p t runs r once few)
  where
    both : (a b c d : ℕ) → a ≤ b → b + c ≤ d → d ≤ 65536 → a + c ≤ 65536
    both a b c d p q s = omega (arith, p, q, s)
