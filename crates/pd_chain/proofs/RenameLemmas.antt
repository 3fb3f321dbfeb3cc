-- The orders of a graph whose nodes have other names.
use Rattle.std.proofs.Common.{◌≡◌, ℕ, ◌+◌, ◌<◌, ◌≤◌, ◌==◌, true, false, List, [], ◌∷◌, ◌++◌, map, refl, sym, ◌∙◌, ap, subst, arith}
use Rattle.std.proofs.lemmas.List.{map-append}
use Rattle.pd_order.specs.Graph.{Graph, tally, missing, IsReady, IsNext, AreNext, IsLeast, AreByRank, IsOrder}
use Rattle.pd_order.proofs.Basics.{by_test, same_node, same_test, other_node, other_test, in_rest, zero_or, tally-append}

-- h is g with the name f x for each node x
pub record IsRenamed (f : ℕ → ℕ) (ns : List ℕ) (g h : Graph) : Type 0 where
  pub apart : (x y : ℕ) → 0 < tally x ns → 0 < tally y ns → f x ≡ f y → x ≡ y
  pub ranks : (x : ℕ) → 0 < tally x ns → h.rank (f x) ≡ g.rank x
  pub feeders : (x : ℕ) → 0 < tally x ns → h.feeders (f x) ≡ map f (g.feeders x)
  pub among : (x u : ℕ) → 0 < tally x ns → 0 < tally u (g.feeders x) → 0 < tally u ns

abbrev pub IsApart : (ℕ → ℕ) → List ℕ → Type 0
IsApart f ns = (x y : ℕ) → 0 < tally x ns → 0 < tally y ns → f x ≡ f y → x ≡ y

abbrev pub AreAmong : List ℕ → List ℕ → Type 0
AreAmong xs ns = (x : ℕ) → 0 < tally x xs → 0 < tally x ns

head_among : (x : ℕ) (xs ns : List ℕ) → AreAmong (x ∷ xs) ns → 0 < tally x ns
head_among x xs ns a = a x (rw (same_test x) (omega arith))

rest_among : (x : ℕ) (xs ns : List ℕ) → AreAmong (x ∷ xs) ns → AreAmong xs ns
rest_among x xs ns a = λ z h. a z (omega arith)

pub tally-map : (f : ℕ → ℕ) (ns xs : List ℕ) (x : ℕ) → IsApart f ns → AreAmong xs ns → 0 < tally x ns → tally (f x) (map f xs) ≡ tally x xs
tally-map f ns [] x p a h = refl
tally-map f ns (y ∷ ys) x p a h =
    let k : tally (f x) (map f ys) ≡ tally x ys = tally-map f ns ys x p (rest_among y ys ns a) h in
    by_test (y == x)
    (λ t. let e : y ≡ x = same_node y x t in
    let s : (f y == f x) ≡ true = rw (ap f e) (same_test (f x)) in rw (t, s) (omega arith))
    (λ t. let s : (f y == f x) ≡ false = other_test (f y) (f x) (λ e. other_node y x t (p y x (head_among y ys ns a) h e)) in rw (t, s) (omega arith))

-- a new name is that of some node
pub named : (f : ℕ → ℕ) (xs : List ℕ) (y : ℕ) → 0 < tally y (map f xs) → (x : ℕ) × (0 < tally x xs) × (f x ≡ y)
named f [] y h = absurd (omega arith)
named f (z ∷ zs) y h = by_test (f z == y)
    (λ t. (z, rw (same_test z) (omega arith), same_node (f z) y t))
    (λ t. let r : (x : ℕ) × (0 < tally x zs) × (f x ≡ y) = named f zs y (in_rest y (f z) (map f zs) t h) in
    (r.0, (let l : 0 < tally r.0 zs = r.1 in omega arith), r.2))

missing-map : (f : ℕ → ℕ) (ns T us : List ℕ) → IsApart f ns → AreAmong T ns → AreAmong us ns → missing (map f T) (map f us) ≡ missing T us
missing-map f ns T [] p a b = refl
missing-map f ns T (u ∷ us) p a b =
    let k : missing (map f T) (map f us) ≡ missing T us = missing-map f ns T us p a (rest_among u us ns b) in
    let e : tally (f u) (map f T) ≡ tally u T = tally-map f ns T u p a (head_among u us ns b) in rw e (omega arith)

fed_alike : (f : ℕ → ℕ) (ns T : List ℕ) (g h : Graph) (x : ℕ) → IsRenamed f ns g h → AreAmong T ns → 0 < tally x ns → missing (map f T) (h.feeders (f x)) ≡ missing T (g.feeders x)
fed_alike f ns T g h x r a n = ap (missing (map f T)) (r.feeders x n) ∙ missing-map f ns T (g.feeders x) r.apart a (λ u l. r.among x u n l)

itself_among : (ns : List ℕ) → AreAmong ns ns
itself_among ns = λ x h. h

ready_there : (f : ℕ → ℕ) (ns T : List ℕ) (g h : Graph) (x : ℕ) → IsRenamed f ns g h → AreAmong T ns → IsReady g ns T x → IsReady h (map f ns) (map f T) (f x)
ready_there f ns T g h x r a q = record {
  node = (let e : tally (f x) (map f ns) ≡ tally x ns = tally-map f ns ns x r.apart (itself_among ns) q.node in let n : 0 < tally x ns = q.node in omega arith);
  unlisted = tally-map f ns T x r.apart a q.node ∙ q.unlisted;
  fed = fed_alike f ns T g h x r a q.node ∙ q.fed;
}

ready_back : (f : ℕ → ℕ) (ns T : List ℕ) (g h : Graph) (x : ℕ) → IsRenamed f ns g h → AreAmong T ns → 0 < tally x ns → IsReady h (map f ns) (map f T) (f x) → IsReady g ns T x
ready_back f ns T g h x r a n q = record {
  node = n;
  unlisted = sym (tally-map f ns T x r.apart a n) ∙ q.unlisted;
  fed = sym (fed_alike f ns T g h x r a n) ∙ q.fed;
}

-- a ready name is that of a ready node
ready_from : (f : ℕ → ℕ) (ns T : List ℕ) (g h : Graph) (y : ℕ) → IsRenamed f ns g h → AreAmong T ns → IsReady h (map f ns) (map f T) y → (x : ℕ) × IsReady g ns T x × (f x ≡ y)
ready_from f ns T g h y r a q =
    let w : (x : ℕ) × (0 < tally x ns) × (f x ≡ y) = named f ns y q.node in
    (w.0, ready_back f ns T g h w.0 r a w.1 (subst (λ (z : ℕ). IsReady h (map f ns) (map f T) z) (sym w.2) q), w.2)

next_there : (f : ℕ → ℕ) (ns T : List ℕ) (g h : Graph) (x : ℕ) → IsRenamed f ns g h → AreAmong T ns → IsNext g ns T x → IsNext h (map f ns) (map f T) (f x)
next_there f ns T g h x r a n = record {
  ready = ready_there f ns T g h x r a n.ready;
  least = λ y q.
      let w : (z : ℕ) × IsReady g ns T z × (f z ≡ y) = ready_from f ns T g h y r a q in
      let l : g.rank x ≤ g.rank w.0 = n.least w.0 w.1 in
      let i : h.rank (f x) ≡ g.rank x = r.ranks x n.ready.node in
      let j : h.rank (f w.0) ≡ g.rank w.0 = r.ranks w.0 w.1.node in
      subst (λ (z : ℕ). h.rank (f x) ≤ h.rank z) w.2 (omega arith);
}

pushed_among : (x : ℕ) (T ns : List ℕ) → AreAmong T ns → 0 < tally x ns → AreAmong (T ++ x ∷ []) ns
pushed_among x T ns a n = λ z h.
    let e : tally z (T ++ x ∷ []) ≡ tally z T + tally z (x ∷ []) = tally-append z T (x ∷ []) in
    by_test (x == z)
    (λ t. subst (λ (v : ℕ). 0 < tally v ns) (same_node x z t) n)
    (λ t. let e' : tally z (T ++ x ∷ []) ≡ tally z T + 0 = rw t at e in a z (omega arith))

AreNext_there : (f : ℕ → ℕ) (ns T xs : List ℕ) (g h : Graph) → IsRenamed f ns g h → AreAmong T ns → AreNext g ns T xs → AreNext h (map f ns) (map f T) (map f xs)
AreNext_there f ns T [] g h r a n = tt
AreNext_there f ns T (x ∷ xs) g h r a n = (
  next_there f ns T g h x r a n.0,
  subst (λ (l : List ℕ). AreNext h (map f ns) l (map f xs)) (map-append f T (x ∷ [])) (AreNext_there f ns (T ++ x ∷ []) xs g h r (pushed_among x T ns a n.0.ready.node) n.1),
)

least_there : (f : ℕ → ℕ) (ns : List ℕ) (g h : Graph) (x : ℕ) (ys : List ℕ) → IsRenamed f ns g h → 0 < tally x ns → AreAmong ys ns → IsLeast g x ys → IsLeast h (f x) (map f ys)
least_there f ns g h x [] r n a l = tt
least_there f ns g h x (y ∷ ys) r n a l = (
  (let i : h.rank (f x) ≡ g.rank x = r.ranks x n in
      let j : h.rank (f y) ≡ g.rank y = r.ranks y (head_among y ys ns a) in
      let k : g.rank x < g.rank y = l.0 in omega arith),
  least_there f ns g h x ys r n (rest_among y ys ns a) l.1,
)

by_rank_there : (f : ℕ → ℕ) (ns : List ℕ) (g h : Graph) (ys : List ℕ) → IsRenamed f ns g h → AreAmong ys ns → AreByRank g ys → AreByRank h (map f ys)
by_rank_there f ns g h [] r a b = tt
by_rank_there f ns g h (y ∷ ys) r a b = (
  least_there f ns g h y ys r (head_among y ys ns a) (rest_among y ys ns a) b.0,
  by_rank_there f ns g h ys r (rest_among y ys ns a) b.1,
)

-- what no node is named is among no names
unnamed : (f : ℕ → ℕ) (ns xs : List ℕ) (y : ℕ) → IsApart f ns → AreAmong xs ns → tally y (map f ns) ≡ 0 → tally y (map f xs) ≡ 0
unnamed f ns xs y p a z = zero_or (tally y (map f xs)) (λ h.
    let w : (x : ℕ) × (0 < tally x xs) × (f x ≡ y) = named f xs y h in
    let n : 0 < tally w.0 ns = a w.0 w.1 in
    let e : tally (f w.0) (map f ns) ≡ tally w.0 ns = tally-map f ns ns w.0 p (itself_among ns) n in
    let e' : tally y (map f ns) ≡ tally w.0 ns = subst (λ (v : ℕ). tally v (map f ns) ≡ tally w.0 ns) w.2 e in absurd (omega arith))

rest_there : (f : ℕ → ℕ) (ns xs ys : List ℕ) (y : ℕ) → IsApart f ns → AreAmong xs ns → AreAmong ys ns → ((x : ℕ) → tally x xs + tally x ys ≡ tally x ns) → tally y (map f xs) + tally y (map f ys) ≡ tally y (map f ns)
rest_there f ns xs ys y p a b e = by_test (tally y (map f ns) == 0)
    (λ t. let z : tally y (map f ns) ≡ 0 = same_node (tally y (map f ns)) 0 t in
    let i : tally y (map f xs) ≡ 0 = unnamed f ns xs y p a z in
    let j : tally y (map f ys) ≡ 0 = unnamed f ns ys y p b z in omega arith)
    (λ t. let o : tally y (map f ns) ≡ 0 → ⊥ = other_node (tally y (map f ns)) 0 t in
    let w : (x : ℕ) × (0 < tally x ns) × (f x ≡ y) = named f ns y (positive (tally y (map f ns)) o) in
    let i : tally (f w.0) (map f xs) ≡ tally w.0 xs = tally-map f ns xs w.0 p a w.1 in
    let j : tally (f w.0) (map f ys) ≡ tally w.0 ys = tally-map f ns ys w.0 p b w.1 in
    let k : tally (f w.0) (map f ns) ≡ tally w.0 ns = tally-map f ns ns w.0 p (itself_among ns) w.1 in
    let q : tally w.0 xs + tally w.0 ys ≡ tally w.0 ns = e w.0 in
    subst (λ (v : ℕ). tally v (map f xs) + tally v (map f ys) ≡ tally v (map f ns)) w.2 (omega arith))
  where
    positive : (n : ℕ) → (n ≡ 0 → ⊥) → 0 < n
    positive n h = grind arith

pub renamed_order : (f : ℕ → ℕ) (ns chain stuck : List ℕ) (g h : Graph) → IsRenamed f ns g h → IsOrder g ns chain stuck → IsOrder h (map f ns) (map f chain) (map f stuck)
renamed_order f ns chain stuck g h r o =
    let in_chain : AreAmong chain ns = λ x l. (let e : tally x stuck + tally x chain ≡ tally x ns = o.rest x in omega arith) in
    let in_stuck : AreAmong stuck ns = λ x l. (let e : tally x stuck + tally x chain ≡ tally x ns = o.rest x in omega arith) in
    record {
      listed = AreNext_there f ns [] chain g h r (λ x l. absurd (omega arith)) o.listed;
      ended = λ y q. (let w : (x : ℕ) × IsReady g ns chain x × (f x ≡ y) = ready_from f ns chain g h y r in_chain q in o.ended w.0 w.1);
      rest = λ y. rest_there f ns stuck chain y r.apart in_stuck in_chain o.rest;
      by_rank = by_rank_there f ns g h stuck r in_stuck o.by_rank;
    }
