-- Orders over links, against those over the wires of a canvas.
use Rattle.std.proofs.Common.{◌≡◌, ℕ, ◌+◌, ◌<◌, ◌≤◌, ◌^◌, ◌==◌, Bool, cond, true, List, [], ◌∷◌, ◌++◌, length, take, get_or, refl, sym, ◌∙◌, ap, subst, arith}
use Rattle.std.proofs.lemmas.List.{take_more, take_all}
use Rattle.pd_order.specs.Graph.{Graph, tally, take_out, IsLawful, IsOrder, cut_wire, add_wire}
use Rattle.pd_order.proofs.Basics.{by_test, same_node, same_test, other_node, other_test, ltb', ltb-true', ltb-false', tally-take_out, tally-append}
use Rattle.pd_order.proofs.SameLemmas.{same_order}
use Rattle.pd_chain.specs.declared.graph.SignalWire.{SignalWire}
use Rattle.pd_chain.specs.Wires.{place_of, sources_into, sinks_from, graph_of, IsCanvas}
use Rattle.pd_chain.proofs.WireLemmas.{drawn_lawful}
use Rattle.pd_links.specs.declared.links.Links.{Links}
use Rattle.pd_links.specs.Linked.{label_at, feeders_of, followers_of, link_graph, AreLinked, HasOneMore, KeepsLinkRoom, RiseAlong, SameLinks, TakesFrom, TakesInto, TakesOne, UsesLinkRoom}

-- the links with boxes ranked by their numbers
abbrev numbered : List ℕ → Links → Graph
numbered nodes l = record {
  rank = λ x. place_of nodes x;
  feeders = λ x. feeders_of l x;
  followers = λ x. followers_of l x;
}

numbered_lawful : (l : Links) (ns ss : List ℕ) (ws : List SignalWire) → IsCanvas ns ss ws → length ws < 4294967295 → AreLinked l ws → IsLawful (numbered ns l) ss
numbered_lawful l ns ss ws c few a = drawn_lawful (numbered ns l) ns ss ws (record { ranks = λ x _. refl; feeders = a.feeders; followers = a.followers }) c few

-- boxes of one label are of one number
one_number : (labels ns : List ℕ) (x y : ℕ) → RiseAlong labels ns → 0 < tally x ns → 0 < tally y ns → label_at labels x ≡ label_at labels y → place_of ns x ≡ place_of ns y
one_number labels ns x y r a b e = by_test (ltb' (place_of ns x) (place_of ns y))
    (λ t. let l : label_at labels x < label_at labels y = (r x y a b).1 (ltb-true' (place_of ns x) (place_of ns y) t) in absurd (omega arith))
    (λ t. let ge : place_of ns y ≤ place_of ns x = ltb-false' (place_of ns x) (place_of ns y) t in
    by_test (ltb' (place_of ns y) (place_of ns x))
    (λ u. let l : label_at labels y < label_at labels x = (r y x b a).1 (ltb-true' (place_of ns y) (place_of ns x) u) in absurd (omega arith))
    (λ u. let le : place_of ns x ≤ place_of ns y = ltb-false' (place_of ns y) (place_of ns x) u in omega arith))

pub links_lawful : (labels : List ℕ) (l : Links) (ns ss : List ℕ) (ws : List SignalWire) → IsCanvas ns ss ws → length ws < 4294967295 → RiseAlong labels ns → AreLinked l ws → IsLawful (link_graph labels l) ss
links_lawful labels l ns ss ws c few r a =
    let w : IsLawful (numbered ns l) ss = numbered_lawful l ns ss ws c few a in
    record {
      once = w.once;
      apart = λ x y p q e. w.apart x y p q (one_number labels ns x y r (c.among x p) (c.among y q) e);
      joined = w.joined;
      sources = w.sources;
      sinks = w.sinks;
      few = w.few;
    }

pub of_canvas : (labels : List ℕ) (l : Links) (ns ss chain stuck : List ℕ) (ws : List SignalWire) → IsCanvas ns ss ws → RiseAlong labels ns → AreLinked l ws → IsOrder (link_graph labels l) ss chain stuck → IsOrder (graph_of ns ws) ss chain stuck
of_canvas labels l ns ss chain stuck ws c r a o = same_order (link_graph labels l) (graph_of ns ws) ss ss chain stuck
    (record {
      ranks = λ x y p q. r x y (c.among x p) (c.among y q);
      feeders = λ x u _. a.feeders x u;
    }) (λ x. refl) o

pub of_links : (labels : List ℕ) (l : Links) (ns ss chain stuck : List ℕ) (ws : List SignalWire) → IsCanvas ns ss ws → RiseAlong labels ns → AreLinked l ws → IsOrder (graph_of ns ws) ss chain stuck → IsOrder (link_graph labels l) ss chain stuck
of_links labels l ns ss chain stuck ws c r a o = same_order (graph_of ns ws) (link_graph labels l) ss ss chain stuck
    (record {
      ranks = λ x y p q. let i = r x y (c.among x p) (c.among y q) in (i.1, i.0);
      feeders = λ x u _. sym (a.feeders x u);
    }) (λ x. refl) o

test_turned : (x y : ℕ) → (x == y) ≡ (y == x)
test_turned x y = by_test (x == y)
    (λ t. let e : x ≡ y = same_node x y t in t ∙ sym (subst (λ (v : ℕ). (v == x) ≡ true) e (same_test x)))
    (λ t. let n : x ≡ y → ⊥ = other_node x y t in t ∙ sym (other_test y x (λ e. n (sym e))))

-- one more at one place of a function of lists, the test turned
turned : (f : ℕ → List ℕ) (x k v u : ℕ) → tally u (cond (x == k) (v ∷ f x) (f x)) ≡ tally u (cond (k == x) (v ∷ f x) (f x))
turned f x k v u = ap (λ b. tally u (cond b (v ∷ f x) (f x))) (test_turned x k)

pub more_of : (v u : ℕ) (xs ys zs : List ℕ) (b : Bool) → tally u xs ≡ tally u (cond b (v ∷ ys) ys) → tally u ys ≡ tally u zs → tally u xs ≡ tally u (cond b (v ∷ zs) zs)
more_of v u xs ys zs b h e = by_test b
    (λ t. let k : tally u xs ≡ tally u (v ∷ ys) = rw t at h in rw t (omega arith))
    (λ t. let k : tally u xs ≡ tally u ys = rw t at h in rw t (k ∙ e))

pub less_of : (v u : ℕ) (xs ys zs : List ℕ) (b : Bool) → tally u xs ≡ tally u (cond b (v ∷ ys) ys) → tally u xs ≡ tally u (cond b (v ∷ zs) zs) → tally u ys ≡ tally u zs
less_of v u xs ys zs b h e = by_test b
    (λ t. let k : tally u xs ≡ tally u (v ∷ ys) = rw t at h in let j : tally u xs ≡ tally u (v ∷ zs) = rw t at e in omega arith)
    (λ t. let k : tally u xs ≡ tally u ys = rw t at h in let j : tally u xs ≡ tally u zs = rw t at e in sym k ∙ j)

pub more_linked : (l m : Links) (s t : ℕ) (ws : List SignalWire) → HasOneMore l m s t → AreLinked l ws → AreLinked m (record { source = s; sink = t } ∷ ws)
more_linked l m s t ws h a = record {
  feeders = λ x u. more_of s u (feeders_of m x) (feeders_of l x) (sources_into ws x) (x == t) (h.feeders x u) (a.feeders x u) ∙ turned (sources_into ws) x t s u;
  followers = λ x u. more_of t u (followers_of m x) (followers_of l x) (sinks_from ws x) (x == s) (h.followers x u) (a.followers x u) ∙ turned (sinks_from ws) x s t u;
}

pub less_linked : (l m : Links) (s t : ℕ) (ws : List SignalWire) → HasOneMore l m s t → AreLinked m (record { source = s; sink = t } ∷ ws) → AreLinked l ws
less_linked l m s t ws h a = record {
  feeders = λ x u. less_of s u (feeders_of m x) (feeders_of l x) (sources_into ws x) (x == t) (h.feeders x u) (a.feeders x u ∙ sym (turned (sources_into ws) x t s u));
  followers = λ x u. less_of t u (followers_of m x) (followers_of l x) (sinks_from ws x) (x == s) (h.followers x u) (a.followers x u ∙ sym (turned (sinks_from ws) x s t u));
}

rank_same : (labels : List ℕ) (x y : ℕ) → (label_at labels x < label_at labels y → label_at labels x < label_at labels y) × (label_at labels x < label_at labels y → label_at labels x < label_at labels y)
rank_same labels x y = (λ l. l, λ l. l)

pub wire_there : (l m : Links) (s t : ℕ) → HasOneMore l m s t → 0 < tally s (feeders_of m t)
wire_there l m s t h =
    let k : tally s (feeders_of m t) ≡ tally s (cond (t == t) (s ∷ feeders_of l t) (feeders_of l t)) = h.feeders t s in
    let k' : tally s (feeders_of m t) ≡ tally s (s ∷ feeders_of l t) = rw (same_test t) at k in
    let e : tally s (s ∷ feeders_of l t) ≡ 1 + tally s (feeders_of l t) = rw (same_test s) refl in omega arith

pub taken : (v u : ℕ) (xs ys : List ℕ) (b : Bool) → tally u xs ≡ tally u (cond b (v ∷ ys) ys) → (b ≡ true → 0 < tally v xs) → tally u ys ≡ tally u (cond b (take_out v xs) xs)
taken v u xs ys b h there = by_test b
    (λ t. let k : tally u xs ≡ cond (v == u) 1 0 + tally u ys = rw t at h in
    let o : tally u (take_out v xs) + cond (v == u) 1 0 ≡ tally u xs = tally-take_out u v xs (there t) in rw t (omega arith))
    (λ t. let k : tally u xs ≡ tally u ys = rw t at h in rw t (sym k))

pub after_add : (labels : List ℕ) (l m : Links) (s t : ℕ) (ss chain stuck : List ℕ) → HasOneMore l m s t → IsOrder (link_graph labels l) ss chain stuck → IsOrder (cut_wire (link_graph labels m) s t) ss chain stuck
after_add labels l m s t ss chain stuck h o = same_order (link_graph labels l) (cut_wire (link_graph labels m) s t) ss ss chain stuck
    (record {
      ranks = λ x y _ _. rank_same labels x y;
      feeders = λ x u _. taken s u (feeders_of m x) (feeders_of l x) (x == t) (h.feeders x u)
          (λ e. subst (λ (v : ℕ). 0 < tally s (feeders_of m v)) (sym (same_node x t e)) (wire_there l m s t h));
    }) (λ x. refl) o

pub after_cut : (labels : List ℕ) (l m : Links) (s t : ℕ) (ss chain stuck : List ℕ) → HasOneMore l m s t → IsOrder (link_graph labels m) ss chain stuck → IsOrder (add_wire (link_graph labels l) s t) ss chain stuck
after_cut labels l m s t ss chain stuck h o = same_order (link_graph labels m) (add_wire (link_graph labels l) s t) ss ss chain stuck
    (record {
      ranks = λ x y _ _. rank_same labels x y;
      feeders = λ x u _. h.feeders x u;
    }) (λ x. refl) o

pub into_parts : (ws vs : List SignalWire) (x : ℕ) → sources_into (ws ++ vs) x ≡ sources_into ws x ++ sources_into vs x
into_parts [] vs x = refl
into_parts (w ∷ ws) vs x = by_test (w.sink == x)
    (λ t. rw (t, into_parts ws vs x) refl)
    (λ t. rw t (into_parts ws vs x))

pub from_parts : (ws vs : List SignalWire) (x : ℕ) → sinks_from (ws ++ vs) x ≡ sinks_from ws x ++ sinks_from vs x
from_parts [] vs x = refl
from_parts (w ∷ ws) vs x = by_test (w.source == x)
    (λ t. rw (t, from_parts ws vs x) refl)
    (λ t. rw t (from_parts ws vs x))

-- lists that are put together in either order have the same keys
turned_parts : (u : ℕ) (xs ys : List ℕ) → tally u (xs ++ ys) ≡ tally u (ys ++ xs)
turned_parts u xs ys = let a = tally-append u xs ys in let b = tally-append u ys xs in omega arith

put_last : (l : Links) (w : SignalWire) (ws : List SignalWire) → AreLinked l (w ∷ ws) → AreLinked l (ws ++ w ∷ [])
put_last l w ws a = record {
  feeders = λ x u. a.feeders x u ∙ ap (tally u) (into_parts (w ∷ []) ws x) ∙ turned_parts u (sources_into (w ∷ []) x) (sources_into ws x) ∙ sym (ap (tally u) (into_parts ws (w ∷ []) x));
  followers = λ x u. a.followers x u ∙ ap (tally u) (from_parts (w ∷ []) ws x) ∙ turned_parts u (sinks_from (w ∷ []) x) (sinks_from ws x) ∙ sym (ap (tally u) (from_parts ws (w ∷ []) x));
}

-- the links of the wires so far, and one wire more
pub linked_next : (l m : Links) (ws : List SignalWire) (i : ℕ) (d : SignalWire) → i < length ws → AreLinked l (take i ws) → HasOneMore l m (get_or ws i d).source (get_or ws i d).sink → AreLinked m (take (i + 1) ws)
linked_next l m ws i d h a more =
    let w = get_or ws i d in
    subst (λ (vs : List SignalWire). AreLinked m vs) (sym (take_more ws i d h)) (put_last m w (take i ws) (more_linked l m w.source w.sink (take i ws) more a))

pub linked_all : (l : Links) (ws : List SignalWire) (i : ℕ) → length ws ≤ i → AreLinked l (take i ws) → AreLinked l ws
linked_all l ws i h a = subst (λ (vs : List SignalWire). AreLinked l vs) (take_all i ws h) a

-- room set aside changes no links
pub same_then_more : (l k m : Links) (s t : ℕ) → SameLinks l k → HasOneMore k m s t → HasOneMore l m s t
same_then_more l k m s t same more = record {
  feeders = λ x u. more.feeders x u ∙ ap (λ (xs : List ℕ). tally u (cond (x == t) (s ∷ xs) xs)) (same.feeders x);
  followers = λ x u. more.followers x u ∙ ap (λ (xs : List ℕ). tally u (cond (x == s) (t ∷ xs) xs)) (same.followers x);
}

-- Room that lasts.

pub same_room : (l : Links) → KeepsLinkRoom l l
same_room l = record { from = λ x n T. T; into = λ x n T. T }

pub room_more : (l m k : Links) → KeepsLinkRoom l m → KeepsLinkRoom m k → KeepsLinkRoom l k
room_more l m k a b = record { from = λ x n T. b.from x n (a.from x n T); into = λ x n T. b.into x n (a.into x n T) }

less_from : (l : Links) (x n : ℕ) → TakesFrom l x (n + 1) → TakesFrom l x n
less_from l x n T = let a = T.0 in let b = T.1 in (omega (arith, a), omega (arith, b))

less_into : (l : Links) (x n : ℕ) → TakesInto l x (n + 1) → TakesInto l x n
less_into l x n T = let a = T.0 in let b = T.1 in (omega (arith, a), omega (arith, b))

-- a wire that is none of the links uses no room
pub one_unused : (l : Links) (s t : ℕ) → UsesLinkRoom l l s t
one_unused l s t = record { from = λ n T. less_from l s n T; other_from = λ x n differ T. T; into = λ n T. less_into l t n T; other_into = λ x n differ T. T }

-- room for some is room for one
pub takes_one : (l : Links) (s t a b : ℕ) → 0 < a → 0 < b → TakesFrom l s a → TakesInto l t b → TakesOne l s t
takes_one l s t a b p q A B =
    let x = A.0 in let y = A.1 in let u = B.0 in let v = B.1 in
    record { room_from = omega (arith, x, p); room_into = omega (arith, u, q); few_from = omega (arith, y, p); few_into = omega (arith, v, q) }

-- room set aside is more room
pub room_stays : (l m : Links) → SameLinks l m → KeepsLinkRoom l m
room_stays l m same = record {
  from = λ x n T. let a = T.0 in let b = same.spare_from x in (omega (arith, a, b), subst (λ (xs : List ℕ). length xs + n + 1 < 2 ^ 32) (sym (same.followers x)) T.1);
  into = λ x n T. let a = T.0 in let b = same.spare_into x in (omega (arith, a, b), subst (λ (xs : List ℕ). length xs + n + 1 < 2 ^ 32) (sym (same.feeders x)) T.1);
}

-- there is room for none
pub takes_none : (l : Links) (x : ℕ) → TakesFrom l x 0 × TakesInto l x 0
takes_none l x =
    let a = l.few_from x in
    let b = l.few_into x in
    ((omega arith, omega (arith, a)), (omega arith, omega (arith, b)))
