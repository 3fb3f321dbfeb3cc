-- Nets stay lawful where a wire comes or goes, and their orders stay those of their wires.
use Rattle.std.proofs.Common.{◌≡◌, ℕ, zero, suc, ◌+◌, ◌-◌, ◌<◌, ◌≤◌, ◌==◌, true, false, cond, List, [], ◌∷◌, ◌++◌, length, get_or, refl, sym, ◌∙◌, ap, subst, arith}
use Rattle.std.specs.Prelude.{nat_lt}
use Rattle.std.proofs.Math.ListN.{get_or-append}
use Rattle.std.proofs.lemmas.List.{get_or-append_right}
use Rattle.pd_order.specs.Graph.{Graph, tally, take_out, IsLawful, IsOrder}
use Rattle.pd_order.specs.Spots.{nodes_of}
use Rattle.pd_order.specs.Wired.{numbers_below}
use Rattle.pd_order.specs.declared.spots.Spot.{Spot}
use Rattle.pd_order.proofs.Basics.{by_test, same_node, same_test, other_node, other_test, tally-append, tally-take_out}
use Rattle.pd_order.proofs.FoldLemmas.{lawful_nodes}
use Rattle.pd_order.proofs.SameLemmas.{same_order}
use Rattle.pd_order.proofs.SettleLemmas.{room_for}
use Rattle.pd_order.proofs.SpotLemmas.{length-nodes}
use Rattle.pd_order.proofs.WiredLemmas.{length-below, nodes_below, one_number_more}
use Rattle.pd_links.specs.declared.links.Links.{Links}
use Rattle.pd_links.specs.Linked.{label_at, feeders_of, followers_of, link_graph, SameLinks, HasOneMore}
use Rattle.pd_measure.proofs.NumberLemmas.{is_less, is_not_less, below_only, below_once}
use Rattle.pd_bench_edits.specs.Nets.{behind}

below_there : (n x : ℕ) → x < n → 0 < tally x (numbers_below n)
below_there n x h = nodes_below n (numbers_below n) x (λ _. refl) h

take_out_le : (x y : ℕ) (ys : List ℕ) → tally x (take_out y ys) ≤ tally x ys
take_out_le x y [] = omega arith
take_out_le x y (z ∷ zs) = by_test (z == y)
    (λ t. rw t (omega arith))
    (λ t. let k : tally x (take_out y zs) ≤ tally x zs = take_out_le x y zs in rw t (omega arith))

behind_only : (n x : ℕ) → 0 < tally x (behind n) → x < n
behind_only n x h = let k : tally x (behind n) ≤ tally x (numbers_below n) = take_out_le x 0 (numbers_below n) in below_only n x (omega arith)

behind_once : (n x : ℕ) → tally x (behind n) ≤ 1
behind_once n x =
    let k : tally x (behind n) ≤ tally x (numbers_below n) = take_out_le x 0 (numbers_below n) in
    let o : tally x (numbers_below n) ≤ 1 = below_once n x in omega arith

-- how often a number is behind 0
behind_is : (n x : ℕ) → 1 ≤ n → tally x (behind n) + cond (0 == x) 1 0 ≡ tally x (numbers_below n)
behind_is n x h = tally-take_out x 0 (numbers_below n) (below_there n 0 h)

pub behind_there : (n x : ℕ) → 0 < x → x < n → 0 < tally x (behind n)
behind_there n x a h =
    let k : tally x (behind n) + cond (0 == x) 1 0 ≡ tally x (numbers_below n) = behind_is n x (omega arith) in
    let f : (0 == x) ≡ false = other_test 0 x (λ e. omega arith) in
    let k' : tally x (behind n) + 0 ≡ tally x (numbers_below n) = rw f at k in
    let t : 0 < tally x (numbers_below n) = below_there n x h in omega arith

pub one_key_more : (n x : ℕ) (made : List ℕ) → 1 ≤ n → tally x made ≡ tally x (behind n) → tally x (made ++ n ∷ []) ≡ tally x (behind (n + 1))
one_key_more n x made h e =
    let a : tally x (behind n) + cond (0 == x) 1 0 ≡ tally x (numbers_below n) = behind_is n x h in
    let b : tally x (behind (n + 1)) + cond (0 == x) 1 0 ≡ tally x (numbers_below (n + 1)) = behind_is (n + 1) x (omega arith) in
    let c : tally x (numbers_below n ++ n ∷ []) ≡ tally x (numbers_below n) + tally x (n ∷ []) = tally-append x (numbers_below n) (n ∷ []) in
    let d : tally x (made ++ n ∷ []) ≡ tally x made + tally x (n ∷ []) = tally-append x made (n ∷ []) in
    let m : tally x (numbers_below n ++ n ∷ []) ≡ tally x (numbers_below (n + 1)) = ap (tally x) (one_number_more n (numbers_below n) refl) in
    omega arith

label_below : (n x : ℕ) → x < n → label_at (numbers_below n) x ≡ x
label_below zero x h = absurd (omega arith)
label_below (suc n) x h = by_test (nat_lt x n)
    (λ t. let l : x < n = is_less x n t in
    let b : length (numbers_below n) ≡ n = length-below n in
    get_or-append (numbers_below n) (n ∷ []) 0 x (omega arith) ∙ label_below n x l)
    (λ t. let g : n ≤ x = is_not_less x n t in
    let e : x ≡ n = omega arith in
    let z : x - n ≡ 0 = omega arith in
    get_or-append_right (numbers_below n) (n ∷ []) n x 0 (length-below n) g ∙ ap (λ i. get_or (n ∷ []) i 0) z ∙ sym e)

-- boxes without wires
pub bare_lawful : (n : ℕ) (labels : List ℕ) (l : Links) → labels ≡ numbers_below n → ((x : ℕ) → feeders_of l x ≡ []) → ((x : ℕ) → followers_of l x ≡ []) → IsLawful (link_graph labels l) (behind n)
bare_lawful n labels l e f w =
    let rank : (x : ℕ) → 0 < tally x (behind n) → label_at labels x ≡ x = λ x a. ap (λ ls. label_at ls x) e ∙ label_below n x (behind_only n x a) in
    record {
      once = behind_once n;
      apart = λ x y a b q. sym (rank x a) ∙ (q ∙ rank y b);
      joined = λ x u. ap (tally u) (f x) ∙ sym (ap (tally x) (w u));
      sources = λ x u h. absurd (let k : tally u (feeders_of l x) ≡ 0 = ap (tally u) (f x) in omega arith);
      sinks = λ x u h. absurd (let k : tally u (feeders_of l x) ≡ 0 = ap (tally u) (f x) in omega arith);
      few = λ x. l.few_into x;
    }

-- links with other room
pub same_lawful : (labels : List ℕ) (l m : Links) (ns : List ℕ) → SameLinks l m → IsLawful (link_graph labels l) ns → IsLawful (link_graph labels m) ns
same_lawful labels l m ns s w = record {
  once = w.once;
  apart = w.apart;
  joined = λ x u. ap (tally u) (s.feeders x) ∙ (w.joined x u ∙ sym (ap (tally x) (s.followers u)));
  sources = λ x u h. w.sources x u (subst (λ (v : List ℕ). 0 < tally u v) (s.feeders x) h);
  sinks = λ x u h. w.sinks x u (subst (λ (v : List ℕ). 0 < tally u v) (s.feeders x) h);
  few = λ x. m.few_into x;
}

pub same_links_order : (labels : List ℕ) (l m : Links) (ns chain stuck : List ℕ) → SameLinks l m → IsOrder (link_graph labels l) ns chain stuck → IsOrder (link_graph labels m) ns chain stuck
same_links_order labels l m ns chain stuck s o = same_order (link_graph labels l) (link_graph labels m) ns ns chain stuck
    (record {
      ranks = λ x y _ _. (λ h. h, λ h. h);
      feeders = λ x u _. sym (ap (tally u) (s.feeders x));
    }) (λ _. refl) o

turned : (x y : ℕ) → (x == y) ≡ (y == x)
turned x y = by_test (x == y)
    (λ t. let e : x ≡ y = same_node x y t in t ∙ sym (subst (λ (v : ℕ). (v == x) ≡ true) e (same_test x)))
    (λ t. let n : x ≡ y → ⊥ = other_node x y t in t ∙ sym (other_test y x (λ e. n (sym e))))

-- one where the wire from u to x is that from s to t
abbrev hit : ℕ → ℕ → ℕ → ℕ → ℕ
hit x t u s = cond (x == t) (cond (u == s) 1 0) 0

fed_more : (l m : Links) (s t x u : ℕ) → HasOneMore l m s t → tally u (feeders_of m x) ≡ hit x t u s + tally u (feeders_of l x)
fed_more l m s t x u h = by_test (x == t)
    (λ a. let k : tally u (feeders_of m x) ≡ cond (s == u) 1 0 + tally u (feeders_of l x) = rw a at (h.feeders x u) in
    rw (a, turned u s) k)
    (λ a. let k : tally u (feeders_of m x) ≡ tally u (feeders_of l x) = rw a at (h.feeders x u) in
    rw a (omega arith))

followed_more : (l m : Links) (s t x u : ℕ) → HasOneMore l m s t → tally x (followers_of m u) ≡ hit x t u s + tally x (followers_of l u)
followed_more l m s t x u h = by_test (u == s)
    (λ b. let k : tally x (followers_of m u) ≡ cond (t == x) 1 0 + tally x (followers_of l u) = rw b at (h.followers u x) in
    let k' : tally x (followers_of m u) ≡ cond (x == t) 1 0 + tally x (followers_of l u) = rw (turned t x) at k in
    rw b k')
    (λ b. let k : tally x (followers_of m u) ≡ tally x (followers_of l u) = rw b at (h.followers u x) in
    by_test (x == t) (λ a. rw (a, b) (omega arith)) (λ a. rw a (omega arith)))

hit_there : (x t u s : ℕ) → 0 < hit x t u s → (x ≡ t) × (u ≡ s)
hit_there x t u s h = by_test (x == t)
    (λ a. let k : 0 < cond (u == s) 1 0 = rw a at h in
    by_test (u == s)
    (λ b. (same_node x t a, same_node u s b))
    (λ b. absurd (let z : 0 < 0 = rw b at k in omega arith)))
    (λ a. absurd (let z : 0 < 0 = rw a at h in omega arith))

-- one wire more between two of the boxes
pub more_lawful : (labels : List ℕ) (l m : Links) (n s t : ℕ) → HasOneMore l m s t → 0 < tally s (behind n) → 0 < tally t (behind n) → IsLawful (link_graph labels l) (behind n) → IsLawful (link_graph labels m) (behind n)
more_lawful labels l m n s t h hs ht w = record {
  once = w.once;
  apart = w.apart;
  joined = λ x u. omega (arith, fed_more l m s t x u h, followed_more l m s t x u h, w.joined x u);
  sources = λ x u p. by_test (nat_lt 0 (hit x t u s))
      (λ a. subst (λ (v : ℕ). 0 < tally v (behind n)) (sym (hit_there x t u s (is_less 0 (hit x t u s) a)).1) hs)
      (λ a. w.sources x u (omega (arith, fed_more l m s t x u h, is_not_less 0 (hit x t u s) a, p)));
  sinks = λ x u p. by_test (nat_lt 0 (hit x t u s))
      (λ a. subst (λ (v : ℕ). 0 < tally v (behind n)) (sym (hit_there x t u s (is_less 0 (hit x t u s) a)).0) ht)
      (λ a. w.sinks x u (omega (arith, fed_more l m s t x u h, is_not_less 0 (hit x t u s) a, p)));
  few = λ x. m.few_into x;
}

-- one wire less
pub less_lawful : (labels : List ℕ) (l m : Links) (ns : List ℕ) (s t : ℕ) → HasOneMore l m s t → IsLawful (link_graph labels m) ns → IsLawful (link_graph labels l) ns
less_lawful labels l m ns s t h w = record {
  once = w.once;
  apart = w.apart;
  joined = λ x u. omega (arith, fed_more l m s t x u h, followed_more l m s t x u h, w.joined x u);
  sources = λ x u p. w.sources x u (omega (arith, fed_more l m s t x u h, p));
  sinks = λ x u p. w.sinks x u (omega (arith, fed_more l m s t x u h, p));
  few = λ x. l.few_into x;
}

-- what is lawful for the numbers behind 0 is so for boxes of these keys
pub on_nodes : (g : Graph) (n n' : ℕ) (ns : List ℕ) → n' ≡ n → ((x : ℕ) → tally x ns ≡ tally x (behind n)) → IsLawful g (behind n') → IsLawful g ns
on_nodes g n n' ns e t w = lawful_nodes g (behind n') ns (λ x. t x ∙ ap (λ k. tally x (behind k)) (sym e)) w

-- the same under labels that are equal
pub under_labels : (labels labels' : List ℕ) (l : Links) (n n' : ℕ) (ns : List ℕ) → labels' ≡ labels → n' ≡ n → ((x : ℕ) → tally x ns ≡ tally x (behind n)) → IsLawful (link_graph labels l) (behind n') → IsLawful (link_graph labels' l) ns
under_labels labels labels' l n n' ns q e t w = subst (λ (ls : List ℕ). IsLawful (link_graph ls l) ns) (sym q) (on_nodes (link_graph labels l) n n' ns e t w)

pub of_count : (n n' : ℕ) (ns ms : List ℕ) → n' ≡ n → ms ≡ ns → ((x : ℕ) → tally x ns ≡ tally x (behind n)) → (x : ℕ) → tally x ms ≡ tally x (behind n')
of_count n n' ns ms e q t x = ap (tally x) q ∙ (t x ∙ ap (λ k. tally x (behind k)) (sym e))

pub relabelled : (labels labels' : List ℕ) (l : Links) (ns chain stuck : List ℕ) → labels' ≡ labels → IsOrder (link_graph labels l) ns chain stuck → IsOrder (link_graph labels' l) ns chain stuck
relabelled labels labels' l ns chain stuck e o = subst (λ (ls : List ℕ). IsOrder (link_graph ls l) ns chain stuck) (sym e) o

-- with a node less there is room for it
pub fewer_spots : (y : ℕ) (old new : List Spot) → ((x : ℕ) → tally x (nodes_of old) ≤ 1) → ((x : ℕ) → tally x (nodes_of old) ≡ tally x (y ∷ nodes_of new)) → length new < length old
fewer_spots y old new once e =
    let k : length (nodes_of new) < length (nodes_of old) = room_for y (nodes_of new) (nodes_of old) once (λ x. let q : tally x (nodes_of old) ≡ tally x (y ∷ nodes_of new) = e x in omega arith) in
    omega (arith, k, length-nodes old, length-nodes new)

pub gone : (y : ℕ) (old new : List ℕ) → ((x : ℕ) → tally x old ≤ 1) → ((x : ℕ) → tally x old ≡ tally x (y ∷ new)) → tally y new ≡ 0
gone y old new once e =
    let a : tally y old ≡ tally y (y ∷ new) = e y in
    let b : tally y (y ∷ new) ≡ 1 + tally y new = rw (same_test y) refl in
    let o : tally y old ≤ 1 = once y in omega arith

-- where a wire leads, a box is
pub fed_there : (g : Graph) (n : ℕ) (ns : List ℕ) (s t : ℕ) → ((x : ℕ) → tally x ns ≡ tally x (behind n)) → IsLawful g (behind n) → 0 < tally s (g.feeders t) → 0 < tally t ns
fed_there g n ns s t e w h = let k : 0 < tally t (behind n) = w.sinks t s h in let q : tally t ns ≡ tally t (behind n) = e t in omega arith
