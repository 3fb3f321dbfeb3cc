-- The orders of graphs in which who feeds whom is the same.
use Rattle.std.proofs.Common.{◌≡◌, ℕ, ◌+◌, ◌<◌, ◌≤◌, List, [], ◌∷◌, ◌++◌, sym, arith}
use Rattle.pd_order.proofs.Basics.{by_test, same_test, all_listed, none_missing, ltb', ltb-true', ltb-false'}
use Rattle.pd_order.proofs.MendLemmas.{order_nodes}
use Rattle.pd_order.specs.Graph.{Graph, tally, missing, IsReady, IsNext, AreNext, IsLeast, AreByRank, IsOrder}
use Rattle.pd_order.specs.Laws.{OrdersAlike}

missing_alike : (T us ws : List ℕ) → ((u : ℕ) → tally u us ≡ tally u ws) → missing T us ≡ 0 → missing T ws ≡ 0
missing_alike T us ws e h = none_missing T ws (λ u l. all_listed u T us h (let q : tally u us ≡ tally u ws = e u in omega arith))

ready_there : (g h : Graph) (ns T : List ℕ) (x : ℕ) → OrdersAlike g h ns → IsReady g ns T x → IsReady h ns T x
ready_there g h ns T x a r = record { node = r.node; unlisted = r.unlisted; fed = missing_alike T (g.feeders x) (h.feeders x) (λ u. a.feeders x u r.node) r.fed }

ready_back : (g h : Graph) (ns T : List ℕ) (x : ℕ) → OrdersAlike g h ns → IsReady h ns T x → IsReady g ns T x
ready_back g h ns T x a r = record { node = r.node; unlisted = r.unlisted; fed = missing_alike T (h.feeders x) (g.feeders x) (λ u. sym (a.feeders x u r.node)) r.fed }

rank_le : (g h : Graph) (ns : List ℕ) (x y : ℕ) → OrdersAlike g h ns → 0 < tally x ns → 0 < tally y ns → g.rank x ≤ g.rank y → h.rank x ≤ h.rank y
rank_le g h ns x y a nx ny l = by_test (ltb' (h.rank y) (h.rank x))
    (λ t. absurd (let k : g.rank y < g.rank x = (a.ranks y x ny nx).1 (ltb-true' (h.rank y) (h.rank x) t) in omega arith))
    (λ t. ltb-false' (h.rank y) (h.rank x) t)

next_there : (g h : Graph) (ns T : List ℕ) (x : ℕ) → OrdersAlike g h ns → IsNext g ns T x → IsNext h ns T x
next_there g h ns T x a n = record {
  ready = ready_there g h ns T x a n.ready;
  least = λ z r. rank_le g h ns x z a n.ready.node r.node (n.least z (ready_back g h ns T z a r));
}

AreNext_there : (g h : Graph) (ns T xs : List ℕ) → OrdersAlike g h ns → AreNext g ns T xs → AreNext h ns T xs
AreNext_there g h ns T [] a n = tt
AreNext_there g h ns T (x ∷ xs) a n = (next_there g h ns T x a n.0, AreNext_there g h ns (T ++ x ∷ []) xs a n.1)

least_there : (g h : Graph) (ns : List ℕ) (x : ℕ) (ys : List ℕ) → OrdersAlike g h ns → 0 < tally x ns → ((z : ℕ) → 0 < tally z ys → 0 < tally z ns) → IsLeast g x ys → IsLeast h x ys
least_there g h ns x [] a nx inn l = tt
least_there g h ns x (y ∷ ys) a nx inn l = (
  (a.ranks x y nx (inn y (rw (same_test y) (omega arith)))).0 l.0,
  least_there g h ns x ys a nx (λ z m. inn z (omega arith)) l.1,
)

by_rank_there : (g h : Graph) (ns ys : List ℕ) → OrdersAlike g h ns → ((z : ℕ) → 0 < tally z ys → 0 < tally z ns) → AreByRank g ys → AreByRank h ys
by_rank_there g h ns [] a inn b = tt
by_rank_there g h ns (y ∷ ys) a inn b = (
  least_there g h ns y ys a (inn y (rw (same_test y) (omega arith))) (λ z m. inn z (omega arith)) b.0,
  by_rank_there g h ns ys a (λ z m. inn z (omega arith)) b.1,
)

order_there : (g h : Graph) (ns chain stuck : List ℕ) → OrdersAlike g h ns → IsOrder g ns chain stuck → IsOrder h ns chain stuck
order_there g h ns chain stuck a o = record {
  listed = AreNext_there g h ns [] chain a o.listed;
  ended = λ x r. o.ended x (ready_back g h ns chain x a r);
  rest = o.rest;
  by_rank = by_rank_there g h ns stuck a (λ z l. let r : tally z stuck + tally z chain ≡ tally z ns = o.rest z in omega arith) o.by_rank;
}

pub same_order : (g h : Graph) (ns ms chain stuck : List ℕ) → OrdersAlike g h ns → ((x : ℕ) → tally x ns ≡ tally x ms) → IsOrder g ns chain stuck → IsOrder h ms chain stuck
same_order g h ns ms chain stuck a e o = order_nodes h ns ms chain stuck e (order_there g h ns chain stuck a o)
