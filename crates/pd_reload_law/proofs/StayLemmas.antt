-- A tree stands whatever its boxes keep.
use Rattle.std.proofs.Common.{◌≡◌, ℕ, ◌+◌, List, [], ◌∷◌, Option, Some, None, refl, sym, ap, ◌∙◌, subst}
use Rattle.std.specs.Prelude.{option_map}
use Rattle.slab.specs.Slab.{get}
use Rattle.pd_tree.specs.declared.rows.Sheet.{Sheet}
use Rattle.pd_tree.specs.Trees.{Trees, Done, Leaf, Holder}
use Rattle.pd_grove.specs.declared.nodes.Node.{Node}
use Rattle.pd_grove.specs.declared.boards.Board.{Board}
use Rattle.pd_grove.specs.declared.grove.Grove.{Grove}
use Rattle.pd_grove.specs.Standing.{node_seen, board_seen, Stands, GroveStands}
use Rattle.pd_grove.specs.Telling.{with_state}

seen_bare : (o : Option Node) → option_map node_seen (option_map (with_state None) o) ≡ option_map node_seen o
seen_bare None = refl
seen_bare (Some n) = refl

stands_stays : (nodes nodes2 : ℕ → Option Node) (boards : ℕ → Option Board) (b d : ℕ) (keys : List ℕ) (t : Trees)
    → ((k : ℕ) → option_map node_seen (nodes2 k) ≡ option_map node_seen (nodes k)) → Stands nodes boards b d keys t → Stands nodes2 boards b d keys t
stands_stays nodes nodes2 boards b d [] Done e S = tt
stands_stays nodes nodes2 boards b d (k ∷ ks) Done e S = absurd S
stands_stays nodes nodes2 boards b d [] (Leaf c rest) e S = absurd S
stands_stays nodes nodes2 boards b d (k ∷ ks) (Leaf c rest) e S = (e k ∙ S.0, stands_stays nodes nodes2 boards b d ks rest e S.1)
stands_stays nodes nodes2 boards b d [] (Holder c s inner rest) e S = absurd S
stands_stays nodes nodes2 boards b d (k ∷ ks) (Holder c s inner rest) e S =
    (S.0, S.1, e k ∙ S.2, S.3, stands_stays nodes nodes2 boards S.0 (d + 1) S.1 inner e S.4, stands_stays nodes nodes2 boards b d ks rest e S.5)

pub grove_stays : (g g2 : Grove) (s : Sheet) (t : Trees) → ((k : ℕ) → option_map (with_state None) (get g2.nodes k) ≡ option_map (with_state None) (get g.nodes k))
    → g2.boards ≡ g.boards → g2.root ≡ g.root → GroveStands g s t → GroveStands g2 s t
grove_stays g g2 s t e f r G =
    let same : (k : ℕ) → option_map node_seen (get g2.nodes k) ≡ option_map node_seen (get g.nodes k) = λ k.
    sym (seen_bare (get g2.nodes k)) ∙ ap (option_map node_seen) (e k) ∙ seen_bare (get g.nodes k) in
    record {
      keys = G.keys;
      root = ap (λ x. option_map board_seen (get x g2.root)) f ∙ ap (λ x. option_map board_seen (get g.boards x)) r ∙ G.root;
      stands = subst (λ x. Stands (get g2.nodes) (get x) g2.root 0 G.keys t) (sym f)
          (subst (λ x. Stands (get g2.nodes) (get g.boards) x 0 G.keys t) (sym r)
          (stands_stays (get g.nodes) (get g2.nodes) (get g.boards) g.root 0 G.keys t same G.stands));
    }
