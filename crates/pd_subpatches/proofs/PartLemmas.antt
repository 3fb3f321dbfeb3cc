-- A box that came with an empty canvas inside is a part that came, and stands as the tree of that box.
use Rattle.std.proofs.Common.{◌≡◌, ◌≢◌, ℕ, ◌+◌, List, [], ◌∷◌, Option, Some, None, IsSome, sym, ap, ◌∙◌, subst}
use Rattle.std.specs.Prelude.{option_map}
use mathlib.Core.Logic.{⊎_elim}
use Rattle.std.proofs.lemmas.Bool.{cases_eq}
use Rattle.std.proofs.lemmas.Option.{none-some, same_Some}
use Rattle.pd_clock.specs.declared.times.Rate.{Rate}
use Rattle.pd_kind.specs.States.{start_of}
use Rattle.pd_kind.specs.Tables.{started}
use Rattle.pd_tree.specs.Trees.{Done, Holder, stand_of}
use Rattle.pd_grove.specs.declared.nodes.Node.{Node}
use Rattle.pd_grove.specs.declared.boards.Board.{Board}
use Rattle.pd_grove.specs.declared.seeds.Seed.{Seed}
use Rattle.pd_grove.specs.Standing.{BoardSeen, Stands, node_seen, board_seen, with_inner, depth_of}
use Rattle.pd_grove.specs.States.{IsFresh}
use Rattle.pd_grove.specs.Owning.{board_in}
use Rattle.pd_grove.specs.Forest.{IsForest}
use Rattle.pd_grove.specs.Grafts.{HasPartMore}
use Rattle.pd_grove.proofs.ComeLemmas.{part_more}
use Rattle.pd_grove.proofs.GraftLemmas.{forest_more, same_depth}
use Rattle.pd_grove.proofs.OpenLemmas.{forest_opened}
use Rattle.pd_grove.proofs.UseLemmas.{not_both}
use Rattle.pd_boxes.specs.Put.{node_of}
use Rattle.pd_subpatches.specs.Grove.{HasShellMore}

seen : (b : Board) (k d : ℕ) → b.holder ≡ Some k → b.depth ≡ d → b.nodes.items ≡ [] → board_seen b ≡ record { holder = Some k; depth = d; sheet = b.sheet; keys = [] }
seen b k d holder depth keys = λ i. record { holder = holder i; depth = depth i; sheet = b.sheet; keys = keys i }

module _ (nodes nodes' : ℕ → Option Node) (boards boards' : ℕ → Option Board) (root c k j : ℕ) (s : Seed) (b : Board) (before behind : List ℕ)
    (H : HasShellMore nodes nodes' boards boards' c k j (node_of c s) b before behind) where
  not_inside : (x : ℕ) → IsSome (H.boards_between x) → x ≢ j
  not_inside x live e = not_both (H.boards_between x) (ap H.boards_between e ∙ H.canvas.vacant) live

  pub comes_as_part : IsForest nodes boards root → HasPartMore nodes nodes' boards boards' c k before behind
  comes_as_part F =
      let G = forest_more nodes H.nodes_between boards H.boards_between root c k (node_of c s) before behind H.box F in
      part_more nodes H.nodes_between nodes' boards H.boards_between boards' root c k (node_of c s) before behind H.box
      (λ l d live. H.canvas.others l d) (λ x live. H.canvas.stay x (not_inside x live)) (ap board_in H.canvas.is ∙ sym (ap board_in H.canvas.was)) F
      (forest_opened H.nodes_between nodes' H.boards_between boards' root k j (node_of c s) b H.canvas G)

  pub stands_as_box : Stands nodes' boards' c (depth_of (boards c)) (k ∷ []) (Holder (stand_of s.row).cell b.sheet Done Done)
  stands_as_box =
      let depth : b.depth ≡ depth_of (boards c) + 1 = H.canvas.deeper ∙ ap (λ m. m + 1) (same_depth boards H.boards_between c _ _ H.box.keys c) in (
        j,
        [],
        ap (option_map node_seen) H.canvas.is,
        ap (option_map board_seen) H.canvas.opened ∙ ap (λ (x : BoardSeen). Some x) (seen b k (depth_of (boards c) + 1) H.canvas.held depth H.canvas.empty),
        tt,
        tt,
      )

  -- the only box that came keeps what its seed keeps
  pub comes_fresh : (rate : Rate) (now : ℕ) → IsFresh rate now s → (l : ℕ) (n : Node) → nodes l ≡ None → nodes' l ≡ Some n → n.state ≡ Some (started (start_of n.kind rate) now)
  comes_fresh rate now fresh l n none is = ⊎_elim
      (λ (e : l ≡ k). subst (λ (x : Node). x.state ≡ Some (started (start_of x.kind rate) now)) (same_Some (with_inner j (node_of c s)) n (sym H.canvas.is ∙ ap nodes' (sym e) ∙ is)) (ap (λ x. Some x) fresh))
      (λ (d : l ≢ k). absurd (none-some n (sym none ∙ sym (H.box.others l d) ∙ sym (H.canvas.others l d) ∙ is)))
      (cases_eq l k)
