-- A forest stays one while boxes are planted.
use Rattle.std.proofs.Common.{◌≡◌, ◌≢◌, ℕ, ◌+◌, ◌<◌, List, [], ◌∷◌, ◌++◌, Option, Some, None, IsSome, refl, sym, ap, ◌∙◌, subst, arith}
use Rattle.std.specs.Prelude.{option_map}
use Rattle.std.proofs.lemmas.List.{append-nil}
use Rattle.std.proofs.lemmas.Option.{same_Some}
use Rattle.slab.specs.Slab.{Slab, get}
use Rattle.pd_tree.specs.declared.rows.Sheet.{Sheet}
use Rattle.pd_tree.specs.Trees.{Cell, Trees, Done, Leaf, Holder, Stand, width, stands_of}
use Rattle.pd_grove.specs.declared.nodes.Node.{Node}
use Rattle.pd_grove.specs.declared.boards.Board.{Board}
use Rattle.pd_grove.specs.Standing.{BoardSeen, board_seen, depth_of, with_inner, Gains}
use Rattle.pd_grove.specs.Planting.{with_keys}
use Rattle.pd_grove.specs.Telling.{inner_in, keys_in}
use Rattle.pd_grove.specs.Owning.{board_in}
use Rattle.pd_grove.specs.TextOrder.{deep}
use Rattle.pd_grove.specs.Forest.{IsForest}
use Rattle.pd_grove.specs.Grafts.{HasBoxMore}
use Rattle.pd_grove.proofs.ForestLemmas.{live_board}
use Rattle.pd_grove.proofs.GraftLemmas.{same_depth, forest_more}
use Rattle.pd_grove.proofs.OpenLemmas.{forest_opened}
use Rattle.pd_grove.proofs.Plantings.{first_sheet, first_count, behind, gains_live}

-- a box that comes last in its canvas
pub box_more : (n₀ n₁ : ℕ → Option Node) (b₀ b₁ : ℕ → Option Board) (b k : ℕ) (n : Node) → n₀ k ≡ None → n₁ k ≡ Some n → n.board ≡ b → n.inner ≡ None → ((l : ℕ) → l ≢ k → n₁ l ≡ n₀ l)
    → IsSome (b₀ b) → Gains b₀ b₁ b k → HasBoxMore n₀ n₁ b₀ b₁ b k n (keys_in (b₀ b)) []
box_more n₀ n₁ b₀ b₁ b k n vacant is lies bare others live G =
    let B = live_board (b₀ b) live in
    let C = live_board (b₁ b) (gains_live b₀ b₁ b k live G) in
    let S : board_seen C.0 ≡ with_keys (k ∷ []) (board_seen B.0) =
    same_Some (board_seen C.0) (with_keys (k ∷ []) (board_seen B.0)) (sym (ap (option_map board_seen) C.1) ∙ G.seen ∙ ap (λ o. option_map (with_keys (k ∷ [])) (option_map board_seen o)) B.1) in
    record {
      vacant = vacant;
      is = is;
      lies = lies;
      bare = bare;
      others = others;
      keys = record {
        before = B.0;
        after = C.0;
        was = B.1;
        is = C.1;
        holder = ap (λ (s : BoardSeen). s.holder) S;
        depth = ap (λ (s : BoardSeen). s.depth) S;
        sheet = ap (λ (s : BoardSeen). s.sheet) S;
        had = sym (ap keys_in B.1) ∙ sym (append-nil (keys_in (b₀ b)));
        has = ap (λ (s : BoardSeen). s.keys) S ∙ ap (λ ks. ks ++ k ∷ []) (sym (ap keys_in B.1));
        others = G.others;
      };
    }

-- a box that comes, and then what it holds
pub box_forest : (n₀ : ℕ → Option Node) (n₁ n₂ : Slab Node) (b₀ : ℕ → Option Board) (b₁ b₂ : Slab Board) (root b k d boxes : ℕ) (n : Node) (before after : List ℕ) (c : Cell) (sheet : Option Sheet) (ready : List Stand)
    → HasBoxMore n₀ (get n₁) b₀ (get b₁) b k n before after → depth_of (b₀ b) ≡ d → (sheet ≡ None → (n₂ ≡ n₁) × (b₂ ≡ b₁))
    → ((root : ℕ) (s : Sheet) (t : Trees) (more : List Stand) → sheet ≡ Some s → ready ≡ stands_of t ++ more → width t ≡ boxes → d + 1 + deep t < 257
    → inner_in (get n₁ k) ≡ None → ((x : ℕ) → board_in (get n₁ k) ≡ Some x → d + 1 ≡ depth_of (get b₁ x) + 1) → IsForest (get n₁) (get b₁) root → IsForest (get n₂) (get b₂) root)
    → (t : Trees) (more : List Stand) → record { cell = c; sheet = sheet; boxes = boxes } ∷ ready ≡ stands_of t ++ more → width t ≡ 1 → d + deep t < 257
    → IsForest n₀ b₀ root → IsForest (get n₂) (get b₂) root
box_forest n₀ n₁ n₂ b₀ b₁ b₂ root b k d boxes n x y c sheet ready M e P I Done more h w low F = absurd (omega (arith, w))
box_forest n₀ n₁ n₂ b₀ b₁ b₂ root b k d boxes n x y c sheet ready M e P I (Leaf c' (Leaf z rest)) more h w low F = absurd (omega (arith, w))
box_forest n₀ n₁ n₂ b₀ b₁ b₂ root b k d boxes n x y c sheet ready M e P I (Leaf c' (Holder z s i rest)) more h w low F = absurd (omega (arith, w))
box_forest n₀ n₁ n₂ b₀ b₁ b₂ root b k d boxes n x y c sheet ready M e P I (Holder c' s inner (Leaf z rest)) more h w low F = absurd (omega (arith, w))
box_forest n₀ n₁ n₂ b₀ b₁ b₂ root b k d boxes n x y c sheet ready M e P I (Holder c' s inner (Holder z r i rest)) more h w low F = absurd (omega (arith, w))
box_forest n₀ n₁ n₂ b₀ b₁ b₂ root b k d boxes n x y c sheet ready M e P I (Leaf c' Done) more h w low F =
    let p = P (ap (first_sheet sheet) h) in
    subst (λ (m : Slab Node). IsForest (get m) (get b₂) root) (sym p.0)
    (subst (λ (m : Slab Board). IsForest (get n₁) (get m) root) (sym p.1) (forest_more n₀ (get n₁) b₀ (get b₁) root b k n x y M F))
box_forest n₀ n₁ n₂ b₀ b₁ b₂ root b k d boxes n x y c sheet ready M e P I (Holder c' s inner Done) more h w low F =
    I root s inner more (ap (first_sheet sheet) h) (ap behind h ∙ ap (λ l. l ++ more) (append-nil (stands_of inner))) (sym (ap (first_count boxes) h)) (omega (arith, low))
    (ap inner_in M.is ∙ M.bare)
    (λ z lies. let q : b ≡ z = same_Some b z (ap (λ v. Some v) (sym M.lies) ∙ sym (ap board_in M.is) ∙ lies) in
    ap (λ v. v + 1) (sym e ∙ sym (same_depth b₀ (get b₁) b (x ++ y) (x ++ k ∷ y) M.keys b) ∙ ap (λ v. depth_of (get b₁ v)) q))
    (forest_more n₀ (get n₁) b₀ (get b₁) root b k n x y M F)

found : (o : Option Node) → IsSome o → (n : Node) × (o ≡ Some n)
found None h = absurd (cc)
found (Some n) h = (n, refl)

-- a canvas that comes in a box
pub opened_forest : (n₀ n₁ : ℕ → Option Node) (b₀ b₁ : ℕ → Option Board) (root k j d : ℕ) (b : Board) → IsSome (n₀ k) → inner_in (n₀ k) ≡ None
    → ((c : ℕ) → board_in (n₀ k) ≡ Some c → d ≡ depth_of (b₀ c) + 1) → n₁ k ≡ option_map (with_inner j) (n₀ k) → ((l : ℕ) → l ≢ k → n₁ l ≡ n₀ l)
    → b₀ j ≡ None → b₁ j ≡ Some b → b.holder ≡ Some k → b.depth ≡ d → b.nodes.items ≡ [] → ((x : ℕ) → x ≢ j → b₁ x ≡ b₀ x) → d < 257
    → IsForest n₀ b₀ root → IsForest n₁ b₁ root
opened_forest n₀ n₁ b₀ b₁ root k j d b live bare level is others vacant opened held deep none stay low F =
    let N = found (n₀ k) live in
    forest_opened n₀ n₁ b₀ b₁ root k j N.0 b (record {
      was = N.1;
      bare = sym (ap inner_in N.1) ∙ bare;
      is = is ∙ ap (option_map (with_inner j)) N.1;
      others = others;
      vacant = vacant;
      opened = opened;
      held = held;
      deeper = deep ∙ level N.0.board (ap board_in N.1);
      low = subst (λ x. x < 257) (sym deep) low;
      empty = none;
      stay = stay;
    }) F
