-- Boxes told one after another.
use Rattle.std.proofs.Common.{◌≡◌, ℕ, ◌+◌, ◌-◌, ◌≤◌, List, [], ◌∷◌, ◌++◌, append_assoc, Option, Some, refl, sym, ap, ◌∙◌, subst, arith}
use Rattle.std.specs.Prelude.{option_map}
use Rattle.std.proofs.lemmas.List.{append-nil}
use Rattle.std.proofs.lemmas.Option.{none-some, same_Some}
use Rattle.pd_canvas.specs.Views.{entry_of}
use Rattle.pd_tree.specs.Trees.{Trees, Done, Leaf, Holder, zeros_in, own_zeros}
use Rattle.pd_grove.specs.declared.nodes.Node.{Node}
use Rattle.pd_grove.specs.declared.boards.Board.{Board}
use Rattle.pd_grove.specs.Standing.{NodeSeen, node_seen, BoardSeen, board_seen, Stands}
use Rattle.pd_grove.specs.TextOrder.{deep}
use Rattle.pd_grove.proofs.TreeLemmas.{first_box, other_boxes}

-- the boxes of the keys that are left stand, and with what they will tell all is told
pub record Told (nodes : ℕ → Option Node) (boards : ℕ → Option Board) (b d : ℕ) (keys : List ℕ) (left : ℕ) (old now : List ℕ) (t : Trees) : Type 0 where
  pub rest : Trees
  pub stands : Stands nodes boards b d keys rest
  pub low : deep rest ≤ left
  pub told : now ++ zeros_in rest ≡ old ++ zeros_in t

pub told_start : (nodes : ℕ → Option Node) (boards : ℕ → Option Board) (b d : ℕ) (keys : List ℕ) (left : ℕ) (old : List ℕ) (t : Trees)
    → Stands nodes boards b d keys t → deep t ≤ left → Told nodes boards b d keys left old old t
told_start nodes boards b d keys left old t S l = record { rest = t; stands = S; low = l; told = refl }

-- nothing stands under no keys
pub no_keys : (nodes : ℕ → Option Node) (boards : ℕ → Option Board) (b d : ℕ) (r : Trees) → Stands nodes boards b d [] r → r ≡ Done
no_keys nodes boards b d Done S = refl
no_keys nodes boards b d (Leaf c rest) S = absurd S
no_keys nodes boards b d (Holder c s inner rest) S = absurd S

pub told_end : (nodes : ℕ → Option Node) (boards : ℕ → Option Board) (b d left : ℕ) (old now : List ℕ) (t : Trees)
    → Told nodes boards b d [] left old now t → now ≡ old ++ zeros_in t
told_end nodes boards b d left old now t T = sym (append-nil now) ∙ ap (λ r. now ++ zeros_in r) (sym (no_keys nodes boards b d T.rest T.stands)) ∙ T.told

first_zeros : (t : Trees) → zeros_in t ≡ zeros_in (first_box t) ++ zeros_in (other_boxes t)
first_zeros Done = refl
first_zeros (Leaf c rest) = refl
first_zeros (Holder c s inner rest) =
    let own = own_zeros c.head.form s in
    sym (append_assoc own (zeros_in inner) (zeros_in rest)) ∙ ap (λ (x : List ℕ). (own ++ x) ++ zeros_in rest) (sym (append-nil (zeros_in inner)))

first_stands : (nodes : ℕ → Option Node) (boards : ℕ → Option Board) (b d k : ℕ) (ks : List ℕ) (t : Trees)
    → Stands nodes boards b d (k ∷ ks) t → Stands nodes boards b d (k ∷ []) (first_box t) × Stands nodes boards b d ks (other_boxes t)
first_stands nodes boards b d k ks Done S = absurd S
first_stands nodes boards b d k ks (Leaf c rest) S = ((S.0, tt), S.1)
first_stands nodes boards b d k ks (Holder c s inner rest) S = ((S.0, S.1, S.2, S.3, S.4, tt), S.5)

first_deep : (t : Trees) → deep (first_box t) ≤ deep t
first_deep Done = omega arith
first_deep (Leaf c rest) = omega arith
first_deep (Holder c s inner rest) = omega arith

other_deep : (t : Trees) → deep (other_boxes t) ≤ deep t
other_deep Done = omega arith
other_deep (Leaf c rest) = omega arith
other_deep (Holder c s inner rest) = omega arith

-- one box more is told
pub told_next : (nodes : ℕ → Option Node) (boards : ℕ → Option Board) (b d k : ℕ) (ks : List ℕ) (left : ℕ) (old now now' : List ℕ) (t : Trees)
    → ((u : Trees) → Stands nodes boards b d (k ∷ []) u → deep u ≤ left → now' ≡ now ++ zeros_in u)
    → Told nodes boards b d (k ∷ ks) left old now t → Told nodes boards b d ks left old now' t
told_next nodes boards b d k ks left old now now' t P T =
    let u = first_box T.rest in
    let v = other_boxes T.rest in
    let s = first_stands nodes boards b d k ks T.rest T.stands in
    let e = P u s.0 (let l = T.low in let f = first_deep T.rest in omega (arith, l, f)) in
    record {
      rest = v;
      stands = s.1;
      low = (let l = T.low in let f = other_deep T.rest in omega (arith, l, f));
      told = ap (λ x. x ++ zeros_in v) e ∙ append_assoc now (zeros_in u) (zeros_in v) ∙ ap (λ x. now ++ x) (sym (first_zeros T.rest)) ∙ T.told;
    }

-- what a box that holds a canvas tells
pub box_told : (nodes : ℕ → Option Node) (boards : ℕ → Option Board) (b d k j left : ℕ) (node : Node) (board : Board) (old mid new : List ℕ) (u : Trees)
    → nodes k ≡ Some node → node.inner ≡ Some j → boards j ≡ Some board → Stands nodes boards b d (k ∷ []) u → deep u ≤ left
    → mid ≡ old ++ own_zeros (entry_of node.element).head.form board.sheet
    → ((b' d' : ℕ) (t : Trees) → Stands nodes boards b' d' board.nodes.items t → deep t ≤ left - 1 → new ≡ mid ++ zeros_in t)
    → new ≡ old ++ zeros_in u
box_told nodes boards b d k j left node board old mid new Done N J B S l O P = absurd S
box_told nodes boards b d k j left node board old mid new (Leaf c rest) N J B S l O P =
    let q = same_Some (node_seen node) _ (ap (option_map node_seen) (sym N) ∙ S.0) in
    absurd (none-some j (sym (ap (λ (x : NodeSeen). x.inner) q) ∙ J))
box_told nodes boards b d k j left node board old mid new (Holder c s inner rest) N J B S l O P =
    let q = same_Some (node_seen node) _ (ap (option_map node_seen) (sym N) ∙ S.2) in
    let same : j ≡ S.0 = same_Some j S.0 (sym J ∙ ap (λ (x : NodeSeen). x.inner) q) in
    let r = same_Some (board_seen board) _ (ap (option_map board_seen) (sym B ∙ ap boards same) ∙ S.3) in
    let form = ap (λ (x : NodeSeen). x.cell.head.form) q in
    let sheet = ap (λ (x : BoardSeen). x.sheet) r in
    let keys = ap (λ (x : BoardSeen). x.keys) r in
    let own = own_zeros c.head.form s in
    let stands : Stands nodes boards S.0 (d + 1) board.nodes.items inner =
    (let Q : List ℕ → Type 0 = λ ks. Stands nodes boards S.0 (d + 1) ks inner in subst Q (sym keys) S.4) in
    let none : rest ≡ Done = no_keys nodes boards b d rest S.5 in
    P S.0 (d + 1) inner stands (omega (arith, l))
    ∙ ap (λ x. x ++ zeros_in inner) (O ∙ ap (λ f. old ++ own_zeros f board.sheet) form ∙ ap (λ x. old ++ own_zeros c.head.form x) sheet)
    ∙ append_assoc old own (zeros_in inner)
    ∙ ap (λ x. old ++ (own ++ x)) (sym (append-nil (zeros_in inner)))
    ∙ ap (λ x. old ++ (own ++ (zeros_in inner ++ zeros_in x))) (sym none)
