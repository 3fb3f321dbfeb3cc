-- The box around a canvas of the document, and the canvases inside abstractions, where it isn't.
use Rattle.std.proofs.Common.{◌≡◌, ℕ, List, [], ◌∷◌, ◌++◌, slice_get, Some, refl, sym, ap, ◌∙◌, subst}
use Rattle.std.proofs.lemmas.Option.{none-some, same_Some}
use Rattle.slab.specs.Slab.{get}
use Rattle.pd_tree.specs.Trees.{Tree}
use Rattle.pd_grove.specs.declared.grove.Grove.{Grove}
use Rattle.pd_grove.specs.Forest.{holder_in}
use Rattle.pd_grove.specs.OwnPaths.{sub_reached}
use Rattle.pd_grove.specs.Owning.{AreOwn}
use Rattle.pd_web.specs.declared.web.Hop.{Hop}
use Rattle.pd_web.specs.declared.web.Web.{Web}
use Rattle.pd_web.specs.Canvases.{keys_at}
use Rattle.pd_web.specs.Changes.{hop_at, Meet}
use Rattle.pd_web.specs.Hops.{fan_hops, feed_hops}
use Rattle.pd_patch.specs.Linked.{ShareCanvas, StayInside}
use Rattle.pd_wiring.proofs.HeardLemmas.{all_at}
use Rattle.pd_reload_law.specs.Wires.{IsAmong}
use Rattle.pd_inside_law.specs.Inside.{LeadsInside}
use Rattle.pd_putting_law.proofs.PathLemmas.{Forest, paths_once, sub_leads}
use Rattle.pd_following_law.specs.Raised.{StandsAt}

-- from the boxes of a canvas the wires to its boxes come
pub feeds_among : (g : Grove) (w : Web) → AreOwn (get g.nodes) (get g.boards) → StayInside g w → Meet w → (c k i j : ℕ) (h : Hop) → IsAmong (keys_at g c) k
    → slice_get (feed_hops w k i) j ≡ Some h → IsAmong (keys_at g c) h.node
feeds_among g w own inside M c k i j h a e =
    let m = M.fanned k i j h e in
    let t : ShareCanvas g h.node k = all_at (λ (x : Hop). ShareCanvas g h.node x.node) (fan_hops w h.node h.port) m.0 (hop_at h.key k i) (inside h.node h.port) m.1 in
    let same : t.canvas ≡ c = same_Some t.canvas c (sym (own.home t.canvas t.other.0 k t.other.1) ∙ own.home c a.0 k a.1) in
    subst (λ x. IsAmong (keys_at g x) h.node) same t.one

module _ (g : Grove) (F : Forest g) (path : List ℕ) (n box : ℕ) (A : StandsAt g path n box) where
  -- the box stands in its canvas alone
  pub only_here : (c : ℕ) → IsAmong (keys_at g c) box → c ≡ A.canvas
  only_here c there = same_Some c A.canvas (sym (F.own.home c there.0 box there.1) ∙ F.own.home A.canvas n box A.at)

  -- and inside an abstraction it isn't
  pub not_inside : (t : Tree) (way : List ℕ) (d : ℕ) (u : Tree) → LeadsInside g t way d u → IsAmong (keys_at g d) box → ⊥
  not_inside t way d u l there =
      let same : path ≡ way = paths_once g F path way g.root A.canvas (sub_leads g g.root A.canvas path A.leads) (l.here.key ∙ ap (λ x. Some x) (only_here d there)) in
      none-some A.canvas (sym l.inside ∙ ap (sub_reached g (Some g.root)) (sym same) ∙ A.leads)

-- A path to a canvas that a box holds has a last number.

split_last : (n : ℕ) (path : List ℕ) → (way : List ℕ) × (m : ℕ) × (n ∷ path ≡ way ++ m ∷ [])
split_last n [] = ([], n, refl)
split_last n (k ∷ path) = let s = split_last k path in (n ∷ s.0, s.1, ap (λ (l : List ℕ). n ∷ l) s.2)

pub leads_last : (g : Grove) → Forest g → (path : List ℕ) (canvas box : ℕ) → sub_reached g (Some g.root) path ≡ Some canvas → holder_in (get g.boards canvas) ≡ Some box
    → (way : List ℕ) × (m : ℕ) × (path ≡ way ++ m ∷ [])
leads_last g F [] canvas box leads held = absurd (none-some box (sym F.rooted.1 ∙ ap (λ x. holder_in (get g.boards x)) (same_Some g.root canvas leads) ∙ held))
leads_last g F (n ∷ path) canvas box leads held = split_last n path
