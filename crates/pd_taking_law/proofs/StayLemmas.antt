-- A box less in one canvas: what stays.
use Rattle.std.proofs.Common.{◌≡◌, ◌≢◌, ℕ, zero, suc, ◌+◌, List, [], ◌∷◌, ◌++◌, map, take, drop, slice_get, Some, IsSome, refl, sym, ap, ◌∙◌, subst, arith}
use Rattle.std.specs.Prelude.{remove, option_and_then}
use Rattle.slab.specs.Slab.{get}
use Rattle.pd_grove.specs.declared.grove.Grove.{Grove}
use Rattle.pd_grove.specs.Forest.{IsForest}
use Rattle.pd_grove.specs.OwnPaths.{sub_in, sub_reached}
use Rattle.pd_grove.specs.Telling.{keys_in}
use Rattle.pd_grove.proofs.PruneLemmas.{forest_pruned}
use Rattle.pd_web.specs.Canvases.{keys_at}
use Rattle.pd_reload_law.proofs.EditLemmas.{sub_inner}
use Rattle.pd_putting_law.proofs.PathLemmas.{Forest, subs, sub_leads, live_box, live_canvas, not_around}
use Rattle.pd_taking_law.specs.Taking.{TakesBoxAt}

-- ---- lists with an element less

pub map_less : {X Y : Type 0} (f : X → Y) (xs : List X) (n : ℕ) → map f (remove xs n) ≡ remove (map f xs) n
map_less f [] zero = refl
map_less f [] (suc n) = refl
map_less f (x ∷ xs) zero = refl
map_less {X} {Y} f (x ∷ xs) (suc n) = ap (λ (l : List Y). f x ∷ l) (map_less f xs n)

sub_on : (g : Grove) (c i k j : ℕ) (path : List ℕ) (d : ℕ) → slice_get (keys_at g c) i ≡ Some k → sub_in (get g.nodes k) ≡ Some j
    → sub_reached g (Some j) path ≡ Some d → sub_reached g (Some c) (i ∷ path) ≡ Some d
sub_on g c i k j path d is holds e =
    ap (λ o. sub_reached g (option_and_then (λ x. sub_in (get g.nodes x)) o) path) is ∙ ap (λ o. sub_reached g o path) holds ∙ e

module _ (g h : Grove) (path₀ : List ℕ) (canvas key number : ℕ) (B : TakesBoxAt g h path₀ canvas key number) where
  pub forest_still : Forest h
  forest_still =
      subst (IsForest (get h.nodes) (get h.boards)) (sym B.root)
      (forest_pruned (get g.nodes) (get h.nodes) (get g.boards) (get h.boards) g.root canvas key B.node _ _ B.takes B.forest)

  pub box_still : (k : ℕ) → IsSome (get h.nodes k) → get h.nodes k ≡ get g.nodes k
  box_still k live = B.takes.none_comes k live

  pub canvas_still : (c : ℕ) → c ≢ canvas → IsSome (get h.boards c) → get h.boards c ≡ get g.boards c
  canvas_still c apart live = B.takes.no_canvas_comes c apart live

  pub keys_less : keys_at h canvas ≡ remove (keys_at g canvas) number
  keys_less =
      ap keys_in B.takes.without ∙ B.takes.has ∙ ap (λ n. take number (keys_at g canvas) ++ drop n (keys_at g canvas)) (plain number)
    where
      plain : (n : ℕ) → n + 1 ≡ suc n
      plain n = omega arith

  -- the path leads there still
  pub leads_still : (path : List ℕ) (c : ℕ) → IsSome (get h.boards c) → sub_reached g (Some c) path ≡ Some canvas → sub_reached h (Some c) path ≡ Some canvas
  leads_still [] c live e = e
  leads_still (n ∷ path) c live e =
      let s = subs g c n path canvas e in
      let stays = canvas_still c (not_around g B.forest c n path canvas (sub_leads g c canvas (n ∷ path) e)) live in
      let at : slice_get (keys_at h c) n ≡ Some s.key = ap (λ o. slice_get (keys_in o) n) stays ∙ s.is in
      let sub : sub_in (get h.nodes s.key) ≡ Some s.inner = ap sub_in (box_still s.key (live_box h forest_still c n s.key at)) ∙ s.sub in
      sub_on h c n s.key s.inner path canvas at sub
      (leads_still path s.inner (live_canvas h forest_still s.key s.inner (sub_inner (get h.nodes s.key) s.inner sub)) s.on)

  pub leads_from_root : sub_reached h (Some h.root) path₀ ≡ Some canvas
  leads_from_root =
      leads_still path₀ h.root forest_still.rooted.0 (ap (λ r. sub_reached g (Some r) path₀) B.root ∙ B.leads)
