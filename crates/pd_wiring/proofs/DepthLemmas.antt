-- How deep the canvas lies to which a path leads.
use Rattle.std.proofs.Common.{◌≡◌, ℕ, suc, ◌+◌, Bool, true, false, cond, List, [], ◌∷◌, length, Option, Some, None, refl, ap, arith}
use Rattle.std.specs.Prelude.{slice_get, option_and_then}
use Rattle.std.proofs.lemmas.Option.{none-some, same_Some}
use Rattle.slab.specs.Slab.{get}
use Rattle.pd_grove.specs.declared.nodes.Node.{Node}
use Rattle.pd_grove.specs.declared.grove.Grove.{Grove}
use Rattle.pd_grove.specs.Forest.{IsForest}
use Rattle.pd_grove.specs.OwnPaths.{sub_in, sub_step_in, sub_reached}
use Rattle.pd_grove.specs.Standing.{depth_of}
use Rattle.pd_grove.specs.Telling.{keys_in, inner_in}

inner_if : (b : Bool) (o : Option ℕ) (d : ℕ) → cond b o None ≡ Some d → o ≡ Some d
inner_if true o d h = h
inner_if false o d h = absurd (none-some d h)

sub_inner : (o : Option Node) (d : ℕ) → sub_in o ≡ Some d → inner_in o ≡ Some d
sub_inner None d h = absurd (none-some d h)
sub_inner (Some n) d h = inner_if _ n.inner d h

never_reached : (g : Grove) (path : List ℕ) (c : ℕ) → sub_reached g None path ≡ Some c → ⊥
never_reached g [] c h = none-some c h
never_reached g (n ∷ path) c h = never_reached g path c h

module _ (g : Grove) (F : IsForest (get g.nodes) (get g.boards) g.root) where
  -- a step leads one deeper
  step_deeper : (c n d : ℕ) (o : Option ℕ) → slice_get (keys_in (get g.boards c)) n ≡ o → option_and_then (λ k. sub_in (get g.nodes k)) o ≡ Some d
      → depth_of (get g.boards d) ≡ depth_of (get g.boards c) + 1
  step_deeper c n d None at h = absurd (none-some d h)
  step_deeper c n d (Some k) at h = F.deeper k c d (F.own.home c n k at) (sub_inner (get g.nodes k) d h)

  deep_from : (path : List ℕ) (c d : ℕ) → sub_reached g (Some c) path ≡ Some d → depth_of (get g.boards d) ≡ depth_of (get g.boards c) + length path
  deep_from [] c d h = (let e = ap (λ (x : ℕ). depth_of (get g.boards x)) (same_Some c d h) in omega (arith, e))
  deep_from (n ∷ path) c d h = by (sub_step_in g c n) refl h (λ x. deep_from path x d)
    where
      by : (o : Option ℕ) → sub_step_in g c n ≡ o → sub_reached g o path ≡ Some d → ((x : ℕ) → sub_reached g (Some x) path ≡ Some d → depth_of (get g.boards d) ≡ depth_of (get g.boards x) + length path)
          → depth_of (get g.boards d) ≡ depth_of (get g.boards c) + suc (length path)
      by None e r rest = absurd (never_reached g path d r)
      by (Some x) e r rest =
          let step = step_deeper c n x (slice_get (keys_in (get g.boards c)) n) refl e in
          let further = rest x r in
          omega (arith, step, further)

  pub path_deep : (path : List ℕ) (c : ℕ) → sub_reached g (Some g.root) path ≡ Some c → depth_of (get g.boards c) ≡ length path
  path_deep path c h = (let d = deep_from path g.root c h in let z = F.rooted.2 in omega (arith, d, z))
