-- A box that holds no canvas takes no `$0` number away.
use Rattle.std.proofs.Common.{◌≡◌, ◌⊎◌, inl, inr, ℕ, zero, suc, List, [], ◌∷◌, ◌++◌, slice_get, Option, Some, None, Ok, refl, sym, ap, ◌∙◌, subst}
use Rattle.std.proofs.lemmas.Option.{none-some, same_Some}
use Rattle.slab.specs.Slab.{get}
use Rattle.pd_atom.specs.Names.{Names}
use Rattle.pd_tree.specs.declared.rows.Sheet.{Sheet}
use Rattle.pd_tree.specs.Trees.{Trees, Done, Leaf, Holder, Tree, own_zeros, zeros_in, zeros_of}
use Rattle.pd_grove.specs.declared.nodes.Node.{Node}
use Rattle.pd_grove.specs.declared.boards.Board.{Board}
use Rattle.pd_grove.specs.declared.grove.Grove.{Grove}
use Rattle.pd_grove.specs.OwnPaths.{sub_reached}
use Rattle.pd_grove.specs.Standing.{GroveStands, Stands}
use Rattle.pd_grove.specs.Telling.{inner_in}
use Rattle.pd_grove.proofs.PlaceLemmas.{seen_keys}
use Rattle.pd_web.specs.Canvases.{keys_at}
use Rattle.pd_regrowth_law.specs.Canvases.{Nest, Alone, Inside, nested}
use Rattle.pd_regrowth_law.proofs.TakeLemmas.{zeros_join}
use Rattle.pd_putting_law.proofs.StandLemmas.{seen_inner, path_along}
use Rattle.pd_putting_law.proofs.PathLemmas.{Forest}
use Rattle.pd_putting_law.proofs.WithinLemmas.{path_within}
use Rattle.pd_taking_law.specs.Takes.{boxes_less, less_box, taken_at}
use Rattle.pd_patch.specs.declared.patch.Patch.{Patch}
use Rattle.pd_adding.specs.declared.counts.Counts.{Counts}
use Rattle.pd_steady.specs.PassedOn.{OldBox, going, DeletesBox, TakesPort, Made, IsTakenOut, Stage}
use Rattle.pd_steady.proofs.PassedOn.{found_there, leads_there}
use Rattle.pd_reload_law.specs.Reloading.{RunsAs}

-- a box without a canvas goes from its place
leaf_gone : (nodes : ℕ → Option Node) (boards : ℕ → Option Board) (b d : ℕ) (keys : List ℕ) (t : Trees) (n k : ℕ) → Stands nodes boards b d keys t → slice_get keys n ≡ Some k
    → inner_in (nodes k) ≡ None → zeros_in (boxes_less n t) ≡ zeros_in t
leaf_gone nodes boards b d [] t n k S at bare = absurd (none-some k at)
leaf_gone nodes boards b d (l ∷ ls) Done n k S at bare = absurd S
leaf_gone nodes boards b d (l ∷ ls) (Leaf c rest) zero k S at bare = refl
leaf_gone nodes boards b d (l ∷ ls) (Leaf c rest) (suc n) k S at bare = leaf_gone nodes boards b d ls rest n k S.1 at bare
leaf_gone nodes boards b d (l ∷ ls) (Holder c s inner rest) zero k S at bare =
    absurd (none-some S.0 (sym bare ∙ ap (λ (x : ℕ). inner_in (nodes x)) (sym (same_Some l k at)) ∙ seen_inner (nodes l) _ S.2))
leaf_gone nodes boards b d (l ∷ ls) (Holder c s inner rest) (suc n) k S at bare =
    ap (λ (zs : List ℕ). own_zeros c.head.form s ++ (zeros_in inner ++ zs)) (leaf_gone nodes boards b d ls rest n k S.5 at bare)

-- a canvas that keeps its numbers, and what lies around it
record KeepsNumbers (t u : Tree) : Type 0 where
  sheet : u.sheet ≡ t.sheet
  boxes : zeros_in u.boxes ≡ zeros_in t.boxes

nest_keeps : (nest : Nest) (t u : Tree) → KeepsNumbers t u → KeepsNumbers (nested nest t) (nested nest u)
nest_keeps Alone t u s = s
nest_keeps (Inside sheet before c nest behind) t u s =
    let v = nested nest t in
    let w = nested nest u in
    let on = nest_keeps nest t u s in
    record {
      sheet = refl;
      boxes = zeros_join before (Holder c w.sheet w.boxes behind)
          ∙ ap (λ (x : Sheet). zeros_in before ++ (own_zeros c.head.form x ++ (zeros_in w.boxes ++ zeros_in behind))) on.sheet
          ∙ ap (λ (zs : List ℕ). zeros_in before ++ (own_zeros c.head.form v.sheet ++ (zs ++ zeros_in behind))) on.boxes
          ∙ sym (zeros_join before (Holder c v.sheet v.boxes behind));
    }

-- the box that goes
is_going : (old new : Patch) (n : Counts) (table : Names) (path : List ℕ) (number steps steps' : ℕ) (b : OldBox) → DeletesBox old new n table path number steps steps' b
    → going old path number ≡ Ok (b.canvas, b.key)
is_going old new n table path number steps steps' b (inl x) = x.is
is_going old new n table path number steps steps' b (inr x) = x.is

-- the canvas to which a path leads without a box that holds none
module _ (g : Grove) (path : List ℕ) (canvas key n : ℕ) (t : Tree) (F : Forest g) (G : GroveStands g t.sheet t.boxes) (leads : sub_reached g (Some g.root) path ≡ Some canvas)
    (at : slice_get (keys_at g canvas) n ≡ Some key) (bare : inner_in (get g.nodes key) ≡ None) where
  whole : KeepsNumbers t (taken_at path n t)
  whole =
      let along = path_along g path canvas t F G leads in
      let u = along.0 in
      let S = along.2 in
      let w = path_within path t u along.1 in
      let is : slice_get S.keys n ≡ Some key = ap (λ (ks : List ℕ). slice_get ks n) (sym (seen_keys (get g.boards canvas) _ S.board)) ∙ at in
      subst (λ (x : Tree). KeepsNumbers t x) (sym (w.changed (less_box n)))
      (subst (λ (x : Tree). KeepsNumbers x (nested w.nest (less_box n u))) (sym w.whole)
      (nest_keeps w.nest u (less_box n u) (record { sheet = refl; boxes = leaf_gone (get g.nodes) (get g.boards) canvas S.depth S.keys u.boxes n key S.stands is bare })))

  zeros_same : zeros_of (taken_at path n t) ≡ zeros_of t
  zeros_same = ap (λ (s : Sheet). s.zero ∷ zeros_in (taken_at path n t).boxes) whole.sheet ∙ ap (λ (zs : List ℕ). t.sheet.zero ∷ zs) whole.boxes

-- an edit of a run that took such a box out, or a port, which holds none
module _ (s : Stage) (path : List ℕ) (number : ℕ) (m : Made) (x : IsTakenOut s path number m) where
  going_there : going x.old path number ≡ Ok (x.box.canvas, x.box.key)
  going_there = is_going x.old x.new s.base.counts s.names path number x.steps x.steps' x.box x.deletes

  bare_gone : inner_in (get x.old.grove.nodes x.box.key) ≡ None → (t : Tree) → RunsAs x.old.grove t → zeros_of (taken_at path number t) ≡ zeros_of t
  bare_gone bare t runs =
      let g : Grove = x.old.grove in
      let to : Option ℕ = sub_reached g (Some g.root) path in
      zeros_same g path x.box.canvas x.box.key number t x.stands.puts.forest runs.stands (leads_there g number to x.box.canvas x.box.key going_there)
      (found_there g number to x.box.canvas x.box.key going_there) bare

  pub bare_leaves : (inner_in (get x.old.grove.nodes x.box.key) ≡ None) ⊎ TakesPort x.old x.new s.base.counts s.names path number x.steps x.steps' x.box
      → (t : Tree) → RunsAs x.old.grove t → zeros_of (taken_at path number t) ≡ zeros_of t
  bare_leaves (inl bare) t runs = bare_gone bare t runs
  bare_leaves (inr port) t runs =
      bare_gone (ap (λ (h : Grove). inner_in (get h.nodes x.box.key)) (sym port.room.grove) ∙ ap inner_in port.can.stands ∙ port.can.leaf) t runs
