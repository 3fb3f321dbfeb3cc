-- Paths lead where they led when a box stands at another place.
use Rattle.std.proofs.Common.{◌≡◌, ℕ, ℤ, List, [], ◌∷◌, slice_get, Option, Some, None, refl, sym, ap, ◌∙◌}
use Rattle.std.specs.Prelude.{option_map, option_and_then}
use Rattle.slab.specs.Slab.{Slab, get}
use Rattle.pd_grove.specs.declared.boards.Board.{Board}
use Rattle.pd_grove.specs.declared.grove.Grove.{Grove}
use Rattle.pd_grove.specs.declared.nodes.Node.{Node}
use Rattle.pd_grove.specs.OwnPaths.{sub_in, sub_reached, sub_step_in}
use Rattle.pd_grove.specs.Refits.{at_place, Alters}
use Rattle.pd_grove.specs.Telling.{inner_in, keys_in, step_in, reached}
use Rattle.pd_web.specs.Canvases.{keys_at}
use Rattle.pd_shifted_law.proofs.OwnerLemmas.{told_as}

inner_placed : (x y : ℤ) (o : Option Node) → inner_in (option_map (at_place x y) o) ≡ inner_in o
inner_placed x y None = refl
inner_placed x y (Some n) = refl

sub_placed : (x y : ℤ) (o : Option Node) → sub_in (option_map (at_place x y) o) ≡ sub_in o
sub_placed x y None = refl
sub_placed x y (Some n) = refl

-- what each key tells alike, each number of a list of keys does
each_told : (f g : ℕ → Option ℕ) → ((k : ℕ) → f k ≡ g k) → (o : Option ℕ) → option_and_then f o ≡ option_and_then g o
each_told f g e None = refl
each_told f g e (Some k) = e k

module _ (g h : Grove) (key : ℕ) (x y : ℤ) (A : Alters g h key (at_place x y)) where
  pub keys_same : (c : ℕ) → keys_at h c ≡ keys_at g c
  keys_same c = ap (λ (s : Slab Board). keys_in (get s c)) A.boards

  step_same : (c n : ℕ) → step_in h c n ≡ step_in g c n
  step_same c n =
      ap (λ (s : Slab Board). option_and_then (λ k. inner_in (get h.nodes k)) (slice_get (keys_in (get s c)) n)) A.boards
      ∙ each_told (λ k. inner_in (get h.nodes k)) (λ k. inner_in (get g.nodes k)) (told_as g h key x y A inner_in (inner_placed x y)) (slice_get (keys_in (get g.boards c)) n)

  sub_step_same : (c n : ℕ) → sub_step_in h c n ≡ sub_step_in g c n
  sub_step_same c n =
      ap (λ (s : Slab Board). option_and_then (λ k. sub_in (get h.nodes k)) (slice_get (keys_in (get s c)) n)) A.boards
      ∙ each_told (λ k. sub_in (get h.nodes k)) (λ k. sub_in (get g.nodes k)) (told_as g h key x y A sub_in (sub_placed x y)) (slice_get (keys_in (get g.boards c)) n)

  reached_same : (way : List ℕ) (o : Option ℕ) → reached h o way ≡ reached g o way
  reached_same [] o = refl
  reached_same (n ∷ way) None = reached_same way None
  reached_same (n ∷ way) (Some c) = reached_same way (step_in h c n) ∙ ap (λ o. reached g o way) (step_same c n)

  sub_reached_same : (way : List ℕ) (o : Option ℕ) → sub_reached h o way ≡ sub_reached g o way
  sub_reached_same [] o = refl
  sub_reached_same (n ∷ way) None = sub_reached_same way None
  sub_reached_same (n ∷ way) (Some c) = sub_reached_same way (sub_step_in h c n) ∙ ap (λ o. sub_reached g o way) (sub_step_same c n)

  pub from_root : (way : List ℕ) → reached g (Some g.root) way ≡ reached h (Some h.root) way
  from_root way = sym (ap (λ (r : ℕ). reached h (Some r) way) A.root ∙ reached_same way (Some g.root))

  pub sub_from_root : (way : List ℕ) → sub_reached g (Some g.root) way ≡ sub_reached h (Some h.root) way
  sub_from_root way = sym (ap (λ (r : ℕ). sub_reached h (Some r) way) A.root ∙ sub_reached_same way (Some g.root))

  pub number_same : (c i k : ℕ) → slice_get (keys_at h c) i ≡ Some k → slice_get (keys_at g c) i ≡ Some k
  number_same c i k at = sym (ap (λ (ks : List ℕ). slice_get ks i) (keys_same c)) ∙ at
