-- Where room was set aside, each box and each canvas is seen as it was.
use Rattle.std.proofs.Common.{◌≡◌, ◌+◌, ℕ, List, [], ◌∷◌, slice_get, Option, Some, None, refl, sym, ap, ◌∙◌, subst}
use Rattle.std.specs.Prelude.{option_map, option_and_then}
use Rattle.slab.specs.Slab.{get}
use Rattle.pd_tree.specs.declared.rows.Sheet.{Sheet}
use Rattle.pd_tree.specs.Trees.{Trees, Done, Leaf, Holder}
use Rattle.pd_grove.specs.declared.grove.Grove.{Grove}
use Rattle.pd_grove.specs.OwnPaths.{sub_in, sub_step_in, sub_reached}
use Rattle.pd_grove.specs.Room.{IsSameButRoom}
use Rattle.pd_grove.specs.Standing.{node_seen, board_seen, Stands, GroveStands}
use Rattle.pd_web.specs.Canvases.{keys_at}
use Rattle.pd_boxes.proofs.RoomLemmas.{keys_same}

module _ (g h : Grove) (S : IsSameButRoom g h) where
  stands_room : (b d : ℕ) (keys : List ℕ) (t : Trees) → Stands (get g.nodes) (get g.boards) b d keys t → Stands (get h.nodes) (get h.boards) b d keys t
  stands_room b d [] Done x = tt
  stands_room b d (k ∷ ks) Done x = absurd x
  stands_room b d [] (Leaf c rest) x = absurd x
  stands_room b d (k ∷ ks) (Leaf c rest) x = (ap (option_map node_seen) (S.nodes k) ∙ x.0, stands_room b d ks rest x.1)
  stands_room b d [] (Holder c s inner rest) x = absurd x
  stands_room b d (k ∷ ks) (Holder c s inner rest) x =
      (x.0, x.1, ap (option_map node_seen) (S.nodes k) ∙ x.2, S.boards x.0 ∙ x.3, stands_room x.0 (d + 1) x.1 inner x.4, stands_room b d ks rest x.5)

  pub grove_room : (s : Sheet) (t : Trees) → GroveStands g s t → GroveStands h s t
  grove_room s t G = record {
    keys = G.keys;
    root = S.boards h.root ∙ ap (λ (x : ℕ). option_map board_seen (get g.boards x)) S.root ∙ G.root;
    stands = subst (λ (x : ℕ). Stands (get h.nodes) (get h.boards) x 0 G.keys t) (sym S.root) (stands_room g.root 0 G.keys t G.stands);
  }

  sub_box : (o : Option ℕ) → option_and_then (λ k. sub_in (get h.nodes k)) o ≡ option_and_then (λ k. sub_in (get g.nodes k)) o
  sub_box None = refl
  sub_box (Some k) = ap sub_in (S.nodes k)

  sub_step : (n : ℕ) (o : Option ℕ) → option_and_then (λ c. sub_step_in h c n) o ≡ option_and_then (λ c. sub_step_in g c n) o
  sub_step n None = refl
  sub_step n (Some c) = ap (λ (ks : List ℕ). option_and_then (λ k. sub_in (get h.nodes k)) (slice_get ks n)) (keys_same g h S c) ∙ sub_box (slice_get (keys_at g c) n)

  pub sub_stays : (path : List ℕ) (o : Option ℕ) → sub_reached h o path ≡ sub_reached g o path
  sub_stays [] o = refl
  sub_stays (n ∷ path) o = ap (λ (x : Option ℕ). sub_reached h x path) (sub_step n o) ∙ sub_stays path (option_and_then (λ c. sub_step_in g c n) o)
