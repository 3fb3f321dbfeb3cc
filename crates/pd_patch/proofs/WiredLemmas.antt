-- From the wires that were laid to those of the tree.
use Rattle.std.proofs.Common.{◌≡◌, ℕ, zero, suc, List, [], ◌∷◌, map, Option, Some, None, refl, sym, ap, ◌∙◌, subst}
use Rattle.std.specs.Prelude.{option_and_then}
use Rattle.std.proofs.lemmas.Option.{none-some, same_Some}
use Rattle.slab.specs.Slab.{get}
use Rattle.pd_canvas.specs.declared.wires.Wire.{Wire}
use Rattle.pd_canvas.specs.Wiring.{fan_out}
use Rattle.pd_tree.specs.Trees.{Tree, Trees, Done, Leaf, Holder}
use Rattle.pd_grove.specs.declared.grove.Grove.{Grove}
use Rattle.pd_grove.specs.declared.ports.Side.TheVariants.{Inlets, Outlets}
use Rattle.pd_grove.specs.Standing.{GroveStands}
use Rattle.pd_grove.specs.Owning.{AreOwn}
use Rattle.pd_grove.specs.Places.{canvas_in_box, canvas_along, CanvasStands, LeadsTo}
use Rattle.pd_grove.specs.Telling.{reached}
use Rattle.pd_grove.proofs.PlaceLemmas.{path_leads}
use Rattle.pd_web.specs.declared.jacks.Jack.{Jack}
use Rattle.pd_web.specs.declared.web.Web.{Web}
use Rattle.pd_web.specs.Canvases.{IsOwn, HoldersAreNoPorts, keys_at, sink_place, source_place, fan_into}
use Rattle.pd_web.specs.Hops.{ports_told, boxes_told}
use Rattle.pd_web.specs.Jacks.{jacks_at}
use Rattle.pd_web.specs.Sockets.{made_at}
use Rattle.pd_web.specs.Lines.{seen_by, seen_at, laid_at}
use Rattle.pd_web.proofs.NumberLemmas.{fed_by_number, feeding_by_number}
use Rattle.pd_web.proofs.TreeFits.{boxes_are, trimmed_is}
use Rattle.pd_patch.specs.Grown.{AreLaid}
use Rattle.pd_patch.specs.Wired.{LeadsHere, IsWired}

bare_in_box : (n : ℕ) (t : Trees) (v : Tree) → HoldersAreNoPorts t → canvas_in_box n t ≡ Some v → HoldersAreNoPorts v.boxes
bare_in_box n Done v h e = absurd (none-some v e)
bare_in_box zero (Leaf c rest) v h e = absurd (none-some v e)
bare_in_box zero (Holder c s inner rest) v h e = subst (λ (x : Tree). HoldersAreNoPorts x.boxes) (same_Some (record { sheet = s; boxes = inner }) v e) h.2
bare_in_box (suc n) (Leaf c rest) v h e = bare_in_box n rest v h e
bare_in_box (suc n) (Holder c s inner rest) v h e = bare_in_box n rest v h.3 e

bare_next : (path : List ℕ) (o : Option Tree) (u : Tree) → ((v : Tree) → o ≡ Some v → HoldersAreNoPorts v.boxes)
    → ((v : Tree) → HoldersAreNoPorts v.boxes → canvas_along path v ≡ Some u → HoldersAreNoPorts u.boxes) → option_and_then (canvas_along path) o ≡ Some u → HoldersAreNoPorts u.boxes
bare_next path None u B R at = absurd (none-some u at)
bare_next path (Some v) u B R at = R v (B v refl) at

-- the canvas to which a path leads
bare_along : (path : List ℕ) (t u : Tree) → HoldersAreNoPorts t.boxes → canvas_along path t ≡ Some u → HoldersAreNoPorts u.boxes
bare_along [] t u h e = subst (λ (x : Tree). HoldersAreNoPorts x.boxes) (same_Some t u e) h
bare_along (n ∷ path) t u h e =
    bare_next path (canvas_in_box n t.boxes) u (λ v is. bare_in_box n t.boxes v h is) (λ v b at. bare_along path v u b at) e

stands_by : (g : Grove) (key : Option ℕ) (o : Option Tree) (c : ℕ) (u : Tree) → LeadsTo g key o → key ≡ Some c → o ≡ Some u → CanvasStands g c u
stands_by g key None c u L k e = absurd (none-some u e)
stands_by g key (Some v) c u L k e =
    subst (λ x. CanvasStands g x u) (same_Some L.0 c (sym L.1 ∙ k)) (subst (λ x. CanvasStands g L.0 x) (same_Some v u e) L.2)

-- the canvas to which a path leads stands under its key
canvas_stands : (g : Grove) (t : Tree) (path : List ℕ) (c : ℕ) (u : Tree) → GroveStands g t.sheet t.boxes → LeadsHere g t path c u → CanvasStands g c u
canvas_stands g t path c u G L =
    stands_by g (reached g (Some g.root) path) (canvas_along path t) c u
    (path_leads g path g.root t (record { holder = _; depth = 0; keys = G.keys; board = G.root; stands = G.stands })) L.key L.canvas

-- the boxes of a canvas are its own
pub own_canvas : (g : Grove) (c : ℕ) → AreOwn (get g.nodes) (get g.boards) → IsOwn g c
own_canvas g c O = record {
  once = λ i j k at also. O.once c i j k at also;
  alone = λ d i j k at also. same_Some d c (sym (O.home d j k also) ∙ O.home c i k at);
}

laid_seen : (g : Grove) (w : Web) → AreLaid g w → (k : ℕ) → laid_at w.sockets.items k ≡ seen_at g k
laid_seen g w L k =
    ap (λ (i : List Jack). seen_by i (ports_told w Outlets k) (made_at w.sockets.items k)) (L.ports Inlets k)
    ∙ ap (λ (o : List Jack). seen_by (jacks_at Inlets g k) o (made_at w.sockets.items k)) (L.ports Outlets k)
    ∙ ap (seen_by (jacks_at Inlets g k) (jacks_at Outlets g k)) (L.made k)

boxes_seen : (g : Grove) (w : Web) → AreLaid g w → (ks : List ℕ) → boxes_told w ks ≡ map (seen_at g) ks
boxes_seen g w L [] = refl
boxes_seen g w L (k ∷ ks) = ap (λ x. x ∷ boxes_told w ks) (laid_seen g w L k) ∙ ap (λ xs. seen_at g k ∷ xs) (boxes_seen g w L ks)

-- the wires that were laid are those of the tree that stands
pub wired : (g : Grove) (w : Web) (t : Tree) → AreLaid g w → AreOwn (get g.nodes) (get g.boards) → GroveStands g t.sheet t.boxes → HoldersAreNoPorts t.boxes → IsWired g w t
wired g w t L O G H = record {
  ports = λ path c u P. boxes_seen g w L (keys_at g c) ∙ boxes_are g c u (canvas_stands g t path c u G P) (bare_along path t u H P.canvas);
  fans = λ path c u P i outlet k at.
      L.fans k outlet ∙ fed_by_number g c i outlet k (own_canvas g c O) at
      ∙ ap (λ (ws : List Wire). map (sink_place (keys_at g c)) (fan_out i outlet ws)) (trimmed_is g c u (canvas_stands g t path c u G P) (bare_along path t u H P.canvas));
  feeds = λ path c u P i inlet k at.
      L.feeds k inlet ∙ feeding_by_number g c i inlet k (own_canvas g c O) at
      ∙ ap (λ (ws : List Wire). map (source_place (keys_at g c)) (fan_into i inlet ws)) (trimmed_is g c u (canvas_stands g t path c u G P) (bare_along path t u H P.canvas));
}
