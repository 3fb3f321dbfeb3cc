-- Where only room differs, the same wires go, and turn.
use Rattle.std.proofs.Common.{◌≡◌, ℕ, not, ◌&&◌, cond, List, [], ◌∷◌, ◌++◌, filter, length, slice_get, refl, ap, ◌∙◌}
use Rattle.std.specs.List.{flat_map, range_with_len}
use Rattle.pd_object.specs.declared.kinds.Kind.{Kind}
use Rattle.pd_grove.specs.declared.grove.Grove.{Grove}
use Rattle.pd_grove.specs.declared.ports.Side.TheVariants.{Outlets}
use Rattle.pd_web.specs.declared.jacks.Jack.{Jack}
use Rattle.pd_web.specs.declared.lines.Line.{Line}
use Rattle.pd_web.specs.declared.web.Hop.{Hop}
use Rattle.pd_web.specs.declared.web.Web.{Web}
use Rattle.pd_web.specs.Canvases.{keys_at}
use Rattle.pd_web.specs.Hops.{ports_told, fan_hops}
use Rattle.pd_web.specs.Changes.{IsSame}
use Rattle.pd_patch.specs.declared.patch.Patch.{Patch}
use Rattle.pd_taking.specs.Loosening.{line_at}
use Rattle.pd_misfits.specs.declared.wires.BoxWire.{BoxWire}
use Rattle.pd_misfits.specs.declared.wires.Fate.{Fate}
use Rattle.pd_misfits.specs.declared.wires.Fate.TheVariants.{Goes, Turns}
use Rattle.pd_misfits.specs.Misfits.{box_wires, is_at, outlet_wires, picked, wants, wire_from, wire_of, wires_among}
use Rattle.pd_misfits.specs.Shedding.{is_left, AreWiresAt, Sheds}
use Rattle.pd_misfits.proofs.FitLemmas.{fits_still, turns_still}

flat_alike : {X Y : Type 0} (f g : X → List Y) (xs : List X) → ((x : X) → f x ≡ g x) → flat_map f xs ≡ flat_map g xs
flat_alike f g [] h = refl
flat_alike {X} {Y} f g (x ∷ xs) h = ap (λ (ys : List Y). ys ++ flat_map f xs) (h x) ∙ ap (λ (ys : List Y). g x ++ ys) (flat_alike f g xs h)

module _ (w v : Web) (numbers : List ℕ) (key : ℕ) (k : Kind) (S : IsSame w v) where
  wants_still : (fate : Fate) (l : Line) → wants fate v key k l ≡ wants fate w key k l
  wants_still Goes l = ap not (fits_still w v key k l S.kept)
  wants_still Turns l = turns_still w v key k l S.kept

  from_still : (fate : Fate) (node outlet : ℕ) (h : Hop) → wire_from fate v numbers key k node outlet h ≡ wire_from fate w numbers key k node outlet h
  from_still fate node outlet h =
      ap (λ b. cond (is_at key (line_at Outlets node outlet h) && b) (wire_of numbers h.key (line_at Outlets node outlet h) ∷ []) []) (wants_still fate (line_at Outlets node outlet h))

  outlet_still : (fate : Fate) (node outlet : ℕ) → outlet_wires fate v numbers key k node outlet ≡ outlet_wires fate w numbers key k node outlet
  outlet_still fate node outlet =
      flat_alike (wire_from fate v numbers key k node outlet) (wire_from fate w numbers key k node outlet) (fan_hops v node outlet) (from_still fate node outlet)
      ∙ ap (flat_map (wire_from fate w numbers key k node outlet)) (S.fans node outlet)

  box_still : (fate : Fate) (node : ℕ) → box_wires fate v numbers key k node ≡ box_wires fate w numbers key k node
  box_still fate node =
      flat_alike (outlet_wires fate v numbers key k node) (outlet_wires fate w numbers key k node) (range_with_len 0 (length (ports_told v Outlets node))) (outlet_still fate node)
      ∙ ap (λ (js : List Jack). flat_map (outlet_wires fate w numbers key k node) (range_with_len 0 (length js))) (S.kept.ports Outlets node)

  pub among_still : (fate : Fate) (keys : List ℕ) → wires_among fate v numbers key k keys ≡ wires_among fate w numbers key k keys
  among_still fate keys = flat_alike (box_wires fate v numbers key k) (box_wires fate w numbers key k) keys (box_still fate)

pub picked_still : (fate : Fate) (p q : Patch) (canvas key : ℕ) (k : Kind) → q.grove ≡ p.grove → q.numbers ≡ p.numbers → IsSame p.web q.web → picked fate q canvas key k ≡ picked fate p canvas key k
picked_still fate p q canvas key k g n S =
    ap (λ ns. wires_among fate q.web ns key k (keys_at q.grove canvas)) (ap (λ t. t.items) n)
    ∙ ap (λ (x : Grove). wires_among fate q.web p.numbers.items key k (keys_at x canvas)) g
    ∙ among_still p.web q.web p.numbers.items key k S fate (keys_at p.grove canvas)

pub wires_still : (w v : Web) (key : ℕ) (ms : List BoxWire) → IsSame w v → AreWiresAt w key ms → AreWiresAt v key ms
wires_still w v key ms S A = record {
  along = λ i m e.
      let a = A.along i m e in
      record { place = a.place; stands = ap (λ (hs : List Hop). slice_get hs a.place) (S.fans m.line.source m.line.outlet) ∙ a.stands };
  at = A.at;
  once = A.once;
}

pub sheds_since : (w v u : Web) (ms : List BoxWire) → IsSame w v → Sheds v u ms → Sheds w u ms
sheds_since w v u ms S T = record {
  fans = λ node outlet. T.fans node outlet ∙ ap (filter (is_left ms)) (S.fans node outlet);
  feeds = λ node inlet. T.feeds node inlet ∙ ap (filter (is_left ms)) (S.feeds node inlet);
}
