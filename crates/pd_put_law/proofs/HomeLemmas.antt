-- Where the ports of boxes are those of a grove, it is known of each port box which port it is. This is what `port_boxes_are_known` of pd_ports says.
use Rattle.std.proofs.Common.{◌≡◌, ℕ, Option, Some, None, IsSome, true≢false, slice_get, List, refl, sym, ap, ◌∙◌}
use Rattle.slab.specs.Slab.{get}
use Rattle.pd_grove.specs.declared.grove.Grove.{Grove}
use Rattle.pd_grove.specs.declared.ports.Side.{Side}
use Rattle.pd_grove.specs.declared.ports.Side.TheVariants.{Inlets, Outlets}
use Rattle.pd_grove.specs.Owning.{AreOwn}
use Rattle.pd_web.specs.declared.jacks.Jack.{Jack}
use Rattle.pd_web.specs.declared.web.Web.{Web}
use Rattle.pd_web.specs.Homes.{inner_in, IsPortOf}
use Rattle.pd_web.specs.Hops.{ports_told, jack_told, port_told}
use Rattle.pd_web.specs.Jacks.{jacks_at}
use Rattle.pd_ports.specs.Known.{KnowsHomes, HoldAlone}
use Rattle.pd_ports.proofs.OnceLemmas.{port_stands, sides_apart, port_once}

module _ (g : Grove) (w : Web) (ports : (side : Side) (k : ℕ) → ports_told w side k ≡ jacks_at side g k) where
  jack_grown : (s : Side) (k i : ℕ) → jack_told w s k i ≡ slice_get (jacks_at s g k) i
  jack_grown s k i = ap (λ (js : List Jack). slice_get js i) (ports s k)

  pub had_known : AreOwn (get g.nodes) (get g.boards) → HoldAlone g → ((j k i : ℕ) → port_told w j ≡ Some (k, i) → IsPortOf g j k i)
      → ((j k i : ℕ) → IsPortOf g j k i → IsSome (port_told w j)) → KnowsHomes w
  had_known own alone homes homes_found = record {
    told = λ k j i h. let is = homes j k i h in (is.side, ap inner_in (jack_grown is.side k i) ∙ is.told);
    found = λ s j k i h.
        let p = ap inner_in (sym (jack_grown s k i)) ∙ h in
        by_home s j k i p (port_told w j) refl (homes_found j k i (record { side = s; told = p }));
    apart = λ j k i m p q.
        let a = port_stands g Inlets k i j (ap inner_in (sym (jack_grown Inlets k i)) ∙ p) in
        let b = port_stands g Outlets k m j (ap inner_in (sym (jack_grown Outlets k m)) ∙ q) in
        sides_apart (get g.nodes) j a.spot b.spot;
  }
    where
      by_home : (s : Side) (j k i : ℕ) → inner_in (slice_get (jacks_at s g k) i) ≡ Some j → (o : Option (ℕ × ℕ)) → port_told w j ≡ o → IsSome o → port_told w j ≡ Some (k, i)
      by_home s j k i p None e some = absurd (true≢false (sym some))
      by_home s j k i p (Some x) e some =
          let is = homes j x.0 x.1 e in
          let same = port_once g is.side s x.0 k x.1 i j own alone is.told p in
          e ∙ ap (λ (n : ℕ). Some (n, x.1)) same.0 ∙ ap (λ (n : ℕ). Some (k, n)) same.1
