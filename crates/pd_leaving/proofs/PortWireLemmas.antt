-- The wires at a port of a box, and a web without them.
use Rattle.std.proofs.Common.{◌≡◌, ℕ, zero, suc, ◌==◌, ◌||◌, Bool, true, false, not, cond, List, [], ◌∷◌, filter, map, slice_get, Some, inl, inr, eq-eqb, refl, sym, ap, ◌∙◌, subst}
use Rattle.std.specs.List.{flat_map}
use Rattle.std.proofs.lemmas.Option.{none-some, same_Some}
use Rattle.pd_grove.specs.declared.ports.Side.{Side}
use Rattle.pd_grove.specs.declared.ports.Side.TheVariants.{Inlets, Outlets}
use Rattle.pd_web.specs.declared.web.Hop.{Hop}
use Rattle.pd_web.specs.declared.web.Web.{Web}
use Rattle.pd_web.specs.Changes.{Meet}
use Rattle.pd_web.specs.Hops.{fan_hops, feed_hops}
use Rattle.pd_wiring.specs.Changes.{LeadsAlong}
use Rattle.pd_taking.specs.Loosening.{hops_at, line_at, IsAt}
use Rattle.pd_misfits.specs.declared.wires.BoxWire.{BoxWire}
use Rattle.pd_misfits.specs.Shedding.{is_among, is_left, AreWiresAt, Sheds}
use Rattle.pd_misfits.proofs.WalkLemmas.{AreOnce}
use Rattle.pd_following.proofs.FeedLemmas.{mapped_from}
use Rattle.pd_leaving.specs.Wires.{wire_at}

pub one_each : {X Y : Type 0} (f : X → Y) (xs : List X) → flat_map (λ x. f x ∷ []) xs ≡ map f xs
one_each f [] = refl
one_each f (x ∷ xs) = ap (λ ys. f x ∷ ys) (one_each f xs)

module _ (w : Web) (numbers : List ℕ) (key port : ℕ) where
  leads : (side : Side) → Meet w → (i : ℕ) (h : Hop) → slice_get (hops_at w side key port) i ≡ Some h → LeadsAlong w h.key (line_at side key port h)
  leads Inlets M i h e = let f = M.fanned key port i h e in record { place = f.0; stands = f.1 }
  leads Outlets M i h e = record { place = i; stands = e }

  at_box : (side : Side) (h : Hop) → IsAt key (line_at side key port h)
  at_box Inlets h = inr refl
  at_box Outlets h = inl refl

  pub are_wires : (side : Side) → Meet w → AreOnce (hops_at w side key port) → AreWiresAt w key (map (wire_at numbers side key port) (hops_at w side key port))
  are_wires side M once = record {
    along = λ i m e.
        let x = mapped_from (wire_at numbers side key port) (hops_at w side key port) i m e in
        subst (λ (y : BoxWire). LeadsAlong w y.key y.line) x.2 (leads side M i x.0 x.1);
    at = λ i m e.
        let x = mapped_from (wire_at numbers side key port) (hops_at w side key port) i m e in
        subst (λ (y : BoxWire). IsAt key y.line) x.2 (at_box side x.0);
    once = λ i j m n a b same.
        let x = mapped_from (wire_at numbers side key port) (hops_at w side key port) i m a in
        let y = mapped_from (wire_at numbers side key port) (hops_at w side key port) j n b in
        once i j x.0 y.0 x.1 y.1 (ap (λ (z : BoxWire). z.key) x.2 ∙ same ∙ sym (ap (λ (z : BoxWire). z.key) y.2));
  }

or_true : (b : Bool) → (b || true) ≡ true
or_true true = refl
or_true false = refl

pub among_told : (numbers : List ℕ) (side : Side) (key port : ℕ) (hops : List Hop) (i : ℕ) (h : Hop) → slice_get hops i ≡ Some h → is_among (map (wire_at numbers side key port) hops) h.key ≡ true
among_told numbers side key port [] i h e = absurd (none-some h e)
among_told numbers side key port (x ∷ hops) zero h e =
    ap (λ (b : Bool). b || is_among (map (wire_at numbers side key port) hops) h.key) (eq-eqb h.key x.key (sym (ap (λ (y : Hop). y.key) (same_Some x h e))))
among_told numbers side key port (x ∷ hops) (suc i) h e = ap (λ (b : Bool). (h.key == x.key) || b) (among_told numbers side key port hops i h e) ∙ or_true (h.key == x.key)

none_left : (keep : Hop → Bool) (hops : List Hop) → ((i : ℕ) (h : Hop) → slice_get hops i ≡ Some h → keep h ≡ false) → filter keep hops ≡ []
none_left keep [] gone = refl
none_left keep (h ∷ hops) gone = ap (λ (b : Bool). cond b (h ∷ filter keep hops) (filter keep hops)) (gone 0 h refl) ∙ none_left keep hops (λ i. gone (suc i))

-- where these wires are gone, none stands at the port
pub port_bare : (w w' : Web) (numbers : List ℕ) (side : Side) (key port : ℕ) → Sheds w w' (map (wire_at numbers side key port) (hops_at w side key port)) → hops_at w' side key port ≡ []
port_bare w w' numbers Inlets key port S =
    S.feeds key port
    ∙ none_left (is_left (map (wire_at numbers Inlets key port) (feed_hops w key port))) (feed_hops w key port) (λ i h e. ap not (among_told numbers Inlets key port (feed_hops w key port) i h e))
port_bare w w' numbers Outlets key port S =
    S.fans key port
    ∙ none_left (is_left (map (wire_at numbers Outlets key port) (fan_hops w key port))) (fan_hops w key port) (λ i h e. ap not (among_told numbers Outlets key port (fan_hops w key port) i h e))
