-- Wires that stand at both of their ports, as hops and as keys.
use Rattle.std.proofs.Common.{◌≡◌, ℕ, List, map, slice_get, Option, Some, None, refl, sym, ap, ◌∙◌}
use Rattle.std.specs.Prelude.{option_map}
use Rattle.std.proofs.lemmas.Option.{same_Some, slice_get-map}
use Rattle.pd_wire.specs.Book.{Book}
use Rattle.pd_grove.specs.declared.ports.Side.{Side}
use Rattle.pd_grove.specs.declared.ports.Side.TheVariants.{Inlets, Outlets}
use Rattle.pd_web.specs.declared.lines.Line.{Line}
use Rattle.pd_web.specs.declared.sockets.Sockets.{Sockets}
use Rattle.pd_web.specs.declared.sockets.Spot.{Spot}
use Rattle.pd_web.specs.declared.web.Hop.{Hop}
use Rattle.pd_web.specs.Sockets.{end_under}
use Rattle.pd_web.specs.Wiring.{source_at, sink_at}
use Rattle.pd_web.specs.Hops.{hop_by, fan_under, feeds_under}
use Rattle.pd_web.specs.Changes.{hop_at, line_by, IsListed}
use Rattle.pd_web.proofs.HopLemmas.{key_listed}
use Rattle.pd_web.proofs.ChangeLemmas.{to_hop, from_hop, line_in, fan_in, feeds_in}
use Rattle.pd_ports.specs.Moves.{under, box_of, port_of}
use Rattle.pd_ports.proofs.MoveLemmas.{wire_of}

-- the wire of a key stands among those at its port on a side
abbrev pub StandsBy : List Sockets → Book → Side → ℕ → Line → Type 0
StandsBy all b s k l = IsListed (under s b (end_under all s (box_of s l) (port_of s l))) k

-- each wire that stands at one of its ports stands at the other one too
abbrev pub AreMet : List Sockets → List Spot → Book → Type 0
AreMet all spots b = (k : ℕ) (l : Line) (s t : Side) → line_in spots b k ≡ Some l → StandsBy all b s k l → StandsBy all b t k l

pub record MeetIn (all : List Sockets) (spots : List Spot) (b : Book) : Type 0 where
  pub fed : (node outlet i : ℕ) (h : Hop) → slice_get (fan_in all spots b node outlet) i ≡ Some h → IsListed (feeds_in all spots b h.node h.port) (hop_at h.key node outlet)
  pub fanned : (node inlet i : ℕ) (h : Hop) → slice_get (feeds_in all spots b node inlet) i ≡ Some h → IsListed (fan_in all spots b h.node h.port) (hop_at h.key node inlet)

key_of : (k : ℕ) (o : Option Spot) → (hop_by k o).key ≡ k
key_of k None = refl
key_of k (Some s) = refl

hop_same : (h : Hop) (k n p : ℕ) → h.key ≡ k → h.node ≡ n → h.port ≡ p → h ≡ hop_at k n p
hop_same h k n p a b c =
    ap (λ (x : ℕ). hop_at x h.node h.port) a ∙ ap (λ (x : ℕ). hop_at k x h.port) b ∙ ap (λ (x : ℕ). hop_at k n x) c

-- the two hops of a wire
hops_told : (spots : List Spot) (b : Book) (k : ℕ) (l : Line) → line_in spots b k ≡ Some l → (from_hop spots b k ≡ hop_at k l.source l.outlet) × (to_hop spots b k ≡ hop_at k l.sink l.inlet)
hops_told spots b k l h =
    let from = from_hop spots b k in
    let to = to_hop spots b k in
    let w = wire_of spots b k l h in
    let same = same_Some (line_by from to) l (sym (ap (option_map (λ _. line_by from to)) w.1) ∙ h) in (
      hop_same from k l.source l.outlet (key_of k (slice_get spots (source_at b k))) (ap (λ (x : Line). x.source) same) (ap (λ (x : Line). x.outlet) same),
      hop_same to k l.sink l.inlet (key_of k (slice_get spots (sink_at b k))) (ap (λ (x : Line). x.sink) same) (ap (λ (x : Line). x.inlet) same),
    )

-- a key that is listed, as a hop
listed_hop : (f : ℕ → Hop) (xs : List ℕ) (i k : ℕ) (h : Hop) → slice_get xs i ≡ Some k → f k ≡ h → slice_get (map f xs) i ≡ Some h
listed_hop f xs i k h at same = slice_get-map f xs i ∙ ap (option_map f) at ∙ ap (λ (x : Hop). Some x) same

pub met_in : (all : List Sockets) (spots : List Spot) (b : Book) → ((node outlet i : ℕ) (h : Hop) → slice_get (fan_in all spots b node outlet) i ≡ Some h → IsListed (feeds_in all spots b h.node h.port) (hop_at h.key node outlet))
    → ((node inlet i : ℕ) (h : Hop) → slice_get (feeds_in all spots b node inlet) i ≡ Some h → IsListed (fan_in all spots b h.node h.port) (hop_at h.key node inlet)) → AreMet all spots b
met_in all spots b fed fanned k l Inlets Inlets h at = at
met_in all spots b fed fanned k l Outlets Outlets h at = at
met_in all spots b fed fanned k l Outlets Inlets h at =
    let hops = hops_told spots b k l h in
    let there = fed l.source l.outlet at.0 (hop_at k l.sink l.inlet) (listed_hop (to_hop spots b) (fan_under b (end_under all Outlets l.source l.outlet)) at.0 k (hop_at k l.sink l.inlet) at.1 hops.1) in
    (there.0, key_listed (λ (n : ℕ). slice_get spots (source_at b n)) (feeds_under b (end_under all Inlets l.sink l.inlet)) there.0 (hop_at k l.source l.outlet) there.1)
met_in all spots b fed fanned k l Inlets Outlets h at =
    let hops = hops_told spots b k l h in
    let there = fanned l.sink l.inlet at.0 (hop_at k l.source l.outlet) (listed_hop (from_hop spots b) (feeds_under b (end_under all Inlets l.sink l.inlet)) at.0 k (hop_at k l.source l.outlet) at.1 hops.0) in
    (there.0, key_listed (λ (n : ℕ). slice_get spots (sink_at b n)) (fan_under b (end_under all Outlets l.source l.outlet)) there.0 (hop_at k l.sink l.inlet) there.1)

pub meet_in : (all : List Sockets) (spots : List Spot) (b : Book) → ((node outlet i : ℕ) (h : Hop) → slice_get (fan_in all spots b node outlet) i ≡ Some h → line_in spots b h.key ≡ Some (line_by (hop_at h.key node outlet) h))
    → ((node inlet i : ℕ) (h : Hop) → slice_get (feeds_in all spots b node inlet) i ≡ Some h → line_in spots b h.key ≡ Some (line_by h (hop_at h.key node inlet))) → AreMet all spots b → MeetIn all spots b
meet_in all spots b fans feeds met = record {
  fed = λ node outlet i h x.
      let l = line_by (hop_at h.key node outlet) h in
      let told = fans node outlet i h x in
      let at = met h.key l Outlets Inlets told (i, key_listed (λ (n : ℕ). slice_get spots (sink_at b n)) (fan_under b (end_under all Outlets node outlet)) i h x) in
      (at.0, listed_hop (from_hop spots b) (feeds_under b (end_under all Inlets h.node h.port)) at.0 h.key (hop_at h.key node outlet) at.1 (hops_told spots b h.key l told).0);
  fanned = λ node inlet i h x.
      let l = line_by h (hop_at h.key node inlet) in
      let told = feeds node inlet i h x in
      let at = met h.key l Inlets Outlets told (i, key_listed (λ (n : ℕ). slice_get spots (source_at b n)) (feeds_under b (end_under all Inlets node inlet)) i h x) in
      (at.0, listed_hop (to_hop spots b) (fan_under b (end_under all Outlets h.node h.port)) at.0 h.key (hop_at h.key node inlet) at.1 (hops_told spots b h.key l told).1);
}
