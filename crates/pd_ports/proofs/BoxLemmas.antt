-- One box has other ports, none of which has an end, and had no wires.
use Rattle.std.proofs.Common.{◌≡◌, ◌≢◌, ℕ, zero, suc, ◌<◌, ◌^◌, List, [], ◌∷◌, length, map, Option, Some, None, refl, sym, ap, ◌∙◌, subst, inl, inr, lit<, arith}
use Rattle.std.proofs.lemmas.Bool.{cases_eq}
use Rattle.std.proofs.lemmas.Option.{none-some}
use Rattle.pd_wire.specs.Book.{Book}
use Rattle.pd_grove.specs.declared.ports.Side.{Side}
use Rattle.pd_grove.specs.declared.ports.Side.TheVariants.{Inlets, Outlets}
use Rattle.pd_web.specs.declared.jacks.Jack.{Jack}
use Rattle.pd_web.specs.declared.sockets.Port.{Port}
use Rattle.pd_web.specs.declared.sockets.Sockets.{Sockets}
use Rattle.pd_web.specs.declared.sockets.Spot.{Spot}
use Rattle.pd_web.specs.declared.web.Hop.{Hop}
use Rattle.pd_web.specs.Sockets.{AreFew, AreTied, loose_ports, side_ports, ports_in, ports_at, end_under, end_at, jacks_of, made_of, made_at}
use Rattle.pd_web.specs.Spares.{AreFree}
use Rattle.pd_web.specs.Hops.{fan_under, feeds_under}
use Rattle.pd_web.proofs.ChangeLemmas.{to_hop, from_hop, fan_in, feeds_in}
use Rattle.pd_ports.specs.Boxes.{Puts}
use Rattle.pd_ports.specs.Ends.{end_in}

pub end_here : (all all' : List Sockets) (key : ℕ) (own : Sockets) (side : Side) (i : ℕ) → Puts all all' key own → end_under all' side key i ≡ end_in (side_ports side own) i
end_here all all' key own side i puts = ap (λ (o : Option Sockets). end_in (ports_in side o) i) puts.is

pub end_there : (all all' : List Sockets) (key : ℕ) (own : Sockets) (side : Side) (k i : ℕ) → Puts all all' key own → k ≢ key → end_under all' side k i ≡ end_under all side k i
end_there all all' key own side k i puts ne = ap (λ (o : Option Sockets). end_in (ports_in side o) i) (puts.others k ne)

pub record Takes (all all' : List Sockets) (spots : List Spot) (b : Book) (key : ℕ) (own : Sockets) : Type 0 where
  pub puts : Puts all all' key own
  pub loose : (side : Side) (i : ℕ) → end_in (side_ports side own) i ≡ None
  pub no_fans : (outlet : ℕ) → fan_in all spots b key outlet ≡ []
  pub no_feeds : (inlet : ℕ) → feeds_in all spots b key inlet ≡ []

-- an end is that of a port of another box, which had it
pub end_apart : (all all' : List Sockets) (spots : List Spot) (b : Book) (key : ℕ) (own : Sockets) (s : Spot) (e : ℕ) → Takes all all' spots b key own → end_at all' s ≡ Some e → (s.node ≢ key) × (end_at all s ≡ Some e)
end_apart all all' spots b key own s e t h = elim (cases_eq s.node key) [
  | inl same ↦ absurd (none-some e (sym (t.loose s.side s.port) ∙ sym (end_here all all' key own s.side s.port t.puts) ∙ ap (λ n. end_under all' s.side n s.port) (sym same) ∙ h))
  | inr differ ↦ (differ, sym (end_there all all' key own s.side s.node s.port t.puts differ) ∙ h)
]

pub put_few : (all all' : List Sockets) (key : ℕ) (own : Sockets) → Puts all all' key own → ((side : Side) → length (side_ports side own) < 2 ^ 32) → AreFew all → AreFew all'
put_few all all' key own puts here few = λ side k.
    let Q : Option Sockets → Type 0 = λ o. length (ports_in side o) < 2 ^ 32 in
    elim (cases_eq k key) [
      | inl same ↦ let P : ℕ → Type 0 = λ n. length (ports_at all' side n) < 2 ^ 32 in subst P (sym same) (subst Q (sym puts.is) (here side))
      | inr differ ↦ subst Q (sym (puts.others k differ)) (few side k)
    ]

pub put_tied : (all all' : List Sockets) (spots : List Spot) (b : Book) (key : ℕ) (own : Sockets) → Takes all all' spots b key own → AreTied all spots b → AreTied all' spots b
put_tied all all' spots b key own t tied = record {
  placed = λ s e h. tied.placed s e (end_apart all all' spots b key own s e t h).1;
  spotted = tied.spotted;
}

pub put_free : (all all' : List Sockets) (spots : List Spot) (b : Book) (spare : List ℕ) (key : ℕ) (own : Sockets) → Takes all all' spots b key own → AreFree all b spare → AreFree all' b spare
put_free all all' spots b spare key own t free = record {
  live = free.live;
  no_fan = free.no_fan;
  no_feeds = free.no_feeds;
  of_no_port = λ i e s h is. free.of_no_port i e s h (end_apart all all' spots b key own s e t is).1;
  once = free.once;
}

pub put_fans : (all all' : List Sockets) (spots : List Spot) (b : Book) (key : ℕ) (own : Sockets) → Takes all all' spots b key own → (node outlet : ℕ) → fan_in all' spots b node outlet ≡ fan_in all spots b node outlet
put_fans all all' spots b key own t node outlet =
    let along : Option ℕ → List Hop = λ x. map (to_hop spots b) (fan_under b x) in
    elim (cases_eq node key) [
      | inl same ↦
          let P : ℕ → Type 0 = λ n. fan_in all' spots b n outlet ≡ fan_in all spots b n outlet in
          subst P (sym same) (ap along (end_here all all' key own Outlets outlet t.puts ∙ t.loose Outlets outlet) ∙ sym (t.no_fans outlet))
      | inr differ ↦ ap along (end_there all all' key own Outlets node outlet t.puts differ)
    ]

pub put_feeds : (all all' : List Sockets) (spots : List Spot) (b : Book) (key : ℕ) (own : Sockets) → Takes all all' spots b key own → (node inlet : ℕ) → feeds_in all' spots b node inlet ≡ feeds_in all spots b node inlet
put_feeds all all' spots b key own t node inlet =
    let along : Option ℕ → List Hop = λ x. map (from_hop spots b) (feeds_under b x) in
    elim (cases_eq node key) [
      | inl same ↦
          let P : ℕ → Type 0 = λ n. feeds_in all' spots b n inlet ≡ feeds_in all spots b n inlet in
          subst P (sym same) (ap along (end_here all all' key own Inlets inlet t.puts ∙ t.loose Inlets inlet) ∙ sym (t.no_feeds inlet))
      | inr differ ↦ ap along (end_there all all' key own Inlets node inlet t.puts differ)
    ]

pub jacks_loose : (js : List Jack) → jacks_of (loose_ports js) ≡ js
jacks_loose [] = refl
jacks_loose (j ∷ js) = ap (λ xs. j ∷ xs) (jacks_loose js)

loose_end : (js : List Jack) (i : ℕ) → end_in (loose_ports js) i ≡ None
loose_end [] i = refl
loose_end (j ∷ js) zero = refl
loose_end (j ∷ js) (suc i) = loose_end js i

pub loose_by : (own : Sockets) (side : Side) (js : List Jack) (i : ℕ) → side_ports side own ≡ loose_ports js → end_in (side_ports side own) i ≡ None
loose_by own side js i told = ap (λ (ports : List Port). end_in ports i) told ∙ loose_end js i

pub jacks_by : (own : Sockets) (side : Side) (js : List Jack) → side_ports side own ≡ loose_ports js → jacks_of (side_ports side own) ≡ js
jacks_by own side js told = ap jacks_of told ∙ jacks_loose js

pub ports_here : (all all' : List Sockets) (key : ℕ) (own : Sockets) (side : Side) → Puts all all' key own → jacks_of (ports_at all' side key) ≡ jacks_of (side_ports side own)
ports_here all all' key own side puts = ap (λ (o : Option Sockets). jacks_of (ports_in side o)) puts.is

pub ports_there : (all all' : List Sockets) (key : ℕ) (own : Sockets) (side : Side) (k : ℕ) → Puts all all' key own → k ≢ key → jacks_of (ports_at all' side k) ≡ jacks_of (ports_at all side k)
ports_there all all' key own side k puts ne = ap (λ (o : Option Sockets). jacks_of (ports_in side o)) (puts.others k ne)

pub made_here : (all all' : List Sockets) (key : ℕ) (own : Sockets) → Puts all all' key own → made_at all' key ≡ own.is_made
made_here all all' key own puts = ap made_of puts.is

pub made_there : (all all' : List Sockets) (key : ℕ) (own : Sockets) (k : ℕ) → Puts all all' key own → k ≢ key → made_at all' k ≡ made_at all k
made_there all all' key own k puts ne = ap made_of (puts.others k ne)

no_jacks : (ports : List Port) → jacks_of ports ≡ [] → ports ≡ []
no_jacks [] h = refl
no_jacks (p ∷ ports) h = let e = ap length h in absurd (omega (arith, e))

no_end : (all : List Sockets) (side : Side) (key i : ℕ) → jacks_of (ports_at all side key) ≡ [] → end_under all side key i ≡ None
no_end all side key i h = ap (λ (ports : List Port). end_in ports i) (no_jacks (ports_at all side key) h)

-- a box without ports has no wires
pub bare_fans : (all : List Sockets) (spots : List Spot) (b : Book) (key outlet : ℕ) → jacks_of (ports_at all Outlets key) ≡ [] → fan_in all spots b key outlet ≡ []
bare_fans all spots b key outlet h = ap (λ (x : Option ℕ). map (to_hop spots b) (fan_under b x)) (no_end all Outlets key outlet h)

pub bare_feeds : (all : List Sockets) (spots : List Spot) (b : Book) (key inlet : ℕ) → jacks_of (ports_at all Inlets key) ≡ [] → feeds_in all spots b key inlet ≡ []
bare_feeds all spots b key inlet h = ap (λ (x : Option ℕ). map (from_hop spots b) (feeds_under b x)) (no_end all Inlets key inlet h)

-- a box that has come gets ports
pub opened_takes : (all all' : List Sockets) (spots : List Spot) (b : Book) (key : ℕ) (own : Sockets) (want : Side → List Jack) → Puts all all' key own → ((side : Side) → side_ports side own ≡ loose_ports (want side))
    → ((side : Side) → jacks_of (ports_at all side key) ≡ []) → Takes all all' spots b key own
opened_takes all all' spots b key own want puts told bare = record {
  puts = puts;
  loose = λ side i. loose_by own side (want side) i (told side);
  no_fans = λ outlet. bare_fans all spots b key outlet (bare Outlets);
  no_feeds = λ inlet. bare_feeds all spots b key inlet (bare Inlets);
}

pub none_at : (own : Sockets) (side : Side) → own.inlets.items ≡ [] → own.outlets.items ≡ [] → side_ports side own ≡ []
none_at own Inlets a b = a
none_at own Outlets a b = b

-- a box without wires loses its ports
pub closed_takes : (all all' : List Sockets) (spots : List Spot) (b : Book) (key : ℕ) (own : Sockets) → Puts all all' key own → own.inlets.items ≡ [] → own.outlets.items ≡ []
    → ((outlet : ℕ) → fan_in all spots b key outlet ≡ []) → ((inlet : ℕ) → feeds_in all spots b key inlet ≡ []) → Takes all all' spots b key own
closed_takes all all' spots b key own puts no_inlets no_outlets fans feeds = record {
  puts = puts;
  loose = λ side i. loose_by own side [] i (none_at own side no_inlets no_outlets);
  no_fans = fans;
  no_feeds = feeds;
}

pub none_few : (own : Sockets) → own.inlets.items ≡ [] → own.outlets.items ≡ [] → (side : Side) → length (side_ports side own) < 2 ^ 32
none_few own a b = λ side. let P : List Port → Type 0 = λ ports. length ports < 2 ^ 32 in subst P (sym (none_at own side a b)) (lit< tt)
