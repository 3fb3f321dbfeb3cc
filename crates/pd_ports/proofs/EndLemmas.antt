-- Ends that are dropped.
use Rattle.std.proofs.Common.{◌≡◌, ◌⊎◌, ℕ, ◌+◌, ◌<◌, List, [], ◌∷◌, length, map, get_or, take, slice_get, Option, Some, None, is_some, refl, sym, ap, ◌∙◌, inl, inr, arith}
use Rattle.std.specs.Prelude.{option_map}
use Rattle.std.proofs.lemmas.Option.{same_Some}
use Rattle.pd_wire.specs.Book.{Book, IsEnd, end_at as entry_at, wire_at, fan_of, feeds_of, fan_part, feed_part}
use Rattle.pd_grove.specs.declared.ports.Side.{Side}
use Rattle.pd_grove.specs.declared.ports.Side.TheVariants.{Inlets, Outlets}
use Rattle.pd_web.specs.declared.sockets.Port.{Port}
use Rattle.pd_web.specs.declared.sockets.Sockets.{Sockets}
use Rattle.pd_web.specs.declared.sockets.Spot.{Spot}
use Rattle.pd_web.specs.declared.web.Hop.{Hop}
use Rattle.pd_web.specs.Sockets.{AreTied, side_ports, ports_in, end_under, end_at}
use Rattle.pd_web.specs.Spares.{AreFree}
use Rattle.pd_web.specs.Wiring.{source_in, sink_in}
use Rattle.pd_web.specs.Hops.{hop_by, fan_under, feeds_under}
use Rattle.pd_web.specs.Changes.{line_by}
use Rattle.pd_web.proofs.ChangeLemmas.{to_hop, from_hop, line_in, fan_in, feeds_in}
use Rattle.pd_ports.specs.Ends.{end_in, IsAmong, IsEndOf, AreLive, HasLiveEnds, Drops}
use Rattle.pd_ports.specs.Moves.{IsLeft}
use Rattle.pd_ports.proofs.ListLemmas.{nothing, told_more, told_front, told_here, told_still, told_next}
use Rattle.pd_ports.proofs.BoxLemmas.{Takes, end_apart}

pub live_by : (b b' : Book) (e : ℕ) → entry_at b' e ≡ entry_at b e → IsEnd b e → IsEnd b' e
live_by b b' e same h = ap is_some same ∙ h

-- nothing is dropped
pub drops_none : (b : Book) (Is : ℕ → Type 0) → ((e : ℕ) → Is e → fan_of b e ≡ [] → feeds_of b e ≡ [] → IsEnd b e → ⊥) → Drops b b Is
drops_none b Is never = record { gone = never; stay = λ e h. refl; no_more = λ e h. refl; wires = λ k. refl; spare_wires = refl }

pub drops_more : (a b c : Book) (P Q R : ℕ → Type 0) → Drops a b P → Drops b c Q → ((e : ℕ) → R e → P e ⊎ Q e) → ((e : ℕ) → P e → R e) → ((e : ℕ) → Q e → R e) → Drops a c R
drops_more a b c P Q R first then parts left right = record {
  gone = λ e r fan feeds live.
      let s = then.no_more e live in
      let l = live_by c b e (sym s) live in
      elim (parts e r) [
        | inl p ↦ first.gone e p fan feeds l
        | inr q ↦ let t = first.no_more e l in then.gone e q (ap fan_part t ∙ fan) (ap feed_part t ∙ feeds) live
      ];
  stay = λ e h. then.stay e (λ q. h (right e q)) ∙ first.stay e (λ p. h (left e p));
  no_more = λ e live. let s = then.no_more e live in s ∙ first.no_more e (live_by c b e (sym s) live);
  wires = λ k. then.wires k ∙ first.wires k;
  spare_wires = then.spare_wires ∙ first.spare_wires;
}

pub drops_port : (a b c : Book) (ports : List Port) (i : ℕ) (d : Port) → i < length ports → Drops a b (IsAmong (take i ports)) → Drops b c (λ e. (get_or ports i d).end ≡ Some e) → Drops a c (IsAmong (take (i + 1) ports))
drops_port a b c ports i d l first then =
    let end : Port → Option ℕ = λ p. p.end in
    drops_more a b c (IsAmong (take i ports)) (λ e. (get_or ports i d).end ≡ Some e) (IsAmong (take (i + 1) ports)) first then
    (λ e h. told_more end ports i e d l h)
    (λ e h. told_still end ports i e h)
    (λ e h. told_next end ports i e d l h)

-- the end of the next port still lives
pub next_live : (a b : Book) (ports : List Port) (i e : ℕ) (d : Port) → i < length ports → AreLive a ports → Drops a b (IsAmong (take i ports)) → (get_or ports i d).end ≡ Some e → IsEnd b e
next_live a b ports i e d l live drops h =
    let end : Port → Option ℕ = λ p. p.end in
    let at = told_here end ports i e d l h in
    live_by a b e (drops.stay e (λ before. let r = told_front end ports i before.0 e before.1 in let n = r.0 in let same = live.once before.0 i e r.1 at in absurd (omega (arith, n, same)))) (live.live i e at)

-- The ends of old ports that no new one has.

pub left_begun : (b : Book) (old new : List Port) → Drops b b (IsLeft (take 0 old) new)
left_begun b old new = drops_none b (IsLeft (take 0 old) new) (λ e h fan feeds live. nothing (λ (p : Port). p.end) e h.0.0 h.0.1)

pub left_port : (a b c : Book) (old new : List Port) (i : ℕ) (d : Port) → i < length old → Drops a b (IsLeft (take i old) new) → Drops b c (λ e. ((get_or old i d).end ≡ Some e) × (IsAmong new e → ⊥))
    → Drops a c (IsLeft (take (i + 1) old) new)
left_port a b c old new i d l first then =
    let end : Port → Option ℕ = λ p. p.end in
    drops_more a b c (IsLeft (take i old) new) (λ e. ((get_or old i d).end ≡ Some e) × (IsAmong new e → ⊥)) (IsLeft (take (i + 1) old) new) first then
    (λ e h. elim (told_more end old i e d l h.0) [
      | inl x ↦ inl (x, h.1)
      | inr y ↦ inr (y, h.1)
    ])
    (λ e h. (told_still end old i e h.0, h.1))
    (λ e h. (told_next end old i e d l h.0, h.1))

pub left_live : (a b : Book) (old new : List Port) (i e : ℕ) (d : Port) → i < length old → AreLive a old → Drops a b (IsLeft (take i old) new) → (get_or old i d).end ≡ Some e → IsEnd b e
left_live a b old new i e d l live drops h =
    let end : Port → Option ℕ = λ p. p.end in
    let at = told_here end old i e d l h in
    live_by a b e (drops.stay e (λ before. let r = told_front end old i before.0.0 e before.0.1 in let n = r.0 in let same = live.once before.0.0 i e r.1 at in absurd (omega (arith, n, same)))) (live.live i e at)

-- Both sides of a box.

pub inlets_live : (b : Book) (own : Sockets) → HasLiveEnds b own → AreLive b own.inlets.items
inlets_live b own h = record { live = h.live Inlets; once = λ i j e p q. (h.once Inlets Inlets i j e p q).1 }

sides_differ : Inlets ≡ Outlets → ⊥
sides_differ h = cc h

pub outlets_live : (b b' : Book) (own : Sockets) → HasLiveEnds b own → Drops b b' (IsAmong own.inlets.items) → AreLive b' own.outlets.items
outlets_live b b' own h drops = record {
  live = λ i e at. live_by b b' e (drops.stay e (λ is. sides_differ (h.once Inlets Outlets is.0 i e is.1 at).0)) (h.live Outlets i e at);
  once = λ i j e p q. (h.once Outlets Outlets i j e p q).1;
}

pub drops_both : (a b c : Book) (own : Sockets) → Drops a b (IsAmong own.inlets.items) → Drops b c (IsAmong own.outlets.items) → Drops a c (IsEndOf own)
drops_both a b c own first then =
    drops_more a b c (IsAmong own.inlets.items) (IsAmong own.outlets.items) (IsEndOf own) first then
    (λ e h. side_of h.0 e h.1) (λ e h. (Inlets, h)) (λ e h. (Outlets, h))
  where
    side_of : (side : Side) (e : ℕ) → IsAmong (side_ports side own) e → IsAmong own.inlets.items e ⊎ IsAmong own.outlets.items e
    side_of Inlets e h = inl h
    side_of Outlets e h = inr h

-- The ends of the ports that a box had.

old_end : (all : List Sockets) (key : ℕ) (old : Sockets) (side : Side) (i e : ℕ) → slice_get all key ≡ Some old → end_in (side_ports side old) i ≡ Some e → end_under all side key i ≡ Some e
old_end all key old side i e was h = ap (λ (o : Option Sockets). end_in (ports_in side o) i) was ∙ h

pub olds_live : (all : List Sockets) (spots : List Spot) (b : Book) (key : ℕ) (old : Sockets) → AreTied all spots b → slice_get all key ≡ Some old → HasLiveEnds b old
olds_live all spots b key old tied was = record {
  live = λ side i e h. (tied.placed (record { node = key; side = side; port = i }) e (old_end all key old side i e was h)).live;
  once = λ s t i j e p q.
      let x : Spot = record { node = key; side = s; port = i } in
      let y : Spot = record { node = key; side = t; port = j } in
      let same = same_Some x y (sym (tied.placed x e (old_end all key old s i e was p)).told ∙ (tied.placed y e (old_end all key old t j e was q)).told) in
      (ap (λ (z : Spot). z.side) same, ap (λ (z : Spot). z.port) same);
}

pub olds_apart : (all all' : List Sockets) (spots : List Spot) (b : Book) (key : ℕ) (old own : Sockets) → AreTied all spots b → slice_get all key ≡ Some old → Takes all all' spots b key own
    → (s : Spot) (e : ℕ) → end_at all' s ≡ Some e → IsEndOf old e → ⊥
olds_apart all all' spots b key old own tied was takes s e h is =
    let there = end_apart all all' spots b key own s e takes h in
    let mine : Spot = record { node = key; side = is.0; port = is.1.0 } in
    let at : end_at all mine ≡ Some e = old_end all key old is.0 is.1.0 e was is.1.1 in
    there.0 (ap (λ (x : Spot). x.node) (same_Some s mine (sym (tied.placed s e there.1).told ∙ (tied.placed mine e at).told)))

pub olds_taken : (all : List Sockets) (b : Book) (spare : List ℕ) (key : ℕ) (old : Sockets) → AreFree all b spare → slice_get all key ≡ Some old → (i e : ℕ) → slice_get spare i ≡ Some e → IsEndOf old e → ⊥
olds_taken all b spare key old free was i e at is = free.of_no_port i e (record { node = key; side = is.0; port = is.1.0 }) at (old_end all key old is.0 is.1.0 e was is.1.1)

-- What stays while ends of no port are dropped.

pub record Dropped (all : List Sockets) (b b' : Book) (spare : List ℕ) (Is : ℕ → Type 0) : Type 0 where
  pub drops : Drops b b' Is
  pub apart : (s : Spot) (e : ℕ) → end_at all s ≡ Some e → Is e → ⊥
  pub taken : (i e : ℕ) → slice_get spare i ≡ Some e → Is e → ⊥

pub dropped_tied : (all : List Sockets) (spots : List Spot) (b b' : Book) (spare : List ℕ) (Is : ℕ → Type 0) → Dropped all b b' spare Is → AreTied all spots b → AreTied all spots b'
dropped_tied all spots b b' spare Is d tied = record {
  placed = λ s e h. let a = tied.placed s e h in record { live = live_by b b' e (d.drops.stay e (d.apart s e h)) a.live; told = a.told };
  spotted = λ e h. tied.spotted e (live_by b' b e (sym (d.drops.no_more e h)) h);
}

pub dropped_free : (all : List Sockets) (b b' : Book) (spare : List ℕ) (Is : ℕ → Type 0) → Dropped all b b' spare Is → AreFree all b spare → AreFree all b' spare
dropped_free all b b' spare Is d free = record {
  live = λ i e h. live_by b b' e (d.drops.stay e (d.taken i e h)) (free.live i e h);
  no_fan = λ i e h. ap fan_part (d.drops.stay e (d.taken i e h)) ∙ free.no_fan i e h;
  no_feeds = λ i e h. ap feed_part (d.drops.stay e (d.taken i e h)) ∙ free.no_feeds i e h;
  of_no_port = free.of_no_port;
  once = free.once;
}

pub line_alike : (spots : List Spot) (b b' : Book) (k : ℕ) → wire_at b' k ≡ wire_at b k → line_in spots b' k ≡ line_in spots b k
line_alike spots b b' k same =
    ap (λ (o : Option (ℕ × ℕ)). option_map (λ _. line_by (hop_by k (slice_get spots (source_in o))) (hop_by k (slice_get spots (sink_in o)))) o) same

map_same : (f g : ℕ → Hop) (xs : List ℕ) → ((k : ℕ) → f k ≡ g k) → map f xs ≡ map g xs
map_same f g [] h = refl
map_same f g (x ∷ xs) h = ap (λ y. y ∷ map f xs) (h x) ∙ ap (λ ys. g x ∷ ys) (map_same f g xs h)

to_alike : (spots : List Spot) (b b' : Book) (k : ℕ) → wire_at b' k ≡ wire_at b k → to_hop spots b' k ≡ to_hop spots b k
to_alike spots b b' k same = ap (λ (o : Option (ℕ × ℕ)). hop_by k (slice_get spots (sink_in o))) same

from_alike : (spots : List Spot) (b b' : Book) (k : ℕ) → wire_at b' k ≡ wire_at b k → from_hop spots b' k ≡ from_hop spots b k
from_alike spots b b' k same = ap (λ (o : Option (ℕ × ℕ)). hop_by k (slice_get spots (source_in o))) same

fan_dropped : (spots : List Spot) (b b' : Book) (Is : ℕ → Type 0) (o : Option ℕ) → Drops b b' Is → ((e : ℕ) → o ≡ Some e → Is e → ⊥) → map (to_hop spots b') (fan_under b' o) ≡ map (to_hop spots b) (fan_under b o)
fan_dropped spots b b' Is None d apart = refl
fan_dropped spots b b' Is (Some e) d apart =
    ap (λ x. map (to_hop spots b') (fan_part x)) (d.stay e (apart e refl)) ∙ map_same (to_hop spots b') (to_hop spots b) (fan_of b e) (λ k. to_alike spots b b' k (d.wires k))

feeds_dropped : (spots : List Spot) (b b' : Book) (Is : ℕ → Type 0) (o : Option ℕ) → Drops b b' Is → ((e : ℕ) → o ≡ Some e → Is e → ⊥) → map (from_hop spots b') (feeds_under b' o) ≡ map (from_hop spots b) (feeds_under b o)
feeds_dropped spots b b' Is None d apart = refl
feeds_dropped spots b b' Is (Some e) d apart =
    ap (λ x. map (from_hop spots b') (feed_part x)) (d.stay e (apart e refl)) ∙ map_same (from_hop spots b') (from_hop spots b) (feeds_of b e) (λ k. from_alike spots b b' k (d.wires k))

pub dropped_fans : (all : List Sockets) (spots : List Spot) (b b' : Book) (spare : List ℕ) (Is : ℕ → Type 0) → Dropped all b b' spare Is → (node outlet : ℕ) → fan_in all spots b' node outlet ≡ fan_in all spots b node outlet
dropped_fans all spots b b' spare Is d node outlet =
    fan_dropped spots b b' Is (end_under all Outlets node outlet) d.drops (λ e h. d.apart (record { node = node; side = Outlets; port = outlet }) e h)

pub dropped_feeds : (all : List Sockets) (spots : List Spot) (b b' : Book) (spare : List ℕ) (Is : ℕ → Type 0) → Dropped all b b' spare Is → (node inlet : ℕ) → feeds_in all spots b' node inlet ≡ feeds_in all spots b node inlet
dropped_feeds all spots b b' spare Is d node inlet =
    feeds_dropped spots b b' Is (end_under all Inlets node inlet) d.drops (λ e h. d.apart (record { node = node; side = Inlets; port = inlet }) e h)
