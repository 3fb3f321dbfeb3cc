-- Hops and wires, as a book changes in one place.
use Rattle.std.proofs.Common.{◌≡◌, ◌≢◌, ◌==◌, ℕ, zero, suc, ◌+◌, ◌<◌, false, not, cond, List, [], ◌∷◌, ◌++◌, length, get_or, map, take, drop, slice_get, Option, Some, None, IsSome, is_some, refl, sym, ap, ◌∙◌, subst, inl, inr, eq-eqb, ne_eqb, true≢false, arith}
use Rattle.std.specs.Prelude.{option_map}
use Rattle.std.specs.List.{insert}
use Rattle.std.proofs.lemmas.Bool.{cases_eq}
use Rattle.std.proofs.lemmas.List.{length-map, length-append}
use Rattle.std.proofs.lemmas.Option.{none-some, same_Some, slice_get-map, slice_get_within, get_or_from_slice_get, slice_get-get_or, slice_get_past}
use Rattle.pd_wire.specs.Book.{Book, IsEnd, IsWire, wire_at, fan_of, feeds_of, IsLinked, Adds, StandsAt, without}
use Rattle.pd_grove.specs.declared.ports.Side.{Side}
use Rattle.pd_grove.specs.declared.ports.Side.TheVariants.{Inlets, Outlets}
use Rattle.pd_web.specs.declared.sockets.Port.{Port}
use Rattle.pd_web.specs.declared.sockets.Sockets.{Sockets}
use Rattle.pd_web.specs.declared.sockets.Spot.{Spot}
use Rattle.pd_web.specs.declared.web.Hop.{Hop}
use Rattle.pd_web.specs.declared.web.Web.{Web}
use Rattle.pd_web.specs.Sockets.{AreFew, AreTied, IsAt, IsThere, Gives, Writes, end_at, end_under, ports_at, jacks_of}
use Rattle.pd_web.specs.Spares.{AreFree}
use Rattle.pd_web.specs.Wiring.{source_in, sink_in, source_at, sink_at}
use Rattle.pd_web.specs.Lines.{Line, line_from, line_to}
use Rattle.pd_web.specs.Hops.{hop_by, fan_under, feeds_under, fan_keys, feed_keys, fan_hops, feed_hops}
use Rattle.pd_web.specs.Changes.{IsSame, line_told, line_by, hop_at, without_hop}
use Rattle.pd_web.proofs.EndLemmas.{cases_spot}
use Rattle.pd_web.proofs.SocketLemmas.{push_below, push_at}
use Rattle.pd_web.proofs.HopLemmas.{pair_at, fan_listed, feed_listed, fan_wire, feed_wire, key_listed}

-- a wire and the port to which it leads, and the one from which it comes
abbrev pub to_hop : List Spot → Book → ℕ → Hop
to_hop spots b key = hop_by key (slice_get spots (sink_at b key))

abbrev pub from_hop : List Spot → Book → ℕ → Hop
from_hop spots b key = hop_by key (slice_get spots (source_at b key))

abbrev pub line_in : List Spot → Book → ℕ → Option Line
line_in spots b key = option_map (λ _. line_by (from_hop spots b key) (to_hop spots b key)) (wire_at b key)

abbrev pub fan_in : List Sockets → List Spot → Book → ℕ → ℕ → List Hop
fan_in all spots b node outlet = map (to_hop spots b) (fan_under b (end_under all Outlets node outlet))

abbrev pub feeds_in : List Sockets → List Spot → Book → ℕ → ℕ → List Hop
feeds_in all spots b node inlet = map (from_hop spots b) (feeds_under b (end_under all Inlets node inlet))

-- a wire is still one, between the same ports
pub record Stays (spots spots' : List Spot) (b b' : Book) (k s t : ℕ) : Type 0 where
  pub was : wire_at b k ≡ Some (s, t)
  pub is : wire_at b' k ≡ Some (s, t)
  pub from : slice_get spots' s ≡ slice_get spots s
  pub to : slice_get spots' t ≡ slice_get spots t

to_stays : (spots spots' : List Spot) (b b' : Book) (k s t : ℕ) → Stays spots spots' b b' k s t → to_hop spots' b' k ≡ to_hop spots b k
to_stays spots spots' b b' k s t h =
    ap (λ n. hop_by k (slice_get spots' n)) (ap sink_in h.is) ∙ ap (hop_by k) h.to ∙ ap (λ n. hop_by k (slice_get spots n)) (sym (ap sink_in h.was))

from_stays : (spots spots' : List Spot) (b b' : Book) (k s t : ℕ) → Stays spots spots' b b' k s t → from_hop spots' b' k ≡ from_hop spots b k
from_stays spots spots' b b' k s t h =
    ap (λ n. hop_by k (slice_get spots' n)) (ap source_in h.is) ∙ ap (hop_by k) h.from ∙ ap (λ n. hop_by k (slice_get spots n)) (sym (ap source_in h.was))

-- every wire that passes is still one, between the same ports
abbrev pub AllStay : List Spot → List Spot → Book → Book → (ℕ → Type 0) → Type 0
AllStay spots spots' b b' P = (k s t : ℕ) → wire_at b k ≡ Some (s, t) → P k → Stays spots spots' b b' k s t

abbrev pub any : ℕ → Type 0
any k = Unit {0}

abbrev pub other_than : ℕ → ℕ → Type 0
other_than key k = k ≢ key

line_stays : (spots spots' : List Spot) (b b' : Book) (k s t : ℕ) → Stays spots spots' b b' k s t → line_in spots' b' k ≡ line_in spots b k
line_stays spots spots' b b' k s t h =
    ap (option_map (λ _. line_by (from_hop spots' b' k) (to_hop spots' b' k))) h.is
    ∙ ap (λ x. Some (line_by x (to_hop spots' b' k))) (from_stays spots spots' b b' k s t h)
    ∙ ap (λ x. Some (line_by (from_hop spots b k) x)) (to_stays spots spots' b b' k s t h)
    ∙ sym (ap (option_map (λ _. line_by (from_hop spots b k) (to_hop spots b k))) h.was)

pub line_lost : (spots : List Spot) (b : Book) (k : ℕ) → wire_at b k ≡ None → line_in spots b k ≡ None
line_lost spots b k h = ap (option_map (λ _. line_by (from_hop spots b k) (to_hop spots b k))) h

line_by_cases : (spots spots' : List Spot) (b b' : Book) (P : ℕ → Type 0) (k : ℕ) (o : Option (ℕ × ℕ)) → wire_at b k ≡ o → AllStay spots spots' b b' P → wire_at b' k ≡ wire_at b k → P k → line_in spots' b' k ≡ line_in spots b k
line_by_cases spots spots' b b' P k None e stay same p = line_lost spots' b' k (same ∙ e) ∙ sym (line_lost spots b k e)
line_by_cases spots spots' b b' P k (Some q) e stay same p = line_stays spots spots' b b' k q.0 q.1 (stay k q.0 q.1 e p)

pub lines_stay : (spots spots' : List Spot) (b b' : Book) (P : ℕ → Type 0) (k : ℕ) → AllStay spots spots' b b' P → wire_at b' k ≡ wire_at b k → P k → line_in spots' b' k ≡ line_in spots b k
lines_stay spots spots' b b' P k stay same p = line_by_cases spots spots' b b' P k (wire_at b k) refl stay same p

map_alike : (f g : ℕ → Hop) (xs : List ℕ) → ((i k : ℕ) → slice_get xs i ≡ Some k → f k ≡ g k) → map f xs ≡ map g xs
map_alike f g [] h = refl
map_alike f g (x ∷ xs) h = ap (λ y. y ∷ map f xs) (h zero x refl) ∙ ap (λ ys. g x ∷ ys) (map_alike f g xs (λ i k e. h (suc i) k e))

pub fan_stays : (spots spots' : List Spot) (b b' : Book) (o : Option ℕ) → IsLinked b → AllStay spots spots' b b' any → map (to_hop spots' b') (fan_under b o) ≡ map (to_hop spots b) (fan_under b o)
fan_stays spots spots' b b' o linked stay =
    map_alike (to_hop spots' b') (to_hop spots b) (fan_under b o) (λ i k e.
    let p = pair_at (wire_at b k) (fan_wire b o i k linked e) in to_stays spots spots' b b' k p.0 p.1 (stay k p.0 p.1 p.2 tt))

pub feeds_stay : (spots spots' : List Spot) (b b' : Book) (o : Option ℕ) → IsLinked b → AllStay spots spots' b b' any → map (from_hop spots' b') (feeds_under b o) ≡ map (from_hop spots b) (feeds_under b o)
feeds_stay spots spots' b b' o linked stay =
    map_alike (from_hop spots' b') (from_hop spots b) (feeds_under b o) (λ i k e.
    let p = pair_at (wire_at b k) (feed_wire b o i k linked e) in from_stays spots spots' b b' k p.0 p.1 (stay k p.0 p.1 p.2 tt))

-- An end that was set aside is given to a port that had none.

-- the port has got the last end of those set aside
pub record Given (all all' : List Sockets) (spots spots' : List Spot) (b : Book) (spare spare' : List ℕ) (spot : Spot) (e : ℕ) : Type 0 where
  pub tied : AreTied all spots b
  pub free : AreFree all b spare
  pub none : end_at all spot ≡ None
  pub items : spare ≡ spare' ++ e ∷ []
  pub writes : Writes spots spots' e spot
  pub gives : Gives all all' spot e

spare_last : (spare spare' : List ℕ) (e : ℕ) → spare ≡ spare' ++ e ∷ [] → slice_get spare (length spare') ≡ Some e
spare_last spare spare' e h = ap (λ xs. slice_get xs (length spare')) h ∙ push_at spare' e (length spare') refl

spare_below : (spare spare' : List ℕ) (e i f : ℕ) → spare ≡ spare' ++ e ∷ [] → slice_get spare' i ≡ Some f → slice_get spare i ≡ Some f
spare_below spare spare' e i f h at = ap (λ xs. slice_get xs i) h ∙ push_below spare' e i (slice_get_within spare' i f at) ∙ at

given_tied : (all all' : List Sockets) (spots spots' : List Spot) (b : Book) (spare spare' : List ℕ) (spot : Spot) (e : ℕ) → Given all all' spots spots' b spare spare' spot e → AreTied all' spots' b
given_tied all all' spots spots' b spare spare' spot e g =
    let last = spare_last spare spare' e g.items in
    record {
      placed = λ s f h. elim (cases_spot s spot) [
        | inl same ↦
            let P : Spot → Type 0 = λ t. IsAt spots' b f t in
            let Q : ℕ → Type 0 = λ n. IsAt spots' b n spot in
            subst P (sym same)
            (subst Q (same_Some e f (sym g.gives.is ∙ ap (end_at all') (sym same) ∙ h)) (record { live = g.free.live (length spare') e last; told = g.writes.is }))
        | inr differ ↦
            let old = sym (g.gives.others s differ) ∙ h in
            let was = g.tied.placed s f old in
            record { live = was.live; told = g.writes.others f s (λ same. g.free.of_no_port (length spare') e s last (old ∙ ap (λ n. Some n) same)) was.told }
      ];
      spotted = λ f h. let l = g.tied.spotted f h in let m = g.writes.longer in omega (arith, l, m);
    }

given_free : (all all' : List Sockets) (spots spots' : List Spot) (b : Book) (spare spare' : List ℕ) (spot : Spot) (e : ℕ) → Given all all' spots spots' b spare spare' spot e → AreFree all' b spare'
given_free all all' spots spots' b spare spare' spot e g =
    let last = spare_last spare spare' e g.items in
    let at = λ (i f : ℕ) (h : slice_get spare' i ≡ Some f). spare_below spare spare' e i f g.items h in
    record {
      live = λ i f h. g.free.live i f (at i f h);
      no_fan = λ i f h. g.free.no_fan i f (at i f h);
      no_feeds = λ i f h. g.free.no_feeds i f (at i f h);
      of_no_port = λ i f s h is. elim (cases_spot s spot) [
        | inl same ↦
            let e_is = same_Some e f (sym g.gives.is ∙ ap (end_at all') (sym same) ∙ is) in
            let there = g.free.once i (length spare') e (at i f h ∙ ap (λ n. Some n) (sym e_is)) last in
            let below = slice_get_within spare' i f h in
            absurd (omega (arith, there, below))
        | inr differ ↦ g.free.of_no_port i f s (at i f h) (sym (g.gives.others s differ) ∙ is)
      ];
      once = λ i j f h k. g.free.once i j f (at i f h) (at j f k);
    }

given_under : (all all' : List Sockets) (spots spots' : List Spot) (b : Book) (spare spare' : List ℕ) (spot : Spot) (e : ℕ) → Given all all' spots spots' b spare spare' spot e
    → (s : Spot) → (fan_under b (end_at all' s) ≡ fan_under b (end_at all s)) × (feeds_under b (end_at all' s) ≡ feeds_under b (end_at all s))
given_under all all' spots spots' b spare spare' spot e g s = elim (cases_spot s spot) [
  | inl same ↦
      let last = spare_last spare spare' e g.items in
      let now = ap (end_at all') same ∙ g.gives.is in
      let was = ap (end_at all) same ∙ g.none in
      (ap (fan_under b) now ∙ g.free.no_fan (length spare') e last ∙ sym (ap (fan_under b) was), ap (feeds_under b) now ∙ g.free.no_feeds (length spare') e last ∙ sym (ap (feeds_under b) was))
  | inr differ ↦ (ap (fan_under b) (g.gives.others s differ), ap (feeds_under b) (g.gives.others s differ))
]

-- an end with a wire is none of those set aside
wired_apart : (xs ys : List ℕ) (i : ℕ) → xs ≡ [] → xs ≡ ys → i < length ys → ⊥
wired_apart xs ys i none same l = let e = ap length (sym same ∙ none) in absurd (omega (arith, e, l))

spot_kept : (spots spots' : List Spot) (e : ℕ) (spot : Spot) (n : ℕ) → Writes spots spots' e spot → n ≢ e → n < length spots → slice_get spots' n ≡ slice_get spots n
spot_kept spots spots' e spot n w ne l = let was = slice_get-get_or spots n spot l in w.others n (get_or spots n spot) ne was ∙ sym was

given_stay : (all all' : List Sockets) (spots spots' : List Spot) (b : Book) (spare spare' : List ℕ) (spot : Spot) (e : ℕ) → IsLinked b → Given all all' spots spots' b spare spare' spot e → AllStay spots spots' b b any
given_stay all all' spots spots' b spare spare' spot e linked g k s t h p =
    let last = spare_last spare spare' e g.items in
    let fan = linked.in_fan k s t h in
    let feeds = linked.in_feeds k s t h in
    record {
      was = h;
      is = h;
      from = spot_kept spots spots' e spot s g.writes (λ same. wired_apart (fan_of b e) (fan_of b s) fan.0 (g.free.no_fan (length spare') e last) (ap (fan_of b) (sym same)) fan.1) (g.tied.spotted s (linked.source k s t h));
      to = spot_kept spots spots' e spot t g.writes (λ same. wired_apart (feeds_of b e) (feeds_of b t) feeds.0 (g.free.no_feeds (length spare') e last) (ap (feeds_of b) (sym same)) feeds.1) (g.tied.spotted t (linked.sink k s t h));
    }

-- what a port with a new end leaves
pub record Kept (all all' : List Sockets) (spots spots' : List Spot) (b : Book) (spare' : List ℕ) : Type 0 where
  pub few : AreFew all → AreFew all'
  pub tied : AreTied all' spots' b
  pub free : AreFree all' b spare'
  pub lines : (k : ℕ) → line_in spots' b k ≡ line_in spots b k
  pub fans : (node outlet : ℕ) → fan_in all' spots' b node outlet ≡ fan_in all spots b node outlet
  pub feeds : (node inlet : ℕ) → feeds_in all' spots' b node inlet ≡ feeds_in all spots b node inlet
  pub ends : (s : Spot) (f : ℕ) → end_at all s ≡ Some f → end_at all' s ≡ Some f

few_still : (all all' : List Sockets) → ((side : Side) (k : ℕ) → jacks_of (ports_at all' side k) ≡ jacks_of (ports_at all side k)) → AreFew all → AreFew all'
few_still all all' same few = λ side k.
    let e = sym (length-map (ports_at all' side k) (λ (p : Port). p.jack)) ∙ ap length (same side k) ∙ length-map (ports_at all side k) (λ (p : Port). p.jack) in
    let h = few side k in
    omega (arith, e, h)

pub given_kept : (all all' : List Sockets) (spots spots' : List Spot) (b : Book) (spare spare' : List ℕ) (spot : Spot) (e : ℕ) → IsLinked b → Given all all' spots spots' b spare spare' spot e → Kept all all' spots spots' b spare'
given_kept all all' spots spots' b spare spare' spot e linked g =
    let stay = given_stay all all' spots spots' b spare spare' spot e linked g in
    record {
      few = few_still all all' g.gives.jacks;
      tied = given_tied all all' spots spots' b spare spare' spot e g;
      free = given_free all all' spots spots' b spare spare' spot e g;
      lines = λ k. lines_stay spots spots' b b any k stay refl tt;
      fans = λ node outlet.
          let s : Spot = record { node = node; side = Outlets; port = outlet } in
          ap (map (to_hop spots' b)) (given_under all all' spots spots' b spare spare' spot e g s).0 ∙ fan_stays spots spots' b b (end_at all s) linked stay;
      feeds = λ node inlet.
          let s : Spot = record { node = node; side = Inlets; port = inlet } in
          ap (map (from_hop spots' b)) (given_under all all' spots spots' b spare spare' spot e g s).1 ∙ feeds_stay spots spots' b b (end_at all s) linked stay;
      ends = λ s f h. elim (cases_spot s spot) [
        | inl same ↦ absurd (none-some f (sym g.none ∙ ap (end_at all) (sym same) ∙ h))
        | inr differ ↦ g.gives.others s differ ∙ h
      ];
    }

-- A wire more.

map_take : (f : ℕ → Hop) (xs : List ℕ) (n : ℕ) → map f (take n xs) ≡ take n (map f xs)
map_take f xs zero = refl
map_take f [] (suc n) = refl
map_take f (x ∷ xs) (suc n) = ap (λ ys. f x ∷ ys) (map_take f xs n)

map_drop : (f : ℕ → Hop) (xs : List ℕ) (n : ℕ) → map f (drop n xs) ≡ drop n (map f xs)
map_drop f xs zero = refl
map_drop f [] (suc n) = refl
map_drop f (x ∷ xs) (suc n) = map_drop f xs n

map_append : (f : ℕ → Hop) (xs ys : List ℕ) → map f (xs ++ ys) ≡ map f xs ++ map f ys
map_append f [] ys = refl
map_append f (x ∷ xs) ys = ap (λ zs. f x ∷ zs) (map_append f xs ys)

map_insert : (f : ℕ → Hop) (xs : List ℕ) (n x : ℕ) → map f (insert xs n x) ≡ insert (map f xs) n (f x)
map_insert f xs n x =
    map_append f (take n xs) (x ∷ drop n xs) ∙ ap (λ ys. ys ++ f x ∷ map f (drop n xs)) (map_take f xs n) ∙ ap (λ ys. take n (map f xs) ++ f x ∷ ys) (map_drop f xs n)

-- the book has a wire more between the ends of the ports of a line
pub record Joined (all : List Sockets) (spots : List Spot) (b b' : Book) (spare : List ℕ) (l : Line) (key source n sink m : ℕ) : Type 0 where
  pub linked : IsLinked b
  pub tied : AreTied all spots b
  pub free : AreFree all b spare
  pub from : end_at all (line_from l) ≡ Some source
  pub to : end_at all (line_to l) ≡ Some sink
  pub adds : Adds b b' key source n sink m

vacant_apart : (b : Book) (key k : ℕ) (p : ℕ × ℕ) → wire_at b key ≡ None → wire_at b k ≡ Some p → k ≢ key
vacant_apart b key k p vacant h = λ e. none-some p (sym vacant ∙ ap (wire_at b) (sym e) ∙ h)

joined_stay : (all : List Sockets) (spots : List Spot) (b b' : Book) (spare : List ℕ) (l : Line) (key source n sink m : ℕ) → Joined all spots b b' spare l key source n sink m → AllStay spots spots b b' any
joined_stay all spots b b' spare l key source n sink m j k s t h p =
    record { was = h; is = j.adds.other_wires k (vacant_apart b key k (s, t) j.adds.was_vacant.1 h) ∙ h; from = refl; to = refl }

joined_to : (all : List Sockets) (spots : List Spot) (b b' : Book) (spare : List ℕ) (l : Line) (key source n sink m : ℕ) → Joined all spots b b' spare l key source n sink m → to_hop spots b' key ≡ hop_at key l.sink l.inlet
joined_to all spots b b' spare l key source n sink m j =
    ap (λ x. hop_by key (slice_get spots x)) (ap sink_in j.adds.wire) ∙ ap (hop_by key) (j.tied.placed (line_to l) sink j.to).told

joined_from : (all : List Sockets) (spots : List Spot) (b b' : Book) (spare : List ℕ) (l : Line) (key source n sink m : ℕ) → Joined all spots b b' spare l key source n sink m → from_hop spots b' key ≡ hop_at key l.source l.outlet
joined_from all spots b b' spare l key source n sink m j =
    ap (λ x. hop_by key (slice_get spots x)) (ap source_in j.adds.wire) ∙ ap (hop_by key) (j.tied.placed (line_from l) source j.from).told

-- two ports with one end are one port
one_spot : (all : List Sockets) (spots : List Spot) (b : Book) (s t : Spot) (e : ℕ) → AreTied all spots b → end_at all s ≡ Some e → end_at all t ≡ Some e → s ≡ t
one_spot all spots b s t e tied h k = same_Some s t (sym (tied.placed s e h).told ∙ (tied.placed t e k).told)

other_fan : (all : List Sockets) (spots : List Spot) (b b' : Book) (spare : List ℕ) (l : Line) (key source n sink m : ℕ) → Joined all spots b b' spare l key source n sink m
    → (s : Spot) (o : Option ℕ) → end_at all s ≡ o → (s ≡ line_from l → ⊥) → fan_under b' o ≡ fan_under b o
other_fan all spots b b' spare l key source n sink m j s None h ne = refl
other_fan all spots b b' spare l key source n sink m j s (Some e) h ne =
    j.adds.other_fans e (λ same. ne (one_spot all spots b s (line_from l) source j.tied (h ∙ ap (λ x. Some x) same) j.from))

other_feeds : (all : List Sockets) (spots : List Spot) (b b' : Book) (spare : List ℕ) (l : Line) (key source n sink m : ℕ) → Joined all spots b b' spare l key source n sink m
    → (s : Spot) (o : Option ℕ) → end_at all s ≡ o → (s ≡ line_to l → ⊥) → feeds_under b' o ≡ feeds_under b o
other_feeds all spots b b' spare l key source n sink m j s None h ne = refl
other_feeds all spots b b' spare l key source n sink m j s (Some e) h ne =
    j.adds.other_feeds e (λ same. ne (one_spot all spots b s (line_to l) sink j.tied (h ∙ ap (λ x. Some x) same) j.to))

-- what a wire more leaves
pub record More (all : List Sockets) (spots : List Spot) (b b' : Book) (spare : List ℕ) (l : Line) (key n m : ℕ) : Type 0 where
  pub tied : AreTied all spots b'
  pub free : AreFree all b' spare
  pub was_vacant : line_in spots b key ≡ None
  pub line : line_in spots b' key ≡ Some l
  pub other_lines : (k : ℕ) → k ≢ key → line_in spots b' k ≡ line_in spots b k
  pub fan : fan_in all spots b' l.source l.outlet ≡ insert (fan_in all spots b l.source l.outlet) n (hop_at key l.sink l.inlet)
  pub other_fans : (node outlet : ℕ) → (node ≡ l.source → outlet ≢ l.outlet) → fan_in all spots b' node outlet ≡ fan_in all spots b node outlet
  pub feeds : feeds_in all spots b' l.sink l.inlet ≡ insert (feeds_in all spots b l.sink l.inlet) m (hop_at key l.source l.outlet)
  pub other_feeds : (node inlet : ℕ) → (node ≡ l.sink → inlet ≢ l.inlet) → feeds_in all spots b' node inlet ≡ feeds_in all spots b node inlet

tied_through : (all : List Sockets) (spots : List Spot) (b b' : Book) → ((e : ℕ) → IsEnd b e → IsEnd b' e) → ((e : ℕ) → IsEnd b' e → IsEnd b e) → AreTied all spots b → AreTied all spots b'
tied_through all spots b b' stay no_more tied = record {
  placed = λ s e h. let a = tied.placed s e h in record { live = stay e a.live; told = a.told };
  spotted = λ e h. tied.spotted e (no_more e h);
}

joined_free : (all : List Sockets) (spots : List Spot) (b b' : Book) (spare : List ℕ) (l : Line) (key source n sink m : ℕ) → Joined all spots b b' spare l key source n sink m → AreFree all b' spare
joined_free all spots b b' spare l key source n sink m j = record {
  live = λ i e h. j.adds.ends e (j.free.live i e h);
  no_fan = λ i e h. j.adds.other_fans e (λ same. j.free.of_no_port i e (line_from l) h (j.from ∙ ap (λ x. Some x) (sym same))) ∙ j.free.no_fan i e h;
  no_feeds = λ i e h. j.adds.other_feeds e (λ same. j.free.of_no_port i e (line_to l) h (j.to ∙ ap (λ x. Some x) (sym same))) ∙ j.free.no_feeds i e h;
  of_no_port = j.free.of_no_port;
  once = j.free.once;
}

pub joined_more : (all : List Sockets) (spots : List Spot) (b b' : Book) (spare : List ℕ) (l : Line) (key source n sink m : ℕ) → Joined all spots b b' spare l key source n sink m → More all spots b b' spare l key n m
joined_more all spots b b' spare l key source n sink m j =
    let stay = joined_stay all spots b b' spare l key source n sink m j in
    let to = joined_to all spots b b' spare l key source n sink m j in
    let from = joined_from all spots b b' spare l key source n sink m j in
    record {
      tied = tied_through all spots b b' j.adds.ends j.adds.no_more_ends j.tied;
      free = joined_free all spots b b' spare l key source n sink m j;
      was_vacant = line_lost spots b key j.adds.was_vacant.1;
      line = ap (option_map (λ _. line_by (from_hop spots b' key) (to_hop spots b' key))) j.adds.wire
          ∙ ap (λ x. Some (line_by x (to_hop spots b' key))) from
          ∙ ap (λ x. Some (line_by (hop_at key l.source l.outlet) x)) to;
      other_lines = λ k ne. lines_stay spots spots b b' any k stay (j.adds.other_wires k ne) tt;
      fan = ap (λ o. map (to_hop spots b') (fan_under b' o)) j.from
          ∙ ap (map (to_hop spots b')) j.adds.fan
          ∙ map_insert (to_hop spots b') (fan_of b source) n key
          ∙ ap (λ xs. insert xs n (to_hop spots b' key)) (fan_stays spots spots b b' (Some source) j.linked stay)
          ∙ ap (insert (map (to_hop spots b) (fan_of b source)) n) to
          ∙ sym (ap (λ o. insert (map (to_hop spots b) (fan_under b o)) n (hop_at key l.sink l.inlet)) j.from);
      other_fans = λ node outlet ne.
          let s : Spot = record { node = node; side = Outlets; port = outlet } in
          ap (map (to_hop spots b')) (other_fan all spots b b' spare l key source n sink m j s (end_at all s) refl (λ h. ne (ap (λ (x : Spot). x.node) h) (ap (λ (x : Spot). x.port) h)))
          ∙ fan_stays spots spots b b' (end_at all s) j.linked stay;
      feeds = ap (λ o. map (from_hop spots b') (feeds_under b' o)) j.to
          ∙ ap (map (from_hop spots b')) j.adds.feeds
          ∙ map_insert (from_hop spots b') (feeds_of b sink) m key
          ∙ ap (λ xs. insert xs m (from_hop spots b' key)) (feeds_stay spots spots b b' (Some sink) j.linked stay)
          ∙ ap (insert (map (from_hop spots b) (feeds_of b sink)) m) from
          ∙ sym (ap (λ o. insert (map (from_hop spots b) (feeds_under b o)) m (hop_at key l.source l.outlet)) j.to);
      other_feeds = λ node inlet ne.
          let s : Spot = record { node = node; side = Inlets; port = inlet } in
          ap (map (from_hop spots b')) (other_feeds all spots b b' spare l key source n sink m j s (end_at all s) refl (λ h. ne (ap (λ (x : Spot). x.node) h) (ap (λ (x : Spot). x.port) h)))
          ∙ feeds_stay spots spots b b' (end_at all s) j.linked stay;
    }

-- A wire less.

key_of : (k : ℕ) (o : Option Spot) → (hop_by k o).key ≡ k
key_of k None = refl
key_of k (Some s) = refl

map_without : (f g : ℕ → Option Spot) (key : ℕ) (xs : List ℕ) → ((i k : ℕ) → slice_get xs i ≡ Some k → k ≢ key → hop_by k (f k) ≡ hop_by k (g k))
    → map (λ k. hop_by k (f k)) (without key xs) ≡ without_hop key (map (λ k. hop_by k (g k)) xs)
map_without f g key [] h = refl
map_without f g key (x ∷ xs) h =
    let rest = map_without f g key xs (λ i k e. h (suc i) k e) in
    let to : ℕ → Hop = λ k. hop_by k (f k) in
    let was : ℕ → Hop = λ k. hop_by k (g k) in
    elim (cases_eq x key) [
      | inl same ↦
          let yes = eq-eqb x key same in
          let too = ap (λ n. n == key) (key_of x (g x)) ∙ yes in
          ap (λ v. map to (cond (not v) (x ∷ without key xs) (without key xs))) yes ∙ rest
          ∙ sym (ap (λ v. cond (not v) (was x ∷ without_hop key (map was xs)) (without_hop key (map was xs))) too)
      | inr differ ↦
          let no = ne_eqb x key differ in
          let too = ap (λ n. n == key) (key_of x (g x)) ∙ no in
          ap (λ v. map to (cond (not v) (x ∷ without key xs) (without key xs))) no
          ∙ ap (λ y. y ∷ map to (without key xs)) (h zero x refl differ)
          ∙ ap (λ ys. was x ∷ ys) rest
          ∙ sym (ap (λ v. cond (not v) (was x ∷ without_hop key (map was xs)) (without_hop key (map was xs))) too)
    ]

-- the book has this wire no more
pub record Lost (all : List Sockets) (spots : List Spot) (b b' : Book) (spare : List ℕ) (key : ℕ) : Type 0 where
  pub linked : IsLinked b
  pub tied : AreTied all spots b
  pub free : AreFree all b spare
  pub wire : wire_at b' key ≡ None
  pub other_wires : (k : ℕ) → k ≢ key → wire_at b' k ≡ wire_at b k
  pub fans : (e : ℕ) → fan_of b' e ≡ without key (fan_of b e)
  pub feeds : (e : ℕ) → feeds_of b' e ≡ without key (feeds_of b e)
  pub ends : (e : ℕ) → IsEnd b e → IsEnd b' e
  pub no_more_ends : (e : ℕ) → IsEnd b' e → IsEnd b e

lost_stay : (all : List Sockets) (spots : List Spot) (b b' : Book) (spare : List ℕ) (key : ℕ) → Lost all spots b b' spare key → AllStay spots spots b b' (other_than key)
lost_stay all spots b b' spare key l k s t h ne = record { was = h; is = l.other_wires k ne ∙ h; from = refl; to = refl }

lost_fan : (all : List Sockets) (spots : List Spot) (b b' : Book) (spare : List ℕ) (key : ℕ) (o : Option ℕ) → Lost all spots b b' spare key → map (to_hop spots b') (fan_under b' o) ≡ without_hop key (map (to_hop spots b) (fan_under b o))
lost_fan all spots b b' spare key None l = refl
lost_fan all spots b b' spare key (Some e) l =
    ap (map (to_hop spots b')) (l.fans e)
    ∙ map_without (λ k. slice_get spots (sink_at b' k)) (λ k. slice_get spots (sink_at b k)) key (fan_of b e) (λ i k h ne.
    let p = pair_at (wire_at b k) (fan_wire b (Some e) i k l.linked h) in to_stays spots spots b b' k p.0 p.1 (lost_stay all spots b b' spare key l k p.0 p.1 p.2 ne))

lost_feeds : (all : List Sockets) (spots : List Spot) (b b' : Book) (spare : List ℕ) (key : ℕ) (o : Option ℕ) → Lost all spots b b' spare key → map (from_hop spots b') (feeds_under b' o) ≡ without_hop key (map (from_hop spots b) (feeds_under b o))
lost_feeds all spots b b' spare key None l = refl
lost_feeds all spots b b' spare key (Some e) l =
    ap (map (from_hop spots b')) (l.feeds e)
    ∙ map_without (λ k. slice_get spots (source_at b' k)) (λ k. slice_get spots (source_at b k)) key (feeds_of b e) (λ i k h ne.
    let p = pair_at (wire_at b k) (feed_wire b (Some e) i k l.linked h) in from_stays spots spots b b' k p.0 p.1 (lost_stay all spots b b' spare key l k p.0 p.1 p.2 ne))

none_without : (key : ℕ) (xs : List ℕ) → xs ≡ [] → without key xs ≡ []
none_without key xs h = ap (without key) h

-- what a wire less leaves
pub record Less (all : List Sockets) (spots : List Spot) (b b' : Book) (spare : List ℕ) (key : ℕ) : Type 0 where
  pub tied : AreTied all spots b'
  pub free : AreFree all b' spare
  pub line : line_in spots b' key ≡ None
  pub other_lines : (k : ℕ) → k ≢ key → line_in spots b' k ≡ line_in spots b k
  pub fans : (node outlet : ℕ) → fan_in all spots b' node outlet ≡ without_hop key (fan_in all spots b node outlet)
  pub feeds : (node inlet : ℕ) → feeds_in all spots b' node inlet ≡ without_hop key (feeds_in all spots b node inlet)

pub lost_less : (all : List Sockets) (spots : List Spot) (b b' : Book) (spare : List ℕ) (key : ℕ) → Lost all spots b b' spare key → Less all spots b b' spare key
lost_less all spots b b' spare key l = record {
  tied = tied_through all spots b b' l.ends l.no_more_ends l.tied;
  free = record {
    live = λ i e h. l.ends e (l.free.live i e h);
    no_fan = λ i e h. l.fans e ∙ none_without key (fan_of b e) (l.free.no_fan i e h);
    no_feeds = λ i e h. l.feeds e ∙ none_without key (feeds_of b e) (l.free.no_feeds i e h);
    of_no_port = l.free.of_no_port;
    once = l.free.once;
  };
  line = line_lost spots b' key l.wire;
  other_lines = λ k ne. lines_stay spots spots b b' (other_than key) k (lost_stay all spots b b' spare key l) (l.other_wires k ne) ne;
  fans = λ node outlet. lost_fan all spots b b' spare key (end_under all Outlets node outlet) l;
  feeds = λ node inlet. lost_feeds all spots b b' spare key (end_under all Inlets node inlet) l;
}

-- a key with a line is a wire's
pub wire_of_line : (spots : List Spot) (b : Book) (k : ℕ) → IsSome (line_in spots b k) → IsWire b k
wire_of_line spots b k h = mapped (wire_at b k) (line_by (from_hop spots b k) (to_hop spots b k)) h
  where
    mapped : (o : Option (ℕ × ℕ)) (l : Line) → IsSome (option_map (λ _. l) o) → IsSome o
    mapped None l h = h
    mapped (Some p) l h = refl

-- the key of each hop
pub keys_told : (where_to : ℕ → Option Spot) (xs : List ℕ) → map (λ (h : Hop). h.key) (map (λ k. hop_by k (where_to k)) xs) ≡ xs
keys_told where_to [] = refl
keys_told where_to (x ∷ xs) = ap (λ n. n ∷ map (λ (h : Hop). h.key) (map (λ k. hop_by k (where_to k)) xs)) (key_of x (where_to x)) ∙ ap (λ ys. x ∷ ys) (keys_told where_to xs)

-- the same hops have the same keys
pub same_keys : (f g : ℕ → Option Spot) (xs ys : List ℕ) → map (λ k. hop_by k (f k)) xs ≡ map (λ k. hop_by k (g k)) ys → xs ≡ ys
same_keys f g xs ys h = sym (keys_told f xs) ∙ ap (map (λ (x : Hop). x.key)) h ∙ keys_told g ys

pub fan_keys_same : (w w' : Web) (node outlet : ℕ) → fan_hops w' node outlet ≡ fan_hops w node outlet → fan_keys w' node outlet ≡ fan_keys w node outlet
fan_keys_same w w' node outlet h =
    same_keys (λ k. slice_get w'.spots.items (sink_at w'.book k)) (λ k. slice_get w.spots.items (sink_at w.book k)) (fan_keys w' node outlet) (fan_keys w node outlet) h

pub feed_keys_same : (w w' : Web) (node inlet : ℕ) → feed_hops w' node inlet ≡ feed_hops w node inlet → feed_keys w' node inlet ≡ feed_keys w node inlet
feed_keys_same w w' node inlet h =
    same_keys (λ k. slice_get w'.spots.items (source_at w'.book k)) (λ k. slice_get w.spots.items (source_at w.book k)) (feed_keys w' node inlet) (feed_keys w node inlet) h

pub same_none : (w : Web) → IsSame w w
same_none w = record { kept = record { ports = λ side k. refl; made = λ k. refl; homes = λ j. refl }; lines = λ k. refl; fans = λ n o. refl; feeds = λ n i. refl }

pub same_more : (a b c : Web) → IsSame a b → IsSame b c → IsSame a c
same_more a b c s t = record {
  kept = record {
    ports = λ side k. t.kept.ports side k ∙ s.kept.ports side k;
    made = λ k. t.kept.made k ∙ s.kept.made k;
    homes = λ j. t.kept.homes j ∙ s.kept.homes j;
  };
  lines = λ k. t.lines k ∙ s.lines k;
  fans = λ n o. t.fans n o ∙ s.fans n o;
  feeds = λ n i. t.feeds n i ∙ s.feeds n i;
}

pub there_still : (all all' : List Sockets) (s : Spot) → ((side : Side) (k : ℕ) → jacks_of (ports_at all' side k) ≡ jacks_of (ports_at all side k)) → IsThere all s → IsThere all' s
there_still all all' s same h =
    let a = length-map (ports_at all' s.side s.node) (λ (p : Port). p.jack) in
    let b = length-map (ports_at all s.side s.node) (λ (p : Port). p.jack) in
    let e = ap length (same s.side s.node) in
    omega (arith, a, b, e, h)

-- the list of an end, where its port's is known
pub stands_along : (xs ys : List ℕ) (place : ℕ) (next : Option ℕ) → xs ≡ ys → StandsAt xs place next → StandsAt ys place next
stands_along xs ys place next e h = let P : List ℕ → Type 0 = λ zs. StandsAt zs place next in subst P e h

pub line_none : (spots : List Spot) (b : Book) (k : ℕ) → is_some (wire_at b k) ≡ false → None ≡ line_in spots b k
line_none spots b k h = mapped (wire_at b k) (line_by (from_hop spots b k) (to_hop spots b k)) h
  where
    mapped : (o : Option (ℕ × ℕ)) (l : Line) → is_some o ≡ false → None ≡ option_map (λ _. l) o
    mapped None l h = refl
    mapped (Some p) l h = absurd (true≢false h)

pub line_some : (spots : List Spot) (b : Book) (k : ℕ) (from to : Hop) → IsWire b k → from ≡ from_hop spots b k → to ≡ to_hop spots b k → Some (line_by from to) ≡ line_in spots b k
line_some spots b k from to wire e f =
    ap (λ x. Some (line_by x to)) e ∙ ap (λ x. Some (line_by (from_hop spots b k) x)) f ∙ mapped (wire_at b k) (line_by (from_hop spots b k) (to_hop spots b k)) wire
  where
    mapped : (o : Option (ℕ × ℕ)) (l : Line) → IsSome o → Some l ≡ option_map (λ _. l) o
    mapped None l h = absurd (true≢false (sym h))
    mapped (Some p) l h = refl

-- one of those set aside can be taken where there is one
pub none_left : (n : ℕ) (o : Option ℕ) → 0 < n → o ≡ None → (0 < n → IsSome o) → ⊥
none_left n o some none says = true≢false (sym (says some) ∙ ap is_some none)

pub last_live : (all : List Sockets) (b : Book) (spare spare' : List ℕ) (e : ℕ) → AreFree all b spare → spare ≡ spare' ++ e ∷ [] → IsEnd b e
last_live all b spare spare' e free h = free.live (length spare') e (spare_last spare spare' e h)

pub fewer_left : (spare spare' : List ℕ) (e : ℕ) → spare ≡ spare' ++ e ∷ [] → length spare ≡ length spare' + 1
fewer_left spare spare' e h = ap length h ∙ length-append spare' (e ∷ [])

pub none_free : (all : List Sockets) (b : Book) → AreFree all b []
none_free all b = record {
  live = λ i e h. absurd (none-some e h);
  no_fan = λ i e h. absurd (none-some e h);
  no_feeds = λ i e h. absurd (none-some e h);
  of_no_port = λ i e s h. absurd (none-some e h);
  once = λ i j e h. absurd (none-some e h);
}

-- the fan-out of a port with this end, after room was taken for it
pub fan_along : (w w' : Web) (l : Line) (e : ℕ) → IsSame w w' → end_at w'.sockets.items (line_from l) ≡ Some e → fan_keys w l.source l.outlet ≡ fan_of w'.book e
fan_along w w' l e same at = sym (fan_keys_same w w' l.source l.outlet (same.fans l.source l.outlet)) ∙ ap (fan_under w'.book) at

pub feeds_along : (w w' : Web) (l : Line) (e : ℕ) → IsSame w w' → end_at w'.sockets.items (line_to l) ≡ Some e → feed_keys w l.sink l.inlet ≡ feeds_of w'.book e
feeds_along w w' l e same at = sym (feed_keys_same w w' l.sink l.inlet (same.feeds l.sink l.inlet)) ∙ ap (feeds_under w'.book) at

-- behind the last there is nothing
pub stands_last : (xs : List ℕ) → StandsAt xs (length xs) None
stands_last xs = (omega arith, slice_get_past xs (length xs) (omega arith))

-- The wire of a hop that is listed.

fan_line : (all : List Sockets) (spots : List Spot) (b : Book) (s : Spot) (o : Option ℕ) (i : ℕ) (h : Hop) → AreTied all spots b → IsLinked b → end_at all s ≡ o → slice_get (map (to_hop spots b) (fan_under b o)) i ≡ Some h
    → line_in spots b h.key ≡ Some (line_by (hop_at h.key s.node s.port) h)
fan_line all spots b s None i h tied linked at x = absurd (none-some h x)
fan_line all spots b s (Some e) i h tied linked at x =
    let f : ℕ → Hop = to_hop spots b in
    let listed = key_listed (λ k. slice_get spots (sink_at b k)) (fan_of b e) i h x in
    let w = fan_listed b e i h.key linked listed in
    let to : f h.key ≡ h = same_Some (f h.key) h (sym (ap (option_map f) listed) ∙ sym (slice_get-map f (fan_of b e) i) ∙ x) in
    let from : from_hop spots b h.key ≡ hop_at h.key s.node s.port = ap (λ n. hop_by h.key (slice_get spots n)) (ap source_in w.1) ∙ ap (hop_by h.key) (tied.placed s e at).told in
    ap (option_map (λ _. line_by (from_hop spots b h.key) (to_hop spots b h.key))) w.1
    ∙ ap (λ y. Some (line_by y (to_hop spots b h.key))) from
    ∙ ap (λ y. Some (line_by (hop_at h.key s.node s.port) y)) to

feed_line : (all : List Sockets) (spots : List Spot) (b : Book) (s : Spot) (o : Option ℕ) (i : ℕ) (h : Hop) → AreTied all spots b → IsLinked b → end_at all s ≡ o → slice_get (map (from_hop spots b) (feeds_under b o)) i ≡ Some h
    → line_in spots b h.key ≡ Some (line_by h (hop_at h.key s.node s.port))
feed_line all spots b s None i h tied linked at x = absurd (none-some h x)
feed_line all spots b s (Some e) i h tied linked at x =
    let f : ℕ → Hop = from_hop spots b in
    let listed = key_listed (λ k. slice_get spots (source_at b k)) (feeds_of b e) i h x in
    let w = feed_listed b e i h.key linked listed in
    let from : f h.key ≡ h = same_Some (f h.key) h (sym (ap (option_map f) listed) ∙ sym (slice_get-map f (feeds_of b e) i) ∙ x) in
    let to : to_hop spots b h.key ≡ hop_at h.key s.node s.port = ap (λ n. hop_by h.key (slice_get spots n)) (ap sink_in w.1) ∙ ap (hop_by h.key) (tied.placed s e at).told in
    ap (option_map (λ _. line_by (from_hop spots b h.key) (to_hop spots b h.key))) w.1
    ∙ ap (λ y. Some (line_by y (to_hop spots b h.key))) from
    ∙ ap (λ y. Some (line_by h y)) to

pub fan_hop_line : (w : Web) (node outlet i : ℕ) (h : Hop) → IsLinked w.book → slice_get (fan_hops w node outlet) i ≡ Some h → line_told w h.key ≡ Some (line_by (hop_at h.key node outlet) h)
fan_hop_line w node outlet i h linked x =
    let s : Spot = record { node = node; side = Outlets; port = outlet } in
    fan_line w.sockets.items w.spots.items w.book s (end_at w.sockets.items s) i h w.tied linked refl x

pub feed_hop_line : (w : Web) (node inlet i : ℕ) (h : Hop) → IsLinked w.book → slice_get (feed_hops w node inlet) i ≡ Some h → line_told w h.key ≡ Some (line_by h (hop_at h.key node inlet))
feed_hop_line w node inlet i h linked x =
    let s : Spot = record { node = node; side = Inlets; port = inlet } in
    feed_line w.sockets.items w.spots.items w.book s (end_at w.sockets.items s) i h w.tied linked refl x

-- A key stands once in a list.

alike : (xs : List ℕ) (i j k d : ℕ) → ((i j : ℕ) → i ≢ j → i < length xs → j < length xs → get_or xs i d ≢ get_or xs j d) → slice_get xs i ≡ Some k → slice_get xs j ≡ Some k → i ≡ j
alike xs i j k d once p q = elim (cases_eq i j) [
  | inl same ↦ same
  | inr differ ↦
      absurd (once i j differ (slice_get_within xs i k p) (slice_get_within xs j k q) (get_or_from_slice_get xs i k d p ∙ sym (get_or_from_slice_get xs j k d q)))
]

pub fan_once : (b : Book) (o : Option ℕ) (i j k : ℕ) → IsLinked b → slice_get (fan_under b o) i ≡ Some k → slice_get (fan_under b o) j ≡ Some k → i ≡ j
fan_once b None i j k linked p q = absurd (none-some k p)
fan_once b (Some e) i j k linked p q = alike (fan_of b e) i j k e (linked.once e) p q

pub fed_once : (b : Book) (o : Option ℕ) (i j k : ℕ) → IsLinked b → slice_get (feeds_under b o) i ≡ Some k → slice_get (feeds_under b o) j ≡ Some k → i ≡ j
fed_once b None i j k linked p q = absurd (none-some k p)
fed_once b (Some e) i j k linked p q = alike (feeds_of b e) i j k e (linked.once_fed e) p q
