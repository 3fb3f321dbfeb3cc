-- Which box is which port.
use Rattle.std.proofs.Common.{◌≡◌, ◌≢◌, ◌⊎◌, ℕ, ℤ, zero, suc, ◌+◌, ◌<◌, ◌≤◌, Bool, true, false, cond, int_lt, List, [], ◌∷◌, ◌++◌, map, length, get_or, take, slice_get, Option, Some, None, IsSome, is_some, refl, sym, ap, ◌∙◌, subst, inl, inr, true≢false, arith}
use Rattle.std.specs.Prelude.{option_map, option_and_then}
use Rattle.std.proofs.lemmas.Bool.{cases_eq, cases_lt}
use Rattle.std.proofs.lemmas.List.{get_or_past, take_more, length-take-le, length_push}
use Rattle.std.proofs.lemmas.Option.{none-some, same_Some, slice_get-get_or, slice_get_past, some_pair_parts}
use Rattle.slab.specs.Slab.{Slab, get}
use Rattle.pd_object.specs.declared.kinds.Kind.{Kind}
use Rattle.pd_grove.specs.declared.nodes.Node.{Node}
use Rattle.pd_grove.specs.declared.grove.Grove.{Grove}
use Rattle.pd_grove.specs.declared.ports.Side.{Side}
use Rattle.pd_grove.specs.declared.ports.Side.TheVariants.{Inlets, Outlets}
use Rattle.pd_grove.specs.declared.ports.PortSpot.{PortSpot}
use Rattle.pd_grove.specs.Ports.{port_signal, spot_by, spot_at, spot_placed, with_spot, ports_among}
use Rattle.pd_grove.specs.Telling.{keys_in}
use Rattle.pd_web.specs.declared.jacks.Jack.{Jack}
use Rattle.pd_web.specs.declared.sockets.Port.{Port}
use Rattle.pd_web.specs.declared.sockets.Sockets.{Sockets}
use Rattle.pd_web.specs.declared.sockets.Spot.{Spot}
use Rattle.pd_web.specs.Jacks.{plain_jack, spot_jack, jacks_by, jacks_in, jacks_at}
use Rattle.pd_web.specs.Sockets.{side_ports, ports_at, ports_in, jacks_of}
use Rattle.pd_web.specs.Homes.{inner_in, IsPortOf, home_at, inner_of, inner_at, IsPort, IsAmong, IsOf, Settles, AreNear, AreTrue, AreKnown}
use Rattle.pd_web.specs.Hops.{place_of}
use Rattle.pd_web.proofs.SocketLemmas.{push_below, push_at}
use Rattle.pd_web.proofs.EndLemmas.{spot_same}

is_from : {X : Type 0} (o : Option X) (x : X) → o ≡ Some x → IsSome o
is_from o x h = ap is_some h

-- where there is no port nothing is written
settles_none : (homes : List (Option Spot)) (Is : Spot → ℕ → Type 0) → ((s : Spot) (j : ℕ) → Is s j → ⊥) → Settles homes homes Is
settles_none homes Is never = record { told = λ j s h. inl h; found = λ j s i l. absurd (never s j i); kept = λ j h. h; far = refl }

-- some ports and then others
settles_more : (a b c : List (Option Spot)) (P Q R : Spot → ℕ → Type 0) → Settles a b P → Settles b c Q → ((s : Spot) (j : ℕ) → P s j → R s j) → ((s : Spot) (j : ℕ) → Q s j → R s j)
    → ((s : Spot) (j : ℕ) → R s j → P s j ⊎ Q s j) → Settles a c R
settles_more a b c P Q R first then left right parts = record {
  told = λ j s h. elim (then.told j s h) [
    | inl u ↦ elim (first.told j s u) [
      | inl v ↦ inl v
      | inr w ↦ inr (left s j w)
    ]
    | inr v ↦ inr (right s j v)
  ];
  found = λ j s i l. elim (parts s j i) [
    | inl u ↦ then.kept j (first.found j s u l)
    | inr v ↦ let f = first.far in then.found j s v (omega (arith, f, l))
  ];
  kept = λ j h. then.kept j (first.kept j h);
  far = then.far ∙ first.far;
}

-- what writing one home does
pub record Puts (homes homes' : List (Option Spot)) (n : ℕ) (spot : Spot) : Type 0 where
  pub is : n < length homes → home_at homes' n ≡ Some spot
  pub others : (j : ℕ) → j ≢ n → home_at homes' j ≡ home_at homes j
  pub past : length homes ≤ n → homes' ≡ homes
  pub far : length homes' ≡ length homes

put_told : (homes homes' : List (Option Spot)) (spot : Spot) (inner : Option ℕ) (n : ℕ) → inner ≡ Some n → Puts homes homes' n spot
    → (j : ℕ) (s : Spot) → home_at homes' j ≡ Some s → (home_at homes j ≡ Some s) ⊎ IsPort spot inner s j
put_told homes homes' spot inner n at puts j s h = elim (cases_eq j n) [
  | inl same ↦ elim (cases_lt n (length homes)) [
    | inl l ↦ inr (record { same = sym (same_Some spot s (sym (puts.is l) ∙ ap (home_at homes') (sym same) ∙ h)); inner = at ∙ ap (λ x. Some x) (sym same) })
    | inr l ↦ inl (ap (λ (xs : List (Option Spot)). home_at xs j) (sym (puts.past l)) ∙ h)
  ]
  | inr differ ↦ inl (sym (puts.others j differ) ∙ h)
]

put_found : (homes homes' : List (Option Spot)) (spot : Spot) (inner : Option ℕ) (n : ℕ) → inner ≡ Some n → Puts homes homes' n spot
    → (j : ℕ) (s : Spot) → IsPort spot inner s j → j < length homes → IsSome (home_at homes' j)
put_found homes homes' spot inner n at puts j s i l =
    let e : n ≡ j = same_Some n j (sym at ∙ i.inner) in
    is_from (home_at homes' j) spot (ap (home_at homes') (sym e) ∙ puts.is (omega (arith, e, l)))

put_kept : (homes homes' : List (Option Spot)) (n : ℕ) (spot : Spot) → Puts homes homes' n spot → (j : ℕ) → IsSome (home_at homes j) → IsSome (home_at homes' j)
put_kept homes homes' n spot puts j h = elim (cases_eq j n) [
  | inl same ↦ elim (cases_lt n (length homes)) [
    | inl l ↦ is_from (home_at homes' j) spot (ap (home_at homes') same ∙ puts.is l)
    | inr l ↦ let P : List (Option Spot) → Type 0 = λ xs. IsSome (home_at xs j) in subst P (sym (puts.past l)) h
  ]
  | inr differ ↦ let P : Option Spot → Type 0 = λ o. IsSome o in subst P (sym (puts.others j differ)) h
]

pub settles_put : (homes homes' : List (Option Spot)) (spot : Spot) (inner : Option ℕ) (n : ℕ) → inner ≡ Some n → Puts homes homes' n spot → Settles homes homes' (IsPort spot inner)
settles_put homes homes' spot inner n at puts = record {
  told = put_told homes homes' spot inner n at puts;
  found = put_found homes homes' spot inner n at puts;
  kept = put_kept homes homes' n spot puts;
  far = puts.far;
}

-- a port that no box is
pub settles_plain : (homes : List (Option Spot)) (spot : Spot) (inner : Option ℕ) → inner ≡ None → Settles homes homes (IsPort spot inner)
settles_plain homes spot inner at = settles_none homes (IsPort spot inner) (λ s j i. none-some j (sym at ∙ i.inner))

pub settles_no_ports : (homes : List (Option Spot)) (side : Side) (k : ℕ) (ports : List Port) → ports ≡ [] → Settles homes homes (IsAmong side k ports)
settles_no_ports homes side k ports h = settles_none homes (IsAmong side k ports) (λ s j i. none-some j (ap (λ (ps : List Port). inner_of ps s.port) (sym h) ∙ i.inner))

inner_within : (ports : List Port) (n j : ℕ) → inner_of ports n ≡ Some j → n < length ports
inner_within ports n j h = elim (cases_lt n (length ports)) [
  | inl l ↦ l
  | inr l ↦ absurd (none-some j (sym (ap (option_and_then (λ (p : Port). p.jack.inner)) (slice_get_past ports n l)) ∙ h))
]

inner_below : (ports : List Port) (p : Port) (n : ℕ) → n < length ports → inner_of (ports ++ p ∷ []) n ≡ inner_of ports n
inner_below ports p n l = ap (option_and_then (λ (q : Port). q.jack.inner)) (push_below ports p n l)

inner_last : (ports : List Port) (p : Port) (n : ℕ) → length ports ≡ n → inner_of (ports ++ p ∷ []) n ≡ p.jack.inner
inner_last ports p n l = ap (option_and_then (λ (q : Port). q.jack.inner)) (push_at ports p n l)

among_kept : (side : Side) (k : ℕ) (ports : List Port) (p : Port) (s : Spot) (j : ℕ) → IsAmong side k ports s j → IsAmong side k (ports ++ p ∷ []) s j
among_kept side k ports p s j a = record { side = a.side; node = a.node; inner = inner_below ports p s.port (inner_within ports s.port j a.inner) ∙ a.inner }

among_last : (side : Side) (k : ℕ) (ports : List Port) (p : Port) (n : ℕ) → length ports ≡ n → (s : Spot) (j : ℕ) → IsPort (record { node = k; side = side; port = n }) p.jack.inner s j → IsAmong side k (ports ++ p ∷ []) s j
among_last side k ports p n l s j i = record {
  side = ap (λ (x : Spot). x.side) i.same;
  node = ap (λ (x : Spot). x.node) i.same;
  inner = ap (λ (x : Spot). inner_of (ports ++ p ∷ []) x.port) i.same ∙ inner_last ports p n l ∙ i.inner;
}

among_parts : (side : Side) (k : ℕ) (ports : List Port) (p : Port) (n : ℕ) → length ports ≡ n → (s : Spot) (j : ℕ) → IsAmong side k (ports ++ p ∷ []) s j
    → IsAmong side k ports s j ⊎ IsPort (record { node = k; side = side; port = n }) p.jack.inner s j
among_parts side k ports p n l s j a = elim (cases_lt s.port n) [
  | inl u ↦ inl (record { side = a.side; node = a.node; inner = sym (inner_below ports p s.port (omega (arith, l, u))) ∙ a.inner })
  | inr v ↦
      let w = inner_within (ports ++ p ∷ []) s.port j a.inner in
      let m = length_push ports p in
      let e : s.port ≡ n = omega (arith, l, v, w, m) in
      inr (record {
        same = spot_same s (record { node = k; side = side; port = n }) a.node a.side e;
        inner = sym (inner_last ports p n l) ∙ ap (inner_of (ports ++ p ∷ [])) (sym e) ∙ a.inner;
      })
]

-- a port more on a side
pub settles_port : (a b c : List (Option Spot)) (side : Side) (k : ℕ) (ports : List Port) (i : ℕ) (d : Port) → i < length ports → Settles a b (IsAmong side k (take i ports))
    → Settles b c (IsPort (record { node = k; side = side; port = i }) (get_or ports i d).jack.inner) → Settles a c (IsAmong side k (take (i + 1) ports))
settles_port a b c side k ports i d l first then =
    let P : List Port → Type 0 = λ ps. Settles a c (IsAmong side k ps) in
    let n = length-take-le i ports (omega (arith, l)) in
    let p = get_or ports i d in
    subst P (sym (take_more ports i d l))
    (settles_more a b c (IsAmong side k (take i ports)) (IsPort (record { node = k; side = side; port = i }) p.jack.inner) (IsAmong side k (take i ports ++ p ∷ [])) first then
    (among_kept side k (take i ports) p) (among_last side k (take i ports) p i n) (among_parts side k (take i ports) p i n))

side_cases : (s : Side) → (s ≡ Inlets) ⊎ (s ≡ Outlets)
side_cases Inlets = inl refl
side_cases Outlets = inr refl

inner_on : (own : Sockets) (side s : Side) (n : ℕ) → s ≡ side → inner_of (side_ports s own) n ≡ inner_of (side_ports side own) n
inner_on own side s n h = ap (λ x. inner_of (side_ports x own) n) h

-- the ports of both sides of a box
pub settles_both : (a b c : List (Option Spot)) (own : Sockets) (k : ℕ) → Settles a b (IsAmong Inlets k own.inlets.items) → Settles b c (IsAmong Outlets k own.outlets.items) → Settles a c (IsOf own k)
settles_both a b c own k first then =
    settles_more a b c (IsAmong Inlets k own.inlets.items) (IsAmong Outlets k own.outlets.items) (IsOf own k) first then
    (λ s j i. record { node = i.node; inner = inner_on own Inlets s.side s.port i.side ∙ i.inner })
    (λ s j i. record { node = i.node; inner = inner_on own Outlets s.side s.port i.side ∙ i.inner })
    (λ s j i. elim (side_cases s.side) [
      | inl u ↦ inl (record { side = u; node = i.node; inner = sym (inner_on own Inlets s.side s.port u) ∙ i.inner })
      | inr v ↦ inr (record { side = v; node = i.node; inner = sym (inner_on own Outlets s.side s.port v) ∙ i.inner })
    ])

inner_box : (all : List Sockets) (own : Sockets) (k : ℕ) (s : Spot) → slice_get all k ≡ Some own → s.node ≡ k → inner_at all s ≡ inner_of (side_ports s.side own) s.port
inner_box all own k s at h = ap (λ n. inner_of (ports_at all s.side n) s.port) h ∙ ap (λ o. inner_of (ports_in s.side o) s.port) at

pub true_more : (all : List Sockets) (own : Sockets) (k : ℕ) (homes homes' : List (Option Spot)) → slice_get all k ≡ Some own → Settles homes homes' (IsOf own k) → AreTrue all homes → AreTrue all homes'
true_more all own k homes homes' at settles told = λ j s h. elim (settles.told j s h) [
  | inl u ↦ told j s u
  | inr v ↦ inner_box all own k s at v.node ∙ v.inner
]

pub known_more : (all : List Sockets) (own : Sockets) (n : ℕ) (homes homes' : List (Option Spot)) → slice_get all n ≡ Some own → Settles homes homes' (IsOf own n) → AreNear all → length homes ≡ length all
    → AreKnown all homes n → AreKnown all homes' (n + 1)
known_more all own n homes homes' at settles near far known = λ s j l inner. elim (cases_lt s.node n) [
  | inl u ↦ settles.kept j (known s j u inner)
  | inr v ↦
      let e : s.node ≡ n = omega (arith, l, v) in
      let m = near s j inner in
      settles.found j s (record { node = e; inner = sym (inner_box all own n s at e) ∙ inner }) (omega (arith, far, m))
]

-- every box that is a port lives
AllLive : (ℕ → Option Node) → List PortSpot → Type 0
AllLive nodes [] = Unit {0}
AllLive nodes (s ∷ ss) = IsSome (nodes s.node) × AllLive nodes ss

live_cond : (nodes : ℕ → Option Node) (b : Bool) (p q : PortSpot) (placed qs : List PortSpot) → IsSome (nodes p.node) → IsSome (nodes q.node) → AllLive nodes qs → AllLive nodes placed → AllLive nodes (cond b (q ∷ placed) (p ∷ q ∷ qs))
unfolding AllLive
live_cond nodes true p q placed qs hp hq hs t = (hq, t)
live_cond nodes false p q placed qs hp hq hs t = (hp, (hq, hs))

live_placed : (nodes : ℕ → Option Node) (p : PortSpot) (qs : List PortSpot) → IsSome (nodes p.node) → AllLive nodes qs → AllLive nodes (spot_placed p qs)
unfolding AllLive
live_placed nodes p [] h t = (h, tt)
live_placed nodes p (q ∷ qs) h t = live_cond nodes (int_lt q.x p.x) p q (spot_placed p qs) qs h t.0 t.1 (live_placed nodes p qs h t.1)

live_with : (nodes : ℕ → Option Node) (o : Option PortSpot) (qs : List PortSpot) → ((s : PortSpot) → o ≡ Some s → IsSome (nodes s.node)) → AllLive nodes qs → AllLive nodes (with_spot o qs)
live_with nodes None qs h t = t
live_with nodes (Some s) qs h t = live_placed nodes s qs (h s refl) t

by_key : (nodes : ℕ → Option Node) (k : ℕ) (x : ℤ) (o : Option Bool) (s : PortSpot) → IsSome (nodes k) → spot_by k x o ≡ Some s → IsSome (nodes s.node)
by_key nodes k x None s l h = absurd (none-some s h)
by_key nodes k x (Some b) s l h =
    let P : ℕ → Type 0 = λ n. IsSome (nodes n) in
    subst P (ap (λ (y : PortSpot). y.node) (same_Some (record { node = k; x = x; is_signal = b }) s h)) l

spot_live : (nodes : ℕ → Option Node) (side : Side) (k : ℕ) (o : Option Node) (s : PortSpot) → nodes k ≡ o → option_and_then (λ (n : Node). spot_by k n.element.x (port_signal side n.kind)) o ≡ Some s → IsSome (nodes s.node)
spot_live nodes side k None s e h = absurd (none-some s h)
spot_live nodes side k (Some n) s e h = by_key nodes k n.element.x (port_signal side n.kind) s (is_from (nodes k) n e) h

ports_live : (nodes : ℕ → Option Node) (side : Side) (keys : List ℕ) → AllLive nodes (ports_among side nodes keys)
unfolding AllLive
ports_live nodes side [] = tt
ports_live nodes side (k ∷ ks) = live_with nodes (spot_at side nodes k) (ports_among side nodes ks) (λ s h. spot_live nodes side k (nodes k) s refl h) (ports_live nodes side ks)

inner_spot : (nodes : ℕ → Option Node) (spots : List PortSpot) (i j : ℕ) → AllLive nodes spots → inner_in (slice_get (map spot_jack spots) i) ≡ Some j → IsSome (nodes j)
unfolding AllLive
inner_spot nodes [] i j t h = absurd (none-some j h)
inner_spot nodes (s ∷ ss) zero j t h = let P : ℕ → Type 0 = λ n. IsSome (nodes n) in subst P (same_Some s.node j h) t.0
inner_spot nodes (s ∷ ss) (suc i) j t h = inner_spot nodes ss i j t.1 h

inner_plain : (bs : List Bool) (i j : ℕ) → inner_in (slice_get (map plain_jack bs) i) ≡ Some j → ⊥
inner_plain [] i j h = none-some j h
inner_plain (b ∷ bs) zero j h = none-some j h
inner_plain (b ∷ bs) (suc i) j h = inner_plain bs i j h

inner_by : (side : Side) (g : Grove) (kind : Kind) (o : Option ℕ) (i j : ℕ) → inner_in (slice_get (jacks_by side g kind o) i) ≡ Some j → IsSome (get g.nodes j)
inner_by side g kind None i j h = absurd (inner_plain _ i j h)
inner_by side g kind (Some c) i j h = inner_spot (get g.nodes) (ports_among side (get g.nodes) (keys_in (get g.boards c))) i j (ports_live (get g.nodes) side (keys_in (get g.boards c))) h

inner_live : (side : Side) (g : Grove) (o : Option Node) (i j : ℕ) → inner_in (slice_get (jacks_in side g o) i) ≡ Some j → IsSome (get g.nodes j)
inner_live side g None i j h = absurd (none-some j h)
inner_live side g (Some n) i j h = inner_by side g n.kind n.inner i j h

live_near : (nodes : Slab Node) (j : ℕ) → IsSome (get nodes j) → j < length nodes.slots
live_near nodes j h = elim (cases_lt j (length nodes.slots)) [
  | inl l ↦ l
  | inr l ↦ absurd (true≢false (sym h ∙ ap is_some (get_or_past nodes.slots j None l)))
]

inner_jacks : (ports : List Port) (i : ℕ) → inner_in (slice_get (jacks_of ports) i) ≡ inner_of ports i
inner_jacks [] i = refl
inner_jacks (p ∷ ports) zero = refl
inner_jacks (p ∷ ports) (suc i) = inner_jacks ports i

-- a port of a laid box, as the patch has it
inner_told : (all : List Sockets) (g : Grove) (s : Spot) → ((side : Side) (k : ℕ) → jacks_of (ports_at all side k) ≡ jacks_at side g k) → inner_in (slice_get (jacks_at s.side g s.node) s.port) ≡ inner_at all s
inner_told all g s told = ap (λ (js : List Jack). inner_in (slice_get js s.port)) (sym (told s.side s.node)) ∙ inner_jacks (ports_at all s.side s.node) s.port

pub all_near : (all : List Sockets) (g : Grove) → ((side : Side) (k : ℕ) → jacks_of (ports_at all side k) ≡ jacks_at side g k) → length g.nodes.slots ≤ length all → AreNear all
all_near all g told far = λ s j h.
    let l = live_near g.nodes j (inner_live s.side g (get g.nodes s.node) s.port j (inner_told all g s told ∙ h)) in
    omega (arith, l, far)

pub homes_told : (all : List Sockets) (homes : List (Option Spot)) (g : Grove) → ((side : Side) (k : ℕ) → jacks_of (ports_at all side k) ≡ jacks_at side g k) → AreTrue all homes
    → (j k i : ℕ) → option_map place_of (home_at homes j) ≡ Some (k, i) → IsPortOf g j k i
homes_told all homes g told true' j k i h = at_home (home_at homes j) refl h
  where
    at_home : (o : Option Spot) → home_at homes j ≡ o → option_map place_of o ≡ Some (k, i) → IsPortOf g j k i
    at_home None e f = absurd (none-some (k, i) f)
    at_home (Some s) e f =
        let same = some_pair_parts s.node k s.port i f in
        let P : ℕ → Type 0 = λ n. IsPortOf g j n i in
        let Q : ℕ → Type 0 = λ n. IsPortOf g j s.node n in
        subst P same.0 (subst Q same.1 (record { side = s.side; told = inner_told all g s told ∙ true' j s e }))

map_some : (o : Option Spot) → IsSome o → IsSome (option_map place_of o)
map_some None h = h
map_some (Some s) h = refl

node_within : (all : List Sockets) (s : Spot) (j : ℕ) → inner_at all s ≡ Some j → s.node < length all
node_within all s j h = elim (cases_lt s.node (length all)) [
  | inl l ↦ l
  | inr l ↦ absurd (none-some j (sym (ap (λ o. inner_of (ports_in s.side o) s.port) (slice_get_past all s.node l)) ∙ h))
]

pub homes_found : (all : List Sockets) (homes : List (Option Spot)) (g : Grove) → ((side : Side) (k : ℕ) → jacks_of (ports_at all side k) ≡ jacks_at side g k) → AreKnown all homes (length all)
    → (j k i : ℕ) → IsPortOf g j k i → IsSome (option_map place_of (home_at homes j))
homes_found all homes g told known j k i is =
    let s : Spot = record { node = k; side = is.side; port = i } in
    let inner : inner_at all s ≡ Some j = sym (inner_told all g s told) ∙ is.told in
    map_some (home_at homes j) (known s j (node_within all s j inner) inner)

pub none_true : (all : List Sockets) (homes : List (Option Spot)) → ((j : ℕ) → home_at homes j ≡ None) → AreTrue all homes
none_true all homes none = λ j s h. absurd (none-some s (sym (none j) ∙ h))

pub none_known : (all : List Sockets) (homes : List (Option Spot)) → AreKnown all homes 0
none_known all homes = λ s j l inner. absurd (omega (arith, l))

-- an element of a list, as a loop over it reads one
pub item_at : {X : Type 0} (xs : List X) (i : ℕ) (x : X) → i < length xs → x ≡ get_or xs i x → slice_get xs i ≡ Some x
item_at xs i x l e = slice_get-get_or xs i x l ∙ ap (λ y. Some y) (sym e)
