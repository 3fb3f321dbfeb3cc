-- The feeds of an inlet are the wires to it that are saved, in their order.
use Rattle.std.proofs.Common.{◌≡◌, ℕ, zero, suc, ◌+◌, ◌≤◌, ◌<◌, ◌==◌, ◌&&◌, Bool, true, false, cond, List, [], ◌∷◌, map, filter, length, slice_get, Option, Some, None, refl, sym, ap, ◌∙◌, subst, inl, inr, arith}
use Rattle.std.specs.Prelude.{slice_index_or}
use Rattle.std.specs.List.{AllByRecursion}
use Rattle.std.proofs.lemmas.Bool.Decides.{nat_tests}
use Rattle.std.proofs.lemmas.List.{length-map}
use Rattle.std.proofs.lemmas.Option.{none-some, same_Some}
use Rattle.pd_canvas.specs.declared.wires.Wire.{Wire}
use Rattle.pd_canvas.specs.Wiring.{precedes, AreSorted, fan_out}
use Rattle.pd_order.specs.Graph.{tally}
use Rattle.pd_order.proofs.Basics.{by_test, same_node, same_test, other_test, other_node, length_le}
use Rattle.pd_grove.specs.OwnPaths.{sub_reached}
use Rattle.pd_grove.specs.Telling.{reached}
use Rattle.pd_tree.specs.Ports.{Sockets, sockets_in, fits, trimmed_sheet}
use Rattle.pd_tree.specs.Trees.{Tree}
use Rattle.pd_web.specs.declared.sockets.Spot.{Spot}
use Rattle.pd_web.specs.declared.web.Hop.{Hop}
use Rattle.pd_web.specs.declared.web.Web.{Web}
use Rattle.pd_web.specs.Canvases.{keys_at, source_place, fan_into}
use Rattle.pd_web.specs.Changes.{hop_at, Meet}
use Rattle.pd_web.specs.Hops.{boxes_told, hop_by, hop_to, hop_from, fan_hops, fan_keys, feed_hops, feed_keys, places_of}
use Rattle.pd_web.specs.Wiring.{source_at, sink_at}
use Rattle.pd_seek.specs.Places.{label_at, IsNoLater, AreInOrder}
use Rattle.pd_present.specs.Presents.{number_in, wire_along, wires_among}
use Rattle.pd_patch.specs.declared.patch.Patch.{Patch}
use Rattle.pd_patch.specs.Linked.{ShareCanvas}
use Rattle.pd_patch.specs.Wired.{LeadsHere}
use Rattle.pd_patch.proofs.CanvasLemmas.{all_kept, all_map, once_apart}
use Rattle.pd_patch.proofs.WayLemmas.{root_stands}
use Rattle.pd_wiring.specs.Changes.{CanRewire}
use Rattle.pd_wiring.proofs.HeardLemmas.{all_at}
use Rattle.pd_reload_law.specs.Wires.{AreNumbered, IsAmong, JoinsAmong, StandOnce}
use Rattle.pd_reload_law.proofs.FanLemmas.{number_is, saved_sorted, saved_fan, saved_none}
use Rattle.pd_reload_law.proofs.LaidLemmas.{sorted_filter, passes, fitting_joins, wire_is}
use Rattle.pd_reload_law.proofs.SortedLemmas.{less, from, all_on, fan_none, sorted_same}
use Rattle.pd_saved_law.specs.Fitting.{HaveSameWires}
use Rattle.pd_saved_law.proofs.CanvasLemmas.{canvas_now, leads_now}
use Rattle.pd_saved_law.proofs.WireLemmas.{wired_saved, reopened}
use Rattle.pd_alike_law.specs.Alike.{HasOpened, now_of}
use Rattle.pd_alike_law.specs.Feeds.{FedOnce, FeedsInOrder, feed_wire, feed_wires, HaveSameFeeds}
use Rattle.pd_alike_law.proofs.MatchLemmas.{by_option, all_of}

-- ---- tests of numbers

own_first : (a b s o : ℕ) → (a == s && b == o) ≡ true → a ≡ s
own_first a b s o t = grind (arith, nat_tests)

own_second : (a b s o : ℕ) → (a == s && b == o) ≡ true → b ≡ o
own_second a b s o t = grind (arith, nat_tests)

both_same : (a b s o : ℕ) → a ≡ s → b ≡ o → (a == s && b == o) ≡ true
both_same a b s o e f = grind (arith, nat_tests)

not_first : (a b s o : ℕ) → (a ≡ s → ⊥) → (a == s && b == o) ≡ false
not_first a b s o n = grind (arith, nat_tests)

behind_less : (a b c d : ℕ) → a < c → less c d a b ≡ false
behind_less a b c d l = grind (arith, nat_tests)

behind_same : (a b c d : ℕ) → a ≡ c → b ≤ d → less c d a b ≡ false
behind_same a b c d e l = grind (arith, nat_tests)

-- ---- lists

same_all : {X : Type 0} (x : X) (xs ys : List X) → AllByRecursion (λ y. y ≡ x) xs → AllByRecursion (λ y. y ≡ x) ys → length xs ≡ length ys → xs ≡ ys
same_all x [] [] a b e = refl
same_all x [] (y ∷ ys) a b e = absurd (omega (arith, e))
same_all x (z ∷ xs) [] a b e = absurd (omega (arith, e))
same_all x (z ∷ xs) (y ∷ ys) a b e = ap (λ w. w ∷ xs) (a.0 ∙ sym b.0) ∙ ap (λ (l : List _). y ∷ l) (same_all x xs ys a.1 b.1 (omega (arith, e)))

all_both : {X : Type 0} (P Q : X → Type 0) (xs : List X) → AllByRecursion P xs → AllByRecursion Q xs → AllByRecursion (λ x. P x × Q x) xs
all_both P Q [] a b = tt
all_both P Q (x ∷ xs) a b = ((a.0, b.0), all_both P Q xs a.1 b.1)

filters_swap : {X : Type 0} (p q : X → Bool) (xs : List X) → filter p (filter q xs) ≡ filter q (filter p xs)
filters_swap p q [] = refl
filters_swap {X} p q (x ∷ xs) = by_test (p x)
    (λ s. by_test (q x)
    (λ t. rw (s, t, s) (ap (λ (l : List X). x ∷ l) (filters_swap p q xs)))
    (λ t. rw (s, t) (filters_swap p q xs)))
    (λ s. by_test (q x)
    (λ t. rw (s, t, s) (filters_swap p q xs))
    (λ t. rw (s, t) (filters_swap p q xs)))

count_same : {X Y : Type 0} (p : Y → Bool) (f : X → Y) (q : X → Bool) (xs : List X) → AllByRecursion (λ x. p (f x) ≡ q x) xs → length (filter p (map f xs)) ≡ length (filter q xs)
count_same p f q [] a = refl
count_same {X} {Y} p f q (x ∷ xs) a =
    ap (λ b. length (cond b (f x ∷ filter p (map f xs)) (filter p (map f xs)))) a.0 ∙ step (q x) (count_same p f q xs a.1)
  where
    step : (b : Bool) → length (filter p (map f xs)) ≡ length (filter q xs)
        → length (cond b (f x ∷ filter p (map f xs)) (filter p (map f xs))) ≡ length (cond b (x ∷ filter q xs) (filter q xs))
    step true e = omega (arith, e)
    step false e = e

-- ---- keys of hops

abbrev pub keys_of : List Hop → List ℕ
keys_of hops = map (λ (h : Hop). h.key) hops

key_kept : (k : ℕ) (o : Option Spot) → (hop_by k o).key ≡ k
key_kept k None = refl
key_kept k (Some s) = refl

pub fan_keys_of : (w : Web) (keys : List ℕ) → keys_of (map (hop_to w) keys) ≡ keys
fan_keys_of w [] = refl
fan_keys_of w (k ∷ keys) =
    ap (λ x. x ∷ keys_of (map (hop_to w) keys)) (key_kept k (slice_get w.spots.items (sink_at w.book k))) ∙ ap (λ (l : List ℕ). k ∷ l) (fan_keys_of w keys)

pub feed_keys_of : (w : Web) (keys : List ℕ) → keys_of (map (hop_from w) keys) ≡ keys
feed_keys_of w [] = refl
feed_keys_of w (k ∷ keys) =
    ap (λ x. x ∷ keys_of (map (hop_from w) keys)) (key_kept k (slice_get w.spots.items (source_at w.book k))) ∙ ap (λ (l : List ℕ). k ∷ l) (feed_keys_of w keys)

-- a hop of this key that passes
record KeyFound (p : Hop → Bool) (hops : List Hop) (z : ℕ) : Type 0 where
  place : ℕ
  hop : Hop
  stands : slice_get hops place ≡ Some hop
  key : hop.key ≡ z
  passes : p hop ≡ true

found_later : (p : Hop → Bool) (h : Hop) (hops : List Hop) (z : ℕ) → KeyFound p hops z → KeyFound p (h ∷ hops) z
found_later p h hops z f = record { place = suc f.place; hop = f.hop; stands = f.stands; key = f.key; passes = f.passes }

key_found : (p : Hop → Bool) (hops : List Hop) (z : ℕ) → 0 < tally z (keys_of (filter p hops)) → KeyFound p hops z
key_found p [] z l = absurd (omega (arith, l))
key_found p (h ∷ hops) z l = by_test (p h)
    (λ t. let more : 0 < tally z (h.key ∷ keys_of (filter p hops)) = rw t at l in
    by_test (h.key == z)
    (λ s. record { place = 0; hop = h; stands = refl; key = same_node h.key z s; passes = t })
    (λ s. let less : 0 < 0 + tally z (keys_of (filter p hops)) = rw s at more in found_later p h hops z (key_found p hops z (omega (arith, less)))))
    (λ t. let less : 0 < tally z (keys_of (filter p hops)) = rw t at l in found_later p h hops z (key_found p hops z less))

key_there : (p : Hop → Bool) (hops : List Hop) (n : ℕ) (h : Hop) → slice_get hops n ≡ Some h → p h ≡ true → 0 < tally h.key (keys_of (filter p hops))
key_there p [] n h e t = absurd (none-some h e)
key_there p (x ∷ hops) zero h e t =
    let same : x ≡ h = same_Some x h e in
    let s : p x ≡ true = ap p same ∙ t in
    rw s (let u : (x.key == h.key) ≡ true = ap (λ (y : Hop). y.key == h.key) same ∙ same_test h.key in rw u (omega arith))
key_there p (x ∷ hops) (suc n) h e t =
    let rest = key_there p hops n h e t in
    by_test (p x) (λ s. rw s (omega (arith, rest))) (λ s. rw s (omega (arith, rest)))

fewer_keys : (p : Hop → Bool) (hops : List Hop) (z : ℕ) → tally z (keys_of (filter p hops)) ≤ tally z (keys_of hops)
fewer_keys p [] z = omega arith
fewer_keys p (x ∷ hops) z =
    let rest = fewer_keys p hops z in
    by_test (p x) (λ s. rw s (omega (arith, rest))) (λ s. rw s (omega (arith, rest)))

once_passing : (p : Hop → Bool) (hops : List Hop) (keys : List ℕ) → keys_of hops ≡ keys → ((i j k : ℕ) → slice_get keys i ≡ Some k → slice_get keys j ≡ Some k → i ≡ j)
    → (z : ℕ) → tally z (keys_of (filter p hops)) ≤ 1
once_passing p hops keys e once z =
    let a = fewer_keys p hops z in
    let b = once_apart keys once z in
    let c : tally z (keys_of hops) ≡ tally z keys = ap (tally z) e in omega (arith, a, b, c)

-- ---- as many feeds as wires

abbrev is_at : ℕ → ℕ → Hop → Bool
is_at node port h = h.node == node && h.port == port

-- from an outlet to an inlet as many wires lead as feeds of the inlet come from the outlet
as_many : (w : Web) (e o k inlet : ℕ) → StandOnce w → FedOnce w → Meet w
    → length (filter (is_at e o) (feed_hops w k inlet)) ≡ length (filter (is_at k inlet) (fan_hops w e o))
as_many w e o k inlet once fed_once m =
    let feeds = feed_hops w k inlet in
    let fans = fan_hops w e o in
    let A = keys_of (filter (is_at e o) feeds) in
    let B = keys_of (filter (is_at k inlet) fans) in
    let once_a : (z : ℕ) → tally z A ≤ 1 = once_passing (is_at e o) feeds (feed_keys w k inlet) (feed_keys_of w (feed_keys w k inlet)) (fed_once.once k inlet) in
    let once_b : (z : ℕ) → tally z B ≤ 1 = once_passing (is_at k inlet) fans (fan_keys w e o) (fan_keys_of w (fan_keys w e o)) (once.once e o) in
    let there : (z : ℕ) → 0 < tally z A → 0 < tally z B = λ z l.
    let f = key_found (is_at e o) feeds z l in
    let at = m.fanned k inlet f.place f.hop f.stands in
    let here : slice_get (fan_hops w e o) at.0 ≡ Some (hop_at f.hop.key k inlet) =
    ap (λ n. slice_get (fan_hops w n o) at.0) (sym (own_first f.hop.node f.hop.port e o f.passes))
    ∙ ap (λ n. slice_get (fan_hops w f.hop.node n) at.0) (sym (own_second f.hop.node f.hop.port e o f.passes)) ∙ at.1 in
    subst (λ x. 0 < tally x B) f.key (key_there (is_at k inlet) fans at.0 (hop_at f.hop.key k inlet) here (both_same k inlet k inlet refl refl)) in
    let back : (z : ℕ) → 0 < tally z B → 0 < tally z A = λ z l.
    let f = key_found (is_at k inlet) fans z l in
    let at = m.fed e o f.place f.hop f.stands in
    let here : slice_get (feed_hops w k inlet) at.0 ≡ Some (hop_at f.hop.key e o) =
    ap (λ n. slice_get (feed_hops w n inlet) at.0) (sym (own_first f.hop.node f.hop.port k inlet f.passes))
    ∙ ap (λ n. slice_get (feed_hops w f.hop.node n) at.0) (sym (own_second f.hop.node f.hop.port k inlet f.passes)) ∙ at.1 in
    subst (λ x. 0 < tally x A) f.key (key_there (is_at e o) feeds at.0 (hop_at f.hop.key e o) here (both_same e o e o refl refl)) in
    let ab = length_le A B once_a there in
    let ba = length_le B A once_b back in
    let la = length-map (filter (is_at e o) feeds) (λ (h : Hop). h.key) in
    let lb = length-map (filter (is_at k inlet) fans) (λ (h : Hop). h.key) in
    omega (arith, ab, ba, la, lb)

-- ---- feeds as wires stand by source and outlet

pub label_is : (numbers : List ℕ) (x : ℕ) → label_at numbers x ≡ number_in numbers x
label_is [] x = refl
label_is (n ∷ numbers) zero = refl
label_is (n ∷ numbers) (suc x) = label_is numbers x

no_later : (numbers : List ℕ) (k inlet : ℕ) (g h : Hop) → IsNoLater numbers g h → precedes (feed_wire numbers k inlet h) (feed_wire numbers k inlet g) ≡ false
no_later numbers k inlet g h (inl l) =
    let a = label_is numbers g.node in
    let b = label_is numbers h.node in
    behind_less (number_in numbers g.node) g.port (number_in numbers h.node) h.port (omega (arith, l, a, b))
no_later numbers k inlet g h (inr e) =
    behind_same (number_in numbers g.node) g.port (number_in numbers h.node) h.port (sym (label_is numbers g.node) ∙ e.0 ∙ label_is numbers h.node) e.1

feeds_sorted : (numbers : List ℕ) (k inlet : ℕ) (hops : List Hop) → AreInOrder numbers hops → AreSorted (map (feed_wire numbers k inlet) hops)
feeds_sorted numbers k inlet [] o = tt
feeds_sorted numbers k inlet (h ∷ hops) o = (
  all_map (λ v. precedes v (feed_wire numbers k inlet h) ≡ false) (feed_wire numbers k inlet) hops
      (all_of (λ x. precedes (feed_wire numbers k inlet x) (feed_wire numbers k inlet h) ≡ false) hops
      (λ i x e. no_later numbers k inlet h x (o 0 (suc i) h x (omega arith) refl e))),
  feeds_sorted numbers k inlet hops (λ i j g x l a b. o (suc i) (suc j) g x (omega (arith, l)) a b),
)

-- ---- the feeds of an inlet

abbrev pub into : ℕ → ℕ → Wire → Bool
into i inlet v = v.sink == i && v.inlet == inlet

abbrev one_wire : ℕ → ℕ → ℕ → ℕ → Wire
one_wire s o i inlet = record { source = s; outlet = o; sink = i; inlet = inlet }

-- wires between one outlet and one inlet
is_one : (s o i inlet : ℕ) (v : Wire) → (from s o v ≡ true) × (into i inlet v ≡ true) → v ≡ one_wire s o i inlet
is_one s o i inlet v t =
    wire_is v.source v.outlet v.sink v.inlet s o i inlet (own_first v.source v.outlet s o t.0) (own_second v.source v.outlet s o t.0)
    (own_first v.sink v.inlet i inlet t.1) (own_second v.sink v.inlet i inlet t.1)

all_one : (s o i inlet : ℕ) (ws : List Wire) → AllByRecursion (λ v. into i inlet v ≡ true) ws → AllByRecursion (λ v. v ≡ one_wire s o i inlet) (fan_out s o ws)
all_one s o i inlet ws a =
    all_on (λ v. (from s o v ≡ true) × (into i inlet v ≡ true)) (λ v. v ≡ one_wire s o i inlet) (fan_out s o ws) (λ v t. is_one s o i inlet v t)
    (all_both (λ v. from s o v ≡ true) (λ v. into i inlet v ≡ true) (fan_out s o ws) (passes (from s o) ws) (all_kept (λ v. into i inlet v ≡ true) (from s o) ws a))

module _ (w : Web) (N K : List ℕ) (numbered : AreNumbered N K) where
  one_number : (a b : ℕ) (x y : ℕ) → slice_get K a ≡ Some x → slice_get K b ≡ Some y → a ≡ b → x ≡ y
  one_number a b x y e f s = same_Some x y (sym e ∙ ap (slice_get K) s ∙ f)

  -- a box has a number exactly where it is the box of that number
  numbers_tell : (s e o : ℕ) (h : Hop) → slice_get K s ≡ Some e → IsAmong K h.node → (number_in N h.node == s && h.port == o) ≡ (h.node == e && h.port == o)
  numbers_tell s e o h at a =
      let number : number_in N h.node ≡ a.0 = number_is N h.node a.0 (numbered a.0 h.node a.1) in
      by_test (h.node == e)
      (λ t. let same : a.0 ≡ s = same_Some a.0 s (sym (numbered a.0 h.node a.1) ∙ ap (slice_get N) (same_node h.node e t) ∙ numbered s e at) in
      let u : (number_in N h.node == s) ≡ true = ap (λ n. n == s) (number ∙ same) ∙ same_test s in rw (t, u) refl)
      (λ t. let u : (number_in N h.node == s) ≡ false =
      other_test (number_in N h.node) s (λ q. other_node h.node e t (one_number a.0 s h.node e a.1 at (sym number ∙ q))) in rw (t, u) refl)

  module _ (i k inlet : ℕ) (at : slice_get K i ≡ Some k) (once : StandOnce w) (fed_once : FedOnce w) (m : Meet w)
      (fed : (n : ℕ) (h : Hop) → slice_get (feed_hops w k inlet) n ≡ Some h → IsAmong K h.node)
      (leads : (e o n : ℕ) (h : Hop) → IsAmong K e → slice_get (fan_hops w e o) n ≡ Some h → IsAmong K h.node) where
    abbrev saved : List Wire
    saved = wires_among w N K

    own : number_in N k ≡ i
    own = number_is N k i (numbered i k at)

    all_into : AllByRecursion (λ v. into i inlet v ≡ true) (feed_wires w N k inlet)
    all_into = all_map (λ v. into i inlet v ≡ true) (feed_wire N k inlet) (feed_hops w k inlet)
        (all_of (λ h. into i inlet (feed_wire N k inlet h) ≡ true) (feed_hops w k inlet) (λ n h e. both_same (number_in N k) inlet i inlet own refl))

    -- the wires from an outlet of a box of the canvas
    here : (s e o : ℕ) → slice_get K s ≡ Some e → length (fan_out s o (feed_wires w N k inlet)) ≡ length (fan_out s o (fan_into i inlet saved))
    here s e o is =
        count_same (from s o) (feed_wire N k inlet) (is_at e o) (feed_hops w k inlet)
        (all_of (λ h. from s o (feed_wire N k inlet h) ≡ is_at e o h) (feed_hops w k inlet) (λ n h q. numbers_tell s e o h is (fed n h q)))
        ∙ as_many w e o k inlet once fed_once m
        ∙ sym (count_same (into i inlet) (wire_along N e o) (is_at k inlet) (fan_hops w e o)
        (all_of (λ h. into i inlet (wire_along N e o h) ≡ is_at k inlet h) (fan_hops w e o) (λ n h q. numbers_tell i k inlet h at (leads e o n h (s, is) q))))
        ∙ sym (ap (λ (ws : List Wire). length (filter (into i inlet) ws)) (saved_fan w N K s e o numbered is))
        ∙ ap (λ (ws : List Wire). length ws) (filters_swap (into i inlet) (from s o) saved)

    -- no wire comes from a box that isn't there
    nowhere : (s o : ℕ) → slice_get K s ≡ None → fan_out s o (feed_wires w N k inlet) ≡ fan_out s o (fan_into i inlet saved)
    nowhere s o none =
        fan_none s o (feed_wires w N k inlet) (all_map (λ v. from s o v ≡ false) (feed_wire N k inlet) (feed_hops w k inlet)
        (all_of (λ h. from s o (feed_wire N k inlet h) ≡ false) (feed_hops w k inlet) (λ n h q.
        let a = fed n h q in
        not_first (number_in N h.node) h.port s o (λ e. none-some h.node (sym none ∙ ap (slice_get K) (sym e ∙ number_is N h.node a.0 (numbered a.0 h.node a.1)) ∙ a.1)))))
        ∙ sym (filters_swap (from s o) (into i inlet) saved ∙ ap (filter (into i inlet)) (saved_none w N K s o numbered none))

    fans_alike : (s o : ℕ) → fan_out s o (feed_wires w N k inlet) ≡ fan_out s o (fan_into i inlet saved)
    fans_alike s o = by_option (slice_get K s) (λ none. nowhere s o none) (λ e is.
        same_all (one_wire s o i inlet) (fan_out s o (feed_wires w N k inlet)) (fan_out s o (fan_into i inlet saved))
        (all_one s o i inlet (feed_wires w N k inlet) all_into) (all_one s o i inlet (fan_into i inlet saved) (passes (into i inlet) saved)) (here s e o is))

    pub feeds_are_wires : AreInOrder N (feed_hops w k inlet) → feed_wires w N k inlet ≡ fan_into i inlet saved
    feeds_are_wires order =
        sorted_same (feed_wires w N k inlet) (fan_into i inlet saved) (feeds_sorted N k inlet (feed_hops w k inlet) order)
        (sorted_filter (into i inlet) saved (saved_sorted w N K numbered)) fans_alike

-- ---- the feeds of a patch that opened

module _ (M L : List ℕ) (numbered : AreNumbered M L) (i j inlet : ℕ) (at : slice_get L i ≡ Some j) where
  abbrev back : ℕ × ℕ → Wire
  back p = record { source = number_in M p.0; outlet = p.1; sink = number_in M j; inlet = inlet }

  by_places : (hops : List Hop) → map (feed_wire M j inlet) hops ≡ map back (places_of hops)
  by_places [] = refl
  by_places (h ∷ hops) = ap (λ (l : List Wire). feed_wire M j inlet h ∷ l) (by_places hops)

  index_is : (keys : List ℕ) (n x : ℕ) → slice_get keys n ≡ Some x → slice_index_or keys n 0 ≡ x
  index_is [] n x e = absurd (none-some x e)
  index_is (y ∷ keys) zero x e = same_Some y x e
  index_is (y ∷ keys) (suc n) x e = index_is keys n x e

  back_is : (v : Wire) → JoinsAmong L v → into i inlet v ≡ true → back (source_place L v) ≡ v
  back_is v a t =
      wire_is (number_in M (slice_index_or L v.source 0)) v.outlet (number_in M j) inlet v.source v.outlet v.sink v.inlet
      (ap (number_in M) (index_is L v.source a.from a.source) ∙ number_is M a.from v.source (numbered v.source a.from a.source)) refl
      (number_is M j i (numbered i j at) ∙ sym (own_first v.sink v.inlet i inlet t)) (sym (own_second v.sink v.inlet i inlet t))

  backs : (ws : List Wire) → AllByRecursion (λ v. JoinsAmong L v × (into i inlet v ≡ true)) ws → map back (map (source_place L) ws) ≡ ws
  backs [] a = refl
  backs (v ∷ ws) a = ap (λ x. x ∷ map back (map (source_place L) ws)) (back_is v a.0.0 a.0.1) ∙ ap (λ (l : List Wire). v ∷ l) (backs ws a.1)

  pub told_feeds : (ws : List Wire) (hops : List Hop) → AllByRecursion (JoinsAmong L) ws → places_of hops ≡ map (source_place L) (fan_into i inlet ws)
      → map (feed_wire M j inlet) hops ≡ fan_into i inlet ws
  told_feeds ws hops a e =
      by_places hops ∙ ap (map back) e
      ∙ backs (fan_into i inlet ws) (all_both (JoinsAmong L) (λ v. into i inlet v ≡ true) (fan_into i inlet ws) (all_kept (JoinsAmong L) (into i inlet) ws a) (passes (into i inlet) ws))

-- ---- two patches

-- the box at the other end of a feed lies in the same canvas
fed_among : (p : Patch) (c k inlet : ℕ) → CanRewire p → Meet p.web → IsAmong (keys_at p.grove c) k → (n : ℕ) (h : Hop) → slice_get (feed_hops p.web k inlet) n ≡ Some h
    → IsAmong (keys_at p.grove c) h.node
fed_among p c k inlet r m a n h e =
    let f = m.fanned k inlet n h e in
    let s = all_at (λ (x : Hop). ShareCanvas p.grove h.node x.node) (fan_hops p.web h.node h.port) f.0 (hop_at h.key k inlet) (r.inside h.node h.port) f.1 in
    let same : s.canvas ≡ c = same_Some s.canvas c (sym (r.own.home s.canvas s.other.0 k s.other.1) ∙ r.own.home c a.0 k a.1) in
    subst (λ x. IsAmong (keys_at p.grove x) h.node) same s.one

leads_among : (p : Patch) (c e o : ℕ) → CanRewire p → (n : ℕ) (h : Hop) → IsAmong (keys_at p.grove c) e → slice_get (fan_hops p.web e o) n ≡ Some h → IsAmong (keys_at p.grove c) h.node
leads_among p c e o r n h a q =
    let s = all_at (λ (x : Hop). ShareCanvas p.grove e x.node) (fan_hops p.web e o) n h (r.inside e o) q in
    let same : s.canvas ≡ c = same_Some s.canvas c (sym (r.own.home s.canvas s.one.0 e s.one.1) ∙ r.own.home c a.0 e a.1) in
    subst (λ x. IsAmong (keys_at p.grove x) h.node) same s.other

pub running_feeds : (p : Patch) (c i k inlet : ℕ) → CanRewire p → StandOnce p.web → FedOnce p.web → Meet p.web → FeedsInOrder p c → slice_get (keys_at p.grove c) i ≡ Some k
    → feed_wires p.web p.numbers.items k inlet ≡ fan_into i inlet (wires_among p.web p.numbers.items (keys_at p.grove c))
running_feeds p c i k inlet r once fed_once m order at =
    feeds_are_wires p.web p.numbers.items (keys_at p.grove c) (r.numbers c) i k inlet at once fed_once m
    (fed_among p c k inlet r m (i, at)) (λ e o n h a q. leads_among p c e o r n h a q) (order.all i k inlet at)

opened_feeds : (p q : Patch) (t : Tree) (path : List ℕ) (c d i j inlet : ℕ) → HasOpened p t q → HaveSameWires p c q d → sub_reached p.grove (Some p.grove.root) path ≡ Some c
    → reached q.grove (Some q.grove.root) path ≡ Some d → slice_get (keys_at q.grove d) i ≡ Some j
    → feed_wires q.web q.numbers.items j inlet ≡ fan_into i inlet (wires_among q.web q.numbers.items (keys_at q.grove d))
opened_feeds p q t path c d i j inlet o w at there is =
    let N = p.numbers.items in
    let M = q.numbers.items in
    let K = keys_at p.grove c in
    let L = keys_at q.grove d in
    let l = leads_now p.grove p.web N path p.grove.root c t o.made (root_stands p.grove t.sheet t.boxes o.stands) at in
    let u = canvas_now p.grove p.web N c l.canvas in
    let here : LeadsHere q.grove (now_of p t) path d u = record { key = there; canvas = l.told } in
    let ws = wires_among q.web M L in
    let ports : boxes_told q.web L ≡ sockets_in u.boxes = o.wired.ports path d u here in
    let same : (trimmed_sheet u.boxes u.sheet).wires ≡ ws =
    ap (λ (x : List Sockets). filter (fits x) u.sheet.wires) (sym ports)
    ∙ sym (wired_saved q (now_of p t) u path d o.opened.numbers o.wired here (saved_sorted p.web N K (o.runs.numbers c))) in
    let joins : AllByRecursion (JoinsAmong L) ws =
    subst (AllByRecursion (JoinsAmong L)) (sym (wired_saved q (now_of p t) u path d o.opened.numbers o.wired here (saved_sorted p.web N K (o.runs.numbers c))))
    (all_on (λ v. fits (boxes_told q.web L) v ≡ true) (JoinsAmong L) (filter (fits (boxes_told q.web L)) u.sheet.wires) (fitting_joins q.web L)
    (passes (fits (boxes_told q.web L)) u.sheet.wires)) in
    told_feeds M L (o.opened.numbers d) i j inlet is ws (feed_hops q.web j inlet) joins
    (o.wired.feeds path d u here i inlet j is ∙ ap (λ (x : List Wire). map (source_place L) (fan_into i inlet x)) same)

pub feeds_alike : (p q : Patch) (t : Tree) (path : List ℕ) (c d : ℕ) → HasOpened p t q → StandOnce p.web → FedOnce p.web → Meet p.web → FeedsInOrder p c
    → sub_reached p.grove (Some p.grove.root) path ≡ Some c → reached q.grove (Some q.grove.root) path ≡ Some d → HaveSameFeeds p c q d
feeds_alike p q t path c d o once fed_once m order at there =
    let w = reopened p q t path c d o.runs o.fit o.opened.numbers o.stands o.made o.wired at there in
    record {
      all = λ i inlet k j e f.
          opened_feeds p q t path c d i j inlet o w at there f ∙ ap (fan_into i inlet) w.wires
          ∙ sym (running_feeds p c i k inlet o.runs once fed_once m order e);
    }
