-- A box gets other ports, and its wires stay at the ports of their numbers.
use Rattle.std.proofs.Common.{◌≡◌, ◌≢◌, ℕ, zero, suc, ◌+◌, ◌<◌, ◌≤◌, ◌^◌, min, List, [], ◌∷◌, length, map, set, slice_get, Option, Some, None, refl, sym, ap, ◌∙◌, subst, inl, inr, arith}
use Rattle.std.specs.Prelude.{option_and_then, option_map}
use Rattle.std.proofs.lemmas.Bool.{cases_eq, cases_lt}
use Rattle.std.proofs.lemmas.List.{length-map}
use Rattle.std.proofs.lemmas.Option.{none-some, same_Some}
use Rattle.pd_wire.specs.Book.{Book}
use Rattle.pd_grove.specs.declared.ports.Side.{Side}
use Rattle.pd_grove.specs.declared.ports.Side.TheVariants.{Inlets, Outlets}
use Rattle.pd_web.specs.declared.jacks.Jack.{Jack}
use Rattle.pd_web.specs.declared.sockets.Port.{Port}
use Rattle.pd_web.specs.declared.sockets.Sockets.{Sockets}
use Rattle.pd_web.specs.declared.sockets.Spot.{Spot}
use Rattle.pd_web.specs.Sockets.{AreFew, AreTied, side_ports, ports_in, ports_at, end_under, end_at, jacks_of, made_of}
use Rattle.pd_web.specs.Spares.{AreFree}
use Rattle.pd_web.proofs.ChangeLemmas.{to_hop, from_hop, line_in, fan_in, feeds_in}
use Rattle.pd_ports.specs.Ends.{IsEndOf, HasLiveEnds, Drops, end_in}
use Rattle.pd_ports.specs.Boxes.{Puts}
use Rattle.pd_ports.specs.Moves.{under}
use Rattle.pd_ports.specs.Refits.{jack_in, MovesEnds, Refits}
use Rattle.pd_ports.proofs.EndLemmas.{Dropped, dropped_tied, dropped_free, dropped_fans, dropped_feeds, line_alike}

-- ends that were moved so far
pub record Moving (old own old' own' : List Port) (n : ℕ) : Type 0 where
  pub jacks : (i : ℕ) → jack_in own' i ≡ jack_in own i
  pub old_jacks : (i : ℕ) → jack_in old' i ≡ jack_in old i
  pub done : (i : ℕ) → i < n → end_in own' i ≡ end_in old i
  pub rest : (i : ℕ) → n ≤ i → end_in own' i ≡ None
  pub gone : (i : ℕ) → i < n → end_in old' i ≡ None
  pub stay : (i : ℕ) → n ≤ i → end_in old' i ≡ end_in old i

pub moving_begun : (old own : List Port) → ((i : ℕ) → end_in own i ≡ None) → Moving old own old own 0
moving_begun old own loose = record {
  jacks = λ i. refl;
  old_jacks = λ i. refl;
  done = λ i l. absurd (omega (arith, l));
  rest = λ i l. loose i;
  gone = λ i l. absurd (omega (arith, l));
  stay = λ i l. refl;
}

port_end : Option Port → Option ℕ
port_end o = option_and_then (λ (p : Port). p.end) o

pub moving_on : (old own old' own' old'' own'' : List Port) (n m : ℕ) → Moving old own old' own' n → m ≡ n + 1 → end_in own'' n ≡ end_in old' n → end_in old'' n ≡ None
    → ((j : ℕ) → j ≢ n → slice_get own'' j ≡ slice_get own' j) → ((j : ℕ) → j ≢ n → slice_get old'' j ≡ slice_get old' j) → jack_in own'' n ≡ jack_in own' n → jack_in old'' n ≡ jack_in old' n → Moving old own old'' own'' m
moving_on old own old' own' old'' own'' n m at e taken left others old_others jack old_jack = record {
  jacks = λ i. elim (cases_eq i n) [
    | inl same ↦ ap (jack_in own'') same ∙ jack ∙ ap (jack_in own') (sym same) ∙ at.jacks i
    | inr differ ↦ ap (option_map (λ (p : Port). p.jack)) (others i differ) ∙ at.jacks i
  ];
  old_jacks = λ i. elim (cases_eq i n) [
    | inl same ↦ ap (jack_in old'') same ∙ old_jack ∙ ap (jack_in old') (sym same) ∙ at.old_jacks i
    | inr differ ↦ ap (option_map (λ (p : Port). p.jack)) (old_others i differ) ∙ at.old_jacks i
  ];
  done = λ i l. elim (cases_eq i n) [
    | inl same ↦ ap (end_in own'') same ∙ taken ∙ at.stay n (omega arith) ∙ ap (end_in old) (sym same)
    | inr differ ↦ ap (option_and_then (λ (p : Port). p.end)) (others i differ) ∙ at.done i (omega (arith, l, e, differ))
  ];
  rest = λ i l.
      let differ : i ≢ n = λ same. absurd (omega (arith, same, l, e)) in
      ap (option_and_then (λ (p : Port). p.end)) (others i differ) ∙ at.rest i (omega (arith, l, e));
  gone = λ i l. elim (cases_eq i n) [
    | inl same ↦ ap (end_in old'') same ∙ left
    | inr differ ↦ ap (option_and_then (λ (p : Port). p.end)) (old_others i differ) ∙ at.gone i (omega (arith, l, e, differ))
  ];
  stay = λ i l.
      let differ : i ≢ n = λ same. absurd (omega (arith, same, l, e)) in
      ap (option_and_then (λ (p : Port). p.end)) (old_others i differ) ∙ at.stay i (omega (arith, l, e));
}

-- no port stands beyond the last
beyond_none : (ports : List Port) (i : ℕ) → length ports ≤ i → end_in ports i ≡ None
beyond_none [] i l = refl
beyond_none (p ∷ ports) zero l = absurd (omega (arith, l))
beyond_none (p ∷ ports) (suc i) l = beyond_none ports i (omega (arith, l))

end_within : (ports : List Port) (i e : ℕ) → end_in ports i ≡ Some e → i < length ports
end_within ports i e h = elim (cases_lt i (length ports)) [
  | inl l ↦ l
  | inr l ↦ absurd (none-some e (sym (beyond_none ports i l) ∙ h))
]

pub moved_all : (old own old' own' : List Port) (n : ℕ) → Moving old own old' own' n → min (length own) (length old) ≤ n → MovesEnds old own old' own'
moved_all old own old' own' n at e = record {
  jacks = at.jacks;
  old_jacks = at.old_jacks;
  taken = λ i l. elim (cases_lt i n) [
    | inl less ↦ at.done i less
    | inr more ↦ at.rest i more ∙ sym (beyond_none old i (omega (arith, l, e, more)))
  ];
  left = λ i x h. elim (cases_lt i n) [
    | inl less ↦ absurd (none-some x (sym (at.gone i less) ∙ h))
    | inr more ↦
        let was = sym (at.stay i more) ∙ h in
        let l = end_within old i x was in
        (was, omega (arith, l, e, more))
  ];
}

pub jacks_same : (xs ys : List Port) → ((i : ℕ) → jack_in xs i ≡ jack_in ys i) → jacks_of xs ≡ jacks_of ys
jacks_same [] [] h = refl
jacks_same [] (y ∷ ys) h = absurd (none-some y.jack (h 0))
jacks_same (x ∷ xs) [] h = absurd (none-some x.jack (sym (h 0)))
jacks_same (x ∷ xs) (y ∷ ys) h = ap (λ (j : Jack). j ∷ jacks_of xs) (same_Some x.jack y.jack (h 0)) ∙ ap (λ (js : List Jack). y.jack ∷ js) (jacks_same xs ys (λ i. h (suc i)))

pub moves_as : (old own x y x' y' : List Port) → MovesEnds old own x y → x' ≡ x → y' ≡ y → MovesEnds old own x' y'
moves_as old own x y x' y' m ex ey = subst (λ (xs : List Port). MovesEnds old own xs y') (sym ex) (subst (λ (ys : List Port). MovesEnds old own x ys) (sym ey) m)

pub set_is : (all : List Sockets) (key : ℕ) (own : Sockets) → key < length all → slice_get (set all key own) key ≡ Some own
set_is [] key own l = absurd (omega (arith, l))
set_is (x ∷ xs) zero own l = refl
set_is (x ∷ xs) (suc key) own l = set_is xs key own (omega (arith, l))

pub set_else : (all : List Sockets) (key : ℕ) (own : Sockets) (k : ℕ) → k ≢ key → slice_get (set all key own) k ≡ slice_get all k
set_else [] key own k ne = refl
set_else (x ∷ xs) zero own zero ne = absurd (ne refl)
set_else (x ∷ xs) zero own (suc k) ne = refl
set_else (x ∷ xs) (suc key) own zero ne = refl
set_else (x ∷ xs) (suc key) own (suc k) ne = set_else xs key own k (λ e. ne (ap suc e))

pub set_count : (all : List Sockets) (key : ℕ) (own : Sockets) → length (set all key own) ≡ length all
set_count [] key own = refl
set_count (x ∷ xs) zero own = refl
set_count (x ∷ xs) (suc key) own = ap suc (set_count xs key own)

-- the ports of a box are taken out with the ends that are left, after others took theirs
pub swapped : (all mid all' : List Sockets) (key : ℕ) (was own now left : Sockets) → slice_get all key ≡ Some was → ((side : Side) → MovesEnds (side_ports side was) (side_ports side own) (side_ports side left) (side_ports side now))
    → now.is_made ≡ own.is_made → ((k : ℕ) → k ≢ key → slice_get mid k ≡ slice_get all k) → length mid ≡ length all → Puts mid all' key now → Refits all all' key own left
swapped all mid all' key was own now left at moves made others len puts = record {
  jacks = λ side. ap (λ (o : Option Sockets). jacks_of (ports_in side o)) puts.is ∙ jacks_same (side_ports side now) (side_ports side own) (moves side).jacks;
  made = ap made_of puts.is ∙ made;
  ends = λ side i l. ap (λ (o : Option Sockets). end_in (ports_in side o) i) puts.is ∙ (moves side).taken i l ∙ ap (λ (o : Option Sockets). end_in (ports_in side o) i) (sym at);
  left_jacks = λ side. jacks_same (side_ports side left) (side_ports side was) (moves side).old_jacks ∙ ap (λ (o : Option Sockets). jacks_of (ports_in side o)) (sym at);
  left_ends = λ side i e h. let l = (moves side).left i e h in (ap (λ (o : Option Sockets). end_in (ports_in side o) i) at ∙ l.0, l.1);
  others = λ k ne. puts.others k ne ∙ others k ne;
  len = puts.len ∙ len;
}

module _ (all all' : List Sockets) (spots : List Spot) (b b' : Book) (spare : List ℕ) (key : ℕ) (own left : Sockets) (refits : Refits all all' key own left) (few : AreFew all) (tied : AreTied all spots b) (free : AreFree all b spare)
    (own_few : (side : Side) → length (side_ports side own) < 2 ^ 32)
    (bare : (side : Side) (i : ℕ) → length (side_ports side own) ≤ i → under side b (end_under all side key i) ≡ []) where
  count : (side : Side) → length (ports_at all' side key) ≡ length (side_ports side own)
  count side =
      let e = ap length (refits.jacks side) in
      let x = length-map (ports_at all' side key) (λ (p : Port). p.jack) in
      let y = length-map (side_ports side own) (λ (p : Port). p.jack) in
      omega (arith, e, x, y)

  ports_else : (side : Side) (k : ℕ) → k ≢ key → ports_at all' side k ≡ ports_at all side k
  ports_else side k ne = ap (ports_in side) (refits.others k ne)

  -- an end that a port has it had before
  had : (s : Spot) (e : ℕ) → end_at all' s ≡ Some e → end_at all s ≡ Some e
  had s e h = elim (cases_eq s.node key) [
    | inr differ ↦ ap (λ (ports : List Port). end_in ports s.port) (sym (ports_else s.side s.node differ)) ∙ h
    | inl same ↦
        let here = ap (λ (k : ℕ). end_under all' s.side k s.port) (sym same) ∙ h in
        let l = end_within (ports_at all' s.side key) s.port e here in
        let c = count s.side in
        ap (λ (k : ℕ). end_under all s.side k s.port) same ∙ sym (refits.ends s.side s.port (omega (arith, l, c))) ∙ here
  ]

  pub refit_few : AreFew all'
  refit_few side k =
      let P : List Port → Type 0 = λ ports. length ports < 2 ^ 32 in
      elim (cases_eq k key) [
        | inl same ↦ let c = count side in let f = own_few side in subst (λ n. length (ports_at all' side n) < 2 ^ 32) (sym same) (omega (arith, c, f))
        | inr differ ↦ subst P (sym (ports_else side k differ)) (few side k)
      ]

  tied_before : AreTied all' spots b
  tied_before = record { placed = λ s e h. tied.placed s e (had s e h); spotted = tied.spotted }

  free_before : AreFree all' b spare
  free_before = record { live = free.live; no_fan = free.no_fan; no_feeds = free.no_feeds; of_no_port = λ i e s h is. free.of_no_port i e s h (had s e is); once = free.once }

  spot_of : Side → ℕ → Spot
  spot_of side i = record { node = key; side = side; port = i }

  pub left_live : HasLiveEnds b left
  left_live = record {
    live = λ side i e h. (tied.placed (record { node = key; side = side; port = i }) e (refits.left_ends side i e h).0).live;
    once = λ s t i j e p q.
        let x : Spot = record { node = key; side = s; port = i } in
        let y : Spot = record { node = key; side = t; port = j } in
        let same = same_Some x y (sym (tied.placed x e (refits.left_ends s i e p).0).told ∙ (tied.placed y e (refits.left_ends t j e q).0).told) in
        (ap (λ (z : Spot). z.side) same, ap (λ (z : Spot). z.port) same);
  }

  module _ (drops : Drops b b' (IsEndOf left)) where
    left_apart : (s : Spot) (e : ℕ) → end_at all' s ≡ Some e → IsEndOf left e → ⊥
    left_apart s e h is =
        let was = refits.left_ends is.0 is.1.0 e is.1.1 in
        let spot : Spot = record { node = key; side = is.0; port = is.1.0 } in
        let same = same_Some s spot (sym (tied.placed s e (had s e h)).told ∙ (tied.placed spot e was.0).told) in
        let l = end_within (ports_at all' is.0 key) is.1.0 e (ap (end_at all') (sym same) ∙ h) in
        let c = count is.0 in
        let m = was.1 in
        absurd (omega (arith, l, c, m))

    dropped : Dropped all' b b' spare (IsEndOf left)
    dropped = record {
      drops = drops;
      apart = left_apart;
      taken = λ i e h is. free.of_no_port i e (record { node = key; side = is.0; port = is.1.0 }) h (refits.left_ends is.0 is.1.0 e is.1.1).0;
    }

    pub refit_tied : AreTied all' spots b'
    refit_tied = dropped_tied all' spots b b' spare (IsEndOf left) dropped tied_before

    pub refit_free : AreFree all' b' spare
    refit_free = dropped_free all' b b' spare (IsEndOf left) dropped free_before

    pub refit_lines : (k : ℕ) → line_in spots b' k ≡ line_in spots b k
    refit_lines k = line_alike spots b b' k (drops.wires k)

    keys_stay : (side : Side) (k i : ℕ) → under side b (end_under all' side k i) ≡ under side b (end_under all side k i)
    keys_stay side k i = elim (cases_eq k key) [
      | inr differ ↦ ap (λ (ports : List Port). under side b (end_in ports i)) (ports_else side k differ)
      | inl same ↦
          let here : under side b (end_under all' side key i) ≡ under side b (end_under all side key i) = elim (cases_lt i (length (side_ports side own))) [
            | inl l ↦ ap (under side b) (refits.ends side i l)
            | inr l ↦ let c = count side in ap (under side b) (beyond_none (ports_at all' side key) i (omega (arith, l, c))) ∙ under_none side ∙ sym (bare side i l)
          ] in
          subst (λ n. under side b (end_under all' side n i) ≡ under side b (end_under all side n i)) (sym same) here
    ]
      where
        under_none : (side : Side) → under side b None ≡ []
        under_none Inlets = refl
        under_none Outlets = refl

    pub refit_fans : (node outlet : ℕ) → fan_in all' spots b' node outlet ≡ fan_in all spots b node outlet
    refit_fans node outlet = dropped_fans all' spots b b' spare (IsEndOf left) dropped node outlet ∙ ap (map (to_hop spots b)) (keys_stay Outlets node outlet)

    pub refit_feeds : (node inlet : ℕ) → feeds_in all' spots b' node inlet ≡ feeds_in all spots b node inlet
    refit_feeds node inlet = dropped_feeds all' spots b b' spare (IsEndOf left) dropped node inlet ∙ ap (map (from_hop spots b)) (keys_stay Inlets node inlet)
