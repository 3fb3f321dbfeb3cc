-- Wires put in at an outlet, one after the other.
use Rattle.std.proofs.Common.{◌≡◌, ◌≢◌, ℕ, ◌+◌, ◌*◌, ◌<◌, ◌==◌, ◌||◌, ◌&&◌, nat_lt, Bool, true, false, cond, not, List, [], ◌∷◌, ◌++◌, filter, length, take, refl, sym, ap, ◌∙◌, subst, append_assoc, length-append, arith}
use Rattle.std.specs.List.{insert}
use Rattle.std.proofs.lemmas.Bool.Decides.{nat_tests}
use Rattle.std.proofs.lemmas.List.{length-map, append-nil}
use Rattle.std.proofs.lemmas.List.Edits.{insert_end}
use Rattle.std.proofs.lemmas.Option.{none-some}
use Rattle.pd_grove.specs.declared.ports.Side.{Side}
use Rattle.pd_grove.specs.declared.ports.Side.TheVariants.{Inlets, Outlets}
use Rattle.pd_web.specs.declared.lines.Line.{Line}
use Rattle.pd_web.specs.declared.sockets.Port.{Port}
use Rattle.pd_web.specs.declared.web.Hop.{Hop}
use Rattle.pd_web.specs.declared.web.Web.{Web}
use Rattle.pd_web.specs.Sockets.{ports_at}
use Rattle.pd_web.specs.Lines.{IsRoute}
use Rattle.pd_web.specs.Hops.{fan_keys, fan_hops, feed_hops, places_of, hop_to}
use Rattle.pd_web.specs.Changes.{line_told, hop_at, HasRoom, KeepsPorts, Joins, Meet}
use Rattle.pd_web.proofs.CountLemmas.{joined_is_one_more}
use Rattle.pd_seek.specs.Places.{label_at, comes_later, IsPlace, AreInOrder}
use Rattle.pd_moving.specs.Outlets.{is_at, is_elsewhere, from_others, keys_of, line_at, sinks_of, AreFedAsFanned, Lays}
use Rattle.pd_moving.proofs.ListLemmas.{at_yes, at_no, insert_missed, insert_behind, filter_last, map_last}
use Rattle.pd_moving.proofs.MeetLemmas.{same_port, joined_meet}
use Rattle.pd_moving.proofs.PlaceLemmas.{feeds_ordered}

no_later : (labels : List ℕ) (l : Line) (h : Hop) → h.node ≡ l.source → h.port ≡ l.outlet → comes_later labels l h ≡ true → ⊥
no_later labels l h a b later = by_label (label_at labels l.source) (label_at labels h.node) l.outlet h.port (ap (label_at labels) (sym a)) (sym b) later
  where
    by_label : (x y o p : ℕ) → x ≡ y → o ≡ p → nat_lt x y || x == y && nat_lt o p ≡ true → ⊥
    by_label x y o p e f t = grind (arith, nat_tests)

-- what comes later than a line comes from another port
later_elsewhere : (labels : List ℕ) (l : Line) (h : Hop) → comes_later labels l h ≡ true → is_at l.source l.outlet h ≡ false
later_elsewhere labels l h later = at_no l.source l.outlet h (λ a b. no_later labels l h a b later)

keys_joined : (xs ys : List Hop) → keys_of (xs ++ ys) ≡ keys_of xs ++ keys_of ys
keys_joined [] ys = refl
keys_joined (x ∷ xs) ys = ap (λ ks. x.key ∷ ks) (keys_joined xs ys)

one_stays : (p : Hop → Bool) (x : Hop) → p x ≡ true → filter p (x ∷ []) ≡ x ∷ []
one_stays p x h = ap (λ (b : Bool). cond b (x ∷ []) []) h

one_goes : (p : Hop → Bool) (x : Hop) → p x ≡ false → filter p (x ∷ []) ≡ []
one_goes p x h = ap (λ (b : Bool). cond b (x ∷ []) []) h

module _ (w v : Web) (labels : List ℕ) (l : Line) (key place : ℕ) (is : IsPlace labels l (feed_hops w l.sink l.inlet) place)
    (joins : Joins w v key l (length (fan_keys w l.source l.outlet)) place) (meet : Meet w) where
  abbrev to_it : Hop
  to_it = hop_at key l.sink l.inlet

  abbrev from_it : Hop
  from_it = hop_at key l.source l.outlet

  fan_last : fan_hops v l.source l.outlet ≡ fan_hops w l.source l.outlet ++ to_it ∷ []
  fan_last =
      joins.fan ∙ ap (λ (n : ℕ). insert (fan_hops w l.source l.outlet) n to_it) (sym (length-map (fan_keys w l.source l.outlet) (hop_to w)))
      ∙ insert_end (fan_hops w l.source l.outlet) to_it

  -- what is said of the feeds of each inlet, by the two cases
  by_inlet : (P : List Hop → List Hop → ℕ → ℕ → Type 0) → P (feed_hops w l.sink l.inlet) (insert (feed_hops w l.sink l.inlet) place from_it) l.sink l.inlet
      → ((n i : ℕ) (hs : List Hop) → (n ≡ l.sink → i ≢ l.inlet) → P hs hs n i) → (n i : ℕ) → P (feed_hops w n i) (feed_hops v n i) n i
  by_inlet P here there n i = same_port n i l.sink l.inlet
      (λ a b. subst (λ m. P (feed_hops w m i) (feed_hops v m i) m i) (sym a) (subst (λ o. P (feed_hops w l.sink o) (feed_hops v l.sink o) l.sink o) (sym b)
      (subst (λ (hs : List Hop). P (feed_hops w l.sink l.inlet) hs l.sink l.inlet) (sym joins.feeds) here)))
      (λ ne. subst (λ (hs : List Hop). P (feed_hops w n i) hs n i) (sym (joins.other_feeds n i ne)) (there n i (feed_hops w n i) ne))

  is_from : is_at l.source l.outlet from_it ≡ true
  is_from = at_yes l.source l.outlet from_it refl refl

  others_stay : (n i : ℕ) → from_others l.source l.outlet (feed_hops v n i) ≡ from_others l.source l.outlet (feed_hops w n i)
  others_stay = by_inlet (λ old new n i. from_others l.source l.outlet new ≡ from_others l.source l.outlet old)
      (insert_missed (is_elsewhere l.source l.outlet) (feed_hops w l.sink l.inlet) place from_it (ap not is_from)) (λ n i hs ne. refl)

  order_stays : (n i : ℕ) → AreInOrder labels (feed_hops w n i) → AreInOrder labels (feed_hops v n i)
  order_stays = by_inlet (λ old new n i. AreInOrder labels old → AreInOrder labels new)
      (λ order. feeds_ordered labels l key (feed_hops w l.sink l.inlet) place order is) (λ n i hs ne order. order)

  abbrev keys_fanned : ℕ → ℕ → List Hop → List ℕ
  keys_fanned n i hs = keys_of (filter (is_at n i) hs)

  fanned_more : (n i : ℕ) → keys_fanned n i (fan_hops v l.source l.outlet) ≡ keys_fanned n i (fan_hops w l.source l.outlet) ++ keys_fanned n i (to_it ∷ [])
  fanned_more n i =
      ap (keys_fanned n i) fan_last ∙ ap keys_of (filter_last (is_at n i) (fan_hops w l.source l.outlet) to_it)
      ∙ keys_joined (filter (is_at n i) (fan_hops w l.source l.outlet)) (filter (is_at n i) (to_it ∷ []))

  fed_more : keys_fanned l.source l.outlet (insert (feed_hops w l.sink l.inlet) place from_it) ≡ keys_fanned l.source l.outlet (feed_hops w l.sink l.inlet) ++ key ∷ []
  fed_more =
      ap keys_of (insert_behind (is_at l.source l.outlet) (feed_hops w l.sink l.inlet) place from_it is_from is.within (λ i y low e. later_elsewhere labels l y (is.behind i y low e)))
      ∙ map_last (λ (h : Hop). h.key) (filter (is_at l.source l.outlet) (feed_hops w l.sink l.inlet)) from_it

  fanned_here : keys_fanned l.sink l.inlet (to_it ∷ []) ≡ key ∷ []
  fanned_here = ap keys_of (one_stays (is_at l.sink l.inlet) to_it (at_yes l.sink l.inlet to_it refl refl))

  fanned_there : (n i : ℕ) → (n ≡ l.sink → i ≢ l.inlet) → keys_fanned n i (to_it ∷ []) ≡ []
  fanned_there n i ne = ap keys_of (one_goes (is_at n i) to_it (at_no n i to_it (λ a b. ne (sym a) (sym b))))

  fanned_stays : (n i : ℕ) → AreFedAsFanned w l.source l.outlet n i → AreFedAsFanned v l.source l.outlet n i
  fanned_stays = by_inlet
      (λ old new n i. keys_fanned l.source l.outlet old ≡ keys_fanned n i (fan_hops w l.source l.outlet) → keys_fanned l.source l.outlet new ≡ keys_fanned n i (fan_hops v l.source l.outlet))
      (λ e. fed_more ∙ ap (λ ks. ks ++ key ∷ []) e ∙ ap (λ ks. keys_fanned l.sink l.inlet (fan_hops w l.source l.outlet) ++ ks) (sym fanned_here) ∙ sym (fanned_more l.sink l.inlet))
      (λ n i hs ne e. e ∙ sym (append-nil (keys_fanned n i (fan_hops w l.source l.outlet)))
      ∙ ap (λ ks. keys_fanned n i (fan_hops w l.source l.outlet) ++ ks) (sym (fanned_there n i ne)) ∙ sym (fanned_more n i))

  pub line_laid : Lays w v labels l.source l.outlet (l ∷ [])
  line_laid = record {
    fan = ap places_of fan_last ∙ map_last (λ (h : Hop). (h.node, h.port)) (fan_hops w l.source l.outlet) to_it;
    other_fans = joins.other_fans;
    others = others_stay;
    in_order = order_stays;
    as_fanned = λ n i order e. fanned_stays n i e;
    lines_stay = λ k m h. joins.other_lines k (λ same. none-some m (sym joins.was_vacant ∙ ap (line_told w) (sym same) ∙ h)) ∙ h;
    kept = joins.kept;
    wires = joined_is_one_more w v key l (length (fan_keys w l.source l.outlet)) place joins;
    room = λ k p n r. joins.room k p n (record { boxes = r.boxes; homes = r.homes; ends = (let x = r.ends in omega (arith, x)); wires = (let x = r.wires in omega (arith, x)) });
    meet = joined_meet w v key l (length (fan_keys w l.source l.outlet)) place joins meet;
  }

pub none_laid : (w : Web) (labels : List ℕ) (node outlet : ℕ) → Meet w → Lays w w labels node outlet []
none_laid w labels node outlet meet = record {
  fan = sym (append-nil (places_of (fan_hops w node outlet)));
  other_fans = λ n o ne. refl;
  others = λ n i. refl;
  in_order = λ n i order. order;
  as_fanned = λ n i order e. e;
  lines_stay = λ k l h. h;
  kept = record { ports = λ side k. refl; made = λ k. refl; homes = λ j. refl };
  wires = omega arith;
  room = λ k p n r. record { boxes = r.boxes; homes = r.homes; ends = (let x = r.ends in omega (arith, x)); wires = (let x = r.wires in omega (arith, x)) };
  meet = meet;
}

sinks_joined : (xs ys : List Line) → sinks_of (xs ++ ys) ≡ sinks_of xs ++ sinks_of ys
sinks_joined [] ys = refl
sinks_joined (x ∷ xs) ys = ap (λ ks. (x.sink, x.inlet) ∷ ks) (sinks_joined xs ys)

-- one line more was laid
pub laid_more : (w v u : Web) (labels : List ℕ) (node outlet : ℕ) (lines : List Line) (l : Line) → Lays w v labels node outlet lines → Lays v u labels node outlet (line_at node outlet l ∷ []) → Lays w u labels node outlet (lines ++ l ∷ [])
laid_more w v u labels node outlet lines l a b = record {
  fan =
      b.fan ∙ ap (λ ps. ps ++ (l.sink, l.inlet) ∷ []) a.fan ∙ append_assoc (places_of (fan_hops w node outlet)) (sinks_of lines) ((l.sink, l.inlet) ∷ [])
      ∙ ap (λ ps. places_of (fan_hops w node outlet) ++ ps) (sym (sinks_joined lines (l ∷ [])));
  other_fans = λ n o ne. b.other_fans n o ne ∙ a.other_fans n o ne;
  others = λ n i. b.others n i ∙ a.others n i;
  in_order = λ n i order. b.in_order n i (a.in_order n i order);
  as_fanned = λ n i order e. b.as_fanned n i (a.in_order n i order) (a.as_fanned n i order e);
  lines_stay = λ k m h. b.lines_stay k m (a.lines_stay k m h);
  kept = record { ports = λ side k. b.kept.ports side k ∙ a.kept.ports side k; made = λ k. b.kept.made k ∙ a.kept.made k; homes = λ j. b.kept.homes j ∙ a.kept.homes j };
  wires = (let x = a.wires in let y = b.wires in let len = length-append lines (l ∷ []) in omega (arith, x, y, len));
  room = λ k p n r.
      let len = length-append lines (l ∷ []) in
      b.room k p n (a.room k (p + 2 * 1) (n + 1) (record { boxes = r.boxes; homes = r.homes; ends = (let x = r.ends in omega (arith, x, len)); wires = (let x = r.wires in omega (arith, x, len)) }));
  meet = b.meet;
}

-- a route is still one
still_there : (w v : Web) (side : Side) (k i : ℕ) → KeepsPorts w v → i < length (ports_at w.sockets.items side k) → i < length (ports_at v.sockets.items side k)
still_there w v side k i kept l =
    let a = ap length (kept.ports side k) in
    let b = length-map (ports_at w.sockets.items side k) (λ (p : Port). p.jack) in
    let c = length-map (ports_at v.sockets.items side k) (λ (p : Port). p.jack) in
    omega (arith, a, b, c, l)

pub still_route : (w v : Web) (l : Line) → KeepsPorts w v → IsRoute w.sockets.items l → IsRoute v.sockets.items l
still_route w v l kept route = record { from = still_there w v Outlets l.source l.outlet kept route.from; to = still_there w v Inlets l.sink l.inlet kept route.to }

-- there is room for the next line
pub next_fits : (w v : Web) (labels : List ℕ) (node outlet i : ℕ) (lines : List Line) → Lays w v labels node outlet (take i lines) → length (take i lines) ≡ i → i < length lines
    → HasRoom w 0 (2 * length lines) (length lines) → HasRoom v 0 2 1
next_fits w v labels node outlet i lines laid len l r =
    let x = laid.room 0 2 1 (record { boxes = r.boxes; homes = r.homes; ends = (let e = r.ends in omega (arith, e, len, l)); wires = (let e = r.wires in omega (arith, e, len, l)) }) in x
