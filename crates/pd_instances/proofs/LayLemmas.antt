-- Wires that come one behind the other.
use Rattle.std.proofs.Common.{◌≡◌, ◌≢◌, ℕ, suc, ◌+◌, ◌*◌, ◌==◌, ◌&&◌, Bool, true, false, cond, List, [], ◌∷◌, ◌++◌, append_assoc, append-nil, map, filter, length, length-append, refl, sym, ap, ◌∙◌, subst, inl, inr, arith}
use Rattle.std.specs.List.{insert}
use Rattle.std.proofs.lemmas.Bool.{cases_eq}
use Rattle.std.proofs.lemmas.List.{length-map, map-append}
use Rattle.std.proofs.lemmas.List.Edits.{insert_end}
use Rattle.std.proofs.lemmas.List.Elements.{filter-append}
use Rattle.std.proofs.lemmas.Option.{none-some}
use Rattle.pd_order.proofs.Basics.{same_test, other_test}
use Rattle.pd_web.specs.declared.lines.Line.{Line}
use Rattle.pd_web.specs.declared.web.Hop.{Hop}
use Rattle.pd_web.specs.declared.web.Web.{Web}
use Rattle.pd_web.specs.Changes.{line_told, hop_at, HasRoom, Joins, Meet}
use Rattle.pd_web.specs.Hops.{fan_keys, feed_keys, fan_hops, feed_hops, places_of, hop_to, hop_from}
use Rattle.pd_web.specs.Lines.{fed_from, feeding}
use Rattle.pd_web.proofs.CountLemmas.{joined_is_one_more}
use Rattle.pd_moving.proofs.MeetLemmas.{same_port, joined_meet}
use Rattle.pd_instances.specs.Lay.{LaysLines}

-- Lines picked.

pick_here : (f : Line → ℕ × ℕ) (p : Line → Bool) (l : Line) → p l ≡ true → map f (filter p (l ∷ [])) ≡ f l ∷ []
pick_here f p l t = ap (λ b. map f (cond b (l ∷ []) [])) t

pick_none : (f : Line → ℕ × ℕ) (p : Line → Bool) (l : Line) → p l ≡ false → map f (filter p (l ∷ [])) ≡ []
pick_none f p l t = ap (λ b. map f (cond b (l ∷ []) [])) t

pick_append : (f : Line → ℕ × ℕ) (p : Line → Bool) (xs ys : List Line) → map f (filter p (xs ++ ys)) ≡ map f (filter p xs) ++ map f (filter p ys)
pick_append f p xs ys = ap (map f) (filter-append p xs ys) ∙ map-append f (filter p xs) (filter p ys)

pub fed_append : (k o : ℕ) (xs ys : List Line) → fed_from k o (xs ++ ys) ≡ fed_from k o xs ++ fed_from k o ys
fed_append k o = pick_append (λ (l : Line). (l.sink, l.inlet)) (λ (l : Line). l.source == k && l.outlet == o)

pub feeding_append : (k i : ℕ) (xs ys : List Line) → feeding k i (xs ++ ys) ≡ feeding k i xs ++ feeding k i ys
feeding_append k i = pick_append (λ (l : Line). (l.source, l.outlet)) (λ (l : Line). l.sink == k && l.inlet == i)

both_same : (a b : ℕ) → (a == a && b == b) ≡ true
both_same a b = ap (λ x. x && b == b) (same_test a) ∙ same_test b

and_none : (b : Bool) → (b && false) ≡ false
and_none true = refl
and_none false = refl

-- one of two numbers is another
one_other : (a b k o : ℕ) → (k ≡ a → o ≢ b) → (a == k && b == o) ≡ false
one_other a b k o ne = elim (cases_eq a k) [
  | inl e ↦ ap (λ x. (a == k) && x) (other_test b o (λ f. ne (sym e) (sym f))) ∙ and_none (a == k)
  | inr d ↦ ap (λ x. x && b == o) (other_test a k d)
]

no_first : {X : Type 0} (x : X) (xs : List X) → x ∷ xs ≡ [] → ⊥
no_first x xs e = let l : suc (length xs) ≡ 0 = ap length e in absurd (omega (arith, l))

-- One wire.

module _ (w v : Web) (l : Line) (key : ℕ) (J : Joins w v key l (length (fan_keys w l.source l.outlet)) (length (feed_keys w l.sink l.inlet))) where
  fan_last : fan_hops v l.source l.outlet ≡ fan_hops w l.source l.outlet ++ hop_at key l.sink l.inlet ∷ []
  fan_last =
      J.fan ∙ ap (λ (n : ℕ). insert (fan_hops w l.source l.outlet) n (hop_at key l.sink l.inlet)) (sym (length-map (fan_keys w l.source l.outlet) (hop_to w)))
      ∙ insert_end (fan_hops w l.source l.outlet) (hop_at key l.sink l.inlet)

  feed_last : feed_hops v l.sink l.inlet ≡ feed_hops w l.sink l.inlet ++ hop_at key l.source l.outlet ∷ []
  feed_last =
      J.feeds ∙ ap (λ (n : ℕ). insert (feed_hops w l.sink l.inlet) n (hop_at key l.source l.outlet)) (sym (length-map (feed_keys w l.sink l.inlet) (hop_from w)))
      ∙ insert_end (feed_hops w l.sink l.inlet) (hop_at key l.source l.outlet)

  abbrev Fanned : ℕ → ℕ → Type 0
  Fanned k o = places_of (fan_hops v k o) ≡ places_of (fan_hops w k o) ++ fed_from k o (l ∷ [])

  abbrev Fed : ℕ → ℕ → Type 0
  Fed k i = places_of (feed_hops v k i) ≡ places_of (feed_hops w k i) ++ feeding k i (l ∷ [])

  fed_here : fed_from l.source l.outlet (l ∷ []) ≡ (l.sink, l.inlet) ∷ []
  fed_here = pick_here (λ (x : Line). (x.sink, x.inlet)) (λ (x : Line). x.source == l.source && x.outlet == l.outlet) l (both_same l.source l.outlet)

  feeding_here : feeding l.sink l.inlet (l ∷ []) ≡ (l.source, l.outlet) ∷ []
  feeding_here = pick_here (λ (x : Line). (x.source, x.outlet)) (λ (x : Line). x.sink == l.sink && x.inlet == l.inlet) l (both_same l.sink l.inlet)

  fan_here : Fanned l.source l.outlet
  fan_here =
      ap places_of fan_last ∙ map-append (λ (h : Hop). (h.node, h.port)) (fan_hops w l.source l.outlet) (hop_at key l.sink l.inlet ∷ [])
      ∙ ap (λ ps. places_of (fan_hops w l.source l.outlet) ++ ps) (sym fed_here)

  feed_here : Fed l.sink l.inlet
  feed_here =
      ap places_of feed_last ∙ map-append (λ (h : Hop). (h.node, h.port)) (feed_hops w l.sink l.inlet) (hop_at key l.source l.outlet ∷ [])
      ∙ ap (λ ps. places_of (feed_hops w l.sink l.inlet) ++ ps) (sym feeding_here)

  fan_there : (k o : ℕ) → (k ≡ l.source → o ≢ l.outlet) → Fanned k o
  fan_there k o ne =
      ap places_of (J.other_fans k o ne) ∙ sym (append-nil (places_of (fan_hops w k o)))
      ∙ ap (λ ps. places_of (fan_hops w k o) ++ ps) (sym (pick_none (λ (x : Line). (x.sink, x.inlet)) (λ (x : Line). x.source == k && x.outlet == o) l (one_other l.source l.outlet k o ne)))

  feed_there : (k i : ℕ) → (k ≡ l.sink → i ≢ l.inlet) → Fed k i
  feed_there k i ne =
      ap places_of (J.other_feeds k i ne) ∙ sym (append-nil (places_of (feed_hops w k i)))
      ∙ ap (λ ps. places_of (feed_hops w k i) ++ ps) (sym (pick_none (λ (x : Line). (x.source, x.outlet)) (λ (x : Line). x.sink == k && x.inlet == i) l (one_other l.sink l.inlet k i ne)))

  pub one_laid : LaysLines w v (l ∷ [])
  one_laid = record {
    fans = λ k o. same_port k o l.source l.outlet
        (λ a b. subst (λ n. Fanned n o) (sym a) (subst (λ m. Fanned l.source m) (sym b) fan_here)) (fan_there k o);
    feeds = λ k i. same_port k i l.sink l.inlet
        (λ a b. subst (λ n. Fed n i) (sym a) (subst (λ m. Fed l.sink m) (sym b) feed_here)) (feed_there k i);
    same_fans = λ k o none. same_port k o l.source l.outlet
        (λ a b. absurd (no_first (l.sink, l.inlet) [] (sym fed_here ∙ ap (λ n. fed_from n l.outlet (l ∷ [])) (sym a) ∙ ap (λ m. fed_from k m (l ∷ [])) (sym b) ∙ none)))
        (J.other_fans k o);
    same_feeds = λ k i none. same_port k i l.sink l.inlet
        (λ a b. absurd (no_first (l.source, l.outlet) [] (sym feeding_here ∙ ap (λ n. feeding n l.inlet (l ∷ [])) (sym a) ∙ ap (λ m. feeding k m (l ∷ [])) (sym b) ∙ none)))
        (J.other_feeds k i);
    lines = λ k m h. J.other_lines k (λ same. none-some m (sym J.was_vacant ∙ ap (line_told w) (sym same) ∙ h)) ∙ h;
    kept = J.kept;
    count = joined_is_one_more w v key l (length (fan_keys w l.source l.outlet)) (length (feed_keys w l.sink l.inlet)) J;
    meet = λ m. joined_meet w v key l (length (fan_keys w l.source l.outlet)) (length (feed_keys w l.sink l.inlet)) J m;
    room = λ k p n r. J.room k p n (record { boxes = r.boxes; homes = r.homes; ends = (let x = r.ends in omega (arith, x)); wires = (let x = r.wires in omega (arith, x)) });
  }

-- No wire, and some and then others.

pub none_laid : (w : Web) → LaysLines w w []
none_laid w = record {
  fans = λ k o. sym (append-nil (places_of (fan_hops w k o)));
  feeds = λ k i. sym (append-nil (places_of (feed_hops w k i)));
  same_fans = λ k o none. refl;
  same_feeds = λ k i none. refl;
  lines = λ k l h. h;
  kept = record { ports = λ side k. refl; made = λ k. refl; homes = λ j. refl };
  count = omega arith;
  meet = λ m. m;
  room = λ k p n r. record { boxes = r.boxes; homes = r.homes; ends = (let x = r.ends in omega (arith, x)); wires = (let x = r.wires in omega (arith, x)) };
}

no_left : {X : Type 0} (xs ys : List X) → xs ++ ys ≡ [] → xs ≡ []
no_left [] ys e = refl
no_left (x ∷ xs) ys e = absurd (no_first x (xs ++ ys) e)

no_right : {X : Type 0} (xs ys : List X) → xs ++ ys ≡ [] → ys ≡ []
no_right [] ys e = e
no_right (x ∷ xs) ys e = absurd (no_first x (xs ++ ys) e)

pub more_laid : (u v w : Web) (ls ms : List Line) → LaysLines u v ls → LaysLines v w ms → LaysLines u w (ls ++ ms)
more_laid u v w ls ms a b = record {
  fans = λ k o.
      b.fans k o ∙ ap (λ ps. ps ++ fed_from k o ms) (a.fans k o) ∙ append_assoc (places_of (fan_hops u k o)) (fed_from k o ls) (fed_from k o ms)
      ∙ ap (λ ps. places_of (fan_hops u k o) ++ ps) (sym (fed_append k o ls ms));
  feeds = λ k i.
      b.feeds k i ∙ ap (λ ps. ps ++ feeding k i ms) (a.feeds k i) ∙ append_assoc (places_of (feed_hops u k i)) (feeding k i ls) (feeding k i ms)
      ∙ ap (λ ps. places_of (feed_hops u k i) ++ ps) (sym (feeding_append k i ls ms));
  same_fans = λ k o none.
      let e : fed_from k o ls ++ fed_from k o ms ≡ [] = sym (fed_append k o ls ms) ∙ none in
      b.same_fans k o (no_right (fed_from k o ls) (fed_from k o ms) e) ∙ a.same_fans k o (no_left (fed_from k o ls) (fed_from k o ms) e);
  same_feeds = λ k i none.
      let e : feeding k i ls ++ feeding k i ms ≡ [] = sym (feeding_append k i ls ms) ∙ none in
      b.same_feeds k i (no_right (feeding k i ls) (feeding k i ms) e) ∙ a.same_feeds k i (no_left (feeding k i ls) (feeding k i ms) e);
  lines = λ k l h. b.lines k l (a.lines k l h);
  kept = record { ports = λ side k. b.kept.ports side k ∙ a.kept.ports side k; made = λ k. b.kept.made k ∙ a.kept.made k; homes = λ j. b.kept.homes j ∙ a.kept.homes j };
  count = (let x = a.count in let y = b.count in let n = length-append ls ms in omega (arith, x, y, n));
  meet = λ m. b.meet (a.meet m);
  room = λ k p n r.
      let len = length-append ls ms in
      b.room k p n (a.room k (p + 2 * length ms) (n + length ms)
      (record { boxes = r.boxes; homes = r.homes; ends = (let x = r.ends in omega (arith, x, len)); wires = (let x = r.wires in omega (arith, x, len)) }));
}
