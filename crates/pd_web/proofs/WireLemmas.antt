-- A wire more, as the list of joints has it.
use Rattle.std.proofs.Common.{◌≡◌, ◌≢◌, ℕ, zero, suc, ◌<◌, ◌==◌, Bool, true, false, cond, List, [], ◌∷◌, ◌++◌, map, filter, length, get_or, Some, None, refl, sym, ap, ◌∙◌, subst, inl, inr, eq-eqb, ne_eqb, arith}
use Rattle.std.proofs.lemmas.List.{map_push, append-nil}
use Rattle.std.proofs.lemmas.List.Edits.{insert_end}
use Rattle.std.proofs.lemmas.List.Elements.{filter-append}
use Rattle.std.proofs.lemmas.Bool.{cases_eq}
use Rattle.std.proofs.lemmas.Option.{none-some}
use Rattle.pd_wire.specs.Book.{Book, wire_at, fan_of, feeds_of, IsLinked, Adds, with_room}
use Rattle.pd_web.specs.declared.joints.Joint.{Joint}
use Rattle.pd_web.specs.declared.sockets.Spot.{Spot}
use Rattle.pd_web.specs.Sockets.{Grows}
use Rattle.pd_web.specs.Wiring.{source_in, sink_in, source_at, sink_at, sinks_from, sources_to, Holds}

map_same : (f g : ℕ → ℕ) (xs : List ℕ) (d : ℕ) → ((i : ℕ) → i < length xs → f (get_or xs i d) ≡ g (get_or xs i d)) → map f xs ≡ map g xs
map_same f g [] d h = refl
map_same f g (x ∷ xs) d h = ap (λ y. y ∷ map f xs) (h zero (omega arith)) ∙ ap (λ ys. g x ∷ ys) (map_same f g xs d (λ i l. h (suc i) (omega arith)))

filter_yes : {X : Type 0} (p : X → Bool) (xs : List X) (x : X) → p x ≡ true → filter p (xs ++ x ∷ []) ≡ filter p xs ++ x ∷ []
filter_yes p xs x h = filter-append p xs (x ∷ []) ∙ ap (λ b. filter p xs ++ cond b (x ∷ []) []) h

filter_no : {X : Type 0} (p : X → Bool) (xs : List X) (x : X) → p x ≡ false → filter p (xs ++ x ∷ []) ≡ filter p xs
filter_no p xs x h = filter-append p xs (x ∷ []) ∙ ap (λ b. filter p xs ++ cond b (x ∷ []) []) h ∙ append-nil (filter p xs)

sinks_yes : (e : ℕ) (js : List Joint) (j : Joint) → j.source ≡ e → sinks_from e (js ++ j ∷ []) ≡ sinks_from e js ++ j.sink ∷ []
sinks_yes e js j h =
    ap (λ xs. map (λ (x : Joint). x.sink) xs) (filter_yes (λ (x : Joint). x.source == e) js j (eq-eqb j.source e h)) ∙ map_push (λ (x : Joint). x.sink) (filter (λ (x : Joint). x.source == e) js) j

sinks_no : (e : ℕ) (js : List Joint) (j : Joint) → (j.source ≡ e → ⊥) → sinks_from e (js ++ j ∷ []) ≡ sinks_from e js
sinks_no e js j h = ap (λ xs. map (λ (x : Joint). x.sink) xs) (filter_no (λ (x : Joint). x.source == e) js j (ne_eqb j.source e h))

sources_yes : (e : ℕ) (js : List Joint) (j : Joint) → j.sink ≡ e → sources_to e (js ++ j ∷ []) ≡ sources_to e js ++ j.source ∷ []
sources_yes e js j h =
    ap (λ xs. map (λ (x : Joint). x.source) xs) (filter_yes (λ (x : Joint). x.sink == e) js j (eq-eqb j.sink e h)) ∙ map_push (λ (x : Joint). x.source) (filter (λ (x : Joint). x.sink == e) js) j

sources_no : (e : ℕ) (js : List Joint) (j : Joint) → (j.sink ≡ e → ⊥) → sources_to e (js ++ j ∷ []) ≡ sources_to e js
sources_no e js j h = ap (λ xs. map (λ (x : Joint). x.source) xs) (filter_no (λ (x : Joint). x.sink == e) js j (ne_eqb j.sink e h))

-- the new key is none of those that are listed
apart : (b : Book) (key k : ℕ) (p : ℕ × ℕ) → wire_at b key ≡ None → wire_at b k ≡ Some p → k ≢ key
apart b key k p vacant h = λ e. none-some p (sym vacant ∙ ap (wire_at b) (sym e) ∙ h)

fan_sinks : (b b' : Book) (key e : ℕ) → IsLinked b → wire_at b key ≡ None → ((k : ℕ) → k ≢ key → wire_at b' k ≡ wire_at b k) → map (sink_at b') (fan_of b e) ≡ map (sink_at b) (fan_of b e)
fan_sinks b b' key e linked vacant same =
    map_same (sink_at b') (sink_at b) (fan_of b e) e (λ i l.
    let w = linked.fan_wires e i l in ap sink_in (same (get_or (fan_of b e) i e) (apart b key (get_or (fan_of b e) i e) (e, w.0) vacant w.1)))

feed_sources : (b b' : Book) (key e : ℕ) → IsLinked b → wire_at b key ≡ None → ((k : ℕ) → k ≢ key → wire_at b' k ≡ wire_at b k) → map (source_at b') (feeds_of b e) ≡ map (source_at b) (feeds_of b e)
feed_sources b b' key e linked vacant same =
    map_same (source_at b') (source_at b) (feeds_of b e) e (λ i l.
    let w = linked.feed_wires e i l in ap source_in (same (get_or (feeds_of b e) i e) (apart b key (get_or (feeds_of b e) i e) (w.0, e) vacant w.1)))

more_sinks : (b b' : Book) (key : ℕ) (j : Joint) (js : List Joint) → IsLinked b → Adds b b' key j.source (length (fan_of b j.source)) j.sink (length (feeds_of b j.sink)) → Holds b js
    → (e : ℕ) → map (sink_at b') (fan_of b' e) ≡ sinks_from e (js ++ j ∷ [])
more_sinks b b' key j js linked adds holds e =
    let kept = λ (x : ℕ). fan_sinks b b' key x linked adds.was_vacant.1 adds.other_wires in
    elim (cases_eq j.source e) [
      | inl same ↦
          let P : ℕ → Type 0 = λ x. map (sink_at b') (fan_of b' x) ≡ sinks_from x (js ++ j ∷ []) in
          subst P same
          (ap (map (sink_at b')) (adds.fan ∙ insert_end (fan_of b j.source) key)
          ∙ map_push (sink_at b') (fan_of b j.source) key
          ∙ ap (λ x. map (sink_at b') (fan_of b j.source) ++ x ∷ []) (ap sink_in adds.wire)
          ∙ ap (λ xs. xs ++ j.sink ∷ []) (kept j.source ∙ holds.fans j.source)
          ∙ sym (sinks_yes j.source js j refl))
      | inr differ ↦
          ap (map (sink_at b')) (adds.other_fans e (λ h. differ (sym h))) ∙ kept e ∙ holds.fans e ∙ sym (sinks_no e js j differ)
    ]

more_sources : (b b' : Book) (key : ℕ) (j : Joint) (js : List Joint) → IsLinked b → Adds b b' key j.source (length (fan_of b j.source)) j.sink (length (feeds_of b j.sink)) → Holds b js
    → (e : ℕ) → map (source_at b') (feeds_of b' e) ≡ sources_to e (js ++ j ∷ [])
more_sources b b' key j js linked adds holds e =
    let kept = λ (x : ℕ). feed_sources b b' key x linked adds.was_vacant.1 adds.other_wires in
    elim (cases_eq j.sink e) [
      | inl same ↦
          let P : ℕ → Type 0 = λ x. map (source_at b') (feeds_of b' x) ≡ sources_to x (js ++ j ∷ []) in
          subst P same
          (ap (map (source_at b')) (adds.feeds ∙ insert_end (feeds_of b j.sink) key)
          ∙ map_push (source_at b') (feeds_of b j.sink) key
          ∙ ap (λ x. map (source_at b') (feeds_of b j.sink) ++ x ∷ []) (ap source_in adds.wire)
          ∙ ap (λ xs. xs ++ j.source ∷ []) (kept j.sink ∙ holds.feeds j.sink)
          ∙ sym (sources_yes j.sink js j refl))
      | inr differ ↦
          ap (map (source_at b')) (adds.other_feeds e (λ h. differ (sym h))) ∙ kept e ∙ holds.feeds e ∙ sym (sources_no e js j differ)
    ]

pub holds_more : (b b' : Book) (key : ℕ) (j : Joint) (js : List Joint) → IsLinked b → Adds b b' key j.source (length (fan_of b j.source)) j.sink (length (feeds_of b j.sink)) → Holds b js → Holds b' (js ++ j ∷ [])
holds_more b b' key j js linked adds holds = record { fans = more_sinks b b' key j js linked adds holds; feeds = more_sources b b' key j js linked adds holds }

pub holds_with_room : (b : Book) (ends wires : ℕ) (js : List Joint) → Holds b js → Holds (with_room b ends wires) js
holds_with_room b ends wires js h = record { fans = h.fans; feeds = h.feeds }

-- with more ends the wires stay
pub holds_grown : (spots spots' : List Spot) (b b' : Book) (js : List Joint) → Grows spots spots' b b' → Holds b js → Holds b' js
holds_grown spots spots' b b' js grows h = record {
  fans = λ e. ap (map (sink_at b')) (grows.fans e) ∙ map_same (sink_at b') (sink_at b) (fan_of b e) e (λ i l. ap sink_in (grows.wires (get_or (fan_of b e) i e))) ∙ h.fans e;
  feeds = λ e. ap (map (source_at b')) (grows.feeds e) ∙ map_same (source_at b') (source_at b) (feeds_of b e) e (λ i l. ap source_in (grows.wires (get_or (feeds_of b e) i e))) ∙ h.feeds e;
}
