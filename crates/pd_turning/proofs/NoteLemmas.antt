-- Wires that are noted, from the last to the first.
use Rattle.std.proofs.Common.{◌≡◌, ℕ, zero, suc, ◌+◌, ◌-◌, false, cond, not, List, [], ◌∷◌, ◌++◌, drop, length, map, reverse, slice_get, Option, Some, None, refl, sym, ap, ◌∙◌, arith}
use Rattle.std.specs.Prelude.{option_map}
use Rattle.std.proofs.lemmas.List.{length-append, reverse-append}
use Rattle.std.proofs.lemmas.Option.{none-some, same_Some, slice_get-map}
use Rattle.pd_web.specs.declared.sockets.Spot.{Spot}
use Rattle.pd_web.specs.declared.web.Hop.{Hop}
use Rattle.pd_web.specs.declared.web.Web.{Web}
use Rattle.pd_web.specs.Hops.{fan_hops, fan_keys, hop_by, hop_to}
use Rattle.pd_web.specs.Wiring.{sink_at}
use Rattle.pd_misfits.specs.declared.wires.BoxWire.{BoxWire}
use Rattle.pd_misfits.specs.Shedding.{is_left, AreWiresAt, IsWired}
use Rattle.pd_turning.specs.declared.noting.NotedWire.{NotedWire}
use Rattle.pd_turning.specs.Notes.{first_left, hops_behind, note_of, notes_of, FollowFans, StandOnce}
use Rattle.pd_turning.proofs.ListLemmas.{among_at, by_cases, get_right, get_seam}
use Rattle.pd_turning.proofs.BehindLemmas.{hop_of, next_is, wire_fanned}

-- Lists from behind.

drop_here : {X : Type 0} (xs : List X) (i : ℕ) (x : X) → slice_get xs i ≡ Some x → drop i xs ≡ x ∷ drop (i + 1) xs
drop_here [] i x e = absurd (none-some x e)
drop_here {X} (y ∷ xs) zero x e = ap (λ (z : X). z ∷ xs) (same_Some y x e)
drop_here (y ∷ xs) (suc i) x e = drop_here xs i x e ∙ let on : suc (i + 1) ≡ suc i + 1 = omega arith in ap (λ n. x ∷ drop n (y ∷ xs)) on

pub one_noted : (w : Web) (ms : List BoxWire) (i : ℕ) (m : BoxWire) → slice_get ms i ≡ Some m → reverse (drop (i + 1) (notes_of w ms)) ++ note_of w ms m ∷ [] ≡ reverse (drop i (notes_of w ms))
one_noted w ms i m at =
    let told : slice_get (notes_of w ms) i ≡ Some (note_of w ms m) = slice_get-map (note_of w ms) ms i ∙ ap (option_map (note_of w ms)) at in
    sym (ap reverse (drop_here (notes_of w ms) i (note_of w ms m) told) ∙ reverse-append (note_of w ms m ∷ []) (drop (i + 1) (notes_of w ms)))

pub last_is : (w : Web) (ms : List BoxWire) (i : ℕ) (n : BoxWire) (xs : List NotedWire) → slice_get ms i ≡ Some n → xs ≡ reverse (drop i (notes_of w ms)) → slice_get xs (length xs - 1) ≡ Some (note_of w ms n)
last_is w ms i n xs at e =
    let before = reverse (drop (i + 1) (notes_of w ms)) in
    let parts : xs ≡ before ++ note_of w ms n ∷ [] = e ∙ sym (one_noted w ms i n at) in
    let len : length xs ≡ length before + 1 = ap length parts ∙ length-append before (note_of w ms n ∷ []) in
    let place : length xs - 1 ≡ length before = omega (arith, len) in
    ap (slice_get xs) place ∙ ap (λ (ys : List NotedWire). slice_get ys (length before)) parts ∙ get_seam before (note_of w ms n ∷ [])

pub none_noted : (w : Web) (ms : List BoxWire) → reverse (drop (length ms) (notes_of w ms)) ≡ []
none_noted w ms = ap reverse (step ms)
  where
    step : (ns : List BoxWire) → drop (length ns) (map (note_of w ms) ns) ≡ []
    step [] = refl
    step (n ∷ ns) = step ns

-- The key behind a wire.

key_kept : (k : ℕ) (o : Option Spot) → (hop_by k o).key ≡ k
key_kept k None = refl
key_kept k (Some s) = refl

keys_told : (w : Web) (o : Option ℕ) → option_map (λ (h : Hop). h.key) (option_map (hop_to w) o) ≡ o
keys_told w None = refl
keys_told w (Some k) = ap (λ (x : ℕ). Some x) (key_kept k (slice_get w.spots.items (sink_at w.book k)))

pub keys_back : (w : Web) (keys : List ℕ) (r : Option ℕ) (i : ℕ) → option_map (hop_to w) r ≡ slice_get (map (hop_to w) keys) i → r ≡ slice_get keys i
keys_back w keys r i e = sym (keys_told w r) ∙ ap (option_map (λ (h : Hop). h.key)) (e ∙ slice_get-map (hop_to w) keys i) ∙ keys_told w (slice_get keys i)

-- what stands behind a wire, as it is asked for
abbrev pub IsBehind : Web → BoxWire → Option ℕ → Type 0
IsBehind w m r = (i : ℕ) → slice_get (fan_hops w m.line.source m.line.outlet) i ≡ Some (hop_of m) → r ≡ slice_get (fan_keys w m.line.source m.line.outlet) (i + 1)

abbrev pub key_first : List Hop → Option ℕ
key_first hops = option_map (λ (h : Hop). h.key) (slice_get hops 0)

module _ (w : Web) (box : ℕ) (ms : List BoxWire) (A : AreWiresAt w box ms) (F : FollowFans w ms) (W : IsWired w) (once : StandOnce w) (i : ℕ) (m : BoxWire) (at : slice_get ms i ≡ Some m) where
  key_behind : (place : ℕ) → slice_get (fan_hops w m.line.source m.line.outlet) place ≡ Some (hop_of m) → slice_get (fan_keys w m.line.source m.line.outlet) (place + 1) ≡ key_first (hops_behind w m)
  key_behind place stands =
      let B = wire_fanned w box ms A F W once i m at in
      let fan = fan_hops w m.line.source m.line.outlet in
      let keys = fan_keys w m.line.source m.line.outlet in
      let here : slice_get fan (length B.ahead) ≡ Some (hop_of m) = ap (λ (xs : List Hop). slice_get xs (length B.ahead)) B.parts ∙ get_seam B.ahead (hop_of m ∷ B.rest) in
      let same : place ≡ length B.ahead = once m.line.source m.line.outlet place (length B.ahead) (hop_of m) (hop_of m) stands here refl in
      let next : slice_get fan (place + 1) ≡ slice_get B.rest 0 = ap (λ n. slice_get fan (n + 1)) same ∙ ap (λ (xs : List Hop). slice_get xs (length B.ahead + 1)) B.parts ∙ get_right B.ahead (hop_of m ∷ B.rest) 1 in
      sym (keys_told w (slice_get keys (place + 1))) ∙ ap (option_map (λ (h : Hop). h.key)) (sym (slice_get-map (hop_to w) keys (place + 1)) ∙ next) ∙ sym (ap key_first B.is_behind)

  pub behind_told : (r : Option ℕ) → IsBehind w m r → r ≡ key_first (hops_behind w m)
  behind_told r told = let L = A.along i m at in told L.place L.stands ∙ key_behind L.place L.stands

  -- nothing stands behind it
  pub last_noted : key_first (hops_behind w m) ≡ None → None ≡ first_left ms (hops_behind w m)
  last_noted e = step (hops_behind w m) refl e
    where
      step : (rest : List Hop) → hops_behind w m ≡ rest → key_first rest ≡ None → None ≡ first_left ms rest
      step [] f e = refl
      step (h ∷ rest) f e = absurd (none-some h.key (sym e))

  -- the wire behind it is the next of the list
  pub next_noted : (k : ℕ) (n : BoxWire) (later : Option ℕ) → key_first (hops_behind w m) ≡ Some k → slice_get ms (i + 1) ≡ Some n → n.key ≡ k → later ≡ first_left ms (hops_behind w n)
      → later ≡ first_left ms (hops_behind w m)
  next_noted k n later e is same was = step (hops_behind w m) refl e
    where
      step : (rest : List Hop) → hops_behind w m ≡ rest → key_first rest ≡ Some k → later ≡ first_left ms rest
      step [] f e = absurd (none-some k e)
      step (h ∷ rest) f e =
          let key : h.key ≡ n.key = same_Some h.key k e ∙ sym same in
          let told : is_left ms h ≡ false = ap not (among_at ms (i + 1) n h.key is key) in
          let N = next_is w box ms A F W once i m h rest at f told in
          let one : N.of ≡ n = same_Some N.of n (sym N.at ∙ is) in
          was ∙ ap (λ (x : BoxWire). first_left ms (hops_behind w x)) (sym one) ∙ ap (first_left ms) N.is_behind
          ∙ sym (ap (λ b. cond b (Some h.key) (first_left ms rest)) told)

  -- or it is none of the list
  pub other_noted : (k : ℕ) → key_first (hops_behind w m) ≡ Some k → ((n : BoxWire) → slice_get ms (i + 1) ≡ Some n → n.key ≡ k → ⊥) → Some k ≡ first_left ms (hops_behind w m)
  other_noted k e none = step (hops_behind w m) refl e
    where
      step : (rest : List Hop) → hops_behind w m ≡ rest → key_first rest ≡ Some k → Some k ≡ first_left ms rest
      step [] f e = absurd (none-some k e)
      step (h ∷ rest) f e = by_cases (is_left ms h)
          (λ t. ap (λ (x : ℕ). Some x) (sym (same_Some h.key k e)) ∙ sym (ap (λ b. cond b (Some h.key) (first_left ms rest)) t))
          (λ t. let N = next_is w box ms A F W once i m h rest at f t in absurd (none N.of N.at (N.key ∙ same_Some h.key k e)))
