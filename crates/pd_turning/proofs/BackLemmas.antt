-- A fan-out into which wires come back.
use Rattle.std.proofs.Common.{◌≡◌, ◌≢◌, ℕ, zero, suc, ◌+◌, ◌≤◌, ◌==◌, ◌||◌, Bool, true, false, cond, not, List, [], ◌∷◌, ◌++◌, drop, filter, length, slice_get, Some, None, refl, sym, ap, ◌∙◌, subst, inl, inr, eqb-true, arith}
use Rattle.std.specs.Prelude.{◌⊎◌}
use Rattle.std.specs.List.{insert}
use mathlib.Core.Logic.{⊎_elim}
use Rattle.std.proofs.lemmas.List.{length-map}
use Rattle.std.proofs.lemmas.List.Elements.{filter-append}
use Rattle.std.proofs.lemmas.Option.{none-some, same_Some, slice_get_past}
use Rattle.pd_wire.specs.Book.{StandsAt}
use Rattle.pd_web.specs.declared.lines.Line.{Line}
use Rattle.pd_web.specs.declared.web.Hop.{Hop}
use Rattle.pd_web.specs.declared.web.Web.{Web}
use Rattle.pd_web.specs.Hops.{fan_hops, fan_keys, hop_to, places_of}
use Rattle.pd_web.specs.Wiring.{sink_at}
use Rattle.pd_web.specs.Changes.{hop_at}
use Rattle.pd_web.proofs.HopLemmas.{key_listed}
use Rattle.pd_misfits.specs.declared.wires.BoxWire.{BoxWire}
use Rattle.pd_misfits.specs.Shedding.{is_among, is_left, AreWiresAt, IsWired}
use Rattle.pd_misfits.proofs.ListLemmas.{in_listed, listed_in, IsIn}
use Rattle.pd_misfits.proofs.ShedLemmas.{among_some}
use Rattle.pd_turning.specs.Notes.{first_left, hops_behind, FollowFans, StandOnce}
use Rattle.pd_turning.proofs.ListLemmas.{among_at, among_here, by_cases, filter_like, get_seam, insert_seam, not_left, yes_no}
use Rattle.pd_turning.proofs.BehindLemmas.{hop_of, line_same, next_is, wire_fanned, Fanned, Lacks}

-- Alike lists.

-- the same ports at the other ends, and the same wires but for those of the list
abbrev pub AreLike : List BoxWire → List Hop → List Hop → Type 0
AreLike ms [] [] = Unit {0}
AreLike ms [] (y ∷ ys) = ⊥
AreLike ms (x ∷ xs) [] = ⊥
AreLike ms (x ∷ xs) (y ∷ ys) = ((x.node ≡ y.node) × (x.port ≡ y.port) × (is_left ms y ≡ true → x ≡ y)) × AreLike ms xs ys

pub like_self : (ms : List BoxWire) (xs : List Hop) → AreLike ms xs xs
like_self ms [] = tt
like_self ms (x ∷ xs) = ((refl, refl, λ t. refl), like_self ms xs)

pub record Split (ms : List BoxWire) (xs ys zs : List Hop) : Type 0 where
  pub front : List Hop
  pub back : List Hop
  pub parts : xs ≡ front ++ back
  pub front_like : AreLike ms front ys
  pub back_like : AreLike ms back zs

pub like_split : (ms : List BoxWire) (xs ys zs : List Hop) → AreLike ms xs (ys ++ zs) → Split ms xs ys zs
like_split ms xs [] zs L = record { front = []; back = xs; parts = refl; front_like = tt; back_like = L }
like_split ms [] (y ∷ ys) zs L = absurd L
like_split ms (x ∷ xs) (y ∷ ys) zs L =
    let S = like_split ms xs ys zs L.1 in
    record { front = x ∷ S.front; back = S.back; parts = ap (λ (ws : List Hop). x ∷ ws) S.parts; front_like = (L.0, S.front_like); back_like = S.back_like }

pub like_join : (ms : List BoxWire) (us vs ys zs : List Hop) → AreLike ms us ys → AreLike ms vs zs → AreLike ms (us ++ vs) (ys ++ zs)
like_join ms [] vs [] zs L M = M
like_join ms [] vs (y ∷ ys) zs L M = absurd L
like_join ms (u ∷ us) vs [] zs L M = absurd L
like_join ms (u ∷ us) vs (y ∷ ys) zs L M = (L.0, like_join ms us vs ys zs L.1 M)

pub like_first : (ms : List BoxWire) (xs ys : List Hop) (h : Hop) → AreLike ms xs ys → slice_get ys 0 ≡ Some h → is_left ms h ≡ true → slice_get xs 0 ≡ Some h
like_first ms [] [] h L e t = e
like_first ms [] (y ∷ ys) h L e t = absurd L
like_first ms (x ∷ xs) [] h L e t = absurd L
like_first ms (x ∷ xs) (y ∷ ys) h L e t =
    let same = same_Some y h e in
    ap (λ (z : Hop). Some z) (L.0.2 (ap (is_left ms) same ∙ t) ∙ same)

pub like_none : (ms : List BoxWire) (xs ys : List Hop) → AreLike ms xs ys → ys ≡ [] → xs ≡ []
like_none ms [] ys L e = refl
like_none ms (x ∷ xs) [] L e = absurd L
like_none ms (x ∷ xs) (y ∷ ys) L e = absurd (some_none e)
  where
    some_none : y ∷ ys ≡ [] → ⊥
    some_none q = cc

pub like_places : (ms : List BoxWire) (xs ys : List Hop) → AreLike ms xs ys → places_of xs ≡ places_of ys
like_places ms [] [] L = refl
like_places ms [] (y ∷ ys) L = absurd L
like_places ms (x ∷ xs) [] L = absurd L
like_places ms (x ∷ xs) (y ∷ ys) L =
    ap (λ n. (n, x.port) ∷ places_of xs) L.0.0 ∙ ap (λ q. (y.node, q) ∷ places_of xs) L.0.1 ∙ ap (λ (ps : List (ℕ × ℕ)). (y.node, y.port) ∷ ps) (like_places ms xs ys L.1)

pub like_keys : (ms : List BoxWire) (xs ys : List Hop) (i : ℕ) (h : Hop) → AreLike ms xs ys → slice_get ys i ≡ Some h → is_left ms h ≡ true → slice_get xs i ≡ Some h
like_keys ms xs [] i h L e t = absurd (none-some h e)
like_keys ms [] (y ∷ ys) i h L e t = absurd L
like_keys ms (x ∷ xs) (y ∷ ys) zero h L e t = like_first ms (x ∷ xs) (y ∷ ys) h L e t
like_keys ms (x ∷ xs) (y ∷ ys) (suc i) h L e t = like_keys ms xs ys i h L.1 e t

-- Those of the list that are still to come.

pub drop_at : (ms : List BoxWire) (i : ℕ) (m : BoxWire) → slice_get ms i ≡ Some m → drop i ms ≡ m ∷ drop (i + 1) ms
drop_at [] i m e = absurd (none-some m e)
drop_at (x ∷ ms) zero m e = ap (λ (y : BoxWire). y ∷ ms) (same_Some x m e)
drop_at (x ∷ ms) (suc i) m e = drop_at ms i m e ∙ let on : suc (i + 1) ≡ suc i + 1 = omega arith in ap (λ n. m ∷ drop n (x ∷ ms)) on

pub in_drop : (ms : List BoxWire) (i j : ℕ) (n : BoxWire) → slice_get ms j ≡ Some n → i ≤ j → IsIn n (drop i ms)
in_drop [] i j n e l = absurd (none-some n e)
in_drop (x ∷ ms) zero j n e l = in_listed n (x ∷ ms) j e
in_drop (x ∷ ms) (suc i) zero n e l = absurd (omega (arith, l))
in_drop (x ∷ ms) (suc i) (suc j) n e l = in_drop ms i j n e (omega (arith, l))

pub from_drop : (ms : List BoxWire) (i : ℕ) (n : BoxWire) → IsIn n (drop i ms) → (j : ℕ) × ((i ≤ j) × (slice_get ms j ≡ Some n))
from_drop [] zero n h = absurd h
from_drop [] (suc i) n h = absurd h
from_drop (x ∷ ms) zero n h = let l = listed_in n (x ∷ ms) h in (l.0, (omega arith, l.1))
from_drop (x ∷ ms) (suc i) n h = let r = from_drop ms i n h in let l = r.1.0 in (suc r.0, (omega (arith, l), r.1.1))

-- what is none of the list is none of those to come
pub left_of_fewer : (ms : List BoxWire) (i : ℕ) (h : Hop) → is_left ms h ≡ true → is_left (drop i ms) h ≡ true
left_of_fewer ms i h t = by_cases (is_left (drop i ms) h) (λ e. e)
    (λ e.
    let s = among_some (drop i ms) h.key (not_left (drop i ms) h e) in
    let r = from_drop ms i s.0 s.1.0 in
    absurd (yes_no (sym t ∙ ap not (among_at ms r.0 s.0 h.key r.1.1 s.1.1))))

module _ (w : Web) (box : ℕ) (ms : List BoxWire) (A : AreWiresAt w box ms) (F : FollowFans w ms) (W : IsWired w) (once : StandOnce w) where
  -- The first wire behind one of the list that is not to come is the first that is none of the list.
  pub first_kept : (i j : ℕ) (m : BoxWire) (rest : List Hop) → i ≤ j → slice_get ms j ≡ Some m → hops_behind w m ≡ rest
      → ((first_left ms rest ≡ None) × (filter (is_left (drop i ms)) rest ≡ [])) ⊎ ((h : Hop) × (first_left ms rest ≡ Some h.key) × (slice_get (filter (is_left (drop i ms)) rest) 0 ≡ Some h) × (is_left ms h ≡ true))
  first_kept i j m [] l at e = inl (refl, refl)
  first_kept i j m (h ∷ rest) l at e =
      let passed = λ (k : Bool) (q : is_left (drop i ms) h ≡ k). ap (λ b. cond b (h ∷ filter (is_left (drop i ms)) rest) (filter (is_left (drop i ms)) rest)) q in
      let told = λ (k : Bool) (q : is_left ms h ≡ k). ap (λ b. cond b (Some h.key) (first_left ms rest)) q in
      by_cases (is_left ms h)
      (λ t. inr (h, told true t, ap (λ (xs : List Hop). slice_get xs 0) (passed true (left_of_fewer ms i h t)), t))
      (λ t.
      let N = next_is w box ms A F W once j m h rest at e t in
      let gone : is_left (drop i ms) h ≡ false = ap not (ap (is_among (drop i ms)) (sym N.key) ∙ among_here (drop i ms) N.of (in_drop ms i (j + 1) N.of N.at (omega (arith, l)))) in
      ⊎_elim
      (λ (x : (first_left ms rest ≡ None) × (filter (is_left (drop i ms)) rest ≡ [])). inl (told false t ∙ x.0, passed false gone ∙ x.1))
      (λ (x : (g : Hop) × (first_left ms rest ≡ Some g.key) × (slice_get (filter (is_left (drop i ms)) rest) 0 ≡ Some g) × (is_left ms g ≡ true)).
      inr (x.0, told false t ∙ x.1, ap (λ (xs : List Hop). slice_get xs 0) (passed false gone) ∙ x.2, x.3))
      (first_kept i (j + 1) N.of rest (omega (arith, l)) N.at N.is_behind))

  -- One wire comes back.
  module _ (i : ℕ) (m : BoxWire) (at : slice_get ms i ≡ Some m) where
    pub not_again : is_among (drop (i + 1) ms) m.key ≡ false
    not_again = by_cases (is_among (drop (i + 1) ms) m.key)
        (λ t.
        let s = among_some (drop (i + 1) ms) m.key t in
        let r = from_drop ms (i + 1) s.0 s.1.0 in
        let same = A.once i r.0 m s.0 at r.1.1 s.1.1 in
        let l = r.1.0 in
        absurd (omega (arith, same, l)))
        (λ t. t)

    kept_both : (h : Hop) → h.key ≢ m.key → is_left (drop i ms) h ≡ is_left (drop (i + 1) ms) h
    kept_both h differ = ap (λ (ns : List BoxWire). is_left ns h) (drop_at ms i m at) ∙ ap (λ b. not (b || is_among (drop (i + 1) ms) h.key)) (by_cases (h.key == m.key) (λ t. absurd (differ (eqb-true h.key m.key t))) (λ t. t))

    pub gone_now : is_left (drop i ms) (hop_of m) ≡ false
    gone_now = ap not (among_here (drop i ms) m (in_drop ms i i m at (omega arith)))

    pub kept_then : is_left (drop (i + 1) ms) (hop_of m) ≡ true
    kept_then = ap not not_again

    pub same_filter : (hops : List Hop) → Lacks hops m.key → filter (is_left (drop i ms)) hops ≡ filter (is_left (drop (i + 1) ms)) hops
    same_filter hops lacks = filter_like (is_left (drop i ms)) (is_left (drop (i + 1) ms)) hops (λ h is_in. let l = listed_in h hops is_in in kept_both h (lacks l.0 h l.1))

    -- every other fan-out
    pub others_like : (node outlet : ℕ) → (node ≡ m.line.source → outlet ≢ m.line.outlet) → filter (is_left (drop i ms)) (fan_hops w node outlet) ≡ filter (is_left (drop (i + 1) ms)) (fan_hops w node outlet)
    others_like node outlet other = same_filter (fan_hops w node outlet)
        (λ place h stands e.
        let line = line_same w box ms A F W once node outlet i place h m stands at (sym e) in
        other (sym (ap (λ (l : Line). l.source) line)) (sym (ap (λ (l : Line). l.outlet) line)))

    pub fan_parts : Fanned w m.line.source m.line.outlet (hop_of m)
    fan_parts = wire_fanned w box ms A F W once i m at

    abbrev pub before_it : List Hop
    before_it = filter (is_left (drop i ms)) fan_parts.ahead

    abbrev pub behind_it : List Hop
    behind_it = filter (is_left (drop i ms)) fan_parts.rest

    pub lacked : filter (is_left (drop i ms)) (fan_hops w m.line.source m.line.outlet) ≡ before_it ++ behind_it
    lacked =
        ap (filter (is_left (drop i ms))) fan_parts.parts ∙ filter-append (is_left (drop i ms)) fan_parts.ahead (hop_of m ∷ fan_parts.rest)
        ∙ ap (λ b. before_it ++ cond b (hop_of m ∷ behind_it) behind_it) gone_now

    pub had : filter (is_left (drop (i + 1) ms)) (fan_hops w m.line.source m.line.outlet) ≡ before_it ++ hop_of m ∷ behind_it
    had =
        ap (filter (is_left (drop (i + 1) ms))) fan_parts.parts ∙ filter-append (is_left (drop (i + 1) ms)) fan_parts.ahead (hop_of m ∷ fan_parts.rest)
        ∙ ap (λ b. filter (is_left (drop (i + 1) ms)) fan_parts.ahead ++ cond b (hop_of m ∷ filter (is_left (drop (i + 1) ms)) fan_parts.rest) (filter (is_left (drop (i + 1) ms)) fan_parts.rest)) kept_then
        ∙ ap (λ (xs : List Hop). xs ++ hop_of m ∷ filter (is_left (drop (i + 1) ms)) fan_parts.rest) (sym (same_filter fan_parts.ahead fan_parts.lacks))
        ∙ ap (λ (xs : List Hop). before_it ++ hop_of m ∷ xs) (sym (same_filter fan_parts.rest fan_parts.lacks_too))

    -- where it comes in
    pub record ComesIn (q : Web) : Type 0 where
      pub place : ℕ
      pub stands : StandsAt (fan_keys q m.line.source m.line.outlet) place (first_left ms (hops_behind w m))
      pub like : (key : ℕ) → AreLike ms (insert (fan_hops q m.line.source m.line.outlet) place (hop_at key m.line.sink m.line.inlet)) (filter (is_left (drop (i + 1) ms)) (fan_hops w m.line.source m.line.outlet))

    pub comes_in : (q : Web) → AreLike ms (fan_hops q m.line.source m.line.outlet) (filter (is_left (drop i ms)) (fan_hops w m.line.source m.line.outlet)) → ComesIn q
    comes_in q L =
        let fan = fan_hops q m.line.source m.line.outlet in
        let keys = fan_keys q m.line.source m.line.outlet in
        let S = like_split ms fan before_it behind_it (subst (AreLike ms fan) lacked L) in
        let place = length S.front in
        let len : length fan ≡ length keys = length-map keys (hop_to q) in
        let all : length fan ≡ length S.front + length S.back = ap length S.parts ∙ length_parts S.front S.back in
        let first : slice_get fan place ≡ slice_get S.back 0 = ap (λ (xs : List Hop). slice_get xs place) S.parts ∙ get_seam S.front S.back in
        let stands : slice_get keys place ≡ first_left ms (hops_behind w m) = ⊎_elim
        (λ (x : (first_left ms fan_parts.rest ≡ None) × (behind_it ≡ [])).
        let none = ap length (like_none ms S.back behind_it S.back_like x.1) in
        slice_get_past keys place (omega (arith, len, all, none)) ∙ sym (ap (first_left ms) fan_parts.is_behind ∙ x.0))
        (λ (x : (h : Hop) × (first_left ms fan_parts.rest ≡ Some h.key) × (slice_get behind_it 0 ≡ Some h) × (is_left ms h ≡ true)).
        key_listed (λ k. slice_get q.spots.items (sink_at q.book k)) keys place x.0 (first ∙ like_first ms S.back behind_it x.0 S.back_like x.2 x.3) ∙ sym (ap (first_left ms) fan_parts.is_behind ∙ x.1))
        (first_kept i i m fan_parts.rest (omega arith) at fan_parts.is_behind) in
        record {
          place = place;
          stands = (omega (arith, len, all), stands);
          like = λ key.
              let h : Hop = hop_at key m.line.sink m.line.inlet in
              subst (λ (xs : List Hop). AreLike ms (insert xs place h) (filter (is_left (drop (i + 1) ms)) (fan_hops w m.line.source m.line.outlet))) (sym S.parts)
              (subst (λ (xs : List Hop). AreLike ms xs (filter (is_left (drop (i + 1) ms)) (fan_hops w m.line.source m.line.outlet))) (sym (insert_seam S.front S.back h))
              (subst (AreLike ms (S.front ++ h ∷ S.back)) (sym had)
              (like_join ms S.front (h ∷ S.back) before_it (hop_of m ∷ behind_it) S.front_like
              ((refl, refl, λ t. absurd (yes_no (sym t ∙ ap not (among_at ms i m m.key at refl)))), S.back_like))));
        }
      where
        length_parts : (xs ys : List Hop) → length (xs ++ ys) ≡ length xs + length ys
        length_parts [] ys = omega arith
        length_parts (x ∷ xs) ys = let r = length_parts xs ys in omega (arith, r)
