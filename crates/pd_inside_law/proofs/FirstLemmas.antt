-- The wires of a patch that has just grown.
use Rattle.std.proofs.Common.{◌≡◌, ℕ, zero, suc, ◌+◌, ◌≤◌, ◌<◌, List, [], ◌∷◌, map, slice_get, Option, Some, None, IsSome, refl, sym, ap, ◌∙◌, subst, arith}
use Rattle.std.specs.Prelude.{option_map}
use Rattle.std.proofs.lemmas.Option.{none-some, same_Some, slice_get-map}
use Rattle.pd_atom.specs.Names.{Names}
use Rattle.pd_clock.specs.declared.times.Rate.{Rate}
use Rattle.pd_canvas.specs.Pages.{Page}
use Rattle.pd_canvas.specs.Proper.{IsProper}
use Rattle.pd_library.specs.Files.{answer_in}
use Rattle.pd_library.specs.declared.answers.Answer.{Answer}
use Rattle.pd_growth.specs.Growth.{grown}
use Rattle.pd_growth.specs.Steps.{beginning}
use Rattle.pd_order.specs.Graph.{tally}
use Rattle.pd_order.proofs.Basics.{same_test}
use Rattle.pd_wire.specs.Book.{wire_at}
use Rattle.pd_web.specs.declared.lines.Line.{Line}
use Rattle.pd_web.specs.declared.sockets.Spot.{Spot}
use Rattle.pd_web.specs.declared.web.Hop.{Hop}
use Rattle.pd_web.specs.declared.web.Web.{Web}
use Rattle.pd_web.specs.Changes.{hop_at, line_by, line_told, Meet}
use Rattle.pd_web.specs.Hops.{hop_by, hop_to, hop_from, fan_keys, feed_hops, feed_keys}
use Rattle.pd_web.specs.Wiring.{source_at, sink_at}
use Rattle.pd_patch.specs.declared.patch.Patch.{Patch}
use Rattle.pd_patch.specs.Fed.{AreFed}
use Rattle.pd_patch.specs.Grown.{IsTree, IsFresh}
use Rattle.pd_patch.specs.Numbers.{AreApart}
use Rattle.pd_patch.proofs.ListingLemmas.{counted_at}
use Rattle.pd_alike_law.specs.Feeds.{FedOnce}
use Rattle.pd_alike_law.proofs.FeedLemmas.{keys_of, feed_keys_of}
use Rattle.pd_alike_law.proofs.FirstLemmas.{first_order}
use Rattle.pd_inside_law.specs.Inside.{HoldsWires}

-- ---- lists

twice : (k : ℕ) (xs : List ℕ) → tally k (k ∷ xs) ≤ 1 → 0 < tally k xs → ⊥
twice k xs l m = let t = same_test k in let more : 1 + tally k xs ≤ 1 = rw t at l in omega (arith, more, m)

less_often : (z x : ℕ) (xs : List ℕ) → tally z (x ∷ xs) ≤ 1 → tally z xs ≤ 1
less_often z x xs l = omega (arith, l)

-- what stands in a list once stands at one place
once_listed : (xs : List ℕ) → ((z : ℕ) → tally z xs ≤ 1) → AreApart xs
once_listed [] once i j k e f = absurd (none-some k e)
once_listed (x ∷ xs) once zero zero k e f = refl
once_listed (x ∷ xs) once zero (suc j) k e f =
    absurd (twice k xs (subst (λ y. tally k (y ∷ xs) ≤ 1) (same_Some x k e) (once k)) (counted_at k xs j f))
once_listed (x ∷ xs) once (suc i) zero k e f =
    absurd (twice k xs (subst (λ y. tally k (y ∷ xs) ≤ 1) (same_Some x k f) (once k)) (counted_at k xs i e))
once_listed (x ∷ xs) once (suc i) (suc j) k e f = ap (λ n. suc n) (once_listed xs (λ z. less_often z x xs (once z)) i j k e f)

-- a hop that is listed is that of its key
listed_hop : (f : ℕ → Hop) → ((k : ℕ) → (f k).key ≡ k) → (ks : List ℕ) (i : ℕ) (h : Hop) → slice_get (map f ks) i ≡ Some h → f h.key ≡ h
listed_hop f own ks i h e = by (slice_get ks i) (sym (slice_get-map f ks i) ∙ e)
  where
    by : (o : Option ℕ) → option_map f o ≡ Some h → f h.key ≡ h
    by None e = absurd (none-some h e)
    by (Some k) e = let same = same_Some (f k) h e in ap f (ap (λ (x : Hop). x.key) (sym same) ∙ own k) ∙ same

key_kept : (k : ℕ) (o : Option Spot) → (hop_by k o).key ≡ k
key_kept k None = refl
key_kept k (Some s) = refl

told_so : {X : Type 0} (l : Line) (o : Option X) → IsSome (option_map (λ _. l) o) → option_map (λ _. l) o ≡ Some l
told_so l None s = absurd (cc)
told_so l (Some x) s = refl

-- ---- feeds

module _ (w : Web) (fed : AreFed w) (m : Meet w) where
  fed_line : (node inlet i : ℕ) (h : Hop) → slice_get (feed_hops w node inlet) i ≡ Some h → line_told w h.key ≡ Some (line_by h (hop_at h.key node inlet))
  fed_line node inlet i h e =
      let hops = feed_hops w node inlet in
      let there = counted_at h.key (keys_of hops) i (slice_get-map (λ (x : Hop). x.key) hops i ∙ ap (option_map (λ (x : Hop). x.key)) e) in
      let f = m.fanned node inlet i h e in
      let from : hop_from w h.key ≡ h = listed_hop (hop_from w) (λ k. key_kept k (slice_get w.spots.items (source_at w.book k))) (feed_keys w node inlet) i h e in
      let to : hop_to w h.key ≡ hop_at h.key node inlet =
      listed_hop (hop_to w) (λ k. key_kept k (slice_get w.spots.items (sink_at w.book k))) (fan_keys w h.node h.port) f.0 (hop_at h.key node inlet) f.1 in
      told_so (line_by (hop_from w h.key) (hop_to w h.key)) (wire_at w.book h.key) (fed.live node inlet h.key there)
      ∙ ap (λ x. Some (line_by x (hop_to w h.key))) from ∙ ap (λ x. Some (line_by h x)) to

  fed_once : FedOnce w
  fed_once = record {
    lines = fed_line;
    once = λ node inlet. subst AreApart (feed_keys_of w (feed_keys w node inlet)) (once_listed (keys_of (feed_hops w node inlet)) (λ z. fed.once node inlet z));
  }

pub first_holds : (files : List (ℕ × Answer)) (name : List ℕ) (d : Page) (before names : Names) (n : ℕ) (rate : Rate) (p : Patch) → IsProper before d
    → (grew : IsTree p names rate (grown (answer_in files) name d (beginning before n))) → IsFresh p names name rate → HoldsWires p grew.tree
first_holds files name d before names n rate p proper grew fresh = record {
  fed = fed_once p.web fresh.fed fresh.wires.meet;
  meet = fresh.wires.meet;
  inside = record {
    all = λ path c u l. record {
      ports = grew.wired.ports path c u l.here;
      fans = grew.wired.fans path c u l.here;
      feeds = grew.wired.feeds path c u l.here;
    };
  };
  order = λ path c at. first_order files name d before names n rate p path c proper grew fresh at;
}
