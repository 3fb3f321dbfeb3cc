-- The wires to inlets of a web that was laid.
use Rattle.std.proofs.Common.{arith, ◌≡◌, ◌<◌, ◌≤◌, ℕ, zero, suc, ◌==◌, Bool, List, [], ◌∷◌, length, map, refl, sym, ap, subst, ◌∙◌}
use Rattle.std.specs.Prelude.{Option, Some, None, IsSome, is_some, filter, option_map, slice_get}
use Rattle.std.proofs.lemmas.List.{length-map}
use Rattle.std.proofs.lemmas.Option.{slice_get-get_or}
use Rattle.pd_order.specs.Graph.{tally}
use Rattle.pd_order.proofs.Basics.{by_test, same_node, zero_or, at_tally}
use Rattle.pd_grove.specs.declared.grove.Grove.{Grove}
use Rattle.pd_web.specs.declared.sockets.Spot.{Spot}
use Rattle.pd_web.specs.declared.web.Hop.{Hop}
use Rattle.pd_web.specs.declared.web.Web.{Web}
use Rattle.pd_web.specs.Wiring.{source_at}
use Rattle.pd_web.specs.Lines.{all_lines, feeding}
use Rattle.pd_web.specs.Hops.{hop_by, hop_from, feed_keys, feed_hops, places_of}
use Rattle.pd_web.specs.Changes.{line_told, line_by, hop_at}
use Rattle.pd_patch.specs.Fed.{keys_of, AreFed}
use Rattle.pd_patch.specs.Numbers.{AreApart}

-- the outlet from which a wire comes
abbrev outlet_of : Web → ℕ → Option Spot
outlet_of w key = slice_get w.spots.items (source_at w.book key)

-- a wire is told with its key
hop_key : (key : ℕ) (o : Option Spot) → (hop_by key o).key ≡ key
hop_key key None = refl
hop_key key (Some s) = refl

pub told_keys : (f : ℕ → Option Spot) (keys : List ℕ) → keys_of (map (λ k. hop_by k (f k)) keys) ≡ keys
told_keys f [] = refl
told_keys f (k ∷ keys) = ap (λ (x : ℕ). x ∷ keys_of (map (λ k. hop_by k (f k)) keys)) (hop_key k (f k)) ∙ ap (λ (xs : List ℕ). k ∷ xs) (told_keys f keys)

get_mapped : {A B : Type 0} (f : A → B) (xs : List A) (i : ℕ) → slice_get (map f xs) i ≡ option_map f (slice_get xs i)
get_mapped f [] i = refl
get_mapped f (x ∷ xs) zero = refl
get_mapped f (x ∷ xs) (suc i) = get_mapped f xs i

-- what stands once counts once
not_there : (x : ℕ) (ks : List ℕ) → ((i : ℕ) → slice_get ks i ≡ Some x → ⊥) → tally x ks ≡ 0
not_there x ks h = zero_or (tally x ks) (λ m. let a = at_tally x ks m in absurd (h a.0 (slice_get-get_or ks a.0 0 a.1 ∙ ap (λ (k : ℕ). Some k) a.2)))

suc_same : (i j : ℕ) → suc i ≡ suc j → i ≡ j
suc_same i j e = omega (arith, e)

no_suc : (i : ℕ) → 0 ≡ suc i → ⊥
no_suc i e = omega (arith, e)

pub apart_once : (x : ℕ) (ks : List ℕ) → AreApart ks → tally x ks ≤ 1
apart_once x [] h = omega arith
apart_once x (y ∷ ks) h =
    let rest : tally x ks ≤ 1 = apart_once x ks (λ i j k a b. suc_same i j (h (suc i) (suc j) k a b)) in
    by_test (y == x)
    (λ t. let gone : tally x ks ≡ 0 = not_there x ks (λ i e. no_suc i (h 0 (suc i) x (ap (λ (k : ℕ). Some k) (same_node y x t)) e)) in rw t (omega (arith, gone)))
    (λ f. rw f (omega (arith, rest)))

-- a wire that is found among those of a web is one
pub found_live : (w : Web) (key : ℕ) (ks : List ℕ) → ((i : ℕ) (h : Hop) → slice_get (map (hop_from w) ks) i ≡ Some h → IsSome (line_told w h.key)) → 0 < tally key ks → IsSome (line_told w key)
found_live w key ks lines m =
    let a = at_tally key ks m in
    let there : slice_get ks a.0 ≡ Some key = slice_get-get_or ks a.0 0 a.1 ∙ ap (λ (k : ℕ). Some k) a.2 in
    let hop : slice_get (map (hop_from w) ks) a.0 ≡ Some (hop_from w key) = get_mapped (hop_from w) ks a.0 ∙ ap (option_map (hop_from w)) there in
    subst (λ (k : ℕ). IsSome (line_told w k)) (hop_key key (outlet_of w key)) (lines a.0 (hop_from w key) hop)

-- there are no more than lines
shorter : {A : Type 0} (p : A → Bool) (ls : List A) → length (filter p ls) ≤ length ls
shorter p [] = omega arith
shorter p (l ∷ ls) = let rest = shorter p ls in by_test (p l)
    (λ t. rw t (omega (arith, rest)))
    (λ f. rw f (omega (arith, rest)))

fewer : {A : Type 0} (p : A → Bool) (f : A → ℕ × ℕ) (ls : List A) → length (map f (filter p ls)) ≤ length ls
fewer p f ls = omega (arith, length-map (filter p ls) f, shorter p ls)

few_feeds : (g : Grove) (w : Web) (k inlet : ℕ) → places_of (feed_hops w k inlet) ≡ feeding k inlet (all_lines g) → length (all_lines g) ≤ 65536 → length (feed_hops w k inlet) ≤ 65536
few_feeds g w k inlet feeds few =
    let hops = length-map {B = ℕ × ℕ} (feed_hops w k inlet) (λ (h : Hop). (h.node, h.port)) in
    let less : length (feeding k inlet (all_lines g)) ≤ length (all_lines g) = fewer _ _ (all_lines g) in
    let same = ap length feeds in
    omega (arith, hops, less, same, few)

some_there : {A : Type 0} (o : Option A) (x : A) → o ≡ Some x → IsSome o
some_there o x e = ap is_some e

pub laid_fed : (g : Grove) (w : Web) → ((k inlet : ℕ) → places_of (feed_hops w k inlet) ≡ feeding k inlet (all_lines g)) → length (all_lines g) ≤ 65536
    → ((node inlet i : ℕ) (h : Hop) → slice_get (feed_hops w node inlet) i ≡ Some h → line_told w h.key ≡ Some (line_by h (hop_at h.key node inlet)))
    → ((node inlet i j k : ℕ) → slice_get (feed_keys w node inlet) i ≡ Some k → slice_get (feed_keys w node inlet) j ≡ Some k → i ≡ j)
    → AreFed w
laid_fed g w feeds few lines once =
    let keys : (node inlet : ℕ) → keys_of (feed_hops w node inlet) ≡ feed_keys w node inlet = λ node inlet. told_keys (outlet_of w) (feed_keys w node inlet) in
    record {
      live = λ node inlet key m. found_live w key (feed_keys w node inlet) (λ i h e. some_there _ _ (lines node inlet i h e))
          (subst (λ (ks : List ℕ). 0 < tally key ks) (keys node inlet) m);
      once = λ node inlet key. subst (λ (ks : List ℕ). tally key ks ≤ 1) (sym (keys node inlet)) (apart_once key (feed_keys w node inlet) (once node inlet));
      few = λ node inlet. few_feeds g w node inlet (feeds node inlet) few;
    }
