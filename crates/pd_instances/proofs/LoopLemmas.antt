-- Loops over boxes: those that are done, the next one, and those that are left.
use Rattle.std.proofs.Common.{◌≡◌, ◌≢◌, ◌||◌, nat_eq, append-nil, ℕ, ℤ, zero, suc, ◌+◌, ◌<◌, ◌≤◌, false, List, [], ◌∷◌, ◌++◌, length, take, drop, get_or, Some, None, IsTrue, take-append-drop, refl, sym, ap, ◌∙◌, subst, arith}
use Rattle.std.specs.Prelude.{slice_get}
use Rattle.std.specs.List.{AllByRecursion}
use Rattle.std.proofs.lemmas.Bool.{false≢true}
use Rattle.std.proofs.lemmas.List.{drop_more, take_more, map-append}
use Rattle.std.proofs.lemmas.Option.{slice_get_within}
use Rattle.pd_grove.specs.declared.grove.Grove.{Grove}
use Rattle.pd_grove.specs.declared.spots.Spot.{Spot}
use Rattle.pd_grove.specs.declared.ports.Side.{Side}
use Rattle.pd_grove.specs.TextOrder.{keys_of_spots}
use Rattle.pd_owning.specs.Bound.{is_among, AreNew}
use Rattle.pd_web.specs.declared.web.Web.{Web}
use Rattle.pd_web.specs.Homes.{IsPortOf}
use Rattle.pd_web.specs.Hops.{ports_told, port_told}
use Rattle.pd_patch.specs.Values.{Blocks}
use Rattle.pd_instances.specs.Layers.{OpensAll, PutsBlocks}
use Rattle.pd_instances.proofs.OpenLemmas.{among_middle, new_last, or_right, true_of, is_true}

abbrev pub none : Spot
none = record { node = 0; is_top = false }

new_rest : (front : List ℕ) (k : ℕ) (rest : List ℕ) → AreNew (front ++ k ∷ rest) [] → is_among rest k ≡ false
new_rest [] k rest N = ap (λ ks. is_among ks k) (sym (append-nil rest)) ∙ N.0
new_rest (x ∷ front) k rest N = new_rest front k rest N.1

module _ (spots : List Spot) (i : ℕ) (l : i < length spots) where
  abbrev pub it : ℕ
  it = (get_or spots i none).node

  pub keys_more : keys_of_spots (take (i + 1) spots) ≡ keys_of_spots (take i spots) ++ it ∷ []
  keys_more = ap keys_of_spots (take_more spots i none l) ∙ map-append (λ (p : Spot). p.node) (take i spots) (get_or spots i none ∷ [])

  pub keys_left : keys_of_spots (drop i spots) ≡ it ∷ keys_of_spots (drop (i + 1) spots)
  keys_left = ap keys_of_spots (drop_more spots i none l)

  pub keys_split : keys_of_spots spots ≡ keys_of_spots (take i spots) ++ it ∷ keys_of_spots (drop (i + 1) spots)
  keys_split =
      ap keys_of_spots (sym (take-append-drop i spots)) ∙ map-append (λ (p : Spot). p.node) (take i spots) (drop i spots)
      ∙ ap (λ ks. keys_of_spots (take i spots) ++ ks) keys_left

  pub it_among : IsTrue (is_among (keys_of_spots spots) it)
  it_among = true_of (is_among (keys_of_spots spots) it) (ap (λ ks. is_among ks it) keys_split ∙ among_middle (keys_of_spots (take i spots)) it (keys_of_spots (drop (i + 1) spots)))

  pub it_new : AreNew (keys_of_spots spots) [] → is_among (keys_of_spots (take i spots)) it ≡ false
  it_new N = new_last (keys_of_spots (take i spots)) it (keys_of_spots (drop (i + 1) spots)) (subst (λ ks. AreNew ks []) keys_split N)

  -- those that are left
  pub it_first : IsTrue (is_among (keys_of_spots (drop i spots)) it)
  it_first = true_of (is_among (keys_of_spots (drop i spots)) it) (ap (λ ks. is_among ks it) keys_left ∙ among_middle [] it (keys_of_spots (drop (i + 1) spots)))

  pub it_left : (x : ℕ) → IsTrue (is_among (keys_of_spots (drop (i + 1) spots)) x) → IsTrue (is_among (keys_of_spots (drop i spots)) x)
  it_left x t =
      true_of (is_among (keys_of_spots (drop i spots)) x)
      (ap (λ ks. is_among ks x) keys_left ∙ ap (λ b. nat_eq x it || b) (is_true (is_among (keys_of_spots (drop (i + 1) spots)) x) t) ∙ or_right (nat_eq x it))

  pub it_later : AreNew (keys_of_spots spots) [] → (x : ℕ) → IsTrue (is_among (keys_of_spots (drop (i + 1) spots)) x) → x ≢ it
  it_later N x t q =
      false≢true (sym (new_rest (keys_of_spots (take i spots)) it (keys_of_spots (drop (i + 1) spots)) (subst (λ ks. AreNew ks []) keys_split N))
      ∙ ap (is_among (keys_of_spots (drop (i + 1) spots))) (sym q) ∙ is_true (is_among (keys_of_spots (drop (i + 1) spots)) x) t)

-- what holds of each key
pub all_at : (P : ℕ → Type 0) (spots : List Spot) (i : ℕ) → i < length spots → AllByRecursion P (keys_of_spots spots) → P (get_or spots i none).node
all_at P [] i l A = absurd (omega (arith, l))
all_at P (s ∷ spots) zero l A = A.0
all_at P (s ∷ spots) (suc i) l A = all_at P spots i (omega (arith, l)) A.1

-- Ports that are still to come.

module _ (g : Grove) (w v : Web) (ks : List ℕ) (k : ℕ) (A : OpensAll g w v ks) (new : is_among ks k ≡ false) where
  pub still_bare : ((side : Side) → ports_told w side k ≡ []) → (side : Side) → ports_told v side k ≡ []
  still_bare bare side = A.other_ports side k new ∙ bare side

  pub still_apart : ((j a b i m : ℕ) → IsPortOf g j a i → IsPortOf g j b m → a ≡ b) → ((j i : ℕ) → IsPortOf g j k i → port_told w j ≡ None) → (j i : ℕ) → IsPortOf g j k i → port_told v j ≡ None
  still_apart alone apart j i R =
      A.others j (λ x m t S. false≢true (sym new ∙ ap (is_among ks) (sym (alone j x k m i S R)) ∙ is_true (is_among ks x) t)) ∙ apart j i R

-- Lists by key reach as far as they did.

filled_at : {X : Type 0} (xs : List X) (k : ℕ) → k < length xs → (x : X) × (slice_get xs k ≡ Some x)
filled_at [] k l = absurd (omega (arith, l))
filled_at (x ∷ xs) zero l = (x, refl)
filled_at (x ∷ xs) (suc k) l = filled_at xs k (omega (arith, l))

pub blocks_reach : (g : Grove) (old new : Blocks) (ks : List ℕ) (k : ℕ) → PutsBlocks g old new ks → is_among ks k ≡ false → k < length old → k < length new
blocks_reach g old new ks k B f l = by (filled_at old k l)
  where
    by : (x : List (List ℤ)) × (slice_get old k ≡ Some x) → k < length new
    by t = slice_get_within new k t.0 (B.others k f ∙ t.1)
