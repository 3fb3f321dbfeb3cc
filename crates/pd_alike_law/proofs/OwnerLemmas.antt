-- The owners of names, by their places in text order.
use Rattle.std.proofs.Common.{◌≡◌, ℕ, suc, ◌≤◌, Bool, true, false, cond, List, [], ◌∷◌, ◌++◌, map, slice_get, Option, Some, None, refl, sym, ap, ◌∙◌, subst}
use Rattle.std.specs.Prelude.{option_map, option_and_then}
use Rattle.std.specs.List.{AllByRecursion, filter}
use Rattle.std.proofs.lemmas.Option.{none-some, same_Some}
use Rattle.slab.specs.Slab.{get}
use Rattle.pd_atom.specs.Names.{Names}
use Rattle.pd_clock.specs.declared.times.Rate.{Rate}
use Rattle.pd_name.specs.declared.Class.{Class}
use Rattle.pd_name.specs.declared.Class.TheVariants.{Receiver}
use Rattle.pd_name.specs.Rows.{owners_of}
use Rattle.pd_tree.specs.declared.rows.Sheet.{Sheet}
use Rattle.pd_tree.specs.Trees.{Cell, Trees, Tree}
use Rattle.pd_grove.specs.declared.nodes.Node.{Node}
use Rattle.pd_grove.specs.declared.grove.Grove.{Grove}
use Rattle.pd_grove.specs.declared.spots.Spot.{Spot}
use Rattle.pd_grove.specs.Standing.{GroveStands}
use Rattle.pd_grove.specs.TextOrder.{deep, Placed, placed, placed_in_order, placed_at, keys_of_spots, spots_in_order, keys_in_order, cell_under}
use Rattle.pd_grove.proofs.SpotLemmas.{grove_spots, placed_stand}
use Rattle.pd_bind.specs.Naming.{owned, canvas_symbol, owned_by}
use Rattle.pd_bind.specs.Owning.{is_owned, owned_at, boxes_owning, owner_if, owners_in, owns, root_owner}
use Rattle.pd_web.specs.Canvases.{keys_at}
use Rattle.pd_patch.specs.declared.patch.Patch.{Patch}
use Rattle.pd_patch.specs.Built.{IsBuilt}
use Rattle.pd_alike_law.specs.Alike.{HasOpened, OwnAlike, HaveSameOwners, owner_at, now_of}
use Rattle.pd_alike_law.proofs.SoundLemmas.{owned_stay, deep_stay}

-- ---- the places at which flags are set

trues : List Bool → List ℕ
trues [] = []
trues (b ∷ bs) = cond b (0 ∷ map (λ n. suc n) (trues bs)) (map (λ n. suc n) (trues bs))

trues_are : (b : Bool) (bs : List Bool) → trues (b ∷ bs) ≡ cond b (0 ∷ map (λ n. suc n) (trues bs)) (map (λ n. suc n) (trues bs))
unfolding trues
trues_are b bs = refl

no_trues : trues [] ≡ []
unfolding trues
no_trues = refl

-- places one further on, in a list with one more in front
behind : (x : ℕ) (xs places : List ℕ) → map (slice_get (x ∷ xs)) (map (λ n. suc n) places) ≡ map (slice_get xs) places
behind x xs [] = refl
behind x xs (n ∷ places) = ap (λ (l : List (Option ℕ)). slice_get xs n ∷ l) (behind x xs places)

some_first : (b : Bool) (x : ℕ) (xs owners places : List ℕ) → map (λ k. Some k) owners ≡ map (slice_get xs) places
    → map (λ k. Some k) (owner_if b x ++ owners) ≡ map (slice_get (x ∷ xs)) (cond b (0 ∷ map (λ n. suc n) places) (map (λ n. suc n) places))
some_first true x xs owners places e = ap (λ (l : List (Option ℕ)). Some x ∷ l) (e ∙ sym (behind x xs places))
some_first false x xs owners places e = e ∙ sym (behind x xs places)

one_key : (b : Bool) (s : Spot) (rest : List Spot) → keys_of_spots (cond b (s ∷ rest) rest) ≡ owner_if b s.node ++ keys_of_spots rest
one_key true s rest = refl
one_key false s rest = refl

-- what passes stands at the places of the flags
passing : (test : Spot → Bool) (spots : List Spot) → map (λ k. Some k) (keys_of_spots (filter test spots)) ≡ map (slice_get (keys_of_spots spots)) (trues (map test spots))
passing test [] = sym (ap (map (slice_get [])) no_trues)
passing test (s ∷ spots) =
    ap (map (λ k. Some k)) (one_key (test s) s (filter test spots))
    ∙ some_first (test s) s.node (keys_of_spots spots) (keys_of_spots (filter test spots)) (trues (map test spots)) (passing test spots)
    ∙ sym (ap (map (slice_get (keys_of_spots (s ∷ spots)))) (trues_are (test s) (map test spots)))

-- ---- flags of boxes that stand

same_owned : (names : Names) (class : Class) (name : ℕ) (o : Option Cell) (top : Bool) (p : Placed) → option_map (placed top) o ≡ Some p
    → is_owned class name (option_and_then (λ c. owned_by names top c) o) ≡ owns names class name p
same_owned names class name None top p h = absurd (none-some p h)
same_owned names class name (Some c) top p h = ap (owns names class name) (same_Some (placed top c) p h)

same_flags : (names : Names) (nodes : ℕ → Option Node) (class : Class) (name : ℕ) (spots : List Spot) (ps : List Placed)
    → map (placed_at nodes) spots ≡ map (λ p. Some p) ps
    → map (λ s. is_owned class name (owned_at names nodes s)) spots ≡ map (owns names class name) ps
same_flags names nodes class name [] [] h = refl
same_flags names nodes class name [] (p ∷ ps) h = absurd (cc)
same_flags names nodes class name (s ∷ spots) [] h = absurd (cc)
same_flags names nodes class name (s ∷ spots) (p ∷ ps) h =
    let e : placed_at nodes s ≡ Some p = cc in
    let more : map (placed_at nodes) spots ≡ map (λ q. Some q) ps = cc in
    let flags : Spot → Bool = λ s. is_owned class name (owned_at names nodes s) in
    ap (λ (b : Bool). b ∷ map flags spots) (same_owned names class name (cell_under nodes s.node) s.is_top p e)
    ∙ ap (λ (l : List Bool). owns names class name p ∷ l) (same_flags names nodes class name spots ps more)

-- the owners of a name in a tree that stands, by their places
owned_places : (names : Names) (file : List ℕ) (g : Grove) (s : Sheet) (t : Trees) (class : Class) (name : ℕ) → GroveStands g s t → deep t ≤ 256
    → map (λ k. Some k) (owners_in names file g class name)
    ≡ map (owner_at g) (trues (is_owned class name (owned Receiver (canvas_symbol names file)) ∷ map (owns names class name) (placed_in_order true t)))
owned_places names file g s t class name G low =
    let root = is_owned class name (owned Receiver (canvas_symbol names file)) in
    let test : Spot → Bool = λ s. is_owned class name (owned_at names (get g.nodes) s) in
    let told : map test (spots_in_order g) ≡ map (owns names class name) (placed_in_order true t) =
    same_flags names (get g.nodes) class name (spots_in_order g) (placed_in_order true t)
    (ap (map (placed_at (get g.nodes))) (grove_spots g s t G low) ∙ placed_stand (get g.nodes) (get g.boards) g.root 0 true G.keys t G.stands) in
    some_first root root_owner (keys_in_order g) (boxes_owning names (get g.nodes) class name (spots_in_order g)) (trues (map test (spots_in_order g)))
    (passing test (spots_in_order g))
    ∙ ap (λ l. map (owner_at g) (cond root (0 ∷ map (λ n. suc n) (trues l)) (map (λ n. suc n) (trues l)))) told
    ∙ sym (ap (map (owner_at g)) (trues_are root (map (owns names class name) (placed_in_order true t))))

-- ---- two tables

flags_alike : (names more : Names) (class : Class) (name : ℕ) (ps : List Placed) → AllByRecursion (λ p. owned_by more p.is_top p.cell ≡ owned_by names p.is_top p.cell) ps
    → map (owns more class name) ps ≡ map (owns names class name) ps
flags_alike names more class name [] a = refl
flags_alike names more class name (p ∷ ps) a =
    ap (λ o. is_owned class name o ∷ map (owns more class name) ps) a.0
    ∙ ap (λ (l : List Bool). owns names class name p ∷ l) (flags_alike names more class name ps a.1)

somes_same : (xs ys : List ℕ) → map (λ k. Some k) xs ≡ map (λ k. Some k) ys → xs ≡ ys
somes_same [] [] h = refl
somes_same [] (y ∷ ys) h = absurd (cc)
somes_same (x ∷ xs) [] h = absurd (cc)
somes_same (x ∷ xs) (y ∷ ys) h =
    let first : Some x ≡ Some y = cc in
    let rest : map (λ k. Some k) xs ≡ map (λ k. Some k) ys = cc in
    ap (λ (k : ℕ). k ∷ xs) (same_Some x y first) ∙ ap (λ (l : List ℕ). y ∷ l) (somes_same xs ys rest)

-- the owners of a name are the same ones in a table in which the boxes of the tree own the same
pub owners_alike : (names more : Names) (file : List ℕ) (g : Grove) (s : Sheet) (t : Trees) (class : Class) (name : ℕ) → GroveStands g s t → deep t ≤ 256
    → OwnAlike names more file t → owners_in more file g class name ≡ owners_in names file g class name
owners_alike names more file g s t class name G low same =
    let root = is_owned class name (owned Receiver (canvas_symbol names file)) in
    let told : map (owns more class name) (placed_in_order true t) ≡ map (owns names class name) (placed_in_order true t) =
    flags_alike names more class name (placed_in_order true t) same.boxes in
    let first : is_owned class name (owned Receiver (canvas_symbol more file)) ≡ root = ap (λ x. is_owned class name (owned Receiver x)) same.root in
    somes_same (owners_in more file g class name) (owners_in names file g class name)
    (owned_places more file g s t class name G low
    ∙ ap (λ x. map (owner_at g) (trues (x ∷ map (owns more class name) (placed_in_order true t)))) first
    ∙ ap (λ l. map (owner_at g) (trues (root ∷ l))) told
    ∙ sym (owned_places names file g s t class name G low))

pub owners_opened : (p q : Patch) (t : Tree) (names more : Names) (file : List ℕ) (class : Class) (name : ℕ) → HasOpened p t q
    → owners_of p.names class name ≡ owners_in names file p.grove class name → owners_of q.names class name ≡ owners_in more file q.grove class name
    → OwnAlike names more file t.boxes → HaveSameOwners p q class name
owners_opened p q t names more file class name o b a same =
    let nodes = get p.grove.nodes in
    let boards = get p.grove.boards in
    let now = now_of p t in
    let root = is_owned class name (owned Receiver (canvas_symbol names file)) in
    let flags = map (owns names class name) (placed_in_order true t.boxes) in
    let keys = keys_at p.grove p.grove.root in
    let low : deep now.boxes ≤ 256 = subst (λ n. n ≤ 256) (sym (deep_stay p.web p.numbers.items nodes boards keys t.boxes)) o.shallow in
    let told : map (owns more class name) (placed_in_order true now.boxes) ≡ flags =
    owned_stay more class name p.web p.numbers.items nodes boards true keys t.boxes o.made
    ∙ flags_alike names more class name (placed_in_order true t.boxes) same.boxes in
    let first : is_owned class name (owned Receiver (canvas_symbol more file)) ≡ root = ap (λ x. is_owned class name (owned Receiver x)) same.root in
    record {
      places = trues (root ∷ flags);
      before = ap (map (λ k. Some k)) b ∙ owned_places names file p.grove t.sheet t.boxes class name o.stands o.shallow;
      opened = ap (map (λ k. Some k)) a ∙ owned_places more file q.grove now.sheet now.boxes class name o.again low
          ∙ ap (λ x. map (owner_at q.grove) (trues (x ∷ map (owns more class name) (placed_in_order true now.boxes)))) first
          ∙ ap (λ l. map (owner_at q.grove) (trues (root ∷ l))) told;
    }

pub opened_owners : (p q : Patch) (t : Tree) (names more : Names) (file : List ℕ) (rate rate2 : Rate) (class : Class) (name : ℕ) → HasOpened p t q
    → IsBuilt p names file rate → IsBuilt q more file rate2 → OwnAlike names more file t.boxes → HaveSameOwners p q class name
opened_owners p q t names more file rate rate2 class name o b a same =
    owners_opened p q t names more file class name o (b.owners class name) (a.owners class name) same
