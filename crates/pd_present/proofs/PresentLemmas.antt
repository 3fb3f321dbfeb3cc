-- The canvases of a running patch, by how many may lie in one another.
use Rattle.std.proofs.Common.{◌≡◌, ◌≢◌, ℕ, zero, suc, ◌+◌, ◌-◌, ◌≤◌, List, [], ◌∷◌, ◌++◌, length, map, take, get_or, slice_get, Option, Some, None, refl, sym, ap, ◌∙◌, arith}
use Rattle.std.specs.List.{flat_map, range_with_len}
use Rattle.std.proofs.Math.Seq.{take-suc}
use Rattle.std.proofs.lemmas.Grind.{flat_map-append}
use Rattle.std.proofs.lemmas.List.{append-nil, map-append, take_all}
use Rattle.std.proofs.lemmas.Option.{get_or_from_slice_get, slice_get_within, none-some}
use Rattle.pd_canvas.specs.Pages.{Page, empty_page}
use Rattle.pd_grove.specs.declared.nodes.Node.{Node}
use Rattle.pd_grove.specs.declared.boards.Board.{Board}
use Rattle.pd_web.specs.declared.web.Web.{Web}
use Rattle.pd_present.specs.Presents.{page_on, page_within}

pub within_none : (web : Web) (numbers : List ℕ) (nodes : ℕ → Option Node) (boards : ℕ → Option Board) (canvas : ℕ)
    → page_within web numbers nodes boards 0 canvas ≡ empty_page
unfolding page_within
within_none web numbers nodes boards canvas = refl

pub within_suc : (web : Web) (numbers : List ℕ) (nodes : ℕ → Option Node) (boards : ℕ → Option Board) (n canvas : ℕ)
    → page_within web numbers nodes boards (suc n) canvas ≡ page_on web numbers nodes (page_within web numbers nodes boards n) (boards canvas)
unfolding page_within
within_suc web numbers nodes boards n canvas = refl

pub within_some : (web : Web) (numbers : List ℕ) (nodes : ℕ → Option Node) (boards : ℕ → Option Board) (n canvas : ℕ) → n ≢ 0
    → page_within web numbers nodes boards n canvas ≡ page_on web numbers nodes (page_within web numbers nodes boards (n - 1)) (boards canvas)
within_some web numbers nodes boards zero canvas h = absurd (h refl)
within_some web numbers nodes boards (suc n) canvas h =
    let e : n ≡ suc n - 1 = omega arith in
    within_suc web numbers nodes boards n canvas ∙ ap (λ m. page_on web numbers nodes (page_within web numbers nodes boards m) (boards canvas)) e

last : (a n j : ℕ) → a + n ≡ j → range_with_len a (suc n) ≡ range_with_len a n ++ j ∷ []
last a zero j e = let same : a ≡ j = omega (arith, e) in ap (λ (x : ℕ). x ∷ []) same
last a (suc n) j e = ap (λ (xs : List ℕ). a ∷ xs) (last (a + 1) n j (omega (arith, e)))

-- one more number, and what a function makes of it
pub flat_more : {X : Type 0} (f : ℕ → List X) (n : ℕ) → flat_map f (range_with_len 0 (n + 1)) ≡ flat_map f (range_with_len 0 n) ++ f n
flat_more f n =
    let on : n + 1 ≡ suc n = omega arith in
    ap (λ m. flat_map f (range_with_len 0 m)) on
    ∙ ap (flat_map f) (last 0 n n (omega arith))
    ∙ flat_map-append f (range_with_len 0 n) (n ∷ [])
    ∙ ap (λ xs. flat_map f (range_with_len 0 n) ++ xs) (append-nil (f n))

-- one more of a list, and what a function makes of it
pub map_more : {X Y : Type 0} (f : X → Y) (xs : List X) (i : ℕ) (x : X) → slice_get xs i ≡ Some x
    → map f (take (i + 1) xs) ≡ map f (take i xs) ++ f x ∷ []
map_more f xs i x e =
    let on : i + 1 ≡ suc i = omega arith in
    ap (λ n. map f (take n xs)) on
    ∙ ap (map f) (take-suc xs i x (slice_get_within xs i x e))
    ∙ map-append f (take i xs) (get_or xs i x ∷ [])
    ∙ ap (λ (y : _). map f (take i xs) ++ f y ∷ []) (get_or_from_slice_get xs i x x e)

none_past : {X : Type 0} (xs : List X) (i : ℕ) → slice_get xs i ≡ None → length xs ≤ i
none_past [] i e = omega arith
none_past (x ∷ xs) zero e = absurd (none-some x (sym e))
none_past (x ∷ xs) (suc i) e = let l : length xs ≤ i = none_past xs i e in omega (arith, l)

-- where nothing stands at a place, all stand before it
pub map_whole : {X Y : Type 0} (f : X → Y) (xs : List X) (i : ℕ) → slice_get xs i ≡ None → map f (take i xs) ≡ map f xs
map_whole f xs i e = ap (map f) (take_all i xs (none_past xs i e))
