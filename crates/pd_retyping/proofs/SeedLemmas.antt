-- The first of seeds that were made ready.
use Rattle.std.proofs.Common.{◌≡◌, ℕ, suc, List, [], ◌∷◌, length, None, sym, ap, ◌∙◌, subst, arith}
use Rattle.std.proofs.lemmas.List.{length-map}
use Rattle.pd_clock.specs.declared.times.Rate.{Rate}
use Rattle.pd_tree.specs.declared.rows.Row.{Row}
use Rattle.pd_tree.specs.Trees.{Stand, stand_of, stands_in}
use Rattle.pd_grove.specs.declared.seeds.Seed.{Seed}
use Rattle.pd_grove.specs.declared.seeds.Seeds.{Seeds}
use Rattle.pd_grove.specs.Planting.{seeds_in, seed_stand, stands_ready, AreRoomy}
use Rattle.pd_grove.specs.States.{IsFresh, AreFresh, SeedsSmall}
use Rattle.pd_boxes.specs.Put.{IsLeaf}

-- as many seeds as rows
count_ready : (rows : List Row) (seeds : List Seed) → length rows ≡ 1 → stands_ready seeds ≡ stands_in rows → length seeds ≡ 1
count_ready rows seeds one e =
    sym (length-map seeds seed_stand) ∙ ap (λ (ss : List Stand). length ss) e ∙ length-map rows stand_of ∙ one

pub never_none : (rows : List Row) (seeds : Seeds) → length rows ≡ 1 → stands_ready (seeds_in seeds) ≡ stands_in rows → seeds_in seeds ≡ [] → ⊥
never_none rows seeds one e none =
    let a = count_ready rows (seeds_in seeds) one e in
    let b : length (seeds_in seeds) ≡ 0 = ap (λ (ss : List Seed). length ss) none in
    omega (arith, a, b)

alone_stand : (seeds : List Seed) (s : Seed) (rest : List Seed) → seeds ≡ s ∷ rest → length seeds ≡ 1 → stand_of s.row ∷ [] ≡ stands_ready seeds
alone_stand seeds s [] is one = sym (ap stands_ready is)
alone_stand seeds s (x ∷ rest) is one =
    let l : length seeds ≡ suc (suc (length rest)) = ap (λ (ss : List Seed). length ss) is in
    absurd (omega (arith, l, one))

pub next_stand : (rows : List Row) (seeds rest : Seeds) (s : Seed) → length rows ≡ 1 → stands_ready (seeds_in seeds) ≡ stands_in rows → seeds_in seeds ≡ s ∷ seeds_in rest
    → stand_of s.row ∷ [] ≡ stands_in rows
next_stand rows seeds rest s one e is = alone_stand (seeds_in seeds) s (seeds_in rest) is (count_ready rows (seeds_in seeds) one e) ∙ e

pub next_fresh : (rate : Rate) (now : ℕ) (seeds rest : Seeds) (s : Seed) → AreFresh rate now (seeds_in seeds) → seeds_in seeds ≡ s ∷ seeds_in rest → IsFresh rate now s
next_fresh rate now seeds rest s fresh is =
    let all : AreFresh rate now (s ∷ seeds_in rest) = subst (AreFresh rate now) is fresh in all.0

pub next_leaf : (seeds rest : Seeds) (s : Seed) → AreRoomy (seeds_in seeds) → SeedsSmall (seeds_in seeds) → seeds_in seeds ≡ s ∷ seeds_in rest
    → s.row.sheet ≡ None → s.row.boxes ≡ 0 → IsLeaf s
next_leaf seeds rest s roomy small is sheet boxes =
    let rooms : AreRoomy (s ∷ seeds_in rest) = subst AreRoomy is roomy in
    let smalls : SeedsSmall (s ∷ seeds_in rest) = subst SeedsSmall is small in
    record { no_sheet = sheet; no_boxes = boxes; roomy = rooms.0; small = smalls.0 }
