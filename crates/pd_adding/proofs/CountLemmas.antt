-- Counts with boxes that come.
use Rattle.std.proofs.Common.{◌≡◌, ◌≢◌, ℕ, zero, suc, ◌+◌, ◌-◌, ◌<◌, ◌≤◌, min, true, false, nat_lt, if◌then◌else◌, List, ◌++◌, length, Ok, Err, refl, sym, ap, ◌∙◌, arith}
use Rattle.std.proofs.lemmas.Bool.Decides.{nat_tests}
use Rattle.std.proofs.lemmas.List.{length-append}
use Rattle.pd_clock.specs.declared.times.Rate.{Rate}
use Rattle.pd_tree.specs.declared.rows.Row.{Row}
use Rattle.pd_tree.specs.Trees.{Trees, weight, zeros_in, stands_of, stands_in}
use Rattle.pd_fit.specs.Fitting.{wires_inside}
use Rattle.pd_growth.specs.Steps.{numbers_up, zeros_from}
use Rattle.pd_gather.specs.Gather.{Known}
use Rattle.pd_patch.specs.Sounds.{sound_of, sound_in}
use Rattle.pd_patch.proofs.GrowthLemmas.{sound_grown}
use Rattle.pd_wiring.specs.declared.refusals.EditRefusal.{EditRefusal}
use Rattle.pd_wiring.specs.declared.refusals.EditRefusal.TheVariants.{TooManyWires, TooMuchSound, NoMemory}
use Rattle.pd_adding.specs.declared.counts.Counts.{Counts}
use Rattle.pd_adding.specs.Counts.{AreWithin, with_boxes}
use Rattle.pd_adding.specs.Growing.{totalled}

numbers_length : (n k : ℕ) → length (numbers_up n k) ≡ k
unfolding numbers_up
numbers_length n zero = refl
numbers_length n (suc k) = ap suc (numbers_length (n + 1) k)

zeros_length : (n : ℕ) → length (zeros_from n) ≡ 1000000001 - n
unfolding zeros_from
zeros_length n = numbers_length n (1000000001 - n)

-- as many `$0` numbers are taken as there are abstractions
pub next_zero : (n z : ℕ) (taken : List ℕ) → n ≤ 1000000001 → zeros_from n ≡ taken ++ zeros_from z → min z 1000000001 ≡ n + length taken
next_zero n z taken few h =
    let all = ap (λ (xs : List ℕ). length xs) h ∙ length-append taken (zeros_from z) in
    let a = zeros_length n in
    let b = zeros_length z in
    omega (arith, all, a, b, few)

few_so : (most n : ℕ) → n ≤ most → nat_lt most n ≡ false
few_so most n h = grind (arith, nat_tests)

many_so : (most n : ℕ) → most < n → nat_lt most n ≡ true
many_so most n h = grind (arith, nat_tests)

module _ (rate : Rate) (n : Counts) (t : Trees) (canvas : ℕ) (k : Known) where
  pub total_ok : (c : Counts) → n.wires + wires_inside t ≤ 65536 → n.sound + sound_of rate t ≤ 16777216 → with_boxes rate t n ≡ c
      → totalled rate n canvas k t ≡ Ok (record { canvas = canvas; boxes = t; known = k; counts = c })
  total_ok c wires sound e =
      let w = few_so 65536 (n.wires + wires_inside t) wires in
      let s = few_so 16777216 (n.sound + sound_of rate t) sound in
      λ i. if w i then Err TooManyWires else if s i then Err TooMuchSound else Ok (record { canvas = canvas; boxes = t; known = k; counts = e i })

  pub total_many : 65536 < n.wires + wires_inside t → totalled rate n canvas k t ≡ Err TooManyWires
  total_many wires =
      let w = many_so 65536 (n.wires + wires_inside t) wires in
      λ i. if w i then Err TooManyWires else
      if nat_lt 16777216 (n.sound + sound_of rate t) then Err TooMuchSound else Ok (record { canvas = canvas; boxes = t; known = k; counts = with_boxes rate t n })

  pub total_much : n.wires + wires_inside t ≤ 65536 → 16777216 < n.sound + sound_of rate t → totalled rate n canvas k t ≡ Err TooMuchSound
  total_much wires sound =
      let w = few_so 65536 (n.wires + wires_inside t) wires in
      let s = many_so 16777216 (n.sound + sound_of rate t) sound in
      λ i. if w i then Err TooManyWires else if s i then Err TooMuchSound else Ok (record { canvas = canvas; boxes = t; known = k; counts = with_boxes rate t n })

-- what there would be, from what was counted
pub counts_so : (rate : Rate) (n : Counts) (t : Trees) (wires sound z room next : ℕ) → AreWithin n → wires ≡ n.wires + wires_inside t → sound ≡ n.sound + sound_of rate t
    → zeros_from n.next_zero ≡ zeros_in t ++ zeros_from z → 16384 - n.boxes ≡ weight t + room → next ≡ min z 1000000001
    → (c : Counts) → c.boxes ≡ 16384 - room → c.wires ≡ wires → c.sound ≡ sound → c.next_zero ≡ next → with_boxes rate t n ≡ c
counts_so rate n t wires sound z room next h w s zeros took m c b cw cs cz =
    let boxes : n.boxes + weight t ≡ c.boxes = let few = h.boxes in omega (arith, took, b, few) in
    let numbers : n.next_zero + length (zeros_in t) ≡ c.next_zero = sym (cz ∙ m ∙ next_zero n.next_zero z (zeros_in t) h.zeros zeros) in
    λ i. record { boxes = boxes i; wires = (sym w ∙ sym cw) i; sound = (sym s ∙ sym cs) i; next_zero = numbers i }

pub totals : (rate : Rate) (n : Counts) (rows : List Row) (t : Trees) (wires sound z room : ℕ) → AreWithin n → stands_in rows ≡ stands_of t
    → wires ≡ n.wires + wires_inside t → wires ≤ 65536 → sound ≡ n.sound + sound_in rate rows → sound ≤ 16777216
    → zeros_from n.next_zero ≡ zeros_in t ++ zeros_from z → 16384 - n.boxes ≡ weight t + room
    → (c : Counts) → c.boxes ≡ 16384 - room → c.wires ≡ wires → c.sound ≡ sound → c.next_zero ≡ min z 1000000001
    → AreWithin c × ((canvas : ℕ) (k : Known) → totalled rate n canvas k t ≡ Ok (record { canvas = canvas; boxes = t; known = k; counts = c }))
totals rate n rows t wires sound z room h s w few_wires v few_values zeros took c b cw cs cz =
    let told : sound ≡ n.sound + sound_of rate t = v ∙ ap (λ x. n.sound + x) (sound_grown rate rows t s) in
    let same : with_boxes rate t n ≡ c = counts_so rate n t wires sound z room (min z 1000000001) h w told zeros took refl c b cw cs cz in (
      record { boxes = omega (arith, b); wires = omega (arith, cw, few_wires); sound = omega (arith, cs, few_values); zeros = omega (arith, cz) },
      λ canvas k. total_ok rate n t canvas k c (omega (arith, w, few_wires)) (omega (arith, told, few_values)) same,
    )

pub wires_refused : (rate : Rate) (n : Counts) (t : Trees) (why : EditRefusal) → (why ≢ NoMemory → (why ≡ TooManyWires) × (65536 < n.wires + wires_inside t))
    → why ≢ NoMemory → (canvas : ℕ) (k : Known) → totalled rate n canvas k t ≡ Err why
wires_refused rate n t why many x canvas k = let m = many x in total_many rate n t canvas k m.1 ∙ ap Err (sym m.0)

pub sound_refused : (rate : Rate) (n : Counts) (rows : List Row) (t : Trees) (wires : ℕ) → stands_in rows ≡ stands_of t → wires ≡ n.wires + wires_inside t
    → wires ≤ 65536 → 16777216 < n.sound + sound_in rate rows → (canvas : ℕ) (k : Known) → totalled rate n canvas k t ≡ Err TooMuchSound
sound_refused rate n rows t wires s w few_wires much canvas k =
    let told = sound_grown rate rows t s in
    total_much rate n t canvas k (omega (arith, w, few_wires)) (omega (arith, told, much))
