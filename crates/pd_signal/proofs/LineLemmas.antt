-- A ring keeps the last of all samples that were written.
use Rattle.std.proofs.Common.{◌≡◌, ◌≢◌, refl, sym, ◌∙◌, ap, subst, ℕ, ℤ, pos, suc, min, ◌+◌, ◌-◌, ◌<◌, ◌≤◌, Bool, true, false, nat_lt, inl, inr, List, [], ◌∷◌, ◌++◌, length, replicate, drop, get_or, slice_set, append_assoc, get_or-set_same, get_or-set_other, arith}
use Rattle.std.proofs.lemmas.Bool.{cases_lt}
use Rattle.std.proofs.lemmas.Bool.Decides.{nat_tests}
use Rattle.std.proofs.lemmas.List.{append-nil, length-set, length-append, length-take, length-drop, get_or-take, get_or-drop, get_or-append_right, get_or-replicate, ext_get_or, length-replicate}
use Rattle.std.proofs.lemmas.List.FromFn.{length-map-range_with_len, get_or-map-range_with_len}
use Rattle.std.proofs.Math.ListN.{get_or-append}
use Rattle.std.proofs.Math.Seq.{get_or-append_seam}
use Rattle.pd_signal.specs.Rings.{place_after, places_on, places_back, written, read_from}
use Rattle.pd_clock.specs.declared.times.Rate.{Rate}
use Rattle.pd_kind.specs.declared.tables.Line.{Line}
use Rattle.pd_kind.specs.States.{line_length}
use Rattle.pd_signal.specs.Delays.{way_back, delayed}
use Rattle.pd_signal.specs.Lines.{sample_back, Holds, place_past, block_back}

within_after : (n next : ℕ) → next < n → place_after n next < n
within_after n next lt = grind (arith, nat_tests)

on_after : (n at k : ℕ) → at < n → suc k ≤ n → places_on n (place_after n at) k ≡ places_on n at (suc k)
on_after n at k lt le = grind (arith, nat_tests)

on_none : (n at : ℕ) → at < n → at ≡ places_on n at 0
on_none n at lt = grind (arith, nat_tests)

back_one : (n next : ℕ) → next < n → places_back n (place_after n next) 1 ≡ next
back_one n next lt = grind (arith, nat_tests)

back_more : (n next b : ℕ) → next < n → 0 < b → b < n → places_back n (place_after n next) (suc b) ≡ places_back n next b
back_more n next b lt low high = grind (arith, nat_tests)

back_other : (n next b : ℕ) → next < n → 0 < b → b < n → places_back n next b ≢ next
back_other n next b lt low high = grind (arith, nat_tests)

back_within : (n next b : ℕ) → next < n → 0 < b → b ≤ n → places_back n next b < n
back_within n next b lt low high = grind (arith, nat_tests)

nearer_before : (n next back i p : ℕ) → next < n → i < back → back ≤ n → p ≡ places_back n next back → i < n - p → places_back n next (back - i) ≡ p + i
nearer_before n next back i p lt low high e near = grind (arith, nat_tests)

nearer_after : (n next back i p : ℕ) → next < n → i < back → back ≤ n → p ≡ places_back n next back → n - p ≤ i → places_back n next (back - i) ≡ i - (n - p)
nearer_after n next back i p lt low high e far = grind (arith, nat_tests)

place_past_on : (xs : List ℤ) (n at : ℕ) → at < n → length xs ≤ n → place_past n at xs ≡ places_on n at (length xs)
place_past_on [] n at lt le = on_none n at lt
place_past_on (x ∷ xs) n at lt le =
    place_past_on xs n (place_after n at) (within_after n at lt) (omega arith) ∙ on_after n at (length xs) lt le

sample_one : (all : List ℤ) (x : ℤ) → sample_back (all ++ x ∷ []) 1 ≡ x
sample_one all x =
    let len : length (all ++ x ∷ []) ≡ length all + 1 = length-append all (x ∷ []) in
    let at : length (all ++ x ∷ []) - 1 ≡ length all = omega arith in
    let test : nat_lt (length (all ++ x ∷ [])) 1 ≡ false = grind (arith, nat_tests) in
    rw (test, at) (get_or-append_seam all x [] (pos 0))

sample_more : (all : List ℤ) (x : ℤ) (b : ℕ) → 0 < b → sample_back (all ++ x ∷ []) (suc b) ≡ sample_back all b
sample_more all x b low =
    let len : length (all ++ x ∷ []) ≡ length all + 1 = length-append all (x ∷ []) in
    elim (cases_lt (length all) b) [
      | inl far ↦
          (let one : nat_lt (length (all ++ x ∷ [])) (suc b) ≡ true = grind (arith, nat_tests) in
          let two : nat_lt (length all) b ≡ true = grind (arith, nat_tests) in
          rw (one, two) refl)
      | inr near ↦
          (let one : nat_lt (length (all ++ x ∷ [])) (suc b) ≡ false = grind (arith, nat_tests) in
          let two : nat_lt (length all) b ≡ false = grind (arith, nat_tests) in
          let at : length (all ++ x ∷ []) - suc b ≡ length all - b = omega arith in
          rw (one, two, at) (get_or-append all (x ∷ []) (pos 0) (length all - b) (omega arith)))
    ]

-- one sample more
step_at : (ring all : List ℤ) (next : ℕ) (x : ℤ) → next < length ring → Holds ring next all → (back : ℕ) → 0 < back → back ≤ length ring
    → get_or (slice_set ring next x) (places_back (length ring) (place_after (length ring) next) back) (pos 0) ≡ sample_back (all ++ x ∷ []) back
step_at ring all next x lt h back low high =
    elim (cases_lt back 2) [
      | inl first ↦
          (let e : 1 ≡ back = omega arith in
          subst (λ k. get_or (slice_set ring next x) (places_back (length ring) (place_after (length ring) next) k) (pos 0) ≡ sample_back (all ++ x ∷ []) k) e
          (ap (λ p. get_or (slice_set ring next x) p (pos 0)) (back_one (length ring) next lt)
          ∙ (get_or-set_same ring next x (pos 0) lt ∙ sym (sample_one all x))))
      | inr later ↦
          (let e : suc (back - 1) ≡ back = omega arith in
          let some : 0 < back - 1 = omega arith in
          let fits : back - 1 < length ring = omega arith in
          subst (λ k. get_or (slice_set ring next x) (places_back (length ring) (place_after (length ring) next) k) (pos 0) ≡ sample_back (all ++ x ∷ []) k) e
          (ap (λ p. get_or (slice_set ring next x) p (pos 0)) (back_more (length ring) next (back - 1) lt some fits)
          ∙ (get_or-set_other ring next (places_back (length ring) next (back - 1)) x (pos 0) (back_other (length ring) next (back - 1) lt some fits)
          ∙ (h (back - 1) some (omega arith) ∙ sym (sample_more all x (back - 1) some)))))
    ]

step : (ring all : List ℤ) (next : ℕ) (x : ℤ) → next < length ring → Holds ring next all
    → Holds (slice_set ring next x) (place_after (length ring) next) (all ++ x ∷ [])
step ring all next x lt h back low high =
    let len : length (slice_set ring next x) ≡ length ring = length-set ring next x in
    subst (λ n. get_or (slice_set ring next x) (places_back n (place_after (length ring) next) back) (pos 0) ≡ sample_back (all ++ x ∷ []) back) (sym len)
    (step_at ring all next x lt h back low (omega arith))

past_written : (xs ring all : List ℤ) (next : ℕ) → next < length ring → Holds ring next all
    → Holds (written ring next xs) (place_past (length ring) next xs) (all ++ xs)
past_written [] ring all next lt h = subst (Holds ring next) (sym (append-nil all)) h
past_written (x ∷ xs) ring all next lt h =
    let len : length (slice_set ring next x) ≡ length ring = length-set ring next x in
    let after : place_after (length ring) next < length ring = within_after (length ring) next lt in
    let rest : Holds (written (slice_set ring next x) (place_after (length ring) next) xs) (place_past (length (slice_set ring next x)) (place_after (length ring) next) xs) ((all ++ x ∷ []) ++ xs) =
    past_written xs (slice_set ring next x) (all ++ x ∷ []) (place_after (length ring) next) (omega arith) (step ring all next x lt h) in
    let same : Holds (written (slice_set ring next x) (place_after (length ring) next) xs) (place_past (length ring) (place_after (length ring) next) xs) ((all ++ x ∷ []) ++ xs) =
    subst (λ n. Holds (written (slice_set ring next x) (place_after (length ring) next) xs) (place_past n (place_after (length ring) next) xs) ((all ++ x ∷ []) ++ xs)) len rest in
    subst (Holds (written (slice_set ring next x) (place_after (length ring) next) xs) (place_past (length ring) (place_after (length ring) next) xs)) (append_assoc all (x ∷ []) xs) same

pub holds_written : (ring all xs : List ℤ) (next : ℕ) → next < length ring → length xs ≤ length ring → Holds ring next all
    → Holds (written ring next xs) (places_on (length ring) next (length xs)) (all ++ xs)
holds_written ring all xs next lt le h =
    subst (λ at. Holds (written ring next xs) at (all ++ xs)) (place_past_on xs (length ring) next lt le) (past_written xs ring all next lt h)

nothing_back : (back : ℕ) → 0 < back → sample_back [] back ≡ pos 0
nothing_back back low = let test : nat_lt 0 back ≡ true = grind (arith, nat_tests) in rw test refl

back_first : (n back : ℕ) → 0 < back → back ≤ n → places_back n 0 back < n
back_first n back low high = grind (arith, nat_tests)

pub holds_nothing : (n : ℕ) → Holds (replicate n (pos 0)) 0 []
holds_nothing n back low high =
    let len : length (replicate n (pos 0)) ≡ n = length-replicate n (pos 0) in
    let within : places_back (length (replicate n (pos 0))) 0 back < length (replicate n (pos 0)) = back_first (length (replicate n (pos 0))) back low high in
    get_or-replicate n (places_back (length (replicate n (pos 0))) 0 back) (pos 0) (pos 0) (omega arith) ∙ sym (nothing_back back low)

-- what is read
read_at : (ring all : List ℤ) (next back i : ℕ) → next < length ring → i < back → back ≤ length ring → Holds ring next all
    → get_or (drop (places_back (length ring) next back) ring ++ ring) i (pos 0) ≡ sample_back all (back - i)
read_at ring all next back i lt low high h =
    let len : length (drop (places_back (length ring) next back) ring) ≡ length ring - places_back (length ring) next back = length-drop (places_back (length ring) next back) ring in
    let held : get_or ring (places_back (length ring) next (back - i)) (pos 0) ≡ sample_back all (back - i) = h (back - i) (omega arith) (omega arith) in
    elim (cases_lt i (length ring - places_back (length ring) next back)) [
      | inl near ↦
          (get_or-append (drop (places_back (length ring) next back) ring) ring (pos 0) i (omega arith)
          ∙ (get_or-drop (places_back (length ring) next back) ring i (pos 0)
          ∙ (ap (λ p. get_or ring p (pos 0)) (sym (nearer_before (length ring) next back i (places_back (length ring) next back) lt low high refl near)) ∙ held)))
      | inr far ↦
          (get_or-append_right (drop (places_back (length ring) next back) ring) ring (length ring - places_back (length ring) next back) i (pos 0) len far
          ∙ (ap (λ p. get_or ring p (pos 0)) (sym (nearer_after (length ring) next back i (places_back (length ring) next back) lt low high refl far)) ∙ held))
    ]

length_read : (ring : List ℤ) (at : ℕ) → 64 ≤ length ring → length (read_from ring at) ≡ 64
length_read ring at le =
    let all : length (read_from ring at) ≡ min 64 (length (drop at ring ++ ring)) = length-take 64 (drop at ring ++ ring) in
    let parts : length (drop at ring ++ ring) ≡ length (drop at ring) + length ring = length-append (drop at ring) ring in
    omega arith

read_holds : (ring all : List ℤ) (next back : ℕ) → next < length ring → 64 ≤ back → back ≤ length ring → Holds ring next all
    → read_from ring (places_back (length ring) next back) ≡ block_back all back
read_holds ring all next back lt low high h =
    let len : length (read_from ring (places_back (length ring) next back)) ≡ 64 = length_read ring (places_back (length ring) next back) (omega arith) in
    ext_get_or (pos 0) (read_from ring (places_back (length ring) next back)) (block_back all back)
    (len ∙ sym (length-map-range_with_len (λ i. sample_back all (back - i)) 0 64))
    (λ i lower.
    let below : i < 64 = omega arith in
    get_or-take 64 (drop (places_back (length ring) next back) ring ++ ring) i (pos 0) below
    ∙ (read_at ring all next back i lt (omega arith) high h
    ∙ sym (get_or-map-range_with_len (λ k. sample_back all (back - k)) 0 64 i i (pos 0) below (omega arith))))

-- how far back a reader begins
way_block : (n : ℕ) (ran : Bool) (delay : ℕ) → 64 ≤ n → 64 ≤ way_back n ran delay
way_block n true delay le = omega arith
way_block n false delay le = omega arith

way_fits : (n : ℕ) (ran : Bool) (delay : ℕ) → 64 ≤ n → way_back n ran delay ≤ n
way_fits n true delay le = omega arith
way_fits n false delay le = omega arith

pub delayed_holds : (ring all : List ℤ) (line : Line) (rate : Rate) (time : ℤ) → 64 ≤ length ring → line.next < length ring → Holds ring line.next all
    → delayed ring line rate time ≡ block_back all (way_back (length ring) line.ran (line_length rate time))
delayed_holds ring all line rate time block within h =
    read_holds ring all line.next (way_back (length ring) line.ran (line_length rate time)) within
    (way_block (length ring) line.ran (line_length rate time) block) (way_fits (length ring) line.ran (line_length rate time) block) h
