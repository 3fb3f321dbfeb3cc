-- How many values the signal objects make of blocks.
use Rattle.std.proofs.Common.{◌≡◌, ℕ, ℤ, zero, suc, ◌+◌, ◌<◌, ◌≤◌, min, List, [], ◌∷◌, ◌++◌, drop, map, length, replicate, slice_set, refl, sym, ◌∙◌, arith}
use Rattle.std.proofs.lemmas.Bool.Decides.{nat_tests}
use Rattle.std.proofs.lemmas.List.{length-map, length-take, length-append, length-replicate}
use Rattle.std.proofs.lemmas.List.FromFn.{length-map-range_with_len}
use Rattle.std.proofs.Math.ListN.{length-set}
use Rattle.std.specs.List.{range_with_len}
use Rattle.pd_kind.specs.declared.states.Slope.{Slope}
use Rattle.pd_tone.specs.Tones.{moved, phases, next_seed, seeds}
use Rattle.pd_signal.specs.Samples.{zip_with, nearer, low_passed, kept_at, kept_values}
use Rattle.pd_signal.specs.Ramps.{slope_sample, ramp_of}
use Rattle.pd_signal.specs.Rings.{place_after, places_on, written, read_from}
use Rattle.pd_sized.specs.Sizes.{IsBlock}

zip_same : (f : ℤ → ℤ → ℤ) (xs ys : List ℤ) → length xs ≡ length ys → length (zip_with f xs ys) ≡ length xs
zip_same f [] ys e = refl
zip_same f (x ∷ xs) [] e = sym e
zip_same f (x ∷ xs) (y ∷ ys) e = let rest : length (zip_with f xs ys) ≡ length xs = zip_same f xs ys (omega arith) in omega arith

pub zip_block : (f : ℤ → ℤ → ℤ) (xs ys : List ℤ) → IsBlock xs → IsBlock ys → IsBlock (zip_with f xs ys)
zip_block f xs ys h k = zip_same f xs ys (h ∙ sym k) ∙ h

pub map_block : (f : ℤ → ℤ) (xs : List ℤ) → IsBlock xs → IsBlock (map f xs)
map_block f xs h = length-map xs f ∙ h

pub same_block : (z : ℤ) → IsBlock (replicate 64 z)
same_block z = length-replicate 64 z

low_same : (k v : ℤ) (xs : List ℤ) → length (low_passed k v xs) ≡ length xs
low_same k v [] = refl
low_same k v (x ∷ xs) = let rest : length (low_passed k (nearer k v x) xs) ≡ length xs = low_same k (nearer k v x) xs in omega arith

pub low_block : (k v : ℤ) (xs : List ℤ) → IsBlock xs → IsBlock (low_passed k v xs)
low_block k v xs h = low_same k v xs ∙ h

kept_same : (last kept : ℤ) (xs ys : List ℤ) → length xs ≡ length ys → length (kept_values last kept xs ys) ≡ length xs
kept_same last kept [] ys e = refl
kept_same last kept (x ∷ xs) [] e = sym e
kept_same last kept (x ∷ xs) (y ∷ ys) e = let rest : length (kept_values y (kept_at last kept x y) xs ys) ≡ length xs = kept_same y (kept_at last kept x y) xs ys (omega arith) in omega arith

pub kept_block : (last kept : ℤ) (xs ys : List ℤ) → IsBlock xs → IsBlock ys → IsBlock (kept_values last kept xs ys)
kept_block last kept xs ys h k = kept_same last kept xs ys (h ∙ sym k) ∙ h

pub ramp_block : (s : Slope) → IsBlock (ramp_of s)
ramp_block s = length-map-range_with_len (slope_sample s) s.at 64

pub made_block : (f : ℕ → ℤ) → IsBlock (map f (range_with_len 0 64))
made_block f = length-map-range_with_len f 0 64

phases_same : (m p : ℕ) (xs : List ℤ) → length (phases m p xs) ≡ length xs
phases_same m p [] = refl
phases_same m p (x ∷ xs) = let rest : length (phases m (moved m p x) xs) ≡ length xs = phases_same m (moved m p x) xs in omega arith

pub phases_block : (f : ℕ → ℤ) (m p : ℕ) (xs : List ℤ) → IsBlock xs → IsBlock (map f (phases m p xs))
phases_block f m p xs h = length-map (phases m p xs) f ∙ phases_same m p xs ∙ h

seeds_count : (n s : ℕ) → length (seeds n s) ≡ n
unfolding seeds
seeds_count zero s = refl
seeds_count (suc n) s = let rest : length (seeds n (next_seed s)) ≡ n = seeds_count n (next_seed s) in omega arith

pub noise_block : (f : ℕ → ℤ) (s : ℕ) → IsBlock (map f (seeds 64 s))
noise_block f s = length-map (seeds 64 s) f ∙ seeds_count 64 s

-- a ring that is written keeps its size, and what is read of it is a block
pub written_count : (ring : List ℤ) (at : ℕ) (xs : List ℤ) → length (written ring at xs) ≡ length ring
written_count ring at [] = refl
written_count ring at (x ∷ xs) = written_count (slice_set ring at x) (place_after (length ring) at) xs ∙ length-set ring at x

pub within_on : (n at : ℕ) → 64 ≤ n → at < n → places_on n at 64 < n
within_on n at low lt = grind (arith, nat_tests)

pub read_block : (ring : List ℤ) (at : ℕ) → 64 ≤ length ring → IsBlock (read_from ring at)
read_block ring at le =
    let all : length (read_from ring at) ≡ min 64 (length (drop at ring ++ ring)) = length-take 64 (drop at ring ++ ring) in
    let parts : length (drop at ring ++ ring) ≡ length (drop at ring) + length ring = length-append (drop at ring) ring in
    omega arith
