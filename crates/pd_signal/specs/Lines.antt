-- What the ring of a `delwrite~` stands for: all samples that were written, of which the ring holds the last ones.
use Rattle.std.specs.Prelude.{◌≡◌, ℕ, ℤ, pos, ◌-◌, ◌<◌, ◌≤◌, nat_lt, map, List, [], ◌∷◌, length, slice_index_or, if◌then◌else◌}
use Rattle.std.specs.List.{range_with_len}
use Rattle.pd_signal.specs.Rings.{place_after, places_back}

-- the sample so many back from the end of all that were written, 0 before the first
abbrev pub sample_back : List ℤ → ℕ → ℤ
sample_back all back = if nat_lt (length all) back then pos 0 else slice_index_or all (length all - back) (pos 0)

-- a ring whose next sample has its place at `next` holds the last samples of all, each as far back as it is
abbrev pub Holds : List ℤ → ℕ → List ℤ → Type 0
Holds ring next all =
    (back : ℕ) → 0 < back → back ≤ length ring → slice_index_or ring (places_back (length ring) next back) (pos 0) ≡ sample_back all back

-- the place after so many places as there are samples
abbrev pub place_past : ℕ → ℕ → List ℤ → ℕ
place_past n at [] = at
place_past n at (x ∷ xs) = place_past n (place_after n at) xs

-- 64 samples, the first of them so many back
abbrev pub block_back : List ℤ → ℕ → List ℤ
block_back all back = map (λ i. sample_back all (back - i)) (range_with_len 0 64)
