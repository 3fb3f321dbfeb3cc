-- The semicolon that ends a record, byte by byte.
use Rattle.std.specs.Prelude.{ℕ, ◌+◌, Bool, not, List, [], ◌∷◌, if◌then◌else◌, ◌==◌, ◌&&◌}
use Rattle.pd_feed.specs.declared.scan.Scan.{Scan}
use Rattle.pd_feed.specs.declared.scan.Scan.TheVariants.{Found, Ended}

-- the same search, begun so many bytes earlier
abbrev pub later : ℕ → Scan → Scan
later n (Found place) = Found (n + place)
later n (Ended escaped) = Ended escaped

-- the first semicolon that no backslash takes along, where a backslash before the bytes takes the first one along or doesn't
abbrev pub scan_of : Bool → List ℕ → Scan
scan_of escaped [] = Ended escaped
scan_of escaped (b ∷ bs) =
    if not escaped && b == 59 then Found 0 else later 1 (scan_of (not escaped && b == 92) bs)
