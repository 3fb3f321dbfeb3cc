-- Bytes from a place on, one at a time.
use Rattle.std.proofs.Common.{◌≡◌, ℕ, ◌+◌, ◌<◌, ◌≤◌, Bool, true, false, not, ◌&&◌, List, length, get_or, drop, refl, ap, ◌∙◌, arith, eqb}
use Rattle.std.proofs.lemmas.List.{drop_all, at_drop_more}
use Rattle.std.proofs.lemmas.List.Sums.{prefix_len-drop_yes, prefix_len-drop_no, prefix_len-drop_all}
use Rattle.std.specs.List.{prefix_len}
use Rattle.pd_lex.specs.Text.{is_space}
use Rattle.pd_feed.specs.Scan.{scan_of, later}
use Rattle.pd_feed.specs.declared.scan.Scan.{Scan}
use Rattle.pd_feed.specs.declared.scan.Scan.TheVariants.{Found, Ended}

pub spaces_one : (s : List ℕ) (i : ℕ) → i < length s → is_space (get_or s i 0) ≡ true →
    prefix_len is_space (drop i s) ≡ 1 + prefix_len is_space (drop (i + 1) s)
spaces_one s i h b = prefix_len-drop_yes is_space s i 0 h b

pub spaces_none : (s : List ℕ) (i : ℕ) → i < length s → is_space (get_or s i 0) ≡ false → prefix_len is_space (drop i s) ≡ 0
spaces_none s i h b = prefix_len-drop_no is_space s i 0 h b

pub spaces_end : (s : List ℕ) (i : ℕ) → length s ≤ i → prefix_len is_space (drop i s) ≡ 0
spaces_end s i h = prefix_len-drop_all is_space s i h

pub ruleset space_steps = (spaces_one, spaces_none, spaces_end)

pub later-later : (m n : ℕ) (s : Scan) → later m (later n s) ≡ later (m + n) s
later-later m n (Found k) = ap Found (omega arith)
later-later m n (Ended e) = refl

pub later-zero : (s : Scan) → later 0 s ≡ s
later-zero (Found k) = ap Found (omega arith)
later-zero (Ended e) = refl

pub scan_one : (s : List ℕ) (i : ℕ) (e : Bool) → i < length s → (not e && eqb (get_or s i 0) 59) ≡ false →
    later i (scan_of e (drop i s)) ≡ later (i + 1) (scan_of (not e && eqb (get_or s i 0) 92) (drop (i + 1) s))
scan_one s i e h n =
    ap (later i) (at_drop_more (scan_of e) s i 0 h) ∙ (rw n (later-later i 1 _))

pub scan_found : (s : List ℕ) (i : ℕ) (e : Bool) → i < length s → (not e && eqb (get_or s i 0) 59) ≡ true →
    later i (scan_of e (drop i s)) ≡ Found i
scan_found s i e h y =
    ap (later i) (at_drop_more (scan_of e) s i 0 h) ∙ (rw y (ap Found (omega arith)))

pub scan_end : (s : List ℕ) (i : ℕ) (e : Bool) → length s ≤ i → later i (scan_of e (drop i s)) ≡ Ended e
scan_end s i e h = ap (λ r. later i (scan_of e r)) (drop_all i s h)

pub scan_start : (s : List ℕ) (e : Bool) → later 0 (scan_of e s) ≡ scan_of e s
scan_start s e = later-zero (scan_of e s)

pub ruleset scan_steps = (scan_one, scan_found, scan_end, scan_start)
