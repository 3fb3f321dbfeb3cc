-- Along the feeds of an end from behind.
use Rattle.std.proofs.Common.{◌≡◌, ℕ, zero, suc, ◌+◌, ◌-◌, List, map, length, slice_get, Option, Some, None, sym, ap, ◌∙◌, subst, arith}
use Rattle.std.specs.Prelude.{option_map}
use Rattle.std.proofs.lemmas.List.{length-map}
use Rattle.std.proofs.lemmas.Option.{none-some, slice_get-map, slice_get-get_or}
use Rattle.pd_wire.specs.Book.{Book, IsWire, wire_at, feeds_of, IsLinked, IsPrevious}
use Rattle.pd_web.specs.declared.web.Hop.{Hop}
use Rattle.pd_web.specs.declared.sockets.Spot.{Spot}
use Rattle.pd_web.specs.Hops.{hop_by, feeds_under}
use Rattle.pd_web.proofs.HopLemmas.{pair_at, feed_listed, feed_wire, key_listed}

-- what is known of the wire before one
abbrev pub Before : Book → ℕ → Option ℕ → Type 0
Before b k r = (s t : ℕ) → wire_at b k ≡ Some (s, t) → IsPrevious (feeds_of b t) k r

front : (b : Book) (o : Option ℕ) (k : ℕ) (r : Option ℕ) → IsLinked b → Before b k r → slice_get (feeds_under b o) 0 ≡ Some k → r ≡ None
front b None k r linked before h = absurd (none-some k h)
front b (Some e) k r linked before h = let w = feed_listed b e 0 k linked h in (before w.0 e w.1).at_front h

behind : (b : Book) (o : Option ℕ) (i k : ℕ) (r : Option ℕ) → IsLinked b → Before b k r → slice_get (feeds_under b o) (i + 1) ≡ Some k → r ≡ slice_get (feeds_under b o) i
behind b None i k r linked before h = absurd (none-some k h)
behind b (Some e) i k r linked before h = let w = feed_listed b e (i + 1) k linked h in (before w.0 e w.1).behind i h

before_at : (b : Book) (o : Option ℕ) (i k k' : ℕ) (r : Option ℕ) → IsLinked b → Before b k r → slice_get (feeds_under b o) i ≡ Some k → r ≡ Some k' → IsWire b k'
before_at b o zero k k' r linked before h e = absurd (none-some k' (sym (front b o k r linked before h) ∙ e))
before_at b o (suc i) k k' r linked before h e =
    let P : ℕ → Type 0 = λ n. slice_get (feeds_under b o) n ≡ Some k in
    let next : suc i ≡ i + 1 = omega arith in
    feed_wire b o i k' linked (sym (behind b o i k r linked before (subst P next h)) ∙ e)

-- the wire before one is one
pub before_wire : (b : Book) (k : ℕ) (r : Option ℕ) → IsLinked b → IsWire b k → Before b k r → (k' : ℕ) → r ≡ Some k' → IsWire b k'
before_wire b k r linked w before k' h =
    let p = pair_at (wire_at b k) w in
    let q = linked.in_feeds k p.0 p.1 p.2 in
    let at : slice_get (feeds_of b p.1) q.0 ≡ Some k = slice_get-get_or (feeds_of b p.1) q.0 p.1 q.1 ∙ ap (λ x. Some x) q.2 in
    before_at b (Some p.1) q.0 k k' r linked before at h

pub hop_front : (where_to : ℕ → Option Spot) (b : Book) (o : Option ℕ) (h : Hop) (r : Option ℕ) → IsLinked b → Before b h.key r
    → slice_get (map (λ k. hop_by k (where_to k)) (feeds_under b o)) 0 ≡ Some h → option_map (λ k. hop_by k (where_to k)) r ≡ None
hop_front where_to b o h r linked before e =
    ap (option_map (λ k. hop_by k (where_to k))) (front b o h.key r linked before (key_listed where_to (feeds_under b o) 0 h e))

pub hop_behind : (where_to : ℕ → Option Spot) (b : Book) (o : Option ℕ) (i : ℕ) (h : Hop) (r : Option ℕ) → IsLinked b → Before b h.key r
    → slice_get (map (λ k. hop_by k (where_to k)) (feeds_under b o)) (i + 1) ≡ Some h → option_map (λ k. hop_by k (where_to k)) r ≡ slice_get (map (λ k. hop_by k (where_to k)) (feeds_under b o)) i
hop_behind where_to b o i h r linked before e =
    ap (option_map (λ k. hop_by k (where_to k))) (behind b o i h.key r linked before (key_listed where_to (feeds_under b o) (i + 1) h e)) ∙ sym (slice_get-map (λ k. hop_by k (where_to k)) (feeds_under b o) i)

-- the last hop
pub hop_last : (f : ℕ → Hop) (xs : List ℕ) → option_map f (slice_get xs (length xs - 1)) ≡ slice_get (map f xs) (length (map f xs) - 1)
hop_last f xs = sym (slice_get-map f xs (length xs - 1)) ∙ ap (λ n. slice_get (map f xs) (n - 1)) (sym (length-map xs f))
