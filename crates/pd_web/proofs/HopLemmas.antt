-- Along the wires of an end.
use Rattle.std.proofs.Common.{◌≡◌, ℕ, zero, suc, ◌+◌, ◌≤◌, List, [], ◌∷◌, map, slice_get, false, Option, Some, None, IsSome, is_some, refl, sym, ap, ◌∙◌, true≢false, arith}
use Rattle.std.specs.Prelude.{option_map}
use Rattle.std.proofs.lemmas.Option.{none-some, same_Some, slice_get-map, slice_get_within, get_or_from_slice_get, slice_get-get_or}
use Rattle.pd_wire.specs.Book.{Book, IsWire, wire_at, fan_of, feeds_of, IsLinked, IsNext}
use Rattle.pd_web.specs.declared.web.Hop.{Hop}
use Rattle.pd_web.specs.declared.sockets.Spot.{Spot}
use Rattle.pd_web.specs.Hops.{hop_by, fan_under, feeds_under}

pub some_is : (o : Option (ℕ × ℕ)) (p : ℕ × ℕ) → o ≡ Some p → IsSome o
some_is o p h = ap is_some h

-- the pair at a key that has one
pub pair_at : (o : Option (ℕ × ℕ)) → IsSome o → (s : ℕ) × (t : ℕ) × (o ≡ Some (s, t))
pair_at None h = absurd (cc)
pair_at (Some p) h = (p.0, p.1, refl)

pub fan_listed : (b : Book) (e i k : ℕ) → IsLinked b → slice_get (fan_of b e) i ≡ Some k → (t : ℕ) × (wire_at b k ≡ Some (e, t))
fan_listed b e i k linked h =
    let w = linked.fan_wires e i (slice_get_within (fan_of b e) i k h) in
    (w.0, ap (wire_at b) (sym (get_or_from_slice_get (fan_of b e) i k e h)) ∙ w.1)

pub feed_listed : (b : Book) (e i k : ℕ) → IsLinked b → slice_get (feeds_of b e) i ≡ Some k → (s : ℕ) × (wire_at b k ≡ Some (s, e))
feed_listed b e i k linked h =
    let w = linked.feed_wires e i (slice_get_within (feeds_of b e) i k h) in
    (w.0, ap (wire_at b) (sym (get_or_from_slice_get (feeds_of b e) i k e h)) ∙ w.1)

-- what is listed is a wire
pub fan_wire : (b : Book) (o : Option ℕ) (i k : ℕ) → IsLinked b → slice_get (fan_under b o) i ≡ Some k → IsWire b k
fan_wire b None i k linked h = absurd (none-some k h)
fan_wire b (Some e) i k linked h = let w = fan_listed b e i k linked h in some_is (wire_at b k) (e, w.0) w.1

pub feed_wire : (b : Book) (o : Option ℕ) (i k : ℕ) → IsLinked b → slice_get (feeds_under b o) i ≡ Some k → IsWire b k
feed_wire b None i k linked h = absurd (none-some k h)
feed_wire b (Some e) i k linked h = let w = feed_listed b e i k linked h in some_is (wire_at b k) (w.0, e) w.1

-- the wire behind one is one
pub fan_after_wire : (b : Book) (k : ℕ) (r : Option ℕ) → IsLinked b → IsWire b k → ((s t : ℕ) → wire_at b k ≡ Some (s, t) → IsNext (fan_of b s) k r) → (k' : ℕ) → r ≡ Some k' → IsWire b k'
fan_after_wire b k r linked w next k' h =
    let p = pair_at (wire_at b k) w in
    let q = linked.in_fan k p.0 p.1 p.2 in
    let at : slice_get (fan_of b p.0) q.0 ≡ Some k = slice_get-get_or (fan_of b p.0) q.0 p.0 q.1 ∙ ap (λ x. Some x) q.2 in
    fan_wire b (Some p.0) (q.0 + 1) k' linked (sym (next p.0 p.1 p.2 q.0 at) ∙ h)

pub feed_after_wire : (b : Book) (k : ℕ) (r : Option ℕ) → IsLinked b → IsWire b k → ((s t : ℕ) → wire_at b k ≡ Some (s, t) → IsNext (feeds_of b t) k r) → (k' : ℕ) → r ≡ Some k' → IsWire b k'
feed_after_wire b k r linked w next k' h =
    let p = pair_at (wire_at b k) w in
    let q = linked.in_feeds k p.0 p.1 p.2 in
    let at : slice_get (feeds_of b p.1) q.0 ≡ Some k = slice_get-get_or (feeds_of b p.1) q.0 p.1 q.1 ∙ ap (λ x. Some x) q.2 in
    feed_wire b (Some p.1) (q.0 + 1) k' linked (sym (next p.0 p.1 p.2 q.0 at) ∙ h)

fan_after : (b : Book) (o : Option ℕ) (i k : ℕ) (r : Option ℕ) → IsLinked b → ((s t : ℕ) → wire_at b k ≡ Some (s, t) → IsNext (fan_of b s) k r)
    → slice_get (fan_under b o) i ≡ Some k → r ≡ slice_get (fan_under b o) (i + 1)
fan_after b None i k r linked next h = absurd (none-some k h)
fan_after b (Some e) i k r linked next h = let w = fan_listed b e i k linked h in next e w.0 w.1 i h

feed_after : (b : Book) (o : Option ℕ) (i k : ℕ) (r : Option ℕ) → IsLinked b → ((s t : ℕ) → wire_at b k ≡ Some (s, t) → IsNext (feeds_of b t) k r)
    → slice_get (feeds_under b o) i ≡ Some k → r ≡ slice_get (feeds_under b o) (i + 1)
feed_after b None i k r linked next h = absurd (none-some k h)
feed_after b (Some e) i k r linked next h = let w = feed_listed b e i k linked h in next w.0 e w.1 i h

key_kept : (k : ℕ) (o : Option Spot) → (hop_by k o).key ≡ k
key_kept k None = refl
key_kept k (Some s) = refl

some_mapped : (f : ℕ → Hop) (same : (k : ℕ) → (f k).key ≡ k) (o : Option ℕ) (h : Hop) → option_map f o ≡ Some h → o ≡ Some h.key
some_mapped f same None h e = absurd (none-some h e)
some_mapped f same (Some k) h e = ap (λ x. Some x) (sym (same k) ∙ ap (λ (x : Hop). x.key) (same_Some (f k) h e))

-- the key at the place of a hop
pub key_listed : (where_to : ℕ → Option Spot) (keys : List ℕ) (i : ℕ) (h : Hop) → slice_get (map (λ k. hop_by k (where_to k)) keys) i ≡ Some h → slice_get keys i ≡ Some h.key
key_listed where_to keys i h e =
    some_mapped (λ k. hop_by k (where_to k)) (λ k. key_kept k (where_to k)) (slice_get keys i) h (sym (slice_get-map (λ k. hop_by k (where_to k)) keys i) ∙ e)

-- the hop behind one
pub fan_hop_after : (where_to : ℕ → Option Spot) (b : Book) (o : Option ℕ) (i : ℕ) (h : Hop) (r : Option ℕ) → IsLinked b → ((s t : ℕ) → wire_at b h.key ≡ Some (s, t) → IsNext (fan_of b s) h.key r)
    → slice_get (map (λ k. hop_by k (where_to k)) (fan_under b o)) i ≡ Some h → option_map (λ k. hop_by k (where_to k)) r ≡ slice_get (map (λ k. hop_by k (where_to k)) (fan_under b o)) (i + 1)
fan_hop_after where_to b o i h r linked next e =
    ap (option_map (λ k. hop_by k (where_to k))) (fan_after b o i h.key r linked next (key_listed where_to (fan_under b o) i h e)) ∙ sym (slice_get-map (λ k. hop_by k (where_to k)) (fan_under b o) (i + 1))

pub feed_hop_after : (where_to : ℕ → Option Spot) (b : Book) (o : Option ℕ) (i : ℕ) (h : Hop) (r : Option ℕ) → IsLinked b → ((s t : ℕ) → wire_at b h.key ≡ Some (s, t) → IsNext (feeds_of b t) h.key r)
    → slice_get (map (λ k. hop_by k (where_to k)) (feeds_under b o)) i ≡ Some h → option_map (λ k. hop_by k (where_to k)) r ≡ slice_get (map (λ k. hop_by k (where_to k)) (feeds_under b o)) (i + 1)
feed_hop_after where_to b o i h r linked next e =
    ap (option_map (λ k. hop_by k (where_to k))) (feed_after b o i h.key r linked next (key_listed where_to (feeds_under b o) i h e)) ∙ sym (slice_get-map (λ k. hop_by k (where_to k)) (feeds_under b o) (i + 1))

-- no hop is listed that is no wire
pub fan_hop_lost : (where_to : ℕ → Option Spot) (b : Book) (o : Option ℕ) (i : ℕ) (h : Hop) → IsLinked b → is_some (wire_at b h.key) ≡ false
    → slice_get (map (λ k. hop_by k (where_to k)) (fan_under b o)) i ≡ Some h → ⊥
fan_hop_lost where_to b o i h linked lost e = let w = fan_wire b o i h.key linked (key_listed where_to (fan_under b o) i h e) in true≢false (sym w ∙ lost)

pub feed_hop_lost : (where_to : ℕ → Option Spot) (b : Book) (o : Option ℕ) (i : ℕ) (h : Hop) → IsLinked b → is_some (wire_at b h.key) ≡ false
    → slice_get (map (λ k. hop_by k (where_to k)) (feeds_under b o)) i ≡ Some h → ⊥
feed_hop_lost where_to b o i h linked lost e = let w = feed_wire b o i h.key linked (key_listed where_to (feeds_under b o) i h e) in true≢false (sym w ∙ lost)

-- none at a place, none at a later one
pub none_later : {X : Type 0} (xs : List X) (i n : ℕ) → None ≡ slice_get xs i → i ≤ n → None ≡ slice_get xs n
none_later [] i n h l = refl
none_later (x ∷ xs) zero n h l = absurd (none-some x h)
none_later (x ∷ xs) (suc i) zero h l = absurd (omega arith)
none_later (x ∷ xs) (suc i) (suc n) h l = none_later xs i n h (omega arith)
