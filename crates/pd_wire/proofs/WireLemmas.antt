-- What a caller learns from the clauses of a book.
use Rattle.std.proofs.Common.{◌≡◌, ◌≢◌, ℕ, ◌<◌, List, length, get_or, Option, Some, None, IsSome, subst, sym, ap, ◌∙◌, refl}
use Rattle.std.specs.List.{slice_get}
use Rattle.std.proofs.lemmas.Option.{slice_get_within, get_or_from_slice_get, slice_get_read}
use Rattle.pd_wire.specs.Book.{Book, end_at, wire_at, IsEnd, IsWire, fan_of, feeds_of, MakesEnd, DropsEnd, Adds, Cuts, IsLinked}

some_is : {X : Type 0} (o : Option X) (x : X) → o ≡ Some x → IsSome o
some_is {X = X} o x e = let P : Option X → Type 0 = λ o. IsSome o in subst P (sym e) refl

same_some : {X : Type 0} (o p : Option X) → p ≡ o → IsSome o → IsSome p
same_some {X = X} o p e h = let P : Option X → Type 0 = λ o. IsSome o in subst P (sym e) h

none_no_some : {X : Type 0} (o : Option X) → IsSome o → o ≡ None → ⊥
none_no_some None live vacant = cc
none_no_some (Some x) live vacant = cc

-- a key is live and another is vacant
live_apart : {X : Type 0} (f : ℕ → Option X) (j k : ℕ) → IsSome (f j) → f k ≡ None → j ≢ k
live_apart f j k live vacant = λ e. none_no_some (f j) live (ap f e ∙ vacant)

-- a wire of a fan-out comes from that outlet
pub fan_wire : (b : Book) → IsLinked b → (e i k : ℕ) → slice_get (fan_of b e) i ≡ Some k → (t : ℕ) × (wire_at b k ≡ Some (e, t))
fan_wire b L e i k q =
    let W : ℕ → Type 0 = λ k. (t : ℕ) × (wire_at b k ≡ Some (e, t)) in
    subst W (get_or_from_slice_get (fan_of b e) i k e q) (L.fan_wires e i (slice_get_within (fan_of b e) i k q))

-- a wire among the feeds goes to that inlet
pub feed_wire : (b : Book) → IsLinked b → (e i k : ℕ) → slice_get (feeds_of b e) i ≡ Some k → (s : ℕ) × (wire_at b k ≡ Some (s, e))
feed_wire b L e i k q =
    let W : ℕ → Type 0 = λ k. (s : ℕ) × (wire_at b k ≡ Some (s, e)) in
    subst W (get_or_from_slice_get (feeds_of b e) i k e q) (L.feed_wires e i (slice_get_within (feeds_of b e) i k q))

pub fan_wire_lives : (b : Book) → IsLinked b → (e i k : ℕ) → slice_get (fan_of b e) i ≡ Some k → IsWire b k
fan_wire_lives b L e i k q = some_is _ _ (fan_wire b L e i k q).1

pub feed_wire_lives : (b : Book) → IsLinked b → (e i k : ℕ) → slice_get (feeds_of b e) i ≡ Some k → IsWire b k
feed_wire_lives b L e i k q = some_is _ _ (feed_wire b L e i k q).1

pub MakesEnd-lives : (old new : Book) (key : ℕ) → MakesEnd old new key → IsEnd new key
MakesEnd-lives old new key m = some_is _ _ m.end

pub MakesEnd-apart : (old new : Book) (key e : ℕ) → MakesEnd old new key → IsEnd old e → e ≢ key
MakesEnd-apart old new key e m h = live_apart (end_at old) e key h m.was_vacant.0

pub MakesEnd-kept : (old new : Book) (key e : ℕ) → MakesEnd old new key → IsEnd old e → IsEnd new e
MakesEnd-kept old new key e m h = same_some _ _ (m.other_ends e (MakesEnd-apart old new key e m h)) h

pub DropsEnd-kept : (old new : Book) (key e : ℕ) → DropsEnd old new key → e ≢ key → IsEnd old e → IsEnd new e
DropsEnd-kept old new key e d apart h = same_some _ _ (d.other_ends e apart) h

pub Adds-lives : (old new : Book) (key s p t q : ℕ) → Adds old new key s p t q → IsWire new key
Adds-lives old new key s p t q a = some_is _ _ a.wire

pub Adds-kept : (old new : Book) (key s p t q k : ℕ) → Adds old new key s p t q → IsWire old k → IsWire new k
Adds-kept old new key s p t q k a h = same_some _ _ (a.other_wires k (live_apart (wire_at old) k key h a.was_vacant.1)) h

pub Cuts-kept : (old new : Book) (key s p t q k : ℕ) → Cuts old new key s p t q → k ≢ key → IsWire old k → IsWire new k
Cuts-kept old new key s p t q k c apart h = same_some _ _ (c.other_wires k apart) h

-- the item at a place of a list of a fan-out's wires is live
pub fan_item_lives : (b : Book) → IsLinked b → (e i k : ℕ) (xs : List ℕ) → xs ≡ fan_of b e → i < length xs → k ≡ get_or xs i k → IsWire b k
fan_item_lives b L e i k xs same l q =
    fan_wire_lives b L e i k (ap (λ ys. slice_get ys i) (sym same) ∙ slice_get_read xs (length xs) i k refl l q)

pub feed_item_lives : (b : Book) → IsLinked b → (e i k : ℕ) (xs : List ℕ) → xs ≡ feeds_of b e → i < length xs → k ≡ get_or xs i k → IsWire b k
feed_item_lives b L e i k xs same l q =
    feed_wire_lives b L e i k (ap (λ ys. slice_get ys i) (sym same) ∙ slice_get_read xs (length xs) i k refl l q)
