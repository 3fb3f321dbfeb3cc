-- What a contract sees of a `WireBook`.
use Rattle.std.specs.Prelude.{◌≡◌, ◌≢◌, ℕ, ◌+◌, ◌<◌, ◌≤◌, max, not, ◌==◌, filter, List, [], length, Option, Some, None, IsSome, is_some, slice_get, slice_index_or, refl}
use Rattle.std.specs.List.{insert, remove}
use Rattle.std.specs.Coded.{Coded, code_by, coded×, coded_ℕ, coded_list, coded_option}

-- at each key of an end its fan-out and its feeds, at each key of a wire its source and its sink, and how many more
-- ends and how many more wires take no memory
pub record Book : Type 0 where
  pub ends : List (Option (List ℕ × List ℕ))
  pub wires : List (Option (ℕ × ℕ))
  pub spare_ends : ℕ
  pub spare_wires : ℕ

-- a book is stored as the tuple of its fields
abbrev pub book_code : Coded Book
book_code =
    code_by (List (Option (List ℕ × List ℕ)) × (List (Option (ℕ × ℕ)) × (ℕ × ℕ)))
    (coded× (coded_list (coded_option (coded× (coded_list coded_ℕ) (coded_list coded_ℕ)))) (coded× (coded_list (coded_option (coded× coded_ℕ coded_ℕ))) (coded× coded_ℕ coded_ℕ)))
    (λ b. (b.ends, (b.wires, (b.spare_ends, b.spare_wires))))
    (λ p. record { ends = p.0; wires = p.1.0; spare_ends = p.1.1.0; spare_wires = p.1.1.1 })
    (λ _. refl)

-- no ends, and no room
abbrev pub empty_book : Book
empty_book = record { ends = []; wires = []; spare_ends = 0; spare_wires = 0 }

-- the book with room for at least so many more ends and wires
abbrev pub with_room : Book → ℕ → ℕ → Book
with_room b ends wires = record b { spare_ends = max b.spare_ends ends; spare_wires = max b.spare_wires wires }

-- the fan-out and the feeds of a live end
abbrev pub end_at : Book → ℕ → Option (List ℕ × List ℕ)
end_at b e = slice_index_or b.ends e None

-- the source and the sink of a live wire
abbrev pub wire_at : Book → ℕ → Option (ℕ × ℕ)
wire_at b k = slice_index_or b.wires k None

-- how many wires are live
abbrev pub live_wires : Book → ℕ
live_wires b = length (filter is_some b.wires)

-- a live end
abbrev pub IsEnd : Book → ℕ → Type 0
IsEnd b e = IsSome (end_at b e)

-- a live wire
abbrev pub IsWire : Book → ℕ → Type 0
IsWire b k = IsSome (wire_at b k)

abbrev pub fan_part : Option (List ℕ × List ℕ) → List ℕ
fan_part None = []
fan_part (Some p) = p.0

abbrev pub feed_part : Option (List ℕ × List ℕ) → List ℕ
feed_part None = []
feed_part (Some p) = p.1

-- the wires from an outlet, in order
abbrev pub fan_of : Book → ℕ → List ℕ
fan_of b e = fan_part (end_at b e)

-- the wires to an inlet, in order
abbrev pub feeds_of : Book → ℕ → List ℕ
feeds_of b e = feed_part (end_at b e)

-- the list less this key
abbrev pub without : ℕ → List ℕ → List ℕ
without key xs = filter (λ x. not (x == key)) xs

-- what stands behind the key in the list, and nothing at the list's end
abbrev pub IsNext : List ℕ → ℕ → Option ℕ → Type 0
IsNext xs key next = (i : ℕ) → slice_get xs i ≡ Some key → next ≡ slice_get xs (i + 1)

-- what stands before the key in the list, and nothing at the list's front
pub record IsPrevious (xs : List ℕ) (key : ℕ) (previous : Option ℕ) : Type 0 where
  pub at_front : slice_get xs 0 ≡ Some key → previous ≡ None
  pub behind : (i : ℕ) → slice_get xs (i + 1) ≡ Some key → previous ≡ slice_get xs i

-- the place of this key in the list, and without a key the place behind the last
abbrev pub StandsAt : List ℕ → ℕ → Option ℕ → Type 0
StandsAt xs place key = (place ≤ length xs) × (slice_get xs place ≡ key)

-- one end more, with no wire
pub record MakesEnd (old new : Book) (key : ℕ) : Type 0 where
  pub was_vacant : (end_at old key ≡ None) × (wire_at old key ≡ None)
  pub end : end_at new key ≡ Some ([], [])
  pub other_ends : (e : ℕ) → e ≢ key → end_at new e ≡ end_at old e
  pub wires : (k : ℕ) → wire_at new k ≡ wire_at old k
  pub spare_ends : new.spare_ends + 1 ≡ old.spare_ends
  pub spare_wires : new.spare_wires ≡ old.spare_wires

-- one end less, and nothing else changes
pub record DropsEnd (old new : Book) (key : ℕ) : Type 0 where
  pub end : end_at new key ≡ None
  pub other_ends : (e : ℕ) → e ≢ key → end_at new e ≡ end_at old e
  pub wires : (k : ℕ) → wire_at new k ≡ wire_at old k
  pub spare_ends : new.spare_ends ≡ old.spare_ends + 1
  pub spare_wires : new.spare_wires ≡ old.spare_wires

-- one wire more, at a place of each list, and no other list or key changes
pub record Adds (old new : Book) (key source fan_place sink feed_place : ℕ) : Type 0 where
  pub was_vacant : (end_at old key ≡ None) × (wire_at old key ≡ None)
  pub wire : wire_at new key ≡ Some (source, sink)
  pub other_wires : (k : ℕ) → k ≢ key → wire_at new k ≡ wire_at old k
  pub fan : fan_of new source ≡ insert (fan_of old source) fan_place key
  pub other_fans : (e : ℕ) → e ≢ source → fan_of new e ≡ fan_of old e
  pub feeds : feeds_of new sink ≡ insert (feeds_of old sink) feed_place key
  pub other_feeds : (e : ℕ) → e ≢ sink → feeds_of new e ≡ feeds_of old e
  pub ends : (e : ℕ) → IsEnd old e → IsEnd new e
  pub no_more_ends : (e : ℕ) → IsEnd new e → IsEnd old e
  pub spare_ends : new.spare_ends ≡ old.spare_ends
  pub spare_wires : new.spare_wires + 1 ≡ old.spare_wires

-- one wire less, and no other list or key changes
pub record Cuts (old new : Book) (key source fan_place sink feed_place : ℕ) : Type 0 where
  pub was : wire_at old key ≡ Some (source, sink)
  pub wire : wire_at new key ≡ None
  pub other_wires : (k : ℕ) → k ≢ key → wire_at new k ≡ wire_at old k
  pub stood : (fan_place < length (fan_of old source)) × (slice_index_or (fan_of old source) fan_place source ≡ key)
  pub fan : fan_of new source ≡ remove (fan_of old source) fan_place
  pub other_fans : (e : ℕ) → e ≢ source → fan_of new e ≡ fan_of old e
  pub stood_fed : (feed_place < length (feeds_of old sink)) × (slice_index_or (feeds_of old sink) feed_place sink ≡ key)
  pub feeds : feeds_of new sink ≡ remove (feeds_of old sink) feed_place
  pub other_feeds : (e : ℕ) → e ≢ sink → feeds_of new e ≡ feeds_of old e
  pub ends : (e : ℕ) → IsEnd old e → IsEnd new e
  pub no_more_ends : (e : ℕ) → IsEnd new e → IsEnd old e
  pub spare_ends : new.spare_ends ≡ old.spare_ends
  pub spare_wires : new.spare_wires ≡ old.spare_wires + 1

-- each wire stands once in the fan-out of its source and once among the feeds of its sink, both of which are live, and
-- nothing else stands there; a key is not both an end's and a wire's
pub record IsLinked (b : Book) : Type 0 where
  pub fan_wires : (e i : ℕ) → i < length (fan_of b e) → (t : ℕ) × (wire_at b (slice_index_or (fan_of b e) i e) ≡ Some (e, t))
  pub feed_wires : (e i : ℕ) → i < length (feeds_of b e) → (s : ℕ) × (wire_at b (slice_index_or (feeds_of b e) i e) ≡ Some (s, e))
  pub in_fan : (k s t : ℕ) → wire_at b k ≡ Some (s, t) → (i : ℕ) × (i < length (fan_of b s)) × (slice_index_or (fan_of b s) i s ≡ k)
  pub in_feeds : (k s t : ℕ) → wire_at b k ≡ Some (s, t) → (i : ℕ) × (i < length (feeds_of b t)) × (slice_index_or (feeds_of b t) i t ≡ k)
  pub source : (k s t : ℕ) → wire_at b k ≡ Some (s, t) → IsEnd b s
  pub sink : (k s t : ℕ) → wire_at b k ≡ Some (s, t) → IsEnd b t
  pub once : (e i j : ℕ) → i ≢ j → i < length (fan_of b e) → j < length (fan_of b e) → slice_index_or (fan_of b e) i e ≢ slice_index_or (fan_of b e) j e
  pub once_fed : (e i j : ℕ) → i ≢ j → i < length (feeds_of b e) → j < length (feeds_of b e) → slice_index_or (feeds_of b e) i e ≢ slice_index_or (feeds_of b e) j e
  pub apart : (k : ℕ) → IsEnd b k → wire_at b k ≡ None
