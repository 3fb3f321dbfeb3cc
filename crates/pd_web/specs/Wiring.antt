-- A book of wires as a list of the ends that its wires join.
use Rattle.std.specs.Prelude.{◌≡◌, ℕ, ◌==◌, List, map, filter, Option, Some, None}
use Rattle.pd_wire.specs.Book.{Book, IsEnd, wire_at, fan_of, feeds_of}
use Rattle.pd_web.specs.declared.joints.Joint.{Joint}

abbrev pub source_in : Option (ℕ × ℕ) → ℕ
source_in None = 0
source_in (Some p) = p.0

abbrev pub sink_in : Option (ℕ × ℕ) → ℕ
sink_in None = 0
sink_in (Some p) = p.1

-- the end from which a wire comes, and the one to which it leads
abbrev pub source_at : Book → ℕ → ℕ
source_at b k = source_in (wire_at b k)

abbrev pub sink_at : Book → ℕ → ℕ
sink_at b k = sink_in (wire_at b k)

-- what an end's joints lead to, in order
abbrev pub sinks_from : ℕ → List Joint → List ℕ
sinks_from e js = map (λ j. j.sink) (filter (λ j. j.source == e) js)

abbrev pub sources_to : ℕ → List Joint → List ℕ
sources_to e js = map (λ j. j.source) (filter (λ j. j.sink == e) js)

-- the wires of the book join these ends, each end's fan-out and feeds in this order
pub record Holds (b : Book) (js : List Joint) : Type 0 where
  pub fans : (e : ℕ) → map (sink_at b) (fan_of b e) ≡ sinks_from e js
  pub feeds : (e : ℕ) → map (source_at b) (feeds_of b e) ≡ sources_to e js

-- the same ends are live
pub record SameEnds (b b' : Book) : Type 0 where
  pub stay : (e : ℕ) → IsEnd b e → IsEnd b' e
  pub no_more : (e : ℕ) → IsEnd b' e → IsEnd b e
