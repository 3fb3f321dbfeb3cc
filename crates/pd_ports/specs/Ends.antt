-- The ends of ports that go.
use Rattle.std.specs.Prelude.{◌≡◌, ℕ, List, [], slice_get, Option, Some, option_and_then}
use Rattle.pd_wire.specs.Book.{Book, IsEnd, end_at, wire_at, fan_of, feeds_of}
use Rattle.pd_grove.specs.declared.ports.Side.{Side}
use Rattle.pd_web.specs.declared.sockets.Port.{Port}
use Rattle.pd_web.specs.declared.sockets.Sockets.{Sockets}
use Rattle.pd_web.specs.Sockets.{side_ports}

-- the end of the port at a place, where it has one
abbrev pub end_in : List Port → ℕ → Option ℕ
end_in ports i = option_and_then (λ p. p.end) (slice_get ports i)

-- the end is that of one of these ports
abbrev pub IsAmong : List Port → ℕ → Type 0
IsAmong ports e = (i : ℕ) × (end_in ports i ≡ Some e)

-- the ports have live ends, each its own
pub record AreLive (b : Book) (ports : List Port) : Type 0 where
  pub live : (i e : ℕ) → end_in ports i ≡ Some e → IsEnd b e
  pub once : (i j e : ℕ) → end_in ports i ≡ Some e → end_in ports j ≡ Some e → i ≡ j

-- the end is that of a port of this box
abbrev pub IsEndOf : Sockets → ℕ → Type 0
IsEndOf own e = (side : Side) × IsAmong (side_ports side own) e

-- the ports of a box have live ends, each its own
pub record HasLiveEnds (b : Book) (own : Sockets) : Type 0 where
  pub live : (side : Side) (i e : ℕ) → end_in (side_ports side own) i ≡ Some e → IsEnd b e
  pub once : (s t : Side) (i j e : ℕ) → end_in (side_ports s own) i ≡ Some e → end_in (side_ports t own) j ≡ Some e → (s ≡ t) × (i ≡ j)

-- of some ends those without wires are gone, and every other end and every wire stays
pub record Drops (b b' : Book) (Is : ℕ → Type 0) : Type 0 where
  pub gone : (e : ℕ) → Is e → fan_of b e ≡ [] → feeds_of b e ≡ [] → IsEnd b' e → ⊥
  pub stay : (e : ℕ) → (Is e → ⊥) → end_at b' e ≡ end_at b e
  pub no_more : (e : ℕ) → IsEnd b' e → end_at b' e ≡ end_at b e
  pub wires : (k : ℕ) → wire_at b' k ≡ wire_at b k
  pub spare_wires : b'.spare_wires ≡ b.spare_wires
