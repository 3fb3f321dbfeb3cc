-- What is known of boxes as ports, where a box loses its ports.
use Rattle.std.specs.Prelude.{◌≡◌, ◌<◌, ◌==◌, ◌⊎◌, ℕ, Bool, false, cond, List, length, Option, Some, None}
use Rattle.pd_web.specs.declared.sockets.Port.{Port}
use Rattle.pd_web.specs.declared.sockets.Sockets.{Sockets}
use Rattle.pd_web.specs.declared.sockets.Spot.{Spot}
use Rattle.pd_grove.specs.declared.ports.Side.{Side}
use Rattle.pd_web.specs.Sockets.{side_ports}
use Rattle.pd_web.specs.Homes.{home_at, inner_of}

-- a port, but where it is one of this box
abbrev pub less : ℕ → Option Spot → Option Spot
less node None = None
less node (Some s) = cond (s.node == node) None (Some s)

-- whether a port is one of this box
abbrev pub is_of : ℕ → Option Spot → Bool
is_of node None = false
is_of node (Some s) = s.node == node

-- the box j is one of these ports
abbrev pub IsInner : List Port → ℕ → Type 0
IsInner ports j = (i : ℕ) × (inner_of ports i ≡ Some j)

-- the box j is a port of this box
abbrev pub IsInnerOf : Sockets → ℕ → Type 0
IsInnerOf own j = (side : Side) × IsInner (side_ports side own) j

-- of some boxes it is known no more that they are ports of the box of the key, and what is known of every other box stays
pub record Forgets (homes homes' : List (Option Spot)) (node : ℕ) (Is : ℕ → Type 0) : Type 0 where
  pub gone : (j : ℕ) → Is j → home_at homes' j ≡ less node (home_at homes j)
  pub stay : (j : ℕ) → (Is j → ⊥) → home_at homes' j ≡ home_at homes j
  pub told : (j : ℕ) → (home_at homes' j ≡ home_at homes j) ⊎ (home_at homes' j ≡ less node (home_at homes j))
  pub far : length homes' ≡ length homes

-- of each box that is one of these ports on a side of the box of the key it is known which one it is, and what is known of every other box stays
pub record Knows (homes homes' : List (Option Spot)) (ports : List Port) (side : Side) (key : ℕ) : Type 0 where
  pub found : (m j : ℕ) → inner_of ports m ≡ Some j → j < length homes → home_at homes' j ≡ Some (record { node = key; side = side; port = m })
  pub others : (j : ℕ) → (IsInner ports j → ⊥) → home_at homes' j ≡ home_at homes j
  pub far : length homes' ≡ length homes
