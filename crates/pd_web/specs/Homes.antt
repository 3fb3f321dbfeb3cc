-- Which port of the box around a box is.
use Rattle.std.specs.Prelude.{◌≡◌, ◌<◌, ℕ, List, slice_get, length, Option, Some, IsSome, option_and_then, ◌⊎◌}
use Rattle.pd_grove.specs.declared.grove.Grove.{Grove}
use Rattle.pd_grove.specs.declared.ports.Side.{Side}
use Rattle.pd_web.specs.declared.jacks.Jack.{Jack}
use Rattle.pd_web.specs.declared.sockets.Port.{Port}
use Rattle.pd_web.specs.declared.sockets.Sockets.{Sockets}
use Rattle.pd_web.specs.declared.sockets.Spot.{Spot}
use Rattle.pd_web.specs.Jacks.{jacks_at}
use Rattle.pd_web.specs.Sockets.{side_ports, ports_at}

-- the box that a port is, where it is one
abbrev pub inner_in : Option Jack → Option ℕ
inner_in o = option_and_then (λ j. j.inner) o

-- the box j is a port of the box k, on some side the one of number i
pub record IsPortOf (g : Grove) (j k i : ℕ) : Type 0 where
  pub side : Side
  pub told : inner_in (slice_get (jacks_at side g k) i) ≡ Some j

-- the port that the box of a key is
abbrev pub home_at : List (Option Spot) → ℕ → Option Spot
home_at homes j = option_and_then (λ o. o) (slice_get homes j)

-- the box that is a port among these
abbrev pub inner_of : List Port → ℕ → Option ℕ
inner_of ports i = option_and_then (λ p. p.jack.inner) (slice_get ports i)

-- the box that is a port of the box of a key
abbrev pub inner_at : List Sockets → Spot → Option ℕ
inner_at all s = inner_of (ports_at all s.side s.node) s.port

-- the box j is this port
pub record IsPort (spot : Spot) (box : Option ℕ) (s : Spot) (j : ℕ) : Type 0 where
  pub same : s ≡ spot
  pub inner : box ≡ Some j

-- the box j is one of these ports on a side of the box k
pub record IsAmong (at : Side) (k : ℕ) (ports : List Port) (s : Spot) (j : ℕ) : Type 0 where
  pub side : s.side ≡ at
  pub node : s.node ≡ k
  pub inner : inner_of ports s.port ≡ Some j

-- the box j is a port of this box of the key k
pub record IsOf (own : Sockets) (k : ℕ) (s : Spot) (j : ℕ) : Type 0 where
  pub node : s.node ≡ k
  pub inner : inner_of (side_ports s.side own) s.port ≡ Some j

-- of each box that is one of these ports it is written which one, and of others stays what was known
pub record Settles (homes homes' : List (Option Spot)) (Is : Spot → ℕ → Type 0) : Type 0 where
  pub told : (j : ℕ) (s : Spot) → home_at homes' j ≡ Some s → (home_at homes j ≡ Some s) ⊎ Is s j
  pub found : (j : ℕ) (s : Spot) → Is s j → j < length homes → IsSome (home_at homes' j)
  pub kept : (j : ℕ) → IsSome (home_at homes j) → IsSome (home_at homes' j)
  pub far : length homes' ≡ length homes

-- each box that is a port has a key that is known here
abbrev pub AreNear : List Sockets → Type 0
AreNear all = (s : Spot) (j : ℕ) → inner_at all s ≡ Some j → j < length all

-- what is known of homes is so
abbrev pub AreTrue : List Sockets → List (Option Spot) → Type 0
AreTrue all homes = (j : ℕ) (s : Spot) → home_at homes j ≡ Some s → inner_at all s ≡ Some j

-- of each box that is a port of the boxes with keys below n it is known which
abbrev pub AreKnown : List Sockets → List (Option Spot) → ℕ → Type 0
AreKnown all homes n = (s : Spot) (j : ℕ) → s.node < n → inner_at all s ≡ Some j → IsSome (home_at homes j)
