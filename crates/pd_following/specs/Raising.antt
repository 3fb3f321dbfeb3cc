-- One port more on a side of a box, and the wires at the ports behind it.
use Rattle.std.specs.Prelude.{◌≡◌, ◌≢◌, ◌<◌, ◌≤◌, ℕ, suc, ◌==◌, nat_lt, cond, List, [], map, length, Some, IsSome}
use Rattle.std.specs.List.{insert}
use Rattle.pd_grove.specs.declared.grove.Grove.{Grove}
use Rattle.pd_grove.specs.declared.ports.Side.{Side}
use Rattle.pd_grove.specs.declared.ports.Side.TheVariants.{Inlets, Outlets}
use Rattle.pd_web.specs.declared.jacks.Jack.{Jack}
use Rattle.pd_web.specs.declared.web.Hop.{Hop}
use Rattle.pd_web.specs.declared.web.Web.{Web}
use Rattle.pd_web.specs.Homes.{inner_in}
use Rattle.pd_web.specs.Hops.{ports_told, jack_told, fan_hops, feed_hops}
use Rattle.pd_web.specs.Jacks.{jacks_at}
use Rattle.pd_web.specs.Sockets.{made_at}

-- the number of a port where one more has come at a number: those from there on have the next ones
abbrev pub up : ℕ → ℕ → ℕ
up at i = cond (nat_lt i at) i (suc i)

-- a wire's other end, where a port more has come at that box
abbrev pub raised : ℕ → ℕ → Hop → Hop
raised key at h = record { key = h.key; node = h.node; port = cond (h.node == key) (up at h.port) h.port }

abbrev pub other : Side → Side
other Inlets = Outlets
other Outlets = Inlets

-- the wires at a port on a side, in order
abbrev pub hops_at : Side → Web → ℕ → ℕ → List Hop
hops_at Inlets w k i = feed_hops w k i
hops_at Outlets w k i = fan_hops w k i

-- On a side of the box one port more stands at this number, without wires. The ports from there on have the next numbers, and their wires go
-- with them, in their order and under their keys; every other port stays, and each wire leads from the box and to the box that it did.
pub record Raises (w w' : Web) (key : ℕ) (side : Side) (at : ℕ) (jack : Jack) : Type 0 where
  pub within : at ≤ length (ports_told w side key)
  pub ports : ports_told w' side key ≡ insert (ports_told w side key) at jack
  pub other_ports : (s : Side) (k : ℕ) → (k ≡ key → s ≢ side) → ports_told w' s k ≡ ports_told w s k
  pub made : (k : ℕ) → made_at w'.sockets.items k ≡ made_at w.sockets.items k
  pub came : hops_at side w' key at ≡ []
  pub own : (i : ℕ) → hops_at side w' key (up at i) ≡ hops_at side w key i
  pub others : (k i : ℕ) → k ≢ key → hops_at side w' k i ≡ hops_at side w k i
  pub across : (k i : ℕ) → hops_at (other side) w' k i ≡ map (raised key at) (hops_at (other side) w k i)

-- the ports on a side of a box are boxes, and the canvas that it holds gives it these with one more, which is none of them, at this number
pub record IsOneMore (w : Web) (g : Grove) (key : ℕ) (side : Side) (at : ℕ) (jack : Jack) : Type 0 where
  pub within : at ≤ length (ports_told w side key)
  pub ports : jacks_at side g key ≡ insert (ports_told w side key) at jack
  pub boxes : (i : ℕ) → i < length (ports_told w side key) → IsSome (inner_in (jack_told w side key i))
  pub apart : (i j : ℕ) → inner_in (jack_told w side key i) ≡ Some j → jack.inner ≢ Some j
