-- Ports that become others by number.
use Rattle.std.specs.Prelude.{◌≡◌, ◌≢◌, ◌<◌, ◌≤◌, ℕ, List, slice_get, length, Option, Some, option_map}
use Rattle.pd_grove.specs.declared.ports.Side.{Side}
use Rattle.pd_web.specs.declared.jacks.Jack.{Jack}
use Rattle.pd_web.specs.declared.sockets.Port.{Port}
use Rattle.pd_web.specs.declared.sockets.Sockets.{Sockets}
use Rattle.pd_web.specs.Sockets.{side_ports, ports_at, end_under, jacks_of, made_at}
use Rattle.pd_ports.specs.Ends.{end_in}

abbrev pub jack_in : List Port → ℕ → Option Jack
jack_in ports i = option_map (λ (p : Port). p.jack) (slice_get ports i)

-- ports took the ends that others had under their numbers, and the ends of the others beyond are left
pub record MovesEnds (old own old' own' : List Port) : Type 0 where
  pub jacks : (i : ℕ) → jack_in own' i ≡ jack_in own i
  pub old_jacks : (i : ℕ) → jack_in old' i ≡ jack_in old i
  pub taken : (i : ℕ) → i < length own → end_in own' i ≡ end_in old i
  pub left : (i e : ℕ) → end_in old' i ≡ Some e → (end_in old i ≡ Some e) × (length own ≤ i)

-- a box has these ports, with the ends of those that it had under their numbers; the others that it had are left, with their ends
pub record Refits (all all' : List Sockets) (key : ℕ) (own left : Sockets) : Type 0 where
  pub jacks : (side : Side) → jacks_of (ports_at all' side key) ≡ jacks_of (side_ports side own)
  pub made : made_at all' key ≡ own.is_made
  pub ends : (side : Side) (i : ℕ) → i < length (side_ports side own) → end_under all' side key i ≡ end_under all side key i
  pub left_jacks : (side : Side) → jacks_of (side_ports side left) ≡ jacks_of (ports_at all side key)
  pub left_ends : (side : Side) (i e : ℕ) → end_in (side_ports side left) i ≡ Some e → (end_under all side key i ≡ Some e) × (length (side_ports side own) ≤ i)
  pub others : (k : ℕ) → k ≢ key → slice_get all' k ≡ slice_get all k
  pub len : length all' ≡ length all
