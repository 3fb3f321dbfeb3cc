-- Clocks that fire.
use Rattle.std.proofs.Common.{◌≡◌, ◌+◌, List, ◌∷◌, length, length-append, arith, ap}
use Rattle.pd_clock.specs.Queue.{Clock, IsTaken}

pub one_taken : (old new : List Clock) (c : Clock) → IsTaken old new c → length new + 1 ≡ length old
one_taken old new c t =
    omega (arith, ap length t.old_is, ap length t.new_is, length-append t.before (c ∷ t.after), length-append t.before t.after)
