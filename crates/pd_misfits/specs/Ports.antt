-- A port of a kind.
use Rattle.std.specs.Prelude.{Bool, cond, Option, Some, None}
use Rattle.pd_web.specs.declared.jacks.Jack.{Jack}
use Rattle.pd_web.specs.Jacks.{plain_jack}

-- a port that no box is, if it is there
abbrev pub plain_jack_if : Bool → Bool → Option Jack
plain_jack_if is_there is_signal = cond is_there (Some (plain_jack is_signal)) None
