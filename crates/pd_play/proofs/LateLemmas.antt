-- A script that passes its longest time.
use Rattle.std.proofs.Common.{◌≡◌, ◌<◌, ℕ, Bool, ap}
use Rattle.std.proofs.lemmas.Bool.{lt-ltb}
use Rattle.std.specs.Prelude.{if◌then◌else◌}
use Rattle.pd_script.specs.declared.commands.Script.{Script}
use Rattle.pd_play.specs.Runs.{Point, Run, most_time, at_time, bad, said_run, timed_run}

pub late_bad : (time : ℕ) (s : Script) (p : Point) (rest : Point → Run) → most_time < time → timed_run time s p rest ≡ bad p
late_bad time s p rest late = ap (λ (b : Bool). if b then bad p else said_run s (at_time p time) rest) (lt-ltb most_time time late)
