-- What a box asks for beside its sends.
use Rattle.std.specs.Prelude.{ℕ, ℤ, pos, negsuc, ◌+◌, ◌*◌, ◌-◌, ◌^◌, min, nat_lt, List, [], ◌∷◌, ◌++◌, Option, Some, None, option_map, if◌then◌else◌}
use Rattle.pd_clock.specs.Rates.{samples}
use Rattle.pd_clock.specs.declared.times.Rate.{Rate}
use Rattle.pd_clock.specs.Queue.{Clock, without}
use Rattle.pd_kind.specs.declared.states.State.{State}
use Rattle.pd_kind.specs.declared.messages.Deed.{Deed}
use Rattle.pd_kind.specs.declared.messages.Deed.TheVariants.{Nothing, SetClock, ClearClock, WriteTable, Print, Again}
use Rattle.pd_kind.specs.Tables.{with_value}
use Rattle.pd_grove.specs.Telling.{kind_in}
use Rattle.pd_hearing.specs.Worlds.{Net, Kept, set_at}
use Rattle.pd_hearing.specs.Hearing.{Reply, table_named, table_owner}

abbrev pub micros_of : ℤ → ℕ
micros_of (pos n) = n
micros_of (negsuc n) = 0

-- so many milliseconds from now; a millionth of one has as many units of time as a second has samples
abbrev pub later : ℕ → ℤ → Rate → ℕ
later now milliseconds rate = min (now + micros_of milliseconds * samples rate) (2 ^ 128 - 1)

-- a clock is set last in place of the one that its box has, where the box has room for one
abbrev pub with_clock : ℕ → ℕ → ℕ → List Clock → List Clock
with_clock end owner time clocks = if nat_lt owner end then without owner clocks ++ record { time = time; owner = owner } ∷ [] else clocks

-- a value is set of the table that a box keeps
abbrev pub written_at : (ℕ → Option State) → ℕ → ℤ → Option ℕ → ℕ → Option State
written_at states index value None = states
written_at states index value (Some k) = set_at states k (option_map (λ s. with_value s index value) (states k))

-- the same of the table of a name
abbrev pub written : Net → (ℕ → Option State) → ℕ → ℤ → Option ℕ → ℕ → Option State
written net states index value None = states
written net states index value (Some name) = written_at states index value (table_owner net name)

abbrev pub with_states : Kept → (ℕ → Option State) → Kept
with_states kept states = record { states = states; clocks = kept.clocks; names = kept.names; queue = kept.queue }

abbrev pub with_clocks : Kept → List Clock → Kept
with_clocks kept clocks = record { states = kept.states; clocks = clocks; names = kept.names; queue = kept.queue }

-- what is kept after the deed of the box of a key
unfoldable pub done : Net → ℕ → ℕ → Deed → Kept → Kept
done net now node (SetClock milliseconds) kept = with_clocks kept (with_clock net.end node (later now milliseconds net.rate) kept.clocks)
done net now node ClearClock kept = with_clocks kept (without node kept.clocks)
done net now node (WriteTable index value) kept = with_states kept (written net kept.states index value (table_named (kind_in (net.nodes node))))
done net now node Nothing kept = kept
done net now node Print kept = kept
done net now node Again kept = kept

-- what is kept after a reply, before its deed
abbrev pub replied : Kept → Reply → Kept
replied kept r = record { states = r.states; clocks = kept.clocks; names = r.names; queue = kept.queue }
