-- Lists of ramps and their value at a time, and what a `vline~` keeps of such a list.
use Rattle.std.specs.Prelude.{◌≡◌, ℕ, ℤ, pos, suc, ◌+◌, ◌-◌, ◌*◌, ◌<◌, ◌≤◌, ◌+ℤ◌, ◌-ℤ◌, ◌*ℤ◌, int_div, nat_lt, nat_le, List, [], ◌∷◌, length, Option, Some, None, slice_index_or, if◌then◌else◌}
use Rattle.std.specs.List.{filter}
use Rattle.pd_kind.specs.declared.states.Ramp.{Ramp}
use Rattle.pd_kind.specs.declared.states.Ramps.{Ramps}
use Rattle.pd_kind.specs.declared.states.State.{State}
use Rattle.pd_kind.specs.declared.states.State.TheVariants as state

-- a ramp leads from a value at its start to its target at its end; the part of the way is rounded toward zero
abbrev pub value_on : Ramp → ℤ → ℕ → ℤ
value_on r from t = if nat_le r.end t then r.target else from +ℤ int_div ((r.target -ℤ from) *ℤ pos (t - r.start)) (pos (r.end - r.start))

-- The value of a list of ramps at a time, the newest ramp first: of the newest that has started, which begins at the value of the older ones.
abbrev pub at : List Ramp → ℕ → ℤ
at [] t = pos 0
at (r ∷ older) t = if nat_le r.start t then value_on r (at older r.start) t else at older t

-- a ramp added: those that start at or after its start are taken away
abbrev pub added : Ramp → List Ramp → List Ramp
added new l = new ∷ filter (λ r. nat_lt r.start new.start) l

-- the ramps that start at or after a time
abbrev pub from_on : ℕ → List Ramp → List Ramp
from_on t l = filter (λ r. nat_le t r.start) l

-- added where it leaves at most 256 ramps that start at or after the end of the last block
abbrev pub added_to : ℕ → Ramp → List Ramp → List Ramp
added_to end new l = if nat_le (length (from_on end (added new l))) 256 then added new l else l

-- a base: none, or a ramp and the value at its start
abbrev pub base_at : Option (Ramp × ℤ) → ℕ → ℤ
base_at None t = pos 0
base_at (Some base) t = value_on base.0 base.1 t

-- ramps that are kept, the oldest first, put one by one before the older ones
abbrev pub onto : List Ramp → List Ramp → List Ramp
onto [] older = older
onto (r ∷ ramps) older = onto ramps (r ∷ older)

-- the newest starts before a time, and each of the others before the one that is newer
abbrev pub AreBefore : ℕ → List Ramp → Type 0
AreBefore t [] = Unit {0}
AreBefore t (r ∷ older) = (r.start < t) × AreBefore r.start older

-- the oldest starts at a time or after, and each of the others after the one that is older
abbrev pub AreFrom : ℕ → List Ramp → Type 0
AreFrom t [] = Unit {0}
AreFrom t (r ∷ ramps) = (t ≤ r.start) × AreFrom (suc r.start) ramps

-- A base and ramps stand for a list at the end of a block: the ramps are those of the list that start then or later, and from then on
-- the base has the value of the others. The list's starts rise.
pub record StandFor (end : ℕ) (base : Option (Ramp × ℤ)) (ramps list : List Ramp) : Type 0 where
  pub older : List Ramp
  pub split : list ≡ onto ramps older
  pub early : AreBefore end older
  pub late : AreFrom end ramps
  pub same : (t : ℕ) → end ≤ t → base_at base t ≡ at older t

abbrev pub Stands : Ramps → List Ramp → Type 0
Stands r l = StandFor r.end r.base r.ramps l

-- the state of a `vline~` stands for a list of ramps
abbrev pub IsStanding : State → List Ramp → Type 0
IsStanding (state.Vline r) l = Stands r l
IsStanding s l = ⊥

-- the samples of a block that starts at a time; one sample is 1,000,000,000 units
abbrev pub AreSamples : List ℤ → (ℕ → ℤ) → ℕ → Type 0
AreSamples out value start = (i : ℕ) → i < 64 → slice_index_or out i (pos 0) ≡ value (start + i * 1000000000)
