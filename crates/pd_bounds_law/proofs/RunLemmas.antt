-- Messages and blocks leave what boxes keep within their bounds.
use Rattle.std.proofs.Common.{ℕ, Option}
use Rattle.pd_kind.specs.declared.states.State.{State}
use Rattle.pd_keeping_law.specs.Changes.{Sayings, anything, Becomes, same, further, random, list_split, toggle_other, RunsOn, silent, later, AllBecome, AllRunOn}
use Rattle.pd_keeping_law.proofs.ChangeLemmas.{all_kept}
use Rattle.pd_bounds_law.specs.Bounds.{HasBounds}
use Rattle.pd_bounds_law.proofs.BoundLemmas.{AllBounded, least_whole, kept_nonzero}

-- what a box may keep after messages
pub bound_kept : {Said : Sayings} {s t : State} → Becomes Said s t → HasBounds s → HasBounds t
bound_kept same h = h
bound_kept (further r q) h = bound_kept q (bound_kept r h)
bound_kept (random z) h = least_whole 1 z
bound_kept (list_split z) h = least_whole 0 z
bound_kept (toggle_other {other = other} z) h = kept_nonzero z other h
bound_kept r h = h

pub all_bounded : (old new : ℕ → Option State) → AllBecome anything old new → AllBounded old → AllBounded new
all_bounded old new r h = all_kept (Becomes anything) HasBounds (λ s t q k. bound_kept q k) old new r h

-- and after its turns in blocks
runs_bounded : {s t : State} → RunsOn s t → HasBounds s → HasBounds t
runs_bounded silent h = h
runs_bounded (later r q) h = runs_bounded q (runs_bounded r h)
runs_bounded r h = h

pub all_run-bounded : (old new : ℕ → Option State) → AllRunOn old new → AllBounded old → AllBounded new
all_run-bounded old new r h = all_kept RunsOn HasBounds (λ s t q k. runs_bounded q k) old new r h
