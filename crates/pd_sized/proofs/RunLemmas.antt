-- Messages leave the sizes of what boxes keep as they were, and so does a whole delivery.
use Rattle.std.proofs.Common.{ℕ, Option}
use Rattle.pd_kind.specs.declared.states.State.{State}
use Rattle.pd_keeping_law.specs.Changes.{Sayings, anything, Becomes, same, further, AllBecome}
use Rattle.pd_keeping_law.proofs.ChangeLemmas.{all_kept}
use Rattle.pd_sized.specs.Sizes.{HasSizes, HaveSizes}

-- a message changes no list that has a size
pub size_kept : {Said : Sayings} {s t : State} → Becomes Said s t → HasSizes s → HasSizes t
size_kept same h = h
size_kept (further r q) h = size_kept q (size_kept r h)
size_kept r h = h

pub sizes_kept : (old new : ℕ → Option State) → AllBecome anything old new → HaveSizes old → HaveSizes new
sizes_kept old new r h = all_kept (Becomes anything) HasSizes (λ s t q k. size_kept q k) old new r h
