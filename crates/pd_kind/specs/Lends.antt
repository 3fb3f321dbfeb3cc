-- What a state ends as, where its values are lent.
use Rattle.std.specs.Prelude.{ℤ, List, Option}
use Rattle.std.specs.Borrow.{LendsIf, Fml, MutBor}
use Rattle.pd_num.specs.contracts.signals.Sig.{the_row as sig_row}
use Rattle.pd_object.specs.contracts.lists.Items.{the_row as items_row}
use Rattle.pd_kind.specs.contracts.states.State.{the_row}
use Rattle.pd_kind.specs.declared.states.State.{State}
use Rattle.pd_kind.specs.Tables.{with_shared}

-- the state ends with the values that were last written, and as it was where it has none
abbrev pub lends_shared : MutBor State → Option (MutBor (List ℤ)) → Fml
lends_shared s r = LendsIf the_row (items_row sig_row) s r (with_shared s.now) s.now
