-- What a list ends as, where its values are lent.
use Rattle.std.specs.Prelude.{List, length}
use Rattle.std.specs.List.{refill}
use Rattle.std.specs.Borrow.{Lends, Fml, RattleType, MutBor, Array}
use Rattle.pd_object.specs.contracts.lists.Items.{the_row as items_row}

-- the list ends as what was last written, as long as before
abbrev pub lends_items : (T : RattleType) → MutBor (List T.Denot) → MutBor (List T.Denot) → Fml
lends_items T s r = Lends (items_row T) (Array T 0) s r (refill (length s.now) s.now)
