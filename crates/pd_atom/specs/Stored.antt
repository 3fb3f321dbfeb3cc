-- How a table of names is stored: as the keys of a set, in their order.
use Rattle.std.specs.Prelude.{ℕ, ◌+◌, ◌≤◌, List, map, length}
use Rattle.arrayvec.specs.ArrayVec.{ArrayVec}
use Rattle.indexmap.specs.IndexSet.{index_set_len, spare}
use Rattle.pd_atom.specs.Names.{Names, AreDistinct, AreShort, most}
use Rattle.pd_atom.specs.declared.table.Table.TheInside.{Inside}

-- the bytes of each name
abbrev pub bytes_of : List (ArrayVec ℕ) → Names
bytes_of names = map (λ n. n.items) names

-- what a table keeps: each of its two sets has room for the greatest count of names
pub record IsStored (t : Inside) : Type 0 where
  pub distinct : AreDistinct (bytes_of t.names.keys)
  pub short : AreShort (bytes_of t.names.keys)
  pub few : length (bytes_of t.names.keys) ≤ most
  pub names_room : most ≤ index_set_len t.names + spare t.names
  pub spare_room : most ≤ index_set_len t.spare + spare t.spare
