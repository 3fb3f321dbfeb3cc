-- How the lists are stored: a vector for each class and name, whose unused capacity is its spare places.
use Rattle.std.specs.Prelude.{ℕ, ◌-◌, List, map, vec_len, vec_capacity}
use Rattle.std.specs.declared.vec.Vec.{Vec}
use Rattle.std.specs.declared.alloc.Global.{Global}
use Rattle.pd_name.specs.declared.lists.Key.{Key}
use Rattle.pd_name.specs.Rows.{Row}

-- how many more elements a vector takes without memory
abbrev pub room : Vec ℕ Global → ℕ
room v = vec_capacity v - vec_len v

-- the row of an entry
abbrev pub row : Key × Vec ℕ Global → Row
row e = record { class = e.0.class; name = e.0.name; owners = e.1.items; spare = room e.1 }

-- the rows of the entries
abbrev pub rows_of : List (Key × Vec ℕ Global) → List Row
rows_of entries = map row entries
