-- What messages and clocks change in a patch, and what stays.
use Rattle.std.specs.Prelude.{◌≡◌, ℕ, ℤ, List, slice_get, Option, Some, None, option_map, option_and_then}
use Rattle.slab.specs.Slab.{get}
use Rattle.pd_name.specs.Rows.{owners_of}
use Rattle.pd_name.specs.declared.Class.TheVariants.{Table}
use Rattle.pd_kind.specs.Tables.{table_of, with_value}
use Rattle.pd_grove.specs.declared.grove.Grove.{Grove}
use Rattle.pd_grove.specs.Telling.{state_in, Keeps}
use Rattle.pd_patch.specs.declared.patch.Patch.{Patch}

-- the wires, names, links, signal orders, numbers of boxes, blocks of outlets, the rate and the time of the event stay
pub record RestStays (old new : Patch) : Type 0 where
  pub web : new.web ≡ old.web
  pub names : new.names ≡ old.names
  pub links : new.links ≡ old.links
  pub orders : new.orders ≡ old.orders
  pub numbers : new.numbers ≡ old.numbers
  pub values : new.values ≡ old.values
  pub rate : new.rate ≡ old.rate
  pub present : new.present ≡ old.present

-- all but the time of the event stays
pub record AllButTime (old new : Patch) : Type 0 where
  pub tree : new.grove ≡ old.grove
  pub web : new.web ≡ old.web
  pub names : new.names ≡ old.names
  pub timers : new.timers ≡ old.timers
  pub links : new.links ≡ old.links
  pub orders : new.orders ≡ old.orders
  pub numbers : new.numbers ≡ old.numbers
  pub values : new.values ≡ old.values
  pub rate : new.rate ≡ old.rate

-- the box that owns the name of a table, the first in text order
abbrev pub table_owner : Patch → ℕ → Option ℕ
table_owner p name = slice_get (owners_of p.names Table name) 0

-- the values that the box of a key keeps as a table
abbrev pub table_at : Grove → ℕ → Option (List ℤ)
table_at g k = option_and_then table_of (state_in (get g.nodes k))

-- the values of the table of a name
abbrev pub table_named : Patch → ℕ → Option (List ℤ)
table_named p name = option_and_then (table_at p.grove) (table_owner p name)

-- A value of the table that a box keeps is set, and all else of the tree stays. All of it does where the box keeps no table, or none
-- with such a value.
abbrev pub WritesAt : Grove → Grove → Option ℕ → ℕ → ℤ → Type 0
WritesAt old new None index value = new ≡ old
WritesAt old new (Some k) index value = Keeps old new k (option_map (λ s. with_value s index value) (state_in (get old.nodes k)))
