-- Who owns a name: for each class and name a list of owners, and a number of spare places.
use Rattle.std.specs.Prelude.{◌≡◌, ℕ, ◌&&◌, Bool, true, false, if◌then◌else◌, List, [], ◌∷◌, nat_eq, position, remove}
use Rattle.std.specs.Option.{option_map_or}
use Rattle.pd_name.specs.declared.Class.{Class}
use Rattle.pd_name.specs.declared.Class.TheVariants.{Receiver, Table, Catch, Bus, Delay}

-- the owners of a name in a class, and how many more can be bound without memory
pub record Row : Type 0 where
  pub class : Class
  pub name : ℕ
  pub owners : List ℕ
  pub spare : ℕ

-- whether two classes are the same
abbrev pub same_class : Class → Class → Bool
same_class Receiver Receiver = true
same_class Table Table = true
same_class Catch Catch = true
same_class Bus Bus = true
same_class Delay Delay = true
same_class _ _ = false

-- whether a row is that of a name in a class
abbrev pub is_row : Class → ℕ → Row → Bool
is_row class name row = same_class class row.class && nat_eq name row.name

-- the owners of a name in a class, in order: none where it has no row
abbrev pub owners_of : List Row → Class → ℕ → List ℕ
owners_of [] class name = []
owners_of (row ∷ rows) class name = if is_row class name row then row.owners else owners_of rows class name

-- how many more owners of a name in a class can be bound without memory
abbrev pub spare_of : List Row → Class → ℕ → ℕ
spare_of [] class name = 0
spare_of (row ∷ rows) class name = if is_row class name row then row.spare else spare_of rows class name

-- a list without the first place of an owner, the others in order: the same list where the owner isn't there
abbrev pub without : ℕ → List ℕ → List ℕ
without owner owners = option_map_or (λ place. remove owners place) (position (nat_eq owner) owners) owners

-- every list of owners stays
abbrev pub OwnersStay : List Row → List Row → Type 0
OwnersStay old new = (class : Class) (name : ℕ) → owners_of new class name ≡ owners_of old class name

-- every list stays, and every number of spare places
pub record AllStay (old new : List Row) : Type 0 where
  pub owners : (class : Class) (name : ℕ) → owners_of new class name ≡ owners_of old class name
  pub spare : (class : Class) (name : ℕ) → spare_of new class name ≡ spare_of old class name

-- every list but that of a name in a class stays, and so does its number of spare places
pub record OthersStay (old new : List Row) (class : Class) (name : ℕ) : Type 0 where
  pub owners : (c : Class) (n : ℕ) → ¬ ((c ≡ class) × (n ≡ name)) → owners_of new c n ≡ owners_of old c n
  pub spare : (c : Class) (n : ℕ) → ¬ ((c ≡ class) × (n ≡ name)) → spare_of new c n ≡ spare_of old c n
