-- Ports of a canvas that keep their order.
use Rattle.std.specs.Prelude.{◌≡◌, ◌<◌, ℕ, ℤ, Bool, true, List, slice_get, Option, Some, option_map}
use Rattle.pd_grove.specs.declared.nodes.Node.{Node}
use Rattle.pd_web.specs.declared.jacks.Jack.{Jack}
use Rattle.pd_web.specs.Homes.{inner_in}

-- how far to the right a box stands
abbrev pub x_in : Option Node → Option ℤ
x_in o = option_map (λ (n : Node). n.element.x) o

-- of these boxes those that are in both lists stand in them in the same order
abbrev pub KeepPlaces : (ℕ → Bool) → List ℕ → List ℕ → Type 0
KeepPlaces stays keys keys' =
    (k l i j m n : ℕ) → stays k ≡ true → stays l ≡ true → slice_get keys i ≡ Some k → slice_get keys j ≡ Some l → slice_get keys' m ≡ Some k → slice_get keys' n ≡ Some l → i < j → m < n

-- of these boxes those that are ports before and after are so in the same order
abbrev pub KeepOrder : (ℕ → Bool) → List Jack → List Jack → Type 0
KeepOrder stays old new =
    (k l i j m n : ℕ) → stays k ≡ true → stays l ≡ true → inner_in (slice_get old i) ≡ Some k → inner_in (slice_get old j) ≡ Some l → inner_in (slice_get new m) ≡ Some k → inner_in (slice_get new n) ≡ Some l → i < j → m < n
