-- There is one proof at most that two lists are an order, so that a struct may keep one.
use Rattle.std.specs.Prelude.{ℕ, List, [], ◌∷◌, ◌++◌}
use Rattle.std.specs.Coded.{×_prop, Unit-prop}
use Rattle.std.proofs.Props.{props}
use Rattle.pd_order.specs.Graph.{Graph, AreNext, IsLeast, AreByRank, IsOrder}

pub AreNext-prop : (g : Graph) (nodes listed xs : List ℕ) → IsProp (AreNext g nodes listed xs)
AreNext-prop g nodes listed [] = Unit-prop
AreNext-prop g nodes listed (x ∷ xs) = ×_prop (Prim.hlevel props) (AreNext-prop g nodes (listed ++ x ∷ []) xs)

pub IsLeast-prop : (g : Graph) (x : ℕ) (ys : List ℕ) → IsProp (IsLeast g x ys)
IsLeast-prop g x [] = Unit-prop
IsLeast-prop g x (y ∷ ys) = ×_prop (Prim.hlevel props) (IsLeast-prop g x ys)

pub AreByRank-prop : (g : Graph) (xs : List ℕ) → IsProp (AreByRank g xs)
AreByRank-prop g [] = Unit-prop
AreByRank-prop g (x ∷ xs) = ×_prop (IsLeast-prop g x xs) (AreByRank-prop g xs)

pub IsOrder-prop : (g : Graph) (nodes chain stuck : List ℕ) → IsProp (IsOrder g nodes chain stuck)
IsOrder-prop g nodes chain stuck = Prim.hlevel (AreNext-prop, AreByRank-prop, props)
