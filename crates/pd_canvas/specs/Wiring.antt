-- The wires of a canvas, as a list.
use Rattle.std.specs.Prelude.{◌≡◌, ℕ, ◌+◌, ◌-◌, Bool, false, cond, not, ◌==◌, ◌&&◌, ◌||◌, nat_lt, List, [], ◌∷◌, map, filter}
use Rattle.std.specs.List.{AllByRecursion}
use Rattle.pd_canvas.specs.declared.wires.Wire.{Wire}

-- the outlet of the wire w comes before that of v
abbrev pub precedes : Wire → Wire → Bool
precedes w v = nat_lt w.source v.source || (w.source == v.source && nat_lt w.outlet v.outlet)

-- a wire more, before the first one whose outlet comes later
abbrev pub with_wire : Wire → List Wire → List Wire
with_wire w [] = w ∷ []
with_wire w (v ∷ vs) = cond (precedes w v) (w ∷ v ∷ vs) (v ∷ with_wire w vs)

abbrev pub is_same : Wire → Wire → Bool
is_same v w = v.source == w.source && v.outlet == w.outlet && v.sink == w.sink && v.inlet == w.inlet

-- less the first wire that is equal
abbrev pub without_wire : Wire → List Wire → List Wire
without_wire w [] = []
without_wire w (v ∷ vs) = cond (is_same v w) vs (v ∷ without_wire w vs)

-- the number of a box once box n is gone
abbrev pub lowered : ℕ → ℕ → ℕ
lowered n k = cond (nat_lt n k) (k - 1) k

abbrev pub lowered_wire : ℕ → Wire → Wire
lowered_wire n w = record { source = lowered n w.source; outlet = w.outlet; sink = lowered n w.sink; inlet = w.inlet }

-- the wire is at another box than n at each end
abbrev pub spares : ℕ → Wire → Bool
spares n w = not (w.source == n) && not (w.sink == n)

-- less the wires of box n, with higher numbers down by one
abbrev pub without_box : ℕ → List Wire → List Wire
without_box n ws = map (lowered_wire n) (filter (spares n) ws)

-- the number of a box once another has come in at number n
abbrev pub raised : ℕ → ℕ → ℕ
raised n k = cond (nat_lt k n) k (k + 1)

abbrev pub raised_wire : ℕ → Wire → Wire
raised_wire n w = record { source = raised n w.source; outlet = w.outlet; sink = raised n w.sink; inlet = w.inlet }

-- the wires stand by source, then outlet
abbrev pub AreSorted : List Wire → Type 0
AreSorted [] = Unit {0}
AreSorted (w ∷ ws) = AllByRecursion (λ v. precedes v w ≡ false) ws × AreSorted ws

-- the wires of an outlet, in their order
abbrev pub fan_out : ℕ → ℕ → List Wire → List Wire
fan_out source outlet ws = filter (λ w. w.source == source && w.outlet == outlet) ws
