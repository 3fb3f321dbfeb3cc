-- The list words of the code against the definitions on wires.
use Rattle.std.proofs.Common.{◌≡◌, ℕ, zero, suc, ◌+◌, ◌<◌, ◌≤◌, Bool, true, false, cond, not, List, [], ◌∷◌, length, drop, set, get_or, add-one, insert, remove, position, unwrap_or, Some, None, refl, sym, ap, ◌∙◌, arith}
use Rattle.std.proofs.lemmas.Bool.Decides.{nat_tests}
use Rattle.std.specs.Prelude.{nat_lt}
use Rattle.std.specs.List.{position_or_len}
use Rattle.std.proofs.lemmas.List.Sums.{prefix_len-le-length}
use Rattle.pd_canvas.specs.declared.wires.Wire.{Wire}
use Rattle.pd_canvas.specs.Wiring.{precedes, is_same, with_wire, without_wire}
use Rattle.pd_canvas.specs.Turns.{LeavesRoom}

one_more : (n : ℕ) → 1 + n ≡ suc n
one_more n = omega arith

insert_step : (v : Wire) (vs : List Wire) (w : Wire) (b : Bool) (n : ℕ) → insert (v ∷ vs) (cond (not b) (1 + n) 0) w ≡ cond b (w ∷ v ∷ vs) (v ∷ insert vs n w)
insert_step v vs w true n = refl
insert_step v vs w false n = ap (λ k. insert (v ∷ vs) k w) (one_more n)

insert_place : (w : Wire) (ws : List Wire) → insert ws (position_or_len (precedes w) ws) w ≡ with_wire w ws
insert_place w [] = refl
insert_place w (v ∷ vs) =
    insert_step v vs w (precedes w v) _ ∙ ap (λ l. cond (precedes w v) (w ∷ v ∷ vs) (v ∷ l)) (insert_place w vs)

remove_step : (v : Wire) (vs : List Wire) (b : Bool) (n : ℕ) → remove (v ∷ vs) (cond (not b) (1 + n) 0) ≡ cond b vs (v ∷ remove vs n)
remove_step v vs true n = refl
remove_step v vs false n = ap (λ k. remove (v ∷ vs) k) (one_more n)

remove_place : (w : Wire) (ws : List Wire) → remove ws (position_or_len (λ v. is_same v w) ws) ≡ without_wire w ws
remove_place w [] = refl
remove_place w (v ∷ vs) =
    remove_step v vs (is_same v w) _ ∙ ap (λ l. cond (is_same v w) vs (v ∷ l)) (remove_place w vs)

none_step : (v : Wire) (vs : List Wire) (w : Wire) (b : Bool) (n : ℕ) → length vs + 1 ≤ cond (not b) (1 + n) 0 → (length vs ≤ n → without_wire w vs ≡ vs)
    → cond b vs (v ∷ without_wire w vs) ≡ v ∷ vs
none_step v vs w true n h k = absurd (omega arith)
none_step v vs w false n h k = ap (λ l. v ∷ l) (k (omega arith))

without_none : (w : Wire) (ws : List Wire) → length ws ≤ position_or_len (λ v. is_same v w) ws → without_wire w ws ≡ ws
without_none w [] h = refl
without_none w (v ∷ vs) h = none_step v vs w (is_same v w) _ (omega arith) (without_none w vs)

some_place : (b : Bool) (n i : ℕ) → cond b (Some n) None ≡ Some i → n ≡ i
some_place true n i e = cc
some_place false n i e = cc

none_place : (b : Bool) (n : ℕ) → cond b (Some n) None ≡ None → b ≡ false
none_place true n e = cc
none_place false n e = refl

or_length : (n m : ℕ) → n ≤ m → unwrap_or (cond (nat_lt n m) (Some n) None) m ≡ n
or_length n m h = at n m h (nat_lt n m) refl where
  at : (n m : ℕ) → n ≤ m → (b : Bool) → nat_lt n m ≡ b → unwrap_or (cond b (Some n) None) m ≡ n
  at n m h true e = refl
  at n m h false e = grind (arith, nat_tests)

pub place_or_length : (w : Wire) (ws : List Wire) → unwrap_or (position (precedes w) ws) (length ws) ≡ position_or_len (precedes w) ws
place_or_length w ws = or_length _ _ (prefix_len-le-length (λ v. not (precedes w v)) ws)

pub place_within : (w : Wire) (ws : List Wire) → unwrap_or (position (precedes w) ws) (length ws) ≤ length ws
place_within w ws = omega (arith, place_or_length w ws, prefix_len-le-length (λ v. not (precedes w v)) ws)

pub inserted : (w : Wire) (ws : List Wire) → insert ws (unwrap_or (position (precedes w) ws) (length ws)) w ≡ with_wire w ws
inserted w ws = ap (λ i. insert ws i w) (place_or_length w ws) ∙ insert_place w ws

pub removed : (w : Wire) (ws : List Wire) (i : ℕ) → position (λ v. is_same v w) ws ≡ Some i → remove ws i ≡ without_wire w ws
removed w ws i e = ap (λ k. remove ws k) (sym (some_place _ _ i e)) ∙ remove_place w ws

pub absent : (w : Wire) (ws : List Wire) → position (λ v. is_same v w) ws ≡ None → without_wire w ws ≡ ws
absent w ws e = without_none w ws (none_le (none_place _ _ e)) where
  none_le : {m n : ℕ} → nat_lt m n ≡ false → n ≤ m
  none_le e = grind (arith, nat_tests)

-- a wire read at a place within, at whatever default
abbrev pub no_wire : Wire
no_wire = record { source = 0; outlet = 0; sink = 0; inlet = 0 }

-- there are numbers above those of the wire's boxes
abbrev pub HasRoom : Wire → Type 0
HasRoom w = (w.source < 4294967295) × (w.sink < 4294967295)

pub first_room : (ws : List Wire) (i : ℕ) → i < length ws → LeavesRoom (drop i ws) → HasRoom (get_or ws i no_wire)
first_room [] i h k = absurd (omega arith)
first_room (w ∷ ws) zero h k = k.0
first_room (w ∷ ws) (suc i) h k = first_room ws i (omega arith) k

others_by : (ws : List Wire) (i : ℕ) (w : Wire) → i < length ws → LeavesRoom (drop i ws) → LeavesRoom (drop (suc i) (set ws i w))
others_by [] i v h k = absurd (omega arith)
others_by (w ∷ ws) zero v h k = k.1
others_by (w ∷ ws) (suc i) v h k = others_by ws i v (omega arith) k

pub others_room : (ws : List Wire) (i : ℕ) (w : Wire) → i < length ws → LeavesRoom (drop i ws) → LeavesRoom (drop (i + 1) (set ws i w))
others_room ws i w h k = rw add-one (others_by ws i w h k)
