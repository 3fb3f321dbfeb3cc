-- The arithmetic objects keep and say what is in order.
use Rattle.std.proofs.Common.{◌≡◌, ℕ, ℤ, pos, negsuc, neg_ℤ, ◌*ℤ◌, ◌+ℤ◌, ◌-ℤ◌, zero, suc, ◌+◌, ◌-◌, ◌*◌, ◌/◌, ◌%◌, ◌^◌, ◌<◌, ◌≤◌, max, unsigned_abs, Bool, cond, ◌==◌, List, [], ◌∷◌, slice_index, arith}
use Rattle.std.proofs.lemmas.Int.{unsigned_abs-mul}
use Rattle.std.proofs.Math.Nat.{mul-le-mul_left}
use Rattle.pd_num.specs.Scale.{saturated}
use Rattle.std.specs.Prelude.{int_div, int_lt}
use Rattle.pd_atom.specs.Names.{Names}
use Rattle.pd_atom.specs.declared.Atom.{Atom}
use Rattle.pd_object.specs.declared.kinds.Arith.{Arith}
use Rattle.pd_object.specs.declared.kinds.Arith.TheVariants as arith_kind
use Rattle.pd_object.specs.declared.kinds.Kind.{Kind}
use Rattle.pd_object.specs.declared.kinds.Kind.TheVariants as kind
use Rattle.pd_object.specs.declared.kinds.Operation.{Operation}
use Rattle.pd_object.specs.declared.kinds.Operation.TheVariants as operation
use Rattle.pd_object.specs.declared.kinds.Comparison.{Comparison}
use Rattle.pd_object.specs.declared.kinds.Comparison.TheVariants as comparison
use Rattle.pd_object.specs.declared.kinds.Division.{Division}
use Rattle.pd_object.specs.declared.kinds.Division.TheVariants as division
use Rattle.pd_object.specs.declared.kinds.Function.{Function}
use Rattle.pd_object.specs.declared.kinds.Function.TheVariants as function
use Rattle.pd_kind.specs.declared.messages.Sort.{Sort}
use Rattle.pd_kind.specs.declared.messages.Sort.TheVariants as sort
use Rattle.pd_object.specs.declared.row_names.Row.{Row}
use Rattle.pd_object.specs.declared.row_names.Row.TheVariants as row
use Rattle.pd_kind.specs.declared.states.State.{State}
use Rattle.pd_kind.specs.declared.states.State.TheVariants as state
use Rattle.pd_kind.specs.Messages.{sort_of}
use Rattle.pd_kind.specs.Hearing.{first_sort, told, stored}
use Rattle.pd_kind.specs.Said.{silent, sends_only, number_to, deaf}
use Rattle.pd_arith.specs.Operations.{operation_of, truth, comparison_of, units_of, division_units, division_of}
use Rattle.pd_arith.specs.Frequency.{top_notes, note_frequency, between, frequency_of}
use Rattle.pd_arith.specs.Rows.{Pair, clipped, clip_cold, clip_heard, clip_row, function_of, function_heard, function_row, with_pair, arith_row, heard}
use Rattle.pd_guards.specs.Order.{IsNumber, HasFirst, IsName, IsMessage, IsKept, IsSaid, IsHeard}
use Rattle.pd_guards.proofs.FactLemmas.{either}
use Rattle.pd_guards.proofs.NumberLemmas.{near, far, near_pos, abs_neg, div_less, abs_div, saturated_in, magnitude_in}
use Rattle.pd_guards.proofs.BaseLemmas.{no_number, IsSort, sort_in, first_in, stored_in, silence, number_said, deafness, deaf_told}

operation_in : (o : Operation) (a b : ℤ) → IsNumber a → IsNumber b → IsNumber (operation_of o a b)
operation_in operation.Add a b h k = saturated_in (a +ℤ b)
operation_in operation.Subtract a b h k = saturated_in (a -ℤ b)
operation_in operation.Multiply a b h k = saturated_in (int_div (a *ℤ b) (pos 1000000))
operation_in operation.Divide a b h k = either IsNumber (unsigned_abs b == 0) (pos 0) (saturated 1000000000000000 (int_div (a *ℤ pos 1000000) b)) no_number (saturated_in (int_div (a *ℤ pos 1000000) b))
operation_in operation.Least a b h k = either IsNumber (int_lt b a) b a k h
operation_in operation.Greatest a b h k = either IsNumber (int_lt b a) a b h k

truth_in : (t : Bool) → IsNumber (truth t)
truth_in t = either IsNumber t (pos 1000000) (pos 0) (near_pos 1000000 (omega arith)) no_number

comparison_in : (c : Comparison) (a b : ℤ) → IsNumber (comparison_of c a b)
comparison_in comparison.Equal a b = truth_in _
comparison_in comparison.Unequal a b = truth_in _
comparison_in comparison.Above a b = truth_in _
comparison_in comparison.Below a b = truth_in _
comparison_in comparison.NotBelow a b = truth_in _
comparison_in comparison.NotAbove a b = truth_in _
comparison_in comparison.Both a b = truth_in _
comparison_in comparison.Either a b = truth_in _

units_less : (a : ℤ) → IsNumber a → unsigned_abs (units_of a) ≤ 1000000000
units_less a h = let l : unsigned_abs a ≤ 1000000000000000 = far a h in let e : unsigned_abs (units_of a) ≡ unsigned_abs a / 1000000 = abs_div a 1000000 in omega arith

-- quotients and remainders of so many whole units
division_less : (d : Division) (u : ℤ) (n : ℕ) → unsigned_abs u ≤ 1000000000 → 0 < n → n ≤ 1000000000 → unsigned_abs (division_units d u (pos n)) ≤ 1000000000
division_less division.Remainder (pos a) n h k l = omega arith
division_less division.Remainder (negsuc a) n h k l = let e : unsigned_abs (neg_ℤ (pos (suc a % n))) ≡ suc a % n = abs_neg (suc a % n) in omega arith
division_less division.Modulo (pos a) n h k l = omega arith
division_less division.Modulo (negsuc a) n h k l = omega arith
division_less division.Quotient (pos a) n h k l = let e : a / n ≤ a = div_less a n in omega arith
division_less division.Quotient (negsuc a) n h k l = let e : a / n ≤ a = div_less a n in omega arith

division_in : (d : Division) (a b : ℤ) → IsNumber a → IsNumber b → IsNumber (division_of d a b)
division_in d a b h k =
    let n = max 1 (unsigned_abs (units_of b)) in
    let u : unsigned_abs (units_of b) ≤ 1000000000 = units_less b k in
    let l : unsigned_abs (division_units d (units_of a) (pos n)) ≤ 1000000000 = division_less d (units_of a) n (units_less a h) (omega arith) (omega arith) in
    let e : unsigned_abs (division_of d a b) ≡ unsigned_abs (division_units d (units_of a) (pos n)) * 1000000 = unsigned_abs-mul (division_units d (units_of a) (pos n)) (pos 1000000) in
    near (division_of d a b) (omega arith)

top_less : (i : ℕ) → slice_index top_notes i ≤ 15804265640
top_less zero = omega arith
top_less (suc zero) = omega arith
top_less (suc (suc zero)) = omega arith
top_less (suc (suc (suc zero))) = omega arith
top_less (suc (suc (suc (suc zero)))) = omega arith
top_less (suc (suc (suc (suc (suc zero))))) = omega arith
top_less (suc (suc (suc (suc (suc (suc zero)))))) = omega arith
top_less (suc (suc (suc (suc (suc (suc (suc zero))))))) = omega arith
top_less (suc (suc (suc (suc (suc (suc (suc (suc zero)))))))) = omega arith
top_less (suc (suc (suc (suc (suc (suc (suc (suc (suc zero))))))))) = omega arith
top_less (suc (suc (suc (suc (suc (suc (suc (suc (suc (suc zero)))))))))) = omega arith
top_less (suc (suc (suc (suc (suc (suc (suc (suc (suc (suc (suc zero))))))))))) = omega arith
top_less (suc (suc (suc (suc (suc (suc (suc (suc (suc (suc (suc (suc n)))))))))))) = omega arith

note_less : (n : ℕ) → note_frequency n ≤ 15804265640
note_less n =
    let l : slice_index top_notes (n % 12) ≤ 15804265640 = top_less (n % 12) in
    let q : slice_index top_notes (n % 12) / 2 ^ (10 - n / 12) ≤ slice_index top_notes (n % 12) = div_less (slice_index top_notes (n % 12)) (2 ^ (10 - n / 12)) in
    omega arith

between_less : (n r : ℕ) → r < 1000000 → between n r ≤ 31608531280
between_less n r h =
    let d = note_frequency (n + 1) - note_frequency n in
    let l : d ≤ 15804265640 = omega (arith, note_less (n + 1)) in
    let m : d * r ≤ d * 1000000 = mul-le-mul_left d (omega arith) in
    omega (arith, note_less n)

frequency_in : (z : ℤ) → IsNumber (frequency_of z)
frequency_in (pos n) = either IsNumber _ (pos (note_frequency 131)) (pos (between (n / 1000000) (n % 1000000)))
    (near_pos (note_frequency 131) (omega (arith, note_less 131)))
    (near_pos (between (n / 1000000) (n % 1000000)) (omega (arith, between_less (n / 1000000) (n % 1000000) (omega arith))))
frequency_in (negsuc n) = near_pos (note_frequency 0) (omega (arith, note_less 0))

function_in : (f : Function) (z : ℤ) → IsNumber z → IsNumber (function_of f z)
function_in function.Magnitude z h = magnitude_in z h
function_in function.Frequency z h = frequency_in z

clipped_in : (low high z : ℤ) → IsNumber low → IsNumber high → IsNumber z → IsNumber (clipped low high z)
clipped_in low high z a b c = either IsNumber (int_lt z low) low _ a (either IsNumber (int_lt high z) high z b c)

-- The objects with two inlets, by what they compute and their row.
abbrev hot_by : (ℤ → ℤ → ℤ) → Row → ℤ → ℤ → ℕ → Sort → Pair
hot_by f r left right selector (sort.Float z) = record { left = z; right = right; said = sends_only (number_to 0 (f z right) ∷ []) }
hot_by f r left right selector sort.Bang = record { left = left; right = right; said = sends_only (number_to 0 (f left right) ∷ []) }
hot_by f r left right selector s = record { left = left; right = right; said = deaf r (told s selector) }

abbrev cold_by : Row → ℤ → ℤ → ℕ → Sort → Pair
cold_by r left right selector (sort.Float z) = record { left = left; right = z; said = silent }
cold_by r left right selector s = record { left = left; right = right; said = deaf r selector }

abbrev row_by : (ℤ → ℤ → ℤ) → Row → ℤ → ℤ → ℕ → ℕ → List Atom → Pair
row_by f r left right inlet selector atoms =
    cond (inlet == 0) (hot_by f r left (stored (sort_of selector atoms) atoms 1 right) selector (first_sort (sort_of selector atoms) atoms)) (cold_by r left right selector (sort_of selector atoms))

-- of numbers in range a number in range
Computes : (ℤ → ℤ → ℤ) → Type 0
Computes f = (a b : ℤ) → IsNumber a → IsNumber b → IsNumber (f a b)

-- two numbers in order, and what is said
record IsPair (names : Names) (p : Pair) : Type 0 where
  left : IsNumber p.left
  right : IsNumber p.right
  said : IsSaid names p.said

module _ (names : Names) (first : HasFirst names) (limit : ℕ) where
  pair_hot-in : (f : ℤ → ℤ → ℤ) (r : Row) (left right : ℤ) (selector : ℕ) (s : Sort) → Computes f → IsNumber left → IsNumber right → IsName names selector → IsSort names first s → IsPair names (hot_by f r left right selector s)
  unfolding Computes
  pair_hot-in f r left right selector (sort.Float z) k a b n h = record { left = h; right = b; said = number_said names first 0 (f z right) (k z right h b) }
  pair_hot-in f r left right selector sort.Bang k a b n h = record { left = a; right = b; said = number_said names first 0 (f left right) (k left right a b) }
  pair_hot-in f r left right selector s k a b n h = record { left = a; right = b; said = deaf_told names first r s selector n }

  pair_cold-in : (r : Row) (left right : ℤ) (selector : ℕ) (s : Sort) → IsNumber left → IsNumber right → IsName names selector → IsSort names first s → IsPair names (cold_by r left right selector s)
  pair_cold-in r left right selector (sort.Float z) a b n h = record { left = a; right = h; said = silence names first }
  pair_cold-in r left right selector s a b n h = record { left = a; right = b; said = deafness names first r selector n }

  pair_in : (f : ℤ → ℤ → ℤ) (r : Row) (left right : ℤ) (inlet selector : ℕ) (atoms : List Atom) → Computes f → IsNumber left → IsNumber right → IsMessage names selector atoms → IsPair names (row_by f r left right inlet selector atoms)
  pair_in f r left right inlet selector atoms k a b m =
      let s = sort_of selector atoms in
      let h : IsSort names first s = sort_in names first selector atoms m.list.all in
      either (IsPair names) (inlet == 0) _ _
      (pair_hot-in f r left (stored s atoms 1 right) selector (first_sort s atoms) k a (stored_in names first s atoms 1 right m.list.all b) m.known (first_in names first s atoms h m.list.all))
      (pair_cold-in r left right selector s a b m.known h)

  clip_hot-in : (low high : ℤ) (selector : ℕ) (s : Sort) → IsNumber low → IsNumber high → IsName names selector → IsSort names first s → IsPair names (clip_heard low high selector s)
  clip_hot-in low high selector (sort.Float z) a b n h = record { left = a; right = b; said = number_said names first 0 (clipped low high z) (clipped_in low high z a b h) }
  clip_hot-in low high selector s a b n h = record { left = a; right = b; said = deaf_told names first row.Clip s selector n }

  clip_cold-in : (low high : ℤ) (inlet selector : ℕ) (s : Sort) → IsNumber low → IsNumber high → IsName names selector → IsSort names first s → IsPair names (clip_cold low high inlet selector s)
  clip_cold-in low high inlet selector (sort.Float z) a b n h = either (IsPair names) (inlet == 1) _ _
      (record { left = h; right = b; said = silence names first }) (record { left = a; right = h; said = silence names first })
  clip_cold-in low high inlet selector s a b n h = record { left = a; right = b; said = deafness names first row.Clip selector n }

  clip_in : (low high : ℤ) (inlet selector : ℕ) (atoms : List Atom) → IsNumber low → IsNumber high → IsMessage names selector atoms → IsPair names (clip_row low high inlet selector atoms)
  clip_in low high inlet selector atoms a b m =
      let s = sort_of selector atoms in
      let h : IsSort names first s = sort_in names first selector atoms m.list.all in
      either (IsPair names) (inlet == 0) _ _
      (clip_hot-in (stored s atoms 1 low) (stored s atoms 2 high) selector (first_sort s atoms) (stored_in names first s atoms 1 low m.list.all a) (stored_in names first s atoms 2 high m.list.all b) m.known (first_in names first s atoms h m.list.all))
      (clip_cold-in low high inlet selector s a b m.known h)

  function_heard-in : (f : Function) (selector : ℕ) (s : Sort) → IsName names selector → IsSort names first s → IsSaid names (function_heard f selector s)
  function_heard-in f selector (sort.Float z) n h = number_said names first 0 (function_of f z) (function_in f z h)
  function_heard-in f selector s n h = deaf_told names first row.Function s selector n

  function_row-in : (f : Function) (selector : ℕ) (atoms : List Atom) → IsMessage names selector atoms → IsSaid names (function_row f selector atoms)
  function_row-in f selector atoms m =
      function_heard-in f selector (first_sort (sort_of selector atoms) atoms) m.known
      (first_in names first (sort_of selector atoms) atoms (sort_in names first selector atoms m.list.all) m.list.all)

  paired : (make : ℤ → ℤ → State) (p : Pair) → ((l r : ℤ) → IsNumber l → IsNumber r → IsKept names limit (make l r)) → IsPair names p → IsHeard names limit (with_pair make p)
  paired make p k h = record { kept = k p.left p.right h.left h.right; said = h.said }

  row_in : (a : Arith) (s : State) (inlet selector : ℕ) (atoms : List Atom) → IsKept names limit s → IsMessage names selector atoms → IsHeard names limit (arith_row a s inlet selector atoms)
  unfolding Computes
  row_in (arith_kind.Operation o z) (state.Operation left right) inlet selector atoms k m =
      paired state.Operation (row_by (operation_of o) row.Operation left right inlet selector atoms) (λ l r a b. (a, b)) (pair_in (operation_of o) row.Operation left right inlet selector atoms (operation_in o) k.0 k.1 m)
  row_in (arith_kind.Comparison c z) (state.Comparison left right) inlet selector atoms k m =
      paired state.Comparison (row_by (comparison_of c) row.Comparison left right inlet selector atoms) (λ l r a b. (a, b)) (pair_in (comparison_of c) row.Comparison left right inlet selector atoms (λ a b h i. comparison_in c a b) k.0 k.1 m)
  row_in (arith_kind.Division d z) (state.Division left right) inlet selector atoms k m =
      paired state.Division (row_by (division_of d) row.Division left right inlet selector atoms) (λ l r a b. (a, b)) (pair_in (division_of d) row.Division left right inlet selector atoms (division_in d) k.0 k.1 m)
  row_in (arith_kind.Clip l h) (state.Clip low high) inlet selector atoms k m = let p = clip_in low high inlet selector atoms k.0 k.1 m in record { kept = (p.left, p.right); said = p.said }
  row_in (arith_kind.Function f) s inlet selector atoms k m = record { kept = k; said = function_row-in f selector atoms m }
  row_in a s inlet selector atoms k m = record { kept = k; said = silence names first }

  pub arith_in : (k : Kind) (s : State) (inlet selector : ℕ) (atoms : List Atom) → IsKept names limit s → IsMessage names selector atoms → IsHeard names limit (heard k s inlet selector atoms)
  unfolding heard
  arith_in (kind.Arith a) s inlet selector atoms h m = row_in a s inlet selector atoms h m
  arith_in k s inlet selector atoms h m = record { kept = h; said = silence names first }
