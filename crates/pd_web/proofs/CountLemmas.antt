-- How many places of a list hold something, and so how many wires there are.
use Rattle.std.proofs.Common.{◌≡◌, ◌≢◌, ℕ, zero, suc, ◌+◌, Bool, true, false, cond, is_some, List, [], ◌∷◌, length, filter, Option, Some, None, slice_index_or, refl, sym, ap, ◌∙◌, arith}
use Rattle.std.specs.Prelude.{option_map, IsSome}
use Rattle.pd_wire.specs.Book.{Book, Adds, wire_at, live_wires}
use Rattle.pd_web.specs.declared.web.Web.{Web}
use Rattle.pd_web.specs.Lines.{Line}
use Rattle.pd_web.specs.Changes.{line_told, wires_told, IsSame, Joins, CutsWire}

none_holds : false ≡ true → ⊥
none_holds q = cc

suc_other : (j k : ℕ) → j ≢ k → suc j ≢ suc k
suc_other j k ne q = ne (omega (arith, q))

-- what a place adds to the number
abbrev weight_by : Bool → ℕ
weight_by b = cond b 1 0

module _ {X : Type 0} where
  -- how many places of the list hold something
  abbrev pub held : List (Option X) → ℕ
  held xs = length (filter is_some xs)

  -- whether a place holds something
  abbrev pub holds : List (Option X) → ℕ → Bool
  holds xs k = is_some (slice_index_or xs k None)

  abbrev weight : Option X → ℕ
  weight o = weight_by (is_some o)

  held_cons : (o : Option X) (xs : List (Option X)) → held (o ∷ xs) ≡ weight o + held xs
  held_cons None xs = omega arith
  held_cons (Some x) xs = omega arith

  held_more : (o : Option X) (xs : List (Option X)) → is_some o ≡ true → held (o ∷ xs) ≡ held xs + 1
  held_more o xs h = let first : weight o ≡ 1 = ap weight_by h in omega (arith, held_cons o xs, first)

  held_same : (o : Option X) (xs : List (Option X)) → is_some o ≡ false → held (o ∷ xs) ≡ held xs
  held_same o xs h = let first : weight o ≡ 0 = ap weight_by h in omega (arith, held_cons o xs, first)

  held_both : (o p : Option X) (xs ys : List (Option X)) (n : ℕ) → is_some p ≡ is_some o → held ys ≡ held xs + n → held (p ∷ ys) ≡ held (o ∷ xs) + n
  held_both o p xs ys n h rest = let first : weight p ≡ weight o = ap weight_by h in omega (arith, held_cons o xs, held_cons p ys, first, rest)

  -- two lists hold something at the same places
  abbrev pub HoldAlike : List (Option X) → List (Option X) → Type 0
  HoldAlike xs ys = (j : ℕ) → holds ys j ≡ holds xs j

  pub held_alike : (xs ys : List (Option X)) → HoldAlike xs ys → held ys ≡ held xs
  held_alike [] [] h = refl
  held_alike [] (y ∷ ys) h = held_same y ys (h 0) ∙ held_alike [] ys (λ j. h (suc j))
  held_alike (x ∷ xs) [] h = held_alike xs [] (λ j. h (suc j)) ∙ sym (held_same x xs (sym (h 0)))
  held_alike (x ∷ xs) (y ∷ ys) h = let both = held_both x y xs ys 0 (h 0) (omega (arith, held_alike xs ys (λ j. h (suc j)))) in omega (arith, both)

  -- a list that holds something at one place more than another holds one more
  pub held_one_more : (xs ys : List (Option X)) (k : ℕ) → holds xs k ≡ false → holds ys k ≡ true → ((j : ℕ) → j ≢ k → holds ys j ≡ holds xs j) → held ys ≡ held xs + 1
  held_one_more [] [] k was is others = absurd (none_holds is)
  held_one_more (x ∷ xs) [] k was is others = absurd (none_holds is)
  held_one_more [] (y ∷ ys) zero was is others =
      held_more y ys is ∙ ap (λ n. n + 1) (held_alike [] ys (λ j. others (suc j) (λ q. cc)))
  held_one_more [] (y ∷ ys) (suc k) was is others =
      held_same y ys (others 0 (λ q. cc)) ∙ held_one_more [] ys k was is (λ j ne. others (suc j) (suc_other j k ne))
  held_one_more (x ∷ xs) (y ∷ ys) zero was is others =
      held_more y ys is ∙ ap (λ n. n + 1) (held_alike xs ys (λ j. others (suc j) (λ q. cc)) ∙ sym (held_same x xs was))
  held_one_more (x ∷ xs) (y ∷ ys) (suc k) was is others =
      held_both x y xs ys 1 (others 0 (λ q. cc)) (held_one_more xs ys k was is (λ j ne. others (suc j) (suc_other j k ne)))

-- where the same keys are wires there are as many
pub wires_alike : (b b' : Book) → ((k : ℕ) → wire_at b' k ≡ wire_at b k) → live_wires b' ≡ live_wires b
wires_alike b b' h = held_alike b.wires b'.wires (λ k. ap is_some (h k))

pub wire_is_one_more : (b b' : Book) (key source fan_place sink feed_place : ℕ) → Adds b b' key source fan_place sink feed_place → live_wires b' ≡ live_wires b + 1
wire_is_one_more b b' key source fan_place sink feed_place a =
    held_one_more b.wires b'.wires key (ap is_some a.was_vacant.1) (ap is_some a.wire) (λ k ne. ap is_some (a.other_wires k ne))

mapped_some : {X Y : Type 0} (f : X → Y) (o : Option X) → is_some (option_map f o) ≡ is_some o
mapped_some f None = refl
mapped_some f (Some x) = refl

-- a key is a wire's where its line is told
told_some : (w : Web) (k : ℕ) → is_some (line_told w k) ≡ is_some (wire_at w.book k)
told_some w k = mapped_some _ (wire_at w.book k)

told_alike : (w w' : Web) (k : ℕ) → line_told w' k ≡ line_told w k → is_some (wire_at w'.book k) ≡ is_some (wire_at w.book k)
told_alike w w' k h = sym (told_some w' k) ∙ ap is_some h ∙ told_some w k

told_none : (w : Web) (k : ℕ) → line_told w k ≡ None → is_some (wire_at w.book k) ≡ false
told_none w k h = sym (told_some w k) ∙ ap is_some h

told_wire : (w : Web) (k : ℕ) → IsSome (line_told w k) → is_some (wire_at w.book k) ≡ true
told_wire w k h = sym (told_some w k) ∙ h

pub joined_is_one_more : (w w' : Web) (key : ℕ) (l : Line) (fan_place feed_place : ℕ) → Joins w w' key l fan_place feed_place → wires_told w' ≡ wires_told w + 1
joined_is_one_more w w' key l fan_place feed_place j =
    held_one_more w.book.wires w'.book.wires key (told_none w key j.was_vacant) (told_wire w' key (ap is_some j.line)) (λ k ne. told_alike w w' k (j.other_lines k ne))

pub cut_is_one_less : (w w' : Web) (key : ℕ) → CutsWire w w' key → IsSome (line_told w key) → wires_told w' + 1 ≡ wires_told w
cut_is_one_less w w' key c was =
    sym (held_one_more w'.book.wires w.book.wires key (told_none w' key c.line) (told_wire w key was) (λ k ne. told_alike w' w k (sym (c.other_lines k ne))))

pub same_are_as_many : (w w' : Web) → IsSame w w' → wires_told w' ≡ wires_told w
same_are_as_many w w' s = held_alike w.book.wires w'.book.wires (λ k. told_alike w w' k (s.lines k))
