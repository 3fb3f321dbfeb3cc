use Rattle.std.proofs.Common.{◌≡◌, ◌≤◌, ◌<◌, ℕ, Bool, true, false, List, length, take, leb, min, refl, sym, ◌∙◌, ap, arith}
use Rattle.std.proofs.lemmas.List.{take_all, length-take-le}
use Rattle.std.proofs.lemmas.Bool.{leb-true, leb-false}
use Rattle.pd_engine.proofs.showing.fill.Goals as goal

take_min : (m n : ℕ) (l : List ℕ) → m ≡ min (length l) n → take m l ≡ take n l
take_min m n l is =
    elim (leb (length l) n) as (λ (b : Bool). leb (length l) n ≡ b → take m l ≡ take n l) [
      | true ↦ λ e. let h : length l ≤ n = leb-true (length l) n e in let k : length l ≤ m = omega arith in take_all m l k ∙ sym (take_all n l h)
      | false ↦ λ e. let h : n < length l = leb-false (length l) n e in let k : m ≡ n = omega arith in ap (λ (j : ℕ). take j l) k
    ] refl

take_few : (m : ℕ) (l : List ℕ) → m ≤ length l → m ≤ 16384 → length (take m l) ≤ 16384
take_few m l h k = let e = length-take-le m l h in omega arith

pub loop-key-init : goal.loop-key-init
loop-key-init c = record {
  items = c.clear.ensures.items;
  few = take_few c.min.result c.args.boxes.now (omega (arith, c.min.ensures)) (omega (arith, c.min.ensures));
  told = take_min c.min.result 16384 c.args.boxes.now (omega (arith, c.min.ensures));
  room = omega (arith, c.requires, c.clear.ensures.capacity);
}
