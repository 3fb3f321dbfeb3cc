-- A patch that has just grown is within the limits of patches.
use Rattle.std.proofs.Common.{arith, ◌≡◌, ℕ, zero, suc, ◌+◌, ◌-◌, ◌≤◌, List, [], ◌∷◌, ◌++◌, Option, Some, None, ap, subst}
use Rattle.std.specs.Prelude.{option_map}
use Rattle.std.specs.List.{AllByRecursion}
use Rattle.slab.specs.Slab.{get}
use Rattle.pd_atom.specs.Names.{Names}
use Rattle.pd_clock.specs.declared.times.Rate.{Rate}
use Rattle.pd_canvas.specs.Pages.{Page}
use Rattle.pd_library.specs.declared.answers.Answer.{Answer}
use Rattle.pd_tree.specs.Trees.{weight, zeros_of}
use Rattle.pd_growth.specs.Steps.{beginning, numbers_up, zeros_from}
use Rattle.pd_growth.specs.Growth.{grown}
use Rattle.pd_grove.specs.declared.boards.Board.{Board}
use Rattle.pd_grove.specs.Standing.{BoardSeen, board_seen}
use Rattle.pd_grove.specs.TextOrder.{deep}
use Rattle.pd_patch.specs.declared.patch.Patch.{Patch}
use Rattle.pd_patch.specs.Grown.{IsTree}
use Rattle.pd_regrowth_law.specs.Regrowth.{Takes}
use Rattle.pd_regrowth_law.proofs.TakeLemmas.{patch_takes, patch_small}
use Rattle.pd_adding.specs.Coming.{zero_in, own_zero}
use Rattle.pd_adding.specs.Counted.{IsLimited}

abbrev IsZero : ℕ → Type 0
IsZero z = z ≤ 1000000000

up_to : (n k : ℕ) → k ≤ 1000000001 - n → AllByRecursion IsZero (numbers_up n k)
unfolding numbers_up
up_to n zero h = tt
up_to n (suc k) h = (omega (arith, h), up_to (n + 1) k (omega (arith, h)))

from_one_on : (n : ℕ) → AllByRecursion IsZero (zeros_from n)
unfolding zeros_from
from_one_on n = up_to n (1000000001 - n) (omega arith)

first_part : (xs ys : List ℕ) → AllByRecursion IsZero (xs ++ ys) → AllByRecursion IsZero xs
first_part [] ys h = tt
first_part (x ∷ xs) ys h = (h.0, first_part xs ys h.1)

abbrev zero_seen : Option BoardSeen → ℕ
zero_seen None = 0
zero_seen (Some b) = b.sheet.zero

zero_so : (o : Option Board) (b : BoardSeen) → option_map board_seen o ≡ Some b → zero_in o ≡ b.sheet.zero
zero_so None b h = ap zero_seen h
zero_so (Some x) b h = ap zero_seen h

module _ (p : Patch) (names table : Names) (rate : Rate) (lib : ℕ → Option Answer) (file : List ℕ) (page : Page) (first : ℕ)
    (grew : IsTree p names rate (grown lib file page (beginning table first))) where
  few_zeros : AllByRecursion IsZero (zeros_of grew.tree)
  few_zeros =
      let after = grew.given.after in
      let takes : Takes (beginning table first) (zeros_of grew.tree) (weight grew.tree.boxes) after =
      patch_takes lib file page (beginning table first) after grew.tree grew.given.step in
      first_part (zeros_of grew.tree) after.zeros (subst (λ (zs : List ℕ). AllByRecursion IsZero zs) takes.zeros (from_one_on first))

  pub grown_limited : IsLimited rate grew.tree
  grown_limited =
      let shallow : deep grew.tree.boxes + 1 ≤ 256 = grew.shallow in
      record {
        shallow = omega (arith, shallow);
        boxes = patch_small lib file page table first grew.given.after grew.tree grew.given.step;
        sound = grew.few_values;
        zeros = few_zeros;
      }

  pub own_zero_few : own_zero p ≤ 1000000000
  own_zero_few =
      let told : own_zero p ≡ grew.tree.sheet.zero = zero_so (get p.grove.boards p.grove.root) _ grew.stands.root in
      let few : grew.tree.sheet.zero ≤ 1000000000 = few_zeros.0 in
      omega (arith, told, few)
