-- What a run has reached.
use Rattle.std.proofs.Common.{◌≡◌, ℕ, ◌+◌, ◌<◌, ◌≤◌, ◌⊎◌, inl, inr, List, length, take, drop, sym, ◌∙◌, ap, subst, arith}
use Rattle.std.proofs.lemmas.List.{take-take, length-take-le}
use Rattle.pd_order.specs.Graph.{Graph, tally, total}
use Rattle.pd_order.specs.Work.{IsRunning, IsTraced, looks_on, looks_back}
use Rattle.pd_order.specs.Window.{IsReached, HasMet, HasEnded}

pub le_self : (n : ℕ) → n ≤ n
le_self n = omega arith

pub passed_listed : (passed far listed : ℕ) → (passed ≤ far) × (far ≤ listed) → passed ≤ listed
passed_listed passed far listed f = let a : passed ≤ far = f.0 in let b : far ≤ listed = f.1 in omega arith

pub ended_reach : (g : Graph) (old T : List ℕ) (from passed listed far : ℕ) (was mark0 mark : ℕ → ℕ) → IsTraced g old T from passed far was mark0 mark → from ≤ listed →
    ((listed ≡ from) × (far ≡ from)) ⊎ (listed < far) → (listed ≡ from) ⊎ ((x : ℕ) × (0 < tally x T) × (listed ≤ was x))
ended_reach g old T from passed listed far was mark0 mark t fl h = elim h [
  | inl e ↦ inl e.0
  | inr l ↦ elim t.attained [
    | inl e ↦ absurd (omega arith)
    | inr w ↦ inr (w.0, w.1, (let q : was w.0 + 1 ≡ far = w.2 in omega arith))
  ]
]

pub reached_is : (g : Graph) (nodes old new T : List ℕ) (from listed passed far : ℕ) (was place mark0 mark : ℕ → ℕ) (heap spare : List ℕ) (before steps after : ℕ) →
    IsRunning g nodes old T from passed was place mark heap spare → IsTraced g old T from passed far was mark0 mark → take listed new ≡ T → listed ≤ length new →
    after + before ≡ steps + total (looks_on g) (drop from T) + total (looks_back g) spare → HasMet old new from listed passed was ⊎ HasEnded old new from listed passed was →
    IsReached g nodes old new from was mark0 before steps after
reached_is g nodes old new T from listed passed far was place mark0 mark heap spare before steps after r t et ln lk h =
    let lt : length (take listed new) ≡ listed = length-take-le listed new ln in
    let fl : from ≤ length T = r.from_listed in
    let fl' : from ≤ length (take listed new) = subst (λ (l : List ℕ). from ≤ length l) (sym et) fl in
    record {
      listed = listed;
      passed = passed;
      front = sym (take-take from listed new (omega arith)) ∙ ap (take from) et ∙ r.front;
      looked = record {
        known = spare;
        known_once = r.work.spare_once;
        known_nodes = λ x l. r.work.inside x (r.work.of_spare x l);
        why = λ x l. rw et (t.why x (r.work.of_spare x l));
        new_once = λ x. rw et (r.once x);
        new_nodes = λ x l. r.inside x (rw (← et) l);
        listed_new = ln;
        passed_old = r.passed_old;
        from_listed = omega arith;
        looks = rw et lk;
      };
      reach = h;
    }
