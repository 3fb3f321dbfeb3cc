use Rattle.std.proofs.Common.{arith, ◌+◌, sym, ◌∙◌, ◌≡◌, get_or, ℕ, eqb, false}
use Rattle.std.proofs.lemmas.Bool.Decides.{nat_tests}
use Rattle.std.specs.Prelude.{slice_range}
use Rattle.pd_script.proofs.StepLemmas.{goes_on_slash, goes_on_other, no_part}
use Rattle.pd_script.proofs.fields.steps.Goals as goal
use Rattle.pd_script.proofs.fields.steps.Goals.{then-rest-i-eq47+in_ok-step, else-rest-i-eq47}

not_equal : (m n : ℕ) → (m ≡ n → ⊥) → eqb m n ≡ false
not_equal m n h = grind (arith, nat_tests)

pub loop-i-preserved : goal.loop-i-preserved
loop-i-preserved c =
    let s = c.args.rest.now in
    let i = c.loop-i.i in
    let inv = c.loop-i.invariant in
    elim c.if-rest-i-eq47.branch [
      | then-rest-i-eq47+in_ok-step w ↦ rw (w.out-is, w.from-is) (record {
        from = omega arith;
        room = omega (arith, inv.room, inv.from, w.push_reserved.ensures.len);
        capacity = w.push_reserved.ensures.capacity ∙ inv.capacity;
        exact = rw (w.push_reserved.ensures.items, no_part s (i + 1)) (goes_on_slash c.loop-i.out.items (slice_range s c.loop-i.from i) s i w.in_ok-step.field-0 _
            c.loop-i-test.true w.if-rest-i-eq47.true (sym w.step.ensures ∙ w.in_ok-step.was) inv.exact);
      })
      | else-rest-i-eq47 w ↦ rw (w.out-is, w.from-is) (record {
        from = omega (arith, inv.from);
        room = inv.room;
        capacity = inv.capacity;
        exact = goes_on_other c.loop-i.out.items s c.loop-i.from i _ inv.from c.loop-i-test.true (not_equal (get_or s i 0) 47 w.if-rest-i-eq47.false) inv.exact;
      })
    ]
