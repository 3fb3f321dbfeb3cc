use Rattle.std.proofs.Common.{◌++◌, ap, refl}
use Rattle.pd_stack.proofs.steps.keep.Goals as goal

pub returns-clause-left : goal.returns-clause-left
returns-clause-left c = λ net here later starts left. rw (c.push.ensures) (record {
  later = starts.later ++ later;
  is = ap (λ l. l ++ later) starts.is;
  then = record { here = starts.later; later = later; first = starts.then; then = left; is = refl };
})
