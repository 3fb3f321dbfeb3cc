use Rattle.std.proofs.Common.{◌≡◌, ◌≤◌, ◌++◌, ◌-◌, map}
use Rattle.std.specs.Prelude.{slice_range, IsTrue}
use Rattle.pd_lex.specs.Reading.{is_body, pieces}
use Rattle.pd_doc.specs.Pieces.{piece}
use Rattle.pd_doc.proofs.lexemes.split_record.Given as goal

abbrev pub invariant-loop-token : goal.invariant-loop-token
invariant-loop-token l = record {
  from : l.at ≤ l.place;
  within : l.place ≤ l.after;
  body : IsTrue (is_body (slice_range l.bytes l.place l.after));
  split : map piece l.out.items ++ pieces (slice_range l.bytes l.place l.after) ≡ pieces (slice_range l.bytes l.at l.after);
}

abbrev pub decreases-loop-token : goal.decreases-loop-token
decreases-loop-token l = l.after - l.place
