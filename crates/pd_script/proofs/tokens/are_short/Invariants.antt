use Rattle.std.proofs.Common.{◌≡◌, ◌+◌, ◌≤◌, length, IsTrue}
use Rattle.std.specs.List.{list_any, AllByRecursion}
use Rattle.pd_lex.specs.Reading.{is_body}
use Rattle.pd_script.specs.Tokens.{tokens_of, is_long, IsToken}
use Rattle.pd_script.proofs.tokens.are_short.Given as goal

abbrev pub invariant-loop-raw : goal.invariant-loop-raw
invariant-loop-raw l = record {
  body : IsTrue (is_body l.rest);
  long : list_any is_long (tokens_of l.rest) ≡ list_any is_long (tokens_of l.bytes);
  tokens : AllByRecursion IsToken (tokens_of l.rest) → AllByRecursion IsToken (tokens_of l.bytes);
  few : length (tokens_of l.bytes) + length l.rest ≤ length (tokens_of l.rest) + length l.bytes;
}

abbrev pub decreases-loop-raw : goal.decreases-loop-raw
decreases-loop-raw l = length l.rest
