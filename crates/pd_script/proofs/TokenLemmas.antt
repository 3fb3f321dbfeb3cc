-- The first token of a record.
use Rattle.std.proofs.Common.{◌≡◌, ℕ, ◌-◌, ◌<◌, Bool, true, false, eqb, List, [], ◌∷◌, length, take, drop, sym, ap, ◌∙◌, arith, length-drop, length-take}
use Rattle.std.specs.Prelude.{slice_range}
use Rattle.std.proofs.lemmas.List.{take_all, take_rest}
use Rattle.pd_lex.specs.Text.{unescaped}
use Rattle.pd_lex.specs.Reading.{pieces, IsNext}
use Rattle.pd_lex.specs.declared.Token.{Token}
use Rattle.pd_script.specs.Tokens.{bytes_of, piece_in}
use Rattle.pd_script.specs.Splits.{IsSplit}
use Rattle.pd_script.proofs.DigitLemmas.{by_test}

unescaped_some : (w : List ℕ) → 0 < length w → 0 < length (unescaped w)
unescaped_some [] h = h
unescaped_some (b ∷ []) h = omega arith
unescaped_some (b ∷ c ∷ cs) h = by_test (eqb b 92) (λ e. rw e (omega arith)) (λ e. rw e (omega arith))

piece_some : (raw : List ℕ) (comma : Bool) → 0 < length raw → 0 < length (bytes_of (piece_in raw comma))
piece_some raw true h = omega arith
piece_some raw false h = unescaped_some raw h

pub split_is : (body : List ℕ) (t : Token) → IsNext body 0 (length body) t →
    IsSplit body (take (t.after - t.first) (drop t.first body)) t.bare_comma (take (length body - t.after) (drop t.after body))
split_is body t n =
    let all : slice_range body 0 (length body) ≡ body = take_all (length body - 0) body (omega arith) in
    let long : length (take (t.after - t.first) (drop t.first body)) ≡ t.after - t.first =
    omega (arith, length-take (t.after - t.first) (drop t.first body), length-drop t.first body, n.within, n.some) in
    let rest : take (length body - t.after) (drop t.after body) ≡ drop t.after body = take_rest body t.after in
    record {
      some = piece_some (take (t.after - t.first) (drop t.first body)) t.bare_comma (omega (arith, long, n.some));
      shorter = rw rest (omega (arith, length-drop t.after body, n.some, n.within));
      goes_on = n.goes_on;
      parts = ap pieces (sym all) ∙ n.tokens;
    }
