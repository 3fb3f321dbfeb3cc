use Rattle.std.proofs.Common.{◌≡◌, ◌≢◌, ◌++◌, ◌+◌, None, true, false, length, take, drop, ap, sym, subst, ◌∙◌, arith}
use Rattle.std.proofs.lemmas.List.{length-take}
use Rattle.std.specs.Char.{is_ascii_digit}
use Rattle.std.specs.List.{list_all}
use Rattle.pd_atom.specs.Tokens.{or_else}
use Rattle.pd_atom.specs.Expansion.{run_text, run_at, filled, runs_of, first_missing, or_missing, run_argument, run_number}
use Rattle.pd_atom.proofs.CaseLemmas.{eqb-true, eqb-false}
use Rattle.pd_atom.proofs.FillLemmas.{piece_put, filled_plain, filled_run, runs_run, run_digits, missing_more}
use Rattle.pd_atom.proofs.expansion.put_piece.Goals as goal

pub returns-then-is_empty-clause-text : goal.returns-then-is_empty-clause-text
returns-then-is_empty-clause-text c =
    let rest = c.args.rest.now in
    let text = run_text c.args.symbols.now c.args.zero c.args.args.now in
    let none : length (run_at rest) ≡ 0 = ap length (sym c.run-digits.ensures) ∙ eqb-true (length c.run-digits.result.now) 0 (sym c.if-is_empty.ensures) in
    ap (λ o. take 255 (o ++ filled text false (drop 1 rest))) c.put.ensures
    ∙ piece_put c.args.out.now.items (take 1 rest) (filled text false (drop 1 rest)) (filled text false rest) (filled_plain text rest c.requires.some none)

pub put_argument-missing-requires-clause-digits : goal.put_argument-missing-requires-clause-digits
put_argument-missing-requires-clause-digits c = subst (λ ds. list_all is_ascii_digit ds ≡ true) (sym c.run-digits.ensures) (run_digits c.args.rest.now)

pub returns-clause-text : goal.returns-clause-text
returns-clause-text c =
    let rest = c.args.rest.now in
    let text = run_text c.args.symbols.now c.args.zero c.args.args.now in
    let out = c.args.out.now.items in
    let some : length (run_at rest) ≢ 0 = λ z. eqb-false (length c.run-digits.result.now) 0 (sym c.if-is_empty.ensures) (ap length c.run-digits.ensures ∙ z) in
    ap (λ o. take 255 (o ++ filled text false (drop (length c.run-digits.result.now + 1) rest))) c.put_argument-missing.ensures.text
    ∙ ap (λ d. take 255 (take 255 (out ++ text d) ++ filled text false (drop (length d + 1) rest))) c.run-digits.ensures
    ∙ piece_put out (text (run_at rest)) (filled text false (drop (length (run_at rest) + 1) rest)) (filled text false rest) (filled_run text rest some)

pub returns-clause-missing : goal.returns-clause-missing
returns-clause-missing c =
    let rest = c.args.rest.now in
    let own = c.args.zero in
    let args = c.args.args.now in
    let some : length (run_at rest) ≢ 0 = λ z. eqb-false (length c.run-digits.result.now) 0 (sym c.if-is_empty.ensures) (ap length c.run-digits.ensures ∙ z) in
    ap (first_missing own args) (runs_run rest some) ∙ missing_more own args (run_at rest) (runs_of (drop (length (run_at rest) + 1) rest))
    ∙ sym (ap (λ d. or_else (or_missing (run_argument own args d) (run_number d) None) (first_missing own args (runs_of (drop (length d + 1) rest)))) c.run-digits.ensures)
    ∙ sym (ap (λ r. or_else r (first_missing own args (runs_of (drop (length c.run-digits.result.now + 1) rest)))) c.put_argument-missing.ensures.missing)

pub returns-then-is_empty-clause-short : goal.returns-then-is_empty-clause-short
returns-then-is_empty-clause-short c = omega (arith, ap length c.put.ensures, length-take 255 (c.args.out.now.items ++ take 1 c.args.rest.now))

pub returns-clause-short : goal.returns-clause-short
returns-clause-short c =
    let text = run_text c.args.symbols.now c.args.zero c.args.args.now in
    omega (arith, ap length c.put_argument-missing.ensures.text, length-take 255 (c.args.out.now.items ++ text c.run-digits.result.now))
