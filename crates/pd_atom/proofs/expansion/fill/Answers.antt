use Rattle.std.proofs.Common.{◌≡◌, ◌++◌, [], take, drop, false, ap, sym, ◌∙◌, append-nil}
use Rattle.std.proofs.lemmas.List.{take_all, drop_all}
use Rattle.pd_atom.specs.Expansion.{run_text, filled}
use Rattle.pd_atom.proofs.expansion.fill.Goals as goal

pub returns-clause-name : goal.returns-clause-name
returns-clause-name c =
    let text = run_text c.args.symbols.now c.args.zero c.args.args.now in
    let out = c.loop-i.out.items in
    let name = c.name-name.result.now in
    let done : drop c.loop-i.i name ≡ [] = drop_all c.loop-i.i name c.loop-i-test.false in
    sym (take_all 255 out c.loop-i.invariant.short) ∙ ap (take 255) (sym (append-nil out)) ∙ ap (λ r. take 255 (out ++ filled text false r)) (sym done)
    ∙ c.loop-i.invariant.text ∙ ap (λ n. take 255 (filled text false n)) c.name-name.ensures.value
