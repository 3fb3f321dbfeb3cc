use Rattle.std.proofs.Common.{◌+◌, arith, ap, sym, ◌∙◌, ◌∷◌, drop, length, List, subst}
use Rattle.std.specs.List.{All}
use Rattle.std.proofs.lemmas.List.{length-append}
use Rattle.std.proofs.lemmas.List.Elements.{All-push, All-get_or}
use Rattle.std.proofs.lemmas.Result.{err_from_is_err_and}
use Rattle.pd_atom.specs.declared.Atom.{Atom}
use Rattle.pd_atom.specs.Atoms.{IsOf}
use Rattle.pd_growth.proofs.TextLemmas.{extends_on, of_extended, all_extended, drop_at, text_go_on, text_refuses, text_all}
use Rattle.pd_growth.proofs.texts.expand_text.Goals as goal

pub expand_atom-requires : goal.expand_atom-requires
expand_atom-requires c =
    let i = c.loop-atom.atom-index in
    let a = c.atom-item.result in
    record {
      of_table = of_extended c.args.symbols.now c.loop-atom.symbols a c.loop-atom.invariant.extends (subst (IsOf c.args.symbols.now) (sym c.atom-item.is) (All-get_or (IsOf c.args.symbols.now) c.args.text.now i a (omega arith) c.requires.of_table));
      arguments = all_extended c.args.symbols.now c.loop-atom.symbols c.args.arguments.now c.loop-atom.invariant.extends c.requires.arguments;
      zero = c.requires.zero;
    }

pub loop-atom-preserved : goal.loop-atom-preserved
loop-atom-preserved c =
    let i = c.loop-atom.atom-index in
    let a = c.atom-item.result in
    let names = c.loop-atom.symbols in
    let names' = c.expand_atom.new.symbols in
    let b = c.in_ok-expand_atom.field-0 in
    let pushed = c.in_ok-push.ensures.items in
    let inv = c.loop-atom.invariant in
    record {
      exact = rw pushed (text_go_on c.args.zero c.args.arguments.now names names' c.loop-atom.atoms.items c.args.text.now i a b _
          (drop_at c.args.text.now i a (omega arith) ∙ ap (λ x. x ∷ drop (i + 1) c.args.text.now) (sym c.atom-item.is)) c.in_ok-expand_atom.ensures.exact inv.exact);
      of_table = subst (λ (t : List Atom). All (IsOf names') t) (sym pushed) (All-push (IsOf names') c.loop-atom.atoms.items b (all_extended names names' c.loop-atom.atoms.items c.in_ok-expand_atom.ensures.extends inv.of_table) c.in_ok-expand_atom.ensures.of_table);
      same = (let s = inv.same in ap length pushed ∙ length-append c.loop-atom.atoms.items _ ∙ omega (arith, s));
      extends = extends_on c.args.symbols.now names names' inv.extends c.in_ok-expand_atom.ensures.extends;
    }

pub returns-in_err-expand_atom-clause-exact : goal.returns-in_err-expand_atom-clause-exact
returns-in_err-expand_atom-clause-exact c =
    let p = err_from_is_err_and c.from_residual-in_err-expand_atom.result c.from_residual-in_err-expand_atom.ensures.1 in
    let i = c.loop-atom.atom-index in
    let a = c.atom-item.result in
    rw (p.1, p.2) (text_refuses c.args.zero c.args.arguments.now c.loop-atom.symbols c.expand_atom.new.symbols c.loop-atom.atoms.items c.args.text.now i a c.in_err-expand_atom.field-0.0 _
    (drop_at c.args.text.now i a (omega arith) ∙ ap (λ x. x ∷ drop (i + 1) c.args.text.now) (sym c.atom-item.is)) c.in_err-expand_atom.ensures.exact c.loop-atom.invariant.exact)

pub returns-clause-exact : goal.returns-clause-exact
returns-clause-exact c =
    rw c.from_vec.ensures (text_all c.args.zero c.args.arguments.now c.loop-atom.symbols c.loop-atom.atoms.items c.args.text.now c.loop-atom.atom-index _ (omega arith) c.loop-atom.invariant.exact)
