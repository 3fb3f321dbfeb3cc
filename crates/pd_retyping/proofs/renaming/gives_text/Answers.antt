use Rattle.std.proofs.Common.{◌≡◌, sym, ap, ◌∙◌}
use Rattle.std.specs.Option.{option_copied}
use Rattle.std.proofs.lemmas.Option.{none-some, same_Some}
use Rattle.pd_grove.specs.declared.nodes.Node.{Node}
use Rattle.pd_tree.specs.Trees.{stands_in}
use Rattle.pd_retyping.proofs.renaming.gives_text.Goals as goal

pub returns-in_default-clause-no : goal.returns-in_default-clause-no
returns-in_default-clause-no c = λ f k n a is A G. absurd (none-some n (sym (sym c.node.ensures ∙ ap option_copied c.in_default.is) ∙ is))

pub returns-then-not-is_whole-clause-no : goal.returns-then-not-is_whole-clause-no
returns-then-not-is_whole-clause-no c = λ f k n a is A G.
    let same : c.in-Some.node.now ≡ n = same_Some c.in-Some.node.now n (sym (sym c.node.ensures ∙ ap option_copied c.in-Some.is) ∙ is) in
    c.is_whole.ensures.no c.if-not-is_whole.true (ap (λ (x : Node). x.kind) same ∙ G.was_canvas) (ap (λ (x : Node). x.fault) same ∙ G.was_whole)

pub returns-clause-keeps : goal.returns-clause-keeps
returns-clause-keeps c = λ t. c.if-not-keeps.false

pub returns-clause-yes : goal.returns-clause-yes
returns-clause-yes c = λ t n a is A.
    let same : c.in-Some.node.now ≡ n = same_Some c.in-Some.node.now n (sym (sym c.node.ensures ∙ ap option_copied c.in-Some.is) ∙ is) in
    record {
      was_canvas = ap (λ (x : Node). x.kind) (sym same) ∙ c.is_whole.ensures.canvas c.if-not-is_whole.false;
      was_whole = ap (λ (x : Node). x.fault) (sym same) ∙ c.is_whole.ensures.whole c.if-not-is_whole.false;
      bare = c.is_bare_sub.ensures.yes t a.boxes A.one (ap stands_in c.as_slice.ensures.value ∙ A.rows);
    }

pub returns-clause-no : goal.returns-clause-no
returns-clause-no c = λ f k n a is A G. c.is_bare_sub.ensures.no f a.boxes (ap stands_in c.as_slice.ensures.value ∙ A.rows) G.bare
