use Rattle.std.proofs.Common.{ℕ, sym, subst}
use Rattle.pd_stack.specs.Piles.{AllLie}
use Rattle.pd_stack.proofs.PileLemmas.{left-agree, cut-agree, cut-length}
use Rattle.pd_stack.proofs.steps.drop_rest.Goals as goal

pub returns-clause-piled : goal.returns-clause-piled
returns-clause-piled c =
    rw (c.cut_atoms.ensures) (subst (λ (n : ℕ). AllLie n c.args.stack.now.pendings) (sym (cut-length c.args.top.now.floor c.args.stack.now.atoms c.requires.lies.floor)) c.requires.below)

pub returns-clause-count : goal.returns-clause-count
returns-clause-count c = rw (c.cut_atoms.ensures) (cut-length c.args.top.now.floor c.args.stack.now.atoms c.requires.lies.floor)

pub returns-clause-left : goal.returns-clause-left
returns-clause-left c = λ net later left.
    rw (c.cut_atoms.ensures) (left-agree net c.args.top.now.floor c.args.stack.now.atoms _ c.args.stack.now.pendings later (cut-agree c.args.top.now.floor c.args.stack.now.atoms) c.requires.below left)
