use Rattle.std.proofs.Common.{◌≡◌, ℕ, List, length, take, sym, ◌∙◌, subst}
use Rattle.std.proofs.Math.Seq.{take-append_seam}
use Rattle.pd_atom.specs.Names.{Extends}
use Rattle.pd_doc.proofs.ResultLemmas.{extends_same}
use Rattle.pd_library.specs.declared.answers.Answer.{Answer}
use Rattle.pd_gather.specs.Gather.{GoesOn}
use Rattle.pd_gather.proofs.AskLemmas.{names_cut}
use Rattle.pd_gather.proofs.GatherLemmas.{behind_same}
use Rattle.pd_gather.proofs.library.Library.gather_box.Goals as goal

pub returns-in-Ok-None-clause-extends : goal.returns-in-Ok-None-clause-extends
returns-in-Ok-None-clause-extends g c =
    subst (Extends c.args.symbols.now)
    (sym (names_cut c.args.symbols.now c.gather_one-gathered.new.symbols c.forget.new.symbols c.len-names.result c.in-Ok-None.ensures.extends c.len-names.ensures.value c.forget.ensures.names))
    (extends_same c.args.symbols.now)

pub returns-in-Err-clause-extends : goal.returns-in-Err-clause-extends
returns-in-Err-clause-extends g c =
    subst (Extends c.args.symbols.now)
    (sym (names_cut c.args.symbols.now c.gather_one-gathered.new.symbols c.forget-in-Err.new.symbols c.len-names.result c.in-Err.ensures.extends c.len-names.ensures.value c.forget-in-Err.ensures.names))
    (extends_same c.args.symbols.now)

files_cut : (old new kept : List (ℕ × Answer)) (len : ℕ) → GoesOn old new → len ≡ length old → kept ≡ take len new → kept ≡ old
files_cut old new kept len g n e = e ∙ (λ i. take (n i) (g.is i)) ∙ take-append_seam old g.more

pub returns-in-Err-clause-behind : goal.returns-in-Err-clause-behind
returns-in-Err-clause-behind g c =
    let same =
    files_cut c.self.inside.files c.gather_one-gathered.new.files c.forget-in-Err.new.self c.len-files.result c.in-Err.ensures.behind c.len-files.ensures.count
    c.forget-in-Err.ensures.files ∙ c.self.view_is in
    subst (GoesOn c.args.self.now) (sym same) (behind_same c.args.self.now)
