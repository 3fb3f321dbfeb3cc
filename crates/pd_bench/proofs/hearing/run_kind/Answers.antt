use Rattle.std.proofs.Common.{subst, sym}
use Rattle.pd_clock.specs.declared.times.Rate.TheVariants.{R44100}
use Rattle.pd_glue.specs.Rows.{IsSmall}
use Rattle.pd_bench.proofs.hearing.run_kind.Goals as goal

pub least-requires-clause-small : goal.least-requires-clause-small
least-requires-clause-small g c =
    subst (λ s. IsSmall c.in_ok-symbols.symbols c.args.kind.now s) (sym c.in_ok-state.ensures)
    (c.starts_small.ensures c.in_ok-symbols.symbols c.args.kind.now R44100 c.requires.small (c.requires.texts c.in_ok-symbols.symbols))
