use Rattle.std.proofs.Common.{subst, sym}
use Rattle.pd_clock.specs.declared.times.Rate.TheVariants.{R44100}
use Rattle.pd_glue.specs.Rows.{IsSmall}
use Rattle.pd_cases.proofs.hearing.said_by_new.Goals as goal

pub take_all-requires : goal.take_all-requires
take_all-requires c =
    let names = c.args.symbols.now in
    let kind = c.args.kind.now in
    record {
      small = subst (λ s. IsSmall names kind s) (sym c.in_ok-state.ensures) (c.starts_small.ensures names kind R44100 c.requires.small (c.requires.texts names));
    }
