use Rattle.std.proofs.Common.{map, string_bytes}
use Rattle.pd_play.proofs.WordLemmas.{words_few}
use Rattle.pd_faithful.proofs.AskedLemmas.{asked_freely}
use Rattle.pd_faithful.proofs.CompleteLemmas.{completes}
use Rattle.pd_faithful.proofs.player.play.Goals as goal

pub returns-clause-plays : goal.returns-clause-plays
returns-clause-plays g c = asked_freely _ _ _ _ _ _ _ _ _ (λ name rate h. c.play_passes_nothing_over.ensures.opened name rate _ _ _ _ _ _ _ h) (λ n name rate rest h. c.play_passes_nothing_over.ensures.made n name rate _ rest _ _ h) _ c.play.ensures.plays

pub returns-clause-completes : goal.returns-clause-completes
returns-clause-completes g c =
    completes _ (record {
      records = c.made_scripts_are_commands.ensures.records;
      cuts = c.made_scripts_are_commands.ensures.cuts;
      joins = c.made_scripts_are_commands.ensures.joins;
      ends = c.made_scripts_are_commands.ensures.ends;
      grows = c.made_patches_grow.ensures;
    }) (words_few (map (λ w. string_bytes w) c.args.words.now)) _ _ _ _ _ _ _ _ _ _ _ _ _
    (asked_freely _ _ _ _ _ _ _ _ _ (λ name rate h. c.play_passes_nothing_over.ensures.opened name rate _ _ _ _ _ _ _ h) (λ n name rate rest h. c.play_passes_nothing_over.ensures.made n name rate _ rest _ _ h) _ c.play.ensures.plays) c.play.ensures.causes
