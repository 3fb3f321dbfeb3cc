use Rattle.std.proofs.Common.{map, string_bytes, refl}
use Rattle.pd_play.proofs.PatchLemmas.{asked_plays, words_told}
use Rattle.pd_play.proofs.WordLemmas.{asked_few, some_asked, asked_if, always_if}
use Rattle.pd_play.proofs.player.play.Goals as goal

pub play_asked-requires-clause-few : goal.play_asked-requires-clause-few
play_asked-requires-clause-few g c = asked_few (map (λ w. string_bytes w) c.args.words.now) c.in-Ok-Some.asked (rw c.in-Ok-Some.field-0-is at c.in-Ok-Some.ensures.value)

pub returns-in-Ok-Some-clause-usage : goal.returns-in-Ok-Some-clause-usage
returns-in-Ok-Some-clause-usage g c = λ e. absurd (c.play_asked.ensures.usage e)

pub returns-in-Ok-Some-clause-unplayed : goal.returns-in-Ok-Some-clause-unplayed
returns-in-Ok-Some-clause-unplayed g c = λ e. absurd (some_asked _ c.in-Ok-Some.asked (rw c.in-Ok-Some.field-0-is at c.in-Ok-Some.ensures.value) e)

pub returns-in-Ok-Some-clause-untouched : goal.returns-in-Ok-Some-clause-untouched
returns-in-Ok-Some-clause-untouched g c = λ e. absurd (some_asked _ c.in-Ok-Some.asked (rw c.in-Ok-Some.field-0-is at c.in-Ok-Some.ensures.value) e)

pub returns-in-Ok-Some-clause-unread : goal.returns-in-Ok-Some-clause-unread
returns-in-Ok-Some-clause-unread g c = asked_if _ c.in-Ok-Some.asked _ (rw c.in-Ok-Some.field-0-is at c.in-Ok-Some.ensures.value) c.play_asked.ensures.unread

pub returns-in-Ok-Some-clause-plays : goal.returns-in-Ok-Some-clause-plays
returns-in-Ok-Some-clause-plays g c =
    asked_plays _ c.in-Ok-Some.asked _ _ _ _ _ _ _ _ _ (rw c.in-Ok-Some.field-0-is at c.in-Ok-Some.ensures.value) c.play_asked.ensures.plays

pub returns-in-Err-clause-unread : goal.returns-in-Err-clause-unread
returns-in-Err-clause-unread g c = always_if _ _ refl

pub returns-in-Err-clause-plays : goal.returns-in-Err-clause-plays
returns-in-Err-clause-plays g c = words_told _ _ _ _ _ _ _ _ c.tell-in-Err.ensures.answer
