use Rattle.std.proofs.Common.{◌≡◌, ◌∙◌, true, sym}
use Rattle.pd_words.specs.Grammar.{is_number}
use Rattle.pd_words.proofs.NumberLemmas.{number-read}
use Rattle.pd_words.proofs.numbers.number_of.Goals as goal

pub returns : goal.returns
returns c =
    let digits : is_number c.args.text.now ≡ true = sym c.is_number.ensures ∙ c.if-not-is_number.false in
    c.ok.ensures.value ∙ number-read c.args.text.now c.parse.result digits c.parse.ensures.value.0
