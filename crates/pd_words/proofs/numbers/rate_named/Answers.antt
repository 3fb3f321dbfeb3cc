use Rattle.std.proofs.Common.{◌≡◌, ◌∙◌, true, sym, ◌^◌, nat_lt}
use Rattle.pd_words.proofs.NumberLemmas.{rate-read}
use Rattle.pd_words.proofs.numbers.rate_named.Goals as goal

pub returns : goal.returns
returns c = rate-read (λ n. nat_lt n (2 ^ 32)) c.args.text.now c.in_ok-number_of.field-0 c.of_hz.result c.in_ok-number_of.ensures c.of_hz.ensures.known c.of_hz.ensures.unknown
