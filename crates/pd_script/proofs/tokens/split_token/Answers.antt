use Rattle.pd_script.proofs.TokenLemmas.{split_is}
use Rattle.pd_script.proofs.tokens.split_token.Goals as goal

pub returns : goal.returns
returns c = split_is c.args.body.now c.in_ok-token.token c.in_ok-token.ensures
