use Rattle.std.proofs.Common.{sym, ◌∙◌}
use Rattle.pd_boxes.proofs.BuiltLemmas.{still_put, runs_on}
use Rattle.pd_boxes.proofs.laws.patches_run_on.Goals as goal

pub returns-clause-can : goal.returns-clause-can
returns-clause-can c = λ p q table place s key P leaf I N. still_put p q table place s key I.comes P.forest P.runs I.order I.other_orders N leaf.small P.small P.apart

pub returns-clause-built : goal.returns-clause-built
returns-clause-built c = λ p q table place s key P I N file rate b. runs_on p q table place s key I.comes P.forest P.runs I.order I.other_orders N file rate b

pub returns-clause-names : goal.returns-clause-names
returns-clause-names c = λ p table more file rate b same. record {
  own = b.own;
  keys = b.keys;
  ports = b.ports;
  owners = λ class name. b.owners class name ∙ sym (same class name);
  apart = b.apart;
  inside = b.inside;
  linked = b.linked;
  orders = b.orders;
  numbers = b.numbers;
  blocks = b.blocks;
  no_others = b.no_others;
  room = b.room;
  same_rate = b.same_rate;
}
