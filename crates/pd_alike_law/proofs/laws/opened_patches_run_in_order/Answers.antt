use Rattle.pd_alike_law.proofs.OrderLemmas.{opened_orders}
use Rattle.pd_alike_law.proofs.laws.opened_patches_run_in_order.Goals as goal

pub returns : goal.returns
returns c = opened_orders
