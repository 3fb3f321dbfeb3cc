use Rattle.pd_owning.proofs.order.+leads.Given as goal

abbrev pub decreases-leads : goal.decreases-leads
decreases-leads l = l.canvases
