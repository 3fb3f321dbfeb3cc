use Rattle.pd_shift_law.proofs.InsideLemmas.{as_many_wires, same_zero, still_fit, still_meet}
use Rattle.pd_shift_law.proofs.laws.wires_follow_moves.Goals as goal

pub returns-clause-wires : goal.returns-clause-wires
returns-clause-wires c = λ old new path number x y b M. as_many_wires old new path number x y b M

pub returns-clause-meet : goal.returns-clause-meet
returns-clause-meet c = λ old new path number x y b M meet. still_meet old new path number x y b M meet

pub returns-clause-fit : goal.returns-clause-fit
returns-clause-fit c = λ old new path number x y b M F. still_fit old new path number x y b M F

pub returns-clause-zero : goal.returns-clause-zero
returns-clause-zero c = λ old new path number x y b M. same_zero old new path number x y b M
