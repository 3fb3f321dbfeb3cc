use Rattle.std.proofs.Common.{refl}
use Rattle.pd_grove.specs.Refits.{at_place, with_text}
use Rattle.pd_owning.proofs.ListLemmas.{all_kept_none}
use Rattle.pd_owning.proofs.FollowLemmas.{owners_stay}
use Rattle.pd_owning.proofs.AlterLemmas.{owners_alike}
use Rattle.pd_owning.proofs.laws.owners_follow_boxes.Goals as goal

pub returns-clause-less : goal.returns-clause-less
returns-clause-less c = λ old new l k n before behind away F apart root T A table file class name. owners_stay old new l k n before behind away F apart root T A table file class name

pub returns-clause-text : goal.returns-clause-text
returns-clause-text c = λ old new k written text A table file away class name.
    owners_alike old new k (with_text written text) (record { inner = λ n. refl; form = λ n. refl }) A table file away class name

pub returns-clause-place : goal.returns-clause-place
returns-clause-place c = λ old new k x y A table file away class name.
    owners_alike old new k (at_place x y) (record { inner = λ n. refl; form = λ n. refl }) A table file away class name

pub returns-clause-all : goal.returns-clause-all
returns-clause-all c = λ keys. all_kept_none keys
