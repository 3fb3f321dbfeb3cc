use Rattle.pd_putting_law.proofs.NewLemmas.{new_saved, new_stands, new_written}
use Rattle.pd_putting_law.proofs.laws.new_boxes_are_saved.Goals as goal

pub returns-clause-saved : goal.returns-clause-saved
returns-clause-saved c = λ g canvas d key new e S n k. new_saved g canvas d key new e S n k

pub returns-clause-written : goal.returns-clause-written
returns-clause-written c = λ g h path canvas key number d new rate now e B f S m n t k.
    new_written h canvas d key new e rate now S (λ x is. f key x B.part.vacant is) m n t k

pub returns-clause-stands : goal.returns-clause-stands
returns-clause-stands c = λ g h path canvas key number d web numbers new rate now B f S m n t.
    new_stands h canvas d key web numbers new rate now S (λ x is. f key x B.part.vacant is) m n t
