-- A box that comes last has as its number how many there were.
use Rattle.std.proofs.Common.{ℕ, List, length, drop, sym, subst, arith}
use Rattle.slab.specs.Slab.{get}
use Rattle.pd_grove.specs.declared.grove.Grove.{Grove}
use Rattle.pd_grove.specs.Grafts.{HasPartMore}
use Rattle.pd_web.specs.Canvases.{keys_at}
use Rattle.pd_putting_law.specs.Putting.{HasBoxAt, HasBoxLast}
use Rattle.pd_putting_law.proofs.ListLemmas.{all_before, none_behind}

pub last_at : (g h : Grove) (path : List ℕ) (canvas key : ℕ) → HasBoxLast g h path canvas key → HasBoxAt g h path canvas key (length (keys_at g canvas))
last_at g h path canvas key B =
    let keys = keys_at g canvas in
    let n = length keys in
    record {
      forest = B.forest;
      leads = B.leads;
      part = subst (λ (l : List ℕ). HasPartMore (get g.nodes) (get h.nodes) (get g.boards) (get h.boards) canvas key l (drop n keys)) (sym (all_before keys))
          (subst (λ (l : List ℕ). HasPartMore (get g.nodes) (get h.nodes) (get g.boards) (get h.boards) canvas key keys l) (sym (none_behind keys)) B.part);
      within = omega arith;
      root = B.root;
    }
