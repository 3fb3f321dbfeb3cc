-- A grove with a box lent: what shows that its labels rise makes it no other grove.
use borrow.Follows.Closed.{read_of}
use base.Fml.{GName}
use mathlib.Core.Option.{Option as Name}
use Rattle.std.proofs.Common.{◌≡◌, ℕ, ◌<◌, List, Option, length, ap}
use Rattle.std.proofs.Props.{props}
use Rattle.slab.specs.Slab.{Slab, get}
use Rattle.pd_label.specs.Labels.{label_of}
use Rattle.pd_grove.specs.declared.nodes.Node.{Node}
use Rattle.pd_grove.specs.declared.boards.Board.{Board}
use Rattle.pd_grove.specs.declared.grove.Grove.{Grove}
use Rattle.pd_grove.specs.Keys.{AreLabelled}

less_prop : (m n : ℕ) → IsProp (m < n)
less_prop m n = Prim.hlevel props

labelled_once : (labels : List ℕ) (boards : ℕ → Option Board) (p q : AreLabelled labels boards) → p ≡ q
labelled_once labels boards p q = λ t. record {
  reach = λ c i k at. less_prop k (length labels) (p.reach c i k at) (q.reach c i k at) t;
  rise = λ c i j a b l at bt. less_prop (label_of labels a) (label_of labels b) (p.rise c i j a b l at bt) (q.rise c i j a b l at bt) t;
}

abbrev made : (nodes : Slab Node) (boards : Slab Board) (labels : List ℕ) (root : ℕ) → AreLabelled labels (get boards) → Grove
made nodes boards labels root p = record { nodes = nodes; boards = boards; labels = labels; root = root; labelled = p }

pub one_grove : (nodes : Slab Node) (boards : Slab Board) (labels : List ℕ) (root : ℕ) (p q : AreLabelled labels (get boards)) → made nodes boards labels root p ≡ made nodes boards labels root q
one_grove nodes boards labels root p q = ap (made nodes boards labels root) (labelled_once labels (get boards) p q)

-- what is read under a name, of values that are the same
pub read_alike : {A B : Type 0} (name : Name GName) (f g : A → B) (u v : B) → ((w : A) → f w ≡ g w) → u ≡ v → read_of name f u ≡ read_of name g v
read_alike name f g u v e h = λ t. read_of name (λ w. e w t) (h t)
