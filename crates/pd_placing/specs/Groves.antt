-- What the order of a canvas sees of two groves.
use Rattle.std.specs.Prelude.{◌≡◌, ℕ}
use Rattle.slab.specs.Slab.{get}
use Rattle.pd_order.specs.Graph.{take_out}
use Rattle.pd_grove.specs.declared.grove.Grove.{Grove}
use Rattle.pd_grove.specs.Owning.{AreOwn}
use Rattle.pd_web.specs.Canvases.{keys_at}
use Rattle.pd_patch.specs.Listing.{IsThere}
use Rattle.pd_patch.specs.Orders.{is_signal_node}

-- in both groves each box of a canvas lies in it
pub record AreBothOwn (g h : Grove) : Type 0 where
  pub one : AreOwn (get g.nodes) (get g.boards)
  pub other : AreOwn (get h.nodes) (get h.boards)

-- The canvas c has the same boxes in the same order, whatever their labels, and the same of them are signal boxes: all of this but for the box k.
pub record IsAlikeBut (g h : Grove) (c k : ℕ) : Type 0 where
  pub keys : take_out k (keys_at h c) ≡ take_out k (keys_at g c)
  pub signal : (x : ℕ) → IsThere (take_out k (keys_at g c)) x → is_signal_node (get h.nodes x) ≡ is_signal_node (get g.nodes x)

-- and so for the box k
pub record IsAlike (g h : Grove) (c : ℕ) : Type 0 where
  pub keys : keys_at h c ≡ keys_at g c
  pub signal : (x : ℕ) → IsThere (keys_at g c) x → is_signal_node (get h.nodes x) ≡ is_signal_node (get g.nodes x)
