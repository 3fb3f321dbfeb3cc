-- A box that comes into a canvas of the patch's own document, with all that lies in it.
use Rattle.std.proofs.Common.{◌≡◌, ◌≢◌, ◌≤◌, ℕ, List, [], ◌∷◌, ◌++◌, length, take, drop, slice_get, Some, None, IsSome, ap}
use Rattle.slab.specs.Slab.{get}
use Rattle.pd_tree.specs.Trees.{Tree}
use Rattle.pd_grove.specs.declared.ports.Side.{Side}
use Rattle.pd_grove.specs.Grafts.{HasPartMore}
use Rattle.pd_grove.specs.OwnPaths.{sub_in, sub_reached}
use Rattle.pd_grove.specs.Places.{CanvasStands}
use Rattle.pd_grove.specs.Telling.{keys_in}
use Rattle.pd_web.specs.Canvases.{keys_at, HoldersAreNoPorts}
use Rattle.pd_web.specs.Changes.{Meet}
use Rattle.pd_web.specs.Hops.{ports_told, fan_hops, feed_hops, places_of}
use Rattle.pd_web.specs.Jacks.{jacks_at, made_in}
use Rattle.pd_web.specs.Lines.{fed_from, feeding, lines_at}
use Rattle.pd_web.specs.Sockets.{made_at}
use Rattle.pd_ports.specs.Boxes.{HasNoWires}
use Rattle.pd_patch.specs.declared.patch.Patch.{Patch}
use Rattle.pd_boxes.specs.Put.{CanPut}
use Rattle.pd_saved_law.proofs.EditLemmas.{stays_among}
use Rattle.pd_reload_law.specs.Wires.{AreNumbered}
use Rattle.pd_alike_law.specs.Feeds.{FedOnce}
use Rattle.pd_putting_law.specs.Putting.{HasBoxAt, KeepsWires}
use Rattle.pd_putting_law.proofs.PathLemmas.{Forest}

-- the boxes that were there have the ports and the wires that they had
pub record BoxesStay (p q : Patch) : Type 0 where
  pub ports : (side : Side) (k : ℕ) → IsSome (get p.grove.nodes k) → ports_told q.web side k ≡ ports_told p.web side k
  pub made : (k : ℕ) → IsSome (get p.grove.nodes k) → made_at q.web.sockets.items k ≡ made_at p.web.sockets.items k
  pub fans : (k outlet : ℕ) → IsSome (get p.grove.nodes k) → fan_hops q.web k outlet ≡ fan_hops p.web k outlet
  pub feeds : (k inlet : ℕ) → IsSome (get p.grove.nodes k) → feed_hops q.web k inlet ≡ feed_hops p.web k inlet

-- the boxes of each canvas that came have their ports, and the wires of its sheet that fit
pub record IsLaid (p q : Patch) : Type 0 where
  pub ports : (side : Side) (d i k : ℕ) → get p.grove.boards d ≡ None → slice_get (keys_at q.grove d) i ≡ Some k → ports_told q.web side k ≡ jacks_at side q.grove k
  pub made : (d i k : ℕ) → get p.grove.boards d ≡ None → slice_get (keys_at q.grove d) i ≡ Some k → made_at q.web.sockets.items k ≡ made_in (get q.grove.nodes k)
  pub fans : (d i k outlet : ℕ) → get p.grove.boards d ≡ None → slice_get (keys_at q.grove d) i ≡ Some k
      → places_of (fan_hops q.web k outlet) ≡ fed_from k outlet (lines_at q.grove d)
  pub feeds : (d i k inlet : ℕ) → get p.grove.boards d ≡ None → slice_get (keys_at q.grove d) i ≡ Some k
      → places_of (feed_hops q.web k inlet) ≡ feeding k inlet (lines_at q.grove d)
  pub bare : (d i k : ℕ) (u : Tree) → get p.grove.boards d ≡ None → slice_get (keys_at q.grove d) i ≡ Some k → CanvasStands q.grove d u → HoldersAreNoPorts u.boxes

-- A box, under a key that had none, at a number of a canvas of the patch's own document, with all that lies in it. It has no wires, and where it is
-- a subpatch no boxes.
pub record ComesWhole (p q : Patch) (path : List ℕ) (c key number : ℕ) : Type 0 where
  pub can : CanPut p
  pub forest : Forest q.grove
  pub numbered : (d : ℕ) → AreNumbered q.numbers.items (keys_at q.grove d)
  pub leads : sub_reached p.grove (Some p.grove.root) path ≡ Some c
  pub part : HasPartMore (get p.grove.nodes) (get q.grove.nodes) (get p.grove.boards) (get q.grove.boards) c key (take number (keys_at p.grove c)) (drop number (keys_at p.grove c))
  pub within : number ≤ length (keys_at p.grove c)
  pub root : q.grove.root ≡ p.grove.root
  pub own : (d : ℕ) → sub_in (get q.grove.nodes key) ≡ Some d → keys_at q.grove d ≡ []
  pub stays : BoxesStay p q
  pub bare : HasNoWires q.web key
  pub laid : IsLaid p q
  pub fed : FedOnce p.web → FedOnce q.web
  pub meet : Meet p.web → Meet q.web

module _ (p q : Patch) (path : List ℕ) (c key number : ℕ) (C : ComesWhole p q path c key number) where
  pub keys_more : keys_at q.grove c ≡ take number (keys_at p.grove c) ++ key ∷ drop number (keys_at p.grove c)
  keys_more = C.part.has

  pub keys_stay : (d : ℕ) → d ≢ c → IsSome (get p.grove.boards d) → keys_at q.grove d ≡ keys_at p.grove d
  keys_stay d apart live = ap keys_in (C.part.canvases_stay d apart live)

  pub keeps : KeepsWires p.grove q.grove p.web q.web p.numbers.items q.numbers.items key
  keeps = record {
    inside = λ d. stays_among p d C.can.runs;
    fans = C.stays.fans;
    bare = C.bare.fans;
    numbered = C.can.runs.numbers;
    renumbered = C.numbered;
  }

  pub comes_at : HasBoxAt p.grove q.grove path c key number
  comes_at = record { forest = C.can.forest; leads = C.leads; part = C.part; within = C.within; root = C.root }
