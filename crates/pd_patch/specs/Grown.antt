-- What the growth of a patch gives, and why it is refused.
use Rattle.std.specs.Prelude.{◌≡◌, ◌<◌, ◌≤◌, ◌+◌, ◌^◌, ℕ, List, [], length, Some, None, IsSome}
use Rattle.slab.specs.Slab.{get}
use Rattle.pd_atom.specs.Names.{Names}
use Rattle.pd_clock.specs.declared.times.Rate.{Rate}
use Rattle.pd_name.specs.declared.Class.{Class}
use Rattle.pd_name.specs.Rows.{owners_of}
use Rattle.pd_tree.specs.Trees.{Tree}
use Rattle.pd_fit.specs.Fitting.{wires_fitting}
use Rattle.pd_growth.specs.declared.growing.Stop.{Stop}
use Rattle.pd_growth.specs.declared.growing.Stop.TheVariants as stop
use Rattle.pd_growth.specs.Steps.{Stock, Step, gives, ends}
use Rattle.pd_grove.specs.declared.grove.Grove.{Grove}
use Rattle.pd_grove.specs.declared.ports.Side.{Side}
use Rattle.pd_grove.specs.Standing.{GroveStands, NodesOf}
use Rattle.pd_grove.specs.States.{NodesFresh}
use Rattle.pd_grove.specs.Owning.{AreOwn}
use Rattle.pd_grove.specs.Forest.{IsForest}
use Rattle.pd_grove.specs.TextOrder.{deep}
use Rattle.pd_bind.specs.Owning.{owners_in, root_owner}
use Rattle.pd_web.specs.declared.web.Web.{Web}
use Rattle.pd_web.specs.Jacks.{jacks_at, made_in, KindsSmall}
use Rattle.pd_web.specs.Sockets.{made_at}
use Rattle.pd_web.specs.Lines.{all_lines, fed_from, feeding}
use Rattle.pd_web.specs.Hops.{ports_told, fan_hops, feed_hops, places_of, port_told}
use Rattle.pd_web.specs.Changes.{Meet, wires_told}
use Rattle.pd_web.specs.Homes.{IsPortOf}
use Rattle.pd_web.specs.Canvases.{keys_at}
use Rattle.pd_patch.specs.declared.patch.Patch.{Patch}
use Rattle.pd_patch.specs.declared.refusal.GrowRefusal.{GrowRefusal}
use Rattle.pd_patch.specs.declared.refusal.GrowRefusal.TheVariants.{SymbolsFull, TooManyBoxes, TooManyWires, TooMuchSound, NoMemory}
use Rattle.pd_patch.specs.Fed.{AreFed}
use Rattle.pd_patch.specs.Numbers.{AreUnder}
use Rattle.pd_patch.specs.Linked.{HasLinks}
use Rattle.pd_patch.specs.Orders.{AreOrdered}
use Rattle.pd_patch.specs.Sounds.{sound_of}
use Rattle.pd_patch.specs.Values.{AreSilent, HasNoOthers, blocks_told}
use Rattle.pd_patch.specs.Wired.{IsWired}

-- Each box has its ports, and the wires are those that fit, no more in number: of each outlet and to each inlet, in the order of their canvas. Each
-- wire stands at both of its ports.
pub record AreLaid (g : Grove) (w : Web) : Type 0 where
  pub ports : (side : Side) (k : ℕ) → ports_told w side k ≡ jacks_at side g k
  pub made : (k : ℕ) → made_at w.sockets.items k ≡ made_in (get g.nodes k)
  pub fans : (k outlet : ℕ) → places_of (fan_hops w k outlet) ≡ fed_from k outlet (all_lines g)
  pub feeds : (k inlet : ℕ) → places_of (feed_hops w k inlet) ≡ feeding k inlet (all_lines g)
  pub homes : (j k i : ℕ) → port_told w j ≡ Some (k, i) → IsPortOf g j k i
  pub homes_found : (j k i : ℕ) → IsPortOf g j k i → IsSome (port_told w j)
  pub counted : wires_told w ≡ length (all_lines g)
  pub few : length (all_lines g) ≤ 65536
  pub meet : Meet w

-- What a patch has whose tree was just planted: boxes that lie in one canvas each, with keys below 2^32; its wires, each once among those of its
-- inlet; under each name its owners, in text order; its signal wires as links; the signal order of each canvas; each box's number; no clock, and room for one of each box; and of each box the first state and,
-- where it has signal outlets, a silent block for each outlet. No key but a box's has a block.
pub record IsFresh (p : Patch) (names : Names) (file : List ℕ) (rate : Rate) : Type 0 where
  pub own : AreOwn (get p.grove.nodes) (get p.grove.boards)
  pub keys : (k : ℕ) → IsSome (get p.grove.nodes k) → k < 2 ^ 32
  pub wires : AreLaid p.grove p.web
  pub fed : AreFed p.web
  pub owners : (class : Class) (name : ℕ) → owners_of p.names class name ≡ owners_in names file p.grove class name
  pub apart : get p.grove.nodes root_owner ≡ None
  pub linked : HasLinks p.web p.links
  pub orders : AreOrdered p.grove p.web p.orders.items
  pub numbers : (c : ℕ) → AreUnder p.numbers.items (keys_at p.grove c)
  pub clocks : p.timers.clocks.clocks ≡ []
  pub room : (k : ℕ) → IsSome (get p.grove.nodes k) → k < p.timers.end
  pub states : NodesFresh rate 0 (get p.grove.nodes)
  pub blocks : AreSilent p.grove p.web (blocks_told p)
  pub no_others : HasNoOthers p.grove (blocks_told p)
  pub same_rate : p.rate ≡ rate

-- growth gives a tree, with these names after it
pub record Gives (s : Step Tree) (names : Names) (t : Tree) : Type 0 where
  pub after : Stock
  pub step : s ≡ gives t after
  pub table : names ≡ after.names

-- The tree stands that growth gives, with its wires, and each box is one of that tree. With the root at most 256 canvases lie in one
-- another. Boxes and canvases name each other as in one tree, and every box has a kind with no more ports than a text can give it. No more
-- wires fit, and no more sound is in it, than there may be.
pub record IsTree (p : Patch) (names : Names) (rate : Rate) (s : Step Tree) : Type 0 where
  pub tree : Tree
  pub given : Gives s names tree
  pub stands : GroveStands p.grove tree.sheet tree.boxes
  pub of_tree : NodesOf tree.boxes (get p.grove.nodes)
  pub forest : IsForest (get p.grove.nodes) (get p.grove.boards) p.grove.root
  pub small : KindsSmall p.grove
  pub shallow : deep tree.boxes + 1 ≤ 256
  pub wired : IsWired p.grove p.web tree
  pub few_wires : wires_fitting tree.sheet tree.boxes ≤ 65536
  pub few_values : sound_of rate tree.boxes ≤ 16777216

-- growth ends so
pub record Ends (s : Step Tree) (e : Stop) : Type 0 where
  pub after : Stock
  pub step : s ≡ ends e after

-- of the tree that growth gives more wires fit than a patch may have
pub record HasManyWires (s : Step Tree) : Type 0 where
  pub tree : Tree
  pub after : Stock
  pub step : s ≡ gives tree after
  pub many : 65536 < wires_fitting tree.sheet tree.boxes

-- of the tree that growth gives so many wires fit as may, and more sound is in it than there may be
pub record HasMuchSound (s : Step Tree) (rate : Rate) : Type 0 where
  pub tree : Tree
  pub after : Stock
  pub step : s ≡ gives tree after
  pub few_wires : wires_fitting tree.sheet tree.boxes ≤ 65536
  pub much : 16777216 < sound_of rate tree.boxes

-- the cause of a refusal
abbrev pub HasCause : GrowRefusal → Step Tree → Rate → Type 0
HasCause SymbolsFull s rate = Ends s stop.SymbolsFull
HasCause TooManyBoxes s rate = Ends s stop.TooManyBoxes
HasCause TooManyWires s rate = HasManyWires s
HasCause TooMuchSound s rate = HasMuchSound s rate
HasCause NoMemory s rate = Unit {0}
