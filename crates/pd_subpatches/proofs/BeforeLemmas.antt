-- A box came with an empty canvas inside: the patch as the box alone had come, before it got its canvas.
use Rattle.std.proofs.Common.{◌≡◌, ◌≢◌, ℕ, false, List, replicate, Some, None, inr, refl, sym, ap, ◌∙◌, subst}
use mathlib.Core.Logic.{⊎_elim}
use Rattle.std.proofs.lemmas.Bool.{cases_eq}
use Rattle.slab.specs.Slab.{get}
use Rattle.pd_atom.specs.Names.{Names}
use Rattle.pd_kind.specs.States.{silent_block}
use Rattle.pd_object.specs.declared.kinds.Kind.{Kind}
use Rattle.pd_object.specs.declared.kinds.Kind.TheVariants as kind
use Rattle.pd_tree.specs.Ports.{is_made}
use Rattle.pd_grove.specs.declared.nodes.Node.{Node}
use Rattle.pd_grove.specs.declared.seeds.Seed.{Seed}
use Rattle.pd_grove.specs.declared.ports.Side.{Side}
use Rattle.pd_grove.specs.declared.ports.Side.TheVariants.{Inlets, Outlets}
use Rattle.pd_grove.specs.Forest.{IsForest}
use Rattle.pd_grove.specs.Grafts.{HasBoxMore, HasCanvasMore}
use Rattle.pd_grove.specs.Ports.{port_signal}
use Rattle.pd_grove.proofs.GraftLemmas.{is_some}
use Rattle.pd_web.specs.declared.jacks.Jack.{Jack}
use Rattle.pd_web.specs.Canvases.{keys_at}
use Rattle.pd_web.specs.Jacks.{kind_jacks}
use Rattle.pd_ports.specs.Boxes.{HasPorts}
use Rattle.pd_patch.specs.declared.patch.Patch.{Patch}
use Rattle.pd_patch.specs.Numbers.{AreUnder, IsOut}
use Rattle.pd_patch.specs.Orders.{is_signal, is_signal_node}
use Rattle.pd_patch.specs.Telling.{order_in}
use Rattle.pd_patch.specs.Values.{block_count}
use Rattle.pd_wiring.specs.Changes.{CanRewire}
use Rattle.pd_wiring.specs.Graphs.{canvas_graph, signal_boxes, HasOrderBy, AreOrderedBy}
use Rattle.pd_wiring.proofs.GraphLemmas.{ordered_by_wires}
use Rattle.pd_placing.specs.Placing.{AreOrderedBut}
use Rattle.pd_placing.proofs.GroveLemmas.{live_order, none_silent, none_lacks}
use Rattle.pd_boxes.specs.declared.room.Place.{Place}
use Rattle.pd_boxes.specs.Put.{node_of, keys_before, keys_behind, ComesIn, IsNoPort, IsPut}
use Rattle.pd_boxes.proofs.BuiltLemmas.{still_wired}
use Rattle.pd_boxes.proofs.SignalLemmas.{lacks_box}
use Rattle.pd_subpatches.specs.Shell.{ShellComesIn}
use Rattle.pd_subpatches.proofs.OpenedLemmas.{between, canvas_came, box_came, no_ports_of, keys_kept, owners_kept}

-- a canvas box is no port
pub no_port : (k : Kind) → k ≡ kind.Canvas → (side : Side) → port_signal side k ≡ None
no_port k e Inlets = ap (port_signal Inlets) e
no_port k e Outlets = ap (port_signal Outlets) e

abbrev pub patch_between : Patch → Patch → ℕ → ℕ → Node → Patch
patch_between p q k j n = record q { grove = between q.grove k j n; orders = p.orders }

module _ (p q : Patch) (table : Names) (place : Place) (s : Seed) (key : ℕ) (C : ShellComesIn p q table place s key) (plain : s.row.kind ≡ kind.Canvas) where
  abbrev pub before : Patch
  before = patch_between p q key C.canvas (node_of place.canvas s)

  pub opened : HasCanvasMore (get before.grove.nodes) (get q.grove.nodes) (get before.grove.boards) (get q.grove.boards) key C.canvas (node_of place.canvas s) C.board
  opened = canvas_came (get p.grove.nodes) (get p.grove.boards) q.grove place.canvas key C.canvas (node_of place.canvas s) C.board (keys_before p place) (keys_behind p place) C.grove

  pub came : HasBoxMore (get p.grove.nodes) (get before.grove.nodes) (get p.grove.boards) (get before.grove.boards) place.canvas key (node_of place.canvas s) (keys_before p place) (keys_behind p place)
  came = box_came (get p.grove.nodes) (get p.grove.boards) q.grove place.canvas key C.canvas (node_of place.canvas s) C.board (keys_before p place) (keys_behind p place) C.grove

  pub same_keys : (x : ℕ) → keys_at q.grove x ≡ keys_at before.grove x
  same_keys = keys_kept before.grove q.grove key C.canvas (node_of place.canvas s) C.board opened

  ports : HasPorts p.web q.web key (λ side. kind_jacks side s.row.kind) (is_made s.row.kind)
  ports = record {
    ports = λ side. C.ports.ports side ∙ sym (ap (kind_jacks side) plain ∙ no_ports_of side);
    made = C.ports.made ∙ sym (ap is_made plain);
    other_ports = C.ports.other_ports;
    others_made = C.ports.others_made;
    lines = C.ports.lines;
    fans = C.ports.fans;
    feeds = C.ports.feeds;
  }

  -- the box alone came in as one without a canvas
  pub comes : ComesIn p before table place s key
  comes = record {
    grove = came;
    root = C.root;
    ports = ports;
    homes = C.homes;
    owners = λ file was class name. C.owners file was class name
        ∙ owners_kept before.grove q.grove key C.canvas (node_of place.canvas s) C.board opened refl table file class name;
    other_owners = C.other_owners;
    links = C.links;
    numbers = subst (λ (ks : List ℕ). AreUnder q.numbers.items ks) (same_keys place.canvas) C.numbers;
    other_numbers = λ k out. C.other_numbers k (subst (λ (ks : List ℕ). IsOut ks k) (sym (same_keys place.canvas)) out);
    blocks = record {
      is = C.blocks.is ∙ ap (λ (js : List Jack). Some (replicate (block_count js) silent_block)) (sym (C.ports.ports Outlets));
      others = C.blocks.others;
    };
    clocks = C.clocks;
    clock_room = C.clock_room;
    low = C.low;
    rate = C.rate;
    present = C.present;
  }

  pub none : IsNoPort p place s.row.kind
  none = inr (no_port s.row.kind plain)

  silent : is_signal_node (get before.grove.nodes key) ≡ false
  silent = ap is_signal_node came.is ∙ ap is_signal plain

  module _ (F : IsForest (get p.grove.nodes) (get p.grove.boards) p.grove.root) (R : CanRewire p) where
    -- in the order of its canvas the box alone has no part
    ordered : AreOrderedBy before.grove q.links p.orders.items
    ordered d = ⊎_elim
        (λ (e : d ≡ place.canvas). subst (λ (x : ℕ). OrderedAt x) (sym e) here)
        (λ (f : d ≢ place.canvas). but.others d f)
        (cases_eq d place.canvas)
      where
        but : AreOrderedBut before.grove q.links p.orders.items place.canvas key
        but = lacks_box p before table place s key comes F R

        OrderedAt : ℕ → Type 0
        OrderedAt x = HasOrderBy (canvas_graph before.grove q.links x) (signal_boxes before.grove x) (get before.grove.boards x) (order_in p.orders.items x)

        here : OrderedAt place.canvas
        here = live_order (canvas_graph before.grove q.links place.canvas) (signal_boxes before.grove place.canvas) (get before.grove.boards place.canvas) (order_in p.orders.items place.canvas)
            (is_some (get before.grove.boards place.canvas) came.keys.after came.keys.is)
            (none_lacks before.grove q.links place.canvas key p.orders.items (none_silent before.grove place.canvas key silent) but.lacks)

    pub put : IsPut p before table place s key
    put = record {
      comes = comes;
      order = ordered_by_wires before.grove q.web q.links (still_wired p before table place s key comes F R none) p.orders.items ordered place.canvas;
      other_orders = λ d f. refl;
    }
