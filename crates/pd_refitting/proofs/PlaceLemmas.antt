-- The order of a canvas of which a box becomes another one.
use Rattle.std.proofs.Common.{◌≡◌, ◌≢◌, ℕ, ◌+◌, ◌<◌, ◌≤◌, Bool, true, false, ◌&&◌, ◌||◌, cond, not, is_some, List, Option, Some, None, IsSome, refl, sym, ap, ◌∙◌, subst, arith}
use Rattle.std.specs.Prelude.{slice_get, ◌⊎◌}
use mathlib.Core.Logic.{⊎_elim}
use Rattle.std.proofs.lemmas.Bool.{cases_eq, true≢false}
use Rattle.slab.specs.Slab.{Slab, get}
use Rattle.pd_object.specs.declared.kinds.Kind.{Kind}
use Rattle.pd_order.specs.Graph.{tally, take_out, IsLawful}
use Rattle.pd_order.specs.Listing.{Listing}
use Rattle.pd_grove.specs.declared.boards.Board.{Board}
use Rattle.pd_grove.specs.declared.grove.Grove.{Grove}
use Rattle.pd_grove.specs.declared.nodes.Node.{Node}
use Rattle.pd_grove.specs.declared.seeds.Seed.{Seed}
use Rattle.pd_grove.specs.declared.ports.Side.TheVariants.{Inlets, Outlets}
use Rattle.pd_grove.specs.Owning.{board_in}
use Rattle.pd_grove.proofs.NestLemmas.{board_there}
use Rattle.pd_tree.specs.Ports.{is_made}
use Rattle.pd_web.specs.declared.web.Web.{Web}
use Rattle.pd_web.specs.Canvases.{keys_at}
use Rattle.pd_web.specs.Hops.{jack_told, signal_in, port_told}
use Rattle.pd_web.specs.Jacks.{kind_jacks}
use Rattle.pd_ports.specs.Boxes.{HasPorts as GetsPorts}
use Rattle.pd_patch.specs.declared.patch.Patch.{Patch}
use Rattle.pd_patch.specs.Listing.{IsThere}
use Rattle.pd_patch.specs.Orders.{is_signal, is_signal_node, is_heard, HasOrder}
use Rattle.pd_patch.specs.Telling.{order_in}
use Rattle.pd_patch.proofs.CanvasLemmas.{once_apart}
use Rattle.pd_patch.proofs.KindLemmas.{signal_node}
use Rattle.pd_patch.proofs.ListingLemmas.{counted_at, place_in}
use Rattle.pd_wiring.specs.Graphs.{canvas_graph, signal_boxes, IsOrderIn, HasOrderBy, AreOrderedBy, AreWired}
use Rattle.pd_wiring.proofs.BuiltLemmas.{wired_parts}
use Rattle.pd_wiring.proofs.GraphLemmas.{canvas_lawful, ordered_by_links, ordered_by_wires}
use Rattle.pd_wiring.proofs.HeardLemmas.{sounding}
use Rattle.pd_placing.specs.Groves.{AreBothOwn}
use Rattle.pd_placing.specs.Placing.{IsLoose, LacksBox, StayBut}
use Rattle.pd_placing.specs.Room.{HasPlaces}
use Rattle.pd_placing.proofs.GroveLemmas.{carried_but, carried_whole, carried_canvas, each_ordered}
use Rattle.pd_placing.proofs.ListLemmas.{fewer_left, out_gone}
use Rattle.pd_boxes.specs.Put.{node_of}
use Rattle.pd_refitting.specs.Refits.{Becomes, CanRefit, refit_looks}
use Rattle.pd_refitting.proofs.BoxLemmas.{IsOther, forest_as, ports_as, inside_as, keys_as, signals_in}
use Rattle.pd_refitting.proofs.WireLemmas.{carries, loose_by, loose_new, links_now}

never_true : (b : Bool) → (b ≡ true → ⊥) → b ≡ false
never_true true h = absurd (h refl)
never_true false h = refl

both_true : (a b : Bool) → (a && b) ≡ true → (a ≡ true) × (b ≡ true)
both_true true true h = (refl, refl)
both_true true false h = cc
both_true false b h = cc

-- of two tests one fails
one_false : {P : Type 0} (a b : Bool) → (a && b) ≡ false → (a ≡ false → P) → (b ≡ false → P) → P
one_false true b h f g = g h
one_false false b h f g = f refl

-- there is room for one box where there is room for two
pub one_place : (o : Option Listing) → HasPlaces o 2 → HasPlaces o 1
one_place None h = h
one_place (Some o) h = let r = h.room in let f = h.few in record { room = omega (arith, r); few = omega (arith, f) }

-- a box of a canvas that is another one than the box taken out
other_there : (k x : ℕ) (ks : List ℕ) → ((i j y : ℕ) → slice_get ks i ≡ Some y → slice_get ks j ≡ Some y → i ≡ j) → IsThere (take_out k ks) x → x ≢ k
other_there k x ks once at e =
    let l : 0 < tally x (take_out k ks) = counted_at x (take_out k ks) at.0 at.1 in
    let m : 0 < tally k (take_out k ks) = subst (λ (y : ℕ). 0 < tally y (take_out k ks)) e l in
    let none = out_gone k ks (once_apart ks once k) in
    absurd (omega (arith, m, none))

left_there : (k x : ℕ) (ks : List ℕ) → IsThere (take_out k ks) x → IsThere ks x
left_there k x ks at = let l = counted_at x (take_out k ks) at.0 at.1 in let f = fewer_left k x ks in place_in x ks (omega (arith, l, f))

-- Before the box becomes another one.

module _ (p : Patch) (key : ℕ) (n : Node) (s : Seed) (C : CanRefit p key n s) where
  pub there : IsThere (keys_at p.grove n.board) key
  there = C.can.forest.placed key n.board (ap board_in C.is)

  pub lawful : IsLawful (canvas_graph p.grove p.links n.board) (signal_boxes p.grove n.board)
  lawful = canvas_lawful p.grove p.web p.links (wired_parts p C.can.runs) n.board

  by_links : AreOrderedBy p.grove p.links p.orders.items
  by_links = ordered_by_links p.grove p.web p.links (wired_parts p C.can.runs) p.orders.items C.can.runs.orders

  board_lives : (b : Board) × (get p.grove.boards n.board ≡ Some b)
  board_lives = board_there (get p.grove.boards n.board) there.0 key there.1

  pub has_order : IsOrderIn (canvas_graph p.grove p.links n.board) (signal_boxes p.grove n.board) (order_in p.orders.items n.board)
  has_order =
      let B = board_lives in
      subst (λ (b : Option Board). HasOrderBy (canvas_graph p.grove p.links n.board) (signal_boxes p.grove n.board) b (order_in p.orders.items n.board)) B.1 (by_links n.board)

  -- a box that stands in no order has no signal wires
  loose_old : is_signal_node (get p.grove.nodes key) ≡ false → IsLoose p.links key
  loose_old silent = loose_by p.web p.links key C.can.runs.linked (λ u o i h at at_key. never_true (carries p.web u o h) (λ t.
      let b = both_true (signal_in (jack_told p.web Outlets u o)) (is_heard p.web h) t in
      let heard : (x : ℕ) → is_signal_node (get p.grove.nodes x) ≡ true → x ≡ key → ⊥ = (λ (x : ℕ) (y : is_signal_node (get p.grove.nodes x) ≡ true) (e : x ≡ key).
      true≢false (sym (sym (ap (λ z. is_signal_node (get p.grove.nodes z)) e) ∙ y) ∙ silent)) in
      ⊎_elim
      (λ (e : u ≡ key). heard u (sounding p.grove p.web Outlets u o (C.can.runs.ports.ports Outlets u) b.0) e)
      (λ (e : h.node ≡ key). heard h.node (sounding p.grove p.web Inlets h.node h.port (C.can.runs.ports.ports Inlets h.node) b.1) e)
      at_key))

  -- nor has one all of whose wires fit a box that stands in none
  loose_fit : is_signal s.row.kind ≡ false → IsLoose p.links key
  loose_fit silent = loose_new p.web key s.row.kind C.meet C.wires p.links C.can.runs.linked (λ side i. never_true (signal_in (slice_get (kind_jacks side s.row.kind) i)) (λ t.
      true≢false (sym (signal_node side p.grove (Some (node_of n.board s)) i t) ∙ silent)))

  pub loose : (stays : Bool) → stays ≡ (is_signal_node (get p.grove.nodes key) && is_signal s.row.kind) → stays ≡ false → IsLoose p.links key
  loose stays e f = one_false (is_signal_node (get p.grove.nodes key)) (is_signal s.row.kind) (sym e ∙ f) loose_old loose_fit

  -- Then it is the other one.

  module _ (h : Grove) (B : Becomes p.grove h key (node_of n.board s)) (w : Web) (G : GetsPorts p.web w key (λ side. kind_jacks side s.row.kind) (is_made s.row.kind))
      (H : (j : ℕ) → port_told w j ≡ port_told p.web j) where
    is_other : IsOther p.grove h key n (node_of n.board s)
    is_other = record { was = C.is; box = B; lies = refl; bare = C.bare; still_bare = refl; plain = C.plain; still_plain = C.stays_plain }

    wired : AreWired h w p.links
    wired =
        let can = C.can.runs in
        let m = node_of n.board s in
        record {
          own = (forest_as p.grove h key n m is_other C.can.forest).own;
          ports = (ports_as p.grove h key n m is_other C.can.forest p.web w can.ports G H).ports;
          inside = inside_as p.grove h key n m is_other p.web w G.fans can.inside;
          linked = links_now p.web key s.row.kind C.meet C.wires w G p.links can.linked;
        }

    both : AreBothOwn p.grove h
    both = record { one = C.can.forest.own; other = wired.own }

    keys_same : (c : ℕ) → keys_at h c ≡ keys_at p.grove c
    keys_same = keys_as p.grove h key n (node_of n.board s) is_other

    pub still_there : IsThere (keys_at h n.board) key
    still_there = subst (λ (ks : List ℕ). IsThere ks key) (sym (keys_same n.board)) there

    pub still_lawful : IsLawful (canvas_graph h p.links n.board) (signal_boxes h n.board)
    still_lawful = canvas_lawful h w p.links wired n.board

    pub still_lacks : (orders : List (Option Listing)) → LacksBox p.grove p.links orders n.board key → LacksBox h p.links orders n.board key
    still_lacks orders = carried_but p.grove h p.links n.board both key orders (record {
      keys = ap (take_out key) (keys_same n.board);
      signal = λ x at. ap is_signal_node (B.others x (other_there key x (keys_at p.grove n.board) (C.can.forest.own.once n.board) at));
    })

    -- where both boxes stand in the order, it stays
    pub still_order : (stays : Bool) (orders : List (Option Listing)) → stays ≡ (is_signal_node (get p.grove.nodes key) && is_signal s.row.kind) → stays ≡ true
        → IsOrderIn (canvas_graph p.grove p.links n.board) (signal_boxes p.grove n.board) (order_in orders n.board) → IsOrderIn (canvas_graph h p.links n.board) (signal_boxes h n.board) (order_in orders n.board)
    still_order stays orders e t =
        let b = both_true (is_signal_node (get p.grove.nodes key)) (is_signal s.row.kind) (sym e ∙ t) in
        carried_whole p.grove h p.links n.board both orders (record {
          keys = keys_same n.board;
          signal = λ x at. ⊎_elim
              (λ (f : x ≡ key). subst (λ (y : ℕ). is_signal_node (get h.nodes y) ≡ is_signal_node (get p.grove.nodes y)) (sym f) (ap is_signal_node B.is ∙ b.1 ∙ sym b.0))
              (λ (d : x ≢ key). ap is_signal_node (B.others x d)) (cases_eq x key);
        })

    pub now_ordered : (orders : List (Option Listing)) → StayBut p.orders.items orders n.board → IsOrderIn (canvas_graph h p.links n.board) (signal_boxes h n.board) (order_in orders n.board)
        → HasOrder h w (get h.boards n.board) (order_in orders n.board)
    now_ordered orders stay o =
        let L = board_lives in
        let lives : IsSome (get h.boards n.board) = subst (λ (b : Option Board). IsSome b) (sym (ap (λ (bs : Slab Board). get bs n.board) B.boards ∙ L.1)) refl in
        ordered_by_wires h w p.links wired orders
        (each_ordered h p.links p.orders.items orders n.board lives o stay (λ d away. carried_canvas p.grove h p.links d both p.orders.items
        (ap (λ (bs : Slab Board). get bs d) B.boards) (signals_in p.grove h key n (node_of n.board s) is_other C.can.forest d away) (by_links d))) n.board

-- Looks at signal wires.

looks_by : (a b stays : Bool) (steps steps' : ℕ) → stays ≡ (a && b) → (stays ≡ true → steps' ≡ steps) → (b ≡ false → steps' ≡ steps) → steps' ≤ steps + 8 → steps' ≤ steps + cond (b && not a) 8 0
looks_by a false stays steps steps' e kept none most = let same = none refl in omega (arith, same)
looks_by true true stays steps steps' e kept none most = let same = kept e in omega (arith, same)
looks_by false true stays steps steps' e kept none most = most

pub few_looks : (n : Node) (k : Kind) (o o' : Option Node) (stays : Bool) (steps steps' : ℕ) → n.inner ≡ None → o ≡ Some n → is_signal_node o' ≡ is_signal k → stays ≡ (is_signal_node o && is_signal k)
    → (stays ≡ true → steps' ≡ steps) → (is_signal_node o' ≡ false → steps' ≡ steps) → steps' ≤ steps + 8 → steps' ≤ steps + refit_looks n.kind k
few_looks n k o o' stays steps steps' bare is now e kept none most =
    looks_by (is_signal n.kind) (is_signal k) stays steps steps' (e ∙ ap (λ x. is_signal_node x && is_signal k) is ∙ ap (λ i. (is_some i || is_signal n.kind) && is_signal k) bare) kept (λ f. none (now ∙ f)) most
