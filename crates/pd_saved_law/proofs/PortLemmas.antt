-- What boxes keep changes no port.
use Rattle.std.proofs.Common.{◌≡◌, ℕ, ℤ, ◌+◌, Bool, true, List, [], ◌∷◌, map, Option, Some, None, refl, sym, ap, ◌∙◌}
use Rattle.std.specs.Prelude.{option_and_then}
use Rattle.pd_object.specs.declared.kinds.Kind.{Kind}
use Rattle.pd_object.specs.declared.kinds.Kind.TheVariants as kind
use Rattle.pd_object.specs.declared.kinds.Panel.TheVariants as panel
use Rattle.pd_kind.specs.declared.states.State.{State}
use Rattle.pd_kind.specs.Tables.{saved_of}
use Rattle.pd_canvas.specs.Pages.{Shape, Obj, Msg, Sub, Array}
use Rattle.pd_tree.specs.declared.rows.Sheet.{Sheet}
use Rattle.pd_tree.specs.Ports.{PortBox, Sockets, inlet_signal, outlet_signal, with_port, port_boxes, by_x, inlet_boxes, outlet_boxes, sockets_of, sockets_around, sockets_in}
use Rattle.pd_tree.specs.Trees.{Cell, Trees, Done, Leaf, Holder}
use Rattle.pd_grove.specs.declared.nodes.Node.{Node}
use Rattle.pd_grove.specs.declared.boards.Board.{Board}
use Rattle.pd_grove.specs.Telling.{inner_in, state_in}
use Rattle.pd_grove.specs.TextOrder.{keys_inside}
use Rattle.pd_web.specs.declared.web.Web.{Web}
use Rattle.pd_present.specs.Contents.{present_head}
use Rattle.pd_present.specs.Presents.{wires_among}
use Rattle.pd_regrowth_law.specs.Rewiring.{with_wires}
use Rattle.pd_reload_law.specs.Saving.{kind_turned, object_now, cell_by, cell_now, holder_now, boxes_now, IsMade, AreMade}

-- what a box has that is seen of its ports stays
record SamePorts (c d : Cell) : Type 0 where
  sockets : sockets_of d.kind ≡ sockets_of c.kind
  inlet : inlet_signal d.kind ≡ inlet_signal c.kind
  outlet : outlet_signal d.kind ≡ outlet_signal c.kind
  x : d.head.x ≡ c.head.x

itself : (c : Cell) → SamePorts c c
itself c = record { sockets = refl; inlet = refl; outlet = refl; x = refl }

turned_sockets : (v : ℤ × ℤ) (k : Kind) → sockets_of (kind_turned v k) ≡ sockets_of k
turned_sockets v (kind.Panel (panel.Tgl t)) = refl
turned_sockets v k = refl

turned_inlet : (v : ℤ × ℤ) (k : Kind) → inlet_signal (kind_turned v k) ≡ inlet_signal k
turned_inlet v (kind.Panel (panel.Tgl t)) = refl
turned_inlet v k = refl

turned_outlet : (v : ℤ × ℤ) (k : Kind) → outlet_signal (kind_turned v k) ≡ outlet_signal k
turned_outlet v (kind.Panel (panel.Tgl t)) = refl
turned_outlet v k = refl

object_ports : (o : Option (ℤ × ℤ)) (s : Option State) (c : Cell) → SamePorts c (object_now o c (present_head s c.head))
object_ports None s c = itself c
object_ports (Some v) s c = record { sockets = turned_sockets v c.kind; inlet = turned_inlet v c.kind; outlet = turned_outlet v c.kind; x = refl }

ports_by : (f : Shape) (s : Option State) (c : Cell) → IsMade f c → SamePorts c (cell_by f s c (present_head s c.head))
ports_by Msg s c m = record {
  sockets = sym (ap (λ (x : Cell). sockets_of x.kind) m);
  inlet = sym (ap (λ (x : Cell). inlet_signal x.kind) m);
  outlet = sym (ap (λ (x : Cell). outlet_signal x.kind) m);
  x = refl;
}
ports_by (Array values) s c m = record {
  sockets = sym (ap (λ (x : Cell). sockets_of x.kind) m);
  inlet = sym (ap (λ (x : Cell). inlet_signal x.kind) m);
  outlet = sym (ap (λ (x : Cell). outlet_signal x.kind) m);
  x = refl;
}
ports_by Obj s c m = object_ports (option_and_then saved_of s) s c
ports_by f s c m = itself c

cell_ports : (s : Option State) (c : Cell) → IsMade c.head.form c → SamePorts c (cell_now s c)
cell_ports s c m = ports_by c.head.form s c m

port_step : (side : Kind → Option Bool) (n : ℕ) (c d : Cell) (rest others : List PortBox) → side d.kind ≡ side c.kind → d.head.x ≡ c.head.x → others ≡ rest
    → with_port (side d.kind) n d.head.x others ≡ with_port (side c.kind) n c.head.x rest
port_step side n c d rest others e f g =
    ap (λ o. with_port o n d.head.x others) e ∙ ap (λ x. with_port (side c.kind) n x others) f ∙ ap (with_port (side c.kind) n c.head.x) g

port_holder : (side : Kind → Option Bool) (n : ℕ) (f : Shape) (c : Cell) (sheet : Sheet) (inner : Trees) (now : Sheet) (boxes others : Trees)
    → port_boxes side n (holder_now f c sheet inner now boxes others) ≡ port_boxes side (n + 1) others
port_holder side n Sub c sheet inner now boxes others = refl
port_holder side n f c sheet inner now boxes others = refl

around_holder : (f : Shape) (c : Cell) (sheet : Sheet) (inner : Trees) (now : Sheet) (boxes others rest : Trees) → sockets_around boxes ≡ sockets_around inner
    → sockets_in others ≡ sockets_in rest → sockets_in (holder_now f c sheet inner now boxes others) ≡ sockets_around inner ∷ sockets_in rest
around_holder Sub c sheet inner now boxes others rest e g = ap (λ (x : Sockets). x ∷ sockets_in others) e ∙ ap (λ (l : List Sockets). sockets_around inner ∷ l) g
around_holder f c sheet inner now boxes others rest e g = ap (λ (l : List Sockets). sockets_around inner ∷ l) g

module _ (web : Web) (numbers : List ℕ) (nodes : ℕ → Option Node) (boards : ℕ → Option Board) where
  port_boxes_stay : (side : Kind → Option Bool) → ((s : Option State) (c : Cell) → IsMade c.head.form c → side (cell_now s c).kind ≡ side c.kind)
      → (n : ℕ) (keys : List ℕ) (t : Trees) → AreMade t → port_boxes side n (boxes_now web numbers nodes boards keys t) ≡ port_boxes side n t
  port_boxes_stay side h n [] t m = refl
  port_boxes_stay side h n (k ∷ ks) Done m = refl
  port_boxes_stay side h n (k ∷ ks) (Leaf c rest) m =
      port_step side n c (cell_now (state_in (nodes k)) c) (port_boxes side (n + 1) rest) (port_boxes side (n + 1) (boxes_now web numbers nodes boards ks rest))
      (h (state_in (nodes k)) c m.0) (cell_ports (state_in (nodes k)) c m.0).x (port_boxes_stay side h (n + 1) ks rest m.1)
  port_boxes_stay side h n (k ∷ ks) (Holder c s inner rest) m =
      let js = keys_inside boards (inner_in (nodes k)) in
      port_holder side n c.head.form c s inner (with_wires (wires_among web numbers js) s) (boxes_now web numbers nodes boards js inner)
      (boxes_now web numbers nodes boards ks rest) ∙ port_boxes_stay side h (n + 1) ks rest m.2

  around_stay : (keys : List ℕ) (t : Trees) → AreMade t → sockets_around (boxes_now web numbers nodes boards keys t) ≡ sockets_around t
  around_stay keys t m =
      let now = boxes_now web numbers nodes boards keys t in
      let inlets : inlet_boxes now ≡ inlet_boxes t = ap by_x (port_boxes_stay inlet_signal (λ s c h. (cell_ports s c h).inlet) 0 keys t m) in
      let outlets : outlet_boxes now ≡ outlet_boxes t = ap by_x (port_boxes_stay outlet_signal (λ s c h. (cell_ports s c h).outlet) 0 keys t m) in
      ap (λ (ps : List PortBox). record { inlets = map (λ p. p.is_signal) ps; outlets = map (λ p. p.is_signal) (outlet_boxes now); made = true }) inlets
      ∙ ap (λ (ps : List PortBox). record { inlets = map (λ p. p.is_signal) (inlet_boxes t); outlets = map (λ p. p.is_signal) ps; made = true }) outlets

  pub sockets_stay : (keys : List ℕ) (t : Trees) → AreMade t → sockets_in (boxes_now web numbers nodes boards keys t) ≡ sockets_in t
  sockets_stay [] t m = refl
  sockets_stay (k ∷ ks) Done m = refl
  sockets_stay (k ∷ ks) (Leaf c rest) m =
      let others = sockets_in (boxes_now web numbers nodes boards ks rest) in
      ap (λ (x : Sockets). x ∷ others) (cell_ports (state_in (nodes k)) c m.0).sockets
      ∙ ap (λ (l : List Sockets). sockets_of c.kind ∷ l) (sockets_stay ks rest m.1)
  sockets_stay (k ∷ ks) (Holder c s inner rest) m =
      let js = keys_inside boards (inner_in (nodes k)) in
      around_holder c.head.form c s inner (with_wires (wires_among web numbers js) s) (boxes_now web numbers nodes boards js inner)
      (boxes_now web numbers nodes boards ks rest) rest (around_stay js inner m.1) (sockets_stay ks rest m.2)
