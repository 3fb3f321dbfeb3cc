-- A port box that is out of its canvas: what the box around asks to lose its port.
use Rattle.std.proofs.Common.{◌≡◌, ◌≢◌, ℕ, ◌<◌, ◌≤◌, List, [], length, slice_get, Some, IsSome, inl, inr, sym, ap, ◌∙◌, subst, arith}
use Rattle.std.specs.List.{insert}
use Rattle.std.proofs.lemmas.Bool.{cases_lt}
use Rattle.std.proofs.lemmas.Option.{same_Some}
use Rattle.slab.specs.Slab.{get}
use Rattle.pd_grove.specs.declared.grove.Grove.{Grove}
use Rattle.pd_grove.specs.declared.nodes.Node.{Node}
use Rattle.pd_grove.specs.declared.ports.Side.{Side}
use Rattle.pd_grove.specs.Forest.{holder_in, IsForest}
use Rattle.pd_grove.specs.Grafts.{HasBoxMore}
use Rattle.pd_grove.specs.Ports.{port_signal}
use Rattle.pd_web.specs.declared.jacks.Jack.{Jack}
use Rattle.pd_web.specs.declared.web.Web.{Web}
use Rattle.pd_web.specs.Homes.{inner_in}
use Rattle.pd_web.specs.Hops.{ports_told, jack_told, port_told}
use Rattle.pd_web.specs.Jacks.{jacks_at}
use Rattle.pd_ports.specs.Known.{AreBareWithout, AreFreeFor, KnowsHomes}
use Rattle.pd_ports.specs.Moves.{keys_at}
use Rattle.pd_following.specs.Ports.{port_jack}
use Rattle.pd_following.specs.Raising.{up, IsOneMore}
use Rattle.pd_following.proofs.JackLemmas.{holder_boxes, jacks_more}
use Rattle.pd_following.proofs.ListLemmas.{insert_here, insert_length, insert_up, up_behind, up_not, up_or}
use Rattle.pd_following.proofs.RaiseLemmas.{keys_past, some_of}
use Rattle.pd_following.proofs.SpotLemmas.{HasMore}

-- The grove without the box, and the one with it, whose ports the web has still.
module _ (g g' : Grove) (c key : ℕ) (n : Node) (a b : List ℕ) (X : HasBoxMore (get g.nodes) (get g'.nodes) (get g.boards) (get g'.boards) c key n a b) (root : ℕ)
    (F : IsForest (get g.nodes) (get g.boards) root) (holder : ℕ) (held : holder_in (get g.boards c) ≡ Some holder) (side : Side) (is : IsSome (port_signal side n.kind))
    (w : Web) (ports : ports_told w side holder ≡ jacks_at side g' holder) (known : KnowsHomes w) (port : ℕ) (told : port_told w key ≡ Some (holder, port)) where
  more : HasMore (jacks_at side g holder) (jacks_at side g' holder) (port_jack side n.kind key)
  more = jacks_more g g' c key n a b X root F holder held side is

  -- which number a port that is the box has
  numbered : (i : ℕ) → inner_in (jack_told w side holder i) ≡ Some key → i ≡ port
  numbered i h = ap (λ (x : ℕ × ℕ). x.1) (same_Some (holder, i) (holder, port) (sym (known.found side key holder i h) ∙ told))

  placed : more.place ≡ port
  placed = numbered more.place (ap (λ (js : List Jack). inner_in (slice_get js more.place)) (ports ∙ more.is) ∙ ap inner_in (insert_here (jacks_at side g holder) more.place (port_jack side n.kind key) more.within))

  pub has_more : ports_told w side holder ≡ insert (jacks_at side g holder) port (port_jack side n.kind key)
  has_more = ports ∙ more.is ∙ ap (λ x. insert (jacks_at side g holder) x (port_jack side n.kind key)) placed

  jack_up : (i : ℕ) → jack_told w side holder (up more.place i) ≡ slice_get (jacks_at side g holder) i
  jack_up i = ap (λ (js : List Jack). slice_get js (up more.place i)) (ports ∙ more.is) ∙ insert_up (jacks_at side g holder) more.place i (port_jack side n.kind key) more.within

  -- none of the ports that are left is the box
  not_there : (i : ℕ) → inner_in (slice_get (jacks_at side g holder) i) ≢ Some key
  not_there i h = up_not more.place i (numbered (up more.place i) (ap inner_in (jack_up i) ∙ h) ∙ sym placed)

  -- a web that has the ports that are left has one fewer
  pub one_more_before : (w' : Web) → ports_told w' side holder ≡ jacks_at side g holder → IsOneMore w' g' holder side port (port_jack side n.kind key)
  one_more_before w' now =
      let le = more.within in
      let e = placed in
      let l = ap length now in
      record {
        within = omega (arith, le, e, l);
        ports = more.is ∙ ap (λ x. insert (jacks_at side g holder) x (port_jack side n.kind key)) placed ∙ ap (λ (js : List Jack). insert js port (port_jack side n.kind key)) (sym now);
        boxes = λ i. subst (λ (js : List Jack). i < length js → IsSome (inner_in (slice_get js i))) (sym now) (holder_boxes g g' c key n a b X root F holder held side is i);
        apart = λ i j h e. not_there i (ap (λ (js : List Jack). inner_in (slice_get js i)) (sym now) ∙ h ∙ sym e);
      }

  -- each port that is left was one
  pub free_for_left : AreFreeFor w holder side (jacks_at side g holder)
  free_for_left m j h = inr (up more.place m, ap inner_in (jack_up m) ∙ h)

  -- the port that goes has no wires, where none stands at it
  pub bare_without : keys_at w side holder port ≡ [] → AreBareWithout w holder side (jacks_at side g holder)
  bare_without none i never = elim (up_or more.place i) [
    | inl e ↦ ap (keys_at w side holder) (e ∙ placed) ∙ none
    | inr m ↦ elim (cases_lt m.0 (length (jacks_at side g holder))) [
      | inl l ↦
          let j = some_of (inner_in (slice_get (jacks_at side g holder) m.0)) (holder_boxes g g' c key n a b X root F holder held side is m.0 l) in
          absurd (never m.0 (j.0, ap (λ x. inner_in (jack_told w side holder x)) m.1 ∙ ap inner_in (jack_up m.0) ∙ j.1, j.1))
      | inr l ↦ keys_past w side holder i (past i m.0 m.1 l)
    ]
  ]
    where
      past : (i m : ℕ) → i ≡ up more.place m → length (jacks_at side g holder) ≤ m → length (ports_told w side holder) ≤ i
      past i m e l =
          let low = more.within in
          let u = up_behind more.place m (omega (arith, l, low)) in
          let c = ap length (ports ∙ more.is) ∙ insert_length (jacks_at side g holder) more.place (port_jack side n.kind key) in
          omega (arith, e, u, c, l)
