-- A box came with an empty canvas inside, and the signal orders of canvases.
use Rattle.std.proofs.Common.{◌≡◌, ◌≢◌, ℕ, true, List, [], length, Option, Some, sym, ap, ◌∙◌, subst, arith}
use mathlib.Core.Logic.{⊎_elim}
use Rattle.std.proofs.lemmas.Bool.{cases_eq}
use Rattle.std.proofs.lemmas.Option.{none-some, same_Some}
use Rattle.slab.specs.Slab.{get}
use Rattle.pd_atom.specs.Names.{Names}
use Rattle.pd_object.specs.declared.kinds.Kind.TheVariants as kind
use Rattle.pd_order.specs.Graph.{take_out, IsLawful}
use Rattle.pd_order.specs.Listing.{Listing}
use Rattle.pd_grove.specs.declared.seeds.Seed.{Seed}
use Rattle.pd_grove.specs.Owning.{board_in}
use Rattle.pd_grove.specs.Telling.{inner_in, keys_in}
use Rattle.pd_grove.specs.Forest.{IsForest}
use Rattle.pd_grove.proofs.GraftLemmas.{is_some}
use Rattle.pd_web.specs.Canvases.{keys_at}
use Rattle.pd_patch.specs.declared.patch.Patch.{Patch}
use Rattle.pd_patch.specs.Listing.{IsThere}
use Rattle.pd_patch.specs.Orders.{is_signal_node, signal_among, HasOrder}
use Rattle.pd_patch.specs.Telling.{order_in}
use Rattle.pd_patch.proofs.ListingLemmas.{counted_at}
use Rattle.pd_patch.proofs.CanvasLemmas.{once_apart}
use Rattle.pd_wiring.specs.Changes.{CanRewire}
use Rattle.pd_wiring.specs.Graphs.{canvas_graph, signal_boxes, IsOrderIn, HasOrderBy, AreWired, AreOrderedBy}
use Rattle.pd_wiring.proofs.GraphLemmas.{canvas_lawful, ordered_by_wires}
use Rattle.pd_placing.specs.Groves.{AreBothOwn, IsAlikeBut}
use Rattle.pd_placing.specs.Placing.{is_last, IsLoose, IsOrdered, LacksBox, AreOrderedBut}
use Rattle.pd_placing.specs.Room.{IsEmptyOrder}
use Rattle.pd_placing.proofs.GroveLemmas.{live_order, carried_but, carried_canvas}
use Rattle.pd_placing.proofs.ListLemmas.{out_gone}
use Rattle.pd_placing.proofs.PlaceLemmas.{empty_order}
use Rattle.pd_boxes.specs.declared.room.Place.{Place}
use Rattle.pd_boxes.specs.Put.{node_of}
use Rattle.pd_boxes.proofs.BuiltLemmas.{still_forest, still_rewires}
use Rattle.pd_boxes.proofs.SignalLemmas.{is_there, is_loose, lacks_box, still_last}
use Rattle.pd_subpatches.specs.Shell.{ShellComesIn}
use Rattle.pd_subpatches.proofs.BeforeLemmas.{before, opened, came, same_keys, comes, none, put}
use Rattle.pd_subpatches.proofs.RunLemmas.{wired_after}
use Rattle.pd_subpatches.proofs.LawLemmas.{opens}

module _ (p q : Patch) (table : Names) (place : Place) (s : Seed) (key : ℕ) (C : ShellComesIn p q table place s key) (plain : s.row.kind ≡ kind.Canvas)
    (F : IsForest (get p.grove.nodes) (get p.grove.boards) p.grove.root) (R : CanRewire p) where
  abbrev bare : Patch
  bare = before p q table place s key C plain

  forest_bare : IsForest (get bare.grove.nodes) (get bare.grove.boards) bare.grove.root
  forest_bare = subst (λ (r : ℕ). IsForest (get bare.grove.nodes) (get bare.grove.boards) r) (sym C.root) (still_forest p bare table place s key (comes p q table place s key C plain) F R)

  rewires_bare : CanRewire bare
  rewires_bare =
      let I = put p q table place s key C plain F R in
      still_rewires p bare table place s key I.comes F R I.order I.other_orders (none p q table place s key C plain)

  wired : AreWired q.grove q.web q.links
  wired = wired_after bare q key C.canvas (node_of place.canvas s) C.board (opens p q table place s key C plain) forest_bare rewires_bare

  both : AreBothOwn bare.grove q.grove
  both = record { one = forest_bare.own; other = wired.own }

  keys : (x : ℕ) → keys_at q.grove x ≡ keys_at bare.grove x
  keys = same_keys p q table place s key C plain

  pub is_here : IsThere (keys_at q.grove place.canvas) key
  is_here = subst (λ (ks : List ℕ). IsThere ks key) (sym (keys place.canvas)) (is_there p bare table place s key (comes p q table place s key C plain) F R)

  pub loose : IsLoose q.links key
  loose = is_loose p bare table place s key (comes p q table place s key C plain) F R

  pub lawful : IsLawful (canvas_graph q.grove q.links place.canvas) (signal_boxes q.grove place.canvas)
  lawful = canvas_lawful q.grove q.web q.links wired place.canvas

  pub last : place.number ≡ length (keys_at p.grove place.canvas) → is_last (keys_at q.grove place.canvas) key ≡ true
  last e = ap (λ (ks : List ℕ). is_last ks key) (keys place.canvas) ∙ still_last p bare table place s key (comes p q table place s key C plain) F R e

  -- the canvas inside is not the one around
  pub other_canvas : C.canvas ≢ place.canvas
  other_canvas e =
      let K = (came p q table place s key C plain).keys in
      none-some K.after (sym (opened p q table place s key C plain).vacant ∙ ap (get bare.grove.boards) e ∙ K.is)

  pub holds : inner_in (get q.grove.nodes key) ≡ Some C.canvas
  holds = ap inner_in (opened p q table place s key C plain).is

  but : AreOrderedBut bare.grove q.links p.orders.items place.canvas key
  but = lacks_box p bare table place s key (comes p q table place s key C plain) F R

  same_signal : (x : ℕ) → x ≢ key → is_signal_node (get q.grove.nodes x) ≡ is_signal_node (get bare.grove.nodes x)
  same_signal x d = ap is_signal_node ((opened p q table place s key C plain).others x d)

  alike : IsAlikeBut bare.grove q.grove place.canvas key
  alike = record {
    keys = ap (take_out key) (keys place.canvas);
    signal = λ x at. same_signal x (λ e.
        let there = counted_at key (take_out key (keys_at bare.grove place.canvas)) at.0 (at.1 ∙ ap (λ y. Some y) e) in
        let gone = out_gone key (keys_at bare.grove place.canvas) (once_apart (keys_at bare.grove place.canvas) (forest_bare.own.once place.canvas) key) in
        omega (arith, there, gone));
  }

  -- the order of the canvas around lacks the box alone
  pub lacks : (orders : List (Option Listing)) → order_in orders place.canvas ≡ order_in p.orders.items place.canvas → LacksBox q.grove q.links orders place.canvas key
  lacks orders e = subst (λ (o : Option Listing). IsOrderIn (canvas_graph q.grove q.links place.canvas) (take_out key (signal_boxes q.grove place.canvas)) o) (sym e)
      (carried_but bare.grove q.grove q.links place.canvas both key p.orders.items alike but.lacks)

  -- each other canvas that was there has its order
  stays : (d : ℕ) → d ≢ place.canvas → d ≢ C.canvas → IsOrdered q.grove q.links p.orders.items d
  stays d f g = carried_canvas bare.grove q.grove q.links d both p.orders.items ((opened p q table place s key C plain).stay d g)
      (λ x at. same_signal x (λ e. f (same_Some d place.canvas (
      sym (forest_bare.own.home d at.0 x at.1) ∙ ap (λ y. board_in (get bare.grove.nodes y)) e ∙ ap board_in (came p q table place s key C plain).is))))
      (but.others d f)

  -- and so has the canvas inside
  inside : (o : Option Listing) → IsEmptyOrder o → HasOrderBy (canvas_graph q.grove q.links C.canvas) (signal_boxes q.grove C.canvas) (get q.grove.boards C.canvas) o
  inside o e =
      let M = opened p q table place s key C plain in
      let bare_keys : keys_at q.grove C.canvas ≡ [] = ap keys_in M.opened ∙ M.empty in
      live_order (canvas_graph q.grove q.links C.canvas) (signal_boxes q.grove C.canvas) (get q.grove.boards C.canvas) o (is_some (get q.grove.boards C.canvas) C.board M.opened)
      (subst (λ (ns : List ℕ). IsOrderIn (canvas_graph q.grove q.links C.canvas) ns o) (sym (ap (signal_among q.grove) bare_keys)) (empty_order (canvas_graph q.grove q.links C.canvas) o e))

  pub lacks_alone : (orders : List (Option Listing)) → IsEmptyOrder (order_in orders C.canvas) → ((d : ℕ) → d ≢ C.canvas → order_in orders d ≡ order_in p.orders.items d)
      → AreOrderedBut q.grove q.links orders place.canvas key
  lacks_alone orders own others = record {
    lacks = lacks orders (others place.canvas (λ e. other_canvas (sym e)));
    others = λ d f. ⊎_elim
        (λ (e : d ≡ C.canvas). subst (λ (x : ℕ). IsOrdered q.grove q.links orders x) (sym e) (inside (order_in orders C.canvas) own))
        (λ (g : d ≢ C.canvas). subst (λ (o : Option Listing). HasOrderBy (canvas_graph q.grove q.links d) (signal_boxes q.grove d) (get q.grove.boards d) o) (sym (others d g)) (stays d f g))
        (cases_eq d C.canvas);
  }

  pub has_order : (orders : List (Option Listing)) → AreOrderedBy q.grove q.links orders → HasOrder q.grove q.web (get q.grove.boards place.canvas) (order_in orders place.canvas)
  has_order orders A = ordered_by_wires q.grove q.web q.links wired orders A place.canvas
