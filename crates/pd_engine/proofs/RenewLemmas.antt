-- A patch in which a box became another one, or in which a subpatch took another text.
use Rattle.std.proofs.Common.{◌≡◌, ℕ, Bool, true, ◌&&◌, if◌then◌else◌, List, slice_get, Option, Some, None, inl, inr, refl, sym, ap, ◌∙◌, subst}
use Rattle.std.specs.Prelude.{IfSome, option_map}
use Rattle.std.specs.List.{AllByRecursion}
use Rattle.pd_atom.specs.declared.Atom.{Atom}
use Rattle.pd_atom.specs.Names.{Names, Extends}
use Rattle.pd_object.specs.declared.kinds.Kind.{Kind}
use Rattle.pd_object.specs.declared.kinds.Kind.TheVariants as kind
use Rattle.pd_canvas.specs.declared.edits.Edit.{Edit}
use Rattle.pd_canvas.specs.Pages.{Shape, Sub, Entry}
use Rattle.pd_canvas.specs.Views.{entry_of}
use Rattle.pd_name.specs.declared.Class.TheVariants.{Receiver}
use Rattle.pd_tree.specs.Trees.{Cell, Trees, Stand, weight}
use Rattle.pd_grove.specs.declared.grove.Grove.{Grove}
use Rattle.pd_grove.specs.declared.nodes.Node.{Node}
use Rattle.pd_grove.specs.OwnPaths.{sub_reached}
use Rattle.pd_grove.specs.Refits.{with_text}
use Rattle.pd_grove.specs.TextOrder.{is_sub, Placed, placed_in_order}
use Rattle.pd_bind.specs.Naming.{owned, owned_by, owned_by_kind, subpatch_symbol}
use Rattle.pd_web.specs.Canvases.{keys_at}
use Rattle.pd_patch.specs.declared.patch.Patch.{Patch}
use Rattle.pd_boxes.specs.Put.{node_of, CanPut, HasOwners}
use Rattle.pd_boxes.specs.Room.{SameButRoom}
use Rattle.pd_boxes.proofs.RoomLemmas.{keys_same}
use Rattle.pd_gather.specs.Gather.{Known}
use Rattle.pd_adding.specs.declared.counts.Counts.{Counts}
use Rattle.pd_adding.specs.Boxes.{CanBeWritten, settled_edit, box_put}
use Rattle.pd_adding.specs.Growing.{Added}
use Rattle.pd_stage.specs.PassedOn.{put_instead, RetypedBox, counts_but, Becomes, RetypesBox, HasBecome, TakesText}
use Rattle.pd_retyping_law.specs.Retyping.{ChangesBoxAt, RetypesBoxAt, cell_in}
use Rattle.pd_retyping_law.proofs.PlaceLemmas.{retypes_so}
use Rattle.pd_engine.proofs.CameLemmas.{owners_kept}
use Rattle.pd_engine.proofs.GrewLemmas.{own_steady}
use Rattle.pd_engine.proofs.RoomLemmas.{sub_stays}

-- Room was set aside, and wires may have gone. Then the box of a number became this one, which owns the same in each table that goes on; what grew for
-- it is one box.
pub record Renews (old new : Patch) (file path : List ℕ) (canvas key number : ℕ) (n : Node) (a : Added) : Type 0 where
  pub ready : Patch
  pub room : SameButRoom old ready
  pub from : Patch
  pub grove : from.grove ≡ ready.grove
  pub names : from.names ≡ ready.names
  pub node : Node
  pub changes : ChangesBoxAt from.grove new.grove path canvas key number n node
  pub steady : (more : Names) → Extends a.known.names more → (top : Bool) → owned_by more top (cell_in node) ≡ owned_by a.known.names top (cell_in node)
  pub owners : HasOwners from a.known.names file → HasOwners new a.known.names file
  pub single : weight a.boxes ≡ 1
  pub goes_on : CanPut new

sub_form : (f : Shape) → is_sub f ≡ true → f ≡ Sub
sub_form Sub e = refl
sub_form f e = cc

-- canvases of the same form and text own the same
canvas_alike : (names : Names) (top : Bool) (c d : Cell) → c.kind ≡ kind.Canvas → d.kind ≡ kind.Canvas → c.head.form ≡ d.head.form → c.text ≡ d.text
    → owned_by names top c ≡ owned_by names top d
canvas_alike names top c d here there form text =
    ap (λ (k : Kind). owned_by_kind names top c k) here
    ∙ ap (λ (f : Shape). if top && is_sub f then owned Receiver (subpatch_symbol names c.text) else None) form
    ∙ ap (λ (l : List Atom). if top && is_sub d.head.form then owned Receiver (subpatch_symbol names l) else None) text
    ∙ sym (ap (λ (k : Kind). owned_by_kind names top d k) there)

-- where room was set aside, the path leads to the canvas, and the box is there
module _ (old ready : Patch) (room : SameButRoom old ready) (path : List ℕ) (canvas key number : ℕ) where
  led_there : sub_reached old.grove (Some old.grove.root) path ≡ Some canvas → sub_reached ready.grove (Some ready.grove.root) path ≡ Some canvas
  led_there leads =
      sub_stays old.grove ready.grove room.grove path (Some ready.grove.root) ∙ ap (λ (r : ℕ). sub_reached old.grove (Some r) path) room.grove.root ∙ leads

  is_there : slice_get (keys_at old.grove canvas) number ≡ Some key → slice_get (keys_at ready.grove canvas) number ≡ Some key
  is_there at = ap (λ (ks : List ℕ). slice_get ks number) (keys_same old.grove ready.grove room.grove canvas) ∙ at

module _ (old new : Patch) (n : Counts) (name path : List ℕ) (number : ℕ) (text : List Atom) (now : ℕ) (k after : Known) (steps steps' : ℕ) (b : RetypedBox)
    (X : RetypesBox old new n name path number text now k after steps steps' b) where
  abbrev a : Added
  a = X.added

  abbrev put : Edit
  put = put_instead (entry_of X.node.element) text

  can_write : IfSome (box_put (settled_edit k.names put)) (CanBeWritten k.names)
  can_write = subst (λ (o : Option Entry). IfSome o (CanBeWritten k.names)) (sym X.new_entry) X.written

  -- what grew owns the same in each table that goes on
  abbrev Same : Names → Placed → Type 0
  Same more p = owned_by more p.is_top p.cell ≡ owned_by a.known.names p.is_top p.cell

  steady_grown : (t : Trees) → a.boxes ≡ t → (more : Names) → Extends a.known.names more → (top : Bool) → AllByRecursion (Same more) (placed_in_order top t)
  steady_grown t is more x top =
      subst (λ (u : Trees). AllByRecursion (Same more) (placed_in_order top u)) is (own_steady old (counts_but old.rate X.node n) name path put k X.files a X.grew can_write more x top)

  abbrev Renewed : Type 0
  Renewed = Renews old new name path b.canvas b.key number X.node a

  -- it became another one
  module _ (x : HasBecome old new now b.key X.node a b.gone.items steps steps') where
    abbrev free : Grove
    free = x.free.grove

    same_boxes : free ≡ x.ready.grove
    same_boxes = x.frees.rest.grove ∙ x.loosens.rest.grove

    -- wires came back then, and nothing else
    same_back : new.grove ≡ x.fitted.grove
    same_back = x.back.tightens.rest.grove

    fits : RetypesBoxAt free x.fitted.grove path b.canvas b.key number X.node (node_of X.node.board x.seed)
    fits = record {
      forest = x.could.can.forest;
      leads = subst (λ (g : Grove). sub_reached g (Some g.root) path ≡ Some b.canvas) (sym same_boxes) (led_there old x.ready x.room path b.canvas b.key number X.chosen.leads);
      is = subst (λ (g : Grove). slice_get (keys_at g b.canvas) number ≡ Some b.key) (sym same_boxes) (is_there old x.ready x.room path b.canvas b.key number X.chosen.at);
      was = x.could.is;
      bare = x.can.bare;
      becomes = x.refit.grove.is;
      leaf = refl;
      board = refl;
      others = x.refit.grove.others;
      boards = x.refit.grove.boards;
      root = x.refit.grove.root;
    }

    becomes : RetypesBoxAt free new.grove path b.canvas b.key number X.node (node_of X.node.board x.seed)
    becomes = subst (λ (g : Grove). RetypesBoxAt free g path b.canvas b.key number X.node (node_of X.node.board x.seed)) (sym same_back) fits

    cell_is : x.can.cell ≡ cell_in (node_of X.node.board x.seed)
    cell_is = sym (ap (λ (s : Stand). s.cell) x.is_row)

    renews_box : Renewed
    renews_box = record {
      ready = x.ready;
      room = x.room;
      from = x.free;
      grove = same_boxes;
      names = x.frees.rest.names ∙ x.loosens.rest.names;
      node = node_of X.node.board x.seed;
      changes = retypes_so free new.grove path b.canvas b.key number X.node (node_of X.node.board x.seed) becomes;
      steady = λ more e top. subst (λ (c : Cell). owned_by more top c ≡ owned_by a.known.names top c) cell_is (steady_grown _ x.can.single more e top).0;
      owners = λ o. owners_kept x.fitted new a.known.names name x.back.tightens.rest.names same_back (x.refit.owners name o);
      single = ap weight x.can.single;
      goes_on = x.goes_on;
    }

  -- it took the text
  module _ (x : TakesText old new k.names text b.key X.node a b.gone.items steps steps') where
    abbrev other : Node
    other = with_text x.can.cell.head.text x.can.cell.text X.node

    subpatch : (entry_of X.node.element).head.form ≡ Sub
    subpatch = sub_form (entry_of X.node.element).head.form x.could.sub

    takes : ChangesBoxAt x.ready.grove new.grove path b.canvas b.key number X.node other
    takes = record {
      forest = x.could.can.forest;
      leads = led_there old x.ready x.room path b.canvas b.key number X.chosen.leads;
      is = is_there old x.ready x.room path b.canvas b.key number X.chosen.at;
      was = x.could.is;
      becomes = x.renamed.box.box ∙ ap (option_map (with_text x.can.cell.head.text x.can.cell.text)) x.could.is;
      inner = refl;
      sub = λ j e. subpatch;
      form = λ j e. subpatch;
      board = refl;
      others = x.renamed.box.others;
      boards = x.renamed.box.boards;
      root = x.renamed.box.root;
    }

    owns_as : (names : Names) (top : Bool) → owned_by names top (cell_in other) ≡ owned_by names top x.can.cell
    owns_as names top = canvas_alike names top (cell_in other) x.can.cell x.could.canvas x.can.canvas (subpatch ∙ sym x.can.form) refl

    renews_text : Renewed
    renews_text = record {
      ready = x.ready;
      room = x.room;
      from = x.ready;
      grove = refl;
      names = refl;
      node = other;
      changes = takes;
      steady = λ more e top. owns_as more top ∙ (steady_grown _ x.can.single more e top).0 ∙ sym (owns_as a.known.names top);
      owners = x.renamed.owners name;
      single = ap weight x.can.single;
      goes_on = x.goes_on;
    }

  by_case : Becomes old new k.names text now b.key X.node a b.gone.items steps steps' → Renewed
  by_case (inl x) = renews_box x
  by_case (inr x) = renews_text x

  pub renews : Renewed
  renews = by_case X.became
