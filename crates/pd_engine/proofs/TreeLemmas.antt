-- The tree that stands at a stage goes on to stand, and each name keeps its owners in text order.
use Rattle.std.proofs.Common.{◌≡◌, ◌≤◌, ◌+◌, ℕ, ℤ, max, Bool, true, List, [], length, slice_get, Some, inl, inr, refl, sym, ap, ◌∙◌, subst, arith}
use Rattle.std.specs.Prelude.{◌-◌}
use Rattle.std.specs.List.{AllByRecursion}
use Rattle.slab.specs.Slab.{get}
use Rattle.pd_atom.specs.Names.{Names, Extends}
use Rattle.pd_atom.specs.declared.Atom.{Atom}
use Rattle.pd_canvas.specs.declared.edits.Edit.{Edit}
use Rattle.pd_clock.specs.Queue.{Clock}
use Rattle.pd_name.specs.declared.Class.{Class}
use Rattle.pd_name.specs.Rows.{Row, owners_of}
use Rattle.pd_fit.specs.Fitting.{wires_inside}
use Rattle.pd_tree.specs.Trees.{Cell, Tree, weight}
use Rattle.pd_grove.specs.declared.grove.Grove.{Grove}
use Rattle.pd_grove.specs.OwnPaths.{sub_reached}
use Rattle.pd_grove.specs.Places.{CanvasStands}
use Rattle.pd_grove.specs.Refits.{at_place, Alters as AltersBox}
use Rattle.pd_grove.specs.Standing.{depth_of, GroveStands}
use Rattle.pd_grove.specs.TextOrder.{deep, Placed, placed_in_order}
use Rattle.pd_grove.proofs.PlaceLemmas.{seen_keys}
use Rattle.pd_grove.proofs.Standings.{seen_depth}
use Rattle.pd_bind.specs.Naming.{owned_by}
use Rattle.pd_bind.specs.Owning.{owners_in}
use Rattle.pd_web.specs.Canvases.{keys_at}
use Rattle.pd_web.specs.Changes.{wires_told}
use Rattle.pd_web.proofs.CountLemmas.{same_are_as_many}
use Rattle.pd_patch.specs.declared.patch.Patch.{Patch}
use Rattle.pd_patch.proofs.WayLemmas.{path_short}
use Rattle.pd_reload_law.proofs.StayLemmas.{grove_stays}
use Rattle.pd_regrowth_law.proofs.StepLemmas.{extends_on, extends_same}
use Rattle.pd_regrowth_law.specs.Canvases.{own_along}
use Rattle.pd_putting_law.specs.Puts.{put_at}
use Rattle.pd_putting_law.specs.Putting.{HasBoxLast}
use Rattle.pd_putting_law.proofs.PathLemmas.{sub_leads}
use Rattle.pd_putting_law.proofs.StandLemmas.{grove_put, path_along}
use Rattle.pd_wiring.specs.Changes.{CanRewire}
use Rattle.pd_wiring.proofs.AlikeLemmas.{rewires_alike}
use Rattle.pd_boxes.specs.Put.{CanPut, HasOwners as OwnersStand}
use Rattle.pd_boxes.specs.Room.{SameButRoom}
use Rattle.pd_boxes.proofs.RoomLemmas.{owners_same, room_put}
use Rattle.pd_gather.specs.Gather.{Known}
use Rattle.pd_adding.specs.declared.counts.Counts.{Counts}
use Rattle.pd_adding.specs.Counts.{AreWithin, with_boxes}
use Rattle.pd_adding.specs.Growing.{Added}
use Rattle.pd_alike_law.specs.Alike.{OwnAlike}
use Rattle.pd_alike_law.proofs.OwnedLemmas.{owners_same as owners_bare}
use Rattle.pd_alike_law.proofs.OwnerLemmas.{owners_alike}
use Rattle.pd_block.specs.Nets as block
use Rattle.pd_hearing.specs.Worlds.{Net, bare, net_of}
use Rattle.pd_stage.specs.Choices.{Base, Made, Choice, Makes}
use Rattle.pd_stage.specs.Stages.{Stage, with_ahead}
use Rattle.pd_stage.specs.Lawful.{StandsAt, known_at, IsPutIn, IsTakenOut, IsMovedTo, IsRetypedTo}
use Rattle.pd_stage.specs.Events.{stage_by, with_net}
use Rattle.pd_stage.specs.Times.{IsStageOf}
use Rattle.pd_stage.specs.Trees.{HasTree, HasOwners}
use Rattle.pd_stage.proofs.EditLemmas.{Changes, ButWires, but_wires, changed_stands, HasMoreRoom, Alters}
use Rattle.pd_taking_law.specs.Takes.{taken_at}
use Rattle.pd_taking_law.specs.Taking.{TakesBoxAt}
use Rattle.pd_taking_law.proofs.StandLemmas.{grove_less}
use Rattle.pd_stage.specs.PassedOn.{part_gone, counts_but, with_wires}
use Rattle.pd_stage.proofs.PassedOn.{is_moving, still_put}
use Rattle.pd_retyping_law.specs.Retypes.{retyped_at, SuitsAt}
use Rattle.pd_retyping_law.specs.Retyping.{cell_in}
use Rattle.pd_retyping_law.proofs.CountLemmas.{suits_there, weight_same as weight_retyped}
use Rattle.pd_retyping_law.proofs.StandLemmas.{grove_changed}
use Rattle.pd_shifted_law.specs.Shifts.{cell_at, shifted_at}
use Rattle.pd_shifted_law.proofs.CountLemmas.{weight_same}
use Rattle.pd_shifted_law.proofs.OwnerLemmas.{owned_placed}
use Rattle.pd_shifted_law.proofs.StandLemmas.{grove_shifted}
use Rattle.pd_engine.proofs.CameLemmas.{CameIn, came_in, owners_kept}
use Rattle.pd_engine.proofs.GrewLemmas.{bare as bare_boxes, leads, low as low_here, own_steady}
use Rattle.pd_engine.proofs.LessLemmas.{all_taken, box_weight, deep_taken, weight_out, weight_some, weight_taken}
use Rattle.pd_engine.proofs.LostLemmas.{boxes_left, many_gone, owners_left, still_puts, takes_box, wires_left}
use Rattle.pd_engine.proofs.PutLemmas.{deep_put, weight_put, all_both, all_put}
use Rattle.pd_engine.proofs.RenewLemmas.{Renews, renews}
use Rattle.pd_engine.proofs.RetypedLemmas.{all_retyped, deep_retyped}
use Rattle.pd_engine.proofs.RoomLemmas.{grove_room, sub_stays}
use Rattle.pd_engine.proofs.ShiftLemmas.{all_shifted, as_many, deep_shifted, owners_still, placed_by}

-- ---- what a block finds

abbrev block_by : Net → List Clock → block.Net
block_by n clocks = record {
  nodes = n.nodes;
  boards = n.boards;
  root = n.root;
  web = n.web;
  links = n.links;
  owners = n.owners;
  orders = n.orders;
  numbers = n.numbers;
  rate = n.rate;
  clocks = clocks;
  end = n.end;
}

-- a patch that stands at a stage is as it is there
stage_of : (p : Patch) (s : Stage) → s.net ≡ net_of p → CanRewire p → IsStageOf p s
stage_of p s e rewires = record { web = p.web; links = p.links; orders = p.orders; net = ap (λ (n : Net). block_by n s.clocks) e; rewires = rewires }

-- ---- wires that come and go

pub changed_tree : (s r : Stage) → Changes s r → HasTree s → HasTree r
changed_tree s r c t =
    let b : ButWires s r = but_wires s r c in
    record {
      patch = t.patch;
      tree = t.tree;
      stands = t.stands;
      of = changed_stands rewires_alike t.patch s r c t.of;
      shallow = t.shallow;
      boxes = subst (λ (x : Stage). x.base.counts.boxes ≡ weight t.tree.boxes) (sym b.is) (b.counted.boxes ∙ t.boxes);
      wires = subst (λ (x : Stage). x.base.counts.wires ≡ wires_told x.net.web) (sym b.is) (b.counted.wires t.wires);
      within = subst (λ (x : Stage). AreWithin x.base.counts) (sym b.is) (record {
        boxes = subst (λ (n : ℕ). n ≤ 16384) (sym b.counted.boxes) t.within.boxes;
        wires = b.counted.few t.wires t.within.wires;
        sound = subst (λ (n : ℕ). n ≤ 16777216) (sym b.counted.sound) t.within.sound;
        zeros = subst (λ (n : ℕ). n ≤ 1000000001) (sym b.counted.zeros) t.within.zeros;
      });
      own = t.own;
      apart = t.apart;
    }

pub changed_owners : (s r : Stage) (p : Patch) (t : Tree) → Changes s r → HasOwners s p t → HasOwners r p t
changed_owners s r p t c o =
    let b : ButWires s r = but_wires s r c in
    subst (λ (x : Stage). HasOwners x p t) (sym b.is) (record { table = o.table; goes_on = o.goes_on; owners = o.owners; alike = o.alike })

-- names that come change no owner
pub named_owners : (s r : Stage) (p : Patch) (t : Tree) → r.file ≡ s.file → Extends s.names r.names → HasOwners s p t → HasOwners r p t
named_owners s r p t file more o = record {
  table = o.table;
  goes_on = extends_on o.table s.names r.names o.goes_on more;
  owners = subst (λ (f : List ℕ). (class : Class) (name : ℕ) → owners_of p.names class name ≡ owners_in o.table f p.grove class name) (sym file) o.owners;
  alike = subst (λ (f : List ℕ). (names : Names) → Extends o.table names → OwnAlike o.table names f t.boxes) (sym file) o.alike;
}

-- ---- the patch that stands at the stage is another one than the one whose tree is known, with the same boxes

module _ (s : Stage) (t : HasTree s) (old : Patch) (at : StandsAt old s) where
  abbrev T : Tree
  T = t.tree

  at_nodes : (k : ℕ) → bare (get old.grove.nodes k) ≡ bare (get t.patch.grove.nodes k)
  at_nodes k = sym (ap (λ (n : Net). n.nodes k) at.net) ∙ ap (λ (n : block.Net). n.nodes k) t.of.net

  at_boards : old.grove.boards ≡ t.patch.grove.boards
  at_boards = sym (ap (λ (n : Net). n.boards) at.net) ∙ ap (λ (n : block.Net). n.boards) t.of.net

  at_root : old.grove.root ≡ t.patch.grove.root
  at_root = sym (ap (λ (n : Net). n.root) at.net) ∙ ap (λ (n : block.Net). n.root) t.of.net

  at_names : old.names ≡ t.patch.names
  at_names = sym (ap (λ (n : Net). n.owners) at.net) ∙ ap (λ (n : block.Net). n.owners) t.of.net

  pub at_stands : GroveStands old.grove T.sheet T.boxes
  at_stands = grove_stays t.patch.grove old.grove T.sheet T.boxes at_nodes at_boards at_root t.stands

  pub at_wires : s.base.counts.wires ≡ wires_told old.web
  at_wires = t.wires ∙ ap (λ (n : Net). wires_told n.web) at.net

  pub at_owners : HasOwners s t.patch T → HasOwners s old T
  at_owners o = record {
    table = o.table;
    goes_on = o.goes_on;
    owners = λ class name. ap (λ (rows : List Row). owners_of rows class name) at_names ∙ o.owners class name
        ∙ sym (owners_bare o.table s.file t.patch.grove old.grove class name at_nodes at_boards at_root);
    alike = o.alike;
  }

  -- room was set aside
  module _ (new : Patch) (S : SameButRoom old new) where
    room_stands : GroveStands new.grove T.sheet T.boxes
    room_stands = grove_room old.grove new.grove S.grove T.sheet T.boxes at_stands

    room_wires : s.base.counts.wires ≡ wires_told new.web
    room_wires = at_wires ∙ sym (same_are_as_many old.web new.web S.web)

    room_owners : HasOwners s t.patch T → HasOwners s new T
    room_owners o =
        let q : HasOwners s old T = at_owners o in
        record {
          table = q.table;
          goes_on = q.goes_on;
          owners = λ class name. S.names class name ∙ q.owners class name ∙ sym (owners_same old.grove new.grove S.grove q.table s.file class name);
          alike = q.alike;
        }

-- a box could have come, or become another one, and there may be more room
module _ (s r : Stage) (t : HasTree s) (h : HasMoreRoom s r) where
  stands_there : StandsAt h.old s
  stands_there = record { net = h.stands.net; states = h.stands.states; puts = h.stands.puts; meet = h.stands.meet }

  abbrev roomy : Stage
  roomy = with_net (with_ahead s h.ahead) (net_of h.new)

  pub roomy_tree : HasTree (with_net (with_ahead s h.ahead) (net_of h.new))
  roomy_tree = record {
    patch = h.new;
    tree = t.tree;
    stands = room_stands s t h.old stands_there h.new h.room;
    of = stage_of h.new roomy refl h.goes_on.runs;
    shallow = t.shallow;
    boxes = t.boxes;
    wires = room_wires s t h.old stands_there h.new h.room;
    within = t.within;
    own = h.goes_on.forest.own;
    apart = h.goes_on.apart;
  }

  pub roomy_owners : HasOwners s t.patch t.tree → HasOwners (with_net (with_ahead s h.ahead) (net_of h.new)) h.new t.tree
  roomy_owners o =
      let q : HasOwners s h.new t.tree = room_owners s t h.old stands_there h.new h.room o in
      record { table = q.table; goes_on = q.goes_on; owners = q.owners; alike = q.alike }

-- ---- a box came

module _ (s : Stage) (t : HasTree s) (path : List ℕ) (e : Edit) (m : Made) (ahead : List Choice) (h : IsPutIn (with_ahead s []) path e m) where
  abbrev a : Added
  a = h.adds.added

  -- what came in
  came : CameIn h.old h.new a h.box.key
  came =
      came_in h.old h.new s.time a h.box.key h.stands.puts (bare_boxes h.old s.base.counts s.file path e (known_at s) h.adds.files a h.adds.grew) h.adds.put

  abbrev ready : Patch
  ready = came.ready

  stands_at : StandsAt h.old s
  stands_at = record { net = h.stands.net; states = h.stands.states; puts = h.stands.puts; meet = h.stands.meet }

  ready_stands : GroveStands ready.grove t.tree.sheet t.tree.boxes
  ready_stands = room_stands s t h.old stands_at ready came.room

  ready_can : CanPut ready
  ready_can = room_put h.old ready came.room h.stands.puts

  led : sub_reached h.old.grove (Some h.old.grove.root) path ≡ Some a.canvas
  led = leads h.old s.base.counts s.file path e (known_at s) h.adds.files a h.adds.grew

  last : HasBoxLast ready.grove h.new.grove path a.canvas h.box.key
  last = record {
    forest = ready_can.forest;
    leads = sub_stays h.old.grove ready.grove came.room.grove path (Some ready.grove.root) ∙ ap (λ (r : ℕ). sub_reached h.old.grove (Some r) path) came.room.grove.root ∙ led;
    part = came.part;
    root = came.root;
  }

  -- the tree with it
  abbrev pub more_tree : Tree
  more_tree = put_at path a.boxes t.tree

  pub stands_more : GroveStands h.new.grove more_tree.sheet more_tree.boxes
  stands_more = grove_put ready.grove h.new.grove path a.canvas h.box.key t.tree a.boxes last ready_stands came.stands

  counted_more : m.base.counts ≡ with_boxes h.old.rate a.boxes s.base.counts
  counted_more = ap (λ (x : Base). x.counts) h.base ∙ h.adds.counts ∙ h.adds.grew.counts

  pub boxes_more : m.base.counts.boxes ≡ weight more_tree.boxes
  boxes_more =
      let along = path_along ready.grove path a.canvas t.tree ready_can.forest ready_stands last.leads in
      let one : m.base.counts.boxes ≡ s.base.counts.boxes + weight a.boxes = ap (λ (n : Counts). n.boxes) counted_more in
      let more : weight more_tree.boxes ≡ weight t.tree.boxes + weight a.boxes = weight_put a.boxes path t.tree along.0 along.1 in
      let was : s.base.counts.boxes ≡ weight t.tree.boxes = t.boxes in
      omega (arith, one, more, was)

  wires_more : m.base.counts.wires ≡ wires_told m.net.web
  wires_more =
      let was : s.base.counts.wires ≡ wires_told ready.web = room_wires s t h.old stands_at ready came.room in
      let more : wires_told h.new.web ≡ wires_told ready.web + wires_inside a.boxes = came.wires in
      let sum : m.base.counts.wires ≡ s.base.counts.wires + wires_inside a.boxes = ap (λ (n : Counts). n.wires) counted_more in
      let net : wires_told m.net.web ≡ wires_told h.new.web = ap (λ (n : Net). wires_told n.web) h.net in
      omega (arith, was, more, sum, net)

  -- its path has no more numbers than canvases lie in one another
  pub low_more : deep more_tree.boxes ≤ 255
  low_more =
      let low : deep t.tree.boxes ≤ 255 = t.shallow in
      let short : length path ≤ deep t.tree.boxes =
      path_short h.old.grove t.tree.sheet t.tree.boxes path a.canvas (at_stands s t h.old stands_at) (sub_leads h.old.grove h.old.grove.root a.canvas path led) in
      let here : length path + deep a.boxes ≤ 255 =
      low_here h.old s.base.counts s.file path e (known_at s) h.adds.files a h.adds.grew (omega (arith, low, short)) in
      let most : deep more_tree.boxes ≤ max (deep t.tree.boxes) (length path + deep a.boxes) = deep_put a.boxes path t.tree in
      omega (arith, low, here, most)

  pub new_tree : HasTree (stage_by (with_ahead s ahead) (Makes m))
  new_tree = record {
    patch = h.new;
    tree = more_tree;
    stands = stands_more;
    of = stage_of h.new (stage_by (with_ahead s ahead) (Makes m)) h.net came.goes_on.runs;
    shallow = low_more;
    boxes = boxes_more;
    wires = wires_more;
    within = h.within;
    own = came.goes_on.forest.own;
    apart = came.goes_on.apart;
  }

  -- the names of the table after it
  names_are : m.names ≡ a.known.names
  names_are = h.names ∙ ap (λ (k : Known). k.names) h.adds.known_is

  abbrev Same : Names → Names → Placed → Type 0
  Same names more p = owned_by more p.is_top p.cell ≡ owned_by names p.is_top p.cell

  own_more : (more : Names) → Extends a.known.names more → (top : Bool) → AllByRecursion (Same a.known.names more) (placed_in_order top a.boxes)
  own_more more x top = own_steady h.old s.base.counts s.file path e (known_at s) h.adds.files a h.adds.grew h.adds.written more x top

  pub new_owners : HasOwners s t.patch t.tree → HasOwners (stage_by (with_ahead s ahead) (Makes m)) h.new more_tree
  new_owners o =
      let q : HasOwners s ready t.tree = room_owners s t h.old stands_at ready came.room o in
      let on : Extends q.table m.names = extends_on q.table s.names m.names q.goes_on h.more in
      let onward : Extends q.table a.known.names = subst (λ (n : Names). Extends q.table n) names_are on in
      let low : deep t.tree.boxes ≤ 256 = (let l = t.shallow in omega (arith, l)) in
      let before : OwnersStand ready a.known.names s.file = λ class name.
      q.owners class name ∙ sym (owners_alike q.table a.known.names s.file ready.grove t.tree.sheet t.tree.boxes class name ready_stands low (q.alike a.known.names onward)) in
      let after : OwnersStand h.new a.known.names s.file = came.owners s.file before in
      record {
        table = m.names;
        goes_on = extends_same m.names;
        owners = subst (λ (n : Names). OwnersStand h.new n s.file) (sym names_are) after;
        alike = subst (λ (n : Names). (more : Names) → Extends n more → OwnAlike n more s.file more_tree.boxes) (sym names_are) (λ more x.
            let first : OwnAlike q.table a.known.names s.file t.tree.boxes = q.alike a.known.names onward in
            let further : OwnAlike q.table more s.file t.tree.boxes = q.alike more (extends_on q.table a.known.names more onward x) in
            record {
              root = further.root ∙ sym first.root;
              boxes = all_put (Same a.known.names more) a.boxes (own_more more x) path true t.tree
                  (all_both (Same q.table a.known.names) (Same q.table more) (Same a.known.names more) (λ p f g. g ∙ sym f) (placed_in_order true t.tree.boxes) first.boxes further.boxes);
            });
      }

-- ---- a box went

module _ (s : Stage) (t : HasTree s) (path : List ℕ) (number : ℕ) (m : Made) (ahead : List Choice) (h : IsTakenOut (with_ahead s []) path number m) where
  abbrev key : ℕ
  key = h.box.key

  abbrev canvas : ℕ
  canvas = h.box.canvas

  stands_first : StandsAt h.old s
  stands_first = record { net = h.stands.net; states = h.stands.states; puts = h.stands.puts; meet = h.stands.meet }

  runs_on : CanPut h.new
  runs_on = still_puts h.old h.new s.base.counts s.names path number h.steps h.steps' h.box h.deletes

  takes : TakesBoxAt h.old.grove h.new.grove path canvas key number
  takes = takes_box h.old h.new s.base.counts s.names path number h.steps h.steps' h.box h.deletes h.stands.puts

  -- the tree without it
  abbrev pub fewer_tree : Tree
  fewer_tree = taken_at path number t.tree

  stands_fewer : GroveStands h.new.grove fewer_tree.sheet fewer_tree.boxes
  stands_fewer = grove_less h.old.grove h.new.grove path canvas key number t.tree takes (at_stands s t h.old stands_first)

  counted_fewer : m.base.counts ≡ h.box.counts
  counted_fewer = ap (λ (x : Base). x.counts) h.base

  abbrev part : List ℕ
  part = part_gone h.old h.new s.base.counts s.names path number h.steps h.steps' h.box h.deletes

  boxes_fewer : m.base.counts.boxes ≡ weight fewer_tree.boxes
  boxes_fewer =
      let g : Grove = h.old.grove in
      let along = path_along g path canvas t.tree h.stands.puts.forest (at_stands s t h.old stands_first) takes.leads in
      let u : Tree = along.0 in
      let C : CanvasStands g canvas u = along.2 in
      let has : keys_at g canvas ≡ C.keys = seen_keys (get g.boards canvas) _ C.board in
      let at : slice_get C.keys number ≡ Some key = ap (λ (ks : List ℕ). slice_get ks number) (sym has) ∙ takes.is in
      let many : length part ≡ box_weight number u.boxes =
      many_gone h.old h.new s.base.counts s.names path number h.steps h.steps' h.box h.stands.puts C.depth C.keys u.boxes C.stands (seen_depth (get g.boards canvas) _ C.board) has at h.deletes in
      let fewer : weight fewer_tree.boxes + box_weight number u.boxes ≡ weight t.tree.boxes =
      weight_taken path number (box_weight number u.boxes) t.tree u along.1 (weight_out number u.boxes) in
      let one : m.base.counts.boxes ≡ s.base.counts.boxes - length part =
      ap (λ (n : Counts). n.boxes) counted_fewer ∙ boxes_left h.old h.new s.base.counts s.names path number h.steps h.steps' h.box h.deletes in
      let was : s.base.counts.boxes ≡ weight t.tree.boxes = t.boxes in
      omega (arith, fewer, one, was, many)

  wires_fewer : m.base.counts.wires ≡ wires_told m.net.web
  wires_fewer =
      ap (λ (n : Counts). n.wires) counted_fewer ∙ wires_left h.old h.new s.base.counts s.names path number h.steps h.steps' h.box h.deletes
      ∙ sym (ap (λ (n : Net). wires_told n.web) h.net)

  pub lost_tree : HasTree (stage_by (with_ahead s ahead) (Makes m))
  lost_tree = record {
    patch = h.new;
    tree = fewer_tree;
    stands = stands_fewer;
    of = stage_of h.new (stage_by (with_ahead s ahead) (Makes m)) h.net runs_on.runs;
    shallow = (let less = deep_taken path number t.tree in let low = t.shallow in omega (arith, less, low));
    boxes = boxes_fewer;
    wires = wires_fewer;
    within = h.within;
    own = runs_on.forest.own;
    apart = runs_on.apart;
  }

  abbrev Alike : Names → Names → Placed → Type 0
  Alike names more p = owned_by more p.is_top p.cell ≡ owned_by names p.is_top p.cell

  owners_first : (table : Names) → Extends table s.names → OwnersStand h.old table s.file → OwnAlike table s.names s.file t.tree.boxes → OwnersStand h.new s.names s.file
  owners_first table on o same =
      let low : deep t.tree.boxes ≤ 256 = (let l = t.shallow in omega (arith, l)) in
      let before : OwnersStand h.old s.names s.file = λ class name.
      o class name ∙ sym (owners_alike table s.names s.file h.old.grove t.tree.sheet t.tree.boxes class name (at_stands s t h.old stands_first) low same) in
      owners_left h.old h.new s.base.counts s.names path number h.steps h.steps' h.box h.deletes s.file before

  pub lost_owners : HasOwners s t.patch t.tree → HasOwners (stage_by (with_ahead s ahead) (Makes m)) h.new fewer_tree
  lost_owners o =
      let q : HasOwners s h.old t.tree = at_owners s t h.old stands_first o in
      let first : OwnAlike q.table s.names s.file t.tree.boxes = q.alike s.names q.goes_on in
      record {
        table = m.names;
        goes_on = extends_same m.names;
        owners = subst (λ (n : Names). OwnersStand h.new n s.file) (sym h.names) (owners_first q.table q.goes_on q.owners first);
        alike = subst (λ (n : Names). (more : Names) → Extends n more → OwnAlike n more s.file fewer_tree.boxes) (sym h.names) (λ more x.
            let further : OwnAlike q.table more s.file t.tree.boxes = q.alike more (extends_on q.table s.names more q.goes_on x) in
            record {
              root = further.root ∙ sym first.root;
              boxes = all_taken (Alike s.names more) path number true t.tree
                  (all_both (Alike q.table s.names) (Alike q.table more) (Alike s.names more) (λ p f g. g ∙ sym f) (placed_in_order true t.tree.boxes) first.boxes further.boxes);
            });
      }

-- ---- a box moved

-- what a box owns hangs on no place
same_placed : (names more : Names) (x y : ℤ) (top : Bool) (c : Cell) → owned_by more top c ≡ owned_by names top c → owned_by more top (cell_at x y c) ≡ owned_by names top (cell_at x y c)
same_placed names more x y top c e = owned_placed more top x y c c.kind ∙ e ∙ sym (owned_placed names top x y c c.kind)

module _ (s : Stage) (t : HasTree s) (path : List ℕ) (number : ℕ) (x y : ℤ) (m : Made) (ahead : List Choice) (h : IsMovedTo (with_ahead s []) path number x y m) where
  stands_where : StandsAt h.old s
  stands_where = record { net = h.stands.net; states = h.stands.states; puts = h.stands.puts; meet = h.stands.meet }

  runs_still : CanPut h.new
  runs_still = still_put h.old h.new path number x y h.box h.moves h.stands.puts

  -- the tree with it at its place
  abbrev pub other_tree : Tree
  other_tree = shifted_at path number x y t.tree

  placed_there : AltersBox h.old.grove h.new.grove h.box.key (at_place x y)
  placed_there = placed_by h.old h.new h.box.canvas h.box.key x y h.moves.shifts

  stands_other : GroveStands h.new.grove other_tree.sheet other_tree.boxes
  stands_other =
      let g : Grove = h.old.grove in
      let at = is_moving g number (sub_reached g (Some g.root) path) h.box.canvas h.box.key h.moves.is in
      grove_shifted g h.new.grove h.box.canvas h.box.key number x y h.stands.puts.forest at.is placed_there path t.tree at.leads (at_stands s t h.old stands_where)

  wires_still : m.base.counts.wires ≡ wires_told m.net.web
  wires_still =
      ap (λ (b : Base). b.counts.wires) h.base ∙ at_wires s t h.old stands_where
      ∙ sym (ap (λ (n : Net). wires_told n.web) h.net ∙ as_many h.old h.new h.box.canvas h.box.key x y h.moves.shifts)

  pub moved_tree : HasTree (stage_by (with_ahead s ahead) (Makes m))
  moved_tree = record {
    patch = h.new;
    tree = other_tree;
    stands = stands_other;
    of = stage_of h.new (stage_by (with_ahead s ahead) (Makes m)) h.net runs_still.runs;
    shallow = subst (λ (n : ℕ). n ≤ 255) (sym (deep_shifted path number x y t.tree)) t.shallow;
    boxes = ap (λ (b : Base). b.counts.boxes) h.base ∙ t.boxes ∙ sym (weight_same path number x y t.tree);
    wires = wires_still;
    within = subst (λ (b : Base). AreWithin b.counts) (sym h.base) t.within;
    own = runs_still.forest.own;
    apart = runs_still.apart;
  }

  abbrev Owns : Names → Names → Placed → Type 0
  Owns names more p = owned_by more p.is_top p.cell ≡ owned_by names p.is_top p.cell

  pub moved_owners : HasOwners s t.patch t.tree → HasOwners (stage_by (with_ahead s ahead) (Makes m)) h.new other_tree
  moved_owners o =
      let q : HasOwners s h.old t.tree = at_owners s t h.old stands_where o in
      record {
        table = q.table;
        goes_on = subst (λ (n : Names). Extends q.table n) (sym h.names) q.goes_on;
        owners = owners_still h.old h.new h.box.canvas h.box.key x y q.table s.file h.moves.shifts q.owners;
        alike = λ more on.
            let was : OwnAlike q.table more s.file t.tree.boxes = q.alike more on in
            record { root = was.root; boxes = all_shifted (Owns q.table more) x y (same_placed q.table more x y) path number true t.tree was.boxes };
      }

-- ---- a box became another one, or took another text

module _ (s : Stage) (t : HasTree s) (path : List ℕ) (number : ℕ) (text : List Atom) (m : Made) (ahead : List Choice) (h : IsRetypedTo (with_ahead s []) path number text m) where
  pub R : Renews h.old h.new s.file path h.box.canvas h.box.key number h.retypes.node h.retypes.added
  R = renews h.old h.new s.base.counts s.file path number text s.time (known_at s) h.after h.steps h.steps' h.box h.retypes

  stands_before : StandsAt h.old s
  stands_before = record { net = h.stands.net; states = h.stands.states; puts = h.stands.puts; meet = h.stands.meet }

  -- the boxes are those of the patch in which room was set aside
  stood : GroveStands R.from.grove t.tree.sheet t.tree.boxes
  stood = subst (λ (g : Grove). GroveStands g t.tree.sheet t.tree.boxes) (sym R.grove) (room_stands s t h.old stands_before R.ready R.room)

  -- the tree with the new box
  abbrev pub new_cell : Cell
  new_cell = cell_in R.node

  abbrev pub renewed_tree : Tree
  renewed_tree = retyped_at path number new_cell t.tree

  stands_renewed : GroveStands h.new.grove renewed_tree.sheet renewed_tree.boxes
  stands_renewed = grove_changed R.from.grove h.new.grove path h.box.canvas h.box.key number h.retypes.node R.node R.changes t.tree stood

  -- the canvas of the box
  along : (u : Tree) × (own_along path t.tree ≡ Some u) × CanvasStands R.from.grove h.box.canvas u × (depth_of (get R.from.grove.boards h.box.canvas) ≡ length path)
  along = path_along R.from.grove path h.box.canvas t.tree R.changes.forest stood R.changes.leads

  counted_renewed : m.base.counts ≡ with_wires (with_boxes h.old.rate h.retypes.added.boxes (counts_but h.old.rate h.retypes.node s.base.counts)) (wires_told h.new.web)
  counted_renewed = ap (λ (x : Base). x.counts) h.base ∙ h.retypes.counts ∙ ap (λ (n : Counts). with_wires n (wires_told h.new.web)) h.retypes.grew.counts

  boxes_renewed : m.base.counts.boxes ≡ weight renewed_tree.boxes
  boxes_renewed =
      let g : Grove = R.from.grove in
      let u : Tree = along.0 in
      let C : CanvasStands g h.box.canvas u = along.2 in
      let at : slice_get C.keys number ≡ Some h.box.key = ap (λ (ks : List ℕ). slice_get ks number) (sym (seen_keys (get g.boards h.box.canvas) _ C.board)) ∙ R.changes.is in
      let some : 1 ≤ box_weight number u.boxes = weight_some (get g.nodes) (get g.boards) h.box.canvas C.depth C.keys u.boxes number h.box.key C.stands at in
      let less : weight (taken_at path number t.tree).boxes + box_weight number u.boxes ≡ weight t.tree.boxes =
      weight_taken path number (box_weight number u.boxes) t.tree u along.1 (weight_out number u.boxes) in
      let one : m.base.counts.boxes ≡ s.base.counts.boxes - 1 + weight h.retypes.added.boxes = ap (λ (n : Counts). n.boxes) counted_renewed in
      let single : weight h.retypes.added.boxes ≡ 1 = R.single in
      let same : weight renewed_tree.boxes ≡ weight t.tree.boxes = weight_retyped path number new_cell t.tree in
      let was : s.base.counts.boxes ≡ weight t.tree.boxes = t.boxes in
      omega (arith, some, less, one, single, same, was)

  wires_renewed : m.base.counts.wires ≡ wires_told m.net.web
  wires_renewed = ap (λ (n : Counts). n.wires) counted_renewed ∙ sym (ap (λ (n : Net). wires_told n.web) h.net)

  pub retyped_tree : HasTree (stage_by (with_ahead s ahead) (Makes m))
  retyped_tree = record {
    patch = h.new;
    tree = renewed_tree;
    stands = stands_renewed;
    of = stage_of h.new (stage_by (with_ahead s ahead) (Makes m)) h.net R.goes_on.runs;
    shallow = subst (λ (n : ℕ). n ≤ 255) (sym (deep_retyped path number new_cell t.tree)) t.shallow;
    boxes = boxes_renewed;
    wires = wires_renewed;
    within = h.within;
    own = R.goes_on.forest.own;
    apart = R.goes_on.apart;
  }

  -- the names of the table after it
  abbrev later_names : Names
  later_names = h.retypes.added.known.names

  later_are : m.names ≡ later_names
  later_are = h.names ∙ ap (λ (k : Known). k.names) h.retypes.known_is

  abbrev Steady : Names → Names → Placed → Type 0
  Steady names more p = owned_by more p.is_top p.cell ≡ owned_by names p.is_top p.cell

  suits : SuitsAt number new_cell along.0.boxes
  suits = suits_there R.from.grove h.new.grove path h.box.canvas h.box.key number h.retypes.node R.node R.changes along.0 along.2

  pub retyped_owners : HasOwners s t.patch t.tree → HasOwners (stage_by (with_ahead s ahead) (Makes m)) h.new renewed_tree
  retyped_owners o =
      let q : HasOwners s R.ready t.tree = room_owners s t h.old stands_before R.ready R.room o in
      let on : Extends q.table m.names = extends_on q.table s.names m.names q.goes_on h.more in
      let onward : Extends q.table later_names = subst (λ (n : Names). Extends q.table n) later_are on in
      let low : deep t.tree.boxes ≤ 256 = (let l = t.shallow in omega (arith, l)) in
      let first : OwnersStand R.from q.table s.file = owners_kept R.ready R.from q.table s.file R.names R.grove q.owners in
      let before : OwnersStand R.from later_names s.file = λ class name.
      first class name ∙ sym (owners_alike q.table later_names s.file R.from.grove t.tree.sheet t.tree.boxes class name stood low (q.alike later_names onward)) in
      let after : OwnersStand h.new later_names s.file = R.owners before in
      record {
        table = m.names;
        goes_on = extends_same m.names;
        owners = subst (λ (n : Names). OwnersStand h.new n s.file) (sym later_are) after;
        alike = subst (λ (n : Names). (more : Names) → Extends n more → OwnAlike n more s.file renewed_tree.boxes) (sym later_are) (λ more x.
            let first : OwnAlike q.table later_names s.file t.tree.boxes = q.alike later_names onward in
            let further : OwnAlike q.table more s.file t.tree.boxes = q.alike more (extends_on q.table later_names more onward x) in
            record {
              root = further.root ∙ sym first.root;
              boxes = all_retyped (Steady later_names more) new_cell (R.steady more x) path number along.0 suits true t.tree along.1
                  (all_both (Steady q.table later_names) (Steady q.table more) (Steady later_names more) (λ p f g. g ∙ sym f) (placed_in_order true t.tree.boxes) first.boxes further.boxes);
            });
      }

-- ---- any edit

pub altered_tree : (s r : Stage) → Alters s r → HasTree s → HasTree r
altered_tree s r (inl c) t = changed_tree s r c t
altered_tree s r (inr (inl b)) t = subst HasTree (sym b.is) (new_tree s t b.path b.edit b.made b.ahead b.put)
altered_tree s r (inr (inr (inl b))) t = subst HasTree (sym b.is) (lost_tree s t b.path b.number b.made b.ahead b.taken)
altered_tree s r (inr (inr (inr (inl b)))) t = subst HasTree (sym b.is) (moved_tree s t b.path b.number b.x b.y b.made b.ahead b.moved)
altered_tree s r (inr (inr (inr (inr (inl b))))) t = subst HasTree (sym b.is) (retyped_tree s t b.path b.number b.text b.made b.ahead b.retyped)
altered_tree s r (inr (inr (inr (inr (inr l))))) t = subst HasTree (sym l.is) (roomy_tree s r t l)

-- a tree that stands, with the owners of names
pub record HasBoth (s : Stage) : Type 0 where
  pub tree : HasTree s
  pub owners : HasOwners s tree.patch tree.tree

pub altered_both : (s r : Stage) → Alters s r → HasBoth s → HasBoth r
unfolding changed_tree new_tree lost_tree moved_tree retyped_tree roomy_tree
altered_both s r (inl c) t = record { tree = changed_tree s r c t.tree; owners = changed_owners s r t.tree.patch t.tree.tree c t.owners }
altered_both s r (inr (inl n)) t =
    subst HasBoth (sym n.is) (record {
      tree = new_tree s t.tree n.path n.edit n.made n.ahead n.put;
      owners = new_owners s t.tree n.path n.edit n.made n.ahead n.put t.owners;
    })
altered_both s r (inr (inr (inl b))) t =
    subst HasBoth (sym b.is) (record {
      tree = lost_tree s t.tree b.path b.number b.made b.ahead b.taken;
      owners = lost_owners s t.tree b.path b.number b.made b.ahead b.taken t.owners;
    })
altered_both s r (inr (inr (inr (inl b)))) t =
    subst HasBoth (sym b.is) (record {
      tree = moved_tree s t.tree b.path b.number b.x b.y b.made b.ahead b.moved;
      owners = moved_owners s t.tree b.path b.number b.x b.y b.made b.ahead b.moved t.owners;
    })
altered_both s r (inr (inr (inr (inr (inl b))))) t =
    subst HasBoth (sym b.is) (record {
      tree = retyped_tree s t.tree b.path b.number b.text b.made b.ahead b.retyped;
      owners = retyped_owners s t.tree b.path b.number b.text b.made b.ahead b.retyped t.owners;
    })
altered_both s r (inr (inr (inr (inr (inr l))))) t = subst HasBoth (sym l.is) (record { tree = roomy_tree s r t.tree l; owners = roomy_owners s r t.tree l t.owners })
