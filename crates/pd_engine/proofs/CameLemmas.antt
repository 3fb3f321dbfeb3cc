-- A box that an edit put: with all that lies in it, or as a port of the box around.
use Rattle.std.proofs.Common.{◌≡◌, ◌<◌, ◌+◌, ℕ, List, [], ◌∷◌, drop, take, length, Option, Some, None, inl, inr, refl, sym, ap, ◌∙◌, subst, arith}
use Rattle.std.proofs.Math.Seq.{take-length, drop-length}
use Rattle.std.proofs.lemmas.Option.{none-some, same_Some}
use Rattle.std.specs.Prelude.{is_some, option_map, filter}
use Rattle.slab.specs.Slab.{get}
use Rattle.pd_atom.specs.Names.{Names}
use Rattle.pd_canvas.specs.declared.wires.Wire.{Wire}
use Rattle.pd_fit.specs.Fitting.{wires_inside}
use Rattle.pd_tree.specs.declared.rows.Sheet.{Sheet}
use Rattle.pd_tree.specs.Ports.{fits}
use Rattle.pd_tree.specs.Trees.{Cell, Trees, Done, Leaf, Holder, Stand, stand_of, width}
use Rattle.pd_grove.specs.declared.boards.Board.{Board}
use Rattle.pd_grove.specs.declared.grove.Grove.{Grove}
use Rattle.pd_grove.specs.declared.seeds.Seed.{Seed}
use Rattle.pd_grove.specs.Forest.{IsForest}
use Rattle.pd_grove.specs.Grafts.{HasBoxMore, HasPartMore}
use Rattle.pd_grove.specs.Standing.{BoardSeen, board_seen, node_seen, Stands, depth_of}
use Rattle.pd_grove.specs.TextOrder.{deep}
use Rattle.pd_grove.proofs.ComeLemmas.{part_more}
use Rattle.pd_grove.proofs.GraftLemmas.{forest_more}
use Rattle.pd_web.specs.declared.web.Web.{Web}
use Rattle.pd_web.specs.Canvases.{HoldersAreNoPorts, keys_at}
use Rattle.pd_web.specs.Changes.{line_told, wires_told}
use Rattle.pd_web.proofs.CountLemmas.{held_alike}
use Rattle.pd_patch.specs.declared.patch.Patch.{Patch}
use Rattle.pd_boxes.specs.declared.room.Place.{Place}
use Rattle.pd_boxes.specs.Put.{CanPut, HasOwners, ComesIn, node_of, keys_before, keys_behind}
use Rattle.pd_boxes.specs.Room.{SameButRoom}
use Rattle.pd_boxes.proofs.RoomLemmas.{keys_same, room_put}
use Rattle.pd_subpatches.specs.Shell.{ShellComesIn}
use Rattle.pd_subpatches.proofs.PartLemmas.{comes_as_part, stands_as_box}
use Rattle.pd_adding.specs.Growing.{Added}
use Rattle.pd_stage.specs.PassedOn.{last_place, IsBoxPut, IsSubPut, IsPortBoxPut, IsPartBoxPut, HasCome}
use Rattle.pd_stage.proofs.PassedOn.{part_wires}
use Rattle.pd_stage.proofs.FedLemmas.{told_some}

-- What came into a patch in which room was set aside: the last box of a canvas, with what lies in it, and the wires that fit in it.
pub record CameIn (old new : Patch) (a : Added) (key : ℕ) : Type 0 where
  pub ready : Patch
  pub room : SameButRoom old ready
  pub part : HasPartMore (get ready.grove.nodes) (get new.grove.nodes) (get ready.grove.boards) (get new.grove.boards) a.canvas key (keys_at ready.grove a.canvas) []
  pub root : new.grove.root ≡ ready.grove.root
  pub stands : Stands (get new.grove.nodes) (get new.grove.boards) a.canvas (depth_of (get ready.grove.boards a.canvas)) (key ∷ []) a.boxes
  pub wires : wires_told new.web ≡ wires_told ready.web + wires_inside a.boxes
  pub owners : (file : List ℕ) → HasOwners ready a.known.names file → HasOwners new a.known.names file
  pub goes_on : CanPut new

-- a canvas lies as deep where all that is seen of it is as before
seen_alike : (o q : Option Board) → option_map board_seen q ≡ option_map board_seen o → depth_of q ≡ depth_of o
seen_alike None None h = refl
seen_alike (Some b) None h = absurd (none-some (board_seen b) h)
seen_alike None (Some c) h = absurd (none-some (board_seen c) (sym h))
seen_alike (Some b) (Some c) h = ap (λ (s : BoardSeen). s.depth) (same_Some (board_seen c) (board_seen b) h)

-- as many wires
pub lines_as_many : (w w' : Web) → ((k : ℕ) → line_told w' k ≡ line_told w k) → wires_told w' ≡ wires_told w
lines_as_many w w' same = held_alike w.book.wires w'.book.wires (λ k. sym (told_some w' k) ∙ ap is_some (same k) ∙ told_some w k)

-- owners stay with names and boxes
pub owners_kept : (p q : Patch) (table : Names) (file : List ℕ) → q.names ≡ p.names → q.grove ≡ p.grove → HasOwners p table file → HasOwners q table file
owners_kept p q table file names grove o = λ class name. rw (names, grove) (o class name)

-- no wire of a canvas without boxes fits
none_fit : (ws : List Wire) → length (filter (fits []) ws) ≡ 0
none_fit [] = refl
none_fit (w ∷ ws) = none_fit ws

-- no wire came, and none fits in what did
no_more : (w w' : Web) (t : Trees) → wires_told w' ≡ wires_told w → wires_inside t ≡ 0 → wires_told w' ≡ wires_told w + wires_inside t
no_more w w' t same none = omega (arith, same, none)

module _ (old new : Patch) (now : ℕ) (a : Added) (key : ℕ) where
  abbrev place : Place
  place = last_place old a.canvas

  -- behind all boxes of its canvas
  module _ (ready : Patch) (R : SameButRoom old ready) where
    keys_ready : keys_at ready.grove a.canvas ≡ keys_at old.grove a.canvas
    keys_ready = keys_same old.grove ready.grove R.grove a.canvas

    before_is : keys_before ready place ≡ keys_at ready.grove a.canvas
    before_is = ap (λ (ks : List ℕ). take (length ks) (keys_at ready.grove a.canvas)) (sym keys_ready) ∙ take-length (keys_at ready.grove a.canvas)

    behind_is : keys_behind ready place ≡ []
    behind_is = ap (λ (ks : List ℕ). drop (length ks) (keys_at ready.grove a.canvas)) (sym keys_ready) ∙ drop-length (keys_at ready.grove a.canvas)

    abbrev PartIn : List ℕ → List ℕ → Type 0
    PartIn before behind = HasPartMore (get ready.grove.nodes) (get new.grove.nodes) (get ready.grove.boards) (get new.grove.boards) a.canvas key before behind

    last_part : PartIn (keys_before ready place) (keys_behind ready place) → PartIn (keys_at ready.grove a.canvas) []
    last_part p = subst (λ (ks : List ℕ). PartIn ks []) before_is (subst (λ (ks : List ℕ). PartIn (keys_before ready place) ks) behind_is p)

  -- a box without a canvas
  module _ (can : CanPut old) (ready : Patch) (R : SameButRoom old ready) (cell : Cell) (single : a.boxes ≡ Leaf cell Done) (seed : Seed)
      (is_row : stand_of seed.row ≡ record { cell = cell; sheet = None; boxes = 0 })
      (more : HasBoxMore (get ready.grove.nodes) (get new.grove.nodes) (get ready.grove.boards) (get new.grove.boards) a.canvas key (node_of a.canvas seed) (keys_before ready place) (keys_behind ready place))
      (root : new.grove.root ≡ ready.grove.root) (wires : wires_told new.web ≡ wires_told ready.web) (owners : (file : List ℕ) → HasOwners ready a.known.names file → HasOwners new a.known.names file)
      (goes_on : CanPut new) where
    leaf_part : HasPartMore (get ready.grove.nodes) (get new.grove.nodes) (get ready.grove.boards) (get new.grove.boards) a.canvas key (keys_before ready place) (keys_behind ready place)
    leaf_part =
        let g = ready.grove in
        let F : IsForest (get g.nodes) (get g.boards) g.root = (room_put old ready R can).forest in
        let G : IsForest (get new.grove.nodes) (get new.grove.boards) g.root =
        forest_more (get g.nodes) (get new.grove.nodes) (get g.boards) (get new.grove.boards) g.root a.canvas key (node_of a.canvas seed) (keys_before ready place) (keys_behind ready place) more F in
        part_more (get g.nodes) (get new.grove.nodes) (get new.grove.nodes) (get g.boards) (get new.grove.boards) (get new.grove.boards) g.root a.canvas key
        (node_of a.canvas seed) (keys_before ready place) (keys_behind ready place) more (λ l d live. refl) (λ x live. refl) refl F G

    leaf_seen : option_map node_seen (get new.grove.nodes key) ≡ Some (record { board = a.canvas; cell = cell; inner = None })
    leaf_seen = ap (option_map node_seen) more.is ∙ ap (λ (x : Stand). Some (record { board = a.canvas; cell = x.cell; inner = None })) is_row

    leaf_in : CameIn old new a key
    leaf_in = record {
      ready = ready;
      room = R;
      part = last_part ready R leaf_part;
      root = root;
      stands = subst (λ (x : Trees). Stands (get new.grove.nodes) (get new.grove.boards) a.canvas (depth_of (get ready.grove.boards a.canvas)) (key ∷ []) x) (sym single) (leaf_seen, tt);
      wires = no_more ready.web new.web a.boxes wires (ap wires_inside single);
      owners = owners;
      goes_on = goes_on;
    }

  plain_in : CanPut old → IsBoxPut old new now a key → CameIn old new a key
  plain_in can b =
      let c : ComesIn b.ready new a.known.names place b.seed key = b.put.comes in
      leaf_in can b.ready b.room b.plain.cell b.plain.single b.seed b.is_row c.grove c.root (lines_as_many b.ready.web new.web c.ports.lines) c.owners b.goes_on

  -- a port of the box around: where it came in, only wires, blocks and orders changed
  port_in : CanPut old → IsPortBoxPut old new now a key → CameIn old new a key
  port_in can b =
      let g : Grove = b.ready.grove in
      let mid : Patch = b.put.ready in
      let c : ComesIn b.ready mid a.known.names place b.seed key = b.put.comes in
      let same : new.grove ≡ mid.grove = b.put.rest.grove in
      leaf_in can b.ready b.room b.port.cell b.port.single b.seed b.is_row
      (subst (λ (x : Grove). HasBoxMore (get g.nodes) (get x.nodes) (get g.boards) (get x.boards) a.canvas key (node_of a.canvas b.seed) (keys_before b.ready place) (keys_behind b.ready place)) (sym same) c.grove)
      (ap (λ (x : Grove). x.root) same ∙ c.root) b.put.wires (λ file o. owners_kept mid new a.known.names file b.put.rest.names same (c.owners file o)) b.goes_on

  -- a subpatch without boxes
  module _ (can : CanPut old) (b : IsSubPut old new now a key) where
    abbrev D : ShellComesIn b.ready new a.known.names place b.seed key
    D = b.put.comes

    sheet_is : D.board.sheet ≡ b.sub.sheet
    sheet_is = same_Some D.board.sheet b.sub.sheet (sym D.sheet ∙ ap (λ (x : Stand). x.sheet) b.is_row)

    sub_is : Holder (stand_of b.seed.row).cell D.board.sheet Done Done ≡ a.boxes
    sub_is = ap (λ (x : Stand). Holder x.cell D.board.sheet Done Done) b.is_row ∙ ap (λ (s : Sheet). Holder b.sub.cell s Done Done) sheet_is ∙ sym b.sub.single

    sub_in : CameIn old new a key
    sub_in =
        let g = b.ready.grove in
        record {
          ready = b.ready;
          room = b.room;
          part = last_part b.ready b.room
              (comes_as_part (get g.nodes) (get new.grove.nodes) (get g.boards) (get new.grove.boards) g.root a.canvas key D.canvas b.seed D.board (keys_before b.ready place) (keys_behind b.ready place) D.grove
              (room_put old b.ready b.room can).forest);
          root = D.root;
          stands = subst (λ (x : Trees). Stands (get new.grove.nodes) (get new.grove.boards) a.canvas (depth_of (get g.boards a.canvas)) (key ∷ []) x) sub_is
              (stands_as_box (get g.nodes) (get new.grove.nodes) (get g.boards) (get new.grove.boards) g.root a.canvas key D.canvas b.seed D.board (keys_before b.ready place) (keys_behind b.ready place) D.grove);
          wires = no_more b.ready.web new.web a.boxes (lines_as_many b.ready.web new.web D.ports.lines)
              (let e = ap wires_inside b.sub.single in let z = none_fit b.sub.sheet.wires in omega (arith, e, z));
          owners = D.owners;
          goes_on = b.goes_on;
        }

  -- a box that holds a canvas, with all that lies in it
  module _ (bare : HoldersAreNoPorts a.boxes) (b : IsPartBoxPut old new now a key) where
    wide : width a.boxes ≡ 1
    wide = ap width b.holder.single

    depth_ready : depth_of (get b.ready.grove.boards a.canvas) ≡ depth_of (get old.grove.boards a.canvas)
    depth_ready = seen_alike (get old.grove.boards a.canvas) (get b.ready.grove.boards a.canvas) (b.room.grove.boards a.canvas)

    low_ready : depth_of (get b.ready.grove.boards a.canvas) + deep a.boxes < 257
    low_ready = subst (λ (n : ℕ). n + deep a.boxes < 257) (sym depth_ready) b.holder.shallow

    part_in : CameIn old new a key
    part_in = record {
      ready = b.ready;
      room = b.room;
      part = last_part b.ready b.room b.put.grove;
      root = b.put.root;
      stands = b.put.stands a.boxes b.are_rows wide;
      wires = part_wires b.ready new a.known.names place b.seed b.seeds key b.steps b.steps' a.boxes b.put b.are_rows wide bare low_ready;
      owners = b.put.owners;
      goes_on = b.goes_on;
    }

  pub came_in : CanPut old → HoldersAreNoPorts a.boxes → HasCome old new now a key → CameIn old new a key
  came_in can bare (inl b) = plain_in can b
  came_in can bare (inr (inl b)) = sub_in can b
  came_in can bare (inr (inr (inl b))) = port_in can b
  came_in can bare (inr (inr (inr b))) = part_in bare b

  -- a box more leaves the clocks of messages
  pub came_clocks : HasCome old new now a key → new.timers.clocks.clocks ≡ old.timers.clocks.clocks
  came_clocks (inl b) = ap (λ x. x.clocks.clocks) b.put.comes.clocks ∙ b.room.clocks
  came_clocks (inr (inl b)) = ap (λ x. x.clocks.clocks) b.put.comes.clocks ∙ b.room.clocks
  came_clocks (inr (inr (inl b))) = ap (λ x. x.clocks.clocks) (b.put.rest.clocks ∙ b.put.comes.clocks) ∙ b.room.clocks
  came_clocks (inr (inr (inr b))) = ap (λ x. x.clocks.clocks) b.put.clocks ∙ b.room.clocks
