-- What came with an edit: a box without a canvas inside, one that holds a canvas without boxes, a port of the box around, or a box with all that lies in it.
use Rattle.std.proofs.Common.{◌≡◌, ◌⊎◌, inl, inr, ◌<◌, ◌^◌, ℕ, List, ◌∷◌, slice_get, Option, Some, None, IfSome, IsSome, is_some, option_map, refl, sym, ap, subst, ◌∙◌, append-nil, arith}
use Rattle.std.specs.List.{AllByRecursion}
use Rattle.std.proofs.lemmas.Option.{none-some, same_Some}
use Rattle.slab.specs.Slab.{get}
use Rattle.pd_object.specs.Ports.{IsSmallKind}
use Rattle.pd_kind.specs.declared.states.State.{State}
use Rattle.pd_kind.specs.States.{start_of}
use Rattle.pd_kind.specs.Tables.{started}
use Rattle.pd_tree.specs.declared.rows.Sheet.{Sheet}
use Rattle.pd_tree.specs.Trees.{Cell, Stand, Trees, stand_of}
use Rattle.pd_grove.specs.declared.boards.Board.{Board}
use Rattle.pd_grove.specs.declared.nodes.Node.{Node}
use Rattle.pd_grove.specs.declared.seeds.Seed.{Seed}
use Rattle.pd_grove.specs.Planting.{seed_stand, IsMadeOf}
use Rattle.pd_grove.specs.Standing.{BoardSeen, board_seen, HasCell}
use Rattle.pd_grove.specs.States.{IsFresh}
use Rattle.pd_grove.specs.Telling.{keys_in}
use Rattle.pd_grove.proofs.TreeBoxes.{seeds_of}
use Rattle.pd_patch.specs.declared.patch.Patch.{Patch}
use Rattle.pd_boxes.specs.declared.room.Place.{Place}
use Rattle.pd_boxes.specs.Put.{CanPut}
use Rattle.pd_adding.specs.Growing.{Added}
use Rattle.pd_stage.specs.PassedOn.{last_place, IsBoxPut, IsSubPut, IsPortBoxPut, IsPartBoxPut, HasCome}
use Rattle.pd_subpatches.proofs.LawLemmas.{small_canvas}
use Rattle.pd_guards.specs.Sounds.{AreValues}
use Rattle.pd_guards.proofs.FactLemmas.{all-at}
use Rattle.pd_guards.proofs.SignalLemmas.{silent_values}
use Rattle.pd_sized.specs.Sizes.{IsBlock}
use Rattle.pd_sized.proofs.StartLemmas.{silent_count}
use Rattle.pd_steady.proofs.KeyLemmas.{HasOneMore, KeepsBoxes, room_keeps, box_under, shell_under, one_more, more_keeps}
use Rattle.pd_steady.proofs.FollowLemmas.{port_keeps}
use Rattle.pd_steady.proofs.NewLemmas.{IsNew, HasNew, one_by, once_fed, part_blocks, part_each}

-- the box that a seed becomes, with the canvas that it holds
abbrev pub node_with : ℕ → Seed → Option ℕ → Node
node_with c s inner =
    record { board = c; element = s.row.element; text = s.row.text; kind = s.row.kind; fault = s.row.fault; state = Some s.state; inner = inner }

-- the keys of a canvas are what is seen of it
pub seen_keys : (o r : Option Board) → option_map board_seen r ≡ option_map board_seen o → keys_in r ≡ keys_in o
seen_keys None None e = refl
seen_keys (Some b) None e = absurd (none-some (board_seen b) e)
seen_keys None (Some b) e = absurd (none-some (board_seen b) (sym e))
seen_keys (Some b) (Some d) e = ap (λ (x : BoardSeen). x.keys) (same_Some (board_seen d) (board_seen b) e)

-- Under a key that was of no box stands one of those that grew, and keeps what its kind keeps at first.
pub record IsFirst (p : Patch) (now : ℕ) (a : Added) (k : ℕ) (n : Node) : Type 0 where
  pub vacant : get p.grove.nodes k ≡ None
  pub low : k < 2 ^ 32
  pub cell : Cell
  pub of : HasCell a.boxes cell
  pub kind : n.kind ≡ cell.kind
  pub small : IsSmallKind n.kind
  pub fresh : n.state ≡ Some (started (start_of n.kind p.rate) now)

low_key : (k : ℕ) → k < 4294967295 → k < 2 ^ 32
low_key k l = omega arith

module _ (old new : Patch) (now : ℕ) (a : Added) (key : ℕ) where
  abbrev Comes : Type 0
  Comes = HasCome old new now a key

  pub come_goes_on : Comes → CanPut new
  come_goes_on (inl b) = b.goes_on
  come_goes_on (inr (inl b)) = b.goes_on
  come_goes_on (inr (inr (inl b))) = b.goes_on
  come_goes_on (inr (inr (inr b))) = b.goes_on

  abbrev place : Place
  place = last_place old a.canvas

  -- ---- one box

  leaf_more : (b : IsBoxPut old new now a key) → HasOneMore old new key (node_with a.canvas b.seed None)
  leaf_more b = one_more old b.ready new key (node_with a.canvas b.seed None) (room_keeps old b.ready b.room) (box_under b.ready new a.known.names place b.seed key b.put.comes)

  sub_more : (b : IsSubPut old new now a key) → HasOneMore old new key (node_with a.canvas b.seed (Some b.put.comes.canvas))
  sub_more b =
      one_more old b.ready new key (node_with a.canvas b.seed (Some b.put.comes.canvas)) (room_keeps old b.ready b.room) (shell_under b.ready new a.known.names place b.seed key b.put)

  port_more : (b : IsPortBoxPut old new now a key) → HasOneMore old new key (node_with a.canvas b.seed None)
  port_more b =
      let n : Node = node_with a.canvas b.seed None in
      more_keeps old b.put.ready new key n (one_more old b.ready b.put.ready key n (room_keeps old b.ready b.room) (box_under b.ready b.put.ready a.known.names place b.seed key b.put.comes))
      (port_keeps b.ready new a.known.names place b.seed key b.port.holder b.port.side b.put)

  -- it is the one that grew
  one_first : (s : Seed) (inner : Option ℕ) (c : Cell) (sheet : Option Sheet) → stand_of s.row ≡ record { cell = c; sheet = sheet; boxes = 0 } → HasCell a.boxes c → IsSmallKind s.row.kind → IsFresh old.rate now s
      → HasOneMore old new key (node_with a.canvas s inner) → HasNew old new (IsFirst old now a)
  one_first s inner c sheet row of small fresh more =
      one_by old new (IsFirst old now a) key (node_with a.canvas s inner) more.new (record {
        vacant = more.vacant;
        low = more.low;
        cell = c;
        of = of;
        kind = ap (λ (x : Stand). x.cell.kind) row;
        small = small;
        fresh = ap (λ (x : State). Some x) fresh;
      })

  first_cell : (c : Cell) (t : Trees) → a.boxes ≡ t → HasCell t c → HasCell a.boxes c
  first_cell c t e h = subst (λ (x : Trees). HasCell x c) (sym e) h

  -- ---- a box with all that lies in it

  -- what a seed became
  record Becomes (s : Seed) (n : Node) : Type 0 where
    kind : n.kind ≡ s.row.kind
    state : n.state ≡ Some s.state

  became : (s : Seed) (o : Option Node) (n : Node) → IsMadeOf s o → o ≡ Some n → Becomes s n
  became s None n h e = absurd h
  became s (Some m) n h e = subst (Becomes s) (same_Some m n e) (record { kind = h.2; state = h.4 })

  some_at : {A : Type 0} (P : A → Type 0) (xs : List A) (i : ℕ) (x : A) → slice_get xs i ≡ Some x → AllByRecursion P xs → P x
  some_at {A} P xs i x e h = subst (λ (o : Option A). IfSome o P) e (all-at P xs i h)

  module _ (b : IsPartBoxPut old new now a key) where
    abbrev seeds : List Seed
    seeds = b.seed ∷ b.seeds

    kept : KeepsBoxes old b.ready
    kept = room_keeps old b.ready b.room

    part_box : (k : ℕ) (n : Node) → get old.grove.nodes k ≡ None → get new.grove.nodes k ≡ Some n → IsFirst old now a k n
    part_box k n none is =
        let apart : get b.ready.grove.nodes k ≡ None = kept.nodes k ∙ none in
        let live : IsSome (get new.grove.nodes k) = ap is_some is in
        let made = b.put.uses.made k apart live in
        let s : Seed = made.0 in
        let at : slice_get seeds made.1 ≡ Some s = ap (λ (xs : List Seed). slice_get xs made.1) (b.put.uses.split ∙ append-nil b.put.uses.used) ∙ made.2 in
        let x : Becomes s n = became s (get new.grove.nodes k) n made.3 is in
        let small : IsSmallKind s.row.kind = some_at (λ (y : Seed). IsSmallKind y.row.kind) seeds made.1 s at b.small in
        let fresh : IsFresh old.rate now s = some_at (IsFresh old.rate now) seeds made.1 s at b.fresh in
        record {
          vacant = none;
          low = low_key k (b.put.low k (b.put.comes.only k apart live));
          cell = (seed_stand s).cell;
          of = some_at (λ (y : Seed). HasCell a.boxes (seed_stand y).cell) seeds made.1 s at (seeds_of a.boxes seeds b.are_rows);
          kind = x.kind;
          small = rw x.kind small;
          fresh = x.state ∙ ap (λ (y : State). Some y) fresh ∙ ap (λ k. Some (started (start_of k old.rate) now)) (sym x.kind);
        }

    part_at : (k : ℕ) → (get new.grove.nodes k ≡ get old.grove.nodes k) ⊎ IsNew (IsFirst old now a k) (get new.grove.nodes k)
    part_at k = by (get old.grove.nodes k) (get new.grove.nodes k) refl refl
      where
        by : (o r : Option Node) → get old.grove.nodes k ≡ o → get new.grove.nodes k ≡ r → (get new.grove.nodes k ≡ get old.grove.nodes k) ⊎ IsNew (IsFirst old now a k) (get new.grove.nodes k)
        by (Some n) r e f = inl (b.put.grove.boxes_stay k (ap is_some (kept.nodes k ∙ e)) ∙ kept.nodes k)
        by None None e f = inl (f ∙ sym e)
        by None (Some n) e f = inr (n, f, part_box k n e f)

    part_new : HasNew old new (IsFirst old now a)
    part_new = record {
      each = part_at;
      fed = λ few h. once_fed new.web few b.put.fed;
      blocks = λ h. part_blocks b.ready new b.put.part b.put.ports b.put.blocks (kept.blocks h);
      values = λ h. part_each b.ready new b.put.part b.put.ports b.put.blocks AreValues silent_values (kept.values h);
      sizes = λ h. part_each b.ready new b.put.part b.put.ports b.put.blocks IsBlock silent_count (kept.sizes h);
    }

  -- ---- whatever came

  pub come_new : Comes → HasNew old new (IsFirst old now a)
  come_new (inl b) = one_first b.seed None b.plain.cell None b.is_row (first_cell b.plain.cell _ b.plain.single (inl refl)) b.leaf.small b.fresh (leaf_more b)
  come_new (inr (inl b)) =
      one_first b.seed (Some b.put.comes.canvas) b.sub.cell (Some b.sub.sheet) b.is_row (first_cell b.sub.cell _ b.sub.single (inl refl)) (small_canvas b.seed.row.kind b.shell.canvas) b.fresh (sub_more b)
  come_new (inr (inr (inl b))) =
      one_first b.seed None b.port.cell None b.is_row (first_cell b.port.cell _ b.port.single (inl refl)) b.could.leaf.small b.fresh (port_more b)
  come_new (inr (inr (inr b))) = part_new b
