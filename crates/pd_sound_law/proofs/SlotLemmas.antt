-- In a block of samples each outlet that has a block keeps one.
use Rattle.std.proofs.Common.{◌≡◌, ℕ, ℤ, zero, suc, List, [], ◌∷◌, map, refl, subst, ◌∙◌}
use Rattle.std.specs.Prelude.{Option, Some, None, is_some, slice_get, slice_set, slice_index_or}
use Rattle.pd_object.specs.declared.kinds.Kind.{Kind}
use Rattle.pd_kind.specs.declared.states.State.{State}
use Rattle.pd_kind.specs.States.{silent_block}
use Rattle.pd_turn.specs.declared.sorts.Manner.{Manner}
use Rattle.pd_turn.specs.declared.sorts.Manner.TheVariants.{Own, Beside, Table, Dac, Inlet, Outlet, Never}
use Rattle.pd_turn.specs.Rows.{Ran}
use Rattle.pd_web.specs.Hops.{port_told}
use Rattle.pd_patch.specs.Values.{Blocks, block_at, with_block, with_silence}
use Rattle.pd_block.specs.Nets.{Net, Sound, kind_at, inner_at, chain_at, stuck_at}
use Rattle.pd_block.specs.Inlets.{inlet_block}
use Rattle.pd_block.specs.Blocks.{Played, played, left_by, own_in, own_by, table_beside, table_in, table_by, held_by, port_block, given_at, Aside, owner_in, aside_owner, aside_found, aside_by, with_none, beside_by, ran_as, manner_by, ran_plain, each, silenced, ran_box, ran_one, ran_canvas, block_of}

-- the same outlets have a block
abbrev pub HoldAlike : Blocks → Blocks → Type 0
HoldAlike old new = (k o : ℕ) → is_some (block_at new k o) ≡ is_some (block_at old k o)

then_alike : (a b c : Blocks) → HoldAlike a b → HoldAlike b c → HoldAlike a c
then_alike a b c f g = λ k o. g k o ∙ f k o

-- other values in a place, or in all
row_set : (own : List (List ℤ)) (o p : ℕ) (block : List ℤ) → is_some (slice_get (slice_set own o block) p) ≡ is_some (slice_get own p)
row_set [] o p block = refl
row_set (x ∷ own) zero zero block = refl
row_set (x ∷ own) zero (suc p) block = refl
row_set (x ∷ own) (suc o) zero block = refl
row_set (x ∷ own) (suc o) (suc p) block = row_set own o p block

row_map : (f : List ℤ → List ℤ) (own : List (List ℤ)) (p : ℕ) → is_some (slice_get (map f own) p) ≡ is_some (slice_get own p)
row_map f [] p = refl
row_map f (x ∷ own) zero = refl
row_map f (x ∷ own) (suc p) = row_map f own p

rows_set : (blocks : Blocks) (node : ℕ) (row : List (List ℤ)) → ((p : ℕ) → is_some (slice_get row p) ≡ is_some (slice_get (slice_index_or blocks node []) p)) → HoldAlike blocks (slice_set blocks node row)
rows_set [] node row h k o = refl
rows_set (x ∷ blocks) zero row h zero o = h o
rows_set (x ∷ blocks) zero row h (suc k) o = refl
rows_set (x ∷ blocks) (suc n) row h zero o = refl
rows_set (x ∷ blocks) (suc n) row h (suc k) o = rows_set blocks n row h k o

put_alike : (blocks : Blocks) (node outlet : ℕ) (block : List ℤ) → HoldAlike blocks (with_block blocks node outlet block)
put_alike blocks node outlet block = rows_set blocks node (slice_set (slice_index_or blocks node []) outlet block) (λ p. row_set (slice_index_or blocks node []) outlet p block)

quiet_alike : (blocks : Blocks) (node : ℕ) → HoldAlike blocks (with_silence blocks node)
quiet_alike blocks node = rows_set blocks node (map (λ _. silent_block) (slice_index_or blocks node [])) (λ p. row_map (λ _. silent_block) (slice_index_or blocks node []) p)

given_alike : (blocks : Blocks) (o : Option (ℕ × ℕ)) (block : List ℤ) → HoldAlike blocks (given_at blocks o block)
given_alike blocks None block = λ k o. refl
given_alike blocks (Some port) block = put_alike blocks port.0 port.1 block

module _ (net : Net) (start : ℕ) where
  own_alike : (s : Sound) (node : ℕ) (k : Option Kind) (o : Option State) → HoldAlike s.blocks (own_by net start s node k o).blocks
  own_alike s node k None = λ j p. refl
  own_alike s node k (Some st) = put_alike s.blocks node 0 (own_in net.web s.blocks start node k st).block

  table_alike : (s : Sound) (node : ℕ) (k : Option Kind) (o : Option State) → HoldAlike s.blocks (table_by net s node k o).blocks
  table_alike s node k None = λ j p. refl
  table_alike s node k (Some st) = put_alike s.blocks node 0 (table_in net.web s.blocks node k st (table_beside net.owners s.states node k)).block

  -- beside another box the blocks stay until this one gives its own
  owner_blocks : (s : Sound) (node : ℕ) (k : Option Kind) (st : State) (owner : ℕ) (o : Option State) → (aside_owner net.web s node k st owner o).sound.blocks ≡ s.blocks
  owner_blocks s node k st owner None = refl
  owner_blocks s node k st owner (Some other) = refl

  found_blocks : (s : Sound) (node : ℕ) (k : Option Kind) (st : State) (o : Option ℕ) → (aside_found net.web s node k st o).sound.blocks ≡ s.blocks
  found_blocks s node k st None = refl
  found_blocks s node k st (Some owner) = owner_blocks s node k st owner (s.states owner)

  left_alike : (blocks : Blocks) (s : Sound) (node : ℕ) (r : Ran) → s.blocks ≡ blocks → HoldAlike blocks (left_by s node r).blocks
  left_alike blocks s node r same = subst (λ (b : Blocks). HoldAlike b (left_by s node r).blocks) same (put_alike s.blocks node 0 r.block)

  beside_alike : (s : Sound) (node : ℕ) (k : Option Kind) (o : Option State) → HoldAlike s.blocks (beside_by net s node k o).blocks
  beside_alike s node k None = λ j p. refl
  beside_alike s node k (Some st) =
      let a : Aside = aside_by net (with_none s node) node k st in
      left_alike s.blocks a.sound node a.ran (found_blocks (with_none s node) node k st (owner_in net.owners k))

  as_alike : (p : Played) (node : ℕ) (k : Option Kind) (m : Manner) → HoldAlike p.sound.blocks (ran_as net start p node k m).sound.blocks
  as_alike p node k Own = own_alike p.sound node k (p.sound.states node)
  as_alike p node k Beside = beside_alike p.sound node k (p.sound.states node)
  as_alike p node k Table = table_alike p.sound node k (p.sound.states node)
  as_alike p node k Dac = λ j o. refl
  as_alike p node k Inlet = put_alike p.sound.blocks node 0 (port_block net.web p.sound.blocks (port_told net.web node) (held_by (p.sound.states node)))
  as_alike p node k Outlet = given_alike p.sound.blocks (port_told net.web node) (inlet_block net.web p.sound.blocks node 0 (held_by (p.sound.states node)))
  as_alike p node k Never = λ j o. refl

  plain_alike : (p : Played) (node : ℕ) → HoldAlike p.sound.blocks (ran_plain net start p node).sound.blocks
  unfolding ran_plain
  plain_alike p node = as_alike p node (kind_at net node) (manner_by (kind_at net node))

  -- boxes and canvases, since these blocks
  module _ (base : Blocks) where
    abbrev pub Held : Played → Type 0
    Held p = HoldAlike base p.sound.blocks

    pub box_holds : (inside : Played → ℕ → Played) → ((p : Played) (c : ℕ) → Held p → Held (inside p c)) → (p : Played) (node : ℕ) (o : Option ℕ) → Held p → Held (ran_box net start inside p node o)
    box_holds inside k p node None a = then_alike base p.sound.blocks (ran_plain net start p node).sound.blocks a (plain_alike p node)
    box_holds inside k p node (Some inner) a = k (played (silenced p.sound node) p.out) inner (then_alike base p.sound.blocks (silenced p.sound node).blocks a (quiet_alike p.sound.blocks node))

    each_holds : (one : Played → ℕ → Played) → ((p : Played) (n : ℕ) → Held p → Held (one p n)) → (p : Played) (ns : List ℕ) → Held p → Held (each one p ns)
    each_holds one k p [] a = a
    each_holds one k p (n ∷ ns) a = each_holds one k (one p n) ns (k p n a)

    pub silent_holds : (s : Sound) (ns : List ℕ) → HoldAlike base s.blocks → HoldAlike base (each silenced s ns).blocks
    silent_holds s [] a = a
    silent_holds s (n ∷ ns) a = silent_holds (silenced s n) ns (then_alike base s.blocks (silenced s n).blocks a (quiet_alike s.blocks n))

    pub canvas_holds : (levels : ℕ) (p : Played) (canvas : ℕ) → Held p → Held (ran_canvas net start levels p canvas)
    unfolding ran_canvas
    canvas_holds zero p canvas a = a
    canvas_holds (suc levels) p canvas a =
        each_holds (ran_one net start (ran_canvas net start levels)) (λ q node b. box_holds (ran_canvas net start levels) (canvas_holds levels) q node (inner_at net node) b)
        (played (each silenced p.sound (stuck_at net canvas)) p.out) (chain_at net canvas) (silent_holds p.sound (stuck_at net canvas) a)

  pub block_holds : (s : Sound) → HoldAlike s.blocks (block_of net s start).sound.blocks
  unfolding block_of
  block_holds s = canvas_holds s.blocks 257 _ net.root (λ k o. refl)
