-- Where all is ready for it, a block is the one in which nothing is looked at.
use Rattle.std.proofs.Common.{arith, ◌≡◌, ℕ, ◌≤◌, ◌<◌, ◌+◌, ◌^◌, ℤ, zero, suc, ◌==◌, Bool, true, false, cond, List, [], ◌∷◌, ◌++◌, length, map, Option, Some, None, IfSome, IsSome, option_map, unwrap_or, nat_lt, slice_get, slice_index_or, refl, sym, ap, subst, ◌∙◌, true≢false}
use Rattle.std.proofs.Math.Path.{fun_ext}
use Rattle.std.proofs.lemmas.Bool.{eqb-true, le-leb, ltb-false}
use Rattle.std.proofs.lemmas.Option.{none-some, same_Some}
use Rattle.std.specs.List.{range_with_len}
use Rattle.std.specs.Prelude.{flat_map}
use Rattle.pd_object.specs.declared.kinds.Channel.{Channel}
use Rattle.pd_object.specs.declared.kinds.Kind.{Kind}
use Rattle.pd_object.specs.Ports.{ports_of}
use Rattle.pd_kind.specs.declared.states.State.{State}
use Rattle.pd_kind.specs.declared.states.State.TheVariants.{Bare}
use Rattle.pd_kind.specs.Fit.{blank}
use Rattle.pd_kind.specs.States.{silent_block}
use Rattle.pd_kind.specs.Tables.{with_shared, block_begun}
use Rattle.pd_order.specs.Graph.{tally}
use Rattle.pd_order.proofs.Basics.{same_test, tally-append}
use Rattle.pd_vline.specs.Rows.{IsOpen}
use Rattle.pd_turn.specs.declared.sizes.Few.{Few}
use Rattle.pd_turn.specs.declared.sorts.Manner.{Manner}
use Rattle.pd_turn.specs.declared.sorts.Manner.TheVariants.{Own, Beside, Table, Dac, Inlet, Outlet, Never}
use Rattle.pd_turn.specs.Held.{held_of}
use Rattle.pd_turn.specs.Sizes.{few_of}
use Rattle.pd_turn.specs.Rows.{Ran, still, own_ran, table_ran, manner_of}
use Rattle.pd_turn.specs.Pairs.{Pair, no_line, line_at, ran_alone, pair_of}
use Rattle.pd_web.specs.declared.web.Hop.{Hop}
use Rattle.pd_grove.specs.declared.ports.Side.TheVariants.{Outlets}
use Rattle.pd_web.specs.Hops.{jack_told, signal_in, feed_hops, port_told}
use Rattle.pd_patch.specs.Values.{Blocks, block_at, with_block}
use Rattle.pd_block.specs.Inlets.{brought, gathered, sum_from, wires_to, steady, inlet_block, inlet_blocks}
use Rattle.pd_block.specs.Nets.{Net, Sound, kind_at, inner_at, chain_at, stuck_at, set_at}
use Rattle.pd_block.specs.Blocks.{Played, played, left_by, own_with, own_by, table_beside, table_with, table_by, owner_of, added, channels_of, dac_from, dac_by, held_by, port_block, inlet_by, given_at, outlet_by, Aside, with_other, with_none, left_aside, pair_few, alone_few, aside_alone, aside_pair, aside_owner, aside_found, beside_by, ran_as, manner_by, ran_plain, each, silenced, ran_box, ran_one, ran_canvas, line_begun, begun, block_within, block_of}
use Rattle.pd_guards.proofs.FactLemmas.{either}
use Rattle.pd_channels_law.specs.Channels.{HasFewChannels}
use Rattle.pd_sized.specs.Alike.{AreAlike}
use Rattle.pd_sized.specs.Kinds.{blank_of, KeepsOfKind}
use Rattle.pd_sized.specs.Sizes.{HasSizes, HaveSizes, Finds}
use Rattle.pd_sized.proofs.KindLemmas.{kinds_last}
use Rattle.pd_sized.proofs.ServeLemmas.{goes_on}
use Rattle.pd_sized.proofs.TurnLemmas.{pair_whole}
use Rattle.pd_sized.proofs.BlockLemmas.{SoundIn, PlayedIn, silent_in, box_in, canvas_in, begun_in}
use Rattle.pd_sized.proofs.AlikeBlockLemmas.{box_alike, silent_alike, canvas_alike, begun_alike}
use Rattle.pd_sound_law.specs.Freely.{block_from, carried, sum_along, sum_at, sums_at, kept_by, sums_of, own_row, own_run, table_run, shares, with_its, beside_found, beside_run, dac_sums, dac_run, port_sum, inlet_run, outlet_run, run_as, run_kind, run_box, run_one, run_canvas, all_begun, free_block}
use Rattle.pd_sound_law.specs.Ready.{HasBlocks, HasRow, IsReady}
use Rattle.pd_sound_law.proofs.SlotLemmas.{HoldAlike, box_holds, silent_holds, canvas_holds}
use Rattle.pd_ends_law.specs.Ends.{AreOpen}
use Rattle.pd_ends_law.specs.Once.{with_inside, boxes_run, RunsOnce}
use Rattle.pd_ends_law.proofs.BlockLemmas.{box_runs, silent_open, begun_open, other_open}
use Rattle.pd_sound_law.proofs.RowLemmas.{few_by, few_ports, few_channels, own_freely, shared_there, not_itself}

-- lists of values that are each the same
map_same : (f g : ℕ → List ℤ) → ((i : ℕ) → f i ≡ g i) → (xs : List ℕ) → map f xs ≡ map g xs
map_same f g h [] = refl
map_same f g h (x ∷ xs) = ap (λ (b : List ℤ). b ∷ map f xs) (h x) ∙ ap (λ (bs : List (List ℤ)). g x ∷ bs) (map_same f g h xs)

-- a box of a kind keeps something
there_by : (k : Kind) (j : Option Kind) (o : Option State) → option_map blank o ≡ option_map blank_of j → j ≡ Some k → IsSome o
there_by k j (Some st) e h = refl
there_by k j None e h = absurd (none-some (blank_of k) (e ∙ ap (option_map blank_of) h))

found_aside : (k : Kind) (b : Bool) (x : Option State) → (b ≡ true → ⊥) → Finds k x → Finds k (cond b None x)
found_aside k true x n f = absurd (n refl)
found_aside k false x n f = f

abbrev sound_with : (ℕ → Option State) → Blocks → Sound
sound_with states blocks = record { states = states; blocks = blocks }

abbrev aside_of : Ran → Sound → Aside
aside_of r s = record { ran = r; sound = s }

abbrev with_out : Played → List (List ℤ) → Played
with_out p out = record { sound = p.sound; out = out }

abbrev with_sound : Played → Sound → Played
with_sound p s = record { sound = s; out = p.out }

held_same : (o : Option State) → held_by o ≡ held_of (unwrap_or o Bare) 0
held_same None = refl
held_same (Some st) = refl

-- a block that is there
value_is : (own : List (List ℤ)) (outlet : ℕ) → IsSome (slice_get own outlet) → slice_get own outlet ≡ Some (slice_index_or own outlet [])
value_is [] outlet there = absurd (true≢false (sym there))
value_is (block ∷ own) zero there = refl
value_is (block ∷ own) (suc outlet) there = value_is own outlet there

block_is : (blocks : Blocks) (node outlet : ℕ) → IsSome (block_at blocks node outlet) → block_at blocks node outlet ≡ Some (block_from blocks node outlet)
block_is [] node outlet there = absurd (true≢false (sym there))
block_is (own ∷ blocks) zero outlet there = value_is own outlet there
block_is (own ∷ blocks) (suc node) outlet there = block_is blocks node outlet there

-- below 2^32 each delay line begins
begun_by : (k : ℕ) (o : Option State) (b : Bool) → nat_lt k 4294967296 ≡ b → (2 ^ 32 ≤ k → o ≡ None) → cond b (option_map block_begun o) o ≡ option_map block_begun o
begun_by k o true e h = refl
begun_by k o false e h = none_same o (h (above k e))
  where
    none_same : (o : Option State) → o ≡ None → o ≡ option_map block_begun o
    none_same None h = refl
    none_same (Some st) h = absurd (none-some st (sym h))

    above : (k : ℕ) → nat_lt k 4294967296 ≡ false → 2 ^ 32 ≤ k
    above k e = ltb-false k 4294967296 e

pub lines_begin : (s : Sound) → ((k : ℕ) → 2 ^ 32 ≤ k → s.states k ≡ None) → (k : ℕ) → (begun s).states k ≡ option_map block_begun (s.states k)
lines_begin s h k = begun_by k (s.states k) (nat_lt k 4294967296) refl (h k)

all_begin : (s : Sound) → ((k : ℕ) → 2 ^ 32 ≤ k → s.states k ≡ None) → begun s ≡ all_begun s
all_begin s h = ap (λ (f : ℕ → Option State). sound_with f s.blocks) (fun_ext (lines_begin s h))

module _ (net : Net) (start : ℕ) (all : (node inlet : ℕ) → wires_to net.web node inlet ≡ feed_hops net.web node inlet) where
  -- what comes to inlets
  brought_by : (blocks : Blocks) (hop : Hop) (b : Bool) → (b ≡ true → IsSome (block_at blocks hop.node hop.port))
      → cond b (block_at blocks hop.node hop.port) None ≡ cond b (Some (block_from blocks hop.node hop.port)) None
  brought_by blocks hop true there = block_is blocks hop.node hop.port (there refl)
  brought_by blocks hop false there = refl

  brought_same : (blocks : Blocks) → HasBlocks net.web blocks → (hop : Hop) → brought net.web blocks hop ≡ carried net.web blocks hop
  brought_same blocks b hop = brought_by blocks hop (signal_in (jack_told net.web Outlets hop.node hop.port)) (b hop.node hop.port)

  along_same : (blocks : Blocks) → HasBlocks net.web blocks → (sum : Option (List ℤ)) (hops : List Hop) → sum_from net.web blocks sum hops ≡ sum_along net.web blocks sum hops
  along_same blocks b sum [] = refl
  along_same blocks b sum (hop ∷ hops) =
      ap (λ (o : Option (List ℤ)). sum_from net.web blocks (gathered sum o) hops) (brought_same blocks b hop) ∙ along_same blocks b (gathered sum (carried net.web blocks hop)) hops

  sum_same : (blocks : Blocks) → HasBlocks net.web blocks → (node inlet : ℕ) (held : ℤ) → inlet_block net.web blocks node inlet held ≡ sum_at net.web blocks node inlet held
  sum_same blocks b node inlet held =
      ap (λ (hops : List Hop). unwrap_or (sum_from net.web blocks None hops) (steady held)) (all node inlet)
      ∙ ap (λ (o : Option (List ℤ)). unwrap_or o (steady held)) (along_same blocks b None (feed_hops net.web node inlet))

  sums_same : (blocks : Blocks) → HasBlocks net.web blocks → (node : ℕ) (k : Kind) (st : State) → inlet_blocks net.web blocks node (ports_of k).signal_inlets st ≡ sums_at net.web blocks node k st
  sums_same blocks b node k st =
      map_same (λ i. inlet_block net.web blocks node i (held_of st i)) (λ i. sum_at net.web blocks node i (held_of st i)) (λ i. sum_same blocks b node i (held_of st i))
      (range_with_len 0 (ports_of k).signal_inlets)

  -- boxes that need nothing of others
  own_same : (blocks : Blocks) → HasBlocks net.web blocks → (node : ℕ) (k : Kind) (st : State) → HasRow (manner_of k) → HasSizes st → start ≤ 2 ^ 101 → IsOpen start st → blank st ≡ blank_of k
      → own_with net.web blocks start node k st (few_of k) ≡ own_row start k st (sums_at net.web blocks node k st)
  own_same blocks b node k st r h top n e =
      ap (λ (few : Option Few). own_with net.web blocks start node k st few) (few_ports k r)
      ∙ own_freely start k st (inlet_blocks net.web blocks node (ports_of k).signal_inlets st) h top n e
      ∙ ap (λ (ins : List (List ℤ)). own_row start k st ins) (sums_same blocks b node k st)

  own_left : (s : Sound) → HasBlocks net.web s.blocks → (node : ℕ) (k : Kind) (o : Option State) → HasRow (manner_of k) → IsSome o → IfSome o HasSizes → start ≤ 2 ^ 101 → IfSome o (IsOpen start) → option_map blank o ≡ Some (blank_of k)
      → own_by net start s node (Some k) o ≡ left_by s node (own_row start k (unwrap_or o Bare) (sums_at net.web s.blocks node k (unwrap_or o Bare)))
  own_left s b node k None r there h top n e = absurd (true≢false (sym there))
  own_left s b node k (Some st) r there h top n e = ap (λ (x : Ran). left_by s node x) (own_same s.blocks b node k st r h top n (same_Some (blank st) (blank_of k) e))

  -- beside a table
  table_same : (blocks : Blocks) → HasBlocks net.web blocks → (node : ℕ) (k : Kind) (st : State) (table : List ℤ) → HasRow (manner_of k)
      → table_with net.web blocks node k st table (few_of k) ≡ table_ran k st (sums_at net.web blocks node k st) table
  table_same blocks b node k st table r =
      ap (λ (few : Option Few). table_with net.web blocks node k st table few) (few_ports k r)
      ∙ ap (λ (ins : List (List ℤ)). table_ran k st ins table) (sums_same blocks b node k st)

  table_left : (s : Sound) → HasBlocks net.web s.blocks → (node : ℕ) (k : Kind) (o : Option State) → HasRow (manner_of k) → IsSome o
      → table_by net s node (Some k) o ≡ left_by s node (table_ran k (unwrap_or o Bare) (sums_at net.web s.blocks node k (unwrap_or o Bare)) (table_beside net.owners s.states node (Some k)))
  table_left s b node k None r there = absurd (true≢false (sym there))
  table_left s b node k (Some st) r there = ap (λ (x : Ran). left_by s node x) (table_same s.blocks b node k st (table_beside net.owners s.states node (Some k)) r)

  -- beside another box, while its own state is out
  alone_same : (blocks : Blocks) → HasBlocks net.web blocks → (node : ℕ) (k : Kind) (st : State) → HasRow (manner_of k)
      → alone_few net.web blocks node k st (few_of k) ≡ ran_alone k st (sums_at net.web blocks node k st) no_line
  alone_same blocks b node k st r =
      ap (λ (few : Option Few). alone_few net.web blocks node k st few) (few_ports k r)
      ∙ ap (λ (ins : List (List ℤ)). ran_alone k st ins no_line) (sums_same blocks b node k st)

  pair_same : (blocks : Blocks) → HasBlocks net.web blocks → (node : ℕ) (k : Kind) (st other : State) → HasRow (manner_of k)
      → pair_few net.web blocks node k st other (few_of k) ≡ pair_of k st (sums_at net.web blocks node k st) other
  pair_same blocks b node k st other r =
      ap (λ (few : Option Few). pair_few net.web blocks node k st other few) (few_ports k r)
      ∙ ap (λ (ins : List (List ℤ)). pair_of k st ins other) (sums_same blocks b node k st)

  other_same : (s : Sound) → HasBlocks net.web s.blocks → (node : ℕ) (k : Kind) (st : State) (owner : ℕ) (o : Option State) → HasRow (manner_of k) → Finds k o → IfSome o HasSizes
      → aside_owner net.web s node (Some k) st owner o
      ≡ aside_of (with_its k st (sums_at net.web s.blocks node k st) (unwrap_or o Bare)).ran
      (with_other s owner (with_shared (unwrap_or o Bare) (with_its k st (sums_at net.web s.blocks node k st) (unwrap_or o Bare)).values))
  other_same s b node k st owner None r f h = absurd (true≢false (sym f.0))
  other_same s b node k st owner (Some other) r f h =
      let ins : List (List ℤ) = sums_at net.web s.blocks node k st in
      let whole = pair_whole k st other ins (shares other) f.1 h (shared_there k other f.1) in
      ap (λ (p : Pair). aside_pair s owner p) (pair_same s.blocks b node k st other r)
      ∙ ap (λ (x : Ran). aside_of x (with_other s owner (pair_of k st ins other).other)) whole.0
      ∙ ap (λ (x : State). aside_of (with_its k st ins other).ran (with_other s owner x)) whole.1

  aside_same : (s : Sound) → HasBlocks net.web s.blocks → (node : ℕ) (k : Kind) (st : State) (o : Option ℕ) → HasRow (manner_of k) → ((owner : ℕ) → o ≡ Some owner → Finds k (s.states owner)) → HaveSizes s.states
      → aside_found net.web s node (Some k) st o ≡ beside_found s k st (sums_at net.web s.blocks node k st) o
  aside_same s b node k st None r f h = ap (λ (x : Ran). aside_of x s) (alone_same s.blocks b node k st r)
  aside_same s b node k st (Some owner) r f h = other_same s b node k st owner (s.states owner) r (f owner refl) (h owner)

  beside_left : (s : Sound) → HasBlocks net.web s.blocks → (node : ℕ) (k : Kind) (o : Option State) → HasRow (manner_of k) → IsSome o
      → ((owner : ℕ) → owner_of net.owners k ≡ Some owner → Finds k ((with_none s node).states owner)) → HaveSizes (with_none s node).states
      → beside_by net s node (Some k) o
      ≡ left_aside node (beside_found (with_none s node) k (unwrap_or o Bare) (sums_at net.web s.blocks node k (unwrap_or o Bare)) (owner_of net.owners k))
  beside_left s b node k None r there f h = absurd (true≢false (sym there))
  beside_left s b node k (Some st) r there f h = ap (λ (a : Aside). left_aside node a) (aside_same (with_none s node) b node k st (owner_of net.owners k) r f h)

  -- `dac~`, `inlet~` and `outlet~`
  dac_from-same : (blocks : Blocks) → HasBlocks net.web blocks → (node : ℕ) (st : State) (i : ℕ) (cs : List Channel) (out : List (List ℤ)) → dac_from net.web blocks node st i cs out ≡ dac_sums net.web blocks node st i cs out
  dac_from-same blocks b node st i [] out = refl
  dac_from-same blocks b node st i (c ∷ cs) out =
      ap (λ (x : List ℤ). dac_from net.web blocks node st (suc i) cs (added c x out)) (sum_same blocks b node i (held_of st i))
      ∙ dac_from-same blocks b node st (suc i) cs (added c (sum_at net.web blocks node i (held_of st i)) out)

  dac_left : (p : Played) → HasBlocks net.web p.sound.blocks → (node : ℕ) (k : Kind) (o : Option State) → IsSome o → HasFewChannels k
      → dac_by net p node (Some k) o ≡ with_out p (dac_sums net.web p.sound.blocks node (unwrap_or o Bare) 0 (channels_of k) p.out)
  dac_left p b node k None there few = absurd (true≢false (sym there))
  dac_left p b node k (Some st) there few =
      ap (λ (t : Bool). with_out p (cond t (dac_from net.web p.sound.blocks node st 0 (channels_of k) p.out) p.out)) (le-leb (length (channels_of k)) 1024 (few_channels k few))
      ∙ ap (λ (out : List (List ℤ)). with_out p out) (dac_from-same p.sound.blocks b node st 0 (channels_of k) p.out)

  port_same : (blocks : Blocks) → HasBlocks net.web blocks → (o : Option (ℕ × ℕ)) (held : ℤ) → port_block net.web blocks o held ≡ port_sum net.web blocks o held
  port_same blocks b None held = refl
  port_same blocks b (Some port) held = sum_same blocks b port.0 port.1 held

  abbrev with_values_of : Sound → ℕ → List ℤ → Sound
  with_values_of s node block = record { states = s.states; blocks = with_block s.blocks node 0 block }

  inlet_same : (s : Sound) → HasBlocks net.web s.blocks → (node : ℕ) → inlet_by net s node ≡ inlet_run net s node
  inlet_same s b node =
      ap (λ (z : ℤ). with_values_of s node (port_block net.web s.blocks (port_told net.web node) z)) (held_same (s.states node))
      ∙ ap (λ (x : List ℤ). with_values_of s node x) (port_same s.blocks b (port_told net.web node) (held_of (kept_by s node) 0))

  abbrev with_given : Sound → ℕ → List ℤ → Sound
  with_given s node block = record { states = s.states; blocks = given_at s.blocks (port_told net.web node) block }

  outlet_same : (s : Sound) → HasBlocks net.web s.blocks → (node : ℕ) → outlet_by net s node ≡ outlet_run net s node
  outlet_same s b node =
      ap (λ (z : ℤ). with_given s node (inlet_block net.web s.blocks node 0 z)) (held_same (s.states node))
      ∙ ap (λ (x : List ℤ). with_given s node x) (sum_same s.blocks b node 0 (held_of (kept_by s node) 0))

  -- these boxes run once, and none of them has run a later block
  record MayRun (ks : List ℕ) (states : ℕ → Option State) : Type 0 where
    once : (k : ℕ) → tally k ks ≤ 1
    opened : (k : ℕ) → 0 < tally k ks → IfSome (states k) (IsOpen start)

  may_inside : (x : ℕ) (ks : List ℕ) (states : ℕ → Option State) → MayRun (x ∷ ks) states → MayRun ks states
  may_inside x ks states f = record { once = λ k. less k (f.once k); opened = λ k m. f.opened k (more k m) }
    where
      less : (k : ℕ) → tally k (x ∷ ks) ≤ 1 → tally k ks ≤ 1
      less k h = omega (arith, h)

      more : (k : ℕ) → 0 < tally k ks → 0 < tally k (x ∷ ks)
      more k m = omega (arith, m)

  may_first : (xs ys : List ℕ) (states : ℕ → Option State) → MayRun (xs ++ ys) states → MayRun xs states
  may_first xs ys states f = record { once = λ k. less k (tally-append k xs ys) (f.once k); opened = λ k m. f.opened k (more k (tally-append k xs ys) m) }
    where
      less : (k : ℕ) → tally k (xs ++ ys) ≡ tally k xs + tally k ys → tally k (xs ++ ys) ≤ 1 → tally k xs ≤ 1
      less k e h = omega (arith, e, h)

      more : (k : ℕ) → tally k (xs ++ ys) ≡ tally k xs + tally k ys → 0 < tally k xs → 0 < tally k (xs ++ ys)
      more k e m = omega (arith, e, m)

  -- after the first of them ran
  may_then : (xs ys : List ℕ) (states later : ℕ → Option State) → MayRun (xs ++ ys) states
      → ((k : ℕ) → tally k xs ≡ 0 → IfSome (states k) (IsOpen start) → IfSome (later k) (IsOpen start)) → MayRun ys later
  may_then xs ys states later f stays = record {
    once = λ k. less k (tally-append k xs ys) (f.once k);
    opened = λ k m. stays k (none k (tally-append k xs ys) (f.once k) m) (f.opened k (more k (tally-append k xs ys) m));
  }
    where
      less : (k : ℕ) → tally k (xs ++ ys) ≡ tally k xs + tally k ys → tally k (xs ++ ys) ≤ 1 → tally k ys ≤ 1
      less k e h = omega (arith, e, h)

      none : (k : ℕ) → tally k (xs ++ ys) ≡ tally k xs + tally k ys → tally k (xs ++ ys) ≤ 1 → 0 < tally k ys → tally k xs ≡ 0
      none k e h m = omega (arith, e, h, m)

      more : (k : ℕ) → tally k (xs ++ ys) ≡ tally k xs + tally k ys → 0 < tally k ys → 0 < tally k (xs ++ ys)
      more k e m = omega (arith, e, m)

  first_there : (x : ℕ) (xs : List ℕ) → 0 < tally x (x ∷ xs)
  first_there x xs = rw (same_test x) (omega arith)

  -- all that is asked of boxes lasts through a block
  module _ (base : Sound) (ready : IsReady net base) (top : start ≤ 2 ^ 101) where
    record Lasts (p : Played) : Type 0 where
      is : SoundIn p.sound
      alike : AreAlike base.states p.sound.states
      held : HoldAlike base.blocks p.sound.blocks

    blocks_now : (p : Played) → Lasts p → HasBlocks net.web p.sound.blocks
    blocks_now p l = λ k o sounds. l.held k o ∙ ready.blocks k o sounds

    kinds_now : (p : Played) → Lasts p → KeepsOfKind (kind_at net) p.sound.states
    kinds_now p l = kinds_last (kind_at net) base.states p.sound.states ready.kinds l.alike

    there_now : (p : Played) (node : ℕ) (k : Kind) → Lasts p → kind_at net node ≡ Some k → IsSome (p.sound.states node)
    there_now p node k l e = there_by k (kind_at net node) (p.sound.states node) (kinds_now p l node) e

    found_now : (p : Played) (k : Kind) (owner : ℕ) → Lasts p → owner_of net.owners k ≡ Some owner → Finds k (p.sound.states owner)
    found_now p k owner l e = goes_on k base.states p.sound.states owner l.alike (ready.owners k owner e)

    not_owner : (p : Played) (node : ℕ) (k : Kind) (owner : ℕ) → Lasts p → kind_at net node ≡ Some k → owner_of net.owners k ≡ Some owner → (owner == node) ≡ true → ⊥
    not_owner p node k owner l e f b =
        let own : option_map blank (p.sound.states node) ≡ Some (blank_of k) = kinds_now p l node ∙ ap (option_map blank_of) e in
        not_itself k (p.sound.states node) own (subst (λ (n : ℕ). Finds k (p.sound.states n)) (eqb-true owner node b) (found_now p k owner l f))

    found_beside : (p : Played) (node : ℕ) (k : Kind) (owner : ℕ) → Lasts p → kind_at net node ≡ Some k → owner_of net.owners k ≡ Some owner → Finds k ((with_none p.sound node).states owner)
    found_beside p node k owner l e f = found_aside k (owner == node) (p.sound.states owner) (not_owner p node k owner l e f) (found_now p k owner l f)

    sizes_beside : (p : Played) (node : ℕ) → Lasts p → HaveSizes (with_none p.sound node).states
    sizes_beside p node l j = either (λ (o : Option State). IfSome o HasSizes) (j == node) None (p.sound.states j) tt (l.is.is j)

    row_of : (k : Kind) (m : Manner) → manner_of k ≡ m → HasRow m → HasRow (manner_of k)
    row_of k m e h = subst HasRow (sym e) h

    kept_now : (p : Played) (node : ℕ) (k : Kind) → Lasts p → kind_at net node ≡ Some k → option_map blank (p.sound.states node) ≡ Some (blank_of k)
    kept_now p node k l e = kinds_now p l node ∙ ap (option_map blank_of) e

    -- a box
    as_same : (p : Played) (node : ℕ) (k : Kind) (m : Manner) → Lasts p → IfSome (p.sound.states node) (IsOpen start) → kind_at net node ≡ Some k → manner_of k ≡ m → ran_as net start p node (Some k) m ≡ run_as net start p node k m
    as_same p node k Own l n e m =
        ap (λ (s : Sound). with_sound p s) (own_left p.sound (blocks_now p l) node k (p.sound.states node) (row_of k Own m tt) (there_now p node k l e) (l.is.is node) top n (kept_now p node k l e))
    as_same p node k Beside l n e m =
        ap (λ (s : Sound). with_sound p s)
        (beside_left p.sound (blocks_now p l) node k (p.sound.states node) (row_of k Beside m tt) (there_now p node k l e) (λ owner f. found_beside p node k owner l e f) (sizes_beside p node l))
    as_same p node k Table l n e m =
        ap (λ (s : Sound). with_sound p s) (table_left p.sound (blocks_now p l) node k (p.sound.states node) (row_of k Table m tt) (there_now p node k l e))
    as_same p node k Dac l n e m = dac_left p (blocks_now p l) node k (p.sound.states node) (there_now p node k l e) (subst (λ (o : Option Kind). IfSome o HasFewChannels) e (ready.channels node))
    as_same p node k Inlet l n e m = ap (λ (s : Sound). with_sound p s) (inlet_same p.sound (blocks_now p l) node)
    as_same p node k Outlet l n e m = ap (λ (s : Sound). with_sound p s) (outlet_same p.sound (blocks_now p l) node)
    as_same p node k Never l n e m = refl

    kind_same : (p : Played) (node : ℕ) (o : Option Kind) → Lasts p → IfSome (p.sound.states node) (IsOpen start) → kind_at net node ≡ o → ran_as net start p node o (manner_by o) ≡ run_kind net start p node o
    kind_same p node None l n e = refl
    kind_same p node (Some k) l n e = as_same p node k (manner_of k) l n e refl

    plain_same : (p : Played) (node : ℕ) → Lasts p → IfSome (p.sound.states node) (IsOpen start) → ran_plain net start p node ≡ run_kind net start p node (kind_at net node)
    unfolding ran_plain
    plain_same p node l n = kind_same p node (kind_at net node) l n refl

    -- boxes and canvases
    silent_lasts : (p : Played) (ns : List ℕ) → Lasts p → Lasts (played (each silenced p.sound ns) p.out)
    silent_lasts p ns l = record { is = silent_in net start p.sound ns l.is; alike = silent_alike net start base.states p.sound ns l.alike; held = silent_holds net start base.blocks p.sound ns l.held }

    box_lasts : (levels : ℕ) (p : Played) (node : ℕ) → Lasts p → Lasts (ran_one net start (ran_canvas net start levels) p node)
    box_lasts levels p node l =
        let is : PlayedIn net start (ran_one net start (ran_canvas net start levels) p node) =
        box_in net start (ran_canvas net start levels) (canvas_in net start levels) p node (inner_at net node) (record { is = l.is }) in
        record {
          is = is.is;
          alike = box_alike net start base.states (ran_canvas net start levels) (canvas_alike net start base.states levels) p node (inner_at net node) l.alike;
          held = box_holds net start base.blocks (ran_canvas net start levels) (canvas_holds net start base.blocks levels) p node (inner_at net node) l.held;
        }

    -- the box and the canvas, as they run and as they run where nothing is looked at
    abbrev ran_at : ℕ → Played → ℕ → Played
    ran_at levels = ran_one net start (ran_canvas net start levels)

    abbrev run_at : ℕ → Played → ℕ → Played
    run_at levels = run_one net start (run_canvas net start levels)

    box_same : (levels : ℕ) (p : Played) (node : ℕ) (o : Option ℕ)
        → ((q : Played) (c : ℕ) → Lasts q → MayRun (boxes_run net levels c) q.sound.states → ran_canvas net start levels q c ≡ run_canvas net start levels q c)
        → Lasts p → MayRun (with_inside (boxes_run net levels) node o) p.sound.states
        → ran_box net start (ran_canvas net start levels) p node o ≡ run_box net start (run_canvas net start levels) p node o
    box_same levels p node None h l f = plain_same p node l (f.opened node (first_there node []))
    box_same levels p node (Some inner) h l f = h (played (silenced p.sound node) p.out) inner (silent_lasts p (node ∷ []) l) (may_inside node (boxes_run net levels inner) p.sound.states f)

    each_same : (levels : ℕ) (p : Played) (ns : List ℕ) → ((q : Played) (n : ℕ) → Lasts q → MayRun (box_runs net levels n) q.sound.states → ran_at levels q n ≡ run_at levels q n)
        → Lasts p → MayRun (flat_map (box_runs net levels) ns) p.sound.states → each (ran_at levels) p ns ≡ each (run_at levels) p ns
    each_same levels p [] h l f = refl
    each_same levels p (n ∷ ns) h l f =
        let q : Played = ran_at levels p n in
        let these : List ℕ = box_runs net levels n in
        let others : List ℕ = flat_map (box_runs net levels) ns in
        each_same levels q ns h (box_lasts levels p n l) (may_then these others p.sound.states q.sound.states f (λ k none a. other_open net start start k levels p n none a))
        ∙ ap (λ (x : Played). each (run_at levels) x ns) (h p n l (may_first these others p.sound.states f))

    canvas_same : (levels : ℕ) (p : Played) (canvas : ℕ) → Lasts p → MayRun (boxes_run net levels canvas) p.sound.states
        → ran_canvas net start levels p canvas ≡ run_canvas net start levels p canvas
    unfolding ran_canvas run_canvas boxes_run
    canvas_same zero p canvas l f = refl
    canvas_same (suc levels) p canvas l f =
        each_same levels (played (each silenced p.sound (stuck_at net canvas)) p.out) (chain_at net canvas) (λ q n a m. box_same levels q n (inner_at net n) (canvas_same levels) a m)
        (silent_lasts p (stuck_at net canvas) l) (record { once = f.once; opened = λ k m. silent_open net start start k p.sound (stuck_at net canvas) (f.opened k m) })

    first_lasts : Lasts (played (begun base) (silent_block ∷ silent_block ∷ []))
    first_lasts = record { is = begun_in net start base (record { is = ready.whole.states; blocks = ready.whole.blocks }); alike = begun_alike net start base; held = λ k o. refl }

    pub within_free : AreOpen start base.states → (levels : ℕ) → RunsOnce levels net → block_within levels net base start ≡ free_block levels net base start
    unfolding free_block
    within_free ended levels o =
        canvas_same levels (played (begun base) (silent_block ∷ silent_block ∷ [])) net.root first_lasts
        (record { once = o.once; opened = λ k m. begun_open net start start k base (ended.each k) })
        ∙ ap (λ (s : Sound). run_canvas net start levels (played s (silent_block ∷ silent_block ∷ [])) net.root) (all_begin base ready.keys)

    pub block_is_free : AreOpen start base.states → RunsOnce 257 net → block_of net base start ≡ free_block 257 net base start
    unfolding block_of
    block_is_free ended o = within_free ended 257 o
