-- A patch that stands is ready, as long as what its boxes keep is of their kinds and has its sizes.
use Rattle.std.proofs.Common.{arith, ◌≡◌, ℕ, ℤ, zero, suc, ◌+◌, ◌<◌, ◌≤◌, ◌^◌, true, List, [], ◌∷◌, length, replicate, slice_get, Option, Some, None, IfSome, IsSome, is_some, option_map, refl, sym, ap, subst, ◌∙◌, true≢false}
use Rattle.std.proofs.lemmas.Option.{none-some, same_Some, slice_get-get_or}
use Rattle.std.proofs.lemmas.List.{length-map, length-replicate, take_all}
use Rattle.std.specs.Prelude.{option_and_then}
use Rattle.slab.specs.Slab.{get}
use Rattle.pd_atom.specs.Names.{Names}
use Rattle.pd_clock.specs.declared.times.Rate.{Rate}
use Rattle.pd_clock.specs.Queue.{Clock}
use Rattle.pd_object.specs.declared.kinds.Kind.{Kind}
use Rattle.pd_kind.specs.declared.states.State.{State}
use Rattle.pd_kind.specs.Fit.{blank}
use Rattle.pd_tree.specs.Trees.{Tree}
use Rattle.pd_grove.specs.declared.grove.Grove.{Grove}
use Rattle.pd_grove.specs.declared.nodes.Node.{Node}
use Rattle.pd_grove.specs.Standing.{GroveStands}
use Rattle.pd_grove.specs.Telling.{kind_in}
use Rattle.pd_grove.specs.TextOrder.{deep}
use Rattle.pd_grove.specs.declared.ports.Side.TheVariants.{Outlets}
use Rattle.pd_web.specs.declared.jacks.Jack.{Jack}
use Rattle.pd_web.specs.declared.web.Web.{Web}
use Rattle.pd_web.specs.Jacks.{jacks_in}
use Rattle.pd_web.specs.Hops.{ports_told, signal_in, feed_hops}
use Rattle.pd_patch.specs.declared.patch.Patch.{Patch}
use Rattle.pd_patch.specs.Built.{IsBuilt, block_sizes}
use Rattle.pd_patch.specs.Fed.{AreFed}
use Rattle.pd_patch.specs.Grown.{IsFresh, IsTree}
use Rattle.pd_patch.specs.Values.{Blocks, block_count, blocks_told}
use Rattle.pd_canvas.specs.Pages.{Page}
use Rattle.pd_canvas.specs.Proper.{IsProper}
use Rattle.pd_library.specs.declared.answers.Answer.{Answer}
use Rattle.pd_library.specs.Files.{answer_in}
use Rattle.pd_gather.specs.Gather.{AreProper}
use Rattle.pd_growth.specs.Steps.{beginning}
use Rattle.pd_growth.specs.Growth.{grown}
use Rattle.pd_channels_law.specs.Channels.{HasFewChannels, NodesHaveFew}
use Rattle.pd_channels_law.proofs.GrowthLemmas.{sound_short, library_short, patch_few, nodes_few}
use Rattle.pd_patch.proofs.BlockLemmas.{blocks_some}
use Rattle.pd_patch.proofs.BuiltLemmas.{is_built}
use Rattle.pd_block.specs.Inlets.{wires_to}
use Rattle.pd_block.specs.Nets.{Net, Sound, bare, net_of, sound_of, with_clocks, kind_at}
use Rattle.pd_block.specs.Blocks.{block_within, block_of}
use Rattle.pd_block.proofs.LevelLemmas.{levels_enough}
use Rattle.pd_sized.specs.Alike.{AreAlike}
use Rattle.pd_sized.specs.Kinds.{kinds_of, blank_of, KeepsOfKind}
use Rattle.pd_sized.specs.Sizes.{HaveSizes, IsWhole}
use Rattle.pd_sized.proofs.KindLemmas.{made_of_kind, kinds_last}
use Rattle.pd_sized.proofs.ServeLemmas.{owner_finds, goes_on}
use Rattle.pd_sized.proofs.BlockLemmas.{block_whole}
use Rattle.pd_sized.proofs.AlikeBlockLemmas.{block_alike}
use Rattle.pd_ends_law.specs.Ends.{AreOpen}
use Rattle.pd_ends_law.specs.Once.{RunsOnce}
use Rattle.pd_ends_law.proofs.OnceLemmas.{standing_once}
use Rattle.pd_sound_law.specs.Freely.{free_block}
use Rattle.pd_sound_law.specs.Ready.{HasBlocks, IsReady, HasFewFeeds}
use Rattle.pd_sound_law.proofs.SlotLemmas.{block_holds}
use Rattle.pd_sound_law.proofs.FreeLemmas.{within_free, block_is_free}

-- a box is of the same kind without what it keeps
bare_kind : (o : Option Node) → kind_in o ≡ kind_in (bare o)
bare_kind None = refl
bare_kind (Some n) = refl

bare_few : (o : Option Node) → ((n : Node) → o ≡ Some n → HasFewChannels n.kind) → IfSome (kind_in (bare o)) HasFewChannels
bare_few None h = tt
bare_few (Some n) h = h n refl

-- ---- an outlet that carries signals has a block

below_all : (ports : List Jack) (o : ℕ) → signal_in (slice_get ports o) ≡ true → o < length ports
below_all [] o h = absurd (true≢false (sym h))
below_all (j ∷ ports) zero h = omega arith
below_all (j ∷ ports) (suc o) h = let rest : o < length ports = below_all ports o h in omega (arith, rest)

enough : (own : List (List ℤ)) (n o : ℕ) → block_sizes own ≡ replicate n 64 → o < n → IsSome (slice_get own o)
enough own n o e l =
    let sizes : length (block_sizes own) ≡ length own = length-map own (λ (block : List ℤ). length block) in
    let all : length (block_sizes own) ≡ n = ap length e ∙ length-replicate n 64 in
    ap is_some (slice_get-get_or own o [] (omega (arith, sizes, all, l)))

row_there : (row : Option (List (List ℤ))) (n o : ℕ) → option_map block_sizes row ≡ Some (replicate n 64) → o < n → IsSome (option_and_then (λ (own : List (List ℤ)). slice_get own o) row)
row_there None n o e l = absurd (none-some (replicate n 64) e)
row_there (Some own) n o e l = enough own n o (same_Some (block_sizes own) (replicate n 64) e) l

-- a box with such an outlet is there
box_there : (g : Grove) (k o : ℕ) (n : Option Node) → signal_in (slice_get (jacks_in Outlets g n) o) ≡ true → IsSome n
box_there g k o None h = absurd (true≢false (sym h))
box_there g k o (Some n) h = refl

built_blocks : (p : Patch) (names : Names) (file : List ℕ) (rate : Rate) → IsBuilt p names file rate → HasBlocks p.web (blocks_told p)
built_blocks p names file rate built k o sounds =
    let told : signal_in (slice_get (jacks_in Outlets p.grove (get p.grove.nodes k)) o) ≡ true = ap (λ (js : List Jack). signal_in (slice_get js o)) (sym (built.ports.ports Outlets k)) ∙ sounds in
    let js : List Jack = ports_told p.web Outlets k in
    row_there (slice_get (blocks_told p) k) (block_count js) o (built.blocks k (box_there p.grove k o (get p.grove.nodes k) told))
    (subst (λ (n : ℕ). o < n) (blocks_some js o sounds) (below_all js o sounds))

-- ---- a key of 2^32 or more is no box's

no_box : (o : Option Node) → (IsSome o → ⊥) → o ≡ None
no_box None h = refl
no_box (Some n) h = absurd (h refl)

nothing_kept : (o : Option State) (k : Option Kind) → option_map blank o ≡ option_map blank_of k → k ≡ None → o ≡ None
nothing_kept None k e h = refl
nothing_kept (Some st) k e h = absurd (none-some (blank st) (sym (e ∙ ap (option_map blank_of) h)))

built_keys : (p : Patch) (names : Names) (file : List ℕ) (rate : Rate) → IsBuilt p names file rate → (states : ℕ → Option State) → KeepsOfKind (kinds_of p) states → (k : ℕ) → 2 ^ 32 ≤ k → states k ≡ None
built_keys p names file rate built states kept k far =
    let none : get p.grove.nodes k ≡ None = no_box (get p.grove.nodes k) (λ live. let near : k < 2 ^ 32 = built.keys k live in absurd (omega (arith, near, far))) in
    nothing_kept (states k) (kinds_of p k) (kept k) (ap kind_in none)

-- so it stays where what boxes keep is of the same objects
none_stays : (old new : Option State) → option_map blank new ≡ option_map blank old → old ≡ None → new ≡ None
none_stays old None e h = refl
none_stays old (Some st) e h = absurd (none-some (blank st) (sym (e ∙ ap (option_map blank) h)))

pub ready_built : (p : Patch) (names : Names) (file : List ℕ) (rate : Rate) → IsBuilt p names file rate → NodesHaveFew (get p.grove.nodes) → AreFed p.web → (clocks : List Clock) (s : Sound) → KeepsOfKind (kinds_of p) s.states
    → IsWhole s → HasBlocks p.web s.blocks → IsReady (with_clocks (net_of p) clocks) s
ready_built p names file rate built few fed clocks s kept whole blocks = record {
  kinds = λ k. kept k ∙ ap (option_map blank_of) (bare_kind (get p.grove.nodes k));
  whole = whole;
  owners = λ k o e. owner_finds p names file rate built s.states kept k o e;
  channels = λ k. bare_few (get p.grove.nodes k) (few k);
  keys = built_keys p names file rate built s.states kept;
  fed = fed;
  blocks = blocks;
}

pub ready_grown : (p : Patch) (names : Names) (file : List ℕ) (rate : Rate) → IsFresh p names file rate → NodesHaveFew (get p.grove.nodes) → IsWhole (sound_of p)
    → IsReady (net_of p) (sound_of p)
ready_grown p names file rate fresh few whole =
    let built : IsBuilt p names file rate = is_built p names file rate fresh in
    ready_built p names file rate built few fresh.fed p.timers.clocks.clocks (sound_of p) (made_of_kind p rate 0 fresh.states) whole (built_blocks p names file rate built)

-- so do those of a patch that has grown from proper documents
pub planted_few : (files : List (ℕ × Answer)) (name : List ℕ) (root : Page) (before names : Names) (n : ℕ) (rate : Rate) (p : Patch) → IsProper before root → AreProper before files
    → IsTree p names rate (grown (answer_in files) name root (beginning before n)) → NodesHaveFew (get p.grove.nodes)
planted_few files name root before names n rate p proper library tree =
    nodes_few tree.tree.boxes (get p.grove.nodes)
    (patch_few (answer_in files) name root (beginning before n) tree.given.after tree.tree (library_short before files library) (sound_short before root.boxes proper.sound.1) tree.given.step) tree.of_tree

-- it stays so, where each outlet that carries signals still has a block
pub ready_lasts : (net : Net) (s t : Sound) → IsReady net s → AreAlike s.states t.states → IsWhole t → HasBlocks net.web t.blocks → IsReady net t
ready_lasts net s t ready alike whole blocks = record {
  kinds = kinds_last (kind_at net) s.states t.states ready.kinds alike;
  whole = whole;
  owners = λ k o e. goes_on k s.states t.states o alike (ready.owners k o e);
  channels = ready.channels;
  keys = λ k far. none_stays (s.states k) (t.states k) (alike k) (ready.keys k far);
  fed = ready.fed;
  blocks = blocks;
}

pub ready_on : (net : Net) (start : ℕ) (s : Sound) → IsReady net s → IsReady net (block_of net s start).sound
ready_on net start s ready =
    ready_lasts net s (block_of net s start).sound ready (block_alike net start s) (block_whole net start s ready.whole) (λ k o sounds. block_holds net start s k o ∙ ready.blocks k o sounds)

-- no more wires than there may be are all
pub all_wires : (web : Web) → HasFewFeeds web → (node inlet : ℕ) → wires_to web node inlet ≡ feed_hops web node inlet
unfolding wires_to
all_wires web few node inlet = take_all 65536 (feed_hops web node inlet) (few node inlet)

pub grown_few : (p : Patch) (names : Names) (file : List ℕ) (rate : Rate) → IsFresh p names file rate → HasFewFeeds p.web
grown_few p names file rate fresh = fresh.fed.few

-- where all is ready for it, no `vline~` ends later and no box runs twice, a block is free
pub ready_free : (net : Net) (s : Sound) (start levels : ℕ) → IsReady net s → AreOpen start s.states → RunsOnce levels net → start ≤ 2 ^ 101 → block_within levels net s start ≡ free_block levels net s start
ready_free net s start levels ready ended once top = within_free net start (all_wires net.web ready.fed.few) s ready top ended levels once

pub whole_free : (net : Net) (s : Sound) (start : ℕ) → IsReady net s → AreOpen start s.states → RunsOnce 257 net → start ≤ 2 ^ 101 → block_of net s start ≡ free_block 257 net s start
whole_free net s start ready ended once top = block_is_free net start (all_wires net.web ready.fed.few) s ready top ended once

-- the block of a patch that stands
pub standing_free : (p : Patch) (names : Names) (file : List ℕ) (rate : Rate) (t : Tree) → GroveStands p.grove t.sheet t.boxes → deep t.boxes + 1 ≤ 256 → IsBuilt p names file rate → NodesHaveFew (get p.grove.nodes) → AreFed p.web
    → (clocks : List Clock) (s : Sound) (start levels : ℕ) → deep t.boxes < levels → KeepsOfKind (kinds_of p) s.states → IsWhole s → HasBlocks p.web s.blocks → AreOpen start s.states → start ≤ 2 ^ 101
    → block_of (with_clocks (net_of p) clocks) s start ≡ free_block levels (with_clocks (net_of p) clocks) s start
standing_free p names file rate t stands low built few fed clocks s start levels l kept whole blocks ended top =
    sym (levels_enough p t.sheet t.boxes stands built.orders (omega (arith, low)) clocks s start levels l)
    ∙ ready_free (with_clocks (net_of p) clocks) s start levels (ready_built p names file rate built few fed clocks s kept whole blocks) ended
    (standing_once p t clocks levels stands built.own built.orders) top
