-- What boxes keep after a block.
use Rattle.std.proofs.Common.{◌≡◌, ℕ, ℤ, zero, suc, nat_lt, List, [], ◌∷◌, Option, Some, None, option_map, refl}
use Rattle.pd_object.specs.declared.kinds.Kind.{Kind}
use Rattle.pd_kind.specs.declared.states.State.{State}
use Rattle.pd_kind.specs.declared.states.State.TheVariants as state
use Rattle.pd_kind.specs.Tables.{shared_of, block_begun}
use Rattle.pd_turn.specs.declared.sizes.Few.{Few}
use Rattle.pd_turn.specs.declared.sorts.Manner.{Manner}
use Rattle.pd_turn.specs.declared.sorts.Manner.TheVariants.{Own, Beside, Table, Dac, Inlet, Outlet, Never}
use Rattle.pd_turn.specs.Sizes.{few_of}
use Rattle.pd_turn.specs.Rows.{Ran}
use Rattle.pd_turn.specs.Pairs.{line_at}
use Rattle.pd_web.specs.declared.web.Web.{Web}
use Rattle.pd_patch.specs.Values.{Blocks}
use Rattle.pd_block.specs.Inlets.{inlet_blocks}
use Rattle.pd_block.specs.Nets.{Net, Sound, kind_at, inner_at, chain_at, stuck_at}
use Rattle.pd_block.specs.Blocks.{Played, played, own_with, own_in, own_by, table_beside, table_with, table_in, table_by, Aside, pair_few, pair_in, alone_few, alone_in, owner_in, aside_alone, aside_owner, aside_found, aside_by, with_none, beside_by, ran_as, manner_by, ran_plain, each, silenced, ran_box, ran_one, ran_canvas, begun, block_of}
use Rattle.pd_keeping_law.proofs.FactLemmas.{either}
use Rattle.pd_keeping_law.specs.Changes.{RunsOn, silent, delwrite_on, Passes, absent, kept, AllRunOn}
use Rattle.pd_keeping_law.proofs.ChangeLemmas.{running, still, all_still, onward, set_passes, back_passes, box_passes}
use Rattle.pd_keeping_law.proofs.TurnLemmas.{Turns, own_turn, table_turn, beside_turn, PairRuns, pair_by-runs}

-- Boxes and canvases: whatever holds of all that sounds, where a box's turn and a silence leave it, holds after a canvas.
module _ (net : Net) (start : ℕ) (Holds : Sound → Type 0) (plain : (p : Played) (node : ℕ) → Holds p.sound → Holds (ran_plain net start p node).sound) (quiet : (s : Sound) (node : ℕ) → Holds s → Holds (silenced s node)) where
  abbrev Plays : Played → Type 0
  Plays p = Holds p.sound

  pub box_keeps : (inside : Played → ℕ → Played) → ((p : Played) (c : ℕ) → Plays p → Plays (inside p c)) → (p : Played) (node : ℕ) (o : Option ℕ) → Plays p → Plays (ran_box net start inside p node o)
  box_keeps inside k p node None h = plain p node h
  box_keeps inside k p node (Some inner) h = k (played (silenced p.sound node) p.out) inner (quiet p.sound node h)

  each_keeps : (one : Played → ℕ → Played) → ((p : Played) (n : ℕ) → Plays p → Plays (one p n)) → (p : Played) (ns : List ℕ) → Plays p → Plays (each one p ns)
  each_keeps one k p [] h = h
  each_keeps one k p (n ∷ ns) h = each_keeps one k (one p n) ns (k p n h)

  pub silent_keeps : (s : Sound) (ns : List ℕ) → Holds s → Holds (each silenced s ns)
  silent_keeps s [] h = h
  silent_keeps s (n ∷ ns) h = silent_keeps (silenced s n) ns (quiet s n h)

  pub canvas_keeps : (levels : ℕ) (p : Played) (canvas : ℕ) → Plays p → Plays (ran_canvas net start levels p canvas)
  unfolding ran_canvas
  canvas_keeps zero p canvas h = h
  canvas_keeps (suc levels) p canvas h =
      each_keeps (ran_one net start (ran_canvas net start levels)) (λ q node b. box_keeps (ran_canvas net start levels) (canvas_keeps levels) q node (inner_at net node) b)
      (played (each silenced p.sound (stuck_at net canvas)) p.out) (chain_at net canvas) (silent_keeps p.sound (stuck_at net canvas) h)

module _ (net : Net) (start : ℕ) where
  own_few : (web : Web) (blocks : Blocks) (node : ℕ) (k : Kind) (s : State) (o : Option Few) → Turns s (own_with web blocks start node k s o)
  own_few web blocks node k s None = silent
  own_few web blocks node k s (Some few) = own_turn start k s (inlet_blocks web blocks node few.inlets s)

  own_some : (web : Web) (blocks : Blocks) (node : ℕ) (k : Option Kind) (s : State) → Turns s (own_in web blocks start node k s)
  own_some web blocks node None s = silent
  own_some web blocks node (Some k) s = own_few web blocks node k s (few_of k)

  own_sound : (s : Sound) (node : ℕ) (k : Option Kind) (o : Option State) → s.states node ≡ o → AllRunOn s.states (own_by net start s node k o).states
  own_sound s node k None e = all_still RunsOn running s.states
  own_sound s node k (Some st) e =
      let r : Ran = own_in net.web s.blocks start node k st in
      set_passes RunsOn running s.states node (Some r.state) (box_passes RunsOn running (s.states node) st r.state e (own_some net.web s.blocks node k st))

  table_few : (web : Web) (blocks : Blocks) (node : ℕ) (k : Kind) (s : State) (table : List ℤ) (o : Option Few) → Turns s (table_with web blocks node k s table o)
  table_few web blocks node k s table None = silent
  table_few web blocks node k s table (Some few) = table_turn k s (inlet_blocks web blocks node few.inlets s) table

  table_some : (web : Web) (blocks : Blocks) (node : ℕ) (k : Option Kind) (s : State) (table : List ℤ) → Turns s (table_in web blocks node k s table)
  table_some web blocks node None s table = silent
  table_some web blocks node (Some k) s table = table_few web blocks node k s table (few_of k)

  table_sound : (s : Sound) (node : ℕ) (k : Option Kind) (o : Option State) → s.states node ≡ o → AllRunOn s.states (table_by net s node k o).states
  table_sound s node k None e = all_still RunsOn running s.states
  table_sound s node k (Some st) e =
      let table : List ℤ = table_beside net.owners s.states node k in
      let r : Ran = table_in net.web s.blocks node k st table in
      set_passes RunsOn running s.states node (Some r.state) (box_passes RunsOn running (s.states node) st r.state e (table_some net.web s.blocks node k st table))

  alone_few-runs : (web : Web) (blocks : Blocks) (node : ℕ) (k : Kind) (s : State) (o : Option Few) → Turns s (alone_few web blocks node k s o)
  alone_few-runs web blocks node k s None = silent
  alone_few-runs web blocks node k s (Some few) = beside_turn k s (inlet_blocks web blocks node few.inlets s) [] _

  alone_some : (web : Web) (blocks : Blocks) (node : ℕ) (k : Option Kind) (s : State) → Turns s (alone_in web blocks node k s)
  alone_some web blocks node None s = silent
  alone_some web blocks node (Some k) s = alone_few-runs web blocks node k s (few_of k)

  pair_few-runs : (web : Web) (blocks : Blocks) (node : ℕ) (k : Kind) (s other : State) (o : Option Few) → PairRuns s other (pair_few web blocks node k s other o)
  pair_few-runs web blocks node k s other None = record { ran = silent; other = silent }
  pair_few-runs web blocks node k s other (Some few) = pair_by-runs k s (inlet_blocks web blocks node few.inlets s) other (line_at other) (shared_of other)

  pair_some : (web : Web) (blocks : Blocks) (node : ℕ) (k : Option Kind) (s other : State) → PairRuns s other (pair_in web blocks node k s other)
  pair_some web blocks node None s other = record { ran = silent; other = silent }
  pair_some web blocks node (Some k) s other = pair_few-runs web blocks node k s other (few_of k)

  record AsideRuns (s : Sound) (st : State) (a : Aside) : Type 0 where
    ran : Turns st a.ran
    others : AllRunOn s.states a.sound.states

  aside_alone-runs : (s : Sound) (node : ℕ) (k : Option Kind) (st : State) → AsideRuns s st (aside_alone net.web s node k st)
  aside_alone-runs s node k st = record { ran = alone_some net.web s.blocks node k st; others = all_still RunsOn running s.states }

  aside_owner-runs : (s : Sound) (node : ℕ) (k : Option Kind) (st : State) (owner : ℕ) (o : Option State) → s.states owner ≡ o → AsideRuns s st (aside_owner net.web s node k st owner o)
  aside_owner-runs s node k st owner None e = aside_alone-runs s node k st
  aside_owner-runs s node k st owner (Some other) e =
      let p : PairRuns st other (pair_in net.web s.blocks node k st other) = pair_some net.web s.blocks node k st other in
      let left : State = (pair_in net.web s.blocks node k st other).other in
      record { ran = p.ran; others = set_passes RunsOn running s.states owner (Some left) (box_passes RunsOn running (s.states owner) other left e p.other) }

  aside_found-runs : (s : Sound) (node : ℕ) (k : Option Kind) (st : State) (o : Option ℕ) → AsideRuns s st (aside_found net.web s node k st o)
  aside_found-runs s node k st None = aside_alone-runs s node k st
  aside_found-runs s node k st (Some owner) = aside_owner-runs s node k st owner (s.states owner) refl

  beside_sound : (s : Sound) (node : ℕ) (k : Option Kind) (o : Option State) → s.states node ≡ o → AllRunOn s.states (beside_by net s node k o).states
  beside_sound s node k None e = all_still RunsOn running s.states
  beside_sound s node k (Some st) e =
      let a : Aside = aside_by net (with_none s node) node k st in
      let i : AsideRuns (with_none s node) st a = aside_found-runs (with_none s node) node k st (owner_in net.owners k) in
      back_passes RunsOn running s.states a.sound.states node (Some a.ran.state) i.others (box_passes RunsOn running (s.states node) st a.ran.state e i.ran)

  as_runs : (p : Played) (node : ℕ) (k : Option Kind) (m : Manner) → AllRunOn p.sound.states (ran_as net start p node k m).sound.states
  as_runs p node k Own = own_sound p.sound node k (p.sound.states node) refl
  as_runs p node k Beside = beside_sound p.sound node k (p.sound.states node) refl
  as_runs p node k Table = table_sound p.sound node k (p.sound.states node) refl
  as_runs p node k Dac = all_still RunsOn running p.sound.states
  as_runs p node k Inlet = all_still RunsOn running p.sound.states
  as_runs p node k Outlet = all_still RunsOn running p.sound.states
  as_runs p node k Never = all_still RunsOn running p.sound.states

  pub plain_runs : (p : Played) (node : ℕ) → AllRunOn p.sound.states (ran_plain net start p node).sound.states
  unfolding ran_plain
  plain_runs p node = as_runs p node (kind_at net node) (manner_by (kind_at net node))

  begun_state : (s : State) → RunsOn s (block_begun s)
  begun_state (state.Delwrite held values next ran) = delwrite_on
  begun_state s = silent

  begun_some : (o : Option State) → Passes RunsOn o (option_map block_begun o)
  begun_some None = absent
  begun_some (Some s) = kept (begun_state s)

  pub begun_runs : (s : Sound) → AllRunOn s.states (begun s).states
  begun_runs s k =
      either (λ (o : Option State). Passes RunsOn (s.states k) o) (nat_lt k 4294967296) (option_map block_begun (s.states k)) (s.states k) (begun_some (s.states k)) (still RunsOn running (s.states k))

  pub block_runs : (s : Sound) → AllRunOn s.states (block_of net s start).sound.states
  unfolding block_of
  block_runs s =
      canvas_keeps net start (λ (t : Sound). AllRunOn s.states t.states)
      (λ p node h. onward RunsOn running s.states p.sound.states (ran_plain net start p node).sound.states h (plain_runs p node)) (λ t node h. h) 257 _ net.root (begun_runs s)
