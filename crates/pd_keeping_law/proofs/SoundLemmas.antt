-- What holds of what boxes keep and of the blocks that their outlets give holds after a block, where it holds after each box's turn.
use Rattle.std.proofs.Common.{◌≡◌, ℕ, ℤ, pos, ◌≤◌, ◌==◌, nat_lt, List, [], ◌∷◌, length, map, slice_get, slice_set, slice_index_or, unwrap_or, Option, Some, None, IfSome, option_map, option_and_then, refl, ap, arith}
use Rattle.std.proofs.lemmas.List.FromFn.{length-map-range_with_len}
use Rattle.std.specs.List.{AllByRecursion, range_with_len}
use Rattle.pd_num.specs.Scale.{billionths, sum_of}
use Rattle.pd_object.specs.declared.kinds.Kind.{Kind}
use Rattle.pd_kind.specs.declared.states.State.{State}
use Rattle.pd_kind.specs.declared.tables.Line.{Line}
use Rattle.pd_kind.specs.States.{silent_block}
use Rattle.pd_kind.specs.Tables.{table_of, shared_of, block_begun}
use Rattle.pd_signal.specs.Samples.{zip_with}
use Rattle.pd_turn.specs.declared.sizes.Few.{Few}
use Rattle.pd_turn.specs.declared.sorts.Manner.{Manner}
use Rattle.pd_turn.specs.declared.sorts.Manner.TheVariants.{Own, Beside, Table, Dac, Inlet, Outlet, Never}
use Rattle.pd_turn.specs.Held.{held_of}
use Rattle.pd_turn.specs.Sizes.{few_of}
use Rattle.pd_turn.specs.Rows.{Ran, still, table_ran, own_ran}
use Rattle.pd_turn.specs.Pairs.{Pair, line_at, ran_alone, pair_by}
use Rattle.pd_web.specs.declared.web.Web.{Web}
use Rattle.pd_web.specs.declared.web.Hop.{Hop}
use Rattle.pd_web.specs.Hops.{port_told, jack_told, signal_in}
use Rattle.pd_grove.specs.declared.ports.Side.TheVariants.{Outlets}
use Rattle.pd_patch.specs.Values.{Blocks, block_at, with_block, with_silence}
use Rattle.pd_block.specs.Inlets.{brought, gathered, sum_from, wires_to, steady, inlet_block, inlet_blocks}
use Rattle.pd_block.specs.Nets.{Net, Sound, kind_at, set_at}
use Rattle.pd_block.specs.Blocks.{Played, left_by, own_with, own_in, own_by, values_in, table_of_owner, table_beside, table_with, table_in, table_by, held_by, port_block, inlet_by, given_at, outlet_by, Aside, pair_few, pair_in, alone_few, alone_in, owner_in, aside_alone, aside_owner, aside_found, aside_by, with_none, beside_by, ran_as, manner_by, ran_plain, silenced, begun, block_of}
use Rattle.pd_keeping_law.proofs.FactLemmas.{either, all-at, all-set, all-index, all-made}
use Rattle.pd_keeping_law.proofs.BlockLemmas.{canvas_keeps}

-- how many signal inlets a box of a kind has
abbrev pub inlets_by : Option Few → ℕ
inlets_by None = 0
inlets_by (Some few) = few.inlets

abbrev pub inlets_of : Kind → ℕ
inlets_of k = inlets_by (few_of k)

-- blocks, and as many as a box has inlets at least
module _ (B : List ℤ → Type 0) where
  abbrev pub AreSuch : List (List ℤ) → Type 0
  AreSuch blocks = AllByRecursion B blocks

  abbrev pub AllSuch : Blocks → Type 0
  AllSuch blocks = AllByRecursion AreSuch blocks

  abbrev pub HasInlets : ℕ → List (List ℤ) → Type 0
  HasInlets count ins = AreSuch ins × (count ≤ length ins)

-- what a box's turn leaves, and what that of a box beside another leaves of both
pub record RanIn (P : State → Type 0) (B : List ℤ → Type 0) (r : Ran) : Type 0 where
  pub is : P r.state
  pub block : B r.block

pub record PairIn (P : State → Type 0) (B : List ℤ → Type 0) (p : Pair) : Type 0 where
  pub ran : RanIn P B p.ran
  pub other : P p.other

-- what all boxes keep, and the blocks of their outlets
pub record SoundIn (P : State → Type 0) (B : List ℤ → Type 0) (s : Sound) : Type 0 where
  pub is : (k : ℕ) → IfSome (s.states k) P
  pub blocks : AllSuch B s.blocks

-- What is asked of a fact of what a box keeps, of the blocks that outlets give, and of tables.
pub record IsLeftByTurns (start : ℕ) (P : State → Type 0) (B T : List ℤ → Type 0) : Type 0 where
  pub silence : B silent_block
  pub sums : (xs ys : List ℤ) → B xs → B ys → B (zip_with (sum_of billionths) xs ys)
  pub held : (s : State) (i : ℕ) → P s → B (steady (held_of s i))
  pub unheld : B (steady (pos 0))
  pub tables : (o : Option State) → IfSome o P → T (values_in (option_and_then table_of o))
  pub no_table : T []
  pub own : (k : Kind) (s : State) (ins : List (List ℤ)) → P s → HasInlets B (inlets_of k) ins → RanIn P B (own_ran start k s ins)
  pub table : (k : Kind) (s : State) (ins : List (List ℤ)) (table : List ℤ) → P s → HasInlets B (inlets_of k) ins → T table → RanIn P B (table_ran k s ins table)
  pub alone : (k : Kind) (s : State) (ins : List (List ℤ)) (line : Line) → P s → HasInlets B (inlets_of k) ins → RanIn P B (ran_alone k s ins line)
  pub pair : (k : Kind) (s : State) (ins : List (List ℤ)) (other : State) → P s → HasInlets B (inlets_of k) ins → P other → PairIn P B (pair_by k s ins other (line_at other) (shared_of other))
  pub begun : (s : State) → P s → P (block_begun s)

module _ (net : Net) (start : ℕ) (P : State → Type 0) (B T : List ℤ → Type 0) (turns : IsLeftByTurns start P B T) where
  -- what comes to inlets
  own_block : (own : Option (List (List ℤ))) (outlet : ℕ) → IfSome own (AreSuch B) → IfSome (option_and_then (λ (b : List (List ℤ)). slice_get b outlet) own) B
  own_block None outlet h = tt
  own_block (Some own) outlet h = all-at B own outlet h

  brought_in : (web : Web) (blocks : Blocks) (hop : Hop) → AllSuch B blocks → IfSome (brought web blocks hop) B
  brought_in web blocks hop h =
      either (λ (o : Option (List ℤ)). IfSome o B) (signal_in (jack_told web Outlets hop.node hop.port)) (block_at blocks hop.node hop.port) None
      (own_block (slice_get blocks hop.node) hop.port (all-at (AreSuch B) blocks hop.node h)) tt

  gathered_in : (sum block : Option (List ℤ)) → IfSome sum B → IfSome block B → IfSome (gathered sum block) B
  gathered_in None None h k = tt
  gathered_in (Some sum) None h k = h
  gathered_in None (Some block) h k = k
  gathered_in (Some sum) (Some block) h k = turns.sums sum block h k

  sum_in : (web : Web) (blocks : Blocks) (sum : Option (List ℤ)) (hops : List Hop) → AllSuch B blocks → IfSome sum B → IfSome (sum_from web blocks sum hops) B
  sum_in web blocks sum [] b h = h
  sum_in web blocks sum (hop ∷ hops) b h = sum_in web blocks (gathered sum (brought web blocks hop)) hops b (gathered_in sum (brought web blocks hop) h (brought_in web blocks hop b))

  unwrapped : (o : Option (List ℤ)) (d : List ℤ) → IfSome o B → B d → B (unwrap_or o d)
  unwrapped None d h k = k
  unwrapped (Some b) d h k = h

  block_in : (web : Web) (blocks : Blocks) (node i : ℕ) (z : ℤ) → AllSuch B blocks → B (steady z) → B (inlet_block web blocks node i z)
  block_in web blocks node i z b h = unwrapped (sum_from web blocks None (wires_to web node i)) (steady z) (sum_in web blocks None (wires_to web node i) b tt) h

  ins_in : (web : Web) (blocks : Blocks) (node wanted count : ℕ) (s : State) → wanted ≡ count → AllSuch B blocks → P s → HasInlets B wanted (inlet_blocks web blocks node count s)
  ins_in web blocks node wanted count s e b h =
      let l : length (inlet_blocks web blocks node count s) ≡ count = length-map-range_with_len (λ (i : ℕ). inlet_block web blocks node i (held_of s i)) 0 count in
      (all-made B (λ (i : ℕ). inlet_block web blocks node i (held_of s i)) (λ i. block_in web blocks node i (held_of s i) b (turns.held s i h)) (range_with_len 0 count), omega arith)

  held_in : (o : Option State) → IfSome o P → B (steady (held_by o))
  held_in None h = turns.unheld
  held_in (Some s) h = turns.held s 0 h

  port_in : (web : Web) (blocks : Blocks) (o : Option (ℕ × ℕ)) (z : ℤ) → AllSuch B blocks → B (steady z) → B (port_block web blocks o z)
  port_in web blocks None z b h = h
  port_in web blocks (Some port) z b h = block_in web blocks port.0 port.1 z b h

  -- blocks that outlets give
  put_in : (blocks : Blocks) (node outlet : ℕ) (block : List ℤ) → AllSuch B blocks → B block → AllSuch B (with_block blocks node outlet block)
  put_in blocks node outlet block b h =
      all-set (AreSuch B) blocks node (slice_set (slice_index_or blocks node []) outlet block)
      (all-set B (slice_index_or blocks node []) outlet block h (all-index (AreSuch B) blocks node [] tt b)) b

  quiet_in : (blocks : Blocks) (node : ℕ) → AllSuch B blocks → AllSuch B (with_silence blocks node)
  quiet_in blocks node b =
      all-set (AreSuch B) blocks node (map (λ (_ : List ℤ). silent_block) (slice_index_or blocks node []))
      (all-made B (λ (_ : List ℤ). silent_block) (λ _. turns.silence) (slice_index_or blocks node [])) b

  given_in : (blocks : Blocks) (o : Option (ℕ × ℕ)) (block : List ℤ) → AllSuch B blocks → B block → AllSuch B (given_at blocks o block)
  given_in blocks None block b h = b
  given_in blocks (Some port) block b h = put_in blocks port.0 port.1 block b h

  -- one box among the others
  still_in : (s : State) → P s → RanIn P B (still s)
  still_in s h = record { is = h; block = turns.silence }

  set_in : (states : ℕ → Option State) (node : ℕ) (o : Option State) → ((k : ℕ) → IfSome (states k) P) → IfSome o P → (k : ℕ) → IfSome (set_at states node o k) P
  set_in states node o a h j = either (λ (x : Option State). IfSome x P) (j == node) o (states j) h (a j)

  left_in : (s : Sound) (node : ℕ) (r : Ran) → SoundIn P B s → RanIn P B r → SoundIn P B (left_by s node r)
  left_in s node r a h = record { is = set_in s.states node (Some r.state) a.is h.is; blocks = put_in s.blocks node 0 r.block a.blocks h.block }

  own_few : (web : Web) (blocks : Blocks) (node : ℕ) (k : Kind) (s : State) (o : Option Few) → few_of k ≡ o → AllSuch B blocks → P s → RanIn P B (own_with web blocks start node k s o)
  own_few web blocks node k s None e b h = still_in s h
  own_few web blocks node k s (Some few) e b h = turns.own k s (inlet_blocks web blocks node few.inlets s) h (ins_in web blocks node (inlets_of k) few.inlets s (ap inlets_by e) b h)

  own_some : (web : Web) (blocks : Blocks) (node : ℕ) (k : Option Kind) (s : State) → AllSuch B blocks → P s → RanIn P B (own_in web blocks start node k s)
  own_some web blocks node None s b h = still_in s h
  own_some web blocks node (Some k) s b h = own_few web blocks node k s (few_of k) refl b h

  own_sound : (s : Sound) (node : ℕ) (k : Option Kind) (o : Option State) → SoundIn P B s → IfSome o P → SoundIn P B (own_by net start s node k o)
  own_sound s node k None a h = a
  own_sound s node k (Some st) a h = left_in s node (own_in net.web s.blocks start node k st) a (own_some net.web s.blocks node k st a.blocks h)

  -- beside a table
  owner_table : (states : ℕ → Option State) (owner : Option ℕ) → ((k : ℕ) → IfSome (states k) P) → T (table_of_owner states owner)
  owner_table states None a = turns.no_table
  owner_table states (Some k) a = turns.tables (states k) (a k)

  table_few : (web : Web) (blocks : Blocks) (node : ℕ) (k : Kind) (s : State) (table : List ℤ) (o : Option Few) → few_of k ≡ o → AllSuch B blocks → P s → T table → RanIn P B (table_with web blocks node k s table o)
  table_few web blocks node k s table None e b h v = still_in s h
  table_few web blocks node k s table (Some few) e b h v = turns.table k s (inlet_blocks web blocks node few.inlets s) table h (ins_in web blocks node (inlets_of k) few.inlets s (ap inlets_by e) b h) v

  table_some : (web : Web) (blocks : Blocks) (node : ℕ) (k : Option Kind) (s : State) (table : List ℤ) → AllSuch B blocks → P s → T table → RanIn P B (table_in web blocks node k s table)
  table_some web blocks node None s table b h v = still_in s h
  table_some web blocks node (Some k) s table b h v = table_few web blocks node k s table (few_of k) refl b h v

  table_sound : (s : Sound) (node : ℕ) (k : Option Kind) (o : Option State) → SoundIn P B s → IfSome o P → SoundIn P B (table_by net s node k o)
  table_sound s node k None a h = a
  table_sound s node k (Some st) a h =
      let v : T (table_beside net.owners s.states node k) = owner_table (set_at s.states node None) _ (set_in s.states node None a.is tt) in
      left_in s node (table_in net.web s.blocks node k st (table_beside net.owners s.states node k)) a
      (table_some net.web s.blocks node k st (table_beside net.owners s.states node k) a.blocks h v)

  -- beside another box
  alone_few-in : (web : Web) (blocks : Blocks) (node : ℕ) (k : Kind) (s : State) (o : Option Few) → few_of k ≡ o → AllSuch B blocks → P s → RanIn P B (alone_few web blocks node k s o)
  alone_few-in web blocks node k s None e b h = still_in s h
  alone_few-in web blocks node k s (Some few) e b h = turns.alone k s (inlet_blocks web blocks node few.inlets s) _ h (ins_in web blocks node (inlets_of k) few.inlets s (ap inlets_by e) b h)

  alone_some : (web : Web) (blocks : Blocks) (node : ℕ) (k : Option Kind) (s : State) → AllSuch B blocks → P s → RanIn P B (alone_in web blocks node k s)
  alone_some web blocks node None s b h = still_in s h
  alone_some web blocks node (Some k) s b h = alone_few-in web blocks node k s (few_of k) refl b h

  pair_few-in : (web : Web) (blocks : Blocks) (node : ℕ) (k : Kind) (s other : State) (o : Option Few) → few_of k ≡ o → AllSuch B blocks → P s → P other → PairIn P B (pair_few web blocks node k s other o)
  pair_few-in web blocks node k s other None e b h i = record { ran = still_in s h; other = i }
  pair_few-in web blocks node k s other (Some few) e b h i = turns.pair k s (inlet_blocks web blocks node few.inlets s) other h (ins_in web blocks node (inlets_of k) few.inlets s (ap inlets_by e) b h) i

  pair_some : (web : Web) (blocks : Blocks) (node : ℕ) (k : Option Kind) (s other : State) → AllSuch B blocks → P s → P other → PairIn P B (pair_in web blocks node k s other)
  pair_some web blocks node None s other b h i = record { ran = still_in s h; other = i }
  pair_some web blocks node (Some k) s other b h i = pair_few-in web blocks node k s other (few_of k) refl b h i

  record AsideIn (a : Aside) : Type 0 where
    ran : RanIn P B a.ran
    sound : SoundIn P B a.sound

  aside_alone-in : (s : Sound) (node : ℕ) (k : Option Kind) (st : State) → SoundIn P B s → P st → AsideIn (aside_alone net.web s node k st)
  aside_alone-in s node k st a h = record { ran = alone_some net.web s.blocks node k st a.blocks h; sound = a }

  aside_owner-in : (s : Sound) (node : ℕ) (k : Option Kind) (st : State) (owner : ℕ) (o : Option State) → SoundIn P B s → P st → IfSome o P → AsideIn (aside_owner net.web s node k st owner o)
  aside_owner-in s node k st owner None a h i = aside_alone-in s node k st a h
  aside_owner-in s node k st owner (Some other) a h i =
      let p : PairIn P B (pair_in net.web s.blocks node k st other) = pair_some net.web s.blocks node k st other a.blocks h i in
      record { ran = p.ran; sound = record { is = set_in s.states owner (Some (pair_in net.web s.blocks node k st other).other) a.is p.other; blocks = a.blocks } }

  aside_found-in : (s : Sound) (node : ℕ) (k : Option Kind) (st : State) (o : Option ℕ) → SoundIn P B s → P st → AsideIn (aside_found net.web s node k st o)
  aside_found-in s node k st None a h = aside_alone-in s node k st a h
  aside_found-in s node k st (Some owner) a h = aside_owner-in s node k st owner (s.states owner) a h (a.is owner)

  beside_sound : (s : Sound) (node : ℕ) (k : Option Kind) (o : Option State) → SoundIn P B s → IfSome o P → SoundIn P B (beside_by net s node k o)
  beside_sound s node k None a h = a
  beside_sound s node k (Some st) a h =
      let i : AsideIn (aside_by net (with_none s node) node k st) =
      aside_found-in (with_none s node) node k st (owner_in net.owners k) (record { is = set_in s.states node None a.is tt; blocks = a.blocks }) h in
      left_in (aside_by net (with_none s node) node k st).sound node (aside_by net (with_none s node) node k st).ran i.sound i.ran

  -- ports
  inlet_sound : (s : Sound) (node : ℕ) → SoundIn P B s → SoundIn P B (inlet_by net s node)
  inlet_sound s node a =
      record {
        is = a.is;
        blocks = put_in s.blocks node 0 (port_block net.web s.blocks (port_told net.web node) (held_by (s.states node))) a.blocks
            (port_in net.web s.blocks (port_told net.web node) (held_by (s.states node)) a.blocks (held_in (s.states node) (a.is node)));
      }

  outlet_sound : (s : Sound) (node : ℕ) → SoundIn P B s → SoundIn P B (outlet_by net s node)
  outlet_sound s node a =
      record {
        is = a.is;
        blocks = given_in s.blocks (port_told net.web node) (inlet_block net.web s.blocks node 0 (held_by (s.states node))) a.blocks
            (block_in net.web s.blocks node 0 (held_by (s.states node)) a.blocks (held_in (s.states node) (a.is node)));
      }

  -- boxes and canvases
  as_in : (p : Played) (node : ℕ) (k : Option Kind) (m : Manner) → SoundIn P B p.sound → SoundIn P B (ran_as net start p node k m).sound
  as_in p node k Own a = own_sound p.sound node k (p.sound.states node) a (a.is node)
  as_in p node k Beside a = beside_sound p.sound node k (p.sound.states node) a (a.is node)
  as_in p node k Table a = table_sound p.sound node k (p.sound.states node) a (a.is node)
  as_in p node k Dac a = a
  as_in p node k Inlet a = inlet_sound p.sound node a
  as_in p node k Outlet a = outlet_sound p.sound node a
  as_in p node k Never a = a

  pub plain_in : (p : Played) (node : ℕ) → SoundIn P B p.sound → SoundIn P B (ran_plain net start p node).sound
  unfolding ran_plain
  plain_in p node a = as_in p node (kind_at net node) (manner_by (kind_at net node)) a

  pub silenced_in : (s : Sound) (node : ℕ) → SoundIn P B s → SoundIn P B (silenced s node)
  silenced_in s node a = record { is = a.is; blocks = quiet_in s.blocks node a.blocks }

  begun_some : (o : Option State) → IfSome o P → IfSome (option_map block_begun o) P
  begun_some None h = tt
  begun_some (Some s) h = turns.begun s h

  pub begun_in : (s : Sound) → SoundIn P B s → SoundIn P B (begun s)
  begun_in s a =
      record { is = λ k. either (λ (o : Option State). IfSome o P) (nat_lt k 4294967296) (option_map block_begun (s.states k)) (s.states k) (begun_some (s.states k) (a.is k)) (a.is k); blocks = a.blocks }

  pub whole_in : (s : Sound) → SoundIn P B s → SoundIn P B (block_of net s start).sound
  unfolding block_of
  whole_in s a = canvas_keeps net start (SoundIn P B) plain_in silenced_in 257 _ net.root (begun_in s a)
