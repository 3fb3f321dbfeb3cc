-- A box whose state was out has run.
use Rattle.std.proofs.Common.{◌≡◌, ℕ, ℤ, List, refl, sym, ◌∙◌, ap, subst}
use Rattle.std.proofs.lemmas.Bool.{false≢true}
use Rattle.std.proofs.lemmas.Option.{none-some}
use Rattle.std.specs.Prelude.{Option, Some, None, option_map, option_and_then, slice_get, slice_index_or, IsSome}
use Rattle.slab.specs.Slab.{get}
use Rattle.pd_object.specs.declared.kinds.Kind.{Kind}
use Rattle.pd_kind.specs.declared.states.State.{State}
use Rattle.pd_kind.specs.States.{silent_block}
use Rattle.pd_kind.specs.Tables.{table_of}
use Rattle.pd_name.specs.declared.Class.TheVariants.{Table}
use Rattle.pd_name.specs.Rows.{Row, owners_of}
use Rattle.pd_grove.specs.declared.nodes.Node.{Node}
use Rattle.pd_grove.specs.Telling.{kind_in, state_in, with_state, Keeps}
use Rattle.pd_web.specs.declared.web.Web.{Web}
use Rattle.pd_patch.specs.declared.patch.Patch.{Patch}
use Rattle.pd_patch.specs.Values.{Blocks, blocks_told, with_block}
use Rattle.pd_patch.specs.Walking.{RestStays, table_named}
use Rattle.pd_block.specs.Nets.{Net, Sound, bare, net_of, states_of, sound_of, kind_at, set_at}
use Rattle.pd_turn.specs.Rows.{Ran, ran, table_name}
use Rattle.pd_turn.specs.Pairs.{Pair}
use Rattle.pd_block.specs.Blocks.{left_by, table_told, table_beside, table_in, table_by, values_in, pair_in, Aside, aside_pair, aside_owner, aside_by, left_aside, with_none, beside_by}
use Rattle.pd_block.proofs.NetLemmas.{blocks_same, blocks_states, states_set, states_taken, states_twice, sound_is, keeps_net, box_left}
use Rattle.pd_block.proofs.WalkLemmas.{kind_told}

kind_with : (o : Option Node) (s : Option State) → kind_in (option_map (with_state s) o) ≡ kind_in o
kind_with None s = refl
kind_with (Some n) s = refl

-- a box whose state is out has its kind
pub kind_kept : (p0 p1 : Patch) (node : ℕ) (s : Option State) → Keeps p0.grove p1.grove node s → kind_in (get p1.grove.nodes node) ≡ kind_at (net_of p0) node
kind_kept p0 p1 node s keeps = ap kind_in keeps.node ∙ kind_with (get p0.grove.nodes node) s ∙ sym (kind_told p0 node)

-- the values of a table are looked for among the other boxes
table_found : (p : Patch) (owners : List Row) (states : ℕ → Option State) (t : Option ℕ) → p.names ≡ owners → states_of p ≡ states
    → values_in (option_and_then (table_named p) t) ≡ values_in (option_and_then (λ k. option_and_then table_of (states k)) (option_and_then (λ name. slice_get (owners_of owners Table name) 0) t))
table_found p owners states None names are = refl
table_found p owners states (Some name) names are =
    ap (λ (f : ℕ → Option State). values_in (option_and_then (λ k. option_and_then table_of (f k)) (slice_get (owners_of p.names Table name) 0))) are
    ∙ ap (λ (o : List Row). values_in (option_and_then (λ k. option_and_then table_of (states k)) (slice_get (owners_of o Table name) 0))) names

table_is : (p0 p1 : Patch) (node : ℕ) (s : State) (k : Option Kind) → state_in (get p0.grove.nodes node) ≡ Some s → Keeps p0.grove p1.grove node None → RestStays p0 p1
    → table_told p1 k ≡ table_beside p0.names (states_of p0) node k
table_is p0 p1 node s k is took rest =
    table_found p1 p0.names (set_at (states_of p0) node None) (option_and_then table_name k) rest.names (states_taken p0 p1 node s is took)

table_in_told : (p0 p1 : Patch) (node : ℕ) (s : State) (table : List ℤ) → Keeps p0.grove p1.grove node None → RestStays p0 p1
    → table_in p1.web (blocks_told p1) node (kind_in (get p1.grove.nodes node)) s table ≡ table_in p0.web (blocks_told p0) node (kind_at (net_of p0) node) s table
table_in_told p0 p1 node s table took rest =
    ap (λ (w : Web). table_in w (blocks_told p1) node (kind_in (get p1.grove.nodes node)) s table) rest.web
    ∙ ap (λ (b : Blocks). table_in p0.web b node (kind_in (get p1.grove.nodes node)) s table) (blocks_same p0 p1 rest.values)
    ∙ ap (λ (k : Option Kind). table_in p0.web (blocks_told p0) node k s table) (kind_kept p0 p1 node None took)

pub table_done : (p0 p1 p2 p3 : Patch) (node : ℕ) (s s2 : State) (outs : List (List ℤ)) (block : List ℤ) → state_in (get p0.grove.nodes node) ≡ Some s
    → Keeps p0.grove p1.grove node None → RestStays p0 p1
    → ran s2 outs ≡ table_in p1.web (blocks_told p1) node (kind_in (get p1.grove.nodes node)) s (table_told p1 (kind_in (get p1.grove.nodes node)))
    → Keeps p1.grove p2.grove node (Some s2) → RestStays p1 p2
    → p3.grove ≡ p2.grove → blocks_told p3 ≡ with_block (blocks_told p2) node 0 block → block ≡ slice_index_or outs 0 silent_block
    → sound_of p3 ≡ table_by (net_of p0) (sound_of p0) node (kind_at (net_of p0) node) (states_of p0 node)
table_done p0 p1 p2 p3 node s s2 outs block is took rest run put rest2 grove blocks out =
    box_left p0 p1 p2 p3 node s s2 block (ran s2 outs) is took rest put rest2 grove blocks refl out
    ∙ ap (left_by (sound_of p0) node) (run ∙ table_in_told p0 p1 node s (table_told p1 (kind_in (get p1.grove.nodes node))) took rest
    ∙ ap (λ (k : Option Kind). table_in p0.web (blocks_told p0) node (kind_at (net_of p0) node) s (table_told p1 k)) (kind_kept p0 p1 node None took)
    ∙ ap (λ (t : List ℤ). table_in p0.web (blocks_told p0) node (kind_at (net_of p0) node) s t) (table_is p0 p1 node s (kind_at (net_of p0) node) is took rest))
    ∙ ap (λ (o : Option State). table_by (net_of p0) (sound_of p0) node (kind_at (net_of p0) node) o) (sym is)

-- a box whose key was live is live where the patch is the same but for what boxes keep
live_by : (o n : Option Node) → bare n ≡ bare o → IsSome o → IsSome n
live_by None n e h = absurd (false≢true h)
live_by (Some x) None e h = absurd (none-some (with_state None x) e)
live_by (Some x) (Some y) e h = h

pub live_kept : (p q : Patch) (k : ℕ) → net_of q ≡ net_of p → IsSome (get p.grove.nodes k) → IsSome (get q.grove.nodes k)
live_kept p q k same h = live_by (get p.grove.nodes k) (get q.grove.nodes k) (ap (λ (n : Net). n.nodes k) same) h

live_with : (o n : Option Node) (s : State) (t : Option State) → state_in o ≡ Some s → n ≡ option_map (with_state t) o → IsSome n
live_with None n s t is e = cc
live_with (Some x) n s t is e = subst (λ (m : Option Node). IsSome m) (sym e) refl

-- a box that kept something is there when that is out
pub live_before : (p q : Patch) (k : ℕ) (s : State) → state_in (get p.grove.nodes k) ≡ Some s → Keeps p.grove q.grove k None → IsSome (get q.grove.nodes k)
live_before p q k s is keeps = live_with (get p.grove.nodes k) (get q.grove.nodes k) s None is keeps.node

pub kind_by_net : (p q : Patch) (node : ℕ) → net_of q ≡ net_of p → kind_in (get q.grove.nodes node) ≡ kind_at (net_of p) node
kind_by_net p q node same = sym (kind_told q node) ∙ ap (λ (n : Net). kind_at n node) same

-- a box has run beside another one, which keeps what it left of its values
pub pair_done : (p0 p1 p2 : Patch) (node owner : ℕ) (st other o2 : State) (r : Ran) → state_in (get p0.grove.nodes owner) ≡ Some other
    → Keeps p0.grove p1.grove owner None → RestStays p0 p1 → p1.timers ≡ p0.timers
    → record { ran = r; other = o2 } ≡ pair_in p1.web (blocks_told p1) node (kind_in (get p1.grove.nodes node)) st other
    → Keeps p1.grove p2.grove owner (Some o2) → RestStays p1 p2
    → record { ran = r; sound = sound_of p2 } ≡ aside_owner p0.web (sound_of p0) node (kind_at (net_of p0) node) st owner (states_of p0 owner)
pair_done p0 p1 p2 node owner st other o2 r is took rest timers run put rest2 =
    let told = run
    ∙ ap (λ (w : Web). pair_in w (blocks_told p1) node (kind_in (get p1.grove.nodes node)) st other) rest.web
    ∙ ap (λ (b : Blocks). pair_in p0.web b node (kind_in (get p1.grove.nodes node)) st other) (blocks_same p0 p1 rest.values)
    ∙ ap (λ (k : Option Kind). pair_in p0.web (blocks_told p0) node k st other) (kind_by_net p0 p1 node (keeps_net p0 p1 owner None took rest timers)) in
    ap (λ (z : Sound). record { ran = r; sound = z })
    (sound_is p2 (set_at (states_of p0) owner (Some o2)) (blocks_told p0) (states_twice p0 p1 p2 owner other (Some o2) is took put) (blocks_same p1 p2 rest2.values ∙ blocks_same p0 p1 rest.values))
    ∙ ap (λ (x : Pair). aside_pair (sound_of p0) owner x) told
    ∙ sym (ap (λ (o : Option State). aside_owner p0.web (sound_of p0) node (kind_at (net_of p0) node) st owner o) is)

-- a box has run beside another one or none: its state is put back
pub beside_done : (p0 p1 p2 p3 p4 : Patch) (node : ℕ) (s s2 : State) (outs : List (List ℤ)) (block : List ℤ) → state_in (get p0.grove.nodes node) ≡ Some s
    → Keeps p0.grove p1.grove node None → RestStays p0 p1 → p1.timers ≡ p0.timers → net_of p2 ≡ net_of p1
    → record { ran = ran s2 outs; sound = sound_of p2 } ≡ aside_by (net_of p1) (sound_of p1) node (kind_at (net_of p1) node) s
    → Keeps p2.grove p3.grove node (Some s2) → RestStays p2 p3
    → p4.grove ≡ p3.grove → blocks_told p4 ≡ with_block (blocks_told p3) node 0 block → block ≡ slice_index_or outs 0 silent_block
    → IsSome (get p2.grove.nodes node)
    → sound_of p4 ≡ beside_by (net_of p0) (sound_of p0) node (kind_at (net_of p0) node) (states_of p0 node)
beside_done p0 p1 p2 p3 p4 node s s2 outs block is took rest timers same run put rest2 grove blocks out live =
    let net1 : net_of p1 ≡ net_of p0 = keeps_net p0 p1 node None took rest timers in
    let sound1 : sound_of p1 ≡ with_none (sound_of p0) node = sound_is p1 (set_at (states_of p0) node None) (blocks_told p0) (states_taken p0 p1 node s is took) (blocks_same p0 p1 rest.values) in
    let told : record { ran = ran s2 outs; sound = sound_of p2 } ≡ aside_by (net_of p0) (with_none (sound_of p0) node) node (kind_at (net_of p0) node) s =
    run ∙ ap (λ (n : Net). aside_by n (sound_of p1) node (kind_at n node) s) net1 ∙ ap (λ (z : Sound). aside_by (net_of p0) z node (kind_at (net_of p0) node) s) sound1 in
    sound_is p4 (set_at (states_of p2) node (Some s2)) (with_block (blocks_told p2) node 0 (slice_index_or outs 0 silent_block))
    (blocks_states p3 p4 grove ∙ states_set p2.grove p3.grove node (Some s2) put (state_live (get p2.grove.nodes node) (Some s2) live))
    (blocks ∙ ap (λ (b : Blocks). with_block b node 0 block) (blocks_same p2 p3 rest2.values) ∙ ap (λ (x : List ℤ). with_block (blocks_told p2) node 0 x) out)
    ∙ ap (λ (a : Aside). left_aside node a) told
    ∙ ap (λ (o : Option State). beside_by (net_of p0) (sound_of p0) node (kind_at (net_of p0) node) o) (sym is)
  where
    state_live : (o : Option Node) (t : Option State) → IsSome o → state_in (option_map (with_state t) o) ≡ t
    state_live None t h = absurd (false≢true h)
    state_live (Some n) t h = refl
