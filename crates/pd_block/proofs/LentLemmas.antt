-- A box that was lent has run.
use Rattle.std.proofs.Common.{◌≡◌, ℕ, ℤ, List, ◌∷◌, [], refl, sym, ◌∙◌, ap}
use Rattle.std.proofs.lemmas.Bool.{false≢true}
use Rattle.std.specs.Prelude.{Option, Some, None, option_map, IsSome, slice_index_or}
use Rattle.slab.specs.Slab.{get, ContainsKey}
use Rattle.slab.proofs.SlabLemmas.{Updates-with_value}
use Rattle.pd_object.specs.declared.kinds.Kind.{Kind}
use Rattle.pd_kind.specs.declared.states.State.{State}
use Rattle.pd_kind.specs.States.{silent_block}
use Rattle.pd_grove.specs.declared.nodes.Node.{Node}
use Rattle.pd_grove.specs.Telling.{kind_in, state_in, with_state, Keeps}
use Rattle.pd_web.specs.declared.web.Web.{Web}
use Rattle.pd_patch.specs.declared.patch.Patch.{Patch}
use Rattle.pd_patch.specs.Lending.{with_box}
use Rattle.pd_patch.specs.Values.{Blocks, blocks_told, with_block}
use Rattle.pd_turn.specs.declared.sizes.Few.{Few}
use Rattle.pd_turn.specs.Sizes.{few_of}
use Rattle.pd_turn.specs.Rows.{own_ran}
use Rattle.pd_block.specs.Given.{AreBrought, few_brought, state_brought, few_given, state_given, box_given, BoxRan, Given, given_by, given_at}
use Rattle.pd_block.specs.Nets.{net_of, states_of, sound_of, kind_at, set_at}
use Rattle.pd_block.specs.Blocks.{left_by, own_with, own_by}
use Rattle.pd_block.proofs.NetLemmas.{keeps_net, states_set, set_same, sound_is, blocks_same, blocks_states}
use Rattle.pd_block.proofs.WalkLemmas.{kind_told}

contains : (p : Patch) (k : ℕ) (n : Node) → get p.grove.nodes k ≡ Some n → ContainsKey p.grove.nodes k
contains p k n is = rw is refl

lent_keeps : (p : Patch) (k : ℕ) (n : Node) (s : Option State) → get p.grove.nodes k ≡ Some n → Keeps p.grove (with_box p k (with_state s n)).grove k s
lent_keeps p k n s is =
    let u = Updates-with_value p.grove.nodes k (with_state s n) (contains p k n is) in
    record {
      node = u.changed ∙ sym (ap (λ (o : Option Node). option_map (with_state s) o) is);
      others = u.others;
      boards = refl;
      labels = refl;
      root = refl;
    }

lent_net : (p : Patch) (k : ℕ) (n : Node) (s : Option State) → get p.grove.nodes k ≡ Some n → net_of (with_box p k (with_state s n)) ≡ net_of p
lent_net p k n s is =
    keeps_net p (with_box p k (with_state s n)) k s (lent_keeps p k n s is)
    (record { web = refl; names = refl; links = refl; orders = refl; numbers = refl; values = refl; rate = refl; present = refl }) refl

lent_states : (p : Patch) (k : ℕ) (n : Node) (s : Option State) → get p.grove.nodes k ≡ Some n → states_of (with_box p k (with_state s n)) ≡ set_at (states_of p) k s
lent_states p k n s is =
    states_set p.grove (with_box p k (with_state s n)).grove k s (lent_keeps p k n s is) (ap (λ (o : Option Node). state_in (option_map (with_state s) o)) is)

lent_same : (p : Patch) (k : ℕ) (n : Node) → get p.grove.nodes k ≡ Some n → states_of (with_box p k n) ≡ states_of p
lent_same p k n is = lent_states p k n n.state is ∙ set_same (states_of p) k n.state (ap state_in is)

-- a box ran, and nothing else
given_net_by : (p : Patch) (node start : ℕ) (n n2 : Node) (ins : List (List ℤ)) (block : List ℤ) (o : Option State) → get p.grove.nodes node ≡ Some n
    → record { node = n2; block = block } ≡ state_given start n o ins → n.state ≡ o → net_of (with_box p node n2) ≡ net_of p
given_net_by p node start n n2 ins block None is ran e = ap (λ (r : BoxRan). net_of (with_box p node r.node)) ran ∙ lent_net p node n n.state is
given_net_by p node start n n2 ins block (Some s) is ran e =
    ap (λ (r : BoxRan). net_of (with_box p node r.node)) ran ∙ lent_net p node n (Some (few_given start n.kind s (few_of n.kind) ins).state) is

pub given_net : (p : Patch) (node start : ℕ) (n n2 : Node) (ins : List (List ℤ)) (block : List ℤ) → get p.grove.nodes node ≡ Some n
    → record { node = n2; block = block } ≡ box_given start n ins → net_of (with_box p node n2) ≡ net_of p
given_net p node start n n2 ins block is ran = given_net_by p node start n n2 ins block n.state is ran refl

abbrev given : (ℕ → Option State) → List ℤ → Given
given states block = record { states = states; block = block }

given_states_by : (p : Patch) (node start : ℕ) (n n2 : Node) (ins : List (List ℤ)) (block : List ℤ) (o : Option State) → get p.grove.nodes node ≡ Some n
    → record { node = n2; block = block } ≡ state_given start n o ins → n.state ≡ o
    → record { states = states_of (with_box p node n2); block = block } ≡ given_by (states_of p) node (state_given start n o ins)
given_states_by p node start n n2 ins block None is ran e =
    ap (λ (r : BoxRan). given (states_of (with_box p node r.node)) r.block) ran
    ∙ ap (λ (f : ℕ → Option State). given f silent_block) (lent_states p node n n.state is)
given_states_by p node start n n2 ins block (Some s) is ran e =
    let r = few_given start n.kind s (few_of n.kind) ins in
    ap (λ (r : BoxRan). given (states_of (with_box p node r.node)) r.block) ran
    ∙ ap (λ (f : ℕ → Option State). given f r.block) (lent_states p node n (Some r.state) is)

pub given_states : (p : Patch) (node start : ℕ) (n n2 : Node) (ins : List (List ℤ)) (block : List ℤ) → get p.grove.nodes node ≡ Some n
    → record { node = n2; block = block } ≡ box_given start n ins
    → record { states = states_of (with_box p node n2); block = block } ≡ given_at start (states_of p) node (get p.grove.nodes node) ins
given_states p node start n n2 ins block is ran =
    given_states_by p node start n n2 ins block n.state is ran refl ∙ sym (ap (λ (o : Option Node). given_at start (states_of p) node o ins) is)

pub given_none : (p : Patch) (node start : ℕ) (ins outs : List (List ℤ)) → outs ≡ silent_block ∷ [] → get p.grove.nodes node ≡ None
    → given (states_of p) (slice_index_or outs 0 silent_block) ≡ given_at start (states_of p) node (get p.grove.nodes node) ins
given_none p node start ins outs silent is = rw (silent, is) refl

-- what came to a box is what the definition of a block says
few_told : (web : Web) (blocks : Blocks) (start node : ℕ) (k : Kind) (st : State) (few : Option Few) (ins : List (List ℤ)) → few_brought web blocks node st few ins
    → few_given start k st few ins ≡ own_with web blocks start node k st few
few_told web blocks start node k st None ins brought = refl
few_told web blocks start node k st (Some few) ins brought = ap (λ (l : List (List ℤ)). own_ran start k st l) brought

-- a box has run in its place, and its block is set
own_lent_by : (p0 p1 p2 : Patch) (node start : ℕ) (o : Option Node) (ins : List (List ℤ)) (block : List ℤ) → get p0.grove.nodes node ≡ o
    → IsSome (state_in o) → AreBrought p0.web (blocks_told p0) node o ins
    → record { states = states_of p1; block = block } ≡ given_at start (states_of p0) node o ins → blocks_told p1 ≡ blocks_told p0
    → p2.grove ≡ p1.grove → blocks_told p2 ≡ with_block (blocks_told p1) node 0 block
    → sound_of p2 ≡ own_by (net_of p0) start (sound_of p0) node (kind_in o) (state_in o)
own_lent_by p0 p1 p2 node start None ins block is some brought ran same grove blocks = absurd (false≢true some)
own_lent_by p0 p1 p2 node start (Some n) ins block is some brought ran same grove blocks =
    lent_with n.state refl some brought ran
  where
    lent_with : (s : Option State) → n.state ≡ s → IsSome s → state_brought p0.web (blocks_told p0) node n.kind s ins
        → record { states = states_of p1; block = block } ≡ given_by (states_of p0) node (state_given start n s ins)
        → sound_of p2 ≡ own_by (net_of p0) start (sound_of p0) node (Some n.kind) s
    lent_with None e some brought ran = absurd (false≢true some)
    lent_with (Some st) e some brought ran =
        let r = few_given start n.kind st (few_of n.kind) ins in
        sound_is p2 (set_at (states_of p0) node (Some r.state)) (with_block (blocks_told p0) node 0 r.block)
        (blocks_states p1 p2 grove ∙ ap (λ (g : Given). g.states) ran)
        (blocks ∙ ap (λ (b : Blocks). with_block b node 0 block) same ∙ ap (λ (g : Given). with_block (blocks_told p0) node 0 g.block) ran)
        ∙ ap (left_by (sound_of p0) node) (few_told p0.web (blocks_told p0) start node n.kind st (few_of n.kind) ins brought)

pub own_lent : (p0 p1 p2 : Patch) (node start : ℕ) (ins : List (List ℤ)) (block block2 : List ℤ)
    → IsSome (state_in (get p0.grove.nodes node)) → AreBrought p0.web (blocks_told p0) node (get p0.grove.nodes node) ins
    → record { states = states_of p1; block = block } ≡ given_at start (states_of p0) node (get p0.grove.nodes node) ins → p1.values ≡ p0.values
    → p2.grove ≡ p1.grove → blocks_told p2 ≡ with_block (blocks_told p1) node 0 block2 → block2 ≡ block
    → sound_of p2 ≡ own_by (net_of p0) start (sound_of p0) node (kind_at (net_of p0) node) (states_of p0 node)
own_lent p0 p1 p2 node start ins block block2 some brought ran values grove blocks set =
    own_lent_by p0 p1 p2 node start (get p0.grove.nodes node) ins block refl some brought ran (blocks_same p0 p1 values) grove
    (blocks ∙ ap (λ (b : List ℤ). with_block (blocks_told p1) node 0 b) set)
    ∙ ap (λ (k : Option Kind). own_by (net_of p0) start (sound_of p0) node k (states_of p0 node)) (sym (kind_told p0 node))
