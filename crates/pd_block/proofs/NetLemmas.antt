-- What a change of one box's state, or of its blocks, leaves.
use Rattle.std.proofs.Common.{◌≡◌, ◌≢◌, ℕ, ℤ, Bool, true, false, cond, eqb, List, refl, sym, ◌∙◌, ap, subst}
use Rattle.std.proofs.Math.Path.{fun_ext}
use Rattle.std.proofs.lemmas.Bool.{eqb-true, eq-eqb, false≢true}
use Rattle.std.specs.Prelude.{Option, Some, None, option_map}
use Rattle.slab.specs.Slab.{get}
use Rattle.pd_kind.specs.declared.states.State.{State}
use Rattle.pd_grove.specs.declared.nodes.Node.{Node}
use Rattle.pd_grove.specs.declared.grove.Grove.{Grove}
use Rattle.pd_grove.specs.Telling.{state_in, with_state, Keeps}
use Rattle.pd_patch.specs.declared.patch.Patch.{Patch}
use Rattle.pd_patch.specs.Values.{Blocks, blocks_told, with_block, SilentRest}
use Rattle.pd_patch.specs.Walking.{RestStays}
use Rattle.pd_turn.specs.Rows.{Ran}
use Rattle.pd_block.specs.Blocks.{left_by}
use Rattle.pd_block.specs.Nets.{bare, net_of, states_of, sound_of, set_at}

-- two numbers are the same or not
one_or_other : {P : Type 0} (j k : ℕ) → (j ≡ k → P) → (j ≢ k → P) → P
one_or_other {P} j k f g =
    elim (eqb j k) as (λ (t : Bool). eqb j k ≡ t → P) [ true ↦ λ e. f (eqb-true j k e) | false ↦ λ e. g (λ same. false≢true (sym e ∙ eq-eqb j k same)) ] refl

set_is : {A : Type 0} (f : ℕ → A) (j k : ℕ) (x a : A) → (j ≡ k → x ≡ a) → (j ≢ k → x ≡ f j) → x ≡ set_at f k a j
set_is f j k x a same other =
    elim (eqb j k) as (λ (t : Bool). eqb j k ≡ t → x ≡ cond t a (f j)) [ true ↦ λ e. same (eqb-true j k e) | false ↦ λ e. other (λ is. false≢true (sym e ∙ eq-eqb j k is)) ] refl

twice : {A : Type 0} (t : Bool) (a b x : A) → cond t b (cond t a x) ≡ cond t b x
twice true a b x = refl
twice false a b x = refl

set_twice : {A : Type 0} (f : ℕ → A) (k : ℕ) (a b : A) → set_at (set_at f k a) k b ≡ set_at f k b
set_twice f k a b = fun_ext (λ j. twice (eqb j k) a b (f j))

pub set_same : {A : Type 0} (f : ℕ → A) (k : ℕ) (a : A) → f k ≡ a → set_at f k a ≡ f
set_same f k a e = fun_ext (λ j. sym (set_is f j k (f j) a (λ same. ap f same ∙ e) (λ other. refl)))

-- a box with another state is the same without it
bare_with : (o : Option Node) (s : Option State) → bare (option_map (with_state s) o) ≡ bare o
bare_with None s = refl
bare_with (Some n) s = refl

-- the boxes by their keys, without what they keep
abbrev bares : Grove → ℕ → Option Node
bares g j = bare (get g.nodes j)

abbrev keeps_of : Grove → ℕ → Option State
keeps_of g j = state_in (get g.nodes j)

nodes_stay : (old new : Grove) (k : ℕ) (s : Option State) → Keeps old new k s → bares new ≡ bares old
nodes_stay old new k s keeps =
    fun_ext (λ (j : ℕ). one_or_other {P = bare (get new.nodes j) ≡ bare (get old.nodes j)} j k
    (λ same. subst (λ (i : ℕ). bare (get new.nodes i) ≡ bare (get old.nodes i)) (sym same) (ap bare keeps.node ∙ bare_with (get old.nodes k) s))
    (λ other. ap bare (keeps.others j other)))

same_net : (old new : Patch) → bares new.grove ≡ bares old.grove → new.grove.boards ≡ old.grove.boards → new.grove.root ≡ old.grove.root
    → new.web ≡ old.web → new.links ≡ old.links → new.names ≡ old.names → new.orders ≡ old.orders → new.numbers ≡ old.numbers → new.rate ≡ old.rate → new.timers ≡ old.timers
    → net_of new ≡ net_of old
same_net old new nodes boards root web links names orders numbers rate timers = rw (nodes, boards, root, web, links, names, orders, numbers, rate, timers) refl

-- the state of a box changed
pub keeps_net : (old new : Patch) (k : ℕ) (s : Option State) → Keeps old.grove new.grove k s → RestStays old new → new.timers ≡ old.timers → net_of new ≡ net_of old
keeps_net old new k s keeps rest timers =
    same_net old new (nodes_stay old.grove new.grove k s keeps) keeps.boards keeps.root rest.web rest.links rest.names rest.orders rest.numbers rest.rate timers

-- a block changed
pub blocks_net : (old new : Patch) → new.grove ≡ old.grove → SilentRest old new → net_of new ≡ net_of old
blocks_net old new grove rest =
    same_net old new (ap bares grove) (ap (λ (g : Grove). g.boards) grove) (ap (λ (g : Grove). g.root) grove) rest.web rest.links rest.names rest.orders rest.numbers rest.rate rest.timers

pub blocks_states : (old new : Patch) → new.grove ≡ old.grove → states_of new ≡ states_of old
blocks_states old new grove = ap keeps_of grove

-- what the boxes keep after the state of one changed
pub states_set : (old new : Grove) (k : ℕ) (s : Option State) → Keeps old new k s → state_in (option_map (with_state s) (get old.nodes k)) ≡ s
    → keeps_of new ≡ set_at (keeps_of old) k s
states_set old new k s keeps is =
    fun_ext (λ (j : ℕ). set_is (keeps_of old) j k (state_in (get new.nodes j)) s
    (λ same. ap (λ (i : ℕ). state_in (get new.nodes i)) same ∙ ap state_in keeps.node ∙ is)
    (λ other. ap state_in (keeps.others j other)))

state_some : (o : Option Node) (s : State) (t : Option State) → state_in o ≡ Some s → state_in (option_map (with_state t) o) ≡ t
state_some None s t e = cc
state_some (Some n) s t e = refl

state_twice : (o o2 : Option Node) (s : State) (t u : Option State) → state_in o ≡ Some s → o2 ≡ option_map (with_state t) o → state_in (option_map (with_state u) o2) ≡ u
state_twice None o2 s t u e f = cc
state_twice (Some n) o2 s t u e f = rw f refl

-- a state is taken out
pub states_taken : (old new : Patch) (node : ℕ) (s : State) → state_in (get old.grove.nodes node) ≡ Some s → Keeps old.grove new.grove node None → states_of new ≡ set_at (states_of old) node None
states_taken old new node s is took = states_set old.grove new.grove node None took (state_some (get old.grove.nodes node) s None is)

-- a state is taken out and another put in
pub states_twice : (old mid new : Patch) (node : ℕ) (s : State) (t : Option State) → state_in (get old.grove.nodes node) ≡ Some s
    → Keeps old.grove mid.grove node None → Keeps mid.grove new.grove node t → states_of new ≡ set_at (states_of old) node t
states_twice old mid new node s t is took put =
    states_set mid.grove new.grove node t put (state_twice (get old.grove.nodes node) (get mid.grove.nodes node) s None t is took.node)
    ∙ ap (λ (f : ℕ → Option State). set_at f node t) (states_set old.grove mid.grove node None took (state_some (get old.grove.nodes node) s None is))
    ∙ set_twice (states_of old) node None t

pub sound_is : (p : Patch) (states : ℕ → Option State) (blocks : Blocks) → states_of p ≡ states → blocks_told p ≡ blocks → sound_of p ≡ record { states = states; blocks = blocks }
sound_is p states blocks e f =
    ap (λ (x : ℕ → Option State). record { states = x; blocks = blocks_told p }) e ∙ ap (λ (y : Blocks). record { states = states; blocks = y }) f

pub blocks_same : (p q : Patch) → q.values ≡ p.values → blocks_told q ≡ blocks_told p
blocks_same p q e = rw e refl

-- a box has run: its state was out, and its block is set
pub box_left : (p0 p1 p2 p3 : Patch) (node : ℕ) (s s2 : State) (block : List ℤ) (r : Ran) → state_in (get p0.grove.nodes node) ≡ Some s
    → Keeps p0.grove p1.grove node None → RestStays p0 p1 → Keeps p1.grove p2.grove node (Some s2) → RestStays p1 p2
    → p3.grove ≡ p2.grove → blocks_told p3 ≡ with_block (blocks_told p2) node 0 block → s2 ≡ r.state → block ≡ r.block
    → sound_of p3 ≡ left_by (sound_of p0) node r
box_left p0 p1 p2 p3 node s s2 block r is took rest put rest2 grove blocks state out =
    sound_is p3 (set_at (states_of p0) node (Some r.state)) (with_block (blocks_told p0) node 0 r.block)
    (blocks_states p2 p3 grove ∙ states_twice p0 p1 p2 node s (Some s2) is took put ∙ ap (λ (x : State). set_at (states_of p0) node (Some x)) state)
    (blocks ∙ ap (λ (b : Blocks). with_block b node 0 block) (blocks_same p1 p2 rest2.values ∙ blocks_same p0 p1 rest.values) ∙ ap (λ (x : List ℤ). with_block (blocks_told p0) node 0 x) out)

pub net_left : (p0 p1 p2 p3 : Patch) (node : ℕ) (s t : Option State)
    → Keeps p0.grove p1.grove node s → RestStays p0 p1 → p1.timers ≡ p0.timers → Keeps p1.grove p2.grove node t → RestStays p1 p2 → p2.timers ≡ p1.timers
    → p3.grove ≡ p2.grove → SilentRest p2 p3 → net_of p3 ≡ net_of p0
net_left p0 p1 p2 p3 node s t took rest timers put rest2 timers2 grove rest3 =
    blocks_net p2 p3 grove rest3 ∙ keeps_net p1 p2 node t put rest2 timers2 ∙ keeps_net p0 p1 node s took rest timers
