-- What a change of one box's state leaves.
use Rattle.std.proofs.Common.{◌≡◌, ◌≢◌, ◌<◌, ◌≤◌, ℕ, zero, suc, Bool, true, false, cond, eqb, nat_lt, List, ◌∷◌, [], ◌++◌, refl, sym, ◌∙◌, ap, subst, arith}
use Rattle.std.proofs.Math.Path.{fun_ext}
use Rattle.std.proofs.lemmas.Bool.{eqb-true, eq-eqb, false≢true}
use Rattle.std.proofs.lemmas.Bool.Decides.{nat_tests}
use Rattle.std.specs.Prelude.{◌↔◌, IsSome, ℤ, Option, Some, None, option_map, option_and_then}
use Rattle.std.specs.Prelude.{reverse}
use Rattle.slab.specs.Slab.{get}
use Rattle.slab.specs.Slab.{Slab, ContainsKey}
use Rattle.slab.proofs.SlabLemmas.{Updates-with_value}
use Rattle.pd_atom.specs.Names.{Names}
use Rattle.pd_atom.specs.declared.Atom.{Atom}
use Rattle.pd_clock.specs.Queue.{Clock, without}
use Rattle.pd_kind.specs.declared.states.State.{State}
use Rattle.pd_kind.specs.Said.{Said, silent}
use Rattle.pd_kind.specs.Tables.{with_value}
use Rattle.pd_glue.specs.Rows.{Hearing, with_names}
use Rattle.pd_glue.specs.Rows as control
use Rattle.pd_grove.specs.declared.nodes.Node.{Node}
use Rattle.pd_grove.specs.declared.grove.Grove.{Grove}
use Rattle.pd_grove.specs.Telling.{state_in, kind_in, inner_in, with_state, Keeps}
use Rattle.pd_grove.specs.declared.boards.Board.{Board}
use Rattle.pd_patch.specs.Paths.{path_told, outward, around, out_of, spot_of, number_of, holder_in}
use Rattle.pd_patch.specs.declared.patch.Patch.{Patch}
use Rattle.pd_patch.specs.Walking.{RestStays, WritesAt}
use Rattle.pd_patch.specs.Lending.{with_box}
use Rattle.pd_queue.specs.Queue.{Waiting}
use Rattle.pd_hearing.specs.Worlds.{Kept, bare, net_of, kept_of, states_of, set_at}
use Rattle.pd_hearing.specs.Hearing.{reply, BoxReply, box_reply, box_heard, box_resumed, heard_kind, table_name, table_in, table_by, table_named, heard_in, heard_with, heard_at, mute, resumed_in, resumed_with, resumed_at, fired_with, fired_at, loaded_with, loaded_kind, loaded_at}
use Rattle.pd_hearing.specs.Deeds.{written_at, with_clock, with_clocks}

-- two numbers are the same or not
pub one-or-other : {P : Type 0} (j k : ℕ) → (j ≡ k → P) → (j ≢ k → P) → P
one-or-other {P} j k f g =
    elim (eqb j k) as (λ (t : Bool). eqb j k ≡ t → P) [ true ↦ λ e. f (eqb-true j k e) | false ↦ λ e. g (λ same. false≢true (sym e ∙ eq-eqb j k same)) ] refl

pub set-is : {A : Type 0} (f : ℕ → A) (j k : ℕ) (x a : A) → (j ≡ k → x ≡ a) → (j ≢ k → x ≡ f j) → x ≡ set_at f k a j
set-is f j k x a same other =
    elim (eqb j k) as (λ (t : Bool). eqb j k ≡ t → x ≡ cond t a (f j)) [ true ↦ λ e. same (eqb-true j k e) | false ↦ λ e. other (λ is. false≢true (sym e ∙ eq-eqb j k is)) ] refl

twice : {A : Type 0} (t : Bool) (a b x : A) → cond t b (cond t a x) ≡ cond t b x
twice true a b x = refl
twice false a b x = refl

pub set-twice : {A : Type 0} (f : ℕ → A) (k : ℕ) (a b : A) → set_at (set_at f k a) k b ≡ set_at f k b
set-twice f k a b = fun_ext (λ j. twice (eqb j k) a b (f j))

pub set-same : {A : Type 0} (f : ℕ → A) (k : ℕ) (a : A) → f k ≡ a → set_at f k a ≡ f
set-same f k a e = fun_ext (λ j. sym (set-is f j k (f j) a (λ same. ap f same ∙ e) (λ other. refl)))

-- a box with another state is the same without it
bare-with : (o : Option Node) (s : Option State) → bare (option_map (with_state s) o) ≡ bare o
bare-with None s = refl
bare-with (Some n) s = refl

-- the boxes without what they keep, and what they keep, by their keys
abbrev bares : Grove → ℕ → Option Node
bares g j = bare (get g.nodes j)

abbrev states_in : Grove → ℕ → Option State
states_in g j = state_in (get g.nodes j)

pub nodes-stay : (old new : Grove) (k : ℕ) (s : Option State) → Keeps old new k s → bares new ≡ bares old
nodes-stay old new k s keeps =
    fun_ext (λ (j : ℕ). one-or-other {P = bare (get new.nodes j) ≡ bare (get old.nodes j)} j k
    (λ same. subst (λ (i : ℕ). bare (get new.nodes i) ≡ bare (get old.nodes i)) (sym same) (ap bare keeps.node ∙ bare-with (get old.nodes k) s))
    (λ other. ap bare (keeps.others j other)))

pub same-net : (old new : Patch) → bares new.grove ≡ bares old.grove → new.grove.boards ≡ old.grove.boards → new.grove.root ≡ old.grove.root
    → RestStays old new → new.timers.end ≡ old.timers.end → net_of new ≡ net_of old
same-net old new nodes boards root rest end = rw (nodes, boards, root, rest.web, rest.links, rest.names, rest.orders, rest.numbers, rest.values, rest.rate, end) refl

pub keeps-net : (old new : Patch) (k : ℕ) (s : Option State) → Keeps old.grove new.grove k s → RestStays old new → new.timers ≡ old.timers → net_of new ≡ net_of old
keeps-net old new k s keeps rest timers = same-net old new (nodes-stay old.grove new.grove k s keeps) keeps.boards keeps.root rest (ap (λ t. t.end) timers)

pub clocks-net : (old new : Patch) → new.grove ≡ old.grove → RestStays old new → new.timers.end ≡ old.timers.end → net_of new ≡ net_of old
clocks-net old new grove rest end =
    same-net old new (ap bares grove) (ap (λ (g : Grove). g.boards) grove) (ap (λ (g : Grove). g.root) grove) rest end

-- what the boxes keep after the state of one changed
pub states-set : (old new : Grove) (k : ℕ) (s : Option State) → Keeps old new k s → state_in (option_map (with_state s) (get old.nodes k)) ≡ s
    → states_in new ≡ set_at (states_in old) k s
states-set old new k s keeps is =
    fun_ext (λ (j : ℕ). set-is (states_in old) j k (state_in (get new.nodes j)) s
    (λ same. ap (λ (i : ℕ). state_in (get new.nodes i)) same ∙ ap state_in keeps.node ∙ is)
    (λ other. ap state_in (keeps.others j other)))

state-some : (o : Option Node) (s : State) (t : Option State) → state_in o ≡ Some s → state_in (option_map (with_state t) o) ≡ t
state-some None s t e = cc
state-some (Some n) s t e = refl

state-twice : (o o2 : Option Node) (s : State) (t u : Option State) → state_in o ≡ Some s → o2 ≡ option_map (with_state t) o → state_in (option_map (with_state u) o2) ≡ u
state-twice None o2 s t u e f = cc
state-twice (Some n) o2 s t u e f = rw f refl

-- the values of a table, seen in the patch and in what the boxes keep
pub table-same : (p q : Patch) (states : ℕ → Option State) → p.names ≡ q.names → states_of p ≡ states → (t : Option ℕ) → table_by p t ≡ table_in (net_of q) states t
table-same p q states names are None = refl
table-same p q states names are (Some name) = rw (← are, names) refl

-- a state is taken out and another put in
pub states-twice : (old mid new : Patch) (node : ℕ) (s : State) (t : Option State) → state_in (get old.grove.nodes node) ≡ Some s
    → Keeps old.grove mid.grove node None → Keeps mid.grove new.grove node t → states_of new ≡ set_at (states_of old) node t
states-twice old mid new node s t is took put =
    states-set mid.grove new.grove node t put (state-twice (get old.grove.nodes node) (get mid.grove.nodes node) s None t is took.node)
    ∙ ap (λ (f : ℕ → Option State). set_at f node t) (states-set old.grove mid.grove node None took (state-some (get old.grove.nodes node) s None is))
    ∙ set-twice (states_of old) node None t

-- a box was lent, and keeps another state now
contains : (p : Patch) (k : ℕ) (n : Node) → get p.grove.nodes k ≡ Some n → ContainsKey p.grove.nodes k
contains p k n is = rw is refl

pub lent-keeps : (p : Patch) (k : ℕ) (n : Node) (s : Option State) → get p.grove.nodes k ≡ Some n → Keeps p.grove (with_box p k (with_state s n)).grove k s
lent-keeps p k n s is =
    let u = Updates-with_value p.grove.nodes k (with_state s n) (contains p k n is) in
    record {
      node = u.changed ∙ sym (ap (λ (o : Option Node). option_map (with_state s) o) is);
      others = u.others;
      boards = refl;
      labels = refl;
      root = refl;
    }

pub lent-net : (p : Patch) (k : ℕ) (n : Node) (s : Option State) → get p.grove.nodes k ≡ Some n → net_of (with_box p k (with_state s n)) ≡ net_of p
lent-net p k n s is =
    keeps-net p (with_box p k (with_state s n)) k s (lent-keeps p k n s is)
    (record { web = refl; names = refl; links = refl; orders = refl; numbers = refl; values = refl; rate = refl; present = refl }) refl

pub lent-states : (p : Patch) (k : ℕ) (n : Node) (s : Option State) → get p.grove.nodes k ≡ Some n → states_of (with_box p k (with_state s n)) ≡ set_at (states_of p) k s
lent-states p k n s is =
    states-set p.grove (with_box p k (with_state s n)).grove k s (lent-keeps p k n s is) (ap (λ (o : Option Node). state_in (option_map (with_state s) o)) is)

lent-same : (p : Patch) (k : ℕ) (n : Node) → get p.grove.nodes k ≡ Some n → states_of (with_box p k n) ≡ states_of p
lent-same p k n is = lent-states p k n n.state is ∙ set-same (states_of p) k n.state (ap state_in is)

-- the box that was lent has heard a message
heard-lent-by : (p : Patch) (now node inlet selector : ℕ) (names names2 : Names) (n n2 : Node) (o : Option State) (atoms : List Atom) (said : Said)
    → get p.grove.nodes node ≡ Some n → n.state ≡ o → table_named (kind_in (get p.grove.nodes node)) ≡ None
    → record { node = n2; names = names2; said = said } ≡ box_reply n names (option_map (λ s. heard_kind names n.kind s inlet selector atoms now None) o)
    → record { states = states_of (with_box p node n2); names = names2; said = said } ≡ heard_at (net_of p) now (states_of p) names node inlet selector atoms
unfolding heard_at
heard-lent-by p now node inlet selector names names2 n n2 None atoms said is e none heard =
    ap (λ (r : BoxReply). record { states = states_of (with_box p node r.node); names = r.names; said = r.said }) heard
    ∙ ap (λ (f : ℕ → Option State). mute f names) (lent-same p node n is)
    ∙ sym (ap (λ (o : Option State). heard_with (net_of p) now (states_of p) names node inlet selector atoms o) (ap state_in is ∙ e))
heard-lent-by p now node inlet selector names names2 n n2 (Some s) atoms said is e none heard =
    let h = heard_kind names n.kind s inlet selector atoms now None in
    let named : table_name n.kind ≡ None = sym (ap (λ (o : Option Node). table_named (kind_in o)) is) ∙ none in
    let others = set_at (states_of p) node None in
    ap (λ (r : BoxReply). record { states = states_of (with_box p node r.node); names = r.names; said = r.said }) heard
    ∙ ap (λ (f : ℕ → Option State). record { states = f; names = h.names; said = h.said }) (lent-states p node n (Some h.state) is)
    ∙ sym (ap (λ (t : Option ℕ). reply (states_of p) node (heard_kind names n.kind s inlet selector atoms now (table_in (net_of p) others t))) named)
    ∙ sym (ap (λ (o : Option Node). reply (states_of p) node (heard_in names (kind_in (bare o)) s inlet selector atoms now (table_in (net_of p) others (table_named (kind_in (bare o)))))) is)
    ∙ sym (ap (λ (o : Option State). heard_with (net_of p) now (states_of p) names node inlet selector atoms o) (ap state_in is ∙ e))

pub heard-lent : (p : Patch) (now node inlet selector : ℕ) (names names2 : Names) (n n2 : Node) (atoms : List Atom) (said : Said)
    → get p.grove.nodes node ≡ Some n → table_named (kind_in (get p.grove.nodes node)) ≡ None
    → record { node = n2; names = names2; said = said } ≡ box_heard names n inlet selector atoms now
    → record { states = states_of (with_box p node n2); names = names2; said = said } ≡ heard_at (net_of p) now (states_of p) names node inlet selector atoms
heard-lent p now node inlet selector names names2 n n2 atoms said is none heard =
    heard-lent-by p now node inlet selector names names2 n n2 n.state atoms said is refl none heard

-- the box that was lent is resumed
resumed-lent-by : (p : Patch) (node : ℕ) (names : Names) (n n2 : Node) (o : Option State) (said : Said)
    → get p.grove.nodes node ≡ Some n → n.state ≡ o
    → record { node = n2; names = names; said = said } ≡ box_reply n names (option_map (λ s. with_names names (control.resumed n.kind s)) o)
    → record { states = states_of (with_box p node n2); names = names; said = said } ≡ resumed_at (net_of p) (states_of p) names node
unfolding resumed_at
resumed-lent-by p node names n n2 None said is e resumed =
    ap (λ (r : BoxReply). record { states = states_of (with_box p node r.node); names = r.names; said = r.said }) resumed
    ∙ ap (λ (f : ℕ → Option State). mute f names) (lent-same p node n is)
    ∙ sym (ap (λ (o : Option State). resumed_with (net_of p) (states_of p) names node o) (ap state_in is ∙ e))
resumed-lent-by p node names n n2 (Some s) said is e resumed =
    let h = with_names names (control.resumed n.kind s) in
    ap (λ (r : BoxReply). record { states = states_of (with_box p node r.node); names = r.names; said = r.said }) resumed
    ∙ ap (λ (f : ℕ → Option State). record { states = f; names = h.names; said = h.said }) (lent-states p node n (Some h.state) is)
    ∙ sym (ap (λ (o : Option Node). reply (states_of p) node (resumed_in names (kind_in (bare o)) s)) is)
    ∙ sym (ap (λ (o : Option State). resumed_with (net_of p) (states_of p) names node o) (ap state_in is ∙ e))

pub resumed-lent : (p : Patch) (node : ℕ) (names : Names) (n n2 : Node) (said : Said)
    → get p.grove.nodes node ≡ Some n
    → record { node = n2; names = names; said = said } ≡ box_resumed names n
    → record { states = states_of (with_box p node n2); names = names; said = said } ≡ resumed_at (net_of p) (states_of p) names node
resumed-lent p node names n n2 said is resumed = resumed-lent-by p node names n n2 n.state said is refl resumed

-- what a lent box hears leaves the net
pub replied-net : (p : Patch) (node : ℕ) (n n2 : Node) (names names2 : Names) (said : Said) (o : Option Hearing) → get p.grove.nodes node ≡ Some n
    → record { node = n2; names = names2; said = said } ≡ box_reply n names o → net_of (with_box p node n2) ≡ net_of p
replied-net p node n n2 names names2 said None is replied =
    ap (λ (r : BoxReply). net_of (with_box p node r.node)) replied ∙ lent-net p node n n.state is
replied-net p node n n2 names names2 said (Some h) is replied =
    ap (λ (r : BoxReply). net_of (with_box p node r.node)) replied ∙ lent-net p node n (Some h.state) is

pub heard-reply : (old mid new : Patch) (now node inlet selector : ℕ) (names names2 : Names) (s s2 : State) (atoms : List Atom) (said : Said)
    → state_in (get old.grove.nodes node) ≡ Some s → Keeps old.grove mid.grove node None → RestStays old mid
    → record { state = s2; names = names2; said = said } ≡ heard_in names (kind_in (get mid.grove.nodes node)) s inlet selector atoms now (table_by mid (table_named (kind_in (get mid.grove.nodes node))))
    → Keeps mid.grove new.grove node (Some s2)
    → record { states = states_of new; names = names2; said = said } ≡ heard_at (net_of old) now (states_of old) names node inlet selector atoms
unfolding heard_at
heard-reply old mid new now node inlet selector names names2 s s2 atoms said is took rest heard put =
    let states : states_of mid ≡ set_at (states_of old) node None = states-set old.grove mid.grove node None took (state-some (get old.grove.nodes node) s None is) in
    let table = table-same mid old (set_at (states_of old) node None) rest.names states (table_named (kind_in (get mid.grove.nodes node))) in
    let h = heard ∙ ap (λ (t : Option (List ℤ)). heard_in names (kind_in (get mid.grove.nodes node)) s inlet selector atoms now t) table in
    let h2 = h ∙ ap (λ (o : Option Node). heard_in names (kind_in o) s inlet selector atoms now (table_in (net_of old) (set_at (states_of old) node None) (table_named (kind_in o)))) took.node in
    ap (λ (f : ℕ → Option State). record { states = f; names = names2; said = said }) (states-twice old mid new node s (Some s2) is took put)
    ∙ ap (λ (r : Hearing). reply (states_of old) node r) h2
    ∙ sym (ap (λ (o : Option State). heard_with (net_of old) now (states_of old) names node inlet selector atoms o) is)

pub resumed-reply : (old mid new : Patch) (node : ℕ) (names : Names) (s s2 : State) (said : Said)
    → state_in (get old.grove.nodes node) ≡ Some s → Keeps old.grove mid.grove node None
    → record { state = s2; names = names; said = said } ≡ resumed_in names (kind_in (get mid.grove.nodes node)) s
    → Keeps mid.grove new.grove node (Some s2)
    → record { states = states_of new; names = names; said = said } ≡ resumed_at (net_of old) (states_of old) names node
unfolding resumed_at
resumed-reply old mid new node names s s2 said is took heard put =
    ap (λ (f : ℕ → Option State). record { states = f; names = names; said = said }) (states-twice old mid new node s (Some s2) is took put)
    ∙ ap (λ (r : Hearing). reply (states_of old) node r) (heard ∙ ap (λ (o : Option Node). resumed_in names (kind_in o) s) took.node)
    ∙ sym (ap (λ (o : Option State). resumed_with (net_of old) (states_of old) names node o) is)

pub fired-said : (old mid : Patch) (node : ℕ) (s : State) (said : Said)
    → state_in (get old.grove.nodes node) ≡ Some s → Keeps old.grove mid.grove node None
    → said ≡ fired_with (Some s) (kind_in (get mid.grove.nodes node))
    → said ≡ fired_at (net_of old) (states_of old) node
unfolding fired_at
fired-said old mid node s said is took fired =
    fired ∙ ap (λ (o : Option Node). fired_with (Some s) (kind_in o)) took.node ∙ sym (ap (λ (o : Option State). fired_with o (kind_in (bare (get old.grove.nodes node)))) is)

pub states-back : (old mid new : Patch) (node : ℕ) (s : State) → state_in (get old.grove.nodes node) ≡ Some s
    → Keeps old.grove mid.grove node None → Keeps mid.grove new.grove node (Some s) → states_of new ≡ states_of old
states-back old mid new node s is took put = states-twice old mid new node s (Some s) is took put ∙ set-same (states_of old) node (Some s) is

pub net-twice : (old mid new : Patch) (node : ℕ) (s t : Option State) → Keeps old.grove mid.grove node s → RestStays old mid → mid.timers ≡ old.timers
    → Keeps mid.grove new.grove node t → RestStays mid new → new.timers ≡ mid.timers → net_of new ≡ net_of old
net-twice old mid new node s t took rest timers put rest2 timers2 = keeps-net mid new node t put rest2 timers2 ∙ keeps-net old mid node s took rest timers

-- a value of a table is set
value-in : (o : Option Node) (index : ℕ) (value : ℤ) → state_in (option_map (with_state (option_map (λ s. with_value s index value) (state_in o))) o) ≡ option_map (λ s. with_value s index value) (state_in o)
value-in None index value = refl
value-in (Some n) index value = refl

pub writes-states : (old new : Grove) (owner : Option ℕ) (index : ℕ) (value : ℤ) → WritesAt old new owner index value
    → states_in new ≡ written_at (states_in old) index value owner
writes-states old new None index value same = ap states_in same
writes-states old new (Some k) index value keeps =
    states-set old new k (option_map (λ s. with_value s index value) (state_in (get old.nodes k))) keeps (value-in (get old.nodes k) index value)

pub writes-net : (old new : Patch) (owner : Option ℕ) (index : ℕ) (value : ℤ) → WritesAt old.grove new.grove owner index value → RestStays old new → new.timers ≡ old.timers → net_of new ≡ net_of old
writes-net old new None index value same rest timers = clocks-net old new same rest (ap (λ t. t.end) timers)
writes-net old new (Some k) index value keeps rest timers = keeps-net old new k (option_map (λ s. with_value s index value) (state_in (get old.grove.nodes k))) keeps rest timers

-- a clock is set
pub clock-set : (end owner time : ℕ) (old new : List Clock) → (owner < end → new ≡ without owner old ++ record { time = time; owner = owner } ∷ []) → (end ≤ owner → new ≡ old)
    → new ≡ with_clock end owner time old
clock-set end owner time old new set other =
    elim (nat_lt owner end) as (λ (t : Bool). nat_lt owner end ≡ t → new ≡ cond t (without owner old ++ record { time = time; owner = owner } ∷ []) old) [
      | true ↦ λ e. set (below e)
      | false ↦ λ e. other (above e)
    ] refl
  where
    below : nat_lt owner end ≡ true → owner < end
    below e = grind (arith, nat_tests)

    above : nat_lt owner end ≡ false → end ≤ owner
    above e = grind (arith, nat_tests)

-- a box whose state isn't there
pub not-some : (o : Option State) (b : Bool) → ((b ≡ true) ↔ IsSome o) → b ≡ false → o ≡ None
not-some None b iff e = refl
not-some (Some s) b iff e = absurd (false≢true (sym e ∙ iff.1 refl))

-- what a box without its state tells
pub kind-bare : (o : Option Node) → kind_in (bare o) ≡ kind_in o
kind-bare None = refl
kind-bare (Some n) = refl

pub inner-bare : (o : Option Node) → inner_in (bare o) ≡ inner_in o
inner-bare None = refl
inner-bare (Some n) = refl

-- the path to a canvas
spot-bare : (numbers : List ℕ) (k : ℕ) (o : Option Node) → spot_of numbers k (bare o) ≡ spot_of numbers k o
spot-bare numbers k None = refl
spot-bare numbers k (Some n) = refl

module _ (nodes : ℕ → Option Node) (boards : Slab Board) (numbers : List ℕ) where
  around-bare : (canvas : ℕ) → around (λ k. bare (nodes k)) boards numbers canvas ≡ around nodes boards numbers canvas
  around-bare canvas = ap (λ (f : ℕ → Option (ℕ × ℕ)). option_and_then f (holder_in (get boards canvas))) (fun_ext (λ k. spot-bare numbers k (nodes k)))

  out-bare : (here : Option (ℕ × ℕ)) → out_of (λ k. bare (nodes k)) boards numbers here ≡ out_of nodes boards numbers here
  out-bare None = refl
  out-bare (Some h) = around-bare h.0

  outward-bare : (n : ℕ) (here : Option (ℕ × ℕ)) → outward (λ k. bare (nodes k)) boards numbers n here ≡ outward nodes boards numbers n here
  unfolding outward
  outward-bare zero here = refl
  outward-bare (suc n) here =
      ap (λ (o : Option (ℕ × ℕ)). number_of here ++ outward (λ k. bare (nodes k)) boards numbers n o) (out-bare here)
      ∙ ap (λ (l : List ℕ). number_of here ++ l) (outward-bare n (out_of nodes boards numbers here))

  pub path-bare : (canvas : ℕ) → path_told (λ k. bare (nodes k)) boards numbers canvas ≡ path_told nodes boards numbers canvas
  unfolding path_told
  path-bare canvas =
      ap (λ (o : Option (ℕ × ℕ)). reverse (outward (λ k. bare (nodes k)) boards numbers 256 o)) (around-bare canvas)
      ∙ ap (λ (l : List ℕ). reverse l) (outward-bare 256 (around nodes boards numbers canvas))

pub not-heard : (p : Patch) (now node inlet selector : ℕ) (names : Names) (atoms : List Atom) (said : Said) → state_in (get p.grove.nodes node) ≡ None → said ≡ silent
    → record { states = states_of p; names = names; said = said } ≡ heard_at (net_of p) now (states_of p) names node inlet selector atoms
unfolding heard_at
not-heard p now node inlet selector names atoms said none quiet =
    ap (λ (x : Said). record { states = states_of p; names = names; said = x }) quiet
    ∙ sym (ap (λ (o : Option State). heard_with (net_of p) now (states_of p) names node inlet selector atoms o) none)

pub not-resumed : (p : Patch) (node : ℕ) (names : Names) (said : Said) → state_in (get p.grove.nodes node) ≡ None → said ≡ silent
    → record { states = states_of p; names = names; said = said } ≡ resumed_at (net_of p) (states_of p) names node
unfolding resumed_at
not-resumed p node names said none quiet =
    ap (λ (x : Said). record { states = states_of p; names = names; said = x }) quiet
    ∙ sym (ap (λ (o : Option State). resumed_with (net_of p) (states_of p) names node o) none)

pub not-fired : (p : Patch) (node : ℕ) (said : Said) → state_in (get p.grove.nodes node) ≡ None → said ≡ silent → said ≡ fired_at (net_of p) (states_of p) node
unfolding fired_at
not-fired p node said none quiet = quiet ∙ sym (ap (λ (o : Option State). fired_with o (kind_in (bare (get p.grove.nodes node)))) none)

-- what is kept, by its parts
abbrev kept_as : (ℕ → Option State) → List Clock → Names → Waiting → Kept
kept_as states clocks names queue = record { states = states; clocks = clocks; names = names; queue = queue }

pub clocks-kept : (old new : Patch) (names : Names) (queue : Waiting) (clocks : List Clock) → new.grove ≡ old.grove → new.timers.clocks.clocks ≡ clocks
    → kept_of new names queue ≡ with_clocks (kept_of old names queue) clocks
clocks-kept old new names queue clocks grove is =
    ap (λ (g : Grove). kept_as (states_in g) new.timers.clocks.clocks names queue) grove
    ∙ ap (λ (l : List Clock). kept_as (states_of old) l names queue) is

pub kept-same : (old new : Patch) (names : Names) (queue : Waiting) → states_of new ≡ states_of old → new.timers ≡ old.timers → kept_of new names queue ≡ kept_of old names queue
kept-same old new names queue states timers =
    ap (λ (f : ℕ → Option State). kept_as f new.timers.clocks.clocks names queue) states
    ∙ ap (λ t. kept_as (states_of old) t.clocks.clocks names queue) timers

-- a box is loaded
pub loaded-some : (p : Patch) (node : ℕ) (n : Node) (o : Option State) (said : Said) → Some n ≡ get p.grove.nodes node → o ≡ state_in (get p.grove.nodes node) → said ≡ loaded_kind n.kind o
    → said ≡ loaded_at (net_of p) (states_of p) node
unfolding loaded_at
loaded-some p node n o said is keeps says =
    says ∙ ap (λ (x : Option State). loaded_kind n.kind x) keeps ∙ ap (λ (g : Option Node). loaded_with (kind_in (bare g)) (states_of p node)) is

pub loaded-none : (p : Patch) (node : ℕ) (said : Said) → None ≡ get p.grove.nodes node → said ≡ silent → said ≡ loaded_at (net_of p) (states_of p) node
unfolding loaded_at
loaded-none p node said is quiet = quiet ∙ ap (λ (g : Option Node). loaded_with (kind_in (bare g)) (states_of p node)) is
