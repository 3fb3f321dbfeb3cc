-- Brief messages that go from box to box lead on to the same end.
use Rattle.std.proofs.Common.{arith, take, drop, ◌≡◌, ℕ, ◌+◌, ◌-◌, ◌<◌, ◌≤◌, Bool, false, cond, nat_le, List, [], ◌∷◌, ◌++◌, length, refl, sym, ◌∙◌, ap, subst, append_assoc, append-nil}
use Rattle.std.proofs.lemmas.Bool.Decides.{nat_tests}
use Rattle.std.specs.Prelude.{Option, Some, None, IfSome, IfNone, not, is_some, ◌&&◌}
use Rattle.std.proofs.lemmas.Slice.{between_is}
use Rattle.std.proofs.Math.Seq.{take-length, drop-append_seam}
use Rattle.std.specs.List.{slice_get, slice_range, flat_map}
use Rattle.pd_atom.specs.Names.{Names}
use Rattle.pd_atom.specs.declared.Atom.{Atom}
use Rattle.pd_kind.specs.declared.states.State.{State}
use Rattle.pd_kind.specs.Said.{Said}
use Rattle.pd_kind.specs.Rows.{Send}
use Rattle.pd_patch.specs.declared.patch.Patch.{Patch}
use Rattle.pd_queue.specs.Queue.{Waiting}
use Rattle.pd_web.specs.declared.web.Hop.{Hop}
use Rattle.pd_web.specs.Hops.{fan_hops, port_told}
use Rattle.pd_grove.specs.Telling.{kind_in}
use Rattle.pd_turns.specs.Turns.{World}
use Rattle.pd_hearing.specs.declared.briefs.Brief.{Brief}
use Rattle.pd_hearing.specs.declared.briefs.Brief.TheVariants as brief
use Rattle.pd_hearing.specs.declared.briefs.Reaction.{Reaction}
use Rattle.pd_hearing.specs.declared.briefs.Reaction.TheVariants as reaction
use Rattle.pd_hearing.specs.Briefs.{selector_of, atoms_of, said_of, again}
use Rattle.pd_hearing.specs.Outlets.{is_outlet}
use Rattle.pd_hearing.specs.Worlds.{Net, Kept, kept_of, states_of}
use Rattle.pd_hearing.specs.Hearing.{Reply, heard_at, resumed_at}
use Rattle.pd_hearing.specs.Deeds.{done, with_states}
use Rattle.pd_hearing.proofs.WorldLemmas.{kept-same}
use Rattle.pd_walk.specs.declared.relay.Rest.{Rest}
use Rattle.pd_walk.specs.declared.relay.Saying.{Saying}
use Rattle.pd_stack.specs.declared.stack.Cursor.TheVariants.{Wires}
use Rattle.pd_stack.specs.declared.steps.Place.{Place}
use Rattle.pd_stack.specs.declared.steps.Place.TheVariants as place
use Rattle.pd_walk.specs.declared.walker.Budget.{Budget}
use Rattle.pd_stack.specs.Pile.{Pile}
use Rattle.pd_stack.specs.Piles.{GoesAlong, LeftOn, AreLeft, AllLie}
use Rattle.pd_stack.specs.Tasks.{Task, Deliver, Resume, along, end_of, sent, wires_from, leads_out, fan_at}
use Rattle.pd_walk.specs.Acts.{kept_after, said_at, caused, kept_by, said_by_box, asked_for, overflow_text, is_too_deep, sends_of}
use Rattle.pd_stack.specs.Turns.{doing}
use Rattle.pd_walk.specs.Outcome.{world, ran, StatesStay}
use Rattle.pd_walk.specs.Ways.{IsUnderWay}
use Rattle.pd_walk.specs.declared.routes.Route.{Route}
use Rattle.pd_walk.specs.Relays.{saying_at, deeper, spent, brief_tasks, saying_tasks, one_less, Leads, IsRoute, IsHeard, Stepped, RestTasks, Relayed, GoesFrom, resumption}
use Rattle.pd_walk.proofs.WayLemmas.{world_of, step}
use Rattle.pd_stack.proofs.SendLemmas.{along_fan}
use Rattle.pd_stack.proofs.PileLemmas.{left-agree, more-agree}
use Rattle.pd_walk.proofs.StayLemmas.{heard-stay, resumed-stay, all-stay}

-- lists that are told by their first places
pub none-first : {X : Type 0} (xs : List X) → None ≡ slice_get xs 0 → xs ≡ []
none-first [] e = refl
none-first (x ∷ xs) e = cc

pub only-first : {X : Type 0} (xs : List X) (x : X) → Some x ≡ slice_get xs 0 → None ≡ slice_get xs 1 → xs ≡ x ∷ []
only-first [] x e f = cc
only-first (y ∷ []) x e f = let g : x ≡ y = some-inj e in rw g refl
  where
    some-inj : {A : Type 0} {a b : A} → Some a ≡ Some b → a ≡ b
    some-inj e = cc
only-first (y ∷ (z ∷ xs)) x e f = cc

-- a box has heard what came along a route
pub heard-along : (net : Net) (old new : ℕ → Option State) (here here2 : Saying) (r : Reaction) (route : Route) → IsRoute net.web here.node route
    → is_outlet (kind_in (net.nodes route.to)) ≡ false
    → ((names : Names) (now : ℕ) → 2 ≤ length names → record { states = new; names = names; said = said_of r here2.message }
    ≡ heard_at net now old names route.to route.inlet (selector_of here.message) (atoms_of here.message))
    → (r ≡ reaction.Says → here2 ≡ saying_at (here.depth + 1) route.to here2.message)
    → IsHeard net old new here here2 r
heard-along net old new here here2 r route is inner heard says = record {
  hop = is.hop;
  only = is.only;
  inner = subst (λ (k : ℕ). is_outlet (kind_in (net.nodes k)) ≡ false) is.to inner;
  heard = λ names now two. heard names now two
      ∙ (ap (λ (k : ℕ). heard_at net now old names k route.inlet (selector_of here.message) (atoms_of here.message)) is.to
      ∙ ap (λ (i : ℕ). heard_at net now old names (end_of net.web is.hop).0 i (selector_of here.message) (atoms_of here.message)) is.inlet);
  says = λ e. says e ∙ ap (λ (k : ℕ). saying_at (here.depth + 1) k here2.message) is.to;
}

-- what goes on from where nothing has changed goes on from there
pub stepped-on : (net net2 : Net) (old old2 new : ℕ → Option State) (here here2 there : Saying) (r : Reaction) → net2 ≡ net → old2 ≡ old → here2 ≡ here
    → Stepped net2 old2 new here2 there r → Stepped net old new here there r
stepped-on net net2 old old2 new here here2 there r same kept is stepped =
    subst (λ (n : Net). Stepped n old new here there r) same
    (subst (λ (o : ℕ → Option State). Stepped net2 o new here there r) kept
    (subst (λ (h : Saying). Stepped net2 old2 new h there r) is stepped))

-- a box that is no outlet sends along its own wires, and never leads out
own-wires : (net : Net) (node outlet : ℕ) → is_outlet (kind_in (net.nodes node)) ≡ false → wires_from net node outlet ≡ fan_hops net.web node outlet
unfolding wires_from
own-wires net node outlet inner = ap (λ (t : Bool). cond t (fan_at net.web (port_told net.web node)) (fan_hops net.web node outlet)) inner

own-sends : (net : Net) (node : ℕ) (said : Said) → is_outlet (kind_in (net.nodes node)) ≡ false → sends_of net node said ≡ said.sends
unfolding leads_out
own-sends net node said inner = ap (λ (t : Bool). cond (t && not (is_some (port_told net.web node))) [] said.sends) inner

not-deepest : (depth : ℕ) → depth < 1000 → nat_le 1000 depth ≡ false
not-deepest depth less = grind (arith, nat_tests)

-- what a brief answer causes
abbrev answered : Net → ℕ → ℕ → Reaction → Brief → List Task
answered net depth node reaction.Says m = brief_tasks net (depth + 1) node m
answered net depth node r m = []

answer-tasks : (net : Net) (depth node : ℕ) (r : Reaction) (m : Brief) → is_outlet (kind_in (net.nodes node)) ≡ false
    → flat_map (sent net (depth + 1) node) (said_of r m).sends ++ [] ≡ answered net depth node r m
answer-tasks net depth node reaction.Unheard m inner = refl
answer-tasks net depth node reaction.Silent m inner = refl
answer-tasks net depth node reaction.Says m inner =
    append-nil _ ∙ append-nil _ ∙ ap (λ (l : List Hop). along net.web (depth + 1) (selector_of m) (atoms_of m) l) (own-wires net node 0 inner)

asked-plain : (net : Net) (depth node : ℕ) (r : Reaction) (m : Brief) → depth < 1000
    → asked_for net depth node (said_of r m) ≡ flat_map (sent net (depth + 1) node) (sends_of net node (said_of r m)) ++ []
asked-plain net depth node reaction.Unheard m less = rw (not-deepest depth less) refl
asked-plain net depth node reaction.Silent m less = rw (not-deepest depth less) refl
asked-plain net depth node reaction.Says m less = rw (not-deepest depth less) refl

answer-caused : (net : Net) (depth node : ℕ) (r : Reaction) (m : Brief) → depth < 1000 → is_outlet (kind_in (net.nodes node)) ≡ false
    → asked_for net depth node (said_of r m) ≡ answered net depth node r m
answer-caused net depth node r m less inner =
    asked-plain net depth node r m less
    ∙ ap (λ (l : List Send). flat_map (sent net (depth + 1) node) l ++ []) (own-sends net node (said_of r m) inner)
    ∙ answer-tasks net depth node r m inner

-- it says nothing in print
answer-text : (net : Net) (depth node selector : ℕ) (atoms : List Atom) (states : ℕ → Option State) (names : Names) (r : Reaction) (m : Brief) → depth < 1000
    → said_by_box net depth node selector atoms (record { states = states; names = names; said = said_of r m }) ≡ []
answer-text net depth node selector atoms states names reaction.Unheard m less = rw (not-deepest depth less) refl
answer-text net depth node selector atoms states names reaction.Silent m less = rw (not-deepest depth less) refl
answer-text net depth node selector atoms states names reaction.Says m less = rw (not-deepest depth less) refl

-- its deed changes nothing
answer-kept : (net : Net) (now node : ℕ) (kept : Kept) (states : ℕ → Option State) (r : Reaction) (m : Brief)
    → kept_by net now node kept (record { states = states; names = kept.names; said = said_of r m }) ≡ with_states kept states
unfolding done
answer-kept net now node kept states reaction.Unheard m = refl
answer-kept net now node kept states reaction.Silent m = refl
answer-kept net now node kept states reaction.Says m = refl

-- One delivery of a brief message leads on to what the box says.
brief-leads : (net : Net) (now : ℕ) (kept : Kept) (budget : Budget) (depth node inlet selector : ℕ) (atoms : List Atom) (states : ℕ → Option State) (r : Reaction) (m : Brief)
    → budget.cut ≡ false → 0 < budget.left → depth < 1000 → is_outlet (kind_in (net.nodes node)) ≡ false
    → record { states = states; names = kept.names; said = said_of r m } ≡ heard_at net now kept.states kept.names node inlet selector atoms
    → Leads net now kept budget (Deliver depth node inlet selector atoms ∷ []) (with_states kept states) (one_less budget) (answered net depth node r m)
unfolding kept_after said_at caused
brief-leads net now kept budget depth node inlet selector atoms states r m uncut more less inner heard = λ said later.
    let reply : Reply = record { states = states; names = kept.names; said = said_of r m } in
    let e : world kept budget said ≡ world_of kept budget.left false said = ap (λ (b : Bool). world_of kept budget.left b said) uncut in
    let f : world_of (with_states kept states) (budget.left - 1) false said ≡ world (with_states kept states) (one_less budget) said
    = ap (λ (b : Bool). world_of (with_states kept states) (budget.left - 1) b said) (sym uncut) in
    let text : said ++ said_by_box net depth node selector atoms reply ≡ said = ap (λ (l : List ℕ). said ++ l) (answer-text net depth node selector atoms states kept.names r m less) ∙ append-nil said in
    ap (λ (w : World Kept). ran net now w (Deliver depth node inlet selector atoms ∷ later)) e
    ∙ step net now kept budget.left said (Deliver depth node inlet selector atoms) later refl more
    ∙ ap (λ (x : Reply). ran net now (world_of (kept_by net now node kept x) (budget.left - 1) false (said ++ said_by_box net depth node selector atoms x)) (asked_for net depth node x.said ++ later)) (sym heard)
    ∙ ap (λ (k : Kept). ran net now (world_of k (budget.left - 1) false (said ++ said_by_box net depth node selector atoms reply)) (asked_for net depth node (said_of r m) ++ later)) (answer-kept net now node kept states r m)
    ∙ ap (λ (l : List ℕ). ran net now (world_of (with_states kept states) (budget.left - 1) false l) (asked_for net depth node (said_of r m) ++ later)) text
    ∙ ap (λ (l : List Task). ran net now (world_of (with_states kept states) (budget.left - 1) false said) (l ++ later)) (answer-caused net depth node r m less inner)
    ∙ ap (λ (w : World Kept). ran net now w (answered net depth node r m ++ later)) f

-- a box that goes on: its bang, and then that it is resumed again
again-caused : (net : Net) (depth node : ℕ) → depth < 1000 → is_outlet (kind_in (net.nodes node)) ≡ false
    → asked_for net depth node again ≡ brief_tasks net (depth + 1) node brief.Bang ++ resumption depth node
again-caused net depth node less inner =
    rw (not-deepest depth less) (ap (λ (l : List Send). flat_map (sent net (depth + 1) node) l ++ resumption depth node) (own-sends net node again inner)
    ∙ ap (λ (l : List Task). l ++ resumption depth node) (append-nil _ ∙ ap (λ (l : List Hop). along net.web (depth + 1) 0 [] l) (own-wires net node 0 inner)))

again-leads : (net : Net) (now : ℕ) (kept : Kept) (budget : Budget) (depth node : ℕ) (states : ℕ → Option State)
    → budget.cut ≡ false → 0 < budget.left → depth < 1000 → is_outlet (kind_in (net.nodes node)) ≡ false
    → record { states = states; names = kept.names; said = again } ≡ resumed_at net kept.states kept.names node
    → Leads net now kept budget (resumption depth node) (with_states kept states) (one_less budget) (brief_tasks net (depth + 1) node brief.Bang ++ resumption depth node)
unfolding kept_after said_at caused done
again-leads net now kept budget depth node states uncut more less inner goes = λ said later.
    let reply : Reply = record { states = states; names = kept.names; said = again } in
    let e : world kept budget said ≡ world_of kept budget.left false said = ap (λ (b : Bool). world_of kept budget.left b said) uncut in
    let f : world_of (with_states kept states) (budget.left - 1) false said ≡ world (with_states kept states) (one_less budget) said
    = ap (λ (b : Bool). world_of (with_states kept states) (budget.left - 1) b said) (sym uncut) in
    let none : overflow_text (is_too_deep net depth node again) ≡ [] = rw (not-deepest depth less) refl in
    let text : said ++ overflow_text (is_too_deep net depth node again) ≡ said = ap (λ (l : List ℕ). said ++ l) none ∙ append-nil said in
    ap (λ (w : World Kept). ran net now w (Resume depth node ∷ later)) e
    ∙ step net now kept budget.left said (Resume depth node) later refl more
    ∙ ap (λ (x : Reply). ran net now (world_of (kept_by net now node kept x) (budget.left - 1) false (said ++ overflow_text (is_too_deep net depth node x.said))) (asked_for net depth node x.said ++ later)) (sym goes)
    ∙ ap (λ (l : List ℕ). ran net now (world_of (with_states kept states) (budget.left - 1) false l) (asked_for net depth node again ++ later)) text
    ∙ ap (λ (l : List Task). ran net now (world_of (with_states kept states) (budget.left - 1) false said) (l ++ later)) (again-caused net depth node less inner)
    ∙ ap (λ (w : World Kept). ran net now w ((brief_tasks net (depth + 1) node brief.Bang ++ resumption depth node) ++ later)) f

pub leads-same : (net : Net) (now : ℕ) (kept : Kept) (budget : Budget) (tasks : List Task) → Leads net now kept budget tasks kept budget tasks
leads-same net now kept budget tasks = λ said later. refl

leads-then : (net : Net) (now : ℕ) (k k2 k3 : Kept) (b b2 b3 : Budget) (t t2 t3 : List Task)
    → Leads net now k b t k2 b2 t2 → Leads net now k2 b2 t2 k3 b3 t3 → Leads net now k b t k3 b3 t3
leads-then net now k k2 k3 b b2 b3 t t2 t3 f g = λ said later. f said later ∙ g said later

leads-before : (net : Net) (now : ℕ) (k k2 : Kept) (b b2 : Budget) (t t2 after : List Task) → Leads net now k b t k2 b2 t2 → Leads net now k b (t ++ after) k2 b2 (t2 ++ after)
leads-before net now k k2 b b2 t t2 after f = λ said later.
    ap (λ (l : List Task). ran net now (world k b said) l) (append_assoc t after later) ∙ f said (after ++ later)
    ∙ sym (ap (λ (l : List Task). ran net now (world k2 b2 said) l) (append_assoc t2 after later))

leads-alone : (net : Net) (now : ℕ) (k k2 : Kept) (b b2 : Budget) (t t2 : List Task) → Leads net now k b (t ++ []) k2 b2 (t2 ++ []) → Leads net now k b t k2 b2 t2
leads-alone net now k k2 b b2 t t2 f =
    subst (λ (l : List Task). Leads net now k b t k2 b2 l) (append-nil t2) (subst (λ (l : List Task). Leads net now k b l k2 b2 (t2 ++ [])) (append-nil t) f)

-- what is kept, where states changed alone
kept-with : (old new : Patch) (names : Names) (queue : Waiting) → new.timers ≡ old.timers → kept_of new names queue ≡ with_states (kept_of old names queue) (states_of new)
kept-with old new names queue timers = ap (λ t. record { states = states_of new; clocks = t.clocks.clocks; names = names; queue = queue }) timers

-- two names, for facts that hold in every table that has as many
abbrev two_names : Names
two_names = [] ∷ [] ∷ []

pub brief-stay : (net : Net) (states new : ℕ → Option State) (node inlet : ℕ) (m m2 : Brief) (r : Reaction)
    → ((names : Names) (now : ℕ) → 2 ≤ length names → record { states = new; names = names; said = said_of r m2 } ≡ heard_at net now states names node inlet (selector_of m) (atoms_of m))
    → StatesStay states new
brief-stay net states new node inlet m m2 r heard = heard-stay net 0 states two_names node inlet (selector_of m) (atoms_of m) _ (heard two_names 0 (omega arith))

pub heard-by-stay : (net : Net) (old new : ℕ → Option State) (here here2 : Saying) (r : Reaction) → IsHeard net old new here here2 r → StatesStay old new
heard-by-stay net old new here here2 r h = brief-stay net old new (end_of net.web h.hop).0 (end_of net.web h.hop).1 here.message here2.message r h.heard

pub again-stay : (net : Net) (old new : ℕ → Option State) (node : ℕ) → ((names : Names) → record { states = new; names = names; said = again } ≡ resumed_at net old names node) → StatesStay old new
again-stay net old new node goes = resumed-stay net old [] node _ (goes [])

pub same-stay : (old new : ℕ → Option State) → new ≡ old → StatesStay old new
same-stay old new e = subst (λ (x : ℕ → Option State). StatesStay old x) (sym e) (all-stay old)

-- what is left of a send that nothing is done of
whole-rest : (net : Net) (depth node : ℕ) (m : Brief) (hop : Hop) → Some hop ≡ slice_get (fan_hops net.web node 0) 0
    → GoesAlong net depth (selector_of m) (atoms_of m) (Some hop) (brief_tasks net depth node m)
whole-rest net depth node m hop first = record { hops = fan_hops net.web node 0; along_them = along_fan net node 0 (Some hop) first; are = refl }

no-rest : (net : Net) (depth node : ℕ) (m : Brief) → fan_hops net.web node 0 ≡ [] → brief_tasks net depth node m ≡ []
no-rest net depth node m none = ap (λ (l : List Hop). along net.web depth (selector_of m) (atoms_of m) l) none

all-rest : (net : Net) (here : Saying) (o : Option Rest) → IfNone o (fan_hops net.web here.node 0 ≡ []) → IfSome o (λ r. Some r.hop ≡ slice_get (fan_hops net.web here.node 0) 0)
    → IfSome o (λ r. r.depth ≡ here.depth) → IfSome o (λ r. r.message ≡ here.message) → RestTasks net o (saying_tasks net here)
all-rest net here None none first depth message = no-rest net here.depth here.node here.message none
all-rest net here (Some r) none first depth message =
    subst (λ (d : ℕ). GoesAlong net d (selector_of r.message) (atoms_of r.message) (Some r.hop) (saying_tasks net here)) (sym depth)
    (subst (λ (m : Brief). GoesAlong net here.depth (selector_of m) (atoms_of m) (Some r.hop) (saying_tasks net here)) (sym message)
    (whole-rest net here.depth here.node here.message r.hop first))

-- a brief message and what it leads to, from patch to patch
module _ (net net1 : Net) (same : net1 ≡ net) (now : ℕ) (k : Kept) (b b2 : Budget) (t : List Task) (names : Names) (queue : Waiting) where
  -- nothing changed
  pub stays-so : (mid new : Patch) (here here2 : Saying) → here2 ≡ here → states_of new ≡ states_of mid → new.timers ≡ mid.timers
      → Leads net now k b t (kept_of mid names queue) b2 (saying_tasks net here) → Leads net now k b t (kept_of new names queue) b2 (saying_tasks net here2)
  stays-so mid new here here2 at states timers leads =
      subst (λ (x : Saying). Leads net now k b t (kept_of new names queue) b2 (saying_tasks net x)) (sym at)
      (subst (λ (x : Kept). Leads net now k b t x b2 (saying_tasks net here)) (sym (kept-same mid new names queue states timers)) leads)

  -- all of a send is left
  pub rest-relayed : (p : Patch) (here : Saying) (o : Option Rest) (after : List Task) → IfNone o (fan_hops net1.web here.node 0 ≡ []) → IfSome o (λ r. Some r.hop ≡ slice_get (fan_hops net1.web here.node 0) 0)
      → IfSome o (λ r. r.depth ≡ here.depth) → IfSome o (λ r. r.message ≡ here.message)
      → Leads net now k b t (kept_of p names queue) b2 (saying_tasks net here) → Relayed net now k b (t ++ after) (kept_of p names queue) b2 o after
  rest-relayed p here o after none first depth message leads =
      record {
        rest = saying_tasks net here;
        is = subst (λ (n : Net). RestTasks n o (saying_tasks n here)) same (all-rest net1 here o none first depth message);
        leads = leads-before net now k (kept_of p names queue) b b2 t (saying_tasks net here) after leads;
      }

  heard-leads : (mid new : Patch) (here here2 : Saying) (r : Reaction) → b2.cut ≡ false → 0 < b2.left → here.depth < 1000 → 2 ≤ length names → new.timers ≡ mid.timers
      → (h : IsHeard net (states_of mid) (states_of new) here here2 r)
      → Leads net now k b t (kept_of mid names queue) b2 (saying_tasks net here)
      → Leads net now k b t (kept_of new names queue) (one_less b2) (answered net here.depth (end_of net.web h.hop).0 r here2.message)
  heard-leads mid new here here2 r uncut more less two timers h leads =
      let m : Brief = here.message in
      let to : ℕ = (end_of net.web h.hop).0 in
      let inlet : ℕ = (end_of net.web h.hop).1 in
      let one : saying_tasks net here ≡ Deliver here.depth to inlet (selector_of m) (atoms_of m) ∷ []
      = ap (λ (l : List Hop). along net.web here.depth (selector_of m) (atoms_of m) l) h.only in
      leads-then net now k (kept_of mid names queue) (kept_of new names queue) b b2 (one_less b2) t (saying_tasks net here) (answered net here.depth to r here2.message) leads
      (subst (λ (l : List Task). Leads net now (kept_of mid names queue) b2 l (kept_of new names queue) (one_less b2) (answered net here.depth to r here2.message)) (sym one)
      (subst (λ (x : Kept). Leads net now (kept_of mid names queue) b2 (Deliver here.depth to inlet (selector_of m) (atoms_of m) ∷ []) x (one_less b2) (answered net here.depth to r here2.message))
      (sym (kept-with mid new names queue timers))
      (brief-leads net now (kept_of mid names queue) b2 here.depth to inlet (selector_of m) (atoms_of m) (states_of new) r here2.message uncut more less h.inner (h.heard names now two))))

  -- one box heard the message, and says nothing
  pub silent-relayed : (mid new : Patch) (here here2 : Saying) (after : List Task) → b2.cut ≡ false → 0 < b2.left → here.depth < 1000 → 2 ≤ length names → new.timers ≡ mid.timers
      → IsHeard net1 (states_of mid) (states_of new) here here2 reaction.Silent
      → Leads net now k b t (kept_of mid names queue) b2 (saying_tasks net here) → Relayed net now k b (t ++ after) (kept_of new names queue) (one_less b2) None after
  silent-relayed mid new here here2 after uncut more less two timers h leads =
      record {
        rest = [];
        is = refl;
        leads = leads-before net now k (kept_of new names queue) b (one_less b2) t [] after
            (heard-leads mid new here here2 reaction.Silent uncut more less two timers
            (subst (λ (n : Net). IsHeard n (states_of mid) (states_of new) here here2 reaction.Silent) same h) leads);
      }

  -- or says a brief message in its turn
  pub says-leads : (mid new : Patch) (here here2 : Saying) → b2.cut ≡ false → 0 < b2.left → here.depth < 1000 → 2 ≤ length names → new.timers ≡ mid.timers
      → IsHeard net1 (states_of mid) (states_of new) here here2 reaction.Says
      → Leads net now k b t (kept_of mid names queue) b2 (saying_tasks net here) → Leads net now k b t (kept_of new names queue) (one_less b2) (saying_tasks net here2)
  says-leads mid new here here2 uncut more less two timers h leads =
      let h2 : IsHeard net (states_of mid) (states_of new) here here2 reaction.Says = subst (λ (n : Net). IsHeard n (states_of mid) (states_of new) here here2 reaction.Says) same h in
      subst (λ (x : Saying). Leads net now k b t (kept_of new names queue) (one_less b2) (saying_tasks net x)) (sym (h2.says refl))
      (heard-leads mid new here here2 reaction.Says uncut more less two timers h2 leads)

-- how a box stands that is lent by its parts
pub deeper-same : (n : ℕ) (here here2 : Saying) → here2.node ≡ here.node → here2.message ≡ here.message → here2.depth ≡ here.depth → deeper n here2 ≡ deeper n here
deeper-same n here here2 node message depth =
    ap (λ (x : ℕ). saying_at (here2.depth + n) x here2.message) node ∙ ap (λ (m : Brief). saying_at (here2.depth + n) here.node m) message ∙ ap (λ (d : ℕ). saying_at (d + n) here.node here.message) depth

-- one delivery more is spent
pub one-more : (n n2 : ℕ) (b : Budget) → n2 ≡ n + 1 → one_less (spent n b) ≡ spent n2 b
one-more n n2 b is = let e : b.left - n - 1 ≡ b.left - n2 = rw is (omega arith) in ap (λ (l : ℕ). record { left = l; cut = b.cut }) e

-- of those that were set aside, the ones that are left are given back
pub given-back : (most turns : ℕ) (b lent : Budget) → turns ≤ most → most ≤ b.left → lent ≡ record { left = b.left - most; cut = b.cut }
    → record { left = lent.left + turns; cut = lent.cut } ≡ spent (most - turns) b
given-back most turns b lent few within is =
    let e : b.left - most + turns ≡ b.left - (most - turns) = omega (arith, few, within) in
    ap (λ (x : Budget). record { left = x.left + turns; cut = x.cut }) is ∙ ap (λ (l : ℕ). record { left = l; cut = b.cut }) e

-- and what is said lies one deeper
pub more-leads : (net : Net) (now : ℕ) (k k2 : Kept) (b : Budget) (t : List Task) (n n2 : ℕ) (depth node : ℕ) (m : Brief) → n2 ≡ n + 1
    → Leads net now k b t k2 (one_less (spent n b)) (saying_tasks net (saying_at (depth + n + 1) node m))
    → Leads net now k b t k2 (spent n2 b) (saying_tasks net (deeper n2 (saying_at depth node m)))
more-leads net now k k2 b t n n2 depth node m is leads =
    let d : depth + n + 1 ≡ depth + n2 = rw is (omega arith) in
    subst (λ (x : Budget). Leads net now k b t k2 x (saying_tasks net (saying_at (depth + n2) node m))) (one-more n n2 b is)
    (subst (λ (x : ℕ). Leads net now k b t k2 (one_less (spent n b)) (saying_tasks net (saying_at x node m))) d leads)

-- what is relayed, and what stands on a pile then
pub goes-with : (net : Net) (now : ℕ) (k k2 : Kept) (b b2 : Budget) (t tasks : List Task) (r : Rest) (pile : Pile)
    → Relayed net now k b (t ++ []) k2 b2 (Some r) []
    → ((here : List Task) → GoesAlong net r.depth (selector_of r.message) (atoms_of r.message) (Some r.hop) here → LeftOn net pile (here ++ tasks))
    → GoesFrom net now k b t k2 b2 pile tasks
goes-with net now k k2 b b2 t tasks r pile rel push = record { rest = rel.rest; left = push rel.rest rel.is; leads = leads-alone net now k k2 b b2 t rel.rest rel.leads }

pub goes-without : (net : Net) (now : ℕ) (k k2 : Kept) (b b2 : Budget) (t tasks : List Task) (pile : Pile) → Relayed net now k b (t ++ []) k2 b2 None [] → LeftOn net pile tasks → GoesFrom net now k b t k2 b2 pile tasks
goes-without net now k k2 b b2 t tasks pile rel left =
    record { rest = rel.rest; left = subst (λ (l : List Task). LeftOn net pile (l ++ tasks)) (sym rel.is) left; leads = leads-alone net now k k2 b b2 t rel.rest rel.leads }

-- a box goes on, and its bang is relayed
module _ (net net1 net2 : Net) (same : net1 ≡ net) (same2 : net2 ≡ net) (now : ℕ) (k k2 : Kept) (b b2 b3 : Budget) (names : Names) (queue : Waiting) (old mid : Patch) (depth node : ℕ) (here : Saying) where
  again-on : b2.cut ≡ false → 0 < b2.left → depth < 1000 → here ≡ record { node = node; depth = depth + 1; message = brief.Bang } → mid.timers ≡ old.timers
      → is_outlet (kind_in (net1.nodes node)) ≡ false → record { states = states_of mid; names = names; said = again } ≡ resumed_at net1 (states_of old) names node
      → Leads net now k b (resumption depth node) (kept_of old names queue) b2 (resumption depth node)
      → Leads net now k b (resumption depth node) (kept_of mid names queue) (one_less b2) (saying_tasks net here ++ resumption depth node)
  again-on uncut more less at timers inner goes leads =
      leads-then net now k (kept_of old names queue) (kept_of mid names queue) b b2 (one_less b2) (resumption depth node) (resumption depth node) (saying_tasks net here ++ resumption depth node) leads
      (subst (λ (x : Saying). Leads net now (kept_of old names queue) b2 (resumption depth node) (kept_of mid names queue) (one_less b2) (saying_tasks net x ++ resumption depth node)) (sym at)
      (subst (λ (x : Kept). Leads net now (kept_of old names queue) b2 (resumption depth node) x (one_less b2) (brief_tasks net (depth + 1) node brief.Bang ++ resumption depth node)) (sym (kept-with old mid names queue timers))
      (again-leads net now (kept_of old names queue) b2 depth node (states_of mid) uncut more less
      (subst (λ (n : Net). is_outlet (kind_in (n.nodes node)) ≡ false) same inner)
      (subst (λ (n : Net). record { states = states_of mid; names = names; said = again } ≡ resumed_at n (states_of old) names node) same goes))))

  pub again-relayed : (o : Option Rest) → b2.cut ≡ false → 0 < b2.left → depth < 1000 → here ≡ record { node = node; depth = depth + 1; message = brief.Bang } → mid.timers ≡ old.timers
      → is_outlet (kind_in (net1.nodes node)) ≡ false → record { states = states_of mid; names = names; said = again } ≡ resumed_at net1 (states_of old) names node
      → Leads net now k b (resumption depth node) (kept_of old names queue) b2 (resumption depth node)
      → Relayed net2 now (kept_of mid names queue) (one_less b2) (saying_tasks net2 here ++ resumption depth node) k2 b3 o (resumption depth node)
      → Relayed net now k b (resumption depth node) k2 b3 o (resumption depth node)
  again-relayed o uncut more less at timers inner goes leads rel =
      let r = subst (λ (n : Net). Relayed n now (kept_of mid names queue) (one_less b2) (saying_tasks n here ++ resumption depth node) k2 b3 o (resumption depth node)) same2 rel in
      record {
        rest = r.rest;
        is = r.is;
        leads = leads-then net now k (kept_of mid names queue) k2 b (one_less b2) b3 (resumption depth node) (saying_tasks net here ++ resumption depth node) (r.rest ++ resumption depth node)
            (again-on uncut more less at timers inner goes leads) r.leads;
      }

-- nothing is left of its bang: it is resumed again
pub again-done : (net : Net) (now : ℕ) (k k2 : Kept) (b b2 : Budget) (t after : List Task) → Relayed net now k b t k2 b2 None after → Leads net now k b t k2 b2 after
again-done net now k k2 b b2 t after rel = subst (λ (l : List Task). Leads net now k b t k2 b2 (l ++ after)) rel.is rel.leads

-- its resumption goes on the pile, and then what is left of its bang
pub again-goes : (net : Net) (now : ℕ) (k k2 : Kept) (b b2 : Budget) (t tasks : List Task) (depth node : ℕ) (r : Rest) (pile : Pile)
    → Relayed net now k b t k2 b2 (Some r) (resumption depth node)
    → ((here : List Task) → GoesAlong net r.depth (selector_of r.message) (atoms_of r.message) (Some r.hop) here → LeftOn net pile (here ++ (Resume depth node ∷ tasks)))
    → GoesFrom net now k b t k2 b2 pile tasks
again-goes net now k k2 b b2 t tasks depth node r pile rel push =
    record {
      rest = rel.rest ++ resumption depth node;
      left = subst (λ (l : List Task). LeftOn net pile l) (sym (append_assoc rel.rest (resumption depth node) tasks)) (push rel.rest rel.is);
      leads = rel.leads;
    }

-- a task that is a brief message
module _ (net : Net) (now : ℕ) (old new : Patch) (names : Names) (queue : Waiting) (budget : Budget) (p : Place) (depth node inlet selector : ℕ) (atoms lent : List Atom) (m m2 : Brief) (r : Reaction) where
  pub task-leads : budget.cut ≡ false → 0 < budget.left → depth < 1000 → is_outlet (kind_in (net.nodes node)) ≡ false → new.timers ≡ old.timers
      → p ≡ place.Inlet node inlet → selector ≡ selector_of m → lent ≡ atoms → lent ≡ atoms_of m
      → record { states = states_of new; names = names; said = said_of r m2 } ≡ heard_at net now (states_of old) names node inlet (selector_of m) (atoms_of m)
      → Leads net now (kept_of old names queue) budget (doing p depth selector atoms ∷ []) (kept_of new names queue) (one_less budget) (answered net depth node r m2)
  task-leads uncut more less inner timers is is_selector is_lent is_atoms heard =
      let t : doing p depth selector atoms ≡ Deliver depth node inlet (selector_of m) (atoms_of m)
      = ap (λ (x : Place). doing x depth selector atoms) is ∙ ap (λ (s : ℕ). Deliver depth node inlet s atoms) is_selector
      ∙ ap (λ (l : List Atom). Deliver depth node inlet (selector_of m) l) (sym is_lent ∙ is_atoms) in
      subst (λ (x : Task). Leads net now (kept_of old names queue) budget (x ∷ []) (kept_of new names queue) (one_less budget) (answered net depth node r m2)) (sym t)
      (subst (λ (x : Kept). Leads net now (kept_of old names queue) budget (Deliver depth node inlet (selector_of m) (atoms_of m) ∷ []) x (one_less budget) (answered net depth node r m2))
      (sym (kept-with old new names queue timers))
      (brief-leads net now (kept_of old names queue) budget depth node inlet (selector_of m) (atoms_of m) (states_of new) r m2 uncut more less inner heard))

pub task-silent : (net : Net) (now : ℕ) (k k2 : Kept) (b b2 : Budget) (t : Task) (pile : Pile) (tasks : List Task) → Leads net now k b (t ∷ []) k2 b2 [] → LeftOn net pile tasks → GoesFrom net now k b (t ∷ []) k2 b2 pile tasks
task-silent net now k k2 b b2 t pile tasks leads left = record { rest = []; left = left; leads = leads }

-- a task, and then what stands on a pile
pub task-goes : (net net1 : Net) (now : ℕ) (k k1 k2 : Kept) (b b1 b2 : Budget) (t : Task) (depth node : ℕ) (m : Brief) (old pile : Pile) (tasks : List Task) → net1 ≡ net
    → Leads net now k b (t ∷ []) k1 b1 (brief_tasks net (depth + 1) node m)
    → (LeftOn net1 old tasks → GoesFrom net1 now k1 b1 (brief_tasks net1 (depth + 1) node m) k2 b2 pile tasks)
    → LeftOn net old tasks → GoesFrom net now k b (t ∷ []) k2 b2 pile tasks
task-goes net net1 now k k1 k2 b b1 b2 t depth node m old pile tasks same leads goes left =
    let g = subst (λ (n : Net). LeftOn n old tasks → GoesFrom n now k1 b1 (brief_tasks n (depth + 1) node m) k2 b2 pile tasks) same goes left in
    record { rest = g.rest; left = g.left; leads = leads-then net now k k1 k2 b b1 b2 (t ∷ []) (brief_tasks net (depth + 1) node m) g.rest leads g.leads }

pub place-goes : (net : Net) (now : ℕ) (k k2 : Kept) (b b2 : Budget) (p : Place) (depth node selector : ℕ) (atoms : List Atom) (pile : Pile) (tasks : List Task) → p ≡ place.Again node
    → GoesFrom net now k b (resumption depth node) k2 b2 pile tasks → GoesFrom net now k b (doing p depth selector atoms ∷ []) k2 b2 pile tasks
place-goes net now k k2 b b2 p depth node selector atoms pile tasks is goes =
    subst (λ (x : Place). GoesFrom net now k b (doing x depth selector atoms ∷ []) k2 b2 pile tasks) (sym is) goes

-- the last part of a list
last-part : (xs ys : List Atom) (a b : ℕ) → a ≡ length xs → b ≡ length (xs ++ ys) → slice_range (xs ++ ys) a b ≡ ys
last-part xs ys a b e f =
    between_is (xs ++ ys) a b ∙ ap (λ (i : ℕ). drop i (take b (xs ++ ys))) e ∙ ap (λ (i : ℕ). drop (length xs) (take i (xs ++ ys))) f
    ∙ ap (λ (l : List Atom). drop (length xs) l) (take-length (xs ++ ys)) ∙ drop-append_seam xs ys

-- what is left of a send of a brief message, on a pile
pub brief-pushed : (net : Net) (old mid new : Pile) (r : Rest) (selector floor after : ℕ) (here tasks : List Task) → AllLie (length old.atoms) old.pendings
    → mid ≡ record { pendings = old.pendings; atoms = old.atoms ++ atoms_of r.message } → floor ≡ length old.atoms → after ≡ length mid.atoms → selector ≡ selector_of r.message
    → new ≡ record { pendings = record { depth = r.depth; cursor = Wires (Some r.hop); selector = selector; first = floor; after = after; floor = floor } ∷ mid.pendings; atoms = mid.atoms }
    → GoesAlong net r.depth (selector_of r.message) (atoms_of r.message) (Some r.hop) here → LeftOn net old tasks → LeftOn net new (here ++ tasks)
brief-pushed net old mid new r selector floor after here tasks lie is_mid is_floor is_after is_selector is_new goes left =
    let more : List Atom = atoms_of r.message in
    let all : after ≡ length (old.atoms ++ more) = is_after ∙ ap (λ (p : Pile). length p.atoms) is_mid in
    let message : slice_range (old.atoms ++ more) floor after ≡ more = last-part old.atoms more floor after is_floor all in
    let first : GoesAlong net r.depth selector (slice_range (old.atoms ++ more) floor after) (Some r.hop) here
    = subst (λ (l : List Atom). GoesAlong net r.depth selector l (Some r.hop) here) (sym message) (subst (λ (s : ℕ). GoesAlong net r.depth s more (Some r.hop) here) (sym is_selector) goes) in
    let below : AreLeft net (old.atoms ++ more) old.pendings tasks = left-agree net (length old.atoms) old.atoms (old.atoms ++ more) old.pendings tasks (more-agree old.atoms more) lie left in
    subst (λ (p : Pile). LeftOn net p (here ++ tasks)) (sym is_new)
    (subst (λ (p : Pile). LeftOn net (record { pendings = record { depth = r.depth; cursor = Wires (Some r.hop); selector = selector; first = floor; after = after; floor = floor } ∷ p.pendings; atoms = p.atoms }) (here ++ tasks))
    (sym is_mid) (record { here = here; later = tasks; first = first; then = below; is = refl }))

-- a walk that is under way goes on
pub relays : (net : Net) (now : ℕ) (kept kept2 : Kept) (budget budget2 : Budget) (before taken : Option (List ℕ)) (held : List ℕ) (final : World Kept) (pile pile2 : Pile) (t : Task)
    → IsUnderWay net now kept budget pile (t ∷ []) before taken held final
    → ((tasks : List Task) → LeftOn net pile tasks → GoesFrom net now kept budget (t ∷ []) kept2 budget2 pile2 tasks)
    → IsUnderWay net now kept2 budget2 pile2 [] before taken held final
relays net now kept kept2 budget budget2 before taken held final pile pile2 t way goes =
    let g = goes way.tasks way.left in
    record {
      said = way.said;
      tasks = g.rest ++ way.tasks;
      is_said = way.is_said;
      left = g.left;
      same = sym (g.leads way.said way.tasks) ∙ way.same;
    }

-- nothing changed
pub passed : (net net2 : Net) (now : ℕ) (kept kept2 : Kept) (budget budget2 : Budget) (pile pile2 : Pile) (t : List Atom → Task) (before taken : Option (List ℕ)) (held : List ℕ) (final : World Kept)
    → net2 ≡ net → kept2 ≡ kept → budget2 ≡ budget → pile2 ≡ pile → IsUnderWay net now kept budget pile (t pile.atoms ∷ []) before taken held final
    → IsUnderWay net2 now kept2 budget2 pile2 (t pile2.atoms ∷ []) before taken held final
passed net net2 now kept kept2 budget budget2 pile pile2 t before taken held final same keeps left stack way =
    subst (λ (n : Net). IsUnderWay n now kept2 budget2 pile2 (t pile2.atoms ∷ []) before taken held final) (sym same)
    (subst (λ (k : Kept). IsUnderWay net now k budget2 pile2 (t pile2.atoms ∷ []) before taken held final) (sym keeps)
    (subst (λ (b : Budget). IsUnderWay net now kept b pile2 (t pile2.atoms ∷ []) before taken held final) (sym left)
    (subst (λ (p : Pile). IsUnderWay net now kept budget p (t p.atoms ∷ []) before taken held final) (sym stack) way)))
