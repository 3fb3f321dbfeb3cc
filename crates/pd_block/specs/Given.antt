-- What comes to a box, and what that makes of it where it stands.
use Rattle.std.specs.Prelude.{◌≡◌, ⊤, ℕ, ℤ, Bool, true, false, List, [], ◌∷◌, take, slice_get, Option, Some, None, IsSome}
use Rattle.pd_object.specs.declared.kinds.Kind.{Kind}
use Rattle.pd_kind.specs.declared.states.State.{State}
use Rattle.pd_kind.specs.States.{silent_block}
use Rattle.pd_grove.specs.declared.nodes.Node.{Node}
use Rattle.pd_grove.specs.Telling.{state_in, with_state}
use Rattle.pd_patch.specs.Values.{Blocks}
use Rattle.pd_turn.specs.declared.sizes.Few.{Few}
use Rattle.pd_turn.specs.Held.{held_block}
use Rattle.pd_turn.specs.Sizes.{few_of}
use Rattle.pd_turn.specs.Rows.{Ran, still, is_osc, own_ran}
use Rattle.pd_web.specs.declared.web.Web.{Web}
use Rattle.pd_web.specs.Hops.{feed_hops}
use Rattle.pd_block.specs.Inlets.{inlet_blocks}
use Rattle.pd_block.specs.Nets.{set_at}

-- the first blocks are those that come to the inlets of a box, where its ports are few and what it keeps is in
abbrev pub few_brought : Web → Blocks → ℕ → State → Option Few → List (List ℤ) → Type 0
few_brought web blocks node st None ins = ⊤
few_brought web blocks node st (Some few) ins = take few.inlets ins ≡ inlet_blocks web blocks node few.inlets st

abbrev pub state_brought : Web → Blocks → ℕ → Kind → Option State → List (List ℤ) → Type 0
state_brought web blocks node k None ins = ⊤
state_brought web blocks node k (Some st) ins = few_brought web blocks node st (few_of k) ins

abbrev pub AreBrought : Web → Blocks → ℕ → Option Node → List (List ℤ) → Type 0
AreBrought web blocks node None ins = ⊤
AreBrought web blocks node (Some n) ins = state_brought web blocks node n.kind n.state ins

-- a box runs with these; one whose ports aren't few keeps what it kept, and is silent
abbrev pub few_given : ℕ → Kind → State → Option Few → List (List ℤ) → Ran
few_given start k st None ins = still st
few_given start k st (Some few) ins = own_ran start k st (take few.inlets ins)

-- the box then, and the block of its outlet
pub record BoxRan : Type 0 where
  pub node : Node
  pub block : List ℤ

abbrev pub box_by : Node → Ran → BoxRan
box_by n r = record { node = with_state (Some r.state) n; block = r.block }

abbrev pub state_given : ℕ → Node → Option State → List (List ℤ) → BoxRan
state_given start n None ins = record { node = n; block = silent_block }
state_given start n (Some st) ins = box_by n (few_given start n.kind st (few_of n.kind) ins)

abbrev pub box_given : ℕ → Node → List (List ℤ) → BoxRan
box_given start n ins = state_given start n n.state ins

-- what all boxes keep then
pub record Given : Type 0 where
  pub states : ℕ → Option State
  pub block : List ℤ

abbrev pub given_by : (ℕ → Option State) → ℕ → BoxRan → Given
given_by states node r = record { states = set_at states node r.node.state; block = r.block }

abbrev pub given_at : ℕ → (ℕ → Option State) → ℕ → Option Node → List (List ℤ) → Given
given_at start states node None ins = record { states = states; block = silent_block }
given_at start states node (Some n) ins = given_by states node (box_given start n ins)

-- whether a box is there and is an `osc~`
abbrev pub is_osc_in : Option Node → Bool
is_osc_in None = false
is_osc_in (Some n) = is_osc n.kind

-- a box is an `osc~`, it has what it keeps, and no wire comes to its inlet
pub record IsUnfed (web : Web) (node : ℕ) (o : Option Node) : Type 0 where
  pub osc : is_osc_in o ≡ true
  pub there : IsSome (state_in o)
  pub unfed : slice_get (feed_hops web node 0) 0 ≡ None

-- what comes to its inlet then: the number that this holds, in each sample
abbrev pub held_blocks : Option State → List (List ℤ)
held_blocks None = []
held_blocks (Some st) = held_block st ∷ []
