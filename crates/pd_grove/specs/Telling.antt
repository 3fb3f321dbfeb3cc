-- What a grove tells by its keys.
use Rattle.std.specs.Prelude.{◌≡◌, ◌≢◌, ℕ, List, [], ◌∷◌, Option, slice_get, option_map, option_and_then}
pub use Rattle.pd_grove.specs.Keys.{keys_in}
use Rattle.slab.specs.Slab.{get}
use Rattle.pd_object.specs.declared.kinds.Kind.{Kind}
use Rattle.pd_kind.specs.declared.states.State.{State}
use Rattle.pd_grove.specs.declared.nodes.Node.{Node}
use Rattle.pd_grove.specs.declared.grove.Grove.{Grove}

abbrev pub kind_in : Option Node → Option Kind
kind_in o = option_map (λ n. n.kind) o

abbrev pub inner_in : Option Node → Option ℕ
inner_in o = option_and_then (λ n. n.inner) o

abbrev pub state_in : Option Node → Option State
state_in o = option_and_then (λ n. n.state) o

-- the canvas in the box of a number of a canvas
abbrev pub step_in : Grove → ℕ → ℕ → Option ℕ
step_in g canvas number = option_and_then (λ k. inner_in (get g.nodes k)) (slice_get (keys_in (get g.boards canvas)) number)

-- where a path of box numbers leads from a canvas, where there is one
abbrev pub reached : Grove → Option ℕ → List ℕ → Option ℕ
reached g here [] = here
reached g here (n ∷ path) = reached g (option_and_then (λ canvas. step_in g canvas n) here) path

-- the box with another state
abbrev pub with_state : Option State → Node → Node
with_state s n =
    record { board = n.board; element = n.element; text = n.text; kind = n.kind; fault = n.fault; state = s; inner = n.inner }

-- the box of a key keeps this, and all else stays
pub record Keeps (old new : Grove) (k : ℕ) (s : Option State) : Type 0 where
  pub node : get new.nodes k ≡ option_map (with_state s) (get old.nodes k)
  pub others : (j : ℕ) → j ≢ k → get new.nodes j ≡ get old.nodes j
  pub boards : new.boards ≡ old.boards
  pub labels : new.labels ≡ old.labels
  pub root : new.root ≡ old.root
