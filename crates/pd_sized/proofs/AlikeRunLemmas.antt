-- Messages leave what boxes keep of the same objects, and so does a whole delivery.
use Rattle.std.proofs.Common.{◌≡◌, ℕ, ℤ, List, [], Option, Some, option_map, refl, ap, ◌∙◌}
use Rattle.pd_atom.specs.Names.{Names}
use Rattle.pd_atom.specs.declared.Atom.{Atom}
use Rattle.pd_object.specs.declared.kinds.Kind.{Kind}
use Rattle.pd_kind.specs.declared.messages.Deed.{Deed}
use Rattle.pd_kind.specs.declared.states.State.{State}
use Rattle.pd_kind.specs.Fit.{blank}
use Rattle.pd_glue.specs.Rows.{resumed}
use Rattle.pd_turns.specs.Turns.{World}
use Rattle.pd_hearing.specs.Worlds.{Net, Kept}
use Rattle.pd_hearing.specs.Hearing.{heard_kind, heard_at, resumed_at}
use Rattle.pd_hearing.specs.Deeds.{done}
use Rattle.pd_walk.specs.declared.walker.Budget.{Budget}
use Rattle.pd_walk.specs.declared.walker.Start.{Start}
use Rattle.pd_walk.specs.Outcome.{world, outcome, IsLeft}
use Rattle.pd_keeping_law.specs.Changes.{Sayings, anything, Becomes, same, further, Passes, absent, kept, AllBecome}
use Rattle.pd_keeping_law.proofs.ChangeLemmas.{any_said}
use Rattle.pd_keeping_law.proofs.RunLemmas.{kind_becomes, again_becomes, at_becomes, resumed_at-becomes, done_becomes, outcome_becomes, left_becomes}
use Rattle.pd_sized.specs.Alike.{IsAlike, AreAlike}

-- what a box may keep after messages is of the same objects
becomes_alike : {Said : Sayings} {s t : State} → Becomes Said s t → IsAlike s t
becomes_alike same = refl
becomes_alike (further r q) = becomes_alike q ∙ becomes_alike r
becomes_alike r = refl

pub passes_alike : (R : State → State → Type 0) → ((s t : State) → R s t → IsAlike s t) → {o p : Option State} → Passes R o p → option_map blank p ≡ option_map blank o
passes_alike R f absent = refl
passes_alike R f (kept {s = s} {t = t} r) = ap Some (f s t r)

all_alike : (old new : ℕ → Option State) → AllBecome anything old new → AreAlike old new
all_alike old new r k = passes_alike (Becomes anything) (λ s t q. becomes_alike q) (r k)

pub kind_alike : (names : Names) (s : State) (inlet selector : ℕ) (atoms : List Atom) (now : ℕ) (table : Option (List ℤ)) (k : Kind) → IsAlike s (heard_kind names k s inlet selector atoms now table).state
kind_alike names s inlet selector atoms now table k = becomes_alike (kind_becomes anything names s inlet selector atoms now table (any_said names selector atoms) k)

pub again_alike : (k : Kind) (s : State) → IsAlike s (resumed k s).state
again_alike k s = becomes_alike (again_becomes anything k s)

-- among the boxes of a patch
pub onward : (old new later : ℕ → Option State) → AreAlike old new → AreAlike new later → AreAlike old later
onward old new later a b k = b k ∙ a k

pub at_alike : (net : Net) (names : Names) (states : ℕ → Option State) (node now inlet selector : ℕ) (atoms : List Atom) → AreAlike states (heard_at net now states names node inlet selector atoms).states
at_alike net names states node now inlet selector atoms =
    all_alike states (heard_at net now states names node inlet selector atoms).states (at_becomes anything net names states node now inlet selector atoms (any_said names selector atoms))

pub resumed_at-alike : (net : Net) (names : Names) (states : ℕ → Option State) (node : ℕ) → AreAlike states (resumed_at net states names node).states
resumed_at-alike net names states node = all_alike states (resumed_at net states names node).states (resumed_at-becomes anything net names states node)

pub done_alike : (net : Net) (now node : ℕ) (d : Deed) (kept : Kept) → AreAlike kept.states (done net now node d kept).states
done_alike net now node d before = all_alike before.states (done net now node d before).states (done_becomes anything net now node d before)

-- deliveries
pub outcome_alike : (net : Net) (now : ℕ) (w : World Kept) (s : Start) → AreAlike w.kept.states (outcome net now w s).kept.states
outcome_alike net now w s = all_alike w.kept.states (outcome net now w s).kept.states (outcome_becomes net now w s)

pub left_alike : (net : Net) (now : ℕ) (before after : Kept) (budget rest : Budget) (s : Start) (old new : Option (List ℕ)) → IsLeft after rest old new (outcome net now (world before budget []) s)
    → AreAlike before.states after.states
left_alike net now before after budget rest s old new left = all_alike before.states after.states (left_becomes net now before after budget rest s old new left)
