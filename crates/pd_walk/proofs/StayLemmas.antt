-- Boxes that keep something go on to keep something.
use Rattle.std.proofs.Common.{◌≡◌, ℕ, ℤ, Bool, true, false, cond, eqb, List, refl, sym, subst}
use Rattle.std.proofs.lemmas.Bool.{eqb-true}
use Rattle.std.specs.Prelude.{Option, Some, None, IsSome, option_map}
use Rattle.pd_atom.specs.Names.{Names}
use Rattle.pd_atom.specs.declared.Atom.{Atom}
use Rattle.pd_kind.specs.declared.states.State.{State}
use Rattle.pd_kind.specs.declared.messages.Deed.{Deed}
use Rattle.pd_kind.specs.declared.messages.Deed.TheVariants as deed
use Rattle.pd_kind.specs.Tables.{with_value}
use Rattle.pd_grove.specs.Telling.{kind_in}
use Rattle.pd_hearing.specs.Worlds.{Net, Kept, set_at}
use Rattle.pd_hearing.specs.Hearing.{Reply, table_named, table_owner, heard_with, heard_at, resumed_with, resumed_at}
use Rattle.pd_hearing.specs.Deeds.{written_at, written, done}
use Rattle.pd_walk.specs.Outcome.{StatesStay}

abbrev States : Type 0
States = ℕ → Option State

pub all-stay : (s : States) → StatesStay s s
all-stay s = record { stay = λ k some. some }

pub stay-then : (a b c : States) → StatesStay a b → StatesStay b c → StatesStay a c
stay-then a b c f g = record { stay = λ k some. g.stay k (f.stay k some) }

-- something is set at one key
set-some : (t : Bool) (o p : Option State) → (t ≡ true → IsSome p) → IsSome o → IsSome (cond t p o)
set-some true o p is some = is refl
set-some false o p is some = some

set-stay : (s : States) (node : ℕ) (o : Option State) → IsSome o → StatesStay s (set_at s node o)
set-stay s node o is = record { stay = λ k some. set-some (eqb k node) (s k) o (λ e. is) some }

-- a box hears, or is resumed
heard-with-stay : (net : Net) (now : ℕ) (s : States) (names : Names) (node inlet selector : ℕ) (atoms : List Atom) (o : Option State)
    → StatesStay s (heard_with net now s names node inlet selector atoms o).states
heard-with-stay net now s names node inlet selector atoms None = all-stay s
heard-with-stay net now s names node inlet selector atoms (Some x) = set-stay s node _ refl

pub heard-stay : (net : Net) (now : ℕ) (s : States) (names : Names) (node inlet selector : ℕ) (atoms : List Atom) (r : Reply) → r ≡ heard_at net now s names node inlet selector atoms
    → StatesStay s r.states
unfolding heard_at
heard-stay net now s names node inlet selector atoms r is =
    subst (λ (x : Reply). StatesStay s x.states) (sym is) (heard-with-stay net now s names node inlet selector atoms (s node))

resumed-with-stay : (net : Net) (s : States) (names : Names) (node : ℕ) (o : Option State) → StatesStay s (resumed_with net s names node o).states
resumed-with-stay net s names node None = all-stay s
resumed-with-stay net s names node (Some x) = set-stay s node _ refl

pub resumed-stay : (net : Net) (s : States) (names : Names) (node : ℕ) (r : Reply) → r ≡ resumed_at net s names node → StatesStay s r.states
unfolding resumed_at
resumed-stay net s names node r is = subst (λ (x : Reply). StatesStay s x.states) (sym is) (resumed-with-stay net s names node (s node))

-- a value of a table is set
value-some : (index : ℕ) (value : ℤ) (o : Option State) → IsSome o → IsSome (option_map (λ s. with_value s index value) o)
value-some index value None some = some
value-some index value (Some s) some = refl

same-key : (s : States) (index : ℕ) (value : ℤ) (k node : ℕ) (t : Bool) → eqb k node ≡ t → IsSome (s k) → IsSome (cond t (option_map (λ x. with_value x index value) (s node)) (s k))
same-key s index value k node true e some = value-some index value (s node) (subst (λ (j : ℕ). IsSome (s j)) (eqb-true k node e) some)
same-key s index value k node false e some = some

written-at-stay : (s : States) (index : ℕ) (value : ℤ) (owner : Option ℕ) → StatesStay s (written_at s index value owner)
written-at-stay s index value None = all-stay s
written-at-stay s index value (Some node) = record { stay = λ k some. same-key s index value k node (eqb k node) refl some }

written-stay : (net : Net) (s : States) (index : ℕ) (value : ℤ) (name : Option ℕ) → StatesStay s (written net s index value name)
written-stay net s index value None = all-stay s
written-stay net s index value (Some name) = written-at-stay s index value (table_owner net name)

done-with-stay : (net : Net) (now node : ℕ) (d : Deed) (kept : Kept) → StatesStay kept.states (done net now node d kept).states
unfolding done
done-with-stay net now node (deed.SetClock milliseconds) kept = all-stay kept.states
done-with-stay net now node deed.ClearClock kept = all-stay kept.states
done-with-stay net now node (deed.WriteTable index value) kept = written-stay net kept.states index value (table_named (kind_in (net.nodes node)))
done-with-stay net now node deed.Nothing kept = all-stay kept.states
done-with-stay net now node deed.Print kept = all-stay kept.states
done-with-stay net now node deed.Again kept = all-stay kept.states

pub done-stay : (net : Net) (now node : ℕ) (d : Deed) (kept kept2 : Kept) → kept2 ≡ done net now node d kept → StatesStay kept.states kept2.states
done-stay net now node d kept kept2 is = subst (λ (x : Kept). StatesStay kept.states x.states) (sym is) (done-with-stay net now node d kept)
