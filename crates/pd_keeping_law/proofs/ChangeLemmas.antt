-- What is kept as boxes change, and changes among the boxes of a patch.
use Rattle.std.proofs.Common.{◌≡◌, ℕ, ◌==◌, Bool, true, false, cond, List, [], ◌∷◌, slice_get, Option, Some, None, IfSome, refl, sym, subst}
use Rattle.std.proofs.lemmas.Bool.{eqb-true}
use Rattle.std.specs.List.{AllByRecursion}
use Rattle.pd_atom.specs.Names.{Names}
use Rattle.pd_atom.specs.declared.Atom.{Atom}
use Rattle.pd_atom.specs.declared.Atom.TheVariants as atom
use Rattle.pd_kind.specs.declared.states.State.{State}
use Rattle.pd_message.specs.Rows.{edited}
use Rattle.pd_hearing.specs.Worlds.{set_at}
use Rattle.pd_keeping_law.specs.Changes.{Sayings, said_by, anything, Becomes, same, further, RunsOn, silent, later, Passes, absent, kept, AllPass}
use Rattle.pd_keeping_law.proofs.FactLemmas.{all-from}

-- an atom is no number, or one that is said
abbrev pub IsNumberSaid : Sayings → Atom → Type 0
IsNumberSaid Said (atom.Number z) = Said.numbers z
IsNumberSaid Said a = Unit {0}

-- all that a message says
pub record IsSaid (Said : Sayings) (names : Names) (selector : ℕ) (atoms : List Atom) : Type 0 where
  pub numbers : AllByRecursion (IsNumberSaid Said) atoms
  pub edits : (text : List Atom) → Said.edits text (edited names text selector atoms).text

among_some : (names : Names) (selector : ℕ) (atoms : List Atom) (i : ℕ) (o : Option Atom) → slice_get atoms i ≡ o → IfSome o (IsNumberSaid (said_by names selector atoms))
among_some names selector atoms i None e = tt
among_some names selector atoms i (Some (atom.Number z)) e = (i, e)
among_some names selector atoms i (Some a) e = tt

pub message_said : (names : Names) (selector : ℕ) (atoms : List Atom) → IsSaid (said_by names selector atoms) names selector atoms
message_said names selector atoms =
    record {
      numbers = all-from (IsNumberSaid (said_by names selector atoms)) atoms (λ i. among_some names selector atoms i (slice_get atoms i) refl);
      edits = λ text. refl;
    }

any_number : (a : Atom) → IsNumberSaid anything a
any_number (atom.Number z) = tt
any_number a = tt

any_numbers : (atoms : List Atom) → AllByRecursion (IsNumberSaid anything) atoms
any_numbers [] = tt
any_numbers (a ∷ atoms) = (any_number a, any_numbers atoms)

pub any_said : (names : Names) (selector : ℕ) (atoms : List Atom) → IsSaid anything names selector atoms
any_said names selector atoms = record { numbers = any_numbers atoms; edits = λ text. tt }

-- changes that may be none, and one after another
pub record IsChain (R : State → State → Type 0) : Type 0 where
  pub stays : (s : State) → R s s
  pub on : (s t u : State) → R s t → R t u → R s u

pub becoming : (Said : Sayings) → IsChain (Becomes Said)
becoming Said = record { stays = λ s. same; on = λ s t u r q. further r q }

pub running : IsChain RunsOn
running = record { stays = λ s. silent; on = λ s t u r q. later r q }

-- what holds of all that is kept before such changes, where each leaves it, holds after them
passes_kept : (R : State → State → Type 0) (P : State → Type 0) → ((s t : State) → R s t → P s → P t) → {o p : Option State} → Passes R o p → IfSome o P → IfSome p P
passes_kept R P f absent h = h
passes_kept R P f (kept {s = s} {t = t} r) h = f s t r h

pub all_kept : (R : State → State → Type 0) (P : State → Type 0) → ((s t : State) → R s t → P s → P t) → (old new : ℕ → Option State) → AllPass R old new → ((k : ℕ) → IfSome (old k) P)
    → (k : ℕ) → IfSome (new k) P
all_kept R P f old new r h k = passes_kept R P f (r k) (h k)

module _ (R : State → State → Type 0) (chain : IsChain R) where
  pub still : (o : Option State) → Passes R o o
  still None = absent
  still (Some s) = kept (chain.stays s)

  pub all_still : (states : ℕ → Option State) → AllPass R states states
  all_still states k = still (states k)

  passes_on : {o p q : Option State} → Passes R o p → Passes R p q → Passes R o q
  passes_on absent r = r
  passes_on (kept {s = s} {t = t} r) (kept {t = u} q) = kept (chain.on s t u r q)

  pub onward : (old new last : ℕ → Option State) → AllPass R old new → AllPass R new last → AllPass R old last
  onward old new last a b k = passes_on (a k) (b k)

  -- one box among the others
  set_by : (b : Bool) (o x old : Option State) → (b ≡ true → Passes R old o) → Passes R old x → Passes R old (cond b o x)
  set_by true o x old f r = f refl
  set_by false o x old f r = r

  same_at : (states : ℕ → Option State) (j node : ℕ) (o : Option State) → Passes R (states node) o → (j == node) ≡ true → Passes R (states j) o
  same_at states j node o r e = subst (λ (n : ℕ). Passes R (states n) o) (sym (eqb-true j node e)) r

  pub set_passes : (states : ℕ → Option State) (node : ℕ) (o : Option State) → Passes R (states node) o → AllPass R states (set_at states node o)
  set_passes states node o r j = set_by (j == node) o (states j) (states j) (same_at states j node o r) (still (states j))

  -- the same where others changed while that one was out
  out_by : (b : Bool) (o x old : Option State) → (b ≡ true → Passes R old o) → Passes R (cond b None old) x → Passes R old (cond b o x)
  out_by true o x old f r = f refl
  out_by false o x old f r = r

  pub back_passes : (states changed : ℕ → Option State) (node : ℕ) (o : Option State) → AllPass R (set_at states node None) changed → Passes R (states node) o → AllPass R states (set_at changed node o)
  back_passes states changed node o a r j = out_by (j == node) o (changed j) (states j) (same_at states j node o r) (a j)

  pub box_passes : (o : Option State) (s t : State) → o ≡ Some s → R s t → Passes R o (Some t)
  box_passes o s t e r = subst (λ (x : Option State). Passes R x (Some t)) (sym e) (kept r)
