-- Steps of growth: what each gives or why growth ends there, and what it leaves.
use Rattle.std.specs.Prelude.{ℕ, zero, suc, ◌+◌, ◌-◌, List, [], ◌∷◌, length, Result, Ok, Err, if◌then◌else◌, nat_lt}
use Rattle.pd_atom.specs.declared.Atom.{Atom}
use Rattle.pd_atom.specs.Names.{Names, Outcome, given, refused, longest, interned}
use Rattle.pd_atom.specs.Expansion.{expanded}
use Rattle.pd_atom.specs.declared.SymbolRefusal.{SymbolRefusal}
use Rattle.pd_growth.specs.declared.growing.Stop.{Stop}
use Rattle.pd_growth.specs.declared.growing.Stop.TheVariants.{SymbolsFull, TooManyBoxes}

-- what growth has at hand: the names so far, the `$0` numbers still to be given, and how many boxes there may still be
pub record Stock : Type 0 where
  pub names : Names
  pub zeros : List ℕ
  pub room : ℕ

-- what a step gives, or why growth ends there, and the stock after it
pub record Step (A : Type 0) : Type 0 where
  pub answer : Result A Stop
  pub stock : Stock

abbrev pub gives : {A : Type 0} → A → Stock → Step A
gives a w = record { answer = Ok a; stock = w }

abbrev pub ends : {A : Type 0} → Stop → Stock → Step A
ends e w = record { answer = Err e; stock = w }

abbrev pub goes_on : {A B : Type 0} → Result A Stop → Stock → (A → Stock → Step B) → Step B
goes_on (Ok a) w f = f a w
goes_on (Err e) w f = ends e w

-- one step, and then another that takes what the first gave
infixl 10 ◌>>=◌
abbrev pub ◌>>=◌ : {A B : Type 0} → Step A → (A → Stock → Step B) → Step B
s >>= f = goes_on s.answer s.stock f

abbrev pub with_names : Names → Stock → Stock
with_names names w = record { names = names; zeros = w.zeros; room = w.room }

-- what an answer that may need a name is for growth: it ends where the table is full
abbrev pub named_answer : {A : Type 0} → Result A SymbolRefusal → Stock → Step A
named_answer (Ok a) w = gives a w
named_answer (Err e) w = ends SymbolsFull w

abbrev pub named_step : {A : Type 0} → Outcome A → Stock → Step A
named_step o w = named_answer o.answer (with_names o.names w)

-- a box more: the last one for which there is no room ends growth
abbrev pub box_by_room : ℕ → Stock → Step (Unit {0})
box_by_room zero w = ends TooManyBoxes w
box_by_room (suc n) w = gives tt (record { names = w.names; zeros = w.zeros; room = n })

abbrev pub counted : Stock → Step (Unit {0})
counted w = box_by_room w.room w

-- the next `$0`: growth ends where there is none
abbrev pub number_from : List ℕ → Stock → Step ℕ
number_from [] w = ends TooManyBoxes w
number_from (z ∷ zs) w = gives z (record { names = w.names; zeros = zs; room = w.room })

abbrev pub numbered : Stock → Step ℕ
numbered w = number_from w.zeros w

-- a name is brought, but for one that is too long, which is bound to nothing
abbrev pub brought : List ℕ → Stock → Step (Unit {0})
brought name w = if nat_lt longest (length name) then gives tt w else (named_step (interned w.names name) w >>= (λ _ v. gives tt v))

-- one outcome, and then another that takes what the first gave
abbrev pub outcome_after : {A B : Type 0} → Result A SymbolRefusal → Names → (A → Names → Outcome B) → Outcome B
outcome_after (Ok a) names f = f a names
outcome_after (Err e) names f = refused e names

abbrev pub outcome_then : {A B : Type 0} → Outcome A → (A → Names → Outcome B) → Outcome B
outcome_then o f = outcome_after o.answer o.names f

-- a text with its dollars replaced, where `$0` is `own`
unfoldable pub text_expanded : ℕ → List Atom → List Atom → Names → Outcome (List Atom)
text_expanded own args [] names = given [] names
text_expanded own args (a ∷ atoms) names =
    outcome_then (expanded names a own args) (λ e more. outcome_then (text_expanded own args atoms more) (λ bs all. given (e.atom ∷ bs) all))

-- the `$0` numbers from one on, up to the greatest
unfoldable pub numbers_up : ℕ → ℕ → List ℕ
numbers_up n zero = []
numbers_up n (suc k) = n ∷ numbers_up (n + 1) k

unfoldable pub zeros_from : ℕ → List ℕ
zeros_from n = numbers_up n (1000000001 - n)

-- a growth that begins with these names and this `$0`: it may have 16,384 boxes
abbrev pub beginning : Names → ℕ → Stock
beginning names n = record { names = names; zeros = zeros_from n; room = 16384 }
