-- What reading gives: a value, or the refusal that comes first.
use Rattle.std.specs.Prelude.{◌≡◌, ℕ, Bool, Result, Ok, Err, if◌then◌else◌}
use Rattle.pd_atom.specs.Names.{Names, Outcome}
use Rattle.pd_atom.specs.declared.SymbolRefusal.{SymbolRefusal}
use Rattle.pd_atom.specs.declared.SymbolRefusal.TheVariants as symbol
use Rattle.pd_doc.specs.declared.refusal.DocRefusal.{DocRefusal}
use Rattle.pd_doc.specs.declared.refusal.DocRefusal.TheVariants.{TooLong, SymbolsFull, NoMemory}

-- one step, and then another that takes what the first gave
infixl 10 ◌>>=◌
abbrev pub ◌>>=◌ : {A B : Type 0} → Result A DocRefusal → (A → Result B DocRefusal) → Result B DocRefusal
(Ok a) >>= f = f a
(Err e) >>= f = Err e

-- refuses where the test holds
abbrev pub refuse_if : Bool → DocRefusal → Result (Unit {0}) DocRefusal
refuse_if b e = if b then Err e else Ok tt

-- the refusal of a name in the record n
abbrev pub refusal_of : ℕ → SymbolRefusal → DocRefusal
refusal_of n symbol.TooLong = TooLong n
refusal_of n symbol.Full = SymbolsFull n

abbrev pub answer_in : {A : Type 0} → ℕ → Names → Result A SymbolRefusal → Result (A × Names) DocRefusal
answer_in n names (Ok a) = Ok (a, names)
answer_in n names (Err e) = Err (refusal_of n e)

-- what a call that may need a name gives in the record n, with the names after it
abbrev pub outcome_in : {A : Type 0} → ℕ → Outcome A → Result (A × Names) DocRefusal
outcome_in n o = answer_in n o.names o.answer

-- What a function returned, seen by view, is what reading gives, unless memory ran out.
abbrev pub Refuses : {B : Type 0} → DocRefusal → Result B DocRefusal → Type 0
Refuses NoMemory read = Unit {0}
Refuses e read = read ≡ Err e

abbrev pub Answers : {A B : Type 0} → (A → B) → Result A DocRefusal → Result B DocRefusal → Type 0
Answers view (Ok a) read = read ≡ Ok (view a)
Answers view (Err e) read = Refuses e read
