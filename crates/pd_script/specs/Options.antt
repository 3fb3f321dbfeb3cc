-- Reading that gives a value, or none.
use Rattle.std.specs.Prelude.{◌≡◌, Option, Some, None}

-- one step, and then another that takes what the first gave
infixl 10 ◌>>=◌
abbrev pub ◌>>=◌ : {A B : Type 0} → Option A → (A → Option B) → Option B
None >>= f = None
(Some a) >>= f = f a

-- what a function returned, seen by view, is what reading gives
abbrev pub Gives : {A B : Type 0} → (A → B) → Option A → Option B → Type 0
Gives view None read = read ≡ None
Gives view (Some a) read = read ≡ Some (view a)
