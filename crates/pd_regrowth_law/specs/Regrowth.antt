-- What growth takes of what it has at hand, and when a step of it gives the same again.
use Rattle.std.specs.Prelude.{◌≡◌, ℕ, zero, suc, ◌+◌, List, ◌++◌, Option}
use Rattle.pd_atom.specs.Names.{Names, Extends}
use Rattle.pd_library.specs.declared.answers.Answer.{Answer}
use Rattle.pd_canvas.specs.Pages.{Entry}
use Rattle.pd_tree.specs.Trees.{Trees, Done, join}
use Rattle.pd_growth.specs.Making.{Around}
use Rattle.pd_growth.specs.Steps.{Stock, Step, gives, ◌>>=◌}
use Rattle.pd_growth.specs.Growth.{Inner, boxes_grown, page_grown}

-- from one stock to another: these `$0` numbers and so much room are taken, and the names may go on
pub record Takes (w : Stock) (numbers : List ℕ) (boxes : ℕ) (v : Stock) : Type 0 where
  pub zeros : w.zeros ≡ numbers ++ v.zeros
  pub room : w.room ≡ boxes + v.room
  pub names : Extends w.names v.names

-- the growth of the canvases inside one in which so many may lie in one another
abbrev pub inner_of : (ℕ → Option Answer) → List ℕ → ℕ → Inner
inner_of lib root zero = λ a p w. gives Done w
inner_of lib root (suc n) = page_grown lib root n

-- boxes that grow one after the other, and then further ones from the stock that those left
abbrev pub grown_in_parts : (ℕ → Option Answer) → List ℕ → ℕ → Inner → Around → List Entry → List Entry → Stock → Step Trees
grown_in_parts lib root left inner a es fs w = boxes_grown lib root left inner a es w >>= (λ first v.
    boxes_grown lib root left inner a fs v >>= (λ rest u. gives (join first rest) u))

abbrev pub stock : Names → List ℕ → ℕ → Stock
stock names zeros room = record { names = names; zeros = zeros; room = room }

-- In each table that goes on where this one ends, the step gives this again where it finds these numbers and so much room,
-- and leaves what comes after them.
abbrev pub GivesAgain : {A : Type 0} → (Stock → Step A) → A → Names → List ℕ → ℕ → Type 0
GivesAgain f a names numbers boxes = (names2 : Names) (more : List ℕ) (room : ℕ) → Extends names names2 →
    f (stock names2 (numbers ++ more) (boxes + room)) ≡ gives a (stock names2 more room)
