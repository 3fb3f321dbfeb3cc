-- Changes and turns as contracts see them: an element by its entry.
use Rattle.std.specs.Prelude.{ℕ, ◌<◌, ◌≤◌, List, [], ◌∷◌, length, IsSomeAnd}
use Rattle.pd_canvas.specs.declared.wires.Wire.{Wire}
use Rattle.pd_canvas.specs.declared.turns.Change.{Change}
use Rattle.pd_canvas.specs.declared.turns.Change.TheVariants as change
use Rattle.pd_canvas.specs.declared.turns.Turn.{Turn}
use Rattle.pd_canvas.specs.Pages.{Page, Entry, elements_of}
use Rattle.pd_canvas.specs.Views.{entry_of}
use Rattle.pd_canvas.specs.Paths.{along, change_box, edit_at}
use Rattle.pd_canvas.specs.Edits.{with_wires, without}
use Rattle.pd_canvas.specs.Turns.{put_in, LeavesRoom}

-- a change of a page
pub data Act : Type 0 where
  Put : ℕ → Entry → Act
  Take : ℕ → Act
  Swap : ℕ → Entry → Act
  Wires : List Wire → Act

abbrev pub act_of : Change → Act
act_of (change.Put number element) = Put number (entry_of element)
act_of (change.Take number) = Take number
act_of (change.Swap number element) = Swap number (entry_of element)
act_of (change.Wires wires) = Wires wires

-- an act, and the path to the page that it changes
pub record Placed : Type 0 where
  pub path : List ℕ
  pub act : Act

abbrev pub placed : Turn → Placed
placed t = record { path = t.path; act = act_of t.change }

-- the page after an act
abbrev pub acted : Act → Page → Page
acted (Put n e) p = put_in n e p
acted (Take n) p = without n p
acted (Swap n e) p = change_box n (λ _. e) p
acted (Wires ws) p = with_wires ws p

-- the document after a turn, and after turns one by one
abbrev pub done : Placed → Page → Page
done t d = edit_at t.path (acted t.act) d

abbrev pub all_done : List Placed → Page → Page
all_done [] d = d
all_done (t ∷ ts) d = all_done ts (done t d)

-- the box that an act names is there, or the place for it
abbrev pub IsThere : Act → Page → Type 0
IsThere (Put n e) p = n ≤ length (elements_of p)
IsThere (Take n) p = n < length (elements_of p)
IsThere (Swap n e) p = n < length (elements_of p)
IsThere (Wires ws) p = Unit {0}

-- where a box comes in, the wires leave room for higher numbers
abbrev pub HasRoom : Act → Page → Type 0
HasRoom (Put n e) p = LeavesRoom p.wires
HasRoom (Take n) p = Unit {0}
HasRoom (Swap n e) p = Unit {0}
HasRoom (Wires ws) p = Unit {0}

-- the paths and the numbers of turns are there, each in its turn
abbrev pub AreThere : List Placed → Page → Type 0
AreThere [] d = Unit {0}
AreThere (t ∷ ts) d = IsSomeAnd (along t.path d) (IsThere t.act) × AreThere ts (done t d)

-- the wires leave room, each in its turn
abbrev pub HaveRoom : List Placed → Page → Type 0
HaveRoom [] d = Unit {0}
HaveRoom (t ∷ ts) d = IsSomeAnd (along t.path d) (HasRoom t.act) × HaveRoom ts (done t d)
