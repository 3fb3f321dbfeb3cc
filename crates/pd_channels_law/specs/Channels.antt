-- Texts of at most 1,024 atoms, and `dac~` with at most so many channels.
use Rattle.std.specs.Prelude.{◌≡◌, ℕ, ◌≤◌, length, Option, Some}
use Rattle.pd_object.specs.declared.kinds.Kind.{Kind}
use Rattle.pd_object.specs.declared.kinds.Kind.TheVariants as kind
use Rattle.pd_object.specs.Ports.{IsSmallSignal}
use Rattle.pd_canvas.specs.declared.tree.Doc.{Doc}
use Rattle.pd_canvas.specs.Pages.{Boxes, End, Box}
use Rattle.pd_library.specs.declared.answers.Answer.{Answer}
use Rattle.pd_library.specs.declared.answers.Answer.TheVariants.{Found}
use Rattle.pd_tree.specs.Trees.{Trees, Done, Leaf, Holder}
use Rattle.pd_grove.specs.declared.nodes.Node.{Node}

-- each box of a document has a text of at most 1,024 atoms, and so have those inside it
abbrev pub HasShortTexts : Boxes → Type 0
HasShortTexts End = Unit {0}
HasShortTexts (Box h f inner rest) = (length h.text ≤ 1024) × HasShortTexts inner × HasShortTexts rest

-- so has each document of a library
abbrev pub AreShort : (ℕ → Option Answer) → Type 0
AreShort lib = (s : ℕ) (d : Doc) → lib s ≡ Some (Found d) → HasShortTexts d.root.boxes

-- a `dac~` has at most 1,024 channels
abbrev pub HasFewChannels : Kind → Type 0
HasFewChannels (kind.Signal g) = IsSmallSignal g
HasFewChannels k = Unit {0}

-- so have those among the boxes of a tree
abbrev pub HaveFewChannels : Trees → Type 0
HaveFewChannels Done = Unit {0}
HaveFewChannels (Leaf c rest) = HasFewChannels c.kind × HaveFewChannels rest
HaveFewChannels (Holder c s inner rest) = HasFewChannels c.kind × HaveFewChannels inner × HaveFewChannels rest

-- and among those of a patch
abbrev pub NodesHaveFew : (ℕ → Option Node) → Type 0
NodesHaveFew nodes = (k : ℕ) (n : Node) → nodes k ≡ Some n → HasFewChannels n.kind
