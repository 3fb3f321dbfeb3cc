-- When a document, what growth has at hand, and the boxes of a tree are in order.
use Rattle.std.specs.Prelude.{◌≡◌, ℕ, ◌<◌, ◌≤◌, ◌^◌, Option, Some}
use Rattle.std.specs.List.{AllByRecursion}
use Rattle.pd_atom.specs.Names.{Names}
use Rattle.pd_clock.specs.declared.times.Rate.{Rate}
use Rattle.pd_object.specs.declared.kinds.Kind.{Kind}
use Rattle.pd_kind.specs.States.{size_of, start_of}
use Rattle.pd_canvas.specs.declared.tree.Doc.{Doc}
use Rattle.pd_canvas.specs.Pages.{Shape, Array, Head, Boxes, End, Box}
use Rattle.pd_library.specs.declared.answers.Answer.{Answer}
use Rattle.pd_library.specs.declared.answers.Answer.TheVariants.{Found}
use Rattle.pd_tree.specs.Trees.{Trees, Done, Leaf, Holder}
use Rattle.pd_growth.specs.Steps.{Stock}
use Rattle.pd_guards.specs.Order.{IsNumber, HasFirst, IsList, IsKept, IsKind}
use Rattle.pd_guards.specs.Sounds.{HasValues}

-- A kind in order, of which a box keeps at first what is in order, where its table isn't too long, and values of signals in their range.
pub record IsBorn (names : Names) (k : Kind) : Type 0 where
  pub kind : IsKind names k
  pub kept : (now : ℕ) (rate : Rate) → size_of k rate < 2 ^ 32 → IsKept names now (start_of k rate)
  pub values : (rate : Rate) → HasValues (start_of k rate)

-- the boxes of a tree, and those inside them
abbrev pub AreBorn : Names → Trees → Type 0
AreBorn names Done = Unit {0}
AreBorn names (Leaf c rest) = IsBorn names c.kind × AreBorn names rest
AreBorn names (Holder c s inner rest) = IsBorn names c.kind × AreBorn names inner × AreBorn names rest

abbrev pub ValuesIn : Shape → Type 0
ValuesIn (Array values) = AllByRecursion IsNumber values
ValuesIn form = Unit {0}

-- a box of a document
pub record IsHeadIn (names : Names) (h : Head) : Type 0 where
  pub text : IsList names h.text
  pub values : ValuesIn h.form

abbrev pub BoxesIn : Names → Boxes → Type 0
BoxesIn names End = Unit {0}
BoxesIn names (Box h f inner rest) = IsHeadIn names h × BoxesIn names inner × BoxesIn names rest

-- the documents of a library
abbrev pub LibraryIn : Names → (ℕ → Option Answer) → Type 0
LibraryIn names lib = (s : ℕ) (d : Doc) → lib s ≡ Some (Found d) → BoxesIn names d.root.boxes

-- the table has its first names, and the `$0` numbers are at most 10^9
pub record StockIn (w : Stock) : Type 0 where
  pub first : HasFirst w.names
  pub zeros : AllByRecursion (λ z. z ≤ 1000000000) w.zeros
