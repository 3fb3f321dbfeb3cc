-- What was taken of a part of a run, and then of another.
use Rattle.std.proofs.Common.{◌≡◌, ℕ, ◌++◌, refl, ◌∙◌, subst, arith, List, [], Option}
use Rattle.std.proofs.lemmas.List.{append-nil}
use Rattle.pd_io.specs.Stream.{grown}
use Rattle.pd_stage.specs.Items.{Item, said}
use Rattle.pd_stage.specs.Stages.{Taken}
use Rattle.pd_stage.specs.Lawful.{GoByFolder}
use Rattle.pd_stage.specs.Leads.{Sinks, sinks, Took}
use Rattle.pd_say.proofs.GatheringLemmas.{printed_nothing}
use Rattle.pd_stage.proofs.ItemLemmas.{said-none}
use Rattle.pd_stage.proofs.LeadLemmas.{folder_both, took_then, took_said}

-- nothing was taken
pub took_nothing : (x : Sinks) → Took x x [] []
took_nothing x =
    subst (λ (i : List Item). Took x x i []) said-none (took_said x.lines x.lines x.samples x.looks x.held x.faults [] (printed_nothing x.lines [] refl))

-- edits went by what a folder held, and others by what it held behind them
pub folder_on : (x y : Sinks) (a : List Item) (l m : List Taken) → Took x y a l → GoByFolder x.held l → GoByFolder y.held m → GoByFolder x.held (l ++ m)
folder_on x y a l m took h k = folder_both x.held y.held l m took.leaves h k

-- ---- a line

-- the same where the sink of lines has taken this
abbrev pub with_lines : Sinks → Option (List ℕ) → Sinks
with_lines x t = sinks t x.samples x.looks x.held x.faults

line_took : (x : Sinks) (t : Option (List ℕ)) (b : List ℕ) → t ≡ grown x.lines b → Took x (with_lines x t) (said b) []
line_took x t b e = took_said x.lines t x.samples x.looks x.held x.faults b e

-- and then a line was said
pub took_line : (x y : Sinks) (t : Option (List ℕ)) (a : List Item) (l : List Taken) (b : List ℕ) → Took x y a l → t ≡ grown y.lines b → Took x (with_lines y t) (a ++ said b) l
took_line x y t a l b h e =
    subst (λ (m : List Taken). Took x (with_lines y t) (a ++ said b) m) (append-nil l) (took_then x y (with_lines y t) a (said b) l [] h (line_took y t b e))

-- no line was said
pub took_no_line : (x y : Sinks) (t : Option (List ℕ)) (a : List Item) (l : List Taken) → Took x y a l → t ≡ y.lines → Took x (with_lines y t) a l
took_no_line x y t a l h e =
    record { lines_are = e ∙ h.lines_are; samples_are = h.samples_are; few_looks = h.few_looks; held_are = h.held_are; leaves = h.leaves; few_faults = h.few_faults }

-- ---- looks

-- the same with no looks: nobody reads them
abbrev pub without_looks : Sinks → Sinks
without_looks x = sinks x.lines x.samples 0 x.held x.faults

pub took_without : (x y : Sinks) (a : List Item) (l : List Taken) → Took x y a l → Took (without_looks x) (without_looks y) a l
took_without x y a l h = record {
  lines_are = h.lines_are;
  samples_are = h.samples_are;
  few_looks = omega arith;
  held_are = h.held_are;
  leaves = h.leaves;
  few_faults = h.few_faults;
}
