-- Some wires at a box go, or room is set aside: each box stays, and what is said of the wires to inlets and of blocks is still so.
use Rattle.std.proofs.Common.{◌≡◌, ℕ, ℤ, List, [], ◌∷◌, IsSome, refl, sym, ap, subst}
use Rattle.std.specs.List.{AllByRecursion}
use Rattle.slab.specs.Slab.{get}
use Rattle.pd_grove.specs.declared.grove.Grove.{Grove}
use Rattle.pd_grove.specs.declared.ports.Side.TheVariants.{Outlets}
use Rattle.pd_web.specs.Hops.{ports_told}
use Rattle.pd_patch.specs.declared.patch.Patch.{Patch}
use Rattle.pd_patch.specs.Fed.{AreFed}
use Rattle.pd_patch.specs.Values.{Blocks, block_at, blocks_told}
use Rattle.pd_wiring.specs.Changes.{SameButRoom}
use Rattle.pd_taking.specs.Loosening.{Gone, AreGone, Loosens}
use Rattle.pd_guards.specs.Sounds.{AreValues}
use Rattle.pd_sized.specs.Sizes.{IsBlock}
use Rattle.pd_steady.specs.Steady.{HasRows}
use Rattle.pd_stage.proofs.FedLemmas.{same_fed}
use Rattle.pd_steady.proofs.KeyLemmas.{KeepsBoxes, same_row}
use Rattle.pd_steady.proofs.LessLemmas.{cut_fed}

-- one after the other
gone_fed : (box : ℕ) (p : Patch) (gone : List Gone) (q : Patch) → AreGone box p gone q → AreFed p.web → AreFed q.web
gone_fed box p [] q e h = subst (λ (x : Patch). AreFed x.web) (sym e) h
gone_fed box p (x ∷ xs) q g h = cut_fed x.before.web q.web x.key g.0.done.cuts (gone_fed box p xs x.before g.1 h)

-- the boxes stay, with their outlets and the blocks of these
module _ (p q : Patch) (grove : q.grove ≡ p.grove) (values : q.values ≡ p.values) (ports : (k : ℕ) → ports_told q.web Outlets k ≡ ports_told p.web Outlets k) where
  same_blocks : blocks_told q ≡ blocks_told p
  same_blocks = rw values refl

  pub still_blocks : HasRows p.web (blocks_told p) → HasRows q.web (blocks_told q)
  still_blocks h k o l = subst (λ (b : Blocks). IsSome (block_at b k o)) (sym same_blocks) (h k o (same_row p.web q.web k o (ports k) l))

  pub still_all : (P : List ℤ → Type 0) → AllByRecursion (AllByRecursion P) (blocks_told p) → AllByRecursion (AllByRecursion P) (blocks_told q)
  still_all P h = subst (AllByRecursion (AllByRecursion P)) (sym same_blocks) h

  still_keeps : (AreFed p.web → AreFed q.web) → KeepsBoxes p q
  still_keeps fed = record {
    nodes = λ k. ap (λ (g : Grove). get g.nodes k) grove;
    fed = fed;
    blocks = still_blocks;
    values = still_all AreValues;
    sizes = still_all IsBlock;
  }

pub loose_keeps : (p q : Patch) (box steps steps' : ℕ) → Loosens p q box steps steps' → KeepsBoxes p q
loose_keeps p q box steps steps' l = still_keeps p q l.rest.grove l.rest.values (l.web.kept.ports Outlets) (gone_fed box p l.gone q l.one_by_one)

-- room was set aside
pub web_room_keeps : (p q : Patch) → SameButRoom p q → KeepsBoxes p q
web_room_keeps p q room = still_keeps p q room.grove room.values (room.web.kept.ports Outlets) (same_fed p.web q.web room.web)
