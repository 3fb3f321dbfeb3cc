-- An edit that moves a box leaves a steady stage steady, where a tree and its owners stand after it.
use Rattle.std.proofs.Common.{◌≡◌, inl, inr, ◌<◌, ℕ, ℤ, List, [], Option, Some, None, IsSome, option_map, refl, sym, subst}
use Rattle.pd_regrowth_law.proofs.StepLemmas.{extends_same}
use Rattle.pd_grove.specs.declared.nodes.Node.{Node}
use Rattle.pd_grove.specs.Refits.{at_place}
use Rattle.pd_grove.specs.Telling.{kind_in, state_in}
use Rattle.pd_web.specs.declared.web.Web.{Web}
use Rattle.pd_patch.specs.declared.patch.Patch.{Patch}
use Rattle.pd_patch.specs.Fed.{AreFed}
use Rattle.pd_patch.specs.Values.{Blocks, block_at, blocks_told}
use Rattle.pd_stage.specs.PassedOn.{Shifts, ShiftsPort, ShiftsBox, MovesBox, MovedBox}
use Rattle.pd_hearing.specs.Worlds.{bare}
use Rattle.pd_stage.specs.Choices.{Made, Choice, Makes}
use Rattle.pd_stage.specs.Stages.{Stage, with_ahead}
use Rattle.pd_stage.specs.Events.{stage_by}
use Rattle.pd_stage.specs.Lawful.{IsMovedTo}
use Rattle.pd_steady.specs.Steady.{HasRows, IsSteady}
use Rattle.pd_steady.proofs.AlikeLemmas.{KeepsAlike, altered_alike, alike_steady}
use Rattle.pd_steady.proofs.KeyLemmas.{KeepsBoxes}
use Rattle.pd_steady.proofs.LooseLemmas.{web_room_keeps}
use Rattle.pd_steady.proofs.NewLemmas.{once_fed}
use Rattle.pd_steady.proofs.PutLemmas.{standing, is_standing, named_is}
use Rattle.pd_engine.proofs.TreeLemmas.{HasBoth}

-- at another place a box keeps what it kept, and is of the same kind
same_state : (x y : ℤ) (o : Option Node) → state_in (option_map (at_place x y) o) ≡ state_in o
same_state x y None = refl
same_state x y (Some n) = refl

same_kind : (x y : ℤ) (o : Option Node) → kind_in (bare (option_map (at_place x y) o)) ≡ kind_in (bare o)
same_kind x y None = refl
same_kind x y (Some n) = refl

itself_keeps : (p : Patch) → KeepsBoxes p p
itself_keeps p = record { nodes = λ k. refl; fed = λ h. h; blocks = λ h. h; values = λ h. h; sizes = λ h. h }

module _ (p q : Patch) (canvas key : ℕ) (x y : ℤ) where
  -- a box that is no port
  plain_alike : Shifts p q canvas key x y → KeepsAlike p q
  plain_alike s =
      altered_alike (at_place x y) (same_state x y) (same_kind x y) p p q key (itself_keeps p) s.box s.rest.values
      (λ few h. subst AreFed (sym s.rest.web) h)
      (λ h. subst (λ (b : Blocks). HasRows q.web b) (sym same_blocks) (subst (λ (w : Web). HasRows w (blocks_told p)) (sym s.rest.web) h))
    where
      same_blocks : blocks_told q ≡ blocks_told p
      same_blocks = rw (s.rest.values) refl

  -- a port of the box around
  port_alike : ShiftsPort p q canvas key x y → KeepsAlike p q
  port_alike s =
      altered_alike (at_place x y) (same_state x y) (same_kind x y) p s.ready q key (web_room_keeps p s.ready s.room) s.slid.box s.slid.rest.values
      (λ few h. once_fed q.web few (record { lines = s.slid.fed.lines; once = s.slid.fed.once }))
      (λ h k o l. subst (λ (b : Blocks). IsSome (block_at b k o)) (sym same_blocks) (h k o (subst (λ (n : ℕ). o < n) (s.slid.blocks k) l)))
    where
      same_blocks : blocks_told q ≡ blocks_told s.ready
      same_blocks = rw (s.slid.rest.values) refl

  shifted_alike : ShiftsBox p q canvas key x y → KeepsAlike p q
  shifted_alike (inl s) = plain_alike s
  shifted_alike (inr s) = port_alike s

pub moved_alike : (p q : Patch) (path : List ℕ) (number : ℕ) (x y : ℤ) (b : MovedBox) → MovesBox p q path number x y b → KeepsAlike p q
moved_alike p q path number x y b moves = shifted_alike p q b.canvas b.key x y moves.shifts

-- an edit that moved a box
pub move_steady : (most : ℕ) (s : Stage) (ahead : List Choice) (path : List ℕ) (number : ℕ) (x y : ℤ) (m : Made) → IsSteady most s → IsMovedTo (with_ahead s []) path number x y m
    → HasBoth (stage_by (with_ahead s ahead) (Makes m)) → IsSteady most (stage_by (with_ahead s ahead) (Makes m))
move_steady most s ahead path number x y m h moved tree =
    let is = named_is s moved.new s.names ahead m moved.net moved.states moved.names in
    let was : IsSteady most (standing s moved.old) = subst (IsSteady most) (is_standing s moved.old moved.stands.net moved.stands.states) h in
    subst (IsSteady most) (sym is)
    (alike_steady moved.old moved.new (moved_alike moved.old moved.new path number x y moved.box moved.moves) most s m.clocks s.names m.base ahead was (extends_same s.names)
    (subst HasBoth is tree))
