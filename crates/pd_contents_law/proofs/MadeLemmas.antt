-- What boxes keep when they are made.
use Rattle.std.proofs.Common.{◌≡◌, ℕ, Option, Some, None, IfSome, refl, sym, subst}
use Rattle.std.specs.Option.{option_map_or}
use Rattle.slab.specs.Slab.{get}
use Rattle.pd_atom.specs.Names.{Names}
use Rattle.pd_clock.specs.declared.times.Rate.{Rate}
use Rattle.pd_clock.specs.declared.times.Rate.TheVariants.{R44100}
use Rattle.pd_object.specs.declared.kinds.Arith.{Arith}
use Rattle.pd_object.specs.declared.kinds.Arith.TheVariants as arith_kind
use Rattle.pd_object.specs.declared.kinds.Glue.{Glue}
use Rattle.pd_object.specs.declared.kinds.Glue.TheVariants as glue
use Rattle.pd_object.specs.declared.kinds.Kind.{Kind}
use Rattle.pd_object.specs.declared.kinds.Kind.TheVariants as kind
use Rattle.pd_object.specs.declared.kinds.Panel.{Panel}
use Rattle.pd_object.specs.declared.kinds.Panel.TheVariants as panel
use Rattle.pd_object.specs.declared.kinds.Signal.{Signal}
use Rattle.pd_object.specs.declared.kinds.Signal.TheVariants as signal
use Rattle.pd_object.specs.declared.kinds.Tone.{Tone}
use Rattle.pd_object.specs.declared.kinds.Tone.TheVariants as tone
use Rattle.pd_kind.specs.declared.states.State.{State}
use Rattle.pd_kind.specs.declared.states.State.TheVariants as state
use Rattle.pd_kind.specs.Fit.{fixed_count}
use Rattle.pd_kind.specs.States.{start_of, arith_start, glue_start, tone_start, signal_start, panel_start}
use Rattle.pd_kind.specs.Tables.{started}
use Rattle.pd_grove.specs.declared.nodes.Node.{Node}
use Rattle.pd_grove.specs.States.{NodesFresh}
use Rattle.pd_grove.specs.Telling.{kind_in, state_in}
use Rattle.pd_patch.specs.declared.patch.Patch.{Patch}
use Rattle.pd_hearing.specs.Worlds.{states_of}
use Rattle.pd_contents_law.specs.Contents.{HasContents, HaveContents, count_of, counts_of, IsGlueSettled, IsKindSettled, AreKindsSettled}

module _ (names : Names) where
  arith_contents : (n : ℕ) (a : Arith) → HasContents n names (arith_start a)
  arith_contents n (arith_kind.Operation o z) = tt
  arith_contents n a = tt

  glue_contents : (g : Glue) (rate : Rate) → IsGlueSettled names g → HasContents (fixed_count (glue_start g R44100)) names (glue_start g rate)
  glue_contents (glue.Message text) rate h = h
  glue_contents (glue.Array text values) rate h = refl
  glue_contents (glue.Table name z) rate h = refl
  glue_contents g rate h = tt

  tone_contents : (n : ℕ) (t : Tone) (rate : Rate) → HasContents n names (tone_start t rate)
  tone_contents n (tone.Phasor z) rate = tt
  tone_contents n t rate = tt

  signal_contents : (n : ℕ) (g : Signal) (rate : Rate) → HasContents n names (signal_start g rate)
  signal_contents n (signal.Sig z) rate = tt
  signal_contents n g rate = tt

  panel_contents : (n : ℕ) (p : Panel) → HasContents n names (panel_start p)
  panel_contents n (panel.Bng button) = tt
  panel_contents n (panel.Tgl toggle) = tt

  start_contents : (k : Kind) (rate : Rate) → IsKindSettled names k → HasContents (count_of k) names (start_of k rate)
  start_contents (kind.Arith a) rate h = arith_contents (count_of (kind.Arith a)) a
  start_contents (kind.Glue g) rate h = glue_contents g rate h
  start_contents (kind.Tone t) rate h = tone_contents (count_of (kind.Tone t)) t rate
  start_contents (kind.Signal g) rate h = signal_contents (count_of (kind.Signal g)) g rate
  start_contents (kind.Panel p) rate h = panel_contents (count_of (kind.Panel p)) p
  start_contents k rate h = tt

  started_contents : (n : ℕ) (s : State) (now : ℕ) → HasContents n names s → HasContents n names (started s now)
  started_contents n (state.Timer reset rate) now h = tt
  started_contents n s now h = h

  pub made_contents : (k : Kind) (rate : Rate) (now : ℕ) → IsKindSettled names k → HasContents (count_of k) names (started (start_of k rate) now)
  made_contents k rate now h = started_contents (count_of k) (start_of k rate) now (start_contents k rate h)

  node_contents : (rate : Rate) (now : ℕ) (kinds : ℕ → Option Kind) (k : ℕ) (o : Option Node) → kinds k ≡ kind_in o → ((n : Node) → o ≡ Some n → n.state ≡ Some (started (start_of n.kind rate) now))
      → IfSome (kinds k) (IsKindSettled names) → IfSome (state_in o) (HasContents (counts_of kinds k) names)
  node_contents rate now kinds k None e fresh h = tt
  node_contents rate now kinds k (Some n) e fresh h =
      subst (λ (s : Option State). IfSome s (HasContents (counts_of kinds k) names)) (sym (fresh n refl))
      (subst (λ (o : Option Kind). HasContents (option_map_or count_of o 0) names (started (start_of n.kind rate) now)) (sym e)
      (made_contents n.kind rate now (subst (λ (o : Option Kind). IfSome o (IsKindSettled names)) e h)))

  pub grown_contents : (Own : ℕ → Type 0) (p : Patch) (rate : Rate) (now : ℕ) → NodesFresh rate now (get p.grove.nodes) → AreKindsSettled Own names (λ k. kind_in (get p.grove.nodes k)) → HaveContents Own (counts_of (λ k. kind_in (get p.grove.nodes k))) names (states_of p)
  grown_contents Own p rate now fresh h k own = node_contents rate now (λ k. kind_in (get p.grove.nodes k)) k (get p.grove.nodes k) refl (λ n e. fresh k n e) (h k own)
