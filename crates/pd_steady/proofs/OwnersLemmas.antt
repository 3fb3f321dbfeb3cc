-- In a run in which each edit is lawful and each table of names that is read goes on, a tree goes on to stand with its owners, and boxes keep what is of
-- their kinds: so the owners of names go on serving.
use Rattle.std.proofs.Common.{◌≡◌, inl, inr, ◌+◌, ◌-◌, ℕ, zero, suc, Bool, true, false, nat_lt, nat_le, if◌then◌else◌, List, [], ◌∷◌, Option, Some, None, option_map, refl, sym, ap, subst, ◌∙◌}
use Rattle.slab.specs.Slab.{get}
use Rattle.pd_io.specs.declared.files.FileRow.{FileRow}
use Rattle.pd_atom.specs.Names.{Names, Extends}
use Rattle.pd_canvas.specs.Pages.{Page}
use Rattle.pd_clock.specs.declared.times.Rate.{Rate}
use Rattle.pd_clock.specs.Queue.{Clock}
use Rattle.pd_kind.specs.declared.states.State.{State}
use Rattle.pd_script.specs.declared.commands.Command.{Command}
use Rattle.pd_script.specs.declared.commands.Command.TheVariants as command
use Rattle.pd_grove.specs.declared.nodes.Node.{Node}
use Rattle.pd_grove.specs.Telling.{kind_in}
use Rattle.pd_turns.specs.Turns.{World}
use Rattle.pd_walk.specs.Outcome.{all_loaded}
use Rattle.pd_hearing.specs.Worlds.{Net, Kept, bare, net_of, states_of}
use Rattle.pd_patch.specs.declared.patch.Patch.{Patch}
use Rattle.pd_regrowth_law.proofs.StepLemmas.{extends_same}
use Rattle.pd_sized.specs.Alike.{AreAlike}
use Rattle.pd_sized.specs.Kinds.{blank_of, KeepsOfKind}
use Rattle.pd_sized.proofs.KindLemmas.{made_of_kind}
use Rattle.pd_sized.proofs.AlikeRunLemmas.{outcome_alike}
use Rattle.pd_sized.proofs.AlikeBlockLemmas.{block_alike}
use Rattle.pd_stage.specs.Choices.{Base, Wanted, Choice}
use Rattle.pd_stage.specs.Lawful.{AreLawful}
use Rattle.pd_stage.proofs.LeadLemmas.{lawful_first, lawful_second}
use Rattle.pd_stage.proofs.EditLemmas.{ButWires, but_wires, Alters, HasNewBox, HasLostBox, HasMovedBox, HasRetypedBox, HasMoreRoom}
use Rattle.pd_stage.specs.Stages.{Stage, Passage, with_names, with_ahead, still, followed_by}
use Rattle.pd_stage.specs.Events.{Beginning, Firing, Left, going_on, begun, delivered, with_kept, with_net, event, edit_event}
use Rattle.pd_stage.specs.Times.{block_units, most_fired, next_clock, taken_off, with_taken, with_fired, fires, fires_or_not, fires_below, clocks_fire, block_net, sound_at, played_at, with_played, block_sounds, block_runs, blocks_run, with_time, time_is, comes_to, advanced, finished}
use Rattle.pd_engine.specs.Commands.{commanded}
use Rattle.pd_engine.specs.Opening.{Grows, first_stage, opened}
use Rattle.pd_steady.specs.Runs.{own_ways, finished_by}
use Rattle.pd_steady.specs.Steps.{Step, Does, Learns, Comes, step_by, steps_by, LearnsOn, NamesGoOn, run_by}
use Rattle.pd_steady.specs.Serving.{OwnersServe}
use Rattle.pd_steady.proofs.EventLemmas.{start_of as start_at, outcome_is, loads_alike, loads_extend}
use Rattle.pd_steady.proofs.ExtendLemmas.{outcome_extends}
use Rattle.pd_steady.proofs.FairLemmas.{lawful_fair, event_keeps, edit_event_keeps}
use Rattle.pd_steady.proofs.ComeLemmas.{IsFirst, come_new}
use Rattle.pd_steady.proofs.AlikeLemmas.{alike_objects}
use Rattle.pd_steady.proofs.NewLemmas.{HasNew, new_objects}
use Rattle.pd_steady.proofs.LessLemmas.{left_objects}
use Rattle.pd_steady.proofs.TakeLemmas.{taken_less}
use Rattle.pd_steady.proofs.MoveLemmas.{moved_alike}
use Rattle.pd_steady.proofs.PutLemmas.{fresh_objects}
use Rattle.pd_steady.proofs.RetypeLemmas.{retyped_objects}
use Rattle.pd_steady.proofs.OwnLemmas.{commanded_own, advanced_own, finished_own}
use Rattle.pd_steady.proofs.StandLemmas.{tree_serves}
use Rattle.pd_engine.proofs.TreeLemmas.{HasBoth, altered_both}
use Rattle.pd_engine.proofs.WholeLemmas.{both_on, first_both}

-- all boxes of a stage keep what is of their kinds
abbrev AreOfKinds : Stage → Type 0
AreOfKinds s = KeepsOfKind (λ k. kind_in (s.net.nodes k)) s.states

-- a tree stands with its owners, and boxes keep what is of their kinds
pub record IsServing (s : Stage) : Type 0 where
  pub owned : HasBoth s
  pub kinds : AreOfKinds s

-- so it is after a part of a run whose edits are lawful
abbrev Goes : Stage → Passage → Type 0
Goes s p = IsServing s → AreLawful p.edits → IsServing p.stage

then_goes : (s : Stage) (p : Passage) (next : Stage → Passage) → Goes s p → Goes p.stage (next p.stage) → Goes s (followed_by p next)
then_goes s p next a b h l = b (a h (lawful_first p.edits (next p.stage).edits l)) (lawful_second p.edits (next p.stage).edits l)

if_goes : (b : Bool) (s : Stage) (p q : Passage) → Goes s p → Goes s q → Goes s (if b then p else q)
if_goes true s p q f g = f
if_goes false s p q f g = g

-- where the boxes are the same, and what they keep is of the same objects
alike_kinds : (s r : Stage) → ((k : ℕ) → kind_in (r.net.nodes k) ≡ kind_in (s.net.nodes k)) → AreAlike s.states r.states → AreOfKinds s → AreOfKinds r
alike_kinds s r kinds alike h k = alike k ∙ h k ∙ ap (option_map blank_of) (sym (kinds k))

wires_kinds : (s r : Stage) → ButWires s r → AreOfKinds s → AreOfKinds r
wires_kinds s r e h = subst AreOfKinds (sym e.is) h

-- a box that came, with all that lies in it
box_kinds : (s r : Stage) → HasNewBox s r → AreOfKinds s → AreOfKinds r
box_kinds s r x h =
    let put = x.put in
    let p = put.old in
    let q = put.new in
    let a = put.adds.added in
    let new : HasNew p q (IsFirst p s.time a) = come_new p q s.time a put.box.key put.adds.put in
    let was : KeepsOfKind (λ k. kind_in ((net_of p).nodes k)) (states_of p) =
    subst (λ (y : ℕ → Option State). KeepsOfKind (λ k. kind_in ((net_of p).nodes k)) y) put.stands.states
    (subst (λ (y : Net). KeepsOfKind (λ k. kind_in (y.nodes k)) s.states) put.stands.net h) in
    let now : KeepsOfKind (λ k. kind_in (x.made.net.nodes k)) x.made.states =
    subst (λ (y : ℕ → Option State). KeepsOfKind (λ k. kind_in (x.made.net.nodes k)) y) (sym put.states)
    (subst (λ (y : Net). KeepsOfKind (λ k. kind_in (y.nodes k)) (states_of q)) (sym put.net)
    (new_objects p q (IsFirst p s.time a) new (λ k n f. fresh_objects n p.rate s.time f.fresh) was)) in
    subst AreOfKinds (sym x.is) now

-- a box that went
less_kinds : (s r : Stage) → HasLostBox s r → AreOfKinds s → AreOfKinds r
less_kinds s r x h =
    let out = x.taken in
    let was : KeepsOfKind (λ k. kind_in ((net_of out.old).nodes k)) (states_of out.old) =
    subst (λ (y : ℕ → Option State). KeepsOfKind (λ k. kind_in ((net_of out.old).nodes k)) y) out.stands.states
    (subst (λ (y : Net). KeepsOfKind (λ k. kind_in (y.nodes k)) s.states) out.stands.net h) in
    let now : KeepsOfKind (λ k. kind_in (x.made.net.nodes k)) x.made.states =
    subst (λ (y : ℕ → Option State). KeepsOfKind (λ k. kind_in (x.made.net.nodes k)) y) (sym out.states)
    (subst (λ (y : Net). KeepsOfKind (λ k. kind_in (y.nodes k)) (states_of out.new)) (sym out.net)
    (left_objects out.old out.new out.box.key (taken_less (with_ahead s []) x.path x.number x.made out) was)) in
    subst AreOfKinds (sym x.is) now

-- a box that moved
moved_kinds : (s r : Stage) → HasMovedBox s r → AreOfKinds s → AreOfKinds r
moved_kinds s r x h =
    let to = x.moved in
    let was : KeepsOfKind (λ k. kind_in ((net_of to.old).nodes k)) (states_of to.old) =
    subst (λ (y : ℕ → Option State). KeepsOfKind (λ k. kind_in ((net_of to.old).nodes k)) y) to.stands.states
    (subst (λ (y : Net). KeepsOfKind (λ k. kind_in (y.nodes k)) s.states) to.stands.net h) in
    let now : KeepsOfKind (λ k. kind_in (x.made.net.nodes k)) x.made.states =
    subst (λ (y : ℕ → Option State). KeepsOfKind (λ k. kind_in (x.made.net.nodes k)) y) (sym to.states)
    (subst (λ (y : Net). KeepsOfKind (λ k. kind_in (y.nodes k)) (states_of to.new)) (sym to.net)
    (alike_objects to.old to.new (moved_alike to.old to.new x.path x.number x.x x.y to.box to.moves) was)) in
    subst AreOfKinds (sym x.is) now

-- a box that became another one
retyped_kinds : (s r : Stage) → HasRetypedBox s r → AreOfKinds s → AreOfKinds r
retyped_kinds s r x h =
    let to = x.retyped in
    let p = to.old in
    let q = to.new in
    let was : KeepsOfKind (λ k. kind_in ((net_of p).nodes k)) (states_of p) =
    subst (λ (y : ℕ → Option State). KeepsOfKind (λ k. kind_in ((net_of p).nodes k)) y) to.stands.states
    (subst (λ (y : Net). KeepsOfKind (λ k. kind_in (y.nodes k)) s.states) to.stands.net h) in
    let now : KeepsOfKind (λ k. kind_in (x.made.net.nodes k)) x.made.states =
    subst (λ (y : ℕ → Option State). KeepsOfKind (λ k. kind_in (x.made.net.nodes k)) y) (sym to.states)
    (subst (λ (y : Net). KeepsOfKind (λ k. kind_in (y.nodes k)) (states_of q)) (sym to.net)
    (retyped_objects (with_ahead s []) x.path x.number x.text x.made to was)) in
    subst AreOfKinds (sym x.is) now

-- a box that could come, or become another one
room_kinds : (s r : Stage) → HasMoreRoom s r → AreOfKinds s → AreOfKinds r
room_kinds s r x h =
    subst AreOfKinds (sym x.is)
    (alike_kinds s (with_net (with_ahead s x.ahead) (net_of x.new))
    (λ k. ap (λ (o : Option Node). kind_in (bare o)) (x.room.grove.nodes k) ∙ sym (ap (λ (y : Net). kind_in (y.nodes k)) x.stands.net)) (λ k. refl) h)

altered_kinds : (s r : Stage) → Alters s r → AreOfKinds s → AreOfKinds r
altered_kinds s r (inl a) h = wires_kinds s r (but_wires s r a) h
altered_kinds s r (inr (inl a)) h = box_kinds s r a h
altered_kinds s r (inr (inr (inl a))) h = less_kinds s r a h
altered_kinds s r (inr (inr (inr (inl a)))) h = moved_kinds s r a h
altered_kinds s r (inr (inr (inr (inr (inl a))))) h = retyped_kinds s r a h
altered_kinds s r (inr (inr (inr (inr (inr a))))) h = room_kinds s r a h

altered_goes : (s r : Stage) → Alters s r → IsServing s → IsServing r
altered_goes s r a h = record { owned = altered_both s r a h.owned; kinds = altered_kinds s r a h.kinds }

-- events
kept_goes : (s : Stage) (b : Beginning) → IsServing s → IsServing (with_kept s (delivered s b).kept)
kept_goes s b h =
    let r : Stage = with_kept s (delivered s b).kept in
    let is = outcome_is s.net s.time (begun s) b in
    record {
      owned = both_on s r refl refl refl (subst (λ (w : World Kept). Extends s.names w.kept.names) is (outcome_extends s.net s.time (begun s) (start_at b))) h.owned;
      kinds = alike_kinds s r (λ k. refl) (subst (λ (w : World Kept). AreAlike s.states w.kept.states) is (outcome_alike s.net s.time (begun s) (start_at b))) h.kinds;
    }

loads_go : (s : Stage) (l : Left) (boxes : List ℕ) → IsServing s → IsServing (with_kept s (all_loaded s.net s.time (going_on s l) boxes).kept)
loads_go s l boxes h =
    let r : Stage = with_kept s (all_loaded s.net s.time (going_on s l) boxes).kept in
    record { owned = both_on s r refl refl refl (loads_extend s l boxes) h.owned; kinds = alike_kinds s r (λ k. refl) (loads_alike s l boxes) h.kinds }

event_goes : (s : Stage) (b : Beginning) → Goes s (event s b)
event_goes s b h l = event_keeps IsServing altered_goes loads_go s b (lawful_fair (event s b).edits l) (kept_goes s b h)

edit_goes : (wanted : Wanted) (s : Stage) → Goes s (edit_event wanted s)
edit_goes wanted s h l = edit_event_keeps IsServing altered_goes loads_go wanted s (lawful_fair (edit_event wanted s).edits l) h

-- clocks
fires_go : (s : Stage) (c : Clock) → Goes s (fires s c)
fires_go s c h l =
    let r : Stage = with_fired (with_taken s (taken_off s.clocks)) c.time in
    event_goes r (Firing c.owner) (record { owned = both_on s r refl refl refl (extends_same s.names) h.owned; kinds = h.kinds }) l

clock_goes : (s : Stage) (rest : Stage → Passage) (o : Option Clock) → ((r : Stage) → Goes r (rest r)) → Goes s (fires_or_not s rest o)
clock_goes s rest None f h l = h
clock_goes s rest (Some c) f h l = then_goes s (fires s c) rest (fires_go s c) (f (fires s c).stage) h l

clocks_go : (n limit : ℕ) (s : Stage) → Goes s (fires_below n limit s)
unfolding fires_below
clocks_go zero limit s h l = h
clocks_go (suc n) limit s h l = clock_goes s (fires_below n limit) (next_clock limit s.clocks) (λ r. clocks_go n limit r) h l

-- blocks
sounds_go : (s : Stage) → Goes s (block_sounds s)
unfolding block_sounds
sounds_go s h l =
    let r : Stage = with_played s (played_at s) in
    record {
      owned = both_on s r refl refl refl (extends_same s.names) h.owned;
      kinds = alike_kinds s r (λ k. refl) (block_alike (block_net s) (s.block_end - block_units) (sound_at s)) h.kinds;
    }

block_goes : (s : Stage) → Goes s (block_runs s)
block_goes s = then_goes s (clocks_fire s.block_end s) block_sounds (clocks_go (most_fired - s.fired) s.block_end s) (sounds_go (clocks_fire s.block_end s).stage)

blocks_go : (n to : ℕ) (s : Stage) → Goes s (blocks_run n to s)
unfolding blocks_run
blocks_go zero to s h l = h
blocks_go (suc n) to s h l =
    if_goes (nat_le s.block_end to) s (followed_by (block_runs s) (blocks_run n to)) (still s)
    (then_goes s (block_runs s) (blocks_run n to) (block_goes s) (blocks_go n to (block_runs s).stage)) (λ k m. k) h l

-- to a time, and to the end
time_goes : (to : ℕ) (s : Stage) → Goes s (time_is to s)
time_goes to s h l = record { owned = both_on s (with_time to s) refl refl refl (extends_same s.names) h.owned; kinds = h.kinds }

comes_go : (to : ℕ) (s : Stage) → Goes s (comes_to to s)
comes_go to s = then_goes s (clocks_fire to s) (time_is to) (clocks_go (most_fired - s.fired) to s) (time_goes to (clocks_fire to s).stage)

advanced_goes : (to : ℕ) (s : Stage) → Goes s (advanced to s)
advanced_goes to s = then_goes s (blocks_run (to + 1) to s) (comes_to to) (blocks_go (to + 1) to s) (comes_go to (blocks_run (to + 1) to s).stage)

finished_goes : (s : Stage) → Goes s (finished s)
finished_goes s = if_goes (nat_lt s.block_end (s.time + block_units)) s (block_runs s) (still s) (block_goes s) (λ h l. h)

-- commands
commanded_goes : (c : Command) (s : Stage) → Goes s (commanded c s)
unfolding commanded
commanded_goes (command.Send name atoms) s h l = event_goes s _ h l
commanded_goes (command.Edit place edit) s h l = edit_goes _ s h l
commanded_goes (command.Save document) s h l = edit_goes _ s h l
commanded_goes (command.Show path) s h l = h
commanded_goes command.Undo s h l = edit_goes _ s h l
commanded_goes command.Redo s h l = edit_goes _ s h l

-- steps
by_same : (s : Stage) (p q : Passage) → p ≡ q → Goes s q → Goes s p
by_same s p q e f = subst (λ (x : Passage). Goes s x) (sym e) f

step_goes : (x : Step) (s : Stage) → LearnsOn x s → Goes s (step_by own_ways x s)
step_goes (Does c) s k = by_same s (step_by own_ways (Does c) s) (commanded c s) (commanded_own c s) (commanded_goes c s)
step_goes (Learns names) s k = λ h l. record { owned = both_on s (with_names s names) refl refl refl k h.owned; kinds = h.kinds }
step_goes (Comes to) s k = by_same s (step_by own_ways (Comes to) s) (advanced to s) (advanced_own to s) (advanced_goes to s)

steps_go : (xs : List Step) (s : Stage) → NamesGoOn xs s → Goes s (steps_by own_ways xs s)
steps_go [] s k = λ h l. h
steps_go (x ∷ xs) s k = then_goes s (step_by own_ways x s) (steps_by own_ways xs) (step_goes x s k.0) (steps_go xs (step_by own_ways x s).stage k.1)

-- whole runs
bare_kind : (o : Option Node) → kind_in (bare o) ≡ kind_in o
bare_kind None = refl
bare_kind (Some n) = refl

module _ (holds : Option (List FileRow)) (name : List ℕ) (rate : Rate) (d : Page) (names table : Names) (p : Patch) (base : Base) (ahead : List Choice)
    (g : Grows holds name rate d names p table base) where
  first_serves : IsServing (first_stage name p table base ahead)
  first_serves = record {
    owned = first_both holds name rate d names table p base ahead g;
    kinds = λ k. made_of_kind p rate 0 g.fresh.states k ∙ ap (option_map blank_of) (sym (bare_kind (get p.grove.nodes k)));
  }

  opened_serves : AreLawful (opened name p table base ahead).edits → IsServing (opened name p table base ahead).stage
  opened_serves l = event_goes (first_stage name p table base ahead) _ first_serves l

  begun_goes : (xs : List Step) → NamesGoOn xs (opened name p table base ahead).stage → AreLawful (followed_by (opened name p table base ahead) (steps_by own_ways xs)).edits
      → IsServing (followed_by (opened name p table base ahead) (steps_by own_ways xs)).stage
  begun_goes xs k l =
      let o : Passage = opened name p table base ahead in
      steps_go xs o.stage k (opened_serves (lawful_first o.edits (steps_by own_ways xs o.stage).edits l)) (lawful_second o.edits (steps_by own_ways xs o.stage).edits l)

  run_goes : (xs : List Step) → NamesGoOn xs (opened name p table base ahead).stage → AreLawful (run_by own_ways name p table base ahead xs).edits → IsServing (run_by own_ways name p table base ahead xs).stage
  run_goes xs k l =
      let b : Passage = followed_by (opened name p table base ahead) (steps_by own_ways xs) in
      let r : Stage = b.stage in
      by_same r (finished_by own_ways r) (finished r) (finished_own r) (finished_goes r)
      (begun_goes xs k (lawful_first b.edits (finished_by own_ways r).edits l)) (lawful_second b.edits (finished_by own_ways r).edits l)

  pub begun_serves : (xs : List Step) → NamesGoOn xs (opened name p table base ahead).stage → AreLawful (followed_by (opened name p table base ahead) (steps_by own_ways xs)).edits
      → OwnersServe (followed_by (opened name p table base ahead) (steps_by own_ways xs)).stage
  begun_serves xs k l = let h = begun_goes xs k l in tree_serves (followed_by (opened name p table base ahead) (steps_by own_ways xs)).stage h.owned.tree h.owned.owners h.kinds

  pub run_serves : (xs : List Step) → NamesGoOn xs (opened name p table base ahead).stage → AreLawful (run_by own_ways name p table base ahead xs).edits
      → OwnersServe (run_by own_ways name p table base ahead xs).stage
  run_serves xs k l = let h = run_goes xs k l in tree_serves (run_by own_ways name p table base ahead xs).stage h.owned.tree h.owned.owners h.kinds
