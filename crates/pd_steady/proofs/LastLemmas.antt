-- In a run in which each edit is lawful the boxes that were there, and that no edit deletes, by itself or with a box around it, or makes another one,
-- go on keeping what is of the same objects.
use Rattle.std.proofs.Common.{◌≡◌, ◌≢◌, ◌+◌, ◌-◌, ℕ, ℤ, zero, suc, Bool, true, false, nat_le, if◌then◌else◌, List, [], ◌∷◌, ◌++◌, Option, Some, None, IsSome, slice_get, option_map, refl, sym, ap, subst, ◌∙◌}
use Rattle.std.proofs.lemmas.Option.{none-some}
use Rattle.std.specs.Prelude.{option_and_then}
use Rattle.slab.specs.Slab.{get}
use Rattle.pd_atom.specs.Names.{Names}
use Rattle.pd_atom.specs.declared.Atom.{Atom}
use Rattle.pd_canvas.specs.declared.edits.Edit.{Edit}
use Rattle.pd_canvas.specs.declared.edits.Edit.TheVariants as edit
use Rattle.pd_clock.specs.Queue.{Clock}
use Rattle.pd_script.specs.declared.commands.Command.{Command}
use Rattle.pd_script.specs.declared.commands.Command.TheVariants as command
use Rattle.pd_kind.specs.declared.states.State.{State}
use Rattle.pd_kind.specs.Fit.{blank}
use Rattle.pd_grove.specs.declared.grove.Grove.{Grove}
use Rattle.pd_grove.specs.declared.nodes.Node.{Node}
use Rattle.pd_grove.specs.Forest.{holder_in}
use Rattle.pd_grove.specs.Owning.{board_in}
use Rattle.pd_grove.specs.Telling.{state_in}
use Rattle.pd_owning.specs.Order.{holder_of, box_out}
use Rattle.pd_owning.specs.Parts.{LiesWithin}
use Rattle.pd_queue.specs.Queue.{most}
use Rattle.pd_turns.specs.Turns.{World}
use Rattle.pd_walk.specs.Outcome.{all_loaded}
use Rattle.pd_hearing.specs.Worlds.{Net, Kept, bare, net_of, states_of}
use Rattle.pd_patch.specs.declared.patch.Patch.{Patch}
use Rattle.pd_sized.specs.Alike.{AreAlike}
use Rattle.pd_sized.proofs.AlikeRunLemmas.{outcome_alike}
use Rattle.pd_sized.proofs.AlikeBlockLemmas.{block_alike}
use Rattle.pd_stage.specs.Choices.{Base, Wanted, Edits, Asks, Saves, Undoes, Redoes, Choice, Refuses, Lacks, Makes, first_choice, later, loads_of_choice}
use Rattle.pd_stage.specs.Lawful.{IsRewiringLawful, IsPutLawful, IsTakingLawful, IsMovingLawful, IsRetypingLawful, IsEditLawful, IsSaveLawful, MayCome, AreLawful}
use Rattle.pd_stage.proofs.LeadLemmas.{lawful_first, lawful_second}
use Rattle.pd_stage.specs.Stages.{Stage, Passage, Taken, with_ahead, still, followed_by}
use Rattle.pd_stage.specs.Events.{Beginning, Firing, Left, whole, left_after, going_on, begun, delivered, with_kept, after_deliveries, stage_by, edit_taken, loaded_by, edit_loaded_by, asked_by, edits_taken_by, edits_of_by, event, edit_event}
use Rattle.pd_stage.specs.Times.{block_units, most_fired, next_clock, taken_off, with_taken, with_fired, fires, fires_or_not, fires_below, clocks_fire, block_net, sound_at, block_sounds, block_runs, blocks_run, time_is, comes_to, advanced}
use Rattle.pd_engine.specs.Commands.{commanded}
use Rattle.pd_engine.specs.Opening.{first_stage, opened}
use Rattle.pd_steady.specs.Runs.{own_ways}
use Rattle.pd_steady.specs.Steps.{Step, Does, Learns, Comes, step_by, steps_by}
use Rattle.pd_steady.specs.Serving.{EndsIn, Ends, LeavesBox, LeaveBox, StayAlike}
use Rattle.pd_steady.proofs.EventLemmas.{start_of, outcome_is, loads_alike}
use Rattle.pd_steady.proofs.ComeLemmas.{IsFirst, come_new}
use Rattle.pd_steady.proofs.NewLemmas.{HasNew, new_alike}
use Rattle.pd_steady.proofs.LessLemmas.{HasLess}
use Rattle.pd_steady.proofs.MadeLemmas.{take_at, retype_at}
use Rattle.pd_steady.proofs.TakeLemmas.{taken_less}
use Rattle.pd_steady.proofs.AlikeLemmas.{KeepsAlike}
use Rattle.pd_steady.proofs.MoveLemmas.{moved_alike}
use Rattle.pd_steady.proofs.RetypeLemmas.{retyped_others}
use Rattle.pd_steady.proofs.OwnLemmas.{commanded_own, advanced_own}

-- so it is along a part of a run whose edits are lawful
abbrev Leads : Stage → Passage → Type 0
Leads s p = AreLawful p.edits → StayAlike p.edits s.states p.stage.states

-- where no box comes or goes
alike_lasts : (s r : Stage) → AreAlike s.states r.states → StayAlike [] s.states r.states
alike_lasts s r alike k there left = alike k

itself_lasts : (s : Stage) → StayAlike [] s.states s.states
itself_lasts s k there left = refl

-- one stage after another
still_there : (old new : Option State) → option_map blank new ≡ option_map blank old → IsSome old → IsSome new
still_there old (Some t) e h = refl
still_there None None e h = h
still_there (Some s) None e h = absurd (none-some (blank s) e)

-- of two lists of edits that leave a box in each does
first_leave : (k : ℕ) (a b : List Taken) → LeaveBox k (a ++ b) → LeaveBox k a
first_leave k [] b h = tt
first_leave k (t ∷ a) b h = (h.0, first_leave k a b h.1)

second_leave : (k : ℕ) (a b : List Taken) → LeaveBox k (a ++ b) → LeaveBox k b
second_leave k [] b h = h
second_leave k (t ∷ a) b h = second_leave k a b h.1

then_lasts : (s r t : Stage) (a b : List Taken) → StayAlike a s.states r.states → StayAlike b r.states t.states → StayAlike (a ++ b) s.states t.states
then_lasts s r t a b f g k there left =
    let e : option_map blank (r.states k) ≡ option_map blank (s.states k) = f k there (first_leave k a b left) in
    g k (still_there (s.states k) (r.states k) e there) (second_leave k a b left) ∙ e

-- one part after another
followed_lasts : (s : Stage) (p : Passage) (next : Stage → Passage) → Leads s p → Leads p.stage (next p.stage) → Leads s (followed_by p next)
followed_lasts s p next a b = λ l.
    then_lasts s p.stage (next p.stage).stage p.edits (next p.stage).edits (a (lawful_first p.edits (next p.stage).edits l)) (b (lawful_second p.edits (next p.stage).edits l))

if_lasts : (b : Bool) (s : Stage) (p q : Passage) → Leads s p → Leads s q → Leads s (if b then p else q)
if_lasts true s p q f g = f
if_lasts false s p q f g = g

-- a box keeps what is of the same objects
abbrev IsSameAt : Stage → Stage → ℕ → Type 0
IsSameAt s r k = option_map blank (r.states k) ≡ option_map blank (s.states k)

-- boxes lie where they lie, whatever they keep
bare_board : (o : Option Node) → board_in (bare o) ≡ board_in o
bare_board None = refl
bare_board (Some n) = refl

bare_out : (g : Grove) (m k : ℕ) → box_out (λ j. bare (get g.nodes j)) (get g.boards) m k ≡ box_out (get g.nodes) (get g.boards) m k
bare_out g zero k = refl
bare_out g (suc m) k = ap (option_and_then (holder_of (λ j. bare (get g.nodes j)) (get g.boards))) (bare_out g m k) ∙ same (box_out (get g.nodes) (get g.boards) m k)
  where
    same : (o : Option ℕ) → option_and_then (holder_of (λ j. bare (get g.nodes j)) (get g.boards)) o ≡ option_and_then (holder_of (get g.nodes) (get g.boards)) o
    same None = refl
    same (Some h) = ap (option_and_then (λ c. holder_in (get g.boards c))) (bare_board (get g.nodes h))

bare_within : (g : Grove) (top k : ℕ) → LiesWithin (get g.nodes) (get g.boards) top k → LiesWithin (λ j. bare (get g.nodes j)) (get g.boards) top k
bare_within g top k h = (h.0, bare_out g h.0 k ∙ h.1)

-- other wires
wires_same : (s : Stage) (ahead : List Choice) (path : List ℕ) (e : Edit) (c : Choice) → IsRewiringLawful (with_ahead s []) path e c → (k : ℕ) → IsSameAt s (stage_by (with_ahead s ahead) c) k
wires_same s ahead path e (Refuses why) h k = refl
wires_same s ahead path e (Lacks net) h k = refl
wires_same s ahead path e (Makes m) h k = ap (λ (states : ℕ → Option State). option_map blank (states k)) h.states

-- a box that was put
put_same : (s : Stage) (ahead : List Choice) (path : List ℕ) (e : Edit) (c : Choice) → IsPutLawful (with_ahead s []) path e c → (k : ℕ) → IsSome (s.states k)
    → IsSameAt s (stage_by (with_ahead s ahead) c) k
put_same s ahead path e (Refuses why) h k there = refl
put_same s ahead path e (Lacks net) h k there = refl
put_same s ahead path e (Makes m) h k there =
    let p = h.old in
    let q = h.new in
    let a = h.adds.added in
    let new : HasNew p q (IsFirst p s.time a) = come_new p q s.time a h.box.key h.adds.put in
    subst (λ (states : ℕ → Option State). option_map blank (states k) ≡ option_map blank (s.states k)) (sym h.states)
    (subst (λ (states : ℕ → Option State). IsSome (states k) → option_map blank (states_of q k) ≡ option_map blank (states k)) (sym h.stands.states)
    (new_alike p q (IsFirst p s.time a) new (λ j n x. x.vacant) k) there)

-- a box that went, with all that lay in it
take_same : (s : Stage) (ahead : List Choice) (path : List ℕ) (number : ℕ) (wanted : Wanted) (c : Choice) → IsTakingLawful (with_ahead s []) path number c
    → (k : ℕ) → (EndsIn s.net path (edit.Delete number) k → Ends s.net wanted k) → LeavesBox k s.net wanted c → IsSameAt s (stage_by (with_ahead s ahead) c) k
take_same s ahead path number wanted (Refuses why) h k is left = refl
take_same s ahead path number wanted (Lacks net) h k is left = refl
take_same s ahead path number wanted (Makes m) h k is left =
    let less : HasLess h.old h.new h.box.key = taken_less (with_ahead s []) path number m h in
    let net : (x : Net) → s.net ≡ x → LiesWithin x.nodes (get x.boards) h.box.key k → LiesWithin s.net.nodes (get s.net.boards) h.box.key k =
    λ x e within. subst (λ (y : Net). LiesWithin y.nodes (get y.boards) h.box.key k) (sym e) within in
    let out : LiesWithin (get h.old.grove.nodes) (get h.old.grove.boards) h.box.key k → ⊥ =
    λ within. left (is (h.box.key, take_at (with_ahead s []) path number m h, net (net_of h.old) h.stands.net (bare_within h.old.grove h.box.key k within))) in
    ap (λ (states : ℕ → Option State). option_map blank (states k)) h.states ∙ ap (λ (o : Option Node). option_map blank (state_in o)) (less.others k out)
    ∙ sym (ap (λ (states : ℕ → Option State). option_map blank (states k)) h.stands.states)

-- a box that moved
move_same : (s : Stage) (ahead : List Choice) (path : List ℕ) (number : ℕ) (x y : ℤ) (c : Choice) → IsMovingLawful (with_ahead s []) path number x y c → (k : ℕ)
    → IsSameAt s (stage_by (with_ahead s ahead) c) k
move_same s ahead path number x y (Refuses why) h k = refl
move_same s ahead path number x y (Lacks net) h k = refl
move_same s ahead path number x y (Makes m) h k =
    let alike : KeepsAlike h.old h.new = moved_alike h.old h.new path number x y h.box h.moves in
    ap (λ (states : ℕ → Option State). option_map blank (states k)) h.states ∙ ap (λ (o : Option State). option_map blank o) (alike.state k)
    ∙ sym (ap (λ (states : ℕ → Option State). option_map blank (states k)) h.stands.states)

-- a box that became another one
retype_same : (s : Stage) (ahead : List Choice) (path : List ℕ) (number : ℕ) (text : List Atom) (wanted : Wanted) (c : Choice) → IsRetypingLawful (with_ahead s []) path number text c
    → (k : ℕ) → (EndsIn s.net path (edit.Retype number text) k → Ends s.net wanted k) → LeavesBox k s.net wanted c → IsSameAt s (stage_by (with_ahead s ahead) c) k
retype_same s ahead path number text wanted (Refuses why) h k is left = refl
retype_same s ahead path number text wanted (Lacks net) h k is left = refl
retype_same s ahead path number text wanted (Makes m) h k is left =
    let other : k ≢ h.box.key = λ e. left (is (retype_at (with_ahead s []) path number text m h ∙ ap (λ (x : ℕ). Some x) (sym e))) in
    ap (λ (states : ℕ → Option State). option_map blank (states k)) h.states ∙ ap (λ (o : Option State). option_map blank o) (retyped_others (with_ahead s []) path number text m h k other)
    ∙ sym (ap (λ (states : ℕ → Option State). option_map blank (states k)) h.stands.states)

-- saves, and what is refused
save_same : (s : Stage) (ahead : List Choice) (c : Choice) → IsSaveLawful (with_ahead s []) c → (k : ℕ) → IsSameAt s (stage_by (with_ahead s ahead) c) k
save_same s ahead (Refuses why) h k = refl
save_same s ahead (Lacks net) h k = absurd h
save_same s ahead (Makes m) h k = ap (λ (states : ℕ → Option State). option_map blank (states k)) h.states

refused_same : (s : Stage) (ahead : List Choice) (c : Choice) (why : _) → c ≡ Refuses why → (k : ℕ) → IsSameAt s (stage_by (with_ahead s ahead) c) k
refused_same s ahead c why h k = subst (λ (x : Choice). IsSameAt s (stage_by (with_ahead s ahead) x) k) (sym h) refl

-- edits
edit_same : (s : Stage) (ahead : List Choice) (path : List ℕ) (e : Edit) (wanted : Wanted) (c : Choice) → IsEditLawful (with_ahead s []) path e c
    → (k : ℕ) → (EndsIn s.net path e k → Ends s.net wanted k) → IsSome (s.states k) → LeavesBox k s.net wanted c → IsSameAt s (stage_by (with_ahead s ahead) c) k
edit_same s ahead path (edit.Connect v) wanted c h k is there left = wires_same s ahead path (edit.Connect v) c h k
edit_same s ahead path (edit.Disconnect v) wanted c h k is there left = wires_same s ahead path (edit.Disconnect v) c h k
edit_same s ahead path (edit.Delete number) wanted c h k is there left = take_same s ahead path number wanted c h k is left
edit_same s ahead path (edit.Retype number text) wanted c h k is there left = retype_same s ahead path number text wanted c h k is left
edit_same s ahead path (edit.Move number x y) wanted c h k is there left = move_same s ahead path number x y c h k
edit_same s ahead path (edit.Obj x y text) wanted c h k is there left = put_same s ahead path (edit.Obj x y text) c h k there
edit_same s ahead path (edit.Msg x y text) wanted c h k is there left = put_same s ahead path (edit.Msg x y text) c h k there
edit_same s ahead path (edit.Comment x y text) wanted c h k is there left = put_same s ahead path (edit.Comment x y text) c h k there
edit_same s ahead path (edit.FloatBox x y text) wanted c h k is there left = put_same s ahead path (edit.FloatBox x y text) c h k there
edit_same s ahead path (edit.SymbolBox x y text) wanted c h k is there left = put_same s ahead path (edit.SymbolBox x y text) c h k there
edit_same s ahead path (edit.Sub x y name) wanted c h k is there left = put_same s ahead path (edit.Sub x y name) c h k there

choice_same : (wanted : Wanted) (s : Stage) (ahead : List Choice) (c : Choice) → MayCome wanted (with_ahead s []) c → (k : ℕ) → IsSome (s.states k) → LeavesBox k s.net wanted c
    → IsSameAt s (stage_by (with_ahead s ahead) c) k
choice_same (Edits None path e) s ahead c h k there left = edit_same s ahead path e (Edits None path e) c h k (λ ends. ends) there left
choice_same (Edits (Some document) path e) s ahead c h k there left = refused_same s ahead c _ h k
choice_same (Asks path e) s ahead c h k there left = edit_same s ahead path e (Asks path e) c h k (λ ends. ends) there left
choice_same (Saves None) s ahead c h k there left = save_same s ahead c h k
choice_same (Saves (Some document)) s ahead c h k there left = refused_same s ahead c _ h k
choice_same Undoes s ahead c h k there left = refused_same s ahead c _ h k
choice_same Redoes s ahead c h k there left = refused_same s ahead c _ h k

taken_lasts : (wanted : Wanted) (s : Stage) → Leads s (edit_taken wanted s)
unfolding edit_taken
taken_lasts wanted s = λ l k there left. choice_same wanted s (later s.ahead) (first_choice s.ahead) l.0 k there left.0

-- events: deliveries, and then the edits, each with the boxes that are loaded behind it
kept_lasts : (s : Stage) (b : Beginning) → StayAlike [] s.states (delivered s b).kept.states
kept_lasts s b =
    alike_lasts s (with_kept s (delivered s b).kept)
    (subst (λ (w : World Kept). AreAlike s.states w.kept.states) (outcome_is s.net s.time (begun s) b) (outcome_alike s.net s.time (begun s) (start_of b)))

-- what goes on from where deliveries led
abbrev AllLead : (Left → Stage → Passage) → Type 0
AllLead rest = (l : Left) (s : Stage) → Leads s (rest l s)

loads_last : (boxes : List ℕ) (l : Left) (rest : Left → Stage → Passage) → AllLead rest → (s : Stage) → Leads s (loaded_by all_loaded boxes l rest s)
loads_last boxes l rest f s =
    let w : World Kept = all_loaded s.net s.time (going_on s l) boxes in
    followed_lasts s (after_deliveries s w) (rest (left_after w)) (λ k. alike_lasts s (with_kept s w.kept) (loads_alike s l boxes)) (f (left_after w) (with_kept s w.kept))

edit_lasts : (wanted : Wanted) (l : Left) (rest : Left → Stage → Passage) → AllLead rest → (s : Stage) → Leads s (edit_loaded_by all_loaded wanted l rest s)
edit_lasts wanted l rest f s =
    let boxes : List ℕ = loads_of_choice (first_choice s.ahead) in
    followed_lasts s (edit_taken wanted s) (loaded_by all_loaded boxes l rest) (taken_lasts wanted s) (loads_last boxes l rest f (edit_taken wanted s).stage)

asked_lasts : (rest : Left → Stage → Passage) → AllLead rest → (l : Left) (s : Stage) (o : Option (List ℕ × Edit)) → Leads s (asked_by all_loaded rest l s o)
asked_lasts rest f l s None = λ k. itself_lasts s
asked_lasts rest f l s (Some asked) = edit_lasts (Asks asked.0 asked.1) l rest f s

edits_last : (n place : ℕ) → AllLead (edits_taken_by all_loaded n place)
unfolding edits_taken_by
edits_last zero place l s = λ k. itself_lasts s
edits_last (suc n) place l s = asked_lasts (edits_taken_by all_loaded n (place + 1)) (edits_last n (place + 1)) l s (slice_get l.asked place)

event_lasts : (s : Stage) (b : Beginning) → Leads s (event s b)
unfolding event
event_lasts s b =
    let w : World Kept = delivered s b in
    followed_lasts s (after_deliveries s w) (edits_of_by all_loaded (left_after w)) (λ l. kept_lasts s b) (edits_last most 0 (left_after w) (with_kept s w.kept))

edit_event_lasts : (wanted : Wanted) (s : Stage) → Leads s (edit_event wanted s)
unfolding edit_event
edit_event_lasts wanted s = edit_lasts wanted whole (edits_of_by all_loaded) (edits_last most 0) s

-- clocks
fires_lasts : (s : Stage) (c : Clock) → Leads s (fires s c)
fires_lasts s c = λ l.
    event_lasts (with_fired (with_taken s (taken_off s.clocks)) c.time) (Firing c.owner) l

clock_lasts : (s : Stage) (rest : Stage → Passage) (o : Option Clock) → ((r : Stage) → Leads r (rest r)) → Leads s (fires_or_not s rest o)
clock_lasts s rest None f = λ l. itself_lasts s
clock_lasts s rest (Some c) f = followed_lasts s (fires s c) rest (fires_lasts s c) (f (fires s c).stage)

clocks_last : (n limit : ℕ) (s : Stage) → Leads s (fires_below n limit s)
unfolding fires_below
clocks_last zero limit s = λ l. itself_lasts s
clocks_last (suc n) limit s = clock_lasts s (fires_below n limit) (next_clock limit s.clocks) (λ r. clocks_last n limit r)

-- blocks
sounds_last : (s : Stage) → Leads s (block_sounds s)
unfolding block_sounds
sounds_last s = λ l. alike_lasts s (block_sounds s).stage (block_alike (block_net s) (s.block_end - block_units) (sound_at s))

block_lasts : (s : Stage) → Leads s (block_runs s)
block_lasts s = followed_lasts s (clocks_fire s.block_end s) block_sounds (clocks_last (most_fired - s.fired) s.block_end s) (sounds_last (clocks_fire s.block_end s).stage)

blocks_last : (n to : ℕ) (s : Stage) → Leads s (blocks_run n to s)
unfolding blocks_run
blocks_last zero to s = λ l. itself_lasts s
blocks_last (suc n) to s =
    if_lasts (nat_le s.block_end to) s (followed_by (block_runs s) (blocks_run n to)) (still s)
    (followed_lasts s (block_runs s) (blocks_run n to) (block_lasts s) (blocks_last n to (block_runs s).stage)) (λ l. itself_lasts s)

-- to a time
time_lasts : (to : ℕ) (s : Stage) → Leads s (time_is to s)
time_lasts to s = λ l. itself_lasts s

comes_last : (to : ℕ) (s : Stage) → Leads s (comes_to to s)
comes_last to s = followed_lasts s (clocks_fire to s) (time_is to) (clocks_last (most_fired - s.fired) to s) (time_lasts to (clocks_fire to s).stage)

advanced_lasts : (to : ℕ) (s : Stage) → Leads s (advanced to s)
advanced_lasts to s = followed_lasts s (blocks_run (to + 1) to s) (comes_to to) (blocks_last (to + 1) to s) (comes_last to (blocks_run (to + 1) to s).stage)

-- commands
commanded_lasts : (c : Command) (s : Stage) → Leads s (commanded c s)
unfolding commanded
commanded_lasts (command.Send name atoms) s = event_lasts s _
commanded_lasts (command.Edit place edit) s = edit_event_lasts _ s
commanded_lasts (command.Save document) s = edit_event_lasts _ s
commanded_lasts (command.Show path) s = λ l. itself_lasts s
commanded_lasts command.Undo s = edit_event_lasts _ s
commanded_lasts command.Redo s = edit_event_lasts _ s

-- steps
by_same : (s : Stage) (p q : Passage) → p ≡ q → Leads s q → Leads s p
by_same s p q e h = subst (λ (x : Passage). Leads s x) (sym e) h

step_lasts : (x : Step) (s : Stage) → Leads s (step_by own_ways x s)
step_lasts (Does c) s = by_same s (step_by own_ways (Does c) s) (commanded c s) (commanded_own c s) (commanded_lasts c s)
step_lasts (Learns names) s = λ l. itself_lasts s
step_lasts (Comes to) s = by_same s (step_by own_ways (Comes to) s) (advanced to s) (advanced_own to s) (advanced_lasts to s)

pub steps_last : (xs : List Step) (s : Stage) → Leads s (steps_by own_ways xs s)
steps_last [] s = λ l. itself_lasts s
steps_last (x ∷ xs) s = followed_lasts s (step_by own_ways x s) (steps_by own_ways xs) (step_lasts x s) (steps_last xs (step_by own_ways x s).stage)

-- whole runs, from what a patch that has grown keeps at first
opened_lasts : (file : List ℕ) (p : Patch) (names : Names) (base : Base) (ahead : List Choice) → Leads (first_stage file p names base ahead) (opened file p names base ahead)
opened_lasts file p names base ahead = event_lasts (first_stage file p names base ahead) _

pub begun_lasts : (file : List ℕ) (p : Patch) (names : Names) (base : Base) (ahead : List Choice) (xs : List Step)
    → Leads (first_stage file p names base ahead) (followed_by (opened file p names base ahead) (steps_by own_ways xs))
begun_lasts file p names base ahead xs =
    let o : Passage = opened file p names base ahead in
    followed_lasts (first_stage file p names base ahead) o (steps_by own_ways xs) (opened_lasts file p names base ahead) (steps_last xs o.stage)
