-- The samples of a part of a run are added up.
use Rattle.std.proofs.Common.{◌≡◌, ◌+◌, ◌-◌, ℕ, zero, suc, Bool, true, false, List, [], ◌∷◌, ◌++◌, map, Option, Some, None, refl, sym, ap, ◌∙◌, append_assoc}
use Rattle.std.proofs.lemmas.List.{append-nil}
use Rattle.std.specs.Prelude.{nat_le, nat_lt, if◌then◌else◌}
use Rattle.pd_clock.specs.Queue.{Clock}
use Rattle.pd_turns.specs.Turns.{World}
use Rattle.pd_hearing.specs.Worlds.{Kept}
use Rattle.pd_walk.specs.Outcome.{all_loaded}
use Rattle.pd_mix.specs.Samples.{block_bytes}
use Rattle.pd_made.specs.Tallies.{nothing, tallied}
use Rattle.pd_made.proofs.TallyLemmas.{tallied_join}
use Rattle.pd_stage.specs.Items.{said, samples_of}
use Rattle.pd_stage.specs.Choices.{Wanted, Choice, Refuses, Lacks, Makes, first_choice, later, text_of_choice}
use Rattle.pd_stage.specs.Stages.{Stage, Passage, with_ahead, still, saying, joined, followed_by}
use Rattle.pd_stage.specs.Events.{Beginning, Left, going_on, after_deliveries, stage_by, put_of, files_put, edit_by, edit_taken, edit_loaded_by, edits_of_by, event, edit_event, delivered}
use Rattle.pd_stage.specs.Times.{block_units, most_fired, taken_off, with_taken, with_fired, fires, fires_or_not, fires_below, next_clock, clocks_fire, played_at, block_sounds, block_runs, blocks_run, with_time, time_is, comes_to, advanced, finished}
use Rattle.pd_stage.specs.Sums.{AddsUp}
use Rattle.pd_stage.proofs.ItemLemmas.{samples-append, samples-none, samples-said, samples-heard, samples-put}
use Rattle.pd_stage.proofs.ThroughLemmas.{GoesOn, all_through, one_through, event_after_through, edit_event_through}

-- no samples are among these items, and the sum stays
silent_adds : (s : Stage) (p : Passage) → p.stage.tally ≡ s.tally → samples_of p.items ≡ [] → AddsUp s p
silent_adds s p same none = λ before e.
    same ∙ e ∙ ap (λ (b : List ℕ). tallied nothing b) (sym (append-nil before) ∙ ap (λ (b : List ℕ). before ++ b) (sym none))

pub still_adds : (s r : Stage) → r.tally ≡ s.tally → AddsUp s (still r)
still_adds s r same = silent_adds s (still r) same samples-none

pub saying_adds : (s : Stage) (lines : List ℕ) → AddsUp s (saying s lines)
saying_adds s lines = silent_adds s (saying s lines) refl (samples-said lines)

pub joined_adds : (s : Stage) (p q : Passage) → AddsUp s p → AddsUp p.stage q → AddsUp s (joined p q)
joined_adds s p q a b = λ before e.
    b (before ++ samples_of p.items) (a before e)
    ∙ ap (λ (x : List ℕ). tallied nothing x) (append_assoc before (samples_of p.items) (samples_of q.items) ∙ ap (λ (x : List ℕ). before ++ x) (sym (samples-append p.items q.items)))

-- ---- edits and events

files_silent : (files : List (List ℕ × List ℕ)) → samples_of (map put_of files) ≡ []
files_silent [] = samples-none
files_silent (file ∷ files) = samples-append (put_of file ∷ []) (map put_of files) ∙ ap (λ (b : List ℕ). b ++ samples_of (map put_of files)) (samples-put file.0 file.1) ∙ files_silent files

put_silent : (c : Choice) → samples_of (files_put c) ≡ []
put_silent (Refuses why) = samples-none
put_silent (Lacks net) = samples-none
put_silent (Makes m) = files_silent m.files

by_keeps : (s : Stage) (c : Choice) → (stage_by s c).tally ≡ s.tally
by_keeps s (Refuses why) = refl
by_keeps s (Lacks net) = refl
by_keeps s (Makes m) = refl

by_adds : (wanted : Wanted) (s : Stage) (c : Choice) → AddsUp s (edit_by wanted s c)
by_adds wanted s c =
    silent_adds s (edit_by wanted s c) (by_keeps (with_ahead s (later s.ahead)) c)
    (samples-append (files_put c) (said (text_of_choice wanted c)) ∙ ap (λ (b : List ℕ). b ++ samples_of (said (text_of_choice wanted c))) (put_silent c) ∙ samples-said (text_of_choice wanted c))

pub edit_adds : (wanted : Wanted) (s : Stage) → AddsUp s (edit_taken wanted s)
unfolding edit_taken
edit_adds wanted s = by_adds wanted s (first_choice s.ahead)

on_adds : (s : Stage) (p : Passage) (next : Stage → Passage) → AddsUp s p → AddsUp p.stage (next p.stage) → AddsUp s (followed_by p next)
on_adds s p next a b = joined_adds s p (next p.stage) a b

deliveries_add : (s : Stage) (w : World Kept) → AddsUp s (after_deliveries s w)
deliveries_add s w = silent_adds s (after_deliveries s w) refl (samples-said w.said)

one_adds : (wanted : Wanted) (l : Left) (rest : Left → Stage → Passage) (s : Stage) → GoesOn all_loaded AddsUp rest → AddsUp s (edit_loaded_by all_loaded wanted l rest s)
one_adds wanted l rest s = one_through all_loaded AddsUp on_adds (λ boxes v r. deliveries_add r (all_loaded r.net r.time (going_on r v) boxes)) edit_adds wanted l rest s

edits_add : GoesOn all_loaded AddsUp (edits_of_by all_loaded)
edits_add = all_through all_loaded AddsUp (λ s. still_adds s s refl) one_adds

pub event_adds : (s : Stage) (b : Beginning) → AddsUp s (event s b)
unfolding event
event_adds s b =
    event_after_through all_loaded AddsUp on_adds (λ boxes v r. deliveries_add r (all_loaded r.net r.time (going_on r v) boxes)) edits_add s (delivered s b) (deliveries_add s (delivered s b))

pub edit_event_adds : (wanted : Wanted) (s : Stage) → AddsUp s (edit_event wanted s)
unfolding edit_event
edit_event_adds wanted s = edit_event_through all_loaded AddsUp (λ r. still_adds r r refl) one_adds wanted s

-- ---- clocks and blocks

or_not_adds : (s : Stage) (rest : Stage → Passage) → ((r : Stage) → AddsUp r (rest r)) → (o : Option Clock) → AddsUp s (fires_or_not s rest o)
or_not_adds s rest adds None = still_adds s s refl
or_not_adds s rest adds (Some c) =
    let p : Passage = fires s c in
    joined_adds s p (rest p.stage) (event_adds (with_fired (with_taken s (taken_off s.clocks)) c.time) _) (adds p.stage)

fires_add : (n limit : ℕ) (s : Stage) → AddsUp s (fires_below n limit s)
unfolding fires_below
fires_add zero limit s = still_adds s s refl
fires_add (suc n) limit s = or_not_adds s (fires_below n limit) (fires_add n limit) (next_clock limit s.clocks)

clocks_add : (limit : ℕ) (s : Stage) → AddsUp s (clocks_fire limit s)
clocks_add limit s = fires_add (most_fired - s.fired) limit s

sounds_add : (s : Stage) → AddsUp s (block_sounds s)
unfolding block_sounds
sounds_add s = λ before e.
    let bytes : List ℕ = block_bytes (played_at s).out in
    ap (λ t. tallied t bytes) e ∙ tallied_join nothing before bytes ∙ ap (λ (b : List ℕ). tallied nothing (before ++ b)) (sym (samples-heard bytes))

block_adds : (s : Stage) → AddsUp s (block_runs s)
block_adds s =
    let p : Passage = clocks_fire s.block_end s in
    joined_adds s p (block_sounds p.stage) (clocks_add s.block_end s) (sounds_add p.stage)

if_adds : (b : Bool) (s : Stage) (p : Passage) → AddsUp s p → AddsUp s (if b then p else still s)
if_adds true s p h = h
if_adds false s p h = still_adds s s refl

blocks_add : (n to : ℕ) (s : Stage) → AddsUp s (blocks_run n to s)
unfolding blocks_run
blocks_add zero to s = still_adds s s refl
blocks_add (suc n) to s =
    let p : Passage = block_runs s in
    if_adds (nat_le s.block_end to) s (followed_by p (blocks_run n to)) (joined_adds s p (blocks_run n to p.stage) (block_adds s) (blocks_add n to p.stage))

comes_add : (to : ℕ) (s : Stage) → AddsUp s (comes_to to s)
comes_add to s =
    let p : Passage = clocks_fire to s in
    joined_adds s p (time_is to p.stage) (clocks_add to s) (still_adds p.stage (with_time to p.stage) refl)

pub advanced_adds : (to : ℕ) (s : Stage) → AddsUp s (advanced to s)
advanced_adds to s =
    let p : Passage = blocks_run (to + 1) to s in
    joined_adds s p (comes_to to p.stage) (blocks_add (to + 1) to s) (comes_add to p.stage)

pub finished_adds : (s : Stage) → AddsUp s (finished s)
finished_adds s =
    if_adds (nat_lt s.block_end (s.time + block_units)) s (block_runs s) (block_adds s)
