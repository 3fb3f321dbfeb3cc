-- The next clock, and the clocks that are left.
use Rattle.std.proofs.Common.{◌≡◌, ◌<◌, ◌≤◌, ◌+◌, ◌-◌, ℕ, zero, suc, Bool, true, false, List, [], ◌∷◌, ◌++◌, refl, sym, ◌∙◌, ap, subst, cond, ltb, max, arith, Option, Some, None}
use Rattle.std.proofs.lemmas.Bool.{le-ltb, lt-ltb}
use Rattle.std.specs.List.{AllByRecursion}
use Rattle.pd_clock.specs.Queue.{Clock, IsTaken}
use Rattle.slab.specs.Slab.{get}
use Rattle.pd_atom.specs.Names.{Names}
use Rattle.pd_grove.specs.declared.grove.Grove.{Grove}
use Rattle.pd_grove.specs.Telling.{state_in}
use Rattle.pd_made.specs.declared.tally.Tally.{Tally}
use Rattle.pd_patch.specs.declared.patch.Patch.{Patch}
use Rattle.pd_patch.specs.Walking.{RestStays, AllButTime}
use Rattle.pd_hearing.specs.Worlds.{Net, net_of, states_of}
use Rattle.pd_hearing.proofs.WorldLemmas.{clocks-net}
use Rattle.pd_stage.specs.Choices.{Base, Choice}
use Rattle.pd_stage.specs.Stages.{Stage, Passage, choices_of, still, with_ahead, followed_by}
use Rattle.pd_stage.specs.Leads.{Sinks, Leads, BreaksOff, Comes, Stops}
use Rattle.pd_stage.specs.Events.{event, Firing}
use Rattle.pd_stage.proofs.EditLemmas.{event_times}
use Rattle.pd_stage.proofs.LeadLemmas.{leads_to, way_goes_on, way_breaks}
use Rattle.pd_stage.specs.Times.{earlier, first_clock, taken_off, off_or_on, if_below, next_clock, with_taken, with_fired, fires_at, fires, fires_below, fires_or_not}

-- no clock is earlier than a time
abbrev NotBelow : ℕ → Option Clock → Type 0
NotBelow t None = Unit {0}
NotBelow t (Some c) = t ≤ c.time

earlier_not_below : (t : ℕ) (c : Clock) (o : Option Clock) → t ≤ c.time → NotBelow t o → t ≤ (earlier c o).time
earlier_not_below t c None h k = h
earlier_not_below t c (Some d) h k = elim (ltb d.time c.time) as (λ (b : Bool). t ≤ (cond b d c).time) [ true ↦ k | false ↦ h ]

none_below : (t : ℕ) (cs : List Clock) → AllByRecursion (λ d. t ≤ d.time) cs → NotBelow t (first_clock cs)
none_below t [] h = tt
none_below t (c ∷ cs) h = earlier_not_below t c (first_clock cs) h.0 (none_below t cs h.1)

earlier_first : (c : Clock) (o : Option Clock) → NotBelow c.time o → earlier c o ≡ c
earlier_first c None h = refl
earlier_first c (Some d) h = rw (le-ltb d.time c.time h) refl

off_first : (c : Clock) (o : Option Clock) (off on : List Clock) → NotBelow c.time o → off_or_on c o off on ≡ off
off_first c None off on h = refl
off_first c (Some d) off on h = rw (le-ltb d.time c.time h) refl

first_at : (c : Clock) (after : List Clock) → AllByRecursion (λ d. c.time ≤ d.time) after → first_clock (c ∷ after) ≡ Some c
first_at c after h = ap (λ (x : Clock). Some x) (earlier_first c (first_clock after) (none_below c.time after h))

-- a clock behind later ones is the first
first_is : (c : Clock) (before after : List Clock) → AllByRecursion (λ d. c.time < d.time) before → AllByRecursion (λ d. c.time ≤ d.time) after
    → first_clock (before ++ c ∷ after) ≡ Some c
first_is c [] after later not_earlier = first_at c after not_earlier
first_is c (d ∷ ds) after later not_earlier =
    ap (λ (o : Option Clock). Some (earlier d o)) (first_is c ds after later.1 not_earlier)
    ∙ ap (λ (b : Bool). Some (cond b c d)) (lt-ltb c.time d.time later.0)

off_is : (c : Clock) (before after : List Clock) → AllByRecursion (λ d. c.time < d.time) before → AllByRecursion (λ d. c.time ≤ d.time) after
    → taken_off (before ++ c ∷ after) ≡ before ++ after
off_is c [] after later not_earlier = off_first c (first_clock after) after (c ∷ taken_off after) (none_below c.time after not_earlier)
off_is c (d ∷ ds) after later not_earlier =
    ap (λ (o : Option Clock). off_or_on d o (ds ++ c ∷ after) (d ∷ taken_off (ds ++ c ∷ after))) (first_is c ds after later.1 not_earlier)
    ∙ ap (λ (b : Bool). cond b (d ∷ taken_off (ds ++ c ∷ after)) (ds ++ c ∷ after)) (lt-ltb c.time d.time later.0)
    ∙ ap (λ (x : List Clock). d ∷ x) (off_is c ds after later.1 not_earlier)

-- the clock that is taken is the next one
pub next_is : (limit : ℕ) (old new : List Clock) (c : Clock) → c.time < limit → IsTaken old new c → next_clock limit old ≡ Some c
next_is limit old new c below t =
    ap (λ (cs : List Clock). next_clock limit cs) t.old_is ∙ ap (if_below limit) (first_is c t.before t.after t.later t.not_earlier)
    ∙ ap (λ (b : Bool). cond b (Some c) None) (lt-ltb c.time limit below)

pub left_is : (old new : List Clock) (c : Clock) → IsTaken old new c → new ≡ taken_off old
left_is old new c t = t.new_is ∙ sym (off_is c t.before t.after t.later t.not_earlier) ∙ ap taken_off (sym t.old_is)

-- there is none where each is as late as the limit
none_if : (limit : ℕ) (o : Option Clock) → NotBelow limit o → if_below limit o ≡ None
none_if limit None h = refl
none_if limit (Some c) h = rw (le-ltb c.time limit h) refl

pub none_is : (limit : ℕ) (cs : List Clock) → AllByRecursion (λ d. limit ≤ d.time) cs → next_clock limit cs ≡ None
none_is limit cs h = none_if limit (first_clock cs) (none_below limit cs h)

-- nothing fires where there is no next clock, or where no more may
pub fires_none : (n limit : ℕ) (s : Stage) → next_clock limit s.clocks ≡ None → fires_below n limit s ≡ still s
unfolding fires_below
fires_none zero limit s none = refl
fires_none (suc n) limit s none = ap (fires_or_not s (fires_below n limit)) none

pub fires_one : (n limit : ℕ) (s : Stage) (c : Clock) → next_clock limit s.clocks ≡ Some c → fires_below (suc n) limit s ≡ followed_by (fires s c) (fires_below n limit)
unfolding fires_below
fires_one n limit s c is = ap (fires_or_not s (fires_below n limit)) is

pub fires_no_more : (n limit : ℕ) (s : Stage) → n ≡ 0 → fires_below n limit s ≡ still s
unfolding fires_below
fires_no_more n limit s is = rw is refl

-- where a patch stands
abbrev pub stage_with : List ℕ → Patch → Names → Base → ℕ → ℕ → ℕ → Tally → List Choice → Stage
stage_with file p names base time block_end fired tally ahead = record {
  file = file;
  net = net_of p;
  states = states_of p;
  clocks = p.timers.clocks.clocks;
  names = names;
  base = base;
  time = time;
  block_end = block_end;
  fired = fired;
  tally = tally;
  ahead = ahead;
}

-- a clock was taken off the patch
abbrev parted : List ℕ → Net → Grove → List Clock → Names → Base → ℕ → ℕ → ℕ → Tally → List Choice → Stage
parted file net grove clocks names base time block_end fired tally ahead = record {
  file = file;
  net = net;
  states = λ k. state_in (get grove.nodes k);
  clocks = clocks;
  names = names;
  base = base;
  time = time;
  block_end = block_end;
  fired = fired;
  tally = tally;
  ahead = ahead;
}

pub clocks_taken : (p p' : Patch) (file : List ℕ) (names : Names) (base : Base) (time block_end fired : ℕ) (tally : Tally) (ahead : List Choice) (cs : List Clock) → p'.grove ≡ p.grove → RestStays p p' → p'.timers.end ≡ p.timers.end
    → p'.timers.clocks.clocks ≡ cs → stage_with file p' names base time block_end fired tally ahead ≡ with_taken (stage_with file p names base time block_end fired tally ahead) cs
clocks_taken p p' file names base time block_end fired tally ahead cs grove rest end is =
    ap (λ (n : Net). parted file n p'.grove p'.timers.clocks.clocks names base time block_end fired tally ahead) (clocks-net p p' grove rest end)
    ∙ ap (λ (g : Grove). parted file (net_of p) g p'.timers.clocks.clocks names base time block_end fired tally ahead) grove
    ∙ ap (λ (c : List Clock). parted file (net_of p) p.grove c names base time block_end fired tally ahead) is

-- the time of the event was set
pub now_set : (p p' : Patch) (file : List ℕ) (names : Names) (base : Base) (time block_end fired : ℕ) (tally : Tally) (ahead : List Choice) → AllButTime p p'
    → stage_with file p' names base time block_end fired tally ahead ≡ stage_with file p names base time block_end fired tally ahead
now_set p p' file names base time block_end fired tally ahead h =
    let q : Patch = record {
      grove = p'.grove;
      web = p'.web;
      names = p'.names;
      timers = p'.timers;
      links = p'.links;
      orders = p'.orders;
      numbers = p'.numbers;
      values = p'.values;
      rate = p'.rate;
      present = p.present;
    } in
    clocks_taken p q file names base time block_end fired tally ahead p.timers.clocks.clocks h.tree
    (record { web = h.web; names = h.names; links = h.links; orders = h.orders; numbers = h.numbers; values = h.values; rate = h.rate; present = refl })
    (ap (λ t. t.end) h.timers) (ap (λ t. t.clocks.clocks) h.timers)

counted : (limit : ℕ) (s : Stage) (c : Clock) (n : ℕ) → 10000 - s.fired ≡ suc n → next_clock limit s.clocks ≡ Some c
    → fires_below (10000 - s.fired) limit s ≡ followed_by (fires s c) (fires_below n limit)
counted limit s c n is next = ap (λ (k : ℕ). fires_below k limit s) is ∙ fires_one n limit s c next

one_less : (limit : ℕ) (s : Stage) (fired : ℕ) (c : Clock) → s.fired < 10000 → next_clock limit s.clocks ≡ Some c → fired ≡ s.fired + 1
    → fires_below (10000 - s.fired) limit s ≡ followed_by (fires s c) (fires_below (10000 - fired) limit)
one_less limit s fired c few next more =
    let is : 10000 - s.fired ≡ suc (10000 - fired) = omega arith in
    counted limit s c (10000 - fired) is next

-- at a time, and with so many clocks that fired
abbrev pub timed : Stage → ℕ → ℕ → Stage
timed s time fired = record {
  file = s.file;
  net = s.net;
  states = s.states;
  clocks = s.clocks;
  names = s.names;
  base = s.base;
  time = time;
  block_end = s.block_end;
  fired = fired;
  tally = s.tally;
  ahead = s.ahead;
}

-- a clock that was taken off fires, with the time raised to its own
pub fires_so : (s : Stage) (time owner later fired : ℕ) (s' : List Choice → Stage) (x y : Sinks) → later ≡ max s.time time → fired ≡ s.fired + 1
    → Comes (λ r. event r (Firing owner)) (with_ahead (timed s later fired)) s' x y → Comes (λ r. fires_at r time owner) (with_ahead s) s' x y
fires_so s time owner later fired s' x y is more c =
    subst (λ (t : ℕ). Comes (λ r. event r (Firing owner)) (with_ahead (timed s t (s.fired + 1))) s' x y) is
    (subst (λ (n : ℕ). Comes (λ r. event r (Firing owner)) (with_ahead (timed s later n)) s' x y) more c)

pub fires_broken : (s : Stage) (time owner later fired : ℕ) (x y : Sinks) → later ≡ max s.time time → fired ≡ s.fired + 1
    → Stops (λ r. event r (Firing owner)) (with_ahead (timed s later fired)) x y → Stops (λ r. fires_at r time owner) (with_ahead s) x y
fires_broken s time owner later fired x y is more c =
    subst (λ (t : ℕ). Stops (λ r. event r (Firing owner)) (with_ahead (timed s t (s.fired + 1))) x y) is
    (subst (λ (n : ℕ). Stops (λ r. event r (Firing owner)) (with_ahead (timed s later n)) x y) more c)

-- one more has fired
pub fired_more : (s s1 : Stage) (c : Clock) (s' : List Choice → Stage) (x y : Sinks) → s1 ≡ with_taken s (taken_off s.clocks) → Comes (λ r. fires_at r c.time c.owner) (with_ahead s1) s' x y
    → (s' []).fired ≡ s.fired + 1
fired_more s s1 c s' x y taken came =
    sym (ap (λ (p : Passage). p.stage.fired) (came.same [])) ∙ (event_times (with_fired (with_ahead s1 (choices_of came.edits ++ [])) c.time) (Firing c.owner)).fired
    ∙ ap (λ (r : Stage). r.fired + 1) taken

-- a clock fires: one more of those that may
module _ (limit : ℕ) (whole : List Choice → Passage) (s s1 : Stage) (c : Clock) (x y z : Sinks) (few : s.fired < 10000) (next : next_clock limit s.clocks ≡ Some c)
    (taken : s1 ≡ with_taken s (taken_off s.clocks)) (way : Leads whole (λ m. fires_below (10000 - s.fired) limit (with_ahead s m)) x y) where
  pub clock_goes_on : (s' : List Choice → Stage) (fired : ℕ) → fired ≡ s.fired + 1 → Comes (λ r. fires_at r c.time c.owner) (with_ahead s1) s' y z
      → Leads whole (λ m. fires_below (10000 - fired) limit (s' m)) x z
  clock_goes_on s' fired more came =
      way_goes_on whole (fires_below (10000 - s.fired) limit) (λ r. fires r c) (fires_below (10000 - fired) limit) (with_ahead s) s' x y z way
      (λ m. one_less limit (with_ahead s m) fired c few next more)
      (subst (λ (r : Stage). Comes (λ q. fires_at q c.time c.owner) (with_ahead r) s' y z) taken came)

  pub clock_breaks : Stops (λ r. fires_at r c.time c.owner) (with_ahead s1) y z → BreaksOff whole x z
  clock_breaks off =
      way_breaks whole (fires_below (10000 - s.fired) limit) (λ r. fires r c) (fires_below (10000 - (s.fired + 1)) limit) (with_ahead s) x y z way
      (λ m. counted limit (with_ahead s m) c (10000 - (s.fired + 1)) (omega arith) next)
      (subst (λ (r : Stage). Stops (λ q. fires_at q c.time c.owner) (with_ahead r) y z) taken off)

-- nothing more fires
pub clocks_end : (limit n : ℕ) (whole : List Choice → Passage) (s s' : List Choice → Stage) (x y : Sinks) → ((m : List Choice) → s' m ≡ s m)
    → ((m : List Choice) → fires_below n limit (s m) ≡ still (s m)) → Leads whole (λ m. fires_below n limit (s m)) x y → Leads whole (λ m. still (s' m)) x y
clocks_end limit n whole s s' x y same none way =
    leads_to whole (λ m. fires_below n limit (s m)) (λ m. still (s' m)) x y (λ m. none m ∙ ap (λ (r : Stage). still r) (sym (same m))) way
