-- At each stage of a run a tree stands that grows again from its own document, whatever edits were made.
use Rattle.std.proofs.Common.{◌≡◌, ◌<◌, ◌≤◌, ◌+◌, ◌-◌, ◌^◌, inl, ℕ, zero, suc, Bool, true, false, nat_lt, nat_le, if◌then◌else◌, List, [], ◌∷◌, ◌++◌, length, Option, Some, None, slice_get, IfSome, refl, sym, ap, ◌∙◌, subst, arith}
use Rattle.std.proofs.lemmas.Bool.{leb-true, ltb-true}
use Rattle.pd_atom.specs.Names.{Names, Extends}
use Rattle.pd_canvas.specs.declared.edits.Edit.{Edit}
use Rattle.pd_clock.specs.declared.times.Rate.{Rate}
use Rattle.pd_clock.specs.Queue.{Clock}
use Rattle.pd_kind.specs.declared.states.State.{State}
use Rattle.pd_kind.specs.Forming.{cut_atoms}
use Rattle.pd_script.specs.declared.commands.Command.{Command}
use Rattle.pd_script.specs.declared.commands.Command.TheVariants as command
use Rattle.pd_library.specs.declared.answers.Answer.{Answer}
use Rattle.pd_library.specs.Files.{answer_in}
use Rattle.pd_turns.specs.Turns.{World}
use Rattle.pd_grove.specs.TextOrder.{keys_in_order}
use Rattle.pd_patch.specs.declared.patch.Patch.{Patch}
use Rattle.pd_patch.specs.Report.{loads_among}
use Rattle.pd_gather.specs.Gather.{GoesOn}
use Rattle.pd_hearing.specs.Worlds.{Net, Kept}
use Rattle.pd_walk.specs.Outcome.{all_loaded}
use Rattle.pd_regrowth_law.proofs.StepLemmas.{extends_same}
use Rattle.pd_regrowth_law.proofs.AgainLemmas.{library_more}
use Rattle.pd_putting_law.specs.Again.{StandsAgain}
use Rattle.pd_putting_law.proofs.AgainLemmas.{stands_on}
use Rattle.pd_put_law.proofs.OwnerLemmas.{own_more}
use Rattle.pd_steady.specs.PassedOn.{kinds_of, Base, Wanted, Asks, Choice, first_choice, later, loads_of_choice, Stage, Taken, Passage, with_names, with_ahead, still, followed_by, Beginning, Message, Firing, Loading, Left, whole, left_after, going_on, deliveries, after_deliveries, delivered, with_kept, edit_taken, loaded_by, edit_loaded_by, asked_by, edits_taken_by, edits_of_by, event, edit_event, block_units, most_fired, first_clock, next_clock, taken_off, with_taken, with_fired, fires, fires_or_not, fires_below, clocks_fire, block_net, sound_at, block_sounds, block_runs, blocks_run, time_is, comes_to, advanced, finished, message_in, commanded, first_stage, opened, IsInOrder}
use Rattle.pd_contents_law.specs.Contents.{counts_of}
use Rattle.pd_contents_law.proofs.SettledLemmas.{onward}
use Rattle.pd_contents_law.proofs.RunLemmas.{all_more, outcome_kept}
use Rattle.pd_contents_law.proofs.BlockLemmas.{block_kept}
use Rattle.pd_proper_law.specs.Saves.{IsWritten}
use Rattle.pd_steady.proofs.PassedOn.{both_on}
use Rattle.pd_steady.specs.Runs.{own_ways, finished_by}
use Rattle.pd_steady.specs.Steady.{IsSteady, IsCommand}
use Rattle.pd_steady.specs.Steps.{Step, Does, Learns, Comes, AreSteps, step_by, steps_by, run_by}
use Rattle.pd_steady.proofs.EventLemmas.{Guards, Begins, start_of, starts, outcome_is, owned_at, altered_steady, left_steady}
use Rattle.pd_steady.proofs.ExtendLemmas.{outcome_extends}
use Rattle.pd_steady.proofs.FairLemmas.{AreFair, fair_first, fair_second, taken_left}
use Rattle.pd_steady.proofs.OwnLemmas.{commanded_own, advanced_own, finished_own}
use Rattle.pd_steady.proofs.RunLemmas.{named_steady}
use Rattle.pd_steady.proofs.TreeLemmas.{taken_owned}
use Rattle.pd_steady.proofs.TimeLemmas.{below_limit, fires_end, within, below, same_end, ends_soon, steady_longer, fired_steady, timed_steady, sounds_steady}
use Rattle.pd_again_law.proofs.HeldLemmas.{Settled, IsHeld, NetHeld}
use Rattle.pd_again_law.specs.Again.{LeavesNumbers, AllLeaveNumbers}
use Rattle.pd_again_law.proofs.StandLemmas.{HasCounted, six_more, StaysProper, EditLaws, IsStanding, ahead_stands, fair_stands, stands_if}

module _ (library : List (ℕ × Answer)) (rate : Rate) (name : List ℕ) where
  pub record IsGood (clean : Type 0) (most : ℕ) (s : Stage) : Type 0 where
    pub steady : IsSteady most s
    pub stands : IsStanding library rate name clean s

  -- each edit found such a stage, by what those before it leave
  abbrev pub AreFound : Type 0 → ℕ → List Taken → Type 0
  AreFound clean most [] = Unit {0}
  AreFound clean most (t ∷ edits) = IsGood clean most t.found × AreFound (clean × LeavesNumbers t.wanted t.found t.choice) most edits

  -- a part of a run ends at one, and so each of its edits found one
  pub record EndsWell (clean : Type 0) (most : ℕ) (q : Passage) : Type 0 where
    pub stage : IsGood (clean × AllLeaveNumbers q.edits) most q.stage
    pub found : AreFound clean most q.edits

  pub good_longer : (clean : Type 0) (most more : ℕ) → most ≤ more → (s : Stage) → IsGood clean most s → IsGood clean more s
  good_longer clean most more l s h = record { steady = steady_longer most more s l h.steady; stands = h.stands }

  -- what leaves the numbers the first ones may be more
  pub good_if : (c d : Type 0) → (d → c) → (most : ℕ) (s : Stage) → IsGood c most s → IsGood d most s
  good_if c d f most s h = record { steady = h.steady; stands = stands_if library rate name c d f s h.stands }

  found_if : (c d : Type 0) → (d → c) → (most : ℕ) (edits : List Taken) → AreFound c most edits → AreFound d most edits
  found_if c d f most [] h = tt
  found_if c d f most (t ∷ edits) h =
      let leaves : Type 0 = LeavesNumbers t.wanted t.found t.choice in
      (good_if c d f most t.found h.0, found_if (c × leaves) (d × leaves) (λ k. (f k.0, k.1)) most edits h.1)

  found_append : (c : Type 0) (most : ℕ) (a b : List Taken) → AreFound c most a → AreFound (c × AllLeaveNumbers a) most b → AreFound c most (a ++ b)
  found_append c most [] b h k = found_if (c × AllLeaveNumbers []) c (λ x. (x, tt)) most b k
  found_append c most (t ∷ a) b h k =
      let leaves : Type 0 = LeavesNumbers t.wanted t.found t.choice in
      (h.0, found_append (c × leaves) most a b h.1 (found_if (c × AllLeaveNumbers (t ∷ a)) ((c × leaves) × AllLeaveNumbers a) (λ x. (x.0.0, (x.0.1, x.1))) most b k))

  both_leave : (a b : List Taken) → AllLeaveNumbers (a ++ b) → AllLeaveNumbers a × AllLeaveNumbers b
  both_leave [] b h = (tt, h)
  both_leave (t ∷ a) b h = let rest = both_leave a b h.1 in ((h.0, rest.0), rest.1)

  module _ (g : Guards) (laws : EditLaws) (most : ℕ) (top : most ≤ 2 ^ 101) where
    abbrev pub Leads : Stage → Passage → Type 1
    Leads s q = (clean : Type 0) → IsGood clean most s → AreFair q.edits → EndsWell clean most q

    here : (s : Stage) → Leads s (still s)
    here s clean h l = record { stage = good_if clean (clean × AllLeaveNumbers []) (λ k. k.0) most s h; found = tt }

    followed : (s : Stage) (q : Passage) (next : Stage → Passage) → Leads s q → Leads q.stage (next q.stage) → Leads s (followed_by q next)
    followed s q next f k clean h l =
        let more : List Taken = (next q.stage).edits in
        let left : Type 0 = clean × AllLeaveNumbers q.edits in
        let a : EndsWell clean most q = f clean h (fair_first q.edits more l) in
        let b : EndsWell left most (next q.stage) = k left a.stage (fair_second q.edits more l) in
        record {
          stage = good_if (left × AllLeaveNumbers more) (clean × AllLeaveNumbers (q.edits ++ more)) (λ x. let both = both_leave q.edits more x.1 in ((x.0, both.0), both.1))
              most (next q.stage).stage b.stage;
          found = found_append clean most q.edits more a.found b.found;
        }

    if_leads : (b : Bool) (s : Stage) (q r : Passage) → (b ≡ true → Leads s q) → Leads s r → Leads s (if b then q else r)
    if_leads true s q r f k = f refl
    if_leads false s q r f k = k

    -- an edit is found at a stage whose edits to come aren't told
    bare_good : (clean : Type 0) (s : Stage) → IsGood clean most s → IsGood clean most (with_ahead s [])
    bare_good clean s h = record { steady = altered_steady most s (with_ahead s []) h.steady (inl (inl (record { ahead = []; is = refl }))) (both_on s (with_ahead s []) refl refl refl (extends_same s.names) (owned_at most s h.steady)); stands = ahead_stands library rate name clean s [] h.stands }

    taken_good : (clean : Type 0) (wanted : Wanted) (s : Stage) → AreFair (edit_taken wanted s).edits → IsGood clean most s
        → IsGood (clean × AllLeaveNumbers (edit_taken wanted s).edits) most (edit_taken wanted s).stage
    unfolding edit_taken
    taken_good clean wanted s l h =
        let left : Type 0 = clean × AllLeaveNumbers (edit_taken wanted s).edits in
        let bare : IsGood left most (with_ahead s []) = good_if clean left (λ k. k.0) most (with_ahead s []) (bare_good clean s h) in
        record {
          steady = altered_steady most s (edit_taken wanted s).stage h.steady (taken_left wanted s l) (taken_owned wanted s l (owned_at most s h.steady));
          stands = fair_stands library rate name left laws most s (later s.ahead) bare.steady bare.stands wanted (first_choice s.ahead) (λ k. k.1.0) l.0;
        }

    taken_found : (clean : Type 0) (wanted : Wanted) (s : Stage) → IsGood clean most s → AreFound clean most (edit_taken wanted s).edits
    unfolding edit_taken
    taken_found clean wanted s h = (bare_good clean s h, tt)

    taken_leads : (wanted : Wanted) (s : Stage) → Leads s (edit_taken wanted s)
    taken_leads wanted s clean h l = record { stage = taken_good clean wanted s l h; found = taken_found clean wanted s h }

    -- names that go on
    again_on : (clean : Type 0) (s : Stage) (names : Names) (h : IsStanding library rate name clean s) → Extends s.names names → StandsAgain (answer_in s.base.files) s.file names h.tree
    again_on clean s names h x =
        stands_on (answer_in s.base.files) (answer_in s.base.files) s.file s.names names h.tree h.again (λ symbol answer e. e) x
        (library_more s.names names x (answer_in s.base.files) h.again.library)

    held_on : (clean : Type 0) (s : Stage) (names : Names) (states : ℕ → Option State) (h : IsStanding library rate name clean s) → Extends s.names names
        → ((p : Patch) → Settled p s.names s.states → Settled p names states) → NetHeld s.file names states h.tree s.net
    held_on clean s names states h x goes p tells =
        let was : IsHeld s.file s.names s.states h.tree p = h.held p tells in
        record {
          stands = was.stands;
          fit = was.fit;
          holds = was.holds;
          owners = own_more (answer_in s.base.files) s.file p s.names names h.tree was.stands h.low h.again x was.owners;
          contents = goes p was.contents;
        }

    proper_on : (clean : Type 0) (s : Stage) (names : Names) (h : IsStanding library rate name clean s) → Extends s.names names → StaysProper names h.tree
    proper_on clean s names h x more on table = h.proper more (onward s.names names more x on) table

    -- deliveries of an event, by what is left of it
    abbrev come_to : Stage → Left → Beginning → World Kept
    come_to s l b = deliveries s.net s.time (going_on s l) b

    names_on : (s : Stage) (l : Left) (b : Beginning) → Extends s.names (come_to s l b).kept.names
    names_on s l b = subst (λ (w : World Kept). Extends s.names w.kept.names) (outcome_is s.net s.time (going_on s l) b) (outcome_extends s.net s.time (going_on s l) (start_of b))

    kept_good : (clean : Type 0) (s : Stage) (l : Left) (b : Beginning) → IsGood clean most s → Begins s.names b → IsGood clean most (with_kept s (come_to s l b).kept)
    kept_good clean s l b h k =
        let on : Extends s.names (come_to s l b).kept.names = names_on s l b in
        let order : IsInOrder s.net s.time (going_on s l).kept = record {
          time = h.steady.order.time;
          first = h.steady.order.first;
          kinds = h.steady.order.kinds;
          states = h.steady.order.states;
        } in
        record {
          steady = left_steady g most s l b h.steady k;
          stands = record {
            file = h.stands.file;
            rates = h.stands.rates;
            six = six_more s.names (come_to s l b).kept.names on h.stands.six;
            tree = h.stands.tree;
            low = h.stands.low;
            again = again_on clean s (come_to s l b).kept.names h.stands on;
            proper = proper_on clean s (come_to s l b).kept.names h.stands on;
            numbers = h.stands.numbers;
            files = h.stands.files;
            counted = h.stands.counted;
            held = held_on clean s (come_to s l b).kept.names (come_to s l b).kept.states h.stands on (λ p c.
                subst (λ (w : World Kept). Settled p w.kept.names w.kept.states) (outcome_is s.net s.time (going_on s l) b)
                (outcome_kept (IsWritten p.grove) (counts_of (kinds_of p)) s.net s.time (going_on s l) (start_of b) order (starts s.names b k) h.stands.six c).contents);
          };
        }

    deliveries_lead : (s : Stage) (l : Left) (b : Beginning) → (IsSteady most s → Begins s.names b) → Leads s (after_deliveries s (come_to s l b))
    deliveries_lead s l b k clean h fair = record {
      stage = good_if clean (clean × AllLeaveNumbers []) (λ x. x.0) most (with_kept s (come_to s l b).kept) (kept_good clean s l b h (k h.steady));
      found = tt;
    }

    -- an edit with the boxes that are loaded behind it, and then the rest of the event
    module _ (rest : Left → Stage → Passage) (leads : (l : Left) (s : Stage) → Leads s (rest l s)) where
      loads_lead : (boxes : List ℕ) (l : Left) (s : Stage) → Leads s (loaded_by all_loaded boxes l rest s)
      loads_lead boxes l s =
          let w : World Kept = come_to s l (Loading boxes) in
          followed s (after_deliveries s w) (rest (left_after w)) (deliveries_lead s l (Loading boxes) (λ x. tt)) (leads (left_after w) (with_kept s w.kept))

      loaded_leads : (wanted : Wanted) (l : Left) (s : Stage) → Leads s (edit_loaded_by all_loaded wanted l rest s)
      loaded_leads wanted l s =
          let boxes : List ℕ = loads_of_choice (first_choice s.ahead) in
          followed s (edit_taken wanted s) (loaded_by all_loaded boxes l rest) (taken_leads wanted s) (loads_lead boxes l (edit_taken wanted s).stage)

      asked_leads : (l : Left) (s : Stage) (o : Option (List ℕ × Edit)) → Leads s (asked_by all_loaded rest l s o)
      asked_leads l s None = here s
      asked_leads l s (Some asked) = loaded_leads (Asks asked.0 asked.1) l s

    -- events
    edits_lead : (n place : ℕ) (l : Left) (s : Stage) → Leads s (edits_taken_by all_loaded n place l s)
    unfolding edits_taken_by
    edits_lead zero place l s = here s
    edits_lead (suc n) place l s = asked_leads (edits_taken_by all_loaded n (place + 1)) (edits_lead n (place + 1)) l s (slice_get l.asked place)

    all_lead : (l : Left) (s : Stage) → Leads s (edits_of_by all_loaded l s)
    all_lead l s = edits_lead _ 0 l s

    event_leads : (s : Stage) (b : Beginning) → (IsSteady most s → Begins s.names b) → Leads s (event s b)
    unfolding event
    event_leads s b k =
        let w : World Kept = delivered s b in
        followed s (after_deliveries s w) (edits_of_by all_loaded (left_after w)) (deliveries_lead s whole b k) (all_lead (left_after w) (with_kept s w.kept))

    edit_leads : (wanted : Wanted) (s : Stage) → Leads s (edit_event wanted s)
    unfolding edit_event
    edit_leads wanted s = loaded_leads (edits_of_by all_loaded) all_lead wanted whole s

    -- the same but for times and clocks
    same_stands : (clean : Type 0) (s r : Stage) → r.file ≡ s.file → r.net ≡ s.net → r.states ≡ s.states → r.names ≡ s.names → r.base ≡ s.base → IsStanding library rate name clean s
        → IsStanding library rate name clean r
    same_stands clean s r file net states names base h = record {
      file = file ∙ h.file;
      rates = ap (λ (n : Net). n.rate) net ∙ h.rates;
      six = subst (λ (ns : Names). 6 ≤ length ns) (sym names) h.six;
      tree = h.tree;
      low = h.low;
      again = subst (λ (b : Base). StandsAgain (answer_in b.files) r.file r.names h.tree) (sym base)
          (subst (λ (f : List ℕ). StandsAgain (answer_in s.base.files) f r.names h.tree) (sym file)
          (subst (λ (ns : Names). StandsAgain (answer_in s.base.files) s.file ns h.tree) (sym names) h.again));
      proper = subst (λ (ns : Names). StaysProper ns h.tree) (sym names) h.proper;
      numbers = h.numbers;
      files = subst (λ (b : Base). GoesOn library b.files) (sym base) h.files;
      counted = subst (λ (b : Base). HasCounted rate b h.tree) (sym base) h.counted;
      held = subst (λ (n : Net). NetHeld r.file r.names r.states h.tree n) (sym net)
          (subst (λ (f : List ℕ). NetHeld f r.names r.states h.tree s.net) (sym file)
          (subst (λ (ns : Names). NetHeld s.file ns r.states h.tree s.net) (sym names)
          (subst (λ (f : ℕ → Option State). NetHeld s.file s.names f h.tree s.net) (sym states) h.held)));
    }

    -- clocks
    fired_good : (clean : Type 0) (s : Stage) (c : Clock) → c.time ≤ most → IsGood clean most s → IsGood clean most (with_fired (with_taken s (taken_off s.clocks)) c.time)
    fired_good clean s c l h = record {
      steady = fired_steady g most top s c l h.steady;
      stands = same_stands clean s (with_fired (with_taken s (taken_off s.clocks)) c.time) refl refl refl refl refl h.stands;
    }

    fires_lead : (s : Stage) (c : Clock) → c.time ≤ most → Leads s (fires s c)
    fires_lead s c low clean h l =
        event_leads (with_fired (with_taken s (taken_off s.clocks)) c.time) (Firing c.owner) (λ x. tt) clean (fired_good clean s c low h) l

    clock_leads : (s : Stage) (rest : Stage → Passage) (limit : ℕ) (o : Option Clock) → limit ≤ most → IfSome o (λ (c : Clock). c.time < limit) → ((r : Stage) → Leads r (rest r))
        → Leads s (fires_or_not s rest o)
    clock_leads s rest limit None l low f = here s
    clock_leads s rest limit (Some c) l low f = followed s (fires s c) rest (fires_lead s c (below c.time limit most low l)) (f (fires s c).stage)

    clocks_lead : (n limit : ℕ) (s : Stage) → limit ≤ most → Leads s (fires_below n limit s)
    unfolding fires_below
    clocks_lead zero limit s l = here s
    clocks_lead (suc n) limit s l =
        clock_leads s (fires_below n limit) limit (next_clock limit s.clocks) l (below_limit limit (first_clock s.clocks)) (λ r. clocks_lead n limit r l)

    -- blocks: the blocks of outlets are others, which no patch that stands is asked for
    played_held : (clean : Type 0) (s : Stage) (h : IsStanding library rate name clean s) → NetHeld s.file s.names (block_sounds s).stage.states h.tree (block_sounds s).stage.net
    unfolding block_sounds
    played_held clean s h p tells =
        let was : IsHeld s.file s.names s.states h.tree p =
        h.held p (record { nodes = tells.nodes; boards = tells.boards; root = tells.root; web = tells.web; links = tells.links; orders = tells.orders; numbers = tells.numbers; owners = tells.owners }) in
        record {
          stands = was.stands;
          fit = was.fit;
          holds = was.holds;
          owners = was.owners;
          contents = block_kept (IsWritten p.grove) (counts_of (kinds_of p)) s.names (block_net s) (s.block_end - block_units) (sound_at s) was.contents;
        }

    sounds_lead : (s : Stage) → s.block_end ≤ most → Leads s (block_sounds s)
    unfolding block_sounds played_held
    sounds_lead s low clean h l = record {
      stage = record {
        steady = sounds_steady g most top s low h.steady;
        stands = record {
          file = h.stands.file;
          rates = h.stands.rates;
          six = h.stands.six;
          tree = h.stands.tree;
          low = h.stands.low;
          again = h.stands.again;
          proper = h.stands.proper;
          numbers = λ k. h.stands.numbers k.0;
          files = h.stands.files;
          counted = h.stands.counted;
          held = played_held clean s h.stands;
        };
      };
      found = tt;
    }

    block_leads : (s : Stage) → s.block_end ≤ most → Leads s (block_runs s)
    block_leads s low =
        let c : Passage = clocks_fire s.block_end s in
        followed s c block_sounds (clocks_lead (most_fired - s.fired) s.block_end s low)
        (sounds_lead c.stage (same_end c.stage.block_end s.block_end most (fires_end (most_fired - s.fired) s.block_end s) low))

    blocks_lead : (n to : ℕ) (s : Stage) → to ≤ most → Leads s (blocks_run n to s)
    unfolding blocks_run
    blocks_lead zero to s low = here s
    blocks_lead (suc n) to s low =
        if_leads (nat_le s.block_end to) s (followed_by (block_runs s) (blocks_run n to)) (still s)
        (λ e. let due : s.block_end ≤ to = leb-true s.block_end to e in
        followed s (block_runs s) (blocks_run n to) (block_leads s (within s.block_end to most due low)) (blocks_lead n to (block_runs s).stage low)) (here s)

    -- to a time
    timed_leads : (to : ℕ) (s : Stage) → to ≤ most → Leads s (time_is to s)
    timed_leads to s low clean h l =
        let good : IsGood clean most (time_is to s).stage =
        record { steady = timed_steady g most top s to low h.steady; stands = same_stands clean s (time_is to s).stage refl refl refl refl refl h.stands } in
        record { stage = good_if clean (clean × AllLeaveNumbers []) (λ k. k.0) most (time_is to s).stage good; found = tt }

    comes_lead : (to : ℕ) (s : Stage) → to ≤ most → Leads s (comes_to to s)
    comes_lead to s low = followed s (clocks_fire to s) (time_is to) (clocks_lead (most_fired - s.fired) to s low) (timed_leads to (clocks_fire to s).stage low)

    advanced_leads : (to : ℕ) (s : Stage) → to ≤ most → Leads s (advanced to s)
    advanced_leads to s low = followed s (blocks_run (to + 1) to s) (comes_to to) (blocks_lead (to + 1) to s low) (comes_lead to (blocks_run (to + 1) to s).stage low)

    pub finished_leads : (s : Stage) (soon : ℕ) → s.time ≤ soon → soon + block_units ≤ most → Leads s (finished s)
    finished_leads s soon time l =
        if_leads (nat_lt s.block_end (s.time + block_units)) s (block_runs s) (still s)
        (λ e. let due : s.block_end < s.time + block_units = ltb-true s.block_end (s.time + block_units) e in
        block_leads s (within s.block_end (soon + block_units) most (ends_soon s.block_end s.time soon due time) l)) (here s)

    -- commands
    commanded_leads : (c : Command) (s : Stage) → IsCommand s.names c → Leads s (commanded c s)
    unfolding commanded
    commanded_leads (command.Send name atoms) s k = λ clean h l.
        let b : Beginning = Message name (message_in atoms).selector (cut_atoms (message_in atoms).atoms) in
        let e : EndsWell clean most (event s b) = event_leads s b (λ x. g.begins s.names name atoms x.order.first k.0 k.1) clean h l in
        record { stage = e.stage; found = e.found }
    commanded_leads (command.Edit place edit) s k = edit_leads _ s
    commanded_leads (command.Save document) s k = edit_leads _ s
    commanded_leads (command.Show path) s k = λ clean h l. record { stage = good_if clean (clean × AllLeaveNumbers []) (λ x. x.0) most s h; found = tt }
    commanded_leads command.Undo s k = edit_leads _ s
    commanded_leads command.Redo s k = edit_leads _ s

    -- steps
    same_leads : (s : Stage) (q r : Passage) → q ≡ r → Leads s r → Leads s q
    same_leads s q r e f = subst (λ (x : Passage). Leads s x) (sym e) f

    named_good : (clean : Type 0) (s : Stage) (names : Names) → Extends s.names names → IsGood clean most s → IsGood clean most (with_names s names)
    named_good clean s names x h = record {
      steady = named_steady most s names h.steady x;
      stands = record {
        file = h.stands.file;
        rates = h.stands.rates;
        six = six_more s.names names x h.stands.six;
        tree = h.stands.tree;
        low = h.stands.low;
        again = again_on clean s names h.stands x;
        proper = proper_on clean s names h.stands x;
        numbers = h.stands.numbers;
        files = h.stands.files;
        counted = h.stands.counted;
        held = held_on clean s names s.states h.stands x (λ p c. all_more (IsWritten p.grove) (counts_of (kinds_of p)) s.names names x s.states c);
      };
    }

    learns : (s : Stage) (names : Names) → Extends s.names names → Leads s (still (with_names s names))
    learns s names x clean h l = record { stage = good_if clean (clean × AllLeaveNumbers []) (λ k. k.0) most (with_names s names) (named_good clean s names x h); found = tt }

    pub steps_lead : (xs : List Step) (s : Stage) → AreSteps most xs s → Leads s (steps_by own_ways xs s)
    steps_lead [] s k = here s
    steps_lead (Does c ∷ xs) s k =
        followed s (step_by own_ways (Does c) s) (steps_by own_ways xs) (same_leads s (step_by own_ways (Does c) s) (commanded c s) (commanded_own c s) (commanded_leads c s k.0))
        (steps_lead xs (step_by own_ways (Does c) s).stage k.1)
    steps_lead (Learns names ∷ xs) s k =
        followed s (step_by own_ways (Learns names) s) (steps_by own_ways xs) (learns s names k.0) (steps_lead xs (step_by own_ways (Learns names) s).stage k.1)
    steps_lead (Comes to ∷ xs) s k =
        followed s (step_by own_ways (Comes to) s) (steps_by own_ways xs) (same_leads s (step_by own_ways (Comes to) s) (advanced to s) (advanced_own to s) (advanced_leads to s k.0))
        (steps_lead xs (step_by own_ways (Comes to) s).stage k.1)

    -- where a patch opens
    pub opened_leads : (file : List ℕ) (p : Patch) (table : Names) (base : Base) (ahead : List Choice) → Leads (first_stage file p table base ahead) (opened file p table base ahead)
    opened_leads file p table base ahead clean h l =
        let s : Stage = first_stage file p table base ahead in
        let b : Beginning = Loading (loads_among p.grove (keys_in_order p.grove)) in
        let e : EndsWell clean most (event s b) = event_leads s b (λ x. tt) clean h l in
        record { stage = e.stage; found = e.found }

  -- whole runs
  longer_found : (clean : Type 0) (most more : ℕ) → most ≤ more → (edits : List Taken) → AreFound clean most edits → AreFound clean more edits
  longer_found clean most more l [] h = tt
  longer_found clean most more l (t ∷ edits) h =
      (good_longer clean most more l t.found h.0, longer_found (clean × LeavesNumbers t.wanted t.found t.choice) most more l edits h.1)

  pub one_block : (most : ℕ) → most ≤ most + block_units
  one_block most = omega arith

  in_time : (most : ℕ) → most + block_units ≤ 2 ^ 101 → most ≤ 2 ^ 101
  in_time most h = omega (arith, h)

  same_most : (n : ℕ) → n + block_units ≤ n + block_units
  same_most n = omega arith

  pub last_found : (g : Guards) (laws : EditLaws) (clean : Type 0) (most : ℕ) → most + block_units ≤ 2 ^ 101 → (r : Stage) → IsGood clean most r → AreFair (finished_by own_ways r).edits
      → AreFound clean (most + block_units) (finished_by own_ways r).edits
  last_found g laws clean most top r h l =
      (same_leads g laws (most + block_units) top r (finished_by own_ways r) (finished r) (finished_own r)
      (finished_leads g laws (most + block_units) top r most h.steady.time (same_most most)) clean (good_longer clean most (most + block_units) (one_block most) r h) l).found

  -- two parts, the second of which may be longer
  pub both_found : (clean : Type 0) (most more : ℕ) → most ≤ more → (a b : List Taken) → AreFound clean most a → AreFound (clean × AllLeaveNumbers a) more b → AreFound clean more (a ++ b)
  both_found clean most more l a b h k = found_append clean more a b (longer_found clean most more l a h) k

  -- opening, and then steps
  pub steps_found : (g : Guards) (laws : EditLaws) (file : List ℕ) (p : Patch) (table : Names) (base : Base) (ahead : List Choice) (xs : List Step) (clean : Type 0) (most : ℕ) → most ≤ 2 ^ 101
      → IsGood clean most (first_stage file p table base ahead) → AreSteps most xs (opened file p table base ahead).stage
      → AreFair (followed_by (opened file p table base ahead) (steps_by own_ways xs)).edits → EndsWell clean most (followed_by (opened file p table base ahead) (steps_by own_ways xs))
  steps_found g laws file p table base ahead xs clean most low h k l =
      followed g laws most low (first_stage file p table base ahead) (opened file p table base ahead) (steps_by own_ways xs) (opened_leads g laws most low file p table base ahead)
      (steps_lead g laws most low xs (opened file p table base ahead).stage k) clean h l

  pub run_found : (g : Guards) (laws : EditLaws) (file : List ℕ) (p : Patch) (table : Names) (base : Base) (ahead : List Choice) (xs : List Step) (clean : Type 0) (most : ℕ) → most + block_units ≤ 2 ^ 101
      → IsGood clean most (first_stage file p table base ahead) → AreSteps most xs (opened file p table base ahead).stage → AreFair (run_by own_ways file p table base ahead xs).edits
      → AreFound clean (most + block_units) (run_by own_ways file p table base ahead xs).edits
  run_found g laws file p table base ahead xs clean most top h k l =
      let o : Passage = opened file p table base ahead in
      let b : Passage = followed_by o (steps_by own_ways xs) in
      let last : Passage = finished_by own_ways b.stage in
      let low : most ≤ 2 ^ 101 = in_time most top in
      let first : EndsWell clean most b =
      steps_found g laws file p table base ahead xs clean most low h k (fair_first b.edits last.edits l) in
      both_found clean most (most + block_units) (one_block most) b.edits last.edits first.found
      (last_found g laws (clean × AllLeaveNumbers b.edits) most top b.stage first.stage (fair_second b.edits last.edits l))
