-- Events, and where the patch stands after them.
use Rattle.std.proofs.Common.{Bool, false, ◌≡◌, ℕ, List, [], refl, sym, ◌∙◌, ap, subst, Option}
use Rattle.std.proofs.lemmas.List.{append-nil}
use Rattle.pd_io.specs.Stream.{grown, TookPart}
use Rattle.pd_io.specs.declared.files.FileRow.{FileRow}
use Rattle.pd_queue.specs.Queue.{Waiting}
use Rattle.pd_turns.specs.Turns.{World}
use Rattle.pd_walk.specs.declared.walker.Budget.{Budget}
use Rattle.pd_walk.specs.declared.walker.Start.{Start}
use Rattle.pd_walk.specs.declared.walker.Start.TheVariants as start
use Rattle.pd_hearing.specs.Worlds.{Net, Kept}
use Rattle.pd_walk.specs.Outcome.{all_loaded, outcome, world, IsLeft}
use Rattle.pd_stage.specs.Choices.{Choice}
use Rattle.pd_stage.specs.Stages.{Stage, Passage, with_ahead, still, followed_by}
use Rattle.pd_stage.specs.Leads.{Sinks, sinks, Leads, Comes, Stops}
use Rattle.pd_stage.specs.Events.{Beginning, Loading, Left, whole, left_after, kept_with, going_on, beginning_of, deliveries, delivered, begun, with_kept, after_deliveries, edits_of_by, event_after_by, event}
use Rattle.pd_stage.specs.Items.{Item, said}
use Rattle.pd_stage.proofs.LeadLemmas.{took_said, leads_under, leads_then, broke_after, stops_first, written_breaks}
use Rattle.pd_engine.specs.Edits.{left_of, IsLoadedSo, IsLoadedPart}

pub outcome_is : (net : Net) (now : ℕ) (w : World Kept) (st : Start) → outcome net now w st ≡ deliveries net now w (beginning_of st)
unfolding outcome
outcome_is net now w (start.Name name message) = refl
outcome_is net now w (start.Clock owner) = refl
outcome_is net now w (start.Loads boxes) = refl

stays : (s s' : Stage) (q : Waiting) → s'.file ≡ s.file → s'.net ≡ s.net → s'.base ≡ s.base → s'.time ≡ s.time → s'.block_end ≡ s.block_end → s'.fired ≡ s.fired → s'.tally ≡ s.tally
    → (more : List Choice) → with_ahead s' more ≡ with_kept (with_ahead s more) (record { states = s'.states; clocks = s'.clocks; names = s'.names; queue = q })
stays s s' q file net base time block_end fired tally more = rw (file, net, base, time, block_end, fired, tally) refl

-- deliveries are done
delivers : (s s' : Stage) (w : World Kept) (queue : Waiting) (t₁ t₂ u : Option (List ℕ)) (k : ℕ) (h : Option (List FileRow)) (f : ℕ) → kept_with s' queue ≡ w.kept → t₂ ≡ grown t₁ w.said
    → s'.file ≡ s.file → s'.net ≡ s.net → s'.base ≡ s.base → s'.time ≡ s.time → s'.block_end ≡ s.block_end → s'.fired ≡ s.fired → s'.tally ≡ s.tally
    → Comes (λ x. after_deliveries x w) (with_ahead s) (with_ahead s') (sinks t₁ u k h f) (sinks t₂ u k h f)
delivers s s' w queue t₁ t₂ u k h f kept says file net base time block_end fired tally = record {
  items = said w.said;
  edits = [];
  same = λ more.
      ap (λ (x : Kept). record { stage = with_kept (with_ahead s more) x; items = said w.said; edits = [] }) (sym kept)
      ∙ ap (λ (r : Stage). record { stage = r; items = said w.said; edits = [] }) (sym (stays s s' queue file net base time block_end fired tally more))
      ∙ ap (λ (i : List Item). record { stage = with_ahead s' more; items = i; edits = [] }) (sym (append-nil (said w.said)));
  took = took_said t₁ t₂ u k h f w.said says;
  lawful = tt;
  by_folder = tt;
}

-- where an event goes on, with what is left of it
module _ (s s' : Stage) (l : Left) (queue : Waiting) (budget : Budget) (w : World Kept) (t₁ t₂ u : Option (List ℕ)) (k : ℕ) (h : Option (List FileRow)) (f : ℕ) where
  -- the lines of deliveries were taken in part
  deliveries_broke : TookPart t₁ t₂ w.said → Stops (λ x. after_deliveries x w) (with_ahead s) (sinks t₁ u k h f) (sinks t₂ u k h f)
  deliveries_broke took = written_breaks (λ m. with_kept (with_ahead s m) w.kept) w.said t₁ t₂ u k h f took

  pub rest_breaks : (rest : Left → Stage → Passage) → TookPart t₁ t₂ w.said
      → Stops (λ x. followed_by (after_deliveries x w) (rest (left_after w))) (with_ahead s) (sinks t₁ u k h f) (sinks t₂ u k h f)
  rest_breaks rest took = stops_first (λ x. after_deliveries x w) (rest (left_after w)) (with_ahead s) (sinks t₁ u k h f) (sinks t₂ u k h f) (deliveries_broke took)

  module _ (left : IsLeft (kept_with s' queue) budget t₁ t₂ w)
      (file : s'.file ≡ s.file) (net : s'.net ≡ s.net) (base : s'.base ≡ s.base) (time : s'.time ≡ s.time) (block_end : s'.block_end ≡ s.block_end) (fired : s'.fired ≡ s.fired) (tally : s'.tally ≡ s.tally) where
    comes : Comes (λ x. after_deliveries x w) (with_ahead s) (with_ahead s') (sinks t₁ u k h f) (sinks t₂ u k h f)
    comes = delivers s s' w queue t₁ t₂ u k h f left.kept_is left.said file net base time block_end fired tally

    -- this is left
    left_is : left_after w ≡ left_of budget queue
    left_is =
        ap (λ (n : ℕ). record { budget = record { left = n; cut = w.cut }; asked = w.kept.queue }) (sym left.left)
        ∙ ap (λ (c : Bool). record { budget = record { left = budget.left; cut = c }; asked = w.kept.queue }) (sym left.cut)
        ∙ ap (λ (x : Kept). record { budget = budget; asked = x.queue }) (sym left.kept_is)

    pub rest_leads : (rest : Left → Stage → Passage)
        → Leads (λ m. followed_by (after_deliveries (with_ahead s m) w) (rest (left_after w))) (λ m. rest (left_of budget queue) (with_ahead s' m)) (sinks t₁ u k h f) (sinks t₂ u k h f)
    rest_leads rest =
        subst (λ (v : Left). Leads (λ m. followed_by (after_deliveries (with_ahead s m) w) (rest (left_after w))) (λ m. rest v (with_ahead s' m)) (sinks t₁ u k h f) (sinks t₂ u k h f)) left_is
        (leads_under (λ m. after_deliveries (with_ahead s m) w) (λ m. still (with_ahead s' m)) (rest (left_after w)) (sinks t₁ u k h f) (sinks t₂ u k h f) comes)

-- boxes are loaded
module _ (s s' : Stage) (st : Start) (boxes : List ℕ) (is : beginning_of st ≡ Loading boxes) (q queue : Waiting) (b budget : Budget) (t₁ t₂ u : Option (List ℕ)) (k : ℕ) (h : Option (List FileRow)) (f : ℕ) where
  abbrev loaded : World Kept
  loaded = all_loaded s.net s.time (going_on s (left_of b q)) boxes

  loaded_is : outcome s.net s.time (world (kept_with s q) b []) st ≡ loaded
  loaded_is = outcome_is s.net s.time (going_on s (left_of b q)) st ∙ ap (λ (v : Beginning). deliveries s.net s.time (going_on s (left_of b q)) v) is

  pub loads_lead : IsLeft (kept_with s' queue) budget t₁ t₂ (outcome s.net s.time (world (kept_with s q) b []) st)
      → s'.file ≡ s.file → s'.net ≡ s.net → s'.base ≡ s.base → s'.time ≡ s.time → s'.block_end ≡ s.block_end → s'.fired ≡ s.fired → s'.tally ≡ s.tally
      → IsLoadedSo boxes (left_of b q) (left_of budget queue) (with_ahead s) (with_ahead s') (sinks t₁ u k h f) (sinks t₂ u k h f)
  loads_lead left file net base time block_end fired tally = λ rest.
      rest_leads s s' (left_of b q) queue budget loaded t₁ t₂ u k h f (subst (λ (v : World Kept). IsLeft (kept_with s' queue) budget t₁ t₂ v) loaded_is left) file net base time block_end fired tally rest

  pub loads_break : TookPart t₁ t₂ (outcome s.net s.time (world (kept_with s q) b []) st).said → IsLoadedPart boxes (left_of b q) (with_ahead s) (sinks t₁ u k h f) (sinks t₂ u k h f)
  loads_break took = λ rest. rest_breaks s s (left_of b q) queue budget loaded t₁ t₂ u k h f rest (subst (λ (v : World Kept). TookPart t₁ t₂ v.said) loaded_is took)

-- an event: its deliveries, and then the edits that were asked for
module _ (s s' : Stage) (st : Start) (q queue : Waiting) (b budget : Budget) (t₁ t₂ u : Option (List ℕ)) (k : ℕ) (h : Option (List FileRow)) (f : ℕ)
    (none : q ≡ []) (full : b ≡ record { left = 1000000; cut = false }) where
  abbrev w : World Kept
  w = delivered s (beginning_of st)

  final_is : outcome s.net s.time (world (kept_with s q) b []) st ≡ w
  final_is = ap (λ (l : Left). outcome s.net s.time (going_on s l) st) (rw (none, full) refl) ∙ outcome_is s.net s.time (begun s) st

  module _ (left : IsLeft (kept_with s' queue) budget t₁ t₂ (outcome s.net s.time (world (kept_with s q) b []) st))
      (file : s'.file ≡ s.file) (net : s'.net ≡ s.net) (base : s'.base ≡ s.base) (time : s'.time ≡ s.time) (block_end : s'.block_end ≡ s.block_end) (fired : s'.fired ≡ s.fired) (tally : s'.tally ≡ s.tally) where
    abbrev there : List Choice → Stage
    there = with_ahead s'

    gone_on : Leads (λ m. event_after_by all_loaded (with_ahead s m) w) (λ m. edits_of_by all_loaded (left_of budget queue) (there m)) (sinks t₁ u k h f) (sinks t₂ u k h f)
    gone_on = rest_leads s s' whole queue budget w t₁ t₂ u k h f (subst (λ (v : World Kept). IsLeft (kept_with s' queue) budget t₁ t₂ v) final_is left) file net base time block_end fired tally (edits_of_by all_loaded)

    pub event_comes : (s₂ : List Choice → Stage) (z : Sinks) → Comes (edits_of_by all_loaded (left_of budget queue)) there s₂ (sinks t₂ u k h f) z
        → Comes (λ x. event x (beginning_of st)) (with_ahead s) s₂ (sinks t₁ u k h f) z
    unfolding event
    event_comes s₂ z c =
        leads_then (λ m. event_after_by all_loaded (with_ahead s m) w) (λ m. edits_of_by all_loaded (left_of budget queue) (there m)) (λ m. still (s₂ m)) (sinks t₁ u k h f) (sinks t₂ u k h f) z gone_on c

    pub event_breaks_late : (z : Sinks) → Stops (edits_of_by all_loaded (left_of budget queue)) there (sinks t₂ u k h f) z
        → Stops (λ x. event x (beginning_of st)) (with_ahead s) (sinks t₁ u k h f) z
    unfolding event
    event_breaks_late z c =
        broke_after (λ m. event_after_by all_loaded (with_ahead s m) w) (λ m. edits_of_by all_loaded (left_of budget queue) (there m)) (sinks t₁ u k h f) (sinks t₂ u k h f) z gone_on c

  pub event_breaks : TookPart t₁ t₂ (outcome s.net s.time (world (kept_with s q) b []) st).said → Stops (λ x. event x (beginning_of st)) (with_ahead s) (sinks t₁ u k h f) (sinks t₂ u k h f)
  unfolding event
  event_breaks took = rest_breaks s s whole queue budget w t₁ t₂ u k h f (edits_of_by all_loaded) (subst (λ (v : World Kept). TookPart t₁ t₂ v.said) final_is took)
