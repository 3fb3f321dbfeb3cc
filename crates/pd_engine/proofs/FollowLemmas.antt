-- What follows behind an edit: the boxes that are loaded, and the edits that were asked for.
use Rattle.std.proofs.Common.{◌≡◌, false, ℕ, zero, suc, ◌+◌, List, [], ◌∷◌, ◌++◌, refl, sym, ◌∙◌, ap, subst, Option, Some, None, slice_get}
use Rattle.std.proofs.lemmas.List.{append-nil}
use Rattle.pd_canvas.specs.declared.edits.Edit.{Edit}
use Rattle.pd_queue.specs.Queue.{Waiting, most}
use Rattle.pd_walk.specs.declared.walker.Budget.{Budget}
use Rattle.pd_walk.specs.Outcome.{all_loaded}
use Rattle.pd_stage.specs.Items.{said}
use Rattle.pd_stage.specs.Choices.{Wanted, Asks, Choice, first_choice, loads_of_choice}
use Rattle.pd_stage.specs.Stages.{Stage, Taken, Passage, choices_of, still, followed_by}
use Rattle.pd_stage.specs.Leads.{Sinks, Leads, Comes, Stops}
use Rattle.pd_stage.specs.Events.{Left, whole, edit_taken, loaded_by, edit_loaded_by, asked_by, edits_taken_by, edits_of_by, edit_event}
use Rattle.pd_stage.proofs.LeadLemmas.{after-joined, begins_more, leads_begin, leads_then, leads_same, leads_to, broke_after, broke_same}
use Rattle.pd_engine.specs.declared.refusals.Outcome.{Outcome}
use Rattle.pd_engine.specs.Commands.{first_outcome}
use Rattle.pd_engine.specs.Edits.{first_loads, left_of, IsTakenSo, IsEvent, IsLoadedSo, IsLoadedPart, IsAskedSo, IsAskedPart}

-- ---- where nothing is loaded, and nothing was asked for

pub nothing_loaded : (l : Left) (rest : Left → Stage → Passage) (s : Stage) → loaded_by all_loaded [] l rest s ≡ rest l s
unfolding said
nothing_loaded l rest s = refl

pub nothing_asked : (n place : ℕ) (l : Left) (s : Stage) → slice_get l.asked place ≡ None → edits_taken_by all_loaded n place l s ≡ still s
unfolding edits_taken_by
nothing_asked zero place l s none = refl
nothing_asked (suc n) place l s none = ap (λ (o : Option (List ℕ × Edit)). asked_by all_loaded (edits_taken_by all_loaded n (place + 1)) l s o) none

pub no_more_asked : (place : ℕ) (l : Left) (s : Stage) → edits_taken_by all_loaded zero place l s ≡ still s
unfolding edits_taken_by
no_more_asked place l s = refl

-- the edit at a place, and then those at the places behind it
pub next_asked : (n place : ℕ) (l : Left) (s : Stage) → edits_taken_by all_loaded (suc n) place l s ≡ asked_by all_loaded (edits_taken_by all_loaded n (place + 1)) l s (slice_get l.asked place)
unfolding edits_taken_by
next_asked n place l s = refl

-- ---- an edit, and what is loaded behind it

module _ (wanted : Wanted) (from to : List Choice → Stage) (x y : Sinks) (c : Comes (edit_taken wanted) from to x y) where
  -- the log has this edit alone
  one_taken : (more : List Choice) → record { found = record (from (choices_of c.edits ++ more)) { ahead = [] }; wanted = wanted; choice = first_choice (from (choices_of c.edits ++ more)).ahead } ∷ [] ≡ c.edits
  unfolding edit_taken
  one_taken more = ap (λ (p : Passage). p.edits) (c.same more) ∙ append-nil c.edits

  -- and so the boxes that are loaded behind it are those that the log tells
  loads_are : (more : List Choice) → loads_of_choice (first_choice (from (choices_of c.edits ++ more)).ahead) ≡ first_loads c.edits
  loads_are more = ap first_loads (one_taken more)

  first_is : (others : List Taken) → first_outcome (c.edits ++ others) ≡ first_outcome c.edits
  first_is others = subst (λ (e : List Taken). first_outcome (e ++ others) ≡ first_outcome e) (one_taken []) refl

  -- it was taken, and this is loaded behind it
  unfoldable taken_leads : (loads : List ℕ) → loads ≡ first_loads c.edits → (l : Left) (rest : Left → Stage → Passage)
      → Leads (λ m. edit_loaded_by all_loaded wanted l rest (from m)) (λ m. loaded_by all_loaded loads l rest (to m)) x y
  taken_leads loads are l rest = record {
    items = c.items;
    edits = c.edits;
    same = λ more.
        let s : Stage = from (choices_of c.edits ++ more) in
        let g : Stage → Passage = loaded_by all_loaded loads l rest in
        ap (λ (boxes : List ℕ). followed_by (edit_taken wanted s) (loaded_by all_loaded boxes l rest)) (loads_are more ∙ sym are)
        ∙ ap (λ (p : Passage). followed_by p g) (c.same more) ∙ after-joined c.items c.edits (still (to more)) (g (to more));
    took = c.took;
    lawful = c.lawful;
    by_folder = c.by_folder;
  }

-- it broke off
pub taken_breaks : (wanted : Wanted) (l : Left) (rest : Left → Stage → Passage) (from : List Choice → Stage) (x y : Sinks) → Stops (edit_taken wanted) from x y
    → Stops (edit_loaded_by all_loaded wanted l rest) from x y
taken_breaks wanted l rest from x y a = record {
  items = a.items;
  edits = a.edits;
  begins = λ more.
      let s : Stage = from (choices_of a.edits ++ more) in
      begins_more a.items a.edits (edit_taken wanted s) (loaded_by all_loaded (loads_of_choice (first_choice s.ahead)) l rest (edit_taken wanted s).stage) (a.begins more);
  took = a.took;
  lawful = a.lawful;
  by_folder = a.by_folder;
}

-- ---- an edit that is an event

module _ (wanted : Wanted) (o : Outcome) (loads : List ℕ) (from mid : List Choice → Stage) (x y z : Sinks) (so : IsTakenSo wanted o loads from mid x y) where
  pub event_so : (to : List Choice → Stage) → Comes (loaded_by all_loaded loads whole (edits_of_by all_loaded)) mid to y z → IsEvent wanted o from to x z
  unfolding edit_event leads_then taken_leads
  event_so to k =
      let h : Leads (λ m. edit_loaded_by all_loaded wanted whole (edits_of_by all_loaded) (from m)) (λ m. loaded_by all_loaded loads whole (edits_of_by all_loaded) (mid m)) x y =
      taken_leads wanted from mid x y so.comes loads so.loads_are whole (edits_of_by all_loaded) in
      record {
        comes = leads_then (λ m. edit_loaded_by all_loaded wanted whole (edits_of_by all_loaded) (from m)) (λ m. loaded_by all_loaded loads whole (edits_of_by all_loaded) (mid m)) (λ m. still (to m)) x y z h k;
        answer = so.answer ∙ sym (first_is wanted from mid x y so.comes k.edits);
      }

  pub event_broke : Stops (loaded_by all_loaded loads whole (edits_of_by all_loaded)) mid y z → Stops (edit_event wanted) from x z
  unfolding edit_event
  event_broke k =
      broke_after (λ m. edit_loaded_by all_loaded wanted whole (edits_of_by all_loaded) (from m)) (λ m. loaded_by all_loaded loads whole (edits_of_by all_loaded) (mid m)) x y z
      (taken_leads wanted from mid x y so.comes loads so.loads_are whole (edits_of_by all_loaded)) k

-- nothing follows it
nothing_follows : (s : Stage) → loaded_by all_loaded [] whole (edits_of_by all_loaded) s ≡ still s
nothing_follows s = nothing_loaded whole (edits_of_by all_loaded) s ∙ nothing_asked most 0 whole s refl

pub alone_so : (wanted : Wanted) (o : Outcome) (from to : List Choice → Stage) (x y : Sinks) → IsTakenSo wanted o [] from to x y → IsEvent wanted o from to x y
alone_so wanted o from to x y so =
    event_so wanted o [] from to x y y so to
    (leads_same (λ m. still (to m)) (λ m. loaded_by all_loaded [] whole (edits_of_by all_loaded) (to m)) (λ m. still (to m)) y y (λ m. nothing_follows (to m)) (leads_begin (λ m. still (to m)) y))

pub event_broke_first : (wanted : Wanted) (from : List Choice → Stage) (x y : Sinks) → Stops (edit_taken wanted) from x y → Stops (edit_event wanted) from x y
unfolding edit_event
event_broke_first wanted from x y k = taken_breaks wanted whole (edits_of_by all_loaded) from x y k

-- ---- the edit at a place of those that were asked for

module _ (place : ℕ) (l : Left) (asked : List ℕ × Edit) (is : slice_get l.asked place ≡ Some asked) (from : List Choice → Stage) (x y z : Sinks) where
  asked_is : (rest : Left → Stage → Passage) (s : Stage) → asked_by all_loaded rest l s (slice_get l.asked place) ≡ edit_loaded_by all_loaded (Asks asked.0 asked.1) l rest s
  asked_is rest s = ap (λ (e : Option (List ℕ × Edit)). asked_by all_loaded rest l s e) is

  pub asked_broke_first : Stops (edit_taken (Asks asked.0 asked.1)) from x y → IsAskedPart place l from x y
  asked_broke_first k = λ rest.
      broke_same (λ m. edit_loaded_by all_loaded (Asks asked.0 asked.1) l rest (from m)) (λ m. asked_by all_loaded rest l (from m) (slice_get l.asked place)) x y (λ m. asked_is rest (from m))
      (taken_breaks (Asks asked.0 asked.1) l rest from x y k)

  module _ (o : Outcome) (loads : List ℕ) (mid : List Choice → Stage) (so : IsTakenSo (Asks asked.0 asked.1) o loads from mid x y) where
    taken : (rest : Left → Stage → Passage) → Leads (λ m. asked_by all_loaded rest l (from m) (slice_get l.asked place)) (λ m. loaded_by all_loaded loads l rest (mid m)) x y
    taken rest =
        leads_same (λ m. edit_loaded_by all_loaded (Asks asked.0 asked.1) l rest (from m)) (λ m. asked_by all_loaded rest l (from m) (slice_get l.asked place)) (λ m. loaded_by all_loaded loads l rest (mid m)) x y
        (λ m. asked_is rest (from m)) (taken_leads (Asks asked.0 asked.1) from mid x y so.comes loads so.loads_are l rest)

    pub asked_loaded : (l' : Left) (to : List Choice → Stage) → IsLoadedSo loads l l' mid to y z → IsAskedSo place l l' from to x z
    asked_loaded l' to k = λ rest.
        leads_then (λ m. asked_by all_loaded rest l (from m) (slice_get l.asked place)) (λ m. loaded_by all_loaded loads l rest (mid m)) (λ m. rest l' (to m)) x y z (taken rest) (k rest)

    pub asked_broke : IsLoadedPart loads l mid y z → IsAskedPart place l from x z
    asked_broke k = λ rest. broke_after (λ m. asked_by all_loaded rest l (from m) (slice_get l.asked place)) (λ m. loaded_by all_loaded loads l rest (mid m)) x y z (taken rest) (k rest)

  -- nothing is loaded behind it
  pub asked_alone : (o : Outcome) (to : List Choice → Stage) → IsTakenSo (Asks asked.0 asked.1) o [] from to x y → IsAskedSo place l l from to x y
  asked_alone o to so = λ rest.
      leads_to (λ m. asked_by all_loaded rest l (from m) (slice_get l.asked place)) (λ m. loaded_by all_loaded [] l rest (to m)) (λ m. rest l (to m)) x y (λ m. nothing_loaded l rest (to m))
      (taken o [] to so rest)

-- ---- all of them, one after the other

abbrev pub Way : Left → (n place : ℕ) → Left → (from to : List Choice → Stage) → Sinks → Sinks → Type 0
Way first n place l from to x y = Leads (λ m. edits_of_by all_loaded first (from m)) (λ m. edits_taken_by all_loaded n place l (to m)) x y

module _ (first : Left) (n place : ℕ) (l : Left) (from mid : List Choice → Stage) (x y z : Sinks) where
  pub way_on : (l' : Left) (to : List Choice → Stage) → Way first (suc n) place l from mid x y → IsAskedSo place l l' mid to y z → Way first n (place + 1) l' from to x z
  way_on l' to h k =
      let rest : Left → Stage → Passage = edits_taken_by all_loaded n (place + 1) in
      leads_then (λ m. edits_of_by all_loaded first (from m)) (λ m. edits_taken_by all_loaded (suc n) place l (mid m)) (λ m. rest l' (to m)) x y z h
      (leads_same (λ m. asked_by all_loaded rest l (mid m) (slice_get l.asked place)) (λ m. edits_taken_by all_loaded (suc n) place l (mid m)) (λ m. rest l' (to m)) y z (λ m. next_asked n place l (mid m)) (k rest))

  pub way_broke : Way first (suc n) place l from mid x y → IsAskedPart place l mid y z → Stops (edits_of_by all_loaded first) from x z
  way_broke h k =
      let rest : Left → Stage → Passage = edits_taken_by all_loaded n (place + 1) in
      broke_after (λ m. edits_of_by all_loaded first (from m)) (λ m. edits_taken_by all_loaded (suc n) place l (mid m)) x y z h
      (broke_same (λ m. asked_by all_loaded rest l (mid m) (slice_get l.asked place)) (λ m. edits_taken_by all_loaded (suc n) place l (mid m)) y z (λ m. next_asked n place l (mid m)) (k rest))

  pub way_over : Way first n place l from mid x y → slice_get l.asked place ≡ None → Comes (edits_of_by all_loaded first) from mid x y
  way_over h none =
      leads_to (λ m. edits_of_by all_loaded first (from m)) (λ m. edits_taken_by all_loaded n place l (mid m)) (λ m. still (mid m)) x y (λ m. nothing_asked n place l (mid m) none) h

pub way_full : (first : Left) (place : ℕ) (l : Left) (from mid : List Choice → Stage) (x y : Sinks) → Way first zero place l from mid x y → Comes (edits_of_by all_loaded first) from mid x y
way_full first place l from mid x y h =
    leads_to (λ m. edits_of_by all_loaded first (from m)) (λ m. edits_taken_by all_loaded zero place l (mid m)) (λ m. still (mid m)) x y (λ m. no_more_asked place l (mid m)) h

-- ---- what follows an edit that is an event

module _ (loads : List ℕ) (b : Budget) (q : Waiting) (from : List Choice → Stage) (x y z : Sinks) (full : b ≡ record { left = 1000000; cut = false }) (none : q ≡ []) where
  abbrev follows : Left → Stage → Passage
  follows l = loaded_by all_loaded loads l (edits_of_by all_loaded)

  first_left : left_of b q ≡ whole
  first_left = rw (full, none) refl

  pub follow_broke_first : IsLoadedPart loads (left_of b q) from x y → Stops (follows whole) from x y
  follow_broke_first k = subst (λ (l : Left). Stops (follows l) from x y) first_left (k (edits_of_by all_loaded))

  module _ (l : Left) (mid : List Choice → Stage) (k : IsLoadedSo loads (left_of b q) l from mid x y) where
    pub follow_so : (to : List Choice → Stage) → Comes (edits_of_by all_loaded l) mid to y z → Comes (follows whole) from to x z
    follow_so to e =
        subst (λ (v : Left). Comes (follows v) from to x z) first_left
        (leads_then (λ m. follows (left_of b q) (from m)) (λ m. edits_of_by all_loaded l (mid m)) (λ m. still (to m)) x y z (k (edits_of_by all_loaded)) e)

    pub follow_broke : Stops (edits_of_by all_loaded l) mid y z → Stops (follows whole) from x z
    follow_broke e =
        subst (λ (v : Left). Stops (follows v) from x z) first_left
        (broke_after (λ m. follows (left_of b q) (from m)) (λ m. edits_of_by all_loaded l (mid m)) x y z (k (edits_of_by all_loaded)) e)
