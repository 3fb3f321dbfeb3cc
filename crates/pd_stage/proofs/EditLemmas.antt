-- Edits that are taken.
use Rattle.std.proofs.Common.{◌≡◌, ◌≤◌, ◌+◌, ◌⊎◌, inl, inr, arith, ℕ, ℤ, List, [], ◌∷◌, ◌++◌, refl, sym, ◌∙◌, ap, subst, Option, Some, None}
use Rattle.std.specs.List.{AllByRecursion}
use Rattle.std.specs.declared.vec.Vec.{Vec}
use Rattle.std.specs.declared.alloc.Global.{Global}
use Rattle.slab.specs.Slab.{get}
use Rattle.pd_atom.specs.declared.Atom.{Atom}
use Rattle.pd_canvas.specs.declared.edits.Edit.{Edit}
use Rattle.pd_canvas.specs.declared.edits.Edit.TheVariants as edit
use Rattle.pd_io.specs.Stream.{grown, TookPart}
use Rattle.pd_io.specs.declared.files.FileRow.{FileRow}
use Rattle.pd_links.specs.declared.links.Links.{Links}
use Rattle.pd_order.specs.Listing.{Listing}
use Rattle.pd_web.specs.declared.web.Web.{Web}
use Rattle.pd_web.specs.Changes.{wires_told}
use Rattle.pd_web.proofs.CountLemmas.{same_are_as_many}
use Rattle.pd_patch.specs.declared.patch.Patch.{Patch}
use Rattle.pd_wiring.specs.Changes.{CanRewire, AreAlike, SameButRoom, StaysButWire}
use Rattle.pd_wiring.specs.Plans.{Plan, Attaches, Detaches, IsCarriedOut}
use Rattle.pd_boxes.specs.Put.{CanPut}
use Rattle.pd_boxes.specs.Room.{SameButRoom as RoomSet}
use Rattle.pd_turns.specs.Turns.{World}
use Rattle.pd_hearing.specs.Worlds.{Kept, Net, bare, net_of}
use Rattle.pd_block.specs.Nets as block
use Rattle.pd_walk.specs.Outcome.{all_loaded}
use Rattle.pd_stage.specs.Choices.{Base, Wanted, Edits, Asks, Saves, Undoes, Redoes, Made, Choice, Refuses, Lacks, Makes, first_choice, later, text_of_choice, looks_of_choice, faults_of_choice}
use Rattle.pd_stage.specs.Stages.{Stage, Taken, Passage, still, saying, with_ahead, followed_by}
use Rattle.pd_stage.specs.Lawful.{StandsAt, with_wire_count, IsMade, IsShort, IsRewiringLawful, IsPutIn, IsUnputForRoom, IsPutLawful, IsTakenOut, IsLeftInForRoom, IsTakingLawful, IsMovedTo, IsLeftAtForRoom, IsMovingLawful, IsRetypedTo, IsUnretypedForRoom, IsRetypingLawful, IsEditLawful, IsSaved, MayCome, MayComeBy, IsLawful, AreLawful}
use Rattle.pd_stage.specs.Leads.{Sinks, sinks, Took, Leads, Comes, Stops}
use Rattle.pd_stage.specs.Events.{Beginning, Left, Loader, left_after, going_on, with_net, stage_by, files_put, edit_by, edit_taken, edit_loaded_by, edits_of_by, event_after_by, edit_event_by, delivered, with_kept, after_deliveries, event, edit_event}
use Rattle.pd_stage.specs.Times.{with_wires, IsStageOf}
use Rattle.pd_stage.proofs.FedLemmas.{KeepsFed, none_kept, same_kept, edit_kept}
use Rattle.pd_stage.proofs.CountedLemmas.{StaysCounted, none_counted, edit_few}
use Rattle.pd_stage.proofs.ThroughLemmas.{GoesOn, all_through, one_through, event_after_through, edit_event_through}
use Rattle.pd_stage.proofs.FolderLemmas.{none_leaves, may_untold}
use Rattle.pd_stage.proofs.LeadLemmas.{leads_then, broke_after, written_leads, written_breaks}
use Rattle.pd_stage.proofs.ItemLemmas.{no_lines, no_samples, held-none, kept_same}

-- an edit that comes to this
abbrev pub taken_at : Wanted → Stage → Choice → Taken
taken_at wanted s c = record { found = with_ahead s []; wanted = wanted; choice = c }

-- its files were put, and its lines are still to be said
pub edit_chosen : (wanted : Wanted) (s : Stage) (c : Choice) (x y : Sinks) → MayComeBy x.held wanted (with_ahead s []) c → Took x y (files_put c) (taken_at wanted s c ∷ [])
    → Leads (λ m. edit_taken wanted (with_ahead s m)) (λ m. saying (stage_by (with_ahead s m) c) (text_of_choice wanted c)) x y
unfolding edit_taken
edit_chosen wanted s c x y may took = record {
  items = files_put c;
  edits = taken_at wanted s c ∷ [];
  same = λ more. refl;
  took = took;
  lawful = (may_untold x.held wanted (with_ahead s []) c may, tt);
  by_folder = (may, tt);
}

-- and its lines were said, or only a first part
pub edit_comes_by : (wanted : Wanted) (s : Stage) (c : Choice) (x : Sinks) (t t' u : Option (List ℕ)) (k : ℕ) (h : Option (List FileRow)) (f : ℕ)
    → MayComeBy x.held wanted (with_ahead s []) c → Took x (sinks t u k h f) (files_put c) (taken_at wanted s c ∷ []) → t' ≡ grown t (text_of_choice wanted c)
    → Comes (edit_taken wanted) (with_ahead s) (λ m. stage_by (with_ahead s m) c) x (sinks t' u k h f)
edit_comes_by wanted s c x t t' u k h f may took e =
    leads_then (λ m. edit_taken wanted (with_ahead s m)) (λ m. saying (stage_by (with_ahead s m) c) (text_of_choice wanted c)) (λ m. still (stage_by (with_ahead s m) c)) x (sinks t u k h f) (sinks t' u k h f)
    (edit_chosen wanted s c x (sinks t u k h f) may took) (written_leads (λ m. stage_by (with_ahead s m) c) (text_of_choice wanted c) t t' u k h f e)

-- the same, with what is logged
pub edit_logged_by : (wanted : Wanted) (s : Stage) (c : Choice) (x : Sinks) (t t' u : Option (List ℕ)) (k : ℕ) (h : Option (List FileRow)) (f : ℕ)
    → MayComeBy x.held wanted (with_ahead s []) c → Took x (sinks t u k h f) (files_put c) (taken_at wanted s c ∷ []) → t' ≡ grown t (text_of_choice wanted c)
    → (d : Comes (edit_taken wanted) (with_ahead s) (λ m. stage_by (with_ahead s m) c) x (sinks t' u k h f)) × (d.edits ≡ taken_at wanted s c ∷ [])
unfolding edit_comes_by edit_chosen leads_then written_leads
edit_logged_by wanted s c x t t' u k h f may took e = (edit_comes_by wanted s c x t t' u k h f may took e, refl)

pub edit_stops_by : (wanted : Wanted) (s : Stage) (c : Choice) (x : Sinks) (t t' u : Option (List ℕ)) (k : ℕ) (h : Option (List FileRow)) (f : ℕ)
    → MayComeBy x.held wanted (with_ahead s []) c → Took x (sinks t u k h f) (files_put c) (taken_at wanted s c ∷ []) → TookPart t t' (text_of_choice wanted c)
    → Stops (edit_taken wanted) (with_ahead s) x (sinks t' u k h f)
edit_stops_by wanted s c x t t' u k h f may took part =
    broke_after (λ m. edit_taken wanted (with_ahead s m)) (λ m. saying (stage_by (with_ahead s m) c) (text_of_choice wanted c)) x (sinks t u k h f) (sinks t' u k h f)
    (edit_chosen wanted s c x (sinks t u k h f) may took) (written_breaks (λ m. stage_by (with_ahead s m) c) (text_of_choice wanted c) t t' u k h f part)

-- nothing is put, and there are so many looks
pub took_looks : (t u : Option (List ℕ)) (k k' : ℕ) (h : Option (List FileRow)) (f : ℕ) (e : Taken) → files_put e.choice ≡ [] → faults_of_choice e.choice ≡ 0 → k' ≤ k + looks_of_choice e.choice
    → Took (sinks t u k h f) (sinks t u k' h f) [] (e ∷ [])
took_looks t u k k' h f e puts none few = record {
  lines_are = no_lines t;
  samples_are = no_samples u;
  few_looks = omega (arith, few);
  held_are = kept_same [] h (held-none h);
  leaves = none_leaves e.wanted e.choice h h puts refl;
  few_faults = inl (omega (arith, none));
}

-- ---- what lawful edits leave

abbrev pub Orders : Type 0
Orders = Vec (Option Listing) Global

-- what messages leave as it is, with other wires
abbrev pub rewired_net : Net → Web → Links → Orders → Net
rewired_net n web links orders = record {
  nodes = n.nodes;
  boards = n.boards;
  root = n.root;
  web = web;
  links = links;
  owners = n.owners;
  orders = orders;
  numbers = n.numbers;
  blocks = n.blocks;
  rate = n.rate;
  end = n.end;
}

-- the same where edits go on from this
abbrev pub with_base : Stage → Base → Stage
with_base s base = record {
  file = s.file;
  net = s.net;
  states = s.states;
  clocks = s.clocks;
  names = s.names;
  base = base;
  time = s.time;
  block_end = s.block_end;
  fired = s.fired;
  tally = s.tally;
  ahead = s.ahead;
}

-- with other wires, counted anew
abbrev pub rewired : Stage → Web → Links → Orders → Base → List Choice → Stage
rewired s web links orders base ahead = with_ahead (with_base (with_net s (rewired_net s.net web links orders)) base) ahead

-- a patch that has other wires alone
net_rewired : (old new : Patch) → new.grove ≡ old.grove → new.names ≡ old.names → new.timers ≡ old.timers → new.numbers ≡ old.numbers → new.values ≡ old.values → new.rate ≡ old.rate
    → net_of new ≡ rewired_net (net_of old) new.web new.links new.orders
net_rewired old new grove names timers numbers values rate = rw (grove, names, timers, numbers, values, rate) refl

-- all is as it was, but what the edits to come lead to
pub record IsLeft (s r : Stage) : Type 0 where
  pub ahead : List Choice
  pub is : r ≡ with_ahead s ahead

-- the wires are those of a patch of the same boxes, and are sound
pub record IsRewiredStage (s r : Stage) : Type 0 where
  pub patch : Patch
  pub base : Base
  pub ahead : List Choice
  pub nodes : (k : ℕ) → bare (get patch.grove.nodes k) ≡ s.net.nodes k
  pub boards : patch.grove.boards ≡ s.net.boards
  pub numbers : patch.numbers ≡ s.net.numbers
  pub rewires : CanRewire patch
  pub kept : KeepsFed s.net.web patch.web
  pub counted : StaysCounted s.base base s.net.web patch.web
  pub is : r ≡ rewired s patch.web patch.links patch.orders base ahead

abbrev pub Changes : Stage → Stage → Type 0
Changes s r = IsLeft s r ⊎ IsRewiredStage s r

-- but its wires, a stage is as it was; the ports stay, and the wires to each inlet stay few and apart
pub record ButWires (s r : Stage) : Type 0 where
  pub web : Web
  pub links : Links
  pub orders : Orders
  pub base : Base
  pub ahead : List Choice
  pub kept : KeepsFed s.net.web web
  pub counted : StaysCounted s.base base s.net.web web
  pub is : r ≡ rewired s web links orders base ahead

pub but_wires : (s r : Stage) → Changes s r → ButWires s r
but_wires s r (inl h) = record {
  web = s.net.web;
  links = s.net.links;
  orders = s.net.orders;
  base = s.base;
  ahead = h.ahead;
  kept = none_kept s.net.web;
  counted = none_counted s.base s.net.web;
  is = h.is;
}
but_wires s r (inr h) = record {
  web = h.patch.web;
  links = h.patch.links;
  orders = h.patch.orders;
  base = h.base;
  ahead = h.ahead;
  kept = h.kept;
  counted = h.counted;
  is = h.is;
}

-- what a plan that was carried out leaves
plan_grove : (plan : Plan) (p q : Patch) → IsCarriedOut plan p q → (source : ℕ) × StaysButWire p q source
plan_grove (Attaches c l) p q h = (l.source, h.rest)
plan_grove (Detaches c key l) p q h = (l.source, h.rest)

-- a patch that stands at a stage becomes one with other wires
new_net : (s : Stage) (old new : Patch) (source : ℕ) → StandsAt old s → StaysButWire old new source → net_of new ≡ rewired_net s.net new.web new.links new.orders
new_net s old new source at r =
    net_rewired old new r.grove r.names r.timers r.numbers r.values r.rate ∙ ap (λ (n : Net). rewired_net n new.web new.links new.orders) (sym at.net)

same_net : (s : Stage) (old new : Patch) → StandsAt old s → SameButRoom old new → net_of new ≡ rewired_net s.net new.web new.links new.orders
same_net s old new at r =
    net_rewired old new r.grove r.names r.timers r.numbers r.values r.rate ∙ ap (λ (n : Net). rewired_net n new.web new.links new.orders) (sym at.net)

-- what it has of its boxes is what the stage has
nodes_at : (s : Stage) (old new : Patch) → StandsAt old s → new.grove ≡ old.grove → (k : ℕ) → bare (get new.grove.nodes k) ≡ s.net.nodes k
nodes_at s old new at grove k = rw grove (sym (ap (λ (n : Net). n.nodes k) at.net))

boards_at : (s : Stage) (old new : Patch) → StandsAt old s → new.grove ≡ old.grove → new.grove.boards ≡ s.net.boards
boards_at s old new at grove = rw grove (sym (ap (λ (n : Net). n.boards) at.net))

numbers_at : (s : Stage) (old new : Patch) → StandsAt old s → new.numbers ≡ old.numbers → new.numbers ≡ s.net.numbers
numbers_at s old new at numbers = numbers ∙ sym (ap (λ (n : Net). n.numbers) at.net)

-- the web of a patch that stands at a stage is the stage's
kept_at_stage : (s : Stage) (old : Patch) (web : Web) → StandsAt old s → KeepsFed old.web web → KeepsFed s.net.web web
kept_at_stage s old web at k = subst (λ (n : Net). KeepsFed n.web web) (sym at.net) k

plan_rewires : (plan : Plan) (p q : Patch) → IsCarriedOut plan p q → CanRewire q
plan_rewires (Attaches c l) p q h = h.rewires
plan_rewires (Detaches c key l) p q h = h.rewires

-- as many wires are counted as the stage has
wires_at : (s : Stage) (old : Patch) → StandsAt old s → wires_told s.net.web ≡ wires_told old.web
wires_at s old at = ap (λ (n : Net). wires_told n.web) at.net

few_at : (s : Stage) (old new : Patch) → StandsAt old s → (wires_told old.web ≤ 65536 → wires_told new.web ≤ 65536)
    → s.base.counts.wires ≡ wires_told s.net.web → s.base.counts.wires ≤ 65536 → wires_told new.web ≤ 65536
few_at s old new at few e low = let same = wires_at s old at in few (omega (arith, e, low, same))

-- the stage that an edit of wires makes
made_stage : (s : Stage) (m : Made) (net : Net) (base : Base) → m.net ≡ net → m.states ≡ s.states → m.clocks ≡ s.clocks → m.names ≡ s.names → m.base ≡ base
    → stage_by s (Makes m) ≡ with_base (with_net s net) base
made_stage s m net base is states clocks names on = rw (is, states, clocks, names, on) refl

edit_made : (s : Stage) (ahead : List Choice) (path : List ℕ) (e : Edit) (m : Made) → IsMade (with_ahead s []) path e m → IsRewiredStage s (stage_by (with_ahead s ahead) (Makes m))
edit_made s ahead path e m h =
    let r = plan_grove h.rewired.plan h.old h.new h.rewired.done in
    let base : Base = with_wire_count s.base (wires_told h.new.web) in
    record {
      patch = h.new;
      base = base;
      ahead = ahead;
      nodes = nodes_at (with_ahead s []) h.old h.new h.stands r.1.grove;
      boards = boards_at (with_ahead s []) h.old h.new h.stands r.1.grove;
      numbers = numbers_at (with_ahead s []) h.old h.new h.stands r.1.numbers;
      rewires = plan_rewires h.rewired.plan h.old h.new h.rewired.done;
      kept = kept_at_stage (with_ahead s []) h.old h.new.web h.stands (edit_kept h.rewired.plan h.old h.new path e h.rewired.is_planned h.rewired.done);
      counted = record {
        files = refl;
        boxes = refl;
        sound = refl;
        zeros = refl;
        wires = λ x. refl;
        few = few_at (with_ahead s []) h.old h.new h.stands (edit_few h.rewired.plan h.old h.new path e h.rewired.is_planned h.rewired.done);
      };
      is = made_stage (with_ahead s ahead) m (rewired_net s.net h.new.web h.new.links h.new.orders) base
          (h.net ∙ new_net (with_ahead s []) h.old h.new r.0 h.stands r.1) h.states h.clocks h.names h.base;
    }

-- there may be more room
room_left : (s : Stage) (ahead : List Choice) (net : Net) (old new : Patch) → StandsAt old (with_ahead s []) → SameButRoom old new → CanRewire new → net ≡ net_of new
    → IsRewiredStage s (with_net (with_ahead s ahead) net)
room_left s ahead net old new at same rewires e =
    let many : wires_told new.web ≡ wires_told old.web = same_are_as_many old.web new.web same.web in
    record {
      patch = new;
      base = s.base;
      ahead = ahead;
      nodes = nodes_at (with_ahead s []) old new at same.grove;
      boards = boards_at (with_ahead s []) old new at same.grove;
      numbers = numbers_at (with_ahead s []) old new at same.numbers;
      rewires = rewires;
      kept = kept_at_stage (with_ahead s []) old new.web at (same_kept old.web new.web same.web);
      counted = record {
        files = refl;
        boxes = refl;
        sound = refl;
        zeros = refl;
        wires = λ x. x ∙ wires_at (with_ahead s []) old at ∙ sym many;
        few = λ x low. low;
      };
      is = ap (λ (n : Net). with_net (with_ahead s ahead) n) (e ∙ same_net (with_ahead s []) old new at same);
    }

edit_short : (s : Stage) (ahead : List Choice) (path : List ℕ) (e : Edit) (net : Net) → IsShort (with_ahead s []) path e net → IsRewiredStage s (with_net (with_ahead s ahead) net)
edit_short s ahead path e net h = room_left s ahead net h.old h.new h.stands h.same h.rewires h.net_is

stay_short : (s : Stage) (ahead : List Choice) (path : List ℕ) (number : ℕ) (net : Net) → IsLeftInForRoom (with_ahead s []) path number net
    → IsRewiredStage s (with_net (with_ahead s ahead) net)
stay_short s ahead path number net h = room_left s ahead net h.old h.new h.stands h.short.room h.rewires h.net_is

move_short : (s : Stage) (ahead : List Choice) (path : List ℕ) (number : ℕ) (net : Net) → IsLeftAtForRoom (with_ahead s []) path number net
    → IsRewiredStage s (with_net (with_ahead s ahead) net)
move_short s ahead path number net h = room_left s ahead net h.old h.new h.stands h.short.room h.rewires h.net_is

save_made : (s : Stage) (ahead : List Choice) (m : Made) → IsSaved (with_ahead s []) m → IsLeft s (stage_by (with_ahead s ahead) (Makes m))
save_made s ahead m h = record { ahead = ahead; is = made_stage (with_ahead s ahead) m s.net s.base h.net h.states h.clocks h.names h.base }

wire_changes : (s : Stage) (ahead : List Choice) (path : List ℕ) (e : Edit) (c : Choice) → IsRewiringLawful (with_ahead s []) path e c → Changes s (stage_by (with_ahead s ahead) c)
wire_changes s ahead path e (Refuses why) h = inl (record { ahead = ahead; is = refl })
wire_changes s ahead path e (Lacks net) h = inr (edit_short s ahead path e net h)
wire_changes s ahead path e (Makes m) h = inr (edit_made s ahead path e m h)

save_changes : (s : Stage) (ahead : List Choice) (c : Choice) → MayCome (Saves None) (with_ahead s []) c → Changes s (stage_by (with_ahead s ahead) c)
save_changes s ahead (Refuses why) h = inl (record { ahead = ahead; is = refl })
save_changes s ahead (Lacks net) h = absurd h
save_changes s ahead (Makes m) h = inl (save_made s ahead m h)

refused_changes : (s : Stage) (ahead : List Choice) (c : Choice) (why : _) → c ≡ Refuses why → Changes s (stage_by (with_ahead s ahead) c)
refused_changes s ahead c why h = inl (record { ahead = ahead; is = ap (λ (x : Choice). stage_by (with_ahead s ahead) x) h })

-- a box came
pub record HasNewBox (s r : Stage) : Type 0 where
  pub path : List ℕ
  pub edit : Edit
  pub made : Made
  pub ahead : List Choice
  pub put : IsPutIn (with_ahead s []) path edit made
  pub is : r ≡ stage_by (with_ahead s ahead) (Makes made)

-- a box went
pub record HasLostBox (s r : Stage) : Type 0 where
  pub path : List ℕ
  pub number : ℕ
  pub made : Made
  pub ahead : List Choice
  pub taken : IsTakenOut (with_ahead s []) path number made
  pub is : r ≡ stage_by (with_ahead s ahead) (Makes made)

-- a box moved in its canvas
pub record HasMovedBox (s r : Stage) : Type 0 where
  pub path : List ℕ
  pub number : ℕ
  pub x : ℤ
  pub y : ℤ
  pub made : Made
  pub ahead : List Choice
  pub moved : IsMovedTo (with_ahead s []) path number x y made
  pub is : r ≡ stage_by (with_ahead s ahead) (Makes made)

-- a box became another one, or took another text
pub record HasRetypedBox (s r : Stage) : Type 0 where
  pub path : List ℕ
  pub number : ℕ
  pub text : List Atom
  pub made : Made
  pub ahead : List Choice
  pub retyped : IsRetypedTo (with_ahead s []) path number text made
  pub is : r ≡ stage_by (with_ahead s ahead) (Makes made)

-- a box could have come, or become another one, and there may be more room
pub record HasMoreRoom (s r : Stage) : Type 0 where
  pub old : Patch
  pub new : Patch
  pub ahead : List Choice
  pub stands : StandsAt old (with_ahead s [])
  pub room : RoomSet old new
  pub goes_on : CanPut new
  pub is : r ≡ with_net (with_ahead s ahead) (net_of new)

-- what any edit makes of a stage
abbrev pub Alters : Stage → Stage → Type 0
Alters s r = Changes s r ⊎ (HasNewBox s r ⊎ (HasLostBox s r ⊎ (HasMovedBox s r ⊎ (HasRetypedBox s r ⊎ HasMoreRoom s r))))

unput_room : (s : Stage) (ahead : List Choice) (path : List ℕ) (e : Edit) (net : Net) → IsUnputForRoom (with_ahead s []) path e net → HasMoreRoom s (with_net (with_ahead s ahead) net)
unput_room s ahead path e net h = record {
  old = h.old;
  new = h.new;
  ahead = ahead;
  stands = h.stands;
  room = h.short.room;
  goes_on = h.short.goes_on;
  is = ap (λ (n : Net). with_net (with_ahead s ahead) n) h.net_is;
}

unretyped_room : (s : Stage) (ahead : List Choice) (path : List ℕ) (number : ℕ) (text : List Atom) (net : Net) → IsUnretypedForRoom (with_ahead s []) path number text net
    → HasMoreRoom s (with_net (with_ahead s ahead) net)
unretyped_room s ahead path number text net h = record {
  old = h.old;
  new = h.new;
  ahead = ahead;
  stands = h.stands;
  room = h.short.room;
  goes_on = h.short.goes_on;
  is = ap (λ (n : Net). with_net (with_ahead s ahead) n) h.net_is;
}

put_alters : (s : Stage) (ahead : List Choice) (path : List ℕ) (e : Edit) (c : Choice) → IsPutLawful (with_ahead s []) path e c → Alters s (stage_by (with_ahead s ahead) c)
put_alters s ahead path e (Refuses why) h = inl (inl (record { ahead = ahead; is = refl }))
put_alters s ahead path e (Lacks net) h = inr (inr (inr (inr (inr (unput_room s ahead path e net h)))))
put_alters s ahead path e (Makes m) h = inr (inl (record { path = path; edit = e; made = m; ahead = ahead; put = h; is = refl }))

take_alters : (s : Stage) (ahead : List Choice) (path : List ℕ) (number : ℕ) (c : Choice) → IsTakingLawful (with_ahead s []) path number c → Alters s (stage_by (with_ahead s ahead) c)
take_alters s ahead path number (Refuses why) h = inl (inl (record { ahead = ahead; is = refl }))
take_alters s ahead path number (Lacks net) h = inl (inr (stay_short s ahead path number net h))
take_alters s ahead path number (Makes m) h = inr (inr (inl (record { path = path; number = number; made = m; ahead = ahead; taken = h; is = refl })))

move_alters : (s : Stage) (ahead : List Choice) (path : List ℕ) (number : ℕ) (x y : ℤ) (c : Choice) → IsMovingLawful (with_ahead s []) path number x y c
    → Alters s (stage_by (with_ahead s ahead) c)
move_alters s ahead path number x y (Refuses why) h = inl (inl (record { ahead = ahead; is = refl }))
move_alters s ahead path number x y (Lacks net) h = inl (inr (move_short s ahead path number net h))
move_alters s ahead path number x y (Makes m) h =
    inr (inr (inr (inl (record { path = path; number = number; x = x; y = y; made = m; ahead = ahead; moved = h; is = refl }))))

retype_alters : (s : Stage) (ahead : List Choice) (path : List ℕ) (number : ℕ) (text : List Atom) (c : Choice) → IsRetypingLawful (with_ahead s []) path number text c
    → Alters s (stage_by (with_ahead s ahead) c)
retype_alters s ahead path number text (Refuses why) h = inl (inl (record { ahead = ahead; is = refl }))
retype_alters s ahead path number text (Lacks net) h = inr (inr (inr (inr (inr (unretyped_room s ahead path number text net h)))))
retype_alters s ahead path number text (Makes m) h =
    inr (inr (inr (inr (inl (record { path = path; number = number; text = text; made = m; ahead = ahead; retyped = h; is = refl })))))

edit_alters : (s : Stage) (ahead : List Choice) (path : List ℕ) (e : Edit) (c : Choice) → IsEditLawful (with_ahead s []) path e c → Alters s (stage_by (with_ahead s ahead) c)
edit_alters s ahead path (edit.Connect v) c h = inl (wire_changes s ahead path (edit.Connect v) c h)
edit_alters s ahead path (edit.Disconnect v) c h = inl (wire_changes s ahead path (edit.Disconnect v) c h)
edit_alters s ahead path (edit.Delete number) c h = take_alters s ahead path number c h
edit_alters s ahead path (edit.Retype number text) c h = retype_alters s ahead path number text c h
edit_alters s ahead path (edit.Move number x y) c h = move_alters s ahead path number x y c h
edit_alters s ahead path (edit.Obj x y text) c h = put_alters s ahead path (edit.Obj x y text) c h
edit_alters s ahead path (edit.Msg x y text) c h = put_alters s ahead path (edit.Msg x y text) c h
edit_alters s ahead path (edit.Comment x y text) c h = put_alters s ahead path (edit.Comment x y text) c h
edit_alters s ahead path (edit.FloatBox x y text) c h = put_alters s ahead path (edit.FloatBox x y text) c h
edit_alters s ahead path (edit.SymbolBox x y text) c h = put_alters s ahead path (edit.SymbolBox x y text) c h
edit_alters s ahead path (edit.Sub x y name) c h = put_alters s ahead path (edit.Sub x y name) c h

-- what an edit that may come to this makes of a stage
choice_alters : (wanted : Wanted) (s : Stage) (ahead : List Choice) (c : Choice) → MayCome wanted (with_ahead s []) c → Alters s (stage_by (with_ahead s ahead) c)
choice_alters (Edits None path e) s ahead c h = edit_alters s ahead path e c h
choice_alters (Edits (Some document) path e) s ahead c h = inl (refused_changes s ahead c _ h)
choice_alters (Asks path e) s ahead c h = edit_alters s ahead path e c h
choice_alters (Saves None) s ahead c h = inl (save_changes s ahead c h)
choice_alters (Saves (Some document)) s ahead c h = inl (refused_changes s ahead c _ h)
choice_alters Undoes s ahead c h = inl (refused_changes s ahead c _ h)
choice_alters Redoes s ahead c h = inl (refused_changes s ahead c _ h)

pub taken_alters : (wanted : Wanted) (s : Stage) → AreLawful (edit_taken wanted s).edits → Alters s (edit_taken wanted s).stage
unfolding edit_taken
taken_alters wanted s h = choice_alters wanted s (later s.ahead) (first_choice s.ahead) h.0

-- a fact that no edit ends, and that lasts through deliveries that load boxes, lasts through an event where each edit is such
abbrev pub Lasts : (P : Stage → Type 0) → (Ok : Taken → Type 0) → Stage → Passage → Type 0
Lasts P Ok s p = AllByRecursion Ok p.edits → P s → P p.stage

abbrev pub LoadsKeep : Loader → (P : Stage → Type 0) → Type 0
LoadsKeep load P = (boxes : List ℕ) (l : Left) (s : Stage) → P s → P (with_kept s (load s.net s.time (going_on s l) boxes).kept)

all_first : (Ok : Taken → Type 0) (a b : List Taken) → AllByRecursion Ok (a ++ b) → AllByRecursion Ok a
all_first Ok [] b h = tt
all_first Ok (t ∷ a) b h = (h.0, all_first Ok a b h.1)

all_second : (Ok : Taken → Type 0) (a b : List Taken) → AllByRecursion Ok (a ++ b) → AllByRecursion Ok b
all_second Ok [] b h = h
all_second Ok (t ∷ a) b h = all_second Ok a b h.1

module _ (load : Loader) (Ok : Taken → Type 0) (P : Stage → Type 0) (edits : (wanted : Wanted) (s : Stage) → Lasts P Ok s (edit_taken wanted s)) (loads : LoadsKeep load P) where
  lasts_on : (s : Stage) (p : Passage) (next : Stage → Passage) → Lasts P Ok s p → Lasts P Ok p.stage (next p.stage) → Lasts P Ok s (followed_by p next)
  lasts_on s p next a b h k = b (all_second Ok p.edits (next p.stage).edits h) (a (all_first Ok p.edits (next p.stage).edits h) k)

  one_lasts : (wanted : Wanted) (l : Left) (rest : Left → Stage → Passage) (s : Stage) → GoesOn load (Lasts P Ok) rest → Lasts P Ok s (edit_loaded_by load wanted l rest s)
  one_lasts wanted l rest s = one_through load (Lasts P Ok) lasts_on (λ boxes v r h p. loads boxes v r p) edits wanted l rest s

  edits_last : GoesOn load (Lasts P Ok) (edits_of_by load)
  edits_last = all_through load (Lasts P Ok) (λ s h p. p) one_lasts

  pub event_lasts : (s : Stage) (w : World Kept) → P (with_kept s w.kept) → AllByRecursion Ok (event_after_by load s w).edits → P (event_after_by load s w).stage
  event_lasts s w first h = edits_last (left_after w) (with_kept s w.kept) h first

  pub edit_event_lasts : (wanted : Wanted) (s : Stage) → Lasts P Ok s (edit_event_by load wanted s)
  edit_event_lasts wanted s = edit_event_through load (Lasts P Ok) (λ r h p. p) one_lasts wanted s

-- so it is of lawful edits, and of boxes that are loaded as they are
pub taken_keeps : (P : Stage → Type 0) → ((s r : Stage) → Alters s r → P s → P r) → (wanted : Wanted) (s : Stage) → Lasts P IsLawful s (edit_taken wanted s)
taken_keeps P each wanted s h p = each s (edit_taken wanted s).stage (taken_alters wanted s h) p

pub event_keeps : (P : Stage → Type 0) → ((s r : Stage) → Alters s r → P s → P r) → LoadsKeep all_loaded P → (s : Stage) (b : Beginning) → AreLawful (event s b).edits
    → P (with_kept s (delivered s b).kept) → P (event s b).stage
unfolding event
event_keeps P each loads s b h p = event_lasts all_loaded IsLawful P (taken_keeps P each) loads s (delivered s b) p h

pub edit_event_keeps : (P : Stage → Type 0) → ((s r : Stage) → Alters s r → P s → P r) → LoadsKeep all_loaded P → (wanted : Wanted) (s : Stage) → AreLawful (edit_event wanted s).edits
    → P s → P (edit_event wanted s).stage
unfolding edit_event
edit_event_keeps P each loads wanted s h p = edit_event_lasts all_loaded IsLawful P (taken_keeps P each) loads wanted s h p

-- ---- a stage of a patch

-- what a block finds, with other wires
abbrev rewired_block : block.Net → Web → Links → Orders → block.Net
rewired_block n web links orders = record {
  nodes = n.nodes;
  boards = n.boards;
  root = n.root;
  web = web;
  links = links;
  owners = n.owners;
  orders = orders;
  numbers = n.numbers;
  rate = n.rate;
  clocks = n.clocks;
  end = n.end;
}

-- an edit of wires asks the same of patches of the same boxes
abbrev pub AsksAlike : Type 0
AsksAlike = (p q : Patch) → AreAlike p q → CanRewire p → CanRewire q

left_stands : (p : Patch) (s r : Stage) → IsLeft s r → IsStageOf p s → IsStageOf p r
left_stands p s r h at = subst (λ (x : Stage). IsStageOf p x) (sym h.is) (record { web = at.web; links = at.links; orders = at.orders; net = at.net; rewires = at.rewires })

rewired_stands : (asks : AsksAlike) (p : Patch) (s r : Stage) → IsRewiredStage s r → IsStageOf p s → IsStageOf p r
rewired_stands asks p s r h at =
    let q : Patch = h.patch in
    subst (λ (x : Stage). IsStageOf p x) (sym h.is) (record {
      web = q.web;
      links = q.links;
      orders = q.orders;
      net = ap (λ (n : block.Net). rewired_block n q.web q.links q.orders) at.net;
      rewires = asks q (with_wires p q.web q.links q.orders) (record {
        nodes = λ k. sym (ap (λ (n : block.Net). n.nodes k) at.net) ∙ sym (h.nodes k);
        boards = sym (ap (λ (n : block.Net). n.boards) at.net) ∙ sym h.boards;
        web = refl;
        links = refl;
        orders = refl;
        numbers = sym (ap (λ (n : block.Net). n.numbers) at.net) ∙ sym h.numbers;
      }) h.rewires;
    })

pub changed_stands : (asks : AsksAlike) (p : Patch) (s r : Stage) → Changes s r → IsStageOf p s → IsStageOf p r
changed_stands asks p s r (inl h) at = left_stands p s r h at
changed_stands asks p s r (inr h) at = rewired_stands asks p s r h at

-- ---- what no event changes

-- the time, the next block and the count of clocks stay
pub record SameTimes (s r : Stage) : Type 0 where
  pub time : r.time ≡ s.time
  pub block_end : r.block_end ≡ s.block_end
  pub fired : r.fired ≡ s.fired

by_times : (wanted : Wanted) (s : Stage) (c : Choice) → SameTimes s (edit_by wanted s c).stage
by_times wanted s (Refuses why) = record { time = refl; block_end = refl; fired = refl }
by_times wanted s (Lacks net) = record { time = refl; block_end = refl; fired = refl }
by_times wanted s (Makes m) = record { time = refl; block_end = refl; fired = refl }

pub edit_times : (wanted : Wanted) (s : Stage) → SameTimes s (edit_taken wanted s).stage
unfolding edit_taken
edit_times wanted s = by_times wanted s (first_choice s.ahead)

times_on : (s r q : Stage) → SameTimes s r → SameTimes r q → SameTimes s q
times_on s r q a b = record { time = b.time ∙ a.time; block_end = b.block_end ∙ a.block_end; fired = b.fired ∙ a.fired }

abbrev Times : Stage → Passage → Type 0
Times s p = SameTimes s p.stage

times_after : (s : Stage) (w : World Kept) → Times s (after_deliveries s w)
times_after s w = record { time = refl; block_end = refl; fired = refl }

times_followed : (s : Stage) (p : Passage) (next : Stage → Passage) → Times s p → Times p.stage (next p.stage) → Times s (followed_by p next)
times_followed s p next a b = times_on s p.stage (next p.stage).stage a b

one_times : (wanted : Wanted) (l : Left) (rest : Left → Stage → Passage) (s : Stage) → GoesOn all_loaded Times rest → Times s (edit_loaded_by all_loaded wanted l rest s)
one_times wanted l rest s = one_through all_loaded Times times_followed (λ boxes v r. times_after r (all_loaded r.net r.time (going_on r v) boxes)) edit_times wanted l rest s

edits_times : GoesOn all_loaded Times (edits_of_by all_loaded)
edits_times = all_through all_loaded Times (λ s. record { time = refl; block_end = refl; fired = refl }) one_times

pub event_times : (s : Stage) (b : Beginning) → SameTimes s (event s b).stage
unfolding event
event_times s b =
    event_after_through all_loaded Times times_followed (λ boxes v r. times_after r (all_loaded r.net r.time (going_on r v) boxes)) edits_times s (delivered s b) (times_after s (delivered s b))
