-- What an edit of the patch's own document comes to.
use Rattle.std.proofs.Common.{◌≡◌, ◌≢◌, ◌≤◌, ◌+◌, ◌⊎◌, ◌++◌, append_assoc, arith, nat_lt, cond, true, false, Bool, ℕ, List, [], ◌∷◌, refl, sym, ◌∙◌, ap, subst, inl, inr, Option, Some, None, Result, Ok, Err, OnErr, OnOk, IfOk}
use Rattle.std.proofs.lemmas.Result.{on_err_weaker}
use Rattle.pd_io.specs.Stream.{grown, TookPart}
use Rattle.pd_io.specs.declared.files.FileRow.{FileRow}
use Rattle.pd_atom.specs.Names.{Names, Extends}
use Rattle.pd_canvas.specs.declared.edits.Edit.{Edit}
use Rattle.pd_canvas.specs.declared.edits.Edit.TheVariants as edit
use Rattle.pd_canvas.specs.declared.wires.Wire.{Wire}
use Rattle.slab.specs.Slab.{get}
use Rattle.pd_grove.specs.declared.grove.Grove.{Grove}
use Rattle.pd_grove.specs.Telling.{state_in}
use Rattle.pd_queue.specs.Entries.{wire_edit}
use Rattle.pd_script.specs.Edits.{puts_box}
use Rattle.pd_web.specs.declared.lines.Line.{Line}
use Rattle.pd_web.specs.declared.web.Web.{Web}
use Rattle.pd_web.specs.Changes.{wires_told, Meet}
use Rattle.pd_web.proofs.CountLemmas.{same_are_as_many}
use Rattle.pd_made.specs.declared.tally.Tally.{Tally}
use Rattle.pd_patch.specs.declared.patch.Patch.{Patch}
use Rattle.pd_say.proofs.GatheringLemmas.{grown-grown, took_more}
use Rattle.pd_say.specs.Lines.{refusal_text}
use Rattle.pd_say.specs.declared.refusals.Request.{Request}
use Rattle.pd_say.specs.declared.refusals.Request.TheVariants as request
use Rattle.pd_say.specs.declared.refusals.Why.{Why}
use Rattle.pd_wiring.specs.Changes.{CanRewire, SameButRoom, StaysButWire}
use Rattle.pd_boxes.specs.Room.{SameButRoom as RoomSet}
use Rattle.pd_stage.specs.PassedOn.{AddsBoxBy, IsNotPutBy, IsShortOfRoomBy, put_looks, NewBox}
use Rattle.pd_gather.specs.Gather.{known}
use Rattle.pd_library.specs.declared.answers.Answer.{Answer}
use Rattle.pd_clock.specs.Queue.{Clock}
use Rattle.pd_kind.specs.declared.states.State.{State}
use Rattle.pd_wiring.specs.Plans.{Plan, Attaches, Detaches, planned, attaching, detaching, connecting, disconnecting, wire_found, refusal_by, IsCarriedOut, most_looks}
use Rattle.pd_wiring.specs.declared.asking.WireRefusal.{WireRefusal}
use Rattle.pd_wiring.specs.declared.asking.WireRefusal.TheVariants as wire
use Rattle.pd_wiring.specs.declared.refusals.EditRefusal.{EditRefusal}
use Rattle.pd_wiring.specs.declared.refusals.EditRefusal.TheVariants as refusal
use Rattle.pd_hearing.specs.Worlds.{net_of, states_of}
use Rattle.pd_stage.specs.Choices.{Base, base_of, Wanted, Edits, Asks, Saves, Undoes, Redoes, Made, Choice, text_of_choice, loads_of_choice, looks_of_choice, faults_of_choice, faults_of_why, request_of}
use Rattle.pd_stage.specs.Choices as stage
use Rattle.pd_stage.specs.Stages.{Stage, Passage, still, with_ahead, after}
use Rattle.pd_stage.specs.Lawful.{why_of, StandsAt, with_wire_count, IsMade, IsRewiringLawful, IsPutInBy, IsPutLawfulBy, IsEditLawfulBy, MayComeBy}
use Rattle.pd_stage.specs.Lines.{loops_text, put_text, loads_inside}
use Rattle.pd_stage.specs.Leads.{Sinks, sinks, Took, Comes, Stops, SaysPart}
use Rattle.pd_stage.specs.Events.{edit_taken, stage_by, files_put, with_net}
use Rattle.pd_stage.proofs.EditLemmas.{taken_at, took_looks, edit_logged_by, edit_stops_by}
use Rattle.pd_engine.specs.declared.refusals.Outcome.{Outcome}
use Rattle.pd_engine.specs.declared.refusals.Outcome.TheVariants.{Done}
use Rattle.pd_engine.specs.Commands.{outcome_of, refused_as, first_outcome}
use Rattle.pd_engine.specs.Edits.{Makes, Lacks, Refuses, EditsTo, edit_text, edit_outcome, first_loads, IsTakenSo, IsOwn, IsAlwaysRefused}
use mathlib.Core.Logic.{∥∥₁_map}
use Rattle.pd_adding.specs.declared.counts.Counts.{Counts}
use Rattle.pd_adding.specs.Counts.{AreWithin}
use Rattle.pd_alike_law.proofs.MeetLemmas.{edits_meet as rewired_meet, room_meet}
use Rattle.pd_stage.proofs.CountedLemmas.{edit_few}
use Rattle.pd_engine.proofs.RewireLemmas.{IsKept, IsReady, wired_kept}
use Rattle.pd_engine.proofs.ClockLemmas.{stage_with}
use Rattle.pd_engine.proofs.CameLemmas.{came_clocks}

-- ---- one choice, and where it leads

-- an edit that finds this stage, and this in the folder, where it is told, comes to a choice, which says these lines, leads there, is answered so, and has these boxes loaded behind it
pub record Came (holds : Option (List FileRow)) (wanted : Wanted) (s : Stage) (to : List Choice → Stage) (text : List ℕ) (o : Outcome) (loads : List ℕ) : Type 0 where
  pub choice : Choice
  pub may : MayComeBy holds wanted (with_ahead s []) choice
  pub text_is : text_of_choice wanted choice ≡ text
  pub stage : (m : List Choice) → stage_by (with_ahead s m) choice ≡ to m
  pub answer : outcome_of choice ≡ o
  pub loads_are : loads_of_choice choice ≡ loads

-- the same log with another end
abbrev ends_at : (part : Stage → Passage) (from to to' : List Choice → Stage) (x y : Sinks) → ((m : List Choice) → to m ≡ to' m) → Comes part from to x y → Comes part from to' x y
ends_at part from to to' x y e c = record {
  items = c.items;
  edits = c.edits;
  same = λ more. c.same more ∙ ap (λ (r : Stage). after c.items c.edits (still r)) (e more);
  took = c.took;
  lawful = c.lawful;
  by_folder = c.by_folder;
}

-- it was taken
module _ (wanted : Wanted) (s : Stage) (to : List Choice → Stage) (text : List ℕ) (o : Outcome) (loads : List ℕ) (x : Sinks) (c : Came x.held wanted s to text o loads)
    (t t' u : Option (List ℕ)) (k : ℕ) (h : Option (List FileRow)) (f : ℕ) (took : Took x (sinks t u k h f) (files_put c.choice) (taken_at wanted s c.choice ∷ [])) where
  pub came_so : t' ≡ grown t text → IsTakenSo wanted o loads (with_ahead s) to x (sinks t' u k h f)
  came_so said =
      let d = edit_logged_by wanted s c.choice x t t' u k h f c.may took (said ∙ ap (λ (l : List ℕ). grown t l) (sym c.text_is)) in
      record {
        comes = ends_at (edit_taken wanted) (with_ahead s) (λ m. stage_by (with_ahead s m) c.choice) to x (sinks t' u k h f) c.stage d.0;
        answer = sym (ap first_outcome d.1 ∙ c.answer);
        loads_are = sym (ap first_loads d.1 ∙ c.loads_are);
      }

  pub came_part : TookPart t t' text → Stops (edit_taken wanted) (with_ahead s) x (sinks t' u k h f)
  came_part part = edit_stops_by wanted s c.choice x t t' u k h f c.may took (subst (λ (l : List ℕ). TookPart t t' l) (sym c.text_is) part)

-- nothing was put, there are so many looks, and no fault of the folder
abbrev pub FewLooks : Choice → ℕ → ℕ → Type 0
FewLooks c k k' = (files_put c ≡ []) × (faults_of_choice c ≡ 0) × (k' ≤ k + looks_of_choice c)

few_took : (wanted : Wanted) (s : Stage) (c : Choice) (t u : Option (List ℕ)) (k k' : ℕ) (h : Option (List FileRow)) (f : ℕ) → FewLooks c k k'
    → Took (sinks t u k h f) (sinks t u k' h f) (files_put c) (taken_at wanted s c ∷ [])
few_took wanted s c t u k k' h f few =
    subst (λ i. Took (sinks t u k h f) (sinks t u k' h f) i (taken_at wanted s c ∷ [])) (sym few.0) (took_looks t u k k' h f (taken_at wanted s c) few.0 few.1 few.2)

-- it comes to a choice, with no more looks than that may take, and no box is loaded behind it
pub record Told (holds : Option (List FileRow)) (wanted : Wanted) (s : Stage) (to : List Choice → Stage) (text : List ℕ) (o : Outcome) (looks looks' : ℕ) : Type 0 where
  pub came : Came holds wanted s to text o []
  pub few : FewLooks came.choice looks looks'

module _ (wanted : Wanted) (s : Stage) (to : List Choice → Stage) (text : List ℕ) (o : Outcome) (t t' u : Option (List ℕ)) (k k' : ℕ) (h : Option (List FileRow)) (f : ℕ)
    (c : Told h wanted s to text o k k') where
  pub told_so : t' ≡ grown t text → IsTakenSo wanted o [] (with_ahead s) to (sinks t u k h f) (sinks t' u k' h f)
  told_so said = came_so wanted s to text o [] (sinks t u k h f) c.came t t' u k' h f (few_took wanted s c.came.choice t u k k' h f c.few) said

  pub told_part : TookPart t t' text → Stops (edit_taken wanted) (with_ahead s) (sinks t u k h f) (sinks t' u k' h f)
  told_part part = came_part wanted s to text o [] (sinks t u k h f) c.came t t' u k' h f (few_took wanted s c.came.choice t u k k' h f c.few) part

-- ---- no edit is planned to be refused for a fault of the folder

abbrev Faultless : Result Plan EditRefusal → Type 0
Faultless (Ok plan) = Unit {0}
Faultless (Err cause) = faults_of_why (why_of cause) ≡ 0

by_wire : (r : WireRefusal) → Faultless (Err (refusal_by r))
by_wire (wire.NoBox n) = refl
by_wire (wire.NoPort n p outlet) = refl
by_wire wire.SignalIntoControl = refl

few_wires : (b : Bool) (plan : Plan) → Faultless (cond b (Ok plan) (Err refusal.TooManyWires))
few_wires true plan = tt
few_wires false plan = refl

attaches : (w : Web) (c : ℕ) (r : Result Line WireRefusal) → Faultless (attaching w c r)
attaches w c (Err r) = by_wire r
attaches w c (Ok l) = few_wires (nat_lt (wires_told w) 65536) (Attaches c l)

finds : (c : ℕ) (l : Line) (o : Option ℕ) → Faultless (wire_found c l o)
finds c l None = refl
finds c l (Some key) = tt

detaches : (w : Web) (c : ℕ) (r : Result Line WireRefusal) → Faultless (detaching w c r)
detaches w c (Err r) = by_wire r
detaches w c (Ok l) = finds c l _

connects : (p : Patch) (v : Wire) (o : Option ℕ) → Faultless (connecting p v o)
connects p v None = refl
connects p v (Some c) = attaches p.web c _

disconnects : (p : Patch) (v : Wire) (o : Option ℕ) → Faultless (disconnecting p v o)
disconnects p v None = refl
disconnects p v (Some c) = detaches p.web c _

plans : (p : Patch) (path : List ℕ) (e : Edit) → Faultless (planned p path e)
plans p path (edit.Connect v) = connects p v _
plans p path (edit.Disconnect v) = disconnects p v _
plans p path (edit.Obj x y text) = refl
plans p path (edit.Msg x y text) = refl
plans p path (edit.Comment x y text) = refl
plans p path (edit.FloatBox x y text) = refl
plans p path (edit.SymbolBox x y text) = refl
plans p path (edit.Sub x y text) = refl
plans p path (edit.Delete n) = refl
plans p path (edit.Retype n text) = refl
plans p path (edit.Move n x y) = refl

faultless : (p : Patch) (path : List ℕ) (e : Edit) (cause : EditRefusal) → planned p path e ≡ Err cause → faults_of_why (why_of cause) ≡ 0
faultless p path e cause is = subst Faultless is (plans p path e)

-- the edit of wires that is stored is the one that was asked for
pub is_wire_edit : (e f : Edit) → wire_edit e ≡ Some f → f ≡ e
is_wire_edit (edit.Connect v) f some = cc
is_wire_edit (edit.Disconnect v) f some = cc
is_wire_edit (edit.Obj x y text) f some = cc
is_wire_edit (edit.Msg x y text) f some = cc
is_wire_edit (edit.Comment x y text) f some = cc
is_wire_edit (edit.FloatBox x y text) f some = cc
is_wire_edit (edit.SymbolBox x y text) f some = cc
is_wire_edit (edit.Sub x y text) f some = cc
is_wire_edit (edit.Delete n) f some = cc
is_wire_edit (edit.Retype n text) f some = cc
is_wire_edit (edit.Move n x y) f some = cc

pub both_ok : {A E : Type 0} {P : Type 0} {Q R : A → Type 0} (r : Result A E) → ((a : A) → P → Q a → R a) → OnOk r P → IfOk r Q → IfOk r R
both_ok (Ok a) f p q = f a p q
both_ok (Err e) f p q = tt

-- ---- an edit of the patch's own document

plan_stays : (plan : Plan) (p q : Patch) → IsCarriedOut plan p q → (source : ℕ) × StaysButWire p q source
plan_stays (Attaches c l) p q h = (l.source, h.rest)
plan_stays (Detaches c key l) p q h = (l.source, h.rest)

-- what an edit of wires comes to
edit_may : (holds : Option (List FileRow)) (s : Stage) (path : List ℕ) (e f : Edit) (c : Choice) → wire_edit e ≡ Some f → IsRewiringLawful s path e c → IsEditLawfulBy holds s path e c
edit_may holds s path (edit.Connect v) f c some h = h
edit_may holds s path (edit.Disconnect v) f c some h = h
edit_may holds s path (edit.Delete n) f c some h = cc
edit_may holds s path (edit.Retype n text) f c some h = cc
edit_may holds s path (edit.Move n x y) f c some h = cc
edit_may holds s path (edit.Obj x y text) f c some h = cc
edit_may holds s path (edit.Msg x y text) f c some h = cc
edit_may holds s path (edit.Comment x y text) f c some h = cc
edit_may holds s path (edit.FloatBox x y text) f c some h = cc
edit_may holds s path (edit.SymbolBox x y text) f c some h = cc
edit_may holds s path (edit.Sub x y name) f c some h = cc

-- where the edit puts a box, what may come is what may come of that
put_may : (holds : Option (List FileRow)) (s : Stage) (path : List ℕ) (e : Edit) (c : Choice) → puts_box e ≡ true → IsPutLawfulBy holds s path e c → IsEditLawfulBy holds s path e c
put_may holds s path (edit.Connect v) c one h = cc
put_may holds s path (edit.Disconnect v) c one h = cc
put_may holds s path (edit.Delete n) c one h = cc
put_may holds s path (edit.Retype n text) c one h = cc
put_may holds s path (edit.Move n x y) c one h = cc
put_may holds s path (edit.Obj x y text) c one h = h
put_may holds s path (edit.Msg x y text) c one h = h
put_may holds s path (edit.Comment x y text) c one h = h
put_may holds s path (edit.FloatBox x y text) c one h = h
put_may holds s path (edit.SymbolBox x y text) c one h = h
put_may holds s path (edit.Sub x y name) c one h = h

-- it makes no difference whether a command or a message asks for it
own_may : (holds : Option (List FileRow)) (wanted : Wanted) (s : Stage) (path : List ℕ) (e : Edit) (c : Choice) → IsOwn wanted path e → IsEditLawfulBy holds s path e c → MayComeBy holds wanted s c
own_may holds wanted s path e c (inl is) h = subst (λ (w : Wanted). MayComeBy holds w s c) (sym is) h
own_may holds wanted s path e c (inr is) h = subst (λ (w : Wanted). MayComeBy holds w s c) (sym is) h

own_request : (wanted : Wanted) (path : List ℕ) (e : Edit) → IsOwn wanted path e → request_of wanted ≡ request.Edit
own_request wanted path e (inl is) = ap request_of is
own_request wanted path e (inr is) = ap request_of is

pub outcome_by : (c : EditRefusal) → refused_as (why_of c) ≡ edit_outcome (Err c)
outcome_by refusal.NoDocument = refl
outcome_by refusal.NoCanvas = refl
outcome_by (refusal.NoBox n) = refl
outcome_by (refusal.NoPort n p o) = refl
outcome_by refusal.NoWire = refl
outcome_by refusal.SignalIntoControl = refl
outcome_by refusal.TextTooLong = refl
outcome_by refusal.TooDeep = refl
outcome_by refusal.ShelfFault = refl
outcome_by refusal.SymbolsFull = refl
outcome_by refusal.TooManyBoxes = refl
outcome_by refusal.TooManyWires = refl
outcome_by refusal.TooMuchSound = refl
outcome_by refusal.NoMemory = refl

-- an edit by which wires alone may change, and which is told as an edit
pub record IsWireEdit (wanted : Wanted) (path : List ℕ) (e : Edit) : Type 0 where
  pub may : (holds : Option (List FileRow)) (s : Stage) (c : Choice) → IsRewiringLawful s path e c → MayComeBy holds wanted s c
  pub request : request_of wanted ≡ request.Edit

pub own_wire : (wanted : Wanted) (path : List ℕ) (e f : Edit) → IsOwn wanted path e → wire_edit e ≡ Some f → IsWireEdit wanted path e
own_wire wanted path e f own some = record { may = λ holds s c h. own_may holds wanted s path e c own (edit_may holds s path e f c some h); request = own_request wanted path e own }

-- an edit that puts a box, and which is told as an edit
pub record IsBoxEdit (wanted : Wanted) (path : List ℕ) (e : Edit) : Type 0 where
  pub may : (holds : Option (List FileRow)) (s : Stage) (c : Choice) → IsPutLawfulBy holds s path e c → MayComeBy holds wanted s c
  pub request : request_of wanted ≡ request.Edit

pub own_box : (wanted : Wanted) (path : List ℕ) (e : Edit) → IsOwn wanted path e → puts_box e ≡ true → IsBoxEdit wanted path e
own_box wanted path e own one = record { may = λ holds s c h. own_may holds wanted s path e c own (put_may holds s path e c one h); request = own_request wanted path e own }

module _ (wanted : Wanted) (path : List ℕ) (e : Edit) (is : IsWireEdit wanted path e) (file : List ℕ) (names : Names) (base : Base) (time block_end fired : ℕ) (tally : Tally)
    (old new : Patch) (wires : ℕ) (was : base.counts.wires ≡ wires_told old.web) (now_is : wires ≡ wires_told new.web) where
  abbrev at : Patch → Base → List Choice → Stage
  at p b m = stage_with file p names b time block_end fired tally m

  abbrev counted : Base
  counted = with_wire_count base wires

  stands : IsReady old → StandsAt old (at old base [])
  stands ready = record { net = refl; states = refl; puts = ready.puts; meet = ready.meet }

  -- it was made
  abbrev made : (canvas looks looks' : ℕ) → Makes old new path e canvas looks looks' → Made
  made canvas looks looks' d = record {
    net = net_of new;
    states = states_of new;
    clocks = new.timers.clocks.clocks;
    names = names;
    base = with_wire_count base (wires_told new.web);
    lines = loops_text new canvas;
    files = [];
    loads = [];
    looks = most_looks d.rewired.plan old new;
  }

  made_may : (canvas looks looks' : ℕ) → IsReady old → (d : Makes old new path e canvas looks looks') → IsMade (at old base []) path e (made canvas looks looks' d)
  made_may canvas looks looks' ready d =
      let r = plan_stays d.rewired.plan old new d.rewired.done in
      record {
        old = old;
        new = new;
        canvas = canvas;
        stands = stands ready;
        rewired = d.rewired;
        net = refl;
        states = ap (λ (g : Grove). λ k. state_in (get g.nodes k)) r.1.grove;
        clocks = ap (λ x. x.clocks.clocks) r.1.timers;
        names = refl;
        base = refl;
        lines = refl;
        files = refl;
        loads = refl;
        looks = refl;
      }

  -- where there are as many wires, all is counted as before
  as_many : wires_told new.web ≡ wires_told old.web → base ≡ counted
  as_many same = ap (λ (n : ℕ). with_wire_count base n) (was ∙ sym same ∙ sym now_is)

  -- memory was wanting
  short_stage : (m : List Choice) → SameButRoom old new → with_net (at old base m) (net_of new) ≡ at new counted m
  short_stage m same =
      let room : with_net (at old base m) (net_of new) ≡ at new base m = rw (same.grove, same.timers) refl in
      room ∙ ap (λ (b : Base). at new b m) (as_many (same_are_as_many old.web new.web same.web))

  -- what an edit came to, with its looks
  abbrev pub Edited : Option (List FileRow) → Result ℕ EditRefusal → (looks looks' : ℕ) → Type 0
  Edited holds r looks looks' = Told holds wanted (at old base []) (at new counted) (edit_text new r) (edit_outcome r) looks looks'

  refusal_is : (c : EditRefusal) → refusal_text (request_of wanted) (why_of c) ≡ refusal_text request.Edit (why_of c)
  refusal_is c = ap (λ (r : Request). refusal_text r (why_of c)) is.request

  short_so : (holds : Option (List FileRow)) (cause : EditRefusal) (looks looks' : ℕ) → IsReady old → CanRewire new → looks' ≡ looks → Lacks old new path e cause → Edited holds (Err cause) looks looks'
  short_so holds cause looks looks' before now same d = record {
    came = record {
      choice = stage.Lacks (net_of new);
      may = is.may holds (at old base []) (stage.Lacks (net_of new))
          (record { old = old; new = new; plan = d.plan; stands = stands before; is_planned = d.is_planned; same = d.same; rewires = now; net_is = refl });
      text_is = ap (λ (c : EditRefusal). refusal_text (request_of wanted) (why_of c)) (sym d.short) ∙ refusal_is cause;
      stage = λ m. short_stage m d.same;
      answer = ap (λ (c : EditRefusal). edit_outcome (Err c)) (sym d.short);
      loads_are = refl;
    };
    few = (refl, refl, omega arith);
  }

  refused_so : (holds : Option (List FileRow)) (cause : EditRefusal) (looks looks' : ℕ) → IsReady old → looks' ≡ looks → Refuses old new path e cause → Edited holds (Err cause) looks looks'
  refused_so holds cause looks looks' before same d = record {
    came = record {
      choice = stage.Refuses (why_of cause);
      may = is.may holds (at old base []) (stage.Refuses (why_of cause)) (record { patch = old; cause = cause; stands = stands before; is_planned = d.is_planned; reason_is = refl });
      text_is = refusal_is cause;
      stage = λ m. ap (λ (p : Patch). at p base m) (sym d.same) ∙ ap (λ (b : Base). at new b m) (as_many (ap (λ (p : Patch). wires_told p.web) d.same));
      answer = outcome_by cause;
      loads_are = refl;
    };
    few = (refl, faultless old path e cause d.is_planned, omega arith);
  }

  pub edited : (holds : Option (List FileRow)) (r : Result ℕ EditRefusal) (looks looks' : ℕ) → IsReady old → CanRewire new → EditsTo old new path e r looks looks' → Edited holds r looks looks'
  edited holds (Ok canvas) looks looks' before now d = record {
    came = record {
      choice = stage.Makes (made canvas looks looks' d);
      may = is.may holds (at old base []) (stage.Makes (made canvas looks looks' d)) (made_may canvas looks looks' before d);
      text_is = refl;
      stage = λ m. ap (λ (n : ℕ). at new (with_wire_count base n) m) (sym now_is);
      answer = refl;
      loads_are = refl;
    };
    few = (refl, refl, d.few_looks);
  }
  edited holds (Err cause) looks looks' before now (same, inl d) = short_so holds cause looks looks' before now same d
  edited holds (Err cause) looks looks' before now (same, inr d) = refused_so holds cause looks looks' before same d

-- it was told
module _ {E : Type 0} (r : Result Outcome E) (wanted : Wanted) (path : List ℕ) (e : Edit) (is : IsWireEdit wanted path e) (file : List ℕ) (names : Names) (base : Base) (time block_end fired : ℕ) (tally : Tally)
    (old new : Patch) (wires : ℕ) (was : base.counts.wires ≡ wires_told old.web) (now_is : wires ≡ wires_told new.web) (to : List Choice → Stage)
    (done : Result ℕ EditRefusal) (t t' : Option (List ℕ)) (k k' : ℕ) (before : IsReady old) (now : CanRewire new) (edits : EditsTo old new path e done k k')
    (stands : to ≡ stage_with file new names (with_wire_count base wires) time block_end fired tally) where
  abbrev from : List Choice → Stage
  from = stage_with file old names base time block_end fired tally

  abbrev there : List Choice → Stage
  there = stage_with file new names (with_wire_count base wires) time block_end fired tally

  told : (holds : Option (List FileRow)) → Told holds wanted (from []) there (edit_text new done) (edit_outcome done) k k'
  told holds = edited wanted path e is file names base time block_end fired tally old new wires was now_is holds done k k' before now edits

  so : t' ≡ grown t (edit_text new done) → (samples : Option (List ℕ)) (held : Option (List FileRow)) (faults : ℕ)
      → IsTakenSo wanted (edit_outcome done) [] from to (sinks t samples k held faults) (sinks t' samples k' held faults)
  so said samples held faults =
      subst (λ (x : List Choice → Stage). IsTakenSo wanted (edit_outcome done) [] from x (sinks t samples k held faults) (sinks t' samples k' held faults)) (sym stands)
      (told_so wanted (from []) there (edit_text new done) (edit_outcome done) t t' samples k k' held faults (told held) said)

  pub edit_so : (o : Outcome) → t' ≡ grown t (edit_text new done) → o ≡ edit_outcome done → (samples : Option (List ℕ)) (held : Option (List FileRow)) (faults : ℕ)
      → IsTakenSo wanted o [] from to (sinks t samples k held faults) (sinks t' samples k' held faults)
  edit_so o said answer samples held faults =
      subst (λ (x : Outcome). IsTakenSo wanted x [] from to (sinks t samples k held faults) (sinks t' samples k' held faults)) (sym answer) (so said samples held faults)

  pub part_edit : TookPart t t' (edit_text new done) → SaysPart (edit_taken wanted) from t t' k k'
  part_edit part = λ samples held faults.
      told_part wanted (from []) there (edit_text new done) (edit_outcome done) t t' samples k k' held faults (told held) part

  pub edited_so : OnOk r (t' ≡ grown t (edit_text new done)) → IfOk r (λ o. o ≡ edit_outcome done)
      → IfOk r (λ o. (samples : Option (List ℕ)) (held : Option (List FileRow)) (faults : ℕ) → IsTakenSo wanted o [] from to (sinks t samples k held faults) (sinks t' samples k' held faults))
  edited_so said is = both_ok r (λ o a b samples held faults. edit_so o a b samples held faults) said is

  pub edited_part : OnErr r (TookPart t t' (edit_text new done)) → OnErr r (SaysPart (edit_taken wanted) from t t' k k')
  edited_part part = on_err_weaker r (λ a. part_edit a) part

-- ---- what the engine knows of its patch goes on

edits_grove : (old new : Patch) (path : List ℕ) (e : Edit) (r : Result ℕ EditRefusal) (looks looks' : ℕ) → EditsTo old new path e r looks looks' → new.grove ≡ old.grove
edits_grove old new path e (Ok canvas) looks looks' d = (plan_stays d.rewired.plan old new d.rewired.done).1.grove
edits_grove old new path e (Err cause) looks looks' (same, inl d) = d.same.grove
edits_grove old new path e (Err cause) looks looks' (same, inr d) = ap (λ (p : Patch). p.grove) d.same

edits_few : (old new : Patch) (path : List ℕ) (e : Edit) (r : Result ℕ EditRefusal) (looks looks' : ℕ) → EditsTo old new path e r looks looks'
    → wires_told old.web ≤ 65536 → wires_told new.web ≤ 65536
edits_few old new path e (Ok canvas) looks looks' d low = edit_few d.rewired.plan old new path e d.rewired.is_planned d.rewired.done low
edits_few old new path e (Err cause) looks looks' (same, inl d) low = subst (λ (n : ℕ). n ≤ 65536) (sym (same_are_as_many old.web new.web d.same.web)) low
edits_few old new path e (Err cause) looks looks' (same, inr d) low = subst (λ (p : Patch). wires_told p.web ≤ 65536) (sym d.same) low

edits_meet : (old new : Patch) (path : List ℕ) (e : Edit) (r : Result ℕ EditRefusal) (looks looks' : ℕ) → EditsTo old new path e r looks looks' → Meet old.web → Meet new.web
edits_meet old new path e (Ok canvas) looks looks' d m = rewired_meet old new path e canvas d.rewired m
edits_meet old new path e (Err cause) looks looks' (same, inl d) m = room_meet old new d.same m
edits_meet old new path e (Err cause) looks looks' (same, inr d) m = subst (λ (p : Patch). Meet p.web) (sym d.same) m

pub edits_kept : (old new : Patch) (counts : Counts) (wires : ℕ) (path : List ℕ) (e : Edit) (r : Result ℕ EditRefusal) (looks looks' : ℕ) → EditsTo old new path e r looks looks'
    → CanRewire new → wires ≡ wires_told new.web → IsKept old counts → IsKept new (record counts { wires = wires })
edits_kept old new counts wires path e r looks looks' d now is k = wired_kept old new counts (record counts { wires = wires }) (edits_grove old new path e r looks looks' d) now (edits_meet old new path e r looks looks' d) is k

pub edits_within : (old new : Patch) (counts : Counts) (wires : ℕ) (path : List ℕ) (e : Edit) (r : Result ℕ EditRefusal) (looks looks' : ℕ) → EditsTo old new path e r looks looks'
    → counts.wires ≡ wires_told old.web → wires ≡ wires_told new.web → ∥ AreWithin counts ∥₁ → ∥ AreWithin (record counts { wires = wires }) ∥₁
edits_within old new counts wires path e r looks looks' d was is t = ∥∥₁_map t (λ h. record {
  boxes = h.boxes;
  wires = subst (λ (n : ℕ). n ≤ 65536) (sym is) (edits_few old new path e r looks looks' d (subst (λ (n : ℕ). n ≤ 65536) was h.wires));
  sound = h.sound;
  zeros = h.zeros;
})

-- ---- what `rewire` answers

is_memory : (c : EditRefusal) → (c ≡ refusal.NoMemory) ⊎ (c ≢ refusal.NoMemory)
is_memory refusal.NoDocument = inr (λ e. cc)
is_memory refusal.NoCanvas = inr (λ e. cc)
is_memory (refusal.NoBox n) = inr (λ e. cc)
is_memory (refusal.NoPort n p o) = inr (λ e. cc)
is_memory refusal.NoWire = inr (λ e. cc)
is_memory refusal.SignalIntoControl = inr (λ e. cc)
is_memory refusal.TextTooLong = inr (λ e. cc)
is_memory refusal.TooDeep = inr (λ e. cc)
is_memory refusal.ShelfFault = inr (λ e. cc)
is_memory refusal.SymbolsFull = inr (λ e. cc)
is_memory refusal.TooManyBoxes = inr (λ e. cc)
is_memory refusal.TooManyWires = inr (λ e. cc)
is_memory refusal.TooMuchSound = inr (λ e. cc)
is_memory refusal.NoMemory = inl refl

module _ (old new : Patch) (path : List ℕ) (e : Edit) (cause : EditRefusal) where
  abbrev IsShortBy : Type 0
  IsShortBy = (plan : Plan) × (planned old path e ≡ Ok plan) × SameButRoom old new

  lacks_or : (cause ≡ refusal.NoMemory) ⊎ (cause ≢ refusal.NoMemory) → (cause ≢ refusal.NoMemory → (planned old path e ≡ Err cause) × (new ≡ old)) → (cause ≡ refusal.NoMemory → IsShortBy)
      → Lacks old new path e cause ⊎ Refuses old new path e cause
  lacks_or (inl is) refused short = let d : IsShortBy = short is in inl (record { short = is; plan = d.0; is_planned = d.1; same = d.2 })
  lacks_or (inr denied) refused short = let d : (planned old path e ≡ Err cause) × (new ≡ old) = refused denied in inr (record { is_planned = d.0; same = d.1 })

  -- an edit that was refused
  pub refused_to : (looks looks' : ℕ) → looks' ≡ looks → (cause ≢ refusal.NoMemory → (planned old path e ≡ Err cause) × (new ≡ old)) → (cause ≡ refusal.NoMemory → IsShortBy)
      → EditsTo old new path e (Err cause) looks looks'
  refused_to looks looks' same refused short = (same, lacks_or (is_memory cause) refused short)

-- ---- what is refused whatever the patch is

always_may : (holds : Option (List FileRow)) (wanted : Wanted) (reason : Why) (s : Stage) → IsAlwaysRefused wanted reason → MayComeBy holds wanted s (stage.Refuses reason)
always_may holds (Edits None path e) reason s h = absurd h
always_may holds (Asks path e) reason s h = absurd h
always_may holds (Edits (Some document) path e) reason s h = ap (λ (w : Why). stage.Refuses w) h
always_may holds (Saves None) reason s h = absurd h
always_may holds (Saves (Some document)) reason s h = ap (λ (w : Why). stage.Refuses w) h
always_may holds Undoes reason s h = ap (λ (w : Why). stage.Refuses w) h
always_may holds Redoes reason s h = ap (λ (w : Why). stage.Refuses w) h

always_faultless : (wanted : Wanted) (reason : Why) → IsAlwaysRefused wanted reason → faults_of_why reason ≡ 0
always_faultless (Edits None path e) reason h = absurd h
always_faultless (Asks path e) reason h = absurd h
always_faultless (Edits (Some document) path e) reason h = ap faults_of_why h
always_faultless (Saves None) reason h = absurd h
always_faultless (Saves (Some document)) reason h = ap faults_of_why h
always_faultless Undoes reason h = ap faults_of_why h
always_faultless Redoes reason h = ap faults_of_why h

pub always_told : (wanted : Wanted) (reason : Why) (s : Stage) (o : Outcome) (looks : ℕ) → IsAlwaysRefused wanted reason → o ≡ refused_as reason
    → (holds : Option (List FileRow)) → Told holds wanted s (with_ahead s) (refusal_text (request_of wanted) reason) o looks looks
always_told wanted reason s o looks h is holds = record {
  came = record { choice = stage.Refuses reason; may = always_may holds wanted reason (with_ahead s []) h; text_is = refl; stage = λ m. refl; answer = sym is; loads_are = refl };
  few = (refl, always_faultless wanted reason h, omega arith);
}

-- ---- a box that an edit puts

-- there may be more room
pub room_clocks : (file : List ℕ) (names : Names) (base : Base) (time block_end fired : ℕ) (tally : Tally) (old new : Patch) → RoomSet old new → (m : List Choice)
    → with_net (stage_with file old names base time block_end fired tally m) (net_of new) ≡ stage_with file new names base time block_end fired tally m
room_clocks file names base time block_end fired tally old new room m =
    ap (λ (f : ℕ → Option State). record (with_net (stage_with file old names base time block_end fired tally m) (net_of new)) { states = f }) (λ i k. state_in (sym (room.grove.nodes k) i))
    ∙ ap (λ (c : List Clock). record (stage_with file new names base time block_end fired tally m) { clocks = c }) (sym room.clocks)

-- there may be more room for wires
pub room_wires : (file : List ℕ) (names : Names) (base : Base) (time block_end fired : ℕ) (tally : Tally) (old new : Patch) → SameButRoom old new → (m : List Choice)
    → with_net (stage_with file old names base time block_end fired tally m) (net_of new) ≡ stage_with file new names base time block_end fired tally m
room_wires file names base time block_end fired tally old new same m = rw (same.grove, same.timers) refl

module _ (wanted : Wanted) (path : List ℕ) (e : Edit) (is : IsBoxEdit wanted path e) (file : List ℕ) (names : Names) (files : List (ℕ × Answer)) (counts : Counts) (time block_end fired : ℕ) (tally : Tally) (old new : Patch) where
  abbrev before : List Choice → Stage
  before = stage_with file old names (base_of files counts) time block_end fired tally

  pub stands_before : IsReady old → StandsAt old (before [])
  stands_before ready = record { net = refl; states = refl; puts = ready.puts; meet = ready.meet }

  -- it was put
  module _ (holds : Option (List FileRow)) (more : Names) (learned : List (ℕ × Answer)) (b : NewBox) (ready : IsReady old) (d : AddsBoxBy holds old new counts file path time e (known files names) (known learned more) b)
      (onward : Extends names more) (within : AreWithin b.counts) where
    abbrev pub put_made : Made
    put_made = record {
      net = net_of new;
      states = states_of new;
      clocks = old.timers.clocks.clocks;
      names = more;
      base = base_of learned b.counts;
      lines = put_text more new b.key b.canvas;
      files = [];
      loads = loads_inside new b.key;
      looks = put_looks new b.key;
    }

    pub put_is : IsPutInBy holds (before []) path e put_made
    put_is = record {
      old = old;
      new = new;
      after = known learned more;
      box = b;
      stands = stands_before ready;
      adds = d;
      net = refl;
      states = refl;
      clocks = refl;
      names = refl;
      more = onward;
      base = refl;
      within = within;
      lines = refl;
      files = refl;
      loads = refl;
      looks = refl;
    }

    abbrev pub put_came : Came holds wanted (before []) (stage_with file new more (base_of learned b.counts) time block_end fired tally) (put_text more new b.key b.canvas) Done (loads_inside new b.key)
    put_came = record {
      choice = stage.Makes put_made;
      may = is.may holds (before []) (stage.Makes put_made) put_is;
      text_is = refl;
      stage = λ m. ap (λ (c : List Clock). record (stage_with file new more (base_of learned b.counts) time block_end fired tally m) { clocks = c }) (sym (came_clocks old new time d.added b.key d.put));
      answer = refl;
      loads_are = refl;
    }

  -- it was refused
  pub request_is : (c : EditRefusal) → refusal_text (request_of wanted) (why_of c) ≡ refusal_text request.Edit (why_of c)
  request_is c = ap (λ (r : Request). refusal_text r (why_of c)) is.request

  abbrev pub refused_came : (holds : Option (List FileRow)) (cause : EditRefusal) → IsReady old → new ≡ old → IsNotPutBy holds old counts file path e (known files names) cause
      → Came holds wanted (before []) (stage_with file new names (base_of files counts) time block_end fired tally) (refusal_text request.Edit (why_of cause)) (edit_outcome (Err cause)) []
  refused_came holds cause ready same d = record {
    choice = stage.Refuses (why_of cause);
    may = is.may holds (before []) (stage.Refuses (why_of cause)) (record { patch = old; cause = cause; stands = stands_before ready; refused = d; reason_is = refl });
    text_is = request_is cause;
    stage = λ m. ap (λ (p : Patch). stage_with file p names (base_of files counts) time block_end fired tally m) (sym same);
    answer = outcome_by cause;
    loads_are = refl;
  }

  -- memory was wanting to put it
  abbrev pub short_came : (holds : Option (List FileRow)) (cause : EditRefusal) → IsReady old → cause ≡ refusal.NoMemory → IsShortOfRoomBy holds old new counts file path e (known files names)
      → Came holds wanted (before []) (stage_with file new names (base_of files counts) time block_end fired tally) (refusal_text request.Edit (why_of cause)) (edit_outcome (Err cause)) []
  short_came holds cause ready short d = record {
    choice = stage.Lacks (net_of new);
    may = is.may holds (before []) (stage.Lacks (net_of new)) (record { old = old; new = new; stands = stands_before ready; short = d; net_is = refl });
    text_is = ap (λ (c : EditRefusal). refusal_text (request_of wanted) (why_of c)) (sym short) ∙ request_is cause;
    stage = λ m. room_clocks file names (base_of files counts) time block_end fired tally old new d.room m;
    answer = ap (λ (c : EditRefusal). edit_outcome (Err c)) (sym short);
    loads_are = refl;
  }

-- ---- one line and then others

-- a line was said, and a part of another
pub took_behind : (t u v : Option (List ℕ)) (a b : List ℕ) → u ≡ grown t a → TookPart u v b → TookPart t v (a ++ b)
took_behind t u v a b said part = record {
  part = a ++ part.part;
  begins = record { rest = part.begins.rest; is = ap (λ (x : List ℕ). a ++ x) part.begins.is ∙ sym (append_assoc a part.part part.begins.rest) };
  is = part.is ∙ ap (λ (x : Option (List ℕ)). grown x part.part) said ∙ grown-grown t a part.part;
}

-- both were said
pub said_behind : (t u v : Option (List ℕ)) (a b : List ℕ) → u ≡ grown t a → v ≡ grown u b → v ≡ grown t (a ++ b)
said_behind t u v a b first second = second ∙ ap (λ (x : Option (List ℕ)). grown x b) first ∙ grown-grown t a b

-- a line was said, and then no more than a part of two others
pub took_first : (t u v : Option (List ℕ)) (a b c : List ℕ) → u ≡ grown t a → TookPart u v b → TookPart t v (a ++ (b ++ c))
took_first t u v a b c said part = took_behind t u v a (b ++ c) said (took_more u v b c part)

-- two were said, and a part of a third
pub took_last : (t u v w : Option (List ℕ)) (a b c : List ℕ) → u ≡ grown t a → v ≡ grown u b → TookPart v w c → TookPart t w (a ++ (b ++ c))
took_last t u v w a b c first second part = took_behind t u w a (b ++ c) first (took_behind u v w b c second part)

-- all three were said
pub said_all : (t u v w : Option (List ℕ)) (a b c : List ℕ) → u ≡ grown t a → v ≡ grown u b → w ≡ grown v c → w ≡ grown t (a ++ (b ++ c))
said_all t u v w a b c first second third = said_behind t u w a (b ++ c) first (said_behind u v w b c second third)
