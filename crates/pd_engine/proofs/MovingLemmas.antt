-- What is told of a box that an edit moves, or of why none moves.
use Rattle.std.proofs.Common.{◌≡◌, arith, Bool, true, false, cond, ℕ, ℤ, List, [], refl, sym, ap, subst, inl, inr, slice_get, Option, Some, None, Result, Ok, Err, OnErr, OnOk, IfOk, ◌∙◌}
use Rattle.std.proofs.lemmas.Result.{on_err_weaker}
use Rattle.std.proofs.lemmas.Option.{same_Some}
use Rattle.slab.specs.Slab.{get}
use Rattle.pd_io.specs.Stream.{grown, TookPart}
use Rattle.pd_io.specs.declared.files.FileRow.{FileRow}
use Rattle.pd_atom.specs.Names.{Names}
use Rattle.pd_canvas.specs.declared.edits.Edit.{Edit}
use Rattle.pd_canvas.specs.declared.edits.Edit.TheVariants as edit
use Rattle.pd_clock.specs.Queue.{Clock}
use Rattle.pd_made.specs.declared.tally.Tally.{Tally}
use Rattle.pd_script.specs.Edits.{moved}
use Rattle.pd_grove.specs.declared.grove.Grove.{Grove}
use Rattle.pd_grove.specs.OwnPaths.{sub_reached}
use Rattle.pd_web.specs.Canvases.{keys_at}
use Rattle.pd_patch.specs.declared.patch.Patch.{Patch}
use Rattle.pd_wiring.specs.declared.refusals.EditRefusal.{EditRefusal}
use Rattle.pd_wiring.specs.declared.refusals.EditRefusal.TheVariants as refusal
use Rattle.pd_stage.specs.PassedOn.{MovedBox, is_array_in, moving, moving_in, moving_box, ShiftsBox, MovesBox, IsNotMoved}
use Rattle.pd_hearing.specs.Worlds.{net_of, states_of}
use Rattle.pd_stage.specs.Choices.{Base, Wanted, Edits, Made, Choice, faults_of_why}
use Rattle.pd_stage.specs.Choices as stage
use Rattle.pd_stage.specs.Stages.{Stage}
use Rattle.pd_stage.specs.Lawful.{why_of, StandsAt, IsMovedTo}
use Rattle.pd_stage.specs.Lines.{moved_text}
use Rattle.pd_stage.specs.Leads.{sinks, SaysPart}
use Rattle.pd_stage.specs.Events.{edit_taken}
use Rattle.pd_engine.specs.declared.refusals.Outcome.{Outcome}
use Rattle.pd_engine.specs.declared.refusals.Outcome.TheVariants.{Done}
use Rattle.pd_engine.specs.Edits.{edit_text, edit_outcome, IsEdited}
use Rattle.pd_engine.proofs.ClockLemmas.{stage_with}
use Rattle.pd_engine.proofs.RewireLemmas.{IsReady}
use Rattle.pd_engine.proofs.MakingLemmas.{Told, told_so, told_part, outcome_by, both_ok, room_wires}

-- ---- the edit that moves a box

pub is_move : (e : Edit) (number : ℕ) (x y : ℤ) → moved e ≡ Some (number, x, y) → e ≡ edit.Move number x y
is_move (edit.Move n u v) number x y is = ap (λ (p : ℕ × ℤ × ℤ). edit.Move p.0 p.1 p.2) (same_Some (n, u, v) (number, x, y) is)
is_move (edit.Connect v) number x y is = cc
is_move (edit.Disconnect v) number x y is = cc
is_move (edit.Delete n) number x y is = cc
is_move (edit.Retype n text) number x y is = cc
is_move (edit.Obj u v text) number x y is = cc
is_move (edit.Msg u v text) number x y is = cc
is_move (edit.Comment u v text) number x y is = cc
is_move (edit.FloatBox u v text) number x y is = cc
is_move (edit.SymbolBox u v text) number x y is = cc
is_move (edit.Sub u v name) number x y is = cc

-- ---- no box is left at its place for a fault of the folder

abbrev Faultless : Result (ℕ × ℕ) EditRefusal → Type 0
Faultless (Ok box) = Unit {0}
Faultless (Err cause) = faults_of_why (why_of cause) ≡ 0

may_move : (array : Bool) (number : ℕ) (box : ℕ × ℕ) → Faultless (cond array (Err (refusal.NoBox number)) (Ok box))
may_move true number box = refl
may_move false number box = tt

box_moves : (g : Grove) (canvas number : ℕ) (o : Option ℕ) → Faultless (moving_box g canvas number o)
box_moves g canvas number None = refl
box_moves g canvas number (Some key) = may_move (is_array_in (get g.nodes key)) number (canvas, key)

moves_from : (g : Grove) (number : ℕ) (o : Option ℕ) → Faultless (moving_in g number o)
moves_from g number None = refl
moves_from g number (Some canvas) = box_moves g canvas number (slice_get (keys_at g canvas) number)

faultless : (p : Patch) (path : List ℕ) (number : ℕ) (cause : EditRefusal) → moving p path number ≡ Err cause → faults_of_why (why_of cause) ≡ 0
faultless p path number cause is = subst Faultless is (moves_from p.grove number (sub_reached p.grove (Some p.grove.root) path))

-- ---- clocks stay

clocks_still : (old new : Patch) (canvas key : ℕ) (x y : ℤ) → ShiftsBox old new canvas key x y → new.timers.clocks.clocks ≡ old.timers.clocks.clocks
clocks_still old new canvas key x y (inl s) = ap (λ t. t.clocks.clocks) s.rest.timers
clocks_still old new canvas key x y (inr s) = ap (λ t. t.clocks.clocks) (s.slid.rest.timers ∙ s.room.timers)

-- ---- what it comes to

module _ (path : List ℕ) (number : ℕ) (x y : ℤ) (file : List ℕ) (names : Names) (base : Base) (time block_end fired : ℕ) (tally : Tally) (old new : Patch) (ready : IsReady old) where
  abbrev pub wanted : Wanted
  wanted = Edits None path (edit.Move number x y)

  abbrev from : List Choice → Stage
  from = stage_with file old names base time block_end fired tally

  abbrev to : List Choice → Stage
  to = stage_with file new names base time block_end fired tally

  stands : StandsAt old (from [])
  stands = record { net = refl; states = refl; puts = ready.puts; meet = ready.meet }

  -- it moved
  module _ (b : MovedBox) (d : MovesBox old new path number x y b) where
    abbrev told : List ℕ
    told = moved_text new b.canvas b.around

    abbrev elsewhere : Made
    elsewhere = record {
      net = net_of new;
      states = states_of new;
      clocks = old.timers.clocks.clocks;
      names = names;
      base = base;
      lines = told;
      files = [];
      loads = [];
      looks = 0;
    }

    moved_is : IsMovedTo (from []) path number x y elsewhere
    moved_is = record {
      old = old;
      new = new;
      box = b;
      stands = stands;
      moves = d;
      net = refl;
      states = refl;
      clocks = refl;
      names = refl;
      base = refl;
      lines = refl;
      files = refl;
      loads = refl;
      looks = refl;
    }

    pub moved_told : (steps : ℕ) (holds : Option (List FileRow)) → Told holds wanted (from []) to told Done steps steps
    moved_told steps holds = record {
      came = record {
        choice = stage.Makes elsewhere;
        may = moved_is;
        text_is = refl;
        stage = λ m. ap (λ (c : List Clock). record (to m) { clocks = c }) (sym (clocks_still old new b.canvas b.key x y d.shifts));
        answer = refl;
        loads_are = refl;
      };
      few = (refl, refl, omega arith);
    }

  -- it was refused
  pub stays_told : (cause : EditRefusal) (steps : ℕ) → IsNotMoved old new path number cause → (holds : Option (List FileRow)) → Told holds wanted (from []) to (edit_text new (Err cause)) (edit_outcome (Err cause)) steps steps
  stays_told cause steps (inl d) holds = record {
    came = record {
      choice = stage.Refuses (why_of cause);
      may = record { patch = old; cause = cause; stands = stands; refused = d.1; reason_is = refl };
      text_is = refl;
      stage = λ m. ap (λ (p : Patch). stage_with file p names base time block_end fired tally m) (sym d.0);
      answer = outcome_by cause;
      loads_are = refl;
    };
    few = (refl, faultless old path number cause d.1, omega arith);
  }
  stays_told cause steps (inr d) holds = record {
    came = record {
      choice = stage.Lacks (net_of new);
      may = record { old = old; new = new; stands = stands; short = d.1; rewires = d.1.goes_on.runs; net_is = refl };
      text_is = ap (λ (c : EditRefusal). edit_text new (Err c)) (sym d.0);
      stage = λ m. room_wires file names base time block_end fired tally old new d.1.room m;
      answer = ap (λ (c : EditRefusal). edit_outcome (Err c)) (sym d.0);
      loads_are = refl;
    };
    few = (refl, refl, omega arith);
  }

  -- it was told, and this is answered
  module _ {E : Type 0} (r : Result Outcome E) (t t' : Option (List ℕ)) (there : List Choice → Stage) (text : List ℕ) (outcome : Outcome)
      (told : (k : ℕ) (holds : Option (List FileRow)) → Told holds wanted (from []) to text outcome k k) (leads : there ≡ to) where
    abbrev pub Answered : Outcome → Type 0
    Answered o = (samples : Option (List ℕ)) (looks : ℕ) (held : Option (List FileRow)) (faults : ℕ)
        → IsEdited path (edit.Move number x y) o [] from there (sinks t samples looks held faults) (sinks t' samples looks held faults)

    so : (o : Outcome) → t' ≡ grown t text → o ≡ outcome → Answered o
    so o said answer samples looks held faults =
        subst (λ (z : List Choice → Stage). IsEdited path (edit.Move number x y) o [] from z (sinks t samples looks held faults) (sinks t' samples looks held faults)) (sym leads)
        (subst (λ (z : Outcome). IsEdited path (edit.Move number x y) z [] from to (sinks t samples looks held faults) (sinks t' samples looks held faults)) (sym answer)
        (told_so wanted (from []) to text outcome t t' samples looks looks held faults (told looks held) said))

    pub moved_so : OnOk r (t' ≡ grown t text) → IfOk r (λ o. o ≡ outcome) → IfOk r Answered
    moved_so said is = both_ok r so said is

    pub moved_part : OnErr r (TookPart t t' text) → OnErr r ((looks : ℕ) → SaysPart (edit_taken wanted) from t t' looks looks)
    moved_part part =
        on_err_weaker r (λ a looks samples held faults. told_part wanted (from []) to text outcome t t' samples looks looks held faults (told looks held) a) part
