-- What boxes keep at first is what a save may write of them.
use Rattle.std.proofs.Common.{◌≡◌, ℕ, ℤ, Bool, true, false, List, Option, Some, None, refl, sym, ap, ◌∙◌, subst}
use Rattle.std.proofs.lemmas.Option.{none-some}
use Rattle.pd_clock.specs.declared.times.Rate.{Rate}
use Rattle.pd_object.specs.declared.kinds.Kind.{Kind}
use Rattle.pd_object.specs.declared.kinds.Kind.TheVariants as kind
use Rattle.pd_object.specs.declared.kinds.Arith.{Arith}
use Rattle.pd_object.specs.declared.kinds.Arith.TheVariants as arith
use Rattle.pd_object.specs.declared.kinds.Glue.{Glue}
use Rattle.pd_object.specs.declared.kinds.Glue.TheVariants as glue
use Rattle.pd_object.specs.declared.kinds.Tone.{Tone}
use Rattle.pd_object.specs.declared.kinds.Tone.TheVariants as tone
use Rattle.pd_object.specs.declared.kinds.Signal.{Signal}
use Rattle.pd_object.specs.declared.kinds.Signal.TheVariants as signal
use Rattle.pd_object.specs.declared.kinds.Panel.TheVariants as panel
use Rattle.pd_kind.specs.declared.states.State.{State}
use Rattle.pd_kind.specs.declared.states.State.TheVariants as state
use Rattle.pd_kind.specs.States.{arith_start, glue_start, tone_start, signal_start, or_one, start_of}
use Rattle.pd_kind.specs.Tables.{started, saved_if, saved_of}
use Rattle.pd_canvas.specs.Arrays.{is_saved}
use Rattle.pd_canvas.specs.Pages.{Shape, Msg, Obj, Array, Head}
use Rattle.pd_grove.specs.declared.nodes.Node.{Node}
use Rattle.pd_grove.specs.States.{NodesFresh}
use Rattle.pd_present.specs.Contents.{present_values, present_head}
use Rattle.pd_reload_law.specs.Saving.{TurnsWhole, AreSavable}
use Rattle.pd_reload_law.proofs.NowLemmas.{head_kept}

arith_saves : (a : Arith) (now : ℕ) → saved_of (started (arith_start a) now) ≡ None
arith_saves (arith.Operation o z) now = refl
arith_saves (arith.Comparison c z) now = refl
arith_saves (arith.Division d z) now = refl
arith_saves (arith.Function f) now = refl
arith_saves (arith.Clip low high) now = refl

glue_saves : (g : Glue) (rate : Rate) (now : ℕ) → saved_of (started (glue_start g rate) now) ≡ None
glue_saves (glue.Message text) rate now = refl
glue_saves (glue.FloatBox text) rate now = refl
glue_saves (glue.SymbolBox text) rate now = refl
glue_saves glue.Comment rate now = refl
glue_saves (glue.Array text values) rate now = refl
glue_saves (glue.Bang w) rate now = refl
glue_saves (glue.Float w z) rate now = refl
glue_saves (glue.Int w z) rate now = refl
glue_saves (glue.Symbol s) rate now = refl
glue_saves (glue.Trigger w outs) rate now = refl
glue_saves (glue.Pack slots) rate now = refl
glue_saves (glue.Unpack slots) rate now = refl
glue_saves (glue.Route args) rate now = refl
glue_saves (glue.Select w args) rate now = refl
glue_saves (glue.Moses z) rate now = refl
glue_saves (glue.Spigot z) rate now = refl
glue_saves (glue.Swap z) rate now = refl
glue_saves (glue.Change z) rate now = refl
glue_saves glue.Until rate now = refl
glue_saves glue.Loadbang rate now = refl
glue_saves (glue.Print ws) rate now = refl
glue_saves (glue.Send w name) rate now = refl
glue_saves (glue.Receive w name) rate now = refl
glue_saves (glue.Metro z) rate now = refl
glue_saves (glue.Delay w z) rate now = refl
glue_saves glue.Timer rate now = refl
glue_saves (glue.Random z) rate now = refl
glue_saves (glue.ListAppend w atoms) rate now = refl
glue_saves (glue.ListPrepend atoms) rate now = refl
glue_saves (glue.ListSplit z) rate now = refl
glue_saves glue.ListTrim rate now = refl
glue_saves glue.ListLength rate now = refl
glue_saves (glue.Port s) rate now = refl
glue_saves (glue.Table name z) rate now = refl
glue_saves (glue.Tabread name) rate now = refl
glue_saves (glue.Tabwrite name) rate now = refl

tone_saves : (t : Tone) (rate : Rate) (now : ℕ) → saved_of (started (tone_start t rate) now) ≡ None
tone_saves (tone.Phasor z) rate now = refl
tone_saves (tone.Osc z) rate now = refl
tone_saves tone.Noise rate now = refl

signal_saves : (s : Signal) (rate : Rate) (now : ℕ) → saved_of (started (signal_start s rate) now) ≡ None
signal_saves (signal.Sig z) rate now = refl
signal_saves (signal.Operation o z) rate now = refl
signal_saves (signal.Function f) rate now = refl
signal_saves (signal.Clip low high) rate now = refl
signal_saves signal.Line rate now = refl
signal_saves signal.Samphold rate now = refl
signal_saves (signal.Lop z) rate now = refl
signal_saves (signal.Hip z) rate now = refl
signal_saves (signal.Delwrite name z) rate now = refl
signal_saves (signal.Delread name z) rate now = refl
signal_saves (signal.Send w name) rate now = refl
signal_saves (signal.Receive w name) rate now = refl
signal_saves (signal.Throw name) rate now = refl
signal_saves (signal.Catch name) rate now = refl
signal_saves signal.Snapshot rate now = refl
signal_saves (signal.Tabread name) rate now = refl
signal_saves (signal.Dac channels) rate now = refl
signal_saves signal.Inlet rate now = refl
signal_saves signal.Outlet rate now = refl

whole_saves : (whole : Bool) (value other : ℤ) (v : ℤ × ℤ) → saved_if whole value other ≡ Some v → whole ≡ true
whole_saves true value other v e = refl
whole_saves false value other v e = absurd (none-some v e)

none_turns : (k : Kind) (s : State) → saved_of s ≡ None → TurnsWhole k (Some s)
none_turns k s e v h = absurd (none-some v (sym e ∙ h))

-- what a box of a kind keeps at first
kind_turns : (k : Kind) (rate : Rate) (now : ℕ) → TurnsWhole k (Some (started (start_of k rate) now))
kind_turns (kind.Arith a) rate now = none_turns (kind.Arith a) (started (start_of (kind.Arith a) rate) now) (arith_saves a now)
kind_turns (kind.Glue g) rate now = none_turns (kind.Glue g) (started (start_of (kind.Glue g) rate) now) (glue_saves g rate now)
kind_turns (kind.Tone t) rate now = none_turns (kind.Tone t) (started (start_of (kind.Tone t) rate) now) (tone_saves t rate now)
kind_turns (kind.Signal s) rate now = none_turns (kind.Signal s) (started (start_of (kind.Signal s) rate) now) (signal_saves s rate now)
kind_turns (kind.Panel (panel.Bng b)) rate now = none_turns (kind.Panel (panel.Bng b)) (started (start_of (kind.Panel (panel.Bng b)) rate) now) refl
kind_turns (kind.Panel (panel.Tgl t)) rate now = λ v h. (t, refl, whole_saves t.is_whole t.value (or_one t.other) v h)
kind_turns kind.Vline rate now = none_turns kind.Vline (started (start_of kind.Vline rate) now) refl
kind_turns kind.Unmade rate now = none_turns kind.Unmade (started (start_of kind.Unmade rate) now) refl
kind_turns kind.Canvas rate now = none_turns kind.Canvas (started (start_of kind.Canvas rate) now) refl

same_values : (b : Bool) (values : List ℤ) → present_values b (Some state.Bare) values ≡ values
same_values true values = refl
same_values false values = refl

bare_by : (f : Shape) (h : Head) → h.form ≡ f → present_head (Some state.Bare) h ≡ h
bare_by Msg h e = head_kept Msg (Some state.Bare) h e refl refl
bare_by Obj h e = head_kept Obj (Some state.Bare) h e refl refl
bare_by (Array values) h e = head_kept (Array values) (Some state.Bare) h e (ap Array (same_values (is_saved h.text) values)) refl
bare_by f h e = head_kept f (Some state.Bare) h e refl refl

-- a box that keeps nothing is saved as it was
pub bare_kept : (h : Head) → present_head (Some state.Bare) h ≡ h
bare_kept h = bare_by h.form h refl

pub fresh_savable : (rate : Rate) (now : ℕ) (nodes : ℕ → Option Node) → NodesFresh rate now nodes → AreSavable nodes
fresh_savable rate now nodes f = record {
  toggles = λ k n e. subst (TurnsWhole n.kind) (sym (f k n e)) (kind_turns n.kind rate now);
  canvases = λ k n h e c. ap (λ (x : Option State). present_head x h) (f k n e ∙ ap (λ (y : Kind). Some (started (start_of y rate) now)) c) ∙ bare_kept h;
}
