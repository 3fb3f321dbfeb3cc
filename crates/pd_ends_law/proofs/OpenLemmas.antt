-- Only what a `vline~` keeps has the end of a block.
use Rattle.std.proofs.Common.{◌≡◌, ◌≤◌, ◌==◌, ℕ, Bool, true, false, Option, Some, None, IfSome, option_map, refl, sym, ap, subst, ◌∙◌, true≢false, arith}
use Rattle.std.proofs.lemmas.Option.{none-some, same_Some}
use Rattle.slab.specs.Slab.{get}
use Rattle.pd_clock.specs.declared.times.Rate.{Rate}
use Rattle.pd_clock.specs.declared.times.Rate.TheVariants.{R44100}
use Rattle.pd_object.specs.declared.kinds.Arith.{Arith}
use Rattle.pd_object.specs.declared.kinds.Arith.TheVariants as arith_kind
use Rattle.pd_object.specs.declared.kinds.Glue.{Glue}
use Rattle.pd_object.specs.declared.kinds.Glue.TheVariants as glue
use Rattle.pd_object.specs.declared.kinds.Kind.{Kind}
use Rattle.pd_object.specs.declared.kinds.Kind.TheVariants as kind
use Rattle.pd_object.specs.declared.kinds.Panel.{Panel}
use Rattle.pd_object.specs.declared.kinds.Panel.TheVariants as panel
use Rattle.pd_object.specs.declared.kinds.Signal.{Signal}
use Rattle.pd_object.specs.declared.kinds.Signal.TheVariants as signal
use Rattle.pd_object.specs.declared.kinds.Tone.{Tone}
use Rattle.pd_object.specs.declared.kinds.Tone.TheVariants as tone
use Rattle.pd_kind.specs.declared.states.State.{State}
use Rattle.pd_kind.specs.declared.states.State.TheVariants as state
use Rattle.pd_kind.specs.Fit.{blank}
use Rattle.pd_kind.specs.States.{start_of, arith_start, glue_start, tone_start, signal_start, panel_start}
use Rattle.pd_kind.specs.Tables.{started}
use Rattle.pd_vline.specs.Rows.{IsOpen}
use Rattle.pd_grove.specs.declared.nodes.Node.{Node}
use Rattle.pd_grove.specs.States.{NodesFresh}
use Rattle.pd_grove.specs.Telling.{kind_in, state_in}
use Rattle.pd_patch.specs.declared.patch.Patch.{Patch}
use Rattle.pd_block.specs.Nets.{states_of, set_at}
use Rattle.pd_guards.proofs.FactLemmas.{either_by}
use Rattle.pd_sized.specs.Kinds.{kinds_of, blank_of, KeepsOfKind}
use Rattle.pd_sized.proofs.KindLemmas.{made_of_kind}

-- what all boxes keep
abbrev pub AllOpen : ℕ → (ℕ → Option State) → Type 0
AllOpen t states = (k : ℕ) → IfSome (states k) (IsOpen t)

-- ramps
abbrev pub is_line : State → Bool
is_line (state.Vline r) = true
is_line s = false

blank_line : (s : State) → is_line (blank s) ≡ is_line s
blank_line (state.Vline r) = refl
blank_line s = refl

abbrev is_vline : Kind → Bool
is_vline kind.Vline = true
is_vline k = false

-- no kind but `vline~` keeps ramps
arith_line : (a : Arith) → is_line (blank (arith_start a)) ≡ false
arith_line (arith_kind.Operation o z) = refl
arith_line a = refl

glue_line : (g : Glue) → is_line (blank (glue_start g R44100)) ≡ false
glue_line (glue.Message text) = refl
glue_line g = refl

tone_line : (t : Tone) → is_line (blank (tone_start t R44100)) ≡ false
tone_line (tone.Phasor z) = refl
tone_line t = refl

signal_line : (g : Signal) → is_line (blank (signal_start g R44100)) ≡ false
signal_line (signal.Sig z) = refl
signal_line g = refl

panel_line : (p : Panel) → is_line (blank (panel_start p)) ≡ false
panel_line (panel.Bng button) = refl
panel_line (panel.Tgl toggle) = refl

kind_line : (k : Kind) → is_vline k ≡ false → is_line (blank_of k) ≡ false
kind_line (kind.Arith a) e = arith_line a
kind_line (kind.Glue g) e = glue_line g
kind_line (kind.Tone t) e = tone_line t
kind_line (kind.Signal g) e = signal_line g
kind_line (kind.Panel p) e = panel_line p
kind_line kind.Vline e = absurd (true≢false e)
kind_line kind.Unmade e = refl
kind_line kind.Canvas e = refl

no_ramps : (t : ℕ) (s : State) → is_line s ≡ false → IsOpen t s
no_ramps t (state.Vline r) e = absurd (true≢false e)
no_ramps t s e = tt

other_open : (t : ℕ) (k : Kind) (s : State) → is_vline k ≡ false → option_map blank (Some s) ≡ Some (blank_of k) → IsOpen t s
other_open t k s v e = no_ramps t s (sym (blank_line s) ∙ ap is_line (same_Some (blank s) (blank_of k) e) ∙ kind_line k v)

kept_open : (t : ℕ) (j : Option Kind) (o : Option State) → option_map blank o ≡ option_map blank_of j → (j ≡ Some kind.Vline → IfSome o (IsOpen t)) → IfSome o (IsOpen t)
kept_open t j None e h = tt
kept_open t None (Some s) e h = absurd (none-some (blank s) (sym e))
kept_open t (Some kind.Vline) (Some s) e h = h refl
kept_open t (Some k) (Some s) e h = other_open t k s refl e

-- where boxes keep what is of their kinds, only those of one kind are to be looked at
pub all_open : (t : ℕ) (kinds : ℕ → Option Kind) (states : ℕ → Option State) → KeepsOfKind kinds states → ((k : ℕ) → kinds k ≡ Some kind.Vline → IfSome (states k) (IsOpen t)) → AllOpen t states
all_open t kinds states kept h k = kept_open t (kinds k) (states k) (kept k) (h k)

-- a later time
later_open : (t u : ℕ) (s : State) → t ≤ u → IsOpen t s → IsOpen u s
later_open t u (state.Vline r) l h = omega arith
later_open t u s l h = tt

later_kept : (t u : ℕ) (o : Option State) → t ≤ u → IfSome o (IsOpen t) → IfSome o (IsOpen u)
later_kept t u None l h = tt
later_kept t u (Some s) l h = later_open t u s l h

pub open_later : (t u : ℕ) (states : ℕ → Option State) → t ≤ u → AllOpen t states → AllOpen u states
open_later t u states l a k = later_kept t u (states k) l (a k)

-- another state in place of one
pub set_open : (t : ℕ) (states : ℕ → Option State) (node : ℕ) (o : Option State) (k : ℕ) → IfSome (states k) (IsOpen t) → ((k == node) ≡ true → IfSome o (IsOpen t)) → IfSome (set_at states node o k) (IsOpen t)
set_open t states node o k a h = either_by (λ (x : Option State). IfSome x (IsOpen t)) (k == node) o (states k) h (λ e. a)

-- what is made
pub first_open : (rate : Rate) (now t : ℕ) → IsOpen t (started (start_of kind.Vline rate) now)
first_open rate now t = omega arith

node_open : (rate : Rate) (now t : ℕ) (o : Option Node) → ((n : Node) → o ≡ Some n → n.state ≡ Some (started (start_of n.kind rate) now)) → kind_in o ≡ Some kind.Vline → IfSome (state_in o) (IsOpen t)
node_open rate now t None h e = tt
node_open rate now t (Some n) h e =
    let made : n.state ≡ Some (started (start_of kind.Vline rate) now) = h n refl ∙ ap (λ (k : Kind). Some (started (start_of k rate) now)) (same_Some n.kind kind.Vline e) in
    subst (λ (x : Option State). IfSome x (IsOpen t)) (sym made) (first_open rate now t)

pub grown_open : (p : Patch) (rate : Rate) (now t : ℕ) → NodesFresh rate now (get p.grove.nodes) → AllOpen t (states_of p)
grown_open p rate now t fresh =
    all_open t (kinds_of p) (states_of p) (made_of_kind p rate now fresh) (λ k e. node_open rate now t (get p.grove.nodes k) (fresh k) e)
