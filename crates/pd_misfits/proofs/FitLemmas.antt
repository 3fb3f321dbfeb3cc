-- Where the wires that don't fit are gone, those that fit are there, and no others.
use Rattle.std.proofs.Common.{◌≡◌, ℕ, ◌==◌, Bool, true, false, cond, not, ◌&&◌, List, filter, slice_get, Some, refl, sym, ap, ◌∙◌, subst}
use Rattle.std.proofs.lemmas.Option.{same_Some}
use Rattle.pd_object.specs.declared.kinds.Kind.{Kind}
use Rattle.pd_tree.specs.Ports.{is_made}
use Rattle.pd_grove.specs.declared.ports.Side.{Side}
use Rattle.pd_grove.specs.declared.ports.Side.TheVariants.{Inlets, Outlets}
use Rattle.pd_web.specs.declared.jacks.Jack.{Jack}
use Rattle.pd_web.specs.declared.lines.Line.{Line}
use Rattle.pd_web.specs.declared.web.Hop.{Hop}
use Rattle.pd_web.specs.declared.web.Web.{Web}
use Rattle.pd_web.specs.Canvases.{keys_at}
use Rattle.pd_web.specs.Hops.{jack_told, signal_in}
use Rattle.pd_web.specs.Jacks.{kind_jacks}
use Rattle.pd_web.specs.Changes.{line_told, KeepsPorts, Meet}
use Rattle.pd_patch.specs.declared.patch.Patch.{Patch}
use Rattle.pd_patch.specs.Listing.{IsThere}
use Rattle.pd_wiring.specs.Changes.{is_signal_line, CanRewire}
use Rattle.pd_taking.specs.Loosening.{hops_at, line_at}
use Rattle.pd_refitting.specs.Refits.{jack_with, made_with, TakesWires}
use Rattle.pd_misfits.specs.declared.wires.BoxWire.{BoxWire}
use Rattle.pd_misfits.specs.Misfits.{differ, fits_between, is_fit, is_signal_with, misfits, turning, turns, NoneTurns}
use Rattle.pd_misfits.specs.Shedding.{is_among, is_left, AllFit, IsWired, KeepsFit, Sheds}
use Rattle.pd_misfits.specs.declared.wires.Fate.TheVariants.{Goes, Turns}
use Rattle.pd_misfits.proofs.GatherLemmas.{not_so}
use Rattle.pd_misfits.proofs.ListLemmas.{in_listed, listed_in, IsIn}
use Rattle.pd_misfits.proofs.ShedLemmas.{among_some, from_filter, in_filter}
use Rattle.pd_misfits.proofs.TurnLemmas.{fit_stays}
use Rattle.pd_misfits.proofs.WireLemmas.{line_told_all, meant_all, meant_among}

-- a wire fits where it fitted
pub fits_still : (w v : Web) (key : ℕ) (k : Kind) (l : Line) → KeepsPorts w v → is_fit v key k l ≡ is_fit w key k l
fits_still w v key k l K =
    ap (λ (js : List Jack). fits_between (cond (l.source == key) (slice_get (kind_jacks Outlets k) l.outlet) (slice_get js l.outlet)) (jack_with v key k Inlets l.sink l.inlet) (made_with v key k l.sink))
    (K.ports Outlets l.source)
    ∙ ap (λ (js : List Jack). fits_between (jack_with w key k Outlets l.source l.outlet) (cond (l.sink == key) (slice_get (kind_jacks Inlets k) l.inlet) (slice_get js l.inlet)) (made_with v key k l.sink))
    (K.ports Inlets l.sink)
    ∙ ap (λ (b : Bool). fits_between (jack_with w key k Outlets l.source l.outlet) (jack_with w key k Inlets l.sink l.inlet) (cond (l.sink == key) (is_made k) b)) (K.made l.sink)

left_at : (w v : Web) (ms : List BoxWire) (side : Side) (key port : ℕ) → Sheds w v ms → hops_at v side key port ≡ filter (is_left ms) (hops_at w side key port)
left_at w v ms Inlets key port S = S.feeds key port
left_at w v ms Outlets key port S = S.fans key port

wired_at : (w : Web) (side : Side) (key port i : ℕ) (h : Hop) → IsWired w → slice_get (hops_at w side key port) i ≡ Some h → line_told w h.key ≡ Some (line_at side key port h)
wired_at w Inlets key port i h W e = W.feeds key port i h e
wired_at w Outlets key port i h W e = W.fans key port i h e

both_ways : true ≡ false → ⊥
both_ways e = cc

pub keeps_fit : (p : Patch) (v : Web) (canvas key : ℕ) (k : Kind) → CanRewire p → Meet p.web → IsWired p.web → IsThere (keys_at p.grove canvas) key → KeepsPorts p.web v
    → Sheds p.web v (misfits p canvas key k) → KeepsFit p.web v key k
keeps_fit p v canvas key k R meet W here K S = record {
  fit = λ side port i h e.
      let ms = misfits p canvas key k in
      let f = from_filter (is_left ms) (hops_at p.web side key port) h (subst (λ hs. IsIn h hs) (left_at p.web v ms side key port S) (in_listed h (hops_at v side key port) i e)) in
      fits_still p.web v key k (line_at side key port h) K ∙ so (is_fit p.web key k (line_at side key port h))
      (λ u. both_ways (sym f.1 ∙ ap not (meant_among Goes p canvas key k R meet here side port h f.0 (ap not u))));
  stay = λ side port i h e fit.
      let ms = misfits p canvas key k in
      let left : is_left ms h ≡ true = none (is_among ms h.key) (λ a.
      let s = among_some ms h.key a in
      let line : s.0.line ≡ line_at side key port h =
      same_Some s.0.line (line_at side key port h) (sym (line_told_all Goes p.web p.numbers.items key k (keys_at p.grove canvas) s.0 W s.1.0) ∙ ap (line_told p.web) (sym s.1.1) ∙ wired_at p.web side key port i h W e) in
      both_ways (sym fit ∙ ap (is_fit p.web key k) (sym line) ∙ not_so (is_fit p.web key k s.0.line) (meant_all Goes p.web p.numbers.items key k (keys_at p.grove canvas) s.0 s.1.0))) in
      listed_in h (hops_at v side key port) (subst (λ hs. IsIn h hs) (sym (left_at p.web v ms side key port S)) (in_filter (is_left ms) (hops_at p.web side key port) h (in_listed h (hops_at p.web side key port) i e) left));
}
  where
    so : (b : Bool) → (b ≡ false → ⊥) → b ≡ true
    so true n = refl
    so false n = absurd (n refl)

    none : (b : Bool) → (b ≡ true → ⊥) → not b ≡ true
    none true n = absurd (n refl)
    none false n = refl

-- Where none that is left turns, it stays as it is.

with_still : (w v : Web) (key : ℕ) (k : Kind) (l : Line) → KeepsPorts w v → is_signal_with v key k l ≡ is_signal_with w key k l
with_still w v key k l K =
    ap (λ (js : List Jack). signal_in (cond (l.source == key) (slice_get (kind_jacks Outlets k) l.outlet) (slice_get js l.outlet)) && signal_in (jack_with v key k Inlets l.sink l.inlet)) (K.ports Outlets l.source)
    ∙ ap (λ (js : List Jack). signal_in (jack_with w key k Outlets l.source l.outlet) && signal_in (cond (l.sink == key) (slice_get (kind_jacks Inlets k) l.inlet) (slice_get js l.inlet))) (K.ports Inlets l.sink)

line_still : (w v : Web) (l : Line) → KeepsPorts w v → is_signal_line v l ≡ is_signal_line w l
line_still w v l K =
    ap (λ (js : List Jack). signal_in (slice_get js l.outlet) && signal_in (jack_told v Inlets l.sink l.inlet)) (K.ports Outlets l.source)
    ∙ ap (λ (js : List Jack). signal_in (jack_told w Outlets l.source l.outlet) && signal_in (slice_get js l.inlet)) (K.ports Inlets l.sink)

pub turns_still : (w v : Web) (key : ℕ) (k : Kind) (l : Line) → KeepsPorts w v → turns v key k l ≡ turns w key k l
turns_still w v key k l K =
    ap (λ b. b && differ (is_signal_with v key k l) (is_signal_line v l)) (fits_still w v key k l K)
    ∙ ap (λ b. is_fit w key k l && differ b (is_signal_line v l)) (with_still w v key k l K)
    ∙ ap (λ b. is_fit w key k l && differ (is_signal_with w key k l) b) (line_still w v l K)

-- what is left stays as it is where none that fits turns
pub fit_taken : (p : Patch) (v : Web) (canvas key : ℕ) (k : Kind) → CanRewire p → Meet p.web → IsWired p.web → IsThere (keys_at p.grove canvas) key → NoneTurns p.web key k
    → KeepsPorts p.web v → Sheds p.web v (misfits p canvas key k) → TakesWires v key k
fit_taken p v canvas key k R meet W here N K S = λ side port i h e.
    let ms = misfits p canvas key k in
    let l = line_at side key port h in
    let f = from_filter (is_left ms) (hops_at p.web side key port) h (subst (λ hs. IsIn h hs) (left_at p.web v ms side key port S) (in_listed h (hops_at v side key port) i e)) in
    let at = listed_in h (hops_at p.web side key port) f.0 in
    let F = keeps_fit p v canvas key k R meet W here K S in
    fit_stays v key k l (F.fit side port i h e) (turns_still p.web v key k l K ∙ N side port at.0 h at.1)

pub left_stay : (p : Patch) (v : Web) (canvas key : ℕ) (k : Kind) → CanRewire p → Meet p.web → IsThere (keys_at p.grove canvas) key → AllFit p.web key k → KeepsPorts p.web v
    → Sheds p.web v (turning p canvas key k) → TakesWires v key k
left_stay p v canvas key k R meet here fit K S = λ side port i h e.
    let ms = turning p canvas key k in
    let l = line_at side key port h in
    let f = from_filter (is_left ms) (hops_at p.web side key port) h (subst (λ hs. IsIn h hs) (left_at p.web v ms side key port S) (in_listed h (hops_at v side key port) i e)) in
    let at = listed_in h (hops_at p.web side key port) f.0 in
    let same : turns p.web key k l ≡ false = not_then (turns p.web key k l) (λ u. both_ways (sym f.1 ∙ ap not (meant_among Turns p canvas key k R meet here side port h f.0 u))) in
    fit_stays v key k l (fits_still p.web v key k l K ∙ fit side port at.0 h at.1) (turns_still p.web v key k l K ∙ same)
  where
    not_then : (b : Bool) → (b ≡ true → ⊥) → b ≡ false
    not_then true n = absurd (n refl)
    not_then false n = refl
