-- A wire that fits and doesn't turn stays.
use Rattle.std.proofs.Common.{◌≡◌, ℕ, Bool, true, false, ◌&&◌, not, Option, Some, None, refl, sym, ap, ◌∙◌}
use Rattle.pd_object.specs.declared.kinds.Kind.{Kind}
use Rattle.pd_grove.specs.declared.ports.Side.TheVariants.{Inlets, Outlets}
use Rattle.pd_web.specs.declared.jacks.Jack.{Jack}
use Rattle.pd_web.specs.declared.lines.Line.{Line}
use Rattle.pd_web.specs.declared.web.Web.{Web}
use Rattle.pd_web.specs.Hops.{signal_in}
use Rattle.pd_wiring.specs.Changes.{is_signal_line}
use Rattle.pd_refitting.specs.Refits.{jack_with, made_with, StaysWire}
use Rattle.pd_misfits.specs.Misfits.{differ, fits_between, is_fit, is_signal_with, turns}

no_differ : (a b : Bool) → differ a b ≡ false → a ≡ b
no_differ true true e = refl
no_differ true false e = cc
no_differ false true e = cc
no_differ false false e = refl

same_both : (a b : Bool) → a ≡ b → differ a b ≡ false
same_both true true e = refl
same_both true false e = cc
same_both false true e = cc
same_both false false e = refl

not_false : (b : Bool) → not b ≡ true → b ≡ false
not_false true e = cc
not_false false e = refl

not_true : (b : Bool) → b ≡ false → not b ≡ true
not_true true e = cc
not_true false e = refl

module _ (w : Web) (key : ℕ) (k : Kind) (l : Line) where
  pub fit_stays : is_fit w key k l ≡ true → turns w key k l ≡ false → StaysWire w key k l
  fit_stays fit same = step (jack_with w key k Outlets l.source l.outlet) (jack_with w key k Inlets l.sink l.inlet) refl refl fit (ap (λ b. b && differ (is_signal_with w key k l) (is_signal_line w l)) (sym fit) ∙ same)
    where
      made : Bool
      made = made_with w key k l.sink

      step : (a b : Option Jack) → jack_with w key k Outlets l.source l.outlet ≡ a → jack_with w key k Inlets l.sink l.inlet ≡ b → fits_between a b made ≡ true
          → differ (is_signal_with w key k l) (is_signal_line w l) ≡ false → StaysWire w key k l
      step None b e f fit same = cc
      step (Some from) None e f fit same = cc
      step (Some from) (Some to) e f fit same = record {
        from = from;
        to = to;
        source = e;
        sink = f;
        fits = not_false (from.is_signal && (not to.is_signal && made)) fit;
        same = sym (ap (λ (o : Option Jack). signal_in o && signal_in (jack_with w key k Inlets l.sink l.inlet)) e ∙ ap (λ (o : Option Jack). from.is_signal && signal_in o) f)
            ∙ no_differ (is_signal_with w key k l) (is_signal_line w l) same;
      }

  pub stays_fit : StaysWire w key k l → is_fit w key k l ≡ true
  stays_fit S =
      ap (λ (o : Option Jack). fits_between o (jack_with w key k Inlets l.sink l.inlet) (made_with w key k l.sink)) S.source
      ∙ ap (λ (o : Option Jack). fits_between (Some S.from) o (made_with w key k l.sink)) S.sink
      ∙ not_true (S.from.is_signal && (not S.to.is_signal && made_with w key k l.sink)) S.fits

  pub stays_same : StaysWire w key k l → turns w key k l ≡ false
  stays_same S =
      ap (λ b. b && differ (is_signal_with w key k l) (is_signal_line w l)) (stays_fit S)
      ∙ same_both (is_signal_with w key k l) (is_signal_line w l)
      (ap (λ (o : Option Jack). signal_in o && signal_in (jack_with w key k Inlets l.sink l.inlet)) S.source ∙ ap (λ (o : Option Jack). S.from.is_signal && signal_in o) S.sink ∙ S.same)
