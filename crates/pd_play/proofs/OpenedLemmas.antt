-- A script that is run from the opening on.
use Rattle.std.proofs.Common.{◌≡◌, ℕ, ap, ◌∙◌, subst, Option, List}
use Rattle.pd_clock.specs.declared.times.Rate.{Rate}
use Rattle.pd_clock.specs.Rates.{samples}
use Rattle.pd_feed.specs.Feed.{Feed}
use Rattle.pd_stage.specs.Choices.{Choice}
use Rattle.pd_stage.specs.Stages.{Stage}
use Rattle.pd_stage.specs.Leads.{Sinks}
use Rattle.pd_play.specs.Runs.{Point}
use Rattle.pd_play.specs.Playing.{unread, Ends}
use Rattle.pd_play.specs.Patches.{started}
use Rattle.pd_play.specs.declared.status.Status.{Status}

abbrev point : (List Choice → Stage) → ℕ → ℕ → ℕ → List Choice → Point
point stage rate number time m = record { stage = stage m; rate = rate; number = number; time = time }

begins_at : (stage : List Choice → Stage) (r rate : Rate) (number time : ℕ) → r ≡ rate → number ≡ 0 → time ≡ 0 → point stage (samples r) number time ≡ started stage (samples rate)
begins_at stage r rate number time same none zero =
    ap (λ (x : Rate). point stage (samples x) number time) same ∙ ap (λ (n : ℕ). point stage (samples rate) n time) none ∙ ap (λ (t : ℕ). point stage (samples rate) 0 t) zero

pub ends_opened : (f : Feed) (stage : List Choice → Stage) (r rate : Rate) (number time : ℕ) (status : Status) (to : List Choice → Point) (left left' : Option (List ℕ)) (read read' : ℕ) (x y : Sinks)
    → r ≡ rate → number ≡ 0 → time ≡ 0 → f ≡ unread
    → Ends f (point stage (samples r) number time) status to left left' read read' x y → Ends unread (started stage (samples rate)) status to left left' read read' x y
ends_opened f stage r rate number time status to left left' read read' x y same none zero new ends =
    subst (λ (g : Feed). Ends g (started stage (samples rate)) status to left left' read read' x y) new
    (subst (λ (p : List Choice → Point). Ends f p status to left left' read read' x y) (begins_at stage r rate number time same none zero) ends)
