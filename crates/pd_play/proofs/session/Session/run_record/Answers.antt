use Rattle.std.proofs.Common.{◌≡◌, ◌==◌, List, ℕ, [], length, true, false, sym, ap, ◌∙◌}
use Rattle.pd_script.specs.Scripts.{command_of}
use Rattle.pd_script.specs.Tokens.{tokens_of}
use Rattle.pd_stage.specs.Choices.{Choice}
use Rattle.pd_play.specs.Runs.{Point, counted}
use Rattle.pd_play.specs.Playing.{point_at}
use Rattle.pd_play.proofs.RunLemmas.{nothing_goes_on, nothing_played, leads_same, record_empty, record_read, record_bad}
use Rattle.pd_play.proofs.session.Session.run_record.Goals as goal

pub returns-then-is_empty-clause-leads : goal.returns-then-is_empty-clause-leads
returns-then-is_empty-clause-leads g c =
    let text : List ℕ = c.args.self.now.feed.last in
    let e : (length text == 0) ≡ true = ap (λ (l : List ℕ). length l == 0) (sym c.last.ensures.value) ∙ sym c.is_empty.ensures ∙ c.if-is_empty.true in
    nothing_goes_on _ _ _ (λ m rest. record_empty text (counted (point_at c.args.self.now m)) e rest)

pub returns-in-Some-clause-leads : goal.returns-in-Some-clause-leads
returns-in-Some-clause-leads g c =
    let text : List ℕ = c.args.self.now.feed.last in
    let p : List Choice → Point = λ m. counted (point_at c.args.self.now m) in
    let e : (length text == 0) ≡ false = ap (λ (l : List ℕ). length l == 0) (sym c.last.ensures.value) ∙ sym c.is_empty.ensures ∙ c.if-is_empty.false in
    let read = ap (λ (l : List ℕ). command_of (p []).stage.names (tokens_of l)) (sym c.last-2.ensures.value) ∙ c.in-Some.ensures.exact in
    leads_same c.run_at.result _ _ _ _ _
    (λ m rest. record_read text (p m) _ _ _ _ e read (c.read_record.ensures.stage m) rest)
    c.run_at.ensures.leads

pub returns-in-None-clause-leads : goal.returns-in-None-clause-leads
returns-in-None-clause-leads g c =
    let text : List ℕ = c.args.self.now.feed.last in
    let p : List Choice → Point = λ m. counted (point_at c.args.self.now m) in
    let e : (length text == 0) ≡ false = ap (λ (l : List ℕ). length l == 0) (sym c.last.ensures.value) ∙ sym c.is_empty.ensures ∙ c.if-is_empty.false in
    let read = ap (λ (l : List ℕ). command_of (p []).stage.names (tokens_of l)) (sym c.last-2.ensures.value) ∙ c.in-None.ensures.exact in
    nothing_played _ p _ _ _ _ c.bad_record.ensures (λ m rest. record_bad text (p m) e read rest)
