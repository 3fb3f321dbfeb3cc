use Rattle.std.proofs.Common.{◌≡◌, ℕ, List, sym, ◌∙◌, ap, subst, OnOk, OnErr}
use Rattle.slab.specs.Slab.{get}
use Rattle.pd_queue.specs.declared.queue.Asked.{Asked}
use Rattle.pd_say.specs.Gathering.{Says, Fails}
use Rattle.pd_say.proofs.GatheringLemmas.{says_nothing}
use Rattle.pd_hearing.specs.Worlds.{net_of}
use Rattle.pd_walk.specs.Acts.{path_in, answer_text}
use Rattle.pd_hearing.proofs.WorldLemmas.{path-bare}
use Rattle.pd_walk.proofs.ActLemmas.{far-queue, near-queue, far-text, near-text}
use Rattle.pd_walk.proofs.canvases.ask_edit.Goals as goal

pub returns-then-not-is_in_reach-clause-queue : goal.returns-then-not-is_in_reach-clause-queue
returns-then-not-is_in_reach-clause-queue g c =
    let is : c.as_slice-path.result.now ≡ path_in (net_of c.args.patch.now) c.args.canvas
    = c.as_slice-path.ensures.value ∙ c.path_of-path.ensures ∙ sym (path-bare (get c.args.patch.now.grove.nodes) c.args.patch.now.grove.boards c.args.patch.now.numbers.items c.args.canvas) in
    far-queue (net_of c.args.patch.now) c.args.canvas c.args.atoms.now c.args.queue.now c.args.verb c.as_slice-path.result.now c.is_in_reach.result is c.is_in_reach.ensures.value c.if-not-is_in_reach.true

pub returns-then-not-is_in_reach-clause-ok : goal.returns-then-not-is_in_reach-clause-ok
returns-then-not-is_in_reach-clause-ok g c =
    let is : c.as_slice-path.result.now ≡ path_in (net_of c.args.patch.now) c.args.canvas
    = c.as_slice-path.ensures.value ∙ c.path_of-path.ensures ∙ sym (path-bare (get c.args.patch.now.grove.nodes) c.args.patch.now.grove.boards c.args.patch.now.numbers.items c.args.canvas) in
    subst (λ (l : List ℕ). Says (g.L.Sink.taken c.args.lines.now) c.args.held.now.items (g.L.Sink.taken c.args.lines.now) c.args.held.now.items l)
    (sym (far-text (net_of c.args.patch.now) c.args.canvas c.args.atoms.now c.args.queue.now c.args.verb c.as_slice-path.result.now c.is_in_reach.result is c.is_in_reach.ensures.value c.args.symbols.now c.args.selector c.if-not-is_in_reach.true)) (says_nothing (g.L.Sink.taken c.args.lines.now) c.args.held.now.items)

pub returns-clause-queue : goal.returns-clause-queue
returns-clause-queue g c =
    let is : c.as_slice-path.result.now ≡ path_in (net_of c.args.patch.now) c.args.canvas
    = c.as_slice-path.ensures.value ∙ c.path_of-path.ensures ∙ sym (path-bare (get c.args.patch.now.grove.nodes) c.args.patch.now.grove.boards c.args.patch.now.numbers.items c.args.canvas) in
    c.ask-answer.ensures.queue ∙ near-queue (net_of c.args.patch.now) c.args.canvas c.args.atoms.now c.args.queue.now c.args.verb c.as_slice-path.result.now c.is_in_reach.result is c.is_in_reach.ensures.value c.if-not-is_in_reach.false

pub returns-clause-ok : goal.returns-clause-ok
returns-clause-ok g c =
    let is : c.as_slice-path.result.now ≡ path_in (net_of c.args.patch.now) c.args.canvas
    = c.as_slice-path.ensures.value ∙ c.path_of-path.ensures ∙ sym (path-bare (get c.args.patch.now.grove.nodes) c.args.patch.now.grove.boards c.args.patch.now.numbers.items c.args.canvas) in
    subst (λ (l : List ℕ). OnOk c.print_answer.result (Says (g.L.Sink.taken c.args.lines.now) c.args.held.now.items (g.L.Sink.taken c.print_answer.new.lines) c.print_answer.new.held.items l))
    (ap (λ (a : Asked). answer_text c.args.symbols.now c.args.selector a) c.ask-answer.ensures.answer
    ∙ sym (near-text (net_of c.args.patch.now) c.args.canvas c.args.atoms.now c.args.queue.now c.args.verb c.as_slice-path.result.now c.is_in_reach.result is c.is_in_reach.ensures.value c.args.symbols.now c.args.selector c.if-not-is_in_reach.false)) c.print_answer.ensures.ok

pub returns-clause-err : goal.returns-clause-err
returns-clause-err g c =
    let is : c.as_slice-path.result.now ≡ path_in (net_of c.args.patch.now) c.args.canvas
    = c.as_slice-path.ensures.value ∙ c.path_of-path.ensures ∙ sym (path-bare (get c.args.patch.now.grove.nodes) c.args.patch.now.grove.boards c.args.patch.now.numbers.items c.args.canvas) in
    subst (λ (l : List ℕ). OnErr c.print_answer.result (Fails (g.L.Sink.taken c.args.lines.now) c.args.held.now.items (g.L.Sink.taken c.print_answer.new.lines) l))
    (ap (λ (a : Asked). answer_text c.args.symbols.now c.args.selector a) c.ask-answer.ensures.answer
    ∙ sym (near-text (net_of c.args.patch.now) c.args.canvas c.args.atoms.now c.args.queue.now c.args.verb c.as_slice-path.result.now c.is_in_reach.result is c.is_in_reach.ensures.value c.args.symbols.now c.args.selector c.if-not-is_in_reach.false)) c.print_answer.ensures.err
