use Rattle.std.proofs.Common.{List, sym, ap, ◌∙◌, arith}
use Rattle.pd_web.specs.declared.sockets.Sockets.{Sockets}
use Rattle.pd_web.specs.Sockets.{end_at}
use Rattle.pd_web.proofs.ChangeLemmas.{same_none}
use Rattle.pd_web.proofs.web.Web.end_for_wire.Goals as goal

pub take_end-requires-clause-there : goal.take_end-requires-clause-there
take_end-requires-clause-there c = c.requires.there

pub take_end-requires-clause-none : goal.take_end-requires-clause-none
take_end-requires-clause-none c = ap (λ (all : List Sockets). end_at all c.args.spot) (sym c.as_slice.ensures.value) ∙ sym c.end_at.ensures ∙ c.in-None.is

pub take_end-requires-clause-room : goal.take_end-requires-clause-room
take_end-requires-clause-room c = c.requires.room

pub returns-in-Some-clause-is : goal.returns-in-Some-clause-is
returns-in-Some-clause-is c = ap (λ (all : List Sockets). end_at all c.args.spot) (sym c.as_slice.ensures.value) ∙ sym c.end_at.ensures ∙ c.in-Some.is

pub returns-in-Some-clause-same : goal.returns-in-Some-clause-same
returns-in-Some-clause-same c = same_none c.args.self.now

pub returns-in-Some-clause-ends : goal.returns-in-Some-clause-ends
returns-in-Some-clause-ends c = λ s e h. h

pub returns-in-Some-clause-room : goal.returns-in-Some-clause-room
returns-in-Some-clause-room c = λ k p n h. let ends = h.ends in record { boxes = h.boxes; homes = h.homes; ends = omega (arith, ends); wires = h.wires }

pub returns-in-None-clause-is : goal.returns-in-None-clause-is
returns-in-None-clause-is c = c.take_end.ensures.is

pub returns-in-None-clause-same : goal.returns-in-None-clause-same
returns-in-None-clause-same c = c.take_end.ensures.same

pub returns-in-None-clause-book : goal.returns-in-None-clause-book
returns-in-None-clause-book c = c.take_end.ensures.book

pub returns-in-None-clause-ends : goal.returns-in-None-clause-ends
returns-in-None-clause-ends c = c.take_end.ensures.ends

pub returns-in-None-clause-room : goal.returns-in-None-clause-room
returns-in-None-clause-room c = c.take_end.ensures.room
