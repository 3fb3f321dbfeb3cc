use Rattle.std.proofs.Common.{◌∙◌, sym, drop}
use Rattle.pd_lex.proofs.Laws.{step_end, step_bad, ended, reads_record, tail_is}
use Rattle.pd_lex.proofs.Rest.{rest_is_all, rest_of_record, no_blank}
use Rattle.pd_lex.proofs.next_record.Goals as goal

pub returns-then-blank-rest-clause-exact : goal.returns-then-blank-rest-clause-exact
returns-then-blank-rest-clause-exact c =
    ended c.args.bytes.now c.args.at (rw (tail_is c.args.bytes.now c.args.at) at (sym c.spaces-blank.ensures.value ∙ c.if-blank-rest.true))

pub returns-then-blank-rest-clause-records : goal.returns-then-blank-rest-clause-records
returns-then-blank-rest-clause-records c =
    let e = step_end (drop c.args.at c.args.bytes.now) (rw (tail_is c.args.bytes.now c.args.at) at (sym c.spaces-blank.ensures.value ∙ c.if-blank-rest.true)) in
    (e.0, e.1)

pub returns-in-Some-clause-records : goal.returns-in-Some-clause-records
returns-in-Some-clause-records c =
    let t = tail_is c.args.bytes.now c.args.at in
    let v = rw t at c.in-Some.ensures.value in
    let w = rw t at c.in-Some.ensures.within in
    reads_record c.args.bytes.now c.args.at c.in-Some.k c.args.at (sym v) c.requires w

pub returns-in-None-clause-records : goal.returns-in-None-clause-records
returns-in-None-clause-records c =
    let v = rw (tail_is c.args.bytes.now c.args.at) at c.in-None.ensures.value in
    step_bad (drop c.args.at c.args.bytes.now) (sym v)

pub returns-then-blank-rest-clause-rest : goal.returns-then-blank-rest-clause-rest
returns-then-blank-rest-clause-rest c =
    let e = step_end (drop c.args.at c.args.bytes.now) (rw (tail_is c.args.bytes.now c.args.at) at (sym c.spaces-blank.ensures.value ∙ c.if-blank-rest.true)) in
    rest_is_all (drop c.args.at c.args.bytes.now) e.2

pub returns-in-Some-clause-rest : goal.returns-in-Some-clause-rest
returns-in-Some-clause-rest c =
    let v = rw (tail_is c.args.bytes.now c.args.at) at c.in-Some.ensures.value in
    rest_of_record c.args.bytes.now c.args.at c.in-Some.k (sym v)

pub returns-in-None-clause-rest : goal.returns-in-None-clause-rest
returns-in-None-clause-rest c =
    let t = tail_is c.args.bytes.now c.args.at in
    let v = rw t at c.in-None.ensures.value in
    let n = rw t at c.spaces-blank.ensures.value in
    let m = rw t at c.if-blank-rest.false in
    (rest_is_all (drop c.args.at c.args.bytes.now) (sym v), no_blank (drop c.args.at c.args.bytes.now) (λ q. m (n ∙ q)))
