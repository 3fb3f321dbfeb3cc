use Rattle.std.proofs.Common.{◌+◌, ap, sym, ◌∙◌, arith, drop}
use Rattle.std.proofs.lemmas.List.{take_rest}
use Rattle.std.specs.List.{prefix_len}
use Rattle.pd_lex.specs.Text.{is_space}
use Rattle.pd_lex.specs.Reading.{semicolon}
use Rattle.pd_feed.specs.Scan.{scan_of}
use Rattle.pd_feed.specs.Feed.{Feed}
use Rattle.pd_feed.proofs.FeedLemmas.{found_next, ended_next, searched_all, semicolon-within}
use Rattle.pd_feed.proofs.feed.RecordFeed.find.Goals as goal

pub overflow_add-result : goal.overflow_add-result
overflow_add-result c =
    let i = c.self.inside in
    let b = c.bytes.ensures.value in
    let f = c.in-Found.ensures ∙ ap (scan_of i.escaped) (take_rest c.bytes.result.now i.searched ∙ ap (drop i.searched) b) in
    let w = semicolon-within i.buffer (i.searched + c.in-Found.place) (sym (found_next i.buffer i.searched i.escaped c.in-Found.place c.self.invariant.searching f)) in
    omega (arith, w, c.self.invariant.counted)

pub returns-in-Found-clause-place : goal.returns-in-Found-clause-place
returns-in-Found-clause-place c =
    let i = c.self.inside in
    let b = c.bytes.ensures.value in
    let f = c.in-Found.ensures ∙ ap (scan_of i.escaped) (take_rest c.bytes.result.now i.searched ∙ ap (drop i.searched) b) in
    found_next i.buffer i.searched i.escaped c.in-Found.place c.self.invariant.searching f ∙ ap (λ (f : Feed). semicolon f.bytes) c.self.view_is

pub returns-in-Ended-clause-place : goal.returns-in-Ended-clause-place
returns-in-Ended-clause-place c =
    let i = c.self.inside in
    let b = c.bytes.ensures.value in
    let f = c.in-Ended.ensures ∙ ap (scan_of i.escaped) (take_rest c.bytes.result.now i.searched ∙ ap (drop i.searched) b) in
    ended_next i.buffer i.searched i.escaped c.in-Ended.escaped c.self.invariant.searching f

pub invariant_of-self : goal.invariant_of-self
invariant_of-self c =
    let i = c.self.inside in
    let b = c.bytes.ensures.value in
    let f = c.in-Ended.ensures ∙ ap (scan_of i.escaped) (take_rest c.bytes.result.now i.searched ∙ ap (drop i.searched) b) in
    record {
      searching = searched_all i.buffer i.searched i.escaped c.in-Ended.escaped c.self.invariant.searching
          (ap (λ (f : Feed). prefix_len is_space f.bytes) c.self.view_is ∙ c.requires) f _ c.len-self-inside.ensures;
      counted = c.self.invariant.counted;
      body = c.self.invariant.body;
      short = c.self.invariant.short;
      room = c.self.invariant.room;
    }
