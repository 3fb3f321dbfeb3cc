use Rattle.std.proofs.Common.{◌≡◌, ◌≤◌, ◌++◌, length, take, drop, ap, sym, ◌∙◌, arith}
use Rattle.std.specs.List.{prefix_len}
use Rattle.std.proofs.lemmas.List.{take-append-drop, length-take-le}
use Rattle.pd_lex.specs.Text.{is_space}
use Rattle.pd_feed.specs.Feed.{Feed}
use Rattle.pd_feed.proofs.ScanLemmas.{prefix-prefix, white-prefix}
use Rattle.pd_feed.proofs.feed.RecordFeed.skip_white.Goals as goal

pub returns-then-self-eq0-clause-stays : goal.returns-then-self-eq0-clause-stays
returns-then-self-eq0-clause-stays c =
    let bs = c.self.inside.buffer in
    let k = c.spaces-white.result in
    let n : k ≡ prefix_len is_space bs = c.spaces-white.ensures.value ∙ ap (prefix_len is_space) c.bytes.ensures.value in
    let l : k ≤ length bs = omega (arith, c.spaces-white.ensures.within, ap length c.bytes.ensures.value) in
    record {
      white = take k bs;
      spaces = rw n (white-prefix bs);
      follows =
          sym (ap (λ (f : Feed). f.bytes) c.self.view_is) ∙ sym (take-append-drop k bs) ∙ ap (λ rest. take k bs ++ rest) (sym c.skip.ensures);
      blank = omega (arith, length-take-le k bs l, ap (λ (f : Feed). f.blank) c.self.view_is);
      passed = ap (λ (f : Feed). f.passed) c.self.view_is;
      last = ap (λ (f : Feed). f.last) c.self.view_is;
    }

pub returns-then-self-eq0-clause-begun : goal.returns-then-self-eq0-clause-begun
returns-then-self-eq0-clause-begun c =
    let bs = c.self.inside.buffer in
    let n : c.spaces-white.result ≡ prefix_len is_space bs = c.spaces-white.ensures.value ∙ ap (prefix_len is_space) c.bytes.ensures.value in
    ap (prefix_len is_space) (c.skip.ensures ∙ ap (λ k. drop k bs) n) ∙ prefix-prefix bs
