use Rattle.std.proofs.Common.{◌≡◌, ◌+◌, length, take, drop, ap, sym, refl, ◌∙◌, arith, length-drop}
use Rattle.std.proofs.lemmas.List.{length-take-le}
use Rattle.std.proofs.lemmas.Slice.{pushed}
use Rattle.pd_feed.specs.Feed.{Feed}
use Rattle.pd_feed.proofs.FeedLemmas.{semicolon-within, text_begun}
use Rattle.pd_feed.proofs.ScanLemmas.{body_found}
use Rattle.pd_feed.proofs.feed.RecordFeed.take.Goals as goal

pub slice_bounds-extend_from_slice-end : goal.slice_bounds-extend_from_slice-end
slice_bounds-extend_from_slice-end c =
    let w = semicolon-within c.args.self.now.bytes c.args.place c.requires.ends in
    sym (length-take-le c.args.place c.bytes.result.now (omega (arith, w, ap length c.bytes.ensures.value, ap (λ (f : Feed). length f.bytes) c.self.view_is)))

pub skip-requires : goal.skip-requires
skip-requires c =
    let w = semicolon-within c.args.self.now.bytes c.args.place c.requires.ends in
    omega (arith, w, ap (λ (f : Feed). length f.bytes) c.self.view_is)

pub invariant_of-self : goal.invariant_of-self
invariant_of-self c =
    let v = c.self.view_is in
    let w = semicolon-within c.args.self.now.bytes c.args.place c.requires.ends in
    let l : length c.self.inside.buffer ≡ length c.args.self.now.bytes = ap (λ (f : Feed). length f.bytes) v in
    let b : c.self.inside.blank ≡ c.args.self.now.blank = ap (λ (f : Feed). f.blank) v in
    let t : c.extend_from_slice.new.self.items ≡ take c.args.place c.args.self.now.bytes =
    pushed (take c.args.place c.bytes.result.now) c.clear.ensures.items c.unwrap.ensures c.extend_from_slice.ensures.items
    ∙ ap (take c.args.place) (c.bytes.ensures.value ∙ ap (λ (f : Feed). f.bytes) v) in
    let n : length (take c.args.place c.args.self.now.bytes) ≡ c.args.place = length-take-le c.args.place c.args.self.now.bytes (omega (arith, w)) in
    record {
      searching = record { within = omega arith; none = refl; begun = λ z. absurd (omega arith) };
      counted =
          omega (arith, c.self.invariant.counted, ap length c.skip.ensures, length-drop (c.args.place + 1) c.self.inside.buffer, w, l);
      body = rw t (body_found c.args.self.now.bytes c.args.place c.requires.ends);
      short = omega (arith, ap length t, n, c.requires.short);
      room = omega (arith, c.self.invariant.room, c.clear.ensures.capacity, c.extend_from_slice.ensures.capacity);
    }

pub returns : goal.returns
returns c =
    let v = c.self.view_is in
    let t : c.extend_from_slice.new.self.items ≡ take c.args.place c.args.self.now.bytes =
    pushed (take c.args.place c.bytes.result.now) c.clear.ensures.items c.unwrap.ensures c.extend_from_slice.ensures.items
    ∙ ap (take c.args.place) (c.bytes.ensures.value ∙ ap (λ (f : Feed). f.bytes) v) in
    record {
      place = c.args.place;
      ends = c.requires.ends;
      text = t ∙ text_begun c.args.self.now.bytes c.args.place c.requires.begun;
      follows = c.skip.ensures ∙ ap (λ (f : Feed). drop (c.args.place + 1) f.bytes) v;
      passed = omega (arith, ap (λ (f : Feed). f.passed) v, ap (λ (f : Feed). f.blank) v);
      blank = refl;
    }
