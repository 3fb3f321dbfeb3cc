use Rattle.std.proofs.Common.{◌∙◌, ap, sym, subst, get_or}
use Rattle.pd_wire.specs.Book.{Book, IsEnd, fan_of, feeds_of}
use Rattle.pd_wire.proofs.Seen.{end_is, fan_is, feeds_is}
use Rattle.pd_wire.proofs.book.WireBook.insert.Goals as goal

pub link-requires-clause-fan : goal.link-requires-clause-fan
link-requires-clause-fan c =
    let s = c.self.inside.nodes in
    let P : Book → Type 0 = λ v. IsEnd v c.args.source in
    let e = end_is s c.args.source (subst P (sym c.self.view_is) c.requires.source) in
    (c.args.fan_place, c.requires.fan_place, c.at_place-next_fan.ensures ∙ ap (λ xs. get_or xs c.args.fan_place c.args.source) (sym (fan_is s c.args.source e)) ∙ ap (λ v. get_or (fan_of v c.args.source) c.args.fan_place c.args.source) c.self.view_is)

pub link-requires-clause-feed : goal.link-requires-clause-feed
link-requires-clause-feed c =
    let s = c.self.inside.nodes in
    let P : Book → Type 0 = λ v. IsEnd v c.args.sink in
    let e = end_is s c.args.sink (subst P (sym c.self.view_is) c.requires.sink) in
    (c.args.feed_place, c.requires.feed_place, c.at_place-next_feed.ensures ∙ ap (λ xs. get_or xs c.args.feed_place c.args.sink) (sym (feeds_is s c.args.sink e)) ∙ ap (λ v. get_or (feeds_of v c.args.sink) c.args.feed_place c.args.sink) c.self.view_is)

pub returns : goal.returns
returns c =
    let s = c.self.inside.nodes in
    let P : Book → Type 0 = λ v. IsEnd v c.args.source in
    let Q : Book → Type 0 = λ v. IsEnd v c.args.sink in
    let e = end_is s c.args.source (subst P (sym c.self.view_is) c.requires.source) in
    let h = end_is s c.args.sink (subst Q (sym c.self.view_is) c.requires.sink) in
    c.link.ensures c.args.fan_place c.args.feed_place c.requires.fan_place
    (c.at_place-next_fan.ensures ∙ ap (λ xs. get_or xs c.args.fan_place c.args.source) (sym (fan_is s c.args.source e)) ∙ ap (λ v. get_or (fan_of v c.args.source) c.args.fan_place c.args.source) c.self.view_is)
    c.requires.feed_place
    (c.at_place-next_feed.ensures ∙ ap (λ xs. get_or xs c.args.feed_place c.args.sink) (sym (feeds_is s c.args.sink h)) ∙ ap (λ v. get_or (feeds_of v c.args.sink) c.args.feed_place c.args.sink) c.self.view_is)
