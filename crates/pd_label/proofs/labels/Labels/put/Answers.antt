use Rattle.std.proofs.Common.{get_or}
use Rattle.std.proofs.lemmas.Option.{slice_get-get_or}
use Rattle.pd_label.proofs.LabelLemmas.{put_one}
use Rattle.pd_label.proofs.labels.Labels.put.Goals as goal

pub returns-in-Some : goal.returns-in-Some
returns-in-Some c =
    let ks = c.args.keys.now in
    let n = c.args.number in
    put_one c.args.self.now c.set.new.self ks n (get_or ks n 0) c.in-Some.label (slice_get-get_or ks n 0 c.requires) c.set.ensures c.in-Some.ensures

pub returns-in-None : goal.returns-in-None
returns-in-None c = record { rise = λ R A F. c.label_anew.ensures.rise R A; others = c.label_anew.ensures.others; long = c.label_anew.ensures.length }
