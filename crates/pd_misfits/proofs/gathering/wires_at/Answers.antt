use Rattle.std.proofs.Common.{◌≡◌, ap, ◌∙◌, subst, sym}
use Rattle.std.specs.List.{flat_map, Contains}
use Rattle.std.proofs.lemmas.Result.{IfOk-weaker}
use Rattle.pd_web.specs.Canvases.{keys_at}
use Rattle.pd_misfits.specs.Misfits.{picked}
use Rattle.pd_misfits.specs.Ranks.{wires_under, ranks_at}
use Rattle.pd_misfits.specs.Shedding.{AreWiresAt, IsWired}
use Rattle.pd_misfits.proofs.GatherLemmas.{gathered_are}
use Rattle.pd_misfits.proofs.WalkLemmas.{fan_once}
use Rattle.pd_misfits.proofs.WireLemmas.{picked_are_wires}
use Rattle.pd_misfits.proofs.gathering.wires_at.Goals as goal

pub returns-clause-told : goal.returns-clause-told
returns-clause-told c =
    let p = c.args.patch.now in
    let key = c.args.key in
    let k = c.args.kind.now in
    let canvas = c.args.canvas in
    let f = wires_under c.args.fate p.web p.numbers.items (keys_at p.grove canvas) key k in
    let r = c.in_ok-ranks.ensures in
    let same = c.as_slice.ensures.value in
    let all : flat_map f c.in_ok-ranks.ranks.items ≡ picked c.args.fate p canvas key k =
    gathered_are c.args.fate p canvas key k c.requires.runs c.requires.meet c.requires.here c.in_ok-ranks.ranks.items r.rise
    (λ x h. subst (λ ns. Contains (ranks_at c.args.fate p.web ns key k) x) same (r.are x h))
    (λ x h. r.all x (subst (λ ns. Contains (ranks_at c.args.fate p.web ns key k) x) (sym same) h)) in
    IfOk-weaker c.gather.result _ _ (λ v e. e ∙ ap (flat_map f) c.as_slice-2.ensures.value ∙ all) c.gather.ensures

pub returns-clause-wires : goal.returns-clause-wires
returns-clause-wires c =
    let p = c.args.patch.now in
    let key = c.args.key in
    let k = c.args.kind.now in
    let canvas = c.args.canvas in
    let f = wires_under c.args.fate p.web p.numbers.items (keys_at p.grove canvas) key k in
    let r = c.in_ok-ranks.ensures in
    let same = c.as_slice.ensures.value in
    let all : flat_map f c.in_ok-ranks.ranks.items ≡ picked c.args.fate p canvas key k =
    gathered_are c.args.fate p canvas key k c.requires.runs c.requires.meet c.requires.here c.in_ok-ranks.ranks.items r.rise
    (λ x h. subst (λ ns. Contains (ranks_at c.args.fate p.web ns key k) x) same (r.are x h))
    (λ x h. r.all x (subst (λ ns. Contains (ranks_at c.args.fate p.web ns key k) x) (sym same) h)) in
    let wired : IsWired p.web = record { fans = c.laws.ensures.fans; feeds = c.laws.ensures.feeds } in
    let are = picked_are_wires c.args.fate p canvas key k c.requires.runs c.requires.meet c.requires.here wired (λ node o. fan_once p.web node o (c.laws.ensures.once node o)) in
    IfOk-weaker c.gather.result _ _ (λ v e. subst (AreWiresAt p.web key) (sym (e ∙ ap (flat_map f) c.as_slice-2.ensures.value ∙ all)) are) c.gather.ensures
