use Rattle.std.proofs.Common.{◌≡◌, ℕ, ◌++◌, ◌∷◌, [], List, take, length, get_or, sym, ◌∙◌, ap, arith}
use Rattle.std.proofs.lemmas.List.{take_more, length-take-le}
use Rattle.pd_chain.specs.declared.entries.Entry.{Entry}
use Rattle.pd_chain.specs.Entries.{numbered}
use Rattle.pd_chain.proofs.PlaceLemmas.{numbered-push}
use Rattle.pd_chain.proofs.numbers.number_all.Goals as goal

pub loop-place-preserved : goal.loop-place-preserved
loop-place-preserved c =
    let place : ℕ = c.loop-place.place in
    let ns : List ℕ = c.args.nodes.now in
    let y : ℕ = get_or ns place 0 in
    let one : List Entry = record { key = y; value = place } ∷ [] in
    c.in_ok-push.ensures.items ∙ ap (λ (l : List Entry). l ++ one) c.loop-place.invariant
    ∙ sym (numbered-push 0 place (take place ns) y (let l : length (take place ns) ≡ place = length-take-le place ns (omega arith) in omega arith))
    ∙ sym (ap (numbered 0) (take_more ns place 0 (omega arith)))
