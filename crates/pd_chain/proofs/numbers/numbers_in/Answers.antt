use Rattle.std.proofs.Common.{◌≡◌, ℕ, ◌<◌, List, [], ◌∷◌, ◌++◌, length, map, get_or, take, sym, ◌∙◌, ap, arith}
use Rattle.std.proofs.lemmas.List.{take_more, map-append}
use Rattle.pd_order.proofs.Basics.{tally_at}
use Rattle.pd_chain.specs.Wires.{place_of}
use Rattle.pd_chain.proofs.PlaceLemmas.{length-numbered}
use Rattle.pd_chain.proofs.TableLemmas.{ranked}
use Rattle.pd_chain.proofs.numbers.numbers_in.Goals as goal

pub of-places-requires : goal.of-places-requires
of-places-requires c =
    let l : length c.in_ok-number_all.field-0.items ≡ length c.args.nodes.now = ap length c.in_ok-number_all.ensures ∙ length-numbered 0 c.args.nodes.now in
    let o = c.in_ok-number_all.field-0.ok in
    let f = c.requires.few_nodes in omega arith

pub loop-key-preserved : goal.loop-key-preserved
loop-key-preserved c =
    let ns : List ℕ = c.args.nodes.now in
    let xs : List ℕ = c.args.keys.now in
    let i : ℕ = c.loop-key.key-index in
    let x : ℕ = get_or xs i 0 in
    let l : i < length xs = omega arith in
    let r : c.first_at.result ≡ place_of ns x = c.first_at.ensures ∙ ranked c.of-places.result c.in_ok-number_all.field-0.items ns c.requires.once c.of-places.ensures c.in_ok-number_all.ensures x (c.requires.among x (tally_at xs i l)) in
    c.in_ok-push.ensures.items
    ∙ ap (λ (v : List ℕ). v ++ c.first_at.result ∷ []) c.loop-key.invariant
    ∙ ap (λ (n : ℕ). map (place_of ns) (take i xs) ++ n ∷ []) r
    ∙ sym (ap (map (place_of ns)) (take_more xs i 0 l) ∙ map-append (place_of ns) (take i xs) (x ∷ []))
