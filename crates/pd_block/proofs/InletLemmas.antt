-- Sums of wires, and the channels of a `dac~`, one after another.
use Rattle.std.proofs.Common.{◌≡◌, ◌<◌, ◌≤◌, ◌+◌, ℕ, ℤ, zero, suc, List, [], ◌∷◌, length, take, drop, get_or, refl, sym, ◌∙◌, ap, arith, add-one, drop-cons}
use Rattle.std.proofs.lemmas.List.{take_all, drop_all}
use Rattle.std.proofs.lemmas.Option.{none-some, same_Some}
use Rattle.std.specs.Prelude.{Option, Some, None, slice_get, slice_set}
use Rattle.pd_object.specs.declared.kinds.Channel.{Channel}
use Rattle.pd_kind.specs.declared.states.State.{State}
use Rattle.pd_web.specs.declared.web.Hop.{Hop}
use Rattle.pd_web.specs.declared.web.Web.{Web}
use Rattle.pd_patch.specs.Values.{Blocks}
use Rattle.pd_turn.specs.Held.{held_of}
use Rattle.pd_block.specs.Inlets.{brought, gathered, sum_from, inlet_block}
use Rattle.pd_block.specs.Blocks.{added, dac_from}

-- one wire more
pub sum_more : (web : Web) (blocks : Blocks) (sum : Option (List ℤ)) (hops : List Hop) (i : ℕ) (hop : Hop) → slice_get hops i ≡ Some hop
    → sum_from web blocks sum (take (suc i) hops) ≡ gathered (sum_from web blocks sum (take i hops)) (brought web blocks hop)
sum_more web blocks sum [] i hop e = absurd (none-some hop e)
sum_more web blocks sum (h ∷ hs) zero hop e = ap (λ (x : Hop). gathered sum (brought web blocks x)) (same_Some h hop e)
sum_more web blocks sum (h ∷ hs) (suc i) hop e = sum_more web blocks (gathered sum (brought web blocks h)) hs i hop e

pub at_end : (hops : List Hop) (i : ℕ) → slice_get hops i ≡ None → length hops ≤ i
at_end [] i e = omega arith
at_end (h ∷ hs) zero e = absurd (none-some h (sym e))
at_end (h ∷ hs) (suc i) e = let n = at_end hs i e in omega arith

-- no wire is left
pub sum_end : (web : Web) (blocks : Blocks) (hops : List Hop) (i : ℕ) (r : Option (List ℤ)) → slice_get hops i ≡ None → i ≤ 65536
    → r ≡ sum_from web blocks None (take i hops) → r ≡ sum_from web blocks None (take 65536 hops)
sum_end web blocks hops i r e few h =
    let n = at_end hops i e in
    h ∙ ap (sum_from web blocks None) (take_all i hops n ∙ sym (take_all 65536 hops (omega arith)))

-- a wire more has been taken in
pub sum_step : (web : Web) (blocks : Blocks) (hops : List Hop) (i : ℕ) (hop : Hop) (r sum : Option (List ℤ)) → slice_get hops i ≡ Some hop
    → r ≡ gathered sum (brought web blocks hop) → sum ≡ sum_from web blocks None (take i hops) → r ≡ sum_from web blocks None (take (i + 1) hops)
sum_step web blocks hops i hop r sum at step so_far =
    rw add-one (step ∙ ap (λ (s : Option (List ℤ)). gathered s (brought web blocks hop)) so_far ∙ sym (sum_more web blocks None hops i hop at))

pub sum_full : (web : Web) (blocks : Blocks) (hops : List Hop) (i : ℕ) (r : Option (List ℤ)) → i ≡ 65536
    → r ≡ sum_from web blocks None (take i hops) → r ≡ sum_from web blocks None (take 65536 hops)
sum_full web blocks hops i r e h = h ∙ ap (λ (n : ℕ). sum_from web blocks None (take n hops)) e

-- one channel more
pub dac_more : (web : Web) (blocks : Blocks) (node : ℕ) (st : State) (channels : List Channel) (i : ℕ) (c : Channel) (out new whole : List (List ℤ)) → i < length channels
    → c ≡ get_or channels i c → new ≡ added c (inlet_block web blocks node i (held_of st i)) out
    → dac_from web blocks node st i (drop i channels) out ≡ whole → dac_from web blocks node st (i + 1) (drop (i + 1) channels) new ≡ whole
dac_more web blocks node st channels i c out new whole within is step at =
    let front : drop i channels ≡ c ∷ drop (suc i) channels = drop-cons channels i c within ∙ ap (λ (x : Channel). x ∷ drop (suc i) channels) (sym is) in
    let one : dac_from web blocks node st i (drop i channels) out ≡ dac_from web blocks node st (suc i) (drop (suc i) channels) (added c (inlet_block web blocks node i (held_of st i)) out) =
    ap (λ (cs : List Channel). dac_from web blocks node st i cs out) front in
    rw add-one (ap (dac_from web blocks node st (suc i) (drop (suc i) channels)) step ∙ sym one ∙ at)

pub dac_end : (web : Web) (blocks : Blocks) (node : ℕ) (st : State) (channels : List Channel) (i : ℕ) (out whole : List (List ℤ)) → length channels ≤ i
    → dac_from web blocks node st i (drop i channels) out ≡ whole → out ≡ whole
dac_end web blocks node st channels i out whole all at = sym (ap (λ (cs : List Channel). dac_from web blocks node st i cs out) (drop_all i channels all)) ∙ at

-- the first of two blocks is set, or both are
pub one_set : (xs : List (List ℤ)) (a : List ℤ) → length xs ≡ 2 → take 1 (slice_set xs 0 a) ≡ a ∷ []
one_set [] a e = absurd (omega arith)
one_set (x ∷ xs) a e = refl

pub two_set : (xs : List (List ℤ)) (a b : List ℤ) → length xs ≡ 2 → take 2 (slice_set (slice_set xs 0 a) 1 b) ≡ a ∷ b ∷ []
two_set [] a b e = absurd (omega arith)
two_set (x ∷ []) a b e = absurd (omega arith)
two_set (x ∷ y ∷ xs) a b e = refl

pub only_set : (xs : List (List ℤ)) (a : List ℤ) → length xs ≡ 1 → slice_set xs 0 a ≡ a ∷ []
only_set [] a e = absurd (omega arith)
only_set (x ∷ []) a e = refl
only_set (x ∷ y ∷ xs) a e = absurd (omega arith)

pub both_set : (xs : List (List ℤ)) (a b : List ℤ) → length xs ≡ 2 → slice_set (slice_set xs 0 a) 1 b ≡ a ∷ b ∷ []
both_set [] a b e = absurd (omega arith)
both_set (x ∷ []) a b e = absurd (omega arith)
both_set (x ∷ y ∷ []) a b e = refl
both_set (x ∷ y ∷ z ∷ xs) a b e = absurd (omega arith)
