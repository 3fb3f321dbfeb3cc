use Rattle.std.proofs.Common.{◌≡◌, ℕ, ◌+◌, ◌<◌, List, [], ◌∷◌, length, get_or, take, sym, ap, ◌∙◌}
use Rattle.std.proofs.lemmas.List.{take_more}
use Rattle.pd_made.specs.declared.tally.Tally.{Tally}
use Rattle.pd_made.specs.Tallies.{tallied}
use Rattle.pd_made.proofs.TallyLemmas.{tallied_join}
use Rattle.pd_made.proofs.tally.Tally.add.Goals as goal

one_byte : (old now new : Tally) (bytes : List ℕ) (i : ℕ) → i < length bytes → now ≡ tallied old (take i bytes) → new ≡ tallied now (get_or bytes i 0 ∷ []) →
    new ≡ tallied old (take (i + 1) bytes)
one_byte old now new bytes i low so_far next =
    next ∙ ap (λ t. tallied t (get_or bytes i 0 ∷ [])) so_far ∙ tallied_join old (take i bytes) (get_or bytes i 0 ∷ [])
    ∙ ap (tallied old) (sym (take_more bytes i 0 low))

pub loop-byte-preserved : goal.loop-byte-preserved
loop-byte-preserved c = one_byte _ _ _ _ _ c.loop-byte-test.true c.loop-byte.invariant c.with.ensures
