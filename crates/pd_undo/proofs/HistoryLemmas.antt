-- Lists of entries.
use Rattle.std.proofs.Common.{◌≡◌, ℕ, zero, suc, ◌-◌, ◌<◌, List, [], ◌∷◌, length, slice_get, None, refl, arith}
use Rattle.std.proofs.lemmas.Option.{none-some}
use Rattle.circular_buffer.specs.Buffer.{last_item}
use Rattle.pd_undo.specs.Acts.{Placed}

got : (ts : List (List Placed)) (n : ℕ) → n < length ts → None ≡ slice_get ts n → ⊥
got [] n h e = absurd (omega arith)
got (t ∷ ts) zero h e = none-some t e
got (t ∷ ts) (suc n) h e = got ts n (omega arith) e

-- a list without a last item is empty
pub last_none : (ts : List (List Placed)) → None ≡ last_item ts → ts ≡ []
last_none [] e = refl
last_none (t ∷ ts) e = absurd (got (t ∷ ts) (length (t ∷ ts) - 1) (omega arith) e)
