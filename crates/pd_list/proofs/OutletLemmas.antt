-- The outlets of a `trigger`, from the last to the first.
use Rattle.std.proofs.Common.{◌≡◌, ℕ, ◌+◌, ◌<◌, suc, List, [], ◌∷◌, ◌++◌, length, drop, get_or, sym, ◌∙◌, ap, arith}
use Rattle.std.proofs.Math.Seq.{drop-cons, drop-length}
use Rattle.pd_atom.specs.declared.Atom.{Atom}
use Rattle.pd_object.specs.declared.kinds.Trigger.{Trigger}
use Rattle.pd_kind.specs.Rows.{Send}
use Rattle.pd_list.specs.Outlets.{outlet_sends, trigger_sends}

pub trigger_more : (outlets : List Trigger) (i j : ℕ) (t : Trigger) (selector : ℕ) (atoms : List Atom) (sends : List Send) → i ≡ suc j → j < length outlets → t ≡ get_or outlets j t →
    sends ≡ trigger_sends i (drop i outlets) selector atoms → sends ++ outlet_sends t j selector atoms ≡ trigger_sends j (drop j outlets) selector atoms
trigger_more outlets i j t selector atoms sends ei within et es =
    ap (λ (ss : List Send). ss ++ outlet_sends t j selector atoms) (es ∙ ap (λ (k : ℕ). trigger_sends k (drop k outlets) selector atoms) ei)
    ∙ ap (λ (u : Trigger). trigger_sends (suc j) (drop (suc j) outlets) selector atoms ++ outlet_sends u j selector atoms) et
    ∙ sym (ap (λ (ts : List Trigger). trigger_sends j ts selector atoms) (drop-cons outlets j t within))

pub trigger_none : (outlets : List Trigger) (selector : ℕ) (atoms : List Atom) → trigger_sends (length outlets) (drop (length outlets) outlets) selector atoms ≡ []
trigger_none outlets selector atoms = ap (λ (ts : List Trigger). trigger_sends (length outlets) ts selector atoms) (drop-length outlets)
