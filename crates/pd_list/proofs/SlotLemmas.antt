-- Atoms in slots, one after the other.
use Rattle.std.proofs.Common.{◌≡◌, ℕ, ◌+◌, ◌<◌, ◌≤◌, min, suc, ◌⊎◌, inl, inr, List, [], ◌∷◌, ◌++◌, length, drop, get_or, slice_get, Some, refl, sym, ◌∙◌, ap, arith}
use Rattle.std.proofs.Math.Seq.{drop-cons}
use Rattle.std.proofs.lemmas.Option.{slice_get_within, get_or_from_slice_get}
use Rattle.std.proofs.lemmas.List.{drop_all}
use Rattle.std.proofs.lemmas.Bool.{cases_lt}
use Rattle.pd_atom.specs.declared.Atom.{Atom}
use Rattle.pd_object.specs.declared.kinds.Slot.{Slot}
use Rattle.pd_kind.specs.Rows.{Send}
use Rattle.pd_list.specs.Slots.{filled, stored_at, unpacked, slot_sends}

pub filled_more : (slots : List Slot) (atoms kept : List Atom) (i : ℕ) (a : Atom) → i < length atoms → a ≡ get_or atoms i a →
    filled slots (suc i) (drop (suc i) atoms) (stored_at slots i a kept) ≡ filled slots i (drop i atoms) kept
filled_more slots atoms kept i a within ea =
    ap (λ (b : Atom). filled slots (suc i) (drop (suc i) atoms) (stored_at slots i b kept)) ea
    ∙ sym (ap (λ (xs : List Atom). filled slots i xs kept) (drop-cons atoms i a within))

pub unpacked_more : (slots : List Slot) (atoms : List Atom) (i j : ℕ) (s : Slot) (a : Atom) (sends : List Send) → i ≡ suc j → j < length slots → s ≡ get_or slots j s → slice_get atoms j ≡ Some a →
    sends ≡ unpacked i (drop i slots) (drop i atoms) → sends ++ slot_sends j s a ≡ unpacked j (drop j slots) (drop j atoms)
unpacked_more slots atoms i j s a sends ei in_slots eslot there es =
    let in_atoms : j < length atoms = slice_get_within atoms j a there in
    let ea : a ≡ get_or atoms j a = sym (get_or_from_slice_get atoms j a a there) in
    ap (λ (ss : List Send). ss ++ slot_sends j s a) (es ∙ ap (λ (k : ℕ). unpacked k (drop k slots) (drop k atoms)) ei)
    ∙ ap (λ (t : Slot). unpacked (suc j) (drop (suc j) slots) (drop (suc j) atoms) ++ slot_sends j t a) eslot
    ∙ ap (λ (b : Atom). unpacked (suc j) (drop (suc j) slots) (drop (suc j) atoms) ++ slot_sends j (get_or slots j s) b) ea
    ∙ sym (ap (λ (ss : List Slot). unpacked j ss (get_or atoms j a ∷ drop (suc j) atoms)) (drop-cons slots j s in_slots))
    ∙ sym (ap (λ (xs : List Atom). unpacked j (drop j slots) xs) (drop-cons atoms j a in_atoms))

unpacked_nil : (i : ℕ) (slots : List Slot) → unpacked i slots [] ≡ []
unpacked_nil i [] = refl
unpacked_nil i (s ∷ slots) = refl

-- past the last slot or the last atom there is nothing to send
pub unpacked_none : (slots : List Slot) (atoms : List Atom) (i : ℕ) → i ≡ min (length slots) (length atoms) → unpacked i (drop i slots) (drop i atoms) ≡ []
unpacked_none slots atoms i e =
    elim (cases_lt (length atoms) (length slots)) [
      | inl fewer ↦ ap (λ (xs : List Atom). unpacked i (drop i slots) xs) (drop_all i atoms (omega arith)) ∙ unpacked_nil i (drop i slots)
      | inr more ↦ ap (λ (ss : List Slot). unpacked i ss (drop i atoms)) (drop_all i slots (omega arith))
    ]
