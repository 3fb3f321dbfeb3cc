-- `pack` and `unpack`.
use Rattle.std.specs.Prelude.{ℕ, suc, ◌==◌, Bool, true, false, List, [], ◌∷◌, ◌++◌, slice_get, slice_set, Option, Some, None, if◌then◌else◌}
use Rattle.pd_atom.specs.declared.Atom.{Atom}
use Rattle.pd_atom.specs.declared.Atom.TheVariants as atom
use Rattle.pd_object.specs.declared.kinds.Slot.{Slot}
use Rattle.pd_object.specs.declared.kinds.Slot.TheVariants as slot
use Rattle.pd_kind.specs.declared.messages.Sort.{Sort}
use Rattle.pd_kind.specs.declared.messages.Sort.TheVariants as sort
use Rattle.pd_kind.specs.declared.messages.Target.TheVariants.{Outlet}
use Rattle.pd_object.specs.declared.row_names.Row.TheVariants as row
use Rattle.pd_kind.specs.declared.states.State.TheVariants as state
use Rattle.pd_kind.specs.Forming.{list_send, atoms_with_selector}
use Rattle.pd_kind.specs.Hearing.{Heard}
use Rattle.pd_kind.specs.Messages.{sort_of}
use Rattle.pd_kind.specs.Rows.{Send}
use Rattle.pd_kind.specs.Said.{Said, silent, sends_only, number_to, symbol_to, deaf}
use Rattle.pd_list.specs.Outlets.{leaves}

-- a number fits a slot for a number, a symbol one for a symbol
abbrev pub fits : Slot → Atom → Bool
fits (slot.Number z) (atom.Number y) = true
fits slot.Symbol (atom.Symbol s) = true
fits _ _ = false

abbrev pub fits_some : Option Slot → Atom → Bool
fits_some (Some s) a = fits s a
fits_some None a = false

abbrev pub fits_at : List Slot → ℕ → Atom → Bool
fits_at slots i a = fits_some (slice_get slots i) a

-- an atom is stored in the i-th slot where it fits
abbrev pub stored_at : List Slot → ℕ → Atom → List Atom → List Atom
stored_at slots i a kept = if fits_at slots i a then slice_set kept i a else kept

-- atoms are stored in the slots from the i-th on, each where it fits
abbrev pub filled : List Slot → ℕ → List Atom → List Atom → List Atom
filled slots i [] kept = kept
filled slots i (a ∷ atoms) kept = filled slots (suc i) atoms (stored_at slots i a kept)

-- all slots are sent
abbrev pub packed : List Atom → Heard
packed kept = leaves (state.Pack kept) (sends_only (list_send (Outlet 0) kept ∷ []))

abbrev pub pack_refuses : List Atom → ℕ → Heard
pack_refuses kept selector = leaves (state.Pack kept) (deaf row.Pack selector)

-- Inlet 0: an atom that fits is stored, a list fills the slots; then all are sent, as at a bang.
abbrev pub pack_first : List Slot → List Atom → ℕ → Atom → Heard
pack_first slots kept selector a = if fits_at slots 0 a then packed (stored_at slots 0 a kept) else pack_refuses kept selector

abbrev pub pack_hot : List Slot → List Atom → ℕ → List Atom → Sort → Heard
pack_hot slots kept selector atoms sort.Bang = packed kept
pack_hot slots kept selector atoms (sort.Float z) = pack_first slots kept selector (atom.Number z)
pack_hot slots kept selector atoms (sort.Symbol s) = pack_first slots kept selector (atom.Symbol s)
pack_hot slots kept selector atoms sort.List = packed (filled slots 0 atoms kept)
pack_hot slots kept selector atoms sort.Other = pack_refuses kept selector

-- Another inlet: an atom that fits is stored.
abbrev pub pack_other : List Slot → List Atom → ℕ → ℕ → Atom → Heard
pack_other slots kept inlet selector a =
    if fits_at slots inlet a then leaves (state.Pack (stored_at slots inlet a kept)) silent else pack_refuses kept selector

abbrev pub pack_cold : List Slot → List Atom → ℕ → ℕ → Sort → Heard
pack_cold slots kept inlet selector (sort.Float z) = pack_other slots kept inlet selector (atom.Number z)
pack_cold slots kept inlet selector (sort.Symbol s) = pack_other slots kept inlet selector (atom.Symbol s)
pack_cold slots kept inlet selector s = pack_refuses kept selector

abbrev pub pack_row : List Slot → List Atom → ℕ → ℕ → List Atom → Heard
pack_row slots kept inlet selector atoms =
    if inlet == 0 then pack_hot slots kept selector atoms (sort_of selector atoms) else pack_cold slots kept inlet selector (sort_of selector atoms)

-- what an atom sends to the outlet of a slot: nothing where it doesn't fit
abbrev pub slot_sends : ℕ → Slot → Atom → List Send
slot_sends i (slot.Number z) (atom.Number y) = number_to i y ∷ []
slot_sends i slot.Symbol (atom.Symbol s) = symbol_to i s ∷ []
slot_sends i _ _ = []

-- atoms to the outlets of the slots from the i-th on, the last one first
abbrev pub unpacked : ℕ → List Slot → List Atom → List Send
unpacked i [] atoms = []
unpacked i (s ∷ slots) [] = []
unpacked i (s ∷ slots) (a ∷ atoms) = unpacked (suc i) slots atoms ++ slot_sends i s a

-- `unpack`: the message's atoms go to the outlets, from right to left.
abbrev pub unpack_row : List Slot → ℕ → List Atom → Said
unpack_row slots selector atoms = sends_only (unpacked 0 slots (atoms_with_selector selector atoms))
