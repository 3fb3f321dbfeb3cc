-- The entries of a history.
use Rattle.std.specs.Prelude.{ℕ, ◌-◌, List, [], ◌∷◌, ◌++◌, length, take, refl}
use Rattle.std.specs.Coded.{Coded, code_by, coded×, coded_list}
use Rattle.circular_buffer.specs.Buffer.{keep_last}
use Rattle.pd_undo.specs.Acts.{Placed}
use Rattle.pd_undo.specs.Codes.{turns_code}

-- what can be undone and what can be made again, the latest last; each entry is a list of turns
pub record Entries : Type 0 where
  pub undo : List (List Placed)
  pub redo : List (List Placed)

abbrev pub entries : (undo redo : List (List Placed)) → Entries
entries undo redo = record { undo = undo; redo = redo }

abbrev pub entries_code : Coded Entries
entries_code =
    code_by (List (List Placed) × List (List Placed)) (coded× (coded_list turns_code) (coded_list turns_code)) (λ h. (h.undo, h.redo)) (λ p. entries p.0 p.1) (λ _. refl)

-- the most entries
abbrev pub most : ℕ
most = 100

-- all but the last
abbrev pub without_last : List (List Placed) → List (List Placed)
without_last ts = take (length ts - 1) ts

-- one entry more to undo, of the latest 100, and none to make again
abbrev pub kept : List Placed → Entries → Entries
kept ts h = entries (keep_last most (h.undo ++ ts ∷ [])) []

-- the last entry is undone, and these turns make it again
abbrev pub undone : List Placed → Entries → Entries
undone ts h = entries (without_last h.undo) (h.redo ++ ts ∷ [])

-- the last entry is made again, and these turns undo it
abbrev pub redone : List Placed → Entries → Entries
redone ts h = entries (h.undo ++ ts ∷ []) (without_last h.redo)
