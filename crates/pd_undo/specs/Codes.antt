-- How lists of turns are stored.
use Rattle.std.specs.Prelude.{ℕ, ◌≡◌, ◌⊎◌, List}
use Rattle.std.specs.Coded.{Coded, code_by, coded×, coded⊎, coded_list, coded_ℕ}
use Rattle.std.proofs.Common.{refl, inl, inr}
use Rattle.pd_canvas.specs.declared.wires.Wire.{Wire}
use Rattle.pd_canvas.specs.Pages.{Head, Page, Entry}
use Rattle.pd_canvas.specs.Codes.{wire_code, head_code, page_code}
use Rattle.pd_undo.specs.Acts.{Act, Put, Take, Swap, Wires, Placed}

abbrev pub entry_code : Coded Entry
entry_code = code_by (Head × Page) (coded× head_code page_code) (λ e. (e.head, e.page)) (λ p. record { head = p.0; page = p.1 }) (λ _. refl)

abbrev pub ActParts : Type 0
ActParts = (ℕ × Entry) ⊎ (ℕ ⊎ ((ℕ × Entry) ⊎ List Wire))

abbrev pub act_parts : Act → ActParts
act_parts (Put n e) = inl (n, e)
act_parts (Take n) = inr (inl n)
act_parts (Swap n e) = inr (inr (inl (n, e)))
act_parts (Wires ws) = inr (inr (inr ws))

abbrev pub act_from : ActParts → Act
act_from (inl p) = Put p.0 p.1
act_from (inr (inl n)) = Take n
act_from (inr (inr (inl p))) = Swap p.0 p.1
act_from (inr (inr (inr ws))) = Wires ws

pub act_back : (a : Act) → act_from (act_parts a) ≡ a
act_back (Put n e) = refl
act_back (Take n) = refl
act_back (Swap n e) = refl
act_back (Wires ws) = refl

abbrev pub act_code : Coded Act
act_code =
    code_by ActParts (coded⊎ (coded× coded_ℕ entry_code) (coded⊎ coded_ℕ (coded⊎ (coded× coded_ℕ entry_code) (coded_list wire_code)))) act_parts act_from act_back

abbrev pub placed_code : Coded Placed
placed_code =
    code_by (List ℕ × Act) (coded× (coded_list coded_ℕ) act_code) (λ t. (t.path, t.act)) (λ p. record { path = p.0; act = p.1 }) (λ _. refl)

abbrev pub turns_code : Coded (List Placed)
turns_code = coded_list placed_code
