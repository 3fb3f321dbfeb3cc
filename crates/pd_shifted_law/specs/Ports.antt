-- A page after the move of a box, where that may be a port of the box around.
use Rattle.std.proofs.Common.{inl, inr}
use Rattle.std.specs.Prelude.{ℕ, ℤ, ◌==◌, cond, List, [], ◌∷◌}
use Rattle.pd_canvas.specs.Pages.{Page}
use Rattle.pd_canvas.specs.Paths.{change_box, inside}
use Rattle.pd_patch.specs.declared.patch.Patch.{Patch}
use Rattle.pd_sliding_law.specs.Slid.{with_slid}
use Rattle.pd_shifting.specs.Moves.{ShiftsBox}

-- the page of the canvas that lies around the one to which a path leads changed, by the number of the box in it to which the path leads on
abbrev pub edit_around : List ℕ → (ℕ → Page → Page) → Page → Page
edit_around [] f p = p
edit_around (n ∷ []) f p = f n p
edit_around (m ∷ n ∷ path) f p = change_box m (inside (edit_around (n ∷ path) f)) p

-- the page with the wires around at their ports, where the box that moved in the canvas to which the path leads is a port whose number changed
abbrev pub with_ports_moved : (old new : Patch) (canvas key : ℕ) (x y : ℤ) → ShiftsBox old new canvas key x y → List ℕ → Page → Page
with_ports_moved old new canvas key x y (inl s) path p = p
with_ports_moved old new canvas key x y (inr s) path p = cond (s.from == s.to) p (edit_around path (λ n. with_slid s.side n s.from s.to) p)
