-- The last line of a run of a made patch.
use Rattle.std.specs.Prelude.{ℕ, List, [], ◌∷◌, codes, decimal}
use Rattle.std.specs.List.{concat}
use Rattle.pd_made.specs.declared.summary.Summary.{Summary}

-- `made N: B boxes, W wires, K blocks, sum S`, and the line feed
abbrev pub summary_text : Summary → List ℕ
summary_text s =
    concat (codes "made " ∷ decimal s.voices ∷ codes ": " ∷ decimal s.boxes ∷ codes " boxes, " ∷ decimal s.wires ∷ codes " wires, " ∷
    decimal s.blocks ∷ codes " blocks, sum " ∷ decimal s.sum ∷ codes "\n" ∷ [])
