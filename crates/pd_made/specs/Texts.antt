-- The text of a made patch, as one writes it by hand.
use Rattle.std.specs.Prelude.{ℕ, ◌-◌, ◌*◌, List, ◌++◌, codes, decimal}
use Rattle.std.specs.List.{flat_map}
use Rattle.pd_made.specs.Voices.{voices}
use Rattle.pd_made.specs.Documents.{frequency}

-- the records of a voice's boxes
abbrev pub voice_text : ℕ → List ℕ
voice_text voice = codes "#X obj 0 0 osc~ " ++ (decimal (frequency voice) ++ codes ";\n#X obj 0 0 *~ 0.001;\n")

-- the records of a voice's wires
abbrev pub connects_text : ℕ → List ℕ
connects_text voice =
    codes "#X connect " ++ (decimal (2 * voice - 1) ++ (codes " 0 " ++ (decimal (2 * voice) ++ (codes " 0;\n" ++
    (codes "#X connect " ++ (decimal (2 * voice) ++ codes " 0 0 0;\n"))))))

abbrev pub made_text : ℕ → List ℕ
made_text n = codes "#N canvas 0 50 450 300 12;\n#X obj 0 0 dac~;\n" ++ (flat_map voice_text (voices n) ++ flat_map connects_text (voices n))
