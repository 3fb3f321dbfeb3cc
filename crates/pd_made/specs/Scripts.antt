-- The script of a made patch: each voice in turn goes from the left to the right inlet of the output.
use Rattle.std.specs.Prelude.{ℕ, ◌*◌, List, ◌++◌, codes, decimal}
use Rattle.std.specs.List.{flat_map}
use Rattle.pd_made.specs.Voices.{voices}

-- a millisecond later the wire to the left inlet is cut, and at once there is one to the right inlet
abbrev pub voice_records : ℕ → List ℕ
voice_records voice =
    codes "1 edit . / disconnect " ++ (decimal (2 * voice) ++ (codes " 0 0 0;\n" ++
    (codes "0 edit . / connect " ++ (decimal (2 * voice) ++ codes " 0 0 1;\n"))))

-- the records of the voices in their order, and the end
abbrev pub made_script : ℕ → List ℕ
made_script n = flat_map voice_records (voices n) ++ codes "0 end;\n"
