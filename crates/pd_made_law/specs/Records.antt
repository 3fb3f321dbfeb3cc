-- The records of a made patch's script, and the edits that they are.
use Rattle.std.specs.Prelude.{ℕ, ◌*◌, List, [], ◌∷◌, ◌++◌, codes, decimal, None}
use Rattle.std.specs.List.{flat_map}
use Rattle.pd_canvas.specs.declared.edits.Edit.{Edit}
use Rattle.pd_canvas.specs.declared.edits.Edit.TheVariants.{Connect, Disconnect}
use Rattle.pd_canvas.specs.declared.wires.Wire.{Wire}
use Rattle.pd_script.specs.declared.commands.Command.TheVariants as command
use Rattle.pd_script.specs.declared.commands.Script.{Script}
use Rattle.pd_script.specs.declared.commands.Script.TheVariants as script
use Rattle.pd_made.specs.Voices.{voices}

-- the record by which a voice leaves the left inlet, and the one by which it comes to the right inlet
abbrev pub cut_record : ℕ → List ℕ
cut_record voice = codes "1 edit . / disconnect " ++ (decimal (2 * voice) ++ codes " 0 0 0")

abbrev pub join_record : ℕ → List ℕ
join_record voice = codes "0 edit . / connect " ++ (decimal (2 * voice) ++ codes " 0 0 1")

abbrev pub end_record : List ℕ
end_record = codes "0 end"

-- the records of the voices in their order, and the end
abbrev pub records_of : ℕ → List (List ℕ)
records_of voice = cut_record voice ∷ join_record voice ∷ []

abbrev pub made_records : ℕ → List (List ℕ)
made_records n = flat_map records_of (voices n) ++ end_record ∷ []

-- an edit of the patch's own canvas
abbrev pub own_edit : Edit → Script
own_edit e = script.Run (command.Edit (record { document = None; path = [] }) e)

-- the wire of a voice to an inlet of the output
abbrev pub wire_to : ℕ → ℕ → Wire
wire_to voice inlet = record { source = 2 * voice; outlet = 0; sink = 0; inlet = inlet }

abbrev pub cut_edit : ℕ → Script
cut_edit voice = own_edit (Disconnect (wire_to voice 0))

abbrev pub join_edit : ℕ → Script
join_edit voice = own_edit (Connect (wire_to voice 1))
