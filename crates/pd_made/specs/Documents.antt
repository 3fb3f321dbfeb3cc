-- The document of a made patch: one output, and oscillators that go to it, each made softer.
use Rattle.std.specs.Prelude.{ℕ, ◌+◌, ◌-◌, ◌*◌, ◌%◌, pos, List, [], ◌∷◌}
use Rattle.std.specs.List.{flat_map}
use Rattle.pd_atom.specs.Names.{Names}
use Rattle.pd_atom.specs.declared.Atom.{Atom}
use Rattle.pd_atom.specs.declared.Atom.TheVariants.{Number, Symbol}
use Rattle.pd_canvas.specs.declared.wires.Wire.{Wire}
use Rattle.pd_canvas.specs.Pages.{Obj, Page, Entry, boxed, empty_page}
use Rattle.pd_canvas.specs.Edits.{element}
use Rattle.pd_made.specs.declared.words.Words.{Words}
use Rattle.pd_made.specs.Voices.{voices, words_in}

-- the number of so many whole units
abbrev pub whole : ℕ → Atom
whole n = Number (pos (n * 1000000))

-- the header: 0 50 450 300 12
abbrev pub made_header : List Atom
made_header = whole 0 ∷ whole 50 ∷ whole 450 ∷ whole 300 ∷ whole 12 ∷ []

-- an object at 0 0 with this text
abbrev pub object_box : List Atom → Entry
object_box text = element Obj empty_page (pos 0) (pos 0) text

-- the frequency of a voice
abbrev pub frequency : ℕ → ℕ
frequency voice = 100 + 37 * voice % 400

-- a voice is `osc~ F` and `*~ 0.001`
abbrev pub voice_boxes : Words → ℕ → List Entry
voice_boxes words voice =
    object_box (Symbol words.oscillator ∷ whole (frequency voice) ∷ []) ∷ object_box (Symbol words.factor ∷ Number (pos 1000) ∷ []) ∷ []

-- `dac~`, and then the voices in their order
abbrev pub made_boxes : Words → ℕ → List Entry
made_boxes words n = object_box (Symbol words.output ∷ []) ∷ flat_map (voice_boxes words) (voices n)

-- the oscillator of a voice goes to what makes it softer, and that to the left inlet of the output
abbrev pub voice_wires : ℕ → List Wire
voice_wires voice =
    record { source = 2 * voice - 1; outlet = 0; sink = 2 * voice; inlet = 0 } ∷ record { source = 2 * voice; outlet = 0; sink = 0; inlet = 0 } ∷ []

abbrev pub made_wires : ℕ → List Wire
made_wires n = flat_map voice_wires (voices n)

-- the made patch of n voices, by its words
abbrev pub document_by : Words → ℕ → Page
document_by words n = record { header = made_header; kept = []; boxes = boxed (made_boxes words n); wires = made_wires n; coords = [] }

-- the made patch of n voices, by a table that has its words
abbrev pub made_document : Names → ℕ → Page
made_document names n = document_by (words_in names) n
