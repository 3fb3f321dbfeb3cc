-- The list of the edits that canvases were asked for, each with the path of its canvas.
use Rattle.std.specs.Prelude.{ℕ, ◌==◌, List, [], ◌∷◌, ◌++◌, length, Option, Some, None, if◌then◌else◌}
use Rattle.pd_canvas.specs.declared.edits.Edit.{Edit}
use Rattle.pd_queue.specs.declared.queue.Asked.{Asked}
use Rattle.pd_queue.specs.declared.queue.Asked.TheVariants.{Queued, BadArguments, Full}

abbrev pub Waiting : Type 0
Waiting = List (List ℕ × Edit)

-- the greatest count of edits
abbrev pub most : ℕ
most = 256

-- what is answered where a verb and its atoms give this edit, or none
abbrev pub answer_to : Option Edit → Waiting → Asked
answer_to None queue = BadArguments
answer_to (Some e) queue = if length queue == most then Full else Queued

-- what waits after that: an edit goes last where there is room
abbrev pub after_asking : List ℕ → Option Edit → Waiting → Waiting
after_asking path None queue = queue
after_asking path (Some e) queue = if length queue == most then queue else queue ++ (path, e) ∷ []
