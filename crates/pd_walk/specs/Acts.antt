-- What tasks lead to: what each does and says, and which it causes.
use Rattle.std.specs.Prelude.{ℕ, Bool, true, false, ◌+◌, nat_le, ◌&&◌, ◌||◌, List, [], ◌∷◌, ◌++◌, length, codes, Option, Some, None, if◌then◌else◌}
use Rattle.std.specs.List.{flat_map}
use Rattle.pd_atom.specs.Names.{Names, name_of}
use Rattle.pd_atom.specs.declared.Atom.{Atom}
use Rattle.pd_object.specs.declared.kinds.Kind.{Kind}
use Rattle.pd_object.specs.declared.kinds.Kind.TheVariants as kind
use Rattle.pd_object.specs.declared.kinds.Glue.{Glue}
use Rattle.pd_object.specs.declared.kinds.Glue.TheVariants as glue
use Rattle.pd_kind.specs.declared.messages.Deed.{Deed}
use Rattle.pd_kind.specs.declared.messages.Deed.TheVariants as deed
use Rattle.pd_kind.specs.declared.messages.Notice.{Notice}
use Rattle.pd_kind.specs.Rows.{Send}
use Rattle.pd_kind.specs.Said.{Said}
use Rattle.pd_say.specs.declared.lines.Line.TheVariants as line
use Rattle.pd_say.specs.Lines.{text_of, notice_line, print_line}
use Rattle.pd_queue.specs.declared.asking.Verb.{Verb}
use Rattle.pd_queue.specs.declared.queue.Asked.{Asked}
use Rattle.pd_queue.specs.declared.queue.Asked.TheVariants as asked
use Rattle.pd_queue.specs.Asking.{verb_named}
use Rattle.pd_queue.specs.Asking as asking
use Rattle.pd_queue.specs.Queue.{Waiting, answer_to, after_asking}
use Rattle.pd_grove.specs.Telling.{kind_in}
use Rattle.pd_patch.specs.Paths.{path_told}
use Rattle.pd_turns.specs.Turns.{Rules}
use Rattle.pd_hearing.specs.Worlds.{Net, Kept}
use Rattle.pd_hearing.specs.Guards.{is_name, are_atoms, is_few, is_known}
use Rattle.pd_hearing.specs.Hearing.{Reply, heard_at, resumed_at}
use Rattle.pd_hearing.specs.Deeds.{done, replied}
use Rattle.pd_stack.specs.Tasks.{Task, Deliver, Ask, Resume, Nobody, leads_out, sent, again_after, nobody_text}

abbrev pub costs : Task → Bool
costs (Nobody name) = false
costs task = true

-- the sends of a box that lead somewhere
abbrev pub sends_of : Net → ℕ → Said → List Send
sends_of net node said = if leads_out net node then [] else said.sends

abbrev pub is_again : Deed → Bool
is_again deed.Again = true
is_again d = false

abbrev pub deepest : ℕ
deepest = 1000

-- what follows from what a box says: its sends, one deeper, and then that it is resumed; nothing at the greatest depth
abbrev pub asked_for : Net → ℕ → ℕ → Said → List Task
asked_for net depth node said =
    if nat_le deepest depth then [] else flat_map (sent net (depth + 1) node) (sends_of net node said) ++ again_after depth node (is_again said.deed)

abbrev pub has_some : {A : Type 0} → List A → Bool
has_some [] = false
has_some (x ∷ xs) = true

-- a box at the greatest depth asked for something
abbrev pub is_too_deep : Net → ℕ → ℕ → Said → Bool
is_too_deep net depth node said = nat_le deepest depth && (is_again said.deed || has_some (sends_of net node said))

abbrev pub overflow_text : Bool → List ℕ
overflow_text over = if over then codes "error: stack overflow\n" else []

abbrev pub notice_text : Names → Notice → List ℕ
notice_text names n = if is_known names n then text_of names (notice_line n) else []

abbrev pub notices_text : Names → List Notice → List ℕ
notices_text names notices = flat_map (notice_text names) notices

-- the arguments of a `print`
abbrev pub glue_words : Glue → Option (List Atom)
glue_words (glue.Print words) = Some words
glue_words g = None

abbrev pub print_words : Option Kind → Option (List Atom)
print_words (Some (kind.Glue g)) = glue_words g
print_words k = None

abbrev pub words_printed : Names → ℕ → List Atom → Option (List Atom) → List ℕ
words_printed names selector atoms None = []
words_printed names selector atoms (Some words) =
    if is_name names selector && are_atoms names atoms && are_atoms names words then print_line names words selector atoms else []

abbrev pub is_print : Deed → Bool
is_print deed.Print = true
is_print d = false

-- the line of a print
abbrev pub printed : Net → Names → ℕ → Deed → ℕ → List Atom → List ℕ
printed net names node d selector atoms = if is_print d then words_printed names selector atoms (print_words (kind_in (net.nodes node))) else []

-- the lines of a queue that is full, and of an event that is cut off
abbrev pub full_text : List ℕ
full_text = codes "error: edit queue full\n"

abbrev pub cut_line : List ℕ
cut_line = codes "error: event cut at 1000000 deliveries\n"

-- a canvas has no method for a selector, or its arguments are bad
abbrev pub canvas_text : Names → ℕ → Bool → List ℕ
canvas_text names selector verb =
    if is_name names selector then if verb then text_of names (line.BadArguments selector) else text_of names (line.NoCanvasMethod selector) else []

-- the verb that a message to a canvas is
abbrev pub verb_in : Names → ℕ → Option Verb
verb_in names selector = if is_name names selector then verb_named (name_of names selector) else None

abbrev pub is_near : List ℕ → Bool
is_near path = nat_le (length path) 255

abbrev pub path_in : Net → ℕ → List ℕ
path_in net canvas = path_told net.nodes net.boards net.numbers.items canvas

abbrev pub queue_with : Net → ℕ → List Atom → Waiting → Option Verb → Waiting
queue_with net canvas atoms queue None = queue
queue_with net canvas atoms queue (Some v) =
    if is_few atoms && is_near (path_in net canvas) then after_asking (path_in net canvas) (asking.asked v atoms) queue else queue

abbrev pub answer_text : Names → ℕ → Asked → List ℕ
answer_text names selector asked.Queued = []
answer_text names selector asked.BadArguments = canvas_text names selector true
answer_text names selector asked.Full = full_text

abbrev pub asked_text : Net → ℕ → ℕ → List Atom → Names → Waiting → Option Verb → List ℕ
asked_text net canvas selector atoms names queue None = canvas_text names selector false
asked_text net canvas selector atoms names queue (Some v) =
    if is_few atoms && is_near (path_in net canvas) then answer_text names selector (answer_to (asking.asked v atoms) queue) else []

-- what is kept after a box acted
abbrev pub kept_by : Net → ℕ → ℕ → Kept → Reply → Kept
kept_by net now node kept r = done net now node r.said.deed (replied kept r)

-- what is kept after a task
unfoldable pub kept_after : Net → ℕ → Kept → Task → Kept
kept_after net now kept (Deliver depth node inlet selector atoms) = kept_by net now node kept (heard_at net now kept.states kept.names node inlet selector atoms)
kept_after net now kept (Ask depth canvas selector atoms) =
    record { states = kept.states; clocks = kept.clocks; names = kept.names; queue = queue_with net canvas atoms kept.queue (verb_in kept.names selector) }
kept_after net now kept (Resume depth node) = kept_by net now node kept (resumed_at net kept.states kept.names node)
kept_after net now kept (Nobody name) = kept

abbrev pub said_by_box : Net → ℕ → ℕ → ℕ → List Atom → Reply → List ℕ
said_by_box net depth node selector atoms r =
    notices_text r.names r.said.notices ++ (printed net r.names node r.said.deed selector atoms ++ overflow_text (is_too_deep net depth node r.said))

-- what is said at a task: a box's notices, the line of a print, and that it is too deep
unfoldable pub said_at : Net → ℕ → Kept → Task → List ℕ
said_at net now kept (Deliver depth node inlet selector atoms) = said_by_box net depth node selector atoms (heard_at net now kept.states kept.names node inlet selector atoms)
said_at net now kept (Ask depth canvas selector atoms) = asked_text net canvas selector atoms kept.names kept.queue (verb_in kept.names selector)
said_at net now kept (Resume depth node) = overflow_text (is_too_deep net depth node (resumed_at net kept.states kept.names node).said)
said_at net now kept (Nobody name) = nobody_text kept.names name

-- what a task causes
unfoldable pub caused : Net → ℕ → Kept → Task → List Task
caused net now kept (Deliver depth node inlet selector atoms) = asked_for net depth node (heard_at net now kept.states kept.names node inlet selector atoms).said
caused net now kept (Ask depth canvas selector atoms) = []
caused net now kept (Resume depth node) = asked_for net depth node (resumed_at net kept.states kept.names node).said
caused net now kept (Nobody name) = []

-- the rules of messages in a patch, at a time
abbrev pub rules : Net → ℕ → Rules Kept Task
rules net now = record {
  kept_after = kept_after net now;
  said_at = said_at net now;
  caused = caused net now;
  costs = costs;
  cut_text = cut_line;
}
