-- The rules of messages where nothing is passed over: each box does with each message what its object's definition says.
use Rattle.std.specs.Prelude.{ℕ, ℤ, Bool, List, [], ◌∷◌, ◌++◌, Option, Some, None, true, if◌then◌else◌}
use Rattle.std.specs.List.{flat_map}
use Rattle.pd_atom.specs.Names.{Names, name_of}
use Rattle.pd_atom.specs.declared.Atom.{Atom}
use Rattle.pd_atom.specs.declared.Atom.TheVariants.{Symbol}
use Rattle.pd_object.specs.declared.kinds.Kind.{Kind}
use Rattle.pd_object.specs.declared.kinds.Kind.TheVariants as kind
use Rattle.pd_kind.specs.declared.messages.Deed.{Deed}
use Rattle.pd_kind.specs.declared.messages.Notice.{Notice}
use Rattle.pd_kind.specs.declared.states.State.{State}
use Rattle.pd_kind.specs.Said.{Said}
use Rattle.pd_arith.specs.Rows as arith
use Rattle.pd_panel.specs.Rows as panel
use Rattle.pd_vline.specs.Rows as vline
use Rattle.pd_glue.specs.Rows as control
use Rattle.pd_glue.specs.Rows.{Hearing, with_names, quiet}
use Rattle.pd_grove.specs.Telling.{kind_in}
use Rattle.pd_say.specs.declared.lines.Line.TheVariants as line
use Rattle.pd_say.specs.Lines.{text_of, notice_line, print_line}
use Rattle.pd_queue.specs.declared.asking.Verb.{Verb}
use Rattle.pd_queue.specs.declared.queue.Asked.{Asked}
use Rattle.pd_queue.specs.declared.queue.Asked.TheVariants as asked
use Rattle.pd_queue.specs.Asking.{verb_named}
use Rattle.pd_queue.specs.Asking as asking
use Rattle.pd_queue.specs.Queue.{Waiting, answer_to, after_asking}
use Rattle.pd_turns.specs.Turns.{Rules, World, all_finished}
use Rattle.pd_walk.specs.declared.walker.Start.{Start}
use Rattle.pd_walk.specs.declared.walker.Start.TheVariants as start
use Rattle.pd_hearing.specs.Worlds.{Net, Kept, set_at}
use Rattle.pd_hearing.specs.Hearing.{Reply, mute, reply, table_in, table_named, resumed_at, fired_at, loaded_at}
use Rattle.pd_stack.specs.Tasks.{Task, Deliver, Ask, Resume, Nobody, to_name}
use Rattle.pd_walk.specs.Acts.{costs, asked_for, overflow_text, is_too_deep, is_print, print_words, full_text, cut_line, path_in, kept_by}
use Rattle.pd_walk.specs.Outcome.{after_deed}

-- a box of a kind that keeps this hears a message, at a time and beside the table that its kind names
unfoldable pub heard_by : Names → Kind → State → ℕ → ℕ → List Atom → ℕ → Option (List ℤ) → Hearing
heard_by names (kind.Arith a) s inlet selector atoms now table = with_names names (arith.heard (kind.Arith a) s inlet selector atoms)
heard_by names (kind.Panel p) s inlet selector atoms now table = with_names names (panel.heard names (kind.Panel p) s selector atoms)
heard_by names kind.Vline s inlet selector atoms now table = with_names names (vline.heard names now kind.Vline s inlet selector atoms)
heard_by names k s inlet selector atoms now table = control.heard names k s inlet selector atoms now table

abbrev pub heard_in : Names → Option Kind → State → ℕ → ℕ → List Atom → ℕ → Option (List ℤ) → Hearing
heard_in names None s inlet selector atoms now table = quiet names s
heard_in names (Some k) s inlet selector atoms now table = heard_by names k s inlet selector atoms now table

abbrev pub heard_with : Net → ℕ → (ℕ → Option State) → Names → ℕ → ℕ → ℕ → List Atom → Option State → Reply
heard_with net now states names node inlet selector atoms None = mute states names
heard_with net now states names node inlet selector atoms (Some s) =
    let k = kind_in (net.nodes node) in
    reply states node (heard_in names k s inlet selector atoms now (table_in net (set_at states node None) (table_named k)))

-- the box of a key hears a message
unfoldable pub heard_at : Net → ℕ → (ℕ → Option State) → Names → ℕ → ℕ → ℕ → List Atom → Reply
heard_at net now states names node inlet selector atoms = heard_with net now states names node inlet selector atoms (states node)

-- the lines of a box's notices, of a print, of a canvas that is asked, and that nobody hears
abbrev pub notices_text : Names → List Notice → List ℕ
notices_text names notices = flat_map (λ n. text_of names (notice_line n)) notices

abbrev pub words_printed : Names → ℕ → List Atom → Option (List Atom) → List ℕ
words_printed names selector atoms None = []
words_printed names selector atoms (Some words) = print_line names words selector atoms

abbrev pub printed : Net → Names → ℕ → Deed → ℕ → List Atom → List ℕ
printed net names node d selector atoms = if is_print d then words_printed names selector atoms (print_words (kind_in (net.nodes node))) else []

abbrev pub canvas_text : Names → ℕ → Bool → List ℕ
canvas_text names selector verb = if verb then text_of names (line.BadArguments selector) else text_of names (line.NoCanvasMethod selector)

abbrev pub answer_text : Names → ℕ → Asked → List ℕ
answer_text names selector asked.Queued = []
answer_text names selector asked.BadArguments = canvas_text names selector true
answer_text names selector asked.Full = full_text

abbrev pub verb_in : Names → ℕ → Option Verb
verb_in names selector = verb_named (name_of names selector)

abbrev pub queue_with : Net → ℕ → List Atom → Waiting → Option Verb → Waiting
queue_with net canvas atoms queue None = queue
queue_with net canvas atoms queue (Some v) = after_asking (path_in net canvas) (asking.asked v atoms) queue

abbrev pub asked_text : ℕ → List Atom → Names → Waiting → Option Verb → List ℕ
asked_text selector atoms names queue None = text_of names (line.NoCanvasMethod selector)
asked_text selector atoms names queue (Some v) = answer_text names selector (answer_to (asking.asked v atoms) queue)

abbrev pub nobody_text : Names → ℕ → List ℕ
nobody_text names name = text_of names (line.NoObject (Symbol name))

-- what is kept after a task
unfoldable pub kept_after : Net → ℕ → Kept → Task → Kept
kept_after net now kept (Deliver depth node inlet selector atoms) = kept_by net now node kept (heard_at net now kept.states kept.names node inlet selector atoms)
kept_after net now kept (Ask depth canvas selector atoms) =
    record { states = kept.states; clocks = kept.clocks; names = kept.names; queue = queue_with net canvas atoms kept.queue (verb_in kept.names selector) }
kept_after net now kept (Resume depth node) = kept_by net now node kept (resumed_at net kept.states kept.names node)
kept_after net now kept (Nobody name) = kept

abbrev pub said_by_box : Net → ℕ → ℕ → ℕ → List Atom → Reply → List ℕ
said_by_box net depth node selector atoms r =
    notices_text r.names r.said.notices ++ (printed net r.names node r.said.deed selector atoms ++ overflow_text (is_too_deep net depth node r.said))

-- what is said at a task
unfoldable pub said_at : Net → ℕ → Kept → Task → List ℕ
said_at net now kept (Deliver depth node inlet selector atoms) = said_by_box net depth node selector atoms (heard_at net now kept.states kept.names node inlet selector atoms)
said_at net now kept (Ask depth canvas selector atoms) = asked_text selector atoms kept.names kept.queue (verb_in kept.names selector)
said_at net now kept (Resume depth node) = overflow_text (is_too_deep net depth node (resumed_at net kept.states kept.names node).said)
said_at net now kept (Nobody name) = nobody_text kept.names name

-- what a task causes
unfoldable pub caused : Net → ℕ → Kept → Task → List Task
caused net now kept (Deliver depth node inlet selector atoms) = asked_for net depth node (heard_at net now kept.states kept.names node inlet selector atoms).said
caused net now kept (Ask depth canvas selector atoms) = []
caused net now kept (Resume depth node) = asked_for net depth node (resumed_at net kept.states kept.names node).said
caused net now kept (Nobody name) = []

abbrev pub rules : Net → ℕ → Rules Kept Task
rules net now = record {
  kept_after = kept_after net now;
  said_at = said_at net now;
  caused = caused net now;
  costs = costs;
  cut_text = cut_line;
}

-- tasks, each with all that it causes, before the next
abbrev pub ran : Net → ℕ → World Kept → List Task → World Kept
ran net now w tasks = all_finished (rules net now) w tasks

-- a box says something by itself
abbrev pub told_by : Net → ℕ → ℕ → Said → World Kept → World Kept
told_by net now node said w = ran net now (after_deed net now node said w) (asked_for net 0 node said)

-- boxes are loaded, one after the other
abbrev pub all_loaded : Net → ℕ → World Kept → List ℕ → World Kept
all_loaded net now w [] = w
all_loaded net now w (node ∷ nodes) = all_loaded net now (told_by net now node (loaded_at net w.kept.states node) w) nodes

-- what becomes of what begins deliveries
unfoldable pub outcome : Net → ℕ → World Kept → Start → World Kept
outcome net now w (start.Name name message) = ran net now w (to_name net 1 message.selector message.atoms.now name true)
outcome net now w (start.Clock owner) = told_by net now owner (fired_at net w.kept.states owner) w
outcome net now w (start.Loads boxes) = all_loaded net now w boxes.now
