-- Over deliveries the table of names goes on, whatever begins them.
use Rattle.std.proofs.Common.{◌≡◌, ℕ, List, [], ◌∷◌, ℤ, Option, Some, None, Result, Ok, Err, refl, sym, subst, nat_le, ◌^◌, ◌&&◌}
use Rattle.std.specs.List.{AllByRecursion, slice_split}
use Rattle.pd_atom.specs.Names.{Names, Extends}
use Rattle.pd_atom.specs.Expansion.{expanded}
use Rattle.pd_atom.specs.declared.Atom.{Atom}
use Rattle.pd_atom.specs.declared.Expanded.{Expanded}
use Rattle.pd_atom.specs.declared.SymbolRefusal.{SymbolRefusal}
use Rattle.pd_object.specs.declared.kinds.Kind.{Kind}
use Rattle.pd_object.specs.declared.kinds.Kind.TheVariants as kind
use Rattle.pd_object.specs.declared.kinds.Glue.{Glue}
use Rattle.pd_object.specs.declared.kinds.Glue.TheVariants as glue
use Rattle.pd_kind.specs.declared.messages.Sort.{Sort}
use Rattle.pd_kind.specs.declared.messages.Sort.TheVariants as sort
use Rattle.pd_kind.specs.declared.messages.Target.TheVariants as target
use Rattle.pd_kind.specs.declared.states.State.{State}
use Rattle.pd_kind.specs.declared.states.State.TheVariants as state
use Rattle.pd_kind.specs.Messages.{sort_of}
use Rattle.pd_kind.specs.Said.{Said}
use Rattle.pd_message.specs.declared.pieces.Receiver.{Receiver}
use Rattle.pd_message.specs.declared.pieces.Receiver.TheVariants as receiver
use Rattle.pd_message.specs.Texts.{is_comma, is_semi, Run, Filling, with_atom, expanded_with, filled_with, started, noted, missing_notices, receiver_at, piece_run, pieces_run, segment_run, received, named_run, named_runs, segments_run}
use Rattle.pd_message.specs.Rows.{heard_as, first_run, message_row}
use Rattle.pd_glue.specs.Rows.{Hearing, quiet, glue_heard, heard as control_heard}
use Rattle.pd_turns.specs.Turns.{World}
use Rattle.pd_walk.specs.declared.walker.Start.{Start}
use Rattle.pd_walk.specs.declared.walker.Start.TheVariants as start
use Rattle.pd_walk.specs.Acts.{asked_for, kept_after, caused, rules}
use Rattle.pd_walk.specs.Outcome.{ran, after_deed, told_by, all_loaded, named_tasks, outcome}
use Rattle.pd_hearing.specs.Worlds.{Net, Kept}
use Rattle.pd_hearing.specs.Guards.{is_message, is_table, is_small, is_open}
use Rattle.pd_hearing.specs.Hearing.{Reply, heard_other, heard_by, heard_kind, heard_in, heard_with, heard_at, resumed_in, resumed_with, resumed_at, fired_at, loaded_at}
use Rattle.pd_hearing.specs.Deeds.{done, replied}
use Rattle.pd_stack.specs.Tasks.{Task, Deliver, Ask, Resume, Nobody}
use Rattle.pd_regrowth_law.proofs.StepLemmas.{extends_same, extends_on, expanded_extends}
use Rattle.pd_guards.proofs.FactLemmas.{either}
use Rattle.pd_guards.proofs.SameTurns.{Agree, agree_self, Same, all_same}
use Rattle.pd_guards.proofs.WalkLemmas.{done_names}

-- ---- the texts of message boxes

atom_on : (x : Filling) (names : Names) (r : Result Expanded SymbolRefusal) → Extends x.run.names names → Extends x.run.names (with_atom x names r).run.names
atom_on x names (Ok e) h = h
atom_on x names (Err e) h = h

filled_on : (args : List Atom) (x : Filling) (piece : List Atom) → Extends x.run.names (filled_with args x piece).run.names
filled_on args x [] = extends_same x.run.names
filled_on args x (a ∷ piece) =
    let next : Filling = expanded_with args x a in
    either (λ (f : Filling). Extends x.run.names f.run.names) x.fits (filled_with args next piece) x
    (extends_on x.run.names next.run.names (filled_with args next piece).run.names
    (atom_on x (expanded x.run.names a 0 args).names (expanded x.run.names a 0 args).answer (expanded_extends x.run.names a 0 args)) (filled_on args next piece))
    (extends_same x.run.names)

piece_on : (args : List Atom) (to : Receiver) (run : Run) (piece : List Atom) → Extends run.names (piece_run args to run piece).names
piece_on args to run [] = extends_same run.names
piece_on args (receiver.Known t) run (a ∷ piece) = filled_on args (started run) (a ∷ piece)
piece_on args (receiver.Wrong x) run (a ∷ piece) = filled_on args (started run) (a ∷ piece)
piece_on args receiver.Full run (a ∷ piece) = extends_same run.names

pieces_on : (args : List Atom) (to : Receiver) (run : Run) (pieces : List (List Atom)) → Extends run.names (pieces_run args to run pieces).names
pieces_on args to run [] = extends_same run.names
pieces_on args to run (p ∷ pieces) =
    extends_on run.names (piece_run args to run p).names (pieces_run args to (piece_run args to run p) pieces).names (piece_on args to run p) (pieces_on args to (piece_run args to run p) pieces)

received_on : (args : List Atom) (run : Run) (segment : List Atom) (names : Names) (r : Result Expanded SymbolRefusal) → Extends names (received args run segment names r).names
received_on args run segment names (Ok e) =
    pieces_on args (receiver_at e.atom) (record { names = names; said = noted run.said (missing_notices e.missing) }) (slice_split is_comma segment)
received_on args run segment names (Err e) = pieces_on args receiver.Full (record { names = names; said = run.said }) (slice_split is_comma segment)

named_on : (args : List Atom) (run : Run) (segment : List Atom) → Extends run.names (named_run args run segment).names
named_on args run [] = extends_same run.names
named_on args run (a ∷ segment) =
    let o = expanded run.names a 0 args in
    extends_on run.names o.names (received args run segment o.names o.answer).names (expanded_extends run.names a 0 args) (received_on args run segment o.names o.answer)

nameds_on : (args : List Atom) (run : Run) (segments : List (List Atom)) → Extends run.names (named_runs args run segments).names
nameds_on args run [] = extends_same run.names
nameds_on args run (s ∷ segments) =
    extends_on run.names (named_run args run s).names (named_runs args (named_run args run s) segments).names (named_on args run s) (nameds_on args (named_run args run s) segments)

segments_on : (args : List Atom) (run : Run) (segments : List (List Atom)) → Extends run.names (segments_run args run segments).names
segments_on args run [] = extends_same run.names
segments_on args run (s ∷ segments) =
    let first : Run = segment_run args (receiver.Known (target.Outlet 0)) run s in
    extends_on run.names first.names (named_runs args first segments).names (pieces_on args (receiver.Known (target.Outlet 0)) run (slice_split is_comma s)) (nameds_on args first segments)

as_on : (names : Names) (text : List Atom) (selector : ℕ) (atoms : List Atom) (s : Sort) → Extends names (heard_as names text selector atoms s).names
as_on names text selector atoms (sort.Float z) = segments_on atoms (first_run names) (slice_split is_semi text)
as_on names text selector atoms sort.Bang = segments_on atoms (first_run names) (slice_split is_semi text)
as_on names text selector atoms (sort.Symbol s) = segments_on atoms (first_run names) (slice_split is_semi text)
as_on names text selector atoms sort.List = segments_on atoms (first_run names) (slice_split is_semi text)
as_on names text selector atoms sort.Other = extends_same names

message_on : (names : Names) (s : State) (selector : ℕ) (atoms : List Atom) → Extends names (message_row names s selector atoms).names
unfolding message_row
message_on names (state.Message text) selector atoms = as_on names text selector atoms (sort_of selector atoms)
message_on names s selector atoms = extends_same names

-- ---- what any box hears

glue_on : (names : Names) (g : Glue) (s : State) (inlet selector : ℕ) (atoms : List Atom) (now : ℕ) (table : Option (List ℤ)) → Extends names (glue_heard names g s inlet selector atoms now table).names
glue_on names (glue.Message text) s inlet selector atoms now table = message_on names s selector atoms
glue_on names g s inlet selector atoms now table = extends_same names

control_on : (names : Names) (k : Kind) (s : State) (inlet selector : ℕ) (atoms : List Atom) (now : ℕ) (table : Option (List ℤ)) → Extends names (control_heard names k s inlet selector atoms now table).names
unfolding control_heard
control_on names (kind.Glue g) s inlet selector atoms now table = glue_on names g s inlet selector atoms now table
control_on names k s inlet selector atoms now table = extends_same names

other_on : (names : Names) (k : Kind) (s : State) (inlet selector : ℕ) (atoms : List Atom) (now : ℕ) (table : Option (List ℤ)) → Extends names (heard_other names k s inlet selector atoms now table).names
other_on names k s inlet selector atoms now table =
    either (λ (h : Hearing). Extends names h.names) (is_table table && is_small names k s) (control_heard names k s inlet selector atoms now table) (quiet names s)
    (control_on names k s inlet selector atoms now table) (extends_same names)

by_on : (names : Names) (k : Kind) (s : State) (inlet selector : ℕ) (atoms : List Atom) (now : ℕ) (table : Option (List ℤ)) → Extends names (heard_by names k s inlet selector atoms now table).names
by_on names (kind.Arith a) s inlet selector atoms now table = extends_same names
by_on names (kind.Panel p) s inlet selector atoms now table = extends_same names
by_on names kind.Vline s inlet selector atoms now table =
    either (λ (h : Hearing). Extends names h.names) (nat_le now (2 ^ 101) && is_open now s) _ (quiet names s) (extends_same names) (extends_same names)
by_on names (kind.Glue g) s inlet selector atoms now table = other_on names (kind.Glue g) s inlet selector atoms now table
by_on names (kind.Tone t) s inlet selector atoms now table = other_on names (kind.Tone t) s inlet selector atoms now table
by_on names (kind.Signal g) s inlet selector atoms now table = other_on names (kind.Signal g) s inlet selector atoms now table
by_on names kind.Unmade s inlet selector atoms now table = other_on names kind.Unmade s inlet selector atoms now table
by_on names kind.Canvas s inlet selector atoms now table = other_on names kind.Canvas s inlet selector atoms now table

kind_on : (names : Names) (k : Kind) (s : State) (inlet selector : ℕ) (atoms : List Atom) (now : ℕ) (table : Option (List ℤ)) → Extends names (heard_kind names k s inlet selector atoms now table).names
unfolding heard_kind
kind_on names k s inlet selector atoms now table =
    either (λ (h : Hearing). Extends names h.names) (is_message names selector atoms) (heard_by names k s inlet selector atoms now table) (quiet names s)
    (by_on names k s inlet selector atoms now table) (extends_same names)

in_on : (names : Names) (o : Option Kind) (s : State) (inlet selector : ℕ) (atoms : List Atom) (now : ℕ) (table : Option (List ℤ)) → Extends names (heard_in names o s inlet selector atoms now table).names
in_on names None s inlet selector atoms now table = extends_same names
in_on names (Some k) s inlet selector atoms now table = kind_on names k s inlet selector atoms now table

module _ (net : Net) (now : ℕ) where
  with_on : (states : ℕ → Option State) (names : Names) (node inlet selector : ℕ) (atoms : List Atom) (o : Option State) → Extends names (heard_with net now states names node inlet selector atoms o).names
  with_on states names node inlet selector atoms None = extends_same names
  with_on states names node inlet selector atoms (Some s) = in_on names _ s inlet selector atoms now _

  at_on : (states : ℕ → Option State) (names : Names) (node inlet selector : ℕ) (atoms : List Atom) → Extends names (heard_at net now states names node inlet selector atoms).names
  unfolding heard_at
  at_on states names node inlet selector atoms = with_on states names node inlet selector atoms (states node)

  again_by : (names : Names) (o : Option Kind) (s : State) → (resumed_in names o s).names ≡ names
  again_by names None s = refl
  again_by names (Some k) s = refl

  again_with : (states : ℕ → Option State) (names : Names) (node : ℕ) (o : Option State) → (resumed_with net states names node o).names ≡ names
  again_with states names node None = refl
  again_with states names node (Some s) = again_by names _ s

  again_on : (states : ℕ → Option State) (names : Names) (node : ℕ) → Extends names (resumed_at net states names node).names
  unfolding resumed_at
  again_on states names node = subst (Extends names) (sym (again_with states names node (states node))) (extends_same names)

  -- ---- deliveries

  by_reply : (kept : Kept) (node : ℕ) (r : Reply) → Extends kept.names r.names → Extends kept.names (done net now node r.said.deed (replied kept r)).names
  by_reply kept node r h = subst (Extends kept.names) (sym (done_names net now node r.said.deed (replied kept r))) h

  after_on : (kept : Kept) (t : Task) → Extends kept.names (kept_after net now kept t).names
  unfolding kept_after
  after_on kept (Deliver depth node inlet selector atoms) = by_reply kept node (heard_at net now kept.states kept.names node inlet selector atoms) (at_on kept.states kept.names node inlet selector atoms)
  after_on kept (Ask depth canvas selector atoms) = extends_same kept.names
  after_on kept (Resume depth node) = by_reply kept node (resumed_at net kept.states kept.names node) (again_on kept.states kept.names node)
  after_on kept (Nobody name) = extends_same kept.names

  all_any : (tasks : List Task) → AllByRecursion (λ (t : Task). Unit {0}) tasks
  all_any [] = tt
  all_any (t ∷ tasks) = (tt, all_any tasks)

  module _ (first : Names) where
    abbrev On : Kept → Type 0
    On kept = Extends first kept.names

    abbrev Any : Kept → Task → Type 0
    Any kept t = Unit {0}

    agrees : Agree (rules net now) (rules net now) On Any
    agrees =
        agree_self (rules net now) On Any (λ kept t h m. extends_on first kept.names (kept_after net now kept t).names h (after_on kept t)) (λ kept t h m u k. tt)
        (λ kept t h m. all_any (caused net now kept t))

    ran_on : (w : World Kept) (tasks : List Task) → On w.kept → On (ran net now w tasks).kept
    ran_on w tasks h =
        let s : Same On Any w (ran net now w tasks) (ran net now w tasks) = all_same (rules net now) (rules net now) On Any agrees w tasks h (all_any tasks) in
        s.after.kept

    told_on : (node : ℕ) (said : Said) (w : World Kept) → On w.kept → On (told_by net now node said w).kept
    told_on node said w h =
        ran_on (after_deed net now node said w) (asked_for net 0 node said) (subst (Extends first) (sym (done_names net now node said.deed w.kept)) h)

    loaded_on : (w : World Kept) (nodes : List ℕ) → On w.kept → On (all_loaded net now w nodes).kept
    loaded_on w [] h = h
    loaded_on w (node ∷ nodes) h =
        let said = loaded_at net w.kept.states node in
        loaded_on (told_by net now node said w) nodes (told_on node said w h)

    outcome_on : (w : World Kept) (s : Start) → On w.kept → On (outcome net now w s).kept
    unfolding outcome
    outcome_on w (start.Name name message) h = ran_on w (named_tasks net name message.selector message.atoms.now) h
    outcome_on w (start.Clock owner) h = told_on owner (fired_at net w.kept.states owner) w h
    outcome_on w (start.Loads boxes) h = loaded_on w boxes.now h

pub outcome_extends : (net : Net) (now : ℕ) (w : World Kept) (s : Start) → Extends w.kept.names (outcome net now w s).kept.names
outcome_extends net now w s = outcome_on net now w.kept.names w s (extends_same w.kept.names)
