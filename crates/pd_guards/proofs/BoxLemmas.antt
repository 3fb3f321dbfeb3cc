-- A message box keeps and says what is in order.
use Rattle.std.proofs.Common.{◌≡◌, ℕ, suc, ◌+◌, ◌≤◌, Bool, false, nat_lt, ltb, List, [], ◌∷◌, ◌++◌, length, Option, Some, None, Result, Ok, Err, IfOk, codes, arith, length-append}
use Rattle.std.proofs.lemmas.List.{length-map}
use Rattle.std.proofs.lemmas.Bool.Decides.{nat_tests}
use Rattle.std.specs.List.{AllByRecursion, slice_split, onto_first}
use Rattle.pd_atom.specs.Names.{Names, Extends}
use Rattle.pd_atom.specs.Atoms.{IsOf}
use Rattle.pd_atom.specs.Tokens.{settled}
use Rattle.pd_atom.specs.Expansion.{expanded}
use Rattle.pd_atom.specs.declared.Atom.{Atom}
use Rattle.pd_atom.specs.declared.Atom.TheVariants as atom
use Rattle.pd_atom.specs.declared.Expanded.{Expanded}
use Rattle.pd_atom.specs.declared.SymbolRefusal.{SymbolRefusal}
use Rattle.pd_kind.specs.declared.messages.Notice.{Notice}
use Rattle.pd_kind.specs.declared.messages.Notice.TheVariants.{NoReceiver, TableFull}
use Rattle.pd_kind.specs.declared.messages.Sort.{Sort}
use Rattle.pd_kind.specs.declared.messages.Sort.TheVariants as sort
use Rattle.pd_kind.specs.declared.messages.Target.TheVariants as target
use Rattle.pd_object.specs.declared.row_names.Row.TheVariants as row
use Rattle.pd_kind.specs.declared.states.State.{State}
use Rattle.pd_kind.specs.declared.states.State.TheVariants as state
use Rattle.pd_kind.specs.Forming.{message_send}
use Rattle.pd_kind.specs.Messages.{sort_of}
use Rattle.pd_kind.specs.Rows.{Send}
use Rattle.pd_kind.specs.Said.{Said}
use Rattle.pd_glue.specs.Rows.{boxed}
use Rattle.pd_message.specs.declared.pieces.Receiver.{Receiver}
use Rattle.pd_message.specs.declared.pieces.Receiver.TheVariants as receiver
use Rattle.pd_message.specs.Rows.{Edited, is_called, grown, settled_atoms, edited, left_by_run, first_run, heard_as, message_row}
use Rattle.pd_message.specs.Texts.{Run, Filling, is_comma, is_semi, noted, with_send, missing_notices, with_atom, expanded_with, filled_with, delivered, ended, started, filled_run, piece_run, pieces_run, segment_run, receiver_at, received, named_run, named_runs, segments_run, text_run}
use Rattle.pd_message.proofs.TextLemmas.{extends_onward}
use Rattle.pd_guards.specs.Order.{HasFirst, IsAtom, AreAtoms, IsList, IsMessage, IsKept, IsTarget, IsSend, IsNotice, IsSaid, IsHearing}
use Rattle.pd_guards.proofs.FactLemmas.{either, either_by, all-append, all-map, all-weaker}
use Rattle.pd_guards.proofs.BaseLemmas.{silence, deafness, message_sent}
use Rattle.pd_guards.proofs.MoreLemmas.{longer, first_more, of_more, atom_more, atoms_more, list_more, target_more, said_more}
use Rattle.pd_guards.proofs.NameLemmas.{same_table, IsExpanded, expanded_in, settled_in}

onward : (a b c : Names) → Extends a b → Extends b c → Extends a c
onward a b c e f = extends_onward a b c e f

-- edits
record IsEdited (names : Names) (e : Edited) : Type 0 where
  text : IsList names e.text
  said : IsSaid names e.said

least_so : (m n : ℕ) → ltb m n ≡ false → n ≤ m
least_so m n h = grind (arith, nat_tests)

grown_in : (names : Names) (text more : List Atom) → IsList names text → AreAtoms names more → IsEdited names (grown text more)
grown_in names text more k h =
    either_by (IsEdited names) (nat_lt 1024 (length text + length more)) _ _
    (λ long. record { text = k; said = record { sends = tt; deed = tt; notices = (tt, tt) } })
    (λ short. record {
      text = record { few = omega (arith, least_so 1024 (length text + length more) short, length-append text more); all = all-append (IsAtom names) text more k.all h };
      said = record { sends = tt; deed = tt; notices = tt };
    })

settled_all : (names : Names) (atoms : List Atom) → AreAtoms names atoms → AreAtoms names (settled_atoms names atoms)
settled_all names atoms h = all-map (IsAtom names) (IsAtom names) (settled names) (settled_in names) atoms h

edited_in : (names : Names) → HasFirst names → (text : List Atom) (selector : ℕ) (atoms : List Atom) → IsList names text → IsMessage names selector atoms → IsEdited names (edited names text selector atoms)
edited_in names first text selector atoms k m =
    let P = IsEdited names in
    let h : AreAtoms names (settled_atoms names atoms) = settled_all names atoms m.list.all in
    let few : length atoms ≤ 1024 = m.list.few in
    either P (is_called names selector (codes "set")) _ _
    (record { text = record { few = omega (arith, length-map atoms (settled names)); all = h }; said = silence names first })
    (either P (is_called names selector (codes "add")) _ _ (grown_in names text (settled_atoms names atoms ++ atom.Semi ∷ []) k (all-append (IsAtom names) (settled_atoms names atoms) (atom.Semi ∷ []) h ((tt, tt), tt)))
    (either P (is_called names selector (codes "add2")) _ _ (grown_in names text (settled_atoms names atoms) k h)
    (either P (is_called names selector (codes "addcomma")) _ _ (grown_in names text (atom.Comma ∷ []) k ((tt, tt), tt))
    (either P (is_called names selector (codes "addsemi")) _ _ (grown_in names text (atom.Semi ∷ []) k ((tt, tt), tt))
    (record { text = k; said = deafness names first row.Message selector m.known })))))

-- the parts of a list
record IsPart (names : Names) (n : ℕ) (part : List Atom) : Type 0 where
  few : length part ≤ n
  all : AreAtoms names part

onto_in : (names : Names) (n : ℕ) (a : Atom) (parts : List (List Atom)) → IsAtom names a → AllByRecursion (IsPart names n) parts → AllByRecursion (IsPart names (suc n)) (onto_first a parts)
onto_in names n a [] h k = (record { few = omega arith; all = (h, tt) }, tt)
onto_in names n a (part ∷ parts) h k =
    let l : length part ≤ n = k.0.few in
    (record { few = omega arith; all = (h, k.0.all) }, all-weaker (IsPart names n) (IsPart names (suc n)) (λ p q. wider names n p q) parts k.1)
  where
    wider : (names : Names) (n : ℕ) (p : List Atom) → IsPart names n p → IsPart names (suc n) p
    wider names n p q = let l : length p ≤ n = q.few in record { few = omega arith; all = q.all }

split_in : (names : Names) (p : Atom → Bool) (xs : List Atom) → AreAtoms names xs → AllByRecursion (IsPart names (length xs)) (slice_split p xs)
split_in names p [] h = (record { few = omega arith; all = tt }, tt)
split_in names p (x ∷ xs) h =
    either (AllByRecursion (IsPart names (suc (length xs)))) (p x) ([] ∷ slice_split p xs) (onto_first x (slice_split p xs))
    (record { few = omega arith; all = tt }, all-weaker (IsPart names (length xs)) (IsPart names (suc (length xs))) (λ q k. wider names (length xs) q k) (slice_split p xs) (split_in names p xs h.1))
    (onto_in names (length xs) x (slice_split p xs) h.0 (split_in names p xs h.1))
  where
    wider : (names : Names) (n : ℕ) (p : List Atom) → IsPart names n p → IsPart names (suc n) p
    wider names n p q = let l : length p ≤ n = q.few in record { few = omega arith; all = q.all }

parts_in : (names : Names) (p : Atom → Bool) (xs : List Atom) → IsList names xs → AllByRecursion (IsList names) (slice_split p xs)
parts_in names p xs h =
    let few : length xs ≤ 1024 = h.few in
    all-weaker (IsPart names (length xs)) (IsList names) (λ (q : List Atom) (k : IsPart names (length xs) q). shorter names (length xs) few q k) (slice_split p xs) (split_in names p xs h.all)
  where
    shorter : (names : Names) (n : ℕ) → n ≤ 1024 → (q : List Atom) → IsPart names n q → IsList names q
    shorter names n few q k = let l : length q ≤ n = k.few in record { few = omega arith; all = k.all }

lists_more : (old new : Names) → length old ≤ length new → (lists : List (List Atom)) → AllByRecursion (IsList old) lists → AllByRecursion (IsList new) lists
lists_more old new l lists h = all-weaker (IsList old) (IsList new) (list_more old new l) lists h

-- what is noted and sent
missing_in : (names : Names) (o : Option ℕ) → AllByRecursion (IsNotice names) (missing_notices o)
missing_in names (Some n) = (tt, tt)
missing_in names None = tt

noted_in : (names : Names) (said : Said) (notices : List Notice) → IsSaid names said → AllByRecursion (IsNotice names) notices → IsSaid names (noted said notices)
noted_in names said notices h k = record { sends = h.sends; deed = h.deed; notices = all-append (IsNotice names) said.notices notices h.notices k }

with_send-in : (names : Names) (said : Said) (s : Send) → IsSaid names said → IsSend names s → IsSaid names (with_send said s)
with_send-in names said s h k = record { sends = all-append (IsSend names) said.sends (s ∷ []) h.sends (k, tt); deed = h.deed; notices = h.notices }

-- a run from a table on
record IsRun (names : Names) (r : Run) : Type 0 where
  extends : Extends names r.names
  said : IsSaid r.names r.said

-- a piece that is expanded so far, of which so many atoms are to come
record IsFilling (names : Names) (left : ℕ) (x : Filling) : Type 0 where
  extends : Extends names x.run.names
  said : IsSaid x.run.names x.run.said
  atoms : AreAtoms x.run.names x.atoms
  few : length x.atoms + left ≤ 1024

with_atom-in : (names : Names) (left : ℕ) (x : Filling) (ns : Names) (r : Result Expanded SymbolRefusal) → IsFilling names (suc left) x → Extends x.run.names ns → IfOk r (λ e. IsAtom ns e.atom) → IsFilling names left (with_atom x ns r)
with_atom-in names left x ns (Ok e) f x2 h =
    let l : length x.run.names ≤ length ns = longer x.run.names ns x2 in
    let few : length x.atoms + suc left ≤ 1024 = f.few in
    record {
      extends = onward names x.run.names ns f.extends x2;
      said = noted_in ns x.run.said (missing_notices e.missing) (said_more x.run.names ns l x.run.said f.said) (missing_in ns e.missing);
      atoms = all-append (IsAtom ns) x.atoms (e.atom ∷ []) (atoms_more x.run.names ns l x.atoms f.atoms) (h, tt);
      few = omega (arith, length-append x.atoms (e.atom ∷ []));
    }
with_atom-in names left x ns (Err r) f x2 h =
    let l : length x.run.names ≤ length ns = longer x.run.names ns x2 in
    let few : length x.atoms + suc left ≤ 1024 = f.few in
    record {
      extends = onward names x.run.names ns f.extends x2;
      said = said_more x.run.names ns l x.run.said f.said;
      atoms = atoms_more x.run.names ns l x.atoms f.atoms;
      few = omega arith;
    }

enough : (names : Names) (left : ℕ) (x : Filling) → IsFilling names left x → IsFilling names 0 x
enough names left x f = let few : length x.atoms + left ≤ 1024 = f.few in record { extends = f.extends; said = f.said; atoms = f.atoms; few = omega arith }

filled_in : (names : Names) (args : List Atom) → AreAtoms names args → (piece : List Atom) (x : Filling) → AreAtoms names piece → IsFilling names (length piece) x → IsFilling names 0 (filled_with args x piece)
filled_in names args g [] x h f = enough names 0 x f
filled_in names args g (a ∷ piece) x h f =
    let l : length names ≤ length x.run.names = longer names x.run.names f.extends in
    let o : IsExpanded x.run.names (expanded x.run.names a 0 args) = expanded_in x.run.names a args (atom_more names x.run.names l a h.0) (atoms_more names x.run.names l args g) in
    either (IsFilling names 0) x.fits (filled_with args (expanded_with args x a) piece) x
    (filled_in names args g piece (expanded_with args x a) h.1 (with_atom-in names (length piece) x _ _ f o.extends o.answer))
    (enough names (suc (length piece)) x f)

-- receivers
IsReceiver : Names → Receiver → Type 0
IsReceiver names (receiver.Known t) = IsTarget names t
IsReceiver names (receiver.Wrong a) = IsOf names a
IsReceiver names receiver.Full = Unit {0}

receiver_more : (old new : Names) → length old ≤ length new → (to : Receiver) → IsReceiver old to → IsReceiver new to
unfolding IsReceiver
receiver_more old new l (receiver.Known t) h = target_more old new l t h
receiver_more old new l (receiver.Wrong a) h = of_more old new l a h
receiver_more old new l receiver.Full h = tt

receiver_in : (names : Names) (a : Atom) → IsAtom names a → IsReceiver names (receiver_at a)
unfolding IsReceiver
receiver_in names (atom.Symbol s) h = h.0
receiver_in names (atom.Number z) h = h.0
receiver_in names (atom.Dollar n) h = h.0
receiver_in names (atom.DollarSymbol s) h = h.0
receiver_in names atom.Comma h = h.0
receiver_in names atom.Semi h = h.0

delivered_in : (names : Names) → HasFirst names → (to : Receiver) (said : Said) (atoms : List Atom) → IsReceiver names to → IsSaid names said → IsList names atoms → IsSaid names (delivered to said atoms)
unfolding IsReceiver
delivered_in names first (receiver.Known t) said atoms r h k = with_send-in names said (message_send t atoms) h (message_sent names first t atoms r k)
delivered_in names first (receiver.Wrong a) said atoms r h k = noted_in names said (NoReceiver a ∷ []) h (r, tt)
delivered_in names first receiver.Full said atoms r h k = noted_in names said (TableFull ∷ []) h (tt, tt)

full_in : (names : Names) (said : Said) → IsSaid names said → IsSaid names (noted said (TableFull ∷ []))
full_in names said h = noted_in names said (TableFull ∷ []) h (tt, tt)

module _ (names : Names) (first : HasFirst names) (args : List Atom) (given : AreAtoms names args) where
  ended_in : (to : Receiver) (x : Filling) → IsReceiver names to → IsFilling names 0 x → IsRun names (ended to x)
  ended_in to x r f =
      let ns = x.run.names in
      let l : length names ≤ length ns = longer names ns f.extends in
      let few : length x.atoms + 0 ≤ 1024 = f.few in
      record {
        extends = f.extends;
        said = either (IsSaid ns) x.fits _ _
            (delivered_in ns (first_more names ns l first) to x.run.said x.atoms (receiver_more names ns l to r) f.said (record { few = omega arith; all = f.atoms }))
            (full_in ns x.run.said f.said);
      }

  begun : (run : Run) (piece : List Atom) → IsRun names run → IsList names piece → IsFilling names (length piece) (started run)
  begun run piece h k = let few : length piece ≤ 1024 = k.few in record { extends = h.extends; said = h.said; atoms = tt; few = omega arith }

  filled_run-in : (to : Receiver) (run : Run) (piece : List Atom) → IsReceiver names to → IsRun names run → IsList names piece → IsRun names (filled_run args to run piece)
  filled_run-in receiver.Full run piece r h k = record { extends = h.extends; said = full_in run.names run.said h.said }
  filled_run-in (receiver.Known t) run piece r h k = ended_in (receiver.Known t) (filled_with args (started run) piece) r (filled_in names args given piece (started run) k.all (begun run piece h k))
  filled_run-in (receiver.Wrong a) run piece r h k = ended_in (receiver.Wrong a) (filled_with args (started run) piece) r (filled_in names args given piece (started run) k.all (begun run piece h k))

  piece_in : (to : Receiver) (run : Run) (piece : List Atom) → IsReceiver names to → IsRun names run → IsList names piece → IsRun names (piece_run args to run piece)
  piece_in to run [] r h k = h
  piece_in to run (a ∷ piece) r h k = filled_run-in to run (a ∷ piece) r h k

  pieces_in : (to : Receiver) (run : Run) (pieces : List (List Atom)) → IsReceiver names to → IsRun names run → AllByRecursion (IsList names) pieces → IsRun names (pieces_run args to run pieces)
  pieces_in to run [] r h k = h
  pieces_in to run (p ∷ pieces) r h k = pieces_in to (piece_run args to run p) pieces r (piece_in to run p r h k.0) k.1

  segment_in : (to : Receiver) (run : Run) (segment : List Atom) → IsReceiver names to → IsRun names run → IsList names segment → IsRun names (segment_run args to run segment)
  segment_in to run segment r h k = pieces_in to run (slice_split is_comma segment) r h (parts_in names is_comma segment k)

-- from a table on
further : (names ns : Names) (r : Run) → Extends names ns → IsRun ns r → IsRun names r
further names ns r x h = record { extends = onward names ns r.names x h.extends; said = h.said }

tail_in : (names : Names) (a : Atom) (atoms : List Atom) → IsList names (a ∷ atoms) → IsList names atoms
tail_in names a atoms h = let l : length (a ∷ atoms) ≤ 1024 = h.few in record { few = omega arith; all = h.all.1 }

received_in : (names : Names) → HasFirst names → (args : List Atom) → AreAtoms names args → (run : Run) (segment : List Atom) (ns : Names) (r : Result Expanded SymbolRefusal)
    → IsRun names run → IsList names segment → Extends run.names ns → IfOk r (λ e. IsAtom ns e.atom) → IsRun names (received args run segment ns r)
unfolding IsReceiver
received_in names first args given run segment ns (Ok e) h k x a =
    let whole : Extends names ns = onward names run.names ns h.extends x in
    let l : length names ≤ length ns = longer names ns whole in
    let next : Run = record { names = ns; said = noted run.said (missing_notices e.missing) } in
    let said : IsSaid ns (noted run.said (missing_notices e.missing)) = noted_in ns run.said (missing_notices e.missing) (said_more run.names ns (longer run.names ns x) run.said h.said) (missing_in ns e.missing) in
    further names ns (segment_run args (receiver_at e.atom) next segment) whole
    (segment_in ns (first_more names ns l first) args (atoms_more names ns l args given) (receiver_at e.atom) next segment (receiver_in ns e.atom a) (record { extends = same_table ns; said = said }) (list_more names ns l segment k))
received_in names first args given run segment ns (Err e) h k x a =
    let whole : Extends names ns = onward names run.names ns h.extends x in
    let l : length names ≤ length ns = longer names ns whole in
    let next : Run = record { names = ns; said = run.said } in
    let said : IsSaid ns run.said = said_more run.names ns (longer run.names ns x) run.said h.said in
    further names ns (segment_run args receiver.Full next segment) whole
    (segment_in ns (first_more names ns l first) args (atoms_more names ns l args given) receiver.Full next segment tt (record { extends = same_table ns; said = said }) (list_more names ns l segment k))

module _ (names : Names) (first : HasFirst names) (args : List Atom) (given : AreAtoms names args) where
  named_in : (run : Run) (segment : List Atom) → IsRun names run → IsList names segment → IsRun names (named_run args run segment)
  named_in run [] h k = h
  named_in run (a ∷ segment) h k =
      let l : length names ≤ length run.names = longer names run.names h.extends in
      let o : IsExpanded run.names (expanded run.names a 0 args) = expanded_in run.names a args (atom_more names run.names l a k.all.0) (atoms_more names run.names l args given) in
      received_in names first args given run segment _ _ h (tail_in names a segment k) o.extends o.answer

  named_all : (run : Run) (segments : List (List Atom)) → IsRun names run → AllByRecursion (IsList names) segments → IsRun names (named_runs args run segments)
  named_all run [] h k = h
  named_all run (s ∷ segments) h k = named_all (named_run args run s) segments (named_in run s h k.0) k.1

  segments_in : (run : Run) (segments : List (List Atom)) → IsRun names run → AllByRecursion (IsList names) segments → IsRun names (segments_run args run segments)
  unfolding IsReceiver
  segments_in run [] h k = h
  segments_in run (s ∷ segments) h k =
      let to = receiver.Known (target.Outlet 0) in
      named_all (segment_run args to run s) segments (segment_in names first args given to run s tt h k.0) k.1

  text_in : (run : Run) (text : List Atom) → IsRun names run → IsList names text → IsRun names (text_run args run text)
  text_in run text h k = segments_in run (slice_split is_semi text) h (parts_in names is_semi text k)

module _ (names : Names) (first : HasFirst names) (limit : ℕ) where
  run_in : (text atoms : List Atom) → IsList names text → AreAtoms names atoms → IsHearing names limit (boxed (left_by_run text (text_run atoms (first_run names) text)))
  run_in text atoms k h =
      let r = text_run atoms (first_run names) text in
      let i : IsRun names r = text_in names first atoms h (first_run names) text (record { extends = same_table names; said = silence names first }) k in
      record { extends = i.extends; kept = list_more names r.names (longer names r.names i.extends) text k; said = i.said }

  heard_in : (text : List Atom) (selector : ℕ) (atoms : List Atom) (s : Sort) → IsList names text → IsMessage names selector atoms → IsHearing names limit (boxed (heard_as names text selector atoms s))
  heard_in text selector atoms sort.Other k m =
      let e = edited_in names first text selector atoms k m in record { extends = same_table names; kept = e.text; said = e.said }
  heard_in text selector atoms sort.Bang k m = run_in text atoms k m.list.all
  heard_in text selector atoms (sort.Float z) k m = run_in text atoms k m.list.all
  heard_in text selector atoms (sort.Symbol s) k m = run_in text atoms k m.list.all
  heard_in text selector atoms sort.List k m = run_in text atoms k m.list.all

  pub box_in : (s : State) (selector : ℕ) (atoms : List Atom) → IsKept names limit s → IsMessage names selector atoms → IsHearing names limit (boxed (message_row names s selector atoms))
  unfolding message_row
  box_in (state.Message text) selector atoms k m = heard_in text selector atoms (sort_of selector atoms) k m
  box_in s selector atoms k m = record { extends = same_table names; kept = k; said = silence names first }
