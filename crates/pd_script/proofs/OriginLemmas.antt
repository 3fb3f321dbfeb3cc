-- A record that is read leaves a table of names that goes on, and a message is read of the tokens behind its word.
use Rattle.std.proofs.Common.{◌≡◌, ℕ, ℤ, Bool, true, false, cond, if◌then◌else◌, nat_lt, position, bytes_eq, List, [], ◌∷◌, ◌++◌, length, Option, Some, None, IfSome, Result, Ok, Err, refl, sym, subst}
use Rattle.std.specs.List.{list_all, list_any}
use Rattle.pd_atom.specs.Names.{Names, Extends, Outcome, longest, most, given, refused, placed, interned}
use Rattle.pd_atom.specs.Tokens.{nameless, atom_read}
use Rattle.pd_atom.specs.declared.Atom.{Atom}
use Rattle.pd_atom.specs.declared.SymbolRefusal.{SymbolRefusal}
use Rattle.pd_atom.specs.declared.SymbolRefusal.TheVariants.{TooLong, Full}
use Rattle.pd_atom.proofs.TokenLemmas.{by_option, atom_read_some, atom_read_none}
use Rattle.pd_canvas.specs.declared.edits.Edit.{Edit}
use Rattle.pd_canvas.specs.declared.edits.Edit.TheVariants as edit
use Rattle.pd_script.specs.declared.changes.BoxVerb.{BoxVerb}
use Rattle.pd_script.specs.declared.changes.Verb.{Verb}
use Rattle.pd_script.specs.declared.changes.Verb.TheVariants as verb
use Rattle.pd_script.specs.declared.commands.Command.{Command}
use Rattle.pd_script.specs.declared.commands.Command.TheVariants as command
use Rattle.pd_script.specs.declared.commands.Script.{Script}
use Rattle.pd_script.specs.declared.commands.Script.TheVariants as script
use Rattle.pd_script.specs.declared.reading.Word.{Word}
use Rattle.pd_script.specs.declared.reading.Word.TheVariants as word
use Rattle.pd_script.specs.Options.{◌>>=◌}
use Rattle.pd_script.specs.Tokens.{is_long, is_empty, only}
use Rattle.pd_script.specs.Fields.{milliseconds_of, path_of, number_first, whole_first}
use Rattle.pd_script.specs.Atoms.{answered, atom_of, atoms_of, is_plain, symbol_in, symbol_of, document_of}
use Rattle.pd_script.specs.Changes.{verb_of, made_box, new_box, wire_of, delete_of, move_of, retype_of, nameless as without_names, change_of}
use Rattle.pd_script.specs.Scripts.{word_of, send_of, edit_in, edit_of, save_of, show_of, run_of, run_with, script_of, timed_of, command_of}
use Rattle.pd_script.specs.Origins.{CommandFrom, ScriptFrom}
use Rattle.pd_script.proofs.AtomLemmas.{extends_same, extends_on}

-- what is read goes with a table that goes on
record Brings {A : Type 0} (P : Names → A → Type 0) (names : Names) (o : Option (A × Names)) : Type 0 where
  is : IfSome o (λ x. Extends names x.1 × P x.1 x.0)

abbrev Any : {A : Type 0} → Names → A → Type 0
Any names a = Unit {0}

none : {A : Type 0} (P : Names → A → Type 0) (names : Names) → Brings P names None
none P names = record { is = tt }

onward : {A : Type 0} (P : Names → A → Type 0) (names more : Names) (o : Option (A × Names)) → Extends names more → Brings P more o → Brings P names o
onward P names more None e h = record { is = tt }
onward P names more (Some x) e h = record { is = (extends_on names more x.1 e h.is.0, h.is.1) }

-- one step and another, where the first brings names, and where it doesn't
after : {A B : Type 0} (P : Names → B → Type 0) (names : Names) (o : Option (A × Names)) (f : A × Names → Option (B × Names)) → Brings Any names o
    → ((x : A × Names) → Brings P x.1 (f x)) → Brings P names (o >>= f)
after P names None f h k = record { is = tt }
after P names (Some x) f h k = onward P names x.1 (f x) h.is.0 (k x)

beside : {A B : Type 0} (P : Names → B → Type 0) (names : Names) (o : Option A) (f : A → Option (B × Names)) → ((x : A) → Brings P names (f x)) → Brings P names (o >>= f)
beside P names None f k = record { is = tt }
beside P names (Some x) f k = k x

if_brings : {A : Type 0} (P : Names → A → Type 0) (names : Names) (b : Bool) (o q : Option (A × Names)) → Brings P names o → Brings P names q → Brings P names (if b then o else q)
if_brings P names true o q h k = h
if_brings P names false o q h k = k

same : {A : Type 0} (P : Names → A → Type 0) (names : Names) (a : A) → P names a → Brings P names (Some (a, names))
same P names a h = record { is = (extends_same names, h) }

-- atoms
placed_extends : (names : Names) (name : List ℕ) (o : Option ℕ) → Extends names (placed names name o).names
placed_extends names name (Some s) = extends_same names
placed_extends names name None = by_room (nat_lt (length names) most)
  where
    by_room : (b : Bool) → Extends names (cond b (given (length names) (names ++ name ∷ [])) (refused Full names)).names
    by_room true = (name ∷ [], refl)
    by_room false = extends_same names

interned_extends : (names : Names) (name : List ℕ) → Extends names (interned names name).names
unfolding interned
interned_extends names name = by_length (nat_lt longest (length name))
  where
    by_length : (b : Bool) → Extends names (cond b (refused TooLong names) (placed names name (position (bytes_eq name) names))).names
    by_length true = extends_same names
    by_length false = placed_extends names name (position (bytes_eq name) names)

read_extends : (names : Names) (token : List ℕ) → Extends names (atom_read names token).names
read_extends names token =
    by_option (nameless token)
    (λ none. subst (λ (o : Outcome Atom). Extends names o.names) (sym (atom_read_none names token none)) (interned_extends names token))
    (λ b some. subst (λ (o : Outcome Atom). Extends names o.names) (sym (atom_read_some names token b some)) (extends_same names))

answered_brings : (names more : Names) (r : Result Atom SymbolRefusal) → Extends names more → Brings Any names (answered more r)
answered_brings names more (Ok a) e = record { is = (e, tt) }
answered_brings names more (Err x) e = record { is = tt }

atom_brings : (names : Names) (token : List ℕ) → Brings Any names (atom_of names token)
unfolding atom_of
atom_brings names token = answered_brings names (atom_read names token).names (atom_read names token).answer (read_extends names token)

atoms_bring : (ts : List (List ℕ)) (names : Names) → Brings Any names (atoms_of names ts)
unfolding atoms_of
atoms_bring [] names = same Any names [] tt
atoms_bring (t ∷ ts) names =
    after {A = Atom} {B = List Atom} Any names (atom_of names t) (λ a. atoms_of a.1 ts >>= (λ rest. Some (a.0 ∷ rest.0, rest.1))) (atom_brings names t)
    (λ a. after {A = List Atom} {B = List Atom} Any a.1 (atoms_of a.1 ts) (λ rest. Some (a.0 ∷ rest.0, rest.1)) (atoms_bring ts a.1)
    (λ rest. same Any rest.1 (a.0 ∷ rest.0) tt))

symbol_brings : (names : Names) (token : List ℕ) → Brings Any names (symbol_of names token)
symbol_brings names token =
    after {A = Atom} {B = ℕ} Any names (atom_of names token) (λ a. symbol_in a.0 >>= (λ s. Some (s, a.1))) (atom_brings names token)
    (λ a. beside {A = ℕ} {B = ℕ} Any a.1 (symbol_in a.0) (λ s. Some (s, a.1)) (λ s. same Any a.1 s tt))

document_brings : (names : Names) (token : List ℕ) → Brings Any names (document_of names token)
document_brings names token =
    if_brings {A = Option ℕ} Any names (bytes_eq token (46 ∷ [])) (Some (None, names)) (symbol_of names token >>= (λ s. Some (Some s.0, s.1)))
    (same Any names None tt)
    (after {A = ℕ} {B = Option ℕ} Any names (symbol_of names token) (λ s. Some (Some s.0, s.1)) (symbol_brings names token) (λ s. same Any s.1 (Some s.0) tt))

-- edits
box_brings : (s : BoxVerb) (names : Names) (ts : List (List ℕ)) → Brings Any names (new_box s names ts)
unfolding new_box
box_brings s names ts =
    beside {A = ℤ × List (List ℕ)} {B = Edit} Any names (number_first ts) (λ x. number_first x.1 >>= (λ y. atoms_of names y.1 >>= (λ a. Some (made_box s x.0 y.0 a.0, a.1))))
    (λ x. beside {A = ℤ × List (List ℕ)} {B = Edit} Any names (number_first x.1) (λ y. atoms_of names y.1 >>= (λ a. Some (made_box s x.0 y.0 a.0, a.1)))
    (λ y. after {A = List Atom} {B = Edit} Any names (atoms_of names y.1) (λ a. Some (made_box s x.0 y.0 a.0, a.1)) (atoms_bring y.1 names)
    (λ a. same Any a.1 (made_box s x.0 y.0 a.0) tt)))

retype_brings : (names : Names) (ts : List (List ℕ)) → Brings Any names (retype_of names ts)
unfolding retype_of
retype_brings names ts =
    beside {A = ℕ × List (List ℕ)} {B = Edit} Any names (whole_first ts) (λ n. atoms_of names n.1 >>= (λ a. Some (edit.Retype n.0 a.0, a.1)))
    (λ n. after {A = List Atom} {B = Edit} Any names (atoms_of names n.1) (λ a. Some (edit.Retype n.0 a.0, a.1)) (atoms_bring n.1 names)
    (λ a. same Any a.1 (edit.Retype n.0 a.0) tt))

plain_brings : (names : Names) (e : Option Edit) → Brings Any names (without_names names e)
plain_brings names e = beside {A = Edit} {B = Edit} Any names e (λ x. Some (x, names)) (λ x. same Any names x tt)

change_brings : (v : Verb) (names : Names) (ts : List (List ℕ)) → Brings Any names (change_of v names ts)
unfolding change_of
change_brings (verb.Box s) names ts = box_brings s names ts
change_brings verb.Connect names ts = plain_brings names (wire_of ts >>= (λ w. Some (edit.Connect w)))
change_brings verb.Disconnect names ts = plain_brings names (wire_of ts >>= (λ w. Some (edit.Disconnect w)))
change_brings verb.Delete names ts = plain_brings names (delete_of ts)
change_brings verb.Move names ts = plain_brings names (move_of ts)
change_brings verb.Retype names ts = retype_brings names ts

-- commands
module _ (first : Names) where
  abbrev Comes : Names → Command → Type 0
  Comes names c = CommandFrom first names c

  abbrev Reads : Names → Script → Type 0
  Reads names s = ScriptFrom first names s

  edited : (document : Option ℕ) (names : Names) (ts : List (List ℕ)) → Brings Comes names (edit_in document names ts)
  unfolding edit_in
  edited document names [] = none Comes names
  edited document names (path ∷ []) = none Comes names
  edited document names (path ∷ w ∷ ts) =
      beside {A = List ℕ} {B = Command} Comes names (path_of path)
      (λ p. verb_of w >>= (λ v. change_of v names ts >>= (λ e. Some (command.Edit (record { document = document; path = p }) e.0, e.1))))
      (λ p. beside {A = Verb} {B = Command} Comes names (verb_of w)
      (λ v. change_of v names ts >>= (λ e. Some (command.Edit (record { document = document; path = p }) e.0, e.1)))
      (λ v. after {A = Edit} {B = Command} Comes names (change_of v names ts) (λ e. Some (command.Edit (record { document = document; path = p }) e.0, e.1))
      (change_brings v names ts) (λ e. same Comes e.1 (command.Edit (record { document = document; path = p }) e.0) tt)))

  edit_brings : (names : Names) (ts : List (List ℕ)) → Brings Comes names (edit_of names ts)
  unfolding edit_of
  edit_brings names [] = none Comes names
  edit_brings names (doc ∷ ts) =
      after {A = Option ℕ} {B = Command} Comes names (document_of names doc) (λ d. edit_in d.0 d.1 ts) (document_brings names doc) (λ d. edited d.0 d.1 ts)

  only_brings : {A : Type 0} (P : Names → A → Type 0) (names : Names) (ts : List (List ℕ)) (a : A) → P names a → Brings P names (only ts (a, names))
  only_brings P names ts a h = if_brings P names (is_empty ts) (Some (a, names)) None (same P names a h) (none P names)

  save_brings : (names : Names) (ts : List (List ℕ)) → Brings Comes names (save_of names ts)
  unfolding save_of
  save_brings names [] = none Comes names
  save_brings names (doc ∷ ts) =
      after {A = Option ℕ} {B = Command} Comes names (document_of names doc) (λ d. only ts (command.Save d.0, d.1)) (document_brings names doc)
      (λ d. only_brings Comes d.1 ts (command.Save d.0) tt)

  sent_brings : (names : Names) (ts : List (List ℕ)) → Brings Any names (send_of names ts)
  unfolding send_of
  sent_brings names [] = none Any names
  sent_brings names (name ∷ ts) =
      after {A = ℕ} {B = Command} Any names (symbol_of names name) (λ s. atoms_of s.1 ts >>= (λ a. if list_all is_plain a.0 then Some (command.Send s.0 a.0, a.1) else None))
      (symbol_brings names name)
      (λ s. after {A = List Atom} {B = Command} Any s.1 (atoms_of s.1 ts) (λ a. if list_all is_plain a.0 then Some (command.Send s.0 a.0, a.1) else None) (atoms_bring ts s.1)
      (λ a. if_brings {A = Command} Any a.1 (list_all is_plain a.0) (Some (command.Send s.0 a.0, a.1)) None (same Any a.1 (command.Send s.0 a.0) tt) (none Any a.1)))

  sent_from : (ts : List (List ℕ)) (c : Command) (more : Names) → send_of first ts ≡ Some (c, more) → Comes more c
  sent_from ts (command.Send s atoms) more e = (ts, e)
  sent_from ts (command.Edit place x) more e = tt
  sent_from ts (command.Save document) more e = tt
  sent_from ts (command.Show path) more e = tt
  sent_from ts command.Undo more e = tt
  sent_from ts command.Redo more e = tt

  sent_both : (ts : List (List ℕ)) (o : Option (Command × Names)) → send_of first ts ≡ o → Brings Any first o → Brings Comes first o
  sent_both ts None e h = record { is = tt }
  sent_both ts (Some x) e h = record { is = (h.is.0, sent_from ts x.0 x.1 e) }

  -- what a word and the tokens behind it give
  run_brings : (names : Names) (o : Option (Command × Names)) → Brings Comes names o → Brings Reads names (run_of o)
  run_brings names None h = record { is = tt }
  run_brings names (Some x) h = record { is = h.is }

  shown_if : (names : Names) (b : Bool) (p : List ℕ) → Brings Reads names (run_with names (if b then Some (command.Show p) else None))
  shown_if names true p = same Reads names (script.Run (command.Show p)) tt
  shown_if names false p = none Reads names

  shown : (names : Names) (ts : List (List ℕ)) (o : Option (List ℕ)) → Brings Reads names (run_with names (o >>= (λ p. only ts (command.Show p))))
  shown names ts None = none Reads names
  shown names ts (Some p) = shown_if names (is_empty ts) p

  show_brings : (names : Names) (ts : List (List ℕ)) → Brings Reads names (run_with names (show_of ts))
  unfolding show_of
  show_brings names [] = none Reads names
  show_brings names (path ∷ ts) = shown names ts (path_of path)

  script_brings : (w : Word) (ts : List (List ℕ)) → Brings Reads first (script_of w first ts)
  unfolding script_of
  script_brings word.Send ts = run_brings first (send_of first ts) (sent_both ts (send_of first ts) refl (sent_brings first ts))
  script_brings word.Edit ts = run_brings first (edit_of first ts) (edit_brings first ts)
  script_brings word.Save ts = run_brings first (save_of first ts) (save_brings first ts)
  script_brings word.Show ts = show_brings first ts
  script_brings word.Undo ts = only_brings Reads first ts (script.Run command.Undo) tt
  script_brings word.Redo ts = only_brings Reads first ts (script.Run command.Redo) tt
  script_brings word.End ts = only_brings Reads first ts script.End tt

  -- with its time
  record BringsTimed (o : Option (ℤ × Script × Names)) : Type 0 where
    is : IfSome o (λ r. Extends first r.2 × Reads r.2 r.1)

  timed_by : (z : ℤ) (o : Option (Script × Names)) → Brings Reads first o → BringsTimed (o >>= (λ s. Some (z, s.0, s.1)))
  timed_by z None h = record { is = tt }
  timed_by z (Some s) h = record { is = h.is }

  word_by : (z : ℤ) (ts : List (List ℕ)) (o : Option Word) → BringsTimed (o >>= (λ k. script_of k first ts >>= (λ s. Some (z, s.0, s.1))))
  word_by z ts None = record { is = tt }
  word_by z ts (Some w) = timed_by z (script_of w first ts) (script_brings w ts)

  time_by : (w : List ℕ) (ts : List (List ℕ)) (o : Option ℤ) → BringsTimed (o >>= (λ z. word_of w >>= (λ k. script_of k first ts >>= (λ s. Some (z, s.0, s.1)))))
  time_by w ts None = record { is = tt }
  time_by w ts (Some z) = word_by z ts (word_of w)

  timed_brings : (ts : List (List ℕ)) → BringsTimed (timed_of first ts)
  unfolding timed_of
  timed_brings [] = record { is = tt }
  timed_brings (ms ∷ []) = record { is = tt }
  timed_brings (ms ∷ w ∷ ts) = time_by w ts (milliseconds_of ms)

  long_or : (b : Bool) (o : Option (ℤ × Script × Names)) → BringsTimed o → BringsTimed (if b then None else o)
  long_or true o h = record { is = tt }
  long_or false o h = h

  command_brings : (ts : List (List ℕ)) → BringsTimed (command_of first ts)
  unfolding command_of
  command_brings ts = long_or (list_any is_long ts) (timed_of first ts) (timed_brings ts)

  pub read_from : (more : Names) (ts : List (List ℕ)) (z : ℤ) (s : Script) → command_of first ts ≡ Some (z, s, more) → Extends first more × Reads more s
  read_from more ts z s e =
      let b : BringsTimed (command_of first ts) = command_brings ts in
      subst (λ (o : Option (ℤ × Script × Names)). IfSome o (λ r. Extends first r.2 × Reads r.2 r.1)) e b.is
