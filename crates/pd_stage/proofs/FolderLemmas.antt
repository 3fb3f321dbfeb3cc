-- Edits by what a folder holds: what comes by a folder may come where that isn't told, and such edits join.
use Rattle.std.proofs.Common.{◌≡◌, inl, inr, ℕ, List, [], ◌∷◌, ◌++◌, map, refl, sym, ◌∙◌, ap, subst, Option, Some, None, Result, Ok, Err}
use Rattle.pd_io.specs.Rows.{KeptOrUntold}
use Rattle.pd_io.specs.declared.files.FileRow.{FileRow}
use Rattle.pd_atom.specs.declared.Atom.{Atom}
use Rattle.pd_canvas.specs.declared.edits.Edit.{Edit}
use Rattle.pd_canvas.specs.declared.edits.Edit.TheVariants as edit
use Rattle.pd_gather.specs.Gather.{Known}
use Rattle.pd_patch.specs.declared.patch.Patch.{Patch}
use Rattle.pd_wiring.specs.declared.refusals.EditRefusal.{EditRefusal}
use Rattle.pd_adding.specs.declared.counts.Counts.{Counts}
use Rattle.pd_adding.specs.Growing.{Added}
use Rattle.pd_adding.specs.Adding.{ComesTo}
use Rattle.pd_putting.specs.Adds as putting
use Rattle.pd_putting.specs.Adds.{AddsBoxBy, AddsBox, IsNotPutBy, IsNotPut}
use Rattle.pd_putting.specs.declared.adding.NewBox.{NewBox}
use Rattle.pd_retyping.specs.Retypes as retyping
use Rattle.pd_retyping.specs.Retypes.{RetypesToBy, RetypesTo, RetypesBoxBy, RetypesBox, IsNotYetBy, IsRefusedBy, IsRefused}
use Rattle.pd_retyping.specs.declared.retyping.RetypedBox.{RetypedBox}
use Rattle.pd_say.specs.declared.refusals.Why.{Why}
use Rattle.pd_say.specs.declared.refusals.Why.TheVariants as why
use Rattle.pd_hearing.specs.Worlds.{Net}
use Rattle.pd_stage.specs.Choices.{Wanted, Edits, Asks, Saves, Undoes, Redoes, Made, Choice, Refuses, Lacks, Makes}
use Rattle.pd_stage.specs.Stages.{Stage, Taken}
use Rattle.pd_stage.specs.Events.{put_of, files_put}
use Rattle.pd_stage.specs.Lawful.{IsPutInBy, IsPutIn, IsUnputBy, IsUnput, IsUnputForRoomBy, IsUnputForRoom, IsPutLawfulBy, IsPutLawful, IsRetypedToBy, IsRetypedTo, IsUnretypedBy, IsUnretyped, IsUnretypedForRoomBy, IsUnretypedForRoom, IsRetypingLawfulBy, IsRetypingLawful, IsEditLawfulBy, IsEditLawful, MayComeBy, MayCome, AreLawful, held_with, held_on, held_behind, GoByFolder}

-- ---- whatever the folder holds

abbrev comes_untold : (holds : Option (List FileRow)) (p : Patch) (n : Counts) (name path : List ℕ) (e : Edit) (k : Known) (r : Result Added EditRefusal)
    → ComesTo holds p n name path e k r → ComesTo None p n name path e k r
comes_untold holds p n name path e k r h = record { fetches = h.fetches; comes = h.comes; held = tt }

abbrev adds_untold : (holds : Option (List FileRow)) (old new : Patch) (n : Counts) (name path : List ℕ) (now : ℕ) (e : Edit) (k after : Known) (b : NewBox)
    → AddsBoxBy holds old new n name path now e k after b → AddsBox old new n name path now e k after b
adds_untold holds old new n name path now e k after b h = record {
  added = h.added;
  table = h.table;
  found = h.found;
  is_known = h.is_known;
  written = h.written;
  comes = comes_untold holds old n name path e k (Ok h.added) h.comes;
  files = h.files;
  grew = h.grew;
  put = h.put;
  canvas = h.canvas;
  counts = h.counts;
  known_is = h.known_is;
  table_after = h.table_after;
}

not_put_untold : (holds : Option (List FileRow)) (p : Patch) (n : Counts) (name path : List ℕ) (e : Edit) (k : Known) (cause : EditRefusal)
    → IsNotPutBy holds p n name path e k cause → IsNotPut p n name path e k cause
not_put_untold holds p n name path e k cause (inl h) = inl h
not_put_untold holds p n name path e k cause (inr (inl h)) = inr (inl h)
not_put_untold holds p n name path e k cause (inr (inr (inl h))) = inr (inr (inl (comes_untold holds p n name path e k (Err cause) h)))
not_put_untold holds p n name path e k cause (inr (inr (inr h))) = inr (inr (inr h))

put_untold : (holds : Option (List FileRow)) (s : Stage) (path : List ℕ) (e : Edit) (m : Made) → IsPutInBy holds s path e m → IsPutIn s path e m
put_untold holds s path e m h = record {
  old = h.old;
  new = h.new;
  after = h.after;
  box = h.box;
  stands = h.stands;
  adds = adds_untold holds h.old h.new s.base.counts s.file path s.time e _ h.after h.box h.adds;
  net = h.net;
  states = h.states;
  clocks = h.clocks;
  names = h.names;
  more = h.more;
  base = h.base;
  within = h.within;
  lines = h.lines;
  files = h.files;
  loads = h.loads;
  looks = h.looks;
}

unput_untold : (holds : Option (List FileRow)) (s : Stage) (path : List ℕ) (e : Edit) (reason : Why) → IsUnputBy holds s path e reason → IsUnput s path e reason
unput_untold holds s path e reason h = record {
  patch = h.patch;
  cause = h.cause;
  stands = h.stands;
  refused = not_put_untold holds h.patch s.base.counts s.file path e _ h.cause h.refused;
  reason_is = h.reason_is;
}

short_put_untold : (holds : Option (List FileRow)) (old new : Patch) (n : Counts) (name path : List ℕ) (e : Edit) (k : Known)
    → putting.IsShortOfRoomBy holds old new n name path e k → putting.IsShortOfRoom old new n name path e k
short_put_untold holds old new n name path e k h =
    record { added = h.added; comes = comes_untold holds old n name path e k (Ok h.added) h.comes; can_come = h.can_come; room = h.room; goes_on = h.goes_on }

unput_room_untold : (holds : Option (List FileRow)) (s : Stage) (path : List ℕ) (e : Edit) (net : Net) → IsUnputForRoomBy holds s path e net → IsUnputForRoom s path e net
unput_room_untold holds s path e net h =
    record { old = h.old; new = h.new; stands = h.stands; short = short_put_untold holds h.old h.new s.base.counts s.file path e _ h.short; net_is = h.net_is }

put_lawful_untold : (holds : Option (List FileRow)) (s : Stage) (path : List ℕ) (e : Edit) (c : Choice) → IsPutLawfulBy holds s path e c → IsPutLawful s path e c
put_lawful_untold holds s path e (Refuses reason) h = unput_untold holds s path e reason h
put_lawful_untold holds s path e (Lacks net) h = unput_room_untold holds s path e net h
put_lawful_untold holds s path e (Makes m) h = put_untold holds s path e m h

abbrev retypes_to_untold : (holds : Option (List FileRow)) (p : Patch) (n : Counts) (name path : List ℕ) (number : ℕ) (text : List Atom) (k : Known) (r : Result Added EditRefusal)
    → RetypesToBy holds p n name path number text k r → RetypesTo p n name path number text k r
retypes_to_untold holds p n name path number text k r h =
    record { canvas = h.canvas; key = h.key; node = h.node; chosen = h.chosen; comes = comes_untold holds p _ name path _ k r h.comes }

abbrev retypes_untold : (holds : Option (List FileRow)) (old new : Patch) (n : Counts) (name path : List ℕ) (number : ℕ) (text : List Atom) (now : ℕ) (k after : Known) (steps steps' : ℕ) (b : RetypedBox)
    → RetypesBoxBy holds old new n name path number text now k after steps steps' b → RetypesBox old new n name path number text now k after steps steps' b
retypes_untold holds old new n name path number text now k after steps steps' b h = record {
  node = h.node;
  chosen = h.chosen;
  is = h.is;
  entry = h.entry;
  new_entry = h.new_entry;
  same_head = h.same_head;
  same_entry = h.same_entry;
  table = h.table;
  found = h.found;
  is_known = h.is_known;
  written = h.written;
  added = h.added;
  comes = comes_untold holds old _ name path _ k (Ok h.added) h.comes;
  files = h.files;
  grew = h.grew;
  became = h.became;
  canvas = h.canvas;
  counts = h.counts;
  known_is = h.known_is;
  table_after = h.table_after;
}

not_yet_untold : (holds : Option (List FileRow)) (p : Patch) (n : Counts) (name path : List ℕ) (number : ℕ) (text : List Atom) (k : Known)
    → IsNotYetBy holds p n name path number text k → IsNotYetBy None p n name path number text k
not_yet_untold holds p n name path number text k h =
    record { added = h.added; comes = retypes_to_untold holds p n name path number text k (Ok h.added) h.comes; other = h.other; no_text = h.no_text }

refused_untold : (holds : Option (List FileRow)) (p : Patch) (n : Counts) (name path : List ℕ) (number : ℕ) (text : List Atom) (k : Known) (cause : EditRefusal)
    → IsRefusedBy holds p n name path number text k cause → IsRefused p n name path number text k cause
refused_untold holds p n name path number text k cause (inl h) = inl h
refused_untold holds p n name path number text k cause (inr (inl h)) = inr (inl h)
refused_untold holds p n name path number text k cause (inr (inr (inl h))) = inr (inr (inl h))
refused_untold holds p n name path number text k cause (inr (inr (inr (inl h)))) = inr (inr (inr (inl (retypes_to_untold holds p n name path number text k (Err cause) h))))
refused_untold holds p n name path number text k cause (inr (inr (inr (inr (why, inl h))))) = inr (inr (inr (inr (why, inl h))))
refused_untold holds p n name path number text k cause (inr (inr (inr (inr (why, inr h))))) = inr (inr (inr (inr (why, inr (not_yet_untold holds p n name path number text k h)))))

retyped_untold : (holds : Option (List FileRow)) (s : Stage) (path : List ℕ) (number : ℕ) (text : List Atom) (m : Made) → IsRetypedToBy holds s path number text m → IsRetypedTo s path number text m
retyped_untold holds s path number text m h = record {
  old = h.old;
  new = h.new;
  after = h.after;
  box = h.box;
  steps = h.steps;
  steps' = h.steps';
  stands = h.stands;
  retypes = retypes_untold holds h.old h.new s.base.counts s.file path number text s.time _ h.after h.steps h.steps' h.box h.retypes;
  net = h.net;
  states = h.states;
  clocks = h.clocks;
  names = h.names;
  more = h.more;
  base = h.base;
  within = h.within;
  lines = h.lines;
  files = h.files;
  loads = h.loads;
  looks = h.looks;
}

unretyped_untold : (holds : Option (List FileRow)) (s : Stage) (path : List ℕ) (number : ℕ) (text : List Atom) (reason : Why)
    → IsUnretypedBy holds s path number text reason → IsUnretyped s path number text reason
unretyped_untold holds s path number text reason h = record {
  patch = h.patch;
  cause = h.cause;
  stands = h.stands;
  refused = refused_untold holds h.patch s.base.counts s.file path number text _ h.cause h.refused;
  reason_is = h.reason_is;
}

short_retype_untold : (holds : Option (List FileRow)) (old new : Patch) (n : Counts) (name path : List ℕ) (number : ℕ) (text : List Atom) (k : Known)
    → retyping.IsShortOfRoomBy holds old new n name path number text k → retyping.IsShortOfRoom old new n name path number text k
short_retype_untold holds old new n name path number text k h =
    record { added = h.added; comes = retypes_to_untold holds old n name path number text k (Ok h.added) h.comes; can = h.can; room = h.room; goes_on = h.goes_on }

unretyped_room_untold : (holds : Option (List FileRow)) (s : Stage) (path : List ℕ) (number : ℕ) (text : List Atom) (net : Net)
    → IsUnretypedForRoomBy holds s path number text net → IsUnretypedForRoom s path number text net
unretyped_room_untold holds s path number text net h =
    record { old = h.old; new = h.new; stands = h.stands; short = short_retype_untold holds h.old h.new s.base.counts s.file path number text _ h.short; net_is = h.net_is }

retype_lawful_untold : (holds : Option (List FileRow)) (s : Stage) (path : List ℕ) (number : ℕ) (text : List Atom) (c : Choice)
    → IsRetypingLawfulBy holds s path number text c → IsRetypingLawful s path number text c
retype_lawful_untold holds s path number text (Refuses reason) h = unretyped_untold holds s path number text reason h
retype_lawful_untold holds s path number text (Lacks net) h = unretyped_room_untold holds s path number text net h
retype_lawful_untold holds s path number text (Makes m) h = retyped_untold holds s path number text m h

edit_untold : (holds : Option (List FileRow)) (s : Stage) (path : List ℕ) (e : Edit) (c : Choice) → IsEditLawfulBy holds s path e c → IsEditLawful s path e c
edit_untold holds s path (edit.Connect v) c h = h
edit_untold holds s path (edit.Disconnect v) c h = h
edit_untold holds s path (edit.Delete number) c h = h
edit_untold holds s path (edit.Retype number text) c h = retype_lawful_untold holds s path number text c h
edit_untold holds s path (edit.Move number x y) c h = h
edit_untold holds s path (edit.Obj x y text) c h = put_lawful_untold holds s path (edit.Obj x y text) c h
edit_untold holds s path (edit.Msg x y text) c h = put_lawful_untold holds s path (edit.Msg x y text) c h
edit_untold holds s path (edit.Comment x y text) c h = put_lawful_untold holds s path (edit.Comment x y text) c h
edit_untold holds s path (edit.FloatBox x y text) c h = put_lawful_untold holds s path (edit.FloatBox x y text) c h
edit_untold holds s path (edit.SymbolBox x y text) c h = put_lawful_untold holds s path (edit.SymbolBox x y text) c h
edit_untold holds s path (edit.Sub x y name) c h = put_lawful_untold holds s path (edit.Sub x y name) c h

-- what may come by a folder may come where it isn't told
pub may_untold : (holds : Option (List FileRow)) (wanted : Wanted) (s : Stage) (c : Choice) → MayComeBy holds wanted s c → MayCome wanted s c
may_untold holds (Edits None path e) s c h = edit_untold holds s path e c h
may_untold holds (Edits (Some document) path e) s c h = h
may_untold holds (Asks path e) s c h = edit_untold holds s path e c h
may_untold holds (Saves None) s c h = h
may_untold holds (Saves (Some document)) s c h = h
may_untold holds Undoes s c h = h
may_untold holds Redoes s c h = h

-- each edit that goes by a folder is lawful
pub go_lawful : (held : Option (List FileRow)) (edits : List Taken) → GoByFolder held edits → AreLawful edits
go_lawful held [] h = tt
go_lawful held (t ∷ edits) h = (may_untold held t.wanted t.found t.choice h.0, go_lawful (held_on t.wanted t.choice held) edits h.1)

-- ---- a folder that isn't told

with_none : (files : List (List ℕ × List ℕ)) → held_with files None ≡ None
with_none [] = refl
with_none (file ∷ files) = with_none files

failing_none : (wanted : Wanted) (reason : Why) → held_on wanted (Refuses reason) None ≡ None
failing_none (Edits document path e) reason = refl
failing_none (Asks path e) reason = refl
failing_none (Saves document) why.NothingToUndo = refl
failing_none (Saves document) why.NothingToRedo = refl
failing_none (Saves document) why.NoDocument = refl
failing_none (Saves document) why.NoCanvas = refl
failing_none (Saves document) (why.NoBox number) = refl
failing_none (Saves document) (why.NoPort number port outlet) = refl
failing_none (Saves document) why.NoWire = refl
failing_none (Saves document) why.SignalIntoControl = refl
failing_none (Saves document) why.TextTooLong = refl
failing_none (Saves document) why.TooDeep = refl
failing_none (Saves document) why.ShelfFault = refl
failing_none (Saves document) why.SymbolsFull = refl
failing_none (Saves document) why.TooManyBoxes = refl
failing_none (Saves document) why.TooManyWires = refl
failing_none (Saves document) why.TooMuchSound = refl
failing_none (Saves document) why.NoMemory = refl
failing_none Undoes reason = refl
failing_none Redoes reason = refl

on_none : (wanted : Wanted) (c : Choice) → held_on wanted c None ≡ None
on_none wanted (Refuses reason) = failing_none wanted reason
on_none wanted (Lacks net) = refl
on_none wanted (Makes m) = with_none m.files

pub behind_none : (edits : List Taken) → held_behind edits None ≡ None
behind_none [] = refl
behind_none (t ∷ edits) = ap (held_behind edits) (on_none t.wanted t.choice) ∙ behind_none edits

-- an edit that puts no file leaves what the folder holds, but a save that it failed to take, behind which it isn't told
failing_leaves : (wanted : Wanted) (reason : Why) (held : Option (List FileRow)) → KeptOrUntold held (held_on wanted (Refuses reason) held)
failing_leaves (Edits document path e) reason held = inl refl
failing_leaves (Asks path e) reason held = inl refl
failing_leaves (Saves document) why.NothingToUndo held = inl refl
failing_leaves (Saves document) why.NothingToRedo held = inl refl
failing_leaves (Saves document) why.NoDocument held = inl refl
failing_leaves (Saves document) why.NoCanvas held = inl refl
failing_leaves (Saves document) (why.NoBox number) held = inl refl
failing_leaves (Saves document) (why.NoPort number port outlet) held = inl refl
failing_leaves (Saves document) why.NoWire held = inl refl
failing_leaves (Saves document) why.SignalIntoControl held = inl refl
failing_leaves (Saves document) why.TextTooLong held = inl refl
failing_leaves (Saves document) why.TooDeep held = inl refl
failing_leaves (Saves document) why.ShelfFault held = inr refl
failing_leaves (Saves document) why.SymbolsFull held = inl refl
failing_leaves (Saves document) why.TooManyBoxes held = inl refl
failing_leaves (Saves document) why.TooManyWires held = inl refl
failing_leaves (Saves document) why.TooMuchSound held = inl refl
failing_leaves (Saves document) why.NoMemory held = inl refl
failing_leaves Undoes reason held = inl refl
failing_leaves Redoes reason held = inl refl

none_with : (files : List (List ℕ × List ℕ)) (held : Option (List FileRow)) → map put_of files ≡ [] → KeptOrUntold held (held_with files held)
none_with [] held e = inl refl
none_with (file ∷ files) held e = absurd (cc)

none_put : (wanted : Wanted) (c : Choice) (held : Option (List FileRow)) → files_put c ≡ [] → KeptOrUntold held (held_on wanted c held)
none_put wanted (Refuses reason) held e = failing_leaves wanted reason held
none_put wanted (Lacks net) held e = inl refl
none_put wanted (Makes m) held e = none_with m.files held e

pub none_leaves : (wanted : Wanted) (c : Choice) (held held' : Option (List FileRow)) → files_put c ≡ [] → held' ≡ held → KeptOrUntold held' (held_on wanted c held)
none_leaves wanted c held held' e same = subst (λ (o : Option (List FileRow)). KeptOrUntold o (held_on wanted c held)) (sym same) (none_put wanted c held e)

-- what goes by a folder goes where it isn't told
pub go_untold : (held : Option (List FileRow)) (edits : List Taken) → GoByFolder held edits → GoByFolder None edits
go_untold held [] h = tt
go_untold held (t ∷ edits) h = (
  may_untold held t.wanted t.found t.choice h.0,
  subst (λ (o : Option (List FileRow)). GoByFolder o edits) (sym (on_none t.wanted t.choice)) (go_untold (held_on t.wanted t.choice held) edits h.1),
)

-- ---- some edits, and then others

pub behind-append : (a b : List Taken) (held : Option (List FileRow)) → held_behind (a ++ b) held ≡ held_behind b (held_behind a held)
behind-append [] b held = refl
behind-append (t ∷ a) b held = behind-append a b (held_on t.wanted t.choice held)

leaves_then : (x y z : Option (List FileRow)) (a b : List Taken) → held_behind a x ≡ y → KeptOrUntold z (held_behind b y) → KeptOrUntold z (held_behind (a ++ b) x)
leaves_then x y z a b e k = subst (λ (o : Option (List FileRow)). KeptOrUntold z o) (sym (behind-append a b x ∙ ap (held_behind b) e)) k

-- what some leave is what others find
pub leaves_on : (x y z : Option (List FileRow)) (a b : List Taken) → KeptOrUntold y (held_behind a x) → KeptOrUntold z (held_behind b y) → KeptOrUntold z (held_behind (a ++ b) x)
leaves_on x y z a b (inl e) k = leaves_then x y z a b e k
leaves_on x y z a b (inr e) k = inr (behind-append a b x ∙ ap (held_behind b) e ∙ behind_none b)

go_on : (held held' : Option (List FileRow)) (edits : List Taken) → KeptOrUntold held' held → GoByFolder held' edits → GoByFolder held edits
go_on held held' edits (inl e) h = subst (λ (o : Option (List FileRow)). GoByFolder o edits) (sym e) h
go_on held held' edits (inr e) h = subst (λ (o : Option (List FileRow)). GoByFolder o edits) (sym e) (go_untold held' edits h)

-- some went by a folder, and others by what they left in it
pub folder_both : (held held' : Option (List FileRow)) (a b : List Taken) → KeptOrUntold held' (held_behind a held) → GoByFolder held a → GoByFolder held' b → GoByFolder held (a ++ b)
folder_both held held' [] b k h g = go_on held held' b k g
folder_both held held' (t ∷ a) b k h g = (h.0, folder_both (held_on t.wanted t.choice held) held' a b k h.1 g)

-- of two lists that go by a folder together, the first does, and the second by what the first leaves
pub folder_first : (held : Option (List FileRow)) (a b : List Taken) → GoByFolder held (a ++ b) → GoByFolder held a
folder_first held [] b h = tt
folder_first held (t ∷ a) b h = (h.0, folder_first (held_on t.wanted t.choice held) a b h.1)

pub folder_second : (held : Option (List FileRow)) (a b : List Taken) → GoByFolder held (a ++ b) → GoByFolder (held_behind a held) b
folder_second held [] b h = h
folder_second held (t ∷ a) b h = folder_second (held_on t.wanted t.choice held) a b h.1
