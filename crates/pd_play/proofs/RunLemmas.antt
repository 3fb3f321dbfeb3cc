-- Parts of a run, and the run that begins with them.
use Rattle.std.proofs.Common.{◌≡◌, ◌≤◌, ◌⊎◌, inl, inr, ℕ, ◌+◌, ◌==◌, ℤ, Bool, true, false, List, [], ◌++◌, length, Option, Some, None, refl, sym, ap, ◌∙◌, subst, append_assoc}
use Rattle.std.proofs.lemmas.List.{append-nil}
use Rattle.std.specs.Prelude.{if◌then◌else◌}
use Rattle.pd_io.specs.Faults.{Rose}
use Rattle.pd_io.specs.Stream.{with_front}
use Rattle.pd_atom.specs.Names.{Names}
use Rattle.pd_feed.specs.Script.{is_shown, fed_of}
use Rattle.pd_feed.specs.Feed.{Feed, IsAtEnd, Feeds, Waits, script_ahead}
use Rattle.pd_feed.specs.declared.feed.Fed.{Fed}
use Rattle.pd_feed.specs.declared.feed.Fed.TheVariants as fed
use Rattle.pd_script.specs.Tokens.{tokens_of}
use Rattle.pd_script.specs.Scripts.{command_of}
use Rattle.pd_script.specs.declared.commands.Script.{Script}
use Rattle.pd_stage.specs.Items.{Item}
use Rattle.pd_stage.specs.Choices.{Choice}
use Rattle.pd_stage.specs.Stages.{Stage, Taken, choices_of, Passage, with_names, still, after}
use Rattle.pd_stage.specs.Leads.{Sinks, Took, Begins, Comes, Stops}
use Rattle.pd_stage.proofs.LeadLemmas.{lawful_both, took_then, choices-more, after-after, after-joined, begins_after, begins_more}
use Rattle.pd_play.specs.declared.status.Status.{Status}
use Rattle.pd_play.specs.declared.status.Status.TheVariants.{Done, ScriptBad, ReadFault, WriteFault}
use Rattle.pd_play.specs.Runs.{Point, Run, Ending, Whole, Broken, at_stage, counted, ended, bad, done, behind, run_after, goes_on, read_run, timed_run, millionths, record_run, end_run, run_of, MeetsEnd}
use Rattle.pd_play.specs.Playing.{Plays, Part, GoesOn, IsPlayed, Leads, fed_run, ahead, Moves, EndsBy, Ends, Steps}
use Rattle.pd_play.proofs.CauseLemmas.{rose_on}
use Rattle.pd_play.proofs.TookLemmas.{took_nothing, folder_on, without_looks, took_without}
use Rattle.pd_play.proofs.AheadLemmas.{told, told_is, record_ahead, too_long_ahead, end_ahead, unfinished_ahead, waits_ahead}

-- ---- what was played of a run

-- what was played to a run's end without a fault has the run's status
pub done_is : (run : Run) (edits : List Taken) (status : Status) (x y : Sinks) → Plays run edits status x y → status ≡ Done → run.status ≡ Done
done_is run edits status x y (inl h) e = sym h.status_is ∙ e
done_is run edits status x y (inr h) e = let no : WriteFault ≡ Done = sym h.status_is ∙ e in absurd (cc)

-- the run ends and nothing happens
pub ended_played : (p : Point) (status : Status) (x : Sinks) → Plays (ended p status) [] status x x
ended_played p status x = inl (record { status_is = refl; edits_are = refl; took = took_nothing x })

-- a first part was played, and then the rest
pub played_after : (items : List Item) (log edits : List Taken) (run : Run) (status : Status) (x y z : Sinks) → Took x y items log →
    Plays run edits status y z → Plays (run_after items log run) (log ++ edits) status x z
played_after items log edits run status x y z a (inl h) =
    inl (record {
      status_is = h.status_is;
      edits_are = ap (λ (l : List Taken). log ++ l) h.edits_are;
      took = took_then x y z items run.passage.items log edits a h.took;
    })
played_after items log edits run status x y z a (inr h) =
    inr (record {
      status_is = h.status_is;
      items = items ++ h.items;
      begins = begins_after items h.items log edits run.passage h.begins;
      took = took_then x y z items h.items log edits a h.took;
    })

run_behind : (items : List Item) (edits : List Taken) (p : Passage) (run : Run) → behind (after items edits p) run ≡ run_after items edits (behind p run)
run_behind items edits p run = ap (λ (x : Passage). record { status = run.status; passage = x }) (after-joined items edits p run.passage)

-- ---- how a part of the code leads on

-- a point is at a stage, and all else of it is that of another
pub point_is : (p q : Point) (s : Stage) → q.stage ≡ s → q.rate ≡ p.rate → q.number ≡ p.number → q.time ≡ p.time → at_stage p s ≡ q
point_is p q s a b c d =
    sym (ap (λ (x : Stage). record { stage = x; rate = q.rate; number = q.number; time = q.time }) a
    ∙ ap (λ (x : ℕ). record { stage = s; rate = x; number = q.number; time = q.time }) b
    ∙ ap (λ (x : ℕ). record { stage = s; rate = p.rate; number = x; time = q.time }) c ∙ ap (λ (x : ℕ). record { stage = s; rate = p.rate; number = p.number; time = x }) d)

-- a part was played, and the run goes on behind it
pub part_goes_on : (run : Part) (part : Stage → Passage) (s s' : List Choice → Stage) (p p' : List Choice → Point) (x y : Sinks) → Comes part s s' x y
    → ((m : List Choice) (rest : Point → Run) → run m rest ≡ goes_on (p m) rest (part (s m)))
    → ((m n : List Choice) → at_stage (p n) (s' m) ≡ p' m) → GoesOn run p' x y
part_goes_on run part s s' p p' x y came same on = record {
  items = came.items;
  edits = came.edits;
  took = came.took;
  same = λ m rest.
      let n : List Choice = choices_of came.edits ++ m in
      same n rest ∙ ap (λ (q : Passage). goes_on (p n) rest q) (came.same m)
      ∙ run_behind came.items came.edits (still (s' m)) (rest (at_stage (p n) (s' m)))
      ∙ ap (λ (q : Point). run_after came.items came.edits (rest q)) (on m n);
  lawful = came.lawful;
  by_folder = came.by_folder;
}

-- a run that was cut, or that met a bad record, isn't done
cut_undone : (status : Status) → status ≡ WriteFault → status ≡ Done → ⊥
cut_undone status is e = let no : WriteFault ≡ Done = sym is ∙ e in cc

bad_undone : (number : ℕ) (status : Status) → status ≡ ScriptBad number → status ≡ Done → ⊥
bad_undone number status is e = let no : ScriptBad number ≡ Done = sym is ∙ e in cc

-- a sink failed in a part of a run
pub part_cut : (run : Part) (part : Stage → Passage) (other : Part) (s : List Choice → Stage) (status : Status) (to : List Choice → Point) (x y : Sinks) → Stops part s x y → status ≡ WriteFault
    → ((m : List Choice) (rest : Point → Run) → run m rest ≡ behind (part (s m)) (other m rest)) → IsPlayed run status to x y
part_cut run part other s status to x y off is same = record {
  edits = off.edits;
  plays = λ m rest.
      let n : List Choice = choices_of off.edits ++ m in
      inr (record {
        status_is = is;
        items = off.items;
        begins = subst (λ (r : Run). Begins off.items off.edits r.passage) (sym (same n rest)) (begins_more off.items off.edits (part (s n)) (other n rest).passage (off.begins m));
        took = off.took;
      });
  stands = λ e m rest. absurd (cut_undone status is e);
  lawful = off.lawful;
  by_folder = off.by_folder;
}

-- what a run is of which a part was played
part_then : (run : Part) (part : Stage → Passage) (end : Stage → Run) (s s' : List Choice → Stage) (x y : Sinks) (came : Comes part s s' x y)
    → ((m : List Choice) (rest : Point → Run) → run m rest ≡ behind (part (s m)) (end (part (s m)).stage)) → (edits : List Taken) (m : List Choice) (rest : Point → Run)
    → run (choices_of (came.edits ++ edits) ++ m) rest ≡ run_after came.items came.edits (end (s' (choices_of edits ++ m)))
part_then run part end s s' x y came same edits m rest =
    let n : List Choice = choices_of edits ++ m in
    ap (λ (c : List Choice). run c rest) (choices-more came.edits edits m) ∙ same (choices_of came.edits ++ n) rest
    ∙ ap (λ (q : Passage). behind q (end q.stage)) (came.same n) ∙ run_behind came.items came.edits (still (s' n)) (end (s' n))

-- a part was played, and then the run to its end from where it leads
pub part_played : (run : Part) (part : Stage → Passage) (end : Stage → Run) (s s' : List Choice → Stage) (status : Status) (to : List Choice → Point) (x y z : Sinks) → Comes part s s' x y
    → ((m : List Choice) (rest : Point → Run) → run m rest ≡ behind (part (s m)) (end (part (s m)).stage))
    → IsPlayed (λ m rest. end (s' m)) status to y z → IsPlayed run status to x z
part_played run part end s s' status to x y z came same h = record {
  edits = came.edits ++ h.edits;
  plays = λ m rest.
      let n : List Choice = choices_of h.edits ++ m in
      subst (λ (r : Run). Plays r (came.edits ++ h.edits) status x z) (sym (part_then run part end s s' x y came same h.edits m rest))
      (played_after came.items came.edits h.edits (end (s' n)) status x y z came.took (h.plays m rest));
  stands = λ e m rest. ap (λ (r : Run). r.passage.stage) (part_then run part end s s' x y came same h.edits m rest) ∙ h.stands e m rest;
  lawful = lawful_both came.edits h.edits came.lawful h.lawful;
  by_folder = folder_on x y came.items came.edits h.edits came.took came.by_folder h.by_folder;
}

-- the last part of a run was played
pub last_played : (part : Stage → Passage) (s s' : List Choice → Stage) (status : Status) (to : List Choice → Point) (x y : Sinks) → Comes part s s' x y
    → ((m : List Choice) → (to m).stage ≡ s' m) → IsPlayed (λ m rest. record { status = status; passage = part (s m) }) status to x y
last_played part s s' status to x y came at = record {
  edits = came.edits;
  plays = λ m rest.
      subst (λ (q : Passage). Plays (record { status = status; passage = q }) came.edits status x y) (sym (came.same m))
      (inl (record {
        status_is = refl;
        edits_are = append-nil came.edits;
        took = subst (λ (i : List Item). Took x y i came.edits) (sym (append-nil came.items)) came.took;
      }));
  stands = λ e m rest. ap (λ (q : Passage). q.stage) (came.same m) ∙ sym (at m);
  lawful = came.lawful;
  by_folder = came.by_folder;
}

-- it was cut
pub last_cut : (run : Part) (part : Stage → Passage) (s : List Choice → Stage) (status : Status) (to : List Choice → Point) (x y : Sinks) → Stops part s x y → status ≡ WriteFault
    → ((m : List Choice) (rest : Point → Run) → (run m rest).passage ≡ part (s m)) → IsPlayed run status to x y
last_cut run part s status to x y off is same = record {
  edits = off.edits;
  plays = λ m rest.
      inr (record {
        status_is = is;
        items = off.items;
        begins = subst (λ (q : Passage). Begins off.items off.edits q) (sym (same (choices_of off.edits ++ m) rest)) (off.begins m);
        took = off.took;
      });
  stands = λ e m rest. absurd (cut_undone status is e);
  lawful = off.lawful;
  by_folder = off.by_folder;
}

-- nothing was played
pub nothing_goes_on : (run : Part) (p : List Choice → Point) (x : Sinks) → ((m : List Choice) (rest : Point → Run) → run m rest ≡ rest (p m)) → GoesOn run p x x
nothing_goes_on run p x same = record { items = []; edits = []; same = same; took = took_nothing x; lawful = tt; by_folder = tt }

-- the run has ended at a bad record
pub nothing_played : (run : Part) (p to : List Choice → Point) (number : ℕ) (status : Status) (x : Sinks) → status ≡ ScriptBad number
    → ((m : List Choice) (rest : Point → Run) → run m rest ≡ ended (p m) (ScriptBad number)) → IsPlayed run status to x x
nothing_played run p to number status x is same = record {
  edits = [];
  plays = λ m rest. subst (λ (r : Run). Plays r [] status x x) (sym (same m rest ∙ ap (ended (p m)) (sym is))) (ended_played (p m) status x);
  stands = λ e m rest. absurd (bad_undone number status is e);
  lawful = tt;
  by_folder = tt;
}

pub leads_same : (r : Option Status) (f g : Part) (p : List Choice → Point) (x y : Sinks) → ((m : List Choice) (rest : Point → Run) → g m rest ≡ f m rest) →
    Leads r f p x y → Leads r g p x y
leads_same None f g p x y e h = record {
  items = h.items;
  edits = h.edits;
  same = λ m rest. e (choices_of h.edits ++ m) rest ∙ h.same m rest;
  took = h.took;
  lawful = h.lawful;
  by_folder = h.by_folder;
}
leads_same (Some status) f g p x y e h = record {
  edits = h.edits;
  plays = λ m rest. subst (λ (q : Run). Plays q h.edits status x y) (sym (e (choices_of h.edits ++ m) rest)) (h.plays m rest);
  stands = λ d m rest. ap (λ (q : Run). q.passage.stage) (e (choices_of h.edits ++ m) rest) ∙ h.stands d m rest;
  lawful = h.lawful;
  by_folder = h.by_folder;
}

-- ---- a record

pub record_empty : (text : List ℕ) (p : Point) → (length text == 0) ≡ true → (rest : Point → Run) → record_run text p rest ≡ rest p
unfolding record_run
record_empty text p e rest =
    ap (λ (b : Bool). if b then rest p else read_run (command_of p.stage.names (tokens_of text)) p rest) e

pub record_read : (text : List ℕ) (p : Point) (z : ℤ) (s : Script) (names : Names) (stage : Stage) → (length text == 0) ≡ false →
    command_of p.stage.names (tokens_of text) ≡ Some (z, s, names) → stage ≡ with_names p.stage names → (rest : Point → Run) →
    record_run text p rest ≡ timed_run (p.time + millionths z) s (at_stage p stage) rest
unfolding record_run
record_read text p z s names stage e read is rest =
    ap (λ (b : Bool). if b then rest p else read_run (command_of p.stage.names (tokens_of text)) p rest) e
    ∙ ap (λ (o : Option (ℤ × Script × Names)). read_run o p rest) read
    ∙ ap (λ (x : Stage). timed_run (p.time + millionths z) s (at_stage p x) rest) (sym is)

pub record_bad : (text : List ℕ) (p : Point) → (length text == 0) ≡ false → command_of p.stage.names (tokens_of text) ≡ None → (rest : Point → Run) →
    record_run text p rest ≡ bad p
unfolding record_run
record_bad text p e read rest =
    ap (λ (b : Bool). if b then rest p else read_run (command_of p.stage.names (tokens_of text)) p rest) e
    ∙ ap (λ (o : Option (ℤ × Script × Names)). read_run o p rest) read

-- ---- an answer of the feed that is no record

pub end_played : (v : Fed) (text : List ℕ) (p : List Choice → Point) (status : Status) (to : List Choice → Point) (x y : Sinks) → v ≡ fed.End
    → IsPlayed (λ m rest. done (p m).stage) status to x y → IsPlayed (λ m rest. fed_run v text (p m) rest) status to x y
unfolding end_run
end_played v text p status to x y e h = record {
  edits = h.edits;
  plays = λ m rest. subst (λ (w : Fed). Plays (fed_run w text (p (choices_of h.edits ++ m)) rest) h.edits status x y) (sym e) (h.plays m rest);
  stands = λ d m rest. ap (λ (w : Fed). (fed_run w text (p (choices_of h.edits ++ m)) rest).passage.stage) e ∙ h.stands d m rest;
  lawful = h.lawful;
  by_folder = h.by_folder;
}

rest_is : (v : Fed) (text : List ℕ) (p : Point) (rest : Point → Run) → (v ≡ fed.TooLong) ⊎ (v ≡ fed.Unfinished) → fed_run v text p rest ≡ bad (counted p)
unfolding end_run
rest_is v text p rest (inl e) = ap (λ (x : Fed). fed_run x text p rest) e
rest_is v text p rest (inr e) = ap (λ (x : Fed). fed_run x text p rest) e

pub rest_played : (v : Fed) (text : List ℕ) (p to : List Choice → Point) (number : ℕ) (status : Status) (x : Sinks) → (v ≡ fed.TooLong) ⊎ (v ≡ fed.Unfinished) →
    ((m : List Choice) → (p m).number ≡ number) → status ≡ ScriptBad (number + 1) → IsPlayed (λ m rest. fed_run v text (p m) rest) status to x x
rest_played v text p to number status x e same is =
    nothing_played (λ m rest. fed_run v text (p m) rest) (λ m. counted (p m)) to (number + 1) status x is
    (λ m rest. rest_is v text (p m) rest e ∙ ap (λ (n : ℕ). ended (counted (p m)) (ScriptBad (n + 1))) (same m))

-- ---- a step of the run ahead

record_moves : (f f' : Feed) (p p' : List Choice → Point) (left left' : Option (List ℕ)) (x y : Sinks) → Feeds fed.Record f left f' left' →
    GoesOn (λ m rest. record_run f'.last (counted (p m)) rest) p' x y → Moves f p f' p' left left' x y
record_moves f f' p p' left left' x y h g = record {
  given = h.given;
  came = h.came;
  items = g.items;
  edits = g.edits;
  same = λ ending bytes m.
      ap (λ s. run_of ending s (p (choices_of g.edits ++ m))) (record_ahead f f' left left' h bytes) ∙ g.same m (λ q. run_of ending (script_ahead f' bytes) q);
  took = g.took;
  lawful = g.lawful;
  by_folder = g.by_folder;
}

-- the run of the script ahead, where the answer of the feed is a record
record_ends : (f f' : Feed) (p : Point) (left left' : Option (List ℕ)) (h : Feeds fed.Record f left f' left') (ending : Ending) →
    ahead ending f p (h.given ++ told left') ≡ record_run f'.last (counted p) (λ q. run_of ending (script_ahead f' (told left')) q)
record_ends f f' p left left' h ending = ap (λ s. run_of ending s p) (record_ahead f f' left left' h (told left'))

-- a rest that is no record leads to no run that is done
rest_undone : (v : Fed) (text : List ℕ) (p : Point) (edits : List Taken) (status : Status) (x y : Sinks) (rest : Point → Run) → (v ≡ fed.TooLong) ⊎ (v ≡ fed.Unfinished) →
    Plays (fed_run v text p rest) edits status x y → status ≡ Done → ⊥
rest_undone v text p edits status x y rest e plays d =
    let no : ScriptBad (p.number + 1) ≡ Done =
    sym (ap (λ (r : Run). r.status) (rest_is v text p rest e)) ∙ done_is (fed_run v text p rest) edits status x y plays d in
    cc

-- no more is told of what edits come to
nothing_more : List Choice
nothing_more = []

-- the rest of a run that fails
fails : Point → Run
fails q = ended q ReadFault

-- the run ends at what was read, and all that is left comes behind it
fed_ends : (v : Fed) (f f' : Feed) (p : List Choice → Point) (status : Status) (to : List Choice → Point) (left left' : Option (List ℕ)) (faults faults' : ℕ) (x y : Sinks) →
    Feeds v f left f' left' → IsPlayed (λ m rest. fed_run v f'.last (p m) rest) status to x y → Ends f p status to left left' faults faults' x y
fed_ends fed.Record f f' p status to left left' faults faults' x y h played =
    let after : Ending → Point → Run = λ ending q. run_of ending (script_ahead f' (told left')) q in
    let at : List Choice → Point = λ m. p (choices_of played.edits ++ m) in
    record {
      given = h.given;
      came = h.came;
      ending = Whole;
      more = told left';
      by = told_is left';
      edits = played.edits;
      plays = λ m. subst (λ (r : Run). Plays r played.edits status x y) (sym (record_ends f f' (at m) left left' h Whole)) (played.plays m (after Whole));
      lawful = played.lawful;
      by_folder = played.by_folder;
      stands = λ d m. ap (λ (r : Run). r.passage.stage) (record_ends f f' (at m) left left' h Whole) ∙ played.stands d m (after Whole);
      over = λ e. inr (λ m. ap (λ (r : Run). r.status) (record_ends f f' (at m) left left' h Broken)
          ∙ done_is (record_run f'.last (counted (at m)) (after Broken)) played.edits status x y (played.plays m (after Broken)) e);
    }
fed_ends fed.End f f' p status to left left' faults faults' x y h played = record {
  given = h.given;
  came = h.came;
  ending = Whole;
  more = told left';
  by = told_is left';
  edits = played.edits;
  plays = λ m. subst (λ s. Plays (run_of Whole s (p (choices_of played.edits ++ m))) played.edits status x y) (sym (end_ahead f f' left left' h)) (played.plays m fails);
  lawful = played.lawful;
  by_folder = played.by_folder;
  stands = λ d m. ap (λ s. (run_of Whole s (p (choices_of played.edits ++ m))).passage.stage) (end_ahead f f' left left' h) ∙ played.stands d m fails;
  over = λ e. inl (h.ended refl);
}
fed_ends fed.TooLong f f' p status to left left' faults faults' x y h played = record {
  given = h.given;
  came = h.came;
  ending = Whole;
  more = told left';
  by = told_is left';
  edits = played.edits;
  plays = λ m. subst (λ s. Plays (run_of Whole s (p (choices_of played.edits ++ m))) played.edits status x y) (sym (too_long_ahead f f' left left' h (told left'))) (played.plays m fails);
  lawful = played.lawful;
  by_folder = played.by_folder;
  stands = λ d m. ap (λ s. (run_of Whole s (p (choices_of played.edits ++ m))).passage.stage) (too_long_ahead f f' left left' h (told left')) ∙ played.stands d m fails;
  over = λ e. absurd (rest_undone fed.TooLong f'.last (p (choices_of played.edits ++ nothing_more)) played.edits status x y fails (inl refl) (played.plays nothing_more fails) e);
}
fed_ends fed.Unfinished f f' p status to left left' faults faults' x y h played = record {
  given = h.given;
  came = h.came;
  ending = Whole;
  more = told left';
  by = told_is left';
  edits = played.edits;
  plays = λ m. subst (λ s. Plays (run_of Whole s (p (choices_of played.edits ++ m))) played.edits status x y) (sym (unfinished_ahead f f' left left' h)) (played.plays m fails);
  lawful = played.lawful;
  by_folder = played.by_folder;
  stands = λ d m. ap (λ s. (run_of Whole s (p (choices_of played.edits ++ m))).passage.stage) (unfinished_ahead f f' left left' h) ∙ played.stands d m fails;
  over = λ e. absurd (rest_undone fed.Unfinished f'.last (p (choices_of played.edits ++ nothing_more)) played.edits status x y fails (inr refl) (played.plays nothing_more fails) e);
}

-- the feed answered, and that was carried out
pub fed_steps : (r : Option Status) (v : Fed) (f f' f'' : Feed) (p p' : List Choice → Point) (left left' : Option (List ℕ)) (faults faults' : ℕ) (x y : Sinks) →
    Feeds v f left f' left' → f'' ≡ f' → (r ≡ None → v ≡ fed.Record) → Leads r (λ m rest. fed_run v f'.last (p m) rest) p' x y →
    Steps r f p f'' p' left left' faults faults' x y
fed_steps None v f f' f'' p p' left left' faults faults' x y h e n g =
    let is : v ≡ fed.Record = n refl in
    subst (λ (k : Feed). Moves f p k p' left left' x y) (sym e)
    (record_moves f f' p p' left left' x y (subst (λ (w : Fed). Feeds w f left f' left') is h)
    (subst (λ (w : Fed). GoesOn (λ m rest. fed_run w f'.last (p m) rest) p' x y) is g))
fed_steps (Some status) v f f' f'' p p' left left' faults faults' x y h e n g =
    fed_ends v f f' p status p' left left' faults faults' x y h g

-- the source failed
broken_end : (v : Fed) (p : Point) → is_shown v ≡ false → end_run Broken v p ≡ ended p ReadFault
unfolding end_run
broken_end fed.Record p e = absurd (cc)
broken_end fed.End p e = refl
broken_end fed.TooLong p e = absurd (cc)
broken_end fed.Unfinished p e = refl

pub waits_ends : (f f' : Feed) (p to : List Choice → Point) (left left' : Option (List ℕ)) (faults faults' : ℕ) (x : Sinks) →
    Waits f left f' left' → Rose faults faults' → Ends f p ReadFault to left left' faults faults' x x
waits_ends f f' p to left left' faults faults' x h rose =
    let is : (m : List Choice) → ahead Broken f (p m) h.given ≡ ended (p m) ReadFault =
    λ m. ap (λ s. run_of Broken s (p m)) (waits_ahead f f' left left' h) ∙ broken_end (fed_of f'.passed f'.blank f'.bytes) (p m) h.unshown in
    record {
      given = h.given;
      came = h.came;
      ending = Broken;
      more = [];
      by = (refl, rose);
      edits = [];
      plays = λ m.
          subst (λ (r : Run). Plays r [] ReadFault x x) (sym (ap (λ (b : List ℕ). ahead Broken f (p m) b) (append-nil h.given) ∙ is m))
          (ended_played (p m) ReadFault x);
      lawful = tt;
      by_folder = tt;
      stands = λ e m. absurd (cc);
      over = λ e. absurd (cc);
    }

-- ---- one step after another

front_nothing : (left : Option (List ℕ)) → left ≡ with_front [] left
front_nothing None = refl
front_nothing (Some bytes) = refl

front_front : (a b : List ℕ) (left : Option (List ℕ)) → with_front a (with_front b left) ≡ with_front (a ++ b) left
front_front a b None = refl
front_front a b (Some bytes) = ap Some (sym (append_assoc a b bytes))

pub moves_nothing : (f : Feed) (p : List Choice → Point) (left : Option (List ℕ)) (x : Sinks) → Moves f p f p left left x x
moves_nothing f p left x = record {
  given = [];
  came = front_nothing left;
  items = [];
  edits = [];
  same = λ ending bytes m. refl;
  took = took_nothing x;
  lawful = tt;
  by_folder = tt;
}

run_after_after : (i j : List Item) (l k : List Taken) (run : Run) → run_after i l (run_after j k run) ≡ run_after (i ++ j) (l ++ k) run
run_after_after i j l k run = ap (λ (x : Passage). record { status = run.status; passage = x }) (after-after i j l k run.passage)

-- what the whole run is, where a part was played
moved : (f f' : Feed) (p p' : List Choice → Point) (l₁ l₂ : Option (List ℕ)) (x y : Sinks) (a : Moves f p f' p' l₁ l₂ x y) (ending : Ending) (given more : List ℕ) (edits : List Taken) (m : List Choice)
    → ahead ending f (p (choices_of (a.edits ++ edits) ++ m)) ((a.given ++ given) ++ more) ≡ run_after a.items a.edits (ahead ending f' (p' (choices_of edits ++ m)) (given ++ more))
moved f f' p p' l₁ l₂ x y a ending given more edits m =
    ap (λ (b : List ℕ). ahead ending f (p (choices_of (a.edits ++ edits) ++ m)) b) (append_assoc a.given given more)
    ∙ ap (λ (c : List Choice). ahead ending f (p c) (a.given ++ (given ++ more))) (choices-more a.edits edits m) ∙ a.same ending (given ++ more) (choices_of edits ++ m)

pub moves_on : (f f' f'' : Feed) (p p' p'' : List Choice → Point) (l₁ l₂ l₃ : Option (List ℕ)) (x y z : Sinks) → Moves f p f' p' l₁ l₂ x y →
    Moves f' p' f'' p'' l₂ l₃ y z → Moves f p f'' p'' l₁ l₃ x z
moves_on f f' f'' p p' p'' l₁ l₂ l₃ x y z a b = record {
  given = a.given ++ b.given;
  came = a.came ∙ ap (with_front a.given) b.came ∙ front_front a.given b.given l₃;
  items = a.items ++ b.items;
  edits = a.edits ++ b.edits;
  same = λ ending bytes m.
      moved f f' p p' l₁ l₂ x y a ending b.given bytes b.edits m
      ∙ ap (run_after a.items a.edits) (b.same ending bytes m) ∙ run_after_after a.items b.items a.edits b.edits (ahead ending f'' (p'' m) bytes);
  took = took_then x y z a.items b.items a.edits b.edits a.took b.took;
  lawful = lawful_both a.edits b.edits a.lawful b.lawful;
  by_folder = folder_on x y a.items a.edits b.edits a.took a.by_folder b.by_folder;
}

at_end_on : (given more : List ℕ) (edits : List Taken) (f f' : Feed) (p p' : List Choice → Point) (l₁ l₂ left : Option (List ℕ)) (x y : Sinks) (a : Moves f p f' p' l₁ l₂ x y) →
    IsAtEnd left ⊎ ((m : List Choice) → MeetsEnd (script_ahead f' (given ++ more)) (p' (choices_of edits ++ m)))
    → IsAtEnd left ⊎ ((m : List Choice) → MeetsEnd (script_ahead f ((a.given ++ given) ++ more)) (p (choices_of (a.edits ++ edits) ++ m)))
at_end_on given more edits f f' p p' l₁ l₂ left x y a (inl h) = inl h
at_end_on given more edits f f' p p' l₁ l₂ left x y a (inr h) =
    inr (λ m. ap (λ (r : Run). r.status) (moved f f' p p' l₁ l₂ x y a Broken given more edits m) ∙ h m)

ends_by_on : (ending : Ending) (more : List ℕ) (left : Option (List ℕ)) (x y z : ℕ) → x ≤ y → EndsBy ending more left y z → EndsBy ending more left x z
ends_by_on Whole more left x y z l h = h
ends_by_on Broken more left x y z l h = (h.0, rose_on x y z l h.1)

pub moves_end : (f f' : Feed) (p p' : List Choice → Point) (status : Status) (to : List Choice → Point) (l₁ l₂ l₃ : Option (List ℕ)) (j k n : ℕ) (x y z : Sinks) → j ≤ k →
    Moves f p f' p' l₁ l₂ x y → Ends f' p' status to l₂ l₃ k n y z → Ends f p status to l₁ l₃ j n x z
moves_end f f' p p' status to l₁ l₂ l₃ j k n x y z l a b = record {
  given = a.given ++ b.given;
  came = a.came ∙ ap (with_front a.given) b.came ∙ front_front a.given b.given l₃;
  ending = b.ending;
  more = b.more;
  by = ends_by_on b.ending b.more l₃ j k n l b.by;
  edits = a.edits ++ b.edits;
  plays = λ m.
      subst (λ (r : Run). Plays r (a.edits ++ b.edits) status x z)
      (sym (moved f f' p p' l₁ l₂ x y a b.ending b.given b.more b.edits m))
      (played_after a.items a.edits b.edits (ahead b.ending f' (p' (choices_of b.edits ++ m)) (b.given ++ b.more)) status x y z a.took (b.plays m));
  lawful = lawful_both a.edits b.edits a.lawful b.lawful;
  by_folder = folder_on x y a.items a.edits b.edits a.took a.by_folder b.by_folder;
  stands = λ d m. ap (λ (r : Run). r.passage.stage) (moved f f' p p' l₁ l₂ x y a b.ending b.given b.more b.edits m) ∙ b.stands d m;
  over = λ e. at_end_on b.given b.more b.edits f f' p p' l₁ l₂ l₃ x y a (b.over e);
}

-- ---- nobody reads the looks

plays_without : (run : Run) (edits : List Taken) (status : Status) (x y : Sinks) → Plays run edits status x y → Plays run edits status (without_looks x) (without_looks y)
plays_without run edits status x y (inl h) = inl (record { status_is = h.status_is; edits_are = h.edits_are; took = took_without x y run.passage.items edits h.took })
plays_without run edits status x y (inr h) = inr (record { status_is = h.status_is; items = h.items; begins = h.begins; took = took_without x y h.items edits h.took })

pub moves_without : (f f' : Feed) (p p' : List Choice → Point) (left left' : Option (List ℕ)) (x y : Sinks) → Moves f p f' p' left left' x y →
    Moves f p f' p' left left' (without_looks x) (without_looks y)
moves_without f f' p p' left left' x y h = record {
  given = h.given;
  came = h.came;
  items = h.items;
  edits = h.edits;
  same = h.same;
  took = took_without x y h.items h.edits h.took;
  lawful = h.lawful;
  by_folder = h.by_folder;
}

pub ends_without : (f : Feed) (p : List Choice → Point) (status : Status) (to : List Choice → Point) (left left' : Option (List ℕ)) (faults faults' : ℕ) (x y : Sinks) →
    Ends f p status to left left' faults faults' x y → Ends f p status to left left' faults faults' (without_looks x) (without_looks y)
ends_without f p status to left left' faults faults' x y h = record {
  given = h.given;
  came = h.came;
  ending = h.ending;
  more = h.more;
  by = h.by;
  edits = h.edits;
  plays = λ m. plays_without (ahead h.ending f (p (choices_of h.edits ++ m)) (h.given ++ h.more)) h.edits status x y (h.plays m);
  lawful = h.lawful;
  by_folder = h.by_folder;
  stands = h.stands;
  over = h.over;
}
