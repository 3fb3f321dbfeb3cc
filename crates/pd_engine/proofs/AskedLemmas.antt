-- Deliveries ask canvases for edits of wires and for boxes alone.
use Rattle.std.proofs.Common.{◌≡◌, ℕ, zero, suc, Bool, true, false, ℤ, List, [], ◌∷◌, ◌++◌, refl, sym, subst, Option, Some, None, slice_get, option_map, if◌then◌else◌}
use Rattle.std.specs.Prelude.{IfSome}
use Rattle.pd_atom.specs.declared.Atom.{Atom}
use Rattle.pd_atom.specs.declared.Atom.TheVariants as atom
use Rattle.pd_canvas.specs.declared.edits.Edit.{Edit}
use Rattle.pd_canvas.specs.declared.edits.Edit.TheVariants as edit
use Rattle.pd_canvas.specs.declared.wires.Wire.{Wire}
use Rattle.pd_kind.specs.Said.{Said}
use Rattle.pd_kind.specs.declared.messages.Deed.{Deed}
use Rattle.pd_kind.specs.declared.messages.Deed.TheVariants as deed
use Rattle.pd_queue.specs.declared.asking.BoxVerb.{BoxVerb}
use Rattle.pd_queue.specs.declared.asking.BoxVerb.TheVariants as box
use Rattle.pd_queue.specs.declared.asking.Verb.{Verb}
use Rattle.pd_queue.specs.declared.asking.Verb.TheVariants as verb
use Rattle.pd_queue.specs.Asking.{box_edit, new_box, wire_of, asked}
use Rattle.pd_queue.specs.Queue.{Waiting, after_asking}
use Rattle.pd_turns.specs.Turns.{World, acted, cut_off, causes, by_budget, each, performed, finished}
use Rattle.pd_hearing.specs.Worlds.{Net, Kept}
use Rattle.pd_hearing.specs.Hearing.{Reply, heard_at, resumed_at, fired_at, loaded_at}
use Rattle.pd_hearing.specs.Deeds.{done, replied}
use Rattle.pd_stack.specs.Tasks.{Task, Deliver, Ask, Resume, Nobody}
use Rattle.pd_walk.specs.Acts.{verb_in, queue_with, kept_by, kept_after, asked_for, rules}
use Rattle.pd_walk.specs.Outcome.{ran, after_deed, told_by, all_loaded, named_tasks, outcome}
use Rattle.pd_walk.specs.declared.walker.Start.{Start}
use Rattle.pd_walk.specs.declared.walker.Start.TheVariants as start
use Rattle.pd_engine.specs.Edits.{CanBeAsked, AreAskedFor}

-- ---- what a message asks for

box_asked : (b : BoxVerb) (x y : ℤ) (text : List Atom) → CanBeAsked (box_edit b x y text)
box_asked box.Obj x y text = λ none. refl
box_asked box.Msg x y text = λ none. refl
box_asked box.Text x y text = λ none. refl
box_asked box.FloatAtom x y text = λ none. refl
box_asked box.SymbolAtom x y text = λ none. refl

second_asked : (b : BoxVerb) (x : ℤ) (atoms : List Atom) → IfSome (new_box b (atom.Number x ∷ atoms)) CanBeAsked
second_asked b x [] = tt
second_asked b x (atom.Number y ∷ text) = box_asked b x y text
second_asked b x (atom.Symbol s ∷ text) = tt
second_asked b x (atom.Dollar n ∷ text) = tt
second_asked b x (atom.DollarSymbol s ∷ text) = tt
second_asked b x (atom.Comma ∷ text) = tt
second_asked b x (atom.Semi ∷ text) = tt

new_asked : (b : BoxVerb) (atoms : List Atom) → IfSome (new_box b atoms) CanBeAsked
new_asked b [] = tt
new_asked b (atom.Number x ∷ atoms) = second_asked b x atoms
new_asked b (atom.Symbol s ∷ atoms) = tt
new_asked b (atom.Dollar n ∷ atoms) = tt
new_asked b (atom.DollarSymbol s ∷ atoms) = tt
new_asked b (atom.Comma ∷ atoms) = tt
new_asked b (atom.Semi ∷ atoms) = tt

join_asked : (o : Option Wire) → IfSome (option_map (λ w. edit.Connect w) o) CanBeAsked
join_asked None = tt
join_asked (Some w) = λ none. cc

cut_asked : (o : Option Wire) → IfSome (option_map (λ w. edit.Disconnect w) o) CanBeAsked
cut_asked None = tt
cut_asked (Some w) = λ none. cc

verb_asked : (v : Verb) (atoms : List Atom) → IfSome (asked v atoms) CanBeAsked
verb_asked (verb.Box b) atoms = new_asked b atoms
verb_asked verb.Connect atoms = join_asked (wire_of atoms)
verb_asked verb.Disconnect atoms = cut_asked (wire_of atoms)

-- ---- the queue

either : (b : Bool) (q r : Waiting) → AreAskedFor q → AreAskedFor r → AreAskedFor (if b then q else r)
either true q r h k = h
either false q r h k = k

last_asked : (q : Waiting) (path : List ℕ) (e : Edit) → AreAskedFor q → CanBeAsked e → AreAskedFor (q ++ (path, e) ∷ [])
last_asked [] path e h k = (k, tt)
last_asked (x ∷ q) path e h k = (h.0, last_asked q path e h.1 k)

one_asked : (path : List ℕ) (o : Option Edit) (q : Waiting) → IfSome o CanBeAsked → AreAskedFor q → AreAskedFor (after_asking path o q)
one_asked path None q k h = h
one_asked path (Some e) q k h = either _ q (q ++ (path, e) ∷ []) h (last_asked q path e h k)

with_asked : (net : Net) (canvas : ℕ) (atoms : List Atom) (q : Waiting) (o : Option Verb) → AreAskedFor q → AreAskedFor (queue_with net canvas atoms q o)
with_asked net canvas atoms q None h = h
with_asked net canvas atoms q (Some v) h = either _ (after_asking _ (asked v atoms) q) q (one_asked _ (asked v atoms) q (verb_asked v atoms) h) h

-- ---- deliveries

done_queue : (net : Net) (now node : ℕ) (d : Deed) (kept : Kept) → (done net now node d kept).queue ≡ kept.queue
unfolding done
done_queue net now node (deed.SetClock time) kept = refl
done_queue net now node deed.ClearClock kept = refl
done_queue net now node (deed.WriteTable i z) kept = refl
done_queue net now node deed.Nothing kept = refl
done_queue net now node deed.Print kept = refl
done_queue net now node deed.Again kept = refl

module _ (net : Net) (now : ℕ) where
  by_asked : (kept : Kept) (node : ℕ) (r : Reply) → AreAskedFor kept.queue → AreAskedFor (kept_by net now node kept r).queue
  by_asked kept node r h = subst (λ (q : Waiting). AreAskedFor q) (sym (done_queue net now node r.said.deed (replied kept r))) h

  after_asked : (kept : Kept) (t : Task) → AreAskedFor kept.queue → AreAskedFor (kept_after net now kept t).queue
  unfolding kept_after
  after_asked kept (Deliver depth node inlet selector atoms) h = by_asked kept node (heard_at net now kept.states kept.names node inlet selector atoms) h
  after_asked kept (Ask depth canvas selector atoms) h = with_asked net canvas atoms kept.queue (verb_in kept.names selector) h
  after_asked kept (Resume depth node) h = by_asked kept node (resumed_at net kept.states kept.names node) h
  after_asked kept (Nobody name) h = h

  abbrev Are : World Kept → Type 0
  Are w = AreAskedFor w.kept.queue

  if_either : (b : Bool) (w v : World Kept) → Are w → Are v → Are (if b then w else v)
  if_either true w v h k = h
  if_either false w v h k = k

  by_either : (n : ℕ) (w v : World Kept) → Are w → Are v → Are (by_budget n w v)
  by_either zero w v h k = h
  by_either (suc n) w v h k = k

  each_asked : (one : World Kept → Task → World Kept) → ((w : World Kept) (t : Task) → Are w → Are (one w t)) → (w : World Kept) (ts : List Task) → Are w → Are (each one w ts)
  each_asked one keeps w [] h = h
  each_asked one keeps w (t ∷ ts) h = each_asked one keeps (one w t) ts (keeps w t h)

  performed_asked : (n : ℕ) (w : World Kept) (t : Task) → Are w → Are (performed (rules net now) n w t)
  unfolding performed
  performed_asked zero w t h = h
  performed_asked (suc n) w t h =
      let r = rules net now in
      let after : World Kept = each (performed r n) (acted r w t) (causes r w.kept t) in
      let k : Are after = each_asked (performed r n) (λ v u. performed_asked n v u) (acted r w t) (causes r w.kept t) (after_asked w.kept t h) in
      if_either w.cut w _ h (if_either (r.costs t) (by_budget w.budget (cut_off r w) after) after (by_either w.budget (cut_off r w) after h k) k)

  finished_asked : (w : World Kept) (t : Task) → Are w → Are (finished (rules net now) w t)
  unfolding finished
  finished_asked w t h = performed_asked (suc w.budget) w t h

  ran_asked : (w : World Kept) (ts : List Task) → Are w → Are (ran net now w ts)
  ran_asked w ts h = each_asked (finished (rules net now)) (λ v t. finished_asked v t) w ts h

  told_asked : (node : ℕ) (said : Said) (w : World Kept) → Are w → Are (told_by net now node said w)
  told_asked node said w h =
      ran_asked (after_deed net now node said w) (asked_for net 0 node said) (subst (λ (q : Waiting). AreAskedFor q) (sym (done_queue net now node said.deed w.kept)) h)

  loaded_asked : (w : World Kept) (nodes : List ℕ) → Are w → Are (all_loaded net now w nodes)
  loaded_asked w [] h = h
  loaded_asked w (node ∷ nodes) h =
      let said = loaded_at net w.kept.states node in
      loaded_asked (told_by net now node said w) nodes (told_asked node said w h)

  -- where what waits is such, what an event asks for is too
  pub outcome_asked : (w : World Kept) (s : Start) → Are w → Are (outcome net now w s)
  unfolding outcome
  outcome_asked w (start.Name name message) h = ran_asked w (named_tasks net name message.selector message.atoms.now) h
  outcome_asked w (start.Clock owner) h = told_asked owner (fired_at net w.kept.states owner) w h
  outcome_asked w (start.Loads boxes) h = loaded_asked w boxes.now h

-- and so are those that an event left
pub left_asked : (net : Net) (now : ℕ) (w : World Kept) (s : Start) (k : Kept) → AreAskedFor w.kept.queue → k ≡ (outcome net now w s).kept → AreAskedFor k.queue
left_asked net now w s k are is = subst (λ (x : Kept). AreAskedFor x.queue) (sym is) (outcome_asked net now w s are)

same_pair : (a b : List ℕ × Edit) → Some a ≡ Some b → a ≡ b
same_pair a b e = cc

-- each of those that wait is one that a message can ask for
pub asked_at : (q : Waiting) (i : ℕ) (a : List ℕ × Edit) → slice_get q i ≡ Some a → AreAskedFor q → CanBeAsked a.1
asked_at [] i a is h = absurd (cc)
asked_at (x ∷ q) zero a is h = subst (λ (y : List ℕ × Edit). CanBeAsked y.1) (same_pair x a is) h.0
asked_at (x ∷ q) (suc i) a is h = asked_at q i a is h.1
