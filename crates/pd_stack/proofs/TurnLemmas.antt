-- Turns of a walk.
use Rattle.std.proofs.Common.{arith, ◌≡◌, ℕ, zero, suc, ◌+◌, List, [], ◌∷◌, ◌++◌, length, drop, refl, sym, ◌∙◌, ap, subst, append_assoc, append-nil}
use Rattle.std.specs.List.{slice_get, flat_map}
use Rattle.std.specs.Prelude.{Option, Some, None}
use Rattle.pd_atom.specs.declared.Atom.{Atom}
use Rattle.pd_atom.specs.Names.{Names}
use Rattle.pd_say.specs.Gathering.{Says, Fails}
use Rattle.pd_web.specs.declared.web.Hop.{Hop}
use Rattle.pd_web.specs.Hops.{fan_hops}
use Rattle.pd_stack.specs.declared.stack.Cursor.TheVariants.{Wires}
use Rattle.pd_stack.specs.declared.stack.Pending.{Pending}
use Rattle.pd_stack.specs.declared.steps.Place.{Place}
use Rattle.pd_stack.specs.declared.steps.Task.{Task as Due}
use Rattle.pd_stack.specs.declared.steps.Turn.{Turn}
use Rattle.pd_stack.specs.declared.steps.Turn.TheVariants as turn
use Rattle.pd_stack.specs.Pile.{Pile}
use Rattle.pd_hearing.specs.Worlds.{Net}
use Rattle.pd_stack.specs.Tasks.{Task, Nobody, along, delivery, end_of, nobody_text}
use Rattle.pd_stack.specs.Piles.{IsAlong, GoesAlong, CursorTasks, PendingTasks, message_of, Joins, AreLeft, LeftOn}
use Rattle.pd_stack.specs.Turns.{doing, told, due_in, StartsWith, TurnTasks, AfterTurn, turn_text, nobodies, Yields, BreaksOff}
use Rattle.std.proofs.lemmas.List.Concat.{flat_map-append}
use Rattle.pd_say.proofs.GatheringLemmas.{says_then, says_nothing, says_then_fails}

-- a place of a list and what follows it
pub drop-here : {X : Type 0} (xs : List X) (i : ℕ) (x : X) → Some x ≡ slice_get xs i → drop i xs ≡ x ∷ drop (i + 1) xs
drop-here [] i x e = cc
drop-here (y ∷ xs) zero x e = let f : x ≡ y = some-inj e in rw f refl
  where
    some-inj : {A : Type 0} {a b : A} → Some a ≡ Some b → a ≡ b
    some-inj e = cc
drop-here (y ∷ xs) (suc i) x e = let n : suc (i + 1) ≡ suc i + 1 = omega arith in drop-here xs i x e ∙ ap (λ (k : ℕ). x ∷ drop k (y ∷ xs)) n

pub drop-none : {X : Type 0} (xs : List X) (i : ℕ) → None ≡ slice_get xs i → drop i xs ≡ []
drop-none [] zero e = refl
drop-none [] (suc i) e = refl
drop-none (y ∷ xs) zero e = cc
drop-none (y ∷ xs) (suc i) e = drop-none xs i e

pub get-none : {X : Type 0} (xs : List X) → None ≡ slice_get xs (length xs)
get-none [] = refl
get-none (x ∷ xs) = get-none xs

-- A send along wires: its next wire, and the wires behind it.
pub wire-goes : (net : Net) (depth selector : ℕ) (atoms : List Atom) (hop : Hop) (tasks : List Task) (p : Place) (next : Option Hop)
    → doing p depth selector atoms ≡ delivery depth selector atoms (end_of net.web hop)
    → ((node outlet i : ℕ) → slice_get (fan_hops net.web node outlet) i ≡ Some hop → next ≡ slice_get (fan_hops net.web node outlet) (i + 1))
    → GoesAlong net depth selector atoms (Some hop) tasks
    → StartsWith (CursorTasks net depth selector atoms (Wires next)) (doing p depth selector atoms) tasks
wire-goes net depth selector atoms hop tasks p next leads behind goes =
    let a : IsAlong net (Some hop) goes.hops = goes.along_them in
    let split : goes.hops ≡ hop ∷ drop (a.place + 1) (fan_hops net.web a.node a.outlet) = a.rest ∙ drop-here (fan_hops net.web a.node a.outlet) a.place hop a.first in
    record {
      later = along net.web depth selector atoms (drop (a.place + 1) (fan_hops net.web a.node a.outlet));
      is = goes.are ∙ ap (λ (l : List Hop). along net.web depth selector atoms l) split
          ∙ ap (λ (t : Task). t ∷ along net.web depth selector atoms (drop (a.place + 1) (fan_hops net.web a.node a.outlet))) (sym leads);
      then = record {
        hops = drop (a.place + 1) (fan_hops net.web a.node a.outlet);
        along_them = record { node = a.node; outlet = a.outlet; place = a.place + 1; first = behind a.node a.outlet a.place (sym a.first); rest = refl };
        are = refl;
      };
    }

pub wire-ends : (net : Net) (depth selector : ℕ) (atoms : List Atom) (tasks : List Task) → GoesAlong net depth selector atoms None tasks → tasks ≡ []
wire-ends net depth selector atoms tasks goes =
    let a : IsAlong net None goes.hops = goes.along_them in
    goes.are ∙ ap (λ (l : List Hop). along net.web depth selector atoms l) (a.rest ∙ drop-none (fan_hops net.web a.node a.outlet) a.place a.first)

-- the tasks of the top and of what lies below it
pub pops : (net : Net) (atoms : List Atom) (old ps : List Pending) (top : Pending) (tasks : List Task) → old ≡ top ∷ ps → AreLeft net atoms old tasks → Joins (PendingTasks net atoms top) (AreLeft net atoms ps) tasks
pops net atoms old ps top tasks is left = subst (λ (l : List Pending). AreLeft net atoms l tasks) is left

some-same : {X : Type 0} {a b : X} → Some a ≡ Some b → a ≡ b
some-same e = cc

-- a turn that gives a task
pub turn-found : (net : Net) (pile : Pile) (top : Pending) (t : Turn) (due : Due) (tasks : List Task) → Some due ≡ due_in top t → AfterTurn net pile top t tasks → StartsWith (LeftOn net pile) (told pile.atoms due) tasks
turn-found net pile top (turn.Due p rest) due tasks e after = subst (λ (d : Due). StartsWith (LeftOn net pile) (told pile.atoms d) tasks) (sym (some-same e)) after
turn-found net pile top (turn.Resumed node) due tasks e after = subst (λ (d : Due). StartsWith (LeftOn net pile) (told pile.atoms d) tasks) (sym (some-same e)) after
turn-found net pile top (turn.Unheard name) due tasks e after = cc
turn-found net pile top turn.Over due tasks e after = cc

-- a turn that gives none
record Passes (net : Net) (names : Names) (pile : Pile) (t : Turn) (tasks : List Task) : Type 0 where
  pub unheard : List ℕ
  pub later : List Task
  pub is : tasks ≡ nobodies unheard ++ later
  pub left : LeftOn net pile later
  pub text : turn_text names t ≡ flat_map (nobody_text names) unheard

turn-passes : (net : Net) (names : Names) (pile : Pile) (top : Pending) (t : Turn) (tasks : List Task) → None ≡ due_in top t → AfterTurn net pile top t tasks → Passes net names pile t tasks
turn-passes net names pile top (turn.Due p rest) tasks e after = cc
turn-passes net names pile top (turn.Resumed node) tasks e after = cc
turn-passes net names pile top (turn.Unheard name) tasks e after = record { unheard = name ∷ []; later = after.later; is = after.is; left = after.then; text = sym (append-nil (nobody_text names name)) }
turn-passes net names pile top turn.Over tasks e after = record { unheard = []; later = tasks; is = refl; left = after; text = refl }

nobodies-append : (xs ys : List ℕ) → nobodies (xs ++ ys) ≡ nobodies xs ++ nobodies ys
nobodies-append [] ys = refl
nobodies-append (x ∷ xs) ys = ap (λ (l : List Task). Nobody x ∷ l) (nobodies-append xs ys)

pub yields-start : (net : Net) (names : Names) (t : Option (List ℕ)) (h : List ℕ) (pile : Pile) (tasks : List Task) → LeftOn net pile tasks → Yields net names t h t h pile [] tasks
yields-start net names t h pile tasks left = record { unheard = []; later = tasks; is = refl; left = left; says = says_nothing t h }

module _ (net : Net) (names : Names) (t0 t1 : Option (List ℕ)) (h0 h1 : List ℕ) (pile pile1 pile2 : Pile) (top : Pending) (t : Turn)
    (popped : pile.pendings ≡ top ∷ pile1.pendings) (same : pile1.atoms ≡ pile.atoms)
    (turns : (depth selector : ℕ) (atoms : List Atom) (ts : List Task) → CursorTasks net depth selector atoms top.cursor ts → TurnTasks net depth selector atoms t ts)
    (settles : (n : Net) (here later : List Task) → TurnTasks n top.depth top.selector (message_of pile1.atoms top) t here → AreLeft n pile1.atoms pile1.pendings later → AfterTurn n pile2 top t (here ++ later)) where
  after : (tasks : List Task) → LeftOn net pile tasks → AfterTurn net pile2 top t tasks
  after tasks left =
      let j : Joins (PendingTasks net pile1.atoms top) (AreLeft net pile1.atoms pile1.pendings) tasks
      = pops net pile1.atoms pile.pendings pile1.pendings top tasks popped (subst (λ (l : List Atom). AreLeft net l pile.pendings tasks) (sym same) left) in
      subst (λ (l : List Task). AfterTurn net pile2 top t l) (sym j.is)
      (settles net j.here j.later (turns top.depth top.selector (message_of pile1.atoms top) j.here j.first) j.then)

  -- the next task is found
  pub yields-found : (tasks : List Task) (due : Due) → Some due ≡ due_in top t → Yields net names t0 h0 t1 h1 pile [] tasks → Yields net names t0 h0 t1 h1 pile2 (told pile2.atoms due ∷ []) tasks
  yields-found tasks due found y =
      let s = turn-found net pile2 top t due y.later found (after y.later y.left) in
      record { unheard = y.unheard; later = s.later; is = y.is ∙ ap (λ (l : List Task). nobodies y.unheard ++ l) s.is; left = s.then; says = y.says }

  -- a send that is done, with what is said of it
  pub yields-passes : (tasks : List Task) (t2 : Option (List ℕ)) (h2 : List ℕ) → None ≡ due_in top t → Yields net names t0 h0 t1 h1 pile [] tasks → Says t1 h1 t2 h2 (turn_text names t) → Yields net names t0 h0 t2 h2 pile2 [] tasks
  yields-passes tasks t2 h2 none y says =
      let p = turn-passes net names pile2 top t y.later none (after y.later y.left) in
      record {
        unheard = y.unheard ++ p.unheard;
        later = p.later;
        is = y.is ∙ ap (λ (l : List Task). nobodies y.unheard ++ l) p.is ∙ sym (append_assoc (nobodies y.unheard) (nobodies p.unheard) p.later) ∙ ap (λ (l : List Task). l ++ p.later) (sym (nobodies-append y.unheard p.unheard));
        left = p.left;
        says = subst (λ (l : List ℕ). Says t0 h0 t2 h2 l) (ap (λ (l : List ℕ). flat_map (nobody_text names) y.unheard ++ l) p.text ∙ sym (flat_map-append (nobody_text names) y.unheard p.unheard))
            (says_then t0 t1 t2 h0 h1 h2 (flat_map (nobody_text names) y.unheard) (turn_text names t) y.says says);
      }

  -- it fails at that
  pub breaks : (tasks : List Task) (t2 : Option (List ℕ)) → None ≡ due_in top t → Yields net names t0 h0 t1 h1 pile [] tasks → Fails t1 h1 t2 (turn_text names t) → BreaksOff names t0 h0 t2 tasks
  breaks tasks t2 none y fails =
      let p = turn-passes net names pile2 top t y.later none (after y.later y.left) in
      record {
        unheard = y.unheard ++ p.unheard;
        later = p.later;
        is = y.is ∙ ap (λ (l : List Task). nobodies y.unheard ++ l) p.is ∙ sym (append_assoc (nobodies y.unheard) (nobodies p.unheard) p.later) ∙ ap (λ (l : List Task). l ++ p.later) (sym (nobodies-append y.unheard p.unheard));
        fails = subst (λ (l : List ℕ). Fails t0 h0 t2 l) (ap (λ (l : List ℕ). flat_map (nobody_text names) y.unheard ++ l) p.text ∙ sym (flat_map-append (nobody_text names) y.unheard p.unheard))
            (says_then_fails t0 t1 t2 h0 h1 (flat_map (nobody_text names) y.unheard) (turn_text names t) y.says fails);
      }
