-- What a box does at a task, part by part.
use Rattle.std.proofs.Common.{arith, ◌≡◌, ℕ, ◌+◌, ◌≤◌, ◌<◌, suc, Bool, true, false, cond, ◌&&◌, ◌||◌, not, nat_le, ◌==◌, length, List, [], ◌∷◌, ◌++◌, map, Option, refl, sym, ◌∙◌, ap, subst, append_assoc}
use Rattle.std.specs.List.{flat_map}
use Rattle.std.proofs.lemmas.Bool.Decides.{nat_tests}
use Rattle.pd_atom.specs.Names.{Names}
use Rattle.pd_atom.specs.declared.Atom.{Atom}
use Rattle.pd_kind.specs.Said.{Said}
use Rattle.pd_say.specs.Gathering.{Says, Fails}
use Rattle.pd_say.proofs.GatheringLemmas.{says_then, says_then_fails, fails_sooner}
use Rattle.pd_queue.specs.declared.asking.Verb.{Verb}
use Rattle.pd_queue.specs.Asking as asking
use Rattle.pd_queue.specs.Queue.{Waiting, answer_to, after_asking}
use Rattle.std.specs.Prelude.{Some}
use Rattle.pd_hearing.specs.Guards.{is_few}
use Rattle.pd_patch.specs.declared.patch.Patch.{Patch}
use Rattle.pd_stack.specs.Pile.{Pile}
use Rattle.pd_hearing.specs.Worlds.{Net, Kept, net_of, kept_of, states_of}
use Rattle.pd_hearing.specs.Hearing.{Reply, heard_at, resumed_at}
use Rattle.pd_hearing.specs.Deeds.{done}
use Rattle.pd_kind.specs.declared.sends.SendRow.{SendRow}
use Rattle.pd_kind.specs.Rows.{Send, send_of}
use Rattle.pd_stack.specs.declared.steps.Place.{Place}
use Rattle.pd_stack.specs.declared.steps.Place.TheVariants as place
use Rattle.pd_stack.specs.Tasks.{Task, sent, again_after}
use Rattle.pd_walk.specs.Acts.{kept_after, said_at, caused, kept_by, said_by_box, asked_for, notices_text, printed, overflow_text, is_too_deep, sends_of, is_again, has_some, queue_with, asked_text, answer_text, verb_in, path_in, is_near}
use Rattle.pd_stack.specs.Turns.{doing}
use Rattle.pd_stack.specs.Piles.{LeftOn}

module _ (net net1 net2 : Net) (same1 : net1 ≡ net) (same2 : net2 ≡ net1) (depth node selector : ℕ) (atoms : List Atom) (r r0 : Reply) (is : r0 ≡ r)
    (t0 t1 t2 t3 : Option (List ℕ)) (h0 h1 h2 h3 : List ℕ) where
  pub box-says : Says t0 h0 t1 h1 (notices_text r0.names r0.said.notices) → Says t1 h1 t2 h2 (printed net1 r0.names node r0.said.deed selector atoms)
      → Says t2 h2 t3 h3 (overflow_text (is_too_deep net2 depth node r0.said)) → Says t0 h0 t3 h3 (said_by_box net depth node selector atoms r)
  box-says a b c =
      let b2 : Says t1 h1 t2 h2 (printed net r0.names node r0.said.deed selector atoms) = subst (λ (n : Net). Says t1 h1 t2 h2 (printed n r0.names node r0.said.deed selector atoms)) same1 b in
      let c2 : Says t2 h2 t3 h3 (overflow_text (is_too_deep net depth node r0.said)) = subst (λ (n : Net). Says t2 h2 t3 h3 (overflow_text (is_too_deep n depth node r0.said))) (same2 ∙ same1) c in
      subst (λ (x : Reply). Says t0 h0 t3 h3 (said_by_box net depth node selector atoms x)) is
      (says_then t0 t1 t3 h0 h1 h3 (notices_text r0.names r0.said.notices) (printed net r0.names node r0.said.deed selector atoms ++ overflow_text (is_too_deep net depth node r0.said)) a
      (says_then t1 t2 t3 h1 h2 h3 (printed net r0.names node r0.said.deed selector atoms) (overflow_text (is_too_deep net depth node r0.said)) b2 c2))

  pub box-fails : Says t0 h0 t1 h1 (notices_text r0.names r0.said.notices) → Says t1 h1 t2 h2 (printed net1 r0.names node r0.said.deed selector atoms)
      → Fails t2 h2 t3 (overflow_text (is_too_deep net2 depth node r0.said)) → Fails t0 h0 t3 (said_by_box net depth node selector atoms r)
  box-fails a b c =
      let b2 : Says t1 h1 t2 h2 (printed net r0.names node r0.said.deed selector atoms) = subst (λ (n : Net). Says t1 h1 t2 h2 (printed n r0.names node r0.said.deed selector atoms)) same1 b in
      let c2 : Fails t2 h2 t3 (overflow_text (is_too_deep net depth node r0.said)) = subst (λ (n : Net). Fails t2 h2 t3 (overflow_text (is_too_deep n depth node r0.said))) (same2 ∙ same1) c in
      subst (λ (x : Reply). Fails t0 h0 t3 (said_by_box net depth node selector atoms x)) is
      (says_then_fails t0 t1 t3 h0 h1 (notices_text r0.names r0.said.notices) (printed net r0.names node r0.said.deed selector atoms ++ overflow_text (is_too_deep net depth node r0.said)) a
      (says_then_fails t1 t2 t3 h1 h2 (printed net r0.names node r0.said.deed selector atoms) (overflow_text (is_too_deep net depth node r0.said)) b2 c2))

  pub print-fails : Says t0 h0 t1 h1 (notices_text r0.names r0.said.notices) → Fails t1 h1 t2 (printed net1 r0.names node r0.said.deed selector atoms) → Fails t0 h0 t2 (said_by_box net depth node selector atoms r)
  print-fails a b =
      let b2 : Fails t1 h1 t2 (printed net r0.names node r0.said.deed selector atoms) = subst (λ (n : Net). Fails t1 h1 t2 (printed n r0.names node r0.said.deed selector atoms)) same1 b in
      subst (λ (x : Reply). Fails t0 h0 t2 (said_by_box net depth node selector atoms x)) is
      (says_then_fails t0 t1 t2 h0 h1 (notices_text r0.names r0.said.notices) (printed net r0.names node r0.said.deed selector atoms ++ overflow_text (is_too_deep net depth node r0.said)) a
      (fails_sooner t1 t2 h1 (printed net r0.names node r0.said.deed selector atoms) (overflow_text (is_too_deep net depth node r0.said)) b2))

  pub notices-fail : Fails t0 h0 t1 (notices_text r0.names r0.said.notices) → Fails t0 h0 t1 (said_by_box net depth node selector atoms r)
  notices-fail a =
      subst (λ (x : Reply). Fails t0 h0 t1 (said_by_box net depth node selector atoms x)) is
      (fails_sooner t0 t1 h0 (notices_text r0.names r0.said.notices) (printed net r0.names node r0.said.deed selector atoms ++ overflow_text (is_too_deep net depth node r0.said)) a)

-- what follows from what a box says
pub asked-left : (net net2 : Net) (depth node : ℕ) (r r0 : Reply) (pile : Pile) (tasks : List Task) → net2 ≡ net → r0 ≡ r → LeftOn net2 pile (asked_for net2 depth node r0.said ++ tasks) → LeftOn net pile (asked_for net depth node r.said ++ tasks)
asked-left net net2 depth node r r0 pile tasks same is left =
    subst (λ (n : Net). LeftOn n pile (asked_for n depth node r.said ++ tasks)) same (subst (λ (x : Reply). LeftOn net2 pile (asked_for net2 depth node x.said ++ tasks)) is left)

-- what is kept after a box acted
pub acts-kept : (old mid new : Patch) (now node : ℕ) (names names2 : Names) (queue : Waiting) (said : Said) (r : Reply)
    → record { states = states_of mid; names = names2; said = said } ≡ r → net_of mid ≡ net_of old → mid.timers ≡ old.timers
    → kept_of new names2 queue ≡ done (net_of mid) now node said.deed (kept_of mid names2 queue)
    → kept_of new names2 queue ≡ kept_by (net_of old) now node (kept_of old names queue) r
acts-kept old mid new now node names names2 queue said r is same timers deed =
    deed
    ∙ ap (λ (n : Net). done n now node said.deed (kept_of mid names2 queue)) same
    ∙ ap (λ t. done (net_of old) now node said.deed (record { states = states_of mid; clocks = t.clocks.clocks; names = names2; queue = queue })) timers
    ∙ ap (λ (x : Reply). kept_by (net_of old) now node (kept_of old names queue) x) is

-- what is said where a box is resumed
module _ (net net2 : Net) (same : net2 ≡ net) (depth node : ℕ) (r r0 : Reply) (is : r0 ≡ r) (t0 t1 : Option (List ℕ)) (h0 : List ℕ) where
  text-same : overflow_text (is_too_deep net2 depth node r0.said) ≡ overflow_text (is_too_deep net depth node r.said)
  text-same =
      ap (λ (n : Net). overflow_text (is_too_deep n depth node r0.said)) same ∙ ap (λ (x : Reply). overflow_text (is_too_deep net depth node x.said)) is

  pub again-says : (h1 : List ℕ) → Says t0 h0 t1 h1 (overflow_text (is_too_deep net2 depth node r0.said)) → Says t0 h0 t1 h1 (overflow_text (is_too_deep net depth node r.said))
  again-says h1 a = subst (λ (l : List ℕ). Says t0 h0 t1 h1 l) text-same a

  pub again-fails : Fails t0 h0 t1 (overflow_text (is_too_deep net2 depth node r0.said)) → Fails t0 h0 t1 (overflow_text (is_too_deep net depth node r.said))
  again-fails a = subst (λ (l : List ℕ). Fails t0 h0 t1 l) text-same a

-- the sends of a box that lead somewhere, as rows
pub rows-sends : (out : Bool) (atoms : List Atom) (rows rows2 : List SendRow) → rows2 ≡ cond out [] rows → map (send_of atoms) rows2 ≡ cond out [] (map (send_of atoms) rows)
rows-sends true atoms rows rows2 e = ap (λ (l : List SendRow). map (send_of atoms) l) e
rows-sends false atoms rows rows2 e = ap (λ (l : List SendRow). map (send_of atoms) l) e

-- what a box asks for
deep-true : (depth : ℕ) → 1000 ≤ depth → nat_le 1000 depth ≡ true
deep-true depth h = grind (arith, nat_tests)

deep-false : (depth : ℕ) → depth < 1000 → nat_le 1000 depth ≡ false
deep-false depth h = grind (arith, nat_tests)

and-no : (a b : Bool) → b ≡ false → (a && b) ≡ false
and-no true b e = e
and-no false b e = refl

or-first : (a b : Bool) → (a || b) ≡ false → a ≡ false
or-first true b e = e
or-first false b e = refl

or-second : (a b : Bool) → (a || b) ≡ false → b ≡ false
or-second true b e = cc
or-second false b e = e

-- whether there are some
pub some_length : {A : Type 0} (xs : List A) (b : Bool) → b ≡ (length xs == 0) → has_some xs ≡ not b
some_length [] b e = rw e refl
some_length (x ∷ xs) b e = sym (ap not (e ∙ no-zero (length xs)))
  where
    no-zero : (n : ℕ) → (suc n == 0) ≡ false
    no-zero n = grind (arith, nat_tests)

some-map : {A B : Type 0} (f : A → B) (xs : List A) → has_some (map f xs) ≡ has_some xs
some-map f [] = refl
some-map f (x ∷ xs) = refl

some-none : {A : Type 0} (xs : List A) → has_some xs ≡ false → xs ≡ []
some-none [] e = refl
some-none (x ∷ xs) e = cc

cond-one : {A : Type 0} (b : Bool) (x : A) → cond b x x ≡ x
cond-one true x = refl
cond-one false x = refl

-- what a box asks for, by rows over atoms that are its sends
module _ (net : Net) (depth node : ℕ) (said : Said) (atoms : List Atom) (rows : List SendRow) (again asks : Bool) (sends : map (send_of atoms) rows ≡ sends_of net node said)
    (is : again ≡ is_again said.deed) (either : asks ≡ (again || has_some rows)) where
  asks-same : (is_again said.deed || has_some (sends_of net node said)) ≡ asks
  asks-same =
      ap (λ (b : Bool). b || has_some (sends_of net node said)) (sym is) ∙ ap (λ (l : List Send). again || has_some l) (sym sends)
      ∙ ap (λ (b : Bool). again || b) (some-map (send_of atoms) rows) ∙ sym either

  -- nothing
  pub quiet-text : asks ≡ false → overflow_text (is_too_deep net depth node said) ≡ []
  quiet-text e = ap (λ (b : Bool). overflow_text b) (and-no (nat_le 1000 depth) (is_again said.deed || has_some (sends_of net node said)) (asks-same ∙ e))

  pub quiet-asked : asks ≡ false → asked_for net depth node said ≡ []
  quiet-asked e =
      let or : (again || has_some rows) ≡ false = sym either ∙ e in
      let a : is_again said.deed ≡ false = sym is ∙ or-first again (has_some rows) or in
      let r : rows ≡ [] = some-none rows (or-second again (has_some rows) or) in
      let s : sends_of net node said ≡ [] = sym sends ∙ ap (λ (l : List SendRow). map (send_of atoms) l) r in
      ap (λ (b : Bool). cond (nat_le 1000 depth) [] (flat_map (sent net (depth + 1) node) (sends_of net node said) ++ again_after depth node b)) a
      ∙ ap (λ (l : List Send). cond (nat_le 1000 depth) [] (flat_map (sent net (depth + 1) node) l ++ again_after depth node false)) s
      ∙ cond-one (nat_le 1000 depth) []

  -- too much at the greatest depth
  pub deep-text : 1000 ≤ depth → asks ≡ true → overflow_text (is_too_deep net depth node said) ≡ overflow_text true
  deep-text h e = ap (λ (b : Bool). overflow_text (b && (is_again said.deed || has_some (sends_of net node said)))) (deep-true depth h) ∙ ap (λ (b : Bool). overflow_text b) (asks-same ∙ e)

  pub deep-asked : 1000 ≤ depth → asked_for net depth node said ≡ []
  deep-asked h =
      ap (λ (b : Bool). cond b [] (flat_map (sent net (depth + 1) node) (sends_of net node said) ++ again_after depth node (is_again said.deed))) (deep-true depth h)

  -- something, with room below it
  pub some-text : depth < 1000 → overflow_text (is_too_deep net depth node said) ≡ []
  some-text h = ap (λ (b : Bool). overflow_text (b && (is_again said.deed || has_some (sends_of net node said)))) (deep-false depth h)

  pub some-left : (pile : Pile) (tasks : List Task) → depth < 1000
      → LeftOn net pile (flat_map (sent net (depth + 1) node) (map (send_of atoms) rows) ++ (again_after depth node again ++ tasks))
      → LeftOn net pile (asked_for net depth node said ++ tasks)
  some-left pile tasks h left =
      let F : List Send → List Task = λ (l : List Send). flat_map (sent net (depth + 1) node) l in
      let e : asked_for net depth node said ≡ F (map (send_of atoms) rows) ++ again_after depth node again
      = ap (λ (b : Bool). cond b [] (F (sends_of net node said) ++ again_after depth node (is_again said.deed))) (deep-false depth h)
      ∙ ap (λ (b : Bool). F (sends_of net node said) ++ again_after depth node b) (sym is)
      ∙ ap (λ (l : List Send). F l ++ again_after depth node again) (sym sends) in
      subst (λ (l : List Task). LeftOn net pile l)
      (sym (ap (λ (l : List Task). l ++ tasks) e ∙ append_assoc (F (map (send_of atoms) rows)) (again_after depth node again) tasks)) left

-- a task by its place
module _ (net : Net) (now : ℕ) (kept : Kept) (p : Place) (depth selector : ℕ) (atoms : List Atom) where
  pub inlet-kept : (node inlet : ℕ) → p ≡ place.Inlet node inlet
      → kept_after net now kept (doing p depth selector atoms) ≡ kept_by net now node kept (heard_at net now kept.states kept.names node inlet selector atoms)
  unfolding kept_after
  inlet-kept node inlet e = ap (λ (q : Place). kept_after net now kept (doing q depth selector atoms)) e

  pub inlet-said : (node inlet : ℕ) → p ≡ place.Inlet node inlet
      → said_at net now kept (doing p depth selector atoms) ≡ said_by_box net depth node selector atoms (heard_at net now kept.states kept.names node inlet selector atoms)
  unfolding said_at
  inlet-said node inlet e = ap (λ (q : Place). said_at net now kept (doing q depth selector atoms)) e

  pub inlet-caused : (node inlet : ℕ) → p ≡ place.Inlet node inlet
      → caused net now kept (doing p depth selector atoms) ≡ asked_for net depth node (heard_at net now kept.states kept.names node inlet selector atoms).said
  unfolding caused
  inlet-caused node inlet e = ap (λ (q : Place). caused net now kept (doing q depth selector atoms)) e

  pub again-kept : (node : ℕ) → p ≡ place.Again node
      → kept_after net now kept (doing p depth selector atoms) ≡ kept_by net now node kept (resumed_at net kept.states kept.names node)
  unfolding kept_after
  again-kept node e = ap (λ (q : Place). kept_after net now kept (doing q depth selector atoms)) e

  pub again-said : (node : ℕ) → p ≡ place.Again node
      → said_at net now kept (doing p depth selector atoms) ≡ overflow_text (is_too_deep net depth node (resumed_at net kept.states kept.names node).said)
  unfolding said_at
  again-said node e = ap (λ (q : Place). said_at net now kept (doing q depth selector atoms)) e

  pub again-caused : (node : ℕ) → p ≡ place.Again node
      → caused net now kept (doing p depth selector atoms) ≡ asked_for net depth node (resumed_at net kept.states kept.names node).said
  unfolding caused
  again-caused node e = ap (λ (q : Place). caused net now kept (doing q depth selector atoms)) e

  pub canvas-kept : (canvas : ℕ) → p ≡ place.Canvas canvas
      → kept_after net now kept (doing p depth selector atoms)
      ≡ record { states = kept.states; clocks = kept.clocks; names = kept.names; queue = queue_with net canvas atoms kept.queue (verb_in kept.names selector) }
  unfolding kept_after
  canvas-kept canvas e = ap (λ (q : Place). kept_after net now kept (doing q depth selector atoms)) e

  pub canvas-said : (canvas : ℕ) → p ≡ place.Canvas canvas
      → said_at net now kept (doing p depth selector atoms) ≡ asked_text net canvas selector atoms kept.names kept.queue (verb_in kept.names selector)
  unfolding said_at
  canvas-said canvas e = ap (λ (q : Place). said_at net now kept (doing q depth selector atoms)) e

  pub canvas-caused : (canvas : ℕ) → p ≡ place.Canvas canvas → caused net now kept (doing p depth selector atoms) ≡ []
  unfolding caused
  canvas-caused canvas e = ap (λ (q : Place). caused net now kept (doing q depth selector atoms)) e

-- a canvas is asked for an edit that can wait, or for one that can't
module _ (net : Net) (canvas : ℕ) (atoms : List Atom) (queue : Waiting) (v : Verb) (path : List ℕ) (near : Bool) (is : path ≡ path_in net canvas)
    (reach : near ≡ (is_few atoms && is_near path)) where
  reach-same : (is_few atoms && is_near (path_in net canvas)) ≡ near
  reach-same = ap (λ (p : List ℕ). is_few atoms && is_near p) (sym is) ∙ sym reach

  pub far-queue : near ≡ false → queue ≡ queue_with net canvas atoms queue (Some v)
  far-queue e = sym (ap (λ (t : Bool). cond t (after_asking (path_in net canvas) (asking.asked v atoms) queue) queue) (reach-same ∙ e))

  pub near-queue : near ≡ true → after_asking path (asking.asked v atoms) queue ≡ queue_with net canvas atoms queue (Some v)
  near-queue e =
      ap (λ (p : List ℕ). after_asking p (asking.asked v atoms) queue) is
      ∙ sym (ap (λ (t : Bool). cond t (after_asking (path_in net canvas) (asking.asked v atoms) queue) queue) (reach-same ∙ e))

  pub far-text : (names : Names) (selector : ℕ) → near ≡ false → asked_text net canvas selector atoms names queue (Some v) ≡ []
  far-text names selector e = ap (λ (t : Bool). cond t (answer_text names selector (answer_to (asking.asked v atoms) queue)) []) (reach-same ∙ e)

  pub near-text : (names : Names) (selector : ℕ) → near ≡ true
      → asked_text net canvas selector atoms names queue (Some v) ≡ answer_text names selector (answer_to (asking.asked v atoms) queue)
  near-text names selector e = ap (λ (t : Bool). cond t (answer_text names selector (answer_to (asking.asked v atoms) queue)) []) (reach-same ∙ e)
