-- Over a whole delivery all stays in order, and nothing is passed over.
use Rattle.std.proofs.Common.{◌≡◌, ◌≤◌, ℕ, ℤ, ◌+◌, ◌^◌, ◌<◌, Bool, true, false, cond, ◌&&◌, nat_le, List, [], ◌∷◌, ◌++◌, length, map, Option, Some, None, IfSome, option_map, refl, sym, ap, subst, ◌∙◌, arith}
use Rattle.std.proofs.Math.ListN.{length-set}
use Rattle.std.specs.List.{AllByRecursion, flat_map}
use Rattle.pd_atom.specs.Names.{Names, Extends, name_of}
use Rattle.pd_atom.specs.declared.Atom.{Atom}
use Rattle.pd_name.specs.Rows.{owners_of}
use Rattle.pd_name.specs.declared.Class.TheVariants.{Receiver}
use Rattle.pd_object.specs.declared.kinds.Kind.{Kind}
use Rattle.pd_object.specs.declared.kinds.Kind.TheVariants as kind
use Rattle.pd_object.specs.declared.kinds.Glue.{Glue}
use Rattle.pd_object.specs.declared.kinds.Glue.TheVariants as glue
use Rattle.pd_kind.specs.declared.messages.Deed.{Deed}
use Rattle.pd_kind.specs.declared.messages.Deed.TheVariants as deed
use Rattle.pd_kind.specs.declared.messages.Notice.{Notice}
use Rattle.pd_kind.specs.declared.messages.Target.{Target}
use Rattle.pd_kind.specs.declared.messages.Target.TheVariants as target
use Rattle.pd_kind.specs.declared.states.State.{State}
use Rattle.pd_kind.specs.declared.states.State.TheVariants as state
use Rattle.pd_kind.specs.Said.{Said}
use Rattle.pd_kind.specs.Tables.{with_value}
use Rattle.pd_bind.specs.declared.owners.Owner.{Owner}
use Rattle.pd_bind.specs.declared.owners.Owner.TheVariants as owner
use Rattle.pd_grove.specs.Telling.{kind_in}
use Rattle.pd_queue.specs.declared.asking.Verb.{Verb}
use Rattle.pd_queue.specs.declared.queue.Asked.{Asked}
use Rattle.pd_queue.specs.declared.queue.Asked.TheVariants as asked_as
use Rattle.pd_queue.specs.Asking.{verb_named, asked}
use Rattle.pd_queue.specs.Queue.{Waiting, answer_to, after_asking}
use Rattle.pd_say.specs.Lines.{text_of, notice_line, print_line}
use Rattle.pd_turns.specs.Turns.{Rules, World, all_finished}
use Rattle.pd_walk.specs.declared.walker.Start.{Start}
use Rattle.pd_walk.specs.declared.walker.Start.TheVariants as start
use Rattle.pd_hearing.specs.Worlds.{Net, Kept}
use Rattle.pd_hearing.specs.Guards.{are_atoms, is_few}
use Rattle.pd_hearing.specs.Hearing.{Reply, heard_at, resumed_at, fired_at, loaded_at, table_owner, table_named}
use Rattle.pd_hearing.specs.Deeds.{written_at, written, done, replied}
use Rattle.pd_stack.specs.Tasks.{Task, Deliver, Ask, Resume, Nobody, delivery, end_of, owner_told, arrival, to_owners, unless_heard, to_name, wires_from, leads_out, sent_to, sent, again_after}
use Rattle.pd_walk.specs.Acts.{sends_of, is_again, asked_for, notice_text, notices_text, words_printed, printed, glue_words, print_words, is_print, canvas_text, verb_in, is_near, path_in, queue_with, answer_text, asked_text, overflow_text, is_too_deep, kept_by, kept_after, said_by_box, said_at, caused, rules}
use Rattle.pd_walk.specs.Outcome.{ran, after_deed, told_by, all_loaded, named_tasks, outcome}
use Rattle.pd_guards.specs.Order.{IsNumber, HasFirst, IsName, AreAtoms, IsMessage, IsKept, HasWords, IsKind, IsTarget, IsSend, IsDeed, IsNotice, IsSaid}
use Rattle.pd_guards.specs.Worlds.{AreKept, AreKinds, IsInOrder, IsTask, IsReply, IsStart}
use Rattle.pd_guards.specs.Near.{IsNear, AreNear, AsksNear}
use Rattle.pd_guards.specs.Freely as free
use Rattle.pd_guards.specs.Freely.{kept_after as free_kept, said_at as free_said, caused as free_caused, heard_at as free_at, outcome as free_outcome}
use Rattle.pd_guards.proofs.FactLemmas.{either, all-append, all-both, all-flat, all-set}
use Rattle.pd_guards.proofs.MoreLemmas.{longer, first_more, name_more, message_more, kind_more}
use Rattle.pd_guards.proofs.GuardLemmas.{true_and, few_true, near_true, name_true, atoms_true, known_true}
use Rattle.pd_guards.proofs.HearLemmas.{set_in, at_same, at_in, resumed_reply, clock_said, load_said}
use Rattle.pd_guards.proofs.SameTurns.{Agree, agree_self, Same, all_same}
use Rattle.pd_guards.proofs.NearLemmas.{name_near, asked_near, caused_near}

-- what a box asks for
map_all : {A : Type 0} (names : Names) (f : A → Task) → ((x : A) → IsTask names (f x)) → (xs : List A) → AllByRecursion (IsTask names) (map f xs)
map_all names f k [] = tt
map_all names f k (x ∷ xs) = (k x, map_all names f k xs)

module _ (names : Names) (net : Net) (depth node : ℕ) where
  arrival_in : (selector : ℕ) (atoms : List Atom) → IsMessage names selector atoms → (o : Owner) → IsTask names (arrival depth selector atoms o)
  arrival_in selector atoms m (owner.Node k) = m
  arrival_in selector atoms m (owner.Canvas k) = m

  unless_in : (loud : Bool) (name : ℕ) (owners : List ℕ) → IsName names name → AllByRecursion (IsTask names) (unless_heard loud name owners)
  unless_in true name [] h = (h, tt)
  unless_in loud name owners h = tt

  pub name_in : (selector : ℕ) (atoms : List Atom) (name : ℕ) (loud : Bool) → IsMessage names selector atoms → IsName names name → AllByRecursion (IsTask names) (to_name net depth selector atoms name loud)
  name_in selector atoms name loud m h =
      let owners = owners_of net.owners Receiver name in
      all-append (IsTask names) (to_owners net depth selector atoms owners) (unless_heard loud name owners)
      (map_all names (λ k. arrival depth selector atoms (owner_told net k)) (λ k. arrival_in selector atoms m (owner_told net k)) owners) (unless_in loud name owners h)

  target_in : (selector : ℕ) (atoms : List Atom) (t : Target) → IsMessage names selector atoms → IsTarget names t → AllByRecursion (IsTask names) (sent_to net depth node selector atoms t)
  target_in selector atoms (target.Outlet outlet) m h = map_all names (λ hop. delivery depth selector atoms (end_of net.web hop)) (λ hop. m) (wires_from net node outlet)
  target_in selector atoms (target.Name name loud) m h = name_in selector atoms name loud m h

pub asked_in : (names : Names) (net : Net) (depth node : ℕ) (said : Said) → IsSaid names said → AllByRecursion (IsTask names) (asked_for net depth node said)
asked_in names net depth node said h =
    let P = AllByRecursion (IsTask names) in
    either P (nat_le 1000 depth) [] _ tt
    (all-append (IsTask names) (flat_map (sent net (depth + 1) node) (sends_of net node said)) (again_after depth node (is_again said.deed))
    (all-flat (IsSend names) (IsTask names) (sent net (depth + 1) node) (λ s k. target_in names net (depth + 1) node s.selector s.atoms s.target k.message k.target) (sends_of net node said)
    (either (AllByRecursion (IsSend names)) (leads_out net node) [] said.sends tt h.sends))
    (either P (is_again said.deed) (Resume depth node ∷ []) [] (tt, tt) tt))

-- deeds
value_in : (names : Names) (now : ℕ) (s : State) (i : ℕ) (z : ℤ) → IsKept names now s → IsNumber z → IsKept names now (with_value s i z)
value_in names now (state.Table values) i z h k = record { few = let l : length values < 2 ^ 32 = h.few in omega (arith, length-set values i z); numbers = all-set IsNumber values i z k h.numbers }
value_in names now (state.Array values) i z h k = record { few = let l : length values < 2 ^ 32 = h.few in omega (arith, length-set values i z); numbers = all-set IsNumber values i z k h.numbers }
value_in names now s i z h k = h

module _ (names : Names) (first : HasFirst names) (now : ℕ) (time : now ≤ 2 ^ 101) (states : ℕ → Option State) (kept : AreKept names now states) (i : ℕ) (z : ℤ) (k : IsNumber z) where
  mapped_in : (o : Option State) → IfSome o (IsKept names now) → IfSome (option_map (λ s. with_value s i z) o) (IsKept names now)
  mapped_in None h = tt
  mapped_in (Some s) h = value_in names now s i z h k

  written_at-in : (o : Option ℕ) → AreKept names now (written_at states i z o)
  written_at-in None = kept
  written_at-in (Some node) = set_in names first now time states node (option_map (λ s. with_value s i z) (states node)) kept (mapped_in (states node) (kept node))

  written_in : (net : Net) (o : Option ℕ) → AreKept names now (written net states i z o)
  written_in net None = kept
  written_in net (Some name) = written_at-in (table_owner net name)

pub done_in : (net : Net) (now node : ℕ) (d : Deed) (kept : Kept) → IsInOrder net now kept → IsDeed d → IsInOrder net now (done net now node d kept)
unfolding done
done_in net now node (deed.SetClock time) kept h k = record { time = h.time; first = h.first; kinds = h.kinds; states = h.states }
done_in net now node deed.ClearClock kept h k = record { time = h.time; first = h.first; kinds = h.kinds; states = h.states }
done_in net now node (deed.WriteTable i z) kept h k =
    record { time = h.time; first = h.first; kinds = h.kinds; states = written_in kept.names h.first now h.time kept.states h.states i z k net (table_named (kind_in (net.nodes node))) }
done_in net now node deed.Nothing kept h k = h
done_in net now node deed.Print kept h k = h
done_in net now node deed.Again kept h k = h

pub done_names : (net : Net) (now node : ℕ) (d : Deed) (kept : Kept) → (done net now node d kept).names ≡ kept.names
unfolding done
done_names net now node (deed.SetClock time) kept = refl
done_names net now node deed.ClearClock kept = refl
done_names net now node (deed.WriteTable i z) kept = refl
done_names net now node deed.Nothing kept = refl
done_names net now node deed.Print kept = refl
done_names net now node deed.Again kept = refl

-- a box that acted
maybe_kind : (old new : Names) → Extends old new → (o : Option Kind) → IfSome o (IsKind old) → IfSome o (IsKind new)
maybe_kind old new e None h = tt
maybe_kind old new e (Some k) h = kind_more old new (longer old new e) k h

module _ (net : Net) (now node : ℕ) (kept : Kept) (h : IsInOrder net now kept) (r : Reply) (k : IsReply kept.names now r) where
  kinds_after : AreKinds net r.names
  kinds_after j = maybe_kind kept.names r.names k.extends (kind_in (net.nodes j)) (h.kinds j)

  replied_in : IsInOrder net now (replied kept r)
  replied_in = record { time = h.time; first = first_more kept.names r.names (longer kept.names r.names k.extends) h.first; kinds = kinds_after; states = k.states }

  pub by_in : IsInOrder net now (kept_by net now node kept r)
  by_in = done_in net now node r.said.deed (replied kept r) replied_in k.said.deed

  pub by_names : (kept_by net now node kept r).names ≡ r.names
  by_names = done_names net now node r.said.deed (replied kept r)

  task_more : (u : Task) → IsTask kept.names u → IsTask r.names u
  task_more (Deliver depth box inlet selector atoms) m = message_more kept.names r.names (longer kept.names r.names k.extends) selector atoms m
  task_more (Ask depth canvas selector atoms) m = message_more kept.names r.names (longer kept.names r.names k.extends) selector atoms m
  task_more (Resume depth box) m = tt
  task_more (Nobody name) m = name_more kept.names r.names (longer kept.names r.names k.extends) name m

  pub by_others : (u : Task) → IsTask kept.names u → IsTask (kept_by net now node kept r).names u
  by_others u m = subst (λ (n : Names). IsTask n u) (sym by_names) (task_more u m)

  pub by_follow : (depth : ℕ) → AllByRecursion (IsTask (kept_by net now node kept r).names) (asked_for net depth node r.said)
  by_follow depth = subst (λ (n : Names). AllByRecursion (IsTask n) (asked_for net depth node r.said)) (sym by_names) (asked_in r.names net depth node r.said k.said)

  -- what it says, freely and not
  notices_same : (notices : List Notice) → AllByRecursion (IsNotice r.names) notices → free.notices_text r.names notices ≡ notices_text r.names notices
  notices_same [] n = refl
  notices_same (x ∷ notices) n =
      let e : notice_text r.names x ≡ text_of r.names (notice_line x) = ap (λ (b : Bool). cond b (text_of r.names (notice_line x)) []) (known_true r.names x n.0) in
      ap (λ (l : List ℕ). text_of r.names (notice_line x) ++ l) (notices_same notices n.1) ∙ ap (λ (l : List ℕ). l ++ notices_text r.names notices) (sym e)

  module _ (selector : ℕ) (atoms : List Atom) (m : IsMessage kept.names selector atoms) where
    m2 : IsMessage r.names selector atoms
    m2 = message_more kept.names r.names (longer kept.names r.names k.extends) selector atoms m

    words_same : (o : Option (List Atom)) → IfSome o (AreAtoms r.names) → free.words_printed r.names selector atoms o ≡ words_printed r.names selector atoms o
    words_same None w = refl
    words_same (Some words) w =
        sym (ap (λ (b : Bool). cond (b && are_atoms r.names atoms && are_atoms r.names words) (print_line r.names words selector atoms) []) (name_true r.names selector m2.known)
        ∙ ap (λ (b : Bool). cond (b && are_atoms r.names words) (print_line r.names words selector atoms) []) (atoms_true r.names atoms m2.list.all)
        ∙ ap (λ (b : Bool). cond b (print_line r.names words selector atoms) []) (atoms_true r.names words w))

    glue_words-in : (g : Glue) → HasWords r.names g → IfSome (glue_words g) (AreAtoms r.names)
    glue_words-in (glue.Print words) w = w
    glue_words-in g w = tt

    print_words-in : (o : Option Kind) → IfSome o (IsKind r.names) → IfSome (print_words o) (AreAtoms r.names)
    print_words-in None w = tt
    print_words-in (Some (kind.Glue g)) w = glue_words-in g w.words
    print_words-in (Some x) w = tt

    printed_same : free.printed net r.names node r.said.deed selector atoms ≡ printed net r.names node r.said.deed selector atoms
    printed_same = ap (λ (l : List ℕ). cond (is_print r.said.deed) l []) (words_same (print_words (kind_in (net.nodes node))) (print_words-in (kind_in (net.nodes node)) (kinds_after node)))

    pub says_same : (depth : ℕ) → free.said_by_box net depth node selector atoms r ≡ said_by_box net depth node selector atoms r
    says_same depth =
        ap (λ (l : List ℕ). l ++ (free.printed net r.names node r.said.deed selector atoms ++ overflow_text (is_too_deep net depth node r.said))) (notices_same r.said.notices k.said.notices)
        ∙ ap (λ (l : List ℕ). notices_text r.names r.said.notices ++ (l ++ overflow_text (is_too_deep net depth node r.said))) printed_same

-- a canvas that is asked, where it is near
module _ (net : Net) (canvas : ℕ) (near : IsNear net canvas) (selector : ℕ) (atoms : List Atom) (names : Names) (m : IsMessage names selector atoms) (queue : Waiting) where
  verb_same : free.verb_in names selector ≡ verb_in names selector
  verb_same = sym (ap (λ (b : Bool). cond b (verb_named (name_of names selector)) None) (name_true names selector m.known))

  -- the two things that are looked at are so
  looked_at : (is_few atoms && is_near (path_in net canvas)) ≡ true
  looked_at = true_and (is_few atoms) (is_near (path_in net canvas)) (few_true atoms m.list.few) (near_true (path_in net canvas) near)

  queue_some : (o : Option Verb) → free.queue_with net canvas atoms queue o ≡ queue_with net canvas atoms queue o
  queue_some None = refl
  queue_some (Some v) = sym (ap (λ (b : Bool). cond b (after_asking (path_in net canvas) (asked v atoms) queue) queue) looked_at)

  pub queue_same : free.queue_with net canvas atoms queue (free.verb_in names selector) ≡ queue_with net canvas atoms queue (verb_in names selector)
  queue_same = ap (λ (o : Option Verb). free.queue_with net canvas atoms queue o) verb_same ∙ queue_some (verb_in names selector)

  canvas_same : (verb : Bool) → free.canvas_text names selector verb ≡ canvas_text names selector verb
  canvas_same verb = sym (ap (λ (b : Bool). cond b (free.canvas_text names selector verb) []) (name_true names selector m.known))

  answer_same : (a : Asked) → free.answer_text names selector a ≡ answer_text names selector a
  answer_same asked_as.Queued = refl
  answer_same asked_as.BadArguments = canvas_same true
  answer_same asked_as.Full = refl

  text_some : (o : Option Verb) → free.asked_text selector atoms names queue o ≡ asked_text net canvas selector atoms names queue o
  text_some None = canvas_same false
  text_some (Some v) =
      answer_same (answer_to (asked v atoms) queue)
      ∙ sym (ap (λ (b : Bool). cond b (answer_text names selector (answer_to (asked v atoms) queue)) []) looked_at)

  pub text_same : free.asked_text selector atoms names queue (free.verb_in names selector) ≡ asked_text net canvas selector atoms names queue (verb_in names selector)
  text_same = ap (λ (o : Option Verb). free.asked_text selector atoms names queue o) verb_same ∙ text_some (verb_in names selector)

-- the rules agree with the free ones
module _ (net : Net) (now : ℕ) where
  abbrev pub IsTaskAt : Kept → Task → Type 0
  IsTaskAt kept t = IsTask kept.names t

  heard_reply : (kept : Kept) → IsInOrder net now kept → (node inlet selector : ℕ) (atoms : List Atom) → IsMessage kept.names selector atoms → IsReply kept.names now (heard_at net now kept.states kept.names node inlet selector atoms)
  heard_reply kept h node inlet selector atoms m = at_in net now h.time kept.names h.first h.kinds kept.states h.states node inlet selector atoms m

  heard_same : (kept : Kept) → IsInOrder net now kept → (node inlet selector : ℕ) (atoms : List Atom) → IsMessage kept.names selector atoms
      → free_at net now kept.states kept.names node inlet selector atoms ≡ heard_at net now kept.states kept.names node inlet selector atoms
  heard_same kept h node inlet selector atoms m = at_same net now h.time kept.names h.first h.kinds kept.states h.states node inlet selector atoms m

  again_reply : (kept : Kept) → IsInOrder net now kept → (node : ℕ) → IsReply kept.names now (resumed_at net kept.states kept.names node)
  again_reply kept h node = resumed_reply net now h.time kept.names h.first h.kinds kept.states h.states node

  kept_same : (kept : Kept) (t : Task) → IsInOrder net now kept → IsTaskAt kept t → AsksNear net t → free_kept net now kept t ≡ kept_after net now kept t
  unfolding free_kept kept_after
  kept_same kept (Deliver depth node inlet selector atoms) h m near = ap (kept_by net now node kept) (heard_same kept h node inlet selector atoms m)
  kept_same kept (Ask depth canvas selector atoms) h m near =
      ap (λ (q : Waiting). record { states = kept.states; clocks = kept.clocks; names = kept.names; queue = q }) (queue_same net canvas near selector atoms kept.names m kept.queue)
  kept_same kept (Resume depth node) h m near = refl
  kept_same kept (Nobody name) h m near = refl

  said_same : (kept : Kept) (t : Task) → IsInOrder net now kept → IsTaskAt kept t → AsksNear net t → free_said net now kept t ≡ said_at net now kept t
  unfolding free_said said_at
  said_same kept (Deliver depth node inlet selector atoms) h m near =
      ap (free.said_by_box net depth node selector atoms) (heard_same kept h node inlet selector atoms m)
      ∙ says_same net now node kept h (heard_at net now kept.states kept.names node inlet selector atoms) (heard_reply kept h node inlet selector atoms m) selector atoms m depth
  said_same kept (Ask depth canvas selector atoms) h m near = text_same net canvas near selector atoms kept.names m kept.queue
  said_same kept (Resume depth node) h m near = refl
  said_same kept (Nobody name) h m near = sym (ap (λ (b : Bool). cond b (free.nobody_text kept.names name) []) (name_true kept.names name m))

  caused_same : (kept : Kept) (t : Task) → IsInOrder net now kept → IsTaskAt kept t → free_caused net now kept t ≡ caused net now kept t
  unfolding free_caused caused
  caused_same kept (Deliver depth node inlet selector atoms) h m = ap (λ (r : Reply). asked_for net depth node r.said) (heard_same kept h node inlet selector atoms m)
  caused_same kept (Ask depth canvas selector atoms) h m = refl
  caused_same kept (Resume depth node) h m = refl
  caused_same kept (Nobody name) h m = refl

  costs_same : (t : Task) → (free.rules net now).costs t ≡ (rules net now).costs t
  costs_same (Deliver depth node inlet selector atoms) = refl
  costs_same (Ask depth canvas selector atoms) = refl
  costs_same (Resume depth node) = refl
  costs_same (Nobody name) = refl

  pub stays_in : (kept : Kept) (t : Task) → IsInOrder net now kept → IsTaskAt kept t → IsInOrder net now (kept_after net now kept t)
  unfolding kept_after
  stays_in kept (Deliver depth node inlet selector atoms) h m = by_in net now node kept h (heard_at net now kept.states kept.names node inlet selector atoms) (heard_reply kept h node inlet selector atoms m)
  stays_in kept (Ask depth canvas selector atoms) h m = record { time = h.time; first = h.first; kinds = h.kinds; states = h.states }
  stays_in kept (Resume depth node) h m = by_in net now node kept h (resumed_at net kept.states kept.names node) (again_reply kept h node)
  stays_in kept (Nobody name) h m = h

  pub others_in : (kept : Kept) (t : Task) → IsInOrder net now kept → IsTaskAt kept t → (u : Task) → IsTaskAt kept u → IsTaskAt (kept_after net now kept t) u
  unfolding kept_after
  others_in kept (Deliver depth node inlet selector atoms) h m u j = by_others net now node kept h (heard_at net now kept.states kept.names node inlet selector atoms) (heard_reply kept h node inlet selector atoms m) u j
  others_in kept (Ask depth canvas selector atoms) h m u j = j
  others_in kept (Resume depth node) h m u j = by_others net now node kept h (resumed_at net kept.states kept.names node) (again_reply kept h node) u j
  others_in kept (Nobody name) h m u j = j

  pub follow_in : (kept : Kept) (t : Task) → IsInOrder net now kept → IsTaskAt kept t → AllByRecursion (IsTaskAt (kept_after net now kept t)) (caused net now kept t)
  unfolding kept_after caused
  follow_in kept (Deliver depth node inlet selector atoms) h m = by_follow net now node kept h (heard_at net now kept.states kept.names node inlet selector atoms) (heard_reply kept h node inlet selector atoms m) depth
  follow_in kept (Ask depth canvas selector atoms) h m = tt
  follow_in kept (Resume depth node) h m = by_follow net now node kept h (resumed_at net kept.states kept.names node) (again_reply kept h node) depth
  follow_in kept (Nobody name) h m = tt

  -- the rules themselves, and the free ones where tasks ask near canvases
  pub agreed : Agree (rules net now) (rules net now) (IsInOrder net now) IsTaskAt
  agreed = agree_self (rules net now) (IsInOrder net now) IsTaskAt stays_in others_in follow_in

  abbrev IsNearTaskAt : Kept → Task → Type 0
  IsNearTaskAt kept t = IsTask kept.names t × AsksNear net t

  module _ (near : AreNear net) where
    agreed_freely : Agree (rules net now) (free.rules net now) (IsInOrder net now) IsNearTaskAt
    agreed_freely = record {
      kept = λ kept t h m. kept_same kept t h m.0 m.1;
      said = λ kept t h m. said_same kept t h m.0 m.1;
      caused = λ kept t h m. caused_same kept t h m.0;
      costs = costs_same;
      cut = refl;
      stays = λ kept t h m. stays_in kept t h m.0;
      others = λ kept t h m u k. (others_in kept t h m.0 u k.0, k.1);
      follow = λ kept t h m.
          all-both (IsTaskAt (kept_after net now kept t)) (AsksNear net) (caused net now kept t) (follow_in kept t h m.0) (caused_near net near now kept t);
    }

-- Rules that agree with those of messages, where the deed of a box leaves all in order, and so is each task that a box or a name begins with.
pub record Delivers (net : Net) (now : ℕ) (q : Rules Kept Task) (I : Kept → Type 0) (J : Kept → Task → Type 0) : Type 0 where
  pub agree : Agree (rules net now) q I J
  pub order : (kept : Kept) → I kept → IsInOrder net now kept
  pub deeds : (kept : Kept) (node : ℕ) (d : Deed) → I kept → IsDeed d → I (done net now node d kept)
  pub asks : (kept : Kept) (node : ℕ) (said : Said) → IsSaid kept.names said → AllByRecursion (J kept) (asked_for net 0 node said)
  pub names : (kept : Kept) (selector : ℕ) (atoms : List Atom) (name : ℕ) → IsMessage kept.names selector atoms → IsName kept.names name
      → AllByRecursion (J kept) (to_name net 1 selector atoms name true)

-- deliveries by rules
module _ (net : Net) (now : ℕ) (q : Rules Kept Task) where
  told_with : ℕ → Said → World Kept → World Kept
  told_with node said w = all_finished q (after_deed net now node said w) (asked_for net 0 node said)

  loaded_with : World Kept → List ℕ → World Kept
  loaded_with w [] = w
  loaded_with w (node ∷ nodes) = loaded_with (told_with node (loaded_at net w.kept.states node) w) nodes

  pub outcome_with : World Kept → Start → World Kept
  outcome_with w (start.Name name message) = all_finished q w (to_name net 1 message.selector message.atoms.now name true)
  outcome_with w (start.Clock owner) = told_with owner (fired_at net w.kept.states owner) w
  outcome_with w (start.Loads boxes) = loaded_with w boxes.now

module _ (net : Net) (now : ℕ) (q : Rules Kept Task) (I : Kept → Type 0) (J : Kept → Task → Type 0) (d : Delivers net now q I J) where
  -- the same world, which is in order
  abbrev Ends : World Kept → World Kept → Type 0
  Ends v u = (u ≡ v) × I v.kept

  ran_ends : (w : World Kept) (tasks : List Task) → I w.kept → AllByRecursion (J w.kept) tasks → Ends (ran net now w tasks) (all_finished q w tasks)
  ran_ends w tasks h k =
      let s : Same I J w (ran net now w tasks) (all_finished q w tasks) = all_same (rules net now) q I J d.agree w tasks h k in
      (s.same, s.after.kept)

  told_ends : (node : ℕ) (said : Said) (w : World Kept) → I w.kept → IsSaid w.kept.names said → Ends (told_by net now node said w) (told_with net now q node said w)
  unfolding told_with
  told_ends node said w h k =
      let e : (done net now node said.deed w.kept).names ≡ w.kept.names = done_names net now node said.deed w.kept in
      ran_ends (after_deed net now node said w) (asked_for net 0 node said) (d.deeds w.kept node said.deed h k.deed)
      (d.asks (done net now node said.deed w.kept) node said (subst (λ (n : Names). IsSaid n said) (sym e) k))

  loaded_ends : (w : World Kept) (nodes : List ℕ) → I w.kept → Ends (all_loaded net now w nodes) (loaded_with net now q w nodes)
  unfolding loaded_with
  loaded_ends w [] h = (refl, h)
  loaded_ends w (node ∷ nodes) h =
      let o : IsInOrder net now w.kept = d.order w.kept h in
      let said = loaded_at net w.kept.states node in
      let one : Ends (told_by net now node said w) (told_with net now q node said w) =
      told_ends node said w h (load_said net now o.time w.kept.names o.first o.kinds w.kept.states o.states node) in
      let all : Ends (all_loaded net now (told_by net now node said w) nodes) (loaded_with net now q (told_by net now node said w) nodes) =
      loaded_ends (told_by net now node said w) nodes one.1 in
      (ap (λ (v : World Kept). loaded_with net now q v nodes) one.0 ∙ all.0, all.1)

  pub outcome_ends : (w : World Kept) (s : Start) → I w.kept → IsStart w.kept.names s → Ends (outcome net now w s) (outcome_with net now q w s)
  unfolding outcome outcome_with
  outcome_ends w (start.Name name message) h k =
      let selector = message.selector in
      let atoms = message.atoms.now in
      let tasks : List Task = to_name net 1 selector atoms name true in
      let e : named_tasks net name selector atoms ≡ tasks = ap (λ (b : Bool). cond b tasks []) (few_true atoms k.message.list.few) in
      subst (λ (l : List Task). Ends (ran net now w l) (all_finished q w tasks)) (sym e) (ran_ends w tasks h (d.names w.kept selector atoms name k.message k.known))
  outcome_ends w (start.Clock node) h k =
      let o : IsInOrder net now w.kept = d.order w.kept h in
      told_ends node (fired_at net w.kept.states node) w h (clock_said net now o.time w.kept.names o.first o.kinds w.kept.states o.states node)
  outcome_ends w (start.Loads boxes) h k = loaded_ends w boxes.now h

module _ (net : Net) (now : ℕ) where
  delivers : Delivers net now (rules net now) (IsInOrder net now) (IsTaskAt net now)
  delivers = record {
    agree = agreed net now;
    order = λ kept h. h;
    deeds = λ kept node d h k. done_in net now node d kept h k;
    asks = λ kept node said k. asked_in kept.names net 0 node said k;
    names = λ kept selector atoms name m k. name_in kept.names net 1 0 selector atoms name true m k;
  }

  pub outcome_in : (w : World Kept) (s : Start) → IsInOrder net now w.kept → IsStart w.kept.names s → IsInOrder net now (outcome net now w s).kept
  outcome_in w s h k = (outcome_ends net now (rules net now) (IsInOrder net now) (IsTaskAt net now) delivers w s h k).1

  delivers_freely : AreNear net → Delivers net now (free.rules net now) (IsInOrder net now) (IsNearTaskAt net now)
  delivers_freely near = record {
    agree = agreed_freely net now near;
    order = λ kept h. h;
    deeds = λ kept node d h k. done_in net now node d kept h k;
    asks = λ kept node said k. all-both (IsTaskAt net now kept) (AsksNear net) (asked_for net 0 node said) (asked_in kept.names net 0 node said k) (asked_near net near 0 node said);
    names = λ kept selector atoms name m k.
        all-both (IsTaskAt net now kept) (AsksNear net) (to_name net 1 selector atoms name true)
        (name_in kept.names net 1 0 selector atoms name true m k) (name_near net near 1 selector atoms name true);
  }

  loaded_freely : (w : World Kept) (nodes : List ℕ) → free.all_loaded net now w nodes ≡ loaded_with net now (free.rules net now) w nodes
  unfolding loaded_with told_with
  loaded_freely w [] = refl
  loaded_freely w (node ∷ nodes) = loaded_freely (free.told_by net now node (loaded_at net w.kept.states node) w) nodes

  outcome_freely : (w : World Kept) (s : Start) → free_outcome net now w s ≡ outcome_with net now (free.rules net now) w s
  unfolding free_outcome outcome_with told_with
  outcome_freely w (start.Name name message) = refl
  outcome_freely w (start.Clock owner) = refl
  outcome_freely w (start.Loads boxes) = loaded_freely w boxes.now

  pub outcome_same : (w : World Kept) (s : Start) → AreNear net → IsInOrder net now w.kept → IsStart w.kept.names s → outcome net now w s ≡ free_outcome net now w s
  outcome_same w s near h k =
      sym (outcome_freely w s ∙ (outcome_ends net now (free.rules net now) (IsInOrder net now) (IsNearTaskAt net now) (delivers_freely near) w s h k).0)

-- at a later time
pub kept_later : (names : Names) (now later : ℕ) → now ≤ later → (s : State) → IsKept names now s → IsKept names later s
kept_later names now later l (state.Vline r) h = omega arith
kept_later names now later l s h = h

some_later : (names : Names) (now later : ℕ) → now ≤ later → (o : Option State) → IfSome o (IsKept names now) → IfSome o (IsKept names later)
some_later names now later l None h = tt
some_later names now later l (Some s) h = kept_later names now later l s h

pub order_later : (net : Net) (now later : ℕ) (kept : Kept) → IsInOrder net now kept → now ≤ later → later ≤ 2 ^ 101 → IsInOrder net later kept
order_later net now later kept h l time = record { time = time; first = h.first; kinds = h.kinds; states = λ k. some_later kept.names now later l (kept.states k) (h.states k) }
