-- An event that begins in order passes nothing over, and leaves the stage steady, where its edits are fair.
use Rattle.std.proofs.Common.{◌≡◌, inl, inr, ◌≤◌, ◌+◌, ◌-◌, ◌^◌, ℕ, zero, suc, List, Option, Some, None, slice_get, refl, sym, ap, subst, ◌∙◌}
use Rattle.pd_atom.specs.Names.{Names, Extends}
use Rattle.pd_atom.specs.declared.Atom.{Atom}
use Rattle.pd_canvas.specs.declared.edits.Edit.{Edit}
use Rattle.pd_kind.specs.declared.states.State.{State}
use Rattle.pd_kind.specs.Forming.{cut_atoms}
use Rattle.pd_queue.specs.Queue.{most as last}
use Rattle.pd_turns.specs.Turns.{World}
use Rattle.pd_walk.specs.declared.walker.Start.{Start}
use Rattle.pd_walk.specs.declared.walker.Start.TheVariants as start
use Rattle.pd_walk.specs.Outcome.{outcome, all_loaded as own_loaded}
use Rattle.pd_hearing.specs.Worlds.{Net, Kept}
use Rattle.pd_grove.specs.declared.ports.Side.TheVariants.{Outlets}
use Rattle.pd_web.specs.declared.web.Web.{Web}
use Rattle.pd_web.specs.Changes.{KeepsPorts}
use Rattle.pd_patch.specs.Values.{Blocks}
use Rattle.pd_block.specs.Nets.{Net as BlockNet, Sound}
use Rattle.pd_block.specs.Blocks.{block_of}
use Rattle.pd_guards.specs.Order.{HasFirst, IsName, AreAtoms}
use Rattle.pd_guards.specs.Near.{AreNear}
use Rattle.pd_guards.specs.Worlds.{AreKept, IsInOrder, IsStart, IsNamed}
use Rattle.pd_guards.specs.Sounds.{HaveValues, IsSounding}
use Rattle.pd_guards.specs.Freely.{outcome as free_outcome, all_loaded}
use Rattle.pd_sized.specs.Sizes.{HaveSizes}
use Rattle.pd_sized.specs.Alike.{AreAlike}
use Rattle.pd_sized.specs.Kinds.{KeepsOfKind}
use Rattle.pd_sized.proofs.AlikeRunLemmas.{outcome_alike}
use Rattle.pd_ends_law.specs.Ends.{AreOpen, kinds_in}
use Rattle.pd_ends_law.proofs.RunLemmas.{outcome_open}
use Rattle.pd_sound_law.specs.Ready.{IsReady}
use Rattle.pd_sound_law.proofs.ReadyLemmas.{ready_lasts}
use Rattle.pd_stage.specs.Choices.{Wanted, Asks, first_choice, loads_of_choice}
use Rattle.pd_stage.specs.Stages.{Stage, Passage, joined, followed_by}
use Rattle.pd_engine.specs.Messages.{message_in}
use Rattle.pd_stage.specs.Times.{block_units, block_net, sound_at}
use Rattle.pd_stage.specs.Events as engine
use Rattle.pd_stage.specs.Events.{Beginning, Message, Firing, Loading, Left, whole, left_after, going_on, begun, delivered, with_kept, after_deliveries, edit_taken, loaded_by, edit_loaded_by, asked_by, edits_taken_by, edits_of_by, event, edit_event}
use Rattle.pd_stage.proofs.EditLemmas.{ButWires, but_wires, Alters}
use Rattle.pd_steady.specs.Freely.{deliveries, event_freely, edit_freely}
use Rattle.pd_steady.specs.Steady.{HasRows, IsSteady}
use Rattle.pd_steady.proofs.FairLemmas.{AreFair, fair_first, fair_second, taken_left}
use Rattle.pd_steady.proofs.ExtendLemmas.{outcome_extends}
use Rattle.pd_engine.proofs.TreeLemmas.{HasBoth, altered_both}
use Rattle.pd_engine.proofs.WholeLemmas.{both_on}
use Rattle.pd_steady.proofs.KeyLemmas.{rows_blocks, same_row}
use Rattle.pd_steady.proofs.PutLemmas.{put_steady, room_steady}
use Rattle.pd_steady.proofs.TakeLemmas.{take_steady}
use Rattle.pd_steady.proofs.MoveLemmas.{move_steady}
use Rattle.pd_steady.proofs.RetypeLemmas.{retype_steady}

-- what the laws of pd_guards say
pub record Guards : Type 0 where
  pub freely : (net : Net) (now : ℕ) (w : World Kept) (s : Start) → AreNear net → IsInOrder net now w.kept → IsStart w.kept.names s → outcome net now w s ≡ free_outcome net now w s
  pub order : (net : Net) (now : ℕ) (w : World Kept) (s : Start) → IsInOrder net now w.kept → IsStart w.kept.names s → IsInOrder net now (outcome net now w s).kept
  pub values : (net : Net) (now : ℕ) (w : World Kept) (s : Start) → IsInOrder net now w.kept → IsStart w.kept.names s → HaveValues w.kept.states
      → HaveValues (outcome net now w s).kept.states
  pub sizes : (net : Net) (now : ℕ) (w : World Kept) (s : Start) → HaveSizes w.kept.states → HaveSizes (outcome net now w s).kept.states
  pub lasts : (net : Net) (now later : ℕ) (kept : Kept) → IsInOrder net now kept → now ≤ later → later ≤ 2 ^ 101 → IsInOrder net later kept
  pub keeps : (net : BlockNet) (names : Names) (now later start : ℕ) (s : Sound) → now ≤ later → start + 64000000000 ≤ later → AreKept names now s.states → IsSounding s
      → AreKept names later (block_of net s start).sound.states
  pub sounds : (net : BlockNet) (names : Names) (now start : ℕ) (s : Sound) → AreKept names now s.states → IsSounding s → IsSounding (block_of net s start).sound
  pub begins : (names : Names) (name : ℕ) (atoms : List Atom) → HasFirst names → IsName names name → AreAtoms names atoms
      → IsNamed names name (message_in atoms).selector (cut_atoms (message_in atoms).atoms)

-- what begins deliveries, as pd_walk is told it
abbrev pub start_of : Beginning → Start
start_of (Message name selector atoms) = start.Name name (record { selector = selector; atoms = record { ref_ptr = (0, 0); now = atoms } })
start_of (Firing owner) = start.Clock owner
start_of (Loading boxes) = start.Loads (record { ref_ptr = (0, 0); now = boxes })

-- it begins in order
abbrev pub Begins : Names → Beginning → Type 0
Begins names (Message name selector atoms) = IsNamed names name selector atoms
Begins names (Firing owner) = Unit {0}
Begins names (Loading boxes) = Unit {0}

pub starts : (names : Names) (b : Beginning) → Begins names b → IsStart names (start_of b)
starts names (Message name selector atoms) h = h
starts names (Firing owner) h = tt
starts names (Loading boxes) h = tt

module _ (net : Net) (now : ℕ) (w : World Kept) where
  pub outcome_is : (b : Beginning) → outcome net now w (start_of b) ≡ engine.deliveries net now w b
  unfolding outcome
  outcome_is (Message name selector atoms) = refl
  outcome_is (Firing owner) = refl
  outcome_is (Loading boxes) = refl

  free_is : (b : Beginning) → free_outcome net now w (start_of b) ≡ deliveries net now w b
  unfolding free_outcome
  free_is (Message name selector atoms) = refl
  free_is (Firing owner) = refl
  free_is (Loading boxes) = refl

-- deliveries come to this world, freely too, all is in order in it, the table of names goes on, and what boxes keep is of the same objects
record IsDelivered (net : Net) (now : ℕ) (names : Names) (states : ℕ → Option State) (v u : World Kept) : Type 0 where
  same : u ≡ v
  order : IsInOrder net now v.kept
  more : Extends names v.kept.names
  values : HaveValues v.kept.states
  sizes : HaveSizes v.kept.states
  objects : AreAlike states v.kept.states
  ends : (t : ℕ) → AreOpen t states → AreOpen t v.kept.states

deliver : (g : Guards) (net : Net) (now : ℕ) (w v u : World Kept) (st : Start) → outcome net now w st ≡ v → free_outcome net now w st ≡ u → AreNear net → IsInOrder net now w.kept
    → HaveValues w.kept.states → HaveSizes w.kept.states → KeepsOfKind (kinds_in net) w.kept.states → IsStart w.kept.names st → IsDelivered net now w.kept.names w.kept.states v u
deliver g net now w v u st is free near h a z kinds k = record {
  same = sym free ∙ sym (g.freely net now w st near h k) ∙ is;
  order = subst (λ (x : World Kept). IsInOrder net now x.kept) is (g.order net now w st h k);
  more = subst (λ (x : World Kept). Extends w.kept.names x.kept.names) is (outcome_extends net now w st);
  values = subst (λ (x : World Kept). HaveValues x.kept.states) is (g.values net now w st h k a);
  sizes = subst (λ (x : World Kept). HaveSizes x.kept.states) is (g.sizes net now w st z);
  objects = subst (λ (x : World Kept). AreAlike w.kept.states x.kept.states) is (outcome_alike net now w st);
  ends = λ t o. subst (λ (x : World Kept). AreOpen t x.kept.states) is (record { each = outcome_open net now t w st kinds o.each });
}

-- a part of a run is the same freely, and leads to a steady stage where its edits are fair
pub record IsFree (most : ℕ) (p q : Passage) : Type 0 where
  pub same : q ≡ p
  pub steady : AreFair p.edits → IsSteady most p.stage

-- where the ports stay boxes have their blocks
rows_stay : (w v : Web) (blocks : Blocks) → KeepsPorts w v → HasRows w blocks → HasRows v blocks
rows_stay w v blocks kept h k o l = h k o (same_row w v k o (kept.ports Outlets k) l)

-- other wires leave a stage steady
wires_steady : (most : ℕ) (s r : Stage) → IsSteady most s → ButWires s r → HasBoth r → IsSteady most r
wires_steady most s r h e tree =
    subst (λ (x : Stage). HasBoth x → IsSteady most x) (sym e.is)
    (λ t. record {
      time = h.time;
      near = h.near;
      order = record { time = h.order.time; first = h.order.first; kinds = h.order.kinds; states = h.order.states };
      values = record { states = h.values.states; blocks = h.values.blocks };
      ready = record {
        kinds = h.ready.kinds;
        whole = record { states = h.ready.whole.states; blocks = h.ready.whole.blocks };
        owners = h.ready.owners;
        channels = h.ready.channels;
        keys = h.ready.keys;
        fed = e.kept.fed h.ready.fed;
        blocks = rows_blocks e.web s.net.blocks (rows_stay s.net.web e.web s.net.blocks e.kept.ports h.rows);
      };
      rows = rows_stay s.net.web e.web s.net.blocks e.kept.ports h.rows;
      block = h.block;
      ends = h.ends;
      tree = t.tree;
      owners = t.owners;
    }) tree

-- whatever a lawful edit makes of a steady stage, it is steady where a tree and its owners stand
pub altered_steady : (most : ℕ) (s r : Stage) → IsSteady most s → Alters s r → HasBoth r → IsSteady most r
altered_steady most s r h (inl a) tree = wires_steady most s r h (but_wires s r a) tree
altered_steady most s r h (inr (inl a)) tree =
    subst (IsSteady most) (sym a.is) (put_steady most s a.ahead a.path a.edit a.made h a.put (subst HasBoth a.is tree))
altered_steady most s r h (inr (inr (inl a))) tree =
    subst (IsSteady most) (sym a.is) (take_steady most s a.ahead a.path a.number a.made h a.taken (subst HasBoth a.is tree))
altered_steady most s r h (inr (inr (inr (inl a)))) tree =
    subst (IsSteady most) (sym a.is) (move_steady most s a.ahead a.path a.number a.x a.y a.made h a.moved (subst HasBoth a.is tree))
altered_steady most s r h (inr (inr (inr (inr (inl a))))) tree =
    subst (IsSteady most) (sym a.is) (retype_steady most s a.ahead a.path a.number a.text a.made h a.retyped (subst HasBoth a.is tree))
altered_steady most s r h (inr (inr (inr (inr (inr a))))) tree = room_steady most s r h a tree

-- what deliveries leave
pub owned_at : (most : ℕ) (s : Stage) → IsSteady most s → HasBoth s
owned_at most s h = record { tree = h.tree; owners = h.owners }

kept_owned : (most : ℕ) (s : Stage) (v u : World Kept) → IsSteady most s → IsDelivered s.net s.time s.names s.states v u → HasBoth (with_kept s v.kept)
kept_owned most s v u h d = both_on s (with_kept s v.kept) refl refl refl d.more (owned_at most s h)

kept_steady : (most : ℕ) (s : Stage) (v u : World Kept) → IsSteady most s → IsDelivered s.net s.time s.names s.states v u → IsSteady most (with_kept s v.kept)
kept_steady most s v u h d = record {
  time = h.time;
  near = h.near;
  order = record { time = d.order.time; first = d.order.first; kinds = d.order.kinds; states = d.order.states };
  values = record { states = d.values; blocks = h.values.blocks };
  ready = let r : IsReady (block_net s) (record { states = v.kept.states; blocks = s.net.blocks }) =
      ready_lasts (block_net s) (sound_at s) (record { states = v.kept.states; blocks = s.net.blocks }) h.ready d.objects (record { states = d.sizes; blocks = h.ready.whole.blocks }) h.ready.blocks in
      record { kinds = r.kinds; whole = record { states = r.whole.states; blocks = r.whole.blocks }; owners = r.owners; channels = r.channels; keys = r.keys; fed = r.fed; blocks = r.blocks };
  rows = h.rows;
  block = h.block;
  ends = d.ends (s.block_end - block_units) h.ends;
  tree = (kept_owned most s v u h d).tree;
  owners = (kept_owned most s v u h d).owners;
}

-- what a lawful edit makes of a steady stage is steady
any_steady : (most : ℕ) (s r : Stage) → Alters s r → IsSteady most s → IsSteady most r
any_steady most s r a h = altered_steady most s r h a (altered_both s r a (owned_at most s h))

-- one part, and then another from where it leads
pub followed : (most : ℕ) (p q : Passage) (next free : Stage → Passage) → IsFree most p q → (IsSteady most p.stage → AreFair (next p.stage).edits → IsFree most (next p.stage) (free p.stage))
    → AreFair (followed_by p next).edits → IsFree most (followed_by p next) (followed_by q free)
followed most p q next free a f l =
    let b : IsFree most (next p.stage) (free p.stage) = f (a.steady (fair_first p.edits (next p.stage).edits l)) (fair_second p.edits (next p.stage).edits l) in
    record {
      same = ap (λ (x : Passage). followed_by x free) a.same ∙ ap (λ (x : Passage). joined p x) b.same;
      steady = λ k. b.steady (fair_second p.edits (next p.stage).edits k);
    }

-- what goes on from where deliveries or edits led is the same freely
abbrev AreFree : ℕ → (rest free : Left → Stage → Passage) → Type 0
AreFree most rest free = (l : Left) (r : Stage) → IsSteady most r → AreFair (rest l r).edits → IsFree most (rest l r) (free l r)

-- deliveries that come to this world, and freely to that one, and then what goes on from where they led
after_free : (most : ℕ) (s : Stage) (v u : World Kept) (rest free : Left → Stage → Passage) → IsSteady most s → IsDelivered s.net s.time s.names s.states v u → AreFree most rest free
    → AreFair (followed_by (after_deliveries s v) (rest (left_after v))).edits
    → IsFree most (followed_by (after_deliveries s v) (rest (left_after v))) (followed_by (after_deliveries s u) (free (left_after u)))
after_free most s v u rest free h d f l =
    let now : IsFree most (after_deliveries s v) (after_deliveries s v) = record { same = refl; steady = λ k. kept_steady most s v u h d } in
    let all : IsFree most (followed_by (after_deliveries s v) (rest (left_after v))) (followed_by (after_deliveries s v) (free (left_after v))) =
    followed most (after_deliveries s v) (after_deliveries s v) (rest (left_after v)) (free (left_after v)) now (λ k m. f (left_after v) (with_kept s v.kept) k m) l in
    record { same = ap (λ (w : World Kept). followed_by (after_deliveries s w) (free (left_after w))) d.same ∙ all.same; steady = all.steady }

-- an edit leads where it leads, whatever is loaded behind it
taken_free : (most : ℕ) (wanted : Wanted) (s : Stage) → IsSteady most s → IsFree most (edit_taken wanted s) (edit_taken wanted s)
taken_free most wanted s h = record { same = refl; steady = λ l. any_steady most s (edit_taken wanted s).stage (taken_left wanted s l) h }

module _ (g : Guards) (most : ℕ) where
  -- deliveries that begin in order, wherever an event goes on
  delivered_on : (s : Stage) (l : Left) (b : Beginning) → IsSteady most s → Begins s.names b
      → IsDelivered s.net s.time s.names s.states (engine.deliveries s.net s.time (going_on s l) b) (deliveries s.net s.time (going_on s l) b)
  delivered_on s l b h k =
      deliver g s.net s.time (going_on s l) (engine.deliveries s.net s.time (going_on s l) b) (deliveries s.net s.time (going_on s l) b) (start_of b)
      (outcome_is s.net s.time (going_on s l) b) (free_is s.net s.time (going_on s l) b) h.near
      (record { time = h.order.time; first = h.order.first; kinds = h.order.kinds; states = h.order.states }) h.values.states h.ready.whole.states h.ready.kinds (starts s.names b k)

  -- what deliveries leave is steady
  pub left_steady : (s : Stage) (l : Left) (b : Beginning) → IsSteady most s → Begins s.names b → IsSteady most (with_kept s (engine.deliveries s.net s.time (going_on s l) b).kept)
  left_steady s l b h k =
      kept_steady most s (engine.deliveries s.net s.time (going_on s l) b) (deliveries s.net s.time (going_on s l) b) h (delivered_on s l b h k)

  -- boxes are loaded
  loaded_free : (boxes : List ℕ) (l : Left) (rest free : Left → Stage → Passage) → AreFree most rest free → (s : Stage) → IsSteady most s
      → AreFair (loaded_by own_loaded boxes l rest s).edits → IsFree most (loaded_by own_loaded boxes l rest s) (loaded_by all_loaded boxes l free s)
  loaded_free boxes l rest free f s h w =
      after_free most s (own_loaded s.net s.time (going_on s l) boxes) (all_loaded s.net s.time (going_on s l) boxes) rest free h (delivered_on s l (Loading boxes) h tt) f w

  -- an edit, and the boxes that are loaded behind it
  edit_free : (wanted : Wanted) (l : Left) (rest free : Left → Stage → Passage) → AreFree most rest free → (s : Stage) → IsSteady most s
      → AreFair (edit_loaded_by own_loaded wanted l rest s).edits → IsFree most (edit_loaded_by own_loaded wanted l rest s) (edit_loaded_by all_loaded wanted l free s)
  edit_free wanted l rest free f s h w =
      let boxes : List ℕ = loads_of_choice (first_choice s.ahead) in
      followed most (edit_taken wanted s) (edit_taken wanted s) (loaded_by own_loaded boxes l rest) (loaded_by all_loaded boxes l free) (taken_free most wanted s h)
      (λ k v. loaded_free boxes l rest free f (edit_taken wanted s).stage k v) w

  asked_free : (rest free : Left → Stage → Passage) → AreFree most rest free → (l : Left) (s : Stage) (o : Option (List ℕ × Edit)) → IsSteady most s
      → AreFair (asked_by own_loaded rest l s o).edits → IsFree most (asked_by own_loaded rest l s o) (asked_by all_loaded free l s o)
  asked_free rest free f l s None h w = record { same = refl; steady = λ k. h }
  asked_free rest free f l s (Some asked) h w = edit_free (Asks asked.0 asked.1) l rest free f s h w

  -- the edits of an event, one after the other
  edits_free : (n place : ℕ) → AreFree most (edits_taken_by own_loaded n place) (edits_taken_by all_loaded n place)
  unfolding edits_taken_by
  edits_free zero place l s h w = record { same = refl; steady = λ k. h }
  edits_free (suc n) place l s h w =
      asked_free (edits_taken_by own_loaded n (place + 1)) (edits_taken_by all_loaded n (place + 1)) (λ m r k v. edits_free n (place + 1) m r k v) l s (slice_get l.asked place) h w

  pub event_free : (s : Stage) (b : Beginning) → IsSteady most s → Begins s.names b → AreFair (event s b).edits → IsFree most (event s b) (event_freely s b)
  unfolding event event_freely
  event_free s b h k w =
      after_free most s (delivered s b) (deliveries s.net s.time (begun s) b) (edits_of_by own_loaded) (edits_of_by all_loaded) h (delivered_on s whole b h k)
      (λ l r m v. edits_free last 0 l r m v) w

  pub edit_event_free : (wanted : Wanted) (s : Stage) → IsSteady most s → AreFair (edit_event wanted s).edits → IsFree most (edit_event wanted s) (edit_freely wanted s)
  unfolding edit_event edit_freely
  edit_event_free wanted s h w = edit_free wanted whole (edits_of_by own_loaded) (edits_of_by all_loaded) (λ l r m v. edits_free last 0 l r m v) s h w

-- boxes that are loaded leave what is of the same objects, and names go on
pub loads_alike : (s : Stage) (l : Left) (boxes : List ℕ) → AreAlike s.states (own_loaded s.net s.time (going_on s l) boxes).kept.states
loads_alike s l boxes =
    subst (λ (w : World Kept). AreAlike s.states w.kept.states) (outcome_is s.net s.time (going_on s l) (Loading boxes))
    (outcome_alike s.net s.time (going_on s l) (start_of (Loading boxes)))

pub loads_extend : (s : Stage) (l : Left) (boxes : List ℕ) → Extends s.names (own_loaded s.net s.time (going_on s l) boxes).kept.names
loads_extend s l boxes =
    subst (λ (w : World Kept). Extends s.names w.kept.names) (outcome_is s.net s.time (going_on s l) (Loading boxes))
    (outcome_extends s.net s.time (going_on s l) (start_of (Loading boxes)))
