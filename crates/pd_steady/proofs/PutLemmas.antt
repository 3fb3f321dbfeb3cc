-- An edit that puts a box leaves a steady stage steady, where a tree and its owners stand after it.
use Rattle.std.proofs.Common.{arith, ◌≡◌, ◌<◌, ◌≤◌, ◌^◌, ◌-◌, ℕ, List, [], Option, Some, None, IfSome, option_map, refl, sym, ap, subst, ◌∙◌}
use Rattle.std.specs.List.{AllByRecursion}
use Rattle.std.proofs.lemmas.Option.{same_Some}
use Rattle.slab.specs.Slab.{get}
use Rattle.pd_atom.specs.Names.{Names, Extends}
use Rattle.pd_canvas.specs.declared.edits.Edit.{Edit}
use Rattle.pd_gather.specs.Gather.{Known}
use Rattle.pd_library.specs.declared.answers.Answer.{Answer}
use Rattle.pd_adding.specs.declared.counts.Counts.{Counts}
use Rattle.pd_web.specs.Changes.{wires_told}
use Rattle.pd_clock.specs.Queue.{Clock}
use Rattle.pd_clock.specs.declared.times.Rate.{Rate}
use Rattle.pd_object.specs.declared.kinds.Kind.{Kind}
use Rattle.pd_object.specs.declared.kinds.Kind.TheVariants as kind
use Rattle.pd_kind.specs.declared.states.State.{State}
use Rattle.pd_kind.specs.Fit.{blank}
use Rattle.pd_kind.specs.States.{size_of, start_of}
use Rattle.pd_kind.specs.Tables.{started}
use Rattle.pd_vline.specs.Rows.{IsOpen}
use Rattle.pd_grove.specs.declared.nodes.Node.{Node}
use Rattle.pd_grove.specs.Telling.{kind_in, state_in}
use Rattle.pd_patch.specs.declared.patch.Patch.{Patch}
use Rattle.pd_patch.specs.Values.{blocks_told}
use Rattle.pd_boxes.specs.Room.{SameButRoom}
use Rattle.pd_hearing.specs.Worlds.{Net, bare, net_of, states_of}
use Rattle.pd_channels_law.specs.Channels.{HasFewChannels}
use Rattle.pd_guards.specs.Order.{IsKept, IsKind}
use Rattle.pd_guards.specs.Sounds.{AreValues, HasValues}
use Rattle.pd_guards.proofs.FactLemmas.{some-weaker}
use Rattle.pd_guards.proofs.MoreLemmas.{longer, first_more, kind_more, kept_more}
use Rattle.pd_sized.specs.Kinds.{blank_of, KeepsOfKind}
use Rattle.pd_sized.specs.Sizes.{HasSizes, IsBlock}
use Rattle.pd_sized.proofs.StartLemmas.{made_sized}
use Rattle.pd_ends_law.proofs.OpenLemmas.{all_open, first_open}
use Rattle.pd_stage.specs.Choices.{Base, base_of, Made, Choice, Makes}
use Rattle.pd_stage.specs.Stages.{Stage, with_ahead}
use Rattle.pd_stage.specs.Events.{with_net, stage_by}
use Rattle.pd_stage.specs.Times.{block_units}
use Rattle.pd_stage.specs.Lawful.{known_at, IsPutIn}
use Rattle.pd_stage.proofs.EditLemmas.{HasMoreRoom}
use Rattle.pd_steady.specs.Steady.{IsSteady}
use Rattle.pd_steady.proofs.StartLemmas.{first_blank, started_kept, started_values, small_few}
use Rattle.pd_steady.proofs.AddedLemmas.{IsAddedWell, added_well}
use Rattle.pd_steady.proofs.ComeLemmas.{IsFirst, come_new}
use Rattle.pd_steady.proofs.KeyLemmas.{rows_blocks, room_blocks, room_fed, room_all}
use Rattle.pd_steady.proofs.NewLemmas.{HasNew, new_weaker, all_new, new_objects}
use Rattle.pd_steady.proofs.StandLemmas.{tree_near, tree_serves}
use Rattle.pd_engine.proofs.TreeLemmas.{HasBoth}

-- ---- the new box

-- it is of a kind in order, and keeps what its kind keeps at first
pub record IsWell (names : Names) (now : ℕ) (n : Node) : Type 0 where
  state : State
  is : n.state ≡ Some state
  is_kind : IsKind names n.kind
  kept : IsKept names now state
  values : HasValues state
  sizes : HasSizes state
  objects : blank state ≡ blank_of n.kind
  few : HasFewChannels n.kind
  opens : (t : ℕ) → n.kind ≡ kind.Vline → IsOpen t state

small_size : (n : ℕ) → n ≤ 16777216 → n < 2 ^ 32
small_size n l = omega arith

no_more : (n : ℕ) → n ≤ 16777216 → n ≤ 2 ^ 32
no_more n l = omega arith

pub new_well : (rate : Rate) (now : ℕ) (names : Names) (n : Node) → n.state ≡ Some (started (start_of n.kind rate) now) → HasFewChannels n.kind → IsAddedWell names rate n.kind → IsWell names now n
new_well rate now names n fresh few w =
    let k : Kind = n.kind in
    record {
      state = started (start_of k rate) now;
      is = fresh;
      is_kind = w.born.kind;
      kept = started_kept names now now (start_of k rate) (w.born.kept now rate (small_size (size_of k rate) w.small));
      values = started_values (start_of k rate) now (w.born.values rate);
      sizes = made_sized k rate now (no_more (size_of k rate) w.small);
      objects = first_blank k rate now;
      few = few;
      opens = λ t e. subst (λ (j : Kind). IsOpen t (started (start_of j rate) now)) (sym e) (first_open rate now t);
    }

-- what a new box keeps at first is of its kind
pub fresh_objects : (n : Node) (rate : Rate) (now : ℕ) → n.state ≡ Some (started (start_of n.kind rate) now) → option_map blank n.state ≡ Some (blank_of n.kind)
fresh_objects n rate now fresh = ap (option_map blank) fresh ∙ ap (λ (x : State). Some x) (first_blank n.kind rate now)

-- under no key that is too far off
abbrev pub IsWellAt : Names → ℕ → ℕ → Node → Type 0
IsWellAt names now k n = IsWell names now n × (k < 2 ^ 32)

too_far : (k : ℕ) → k < 2 ^ 32 → 2 ^ 32 ≤ k → ⊥
too_far k low far = omega (arith, low, far)

-- ---- all boxes

module _ (p q : Patch) (names : Names) (now : ℕ) (new : HasNew p q (IsWellAt names now)) where
  abbrev all : (T : ℕ → Option Node → Type 0) → ((k : ℕ) (n : Node) → IsWellAt names now k n → T k (Some n)) → ((k : ℕ) → T k (get p.grove.nodes k)) → (k : ℕ) → T k (get q.grove.nodes k)
  all = all_new p q (IsWellAt names now) new

  all_states : (P : State → Type 0) → ((k : ℕ) (n : Node) → (w : IsWellAt names now k n) → P w.0.state) → ((k : ℕ) → IfSome (states_of p k) P) → (k : ℕ) → IfSome (states_of q k) P
  all_states P here old = all (λ k o. IfSome (state_in o) P) (λ k n w. subst (λ (o : Option State). IfSome o P) (sym w.0.is) (here k n w)) old

  all_kinds : (P : Kind → Type 0) → ((k : ℕ) (n : Node) → IsWellAt names now k n → P n.kind) → ((k : ℕ) → IfSome (kind_in ((net_of p).nodes k)) P)
      → (k : ℕ) → IfSome (kind_in ((net_of q).nodes k)) P
  all_kinds P here old = all (λ k o. IfSome (kind_in (bare o)) P) here old

  all_objects : KeepsOfKind (λ k. kind_in ((net_of p).nodes k)) (states_of p) → KeepsOfKind (λ k. kind_in ((net_of q).nodes k)) (states_of q)
  all_objects = new_objects p q (IsWellAt names now) new (λ k n w. ap (option_map blank) w.0.is ∙ ap (λ (x : State). Some x) w.0.objects)

  all_keys : ((k : ℕ) → 2 ^ 32 ≤ k → states_of p k ≡ None) → (k : ℕ) → 2 ^ 32 ≤ k → states_of q k ≡ None
  all_keys old = all (λ k o. 2 ^ 32 ≤ k → state_in o ≡ None) (λ k n w far. absurd (too_far k w.1 far)) old

  all_ends : (t : ℕ) → KeepsOfKind (λ k. kind_in ((net_of q).nodes k)) (states_of q) → ((k : ℕ) → IfSome (states_of p k) (IsOpen t)) → (k : ℕ) → IfSome (states_of q k) (IsOpen t)
  all_ends t kinds old =
      all_open t (λ k. kind_in ((net_of q).nodes k)) (states_of q) kinds
      (all (λ k o. kind_in (bare o) ≡ Some kind.Vline → IfSome (state_in o) (IsOpen t))
      (λ k n w e. subst (λ (o : Option State). IfSome o (IsOpen t)) (sym w.0.is) (w.0.opens t (same_Some n.kind kind.Vline e)))
      (λ k e. old k))

-- ---- stages

-- a stage at which a patch stands
abbrev pub standing : Stage → Patch → Stage
standing s p = record {
  file = s.file;
  net = net_of p;
  states = states_of p;
  clocks = s.clocks;
  names = s.names;
  base = s.base;
  time = s.time;
  block_end = s.block_end;
  fired = s.fired;
  tally = s.tally;
  ahead = s.ahead;
}

abbrev other_states : Stage → (ℕ → Option State) → Stage
other_states s states = record {
  file = s.file;
  net = s.net;
  states = states;
  clocks = s.clocks;
  names = s.names;
  base = s.base;
  time = s.time;
  block_end = s.block_end;
  fired = s.fired;
  tally = s.tally;
  ahead = s.ahead;
}

pub is_standing : (s : Stage) (p : Patch) → s.net ≡ net_of p → s.states ≡ states_of p → s ≡ standing s p
is_standing s p net states = ap (λ (x : Net). with_net s x) net ∙ ap (λ (x : ℕ → Option State). other_states (with_net s (net_of p)) x) states

-- with these clocks and names, and other edits to come
abbrev pub put_stage : Stage → Patch → List Clock → Names → Base → List Choice → Stage
put_stage s q clocks names base ahead = record {
  file = s.file;
  net = net_of q;
  states = states_of q;
  clocks = clocks;
  names = names;
  base = base;
  time = s.time;
  block_end = s.block_end;
  fired = s.fired;
  tally = s.tally;
  ahead = ahead;
}

pub named_is : (s : Stage) (q : Patch) (names : Names) (ahead : List Choice) (m : Made) → m.net ≡ net_of q → m.states ≡ states_of q → m.names ≡ names
    → stage_by (with_ahead s ahead) (Makes m) ≡ put_stage s q m.clocks names m.base ahead
named_is s q names ahead m net states told = rw (net, states, told) refl

pub no_more_wires : (n m : ℕ) → n ≡ m → n ≤ 65536 → m ≤ 65536
no_more_wires n m e l = omega (arith, e, l)

-- a patch with new boxes stands
pub new_steady : (most : ℕ) (s : Stage) (p q : Patch) (clocks : List Clock) (names : Names) (base : Base) (ahead : List Choice) → IsSteady most (standing s p)
    → Extends s.names names → HasNew p q (IsWellAt names s.time) → HasBoth (put_stage s q clocks names base ahead) → IsSteady most (put_stage s q clocks names base ahead)
new_steady most s p q clocks names base ahead h on new tree =
    let l = longer s.names names on in
    let objects : KeepsOfKind (λ k. kind_in ((net_of q).nodes k)) (states_of q) = all_objects p q names s.time new h.ready.kinds in
    record {
      time = h.time;
      near = tree_near (put_stage s q clocks names base ahead) tree.tree tree.owners;
      order = record {
        time = h.order.time;
        first = first_more s.names names l h.order.first;
        kinds =
            all_kinds p q names s.time new (IsKind names) (λ k n w. w.0.is_kind)
            (λ k. some-weaker (IsKind s.names) (IsKind names) (kind_more s.names names l) (kind_in ((net_of p).nodes k)) (h.order.kinds k));
        states =
            all_states p q names s.time new (IsKept names s.time) (λ k n w. w.0.kept)
            (λ k. some-weaker (IsKept s.names s.time) (IsKept names s.time) (kept_more s.names names l s.time) (states_of p k) (h.order.states k));
      };
      values = record {
        states = all_states p q names s.time new HasValues (λ k n w. w.0.values) h.values.states;
        blocks = new.values h.values.blocks;
      };
      ready = record {
        kinds = objects;
        whole = record {
          states = all_states p q names s.time new HasSizes (λ k n w. w.0.sizes) h.ready.whole.states;
          blocks = new.sizes h.ready.whole.blocks;
        };
        owners = tree_serves (put_stage s q clocks names base ahead) tree.tree tree.owners objects;
        channels = all_kinds p q names s.time new HasFewChannels (λ k n w. w.0.few) h.ready.channels;
        keys = all_keys p q names s.time new h.ready.keys;
        fed = new.fed (no_more_wires base.counts.wires (wires_told q.web) tree.tree.wires tree.tree.within.wires) h.ready.fed;
        blocks = rows_blocks q.web (blocks_told q) (new.blocks h.rows);
      };
      rows = new.blocks h.rows;
      block = h.block;
      ends = record { each = all_ends p q names s.time new (s.block_end - block_units) objects h.ends.each };
      tree = tree.tree;
      owners = tree.owners;
    }

-- no more values than a patch may have
sound_few : (m : Base) (files : List (ℕ × Answer)) (b c : Counts) → m ≡ base_of files b → b ≡ c → m.counts.sound ≤ 16777216 → c.sound ≤ 16777216
sound_few m files b c e f l = subst (λ (x : Counts). x.sound ≤ 16777216) f (subst (λ (x : Base). x.counts.sound ≤ 16777216) e l)

-- an edit that put a box
pub put_steady : (most : ℕ) (s : Stage) (ahead : List Choice) (path : List ℕ) (e : Edit) (m : Made) → IsSteady most s → IsPutIn (with_ahead s []) path e m → HasBoth (stage_by (with_ahead s ahead) (Makes m))
    → IsSteady most (stage_by (with_ahead s ahead) (Makes m))
put_steady most s ahead path e m h put tree =
    let a = put.adds.added in
    let old : Patch = put.old in
    let names : Names = a.known.names in
    let told : m.names ≡ names = put.names ∙ ap (λ (k : Known). k.names) put.adds.known_is in
    let on : Extends s.names names = subst (Extends s.names) told put.more in
    let is = named_is s put.new names ahead m put.net put.states told in
    let was : IsSteady most (standing s old) = subst (IsSteady most) (is_standing s old put.stands.net put.stands.states) h in
    let few : a.counts.sound ≤ 16777216 = sound_few m.base put.after.files put.box.counts a.counts put.base put.adds.counts put.within.sound in
    let well : (k : ℕ) (n : Node) → IsFirst old s.time a k n → IsWellAt names s.time k n =
    λ k n x.
    let added : IsAddedWell names old.rate n.kind =
    subst (IsAddedWell names old.rate) (sym x.kind)
    (added_well old s.base.counts s.file path e (known_at s) put.adds.files a put.adds.grew h.order.first put.adds.written few x.cell x.of) in
    (new_well old.rate s.time names n x.fresh (small_few n.kind x.small) added, x.low) in
    let new : HasNew old put.new (IsWellAt names s.time) =
    new_weaker old put.new (IsFirst old s.time a) (IsWellAt names s.time) (come_new old put.new s.time a put.box.key put.adds.put) well in
    subst (IsSteady most) (sym is) (new_steady most s old put.new m.clocks names m.base ahead was on new (subst HasBoth is tree))

-- ---- where room alone was set aside

room_kinds : (p q : Patch) (P : Kind → Type 0) → SameButRoom p q → ((k : ℕ) → IfSome (kind_in ((net_of p).nodes k)) P) → (k : ℕ) → IfSome (kind_in ((net_of q).nodes k)) P
room_kinds p q P room h k = subst (λ (o : Option Node). IfSome (kind_in (bare o)) P) (sym (room.grove.nodes k)) (h k)

more_room : (most : ℕ) (s : Stage) (p q : Patch) (ahead : List Choice) → IsSteady most (with_net s (net_of p)) → SameButRoom p q → HasBoth (with_net (with_ahead s ahead) (net_of q))
    → IsSteady most (with_net (with_ahead s ahead) (net_of q))
more_room most s p q ahead h room tree =
    let objects : KeepsOfKind (λ k. kind_in ((net_of q).nodes k)) s.states =
    λ k. h.ready.kinds k ∙ sym (ap (λ (o : Option Node). option_map blank_of (kind_in (bare o))) (room.grove.nodes k)) in
    record {
      time = h.time;
      near = tree_near (with_net (with_ahead s ahead) (net_of q)) tree.tree tree.owners;
      order = record { time = h.order.time; first = h.order.first; kinds = room_kinds p q (IsKind s.names) room h.order.kinds; states = h.order.states };
      values = record { states = h.values.states; blocks = room_all p q (AllByRecursion AreValues) room tt h.values.blocks };
      ready = record {
        kinds = objects;
        whole = record { states = h.ready.whole.states; blocks = room_all p q (AllByRecursion IsBlock) room tt h.ready.whole.blocks };
        owners = tree_serves (with_net (with_ahead s ahead) (net_of q)) tree.tree tree.owners objects;
        channels = room_kinds p q HasFewChannels room h.ready.channels;
        keys = h.ready.keys;
        fed = room_fed p q room h.ready.fed;
        blocks = rows_blocks q.web (blocks_told q) (room_blocks p q room h.rows);
      };
      rows = room_blocks p q room h.rows;
      block = h.block;
      ends = h.ends;
      tree = tree.tree;
      owners = tree.owners;
    }

pub room_steady : (most : ℕ) (s r : Stage) → IsSteady most s → HasMoreRoom s r → HasBoth r → IsSteady most r
room_steady most s r h more tree =
    let was : IsSteady most (with_net s (net_of more.old)) = subst (λ (x : Net). IsSteady most (with_net s x)) more.stands.net h in
    subst (IsSteady most) (sym more.is) (more_room most s more.old more.new more.ahead was more.room (subst HasBoth more.is tree))
