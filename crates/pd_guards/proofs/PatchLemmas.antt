-- A patch that has just grown is in order.
use Rattle.std.proofs.Common.{◌≡◌, ◌^◌, ℕ, ℤ, zero, suc, ◌+◌, ◌-◌, ◌≤◌, inl, inr, ◌==◌, List, [], ◌∷◌, replicate, slice_get, Option, Some, None, IfSome, IsSome, is_some, unwrap_or, refl, sym, ap, subst, arith, true≢false}
use Rattle.std.specs.Prelude.{option_and_then}
use Rattle.std.specs.List.{AllByRecursion}
use Rattle.std.proofs.lemmas.Bool.{cases_lt}
use Rattle.slab.specs.Slab.{get}
use Rattle.pd_atom.specs.Names.{Names}
use Rattle.pd_clock.specs.declared.times.Rate.{Rate}
use Rattle.pd_kind.specs.declared.states.State.{State}
use Rattle.pd_kind.specs.States.{silent_block, size_of, start_of}
use Rattle.pd_kind.specs.Tables.{started}
use Rattle.pd_canvas.specs.declared.tree.Doc.{Doc}
use Rattle.pd_canvas.specs.Pages.{Page}
use Rattle.pd_canvas.specs.Proper.{IsProper}
use Rattle.pd_library.specs.declared.answers.Answer.{Answer}
use Rattle.pd_library.specs.declared.answers.Answer.TheVariants.{Found}
use Rattle.pd_library.specs.Files.{answer_in}
use Rattle.pd_gather.specs.Gather.{IsProperAnswer, AreProper}
use Rattle.pd_tree.specs.Trees.{Cell, Trees, Done, Leaf, Holder}
use Rattle.pd_growth.specs.Steps.{Stock, numbers_up, zeros_from, beginning}
use Rattle.pd_growth.specs.Growth.{grown}
use Rattle.pd_grove.specs.declared.nodes.Node.{Node}
use Rattle.pd_grove.specs.Standing.{node_seen, HasCell, NodesOf}
use Rattle.pd_grove.specs.States.{NodesFresh}
use Rattle.pd_grove.specs.Telling.{kind_in, state_in}
use Rattle.pd_queue.specs.Queue.{Waiting}
use Rattle.pd_patch.specs.declared.patch.Patch.{Patch}
use Rattle.pd_patch.specs.Grown.{IsFresh, IsTree}
use Rattle.pd_patch.specs.Sounds.{sound_of}
use Rattle.pd_patch.specs.Values.{blocks_told, block_count, AreSilent, HasNoOthers}
use Rattle.pd_grove.specs.declared.ports.Side.TheVariants.{Outlets}
use Rattle.pd_web.specs.Hops.{ports_told}
use Rattle.pd_hearing.specs.Worlds.{bare, net_of, states_of, kept_of}
use Rattle.pd_regrowth_law.proofs.TakeLemmas.{patch_takes}
use Rattle.pd_guards.specs.Order.{HasFirst, IsKept, IsKind}
use Rattle.pd_guards.specs.Worlds.{IsInOrder}
use Rattle.pd_guards.specs.Growing.{IsBorn, AreBorn, BoxesIn, LibraryIn, StockIn}
use Rattle.pd_guards.specs.Sounds.{AreValues, HasValues, HaveValues, IsSounding, sound_with}
use Rattle.pd_guards.proofs.FactLemmas.{either, all-from}
use Rattle.pd_guards.proofs.MoreLemmas.{longer, first_more}
use Rattle.pd_guards.proofs.NamingLemmas.{started_in, started_values}
use Rattle.pd_guards.proofs.SignalLemmas.{all-same, silent_values}
use Rattle.pd_guards.proofs.GrownLemmas.{sound_in, patch_in}

-- what growth has at hand when it begins
up_in : (n k : ℕ) → n + k ≤ 1000000001 → AllByRecursion (λ z. z ≤ 1000000000) (numbers_up n k)
unfolding numbers_up
up_in n zero l = tt
up_in n (suc k) l = (omega arith, up_in (n + 1) k (omega arith))

none_up : (n k : ℕ) → k ≡ 0 → AllByRecursion (λ z. z ≤ 1000000000) (numbers_up n k)
unfolding numbers_up
none_up n zero e = tt
none_up n (suc k) e = absurd (omega arith)

pub zeros_in : (n : ℕ) → AllByRecursion (λ z. z ≤ 1000000000) (zeros_from n)
unfolding zeros_from
zeros_in n = elim (cases_lt n 1000000001) [ inl low ↦ up_in n (1000000001 - n) (omega arith) | inr high ↦ none_up n (1000000001 - n) (omega arith) ]

pub begins_in : (names : Names) (n : ℕ) → HasFirst names → StockIn (beginning names n)
begins_in names n h = record { first = h; zeros = zeros_in n }

-- a library of proper documents
some_same : (a b : Answer) → Some a ≡ Some b → a ≡ b
some_same a b e = ap (λ (o : Option Answer). unwrap_or o a) e

none_never : (a : Answer) → None ≡ Some a → ⊥
none_never a e = true≢false (sym (ap (λ (o : Option Answer). is_some o) e))

found_in : (names : Names) (d : Doc) (a : Answer) → IsProperAnswer names a → a ≡ Found d → BoxesIn names d.root.boxes
found_in names d a h e = let p : IsProper names d.root = subst (IsProperAnswer names) e h in sound_in names d.root.boxes p.sound.1

pub library_in : (names : Names) (files : List (ℕ × Answer)) → AreProper names files → LibraryIn names (answer_in files)
library_in names [] h s d = λ e. absurd (none_never (Found d) e)
library_in names (f ∷ files) h s d =
    either (λ (o : Option Answer). o ≡ Some (Found d) → BoxesIn names d.root.boxes) (f.0 == s) (Some f.1) (answer_in files s)
    (λ e. found_in names d f.1 h.0 (some_same f.1 (Found d) e)) (library_in names files h.1 s d)

-- a box of the tree
pub cell_born : (names : Names) (t : Trees) (x : Cell) → AreBorn names t → HasCell t x → IsBorn names x.kind
cell_born names Done x h y = absurd y
cell_born names (Leaf c rest) x h y = elim y [ inl e ↦ subst (λ (z : Cell). IsBorn names z.kind) e h.0 | inr z ↦ cell_born names rest x h.1 z ]
cell_born names (Holder c s inner rest) x h y =
    elim y [
      | inl e ↦ subst (λ (z : Cell). IsBorn names z.kind) e h.0
      | inr w ↦ elim w [ inl z ↦ cell_born names inner x h.1 z | inr z ↦ cell_born names rest x h.2 z ]
    ]

-- a box of a tree counts no more values than the tree
pub cell_size : (rate : Rate) (t : Trees) (x : Cell) → HasCell t x → size_of x.kind rate ≤ sound_of rate t
cell_size rate Done x y = absurd y
cell_size rate (Leaf c rest) x y =
    elim y [
      | inl e ↦ (let same : size_of c.kind rate ≡ size_of x.kind rate = ap (λ (z : Cell). size_of z.kind rate) e in omega arith)
      | inr z ↦ (let l : size_of x.kind rate ≤ sound_of rate rest = cell_size rate rest x z in omega arith)
    ]
cell_size rate (Holder c s inner rest) x y =
    elim y [
      | inl e ↦ (let same : size_of c.kind rate ≡ size_of x.kind rate = ap (λ (z : Cell). size_of z.kind rate) e in omega arith)
      | inr w ↦ elim w [
        | inl z ↦ (let l : size_of x.kind rate ≤ sound_of rate inner = cell_size rate inner x z in omega arith)
        | inr z ↦ (let l : size_of x.kind rate ≤ sound_of rate rest = cell_size rate rest x z in omega arith)
      ]
    ]

kinds_in : (names : Names) (o : Option Node) → ((n : Node) → o ≡ Some n → IsKind names n.kind) → IfSome (kind_in (bare o)) (IsKind names)
kinds_in names None h = tt
kinds_in names (Some n) h = h n refl

some_values : (o : Option State) (s : State) → o ≡ Some s → HasValues s → IfSome o HasValues
some_values o s e h = subst (λ (x : Option State). IfSome x HasValues) (sym e) h

values_in : (o : Option Node) → ((n : Node) → o ≡ Some n → IfSome n.state HasValues) → IfSome (state_in o) HasValues
values_in None h = tt
values_in (Some n) h = h n refl

-- the blocks of a row, which has none where there is no box
no_blocks : (own : List (List ℤ)) → ((i : ℕ) → slice_get own i ≡ None) → AllByRecursion AreValues own
no_blocks own h = all-from AreValues own (λ i. subst (λ (x : Option (List ℤ)). IfSome x AreValues) (sym (h i)) tt)

row_in : (o : Option (List (List ℤ))) (node : Option Node) (n : ℕ) → (IsSome node → o ≡ Some (replicate n silent_block))
    → ((i : ℕ) → node ≡ None → option_and_then (λ (own : List (List ℤ)). slice_get own i) o ≡ None) → IfSome o (AllByRecursion AreValues)
row_in None node n h g = tt
row_in (Some own) (Some x) n h g = subst (λ (y : Option (List (List ℤ))). IfSome y (AllByRecursion AreValues)) (sym (h refl)) (all-same AreValues n silent_block silent_values)
row_in (Some own) None n h g = no_blocks own (λ i. g i refl)

blocks_in : (p : Patch) → AreSilent p.grove p.web (blocks_told p) → HasNoOthers p.grove (blocks_told p) → AllByRecursion (AllByRecursion AreValues) (blocks_told p)
blocks_in p silent no_others =
    all-from (AllByRecursion AreValues) (blocks_told p)
    (λ k. row_in (slice_get (blocks_told p) k) (get p.grove.nodes k) (block_count (ports_told p.web Outlets k)) (silent k) (no_others k))

some_state : (names : Names) (now : ℕ) (o : Option State) (s : State) → o ≡ Some s → IsKept names now s → IfSome o (IsKept names now)
some_state names now o s e h = subst (λ (x : Option State). IfSome x (IsKept names now)) (sym e) h

states_in : (names : Names) (now : ℕ) (o : Option Node) → ((n : Node) → o ≡ Some n → IfSome n.state (IsKept names now)) → IfSome (state_in o) (IsKept names now)
states_in names now None h = tt
states_in names now (Some n) h = h n refl

module _ (p : Patch) (names : Names) (rate : Rate) (t : Trees) (fresh : NodesFresh rate 0 (get p.grove.nodes)) (born : AreBorn names t) (few : sound_of rate t ≤ 16777216) (of : NodesOf t (get p.grove.nodes)) where
  box_born : (k : ℕ) (n : Node) → get p.grove.nodes k ≡ Some n → IsBorn names n.kind
  box_born k n e = cell_born names t (node_seen n).cell born (of k n e)

  box_keeps : (now k : ℕ) (n : Node) → get p.grove.nodes k ≡ Some n → IfSome n.state (IsKept names now)
  box_keeps now k n e =
      let b : IsBorn names n.kind = box_born k n e in
      let l : size_of n.kind rate ≤ sound_of rate t = cell_size rate t (node_seen n).cell (of k n e) in
      some_state names now n.state (started (start_of n.kind rate) 0) (fresh k n e) (started_in names now (start_of n.kind rate) (b.kept now rate (omega arith)))

  pub planted_values : HaveValues (states_of p)
  planted_values k =
      values_in (get p.grove.nodes k)
      (λ n e. some_values n.state (started (start_of n.kind rate) 0) (fresh k n e) (started_values (start_of n.kind rate) ((box_born k n e).values rate)))

  pub planted_in : HasFirst names → (now : ℕ) → now ≤ 2 ^ 101 → (queue : Waiting) → IsInOrder (net_of p) now (kept_of p names queue)
  planted_in first now time queue = record {
    time = time;
    first = first;
    kinds = λ k. kinds_in names (get p.grove.nodes k) (λ n e. (box_born k n e).kind);
    states = λ k. states_in names now (get p.grove.nodes k) (λ n e. box_keeps now k n e);
  }

module _ (files : List (ℕ × Answer)) (name : List ℕ) (root : Page) (names0 names : Names) (n : ℕ) (rate : Rate) (p : Patch) (queue : Waiting) (first : HasFirst names0) (proper : IsProper names0 root) (library : AreProper names0 files)
    (tree : IsTree p names rate (grown (answer_in files) name root (beginning names0 n))) (fresh : IsFresh p names name rate) where
  tree_born : AreBorn names tree.tree.boxes
  tree_born =
      let g = tree.given in
      let w : Stock = beginning names0 n in
      let born : AreBorn g.after.names tree.tree.boxes = patch_in (answer_in files) name root w g.after tree.tree (library_in names0 files library) (sound_in names0 root.boxes proper.sound.1) (begins_in names0 n first) g.step in
      subst (λ (x : Names). AreBorn x tree.tree.boxes) (sym g.table) born

  pub patch_in_order : (now : ℕ) → now ≤ 2 ^ 101 → IsInOrder (net_of p) now (kept_of p names queue)
  patch_in_order now time =
      let g = tree.given in
      let w : Stock = beginning names0 n in
      let last : HasFirst g.after.names = first_more names0 g.after.names (longer names0 g.after.names (patch_takes (answer_in files) name root w g.after tree.tree g.step).names) first in
      planted_in p names rate tree.tree.boxes fresh.states tree_born tree.few_values tree.of_tree (subst HasFirst (sym g.table) last) now time queue

  pub patch_values : HaveValues (kept_of p names queue).states
  patch_values = planted_values p names rate tree.tree.boxes fresh.states tree_born tree.few_values tree.of_tree

  pub patch_sounds : IsSounding (sound_with (net_of p) (kept_of p names queue))
  patch_sounds = record { states = patch_values; blocks = blocks_in p fresh.blocks fresh.no_others }
