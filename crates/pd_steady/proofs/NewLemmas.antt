-- A patch with new boxes: what holds of all boxes of the old one and of the new boxes holds of all.
use Rattle.std.proofs.Common.{arith, ◌≡◌, ◌⊎◌, inl, inr, ◌<◌, ◌≤◌, ℕ, ℤ, Bool, true, false, List, length, slice_get, Option, Some, None, IfSome, IsSome, is_some, option_map, option_and_then, refl, sym, ap, subst, ◌∙◌, true≢false}
use Rattle.std.specs.List.{AllByRecursion}
use Rattle.std.proofs.lemmas.List.{length-map}
use Rattle.slab.specs.Slab.{get}
use Rattle.pd_kind.specs.Fit.{blank}
use Rattle.pd_kind.specs.States.{silent_block}
use Rattle.pd_order.specs.Graph.{tally}
use Rattle.pd_grove.specs.declared.nodes.Node.{Node}
use Rattle.pd_grove.specs.declared.ports.Side.TheVariants.{Outlets}
use Rattle.pd_grove.specs.Telling.{kind_in, state_in}
use Rattle.pd_owning.specs.Bound.{is_among}
use Rattle.pd_web.specs.declared.web.Hop.{Hop}
use Rattle.pd_web.specs.declared.web.Web.{Web}
use Rattle.pd_web.specs.Hops.{ports_told, feed_hops, feed_keys}
use Rattle.pd_web.specs.Changes.{line_told, wires_told}
use Rattle.pd_patch.specs.declared.patch.Patch.{Patch}
use Rattle.pd_patch.specs.Fed.{keys_of, AreFed}
use Rattle.pd_patch.specs.Values.{block_at, block_count, blocks_told}
use Rattle.pd_patch.proofs.FedLemmas.{told_keys, apart_once, found_live}
use Rattle.pd_hearing.specs.Worlds.{bare, net_of, states_of}
use Rattle.pd_instances.specs.Part.{AreFedOnce, HasPartPorts, HasPartBlocks}
use Rattle.pd_guards.specs.Sounds.{AreValues}
use Rattle.pd_guards.proofs.FactLemmas.{all-at, all-from}
use Rattle.pd_guards.proofs.SignalLemmas.{all-same}
use Rattle.pd_sized.specs.Kinds.{blank_of, KeepsOfKind}
use Rattle.pd_sized.specs.Sizes.{IsBlock}
use Rattle.pd_steady.specs.Steady.{HasRows}
use Rattle.pd_stage.proofs.FedLemmas.{few_keys}
use Rattle.pd_steady.proofs.KeyLemmas.{by_key, HasOneNew, first_there, same_row}

-- under a key there is a box of which this holds
abbrev pub IsNew : (Node → Type 0) → Option Node → Type 0
IsNew P o = (n : Node) × (o ≡ Some n) × P n

-- Under each key there is what there was, or a box of which this holds. What is said of the wires to inlets and of blocks is still so, where there are no
-- more wires than a patch may have.
pub record HasNew (p q : Patch) (P : ℕ → Node → Type 0) : Type 0 where
  pub each : (k : ℕ) → (get q.grove.nodes k ≡ get p.grove.nodes k) ⊎ IsNew (P k) (get q.grove.nodes k)
  pub fed : wires_told q.web ≤ 65536 → AreFed p.web → AreFed q.web
  pub blocks : HasRows p.web (blocks_told p) → HasRows q.web (blocks_told q)
  pub values : AllByRecursion (AllByRecursion AreValues) (blocks_told p) → AllByRecursion (AllByRecursion AreValues) (blocks_told q)
  pub sizes : AllByRecursion (AllByRecursion IsBlock) (blocks_told p) → AllByRecursion (AllByRecursion IsBlock) (blocks_told q)

-- what follows from what holds of them
pub new_weaker : (p q : Patch) (P Q : ℕ → Node → Type 0) → HasNew p q P → ((k : ℕ) (n : Node) → P k n → Q k n) → HasNew p q Q
new_weaker p q P Q new f = record {
  each = λ k. by k (new.each k);
  fed = new.fed;
  blocks = new.blocks;
  values = new.values;
  sizes = new.sizes;
}
  where
    by : (k : ℕ) → (get q.grove.nodes k ≡ get p.grove.nodes k) ⊎ IsNew (P k) (get q.grove.nodes k) → (get q.grove.nodes k ≡ get p.grove.nodes k) ⊎ IsNew (Q k) (get q.grove.nodes k)
    by k (inl same) = inl same
    by k (inr x) = inr (x.0, x.1, f k x.0 x.2)

-- one new box
pub one_by : (p q : Patch) (P : ℕ → Node → Type 0) (key : ℕ) (n : Node) → HasOneNew p q key n → P key n → HasNew p q P
one_by p q P key n new h = record {
  each = by_key (λ k. (get q.grove.nodes k ≡ get p.grove.nodes k) ⊎ IsNew (P k) (get q.grove.nodes k)) key (inr (n, new.is, h)) (λ k other. inl (new.others k other));
  fed = λ few. new.fed;
  blocks = new.blocks;
  values = new.values;
  sizes = new.sizes;
}

module _ (p q : Patch) (P : ℕ → Node → Type 0) (new : HasNew p q P) where
  -- what holds of each box that was, and of the new ones, holds of each
  pub all_new : (T : ℕ → Option Node → Type 0) → ((k : ℕ) (n : Node) → P k n → T k (Some n)) → ((k : ℕ) → T k (get p.grove.nodes k)) → (k : ℕ) → T k (get q.grove.nodes k)
  all_new T here old k = by (new.each k)
    where
      by : (get q.grove.nodes k ≡ get p.grove.nodes k) ⊎ IsNew (P k) (get q.grove.nodes k) → T k (get q.grove.nodes k)
      by (inl same) = subst (T k) (sym same) (old k)
      by (inr x) = subst (T k) (sym x.1) (here k x.0 x.2)

  -- what boxes keep is of their kinds, where what the new ones keep is of their kinds
  pub new_objects : ((k : ℕ) (n : Node) → P k n → option_map blank n.state ≡ Some (blank_of n.kind)) → KeepsOfKind (λ k. kind_in ((net_of p).nodes k)) (states_of p)
      → KeepsOfKind (λ k. kind_in ((net_of q).nodes k)) (states_of q)
  new_objects objects old = all_new (λ k o. option_map blank (state_in o) ≡ option_map blank_of (kind_in (bare o))) objects old

  -- where they are under keys that were of no box, each box that was there stays
  new_stays : ((k : ℕ) (n : Node) → P k n → get p.grove.nodes k ≡ None) → (k : ℕ) → IsSome (get p.grove.nodes k) → get q.grove.nodes k ≡ get p.grove.nodes k
  new_stays vacant k there = by (new.each k)
    where
      by : (get q.grove.nodes k ≡ get p.grove.nodes k) ⊎ IsNew (P k) (get q.grove.nodes k) → get q.grove.nodes k ≡ get p.grove.nodes k
      by (inl same) = same
      by (inr x) = absurd (true≢false (sym there ∙ ap is_some (vacant k x.0 x.2)))

  -- and keeps what it kept
  pub new_alike : ((k : ℕ) (n : Node) → P k n → get p.grove.nodes k ≡ None) → (k : ℕ) → IsSome (states_of p k) → option_map blank (states_of q k) ≡ option_map blank (states_of p k)
  new_alike vacant k there = ap (λ (o : Option Node). option_map blank (state_in o)) (new_stays vacant k (keeps_some (get p.grove.nodes k) there))
    where
      keeps_some : (o : Option Node) → IsSome (state_in o) → IsSome o
      keeps_some None h = h
      keeps_some (Some n) h = refl

-- ---- boxes that came with all that lies in them

some_there : {A : Type 0} (o : Option A) (x : A) → o ≡ Some x → IsSome o
some_there o x e = ap is_some e

-- where each wire stands once among the feeds of its inlet, and there are no more wires than a patch may have
pub once_fed : (w : Web) → wires_told w ≤ 65536 → AreFedOnce w → AreFed w
once_fed w few fed =
    let keys : (n i : ℕ) → keys_of (feed_hops w n i) ≡ feed_keys w n i = λ n i. told_keys _ (feed_keys w n i) in
    let live : (n i key : ℕ) → 0 < tally key (keys_of (feed_hops w n i)) → IsSome (line_told w key) =
    λ n i key m. found_live w key (feed_keys w n i) (λ j h e. some_there _ _ (fed.lines n i j h e)) (subst (λ (ks : List ℕ). 0 < tally key ks) (keys n i) m) in
    let once : (n i key : ℕ) → tally key (keys_of (feed_hops w n i)) ≤ 1 =
    λ n i key. subst (λ (ks : List ℕ). tally key ks ≤ 1) (sym (keys n i)) (apart_once key (feed_keys w n i) (fed.once n i)) in
    record {
      live = live;
      once = once;
      few = λ n i.
          let l : length (keys_of (feed_hops w n i)) ≤ wires_told w = few_keys w (keys_of (feed_hops w n i)) (once n i) (live n i) in
          let same = length-map (feed_hops w n i) (λ (h : Hop). h.key) in
          omega (arith, l, same, few);
    }

-- what holds of those and of all others holds of all
by_part : (P : ℕ → Type 0) (part : List ℕ) → ((k : ℕ) → is_among part k ≡ true → P k) → ((k : ℕ) → is_among part k ≡ false → P k) → (k : ℕ) → P k
by_part P part here others k = by (is_among part k) refl
  where
    by : (b : Bool) → is_among part k ≡ b → P k
    by true e = here k e
    by false e = others k e

module _ (p q : Patch) (part : List ℕ) (ports : HasPartPorts p q part) (blocks : HasPartBlocks p q part) where
  -- boxes have their blocks
  pub part_blocks : HasRows p.web (blocks_told p) → HasRows q.web (blocks_told q)
  part_blocks h =
      by_part (λ k. (o : ℕ) → o < block_count (ports_told q.web Outlets k) → IsSome (block_at (blocks_told q) k o)) part
      (λ k e o l. subst (λ (row : Option (List (List ℤ))). IsSome (option_and_then (λ (own : List (List ℤ)). slice_get own o) row)) (sym (blocks.blocks k e)) (first_there q.web k o l))
      (λ k e o l. subst (λ (row : Option (List (List ℤ))). IsSome (option_and_then (λ (own : List (List ℤ)). slice_get own o) row)) (sym (blocks.other_blocks k e))
      (h k o (same_row p.web q.web k o (ports.other_ports Outlets k e) l)))

  -- what holds of each block, and of silence, holds of each
  pub part_each : (P : List ℤ → Type 0) → P silent_block → AllByRecursion (AllByRecursion P) (blocks_told p) → AllByRecursion (AllByRecursion P) (blocks_told q)
  part_each P silent h =
      all-from (AllByRecursion P) (blocks_told q)
      (by_part (λ k. IfSome (slice_get (blocks_told q) k) (AllByRecursion P)) part
      (λ k e. subst (λ (o : Option (List (List ℤ))). IfSome o (AllByRecursion P)) (sym (blocks.blocks k e)) (all-same P (block_count (ports_told q.web Outlets k)) silent_block silent))
      (λ k e. subst (λ (o : Option (List (List ℤ))). IfSome o (AllByRecursion P)) (sym (blocks.other_blocks k e)) (all-at (AllByRecursion P) (blocks_told p) k h)))
