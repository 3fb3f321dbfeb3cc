-- A patch with a new box, one more or one in the place of another: what is said of the wires to inlets and of blocks is still so.
use Rattle.std.proofs.Common.{arith, ◌≡◌, ◌≢◌, ℕ, ℤ, zero, suc, ◌<◌, ◌≤◌, ◌^◌, ◌==◌, true, List, [], ◌∷◌, ◌++◌, length, replicate, slice_get, Option, Some, None, IfSome, IsSome, is_some, refl, sym, ap, subst, ◌∙◌, true≢false}
use Rattle.std.specs.Prelude.{option_and_then}
use Rattle.std.specs.List.{AllByRecursion}
use Rattle.std.proofs.lemmas.Option.{none-some, slice_get-get_or}
use Rattle.std.proofs.lemmas.List.{length-replicate}
use Rattle.slab.specs.Slab.{get}
use Rattle.pd_clock.specs.declared.times.Rate.{Rate}
use Rattle.pd_kind.specs.States.{silent_block}
use Rattle.pd_order.specs.Graph.{tally}
use Rattle.pd_order.proofs.Basics.{by_test, same_node, other_node}
use Rattle.pd_grove.specs.declared.nodes.Node.{Node}
use Rattle.pd_grove.specs.declared.ports.Side.TheVariants.{Outlets}
use Rattle.pd_grove.specs.Standing.{with_inner}
use Rattle.pd_web.specs.declared.jacks.Jack.{Jack}
use Rattle.pd_web.specs.declared.web.Hop.{Hop}
use Rattle.pd_web.specs.declared.web.Web.{Web}
use Rattle.pd_web.specs.declared.lines.Line.{Line}
use Rattle.pd_web.specs.Hops.{ports_told, signal_in, feed_hops}
use Rattle.pd_web.specs.Changes.{line_told}
use Rattle.pd_web.specs.Jacks.{jacks_in}
use Rattle.pd_patch.specs.declared.patch.Patch.{Patch}
use Rattle.pd_patch.specs.Fed.{keys_of, AreFed}
use Rattle.pd_patch.specs.Grown.{IsFresh}
use Rattle.pd_patch.specs.Values.{Blocks, block_count, block_at, blocks_told, first_blocks}
use Rattle.pd_patch.proofs.BlockLemmas.{blocks_some}
use Rattle.pd_boxes.specs.declared.room.Place.{Place}
use Rattle.pd_boxes.specs.Rows.{IsLonger, PutsUnder}
use Rattle.pd_boxes.specs.Room.{SameButRoom}
use Rattle.pd_boxes.specs.Put.{node_of, ComesIn}
use Rattle.pd_subpatches.specs.Shell.{IsShellPut}
use Rattle.pd_refitting.specs.Refits.{IsRefitted}
use Rattle.pd_grove.specs.declared.seeds.Seed.{Seed}
use Rattle.pd_guards.proofs.FactLemmas.{all-append, all-at, all-from}
use Rattle.pd_guards.specs.Sounds.{AreValues}
use Rattle.pd_guards.proofs.SignalLemmas.{all-same, silent_values}
use Rattle.pd_sized.specs.Sizes.{IsBlock}
use Rattle.pd_sized.proofs.StartLemmas.{silent_count}
use Rattle.pd_sound_law.specs.Ready.{HasBlocks}
use Rattle.pd_steady.specs.Steady.{HasRows}
use Rattle.pd_atom.specs.Names.{Names}

-- what holds at one key and at all others holds at all
pub by_key : (P : ℕ → Type 0) (key : ℕ) → P key → ((k : ℕ) → k ≢ key → P k) → (k : ℕ) → P k
by_key P key here others k = by_test (k == key) (λ e. subst P (sym (same_node k key e)) here) (λ e. others k (other_node k key e))

-- ---- lists by key that are longer

cut_short : {X : Type 0} (xs ys : List X) (k : ℕ) (x : X) → slice_get xs k ≡ Some x → slice_get (xs ++ ys) k ≡ Some x
cut_short [] ys k x e = absurd (none-some x e)
cut_short (y ∷ xs) ys zero x e = e
cut_short (y ∷ xs) ys (suc k) x e = cut_short xs ys k x e

-- each of them is as the others where what comes behind is so
pub longer_all : {X : Type 0} (P : X → Type 0) (x : X) (old new : List X) → IsLonger x old new → P x → AllByRecursion P old → AllByRecursion P new
longer_all {X} P x old new l h all = subst (AllByRecursion P) (sym l.1) (all-append P old (replicate l.0 x) all (all-same P l.0 x h))

pub put_all : {X : Type 0} (P : X → Type 0) (old new : List X) (key : ℕ) (x : X) → PutsUnder old new key x → P x → AllByRecursion P old → AllByRecursion P new
put_all {X} P old new key x p h all =
    all-from P new
    (by_key (λ k. IfSome (slice_get new k) P) key (subst (λ (o : Option X). IfSome o P) (sym p.is) h)
    (λ k other. subst (λ (o : Option X). IfSome o P) (sym (p.others k other)) (all-at P old k all)))

-- ---- the blocks of outlets

row_some : (row : Option (List (List ℤ))) (old new : Blocks) (k o : ℕ) → slice_get old k ≡ row → ((own : List (List ℤ)) → row ≡ Some own → slice_get new k ≡ Some own)
    → IsSome (option_and_then (λ (own : List (List ℤ)). slice_get own o) row) → IsSome (block_at new k o)
row_some None old new k o e f h = absurd (true≢false (sym h))
row_some (Some own) old new k o e f h = subst (λ (r : Option (List (List ℤ))). IsSome (option_and_then (λ (x : List (List ℤ)). slice_get x o) r)) (sym (f own refl)) h

-- a block that is there stays there
pub longer_block : (old new : Blocks) → IsLonger [] old new → (k o : ℕ) → IsSome (block_at old k o) → IsSome (block_at new k o)
longer_block old new l k o h =
    row_some (slice_get old k) old new k o refl (λ own e. ap (λ (xs : Blocks). slice_get xs k) l.1 ∙ cut_short old (replicate l.0 []) k own e) h

below_all : (ports : List Jack) (o : ℕ) → signal_in (slice_get ports o) ≡ true → o < length ports
below_all [] o h = absurd (true≢false (sym h))
below_all (j ∷ ports) zero h = omega arith
below_all (j ∷ ports) (suc o) h = let rest : o < length ports = below_all ports o h in omega (arith, rest)

silent_there : (n o : ℕ) → o < n → IsSome (slice_get (replicate n silent_block) o)
silent_there n o l = let all = length-replicate n silent_block in ap is_some (slice_get-get_or (replicate n silent_block) o silent_block (omega (arith, all, l)))

-- a new box has its blocks
pub first_there : (w : Web) (key o : ℕ) → o < block_count (ports_told w Outlets key) → IsSome (slice_get (first_blocks w key) o)
first_there w key o l = silent_there (block_count (ports_told w Outlets key)) o l

-- so each outlet that carries signals has one
pub rows_blocks : (w : Web) (blocks : Blocks) → HasRows w blocks → HasBlocks w blocks
rows_blocks w blocks h k o sounds =
    let js : List Jack = ports_told w Outlets k in
    h k o (subst (λ (n : ℕ). o < n) (blocks_some js o sounds) (below_all js o sounds))

below_none : (n : ℕ) → n < 0 → ⊥
below_none n l = omega (arith, l)

-- where there are no outlets there are no blocks
pub no_outlets : (js : List Jack) (o : ℕ) → js ≡ [] → o < block_count js → ⊥
no_outlets js o e l = below_none o (subst (λ (xs : List Jack). o < block_count xs) e l)

-- where a patch has grown, boxes have their blocks
fresh_row : (p : Patch) (names : Names) (file : List ℕ) (rate : Rate) → IsFresh p names file rate → (k o : ℕ) (n : Option Node) → get p.grove.nodes k ≡ n → o < block_count (ports_told p.web Outlets k)
    → IsSome (block_at (blocks_told p) k o)
fresh_row p names file rate fresh k o None e l = absurd (no_outlets (ports_told p.web Outlets k) o (fresh.wires.ports Outlets k ∙ ap (jacks_in Outlets p.grove) e) l)
fresh_row p names file rate fresh k o (Some n) e l =
    subst (λ (row : Option (List (List ℤ))). IsSome (option_and_then (λ (own : List (List ℤ)). slice_get own o) row)) (sym (fresh.blocks k (ap is_some e))) (first_there p.web k o l)

pub fresh_rows : (p : Patch) (names : Names) (file : List ℕ) (rate : Rate) → IsFresh p names file rate → HasRows p.web (blocks_told p)
fresh_rows p names file rate fresh k o l = fresh_row p names file rate fresh k o (get p.grove.nodes k) refl l

-- where a box has the outlets that it had, it has their blocks
pub same_row : (w v : Web) (k o : ℕ) → ports_told v Outlets k ≡ ports_told w Outlets k → o < block_count (ports_told v Outlets k) → o < block_count (ports_told w Outlets k)
same_row w v k o e l = subst (λ (js : List Jack). o < block_count js) e l

-- ---- two webs with the same wires

pub fed_same : (w v : Web) → ((k : ℕ) → line_told v k ≡ line_told w k) → ((node inlet : ℕ) → feed_hops v node inlet ≡ feed_hops w node inlet) → AreFed w → AreFed v
fed_same w v lines feeds h = record {
  live = λ node inlet key l. subst (λ (o : Option Line). IsSome o) (sym (lines key)) (h.live node inlet key (subst (λ (hops : List Hop). 0 < tally key (keys_of hops)) (feeds node inlet) l));
  once = λ node inlet key. subst (λ (hops : List Hop). tally key (keys_of hops) ≤ 1) (sym (feeds node inlet)) (h.once node inlet key);
  few = λ node inlet. subst (λ (hops : List Hop). length hops ≤ 65536) (sym (feeds node inlet)) (h.few node inlet);
}

-- ---- a patch with a new box, where room was set aside for it before

-- all that is said of outlets and their blocks
abbrev HasBlock : Patch → ℕ → Type 0
HasBlock p k = (o : ℕ) → o < block_count (ports_told p.web Outlets k) → IsSome (block_at (blocks_told p) k o)

-- under a key stands this box now, and all others stay
pub record HasOneNew (p q : Patch) (key : ℕ) (n : Node) : Type 0 where
  pub is : get q.grove.nodes key ≡ Some n
  pub others : (k : ℕ) → k ≢ key → get q.grove.nodes k ≡ get p.grove.nodes k
  pub fed : AreFed p.web → AreFed q.web
  pub blocks : HasRows p.web (blocks_told p) → HasRows q.web (blocks_told q)
  pub values : AllByRecursion (AllByRecursion AreValues) (blocks_told p) → AllByRecursion (AllByRecursion AreValues) (blocks_told q)
  pub sizes : AllByRecursion (AllByRecursion IsBlock) (blocks_told p) → AllByRecursion (AllByRecursion IsBlock) (blocks_told q)

-- there was none under the key
pub record HasOneMore (p q : Patch) (key : ℕ) (n : Node) : Type 0 where
  pub new : HasOneNew p q key n
  pub vacant : get p.grove.nodes key ≡ None
  pub low : key < 2 ^ 32

-- where room was set aside the blocks are there
pub room_blocks : (p r : Patch) → SameButRoom p r → HasRows p.web (blocks_told p) → HasRows r.web (blocks_told r)
room_blocks p r room h k o l =
    longer_block (blocks_told p) (blocks_told r) room.values k o (h k o (same_row p.web r.web k o (room.web.kept.ports Outlets k) l))

pub room_fed : (p r : Patch) → SameButRoom p r → AreFed p.web → AreFed r.web
room_fed p r room h = fed_same p.web r.web room.web.lines room.web.feeds h

pub room_all : (p r : Patch) (P : List (List ℤ) → Type 0) → SameButRoom p r → P [] → AllByRecursion P (blocks_told p) → AllByRecursion P (blocks_told r)
room_all p r P room none h = longer_all P [] (blocks_told p) (blocks_told r) room.values none h

-- each box stays, and what is said of the wires to inlets and of blocks is still so
pub record KeepsBoxes (p q : Patch) : Type 0 where
  pub nodes : (k : ℕ) → get q.grove.nodes k ≡ get p.grove.nodes k
  pub fed : AreFed p.web → AreFed q.web
  pub blocks : HasRows p.web (blocks_told p) → HasRows q.web (blocks_told q)
  pub values : AllByRecursion (AllByRecursion AreValues) (blocks_told p) → AllByRecursion (AllByRecursion AreValues) (blocks_told q)
  pub sizes : AllByRecursion (AllByRecursion IsBlock) (blocks_told p) → AllByRecursion (AllByRecursion IsBlock) (blocks_told q)

pub keeps_then : (p r q : Patch) → KeepsBoxes p r → KeepsBoxes r q → KeepsBoxes p q
keeps_then p r q a b = record {
  nodes = λ k. b.nodes k ∙ a.nodes k;
  fed = λ h. b.fed (a.fed h);
  blocks = λ h. b.blocks (a.blocks h);
  values = λ h. b.values (a.values h);
  sizes = λ h. b.sizes (a.sizes h);
}

pub room_keeps : (p r : Patch) → SameButRoom p r → KeepsBoxes p r
room_keeps p r room = record {
  nodes = room.grove.nodes;
  fed = room_fed p r room;
  blocks = room_blocks p r room;
  values = room_all p r (AllByRecursion AreValues) room tt;
  sizes = room_all p r (AllByRecursion IsBlock) room tt;
}

low_key : (key : ℕ) → key < 4294967295 → key < 2 ^ 32
low_key key l = omega arith

-- a box stands under a key now, with silent blocks, and all other boxes stay, and the wires
pub record StandsUnder (p q : Patch) (key : ℕ) (n : Node) : Type 0 where
  pub is : get q.grove.nodes key ≡ Some n
  pub others : (k : ℕ) → k ≢ key → get q.grove.nodes k ≡ get p.grove.nodes k
  pub lines : (k : ℕ) → line_told q.web k ≡ line_told p.web k
  pub feeds : (node inlet : ℕ) → feed_hops q.web node inlet ≡ feed_hops p.web node inlet
  pub ports : (k : ℕ) → k ≢ key → ports_told q.web Outlets k ≡ ports_told p.web Outlets k
  pub blocks : PutsUnder (blocks_told p) (blocks_told q) key (first_blocks q.web key)

-- a box came under a key
pub record ComesUnder (p q : Patch) (key : ℕ) (n : Node) : Type 0 where
  pub stands : StandsUnder p q key n
  pub vacant : get p.grove.nodes key ≡ None
  pub low : key < 4294967295

-- one without a canvas inside
pub box_under : (p q : Patch) (table : Names) (place : Place) (seed : Seed) (key : ℕ) → ComesIn p q table place seed key → ComesUnder p q key (node_of place.canvas seed)
box_under p q table place seed key c = record {
  stands = record {
    is = c.grove.is;
    others = c.grove.others;
    lines = c.ports.lines;
    feeds = c.ports.feeds;
    ports = c.ports.other_ports Outlets;
    blocks = c.blocks;
  };
  vacant = c.grove.vacant;
  low = c.low;
}

-- one that holds a canvas without boxes
pub shell_under : (p q : Patch) (table : Names) (place : Place) (seed : Seed) (key : ℕ) → (put : IsShellPut p q table place seed key)
    → ComesUnder p q key (with_inner put.comes.canvas (node_of place.canvas seed))
shell_under p q table place seed key put =
    let c = put.comes in
    record {
      stands = record {
        is = c.grove.canvas.is;
        others = λ k other. c.grove.canvas.others k other ∙ c.grove.box.others k other;
        lines = c.ports.lines;
        feeds = c.ports.feeds;
        ports = c.ports.other_ports Outlets;
        blocks = record {
          is = c.blocks.is ∙ ap (λ (js : List Jack). Some (replicate (block_count js) silent_block)) (sym (c.ports.ports Outlets));
          others = c.blocks.others;
        };
      };
      vacant = c.grove.box.vacant;
      low = c.low;
    }

-- one that became another one keeps its wires, and has the ports of its kind
pub refit_under : (p q : Patch) (table : Names) (key : ℕ) (n : Node) (seed : Seed) → IsRefitted p q table key n seed → StandsUnder p q key (node_of n.board seed)
refit_under p q table key n seed refit = record {
  is = refit.grove.is;
  others = refit.grove.others;
  lines = refit.ports.lines;
  feeds = refit.ports.feeds;
  ports = refit.ports.other_ports Outlets;
  blocks = refit.blocks;
}

-- where a box has its first blocks, each box has its blocks if each other one has
pub put_blocks : (r q : Patch) (key : ℕ) → PutsUnder (blocks_told r) (blocks_told q) key (first_blocks q.web key)
    → ((k : ℕ) → k ≢ key → ports_told q.web Outlets k ≡ ports_told r.web Outlets k) → HasRows r.web (blocks_told r) → HasRows q.web (blocks_told q)
put_blocks r q key puts ports h =
    by_key (HasBlock q) key
    (λ o l. subst (λ (row : Option (List (List ℤ))). IsSome (option_and_then (λ (own : List (List ℤ)). slice_get own o) row)) (sym puts.is) (first_there q.web key o l))
    (λ k other o l. subst (λ (row : Option (List (List ℤ))). IsSome (option_and_then (λ (own : List (List ℤ)). slice_get own o) row)) (sym (puts.others k other))
    (h k o (same_row r.web q.web k o (ports k other) l)))

-- and what holds of each block, and of silence, holds of each then
pub put_each : (P : List ℤ → Type 0) (r q : Patch) (key : ℕ) → PutsUnder (blocks_told r) (blocks_told q) key (first_blocks q.web key) → P silent_block
    → AllByRecursion (AllByRecursion P) (blocks_told r) → AllByRecursion (AllByRecursion P) (blocks_told q)
put_each P r q key puts silent h =
    put_all (AllByRecursion P) (blocks_told r) (blocks_told q) key (first_blocks q.web key) puts (all-same P (block_count (ports_told q.web Outlets key)) silent_block silent) h

pub one_new : (p r q : Patch) (key : ℕ) (n : Node) → KeepsBoxes p r → StandsUnder r q key n → HasOneNew p q key n
one_new p r q key n kept c = record {
  is = c.is;
  others = λ k other. c.others k other ∙ kept.nodes k;
  fed = λ h. fed_same r.web q.web c.lines c.feeds (kept.fed h);
  blocks = λ h. put_blocks r q key c.blocks c.ports (kept.blocks h);
  values = λ h. put_each AreValues r q key c.blocks silent_values (kept.values h);
  sizes = λ h. put_each IsBlock r q key c.blocks silent_count (kept.sizes h);
}

pub one_more : (p r q : Patch) (key : ℕ) (n : Node) → KeepsBoxes p r → ComesUnder r q key n → HasOneMore p q key n
one_more p r q key n kept c = record { new = one_new p r q key n kept c.stands; vacant = sym (kept.nodes key) ∙ c.vacant; low = low_key key c.low }

-- and after that each box stays
pub more_keeps : (p q r : Patch) (key : ℕ) (n : Node) → HasOneMore p q key n → KeepsBoxes q r → HasOneMore p r key n
more_keeps p q r key n more kept = record {
  new = record {
    is = kept.nodes key ∙ more.new.is;
    others = λ k other. kept.nodes k ∙ more.new.others k other;
    fed = λ h. kept.fed (more.new.fed h);
    blocks = λ h. kept.blocks (more.new.blocks h);
    values = λ h. kept.values (more.new.values h);
    sizes = λ h. kept.sizes (more.new.sizes h);
  };
  vacant = more.vacant;
  low = more.low;
}
