-- A patch into which a box came with all that lies in it goes on to run.
use Rattle.std.proofs.Common.{◌≡◌, ◌≢◌, ℕ, ℤ, zero, suc, ◌+◌, ◌<◌, ◌≤◌, ◌^◌, false, true, pos, List, [], ◌∷◌, ◌++◌, append-nil, length, take, drop, replicate, Option, Some, None, IsSome, IsTrue, refl, sym, ap, ◌∙◌, subst, inl, inr, arith}
use Rattle.std.specs.Prelude.{slice_get, option_map, option_and_then, ◌⊎◌}
use mathlib.Core.Logic.{⊎_elim}
use Rattle.std.proofs.lemmas.Bool.{cases_eq, false≢true}
use Rattle.std.proofs.lemmas.List.{length-replicate}
use Rattle.std.proofs.lemmas.Option.{none-some, same_Some}
use Rattle.slab.specs.Slab.{get}
use Rattle.pd_atom.specs.Names.{Names}
use Rattle.pd_clock.specs.declared.times.Rate.{Rate}
use Rattle.pd_object.specs.declared.kinds.Kind.{Kind}
use Rattle.pd_object.specs.Ports.{IsSmallKind}
use Rattle.pd_kind.specs.States.{silent_block}
use Rattle.pd_name.specs.declared.Class.{Class}
use Rattle.pd_name.specs.Rows.{owners_of}
use Rattle.pd_order.specs.Listing.{Listing}
use Rattle.pd_order.proofs.Basics.{by_test}
use Rattle.pd_grove.specs.declared.nodes.Node.{Node}
use Rattle.pd_grove.specs.declared.boards.Board.{Board}
use Rattle.pd_grove.specs.declared.seeds.Seed.{Seed}
use Rattle.pd_grove.specs.declared.ports.Side.{Side}
use Rattle.pd_grove.specs.declared.ports.Side.TheVariants.{Outlets}
use Rattle.pd_grove.specs.Forest.{holder_in, IsForest}
use Rattle.pd_grove.specs.Grafts.{HasPartMore}
use Rattle.pd_grove.specs.Owning.{board_in}
use Rattle.pd_grove.specs.Planting.{IsMadeOf, Uses}
use Rattle.pd_grove.specs.Ports.{port_signal}
use Rattle.pd_grove.specs.States.{SeedsSmall}
use Rattle.pd_grove.specs.Telling.{inner_in, keys_in}
use Rattle.pd_grove.proofs.UseLemmas.{none_or_some, not_both}
use Rattle.pd_bind.specs.Owning.{root_owner, owners_in}
use Rattle.pd_owning.specs.Bound.{is_among, AreNew, AreOwnersBut, but}
use Rattle.pd_clearing.proofs.ClearLemmas.{as_many}
use Rattle.pd_owning.proofs.FollowLemmas.{owners_stay}
use Rattle.pd_owning.proofs.ListLemmas.{all_kept_none}
use Rattle.pd_web.specs.declared.jacks.Jack.{Jack}
use Rattle.pd_web.specs.Canvases.{keys_at}
use Rattle.pd_web.specs.declared.web.Hop.{Hop}
use Rattle.pd_web.specs.declared.web.Web.{Web}
use Rattle.pd_web.specs.Changes.{Meet, wires_told}
use Rattle.pd_web.specs.Hops.{fan_hops, feed_hops, ports_told}
use Rattle.pd_web.specs.Jacks.{KindsSmall, jacks_at}
use Rattle.pd_patch.specs.declared.patch.Patch.{Patch}
use Rattle.pd_patch.specs.Built.{IsBuilt, HasPorts, block_sizes}
use Rattle.pd_patch.specs.Numbers.{AreUnder, IsOut}
use Rattle.pd_patch.specs.Orders.{HasOrder}
use Rattle.pd_patch.specs.Telling.{order_in}
use Rattle.pd_patch.specs.Values.{block_count, blocks_told}
use Rattle.pd_boxes.specs.declared.room.Place.{Place}
use Rattle.pd_boxes.specs.Put.{CanPut, HasOwners, IsNoPort, keys_before, keys_behind}
use Rattle.pd_boxes.specs.Rows.{NumbersFrom}
use Rattle.pd_boxes.proofs.BuiltLemmas.{numbers_more}
use Rattle.pd_instances.specs.Coming.{PartLayers}
use Rattle.pd_instances.specs.Part.{lines_of, HasPartBlocks, IsPartPut}
use Rattle.pd_instances.proofs.PartLemmas.{forest, back, here, stays, only, vacant, live, out_of_part, port_inside}
use Rattle.pd_instances.proofs.AssembleLemmas.{AreKnown, comes, has_ports, ports, other_fans, other_feeds, key_fans, key_feeds, own_fans, own_feeds, outer_order, other_order, one_holds, old_out, other_out, held_new}
use Rattle.pd_instances.proofs.ChainLemmas.{live_by_wires}

-- Lists.

drop_front : (n : ℕ) (ks ys : List ℕ) → n ≤ length ks → drop n (take n ks ++ ys) ≡ ys
drop_front zero [] ys l = refl
drop_front zero (k ∷ ks) ys l = by ys
  where
    by : (zs : List ℕ) → drop 0 zs ≡ zs
    by [] = refl
    by (z ∷ zs) = refl
drop_front (suc n) [] ys l = absurd (omega (arith, l))
drop_front (suc n) (k ∷ ks) ys l = drop_front n ks ys (omega (arith, l))

behind_there : (xs : List ℕ) (n i x : ℕ) → slice_get (drop n xs) i ≡ Some x → (j : ℕ) × (slice_get xs j ≡ Some x)
behind_there xs zero i x at = (i, same xs ∙ at)
  where
    same : (ys : List ℕ) → slice_get ys i ≡ slice_get (drop 0 ys) i
    same [] = refl
    same (y ∷ ys) = refl
behind_there [] (suc n) i x at = absurd (none-some x at)
behind_there (y ∷ xs) (suc n) i x at = let R = behind_there xs n i x at in (suc R.0, R.1)

-- Seeds.

seed_small : (seeds : List Seed) (i : ℕ) (s : Seed) → SeedsSmall seeds → slice_get seeds i ≡ Some s → IsSmallKind s.row.kind
seed_small [] i s A at = absurd (none-some s at)
seed_small (x ∷ seeds) zero s A at = subst (λ (y : Seed). IsSmallKind y.row.kind) (same_Some x s at) A.0
seed_small (x ∷ seeds) (suc i) s A at = seed_small seeds i s A.1 at

made_small : (s : Seed) (o : Option Node) (n : Node) → IsMadeOf s o → o ≡ Some n → IsSmallKind s.row.kind → IsSmallKind n.kind
made_small s None n m e small = absurd m
made_small s (Some x) n m e small = subst (λ (y : Node). IsSmallKind y.kind) (same_Some x n e) (subst (λ (k : Kind). IsSmallKind k) (sym m.2) small)

silent_count : length silent_block ≡ 64
unfolding silent_block
silent_count = length-replicate 64 (pos 0)

silent_sizes : (n : ℕ) → block_sizes (replicate n silent_block) ≡ replicate n 64
silent_sizes zero = refl
silent_sizes (suc n) =
    ap (λ (size : ℕ). size ∷ block_sizes (replicate n silent_block)) silent_count ∙ ap (λ (sizes : List ℕ). 64 ∷ sizes) (silent_sizes n)

-- where every list stays, wires meet as before, and are as many
lists_meet : (w v : Web) → ((k o : ℕ) → fan_hops v k o ≡ fan_hops w k o) → ((k i : ℕ) → feed_hops v k i ≡ feed_hops w k i) → Meet w → Meet v
lists_meet w v fans feeds m = record {
  fed = λ k o i x at.
      let R = m.fed k o i x (ap (λ (hs : List Hop). slice_get hs i) (sym (fans k o)) ∙ at) in
      (R.0, ap (λ (hs : List Hop). slice_get hs R.0) (feeds x.node x.port) ∙ R.1);
  fanned = λ k n i x at.
      let R = m.fanned k n i x (ap (λ (hs : List Hop). slice_get hs i) (sym (feeds k n)) ∙ at) in
      (R.0, ap (λ (hs : List Hop). slice_get hs R.0) (fans x.node x.port) ∙ R.1);
}

module _ (p q : Patch) (table : Names) (place : Place) (s : Seed) (seeds : List Seed) (key : ℕ) (part : List ℕ) (steps steps' : ℕ) (C : CanPut p) (plain : IsNoPort p place s.row.kind)
    (small : SeedsSmall (s ∷ seeds)) (within : place.number ≤ length (keys_at p.grove place.canvas)) (L : AreKnown) (Y : PartLayers p q table place s seeds key part steps steps') where
  N : (holder_in (get p.grove.boards place.canvas) ≡ None) ⊎ ((n : Node) → get q.grove.nodes key ≡ Some n → (side : Side) → port_signal side n.kind ≡ None)
  N = ⊎_elim
      (λ (e : holder_in (get p.grove.boards place.canvas) ≡ None). inl e)
      (λ (f : (side : Side) → port_signal side s.row.kind ≡ None). inr (λ n is side. ap (port_signal side) (Y.kind n is) ∙ f side)) plain

  F : IsForest (get q.grove.nodes) (get q.grove.boards) q.grove.root
  F = forest p.grove q.grove place.canvas key (keys_before p place) (keys_behind p place) C.forest Y.root Y.grove

  stay : (k : ℕ) → is_among part k ≡ false → get q.grove.nodes k ≡ get p.grove.nodes k
  stay = stays p.grove q.grove place.canvas key (keys_before p place) (keys_behind p place) C.forest Y.root Y.grove part Y.is_part

  has_all : HasPorts q.grove q.web
  has_all = has_ports p q.grove place key C Y.root Y.grove part Y.is_part Y.once N Y.opened Y.opens L q.web Y.lays.kept

  -- Keys.

  root_free : get q.grove.nodes root_owner ≡ None
  root_free = by_test (is_among part root_owner)
      (λ t. let l = Y.low root_owner t in absurd (omega (arith, l)))
      (λ f. stay root_owner f ∙ C.apart)

  kinds : KindsSmall q.grove
  kinds k n is = by_test (is_among part k)
      (λ t.
      let m = Y.uses.made k (vacant p.grove q.grove place.canvas key (keys_before p place) (keys_behind p place) C.forest Y.root Y.grove part Y.is_part k t)
      (live p.grove q.grove place.canvas key (keys_before p place) (keys_behind p place) C.forest Y.root Y.grove part Y.is_part k t) in
      made_small m.0 (get q.grove.nodes k) n m.3 is
      (seed_small (s ∷ seeds) m.1 m.0 small (ap (λ xs. slice_get xs m.1) (Y.uses.split ∙ append-nil Y.uses.used) ∙ m.2)))
      (λ f. C.small k n (sym (stay k f) ∙ is))

  -- Numbers.

  has : keys_at q.grove place.canvas ≡ keys_before p place ++ key ∷ keys_behind p place
  has = Y.grove.has

  outer_under : AreUnder q.numbers.items (keys_at q.grove place.canvas)
  outer_under i x at =
      let mid : AreUnder Y.numbers (keys_at q.grove place.canvas) =
      subst (λ (ks : List ℕ). AreUnder Y.numbers ks) (sym has)
      (numbers_more p.numbers.items Y.numbers (keys_at p.grove place.canvas) place.number key within (C.runs.numbers place.canvas)
      (λ j m k a b. F.own.once place.canvas j m k (ap (λ ks. slice_get ks j) has ∙ a) (ap (λ ks. slice_get ks m) has ∙ b))
      (subst (λ (ks : List ℕ). NumbersFrom p.numbers.items Y.numbers ks place.number) has Y.outer_numbers)) in
      Y.own_numbers.others x
      (old_out p q.grove place key C Y.root Y.grove part Y.is_part Y.once N place.canvas x Y.grove.live (F.own.home place.canvas i x at)) ∙ mid i x at

  far_under : (c : ℕ) → c ≢ place.canvas → IsSome (get p.grove.boards c) → AreUnder q.numbers.items (keys_at q.grove c)
  far_under c differ some i x at =
      let lies = F.own.home c i x at in
      Y.own_numbers.others x (old_out p q.grove place key C Y.root Y.grove part Y.is_part Y.once N c x some lies)
      ∙ Y.outer_numbers.others x (λ j there.
      let T = behind_there (keys_at q.grove place.canvas) place.number j x there in
      differ (same_Some c place.canvas (sym lies ∙ F.own.home place.canvas T.0 x T.1)))
      ∙ C.runs.numbers c i x (ap (λ o. slice_get (keys_in o) i) (sym (Y.grove.canvases_stay c differ some)) ∙ at)

  new_under : (c : ℕ) → get p.grove.boards c ≡ None → AreUnder q.numbers.items (keys_at q.grove c)
  new_under c new = ⊎_elim
      (λ (e : get q.grove.boards c ≡ None). λ i x at. absurd (none-some x (sym (ap (λ o. slice_get (keys_in o) i) e) ∙ at)))
      (λ (some : IsSome (get q.grove.boards c)).
      let H = one_holds p q.grove place key C Y.root Y.grove part Y.is_part Y.once N c new some in
      Y.own_numbers.under H.0 c H.1 H.2) (none_or_some (get q.grove.boards c))

  numbered : (c : ℕ) → AreUnder q.numbers.items (keys_at q.grove c)
  numbered c = ⊎_elim
      (λ (e : get p.grove.boards c ≡ None). new_under c e)
      (λ (some : IsSome (get p.grove.boards c)). ⊎_elim
      (λ (e : c ≡ place.canvas). subst (λ x. AreUnder q.numbers.items (keys_at q.grove x)) (sym e) outer_under)
      (λ (f : c ≢ place.canvas). far_under c f some) (cases_eq c place.canvas))
      (none_or_some (get p.grove.boards c))

  other_numbers : (k : ℕ) → is_among part k ≡ false → IsOut (keys_behind p place) k → slice_get q.numbers.items k ≡ slice_get p.numbers.items k
  other_numbers k f out =
      Y.own_numbers.others k (other_out p q.grove place key C Y.root Y.grove part Y.is_part Y.once N k f)
      ∙ Y.outer_numbers.others k (λ j there. outer j (ap (λ ks. slice_get ks j) (sym (drop_front place.number (keys_at p.grove place.canvas) (key ∷ keys_behind p place) within))
      ∙ ap (λ ks. slice_get (drop place.number ks) j) (sym has) ∙ there))
    where
      outer : (j : ℕ) → slice_get (key ∷ keys_behind p place) j ≡ Some k → ⊥
      outer zero e = false≢true (sym f ∙ ap (is_among part) (sym (same_Some key k e)) ∙ (Y.is_part key).1 (zero, refl))
      outer (suc j) e = out j e

  -- Orders.

  not_held : (c : ℕ) → IsSome (get p.grove.boards c) → (x : ℕ) → IsTrue (is_among part x) → inner_in (get q.grove.nodes x) ≢ Some c
  not_held c some x t e = not_both (get p.grove.boards c) (held_new p q.grove place key C Y.root Y.grove part Y.is_part Y.once N x c t e) some

  outer_now : HasOrder q.grove q.web (get q.grove.boards place.canvas) (order_in q.orders.items place.canvas)
  outer_now = subst (λ (o : Option Listing). HasOrder q.grove q.web (get q.grove.boards place.canvas) o) (sym (Y.own_orders.others place.canvas (not_held place.canvas Y.grove.live)))
      (outer_order p q.grove place key C Y.root Y.grove part Y.is_part Y.once N Y.opened Y.opens q.web Y.lays (order_in Y.orders place.canvas) Y.outer_order)

  far_same : (c : ℕ) → c ≢ place.canvas → IsSome (get p.grove.boards c) → order_in q.orders.items c ≡ order_in p.orders.items c
  far_same c f some = Y.own_orders.others c (not_held c some) ∙ Y.other_orders c f

  far_now : (c : ℕ) → c ≢ place.canvas → IsSome (get p.grove.boards c) → HasOrder q.grove q.web (get q.grove.boards c) (order_in q.orders.items c)
  far_now c f some = subst (λ (o : Option Listing). HasOrder q.grove q.web (get q.grove.boards c) o) (sym (far_same c f some))
      (other_order p q.grove place key C Y.root Y.grove part Y.is_part Y.once N Y.opened Y.opens q.web Y.lays c f some)

  -- a canvas that isn't there has none
  gone_now : (c : ℕ) → get p.grove.boards c ≡ None → get q.grove.boards c ≡ None → order_in q.orders.items c ≡ None
  gone_now c was is =
      Y.own_orders.others c (λ x t e. none-some x (sym (ap holder_in is) ∙ F.inside x c e))
      ∙ Y.other_orders c (λ e. not_both (get p.grove.boards place.canvas) (ap (get p.grove.boards) (sym e) ∙ was) Y.grove.live)
      ∙ subst (λ (b : Option Board). HasOrder p.grove p.web b (order_in p.orders.items c)) was (C.runs.orders c)

  new_now : (c : ℕ) → get p.grove.boards c ≡ None → HasOrder q.grove q.web (get q.grove.boards c) (order_in q.orders.items c)
  new_now c new = ⊎_elim
      (λ (e : get q.grove.boards c ≡ None). subst (λ (b : Option Board). HasOrder q.grove q.web b (order_in q.orders.items c)) (sym e) (gone_now c new e))
      (λ (some : IsSome (get q.grove.boards c)).
      let H = one_holds p q.grove place key C Y.root Y.grove part Y.is_part Y.once N c new some in
      live_by_wires q.grove q.web q.links Y.wired c (order_in q.orders.items c) some (Y.own_orders.is H.0 c H.1 H.2)) (none_or_some (get q.grove.boards c))

  ordered : (c : ℕ) → HasOrder q.grove q.web (get q.grove.boards c) (order_in q.orders.items c)
  ordered c = ⊎_elim
      (λ (e : get p.grove.boards c ≡ None). new_now c e)
      (λ (some : IsSome (get p.grove.boards c)). ⊎_elim
      (λ (e : c ≡ place.canvas). subst (λ x. HasOrder q.grove q.web (get q.grove.boards x) (order_in q.orders.items x)) (sym e) outer_now)
      (λ (f : c ≢ place.canvas). far_now c f some) (cases_eq c place.canvas))
      (none_or_some (get p.grove.boards c))

  -- More boxes can come.

  pub can : CanPut q
  can = record {
    forest = F;
    small = kinds;
    apart = root_free;
    runs = record { own = F.own; ports = has_all; inside = Y.wired.inside; linked = Y.wired.linked; orders = ordered; numbers = numbered };
  }

  -- Owners.

  pub owners : (file : List ℕ) → HasOwners p table file → HasOwners q table file
  owners file H class name =
      Y.binds file (λ cl n. H cl n ∙ sym (owners_stay q.grove p.grove place.canvas key (here p.grove q.grove place.canvas key (keys_before p place) (keys_behind p place) C.forest Y.root Y.grove).0
      (keys_before p place) (keys_behind p place) part F root_free (sym Y.root) (back p.grove q.grove place.canvas key (keys_before p place) (keys_behind p place) C.forest Y.root Y.grove) Y.is_part table file cl n)
      ∙ ap (λ ks. but ks (owners_in table file q.grove cl n)) (sym (append-nil part))) class name
      ∙ all_kept_none (owners_in table file q.grove class name)

  -- Blocks.

  told : (k : ℕ) → ports_told q.web Outlets k ≡ ports_told Y.opened Outlets k
  told k = Y.lays.kept.ports Outlets k

  own_jacks : (k : ℕ) → ports_told q.web Outlets k ≡ jacks_at Outlets q.grove k
  own_jacks k = has_all.ports Outlets k

  pub blocks : HasPartBlocks p q part
  blocks = record {
    blocks = λ k t. Y.blocks.is k t ∙ ap (λ (js : List Jack). Some (replicate (block_count js) silent_block)) (sym (own_jacks k));
    other_blocks = Y.blocks.others;
  }

  was_live : (k : ℕ) → is_among part k ≡ false → IsSome (get q.grove.nodes k) → IsSome (get p.grove.nodes k)
  was_live k f some = subst (λ (o : Option Node). IsSome o) (stay k f) some

  module _ (file : List ℕ) (rate : Rate) (b : IsBuilt p table file rate) where
    sizes : (k : ℕ) → IsSome (get q.grove.nodes k) → option_map block_sizes (slice_get (blocks_told q) k) ≡ Some (replicate (block_count (ports_told q.web Outlets k)) 64)
    sizes k some = by_test (is_among part k)
        (λ t. ap (option_map block_sizes) (blocks.blocks k t) ∙ ap (λ (ns : List ℕ). Some ns) (silent_sizes (block_count (ports_told q.web Outlets k))))
        (λ f. ap (option_map block_sizes) (Y.blocks.others k f) ∙ b.blocks k (was_live k f some)
        ∙ ap (λ (js : List Jack). Some (replicate (block_count js) 64)) (sym (told k ∙ Y.opens.other_ports Outlets k f)))

    none_here : (k : ℕ) → get q.grove.nodes k ≡ None → is_among part k ≡ false
    none_here k none = by_test (is_among part k)
        (λ t. absurd (not_both (get q.grove.nodes k) none (live p.grove q.grove place.canvas key (keys_before p place) (keys_behind p place) C.forest Y.root Y.grove part Y.is_part k t)))
        (λ f. f)

    pub built : IsBuilt q table file rate
    built = record {
      own = F.own;
      keys = λ k some. by_test (is_among part k)
          (λ t. let l = Y.low k t in omega (arith, l))
          (λ f. b.keys k (was_live k f some));
      ports = has_all;
      owners = owners file b.owners;
      apart = root_free;
      inside = Y.wired.inside;
      linked = Y.wired.linked;
      orders = ordered;
      numbers = numbered;
      blocks = sizes;
      no_others = λ k outlet none. ap (option_and_then (λ own. slice_get own outlet)) (Y.blocks.others k (none_here k none))
          ∙ b.no_others k outlet (sym (stay k (none_here k none)) ∙ none);
      room = λ k some. by_test (is_among part k)
          (λ t. Y.clock_room k t)
          (λ f. rw Y.clocks (b.room k (was_live k f some)));
      same_rate = Y.rate ∙ b.same_rate;
    }

  -- All of it.

  pub is_put : IsPartPut p q table place s seeds key steps steps'
  is_put = record {
    part = part;
    in_order = Y.in_order;
    comes = record {
      is_part = Y.is_part;
      once = Y.once;
      vacant = vacant p.grove q.grove place.canvas key (keys_before p place) (keys_behind p place) C.forest Y.root Y.grove part Y.is_part;
      live = live p.grove q.grove place.canvas key (keys_before p place) (keys_behind p place) C.forest Y.root Y.grove part Y.is_part;
      only = only p.grove q.grove place.canvas key (keys_before p place) (keys_behind p place) C.forest Y.root Y.grove part Y.is_part;
    };
    grove = Y.grove;
    stands = Y.stands;
    uses = Y.uses;
    root = Y.root;
    ports = record {
      ports = λ side k t. has_all.ports side k;
      made = λ k t. has_all.made k;
      homes = λ j k i t e. has_all.homes j k i e;
      homes_found = λ j k i t R. has_all.homes_found j k i R;
      other_ports = λ side k f. Y.lays.kept.ports side k ∙ Y.opens.other_ports side k f;
      others_made = λ k f. Y.lays.kept.made k ∙ Y.opens.others_made k f;
      other_homes = λ j f. Y.lays.kept.homes j ∙ Y.opens.others j (λ k i t R.
          false≢true (sym f ∙ port_inside p.grove q.grove place.canvas key (keys_before p place) (keys_behind p place) C.forest Y.root Y.grove part Y.is_part j k i t R));
    };
    wires = record {
      bare = record {
        fans = key_fans p q.grove place key C Y.root Y.grove part Y.is_part Y.once N Y.opened Y.opens q.web Y.lays;
        feeds = key_feeds p q.grove place key C Y.root Y.grove part Y.is_part Y.once N Y.opened Y.opens q.web Y.lays;
      };
      fans = λ c k n new lies. own_fans p q.grove place key C Y.root Y.grove part Y.is_part Y.once N Y.opened Y.opens q.web Y.lays c k n new lies;
      feeds = λ c k n new lies. own_feeds p q.grove place key C Y.root Y.grove part Y.is_part Y.once N Y.opened Y.opens q.web Y.lays c k n new lies;
      other_fans = λ k n f. other_fans p q.grove place key C Y.root Y.grove part Y.is_part Y.once N Y.opened Y.opens q.web Y.lays k n f;
      other_feeds = λ k n f. other_feeds p q.grove place key C Y.root Y.grove part Y.is_part Y.once N Y.opened Y.opens q.web Y.lays k n f;
      lines = λ k l e. Y.lays.lines k l (Y.opens.lines k ∙ e);
      count = Y.lays.count ∙ ap (λ n. n + length (lines_of q.grove part)) (as_many p.web Y.opened Y.opens.lines);
    };
    owners = owners;
    numbers = numbered;
    other_numbers = other_numbers;
    blocks = blocks;
    clocks = Y.clocks;
    clock_room = Y.clock_room;
    low = Y.low;
    orders = record {
      order = outer_now;
      own_orders = new_now;
      other_orders = far_same;
    };
    looks = Y.looks;
    rate = Y.rate;
    present = Y.present;
    can = can;
    meet = λ m. Y.lays.meet (lists_meet p.web Y.opened Y.opens.fans Y.opens.feeds m);
    fed = Y.fed;
    built = built;
  }
