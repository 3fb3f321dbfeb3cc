-- A patch with a box less and all that lay in it: what holds of all boxes of the old one holds of all that are left.
use Rattle.std.proofs.Common.{arith, ◌≡◌, ◌⊎◌, inl, inr, ⊎_elim, ℕ, ℤ, zero, suc, ◌<◌, ◌≤◌, ◌==◌, Bool, false, List, [], ◌∷◌, length, slice_get, Option, Some, None, IfSome, IsSome, is_some, option_map, refl, sym, ap, subst, ◌∙◌}
use Rattle.std.specs.Prelude.{option_and_then, not, filter}
use Rattle.std.specs.List.{AllByRecursion}
use Rattle.std.proofs.lemmas.Option.{none-some, same_Some}
use Rattle.slab.specs.Slab.{get}
use Rattle.pd_atom.specs.Names.{Names}
use Rattle.pd_object.specs.declared.kinds.Kind.{Kind}
use Rattle.pd_kind.specs.declared.states.State.{State}
use Rattle.pd_kind.specs.Fit.{blank}
use Rattle.pd_order.specs.Graph.{tally}
use Rattle.pd_order.proofs.Basics.{by_test}
use Rattle.pd_grove.specs.declared.boards.Board.{Board}
use Rattle.pd_grove.specs.declared.grove.Grove.{Grove}
use Rattle.pd_grove.specs.declared.nodes.Node.{Node}
use Rattle.pd_grove.specs.declared.ports.Side.TheVariants.{Outlets}
use Rattle.pd_grove.specs.Forest.{IsForest, holder_in, around, out_of}
use Rattle.pd_grove.specs.Grafts.{LiesInBox, TakesBox}
use Rattle.pd_grove.specs.Owning.{board_in}
use Rattle.pd_grove.specs.Telling.{kind_in, state_in}
use Rattle.pd_web.specs.declared.lines.Line.{Line}
use Rattle.pd_web.specs.declared.web.Hop.{Hop}
use Rattle.pd_web.specs.declared.web.Web.{Web}
use Rattle.pd_web.specs.Changes.{line_told, without_hop, CutsWire}
use Rattle.pd_web.specs.Hops.{ports_told, feed_hops}
use Rattle.pd_patch.specs.declared.patch.Patch.{Patch}
use Rattle.pd_patch.specs.Fed.{keys_of, AreFed}
use Rattle.pd_patch.specs.Values.{Blocks, blocks_told}
use Rattle.pd_wiring.specs.Changes.{SameButRoom}
use Rattle.pd_boxes.specs.declared.room.Place.{Place}
use Rattle.pd_boxes.specs.Put.{keys_before}
use Rattle.pd_owning.specs.Bound.{is_among}
use Rattle.pd_owning.specs.Order.{holder_of, box_out}
use Rattle.pd_owning.specs.Parts.{LiesWithin}
use Rattle.pd_clearing.specs.Losing.{Lost, AreLost}
use Rattle.pd_clearing.specs.Clearing.{keys_past, IsCleared}
use Rattle.pd_hearing.specs.Worlds.{bare, net_of, states_of}
use Rattle.pd_guards.specs.Sounds.{AreValues}
use Rattle.pd_guards.proofs.FactLemmas.{either, all-at, all-from}
use Rattle.pd_sized.specs.Sizes.{IsBlock}
use Rattle.pd_sized.specs.Kinds.{blank_of, KeepsOfKind}
use Rattle.pd_steady.specs.Steady.{HasRows}
use Rattle.pd_stage.proofs.FedLemmas.{same_fed}
use Rattle.pd_steady.proofs.KeyLemmas.{fed_same, no_outlets, same_row}

-- ---- wires that went

-- a part of the hops has no key more often, and is no longer
part_fewer : (f : Hop → Bool) (x : ℕ) (hops : List Hop) → tally x (keys_of (filter f hops)) ≤ tally x (keys_of hops)
part_fewer f x [] = omega arith
part_fewer f x (h ∷ hops) =
    let e : tally x (keys_of (filter f hops)) ≤ tally x (keys_of hops) = part_fewer f x hops in
    either (λ (hs : List Hop). tally x (keys_of hs) ≤ tally x (keys_of (h ∷ hops))) (f h) (h ∷ filter f hops) (filter f hops) (omega (arith, e)) (omega (arith, e))

part_shorter : (f : Hop → Bool) (hops : List Hop) → length (filter f hops) ≤ length hops
part_shorter f [] = omega arith
part_shorter f (h ∷ hops) =
    let e : length (filter f hops) ≤ length hops = part_shorter f hops in
    either (λ (hs : List Hop). length hs ≤ length (h ∷ hops)) (f h) (h ∷ filter f hops) (filter f hops) (omega (arith, e)) (omega (arith, e))

-- the key of a wire that went is gone
none_left : (key : ℕ) (hops : List Hop) → tally key (keys_of (without_hop key hops)) ≡ 0
none_left key [] = refl
none_left key (h ∷ hops) =
    let e : tally key (keys_of (without_hop key hops)) ≡ 0 = none_left key hops in
    by_test (h.key == key)
    (λ t. rw t e)
    (λ f. rw (f, f) (omega (arith, e)))

module _ (w v : Web) (key : ℕ) (c : CutsWire w v key) (f : AreFed w) where
  other_there : (hops : List Hop) (x : ℕ) → 0 < tally x (keys_of (without_hop key hops)) → x ≡ key → ⊥
  other_there hops x m e =
      let m' : 0 < tally key (keys_of (without_hop key hops)) = subst (λ (k : ℕ). 0 < tally k (keys_of (without_hop key hops))) e m in
      let none = none_left key hops in
      omega (arith, m', none)

  cut_live : (n i x : ℕ) → 0 < tally x (keys_of (without_hop key (feed_hops w n i))) → IsSome (line_told v x)
  cut_live n i x m =
      let less = part_fewer (λ (h : Hop). not (h.key == key)) x (feed_hops w n i) in
      subst (λ (o : Option Line). IsSome o) (sym (c.other_lines x (other_there (feed_hops w n i) x m))) (f.live n i x (omega (arith, m, less)))

  pub cut_fed : AreFed v
  cut_fed = record {
    live = λ n i. subst (λ (hs : List Hop). (x : ℕ) → 0 < tally x (keys_of hs) → IsSome (line_told v x)) (sym (c.feeds n i)) (cut_live n i);
    once = λ n i. subst (λ (hs : List Hop). (x : ℕ) → tally x (keys_of hs) ≤ 1) (sym (c.feeds n i))
        (λ x. let less = part_fewer (λ (h : Hop). not (h.key == key)) x (feed_hops w n i) in let once = f.once n i x in omega (arith, less, once));
    few = λ n i. subst (λ (hs : List Hop). length hs ≤ 65536) (sym (c.feeds n i))
        (let less = part_shorter (λ (h : Hop). not (h.key == key)) (feed_hops w n i) in let few = f.few n i in omega (arith, less, few));
  }

-- one after the other
lost_fed : (part : List ℕ) (p : Patch) (lost : List Lost) (q : Patch) → AreLost part p lost q → AreFed p.web → AreFed q.web
lost_fed part p [] q e h = subst (λ (x : Patch). AreFed x.web) (sym e) h
lost_fed part p (x ∷ xs) q g h = cut_fed x.before.web q.web x.key g.0.done.cuts (lost_fed part p xs x.before g.1 h)

-- ---- the boxes that a box that goes leaves

-- a box whose canvas lies in one that another box holds lies in that box
inner_out : (nodes : ℕ → Option Node) (boards : ℕ → Option Board) (k x : ℕ) → board_in (nodes k) ≡ Some x → (m j top : ℕ) → out_of nodes boards m x ≡ Some j → holder_in (boards j) ≡ Some top
    → box_out nodes boards (suc m) k ≡ Some top
inner_out nodes boards k x lies zero j top out held =
    ap (option_and_then (λ c. holder_in (boards c))) lies ∙ ap (λ (c : ℕ). holder_in (boards c)) (same_Some x j out) ∙ held
inner_out nodes boards k x lies (suc m) j top out held = by (λ y h e holds. inner_out nodes boards k x lies m y h e holds) (out_of nodes boards m x) refl out
  where
    Further : Type 0
    Further = (y h : ℕ) → out_of nodes boards m x ≡ Some y → holder_in (boards y) ≡ Some h → box_out nodes boards (suc m) k ≡ Some h

    held_by : Further → (y : ℕ) (o : Option ℕ) → out_of nodes boards m x ≡ Some y → holder_in (boards y) ≡ o → option_and_then (λ h. board_in (nodes h)) o ≡ Some j
        → box_out nodes boards (suc (suc m)) k ≡ Some top
    held_by rest y None e holds own = absurd (none-some j own)
    held_by rest y (Some h) e holds own =
        ap (option_and_then (holder_of nodes boards)) (rest y h e holds) ∙ ap (option_and_then (λ c. holder_in (boards c))) own ∙ held

    by : Further → (o : Option ℕ) → out_of nodes boards m x ≡ o → option_and_then (around nodes boards) o ≡ Some j → box_out nodes boards (suc (suc m)) k ≡ Some top
    by rest None e own = absurd (none-some j own)
    by rest (Some y) e own = held_by rest y (holder_in (boards y)) e refl own

-- where a box goes with all that lies in it, each other one stays
module _ (nodes new : ℕ → Option Node) (boards left : ℕ → Option Board) (root c key : ℕ) (n : Node) (before behind : List ℕ) (F : IsForest nodes boards root)
    (T : TakesBox nodes new boards left c key n before behind) where
  not_inside : (k x : ℕ) → (LiesWithin nodes boards key k → ⊥) → board_in (nodes k) ≡ Some x → LiesInBox nodes boards key x → ⊥
  not_inside k x out lies inside =
      out (suc inside.2.0, inner_out nodes boards k x lies inside.2.0 inside.0 key inside.2.1 (F.inside key inside.0 inside.1))

  pub node_stays : (k : ℕ) (o : Option Node) → nodes k ≡ o → (LiesWithin nodes boards key k → ⊥) → new k ≡ nodes k
  node_stays k None e out = by (new k) refl
    where
      by : (o : Option Node) → new k ≡ o → new k ≡ nodes k
      by None is = is ∙ sym e
      by (Some m) is = T.none_comes k (ap is_some is)
  node_stays k (Some m) e out =
      T.nodes_stay k m.board (λ same. out (0, ap (λ (x : ℕ). Some x) same)) (ap board_in e) (not_inside k m.board out (ap board_in e))

-- ---- a patch with a box less and all that lay in it, where room was set aside for that before

pub record HasLess (p q : Patch) (key : ℕ) : Type 0 where
  pub each : (k : ℕ) → (get q.grove.nodes k ≡ None) ⊎ (get q.grove.nodes k ≡ get p.grove.nodes k)
  pub others : (k : ℕ) → (LiesWithin (get p.grove.nodes) (get p.grove.boards) key k → ⊥) → get q.grove.nodes k ≡ get p.grove.nodes k
  pub fed : AreFed p.web → AreFed q.web
  pub blocks : HasRows p.web (blocks_told p) → HasRows q.web (blocks_told q)
  pub values : AllByRecursion (AllByRecursion AreValues) (blocks_told p) → AllByRecursion (AllByRecursion AreValues) (blocks_told q)
  pub sizes : AllByRecursion (AllByRecursion IsBlock) (blocks_told p) → AllByRecursion (AllByRecursion IsBlock) (blocks_told q)

-- what is no more is none, and what is stays
pub gone_or : (now was : Option Node) → (IsSome now → now ≡ was) → (now ≡ None) ⊎ (now ≡ was)
gone_or None was f = inl refl
gone_or (Some n) was f = inr (f refl)

-- under a key without a block there is no value
row_empty : (P : List ℤ → Type 0) (row : Option (List (List ℤ))) → ((o : ℕ) → option_and_then (λ (own : List (List ℤ)). slice_get own o) row ≡ None) → IfSome row (AllByRecursion P)
row_empty P None h = tt
row_empty P (Some own) h = all-from P own (λ o. subst (λ (x : Option (List ℤ)). IfSome x P) (sym (h o)) tt)

module _ (p r q : Patch) (table : Names) (place : Place) (key steps steps' : ℕ) (room : SameButRoom p r) (cleared : IsCleared r q table place key steps steps')
    (F : IsForest (get p.grove.nodes) (get p.grove.boards) p.grove.root) where
  abbrev went : ℕ → Bool
  went k = is_among cleared.part k

  same_blocks : blocks_told r ≡ blocks_told p
  same_blocks = rw room.values refl

  same_ports : (k : ℕ) → went k ≡ false → ports_told q.web Outlets k ≡ ports_told p.web Outlets k
  same_ports k stays = cleared.ports.ports Outlets k stays ∙ room.web.kept.ports Outlets k

  other_row : (k : ℕ) → went k ≡ false → slice_get (blocks_told q) k ≡ slice_get (blocks_told p) k
  other_row k stays = cleared.blocks.others k stays ∙ ap (λ (b : Blocks). slice_get b k) same_blocks

  left_fed : AreFed p.web → AreFed q.web
  left_fed h =
      fed_same cleared.loose.web q.web cleared.lines cleared.feeds
      (lost_fed cleared.part r cleared.lost cleared.loose cleared.one_by_one (same_fed p.web r.web room.web h))

  left_blocks : HasRows p.web (blocks_told p) → HasRows q.web (blocks_told q)
  left_blocks h k = by_test (went k)
      (λ goes o l. absurd (no_outlets (ports_told q.web Outlets k) o (cleared.ports.gone Outlets k goes) l))
      (λ stays o l. subst (λ (row : Option (List (List ℤ))). IsSome (option_and_then (λ (own : List (List ℤ)). slice_get own o) row)) (sym (other_row k stays))
      (h k o (same_row p.web q.web k o (same_ports k stays) l)))

  left_all : (P : List ℤ → Type 0) → AllByRecursion (AllByRecursion P) (blocks_told p) → AllByRecursion (AllByRecursion P) (blocks_told q)
  left_all P h =
      all-from (AllByRecursion P) (blocks_told q)
      (λ k. by_test (went k)
      (λ goes. row_empty P (slice_get (blocks_told q) k) (λ o. cleared.blocks.gone k o goes))
      (λ stays. subst (λ (o : Option (List (List ℤ))). IfSome o (AllByRecursion P)) (sym (other_row k stays)) (all-at (AllByRecursion P) (blocks_told p) k h)))

  abbrev taking : TakesBox (get p.grove.nodes) (get q.grove.nodes) (get p.grove.boards) (get q.grove.boards) place.canvas key cleared.node (keys_before r place) (keys_past r place)
  taking =
      subst (λ (g : Grove). TakesBox (get g.nodes) (get q.grove.nodes) (get g.boards) (get q.grove.boards) place.canvas key cleared.node (keys_before r place) (keys_past r place))
      room.grove cleared.grove

  pub has_less : HasLess p q key
  has_less = record {
    each = λ k. gone_or (get q.grove.nodes k) (get p.grove.nodes k) (taking.none_comes k);
    others = λ k.
        node_stays (get p.grove.nodes) (get q.grove.nodes) (get p.grove.boards) (get q.grove.boards) p.grove.root place.canvas key cleared.node (keys_before r place) (keys_past r place) F taking
        k (get p.grove.nodes k) refl;
    fed = left_fed;
    blocks = left_blocks;
    values = left_all AreValues;
    sizes = left_all IsBlock;
  }

-- ---- what holds of all that are left

module _ (p q : Patch) (key : ℕ) (less : HasLess p q key) where
  -- what holds of no box, and of each that was, holds of each that is
  left : (P : ℕ → Option Node → Type 0) → ((k : ℕ) → P k None) → ((k : ℕ) → P k (get p.grove.nodes k)) → (k : ℕ) → P k (get q.grove.nodes k)
  left P none old k =
      ⊎_elim (λ (gone : get q.grove.nodes k ≡ None). subst (P k) (sym gone) (none k)) (λ (stays : get q.grove.nodes k ≡ get p.grove.nodes k). subst (P k) (sym stays) (old k)) (less.each k)

  pub left_states : (P : State → Type 0) → ((k : ℕ) → IfSome (states_of p k) P) → (k : ℕ) → IfSome (states_of q k) P
  left_states P old = left (λ k o. IfSome (state_in o) P) (λ k. tt) old

  pub left_kinds : (P : Kind → Type 0) → ((k : ℕ) → IfSome (kind_in ((net_of p).nodes k)) P) → (k : ℕ) → IfSome (kind_in ((net_of q).nodes k)) P
  left_kinds P old = left (λ k o. IfSome (kind_in (bare o)) P) (λ k. tt) old

  -- what boxes keep is of their kinds
  pub left_objects : KeepsOfKind (λ k. kind_in ((net_of p).nodes k)) (states_of p) → KeepsOfKind (λ k. kind_in ((net_of q).nodes k)) (states_of q)
  left_objects old = left (λ k o. option_map blank (state_in o) ≡ option_map blank_of (kind_in (bare o))) (λ k. refl) old

  -- under other keys nothing is kept
  pub left_keys : (n : ℕ) → ((k : ℕ) → n ≤ k → states_of p k ≡ None) → (k : ℕ) → n ≤ k → states_of q k ≡ None
  left_keys n old = left (λ k o. n ≤ k → state_in o ≡ None) (λ k far. refl) old
