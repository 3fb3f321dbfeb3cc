-- What boxes need by their list is what they need by their tree, and what they have where the tree stands.
use Rattle.std.proofs.Common.{◌≡◌, ℕ, zero, suc, ◌+◌, Bool, true, false, ◌||◌, cond, List, [], ◌∷◌, ◌++◌, append_assoc, append-nil, map, length, take, drop, Option, Some, None, refl, sym, ap, ◌∙◌, arith}
use Rattle.std.specs.Prelude.{option_map, option_and_then, int_lt}
use Rattle.std.specs.List.{flat_map, list_any}
use Rattle.std.proofs.lemmas.List.{map-append}
use Rattle.std.proofs.lemmas.Option.{none-some, same_Some}
use Rattle.slab.specs.Slab.{get}
use Rattle.pd_tree.specs.Trees.{Trees, Done, Leaf, Holder, Stand, width, stands_of}
use Rattle.pd_grove.specs.declared.nodes.Node.{Node}
use Rattle.pd_grove.specs.declared.boards.Board.{Board}
use Rattle.pd_grove.specs.declared.grove.Grove.{Grove}
use Rattle.pd_grove.specs.declared.ports.PortSpot.{PortSpot}
use Rattle.pd_grove.specs.declared.ports.Side.{Side}
use Rattle.pd_grove.specs.declared.ports.Side.TheVariants.{Inlets, Outlets}
use Rattle.pd_grove.specs.Ports.{port_signal, spot_by, node_spot, spot_at, spot_placed, with_spot, ports_among}
use Rattle.pd_grove.specs.Standing.{NodeSeen, node_seen, BoardSeen, board_seen, Stands}
use Rattle.pd_grove.specs.TextOrder.{keys_standing}
use Rattle.pd_grove.specs.Telling.{inner_in, keys_in}
use Rattle.pd_grove.proofs.PlaceLemmas.{seen_keys}
use Rattle.pd_web.specs.declared.jacks.Jack.{Jack}
use Rattle.pd_web.specs.Jacks.{spot_jack, jacks_by, jacks_in, jacks_at}
use Rattle.pd_patch.specs.Values.{block_count}
use Rattle.pd_instances.specs.declared.needs.PortCount.{PortCount}
use Rattle.pd_instances.specs.declared.needs.Need.{Need}
use Rattle.pd_instances.specs.Needs.{one_if, carries, port_of, plus, sum_of, leaf_need, holder_need, stacked_on, need_on, stacked, needs_of, ports_in, needs_in, need_at, Inside, inside_of, insides_of, insides_in, inside_seen, inside_held, inside_at}

-- Lists.

take_first : {X : Type 0} (xs ys : List X) (n : ℕ) → length xs ≡ n → take n (xs ++ ys) ≡ xs
take_first [] ys zero h = refl
take_first [] ys (suc n) h = absurd (omega (arith, h))
take_first (x ∷ xs) ys zero h = absurd (omega (arith, h))
take_first (x ∷ xs) ys (suc n) h = ap (λ zs. x ∷ zs) (take_first xs ys n (omega (arith, h)))

drop_first : {X : Type 0} (xs ys : List X) (n : ℕ) → length xs ≡ n → drop n (xs ++ ys) ≡ ys
drop_first [] ys zero h = refl
drop_first [] ys (suc n) h = absurd (omega (arith, h))
drop_first (x ∷ xs) ys zero h = absurd (omega (arith, h))
drop_first (x ∷ xs) ys (suc n) h = drop_first xs ys n (omega (arith, h))

wide : (t : Trees) → length (ports_in t) ≡ width t
wide Done = refl
wide (Leaf c rest) = let h = wide rest in omega (arith, h)
wide (Holder c s inner rest) = let h = wide rest in omega (arith, h)

-- By the list and by the tree.

stacked_are : (t : Trees) (more : List Stand) → stacked (stands_of t ++ more) ≡ ports_in t ++ stacked more
stacked_are Done more = refl
stacked_are (Leaf c rest) more = ap (λ ns. port_of c.kind ∷ ns) (stacked_are rest more)
stacked_are (Holder c s inner rest) more =
    let below = ports_in rest ++ stacked more in
    ap (λ ss. stacked_on c (Some s) (width inner) (stacked ss)) (append_assoc (stands_of inner) (stands_of rest) more)
    ∙ ap (stacked_on c (Some s) (width inner)) (stacked_are inner (stands_of rest ++ more) ∙ ap (λ ns. ports_in inner ++ ns) (stacked_are rest more))
    ∙ ap (λ ns. port_of c.kind ∷ ns) (drop_first (ports_in inner) below (width inner) (wide inner))

needs_are : (t : Trees) (more : List Stand) → needs_of (stands_of t ++ more) ≡ needs_in t ++ needs_of more
needs_are Done more = refl
needs_are (Leaf c rest) more = ap (λ ns. leaf_need c.kind ∷ ns) (needs_are rest more)
needs_are (Holder c s inner rest) more =
    let assoc = append_assoc (stands_of inner) (stands_of rest) more in
    let own : take (width inner) (stacked ((stands_of inner ++ stands_of rest) ++ more)) ≡ ports_in inner =
    ap (λ ss. take (width inner) (stacked ss)) assoc ∙ ap (take (width inner)) (stacked_are inner (stands_of rest ++ more))
    ∙ take_first (ports_in inner) (stacked (stands_of rest ++ more)) (width inner) (wide inner) in
    let below : needs_of ((stands_of inner ++ stands_of rest) ++ more) ≡ (needs_in inner ++ needs_in rest) ++ needs_of more =
    ap needs_of assoc ∙ needs_are inner (stands_of rest ++ more) ∙ ap (λ ns. needs_in inner ++ ns) (needs_are rest more)
    ∙ sym (append_assoc (needs_in inner) (needs_in rest) (needs_of more)) in
    ap (λ ns. holder_need (sum_of ns) ∷ needs_of ((stands_of inner ++ stands_of rest) ++ more)) own ∙ ap (λ ns. holder_need (sum_of (ports_in inner)) ∷ ns) below

pub needs_all : (ss : List Stand) (t : Trees) → ss ≡ stands_of t → needs_of ss ≡ needs_in t
needs_all ss t h = ap needs_of (h ∙ sym (append-nil (stands_of t))) ∙ needs_are t [] ∙ append-nil (needs_in t)

insides_are : (t : Trees) (more : List Stand) → insides_of (stands_of t ++ more) ≡ insides_in t ++ insides_of more
insides_are Done more = refl
insides_are (Leaf c rest) more = insides_are rest more
insides_are (Holder c s inner rest) more =
    let own : Inside = record { wires = s.wires; boxes = width inner } in
    ap (λ is. own ∷ is)
    (ap insides_of (append_assoc (stands_of inner) (stands_of rest) more) ∙ insides_are inner (stands_of rest ++ more) ∙ ap (λ is. insides_in inner ++ is) (insides_are rest more)
    ∙ sym (append_assoc (insides_in inner) (insides_in rest) (insides_of more)))

pub insides_all : (ss : List Stand) (t : Trees) → ss ≡ stands_of t → insides_of ss ≡ insides_in t
insides_all ss t h = ap insides_of (h ∙ sym (append-nil (stands_of t))) ∙ insides_are t [] ∙ append-nil (insides_in t)

-- Where the tree stands.

seen_jacks : (g : Grove) (side : Side) (o : Option Node) (s : NodeSeen) → option_map node_seen o ≡ Some s → jacks_in side g o ≡ jacks_by side g s.cell.kind s.inner
seen_jacks g side None s h = absurd (none-some s h)
seen_jacks g side (Some n) s h = ap (λ (x : NodeSeen). jacks_by side g x.cell.kind x.inner) (same_Some (node_seen n) s h)

seen_inner : (o : Option Node) (s : NodeSeen) → option_map node_seen o ≡ Some s → inner_in o ≡ s.inner
seen_inner None s h = absurd (none-some s h)
seen_inner (Some n) s h = ap (λ (x : NodeSeen). x.inner) (same_Some (node_seen n) s h)

placed_more : (p : PortSpot) (ps : List PortSpot) → length (map spot_jack (spot_placed p ps)) ≡ suc (length (map spot_jack ps))
placed_more p [] = refl
placed_more p (q ∷ qs) = by (int_lt q.x p.x) (placed_more p qs)
  where
    by : (b : Bool) → length (map spot_jack (spot_placed p qs)) ≡ suc (length (map spot_jack qs)) → length (map spot_jack (cond b (q ∷ spot_placed p qs) (p ∷ q ∷ qs))) ≡ suc (suc (length (map spot_jack qs)))
    by true h = ap suc h
    by false h = refl

or_swap : (a b c : Bool) → (a || (b || c)) ≡ (b || (a || c))
or_swap true true c = refl
or_swap true false c = refl
or_swap false b c = refl

placed_sounds : (p : PortSpot) (ps : List PortSpot) → list_any (λ (j : Jack). j.is_signal) (map spot_jack (spot_placed p ps)) ≡ (p.is_signal || list_any (λ (j : Jack). j.is_signal) (map spot_jack ps))
placed_sounds p [] = refl
placed_sounds p (q ∷ qs) = by (int_lt q.x p.x) (placed_sounds p qs)
  where
    by : (b : Bool) → list_any (λ (j : Jack). j.is_signal) (map spot_jack (spot_placed p qs)) ≡ (p.is_signal || list_any (λ (j : Jack). j.is_signal) (map spot_jack qs))
        → list_any (λ (j : Jack). j.is_signal) (map spot_jack (cond b (q ∷ spot_placed p qs) (p ∷ q ∷ qs)))
        ≡ (p.is_signal || (q.is_signal || list_any (λ (j : Jack). j.is_signal) (map spot_jack qs)))
    by true h = ap (λ b. q.is_signal || b) h ∙ or_swap q.is_signal p.is_signal (list_any (λ (j : Jack). j.is_signal) (map spot_jack qs))
    by false h = refl

-- a spot more, by whether the box is a port
spot_more : (k : ℕ) (n : Node) (o : Option Bool) → (ps : List PortSpot) → length (map spot_jack (with_spot (spot_by k n.element.x o) ps)) ≡ one_if o + length (map spot_jack ps)
spot_more k n None ps = omega arith
spot_more k n (Some b) ps = let h = placed_more (record { node = k; x = n.element.x; is_signal = b }) ps in omega (arith, h)

spot_sounds : (k : ℕ) (n : Node) (o : Option Bool) → (ps : List PortSpot) → list_any (λ (j : Jack). j.is_signal) (map spot_jack (with_spot (spot_by k n.element.x o) ps))
    ≡ (carries o || list_any (λ (j : Jack). j.is_signal) (map spot_jack ps))
spot_sounds k n None ps = refl
spot_sounds k n (Some b) ps = placed_sounds (record { node = k; x = n.element.x; is_signal = b }) ps

among_more : (side : Side) (k : ℕ) (o : Option Node) (s : NodeSeen) (ps : List PortSpot) → option_map node_seen o ≡ Some s
    → length (map spot_jack (with_spot (option_and_then (node_spot side k) o) ps)) ≡ one_if (port_signal side s.cell.kind) + length (map spot_jack ps)
among_more side k None s ps h = absurd (none-some s h)
among_more side k (Some n) s ps h =
    spot_more k n (port_signal side n.kind) ps
    ∙ ap (λ (x : NodeSeen). one_if (port_signal side x.cell.kind) + length (map spot_jack ps)) (same_Some (node_seen n) s h)

among_sounds : (k : ℕ) (o : Option Node) (s : NodeSeen) (ps : List PortSpot) → option_map node_seen o ≡ Some s
    → list_any (λ (j : Jack). j.is_signal) (map spot_jack (with_spot (option_and_then (node_spot Outlets k) o) ps))
    ≡ (carries (port_signal Outlets s.cell.kind) || list_any (λ (j : Jack). j.is_signal) (map spot_jack ps))
among_sounds k None s ps h = absurd (none-some s h)
among_sounds k (Some n) s ps h =
    spot_sounds k n (port_signal Outlets n.kind) ps
    ∙ ap (λ (x : NodeSeen). carries (port_signal Outlets x.cell.kind) || list_any (λ (j : Jack). j.is_signal) (map spot_jack ps)) (same_Some (node_seen n) s h)

module _ (nodes : ℕ → Option Node) (boards : ℕ → Option Board) where
  pub wide_stand : (b d : ℕ) (ks : List ℕ) (t : Trees) → Stands nodes boards b d ks t → length ks ≡ width t
  wide_stand b d [] Done S = refl
  wide_stand b d (k ∷ ks) Done S = absurd S
  wide_stand b d [] (Leaf c rest) S = absurd S
  wide_stand b d (k ∷ ks) (Leaf c rest) S = let h = wide_stand b d ks rest S.1 in omega (arith, h)
  wide_stand b d [] (Holder c s inner rest) S = absurd S
  wide_stand b d (k ∷ ks) (Holder c s inner rest) S = let h = wide_stand b d ks rest S.5 in omega (arith, h)

  inlets_stand : (b d : ℕ) (ks : List ℕ) (t : Trees) → Stands nodes boards b d ks t → length (map spot_jack (ports_among Inlets nodes ks)) ≡ (sum_of (ports_in t)).inlets
  inlets_stand b d [] Done S = refl
  inlets_stand b d (k ∷ ks) Done S = absurd S
  inlets_stand b d [] (Leaf c rest) S = absurd S
  inlets_stand b d (k ∷ ks) (Leaf c rest) S =
      among_more Inlets k (nodes k) _ (ports_among Inlets nodes ks) S.0 ∙ ap (λ n. (port_of c.kind).inlets + n) (inlets_stand b d ks rest S.1)
  inlets_stand b d [] (Holder c s inner rest) S = absurd S
  inlets_stand b d (k ∷ ks) (Holder c s inner rest) S =
      among_more Inlets k (nodes k) _ (ports_among Inlets nodes ks) S.2 ∙ ap (λ n. (port_of c.kind).inlets + n) (inlets_stand b d ks rest S.5)

  outlets_stand : (b d : ℕ) (ks : List ℕ) (t : Trees) → Stands nodes boards b d ks t → length (map spot_jack (ports_among Outlets nodes ks)) ≡ (sum_of (ports_in t)).outlets
  outlets_stand b d [] Done S = refl
  outlets_stand b d (k ∷ ks) Done S = absurd S
  outlets_stand b d [] (Leaf c rest) S = absurd S
  outlets_stand b d (k ∷ ks) (Leaf c rest) S =
      among_more Outlets k (nodes k) _ (ports_among Outlets nodes ks) S.0 ∙ ap (λ n. (port_of c.kind).outlets + n) (outlets_stand b d ks rest S.1)
  outlets_stand b d [] (Holder c s inner rest) S = absurd S
  outlets_stand b d (k ∷ ks) (Holder c s inner rest) S =
      among_more Outlets k (nodes k) _ (ports_among Outlets nodes ks) S.2 ∙ ap (λ n. (port_of c.kind).outlets + n) (outlets_stand b d ks rest S.5)

  sounds_stand : (b d : ℕ) (ks : List ℕ) (t : Trees) → Stands nodes boards b d ks t
      → list_any (λ (j : Jack). j.is_signal) (map spot_jack (ports_among Outlets nodes ks)) ≡ (sum_of (ports_in t)).is_signal
  sounds_stand b d [] Done S = refl
  sounds_stand b d (k ∷ ks) Done S = absurd S
  sounds_stand b d [] (Leaf c rest) S = absurd S
  sounds_stand b d (k ∷ ks) (Leaf c rest) S =
      among_sounds k (nodes k) _ (ports_among Outlets nodes ks) S.0 ∙ ap (λ x. (port_of c.kind).is_signal || x) (sounds_stand b d ks rest S.1)
  sounds_stand b d [] (Holder c s inner rest) S = absurd S
  sounds_stand b d (k ∷ ks) (Holder c s inner rest) S =
      among_sounds k (nodes k) _ (ports_among Outlets nodes ks) S.2 ∙ ap (λ x. (port_of c.kind).is_signal || x) (sounds_stand b d ks rest S.5)

-- a box with so many ports needs this
need_counted : (ins outs : List Jack) (p : PortCount) → length ins ≡ p.inlets → length outs ≡ p.outlets → list_any (λ (j : Jack). j.is_signal) outs ≡ p.is_signal
    → ◌≡◌ {A = Need} (record { inlets = length ins; outlets = length outs; blocks = block_count outs }) (holder_need p)
need_counted ins outs p i o s =
    ap (λ x. record { inlets = x; outlets = length outs; blocks = block_count outs }) i
    ∙ ap (λ x. record { inlets = p.inlets; outlets = length outs; blocks = cond x (length outs) 0 }) s
    ∙ ap (λ x. record { inlets = p.inlets; outlets = x; blocks = cond p.is_signal x 0 }) o

seen_inside : (o : Option Board) (s : BoardSeen) → option_map board_seen o ≡ Some s → inside_seen o ≡ record { wires = s.sheet.wires; boxes = length s.keys } ∷ []
seen_inside None s h = absurd (none-some s h)
seen_inside (Some b) s h = ap (λ (x : BoardSeen). record { wires = x.sheet.wires; boxes = length x.keys } ∷ []) (same_Some (board_seen b) s h)

flat_append : {X Y : Type 0} (f : X → List Y) (xs ys : List X) → flat_map f (xs ++ ys) ≡ flat_map f xs ++ flat_map f ys
flat_append f [] ys = refl
flat_append f (x ∷ xs) ys = ap (λ zs. f x ++ zs) (flat_append f xs ys) ∙ sym (append_assoc (f x) (flat_map f xs) (flat_map f ys))

module _ (g : Grove) where
  leaf_at : (k : ℕ) (s : NodeSeen) → option_map node_seen (get g.nodes k) ≡ Some s → s.inner ≡ None → need_at g k ≡ leaf_need s.cell.kind
  leaf_at k s seen none =
      let at : (side : Side) → jacks_at side g k ≡ jacks_by side g s.cell.kind None = (λ side. seen_jacks g side (get g.nodes k) s seen ∙ ap (jacks_by side g s.cell.kind) none) in
      ap (λ js. record { inlets = length js; outlets = length (jacks_at Outlets g k); blocks = block_count (jacks_at Outlets g k) }) (at Inlets)
      ∙ ap (λ js. record { inlets = length (jacks_by Inlets g s.cell.kind None); outlets = length js; blocks = block_count js }) (at Outlets)

  holder_at : (k j d : ℕ) (js : List ℕ) (s : NodeSeen) (inner : Trees) → option_map node_seen (get g.nodes k) ≡ Some s → s.inner ≡ Some j → js ≡ keys_in (get g.boards j)
      → Stands (get g.nodes) (get g.boards) j d js inner → need_at g k ≡ holder_need (sum_of (ports_in inner))
  holder_at k j d js s inner seen some keys S =
      let at : (side : Side) → jacks_at side g k ≡ map spot_jack (ports_among side (get g.nodes) js) =
      (λ side. seen_jacks g side (get g.nodes k) s seen ∙ ap (jacks_by side g s.cell.kind) some ∙ ap (λ ks. map spot_jack (ports_among side (get g.nodes) ks)) (sym keys)) in
      need_counted (jacks_at Inlets g k) (jacks_at Outlets g k) (sum_of (ports_in inner))
      (ap length (at Inlets) ∙ inlets_stand (get g.nodes) (get g.boards) j d js inner S)
      (ap length (at Outlets) ∙ outlets_stand (get g.nodes) (get g.boards) j d js inner S)
      (ap (list_any (λ (x : Jack). x.is_signal)) (at Outlets) ∙ sounds_stand (get g.nodes) (get g.boards) j d js inner S)

  -- each box of a tree that stands has what it needs by the tree
  pub needs_stand : (b d : ℕ) (ks : List ℕ) (t : Trees) → (S : Stands (get g.nodes) (get g.boards) b d ks t)
      → map (need_at g) (keys_standing (get g.nodes) (get g.boards) b d ks t S) ≡ needs_in t
  needs_stand b d [] Done S = refl
  needs_stand b d (k ∷ ks) Done S = absurd S
  needs_stand b d [] (Leaf c rest) S = absurd S
  needs_stand b d (k ∷ ks) (Leaf c rest) S =
      ap (λ n. n ∷ map (need_at g) (keys_standing (get g.nodes) (get g.boards) b d ks rest S.1)) (leaf_at k _ S.0 refl)
      ∙ ap (λ ns. leaf_need c.kind ∷ ns) (needs_stand b d ks rest S.1)
  needs_stand b d [] (Holder c s inner rest) S = absurd S
  needs_stand b d (k ∷ ks) (Holder c s inner rest) S =
      let xs = keys_standing (get g.nodes) (get g.boards) S.0 (d + 1) S.1 inner S.4 in
      let ys = keys_standing (get g.nodes) (get g.boards) b d ks rest S.5 in
      ap (λ n. n ∷ map (need_at g) (xs ++ ys)) (holder_at k S.0 (d + 1) S.1 _ inner S.2 refl (sym (seen_keys (get g.boards S.0) _ S.3)) S.4)
      ∙ ap (λ ns. holder_need (sum_of (ports_in inner)) ∷ ns)
      (map-append (need_at g) xs ys ∙ ap (λ ns. ns ++ map (need_at g) ys) (needs_stand S.0 (d + 1) S.1 inner S.4)
      ∙ ap (λ ns. needs_in inner ++ ns) (needs_stand b d ks rest S.5))

  -- each canvas of a tree that stands has the wires and so many boxes as by the tree
  pub insides_stand : (b d : ℕ) (ks : List ℕ) (t : Trees) → (S : Stands (get g.nodes) (get g.boards) b d ks t)
      → flat_map (inside_at g) (keys_standing (get g.nodes) (get g.boards) b d ks t S) ≡ insides_in t
  insides_stand b d [] Done S = refl
  insides_stand b d (k ∷ ks) Done S = absurd S
  insides_stand b d [] (Leaf c rest) S = absurd S
  insides_stand b d (k ∷ ks) (Leaf c rest) S =
      ap (λ o. inside_held g o ++ flat_map (inside_at g) (keys_standing (get g.nodes) (get g.boards) b d ks rest S.1)) (seen_inner (get g.nodes k) _ S.0)
      ∙ insides_stand b d ks rest S.1
  insides_stand b d [] (Holder c s inner rest) S = absurd S
  insides_stand b d (k ∷ ks) (Holder c s inner rest) S =
      let xs = keys_standing (get g.nodes) (get g.boards) S.0 (d + 1) S.1 inner S.4 in
      let ys = keys_standing (get g.nodes) (get g.boards) b d ks rest S.5 in
      let own : Inside = record { wires = s.wires; boxes = width inner } in
      let here : inside_at g k ≡ own ∷ [] =
      ap (inside_held g) (seen_inner (get g.nodes k) _ S.2) ∙ seen_inside (get g.boards S.0) _ S.3
      ∙ ap (λ n. record { wires = s.wires; boxes = n } ∷ []) (wide_stand (get g.nodes) (get g.boards) S.0 (d + 1) S.1 inner S.4) in
      ap (λ is. is ++ flat_map (inside_at g) (xs ++ ys)) here
      ∙ ap (λ is. own ∷ is) (flat_append (inside_at g) xs ys ∙ ap (λ is. is ++ flat_map (inside_at g) ys) (insides_stand S.0 (d + 1) S.1 inner S.4)
      ∙ ap (λ is. insides_in inner ++ is) (insides_stand b d ks rest S.5))
