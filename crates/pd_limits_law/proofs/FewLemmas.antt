-- A running patch has few wires: at first, through edits of wires, through more room, and through what messages change.
use Rattle.std.proofs.Common.{◌≡◌, ◌≤◌, ◌<◌, ◌+◌, ◌==◌, inl, inr, ℕ, zero, suc, Bool, true, false, cond, not, is_some, List, [], ◌∷◌, ◌++◌, length, filter, slice_get, slice_index_or, Option, Some, None, Result, Ok, Err, refl, sym, ap, ◌∙◌, subst, arith, length-append}
use Rattle.std.specs.Prelude.{option_map, option_and_then, nat_lt, ◌&&◌}
use Rattle.std.specs.List.{flat_map, range_with_len}
use Rattle.std.proofs.lemmas.Bool.Decides.{nat_tests}
use Rattle.std.proofs.lemmas.List.{length-map}
use Rattle.slab.specs.Slab.{Slab, get}
use Rattle.pd_atom.specs.Names.{Names}
use Rattle.pd_clock.specs.declared.times.Rate.{Rate}
use Rattle.pd_canvas.specs.declared.edits.Edit.{Edit}
use Rattle.pd_canvas.specs.declared.edits.Edit.TheVariants as edit
use Rattle.pd_canvas.specs.declared.wires.Wire.{Wire}
use Rattle.pd_canvas.specs.Views.{entry_of}
use Rattle.pd_fit.specs.Fitting.{wires_inside}
use Rattle.pd_tree.specs.Ports.{trimmed_sheet}
use Rattle.pd_tree.specs.Trees.{Tree}
use Rattle.pd_growth.specs.Steps.{Step}
use Rattle.pd_grove.specs.declared.boards.Board.{Board}
use Rattle.pd_grove.specs.declared.grove.Grove.{Grove}
use Rattle.pd_grove.specs.declared.nodes.Node.{Node}
use Rattle.pd_grove.specs.declared.ports.Side.TheVariants.{Outlets}
use Rattle.pd_grove.specs.declared.spots.Spot.{Spot}
use Rattle.pd_grove.specs.OwnPaths.{sub_reached}
use Rattle.pd_grove.specs.Telling.{keys_in, with_state, reached}
use Rattle.pd_grove.specs.TextOrder.{deep, is_sub, keys_inside, spot, box_spots, spots_among, keys_standing, keys_of_spots, keys_in_order}
use Rattle.pd_grove.proofs.PlaceLemmas.{seen_keys}
use Rattle.pd_web.specs.declared.jacks.Jack.{Jack}
use Rattle.pd_web.specs.declared.lines.Line.{Line}
use Rattle.pd_web.specs.declared.web.Hop.{Hop}
use Rattle.pd_web.specs.declared.web.Web.{Web}
use Rattle.pd_web.specs.Canvases.{keys_at}
use Rattle.pd_web.specs.Changes.{line_told, wires_told, KeepsPorts, CutsWire}
use Rattle.pd_web.specs.Hops.{fan_keys, fan_hops, ports_told}
use Rattle.pd_web.proofs.CountLemmas.{holds, held_alike, joined_is_one_more, cut_is_one_less, same_are_as_many}
use Rattle.pd_present.specs.Presents.{wire_along, outlet_wires, box_wires, wires_among}
use Rattle.pd_patch.specs.declared.patch.Patch.{Patch}
use Rattle.pd_patch.specs.Grown.{IsTree, IsFresh}
use Rattle.pd_patch.specs.Wired.{LeadsHere}
use Rattle.pd_wiring.specs.declared.asking.WireRefusal.{WireRefusal}
use Rattle.pd_wiring.specs.declared.refusals.EditRefusal.{EditRefusal}
use Rattle.pd_wiring.specs.declared.refusals.EditRefusal.TheVariants.{TooManyWires}
use Rattle.pd_wiring.specs.Changes.{AreAlike, SameButRoom}
use Rattle.pd_wiring.specs.Plans.{Plan, Attaches, Detaches, attaching, wire_found, detaching, connecting, disconnecting, planned, IsCarriedOut, IsRewired}
use Rattle.pd_saved_law.proofs.FitLemmas.{same_or}
use Rattle.pd_inside_law.specs.Inside.{HasWiresOf}
use Rattle.pd_limits_law.specs.Limits.{wires_leaving, HasFewWires}
use Rattle.pd_limits_law.proofs.CountLemmas.{count, saves_as_many, AllEven, as_grown}
use Rattle.pd_limits_law.proofs.OnceLemmas.{in_order}

no_more : (a b c : ℕ) → a ≤ b → b ≤ c → a ≤ c
no_more a b c h l = omega (arith, h, l)

as_few : (a b c : ℕ) → a ≡ b → b ≤ c → a ≤ c
as_few a b c e l = omega (arith, e, l)

-- ---- at first

module _ (p : Patch) (t : Tree) (wires : (path : List ℕ) (c : ℕ) (u : Tree) → LeadsHere p.grove t path c u → HasWiresOf p.web (keys_at p.grove c) u)
    (numbered : (c i k : ℕ) → slice_get (keys_at p.grove c) i ≡ Some k → slice_get p.numbers.items k ≡ Some i) where
  all_even : (keys : List ℕ) → keys_at p.grove p.grove.root ≡ keys → AllEven p.web p.numbers.items p.grove keys t.boxes
  all_even keys listed n path e v at is =
      saves_as_many p.web p.numbers.items (keys_at p.grove e) v (numbered e) (wires (n ∷ path) e v (record {
        key = ap (λ (ks : List ℕ). reached p.grove (option_and_then (λ k. option_and_then (λ (x : Node). x.inner) (get p.grove.nodes k)) (slice_get ks n)) path) listed ∙ at;
        canvas = is;
      }))

pub first_few : (p : Patch) (names : Names) (file : List ℕ) (rate : Rate) (s : Step Tree) → IsTree p names rate s → IsFresh p names file rate → HasFewWires p
first_few p names file rate s grew fresh =
    let g = p.grove in
    let w = p.web in
    let N = p.numbers.items in
    let t = grew.tree in
    let G = grew.stands in
    let root = keys_at g g.root in
    let listed : root ≡ G.keys = seen_keys (get g.boards g.root) _ G.root in
    let wires : (path : List ℕ) (c : ℕ) (u : Tree) → LeadsHere g t path c u → HasWiresOf w (keys_at g c) u = λ path c u l.
    record { ports = grew.wired.ports path c u l; fans = grew.wired.fans path c u l; feeds = grew.wired.feeds path c u l } in
    let here : length (trimmed_sheet t.boxes t.sheet).wires ≡ count w N root =
    saves_as_many w N root t (fresh.numbers g.root) (wires [] g.root t (record { key = refl; canvas = refl })) in
    let inside : count w N root + wires_inside t.boxes ≡ count w N (keys_standing (get g.nodes) (get g.boards) g.root 0 G.keys t.boxes G.stands) =
    ap (λ (ks : List ℕ). count w N ks + wires_inside t.boxes) listed
    ∙ as_grown w N g g.root 0 G.keys t.boxes G.stands (all_even p t wires fresh.numbers G.keys listed) in
    inr (sum (length (trimmed_sheet t.boxes t.sheet).wires) (count w N root) (wires_inside t.boxes) (count w N (keys_standing (get g.nodes) (get g.boards) g.root 0 G.keys t.boxes G.stands))
    (wires_leaving p) here inside (ap (λ (ks : List ℕ). count w N ks) (in_order g t G (no_deeper (deep t.boxes) grew.shallow))) grew.few_wires)
  where
    no_deeper : (n : ℕ) → n + 1 ≤ 256 → n ≤ 256
    no_deeper n h = omega (arith, h)

    sum : (a b c d e : ℕ) → a ≡ b → b + c ≡ d → e ≡ d → a + c ≤ 65536 → e ≤ 65536
    sum a b c d e p q r l = omega (arith, p, q, r, l)

-- ---- fewer wires leave boxes

flat_fewer : {X Y : Type 0} (f : ℕ → List X) (g : ℕ → List Y) → ((x : ℕ) → length (f x) ≤ length (g x)) → (xs : List ℕ) → length (flat_map f xs) ≤ length (flat_map g xs)
flat_fewer f g h [] = omega arith
flat_fewer f g h (x ∷ xs) =
    sum (length (f x)) (length (g x)) (length (flat_map f xs)) (length (flat_map g xs)) (length (f x ++ flat_map f xs)) (length (g x ++ flat_map g xs))
    (length-append (f x) (flat_map f xs)) (length-append (g x) (flat_map g xs)) (h x) (flat_fewer f g h xs)
  where
    sum : (a b c d x y : ℕ) → x ≡ a + c → y ≡ b + d → a ≤ b → c ≤ d → x ≤ y
    sum a b c d x y p q r s = omega (arith, p, q, r, s)

filter_fewer : {X : Type 0} (p : X → Bool) (xs : List X) → length (filter p xs) ≤ length xs
filter_fewer p [] = omega arith
filter_fewer p (x ∷ xs) = step (p x) (filter_fewer p xs)
  where
    step : (b : Bool) → length (filter p xs) ≤ length xs → length (cond b (x ∷ filter p xs) (filter p xs)) ≤ length (x ∷ xs)
    step true h = omega (arith, h)
    step false h = omega (arith, h)

module _ (w v : Web) (N : List ℕ) (kept : KeepsPorts w v) (less : (k o : ℕ) → length (fan_hops v k o) ≤ length (fan_hops w k o)) where
  outlet_fewer : (k o : ℕ) → length (outlet_wires v N k o) ≤ length (outlet_wires w N k o)
  outlet_fewer k o =
      both (length (outlet_wires v N k o)) (length (fan_hops v k o)) (length (fan_hops w k o)) (length (outlet_wires w N k o))
      (length-map {B = Wire} (fan_hops v k o) (wire_along N k o)) (less k o) (length-map {B = Wire} (fan_hops w k o) (wire_along N k o))
    where
      both : (a b c d : ℕ) → a ≡ b → b ≤ c → d ≡ c → a ≤ d
      both a b c d p q r = omega (arith, p, q, r)

  box_fewer : (k : ℕ) → length (box_wires v N k) ≤ length (box_wires w N k)
  box_fewer k =
      subst (λ (ports : List Jack). length (flat_map (outlet_wires v N k) (range_with_len 0 (length ports))) ≤ length (box_wires w N k)) (sym (kept.ports Outlets k))
      (flat_fewer (outlet_wires v N k) (outlet_wires w N k) (outlet_fewer k) (range_with_len 0 (length (ports_told w Outlets k))))

  fewer_leave : (ks : List ℕ) → length (wires_among v N ks) ≤ length (wires_among w N ks)
  fewer_leave ks = flat_fewer (box_wires v N) (box_wires w N) box_fewer ks

-- ---- an edit of wires

mapped_some : {X Y : Type 0} (f : X → Y) (o : Option X) → is_some (option_map f o) ≡ is_some o
mapped_some f None = refl
mapped_some f (Some x) = refl

told_holds : (w : Web) (k : ℕ) → is_some (line_told w k) ≡ holds w.book.wires k
told_holds w k = mapped_some _ (slice_index_or w.book.wires k None)

cut_no_more : (w v : Web) (key : ℕ) → CutsWire w v key → (o : Option Line) → line_told w key ≡ o → wires_told v ≤ wires_told w
cut_no_more w v key c (Some l) e = less (wires_told w) (wires_told v) (cut_is_one_less w v key c (ap is_some e))
  where
    less : (a b : ℕ) → b + 1 ≡ a → b ≤ a
    less a b h = omega (arith, h)
cut_no_more w v key c None e =
    same (wires_told w) (wires_told v) (held_alike w.book.wires v.book.wires (λ j. sym (told_holds v j) ∙ ap is_some (line_same j) ∙ told_holds w j))
  where
    same : (a b : ℕ) → b ≡ a → b ≤ a
    same a b h = omega (arith, h)

    line_same : (j : ℕ) → line_told v j ≡ line_told w j
    line_same j = same_or key j (λ q. ap (line_told v) q ∙ c.line ∙ sym e ∙ ap (line_told w) (sym q)) (λ n. c.other_lines j n)

-- where a wire is to come there are fewer than there may be
abbrev HasPlace : Web → Result Plan EditRefusal → Type 0
HasPlace w (Ok (Attaches c l)) = wires_told w < 65536
HasPlace w (Ok (Detaches c key l)) = Unit {0}
HasPlace w (Err why) = Unit {0}

attaching_place : (w : Web) (c : ℕ) (r : Result Line WireRefusal) → HasPlace w (attaching w c r)
attaching_place w c (Err why) = tt
attaching_place w c (Ok l) = by (nat_lt (wires_told w) 65536) (λ t. lower (wires_told w) 65536 t)
  where
    lower : (a b : ℕ) → nat_lt a b ≡ true → a < b
    lower a b t = grind (arith, nat_tests)

    by : (b : Bool) → (b ≡ true → wires_told w < 65536) → HasPlace w (cond b (Ok (Attaches c l)) (Err TooManyWires))
    by true h = h refl
    by false h = tt

found_place : (w : Web) (c : ℕ) (l : Line) (o : Option ℕ) → HasPlace w (wire_found c l o)
found_place w c l None = tt
found_place w c l (Some key) = tt

detaching_place : (w : Web) (c : ℕ) (r : Result Line WireRefusal) → HasPlace w (detaching w c r)
detaching_place w c (Err why) = tt
detaching_place w c (Ok l) = found_place w c l _

connecting_place : (p : Patch) (v : Wire) (o : Option ℕ) → HasPlace p.web (connecting p v o)
connecting_place p v None = tt
connecting_place p v (Some c) = attaching_place p.web c _

disconnecting_place : (p : Patch) (v : Wire) (o : Option ℕ) → HasPlace p.web (disconnecting p v o)
disconnecting_place p v None = tt
disconnecting_place p v (Some c) = detaching_place p.web c _

planned_place : (p : Patch) (path : List ℕ) (e : Edit) → HasPlace p.web (planned p path e)
planned_place p path (edit.Connect v) = connecting_place p v (sub_reached p.grove (Some p.grove.root) path)
planned_place p path (edit.Disconnect v) = disconnecting_place p v (sub_reached p.grove (Some p.grove.root) path)
planned_place p path e = tt

-- the boxes and their numbers are the same
leaving_same : (p q : Patch) → q.grove ≡ p.grove → q.numbers ≡ p.numbers → wires_leaving q ≡ length (wires_among q.web p.numbers.items (keys_in_order p.grove))
leaving_same p q g n = ap (λ (x : _). length (wires_among q.web x.items (keys_in_order q.grove))) n ∙ ap (λ (x : Grove). length (wires_among q.web p.numbers.items (keys_in_order x))) g

fewer_in : (p q : Patch) → q.grove ≡ p.grove → q.numbers ≡ p.numbers → KeepsPorts p.web q.web → ((k o : ℕ) → length (fan_hops q.web k o) ≤ length (fan_hops p.web k o))
    → wires_leaving p ≤ 65536 → wires_leaving q ≤ 65536
fewer_in p q g n kept less few =
    as_few (wires_leaving q) (length (wires_among q.web p.numbers.items (keys_in_order p.grove))) 65536 (leaving_same p q g n)
    (no_more (length (wires_among q.web p.numbers.items (keys_in_order p.grove))) (wires_leaving p) 65536 (fewer_leave p.web q.web p.numbers.items kept less (keys_in_order p.grove)) few)

few_carried : (plan : Plan) (p q : Patch) → HasPlace p.web (Ok plan) → IsCarriedOut plan p q → HasFewWires p → HasFewWires q
few_carried (Attaches c l) p q low h f =
    inl (one_more (wires_told p.web) (wires_told q.web) (joined_is_one_more p.web q.web h.key l (length (fan_keys p.web l.source l.outlet)) h.place h.joins) low)
  where
    one_more : (a b : ℕ) → b ≡ a + 1 → a < 65536 → b ≤ 65536
    one_more a b e l = omega (arith, e, l)
few_carried (Detaches c key l) p q low h (inl f) = inl (no_more (wires_told q.web) (wires_told p.web) 65536 (cut_no_more p.web q.web key h.cuts (line_told p.web key) refl) f)
few_carried (Detaches c key l) p q low h (inr f) =
    inr (fewer_in p q h.rest.grove h.rest.numbers h.cuts.kept (λ k o.
    subst (λ (hops : List Hop). length hops ≤ length (fan_hops p.web k o)) (sym (h.cuts.fans k o)) (filter_fewer (λ (x : Hop). not (x.key == key)) (fan_hops p.web k o))) f)

pub edits_few : (p q : Patch) (path : List ℕ) (e : Edit) (canvas : ℕ) → IsRewired p q path e canvas → HasFewWires p → HasFewWires q
edits_few p q path e canvas x f =
    few_carried x.plan p q (subst (λ (r : Result Plan EditRefusal). HasPlace p.web r) x.is_planned (planned_place p path e)) x.done f

-- ---- more room

pub room_few : (p q : Patch) → SameButRoom p q → HasFewWires p → HasFewWires q
room_few p q s (inl f) = inl (as_few (wires_told q.web) (wires_told p.web) 65536 (same_are_as_many p.web q.web s.web) f)
room_few p q s (inr f) =
    inr (fewer_in p q s.grove s.numbers s.web.kept (λ k o.
    subst (λ (hops : List Hop). length hops ≤ length (fan_hops p.web k o)) (sym (s.web.fans k o)) (itself (length (fan_hops p.web k o)))) f)
  where
    itself : (n : ℕ) → n ≤ n
    itself n = omega arith

-- ---- what boxes keep

abbrev bare : Option Node → Option Node
bare o = option_map (with_state None) o

box_bare : (boards : ℕ → Option Board) (inside : Bool → List ℕ → List Spot) (top : Bool) (k : ℕ) (o : Option Node)
    → box_spots boards inside top k (bare o) ≡ box_spots boards inside top k o
box_bare boards inside top k None = refl
box_bare boards inside top k (Some n) = refl

box_inside : (boards : ℕ → Option Board) (inside other : Bool → List ℕ → List Spot) (top : Bool) (k : ℕ) (o : Option Node)
    → ((b : Bool) (ks : List ℕ) → other b ks ≡ inside b ks) → box_spots boards other top k o ≡ box_spots boards inside top k o
box_inside boards inside other top k None h = refl
box_inside boards inside other top k (Some n) h =
    ap (λ (l : List Spot). spot top k ∷ l) (h (top && is_sub (entry_of n.element).head.form) (keys_inside boards n.inner))

flat_same : {X : Type 0} (f g : ℕ → List X) (xs : List ℕ) → ((x : ℕ) → f x ≡ g x) → flat_map f xs ≡ flat_map g xs
flat_same f g [] h = refl
flat_same {X} f g (x ∷ xs) h = ap (λ (l : List X). l ++ flat_map f xs) (h x) ∙ ap (λ (l : List X). g x ++ l) (flat_same f g xs h)

module _ (nodes nodes2 : ℕ → Option Node) (boards : ℕ → Option Board) (same : (k : ℕ) → bare (nodes2 k) ≡ bare (nodes k)) where
  spots_same : (n : ℕ) (top : Bool) (keys : List ℕ) → spots_among nodes2 boards n top keys ≡ spots_among nodes boards n top keys
  unfolding spots_among
  spots_same zero top keys = refl
  spots_same (suc n) top keys =
      flat_same (λ k. box_spots boards (spots_among nodes2 boards n) top k (nodes2 k)) (λ k. box_spots boards (spots_among nodes boards n) top k (nodes k)) keys (λ k.
      sym (box_bare boards (spots_among nodes2 boards n) top k (nodes2 k)) ∙ ap (box_spots boards (spots_among nodes2 boards n) top k) (same k)
      ∙ box_bare boards (spots_among nodes2 boards n) top k (nodes k)
      ∙ box_inside boards (spots_among nodes boards n) (spots_among nodes2 boards n) top k (nodes k) (λ b ks. spots_same n b ks))

order_same : (g h : Grove) → ((k : ℕ) → bare (get h.nodes k) ≡ bare (get g.nodes k)) → h.boards ≡ g.boards → h.root ≡ g.root → keys_in_order h ≡ keys_in_order g
order_same g h nodes boards root =
    ap (λ (b : Slab Board). keys_of_spots (spots_among (get h.nodes) (get b) 257 true (keys_in (get b h.root)))) boards
    ∙ ap (λ (r : ℕ). keys_of_spots (spots_among (get h.nodes) (get g.boards) 257 true (keys_in (get g.boards r)))) root
    ∙ ap keys_of_spots (spots_same (get g.nodes) (get h.nodes) (get g.boards) nodes 257 true (keys_in (get g.boards g.root)))

pub alike_few : (p q : Patch) → AreAlike p q → q.grove.root ≡ p.grove.root → HasFewWires p → HasFewWires q
alike_few p q a root (inl f) = inl (subst (λ (w : Web). wires_told w ≤ 65536) (sym a.web) f)
alike_few p q a root (inr f) =
    inr (as_few (wires_leaving q) (wires_leaving p) 65536
    (ap (λ (w : Web). length (wires_among w q.numbers.items (keys_in_order q.grove))) a.web
    ∙ ap (λ (x : _). length (wires_among p.web x.items (keys_in_order q.grove))) a.numbers
    ∙ ap (λ (ks : List ℕ). length (wires_among p.web p.numbers.items ks)) (order_same p.grove q.grove a.nodes a.boards root)) f)
