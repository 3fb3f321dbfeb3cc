-- Where room was set aside for boxes the tree stands, its wires hold and fit, and there are as many.
use Rattle.std.proofs.Common.{◌≡◌, ◌≤◌, ◌<◌, ◌⊎◌, ℕ, zero, suc, ◌+◌, true, List, [], ◌∷◌, ◌++◌, length, slice_get, Option, Some, None, refl, sym, ap, ◌∙◌, subst}
use Rattle.std.specs.Prelude.{option_map, option_and_then, replicate, map}
use Rattle.std.specs.List.{AllByRecursion, flat_map, range_with_len}
use Rattle.std.proofs.lemmas.Option.{none-some, same_Some}
use Rattle.slab.specs.Slab.{get}
use Rattle.pd_canvas.specs.declared.wires.Wire.{Wire}
use Rattle.pd_tree.specs.Ports.{Sockets, fits}
use Rattle.pd_tree.specs.Trees.{Trees, Done, Leaf, Holder, Tree}
use Rattle.pd_grove.specs.declared.grove.Grove.{Grove}
use Rattle.pd_grove.specs.declared.ports.Side.TheVariants.{Inlets, Outlets}
use Rattle.pd_grove.specs.OwnPaths.{sub_in, sub_step_in, sub_reached}
use Rattle.pd_grove.specs.Room.{IsSameButRoom}
use Rattle.pd_grove.specs.Standing.{node_seen, board_seen, Stands, GroveStands}
use Rattle.pd_grove.specs.Telling.{inner_in, step_in, reached}
use Rattle.pd_web.specs.declared.jacks.Jack.{Jack}
use Rattle.pd_web.specs.declared.web.Hop.{Hop}
use Rattle.pd_web.specs.declared.web.Web.{Web}
use Rattle.pd_web.specs.Canvases.{keys_at}
use Rattle.pd_web.specs.Changes.{hop_at, line_told, wires_told, KeepsPorts, IsListed, IsSame, Meet}
use Rattle.pd_web.specs.Hops.{boxes_told, ports_told, fan_hops, feed_hops, feed_keys, places_of}
use Rattle.pd_web.specs.Lines.{seen_by, laid_at}
use Rattle.pd_web.specs.Sockets.{made_at}
use Rattle.pd_web.proofs.CountLemmas.{same_are_as_many}
use Rattle.pd_seek.specs.Places.{label_at, AreInOrder}
use Rattle.pd_present.specs.Presents.{number_in, wire_along, outlet_wires, box_wires, wires_among}
use Rattle.pd_patch.specs.declared.patch.Patch.{Patch}
use Rattle.pd_patch.specs.Numbers.{AreApart}
use Rattle.pd_patch.specs.Wired.{LeadsHere}
use Rattle.pd_boxes.specs.Room.{SameButRoom}
use Rattle.pd_boxes.specs.Rows.{IsLonger}
use Rattle.pd_boxes.proofs.RoomLemmas.{keys_same}
use Rattle.pd_reload_law.specs.Reloading.{RunsAs}
use Rattle.pd_reload_law.specs.Wires.{IsAmong}
use Rattle.pd_saved_law.specs.Fitting.{WiresFit}
use Rattle.pd_alike_law.specs.Feeds.{FedOnce}
use Rattle.pd_alike_law.proofs.FeedLemmas.{keys_of, feed_keys_of}
use Rattle.pd_inside_law.specs.Inside.{HasWiresOf, IsWiredInside, HoldsWires}

-- ---- webs that have the same wires

-- the boxes of a canvas have its ports and wires still
pub same_canvas : (w v : Web) (keys : List ℕ) (u : Tree) → boxes_told v keys ≡ boxes_told w keys → ((k o : ℕ) → IsAmong keys k → fan_hops v k o ≡ fan_hops w k o)
    → ((k i : ℕ) → IsAmong keys k → feed_hops v k i ≡ feed_hops w k i) → HasWiresOf w keys u → HasWiresOf v keys u
same_canvas w v keys u ports fans feeds h = record {
  ports = ports ∙ h.ports;
  fans = λ i o k e. ap places_of (fans k o (i, e)) ∙ h.fans i o k e;
  feeds = λ i o k e. ap places_of (feeds k o (i, e)) ∙ h.feeds i o k e;
}

-- where each list of wires stays, and what each wire joins, each wire stands once
pub lists_fed : (w v : Web) → ((k : ℕ) → line_told v k ≡ line_told w k) → ((k i : ℕ) → feed_hops v k i ≡ feed_hops w k i) → FedOnce w → FedOnce v
lists_fed w v lines feeds f = record {
  lines = λ node inlet i h e. lines h.key ∙ f.lines node inlet i h (ap (λ (hs : List Hop). slice_get hs i) (sym (feeds node inlet)) ∙ e);
  once = λ node inlet. subst AreApart
      (sym (feed_keys_of w (feed_keys w node inlet)) ∙ ap keys_of (sym (feeds node inlet)) ∙ feed_keys_of v (feed_keys v node inlet)) (f.once node inlet);
}

-- and at both of its ports
pub lists_meet : (w v : Web) → ((k o : ℕ) → fan_hops v k o ≡ fan_hops w k o) → ((k i : ℕ) → feed_hops v k i ≡ feed_hops w k i) → Meet w → Meet v
lists_meet w v fans feeds m = record {
  fed = λ node outlet i h e.
      subst (λ (hs : List Hop). IsListed hs (hop_at h.key node outlet)) (sym (feeds h.node h.port))
      (m.fed node outlet i h (ap (λ (hs : List Hop). slice_get hs i) (sym (fans node outlet)) ∙ e));
  fanned = λ node inlet i h e.
      subst (λ (hs : List Hop). IsListed hs (hop_at h.key node inlet)) (sym (fans h.node h.port))
      (m.fanned node inlet i h (ap (λ (hs : List Hop). slice_get hs i) (sym (feeds node inlet)) ∙ e));
}

-- the ports of boxes of which each has those that it had
pub told_same : (w v : Web) (keys : List ℕ) → ((i k : ℕ) → slice_get keys i ≡ Some k → laid_at v.sockets.items k ≡ laid_at w.sockets.items k)
    → boxes_told v keys ≡ boxes_told w keys
told_same w v [] h = refl
told_same w v (x ∷ keys) h =
    ap (λ (y : Sockets). y ∷ boxes_told v keys) (h 0 x refl) ∙ ap (λ (l : List Sockets). laid_at w.sockets.items x ∷ l) (told_same w v keys (λ i k e. h (suc i) k e))

pub laid_same : (w v : Web) (x : ℕ) → ports_told v Inlets x ≡ ports_told w Inlets x → ports_told v Outlets x ≡ ports_told w Outlets x
    → made_at v.sockets.items x ≡ made_at w.sockets.items x → laid_at v.sockets.items x ≡ laid_at w.sockets.items x
laid_same w v x inlets outlets made =
    ap (λ (y : List Jack). seen_by y (ports_told v Outlets x) (made_at v.sockets.items x)) inlets
    ∙ ap (λ (y : List Jack). seen_by (ports_told w Inlets x) y (made_at v.sockets.items x)) outlets
    ∙ ap (seen_by (ports_told w Inlets x) (ports_told w Outlets x)) made

kept_told : (w v : Web) (keys : List ℕ) → KeepsPorts w v → boxes_told v keys ≡ boxes_told w keys
kept_told w v keys k = told_same w v keys (λ i x e. laid_same w v x (k.ports Inlets x) (k.ports Outlets x) (k.made x))

-- ---- numbers

pub label_is : (xs : List ℕ) (k i : ℕ) → slice_get xs k ≡ Some i → label_at xs k ≡ i
label_is [] k i e = absurd (none-some i e)
label_is (x ∷ xs) zero i e = same_Some x i e
label_is (x ∷ xs) (suc k) i e = label_is xs k i e

abbrev zeros : ℕ → List ℕ
zeros n = replicate n 0

label_none : (n k : ℕ) → label_at (zeros n) k ≡ label_at [] k
label_none zero k = refl
label_none (suc n) zero = refl
label_none (suc n) (suc k) = label_none n k

longer_label : (xs : List ℕ) (n k : ℕ) → label_at (xs ++ zeros n) k ≡ label_at xs k
longer_label [] n k = label_none n k
longer_label (x ∷ xs) n zero = refl
longer_label (x ∷ xs) n (suc k) = longer_label xs n k

label_same : (old new : List ℕ) (k : ℕ) → IsLonger 0 old new → label_at new k ≡ label_at old k
label_same old new k l = ap (λ (ns : List ℕ). label_at ns k) l.1 ∙ longer_label old l.0 k

number_none : (n k : ℕ) → number_in (zeros n) k ≡ number_in [] k
number_none zero k = refl
number_none (suc n) zero = refl
number_none (suc n) (suc k) = number_none n k

longer_number : (xs : List ℕ) (n k : ℕ) → number_in (xs ++ zeros n) k ≡ number_in xs k
longer_number [] n k = number_none n k
longer_number (x ∷ xs) n zero = refl
longer_number (x ∷ xs) n (suc k) = longer_number xs n k

number_same : (old new : List ℕ) (k : ℕ) → IsLonger 0 old new → number_in new k ≡ number_in old k
number_same old new k l = ap (λ (ns : List ℕ). number_in ns k) l.1 ∙ longer_number old l.0 k

abbrev LaterAt : ℕ → ℕ → Hop → Hop → Type 0
LaterAt m n g h = (m < n) ⊎ ((m ≡ n) × (g.port ≤ h.port))

-- feeds stay in order where their boxes have the labels that they had
pub order_on : (a b : List ℕ) (hops : List Hop) → ((i : ℕ) (h : Hop) → slice_get hops i ≡ Some h → label_at b h.node ≡ label_at a h.node) → AreInOrder a hops → AreInOrder b hops
order_on a b hops same o i j g h l e f =
    subst (λ (n : ℕ). LaterAt n (label_at b h.node) g h) (sym (same i g e)) (subst (λ (n : ℕ). LaterAt (label_at a g.node) n g h) (sym (same j h f)) (o i j g h l e f))

-- ---- the wires of boxes that are saved

flat_same : {X : Type 0} (f g : ℕ → List X) (xs : List ℕ) → ((x : ℕ) → f x ≡ g x) → flat_map f xs ≡ flat_map g xs
flat_same f g [] h = refl
flat_same {X} f g (x ∷ xs) h = ap (λ (l : List X). l ++ flat_map f xs) (h x) ∙ ap (λ (l : List X). g x ++ l) (flat_same f g xs h)

map_same : {X Y : Type 0} (f g : X → Y) (xs : List X) → ((x : X) → f x ≡ g x) → map f xs ≡ map g xs
map_same f g [] h = refl
map_same {X} {Y} f g (x ∷ xs) h = ap (λ (y : Y). y ∷ map f xs) (h x) ∙ ap (λ (l : List Y). g x ∷ l) (map_same f g xs h)

along_same : (a b : List ℕ) (k o : ℕ) (h : Hop) → ((j : ℕ) → number_in b j ≡ number_in a j) → wire_along b k o h ≡ wire_along a k o h
along_same a b k o h same =
    ap (λ (s : ℕ). record { source = s; outlet = o; sink = number_in b h.node; inlet = h.port }) (same k)
    ∙ ap (λ (s : ℕ). record { source = number_in a k; outlet = o; sink = s; inlet = h.port }) (same h.node)

among_same : (w v : Web) (a b keys : List ℕ) → IsSame w v → ((j : ℕ) → number_in b j ≡ number_in a j) → wires_among v b keys ≡ wires_among w a keys
among_same w v a b keys s same =
    flat_same (box_wires v b) (box_wires w a) keys (λ k.
    ap (λ (ports : List Jack). flat_map (outlet_wires v b k) (range_with_len 0 (length ports))) (s.kept.ports Outlets k)
    ∙ flat_same (outlet_wires v b k) (outlet_wires w a k) (range_with_len 0 (length (ports_told w Outlets k))) (λ o.
    ap (map (wire_along b k o)) (s.fans k o) ∙ map_same (wire_along b k o) (wire_along a k o) (fan_hops w k o) (λ h. along_same a b k o h same)))

-- ---- paths

module _ (g g2 : Grove) (s : IsSameButRoom g g2) where
  same_inner : (o : Option ℕ) → option_and_then (λ k. inner_in (get g2.nodes k)) o ≡ option_and_then (λ k. inner_in (get g.nodes k)) o
  same_inner None = refl
  same_inner (Some k) = ap inner_in (s.nodes k)

  same_sub : (o : Option ℕ) → option_and_then (λ k. sub_in (get g2.nodes k)) o ≡ option_and_then (λ k. sub_in (get g.nodes k)) o
  same_sub None = refl
  same_sub (Some k) = ap sub_in (s.nodes k)

  next_inner : (n : ℕ) (here : Option ℕ) → option_and_then (λ c. step_in g2 c n) here ≡ option_and_then (λ c. step_in g c n) here
  next_inner n None = refl
  next_inner n (Some c) =
      ap (λ (ks : List ℕ). option_and_then (λ k. inner_in (get g2.nodes k)) (slice_get ks n)) (keys_same g g2 s c) ∙ same_inner (slice_get (keys_at g c) n)

  next_sub : (n : ℕ) (here : Option ℕ) → option_and_then (λ c. sub_step_in g2 c n) here ≡ option_and_then (λ c. sub_step_in g c n) here
  next_sub n None = refl
  next_sub n (Some c) =
      ap (λ (ks : List ℕ). option_and_then (λ k. sub_in (get g2.nodes k)) (slice_get ks n)) (keys_same g g2 s c) ∙ same_sub (slice_get (keys_at g c) n)

  same_reached : (path : List ℕ) (here : Option ℕ) → reached g2 here path ≡ reached g here path
  same_reached [] here = refl
  same_reached (n ∷ path) here = ap (λ (o : Option ℕ). reached g2 o path) (next_inner n here) ∙ same_reached path (option_and_then (λ c. step_in g c n) here)

  same_sub_reached : (path : List ℕ) (here : Option ℕ) → sub_reached g2 here path ≡ sub_reached g here path
  same_sub_reached [] here = refl
  same_sub_reached (n ∷ path) here =
      ap (λ (o : Option ℕ). sub_reached g2 o path) (next_sub n here) ∙ same_sub_reached path (option_and_then (λ c. sub_step_in g c n) here)

  pub room_subs : (path : List ℕ) → sub_reached g2 (Some g2.root) path ≡ sub_reached g (Some g.root) path
  room_subs path = same_sub_reached path (Some g2.root) ∙ ap (λ (r : ℕ). sub_reached g (Some r) path) s.root

  room_leads : (path : List ℕ) → reached g2 (Some g2.root) path ≡ reached g (Some g.root) path
  room_leads path = same_reached path (Some g2.root) ∙ ap (λ (r : ℕ). reached g (Some r) path) s.root

  -- ---- the tree

  stands_room : (b d : ℕ) (keys : List ℕ) (t : Trees) → Stands (get g.nodes) (get g.boards) b d keys t → Stands (get g2.nodes) (get g2.boards) b d keys t
  stands_room b d [] Done S = tt
  stands_room b d (k ∷ ks) Done S = absurd S
  stands_room b d [] (Leaf c rest) S = absurd S
  stands_room b d (k ∷ ks) (Leaf c rest) S = (ap (option_map node_seen) (s.nodes k) ∙ S.0, stands_room b d ks rest S.1)
  stands_room b d [] (Holder c sheet inner rest) S = absurd S
  stands_room b d (k ∷ ks) (Holder c sheet inner rest) S =
      (S.0, S.1, ap (option_map node_seen) (s.nodes k) ∙ S.2, s.boards S.0 ∙ S.3, stands_room S.0 (d + 1) S.1 inner S.4, stands_room b d ks rest S.5)

  room_stands : (t : Tree) → GroveStands g t.sheet t.boxes → GroveStands g2 t.sheet t.boxes
  room_stands t G = record {
    keys = G.keys;
    root = ap (λ (r : ℕ). option_map board_seen (get g2.boards r)) s.root ∙ s.boards g.root ∙ G.root;
    stands = subst (λ (r : ℕ). Stands (get g2.nodes) (get g2.boards) r 0 G.keys t.boxes) (sym s.root) (stands_room g.root 0 G.keys t.boxes G.stands);
  }

  pub room_runs : (t : Tree) → RunsAs g t → RunsAs g2 t
  room_runs t r = record {
    stands = room_stands t r.stands;
    shallow = r.shallow;
    savable = record {
      toggles = λ k n e. r.savable.toggles k n (sym (s.nodes k) ∙ e);
      canvases = λ k n h e c. r.savable.canvases k n h (sym (s.nodes k) ∙ e) c;
    };
  }

-- ---- patches

module _ (p q : Patch) (s : SameButRoom p q) where
  room_inside : (t : Tree) → IsWiredInside p.grove p.web t → IsWiredInside q.grove q.web t
  room_inside t h = record {
    all = λ path c u l.
        let here : LeadsHere p.grove t path c u = record { key = sym (room_leads p.grove q.grove s.grove path) ∙ l.here.key; canvas = l.here.canvas } in
        let was : HasWiresOf p.web (keys_at p.grove c) u = h.all path c u (record { here = here; inside = sym (room_subs p.grove q.grove s.grove path) ∙ l.inside }) in
        subst (λ (ks : List ℕ). HasWiresOf q.web ks u) (sym (keys_same p.grove q.grove s.grove c))
        (same_canvas p.web q.web (keys_at p.grove c) u (kept_told p.web q.web (keys_at p.grove c) s.web.kept) (λ k o a. s.web.fans k o) (λ k i a. s.web.feeds k i) was);
  }

  pub room_holds : (t : Tree) → HoldsWires p t → HoldsWires q t
  room_holds t h = record {
    fed = lists_fed p.web q.web s.web.lines s.web.feeds h.fed;
    meet = lists_meet p.web q.web s.web.fans s.web.feeds h.meet;
    inside = room_inside t h.inside;
    order = λ path c at.
        let f = h.order path c (sym (room_subs p.grove q.grove s.grove path) ∙ at) in
        record {
          all = λ i k inlet e.
              order_on p.numbers.items q.numbers.items (feed_hops q.web k inlet) (λ j x a. label_same p.numbers.items q.numbers.items x.node s.numbers)
              (subst (AreInOrder p.numbers.items) (sym (s.web.feeds k inlet)) (f.all i k inlet (ap (λ (ks : List ℕ). slice_get ks i) (sym (keys_same p.grove q.grove s.grove c)) ∙ e)));
        };
  }

  abbrev Fit : Web → List ℕ → List ℕ → Type 0
  Fit w numbers keys = AllByRecursion (λ v. fits (boxes_told w keys) v ≡ true) (wires_among w numbers keys)

  pub room_fits : WiresFit p → WiresFit q
  room_fits f = record {
    all = λ c.
        let ks = keys_at p.grove c in
        subst (Fit q.web q.numbers.items) (sym (keys_same p.grove q.grove s.grove c))
        (subst (λ (ws : List Wire). AllByRecursion (λ v. fits (boxes_told q.web ks) v ≡ true) ws)
        (sym (among_same p.web q.web p.numbers.items q.numbers.items ks s.web (λ j. number_same p.numbers.items q.numbers.items j s.numbers)))
        (subst (λ (x : List Sockets). AllByRecursion (λ v. fits x v ≡ true) (wires_among p.web p.numbers.items ks)) (sym (kept_told p.web q.web ks s.web.kept)) (f.all c)));
  }

  pub room_wires : wires_told q.web ≡ wires_told p.web
  room_wires = same_are_as_many p.web q.web s.web
