-- A box that became another one: the wires hold and fit, and each name has its owners.
use Rattle.std.proofs.Common.{◌≡◌, ◌≢◌, ◌+◌, ℕ, zero, suc, Bool, true, false, cond, List, [], ◌∷◌, filter, length, slice_get, Option, Some, None, refl, sym, ap, ◌∙◌, subst, arith}
use Rattle.std.specs.Prelude.{option_map, option_and_then}
use Rattle.std.proofs.lemmas.Option.{none-some, same_Some}
use mathlib.Core.Logic.{⊎_elim}
use Rattle.std.proofs.lemmas.Bool.{cases_eq}
use Rattle.slab.specs.Slab.{Slab, get}
use Rattle.pd_atom.specs.declared.Atom.{Atom}
use Rattle.pd_atom.specs.Names.{Names}
use Rattle.pd_canvas.specs.Views.{entry_of}
use Rattle.pd_object.specs.declared.kinds.Kind.{Kind}
use Rattle.pd_library.specs.Files.{answer_in}
use Rattle.pd_tree.specs.Ports.{is_made}
use Rattle.pd_tree.specs.Trees.{Cell, Trees, Done, Leaf, Holder, Tree}
use Rattle.pd_grove.specs.declared.nodes.Node.{Node}
use Rattle.pd_grove.specs.declared.boards.Board.{Board}
use Rattle.pd_grove.specs.declared.grove.Grove.{Grove}
use Rattle.pd_grove.specs.declared.ports.Side.{Side}
use Rattle.pd_grove.specs.declared.ports.Side.TheVariants.{Inlets, Outlets}
use Rattle.pd_grove.specs.OwnPaths.{sub_in, sub_step_in, sub_reached, sub_in_box, sub_along}
use Rattle.pd_grove.specs.Places.{CanvasStands, LeadsTo, canvas_in_box, canvas_along}
use Rattle.pd_grove.specs.Room.{IsSameButRoom}
use Rattle.pd_grove.specs.TextOrder.{is_sub}
use Rattle.pd_grove.specs.Telling.{inner_in, keys_in, step_in, reached}
use Rattle.pd_grove.proofs.SubLemmas.{sub_path_leads}
use Rattle.pd_web.specs.declared.jacks.Jack.{Jack}
use Rattle.pd_web.specs.declared.web.Hop.{Hop}
use Rattle.pd_web.specs.declared.web.Web.{Web}
use Rattle.pd_web.specs.Canvases.{keys_at}
use Rattle.pd_web.specs.Changes.{wires_told, KeepsPorts, Meet}
use Rattle.pd_web.specs.Hops.{fan_hops, feed_hops}
use Rattle.pd_web.specs.Jacks.{kind_jacks}
use Rattle.pd_ports.specs.Boxes.{HasPorts}
use Rattle.pd_seek.specs.Places.{AreInOrder}
use Rattle.pd_patch.specs.declared.patch.Patch.{Patch}
use Rattle.pd_gather.specs.Gather.{Known}
use Rattle.pd_boxes.specs.Put.{CanPut, HasOwners}
use Rattle.pd_boxes.proofs.RoomLemmas.{keys_same, room_put}
use Rattle.pd_taking.specs.Loosening.{line_at}
use Rattle.pd_misfits.specs.declared.wires.BoxWire.{BoxWire}
use Rattle.pd_misfits.specs.Misfits.{is_fit}
use Rattle.pd_misfits.specs.Shedding.{is_among, is_left, Sheds}
use Rattle.pd_turning.proofs.LawLemmas.{canvas_has}
use Rattle.pd_alike_law.specs.Feeds.{FedOnce}
use Rattle.pd_inside_law.specs.Inside.{HasWiresOf, HoldsWires}
use Rattle.pd_reload_law.specs.Reloading.{RunsAs}
use Rattle.pd_saved_law.specs.Fitting.{WiresFit}
use Rattle.pd_putting_law.specs.Again.{StandsAgain}
use Rattle.pd_putting_law.specs.Puts.{change_inside}
use Rattle.pd_putting_law.proofs.PathLemmas.{Forest, paths_once, sub_leads}
use Rattle.pd_adding.specs.declared.counts.Counts.{Counts}
use Rattle.pd_put_law.proofs.OwnerLemmas.{own_more, room_own}
use Rattle.pd_put_law.proofs.RoomLemmas.{same_canvas, lists_fed, lists_meet, told_same, laid_same, room_subs, room_runs, room_holds, room_fits, room_wires}
use Rattle.pd_retyping.specs.declared.retyping.RetypedBox.{RetypedBox}
use Rattle.pd_retyping.specs.Retypes.{HasBecome, RetypesBox}
use Rattle.pd_retyping_law.specs.Retypes.{boxes_with, retyped_at}
use Rattle.pd_retyping_law.specs.Retyping.{ChangesBoxAt, cell_in}
use Rattle.pd_retype_law.proofs.BackLemmas.{back_holds}
use Rattle.pd_retype_law.proofs.BecomeLemmas.{mid, is_now, cell_is, fitted_there, same_boxes}
use Rattle.pd_retype_law.proofs.GrewLemmas.{goes_on}
use Rattle.pd_retype_law.proofs.FitLemmas.{back_fit, ports_wires, GetsKind}
use Rattle.pd_retype_law.proofs.LooseLemmas.{loose_fits, loose_holds}
use Rattle.pd_retype_law.proofs.TurnLemmas.{turned_fit}

-- ---- canvases of a tree to which paths lead through abstractions

same_inside : (i n : ℕ) (c : Cell) (t : Trees) → canvas_in_box i (boxes_with n c t) ≡ canvas_in_box i t
same_inside i n c Done = refl
same_inside zero zero c (Leaf old rest) = refl
same_inside (suc i) zero c (Leaf old rest) = refl
same_inside zero (suc n) c (Leaf old rest) = refl
same_inside (suc i) (suc n) c (Leaf old rest) = same_inside i n c rest
same_inside zero zero c (Holder old s inner rest) = refl
same_inside (suc i) zero c (Holder old s inner rest) = refl
same_inside zero (suc n) c (Holder old s inner rest) = refl
same_inside (suc i) (suc n) c (Holder old s inner rest) = same_inside i n c rest

changed_beside : (i m : ℕ) (f : Tree → Tree) (t : Trees) → i ≢ m → canvas_in_box i (change_inside m f t) ≡ canvas_in_box i t
changed_beside i m f Done d = refl
changed_beside zero zero f (Leaf c rest) d = absurd (d refl)
changed_beside (suc i) zero f (Leaf c rest) d = refl
changed_beside zero (suc m) f (Leaf c rest) d = refl
changed_beside (suc i) (suc m) f (Leaf c rest) d = changed_beside i m f rest (λ e. d (ap suc e))
changed_beside zero zero f (Holder c s inner rest) d = absurd (d refl)
changed_beside (suc i) zero f (Holder c s inner rest) d = refl
changed_beside zero (suc m) f (Holder c s inner rest) d = refl
changed_beside (suc i) (suc m) f (Holder c s inner rest) d = changed_beside i m f rest (λ e. d (ap suc e))

changed_here : (m : ℕ) (f : Tree → Tree) (t : Trees) → canvas_in_box m (change_inside m f t) ≡ option_map f (canvas_in_box m t)
changed_here m f Done = refl
changed_here zero f (Leaf c rest) = refl
changed_here zero f (Holder c s inner rest) = refl
changed_here (suc m) f (Leaf c rest) = changed_here m f rest
changed_here (suc m) f (Holder c s inner rest) = changed_here m f rest

-- the canvas in a subpatch is the one in that box
sub_canvas : (m : ℕ) (t : Trees) (w : Tree) → sub_in_box m t ≡ Some w → canvas_in_box m t ≡ Some w
sub_canvas m Done w e = absurd (none-some w e)
sub_canvas zero (Leaf c rest) w e = absurd (none-some w e)
sub_canvas zero (Holder c s inner rest) w e = by (is_sub c.head.form) e
  where
    by : (b : Bool) → cond b (Some (record { sheet = s; boxes = inner })) None ≡ Some w → Some (record { sheet = s; boxes = inner }) ≡ Some w
    by true e = e
    by false e = absurd (none-some w e)
sub_canvas (suc m) (Leaf c rest) w e = sub_canvas m rest w e
sub_canvas (suc m) (Holder c s inner rest) w e = sub_canvas m rest w e

-- the subpatch through which a path goes on
record StepsIn (m : ℕ) (path : List ℕ) (t v : Tree) : Type 0 where
  inner : Tree
  is : sub_in_box m t.boxes ≡ Some inner
  on : sub_along path inner ≡ Some v

stepped : (m : ℕ) (path : List ℕ) (t v : Tree) → sub_along (m ∷ path) t ≡ Some v → StepsIn m path t v
stepped m path t v e = by (sub_in_box m t.boxes) refl e
  where
    by : (o : Option Tree) → sub_in_box m t.boxes ≡ o → option_and_then (sub_along path) o ≡ Some v → StepsIn m path t v
    by None at e = absurd (none-some v e)
    by (Some w) at e = record { inner = w; is = at; on = e }

-- a canvas inside an abstraction is the same
inside_same : (path way : List ℕ) (n : ℕ) (c : Cell) (t v : Tree) → sub_along path t ≡ Some v → sub_along way t ≡ None
    → canvas_along way (retyped_at path n c t) ≡ canvas_along way t
inside_same path [] n c t v own off = absurd (none-some t (sym off))
inside_same [] (i ∷ way) n c t v own off = ap (option_and_then (canvas_along way)) (same_inside i n c t.boxes)
inside_same (m ∷ path) (i ∷ way) n c t v own off = ⊎_elim
    (λ (same : i ≡ m).
    let s = stepped m path t v own in
    let f : Tree → Tree = retyped_at path n c in
    let is : canvas_in_box m t.boxes ≡ Some s.inner = sub_canvas m t.boxes s.inner s.is in
    let further : sub_along way s.inner ≡ None =
    sym (ap (option_and_then (sub_along way)) (ap (λ (j : ℕ). sub_in_box j t.boxes) same ∙ s.is)) ∙ off in
    ap (λ (j : ℕ). option_and_then (canvas_along way) (canvas_in_box j (change_inside m f t.boxes))) same
    ∙ ap (option_and_then (canvas_along way)) (changed_here m f t.boxes ∙ ap (option_map f) is)
    ∙ inside_same path way n c s.inner v s.on further
    ∙ sym (ap (option_and_then (canvas_along way)) (ap (λ (j : ℕ). canvas_in_box j t.boxes) same ∙ is)))
    (λ (d : i ≢ m). ap (option_and_then (canvas_along way)) (changed_beside i m (retyped_at path n c) t.boxes d))
    (cases_eq i m)

-- ---- paths

-- a subpatch is none that holds nothing
sub_none : (n : Node) → n.inner ≡ None → sub_in (Some n) ≡ None
sub_none n e = by (is_sub (entry_of n.element).head.form)
  where
    by : (b : Bool) → cond b n.inner None ≡ None
    by true = e
    by false = refl

-- what each key tells alike, each number of a list of keys does
each_told : (f g : ℕ → Option ℕ) → ((k : ℕ) → f k ≡ g k) → (o : Option ℕ) → option_and_then f o ≡ option_and_then g o
each_told f g e None = refl
each_told f g e (Some k) = e k

module _ (g h : Grove) (path₀ : List ℕ) (canvas key number : ℕ) (n n' : Node) (B : ChangesBoxAt g h path₀ canvas key number n n') where
  -- what both boxes tell alike
  told_as : {X : Type 0} (f : Option Node → X) → f (Some n') ≡ f (Some n) → (k : ℕ) → f (get h.nodes k) ≡ f (get g.nodes k)
  told_as f e k = ⊎_elim
      (λ (same : k ≡ key). subst (λ j. f (get h.nodes j) ≡ f (get g.nodes j)) (sym same) (ap f B.becomes ∙ e ∙ sym (ap f B.was)))
      (λ (d : k ≢ key). ap f (B.others k d))
      (cases_eq k key)

  -- both hold the same canvas of the document
  sub_same : sub_in (Some n') ≡ sub_in (Some n)
  sub_same = by n.inner refl
    where
      by : (o : Option ℕ) → n.inner ≡ o → sub_in (Some n') ≡ sub_in (Some n)
      by None e = sub_none n' (B.inner ∙ e) ∙ sym (sub_none n e)
      by (Some j) e =
          ap (λ f. cond (is_sub f) n'.inner None) (B.form j e) ∙ B.inner ∙ sym (ap (λ f. cond (is_sub f) n.inner None) (B.sub j e))

  pub keys_stay : (c : ℕ) → keys_at h c ≡ keys_at g c
  keys_stay c = ap (λ (s : Slab Board). keys_in (get s c)) B.boards

  step_same : (c m : ℕ) → step_in h c m ≡ step_in g c m
  step_same c m =
      ap (λ (s : Slab Board). option_and_then (λ k. inner_in (get h.nodes k)) (slice_get (keys_in (get s c)) m)) B.boards
      ∙ each_told (λ k. inner_in (get h.nodes k)) (λ k. inner_in (get g.nodes k)) (told_as inner_in B.inner) (slice_get (keys_in (get g.boards c)) m)

  sub_step_same : (c m : ℕ) → sub_step_in h c m ≡ sub_step_in g c m
  sub_step_same c m =
      ap (λ (s : Slab Board). option_and_then (λ k. sub_in (get h.nodes k)) (slice_get (keys_in (get s c)) m)) B.boards
      ∙ each_told (λ k. sub_in (get h.nodes k)) (λ k. sub_in (get g.nodes k)) (told_as sub_in sub_same) (slice_get (keys_in (get g.boards c)) m)

  reached_same : (way : List ℕ) (o : Option ℕ) → reached h o way ≡ reached g o way
  reached_same [] o = refl
  reached_same (m ∷ way) None = reached_same way None
  reached_same (m ∷ way) (Some c) = reached_same way (step_in h c m) ∙ ap (λ o. reached g o way) (step_same c m)

  sub_reached_same : (way : List ℕ) (o : Option ℕ) → sub_reached h o way ≡ sub_reached g o way
  sub_reached_same [] o = refl
  sub_reached_same (m ∷ way) None = sub_reached_same way None
  sub_reached_same (m ∷ way) (Some c) = sub_reached_same way (sub_step_in h c m) ∙ ap (λ o. sub_reached g o way) (sub_step_same c m)

  pub from_root : (way : List ℕ) → reached g (Some g.root) way ≡ reached h (Some h.root) way
  from_root way = sym (ap (λ (r : ℕ). reached h (Some r) way) B.root ∙ reached_same way (Some g.root))

  pub sub_from_root : (way : List ℕ) → sub_reached g (Some g.root) way ≡ sub_reached h (Some h.root) way
  sub_from_root way = sym (ap (λ (r : ℕ). sub_reached h (Some r) way) B.root ∙ sub_reached_same way (Some g.root))

  pub number_stays : (c i k : ℕ) → slice_get (keys_at h c) i ≡ Some k → slice_get (keys_at g c) i ≡ Some k
  number_stays c i k at = sym (ap (λ (ks : List ℕ). slice_get ks i) (keys_stay c)) ∙ at

-- ---- a patch

none_along : (g : Grove) (key : Option ℕ) (o : Option Tree) → LeadsTo g key o → key ≡ None → o ≡ None
none_along g key None L e = refl
none_along g key (Some u) L e = absurd (none-some L.0 (sym e ∙ L.1))

some_along : (g : Grove) (key : Option ℕ) (o : Option Tree) (c : ℕ) → LeadsTo g key o → key ≡ Some c → (u : Tree) × (o ≡ Some u)
some_along g key None c L e = absurd (none-some c (sym L ∙ e))
some_along g key (Some u) c L e = (u, refl)

-- wires hold where each canvas inside an abstraction has the wires that it had
module _ (p q : Patch) (path : List ℕ) (canvas key number : ℕ) (n n' : Node) (B : ChangesBoxAt p.grove q.grove path canvas key number n n') (numbers : q.numbers ≡ p.numbers) where
  -- no canvas inside an abstraction has the box
  pub not_inside : (way : List ℕ) (c : ℕ) → reached p.grove (Some p.grove.root) way ≡ Some c → sub_reached p.grove (Some p.grove.root) way ≡ None
      → (i k : ℕ) → slice_get (keys_at p.grove c) i ≡ Some k → k ≢ key
  not_inside way c leads off i k at e =
      let g = p.grove in
      let here : c ≡ canvas = same_Some c canvas (sym (B.forest.own.home c i key (at ∙ ap (λ x. Some x) e)) ∙ B.forest.own.home canvas number key B.is) in
      let same : path ≡ way = paths_once g B.forest path way g.root c (sub_leads g g.root c path (B.leads ∙ ap (λ x. Some x) (sym here))) leads in
      none-some canvas (sym off ∙ ap (sub_reached g (Some g.root)) (sym same) ∙ B.leads)

  pub all_held : FedOnce q.web → Meet q.web → ((k inlet : ℕ) → feed_hops q.web k inlet ≡ feed_hops p.web k inlet)
      → ((way : List ℕ) (c : ℕ) (u : Tree) → reached p.grove (Some p.grove.root) way ≡ Some c → sub_reached p.grove (Some p.grove.root) way ≡ None
      → HasWiresOf p.web (keys_at p.grove c) u → HasWiresOf q.web (keys_at q.grove c) u)
      → (t : Tree) → RunsAs p.grove t → HoldsWires p t → HoldsWires q (retyped_at path number (cell_in n') t)
  all_held fed meet feeds wired t R H =
      let g = p.grove in
      let h = q.grove in
      let c' = cell_in n' in
      let G = R.stands in
      let stands : CanvasStands g g.root t = record { holder = None; depth = 0; keys = G.keys; board = G.root; stands = G.stands } in
      let own = some_along g (sub_reached g (Some g.root) path) (sub_along path t) canvas (sub_path_leads g path g.root t stands) B.leads in
      record {
        fed = fed;
        meet = meet;
        inside = record {
          all = λ way c u l.
              let leads : reached g (Some g.root) way ≡ Some c = from_root g h path canvas key number n n' B way ∙ l.here.key in
              let off : sub_reached g (Some g.root) way ≡ None = sub_from_root g h path canvas key number n n' B way ∙ l.inside in
              let same = inside_same path way number c' t own.0 own.1
              (none_along g (sub_reached g (Some g.root) way) (sub_along way t) (sub_path_leads g way g.root t stands) off) in
              wired way c u leads off (H.inside.all way c u (record { here = record { key = leads; canvas = sym same ∙ l.here.canvas }; inside = off }));
        };
        order = λ way c l.
            let O = H.order way c (sub_from_root g h path canvas key number n n' B way ∙ l) in
            record {
              all = λ i k inlet is.
                  rw numbers (subst (AreInOrder p.numbers.items) (sym (feeds k inlet)) (O.all i k inlet (number_stays g h path canvas key number n n' B c i k is)));
            };
      }

-- the box has other ports, and all wires stay
module _ (p q : Patch) (path : List ℕ) (canvas key number : ℕ) (n n' : Node) (B : ChangesBoxAt p.grove q.grove path canvas key number n n')
    (jacks : Side → List Jack) (made : Bool) (P : HasPorts p.web q.web key jacks made) (numbers : q.numbers ≡ p.numbers) where
  wired_on : (way : List ℕ) (c : ℕ) (u : Tree) → reached p.grove (Some p.grove.root) way ≡ Some c → sub_reached p.grove (Some p.grove.root) way ≡ None
      → HasWiresOf p.web (keys_at p.grove c) u → HasWiresOf q.web (keys_at q.grove c) u
  wired_on way c u leads off h =
      let keys = keys_at p.grove c in
      subst (λ (ks : List ℕ). HasWiresOf q.web ks u) (sym (keys_stay p.grove q.grove path canvas key number n n' B c))
      (same_canvas p.web q.web keys u (told_same p.web q.web keys (λ i k at.
      let d = not_inside p q path canvas key number n n' B numbers way c leads off i k at in
      laid_same p.web q.web k (P.other_ports Inlets k d) (P.other_ports Outlets k d) (P.others_made k d)))
      (λ k o _. P.fans k o) (λ k i _. P.feeds k i) h)

  held_on : (t : Tree) → RunsAs p.grove t → HoldsWires p t → HoldsWires q (retyped_at path number (cell_in n') t)
  held_on t R H =
      all_held p q path canvas key number n n' B numbers (lists_fed p.web q.web P.lines P.feeds H.fed) (lists_meet p.web q.web P.fans P.feeds H.meet) P.feeds
      (λ way c u leads off h. wired_on way c u leads off h) t R H

-- all wires stay as they are
pub held_still : (p q : Patch) (path : List ℕ) (canvas key number : ℕ) (n n' : Node) → ChangesBoxAt p.grove q.grove path canvas key number n n' → q.numbers ≡ p.numbers
    → q.web ≡ p.web → (t : Tree) → RunsAs p.grove t → HoldsWires p t → HoldsWires q (retyped_at path number (cell_in n') t)
held_still p q path canvas key number n n' B numbers web t R H =
    all_held p q path canvas key number n n' B numbers (subst FedOnce (sym web) H.fed) (subst Meet (sym web) H.meet) (λ k inlet. ap (λ (w : Web). feed_hops w k inlet) web)
    (λ way c u leads off h.
    subst (λ (ks : List ℕ). HasWiresOf q.web ks u) (sym (keys_stay p.grove q.grove path canvas key number n n' B c))
    (subst (λ (w : Web). HasWiresOf w (keys_at p.grove c) u) (sym web) h)) t R H

-- names have the owners that they had, where boxes and owners stay
pub own_still : (p q : Patch) → q.names ≡ p.names → q.grove ≡ p.grove → (names : Names) (file : List ℕ) → HasOwners p names file → HasOwners q names file
own_still p q owners grove names file h class name = rw (owners, grove) (h class name)

module _ (old new : Patch) (n : Counts) (name path : List ℕ) (number : ℕ) (text : List Atom) (now : ℕ) (k after : Known) (steps steps' : ℕ) (b : RetypedBox)
    (X : RetypesBox old new n name path number text now k after steps steps' b) (Y : HasBecome old new now b.key X.node X.added b.gone.items steps steps') where
  -- the patch from which the wires went that don't fit, and the one from which those went that turn, too
  abbrev loose : Patch
  loose = Y.loose

  abbrev free : Patch
  free = mid old new n name path number text now k after steps steps' b X Y

  abbrev fitted : Patch
  fitted = Y.fitted

  abbrev new_node : Node
  new_node = is_now old new n name path number text now k after steps steps' b X Y

  boxes_same : IsSameButRoom old.grove free.grove
  boxes_same = same_boxes old new n name path number text now k after steps steps' b X Y

  -- the patch in which room was set aside, and from which nothing went yet
  abbrev ready : Patch
  ready = Y.ready

  shed : Sheds ready.web loose.web b.gone.items
  shed =
      let S = Y.sheds in
      let W = Y.room.web in
      record {
        fans = λ node outlet. S.fans node outlet ∙ ap (filter (is_left b.gone.items)) (sym (W.fans node outlet));
        feeds = λ node inlet. S.feeds node inlet ∙ ap (filter (is_left b.gone.items)) (sym (W.feeds node inlet));
      }

  abbrev forest : Forest free.grove
  forest = Y.could.can.forest

  free_held : CanPut old → (t : Tree) → HoldsWires old t → HoldsWires free t
  free_held can t H =
      let g = ready.grove in
      let S = Y.room.grove in
      let R = room_put old ready Y.room can in
      let held = room_holds old ready Y.room t H in
      let leads : sub_reached g (Some g.root) path ≡ Some b.canvas = room_subs old.grove g S path ∙ X.chosen.leads in
      let here : slice_get (keys_at g b.canvas) number ≡ Some b.key = ap (λ (ks : List ℕ). slice_get ks number) (keys_same old.grove g S b.canvas) ∙ X.chosen.at in
      let same = Y.loosens.rest.grove in
      loose_holds loose free b.key Y.between Y.freed Y.frees Y.turned Y.out Y.loosens.rewires (subst Forest Y.frees.rest.grove forest) Y.loosens.web.meet path b.canvas number
      (ap (λ (x : Grove). sub_reached x (Some x.root) path) same ∙ leads) (ap (λ (x : Grove). slice_get (keys_at x b.canvas) number) same ∙ here) t
      (loose_holds ready loose b.key steps Y.between Y.loosens b.gone.items shed R.runs R.forest held.meet path b.canvas number leads here t held)

  pub box_holds : CanPut old → (t : Tree) → RunsAs old.grove t → HoldsWires old t → HoldsWires new (retyped_at path number Y.can.cell t)
  box_holds can t R H =
      let B = fitted_there old new n name path number text now k after steps steps' b X Y in
      let same = Y.back.tightens.rest.grove in
      subst (λ (c : Cell). HoldsWires new (retyped_at path number c t)) (cell_is old new n name path number text now k after steps steps' b X Y)
      (back_holds b.key fitted (subst Forest same Y.goes_on.forest) path b.canvas number
      (sym (sub_from_root free.grove fitted.grove path b.canvas b.key number X.node new_node B path) ∙ B.leads)
      (ap (λ (ks : List ℕ). slice_get ks number) (keys_stay free.grove fitted.grove path b.canvas b.key number X.node new_node B b.canvas) ∙ B.is)
      Y.back.tightens.back new Y.back.tightens.one_by_one (retyped_at path number (cell_in new_node) t)
      (held_on free fitted path b.canvas b.key number X.node new_node B (λ side. kind_jacks side Y.seed.row.kind) (is_made Y.seed.row.kind)
      Y.refit.ports Y.refit.numbers t (room_runs old.grove free.grove boxes_same t R) (free_held can t H)))

  -- the box has the ports of its kind
  gets : GetsKind loose.web new.web b.key Y.seed.row.kind
  gets =
      let P = Y.refit.ports in
      let L = Y.frees.web.kept in
      let K = Y.back.kept in
      record {
        ports = λ side. K.ports side b.key ∙ P.ports side;
        made = K.made b.key ∙ P.made;
        other_ports = λ side k d. K.ports side k ∙ P.other_ports side k d ∙ L.ports side k;
        others_made = λ k d. K.made k ∙ P.others_made k d ∙ L.made k;
      }

  kind_is : Y.seed.row.kind ≡ Y.can.cell.kind
  kind_is = ap (λ (c : Cell). c.kind) (cell_is old new n name path number text now k after steps steps' b X Y)

  ports_kept : KeepsPorts old.web loose.web
  ports_kept =
      let a = Y.room.web.kept in
      let c = Y.loosens.web.kept in
      record { ports = λ side j. c.ports side j ∙ a.ports side j; made = λ j. c.made j ∙ a.made j; homes = λ j. c.homes j ∙ a.homes j }

  -- a wire that turns fits
  turned_fits : (j outlet i : ℕ) (h : Hop) → slice_get (fan_hops loose.web j outlet) i ≡ Some h → is_among Y.turned h.key ≡ true
      → is_fit loose.web b.key Y.seed.row.kind (line_at Outlets j outlet h) ≡ true
  turned_fits j outlet i h at e =
      subst (λ (x : Kind). is_fit loose.web b.key x (line_at Outlets j outlet h) ≡ true) (sym kind_is)
      (turned_fit old loose.web X.node.board b.key Y.can.cell.kind b.gone.items ports_kept Y.sheds Y.loosens.web.meet j outlet i h at (ap (λ (ms : List BoxWire). is_among ms h.key) (sym Y.turned_are) ∙ e))

  pub box_fits : WiresFit old → WiresFit new
  box_fits F =
      back_fit loose free new b.key Y.seed.row.kind Y.turned gets Y.frees.web.kept Y.out
      (canvas_has loose.web new.web Y.turned loose.numbers.items Y.back.restores) turned_fits Y.could.wires Y.could.meet Y.loosens.rewires
      (ap (λ (g : Grove). g.boards) Y.back.tightens.rest.grove ∙ Y.refit.grove.boards ∙ ap (λ (g : Grove). g.boards) Y.frees.rest.grove)
      (Y.back.tightens.rest.numbers ∙ Y.refit.numbers ∙ Y.frees.rest.numbers)
      (loose_fits ready loose b.key steps Y.between Y.loosens b.gone.items shed (room_fits old ready Y.room F))

  -- as many fewer as went that don't fit
  pub box_wires : wires_told new.web + length b.gone.items ≡ wires_told old.web
  box_wires =
      let a = ports_wires free fitted b.key (λ side. kind_jacks side Y.seed.row.kind) (is_made Y.seed.row.kind) Y.refit.ports in
      let c = Y.loosens.count in
      let d = room_wires old ready Y.room in
      let e = Y.frees.count in
      let f = Y.back.tightens.count in
      let g = Y.back.as_many in
      let h = Y.went in
      let i = Y.as_many in
      omega (arith, a, c, d, e, f, g, h, i)

  pub box_owners : (t : Tree) → RunsAs old.grove t → StandsAgain (answer_in k.files) name k.names t → HasOwners old k.names name → HasOwners new after.names name
  box_owners t R A h =
      let is : after.names ≡ X.added.known.names = ap (λ (x : Known). x.names) X.known_is in
      let more : HasOwners old after.names name =
      own_more (answer_in k.files) name old k.names after.names t R.stands R.shallow A (goes_on old new n name path number text now k after steps steps' b X) h in
      let again : HasOwners old X.added.known.names name = subst (λ (ns : Names). HasOwners old ns name) is more in
      let free_own : HasOwners free X.added.known.names name =
      own_still loose free Y.frees.rest.names Y.frees.rest.grove X.added.known.names name
      (own_still ready loose Y.loosens.rest.names Y.loosens.rest.grove X.added.known.names name (room_own old ready X.added.known.names name Y.room again)) in
      subst (λ (ns : Names). HasOwners new ns name) (sym is)
      (own_still fitted new Y.back.tightens.rest.names Y.back.tightens.rest.grove X.added.known.names name (Y.refit.owners name free_own))
