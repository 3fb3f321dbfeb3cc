-- A box at another place, the wires inside abstractions, and what a save writes of boxes.
use Rattle.std.proofs.Common.{◌≡◌, ◌≢◌, ℕ, zero, suc, ℤ, Bool, true, false, cond, List, [], ◌∷◌, Option, Some, None, IfSome, inl, inr, refl, sym, ap, ◌∙◌, subst}
use Rattle.std.specs.Prelude.{option_map, option_and_then}
use Rattle.std.specs.Option.{option_map_or}
use Rattle.std.proofs.lemmas.Option.{none-some, same_Some}
use mathlib.Core.Logic.{⊎_elim}
use Rattle.std.proofs.lemmas.Bool.{cases_eq}
use Rattle.slab.specs.Slab.{Slab, get}
use Rattle.pd_atom.specs.Names.{Names}
use Rattle.pd_object.specs.declared.kinds.Kind.{Kind}
use Rattle.pd_kind.specs.declared.states.State.{State}
use Rattle.pd_tree.specs.Trees.{Trees, Done, Leaf, Holder, Tree}
use Rattle.pd_grove.specs.declared.nodes.Node.{Node}
use Rattle.pd_grove.specs.declared.boards.Board.{Board}
use Rattle.pd_grove.specs.declared.grove.Grove.{Grove}
use Rattle.pd_grove.specs.OwnPaths.{sub_reached, sub_in_box, sub_along}
use Rattle.pd_grove.specs.Places.{CanvasStands, LeadsTo, canvas_in_box, canvas_along}
use Rattle.pd_grove.specs.Refits.{at_place, Alters}
use Rattle.pd_grove.specs.Standing.{GroveStands}
use Rattle.pd_grove.specs.TextOrder.{is_sub}
use Rattle.pd_grove.specs.Telling.{kind_in, state_in}
use Rattle.pd_grove.proofs.SubLemmas.{sub_path_leads}
use Rattle.pd_web.specs.declared.web.Web.{Web}
use Rattle.pd_web.specs.Canvases.{keys_at}
use Rattle.pd_web.specs.Changes.{wires_told, Meet}
use Rattle.pd_web.proofs.CountLemmas.{same_are_as_many}
use Rattle.pd_hearing.specs.Worlds.{states_of}
use Rattle.pd_patch.specs.declared.patch.Patch.{Patch}
use Rattle.pd_boxes.specs.Put.{CanPut}
use Rattle.pd_saved_law.specs.Fitting.{WiresFit}
use Rattle.pd_saved_law.proofs.FitLemmas.{room_fits}
use Rattle.pd_alike_law.specs.Feeds.{FedOnce}
use Rattle.pd_inside_law.specs.Inside.{HasWiresOf, HoldsWires, LeadsInside}
use Rattle.pd_inside_law.proofs.HoldLemmas.{room_holds}
use Rattle.pd_reload_law.specs.Reloading.{RunsAs}
use Rattle.pd_contents_law.specs.Contents.{HasContents, HaveContents, count_of, counts_of}
use Rattle.pd_proper_law.specs.Saves.{kinds_of, is_written, form_of, IsWritten}
use Rattle.pd_putting_law.specs.Puts.{change_inside}
use Rattle.pd_putting_law.proofs.PathLemmas.{Forest}
use Rattle.pd_adding.specs.Coming.{own_zero, zero_in}
use Rattle.pd_shifting.specs.declared.shifting.MovedBox.{MovedBox}
use Rattle.pd_shifting.specs.Moves.{Shifts, ShiftsBox, ShiftsPort, MovesBox}
use Rattle.pd_shifting.proofs.MoveLemmas.{is_moving}
use Rattle.pd_shifted_law.specs.Shifts.{boxes_shifted, shifted_at}
use Rattle.pd_shifted_law.proofs.EitherLemmas.{box_alters}
use Rattle.pd_shifted_law.proofs.OwnerLemmas.{told_as}
use Rattle.pd_shifted_law.proofs.PathLemmas.{from_root, keys_same, number_same, sub_from_root}
use Rattle.pd_shifted_law.proofs.AroundLemmas.{port_around, port_stands}
use Rattle.pd_shift_law.proofs.SlideLemmas.{slid_fed, slid_fit, slid_inside, slid_order}

-- ---- canvases of a tree to which paths lead through abstractions

same_inside : (i n : ℕ) (x y : ℤ) (t : Trees) → canvas_in_box i (boxes_shifted n x y t) ≡ canvas_in_box i t
same_inside i n x y Done = refl
same_inside zero zero x y (Leaf c rest) = refl
same_inside (suc i) zero x y (Leaf c rest) = refl
same_inside zero (suc n) x y (Leaf c rest) = refl
same_inside (suc i) (suc n) x y (Leaf c rest) = same_inside i n x y rest
same_inside zero zero x y (Holder c s inner rest) = refl
same_inside (suc i) zero x y (Holder c s inner rest) = refl
same_inside zero (suc n) x y (Holder c s inner rest) = refl
same_inside (suc i) (suc n) x y (Holder c s inner rest) = same_inside i n x y rest

changed_beside : (i m : ℕ) (f : Tree → Tree) (t : Trees) → i ≢ m → canvas_in_box i (change_inside m f t) ≡ canvas_in_box i t
changed_beside i m f Done d = refl
changed_beside zero zero f (Leaf c rest) d = absurd (d refl)
changed_beside (suc i) zero f (Leaf c rest) d = refl
changed_beside zero (suc m) f (Leaf c rest) d = refl
changed_beside (suc i) (suc m) f (Leaf c rest) d = changed_beside i m f rest (λ e. d (ap suc e))
changed_beside zero zero f (Holder c s inner rest) d = absurd (d refl)
changed_beside (suc i) zero f (Holder c s inner rest) d = refl
changed_beside zero (suc m) f (Holder c s inner rest) d = refl
changed_beside (suc i) (suc m) f (Holder c s inner rest) d = changed_beside i m f rest (λ e. d (ap suc e))

changed_here : (m : ℕ) (f : Tree → Tree) (t : Trees) → canvas_in_box m (change_inside m f t) ≡ option_map f (canvas_in_box m t)
changed_here m f Done = refl
changed_here zero f (Leaf c rest) = refl
changed_here zero f (Holder c s inner rest) = refl
changed_here (suc m) f (Leaf c rest) = changed_here m f rest
changed_here (suc m) f (Holder c s inner rest) = changed_here m f rest

-- the canvas in a subpatch is the one in that box
sub_canvas : (m : ℕ) (t : Trees) (w : Tree) → sub_in_box m t ≡ Some w → canvas_in_box m t ≡ Some w
sub_canvas m Done w e = absurd (none-some w e)
sub_canvas zero (Leaf c rest) w e = absurd (none-some w e)
sub_canvas zero (Holder c s inner rest) w e = by (is_sub c.head.form) e
  where
    by : (b : Bool) → cond b (Some (record { sheet = s; boxes = inner })) None ≡ Some w → Some (record { sheet = s; boxes = inner }) ≡ Some w
    by true e = e
    by false e = absurd (none-some w e)
sub_canvas (suc m) (Leaf c rest) w e = sub_canvas m rest w e
sub_canvas (suc m) (Holder c s inner rest) w e = sub_canvas m rest w e

-- the subpatch through which a path goes on
record StepsIn (m : ℕ) (path : List ℕ) (t v : Tree) : Type 0 where
  inner : Tree
  is : sub_in_box m t.boxes ≡ Some inner
  on : sub_along path inner ≡ Some v

steps : (m : ℕ) (path : List ℕ) (t v : Tree) → sub_along (m ∷ path) t ≡ Some v → StepsIn m path t v
steps m path t v e = by (sub_in_box m t.boxes) refl e
  where
    by : (o : Option Tree) → sub_in_box m t.boxes ≡ o → option_and_then (sub_along path) o ≡ Some v → StepsIn m path t v
    by None at e = absurd (none-some v e)
    by (Some w) at e = record { inner = w; is = at; on = e }

-- a canvas inside an abstraction is the same
inside_same : (path way : List ℕ) (n : ℕ) (x y : ℤ) (t v : Tree) → sub_along path t ≡ Some v → sub_along way t ≡ None
    → canvas_along way (shifted_at path n x y t) ≡ canvas_along way t
inside_same path [] n x y t v own off = absurd (none-some t (sym off))
inside_same [] (i ∷ way) n x y t v own off = ap (option_and_then (canvas_along way)) (same_inside i n x y t.boxes)
inside_same (m ∷ path) (i ∷ way) n x y t v own off = ⊎_elim
    (λ (same : i ≡ m).
    let s = steps m path t v own in
    let f : Tree → Tree = shifted_at path n x y in
    let is : canvas_in_box m t.boxes ≡ Some s.inner = sub_canvas m t.boxes s.inner s.is in
    let further : sub_along way s.inner ≡ None =
    sym (ap (option_and_then (sub_along way)) (ap (λ (j : ℕ). sub_in_box j t.boxes) same ∙ s.is)) ∙ off in
    ap (λ (j : ℕ). option_and_then (canvas_along way) (canvas_in_box j (change_inside m f t.boxes))) same
    ∙ ap (option_and_then (canvas_along way)) (changed_here m f t.boxes ∙ ap (option_map f) is)
    ∙ inside_same path way n x y s.inner v s.on further
    ∙ sym (ap (option_and_then (canvas_along way)) (ap (λ (j : ℕ). canvas_in_box j t.boxes) same ∙ is)))
    (λ (d : i ≢ m). ap (option_and_then (canvas_along way)) (changed_beside i m (shifted_at path n x y) t.boxes d))
    (cases_eq i m)

-- ---- what a save writes of boxes

kind_placed : (x y : ℤ) (o : Option Node) → kind_in (option_map (at_place x y) o) ≡ kind_in o
kind_placed x y None = refl
kind_placed x y (Some n) = refl

state_placed : (x y : ℤ) (o : Option Node) → state_in (option_map (at_place x y) o) ≡ state_in o
state_placed x y None = refl
state_placed x y (Some n) = refl

abbrev written_in : Option Node → Option Bool
written_in o = option_map (λ (n : Node). is_written (form_of n)) o

written_placed : (x y : ℤ) (o : Option Node) → written_in (option_map (at_place x y) o) ≡ written_in o
written_placed x y None = refl
written_placed x y (Some n) = refl

module _ (g h : Grove) (key : ℕ) (x y : ℤ) (A : Alters g h key (at_place x y)) where
  was_written : (k : ℕ) → IsWritten h k → IsWritten g k
  was_written k w = record {
    own = record {
      path = w.own.path;
      canvas = w.own.canvas;
      place = w.own.place;
      leads = sub_from_root g h key x y A w.own.path ∙ w.own.leads;
      at = number_same g h key x y A w.own.canvas w.own.place k w.own.at;
    };
    form = by (get g.nodes k) (get h.nodes k) (told_as g h key x y A written_in (written_placed x y) k) w.form;
  }
    where
      by : (a b : Option Node) → written_in b ≡ written_in a → IfSome b (λ n. is_written (form_of n) ≡ true) → IfSome a (λ n. is_written (form_of n) ≡ true)
      by None b e i = tt
      by (Some n) None e i = absurd (none-some (is_written (form_of n)) e)
      by (Some n) (Some m) e i = sym (same_Some (is_written (form_of m)) (is_written (form_of n)) e) ∙ i

-- ---- a patch

none_along : (g : Grove) (key : Option ℕ) (o : Option Tree) → LeadsTo g key o → key ≡ None → o ≡ None
none_along g key None L e = refl
none_along g key (Some u) L e = absurd (none-some L.0 (sym e ∙ L.1))

some_along : (g : Grove) (key : Option ℕ) (o : Option Tree) (c : ℕ) → LeadsTo g key o → key ≡ Some c → (u : Tree) × (o ≡ Some u)
some_along g key None c L e = absurd (none-some c (sym L ∙ e))
some_along g key (Some u) c L e = (u, refl)

module _ (g h : Grove) (canvas key number : ℕ) (x y : ℤ) (path : List ℕ) (A : Alters g h key (at_place x y)) (leads : sub_reached g (Some g.root) path ≡ Some canvas) (t : Tree)
    (G : GroveStands g t.sheet t.boxes) where
  stands : CanvasStands g g.root t
  stands = record { holder = None; depth = 0; keys = G.keys; board = G.root; stands = G.stands }

  was_off : (way : List ℕ) → sub_reached h (Some h.root) way ≡ None → sub_reached g (Some g.root) way ≡ None
  was_off way off = sub_from_root g h key x y A way ∙ off

  -- a canvas inside an abstraction was there, and is as it was
  was_inside : (way : List ℕ) (c : ℕ) (u : Tree) → LeadsInside h (shifted_at path number x y t) way c u → LeadsInside g t way c u
  was_inside way c u l =
      let own = some_along g (sub_reached g (Some g.root) path) (sub_along path t) canvas (sub_path_leads g path g.root t stands) leads in
      let same = inside_same path way number x y t own.0 own.1
      (none_along g (sub_reached g (Some g.root) way) (sub_along way t) (sub_path_leads g way g.root t stands) (was_off way l.inside)) in
      record { here = record { key = from_root g h key x y A way ∙ l.here.key; canvas = sym same ∙ l.here.canvas }; inside = was_off way l.inside }

module _ (p q : Patch) (path : List ℕ) (number : ℕ) (x y : ℤ) (b : MovedBox) (M : MovesBox p q path number x y b) where
  abbrev alters : Alters p.grove q.grove b.key (at_place x y)
  alters = box_alters p q b.canvas b.key x y M.shifts

  plain_holds : Shifts p q b.canvas b.key x y → (t : Tree) → RunsAs p.grove t → HoldsWires p t → HoldsWires q (shifted_at path number x y t)
  plain_holds s t R H =
      let g = p.grove in
      let h = q.grove in
      let at = is_moving g number (sub_reached g (Some g.root) path) b.canvas b.key M.is in
      record {
        fed = subst FedOnce (sym s.rest.web) H.fed;
        meet = subst Meet (sym s.rest.web) H.meet;
        inside = record {
          all = λ way c u l.
              subst (λ (w : Web). HasWiresOf w (keys_at h c) u) (sym s.rest.web)
              (subst (λ (ks : List ℕ). HasWiresOf p.web ks u) (sym (keys_same g h b.key x y alters c))
              (H.inside.all way c u (was_inside g h b.canvas b.key number x y path alters at.leads t R.stands way c u l)));
        };
        order = λ way c l.
            let O = H.order way c (sub_from_root g h b.key x y alters way ∙ l) in
            record { all = λ i k inlet is. rw (s.rest.web, s.rest.numbers) (O.all i k inlet (number_same g h b.key x y alters c i k is)) };
      }

  port_holds : ShiftsPort p q b.canvas b.key x y → CanPut p → (t : Tree) → RunsAs p.grove t → HoldsWires p t → HoldsWires q (shifted_at path number x y t)
  port_holds s C t R H =
      let g = p.grove in
      let h = q.grove in
      let at = is_moving g number (sub_reached g (Some g.root) path) b.canvas b.key M.is in
      let r = port_around p q path b.canvas b.key number x y C.forest at.leads at.is s in
      let stood = port_stands p q path b.canvas b.key number x y C.forest at.leads at.is s in
      let K = room_holds p s.ready t s.room H in
      record {
        fed = slid_fed s.ready q b.key s.holder s.side x y s.from s.to s.could s.slid r.way r.number stood;
        meet = s.slid.meet;
        inside = record {
          all = λ way c u l.
              slid_inside s.ready q b.key s.holder s.side x y s.from s.to s.could s.slid r.way r.number stood way c u l.here.key l.inside
              (K.inside.all way c u (subst (λ (z : Grove). LeadsInside z t way c u) (sym s.room.grove) (was_inside g h b.canvas b.key number x y path alters at.leads t R.stands way c u l)));
        };
        order = λ way c l.
            slid_order s.ready q b.key s.holder s.side x y s.from s.to s.could s.slid r.way r.number stood c
            (K.order way c (ap (λ (z : Grove). sub_reached z (Some z.root) way) s.room.grove ∙ sub_from_root g h b.key x y alters way ∙ l));
      }

  holds_by : ShiftsBox p q b.canvas b.key x y → CanPut p → (t : Tree) → RunsAs p.grove t → HoldsWires p t → HoldsWires q (shifted_at path number x y t)
  holds_by (inl s) C t R H = plain_holds s t R H
  holds_by (inr s) C t R H = port_holds s C t R H

  pub still_holds : CanPut p → (t : Tree) → RunsAs p.grove t → HoldsWires p t → HoldsWires q (shifted_at path number x y t)
  still_holds C t R H = holds_by M.shifts C t R H

  fits_by : ShiftsBox p q b.canvas b.key x y → WiresFit p → WiresFit q
  fits_by (inl s) F = record { all = λ canvas. rw (s.rest.web, s.rest.numbers, s.box.boards) (F.all canvas) }
  fits_by (inr s) F =
      let g = p.grove in
      let at = is_moving g number (sub_reached g (Some g.root) path) b.canvas b.key M.is in
      let forest = subst (λ (z : Grove). Forest z) s.room.grove s.could.can.forest in
      let r = port_around p q path b.canvas b.key number x y forest at.leads at.is s in
      slid_fit s.ready q b.key s.holder s.side x y s.from s.to s.could s.slid r.way r.number (port_stands p q path b.canvas b.key number x y forest at.leads at.is s) (room_fits p s.ready s.room F)

  pub still_fit : WiresFit p → WiresFit q
  still_fit F = fits_by M.shifts F

  meets_by : ShiftsBox p q b.canvas b.key x y → Meet p.web → Meet q.web
  meets_by (inl s) m = subst Meet (sym s.rest.web) m
  meets_by (inr s) m = s.slid.meet

  pub still_meet : Meet p.web → Meet q.web
  still_meet m = meets_by M.shifts m

  wires_by : ShiftsBox p q b.canvas b.key x y → wires_told q.web ≡ wires_told p.web
  wires_by (inl s) = ap wires_told s.rest.web
  wires_by (inr s) = s.slid.wires ∙ same_are_as_many p.web s.ready.web s.room.web

  pub as_many_wires : wires_told q.web ≡ wires_told p.web
  as_many_wires = wires_by M.shifts

  pub same_zero : own_zero q ≡ own_zero p
  same_zero = ap (λ (z : Slab Board). zero_in (get z q.grove.root)) alters.boards ∙ ap (λ (r : ℕ). zero_in (get p.grove.boards r)) alters.root

  pub still_written : (names : Names) → HaveContents (IsWritten p.grove) (counts_of (kinds_of p)) names (states_of p)
      → HaveContents (IsWritten q.grove) (counts_of (kinds_of q)) names (states_of q)
  still_written names H k w =
      let g = p.grove in
      let h = q.grove in
      let kinds : kind_in (get g.nodes k) ≡ kind_in (get h.nodes k) = sym (told_as g h b.key x y alters kind_in (kind_placed x y) k) in
      let states : state_in (get g.nodes k) ≡ state_in (get h.nodes k) = sym (told_as g h b.key x y alters state_in (state_placed x y) k) in
      subst (λ (o : Option State). IfSome o (HasContents (option_map_or count_of (kind_in (get h.nodes k)) 0) names)) states
      (subst (λ (o : Option Kind). IfSome (state_in (get g.nodes k)) (HasContents (option_map_or count_of o 0) names)) kinds
      (H k (was_written g h b.key x y alters k w)))
