-- Wires that fit, at first and after edits.
use Rattle.std.proofs.Common.{◌≡◌, ◌≢◌, ℕ, suc, Bool, true, false, cond, ◌==◌, ◌&&◌, List, [], ◌∷◌, ◌++◌, map, filter, slice_get, Option, Some, None, Result, Ok, Err, refl, sym, ap, ◌∙◌, subst, arith}
use Rattle.std.specs.Prelude.{nat_lt, length, not}
use Rattle.std.specs.List.{AllByRecursion, flat_map, range_with_len}
use Rattle.std.proofs.lemmas.Bool.Decides.{nat_tests}
use Rattle.slab.specs.Slab.{get}
use Rattle.pd_canvas.specs.declared.edits.Edit.{Edit}
use Rattle.pd_canvas.specs.declared.edits.Edit.TheVariants as edit
use Rattle.pd_canvas.specs.declared.wires.Wire.{Wire}
use Rattle.pd_canvas.specs.Wiring.{with_wire, fan_out}
use Rattle.pd_canvas.proofs.SortLemmas.{all_with}
use Rattle.pd_tree.specs.Ports.{Sockets, fits}
use Rattle.pd_grove.specs.declared.grove.Grove.{Grove}
use Rattle.pd_grove.specs.declared.ports.Side.{Side}
use Rattle.pd_grove.specs.declared.ports.Side.TheVariants.{Inlets, Outlets}
use Rattle.pd_grove.specs.Owning.{AreOwn}
use Rattle.pd_web.specs.declared.jacks.Jack.{Jack}
use Rattle.pd_web.specs.declared.lines.Line.{Line}
use Rattle.pd_web.specs.declared.web.Hop.{Hop}
use Rattle.pd_web.specs.declared.web.Web.{Web}
use Rattle.pd_web.specs.Canvases.{keys_at, sink_place}
use Rattle.pd_web.specs.Changes.{KeepsPorts}
use Rattle.pd_web.specs.Hops.{boxes_told, fan_hops, ports_told, places_of}
use Rattle.pd_web.specs.Jacks.{jacks_at, made_in}
use Rattle.pd_web.specs.Lines.{seen_by, seen_at, laid_at, boxes_in, wires_in}
use Rattle.pd_web.specs.Sockets.{made_at}
use Rattle.pd_web.proofs.NumberLemmas.{fed_by_number}
use Rattle.pd_present.specs.Presents.{wire_along, outlet_wires, box_wires, wires_among}
use Rattle.pd_patch.specs.declared.patch.Patch.{Patch}
use Rattle.pd_patch.specs.Grown.{AreLaid}
use Rattle.pd_patch.specs.Numbers.{AreUnder}
use Rattle.pd_patch.proofs.WiredLemmas.{own_canvas}
use Rattle.pd_wiring.specs.declared.asking.WireRefusal.{WireRefusal}
use Rattle.pd_wiring.specs.Asking.{line_fitting, line_between, line_by_keys, line_asked}
use Rattle.pd_wiring.specs.Changes.{CanRewire, SameButRoom}
use Rattle.pd_wiring.specs.Plans.{Plan, Attached, Detached, connecting, attaching, planned, IsCarriedOut, IsRewired}
use Rattle.pd_reload_law.proofs.FollowLemmas.{join_follows, join_elsewhere}
use Rattle.pd_reload_law.proofs.LaidLemmas.{back, along_back, backs, passes, fitting_joins}
use Rattle.pd_reload_law.proofs.SortedLemmas.{by_test, all_on, all_append}
use Rattle.pd_saved_law.specs.Fitting.{WiresFit}
use Rattle.pd_saved_law.proofs.EditLemmas.{never_plan, never_line, cond_line, IsLine, comes, goes, wire_same, elsewhere}

-- ---- lists

all_flat : {X : Type 0} (P : X → Type 0) (f : ℕ → List X) (xs : List ℕ) → ((i x : ℕ) → slice_get xs i ≡ Some x → AllByRecursion P (f x)) → AllByRecursion P (flat_map f xs)
all_flat P f [] h = tt
all_flat P f (x ∷ xs) h = all_append P (f x) (flat_map f xs) (h 0 x refl) (all_flat P f xs (λ i y e. h (suc i) y e))

all_filter : {X : Type 0} (P : X → Type 0) (p : X → Bool) (xs : List X) → AllByRecursion P xs → AllByRecursion P (filter p xs)
all_filter P p [] h = tt
all_filter P p (x ∷ xs) h = step (p x) h.0 (all_filter P p xs h.1)
  where
    step : (b : Bool) → P x → AllByRecursion P (filter p xs) → AllByRecursion P (cond b (x ∷ filter p xs) (filter p xs))
    step true k m = (k, m)
    step false k m = m

-- what holds of the wires of each outlet holds of all that are saved
all_saved : (w : Web) (numbers keys : List ℕ) (P : Wire → Type 0) → ((i k o : ℕ) → slice_get keys i ≡ Some k → AllByRecursion P (outlet_wires w numbers k o))
    → AllByRecursion P (wires_among w numbers keys)
all_saved w numbers keys P h =
    all_flat P (box_wires w numbers) keys (λ i k e.
    all_flat P (outlet_wires w numbers k) (range_with_len 0 (length (ports_told w Outlets k))) (λ j o f. h i k o e))

-- ---- at first

pub boxes_seen : (g : Grove) (w : Web) (keys : List ℕ) → ((side : Side) (k : ℕ) → ports_told w side k ≡ jacks_at side g k) → ((k : ℕ) → made_at w.sockets.items k ≡ made_in (get g.nodes k))
    → map (laid_at w.sockets.items) keys ≡ map (seen_at g) keys
boxes_seen g w [] ports made = refl
boxes_seen g w (k ∷ ks) ports made =
    ap (λ (x : Sockets). x ∷ map (laid_at w.sockets.items) ks) (one k) ∙ ap (λ (l : List Sockets). seen_at g k ∷ l) (boxes_seen g w ks ports made)
  where
    one : (k : ℕ) → laid_at w.sockets.items k ≡ seen_at g k
    one k =
        ap (λ (x : List Jack). seen_by x (ports_told w Outlets k) (made_at w.sockets.items k)) (ports Inlets k)
        ∙ ap (λ (x : List Jack). seen_by (jacks_at Inlets g k) x (made_at w.sockets.items k)) (ports Outlets k)
        ∙ ap (seen_by (jacks_at Inlets g k) (jacks_at Outlets g k)) (made k)

pub fresh_fit : (p : Patch) → AreLaid p.grove p.web → AreOwn (get p.grove.nodes) (get p.grove.boards) → ((c : ℕ) → AreUnder p.numbers.items (keys_at p.grove c)) → WiresFit p
fresh_fit p laid own n = record {
  all = λ c.
      let g = p.grove in
      let w = p.web in
      let keys = keys_at g c in
      let test = fits (boxes_told w keys) in
      let ws = wires_in (get g.boards c) in
      let same : boxes_told w keys ≡ boxes_in g c = boxes_seen g w keys laid.ports laid.made in
      all_saved w p.numbers.items keys (λ v. test v ≡ true) (λ i k o e.
      let fans : places_of (fan_hops w k o) ≡ map (sink_place keys) (fan_out i o (filter test ws)) =
      laid.fans k o ∙ fed_by_number g c i o k (own_canvas g c own) e
      ∙ ap (λ (x : List Sockets). map (sink_place keys) (fan_out i o (filter (fits x) ws))) (sym same) in
      let is : outlet_wires w p.numbers.items k o ≡ fan_out i o (filter test ws) =
      along_back p.numbers.items k o (fan_hops w k o) ∙ ap (map (back p.numbers.items k o)) fans
      ∙ backs p.numbers.items keys i k o (filter test ws) (n c) e (all_on (λ v. test v ≡ true) _ (filter test ws) (fitting_joins w keys) (passes test ws)) in
      subst (AllByRecursion (λ v. test v ≡ true)) (sym is) (all_filter (λ v. test v ≡ true) (λ (v : Wire). v.source == i && v.outlet == o) (filter test ws) (passes test ws)));
}

-- ---- after an edit

told_same : (w w2 : Web) (keys : List ℕ) → KeepsPorts w w2 → boxes_told w2 keys ≡ boxes_told w keys
told_same w w2 [] k = refl
told_same w w2 (x ∷ keys) k =
    ap (λ (y : Sockets). y ∷ boxes_told w2 keys) one ∙ ap (λ (l : List Sockets). laid_at w.sockets.items x ∷ l) (told_same w w2 keys k)
  where
    one : laid_at w2.sockets.items x ≡ laid_at w.sockets.items x
    one =
        ap (λ (y : List Jack). seen_by y (ports_told w2 Outlets x) (made_at w2.sockets.items x)) (k.ports Inlets x)
        ∙ ap (λ (y : List Jack). seen_by (ports_told w Inlets x) y (made_at w2.sockets.items x)) (k.ports Outlets x)
        ∙ ap (seen_by (ports_told w Inlets x) (ports_told w Outlets x)) (k.made x)

fitting_is : (b : Bool) (l m : Line) → line_fitting b l ≡ Ok m → b ≡ true
fitting_is true l m e = refl
fitting_is false l m e = absurd (never_line _ m e)

between_fits : (w : Web) (v : Wire) (b : Bool) (k j : ℕ) (l : Line) → line_between w v b k j ≡ Ok l → b ≡ true
between_fits w v b k j l e =
    fitting_is b (record { source = k; outlet = v.outlet; sink = j; inlet = v.inlet }) l
    (cond_line (nat_lt v.inlet (length (ports_told w Inlets j))) _ _ l (cond_line (nat_lt v.outlet (length (ports_told w Outlets k))) _ _ l e))

line_fits : (w : Web) (v : Wire) (b : Bool) (s t : Option ℕ) (l : Line) → line_by_keys w v b s t ≡ Ok l → b ≡ true
line_fits w v b None t l e = absurd (never_line _ l e)
line_fits w v b (Some k) None l e = absurd (never_line _ l e)
line_fits w v b (Some k) (Some j) l e = between_fits w v b k j l e

attaching_fits : (p : Patch) (v : Wire) (c : ℕ) (r : Result Line WireRefusal) (plan : Plan) → line_asked p.grove p.web c v ≡ r → attaching p.web c r ≡ Ok plan
    → fits (boxes_told p.web (keys_at p.grove c)) v ≡ true
attaching_fits p v c (Err why) plan f e = absurd (never_plan _ plan e)
attaching_fits p v c (Ok l) plan f e =
    line_fits p.web v (fits (boxes_told p.web (keys_at p.grove c)) v) (slice_get (keys_at p.grove c) v.source) (slice_get (keys_at p.grove c) v.sink) l f

connecting_fits : (p : Patch) (v : Wire) (here : Option ℕ) (c : ℕ) (plan : Plan) → connecting p v here ≡ Ok plan → here ≡ Some c
    → fits (boxes_told p.web (keys_at p.grove c)) v ≡ true
connecting_fits p v None c plan e at = absurd (never_plan _ plan e)
connecting_fits p v (Some d) c plan e at =
    subst (λ x. fits (boxes_told p.web (keys_at p.grove x)) v ≡ true) (same_some d c at) (attaching_fits p v d (line_asked p.grove p.web d v) plan refl e)
  where
    same_some : (a b : ℕ) → Some a ≡ Some b → a ≡ b
    same_some a b e = cc

-- the canvas of the edit, and any other
pub same_or : {P : Type 0} (c d : ℕ) → (d ≡ c → P) → (d ≢ c → P) → P
same_or c d f g = by_test (d == c) (λ t. f (yes d c t)) (λ t. g (no d c t))
  where
    yes : (a b : ℕ) → (a == b) ≡ true → a ≡ b
    yes a b t = grind (arith, nat_tests)

    no : (a b : ℕ) → (a == b) ≡ false → a ≢ b
    no a b t e = grind (arith, nat_tests)

abbrev Fit : Web → List ℕ → List ℕ → Type 0
Fit w numbers keys = AllByRecursion (λ v. fits (boxes_told w keys) v ≡ true) (wires_among w numbers keys)

fit_by : (w w2 : Web) (numbers keys : List ℕ) (ws : List Wire) → KeepsPorts w w2 → wires_among w2 numbers keys ≡ ws → AllByRecursion (λ v. fits (boxes_told w keys) v ≡ true) ws
    → Fit w2 numbers keys
fit_by w w2 numbers keys ws k e h =
    subst (λ (x : List Sockets). AllByRecursion (λ v. fits x v ≡ true) (wires_among w2 numbers keys)) (sym (told_same w w2 keys k))
    (subst (AllByRecursion (λ v. fits (boxes_told w keys) v ≡ true)) (sym e) h)

fit_patch : (p q : Patch) → q.grove ≡ p.grove → q.numbers ≡ p.numbers → ((c : ℕ) → Fit q.web p.numbers.items (keys_at p.grove c)) → WiresFit q
fit_patch p q g n h = record {
  all = λ c. subst (λ (x : Grove). Fit q.web q.numbers.items (keys_at x c)) (sym g) (subst (λ (x : _). Fit q.web x.items (keys_at p.grove c)) (sym n) (h c));
}

attached_fit : (p q : Patch) (v : Wire) (c : ℕ) (l : Line) → CanRewire p → WiresFit p → IsLine p.grove c v l → fits (boxes_told p.web (keys_at p.grove c)) v ≡ true
    → Attached p q l → WiresFit q
attached_fit p q v c l r h i fit a =
    fit_patch p q a.rest.grove a.rest.numbers (λ d. same_or c d
    (λ is. subst (λ x. Fit q.web p.numbers.items (keys_at p.grove x)) (sym is)
    (fit_by p.web q.web p.numbers.items (keys_at p.grove c) (with_wire v (wires_among p.web p.numbers.items (keys_at p.grove c))) a.joins.kept
    (join_follows p.web q.web p.numbers.items (keys_at p.grove c) a.key l a.place v.source (r.numbers c) i.source a.joins
    ∙ ap (λ x. with_wire x (wires_among p.web p.numbers.items (keys_at p.grove c))) (wire_same p c v l r i))
    (all_with (λ x. fits (boxes_told p.web (keys_at p.grove c)) x ≡ true) v (wires_among p.web p.numbers.items (keys_at p.grove c)) fit (h.all c))))
    (λ apart. fit_by p.web q.web p.numbers.items (keys_at p.grove d) (wires_among p.web p.numbers.items (keys_at p.grove d)) a.joins.kept
    (join_elsewhere p.web q.web p.numbers.items (keys_at p.grove d) a.key l _ a.place (r.numbers d) (elsewhere p c d v.source l.source r apart i.source) a.joins) (h.all d)))

-- what holds of each wire that is saved holds of those that are left of them
first_all : {X : Type 0} (P : X → Type 0) (xs ys : List X) → AllByRecursion P (xs ++ ys) → AllByRecursion P xs
first_all P [] ys h = tt
first_all P (x ∷ xs) ys h = (h.0, first_all P xs ys h.1)

last_all : {X : Type 0} (P : X → Type 0) (xs ys : List X) → AllByRecursion P (xs ++ ys) → AllByRecursion P ys
last_all P [] ys h = h
last_all P (x ∷ xs) ys h = last_all P xs ys h.1

flat_on : {X : Type 0} (P : X → Type 0) (f g : ℕ → List X) → ((x : ℕ) → AllByRecursion P (f x) → AllByRecursion P (g x)) → (xs : List ℕ) → AllByRecursion P (flat_map f xs) → AllByRecursion P (flat_map g xs)
flat_on P f g k [] h = tt
flat_on P f g k (x ∷ xs) h = all_append P (g x) (flat_map g xs) (k x (first_all P (f x) (flat_map f xs) h)) (flat_on P f g k xs (last_all P (f x) (flat_map f xs) h))

some_left : {X Y : Type 0} (P : Y → Type 0) (f : X → Y) (p : X → Bool) (xs : List X) → AllByRecursion P (map f xs) → AllByRecursion P (map f (filter p xs))
some_left P f p [] h = tt
some_left P f p (x ∷ xs) h = step (p x) h.0 (some_left P f p xs h.1)
  where
    step : (b : Bool) → P (f x) → AllByRecursion P (map f (filter p xs)) → AllByRecursion P (map f (cond b (x ∷ filter p xs) (filter p xs)))
    step true k m = (k, m)
    step false k m = m

left_saved : (w w2 : Web) (numbers keys : List ℕ) (P : Wire → Type 0) → KeepsPorts w w2 → ((k o : ℕ) → AllByRecursion P (outlet_wires w numbers k o) → AllByRecursion P (outlet_wires w2 numbers k o))
    → AllByRecursion P (wires_among w numbers keys) → AllByRecursion P (wires_among w2 numbers keys)
left_saved w w2 numbers keys P kept less h =
    flat_on P (box_wires w numbers) (box_wires w2 numbers) (λ k a.
    subst (λ (ports : List Jack). AllByRecursion P (flat_map (outlet_wires w2 numbers k) (range_with_len 0 (length ports)))) (sym (kept.ports Outlets k))
    (flat_on P (outlet_wires w numbers k) (outlet_wires w2 numbers k) (λ o b. less k o b) (range_with_len 0 (length (ports_told w Outlets k))) a)) keys h

abbrev Fitting : Web → List ℕ → Wire → Type 0
Fitting w keys v = fits (boxes_told w keys) v ≡ true

left_fit : (w w2 : Web) (numbers keys : List ℕ) → KeepsPorts w w2
    → ((k o : ℕ) → AllByRecursion (Fitting w keys) (outlet_wires w numbers k o) → AllByRecursion (Fitting w keys) (outlet_wires w2 numbers k o)) → Fit w numbers keys → Fit w2 numbers keys
left_fit w w2 numbers keys kept less h =
    subst (λ (x : List Sockets). AllByRecursion (λ v. fits x v ≡ true) (wires_among w2 numbers keys)) (sym (told_same w w2 keys kept))
    (left_saved w w2 numbers keys (Fitting w keys) kept less h)

cut_fit : (p q : Patch) (key : ℕ) (l : Line) → WiresFit p → Detached p q key l → WiresFit q
cut_fit p q key l f a =
    fit_patch p q a.rest.grove a.rest.numbers (λ c.
    let keys = keys_at p.grove c in
    left_fit p.web q.web p.numbers.items keys a.cuts.kept (λ k o h.
    subst (λ (hops : List Hop). AllByRecursion (Fitting p.web keys) (map (wire_along p.numbers.items k o) hops)) (sym (a.cuts.fans k o))
    (some_left (Fitting p.web keys) (wire_along p.numbers.items k o) (λ (h : Hop). not (h.key == key)) (fan_hops p.web k o) h)) (f.all c))

pub room_fits : (p q : Patch) → SameButRoom p q → WiresFit p → WiresFit q
room_fits p q s f =
    fit_patch p q s.grove s.numbers (λ c.
    let keys = keys_at p.grove c in
    left_fit p.web q.web p.numbers.items keys s.web.kept (λ k o h.
    subst (λ (hops : List Hop). AllByRecursion (Fitting p.web keys) (map (wire_along p.numbers.items k o) hops)) (sym (s.web.fans k o)) h) (f.all c))

fit_edit : (p q : Patch) (path : List ℕ) (e : Edit) (plan : Plan) → CanRewire p → WiresFit p → planned p path e ≡ Ok plan → IsCarriedOut plan p q → WiresFit q
fit_edit p q path (edit.Connect v) plan r f e done =
    let h = comes p v _ plan e in
    attached_fit p q v h.canvas h.line r f h.is (connecting_fits p v _ h.canvas plan e h.at) (subst (λ x. IsCarriedOut x p q) h.plan_is done)
fit_edit p q path (edit.Disconnect v) plan r f e done =
    let h = goes p v _ plan e in
    cut_fit p q h.key h.line f (subst (λ x. IsCarriedOut x p q) h.plan_is done)
fit_edit p q path e plan r f h done = absurd (never_plan _ plan h)

pub edits_fit : (p q : Patch) (path : List ℕ) (e : Edit) (canvas : ℕ) → CanRewire p → WiresFit p → IsRewired p q path e canvas → WiresFit q
edits_fit p q path e canvas r f x = fit_edit p q path e x.plan r f x.is_planned x.done

-- wires that all fit
pub all_fit : (p : Wire → Bool) (ws : List Wire) → AllByRecursion (λ v. p v ≡ true) ws → filter p ws ≡ ws
all_fit p [] h = refl
all_fit p (w ∷ ws) h = step (p w) h.0 (all_fit p ws h.1)
  where
    step : (b : Bool) → b ≡ true → filter p ws ≡ ws → cond b (w ∷ filter p ws) (filter p ws) ≡ w ∷ ws
    step true t k = ap (λ (l : List Wire). w ∷ l) k
    step false t k = cc
