-- Where a box has other ports, and its wires stay or come back, what each canvas saves of them fits.
use Rattle.std.proofs.Common.{◌≡◌, ◌≢◌, ◌==◌, ℕ, suc, Bool, true, false, cond, not, List, [], ◌∷◌, ◌++◌, length, map, slice_get, slice_index_or, Option, Some, None, refl, sym, ap, ◌∙◌, subst, arith, is_some}
use Rattle.std.specs.Prelude.{option_map}
use Rattle.std.specs.List.{AllByRecursion, flat_map, range_with_len}
use mathlib.Core.Logic.{⊎_elim}
use Rattle.std.proofs.lemmas.Bool.Decides.{nat_tests}
use Rattle.std.proofs.lemmas.Bool.{cases_eq}
use Rattle.std.proofs.lemmas.Option.{slice_get-map}
use Rattle.pd_object.specs.declared.kinds.Kind.{Kind}
use Rattle.pd_canvas.specs.declared.wires.Wire.{Wire}
use Rattle.pd_tree.specs.Ports.{Sockets, fits, fits_between, is_made, joins}
use Rattle.pd_grove.specs.declared.ports.Side.{Side}
use Rattle.pd_grove.specs.declared.ports.Side.TheVariants.{Inlets, Outlets}
use Rattle.pd_web.specs.declared.jacks.Jack.{Jack}
use Rattle.pd_web.specs.declared.lines.Line.{Line}
use Rattle.pd_web.specs.declared.web.Hop.{Hop}
use Rattle.pd_web.specs.declared.web.Web.{Web}
use Rattle.pd_web.specs.Canvases.{keys_at}
use Rattle.pd_web.specs.Changes.{hop_at, line_told, wires_told, IsListed, KeepsPorts, Meet}
use Rattle.pd_web.specs.Hops.{boxes_told, fan_hops, feed_hops, jack_told, ports_told}
use Rattle.pd_web.specs.Jacks.{kind_jacks}
use Rattle.pd_web.specs.Lines.{laid_at, signals_of}
use Rattle.pd_web.specs.Sockets.{made_at}
use Rattle.pd_web.proofs.CountLemmas.{holds, held_alike}
use Rattle.pd_ports.specs.Boxes.{HasPorts}
use Rattle.pd_present.specs.Presents.{wire_along, outlet_wires, box_wires, wires_among}
use Rattle.pd_patch.specs.declared.patch.Patch.{Patch}
use Rattle.pd_wiring.specs.Changes.{CanRewire}
use Rattle.pd_taking.specs.Loosening.{line_at}
use Rattle.pd_refitting.specs.Refits.{jack_with, made_with, StaysWire, TakesWires}
use Rattle.pd_misfits.specs.declared.wires.BoxWire.{BoxWire}
use Rattle.pd_misfits.specs.Misfits.{fits_between as fits_with, is_fit}
use Rattle.pd_misfits.specs.Shedding.{is_among, is_left, Sheds}
use Rattle.pd_misfits.proofs.ListLemmas.{in_listed, listed_in, IsIn}
use Rattle.pd_misfits.proofs.ShedLemmas.{in_filter}
use Rattle.pd_reload_law.proofs.FanLemmas.{number_is}
use Rattle.pd_reload_law.proofs.SortedLemmas.{all_append}
use Rattle.pd_saved_law.specs.Fitting.{WiresFit}
use Rattle.pd_saved_law.proofs.EditLemmas.{stays_among}

-- ---- the wires that are saved

pub flat_same : {X : Type 0} (f g : ℕ → List X) (xs : List ℕ) → ((x : ℕ) → f x ≡ g x) → flat_map f xs ≡ flat_map g xs
flat_same f g [] h = refl
flat_same {X} f g (x ∷ xs) h = ap (λ (l : List X). l ++ flat_map f xs) (h x) ∙ ap (λ (l : List X). g x ++ l) (flat_same f g xs h)

-- ---- what holds of each of them

pub first_all : {X : Type 0} (P : X → Type 0) (xs ys : List X) → AllByRecursion P (xs ++ ys) → AllByRecursion P xs
first_all P [] ys h = tt
first_all P (x ∷ xs) ys h = (h.0, first_all P xs ys h.1)

pub last_all : {X : Type 0} (P : X → Type 0) (xs ys : List X) → AllByRecursion P (xs ++ ys) → AllByRecursion P ys
last_all P [] ys h = h
last_all P (x ∷ xs) ys h = last_all P xs ys h.1

map_on : {X Y : Type 0} (P Q : Y → Type 0) (f : X → Y) (xs : List X) → ((i : ℕ) (x : X) → slice_get xs i ≡ Some x → P (f x) → Q (f x))
    → AllByRecursion P (map f xs) → AllByRecursion Q (map f xs)
map_on P Q f [] on h = tt
map_on P Q f (x ∷ xs) on h = (on 0 x refl h.0, map_on P Q f xs (λ i y e. on (suc i) y e) h.1)

flat_on : {X : Type 0} (P Q : X → Type 0) (f : ℕ → List X) (xs : List ℕ) → ((i x : ℕ) → slice_get xs i ≡ Some x → AllByRecursion P (f x) → AllByRecursion Q (f x))
    → AllByRecursion P (flat_map f xs) → AllByRecursion Q (flat_map f xs)
flat_on P Q f [] on h = tt
flat_on P Q f (x ∷ xs) on h =
    all_append Q (f x) (flat_map f xs) (on 0 x refl (first_all P (f x) (flat_map f xs) h))
    (flat_on P Q f xs (λ i y e. on (suc i) y e) (last_all P (f x) (flat_map f xs) h))

saved_on : (w : Web) (numbers keys : List ℕ) (P Q : Wire → Type 0)
    → ((i k o j : ℕ) (h : Hop) → slice_get keys i ≡ Some k → slice_get (fan_hops w k o) j ≡ Some h → P (wire_along numbers k o h) → Q (wire_along numbers k o h))
    → AllByRecursion P (wires_among w numbers keys) → AllByRecursion Q (wires_among w numbers keys)
saved_on w numbers keys P Q on =
    flat_on P Q (box_wires w numbers) keys (λ i k at.
    flat_on P Q (outlet_wires w numbers k) (range_with_len 0 (length (ports_told w Outlets k))) (λ _ o _.
    map_on P Q (wire_along numbers k o) (fan_hops w k o) (λ j h is. on i k o j h at is)))

-- ---- wires between the ports of two boxes

abbrev joined : Web → ℕ → ℕ → ℕ → ℕ → Bool
joined w k o n i = joins (made_at w.sockets.items n) (slice_get (signals_of (ports_told w Outlets k)) o) (slice_get (signals_of (ports_told w Inlets n)) i)

fits_as : (w : Web) (keys : List ℕ) (v : Wire) (k n : ℕ) → slice_get keys v.source ≡ Some k → slice_get keys v.sink ≡ Some n
    → fits (boxes_told w keys) v ≡ joined w k v.outlet n v.inlet
fits_as w keys v k n from to =
    let f = laid_at w.sockets.items in
    ap (λ (o : Option Sockets). fits_between o (slice_get (boxes_told w keys) v.sink) v) (slice_get-map f keys v.source ∙ ap (option_map f) from)
    ∙ ap (λ (o : Option Sockets). fits_between (Some (f k)) o v) (slice_get-map f keys v.sink ∙ ap (option_map f) to)

is_same : (a b : ℕ) → a ≡ b → (a == b) ≡ true
is_same a b e = grind (arith, nat_tests)

is_other : (a b : ℕ) → a ≢ b → (a == b) ≡ false
is_other a b d = grind (arith, nat_tests)

-- the box of the key has the ports of this kind, and every other box its own
pub record GetsKind (w v : Web) (key : ℕ) (kind : Kind) : Type 0 where
  pub ports : (side : Side) → ports_told v side key ≡ kind_jacks side kind
  pub made : made_at v.sockets.items key ≡ is_made kind
  pub other_ports : (side : Side) (k : ℕ) → k ≢ key → ports_told v side k ≡ ports_told w side k
  pub others_made : (k : ℕ) → k ≢ key → made_at v.sockets.items k ≡ made_at w.sockets.items k

module _ (w v : Web) (key : ℕ) (kind : Kind) (H : GetsKind w v key kind) where
  jack_now : (side : Side) (node port : ℕ) → jack_told v side node port ≡ jack_with w key kind side node port
  jack_now side node port = ⊎_elim
      (λ (e : node ≡ key).
      ap (λ (ports : List Jack). slice_get ports port) (ap (ports_told v side) e ∙ H.ports side)
      ∙ sym (ap (λ (b : Bool). cond b (slice_get (kind_jacks side kind) port) (jack_told w side node port)) (is_same node key e)))
      (λ (d : node ≢ key).
      ap (λ (ports : List Jack). slice_get ports port) (H.other_ports side node d)
      ∙ sym (ap (λ (b : Bool). cond b (slice_get (kind_jacks side kind) port) (jack_told w side node port)) (is_other node key d)))
      (cases_eq node key)

  made_now : (node : ℕ) → made_at v.sockets.items node ≡ made_with w key kind node
  made_now node = ⊎_elim
      (λ (e : node ≡ key).
      ap (made_at v.sockets.items) e ∙ H.made ∙ sym (ap (λ (b : Bool). cond b (is_made kind) (made_at w.sockets.items node)) (is_same node key e)))
      (λ (d : node ≢ key). H.others_made node d ∙ sym (ap (λ (b : Bool). cond b (is_made kind) (made_at w.sockets.items node)) (is_other node key d)))
      (cases_eq node key)

  signal_now : (side : Side) (node port : ℕ) (j : Jack) → jack_with w key kind side node port ≡ Some j → slice_get (signals_of (ports_told v side node)) port ≡ Some j.is_signal
  signal_now side node port j e =
      slice_get-map (λ (x : Jack). x.is_signal) (ports_told v side node) port ∙ ap (option_map (λ (x : Jack). x.is_signal)) (jack_now side node port ∙ e)

  stays_joined : (l : Line) → StaysWire w key kind l → joined v l.source l.outlet l.sink l.inlet ≡ true
  stays_joined l S =
      ap (λ (m : Bool). joins m (slice_get (signals_of (ports_told v Outlets l.source)) l.outlet) (slice_get (signals_of (ports_told v Inlets l.sink)) l.inlet))
      (made_now l.sink)
      ∙ ap (λ (o : Option Bool). joins (made_with w key kind l.sink) o (slice_get (signals_of (ports_told v Inlets l.sink)) l.inlet))
      (signal_now Outlets l.source l.outlet S.from S.source)
      ∙ ap (joins (made_with w key kind l.sink) (Some S.from.is_signal)) (signal_now Inlets l.sink l.inlet S.to S.sink) ∙ ap not S.fits

  fits_joined : (l : Line) → is_fit w key kind l ≡ true → joined v l.source l.outlet l.sink l.inlet ≡ true
  fits_joined l e = by (jack_with w key kind Outlets l.source l.outlet) (jack_with w key kind Inlets l.sink l.inlet) refl refl e
    where
      by : (a b : Option Jack) → jack_with w key kind Outlets l.source l.outlet ≡ a → jack_with w key kind Inlets l.sink l.inlet ≡ b → fits_with a b (made_with w key kind l.sink) ≡ true
          → joined v l.source l.outlet l.sink l.inlet ≡ true
      by None b s t f = cc
      by (Some from) None s t f = cc
      by (Some from) (Some to) s t f =
          ap (λ (m : Bool). joins m (slice_get (signals_of (ports_told v Outlets l.source)) l.outlet) (slice_get (signals_of (ports_told v Inlets l.sink)) l.inlet)) (made_now l.sink)
          ∙ ap (λ (o : Option Bool). joins (made_with w key kind l.sink) o (slice_get (signals_of (ports_told v Inlets l.sink)) l.inlet)) (signal_now Outlets l.source l.outlet from s)
          ∙ ap (joins (made_with w key kind l.sink) (Some from.is_signal)) (signal_now Inlets l.sink l.inlet to t) ∙ f

  others_joined : (k o n i : ℕ) → k ≢ key → n ≢ key → joined v k o n i ≡ joined w k o n i
  others_joined k o n i d a =
      ap (λ (m : Bool). joins m (slice_get (signals_of (ports_told v Outlets k)) o) (slice_get (signals_of (ports_told v Inlets n)) i)) (H.others_made n a)
      ∙ ap (λ (js : List Jack). joins (made_at w.sockets.items n) (slice_get (signals_of js) o) (slice_get (signals_of (ports_told v Inlets n)) i)) (H.other_ports Outlets k d)
      ∙ ap (λ (js : List Jack). joins (made_at w.sockets.items n) (slice_get (signals_of (ports_told w Outlets k)) o) (slice_get (signals_of js) i)) (H.other_ports Inlets n a)

-- the box has the ports of this kind where the wires of a list are out, and where they came back
module _ (w u v : Web) (key : ℕ) (kind : Kind) (ms : List BoxWire) (H : GetsKind w v key kind) (K : KeepsPorts w u) (S : Sheds w u ms) where
  gets_too : GetsKind u v key kind
  gets_too = record {
    ports = H.ports;
    made = H.made;
    other_ports = λ side k d. H.other_ports side k d ∙ sym (K.ports side k);
    others_made = λ k d. H.others_made k d ∙ sym (K.made k);
  }

  -- a wire that fits still does: one that is out fits the box then, another one at the box stays as it can, and elsewhere it is as before
  joined_still : ((k o j : ℕ) (h : Hop) → slice_get (fan_hops w k o) j ≡ Some h → is_among ms h.key ≡ true → is_fit w key kind (line_at Outlets k o h) ≡ true) → TakesWires u key kind → Meet u
      → (k o j : ℕ) (h : Hop) → slice_get (fan_hops w k o) j ≡ Some h → joined w k o h.node h.port ≡ true → joined v k o h.node h.port ≡ true
  joined_still out T M k o j h at fit = by (is_among ms h.key) refl
    where
      stays : (l : Line) → StaysWire u key kind l → joined v l.source l.outlet l.sink l.inlet ≡ true
      stays l s = stays_joined u v key kind gets_too l s

      left : (i : ℕ) → slice_get (fan_hops u k o) i ≡ Some h → joined v k o h.node h.port ≡ true
      left i is = ⊎_elim
          (λ (e : k ≡ key).
          let here : slice_get (fan_hops u key o) i ≡ Some h = subst (λ x. slice_get (fan_hops u x o) i ≡ Some h) e is in
          subst (λ x. joined v x o h.node h.port ≡ true) (sym e) (stays (record { source = key; outlet = o; sink = h.node; inlet = h.port }) (T Outlets o i h here)))
          (λ (d : k ≢ key). ⊎_elim
          (λ (e : h.node ≡ key).
          let f : IsListed (feed_hops u h.node h.port) (hop_at h.key k o) = M.fed k o i h is in
          let into : slice_get (feed_hops u key h.port) f.0 ≡ Some (hop_at h.key k o) = subst (λ x. slice_get (feed_hops u x h.port) f.0 ≡ Some (hop_at h.key k o)) e f.1 in
          subst (λ x. joined v k o x h.port ≡ true) (sym e) (stays (record { source = k; outlet = o; sink = key; inlet = h.port }) (T Inlets h.port f.0 (hop_at h.key k o) into)))
          (λ (a : h.node ≢ key). others_joined w v key kind H k o h.node h.port d a ∙ fit)
          (cases_eq h.node key))
          (cases_eq k key)

      by : (b : Bool) → is_among ms h.key ≡ b → joined v k o h.node h.port ≡ true
      by true e = fits_joined w v key kind H (line_at Outlets k o h) (out k o j h at e)
      by false e =
          let stands = in_filter (is_left ms) (fan_hops w k o) h (in_listed h (fan_hops w k o) j at) (ap not e) in
          let l = listed_in h (fan_hops u k o) (subst (λ (hs : List Hop). IsIn h hs) (sym (S.fans k o)) stands) in
          left l.0 l.1

-- ---- patches

-- each canvas saves the wires that it saved
module _ (p u q : Patch) (key : ℕ) (kind : Kind) (ms : List BoxWire) (H : GetsKind p.web q.web key kind) (K : KeepsPorts p.web u.web) (S : Sheds p.web u.web ms)
    (saved : (keys : List ℕ) → wires_among q.web p.numbers.items keys ≡ wires_among p.web p.numbers.items keys) where
  abbrev Fit : Web → List ℕ → List Wire → Type 0
  Fit w keys ws = AllByRecursion (λ x. fits (boxes_told w keys) x ≡ true) ws

  module _ (out : (k o j : ℕ) (h : Hop) → slice_get (fan_hops p.web k o) j ≡ Some h → is_among ms h.key ≡ true → is_fit p.web key kind (line_at Outlets k o h) ≡ true)
      (T : TakesWires u.web key kind) (M : Meet u.web) (r : CanRewire p) where
    canvas_fits : (c : ℕ) → Fit p.web (keys_at p.grove c) (wires_among p.web p.numbers.items (keys_at p.grove c)) → Fit q.web (keys_at p.grove c) (wires_among q.web p.numbers.items (keys_at p.grove c))
    canvas_fits c F =
        let keys = keys_at p.grove c in
        let numbers = p.numbers.items in
        subst (Fit q.web keys) (sym (saved keys))
        (saved_on p.web numbers keys (λ x. fits (boxes_told p.web keys) x ≡ true) (λ x. fits (boxes_told q.web keys) x ≡ true) (λ i k o j h at is fit.
        let other = stays_among p c r k o j h (i, at) is in
        let from : slice_get keys (wire_along numbers k o h).source ≡ Some k = ap (slice_get keys) (number_is numbers k i (r.numbers c i k at)) ∙ at in
        let to : slice_get keys (wire_along numbers k o h).sink ≡ Some h.node =
        ap (slice_get keys) (number_is numbers h.node other.0 (r.numbers c other.0 h.node other.1)) ∙ other.1 in
        fits_as q.web keys (wire_along numbers k o h) k h.node from to
        ∙ joined_still p.web u.web q.web key kind ms H K S out T M k o j h is (sym (fits_as p.web keys (wire_along numbers k o h) k h.node from to) ∙ fit)) F)

    pub back_fit : q.grove.boards ≡ p.grove.boards → q.numbers ≡ p.numbers → WiresFit p → WiresFit q
    back_fit boards numbers F = record { all = λ c. rw (numbers, boards) (canvas_fits c (F.all c)) }

-- no wire comes or goes
module _ (p q : Patch) (key : ℕ) (jacks : Side → List Jack) (is_made : Bool) (H : HasPorts p.web q.web key jacks is_made) where
  mapped_some : {X Y : Type 0} (f : X → Y) (o : Option X) → is_some (option_map f o) ≡ is_some o
  mapped_some f None = refl
  mapped_some f (Some x) = refl

  told_holds : (w : Web) (k : ℕ) → is_some (line_told w k) ≡ holds w.book.wires k
  told_holds w k = mapped_some _ (slice_index_or w.book.wires k None)

  pub ports_wires : wires_told q.web ≡ wires_told p.web
  ports_wires = held_alike p.web.book.wires q.web.book.wires (λ j. sym (told_holds q.web j) ∙ ap (λ (o : Option Line). is_some o) (H.lines j) ∙ told_holds p.web j)
