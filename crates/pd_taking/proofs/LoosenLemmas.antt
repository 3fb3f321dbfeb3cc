-- A patch from which wires at a box go.
use Rattle.std.proofs.Common.{◌≡◌, ℕ, suc, ◌+◌, ◌<◌, ◌≤◌, ◌==◌, Bool, true, false, cond, not, List, [], ◌∷◌, ◌++◌, length, slice_get, Option, Some, refl, sym, ap, ◌∙◌, subst, inl, inr, map, eq-eqb, length-append, arith}
use Rattle.std.specs.Prelude.{is_some, option_and_then}
use mathlib.Core.Logic.{⊎_elim}
use Rattle.std.proofs.lemmas.Bool.{cases_lt}
use Rattle.std.proofs.lemmas.List.{length-map}
use Rattle.std.proofs.lemmas.Option.{none-some, same_Some, slice_get_past}
use Rattle.slab.specs.Slab.{get}
use Rattle.pd_order.specs.Graph.{add_wire}
use Rattle.pd_grove.specs.declared.grove.Grove.{Grove}
use Rattle.pd_grove.specs.declared.ports.Side.{Side}
use Rattle.pd_grove.specs.declared.ports.Side.TheVariants.{Inlets, Outlets}
use Rattle.pd_grove.specs.Owning.{board_in}
use Rattle.pd_web.specs.declared.lines.Line.{Line}
use Rattle.pd_web.specs.declared.web.Hop.{Hop}
use Rattle.pd_web.specs.declared.web.Web.{Web}
use Rattle.pd_web.specs.declared.sockets.Port.{Port}
use Rattle.pd_web.specs.Canvases.{keys_at}
use Rattle.pd_web.specs.Sockets.{ports_at}
use Rattle.pd_web.specs.Hops.{ports_told, hop_to, hop_from, fan_under, feeds_under}
use Rattle.pd_web.specs.Changes.{line_told, without_hop, CutsWire, Meet, wires_told}
use Rattle.pd_web.proofs.CountLemmas.{cut_is_one_less}
use Rattle.pd_ports.specs.Boxes.{HasNoWires}
use Rattle.pd_patch.specs.declared.patch.Patch.{Patch}
use Rattle.pd_patch.specs.Linked.{ShareCanvas}
use Rattle.pd_patch.specs.Listing.{IsThere}
use Rattle.pd_patch.specs.Telling.{order_in}
use Rattle.pd_wiring.specs.Changes.{is_signal_line, graph_in, most_mending, CanRewire, LeadsAlong}
use Rattle.pd_wiring.specs.Plans.{Detaches, Detached, most_looks}
use Rattle.pd_wiring.proofs.PlaceLemmas.{places_none, places_on}
use Rattle.pd_wiring.proofs.WebLemmas.{line_inside}
use Rattle.pd_taking.specs.Loosening.{hops_at, line_at, AreGone, Gone, IsAt, Loosens, looks_for}
use Rattle.pd_taking.proofs.LoseLemmas.{IsWeb, cut_loses, loses_none, loses_on}

-- The wire at a port that goes.

pub at_box : (side : Side) (box port : ℕ) (h : Hop) → IsAt box (line_at side box port h)
at_box Inlets box port h = inr refl
at_box Outlets box port h = inl refl

pub leads_so : (w : Web) (side : Side) (box port : ℕ) (h : Hop) → Meet w → slice_get (hops_at w side box port) 0 ≡ Some h → LeadsAlong w h.key (line_at side box port h)
leads_so w Inlets box port h meet e = let f = meet.fanned box port 0 h e in record { place = f.0; stands = f.1 }
leads_so w Outlets box port h meet e = record { place = 0; stands = e }

pub told_so : (w : Web) (side : Side) (box port : ℕ) (h : Hop) → IsWeb w → slice_get (hops_at w side box port) 0 ≡ Some h → line_told w h.key ≡ Some (line_at side box port h)
told_so w Inlets box port h is e = is.feeds box port 0 h e
told_so w Outlets box port h is e = is.fans box port 0 h e

pub cut_at : (w v : Web) (side : Side) (box port key : ℕ) → CutsWire w v key → hops_at v side box port ≡ without_hop key (hops_at w side box port)
cut_at w v Inlets box port key C = C.feeds box port
cut_at w v Outlets box port key C = C.fans box port

not_longer : (key : ℕ) (hops : List Hop) → length (without_hop key hops) ≤ length hops
not_longer key [] = omega arith
not_longer key (x ∷ xs) = step (x.key == key) (not_longer key xs)
  where
    step : (b : Bool) → length (without_hop key xs) ≤ length xs → length (cond (not b) (x ∷ without_hop key xs) (without_hop key xs)) ≤ suc (length xs)
    step true l = omega (arith, l)
    step false l = omega (arith, l)

first_less : (hops : List Hop) (h : Hop) → slice_get hops 0 ≡ Some h → length (without_hop h.key hops) < length hops
first_less [] h e = absurd (none-some h e)
first_less (x ∷ xs) h e =
    let gone : without_hop h.key (x ∷ xs) ≡ without_hop h.key xs =
    ap (λ (b : Bool). cond (not b) (x ∷ without_hop h.key xs) (without_hop h.key xs)) (eq-eqb x.key h.key (ap (λ (y : Hop). y.key) (same_Some x h e))) in
    let same = ap length gone in
    let l = not_longer h.key xs in
    omega (arith, same, l)

pub fewer_at : (w v : Web) (side : Side) (box port : ℕ) (h : Hop) → CutsWire w v h.key → slice_get (hops_at w side box port) 0 ≡ Some h
    → length (hops_at v side box port) < length (hops_at w side box port)
fewer_at w v side box port h C e =
    let same = ap length (cut_at w v side box port h.key C) in
    let less = first_less (hops_at w side box port) h e in
    omega (arith, same, less)

-- The patch.

lies_in : (p : Patch) (c k : ℕ) → CanRewire p → IsThere (keys_at p.grove c) k → board_in (get p.grove.nodes k) ≡ Some c
lies_in p c k R t = R.own.home c t.0 k t.1

-- a wire at a box leaves a box of the same canvas
same_canvas : (p : Patch) (box key : ℕ) (l : Line) → CanRewire p → IsAt box l → LeadsAlong p.web key l → board_in (get p.grove.nodes l.source) ≡ board_in (get p.grove.nodes box)
same_canvas p box key l R at A =
    let share : ShareCanvas p.grove l.source l.sink = line_inside p.grove p.web key l R.inside A in
    ⊎_elim
    (λ (s : l.source ≡ box). ap (λ k. board_in (get p.grove.nodes k)) s)
    (λ (s : l.sink ≡ box). lies_in p share.canvas l.source R share.one ∙ sym (lies_in p share.canvas l.sink R share.other) ∙ ap (λ k. board_in (get p.grove.nodes k)) s)
    at

pub loosens_none : (p : Patch) (box looks : ℕ) → CanRewire p → Meet p.web → Loosens p p box looks looks
loosens_none p box looks R meet = record {
  gone = [];
  one_by_one = refl;
  looks = λ c lies. omega arith;
  count = omega arith;
  web = loses_none p.web box meet;
  rest = record { grove = refl; names = refl; timers = refl; numbers = refl; values = refl; rate = refl; present = refl; orders = λ c d. refl; places = λ c. places_none (order_in p.orders.items c) };
  rewires = R;
  built = λ names file rate b. b;
}

-- what taking a wire out tells
pub record TakesOut (q r : Patch) (key : ℕ) (l : Line) (steps steps' : ℕ) : Type 0 where
  pub done : Detached q r key l
  pub control : is_signal_line q.web l ≡ false → steps' ≡ steps
  pub looks : (c : ℕ) → board_in (get q.grove.nodes l.source) ≡ Some c → steps'
      ≤ steps + most_mending (add_wire (graph_in r c) l.source l.sink) l.sink (order_in q.orders.items c) (order_in r.orders.items c)

module _ (q r : Patch) (key : ℕ) (l : Line) (steps steps' : ℕ) (D : TakesOut q r key l steps steps') where
  looks_one : (c : ℕ) → board_in (get q.grove.nodes l.source) ≡ Some c → steps' ≤ steps + most_looks (Detaches c key l) q r
  looks_one c lies = step (is_signal_line q.web l) refl
    where
      most : ℕ
      most = most_mending (add_wire (graph_in r c) l.source l.sink) l.sink (order_in q.orders.items c) (order_in r.orders.items c)

      step : (b : Bool) → is_signal_line q.web l ≡ b → steps' ≤ steps + cond b most 0
      step true e = D.looks c lies
      step false e = let same = D.control e in omega (arith, same)

module _ (p q r : Patch) (box key : ℕ) (l : Line) (s s' s'' : ℕ) (L : Loosens p q box s s') (is : IsWeb q.web) (told : line_told q.web key ≡ Some l) (at : IsAt box l) (A : LeadsAlong q.web key l)
    (D : TakesOut q r key l s' s'') where
  here : (c : ℕ) → board_in (get p.grove.nodes box) ≡ Some c → board_in (get q.grove.nodes l.source) ≡ Some c
  here c lies = same_canvas q box key l L.rewires at A ∙ ap (λ (g : Grove). board_in (get g.nodes box)) L.rest.grove ∙ lies

  -- one wire more has gone
  pub loosens_more : Loosens p r box s s''
  loosens_more =
      let S = D.done.rest in
      record {
        gone = record { key = key; line = l; before = q } ∷ L.gone;
        one_by_one = (record { at = at; told = told; done = D.done }, L.one_by_one);
        looks = λ c lies.
            let a = L.looks c lies in
            let b = looks_one q r key l s' s'' D c (here c lies) in
            omega (arith, a, b);
        count =
            let a = cut_is_one_less q.web r.web key D.done.cuts (ap is_some told) in
            let b = L.count in
            omega (arith, a, b);
        web = loses_on p.web q.web r.web box L.web (cut_loses q.web r.web key box l is L.web.meet told at D.done.cuts);
        rest = record {
          grove = S.grove ∙ L.rest.grove;
          names = S.names ∙ L.rest.names;
          timers = S.timers ∙ L.rest.timers;
          numbers = S.numbers ∙ L.rest.numbers;
          values = S.values ∙ L.rest.values;
          rate = S.rate ∙ L.rest.rate;
          present = S.present ∙ L.rest.present;
          orders = λ c d. S.orders c (λ e. d (ap (λ (g : Grove). board_in (get g.nodes box)) (sym L.rest.grove) ∙ sym (same_canvas q box key l L.rewires at A) ∙ e)) ∙ L.rest.orders c d;
          places = λ c. places_on (order_in p.orders.items c) (order_in q.orders.items c) (order_in r.orders.items c) (L.rest.places c) (S.places c);
        };
        rewires = D.done.rewires;
        built = λ names file rate b. D.done.built names file rate (L.built names file rate b);
      }

-- the first wire at a port goes
module _ (p q r : Patch) (side : Side) (box port : ℕ) (h : Hop) (key : ℕ) (l : Line) (s s' s'' : ℕ) (L : Loosens p q box s s') (is : IsWeb q.web) (next : Option Hop) (at_first : next ≡ slice_get (hops_at q.web side box port) 0) (is_hop : next ≡ Some h)
    (key_is : key ≡ h.key) (line_is : l ≡ line_at side box port h) where
  first : slice_get (hops_at q.web side box port) 0 ≡ Some h
  first = sym at_first ∙ is_hop

  pub leads_first : LeadsAlong q.web key l
  leads_first =
      subst (λ m. LeadsAlong q.web key m) (sym line_is) (subst (λ k. LeadsAlong q.web k (line_at side box port h)) (sym key_is) (leads_so q.web side box port h L.web.meet first))

  pub first_more : TakesOut q r key l s' s'' → Loosens p r box s s''
  first_more D = loosens_more p q r box key l s s' s'' L is
      (ap (line_told q.web) key_is ∙ told_so q.web side box port h is first ∙ ap (λ (m : Line). Some m) (sym line_is))
      (subst (IsAt box) (sym line_is) (at_box side box port h)) leads_first D

  pub first_one_less : CutsWire q.web r.web key → wires_told r.web + 1 ≡ wires_told q.web
  first_one_less C = cut_is_one_less q.web r.web key C (ap is_some (ap (line_told q.web) key_is ∙ told_so q.web side box port h is first))

  pub first_smaller : CutsWire q.web r.web key → length (hops_at r.web side box port) < length (hops_at q.web side box port)
  first_smaller C = fewer_at q.web r.web side box port h (subst (λ k. CutsWire q.web r.web k) key_is C) first

-- One part of the wires and then another.

gone_on : (box : ℕ) (p q r : Patch) (xs ys : List Gone) → AreGone box p xs q → AreGone box q ys r → AreGone box p (ys ++ xs) r
gone_on box p q r xs [] a b = subst (AreGone box p xs) (sym b) a
gone_on box p q r xs (y ∷ ys) a b = (b.0, gone_on box p q y.before xs ys a b.1)

looks_add : (c box : ℕ) (q r : Patch) (xs ys : List Gone) → AreGone box q ys r → looks_for c (ys ++ xs) r ≡ looks_for c ys r + looks_for c xs q
looks_add c box q r xs [] b = let same = ap (looks_for c xs) b in omega (arith, same)
looks_add c box q r xs (y ∷ ys) b =
    let rest = looks_add c box q y.before xs ys b.1 in
    omega (arith, rest)

pub loosens_on : (p q r : Patch) (box s s' s'' : ℕ) → Loosens p q box s s' → Loosens q r box s' s'' → Loosens p r box s s''
loosens_on p q r box s s' s'' L M =
    let S = M.rest in
    let same : get q.grove.nodes box ≡ get p.grove.nodes box = ap (λ (g : Grove). get g.nodes box) L.rest.grove in
    record {
      gone = M.gone ++ L.gone;
      one_by_one = gone_on box p q r L.gone M.gone L.one_by_one M.one_by_one;
      looks = λ c lies.
          let a = L.looks c lies in
          let b = M.looks c (ap board_in same ∙ lies) in
          let e = looks_add c box q r L.gone M.gone M.one_by_one in
          omega (arith, a, b, e);
      count =
          let a = L.count in
          let b = M.count in
          let e = length-append M.gone L.gone in
          omega (arith, a, b, e);
      web = loses_on p.web q.web r.web box L.web M.web;
      rest = record {
        grove = S.grove ∙ L.rest.grove;
        names = S.names ∙ L.rest.names;
        timers = S.timers ∙ L.rest.timers;
        numbers = S.numbers ∙ L.rest.numbers;
        values = S.values ∙ L.rest.values;
        rate = S.rate ∙ L.rest.rate;
        present = S.present ∙ L.rest.present;
        orders = λ c d. S.orders c (λ e. d (ap board_in (sym same) ∙ e)) ∙ L.rest.orders c d;
        places = λ c. places_on (order_in p.orders.items c) (order_in q.orders.items c) (order_in r.orders.items c) (L.rest.places c) (S.places c);
      };
      rewires = M.rewires;
      built = λ names file rate b. M.built names file rate (L.built names file rate b);
    }

-- ports that a box hasn't have no wires
pub none_beyond : (w : Web) (side : Side) (box port : ℕ) → length (ports_told w side box) ≤ port → hops_at w side box port ≡ []
none_beyond w Inlets box port l =
    let a = length-map (ports_at w.sockets.items Inlets box) (λ (p : Port). p.jack) in
    ap (λ (o : Option Port). map (hop_from w) (feeds_under w.book (option_and_then (λ (p : Port). p.end) o))) (slice_get_past (ports_at w.sockets.items Inlets box) port (omega (arith, a, l)))
none_beyond w Outlets box port l =
    let a = length-map (ports_at w.sockets.items Outlets box) (λ (p : Port). p.jack) in
    ap (λ (o : Option Port). map (hop_to w) (fan_under w.book (option_and_then (λ (p : Port). p.end) o))) (slice_get_past (ports_at w.sockets.items Outlets box) port (omega (arith, a, l)))

-- no port of a side has a wire where none of the first has, and there are no more
pub none_at_all : (p q : Patch) (side : Side) (box s s' end at : ℕ) → Loosens p q box s s' → end ≡ length (ports_told p.web side box) → end ≤ at
    → ((i : ℕ) → i < at → hops_at q.web side box i ≡ []) → (i : ℕ) → hops_at q.web side box i ≡ []
none_at_all p q side box s s' end at L is l none i = ⊎_elim
    (λ (m : i < at). none i m)
    (λ (m : at ≤ i). none_beyond q.web side box i (let e = ap length (L.web.kept.ports side box) in omega (arith, e, is, l, m)))
    (cases_lt i at)

-- one port more has none
pub none_more : (q r : Patch) (side : Side) (box s s' at : ℕ) → Loosens q r box s s' → ((i : ℕ) → i < at → hops_at q.web side box i ≡ []) → hops_at r.web side box at ≡ []
    → (i : ℕ) → i < suc at → hops_at r.web side box i ≡ []
none_more q r side box s s' at L none here i l = ⊎_elim
    (λ (m : i < at). L.web.fewer side i (none i m))
    (λ (m : at ≤ i). let e : i ≡ at = omega (arith, l, m) in ap (hops_at r.web side box) e ∙ here)
    (cases_lt i at)

pub bare_then : (q r : Patch) (box s s' : ℕ) → Loosens q r box s s' → ((i : ℕ) → hops_at q.web Outlets box i ≡ []) → ((i : ℕ) → hops_at r.web Inlets box i ≡ []) → HasNoWires r.web box
bare_then q r box s s' L fans feeds = record { fans = λ outlet. L.web.fewer Outlets outlet (fans outlet); feeds = feeds }
