-- The wires of canvases that came, canvas by canvas.
use Rattle.std.proofs.Common.{◌≡◌, ◌≢◌, ℕ, zero, suc, ◌+◌, ◌==◌, ◌&&◌, ◌||◌, Bool, true, false, cond, List, [], ◌∷◌, ◌++◌, append-nil, map, filter, length, Option, Some, None, IsTrue, nat_eq, refl, sym, ap, ◌∙◌, subst, inl, inr, eqb-true, eq-eqb, arith}
use Rattle.std.specs.Prelude.{slice_get, slice_index_or, option_and_then, ◌⊎◌}
use Rattle.std.specs.List.{flat_map}
use mathlib.Core.Logic.{⊎_elim}
use Rattle.std.proofs.lemmas.Bool.{cases_eq, false≢true, or_cases}
use Rattle.std.proofs.lemmas.Option.{none-some, same_Some}
use Rattle.slab.specs.Slab.{get}
use Rattle.pd_canvas.specs.declared.wires.Wire.{Wire}
use Rattle.pd_order.proofs.Basics.{other_test}
use Rattle.pd_tree.specs.Ports.{Sockets as Seen, fits, fits_between}
use Rattle.pd_wire.specs.Book.{Book}
use Rattle.pd_grove.specs.declared.grove.Grove.{Grove}
use Rattle.pd_grove.specs.declared.ports.Side.{Side}
use Rattle.pd_grove.specs.declared.ports.Side.TheVariants.{Inlets, Outlets}
use Rattle.pd_grove.specs.Owning.{AreOwn, board_in}
use Rattle.pd_grove.specs.Telling.{inner_in, keys_in}
use Rattle.pd_owning.specs.Bound.{is_among, AreNew}
use Rattle.pd_web.specs.declared.jacks.Jack.{Jack}
use Rattle.pd_web.specs.declared.lines.Line.{Line}
use Rattle.pd_web.specs.declared.sockets.Port.{Port}
use Rattle.pd_web.specs.declared.web.Web.{Web}
use Rattle.pd_web.specs.Canvases.{keys_at}
use Rattle.pd_web.specs.Hops.{fan_hops, feed_hops, fan_under, feeds_under, hop_to, hop_from, ports_told}
use Rattle.pd_web.specs.Lines.{boxes_in, fed_from, feeding, line_of, lines_at, lines_by, seen_at, wires_in}
use Rattle.pd_web.specs.Sockets.{end_under, port_at, ports_at}
use Rattle.pd_patch.specs.Numbers.{IsOut}
use Rattle.pd_instances.specs.Part.{lines_held, lines_inside, lines_of}
use Rattle.pd_instances.proofs.LayLemmas.{fed_append, feeding_append}
use Rattle.pd_instances.proofs.WireLemmas.{both_there, key_there}

-- A box that has no ports has no wires.

no_items : {A B : Type 0} (f : A → B) (xs : List A) → map f xs ≡ [] → xs ≡ []
no_items f [] e = refl
no_items f (x ∷ xs) e = let l : suc (length (map f xs)) ≡ 0 = ap length e in absurd (omega (arith, l))

pub no_fans : (w : Web) (k o : ℕ) → ports_told w Outlets k ≡ [] → fan_hops w k o ≡ []
no_fans w k o e =
    let none : ports_at w.sockets.items Outlets k ≡ [] = no_items (λ (p : Port). p.jack) (ports_at w.sockets.items Outlets k) e in
    ap (λ (ps : List Port). map (hop_to w) (fan_under w.book (option_and_then (λ (p : Port). p.end) (slice_get ps o)))) none

pub no_feeds : (w : Web) (k i : ℕ) → ports_told w Inlets k ≡ [] → feed_hops w k i ≡ []
no_feeds w k i e =
    let none : ports_at w.sockets.items Inlets k ≡ [] = no_items (λ (p : Port). p.jack) (ports_at w.sockets.items Inlets k) e in
    ap (λ (ps : List Port). map (hop_from w) (feeds_under w.book (option_and_then (λ (p : Port). p.end) (slice_get ps i)))) none

-- The lines of a canvas lead between its boxes.

module _ (boxes : List Seen) (f : ℕ → Seen) (keys : List ℕ) (is : boxes ≡ map f keys) (v : Wire) (t : fits boxes v ≡ true) where
  from_there : slice_get keys v.source ≡ Some (slice_index_or keys v.source 0)
  from_there =
      let A = both_there (slice_get boxes v.source) (slice_get boxes v.sink) v t in
      key_there f keys v.source A.from (ap (λ bs. slice_get bs v.source) (sym is) ∙ A.source)

  to_there : slice_get keys v.sink ≡ Some (slice_index_or keys v.sink 0)
  to_there =
      let A = both_there (slice_get boxes v.source) (slice_get boxes v.sink) v t in
      key_there f keys v.sink A.to (ap (λ bs. slice_get bs v.sink) (sym is) ∙ A.sink)

no_pick : (h : Line → ℕ × ℕ) (p : Line → Bool) (boxes : List Seen) (keys : List ℕ) (ws : List Wire) → ((v : Wire) → fits boxes v ≡ true → p (line_of keys v) ≡ false)
    → map h (filter p (lines_by boxes keys ws)) ≡ []
no_pick h p boxes keys [] none = refl
no_pick h p boxes keys (v ∷ ws) none = by (fits boxes v) refl (no_pick h p boxes keys ws none)
  where
    by : (b : Bool) → fits boxes v ≡ b → map h (filter p (lines_by boxes keys ws)) ≡ [] → map h (filter p (map (line_of keys) (cond b (v ∷ filter (fits boxes) ws) (filter (fits boxes) ws)))) ≡ []
    by true e rest = ap (λ b. map h (cond b (line_of keys v ∷ filter p (lines_by boxes keys ws)) (filter p (lines_by boxes keys ws)))) (none v e) ∙ rest
    by false e rest = rest

module _ (g : Grove) (c k : ℕ) (out : IsOut (keys_at g c) k) where
  pub fed_out : (o : ℕ) → fed_from k o (lines_at g c) ≡ []
  fed_out o = no_pick (λ (l : Line). (l.sink, l.inlet)) (λ (l : Line). l.source == k && l.outlet == o) (boxes_in g c) (keys_at g c) (wires_in (get g.boards c))
      (λ v t. ap (λ b. b && v.outlet == o) (other_test (line_of (keys_at g c) v).source k
      (λ e. out v.source (from_there (boxes_in g c) (seen_at g) (keys_at g c) refl v t ∙ ap (λ x. Some x) e))))

  pub feeding_out : (i : ℕ) → feeding k i (lines_at g c) ≡ []
  feeding_out i = no_pick (λ (l : Line). (l.source, l.outlet)) (λ (l : Line). l.sink == k && l.inlet == i) (boxes_in g c) (keys_at g c) (wires_in (get g.boards c))
      (λ v t. ap (λ b. b && v.inlet == i) (other_test (line_of (keys_at g c) v).sink k
      (λ e. out v.sink (to_there (boxes_in g c) (seen_at g) (keys_at g c) refl v t ∙ ap (λ x. Some x) e))))

-- The lines of all canvases that boxes hold.

pub among_next : (x : ℕ) (xs : List ℕ) (y : ℕ) → IsTrue (is_among xs y) → IsTrue (is_among (x ∷ xs) y)
among_next x xs y t = ap (λ b. nat_eq y x || b) t ∙ or_right (nat_eq y x)
  where
    or_right : (b : Bool) → (b || true) ≡ true
    or_right true = refl
    or_right false = refl

pub among_first : (x : ℕ) (xs : List ℕ) → IsTrue (is_among (x ∷ xs) x)
among_first x xs = ap (λ b. b || is_among xs x) (eq-eqb x x refl)

module _ (g : Grove) (F : List Line → List (ℕ × ℕ)) (none : F [] ≡ []) (append : (xs ys : List Line) → F (xs ++ ys) ≡ F xs ++ F ys) where
  held_none : (o : Option ℕ) → ((d : ℕ) → o ≡ Some d → F (lines_at g d) ≡ []) → F (lines_held g o) ≡ []
  held_none None h = none
  held_none (Some d) h = h d refl

  -- where the canvas of none of these boxes has a line
  pub all_out : (ks : List ℕ) → ((x d : ℕ) → IsTrue (is_among ks x) → inner_in (get g.nodes x) ≡ Some d → F (lines_at g d) ≡ []) → F (lines_of g ks) ≡ []
  all_out [] h = none
  all_out (x ∷ ks) h =
      append (lines_inside g x) (lines_of g ks)
      ∙ ap (λ ps. ps ++ F (lines_of g ks)) (held_none (inner_in (get g.nodes x)) (λ d e. h x d (among_first x ks) e))
      ∙ all_out ks (λ y d t e. h y d (among_next x ks y t) e)

  -- where only that of one of them has, which stands there once
  pub only_one : (ks : List ℕ) (x c : ℕ) → AreNew ks [] → IsTrue (is_among ks x) → inner_in (get g.nodes x) ≡ Some c
      → ((y d : ℕ) → y ≢ x → IsTrue (is_among ks y) → inner_in (get g.nodes y) ≡ Some d → F (lines_at g d) ≡ []) → F (lines_of g ks) ≡ F (lines_at g c)
  only_one [] x c N t e h = absurd (false≢true t)
  only_one (y ∷ ks) x c N t e h = ⊎_elim
      (λ (s : y ≡ x).
      append (lines_inside g y) (lines_of g ks)
      ∙ ap (λ ls. F ls ++ F (lines_of g ks)) (ap (λ z. lines_held g (inner_in (get g.nodes z))) s ∙ ap (lines_held g) e)
      ∙ ap (λ ps. F (lines_at g c) ++ ps) (all_out ks (λ z d u q. h z d (λ same. false≢true (sym N.0 ∙ again z (same ∙ sym s) u)) (among_next y ks z u) q))
      ∙ append-nil (F (lines_at g c)))
      (λ (f : y ≢ x).
      append (lines_inside g y) (lines_of g ks)
      ∙ ap (λ ps. ps ++ F (lines_of g ks)) (held_none (inner_in (get g.nodes y)) (λ d q. h y d f (among_first y ks) q))
      ∙ only_one ks x c N.1 (later f) e (λ z d differ u q. h z d differ (among_next y ks z u) q))
      (cases_eq y x)
    where
      again : (z : ℕ) → z ≡ y → IsTrue (is_among ks z) → is_among (ks ++ []) y ≡ true
      again z same u = ap (λ zs. is_among zs y) (append-nil ks) ∙ ap (is_among ks) (sym same) ∙ u

      by : y ≢ x → (nat_eq x y ≡ true) ⊎ (is_among ks x ≡ true) → IsTrue (is_among ks x)
      by f (inl q) = absurd (f (sym (eqb-true x y q)))
      by f (inr q) = q

      later : y ≢ x → IsTrue (is_among ks x)
      later f = by f (or_cases (nat_eq x y) (is_among ks x) t)

pub fed_all : (g : Grove) (ks : List ℕ) (k o x c : ℕ) → AreNew ks [] → IsTrue (is_among ks x) → inner_in (get g.nodes x) ≡ Some c
    → ((y d : ℕ) → y ≢ x → IsTrue (is_among ks y) → inner_in (get g.nodes y) ≡ Some d → IsOut (keys_at g d) k) → fed_from k o (lines_of g ks) ≡ fed_from k o (lines_at g c)
fed_all g ks k o x c N t e h = only_one g (fed_from k o) refl (fed_append k o) ks x c N t e (λ y d differ u q. fed_out g d k (h y d differ u q) o)

pub feeding_all : (g : Grove) (ks : List ℕ) (k i x c : ℕ) → AreNew ks [] → IsTrue (is_among ks x) → inner_in (get g.nodes x) ≡ Some c
    → ((y d : ℕ) → y ≢ x → IsTrue (is_among ks y) → inner_in (get g.nodes y) ≡ Some d → IsOut (keys_at g d) k) → feeding k i (lines_of g ks) ≡ feeding k i (lines_at g c)
feeding_all g ks k i x c N t e h = only_one g (feeding k i) refl (feeding_append k i) ks x c N t e (λ y d differ u q. feeding_out g d k (h y d differ u q) i)

pub fed_none : (g : Grove) (ks : List ℕ) (k o : ℕ) → ((x d : ℕ) → IsTrue (is_among ks x) → inner_in (get g.nodes x) ≡ Some d → IsOut (keys_at g d) k) → fed_from k o (lines_of g ks) ≡ []
fed_none g ks k o h = all_out g (fed_from k o) refl (fed_append k o) ks (λ x d t e. fed_out g d k (h x d t e) o)

pub feeding_none : (g : Grove) (ks : List ℕ) (k i : ℕ) → ((x d : ℕ) → IsTrue (is_among ks x) → inner_in (get g.nodes x) ≡ Some d → IsOut (keys_at g d) k) → feeding k i (lines_of g ks) ≡ []
feeding_none g ks k i h = all_out g (feeding k i) refl (feeding_append k i) ks (λ x d t e. feeding_out g d k (h x d t e) i)
