-- The wires of a canvas that has come, one after the other.
use Rattle.std.proofs.Common.{◌≡◌, ◌≢◌, ℕ, zero, suc, ◌+◌, ◌*◌, ◌<◌, ◌≤◌, Bool, true, false, cond, List, [], ◌∷◌, ◌++◌, map, filter, length, take, drop, get_or, Some, None, refl, sym, ap, ◌∙◌, subst, arith}
use Rattle.std.specs.Prelude.{slice_get}
use Rattle.std.proofs.lemmas.List.{drop_more, take_more, length-map, map-append}
use Rattle.std.proofs.lemmas.List.Elements.{filter-append}
use Rattle.slab.specs.Slab.{get}
use Rattle.pd_canvas.specs.declared.wires.Wire.{Wire}
use Rattle.pd_links.specs.declared.links.Links.{Links}
use Rattle.pd_links.specs.Linked.{TakesOne}
use Rattle.pd_tree.specs.Ports.{Sockets as Seen, fits}
use Rattle.pd_grove.specs.declared.grove.Grove.{Grove}
use Rattle.pd_web.specs.declared.lines.Line.{Line}
use Rattle.pd_web.specs.declared.web.Web.{Web}
use Rattle.pd_web.specs.Canvases.{keys_at}
use Rattle.pd_web.specs.Changes.{HasRoom, Joins}
use Rattle.pd_web.specs.Hops.{boxes_told, fan_keys, feed_keys}
use Rattle.pd_web.specs.Jacks.{made_in}
use Rattle.pd_web.specs.Lines.{IsRoute, boxes_in, line_of, lines_by}
use Rattle.pd_web.specs.Sockets.{made_at}
use Rattle.pd_patch.specs.Numbers.{IsOut}
use Rattle.pd_wiring.specs.Changes.{is_signal_line}
use Rattle.pd_wiring.specs.Graphs.{AreWired}
use Rattle.pd_instances.specs.Lay.{KeepsRow, LaysLines, LinksOne, TakesWires}
use Rattle.pd_instances.proofs.LayLemmas.{none_laid, one_laid, more_laid}
use Rattle.pd_instances.proofs.WireLemmas.{boxes_same, line_fitting, no_line, route, row_kept, row_same, row_still, sink_key, source_key, takes_first, takes_less, takes_one, takes_rest, wired_more}

-- The wire of the loop.

abbrev pub no_wire : Wire
no_wire = record { source = 0; outlet = 0; sink = 0; inlet = 0 }

-- One wire.

module _ (g : Grove) (w : Web) (l : Links) (c : ℕ) (v : Wire) (W : AreWired g w l) (made : (k : ℕ) → made_at w.sockets.items k ≡ made_in (get g.nodes k)) where
  seen_so : fits (boxes_told w (keys_at g c)) v ≡ fits (boxes_in g c) v
  seen_so = ap (λ bs. fits bs v) (boxes_same g w l c W made)

  pub lays_none : fits (boxes_told w (keys_at g c)) v ≡ false → LaysLines w w (lines_by (boxes_in g c) (keys_at g c) (v ∷ []))
  lays_none f = subst (λ ls. LaysLines w w ls) (sym (no_line (boxes_in g c) (keys_at g c) v (sym seen_so ∙ f))) (none_laid w)

  module _ (line : Line) (is : line ≡ line_of (keys_at g c) v) (t : fits (boxes_told w (keys_at g c)) v ≡ true) where
    pub line_lies : IsRoute w.sockets.items line
    line_lies = subst (λ x. IsRoute w.sockets.items x) (sym is) (route w (keys_at g c) v t)

    pub line_takes : (ws : List Wire) → TakesWires l (keys_at g c) (v ∷ ws) → TakesOne l line.source line.sink
    line_takes ws T =
        subst (λ x. TakesOne l x.source x.sink) (sym is)
        (takes_one l (keys_at g c) v ws (line_of (keys_at g c) v).source (line_of (keys_at g c) v).sink T (source_key w (keys_at g c) v t) (sink_key w (keys_at g c) v t))

    source_there : slice_get (keys_at g c) v.source ≡ Some line.source
    source_there = source_key w (keys_at g c) v t ∙ ap (λ (x : Line). Some x.source) (sym is)

    sink_there : slice_get (keys_at g c) v.sink ≡ Some line.sink
    sink_there = sink_key w (keys_at g c) v t ∙ ap (λ (x : Line). Some x.sink) (sym is)

    module _ (w' : Web) (l' : Links) (J : (key : ℕ) × Joins w w' key line (length (fan_keys w line.source line.outlet)) (length (feed_keys w line.sink line.inlet)))
        (signal : is_signal_line w line ≡ true → LinksOne l l' line.source line.sink) (control : is_signal_line w line ≡ false → l' ≡ l) where
      pub lays_one : LaysLines w w' (lines_by (boxes_in g c) (keys_at g c) (v ∷ []))
      lays_one =
          subst (λ ls. LaysLines w w' ls) (ap (λ x. x ∷ []) is ∙ sym (line_fitting (boxes_in g c) (keys_at g c) v (sym seen_so ∙ t)))
          (one_laid w w' line J.0 J.1)

      pub still_wired : AreWired g w' l'
      still_wired =
          wired_more g w w' l l' line J.0 (length (fan_keys w line.source line.outlet)) (length (feed_keys w line.sink line.inlet)) W line_lies J.1
          (record { canvas = c; one = (v.source, source_there); other = (v.sink, sink_there) }) signal control

      pub still_takes : (ws : List Wire) → TakesWires l (keys_at g c) (v ∷ ws) → TakesWires l' (keys_at g c) ws
      still_takes ws T = by (is_signal_line w line) refl
        where
          by : (b : Bool) → is_signal_line w line ≡ b → TakesWires l' (keys_at g c) ws
          by true e = takes_less l l' (keys_at g c) line.source line.sink (signal e) v ws (W.own.once c) source_there sink_there T
          by false e = subst (λ (x : Links). TakesWires x (keys_at g c) ws) (sym (control e)) (takes_rest l (keys_at g c) v ws T)

      pub rows_out : (k : ℕ) → IsOut (keys_at g c) k → KeepsRow l l' k
      rows_out k out = by (is_signal_line w line) refl
        where
          by : (b : Bool) → is_signal_line w line ≡ b → KeepsRow l l' k
          by true e = row_kept l l' (keys_at g c) line.source line.sink (signal e) k
              (λ s. out v.source (source_there ∙ ap (λ x. Some x) (sym s))) (λ s. out v.sink (sink_there ∙ ap (λ x. Some x) (sym s)))
          by false e = subst (λ (x : Links). KeepsRow l x k) (sym (control e)) (row_same l k)

-- A wire after others.

lines_append : (boxes : List Seen) (keys : List ℕ) (xs ys : List Wire) → lines_by boxes keys (xs ++ ys) ≡ lines_by boxes keys xs ++ lines_by boxes keys ys
lines_append boxes keys xs ys = ap (map (line_of keys)) (filter-append (fits boxes) xs ys) ∙ map-append (line_of keys) (filter (fits boxes) xs) (filter (fits boxes) ys)

fit_bound : (b : Bool) (x : Wire) (xs ys : List Wire) → length ys ≤ length xs → length (cond b (x ∷ ys) ys) ≤ suc (length xs)
fit_bound true x xs ys m = omega (arith, m)
fit_bound false x xs ys m = omega (arith, m)

fit_few : (boxes : List Seen) (xs : List Wire) → length (filter (fits boxes) xs) ≤ length xs
fit_few boxes [] = omega arith
fit_few boxes (x ∷ xs) = fit_bound (fits boxes x) x xs (filter (fits boxes) xs) (fit_few boxes xs)

pub lines_few : (boxes : List Seen) (keys : List ℕ) (xs : List Wire) → length (lines_by boxes keys xs) ≤ length xs
lines_few boxes keys xs = let m = fit_few boxes xs in let e = length-map (filter (fits boxes) xs) (line_of keys) in omega (arith, m, e)

taken_few : (xs : List Wire) (i : ℕ) → length (take i xs) ≤ i
taken_few xs zero = omega arith
taken_few [] (suc i) = omega arith
taken_few (x ∷ xs) (suc i) = let m = taken_few xs i in omega (arith, m)

module _ (ws : List Wire) (i : ℕ) (low : i < length ws) where
  pub wires_left : drop i ws ≡ get_or ws i no_wire ∷ drop (i + 1) ws
  wires_left = drop_more ws i no_wire low

  pub first_takes : (l : Links) (keys : List ℕ) → TakesWires l keys (drop i ws) → TakesWires l keys (get_or ws i no_wire ∷ [])
  first_takes l keys T = takes_first l keys (get_or ws i no_wire) (drop (i + 1) ws) (subst (λ xs. TakesWires l keys xs) wires_left T)

  pub rest_takes : (l l' : Links) (keys : List ℕ) → ((xs : List Wire) → TakesWires l keys (get_or ws i no_wire ∷ xs) → TakesWires l' keys xs) → TakesWires l keys (drop i ws) → TakesWires l' keys (drop (i + 1) ws)
  rest_takes l l' keys h T = h (drop (i + 1) ws) (subst (λ xs. TakesWires l keys xs) wires_left T)

  pub lays_next : (boxes : List Seen) (keys : List ℕ) (u v w : Web) → LaysLines u v (lines_by boxes keys (take i ws)) → LaysLines v w (lines_by boxes keys (get_or ws i no_wire ∷ []))
      → LaysLines u w (lines_by boxes keys (take (i + 1) ws))
  lays_next boxes keys u v w a b =
      subst (λ ls. LaysLines u w ls)
      (sym (lines_append boxes keys (take i ws) (get_or ws i no_wire ∷ [])) ∙ ap (lines_by boxes keys) (sym (take_more ws i no_wire low)))
      (more_laid u v w (lines_by boxes keys (take i ws)) (lines_by boxes keys (get_or ws i no_wire ∷ [])) a b)

  -- there is room for one wire more
  pub room_left : (boxes : List Seen) (keys : List ℕ) (u v : Web) → LaysLines u v (lines_by boxes keys (take i ws)) → HasRoom u 0 (2 * length ws) (length ws) → HasRoom v 0 2 1
  room_left boxes keys u v a r =
      let m = lines_few boxes keys (take i ws) in
      let n = taken_few ws i in
      a.room 0 2 1 (record { boxes = r.boxes; homes = r.homes; ends = (let x = r.ends in omega (arith, x, m, n, low)); wires = (let x = r.wires in omega (arith, x, m, n, low)) })

pub lays_start : (boxes : List Seen) (keys : List ℕ) (w : Web) → LaysLines w w (lines_by boxes keys [])
lays_start boxes keys w = none_laid w

pub rows_kept_on : (l l' l'' : Links) (keys : List ℕ) → ((k : ℕ) → IsOut keys k → KeepsRow l l' k) → ((k : ℕ) → IsOut keys k → KeepsRow l' l'' k) → (k : ℕ) → IsOut keys k → KeepsRow l l'' k
rows_kept_on l l' l'' keys a b k out = row_still l l' l'' k (a k out) (b k out)
