-- The wires that fit, one after another.
use Rattle.std.proofs.Common.{◌≡◌, ℕ, zero, suc, ◌+◌, ◌-◌, ◌<◌, ◌≤◌, Bool, true, false, true≢false, cond, List, [], ◌∷◌, ◌++◌, map, filter, length, get_or, take, drop, slice_get, slice_index_or, Option, Some, None, refl, sym, ap, ◌∙◌, subst, append-nil, append_assoc, length-append, take-append-drop, inl, inr, add-one, arith}
use Rattle.std.specs.Prelude.{option_map, option_and_then}
use Rattle.std.proofs.lemmas.List.{map-append, take_more, get_or_past}
use Rattle.std.proofs.lemmas.List.Elements.{filter-append}
use Rattle.std.proofs.lemmas.Bool.{cases_lt}
use Rattle.std.proofs.lemmas.Option.{none-some, cond_some, slice_get-map, slice_get_within}
use Rattle.pd_canvas.specs.declared.wires.Wire.{Wire}
use Rattle.slab.specs.Slab.{get}
use Rattle.pd_grove.specs.declared.boards.Board.{Board}
use Rattle.pd_grove.specs.declared.grove.Grove.{Grove}
use Rattle.pd_grove.specs.Telling.{keys_in}
use Rattle.pd_tree.specs.Ports.{fits, fits_between, joins}
use Rattle.pd_tree.specs.Ports.{Sockets as Seen}
use Rattle.pd_wire.specs.Book.{Book}
use Rattle.pd_grove.specs.declared.ports.Side.{Side}
use Rattle.pd_grove.specs.declared.ports.Side.TheVariants.{Inlets, Outlets}
use Rattle.pd_web.specs.declared.joints.Joint.{Joint}
use Rattle.pd_web.specs.declared.sockets.Port.{Port}
use Rattle.pd_web.specs.declared.sockets.Sockets.{Sockets}
use Rattle.pd_web.specs.Jacks.{jacks_at, made_in}
use Rattle.pd_web.specs.Sockets.{Keeps, ports_at, port_at, made_at, jacks_of}
use Rattle.pd_web.specs.Wiring.{Holds}
use Rattle.pd_web.specs.Lines.{Line, line_of, lines_by, laid_at, laid_boxes, laid_lines, signals_of, port_numbered, made_under, signal_of, line_in, line_from, line_to, seen_by, IsRoute, IsJoint, AreJoints, IsLaid, seen_at, wires_in, lines_at, lines_below, all_lines}

-- whether a port carries signals
abbrev signal : Port → Bool
signal p = p.jack.is_signal

signals_at : (ports : List Port) (i : ℕ) → slice_get (signals_of (jacks_of ports)) i ≡ signal_of (slice_get ports i)
signals_at [] i = refl
signals_at (p ∷ ports) zero = refl
signals_at (p ∷ ports) (suc i) = signals_at ports i

no_sink : (made : Bool) (x : Option Bool) → false ≡ joins made x None
no_sink made None = refl
no_sink made (Some b) = refl

boxes_join : (all : List Sockets) (w : Wire) (a b : Option ℕ)
    → fits_between (option_map (laid_at all) a) (option_map (laid_at all) b) w ≡ joins (made_under all b) (signal_of (option_and_then (λ k. port_at all Outlets k w.outlet) a)) (signal_of (option_and_then (λ k. port_at all Inlets k w.inlet) b))
boxes_join all w None b = refl
boxes_join all w (Some k) None = no_sink false (signal_of (port_at all Outlets k w.outlet))
boxes_join all w (Some k) (Some l) =
    ap (λ o. joins (made_at all l) o (slice_get (signals_of (jacks_of (ports_at all Inlets l))) w.inlet)) (signals_at (ports_at all Outlets k) w.outlet)
    ∙ ap (λ o. joins (made_at all l) (signal_of (port_at all Outlets k w.outlet)) o) (signals_at (ports_at all Inlets l) w.inlet)

-- a wire fits by the two ports at its ends
pub fits_is : (all : List Sockets) (keys : List ℕ) (w : Wire)
    → joins (made_under all (slice_get keys w.sink)) (signal_of (port_numbered all keys Outlets w.source w.outlet)) (signal_of (port_numbered all keys Inlets w.sink w.inlet)) ≡ fits (laid_boxes all keys) w
fits_is all keys w =
    sym
    (ap (λ o. fits_between o (slice_get (laid_boxes all keys) w.sink) w) (slice_get-map (laid_at all) keys w.source)
    ∙ ap (λ o. fits_between (option_map (laid_at all) (slice_get keys w.source)) o w) (slice_get-map (laid_at all) keys w.sink)
    ∙ boxes_join all w (slice_get keys w.source) (slice_get keys w.sink))

-- the ports of a wire that fits are there
record Found (a b : Option Port) : Type 0 where
  from : Port
  to : Port
  from_is : a ≡ Some from
  to_is : b ≡ Some to

found : (made : Bool) (a b : Option Port) → joins made (signal_of a) (signal_of b) ≡ true → Found a b
found made None b h = absurd (true≢false (sym h))
found made (Some p) None h = absurd (true≢false (sym h))
found made (Some p) (Some q) h = record { from = p; to = q; from_is = refl; to_is = refl }

found_in : (all : List Sockets) (keys : List ℕ) (w : Wire) → fits (laid_boxes all keys) w ≡ true → Found (port_numbered all keys Outlets w.source w.outlet) (port_numbered all keys Inlets w.sink w.inlet)
found_in all keys w h =
    found (made_under all (slice_get keys w.sink)) (port_numbered all keys Outlets w.source w.outlet) (port_numbered all keys Inlets w.sink w.inlet) (fits_is all keys w ∙ h)

-- a port of the box of a number is one of the box of its key
numbered : (all : List Sockets) (keys : List ℕ) (side : Side) (n i : ℕ) (p : Port) → port_numbered all keys side n i ≡ Some p → port_at all side (slice_index_or keys n 0) i ≡ Some p
numbered all [] side n i p h = absurd (none-some p h)
numbered all (k ∷ keys) side zero i p h = h
numbered all (k ∷ keys) side (suc n) i p h = numbered all keys side n i p h

number_within : (all : List Sockets) (keys : List ℕ) (side : Side) (n i : ℕ) (p : Port) → port_numbered all keys side n i ≡ Some p → n < length keys
number_within all [] side n i p h = absurd (none-some p h)
number_within all (k ∷ keys) side zero i p h = omega arith
number_within all (k ∷ keys) side (suc n) i p h = let l = number_within all keys side n i p h in omega (arith, l)

pub source_within : (all : List Sockets) (keys : List ℕ) (w : Wire) → fits (laid_boxes all keys) w ≡ true → w.source < length keys
source_within all keys w h = let f = found_in all keys w h in number_within all keys Outlets w.source w.outlet f.from f.from_is

pub sink_within : (all : List Sockets) (keys : List ℕ) (w : Wire) → fits (laid_boxes all keys) w ≡ true → w.sink < length keys
sink_within all keys w h = let f = found_in all keys w h in number_within all keys Inlets w.sink w.inlet f.to f.to_is

-- what a line says of its wire
line_parts : (b : Bool) (l m : Line) → cond b (Some m) None ≡ Some l → (b ≡ true) × (m ≡ l)
line_parts b l m h = cond_some b m l h

pub line_route : (all : List Sockets) (keys : List ℕ) (w : Wire) (l : Line) → line_in all keys w ≡ Some l → IsRoute all l
line_route all keys w l h =
    let parts = line_parts (fits (laid_boxes all keys) w) l (line_of keys w) h in
    let f = found_in all keys w parts.0 in
    let P : Line → Type 0 = λ x. IsRoute all x in
    subst P parts.1 (record {
      from = slice_get_within _ _ _ (numbered all keys Outlets w.source w.outlet f.from f.from_is);
      to = slice_get_within _ _ _ (numbered all keys Inlets w.sink w.inlet f.to f.to_is);
    })

pub one_line : (all : List Sockets) (keys : List ℕ) (w : Wire) (l : Line) → line_in all keys w ≡ Some l → laid_lines all keys (w ∷ []) ≡ l ∷ []
one_line all keys w l h =
    let parts = line_parts (fits (laid_boxes all keys) w) l (line_of keys w) h in
    ap (λ b. map (line_of keys) (cond b (w ∷ []) [])) parts.0 ∙ ap (λ x. x ∷ []) parts.1

none_parts : (b : Bool) (m : Line) → cond b (Some m) None ≡ None → b ≡ false
none_parts true m h = absurd (none-some m (sym h))
none_parts false m h = refl

pub no_line : (all : List Sockets) (keys : List ℕ) (w : Wire) → line_in all keys w ≡ None → laid_lines all keys (w ∷ []) ≡ []
no_line all keys w h = ap (λ b. map (line_of keys) (cond b (w ∷ []) [])) (none_parts (fits (laid_boxes all keys) w) (line_of keys w) h)

pub laid_none : (all : List Sockets) (keys : List ℕ) (w : Wire) (b : Book) (ls : List Line) → line_in all keys w ≡ None → IsLaid all b ls → IsLaid all b (ls ++ laid_lines all keys (w ∷ []))
laid_none all keys w b ls h l = let P : List Line → Type 0 = λ xs. IsLaid all b xs in subst P (sym (ap (λ xs. ls ++ xs) (no_line all keys w h) ∙ append-nil ls)) l

joints_push : (all : List Sockets) (js : List Joint) (ls : List Line) (j : Joint) (l : Line) → AreJoints all js ls → IsJoint all j l → AreJoints all (js ++ j ∷ []) (ls ++ l ∷ [])
joints_push all [] [] j l h e = (e, tt)
joints_push all [] (m ∷ ls) j l h e = absurd h
joints_push all (i ∷ js) [] j l h e = absurd h
joints_push all (i ∷ js) (m ∷ ls) j l h e = (h.0, joints_push all js ls j l h.1 e)

joints_kept : (all all' : List Sockets) (js : List Joint) (ls : List Line) → Keeps all all' → AreJoints all js ls → AreJoints all' js ls
joints_kept all all' [] [] keeps h = h
joints_kept all all' [] (l ∷ ls) keeps h = h
joints_kept all all' (j ∷ js) [] keeps h = h
joints_kept all all' (j ∷ js) (l ∷ ls) keeps h = (record { from = keeps.ends (line_from l) j.source h.0.from; to = keeps.ends (line_to l) j.sink h.0.to }, joints_kept all all' js ls keeps h.1)

-- a line more
pub laid_line : (all all' : List Sockets) (b' : Book) (js : List Joint) (ls : List Line) (j : Joint) (l : Line) → Keeps all all' → IsJoint all' j l → AreJoints all js ls → Holds b' (js ++ j ∷ []) → IsLaid all' b' (ls ++ l ∷ [])
laid_line all all' b' js ls j l keeps at joints held =
    record { joints = js ++ j ∷ []; held = held; lines = joints_push all' js ls j l (joints_kept all all' js ls keeps joints) at }

-- ports as they are laid, as the patch has them
pub seen_laid : (all : List Sockets) (g : Grove) → ((side : Side) (k : ℕ) → jacks_of (ports_at all side k) ≡ jacks_at side g k) → ((k : ℕ) → made_at all k ≡ made_in (get g.nodes k)) → (k : ℕ) → laid_at all k ≡ seen_at g k
seen_laid all g told made k =
    ap (λ js. seen_by js (jacks_of (ports_at all Outlets k)) (made_at all k)) (told Inlets k) ∙ ap (λ js. seen_by (jacks_at Inlets g k) js (made_at all k)) (told Outlets k)
    ∙ ap (seen_by (jacks_at Inlets g k) (jacks_at Outlets g k)) (made k)

-- ports that stay what they are have the same lines
seen_kept : (all all' : List Sockets) → Keeps all all' → (k : ℕ) → laid_at all' k ≡ laid_at all k
seen_kept all all' keeps k =
    ap (λ js. seen_by js (jacks_of (ports_at all' Outlets k)) (made_at all' k)) (keeps.jacks Inlets k)
    ∙ ap (λ js. seen_by (jacks_of (ports_at all Inlets k)) js (made_at all' k)) (keeps.jacks Outlets k)
    ∙ ap (seen_by (jacks_of (ports_at all Inlets k)) (jacks_of (ports_at all Outlets k))) (keeps.made k)

pub seen_still : (all all' : List Sockets) (g : Grove) → Keeps all all' → ((k : ℕ) → laid_at all k ≡ seen_at g k) → (k : ℕ) → laid_at all' k ≡ seen_at g k
seen_still all all' g keeps told k = seen_kept all all' keeps k ∙ told k

pub lines-append : (boxes : List Seen) (keys : List ℕ) (xs ys : List Wire) → lines_by boxes keys (xs ++ ys) ≡ lines_by boxes keys xs ++ lines_by boxes keys ys
lines-append boxes keys xs ys = ap (map (line_of keys)) (filter-append (fits boxes) xs ys) ∙ map-append (line_of keys) (filter (fits boxes) xs) (filter (fits boxes) ys)

pub lines_more : (boxes : List Seen) (keys : List ℕ) (ws : List Wire) (i : ℕ) (d : Wire) → i < length ws
    → lines_by boxes keys (take (i + 1) ws) ≡ lines_by boxes keys (take i ws) ++ lines_by boxes keys (get_or ws i d ∷ [])
lines_more boxes keys ws i d h = ap (lines_by boxes keys) (take_more ws i d h) ∙ lines-append boxes keys (take i ws) (get_or ws i d ∷ [])

-- the lines of the first wires and of the next are no more than those of all
taken_fewer : (boxes : List Seen) (keys : List ℕ) (ws : List Wire) (i : ℕ) (d : Wire) → i < length ws
    → length (lines_by boxes keys (take i ws)) + length (lines_by boxes keys (get_or ws i d ∷ [])) ≤ length (lines_by boxes keys ws)
taken_fewer boxes keys ws i d h =
    let a = ap length (lines_more boxes keys ws i d h) in
    let b = length-append (lines_by boxes keys (take i ws)) (lines_by boxes keys (get_or ws i d ∷ [])) in
    let e = ap length (ap (lines_by boxes keys) (sym (take-append-drop (i + 1) ws)) ∙ lines-append boxes keys (take (i + 1) ws) (drop (i + 1) ws)) in
    let f = length-append (lines_by boxes keys (take (i + 1) ws)) (lines_by boxes keys (drop (i + 1) ws)) in
    omega (arith, a, b, e, f)

seen_same : (f g : ℕ → Seen) → ((k : ℕ) → f k ≡ g k) → (keys : List ℕ) → map f keys ≡ map g keys
seen_same f g h [] = refl
seen_same f g h (k ∷ keys) = ap (λ x. x ∷ map f keys) (h k) ∙ ap (λ xs. g k ∷ xs) (seen_same f g h keys)

-- the lines of a canvas are those by the ports that were laid
pub board_lines : (all : List Sockets) (g : Grove) (c : ℕ) (b : Board) (keys : List ℕ) (ws : List Wire) → ((k : ℕ) → laid_at all k ≡ seen_at g k) → get g.boards c ≡ Some b
    → keys ≡ b.nodes.items → ws ≡ b.sheet.wires → laid_lines all keys ws ≡ lines_at g c
board_lines all g c b keys ws told at same_keys same_wires =
    ap (λ bs. lines_by bs keys ws) (seen_same (laid_at all) (seen_at g) told keys)
    ∙ ap (λ ks. lines_by (map (seen_at g) ks) ks ws) same_keys
    ∙ ap (λ xs. lines_by (map (seen_at g) b.nodes.items) b.nodes.items xs) same_wires
    ∙ ap (λ o. lines_by (map (seen_at g) (keys_in o)) (keys_in o) (wires_in o)) (sym at)

pub no_board_lines : (g : Grove) (c : ℕ) → get g.boards c ≡ None → lines_at g c ≡ []
no_board_lines g c at = ap (λ o. lines_by (map (seen_at g) (keys_in o)) (keys_in o) (wires_in o)) at

pub below_more : (g : Grove) (c : ℕ) → lines_below g (c + 1) ≡ lines_below g c ++ lines_at g c
below_more g c = ap (lines_below g) (add-one c)

-- past the last canvas there are no more lines
pub below_past : (g : Grove) (n m : ℕ) → n ≡ length g.boards.slots + m → lines_below g n ≡ all_lines g
below_past g n zero h = let e : n ≡ length g.boards.slots = omega arith in ap (lines_below g) e
below_past g n (suc m) h =
    let e : n ≡ suc (length g.boards.slots + m) = omega arith in
    let p = length g.boards.slots + m in
    ap (lines_below g) e ∙ ap (λ xs. lines_below g p ++ xs) (no_board_lines g p (get_or_past g.boards.slots p None (omega arith)))
    ∙ append-nil (lines_below g p) ∙ below_past g p m refl

pub below_end : (g : Grove) (n : ℕ) → length g.boards.slots ≤ n → lines_below g n ≡ all_lines g
below_end g n h = below_past g n (n - length g.boards.slots) (omega arith)

-- the lines of the first canvases and of the next are no more than those of all
pub below_fewer : (g : Grove) (n c : ℕ) → c < n → length (lines_below g c) + length (lines_at g c) ≤ length (lines_below g n)
below_fewer g zero c h = absurd (omega arith)
below_fewer g (suc n) c h =
    let a = length-append (lines_below g n) (lines_at g n) in
    elim (cases_lt c n) [
      | inl b ↦ let e = below_fewer g n c b in omega (arith, a, e)
      | inr b ↦
          let e : c ≡ n = omega arith in
          let P : ℕ → Type 0 = λ m. length (lines_below g m) + length (lines_at g m) ≤ length (lines_below g n ++ lines_at g n) in
          subst P (sym e) (omega (arith, a))
    ]

pub lines_kept : (all all' : List Sockets) (keys : List ℕ) (ws : List Wire) → Keeps all all' → laid_lines all' keys ws ≡ laid_lines all keys ws
lines_kept all all' keys ws keeps = ap (λ boxes. lines_by boxes keys ws) (seen_same (laid_at all') (laid_at all) (seen_kept all all' keeps) keys)

-- the lines of one wire more
pub laid_more : (all all' : List Sockets) (keys : List ℕ) (ws : List Wire) (i : ℕ) (d : Wire) (ls : List Line) → i < length ws → Keeps all all'
    → (ls ++ laid_lines all keys (take i ws)) ++ laid_lines all' keys (get_or ws i d ∷ []) ≡ ls ++ laid_lines all keys (take (i + 1) ws)
laid_more all all' keys ws i d ls l keeps =
    ap (λ xs. (ls ++ laid_lines all keys (take i ws)) ++ xs) (lines_kept all all' keys (get_or ws i d ∷ []) keeps)
    ∙ append_assoc ls (laid_lines all keys (take i ws)) (laid_lines all keys (get_or ws i d ∷ [])) ∙ ap (λ xs. ls ++ xs) (sym (lines_more (laid_boxes all keys) keys ws i d l))

pub more_counted : (all all' : List Sockets) (keys : List ℕ) (ws : List Wire) (i : ℕ) (d : Wire) → i < length ws → Keeps all all'
    → length (laid_lines all keys (take (i + 1) ws)) ≡ length (laid_lines all keys (take i ws)) + length (laid_lines all' keys (get_or ws i d ∷ []))
more_counted all all' keys ws i d l keeps =
    ap length (sym (laid_more all all' keys ws i d [] l keeps)) ∙ length-append (laid_lines all keys (take i ws)) (laid_lines all' keys (get_or ws i d ∷ []))

pub all_fewer : (all all' : List Sockets) (keys : List ℕ) (ws : List Wire) (i : ℕ) (d : Wire) → i < length ws → Keeps all all'
    → length (laid_lines all keys (take i ws)) + length (laid_lines all' keys (get_or ws i d ∷ [])) ≤ length (laid_lines all keys ws)
all_fewer all all' keys ws i d l keeps =
    let e = ap length (lines_kept all all' keys (get_or ws i d ∷ []) keeps) in
    let f = taken_fewer (laid_boxes all keys) keys ws i d l in
    omega (arith, e, f)
