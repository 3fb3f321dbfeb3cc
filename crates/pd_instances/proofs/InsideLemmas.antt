-- The wires of canvases that have come, canvas by canvas.
use Rattle.std.proofs.Common.{◌≡◌, ℕ, suc, ◌+◌, ◌*◌, ◌≤◌, List, [], ◌∷◌, ◌++◌, append-nil, length, length-append, take, drop, Option, Some, None, refl, sym, ap, ◌∙◌, subst, arith}
use Rattle.std.specs.List.{flat_map}
use Rattle.std.proofs.lemmas.List.Concat.{flat_map-append}
use Rattle.slab.specs.Slab.{get}
use Rattle.pd_grove.specs.declared.boards.Board.{Board}
use Rattle.pd_grove.specs.declared.grove.Grove.{Grove}
use Rattle.pd_grove.specs.Telling.{inner_in}
use Rattle.pd_web.specs.declared.lines.Line.{Line}
use Rattle.pd_web.specs.declared.web.Web.{Web}
use Rattle.pd_web.specs.Canvases.{keys_at}
use Rattle.pd_web.specs.Changes.{HasRoom}
use Rattle.pd_web.specs.Lines.{boxes_in, lines_at, wires_in}
use Rattle.pd_instances.specs.Lay.{LaysLines}
use Rattle.pd_instances.specs.Needs.{Inside, inside_at, inside_held, inside_seen, wires_all}
use Rattle.pd_instances.specs.Part.{lines_held, lines_inside, lines_of}
use Rattle.pd_instances.proofs.LayLemmas.{more_laid, none_laid}
use Rattle.pd_instances.proofs.StepLemmas.{lines_few}

wires_append : (is js : List Inside) → wires_all (is ++ js) ≡ wires_all is + wires_all js
wires_append [] js = omega arith
wires_append (i ∷ is) js = let h = wires_append is js in omega (arith, h)

wires_seen : (g : Grove) (c : ℕ) → wires_all (inside_seen (get g.boards c)) ≡ length (wires_in (get g.boards c))
wires_seen g c = by (get g.boards c)
  where
    by : (o : Option Board) → wires_all (inside_seen o) ≡ length (wires_in o)
    by None = refl
    by (Some b) = omega arith

pub wires_inside : (g : Grove) (k c : ℕ) → inner_in (get g.nodes k) ≡ Some c → wires_all (inside_at g k) ≡ length (wires_in (get g.boards c))
wires_inside g k c e = ap (λ o. wires_all (inside_held g o)) e ∙ wires_seen g c

held_few : (g : Grove) (o : Option ℕ) → length (lines_held g o) ≤ wires_all (inside_held g o)
held_few g None = omega arith
held_few g (Some c) = let m = lines_few (boxes_in g c) (keys_at g c) (wires_in (get g.boards c)) in let e = wires_seen g c in omega (arith, m, e)

of_few : (g : Grove) (ks : List ℕ) → length (lines_of g ks) ≤ wires_all (flat_map (inside_at g) ks)
of_few g [] = omega arith
of_few g (k ∷ ks) =
    let a = held_few g (inner_in (get g.nodes k)) in
    let b = of_few g ks in
    let l = length-append (lines_inside g k) (lines_of g ks) in
    let w = wires_append (inside_at g k) (flat_map (inside_at g) ks) in
    omega (arith, a, b, l, w)

lines_last : (g : Grove) (ks : List ℕ) (k : ℕ) → lines_of g (ks ++ k ∷ []) ≡ lines_of g ks ++ lines_inside g k
lines_last g ks k = flat_map-append (lines_inside g) ks (k ∷ []) ∙ ap (λ ls. lines_of g ks ++ ls) (append-nil (lines_inside g k))

pub none_inside : (g : Grove) (w : Web) (k : ℕ) → inner_in (get g.nodes k) ≡ None → LaysLines w w (lines_inside g k)
none_inside g w k e = subst (λ ls. LaysLines w w ls) (sym (ap (lines_held g) e)) (none_laid w)

pub some_inside : (g : Grove) (w v : Web) (k c : ℕ) → inner_in (get g.nodes k) ≡ Some c → LaysLines w v (lines_at g c) → LaysLines w v (lines_inside g k)
some_inside g w v k c e L = subst (λ ls. LaysLines w v ls) (sym (ap (lines_held g) e)) L

pub laid_next : (g : Grove) (u v w : Web) (ks : List ℕ) (k : ℕ) → LaysLines u v (lines_of g ks) → LaysLines v w (lines_inside g k) → LaysLines u w (lines_of g (ks ++ k ∷ []))
laid_next g u v w ks k a b = subst (λ ls. LaysLines u w ls) (sym (lines_last g ks k)) (more_laid u v w (lines_of g ks) (lines_inside g k) a b)

-- room for the wires of one canvas more
pub room_inside : (g : Grove) (u v : Web) (ks : List ℕ) (k : ℕ) (rest all : List ℕ) → all ≡ ks ++ k ∷ rest → LaysLines u v (lines_of g ks)
    → HasRoom u 0 (2 * wires_all (flat_map (inside_at g) all)) (wires_all (flat_map (inside_at g) all)) → HasRoom v 0 (2 * wires_all (inside_at g k)) (wires_all (inside_at g k))
room_inside g u v ks k rest all split L r =
    let m = of_few g ks in
    let e : wires_all (flat_map (inside_at g) all) ≡ wires_all (flat_map (inside_at g) ks ++ (inside_at g k ++ flat_map (inside_at g) rest)) =
    ap (λ xs. wires_all (flat_map (inside_at g) xs)) split ∙ ap wires_all (flat_map-append (inside_at g) ks (k ∷ rest)) in
    let a = wires_append (flat_map (inside_at g) ks) (inside_at g k ++ flat_map (inside_at g) rest) in
    let b = wires_append (inside_at g k) (flat_map (inside_at g) rest) in
    L.room 0 (2 * wires_all (inside_at g k)) (wires_all (inside_at g k))
    (record { boxes = r.boxes; homes = r.homes; ends = (let x = r.ends in omega (arith, x, m, e, a, b)); wires = (let x = r.wires in omega (arith, x, m, e, a, b)) })
