-- A port box of a canvas that a box holds, and the port of that box that it is.
use Rattle.std.proofs.Common.{◌≡◌, ℕ, Bool, true, false, ◌&&◌, ◌||◌, is_some, ◌≤◌, List, ◌++◌, map, length, slice_get, Option, Some, None, IsSome, inl, inr, refl, sym, ap, ◌∙◌, subst, arith}
use Rattle.std.specs.Prelude.{◌⊎◌}
use Rattle.std.specs.List.{insert}
use Rattle.std.proofs.lemmas.List.{length-map}
use Rattle.std.proofs.lemmas.Option.{same_Some}
use Rattle.slab.specs.Slab.{get}
use Rattle.pd_grove.specs.declared.grove.Grove.{Grove}
use Rattle.pd_grove.specs.declared.nodes.Node.{Node}
use Rattle.pd_grove.specs.declared.ports.Side.{Side}
use Rattle.pd_grove.specs.declared.ports.Side.TheVariants.{Inlets, Outlets}
use Rattle.pd_grove.specs.Forest.{IsForest, holder_in}
use Rattle.pd_grove.specs.Owning.{board_in}
use Rattle.pd_grove.specs.Ports.{port_signal, ports_among}
use Rattle.pd_grove.specs.Telling.{keys_in}
use Rattle.pd_web.specs.declared.jacks.Jack.{Jack}
use Rattle.pd_web.specs.Changes.{Meet}
use Rattle.pd_web.specs.Homes.{inner_in}
use Rattle.pd_web.specs.Hops.{port_told}
use Rattle.pd_web.specs.Jacks.{jacks_at, spot_jack}
use Rattle.pd_ports.proofs.OnceLemmas.{port_stands}
use Rattle.pd_patch.specs.declared.patch.Patch.{Patch}
use Rattle.pd_boxes.specs.Put.{CanPut}
use Rattle.pd_following.specs.Ports.{port_jack}
use Rattle.pd_following.proofs.JackLemmas.{ports_held}
use Rattle.pd_following.proofs.ListLemmas.{insert_here, map_insert}
use Rattle.pd_following.proofs.SpotLemmas.{among_more, port_spot}
use Rattle.pd_adding.specs.Standing.{is_port_in}
use Rattle.pd_sliding.specs.Sliding.{CanSlide}
use Rattle.pd_sliding.proofs.GroveLemmas.{split_at}
use Rattle.pd_shifting.specs.Moves.{is_port_around}

both_so : (a b : Bool) → (a && b) ≡ true → (a ≡ true) × (b ≡ true)
both_so true b h = (refl, h)
both_so false b h = cc

either_so : (a b : Bool) → (a || b) ≡ true → (a ≡ true) ⊎ (b ≡ true)
either_so true b h = inl refl
either_so false b h = inr h

some_so : (o : Option ℕ) → is_some o ≡ true → (k : ℕ) × (o ≡ Some k)
some_so None h = cc
some_so (Some k) h = (k, refl)

-- a box that is a port on a side
record IsPortBox (o : Option Node) : Type 0 where
  node : Node
  stands : o ≡ Some node
  side : Side
  port : IsSome (port_signal side node.kind)

port_box : (o : Option Node) → is_port_in o ≡ true → IsPortBox o
port_box None h = cc
port_box (Some n) h = elim (either_so (is_some (port_signal Inlets n.kind)) (is_some (port_signal Outlets n.kind)) h) [
  | inl e ↦ record { node = n; stands = refl; side = Inlets; port = e }
  | inr e ↦ record { node = n; stands = refl; side = Outlets; port = e }
]

-- the box around has the port that the box is
port_there : (g : Grove) (key : ℕ) (F : IsForest (get g.nodes) (get g.boards) g.root) (n : Node) → get g.nodes key ≡ Some n → (holder : ℕ) → holder_in (get g.boards n.board) ≡ Some holder
    → (side : Side) → IsSome (port_signal side n.kind) → (i : ℕ) × (inner_in (slice_get (jacks_at side g holder) i) ≡ Some key)
port_there g key F n stands holder held side port =
    let at = F.placed key n.board (ap board_in stands) in
    let S = split_at (keys_in (get g.boards n.board)) at.0 key at.1 in
    let P = port_spot side (get g.nodes) key n stands port in
    let M = among_more side (get g.nodes) S.before S.behind key P.spot P.is in
    let others = ports_among side (get g.nodes) (S.before ++ S.behind) in
    let whole : jacks_at side g holder ≡ insert (map spot_jack others) M.place (port_jack side n.kind key) =
    ports_held g side holder n.board (F.held n.board holder held) ∙ ap (λ (ks : List ℕ). map spot_jack (ports_among side (get g.nodes) ks)) S.whole ∙ ap (map spot_jack) M.is
    ∙ map_insert spot_jack others M.place P.spot ∙ ap (insert (map spot_jack others) M.place) P.jack in
    let low : M.place ≤ length (map spot_jack others) = (let w = M.within in let l = length-map others spot_jack in omega (arith, w, l)) in
    (M.place, ap (λ (js : List Jack). inner_in (slice_get js M.place)) whole ∙ ap inner_in (insert_here (map spot_jack others) M.place (port_jack side n.kind key) low))

-- it is known which port a port box is
pub port_known : (p : Patch) (canvas key : ℕ) → CanPut p → board_in (get p.grove.nodes key) ≡ Some canvas → is_port_around p.grove canvas key ≡ true → IsSome (port_told p.web key)
port_known p canvas key C lies port =
    let both = both_so (is_some (holder_in (get p.grove.boards canvas))) (is_port_in (get p.grove.nodes key)) port in
    let holder = some_so (holder_in (get p.grove.boards canvas)) both.0 in
    let B = port_box (get p.grove.nodes key) both.1 in
    let home : canvas ≡ B.node.board = same_Some canvas B.node.board (sym lies ∙ ap board_in B.stands) in
    let held = ap (λ c. holder_in (get p.grove.boards c)) (sym home) ∙ holder.1 in
    let there = port_there p.grove key C.forest B.node B.stands holder.0 held B.side B.port in
    C.runs.ports.homes_found key holder.0 there.0 (record { side = B.side; told = there.1 })

-- a port box can move
pub can_slide : (p : Patch) (canvas key : ℕ) → CanPut p → Meet p.web → is_port_around p.grove canvas key ≡ true → (node port : ℕ) → port_told p.web key ≡ Some (node, port) → (side : Side)
    → ((n : Node) (s : Side) → get p.grove.nodes key ≡ Some n → IsSome (port_signal s n.kind) → side ≡ s) → CanSlide p key node side port
can_slide p canvas key C meet around node port told side so =
    let both = both_so (is_some (holder_in (get p.grove.boards canvas))) (is_port_in (get p.grove.nodes key)) around in
    let B = port_box (get p.grove.nodes key) both.1 in
    let of = C.runs.ports.homes key node port told in
    let S = port_stands p.grove of.side node port key of.told in
    let home : S.canvas ≡ B.node.board = same_Some S.canvas B.node.board (sym (C.forest.own.home S.canvas S.place key S.at) ∙ ap board_in B.stands) in
    record {
      can = C;
      meet = meet;
      node = B.node;
      stands = B.stands;
      place = record { canvas = B.node.board; number = 0 };
      canvas = refl;
      at = record {
        held = ap (λ c. holder_in (get p.grove.boards c)) (sym home) ∙ C.forest.inside node S.canvas S.held;
        port = subst (λ (s : Side). IsSome (port_signal s B.node.kind)) (sym (so B.node B.side B.stands B.port)) B.port;
      };
      numbered = told;
    }
