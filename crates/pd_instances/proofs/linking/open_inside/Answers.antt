use Rattle.std.proofs.Common.{◌≡◌, ◌+◌, ℕ, List, Some, ◌∷◌, [], drop, length, map, sym, ap, ◌∙◌, subst}
use Rattle.std.specs.Prelude.{slice_get}
use Rattle.std.proofs.lemmas.Option.{none-some, same_Some}
use Rattle.slab.specs.Slab.{get}
use Rattle.pd_links.specs.declared.opening.LinkRoom.{LinkRoom}
use Rattle.pd_web.specs.Canvases.{keys_at}
use Rattle.pd_web.specs.Lines.{wires_in}
use Rattle.pd_patch.specs.Numbers.{AreApart, IsOut}
use Rattle.pd_instances.specs.Lay.{AreNextRows, TakesWires}
use Rattle.pd_instances.specs.Needs.{inside_held, inside_with, Inside}
use Rattle.pd_instances.proofs.NumberLemmas.{box_lives}
use Rattle.pd_instances.proofs.RowLemmas.{inside_is, links_same}
use Rattle.pd_instances.proofs.linking.open_inside.Goals as goal

pub open_next-requires-clause-apart : goal.open_next-requires-clause-apart
open_next-requires-clause-apart c = subst (λ ks. AreApart ks) (sym c.keys_inside_box.ensures) (c.requires.own.once c.in-Some.canvas)

pub open_next-requires-clause-room : goal.open_next-requires-clause-room
open_next-requires-clause-room c =
    let g = c.args.grove.now in
    let d = c.in-Some.canvas in
    let e = sym c.canvas_in.ensures ∙ c.in-Some.is in
    let rows : List (List LinkRoom) = map (λ v. v.items) c.args.rooms.now.items in (
      wires_in (get g.boards d),
      subst (λ (ks : List ℕ). AreNextRows (inside_with (wires_in (get g.boards d)) (length ks) ∷ []) rows) (sym c.keys_inside_box.ensures)
          (subst (λ (is : List Inside). AreNextRows is rows) (inside_is g c.args.key d e (c.requires.board d e)) c.requires.room),
    )

pub open_next-requires-clause-reach : goal.open_next-requires-clause-reach
open_next-requires-clause-reach c = λ n k at.
    let d = c.in-Some.canvas in
    c.requires.reach k (box_lives (get c.args.grove.now.nodes k) d (c.requires.own.home d n k (subst (λ (ks : List ℕ). slice_get ks n ≡ Some k) c.keys_inside_box.ensures at)))

pub open_next-requires-clause-bare : goal.open_next-requires-clause-bare
open_next-requires-clause-bare c = λ n k at.
    let d = c.in-Some.canvas in
    c.requires.bare d k (sym c.canvas_in.ensures ∙ c.in-Some.is) (n, subst (λ (ks : List ℕ). slice_get ks n ≡ Some k) c.keys_inside_box.ensures at)

pub returns-in_default-clause-keeps : goal.returns-in_default-clause-keeps
returns-in_default-clause-keeps c = links_same c.args.links.now

pub returns-in_default-clause-takes : goal.returns-in_default-clause-takes
returns-in_default-clause-takes c = λ d e. absurd (none-some d (sym (sym c.canvas_in.ensures ∙ c.in_default.is) ∙ e))

pub returns-in_default-clause-others : goal.returns-in_default-clause-others
returns-in_default-clause-others c = λ d k e out. absurd (none-some d (sym (sym c.canvas_in.ensures ∙ c.in_default.is) ∙ e))

pub returns-in_default-clause-rest : goal.returns-in_default-clause-rest
returns-in_default-clause-rest c = ap (λ o. drop (length (inside_held c.args.grove.now o)) c.args.rooms.now.items) (sym (sym c.canvas_in.ensures ∙ c.in_default.is))

pub returns-clause-takes : goal.returns-clause-takes
returns-clause-takes c = λ d e.
    let g = c.args.grove.now in
    let x = c.in-Some.canvas in
    let there = sym c.canvas_in.ensures ∙ c.in-Some.is in
    let rows : List (List LinkRoom) = map (λ v. v.items) c.args.rooms.now.items in
    subst (λ y. TakesWires c.open_next.new.links (keys_at g y) (wires_in (get g.boards y))) (same_Some x d (sym there ∙ e))
    (subst (λ (ks : List ℕ). TakesWires c.open_next.new.links ks (wires_in (get g.boards x))) c.keys_inside_box.ensures
    (c.open_next.ensures.takes (wires_in (get g.boards x))
    (subst (λ (ks : List ℕ). AreNextRows (inside_with (wires_in (get g.boards x)) (length ks) ∷ []) rows) (sym c.keys_inside_box.ensures)
    (subst (λ (is : List Inside). AreNextRows is rows) (inside_is g c.args.key x there (c.requires.board x there)) c.requires.room))))

pub returns-clause-others : goal.returns-clause-others
returns-clause-others c = λ d k e out.
    let g = c.args.grove.now in
    c.open_next.ensures.others k
    (subst (λ (ks : List ℕ). IsOut ks k) (sym c.keys_inside_box.ensures) (subst (λ y. IsOut (keys_at g y) k) (same_Some d c.in-Some.canvas (sym e ∙ sym c.canvas_in.ensures ∙ c.in-Some.is)) out))

pub returns-clause-none : goal.returns-clause-none
returns-clause-none c = λ none. absurd (none-some c.in-Some.canvas (sym none ∙ sym c.canvas_in.ensures ∙ c.in-Some.is))

pub returns-clause-rest : goal.returns-clause-rest
returns-clause-rest c =
    let there = sym c.canvas_in.ensures ∙ c.in-Some.is in
    c.open_next.ensures.rest ∙ ap (λ (is : List Inside). drop (length is) c.args.rooms.now.items) (sym (inside_is c.args.grove.now c.args.key c.in-Some.canvas there (c.requires.board c.in-Some.canvas there)))
