-- Where room was set aside port boxes can go as they could, and feeds stay in order where a box has a port fewer.
use Rattle.std.proofs.Common.{◌≡◌, ◌≢◌, ℕ, ◌<◌, ◌≤◌, cond, List, length, slice_get, Some, inl, inr, eq-eqb, sym, ap, ◌∙◌, subst, arith}
use Rattle.std.specs.Prelude.{option_map, Bool, IsSome}
use Rattle.std.proofs.lemmas.Bool.{cases_eq, cases_lt}
use Rattle.std.proofs.lemmas.Option.{slice_get-map}
use Rattle.slab.specs.Slab.{get}
use Rattle.pd_grove.specs.declared.grove.Grove.{Grove}
use Rattle.pd_grove.specs.declared.ports.Side.{Side}
use Rattle.pd_grove.specs.declared.ports.Side.TheVariants.{Inlets, Outlets}
use Rattle.pd_grove.specs.Forest.{holder_in}
use Rattle.pd_web.specs.declared.jacks.Jack.{Jack}
use Rattle.pd_web.specs.declared.web.Hop.{Hop}
use Rattle.pd_web.specs.declared.web.Web.{Web}
use Rattle.pd_web.specs.Canvases.{keys_at}
use Rattle.pd_web.specs.Hops.{feed_hops}
use Rattle.pd_patch.specs.declared.patch.Patch.{Patch}
use Rattle.pd_seek.specs.Places.{label_at, AreInOrder, IsNoLater}
use Rattle.pd_moving.specs.Orders.{AreAllInOrder, HasOwnLabel}
use Rattle.pd_wiring.specs.Changes.{SameButRoom}
use Rattle.pd_wiring.proofs.BuiltLemmas.{roomed}
use Rattle.pd_boxes.specs.declared.room.Place.{Place}
use Rattle.pd_boxes.proofs.AskingLemmas.{put_rewired}
use Rattle.pd_following.specs.Raising.{up, raised, Raises}
use Rattle.pd_following.proofs.ListLemmas.{up_before, up_behind}
use Rattle.pd_following.proofs.RaiseLemmas.{differ_test}
use Rattle.pd_following.proofs.ReserveLemmas.{meet_same}
use Rattle.pd_leaving.specs.Leaving.{CanTakePort}

-- Room.

pub still_taken : (p q : Patch) (place : Place) (key holder : ℕ) (side : Side) (port : ℕ) → SameButRoom p q → CanTakePort p place key holder side port → CanTakePort q place key holder side port
still_taken p q place key holder side port S C = record {
  can = put_rewired p q S.grove (roomed p q S C.can.runs) C.can;
  meet = meet_same p.web q.web S.web C.meet;
  is = ap (λ (g : Grove). slice_get (keys_at g place.canvas) place.number) S.grove ∙ C.is;
  node = C.node;
  stands = ap (λ (g : Grove). get g.nodes key) S.grove ∙ C.stands;
  leaf = C.leaf;
  at = record { held = ap (λ (g : Grove). holder_in (get g.boards place.canvas)) S.grove ∙ C.at.held; port = C.at.port };
  numbered = S.web.kept.homes key ∙ C.numbered;
  reached = λ k live. subst (λ vs. k < length vs.items) (sym S.values) (C.reached k (subst (λ (g : Grove). IsSome (get g.nodes k)) S.grove live));
}

-- Feeds.

up_back : (at i j : ℕ) → up at i ≤ up at j → i ≤ j
up_back at i j h = elim (cases_lt i at) [
  | inl l ↦ elim (cases_lt j at) [
    | inl m ↦ let u = up_before at i l in let v = up_before at j m in omega (arith, u, v, h)
    | inr m ↦ omega (arith, l, m)
  ]
  | inr l ↦ elim (cases_lt j at) [
    | inl m ↦ let u = up_behind at i l in let v = up_before at j m in omega (arith, u, v, h, m, l)
    | inr m ↦ let u = up_behind at i l in let v = up_behind at j m in omega (arith, u, v, h)
  ]
]

module _ (w w' : Web) (key at : ℕ) (jack : Jack) (labels : List ℕ) where
  inlets_lowered : Raises w w' key Inlets at jack → AreAllInOrder labels w' → AreAllInOrder labels w
  inlets_lowered X order n i = elim (cases_eq n key) [
    | inr d ↦ subst (AreInOrder labels) (X.others n i d) (order n i)
    | inl e ↦ subst (AreInOrder labels) (X.own i ∙ sym (ap (λ x. feed_hops w x i) e)) (order key (up at i))
  ]

  lowered_later : (g h : Hop) → (label_at labels g.node ≡ label_at labels key → g.node ≡ key) → (label_at labels h.node ≡ label_at labels key → h.node ≡ key)
      → IsNoLater labels (raised key at g) (raised key at h) → IsNoLater labels g h
  lowered_later g h own also (inl less) = inl less
  lowered_later g h own also (inr same) = inr (
    same.0,
    elim (cases_eq g.node key) [
      | inl e ↦
          let f : h.node ≡ key = also (sym same.0 ∙ ap (label_at labels) e) in
          let a = ap (λ (b : Bool). cond b (up at g.port) g.port) (eq-eqb g.node key e) in
          let b = ap (λ (b : Bool). cond b (up at h.port) h.port) (eq-eqb h.node key f) in
          let l = same.1 in
          up_back at g.port h.port (omega (arith, a, b, l))
      | inr d ↦
          let f : h.node ≢ key = (λ e. d (own (same.0 ∙ ap (label_at labels) e))) in
          let a = ap (λ (b : Bool). cond b (up at g.port) g.port) (differ_test g.node key d) in
          let b = ap (λ (b : Bool). cond b (up at h.port) h.port) (differ_test h.node key f) in
          let l = same.1 in
          omega (arith, a, b, l)
    ],
  )

  outlets_lowered : Raises w w' key Outlets at jack → HasOwnLabel labels w' key → AreAllInOrder labels w' → AreAllInOrder labels w
  outlets_lowered X own order n i p q g h l a b =
      let up_there : (j : ℕ) (x : Hop) → slice_get (feed_hops w n i) j ≡ Some x → slice_get (feed_hops w' n i) j ≡ Some (raised key at x) = (λ j x e.
      ap (λ (hs : List Hop). slice_get hs j) (X.across n i) ∙ slice_get-map (raised key at) (feed_hops w n i) j ∙ ap (option_map (raised key at)) e) in
      lowered_later g h (own n i p (raised key at g) (up_there p g a)) (own n i q (raised key at h) (up_there q h b))
      (order n i p q (raised key at g) (raised key at h) l (up_there p g a) (up_there q h b))

pub feeds_lowered : (w w' : Web) (key : ℕ) (side : Side) (at : ℕ) (jack : Jack) (labels : List ℕ) → Raises w w' key side at jack → HasOwnLabel labels w' key → AreAllInOrder labels w' → AreAllInOrder labels w
feeds_lowered w w' key Inlets at jack labels X own order = inlets_lowered w w' key at jack labels X order
feeds_lowered w w' key Outlets at jack labels X own order = outlets_lowered w w' key at jack labels X own order
