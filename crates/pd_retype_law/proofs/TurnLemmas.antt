-- A wire that turns fits the box that comes.
use Rattle.std.proofs.Common.{◌≡◌, ℕ, zero, suc, Bool, true, false, cond, not, ◌&&◌, List, [], ◌∷◌, length, map, slice_get, Option, Some, None, refl, sym, ap, ◌∙◌, subst, inl, inr}
use Rattle.std.specs.List.{flat_map, range_with_len}
use Rattle.std.proofs.lemmas.Option.{none-some, same_Some}
use Rattle.pd_object.specs.declared.kinds.Kind.{Kind}
use Rattle.pd_grove.specs.declared.ports.Side.TheVariants.{Outlets}
use Rattle.pd_web.specs.declared.lines.Line.{Line}
use Rattle.pd_web.specs.declared.sockets.Spot.{Spot}
use Rattle.pd_web.specs.declared.web.Hop.{Hop}
use Rattle.pd_web.specs.declared.web.Web.{Web}
use Rattle.pd_web.specs.Canvases.{keys_at}
use Rattle.pd_web.specs.Changes.{hop_at, line_by, KeepsPorts, Meet}
use Rattle.pd_web.specs.Hops.{fan_hops, fan_keys, feed_keys, hop_by, hop_from, hop_to, ports_told}
use Rattle.pd_web.specs.Wiring.{sink_at, source_at}
use Rattle.pd_patch.specs.declared.patch.Patch.{Patch}
use Rattle.pd_taking.specs.Loosening.{line_at}
use Rattle.pd_misfits.specs.declared.wires.BoxWire.{BoxWire}
use Rattle.pd_misfits.specs.Misfits.{is_at, is_fit, turning, turns, wire_of}
use Rattle.pd_misfits.specs.Shedding.{is_among, is_left, Sheds}
use Rattle.pd_misfits.proofs.FitLemmas.{fits_still}
use Rattle.pd_misfits.proofs.ListLemmas.{from_flat, in_listed, listed_in, IsIn}
use Rattle.pd_misfits.proofs.ShedLemmas.{among_some, from_filter, in_filter}
use Rattle.pd_misfits.proofs.ToldLemmas.{turning_fits}

-- ---- a wire that stands in a fan-out

own_key : (k : ℕ) (o : Option Spot) → (hop_by k o).key ≡ k
own_key k None = refl
own_key k (Some s) = refl

mapped : (f : ℕ → Hop) → ((k : ℕ) → (f k).key ≡ k) → (keys : List ℕ) (i : ℕ) (h : Hop) → slice_get (map f keys) i ≡ Some h → f h.key ≡ h
mapped f own [] i h e = absurd (none-some h e)
mapped f own (k ∷ keys) zero h e =
    let s : f k ≡ h = same_Some (f k) h e in
    ap f (sym (ap (λ (x : Hop). x.key) s) ∙ own k) ∙ s
mapped f own (k ∷ keys) (suc i) h e = mapped f own keys i h e

-- it leads from where its key tells that it comes to where that tells that it leads
led : (w : Web) → Meet w → (node outlet i : ℕ) (h : Hop) → slice_get (fan_hops w node outlet) i ≡ Some h → line_by (hop_from w h.key) (hop_to w h.key) ≡ line_at Outlets node outlet h
led w M node outlet i h e =
    let f = M.fed node outlet i h e in
    let to : hop_to w h.key ≡ h = mapped (hop_to w) (λ k. own_key k (slice_get w.spots.items (sink_at w.book k))) (fan_keys w node outlet) i h e in
    let from : hop_from w h.key ≡ hop_at h.key node outlet =
    mapped (hop_from w) (λ k. own_key k (slice_get w.spots.items (source_at w.book k))) (feed_keys w h.node h.port) f.0 (hop_at h.key node outlet) f.1 in
    ap (λ (x : Hop). line_by x (hop_to w h.key)) from ∙ ap (λ (x : Hop). line_by (hop_at h.key node outlet) x) to

-- ---- one of the wires that turn

module _ (w : Web) (numbers : List ℕ) (key : ℕ) (k : Kind) where
  abbrev turns_here : ℕ → ℕ → Hop → List BoxWire
  turns_here node outlet h = cond (is_at key (line_at Outlets node outlet h) && turns w key k (line_at Outlets node outlet h)) (wire_of numbers h.key (line_at Outlets node outlet h) ∷ []) []

  abbrev turn_from : ℕ → ℕ → List BoxWire
  turn_from node outlet = flat_map (turns_here node outlet) (fan_hops w node outlet)

  abbrev turn_at : ℕ → List BoxWire
  turn_at node = flat_map (turn_from node) (range_with_len 0 (length (ports_told w Outlets node)))

  -- where it stands
  record Stands (m : BoxWire) : Type 0 where
    node : ℕ
    outlet : ℕ
    hop : Hop
    is_in : IsIn hop (fan_hops w node outlet)
    is : wire_of numbers hop.key (line_at Outlets node outlet hop) ≡ m

  chosen : (b : Bool) (x m : BoxWire) → IsIn m (cond b (x ∷ []) []) → x ≡ m
  chosen true x m (inl e) = e
  chosen true x m (inr i) = absurd i
  chosen false x m i = absurd i

  stands : (keys : List ℕ) (m : BoxWire) → IsIn m (flat_map turn_at keys) → Stands m
  stands keys m i =
      let F = from_flat turn_at keys m i in
      let G = from_flat (turn_from F.of) (range_with_len 0 (length (ports_told w Outlets F.of))) m F.has in
      let H = from_flat (turns_here F.of G.of) (fan_hops w F.of G.of) m G.has in
      let l = line_at Outlets F.of G.of H.of in
      record { node = F.of; outlet = G.of; hop = H.of; is_in = H.is_in; is = chosen (is_at key l && turns w key k l) (wire_of numbers H.of.key l) m H.has }

-- ---- wires that don't fit went

module _ (p : Patch) (v : Web) (canvas key : ℕ) (k : Kind) (gone : List BoxWire) (K : KeepsPorts p.web v) (S : Sheds p.web v gone) (M : Meet v) where
  pub turned_fit : (node outlet i : ℕ) (h : Hop) → slice_get (fan_hops v node outlet) i ≡ Some h → is_among (turning p canvas key k) h.key ≡ true
      → is_fit v key k (line_at Outlets node outlet h) ≡ true
  turned_fit node outlet i h at e =
      let s = among_some (turning p canvas key k) h.key e in
      let A = stands p.web p.numbers.items key k (keys_at p.grove canvas) s.0 s.1.0 in
      let g = A.hop in
      let same : g.key ≡ h.key = ap (λ (m : BoxWire). m.key) A.is ∙ sym s.1.1 in
      let left = from_filter (is_left gone) (fan_hops p.web node outlet) h (subst (λ (hs : List Hop). IsIn h hs) (S.fans node outlet) (in_listed h (fan_hops v node outlet) i at)) in
      let stays : IsIn g (fan_hops v A.node A.outlet) =
      subst (λ (hs : List Hop). IsIn g hs) (sym (S.fans A.node A.outlet))
      (in_filter (is_left gone) (fan_hops p.web A.node A.outlet) g A.is_in (ap (λ x. not (is_among gone x)) same ∙ left.1)) in
      let there = listed_in g (fan_hops v A.node A.outlet) stays in
      let line : s.0.line ≡ line_at Outlets node outlet h =
      sym (ap (λ (m : BoxWire). m.line) A.is) ∙ sym (led v M A.node A.outlet there.0 g there.1) ∙ ap (λ x. line_by (hop_from v x) (hop_to v x)) same ∙ led v M node outlet i h at in
      fits_still p.web v key k (line_at Outlets node outlet h) K
      ∙ subst (λ (l : Line). is_fit p.web key k l ≡ true) line (turning_fits p canvas key k s.0 s.1.0)
