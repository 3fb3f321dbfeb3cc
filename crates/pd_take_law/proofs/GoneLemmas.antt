-- A box that went from a canvas at a path with all that lay in it.
use Rattle.std.proofs.Common.{◌≡◌, ◌≢◌, ℕ, zero, ◌+◌, false, take, drop, length, List, [], slice_get, Option, Some, None, IsSome, refl, sym, ap, ◌∙◌}
use Rattle.std.proofs.lemmas.Bool.{both_ways}
use Rattle.std.proofs.lemmas.Option.{none-some, same_Some}
use Rattle.slab.specs.Slab.{get}
use Rattle.pd_clock.specs.declared.times.Rate.{Rate}
use Rattle.pd_tree.specs.Trees.{Tree}
use Rattle.pd_grove.specs.declared.grove.Grove.{Grove}
use Rattle.pd_grove.specs.declared.nodes.Node.{Node}
use Rattle.pd_grove.specs.declared.ports.Side.{Side}
use Rattle.pd_grove.specs.Owning.{board_in}
use Rattle.pd_web.specs.declared.web.Hop.{Hop}
use Rattle.pd_web.specs.Canvases.{keys_at}
use Rattle.pd_web.specs.Changes.{hop_at, Meet}
use Rattle.pd_web.specs.Hops.{fan_hops, feed_hops, ports_told}
use Rattle.pd_web.specs.Sockets.{made_at}
use Rattle.pd_patch.specs.declared.patch.Patch.{Patch}
use Rattle.pd_patch.specs.Linked.{ShareCanvas}
use Rattle.pd_patch.specs.Listing.{IsThere}
use Rattle.pd_patch.specs.Numbers.{AreUnder}
use Rattle.pd_wiring.specs.Changes.{CanRewire}
use Rattle.pd_wiring.proofs.HeardLemmas.{all_at}
use Rattle.pd_boxes.specs.Put.{CanPut}
use Rattle.pd_owning.specs.Bound.{is_among, AreNew}
use Rattle.pd_owning.specs.Parts.{ArePart}
use Rattle.pd_clearing.specs.Clearing.{KeepsOtherWires}
use Rattle.pd_clearing.proofs.PartLemmas.{beside, not_among}
use Rattle.pd_reload_law.specs.Reloading.{RunsAs}
use Rattle.pd_reload_law.specs.Wires.{StayAmong}
use Rattle.pd_putting_law.proofs.PathLemmas.{live_box}
use Rattle.pd_taking_law.specs.Takes.{taken_at}
use Rattle.pd_taking_law.specs.Taking.{TakesBoxAt, CutsBox}
use Rattle.pd_taking_law.proofs.StandLemmas.{runs_less}
use Rattle.pd_taking_law.proofs.StayLemmas.{forest_still}
use Rattle.pd_deleting.specs.Deletes.{values_of}
use Rattle.pd_take_law.proofs.CountLemmas.{IsLess, trees_less}

-- A box went from the canvas to which a path leads, with all that lay in it. Each other box has its ports, and its wires to others than that box.
pub record BoxWent (old new : Patch) (path : List ℕ) (canvas key number : ℕ) (part : List ℕ) : Type 0 where
  pub at : TakesBoxAt old.grove new.grove path canvas key number
  pub is_part : ArePart (get old.grove.nodes) (get old.grove.boards) key part
  pub wires : KeepsOtherWires old new key part
  pub ports : (side : Side) (k : ℕ) → is_among part k ≡ false → ports_told new.web side k ≡ ports_told old.web side k
  pub made : (k : ℕ) → is_among part k ≡ false → made_at new.web.sockets.items k ≡ made_at old.web.sockets.items k
  pub numbers : (c : ℕ) → AreUnder new.numbers.items (keys_at new.grove c)
  pub meet : Meet new.web

-- wires that stay in their canvases stay among their boxes
pub stay_among : (p : Patch) → CanRewire p → (c : ℕ) → StayAmong p.web (keys_at p.grove c)
stay_among p R c k outlet i h among at =
    let s = all_at (λ (x : Hop). ShareCanvas p.grove k x.node) (fan_hops p.web k outlet) i h (R.inside k outlet) at in
    let same : s.canvas ≡ c = same_Some s.canvas c (sym (R.own.home s.canvas s.one.0 k s.one.1) ∙ R.own.home c among.0 k among.1) in
    (s.other.0, ap (λ x. slice_get (keys_at p.grove x) s.other.0) (sym same) ∙ s.other.1)

module _ (g h : Grove) (path : List ℕ) (canvas key number : ℕ) (B : TakesBoxAt g h path canvas key number) where
  -- what lies in a canvas lay in it
  pub was_there : (c i k : ℕ) → slice_get (keys_at h c) i ≡ Some k → IsThere (keys_at g c) k
  was_there c i k at =
      let lies = (forest_still g h path canvas key number B).own.home c i k at in
      let same = B.takes.none_comes k (lives (get h.nodes k) c lies) in
      B.forest.placed k c (ap board_in (sym same) ∙ lies)
    where
      lives : (o : Option Node) (c : ℕ) → board_in o ≡ Some c → IsSome o
      lives None c e = absurd (none-some c e)
      lives (Some x) c e = refl

  -- The boxes that went.

  module _ (part : List ℕ) (A : ArePart (get g.nodes) (get g.boards) key part) where
    -- what lives went not
    pub stays_out : (k : ℕ) → IsSome (get h.nodes k) → is_among part k ≡ false
    stays_out k live =
        not_among (get g.nodes) (get g.boards) g.root B.forest key part A (get h.nodes) (get h.boards) canvas B.node (take number (keys_at g canvas)) (drop (number + 1) (keys_at g canvas))
        B.takes k live

    pub lies_out : (c i k : ℕ) → slice_get (keys_at h c) i ≡ Some k → is_among part k ≡ false
    lies_out c i k at = stays_out k (live_box h (forest_still g h path canvas key number B) c i k at)

    -- and isn't the box
    pub not_key : (k : ℕ) → is_among part k ≡ false → k ≢ key
    not_key k out e = both_ways (is_among part k) out (ap (is_among part) e ∙ (A key).1 (zero, refl))

    -- what stood counted the boxes that went
    pub counts_less_by : AreNew part [] → (rate : Rate) (t : Tree) → RunsAs g t → IsLess rate t.boxes (taken_at path number t).boxes (length part) (values_of rate g part)
    counts_less_by once rate t R =
        let S = runs_less g h path canvas key number t B R in
        trees_less g h canvas key B.node (take number (keys_at g canvas)) (drop (number + 1) (keys_at g canvas)) part B.forest B.root B.takes A once rate t (taken_at path number t)
        R.stands R.shallow S.stands S.shallow

module _ (old new : Patch) (path : List ℕ) (canvas key number : ℕ) (part : List ℕ) (D : BoxWent old new path canvas key number part) (C : CanPut old) where
  -- what feeds a box that stays went not, if it isn't the box itself
  pub feeder_out : Meet old.web → (k inlet i : ℕ) (h : Hop) → is_among part k ≡ false → slice_get (feed_hops old.web k inlet) i ≡ Some h → h.node ≢ key → is_among part h.node ≡ false
  feeder_out meet k inlet i h out at d =
      let f = meet.fanned k inlet i h at in
      let s = all_at (λ (x : Hop). ShareCanvas old.grove h.node x.node) (fan_hops old.web h.node h.port) f.0 (hop_at h.key k inlet) (C.runs.inside h.node h.port) f.1 in
      beside (get old.grove.nodes) (get old.grove.boards) old.grove.root C.forest key part D.is_part k h.node s.canvas out
      (C.forest.own.home s.canvas s.other.0 k s.other.1) (C.forest.own.home s.canvas s.one.0 h.node s.one.1) d

  pub wires_gone : CutsBox old.grove new.grove old.web new.web old.numbers.items new.numbers.items key
  wires_gone = record {
    inside = stay_among old C.runs;
    fans = λ k outlet live. D.wires.fans k outlet (stays_out old.grove new.grove path canvas key number D.at part D.is_part k live);
    numbered = C.runs.numbers;
    renumbered = D.numbers;
  }
