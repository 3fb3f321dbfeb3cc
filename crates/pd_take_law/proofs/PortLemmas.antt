-- A port box that an edit deleted: the wires at the port went, then the box, and then the box around has the port no more.
use Rattle.std.proofs.Common.{◌≡◌, ◌≢◌, ◌<◌, ◌||◌, ℕ, zero, suc, Bool, false, filter, length, List, [], ◌∷◌, ◌++◌, map, slice_get, Option, Some, None, IsSome, eq-eqb, inl, inr, refl, sym, ap, ◌∙◌, subst, arith}
use Rattle.std.specs.List.{flat_map, range_with_len}
use Rattle.std.proofs.lemmas.Bool.{false≢true}
use Rattle.slab.specs.Slab.{get}
use Rattle.pd_atom.specs.Names.{Names}
use Rattle.pd_canvas.specs.declared.wires.Wire.{Wire}
use Rattle.pd_canvas.specs.declared.edits.Edit.TheVariants as edit
use Rattle.pd_canvas.specs.Edits.{edited}
use Rattle.pd_canvas.specs.Pages.{boxed, Page}
use Rattle.pd_canvas.specs.Paths.{edit_at}
use Rattle.pd_tree.specs.Trees.{Tree}
use Rattle.pd_grove.specs.declared.boards.Board.{Board}
use Rattle.pd_grove.specs.declared.grove.Grove.{Grove}
use Rattle.pd_grove.specs.declared.nodes.Node.{Node}
use Rattle.pd_grove.specs.declared.ports.PortSpot.{PortSpot}
use Rattle.pd_grove.specs.declared.ports.Side.{Side}
use Rattle.pd_grove.specs.declared.ports.Side.TheVariants.{Outlets}
use Rattle.pd_grove.specs.Forest.{holder_in}
use Rattle.pd_grove.specs.OwnPaths.{sub_reached}
use Rattle.pd_grove.specs.Standing.{GroveStands}
use Rattle.pd_grove.specs.Telling.{inner_in}
use Rattle.pd_web.specs.declared.jacks.Jack.{Jack}
use Rattle.pd_web.specs.declared.lines.Line.{Line}
use Rattle.pd_web.specs.declared.web.Hop.{Hop}
use Rattle.pd_web.specs.declared.web.Web.{Web}
use Rattle.pd_web.specs.Canvases.{keys_at}
use Rattle.pd_web.specs.Changes.{hop_at, IsListed, IsSame, KeepsPorts, Meet}
use Rattle.pd_web.specs.Homes.{inner_in as box_in}
use Rattle.pd_web.specs.Hops.{fan_hops, feed_hops, feed_keys, jack_told, ports_told}
use Rattle.pd_web.specs.Jacks.{jacks_at, spot_jack}
use Rattle.pd_present.specs.Presents.{box_wires, entry_at, outlet_wires, page_on, page_within, present_page, wire_along, wires_among}
use Rattle.pd_present.proofs.PresentLemmas.{within_none, within_suc}
use Rattle.pd_patch.specs.declared.patch.Patch.{Patch}
use Rattle.pd_patch.specs.Document.{present_document}
use Rattle.pd_patch.specs.Numbers.{AreApart, AreUnder}
use Rattle.pd_ports.specs.Boxes.{HasNoWires}
use Rattle.pd_boxes.specs.Put.{CanPut}
use Rattle.pd_boxes.proofs.AskingLemmas.{put_rewired}
use Rattle.pd_owning.specs.Bound.{is_among}
use Rattle.pd_owning.specs.Parts.{ArePart}
use Rattle.pd_reload_law.specs.Reloading.{RunsAs}
use Rattle.pd_saved_law.specs.Fitting.{WiresFit}
use Rattle.pd_alike_law.specs.Feeds.{FedOnce}
use Rattle.pd_alike_law.proofs.FeedLemmas.{feed_keys_of, keys_of}
use Rattle.pd_inside_law.specs.Inside.{HoldsWires}
use Rattle.pd_misfits.specs.Shedding.{is_left, IsWired}
use Rattle.pd_taking.specs.Loosening.{is_of_other, IsAt}
use Rattle.pd_taking_law.specs.Takes.{taken_at}
use Rattle.pd_taking_law.specs.Taking.{TakesBoxAt}
use Rattle.pd_taking_law.proofs.StayLemmas.{leads_from_root}
use Rattle.pd_adding.specs.declared.counts.Counts.{Counts}
use Rattle.pd_clearing.specs.Losing.{IsAtOne}
use Rattle.pd_following.specs.Ports.{port_jack}
use Rattle.pd_following.proofs.JackLemmas.{ports_held}
use Rattle.pd_following_law.specs.Raised.{StandsAt}
use Rattle.pd_leaving.specs.Wires.{port_wires}
use Rattle.pd_leaving.proofs.OutLemmas.{only_one}
use Rattle.pd_leaving_law.specs.Lowered.{less_port, port_cut}
use Rattle.pd_leaving_law.proofs.DocumentLemmas.{around_at, port_gone}
use Rattle.pd_deleting.specs.declared.deleting.OldBox.{OldBox}
use Rattle.pd_deleting.specs.Deletes.{TakesPort}
use Rattle.pd_take_law.proofs.GoneLemmas.{BoxWent}
use Rattle.pd_take_law.proofs.FitLemmas.{still_fit}
use Rattle.pd_take_law.proofs.InsideLemmas.{still_holds}
use Rattle.pd_take_law.proofs.DeletedLemmas.{port_at, port_leads, port_part}
use Rattle.pd_take_law.proofs.AroundLemmas.{leads_last}
use Rattle.pd_take_law.proofs.ShedLemmas.{fits_shed, gone_fed, holds_shed, WiresShed}
use Rattle.pd_take_law.proofs.LostLemmas.{fits_lost, holds_lost, HasLost}

-- ---- webs

both_kept : (w v u : Web) → KeepsPorts w v → KeepsPorts v u → KeepsPorts w u
both_kept w v u A B = record { ports = λ side k. B.ports side k ∙ A.ports side k; made = λ k. B.made k ∙ A.made k; homes = λ j. B.homes j ∙ A.homes j }

same_fed : (w v : Web) → IsSame w v → FedOnce w → FedOnce v
same_fed w v S F = record {
  lines = λ node inlet i h e. S.lines h.key ∙ F.lines node inlet i h (ap (λ (hs : List Hop). slice_get hs i) (sym (S.feeds node inlet)) ∙ e);
  once = λ node inlet. subst AreApart
      (sym (feed_keys_of w (feed_keys w node inlet)) ∙ ap keys_of (sym (S.feeds node inlet)) ∙ feed_keys_of v (feed_keys v node inlet)) (F.once node inlet);
}

lists_meet : (w v : Web) → ((k o : ℕ) → fan_hops v k o ≡ fan_hops w k o) → ((k i : ℕ) → feed_hops v k i ≡ feed_hops w k i) → Meet w → Meet v
lists_meet w v fans feeds m = record {
  fed = λ node outlet i h e.
      subst (λ (hs : List Hop). IsListed hs (hop_at h.key node outlet)) (sym (feeds h.node h.port))
      (m.fed node outlet i h (ap (λ (hs : List Hop). slice_get hs i) (sym (fans node outlet)) ∙ e));
  fanned = λ node inlet i h e.
      subst (λ (hs : List Hop). IsListed hs (hop_at h.key node inlet)) (sym (fans h.node h.port))
      (m.fanned node inlet i h (ap (λ (hs : List Hop). slice_get hs i) (sym (feeds node inlet)) ∙ e));
}

fed_wired : (w : Web) → Meet w → FedOnce w → IsWired w
fed_wired w M F = record {
  fans = λ node outlet i h e. let f = M.fed node outlet i h e in F.lines h.node h.port f.0 (hop_at h.key node outlet) f.1;
  feeds = F.lines;
}

not_one : (x key : ℕ) → is_among (key ∷ []) x ≡ false → x ≢ key
not_one x key f e = false≢true (sym f ∙ ap (λ b. b || false) (eq-eqb x key e))

at_one : (key : ℕ) (l : Line) → IsAt key l → IsAtOne (key ∷ []) l
at_one key l (inl e) = inl (ap (λ b. b || false) (eq-eqb l.source key e))
at_one key l (inr e) = inr (ap (λ b. b || false) (eq-eqb l.sink key e))

spot_boxes : (spots : List PortSpot) (i : ℕ) → i < length (map spot_jack spots) → IsSome (box_in (slice_get (map spot_jack spots) i))
spot_boxes [] i l = absurd (omega (arith, l))
spot_boxes (s ∷ spots) zero l = refl
spot_boxes (s ∷ spots) (suc i) l = spot_boxes spots i (omega (arith, l))

-- ---- the document where there is more room

module _ (w v : Web) (S : IsSame w v) (numbers : List ℕ) where
  box_same : (k : ℕ) → box_wires v numbers k ≡ box_wires w numbers k
  box_same k =
      ap (λ (js : List Jack). flat_map (outlet_wires v numbers k) (range_with_len 0 (length js))) (S.kept.ports Outlets k)
      ∙ ap (λ (f : ℕ → List Wire). flat_map f (range_with_len 0 (length (ports_told w Outlets k)))) (λ i o. ap (map (wire_along numbers k o)) (S.fans k o) i)

  among_same : (keys : List ℕ) → wires_among v numbers keys ≡ wires_among w numbers keys
  among_same keys = ap (λ (f : ℕ → List Wire). flat_map f keys) (λ i k. box_same k i)

  module _ (nodes : ℕ → Option Node) (boards : ℕ → Option Board) where
    page_same : (inside : ℕ → Page) (o : Option Board) → page_on v numbers nodes inside o ≡ page_on w numbers nodes inside o
    page_same inside None = refl
    page_same inside (Some b) =
        ap (λ (ws : List Wire). record {
          header = b.sheet.header;
          kept = b.sheet.kept;
          boxes = boxed (map (λ k. entry_at inside (nodes k)) b.nodes.items);
          wires = ws;
          coords = b.sheet.coords;
        }) (among_same b.nodes.items)

    within_same : (n c : ℕ) → page_within v numbers nodes boards n c ≡ page_within w numbers nodes boards n c
    within_same zero c = within_none v numbers nodes boards c ∙ sym (within_none w numbers nodes boards c)
    within_same (suc n) c =
        within_suc v numbers nodes boards n c ∙ ap (λ (f : ℕ → Page). page_on v numbers nodes f (boards c)) (λ i x. within_same n x i)
        ∙ page_same (page_within w numbers nodes boards n) (boards c) ∙ sym (within_suc w numbers nodes boards n c)

-- ---- the patch

module _ (old new : Patch) (n : Counts) (table : Names) (path : List ℕ) (number steps steps' : ℕ) (b : OldBox) (X : TakesPort old new n table path number steps steps' b) where
  B : TakesBoxAt old.grove new.grove path b.canvas b.key number
  B = port_at old new n table path number steps steps' b X

  leads : sub_reached old.grove (Some old.grove.root) path ≡ Some b.canvas
  leads = port_leads old new n table path number steps steps' b X

  held : holder_in (get old.grove.boards b.canvas) ≡ Some X.holder
  held = ap (λ (g : Grove). holder_in (get g.boards b.canvas)) (sym X.room.grove) ∙ X.can.at.held

  way : (path' : List ℕ) × (m : ℕ) × (path ≡ path' ++ m ∷ [])
  way = leads_last old.grove B.forest path b.canvas X.holder leads held

  pub port_inside : (way : List ℕ) × (around : ℕ) × (path ≡ way ++ around ∷ [])
  port_inside = way

  was_there : StandsAt old.grove way.0 way.1 X.holder
  was_there = around_at old.grove B.forest way.0 way.1 b.canvas X.holder (ap (λ p. sub_reached old.grove (Some old.grove.root) p) (sym way.2) ∙ leads) held

  -- The wires at the port went.

  abbrev loose : Patch
  loose = X.taken.loose

  abbrev out : Patch
  out = X.taken.out

  loose_grove : loose.grove ≡ old.grove
  loose_grove = X.taken.loosens.rest.grove ∙ X.room.grove

  abbrev keep : Hop → Bool
  keep = is_left (port_wires X.ready X.holder X.side X.port)

  shed : CanPut old → WiresShed old loose X.holder keep
  shed C =
      let I = X.taken in
      let R = X.room.web in
      record {
        grove = loose_grove;
        numbers = I.loosens.rest.numbers ∙ X.room.numbers;
        kept = both_kept old.web X.ready.web loose.web R.kept I.loosens.web.kept;
        fans = λ k o. I.sheds.fans k o ∙ ap (filter keep) (R.fans k o);
        feeds = λ k i. I.sheds.feeds k i ∙ ap (filter keep) (R.feeds k i);
        other_fans = λ k o d. I.loosens.web.fans k o d ∙ ap (filter (is_of_other X.holder)) (R.fans k o);
        other_feeds = λ k i d. I.loosens.web.feeds k i d ∙ ap (filter (is_of_other X.holder)) (R.feeds k i);
        was = C.runs;
        rewires = I.loosens.rewires;
        fed = λ F. gone_fed X.holder X.ready loose I.loosens.gone I.loosens.one_by_one (same_fed old.web X.ready.web R F);
        meet = I.loosens.web.meet;
      }

  loose_can : CanPut old → CanPut loose
  loose_can C = put_rewired old loose loose_grove X.taken.loosens.rewires C

  -- The box went.

  went : CanPut old → BoxWent loose out path b.canvas b.key number (b.key ∷ [])
  went C =
      let I = X.taken in
      let W = I.own_wires in
      let P = I.goes.ports in
      let bare : HasNoWires out.web b.key = record { fans = λ o. P.fans b.key o ∙ W.bare.fans o; feeds = λ i. P.feeds b.key i ∙ W.bare.feeds i } in
      record {
        at = subst (λ (g : Grove). TakesBoxAt g out.grove path b.canvas b.key number) (sym loose_grove)
            (subst (λ (g : Grove). TakesBoxAt old.grove g path b.canvas b.key number) I.leaves.rest.grove B);
        is_part = subst (λ (g : Grove). ArePart (get g.nodes) (get g.boards) b.key (b.key ∷ [])) (sym loose_grove) (port_part old new n table path number steps steps' b X C);
        wires = record {
          bare = λ k t. subst (HasNoWires out.web) (sym (only_one k b.key t)) bare;
          fans = λ k o away. P.fans k o ∙ W.fans k o (not_one k b.key away);
          feeds = λ k i away. P.feeds k i ∙ W.feeds k i (not_one k b.key away);
          other_lines = λ k l apart told. P.lines k ∙ W.other_lines k l (λ at. apart (at_one b.key l at)) told;
          none_comes = λ k none. P.lines k ∙ W.none_comes k none;
        };
        ports = λ side k away. P.other_ports side k (not_one k b.key away) ∙ W.kept.ports side k;
        made = λ k away. P.others_made k (not_one k b.key away) ∙ W.kept.made k;
        numbers = λ c. subst (λ (g : Grove). AreUnder out.numbers.items (keys_at g c)) I.leaves.rest.grove
            (subst (λ ns. AreUnder ns.items (keys_at new.grove c)) I.leaves.rest.numbers (I.can.runs.numbers c));
        meet = lists_meet I.ready.web out.web P.fans P.feeds W.meet;
      }

  -- The box around has the port no more.

  held_now : holder_in (get new.grove.boards b.canvas) ≡ Some X.holder
  held_now = ap holder_in B.takes.without ∙ B.takes.holder ∙ sym (ap holder_in B.takes.board) ∙ held

  stands_now : StandsAt new.grove way.0 way.1 X.holder
  stands_now =
      around_at new.grove X.taken.can.forest way.0 way.1 b.canvas X.holder
      (ap (λ p. sub_reached new.grove (Some new.grove.root) p) (sym way.2) ∙ leads_from_root old.grove new.grove path b.canvas b.key number B) held_now

  holds_now : inner_in (get new.grove.nodes X.holder) ≡ Some b.canvas
  holds_now = X.taken.can.forest.held b.canvas X.holder held_now

  boxes_now : (side : Side) (i : ℕ) → i < length (ports_told new.web side X.holder) → IsSome (box_in (jack_told new.web side X.holder i))
  boxes_now side =
      subst (λ (js : List Jack). (i : ℕ) → i < length js → IsSome (box_in (slice_get js i))) (sym (X.taken.can.runs.ports.ports side X.holder ∙ ports_held new.grove side X.holder b.canvas holds_now))
      (spot_boxes _)

  abbrev jack : Jack
  jack = port_jack X.side X.taken.goes.node.kind b.key

  lost : HasLost out new X.holder X.side X.port jack (jacks_at X.side new.grove X.holder)
  lost =
      let L = X.taken.leaves in
      record {
        grove = L.rest.grove;
        numbers = L.rest.numbers;
        can = X.taken.can;
        lowers = L.lowers;
        follows = L.follows;
        boxes = boxes_now;
        meet = L.meet;
        path = way.0;
        number = way.1;
        stands = stands_now;
      }

  -- All of it.

  pub port_fits : CanPut old → WiresFit old → WiresFit new
  port_fits C f =
      fits_lost out new X.holder X.side X.port jack (jacks_at X.side new.grove X.holder) lost
      (still_fit loose out path b.canvas b.key number (b.key ∷ []) (went C) (loose_can C) (fits_shed old loose X.holder keep (shed C) f))

  pub port_holds : CanPut old → (t : Tree) → RunsAs old.grove t → HoldsWires old t → HoldsWires new (taken_at path number t)
  port_holds C t R h =
      holds_lost out new X.holder X.side X.port jack (jacks_at X.side new.grove X.holder) lost (taken_at path number t)
      (still_holds loose out path b.canvas b.key number (b.key ∷ []) (went C) (loose_can C) X.taken.loosens.web.meet t (subst (λ (g : Grove). RunsAs g t) (sym loose_grove) R)
      (holds_shed old loose X.holder keep (shed C) C.forest way.0 way.1 was_there t h))

  same_document : present_document X.ready ≡ present_document old
  same_document =
      ap (λ (g : Grove). present_page g X.ready.web X.ready.numbers.items) X.room.grove ∙ ap (λ ns. present_page old.grove X.ready.web ns.items) X.room.numbers
      ∙ within_same old.web X.ready.web X.room.web old.numbers.items (get old.grove.nodes) (get old.grove.boards) 257 old.grove.root

module _ (old new : Patch) (n : Counts) (table : Names) (path : List ℕ) (around number steps steps' : ℕ) (b : OldBox) (t : Tree) (X : TakesPort old new n table (path ++ around ∷ []) number steps steps' b) where
  pub port_document : RunsAs old.grove t → HoldsWires old t
      → present_document new
      ≡ edit_at path (less_port X.side around X.port) (edit_at (path ++ around ∷ []) (edited (edit.Delete number)) (edit_at path (port_cut X.side around X.port) (present_document old)))
  port_document R h =
      port_gone X.ready new table (record { canvas = b.canvas; number = number }) b.key X.holder X.side X.port steps steps' X.can X.taken
      (fed_wired X.ready.web X.can.meet (same_fed old.web X.ready.web X.room.web h.fed)) path around t (subst (λ (g : Grove). GroveStands g t.sheet t.boxes) (sym X.room.grove) R.stands)
      (ap (λ (g : Grove). sub_reached g (Some g.root) (path ++ around ∷ [])) X.room.grove ∙ leads old new n table (path ++ around ∷ []) number steps steps' b X)
      ∙ ap (λ (d : Page). edit_at path (less_port X.side around X.port) (edit_at (path ++ around ∷ []) (edited (edit.Delete number)) (edit_at path (port_cut X.side around X.port) d)))
      (same_document old new n table (path ++ around ∷ []) number steps steps' b X)
