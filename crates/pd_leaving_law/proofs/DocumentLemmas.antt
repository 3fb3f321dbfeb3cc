-- The document of a patch from which a port box went.
use Rattle.std.proofs.Common.{◌≡◌, ◌≢◌, ℕ, ◌+◌, ◌≤◌, Bool, true, false, cond, List, [], ◌∷◌, ◌++◌, filter, map, length, slice_get, Option, Some, None, IsSome, refl, sym, ap, ◌∙◌, subst, arith}
use Rattle.std.specs.Prelude.{option_and_then}
use Rattle.std.proofs.lemmas.Bool.{false≢true}
use Rattle.std.proofs.lemmas.Option.{none-some, option_and_then_some, same_Some}
use Rattle.slab.specs.Slab.{get}
use Rattle.pd_atom.specs.Names.{Names}
use Rattle.pd_canvas.specs.declared.edits.Edit.TheVariants as edit
use Rattle.pd_canvas.specs.Edits.{edited}
use Rattle.pd_canvas.specs.Paths.{edit_at}
use Rattle.pd_canvas.specs.Views.{entry_of}
use Rattle.pd_tree.specs.Trees.{Tree}
use Rattle.pd_grove.specs.declared.nodes.Node.{Node}
use Rattle.pd_grove.specs.declared.grove.Grove.{Grove}
use Rattle.pd_grove.specs.declared.ports.Side.{Side}
use Rattle.pd_grove.specs.Forest.{holder_in, IsForest}
use Rattle.pd_grove.specs.OwnPaths.{sub_in, sub_reached, sub_step_in}
use Rattle.pd_grove.specs.Standing.{GroveStands}
use Rattle.pd_grove.specs.Telling.{inner_in, keys_in, reached}
use Rattle.pd_grove.specs.TextOrder.{deep, is_sub}
use Rattle.pd_web.specs.Canvases.{keys_at}
use Rattle.pd_present.specs.Presents.{present_page}
use Rattle.pd_patch.specs.declared.patch.Patch.{Patch}
use Rattle.pd_patch.proofs.WayLemmas.{path_short, path_whole}
use Rattle.pd_boxes.specs.declared.room.Place.{Place}
use Rattle.pd_reload_law.specs.Wires.{AreNumbered, IsAmong, StayAmong, RewiresAt}
use Rattle.pd_reload_law.proofs.EditLemmas.{document_edited}
use Rattle.pd_saved_law.proofs.EditLemmas.{stays_among, sub_leads}
use Rattle.pd_misfits.specs.Shedding.{IsWired}
use Rattle.pd_following.specs.Ports.{port_jack}
use Rattle.pd_following_law.specs.Raised.{StandsAt}
use Rattle.pd_following_law.proofs.DocumentLemmas.{lives_by, short}
use Rattle.pd_putting_law.proofs.StandLemmas.{deep_within}
use Rattle.pd_taking_law.specs.Takes.{taken_at}
use Rattle.pd_taking_law.specs.Taking.{CutsBox, TakesBoxAt}
use Rattle.pd_taking_law.proofs.PageLemmas.{document_less}
use Rattle.pd_taking_law.proofs.StandLemmas.{grove_less}
use Rattle.pd_taking_law.proofs.StayLemmas.{forest_still, leads_from_root}
use Rattle.pd_leaving.specs.Leaving.{CanTakePort, IsPortTaken}
use Rattle.pd_leaving_law.specs.Lowered.{less_port, lowered_wire, misses, port_cut}
use Rattle.pd_leaving_law.proofs.WireLemmas.{cut_away, cut_here, lower_away, lower_here}

-- What stands at a path stands at no other.
module _ (g : Grove) (numbers : List ℕ) (num : (c : ℕ) → AreNumbered numbers (keys_at g c)) (F : IsForest (get g.nodes) (get g.boards) g.root) (t : Tree) (G : GroveStands g t.sheet t.boxes) (low : deep t.boxes ≤ 256)
    (path : List ℕ) (n holder : ℕ) (A : StandsAt g path n holder) where
  once_at : (other : List ℕ) → reached g (Some g.root) other ≡ Some A.canvas → path ≡ other
  once_at other also =
      sym (path_whole g numbers t.sheet t.boxes path A.canvas G num low (sub_leads g g.root A.canvas path A.leads))
      ∙ path_whole g numbers t.sheet t.boxes other A.canvas G num low also

  away : (c : ℕ) → c ≢ A.canvas → IsAmong (keys_at g c) holder → ⊥
  away c d there = d (same_Some c A.canvas (sym (F.own.home c there.0 holder there.1) ∙ F.own.home A.canvas n holder A.at))

  path_low : length path ≤ 256
  path_low = short (length path) (deep t.boxes) (path_short g t.sheet t.boxes path A.canvas G (sub_leads g g.root A.canvas path A.leads)) low

-- The box around stands where the path to the canvas leads to last.

last_step : (g : Grove) (here : Option ℕ) (path : List ℕ) (n : ℕ) → sub_reached g here (path ++ n ∷ []) ≡ option_and_then (λ c. sub_step_in g c n) (sub_reached g here path)
last_step g here [] n = refl
last_step g here (m ∷ path) n = last_step g (option_and_then (λ c. sub_step_in g c m) here) path n

sub_inner : (o : Option Node) (d : ℕ) → sub_in o ≡ Some d → inner_in o ≡ Some d
sub_inner None d h = absurd (none-some d h)
sub_inner (Some m) d h = by (is_sub (entry_of m.element).head.form) h
  where
    by : (b : Bool) → cond b m.inner None ≡ Some d → m.inner ≡ Some d
    by true e = e
    by false e = absurd (none-some d e)

pub around_at : (g : Grove) (F : IsForest (get g.nodes) (get g.boards) g.root) (path : List ℕ) (n canvas holder : ℕ) → sub_reached g (Some g.root) (path ++ n ∷ []) ≡ Some canvas → holder_in (get g.boards canvas) ≡ Some holder
    → StandsAt g path n holder
around_at g F path n canvas holder leads held =
    option_and_then_some (λ c. sub_step_in g c n) (sub_reached g (Some g.root) path) canvas (sym (last_step g (Some g.root) path n) ∙ leads) (λ c on step.
    option_and_then_some (λ k. sub_in (get g.nodes k)) (slice_get (keys_in (get g.boards c)) n) canvas step (λ k at sub.
    let same : k ≡ holder = same_Some k holder (sym (F.inside k canvas (sub_inner (get g.nodes k) canvas sub)) ∙ held) in
    record { canvas = c; leads = on; at = at ∙ ap (λ x. Some x) same }))

plain : (n : ℕ) → n + 0 ≤ 256 → n ≤ 256
plain n h = omega (arith, h)

-- no more canvases lie in one another in a tree than may
deep_low : (g : Grove) → IsForest (get g.nodes) (get g.boards) g.root → (t : Tree) → GroveStands g t.sheet t.boxes → deep t.boxes ≤ 256
deep_low g F t G = plain (deep t.boxes) (deep_within (get g.nodes) (get g.boards) g.root 0 G.keys t.boxes F.shallow G.stands (omega arith))

module _ (p q : Patch) (table : Names) (place : Place) (key holder : ℕ) (side : Side) (port steps steps' : ℕ) (C : CanTakePort p place key holder side port)
    (I : IsPortTaken p q table place key holder side port steps steps') where
  same_loose : I.ready.grove ≡ I.loose.grove
  same_loose = I.own.rest.grove

  same_out : q.grove ≡ I.out.grove
  same_out = I.leaves.rest.grove

  -- The wires at the port went.
  module _ (W : IsWired p.web) (path : List ℕ) (n : ℕ) (t : Tree) (G : GroveStands p.grove t.sheet t.boxes) (A : StandsAt p.grove path n holder) where
    low : deep t.boxes ≤ 256
    low = deep_low p.grove C.can.forest t G

    cuts : RewiresAt p.grove p.web I.loose.web p.numbers.items path A.canvas (filter (misses side n port))
    cuts = record {
      lives = lives_by (get p.grove.boards A.canvas) n holder A.at;
      once = once_at p.grove p.numbers.items C.can.runs.numbers C.can.forest t G low path n holder A;
      here = cut_here p.web I.loose.web p.numbers.items (keys_at p.grove A.canvas) holder port C.meet W (stays_among p A.canvas C.can.runs) I.loosens.web.kept side I.sheds n (C.can.runs.numbers A.canvas) A.at;
      others = λ c d. cut_away p.web I.loose.web p.numbers.items (keys_at p.grove c) holder port C.meet W (stays_among p c C.can.runs) I.loosens.web.kept side I.sheds
          (away p.grove p.numbers.items C.can.runs.numbers C.can.forest t G low path n holder A c d);
    }

    loose_document : present_page I.loose.grove I.loose.web I.loose.numbers.items ≡ edit_at path (port_cut side n port) (present_page p.grove p.web p.numbers.items)
    loose_document =
        ap (λ (g : Grove). present_page g I.loose.web I.loose.numbers.items) I.loosens.rest.grove ∙ ap (λ ns. present_page p.grove I.loose.web ns.items) I.loosens.rest.numbers
        ∙ document_edited p.grove p.web I.loose.web p.numbers.items path A.canvas (filter (misses side n port)) cuts A.leads (path_low p.grove p.numbers.items C.can.runs.numbers C.can.forest t G low path n holder A)

  -- The box went, and its wires.

  numbered_now : (c : ℕ) → AreNumbered I.out.numbers.items (keys_at I.out.grove c)
  numbered_now c = subst (λ (g : Grove). AreNumbered I.out.numbers.items (keys_at g c)) same_out (subst (λ ns. AreNumbered ns.items (keys_at q.grove c)) I.leaves.rest.numbers (I.can.runs.numbers c))

  -- from each grove that is that of the patch
  takes_from : (g : Grove) → I.ready.grove ≡ g → (inner : List ℕ) → sub_reached g (Some g.root) inner ≡ Some place.canvas → IsForest (get g.nodes) (get g.boards) g.root
      → slice_get (keys_at g place.canvas) place.number ≡ Some key → TakesBoxAt g I.out.grove inner place.canvas key place.number
  takes_from g e inner =
      subst (λ (x : Grove). sub_reached x (Some x.root) inner ≡ Some place.canvas → IsForest (get x.nodes) (get x.boards) x.root → slice_get (keys_at x place.canvas) place.number ≡ Some key
      → TakesBoxAt x I.out.grove inner place.canvas key place.number) e
      (λ leads F is. record { forest = F; leads = leads; is = is; node = I.goes.node; takes = I.goes.grove; root = I.goes.root })

  pub takes_at : (inner : List ℕ) → sub_reached p.grove (Some p.grove.root) inner ≡ Some place.canvas → TakesBoxAt p.grove q.grove inner place.canvas key place.number
  takes_at inner leads = subst (λ (g : Grove). TakesBoxAt p.grove g inner place.canvas key place.number) (sym same_out) (takes_from p.grove (same_loose ∙ I.loosens.rest.grove) inner leads C.can.forest C.is)

  not_key : (k : ℕ) → IsSome (get I.out.grove.nodes k) → k ≢ key
  not_key k live e = gone (get I.out.grove.nodes k) (ap (get I.out.grove.nodes) e ∙ I.goes.grove.gone) live
    where
      gone : {Y : Type 0} (y : Option Y) → y ≡ None → IsSome y → ⊥
      gone None e h = false≢true h
      gone (Some y) e h = none-some y (sym e)

  cuts_box : CutsBox I.loose.grove I.out.grove I.loose.web I.out.web I.loose.numbers.items I.out.numbers.items key
  cuts_box = record {
    inside = λ c. stays_among I.loose c I.loosens.rewires;
    fans = λ k o live. I.goes.ports.fans k o ∙ I.own_wires.fans k o (not_key k live);
    numbered = I.loosens.rewires.numbers;
    renumbered = numbered_now;
  }

  out_document : (inner : List ℕ) → sub_reached p.grove (Some p.grove.root) inner ≡ Some place.canvas
      → present_page I.out.grove I.out.web I.out.numbers.items ≡ edit_at inner (edited (edit.Delete place.number)) (present_page I.loose.grove I.loose.web I.loose.numbers.items)
  out_document inner leads =
      document_less I.loose.grove I.out.grove I.loose.web I.out.web I.loose.numbers.items I.out.numbers.items inner place.canvas key place.number
      (takes_from I.loose.grove same_loose inner (ap (λ (g : Grove). sub_reached g (Some g.root) inner) I.loosens.rest.grove ∙ leads)
      (subst (λ (g : Grove). IsForest (get g.nodes) (get g.boards) g.root) (sym I.loosens.rest.grove) C.can.forest)
      (ap (λ (g : Grove). slice_get (keys_at g place.canvas) place.number) I.loosens.rest.grove ∙ C.is)) cuts_box

  -- The port is gone.
  module _ (path : List ℕ) (n : ℕ) (u : Tree) (G : GroveStands I.out.grove u.sheet u.boxes) (F : IsForest (get I.out.grove.nodes) (get I.out.grove.boards) I.out.grove.root) (A : StandsAt I.out.grove path n holder) where
    low_now : deep u.boxes ≤ 256
    low_now = deep_low I.out.grove F u G

    stay_now : (c : ℕ) → StayAmong q.web (keys_at I.out.grove c)
    stay_now c = subst (λ (g : Grove). StayAmong q.web (keys_at g c)) same_out (stays_among q c I.can.runs)

    lowers : RewiresAt I.out.grove I.out.web q.web I.out.numbers.items path A.canvas (map (lowered_wire side n port))
    lowers = record {
      lives = lives_by (get I.out.grove.boards A.canvas) n holder A.at;
      once = once_at I.out.grove I.out.numbers.items numbered_now F u G low_now path n holder A;
      here = lower_here q.web I.out.web I.out.numbers.items (keys_at I.out.grove A.canvas) holder n port (port_jack side I.goes.node.kind key) (numbered_now A.canvas) (stay_now A.canvas) A.at side I.leaves.lowers;
      others = λ c d. lower_away q.web I.out.web I.out.numbers.items (keys_at I.out.grove c) holder port (port_jack side I.goes.node.kind key) (stay_now c)
          (away I.out.grove I.out.numbers.items numbered_now F u G low_now path n holder A c d) side I.leaves.lowers;
    }

    lost_document : present_page q.grove q.web q.numbers.items ≡ edit_at path (less_port side n port) (present_page I.out.grove I.out.web I.out.numbers.items)
    lost_document =
        ap (λ (g : Grove). present_page g q.web q.numbers.items) same_out ∙ ap (λ ns. present_page I.out.grove q.web ns.items) I.leaves.rest.numbers
        ∙ document_edited I.out.grove I.out.web q.web I.out.numbers.items path A.canvas (map (lowered_wire side n port)) lowers A.leads
        (path_low I.out.grove I.out.numbers.items numbered_now F u G low_now path n holder A)

  -- All of it.

  pub port_gone : IsWired p.web → (path : List ℕ) (n : ℕ) (t : Tree) → GroveStands p.grove t.sheet t.boxes → sub_reached p.grove (Some p.grove.root) (path ++ n ∷ []) ≡ Some place.canvas
      → present_page q.grove q.web q.numbers.items
      ≡ edit_at path (less_port side n port) (edit_at (path ++ n ∷ []) (edited (edit.Delete place.number)) (edit_at path (port_cut side n port) (present_page p.grove p.web p.numbers.items)))
  port_gone W path n t G leads =
      let inner = path ++ n ∷ [] in
      let B : TakesBoxAt p.grove I.out.grove inner place.canvas key place.number = takes_from p.grove (same_loose ∙ I.loosens.rest.grove) inner leads C.can.forest C.is in
      let F = forest_still p.grove I.out.grove inner place.canvas key place.number B in
      let on = leads_from_root p.grove I.out.grove inner place.canvas key place.number B in
      let held : holder_in (get I.out.grove.boards place.canvas) ≡ Some holder = ap holder_in B.takes.without ∙ B.takes.holder ∙ sym (ap holder_in B.takes.board) ∙ C.at.held in
      let u = taken_at inner place.number t in
      lost_document path n u (grove_less p.grove I.out.grove inner place.canvas key place.number t B G) F (around_at I.out.grove F path n place.canvas holder on held)
      ∙ ap (edit_at path (less_port side n port)) (out_document inner leads
      ∙ ap (edit_at inner (edited (edit.Delete place.number))) (loose_document W path n t G (around_at p.grove C.can.forest path n place.canvas holder leads C.at.held)))
