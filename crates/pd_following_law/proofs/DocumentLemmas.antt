-- The document of a patch into which a port box came.
use Rattle.std.proofs.Common.{◌≡◌, ◌≢◌, ℕ, zero, suc, ◌≤◌, List, [], ◌∷◌, take, drop, map, length, slice_get, Option, Some, None, IsSome, refl, sym, ap, ◌∙◌, subst, arith}
use Rattle.std.specs.List.{AllByRecursion}
use Rattle.std.proofs.lemmas.List.{take_all, drop_all}
use Rattle.std.proofs.lemmas.Option.{none-some, same_Some}
use Rattle.slab.specs.Slab.{get}
use Rattle.pd_atom.specs.Names.{Names}
use Rattle.pd_canvas.specs.Edits.{appended}
use Rattle.pd_canvas.specs.Pages.{Entry, Page}
use Rattle.pd_canvas.specs.Paths.{edit_at}
use Rattle.pd_canvas.specs.Turns.{put_in}
use Rattle.pd_tree.specs.Trees.{Tree}
use Rattle.pd_grove.specs.declared.boards.Board.{Board}
use Rattle.pd_grove.specs.declared.grove.Grove.{Grove}
use Rattle.pd_grove.specs.declared.seeds.Seed.{Seed}
use Rattle.pd_grove.specs.declared.ports.Side.{Side}
use Rattle.pd_grove.specs.Grafts.{HasPartMore}
use Rattle.pd_grove.specs.OwnPaths.{sub_reached}
use Rattle.pd_grove.specs.Standing.{GroveStands}
use Rattle.pd_grove.specs.Telling.{keys_in, reached}
use Rattle.pd_grove.specs.TextOrder.{deep}
use Rattle.pd_grove.proofs.ComeLemmas.{part_more}
use Rattle.pd_web.specs.declared.web.Hop.{Hop}
use Rattle.pd_web.specs.Canvases.{keys_at}
use Rattle.pd_web.specs.Hops.{fan_hops}
use Rattle.pd_web.specs.Jacks.{jacks_at}
use Rattle.pd_ports.specs.Known.{KnowsHomes}
use Rattle.pd_present.specs.Presents.{present_page}
use Rattle.pd_patch.specs.declared.patch.Patch.{Patch}
use Rattle.pd_patch.specs.Linked.{StayInside, ShareCanvas}
use Rattle.pd_patch.proofs.WayLemmas.{path_short, path_whole}
use Rattle.pd_boxes.specs.declared.room.Place.{Place}
use Rattle.pd_boxes.specs.Put.{node_of, keys_before, keys_behind}
use Rattle.pd_boxes.proofs.BuiltLemmas.{still_forest, bare}
use Rattle.pd_boxes.proofs.WireLemmas.{inside_still, no_fans}
use Rattle.pd_reload_law.specs.Wires.{AreNumbered, IsAmong, StayAmong, RewiresAt}
use Rattle.pd_reload_law.proofs.EditLemmas.{document_edited}
use Rattle.pd_saved_law.proofs.EditLemmas.{stays_among, sub_leads}
use Rattle.pd_putting_law.specs.Putting.{HasBoxAt, HasBoxLast, IsSavedAs, KeepsWires}
use Rattle.pd_putting_law.proofs.PageLemmas.{document_put, document_put_in}
use Rattle.pd_following.specs.Ports.{CanPutPort, IsPortPut, port_jack}
use Rattle.pd_following.proofs.ComeLemmas.{ready_own}
use Rattle.pd_following.proofs.RunLemmas.{numbered}
use Rattle.pd_following_law.specs.Raised.{StandsAt, raised_wire, with_port}
use Rattle.pd_following_law.proofs.WireLemmas.{wires_here, wires_away}

all_at : {X : Type 0} (P : X → Type 0) (xs : List X) (i : ℕ) (x : X) → AllByRecursion P xs → slice_get xs i ≡ Some x → P x
all_at P [] i x a e = absurd (none-some x e)
all_at P (y ∷ xs) zero x a e = subst P (same_Some y x e) a.0
all_at P (y ∷ xs) (suc i) x a e = all_at P xs i x a.1 e

pub lives_by : (o : Option Board) (i k : ℕ) → slice_get (keys_in o) i ≡ Some k → IsSome o
lives_by None i k e = absurd (none-some k e)
lives_by (Some b) i k e = refl

pub short : (a b : ℕ) → a ≤ b → b ≤ 256 → a ≤ 256
short a b h k = omega (arith, h, k)

module _ (p q : Patch) (table : Names) (place : Place) (s : Seed) (key holder : ℕ) (side : Side) (P : CanPutPort p place s holder side) (I : IsPortPut p q table place s key holder side)
    (known : KnowsHomes p.web) where
  among_ready : (c : ℕ) → StayAmong I.ready.web (keys_at I.ready.grove c)
  among_ready c k o i h at is =
      let inside : StayInside I.ready.grove I.ready.web =
      inside_still p.grove I.ready.grove place.canvas key (node_of place.canvas s) (keys_before p place) (keys_behind p place) I.comes.grove P.can.runs.own p.web I.ready.web P.can.runs.inside I.comes.ports.fans in
      let own = ready_own p I.ready table place s key holder side P I.comes known in
      let t : ShareCanvas I.ready.grove k h.node = all_at (λ (x : Hop). ShareCanvas I.ready.grove k x.node) (fan_hops I.ready.web k o) i h (inside k o) is in
      let same : t.canvas ≡ c = same_Some t.canvas c (sym (own.home t.canvas t.one.0 k t.one.1) ∙ own.home c at.0 k at.1) in
      subst (λ x. IsAmong (keys_at I.ready.grove x) h.node) same t.other

  numbered_ready : (c : ℕ) → AreNumbered I.ready.numbers.items (keys_at I.ready.grove c)
  numbered_ready = numbered p I.ready q.web table place s key holder side P I.comes known I.number
      (I.follows.ports ∙ ap (λ (g : Grove). jacks_at side g holder) I.rest.grove) I.raises

  module _ (path : List ℕ) (n : ℕ) (t : Tree) (G : GroveStands I.ready.grove t.sheet t.boxes) (low : deep t.boxes ≤ 256) (A : StandsAt I.ready.grove path n holder) where
    once_at : (other : List ℕ) → reached I.ready.grove (Some I.ready.grove.root) other ≡ Some A.canvas → path ≡ other
    once_at other also =
        sym (path_whole I.ready.grove I.ready.numbers.items t.sheet t.boxes path A.canvas G numbered_ready low (sub_leads I.ready.grove I.ready.grove.root A.canvas path A.leads))
        ∙ path_whole I.ready.grove I.ready.numbers.items t.sheet t.boxes other A.canvas G numbered_ready low also

    away : (c : ℕ) → c ≢ A.canvas → IsAmong (keys_at I.ready.grove c) holder → ⊥
    away c d there =
        let own = ready_own p I.ready table place s key holder side P I.comes known in
        d (same_Some c A.canvas (sym (own.home c there.0 holder there.1) ∙ own.home A.canvas n holder A.at))

    rewires : RewiresAt I.ready.grove I.ready.web q.web I.ready.numbers.items path A.canvas (map (raised_wire side n I.number))
    rewires = record {
      lives = lives_by (get I.ready.grove.boards A.canvas) n holder A.at;
      once = once_at;
      here = wires_here I.ready.web q.web I.ready.numbers.items (keys_at I.ready.grove A.canvas) holder n I.number (port_jack side s.row.kind key) (numbered_ready A.canvas) (among_ready A.canvas) A.at side I.raises;
      others = λ c d. wires_away I.ready.web q.web I.ready.numbers.items (keys_at I.ready.grove c) holder I.number (port_jack side s.row.kind key) (among_ready c) (away c d) side I.raises;
    }

    ready_document : present_page I.ready.grove q.web I.ready.numbers.items ≡ edit_at path (with_port side n I.number) (present_page I.ready.grove I.ready.web I.ready.numbers.items)
    ready_document =
        document_edited I.ready.grove I.ready.web q.web I.ready.numbers.items path A.canvas (map (raised_wire side n I.number)) rewires A.leads
        (short (length path) (deep t.boxes) (path_short I.ready.grove t.sheet t.boxes path A.canvas G (sub_leads I.ready.grove I.ready.grove.root A.canvas path A.leads)) low)

  -- the wires at the box around follow its ports
  pub wires_document : (path : List ℕ) (n : ℕ) (t : Tree) → GroveStands q.grove t.sheet t.boxes → deep t.boxes ≤ 256 → StandsAt q.grove path n holder
      → present_page q.grove q.web q.numbers.items ≡ edit_at path (with_port side n I.number) (present_page I.ready.grove I.ready.web I.ready.numbers.items)
  wires_document path n t G low A =
      ap (λ (g : Grove). present_page g q.web q.numbers.items) I.rest.grove ∙ ap (λ ns. present_page I.ready.grove q.web ns.items) I.rest.numbers
      ∙ ready_document path n t (subst (λ (g : Grove). GroveStands g t.sheet t.boxes) I.rest.grove G) low (subst (λ (g : Grove). StandsAt g path n holder) I.rest.grove A)

  -- the box itself came

  part : HasPartMore (get p.grove.nodes) (get I.ready.grove.nodes) (get p.grove.boards) (get I.ready.grove.boards) place.canvas key (keys_before p place) (keys_behind p place)
  part =
      part_more (get p.grove.nodes) (get I.ready.grove.nodes) (get I.ready.grove.nodes) (get p.grove.boards) (get I.ready.grove.boards) (get I.ready.grove.boards) p.grove.root place.canvas key
      (node_of place.canvas s) (keys_before p place) (keys_behind p place) I.comes.grove (λ l d live. refl) (λ x live. refl) refl P.can.forest
      (still_forest p I.ready table place s key I.comes P.can.forest P.can.runs)

  keeps : KeepsWires p.grove I.ready.grove p.web I.ready.web p.numbers.items I.ready.numbers.items key
  keeps = record {
    inside = λ c. stays_among p c P.can.runs;
    fans = λ k o live. I.comes.ports.fans k o;
    bare = λ o. I.comes.ports.fans key o ∙ no_fans p.web key (bare p I.ready table place s key I.comes P.can.forest P.can.runs) o;
    numbered = P.can.runs.numbers;
    renumbered = numbered_ready;
  }

  saved_ready : (e : Entry) → IsSavedAs (get q.grove.boards) (get q.grove.nodes key) e → IsSavedAs (get I.ready.grove.boards) (get I.ready.grove.nodes key) e
  saved_ready e saved = subst (λ (g : Grove). IsSavedAs (get g.boards) (get g.nodes key) e) I.rest.grove saved

  module _ (inner : List ℕ) (leads : sub_reached p.grove (Some p.grove.root) inner ≡ Some place.canvas) where
    -- at any number
    module _ (within : place.number ≤ length (keys_at p.grove place.canvas)) where
      comes_at : HasBoxAt p.grove I.ready.grove inner place.canvas key place.number
      comes_at = record { forest = P.can.forest; leads = leads; part = part; within = within; root = I.comes.root }

      pub port_at : HasBoxAt p.grove q.grove inner place.canvas key place.number
      port_at = subst (λ (g : Grove). HasBoxAt p.grove g inner place.canvas key place.number) (sym I.rest.grove) comes_at

      pub put_document : (path : List ℕ) (n : ℕ) (e : Entry) (t : Tree) → GroveStands q.grove t.sheet t.boxes → deep t.boxes ≤ 256 → StandsAt q.grove path n holder
          → IsSavedAs (get q.grove.boards) (get q.grove.nodes key) e
          → present_page q.grove q.web q.numbers.items ≡ edit_at path (with_port side n I.number) (edit_at inner (put_in place.number e) (present_page p.grove p.web p.numbers.items))
      put_document path n e t G low A saved =
          wires_document path n t G low A
          ∙ ap (λ (x : Page). edit_at path (with_port side n I.number) x)
          (document_put_in p.grove I.ready.grove p.web I.ready.web p.numbers.items I.ready.numbers.items inner place.canvas key place.number e comes_at keeps (saved_ready e saved))

    -- last
    module _ (last : place.number ≡ length (keys_at p.grove place.canvas)) where
      before : keys_before p place ≡ keys_at p.grove place.canvas
      before = ap (λ m. take m (keys_at p.grove place.canvas)) last ∙ take_all (length (keys_at p.grove place.canvas)) (keys_at p.grove place.canvas) (omega arith)

      behind : keys_behind p place ≡ []
      behind = ap (λ m. drop m (keys_at p.grove place.canvas)) last ∙ drop_all (length (keys_at p.grove place.canvas)) (keys_at p.grove place.canvas) (omega arith)

      abbrev Part : List ℕ → List ℕ → Type 0
      Part = HasPartMore (get p.grove.nodes) (get I.ready.grove.nodes) (get p.grove.boards) (get I.ready.grove.boards) place.canvas key

      comes_last : HasBoxLast p.grove I.ready.grove inner place.canvas key
      comes_last = record {
        forest = P.can.forest;
        leads = leads;
        part = subst (Part (keys_at p.grove place.canvas)) behind (subst (λ (l : List ℕ). Part l (keys_behind p place)) before part);
        root = I.comes.root;
      }

      pub port_last : HasBoxLast p.grove q.grove inner place.canvas key
      port_last = subst (λ (g : Grove). HasBoxLast p.grove g inner place.canvas key) (sym I.rest.grove) comes_last

      pub port_document : (path : List ℕ) (n : ℕ) (e : Entry) (t : Tree) → GroveStands q.grove t.sheet t.boxes → deep t.boxes ≤ 256 → StandsAt q.grove path n holder
          → IsSavedAs (get q.grove.boards) (get q.grove.nodes key) e
          → present_page q.grove q.web q.numbers.items ≡ edit_at path (with_port side n I.number) (edit_at inner (appended e) (present_page p.grove p.web p.numbers.items))
      port_document path n e t G low A saved =
          wires_document path n t G low A
          ∙ ap (λ (x : Page). edit_at path (with_port side n I.number) x)
          (document_put p.grove I.ready.grove p.web I.ready.web p.numbers.items I.ready.numbers.items inner place.canvas key e comes_last keeps (saved_ready e saved))
