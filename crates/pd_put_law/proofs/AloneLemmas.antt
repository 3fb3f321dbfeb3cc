-- A box that comes into a canvas of the patch's own document, and in which no box lies: one without a canvas, be it a port of the box around or
-- not, or a subpatch without boxes.
use Rattle.std.proofs.Common.{◌≡◌, ◌≢◌, ◌≤◌, ℕ, Bool, true, List, [], ◌∷◌, length, map, slice_get, slice_index_or, Option, Some, None, IsSome, is_some, refl, sym, ap, ◌∙◌, subst, arith}
use Rattle.std.specs.Prelude.{option_and_then, option_map, take, drop}
use mathlib.Core.Logic.{⊎_elim}
use Rattle.std.proofs.lemmas.Bool.{cases_eq}
use Rattle.std.proofs.lemmas.Option.{none-some, same_Some}
use Rattle.slab.specs.Slab.{get}
use Rattle.pd_atom.specs.Names.{Names}
use Rattle.pd_clock.specs.declared.times.Rate.{Rate}
use Rattle.pd_kind.specs.States.{start_of}
use Rattle.pd_kind.specs.Tables.{started}
use Rattle.pd_tree.specs.Ports.{is_made}
use Rattle.pd_grove.specs.declared.boards.Board.{Board}
use Rattle.pd_grove.specs.declared.nodes.Node.{Node}
use Rattle.pd_grove.specs.declared.ports.Side.{Side}
use Rattle.pd_grove.specs.declared.ports.Side.TheVariants.{Inlets, Outlets}
use Rattle.pd_grove.specs.declared.seeds.Seed.{Seed}
use Rattle.pd_grove.specs.Grafts.{HasPartMore}
use Rattle.pd_grove.specs.OwnPaths.{sub_reached}
use Rattle.pd_grove.specs.Telling.{keys_in}
use Rattle.pd_grove.proofs.ComeLemmas.{part_more}
use Rattle.pd_grove.proofs.GraftLemmas.{forest_more}
use Rattle.pd_grove.proofs.UseLemmas.{not_both}
use Rattle.pd_web.specs.declared.jacks.Jack.{Jack}
use Rattle.pd_web.specs.declared.lines.Line.{Line}
use Rattle.pd_web.specs.declared.sockets.Port.{Port}
use Rattle.pd_web.specs.declared.web.Web.{Web}
use Rattle.pd_web.specs.Canvases.{keys_at}
use Rattle.pd_web.specs.Changes.{line_told, wires_told}
use Rattle.pd_web.specs.Hops.{ports_told, fan_hops, feed_hops, hop_from, feeds_under}
use Rattle.pd_web.specs.Jacks.{jacks_in, kind_jacks}
use Rattle.pd_web.specs.Sockets.{ports_at, jacks_of}
use Rattle.pd_web.proofs.CountLemmas.{holds, held_alike}
use Rattle.pd_ports.specs.Boxes.{HasPorts}
use Rattle.pd_patch.specs.declared.patch.Patch.{Patch}
use Rattle.pd_boxes.specs.Put.{node_of, keys_before, keys_behind, CanPut, ComesIn}
use Rattle.pd_boxes.specs.Room.{SameButRoom}
use Rattle.pd_boxes.proofs.RoomLemmas.{keys_same, room_put}
use Rattle.pd_boxes.proofs.WireLemmas.{no_fans}
use Rattle.pd_subpatches.specs.Shell.{IsShellPut}
use Rattle.pd_subpatches.proofs.PartLemmas.{comes_as_part}
use Rattle.pd_reload_law.specs.Wires.{AreNumbered}
use Rattle.pd_reload_law.proofs.EditLemmas.{sub_inner}
use Rattle.pd_putting_law.specs.Putting.{ComeFresh}
use Rattle.pd_putting_law.proofs.PathLemmas.{Forest}
use Rattle.pd_putting.specs.Adds.{place_at}
use Rattle.pd_put_law.proofs.RoomLemmas.{room_subs, lists_fed, lists_meet}
use Rattle.pd_put_law.proofs.WholeLemmas.{ComesWhole}

-- A box, under a key that had none, at a number of a canvas of the patch's own document, with ports and no wires. No other box came, and no canvas
-- that came has boxes.
pub record ComesAlone (p q : Patch) (path : List ℕ) (c key number : ℕ) : Type 0 where
  pub can : CanPut p
  pub forest : Forest q.grove
  pub numbered : (d : ℕ) → AreNumbered q.numbers.items (keys_at q.grove d)
  pub leads : sub_reached p.grove (Some p.grove.root) path ≡ Some c
  pub part : HasPartMore (get p.grove.nodes) (get q.grove.nodes) (get p.grove.boards) (get q.grove.boards) c key (take number (keys_at p.grove c)) (drop number (keys_at p.grove c))
  pub within : number ≤ length (keys_at p.grove c)
  pub alone : (l : ℕ) → l ≢ key → get q.grove.nodes l ≡ get p.grove.nodes l
  pub empty : (x : ℕ) → get p.grove.boards x ≡ None → keys_at q.grove x ≡ []
  pub root : q.grove.root ≡ p.grove.root
  pub jacks : Side → List Jack
  pub made : Bool
  pub ports : HasPorts p.web q.web key jacks made

no_ports : (ps : List Port) → jacks_of ps ≡ [] → ps ≡ []
no_ports [] e = refl
no_ports (p ∷ ps) e = let q = ap (λ (js : List Jack). length js) e in absurd (omega (arith, q))

no_feeds : (w : Web) (k : ℕ) → ports_told w Inlets k ≡ [] → (i : ℕ) → feed_hops w k i ≡ []
no_feeds w k e i =
    ap (λ (ps : List Port). map (hop_from w) (feeds_under w.book (option_and_then (λ (p : Port). p.end) (slice_get ps i)))) (no_ports (ports_at w.sockets.items Inlets k) e)

mapped_some : {X Y : Type 0} (f : X → Y) (o : Option X) → is_some (option_map f o) ≡ is_some o
mapped_some f None = refl
mapped_some f (Some x) = refl

told_holds : (w : Web) (k : ℕ) → is_some (line_told w k) ≡ holds w.book.wires k
told_holds w k = mapped_some _ (slice_index_or w.book.wires k None)

module _ (p q : Patch) (path : List ℕ) (c key number : ℕ) (C : ComesAlone p q path c key number) where
  -- a box that was there isn't the new one
  was_there : (k : ℕ) → IsSome (get p.grove.nodes k) → k ≢ key
  was_there k live e = not_both (get p.grove.nodes k) (ap (get p.grove.nodes) e ∙ C.part.vacant) live

  -- no canvas that came has a box
  no_box : {P : Type 0} (d i k : ℕ) → get p.grove.boards d ≡ None → slice_get (keys_at q.grove d) i ≡ Some k → P
  no_box d i k none at = absurd (none-some k (sym (ap (λ (ks : List ℕ). slice_get ks i) (C.empty d none)) ∙ at))

  had_none : (side : Side) → ports_told p.web side key ≡ []
  had_none side = C.can.runs.ports.ports side key ∙ ap (jacks_in side p.grove) C.part.vacant

  no_fan : (o : ℕ) → fan_hops q.web key o ≡ []
  no_fan o = C.ports.fans key o ∙ no_fans p.web key (had_none Outlets) o

  no_feed : (i : ℕ) → feed_hops q.web key i ≡ []
  no_feed i = C.ports.feeds key i ∙ no_feeds p.web key (had_none Inlets) i

  -- it is a box with all that lies in it
  pub as_whole : ComesWhole p q path c key number
  as_whole = record {
    can = C.can;
    forest = C.forest;
    numbered = C.numbered;
    leads = C.leads;
    part = C.part;
    within = C.within;
    root = C.root;
    own = λ d h. C.empty d (C.part.inside key d C.part.vacant (sub_inner (get q.grove.nodes key) d h)).0;
    stays = record {
      ports = λ side k live. C.ports.other_ports side k (was_there k live);
      made = λ k live. C.ports.others_made k (was_there k live);
      fans = λ k o live. C.ports.fans k o;
      feeds = λ k i live. C.ports.feeds k i;
    };
    bare = record { fans = no_fan; feeds = no_feed };
    laid = record {
      ports = λ side d i k none at. no_box d i k none at;
      made = λ d i k none at. no_box d i k none at;
      fans = λ d i k o none at. no_box d i k none at;
      feeds = λ d i k n none at. no_box d i k none at;
      bare = λ d i k u none at stands. no_box d i k none at;
    };
    fed = lists_fed p.web q.web C.ports.lines C.ports.feeds;
    meet = lists_meet p.web q.web C.ports.fans C.ports.feeds;
  }

  -- there are as many wires
  pub alone_wires : wires_told q.web ≡ wires_told p.web
  alone_wires = held_alike p.web.book.wires q.web.book.wires (λ j. sym (told_holds q.web j) ∙ ap (λ (o : Option Line). is_some o) (C.ports.lines j) ∙ told_holds p.web j)

  -- what came keeps what its kind keeps at first
  pub come_fresh : (rate : Rate) (now : ℕ) (n : Node) → get q.grove.nodes key ≡ Some n → n.state ≡ Some (started (start_of n.kind rate) now)
      → ComeFresh rate now (get p.grove.nodes) (get q.grove.nodes)
  come_fresh rate now n here fresh k m none is = ⊎_elim
      (λ (e : k ≡ key).
      let same : n ≡ m = same_Some n m (sym here ∙ ap (get q.grove.nodes) (sym e) ∙ is) in
      subst (λ (x : Node). x.state ≡ Some (started (start_of x.kind rate) now)) same fresh)
      (λ (d : k ≢ key). absurd (none-some m (sym (C.alone k d ∙ none) ∙ is))) (cases_eq k key)

-- ---- boxes that come to their place

module _ (old p q : Patch) (table : Names) (path : List ℕ) (c key number : ℕ) (s : Seed) (room : SameButRoom old p) (can : CanPut old)
    (forest : Forest q.grove) (numbered : (d : ℕ) → AreNumbered q.numbers.items (keys_at q.grove d))
    (leads : sub_reached old.grove (Some old.grove.root) path ≡ Some c) (within : number ≤ length (keys_at old.grove c)) where
  abbrev front : List ℕ
  front = keys_before p (place_at c number)

  abbrev back : List ℕ
  back = keys_behind p (place_at c number)

  pub within_room : number ≤ length (keys_at p.grove c)
  within_room = subst (λ (ks : List ℕ). number ≤ length ks) (sym (keys_same old.grove p.grove room.grove c)) within

  pub can_room : CanPut p
  can_room = room_put old p room can

  pub leads_room : sub_reached p.grove (Some p.grove.root) path ≡ Some c
  leads_room = room_subs old.grove p.grove room.grove path ∙ leads

  -- where a canvas lives, another one that was none isn't it
  apart : (x : ℕ) (b : Board) → get p.grove.boards x ≡ None → get p.grove.boards c ≡ Some b → x ≢ c
  apart x b none is e = none-some b (sym none ∙ ap (get p.grove.boards) e ∙ is)

  -- where a box without a canvas was put, it comes so
  pub leaf_alone : ComesIn p q table (place_at c number) s key → ComesAlone p q path c key number
  leaf_alone comes =
      let B = comes.grove in
      record {
        can = can_room;
        forest = forest;
        numbered = numbered;
        leads = leads_room;
        part = part_more (get p.grove.nodes) (get q.grove.nodes) (get q.grove.nodes) (get p.grove.boards) (get q.grove.boards) (get q.grove.boards) p.grove.root c key (node_of c s) front back B
            (λ l d live. refl) (λ x live. refl) refl can_room.forest
            (forest_more (get p.grove.nodes) (get q.grove.nodes) (get p.grove.boards) (get q.grove.boards) p.grove.root c key (node_of c s) front back B can_room.forest);
        within = within_room;
        alone = B.others;
        empty = λ x none. ap keys_in (B.keys.others x (apart x B.keys.before none B.keys.was) ∙ none);
        root = comes.root;
        jacks = λ side. kind_jacks side s.row.kind;
        made = is_made s.row.kind;
        ports = comes.ports;
      }

  -- and so does a subpatch without boxes
  pub shell_alone : IsShellPut p q table (place_at c number) s key → ComesAlone p q path c key number
  shell_alone put =
      let C = put.comes in
      let B = C.grove.box in
      let I = C.grove.canvas in
      record {
        can = can_room;
        forest = forest;
        numbered = numbered;
        leads = leads_room;
        part = comes_as_part (get p.grove.nodes) (get q.grove.nodes) (get p.grove.boards) (get q.grove.boards) p.grove.root c key C.canvas s C.board front back C.grove can_room.forest;
        within = within_room;
        alone = λ l d. I.others l d ∙ B.others l d;
        empty = λ x none. ⊎_elim
            (λ (e : x ≡ C.canvas). ap (keys_at q.grove) e ∙ ap keys_in I.opened ∙ I.empty)
            (λ (d : x ≢ C.canvas). ap keys_in (I.stay x d ∙ B.keys.others x (apart x B.keys.before none B.keys.was) ∙ none)) (cases_eq x C.canvas);
        root = C.root;
        jacks = λ side. [];
        made = true;
        ports = C.ports;
      }
