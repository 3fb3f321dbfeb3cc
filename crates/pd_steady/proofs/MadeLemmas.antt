-- In a run the line that an edit tells of a signal loop tells all boxes of the loop.
use Rattle.std.proofs.Common.{arith, ◌≡◌, inl, inr, ◌≤◌, ◌+◌, ℕ, ℤ, Bool, true, false, List, [], ◌∷◌, length, Option, Some, None, IfSome, refl, sym, ap, subst, ◌∙◌}
use Rattle.std.specs.List.{AllByRecursion}
use Rattle.std.specs.Prelude.{cond, option_and_then, slice_get, Result, Ok, Err}
use Rattle.std.proofs.lemmas.Option.{none-some}
use Rattle.slab.specs.Slab.{get}
use Rattle.slab.specs.Slab.{Slab}
use Rattle.pd_atom.specs.declared.Atom.{Atom}
use Rattle.pd_atom.specs.Names.{Names}
use Rattle.pd_canvas.specs.Views.{entry_of}
use Rattle.pd_canvas.specs.declared.edits.Edit.{Edit}
use Rattle.pd_canvas.specs.declared.edits.Edit.TheVariants as edit
use Rattle.pd_canvas.specs.declared.wires.Wire.{Wire}
use Rattle.pd_order.specs.Listing.{Listing}
use Rattle.pd_tree.specs.Trees.{Tree, weight}
use Rattle.pd_grove.specs.declared.nodes.Node.{Node}
use Rattle.pd_grove.specs.declared.boards.Board.{Board}
use Rattle.pd_grove.specs.Standing.{GroveStands}
use Rattle.pd_grove.specs.declared.grove.Grove.{Grove}
use Rattle.pd_grove.specs.Telling.{keys_in, inner_in, step_in, reached}
use Rattle.pd_grove.specs.TextOrder.{is_sub, deep}
use Rattle.pd_grove.specs.OwnPaths.{sub_in, sub_step_in, sub_reached}
use Rattle.pd_web.specs.Canvases.{keys_at}
use Rattle.pd_web.specs.Changes.{Meet}
use Rattle.pd_web.specs.declared.lines.Line.{Line}
use Rattle.pd_web.specs.declared.web.Web.{Web}
use Rattle.pd_patch.specs.declared.patch.Patch.{Patch}
use Rattle.pd_patch.specs.declared.report.Remark.TheVariants.{Loop}
use Rattle.pd_patch.specs.Telling.{order_in}
use Rattle.pd_wiring.specs.declared.asking.WireRefusal.{WireRefusal}
use Rattle.pd_wiring.specs.declared.refusals.EditRefusal.{EditRefusal}
use Rattle.pd_wiring.specs.declared.refusals.EditRefusal.TheVariants.{TooManyWires, NoBox}
use Rattle.pd_wiring.specs.Changes.{CanRewire}
use Rattle.pd_wiring.specs.Plans.{Plan, Attaches, Detaches, canvas_of, attaching, wire_found, detaching, connecting, disconnecting, planned, IsCarriedOut, IsRewired}
use Rattle.pd_boxes.specs.Put.{CanPut}
use Rattle.pd_adding.specs.declared.counts.Counts.{Counts}
use Rattle.pd_stage.specs.PassedOn.{going, going_box, going_in, DeletesBox, OldBox, is_array_in, moving_box, moving_in, Shifts, ShiftsPort, ShiftsBox, canvas_changed, Becomes}
use Rattle.pd_hearing.specs.Worlds.{Net, bare, net_of}
use Rattle.pd_block.specs.Nets as block
use Rattle.pd_stage.specs.Choices.{Made, Makes}
use Rattle.pd_stage.specs.Events.{stage_by}
use Rattle.pd_stage.specs.Stages.{Stage, with_ahead}
use Rattle.pd_stage.specs.Lawful.{StandsAt, IsMade, IsPutIn, IsTakenOut, IsMovedTo, IsRetypedTo}
use Rattle.pd_stage.specs.Trees.{HasTree}
use Rattle.pd_stage.specs.Lines.{most_boxes}
use Rattle.pd_stage.specs.Times.{with_wires, IsStageOf}
use Rattle.pd_stage.proofs.EditLemmas.{AsksAlike}
use Rattle.pd_engine.specs.Commands.{led_to}
use Rattle.pd_engine.proofs.ShowLemmas.{led_is}
use Rattle.pd_engine.proofs.TreeLemmas.{at_stands, lost_tree, moved_tree, more_tree, stands_more, boxes_more, low_more}
use Rattle.pd_steady.specs.Serving.{box_of}
use Rattle.pd_steady.specs.Told.{TellsLoop}
use Rattle.pd_steady.proofs.ComeLemmas.{seen_keys, come_goes_on}
use Rattle.pd_steady.proofs.NetLemmas.{TellsOf, same_net}
use Rattle.pd_steady.proofs.ShortLemmas.{order_keys, orders_short, canvas_few}
use Rattle.pd_steady.proofs.StandLemmas.{patch_now}
use Rattle.pd_steady.proofs.ToldLemmas.{led_other}
use Rattle.pd_steady.proofs.LoopLemmas.{stuck_told, each_told}

-- ---- a path that leads through subpatches alone leads there

kept_cond : (b : Bool) (o : Option ℕ) (c : ℕ) → cond b o None ≡ Some c → o ≡ Some c
kept_cond true o c h = h
kept_cond false o c h = absurd (none-some c h)

sub_inner : (o : Option Node) (c : ℕ) → sub_in o ≡ Some c → inner_in o ≡ Some c
sub_inner None c h = absurd (none-some c h)
sub_inner (Some n) c h = kept_cond (is_sub (entry_of n.element).head.form) n.inner c h

box_on : (g : Grove) (o : Option ℕ) (c : ℕ) → option_and_then (λ k. sub_in (get g.nodes k)) o ≡ Some c → option_and_then (λ k. inner_in (get g.nodes k)) o ≡ Some c
box_on g None c h = absurd (none-some c h)
box_on g (Some k) c h = sub_inner (get g.nodes k) c h

step_on : (g : Grove) (here : Option ℕ) (n c : ℕ) → option_and_then (λ canvas. sub_step_in g canvas n) here ≡ Some c → option_and_then (λ canvas. step_in g canvas n) here ≡ Some c
step_on g None n c h = absurd (none-some c h)
step_on g (Some canvas) n c h = box_on g (slice_get (keys_in (get g.boards canvas)) n) c h

nowhere : (g : Grove) (path : List ℕ) → sub_reached g None path ≡ None
nowhere g [] = refl
nowhere g (n ∷ path) = nowhere g path

from_step : (g : Grove) (path : List ℕ) (c : ℕ) (s r : Option ℕ) → ((x : ℕ) → s ≡ Some x → r ≡ Some x)
    → ((here : Option ℕ) → sub_reached g here path ≡ Some c → reached g here path ≡ Some c) → sub_reached g s path ≡ Some c → reached g r path ≡ Some c
from_step g path c None r f P h = absurd (none-some c (sym (nowhere g path) ∙ h))
from_step g path c (Some x) r f P h = subst (λ (o : Option ℕ). reached g o path ≡ Some c) (sym (f x refl)) (P (Some x) h)

sub_leads : (g : Grove) (path : List ℕ) (here : Option ℕ) (c : ℕ) → sub_reached g here path ≡ Some c → reached g here path ≡ Some c
sub_leads g [] here c h = h
sub_leads g (n ∷ path) here c h =
    from_step g path c (option_and_then (λ canvas. sub_step_in g canvas n) here) (option_and_then (λ canvas. step_in g canvas n) here)
    (λ x e. step_on g here n x e) (λ o e. sub_leads g path o c e) h

-- ---- an edit that is planned is one of the canvas at its path

abbrev canvas_told : Result Plan EditRefusal → Option ℕ
canvas_told (Ok plan) = Some (canvas_of plan)
canvas_told (Err why) = None

-- what is planned is planned for the canvas that was found
abbrev IsOf : Option ℕ → Result Plan EditRefusal → Type 0
IsOf found r = IfSome (canvas_told r) (λ c. found ≡ Some c)

few_of : (b : Bool) (c : ℕ) (l : Line) → IsOf (Some c) (cond b (Ok (Attaches c l)) (Err TooManyWires))
few_of true c l = refl
few_of false c l = tt

attach_of : (w : Web) (c : ℕ) (r : Result Line WireRefusal) → IsOf (Some c) (attaching w c r)
attach_of w c (Err why) = tt
attach_of w c (Ok l) = few_of _ c l

wire_of : (c : ℕ) (l : Line) (o : Option ℕ) → IsOf (Some c) (wire_found c l o)
wire_of c l None = tt
wire_of c l (Some key) = refl

detach_of : (w : Web) (c : ℕ) (r : Result Line WireRefusal) → IsOf (Some c) (detaching w c r)
detach_of w c (Err why) = tt
detach_of w c (Ok l) = wire_of c l _

connect_of : (p : Patch) (v : Wire) (o : Option ℕ) → IsOf o (connecting p v o)
connect_of p v None = tt
connect_of p v (Some c) = attach_of p.web c _

disconnect_of : (p : Patch) (v : Wire) (o : Option ℕ) → IsOf o (disconnecting p v o)
disconnect_of p v None = tt
disconnect_of p v (Some c) = detach_of p.web c _

planned_of : (p : Patch) (path : List ℕ) (e : Edit) → IsOf (sub_reached p.grove (Some p.grove.root) path) (planned p path e)
planned_of p path (edit.Connect v) = connect_of p v (sub_reached p.grove (Some p.grove.root) path)
planned_of p path (edit.Disconnect v) = disconnect_of p v (sub_reached p.grove (Some p.grove.root) path)
planned_of p path (edit.Obj x y text) = tt
planned_of p path (edit.Msg x y text) = tt
planned_of p path (edit.Comment x y text) = tt
planned_of p path (edit.FloatBox x y text) = tt
planned_of p path (edit.SymbolBox x y text) = tt
planned_of p path (edit.Sub x y name) = tt
planned_of p path (edit.Delete number) = tt
planned_of p path (edit.Retype number text) = tt
planned_of p path (edit.Move number x y) = tt

rewired_at : (p q : Patch) (path : List ℕ) (e : Edit) (canvas : ℕ) → IsRewired p q path e canvas → reached p.grove (Some p.grove.root) path ≡ Some canvas
rewired_at p q path e canvas r =
    let found : sub_reached p.grove (Some p.grove.root) path ≡ Some (canvas_of r.plan) =
    subst (λ (x : Result Plan EditRefusal). IsOf (sub_reached p.grove (Some p.grove.root) path) x) r.is_planned (planned_of p path e) in
    sub_leads p.grove path (Some p.grove.root) canvas (found ∙ ap (λ (x : ℕ). Some x) (sym r.canvas_is))

-- ---- the patch that the edit makes has the boxes of the one that grew

-- the boxes and their numbers stay, and wires can be changed again
record StaysWith (p q : Patch) : Type 0 where
  grove : q.grove ≡ p.grove
  numbers : q.numbers ≡ p.numbers
  rewires : CanRewire q

stays_with : (plan : Plan) (p q : Patch) → IsCarriedOut plan p q → StaysWith p q
stays_with (Attaches c l) p q h = record { grove = h.rest.grove; numbers = h.rest.numbers; rewires = h.rewires }
stays_with (Detaches c key l) p q h = record { grove = h.rest.grove; numbers = h.rest.numbers; rewires = h.rewires }

-- with the wires of another patch of the same boxes, wires can be changed
pub rewires_with : (asks : AsksAlike) (p : Patch) (s : Stage) (path : List ℕ) (e : Edit) (m : Made) → IsStageOf p s → (h : IsMade s path e m)
    → CanRewire (with_wires p h.new.web h.new.links h.new.orders)
rewires_with asks p s path e m at h =
    let k : StaysWith h.old h.new = stays_with h.rewired.plan h.old h.new h.rewired.done in
    asks h.new (with_wires p h.new.web h.new.links h.new.orders) (record {
      nodes = λ j. sym (ap (λ (n : block.Net). n.nodes j) at.net) ∙ ap (λ (n : Net). n.nodes j) h.stands.net ∙ ap (λ (g : Grove). bare (get g.nodes j)) (sym k.grove);
      boards = sym (ap (λ (n : block.Net). n.boards) at.net) ∙ ap (λ (n : Net). n.boards) h.stands.net ∙ ap (λ (g : Grove). g.boards) (sym k.grove);
      web = refl;
      links = refl;
      orders = refl;
      numbers = sym (ap (λ (n : block.Net). n.numbers) at.net) ∙ ap (λ (n : Net). n.numbers) h.stands.net ∙ sym k.numbers;
    }) k.rewires

-- a path leads where it leads in a patch whose net the stage has
led_at : (p q : Patch) (s : Stage) (path : List ℕ) (c : ℕ) → s.net ≡ net_of q → TellsOf p s → reached q.grove (Some q.grove.root) path ≡ Some c → reached p.grove (Some p.grove.root) path ≡ Some c
led_at p q s path c stands tells e =
    let there : led_to s.net (Some s.net.root) path ≡ Some c =
    subst (λ (n : Net). led_to n (Some n.root) path ≡ Some c) (sym stands) (led_is q (Some q.grove.root) path ∙ e) in
    sym (led_is p (Some p.grove.root) path) ∙ sym (led_other p s.net.blocks (Some p.grove.root) path)
    ∙ subst (λ (n : Net). led_to n (Some n.root) path ≡ Some c) (same_net p s tells) there

pub made_at : (p : Patch) (s : Stage) (path : List ℕ) (e : Edit) (m : Made) → IsStageOf p s → (h : IsMade s path e m) → reached p.grove (Some p.grove.root) path ≡ Some h.canvas
made_at p s path e m at h =
    led_at (with_wires p at.web at.links at.orders) h.old s path h.canvas h.stands.net at.net (rewired_at h.old h.new path e h.canvas h.rewired)

pub made_told : (q : Patch) (canvas : ℕ) → ((o : Listing) → order_in q.orders.items canvas ≡ Some o → length o.chain + length o.stuck ≤ most_boxes) → TellsLoop q (Loop canvas)
made_told q canvas short = stuck_told q (order_in q.orders.items canvas) short

-- ---- the orders of a patch into which an edit put a box with all that lies in it

abbrev put_now : (s : Stage) (path : List ℕ) (e : Edit) (m : Made) → IsPutIn s path e m → IsPutIn (with_ahead s []) path e m
put_now s path e m h = record {
  old = h.old;
  new = h.new;
  after = h.after;
  box = h.box;
  stands = record { net = h.stands.net; states = h.stands.states; puts = h.stands.puts; meet = h.stands.meet };
  adds = h.adds;
  net = h.net;
  states = h.states;
  clocks = h.clocks;
  names = h.names;
  more = h.more;
  base = h.base;
  within = h.within;
  lines = h.lines;
  files = h.files;
  loads = h.loads;
  looks = h.looks;
}

-- so few boxes as the tree has
few_more : (n m b : ℕ) → n ≤ m → b ≡ m → b ≤ 16384 → n ≤ most_boxes
few_more n m b l g h = omega (arith, l, g, h)

deep_more : (n : ℕ) → n ≤ 255 → n + 1 ≤ 256
deep_more n l = omega (arith, l)

-- the line of a loop of each canvas tells all its boxes
pub put_told : (s : Stage) (path : List ℕ) (e : Edit) (m : Made) → HasTree s → (h : IsPutIn s path e m) → (c : ℕ) → TellsLoop h.new (Loop c)
put_told s path e m t h c =
    let q : Patch = h.new in
    let k : IsPutIn (with_ahead s []) path e m = put_now s path e m h in
    let can : CanPut q = come_goes_on h.old q s.time h.adds.added h.box.key h.adds.put in
    let after : Tree = more_tree s t path e m [] k in
    let stand : GroveStands q.grove after.sheet after.boxes = stands_more s t path e m [] k in
    each_told q after stand (deep_more (deep after.boxes) (low_more s t path e m [] k)) can.forest can.runs.orders
    (λ way canvas o leads order. few_more (length o.chain + length o.stuck) (weight after.boxes) m.base.counts.boxes
    (orders_short q after stand can.runs.orders way canvas o leads order) (boxes_more s t path e m [] k) h.within.boxes) c

pub all_put_told : (s : Stage) (path : List ℕ) (e : Edit) (m : Made) → HasTree s → (h : IsPutIn s path e m) → (cs : List ℕ) → AllByRecursion (λ c. TellsLoop h.new (Loop c)) cs
all_put_told s path e m t h [] = tt
all_put_told s path e m t h (c ∷ cs) = (put_told s path e m t h c, all_put_told s path e m t h cs)

-- ---- the boxes of a stage's canvases

boards_same : (s : Stage) (t : HasTree s) (p : Patch) → s.net ≡ net_of p → p.grove.boards ≡ t.patch.grove.boards
boards_same s t p e = sym (ap (λ (n : Net). n.boards) e) ∙ ap (λ (n : block.Net). n.boards) t.of.net

through : (n a : ℕ) → n ≤ a → a ≤ 16384 → n ≤ most_boxes
through n a l h = omega (arith, l, h)

-- ---- the orders of a patch from which an edit took a box

-- a box goes from the canvas to which the path leads
ok_same : (x y : ℕ × ℕ) (r : Result (ℕ × ℕ) EditRefusal) → r ≡ Ok x → r ≡ Ok y → x ≡ y
ok_same x y r e f = cc

box_at : (g : Grove) (c number : ℕ) (o : Option ℕ) (x : ℕ × ℕ) → going_box g c number o ≡ Ok x → c ≡ x.0
box_at g c number None x h = absurd (cc)
box_at g c number (Some key) x h = ap (λ (z : ℕ × ℕ). z.0) (ok_same (c, key) x (Ok (c, key)) refl h)

going_at : (g : Grove) (number : ℕ) (o : Option ℕ) (x : ℕ × ℕ) → going_in g number o ≡ Ok x → o ≡ Some x.0
going_at g number None x h = absurd (cc)
going_at g number (Some c) x h = ap (λ (y : ℕ). Some y) (box_at g c number (slice_get (keys_at g c) number) x h)

-- and it is the one of the number
box_key : (g : Grove) (c number : ℕ) (o : Option ℕ) (x : ℕ × ℕ) → going_box g c number o ≡ Ok x → o ≡ Some x.1
box_key g c number None x h = absurd (cc)
box_key g c number (Some key) x h = ap (λ (z : ℕ × ℕ). Some z.1) (ok_same (c, key) x (Ok (c, key)) refl h)

going_key : (g : Grove) (number : ℕ) (o : Option ℕ) (x : ℕ × ℕ) → going_in g number o ≡ Ok x → option_and_then (λ c. slice_get (keys_at g c) number) o ≡ Some x.1
going_key g number None x h = absurd (cc)
going_key g number (Some c) x h = box_key g c number (slice_get (keys_at g c) number) x h

module _ (p q : Patch) (n : Counts) (table : Names) (path : List ℕ) (number steps steps' : ℕ) (b : OldBox) where
  deleted_is : DeletesBox p q n table path number steps steps' b → going p path number ≡ Ok (b.canvas, b.key)
  deleted_is (inl x) = x.is
  deleted_is (inr x) = x.is

  -- and boxes can come and go
  deleted_can : DeletesBox p q n table path number steps steps' b → CanPut q
  deleted_can (inl x) = x.cleared.can
  deleted_can (inr x) = x.taken.can

  deleted_meet : DeletesBox p q n table path number steps steps' b → Meet q.web
  deleted_meet (inl x) = x.cleared.meet
  deleted_meet (inr x) = x.taken.leaves.meet

pub take_at : (s : Stage) (path : List ℕ) (number : ℕ) (m : Made) → (h : IsTakenOut s path number m) → box_of s.net path number ≡ Some h.box.key
take_at s path number m h =
    let g : Grove = h.old.grove in
    let is : going h.old path number ≡ Ok (h.box.canvas, h.box.key) = deleted_is h.old h.new s.base.counts s.names path number h.steps h.steps' h.box h.deletes in
    let found : sub_reached g (Some g.root) path ≡ Some h.box.canvas = going_at g number (sub_reached g (Some g.root) path) (h.box.canvas, h.box.key) is in
    let same : led_to (net_of h.old) (Some g.root) path ≡ sub_reached g (Some g.root) path = led_is h.old (Some g.root) path ∙ sub_leads g path (Some g.root) h.box.canvas found ∙ sym found in
    ap (λ (n : Net). box_of n path number) h.stands.net ∙ ap (λ (o : Option ℕ). option_and_then (λ c. slice_get (keys_at g c) number) o) same
    ∙ going_key g number (sub_reached g (Some g.root) path) (h.box.canvas, h.box.key) is

abbrev take_now : (s : Stage) (path : List ℕ) (number : ℕ) (m : Made) → IsTakenOut s path number m → IsTakenOut (with_ahead s []) path number m
take_now s path number m h = record {
  old = h.old;
  new = h.new;
  box = h.box;
  steps = h.steps;
  steps' = h.steps';
  stands = record { net = h.stands.net; states = h.stands.states; puts = h.stands.puts; meet = h.stands.meet };
  deletes = h.deletes;
  net = h.net;
  states = h.states;
  clocks = h.clocks;
  names = h.names;
  base = h.base;
  within = h.within;
  lines = h.lines;
  files = h.files;
  loads = h.loads;
  looks = h.looks;
}

-- where a patch stands at a stage with a tree
stage_told : (r : Stage) → HasTree r → (q : Patch) → StandsAt q r → (c : ℕ) → TellsLoop q (Loop c)
stage_told r t q at c =
    let stand : GroveStands q.grove t.tree.sheet t.tree.boxes = at_stands r t q at in
    each_told q t.tree stand (deep_more (deep t.tree.boxes) t.shallow) at.puts.forest at.puts.runs.orders
    (λ way canvas o leads order. few_more (length o.chain + length o.stuck) (weight t.tree.boxes) r.base.counts.boxes
    (orders_short q t.tree stand at.puts.runs.orders way canvas o leads order) t.boxes t.within.boxes) c

-- the line of a loop of each canvas tells all its boxes
pub take_told : (s : Stage) (path : List ℕ) (number : ℕ) (m : Made) → HasTree s → (h : IsTakenOut s path number m) → (c : ℕ) → TellsLoop h.new (Loop c)
take_told s path number m t h c =
    stage_told (stage_by (with_ahead s []) (Makes m)) (lost_tree s t path number m [] (take_now s path number m h)) h.new (record {
      net = h.net;
      states = h.states;
      puts = deleted_can h.old h.new s.base.counts s.names path number h.steps h.steps' h.box h.deletes;
      meet = deleted_meet h.old h.new s.base.counts s.names path number h.steps h.steps' h.box h.deletes;
    }) c

-- ---- the orders of the canvases in and around which an edit moved a box

free_at : (array : Bool) (e : EditRefusal) (x y : ℕ × ℕ) → cond array (Err e) (Ok x) ≡ Ok y → x.0 ≡ y.0
free_at true e x y h = absurd (cc)
free_at false e x y h = ap (λ (z : ℕ × ℕ). z.0) (ok_same x y (Ok x) refl h)

moving_from : (g : Grove) (c number : ℕ) (o : Option ℕ) (x : ℕ × ℕ) → moving_box g c number o ≡ Ok x → c ≡ x.0
moving_from g c number None x h = absurd (cc)
moving_from g c number (Some key) x h = free_at (is_array_in (get g.nodes key)) (NoBox number) (c, key) x h

moving_at : (g : Grove) (number : ℕ) (o : Option ℕ) (x : ℕ × ℕ) → moving_in g number o ≡ Ok x → o ≡ Some x.0
moving_at g number None x h = absurd (cc)
moving_at g number (Some c) x h = ap (λ (y : ℕ). Some y) (moving_from g c number (slice_get (keys_at g c) number) x h)

-- as many as there are in the tree are few
few_there : (n m b : ℕ) → n ≤ m → b ≡ m → b ≤ 16384 → n ≤ 16384
few_there n m b l g h = omega (arith, l, g, h)

module _ (s : Stage) (path : List ℕ) (number : ℕ) (x y : ℤ) (m : Made) (t : HasTree s) (h : IsMovedTo s path number x y m) where
  -- a box that is no port
  shift_short : Shifts h.old h.new h.box.canvas h.box.key x y → (o : Listing) → order_in h.new.orders.items h.box.canvas ≡ Some o → length o.chain + length o.stuck ≤ most_boxes
  shift_short shifts o order =
      let p : Patch = h.old in
      let c : ℕ = h.box.canvas in
      let leads : reached p.grove (Some p.grove.root) path ≡ Some c =
      sub_leads p.grove path (Some p.grove.root) c (moving_at p.grove number (sub_reached p.grove (Some p.grove.root) path) (c, h.box.key) h.moves.is) in
      let there : reached t.patch.grove (Some t.patch.grove.root) path ≡ Some c = led_at (patch_now s t) p s path c h.stands.net t.of.net leads in
      let few : length (keys_at t.patch.grove c) ≤ weight t.tree.boxes = canvas_few t.patch.grove t.tree t.stands path c there in
      let same : keys_at p.grove c ≡ keys_at t.patch.grove c = ap (λ (boards : Slab Board). keys_in (get boards c)) (boards_same s t p h.stands.net) in
      let all : length (keys_at p.grove c) ≤ 16384 =
      few_there (length (keys_at p.grove c)) (weight t.tree.boxes) s.base.counts.boxes (subst (λ (ks : List ℕ). length ks ≤ weight t.tree.boxes) (sym same) few) t.boxes t.within.boxes in
      let here : order_in p.orders.items c ≡ Some o = rw (sym shifts.rest.orders) order in
      let short : length o.chain + length o.stuck ≤ length (keys_at p.grove c) =
      order_keys p.grove p.web (get p.grove.boards c) (order_in p.orders.items c) o (h.stands.puts.runs.orders c) here in
      through (length o.chain + length o.stuck) (length (keys_at p.grove c)) short all

  abbrev move_now : IsMovedTo (with_ahead s []) path number x y m
  move_now = record {
    old = h.old;
    new = h.new;
    box = h.box;
    stands = record { net = h.stands.net; states = h.stands.states; puts = h.stands.puts; meet = h.stands.meet };
    moves = h.moves;
    net = h.net;
    states = h.states;
    clocks = h.clocks;
    names = h.names;
    base = h.base;
    lines = h.lines;
    files = h.files;
    loads = h.loads;
    looks = h.looks;
  }

  -- a port of a box around: the line of a loop of each canvas tells all its boxes
  port_told : ShiftsPort h.old h.new h.box.canvas h.box.key x y → (c : ℕ) → TellsLoop h.new (Loop c)
  port_told port c =
      stage_told (stage_by (with_ahead s []) (Makes m)) (moved_tree s t path number x y m [] move_now) h.new (record {
        net = h.net;
        states = h.states;
        puts = port.slid.can;
        meet = port.slid.meet;
      }) c

  pub move_told : TellsLoop h.new (Loop h.box.canvas)
  move_told = by h.moves.shifts
    where
      by : ShiftsBox h.old h.new h.box.canvas h.box.key x y → TellsLoop h.new (Loop h.box.canvas)
      by (inl plain) = made_told h.new h.box.canvas (shift_short plain)
      by (inr port) = port_told port h.box.canvas

  -- and that of the canvas around, where ports there changed places
  pub move_around : (c : ℕ) → h.box.around ≡ Some c → TellsLoop h.new (Loop c)
  move_around c at = by h.moves.shifts h.moves.around
    where
      by : (shifts : ShiftsBox h.old h.new h.box.canvas h.box.key x y) → h.box.around ≡ canvas_changed h.old h.new h.box.canvas h.box.key x y shifts → TellsLoop h.new (Loop c)
      by (inl plain) e = absurd (none-some c (sym e ∙ at))
      by (inr port) e = port_told port c

-- ---- the order of the canvas in which an edit made a box another one

pub retype_at : (s : Stage) (path : List ℕ) (number : ℕ) (text : List Atom) (m : Made) → (h : IsRetypedTo s path number text m)
    → box_of s.net path number ≡ Some h.box.key
retype_at s path number text m h =
    let g : Grove = h.old.grove in
    let found : sub_reached g (Some g.root) path ≡ Some h.box.canvas = h.retypes.chosen.leads in
    let there : led_to (net_of h.old) (Some g.root) path ≡ Some h.box.canvas = led_is h.old (Some g.root) path ∙ sub_leads g path (Some g.root) h.box.canvas found in
    ap (λ (n : Net). box_of n path number) h.stands.net ∙ ap (λ (o : Option ℕ). option_and_then (λ c. slice_get (keys_at g c) number) o) there
    ∙ h.retypes.chosen.at

-- an order of a canvas that has the boxes that it had
few_still : (s : Stage) (t : HasTree s) (p q : Patch) (path : List ℕ) (c : ℕ) → s.net ≡ net_of p → sub_reached p.grove (Some p.grove.root) path ≡ Some c
    → keys_at q.grove c ≡ keys_at p.grove c → CanPut q → (o : Listing) → order_in q.orders.items c ≡ Some o → length o.chain + length o.stuck ≤ most_boxes
few_still s t p q path c stands found keys can o order =
    let leads : reached p.grove (Some p.grove.root) path ≡ Some c = sub_leads p.grove path (Some p.grove.root) c found in
    let there : reached t.patch.grove (Some t.patch.grove.root) path ≡ Some c = led_at (patch_now s t) p s path c stands t.of.net leads in
    let few : length (keys_at t.patch.grove c) ≤ weight t.tree.boxes = canvas_few t.patch.grove t.tree t.stands path c there in
    let same : keys_at q.grove c ≡ keys_at t.patch.grove c = keys ∙ ap (λ (boards : Slab Board). keys_in (get boards c)) (boards_same s t p stands) in
    let all : length (keys_at q.grove c) ≤ 16384 =
    few_there (length (keys_at q.grove c)) (weight t.tree.boxes) s.base.counts.boxes (subst (λ (ks : List ℕ). length ks ≤ weight t.tree.boxes) (sym same) few) t.boxes t.within.boxes in
    let short : length o.chain + length o.stuck ≤ length (keys_at q.grove c) =
    order_keys q.grove q.web (get q.grove.boards c) (order_in q.orders.items c) o (can.runs.orders c) order in
    through (length o.chain + length o.stuck) (length (keys_at q.grove c)) short all

pub retype_short : (s : Stage) (path : List ℕ) (number : ℕ) (text : List Atom) (m : Made) → HasTree s → (h : IsRetypedTo s path number text m) → (o : Listing)
    → order_in h.new.orders.items h.box.canvas ≡ Some o → length o.chain + length o.stuck ≤ most_boxes
retype_short s path number text m t h o order = by h.retypes.became
  where
    by : Becomes h.old h.new s.names text s.time h.box.key h.retypes.node h.retypes.added h.box.gone.items h.steps h.steps' → length o.chain + length o.stuck ≤ most_boxes
    by (inl b) =
        few_still s t h.old h.new path h.box.canvas h.stands.net h.retypes.chosen.leads
        (ap (λ (g : Grove). keys_at g h.box.canvas) b.back.tightens.rest.grove
        ∙ ap (λ (boards : Slab Board). keys_in (get boards h.box.canvas)) b.refit.grove.boards ∙ ap (λ (g : Grove). keys_at g h.box.canvas) (b.frees.rest.grove ∙ b.loosens.rest.grove)
        ∙ seen_keys (get h.old.grove.boards h.box.canvas) (get b.ready.grove.boards h.box.canvas) (b.room.grove.boards h.box.canvas)) b.goes_on o order
    by (inr b) =
        few_still s t h.old h.new path h.box.canvas h.stands.net h.retypes.chosen.leads
        (ap (λ (boards : Slab Board). keys_in (get boards h.box.canvas)) b.renamed.box.boards ∙ seen_keys (get h.old.grove.boards h.box.canvas) (get b.ready.grove.boards h.box.canvas) (b.room.grove.boards h.box.canvas)) b.goes_on o order
