-- An edit of wires, and the document of the patch.
use Rattle.std.proofs.Common.{◌≡◌, ◌≢◌, ℕ, Bool, true, false, cond, ◌≤◌, List, [], ◌∷◌, length, slice_get, Option, Some, None, IsSome, Result, Ok, Err, refl, sym, ap, ◌∙◌, subst, arith}
use Rattle.std.specs.Prelude.{option_and_then, nat_lt}
use Rattle.std.proofs.lemmas.Option.{none-some, same_Some}
use Rattle.slab.specs.Slab.{get}
use Rattle.pd_canvas.specs.declared.edits.Edit.{Edit}
use Rattle.pd_canvas.specs.declared.edits.Edit.TheVariants as edit
use Rattle.pd_canvas.specs.declared.wires.Wire.{Wire}
use Rattle.pd_canvas.specs.Edits.{edited}
use Rattle.pd_canvas.specs.Paths.{edit_at}
use Rattle.pd_canvas.specs.Wiring.{with_wire, without_wire}
use Rattle.pd_tree.specs.Ports.{fits}
use Rattle.pd_tree.specs.Trees.{Tree}
use Rattle.pd_grove.specs.declared.boards.Board.{Board}
use Rattle.pd_grove.specs.declared.grove.Grove.{Grove}
use Rattle.pd_grove.specs.declared.ports.Side.TheVariants.{Inlets, Outlets}
use Rattle.pd_grove.specs.OwnPaths.{sub_in, sub_step_in, sub_reached}
use Rattle.pd_grove.specs.Standing.{GroveStands}
use Rattle.pd_grove.specs.Telling.{inner_in, keys_in, step_in, reached}
use Rattle.pd_grove.specs.TextOrder.{deep}
use Rattle.pd_web.specs.declared.lines.Line.{Line}
use Rattle.pd_web.specs.declared.web.Hop.{Hop}
use Rattle.pd_web.specs.declared.web.Web.{Web}
use Rattle.pd_web.specs.Canvases.{keys_at}
use Rattle.pd_web.specs.Changes.{CutsWire}
use Rattle.pd_web.specs.Hops.{boxes_told, fan_hops, ports_told}
use Rattle.pd_seek.specs.Places.{key_to}
use Rattle.pd_present.specs.Presents.{wires_among, present_page}
use Rattle.pd_patch.specs.declared.patch.Patch.{Patch}
use Rattle.pd_patch.specs.Document.{present_document}
use Rattle.pd_patch.specs.Linked.{ShareCanvas}
use Rattle.pd_patch.proofs.WayLemmas.{path_short, path_whole}
use Rattle.pd_wiring.specs.declared.asking.WireRefusal.{WireRefusal}
use Rattle.pd_wiring.specs.declared.refusals.EditRefusal.{EditRefusal}
use Rattle.pd_wiring.specs.Asking.{line_fitting, line_between, line_by_keys, line_asked, line_there}
use Rattle.pd_wiring.specs.Changes.{CanRewire}
use Rattle.pd_wiring.specs.Plans.{Plan, Attaches, Detaches, attaching, wire_found, detaching, connecting, disconnecting, planned, Attached, Detached, IsCarriedOut, IsRewired}
use Rattle.pd_wiring.proofs.HeardLemmas.{all_at}
use Rattle.pd_reload_law.specs.Wires.{IsAmong, StayAmong, StandOnce, RewiresAt, wire_by}
use Rattle.pd_reload_law.proofs.EditLemmas.{sub_inner, document_edited}
use Rattle.pd_reload_law.proofs.FanLemmas.{number_is}
use Rattle.pd_reload_law.proofs.FollowLemmas.{join_follows, join_elsewhere, cut_follows, cut_elsewhere}
use Rattle.pd_reload_law.proofs.LaidLemmas.{wire_is}

-- ---- where a path leads

nowhere : (g : Grove) (path : List ℕ) → reached g None path ≡ None
nowhere g [] = refl
nowhere g (n ∷ path) = nowhere g path

sub_nowhere : (g : Grove) (path : List ℕ) → sub_reached g None path ≡ None
sub_nowhere g [] = refl
sub_nowhere g (n ∷ path) = sub_nowhere g path

step_sub : (g : Grove) (o : Option ℕ) (j : ℕ) → option_and_then (λ k. sub_in (get g.nodes k)) o ≡ Some j → option_and_then (λ k. inner_in (get g.nodes k)) o ≡ Some j
step_sub g None j e = absurd (none-some j e)
step_sub g (Some k) j e = sub_inner (get g.nodes k) j e

-- through subpatches a path leads where it leads through all boxes
pub sub_leads : (g : Grove) (c d : ℕ) (path : List ℕ) → sub_reached g (Some c) path ≡ Some d → reached g (Some c) path ≡ Some d
sub_leads g c d [] e = e
sub_leads g c d (n ∷ path) e = by (λ j f. sub_leads g j d path f) (sub_step_in g c n) refl e
  where
    by : ((j : ℕ) → sub_reached g (Some j) path ≡ Some d → reached g (Some j) path ≡ Some d)
        → (o : Option ℕ) → sub_step_in g c n ≡ o → sub_reached g o path ≡ Some d → reached g (step_in g c n) path ≡ Some d
    by on None s f = absurd (none-some d (sym (sub_nowhere g path) ∙ f))
    by on (Some j) s f = ap (λ o. reached g o path) (step_sub g (slice_get (keys_at g c) n) j s) ∙ on j f

-- ---- the line of a wire

pub never_line : (why : WireRefusal) (l : Line) → ◌≡◌ {A = Result Line WireRefusal} (Err why) (Ok l) → ⊥
never_line why l e = cc

same_line : (l m : Line) → ◌≡◌ {A = Result Line WireRefusal} (Ok l) (Ok m) → l ≡ m
same_line l m e = cc

pub never_plan : (why : EditRefusal) (p : Plan) → ◌≡◌ {A = Result Plan EditRefusal} (Err why) (Ok p) → ⊥
never_plan why p e = cc

same_plan : (p q : Plan) → ◌≡◌ {A = Result Plan EditRefusal} (Ok p) (Ok q) → p ≡ q
same_plan p q e = cc

-- a wire of a canvas leads along the line
pub record IsLine (g : Grove) (c : ℕ) (v : Wire) (l : Line) : Type 0 where
  pub source : slice_get (keys_at g c) v.source ≡ Some l.source
  pub sink : slice_get (keys_at g c) v.sink ≡ Some l.sink
  pub outlet : l.outlet ≡ v.outlet
  pub inlet : l.inlet ≡ v.inlet

fitting_line : (b : Bool) (l m : Line) → line_fitting b l ≡ Ok m → l ≡ m
fitting_line true l m e = same_line l m e
fitting_line false l m e = absurd (never_line _ m e)

pub cond_line : (b : Bool) (r : Result Line WireRefusal) (why : WireRefusal) (l : Line) → cond b r (Err why) ≡ Ok l → r ≡ Ok l
cond_line true r why l e = e
cond_line false r why l e = absurd (never_line why l e)

between_line : (w : Web) (v : Wire) (b : Bool) (k j : ℕ) (l : Line) → line_between w v b k j ≡ Ok l → record { source = k; outlet = v.outlet; sink = j; inlet = v.inlet } ≡ l
between_line w v b k j l e =
    fitting_line b (record { source = k; outlet = v.outlet; sink = j; inlet = v.inlet }) l
    (cond_line (nat_lt v.inlet (length (ports_told w Inlets j))) _ _ l (cond_line (nat_lt v.outlet (length (ports_told w Outlets k))) _ _ l e))

line_is : (g : Grove) (w : Web) (c : ℕ) (v : Wire) (b : Bool) (s t : Option ℕ) (l : Line) → slice_get (keys_at g c) v.source ≡ s → slice_get (keys_at g c) v.sink ≡ t
    → line_by_keys w v b s t ≡ Ok l → IsLine g c v l
line_is g w c v b None t l f h e = absurd (never_line _ l e)
line_is g w c v b (Some k) None l f h e = absurd (never_line _ l e)
line_is g w c v b (Some k) (Some j) l f h e =
    let same = between_line w v b k j l e in
    record {
      source = f ∙ ap (λ (x : Line). Some x.source) same;
      sink = h ∙ ap (λ (x : Line). Some x.sink) same;
      outlet = sym (ap (λ (x : Line). x.outlet) same);
      inlet = sym (ap (λ (x : Line). x.inlet) same);
    }

-- ---- plans

-- a wire comes into this canvas along this line
pub record Comes (g : Grove) (v : Wire) (here : Option ℕ) (plan : Plan) : Type 0 where
  pub canvas : ℕ
  pub line : Line
  pub at : here ≡ Some canvas
  pub is : IsLine g canvas v line
  pub plan_is : plan ≡ Attaches canvas line

pub record Goes (w : Web) (g : Grove) (v : Wire) (here : Option ℕ) (plan : Plan) : Type 0 where
  pub canvas : ℕ
  pub key : ℕ
  pub line : Line
  pub at : here ≡ Some canvas
  pub is : IsLine g canvas v line
  pub first : key_to line (fan_hops w line.source line.outlet) ≡ Some key
  pub plan_is : plan ≡ Detaches canvas key line

cond_plan : (b : Bool) (p q : Plan) (why : EditRefusal) → cond b (Ok p) (Err why) ≡ Ok q → p ≡ q
cond_plan true p q why e = same_plan p q e
cond_plan false p q why e = absurd (never_plan why q e)

comes_by : (p : Patch) (v : Wire) (c : ℕ) (r : Result Line WireRefusal) (plan : Plan) → line_asked p.grove p.web c v ≡ r → attaching p.web c r ≡ Ok plan → Comes p.grove v (Some c) plan
comes_by p v c (Err why) plan f e = absurd (never_plan _ plan e)
comes_by p v c (Ok l) plan f e = record {
  canvas = c;
  line = l;
  at = refl;
  is = line_is p.grove p.web c v (fits (boxes_told p.web (keys_at p.grove c)) v) (slice_get (keys_at p.grove c) v.source) (slice_get (keys_at p.grove c) v.sink) l refl refl f;
  plan_is = sym (cond_plan (nat_lt _ 65536) (Attaches c l) plan _ e);
}

pub comes : (p : Patch) (v : Wire) (here : Option ℕ) (plan : Plan) → connecting p v here ≡ Ok plan → Comes p.grove v here plan
comes p v None plan e = absurd (never_plan _ plan e)
comes p v (Some c) plan e = comes_by p v c (line_asked p.grove p.web c v) plan refl e

goes_found : (p : Patch) (v : Wire) (c : ℕ) (l : Line) (o : Option ℕ) (plan : Plan) → IsLine p.grove c v l → key_to l (fan_hops p.web l.source l.outlet) ≡ o
    → wire_found c l o ≡ Ok plan → Goes p.web p.grove v (Some c) plan
goes_found p v c l None plan i f e = absurd (never_plan _ plan e)
goes_found p v c l (Some key) plan i f e =
    record { canvas = c; key = key; line = l; at = refl; is = i; first = f; plan_is = sym (same_plan (Detaches c key l) plan e) }

goes_by : (p : Patch) (v : Wire) (c : ℕ) (r : Result Line WireRefusal) (plan : Plan) → line_there p.grove p.web c v ≡ r → detaching p.web c r ≡ Ok plan → Goes p.web p.grove v (Some c) plan
goes_by p v c (Err why) plan f e = absurd (never_plan _ plan e)
goes_by p v c (Ok l) plan f e =
    goes_found p v c l (key_to l (fan_hops p.web l.source l.outlet)) plan
    (line_is p.grove p.web c v true (slice_get (keys_at p.grove c) v.source) (slice_get (keys_at p.grove c) v.sink) l refl refl f) refl e

pub goes : (p : Patch) (v : Wire) (here : Option ℕ) (plan : Plan) → disconnecting p v here ≡ Ok plan → Goes p.web p.grove v here plan
goes p v None plan e = absurd (never_plan _ plan e)
goes p v (Some c) plan e = goes_by p v c (line_there p.grove p.web c v) plan refl e

-- ---- the canvas of a wire

pub wire_same : (p : Patch) (c : ℕ) (v : Wire) (l : Line) → CanRewire p → IsLine p.grove c v l → wire_by p.numbers.items l ≡ v
wire_same p c v l r i =
    wire_is _ l.outlet _ l.inlet v.source v.outlet v.sink v.inlet (number_is p.numbers.items l.source v.source (r.numbers c v.source l.source i.source)) i.outlet
    (number_is p.numbers.items l.sink v.sink (r.numbers c v.sink l.sink i.sink)) i.inlet

lives_by : (o : Option Board) (i k : ℕ) → slice_get (keys_in o) i ≡ Some k → IsSome o
lives_by None i k e = absurd (none-some k e)
lives_by (Some b) i k e = refl

-- a box of one canvas is in no other
pub elsewhere : (p : Patch) (c d i k : ℕ) → CanRewire p → d ≢ c → slice_get (keys_at p.grove c) i ≡ Some k → IsAmong (keys_at p.grove d) k → ⊥
elsewhere p c d i k r apart at there = apart (same_Some d c (sym (r.own.home d there.0 k there.1) ∙ r.own.home c i k at))

-- wires stay among the boxes of a canvas
pub stays_among : (p : Patch) (c : ℕ) → CanRewire p → StayAmong p.web (keys_at p.grove c)
stays_among p c r k o i h at is =
    let t : ShareCanvas p.grove k h.node = all_at (λ (x : Hop). ShareCanvas p.grove k x.node) (fan_hops p.web k o) i h (r.inside k o) is in
    let same : t.canvas ≡ c = same_Some t.canvas c (sym (r.own.home t.canvas t.one.0 k t.one.1) ∙ r.own.home c at.0 k at.1) in
    subst (λ x. IsAmong (keys_at p.grove x) h.node) same t.other

once_at : (p : Patch) (t : Tree) (path : List ℕ) (c : ℕ) → CanRewire p → GroveStands p.grove t.sheet t.boxes → deep t.boxes ≤ 256 → reached p.grove (Some p.grove.root) path ≡ Some c
    → (other : List ℕ) → reached p.grove (Some p.grove.root) other ≡ Some c → path ≡ other
once_at p t path c r G low at other also =
    sym (path_whole p.grove p.numbers.items t.sheet t.boxes path c G r.numbers low at)
    ∙ path_whole p.grove p.numbers.items t.sheet t.boxes other c G r.numbers low also

attached_at : (p q : Patch) (t : Tree) (path : List ℕ) (c : ℕ) (v : Wire) (l : Line) → CanRewire p → GroveStands p.grove t.sheet t.boxes → deep t.boxes ≤ 256
    → sub_reached p.grove (Some p.grove.root) path ≡ Some c → IsLine p.grove c v l → Attached p q l
    → RewiresAt p.grove p.web q.web p.numbers.items path c (with_wire v)
attached_at p q t path c v l r G low at i a = record {
  lives = lives_by (get p.grove.boards c) v.source l.source i.source;
  once = once_at p t path c r G low (sub_leads p.grove p.grove.root c path at);
  here = join_follows p.web q.web p.numbers.items (keys_at p.grove c) a.key l a.place v.source (r.numbers c) i.source a.joins
      ∙ ap (λ x. with_wire x (wires_among p.web p.numbers.items (keys_at p.grove c))) (wire_same p c v l r i);
  others = λ d apart. join_elsewhere p.web q.web p.numbers.items (keys_at p.grove d) a.key l _ a.place (r.numbers d) (elsewhere p c d v.source l.source r apart i.source) a.joins;
}

detached_at : (p q : Patch) (t : Tree) (path : List ℕ) (c key : ℕ) (v : Wire) (l : Line) → StandOnce p.web → CanRewire p → GroveStands p.grove t.sheet t.boxes
    → deep t.boxes ≤ 256 → sub_reached p.grove (Some p.grove.root) path ≡ Some c → IsLine p.grove c v l → key_to l (fan_hops p.web l.source l.outlet) ≡ Some key
    → CutsWire p.web q.web key → RewiresAt p.grove p.web q.web p.numbers.items path c (without_wire v)
detached_at p q t path c key v l once r G low at i first a = record {
  lives = lives_by (get p.grove.boards c) v.source l.source i.source;
  once = once_at p t path c r G low (sub_leads p.grove p.grove.root c path at);
  here = cut_follows p.web q.web p.numbers.items (keys_at p.grove c) key l v.source (r.numbers c) once (stays_among p c r) i.source (v.sink, i.sink) first a
      ∙ ap (λ x. without_wire x (wires_among p.web p.numbers.items (keys_at p.grove c))) (wire_same p c v l r i);
  others = λ d apart. cut_elsewhere p.web q.web p.numbers.items (keys_at p.grove d) key l (r.numbers d) once (elsewhere p c d v.source l.source r apart i.source) first a;
}

-- ---- the document

document_by : (p q : Patch) (t : Tree) (path : List ℕ) (c : ℕ) (f : List Wire → List Wire) → q.grove ≡ p.grove → q.numbers ≡ p.numbers → GroveStands p.grove t.sheet t.boxes
    → deep t.boxes ≤ 256 → sub_reached p.grove (Some p.grove.root) path ≡ Some c → RewiresAt p.grove p.web q.web p.numbers.items path c f
    → present_document q ≡ edit_at path (λ x. record { header = x.header; kept = x.kept; boxes = x.boxes; wires = f x.wires; coords = x.coords }) (present_document p)
document_by p q t path c f g n G low at r =
    ap (λ x. present_page x q.web q.numbers.items) g ∙ ap (λ (x : _). present_page p.grove q.web x.items) n
    ∙ document_edited p.grove p.web q.web p.numbers.items path c f r at (short (length path) (deep t.boxes) (path_short p.grove t.sheet t.boxes path c G (sub_leads p.grove p.grove.root c path at)) low)
  where
    short : (a b : ℕ) → a ≤ b → b ≤ 256 → a ≤ 256
    short a b h k = omega (arith, h, k)

connected : (p q : Patch) (t : Tree) (path : List ℕ) (v : Wire) (plan : Plan) → CanRewire p → GroveStands p.grove t.sheet t.boxes → deep t.boxes ≤ 256
    → Comes p.grove v (sub_reached p.grove (Some p.grove.root) path) plan → IsCarriedOut plan p q
    → present_document q ≡ edit_at path (edited (edit.Connect v)) (present_document p)
connected p q t path v plan r G low h done =
    let a : Attached p q h.line = subst (λ x. IsCarriedOut x p q) h.plan_is done in
    document_by p q t path h.canvas (with_wire v) a.rest.grove a.rest.numbers G low h.at (attached_at p q t path h.canvas v h.line r G low h.at h.is a)

disconnected : (p q : Patch) (t : Tree) (path : List ℕ) (v : Wire) (plan : Plan) → StandOnce p.web → CanRewire p → GroveStands p.grove t.sheet t.boxes → deep t.boxes ≤ 256
    → Goes p.web p.grove v (sub_reached p.grove (Some p.grove.root) path) plan → IsCarriedOut plan p q
    → present_document q ≡ edit_at path (edited (edit.Disconnect v)) (present_document p)
disconnected p q t path v plan once r G low h done =
    let a : Detached p q h.key h.line = subst (λ x. IsCarriedOut x p q) h.plan_is done in
    document_by p q t path h.canvas (without_wire v) a.rest.grove a.rest.numbers G low h.at
    (detached_at p q t path h.canvas h.key v h.line once r G low h.at h.is h.first a.cuts)

by_edit : (p q : Patch) (t : Tree) (path : List ℕ) (e : Edit) (plan : Plan) → StandOnce p.web → CanRewire p → GroveStands p.grove t.sheet t.boxes → deep t.boxes ≤ 256
    → planned p path e ≡ Ok plan → IsCarriedOut plan p q → present_document q ≡ edit_at path (edited e) (present_document p)
by_edit p q t path (edit.Connect v) plan once r G low h done = connected p q t path v plan r G low (comes p v (sub_reached p.grove (Some p.grove.root) path) plan h) done
by_edit p q t path (edit.Disconnect v) plan once r G low h done = disconnected p q t path v plan once r G low (goes p v (sub_reached p.grove (Some p.grove.root) path) plan h) done
by_edit p q t path e plan once r G low h done = absurd (never_plan _ plan h)

pub edits_document : (p q : Patch) (t : Tree) (path : List ℕ) (e : Edit) (canvas : ℕ) → StandOnce p.web → CanRewire p → GroveStands p.grove t.sheet t.boxes → deep t.boxes ≤ 256
    → IsRewired p q path e canvas → present_document q ≡ edit_at path (edited e) (present_document p)
edits_document p q t path e canvas once r G low x = by_edit p q t path e x.plan once r G low x.is_planned x.done
