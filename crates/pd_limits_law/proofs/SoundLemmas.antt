-- What the boxes of a running patch keep of values, and why a patch is refused that would grow as it stands.
use Rattle.std.proofs.Common.{◌≡◌, ◌≤◌, ◌<◌, ◌+◌, ℕ, ℤ, suc, Bool, true, false, cond, List, [], ◌∷◌, ◌++◌, length, slice_get, Option, Some, None, Result, Ok, Err, refl, sym, ap, ◌∙◌, subst, arith}
use Rattle.std.specs.Prelude.{option_map, option_and_then}
use Rattle.std.proofs.lemmas.Option.{none-some, same_Some}
use Rattle.slab.specs.Slab.{get}
use Rattle.pd_atom.specs.Names.{Names}
use Rattle.pd_clock.specs.declared.times.Rate.{Rate}
use Rattle.pd_canvas.specs.Arrays.{is_saved}
use Rattle.pd_canvas.specs.Pages.{Shape, Obj, Msg, Sub, Array}
use Rattle.pd_object.specs.declared.kinds.Kind.{Kind}
use Rattle.pd_object.specs.declared.kinds.Kind.TheVariants as kind
use Rattle.pd_object.specs.declared.kinds.Panel.TheVariants as panel
use Rattle.pd_kind.specs.declared.states.State.{State}
use Rattle.pd_kind.specs.States.{size_of}
use Rattle.pd_kind.specs.Tables.{table_of, saved_of}
use Rattle.pd_fit.specs.Fitting.{wires_fitting}
use Rattle.pd_tree.specs.declared.rows.Sheet.{Sheet}
use Rattle.pd_tree.specs.Trees.{Cell, Trees, Done, Leaf, Holder, Tree}
use Rattle.pd_growth.specs.declared.growing.Stop.{Stop}
use Rattle.pd_growth.specs.Steps.{Stock, Step, gives, ends}
use Rattle.pd_regrowth_law.proofs.StepLemmas.{gives_same}
use Rattle.pd_grove.specs.declared.grove.Grove.{Grove}
use Rattle.pd_grove.specs.declared.nodes.Node.{Node}
use Rattle.pd_grove.specs.OwnPaths.{sub_in, sub_step_in, sub_reached}
use Rattle.pd_grove.specs.Standing.{NodeSeen, node_seen, Stands}
use Rattle.pd_grove.specs.Telling.{inner_in, state_in}
use Rattle.pd_grove.specs.TextOrder.{is_sub, keys_inside}
use Rattle.pd_grove.proofs.PlaceLemmas.{seen_keys}
use Rattle.pd_web.specs.declared.web.Web.{Web}
use Rattle.pd_web.specs.Canvases.{keys_at}
use Rattle.pd_present.specs.Contents.{values_or, present_values, present_head}
use Rattle.pd_present.specs.Presents.{wires_among}
use Rattle.pd_patch.specs.declared.patch.Patch.{Patch}
use Rattle.pd_patch.specs.declared.refusal.GrowRefusal.{GrowRefusal}
use Rattle.pd_patch.specs.declared.refusal.GrowRefusal.TheVariants.{SymbolsFull, TooManyBoxes, TooManyWires, TooMuchSound, NoMemory}
use Rattle.pd_patch.specs.Grown.{HasCause}
use Rattle.pd_patch.specs.Sounds.{sound_of}
use Rattle.pd_regrowth_law.specs.Rewiring.{with_wires}
use Rattle.pd_reload_law.specs.Reloading.{RunsAs}
use Rattle.pd_reload_law.specs.Saving.{kind_turned, object_now, cell_by, cell_now, holder_now, boxes_now, IsMade, AreMade}
use Rattle.pd_alike_law.specs.Alike.{now_of}
use Rattle.pd_contents_law.specs.Contents.{count_of}
use Rattle.pd_proper_law.specs.Saves.{IsOwnBox, SavesWell, AllSaveWell}
use Rattle.pd_proper_law.proofs.TreeLemmas.{seen_sub, inside_at}

-- ---- one box

turned_size : (v : ℤ × ℤ) (k : Kind) (rate : Rate) → size_of (kind_turned v k) rate ≡ size_of k rate
turned_size v (kind.Panel (panel.Tgl t)) rate = refl
turned_size v k rate = refl

object_size : (o : Option (ℤ × ℤ)) (c : Cell) (h : _) (rate : Rate) → size_of (object_now o c h).kind rate ≡ size_of c.kind rate
object_size None c h rate = refl
object_size (Some v) c h rate = turned_size v c.kind rate

or_as_many : (o : Option (List ℤ)) (values : List ℤ) → ((vs : List ℤ) → o ≡ Some vs → length vs ≡ length values) → length (values_or o values) ≡ length values
or_as_many None values h = refl
or_as_many (Some vs) values h = h vs refl

as_many_values : (b : Bool) (s : Option State) (values : List ℤ) → ((vs : List ℤ) → option_and_then table_of s ≡ Some vs → length vs ≡ length values)
    → length (present_values b s values) ≡ length values
as_many_values true s values h = or_as_many (option_and_then table_of s) values h
as_many_values false s values h = refl

size_by : (names : Names) (rate : Rate) (f : Shape) (s : Option State) (c : Cell) → IsMade f c → SavesWell names f (count_of c.kind) s
    → size_of (cell_by f s c (present_head s c.head)).kind rate ≡ size_of c.kind rate
size_by names rate Msg s c m w = sym (ap (λ (x : Cell). size_of x.kind rate) m)
size_by names rate (Array values) s c m w =
    as_many_values (is_saved c.head.text) s values (λ vs e. (w vs e).1 ∙ ap (λ (x : Cell). count_of x.kind) m) ∙ sym (ap (λ (x : Cell). size_of x.kind rate) m)
size_by names rate Obj s c m w = object_size (option_and_then saved_of s) c (present_head s c.head) rate
size_by names rate f s c m w = refl

module _ (names : Names) (rate : Rate) (g : Grove) (saves : AllSaveWell names g) where
  seen_size : (k : ℕ) (o : Option Node) (x : NodeSeen) → IsOwnBox g k → get g.nodes k ≡ o → option_map node_seen o ≡ Some x → IsMade x.cell.head.form x.cell
      → size_of (cell_now (state_in o) x.cell).kind rate ≡ size_of x.cell.kind rate
  seen_size k None x own e h m = absurd (none-some x h)
  seen_size k (Some n) x own e h m =
      let same : node_seen n ≡ x = same_Some (node_seen n) x h in
      size_by names rate x.cell.head.form n.state x.cell m
      (subst (λ (y : NodeSeen). SavesWell names y.cell.head.form (count_of y.cell.kind) n.state) same (saves k n own e))

  leaf_size : (k b : ℕ) (c : Cell) → IsOwnBox g k → option_map node_seen (get g.nodes k) ≡ Some (record { board = b; cell = c; inner = None }) → IsMade c.head.form c
      → size_of (cell_now (state_in (get g.nodes k)) c).kind rate ≡ size_of c.kind rate
  leaf_size k b c own h m = seen_size k (get g.nodes k) (record { board = b; cell = c; inner = None }) own refl h m

-- ---- the boxes of the document

last_step : (g : Grove) (here : Option ℕ) (path : List ℕ) (n : ℕ) → sub_reached g here (path ++ n ∷ []) ≡ option_and_then (λ c. sub_step_in g c n) (sub_reached g here path)
last_step g here [] n = refl
last_step g here (m ∷ path) n = last_step g (option_and_then (λ c. sub_step_in g c m) here) path n

abbrev Listed : Grove → List ℕ → Type 0
Listed g keys = (i k : ℕ) → slice_get keys i ≡ Some k → IsOwnBox g k

inside_own : (g : Grove) (k b j : ℕ) (c : Cell) (js : List ℕ) → IsOwnBox g k → option_map node_seen (get g.nodes k) ≡ Some (record { board = b; cell = c; inner = Some j })
    → is_sub c.head.form ≡ true → keys_at g j ≡ js → Listed g js
inside_own g k b j c js own h f listed i x e =
    let step : sub_step_in g own.canvas own.place ≡ Some j =
    ap (option_and_then (λ y. sub_in (get g.nodes y))) own.at ∙ seen_sub (get g.nodes k) _ h ∙ ap (λ t. cond t (Some j) None) f in
    record {
      path = own.path ++ own.place ∷ [];
      canvas = j;
      place = i;
      leads = last_step g (Some g.root) own.path own.place ∙ ap (option_and_then (λ y. sub_step_in g y own.place)) own.leads ∙ step;
      at = ap (λ (ks : List ℕ). slice_get ks i) listed ∙ e;
    }

holder_sound : (rate : Rate) (f : Shape) (c : Cell) (s : Sheet) (inner : Trees) (new : Sheet) (boxes others rest : Trees)
    → (is_sub f ≡ true → sound_of rate boxes ≡ sound_of rate inner) → sound_of rate others ≡ sound_of rate rest
    → sound_of rate (holder_now f c s inner new boxes others) ≡ size_of c.kind rate + (sound_of rate inner + sound_of rate rest)
holder_sound rate Sub c s inner new boxes others rest i o =
    ap (λ n. size_of c.kind rate + (n + sound_of rate others)) (i refl) ∙ ap (λ n. size_of c.kind rate + (sound_of rate inner + n)) o
holder_sound rate f c s inner new boxes others rest i o = ap (λ n. size_of c.kind rate + (sound_of rate inner + n)) o

module _ (names : Names) (rate : Rate) (g : Grove) (web : Web) (numbers : List ℕ) (saves : AllSaveWell names g) where
  abbrev now : List ℕ → Trees → Trees
  now keys t = boxes_now web numbers (get g.nodes) (get g.boards) keys t

  sound_stays : (b d : ℕ) (keys : List ℕ) (t : Trees) → Listed g keys → Stands (get g.nodes) (get g.boards) b d keys t → AreMade t → sound_of rate (now keys t) ≡ sound_of rate t
  sound_stays b d [] t own S m = refl
  sound_stays b d (k ∷ ks) Done own S m = refl
  sound_stays b d (k ∷ ks) (Leaf c rest) own S m =
      ap (λ n. n + sound_of rate (now ks rest)) (leaf_size names rate g saves k b c (own 0 k refl) S.0 m.0)
      ∙ ap (λ n. size_of c.kind rate + n) (sound_stays b d ks rest (λ i x e. own (suc i) x e) S.1 m.1)
  sound_stays b d (k ∷ ks) (Holder c s inner rest) own S m =
      let js = keys_inside (get g.boards) (inner_in (get g.nodes k)) in
      let there : keys_at g S.0 ≡ S.1 = seen_keys (get g.boards S.0) _ S.3 in
      let same : js ≡ S.1 = inside_at g (get g.nodes k) _ S.0 S.2 refl ∙ there in
      holder_sound rate c.head.form c s inner (with_wires (wires_among web numbers js) s) (now js inner) (now ks rest) rest
      (λ f. subst (λ (ks : List ℕ). sound_of rate (now ks inner) ≡ sound_of rate inner) (sym same)
      (sound_stays S.0 (d + 1) S.1 inner (inside_own g k b S.0 c S.1 (own 0 k refl) S.2 f there) S.4 m.1))
      (sound_stays b d ks rest (λ i x e. own (suc i) x e) S.5 m.2)

pub same_sound : (p : Patch) (t : Tree) (names : Names) (rate : Rate) → RunsAs p.grove t → AreMade t.boxes → AllSaveWell names p.grove
    → sound_of rate (now_of p t).boxes ≡ sound_of rate t.boxes
same_sound p t names rate runs made saves =
    let g = p.grove in
    let G = runs.stands in
    let listed : keys_at g g.root ≡ G.keys = seen_keys (get g.boards g.root) _ G.root in
    subst (λ (ks : List ℕ). sound_of rate (boxes_now p.web p.numbers.items (get g.nodes) (get g.boards) ks t.boxes) ≡ sound_of rate t.boxes) (sym listed)
    (sound_stays names rate g p.web p.numbers.items saves g.root 0 G.keys t.boxes
    (λ i k e. record { path = []; canvas = g.root; place = i; leads = refl; at = ap (λ (ks : List ℕ). slice_get ks i) listed ∙ e }) G.stands made)

-- ---- the cause of a refusal

never_ends : (e : Stop) (t : Tree) (w v : Stock) → gives t w ≡ ends e v → ⊥
never_ends e t w v h = never (ap (λ (s : Step Tree). s.answer) h)
  where
    never : ◌≡◌ {A = Result Tree Stop} (Ok t) (Err e) → ⊥
    never q = cc

too_many : (a b n : ℕ) → a ≤ n → n < b → a ≡ b → ⊥
too_many a b n l m e = omega (arith, l, m, e)

pub memory_alone : (rate : Rate) (s : Step Tree) (t : Tree) (rest : Stock) (why : GrowRefusal) → s ≡ gives t rest → wires_fitting t.sheet t.boxes ≤ 65536
    → sound_of rate t.boxes ≤ 16777216 → HasCause why s rate → why ≡ NoMemory
memory_alone rate s t rest SymbolsFull is wires sound h = absurd (never_ends _ t rest h.after (sym is ∙ h.step))
memory_alone rate s t rest TooManyBoxes is wires sound h = absurd (never_ends _ t rest h.after (sym is ∙ h.step))
memory_alone rate s t rest TooManyWires is wires sound h =
    let same : t ≡ h.tree = gives_same t h.tree rest h.after (sym is ∙ h.step) in
    absurd (too_many (wires_fitting t.sheet t.boxes) (wires_fitting h.tree.sheet h.tree.boxes) 65536 wires h.many (ap (λ (x : Tree). wires_fitting x.sheet x.boxes) same))
memory_alone rate s t rest TooMuchSound is wires sound h =
    let same : t ≡ h.tree = gives_same t h.tree rest h.after (sym is ∙ h.step) in
    absurd (too_many (sound_of rate t.boxes) (sound_of rate h.tree.boxes) 16777216 sound h.much (ap (λ (x : Tree). sound_of rate x.boxes) same))
memory_alone rate s t rest NoMemory is wires sound h = refl
