-- A wire of a canvas that has come, laid where it fits.
use Rattle.std.proofs.Common.{◌≡◌, ◌≢◌, ℕ, zero, suc, ◌+◌, ◌<◌, ◌≤◌, ◌^◌, ◌==◌, Bool, true, false, cond, List, [], ◌∷◌, map, filter, length, take, Option, Some, None, refl, sym, ap, ◌∙◌, subst, inl, inr, arith}
use Rattle.std.specs.Prelude.{slice_get, slice_index_or}
use Rattle.std.proofs.lemmas.Bool.{cases_eq, false≢true}
use Rattle.std.proofs.lemmas.Option.{none-some, same_Some}
use Rattle.slab.specs.Slab.{get}
use Rattle.pd_canvas.specs.declared.wires.Wire.{Wire}
use Rattle.pd_order.specs.Graph.{tally}
use Rattle.pd_order.proofs.Basics.{same_test, other_test}
use Rattle.pd_chain.proofs.PlaceLemmas.{length_alike}
use Rattle.pd_links.specs.declared.links.Links.{Links}
use Rattle.pd_links.specs.Linked.{feeders_of, followers_of, spare_from, spare_into, TakesOne, HasOneMore}
use Rattle.pd_tree.specs.Ports.{Sockets as Seen, fits, fits_between}
use Rattle.pd_grove.specs.declared.grove.Grove.{Grove}
use Rattle.pd_grove.specs.declared.ports.Side.TheVariants.{Inlets, Outlets}
use Rattle.pd_grove.specs.Owning.{AreOwn}
use Rattle.pd_web.specs.declared.lines.Line.{Line}
use Rattle.pd_web.specs.declared.web.Web.{Web}
use Rattle.pd_web.specs.Canvases.{keys_at}
use Rattle.pd_web.specs.Changes.{Joins}
use Rattle.pd_web.specs.Hops.{boxes_told, ports_told}
use Rattle.pd_web.specs.Jacks.{jacks_at, made_in}
use Rattle.pd_web.specs.Lines.{IsRoute, boxes_in, laid_at, laid_boxes, line_in, line_of, lines_by, seen_at, seen_by}
use Rattle.pd_web.specs.Sockets.{made_at}
use Rattle.pd_web.proofs.LineLemmas.{line_route}
use Rattle.pd_patch.specs.Linked.{HasLinks, ShareCanvas}
use Rattle.pd_patch.specs.Numbers.{AreApart, IsOut}
use Rattle.pd_wiring.specs.Changes.{is_signal_line}
use Rattle.pd_wiring.specs.Graphs.{AreWired}
use Rattle.pd_wiring.proofs.CountLemmas.{signal_links, control_links}
use Rattle.pd_wiring.proofs.WebLemmas.{joined_more, joined_inside}
use Rattle.pd_instances.specs.Needs.{count_from, count_to}
use Rattle.pd_instances.specs.Lay.{KeepsRow, LinksOne, TakesWires}

same_functions : {A B : Type 0} (f g : A → B) → ((x : A) → f x ≡ g x) → f ≡ g
same_functions f g h = λ i x. h x i

-- What is seen of boxes.

seen_same : (g : Grove) (w : Web) (l : Links) → AreWired g w l → ((k : ℕ) → made_at w.sockets.items k ≡ made_in (get g.nodes k)) → (k : ℕ) → laid_at w.sockets.items k ≡ seen_at g k
seen_same g w l W made k =
    ap (λ js. seen_by js (ports_told w Outlets k) (made_at w.sockets.items k)) (W.ports Inlets k)
    ∙ ap (λ js. seen_by (jacks_at Inlets g k) js (made_at w.sockets.items k)) (W.ports Outlets k)
    ∙ ap (λ b. seen_by (jacks_at Inlets g k) (jacks_at Outlets g k) b) (made k)

pub boxes_same : (g : Grove) (w : Web) (l : Links) (c : ℕ) → AreWired g w l → ((k : ℕ) → made_at w.sockets.items k ≡ made_in (get g.nodes k)) → boxes_told w (keys_at g c) ≡ boxes_in g c
boxes_same g w l c W made = ap (λ f. map f (keys_at g c)) (same_functions (laid_at w.sockets.items) (seen_at g) (seen_same g w l W made))

-- A wire that fits.

-- both boxes of a wire that fits are there
pub record AreThere (a b : Option Seen) : Type 0 where
  pub from : Seen
  pub to : Seen
  pub source : a ≡ Some from
  pub sink : b ≡ Some to

pub both_there : (a b : Option Seen) (v : Wire) → fits_between a b v ≡ true → AreThere a b
both_there None b v t = absurd (false≢true t)
both_there (Some s) None v t = absurd (false≢true t)
both_there (Some s) (Some d) v t = record { from = s; to = d; source = refl; sink = refl }

pub key_there : {X : Type 0} (f : ℕ → X) (keys : List ℕ) (n : ℕ) (x : X) → slice_get (map f keys) n ≡ Some x → slice_get keys n ≡ Some (slice_index_or keys n 0)
key_there f [] n x h = absurd (none-some x h)
key_there f (k ∷ keys) zero x h = refl
key_there f (k ∷ keys) (suc n) x h = key_there f keys n x h

pub past_key : (keys : List ℕ) (n : ℕ) → slice_get keys n ≡ None → 0 ≡ slice_index_or keys n 0
past_key [] n e = refl
past_key (k ∷ keys) zero e = absurd (none-some k (sym e))
past_key (k ∷ keys) (suc n) e = past_key keys n e

module _ (all : Web) (keys : List ℕ) (v : Wire) (t : fits (boxes_told all keys) v ≡ true) where
  pub source_key : slice_get keys v.source ≡ Some (line_of keys v).source
  source_key =
      let A = both_there (slice_get (boxes_told all keys) v.source) (slice_get (boxes_told all keys) v.sink) v t in
      key_there (laid_at all.sockets.items) keys v.source A.from A.source

  pub sink_key : slice_get keys v.sink ≡ Some (line_of keys v).sink
  sink_key =
      let A = both_there (slice_get (boxes_told all keys) v.source) (slice_get (boxes_told all keys) v.sink) v t in
      key_there (laid_at all.sockets.items) keys v.sink A.to A.sink

  pub route : IsRoute all.sockets.items (line_of keys v)
  route = line_route all.sockets.items keys v (line_of keys v) (ap (λ b. cond b (Some (line_of keys v)) None) t)

pub share : (g : Grove) (w : Web) (c : ℕ) (v : Wire) → fits (boxes_told w (keys_at g c)) v ≡ true → ShareCanvas g (line_of (keys_at g c) v).source (line_of (keys_at g c) v).sink
share g w c v t = record { canvas = c; one = (v.source, source_key w (keys_at g c) v t); other = (v.sink, sink_key w (keys_at g c) v t) }

-- the lines of one wire
pub line_fitting : (boxes : List Seen) (keys : List ℕ) (v : Wire) → fits boxes v ≡ true → lines_by boxes keys (v ∷ []) ≡ line_of keys v ∷ []
line_fitting boxes keys v t = ap (λ b. map (line_of keys) (cond b (v ∷ []) [])) t

pub no_line : (boxes : List Seen) (keys : List ℕ) (v : Wire) → fits boxes v ≡ false → lines_by boxes keys (v ∷ []) ≡ []
no_line boxes keys v t = ap (λ b. map (line_of keys) (cond b (v ∷ []) [])) t

-- Webs and links.

pub wired_more : (g : Grove) (w v : Web) (l l' : Links) (line : Line) (key fan feed : ℕ) → AreWired g w l → IsRoute w.sockets.items line → Joins w v key line fan feed → ShareCanvas g line.source line.sink
    → (is_signal_line w line ≡ true → LinksOne l l' line.source line.sink) → (is_signal_line w line ≡ false → l' ≡ l) → AreWired g v l'
wired_more g w v l l' line key fan feed W R J S signal control =
    let M = joined_more w v key line fan feed R J in
    record {
      own = W.own;
      ports = λ side k. J.kept.ports side k ∙ W.ports side k;
      inside = joined_inside g w v line M S W.inside;
      linked = by (is_signal_line w line) refl
          (λ t. signal_links w v line M l l' t (signal t).more W.linked)
          (λ f. subst (λ (x : Links). HasLinks v x) (sym (control f)) (control_links w v line M l f W.linked));
    }
  where
    by : (b : Bool) → is_signal_line w line ≡ b → (is_signal_line w line ≡ true → HasLinks v l') → (is_signal_line w line ≡ false → HasLinks v l') → HasLinks v l'
    by true e f g = f e
    by false e f g = g e

-- Room in the links.

from_less : (v : Wire) (ws : List Wire) (n : ℕ) → count_from ws n ≤ count_from (v ∷ ws) n
from_less v ws n = by (v.source == n)
  where
    by : (b : Bool) → length (filter (λ (x : Wire). x.source == n) ws) ≤ length (cond b (v ∷ filter (λ (x : Wire). x.source == n) ws) (filter (λ (x : Wire). x.source == n) ws))
    by true = omega arith
    by false = omega arith

to_less : (v : Wire) (ws : List Wire) (n : ℕ) → count_to ws n ≤ count_to (v ∷ ws) n
to_less v ws n = by (v.sink == n)
  where
    by : (b : Bool) → length (filter (λ (x : Wire). x.sink == n) ws) ≤ length (cond b (v ∷ filter (λ (x : Wire). x.sink == n) ws) (filter (λ (x : Wire). x.sink == n) ws))
    by true = omega arith
    by false = omega arith

from_one : (v : Wire) (ws : List Wire) (n : ℕ) → v.source ≡ n → count_from (v ∷ ws) n ≡ suc (count_from ws n)
from_one v ws n e =
    ap (λ b. length (cond b (v ∷ filter (λ (x : Wire). x.source == n) ws) (filter (λ (x : Wire). x.source == n) ws))) (ap (λ m. v.source == m) (sym e) ∙ same_test v.source)

to_one : (v : Wire) (ws : List Wire) (n : ℕ) → v.sink ≡ n → count_to (v ∷ ws) n ≡ suc (count_to ws n)
to_one v ws n e =
    ap (λ b. length (cond b (v ∷ filter (λ (x : Wire). x.sink == n) ws) (filter (λ (x : Wire). x.sink == n) ws))) (ap (λ m. v.sink == m) (sym e) ∙ same_test v.sink)

-- fewer wires take no more
pub takes_rest : (l : Links) (keys : List ℕ) (v : Wire) (ws : List Wire) → TakesWires l keys (v ∷ ws) → TakesWires l keys ws
takes_rest l keys v ws T = record {
  from = λ n k at. (let a = T.from n k at in let b = from_less v ws n in omega (arith, a, b));
  into = λ n k at. (let a = T.into n k at in let b = to_less v ws n in omega (arith, a, b));
  few_from = λ n k at. (let a = T.few_from n k at in omega (arith, a));
  few_into = λ n k at. (let a = T.few_into n k at in omega (arith, a));
}

none_more : (v : Wire) (ws : List Wire) (n : ℕ) → count_from (v ∷ []) n ≤ count_from (v ∷ ws) n
none_more v ws n = by (v.source == n)
  where
    by : (b : Bool) → length (cond b (v ∷ []) []) ≤ length (cond b (v ∷ filter (λ (x : Wire). x.source == n) ws) (filter (λ (x : Wire). x.source == n) ws))
    by true = omega arith
    by false = omega arith

none_more_to : (v : Wire) (ws : List Wire) (n : ℕ) → count_to (v ∷ []) n ≤ count_to (v ∷ ws) n
none_more_to v ws n = by (v.sink == n)
  where
    by : (b : Bool) → length (cond b (v ∷ []) []) ≤ length (cond b (v ∷ filter (λ (x : Wire). x.sink == n) ws) (filter (λ (x : Wire). x.sink == n) ws))
    by true = omega arith
    by false = omega arith

pub takes_first : (l : Links) (keys : List ℕ) (v : Wire) (ws : List Wire) → TakesWires l keys (v ∷ ws) → TakesWires l keys (v ∷ [])
takes_first l keys v ws T = record {
  from = λ n k at. (let a = T.from n k at in let b = none_more v ws n in omega (arith, a, b));
  into = λ n k at. (let a = T.into n k at in let b = none_more_to v ws n in omega (arith, a, b));
  few_from = λ n k at. (let a = T.few_from n k at in omega (arith, a));
  few_into = λ n k at. (let a = T.few_into n k at in omega (arith, a));
}

pub takes_one : (l : Links) (keys : List ℕ) (v : Wire) (ws : List Wire) (a b : ℕ) → TakesWires l keys (v ∷ ws) → slice_get keys v.source ≡ Some a → slice_get keys v.sink ≡ Some b → TakesOne l a b
takes_one l keys v ws a b T from to = record {
  room_from = (let x = T.from v.source a from in let y = from_one v ws v.source refl in omega (arith, x, y));
  room_into = (let x = T.into v.sink b to in let y = to_one v ws v.sink refl in omega (arith, x, y));
  few_from = (let x = T.few_from v.source a from in omega (arith, x));
  few_into = (let x = T.few_into v.sink b to in omega (arith, x));
}

-- how many keys stand in a row after a link more
row_more : (ns ms : List ℕ) (x : ℕ) (b : Bool) → ((u : ℕ) → tally u ms ≡ tally u (cond b (x ∷ ns) ns)) → length ms ≡ length (cond b (x ∷ ns) ns)
row_more ns ms x b h = length_alike ms (cond b (x ∷ ns) ns) h

row_bound : (ns : List ℕ) (x : ℕ) (b : Bool) → length (cond b (x ∷ ns) ns) ≤ suc (length ns)
row_bound ns x true = omega arith
row_bound ns x false = omega arith

module _ (l l' : Links) (keys : List ℕ) (a b : ℕ) (O : LinksOne l l' a b) where
  followers_bound : (k : ℕ) → length (followers_of l' k) ≤ suc (length (followers_of l k))
  followers_bound k =
      let e = row_more (followers_of l k) (followers_of l' k) b (k == a) (O.more.followers k) in
      let m = row_bound (followers_of l k) b (k == a) in omega (arith, e, m)

  feeders_bound : (k : ℕ) → length (feeders_of l' k) ≤ suc (length (feeders_of l k))
  feeders_bound k =
      let e = row_more (feeders_of l k) (feeders_of l' k) a (k == b) (O.more.feeders k) in
      let m = row_bound (feeders_of l k) a (k == b) in omega (arith, e, m)

  pub takes_less : (v : Wire) (ws : List Wire) → AreApart keys → slice_get keys v.source ≡ Some a → slice_get keys v.sink ≡ Some b → TakesWires l keys (v ∷ ws) → TakesWires l' keys ws
  takes_less v ws apart from to T = record {
    from = λ n k at. elim (cases_eq k a) [
      | inl e ↦
          let same : v.source ≡ n = apart v.source n a from (at ∙ ap (λ x. Some x) e) in
          let x = T.from n k at in
          let y = from_one v ws n same in
          let s = O.from in
          let p : spare_from l' k ≡ spare_from l' a = ap (spare_from l') e in
          let q : spare_from l k ≡ spare_from l a = ap (spare_from l) e in
          omega (arith, x, y, s, p, q)
      | inr d ↦
          let x = T.from n k at in
          let y = from_less v ws n in
          let s = O.others_from k d in
          omega (arith, x, y, s)
    ];
    into = λ n k at. elim (cases_eq k b) [
      | inl e ↦
          let same : v.sink ≡ n = apart v.sink n b to (at ∙ ap (λ x. Some x) e) in
          let x = T.into n k at in
          let y = to_one v ws n same in
          let s = O.into in
          let p : spare_into l' k ≡ spare_into l' b = ap (spare_into l') e in
          let q : spare_into l k ≡ spare_into l b = ap (spare_into l) e in
          omega (arith, x, y, s, p, q)
      | inr d ↦
          let x = T.into n k at in
          let y = to_less v ws n in
          let s = O.others_into k d in
          omega (arith, x, y, s)
    ];
    few_from = λ n k at. (let x = T.few_from n k at in let y = followers_bound k in omega (arith, x, y));
    few_into = λ n k at. (let x = T.few_into n k at in let y = feeders_bound k in omega (arith, x, y));
  }

  pub row_kept : (k : ℕ) → k ≢ a → k ≢ b → KeepsRow l l' k
  row_kept k da db = record {
    followers = row_more (followers_of l k) (followers_of l' k) b (k == a) (O.more.followers k) ∙ ap (λ c. length (cond c (b ∷ followers_of l k) (followers_of l k))) (other_test k a da);
    feeders = row_more (feeders_of l k) (feeders_of l' k) a (k == b) (O.more.feeders k) ∙ ap (λ c. length (cond c (a ∷ feeders_of l k) (feeders_of l k))) (other_test k b db);
    from = O.others_from k da;
    into = O.others_into k db;
  }

pub row_same : (l : Links) (k : ℕ) → KeepsRow l l k
row_same l k = record { followers = refl; feeders = refl; from = refl; into = refl }

pub row_still : (l l' l'' : Links) (k : ℕ) → KeepsRow l l' k → KeepsRow l' l'' k → KeepsRow l l'' k
row_still l l' l'' k x y = record { followers = y.followers ∙ x.followers; feeders = y.feeders ∙ x.feeders; from = y.from ∙ x.from; into = y.into ∙ x.into }
