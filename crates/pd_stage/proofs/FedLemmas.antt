-- The wires to inlets, and the ports, where an edit of wires was made.
use Rattle.std.proofs.Common.{arith, ◌≡◌, ◌≢◌, ◌<◌, ◌≤◌, ◌+◌, ℕ, zero, suc, ◌==◌, Bool, true, false, cond, List, [], ◌∷◌, length, refl, sym, ap, subst, ◌∙◌}
use Rattle.std.specs.Prelude.{Option, Some, None, IsSome, is_some, option_map, nat_lt, slice_set, Result, Ok, Err}
use Rattle.std.specs.List.{insert}
use Rattle.std.proofs.lemmas.Bool.{ltb-true}
use Rattle.std.proofs.lemmas.List.{length-map}
use Rattle.pd_canvas.specs.declared.edits.Edit.{Edit}
use Rattle.pd_canvas.specs.declared.edits.Edit.TheVariants as edit
use Rattle.pd_canvas.specs.declared.wires.Wire.{Wire}
use Rattle.pd_grove.specs.OwnPaths.{sub_reached}
use Rattle.pd_order.specs.Graph.{tally}
use Rattle.pd_order.proofs.Basics.{by_test, same_node, same_test, other_node, zero_or}
use Rattle.pd_wire.specs.Book.{wire_at}
use Rattle.pd_web.specs.declared.web.Hop.{Hop}
use Rattle.pd_web.specs.declared.web.Web.{Web}
use Rattle.pd_web.specs.declared.lines.Line.{Line}
use Rattle.pd_web.specs.Hops.{feed_hops}
use Rattle.pd_web.specs.Changes.{line_told, wires_told, hop_at, without_hop, KeepsPorts, IsSame, Joins, CutsWire}
use Rattle.pd_web.proofs.CountLemmas.{held, holds, held_one_more}
use Rattle.pd_patch.specs.declared.patch.Patch.{Patch}
use Rattle.pd_patch.specs.Fed.{keys_of, AreFed}
use Rattle.pd_wiring.specs.declared.asking.WireRefusal.{WireRefusal}
use Rattle.pd_wiring.specs.declared.refusals.EditRefusal.{EditRefusal}
use Rattle.pd_wiring.specs.declared.refusals.EditRefusal.TheVariants.{TooManyWires}
use Rattle.pd_wiring.specs.Plans.{Plan, Attaches, Detaches, attaching, wire_found, detaching, connecting, disconnecting, planned, IsCarriedOut}

-- ---- numbers of hops

-- one hop more
counted_more : (x : ℕ) (hops : List Hop) (place : ℕ) (h : Hop) → tally x (keys_of (insert hops place h)) ≡ tally x (h.key ∷ keys_of hops)
counted_more x hops zero h = refl
counted_more x [] (suc n) h = refl
counted_more x (g ∷ hops) (suc n) h = let e : tally x (keys_of (insert hops n h)) ≡ tally x (h.key ∷ keys_of hops) = counted_more x hops n h in omega (arith, e)

one_longer : (hops : List Hop) (place : ℕ) (h : Hop) → length (insert hops place h) ≤ length hops + 1
one_longer hops zero h = omega arith
one_longer [] (suc n) h = omega arith
one_longer (g ∷ hops) (suc n) h = let e : length (insert hops n h) ≤ length hops + 1 = one_longer hops n h in omega (arith, e)

-- without the hop of a key
no_more : (x key : ℕ) (hops : List Hop) → tally x (keys_of (without_hop key hops)) ≤ tally x (keys_of hops)
no_more x key [] = omega arith
no_more x key (h ∷ hops) = let e : tally x (keys_of (without_hop key hops)) ≤ tally x (keys_of hops) = no_more x key hops in
    by_test (h.key == key)
    (λ t. rw t (omega (arith, e)))
    (λ f. rw f (omega (arith, e)))

gone : (key : ℕ) (hops : List Hop) → tally key (keys_of (without_hop key hops)) ≡ 0
gone key [] = refl
gone key (h ∷ hops) = let e : tally key (keys_of (without_hop key hops)) ≡ 0 = gone key hops in
    by_test (h.key == key)
    (λ t. rw t e)
    (λ f. rw (f, f) (omega (arith, e)))

no_longer : (key : ℕ) (hops : List Hop) → length (without_hop key hops) ≤ length hops
no_longer key [] = omega arith
no_longer key (h ∷ hops) = let e : length (without_hop key hops) ≤ length hops = no_longer key hops in
    by_test (h.key == key)
    (λ t. rw t (omega (arith, e)))
    (λ f. rw f (omega (arith, e)))

-- ---- no more keys than places that hold something

module _ {X : Type 0} where
  cleared : (xs : List (Option X)) (k : ℕ) → holds (slice_set xs k None) k ≡ false
  cleared [] k = refl
  cleared (x ∷ xs) zero = refl
  cleared (x ∷ xs) (suc k) = cleared xs k

  others : (xs : List (Option X)) (k j : ℕ) → j ≢ k → holds (slice_set xs k None) j ≡ holds xs j
  others [] k j ne = refl
  others (x ∷ xs) zero zero ne = absurd (ne refl)
  others (x ∷ xs) zero (suc j) ne = refl
  others (x ∷ xs) (suc k) zero ne = refl
  others (x ∷ xs) (suc k) (suc j) ne = others xs k j (λ e. ne (ap suc e))

  fits : (ks : List ℕ) (xs : List (Option X)) → ((k : ℕ) → tally k ks ≤ 1) → ((k : ℕ) → 0 < tally k ks → holds xs k ≡ true) → length ks ≤ held xs
  fits [] xs once there = omega arith
  fits (k ∷ ks) xs once there =
      let first : cond (k == k) 1 0 + tally k ks ≡ 1 + tally k ks = ap (λ (b : Bool). cond b 1 0 + tally k ks) (same_test k) in
      let none : tally k ks ≡ 0 = (let o : cond (k == k) 1 0 + tally k ks ≤ 1 = once k in omega (arith, first, o)) in
      let is : holds xs k ≡ true = there k (omega (arith, first)) in
      let more : held xs ≡ held (slice_set xs k None) + 1 = held_one_more (slice_set xs k None) xs k (cleared xs k) is (λ j ne. sym (others xs k j ne)) in
      let rest : length ks ≤ held (slice_set xs k None) =
      fits ks (slice_set xs k None)
      (λ j. let o : cond (k == j) 1 0 + tally j ks ≤ 1 = once j in omega (arith, o))
      (λ j m. others xs k j (λ e. let m' : 0 < tally k ks = subst (λ (n : ℕ). 0 < tally n ks) e m in absurd (omega (arith, m', none))) ∙ there j (omega (arith, m))) in
      omega (arith, more, rest)

mapped_some : {X Y : Type 0} (f : X → Y) (o : Option X) → is_some (option_map f o) ≡ is_some o
mapped_some f None = refl
mapped_some f (Some x) = refl

pub told_some : (w : Web) (key : ℕ) → is_some (line_told w key) ≡ is_some (wire_at w.book key)
told_some w key = mapped_some _ (wire_at w.book key)

-- ---- one wire more or less

none_there : (key x : ℕ) (w : Web) → line_told w key ≡ None → IsSome (line_told w x) → x ≡ key → ⊥
none_there key x w e there same = let q : false ≡ true = sym (ap is_some (subst (λ (k : ℕ). line_told w k ≡ None) (sym same) e)) ∙ there in absurd (cc)

-- keys of wires, each once, are no more than there are wires
pub few_keys : (w : Web) (ks : List ℕ) → ((k : ℕ) → tally k ks ≤ 1) → ((k : ℕ) → 0 < tally k ks → IsSome (line_told w k)) → length ks ≤ wires_told w
few_keys w ks once live = fits ks w.book.wires once (λ key m. sym (told_some w key) ∙ live key m)

-- no inlet has more wires than there are
few_fed : (w : Web) → AreFed w → (node inlet : ℕ) → length (feed_hops w node inlet) ≤ wires_told w
few_fed w f node inlet =
    let count : length (keys_of (feed_hops w node inlet)) ≡ length (feed_hops w node inlet) = length-map (feed_hops w node inlet) (λ (h : Hop). h.key) in
    let rest : length (keys_of (feed_hops w node inlet)) ≤ wires_told w = few_keys w (keys_of (feed_hops w node inlet)) (f.once node inlet) (f.live node inlet) in
    omega (arith, count, rest)

module _ (w w' : Web) (key : ℕ) (l : Line) (fan_place place : ℕ) (j : Joins w w' key l fan_place place) (f : AreFed w) where
  -- what holds of the feeds with one more, and of all others, holds of all
  of_each : (P : List Hop → Type 0) → P (insert (feed_hops w l.sink l.inlet) place (hop_at key l.source l.outlet)) → ((n i : ℕ) → P (feed_hops w n i)) → (n i : ℕ) → P (feed_hops w' n i)
  of_each P more same n i = by_test (n == l.sink)
      (λ a. by_test (i == l.inlet)
      (λ b. subst (λ (x : ℕ). P (feed_hops w' x i)) (sym (same_node n l.sink a)) (subst (λ (y : ℕ). P (feed_hops w' l.sink y)) (sym (same_node i l.inlet b)) (subst P (sym j.feeds) more)))
      (λ b. subst P (sym (j.other_feeds n i (λ _ q. other_node i l.inlet b q))) (same n i)))
      (λ a. subst P (sym (j.other_feeds n i (λ e. absurd (other_node n l.sink a e)))) (same n i))

  still_live : (x : ℕ) → IsSome (line_told w x) → IsSome (line_told w' x)
  still_live x there = subst (λ (o : Option Line). IsSome o) (sym (j.other_lines x (none_there key x w j.was_vacant there))) there

  abbrev hops : List Hop
  hops = feed_hops w l.sink l.inlet

  joined_live : (x : ℕ) → 0 < tally x (keys_of (insert hops place (hop_at key l.source l.outlet))) → IsSome (line_told w' x)
  joined_live x m =
      let m' : 0 < cond (key == x) 1 0 + tally x (keys_of hops) = subst (λ (n : ℕ). 0 < n) (counted_more x hops place (hop_at key l.source l.outlet)) m in
      by_test (key == x)
      (λ t. subst (λ (k : ℕ). IsSome (line_told w' k)) (same_node key x t) (ap is_some j.line))
      (λ t. let m'' : 0 < cond false 1 0 + tally x (keys_of hops) = rw t at m' in still_live x (f.live l.sink l.inlet x (omega (arith, m''))))

  new_key : tally key (keys_of hops) ≡ 0
  new_key = zero_or (tally key (keys_of hops)) (λ m. absurd (none_there key key w j.was_vacant (f.live l.sink l.inlet key m) refl))

  joined_once : (x : ℕ) → tally x (keys_of (insert hops place (hop_at key l.source l.outlet))) ≤ 1
  joined_once x =
      let more : tally x (keys_of (insert hops place (hop_at key l.source l.outlet))) ≡ cond (key == x) 1 0 + tally x (keys_of hops) = counted_more x hops place (hop_at key l.source l.outlet) in
      by_test (key == x)
      (λ t. let none : tally x (keys_of hops) ≡ 0 = subst (λ (k : ℕ). tally k (keys_of hops) ≡ 0) (same_node key x t) new_key in
      let more' : tally x (keys_of (insert hops place (hop_at key l.source l.outlet))) ≡ cond true 1 0 + tally x (keys_of hops) = rw t at more in
      omega (arith, more', none))
      (λ t. let more' : tally x (keys_of (insert hops place (hop_at key l.source l.outlet))) ≡ cond false 1 0 + tally x (keys_of hops) = rw t at more in
      let once : tally x (keys_of hops) ≤ 1 = f.once l.sink l.inlet x in
      omega (arith, more', once))

  pub joined_fed : wires_told w < 65536 → AreFed w'
  joined_fed few = record {
    live = of_each (λ (hs : List Hop). (x : ℕ) → 0 < tally x (keys_of hs) → IsSome (line_told w' x)) joined_live (λ n i x m. still_live x (f.live n i x m));
    once = of_each (λ (hs : List Hop). (x : ℕ) → tally x (keys_of hs) ≤ 1) joined_once f.once;
    few = of_each (λ (hs : List Hop). length hs ≤ 65536)
        (let all = few_fed w f l.sink l.inlet in let longer = one_longer hops place (hop_at key l.source l.outlet) in omega (arith, all, longer, few)) f.few;
  }

module _ (w w' : Web) (key : ℕ) (c : CutsWire w w' key) (f : AreFed w) where
  cut_live : (n i x : ℕ) → 0 < tally x (keys_of (without_hop key (feed_hops w n i))) → IsSome (line_told w' x)
  cut_live n i x m =
      let less = no_more x key (feed_hops w n i) in
      let there : IsSome (line_told w x) = f.live n i x (omega (arith, m, less)) in
      subst (λ (o : Option Line). IsSome o)
      (sym (c.other_lines x (λ e. let m' : 0 < tally key (keys_of (without_hop key (feed_hops w n i))) = subst (λ (k : ℕ). 0 < tally k (keys_of (without_hop key (feed_hops w n i)))) e m in
      let none = gone key (feed_hops w n i) in absurd (omega (arith, m', none))))) there

  cut_fed : AreFed w'
  cut_fed = record {
    live = λ n i. subst (λ (hs : List Hop). (x : ℕ) → 0 < tally x (keys_of hs) → IsSome (line_told w' x)) (sym (c.feeds n i)) (cut_live n i);
    once = λ n i. subst (λ (hs : List Hop). (x : ℕ) → tally x (keys_of hs) ≤ 1) (sym (c.feeds n i))
        (λ x. let less = no_more x key (feed_hops w n i) in let once = f.once n i x in omega (arith, less, once));
    few = λ n i. subst (λ (hs : List Hop). length hs ≤ 65536) (sym (c.feeds n i)) (let less = no_longer key (feed_hops w n i) in let few = f.few n i in omega (arith, less, few));
  }

pub same_fed : (w w' : Web) → IsSame w w' → AreFed w → AreFed w'
same_fed w w' s f = record {
  live = λ n i x m. subst (λ (o : Option Line). IsSome o) (sym (s.lines x)) (f.live n i x (subst (λ (hs : List Hop). 0 < tally x (keys_of hs)) (s.feeds n i) m));
  once = λ n i. subst (λ (hs : List Hop). (x : ℕ) → tally x (keys_of hs) ≤ 1) (sym (s.feeds n i)) (f.once n i);
  few = λ n i. subst (λ (hs : List Hop). length hs ≤ 65536) (sym (s.feeds n i)) (f.few n i);
}

-- ---- what is planned is planned where there are fewer wires than there may be

abbrev pub PlanFits : Web → Plan → Type 0
PlanFits w (Attaches c l) = wires_told w < 65536
PlanFits w (Detaches c key l) = Unit {0}

abbrev pub Fits : Web → Result Plan EditRefusal → Type 0
Fits w (Ok plan) = PlanFits w plan
Fits w (Err why) = Unit {0}

few_fits : (w : Web) (c : ℕ) (l : Line) (b : Bool) → nat_lt (wires_told w) 65536 ≡ b → Fits w (cond b (Ok (Attaches c l)) (Err TooManyWires))
few_fits w c l true e = ltb-true (wires_told w) 65536 e
few_fits w c l false e = tt

attach_fits : (w : Web) (c : ℕ) (r : Result Line WireRefusal) → Fits w (attaching w c r)
attach_fits w c (Err why) = tt
attach_fits w c (Ok l) = few_fits w c l (nat_lt (wires_told w) 65536) refl

wire_fits : (w : Web) (c : ℕ) (l : Line) (o : Option ℕ) → Fits w (wire_found c l o)
wire_fits w c l None = tt
wire_fits w c l (Some key) = tt

detach_fits : (w : Web) (c : ℕ) (r : Result Line WireRefusal) → Fits w (detaching w c r)
detach_fits w c (Err why) = tt
detach_fits w c (Ok l) = wire_fits w c l _

connect_fits : (p : Patch) (v : Wire) (o : Option ℕ) → Fits p.web (connecting p v o)
connect_fits p v None = tt
connect_fits p v (Some c) = attach_fits p.web c _

disconnect_fits : (p : Patch) (v : Wire) (o : Option ℕ) → Fits p.web (disconnecting p v o)
disconnect_fits p v None = tt
disconnect_fits p v (Some c) = detach_fits p.web c _

pub planned_fits : (p : Patch) (path : List ℕ) (e : Edit) → Fits p.web (planned p path e)
planned_fits p path (edit.Connect v) = connect_fits p v (sub_reached p.grove (Some p.grove.root) path)
planned_fits p path (edit.Disconnect v) = disconnect_fits p v (sub_reached p.grove (Some p.grove.root) path)
planned_fits p path (edit.Obj x y text) = tt
planned_fits p path (edit.Msg x y text) = tt
planned_fits p path (edit.Comment x y text) = tt
planned_fits p path (edit.FloatBox x y text) = tt
planned_fits p path (edit.SymbolBox x y text) = tt
planned_fits p path (edit.Sub x y name) = tt
planned_fits p path (edit.Delete number) = tt
planned_fits p path (edit.Retype number text) = tt
planned_fits p path (edit.Move number x y) = tt

-- the ports stay, and the wires to each inlet stay few and apart
pub record KeepsFed (w w' : Web) : Type 0 where
  pub ports : KeepsPorts w w'
  pub fed : AreFed w → AreFed w'

pub none_kept : (w : Web) → KeepsFed w w
none_kept w = record { ports = record { ports = λ side k. refl; made = λ k. refl; homes = λ j. refl }; fed = λ f. f }

pub same_kept : (w w' : Web) → IsSame w w' → KeepsFed w w'
same_kept w w' s = record { ports = s.kept; fed = same_fed w w' s }

plan_kept : (plan : Plan) (p q : Patch) → PlanFits p.web plan → IsCarriedOut plan p q → KeepsFed p.web q.web
plan_kept (Attaches c l) p q few h = record { ports = h.joins.kept; fed = λ f. joined_fed p.web q.web h.key l _ h.place h.joins f few }
plan_kept (Detaches c key l) p q few h = record { ports = h.cuts.kept; fed = λ f. cut_fed p.web q.web key h.cuts f }

pub edit_kept : (plan : Plan) (p q : Patch) (path : List ℕ) (e : Edit) → planned p path e ≡ Ok plan → IsCarriedOut plan p q → KeepsFed p.web q.web
edit_kept plan p q path e is h = plan_kept plan p q (subst (λ (r : Result Plan EditRefusal). Fits p.web r) is (planned_fits p path e)) h
