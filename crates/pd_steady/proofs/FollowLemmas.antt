-- A box gets a port more, and the wires behind it follow: each box stays, and what is said of the wires to inlets and of blocks is still so.
use Rattle.std.proofs.Common.{arith, ◌≡◌, ◌≢◌, ◌⊎◌, inl, inr, ◌<◌, ◌≤◌, ℕ, ℤ, zero, suc, Bool, true, false, List, [], ◌∷◌, length, map, Option, Some, None, IsSome, is_some, refl, sym, ap, subst, ◌∙◌, true≢false}
use Rattle.std.specs.List.{AllByRecursion}
use Rattle.std.proofs.lemmas.Bool.{cases_eq}
use Rattle.std.proofs.lemmas.List.{length-map}
use Rattle.slab.specs.Slab.{get}
use Rattle.pd_atom.specs.Names.{Names}
use Rattle.pd_kind.specs.States.{silent_block}
use Rattle.pd_order.specs.Graph.{tally}
use Rattle.pd_grove.specs.declared.grove.Grove.{Grove}
use Rattle.pd_grove.specs.declared.seeds.Seed.{Seed}
use Rattle.pd_grove.specs.declared.ports.Side.{Side}
use Rattle.pd_grove.specs.declared.ports.Side.TheVariants.{Inlets, Outlets}
use Rattle.pd_web.specs.declared.jacks.Jack.{Jack}
use Rattle.pd_web.specs.declared.lines.Line.{Line}
use Rattle.pd_web.specs.declared.web.Hop.{Hop}
use Rattle.pd_web.specs.declared.web.Web.{Web}
use Rattle.pd_web.specs.Hops.{ports_told, feed_hops}
use Rattle.pd_web.specs.Changes.{line_told, wires_told}
use Rattle.pd_web.proofs.CountLemmas.{held, holds, held_alike}
use Rattle.pd_patch.specs.declared.patch.Patch.{Patch}
use Rattle.pd_patch.specs.Fed.{keys_of, AreFed}
use Rattle.pd_patch.specs.Values.{Blocks, block_at, blocks_told}
use Rattle.pd_boxes.specs.declared.room.Place.{Place}
use Rattle.pd_following.specs.Raising.{raised, Raises}
use Rattle.pd_following.specs.Ports.{BlocksFollow, IsPortPut}
use Rattle.pd_following.proofs.ListLemmas.{up_or}
use Rattle.pd_guards.specs.Sounds.{AreValues}
use Rattle.pd_guards.proofs.SignalLemmas.{silent_values}
use Rattle.pd_sized.specs.Sizes.{IsBlock}
use Rattle.pd_sized.proofs.StartLemmas.{silent_count}
use Rattle.pd_steady.specs.Steady.{HasRows}
use Rattle.pd_stage.proofs.FedLemmas.{told_some}
use Rattle.pd_steady.proofs.KeyLemmas.{KeepsBoxes, same_row, put_blocks, put_each}

-- ---- as many places of a list hold something, and none more, so they are the same

module _ {X : Type 0} where
  -- no more places hold something in one list than in another
  abbrev HoldLess : List (Option X) → List (Option X) → Type 0
  HoldLess xs ys = (k : ℕ) → holds ys k ≡ true → holds xs k ≡ true

  held_less : (xs ys : List (Option X)) → HoldLess xs ys → held ys ≤ held xs
  held_less xs [] h = omega arith
  held_less [] (None ∷ ys) h = held_less [] ys (λ k. h (suc k))
  held_less [] (Some y ∷ ys) h = absurd (true≢false (sym (h 0 refl)))
  held_less (None ∷ xs) (None ∷ ys) h = held_less xs ys (λ k. h (suc k))
  held_less (None ∷ xs) (Some y ∷ ys) h = absurd (true≢false (sym (h 0 refl)))
  held_less (Some x ∷ xs) (None ∷ ys) h = let e : held ys ≤ held xs = held_less xs ys (λ k. h (suc k)) in omega (arith, e)
  held_less (Some x ∷ xs) (Some y ∷ ys) h = let e : held ys ≤ held xs = held_less xs ys (λ k. h (suc k)) in omega (arith, e)

  -- where one fewer does there are fewer
  held_fewer : (xs ys : List (Option X)) (k : ℕ) → HoldLess xs ys → holds xs k ≡ true → holds ys k ≡ false → held ys < held xs
  held_fewer [] ys k h is none = absurd (true≢false (sym is))
  held_fewer (None ∷ xs) ys zero h is none = absurd (true≢false (sym is))
  held_fewer (Some x ∷ xs) [] zero h is none = omega arith
  held_fewer (Some x ∷ xs) (None ∷ ys) zero h is none = let e : held ys ≤ held xs = held_less xs ys (λ j. h (suc j)) in omega (arith, e)
  held_fewer (Some x ∷ xs) (Some y ∷ ys) zero h is none = absurd (true≢false none)
  held_fewer (None ∷ xs) [] (suc k) h is none = held_fewer xs [] k (λ j q. absurd (true≢false (sym q))) is refl
  held_fewer (None ∷ xs) (None ∷ ys) (suc k) h is none = held_fewer xs ys k (λ j. h (suc j)) is none
  held_fewer (None ∷ xs) (Some y ∷ ys) (suc k) h is none = absurd (true≢false (sym (h 0 refl)))
  held_fewer (Some x ∷ xs) [] (suc k) h is none = omega arith
  held_fewer (Some x ∷ xs) (None ∷ ys) (suc k) h is none = let e : held ys < held xs = held_fewer xs ys k (λ j. h (suc j)) is none in omega (arith, e)
  held_fewer (Some x ∷ xs) (Some y ∷ ys) (suc k) h is none = let e : held ys < held xs = held_fewer xs ys k (λ j. h (suc j)) is none in omega (arith, e)

  held_still : (xs ys : List (Option X)) → HoldLess xs ys → held ys ≡ held xs → (k : ℕ) → holds xs k ≡ true → holds ys k ≡ true
  held_still xs ys h same k is = by (holds ys k) refl
    where
      by : (b : Bool) → holds ys k ≡ b → holds ys k ≡ true
      by true e = e
      by false e = let less : held ys < held xs = held_fewer xs ys k h is e in absurd (omega (arith, less, same))

-- where no wire came, and there are as many, each is still one
no_wire : (w v : Web) → ((k : ℕ) → line_told w k ≡ None → line_told v k ≡ None) → (k : ℕ) (o : Option Line) → line_told w k ≡ o → IsSome (line_told v k) → IsSome (line_told w k)
no_wire w v none k None e there = absurd (true≢false (sym there ∙ ap is_some (none k e)))
no_wire w v none k (Some l) e there = ap is_some e

pub still_wires : (w v : Web) → ((k : ℕ) → line_told w k ≡ None → line_told v k ≡ None) → wires_told v ≡ wires_told w → (k : ℕ) → IsSome (line_told w k) → IsSome (line_told v k)
still_wires w v none same k there =
    told_some v k
    ∙ held_still w.book.wires v.book.wires (λ j is. sym (told_some w j) ∙ no_wire w v none j (line_told w j) refl (told_some v j ∙ is)) same k (sym (told_some w k) ∙ there)

-- ---- the wires to inlets

-- the keys of the wires to an inlet, or none
abbrev pub AreKeysIn : Web → List ℕ → Type 0
AreKeysIn w keys = (keys ≡ []) ⊎ ((node : ℕ) × (inlet : ℕ) × (keys ≡ keys_of (feed_hops w node inlet)))

pub raised_keys : (key at : ℕ) (hops : List Hop) → keys_of (map (raised key at) hops) ≡ keys_of hops
raised_keys key at [] = refl
raised_keys key at (h ∷ hops) = ap (λ (ks : List ℕ). h.key ∷ ks) (raised_keys key at hops)

-- each inlet has the wires of one that was, or none
raised_in : (w v : Web) (key : ℕ) (side : Side) (at : ℕ) (jack : Jack) → Raises w v key side at jack → (n i : ℕ) → AreKeysIn w (keys_of (feed_hops v n i))
raised_in w v key Inlets at jack X n i = elim (cases_eq n key) [
  | inr d ↦ inr (n, i, ap keys_of (X.others n i d))
  | inl e ↦ elim (up_or at i) [
    | inl new ↦ inl (ap keys_of (ap (λ (x : ℕ). feed_hops v x i) e ∙ ap (feed_hops v key) new ∙ X.came))
    | inr o ↦ inr (key, o.0, ap keys_of (ap (λ (x : ℕ). feed_hops v x i) e ∙ ap (feed_hops v key) o.1 ∙ X.own o.0))
  ]
]
raised_in w v key Outlets at jack X n i = inr (n, i, ap keys_of (X.across n i) ∙ raised_keys key at (feed_hops w n i))

-- so what holds of no keys, and of those of the wires to each inlet that was, holds of those of each that is
of_keys : (P : List ℕ → Type 0) (w : Web) (keys : List ℕ) → P [] → ((n i : ℕ) → P (keys_of (feed_hops w n i))) → AreKeysIn w keys → P keys
of_keys P w keys none old (inl e) = subst P (sym e) none
of_keys P w keys none old (inr x) = subst P (sym x.2) (old x.0 x.1)

pub raised_fed : (w v : Web) → ((n i : ℕ) → AreKeysIn w (keys_of (feed_hops v n i))) → ((k : ℕ) → IsSome (line_told w k) → IsSome (line_told v k)) → AreFed w → AreFed v
raised_fed w v from wires f = record {
  live = λ n i. of_keys (λ (ks : List ℕ). (x : ℕ) → 0 < tally x ks → IsSome (line_told v x)) w (keys_of (feed_hops v n i)) (λ x m. absurd (omega (arith, m))) (λ m j x there. wires x (f.live m j x there))
      (from n i);
  once = λ n i. of_keys (λ (ks : List ℕ). (x : ℕ) → tally x ks ≤ 1) w (keys_of (feed_hops v n i)) (λ x. omega arith) f.once (from n i);
  few = λ n i.
      let l : length (keys_of (feed_hops v n i)) ≤ 65536 =
      of_keys (λ (ks : List ℕ). length ks ≤ 65536) w (keys_of (feed_hops v n i)) (omega arith)
      (λ m j. let few = f.few m j in let same = length-map (feed_hops w m j) (λ (h : Hop). h.key) in omega (arith, few, same)) (from n i) in
      let same = length-map (feed_hops v n i) (λ (h : Hop). h.key) in
      omega (arith, l, same);
}

-- ---- the blocks of outlets

pub follow_blocks : (side : Side) (r q : Patch) (holder : ℕ) → BlocksFollow side r q holder
    → ((k : ℕ) → (k ≡ holder → Outlets ≢ side) → ports_told q.web Outlets k ≡ ports_told r.web Outlets k) → HasRows r.web (blocks_told r) → HasRows q.web (blocks_told q)
follow_blocks Inlets r q holder same ports h = λ k o l. subst (λ (b : Blocks). IsSome (block_at b k o)) (sym same) (h k o (same_row r.web q.web k o (ports k (λ _ e. cc)) l))
follow_blocks Outlets r q holder puts ports h = put_blocks r q holder puts (λ k other. ports k (λ e. absurd (other e))) h

pub follow_each : (P : List ℤ → Type 0) (side : Side) (r q : Patch) (holder : ℕ) → BlocksFollow side r q holder → P silent_block → AllByRecursion (AllByRecursion P) (blocks_told r)
    → AllByRecursion (AllByRecursion P) (blocks_told q)
follow_each P Inlets r q holder same silent h = subst (AllByRecursion (AllByRecursion P)) (sym same) h
follow_each P Outlets r q holder puts silent h = put_each P r q holder puts silent h

-- ---- the patch with the port box, as soon as that is in, and with the port that it is

pub port_keeps : (p q : Patch) (table : Names) (place : Place) (seed : Seed) (key holder : ℕ) (side : Side) → (put : IsPortPut p q table place seed key holder side) → KeepsBoxes put.ready q
port_keeps p q table place seed key holder side put =
    let r : Patch = put.ready in
    let many : wires_told r.web ≡ wires_told p.web = held_alike p.web.book.wires r.web.book.wires (λ k. sym (told_some r.web k) ∙ ap is_some (put.comes.ports.lines k) ∙ told_some p.web k) in
    record {
      nodes = λ k. ap (λ (g : Grove). get g.nodes k) put.rest.grove;
      fed =
          raised_fed r.web q.web (raised_in r.web q.web holder side put.number _ put.raises)
          (still_wires r.web q.web put.follows.no_lines (put.wires ∙ sym many));
      blocks = follow_blocks side r q holder put.blocks (put.raises.other_ports Outlets);
      values = follow_each AreValues side r q holder put.blocks silent_values;
      sizes = follow_each IsBlock side r q holder put.blocks silent_count;
    }
