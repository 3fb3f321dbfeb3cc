-- Ends and wires that stay live while others are made, added and cut.
use Rattle.std.proofs.Common.{◌≡◌, ℕ, ◌+◌, ◌<◌, ◌≤◌, ◌==◌, Bool, true, false, cond, List, [], ◌∷◌, ◌++◌, length, get_or, Option, Some, None, IsSome, sym, subst, arith}
use Rattle.pd_order.specs.Graph.{tally}
use Rattle.pd_order.proofs.Basics.{tally_at, by_test, same_node, same_test, zero_or, tally-append}
use Rattle.pd_wire.specs.Book.{Book, with_room, IsEnd, IsWire, Adds, Cuts, MakesEnd, wire_at}
use Rattle.pd_wire.proofs.WireLemmas.{MakesEnd-lives, MakesEnd-kept, Adds-lives, Adds-kept, Cuts-kept}
use Rattle.pd_bench_orders.specs.Held.{AreLive}

none_no_some : {X : Type 0} (o : Option X) → IsSome o → o ≡ None → ⊥
none_no_some None live vacant = cc
none_no_some (Some x) live vacant = cc

pub found : (xs items : List ℕ) (i x : ℕ) → items ≡ xs → i < length items → x ≡ get_or items i 0 → 0 < tally x xs
found xs items i x e l h = subst (λ (v : List ℕ). 0 < tally x v) e (subst (λ (v : ℕ). 0 < tally v items) (sym h) (tally_at items i l))

-- in a list with one more at its end
in_pushed : (x y : ℕ) (xs : List ℕ) (P : ℕ → Type 0) → ((z : ℕ) → 0 < tally z xs → P z) → P y → 0 < tally x (xs ++ y ∷ []) → P x
in_pushed x y xs P h p l = by_test (y == x)
    (λ t. subst P (same_node y x t) p)
    (λ t. h x (let a : tally x (xs ++ y ∷ []) ≡ tally x xs + tally x (y ∷ []) = tally-append x xs (y ∷ []) in
    let a' : tally x (xs ++ y ∷ []) ≡ tally x xs + 0 = rw t at a in omega arith))

pub live_room : (b b' : Book) (os : List ℕ) (o : ℕ) (hs : List ℕ) (n m : ℕ) → b' ≡ with_room b n m → AreLive b os o hs → AreLive b' os o hs
live_room b b' os o hs n m e l = subst (λ (x : Book). AreLive x os o hs) (sym e) (record { outlets = l.outlets; inlet = l.inlet; held = l.held; apart = l.apart })

live_end : (b b' : Book) (os : List ℕ) (o : ℕ) (hs : List ℕ) (e : ℕ) → MakesEnd b b' e → AreLive b os o hs → AreLive b' (os ++ e ∷ []) o hs
live_end b b' os o hs e m l = record {
  outlets = λ x h. in_pushed x e os (IsEnd b') (λ z i. MakesEnd-kept b b' e z m (l.outlets z i)) (MakesEnd-lives b b' e m) h;
  inlet = MakesEnd-kept b b' e o m l.inlet;
  held = λ k h. subst (λ (w : Option (ℕ × ℕ)). IsSome w) (sym (m.wires k)) (l.held k h);
  apart = l.apart;
}

-- where the new end finds no room in the list
live_lone : (b b' : Book) (os : List ℕ) (o : ℕ) (hs : List ℕ) (e : ℕ) → MakesEnd b b' e → AreLive b os o hs → AreLive b' os o hs
live_lone b b' os o hs e m l = record {
  outlets = λ x h. MakesEnd-kept b b' e x m (l.outlets x h);
  inlet = MakesEnd-kept b b' e o m l.inlet;
  held = λ k h. subst (λ (w : Option (ℕ × ℕ)). IsSome w) (sym (m.wires k)) (l.held k h);
  apart = l.apart;
}

pub live_end_if : (b b' : Book) (os os' : List ℕ) (o : ℕ) (hs : List ℕ) (e : ℕ) (ok : Bool) → os' ≡ cond ok (os ++ e ∷ []) os → MakesEnd b b' e → AreLive b os o hs → AreLive b' os' o hs
live_end_if b b' os os' o hs e true q m l = subst (λ (v : List ℕ). AreLive b' v o hs) (sym q) (live_end b b' os o hs e m l)
live_end_if b b' os os' o hs e false q m l = subst (λ (v : List ℕ). AreLive b' v o hs) (sym q) (live_lone b b' os o hs e m l)

live_added : (b b' : Book) (os : List ℕ) (o : ℕ) (hs : List ℕ) (k s p t q : ℕ) → Adds b b' k s p t q → AreLive b os o hs → AreLive b' os o hs
live_added b b' os o hs k s p t q a l = record {
  outlets = λ x h. a.ends x (l.outlets x h);
  inlet = a.ends o l.inlet;
  held = λ x h. Adds-kept b b' k s p t q x a (l.held x h);
  apart = l.apart;
}

live_held : (b b' : Book) (os : List ℕ) (o : ℕ) (hs : List ℕ) (k s p t q : ℕ) → Adds b b' k s p t q → AreLive b os o hs → AreLive b' os o (hs ++ k ∷ [])
live_held b b' os o hs k s p t q a l = record {
  outlets = λ x h. a.ends x (l.outlets x h);
  inlet = a.ends o l.inlet;
  held = λ x h. in_pushed x k hs (IsWire b') (λ z i. Adds-kept b b' k s p t q z a (l.held z i)) (Adds-lives b b' k s p t q a) h;
  apart = λ x.
      let a' : tally x (hs ++ k ∷ []) ≡ tally x hs + tally x (k ∷ []) = tally-append x hs (k ∷ []) in
      let one : tally x hs ≤ 1 = l.apart x in
      by_test (k == x)
      (λ t. let z : tally k hs ≡ 0 = zero_or (tally k hs) (λ i. absurd (none_no_some (wire_at b k) (l.held k i) a.was_vacant.1)) in
      let z' : tally x hs ≡ 0 = subst (λ (v : ℕ). tally v hs ≡ 0) (same_node k x t) z in
      let w : tally x (hs ++ k ∷ []) ≡ tally x hs + 1 = rw t at a' in omega arith)
      (λ t. let w : tally x (hs ++ k ∷ []) ≡ tally x hs + 0 = rw t at a' in omega arith);
}

pub live_held_if : (b b' : Book) (os : List ℕ) (o : ℕ) (hs hs' : List ℕ) (k s p t q : ℕ) (ok : Bool) → hs' ≡ cond ok (hs ++ k ∷ []) hs → Adds b b' k s p t q → AreLive b os o hs → AreLive b' os o hs'
live_held_if b b' os o hs hs' k s p t q true e a l = subst (λ (v : List ℕ). AreLive b' os o v) (sym e) (live_held b b' os o hs k s p t q a l)
live_held_if b b' os o hs hs' k s p t q false e a l = subst (λ (v : List ℕ). AreLive b' os o v) (sym e) (live_added b b' os o hs k s p t q a l)

-- what is left of wires that differ, and another
less : (x k : ℕ) (hs rest : List ℕ) → hs ≡ rest ++ k ∷ [] → tally x hs ≡ tally x rest + tally x (k ∷ [])
less x k hs rest e = subst (λ (v : List ℕ). tally x v ≡ tally x rest + tally x (k ∷ [])) (sym e) (tally-append x rest (k ∷ []))

pub live_cut : (b b' : Book) (os : List ℕ) (o : ℕ) (hs rest : List ℕ) (k s p t q : ℕ) → hs ≡ rest ++ k ∷ [] → Cuts b b' k s p t q → AreLive b os o hs → AreLive b' os o rest
live_cut b b' os o hs rest k s p t q e c l = record {
  outlets = λ x h. c.ends x (l.outlets x h);
  inlet = c.ends o l.inlet;
  held = λ x h.
      let a : tally x hs ≡ tally x rest + tally x (k ∷ []) = less x k hs rest e in
      let one : tally x hs ≤ 1 = l.apart x in
      Cuts-kept b b' k s p t q x c
      (λ i. let t' : (k == x) ≡ true = subst (λ (v : ℕ). (k == v) ≡ true) (sym i) (same_test k) in
      let a' : tally x hs ≡ tally x rest + 1 = rw t' at a in omega arith)
      (l.held x (omega arith));
  apart = λ x.
      let a : tally x hs ≡ tally x rest + tally x (k ∷ []) = less x k hs rest e in
      let one : tally x hs ≤ 1 = l.apart x in omega arith;
}

pub pushed_there : (k : ℕ) (rest : List ℕ) → 0 < tally k (rest ++ k ∷ [])
pushed_there k rest = rw (tally-append k rest (k ∷ []), same_test k) (omega arith)
