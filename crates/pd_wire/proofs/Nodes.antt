-- Slabs of nodes: which keys have a node, and what an insertion or a removal of a node leaves.
use Rattle.std.proofs.lemmas.List.{get_or_past}
use Rattle.std.proofs.Common.{add-one, ◌≡◌, ◌≢◌, ◌⊎◌, ℕ, suc, ◌+◌, ◌<◌, ◌≤◌, Bool, true, false, not, List, ◌∷◌, length, get_or, Option, Some, None, IsSome, refl, sym, ap, ◌∙◌, subst, inl, inr, arith}
use Rattle.slab.specs.Slab.{Slab, get, ContainsKey, Updates}
use Rattle.pd_wire.specs.Links.{fan_of_slot, feed_of_slot, is_end_slot, is_wire_slot, fan_at, feed_at, is_end, is_wire, Attaches, Detaches, IsBook, KeepsKeys}
use Rattle.pd_wire.specs.declared.links.Link.{Link}
use Rattle.pd_wire.specs.declared.links.Node.{Node}
use Rattle.pd_wire.proofs.Books.{InRing, next_in, node_in, not_head}
use Rattle.pd_wire.proofs.Rings.{ring_apart, next_apart}

slot_of_end : (o : Option Node) → is_end_slot o ≡ true → IsSome o
slot_of_end None h = absurd (cc)
slot_of_end (Some n) h = refl

slot_of_wire : (o : Option Node) → is_wire_slot o ≡ true → IsSome o
slot_of_wire None h = absurd (cc)
slot_of_wire (Some n) h = refl

pub key_of_end : (s : Slab Node) (k : ℕ) → is_end s k ≡ true → ContainsKey s k
key_of_end s k h = slot_of_end (get s k) h

pub key_of_wire : (s : Slab Node) (k : ℕ) → is_wire s k ≡ true → ContainsKey s k
key_of_wire s k h = slot_of_wire (get s k) h

wire_no_end : (o : Option Node) → is_wire_slot o ≡ true → is_end_slot o ≡ false
wire_no_end None h = refl
wire_no_end (Some n) h = elim (n.is_end) as (λ b. not b ≡ true → b ≡ false) [ true ↦ λ p. absurd (cc) | false ↦ λ p. refl ] h

pub wire_is_no_end : (s : Slab Node) (k : ℕ) → is_wire s k ≡ true → is_end s k ≡ false
wire_is_no_end s k h = wire_no_end (get s k) h

none_no_some : (o : Option Node) → IsSome o → o ≡ None → ⊥
none_no_some None p q = cc
none_no_some (Some n) p q = cc

-- a key with a node is no vacant key
pub key_apart : (s : Slab Node) (k j : ℕ) → ContainsKey s k → get s j ≡ None → k ≢ j
key_apart s k j p q = λ e. none_no_some (get s k) p (ap (get s) e ∙ q)

pub attach_moved : (f₀ f₁ f₂ f₃ : ℕ → Link) (e k a b : ℕ) → ((j : ℕ) → j ≢ k → f₁ j ≡ f₀ j) → ((j : ℕ) → f₃ j ≡ f₂ j) → e ≢ k → Attaches f₁ f₂ e k a b → Attaches f₀ f₃ e k a b
attach_moved f₀ f₁ f₂ f₃ e k a b p q ek t =
    let o = λ (l : Link). l.owner in
    let n = λ (l : Link). l.after in
    let h = λ (l : Link). l.before in
    let c = λ (l : Link). l.count in
    record {
      owner_at = ap o (q k) ∙ t.owner_at;
      owner = λ j jk. ap o (q j) ∙ t.owner j jk ∙ ap o (p j jk);
      after_at = ap n (q k) ∙ t.after_at;
      after_before = ap n (q a) ∙ t.after_before;
      after = λ j jk ja. ap n (q j) ∙ t.after j jk ja ∙ ap n (p j jk);
      before_at = ap h (q k) ∙ t.before_at;
      before_after = ap h (q b) ∙ t.before_after;
      before = λ j jk jb. ap h (q j) ∙ t.before j jk jb ∙ ap h (p j jk);
      count_at = ap c (q e) ∙ t.count_at ∙ ap (λ m. m + 1) (ap c (p e ek));
      count = λ j jk je. ap c (q j) ∙ t.count j jk je ∙ ap c (p j jk);
    }

pub detach_moved : (f₀ f₁ f₂ f₃ : ℕ → Link) (e k a b : ℕ) → ((j : ℕ) → f₁ j ≡ f₀ j) → ((j : ℕ) → j ≢ k → f₃ j ≡ f₂ j) → e ≢ k → a ≢ k → b ≢ k → Detaches f₁ f₂ e k a b → Detaches f₀ f₃ e k a b
detach_moved f₀ f₁ f₂ f₃ e k a b p q ek ak bk t =
    let o = λ (l : Link). l.owner in
    let n = λ (l : Link). l.after in
    let h = λ (l : Link). l.before in
    let c = λ (l : Link). l.count in
    record {
      owner = λ j jk. ap o (q j jk) ∙ t.owner j jk ∙ ap o (p j);
      after_before = ap n (q a ak) ∙ t.after_before;
      after = λ j jk ja. ap n (q j jk) ∙ t.after j jk ja ∙ ap n (p j);
      before_after = ap h (q b bk) ∙ t.before_after;
      before = λ j jk jb. ap h (q j jk) ∙ t.before j jk jb ∙ ap h (p j);
      count_at = ap (λ m. m + 1) (ap c (q e ek)) ∙ t.count_at ∙ ap c (p e);
      count = λ j jk je. ap c (q j jk) ∙ t.count j jk je ∙ ap c (p j);
    }

-- where a member stands, its neighbours are those of its list
pub before_of : (head member : ℕ → Bool) (f : ℕ → Link) (ms : ℕ → List ℕ) (k i : ℕ) → IsBook head member f ms → head (f k).owner ≡ true → i < length (ms (f k).owner) → get_or (ms (f k).owner) i (f k).owner ≡ k
    → (f k).before ≡ get_or ((f k).owner ∷ ms (f k).owner) i (f k).owner
before_of head member f ms k i B he l is = ap (λ x. (f x).before) (sym is) ∙ (B.rings (f k).owner he).before i (omega arith)

pub after_of : (head member : ℕ → Bool) (f : ℕ → Link) (ms : ℕ → List ℕ) (k i : ℕ) → IsBook head member f ms → head (f k).owner ≡ true → i < length (ms (f k).owner) → get_or (ms (f k).owner) i (f k).owner ≡ k
    → (f k).after ≡ get_or (ms (f k).owner) (suc i) (f k).owner
after_of head member f ms k i B he l is = ap (λ x. (f x).after) (sym is) ∙ (B.rings (f k).owner he).after (suc i) (omega arith)

pub either : (head member : ℕ → Bool) (f : ℕ → Link) (e x : ℕ) → head e ≡ true → InRing member f e x → (head x ≡ true) ⊎ (member x ≡ true)
either head member f e x he (inl p) = inl (ap head p ∙ he)
either head member f e x he (inr p) = inr p.0

pub before_lives : (head member : ℕ → Bool) (f : ℕ → Link) (ms : ℕ → List ℕ) (k : ℕ) → IsBook head member f ms → member k ≡ true → (head (f k).before ≡ true) ⊎ (member (f k).before ≡ true)
before_lives head member f ms k B mk =
    let he = B.owners k mk in
    let q = B.placed k mk in
    let P : ℕ → Type 0 = λ x. (head x ≡ true) ⊎ (member x ≡ true) in
    subst P (sym (before_of head member f ms k q.0 B he q.1 q.2)) (either head member f (f k).owner _ he (node_in head member f ms (f k).owner B he q.0))

pub after_lives : (head member : ℕ → Bool) (f : ℕ → Link) (ms : ℕ → List ℕ) (k : ℕ) → IsBook head member f ms → member k ≡ true → (head (f k).after ≡ true) ⊎ (member (f k).after ≡ true)
after_lives head member f ms k B mk =
    let he = B.owners k mk in
    let q = B.placed k mk in
    let P : ℕ → Type 0 = λ x. (head x ≡ true) ⊎ (member x ≡ true) in
    subst P (sym (after_of head member f ms k q.0 B he q.1 q.2)) (either head member f (f k).owner _ he (next_in head member f ms (f k).owner B he (suc q.0)))

-- the neighbours of a member are not the member itself
pub before_apart : (head member : ℕ → Bool) (f : ℕ → Link) (ms : ℕ → List ℕ) (k : ℕ) → IsBook head member f ms → member k ≡ true → (f k).before ≢ k
before_apart head member f ms k B mk =
    let he = B.owners k mk in
    let q = B.placed k mk in
    let e = (f k).owner in
    λ s. ring_apart f e (ms e) (B.rings e he) (not_head head member f ms e B he) q.0 (suc q.0) (omega arith) (omega (arith, q.1)) (omega (arith, q.1))
    (sym (before_of head member f ms k q.0 B he q.1 q.2) ∙ s ∙ sym q.2)

pub after_apart : (head member : ℕ → Bool) (f : ℕ → Link) (ms : ℕ → List ℕ) (k : ℕ) → IsBook head member f ms → member k ≡ true → (f k).after ≢ k
after_apart head member f ms k B mk =
    let he = B.owners k mk in
    let q = B.placed k mk in
    let e = (f k).owner in
    λ s. next_apart f e (ms e) (B.rings e he) (not_head head member f ms e B he) (suc q.0) q.0 (omega arith) (omega (arith, q.1)) (omega (arith, q.1))
    (sym (after_of head member f ms k q.0 B he q.1 q.2) ∙ s ∙ sym q.2)

pub owner_apart : (head member : ℕ → Bool) (f : ℕ → Link) (ms : ℕ → List ℕ) (k : ℕ) → IsBook head member f ms → member k ≡ true → (f k).owner ≢ k
owner_apart head member f ms k B mk = λ s. B.apart k (ap head (sym s) ∙ B.owners k mk) mk

pub key_of_either : (s : Slab Node) (x : ℕ) → (is_end s x ≡ true) ⊎ (is_wire s x ≡ true) → ContainsKey s x
key_of_either s x (inl p) = key_of_end s x p
key_of_either s x (inr p) = key_of_wire s x p

-- each place of a list, and the one past its end, has a node
pub place_lives : (s : Slab Node) (f : ℕ → Link) (ms : ℕ → List ℕ) (e i : ℕ) → IsBook (is_end s) (is_wire s) f ms → is_end s e ≡ true → ContainsKey s (get_or (ms e) i e)
place_lives s f ms e i B he = key_of_either s _ (either (is_end s) (is_wire s) f e _ he (next_in (is_end s) (is_wire s) f ms e B he i))

pub before_place_lives : (s : Slab Node) (f : ℕ → Link) (ms : ℕ → List ℕ) (e p : ℕ) → IsBook (is_end s) (is_wire s) f ms → is_end s e ≡ true → p ≤ length (ms e) → ContainsKey s (f (get_or (ms e) p e)).before
before_place_lives s f ms e p B he l =
    let P : ℕ → Type 0 = λ x. ContainsKey s x in
    subst P (sym ((B.rings e he).before p l)) (key_of_either s _ (either (is_end s) (is_wire s) f e _ he (node_in (is_end s) (is_wire s) f ms e B he p)))

pub next_place : (head member : ℕ → Bool) (f : ℕ → Link) (ms : ℕ → List ℕ) (e i : ℕ) → IsBook head member f ms → head e ≡ true → i < length (ms e) → (f (get_or (ms e) i e)).after ≡ get_or (ms e) (i + 1) e
next_place head member f ms e i B he l = (B.rings e he).after (suc i) (omega arith) ∙ ap (λ m. get_or (ms e) m e) (sym (add-one i))

pub first_place : (head member : ℕ → Bool) (f : ℕ → Link) (ms : ℕ → List ℕ) (e : ℕ) → IsBook head member f ms → head e ≡ true → (f e).after ≡ get_or (ms e) 0 e
first_place head member f ms e B he = (B.rings e he).after 0 (omega arith)

pub past_place : (head member : ℕ → Bool) (f : ℕ → Link) (ms : ℕ → List ℕ) (e p : ℕ) → IsBook head member f ms → head e ≡ true → p ≡ (f e).count → e ≡ get_or (ms e) p e
past_place head member f ms e p B he q = sym (get_or_past (ms e) p e (omega (arith, B.counted e he)))

-- a new node changes no other
pub slots_kept : (old new : Slab Node) (k : ℕ) (slot : Option Node) → Updates old new k slot → (j : ℕ) → j ≢ k → (fan_at new j ≡ fan_at old j) × (feed_at new j ≡ feed_at old j) × (is_end new j ≡ is_end old j) × (is_wire new j ≡ is_wire old j)
slots_kept old new k slot u j d =
    (ap fan_of_slot (u.others j d), ap feed_of_slot (u.others j d), ap is_end_slot (u.others j d), ap is_wire_slot (u.others j d))

pub lives_moved : (s t : Slab Node) (x : ℕ) → KeepsKeys s t → (is_end s x ≡ true) ⊎ (is_wire s x ≡ true) → ContainsKey t x
lives_moved s t x k (inl p) = key_of_end t x (k.ends x ∙ p)
lives_moved s t x k (inr p) = key_of_wire t x (k.wires x ∙ p)
