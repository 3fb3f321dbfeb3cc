-- What contracts see of a slab of nodes.
use Rattle.std.proofs.Common.{◌≡◌, ◌≢◌, ◌⊎◌, ℕ, zero, suc, ◌+◌, ◌-◌, ◌<◌, ◌≤◌, Bool, true, false, cond, ◌||◌, eqb, List, [], ◌∷◌, length, get_or, Option, Some, None, IsSome, refl, sym, ap, ◌∙◌, subst, inl, inr, arith}
use Rattle.std.proofs.Math.ListN.{get_or-map}
use Rattle.std.proofs.lemmas.Option.{slice_get_within, get_or_from_slice_get, slice_get-get_or, slice_get_past, some_pair_parts}
use Rattle.std.proofs.lemmas.Bool.{cases_lt}
use Rattle.std.proofs.lemmas.List.{get_or_past, get_or_default}
use Rattle.std.proofs.lemmas.Map.Steps.{length-le_from_distinct_below}
use Rattle.std.proofs.lemmas.Map.Keys.{IsDistinct-from_apart}
use Rattle.std.proofs.lemmas.Bool.{ne_eqb, eqb-true}
use Rattle.std.specs.List.{slice_get, list_any}
use Rattle.std.specs.Prelude.{unwrap_or}
use Rattle.slab.specs.Slab.{Slab, ContainsKey}
use Rattle.pd_wire.specs.Links.{fan_at, feed_at, is_end, is_wire, IsBook, list_of}
use Rattle.pd_wire.specs.Book.{Book, IsEnd, IsWire, end_at, wire_at, fan_part, feed_part, fan_of, feeds_of, IsLinked, IsNext, IsPrevious, StandsAt}
use Rattle.pd_wire.specs.Stored.{end_of_slot, wire_of_slot, book_of, IsSound}
use Rattle.pd_wire.specs.declared.links.Link.{Link}
use Rattle.pd_wire.specs.declared.links.Node.{Node}
use Rattle.pd_wire.proofs.Rings.{ring_below, next_apart}
use Rattle.pd_wire.proofs.Books.{node_in, not_head, true_false}
use Rattle.pd_wire.proofs.Nodes.{next_place, first_place, key_of_either, either, before_of, wire_is_no_end}

-- what is seen of the nodes, whatever room is set aside
abbrev pub seen : Slab Node → Book
seen s = book_of s 0 0

-- what is seen at a key
pub end_seen : (s : Slab Node) (k : ℕ) → end_at (seen s) k ≡ cond (is_end s k) (Some (list_of (fan_at s) k, list_of (feed_at s) k)) None
end_seen s k = get_or-map (end_of_slot s) s.slots k None

pub wire_seen : (s : Slab Node) (k : ℕ) → wire_at (seen s) k ≡ cond (is_wire s k) (Some ((fan_at s k).owner, (feed_at s k).owner)) None
wire_seen s k = get_or-map wire_of_slot s.slots k None

pub fan_part-cond : (b : Bool) (xs ys : List ℕ) → fan_part (cond b (Some (xs, ys)) None) ≡ cond b xs []
fan_part-cond true xs ys = refl
fan_part-cond false xs ys = refl

pub feed_part-cond : (b : Bool) (xs ys : List ℕ) → feed_part (cond b (Some (xs, ys)) None) ≡ cond b ys []
feed_part-cond true xs ys = refl
feed_part-cond false xs ys = refl

pub fan_seen : (s : Slab Node) (e : ℕ) → fan_of (seen s) e ≡ cond (is_end s e) (list_of (fan_at s) e) []
fan_seen s e = ap fan_part (end_seen s e) ∙ fan_part-cond (is_end s e) _ _

pub feeds_seen : (s : Slab Node) (e : ℕ) → feeds_of (seen s) e ≡ cond (is_end s e) (list_of (feed_at s) e) []
feeds_seen s e = ap feed_part (end_seen s e) ∙ feed_part-cond (is_end s e) _ _

pub at_true : {X : Type 0} (b : Bool) (x y : X) → b ≡ true → cond b x y ≡ x
at_true b x y h = ap (λ c. cond c x y) h

pub at_false : {X : Type 0} (b : Bool) (x y : X) → b ≡ false → cond b x y ≡ y
at_false b x y h = ap (λ c. cond c x y) h

pub fan_is : (s : Slab Node) (e : ℕ) → is_end s e ≡ true → fan_of (seen s) e ≡ list_of (fan_at s) e
fan_is s e h = fan_seen s e ∙ at_true _ _ _ h

pub feeds_is : (s : Slab Node) (e : ℕ) → is_end s e ≡ true → feeds_of (seen s) e ≡ list_of (feed_at s) e
feeds_is s e h = feeds_seen s e ∙ at_true _ _ _ h

pub some_cond : {X : Type 0} (b : Bool) (x : X) → IsSome (cond b (Some x) None) → b ≡ true
some_cond true x h = refl
some_cond false x h = absurd (cc)

pub end_is : (s : Slab Node) (e : ℕ) → IsEnd (seen s) e → is_end s e ≡ true
end_is s e h = let P : Option (List ℕ × List ℕ) → Type 0 = λ o. IsSome o in some_cond (is_end s e) _ (subst P (end_seen s e) h)

pub is_end_from : (s : Slab Node) (e : ℕ) → is_end s e ≡ true → IsEnd (seen s) e
is_end_from s e h = let P : Option (List ℕ × List ℕ) → Type 0 = λ o. IsSome o in subst P (sym (end_seen s e ∙ at_true _ _ _ h)) refl

pub wire_is : (s : Slab Node) (e : ℕ) → IsWire (seen s) e → is_wire s e ≡ true
wire_is s e h = let P : Option (ℕ × ℕ) → Type 0 = λ o. IsSome o in some_cond (is_wire s e) _ (subst P (wire_seen s e) h)

pub wire_at_is : (s : Slab Node) (k : ℕ) → is_wire s k ≡ true → wire_at (seen s) k ≡ Some ((fan_at s k).owner, (feed_at s k).owner)
wire_at_is s k h = wire_seen s k ∙ at_true _ _ _ h

pub bool_cases : (b : Bool) → (b ≡ true) ⊎ (b ≡ false)
bool_cases true = inl refl
bool_cases false = inr refl

-- where each end keeps its list, each key does
pub fans_kept : (s t : Slab Node) (e : ℕ) → is_end t e ≡ is_end s e → (is_end s e ≡ true → list_of (fan_at t) e ≡ list_of (fan_at s) e) → fan_of (seen t) e ≡ fan_of (seen s) e
fans_kept s t e ends h = elim (bool_cases (is_end s e)) [
  | inl holds ↦ fan_is t e (ends ∙ holds) ∙ h holds ∙ sym (fan_is s e holds)
  | inr fails ↦ fan_seen t e ∙ at_false _ _ _ (ends ∙ fails) ∙ sym (fan_seen s e ∙ at_false _ _ _ fails)
]

pub feeds_kept : (s t : Slab Node) (e : ℕ) → is_end t e ≡ is_end s e → (is_end s e ≡ true → list_of (feed_at t) e ≡ list_of (feed_at s) e) → feeds_of (seen t) e ≡ feeds_of (seen s) e
feeds_kept s t e ends h = elim (bool_cases (is_end s e)) [
  | inl holds ↦ feeds_is t e (ends ∙ holds) ∙ h holds ∙ sym (feeds_is s e holds)
  | inr fails ↦ feeds_seen t e ∙ at_false _ _ _ (ends ∙ fails) ∙ sym (feeds_seen s e ∙ at_false _ _ _ fails)
]

pub end_kept : (s t : Slab Node) (e : ℕ) → is_end t e ≡ is_end s e → (is_end s e ≡ true → list_of (fan_at t) e ≡ list_of (fan_at s) e) → (is_end s e ≡ true → list_of (feed_at t) e ≡ list_of (feed_at s) e) → end_at (seen t) e ≡ end_at (seen s) e
end_kept s t e ends f g = elim (bool_cases (is_end s e)) [
  | inl holds ↦ end_seen t e ∙ at_true _ _ _ (ends ∙ holds) ∙ ap (λ xs. Some (xs, list_of (feed_at t) e)) (f holds) ∙ ap (λ ys. Some (list_of (fan_at s) e, ys)) (g holds) ∙ sym (end_seen s e ∙ at_true _ _ _ holds)
  | inr fails ↦ end_seen t e ∙ at_false _ _ _ (ends ∙ fails) ∙ sym (end_seen s e ∙ at_false _ _ _ fails)
]

pub wire_kept : (s t : Slab Node) (k : ℕ) → is_wire t k ≡ is_wire s k → (is_wire s k ≡ true → (fan_at t k).owner ≡ (fan_at s k).owner) → (is_wire s k ≡ true → (feed_at t k).owner ≡ (feed_at s k).owner) → wire_at (seen t) k ≡ wire_at (seen s) k
wire_kept s t k wires f g = elim (bool_cases (is_wire s k)) [
  | inl holds ↦ wire_at_is t k (wires ∙ holds) ∙ ap (λ x. Some (x, (feed_at t k).owner)) (f holds) ∙ ap (λ y. Some ((fan_at s k).owner, y)) (g holds) ∙ sym (wire_at_is s k holds)
  | inr fails ↦ wire_seen t k ∙ at_false _ _ _ (wires ∙ fails) ∙ sym (wire_seen s k ∙ at_false _ _ _ fails)
]

pub no_end_seen : (s : Slab Node) (k : ℕ) → is_end s k ≡ false → end_at (seen s) k ≡ None
no_end_seen s k h = end_seen s k ∙ at_false _ _ _ h

pub no_wire_seen : (s : Slab Node) (k : ℕ) → is_wire s k ≡ false → wire_at (seen s) k ≡ None
no_wire_seen s k h = wire_seen s k ∙ at_false _ _ _ h

-- a list has fewer members than the slab has slots
pub below_from_places : (xs : List ℕ) (n d : ℕ) → ((i : ℕ) → i < length xs → get_or xs i d < n) → (q : ℕ) → list_any (eqb q) xs ≡ true → q < n
below_from_places [] n d h q e = absurd (cc)
below_from_places (x ∷ xs) n d h q e = elim (bool_cases (eqb q x)) [
  | inl holds ↦ let same : q ≡ x = eqb-true q x holds in let b : x < n = h zero (omega arith) in omega arith
  | inr fails ↦ below_from_places xs n d (λ i l. h (suc i) (omega arith)) q (let P : Bool → Type 0 = λ b. (b || list_any (eqb q) xs) ≡ true in subst P fails e)
]

pub slot_below : (s : Slab Node) (k : ℕ) → ContainsKey s k → k < length s.slots
slot_below s k p = grind (arith, get_or_past)

pub list_fits : (s : Slab Node) (f : ℕ → Link) (ms : ℕ → List ℕ) (e : ℕ) → IsBook (is_end s) (is_wire s) f ms → is_end s e ≡ true → (f e).count + 1 ≤ length s.slots
list_fits s f ms e B he =
    let xs = e ∷ ms e in
    let far : (i j : ℕ) (d : ℕ) → i < j → j < length xs → eqb (get_or xs i d) (get_or xs j d) ≡ false =
    λ i j d l m. ne_eqb _ _ (λ q. ring_below f e (ms e) (B.rings e he) (not_head (is_end s) (is_wire s) f ms e B he) i j l (omega arith)
    (get_or_default xs i e d (omega arith) ∙ q ∙ sym (get_or_default xs j e d m))) in
    let fits : length xs ≤ length s.slots = length-le_from_distinct_below xs (length s.slots) (IsDistinct-from_apart eqb xs far)
    (below_from_places xs (length s.slots) e (λ i l. slot_below s _ (key_of_either s _ (either (is_end s) (is_wire s) f e _ he (node_in (is_end s) (is_wire s) f ms e B he i))))) in
    omega (arith, B.counted e he)

-- the one after a key in its list
pub record NextIs (xs : List ℕ) (i owner after : ℕ) : Type 0 where
  pub none : after ≡ owner → None ≡ slice_get xs (i + 1)
  pub some : (after ≡ owner → ⊥) → Some after ≡ slice_get xs (i + 1)

pub next_is : (head member : ℕ → Bool) (f : ℕ → Link) (key i : ℕ) → IsBook head member f (list_of f) → member key ≡ true → slice_get (list_of f (f key).owner) i ≡ Some key → NextIs (list_of f (f key).owner) i (f key).owner (f key).after
next_is head member f key i B mk q =
    let source = (f key).owner in
    let he = B.owners key mk in
    let xs = list_of f source in
    let l : i < length xs = slice_get_within xs i key q in
    let is : get_or xs i source ≡ key = get_or_from_slice_get xs i key source q in
    let next : (f key).after ≡ get_or xs (i + 1) source = ap (λ x. (f x).after) (sym is) ∙ next_place head member f (list_of f) source i B he l in
    elim (cases_lt (i + 1) (length xs)) [
      | inl lt ↦ record {
        none = λ e. absurd (not_head head member f (list_of f) source B he (i + 1) lt (sym next ∙ e));
        some = λ _. ap (λ x. Some x) next ∙ sym (slice_get-get_or xs (i + 1) source lt);
      }
      | inr ge ↦ record {
        none = λ _. sym (slice_get_past xs (i + 1) ge);
        some = λ e. absurd (e (next ∙ get_or_past xs (i + 1) source ge));
      }
    ]

pub some_from : {X : Type 0} (o : Option X) (x : X) → o ≡ Some x → IsSome o
some_from {X = X} o x e = let P : Option X → Type 0 = λ o. IsSome o in subst P (sym e) refl

-- a wire that contracts see, as it is stored
pub owners_are : (s : Slab Node) (k a b : ℕ) → wire_at (seen s) k ≡ Some (a, b) → (is_wire s k ≡ true) × ((fan_at s k).owner ≡ a) × ((feed_at s k).owner ≡ b)
owners_are s k a b w =
    let iw = wire_is s k (some_from _ _ w) in
    let q = some_pair_parts (fan_at s k).owner a (feed_at s k).owner b (sym (wire_at_is s k iw) ∙ w) in
    (iw, q.0, q.1)

-- what stands behind a key in the list of its owner stands behind it in the list that contracts see
pub fan_next_seen : (s : Slab Node) (key source sink : ℕ) (next : Option ℕ) → IsSound s → wire_at (seen s) key ≡ Some (source, sink)
    → IsNext (list_of (fan_at s) (fan_at s key).owner) key next → IsNext (fan_of (seen s) source) key next
fan_next_seen s key source sink next S w h =
    let o = owners_are s key source sink w in
    let P : List ℕ → Type 0 = λ xs. IsNext xs key next in
    subst P (ap (list_of (fan_at s)) o.1 ∙ sym (fan_is s source (ap (is_end s) (sym o.1) ∙ S.fans.owners key o.0))) h

pub feed_next_seen : (s : Slab Node) (key source sink : ℕ) (next : Option ℕ) → IsSound s → wire_at (seen s) key ≡ Some (source, sink)
    → IsNext (list_of (feed_at s) (feed_at s key).owner) key next → IsNext (feeds_of (seen s) sink) key next
feed_next_seen s key source sink next S w h =
    let o = owners_are s key source sink w in
    let P : List ℕ → Type 0 = λ xs. IsNext xs key next in
    subst P (ap (list_of (feed_at s)) o.2 ∙ sym (feeds_is s sink (ap (is_end s) (sym o.2) ∙ S.feeds.owners key o.0))) h

-- the first of a list that is not empty
pub first_is : (head member : ℕ → Bool) (f : ℕ → Link) (e : ℕ) → IsBook head member f (list_of f) → head e ≡ true → ((f e).count ≡ 0 → ⊥) → Some (f e).after ≡ slice_get (list_of f e) 0
first_is head member f e B he n =
    let l : 0 < length (list_of f e) = omega (arith, B.counted e he) in
    ap (λ x. Some x) (first_place head member f (list_of f) e B he) ∙ sym (slice_get-get_or (list_of f e) 0 e l)

-- the last of a list that is not empty
pub last_is : (head member : ℕ → Bool) (f : ℕ → Link) (e : ℕ) → IsBook head member f (list_of f) → head e ≡ true → ((f e).count ≡ 0 → ⊥) → Some (f e).before ≡ slice_get (list_of f e) (length (list_of f e) - 1)
last_is head member f e B he n =
    let xs : List ℕ = list_of f e in
    let l : 0 < length xs = omega (arith, B.counted e he) in
    let past : get_or xs (length xs) e ≡ e = get_or_past xs (length xs) e (omega arith) in
    let r : (f (get_or xs (length xs) e)).before ≡ get_or (e ∷ xs) (length xs) e = (B.rings e he).before (length xs) (omega arith) in
    let r' : (f e).before ≡ get_or (e ∷ xs) (length xs) e = ap (λ x. (f x).before) (sym past) ∙ r in
    let m : length xs ≡ suc (length xs - 1) = omega arith in
    let at : get_or (e ∷ xs) (length xs) e ≡ get_or xs (length xs - 1) e = ap (λ i. get_or (e ∷ xs) i e) m in
    ap (λ x. Some x) (r' ∙ at) ∙ sym (slice_get-get_or xs (length xs - 1) e (omega arith))

-- the one before a key in its list
pub record PreviousIs (xs : List ℕ) (key owner before : ℕ) : Type 0 where
  pub at_front : slice_get xs 0 ≡ Some key → before ≡ owner
  pub apart : (i : ℕ) → slice_get xs (i + 1) ≡ Some key → before ≡ owner → ⊥
  pub behind : (i : ℕ) → slice_get xs (i + 1) ≡ Some key → Some before ≡ slice_get xs i

pub previous_is : (head member : ℕ → Bool) (f : ℕ → Link) (key : ℕ) → IsBook head member f (list_of f) → member key ≡ true → PreviousIs (list_of f (f key).owner) key (f key).owner (f key).before
previous_is head member f key B mk =
    let source = (f key).owner in
    let he = B.owners key mk in
    let xs = list_of f source in
    let within : (i : ℕ) → slice_get xs i ≡ Some key → i < length xs = λ i q. slice_get_within xs i key q in
    let is : (i : ℕ) → slice_get xs i ≡ Some key → get_or xs i source ≡ key = λ i q. get_or_from_slice_get xs i key source q in
    let more : (i : ℕ) → i + 1 ≡ suc i = λ i. omega arith in
    let before : (i : ℕ) → slice_get xs (i + 1) ≡ Some key → (f key).before ≡ get_or xs i source = λ i q. before_of head member f (list_of f) key (i + 1) B he (within (i + 1) q) (is (i + 1) q) ∙ ap (λ k. get_or (source ∷ xs) k source) (more i) in
    let there : (i : ℕ) → slice_get xs (i + 1) ≡ Some key → i < length xs = λ i q. let l : i + 1 < length xs = within (i + 1) q in omega arith in
    record {
      at_front = λ q. before_of head member f (list_of f) key 0 B he (within 0 q) (is 0 q);
      apart = λ i q e. not_head head member f (list_of f) source B he i (there i q) (sym (before i q) ∙ e);
      behind = λ i q. ap (λ x. Some x) (before i q) ∙ sym (slice_get-get_or xs i source (there i q));
    }

-- the key that stands at a place, or the end's behind the last
pub standing_key : (xs : List ℕ) (place e : ℕ) (key : Option ℕ) → StandsAt xs place key → unwrap_or key e ≡ get_or xs place e
standing_key xs place e None s = elim (cases_lt place (length xs)) [
  | inl lt ↦ absurd (none_some (sym s.1 ∙ slice_get-get_or xs place 0 lt))
  | inr ge ↦ sym (get_or_past xs place e ge)
]
  where
    none_some : {x : ℕ} → None ≡ Some x → ⊥
    none_some q = cc
standing_key xs place e (Some k) s = sym (get_or_from_slice_get xs place k e s.1)

-- what stands before a key in the list of its owner stands before it in the list that contracts see
pub feed_before_seen : (s : Slab Node) (key source sink : ℕ) (previous : Option ℕ) → IsSound s → wire_at (seen s) key ≡ Some (source, sink)
    → IsPrevious (list_of (feed_at s) (feed_at s key).owner) key previous → IsPrevious (feeds_of (seen s) sink) key previous
feed_before_seen s key source sink previous S w h =
    let o = owners_are s key source sink w in
    let P : List ℕ → Type 0 = λ xs. IsPrevious xs key previous in
    subst P (ap (list_of (feed_at s)) o.2 ∙ sym (feeds_is s sink (ap (is_end s) (sym o.2) ∙ S.feeds.owners key o.0))) h

-- a key of an end is no wire's
pub end_no_wire : (s : Slab Node) (k : ℕ) → is_end s k ≡ true → is_wire s k ≡ false
end_no_wire s k he = elim (bool_cases (is_wire s k)) as (λ _. is_wire s k ≡ false) [
  | inl w ↦ absurd (true_false (is_end s k) he (wire_is_no_end s k w))
  | inr fails ↦ fails
]

-- the laws of a book
pub some_is_end : (s : Slab Node) (e i : ℕ) → i < length (fan_of (seen s) e) → is_end s e ≡ true
some_is_end s e i l = elim (bool_cases (is_end s e)) [
  | inl holds ↦ holds
  | inr fails ↦ let n : length (fan_of (seen s) e) ≡ 0 = ap length (fan_seen s e ∙ at_false _ _ _ fails) in absurd (omega arith)
]

pub fed_is_end : (s : Slab Node) (e i : ℕ) → i < length (feeds_of (seen s) e) → is_end s e ≡ true
fed_is_end s e i l = elim (bool_cases (is_end s e)) [
  | inl holds ↦ holds
  | inr fails ↦ let n : length (feeds_of (seen s) e) ≡ 0 = ap length (feeds_seen s e ∙ at_false _ _ _ fails) in absurd (omega arith)
]

pub linked_from : (s : Slab Node) (m n : ℕ) → IsSound s → IsLinked (book_of s m n)
linked_from s m n S = record {
  fan_wires = λ e i l.
      let he = some_is_end s e i l in
      let R : List ℕ → Type 0 = λ xs. i < length xs → (t : ℕ) × (wire_at (seen s) (get_or xs i e) ≡ Some (e, t)) in
      subst R (sym (fan_is s e he)) (λ m. ((feed_at s (get_or (list_of (fan_at s) e) i e)).owner, wire_at_is s _ (S.fans.members e i he m) ∙ ap (λ o. Some (o, (feed_at s (get_or (list_of (fan_at s) e) i e)).owner)) (S.fans.owned e i he m))) l;
  feed_wires = λ e i l.
      let he = fed_is_end s e i l in
      let R : List ℕ → Type 0 = λ xs. i < length xs → (t : ℕ) × (wire_at (seen s) (get_or xs i e) ≡ Some (t, e)) in
      subst R (sym (feeds_is s e he)) (λ m. ((fan_at s (get_or (list_of (feed_at s) e) i e)).owner, wire_at_is s _ (S.feeds.members e i he m) ∙ ap (λ o. Some ((fan_at s (get_or (list_of (feed_at s) e) i e)).owner, o)) (S.feeds.owned e i he m))) l;
  in_fan = λ k a b w.
      let o = owners_are s k a b w in
      let he = S.fans.owners k o.0 in
      let R : List ℕ → Type 0 = λ xs. (i : ℕ) × (i < length xs) × (get_or xs i (fan_at s k).owner ≡ k) in
      let A : ℕ → Type 0 = λ a. (i : ℕ) × (i < length (fan_of (seen s) a)) × (get_or (fan_of (seen s) a) i a ≡ k) in
      subst A o.1 (subst R (sym (fan_is s (fan_at s k).owner he)) (S.fans.placed k o.0));
  in_feeds = λ k a b w.
      let o = owners_are s k a b w in
      let he = S.feeds.owners k o.0 in
      let R : List ℕ → Type 0 = λ xs. (i : ℕ) × (i < length xs) × (get_or xs i (feed_at s k).owner ≡ k) in
      let A : ℕ → Type 0 = λ a. (i : ℕ) × (i < length (feeds_of (seen s) a)) × (get_or (feeds_of (seen s) a) i a ≡ k) in
      subst A o.2 (subst R (sym (feeds_is s (feed_at s k).owner he)) (S.feeds.placed k o.0));
  source = λ k a b w. let o = owners_are s k a b w in is_end_from s a (ap (is_end s) (sym o.1) ∙ S.fans.owners k o.0);
  sink = λ k a b w. let o = owners_are s k a b w in is_end_from s b (ap (is_end s) (sym o.2) ∙ S.feeds.owners k o.0);
  once = λ e i j d l m.
      let he = some_is_end s e i l in
      let R : List ℕ → Type 0 = λ xs. i < length xs → j < length xs → get_or xs i e ≢ get_or xs j e in
      subst R (sym (fan_is s e he)) (λ l m. next_apart (fan_at s) e (list_of (fan_at s) e) (S.fans.rings e he) (not_head (is_end s) (is_wire s) (fan_at s) (list_of (fan_at s)) e S.fans he) i j d (omega arith) (omega arith)) l m;
  once_fed = λ e i j d l m.
      let he = fed_is_end s e i l in
      let R : List ℕ → Type 0 = λ xs. i < length xs → j < length xs → get_or xs i e ≢ get_or xs j e in
      subst R (sym (feeds_is s e he)) (λ l m. next_apart (feed_at s) e (list_of (feed_at s) e) (S.feeds.rings e he) (not_head (is_end s) (is_wire s) (feed_at s) (list_of (feed_at s)) e S.feeds he) i j d (omega arith) (omega arith)) l m;
  apart = λ k h. no_wire_seen s k (end_no_wire s k (end_is s k h));
}
