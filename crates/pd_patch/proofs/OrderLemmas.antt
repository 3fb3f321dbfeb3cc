-- Orders of canvases, one after another, and signal wires along an outlet.
use Rattle.std.proofs.Common.{arith, ◌≡◌, ℕ, zero, suc, ◌+◌, ◌<◌, ◌≤◌, List, [], ◌∷◌, ◌++◌, append_assoc, length, take, Option, Some, None, refl, sym, ap, ◌∙◌, subst, inl, inr}
use Rattle.std.specs.Prelude.{slice_get, filter, map, Bool}
use Rattle.std.proofs.lemmas.Bool.{cases_eq, cases_lt}
use Rattle.std.proofs.lemmas.List.{append-nil, get_or_past, length-map}
use Rattle.std.proofs.lemmas.Option.{none-some, same_Some, slice_get_past}
use Rattle.slab.specs.Slab.{get}
use Rattle.pd_order.specs.Listing.{Listing}
use Rattle.pd_chain.specs.declared.graph.SignalWire.{SignalWire}
use Rattle.pd_grove.specs.declared.grove.Grove.{Grove}
use Rattle.pd_web.specs.declared.web.Hop.{Hop}
use Rattle.pd_web.specs.declared.web.Web.{Web}
use Rattle.pd_order.proofs.Basics.{by_test}
use Rattle.pd_web.specs.Hops.{fan_hops, places_of}
use Rattle.pd_web.specs.Lines.{all_lines, fed_from}
use Rattle.pd_patch.specs.Telling.{order_in}
use Rattle.pd_patch.specs.Orders.{wires_by, wire_to, is_heard, hop_wires, HasOrder, AreOrdered}
use Rattle.pd_patch.proofs.PushLemmas.{noted_parts}

order_before : (orders : List (Option Listing)) (o : Option Listing) (c : ℕ) → c < length orders → order_in (orders ++ o ∷ []) c ≡ order_in orders c
order_before [] o c l = absurd (omega (arith, l))
order_before (p ∷ orders) o zero l = refl
order_before (p ∷ orders) o (suc c) l = order_before orders o c (omega (arith, l))

order_last : (orders : List (Option Listing)) (o : Option Listing) (c : ℕ) → c ≡ length orders → order_in (orders ++ o ∷ []) c ≡ o
order_last orders o c e = subst (λ n. order_in (orders ++ o ∷ []) n ≡ o) (sym e) (at_end orders o) where
  at_end : (orders : List (Option Listing)) (o : Option Listing) → order_in (orders ++ o ∷ []) (length orders) ≡ o
  at_end [] o = refl
  at_end (p ∷ orders) o = at_end orders o

order_past : (orders : List (Option Listing)) (c : ℕ) → length orders ≤ c → order_in orders c ≡ None
order_past [] c l = refl
order_past (p ∷ orders) zero l = absurd (omega (arith, l))
order_past (p ∷ orders) (suc c) l = order_past orders c (omega (arith, l))

-- one canvas more has its order
pub ordered_more : (g : Grove) (w : Web) (orders : List (Option Listing)) (o : Option Listing) (n : ℕ) → length orders ≡ n
    → ((c : ℕ) → c < n → HasOrder g w (get g.boards c) (order_in orders c)) → HasOrder g w (get g.boards n) o
    → (c : ℕ) → c < n + 1 → HasOrder g w (get g.boards c) (order_in (orders ++ o ∷ []) c)
ordered_more g w orders o n e h new c l = elim (cases_eq c n) [
  | inl same ↦ subst (λ x. HasOrder g w (get g.boards c) x) (sym (order_last orders o c (same ∙ sym e))) (subst (λ x. HasOrder g w (get g.boards x) o) (sym same) new)
  | inr other ↦
      let less : c < n = omega (arith, l, other) in
      subst (λ x. HasOrder g w (get g.boards c) x) (sym (order_before orders o c (omega (arith, less, e)))) (h c less)
]

-- so have all, where those below a number above all keys have theirs
pub all_ordered : (g : Grove) (w : Web) (orders : List (Option Listing)) (n : ℕ) → length g.boards.slots ≤ n → length orders ≡ n
    → ((c : ℕ) → c < n → HasOrder g w (get g.boards c) (order_in orders c)) → AreOrdered g w orders
all_ordered g w orders n l e h c = elim (cases_lt c n) [
  | inl less ↦ h c less
  | inr more ↦ subst (λ b. HasOrder g w b (order_in orders c)) (sym (get_or_past g.boards.slots c None (omega (arith, l, more)))) (order_past orders c (omega (arith, more, e)))
]

take_suc : (hops : List Hop) (i : ℕ) (h : Hop) → slice_get hops i ≡ Some h → take (suc i) hops ≡ take i hops ++ h ∷ []
take_suc [] i h e = absurd (none-some h e)
take_suc (x ∷ hops) zero h e = ap (λ y. y ∷ []) (same_Some x h e)
take_suc (x ∷ hops) (suc i) h e = ap (λ ys. x ∷ ys) (take_suc hops i h e)

-- behind the last hop is none
all_taken : (hops : List Hop) (i : ℕ) → slice_get hops i ≡ None → take i hops ≡ hops
all_taken [] zero e = refl
all_taken [] (suc i) e = refl
all_taken (x ∷ hops) zero e = absurd (none-some x (sym e))
all_taken (x ∷ hops) (suc i) e = ap (λ ys. x ∷ ys) (all_taken hops i e)

none_next : (hops : List Hop) (i : ℕ) → slice_get hops i ≡ None → slice_get hops (suc i) ≡ None
none_next [] i e = refl
none_next (x ∷ hops) zero e = absurd (none-some x (sym e))
none_next (x ∷ hops) (suc i) e = none_next hops i e

pub none_behind : (hops : List Hop) (i : ℕ) → None ≡ slice_get hops i → None ≡ slice_get hops (i + 1)
none_behind hops i e = let s : suc i ≡ i + 1 = omega arith in sym (none_next hops i (sym e)) ∙ ap (slice_get hops) s

hop_more : (w : Web) (source : ℕ) (hops : List Hop) (i : ℕ) (o : Option Hop) → o ≡ slice_get hops i
    → wires_by w source (take (suc i) hops) ≡ wires_by w source (take i hops) ++ hop_wires w source o
hop_more w source hops i None e =
    ap (wires_by w source) (all_taken hops (suc i) (none_next hops i (sym e)) ∙ sym (all_taken hops i (sym e))) ∙ sym (append-nil (wires_by w source (take i hops)))
hop_more w source hops i (Some h) e =
    ap (wires_by w source) (take_suc hops i h (sym e)) ∙ noted_parts (wire_to source) (is_heard w) (take i hops) (h ∷ [])

-- one hop more
pub hop_step : (w : Web) (source : ℕ) (hops : List Hop) (i : ℕ) (o : Option Hop) (old now new : List SignalWire) → o ≡ slice_get hops i → new ≡ now ++ hop_wires w source o
    → now ≡ old ++ wires_by w source (take i hops) → new ≡ old ++ wires_by w source (take (i + 1) hops)
hop_step w source hops i o old now new e n h =
    let s : suc i ≡ i + 1 = omega arith in
    n ∙ ap (λ x. x ++ hop_wires w source o) h ∙ append_assoc old (wires_by w source (take i hops)) (hop_wires w source o)
    ∙ ap (λ x. old ++ x) (sym (hop_more w source hops i o e)) ∙ ap (λ m. old ++ wires_by w source (take m hops)) s

-- all hops
pub hops_done : (w : Web) (source : ℕ) (hops : List Hop) (i : ℕ) (old now : List SignalWire) → None ≡ slice_get hops i → now ≡ old ++ wires_by w source (take i hops)
    → now ≡ old ++ wires_by w source hops
hops_done w source hops i old now e h = h ∙ ap (λ x. old ++ wires_by w source x) (all_taken hops i (sym e))

pub none_past : (hops : List Hop) (most i : ℕ) → length hops ≤ most → most ≤ i → None ≡ slice_get hops i
none_past hops most i l m = sym (slice_get_past hops i (omega (arith, l, m)))

shorter : {A : Type 0} (p : A → Bool) (ls : List A) → length (filter p ls) ≤ length ls
shorter p [] = omega arith
shorter p (l ∷ ls) = let rest = shorter p ls in by_test (p l)
    (λ t. rw t (omega (arith, rest)))
    (λ f. rw f (omega (arith, rest)))

fewer : {A : Type 0} (p : A → Bool) (f : A → ℕ × ℕ) (ls : List A) → length (map f (filter p ls)) ≤ length ls
fewer p f ls = omega (arith, length-map (filter p ls) f, shorter p ls)

-- no outlet has more wires than there are
pub few_hops : (g : Grove) (w : Web) (k outlet : ℕ) → places_of (fan_hops w k outlet) ≡ fed_from k outlet (all_lines g) → length (all_lines g) ≤ 65536 → length (fan_hops w k outlet) ≤ 65536
few_hops g w k outlet fans few =
    let hops = length-map {B = ℕ × ℕ} (fan_hops w k outlet) (λ (h : Hop). (h.node, h.port)) in
    let less : length (fed_from k outlet (all_lines g)) ≤ length (all_lines g) = fewer _ _ (all_lines g) in
    let same = ap length fans in
    omega (arith, hops, less, same, few)
