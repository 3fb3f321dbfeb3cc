-- All lists of a book: what an insertion and a removal leave.
use Rattle.std.proofs.Common.{◌≡◌, ◌≢◌, ◌⊎◌, ℕ, zero, suc, ◌+◌, ◌-◌, ◌<◌, ◌≤◌, Bool, true, false, List, ◌∷◌, length, get_or, refl, sym, ap, ◌∙◌, subst, inl, inr, arith}
use Rattle.std.proofs.lemmas.Bool.{cases_eq, cases_lt}
use Rattle.std.proofs.lemmas.List.{get_or_past}
use Rattle.std.proofs.lemmas.List.Edits.{length-insert, get_or-insert_below, get_or-insert_at, get_or-insert_above, length-remove, get_or-remove_below, get_or-remove_above}
use Rattle.std.specs.List.{insert, remove}
use Rattle.pd_wire.specs.Links.{Attaches, Detaches, IsRing, IsPlaced, IsBook, list_of}
use Rattle.pd_wire.specs.declared.links.Link.{Link}
use Rattle.pd_wire.proofs.Rings.{ring_insert, ring_remove, ring_kept, next_apart, list_of-ring}

pub true_false : (b : Bool) → b ≡ true → b ≡ false → ⊥
true_false b p q = cc

-- x is the head h or one of its members
abbrev pub InRing : (ℕ → Bool) → (ℕ → Link) → ℕ → ℕ → Type 0
InRing member f h x = (x ≡ h) ⊎ ((member x ≡ true) × ((f x).owner ≡ h))

pub next_in : (head member : ℕ → Bool) (f : ℕ → Link) (ms : ℕ → List ℕ) (h : ℕ) → IsBook head member f ms → head h ≡ true → (i : ℕ) → InRing member f h (get_or (ms h) i h)
next_in head member f ms h B hh i =
    elim (cases_lt i (length (ms h))) [
      | inl lt ↦ inr (B.members h i hh lt, B.owned h i hh lt)
      | inr ge ↦ inl (get_or_past (ms h) i h ge)
    ]

pub node_in : (head member : ℕ → Bool) (f : ℕ → Link) (ms : ℕ → List ℕ) (h : ℕ) → IsBook head member f ms → head h ≡ true → (i : ℕ) → InRing member f h (get_or (h ∷ ms h) i h)
node_in head member f ms h B hh zero = inl refl
node_in head member f ms h B hh (suc i) = next_in head member f ms h B hh i

-- rings of two heads have no node in common
pub cross : (head member : ℕ → Bool) (f : ℕ → Link) (h e x y : ℕ) → ((k : ℕ) → head k ≡ true → member k ≡ true → ⊥) → head h ≡ true → head e ≡ true → h ≢ e → InRing member f h x → InRing member f e y → x ≢ y
cross head member f h e x y apart hh he ne (inl p) (inl q) = λ s. ne (sym p ∙ s ∙ q)
cross head member f h e x y apart hh he ne (inl p) (inr q) = λ s. apart h hh (ap member (sym p ∙ s) ∙ q.0)
cross head member f h e x y apart hh he ne (inr p) (inl q) = λ s. apart e he (ap member (sym q ∙ sym s) ∙ p.0)
cross head member f h e x y apart hh he ne (inr p) (inr q) = λ s. ne (sym p.1 ∙ ap (λ z. (f z).owner) s ∙ q.1)

-- nor with a key that is neither head nor member
pub free : (head member : ℕ → Bool) (f : ℕ → Link) (h x k : ℕ) → head h ≡ true → head k ≡ false → member k ≡ false → InRing member f h x → x ≢ k
free head member f h x k hh hk mk (inl p) = λ s. true_false (head k) (ap head (sym s ∙ p) ∙ hh) hk
free head member f h x k hh hk mk (inr p) = λ s. true_false (member k) (ap member (sym s) ∙ p.0) mk

pub not_head : (head member : ℕ → Bool) (f : ℕ → Link) (ms : ℕ → List ℕ) (h : ℕ) → IsBook head member f ms → head h ≡ true → (i : ℕ) → i < length (ms h) → get_or (ms h) i h ≢ h
not_head head member f ms h B hh i l = λ s. B.apart h hh (ap member (sym s) ∙ B.members h i hh l)

-- each element after an insertion is the new one or an old one
insert_cases : (e k p : ℕ) (xs : List ℕ) → p ≤ length xs → (i : ℕ) → i < length (insert xs p k) → (get_or (insert xs p k) i e ≡ k) ⊎ ((j : ℕ) × (j < length xs) × (get_or (insert xs p k) i e ≡ get_or xs j e))
insert_cases e k p xs b i l =
    elim (cases_lt i p) [
      | inl lt ↦ inr (i, omega arith, get_or-insert_below xs p k e i lt b)
      | inr ge ↦ elim (cases_eq i p) [
        | inl same ↦ inl (ap (λ m. get_or (insert xs p k) m e) same ∙ get_or-insert_at xs p k e b)
        | inr differs ↦
            let back : i ≡ i - 1 + 1 = omega arith in
            inr (i - 1, omega (arith, length-insert xs p k b), ap (λ m. get_or (insert xs p k) m e) back ∙ get_or-insert_above xs p k e (i - 1) (omega arith) b)
      ]
    ]

pub book_attach : (head member member' : ℕ → Bool) (f g : ℕ → Link) (ms ms' : ℕ → List ℕ) (e p k : ℕ)
    → IsBook head member f ms → head e ≡ true → head k ≡ false → member k ≡ false
    → member' k ≡ true → ((j : ℕ) → j ≢ k → member' j ≡ member j)
    → p ≤ length (ms e) → Attaches f g e k (get_or (e ∷ ms e) p e) (get_or (ms e) p e)
    → ms' e ≡ insert (ms e) p k → ((h : ℕ) → h ≢ e → ms' h ≡ ms h)
    → IsBook head member' g ms'
book_attach head member member' f g ms ms' e p k B he hk mk mk' mo b t me mh = record {
  apart = λ j hj mj. elim (cases_eq j k) [
    | inl same ↦ true_false (head k) (ap head (sym same) ∙ hj) hk
    | inr differs ↦ B.apart j hj (sym (mo j differs) ∙ mj)
  ];
  counted = λ h hh. elim (cases_eq h e) [
    | inl same ↦ let E : ℕ → Type 0 = λ h. (g h).count ≡ length (ms' h) in subst E (sym same) (t.count_at ∙ ap (λ n. n + 1) (B.counted e he) ∙ sym (length-insert (ms e) p k b) ∙ ap length (sym me))
    | inr differs ↦ t.count h (not_k h hh) differs ∙ B.counted h hh ∙ ap length (sym (mh h differs))
  ];
  rings = λ h hh. elim (cases_eq h e) [
    | inl same ↦
        let E : ℕ → Type 0 = λ h. IsRing g h (ms' h) in
        let R : List ℕ → Type 0 = λ xs. IsRing g e xs in
        subst E (sym same) (subst R (sym me) (ring_insert f g e k p (ms e) b (B.rings e he) (not_head head member f ms e B he) (not_k e he)
        (λ i. free head member f e (get_or (ms e) i e) k he hk mk (next_in head member f ms e B he i)) t))
    | inr differs ↦
        let R : List ℕ → Type 0 = λ xs. IsRing g h xs in
        subst R (sym (mh h differs)) (ring_kept f g h (ms h)
        (λ i _. t.after (get_or (h ∷ ms h) i h) (free head member f h _ k hh hk mk (node_in head member f ms h B hh i)) (cross head member f h e _ _ B.apart hh he differs (node_in head member f ms h B hh i) (node_in head member f ms e B he p)))
        (λ i _. t.before (get_or (ms h) i h) (free head member f h _ k hh hk mk (next_in head member f ms h B hh i)) (cross head member f h e _ _ B.apart hh he differs (next_in head member f ms h B hh i) (next_in head member f ms e B he p)))
        (B.rings h hh))
  ];
  members = λ h i hh l. elim (cases_eq h e) [
    | inl same ↦
        let E : ℕ → Type 0 = λ h. i < length (ms' h) → member' (get_or (ms' h) i h) ≡ true in
        let R : List ℕ → Type 0 = λ xs. i < length xs → member' (get_or xs i e) ≡ true in
        subst E (sym same) (subst R (sym me) (member_here i)) l
    | inr differs ↦
        let R : List ℕ → Type 0 = λ xs. i < length xs → member' (get_or xs i h) ≡ true in
        subst R (sym (mh h differs)) (λ l. kept_member _ (B.members h i hh l)) l
  ];
  owned = λ h i hh l. elim (cases_eq h e) [
    | inl same ↦
        let E : ℕ → Type 0 = λ h. i < length (ms' h) → (g (get_or (ms' h) i h)).owner ≡ h in
        let R : List ℕ → Type 0 = λ xs. i < length xs → (g (get_or xs i e)).owner ≡ e in
        subst E (sym same) (subst R (sym me) (owned_here i)) l
    | inr differs ↦
        let R : List ℕ → Type 0 = λ xs. i < length xs → (g (get_or xs i h)).owner ≡ h in
        subst R (sym (mh h differs)) (λ l. t.owner _ (free head member f h _ k hh hk mk (inr (B.members h i hh l, B.owned h i hh l))) ∙ B.owned h i hh l) l
  ];
  owners = λ m mm. elim (cases_eq m k) [
    | inl same ↦ ap (λ j. head (g j).owner) same ∙ ap head t.owner_at ∙ he
    | inr differs ↦ ap head (t.owner m differs) ∙ B.owners m (sym (mo m differs) ∙ mm)
  ];
  placed = λ m mm. elim (cases_eq m k) [
    | inl same ↦
        let E : ℕ → Type 0 = λ j. IsPlaced ms' (g j).owner j in
        let O : ℕ → Type 0 = λ o. IsPlaced ms' o k in
        let R : List ℕ → Type 0 = λ xs. (i : ℕ) × (i < length xs) × (get_or xs i e ≡ k) in
        subst E (sym same) (subst O (sym t.owner_at) (subst R (sym me) (p, omega (arith, length-insert (ms e) p k b), get_or-insert_at (ms e) p k e b)))
    | inr differs ↦
        let O : ℕ → Type 0 = λ o. IsPlaced ms' o m in
        subst O (sym (t.owner m differs)) (kept_place m (f m).owner (B.placed m (sym (mo m differs) ∙ mm)))
  ];
}
  where
    not_k : (h : ℕ) → head h ≡ true → h ≢ k
    not_k h hh = λ s. true_false (head k) (ap head (sym s) ∙ hh) hk

    kept_member : (x : ℕ) → member x ≡ true → member' x ≡ true
    kept_member x mx = mo x (λ s. true_false (member k) (ap member (sym s) ∙ mx) mk) ∙ mx

    member_here : (i : ℕ) → i < length (insert (ms e) p k) → member' (get_or (insert (ms e) p k) i e) ≡ true
    member_here i l = elim (insert_cases e k p (ms e) b i l) [
      | inl new ↦ ap member' new ∙ mk'
      | inr old ↦ ap member' old.2 ∙ kept_member _ (B.members e old.0 he old.1)
    ]

    owned_here : (i : ℕ) → i < length (insert (ms e) p k) → (g (get_or (insert (ms e) p k) i e)).owner ≡ e
    owned_here i l = elim (insert_cases e k p (ms e) b i l) [
      | inl new ↦ ap (λ x. (g x).owner) new ∙ t.owner_at
      | inr old ↦ ap (λ x. (g x).owner) old.2 ∙ t.owner _ (free head member f e _ k he hk mk (next_in head member f ms e B he old.0)) ∙ B.owned e old.0 he old.1
    ]

    kept_place : (m o : ℕ) → IsPlaced ms o m → IsPlaced ms' o m
    kept_place m o q = elim (cases_eq o e) [
      | inl same ↦
          let Q : ℕ → Type 0 = λ o. IsPlaced ms o m in
          let O : ℕ → Type 0 = λ o. IsPlaced ms' o m in
          let R : List ℕ → Type 0 = λ xs. (i : ℕ) × (i < length xs) × (get_or xs i e ≡ m) in
          subst O (sym same) (subst R (sym me) (moved m (subst Q same q)))
      | inr differs ↦
          let R : List ℕ → Type 0 = λ xs. (i : ℕ) × (i < length xs) × (get_or xs i o ≡ m) in
          subst R (sym (mh o differs)) q
    ]
      where
        moved : (m : ℕ) → IsPlaced ms e m → (i : ℕ) × (i < length (insert (ms e) p k)) × (get_or (insert (ms e) p k) i e ≡ m)
        moved m q = elim (cases_lt q.0 p) [
          | inl lt ↦ (q.0, omega (arith, length-insert (ms e) p k b, q.1), get_or-insert_below (ms e) p k e q.0 lt b ∙ q.2)
          | inr ge ↦ (q.0 + 1, omega (arith, length-insert (ms e) p k b, q.1), get_or-insert_above (ms e) p k e q.0 ge b ∙ q.2)
        ]

-- each element after a removal is an old one, at another place than p
remove_from : (e p : ℕ) (xs : List ℕ) → p < length xs → (i : ℕ) → i < length (remove xs p) → (j : ℕ) × (j < length xs) × (j ≢ p) × (get_or (remove xs p) i e ≡ get_or xs j e)
remove_from e p xs b i l =
    elim (cases_lt i p) [
      | inl lt ↦ (i, omega arith, omega arith, get_or-remove_below xs p e i lt b)
      | inr ge ↦ (i + 1, omega (arith, length-remove xs p b), omega arith, get_or-remove_above xs p e i ge b)
    ]

pub book_detach : (head member member' : ℕ → Bool) (f g : ℕ → Link) (ms ms' : ℕ → List ℕ) (e p k : ℕ)
    → IsBook head member f ms → head e ≡ true → p < length (ms e) → get_or (ms e) p e ≡ k
    → member' k ≡ false → ((j : ℕ) → j ≢ k → member' j ≡ member j)
    → Detaches f g e k (get_or (e ∷ ms e) p e) (get_or (ms e) (suc p) e)
    → ms' e ≡ remove (ms e) p → ((h : ℕ) → h ≢ e → ms' h ≡ ms h)
    → IsBook head member' g ms'
book_detach head member member' f g ms ms' e p k B he b is mk' mo t me mh = record {
  apart = λ j hj mj. elim (cases_eq j k) [
    | inl same ↦ true_false (member' k) (ap member' (sym same) ∙ mj) mk'
    | inr differs ↦ B.apart j hj (sym (mo j differs) ∙ mj)
  ];
  counted = λ h hh. elim (cases_eq h e) [
    | inl same ↦
        let E : ℕ → Type 0 = λ h. (g h).count ≡ length (ms' h) in
        let was : (f e).count ≡ length (ms e) = B.counted e he in
        let len : length (remove (ms e) p) + 1 ≡ length (ms e) = length-remove (ms e) p b in
        let now : (g e).count ≡ length (remove (ms e) p) = omega (arith, t.count_at) in
        subst E (sym same) (now ∙ ap length (sym me))
    | inr differs ↦ t.count h (not_k h hh) differs ∙ B.counted h hh ∙ ap length (sym (mh h differs))
  ];
  rings = λ h hh. elim (cases_eq h e) [
    | inl same ↦
        let E : ℕ → Type 0 = λ h. IsRing g h (ms' h) in
        let R : List ℕ → Type 0 = λ xs. IsRing g e xs in
        let T : ℕ → Type 0 = λ k. Detaches f g e k (get_or (e ∷ ms e) p e) (get_or (ms e) (suc p) e) in
        subst E (sym same) (subst R (sym me) (ring_remove f g e p (ms e) b (B.rings e he) (not_head head member f ms e B he) (subst T (sym is) t)))
    | inr differs ↦
        let R : List ℕ → Type 0 = λ xs. IsRing g h xs in
        subst R (sym (mh h differs)) (ring_kept f g h (ms h)
        (λ i _. t.after (get_or (h ∷ ms h) i h) (other h _ hh differs (node_in head member f ms h B hh i)) (cross head member f h e _ _ B.apart hh he differs (node_in head member f ms h B hh i) (node_in head member f ms e B he p)))
        (λ i _. t.before (get_or (ms h) i h) (other h _ hh differs (next_in head member f ms h B hh i)) (cross head member f h e _ _ B.apart hh he differs (next_in head member f ms h B hh i) (next_in head member f ms e B he (suc p))))
        (B.rings h hh))
  ];
  members = λ h i hh l. elim (cases_eq h e) [
    | inl same ↦
        let E : ℕ → Type 0 = λ h. i < length (ms' h) → member' (get_or (ms' h) i h) ≡ true in
        let R : List ℕ → Type 0 = λ xs. i < length xs → member' (get_or xs i e) ≡ true in
        subst E (sym same) (subst R (sym me) (member_here i)) l
    | inr differs ↦
        let R : List ℕ → Type 0 = λ xs. i < length xs → member' (get_or xs i h) ≡ true in
        subst R (sym (mh h differs)) (λ l. mo _ (other h _ hh differs (next_in head member f ms h B hh i)) ∙ B.members h i hh l) l
  ];
  owned = λ h i hh l. elim (cases_eq h e) [
    | inl same ↦
        let E : ℕ → Type 0 = λ h. i < length (ms' h) → (g (get_or (ms' h) i h)).owner ≡ h in
        let R : List ℕ → Type 0 = λ xs. i < length xs → (g (get_or xs i e)).owner ≡ e in
        subst E (sym same) (subst R (sym me) (owned_here i)) l
    | inr differs ↦
        let R : List ℕ → Type 0 = λ xs. i < length xs → (g (get_or xs i h)).owner ≡ h in
        subst R (sym (mh h differs)) (λ l. t.owner _ (other h _ hh differs (next_in head member f ms h B hh i)) ∙ B.owned h i hh l) l
  ];
  owners = λ m mm. ap head (t.owner m (now_other m mm)) ∙ B.owners m (sym (mo m (now_other m mm)) ∙ mm);
  placed = λ m mm.
      let O : ℕ → Type 0 = λ o. IsPlaced ms' o m in
      subst O (sym (t.owner m (now_other m mm))) (kept_place m (f m).owner (now_other m mm) (B.placed m (sym (mo m (now_other m mm)) ∙ mm)));
}
  where
    k_in : InRing member f e k
    k_in = inr (ap member (sym is) ∙ B.members e p he b, ap (λ x. (f x).owner) (sym is) ∙ B.owned e p he b)

    not_k : (h : ℕ) → head h ≡ true → h ≢ k
    not_k h hh = λ s. B.apart h hh (ap member (s ∙ sym is) ∙ B.members e p he b)

    other : (h x : ℕ) → head h ≡ true → h ≢ e → InRing member f h x → x ≢ k
    other h x hh ne q = cross head member f h e x k B.apart hh he ne q k_in

    now_other : (m : ℕ) → member' m ≡ true → m ≢ k
    now_other m mm = λ s. true_false (member' k) (ap member' (sym s) ∙ mm) mk'

    here_other : (j : ℕ) → j < length (ms e) → j ≢ p → get_or (ms e) j e ≢ k
    here_other j l d = λ s. next_apart f e (ms e) (B.rings e he) (not_head head member f ms e B he) j p d (omega arith) (omega arith) (s ∙ sym is)

    member_here : (i : ℕ) → i < length (remove (ms e) p) → member' (get_or (remove (ms e) p) i e) ≡ true
    member_here i l =
        let q = remove_from e p (ms e) b i l in
        ap member' q.3 ∙ mo _ (here_other q.0 q.1 q.2) ∙ B.members e q.0 he q.1

    owned_here : (i : ℕ) → i < length (remove (ms e) p) → (g (get_or (remove (ms e) p) i e)).owner ≡ e
    owned_here i l =
        let q = remove_from e p (ms e) b i l in
        ap (λ x. (g x).owner) q.3 ∙ t.owner _ (here_other q.0 q.1 q.2) ∙ B.owned e q.0 he q.1

    kept_place : (m o : ℕ) → m ≢ k → IsPlaced ms o m → IsPlaced ms' o m
    kept_place m o mk q = elim (cases_eq o e) [
      | inl same ↦
          let Q : ℕ → Type 0 = λ o. IsPlaced ms o m in
          let O : ℕ → Type 0 = λ o. IsPlaced ms' o m in
          let R : List ℕ → Type 0 = λ xs. (i : ℕ) × (i < length xs) × (get_or xs i e ≡ m) in
          subst O (sym same) (subst R (sym me) (moved (subst Q same q)))
      | inr differs ↦
          let R : List ℕ → Type 0 = λ xs. (i : ℕ) × (i < length xs) × (get_or xs i o ≡ m) in
          subst R (sym (mh o differs)) q
    ]
      where
        moved : IsPlaced ms e m → (i : ℕ) × (i < length (remove (ms e) p)) × (get_or (remove (ms e) p) i e ≡ m)
        moved q = elim (cases_lt q.0 p) [
          | inl lt ↦ (q.0, omega (arith, length-remove (ms e) p b, q.1), get_or-remove_below (ms e) p e q.0 lt b ∙ q.2)
          | inr ge ↦
              let ne : q.0 ≢ p = λ s. mk (sym q.2 ∙ ap (λ i. get_or (ms e) i e) s ∙ is) in
              let back : q.0 - 1 + 1 ≡ q.0 = omega arith in
              (q.0 - 1, omega (arith, length-remove (ms e) p b, q.1), get_or-remove_above (ms e) p e (q.0 - 1) (omega arith) b ∙ ap (λ i. get_or (ms e) i e) back ∙ q.2)
        ]

-- the lists are what a walk finds
pub list_of-book : (head member : ℕ → Bool) (f : ℕ → Link) (ms : ℕ → List ℕ) → IsBook head member f ms → (e : ℕ) → head e ≡ true → list_of f e ≡ ms e
list_of-book head member f ms B e he = list_of-ring f e (ms e) (B.rings e he) (B.counted e he)
