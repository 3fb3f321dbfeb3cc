-- One ring: what an insertion and a removal leave.
use Rattle.std.proofs.Common.{◌≡◌, ◌≢◌, ℕ, zero, suc, ◌+◌, ◌-◌, subst, ◌<◌, ◌≤◌, List, [], ◌∷◌, length, get_or, refl, sym, ap, ◌∙◌, inl, inr, arith, add-one}
use Rattle.std.proofs.lemmas.Bool.{cases_eq, cases_lt}
use Rattle.std.proofs.lemmas.List.Edits.{length-insert, get_or-insert_below, get_or-insert_at, get_or-insert_above, length-remove, get_or-remove_below, get_or-remove_above}
use Rattle.std.specs.List.{insert, remove}
use Rattle.pd_wire.specs.Links.{Puts, Attaches, Detaches, IsRing, walk, list_of}
use Rattle.pd_wire.specs.declared.links.Link.{Link}

-- a written link leaves what it says the same
pub put_same : (f g : ℕ → Link) (k : ℕ) (l : Link) (part : Link → ℕ) → Puts f g k l → part l ≡ part (f k) → (j : ℕ) → part (g j) ≡ part (f j)
put_same f g k l part p e j =
    elim (cases_eq j k) [
      | inl same ↦ ap (λ i. part (g i)) same ∙ ap part p.at ∙ e ∙ ap (λ i. part (f i)) (sym same)
      | inr differs ↦ ap part (p.others j differs)
    ]

-- the four writes that put k before b in e's list, each of a link that was read
pub puts_attach : (f₀ f₁ f₂ f₃ f₄ : ℕ → Link) (l₁ l₂ l₃ : Link) (e k b : ℕ) → e ≢ k → b ≢ k → (f₀ b).before ≢ k
    → l₁ ≡ f₀ b → l₂ ≡ f₁ l₁.before → l₃ ≡ f₂ e
    → Puts f₀ f₁ b (record l₁ { before = k })
    → Puts f₁ f₂ l₁.before (record l₂ { after = k })
    → Puts f₂ f₃ e (record l₃ { count = l₃.count + 1 })
    → Puts f₃ f₄ k (record { owner = e; before = l₁.before; after = b; count = 0 })
    → Attaches f₀ f₄ e k (f₀ b).before b
puts_attach f₀ f₁ f₂ f₃ f₄ l₁ l₂ l₃ e k b ek bk ak e₁ e₂ e₃ p₁ p₂ p₃ p₄ =
    let o = λ (l : Link). l.owner in
    let n = λ (l : Link). l.after in
    let h = λ (l : Link). l.before in
    let c = λ (l : Link). l.count in
    let a = l₁.before in
    let ak' : a ≢ k = λ q. ak (sym (ap h e₁) ∙ q) in
    let P : ℕ → Type 0 = λ a. Attaches f₀ f₄ e k a b in
    subst P (ap h e₁) (record {
      owner_at = ap o p₄.at;
      owner = λ j jk. ap o (p₄.others j jk) ∙ put_same f₂ f₃ e _ o p₃ (ap o e₃) j ∙ put_same f₁ f₂ a _ o p₂ (ap o e₂) j ∙ put_same f₀ f₁ b _ o p₁ (ap o e₁) j;
      after_at = ap n p₄.at;
      after_before = ap n (p₄.others a ak') ∙ put_same f₂ f₃ e _ n p₃ (ap n e₃) a ∙ ap n p₂.at;
      after = λ j jk ja. ap n (p₄.others j jk) ∙ put_same f₂ f₃ e _ n p₃ (ap n e₃) j ∙ ap n (p₂.others j ja) ∙ put_same f₀ f₁ b _ n p₁ (ap n e₁) j;
      before_at = ap h p₄.at;
      before_after = ap h (p₄.others b bk) ∙ put_same f₂ f₃ e _ h p₃ (ap h e₃) b ∙ put_same f₁ f₂ a _ h p₂ (ap h e₂) b ∙ ap h p₁.at;
      before = λ j jk jb. ap h (p₄.others j jk) ∙ put_same f₂ f₃ e _ h p₃ (ap h e₃) j ∙ put_same f₁ f₂ a _ h p₂ (ap h e₂) j ∙ ap h (p₁.others j jb);
      count_at = ap c (p₄.others e ek) ∙ ap c p₃.at ∙ ap (λ m. m + 1) (ap c e₃ ∙ put_same f₁ f₂ a _ c p₂ (ap c e₂) e ∙ put_same f₀ f₁ b _ c p₁ (ap c e₁) e);
      count = λ j jk je. ap c (p₄.others j jk) ∙ ap c (p₃.others j je) ∙ put_same f₁ f₂ a _ c p₂ (ap c e₂) j ∙ put_same f₀ f₁ b _ c p₁ (ap c e₁) j;
    })

-- the three writes that take out what stands between a and b in e's list
pub puts_detach : (f₀ f₁ f₂ f₃ : ℕ → Link) (l₁ l₂ l₃ : Link) (e k a b : ℕ) → l₁ ≡ f₀ a → l₂ ≡ f₁ b → l₃ ≡ f₂ e
    → Puts f₀ f₁ a (record l₁ { after = b })
    → Puts f₁ f₂ b (record l₂ { before = a })
    → Puts f₂ f₃ e (record l₃ { count = l₃.count - 1 })
    → 0 < (f₀ e).count
    → Detaches f₀ f₃ e k a b
puts_detach f₀ f₁ f₂ f₃ l₁ l₂ l₃ e k a b e₁ e₂ e₃ p₁ p₂ p₃ some =
    let o = λ (l : Link). l.owner in
    let n = λ (l : Link). l.after in
    let h = λ (l : Link). l.before in
    let c = λ (l : Link). l.count in
    let was : l₃.count ≡ (f₀ e).count = ap c e₃ ∙ put_same f₁ f₂ b _ c p₂ (ap c e₂) e ∙ put_same f₀ f₁ a _ c p₁ (ap c e₁) e in
    let now : (f₃ e).count ≡ l₃.count - 1 = ap c p₃.at in
    record {
      owner = λ j jk. put_same f₂ f₃ e _ o p₃ (ap o e₃) j ∙ put_same f₁ f₂ b _ o p₂ (ap o e₂) j ∙ put_same f₀ f₁ a _ o p₁ (ap o e₁) j;
      after_before = put_same f₂ f₃ e _ n p₃ (ap n e₃) a ∙ put_same f₁ f₂ b _ n p₂ (ap n e₂) a ∙ ap n p₁.at;
      after = λ j jk ja. put_same f₂ f₃ e _ n p₃ (ap n e₃) j ∙ put_same f₁ f₂ b _ n p₂ (ap n e₂) j ∙ ap n (p₁.others j ja);
      before_after = put_same f₂ f₃ e _ h p₃ (ap h e₃) b ∙ ap h p₂.at;
      before = λ j jk jb. put_same f₂ f₃ e _ h p₃ (ap h e₃) j ∙ ap h (p₂.others j jb) ∙ put_same f₀ f₁ a _ h p₁ (ap h e₁) j;
      count_at = omega arith;
      count = λ j jk je. ap c (p₃.others j je) ∙ put_same f₁ f₂ b _ c p₂ (ap c e₂) j ∙ put_same f₀ f₁ a _ c p₁ (ap c e₁) j;
    }

-- no node stands twice in a ring
pub ring_below : (f : ℕ → Link) (e : ℕ) (xs : List ℕ) → IsRing f e xs → ((i : ℕ) → i < length xs → get_or xs i e ≢ e)
    → (i j : ℕ) → i < j → j ≤ length xs → get_or (e ∷ xs) i e ≢ get_or (e ∷ xs) j e
ring_below f e xs r ne zero zero l b = absurd (omega arith)
ring_below f e xs r ne zero (suc j) l b = λ q. ne j (omega arith) (sym q)
ring_below f e xs r ne (suc i) zero l b = absurd (omega arith)
ring_below f e xs r ne (suc i) (suc j) l b =
    λ q. ring_below f e xs r ne i j (omega arith) (omega arith) (sym (r.before i (omega arith)) ∙ ap (λ x. (f x).before) q ∙ r.before j (omega arith))

pub ring_apart : (f : ℕ → Link) (e : ℕ) (xs : List ℕ) → IsRing f e xs → ((i : ℕ) → i < length xs → get_or xs i e ≢ e)
    → (i j : ℕ) → i ≢ j → i ≤ length xs → j ≤ length xs → get_or (e ∷ xs) i e ≢ get_or (e ∷ xs) j e
ring_apart f e xs r ne i j d bi bj =
    elim (cases_lt i j) [
      | inl lt ↦ ring_below f e xs r ne i j lt bj
      | inr ge ↦ λ q. ring_below f e xs r ne j i (omega arith) bi (sym q)
    ]

-- nor as a successor
pub next_apart : (f : ℕ → Link) (e : ℕ) (xs : List ℕ) → IsRing f e xs → ((i : ℕ) → i < length xs → get_or xs i e ≢ e)
    → (i j : ℕ) → i ≢ j → i ≤ length xs → j ≤ length xs → get_or xs i e ≢ get_or xs j e
next_apart f e xs r ne i j d bi bj q =
    ring_apart f e xs r ne i j d bi bj (sym (r.before i bi) ∙ ap (λ x. (f x).before) q ∙ r.before j bj)

pub ring_kept : (f g : ℕ → Link) (e : ℕ) (xs : List ℕ)
    → ((i : ℕ) → i ≤ length xs → (g (get_or (e ∷ xs) i e)).after ≡ (f (get_or (e ∷ xs) i e)).after)
    → ((i : ℕ) → i ≤ length xs → (g (get_or xs i e)).before ≡ (f (get_or xs i e)).before)
    → IsRing f e xs → IsRing g e xs
ring_kept f g e xs a b r = record { after = λ i l. a i l ∙ r.after i l; before = λ i l. b i l ∙ r.before i l }

-- the places of the list after an insertion
above_insert : (e k p : ℕ) (xs : List ℕ) → p ≤ length xs → (i : ℕ) → p ≤ i → get_or (insert xs p k) (suc i) e ≡ get_or xs i e
above_insert e k p xs b i l = ap (λ m. get_or (insert xs p k) m e) (sym (add-one i)) ∙ get_or-insert_above xs p k e i l b

low_insert : (e k p : ℕ) (xs : List ℕ) → p ≤ length xs → (i : ℕ) → i ≤ p → get_or (e ∷ insert xs p k) i e ≡ get_or (e ∷ xs) i e
low_insert e k p xs b zero l = refl
low_insert e k p xs b (suc i) l = get_or-insert_below xs p k e i (omega arith) b

pub ring_insert : (f g : ℕ → Link) (e k p : ℕ) (xs : List ℕ) → p ≤ length xs → IsRing f e xs → ((i : ℕ) → i < length xs → get_or xs i e ≢ e)
    → e ≢ k → ((i : ℕ) → get_or xs i e ≢ k) → Attaches f g e k (get_or (e ∷ xs) p e) (get_or xs p e) → IsRing g e (insert xs p k)
ring_insert f g e k p xs b r ne ek nk t = record {
  after = λ i l. elim (cases_lt i p) [
    | inl lt ↦ after_low i lt
    | inr ge ↦ elim (cases_eq i p) [
      | inl same ↦ ap (λ m. (g (get_or (e ∷ (insert xs p k)) m e)).after) same ∙ after_here ∙ ap (λ m. get_or (insert xs p k) m e) (sym same)
      | inr differs ↦ after_high i (omega arith) l
    ]
  ];
  before = λ i l. elim (cases_lt i p) [
    | inl lt ↦ before_low i lt
    | inr ge ↦ elim (cases_eq i p) [
      | inl same ↦ ap (λ m. (g (get_or (insert xs p k) m e)).before) same ∙ before_here ∙ ap (λ m. get_or (e ∷ (insert xs p k)) m e) (sym same)
      | inr differs ↦ before_high i (omega arith) l
    ]
  ];
}
  where
    ck : (i : ℕ) → get_or (e ∷ xs) i e ≢ k
    ck zero = ek
    ck (suc i) = nk i

    at_p : get_or (insert xs p k) p e ≡ k
    at_p = get_or-insert_at xs p k e b

    len : length (insert xs p k) ≡ length xs + 1
    len = length-insert xs p k b

    low : (i : ℕ) → i ≤ p → get_or (e ∷ (insert xs p k)) i e ≡ get_or (e ∷ xs) i e
    low i l = low_insert e k p xs b i l

    below : (i : ℕ) → i < p → get_or (insert xs p k) i e ≡ get_or xs i e
    below i l = get_or-insert_below xs p k e i l b

    above : (i : ℕ) → p ≤ i → get_or (insert xs p k) (suc i) e ≡ get_or xs i e
    above i l = above_insert e k p xs b i l

    after_low : (i : ℕ) → i < p → (g (get_or (e ∷ (insert xs p k)) i e)).after ≡ get_or (insert xs p k) i e
    after_low i lt =
        ap (λ x. (g x).after) (low i (omega arith))
        ∙ t.after (get_or (e ∷ xs) i e) (ck i) (ring_apart f e xs r ne i p (omega arith) (omega arith) b)
        ∙ r.after i (omega arith) ∙ sym (below i lt)

    after_here : (g (get_or (e ∷ (insert xs p k)) p e)).after ≡ get_or (insert xs p k) p e
    after_here = ap (λ x. (g x).after) (low p (omega arith)) ∙ t.after_before ∙ sym at_p

    after_high : (i : ℕ) → p < i → i ≤ length (insert xs p k) → (g (get_or (e ∷ (insert xs p k)) i e)).after ≡ get_or (insert xs p k) i e
    after_high zero lt l = absurd (omega arith)
    after_high (suc zero) lt l =
        let same : p ≡ zero = omega arith in
        ap (λ m. (g (get_or (insert xs p k) m e)).after) (sym same) ∙ ap (λ x. (g x).after) at_p ∙ t.after_at ∙ sym (above p (omega arith)) ∙ ap (λ m. get_or (insert xs p k) (suc m) e) same
    after_high (suc (suc m)) lt l =
        elim (cases_eq (suc m) p) [
          | inl same ↦
              ap (λ x. (g (get_or (insert xs p k) x e)).after) same ∙ ap (λ x. (g x).after) at_p ∙ t.after_at ∙ sym (above p (omega arith)) ∙ ap (λ x. get_or (insert xs p k) (suc x) e) (sym same)
          | inr differs ↦
              ap (λ x. (g x).after) (above m (omega arith))
              ∙ t.after (get_or xs m e) (nk m) (ring_apart f e xs r ne (suc m) p differs (omega (arith, len)) b)
              ∙ r.after (suc m) (omega (arith, len)) ∙ sym (above (suc m) (omega arith))
        ]

    before_low : (i : ℕ) → i < p → (g (get_or (insert xs p k) i e)).before ≡ get_or (e ∷ (insert xs p k)) i e
    before_low i lt =
        ap (λ x. (g x).before) (below i lt)
        ∙ t.before (get_or xs i e) (nk i) (next_apart f e xs r ne i p (omega arith) (omega arith) b)
        ∙ r.before i (omega arith) ∙ sym (low i (omega arith))

    before_here : (g (get_or (insert xs p k) p e)).before ≡ get_or (e ∷ (insert xs p k)) p e
    before_here = ap (λ x. (g x).before) at_p ∙ t.before_at ∙ sym (low p (omega arith))

    before_high : (i : ℕ) → p < i → i ≤ length (insert xs p k) → (g (get_or (insert xs p k) i e)).before ≡ get_or (e ∷ (insert xs p k)) i e
    before_high zero lt l = absurd (omega arith)
    before_high (suc j) lt l =
        elim (cases_eq j p) [
          | inl same ↦
              ap (λ m. (g (get_or (insert xs p k) (suc m) e)).before) same ∙ ap (λ x. (g x).before) (above p (omega arith)) ∙ t.before_after
              ∙ sym at_p ∙ ap (λ m. get_or (insert xs p k) m e) (sym same)
          | inr differs ↦
              ap (λ x. (g x).before) (above j (omega arith))
              ∙ t.before (get_or xs j e) (nk j) (next_apart f e xs r ne j p differs (omega (arith, len)) b)
              ∙ r.before j (omega (arith, len)) ∙ sym (high j (omega arith))
        ]
      where
        high : (j : ℕ) → p < j → get_or (insert xs p k) j e ≡ get_or (e ∷ xs) j e
        high zero l = absurd (omega arith)
        high (suc m) l = above m (omega arith)

-- the places of the list after a removal
pub ring_remove : (f g : ℕ → Link) (e p : ℕ) (xs : List ℕ) → p < length xs → IsRing f e xs → ((i : ℕ) → i < length xs → get_or xs i e ≢ e)
    → Detaches f g e (get_or xs p e) (get_or (e ∷ xs) p e) (get_or xs (suc p) e) → IsRing g e (remove xs p)
ring_remove f g e p xs b r ne t = record {
  after = λ i l. elim (cases_lt i p) [
    | inl lt ↦ after_low i lt
    | inr ge ↦ after_high i ge l
  ];
  before = λ i l. elim (cases_lt i p) [
    | inl lt ↦ before_low i lt
    | inr ge ↦ before_high i ge l
  ];
}
  where
    len : length (remove xs p) + 1 ≡ length xs
    len = length-remove xs p b

    below : (i : ℕ) → i < p → get_or (remove xs p) i e ≡ get_or xs i e
    below i l = get_or-remove_below xs p e i l b

    above : (i : ℕ) → p ≤ i → get_or (remove xs p) i e ≡ get_or xs (suc i) e
    above i l = get_or-remove_above xs p e i l b ∙ ap (λ m. get_or xs m e) (add-one i)

    low : (i : ℕ) → i ≤ p → get_or (e ∷ (remove xs p)) i e ≡ get_or (e ∷ xs) i e
    low zero l = refl
    low (suc i) l = below i (omega arith)

    after_low : (i : ℕ) → i < p → (g (get_or (e ∷ (remove xs p)) i e)).after ≡ get_or (remove xs p) i e
    after_low i lt =
        ap (λ x. (g x).after) (low i (omega arith))
        ∙ t.after (get_or (e ∷ xs) i e) (ring_apart f e xs r ne i (suc p) (omega arith) (omega arith) (omega arith)) (ring_apart f e xs r ne i p (omega arith) (omega arith) (omega arith))
        ∙ r.after i (omega arith) ∙ sym (below i lt)

    after_high : (i : ℕ) → p ≤ i → i ≤ length (remove xs p) → (g (get_or (e ∷ (remove xs p)) i e)).after ≡ get_or (remove xs p) i e
    after_high i ge l =
        elim (cases_eq i p) [
          | inl same ↦
              ap (λ m. (g (get_or (e ∷ (remove xs p)) m e)).after) same ∙ ap (λ x. (g x).after) (low p (omega arith)) ∙ t.after_before
              ∙ sym (above p (omega arith)) ∙ ap (λ m. get_or (remove xs p) m e) (sym same)
          | inr differs ↦ after_past i (omega arith) l
        ]
      where
        after_past : (i : ℕ) → p < i → i ≤ length (remove xs p) → (g (get_or (e ∷ (remove xs p)) i e)).after ≡ get_or (remove xs p) i e
        after_past zero lt l = absurd (omega arith)
        after_past (suc j) lt l =
            ap (λ x. (g x).after) (above j (omega arith))
            ∙ t.after (get_or xs (suc j) e) (ring_apart f e xs r ne (suc (suc j)) (suc p) (omega arith) (omega (arith, len)) (omega arith)) (ring_apart f e xs r ne (suc (suc j)) p (omega arith) (omega (arith, len)) (omega arith))
            ∙ r.after (suc (suc j)) (omega (arith, len)) ∙ sym (above (suc j) (omega arith))

    before_low : (i : ℕ) → i < p → (g (get_or (remove xs p) i e)).before ≡ get_or (e ∷ (remove xs p)) i e
    before_low i lt =
        ap (λ x. (g x).before) (below i lt)
        ∙ t.before (get_or xs i e) (next_apart f e xs r ne i p (omega arith) (omega arith) (omega arith)) (next_apart f e xs r ne i (suc p) (omega arith) (omega arith) (omega arith))
        ∙ r.before i (omega arith) ∙ sym (low i (omega arith))

    before_high : (i : ℕ) → p ≤ i → i ≤ length (remove xs p) → (g (get_or (remove xs p) i e)).before ≡ get_or (e ∷ (remove xs p)) i e
    before_high i ge l =
        elim (cases_eq i p) [
          | inl same ↦
              ap (λ m. (g (get_or (remove xs p) m e)).before) same ∙ ap (λ x. (g x).before) (above p (omega arith)) ∙ t.before_after
              ∙ sym (low p (omega arith)) ∙ ap (λ m. get_or (e ∷ (remove xs p)) m e) (sym same)
          | inr differs ↦ before_past i (omega arith) l
        ]
      where
        before_past : (i : ℕ) → p < i → i ≤ length (remove xs p) → (g (get_or (remove xs p) i e)).before ≡ get_or (e ∷ (remove xs p)) i e
        before_past zero lt l = absurd (omega arith)
        before_past (suc j) lt l =
            ap (λ x. (g x).before) (above (suc j) (omega arith))
            ∙ t.before (get_or xs (suc (suc j)) e) (next_apart f e xs r ne (suc (suc j)) p (omega arith) (omega (arith, len)) (omega arith)) (next_apart f e xs r ne (suc (suc j)) (suc p) (omega arith) (omega (arith, len)) (omega arith))
            ∙ r.before (suc (suc j)) (omega (arith, len)) ∙ sym (above j (omega arith))

-- the walk along the links gives the list
walk_along : (f : ℕ → Link) (e k : ℕ) (xs : List ℕ) → k ≡ get_or xs 0 e → ((i : ℕ) → i < length xs → (f (get_or xs i e)).after ≡ get_or xs (suc i) e) → walk f (length xs) k ≡ xs
walk_along f e k [] h a = refl
walk_along f e k (x ∷ xs) h a =
    ap (λ y. y ∷ walk f (length xs) (f k).after) h
    ∙ ap (λ ys. x ∷ ys) (walk_along f e (f k).after xs (ap (λ y. (f y).after) h ∙ a zero (omega arith)) (λ i l. a (suc i) (omega arith)))

pub list_of-ring : (f : ℕ → Link) (e : ℕ) (xs : List ℕ) → IsRing f e xs → (f e).count ≡ length xs → list_of f e ≡ xs
list_of-ring f e xs r c =
    ap (λ n. walk f n (f e).after) c ∙ walk_along f e (f e).after xs (r.after zero (omega arith)) (λ i l. r.after (suc i) (omega arith))
