-- One side of a book of wires, with the lists that a walk finds: what each step leaves.
use Rattle.std.proofs.Common.{◌≡◌, ◌≢◌, ℕ, zero, suc, ◌<◌, ◌≤◌, Bool, true, false, cond, eqb, List, [], ◌∷◌, length, get_or, refl, sym, ap, ◌∙◌, subst, inl, inr, arith}
use Rattle.std.proofs.lemmas.Bool.{cases_eq, eq-eqb, ne_eqb}
use Rattle.std.specs.List.{insert, remove}
use Rattle.pd_wire.specs.Links.{Attaches, Detaches, IsRing, IsPlaced, IsBook, list_of}
use Rattle.pd_wire.specs.Stored.{lone}
use Rattle.pd_wire.specs.declared.links.Link.{Link}
use Rattle.pd_wire.proofs.Rings.{ring_kept}
use Rattle.pd_wire.proofs.Books.{InRing, next_in, node_in, cross, free, true_false, book_attach, book_detach, list_of-book}
use Rattle.pd_wire.proofs.Nodes.{before_of, after_of}

-- the lists with another at e
pub put_list : (ℕ → List ℕ) → ℕ → List ℕ → ℕ → List ℕ
put_list ms e xs h = cond (eqb h e) xs (ms h)

pub put_list-at : (ms : ℕ → List ℕ) (e : ℕ) (xs : List ℕ) → put_list ms e xs e ≡ xs
unfolding put_list
put_list-at ms e xs = ap (λ b. cond b xs (ms e)) (eq-eqb e e refl)

pub put_list-other : (ms : ℕ → List ℕ) (e : ℕ) (xs : List ℕ) (h : ℕ) → h ≢ e → put_list ms e xs h ≡ ms h
unfolding put_list
put_list-other ms e xs h d = ap (λ b. cond b xs (ms h)) (ne_eqb h e d)

pub book_lists : (head member : ℕ → Bool) (f : ℕ → Link) (ms : ℕ → List ℕ) → IsBook head member f ms → IsBook head member f (list_of f)
book_lists head member f ms B = record {
  apart = B.apart;
  counted = λ e he. B.counted e he ∙ ap length (sym (same e he));
  rings = λ e he. let R : List ℕ → Type 0 = λ xs. IsRing f e xs in subst R (sym (same e he)) (B.rings e he);
  members = λ e i he. let R : List ℕ → Type 0 = λ xs. i < length xs → member (get_or xs i e) ≡ true in subst R (sym (same e he)) (B.members e i he);
  owned = λ e i he. let R : List ℕ → Type 0 = λ xs. i < length xs → (f (get_or xs i e)).owner ≡ e in subst R (sym (same e he)) (B.owned e i he);
  owners = B.owners;
  placed = λ k mk. let R : List ℕ → Type 0 = λ xs. (i : ℕ) × (i < length xs) × (get_or xs i (f k).owner ≡ k) in subst R (sym (same (f k).owner (B.owners k mk))) (B.placed k mk);
}
  where
    same : (e : ℕ) → head e ≡ true → list_of f e ≡ ms e
    same e he = list_of-book head member f ms B e he

-- what a step leaves of one side: e's list is xs, and each other list stays
pub record Side (head head' member' : ℕ → Bool) (f g : ℕ → Link) (e : ℕ) (xs : List ℕ) : Type 0 where
  pub book : IsBook head' member' g (list_of g)
  pub at : list_of g e ≡ xs
  pub others : (h : ℕ) → head h ≡ true → h ≢ e → list_of g h ≡ list_of f h

pub side_insert : (head member member' : ℕ → Bool) (f g : ℕ → Link) (e p k b : ℕ)
    → IsBook head member f (list_of f) → head e ≡ true → head k ≡ false → member k ≡ false
    → member' k ≡ true → ((j : ℕ) → j ≢ k → member' j ≡ member j)
    → p ≤ length (list_of f e) → b ≡ get_or (list_of f e) p e → Attaches f g e k (f b).before b
    → Side head head member' f g e (insert (list_of f e) p k)
side_insert head member member' f g e p k b B he hk mk mk' mo l is t =
    let ms' = put_list (list_of f) e (insert (list_of f e) p k) in
    let T : ℕ → Type 0 = λ a. Attaches f g e k a (get_or (list_of f e) p e) in
    let U : ℕ → Type 0 = λ b. Attaches f g e k (f b).before b in
    let B' : IsBook head member' g ms' =
    book_attach head member member' f g (list_of f) ms' e p k B he hk mk mk' mo l (subst T ((B.rings e he).before p l) (subst U is t)) (put_list-at _ _ _) (λ h d. put_list-other _ _ _ h d) in
    record {
      book = book_lists head member' g ms' B';
      at = list_of-book head member' g ms' B' e he ∙ put_list-at _ _ _;
      others = λ h hh d. list_of-book head member' g ms' B' h hh ∙ put_list-other _ _ _ h d;
    }

pub side_remove : (head member member' : ℕ → Bool) (f g : ℕ → Link) (p k : ℕ)
    → IsBook head member f (list_of f) → member k ≡ true
    → member' k ≡ false → ((j : ℕ) → j ≢ k → member' j ≡ member j)
    → p < length (list_of f (f k).owner) → get_or (list_of f (f k).owner) p (f k).owner ≡ k
    → Detaches f g (f k).owner k (f k).before (f k).after
    → Side head head member' f g (f k).owner (remove (list_of f (f k).owner) p)
side_remove head member member' f g p k B mk mk' mo l is t =
    let e = (f k).owner in
    let he = B.owners k mk in
    let ms' = put_list (list_of f) e (remove (list_of f e) p) in
    let T : ℕ → Type 0 = λ a. Detaches f g e k a (f k).after in
    let U : ℕ → Type 0 = λ b. Detaches f g e k (get_or (e ∷ list_of f e) p e) b in
    let B' : IsBook head member' g ms' =
    book_detach head member member' f g (list_of f) ms' e p k B he l is mk' mo
    (subst U (after_of head member f (list_of f) k p B he l is) (subst T (before_of head member f (list_of f) k p B he l is) t))
    (put_list-at _ _ _) (λ h d. put_list-other _ _ _ h d) in
    record {
      book = book_lists head member' g ms' B';
      at = list_of-book head member' g ms' B' e he ∙ put_list-at _ _ _;
      others = λ h hh d. list_of-book head member' g ms' B' h hh ∙ put_list-other _ _ _ h d;
    }

lone_ring : (g : ℕ → Link) (k : ℕ) → g k ≡ lone k → IsRing g k []
lone_ring g k q = record { after = after; before = before }
  where
    after : (i : ℕ) → i ≤ 0 → (g (get_or (k ∷ []) i k)).after ≡ k
    after zero l = ap (λ x. x.after) q
    after (suc i) l = absurd (omega arith)

    before : (i : ℕ) → i ≤ 0 → (g k).before ≡ get_or (k ∷ []) i k
    before zero l = ap (λ x. x.before) q
    before (suc i) l = absurd (omega arith)

pub side_make : (head head' member : ℕ → Bool) (f g : ℕ → Link) (k : ℕ)
    → IsBook head member f (list_of f) → head k ≡ false → member k ≡ false
    → ((j : ℕ) → j ≢ k → head' j ≡ head j)
    → g k ≡ lone k → ((j : ℕ) → j ≢ k → g j ≡ f j)
    → head' k ≡ true
    → Side head head' member f g k []
side_make head head' member f g k B hk mk ho gk go hk' = record {
  book = book_lists head' member g ms' B';
  at = list_of-book head' member g ms' B' k hk' ∙ put_list-at _ _ _;
  others = λ h hh d. list_of-book head' member g ms' B' h (ho h d ∙ hh) ∙ put_list-other _ _ _ h d;
}
  where
    ms' : ℕ → List ℕ
    ms' = put_list (list_of f) k []

    was : (h : ℕ) → head' h ≡ true → h ≢ k → head h ≡ true
    was h hh d = sym (ho h d) ∙ hh

    out : (h x : ℕ) → head h ≡ true → InRing member f h x → x ≢ k
    out h x hh q = free head member f h x k hh hk mk q

    mem : (m : ℕ) → member m ≡ true → m ≢ k
    mem m mm = λ s. true_false (member k) (ap member (sym s) ∙ mm) mk

    no_head : (h : ℕ) → head h ≡ true → h ≢ k
    no_head h hh = λ s. true_false (head k) (ap head (sym s) ∙ hh) hk

    B' : IsBook head' member g (put_list (list_of f) k [])
    B' = record {
      apart = λ j hj mj. B.apart j (was j hj (mem j mj)) mj;
      counted = λ h hh. elim (cases_eq h k) [
        | inl same ↦ let E : ℕ → Type 0 = λ h. (g h).count ≡ length (put_list (list_of f) k [] h) in subst E (sym same) (ap (λ x. x.count) gk ∙ ap length (sym (put_list-at (list_of f) k [])))
        | inr d ↦ ap (λ x. x.count) (go h d) ∙ B.counted h (was h hh d) ∙ ap length (sym (put_list-other (list_of f) k [] h d))
      ];
      rings = λ h hh. elim (cases_eq h k) [
        | inl same ↦
            let E : ℕ → Type 0 = λ h. IsRing g h (put_list (list_of f) k [] h) in
            let R : List ℕ → Type 0 = λ xs. IsRing g k xs in
            subst E (sym same) (subst R (sym (put_list-at (list_of f) k [])) (lone_ring g k gk))
        | inr d ↦
            let R : List ℕ → Type 0 = λ xs. IsRing g h xs in
            let wh = was h hh d in
            subst R (sym (put_list-other (list_of f) k [] h d)) (ring_kept f g h (list_of f h)
            (λ i _. ap (λ x. x.after) (go _ (out h _ wh (node_in head member f (list_of f) h B wh i))))
            (λ i _. ap (λ x. x.before) (go _ (out h _ wh (next_in head member f (list_of f) h B wh i))))
            (B.rings h wh))
      ];
      members = λ h i hh. elim (cases_eq h k) [
        | inl same ↦
            let E : ℕ → Type 0 = λ h. i < length (put_list (list_of f) k [] h) → member (get_or (put_list (list_of f) k [] h) i h) ≡ true in
            let R : List ℕ → Type 0 = λ xs. i < length xs → member (get_or xs i k) ≡ true in
            subst E (sym same) (subst R (sym (put_list-at (list_of f) k [])) (λ l. absurd (omega arith)))
        | inr d ↦
            let R : List ℕ → Type 0 = λ xs. i < length xs → member (get_or xs i h) ≡ true in
            subst R (sym (put_list-other (list_of f) k [] h d)) (B.members h i (was h hh d))
      ];
      owned = λ h i hh. elim (cases_eq h k) [
        | inl same ↦
            let E : ℕ → Type 0 = λ h. i < length (put_list (list_of f) k [] h) → (g (get_or (put_list (list_of f) k [] h) i h)).owner ≡ h in
            let R : List ℕ → Type 0 = λ xs. i < length xs → (g (get_or xs i k)).owner ≡ k in
            subst E (sym same) (subst R (sym (put_list-at (list_of f) k [])) (λ l. absurd (omega arith)))
        | inr d ↦
            let R : List ℕ → Type 0 = λ xs. i < length xs → (g (get_or xs i h)).owner ≡ h in
            let wh = was h hh d in
            subst R (sym (put_list-other (list_of f) k [] h d)) (λ l. ap (λ x. x.owner) (go _ (mem _ (B.members h i wh l))) ∙ B.owned h i wh l)
      ];
      owners = λ m mm. let o : (g m).owner ≡ (f m).owner = ap (λ x. x.owner) (go m (mem m mm)) in
          ap head' o ∙ ho (f m).owner (no_head (f m).owner (B.owners m mm)) ∙ B.owners m mm;
      placed = λ m mm.
          let O : ℕ → Type 0 = λ o. IsPlaced (put_list (list_of f) k []) o m in
          let e = (f m).owner in
          let R : List ℕ → Type 0 = λ xs. (i : ℕ) × (i < length xs) × (get_or xs i e ≡ m) in
          subst O (sym (ap (λ x. x.owner) (go m (mem m mm)))) (subst R (sym (put_list-other (list_of f) k [] e (no_head e (B.owners m mm)))) (B.placed m mm));
    }

-- a head with no member is dropped
pub record Dropped (head head' member : ℕ → Bool) (f g : ℕ → Link) (e : ℕ) : Type 0 where
  pub book : IsBook head' member g (list_of g)
  pub others : (h : ℕ) → head h ≡ true → h ≢ e → list_of g h ≡ list_of f h

pub side_drop : (head head' member : ℕ → Bool) (f g : ℕ → Link) (e : ℕ)
    → IsBook head member f (list_of f) → head e ≡ true → list_of f e ≡ []
    → head' e ≡ false → ((j : ℕ) → j ≢ e → head' j ≡ head j)
    → ((j : ℕ) → j ≢ e → g j ≡ f j)
    → Dropped head head' member f g e
side_drop head head' member f g e B he none he' ho go = record {
  book = book_lists head' member g (list_of f) B';
  others = λ h hh d. list_of-book head' member g (list_of f) B' h (ho h d ∙ hh);
}
  where
    apart_e : (h : ℕ) → head' h ≡ true → h ≢ e
    apart_e h hh = λ s. true_false (head' e) (ap head' (sym s) ∙ hh) he'

    was : (h : ℕ) → head' h ≡ true → head h ≡ true
    was h hh = sym (ho h (apart_e h hh)) ∙ hh

    out : (h x : ℕ) → head' h ≡ true → InRing member f h x → x ≢ e
    out h x hh q = cross head member f h e x e B.apart (was h hh) he (apart_e h hh) q (inl refl)

    mem : (m : ℕ) → member m ≡ true → m ≢ e
    mem m mm = λ s. B.apart e he (ap member (sym s) ∙ mm)

    owner_e : (m : ℕ) → member m ≡ true → (f m).owner ≢ e
    owner_e m mm = λ s.
        let q = B.placed m mm in
        let n : length (list_of f (f m).owner) ≡ 0 = ap (λ o. length (list_of f o)) s ∙ ap length none in
        omega (arith, q.1)

    B' : IsBook head' member g (list_of f)
    B' = record {
      apart = λ j hj mj. B.apart j (was j hj) mj;
      counted = λ h hh. ap (λ x. x.count) (go h (apart_e h hh)) ∙ B.counted h (was h hh);
      rings = λ h hh. ring_kept f g h (list_of f h)
          (λ i _. ap (λ x. x.after) (go _ (out h _ hh (node_in head member f (list_of f) h B (was h hh) i))))
          (λ i _. ap (λ x. x.before) (go _ (out h _ hh (next_in head member f (list_of f) h B (was h hh) i))))
          (B.rings h (was h hh));
      members = λ h i hh. B.members h i (was h hh);
      owned = λ h i hh l. ap (λ x. x.owner) (go _ (mem _ (B.members h i (was h hh) l))) ∙ B.owned h i (was h hh) l;
      owners = λ m mm. ap head' (ap (λ x. x.owner) (go m (mem m mm))) ∙ ho (f m).owner (owner_e m mm) ∙ B.owners m mm;
      placed = λ m mm.
          let O : ℕ → Type 0 = λ o. IsPlaced (list_of f) o m in
          subst O (sym (ap (λ x. x.owner) (go m (mem m mm)))) (B.placed m mm);
    }
