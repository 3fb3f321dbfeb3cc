-- A cut wire is left out of every list.
use Rattle.std.proofs.Common.{◌≡◌, ◌≢◌, ℕ, zero, suc, ◌<◌, Bool, true, false, cond, not, List, [], ◌∷◌, length, get_or, refl, sym, ap, ◌∙◌, subst, inl, inr, arith}
use Rattle.std.proofs.lemmas.Bool.{cases_eq}
use Rattle.std.proofs.lemmas.Bool.{ne_eqb, eq-eqb}
use Rattle.std.specs.List.{remove}
use Rattle.slab.specs.Slab.{Slab}
use Rattle.pd_wire.specs.Links.{fan_at, feed_at, is_end, is_wire, IsBook, list_of}
use Rattle.pd_wire.specs.Book.{fan_of, feeds_of, without}
use Rattle.pd_wire.specs.Stored.{IsSound, Removes}
use Rattle.pd_wire.specs.declared.links.Link.{Link}
use Rattle.pd_wire.specs.declared.links.Node.{Node}
use Rattle.pd_wire.proofs.Rings.{next_apart}
use Rattle.pd_wire.proofs.Books.{not_head}
use Rattle.pd_wire.proofs.Sides.{side_remove}
use Rattle.pd_wire.proofs.Seen.{seen, fan_seen, feeds_seen}

-- a removal at the one place of a key leaves the list without the key
without_absent : (k e : ℕ) (xs : List ℕ) → ((i : ℕ) → i < length xs → get_or xs i e ≢ k) → without k xs ≡ xs
without_absent k e [] h = refl
without_absent k e (x ∷ xs) h =
    ap (λ b. cond (not b) (x ∷ without k xs) (without k xs)) (ne_eqb x k (h zero (omega arith))) ∙ ap (λ ys. x ∷ ys) (without_absent k e xs (λ i l. h (suc i) (omega arith)))

remove_without : (k e p : ℕ) (xs : List ℕ) → p < length xs → get_or xs p e ≡ k → ((i : ℕ) → i < length xs → i ≢ p → get_or xs i e ≢ k) → remove xs p ≡ without k xs
remove_without k e p [] l is h = absurd (omega arith)
remove_without k e zero (x ∷ xs) l is h =
    sym (ap (λ b. cond (not b) (x ∷ without k xs) (without k xs)) (eq-eqb x k is) ∙ without_absent k e xs (λ i m. h (suc i) (omega arith) (omega arith)))
remove_without k e (suc p) (x ∷ xs) l is h =
    ap (λ ys. x ∷ ys) (remove_without k e p xs (omega arith) is (λ i m d. h (suc i) (omega arith) (omega arith)))
    ∙ sym (ap (λ b. cond (not b) (x ∷ without k xs) (without k xs)) (ne_eqb x k (h zero (omega arith) (omega arith))))

-- one side's lists after a removal, at heads
cut_list : (head member : ℕ → Bool) (f g : ℕ → Link) (k h p : ℕ) → IsBook head member f (list_of f) → member k ≡ true → head h ≡ true
    → p < length (list_of f (f k).owner) → get_or (list_of f (f k).owner) p (f k).owner ≡ k
    → list_of g (f k).owner ≡ remove (list_of f (f k).owner) p
    → ((h : ℕ) → head h ≡ true → h ≢ (f k).owner → list_of g h ≡ list_of f h)
    → list_of g h ≡ without k (list_of f h)
cut_list head member f g k h p B mk hh l is at others =
    let e = (f k).owner in
    let he = B.owners k mk in
    elim (cases_eq h e) [
      | inl same ↦
          let P : ℕ → Type 0 = λ h. list_of g h ≡ without k (list_of f h) in
          subst P (sym same) (at ∙ remove_without k e p (list_of f e) l is
          (λ i m d q. next_apart f e (list_of f e) (B.rings e he) (not_head head member f (list_of f) e B he) i p d (omega arith) (omega arith) (q ∙ sym is)))
      | inr d ↦ others h hh d ∙ sym (without_absent k h (list_of f h) (λ i m q. d (sym (B.owned h i hh m) ∙ ap (λ x. (f x).owner) q)))
    ]

without_nil : (b : Bool) (k : ℕ) (xs ys : List ℕ) → (b ≡ true → xs ≡ without k ys) → cond b xs [] ≡ without k (cond b ys [])
without_nil true k xs ys h = h refl
without_nil false k xs ys h = refl

pub fans_without : (s t : Slab Node) (key : ℕ) → IsSound s → is_wire s key ≡ true → Removes s t key → (e : ℕ) → fan_of (seen t) e ≡ without key (fan_of (seen s) e)
fans_without s t key S w n e =
    let p = S.fans.placed key w in
    let fans = side_remove (is_end s) (is_wire s) (is_wire t) (fan_at s) (fan_at t) p.0 key S.fans w n.wire n.wires p.1 p.2 n.fans in
    fan_seen t e ∙ ap (λ b. cond b (list_of (fan_at t) e) []) (n.ends e)
    ∙ without_nil (is_end s e) key _ _ (λ h. cut_list (is_end s) (is_wire s) (fan_at s) (fan_at t) key e p.0 S.fans w h p.1 p.2 fans.at fans.others)
    ∙ ap (without key) (sym (fan_seen s e))

pub feeds_without : (s t : Slab Node) (key : ℕ) → IsSound s → is_wire s key ≡ true → Removes s t key → (e : ℕ) → feeds_of (seen t) e ≡ without key (feeds_of (seen s) e)
feeds_without s t key S w n e =
    let p = S.feeds.placed key w in
    let feeds = side_remove (is_end s) (is_wire s) (is_wire t) (feed_at s) (feed_at t) p.0 key S.feeds w n.wire n.wires p.1 p.2 n.feeds in
    feeds_seen t e ∙ ap (λ b. cond b (list_of (feed_at t) e) []) (n.ends e)
    ∙ without_nil (is_end s e) key _ _ (λ h. cut_list (is_end s) (is_wire s) (feed_at s) (feed_at t) key e p.0 S.feeds w h p.1 p.2 feeds.at feeds.others)
    ∙ ap (without key) (sym (feeds_seen s e))
