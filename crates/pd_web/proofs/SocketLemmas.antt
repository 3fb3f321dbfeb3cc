-- Ports and their ends, as more come.
use Rattle.std.proofs.Common.{◌≡◌, ◌⊎◌, ℕ, zero, suc, ◌+◌, ◌<◌, ◌≤◌, ◌^◌, List, [], ◌∷◌, ◌++◌, length, slice_get, Bool, Option, Some, None, refl, sym, ap, ◌∙◌, subst, inl, inr, lit<, arith}
use Rattle.std.specs.Prelude.{option_and_then}
use Rattle.std.proofs.lemmas.List.{length-map, get_or_past}
use Rattle.std.proofs.lemmas.Bool.{cases_lt}
use Rattle.std.proofs.lemmas.Option.{same_Some, none-some, slice_get_past}
use Rattle.slab.specs.Slab.{Slab, get}
use Rattle.pd_wire.specs.Book.{Book, empty_book}
use Rattle.pd_grove.specs.declared.nodes.Node.{Node}
use Rattle.pd_grove.specs.declared.grove.Grove.{Grove}
use Rattle.pd_grove.specs.declared.ports.Side.{Side}
use Rattle.pd_web.specs.declared.jacks.Jack.{Jack}
use Rattle.pd_web.specs.declared.sockets.Port.{Port}
use Rattle.pd_web.specs.declared.sockets.Sockets.{Sockets}
use Rattle.pd_web.specs.declared.sockets.Spot.{Spot}
use Rattle.pd_web.specs.Sockets.{AreFew, AreTied, IsBare, IsThere, Grows, Keeps, loose_ports, ports_at, ports_in, side_ports, jacks_of, made_at, made_of}
use Rattle.pd_web.specs.Wiring.{SameEnds}
use Rattle.pd_web.specs.Jacks.{jacks_at as jacks_of_box, jacks_in, made_in}

-- an element of a list with one more at its end
pub push_cases : {X : Type 0} (xs : List X) (x y : X) (i : ℕ) → slice_get (xs ++ x ∷ []) i ≡ Some y → (slice_get xs i ≡ Some y) ⊎ ((i ≡ length xs) × (x ≡ y))
push_cases [] x y zero h = inr (refl, same_Some x y h)
push_cases [] x y (suc i) h = absurd (none-some y h)
push_cases (z ∷ zs) x y zero h = inl h
push_cases (z ∷ zs) x y (suc i) h = elim (push_cases zs x y i h) [
  | inl a ↦ inl a
  | inr b ↦ inr (ap suc b.0, b.1)
]

pub grows_none : (spots : List Spot) (book : Book) → Grows spots spots book book
grows_none spots book = record { ends = λ e h. h; told = λ e s l h. h; spotted = λ h. h; fans = λ e. refl; feeds = λ e. refl; wires = λ k. refl }

pub push_below : {X : Type 0} (xs : List X) (x : X) (i : ℕ) → i < length xs → slice_get (xs ++ x ∷ []) i ≡ slice_get xs i
push_below [] x i h = absurd (omega arith)
push_below (z ∷ zs) x zero h = refl
push_below (z ∷ zs) x (suc i) h = push_below zs x i (omega arith)

pub push_at : {X : Type 0} (xs : List X) (x : X) (i : ℕ) → length xs ≡ i → slice_get (xs ++ x ∷ []) i ≡ Some x
push_at [] x zero h = refl
push_at [] x (suc i) h = absurd (omega arith)
push_at (z ∷ zs) x zero h = absurd (omega arith)
push_at (z ∷ zs) x (suc i) h = push_at zs x i (omega arith)

-- what holds of the boxes below n and of box n holds of those below n + 1
pub below_next : (P : ℕ → Type 0) (n : ℕ) → ((k : ℕ) → k < n → P k) → P n → (k : ℕ) → k < n + 1 → P k
below_next P n below here k l = elim (cases_lt k n) [
  | inl a ↦ below k a
  | inr b ↦ let e : n ≡ k = omega arith in subst P e here
]

pub told_boxes : (all all' : List Sockets) (s : Sockets) (n : ℕ) (want : Side → ℕ → List Port) → all' ≡ all ++ s ∷ [] → length all ≡ n
    → ((side : Side) (k : ℕ) → k < n → ports_at all side k ≡ want side k) → ((side : Side) → side_ports side s ≡ want side n)
    → (side : Side) (k : ℕ) → k < n + 1 → ports_at all' side k ≡ want side k
told_boxes all all' s n want h e below here side =
    below_next (λ k. ports_at all' side k ≡ want side k) n
    (λ k l. ap (λ (xs : List Sockets). ports_at xs side k) h ∙ ap (ports_in side) (push_below all s k (omega arith)) ∙ below side k l)
    (ap (λ (xs : List Sockets). ports_at xs side n) h ∙ ap (ports_in side) (push_at all s n e) ∙ here side)

pub made_boxes : (all all' : List Sockets) (s : Sockets) (n : ℕ) (want : ℕ → Bool) → all' ≡ all ++ s ∷ [] → length all ≡ n
    → ((k : ℕ) → k < n → made_at all k ≡ want k) → s.is_made ≡ want n → (k : ℕ) → k < n + 1 → made_at all' k ≡ want k
made_boxes all all' s n want h e below here =
    below_next (λ k. made_at all' k ≡ want k) n
    (λ k l. ap (λ (xs : List Sockets). made_at xs k) h ∙ ap made_of (push_below all s k (omega arith)) ∙ below k l)
    (ap (λ (xs : List Sockets). made_at xs n) h ∙ ap made_of (push_at all s n e) ∙ here)

few_at : (o : Option Sockets) (side : Side) → ((s : Sockets) → o ≡ Some s → length (side_ports side s) < 2 ^ 32) → length (ports_in side o) < 2 ^ 32
few_at None side h = lit< tt
few_at (Some s) side h = h s refl

pub ports_few : (all : List Sockets) (side : Side) (k : ℕ) (s : Sockets) → AreFew all → slice_get all k ≡ Some s → length (side_ports side s) < 2 ^ 32
ports_few all side k s few h = let P : Option Sockets → Type 0 = λ o. length (ports_in side o) < 2 ^ 32 in subst P h (few side k)

pub few_boxes : (all all' : List Sockets) (s : Sockets) → all' ≡ all ++ s ∷ [] → AreFew all → ((side : Side) → length (side_ports side s) < 2 ^ 32) → AreFew all'
few_boxes all all' s h few here side k =
    few_at (slice_get all' k) side (λ r e. elim (push_cases all s r k (ap (λ (xs : List Sockets). slice_get xs k) (sym h) ∙ e)) [
      | inl a ↦ ports_few all side k r few a
      | inr b ↦ let P : Sockets → Type 0 = λ x. length (side_ports side x) < 2 ^ 32 in subst P b.1 (here side)
    ])

pub no_boxes_few : AreFew []
no_boxes_few = λ side k. lit< tt

pub ports_past : (all : List Sockets) (side : Side) (k : ℕ) → length all ≤ k → ports_at all side k ≡ []
ports_past all side k h = ap (ports_in side) (slice_get_past all k h)

no_node : (nodes : Slab Node) (k : ℕ) → length nodes.slots ≤ k → get nodes k ≡ None
no_node nodes k h = get_or_past nodes.slots k None h

-- no box has a key from the end on
pub told_all : (all : List Sockets) (g : Grove) (n end : ℕ) → length all ≡ n → end ≤ n → length g.nodes.slots ≤ end
    → ((side : Side) (k : ℕ) → k < n → ports_at all side k ≡ loose_ports (jacks_of_box side g k)) → (side : Side) (k : ℕ) → ports_at all side k ≡ loose_ports (jacks_of_box side g k)
told_all all g n end e l h t side k = elim (cases_lt k n) [
  | inl a ↦ t side k a
  | inr b ↦ ports_past all side k (omega arith) ∙ sym (ap (λ o. loose_ports (jacks_in side g o)) (no_node g.nodes k (omega arith)))
]

pub made_all : (all : List Sockets) (g : Grove) (n end : ℕ) → length all ≡ n → end ≤ n → length g.nodes.slots ≤ end
    → ((k : ℕ) → k < n → made_at all k ≡ made_in (get g.nodes k)) → (k : ℕ) → made_at all k ≡ made_in (get g.nodes k)
made_all all g n end e l h t k = elim (cases_lt k n) [
  | inl a ↦ t k a
  | inr b ↦ ap made_of (slice_get_past all k (omega arith)) ∙ sym (ap made_in (no_node g.nodes k (omega arith)))
]

jacks_loose : (jacks : List Jack) → jacks_of (loose_ports jacks) ≡ jacks
jacks_loose [] = refl
jacks_loose (j ∷ jacks) = ap (λ xs. j ∷ xs) (jacks_loose jacks)

-- the ports as they are laid, without ends
pub jacks_laid : (all : List Sockets) (want : Side → ℕ → List Jack) → ((side : Side) (k : ℕ) → ports_at all side k ≡ loose_ports (want side k)) → (side : Side) (k : ℕ) → jacks_of (ports_at all side k) ≡ want side k
jacks_laid all want told side k = ap jacks_of (told side k) ∙ jacks_loose (want side k)

end_loose : (jacks : List Jack) (i : ℕ) → option_and_then (λ (p : Port). p.end) (slice_get (loose_ports jacks) i) ≡ None
end_loose [] i = refl
end_loose (j ∷ jacks) zero = refl
end_loose (j ∷ jacks) (suc i) = end_loose jacks i

pub tied_laid : (all : List Sockets) (want : Side → ℕ → List Jack) (spots : List Spot) → ((side : Side) (k : ℕ) → ports_at all side k ≡ loose_ports (want side k)) → AreTied all spots empty_book
tied_laid all want spots told = record {
  placed = λ s e h.
      absurd (none-some e (sym (ap (λ (ports : List Port). option_and_then (λ (p : Port). p.end) (slice_get ports s.port)) (told s.side s.node) ∙ end_loose (want s.side s.node) s.port) ∙ h));
  spotted = λ e h. absurd (cc h);
}

pub none_bare : IsBare empty_book
none_bare = λ e. (refl, refl)

pub tied_still : (all : List Sockets) (spots : List Spot) (b b' : Book) → SameEnds b b' → AreTied all spots b → AreTied all spots b'
tied_still all spots b b' same tied = record {
  placed = λ s e h. let a = tied.placed s e h in record { live = same.stay e a.live; told = a.told };
  spotted = λ e h. tied.spotted e (same.no_more e h);
}

-- ports that stay what they are
pub keeps_none : (all : List Sockets) → Keeps all all
keeps_none all = record { jacks = λ side k. refl; made = λ k. refl; ends = λ s e h. h }

pub keeps_more : (a b c : List Sockets) → Keeps a b → Keeps b c → Keeps a c
keeps_more a b c s t = record { jacks = λ side k. t.jacks side k ∙ s.jacks side k; made = λ k. t.made k ∙ s.made k; ends = λ x e h. t.ends x e (s.ends x e h) }

pub count_kept : (all all' : List Sockets) (side : Side) (k : ℕ) → Keeps all all' → length (ports_at all' side k) ≡ length (ports_at all side k)
count_kept all all' side k keeps =
    sym (length-map (ports_at all' side k) (λ (p : Port). p.jack)) ∙ ap length (keeps.jacks side k) ∙ length-map (ports_at all side k) (λ (p : Port). p.jack)

pub few_kept : (all all' : List Sockets) → Keeps all all' → AreFew all → AreFew all'
few_kept all all' keeps few = λ side k. let e = count_kept all all' side k keeps in let h = few side k in omega (arith, e, h)

pub there_kept : (all all' : List Sockets) (s : Spot) → Keeps all all' → IsThere all s → IsThere all' s
there_kept all all' s keeps h = let e = count_kept all all' s.side s.node keeps in omega (arith, e, h)
