-- Boxes in text order, and which of two comes first.
use Rattle.std.proofs.Common.{◌≡◌, ℕ, zero, suc, ◌+◌, ◌<◌, Bool, true, false, List, [], ◌∷◌, ◌++◌, Option, Some, None, IsTrue, refl, sym, ap, ◌∙◌, subst, arith}
use Rattle.std.specs.Prelude.{option_and_then, slice_get, ◌↔◌, ◌⊎◌}
use Rattle.std.specs.List.{flat_map, AllByRecursion}
use mathlib.Core.Logic.{inl, inr}
use Rattle.std.proofs.lemmas.Bool.{both_ways, cases_order}
use Rattle.std.proofs.lemmas.Option.{none-some, same_Some}
use Rattle.slab.specs.Slab.{get}
use Rattle.pd_grove.specs.declared.nodes.Node.{Node}
use Rattle.pd_grove.specs.declared.boards.Board.{Board}
use Rattle.pd_grove.specs.declared.grove.Grove.{Grove}
use Rattle.pd_grove.specs.declared.spots.Spot.{Spot}
use Rattle.pd_grove.specs.Telling.{inner_in, keys_in}
use Rattle.pd_grove.specs.Forest.{holder_in, IsForest}
use Rattle.pd_grove.specs.TextOrder.{keys_inside, spot, box_spots, spots_among, spots_in_order, keys_of_spots, keys_in_order}
use Rattle.pd_grove.proofs.SpotLemmas.{spots_none, spots_suc}
use Rattle.pd_owning.specs.Order.{holder_of, box_out, StandBeside}
use Rattle.pd_owning.proofs.OutLemmas.{out_deep, beside_deep, beside_apart}

-- a box holds another one, or a box around it
pub record Holds (nodes : ℕ → Option Node) (boards : ℕ → Option Board) (a b : ℕ) : Type 0 where
  pub boxes : ℕ
  pub out : box_out nodes boards (suc boxes) b ≡ Some a

-- of the two boxes around them in one canvas the first has the smaller number
pub record Leads (nodes : ℕ → Option Node) (boards : ℕ → Option Board) (a b : ℕ) : Type 0 where
  pub out : ℕ
  pub other_out : ℕ
  pub number : ℕ
  pub other_number : ℕ
  pub beside : StandBeside nodes boards out other_out a b number other_number
  pub less : number < other_number

abbrev pub Comes : (ℕ → Option Node) → (ℕ → Option Board) → ℕ → ℕ → Type 0
Comes nodes boards a b = Holds nodes boards a b ⊎ Leads nodes boards a b

-- of each two in the list the first comes before the second
abbrev pub InTurn : (ℕ → ℕ → Type 0) → List Spot → Type 0
InTurn R [] = Unit {0}
InTurn R (p ∷ ps) = AllByRecursion (λ q. R p.node q.node) ps × InTurn R ps

module _ {A : Type 0} where
  pub all_append : (P : A → Type 0) (xs ys : List A) → AllByRecursion P xs → AllByRecursion P ys → AllByRecursion P (xs ++ ys)
  all_append P [] ys X Y = Y
  all_append P (x ∷ xs) ys X Y = (X.0, all_append P xs ys X.1 Y)

  pub all_map : (P Q : A → Type 0) (xs : List A) → ((x : A) → P x → Q x) → AllByRecursion P xs → AllByRecursion Q xs
  all_map P Q [] f X = tt
  all_map P Q (x ∷ xs) f X = (f x X.0, all_map P Q xs f X.1)

  pub all_at : (P : A → Type 0) (xs : List A) (i : ℕ) (x : A) → slice_get xs i ≡ Some x → AllByRecursion P xs → P x
  all_at P [] i x at X = absurd (none-some x at)
  all_at P (y ∷ ys) zero x at X = subst P (same_Some y x at) X.0
  all_at P (y ∷ ys) (suc i) x at X = all_at P ys i x at X.1

turn_append : (R : ℕ → ℕ → Type 0) (P Q : Spot → Type 0) (xs ys : List Spot) → ((p q : Spot) → P p → Q q → R p.node q.node) → AllByRecursion P xs → AllByRecursion Q ys
    → InTurn R xs → InTurn R ys → InTurn R (xs ++ ys)
turn_append R P Q [] ys f X Y S T = T
turn_append R P Q (x ∷ xs) ys f X Y S T =
    (all_append (λ q. R x.node q.node) xs ys S.0 (all_map Q (λ q. R x.node q.node) ys (λ q. f x q X.0) Y), turn_append R P Q xs ys f X.1 Y S.1 T)

pub turn_at : (R : ℕ → ℕ → Type 0) (xs : List Spot) (i j : ℕ) (p q : Spot) → i < j → slice_get xs i ≡ Some p → slice_get xs j ≡ Some q → InTurn R xs → R p.node q.node
turn_at R [] i j p q l at bt T = absurd (none-some p at)
turn_at R (x ∷ xs) i zero p q l at bt T = absurd (omega (arith, l))
turn_at R (x ∷ xs) zero (suc j) p q l at bt T =
    subst (λ (y : Spot). R y.node q.node) (same_Some x p at) (all_at (λ y. R x.node y.node) xs j q bt T.0)
turn_at R (x ∷ xs) (suc i) (suc j) p q l at bt T = turn_at R xs i j p q (omega (arith, l)) at bt T.1

-- a box is one of these, or lies in one of them
record Among (nodes : ℕ → Option Node) (boards : ℕ → Option Board) (ks : List ℕ) (x : ℕ) : Type 0 where
  index : ℕ
  box_key : ℕ
  boxes : ℕ
  at : slice_get ks index ≡ Some box_key
  out : box_out nodes boards boxes x ≡ Some box_key

-- a box is k or lies in it
pub record Within (nodes : ℕ → Option Node) (boards : ℕ → Option Board) (k x : ℕ) : Type 0 where
  pub boxes : ℕ
  pub out : box_out nodes boards boxes x ≡ Some k

-- these boxes are in turn, and each lies in one of those
record ListTurn (nodes : ℕ → Option Node) (boards : ℕ → Option Board) (ks : List ℕ) (ps : List Spot) : Type 0 where
  among : AllByRecursion (λ p. Among nodes boards ks p.node) ps
  turn : InTurn (Comes nodes boards) ps

-- these boxes are in turn, and each is k or lies in it
pub record PartTurn (nodes : ℕ → Option Node) (boards : ℕ → Option Board) (k : ℕ) (ps : List Spot) : Type 0 where
  pub within : AllByRecursion (λ p. Within nodes boards k p.node) ps
  pub turn : InTurn (Comes nodes boards) ps

-- these are boxes of a canvas, from this number on
abbrev Stand : (ℕ → Option Board) → ℕ → ℕ → List ℕ → Type 0
Stand boards c o ks = (i k : ℕ) → slice_get ks i ≡ Some k → slice_get (keys_in (boards c)) (o + i) ≡ Some k

stand_all : (boards : ℕ → Option Board) (c : ℕ) → Stand boards c 0 (keys_in (boards c))
stand_all boards c i k at = (let e : i ≡ 0 + i = omega arith in subst (λ y. slice_get (keys_in (boards c)) y ≡ Some k) e at)

stand_more : (boards : ℕ → Option Board) (c o k : ℕ) (ks : List ℕ) → Stand boards c o (k ∷ ks) → Stand boards c (suc o) ks
stand_more boards c o k ks S i x at = (let e : o + suc i ≡ suc o + i = omega arith in subst (λ y. slice_get (keys_in (boards c)) y ≡ Some x) e (S (suc i) x at))

module _ (nodes : ℕ → Option Node) (boards : ℕ → Option Board) (root : ℕ) (F : IsForest nodes boards root) where
  -- who lies in a box of the canvas that k holds lies in k
  inside_out : (k j i l m x : ℕ) → inner_in (nodes k) ≡ Some j → slice_get (keys_in (boards j)) i ≡ Some l → box_out nodes boards m x ≡ Some l → box_out nodes boards (suc m) x ≡ Some k
  inside_out k j i l m x holds at out =
      ap (option_and_then (holder_of nodes boards)) out ∙ ap (option_and_then (λ c. holder_in (boards c))) (F.own.home j i l at) ∙ F.inside k j holds

  held_turn : (inside : Bool → List ℕ → List Spot) → ((t : Bool) (c o : ℕ) (ks : List ℕ) → Stand boards c o ks → ListTurn nodes boards ks (inside t ks))
      → (top t : Bool) (k : ℕ) (i : Option ℕ) → inner_in (nodes k) ≡ i → PartTurn nodes boards k (spot top k ∷ inside t (keys_inside boards i))
  held_turn inside I top t k None e =
      let T = I t 0 0 [] (λ i x at. absurd (none-some x at)) in
      record {
        within = (
          record { boxes = zero; out = refl },
          all_map (λ p. Among nodes boards [] p.node) (λ p. Within nodes boards k p.node) (inside t []) (λ p a. absurd (none-some a.box_key a.at)) T.among,
        );
        turn = (all_map (λ p. Among nodes boards [] p.node) (λ p. Comes nodes boards k p.node) (inside t []) (λ p a. absurd (none-some a.box_key a.at)) T.among, T.turn);
      }
  held_turn inside I top t k (Some j) e =
      let ks = keys_in (boards j) in
      let T = I t j 0 ks (stand_all boards j) in
      record {
        within = (
          record { boxes = zero; out = refl },
          all_map (λ p. Among nodes boards ks p.node) (λ p. Within nodes boards k p.node) (inside t ks)
              (λ p a. record { boxes = suc a.boxes; out = inside_out k j a.index a.box_key a.boxes p.node e a.at a.out }) T.among,
        );
        turn = (
          all_map (λ p. Among nodes boards ks p.node) (λ p. Comes nodes boards k p.node) (inside t ks)
              (λ p a. inl (record { boxes = a.boxes; out = inside_out k j a.index a.box_key a.boxes p.node e a.at a.out })) T.among,
          T.turn,
        );
      }

  part_turn : (inside : Bool → List ℕ → List Spot) → ((t : Bool) (c o : ℕ) (ks : List ℕ) → Stand boards c o ks → ListTurn nodes boards ks (inside t ks))
      → (top : Bool) (k : ℕ) (o : Option Node) → nodes k ≡ o → PartTurn nodes boards k (box_spots boards inside top k o)
  part_turn inside I top k None e = record { within = tt; turn = tt }
  part_turn inside I top k (Some n) e = held_turn inside I top _ k n.inner (ap inner_in e)

  flat_turn : (f : ℕ → List Spot) → ((k : ℕ) → PartTurn nodes boards k (f k)) → (c o : ℕ) (ks : List ℕ) → Stand boards c o ks → ListTurn nodes boards ks (flat_map f ks)
  flat_turn f P c o [] S = record { among = tt; turn = tt }
  flat_turn f P c o (k ∷ ks) S =
      let H = P k in
      let T = flat_turn f P c (suc o) ks (stand_more boards c o k ks S) in
      record {
        among = all_append (λ p. Among nodes boards (k ∷ ks) p.node) (f k) (flat_map f ks)
            (all_map (λ p. Within nodes boards k p.node) (λ p. Among nodes boards (k ∷ ks) p.node) (f k) (λ p w. record { index = zero; box_key = k; boxes = w.boxes; at = refl; out = w.out }) H.within)
            (all_map (λ p. Among nodes boards ks p.node) (λ p. Among nodes boards (k ∷ ks) p.node) (flat_map f ks)
            (λ p a. record { index = suc a.index; box_key = a.box_key; boxes = a.boxes; at = a.at; out = a.out }) T.among);
        turn = turn_append (Comes nodes boards) (λ p. Within nodes boards k p.node) (λ p. Among nodes boards ks p.node) (f k) (flat_map f ks)
            (λ p q w a. inr (record {
              out = w.boxes;
              other_out = a.boxes;
              number = o + 0;
              other_number = o + suc a.index;
              beside = record { canvas = c; first = k; second = a.box_key; out = w.out; other_out = a.out; at = S 0 k refl; other_at = S (suc a.index) a.box_key a.at };
              less = omega arith;
            })) H.within T.among H.turn T.turn;
      }

  spots_turn : (n : ℕ) (top : Bool) (c o : ℕ) (ks : List ℕ) → Stand boards c o ks → ListTurn nodes boards ks (spots_among nodes boards n top ks)
  spots_turn zero top c o ks S = subst (ListTurn nodes boards ks) (sym (spots_none nodes boards top ks)) (record { among = tt; turn = tt })
  spots_turn (suc n) top c o ks S =
      subst (ListTurn nodes boards ks) (sym (spots_suc nodes boards n top ks))
      (flat_turn (λ k. box_spots boards (spots_among nodes boards n) top k (nodes k))
      (λ k. part_turn (spots_among nodes boards n) (λ t j p ls T. spots_turn n t j p ls T) top k (nodes k) refl) c o ks S)

  -- a box and all that lies in it
  pub box_turn : (n : ℕ) (top : Bool) (k : ℕ) → PartTurn nodes boards k (box_spots boards (spots_among nodes boards n) top k (nodes k))
  box_turn n top k = part_turn (spots_among nodes boards n) (λ t j p ls T. spots_turn n t j p ls T) top k (nodes k) refl

  -- the boxes of a forest come in turn
  pub forest_turn : InTurn (Comes nodes boards) (spots_among nodes boards 257 true (keys_in (boards root)))
  forest_turn = (spots_turn 257 true root 0 (keys_in (boards root)) (stand_all boards root)).turn

  -- no box comes before itself
  pub never_itself : (k : ℕ) → Comes nodes boards k k → ⊥
  never_itself k (inl h) = (let d = out_deep nodes boards root F (suc h.boxes) k k h.out in absurd (omega (arith, d)))
  never_itself k (inr l) =
      let d = beside_deep nodes boards root F l.out l.other_out k k l.number l.other_number l.beside in
      let same : l.out ≡ l.other_out = omega (arith, d) in
      let less = l.less in
      beside_apart nodes boards root F l.other_out k l.number l.other_number (omega (arith, less))
      (subst (λ m. StandBeside nodes boards m l.other_out k k l.number l.other_number) same l.beside)

-- the box of a place
pub record SpotAt (ps : List Spot) (i k : ℕ) : Type 0 where
  pub spot : Spot
  pub at : slice_get ps i ≡ Some spot
  pub node : spot.node ≡ k

pub spot_there : (ps : List Spot) (i k : ℕ) → slice_get (keys_of_spots ps) i ≡ Some k → SpotAt ps i k
spot_there [] i k at = absurd (none-some k at)
spot_there (p ∷ ps) zero k at = record { spot = p; at = refl; node = same_Some p.node k at }
spot_there (p ∷ ps) (suc i) k at = (let R = spot_there ps i k at in record { spot = R.spot; at = R.at; node = R.node })

-- of two places the first one's box comes first
pub comes_at : (g : Grove) → IsForest (get g.nodes) (get g.boards) g.root → (i j a b : ℕ) → i < j → slice_get (keys_in_order g) i ≡ Some a → slice_get (keys_in_order g) j ≡ Some b
    → Comes (get g.nodes) (get g.boards) a b
comes_at g F i j a b l at bt =
    let P = spot_there (spots_in_order g) i a at in
    let Q = spot_there (spots_in_order g) j b bt in
    let R = Comes (get g.nodes) (get g.boards) in
    subst (λ x. R x b) P.node (subst (λ y. R P.spot.node y) Q.node (turn_at R (spots_in_order g) i j P.spot Q.spot l P.at Q.at (forest_turn (get g.nodes) (get g.boards) g.root F)))

-- what answers for each two boxes, which of them comes first
pub record Answers (nodes : ℕ → Option Node) (boards : ℕ → Option Board) (a b : ℕ) (r : Bool) : Type 0 where
  pub comes : Comes nodes boards a b → r ≡ true
  pub follows : Comes nodes boards b a → r ≡ false
  pub itself : a ≡ b → r ≡ false

pub answered : (g : Grove) → IsForest (get g.nodes) (get g.boards) g.root → (a b : ℕ) (r : Bool) → Answers (get g.nodes) (get g.boards) a b r → (i j : ℕ) → slice_get (keys_in_order g) i ≡ Some a
    → slice_get (keys_in_order g) j ≡ Some b → IsTrue r ↔ (i < j)
answered g F a b r A i j at bt = (λ t. from t (cases_order i j), λ l. A.comes (comes_at g F i j a b l at bt))
  where
    from : IsTrue r → (i ≡ j) ⊎ ((i < j) ⊎ (j < i)) → i < j
    from t (inl e) = absurd (both_ways r (A.itself (same_Some a b (sym at ∙ ap (slice_get (keys_in_order g)) e ∙ bt))) t)
    from t (inr (inl l)) = l
    from t (inr (inr l)) = absurd (both_ways r (A.follows (comes_at g F j i b a l bt at)) t)
