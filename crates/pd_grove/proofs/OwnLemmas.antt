-- Boxes lie in their canvases while one is planted after the other.
use Rattle.std.proofs.Common.{◌≡◌, ◌≢◌, ℕ, zero, suc, List, [], ◌∷◌, ◌++◌, length, Option, Some, None, IsSome, inl, inr, refl, sym, ap, ◌∙◌}
use Rattle.std.specs.Prelude.{option_map, slice_get, ◌⊎◌}
use mathlib.Core.Logic.{⊎_elim}
use Rattle.std.proofs.lemmas.Bool.{cases_eq}
use Rattle.std.proofs.lemmas.Option.{none-some, same_Some}
use Rattle.pd_grove.specs.declared.nodes.Node.{Node}
use Rattle.pd_grove.specs.declared.boards.Board.{Board}
use Rattle.pd_grove.specs.Standing.{BoardSeen, board_seen, with_inner, Gains}
use Rattle.pd_grove.specs.Telling.{keys_in}
use Rattle.pd_grove.specs.Owning.{board_in, AreOwn}

none_at : (ks : List ℕ) (i k : ℕ) → ks ≡ [] → slice_get ks i ≡ Some k → ⊥
none_at [] zero k e h = absurd (none-some k h)
none_at [] (suc i) k e h = absurd (none-some k h)
none_at (x ∷ xs) i k e h = absurd (cc)

-- no canvas has boxes
pub own_bare : (nodes : ℕ → Option Node) (boards : ℕ → Option Board) → ((c : ℕ) → keys_in (boards c) ≡ []) → AreOwn nodes boards
own_bare nodes boards h = record {
  home = λ c i k at. absurd (none_at (keys_in (boards c)) i k (h c) at);
  once = λ c i j k at also. absurd (none_at (keys_in (boards c)) i k (h c) at);
}

-- each canvas has no boxes, or those that it had
pub own_keys : (nodes : ℕ → Option Node) (old new : ℕ → Option Board) → ((c : ℕ) → (keys_in (new c) ≡ []) ⊎ (keys_in (new c) ≡ keys_in (old c))) → AreOwn nodes old → AreOwn nodes new
own_keys nodes old new h O = record {
  home = λ c i k at. ⊎_elim
      (λ (e : keys_in (new c) ≡ []). absurd (none_at (keys_in (new c)) i k e at))
      (λ (e : keys_in (new c) ≡ keys_in (old c)). O.home c i k (sym (ap (λ ks. slice_get ks i) e) ∙ at))
      (h c);
  once = λ c i j k at also. ⊎_elim
      (λ (e : keys_in (new c) ≡ []). absurd (none_at (keys_in (new c)) i k e at))
      (λ (e : keys_in (new c) ≡ keys_in (old c)). O.once c i j k (sym (ap (λ ks. slice_get ks i) e) ∙ at) (sym (ap (λ ks. slice_get ks j) e) ∙ also))
      (h c);
}

-- a canvas without boxes is opened
pub own_open : (nodes : ℕ → Option Node) (old new : ℕ → Option Board) (c : ℕ) → keys_in (new c) ≡ [] → ((d : ℕ) → d ≢ c → new d ≡ old d) → AreOwn nodes old → AreOwn nodes new
own_open nodes old new c none others O =
    own_keys nodes old new
    (λ d. ⊎_elim (λ (e : d ≡ c). inl (ap (λ x. keys_in (new x)) e ∙ none)) (λ (n : d ≢ c). inr (ap keys_in (others d n))) (cases_eq d c)) O

-- each box lies where it lay
pub own_nodes : (old new : ℕ → Option Node) (boards : ℕ → Option Board) → ((k : ℕ) → board_in (new k) ≡ board_in (old k)) → AreOwn old boards → AreOwn new boards
own_nodes old new boards h O = record { home = λ c i k at. h k ∙ O.home c i k at; once = O.once }

pub inner_board : (j : ℕ) (o : Option Node) → board_in (option_map (with_inner j) o) ≡ board_in o
inner_board j None = refl
inner_board j (Some n) = refl

pub inner_some : (j : ℕ) (o : Option Node) → IsSome o → IsSome (option_map (with_inner j) o)
inner_some j None h = absurd (cc)
inner_some j (Some n) h = refl

pub own_inner : (old new : ℕ → Option Node) (boards : ℕ → Option Board) (k j : ℕ) → new k ≡ option_map (with_inner j) (old k) → ((i : ℕ) → i ≢ k → new i ≡ old i) → AreOwn old boards → AreOwn new boards
own_inner old new boards k j is others O =
    own_nodes old new boards
    (λ i. ⊎_elim (λ (e : i ≡ k). ap (λ x. board_in (new x)) e ∙ ap board_in is ∙ inner_board j (old k) ∙ ap (λ x. board_in (old x)) (sym e)) (λ (n : i ≢ k). ap board_in (others i n)) (cases_eq i k)) O

-- no canvas has the box of a free key
pub not_there : (nodes : ℕ → Option Node) (boards : ℕ → Option Board) (k c i : ℕ) → nodes k ≡ None → AreOwn nodes boards → slice_get (keys_in (boards c)) i ≡ Some k → ⊥
not_there nodes boards k c i vacant O at = none-some c (sym (ap board_in vacant) ∙ O.home c i k at)

-- a box is put under a free key, in no canvas yet
pub own_put : (old new : ℕ → Option Node) (boards : ℕ → Option Board) (k : ℕ) → old k ≡ None → ((i : ℕ) → i ≢ k → new i ≡ old i) → AreOwn old boards → AreOwn new boards
own_put old new boards k vacant others O = record {
  home = λ c i j at. ap board_in (others j (λ e. not_there old boards k c i vacant O (at ∙ ap (λ x. Some x) e))) ∙ O.home c i j at;
  once = O.once;
}

keys_gained : (o o' : Option Board) (k : ℕ) → IsSome o → option_map board_seen o' ≡ option_map (λ s. record { holder = s.holder; depth = s.depth; sheet = s.sheet; keys = s.keys ++ k ∷ [] }) (option_map board_seen o)
    → keys_in o' ≡ keys_in o ++ k ∷ []
keys_gained None o' k l h = absurd (cc)
keys_gained (Some b) None k l h = absurd (none-some _ h)
keys_gained (Some b) (Some b') k l h = ap (λ (s : BoardSeen). s.keys) (same_Some (board_seen b') _ h)

-- the last box, or one of those before it
record IsLast (ks : List ℕ) (i j k : ℕ) : Type 0 where
  key : j ≡ k
  place : i ≡ length ks

found : (ks : List ℕ) (i j k : ℕ) → slice_get (ks ++ k ∷ []) i ≡ Some j → (slice_get ks i ≡ Some j) ⊎ IsLast ks i j k
found [] zero j k h = inr (record { key = sym (same_Some k j h); place = refl })
found [] (suc zero) j k h = absurd (none-some j h)
found [] (suc (suc i)) j k h = absurd (none-some j h)
found (x ∷ xs) zero j k h = inl h
found (x ∷ xs) (suc i) j k h = ⊎_elim (λ (l : slice_get xs i ≡ Some j). inl l) (λ (l : IsLast xs i j k). inr (record { key = l.key; place = ap suc l.place })) (found xs i j k h)

-- a box that lies in a canvas and is in none comes last in it
pub own_gains : (nodes : ℕ → Option Node) (old new : ℕ → Option Board) (b k : ℕ) → IsSome (old b) → board_in (nodes k) ≡ Some b → ((i : ℕ) → slice_get (keys_in (old b)) i ≡ Some k → ⊥) → Gains old new b k
    → AreOwn nodes old → AreOwn nodes new
own_gains nodes old new b k live lies absent G O =
    let ks = keys_in (old b) in
    let keys : keys_in (new b) ≡ ks ++ k ∷ [] = keys_gained (old b) (new b) k live G.seen in
    let told : (c i j : ℕ) → c ≡ b → slice_get (keys_in (new c)) i ≡ Some j → (slice_get ks i ≡ Some j) ⊎ IsLast ks i j k =
    (λ c i j e at. found ks i j k (sym (ap (λ xs. slice_get xs i) keys) ∙ ap (λ x. slice_get (keys_in (new x)) i) (sym e) ∙ at)) in
    let other : (c i j : ℕ) → c ≢ b → slice_get (keys_in (new c)) i ≡ Some j → slice_get (keys_in (old c)) i ≡ Some j =
    (λ c i j n at. sym (ap (λ o. slice_get (keys_in o) i) (G.others c n)) ∙ at) in
    record {
      home = λ c i j at. ⊎_elim
          (λ (e : c ≡ b). ⊎_elim
          (λ (l : slice_get ks i ≡ Some j). O.home b i j l ∙ ap (λ x. Some x) (sym e))
          (λ (l : IsLast ks i j k). ap (λ x. board_in (nodes x)) l.key ∙ lies ∙ ap (λ x. Some x) (sym e))
          (told c i j e at))
          (λ (n : c ≢ b). O.home c i j (other c i j n at))
          (cases_eq c b);
      once = λ c i m j at also. ⊎_elim
          (λ (e : c ≡ b). ⊎_elim
          (λ (l : slice_get ks i ≡ Some j). ⊎_elim
          (λ (r : slice_get ks m ≡ Some j). O.once b i m j l r)
          (λ (r : IsLast ks m j k). absurd (absent i (l ∙ ap (λ x. Some x) r.key)))
          (told c m j e also))
          (λ (l : IsLast ks i j k). ⊎_elim
          (λ (r : slice_get ks m ≡ Some j). absurd (absent m (r ∙ ap (λ x. Some x) l.key)))
          (λ (r : IsLast ks m j k). l.place ∙ sym r.place)
          (told c m j e also))
          (told c i j e at))
          (λ (n : c ≢ b). O.once c i m j (other c i j n at) (other c m j n also))
          (cases_eq c b);
    }

-- a box comes last in a canvas
pub own_box : (n₀ n₁ : ℕ → Option Node) (b₀ b₁ : ℕ → Option Board) (b k : ℕ) (n : Node) → n₀ k ≡ None → n₁ k ≡ Some n → n.board ≡ b → ((i : ℕ) → i ≢ k → n₁ i ≡ n₀ i) → IsSome (b₀ b) → Gains b₀ b₁ b k
    → AreOwn n₀ b₀ → AreOwn n₁ b₁
own_box n₀ n₁ b₀ b₁ b k n vacant is lies others live G O =
    own_gains n₁ b₀ b₁ b k live (ap board_in is ∙ ap (λ x. Some x) lies) (λ i at. not_there n₀ b₀ k b i vacant O at) G (own_put n₀ n₁ b₀ k vacant others O)
