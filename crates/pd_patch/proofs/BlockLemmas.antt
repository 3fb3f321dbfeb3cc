-- Blocks of boxes, one box after another.
use Rattle.std.proofs.Common.{arith, ◌≡◌, ℕ, zero, suc, ◌+◌, ◌<◌, ◌≤◌, ◌^◌, ℤ, Bool, true, false, List, [], ◌∷◌, ◌++◌, length, map, Option, Some, None, IsSome, refl, sym, ap, ◌∙◌, inl, inr}
use Rattle.std.specs.Prelude.{replicate, option_and_then, slice_get, ◌||◌, if◌then◌else◌}
use Rattle.std.specs.List.{list_any}
use Rattle.std.proofs.lemmas.Bool.{cases_eq, cases_lt}
use Rattle.std.proofs.lemmas.List.{get_or_past, length-map}
use Rattle.std.proofs.lemmas.Option.{slice_get_past}
use Rattle.slab.specs.Slab.{Slab, get}
use Rattle.pd_grove.specs.declared.grove.Grove.{Grove}
use Rattle.pd_grove.specs.declared.nodes.Node.{Node}
use Rattle.pd_kind.specs.States.{silent_block}
use Rattle.pd_grove.specs.declared.ports.Side.TheVariants.{Outlets}
use Rattle.pd_web.specs.declared.jacks.Jack.{Jack}
use Rattle.pd_web.specs.declared.web.Web.{Web}
use Rattle.pd_web.specs.Hops.{ports_told, signal_in}
use Rattle.pd_web.specs.Jacks.{jacks_in, jacks_at}
use Rattle.pd_patch.specs.Values.{AreSilent, HasNoOthers, block_count, first_blocks}

one_signal : (ports : List Jack) (i : ℕ) → signal_in (slice_get ports i) ≡ true → list_any (λ j. j.is_signal) ports ≡ true
one_signal [] i h = absurd (cc)
one_signal (j ∷ ports) zero h = rw h refl
one_signal (j ∷ ports) (suc i) h = by_first j.is_signal (list_any (λ x. x.is_signal) ports) (one_signal ports i h) where
  by_first : (a b : Bool) → b ≡ true → (a || b) ≡ true
  by_first true b e = refl
  by_first false b e = e

-- where an outlet carries signals, each has a block
pub blocks_some : (ports : List Jack) (i : ℕ) → signal_in (slice_get ports i) ≡ true → length ports ≡ block_count ports
blocks_some ports i h = ap (λ (b : Bool). if b then length ports else 0) (sym (one_signal ports i h))

no_signal : (ports : List Jack) (n : ℕ) → length ports ≤ n → ((i : ℕ) → i < n → signal_in (slice_get ports i) ≡ false) → list_any (λ j. j.is_signal) ports ≡ false
no_signal [] n l h = refl
no_signal (j ∷ ports) zero l h = absurd (omega (arith, l))
no_signal (j ∷ ports) (suc n) l h =
    ap (λ b. b || list_any (λ x. x.is_signal) ports) (h zero (omega arith)) ∙ no_signal ports n (omega (arith, l)) (λ i less. h (suc i) (omega (arith, less)))

-- where none does, none has one
pub blocks_none : (ports : List Jack) (n : ℕ) → length ports ≤ n → ((i : ℕ) → i < n → signal_in (slice_get ports i) ≡ false) → 0 ≡ block_count ports
blocks_none ports n l h = ap (λ (b : Bool). if b then length ports else 0) (sym (no_signal ports n l h))

-- one outlet more that carries none
pub silent_more : (ports : List Jack) (n : ℕ) → ((i : ℕ) → i < n → signal_in (slice_get ports i) ≡ false) → signal_in (slice_get ports n) ≡ false
    → (i : ℕ) → i < n + 1 → signal_in (slice_get ports i) ≡ false
silent_more ports n h new i l = elim (cases_eq i n) [
  | inl same ↦ ap (λ m. signal_in (slice_get ports m)) same ∙ new
  | inr other ↦ h i (omega (arith, l, other))
]

block_before : {A : Type 0} (f : A → List (List ℤ)) (vs : List A) (v : A) (k : ℕ) → k < length vs → slice_get (map f (vs ++ v ∷ [])) k ≡ slice_get (map f vs) k
block_before f [] v k l = absurd (omega (arith, l))
block_before f (x ∷ vs) v zero l = refl
block_before f (x ∷ vs) v (suc k) l = block_before f vs v k (omega (arith, l))

block_last : {A : Type 0} (f : A → List (List ℤ)) (vs : List A) (v : A) → slice_get (map f (vs ++ v ∷ [])) (length vs) ≡ Some (f v)
block_last f [] v = refl
block_last f (x ∷ vs) v = block_last f vs v

-- one box more has its first blocks
pub blocks_more : {A : Type 0} (f : A → List (List ℤ)) (w : Web) (vs : List A) (v : A) (n : ℕ) → length vs ≡ n → f v ≡ first_blocks w n
    → ((k : ℕ) → k < n → slice_get (map f vs) k ≡ Some (first_blocks w k)) → (k : ℕ) → k < n + 1 → slice_get (map f (vs ++ v ∷ [])) k ≡ Some (first_blocks w k)
blocks_more f w vs v n e new h k l = elim (cases_eq k n) [
  | inl same ↦
      ap (slice_get (map f (vs ++ v ∷ []))) (same ∙ sym e) ∙ block_last f vs v ∙ ap (λ b. Some b) (new ∙ ap (first_blocks w) (sym same))
  | inr other ↦
      let less : k < n = omega (arith, l, other) in block_before f vs v k (omega (arith, less, e)) ∙ h k less
]

-- a live box has a key below the end of its slab
pub live_below : (nodes : Slab Node) (k count end : ℕ) → length nodes.slots ≤ count → end ≡ count → IsSome (get nodes k) → k < end
live_below nodes k count end l e live = elim (cases_lt k (length nodes.slots)) [
  | inl h ↦ omega (arith, h, l, e)
  | inr h ↦ absurd (none_live (get nodes k) (get_or_past nodes.slots k None h) live)
]
  where
    none_live : (o : Option Node) → o ≡ None → IsSome o → ⊥
    none_live None q s = absurd (cc)
    none_live (Some n) q s = absurd (cc)

-- and the numbers below one that has 32 bits
pub small_keys : (k end : ℕ) → k < end → end < 2 ^ 32 → k < 2 ^ 32
small_keys k end h l = omega (arith, h, l)

-- so have all, where those below a number above all keys have theirs
pub all_silent : {A : Type 0} (f : A → List (List ℤ)) (g : Grove) (w : Web) (vs : List A) (end : ℕ) → length g.nodes.slots ≤ end
    → ((k : ℕ) → k < end → slice_get (map f vs) k ≡ Some (first_blocks w k)) → AreSilent g w (map f vs)
all_silent f g w vs end l h k live = h k (live_below g.nodes k end end l refl live)

-- a key that no box has has no outlets, and so no blocks
pub no_others : {A : Type 0} (f : A → List (List ℤ)) (g : Grove) (w : Web) (vs : List A) → ((k : ℕ) → ports_told w Outlets k ≡ jacks_at Outlets g k)
    → ((k : ℕ) → k < length vs → slice_get (map f vs) k ≡ Some (first_blocks w k)) → HasNoOthers g (map f vs)
no_others f g w vs ports h k outlet e =
    let block : Option (List (List ℤ)) → Option (List ℤ) = option_and_then (λ (own : List (List ℤ)). slice_get own outlet) in
    elim (cases_lt k (length vs)) [
      | inl less ↦
          let none : ports_told w Outlets k ≡ [] = ports k ∙ ap (jacks_in Outlets g) e in
          ap block (h k less) ∙ ap (λ (own : List Jack). slice_get (replicate (block_count own) silent_block) outlet) none
      | inr past ↦ let long : length (map f vs) ≡ length vs = length-map vs f in ap block (slice_get_past (map f vs) k (omega (arith, past, long)))
    ]
