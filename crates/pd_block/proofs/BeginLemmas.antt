-- Delay lines in a block that begins, one key after another.
use Rattle.std.proofs.Common.{◌≡◌, ◌≢◌, ◌<◌, ◌≤◌, ◌+◌, ℕ, Bool, true, false, cond, eqb, nat_lt, refl, sym, ◌∙◌, ap, arith}
use Rattle.std.proofs.Math.Path.{fun_ext}
use Rattle.std.proofs.lemmas.Bool.{eqb-true, eq-eqb, false≢true, ltb-true, ltb-false}
use Rattle.std.proofs.lemmas.Option.{none-some}
use Rattle.std.specs.Prelude.{Option, Some, None, option_map}
use Rattle.slab.specs.Slab.{get}
use Rattle.pd_kind.specs.declared.states.State.{State}
use Rattle.pd_kind.specs.declared.states.State.TheVariants as state
use Rattle.pd_kind.specs.Tables.{line_of, block_begun}
use Rattle.pd_grove.specs.Telling.{state_in, Keeps}
use Rattle.pd_patch.specs.declared.patch.Patch.{Patch}
use Rattle.pd_patch.specs.Values.{blocks_told}
use Rattle.pd_patch.specs.Walking.{RestStays}
use Rattle.pd_block.specs.Nets.{Sound, states_of, sound_of, set_at}
use Rattle.pd_block.specs.Blocks.{line_begun, begun, begun_at, begun_box}
use Rattle.pd_block.proofs.NetLemmas.{set_same, sound_is, states_twice, blocks_same}

-- those of the keys below one have begun
abbrev pub begun_below : ℕ → Sound → Sound
begun_below n s = record { states = λ k. cond (nat_lt k n) (line_begun k (s.states k)) (s.states k); blocks = s.blocks }

cond_is : {A : Type 0} (t : Bool) (a b x : A) → (t ≡ true → x ≡ a) → (t ≡ false → x ≡ b) → x ≡ cond t a b
cond_is true a b x f g = f refl
cond_is false a b x f g = g refl

cond_to : {A : Type 0} (t : Bool) (a b x : A) → (t ≡ true → a ≡ x) → (t ≡ false → b ≡ x) → cond t a b ≡ x
cond_to true a b x f g = f refl
cond_to false a b x f g = g refl

never : (k : ℕ) → nat_lt k 0 ≡ true → ⊥
never k e = grind (arith, ltb-true)

below : (j n : ℕ) → nat_lt j n ≡ true → j < n
below j n e = grind (arith, ltb-true)

above : (j n : ℕ) → nat_lt j n ≡ false → n ≤ j
above j n e = grind (arith, ltb-false)

same : (j n : ℕ) → eqb j n ≡ true → j ≡ n
same j n e = eqb-true j n e

other : (j n : ℕ) → eqb j n ≡ false → j ≢ n
other j n e is = false≢true (sym e ∙ eq-eqb j n is)

pub below_none : (s : Sound) → s ≡ begun_below 0 s
below_none s =
    ap (λ (f : ℕ → Option State). record { states = f; blocks = s.blocks })
    (fun_ext (λ k. cond_is (nat_lt k 0) (line_begun k (s.states k)) (s.states k) (s.states k) (λ e. absurd (never k e)) (λ e. refl)))

-- one key more
step : (f : ℕ → Option State) (n j : ℕ)
    → set_at (λ k. cond (nat_lt k n) (line_begun k (f k)) (f k)) n (line_begun n (cond (nat_lt n n) (line_begun n (f n)) (f n))) j ≡ cond (nat_lt j (n + 1)) (line_begun j (f j)) (f j)
step f n j =
    cond_is (nat_lt j (n + 1)) (line_begun j (f j)) (f j) _
    (λ in_front. cond_to (eqb j n) (line_begun n (cond (nat_lt n n) (line_begun n (f n)) (f n))) (cond (nat_lt j n) (line_begun j (f j)) (f j)) (line_begun j (f j))
    (λ is. ap (line_begun n) (cond_to (nat_lt n n) (line_begun n (f n)) (f n) (f n) (λ e. absurd (not_below n (below n n e))) (λ e. refl)) ∙ ap (λ i. line_begun i (f i)) (sym (same j n is)))
    (λ no. cond_to (nat_lt j n) (line_begun j (f j)) (f j) (line_begun j (f j)) (λ e. refl) (λ e. absurd (between j n (below j (n + 1) in_front) (above j n e) (other j n no)))))
    (λ behind. cond_to (eqb j n) (line_begun n (cond (nat_lt n n) (line_begun n (f n)) (f n))) (cond (nat_lt j n) (line_begun j (f j)) (f j)) (f j)
    (λ is. absurd (beyond j n (above j (n + 1) behind) (same j n is)))
    (λ no. cond_to (nat_lt j n) (line_begun j (f j)) (f j) (f j) (λ e. absurd (far j n (above j (n + 1) behind) (below j n e))) (λ e. refl)))
  where
    not_below : (n : ℕ) → n < n → ⊥
    not_below n h = omega arith

    between : (j n : ℕ) → j < n + 1 → n ≤ j → j ≢ n → ⊥
    between j n a b d = d (omega arith)

    beyond : (j n : ℕ) → n + 1 ≤ j → j ≡ n → ⊥
    beyond j n a e = omega arith

    far : (j n : ℕ) → n + 1 ≤ j → j < n → ⊥
    far j n a b = omega arith

pub below_more : (s r : Sound) (n : ℕ) → r ≡ begun_at (begun_below n s) n → r ≡ begun_below (n + 1) s
below_more s r n h = h ∙ ap (λ (f : ℕ → Option State). record { states = f; blocks = s.blocks }) (fun_ext (step s.states n))

no_line : (k : ℕ) (o : Option State) → o ≡ None → o ≡ line_begun k o
no_line k o e = e ∙ cond_is (nat_lt k 4294967296) (option_map block_begun None) None None (λ t. refl) (λ t. refl) ∙ ap (line_begun k) (sym e)

pub below_all : (s : Sound) (n : ℕ) → ((k : ℕ) → n ≤ k → s.states k ≡ None) → begun_below n s ≡ begun s
below_all s n h =
    ap (λ (f : ℕ → Option State). record { states = f; blocks = s.blocks })
    (fun_ext (λ j. cond_to (nat_lt j n) (line_begun j (s.states j)) (s.states j) (line_begun j (s.states j)) (λ e. refl) (λ e. no_line j (s.states j) (h j (above j n e)))))

-- a state without a delay line
pub unlined : (s : State) → line_of s ≡ None → block_begun s ≡ s
unlined (state.Delwrite held values next ran) e = absurd (none-some _ (sym e))
unlined s e = refl

pub begin_done : (p0 p1 p2 : Patch) (node : ℕ) (s s2 : State) → state_in (get p0.grove.nodes node) ≡ Some s
    → Keeps p0.grove p1.grove node None → RestStays p0 p1 → s2 ≡ block_begun s → Keeps p1.grove p2.grove node (Some s2) → RestStays p1 p2
    → sound_of p2 ≡ begun_box (sound_of p0) node
begin_done p0 p1 p2 node s s2 is took rest begins put rest2 =
    sound_is p2 (set_at (states_of p0) node (option_map block_begun (states_of p0 node))) (blocks_told p0)
    (states_twice p0 p1 p2 node s (Some s2) is took put
    ∙ ap (λ (o : Option State). set_at (states_of p0) node o) (ap (λ (x : State). Some x) begins ∙ sym (ap (λ (o : Option State). option_map block_begun o) is)))
    (blocks_same p1 p2 rest2.values ∙ blocks_same p0 p1 rest.values)

pub begin_none : (p : Patch) (node : ℕ) → option_map block_begun (states_of p node) ≡ states_of p node → sound_of p ≡ begun_box (sound_of p) node
begin_none p node same =
    ap (λ (f : ℕ → Option State). record { states = f; blocks = blocks_told p }) (sym (set_same (states_of p) node (option_map block_begun (states_of p node)) (sym same)))
