-- One box after another.
use Rattle.std.proofs.Common.{◌≡◌, ◌<◌, ◌≤◌, ◌+◌, ◌-◌, ℕ, ℤ, zero, suc, List, [], ◌∷◌, length, take, refl, sym, ◌∙◌, ap, subst, arith, add-one}
use Rattle.std.proofs.lemmas.List.{take_all}
use Rattle.std.specs.Prelude.{Option, Some, None, slice_get}
use Rattle.slab.specs.Slab.{get}
use Rattle.pd_grove.specs.declared.nodes.Node.{Node}
use Rattle.pd_grove.specs.Telling.{kind_in, inner_in}
use Rattle.pd_patch.specs.declared.patch.Patch.{Patch}
use Rattle.pd_block.specs.Nets.{Net, Sound, bare, net_of, kind_at, inner_at, chain_at, stuck_at}
use Rattle.pd_block.specs.Blocks.{Played, played, each, next, silenced, manner_by, ran_as, ran_plain, ran_box, ran_one, down_chain, ran_canvas}
use Rattle.pd_turn.specs.declared.sorts.Manner.{Manner}

pub each_next : {P : Type 0} (one : P → ℕ → P) (p : P) (xs : List ℕ) (i : ℕ) → next one (each one p (take i xs)) (slice_get xs i) ≡ each one p (take (suc i) xs)
each_next one p [] zero = refl
each_next one p [] (suc i) = refl
each_next one p (x ∷ xs) zero = refl
each_next one p (x ∷ xs) (suc i) = each_next one (one p x) xs i

pub each_all : {P : Type 0} (one : P → ℕ → P) (p : P) (xs : List ℕ) (i : ℕ) → length xs ≤ i → each one p (take i xs) ≡ each one p xs
each_all one p xs i h = ap (each one p) (take_all i xs h)

kind_bare : (o : Option Node) → kind_in (bare o) ≡ kind_in o
kind_bare None = refl
kind_bare (Some n) = refl

inner_bare : (o : Option Node) → inner_in (bare o) ≡ inner_in o
inner_bare None = refl
inner_bare (Some n) = refl

pub kind_told : (p : Patch) (node : ℕ) → kind_at (net_of p) node ≡ kind_in (get p.grove.nodes node)
kind_told p node = kind_bare (get p.grove.nodes node)

pub inner_told : (p : Patch) (node : ℕ) → inner_at (net_of p) node ≡ inner_in (get p.grove.nodes node)
inner_told p node = inner_bare (get p.grove.nodes node)

-- a step down a list, after which it stands at the next place
pub steps_on : {P : Type 0} (one : P → ℕ → P) (p q r : P) (xs : List ℕ) (i : ℕ) → q ≡ each one p (take i xs) → r ≡ next one q (slice_get xs i) → r ≡ each one p (take (i + 1) xs)
steps_on one p q r xs i at step = rw add-one (step ∙ ap (λ z. next one z (slice_get xs i)) at ∙ each_next one p xs i)

pub canvas_suc : (net : Net) (start n : ℕ) (p : Played) (canvas : ℕ) → ran_canvas net start (suc n) p canvas ≡ down_chain net start (ran_canvas net start n) p canvas
unfolding ran_canvas
canvas_suc net start n p canvas = refl

pub canvas_step : (net : Net) (start levels : ℕ) (p : Played) (canvas : ℕ) → 0 < levels → ran_canvas net start levels p canvas ≡ down_chain net start (ran_canvas net start (levels - 1)) p canvas
canvas_step net start levels p canvas h =
    let e : levels ≡ suc (levels - 1) = omega arith in ap (λ (l : ℕ). ran_canvas net start l p canvas) e ∙ canvas_suc net start (levels - 1) p canvas

pub canvas_none : (net : Net) (start levels : ℕ) (p : Played) (canvas : ℕ) → levels ≡ 0 → p ≡ ran_canvas net start levels p canvas
unfolding ran_canvas
canvas_none net start levels p canvas e = subst (λ (n : ℕ). p ≡ ran_canvas net start n p canvas) (sym e) refl

-- a box with a canvas has run
pub box_inside : (net net1 : Net) (start levels node inner : ℕ) (s s1 : Sound) (out : List (List ℤ)) (r : Played) (o : Option ℕ) → net1 ≡ net → s1 ≡ silenced s node → o ≡ Some inner
    → r ≡ ran_canvas net1 start levels (played s1 out) inner → r ≡ ran_box net start (ran_canvas net start levels) (played s out) node o
box_inside net net1 start levels node inner s s1 out r o same silent is h =
    h ∙ ap (λ (n : Net). ran_canvas n start levels (played s1 out) inner) same ∙ ap (λ (z : Sound). ran_canvas net start levels (played z out) inner) silent
    ∙ ap (λ (x : Option ℕ). ran_box net start (ran_canvas net start levels) (played s out) node x) (sym is)

pub box_plain : (net : Net) (start levels node : ℕ) (p r : Played) (o : Option ℕ) → o ≡ None → r ≡ ran_plain net start p node → r ≡ ran_box net start (ran_canvas net start levels) p node o
box_plain net start levels node p r o is h = h ∙ ap (λ (x : Option ℕ). ran_box net start (ran_canvas net start levels) p node x) (sym is)

pub place_step : (net net1 : Net) (start levels canvas place : ℕ) (p q r : Played) → net1 ≡ net
    → q ≡ each (ran_one net start (ran_canvas net start levels)) p (take place (chain_at net canvas))
    → r ≡ next (ran_one net1 start (ran_canvas net1 start levels)) q (slice_get (chain_at net1 canvas) place)
    → r ≡ each (ran_one net start (ran_canvas net start levels)) p (take (place + 1) (chain_at net canvas))
place_step net net1 start levels canvas place p q r same at step =
    steps_on (ran_one net start (ran_canvas net start levels)) p q r (chain_at net canvas) place at
    (step ∙ ap (λ (n : Net). next (ran_one n start (ran_canvas n start levels)) q (slice_get (chain_at n canvas) place)) same)

pub chain_done : (net : Net) (start levels canvas place : ℕ) (p r : Played) → 0 < levels
    → r ≡ each (ran_one net start (ran_canvas net start (levels - 1))) (played (each silenced p.sound (stuck_at net canvas)) p.out) (take place (chain_at net canvas))
    → length (chain_at net canvas) ≤ place → r ≡ ran_canvas net start levels p canvas
chain_done net start levels canvas place p r some at all =
    at ∙ each_all (ran_one net start (ran_canvas net start (levels - 1))) (played (each silenced p.sound (stuck_at net canvas)) p.out) (chain_at net canvas) place all
    ∙ sym (canvas_step net start levels p canvas some)

pub stuck_step : (net net1 : Net) (canvas place : ℕ) (s q r : Sound) → net1 ≡ net → q ≡ each silenced s (take place (stuck_at net canvas))
    → r ≡ next silenced q (slice_get (stuck_at net1 canvas) place) → r ≡ each silenced s (take (place + 1) (stuck_at net canvas))
stuck_step net net1 canvas place s q r same at step =
    steps_on silenced s q r (stuck_at net canvas) place at (step ∙ ap (λ (n : Net). next silenced q (slice_get (stuck_at n canvas) place)) same)

-- a box that holds no canvas has run in its manner
pub plain_as : (net : Net) (start node : ℕ) (p r : Played) (m : Manner) → manner_by (kind_at net node) ≡ m → r ≡ ran_as net start p node (kind_at net node) m → r ≡ ran_plain net start p node
unfolding ran_plain
plain_as net start node p r m is h = h ∙ ap (λ (x : Manner). ran_as net start p node (kind_at net node) x) (sym is)

pub manner_told : (p : Patch) (node : ℕ) (m : Manner) → m ≡ manner_by (kind_in (get p.grove.nodes node)) → manner_by (kind_at (net_of p) node) ≡ m
manner_told p node m is = ap manner_by (kind_told p node) ∙ sym is
