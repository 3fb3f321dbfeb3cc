-- Of what has its sizes the guards of a block are true.
use Rattle.std.proofs.Common.{◌≡◌, ℕ, ℤ, ◌≤◌, ◌^◌, Bool, true, false, cond, ◌&&◌, ◌==◌, nat_le, nat_lt, List, length, Option, Some, unwrap_or, refl, sym, ap, subst, ◌∙◌, true≢false}
use Rattle.std.proofs.lemmas.Bool.{le-leb}
use Rattle.pd_atom.specs.Names.{Names}
use Rattle.pd_object.specs.declared.kinds.Kind.{Kind}
use Rattle.pd_object.specs.declared.kinds.Kind.TheVariants as kind
use Rattle.pd_object.specs.declared.kinds.Signal.{Signal}
use Rattle.pd_object.specs.declared.kinds.Signal.TheVariants as signal
use Rattle.pd_kind.specs.declared.states.Ramps.{Ramps}
use Rattle.pd_kind.specs.declared.states.State.{State}
use Rattle.pd_kind.specs.declared.states.State.TheVariants as state
use Rattle.pd_object.specs.Ports.{ports_of}
use Rattle.pd_kind.specs.Tables.{shared_of, with_shared}
use Rattle.pd_signal.specs.Rows.{run_of}
use Rattle.pd_turn.specs.Rows.{ran, still, silent_outs, vline_if, vline_ran, signal_ran, is_fitting}
use Rattle.pd_turn.specs.Pairs.{Pair, RanWith, line_at, ran_alone, with_values, by_values, pair_by, pair_of}
use Rattle.pd_guards.specs.Order.{IsKept}
use Rattle.pd_guards.proofs.GuardLemmas.{true_and}
use Rattle.pd_sized.specs.Sizes.{HasSizes, LooksAt}

pub own_whole : (k : Kind) (s : State) (ins : List (List ℤ)) → HasSizes s → signal_ran k s ins ≡ ran (run_of k s ins (silent_outs (ports_of k).signal_outlets)).state (run_of k s ins (silent_outs (ports_of k).signal_outlets)).outs
own_whole k s ins h = ap (λ (b : Bool). cond b (ran (run_of k s ins (silent_outs (ports_of k).signal_outlets)).state (run_of k s ins (silent_outs (ports_of k).signal_outlets)).outs) (still s)) h

pub line_whole : (names : Names) (r : Ramps) (start : ℕ) → start ≤ 2 ^ 101 → IsKept names start (state.Vline r) → vline_ran start (state.Vline r) ≡ vline_if true start (state.Vline r)
line_whole names r start time h =
    ap (λ (b : Bool). vline_if b start (state.Vline r)) (true_and (nat_le start (2 ^ 101)) (nat_le r.end start) (le-leb start (2 ^ 101) time) (le-leb r.end start h))

-- both of two tests
pub first_true : (a b : Bool) → (a && b) ≡ true → a ≡ true
first_true true b h = refl
first_true false b h = h

pub second_true : (a b : Bool) → (a && b) ≡ true → b ≡ true
second_true true b h = h
second_true false b h = absurd (true≢false (sym h))

pub some_same : (a b : List ℤ) → Some a ≡ Some b → a ≡ b
some_same a b e = ap (λ (o : Option (List ℤ)). unwrap_or o a) e

ring_fits : (count next : ℕ) → (nat_le 64 count && (nat_le count 4294967296 && nat_lt next count)) ≡ true → (nat_le 64 count && nat_lt next count) ≡ true
ring_fits count next h =
    true_and (nat_le 64 count) (nat_lt next count) (first_true (nat_le 64 count) (nat_le count 4294967296 && nat_lt next count) h)
    (second_true (nat_le count 4294967296) (nat_lt next count) (second_true (nat_le 64 count) (nat_le count 4294967296 && nat_lt next count) h))

signal_fits : (g : Signal) (other : State) (values : List ℤ) → LooksAt (kind.Signal g) other → HasSizes other → shared_of other ≡ Some values → is_fitting (kind.Signal g) (length values) (line_at other) ≡ true
signal_fits (signal.Receive w name) (state.SignalSend held block) values l h e = subst (λ (x : List ℤ). (length x == 64) ≡ true) (some_same block values e) h
signal_fits (signal.Throw name) (state.Catch sum) values l h e = subst (λ (x : List ℤ). (length x == 64) ≡ true) (some_same sum values e) h
signal_fits (signal.Delread name time) (state.Delwrite held ring next ran) values l h e =
    subst (λ (x : List ℤ). (nat_le 64 (length x) && nat_lt next (length x)) ≡ true) (some_same ring values e) (ring_fits (length ring) next h)
signal_fits g other values l h e = absurd l

pub fits_whole : (k : Kind) (other : State) (values : List ℤ) → LooksAt k other → HasSizes other → shared_of other ≡ Some values → is_fitting k (length values) (line_at other) ≡ true
fits_whole (kind.Signal g) other values l h e = signal_fits g other values l h e
fits_whole k other values l h e = absurd l

pub pair_whole : (k : Kind) (s other : State) (ins : List (List ℤ)) (values : List ℤ) → LooksAt k other → HasSizes other → shared_of other ≡ Some values
    → ((pair_of k s ins other).ran ≡ (with_values k s ins (line_at other) values).ran) × ((pair_of k s ins other).other ≡ with_shared other (with_values k s ins (line_at other) values).values)
pair_whole k s other ins values l h e =
    let fits : is_fitting k (length values) (line_at other) ≡ true = fits_whole k other values l h e in
    let by : by_values k s ins (line_at other) values ≡ with_values k s ins (line_at other) values =
    ap (λ (b : Bool). cond b (with_values k s ins (line_at other) values) (record { ran = ran_alone k s ins (line_at other); values = values })) fits in
    let pair : pair_of k s ins other ≡ pair_by k s ins other (line_at other) (Some values) = ap (λ (o : Option (List ℤ)). pair_by k s ins other (line_at other) o) e in
    (ap (λ (p : Pair). p.ran) pair ∙ ap (λ (r : RanWith). r.ran) by, ap (λ (p : Pair). p.other) pair ∙ ap (λ (r : RanWith). with_shared other r.values) by)
