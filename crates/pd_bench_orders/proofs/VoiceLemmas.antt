-- The graph of voices is lawful.
use Rattle.std.proofs.Common.{◌≡◌, ℕ, zero, suc, ◌+◌, ◌-◌, ◌*◌, ◌/◌, ◌%◌, ◌<◌, ◌≤◌, ◌==◌, true, false, cond, List, [], ◌∷◌, length, length-append, get_or, refl, sym, ◌∙◌, subst, arith}
use Rattle.std.specs.Prelude.{nat_lt}
use Rattle.pd_order.specs.Graph.{tally, take_out, IsLawful, IsOrder, cut_wire, add_wire}
use Rattle.pd_order.specs.Wired.{numbers_below}
use Rattle.pd_order.proofs.Basics.{by_test, same_node, same_test, other_node, other_test, tally-append, tally-take_out}
use Rattle.pd_order.proofs.WiredLemmas.{nodes_below}
use Rattle.std.proofs.Math.ListN.{get_or-append}
use Rattle.std.proofs.lemmas.List.{get_or-append_right}
use Rattle.pd_order.proofs.SameLemmas.{same_order}
use Rattle.pd_bench_orders.specs.Voices.{evens, outs, voice_at, onward, fed, voices}
use Rattle.pd_measure.proofs.NumberLemmas.{is_less, is_not_less, less_test, below_once}

even_half : (u : ℕ) → (u % 2 == 0) ≡ true → u ≡ 2 * (u / 2)
even_half u t = let e : u % 2 ≡ 0 = same_node (u % 2) 0 t in omega arith

not_even : (u j : ℕ) → (u % 2 == 0) ≡ false → u ≡ 2 * j → ⊥
not_even u j t e = let n : u % 2 ≡ 0 → ⊥ = other_node (u % 2) 0 t in n (omega arith)

odd_is : (u : ℕ) → (u % 2 == 0) ≡ false → u % 2 ≡ 1
odd_is u t = let n : u % 2 ≡ 0 → ⊥ = other_node (u % 2) 0 t in omega arith

evens_out : (i k u : ℕ) → ((j : ℕ) → i ≤ j → j < i + k → u ≡ 2 * j → ⊥) → tally u (evens i k) ≡ 0
evens_out i zero u h = refl
evens_out i (suc k) u h =
    let t : (2 * i == u) ≡ false = other_test (2 * i) u (λ e. h i (omega arith) (omega arith) (sym e)) in
    let q : tally u (evens (suc i) k) ≡ 0 = evens_out (suc i) k u (λ j a b. h j (omega arith) (omega arith)) in rw t (omega arith)

evens_in : (i k j : ℕ) → i ≤ j → j < i + k → tally (2 * j) (evens i k) ≡ 1
evens_in i zero j a b = absurd (omega arith)
evens_in i (suc k) j a b = by_test (2 * i == 2 * j)
    (λ t. let e : 2 * i ≡ 2 * j = same_node (2 * i) (2 * j) t in
    let q : tally (2 * j) (evens (suc i) k) ≡ 0 = evens_out (suc i) k (2 * j) (λ m c d f. omega arith) in rw t (omega arith))
    (λ t. let n : 2 * i ≡ 2 * j → ⊥ = other_node (2 * i) (2 * j) t in
    let l : suc i ≤ j = by_test (nat_lt i j) (λ w. let v : i < j = is_less i j w in omega arith) (λ w. let v : j ≤ i = is_not_less i j w in absurd (n (omega arith))) in
    let q : tally (2 * j) (evens (suc i) k) ≡ 1 = evens_in (suc i) k j l (omega arith) in rw t (omega arith))

outs_parts : (cut n u : ℕ) → tally u (outs cut n) ≡ tally u (evens 1 (cut - 1)) + tally u (evens (cut + 1) (n - cut))
outs_parts cut n u = tally-append u (evens 1 (cut - 1)) (evens (cut + 1) (n - cut))

out_odd : (cut n u : ℕ) → (u % 2 == 0) ≡ false → tally u (outs cut n) ≡ 0
out_odd cut n u t =
    let p : tally u (outs cut n) ≡ tally u (evens 1 (cut - 1)) + tally u (evens (cut + 1) (n - cut)) = outs_parts cut n u in
    let a : tally u (evens 1 (cut - 1)) ≡ 0 = evens_out 1 (cut - 1) u (λ j _ _ e. not_even u j t e) in
    let b : tally u (evens (cut + 1) (n - cut)) ≡ 0 = evens_out (cut + 1) (n - cut) u (λ j _ _ e. not_even u j t e) in omega arith

-- a voice that isn't there, or is cut
out_none : (cut n j : ℕ) → ((m : ℕ) → 1 ≤ m → m < cut → j ≡ m → ⊥) → ((m : ℕ) → cut < m → m ≤ n → j ≡ m → ⊥) → tally (2 * j) (outs cut n) ≡ 0
out_none cut n j f g =
    let p : tally (2 * j) (outs cut n) ≡ tally (2 * j) (evens 1 (cut - 1)) + tally (2 * j) (evens (cut + 1) (n - cut)) = outs_parts cut n (2 * j) in
    let a : tally (2 * j) (evens 1 (cut - 1)) ≡ 0 = evens_out 1 (cut - 1) (2 * j) (λ m c d e. f m c (omega arith) (omega arith)) in
    let b : tally (2 * j) (evens (cut + 1) (n - cut)) ≡ 0 = evens_out (cut + 1) (n - cut) (2 * j) (λ m c d e. g m (omega arith) (omega arith) (omega arith)) in omega arith

out_one : (cut n j : ℕ) → 1 ≤ j → j ≤ n → (j ≡ cut → ⊥) → tally (2 * j) (outs cut n) ≡ 1
out_one cut n j a b c =
    let p : tally (2 * j) (outs cut n) ≡ tally (2 * j) (evens 1 (cut - 1)) + tally (2 * j) (evens (cut + 1) (n - cut)) = outs_parts cut n (2 * j) in
    by_test (nat_lt j cut)
    (λ t. let l : j < cut = is_less j cut t in
    let x : tally (2 * j) (evens 1 (cut - 1)) ≡ 1 = evens_in 1 (cut - 1) j a (omega arith) in
    let y : tally (2 * j) (evens (cut + 1) (n - cut)) ≡ 0 = evens_out (cut + 1) (n - cut) (2 * j) (λ m d e f. omega arith) in omega arith)
    (λ t. let l : cut ≤ j = is_not_less j cut t in
    let m : cut < j = by_test (nat_lt cut j) (λ w. is_less cut j w) (λ w. let v : j ≤ cut = is_not_less cut j w in absurd (c (omega arith))) in
    let x : tally (2 * j) (evens 1 (cut - 1)) ≡ 0 = evens_out 1 (cut - 1) (2 * j) (λ m d e f. omega arith) in
    let y : tally (2 * j) (evens (cut + 1) (n - cut)) ≡ 1 = evens_in (cut + 1) (n - cut) j (omega arith) (omega arith) in omega arith)

out_even : (cut n j : ℕ) → cut ≤ n → tally (2 * j) (outs cut n) ≡ tally 0 (onward cut n j)
out_even cut n j w = by_test (j == 0)
    (λ a. let e : j ≡ 0 = same_node j 0 a in rw a (out_none cut n j (λ m c f g. omega arith) (λ m c f g. omega arith)))
    (λ a. let ne : j ≡ 0 → ⊥ = other_node j 0 a in
    by_test (nat_lt n j)
    (λ b. let l : n < j = is_less n j b in
    rw (a, b) (out_none cut n j (λ m c f g. omega arith) (λ m c f g. omega arith)))
    (λ b. let l : j ≤ n = is_not_less n j b in
    by_test (j == cut)
    (λ d. let e : j ≡ cut = same_node j cut d in rw (a, b, d) (out_none cut n j (λ m c f g. omega arith) (λ m c f g. omega arith)))
    (λ d. rw (a, b, d) (out_one cut n j (omega arith) l (other_node j cut d)))))

not_onward : (cut n j x : ℕ) → (x ≡ 0 → ⊥) → tally x (onward cut n j) ≡ 0
not_onward cut n j x ne =
    let t : (0 == x) ≡ false = other_test 0 x (λ e. ne (sym e)) in
    by_test (j == 0) (λ a. rw a refl) (λ a. by_test (nat_lt n j) (λ b. rw (a, b) refl) (λ b. by_test (j == cut) (λ d. rw (a, b, d) refl) (λ d. rw (a, b, d, t) refl)))

fed_joined : (n cut x u : ℕ) → (x ≡ 0 → ⊥) → tally u (fed n x) ≡ tally x ((voices n cut).followers u)
fed_joined n cut x u ne = by_test (x % 2 == 0)
    (λ a. let ex : x ≡ 2 * (x / 2) = even_half x a in
    by_test (u % 2 == 0)
    (λ b. let eu : u ≡ 2 * (u / 2) = even_half u b in
    let t : (x - 1 == u) ≡ false = other_test (x - 1) u (λ e. omega arith) in
    let z : tally x (onward cut n (u / 2)) ≡ 0 = not_onward cut n (u / 2) x ne in
    by_test (nat_lt (2 * n) x) (λ d. rw (a, b, d) (sym z)) (λ d. rw (a, b, d, t) (sym z)))
    (λ b. let ou : u % 2 ≡ 1 = odd_is u b in
    by_test (nat_lt (2 * n) x)
    (λ d. let l : 2 * n < x = is_less (2 * n) x d in
    by_test (nat_lt u (2 * n))
    (λ f. let m : u < 2 * n = is_less u (2 * n) f in
    let t : (u + 1 == x) ≡ false = other_test (u + 1) x (λ e. omega arith) in rw (a, b, d, f, t) refl)
    (λ f. rw (a, b, d, f) refl))
    (λ d. let l : x ≤ 2 * n = is_not_less (2 * n) x d in
    by_test (x - 1 == u)
    (λ t. let e : x - 1 ≡ u = same_node (x - 1) u t in
    let f : nat_lt u (2 * n) ≡ true = less_test u (2 * n) (omega arith) in
    let s : (u + 1 == x) ≡ true = (let q : u + 1 ≡ x = omega arith in rw q (same_test x)) in rw (a, b, d, t, f, s) refl)
    (λ t. let s : (u + 1 == x) ≡ false = other_test (u + 1) x (λ e. other_node (x - 1) u t (omega arith)) in
    by_test (nat_lt u (2 * n)) (λ f. rw (a, b, d, t, f, s) refl) (λ f. rw (a, b, d, t, f) refl)))))
    (λ a. let ox : x % 2 ≡ 1 = odd_is x a in
    by_test (u % 2 == 0)
    (λ b. let z : tally x (onward cut n (u / 2)) ≡ 0 = not_onward cut n (u / 2) x ne in rw (a, b) (sym z))
    (λ b. let ou : u % 2 ≡ 1 = odd_is u b in
    let s : (u + 1 == x) ≡ false = other_test (u + 1) x (λ e. omega arith) in
    by_test (nat_lt u (2 * n)) (λ f. rw (a, b, f, s) refl) (λ f. rw (a, b, f) refl)))

joined : (n cut x u : ℕ) → cut ≤ n → tally u ((voices n cut).feeders x) ≡ tally x ((voices n cut).followers u)
joined n cut x u w = by_test (x == 0)
    (λ a. let e : x ≡ 0 = same_node x 0 a in
    by_test (u % 2 == 0)
    (λ b. let eu : u ≡ 2 * (u / 2) = even_half u b in
    let k : tally (2 * (u / 2)) (outs cut n) ≡ tally 0 (onward cut n (u / 2)) = out_even cut n (u / 2) w in
    let k' : tally u (outs cut n) ≡ tally x (onward cut n (u / 2)) =
    subst (λ (v : ℕ). tally u (outs cut n) ≡ tally v (onward cut n (u / 2))) (sym e)
    (subst (λ (v : ℕ). tally v (outs cut n) ≡ tally 0 (onward cut n (u / 2))) (sym eu) k) in rw (a, b) k')
    (λ b. let k : tally u (outs cut n) ≡ 0 = out_odd cut n u b in
    let s : (u + 1 == x) ≡ false = other_test (u + 1) x (λ q. omega arith) in
    by_test (nat_lt u (2 * n)) (λ f. rw (a, b, f, s) k) (λ f. rw (a, b, f) k)))
    (λ a. let k : tally u (fed n x) ≡ tally x ((voices n cut).followers u) = fed_joined n cut x u (other_node x 0 a) in rw a k)

follow_within : (n cut u x : ℕ) → 0 < tally x ((voices n cut).followers u) → u < 2 * n + 1
follow_within n cut u x h = by_test (u % 2 == 0)
    (λ b. let eu : u ≡ 2 * (u / 2) = even_half u b in
    let h' : 0 < tally x (onward cut n (u / 2)) = rw b at h in
    by_test (u / 2 == 0)
    (λ a. absurd (let k : 0 < 0 = rw a at h' in omega arith))
    (λ a. by_test (nat_lt n (u / 2))
    (λ d. absurd (let k : 0 < 0 = rw (a, d) at h' in omega arith))
    (λ d. let l : u / 2 ≤ n = is_not_less n (u / 2) d in omega arith)))
    (λ b. let h' : 0 < tally x (cond (nat_lt u (2 * n)) ((u + 1) ∷ []) []) = rw b at h in
    by_test (nat_lt u (2 * n))
    (λ f. let m : u < 2 * n = is_less u (2 * n) f in omega arith)
    (λ f. absurd (let k : 0 < 0 = rw f at h' in omega arith)))

fed_within : (n cut x u : ℕ) → 0 < tally u ((voices n cut).feeders x) → x < 2 * n + 1
fed_within n cut x u h = by_test (x == 0)
    (λ a. let e : x ≡ 0 = same_node x 0 a in omega arith)
    (λ a. let h' : 0 < tally u (fed n x) = rw a at h in
    by_test (x % 2 == 0)
    (λ b. by_test (nat_lt (2 * n) x)
    (λ d. absurd (let k : 0 < 0 = rw (b, d) at h' in omega arith))
    (λ d. let l : x ≤ 2 * n = is_not_less (2 * n) x d in omega arith))
    (λ b. absurd (let k : 0 < 0 = rw b at h' in omega arith)))

length-evens : (i k : ℕ) → length (evens i k) ≡ k
length-evens i zero = refl
length-evens i (suc k) = let e : length (evens (suc i) k) ≡ k = length-evens (suc i) k in omega arith

pub length-outs : (cut n : ℕ) → length (outs cut n) ≡ (cut - 1) + (n - cut)
length-outs cut n =
    let a : length (outs cut n) ≡ length (evens 1 (cut - 1)) + length (evens (cut + 1) (n - cut)) = length-append (evens 1 (cut - 1)) (evens (cut + 1) (n - cut)) in
    let b : length (evens 1 (cut - 1)) ≡ cut - 1 = length-evens 1 (cut - 1) in
    let c : length (evens (cut + 1) (n - cut)) ≡ n - cut = length-evens (cut + 1) (n - cut) in omega arith

fed_few : (n x : ℕ) → length (fed n x) ≤ 1
fed_few n x = by_test (x % 2 == 0)
    (λ b. by_test (nat_lt (2 * n) x) (λ d. rw (b, d) (omega arith)) (λ d. rw (b, d) (omega arith)))
    (λ b. rw b (omega arith))

feeders_few : (n cut x : ℕ) → cut ≤ n → length ((voices n cut).feeders x) ≤ n + 1
feeders_few n cut x w = by_test (x == 0)
    (λ a. let l : length (outs cut n) ≡ (cut - 1) + (n - cut) = length-outs cut n in
    let k : length (outs cut n) ≤ n + 1 = omega arith in rw a k)
    (λ a. let l : length (fed n x) ≤ 1 = fed_few n x in
    let k : length (fed n x) ≤ n + 1 = omega arith in rw a k)

pub voices_lawful : (n cut : ℕ) (ns : List ℕ) → cut ≤ n → n < 1073741824 → ((x : ℕ) → tally x ns ≡ tally x (numbers_below (2 * n + 1))) → IsLawful (voices n cut) ns
voices_lawful n cut ns w few e = record {
  once = λ x. let o : tally x (numbers_below (2 * n + 1)) ≤ 1 = below_once (2 * n + 1) x in let q : tally x ns ≡ tally x (numbers_below (2 * n + 1)) = e x in omega arith;
  apart = λ x y a b q. q;
  joined = λ x u. joined n cut x u w;
  sources = λ x u h. nodes_below (2 * n + 1) ns u e (follow_within n cut u x (let j : tally u ((voices n cut).feeders x) ≡ tally x ((voices n cut).followers u) = joined n cut x u w in omega arith));
  sinks = λ x u h. nodes_below (2 * n + 1) ns x e (fed_within n cut x u h);
  few = λ x. let k : length ((voices n cut).feeders x) ≤ n + 1 = feeders_few n cut x w in omega arith;
}

-- the i-th feeder of box 0
even_at : (i k j : ℕ) → j < k → get_or (evens i k) j 0 ≡ 2 * (i + j)
even_at i zero j h = absurd (omega arith)
even_at i (suc k) zero h = omega arith
even_at i (suc k) (suc j) h = let e : get_or (evens (suc i) k) j 0 ≡ 2 * (suc i + j) = even_at (suc i) k j (omega arith) in omega arith

pub out_at : (cut n i : ℕ) → i < length (outs cut n) → get_or (outs cut n) i 0 ≡ 2 * voice_at cut i
out_at cut n i h =
    let l : length (outs cut n) ≡ (cut - 1) + (n - cut) = length-outs cut n in
    let b : length (evens 1 (cut - 1)) ≡ cut - 1 = length-evens 1 (cut - 1) in
    by_test (nat_lt (i + 1) cut)
    (λ t. let m : i + 1 < cut = is_less (i + 1) cut t in
    let a : get_or (outs cut n) i 0 ≡ get_or (evens 1 (cut - 1)) i 0 = get_or-append (evens 1 (cut - 1)) (evens (cut + 1) (n - cut)) 0 i (omega arith) in
    let e : get_or (evens 1 (cut - 1)) i 0 ≡ 2 * (1 + i) = even_at 1 (cut - 1) i (omega arith) in rw t (a ∙ e ∙ omega arith))
    (λ t. let m : cut ≤ i + 1 = is_not_less (i + 1) cut t in
    let a : get_or (outs cut n) i 0 ≡ get_or (evens (cut + 1) (n - cut)) (i - (cut - 1)) 0 = get_or-append_right (evens 1 (cut - 1)) (evens (cut + 1) (n - cut)) (cut - 1) i 0 b (omega arith) in
    let e : get_or (evens (cut + 1) (n - cut)) (i - (cut - 1)) 0 ≡ 2 * (cut + 1 + (i - (cut - 1))) = even_at (cut + 1) (n - cut) (i - (cut - 1)) (omega arith) in
    by_test (cut == 0)
    (λ z. let q : cut ≡ 0 = same_node cut 0 z in rw (t, z) (a ∙ e ∙ omega arith))
    (λ z. let q : cut ≡ 0 → ⊥ = other_node cut 0 z in rw (t, z) (a ∙ e ∙ omega arith)))

pub voice_small : (cut i : ℕ) → voice_at cut i ≤ i + 2
voice_small cut i = by_test (nat_lt (i + 1) cut)
    (λ t. rw t (omega arith))
    (λ t. by_test (cut == 0) (λ z. rw (t, z) (omega arith)) (λ z. rw (t, z) (omega arith)))

-- evens in two parts
split : (i k m t u : ℕ) → t ≡ k + m → tally u (evens i t) ≡ tally u (evens i k) + tally u (evens (i + k) m)
split i zero m t u e = let a : t ≡ m = omega arith in let b : i + 0 ≡ i = omega arith in rw (a, b) (omega arith)
split i (suc k) m zero u e = absurd (omega arith)
split i (suc k) m (suc t) u e =
    let h : tally u (evens (suc i) t) ≡ tally u (evens (suc i) k) + tally u (evens (suc i + k) m) = split (suc i) k m t u (omega arith) in
    let b : suc i + k ≡ i + suc k = omega arith in
    let h' : tally u (evens (suc i) t) ≡ tally u (evens (suc i) k) + tally u (evens (i + suc k) m) = rw b at h in omega arith

-- the feeders of box 0 with a voice, and without it
out_cut : (n c u : ℕ) → 1 ≤ c → c ≤ n → tally u (outs 0 n) ≡ cond (2 * c == u) 1 0 + tally u (outs c n)
out_cut n c u a b =
    let p : tally u (outs 0 n) ≡ tally u (evens 1 (0 - 1)) + tally u (evens (0 + 1) (n - 0)) = outs_parts 0 n u in
    let z : tally u (evens 1 (0 - 1)) ≡ 0 = evens_out 1 (0 - 1) u (λ j d f g. omega arith) in
    let s : tally u (evens 1 (n - 0)) ≡ tally u (evens 1 (c - 1)) + tally u (evens (1 + (c - 1)) (suc (n - c))) = split 1 (c - 1) (suc (n - c)) (n - 0) u (omega arith) in
    let q : tally u (outs c n) ≡ tally u (evens 1 (c - 1)) + tally u (evens (c + 1) (n - c)) = outs_parts c n u in
    let f : 1 + (c - 1) ≡ c = omega arith in
    let s' : tally u (evens 1 (n - 0)) ≡ tally u (evens 1 (c - 1)) + tally u (evens c (suc (n - c))) = rw f at s in
    let g : suc c ≡ c + 1 = omega arith in
    let r : tally u (evens c (suc (n - c))) ≡ cond (2 * c == u) 1 0 + tally u (evens (suc c) (n - c)) = refl in
    let r' : tally u (evens c (suc (n - c))) ≡ cond (2 * c == u) 1 0 + tally u (evens (c + 1) (n - c)) = subst (λ (v : ℕ). tally u (evens c (suc (n - c))) ≡ cond (2 * c == u) 1 0 + tally u (evens v (n - c))) g r in omega arith

pub out_there : (n c : ℕ) → 1 ≤ c → c ≤ n → 0 < tally (2 * c) (outs 0 n)
out_there n c a b = let k : tally (2 * c) (outs 0 n) ≡ 1 = out_one 0 n c a b (λ e. omega arith) in omega arith

pub cut_order : (n c : ℕ) (ns chain stuck : List ℕ) → 1 ≤ c → c ≤ n → IsOrder (voices n 0) ns chain stuck → IsOrder (add_wire (voices n c) (2 * c) 0) ns chain stuck
cut_order n c ns chain stuck a b o = same_order (voices n 0) (add_wire (voices n c) (2 * c) 0) ns ns chain stuck
    (record {
      ranks = λ x y _ _. (λ h. h, λ h. h);
      feeders = λ x u _. by_test (x == 0) (λ t. rw t (out_cut n c u a b)) (λ t. rw t refl);
    }) (λ _. refl) o

pub add_order : (n c : ℕ) (ns chain stuck : List ℕ) → 1 ≤ c → c ≤ n → IsOrder (voices n c) ns chain stuck → IsOrder (cut_wire (voices n 0) (2 * c) 0) ns chain stuck
add_order n c ns chain stuck a b o = same_order (voices n c) (cut_wire (voices n 0) (2 * c) 0) ns ns chain stuck
    (record {
      ranks = λ x y _ _. (λ h. h, λ h. h);
      feeders = λ x u _. by_test (x == 0)
          (λ t. let k : tally u (outs 0 n) ≡ cond (2 * c == u) 1 0 + tally u (outs c n) = out_cut n c u a b in
          let m : tally u (take_out (2 * c) (outs 0 n)) + cond (2 * c == u) 1 0 ≡ tally u (outs 0 n) = tally-take_out u (2 * c) (outs 0 n) (out_there n c a b) in
          let r : tally u (outs c n) ≡ tally u (take_out (2 * c) (outs 0 n)) = omega arith in rw t r)
          (λ t. rw t refl);
    }) (λ _. refl) o
