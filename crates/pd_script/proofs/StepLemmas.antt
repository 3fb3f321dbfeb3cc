-- The numbers of a path, one after the other.
use Rattle.std.proofs.Common.{◌≡◌, ℕ, ◌+◌, ◌-◌, ◌<◌, ◌≤◌, false, eqb, List, [], ◌∷◌, ◌++◌, length, get_or, take, drop, refl, sym, ap, ◌∙◌, arith, add-one, drop-cons, Option, Some, None, append_assoc, drop-drop}
use Rattle.std.specs.Prelude.{slice_range}
use Rattle.std.proofs.Math.Seq.{take-add}
use Rattle.pd_script.specs.Options.{◌>>=◌}
use Rattle.pd_script.specs.Fields.{step_of, steps_of, parts_after}

-- the numbers so far, and then those that reading gives
abbrev pub with_steps : List ℕ → Option (List ℕ) → Option (List ℕ)
with_steps front r = r >>= (λ ns. Some (front ++ ns))

front_moves : (front : List ℕ) (n : ℕ) (r : Option (List ℕ)) →
    with_steps front (r >>= (λ ns. Some (n ∷ ns))) ≡ with_steps (front ++ n ∷ []) r
front_moves front n (Some ns) = ap (λ l. Some l) (sym (append_assoc front (n ∷ []) ns))
front_moves front n None = refl

cons_step : (front part : List ℕ) (parts : List (List ℕ)) (n : ℕ) → step_of part ≡ Some n →
    with_steps front (steps_of (part ∷ parts)) ≡ with_steps (front ++ n ∷ []) (steps_of parts)
cons_step front part parts n h =
    ap (λ r. with_steps front (r >>= (λ m. steps_of parts >>= (λ ns. Some (m ∷ ns))))) h ∙ front_moves front n (steps_of parts)

stop_step : (front part : List ℕ) (parts : List (List ℕ)) → step_of part ≡ None → with_steps front (steps_of (part ∷ parts)) ≡ None
stop_step front part parts h = ap (λ r. with_steps front (r >>= (λ m. steps_of parts >>= (λ ns. Some (m ∷ ns))))) h

at_slash : (part s : List ℕ) (i : ℕ) → i < length s → get_or s i 0 ≡ 47 → parts_after part (drop i s) ≡ part ∷ parts_after [] (drop (i + 1) s)
at_slash part s i h e =
    let d : drop i s ≡ get_or s i 0 ∷ drop (i + 1) s = rw add-one (drop-cons s i 0 h) in
    rw (d, e) refl

at_other : (part s : List ℕ) (i : ℕ) → i < length s → eqb (get_or s i 0) 47 ≡ false →
    parts_after part (drop i s) ≡ parts_after (part ++ get_or s i 0 ∷ []) (drop (i + 1) s)
at_other part s i h e =
    let d : drop i s ≡ get_or s i 0 ∷ drop (i + 1) s = rw add-one (drop-cons s i 0 h) in
    rw (d, e) refl

abbrev pub Whole : List ℕ → List ℕ → List ℕ → Option (List ℕ) → Type 0
Whole front part bytes whole = with_steps front (steps_of (parts_after part bytes)) ≡ whole

pub goes_on_slash : (front part s : List ℕ) (i n : ℕ) (whole : Option (List ℕ)) → i < length s → get_or s i 0 ≡ 47 → step_of part ≡ Some n →
    Whole front part (drop i s) whole → Whole (front ++ n ∷ []) [] (drop (i + 1) s) whole
goes_on_slash front part s i n whole h e st w =
    sym (ap (λ ps. with_steps front (steps_of ps)) (at_slash part s i h e) ∙ cons_step front part (parts_after [] (drop (i + 1) s)) n st) ∙ w

pub stops_slash : (front part s : List ℕ) (i : ℕ) (whole : Option (List ℕ)) → i < length s → get_or s i 0 ≡ 47 → step_of part ≡ None →
    Whole front part (drop i s) whole → whole ≡ None
stops_slash front part s i whole h e st w =
    sym w ∙ ap (λ ps. with_steps front (steps_of ps)) (at_slash part s i h e) ∙ stop_step front part (parts_after [] (drop (i + 1) s)) st

one_more : (s : List ℕ) (from i : ℕ) → from ≤ i → i < length s → slice_range s from (i + 1) ≡ slice_range s from i ++ get_or s i 0 ∷ []
one_more s from i f h =
    let n : i + 1 - from ≡ (i - from) + 1 = omega arith in
    let d : drop i s ≡ get_or s i 0 ∷ drop (i + 1) s = rw add-one (drop-cons s i 0 h) in
    let k : from + (i - from) ≡ i = omega arith in
    let t : drop (i - from) (drop from s) ≡ get_or s i 0 ∷ drop (i + 1) s = drop-drop (i - from) from s ∙ ap (λ m. drop m s) (omega arith) ∙ d in
    rw n (take-add (i - from) 1 (drop from s) ∙ ap (λ l. take (i - from) (drop from s) ++ take 1 l) t)

pub goes_on_other : (front s : List ℕ) (from i : ℕ) (whole : Option (List ℕ)) → from ≤ i → i < length s → eqb (get_or s i 0) 47 ≡ false →
    Whole front (slice_range s from i) (drop i s) whole → Whole front (slice_range s from (i + 1)) (drop (i + 1) s) whole
goes_on_other front s from i whole f h e w =
    rw (one_more s from i f h) (sym (ap (λ ps. with_steps front (steps_of ps)) (at_other (slice_range s from i) s i h e)) ∙ w)

pub no_part : (s : List ℕ) (i : ℕ) → slice_range s i i ≡ []
no_part s i = let z : i - i ≡ 0 = omega arith in rw z refl
