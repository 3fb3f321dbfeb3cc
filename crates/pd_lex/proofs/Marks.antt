-- Bytes that are passed over at once.
use Rattle.std.proofs.Common.{◌≡◌, ◌≢◌, ℕ, zero, suc, ◌+◌, ◌-◌, ◌<◌, ◌≤◌, true, List, [], ◌∷◌, length, get_or, drop, min, ltb, Some, None, sym, ap, ◌∙◌, arith, length-drop}
use Rattle.std.proofs.lemmas.List.{drop-drop, drop_all, get_or-drop}
use Rattle.std.proofs.lemmas.Bool.Decides.{nat_tests}
use Rattle.memchr.specs.Find.{IsFirstByte, is_byte2}
use Rattle.pd_lex.specs.Reading.{semicolon, plus, IsMark}
use Rattle.pd_lex.proofs.Laws.{by_test}
use Rattle.pd_lex.proofs.Steps.{semicolon-plain, semicolon_two, semicolon_last, semicolon_found, semicolon_start, plus-plus, plus-zero}

-- the test of a semicolon or a backslash
mark_of : (b : ℕ) → is_byte2 59 92 b ≡ true → b ≢ 59 → b ≡ 92
mark_of b h n = grind (arith, nat_tests)

passed_over : (s : List ℕ) (k : ℕ) → k ≤ length s → ((j : ℕ) → j < k → is_byte2 59 92 (get_or s j 0) ≡ true → ⊥) →
    semicolon s ≡ plus k (semicolon (drop k s))
passed_over s zero h n = sym (plus-zero (semicolon s))
passed_over [] (suc k) h n = absurd (omega arith)
passed_over (b ∷ bs) (suc k) h n =
    let here : is_byte2 59 92 b ≡ true → ⊥ = n 0 (omega arith) in
    let no59 : b ≢ 59 = (λ e. here (ap (is_byte2 59 92) e)) in
    let no92 : b ≢ 92 = (λ e. here (ap (is_byte2 59 92) e)) in
    semicolon-plain b bs no59 no92 ∙ ap (plus 1) (passed_over bs k (omega arith) (λ j l. n (suc j) (omega arith)))
    ∙ plus-plus 1 k (semicolon (drop k bs)) ∙ ap (λ m. plus m (semicolon (drop k bs))) (let q : 1 + k ≡ suc k = omega arith in q)

pub no_mark : (bytes : List ℕ) (at : ℕ) → IsFirstByte (is_byte2 59 92) (drop at bytes) None → semicolon (drop at bytes) ≡ None
no_mark bytes at h =
    let s : List ℕ = drop at bytes in
    passed_over s (length s) (omega arith) (λ j l. h j (omega arith) l)
    ∙ ap (λ r. plus (length s) (semicolon r)) (drop_all (length s) s (omega arith))

pub mark_at : (bytes : List ℕ) (at k : ℕ) → at ≤ length bytes → IsFirstByte (is_byte2 59 92) (drop at bytes) (Some k) → IsMark bytes at (at + k)
mark_at bytes at k h f =
    let n = f.0 in
    let len : length (drop at bytes) ≡ length bytes - at = length-drop at bytes in
    let same : get_or (drop at bytes) k 0 ≡ get_or bytes (at + k) 0 = get_or-drop at bytes k 0 in
    let jump = passed_over (drop at bytes) k (omega (arith, n.high)) (λ j l. n.before j (omega arith) l) in
    record {
      from = omega arith;
      within = omega (arith, n.high);
      either = mark_of (get_or bytes (at + k) 0) (ap (is_byte2 59 92) (sym same) ∙ f.1);
      passed =
          ap (plus at) jump ∙ plus-plus at k (semicolon (drop k (drop at bytes)))
          ∙ ap (λ r. plus (at + k) (semicolon r)) (drop-drop k at bytes);
    }

-- behind a backslash the search goes on behind the byte that it takes along, or ends
pub semicolon_behind : (s : List ℕ) (k i : ℕ) → k < length s → get_or s k 0 ≡ 92 → i ≡ min (k + 2) (length s) →
    plus k (semicolon (drop k s)) ≡ plus i (semicolon (drop i s))
semicolon_behind s k i h b is =
    by_test (ltb (k + 1) (length s))
    (λ e.
    let more : k + 1 < length s = grind (arith, nat_tests) in
    let z : k + 2 ≡ i = omega arith in
    semicolon_two s k more b ∙ ap (λ j. plus j (semicolon (drop j s))) z)
    (λ e.
    let last : length s ≤ k + 1 = grind (arith, nat_tests) in
    semicolon_last s k (omega arith) b ∙ ap (plus i) (sym (ap semicolon (drop_all i s (omega arith)))))

pub ruleset mark_steps = (semicolon_behind, semicolon_found, semicolon_start)
