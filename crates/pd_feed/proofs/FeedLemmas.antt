-- What a feed does with the bytes at hand.
use Rattle.std.proofs.Common.{◌≡◌, ℕ, ◌+◌, ◌<◌, Bool, false, List, [], ◌∷◌, ◌++◌, length, take, drop, Option, Some, None, refl, sym, ap, ◌∙◌, arith, length-append, Result, Ok, Err, IfOk, OnErr}
use Rattle.std.proofs.lemmas.List.{take-append-drop, length-take-le, take_all, take-append-le, append-nil}
use Rattle.std.specs.List.{prefix_len}
use Rattle.pd_lex.specs.Text.{is_space}
use Rattle.pd_lex.specs.Reading.{semicolon}
use Rattle.pd_feed.specs.Scan.{scan_of, later}
use Rattle.pd_feed.specs.Script.{record_text}
use Rattle.pd_feed.specs.Bytes.{Gains}
use Rattle.pd_feed.specs.Kept.{IsSearched}
use Rattle.pd_feed.proofs.ScanLemmas.{place_of, semicolon-scan, scan-append, found-within, prefix_take, by_test}
use Rattle.pd_feed.specs.declared.scan.Scan.{Scan}
use Rattle.pd_feed.specs.declared.scan.Scan.TheVariants.{Found, Ended}

-- ---- the search goes on from where it was left

pub searched : (bytes : List ℕ) (n : ℕ) (escaped : Bool) → IsSearched bytes n escaped →
    scan_of false bytes ≡ later n (scan_of escaped (drop n bytes))
searched bytes n escaped h =
    ap (scan_of false) (sym (take-append-drop n bytes)) ∙ scan-append false (take n bytes) (drop n bytes) escaped h.none
    ∙ ap (λ k. later k (scan_of escaped (drop n bytes))) (length-take-le n bytes h.within)

pub found_next : (bytes : List ℕ) (n : ℕ) (escaped : Bool) (place : ℕ) → IsSearched bytes n escaped →
    Found place ≡ scan_of escaped (drop n bytes) → Some (n + place) ≡ semicolon bytes
found_next bytes n escaped place h f =
    sym (semicolon-scan bytes ∙ ap place_of (searched bytes n escaped h ∙ ap (later n) (sym f)))

pub ended_next : (bytes : List ℕ) (n : ℕ) (escaped after : Bool) → IsSearched bytes n escaped →
    Ended after ≡ scan_of escaped (drop n bytes) → None ≡ semicolon bytes
ended_next bytes n escaped after h f =
    sym (semicolon-scan bytes ∙ ap place_of (searched bytes n escaped h ∙ ap (later n) (sym f)))

pub searched_all : (bytes : List ℕ) (n : ℕ) (escaped after : Bool) → IsSearched bytes n escaped → prefix_len is_space bytes ≡ 0 →
    Ended after ≡ scan_of escaped (drop n bytes) → (m : ℕ) → m ≡ length bytes → IsSearched bytes m after
searched_all bytes n escaped after h b f m e = record {
  within = omega arith;
  none = ap (scan_of false) (take_all m bytes (omega arith)) ∙ searched bytes n escaped h ∙ ap (later n) (sym f);
  begun = λ _. b;
}

place_within : (bytes : List ℕ) (place : ℕ) (s : Scan) → scan_of false bytes ≡ s → place_of s ≡ Some place → place < length bytes
place_within bytes place (Found k) e h = let q : k ≡ place = cc in omega (arith, found-within false bytes k e)
place_within bytes place (Ended o) e h = absurd (cc)

pub semicolon-within : (bytes : List ℕ) (place : ℕ) → semicolon bytes ≡ Some place → place < length bytes
semicolon-within bytes place h = place_within bytes place (scan_of false bytes) refl (sym (semicolon-scan bytes) ∙ h)

-- the text of a record that has no white space before it
pub text_begun : (bytes : List ℕ) (place : ℕ) → prefix_len is_space bytes ≡ 0 → take place bytes ≡ record_text place bytes
text_begun bytes place h = sym (ap (λ n. drop n (take place bytes)) (prefix_take place bytes h))

-- ---- more bytes at hand

begun-append : (bytes piece : List ℕ) → 0 < length bytes → prefix_len is_space bytes ≡ 0 → prefix_len is_space (bytes ++ piece) ≡ 0
begun-append [] piece z h = absurd (omega arith)
begun-append (b ∷ bytes) piece z h = by_test (is_space b) (λ e. absurd (let q = rw e at h in omega arith)) (λ e. rw e refl)

pub searched_more : (bytes piece : List ℕ) (n : ℕ) (escaped : Bool) → IsSearched bytes n escaped → IsSearched (bytes ++ piece) n escaped
searched_more bytes piece n escaped h = record {
  within = omega (arith, h.within, length-append bytes piece);
  none = ap (scan_of false) (take-append-le n bytes piece h.within) ∙ h.none;
  begun = λ z. begun-append bytes piece (omega (arith, h.within)) (h.begun z);
}

pub came_behind : {E : Type 0} (r : Result ℕ E) (old new : List ℕ) (x y : Option (List ℕ)) → IfOk r (λ n. Gains n old x new y) → OnErr r (new ≡ old) →
    (piece : List ℕ) × (new ≡ old ++ piece)
came_behind (Ok n) old new x y g e = (g.piece, g.bytes)
came_behind (Err f) old new x y g e = ([], e ∙ sym (append-nil old))
