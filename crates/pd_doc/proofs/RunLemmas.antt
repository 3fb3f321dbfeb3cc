-- Records in order.
use Rattle.std.proofs.Common.{◌≡◌, ℕ, ◌+◌, ◌-◌, ◌<◌, ◌≤◌, false, List, [], ◌∷◌, length, take, drop, refl, sym, ap, ◌∙◌, subst, arith, Ok, length-drop}
use Rattle.std.proofs.lemmas.List.{take_all}
use Rattle.std.specs.List.{list_all}
use Rattle.pd_lex.specs.Text.{Piece, is_space}
use Rattle.pd_lex.specs.Reading.{records, rest_of, Reads, KeepsRest}
use Rattle.pd_lex.specs.declared.Step.{Step}
use Rattle.pd_lex.specs.declared.Step.TheVariants.{Rec, End, Bad}
use Rattle.pd_atom.specs.Names.{Names}
use Rattle.pd_doc.specs.declared.refusal.DocRefusal.{DocRefusal}
use Rattle.pd_doc.specs.Results.{◌>>=◌, Refuses}
use Rattle.pd_doc.specs.States.{State}
use Rattle.pd_doc.specs.Records.{Reading}
use Rattle.pd_doc.specs.Reading.{any_record, run}
use Rattle.pd_doc.proofs.ResultLemmas.{refused_then}

pub run-record : (s : State × Names) (n : ℕ) (r : List Piece) (rs : List (List Piece)) → run s n (r ∷ rs) ≡ (any_record s (n + 1) r >>= (λ t. run t (n + 1) rs))
unfolding run
run-record s n r rs = refl

pub run-end : (s : State × Names) (n : ℕ) → run s n [] ≡ Ok s
unfolding run
run-end s n = refl

-- a record is read, and the others are to come
pub run_goes_on : (s t : State × Names) (n : ℕ) (now later : List (List Piece)) (r : List Piece) (whole : Reading) →
    now ≡ r ∷ later → any_record s (n + 1) r ≡ Ok t → run s n now ≡ whole → run t (n + 1) later ≡ whole
run_goes_on s t n now later r whole d h w =
    sym (ap (λ x. x >>= (λ y. run y (n + 1) later)) h) ∙ sym (run-record s n r later) ∙ ap (run s n) (sym d) ∙ w

pub run_refuses : (s : State × Names) (n : ℕ) (now later : List (List Piece)) (r : List Piece) (e : DocRefusal) (whole : Reading) →
    now ≡ r ∷ later → Refuses e (any_record s (n + 1) r) → run s n now ≡ whole → Refuses e whole
run_refuses s n now later r e whole d h w =
    subst (Refuses e) (sym (run-record s n r later) ∙ ap (run s n) (sym d) ∙ w) (refused_then e (any_record s (n + 1) r) (λ t. run t (n + 1) later) h)

pub run_done : (s : State × Names) (n : ℕ) (now : List (List Piece)) (whole : Reading) → now ≡ [] → run s n now ≡ whole → whole ≡ Ok s
run_done s n now whole d w = sym w ∙ ap (run s n) d ∙ run-end s n

-- ---- the text behind the last record

pub record NoMore (bytes : List ℕ) (at : ℕ) : Type 0 where
  pub none : records (drop at bytes) ≡ []
  pub rest : rest_of (drop at bytes) ≡ drop at bytes

pub no_more : (bytes : List ℕ) (at : ℕ) (s : Step) → ((x y : ℕ) → s ≡ Rec x y → ⊥) → Reads bytes at s → KeepsRest bytes at s → NoMore bytes at
no_more bytes at (Rec x y) h r k = absurd (h x y refl)
no_more bytes at End h r k = record { none = r.1; rest = k }
no_more bytes at (Bad b) h r k = record { none = r; rest = k.0 }

pub tail_is : (s : List ℕ) (n : ℕ) → take (length s - n) (drop n s) ≡ drop n s
tail_is s n = take_all (length s - n) (drop n s) (omega (arith, length-drop n s))

some_left : (s : List ℕ) → list_all is_space s ≡ false → 0 < length s
some_left [] h = absurd (cc)
some_left (b ∷ bs) h = omega arith

pub below_end : (bytes : List ℕ) (at count : ℕ) → count ≤ at → length bytes ≤ 4294967295 → list_all is_space (drop at bytes) ≡ false → count < 4294967295
below_end bytes at count h k e = omega (arith, some_left (drop at bytes) e, length-drop at bytes)
