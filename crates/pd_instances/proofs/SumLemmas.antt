-- Ports of boxes, summed.
use Rattle.std.proofs.Common.{◌≡◌, ℕ, ◌+◌, Bool, true, false, ◌||◌, List, [], ◌∷◌, ◌++◌, take, drop, refl, sym, ap, ◌∙◌, arith}
use Rattle.std.proofs.Math.Seq.{take-add}
use Rattle.std.proofs.lemmas.List.{drop-drop}
use Rattle.pd_instances.specs.declared.needs.Need.{Need}
use Rattle.pd_instances.specs.declared.needs.PortCount.{PortCount}
use Rattle.pd_instances.specs.Needs.{no_port, plus, sum_of}

same_count : (a b : PortCount) → a.inlets ≡ b.inlets → a.outlets ≡ b.outlets → a.is_signal ≡ b.is_signal → a ≡ b
same_count a b p q r = λ i. record { inlets = p i; outlets = q i; is_signal = r i }

or_none : (b : Bool) → (b || false) ≡ b
or_none true = refl
or_none false = refl

or_assoc : (a b c : Bool) → ((a || b) || c) ≡ (a || (b || c))
or_assoc true b c = refl
or_assoc false b c = refl

pub plus_none : (a : PortCount) → plus a no_port ≡ a
plus_none a = same_count (plus a no_port) a (omega arith) (omega arith) (or_none a.is_signal)

none_plus : (a : PortCount) → a ≡ plus no_port a
none_plus a = same_count a (plus no_port a) (omega arith) (omega arith) refl

plus_assoc : (a b c : PortCount) → plus (plus a b) c ≡ plus a (plus b c)
plus_assoc a b c = same_count (plus (plus a b) c) (plus a (plus b c)) (omega arith) (omega arith) (or_assoc a.is_signal b.is_signal c.is_signal)

pub sum_append : (xs ys : List PortCount) → sum_of (xs ++ ys) ≡ plus (sum_of xs) (sum_of ys)
sum_append [] ys = none_plus (sum_of ys)
sum_append (x ∷ xs) ys = ap (plus x) (sum_append xs ys) ∙ sym (plus_assoc x (sum_of xs) (sum_of ys))

-- one more of a list
pub sum_next : (all now : List PortCount) (i : ℕ) (sum more : PortCount) → sum ≡ sum_of (take i all) → now ≡ drop i all → more ≡ plus sum (sum_of (take 1 now)) → more ≡ sum_of (take (i + 1) all)
sum_next all now i sum more s r e =
    e ∙ ap (λ x. plus x (sum_of (take 1 now))) s ∙ ap (λ ys. plus (sum_of (take i all)) (sum_of (take 1 ys))) r
    ∙ sym (sum_append (take i all) (take 1 (drop i all))) ∙ ap sum_of (sym (take-add i 1 all))

pub rest_next : (all now new : List PortCount) (i : ℕ) → now ≡ drop i all → new ≡ drop 1 now → new ≡ drop (i + 1) all
rest_next all now new i r e = e ∙ ap (λ ys. drop 1 ys) r ∙ drop-drop 1 i all

pub same_need : (a b : Need) → a.inlets ≡ b.inlets → a.outlets ≡ b.outlets → a.blocks ≡ b.blocks → a ≡ b
same_need a b p q r = λ i. record { inlets = p i; outlets = q i; blocks = r i }
