-- Names that the boxes of a list own, counted box by box.
use Rattle.std.proofs.Common.{◌≡◌, ◌≢◌, ℕ, ◌+◌, ◌<◌, ◌≤◌, ◌^◌, Bool, true, false, cond, List, [], ◌∷◌, ◌++◌, filter, map, length, length-append, take, get_or, Option, Some, None, refl, sym, ap, ◌∙◌, subst, arith}
use Rattle.std.proofs.lemmas.Bool.{false≢true}
use Rattle.std.proofs.lemmas.List.{take_more, map-append}
use Rattle.std.proofs.lemmas.List.Elements.{filter-append}
use Rattle.pd_order.proofs.Basics.{by_test}
use Rattle.pd_atom.specs.Names.{Names}
use Rattle.pd_name.specs.declared.Class.{Class}
use Rattle.pd_name.specs.Rows.{owners_of, spare_of, OwnersStay}
use Rattle.pd_name.specs.Rows as rows
use Rattle.pd_tree.specs.declared.rows.Row.{Row}
use Rattle.pd_tree.specs.Trees.{Stand, stand_of, stands_in}
use Rattle.pd_bind.specs.Naming.{owned_by, Owned}
use Rattle.pd_bind.specs.Owning.{is_owned}
use Rattle.pd_owning.specs.Bound.{HasRoom, OthersStay}
use Rattle.pd_instances.specs.Room.{owning_among, owning_one}

module _ (table : Names) (class : Class) (name : ℕ) where
  one_owning : (s : Stand) → owning_among table class name (s ∷ []) ≡ owning_one class name (owned_by table true s.cell)
  one_owning s = by (is_owned class name (owned_by table true s.cell))
    where
      by : (b : Bool) → length (cond b (s ∷ []) []) ≡ cond b 1 0
      by true = refl
      by false = refl

  both_owning : (ss ts : List Stand) → owning_among table class name (ss ++ ts) ≡ owning_among table class name ss + owning_among table class name ts
  both_owning ss ts =
      ap length (filter-append (λ (s : Stand). is_owned class name (owned_by table true s.cell)) ss ts)
      ∙ length-append (filter (λ (s : Stand). is_owned class name (owned_by table true s.cell)) ss) (filter (λ (s : Stand). is_owned class name (owned_by table true s.cell)) ts)

  pub owning_next : (all : List Row) (n : ℕ) (row : Row) → n < length all → get_or all n row ≡ row
      → owning_among table class name (stands_in (take (n + 1) all)) ≡ owning_among table class name (stands_in (take n all)) + owning_one class name (owned_by table true (stand_of row).cell)
  owning_next all n row low is =
      ap (λ rs. owning_among table class name (stands_in rs)) (take_more all n row low ∙ ap (λ r. take n all ++ r ∷ []) is)
      ∙ ap (owning_among table class name) (map-append stand_of (take n all) (row ∷ []))
      ∙ both_owning (stands_in (take n all)) (stand_of row ∷ [])
      ∙ ap (λ m. owning_among table class name (stands_in (take n all)) + m) (one_owning (stand_of row))

-- room for as many owners stays where those of another name get more
pub room_next : (old new counted : List rows.Row) (owned : Option Owned) (class : Class) (name was now : ℕ) → OwnersStay old new → OthersStay old new owned
    → (was ≢ 0 → HasRoom old (Some (class, name)) was) → now ≡ was + owning_one class name owned → length (owners_of counted class name) ≡ now
    → (is_owned class name owned ≡ true → HasRoom new (Some (class, name)) (length (owners_of counted class name))) → now ≢ 0 → HasRoom new (Some (class, name)) now
room_next old new counted owned class name was now stay others had e many here some = by_test (is_owned class name owned)
    (λ t. subst (λ n. HasRoom new (Some (class, name)) n) many (here t))
    (λ f.
    let same : now ≡ was = e ∙ ap (λ b. was + cond b 1 0) f ∙ plus_zero was in
    let R = had (λ z. some (same ∙ z)) in
    let s = others.spare class name f in
    let o = ap length (stay class name) in
    (let r = R.0 in omega (arith, r, s, same), let r = R.1 in omega (arith, r, o, same)))
  where
    plus_zero : (n : ℕ) → n + 0 ≡ n
    plus_zero n = omega arith

pub owned_next : (table table' : Names) (class : Class) (name : ℕ) (all : List Row) (n : ℕ) (row : Row) (owned : Option Owned) → n < length all → row ≡ get_or all n row → table' ≡ table
    → owned ≡ owned_by table' true (stand_of row).cell
    → owning_among table class name (stands_in (take (n + 1) all)) ≡ owning_among table class name (stands_in (take n all)) + owning_one class name owned
owned_next table table' class name all n row owned low is same value =
    owning_next table class name all n row low (sym is)
    ∙ ap (λ o. owning_among table class name (stands_in (take n all)) + owning_one class name o) (sym (value ∙ ap (λ (t : Names). owned_by t true (stand_of row).cell) same))
