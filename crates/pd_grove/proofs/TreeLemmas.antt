-- Boxes put one after another.
use Rattle.std.proofs.Common.{◌≡◌, ℕ, suc, ◌+◌, List, [], ◌∷◌, ◌++◌, refl, sym, ap, Some, arith}
use Rattle.std.specs.Prelude.{max}
use Rattle.pd_tree.specs.Trees.{Trees, Done, Leaf, Holder, Stand, join, width, stands_of}
use Rattle.pd_grove.specs.TextOrder.{deep}

pub width-join : (a b : Trees) → width (join a b) ≡ width a + width b
width-join Done b = omega arith
width-join (Leaf c rest) b = let h = width-join rest b in omega (arith, h)
width-join (Holder c s inner rest) b = let h = width-join rest b in omega (arith, h)

pub deep-join : (a b : Trees) → deep (join a b) ≡ max (deep a) (deep b)
deep-join Done b = omega arith
deep-join (Leaf c rest) b = deep-join rest b
deep-join (Holder c s inner rest) b = let h = deep-join rest b in omega (arith, h)

pub join-assoc : (a b c : Trees) → join (join a b) c ≡ join a (join b c)
join-assoc Done b c = refl
join-assoc (Leaf x rest) b c = ap (Leaf x) (join-assoc rest b c)
join-assoc (Holder x s inner rest) b c = ap (Holder x s inner) (join-assoc rest b c)

-- the first box, and the others
abbrev pub first_box : Trees → Trees
first_box Done = Done
first_box (Leaf c rest) = Leaf c Done
first_box (Holder c s inner rest) = Holder c s inner Done

abbrev pub other_boxes : Trees → Trees
other_boxes Done = Done
other_boxes (Leaf c rest) = rest
other_boxes (Holder c s inner rest) = rest

pub first_other : (t : Trees) → join (first_box t) (other_boxes t) ≡ t
first_other Done = refl
first_other (Leaf c rest) = refl
first_other (Holder c s inner rest) = refl

pub first_width : (t : Trees) (n : ℕ) → width t ≡ suc n → width (first_box t) ≡ 1
first_width Done n h = absurd (omega (arith, h))
first_width (Leaf c rest) n h = refl
first_width (Holder c s inner rest) n h = refl

pub first_stands : (t : Trees) → stands_of t ≡ stands_of (first_box t) ++ stands_of (other_boxes t)
first_stands Done = refl
first_stands (Leaf c rest) = refl
first_stands (Holder c s inner rest) =
    let h : Stand = record { cell = c; sheet = Some s; boxes = width inner } in
    ap (λ l. h ∷ l) (ap (λ l. l ++ stands_of rest) (sym (nil (stands_of inner))))
  where
    nil : (xs : List Stand) → xs ++ [] ≡ xs
    nil [] = refl
    nil (x ∷ xs) = ap (λ l. x ∷ l) (nil xs)

-- where there are boxes, some stand is first
pub some_stand : (t : Trees) (n : ℕ) → width t ≡ suc n → (x : Stand) × (xs : List Stand) × (stands_of t ≡ x ∷ xs)
some_stand Done n h = absurd (omega (arith, h))
some_stand (Leaf c rest) n h = (_, _, refl)
some_stand (Holder c s inner rest) n h = (_, _, refl)

pub no_boxes : (t : Trees) → width t ≡ 0 → t ≡ Done
no_boxes Done h = refl
no_boxes (Leaf c rest) h = absurd (omega (arith, h))
no_boxes (Holder c s inner rest) h = absurd (omega (arith, h))
