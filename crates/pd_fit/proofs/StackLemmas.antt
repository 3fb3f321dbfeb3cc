-- Stacked boxes are those of the tree, and so are the wires that fit.
use Rattle.std.proofs.Common.{arith, ◌≡◌, ℕ, zero, suc, ◌+◌, ◌-◌, ◌==◌, nat_lt, min, Bool, true, false, cond, List, [], ◌∷◌, ◌++◌, append_assoc, length, take, drop, filter, Some, refl, sym, ap, ◌∙◌}
use Rattle.std.proofs.lemmas.List.{append-nil}
use Rattle.std.proofs.lemmas.Bool.Decides.{nat_tests}
use Rattle.pd_canvas.specs.declared.wires.Wire.{Wire}
use Rattle.pd_tree.specs.declared.rows.Sheet.{Sheet}
use Rattle.pd_tree.specs.Trees.{Trees, Done, Leaf, Holder, Stand, width, stands_of}
use Rattle.pd_tree.specs.Ports.{Sockets, fits, trimmed_sheet}
use Rattle.pd_fit.specs.Fitting.{wires_inside, wires_fitting}
use Rattle.pd_fit.specs.Seeing.{View, leaf_view, holder_view, views_in, sockets_seen, fitting}
use Rattle.pd_fit.specs.Stacking.{stacked_on, stacked, wires_stacked}
use Rattle.pd_fit.proofs.PlaceLemmas.{sockets_are}

-- the first of two lists, and the second
take_first : (xs ys : List View) (n : ℕ) → length xs ≡ n → take n (xs ++ ys) ≡ xs
take_first [] ys zero h = refl
take_first [] ys (suc n) h = absurd (omega (arith, h))
take_first (x ∷ xs) ys zero h = absurd (omega (arith, h))
take_first (x ∷ xs) ys (suc n) h = ap (λ zs. x ∷ zs) (take_first xs ys n (omega (arith, h)))

drop_first : (xs ys : List View) (n : ℕ) → length xs ≡ n → drop n (xs ++ ys) ≡ ys
drop_first [] ys zero h = refl
drop_first [] ys (suc n) h = absurd (omega (arith, h))
drop_first (x ∷ xs) ys zero h = absurd (omega (arith, h))
drop_first (x ∷ xs) ys (suc n) h = drop_first xs ys n (omega (arith, h))

wide : (t : Trees) → length (views_in t) ≡ width t
wide Done = refl
wide (Leaf c rest) = let h = wide rest in omega (arith, h)
wide (Holder c s inner rest) = let h = wide rest in omega (arith, h)

pub stacked_are : (t : Trees) (more : List Stand) → stacked (stands_of t ++ more) ≡ views_in t ++ stacked more
stacked_are Done more = refl
stacked_are (Leaf c rest) more = ap (λ vs. leaf_view c ∷ vs) (stacked_are rest more)
stacked_are (Holder c s inner rest) more =
    let below = views_in rest ++ stacked more in
    ap (λ ss. stacked_on c (Some s) (width inner) (stacked ss)) (append_assoc (stands_of inner) (stands_of rest) more)
    ∙ ap (stacked_on c (Some s) (width inner)) (stacked_are inner (stands_of rest ++ more) ∙ ap (λ vs. views_in inner ++ vs) (stacked_are rest more))
    ∙ ap (λ vs. holder_view c vs ∷ drop (width inner) (views_in inner ++ below)) (take_first (views_in inner) below (width inner) (wide inner))
    ∙ ap (λ vs. holder_view c (views_in inner) ∷ vs) (drop_first (views_in inner) below (width inner) (wide inner))

pick : (b : Bool) (w : Wire) (ws : List Wire) (n : ℕ) → n ≡ length ws → cond b (1 + n) n ≡ length (cond b (w ∷ ws) ws)
pick true w ws n h = omega (arith, h)
pick false w ws n h = h

-- the wires between boxes that fit, as a list
counted : (vs : List View) (ws : List Wire) → fitting vs ws ≡ length (filter (fits (sockets_seen vs)) ws)
counted vs [] = refl
counted vs (w ∷ ws) = pick (fits (sockets_seen vs) w) w (filter (fits (sockets_seen vs)) ws) (fitting vs ws) (counted vs ws)

pub fitting_in : (t : Trees) (s : Sheet) → fitting (views_in t) s.wires ≡ length (trimmed_sheet t s).wires
fitting_in t s = counted (views_in t) s.wires ∙ ap (λ (bs : List Sockets). length (filter (fits bs) s.wires)) (sockets_are t)

wires_are : (t : Trees) (more : List Stand) → wires_stacked (stands_of t ++ more) ≡ wires_inside t + wires_stacked more
wires_are Done more = omega arith
wires_are (Leaf c rest) more = let h = wires_are rest more in omega (arith, h)
wires_are (Holder c s inner rest) more =
    let below = views_in rest ++ stacked more in
    let assoc = append_assoc (stands_of inner) (stands_of rest) more in
    let own : fitting (take (width inner) (stacked ((stands_of inner ++ stands_of rest) ++ more))) s.wires ≡ length (trimmed_sheet inner s).wires =
    (ap (λ vs. fitting (take (width inner) vs) s.wires) (ap stacked assoc ∙ stacked_are inner (stands_of rest ++ more) ∙ ap (λ vs. views_in inner ++ vs) (stacked_are rest more))
    ∙ ap (λ vs. fitting vs s.wires) (take_first (views_in inner) below (width inner) (wide inner)) ∙ fitting_in inner s) in
    let inside = ap wires_stacked assoc ∙ wires_are inner (stands_of rest ++ more) in
    let others = wires_are rest more in
    omega (arith, own, inside, others)

-- stacked boxes are those of the root, and their wires are those inside
pub stacked_all : (ss : List Stand) (t : Trees) → ss ≡ stands_of t → stacked ss ≡ views_in t
stacked_all ss t h = ap stacked (h ∙ sym (append-nil (stands_of t))) ∙ stacked_are t [] ∙ append-nil (views_in t)

pub wires_all : (ss : List Stand) (t : Trees) → ss ≡ stands_of t → wires_stacked ss ≡ wires_inside t
wires_all ss t h =
    let a = ap wires_stacked (h ∙ sym (append-nil (stands_of t))) in
    let b = wires_are t [] in
    omega (arith, a, b)

fewer : (n less : ℕ) → less ≡ 65537 - n → (less == 0) ≡ nat_lt 65536 n
fewer n less h = grind (arith, nat_tests)

-- what is left of 65,537 tells whether more wires fit
pub counted_all : (s : Sheet) (t : Trees) (ss : List Stand) (vs : List View) (left less : ℕ) → ss ≡ stands_of t → vs ≡ stacked ss → left ≡ 65537 - wires_stacked ss
    → less ≡ left - fitting vs s.wires → (less == 0) ≡ nat_lt 65536 (wires_fitting s t)
counted_all s t ss vs left less h v l m =
    let own : fitting vs s.wires ≡ length (trimmed_sheet t s).wires = (ap (λ x. fitting x s.wires) (v ∙ stacked_all ss t h) ∙ fitting_in t s) in
    let inside = wires_all ss t h in
    fewer (wires_fitting s t) less (omega (arith, l, m, own, inside))

-- so many of 65,537 are no longer left
pub capped : (n all left : ℕ) → all ≡ n → left ≡ 65537 - all → 65537 - left ≡ min 65537 n
capped n all left h k = grind (arith, min)
