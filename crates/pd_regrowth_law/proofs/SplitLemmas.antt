-- Growing boxes one after another is growing a first part of them and then the rest.
use Rattle.std.proofs.Common.{◌≡◌, ℕ, List, [], ◌∷◌, ◌++◌, Option, Result, Ok, Err, refl, sym, ap, ◌∙◌}
use Rattle.pd_canvas.specs.Pages.{Entry}
use Rattle.pd_library.specs.declared.answers.Answer.{Answer}
use Rattle.pd_tree.specs.Trees.{Trees, Done, Leaf, Holder, join}
use Rattle.pd_growth.specs.declared.growing.Stop.{Stop}
use Rattle.pd_growth.specs.Steps.{Stock, Step, gives, goes_on, ◌>>=◌}
use Rattle.pd_growth.specs.Making.{Around}
use Rattle.pd_growth.specs.Growth.{Inner, box_grown, boxes_grown}
use Rattle.pd_regrowth_law.specs.Regrowth.{grown_in_parts}
use Rattle.pd_regrowth_law.proofs.StepLemmas.{no_boxes, more_boxes}

-- ---- chains of steps

gives_last : {A : Type 0} (r : Result A Stop) (v : Stock) → goes_on r v (λ a u. gives a u) ≡ record { answer = r; stock = v }
gives_last (Ok a) v = refl
gives_last (Err e) v = refl

pub chain_of_chain : {A B C : Type 0} (r : Result A Stop) (v : Stock) (f : A → Stock → Step B) (g : B → Stock → Step C)
    → (goes_on r v f >>= g) ≡ goes_on r v (λ a u. f a u >>= g)
chain_of_chain (Ok a) v f g = refl
chain_of_chain (Err e) v f g = refl

pub same_chain : {A B : Type 0} (r : Result A Stop) (v : Stock) (f g : A → Stock → Step B) → ((a : A) (u : Stock) → f a u ≡ g a u)
    → goes_on r v f ≡ goes_on r v g
same_chain (Ok a) v f g h = h a v
same_chain (Err e) v f g h = refl

-- ---- boxes

pub join_assoc : (t r u : Trees) → join (join t r) u ≡ join t (join r u)
join_assoc Done r u = refl
join_assoc (Leaf c t) r u = ap (Leaf c) (join_assoc t r u)
join_assoc (Holder c s inner t) r u = ap (Holder c s inner) (join_assoc t r u)

-- boxes before what a step gives
joined_to : (box t : Trees) (s : Step Trees)
    → ((s >>= (λ r y. gives (join t r) y)) >>= (λ rest z. gives (join box rest) z)) ≡ (s >>= (λ r y. gives (join (join box t) r) y))
joined_to box t s =
    chain_of_chain s.answer s.stock (λ r y. gives (join t r) y) (λ rest z. gives (join box rest) z)
    ∙ same_chain s.answer s.stock (λ r y. gives (join box (join t r)) y) (λ r y. gives (join (join box t) r) y)
    (λ r y. ap (λ x. gives x y) (sym (join_assoc box t r)))

pub grown_splits : (lib : ℕ → Option Answer) (root : List ℕ) (left : ℕ) (inner : Inner) (a : Around) (es fs : List Entry) (w : Stock)
    → boxes_grown lib root left inner a (es ++ fs) w
    ≡ grown_in_parts lib root left inner a es fs w
grown_splits lib root left inner a [] fs w =
    let s = boxes_grown lib root left inner a fs w in
    sym (gives_last s.answer s.stock) ∙ ap (λ y. y >>= (λ first v. boxes_grown lib root left inner a fs v >>= (λ rest u. gives (join first rest) u))) (sym (no_boxes lib root left inner a w))
grown_splits lib root left inner a (e ∷ es) fs w =
    let box = box_grown lib root left inner a e w in
    let others : Trees → Stock → Step Trees = λ t u. boxes_grown lib root left inner a fs u >>= (λ r y. gives (join t r) y) in
    let after : Trees → Stock → Step Trees = λ b v. boxes_grown lib root left inner a es v >>= (λ rest u. gives (join b rest) u) in
    more_boxes lib root left inner a e (es ++ fs) w
    ∙ same_chain box.answer box.stock (λ b v. boxes_grown lib root left inner a (es ++ fs) v >>= (λ rest u. gives (join b rest) u)) (λ b v. after b v >>= others)
    (λ b v. let s = boxes_grown lib root left inner a es v in
    ap (λ y. y >>= (λ rest u. gives (join b rest) u)) (grown_splits lib root left inner a es fs v)
    ∙ chain_of_chain s.answer s.stock others (λ rest u. gives (join b rest) u)
    ∙ same_chain s.answer s.stock (λ t u. others t u >>= (λ rest z. gives (join b rest) z)) (λ t u. others (join b t) u)
    (λ t u. joined_to b t (boxes_grown lib root left inner a fs u))
    ∙ sym (chain_of_chain s.answer s.stock (λ t u. gives (join b t) u) others))
    ∙ sym (chain_of_chain box.answer box.stock after others)
    ∙ ap (λ y. y >>= others) (sym (more_boxes lib root left inner a e es w))
