-- Paths through a forest: only one leads from a canvas to another.
use Rattle.std.proofs.Common.{◌≡◌, ◌≢◌, ℕ, suc, ◌+◌, List, [], ◌∷◌, ◌++◌, length, slice_get, Option, Some, None, IsSome, refl, sym, ap, ◌∙◌, subst, arith}
use Rattle.std.specs.Prelude.{option_and_then}
use Rattle.std.proofs.lemmas.Option.{none-some, same_Some}
use Rattle.slab.specs.Slab.{get}
use Rattle.pd_grove.specs.declared.grove.Grove.{Grove}
use Rattle.pd_grove.specs.Forest.{IsForest, holder_in, around, out_of}
use Rattle.pd_grove.specs.OwnPaths.{sub_in, sub_reached}
use Rattle.pd_grove.specs.Standing.{depth_of}
use Rattle.pd_grove.specs.Telling.{inner_in, reached}
use Rattle.pd_grove.proofs.ForestLemmas.{box_there, held_there}
use Rattle.pd_grove.proofs.GraftLemmas.{is_some}
use Rattle.pd_grove.proofs.NestLemmas.{around_is, lies_deep}
use Rattle.pd_web.specs.Canvases.{keys_at}
use Rattle.pd_reload_law.proofs.EditLemmas.{sub_inner}

abbrev pub Forest : Grove → Type 0
Forest g = IsForest (get g.nodes) (get g.boards) g.root

-- ---- steps

pub nowhere : (g : Grove) (path : List ℕ) → reached g None path ≡ None
nowhere g [] = refl
nowhere g (n ∷ path) = nowhere g path

pub sub_nowhere : (g : Grove) (path : List ℕ) → sub_reached g None path ≡ None
sub_nowhere g [] = refl
sub_nowhere g (n ∷ path) = sub_nowhere g path

-- the box through which a path goes on
pub record StepsIn (g : Grove) (c n : ℕ) (path : List ℕ) (d : ℕ) : Type 0 where
  pub key : ℕ
  pub inner : ℕ
  pub is : slice_get (keys_at g c) n ≡ Some key
  pub holds : inner_in (get g.nodes key) ≡ Some inner
  pub on : reached g (Some inner) path ≡ Some d

steps_by : (g : Grove) (c n : ℕ) (path : List ℕ) (d : ℕ) (o : Option ℕ) → slice_get (keys_at g c) n ≡ o
    → reached g (option_and_then (λ k. inner_in (get g.nodes k)) o) path ≡ Some d → StepsIn g c n path d
steps_by g c n path d None at e = absurd (none-some d (sym (nowhere g path) ∙ e))
steps_by g c n path d (Some k) at e = on (inner_in (get g.nodes k)) refl e
  where
    on : (o : Option ℕ) → inner_in (get g.nodes k) ≡ o → reached g o path ≡ Some d → StepsIn g c n path d
    on None s e = absurd (none-some d (sym (nowhere g path) ∙ e))
    on (Some j) s e = record { key = k; inner = j; is = at; holds = s; on = e }

pub steps : (g : Grove) (c n : ℕ) (path : List ℕ) (d : ℕ) → reached g (Some c) (n ∷ path) ≡ Some d → StepsIn g c n path d
steps g c n path d e = steps_by g c n path d (slice_get (keys_at g c) n) refl e

pub step_on : (g : Grove) (c i k j : ℕ) (path : List ℕ) (d : ℕ) → slice_get (keys_at g c) i ≡ Some k → inner_in (get g.nodes k) ≡ Some j
    → reached g (Some j) path ≡ Some d → reached g (Some c) (i ∷ path) ≡ Some d
step_on g c i k j path d is holds e =
    ap (λ o. reached g (option_and_then (λ x. inner_in (get g.nodes x)) o) path) is ∙ ap (λ o. reached g o path) holds ∙ e

-- the subpatch through which a path goes on
pub record SubIn (g : Grove) (c n : ℕ) (path : List ℕ) (d : ℕ) : Type 0 where
  pub key : ℕ
  pub inner : ℕ
  pub is : slice_get (keys_at g c) n ≡ Some key
  pub sub : sub_in (get g.nodes key) ≡ Some inner
  pub on : sub_reached g (Some inner) path ≡ Some d

subs_by : (g : Grove) (c n : ℕ) (path : List ℕ) (d : ℕ) (o : Option ℕ) → slice_get (keys_at g c) n ≡ o
    → sub_reached g (option_and_then (λ k. sub_in (get g.nodes k)) o) path ≡ Some d → SubIn g c n path d
subs_by g c n path d None at e = absurd (none-some d (sym (sub_nowhere g path) ∙ e))
subs_by g c n path d (Some k) at e = on (sub_in (get g.nodes k)) refl e
  where
    on : (o : Option ℕ) → sub_in (get g.nodes k) ≡ o → sub_reached g o path ≡ Some d → SubIn g c n path d
    on None s e = absurd (none-some d (sym (sub_nowhere g path) ∙ e))
    on (Some j) s e = record { key = k; inner = j; is = at; sub = s; on = e }

pub subs : (g : Grove) (c n : ℕ) (path : List ℕ) (d : ℕ) → sub_reached g (Some c) (n ∷ path) ≡ Some d → SubIn g c n path d
subs g c n path d e = subs_by g c n path d (slice_get (keys_at g c) n) refl e

-- through subpatches a path leads where it leads through all boxes
pub sub_leads : (g : Grove) (c d : ℕ) (path : List ℕ) → sub_reached g (Some c) path ≡ Some d → reached g (Some c) path ≡ Some d
sub_leads g c d [] e = e
sub_leads g c d (n ∷ path) e =
    let s = subs g c n path d e in
    step_on g c n s.key s.inner path d s.is (sub_inner (get g.nodes s.key) s.inner s.sub) (sub_leads g s.inner d path s.on)

-- ---- what lives

pub live_box : (g : Grove) → Forest g → (c i k : ℕ) → slice_get (keys_at g c) i ≡ Some k → IsSome (get g.nodes k)
live_box g F c i k is = let b = box_there (get g.nodes k) c (F.own.home c i k is) in subst IsSome (sym b.is) refl

pub live_canvas : (g : Grove) → Forest g → (k j : ℕ) → inner_in (get g.nodes k) ≡ Some j → IsSome (get g.boards j)
live_canvas g F k j holds = let b = held_there (get g.boards j) k (F.inside k j holds) in is_some (get g.boards j) b.board b.is

-- a canvas to which a path leads lives
pub reached_live : (g : Grove) → Forest g → (path : List ℕ) (c d : ℕ) → IsSome (get g.boards c) → reached g (Some c) path ≡ Some d → IsSome (get g.boards d)
reached_live g F [] c d live e = subst (λ x. IsSome (get g.boards x)) (same_Some c d e) live
reached_live g F (n ∷ path) c d live e =
    let s = steps g c n path d e in
    reached_live g F path s.inner d (live_canvas g F s.key s.inner s.holds) s.on

-- ---- one path and then another

pub then_reached : (g : Grove) (way more : List ℕ) (o : Option ℕ) → reached g o (way ++ more) ≡ reached g (reached g o way) more
then_reached g [] more o = refl
then_reached g (n ∷ way) more None = then_reached g way more None
then_reached g (n ∷ way) more (Some c) = then_reached g way more (option_and_then (λ k. inner_in (get g.nodes k)) (slice_get (keys_at g c) n))

pub then_sub : (g : Grove) (way more : List ℕ) (o : Option ℕ) → sub_reached g o (way ++ more) ≡ sub_reached g (sub_reached g o way) more
then_sub g [] more o = refl
then_sub g (n ∷ way) more None = then_sub g way more None
then_sub g (n ∷ way) more (Some c) = then_sub g way more (option_and_then (λ k. sub_in (get g.nodes k)) (slice_get (keys_at g c) n))

-- ---- one path

way_out : (g : Grove) → Forest g → (path : List ℕ) (a c : ℕ) → reached g (Some a) path ≡ Some c
    → out_of (get g.nodes) (get g.boards) (length path) c ≡ Some a
way_out g F [] a c e = sym e
way_out g F (n ∷ path) a c e =
    let s = steps g a n path c e in
    ap (option_and_then (around (get g.nodes) (get g.boards))) (way_out g F path s.inner c s.on)
    ∙ around_is (get g.nodes) (get g.boards) g.root F s.key a s.inner (F.own.home a n s.key s.is) s.holds

pub deep_as : (g : Grove) → Forest g → (path : List ℕ) (a c : ℕ) → reached g (Some a) path ≡ Some c
    → depth_of (get g.boards c) ≡ depth_of (get g.boards a) + length path
deep_as g F path a c e = lies_deep (get g.nodes) (get g.boards) g.root F (length path) c a (way_out g F path a c e)

-- no path leads back
no_way_back : (g : Grove) → Forest g → (n : ℕ) (path : List ℕ) (c : ℕ) → reached g (Some c) (n ∷ path) ≡ Some c → ⊥
no_way_back g F n path c e = further (length path) (depth_of (get g.boards c)) (deep_as g F (n ∷ path) c c e)
  where
    further : (m d : ℕ) → d ≡ d + suc m → ⊥
    further m d h = omega (arith, h)

pub paths_once : (g : Grove) → Forest g → (p q : List ℕ) (a c : ℕ) → reached g (Some a) p ≡ Some c → reached g (Some a) q ≡ Some c → p ≡ q
paths_once g F [] [] a c e f = refl
paths_once g F [] (m ∷ q) a c e f = absurd (no_way_back g F m q c (ap (λ o. reached g o (m ∷ q)) (sym e) ∙ f))
paths_once g F (n ∷ p) [] a c e f = absurd (no_way_back g F n p c (ap (λ o. reached g o (n ∷ p)) (sym f) ∙ e))
paths_once g F (n ∷ p) (m ∷ q) a c e f =
    let s = steps g a n p c e in
    let t = steps g a m q c f in
    let out = out_of (get g.nodes) (get g.boards) in
    let long : length p ≡ length q = same_length (length p) (length q) (depth_of (get g.boards a)) (depth_of (get g.boards c))
    (deep_as g F (n ∷ p) a c e) (deep_as g F (m ∷ q) a c f) in
    let inner : s.inner ≡ t.inner = same_Some s.inner t.inner (sym (way_out g F p s.inner c s.on) ∙ ap (λ l. out l c) long ∙ way_out g F q t.inner c t.on) in
    let key : s.key ≡ t.key =
    same_Some s.key t.key (sym (F.inside s.key s.inner s.holds) ∙ ap (λ x. holder_in (get g.boards x)) inner ∙ F.inside t.key t.inner t.holds) in
    let first : n ≡ m = F.own.once a n m s.key s.is (t.is ∙ ap Some (sym key)) in
    ap (λ x. x ∷ p) first ∙ ap (λ (l : List ℕ). m ∷ l) (paths_once g F p q s.inner c s.on (ap (λ x. reached g (Some x) q) inner ∙ t.on))
  where
    same_length : (i j a c : ℕ) → c ≡ a + suc i → c ≡ a + suc j → i ≡ j
    same_length i j a c h k = omega (arith, h, k)

-- ---- canvases from which no path leads to another

abbrev pub LeadsNot : Grove → ℕ → ℕ → Type 0
LeadsNot g d c = (path : List ℕ) → reached g (Some c) path ≡ Some d → ⊥

pub not_same : (g : Grove) (d c : ℕ) → LeadsNot g d c → c ≢ d
not_same g d c h e = h [] (ap Some e)

pub not_inside : (g : Grove) (d c i k j : ℕ) → LeadsNot g d c → slice_get (keys_at g c) i ≡ Some k → inner_in (get g.nodes k) ≡ Some j → LeadsNot g d j
not_inside g d c i k j h is holds path e = h (i ∷ path) (step_on g c i k j path d is holds e)

pub not_below : (g : Grove) → Forest g → (c i k j : ℕ) → slice_get (keys_at g c) i ≡ Some k → inner_in (get g.nodes k) ≡ Some j → LeadsNot g c j
not_below g F c i k j is holds path e = no_way_back g F i path c (step_on g c i k j path c is holds e)

pub not_around : (g : Grove) → Forest g → (c n : ℕ) (path : List ℕ) (d : ℕ) → reached g (Some c) (n ∷ path) ≡ Some d → c ≢ d
not_around g F c n path d e h = no_way_back g F n path c (e ∙ ap Some (sym h))

pub not_beside : (g : Grove) → Forest g → (c n : ℕ) (path : List ℕ) (d i k j : ℕ) → reached g (Some c) (n ∷ path) ≡ Some d → i ≢ n
    → slice_get (keys_at g c) i ≡ Some k → inner_in (get g.nodes k) ≡ Some j → LeadsNot g d j
not_beside g F c n path d i k j e apart is holds more f =
    apart (same_first i n more path (paths_once g F (i ∷ more) (n ∷ path) c d (step_on g c i k j more d is holds f) e))
  where
    same_first : (i j : ℕ) (xs ys : List ℕ) → i ∷ xs ≡ j ∷ ys → i ≡ j
    same_first i j xs ys e = cc
