-- Growth lacks no file but one of which nothing is known.
use Rattle.std.proofs.Common.{◌≡◌, ℕ, zero, suc, Bool, true, false, List, [], ◌∷◌, Option, Some, None, Result, Ok, Err, if◌then◌else◌, nat_lt, length, refl, subst}
use Rattle.std.specs.Prelude.{drop}
use Rattle.pd_atom.specs.declared.Atom.{Atom}
use Rattle.pd_atom.specs.declared.SymbolRefusal.{SymbolRefusal}
use Rattle.pd_atom.specs.Names.{Names, interned, longest, name_of}
use Rattle.pd_object.specs.declared.kinds.Named.{Named}
use Rattle.pd_object.specs.declared.kinds.Named.TheVariants as named
use Rattle.pd_naming.specs.Naming.{arguments_of, named_by}
use Rattle.pd_canvas.specs.Pages.{Shape, Obj, Msg, Comment, FloatBox, SymbolBox, Sub, Array, Other, Head, Page, Entry, elements_of}
use Rattle.pd_library.specs.declared.answers.Answer.{Answer}
use Rattle.pd_library.specs.declared.answers.Answer.TheVariants.{Found, Absent, Bad}
use Rattle.pd_tree.specs.Trees.{Trees, Done}
use Rattle.pd_growth.specs.declared.growing.Stop.{Stop}
use Rattle.pd_growth.specs.declared.growing.Stop.TheVariants.{SymbolsFull, TooManyBoxes, Lacks, NoMemory}
use Rattle.pd_growth.specs.Steps.{Stock, Step, gives, ends, goes_on, ◌>>=◌, counted, box_by_room, numbered, number_from, named_answer, named_step, brought, with_names, text_expanded}
use Rattle.pd_growth.specs.Making.{Around, Making, Plain, Subpatch, File, is_inside, has_slash, answer_made, object_made, made, is_expanded}
use Rattle.pd_growth.specs.Growth.{Inner, canvas_grown, receiver_named, brought_if, receiver_brought, around_instance, box_made, own_text, box_grown, boxes_grown, page_grown}
use Rattle.pd_growth.specs.Growing.{inside_grown}

module _ (lib : ℕ → Option Answer) where
  -- it is a lack of a file of which nothing is known, or none
  abbrev pub IsLack : Stop → Type 0
  IsLack SymbolsFull = Unit {0}
  IsLack TooManyBoxes = Unit {0}
  IsLack (Lacks s) = lib s ≡ None
  IsLack NoMemory = Unit {0}

  abbrev pub MayLack : {A : Type 0} → Result A Stop → Type 0
  MayLack (Ok a) = Unit {0}
  MayLack (Err e) = IsLack e

  on : {A B : Type 0} (r : Result A Stop) (w : Stock) (f : A → Stock → Step B) → MayLack r → ((a : A) (v : Stock) → MayLack (f a v).answer)
      → MayLack (goes_on r w f).answer
  on (Ok a) w f h g = g a w
  on (Err e) w f h g = h

  then_lacks : {A B : Type 0} (s : Step A) (f : A → Stock → Step B) → MayLack s.answer → ((a : A) (v : Stock) → MayLack (f a v).answer)
      → MayLack (s >>= f).answer
  then_lacks s f h g = on s.answer s.stock f h g

  by_room : (n : ℕ) (w : Stock) → MayLack (box_by_room n w).answer
  by_room zero w = tt
  by_room (suc n) w = tt

  by_numbers : (zs : List ℕ) (w : Stock) → MayLack (number_from zs w).answer
  by_numbers [] w = tt
  by_numbers (z ∷ zs) w = tt

  by_name : {A : Type 0} (r : Result A SymbolRefusal) (w : Stock) → MayLack (named_answer r w).answer
  by_name (Ok a) w = tt
  by_name (Err e) w = tt

  bring_by : (b : Bool) (name : List ℕ) (w : Stock) → MayLack (if b then gives (tt {0}) w else (named_step (interned w.names name) w >>= (λ _ v. gives (tt {0}) v))).answer
  bring_by true name w = tt
  bring_by false name w =
      then_lacks (named_step (interned w.names name) w) (λ _ v. gives (tt {0}) v) (by_name (interned w.names name).answer (with_names (interned w.names name).names w)) (λ a v. tt)

  bring : (name : List ℕ) (w : Stock) → MayLack (brought name w).answer
  bring name w = bring_by (nat_lt longest (length name)) name w

  bring_if : (o : Option (List ℕ)) (w : Stock) → MayLack (brought_if o w).answer
  bring_if (Some name) w = bring name w
  bring_if None w = tt

  receive : (b : Bool) (text : List Atom) (w : Stock) → MayLack (receiver_brought b text w).answer
  receive true text w = bring_if (receiver_named w.names text) w
  receive false text w = tt

  text_by : (b : Bool) (a : Around) (h : Head) (w : Stock)
      → MayLack (if b then named_step (text_expanded a.zero a.arguments h.text w.names) w else gives h.text w).answer
  text_by true a h w =
      let o = text_expanded a.zero a.arguments h.text w.names in
      by_name o.answer (with_names o.names w)
  text_by false a h w = tt

  answer_by : (left s : ℕ) (o : Option Answer) → lib s ≡ o → MayLack (answer_made left s o)
  answer_by left s None e = e
  answer_by left s (Some (Found d)) e = tt
  answer_by left s (Some Absent) e = tt
  answer_by left s (Some (Bad n)) e = tt

  module _ (root : List ℕ) where
    abstraction_by : (b c : Bool) (left s : ℕ) (names : Names) (x y : Making)
        → MayLack (if b then Ok x else if c then Ok y else answer_made left s (lib s))
    abstraction_by true c left s names x y = tt
    abstraction_by false true left s names x y = tt
    abstraction_by false false left s names x y = answer_by left s (lib s) refl

    object_by : (left : ℕ) (a : Around) (names : Names) (text : List Atom) (n : Named) → MayLack (object_made lib root left a names text n)
    object_by left a names text (named.Kind k) = tt
    object_by left a names text (named.Abstraction s) = abstraction_by (is_inside root a names s) (has_slash (name_of names s)) left s names _ _
    object_by left a names text named.Nothing = tt

    make : (left : ℕ) (a : Around) (names : Names) (form : Shape) (text : List Atom) → MayLack (made lib root left a names form text)
    make left a names Obj text = object_by left a names text (named_by names text)
    make left a names Msg text = tt
    make left a names Comment text = tt
    make left a names FloatBox text = tt
    make left a names SymbolBox text = tt
    make left a names Sub text = tt
    make left a names (Array values) text = tt
    make left a names (Other s) text = tt

    -- what a canvas lacks, nothing is known of
    abbrev InnerLacks : Inner → Type 0
    InnerLacks inner = (a : Around) (p : Page) (w : Stock) → MayLack (inner a p w).answer

    canvas : (inner : Inner) → InnerLacks inner → (a : Around) (p : Page) (h : Head) (text : List Atom) (w : Stock) → MayLack (canvas_grown inner a p h text w).answer
    canvas inner i a p h text w = then_lacks (inner a p w) _ (i a p w) (λ boxes v. tt)

    make_box : (inner : Inner) → InnerLacks inner → (a : Around) (e : Entry) (text : List Atom) (m : Making) (w : Stock) → MayLack (box_made inner a e text m w).answer
    make_box inner i a e text (Plain k fault) w = tt
    make_box inner i a e text Subpatch w =
        then_lacks (receiver_brought a.is_top text w) _ (receive a.is_top text w) (λ _ v. canvas inner i a e.page e.head text v)
    make_box inner i a e text (File s p) w =
        then_lacks (numbered w) _ (by_numbers w.zeros w) (λ z v. canvas inner i (around_instance a z s (arguments_of (drop 1 text))) p e.head text v)

    box : (left : ℕ) (inner : Inner) → InnerLacks inner → (a : Around) (e : Entry) (w : Stock) → MayLack (box_grown lib root left inner a e w).answer
    box left inner i a e w =
        then_lacks (counted w) _ (by_room w.room w) (λ _ v.
        then_lacks (own_text a e.head v) _ (text_by (is_expanded e.head.form) a e.head v) (λ text u.
        on (made lib root left a u.names e.head.form text) u _ (make left a u.names e.head.form text) (λ m t. make_box inner i a e text m t)))

    boxes : (left : ℕ) (inner : Inner) → InnerLacks inner → (a : Around) (es : List Entry) (w : Stock) → MayLack (boxes_grown lib root left inner a es w).answer
    unfolding boxes_grown
    boxes left inner i a [] w = tt
    boxes left inner i a (e ∷ es) w =
        then_lacks (box_grown lib root left inner a e w) _ (box left inner i a e w) (λ t v.
        then_lacks (boxes_grown lib root left inner a es v) _ (boxes left inner i a es v) (λ rest u. tt))

    page : (n : ℕ) → InnerLacks (page_grown lib root n)
    unfolding page_grown
    page zero a p w = boxes zero (λ a p w. gives Done w) (λ a p w. tt) a (elements_of p) w
    page (suc n) a p w = boxes (suc n) (page_grown lib root n) (page n) a (elements_of p) w

    inside : (left : ℕ) → InnerLacks (inside_grown lib root left)
    inside zero a p w = tt
    inside (suc n) a p w = page n a p w

  -- of the file that a box lacks nothing is known
  pub box_lacks_unknown : (root : List ℕ) (left : ℕ) (a : Around) (e : Entry) (w v : Stock) (s : ℕ)
      → box_grown lib root left (inside_grown lib root left) a e w ≡ ends (Lacks s) v → lib s ≡ None
  box_lacks_unknown root left a e w v s is = subst (λ (t : Step Trees). MayLack t.answer) is (box root left (inside_grown lib root left) (inside root left) a e w)
