-- What a chain of steps gives, what it went through, and what it takes.
use Rattle.std.proofs.Common.{◌≡◌, ℕ, zero, suc, ◌+◌, Bool, true, false, List, [], ◌∷◌, ◌++◌, length, Option, Some, None, Result, Ok, Err, is_ok, nat_lt, position, bytes_eq, if◌then◌else◌, refl, sym, ap, ◌∙◌, subst, arith, append_assoc, append-nil, true≢false}
use Rattle.pd_atom.specs.declared.Atom.{Atom}
use Rattle.pd_atom.specs.declared.Atom.TheVariants as atom
use Rattle.pd_atom.specs.declared.Expanded.{Expanded}
use Rattle.pd_atom.specs.declared.SymbolRefusal.{SymbolRefusal}
use Rattle.pd_atom.specs.declared.SymbolRefusal.TheVariants.{TooLong, Full}
use Rattle.pd_atom.specs.Names.{Names, Extends, Outcome, given, refused, longest, most, placed, interned}
use Rattle.pd_atom.specs.Expansion.{expanded}
use Rattle.pd_canvas.specs.Pages.{Page, Entry, elements_of}
use Rattle.pd_library.specs.declared.answers.Answer.{Answer}
use Rattle.pd_tree.specs.Trees.{Trees, Done, join}
use Rattle.pd_growth.specs.declared.growing.Stop.{Stop}
use Rattle.pd_growth.specs.Steps.{Stock, Step, gives, ends, goes_on, ◌>>=◌, with_names, named_answer, named_step, box_by_room, counted, number_from, numbered, brought, outcome_after, outcome_then, text_expanded}
use Rattle.pd_growth.specs.Making.{Around, Making, made}
use Rattle.pd_growth.specs.Growth.{Inner, own_text, box_made, box_grown, boxes_grown, page_grown}
use Rattle.pd_regrowth_law.specs.Regrowth.{Takes, inner_of}

-- ---- the equations of growth

pub no_boxes : (lib : ℕ → Option Answer) (root : List ℕ) (left : ℕ) (inner : Inner) (a : Around) (w : Stock)
    → boxes_grown lib root left inner a [] w ≡ gives Done w
unfolding boxes_grown
no_boxes lib root left inner a w = refl

pub more_boxes : (lib : ℕ → Option Answer) (root : List ℕ) (left : ℕ) (inner : Inner) (a : Around) (e : Entry) (es : List Entry) (w : Stock)
    → boxes_grown lib root left inner a (e ∷ es) w
    ≡ (box_grown lib root left inner a e w >>= (λ box v. boxes_grown lib root left inner a es v >>= (λ rest u. gives (join box rest) u)))
unfolding boxes_grown
more_boxes lib root left inner a e es w = refl

pub page_is : (lib : ℕ → Option Answer) (root : List ℕ) (left : ℕ) (a : Around) (p : Page) (w : Stock)
    → page_grown lib root left a p w ≡ boxes_grown lib root left (inner_of lib root left) a (elements_of p) w
unfolding page_grown
page_is lib root zero a p w = refl
page_is lib root (suc n) a p w = refl

-- ---- answers

answer_or : {A : Type 0} → A → Result A Stop → A
answer_or a (Ok b) = b
answer_or a (Err e) = a

pub gives_same : {A : Type 0} (a b : A) (w v : Stock) → gives a w ≡ gives b v → a ≡ b
unfolding answer_or
gives_same {A} a b w v h = ap (λ (s : Step A). answer_or a s.answer) h

pub gives_stock : {A : Type 0} (a b : A) (w v : Stock) → gives a w ≡ gives b v → w ≡ v
gives_stock {A} a b w v h = ap (λ (s : Step A). s.stock) h

pub ok_same : {A : Type 0} (r : Result A Stop) (a b : A) → r ≡ Ok a → r ≡ Ok b → a ≡ b
unfolding answer_or
ok_same r a b h k = ap (answer_or a) (sym h ∙ k)

pub ends_never : {A : Type 0} (e : Stop) (w : Stock) (a : A) (v : Stock) → ends e w ≡ gives a v → ⊥
ends_never {A} e w a v h = true≢false (sym (ap (λ (s : Step A). is_ok s.answer) h))

pub err_never : {A : Type 0} (r : Result A Stop) (e : Stop) (a : A) → r ≡ Err e → r ≡ Ok a → ⊥
err_never {A} r e a h k = true≢false (sym (ap (λ (x : Result A Stop). is_ok x) (sym h ∙ k)))

-- ---- what a chain went through

pub record Chain {A B : Type 0} (s : Step A) (f : A → Stock → Step B) (b : B) (w : Stock) : Type 0 where
  pub value : A
  pub stock : Stock
  pub first : s ≡ gives value stock
  pub next : f value stock ≡ gives b w

chain_by : {A B : Type 0} (r : Result A Stop) (v : Stock) (f : A → Stock → Step B) (b : B) (w : Stock)
    → goes_on r v f ≡ gives b w → Chain (record { answer = r; stock = v }) f b w
chain_by (Ok a) v f b w h = record { value = a; stock = v; first = refl; next = h }
chain_by (Err e) v f b w h = absurd (ends_never e v b w h)

pub chain : {A B : Type 0} (s : Step A) (f : A → Stock → Step B) (b : B) (w : Stock) → (s >>= f) ≡ gives b w → Chain s f b w
chain s f b w h = chain_by s.answer s.stock f b w h

pub record Going {A B : Type 0} (r : Result A Stop) (v : Stock) (f : A → Stock → Step B) (b : B) (w : Stock) : Type 0 where
  pub value : A
  pub answer : r ≡ Ok value
  pub next : f value v ≡ gives b w

pub going : {A B : Type 0} (r : Result A Stop) (v : Stock) (f : A → Stock → Step B) (b : B) (w : Stock)
    → goes_on r v f ≡ gives b w → Going r v f b w
going (Ok a) v f b w h = record { value = a; answer = refl; next = h }
going (Err e) v f b w h = absurd (ends_never e v b w h)

-- a chain whose last step gives a value made of what the first gave
pub record Last {A B : Type 0} (s : Step A) (g : A → B) (b : B) (w : Stock) : Type 0 where
  pub value : A
  pub first : s ≡ gives value w
  pub all : g value ≡ b

last_by : {A B : Type 0} (s : Step A) (g : A → B) (b : B) (w u : Stock) (a : A) → s ≡ gives a u → gives (g a) u ≡ gives b w → Last s g b w
last_by s g b w u a first h = record { value = a; first = first ∙ ap (λ x. gives a x) (gives_stock (g a) b u w h); all = gives_same (g a) b u w h }

pub last : {A B : Type 0} (s : Step A) (g : A → B) (b : B) (w : Stock) → (s >>= (λ a u. gives (g a) u)) ≡ gives b w → Last s g b w
last s g b w h = let c = chain s (λ a u. gives (g a) u) b w h in last_by s g b w c.stock c.value c.first c.next

-- what a box went through
pub record BoxWent (lib : ℕ → Option Answer) (root : List ℕ) (left : ℕ) (inner : Inner) (a : Around) (e : Entry) (w : Stock) (t : Trees) (v : Stock) : Type 0 where
  pub start : Stock
  pub text : List Atom
  pub named : Stock
  pub making : Making
  pub counted_is : counted w ≡ gives tt start
  pub text_is : own_text a e.head start ≡ gives text named
  pub made_is : made lib root left a named.names e.head.form text ≡ Ok making
  pub box_is : box_made inner a e text making named ≡ gives t v

pub box_went : (lib : ℕ → Option Answer) (root : List ℕ) (left : ℕ) (inner : Inner) (a : Around) (e : Entry) (w : Stock) (t : Trees) (v : Stock)
    → box_grown lib root left inner a e w ≡ gives t v → BoxWent lib root left inner a e w t v
box_went lib root left inner a e w t v h =
    let first = chain (counted w) (λ _ v. own_text a e.head v >>= (λ text u.
    goes_on (made lib root left a u.names e.head.form text) u (λ m t. box_made inner a e text m t))) t v h in
    let second = chain (own_text a e.head first.stock) (λ text u.
    goes_on (made lib root left a u.names e.head.form text) u (λ m t. box_made inner a e text m t)) t v first.next in
    let third = going (made lib root left a second.stock.names e.head.form second.value) second.stock
    (λ m t. box_made inner a e second.value m t) t v second.next in
    record {
      start = first.stock;
      text = second.value;
      named = second.stock;
      making = third.value;
      counted_is = first.first;
      text_is = second.first;
      made_is = third.answer;
      box_is = third.next;
    }

-- what boxes went through: the first, and the others
pub record BoxesWent (lib : ℕ → Option Answer) (root : List ℕ) (left : ℕ) (inner : Inner) (a : Around) (e : Entry) (es : List Entry) (w : Stock) (t : Trees) (v : Stock) : Type 0 where
  pub box : Trees
  pub between : Stock
  pub rest : Trees
  pub box_is : box_grown lib root left inner a e w ≡ gives box between
  pub rest_is : boxes_grown lib root left inner a es between ≡ gives rest v
  pub all_is : join box rest ≡ t

pub boxes_went : (lib : ℕ → Option Answer) (root : List ℕ) (left : ℕ) (inner : Inner) (a : Around) (e : Entry) (es : List Entry) (w : Stock) (t : Trees) (v : Stock)
    → boxes_grown lib root left inner a (e ∷ es) w ≡ gives t v → BoxesWent lib root left inner a e es w t v
boxes_went lib root left inner a e es w t v h =
    let first = chain (box_grown lib root left inner a e w) (λ box v. boxes_grown lib root left inner a es v >>= (λ rest u. gives (join box rest) u)) t v
    (sym (more_boxes lib root left inner a e es w) ∙ h) in
    let second = last (boxes_grown lib root left inner a es first.stock) (λ rest. join first.value rest) t v first.next in
    record {
      box = first.value;
      between = first.stock;
      rest = second.value;
      box_is = first.first;
      rest_is = second.first;
      all_is = second.all;
    }

-- ---- what steps take

pub extends_same : (names : Names) → Extends names names
extends_same names = ([], sym (append-nil names))

pub extends_on : (a b c : Names) → Extends a b → Extends b c → Extends a c
extends_on a b c f g = (f.0 ++ g.0, g.1 ∙ ap (λ x. x ++ g.0) f.1 ∙ append_assoc a f.0 g.0)

pub takes_none : (w : Stock) → Takes w [] 0 w
takes_none w = record { zeros = refl; room = omega arith; names = extends_same w.names }

pub takes_on : (a b c : Stock) (xs ys : List ℕ) (m n : ℕ) → Takes a xs m b → Takes b ys n c → Takes a (xs ++ ys) (m + n) c
takes_on a b c xs ys m n f g = record {
  zeros = f.zeros ∙ ap (λ l. xs ++ l) g.zeros ∙ sym (append_assoc xs ys c.zeros);
  room = omega (arith, f.room, g.room);
  names = extends_on a.names b.names c.names f.names g.names;
}

-- a step that takes nothing, and so no more than the one after it
pub takes_then : (a b c : Stock) (xs : List ℕ) (n : ℕ) → Takes a [] 0 b → Takes b xs n c → Takes a xs n c
takes_then a b c xs n f g = record {
  zeros = f.zeros ∙ g.zeros;
  room = omega (arith, f.room, g.room);
  names = extends_on a.names b.names c.names f.names g.names;
}

-- a number, and then what the step after it takes
pub takes_number : (a b c : Stock) (z : ℕ) (xs : List ℕ) (n : ℕ) → Takes a (z ∷ []) 0 b → Takes b xs n c → Takes a (z ∷ xs) n c
takes_number a b c z xs n f g = record {
  zeros = f.zeros ∙ ap (λ l. z ∷ l) g.zeros;
  room = omega (arith, f.room, g.room);
  names = extends_on a.names b.names c.names f.names g.names;
}

pub takes_names : (w : Stock) (names : Names) → Extends w.names names → Takes w [] 0 (with_names names w)
takes_names w names h = record { zeros = refl; room = omega arith; names = h }

counted_by : (n : ℕ) (w v : Stock) → w.room ≡ n → box_by_room n w ≡ gives tt v → Takes w [] 1 v
counted_by zero w v e h = absurd (ends_never _ w tt v h)
counted_by (suc n) w v e h =
    subst (Takes w [] 1) (gives_stock tt tt (record { names = w.names; zeros = w.zeros; room = n }) v h)
    (record { zeros = refl; room = omega (arith, e); names = extends_same w.names })

pub counted_takes : (w v : Stock) → counted w ≡ gives tt v → Takes w [] 1 v
counted_takes w v h = counted_by w.room w v refl h

numbered_by : (zs : List ℕ) (w v : Stock) (z : ℕ) → w.zeros ≡ zs → number_from zs w ≡ gives z v → Takes w (z ∷ []) 0 v
numbered_by [] w v z e h = absurd (ends_never _ w z v h)
numbered_by (y ∷ ys) w v z e h =
    let u : Stock = record { names = w.names; zeros = ys; room = w.room } in
    subst (Takes w (z ∷ []) 0) (gives_stock y z u v h)
    (record { zeros = e ∙ ap (λ x. x ∷ ys) (gives_same y z u v h); room = omega arith; names = extends_same w.names })

pub numbered_takes : (w v : Stock) (z : ℕ) → numbered w ≡ gives z v → Takes w (z ∷ []) 0 v
numbered_takes w v z h = numbered_by w.zeros w v z refl h

-- ---- steps that may need names

pub record NamedWent {A : Type 0} (o : Outcome A) (w : Stock) (a : A) (v : Stock) : Type 0 where
  pub answer : o.answer ≡ Ok a
  pub stock : with_names o.names w ≡ v

named_by_answer : {A : Type 0} (r : Result A SymbolRefusal) (names : Names) (w : Stock) (a : A) (v : Stock)
    → named_answer r (with_names names w) ≡ gives a v → NamedWent (record { answer = r; names = names }) w a v
named_by_answer (Ok b) names w a v h = record { answer = ap (λ x. Ok x) (gives_same b a (with_names names w) v h); stock = gives_stock b a (with_names names w) v h }
named_by_answer {A} (Err e) names w a v h = absurd (ends_never _ (with_names names w) a v h)

pub named_went : {A : Type 0} (o : Outcome A) (w : Stock) (a : A) (v : Stock) → named_step o w ≡ gives a v → NamedWent o w a v
named_went o w a v h = named_by_answer o.answer o.names w a v h

pub named_takes : {A : Type 0} (o : Outcome A) (w : Stock) (a : A) (v : Stock) → Extends w.names o.names → named_step o w ≡ gives a v → Takes w [] 0 v
named_takes o w a v x h = subst (Takes w [] 0) (named_went o w a v h).stock (takes_names w o.names x)

placed_extends : (names : Names) (name : List ℕ) (o : Option ℕ) (room : Bool) → nat_lt (length names) most ≡ room → Extends names (placed names name o).names
placed_extends names name (Some s) room e = extends_same names
placed_extends names name None true e =
    subst (λ b. Extends names (if b then given (length names) (names ++ name ∷ []) else refused Full names).names) (sym e) (name ∷ [], refl)
placed_extends names name None false e =
    subst (λ b. Extends names (if b then given (length names) (names ++ name ∷ []) else refused Full names).names) (sym e) (extends_same names)

long_extends : (names : Names) (name : List ℕ) (o : Outcome ℕ) (long : Bool) → Extends names o.names
    → Extends names (if long then refused TooLong names else o).names
long_extends names name o true h = extends_same names
long_extends names name o false h = h

pub interned_extends : (names : Names) (name : List ℕ) → Extends names (interned names name).names
unfolding interned
interned_extends names name =
    long_extends names name (placed names name (position (bytes_eq name) names)) (nat_lt longest (length name))
    (placed_extends names name (position (bytes_eq name) names) (nat_lt (length names) most) refl)

pub expanded_extends : (names : Names) (a : Atom) (own : ℕ) (args : List Atom) → Extends names (expanded names a own args).names
unfolding expanded
expanded_extends names (atom.Number z) own args = extends_same names
expanded_extends names (atom.Symbol s) own args = extends_same names
expanded_extends names (atom.Dollar n) own args = extends_same names
expanded_extends names (atom.DollarSymbol s) own args = interned_extends names _
expanded_extends names atom.Comma own args = extends_same names
expanded_extends names atom.Semi own args = extends_same names

after_extends : {A B : Type 0} (first : Names) (r : Result A SymbolRefusal) (names : Names) (f : A → Names → Outcome B) → Extends first names
    → ((a : A) → Extends names (f a names).names) → Extends first (outcome_after r names f).names
after_extends first (Ok a) names f h k = extends_on first names (f a names).names h (k a)
after_extends first (Err e) names f h k = h

pub text_extends : (own : ℕ) (args : List Atom) (atoms : List Atom) (names : Names) → Extends names (text_expanded own args atoms names).names
unfolding text_expanded
text_extends own args [] names = extends_same names
text_extends own args (a ∷ atoms) names =
    let o = expanded names a own args in
    after_extends names o.answer o.names (λ (e : Expanded) more. outcome_then (text_expanded own args atoms more) (λ bs all. given (e.atom ∷ bs) all))
    (expanded_extends names a own args)
    (λ e. let p = text_expanded own args atoms o.names in
    after_extends o.names p.answer p.names (λ bs all. given (e.atom ∷ bs) all) (text_extends own args atoms o.names) (λ bs. extends_same p.names))

brought_by : (long : Bool) (name : List ℕ) (w v : Stock) (x : Unit {0})
    → (if long then gives tt w else (named_step (interned w.names name) w >>= (λ _ v. gives tt v))) ≡ gives x v → Takes w [] 0 v
brought_by true name w v x h = subst (Takes w [] 0) (gives_stock tt x w v h) (takes_none w)
brought_by false name w v x h =
    let c = chain (named_step (interned w.names name) w) (λ _ v. gives tt v) x v h in
    subst (Takes w [] 0) (gives_stock tt x c.stock v c.next)
    (named_takes (interned w.names name) w c.value c.stock (interned_extends w.names name) c.first)

pub brought_takes : (name : List ℕ) (w v : Stock) (x : Unit {0}) → brought name w ≡ gives x v → Takes w [] 0 v
brought_takes name w v x h = brought_by (nat_lt longest (length name)) name w v x h
