-- What was gathered before a box grew: names and files go on, and the documents that were found are proper.
use Rattle.std.proofs.Common.{◌≡◌, ◌≤◌, ℕ, zero, suc, drop, take, arith, Bool, true, false, List, [], ◌∷◌, length, Option, Some, None, Result, Ok, Err, refl, sym, ap, ◌∙◌, subst, if◌then◌else◌, nat_lt}
use Rattle.std.specs.Option.{option_map_or}
use Rattle.std.proofs.Math.Seq.{take-append_seam}
use Rattle.std.proofs.lemmas.Option.{none-some, same_Some}
use Rattle.pd_atom.specs.declared.Atom.{Atom}
use Rattle.pd_atom.specs.declared.SymbolRefusal.{SymbolRefusal}
use Rattle.pd_atom.specs.Names.{Names, Extends, IsTable, Outcome, longest, interned}
use Rattle.pd_atom.proofs.NameLemmas.{table_take}
use Rattle.pd_canvas.specs.Pages.{Head, Page, Entry, elements_of}
use Rattle.pd_doc.specs.declared.refusal.DocRefusal.{DocRefusal}
use Rattle.pd_doc.specs.declared.refusal.DocRefusal.TheVariants as document
use Rattle.pd_doc.specs.Reading.{document_of}
use Rattle.pd_doc.proofs.GoodLaws.{read_is}
use Rattle.pd_naming.specs.Naming.{arguments_of}
use Rattle.pd_library.specs.declared.answers.Answer.{Answer}
use Rattle.pd_library.specs.declared.answers.Answer.TheVariants as answer
use Rattle.pd_object.specs.declared.kinds.Kind.TheVariants as kind
use Rattle.pd_tree.specs.Trees.{Trees, Done, Holder, join, sheet_of}
use Rattle.pd_growth.specs.declared.growing.Stop.{Stop}
use Rattle.pd_growth.specs.declared.growing.Stop.TheVariants.{Lacks, SymbolsFull, TooManyBoxes, NoMemory}
use Rattle.pd_growth.specs.Making.{Around, Making, Plain, Subpatch, File, made, is_expanded}
use Rattle.pd_growth.specs.Steps.{Stock, Step, gives, goes_on, ◌>>=◌, named_step, named_answer, with_names, box_by_room, counted, number_from, numbered, brought, text_expanded}
use Rattle.pd_growth.specs.Growth.{Inner, cell_of, canvas_grown, around_instance, brought_if, receiver_named, receiver_brought, box_made, own_text, box_grown, boxes_grown}
use Rattle.pd_growth.proofs.TextLemmas.{longer_table}
use Rattle.pd_gather.specs.declared.fetching.Fetch.{Fetch}
use Rattle.pd_gather.specs.declared.fetching.Fetch.TheVariants.{Absent, TooLong, Found}
use Rattle.pd_gather.specs.Fetching.{answer_read, answer_given}
use Rattle.pd_gather.specs.Gather.{Known, known, Gathering, Asks, Gathered, Full, asked_by, asked_of, learned, after, gathered, GoesOn, IsProperAnswer, AreProper}
use Rattle.pd_gather.proofs.GatherLemmas.{behind_on, behind_same}
use Rattle.pd_gather.proofs.SuitLemmas.{still_found, found_more}
use Rattle.pd_regrowth_law.specs.Regrowth.{inner_of}
use Rattle.pd_regrowth_law.proofs.StepLemmas.{extends_same, extends_on, interned_extends, text_extends, no_boxes, more_boxes, page_is}
use Rattle.pd_adding.proofs.ReadLemmas.{document_extends}

-- ---- growth, whatever it answers

module _ {A B : Type 0} where
  goes_names : (names : Names) (r : Result A Stop) (w : Stock) (f : A → Stock → Step B) → Extends names w.names → ((a : A) (v : Stock) → Extends v.names (f a v).stock.names)
      → Extends names (goes_on r w f).stock.names
  goes_names names (Ok a) w f x k = extends_on names w.names (f a w).stock.names x (k a w)
  goes_names names (Err e) w f x k = x

  then_names : (names : Names) (s : Step A) (f : A → Stock → Step B) → Extends names s.stock.names → ((a : A) (v : Stock) → Extends v.names (f a v).stock.names)
      → Extends names (s >>= f).stock.names
  then_names names s f x k = goes_names names s.answer s.stock f x k

room_names : (r : ℕ) (w : Stock) → Extends w.names (box_by_room r w).stock.names
room_names zero w = extends_same w.names
room_names (suc n) w = extends_same w.names

number_names : (zs : List ℕ) (w : Stock) → Extends w.names (number_from zs w).stock.names
number_names [] w = extends_same w.names
number_names (z ∷ zs) w = extends_same w.names

answer_names : {A : Type 0} (r : Result A SymbolRefusal) (w : Stock) → Extends w.names (named_answer r w).stock.names
answer_names (Ok a) w = extends_same w.names
answer_names (Err e) w = extends_same w.names

named_names : {A : Type 0} (o : Outcome A) (w : Stock) → Extends w.names o.names → Extends w.names (named_step o w).stock.names
named_names o w x = extends_on w.names o.names (named_step o w).stock.names x (answer_names o.answer (with_names o.names w))

abbrev brought_so : Bool → List ℕ → Stock → Step (Unit {0})
brought_so b name w = if b then gives tt w else (named_step (interned w.names name) w >>= (λ _ v. gives tt v))

brought_by : (b : Bool) (name : List ℕ) (w : Stock) → Extends w.names (brought_so b name w).stock.names
brought_by true name w = extends_same w.names
brought_by false name w =
    let last : ℕ → Stock → Step (Unit {0}) = λ s v. gives tt v in
    then_names w.names (named_step (interned w.names name) w) last (named_names (interned w.names name) w (interned_extends w.names name)) (λ a v. extends_same v.names)

brought_names : (name : List ℕ) (w : Stock) → Extends w.names (brought name w).stock.names
brought_names name w = brought_by (nat_lt longest (length name)) name w

text_by : (b : Bool) (a : Around) (h : Head) (w : Stock) → Extends w.names (if b then named_step (text_expanded a.zero a.arguments h.text w.names) w else gives h.text w).stock.names
text_by true a h w = named_names (text_expanded a.zero a.arguments h.text w.names) w (text_extends a.zero a.arguments h.text w.names)
text_by false a h w = extends_same w.names

text_names : (a : Around) (h : Head) (w : Stock) → Extends w.names (own_text a h w).stock.names
text_names a h w = text_by (is_expanded h.form) a h w

if_names : (o : Option (List ℕ)) (w : Stock) → Extends w.names (brought_if o w).stock.names
if_names (Some name) w = brought_names name w
if_names None w = extends_same w.names

receiver_names : (b : Bool) (text : List Atom) (w : Stock) → Extends w.names (receiver_brought b text w).stock.names
receiver_names true text w = if_names (receiver_named w.names text) w
receiver_names false text w = extends_same w.names

abbrev NamesGoOn : Inner → Type 0
NamesGoOn inner = (a : Around) (p : Page) (w : Stock) → Extends w.names (inner a p w).stock.names

canvas_names : (inner : Inner) (a : Around) (p : Page) (h : Head) (text : List Atom) (w : Stock) → NamesGoOn inner → Extends w.names (canvas_grown inner a p h text w).stock.names
canvas_names inner a p h text w i =
    let last : Trees → Stock → Step Trees = λ boxes v. gives (Holder (cell_of h text kind.Canvas None) (sheet_of a.zero a.arguments p) boxes Done) v in
    then_names w.names (inner a p w) last (i a p w) (λ boxes v. extends_same v.names)

made_names : (inner : Inner) (a : Around) (e : Entry) (text : List Atom) (m : Making) (w : Stock) → NamesGoOn inner → Extends w.names (box_made inner a e text m w).stock.names
made_names inner a e text (Plain k fault) w i = extends_same w.names
made_names inner a e text Subpatch w i =
    then_names w.names (receiver_brought a.is_top text w) (λ _ v. canvas_grown inner a e.page e.head text v) (receiver_names a.is_top text w) (λ u v. canvas_names inner a e.page e.head text v i)
made_names inner a e text (File s p) w i =
    then_names w.names (numbered w) (λ z v. canvas_grown inner (around_instance a z s (arguments_of (drop 1 text))) p e.head text v) (number_names w.zeros w)
    (λ z v. canvas_names inner (around_instance a z s (arguments_of (drop 1 text))) p e.head text v i)

box_names : (lib : ℕ → Option Answer) (root : List ℕ) (left : ℕ) (inner : Inner) (a : Around) (e : Entry) (w : Stock) → NamesGoOn inner
    → Extends w.names (box_grown lib root left inner a e w).stock.names
box_names lib root left inner a e w i =
    let making : List Atom → Stock → Step Trees = λ text u. goes_on (made lib root left a u.names e.head.form text) u (λ m t. box_made inner a e text m t) in
    let more : Unit {0} → Stock → Step Trees = λ _ v. own_text a e.head v >>= making in
    then_names w.names (counted w) more (room_names w.room w) (λ x v.
    then_names v.names (own_text a e.head v) making (text_names a e.head v) (λ text u.
    goes_names u.names (made lib root left a u.names e.head.form text) u (λ m t. box_made inner a e text m t) (extends_same u.names) (λ m t. made_names inner a e text m t i)))

boxes_names : (lib : ℕ → Option Answer) (root : List ℕ) (left : ℕ) (inner : Inner) (a : Around) → NamesGoOn inner → (es : List Entry) (w : Stock)
    → Extends w.names (boxes_grown lib root left inner a es w).stock.names
boxes_names lib root left inner a i [] w = subst (λ (s : Step Trees). Extends w.names s.stock.names) (sym (no_boxes lib root left inner a w)) (extends_same w.names)
boxes_names lib root left inner a i (e ∷ es) w =
    subst (λ (s : Step Trees). Extends w.names s.stock.names) (sym (more_boxes lib root left inner a e es w))
    (let last : Trees → Trees → Stock → Step Trees = λ box rest u. gives (join box rest) u in
    let more : Trees → Stock → Step Trees = λ box v. boxes_grown lib root left inner a es v >>= last box in
    then_names w.names (box_grown lib root left inner a e w) more (box_names lib root left inner a e w i) (λ box v.
    then_names v.names (boxes_grown lib root left inner a es v) (last box) (boxes_names lib root left inner a i es v) (λ rest u. extends_same u.names)))

inner_names : (lib : ℕ → Option Answer) (root : List ℕ) (left : ℕ) → NamesGoOn (inner_of lib root left)
inner_names lib root zero a p w = extends_same w.names
inner_names lib root (suc n) a p w =
    subst (λ (s : Step Trees). Extends w.names s.stock.names) (sym (page_is lib root n a p w))
    (boxes_names lib root n (inner_of lib root n) a (inner_names lib root n) (elements_of p) w)

pub one_names : (lib : ℕ → Option Answer) (root : List ℕ) (left : ℕ) (a : Around) (e : Entry) (w : Stock)
    → Extends w.names (box_grown lib root left (inner_of lib root left) a e w).stock.names
one_names lib root left a e w = box_names lib root left (inner_of lib root left) a e w (inner_names lib root left)

-- a table that another one goes on is one
pub table_before : (old new : Names) → Extends old new → 6 ≤ length old → IsTable new → IsTable old
table_before old new x six t =
    subst IsTable (ap (λ (l : Names). take (length old) l) x.1 ∙ take-append_seam old x.0) (table_take new (length old) six t)

pub no_fewer : (a b : ℕ) → 6 ≤ a → a ≤ b → 6 ≤ b
no_fewer a b h k = omega (arith, h, k)

-- ---- what a file brings

-- what is known of a file that is read, and the names after it
pub record BringsWell (names : Names) (a : Answer × Names) : Type 0 where
  pub extends : Extends names a.1
  pub proper : IsTable names → IsProperAnswer a.1 a.0

none_brought : (names : Names) (n : ℕ) (a : Answer × Names) → Some (answer.Bad n, names) ≡ Some a → BringsWell names a
none_brought names n a h = subst (BringsWell names) (same_Some (answer.Bad n, names) a h) (record { extends = extends_same names; proper = λ t. tt })

read_brings : (names : Names) (bytes : List ℕ) (r : Result (Page × Names) DocRefusal) (a : Answer × Names) → document_of names bytes ≡ r → answer_read names r ≡ Some a → BringsWell names a
read_brings names bytes (Ok x) a e h =
    subst (BringsWell names) (same_Some (answer.Found (record { root = x.0 }), x.1) a h) (record {
      extends = document_extends names x.1 x.0 bytes e;
      proper = λ t. (read_is names x.1 x.0 bytes t e).proper;
    })
read_brings names bytes (Err (document.SymbolsFull n)) a e h = absurd (none-some a h)
read_brings names bytes (Err (document.BadRecord n)) a e h = none_brought names n a h
read_brings names bytes (Err (document.DataStructure n)) a e h = none_brought names n a h
read_brings names bytes (Err (document.TooDeep n)) a e h = none_brought names n a h
read_brings names bytes (Err (document.TooLong n)) a e h = none_brought names n a h
read_brings names bytes (Err (document.TooManyBoxes n)) a e h = none_brought names n a h
read_brings names bytes (Err (document.TooManyWires n)) a e h = none_brought names n a h
read_brings names bytes (Err document.NoMemory) a e h = none_brought names 0 a h

given_brings : (names : Names) (f : Fetch) (a : Answer × Names) → answer_given names f ≡ Some a → BringsWell names a
given_brings names Absent a h =
    subst (BringsWell names) (same_Some (answer.Absent, names) a h) (record { extends = extends_same names; proper = λ t. tt })
given_brings names TooLong a h = none_brought names 0 a h
given_brings names (Found bytes) a h = read_brings names bytes (document_of names bytes) a refl h

-- ---- gathering

-- what is known goes on from this, and is proper
pub record IsWell (first k : Known) : Type 0 where
  pub extends : Extends first.names k.names
  pub behind : GoesOn first.files k.files
  pub found : AreProper k.names k.files

abbrev WellAt : Known → Gathering → Type 0
WellAt first (Asks s k) = IsWell first k
WellAt first (Gathered k) = IsWell first k
WellAt first Full = Unit {0}

-- the names so far are the first ones of these
abbrev Reaches : Gathering → Names → Type 0
Reaches (Asks s k) names = Extends k.names names
Reaches (Gathered k) names = Extends k.names names
Reaches Full names = ⊥

module _ {A : Type 0} where
  asked_reaches : (k : Known) (r : Result A Stop) (names last : Names) → Extends k.names names → Reaches (asked_by k r names) last → Extends k.names last
  asked_reaches k (Ok a) names last x h = h
  asked_reaches k (Err (Lacks s)) names last x h = extends_on k.names names last x h
  asked_reaches k (Err SymbolsFull) names last x h = absurd h
  asked_reaches k (Err TooManyBoxes) names last x h = h
  asked_reaches k (Err NoMemory) names last x h = h

  asked_well : (first k : Known) (r : Result A Stop) (names last : Names) → Extends k.names names → IsTable k.names → (Extends names last → IsTable names) → Reaches (asked_by k r names) last → IsWell first k
      → WellAt first (asked_by k r names)
  asked_well first k (Ok a) names last x t more h w = w
  asked_well first k (Err (Lacks s)) names last x t more h w = record {
    extends = extends_on first.names k.names names w.extends x;
    behind = w.behind;
    found = still_found k.names names x t (more h) k.files w.found;
  }
  asked_well first k (Err SymbolsFull) names last x t more h w = tt
  asked_well first k (Err TooManyBoxes) names last x t more h w = w
  asked_well first k (Err NoMemory) names last x t more h w = w

  module _ (grows : Known → Step A) (on : (k : Known) → Extends k.names (grows k).stock.names) where
    given_reaches : (s : ℕ) (k : Known) (last : Names) (f : Fetch) (o : Option (Answer × Names)) → answer_given k.names f ≡ o
        → Reaches (option_map_or (λ a. asked_of grows (learned s k a)) o Full) last → Extends k.names last
    given_reaches s k last f None e h = absurd h
    given_reaches s k last f (Some a) e h =
        let next : Known = learned s k a in
        extends_on k.names a.1 last (given_brings k.names f a e).extends (asked_reaches next (grows next).answer (grows next).stock.names last (on next) h)

    after_reaches : (f : Fetch) (g : Gathering) (last : Names) → Reaches (after (asked_of grows) f g) last → Reaches g last
    after_reaches f (Asks s k) last h = given_reaches s k last f (answer_given k.names f) refl h
    after_reaches f (Gathered k) last h = h
    after_reaches f Full last h = h

    gathered_reaches : (fs : List Fetch) (g : Gathering) (k : Known) → gathered (asked_of grows) fs g ≡ Gathered k → Reaches g k.names
    gathered_reaches [] g k h = subst (λ (x : Gathering). Reaches x k.names) (sym h) (extends_same k.names)
    gathered_reaches (f ∷ fs) g k h = after_reaches f g k.names (gathered_reaches fs (after (asked_of grows) f g) k h)

    -- from the first growth on
    pub growth_reaches : (first last : Known) (fs : List Fetch) → gathered (asked_of grows) fs (asked_of grows first) ≡ Gathered last → Extends first.names last.names
    growth_reaches first last fs h =
        asked_reaches first (grows first).answer (grows first).stock.names last.names (on first) (gathered_reaches fs (asked_of grows first) last h)

    module _ (first last : Known) (six : 6 ≤ length first.names) (table : IsTable last.names) where
      table_of : (k : Known) → Extends first.names k.names → Extends k.names last.names → IsTable k.names
      table_of k x y = table_before k.names last.names y (no_fewer (length first.names) (length k.names) six (longer_table first.names k.names x)) table

      given_well : (s : ℕ) (k : Known) (f : Fetch) (o : Option (Answer × Names)) → answer_given k.names f ≡ o → IsWell first k → Extends k.names last.names
          → Reaches (option_map_or (λ a. asked_of grows (learned s k a)) o Full) last.names → WellAt first (option_map_or (λ a. asked_of grows (learned s k a)) o Full)
      given_well s k f None e w x h = tt
      given_well s k f (Some a) e w x h =
          let b : BringsWell k.names a = given_brings k.names f a e in
          let next : Known = learned s k a in
          let y : Extends a.1 last.names = asked_reaches next (grows next).answer (grows next).stock.names last.names (on next) h in
          let up : Extends first.names a.1 = extends_on first.names k.names a.1 w.extends b.extends in
          let before : IsTable k.names = table_of k w.extends x in
          let now : IsTable a.1 = table_of next up y in
          let well : IsWell first next = record {
            extends = up;
            behind = behind_on first.files k.files next.files w.behind (record { more = (s, a.0) ∷ []; is = refl });
            found = found_more a.1 k.files (s, a.0) (still_found k.names a.1 b.extends before now k.files w.found) (b.proper before);
          } in
          asked_well first next (grows next).answer (grows next).stock.names last.names (on next) now
          (λ z. table_of (known next.files (grows next).stock.names) (extends_on first.names a.1 (grows next).stock.names up (on next)) z) h well

      after_well : (f : Fetch) (g : Gathering) → WellAt first g → Reaches g last.names → Reaches (after (asked_of grows) f g) last.names → WellAt first (after (asked_of grows) f g)
      after_well f (Asks s k) w x h = given_well s k f (answer_given k.names f) refl w x h
      after_well f (Gathered k) w x h = w
      after_well f Full w x h = tt

      pub gathered_well : (fs : List Fetch) (g : Gathering) → WellAt first g → gathered (asked_of grows) fs g ≡ Gathered last → IsWell first last
      gathered_well [] g w h = subst (WellAt first) h w
      gathered_well (f ∷ fs) g w h =
          gathered_well fs (after (asked_of grows) f g)
          (after_well f g w (gathered_reaches (f ∷ fs) g last h) (gathered_reaches fs (after (asked_of grows) f g) last h)) h

      pub growth_well : AreProper first.names first.files → (fs : List Fetch) → gathered (asked_of grows) fs (asked_of grows first) ≡ Gathered last → IsWell first last
      growth_well found fs h =
          let x : Extends first.names last.names = growth_reaches first last fs h in
          gathered_well fs (asked_of grows first)
          (asked_well first first (grows first).answer (grows first).stock.names last.names (on first) (table_of first (extends_same first.names) x)
          (λ z. table_of (known first.files (grows first).stock.names) (on first) z) (gathered_reaches fs (asked_of grows first) last h)
          (record { extends = extends_same first.names; behind = behind_same first.files; found = found })) h
