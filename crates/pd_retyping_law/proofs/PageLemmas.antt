-- Another box in one canvas, and the document of the patch.
use Rattle.std.proofs.Common.{◌≡◌, ◌≢◌, ℕ, zero, suc, ◌+◌, ◌<◌, ◌≤◌, Bool, true, false, if◌then◌else◌, List, [], ◌∷◌, length, Option, Some, None, refl, sym, ap, ◌∙◌, subst, arith}
use Rattle.std.specs.Prelude.{◌-◌, IsTrue}
use Rattle.std.proofs.lemmas.Option.{none-some, same_Some}
use Rattle.slab.specs.Slab.{Slab, get}
use Rattle.pd_atom.specs.declared.Atom.{Atom}
use Rattle.pd_kind.specs.declared.states.State.{State}
use Rattle.pd_canvas.specs.declared.edits.Edit.TheVariants as edit
use Rattle.pd_canvas.specs.Pages.{Shape, Obj, Msg, Comment, Sub, Head, Page, Entry, listed, with_elements}
use Rattle.pd_canvas.specs.Paths.{at_place, change_box, inside, edit_at}
use Rattle.pd_canvas.specs.Edits.{CanRetype, begins_with_pd, edited, element, object, retyped, retyped_as, takes_text}
use Rattle.pd_canvas.specs.Views.{entry_of}
use Rattle.pd_grove.specs.declared.boards.Board.{Board}
use Rattle.pd_grove.specs.declared.nodes.Node.{Node}
use Rattle.pd_grove.specs.declared.grove.Grove.{Grove}
use Rattle.pd_grove.specs.OwnPaths.{sub_reached}
use Rattle.pd_grove.specs.Standing.{depth_of}
use Rattle.pd_grove.specs.Telling.{inner_in}
use Rattle.pd_web.specs.declared.web.Web.{Web}
use Rattle.pd_web.specs.Canvases.{keys_at}
use Rattle.pd_present.specs.Contents.{present_form, present_head}
use Rattle.pd_present.specs.Presents.{held_in, page_inside, entry_at, page_within, present_page}
use Rattle.pd_present.proofs.PresentLemmas.{within_none, within_suc}
use Rattle.pd_putting_law.specs.Putting.{HoldsPage, IsSavedAs, entry_kept}
use Rattle.pd_putting_law.proofs.ListLemmas.{map_same, map_changed}
use Rattle.pd_putting_law.proofs.PathLemmas.{subs, sub_leads, deep_as, LeadsNot, not_same, not_inside, not_below, not_around, not_beside}
use Rattle.pd_putting_law.proofs.PageLemmas.{entry_same, sub_entry, page_same, page_changed}
use Rattle.pd_retyping_law.specs.Retyping.{RetypesBoxAt, RenamesBoxAt, ChangesBoxAt}
use Rattle.pd_retyping_law.proofs.PlaceLemmas.{others_in, others_here, retypes_so, renames_so}

-- ---- what is saved of a box without a canvas

leaf_page : (f : Shape) (held : ℕ → Page) (boards : ℕ → Option Board) (inner : Option ℕ) (p : Page) → inner ≡ None → HoldsPage f boards inner p
    → held_in f (page_inside held inner) ≡ p
leaf_page Sub held boards inner p bare E = absurd (none-some E.key (sym bare ∙ E.held))
leaf_page f held boards inner p bare E = sym E

leaf_inner : (boards : ℕ → Option Board) (o : Option Node) (e : Entry) (n : Node) → o ≡ Some n → n.inner ≡ None → (S : IsSavedAs boards o e) → S.node.inner ≡ None
leaf_inner boards o e n is bare S = ap (λ (x : Node). x.inner) (same_Some S.node n (sym S.is ∙ is)) ∙ bare

leaf_saved : (held : ℕ → Page) (boards : ℕ → Option Board) (o : Option Node) (e : Entry) (n : Node) → o ≡ Some n → n.inner ≡ None → IsSavedAs boards o e
    → entry_at held o ≡ e
leaf_saved held boards o e n is bare S =
    let m = S.node in
    ap (entry_at held) S.is
    ∙ ap (λ (x : Head). record { head = x; page = held_in (entry_of m.element).head.form (page_inside held m.inner) }) S.head
    ∙ ap (λ (p : Page). record { head = e.head; page = p })
    (leaf_page (entry_of m.element).head.form held boards m.inner e.page (leaf_inner boards o e n is bare S) S.holds)

sub_form : (f : Shape) (text : List Atom) (s : Option State) → present_form text s f ≡ Sub → f ≡ Sub
sub_form Sub text s e = refl
sub_form f text s e = cc

-- it is no subpatch
no_sub : (boards : ℕ → Option Board) (o : Option Node) (e : Entry) (n : Node) → o ≡ Some n → n.inner ≡ None → IsSavedAs boards o e → e.head.form ≡ Sub → ⊥
no_sub boards o e n is bare S form =
    let m = S.node in
    let f : (entry_of m.element).head.form ≡ Sub =
    sub_form (entry_of m.element).head.form (entry_of m.element).head.text m.state (ap (λ (x : Head). x.form) S.head ∙ form) in
    let E : HoldsPage Sub boards m.inner e.page = subst (λ (x : Shape). HoldsPage x boards m.inner e.page) f S.holds in
    none-some E.key (sym (leaf_inner boards o e n is bare S) ∙ E.held)

-- ---- another text

other_text : (b : Bool) (x y z : Entry) → (b ≡ true → ⊥) → (if b then x else z) ≡ (if b then y else z)
other_text true x y z never = absurd (never refl)
other_text false x y z never = refl

-- what a box keeps and holds has no part in it
retyped_by : (f : Shape) (text : List Atom) (s : Option State) (h : Head) (p q : Page) → IsTrue (takes_text f h.text) → (f ≡ Sub → begins_with_pd text ≡ true → ⊥)
    → retyped_as (present_form h.text s f) text (record { head = present_head s h; page = p }) ≡ retyped_as f text (record { head = h; page = q })
retyped_by Obj text s h p q can never = refl
retyped_by Msg text s h p q can never = refl
retyped_by Comment text s h p q can never = refl
retyped_by Sub text s h p q can never =
    other_text (begins_with_pd text) (element Sub p h.x h.y text) (element Sub q h.x h.y text) (object h.x h.y text) (never refl)
retyped_by f text s h p q can never = cc

sub_retyped : (text : List Atom) (e : Entry) → e.head.form ≡ Sub → begins_with_pd text ≡ true → (retyped text e).head.form ≡ Sub
sub_retyped text e form pd =
    ap (λ (f : Shape). (retyped_as f text e).head.form) form
    ∙ ap (λ b. (if b then element Sub e.page e.head.x e.head.y text else object e.head.x e.head.y text).head.form) pd

-- a subpatch that keeps what it holds
pub kept_head : (text : List Atom) (e : Entry) → e.head.form ≡ Sub → begins_with_pd text ≡ true → (retyped text e).head ≡ (element Sub e.page e.head.x e.head.y text).head
kept_head text e form pd =
    ap (λ (f : Shape). (retyped_as f text e).head) form
    ∙ ap (λ b. (if b then element Sub e.page e.head.x e.head.y text else object e.head.x e.head.y text).head) pd

kept_entry : (text : List Atom) (h : Head) (s : Option State) (p : Page) → h.form ≡ Sub → begins_with_pd text ≡ true
    → retyped text (record { head = present_head s h; page = held_in h.form p }) ≡ element Sub p h.x h.y text
kept_entry text h s p form pd =
    ap (λ (f : Shape). retyped_as (present_form h.text s f) text (record { head = present_head s h; page = held_in f p })) form
    ∙ ap (λ b. if b then element Sub p h.x h.y text else object h.x h.y text) pd

inside_same : (o : Option ℕ) {before after : ℕ → Page} → ((j : ℕ) → o ≡ Some j → after j ≡ before j) → page_inside after o ≡ page_inside before o
inside_same None h = refl
inside_same (Some j) h = h j refl

-- ---- the canvases of two groves

module _ (g h : Grove) (path₀ : List ℕ) (canvas key number : ℕ) (n n' : Node) (B : ChangesBoxAt g h path₀ canvas key number n n') (w : Web) (numbers : List ℕ) where
  abbrev old : ℕ → ℕ → Page
  old m c = page_within w numbers (get g.nodes) (get g.boards) m c

  abbrev new : ℕ → ℕ → Page
  new m c = page_within w numbers (get h.nodes) (get g.boards) m c

  -- what the old box had becomes this of it, where the canvas that it holds stays
  abbrev pub ChangesEntry : (Entry → Entry) → Type 0
  ChangesEntry change =
      (before after : ℕ → Page) → ((j : ℕ) → n.inner ≡ Some j → after j ≡ before j) → entry_at after (get h.nodes key) ≡ change (entry_at before (get g.nodes key))

  box_aside : (m k : ℕ) → k ≢ key → ((j : ℕ) → inner_in (get g.nodes k) ≡ Some j → new m j ≡ old m j) → entry_at (new m) (get h.nodes k) ≡ entry_at (old m) (get g.nodes k)
  box_aside m k d inner = ap (entry_at (new m)) (B.others k d) ∙ entry_same (old m) (new m) (get g.nodes k) inner

  page_aside : (m c : ℕ) → LeadsNot g canvas c → new m c ≡ old m c
  page_aside zero c a = within_none w numbers (get h.nodes) (get g.boards) c ∙ sym (within_none w numbers (get g.nodes) (get g.boards) c)
  page_aside (suc m) c a =
      within_suc w numbers (get h.nodes) (get g.boards) m c
      ∙ page_same w w numbers numbers (get g.nodes) (get h.nodes) (old m) (new m) (get g.boards c)
      (map_same (λ k. entry_at (old m) (get g.nodes k)) (λ k. entry_at (new m) (get h.nodes k)) (keys_at g c) (λ i k at.
      box_aside m k (others_in g h path₀ canvas key number n n' B c (keys_at g c) refl (not_same g canvas c a) i k at)
      (λ j holds. page_aside m j (not_inside g canvas c i k j a at holds))))
      refl
      ∙ sym (within_suc w numbers (get g.nodes) (get g.boards) m c)

  page_here : (change : Entry → Entry) → ChangesEntry change → (m : ℕ) → new (suc m) canvas ≡ change_box number change (old (suc m) canvas)
  page_here change becomes m =
      within_suc w numbers (get h.nodes) (get g.boards) m canvas
      ∙ page_changed w w numbers numbers (get g.nodes) (get h.nodes) (old m) (new m) change number key (get g.boards canvas) B.is
      (map_changed (λ k. entry_at (old m) (get g.nodes k)) (λ k. entry_at (new m) (get h.nodes k)) change number (keys_at g canvas)
      (λ k at. subst (λ z. entry_at (new m) (get h.nodes z) ≡ change (entry_at (old m) (get g.nodes z))) (same_Some key k (sym B.is ∙ at)) (becomes (old m) (new m)
      (λ j holds. page_aside m j (not_below g B.forest canvas number key j B.is (ap inner_in B.was ∙ holds)))))
      (λ i k away at. box_aside m k (others_here g h path₀ canvas key number n n' B (keys_at g canvas) refl i k away at)
      (λ j holds. page_aside m j (not_below g B.forest canvas i k j at holds))))
      refl
      ∙ sym (ap (change_box number change) (within_suc w numbers (get g.nodes) (get g.boards) m canvas))

  page_along : (change : Entry → Entry) → ChangesEntry change → (l m c : ℕ) (path : List ℕ) → sub_reached g (Some c) path ≡ Some canvas → m ≡ length path + suc l
      → new m c ≡ edit_at path (change_box number change) (old m c)
  page_along change becomes l zero c path on low = absurd (nothing (length path) l low)
    where
      nothing : (n l : ℕ) → 0 ≡ n + suc l → ⊥
      nothing n l e = omega (arith, e)
  page_along change becomes l (suc m) c [] on low =
      let here : c ≡ canvas = same_Some c canvas on in
      ap (new (suc m)) here ∙ page_here change becomes m ∙ ap (λ z. change_box number change (old (suc m) z)) (sym here)
  page_along change becomes l (suc m) c (i ∷ path) on low =
      let s = subs g c i path canvas on in
      let way = sub_leads g c canvas (i ∷ path) on in
      let apart : c ≢ canvas = not_around g B.forest c i path canvas way in
      let within : Page → Page = edit_at path (change_box number change) in
      within_suc w numbers (get h.nodes) (get g.boards) m c
      ∙ page_changed w w numbers numbers (get g.nodes) (get h.nodes) (old m) (new m) (inside within) i s.key (get g.boards c) s.is
      (map_changed (λ k. entry_at (old m) (get g.nodes k)) (λ k. entry_at (new m) (get h.nodes k)) (inside within) i (keys_at g c)
      (λ k at. subst (λ z. entry_at (new m) (get h.nodes z) ≡ inside within (entry_at (old m) (get g.nodes z))) (same_Some s.key k (sym s.is ∙ at))
      (ap (entry_at (new m)) (B.others s.key (others_in g h path₀ canvas key number n n' B c (keys_at g c) refl apart i s.key s.is))
      ∙ sub_entry (old m) (new m) (get g.nodes s.key) s.inner within s.sub (page_along change becomes l m s.inner path s.on (fewer m (length path) l low))))
      (λ i2 k away at. box_aside m k (others_in g h path₀ canvas key number n n' B c (keys_at g c) refl apart i2 k at)
      (λ j inner. page_aside m j (not_beside g B.forest c i path canvas i2 k j way away at inner))))
      refl
      ∙ sym (ap (λ (p : Page). with_elements (at_place i (inside within) (listed p.boxes)) p) (within_suc w numbers (get g.nodes) (get g.boards) m c))
    where
      fewer : (m l k : ℕ) → suc m ≡ suc l + suc k → m ≡ l + suc k
      fewer m l k h = omega (arith, h)

  pub document_changed : (change : Entry → Entry) → ChangesEntry change → present_page h w numbers ≡ edit_at path₀ (change_box number change) (present_page g w numbers)
  document_changed change becomes =
      let F = B.forest in
      let deep = deep_as g F path₀ g.root canvas (sub_leads g g.root canvas path₀ B.leads) in
      let low : length path₀ ≤ 256 = shallow (depth_of (get g.boards canvas)) (depth_of (get g.boards g.root)) (length path₀) deep F.rooted.2 (F.shallow canvas) in
      ap (λ (s : Slab Board). page_within w numbers (get h.nodes) (get s) 257 h.root) B.boards
      ∙ ap (page_within w numbers (get h.nodes) (get g.boards) 257) B.root
      ∙ page_along change becomes (256 - length path₀) 257 g.root path₀ B.leads (whole (length path₀) low)
    where
      shallow : (d r l : ℕ) → d ≡ r + l → r ≡ 0 → d < 257 → l ≤ 256
      shallow d r l a b c = omega (arith, a, b, c)

      whole : (l : ℕ) → l ≤ 256 → 257 ≡ l + suc (256 - l)
      whole l h = omega (arith, h)

-- ---- another box without a canvas

module _ (g h : Grove) (path₀ : List ℕ) (canvas key number : ℕ) (n n' : Node) (B : RetypesBoxAt g h path₀ canvas key number n n') (w : Web) (numbers : List ℕ) where
  pub document_by : (change : Entry → Entry) → ((before after : ℕ → Page) → entry_at after (get h.nodes key) ≡ change (entry_at before (get g.nodes key)))
      → present_page h w numbers ≡ edit_at path₀ (change_box number change) (present_page g w numbers)
  document_by change becomes =
      document_changed g h path₀ canvas key number n n' (retypes_so g h path₀ canvas key number n n' B) w numbers change (λ before after _. becomes before after)

  pub new_entry : (held : ℕ → Page) (e : Entry) → IsSavedAs (get h.boards) (get h.nodes key) e → entry_at held (get h.nodes key) ≡ e
  new_entry held e S = leaf_saved held (get h.boards) (get h.nodes key) e n' B.becomes B.leaf S

  pub document_replaced : (e : Entry) → IsSavedAs (get h.boards) (get h.nodes key) e
      → present_page h w numbers ≡ edit_at path₀ (change_box number (λ _. e)) (present_page g w numbers)
  document_replaced e S = document_by (λ _. e) (λ before after. new_entry after e S)

  pub document_edited : (text : List Atom) (e : Entry) → IsSavedAs (get g.boards) (get g.nodes key) e → IsSavedAs (get h.boards) (get h.nodes key) (retyped text e)
      → present_page h w numbers ≡ edit_at path₀ (edited (edit.Retype number text)) (present_page g w numbers)
  document_edited text e S T =
      document_by (retyped text) (λ before after.
      new_entry after (retyped text e) T ∙ ap (retyped text) (sym (leaf_saved before (get g.boards) (get g.nodes key) e n B.was B.bare S)))

  -- what the old box had becomes the same with a text as the element from which it grew
  pub retyped_there : (text : List Atom) → CanRetype (entry_of n.element) → ((entry_of n.element).head.form ≡ Sub → begins_with_pd text ≡ true → ⊥) → (before : ℕ → Page)
      → retyped text (entry_at before (get g.nodes key)) ≡ retyped text (entry_of n.element)
  retyped_there text can never before =
      let e = entry_of n.element in
      ap (λ o. retyped text (entry_at before o)) B.was
      ∙ retyped_by e.head.form text n.state e.head (held_in e.head.form (page_inside before n.inner)) e.page can never

  pub document_retyped : (text : List Atom) → CanRetype (entry_of n.element) → IsSavedAs (get h.boards) (get h.nodes key) (retyped text (entry_of n.element))
      → present_page h w numbers ≡ edit_at path₀ (edited (edit.Retype number text)) (present_page g w numbers)
  document_retyped text can T =
      let e = entry_of n.element in
      document_by (retyped text) (λ before after.
      new_entry after (retyped text e) T
      ∙ sym (retyped_there text can (λ form pd. no_sub (get h.boards) (get h.nodes key) (retyped text e) n' B.becomes B.leaf T (sub_retyped text e form pd)) before))

-- ---- a subpatch with another text

module _ (g h : Grove) (path₀ : List ℕ) (canvas key number : ℕ) (n n' : Node) (B : RenamesBoxAt g h path₀ canvas key number n n') (w : Web) (numbers : List ℕ) where
  -- the element of a subpatch with this page and this text
  abbrev with_page : List Atom → Page → Entry
  with_page text p = element Sub p (entry_of n.element).head.x (entry_of n.element).head.y text

  entry_now : (text : List Atom) → begins_with_pd text ≡ true → (entry_of n'.element).head ≡ (retyped text (entry_of n.element)).head → (before after : ℕ → Page)
      → ((j : ℕ) → n.inner ≡ Some j → after j ≡ before j) → entry_at after (get h.nodes key) ≡ with_page text (page_inside before n.inner)
  entry_now text pd head before after same =
      ap (entry_at after) B.becomes
      ∙ ap (λ (o : Option ℕ). record { head = present_head n'.state (entry_of n'.element).head; page = held_in (entry_of n'.element).head.form (page_inside after o) }) B.inner
      ∙ ap (λ (x : Head). record { head = present_head n'.state x; page = held_in x.form (page_inside after n.inner) }) (head ∙ kept_head text (entry_of n.element) B.sub pd)
      ∙ ap (with_page text) (inside_same n.inner same)

  entry_was : (text : List Atom) → begins_with_pd text ≡ true → (before : ℕ → Page) → retyped text (entry_at before (get g.nodes key)) ≡ with_page text (page_inside before n.inner)
  entry_was text pd before =
      ap (λ o. retyped text (entry_at before o)) B.was ∙ kept_entry text (entry_of n.element).head n.state (page_inside before n.inner) B.sub pd

  pub document_renamed : (text : List Atom) → begins_with_pd text ≡ true → (entry_of n'.element).head ≡ (retyped text (entry_of n.element)).head
      → present_page h w numbers ≡ edit_at path₀ (edited (edit.Retype number text)) (present_page g w numbers)
  document_renamed text pd head =
      document_changed g h path₀ canvas key number n n' (renames_so g h path₀ canvas key number n n' B) w numbers (retyped text) (λ before after same.
      entry_now text pd head before after same ∙ sym (entry_was text pd before))

  -- whatever it kept, that is no part of its element
  pub renamed_kept : (text : List Atom) (s : Option State) → begins_with_pd text ≡ true → (entry_of n'.element).head ≡ (retyped text (entry_of n.element)).head
      → present_page h w numbers ≡ edit_at path₀ (change_box number (λ e. entry_kept s (retyped text e))) (present_page g w numbers)
  renamed_kept text s pd head =
      document_changed g h path₀ canvas key number n n' (renames_so g h path₀ canvas key number n n' B) w numbers (λ e. entry_kept s (retyped text e)) (λ before after same.
      entry_now text pd head before after same ∙ sym (ap (entry_kept s) (entry_was text pd before)))
