-- The box that changed, among the boxes of its canvas and of others.
use Rattle.std.proofs.Common.{◌≡◌, ◌≢◌, ℕ, zero, suc, List, ◌∷◌, slice_get, Option, Some, refl, sym, ap, ◌∙◌, arith}
use Rattle.std.specs.Prelude.{option_map}
use Rattle.std.proofs.lemmas.Option.{none-some, same_Some}
use Rattle.slab.specs.Slab.{get}
use Rattle.pd_canvas.specs.Pages.{Sub}
use Rattle.pd_grove.specs.declared.nodes.Node.{Node}
use Rattle.pd_grove.specs.declared.grove.Grove.{Grove}
use Rattle.pd_grove.specs.Owning.{board_in}
use Rattle.pd_grove.specs.Standing.{NodeSeen, node_seen}
use Rattle.pd_web.specs.Canvases.{keys_at}
use Rattle.pd_retyping_law.specs.Retyping.{RetypesBoxAt, RenamesBoxAt, ChangesBoxAt, cell_in}

-- ---- what changed

pub retypes_so : (g h : Grove) (path : List ℕ) (canvas key number : ℕ) (n n' : Node) → RetypesBoxAt g h path canvas key number n n' → ChangesBoxAt g h path canvas key number n n'
retypes_so g h path canvas key number n n' B = record {
  forest = B.forest;
  leads = B.leads;
  is = B.is;
  was = B.was;
  becomes = B.becomes;
  inner = B.leaf ∙ sym B.bare;
  sub = λ j e. absurd (none-some j (sym B.bare ∙ e));
  form = λ j e. absurd (none-some j (sym B.bare ∙ e));
  board = B.board;
  others = B.others;
  boards = B.boards;
  root = B.root;
}

pub renames_so : (g h : Grove) (path : List ℕ) (canvas key number : ℕ) (n n' : Node) → RenamesBoxAt g h path canvas key number n n' → ChangesBoxAt g h path canvas key number n n'
renames_so g h path canvas key number n n' B = record {
  forest = B.forest;
  leads = B.leads;
  is = B.is;
  was = B.was;
  becomes = B.becomes;
  inner = B.inner;
  sub = λ j e. B.sub;
  form = λ j e. B.form;
  board = B.board;
  others = B.others;
  boards = B.boards;
  root = B.root;
}

-- ---- keys

-- none of these boxes is the one of the key
abbrev pub AreOthers : ℕ → List ℕ → Type 0
AreOthers key keys = (i k : ℕ) → slice_get keys i ≡ Some k → k ≢ key

-- none but the one of a number
abbrev pub AreOthersBut : ℕ → ℕ → List ℕ → Type 0
AreOthersBut key n keys = (i k : ℕ) → i ≢ n → slice_get keys i ≡ Some k → k ≢ key

pub others_next : (key k : ℕ) (ks : List ℕ) → AreOthers key (k ∷ ks) → AreOthers key ks
others_next key k ks o i l e = o (suc i) l e

pub but_first : (key k : ℕ) (ks : List ℕ) → AreOthersBut key zero (k ∷ ks) → AreOthers key ks
but_first key k ks o i l e = o (suc i) l (never i) e
  where
    never : (i : ℕ) → suc i ≢ 0
    never i e = cc

pub but_next : (key n k : ℕ) (ks : List ℕ) → AreOthersBut key (suc n) (k ∷ ks) → AreOthersBut key n ks
but_next key n k ks o i l apart e = o (suc i) l (λ s. apart (less i n s)) e
  where
    less : (i n : ℕ) → suc i ≡ suc n → i ≡ n
    less i n e = omega (arith, e)

pub but_here : (key n k : ℕ) (ks : List ℕ) → AreOthersBut key (suc n) (k ∷ ks) → k ≢ key
but_here key n k ks o = o 0 k (never n) refl
  where
    never : (n : ℕ) → 0 ≢ suc n
    never n e = cc

module _ (g h : Grove) (path₀ : List ℕ) (canvas key number : ℕ) (n n' : Node) (B : ChangesBoxAt g h path₀ canvas key number n n') where
  -- a box of another canvas is another box, and so is one of another number
  elsewhere : (c i k : ℕ) → c ≢ canvas → slice_get (keys_at g c) i ≡ Some k → k ≢ key
  elsewhere c i k apart at same =
      apart (same_Some c canvas (sym (B.forest.own.home c i k at) ∙ ap (λ z. board_in (get g.nodes z)) same ∙ B.forest.own.home canvas number key B.is))

  beside : (i k : ℕ) → i ≢ number → slice_get (keys_at g canvas) i ≡ Some k → k ≢ key
  beside i k apart at same = apart (B.forest.own.once canvas i number k at (B.is ∙ ap Some (sym same)))

  pub others_in : (c : ℕ) (ks : List ℕ) → keys_at g c ≡ ks → c ≢ canvas → AreOthers key ks
  others_in c ks same apart i k at = elsewhere c i k apart (ap (λ (l : List ℕ). slice_get l i) same ∙ at)

  pub others_here : (ks : List ℕ) → keys_at g canvas ≡ ks → AreOthersBut key number ks
  others_here ks same i k apart at = beside i k apart (ap (λ (l : List ℕ). slice_get l i) same ∙ at)

  pub is_here : (ks : List ℕ) → keys_at g canvas ≡ ks → slice_get ks number ≡ Some key
  is_here ks same = ap (λ (l : List ℕ). slice_get l number) (sym same) ∙ B.is

  -- the box that was there is seen as this
  pub was_seen : (k : ℕ) (z : NodeSeen) → k ≡ key → option_map node_seen (get g.nodes k) ≡ Some z → node_seen n ≡ z
  was_seen k z same e = same_Some (node_seen n) z (sym (ap (option_map node_seen) (ap (λ j. get g.nodes j) same ∙ B.was)) ∙ e)

  -- where it holds a canvas, both are subpatches
  pub sub_was : (k j : ℕ) (z : NodeSeen) → k ≡ key → option_map node_seen (get g.nodes k) ≡ Some z → z.inner ≡ Some j → z.cell.head.form ≡ Sub
  sub_was k j z same e holds =
      let seen = was_seen k z same e in
      sym (ap (λ (y : NodeSeen). y.cell.head.form) seen) ∙ B.sub j (ap (λ (y : NodeSeen). y.inner) seen ∙ holds)

  pub sub_now : (k j : ℕ) (z : NodeSeen) → k ≡ key → option_map node_seen (get g.nodes k) ≡ Some z → z.inner ≡ Some j → (cell_in n').head.form ≡ Sub
  sub_now k j z same e holds = B.form j (ap (λ (y : NodeSeen). y.inner) (was_seen k z same e) ∙ holds)

  pub is_now : (k : ℕ) → k ≡ key → get h.nodes k ≡ Some n'
  is_now k same = ap (λ j. get h.nodes j) same ∙ B.becomes

  pub now_seen : (k : ℕ) (z : NodeSeen) → k ≡ key → option_map node_seen (get g.nodes k) ≡ Some z
      → option_map node_seen (get h.nodes k) ≡ Some (record { board = z.board; cell = cell_in n'; inner = z.inner })
  now_seen k z same e =
      let seen = was_seen k z same e in
      ap (option_map node_seen) (is_now k same)
      ∙ ap (λ b. Some (record { board = b; cell = cell_in n'; inner = n'.inner })) (B.board ∙ ap (λ (y : NodeSeen). y.board) seen)
      ∙ ap (λ (o : Option ℕ). Some (record { board = z.board; cell = cell_in n'; inner = o })) (B.inner ∙ ap (λ (y : NodeSeen). y.inner) seen)

  pub seen_still : (k : ℕ) (z : NodeSeen) → k ≢ key → option_map node_seen (get g.nodes k) ≡ Some z → option_map node_seen (get h.nodes k) ≡ Some z
  seen_still k z d e = ap (option_map node_seen) (B.others k d) ∙ e
