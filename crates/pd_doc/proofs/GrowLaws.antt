-- What is proper in a table is proper in one that goes on where it ends.
use Rattle.std.proofs.Common.{◌≡◌, List, [], ◌∷◌, refl, ap, ◌∙◌}
use Rattle.std.specs.List.{AllByRecursion}
use Rattle.pd_atom.specs.Names.{Names, IsTable, Extends}
use Rattle.pd_atom.specs.Atoms.{IsOf, spelled}
use Rattle.pd_atom.specs.declared.Atom.{Atom}
use Rattle.pd_atom.specs.declared.Atom.TheVariants.{Number, Symbol, Dollar, DollarSymbol, Comma, Semi}
use Rattle.pd_atom.proofs.LawLemmas.{of_extended, settled_extended}
use Rattle.pd_canvas.specs.Pages.{Shape, Obj, Msg, Comment, FloatBox, SymbolBox, Sub, Array, Other, Head, Frame, Boxes, End, Box, Page, Entry, frame_of}
use Rattle.pd_canvas.specs.Proper.{IsReady, AreReady, IsText, IsKept, is_record_word, FitsForm, IsHead, IsFrame, AreBoxes, IsSmall, IsProper}
use Rattle.pd_canvas.proofs.SoundLemmas.{IsEntry}
use Rattle.pd_doc.specs.States.{Level}
use Rattle.pd_doc.proofs.ResultLemmas.{extends_same, extends_on}
use Rattle.pd_doc.proofs.ReadyLaws.{name_extended, below_extended}

-- one table goes on where another ends
pub record Grows (old new : Names) : Type 0 where
  pub extends : Extends old new
  pub before : IsTable old
  pub after : IsTable new

pub grows_same : (names : Names) → IsTable names → Grows names names
grows_same names t = record { extends = extends_same names; before = t; after = t }

pub grows_on : (a b c : Names) → Grows a b → Grows b c → Grows a c
grows_on a b c f g = record { extends = extends_on a b c f.extends g.extends; before = f.before; after = g.after }

-- ---- atoms

ready_grows : (old new : Names) → Grows old new → (a : Atom) → IsReady old a → IsReady new a
ready_grows old new g a h = (of_extended old new a g.extends h.0, settled_extended old new a g.extends g.before g.after h.0 h.1)

pub are_ready_grows : (old new : Names) → Grows old new → (l : List Atom) → AreReady old l → AreReady new l
are_ready_grows old new g [] h = tt
are_ready_grows old new g (a ∷ l) h = (ready_grows old new g a h.0, are_ready_grows old new g l h.1)

text_grows : (old new : Names) → Grows old new → (l : List Atom) → IsText old l → IsText new l
text_grows old new g l h = (are_ready_grows old new g l h.0, h.1)

spelled_same : (old new : Names) → Extends old new → (a : Atom) → IsOf old a → spelled new a ≡ spelled old a
spelled_same old new x (Number z) h = refl
spelled_same old new x (Symbol s) h = name_extended old new x s h
spelled_same old new x (Dollar n) h = refl
spelled_same old new x (DollarSymbol s) h = name_extended old new x s h
spelled_same old new x Comma h = refl
spelled_same old new x Semi h = refl

row_grows : (old new : Names) → Grows old new → (r : List Atom) → IsKept old r → IsKept new r
row_grows old new g [] h = h
row_grows old new g (a ∷ r) h =
    (text_grows old new g (a ∷ r) h.0, ap is_record_word (spelled_same old new g.extends a h.0.0.0.0) ∙ h.1)

kept_grows : (old new : Names) → Grows old new → (rs : List (List Atom)) → AllByRecursion (IsKept old) rs → AllByRecursion (IsKept new) rs
kept_grows old new g [] h = tt
kept_grows old new g (r ∷ rs) h = (row_grows old new g r h.0, kept_grows old new g rs h.1)

texts_grow : (old new : Names) → Grows old new → (rs : List (List Atom)) → AllByRecursion (IsText old) rs → AllByRecursion (IsText new) rs
texts_grow old new g [] h = tt
texts_grow old new g (r ∷ rs) h = (text_grows old new g r h.0, texts_grow old new g rs h.1)

tails_grow : (old new : Names) → Grows old new → (rs : List (List Atom)) → AllByRecursion (AreReady old) rs → AllByRecursion (AreReady new) rs
tails_grow old new g [] h = tt
tails_grow old new g (r ∷ rs) h = (are_ready_grows old new g r h.0, tails_grow old new g rs h.1)

-- ---- elements and canvases

pub form_grows : (old new : Names) → Grows old new → (s : Shape) (x : Head) → FitsForm old s x → FitsForm new s x
form_grows old new g Obj x h = h
form_grows old new g Msg x h = tt
form_grows old new g Comment x h = tt
form_grows old new g FloatBox x h = tt
form_grows old new g SymbolBox x h = tt
form_grows old new g Sub x h = tt
form_grows old new g (Array vs) x h = h
form_grows old new g (Other s) x h = (below_extended old new g.extends s h.0, name_extended old new g.extends s h.0 ∙ h.1)

head_grows : (old new : Names) → Grows old new → (x : Head) → IsHead old x → IsHead new x
head_grows old new g x h = record {
  x = h.x;
  y = h.y;
  text = text_grows old new g x.text h.text;
  width = h.width;
  tail = tails_grow old new g x.tail h.tail;
  form = form_grows old new g x.form x h.form;
}

frame_grows : (old new : Names) → Grows old new → (f : Frame) → IsFrame old f → IsFrame new f
frame_grows old new g f h = record {
  header = text_grows old new g f.header h.header;
  kept = kept_grows old new g f.kept h.kept;
  small = h.small;
  sorted = h.sorted;
  coords = texts_grow old new g f.coords h.coords;
}

boxes_grow : (old new : Names) → Grows old new → (b : Boxes) → AreBoxes old b → AreBoxes new b
boxes_grow old new g End h = tt
boxes_grow old new g (Box x f inner rest) h =
    (head_grows old new g x h.0, h.1, frame_grows old new g f h.2, boxes_grow old new g inner h.3, boxes_grow old new g rest h.4)

pub entry_grows : (old new : Names) → Grows old new → (e : Entry) → IsEntry old e → IsEntry new e
entry_grows old new g e h = record {
  head = head_grows old new g e.head h.head;
  none = h.none;
  frame = frame_grows old new g (frame_of e.page) h.frame;
  boxes = boxes_grow old new g e.page.boxes h.boxes;
}

entries_grow : (old new : Names) → Grows old new → (es : List Entry) → AllByRecursion (IsEntry old) es → AllByRecursion (IsEntry new) es
entries_grow old new g [] h = tt
entries_grow old new g (e ∷ es) h = (entry_grows old new g e h.0, entries_grow old new g es h.1)

pub proper_grows : (old new : Names) → Grows old new → (p : Page) → IsProper old p → IsProper new p
proper_grows old new g p h = record {
  sound = (frame_grows old new g (frame_of p) h.sound.0, boxes_grow old new g p.boxes h.sound.1);
  limits = h.limits;
}

-- ---- canvases that are open

-- what has come of an open canvas is proper
pub record IsLevel (names : Names) (l : Level) : Type 0 where
  pub header : IsText names l.header
  pub kept : AllByRecursion (IsKept names) l.kept
  pub entries : AllByRecursion (IsEntry names) l.boxes
  pub small : AllByRecursion IsSmall l.wires
  pub coords : AllByRecursion (IsText names) l.coords

level_grows : (old new : Names) → Grows old new → (l : Level) → IsLevel old l → IsLevel new l
level_grows old new g l h = record {
  header = text_grows old new g l.header h.header;
  kept = kept_grows old new g l.kept h.kept;
  entries = entries_grow old new g l.boxes h.entries;
  small = h.small;
  coords = texts_grow old new g l.coords h.coords;
}

abbrev pub AreLevels : Names → List Level → Type 0
AreLevels names ls = AllByRecursion (IsLevel names) ls

pub levels_grow : (old new : Names) → Grows old new → (ls : List Level) → AreLevels old ls → AreLevels new ls
levels_grow old new g [] h = tt
levels_grow old new g (l ∷ ls) h = (level_grows old new g l h.0, levels_grow old new g ls h.1)
