-- Why an edit puts no box, and what is counted where it puts one.
use Rattle.std.proofs.Common.{◌≡◌, ◌≢◌, ◌⊎◌, ◌+◌, ◌-◌, ℕ, List, [], ◌∷◌, filter, length, Option, Result, Ok, Err, IfSome, inl, inr, refl, sym, ap, ◌∙◌, subst, arith}
use mathlib.Core.Logic.{⊎_elim}
use Rattle.pd_io.specs.declared.files.FileRow.{FileRow}
use Rattle.pd_atom.specs.Names.{Names, IsTable}
use Rattle.pd_canvas.specs.declared.edits.Edit.{Edit}
use Rattle.pd_library.specs.declared.answers.Answer.{Answer}
use Rattle.pd_library.specs.Files.{answer_in}
use Rattle.pd_growth.specs.Growth.{around_root, without_ending}
use Rattle.pd_canvas.specs.declared.wires.Wire.{Wire}
use Rattle.pd_tree.specs.Trees.{width}
use Rattle.pd_tree.specs.Ports.{fits}
use Rattle.pd_fit.specs.Fitting.{wires_inside}
use Rattle.pd_gather.specs.Gather.{Known, known, AreProper}
use Rattle.pd_web.specs.Canvases.{HoldersAreNoPorts}
use Rattle.pd_web.specs.Changes.{wires_told}
use Rattle.pd_patch.specs.declared.patch.Patch.{Patch}
use Rattle.pd_patch.proofs.GrowthLemmas.{grown_box_fits}
use Rattle.pd_wiring.specs.declared.refusals.EditRefusal.{EditRefusal}
use Rattle.pd_wiring.specs.declared.refusals.EditRefusal.TheVariants.{NoDocument, ShelfFault, NoMemory}
use Rattle.pd_boxes.specs.Put.{CanPut}
use Rattle.pd_boxes.specs.Room.{SameButRoom}
use Rattle.pd_adding.specs.declared.adding.Grown.{Grown}
use Rattle.pd_adding.specs.declared.counts.Counts.{Counts}
use Rattle.pd_adding.specs.Boxes.{IsKnown, CanBeWritten, settled_edit, box_put}
use Rattle.pd_adding.specs.Coming.{coming, own_zero, IsComing}
use Rattle.pd_adding.specs.Counts.{stock_by, with_boxes}
use Rattle.pd_adding.specs.Growing.{Added, growth_of}
use Rattle.pd_adding.specs.Adding.{ComesTo, GrewWith, Grows}
use Rattle.pd_putting.specs.declared.adding.NewBox.{NewBox}
use Rattle.pd_putting.specs.Adds.{last_place, CanCome, IsBoxPut, IsSubPut, IsPortBoxPut, IsPartBoxPut, HasCome, AddsBox, AddsBoxBy, IsNotPutBy, IsNotAddedBy}
use Rattle.pd_putting.specs.Places.{HasGrown, IsNotLast}
use Rattle.pd_putting.proofs.ComingLemmas.{counts_are}
use Rattle.pd_putting.proofs.GrownLemmas.{grown_holds}
use Rattle.pd_putting.proofs.StayLemmas.{more_wires, room_depth, room_wires, shell_wires}
use Rattle.pd_putting.proofs.WireLemmas.{part_wires}

-- the text isn't of the table
pub not_known : (holds : Option (List FileRow)) (p : Patch) (n : Counts) (name path : List ℕ) (e : Edit) (k : Known) → (IsKnown k.names e → ⊥)
    → IsNotAddedBy holds p p n name path e k NoDocument
not_known holds p n name path e k other = inl (refl, inr (inr (inr (refl, other))))

-- growth is refused
not_put : (holds : Option (List FileRow)) (p : Patch) (n : Counts) (name path : List ℕ) (e : Edit) (k : Known) (why : EditRefusal)
    → (why ≢ NoMemory → why ≢ ShelfFault → ComesTo holds p n name path e k (Err why)) → (why ≡ ShelfFault → IsComing (coming k.names p path e)) → IsNotPutBy holds p n name path e k why
not_put holds p n name path e k NoMemory comes asks = inl refl
not_put holds p n name path e k ShelfFault comes asks = inr (inl (refl, asks refl))
not_put holds p n name path e k why comes asks = inr (inr (inl (comes (λ q. cc) (λ q. cc))))

pub not_grown : (holds : Option (List FileRow)) (p : Patch) (n : Counts) (name path : List ℕ) (e : Edit) (k : Known) (why : EditRefusal)
    → (why ≢ NoMemory → why ≢ ShelfFault → ComesTo holds p n name path e k (Err why)) → (why ≡ ShelfFault → IsComing (coming k.names p path e)) → IsNotAddedBy holds p p n name path e k why
not_grown holds p n name path e k why comes asks = inl (refl, not_put holds p n name path e k why comes asks)

-- what grew stays out
pub left_out : (holds : Option (List FileRow)) (old new : Patch) (n : Counts) (name path : List ℕ) (e : Edit) (k : Known) (a : Added) (why : EditRefusal)
    → ComesTo holds old n name path e k (Ok a) → CanPut new → IsNotLast old new a why → IsNotAddedBy holds old new n name path e k why
left_out holds old new n name path e k a why comes can out = ⊎_elim
    (λ (same : new ≡ old). inl (same, inl out.0))
    (λ (s : CanCome old a × SameButRoom old new). inr (out.0, record { added = a; comes = comes; can_come = s.0; room = s.1; goes_on = can })) out.1

the_err : {A E : Type 0} → E → Result A E → E
the_err d (Ok a) = d
the_err d (Err e) = e

pub same_err : {A E : Type 0} (x y : E) → ◌≡◌ {A = Result A E} (Err x) (Err y) → x ≡ y
unfolding the_err
same_err x y h = ap (the_err x) h

memory_no_fault : (why : EditRefusal) → why ≡ NoMemory → why ≡ ShelfFault → ⊥
memory_no_fault why a b = cc

pub no_fault : (old new : Patch) (a : Added) (why : EditRefusal) → IsNotLast old new a why → why ≡ ShelfFault → ⊥
no_fault old new a why out f = memory_no_fault why out.0 f

-- no wire of a canvas without boxes fits
none_fit : (ws : List Wire) → length (filter (fits []) ws) ≡ 0
none_fit [] = refl
none_fit (w ∷ ws) = none_fit ws

none_more : (p q r : Patch) (n : ℕ) → wires_told r.web ≡ wires_told q.web → wires_told q.web ≡ wires_told p.web → n ≡ 0 → wires_told r.web ≡ wires_told p.web + n
none_more p q r n e f z = omega (arith, e, f, z)

-- as many wires came as fit in the box that came
pub wires_came : (p q : Patch) (now : ℕ) (a : Added) (key : ℕ) → HoldersAreNoPorts a.boxes → HasCome p q now a key → wires_told q.web ≡ wires_told p.web + wires_inside a.boxes
wires_came p q now a key bare put = ⊎_elim
    (λ (P : IsBoxPut p q now a key).
    none_more p P.ready q (wires_inside a.boxes) (more_wires P.ready q a.known.names (last_place p a.canvas) P.seed key P.put.comes) (room_wires p P.ready P.room) (ap wires_inside P.plain.single))
    (λ (o : IsSubPut p q now a key ⊎ (IsPortBoxPut p q now a key ⊎ IsPartBoxPut p q now a key)). ⊎_elim
    (λ (S : IsSubPut p q now a key). let e = ap wires_inside S.sub.single in let z = none_fit S.sub.sheet.wires in
    none_more p S.ready q (wires_inside a.boxes) (shell_wires S.ready q a.known.names (last_place p a.canvas) S.seed key S.put.comes) (room_wires p S.ready S.room) (omega (arith, e, z)))
    (λ (r : IsPortBoxPut p q now a key ⊎ IsPartBoxPut p q now a key). ⊎_elim
    (λ (P : IsPortBoxPut p q now a key). none_more p P.ready q (wires_inside a.boxes) P.put.wires (room_wires p P.ready P.room) (ap wires_inside P.port.single))
    (λ (P : IsPartBoxPut p q now a key). part_came P) r) o) put
  where
    part_came : IsPartBoxPut p q now a key → wires_told q.web ≡ wires_told p.web + wires_inside a.boxes
    part_came P =
        let d = room_depth p P.ready P.room a.canvas in
        let low = P.holder.shallow in
        let single : width a.boxes ≡ 1 = ap width P.holder.single in
        let more = part_wires P.ready q a.known.names (last_place p a.canvas) P.seed P.seeds key P.steps P.steps' a.boxes P.put P.are_rows single bare (omega (arith, d, low)) in
        let same = room_wires p P.ready P.room in
        omega (arith, more, same)

-- no box of what grew that holds a canvas is a port
pub grown_bare : (p : Patch) (n : Counts) (name path : List ℕ) (e : Edit) (k files : Known) (a : Added) → GrewWith p n name path e k files a → HoldersAreNoPorts a.boxes
unfolding growth_of
grown_bare p n name path e k files a G =
    (grown_box_fits (answer_in files.files) (without_ending name) (255 - length path) (around_root (own_zero p)) G.entry (stock_by files.names n) G.after a.boxes G.grew).1

-- so an edit that put a box brought as many wires as fit in it
pub wires_added : (old new : Patch) (n : Counts) (name path : List ℕ) (now : ℕ) (e : Edit) (k after : Known) (b : NewBox) → (X : AddsBox old new n name path now e k after b)
    → wires_told new.web ≡ wires_told old.web + wires_inside X.added.boxes
wires_added old new n name path now e k after b X = wires_came old new now X.added b.key (grown_bare old n name path e k X.files X.added X.grew) X.put

-- wires are as many as were counted
wires_counted : (p q : Patch) (n m : Counts) (a : Added) → n.wires ≡ wires_told p.web → m ≡ a.counts → a.counts ≡ with_boxes p.rate a.boxes n
    → wires_told q.web ≡ wires_told p.web + wires_inside a.boxes → m.wires ≡ wires_told q.web
wires_counted p q n m a counted same with came =
    let x : m.wires ≡ a.counts.wires = ap (λ (c : Counts). c.wires) same in
    let y : a.counts.wires ≡ n.wires + wires_inside a.boxes = ap (λ (c : Counts). c.wires) with in
    omega (arith, counted, x, y, came)

module _ (holds : Option (List FileRow)) (p : Patch) (n : Counts) (name path : List ℕ) (e : Edit) (k : Known) (files : List (ℕ × Answer)) (names : Names) (g : Grown)
    (G : Grows holds p n name path e k (known files names) g) where
  pub names_grown : G.added.known.names ≡ names
  names_grown = sym (ap (λ (x : Known). x.names) G.known)

  pub has_grown : HasGrown g names
  has_grown = record { added = G.added; is = G.is; holds = grown_holds p n name path e k G.files G.added G.grew; names_are = names_grown }

  pub count_grown : (q : Patch) (now : ℕ) (b : NewBox) → n.wires ≡ wires_told p.web → b.counts ≡ g.counts → HasCome p q now G.added b.key → b.counts.wires ≡ wires_told q.web
  count_grown q now b counted same put =
      wires_counted p q n b.counts G.added counted (same ∙ G.is.counts) (counts_are holds p n name path e k G.added G.comes)
      (wires_came p q now G.added b.key (grown_bare p n name path e k G.files G.added G.grew) put)

  pub adds_box : (q : Patch) (now : ℕ) (b : NewBox) (last : Names) → AreProper k.names k.files → IsKnown k.names e → IfSome (box_put (settled_edit k.names e)) (CanBeWritten k.names)
      → HasCome p q now G.added b.key → b.canvas ≡ g.canvas → b.counts ≡ g.counts → last ≡ names → AddsBoxBy holds p q n name path now e k (known files last) b
  adds_box q now b last found is_known written put canvas counts table = record {
    added = G.added;
    table = G.table;
    found = found;
    is_known = is_known;
    written = written;
    comes = G.comes;
    files = G.files;
    grew = G.grew;
    put = put;
    canvas = canvas ∙ G.is.canvas;
    counts = counts ∙ G.is.counts;
    known_is = ap (known files) table ∙ G.known;
    table_after = subst IsTable (sym table) G.table_after;
  }
