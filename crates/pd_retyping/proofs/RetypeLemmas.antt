-- Why an edit makes no box another one, and what is counted where it makes one.
use Rattle.std.proofs.Common.{◌≡◌, ◌≢◌, ◌≤◌, ℕ, List, slice_get, Option, Some, Result, Ok, Err, IfSome, inl, inr, refl, sym, ap, ◌∙◌, subst, arith}
use Rattle.std.specs.Prelude.{◌⊎◌, IsErrAnd, IfErr}
use Rattle.std.specs.List.{All}
use mathlib.Core.Logic.{⊎_elim}
use Rattle.slab.specs.Slab.{get}
use Rattle.pd_io.specs.declared.files.FileRow.{FileRow}
use Rattle.pd_atom.specs.declared.Atom.{Atom}
use Rattle.pd_atom.specs.Names.{Names, IsTable}
use Rattle.pd_atom.specs.Atoms.{IsOf}
use Rattle.pd_canvas.specs.declared.edits.Edit.{Edit}
use Rattle.pd_canvas.specs.Pages.{Entry}
use Rattle.pd_canvas.specs.Edits.{retyped}
use Rattle.pd_canvas.specs.Views.{entry_of}
use Rattle.pd_library.specs.declared.answers.Answer.{Answer}
use Rattle.pd_gather.specs.Gather.{Known, known, AreProper}
use Rattle.pd_grove.specs.declared.nodes.Node.{Node}
use Rattle.pd_web.specs.Canvases.{keys_at}
use Rattle.pd_web.specs.Changes.{wires_told}
use Rattle.pd_patch.specs.declared.patch.Patch.{Patch}
use Rattle.pd_wiring.specs.declared.refusals.EditRefusal.{EditRefusal}
use Rattle.pd_wiring.specs.declared.refusals.EditRefusal.TheVariants.{NoDocument, ShelfFault, NoMemory}
use Rattle.pd_boxes.specs.Room.{SameButRoom}
use Rattle.pd_boxes.specs.Put.{CanPut}
use Rattle.pd_adding.specs.declared.adding.Grown.{Grown}
use Rattle.pd_adding.specs.declared.counts.Counts.{Counts}
use Rattle.pd_adding.specs.Boxes.{CanBeWritten, settled_edit, box_put}
use Rattle.pd_adding.specs.Counts.{AreWithin}
use Rattle.pd_adding.specs.Coming.{coming, IsComing}
use Rattle.pd_adding.specs.Growing.{Added}
use Rattle.pd_adding.specs.Adding.{ComesTo, GrewWith, Grows}
use Rattle.pd_retyping.specs.declared.asking.Plan.{Plan}
use Rattle.pd_retyping.specs.declared.retyping.RetypedBox.{RetypedBox}
use Rattle.pd_retyping.specs.Asking.{settled_text, retyping, put_instead}
use Rattle.pd_retyping.specs.Retypes.{counts_but, with_wires, RetypesToBy, CanBecome, CanTakeText, Becomes, RetypesBoxBy, IsRefusedBy, IsNotRetypedBy}
use Rattle.pd_retyping.specs.Becoming.{IsPlanned, IsUnplanned, HasGrown, StaysAsItWas}
use Rattle.pd_retyping.proofs.AskLemmas.{entry_put, put_entry, put_head, put_same, comes_ok, comes_asks}

-- the text isn't of the table
pub not_known : (holds : Option (List FileRow)) (p : Patch) (n : Counts) (name path : List ℕ) (number : ℕ) (text : List Atom) (k : Known) → (All (IsOf k.names) text → ⊥)
    → IsNotRetypedBy holds p p n name path number text k NoDocument
not_known holds p n name path number text k other = inl (refl, inr (inr (inr (inr (refl, inl other)))))

-- the box, or its text, is refused
pub not_planned : (holds : Option (List FileRow)) (p : Patch) (n : Counts) (name path : List ℕ) (number : ℕ) (text : List Atom) (k : Known) (why : EditRefusal)
    → IsUnplanned k.names p path number text why → IsNotRetypedBy holds p p n name path number text k why
not_planned holds p n name path number text k why un = inl (refl, ⊎_elim (λ (m : why ≡ NoMemory). inl m) (λ (r : retyping k.names p path number text ≡ Err why). inr (inl r)) un)

the_err : {A E : Type 0} → E → Result A E → E
the_err d (Ok a) = d
the_err d (Err e) = e

pub same_err : {A E : Type 0} (x y : E) → ◌≡◌ {A = Result A E} (Err x) (Err y) → x ≡ y
unfolding the_err
same_err x y h = ap (the_err x) h

-- what `?` gives back
pub as_told : {T : Type 0} (r : Result T EditRefusal) (why : EditRefusal) (P : EditRefusal → Type 0) → IsErrAnd r (λ e. e ≡ why) → P why → IfErr r P
as_told (Ok x) why P h t = absurd h
as_told (Err e) why P h t = subst P (sym h) t

memory_no_fault : (why : EditRefusal) → why ≡ NoMemory → why ≡ ShelfFault → ⊥
memory_no_fault why a b = cc

document_no_fault : (why : EditRefusal) → why ≡ NoDocument → why ≡ ShelfFault → ⊥
document_no_fault why a b = cc

pub no_fault : (names : Names) (text : List Atom) (old new : Patch) (key : ℕ) (n : Node) (a : Added) (why : EditRefusal) → StaysAsItWas names text old new key n a why → why ≡ ShelfFault → ⊥
no_fault names text old new key n a why out f = ⊎_elim (λ s. memory_no_fault why s.0 f) (λ o. document_no_fault why o.0 f) out

-- counts with as many wires as are left
pub within_left : (n c : Counts) (wires : ℕ) → AreWithin n → AreWithin c → wires ≤ n.wires → AreWithin (with_wires c wires)
within_left n c wires N C few = let w = N.wires in record { boxes = C.boxes; wires = omega (arith, w, few); sound = C.sound; zeros = C.zeros }

pub within_so : (n c g : Counts) (wires there : ℕ) → AreWithin n → AreWithin g → n.wires ≡ there → wires ≤ there → c ≡ with_wires g wires → AreWithin c
within_so n c g wires there N G counted few is = subst AreWithin (sym is) (within_left n g wires N G (omega (arith, counted, few)))

module _ (p : Patch) (n left : Counts) (name path : List ℕ) (number : ℕ) (text : List Atom) (k : Known) (plan : Plan) (P : IsPlanned k.names p path number text plan)
    (L : (m : Node) → get p.grove.nodes plan.key ≡ Some m → left ≡ counts_but p.rate m n) where
  abbrev at_left : left ≡ counts_but p.rate P.node n
  at_left = L P.node P.chosen.is

  abbrev instead : Edit
  instead = put_instead (entry_of P.node.element) text

  comes_so : (holds : Option (List FileRow)) (r : Result Added EditRefusal) → ComesTo holds p left name path plan.edit k r → ComesTo holds p (counts_but p.rate P.node n) name path instead k r
  comes_so holds r c =
      subst (λ (m : Counts). ComesTo holds p m name path instead k r) at_left (subst (λ (x : Edit). ComesTo holds p left name path x k r) P.edit c)

  pub retypes_to : (holds : Option (List FileRow)) (r : Result Added EditRefusal) → ComesTo holds p left name path plan.edit k r → RetypesToBy holds p n name path number text k r
  retypes_to holds r c = record { canvas = plan.canvas; key = plan.key; node = P.node; chosen = P.chosen; comes = comes_so holds r c }

  -- growth is refused
  not_so : (holds : Option (List FileRow)) (why : EditRefusal) → (why ≢ NoMemory → why ≢ ShelfFault → ComesTo holds p left name path plan.edit k (Err why))
      → (why ≡ ShelfFault → IsComing (coming k.names p path plan.edit)) → IsRefusedBy holds p n name path number text k why
  not_so holds NoMemory comes asks = inl refl
  not_so holds ShelfFault comes asks =
      inr (inr (inl (refl, comes_asks k.names p path number text plan.canvas plan.key P.node P.chosen (subst (λ (x : Edit). IsComing (coming k.names p path x)) P.edit (asks refl)))))
  not_so holds why comes asks = inr (inr (inr (inl (retypes_to holds (Err why) (comes (λ q. cc) (λ q. cc))))))

  pub not_grown : (holds : Option (List FileRow)) (why : EditRefusal) → (why ≢ NoMemory → why ≢ ShelfFault → ComesTo holds p left name path plan.edit k (Err why))
      → (why ≡ ShelfFault → IsComing (coming k.names p path plan.edit)) → IsNotRetypedBy holds p p n name path number text k why
  not_grown holds why comes asks = inl (refl, not_so holds why comes asks)

  -- the box stays itself
  pub left_so : (holds : Option (List FileRow)) (q : Patch) (a : Added) (why : EditRefusal) → ComesTo holds p left name path plan.edit k (Ok a) → CanPut q → StaysAsItWas k.names text p q plan.key P.node a why
      → IsNotRetypedBy holds p q n name path number text k why
  unfolding retypes_to
  left_so holds q a why comes can out = ⊎_elim
      (λ (s : (why ≡ NoMemory) × ((CanBecome p plan.key P.node a ⊎ CanTakeText k.names text P.node a) × SameButRoom p q)).
      inr (s.0, record { added = a; comes = retypes_to holds (Ok a) comes; can = s.1.0; room = s.1.1; goes_on = can }))
      (λ (o : (why ≡ NoDocument) × ((q ≡ p) × ((CanBecome p plan.key P.node a → ⊥) × (CanTakeText k.names text P.node a → ⊥)))).
      inl (o.1.0, inr (inr (inr (inr (o.0, inr (record { added = a; comes = retypes_to holds (Ok a) comes; other = o.1.1.0; no_text = o.1.1.1 }))))))) out

  module _ (holds : Option (List FileRow)) (files : List (ℕ × Answer)) (names : Names) (g : Grown) (G : Grows holds p left name path plan.edit k (known files names) g) where
    pub names_grown : G.added.known.names ≡ names
    names_grown = sym (ap (λ (x : Known). x.names) G.known)

    pub has_grown : HasGrown g names
    has_grown = record { added = G.added; is = G.is; names_are = names_grown }

    comes_there : (retyping k.names p path number text ≡ Ok (plan.canvas, (plan.key, retyped (settled_text k.names text) (entry_of P.node.element)))) × (plan.canvas ≡ G.added.canvas)
    comes_there = comes_ok k.names p path number text plan.canvas plan.key P.node P.chosen (G.added.canvas, G.grew.entry) (subst (λ (x : Edit). coming k.names p path x ≡ Ok (G.added.canvas, G.grew.entry)) P.edit G.grew.comes)

    -- the box that an edit would have put
    abbrev entry_so : Entry
    entry_so = entry_put (settled_text k.names text) (entry_of P.node.element).head.form (entry_of P.node.element)

    pub retypes_box : (q : Patch) (now : ℕ) (b : RetypedBox) (last : Names) (steps steps' : ℕ) → AreProper k.names k.files → All (IsOf k.names) text → IfSome (box_put (settled_edit k.names plan.edit)) (CanBeWritten k.names)
        → Becomes p q k.names text now plan.key P.node G.added b.gone.items steps steps' → b.key ≡ plan.key → b.canvas ≡ g.canvas → b.counts ≡ with_wires g.counts (wires_told q.web) → last ≡ names
        → RetypesBoxBy holds p q n name path number text now k (known files last) steps steps' b
    retypes_box q now b last steps steps' found is_known written H is_key canvas_is counts table =
        let there = comes_there in
        let there_canvas : b.canvas ≡ plan.canvas = canvas_is ∙ G.is.canvas ∙ sym there.1 in
        let put = put_entry k.names p path number text plan.canvas plan.key P.node P.chosen in
        record {
          node = P.node;
          chosen = record { leads = P.chosen.leads ∙ ap (λ (x : ℕ). Some x) (sym there_canvas); at = at_of b.canvas b.key there_canvas is_key; is = ap (λ (x : ℕ). get p.grove.nodes x) is_key ∙ P.chosen.is; takes = P.chosen.takes };
          is = there.0 ∙ (λ i. Ok (sym there_canvas i, (sym is_key i, retyped (settled_text k.names text) (entry_of P.node.element))));
          entry = entry_so;
          new_entry = put;
          same_head = put_head k.names p path number text plan.canvas plan.key P.node P.chosen;
          same_entry = put_same k.names p path number text plan.canvas plan.key P.node P.chosen;
          table = G.table;
          found = found;
          is_known = is_known;
          written = written_so put (subst (λ (x : Edit). IfSome (box_put (settled_edit k.names x)) (CanBeWritten k.names)) P.edit written);
          added = G.added;
          comes = comes_so holds (Ok G.added) G.comes;
          files = G.files;
          grew = grew_so;
          became = subst (λ (x : ℕ). Becomes p q k.names text now x P.node G.added b.gone.items steps steps') (sym is_key) H;
          canvas = canvas_is ∙ G.is.canvas;
          counts = counts ∙ ap (λ (c : Counts). with_wires c (wires_told q.web)) G.is.counts;
          known_is = ap (known files) table ∙ G.known;
          table_after = subst IsTable (sym table) G.table_after;
        }
      where
        at_of : (c x : ℕ) → c ≡ plan.canvas → x ≡ plan.key → slice_get (keys_at p.grove c) number ≡ Some x
        at_of c x e f = ap (λ (y : ℕ). slice_get (keys_at p.grove y) number) e ∙ P.chosen.at ∙ ap (λ (y : ℕ). Some y) (sym f)

        written_so : box_put (settled_edit k.names instead) ≡ Some entry_so → IfSome (box_put (settled_edit k.names instead)) (CanBeWritten k.names) → CanBeWritten k.names entry_so
        written_so is w = subst (λ (o : Option Entry). IfSome o (CanBeWritten k.names)) is w

        grew_so : GrewWith p (counts_but p.rate P.node n) name path instead k G.files G.added
        grew_so = subst (λ (m : Counts). GrewWith p m name path instead k G.files G.added) at_left (subst (λ (x : Edit). GrewWith p left name path x k G.files G.added) P.edit G.grew)
