-- Which of what grew is a subpatch whose text another one takes, and one that took it.
use Rattle.std.proofs.Common.{◌≡◌, ℕ, Bool, true, is_some, List, [], ◌∷◌, ◌++◌, length, Option, Some, None, Result, Ok, Err, inl, inr, refl, sym, ap, ◌∙◌, subst, arith}
use Rattle.std.specs.Prelude.{IsSome, IfOk, IfErr, OnErr}
use Rattle.std.specs.Option.{option_to_list}
use mathlib.Core.Logic.{⊎_elim}
use Rattle.std.proofs.lemmas.List.{length-map, length-append}
use Rattle.std.proofs.lemmas.Option.{none-some, same_Some}
use Rattle.slab.specs.Slab.{Slab, get}
use Rattle.pd_grove.specs.declared.boards.Board.{Board}
use Rattle.pd_atom.specs.declared.Atom.{Atom}
use Rattle.pd_atom.specs.Names.{Names}
use Rattle.pd_canvas.specs.Pages.{Sub}
use Rattle.pd_canvas.specs.Views.{entry_of, shape_of}
use Rattle.pd_object.specs.declared.kinds.Kind.TheVariants as kind
use Rattle.pd_tree.specs.declared.rows.Row.{Row}
use Rattle.pd_tree.specs.declared.rows.Sheet.{Sheet}
use Rattle.pd_tree.specs.Trees.{Cell, Stand, Trees, Done, Leaf, Holder, width, stand_of, stands_of, stands_in}
use Rattle.pd_grove.specs.declared.nodes.Node.{Node}
use Rattle.pd_grove.specs.TextOrder.{is_sub}
use Rattle.pd_web.specs.Changes.{wires_told, Meet}
use Rattle.pd_patch.specs.declared.patch.Patch.{Patch}
use Rattle.pd_wiring.specs.declared.refusals.EditRefusal.{EditRefusal}
use Rattle.pd_wiring.specs.declared.refusals.EditRefusal.TheVariants.{NoDocument, NoMemory}
use Rattle.pd_boxes.specs.Room.{SameButRoom}
use Rattle.pd_boxes.specs.Put.{CanPut}
use Rattle.pd_refitting.proofs.WireLemmas.{meet_by}
use Rattle.pd_renaming.specs.declared.room.NameRoom.{NameRoom}
use Rattle.pd_renaming.specs.Renaming.{CanRename, IsRenamed}
use Rattle.pd_renaming.specs.Room.{IsFor, IsSubpatch, TakesName}
use Rattle.pd_renaming.proofs.PatchLemmas.{rename_still, still_meet}
use Rattle.pd_misfits.specs.declared.wires.BoxWire.{BoxWire}
use Rattle.pd_adding.specs.declared.adding.Grown.{Grown}
use Rattle.pd_adding.specs.Coming.{zero_in, own_zero}
use Rattle.pd_adding.specs.Growing.{Added}
use Rattle.pd_adding.specs.Adding.{IsAdded}
use Rattle.pd_retyping.specs.declared.retyping.RetypedBox.{RetypedBox}
use Rattle.pd_retyping.specs.Asking.{keeps_inside, settled_text}
use Rattle.pd_retyping.specs.Retypes.{Becomes, CanBecome, CanTakeText, HasBecome}
use Rattle.pd_retyping.specs.Becoming.{OffersText, GotText, IsBareSub, IsTaking, StaysAsItWas, StaysItself}
use Rattle.pd_retyping.proofs.BecomeLemmas.{room_wires, room_zero}

-- ---- which of what grew is a subpatch without boxes

abbrev holding : Cell → Sheet → Stand
holding cell sheet = record { cell = cell; sheet = Some sheet; boxes = 0 }

first : {X : Type 0} → X → List X → X
first d [] = d
first d (x ∷ xs) = x

-- no boxes in text order are no boxes
no_trees : (t : Trees) → length (stands_of t) ≡ 0 → t ≡ Done
no_trees Done e = refl
no_trees (Leaf c rest) e = absurd (omega (arith, e))
no_trees (Holder c s inner rest) e = absurd (omega (arith, e))

-- one row of a box that holds a canvas is that box, and the canvas has no boxes
holder_alone : (t : Trees) (r : Stand) (sheet : Sheet) → width t ≡ 1 → r ∷ [] ≡ stands_of t → r.sheet ≡ Some sheet → t ≡ Holder r.cell sheet Done Done
unfolding first
holder_alone Done r sheet one e has = absurd (omega (arith, one))
holder_alone (Leaf c rest) r sheet one e has = absurd (none-some sheet (sym (ap (λ (ss : List Stand). (first r ss).sheet) e) ∙ has))
holder_alone (Holder c s inner rest) r sheet one e has =
    let all = ap (λ (ss : List Stand). length ss) e in
    let parts = length-append (stands_of inner) (stands_of rest) in
    let none = no_trees inner (omega (arith, all, parts)) in
    let end = no_trees rest (omega (arith, all, parts)) in
    let cell : c ≡ r.cell = sym (ap (λ (ss : List Stand). (first r ss).cell) e) in
    let same : s ≡ sheet = same_Some s sheet (sym (ap (λ (ss : List Stand). (first r ss).sheet) e) ∙ has) in
    λ i. Holder (cell i) (same i) (none i) (end i)

sheet_some : (o : Option Sheet) → is_some o ≡ true → (s : Sheet) × (o ≡ Some s)
sheet_some None h = cc
sheet_some (Some s) h = (s, refl)

pub bare_one : (rows : List Row) (t : Trees) → stands_in rows ≡ stands_of t → IsBareSub t → length rows ≡ 1
bare_one rows t e B = sym (length-map rows stand_of) ∙ ap (λ (ss : List Stand). length ss) (e ∙ ap stands_of B.single)

module _ (rows : List Row) (row : Row) (r : rows ≡ row ∷ []) (t : Trees) (e : stands_in rows ≡ stands_of t) where
  -- what the row of such a box tells
  pub bare_row : (B : IsBareSub t) → stand_of row ≡ holding B.cell B.sheet
  unfolding first
  bare_row B = ap (first (stand_of row)) (sym (ap stands_in r) ∙ e ∙ ap stands_of B.single)

  pub bare_is : is_some row.sheet ≡ true → shape_of row.element.form ≡ Sub → row.kind ≡ kind.Canvas → row.fault ≡ None → width t ≡ 1 → IsBareSub t
  bare_is some form canvas whole one =
      let has = sheet_some row.sheet some in
      record {
        cell = (stand_of row).cell;
        sheet = has.0;
        single = holder_alone t (stand_of row) has.0 one (sym (ap stands_in r) ∙ e) has.1;
        form = form;
        canvas = canvas;
        whole = whole;
      }

  pub bare_sheet : IsBareSub t → is_some row.sheet ≡ true
  bare_sheet B = ap (λ (s : Stand). is_some s.sheet) (bare_row B)

  pub bare_form : IsBareSub t → shape_of row.element.form ≡ Sub
  bare_form B = ap (λ (s : Stand). s.cell.head.form) (bare_row B) ∙ B.form

  pub bare_kind : IsBareSub t → row.kind ≡ kind.Canvas
  bare_kind B = ap (λ (s : Stand). s.cell.kind) (bare_row B) ∙ B.canvas

  pub bare_whole : IsBareSub t → row.fault ≡ None
  bare_whole B = ap (λ (s : Stand). s.cell.fault) (bare_row B) ∙ B.whole

pub gives_of : (names : Names) (text : List Atom) (n : Node) (a : Added) → CanTakeText names text n a → OffersText n a
gives_of names text n a C = record {
  was_canvas = C.was_canvas;
  was_whole = C.was_whole;
  bare = record { cell = C.cell; sheet = C.sheet; single = C.single; form = C.form; canvas = C.canvas; whole = C.whole };
}

pub takes_of : (names : Names) (text : List Atom) (n : Node) (a : Added) → keeps_inside (entry_of n.element) (settled_text names text) ≡ true → OffersText n a → CanTakeText names text n a
takes_of names text n a kept G = record {
  kept = kept;
  was_canvas = G.was_canvas;
  was_whole = G.was_whole;
  cell = G.bare.cell;
  sheet = G.bare.sheet;
  single = G.bare.single;
  form = G.bare.form;
  canvas = G.bare.canvas;
  whole = G.bare.whole;
}

-- ---- a subpatch that got the text

module _ (p : Patch) (key : ℕ) (g : Grown) (T : IsTaking p key g) where
  pub could : CanRename p key T.node
  could = record { can = T.can; is = T.is; sub = T.sub; canvas = T.gives.was_canvas }

  pub one_row : length g.rows.items ≡ 1
  one_row = bare_one g.rows.items T.added.boxes T.grown.rows T.gives.bare

  module _ (row : Row) (r : row ∷ [] ≡ g.rows.items) where
    pub row_sub : IsSubpatch row
    row_sub = record {
      sub = ap is_sub (bare_form g.rows.items row (sym r) T.added.boxes T.grown.rows T.gives.bare);
      canvas = bare_kind g.rows.items row (sym r) T.added.boxes T.grown.rows T.gives.bare;
    }

    module _ (ready : Patch) (S : SameButRoom p ready) (room : NameRoom) (F : IsFor room key row) where
      could_ready : CanRename ready key T.node
      could_ready = rename_still p ready key T.node S could

      pub room_could : CanRename ready room.key T.node
      room_could = subst (λ (k : ℕ). CanRename ready k T.node) (sym F.key) could_ready

      module _ (q : Patch) (names table : Names) (e : names ≡ table)
          (named : (m : Node) → get ready.grove.nodes room.key ≡ Some m → IsRenamed ready q names room.key m room.written room.text) where
        named_there : IsRenamed ready q names room.key T.node room.written room.text
        named_there = named T.node room_could.is

        pub q_put : CanPut q
        q_put = named_there.can

        pub q_meet : Meet p.web → Meet q.web
        q_meet meet = still_meet ready q names room.key T.node room.written room.text named_there (meet_by p.web ready.web S.web.fans S.web.feeds meet)

        pub q_wires : wires_told q.web ≡ wires_told p.web
        q_wires = ap wires_told named_there.rest.web ∙ room_wires p ready S

        pub q_zero : own_zero q ≡ own_zero p
        q_zero = ap (λ (x : ℕ). zero_in (get q.grove.boards x)) named_there.box.root ∙ ap (λ (bs : Slab Board). zero_in (get bs ready.grove.root)) named_there.box.boards ∙ room_zero p ready S

        -- the text is that of what grew
        named_so : (n : Node) (cell : Cell) → T.node ≡ n → (stand_of row).cell ≡ cell → IsRenamed ready q table key n cell.head.text cell.text
        named_so n cell same is =
            subst (λ (t : Names). IsRenamed ready q t key n cell.head.text cell.text) e
            (subst (λ (k : ℕ). IsRenamed ready q names k n cell.head.text cell.text) F.key
            (subst (λ (c : Cell). IsRenamed ready q names room.key n c.head.text c.text) is
            (subst (λ (x : List Atom). IsRenamed ready q names room.key n x row.text) F.written
            (subst (λ (x : List Atom). IsRenamed ready q names room.key n room.written x) F.text
            (subst (λ (m : Node). IsRenamed ready q names room.key m room.written room.text) same named_there)))))

        pub got_text : (n : Node) (a : Added) → get p.grove.nodes key ≡ Some n → IsAdded g a → OffersText n a → GotText p q table key n a
        got_text n a is A G =
            let same : T.node ≡ n = same_Some T.node n (sym T.is ∙ is) in
            record {
              gives = G;
              ready = ready;
              room = S;
              could = subst (λ (m : Node). CanRename ready key m) same could_ready;
              renamed = named_so n G.bare.cell same (ap (λ (s : Stand). s.cell) (bare_row g.rows.items row (sym r) a.boxes A.rows G.bare));
              goes_on = q_put;
            }

-- the one row of a list
pub one_popped : (xs ys : List Row) (o : Option Row) (x : Row) → length xs ≡ 1 → xs ≡ ys ++ option_to_list o → o ≡ Some x → x ∷ [] ≡ xs
one_popped xs [] o x one e is = sym (e ∙ ap option_to_list is)
one_popped xs (y ∷ ys) o x one e is =
    let all = ap (λ (zs : List Row). length zs) (e ∙ ap (λ (p : Option Row). (y ∷ ys) ++ option_to_list p) is) in
    let parts = length-append ys (x ∷ []) in
    absurd (omega (arith, all, parts, one))

pub never_none : (o : Option Row) → IsSome o → o ≡ None → ⊥
never_none None s e = cc
never_none (Some x) s e = absurd (none-some x (sym e))

-- room for the name, with the same table
pub same_room : (p : Patch) (room : NameRoom) (names table : Names) → names ≡ table → TakesName p room table → TakesName p room names
same_room p room names table e T = subst (λ (t : Names). TakesName p room t) (sym e) T

-- ---- what an answer says

pub both_told : {X E : Type 0} (r : Result X E) (P Q R : X → Type 0) → ((x : X) → P x → Q x → R x) → IfOk r P → IfOk r Q → IfOk r R
both_told (Ok x) P Q R f h k = f x h k
both_told (Err e) P Q R f h k = tt

pub short_told : {X E : Type 0} (r : Result X E) (P R : E → Type 0) (Q : Type 0) → ((e : E) → P e → Q → R e) → IfErr r P → OnErr r Q → IfErr r R
short_told (Ok x) P R Q f h k = tt
short_told (Err e) P R Q f h k = f e h k

-- the subpatch took the text
pub takes_text : (p q : Patch) (names table : Names) (text : List Atom) (now key : ℕ) (n : Node) (a : Added) (gone : List BoxWire) (steps : ℕ) → gone ≡ [] → a.known.names ≡ table
    → keeps_inside (entry_of n.element) (settled_text names text) ≡ true → GotText p q table key n a → Becomes p q names text now key n a gone steps steps
unfolding takes_of
takes_text p q names table text now key n a gone steps none known kept G = inr (record {
  can = takes_of names text n a kept G.gives;
  none_gone = none;
  ready = G.ready;
  room = G.room;
  could = G.could;
  renamed = subst (λ (t : Names). IsRenamed G.ready q t key n G.gives.bare.cell.head.text G.gives.bare.cell.text) (sym known) G.renamed;
  looks = refl;
  goes_on = G.goes_on;
})

-- the box stays, as it can't become what grew, and can't take its text
pub stays_so : (names : Names) (text : List Atom) (p q : Patch) (key : ℕ) (n : Node) (a : Added) (why : EditRefusal) → (CanTakeText names text n a → ⊥) → StaysItself p q key n a why
    → StaysAsItWas names text p q key n a why
stays_so names text p q key n a why never out = ⊎_elim
    (λ (s : (why ≡ NoMemory) × (CanBecome p key n a × SameButRoom p q)). inl (s.0, (inl s.1.0, s.1.1)))
    (λ (o : (why ≡ NoDocument) × ((q ≡ p) × (CanBecome p key n a → ⊥))). inr (o.0, (o.1.0, (o.1.1, never)))) out

-- ---- either way

module _ (p q : Patch) (key : ℕ) (keeps : Bool) (g : Grown) (r : Result RetypedBox EditRefusal) where
  module _ (kept : keeps ≡ true) (yes : (n : Node) (a : Added) → get p.grove.nodes key ≡ Some n → IsAdded g a → OffersText n a) where
    pub took_told : (table : Names) (now steps : ℕ) → IfOk r (λ b. (n : Node) (a : Added) → get p.grove.nodes key ≡ Some n → IsAdded g a → OffersText n a → GotText p q table key n a)
        → IfOk r (λ b. b.gone.items ≡ [])
        → IfOk r (λ b. (names : Names) (text : List Atom) (n : Node) (a : Added) → get p.grove.nodes key ≡ Some n → IsAdded g a → a.known.names ≡ table
        → keeps ≡ keeps_inside (entry_of n.element) (settled_text names text) → Becomes p q names text now key n a b.gone.items steps steps)
    took_told table now steps = both_told r _ _ _ (λ b got none names text n a is A known same.
        takes_text p q names table text now key n a b.gone.items steps none known (sym same ∙ kept) (got n a is A (yes n a is A)))

    pub short_so : IfErr r (λ why. why ≡ NoMemory) → OnErr r (SameButRoom p q)
        → IfErr r (λ why. (names : Names) (text : List Atom) (n : Node) (a : Added) → get p.grove.nodes key ≡ Some n → IsAdded g a
        → keeps ≡ keeps_inside (entry_of n.element) (settled_text names text) → StaysAsItWas names text p q key n a why)
    short_so = short_told r _ _ _ (λ why e S names text n a is A same. inl (e, (inr (takes_of names text n a (sym same ∙ kept) (yes n a is A)), S)))

  pub became_told : (table : Names) (now steps steps' : ℕ)
      → IfOk r (λ b. (n : Node) (a : Added) → get p.grove.nodes key ≡ Some n → IsAdded g a → a.known.names ≡ table → HasBecome p q now key n a b.gone.items steps steps')
      → IfOk r (λ b. (names : Names) (text : List Atom) (n : Node) (a : Added) → get p.grove.nodes key ≡ Some n → IsAdded g a → a.known.names ≡ table
      → keeps ≡ keeps_inside (entry_of n.element) (settled_text names text) → Becomes p q names text now key n a b.gone.items steps steps')
  became_told table now steps steps' = by r
    where
      by : (x : Result RetypedBox EditRefusal)
          → IfOk x (λ b. (n : Node) (a : Added) → get p.grove.nodes key ≡ Some n → IsAdded g a → a.known.names ≡ table → HasBecome p q now key n a b.gone.items steps steps')
          → IfOk x (λ b. (names : Names) (text : List Atom) (n : Node) (a : Added) → get p.grove.nodes key ≡ Some n → IsAdded g a → a.known.names ≡ table
          → keeps ≡ keeps_inside (entry_of n.element) (settled_text names text) → Becomes p q names text now key n a b.gone.items steps steps')
      by (Ok b) h = λ names text n a is A known same. inl (h n a is A known)
      by (Err why) h = tt

  pub refused_told : (keeps ≡ true → (n : Node) (a : Added) → get p.grove.nodes key ≡ Some n → IsAdded g a → OffersText n a → ⊥)
      → IfErr r (λ why. (n : Node) (a : Added) → get p.grove.nodes key ≡ Some n → IsAdded g a → StaysItself p q key n a why)
      → IfErr r (λ why. (names : Names) (text : List Atom) (n : Node) (a : Added) → get p.grove.nodes key ≡ Some n → IsAdded g a
      → keeps ≡ keeps_inside (entry_of n.element) (settled_text names text) → StaysAsItWas names text p q key n a why)
  refused_told never = by r
    where
      by : (x : Result RetypedBox EditRefusal) → IfErr x (λ why. (n : Node) (a : Added) → get p.grove.nodes key ≡ Some n → IsAdded g a → StaysItself p q key n a why)
          → IfErr x (λ why. (names : Names) (text : List Atom) (n : Node) (a : Added) → get p.grove.nodes key ≡ Some n → IsAdded g a
          → keeps ≡ keeps_inside (entry_of n.element) (settled_text names text) → StaysAsItWas names text p q key n a why)
      by (Ok b) h = tt
      by (Err why) h = λ names text n a is A same. stays_so names text p q key n a why (λ C. never (same ∙ C.kept) n a is A (gives_of names text n a C)) (h n a is A)
