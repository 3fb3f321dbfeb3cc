-- Which of what grew is a box that another one can become, and one that did.
use Rattle.std.proofs.Common.{◌≡◌, ◌≢◌, ℕ, ◌+◌, ◌≤◌, true, is_some, List, [], ◌∷◌, length, get_or, Option, Some, None, Result, Ok, Err, refl, sym, ap, ◌∙◌, subst, arith}
use Rattle.std.specs.Prelude.{IsSome, OnErr, option_map}
use Rattle.std.specs.List.{AllByRecursion}
use Rattle.std.proofs.lemmas.List.{length-map}
use Rattle.std.proofs.lemmas.Option.{none-some, same_Some}
use Rattle.slab.specs.Slab.{Slab, get}
use Rattle.pd_atom.specs.Names.{Names}
use Rattle.pd_object.specs.declared.kinds.Kind.{Kind}
use Rattle.pd_object.specs.Ports.{IsSmallKind}
use Rattle.pd_tree.specs.declared.rows.Row.{Row}
use Rattle.pd_tree.specs.Trees.{Cell, Stand, Done, Leaf, stand_of, stands_of, stands_in}
use Rattle.pd_growth.specs.Suits.{TextSuits, RowSuits}
use Rattle.pd_grove.specs.declared.boards.Board.{Board}
use Rattle.pd_order.specs.Listing.{Listing}
use Rattle.pd_grove.specs.declared.grove.Grove.{Grove}
use Rattle.pd_grove.specs.declared.nodes.Node.{Node}
use Rattle.pd_grove.specs.Owning.{board_in}
use Rattle.pd_grove.proofs.NestLemmas.{board_there}
use Rattle.pd_web.specs.declared.web.Web.{Web}
use Rattle.pd_web.specs.Canvases.{keys_at}
use Rattle.pd_patch.specs.Listing.{IsThere}
use Rattle.pd_patch.specs.Orders.{HasOrder}
use Rattle.pd_grove.specs.declared.seeds.Seed.{Seed}
use Rattle.pd_grove.specs.Standing.{BoardSeen, board_seen}
use Rattle.pd_grove.specs.States.{AreSmall, IsFresh}
use Rattle.pd_wire.specs.Book.{wire_at}
use Rattle.pd_web.specs.Changes.{line_told, wires_told, Meet}
use Rattle.pd_web.proofs.CountLemmas.{held_alike, same_are_as_many}
use Rattle.pd_patch.specs.declared.patch.Patch.{Patch}
use Rattle.pd_patch.specs.Telling.{order_in}
use Rattle.pd_patch.specs.Values.{blocks_told}
use Rattle.pd_wiring.proofs.BuiltLemmas.{same_links}
use Rattle.pd_boxes.specs.Room.{SameButRoom}
use Rattle.pd_boxes.specs.Put.{CanPut, IsLeaf}
use Rattle.pd_boxes.proofs.ReserveLemmas.{same_grove, same_web, same_order, longer_self}
use Rattle.pd_refitting.specs.Refits.{IsRefitted, refit_looks}
use Rattle.pd_misfits.specs.declared.wires.BoxWire.{BoxWire}
use Rattle.pd_misfits.specs.Misfits.{misfits, turning}
use Rattle.pd_misfits.specs.Shedding.{AreWiresAt}
use Rattle.pd_misfits.proofs.SameLemmas.{sheds_since}
use Rattle.pd_adding.specs.declared.adding.Grown.{Grown}
use Rattle.pd_adding.specs.Coming.{zero_in, own_zero}
use Rattle.pd_adding.specs.Growing.{Added}
use Rattle.pd_adding.specs.Adding.{IsAdded}
use Rattle.pd_retyping.specs.Retypes.{CanBecome, HasBecome}
use Rattle.pd_retyping.specs.Becoming.{CanMake, IsAlike, MakesOther}
use Rattle.pd_retyping.proofs.AlikeLemmas.{not_none}

-- the box of a cell that holds no canvas
abbrev alone : Cell → Stand
alone cell = record { cell = cell; sheet = None; boxes = 0 }

first : {X : Type 0} → X → List X → X
first d [] = d
first d (x ∷ xs) = x

-- a list of one element
pub one_row : {X : Type 0} (xs : List X) (x : X) → length xs ≡ 1 → x ≡ get_or xs 0 x → xs ≡ x ∷ []
one_row [] x l at = absurd (omega (arith, l))
one_row (y ∷ []) x l at = ap (λ z. z ∷ []) (sym at)
one_row (y ∷ z ∷ xs) x l at = absurd (omega (arith, l))

-- a box alone holds no canvas
stand_alone : (rows : List Row) (row : Row) (cell : Cell) → rows ≡ row ∷ [] → stands_in rows ≡ stands_of (Leaf cell Done) → stand_of row ≡ alone cell
unfolding first
stand_alone rows row cell r e = ap (first (stand_of row)) (sym (ap stands_in r) ∙ e)

pub rows_small : (names : Names) (rows : List Row) → AllByRecursion (RowSuits names) rows → AreSmall rows
rows_small names [] s = tt
rows_small names (r ∷ rows) s = (s.0.1, rows_small names rows s.1)

pub row_small : (rows : List Row) (row : Row) → AreSmall rows → rows ≡ row ∷ [] → IsSmallKind row.kind
row_small rows row s r = let all : AreSmall (row ∷ []) = subst AreSmall r s in all.0

module _ (p : Patch) (key : ℕ) (n : Node) (g : Grown) (a : Added) (A : IsAdded g a) where
  -- the rows of a box that another one can become
  rows_plain : (P : CanBecome p key n a) → stands_in g.rows.items ≡ stands_of (Leaf P.cell Done)
  rows_plain P = A.rows ∙ ap stands_of P.single

  pub rows_one : CanBecome p key n a → length g.rows.items ≡ 1
  rows_one P = sym (length-map g.rows.items stand_of) ∙ ap (λ (ss : List Stand). length ss) (rows_plain P)

  pub can_become : (row : Row) → a.boxes ≡ Leaf (stand_of row).cell Done → IsAlike p n row.kind → CanBecome p key n a
  can_become row single L = record {
    cell = (stand_of row).cell;
    single = single;
    bare = L.bare;
    plain = L.plain;
    stays_plain = L.stays_plain;
  }

  pub many_never : length g.rows.items ≢ 1 → CanBecome p key n a → ⊥
  many_never many P = many (rows_one P)

  module _ (row : Row) (r : g.rows.items ≡ row ∷ []) where
    pub held_never : is_some row.sheet ≡ true → CanBecome p key n a → ⊥
    held_never holds P = not_none row.sheet holds (ap (λ (s : Stand). s.sheet) (stand_alone g.rows.items row P.cell r (rows_plain P)))

    pub alike_of : CanBecome p key n a → IsAlike p n row.kind
    alike_of P =
        let kind : P.cell.kind ≡ row.kind = sym (ap (λ (s : Stand). s.cell.kind) (stand_alone g.rows.items row P.cell r (rows_plain P))) in
        subst (λ (k : Kind). IsAlike p n k) kind (record { bare = P.bare; plain = P.plain; stays_plain = P.stays_plain })

  module _ (P : CanBecome p key n a) (seed : Seed) (is : stand_of seed.row ∷ [] ≡ stands_in g.rows.items) where
    pub seed_stand : stand_of seed.row ≡ alone P.cell
    unfolding first
    seed_stand = ap (first (stand_of seed.row)) (is ∙ A.rows ∙ ap stands_of P.single)

    pub seed_leaf : (seed.row.sheet ≡ None → seed.row.boxes ≡ 0 → IsLeaf seed) → IsLeaf seed
    seed_leaf leaf = leaf (ap (λ (s : Stand). s.sheet) seed_stand) (ap (λ (s : Stand). s.boxes) seed_stand)

    pub seed_kind : P.cell.kind ≡ seed.row.kind
    seed_kind = sym (ap (λ (s : Stand). s.cell.kind) seed_stand)

    pub seed_makes : (gone turned : List BoxWire) → CanPut p → Meet p.web → get p.grove.nodes key ≡ Some n → IsLeaf seed → gone ≡ misfits p n.board key seed.row.kind → AreWiresAt p.web key gone
        → turned ≡ turning p n.board key seed.row.kind → AreWiresAt p.web key turned → CanMake p key n seed gone turned
    seed_makes gone turned can meet here leaf are wires turn turning_wires = record {
      can = can;
      meet = meet;
      is = here;
      alike = subst (λ (k : Kind). IsAlike p n k) seed_kind (record { bare = P.bare; plain = P.plain; stays_plain = P.stays_plain });
      leaf = leaf;
      gone_are = are;
      wires = wires;
      turned_are = turn;
      turning_wires = turning_wires;
    }

    suits_by : (names : Names) (rows : List Row) → stand_of seed.row ∷ [] ≡ stands_in rows → AllByRecursion (RowSuits names) rows → RowSuits names seed.row
    unfolding first
    suits_by names [] e s = absurd (omega (arith, ap (λ (ss : List Stand). length ss) e))
    suits_by names (row ∷ rows) e s =
        let same : stand_of seed.row ≡ stand_of row = ap (first (stand_of seed.row)) e in
        subst (λ (x : Stand). TextSuits names x.cell.text × IsSmallKind x.cell.kind) (sym same) s.0

    -- the box became what grew
    pub has_become : (q : Patch) (now : ℕ) (table : Names) (gone turned : List BoxWire) (steps steps' : ℕ) → a.known.names ≡ table → IsLeaf seed → IsFresh p.rate now seed → CanPut q
        → gone ≡ misfits p n.board key seed.row.kind → turned ≡ turning p n.board key seed.row.kind → MakesOther p q table key n seed gone turned steps steps'
        → HasBecome p q now key n a gone steps steps'
    has_become q now table gone turned steps steps' names leaf fresh can are turn M =
        let made = M.made in
        record {
          can = P;
          gone_are = are ∙ ap (misfits p n.board key) (sym seed_kind);
          ready = M.ready;
          room = M.room;
          loose = made.loose;
          between = made.between;
          loosens = made.loosens;
          sheds = sheds_since p.web M.ready.web made.loose.web gone M.room.web made.sheds;
          went = made.went;
          turned = turned;
          turned_are = turn ∙ ap (turning p n.board key) (sym seed_kind);
          free = made.free;
          freed = made.freed;
          frees = made.frees;
          out = made.out;
          as_many = made.as_many;
          seed = seed;
          is_row = seed_stand;
          suits = suits_by a.known.names g.rows.items is A.suit;
          leaf = leaf;
          fresh = fresh;
          could = made.could;
          fitted = made.fitted;
          refit = subst (λ (t : Names). IsRefitted made.free made.fitted t key n seed) (sym names) made.refit;
          placed = made.placed;
          looks = subst (λ (k : Kind). made.placed ≤ made.freed + refit_looks n.kind k) (sym seed_kind) made.looks;
          back = made.back;
          goes_on = can;
        }

-- ---- what stays

-- a patch is as it was
pub same_patch : (p : Patch) → SameButRoom p p
same_patch p = record {
  grove = same_grove p.grove;
  web = same_web p.web;
  names = λ class name. refl;
  links = same_links p.links;
  orders = λ c. same_order (order_in p.orders.items c);
  numbers = longer_self 0 p.numbers.items;
  values = longer_self [] (blocks_told p);
  clocks = refl;
  end = omega arith;
  rate = refl;
  present = refl;
}

mapped_some : {X Y : Type 0} (f : X → Y) (o : Option X) → is_some (option_map f o) ≡ is_some o
mapped_some f None = refl
mapped_some f (Some x) = refl

told_some : (w : Web) (k : ℕ) → is_some (line_told w k) ≡ is_some (wire_at w.book k)
told_some w k = mapped_some _ (wire_at w.book k)

-- where the lines are the same, there are as many wires
as_many : (w v : Web) → ((k : ℕ) → line_told v k ≡ line_told w k) → wires_told v ≡ wires_told w
as_many w v same = held_alike w.book.wires v.book.wires (λ k. sym (told_some v k) ∙ ap is_some (same k) ∙ told_some w k)

zero_seen : (o o' : Option Board) → option_map board_seen o' ≡ option_map board_seen o → zero_in o' ≡ zero_in o
zero_seen None None e = refl
zero_seen None (Some b') e = absurd (none-some (board_seen b') (sym e))
zero_seen (Some b) None e = absurd (none-some (board_seen b) e)
zero_seen (Some b) (Some b') e = ap (λ (s : BoardSeen). s.sheet.zero) (same_Some (board_seen b') (board_seen b) e)

module _ (p q : Patch) (S : SameButRoom p q) where
  pub room_zero : own_zero q ≡ own_zero p
  room_zero = ap (λ (r : ℕ). zero_in (get q.grove.boards r)) S.grove.root ∙ zero_seen (get p.grove.boards p.grove.root) (get q.grove.boards p.grove.root) (S.grove.boards p.grove.root)

  pub room_wires : wires_told q.web ≡ wires_told p.web
  room_wires = same_are_as_many p.web q.web S.web

module _ (p q : Patch) (table : Names) (key : ℕ) (n : Node) (s : Seed) (I : IsRefitted p q table key n s) where
  pub refit_zero : own_zero q ≡ own_zero p
  refit_zero = ap (λ (r : ℕ). zero_in (get q.grove.boards r)) I.grove.root ∙ ap (λ (bs : Slab Board). zero_in (get bs p.grove.root)) I.grove.boards

  pub refit_wires : wires_told q.web ≡ wires_told p.web
  refit_wires = as_many p.web q.web I.ports.lines

lives : (o : Option Node) (n : Node) → o ≡ Some n → IsSome o
lives o n e = subst (λ (x : Option Node). IsSome x) (sym e) refl

order_there : (g : Grove) (w : Web) (b : Option Board) (o : Option Listing) → IsSome b → HasOrder g w b o → IsSome o
order_there g w None o live h = cc
order_there g w (Some b) None live h = absurd h
order_there g w (Some b) (Some o) live h = refl

-- a box of a patch that runs lies in the canvas that it names
pub lies_there : (p : Patch) (key : ℕ) (n : Node) → CanPut p → get p.grove.nodes key ≡ Some n → IsThere (keys_at p.grove n.board) key
lies_there p key n C is = C.forest.placed key n.board (ap board_in is)

-- a box of a patch that runs lies in a canvas that has an order
pub ordered_there : (p : Patch) (key : ℕ) (n : Node) → CanPut p → get p.grove.nodes key ≡ Some n → IsSome (order_in p.orders.items n.board)
ordered_there p key n C is =
    let at = C.forest.placed key n.board (ap board_in is) in
    let b = board_there (get p.grove.boards n.board) at.0 key at.1 in
    order_there p.grove p.web (get p.grove.boards n.board) (order_in p.orders.items n.board) (subst (λ (o : Option Board). IsSome o) (sym b.1) refl) (C.runs.orders n.board)

pub lives_there : (p : Patch) (key : ℕ) (n : Node) → get p.grove.nodes key ≡ Some n → IsSome (get p.grove.nodes key)
lives_there p key n e = lives (get p.grove.nodes key) n e

pub some_there : (o : Option Node) → IsSome o → (n : Node) × (o ≡ Some n)
some_there None h = cc
some_there (Some n) h = (n, refl)

pub on_err : {A E P : Type 0} (r : Result A E) → P → OnErr r P
on_err (Ok x) h = tt
on_err (Err e) h = h
