-- The blocks of the box around where a port box comes.
use Rattle.std.proofs.Common.{◌≡◌, ℕ, ℤ, zero, suc, ◌<◌, Bool, true, false, ◌||◌, List, [], ◌∷◌, map, length, slice_get, Option, Some, None, IsSome, refl, sym, ap, ◌∙◌, subst, arith}
use Rattle.std.specs.Prelude.{replicate, if◌then◌else◌, is_some, option_map}
use Rattle.std.specs.List.{insert, list_any}
use Rattle.std.proofs.lemmas.List.{length-map}
use Rattle.std.proofs.lemmas.Option.{none-some, slice_get_within}
use Rattle.slab.specs.Slab.{get}
use Rattle.pd_atom.specs.Names.{Names}
use Rattle.pd_kind.specs.States.{silent_block}
use Rattle.pd_grove.specs.declared.nodes.Node.{Node}
use Rattle.pd_grove.specs.declared.seeds.Seed.{Seed}
use Rattle.pd_grove.specs.declared.ports.Side.{Side}
use Rattle.pd_grove.specs.declared.ports.Side.TheVariants.{Inlets, Outlets}
use Rattle.pd_grove.specs.Telling.{inner_in}
use Rattle.pd_wire.specs.Book.{wire_at}
use Rattle.pd_web.specs.declared.jacks.Jack.{Jack}
use Rattle.pd_web.specs.declared.lines.Line.{Line}
use Rattle.pd_web.specs.declared.web.Web.{Web}
use Rattle.pd_web.specs.Changes.{line_by, line_told, wires_told}
use Rattle.pd_web.specs.Hops.{hop_from, hop_to, ports_told}
use Rattle.pd_web.specs.Jacks.{plain_jack}
use Rattle.pd_web.proofs.CountLemmas.{holds, held_alike}
use Rattle.pd_ports.specs.Known.{KnowsHomes}
use Rattle.pd_patch.specs.declared.patch.Patch.{Patch}
use Rattle.pd_patch.specs.Values.{block_count, blocks_told, first_blocks}
use Rattle.pd_boxes.specs.declared.room.Place.{Place}
use Rattle.pd_boxes.specs.Put.{ComesIn}
use Rattle.pd_boxes.specs.Rows.{PutsUnder}
use Rattle.pd_following.specs.declared.room.PortBoxRoom.{PortBoxRoom}
use Rattle.pd_following.specs.Ports.{CanPutPort, BlocksFollow, carries, port_jack}
use Rattle.pd_following.specs.Raising.{Raises}
use Rattle.pd_following.specs.Room.{TakesPort}
use Rattle.pd_following.proofs.ListLemmas.{insert_length}
use Rattle.pd_following.proofs.ComeLemmas.{ready_old}

or_turned : (a b c : Bool) → (a || (b || c)) ≡ (b || (a || c))
or_turned true true c = refl
or_turned true false c = refl
or_turned false true c = refl
or_turned false false c = refl

any_insert : {X : Type 0} (f : X → Bool) (xs : List X) (at : ℕ) (x : X) → list_any f (insert xs at x) ≡ (f x || list_any f xs)
any_insert f xs zero x = refl
any_insert f [] (suc at) x = refl
any_insert f (y ∷ xs) (suc at) x = ap (λ (b : Bool). f y || b) (any_insert f xs at x) ∙ or_turned (f y) (f x) (list_any f xs)

-- it doesn't matter at which number an outlet came, nor which box it is
count_insert : (js : List Jack) (at : ℕ) (j : Jack) (b : Bool) → j.is_signal ≡ b → block_count (insert js at j) ≡ block_count (plain_jack b ∷ js)
count_insert js at j b e =
    ap (λ (t : Bool). if t then length (insert js at j) else 0) (any_insert (λ (x : Jack). x.is_signal) js at j ∙ ap (λ (t : Bool). t || list_any (λ (x : Jack). x.is_signal) js) e)
    ∙ ap (λ n. if (b || list_any (λ (x : Jack). x.is_signal) js) then n else 0) (insert_length js at j)

there : {X : Type 0} (xs : List X) (k : ℕ) → k < length xs → (x : X) × (slice_get xs k ≡ Some x)
there [] k l = absurd (omega (arith, l))
there (x ∷ xs) zero l = (x, refl)
there (x ∷ xs) (suc k) l = there xs k (omega (arith, l))

-- where a row of a list stays, the list reaches it still
pub reaches_still : {A X : Type 0} (f : A → X) (old new : List A) (k : ℕ) → slice_get (map f new) k ≡ slice_get (map f old) k → k < length old → k < length new
reaches_still f old new k e l =
    let m = length-map old f in
    let x = there (map f old) k (omega (arith, l, m)) in
    let w = slice_get_within (map f new) k x.0 (e ∙ x.1) in
    let n = length-map new f in
    omega (arith, w, n)

module _ (p r : Patch) (table : Names) (room : PortBoxRoom) (key : ℕ) (P : CanPutPort p room.own.place room.own.seed room.holder room.side)
    (C : ComesIn p r table room.own.place room.own.seed key) (known : KnowsHomes p.web) (T : TakesPort p room table) where
  holder_lives : IsSome (get p.grove.nodes room.holder)
  holder_lives = by (get p.grove.nodes room.holder) (P.can.forest.held room.own.place.canvas room.holder P.at.held)
    where
      by : (o : Option Node) → inner_in o ≡ Some room.own.place.canvas → IsSome o
      by None e = absurd (none-some room.own.place.canvas e)
      by (Some n) e = refl

  pub holder_reached : room.holder < length r.values.items
  holder_reached =
      let low = T.box.keys.live room.holder holder_lives in
      let far = T.box.keys.values in
      reaches_still (λ b. b.items) p.values.items r.values.items room.holder (C.blocks.others room.holder (ready_old p r table room.own.place room.own.seed key room.holder room.side P C known))
      (omega (arith, low, far))

  outlets_then : (w : Web) (at : ℕ) → room.side ≡ Outlets → Raises r.web w room.holder room.side at (port_jack room.side room.own.seed.row.kind key) → room.blocks.items ≡ first_blocks w room.holder
  outlets_then w at e X =
      T.blocks ∙ ap (λ n. replicate n silent_block) (sym (
      ap block_count (subst (λ (t : Side). ports_told w t room.holder ≡ insert (ports_told r.web t room.holder) at (port_jack t room.own.seed.row.kind key)) e X.ports)
      ∙ ap (λ (js : List Jack). block_count (insert js at (port_jack Outlets room.own.seed.row.kind key))) (C.ports.other_ports Outlets room.holder (ready_old p r table room.own.place room.own.seed key room.holder room.side P C known))
      ∙ count_insert (ports_told p.web Outlets room.holder) at (port_jack Outlets room.own.seed.row.kind key) (carries Outlets room.own.seed.row.kind) refl))

  pub blocks_follow : (q : Patch) (at : ℕ) → Raises r.web q.web room.holder room.side at (port_jack room.side room.own.seed.row.kind key)
      → (room.side ≡ Inlets → q.values ≡ r.values) → (room.side ≡ Outlets → PutsUnder (blocks_told r) (blocks_told q) room.holder room.blocks.items) → BlocksFollow room.side r q room.holder
  blocks_follow q at X inlets outlets = by room.side refl
    where
      by : (t : Side) → room.side ≡ t → BlocksFollow t r q room.holder
      by Inlets e = ap (λ vs. map (λ b. b.items) vs.items) (inlets e)
      by Outlets e = subst (λ (bs : List (List ℤ)). PutsUnder (blocks_told r) (blocks_told q) room.holder bs) (outlets_then q.web at e X) (outlets e)

-- There are as many wires where each wire stays.

told_there : {X Y : Type 0} (f : X → Y) (o : Option X) → is_some (option_map f o) ≡ is_some o
told_there f None = refl
told_there f (Some x) = refl

told_holds : (w : Web) (k : ℕ) → is_some (line_told w k) ≡ holds w.book.wires k
told_holds w k = told_there (λ _. line_by (hop_from w k) (hop_to w k)) (wire_at w.book k)

pub as_many_come : (p r : Patch) (table : Names) (place : Place) (s : Seed) (key : ℕ) → ComesIn p r table place s key → wires_told r.web ≡ wires_told p.web
as_many_come p r table place s key C =
    held_alike p.web.book.wires r.web.book.wires (λ k. sym (told_holds r.web k) ∙ ap (λ (o : Option Line). is_some o) (C.ports.lines k) ∙ told_holds p.web k)
