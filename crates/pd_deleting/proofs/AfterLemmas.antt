-- A patch from which an edit took a box, or which it left.
use Rattle.std.proofs.Common.{◌≡◌, ◌≢◌, ℕ, ◌≤◌, List, [], ◌∷◌, Option, Some, IsSome, inl, inr, sym, ap, ◌∙◌, subst, arith}
use Rattle.std.specs.Prelude.{Result, Ok, Err, IfOk, IfErr, OnErr}
use mathlib.Core.Logic.{⊎_elim}
use Rattle.std.proofs.lemmas.Bool.{cases_eq}
use Rattle.slab.specs.Slab.{get}
use Rattle.pd_clock.specs.declared.times.Rate.{Rate}
use Rattle.pd_atom.specs.Names.{Names}
use Rattle.pd_tree.specs.declared.rows.Sheet.{Sheet}
use Rattle.pd_grove.specs.declared.boards.Board.{Board}
use Rattle.pd_grove.specs.declared.grove.Grove.{Grove}
use Rattle.pd_grove.specs.declared.nodes.Node.{Node}
use Rattle.pd_grove.specs.Grafts.{TakesBox}
use Rattle.pd_grove.specs.TextOrder.{cell_under}
use Rattle.pd_web.specs.Changes.{wires_told, Meet}
use Rattle.pd_web.proofs.CountLemmas.{same_are_as_many}
use Rattle.pd_patch.specs.declared.patch.Patch.{Patch}
use Rattle.pd_wiring.specs.declared.refusals.EditRefusal.{EditRefusal}
use Rattle.pd_wiring.specs.declared.refusals.EditRefusal.TheVariants.{NoMemory}
use Rattle.pd_wiring.specs.Changes.{SameButRoom}
use Rattle.pd_boxes.specs.Put.{CanPut}
use Rattle.pd_adding.specs.declared.counts.Counts.{Counts}
use Rattle.pd_adding.specs.Coming.{own_zero, zero_in}
use Rattle.pd_adding.specs.Counted.{sound_seen, with_wires}
use Rattle.pd_adding.specs.Counts.{counts_less, AreWithin}
use Rattle.pd_clearing.proofs.ClearLemmas.{as_many}
use Rattle.pd_deleting.specs.declared.deleting.OldBox.{OldBox}
use Rattle.pd_deleting.specs.Deletes.{going, values_of, ClearsBox, DeletesBox, IsNotDeleted, TakesPort}
use Rattle.pd_deleting.proofs.DeleteLemmas.{fewer_wires, still_meet, still_put, within_less}

-- The `$0` of the patch's own document stays.

zero_same : (o o' : Option Board) (b b' : Board) → o ≡ Some b → o' ≡ Some b' → b'.sheet ≡ b.sheet → zero_in o' ≡ zero_in o
zero_same o o' b b' e e' s = ap zero_in e' ∙ ap (λ (x : Sheet). x.zero) s ∙ sym (ap zero_in e)

zero_left : (p q : Patch) (c key : ℕ) (n : Node) (before behind : List ℕ) → TakesBox (get p.grove.nodes) (get q.grove.nodes) (get p.grove.boards) (get q.grove.boards) c key n before behind
    → q.grove.root ≡ p.grove.root → IsSome (get q.grove.boards q.grove.root) → own_zero q ≡ own_zero p
zero_left p q c key n before behind T root rooted =
    ap (λ r. zero_in (get q.grove.boards r)) root ∙ ⊎_elim
    (λ (e : p.grove.root ≡ c). ap (λ r. zero_in (get q.grove.boards r)) e ∙ zero_same (get p.grove.boards c) (get q.grove.boards c) T.old T.new T.board T.without T.sheet
    ∙ ap (λ r. zero_in (get p.grove.boards r)) (sym e))
    (λ (d : p.grove.root ≢ c). ap zero_in (T.no_canvas_comes p.grove.root d (subst (λ r. IsSome (get q.grove.boards r)) root rooted)))
    (cases_eq p.grove.root c)

zero_roomed : (p q : Patch) → SameButRoom p q → own_zero q ≡ own_zero p
zero_roomed p q S = ap (λ (g : Grove). zero_in (get g.boards g.root)) S.grove

-- The counts without one box.

pub one_counted : (rate : Rate) (g : Grove) (n left : Counts) (key values wires told : ℕ) → left ≡ counts_less n 1 values n.wires → values ≡ sound_seen rate (cell_under (get g.nodes) key) → wires ≡ told
    → record { boxes = left.boxes; wires = wires; sound = left.sound; next_zero = left.next_zero } ≡ counts_less n 1 (values_of rate g (key ∷ [])) told
one_counted rate g n left key values wires told is seen now =
    let all : values ≡ values_of rate g (key ∷ []) = omega (arith, seen) in
    ap (with_wires wires) is ∙ ap (λ v. counts_less n 1 v wires) all ∙ ap (counts_less n 1 (values_of rate g (key ∷ []))) now

-- A box is out.

module _ (p q : Patch) (n : Counts) (table : Names) (path : List ℕ) (number steps steps' : ℕ) (b : OldBox) where
  module _ (x : TakesPort p q n table path number steps steps' b) where
    zero_taken : own_zero q ≡ own_zero p
    zero_taken =
        let T = x.taken in
        ap (λ (g : Grove). zero_in (get g.boards g.root)) T.leaves.rest.grove
        ∙ zero_left T.ready T.out b.canvas b.key T.goes.node _ _ T.goes.grove T.goes.root
        (subst (λ (g : Grove). IsSome (get g.boards g.root)) T.leaves.rest.grove T.can.forest.rooted.0)
        ∙ ap (λ (g : Grove). zero_in (get g.boards g.root)) (T.own.rest.grove ∙ T.loosens.rest.grove)
        ∙ zero_roomed p x.ready x.room

    pub fewer_taken : wires_told q.web ≤ wires_told p.web
    fewer_taken =
        let T = x.taken in
        let a = T.loosens.count in
        let b = T.own.count in
        let c = T.leaves.wires in
        let e = as_many T.ready.web T.out.web T.goes.ports.lines in
        let d = same_are_as_many p.web x.ready.web x.room.web in
        omega (arith, a, b, c, d, e)

  pub goes_on : DeletesBox p q n table path number steps steps' b → CanPut q
  goes_on (inl x) = x.cleared.can
  goes_on (inr x) = x.taken.can

  pub goes_meet : DeletesBox p q n table path number steps steps' b → Meet q.web
  goes_meet (inl x) = x.cleared.meet
  goes_meet (inr x) = x.taken.leaves.meet

  pub zero_stays : DeletesBox p q n table path number steps steps' b → own_zero q ≡ own_zero p
  zero_stays (inl x) = zero_left x.ready q b.canvas b.key x.cleared.node _ _ x.cleared.grove x.cleared.root x.cleared.can.forest.rooted.0 ∙ zero_roomed p x.ready x.room
  zero_stays (inr x) = zero_taken x

  pub within_then : DeletesBox p q n table path number steps steps' b → n.wires ≡ wires_told p.web → AreWithin n → AreWithin b.counts
  within_then (inl x) counted W =
      let l = fewer_wires p q x.ready table (record { canvas = b.canvas; number = number }) b.key steps steps' x.room x.cleared in
      subst AreWithin (sym x.counts) (within_less n _ _ (wires_told q.web) (omega (arith, l, counted)) W)
  within_then (inr x) counted W =
      let l = fewer_taken x in
      subst AreWithin (sym x.counts) (within_less n _ _ (wires_told q.web) (omega (arith, l, counted)) W)

-- No box is out.

module _ (p q : Patch) (path : List ℕ) (number : ℕ) (why : EditRefusal) where
  pub left_on : IsNotDeleted p q path number why → CanPut p → CanPut q
  left_on (inl x) C = subst CanPut (sym x.0) C
  left_on (inr x) C = still_put p q x.1.room C

  pub left_meet : IsNotDeleted p q path number why → Meet p.web → Meet q.web
  left_meet (inl x) m = subst (λ (r : Patch). Meet r.web) (sym x.0) m
  left_meet (inr x) m = still_meet p.web q.web x.1.room.web m

  pub left_zero : IsNotDeleted p q path number why → own_zero q ≡ own_zero p
  left_zero (inl x) = ap own_zero x.0
  left_zero (inr x) = zero_roomed p q x.1.room

  pub left_wires : IsNotDeleted p q path number why → wires_told q.web ≡ wires_told p.web
  left_wires (inl x) = ap (λ (r : Patch). wires_told r.web) x.0
  left_wires (inr x) = same_are_as_many p.web q.web x.1.room.web

-- What an edit came to.

module _ (p q : Patch) (n : Counts) (table : Names) (path : List ℕ) (number steps steps' canvas key : ℕ) (is : going p path number ≡ Ok (canvas, key)) where
  -- a box is out, or none
  abbrev Ends : Result OldBox EditRefusal → Type 0
  Ends r = IfOk r (λ b. DeletesBox p q n table path number steps steps' b) × IfErr r (λ why. IsNotDeleted p q path number why)

  short_so : (why : EditRefusal) → (why ≡ NoMemory) × SameButRoom p q → IsNotDeleted p q path number why
  short_so why s = inr (s.0, record { box = (canvas, key); is = is; room = s.1 })

  pub cleared_so : (r : Result OldBox EditRefusal) → IfOk r (λ b. (to : List ℕ) → going p to number ≡ Ok (canvas, key) → ClearsBox p q n table to number steps steps' b)
      → IfErr r (λ why. (why ≡ NoMemory) × SameButRoom p q) → Ends r
  cleared_so (Ok b) x s = (inl (x path is), tt)
  cleared_so (Err why) x s = (tt, short_so why s)

  pub taken_so : (r : Result OldBox EditRefusal) → IfOk r (λ b. (to : List ℕ) → going p to number ≡ Ok (canvas, key) → TakesPort p q n table to number steps steps' b)
      → IfErr r (λ why. (why ≡ NoMemory) × SameButRoom p q) → Ends r
  taken_so (Ok b) x s = (inr (x path is), tt)
  taken_so (Err why) x s = (tt, short_so why s)

  pub on_so : (r : Result OldBox EditRefusal) → Ends r → CanPut p → CanPut q
  on_so (Ok b) e C = goes_on p q n table path number steps steps' b e.0
  on_so (Err why) e C = left_on p q path number why e.1 C

  pub meet_so : (r : Result OldBox EditRefusal) → Ends r → Meet p.web → Meet q.web
  meet_so (Ok b) e m = goes_meet p q n table path number steps steps' b e.0
  meet_so (Err why) e m = left_meet p q path number why e.1 m

  pub zero_so : (r : Result OldBox EditRefusal) → Ends r → own_zero q ≡ own_zero p
  zero_so (Ok b) e = zero_stays p q n table path number steps steps' b e.0
  zero_so (Err why) e = left_zero p q path number why e.1

  pub wires_so : (r : Result OldBox EditRefusal) → Ends r → OnErr r (wires_told q.web ≡ wires_told p.web)
  wires_so (Ok b) e = tt
  wires_so (Err why) e = left_wires p q path number why e.1

  pub within_so : (r : Result OldBox EditRefusal) → Ends r → n.wires ≡ wires_told p.web → AreWithin n → IfOk r (λ b. AreWithin b.counts)
  within_so (Ok b) e counted W = within_then p q n table path number steps steps' b e.0 counted W
  within_so (Err why) e counted W = tt
