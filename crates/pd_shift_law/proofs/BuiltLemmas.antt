-- A patch that runs, with a box at another place, runs on.
use Rattle.std.proofs.Common.{◌≡◌, ℕ, ℤ, List, slice_get, Option, Some, None, IsSome, inl, inr, refl, sym, ap, ◌∙◌, subst}
use Rattle.std.specs.Prelude.{option_map, replicate}
use Rattle.std.proofs.lemmas.Option.{none-some}
use Rattle.slab.specs.Slab.{get}
use Rattle.pd_atom.specs.Names.{Names}
use Rattle.pd_clock.specs.declared.times.Rate.{Rate}
use Rattle.pd_grove.specs.declared.nodes.Node.{Node}
use Rattle.pd_grove.specs.declared.ports.Side.TheVariants.{Outlets}
use Rattle.pd_grove.specs.Owning.{board_in}
use Rattle.pd_grove.specs.Refits.{at_place}
use Rattle.pd_web.specs.declared.web.Web.{Web}
use Rattle.pd_web.specs.Hops.{ports_told}
use Rattle.pd_patch.specs.declared.patch.Patch.{Patch}
use Rattle.pd_patch.specs.Built.{block_sizes, IsBuilt}
use Rattle.pd_patch.specs.Values.{block_count, blocks_told}
use Rattle.pd_boxes.specs.Put.{CanPut}
use Rattle.pd_shifting.specs.declared.shifting.MovedBox.{MovedBox}
use Rattle.pd_shifting.specs.Moves.{ShiftsBox, MovesBox}
use Rattle.pd_shifting.proofs.MoveLemmas.{still_put}
use Rattle.pd_shifted_law.proofs.EitherLemmas.{box_alters, rest_stays}
use Rattle.pd_shifted_law.proofs.OwnerLemmas.{owners_stay, told_as}

board_placed : (x y : ℤ) (o : Option Node) → board_in (option_map (at_place x y) o) ≡ board_in o
board_placed x y None = refl
board_placed x y (Some n) = refl

lives_by : (a b : Option Node) → board_in a ≡ board_in b → IsSome a → IsSome b
lives_by None b e l = cc
lives_by (Some n) None e l = absurd (none-some n.board (sym e))
lives_by (Some n) (Some m) e l = refl

none_by : (a b : Option Node) → board_in a ≡ board_in b → a ≡ None → b ≡ None
none_by None None e l = refl
none_by None (Some m) e l = absurd (none-some m.board e)
none_by (Some n) b e l = absurd (none-some n (sym l))

module _ (p q : Patch) (path : List ℕ) (number : ℕ) (x y : ℤ) (b : MovedBox) (M : MovesBox p q path number x y b) where
  -- each box asks for as many blocks
  count_by : ShiftsBox p q b.canvas b.key x y → (k : ℕ) → block_count (ports_told q.web Outlets k) ≡ block_count (ports_told p.web Outlets k)
  count_by (inl s) k = ap (λ (w : Web). block_count (ports_told w Outlets k)) s.rest.web
  count_by (inr s) k = s.slid.blocks k ∙ ap block_count (s.room.web.kept.ports Outlets k)

  pub still_built : (names : Names) (file : List ℕ) (rate : Rate) → CanPut p → IsBuilt p names file rate → IsBuilt q names file rate
  still_built names file rate C B =
      let S = rest_stays p q b.canvas b.key x y M.shifts in
      let A = box_alters p q b.canvas b.key x y M.shifts in
      let same : (k : ℕ) → board_in (get q.grove.nodes k) ≡ board_in (get p.grove.nodes k) = told_as p.grove q.grove b.key x y A board_in (board_placed x y) in
      let lives : (k : ℕ) → IsSome (get q.grove.nodes k) → IsSome (get p.grove.nodes k) = λ k l. lives_by (get q.grove.nodes k) (get p.grove.nodes k) (same k) l in
      let can = still_put p q path number x y b M C in
      record {
        own = can.runs.own;
        keys = λ k l. B.keys k (lives k l);
        ports = can.runs.ports;
        owners = owners_stay p q path number x y b names file M B.owners;
        apart = can.apart;
        inside = can.runs.inside;
        linked = can.runs.linked;
        orders = can.runs.orders;
        numbers = can.runs.numbers;
        blocks = λ k l.
            subst (λ (n : ℕ). option_map block_sizes (slice_get (blocks_told q) k) ≡ Some (replicate n 64)) (sym (count_by M.shifts k)) (rw S.values (B.blocks k (lives k l)));
        no_others = λ k outlet e. rw S.values (B.no_others k outlet (none_by (get q.grove.nodes k) (get p.grove.nodes k) (same k) e));
        room = λ k l. rw S.timers (B.room k (lives k l));
        same_rate = S.rate ∙ B.same_rate;
      }
