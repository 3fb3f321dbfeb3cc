-- A patch that runs, of which a box became another one, runs on.
use Rattle.std.proofs.Common.{◌≡◌, ◌≢◌, ℕ, zero, suc, pos, List, ◌∷◌, length, Option, Some, None, IsSome, refl, sym, ap, ◌∙◌, subst}
use Rattle.std.specs.Prelude.{slice_get, option_map, option_and_then, replicate}
use mathlib.Core.Logic.{⊎_elim}
use Rattle.std.proofs.lemmas.Bool.{cases_eq}
use Rattle.std.proofs.lemmas.List.{length-replicate}
use Rattle.std.proofs.lemmas.Option.{none-some}
use Rattle.slab.specs.Slab.{get}
use Rattle.pd_atom.specs.Names.{Names}
use Rattle.pd_clock.specs.declared.times.Rate.{Rate}
use Rattle.pd_kind.specs.States.{silent_block}
use Rattle.pd_grove.specs.declared.nodes.Node.{Node}
use Rattle.pd_grove.specs.declared.seeds.Seed.{Seed}
use Rattle.pd_grove.specs.declared.ports.Side.TheVariants.{Outlets}
use Rattle.pd_grove.specs.Owning.{board_in}
use Rattle.pd_web.specs.declared.jacks.Jack.{Jack}
use Rattle.pd_web.specs.Hops.{ports_told}
use Rattle.pd_patch.specs.declared.patch.Patch.{Patch}
use Rattle.pd_patch.specs.Built.{IsBuilt, block_sizes}
use Rattle.pd_patch.specs.Values.{block_count, block_at, blocks_told}
use Rattle.pd_boxes.specs.Put.{node_of}
use Rattle.pd_refitting.specs.Refits.{CanRefit, IsRefitted}
use Rattle.pd_refitting.proofs.BoxLemmas.{boards_as, other_box, still_put}

silent_count : length silent_block ≡ 64
unfolding silent_block
silent_count = length-replicate 64 (pos 0)

silent_sizes : (n : ℕ) → block_sizes (replicate n silent_block) ≡ replicate n 64
silent_sizes zero = refl
silent_sizes (suc n) =
    ap (λ (size : ℕ). size ∷ block_sizes (replicate n silent_block)) silent_count ∙ ap (λ (sizes : List ℕ). 64 ∷ sizes) (silent_sizes n)

lives_by : (a b : Option Node) → board_in a ≡ board_in b → IsSome a → IsSome b
lives_by None b e l = cc
lives_by (Some n) None e l = absurd (none-some n.board (sym e))
lives_by (Some n) (Some m) e l = refl

none_by : (a b : Option Node) → board_in a ≡ board_in b → a ≡ None → b ≡ None
none_by None None e l = refl
none_by None (Some m) e l = absurd (none-some m.board e)
none_by (Some n) b e l = absurd (none-some n (sym l))

module _ (p q : Patch) (table : Names) (key : ℕ) (n : Node) (s : Seed) (C : CanRefit p key n s) (R : IsRefitted p q table key n s) (file : List ℕ) (rate : Rate) (B : IsBuilt p table file rate) where
  same_board : (k : ℕ) → board_in (get q.grove.nodes k) ≡ board_in (get p.grove.nodes k)
  same_board = boards_as p.grove q.grove key n (node_of n.board s) (other_box p q table key n s C R)

  lives : (k : ℕ) → IsSome (get q.grove.nodes k) → IsSome (get p.grove.nodes k)
  lives k l = lives_by (get q.grove.nodes k) (get p.grove.nodes k) (same_board k) l

  no_box : (k : ℕ) → get q.grove.nodes k ≡ None → get p.grove.nodes k ≡ None
  no_box k none = none_by (get q.grove.nodes k) (get p.grove.nodes k) (same_board k) none

  still_blocks : (k : ℕ) → IsSome (get q.grove.nodes k) → option_map block_sizes (slice_get (blocks_told q) k) ≡ Some (replicate (block_count (ports_told q.web Outlets k)) 64)
  still_blocks k live = ⊎_elim
      (λ (e : k ≡ key). subst (λ x. option_map block_sizes (slice_get (blocks_told q) x) ≡ Some (replicate (block_count (ports_told q.web Outlets x)) 64)) (sym e)
      (ap (option_map block_sizes) R.blocks.is ∙ ap (λ (ns : List ℕ). Some ns) (silent_sizes (block_count (ports_told q.web Outlets key)))))
      (λ (d : k ≢ key). ap (option_map block_sizes) (R.blocks.others k d) ∙ B.blocks k (lives k live)
      ∙ ap (λ (js : List Jack). Some (replicate (block_count js) 64)) (sym (R.ports.other_ports Outlets k d)))
      (cases_eq k key)

  no_block : (k outlet : ℕ) → get q.grove.nodes k ≡ None → block_at (blocks_told q) k outlet ≡ None
  no_block k outlet none =
      ap (option_and_then (λ own. slice_get own outlet)) (R.blocks.others k (λ e. none-some n (sym (no_box k none) ∙ ap (get p.grove.nodes) e ∙ C.is)))
      ∙ B.no_others k outlet (no_box k none)

  pub still_built : IsBuilt q table file rate
  still_built =
      let can = still_put p q table key n s C R in
      record {
        own = can.runs.own;
        keys = λ k l. B.keys k (lives k l);
        ports = can.runs.ports;
        owners = R.owners file B.owners;
        apart = can.apart;
        inside = can.runs.inside;
        linked = can.runs.linked;
        orders = can.runs.orders;
        numbers = can.runs.numbers;
        blocks = still_blocks;
        no_others = no_block;
        room = λ k l. rw R.clock_room (B.room k (lives k l));
        same_rate = R.rate ∙ B.same_rate;
      }
