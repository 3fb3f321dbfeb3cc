-- Where a patch stands after a block.
use Rattle.std.proofs.Common.{◌≡◌, ◌+◌, ℕ, List, sym, ◌∙◌, ap, subst, min, max, Option}
use Rattle.pd_clock.specs.Queue.{Clock}
use Rattle.pd_atom.specs.Names.{Names}
use Rattle.pd_kind.specs.declared.states.State.{State}
use Rattle.pd_patch.specs.declared.patch.Patch.{Patch}
use Rattle.pd_patch.specs.Values.{Blocks, blocks_told}
use Rattle.pd_hearing.specs.Worlds.{Net, net_of}
use Rattle.pd_block.specs.Nets as block
use Rattle.pd_block.specs.Blocks.{Played}
use Rattle.pd_io.specs.Stream.{grown, TookPart}
use Rattle.pd_io.specs.declared.files.FileRow.{FileRow}
use Rattle.pd_mix.specs.Samples.{block_bytes}
use Rattle.pd_made.specs.declared.tally.Tally.{Tally}
use Rattle.pd_made.specs.Tallies.{tallied}
use Rattle.pd_stage.specs.Choices.{Base, Choice}
use Rattle.pd_stage.specs.Stages.{Stage, with_ahead}
use Rattle.pd_stage.specs.Leads.{sinks, Comes, Stops}
use Rattle.pd_stage.specs.Times.{with_blocks, with_played, played_at, block_sounds}
use Rattle.pd_stage.proofs.LeadLemmas.{heard_leads, heard_breaks}

-- only the blocks of outlets have changed
pub played_net : (p p' : Patch) (x : Played) → block.net_of p' ≡ block.net_of p → blocks_told p' ≡ x.sound.blocks → net_of p' ≡ with_blocks (net_of p) x
played_net p p' x same blocks =
    ap (λ (n : block.Net). record {
      nodes = n.nodes;
      boards = n.boards;
      root = n.root;
      web = n.web;
      links = n.links;
      owners = n.owners;
      orders = n.orders;
      numbers = n.numbers;
      blocks = blocks_told p';
      rate = n.rate;
      end = n.end;
    }) same
    ∙ ap (λ (b : Blocks). record {
      nodes = (net_of p).nodes;
      boards = (net_of p).boards;
      root = (net_of p).root;
      web = (net_of p).web;
      links = (net_of p).links;
      owners = (net_of p).owners;
      orders = (net_of p).orders;
      numbers = (net_of p).numbers;
      blocks = b;
      rate = (net_of p).rate;
      end = (net_of p).end;
    }) blocks

abbrev stage : List ℕ → Net → (ℕ → Option State) → List Clock → Names → Base → ℕ → ℕ → ℕ → Tally → List Choice → Stage
stage file net states clocks names base time block_end fired tally ahead = record {
  file = file;
  net = net;
  states = states;
  clocks = clocks;
  names = names;
  base = base;
  time = time;
  block_end = block_end;
  fired = fired;
  tally = tally;
  ahead = ahead;
}

pub played_stage : (s s' : Stage) (x : Played) → s'.file ≡ s.file → s'.net ≡ with_blocks s.net x → s'.states ≡ x.sound.states → s'.clocks ≡ s.clocks → s'.names ≡ s.names → s'.base ≡ s.base
    → s'.time ≡ max s.time s.block_end → s'.block_end ≡ min (s.block_end + 64000000000) 340282366920938463463374607431768211455 → s'.fired ≡ 0
    → s'.tally ≡ tallied s.tally (block_bytes x.out) → s'.ahead ≡ s.ahead → s' ≡ with_played s x
played_stage s s' x file net states clocks names base time block_end fired tally ahead =
    ap (λ (l : List ℕ). stage l s'.net s'.states s'.clocks s'.names s'.base s'.time s'.block_end s'.fired s'.tally s'.ahead) file
    ∙ ap (λ (n : Net). stage s.file n s'.states s'.clocks s'.names s'.base s'.time s'.block_end s'.fired s'.tally s'.ahead) net
    ∙ ap (λ (f : ℕ → Option State). stage s.file (with_blocks s.net x) f s'.clocks s'.names s'.base s'.time s'.block_end s'.fired s'.tally s'.ahead) states
    ∙ ap (λ (c : List Clock). stage s.file (with_blocks s.net x) x.sound.states c s'.names s'.base s'.time s'.block_end s'.fired s'.tally s'.ahead) clocks
    ∙ ap (λ (n : Names). stage s.file (with_blocks s.net x) x.sound.states s.clocks n s'.base s'.time s'.block_end s'.fired s'.tally s'.ahead) names
    ∙ ap (λ (b : Base). stage s.file (with_blocks s.net x) x.sound.states s.clocks s.names b s'.time s'.block_end s'.fired s'.tally s'.ahead) base
    ∙ ap (λ (t : ℕ). stage s.file (with_blocks s.net x) x.sound.states s.clocks s.names s.base t s'.block_end s'.fired s'.tally s'.ahead) time
    ∙ ap (λ (t : ℕ). stage s.file (with_blocks s.net x) x.sound.states s.clocks s.names s.base (max s.time s.block_end) t s'.fired s'.tally s'.ahead) block_end
    ∙ ap (λ (n : ℕ). stage s.file (with_blocks s.net x) x.sound.states s.clocks s.names s.base (max s.time s.block_end) (min (s.block_end + 64000000000) 340282366920938463463374607431768211455) n s'.tally s'.ahead) fired
    ∙ ap (λ (t : Tally). stage s.file (with_blocks s.net x) x.sound.states s.clocks s.names s.base (max s.time s.block_end) (min (s.block_end + 64000000000) 340282366920938463463374607431768211455) 0 t s'.ahead) tally
    ∙ ap (λ (a : List Choice). stage s.file (with_blocks s.net x) x.sound.states s.clocks s.names s.base (max s.time s.block_end) (min (s.block_end + 64000000000) 340282366920938463463374607431768211455) 0 (tallied s.tally (block_bytes x.out)) a) ahead

-- its samples were taken
pub block_comes : (s s' : Stage) (t u u' : Option (List ℕ)) (k : ℕ) (h : Option (List FileRow)) (f : ℕ) → s' ≡ with_played s (played_at s) → u' ≡ grown u (block_bytes (played_at s).out)
    → Comes block_sounds (with_ahead s) (with_ahead s') (sinks t u k h f) (sinks t u' k h f)
unfolding block_sounds
block_comes s s' t u u' k h f is more =
    subst (λ (r : Stage). Comes block_sounds (with_ahead s) (with_ahead r) (sinks t u k h f) (sinks t u' k h f)) (sym is)
    (heard_leads (with_ahead (with_played s (played_at s))) (block_bytes (played_at s).out) t u u' k h f more)

pub block_breaks : (s : Stage) (t u u' : Option (List ℕ)) (k : ℕ) (h : Option (List FileRow)) (f : ℕ) → TookPart u u' (block_bytes (played_at s).out)
    → Stops block_sounds (with_ahead s) (sinks t u k h f) (sinks t u' k h f)
unfolding block_sounds
block_breaks s t u u' k h f took = heard_breaks (with_ahead (with_played s (played_at s))) (block_bytes (played_at s).out) t u u' k h f took
