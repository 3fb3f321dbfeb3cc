-- `inlet~` and `outlet~`.
use Rattle.std.proofs.Common.{◌≡◌, ℕ, ℤ, List, ◌∙◌, ap}
use Rattle.std.specs.Prelude.{Option, Some, None}
use Rattle.pd_web.specs.Hops.{port_told}
use Rattle.pd_patch.specs.declared.patch.Patch.{Patch}
use Rattle.pd_patch.specs.Values.{blocks_told, with_block}
use Rattle.pd_block.specs.Inlets.{inlet_block}
use Rattle.pd_block.specs.Nets.{net_of, states_of, sound_of}
use Rattle.pd_block.specs.Blocks.{held_by, port_block, given_at, inlet_by, outlet_by}
use Rattle.pd_block.proofs.NetLemmas.{sound_is, blocks_states}

pub inlet_done : (p0 p1 : Patch) (node : ℕ) (block : List ℤ) (held : ℤ) → p1.grove ≡ p0.grove → blocks_told p1 ≡ with_block (blocks_told p0) node 0 block
    → held ≡ held_by (states_of p0 node) → block ≡ port_block p0.web (blocks_told p0) (port_told p0.web node) held → sound_of p1 ≡ inlet_by (net_of p0) (sound_of p0) node
inlet_done p0 p1 node block held grove blocks h is =
    sound_is p1 (states_of p0) (with_block (blocks_told p0) node 0 (port_block p0.web (blocks_told p0) (port_told p0.web node) (held_by (states_of p0 node))))
    (blocks_states p0 p1 grove)
    (blocks ∙ ap (λ (b : List ℤ). with_block (blocks_told p0) node 0 b) (is ∙ ap (λ (z : ℤ). port_block p0.web (blocks_told p0) (port_told p0.web node) z) h))

pub outlet_done : (p0 p1 : Patch) (node holder port : ℕ) (block : List ℤ) (held : ℤ) → p1.grove ≡ p0.grove → blocks_told p1 ≡ with_block (blocks_told p0) holder port block
    → held ≡ held_by (states_of p0 node) → block ≡ inlet_block p0.web (blocks_told p0) node 0 held → Some (holder, port) ≡ port_told p0.web node
    → sound_of p1 ≡ outlet_by (net_of p0) (sound_of p0) node
outlet_done p0 p1 node holder port block held grove blocks h is at =
    sound_is p1 (states_of p0) (given_at (blocks_told p0) (port_told p0.web node) (inlet_block p0.web (blocks_told p0) node 0 (held_by (states_of p0 node))))
    (blocks_states p0 p1 grove)
    (blocks ∙ ap (λ (b : List ℤ). with_block (blocks_told p0) holder port b) (is ∙ ap (λ (z : ℤ). inlet_block p0.web (blocks_told p0) node 0 z) h)
    ∙ ap (λ (o : Option (ℕ × ℕ)). given_at (blocks_told p0) o (inlet_block p0.web (blocks_told p0) node 0 (held_by (states_of p0 node)))) at)

pub outlet_none : (p0 : Patch) (node : ℕ) → None ≡ port_told p0.web node → sound_of p0 ≡ outlet_by (net_of p0) (sound_of p0) node
outlet_none p0 node at =
    ap (λ (o : Option (ℕ × ℕ)). record { states = states_of p0; blocks = given_at (blocks_told p0) o (inlet_block p0.web (blocks_told p0) node 0 (held_by (states_of p0 node))) }) at
