-- What comes to an `osc~` that no wire feeds is the number that its inlet holds, in each sample.
use Rattle.std.proofs.Common.{◌≡◌, ◌≤◌, ℕ, ℤ, true, List, [], ◌∷◌, length, take, refl, sym, ◌∙◌, ap, arith}
use Rattle.std.proofs.lemmas.Bool.{false≢true}
use Rattle.std.proofs.lemmas.List.{take_all}
use Rattle.std.proofs.lemmas.Option.{none-some}
use Rattle.std.specs.Prelude.{Option, Some, None, IsSome, slice_get}
use Rattle.slab.specs.Slab.{get}
use Rattle.pd_object.specs.declared.kinds.Kind.{Kind}
use Rattle.pd_object.specs.declared.kinds.Kind.TheVariants as kind
use Rattle.pd_object.specs.declared.kinds.Tone.TheVariants as tone
use Rattle.pd_kind.specs.declared.states.State.{State}
use Rattle.pd_grove.specs.declared.nodes.Node.{Node}
use Rattle.pd_grove.specs.Telling.{state_in}
use Rattle.pd_patch.specs.declared.patch.Patch.{Patch}
use Rattle.pd_patch.specs.Lending.{with_box}
use Rattle.pd_patch.specs.Values.{Blocks}
use Rattle.pd_turn.specs.Held.{held_of, held_block}
use Rattle.pd_turn.specs.Sizes.{few_of}
use Rattle.pd_turn.specs.Rows.{is_osc}
use Rattle.pd_web.specs.declared.web.Hop.{Hop}
use Rattle.pd_web.specs.declared.web.Web.{Web}
use Rattle.pd_web.specs.Hops.{feed_hops}
use Rattle.pd_block.specs.Inlets.{wires_to, steady, inlet_block}
use Rattle.pd_block.specs.Given.{AreBrought, IsUnfed, held_blocks, few_brought, state_brought, box_given, given_at}
use Rattle.pd_block.specs.Nets.{states_of}
use Rattle.pd_block.proofs.LentLemmas.{given_states}

no_hops : (hops : List Hop) → slice_get hops 0 ≡ None → hops ≡ []
no_hops [] e = refl
no_hops (h ∷ hs) e = absurd (none-some h (sym e))

few_none : (hops : List Hop) → hops ≡ [] → take 65536 hops ≡ []
few_none hops e = let l : length hops ≤ 65536 = rw e (omega arith) in take_all 65536 hops l ∙ e

no_wires : (web : Web) (node : ℕ) → slice_get (feed_hops web node 0) 0 ≡ None → wires_to web node 0 ≡ []
unfolding wires_to
no_wires web node e = few_none (feed_hops web node 0) (no_hops (feed_hops web node 0) e)

held_steady : (st : State) → held_block st ≡ steady (held_of st 0)
unfolding held_block steady
held_steady st = refl

-- without a wire the inlet has the number that it holds
inlet_held : (web : Web) (blocks : Blocks) (node : ℕ) (st : State) → slice_get (feed_hops web node 0) 0 ≡ None → held_block st ≡ inlet_block web blocks node 0 (held_of st 0)
inlet_held web blocks node st e = rw (no_wires web node e) (held_steady st)

few_held : (web : Web) (blocks : Blocks) (node : ℕ) (k : Kind) (st : State) → is_osc k ≡ true → slice_get (feed_hops web node 0) 0 ≡ None
    → few_brought web blocks node st (few_of k) (held_block st ∷ [])
few_held web blocks node (kind.Tone (tone.Osc hertz)) st osc unfed = ap (λ (b : List ℤ). b ∷ []) (inlet_held web blocks node st unfed)
few_held web blocks node (kind.Tone (tone.Phasor hertz)) st osc unfed = absurd (false≢true osc)
few_held web blocks node (kind.Tone tone.Noise) st osc unfed = absurd (false≢true osc)
few_held web blocks node (kind.Arith a) st osc unfed = absurd (false≢true osc)
few_held web blocks node (kind.Glue g) st osc unfed = absurd (false≢true osc)
few_held web blocks node (kind.Signal g) st osc unfed = absurd (false≢true osc)
few_held web blocks node (kind.Panel p) st osc unfed = absurd (false≢true osc)
few_held web blocks node kind.Vline st osc unfed = absurd (false≢true osc)
few_held web blocks node kind.Unmade st osc unfed = absurd (false≢true osc)
few_held web blocks node kind.Canvas st osc unfed = absurd (false≢true osc)

state_held : (web : Web) (blocks : Blocks) (node : ℕ) (k : Kind) (s : Option State) → is_osc k ≡ true → IsSome s → slice_get (feed_hops web node 0) 0 ≡ None
    → state_brought web blocks node k s (held_blocks s)
state_held web blocks node k None osc there unfed = absurd (false≢true there)
state_held web blocks node k (Some st) osc there unfed = few_held web blocks node k st osc unfed

pub held_brought : (web : Web) (blocks : Blocks) (node : ℕ) (o : Option Node) → IsUnfed web node o → AreBrought web blocks node o (held_blocks (state_in o))
held_brought web blocks node None h = absurd (false≢true h.osc)
held_brought web blocks node (Some n) h = state_held web blocks node n.kind n.state h.osc h.there h.unfed

-- an `osc~` has run where it stands
pub held_states : (p : Patch) (node start : ℕ) (n n2 : Node) (block : List ℤ) → get p.grove.nodes node ≡ Some n
    → record { node = n2; block = block } ≡ box_given start n (held_blocks n.state)
    → record { states = states_of (with_box p node n2); block = block } ≡ given_at start (states_of p) node (get p.grove.nodes node) (held_blocks (states_of p node))
held_states p node start n n2 block is ran =
    given_states p node start n n2 (held_blocks n.state) block is ran
    ∙ ap (λ (o : Option Node). given_at start (states_of p) node (get p.grove.nodes node) (held_blocks (state_in o))) (sym is)
