-- Tables that draw a canvas's graph.
use Rattle.std.proofs.Common.{◌≡◌, ℕ, ◌<◌, ◌≤◌, List, [], ◌∷◌, map, get_or, ◌∙◌, ap, arith}
use Rattle.pd_order.specs.Graph.{tally}
use Rattle.pd_chain.specs.declared.entries.Entry.{Entry}
use Rattle.pd_chain.specs.declared.graph.SignalWire.{SignalWire}
use Rattle.pd_chain.specs.Entries.{values_at, numbered}
use Rattle.pd_chain.specs.Wires.{place_of, entry_into, entry_from}
use Rattle.pd_chain.specs.Tables.{graph_in, Draws}
use Rattle.pd_chain.proofs.PlaceLemmas.{numbered_one, alone_first}
use Rattle.pd_chain.proofs.WireLemmas.{values_into, values_from}

-- the values under each key are the same in both, in any order
abbrev pub IsMoved : List Entry → List Entry → Type 0
IsMoved es fs = (x u : ℕ) → tally u (values_at fs x) ≡ tally u (values_at es x)

pub ranked : (ps es : List Entry) (ns : List ℕ) → ((x : ℕ) → tally x ns ≤ 1) → IsMoved es ps → es ≡ numbered 0 ns → (x : ℕ) → 0 < tally x ns → get_or (values_at ps x) 0 0 ≡ place_of ns x
ranked ps es ns once m e x h =
    let o : tally x ns ≤ 1 = once x in
    let n : values_at (numbered 0 ns) x ≡ place_of ns x ∷ [] = numbered_one 0 (place_of ns x) ns x (omega arith) (omega arith) in
    alone_first (values_at ps x) (place_of ns x) (λ u. m x u ∙ ap (λ (l : List Entry). tally u (values_at l x)) e ∙ ap (tally u) n)

pub tables_draw : (ps fs os ps' fs' os' : List Entry) (ns : List ℕ) (ws : List SignalWire) → ((x : ℕ) → tally x ns ≤ 1) →
    IsMoved ps' ps → ps' ≡ numbered 0 ns → IsMoved fs' fs → fs' ≡ map entry_into ws → IsMoved os' os → os' ≡ map entry_from ws →
    Draws (graph_in (record { places = ps; feeders = fs; followers = os })) ns ws
tables_draw ps fs os ps' fs' os' ns ws once mp ep mf ef mo eo = record {
  ranks = λ x h. ranked ps ps' ns once mp ep x h;
  feeders = λ x u. mf x u ∙ ap (λ (l : List Entry). tally u (values_at l x)) ef ∙ ap (tally u) (values_into ws x);
  followers = λ x u. mo x u ∙ ap (λ (l : List Entry). tally u (values_at l x)) eo ∙ ap (tally u) (values_from ws x);
}
