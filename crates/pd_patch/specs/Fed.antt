-- The wires to inlets.
use Rattle.std.specs.Prelude.{ℕ, ◌<◌, ◌≤◌, List, map, length, IsSome}
use Rattle.pd_order.specs.Graph.{tally}
use Rattle.pd_web.specs.declared.web.Hop.{Hop}
use Rattle.pd_web.specs.declared.web.Web.{Web}
use Rattle.pd_web.specs.Hops.{feed_hops}
use Rattle.pd_web.specs.Changes.{line_told}

-- the keys of wires
abbrev pub keys_of : List Hop → List ℕ
keys_of hops = map (λ h. h.key) hops

-- What stands among the wires to an inlet is a wire, and stands there once; and no inlet has more wires than a patch may have.
pub record AreFed (w : Web) : Type 0 where
  pub live : (node inlet key : ℕ) → 0 < tally key (keys_of (feed_hops w node inlet)) → IsSome (line_told w key)
  pub once : (node inlet key : ℕ) → tally key (keys_of (feed_hops w node inlet)) ≤ 1
  pub few : (node inlet : ℕ) → length (feed_hops w node inlet) ≤ 65536
