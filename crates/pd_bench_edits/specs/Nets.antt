-- The signal boxes of a canvas under keys of which the first, 0, is that of a box without signals.
use Rattle.std.specs.Prelude.{ℕ, ◌+◌, ◌<◌, ◌^◌, List, length}
use Rattle.pd_order.specs.Graph.{take_out}
use Rattle.pd_order.specs.Wired.{numbers_below}
use Rattle.pd_links.specs.declared.links.Links.{Links}
use Rattle.pd_links.specs.Linked.{feeders_of, followers_of}

-- the numbers below n but 0
abbrev pub behind : ℕ → List ℕ
behind n = take_out 0 (numbers_below n)

-- one wire more may be between these two of the boxes with keys below n
pub record MayJoin (n : ℕ) (links : Links) (source sink : ℕ) : Type 0 where
  pub source_behind : 0 < source
  pub source_within : source < n
  pub sink_behind : 0 < sink
  pub sink_within : sink < n
  pub few_from : length (followers_of links source) + 2 < 2 ^ 32
  pub few_into : length (feeders_of links sink) + 2 < 2 ^ 32
