use Rattle.std.proofs.Common.{◌≡◌, map, take}
use Rattle.pd_naming.specs.Naming.{channel_of}
use Rattle.pd_naming.proofs.list_words.all_channels.Given as goal

abbrev pub invariant-loop-atom : goal.invariant-loop-atom
invariant-loop-atom l = l.list.items ≡ map channel_of (take l.atom-index l.arguments)
