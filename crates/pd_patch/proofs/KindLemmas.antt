-- Which kinds have ports that carry signals.
use Rattle.std.proofs.Common.{◌≡◌, ℕ, zero, suc, ◌-◌, ◌==◌, true, false, map, length, refl, subst}
use Rattle.std.specs.Prelude.{Option, Some, None, slice_get, replicate}
use Rattle.pd_object.specs.declared.kinds.Kind.{Kind}
use Rattle.pd_object.specs.declared.kinds.Kind.TheVariants as kind
use Rattle.pd_object.specs.declared.kinds.Arith.{Arith}
use Rattle.pd_object.specs.declared.kinds.Arith.TheVariants as arith_kind
use Rattle.pd_object.specs.declared.kinds.Glue.{Glue}
use Rattle.pd_object.specs.declared.kinds.Glue.TheVariants as glue
use Rattle.pd_object.specs.declared.kinds.Side.TheVariants as side
use Rattle.pd_object.specs.Ports.{Ports, arith_ports, glue_ports, choice_ports, ports_of}
use Rattle.pd_order.proofs.Basics.{by_test}
use Rattle.pd_tree.specs.Ports.{signals}
use Rattle.pd_grove.specs.declared.nodes.Node.{Node}
use Rattle.pd_grove.specs.declared.grove.Grove.{Grove}
use Rattle.pd_grove.specs.declared.ports.Side.{Side}
use Rattle.pd_grove.specs.declared.ports.Side.TheVariants.{Inlets, Outlets}
use Rattle.pd_web.specs.Hops.{signal_in}
use Rattle.pd_web.specs.Jacks.{plain_jack, kind_jacks, jacks_in}
use Rattle.pd_patch.specs.Orders.{is_signal, is_signal_node}

-- no port carries signals
abbrev IsControl : Ports → Type 0
IsControl p = (p.signal_inlets ≡ 0) × (p.signal_outlets ≡ 0)

arith_control : (a : Arith) → IsControl (arith_ports a)
arith_control (arith_kind.Operation o z) = (refl, refl)
arith_control (arith_kind.Comparison c z) = (refl, refl)
arith_control (arith_kind.Division d z) = (refl, refl)
arith_control (arith_kind.Function f) = (refl, refl)
arith_control (arith_kind.Clip l h) = (refl, refl)

choice_control : (n : ℕ) → IsControl (choice_ports n)
choice_control n = by_test (n == 1) (λ t. rw t (refl, refl)) (λ f. rw f (refl, refl))

glue_control : (g : Glue) → IsControl (glue_ports g)
glue_control (glue.Message t) = (refl, refl)
glue_control (glue.FloatBox t) = (refl, refl)
glue_control (glue.SymbolBox t) = (refl, refl)
glue_control glue.Comment = (refl, refl)
glue_control (glue.Array t vs) = (refl, refl)
glue_control (glue.Bang w) = (refl, refl)
glue_control (glue.Float w z) = (refl, refl)
glue_control (glue.Int w z) = (refl, refl)
glue_control (glue.Symbol s) = (refl, refl)
glue_control (glue.Trigger w outs) = (refl, refl)
glue_control (glue.Pack slots) = (refl, refl)
glue_control (glue.Unpack slots) = (refl, refl)
glue_control (glue.Route args) = choice_control (length args)
glue_control (glue.Select w args) = choice_control (length args)
glue_control (glue.Moses z) = (refl, refl)
glue_control (glue.Spigot z) = (refl, refl)
glue_control (glue.Swap z) = (refl, refl)
glue_control (glue.Change z) = (refl, refl)
glue_control glue.Until = (refl, refl)
glue_control glue.Loadbang = (refl, refl)
glue_control (glue.Print ws) = (refl, refl)
glue_control (glue.Send w name) = (refl, refl)
glue_control (glue.Receive w name) = (refl, refl)
glue_control (glue.Metro z) = (refl, refl)
glue_control (glue.Delay w z) = (refl, refl)
glue_control glue.Timer = (refl, refl)
glue_control (glue.Random z) = (refl, refl)
glue_control (glue.ListAppend w atoms) = (refl, refl)
glue_control (glue.ListPrepend atoms) = (refl, refl)
glue_control (glue.ListSplit z) = (refl, refl)
glue_control glue.ListTrim = (refl, refl)
glue_control glue.ListLength = (refl, refl)
glue_control (glue.Port side.Inlet) = (refl, refl)
glue_control (glue.Port side.Outlet) = (refl, refl)
glue_control (glue.Table name z) = (refl, refl)
glue_control (glue.Tabread name) = (refl, refl)
glue_control (glue.Tabwrite name) = (refl, refl)

none_signal : (n i : ℕ) → signal_in (slice_get (map plain_jack (replicate n false)) i) ≡ true → ⊥
none_signal zero i h = cc
none_signal (suc n) zero h = cc
none_signal (suc n) (suc i) h = none_signal n i h

none_first : (first n i : ℕ) → first ≡ 0 → signal_in (slice_get (map plain_jack (signals first n)) i) ≡ true → ⊥
none_first first n i e h = none_signal (n - 0) i (subst (λ f. signal_in (slice_get (map plain_jack (signals f n)) i) ≡ true) e h)

control_none : (on : Side) (k : Kind) (i : ℕ) → IsControl (ports_of k) → signal_in (slice_get (kind_jacks on k) i) ≡ true → ⊥
control_none Inlets k i c h = none_first (ports_of k).signal_inlets (ports_of k).inlets i c.0 h
control_none Outlets k i c h = none_first (ports_of k).signal_outlets (ports_of k).outlets i c.1 h

signal_kind : (on : Side) (k : Kind) (i : ℕ) → signal_in (slice_get (kind_jacks on k) i) ≡ true → is_signal k ≡ true
signal_kind on (kind.Arith a) i h = absurd (control_none on (kind.Arith a) i (arith_control a) h)
signal_kind on (kind.Glue g) i h = absurd (control_none on (kind.Glue g) i (glue_control g) h)
signal_kind on (kind.Tone t) i h = refl
signal_kind on (kind.Signal s) i h = refl
signal_kind on (kind.Panel p) i h = absurd (control_none on (kind.Panel p) i (refl, refl) h)
signal_kind on kind.Vline i h = refl
signal_kind on kind.Unmade i h = absurd (control_none on kind.Unmade i (refl, refl) h)
signal_kind on kind.Canvas i h = absurd (control_none on kind.Canvas i (refl, refl) h)

by_parts : (on : Side) (g : Grove) (n : Node) (inner : Option ℕ) (i : ℕ) → n.inner ≡ inner → signal_in (slice_get (jacks_in on g (Some n)) i) ≡ true → is_signal_node (Some n) ≡ true
by_parts on g n (Some c) i e h = rw e refl
by_parts on g n None i e h = rw e (signal_kind on n.kind i (rw e at h))

-- a box with a port that carries signals stands in the signal order
pub signal_node : (on : Side) (g : Grove) (o : Option Node) (i : ℕ) → signal_in (slice_get (jacks_in on g o) i) ≡ true → is_signal_node o ≡ true
signal_node on g None i h = cc
signal_node on g (Some n) i h = by_parts on g n n.inner i refl h
