-- Along the wires at a port.
use Rattle.std.proofs.Common.{◌≡◌, ℕ}
use Rattle.std.specs.Prelude.{slice_get, Some}
use Rattle.pd_grove.specs.declared.ports.Side.{Side}
use Rattle.pd_grove.specs.declared.ports.Side.TheVariants.{Inlets, Outlets}
use Rattle.pd_web.specs.declared.web.Web.{Web}
use Rattle.pd_web.specs.Hops.{fan_keys, feed_keys}
use Rattle.pd_taking.specs.Loosening.{hops_at}
use Rattle.pd_misfits.proofs.WalkLemmas.{fan_once, feed_once, AreOnce}

pub port_once : (w : Web) → ((node outlet i j k : ℕ) → slice_get (fan_keys w node outlet) i ≡ Some k → slice_get (fan_keys w node outlet) j ≡ Some k → i ≡ j)
    → ((node inlet i j k : ℕ) → slice_get (feed_keys w node inlet) i ≡ Some k → slice_get (feed_keys w node inlet) j ≡ Some k → i ≡ j)
    → (side : Side) (node port : ℕ) → AreOnce (hops_at w side node port)
port_once w fans feeds Inlets node port = feed_once w node port (feeds node port)
port_once w fans feeds Outlets node port = fan_once w node port (fans node port)
