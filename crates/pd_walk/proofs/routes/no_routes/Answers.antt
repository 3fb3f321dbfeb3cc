use Rattle.std.proofs.Common.{arith, ◌≡◌, ℕ, zero, suc, replicate, ap}
use Rattle.std.specs.Prelude.{Some}
use Rattle.std.specs.List.{slice_get}
use Rattle.pd_walk.specs.declared.routes.Route.{Route}
use Rattle.pd_walk.proofs.routes.no_routes.Goals as goal

-- each of a number of copies is the one copied
same-each : (n : ℕ) (x : Route) (k : ℕ) (r : Route) → slice_get (replicate n x) k ≡ Some r → r ≡ x
same-each zero x zero r e = cc
same-each zero x (suc k) r e = cc
same-each (suc n) x zero r e = cc
same-each (suc n) x (suc k) r e = same-each n x k r e

pub returns : goal.returns
returns c = λ web. record {
  each = λ k r at known. let same : r.node ≡ c.no_route.result.node = ap (λ (x : Route). x.node) (same-each 256 c.no_route.result k r at) in absurd (omega (arith, known, same, c.no_route.ensures));
}
