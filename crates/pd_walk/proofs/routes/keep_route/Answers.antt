use Rattle.std.proofs.Common.{rules, arith, ◌≡◌, ◌<◌, ℕ, zero, suc, ◌%◌, List, [], ◌∷◌, length, refl}
use Rattle.std.specs.Prelude.{slice_get, slice_set, Some}
use Rattle.pd_walk.specs.declared.routes.Route.{Route}
use Rattle.pd_walk.proofs.routes.keep_route.Goals as goal

-- what is put at a place is there
placed : {A : Type 0} (xs : List A) (i : ℕ) (x : A) → i < length xs → slice_get (slice_set xs i x) i ≡ Some x
placed [] i x less = absurd (omega arith)
placed (y ∷ ys) zero x less = refl
placed (y ∷ ys) (suc i) x less = placed ys i x (omega arith)

pub returns-clause-route : goal.returns-clause-route
returns-clause-route c =
    let r : Route = record { node = c.from.result; to = c.end_at-to.result.0; inlet = c.end_at-to.result.1 } in
    record {
      route = r;
      at = placed c.args.routes.now (c.args.node % 256) r (rw c.told-routes (omega arith));
      is = record {
        hop = c.args.hop;
        only = c.requires.only;
        to = search rules;
        inlet = search rules;
      };
    }
