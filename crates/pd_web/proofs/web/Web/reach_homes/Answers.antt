use Rattle.std.proofs.Common.{refl, ap, arith}
use Rattle.std.specs.Prelude.{option_map}
use Rattle.pd_web.specs.Hops.{place_of}
use Rattle.pd_web.proofs.web.Web.reach_homes.Goals as goal

pub returns-clause-same : goal.returns-clause-same
returns-clause-same c =
    let same = c.lengthen_homes.ensures.same in
    record {
      kept = record { ports = λ side k. refl; made = λ k. refl; homes = λ j. ap (option_map place_of) (same.told j) };
      lines = λ k. refl;
      fans = λ node outlet. refl;
      feeds = λ node inlet. refl;
    }

pub returns-clause-kept : goal.returns-clause-kept
returns-clause-kept c = λ k p n h.
    let longer = c.lengthen_homes.ensures.same.longer in
    let homes = h.homes in
    record { boxes = h.boxes; homes = omega (arith, longer, homes); ends = h.ends; wires = h.wires }
