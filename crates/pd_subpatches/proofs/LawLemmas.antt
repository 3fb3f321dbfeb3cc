-- A patch goes on to run where a box came with an empty canvas inside.
use Rattle.std.proofs.Common.{◌≡◌, ℕ, List, refl, sym, subst}
use Rattle.pd_atom.specs.Names.{Names}
use Rattle.pd_clock.specs.declared.times.Rate.{Rate}
use Rattle.pd_object.specs.declared.kinds.Kind.{Kind}
use Rattle.pd_object.specs.declared.kinds.Kind.TheVariants as kind
use Rattle.pd_object.specs.Ports.{IsSmallKind}
use Rattle.pd_grove.specs.declared.seeds.Seed.{Seed}
use Rattle.pd_patch.specs.declared.patch.Patch.{Patch}
use Rattle.pd_patch.specs.Built.{IsBuilt}
use Rattle.pd_boxes.specs.declared.room.Place.{Place}
use Rattle.pd_boxes.specs.Put.{node_of, CanPut, IsPut}
use Rattle.pd_boxes.proofs.BuiltLemmas.{still_put, runs_on}
use Rattle.pd_subpatches.specs.Shell.{ShellComesIn, IsShellPut}
use Rattle.pd_subpatches.proofs.BeforeLemmas.{before, opened, none, put}
use Rattle.pd_subpatches.proofs.RunLemmas.{Opens, can_after, built_after}

pub small_canvas : (k : Kind) → k ≡ kind.Canvas → IsSmallKind k
small_canvas k e = subst (λ (x : Kind). IsSmallKind x) (sym e) tt

-- the box that came alone gets its canvas
pub opens : (p q : Patch) (table : Names) (place : Place) (s : Seed) (key : ℕ) (C : ShellComesIn p q table place s key) (plain : s.row.kind ≡ kind.Canvas)
    → Opens (before p q table place s key C plain) q key C.canvas (node_of place.canvas s) C.board
opens p q table place s key C plain = record {
  canvas = opened p q table place s key C plain;
  plain = plain;
  root = refl;
  web = refl;
  names = refl;
  links = refl;
  numbers = refl;
  values = refl;
  timers = refl;
  rate = refl;
}

module _ (p q : Patch) (table : Names) (place : Place) (s : Seed) (key : ℕ) (P : CanPut p) (plain : s.row.kind ≡ kind.Canvas) (I : IsShellPut p q table place s key) where
  alone : IsPut p (before p q table place s key I.comes plain) table place s key
  alone = put p q table place s key I.comes plain P.forest P.runs

  can_alone : CanPut (before p q table place s key I.comes plain)
  can_alone = still_put p (before p q table place s key I.comes plain) table place s key alone.comes P.forest P.runs alone.order alone.other_orders
      (none p q table place s key I.comes plain) (small_canvas s.row.kind plain) P.small P.apart

  pub can_more : CanPut q
  can_more = can_after (before p q table place s key I.comes plain) q key I.comes.canvas (node_of place.canvas s) I.comes.board (opens p q table place s key I.comes plain)
      place.canvas refl can_alone.forest can_alone.runs.orders I.order I.own_order I.other_orders can_alone

  pub goes_on : (file : List ℕ) (rate : Rate) → IsBuilt p table file rate → IsBuilt q table file rate
  goes_on file rate b = built_after (before p q table place s key I.comes plain) q key I.comes.canvas (node_of place.canvas s) I.comes.board (opens p q table place s key I.comes plain)
      place.canvas refl can_alone.forest can_alone.runs.orders I.order I.own_order I.other_orders table file rate
      (runs_on p (before p q table place s key I.comes plain) table place s key alone.comes P.forest P.runs alone.order alone.other_orders
      (none p q table place s key I.comes plain) file rate b)
