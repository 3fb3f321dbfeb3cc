-- The keys of a box that came in which no boxes lie: it is alone.
use Rattle.std.proofs.Common.{◌≡◌, ℕ, List, [], ◌∷◌, ◌++◌, Option, Some, IsSome, refl, sym, ap, ◌∙◌, subst}
use mathlib.Core.Logic.{⊎_elim}
use Rattle.slab.specs.Slab.{get}
use Rattle.pd_atom.specs.Names.{Names}
use Rattle.pd_grove.specs.declared.grove.Grove.{Grove}
use Rattle.pd_grove.specs.declared.ports.Side.{Side}
use Rattle.pd_grove.specs.declared.seeds.Seed.{Seed}
use Rattle.pd_grove.specs.Telling.{inner_in, keys_in}
use Rattle.pd_owning.specs.Parts.{part_keys}
use Rattle.pd_owning.proofs.PartKeyLemmas.{alone_bare, alone_empty}
use Rattle.pd_patch.specs.declared.patch.Patch.{Patch}
use Rattle.pd_boxes.specs.declared.room.Place.{Place}
use Rattle.pd_boxes.specs.Put.{ComesIn, IsNoPort}
use Rattle.pd_following.specs.Ports.{IsPortPut}
use Rattle.pd_subpatches.specs.Shell.{ShellComesIn}
use Rattle.pd_adding.specs.Growing.{Added}
use Rattle.pd_putting.specs.Adds.{keys_within, last_place, IsBoxPut, IsSubPut, IsPortBoxPut}
use Rattle.pd_putting.specs.Places.{PutsAt, PutsLeafAt, PutsPortAt, PutsSubAt}

some_there : {A : Type 0} (o : Option A) (x : A) → o ≡ Some x → IsSome o
some_there o x e = subst (λ y. IsSome y) (sym e) refl

comes_alone : (p q : Patch) (table : Names) (place : Place) (s : Seed) (key : ℕ) → ComesIn p q table place s key → keys_within q key ≡ key ∷ []
comes_alone p q table place s key I =
    alone_bare (get q.grove.nodes) (get q.grove.boards) key (some_there (get q.grove.nodes key) _ I.grove.is) (ap inner_in I.grove.is ∙ I.grove.bare)

shell_alone : (p q : Patch) (table : Names) (place : Place) (s : Seed) (key : ℕ) → ShellComesIn p q table place s key → keys_within q key ≡ key ∷ []
shell_alone p q table place s key I =
    alone_empty (get q.grove.nodes) (get q.grove.boards) key I.canvas (some_there (get q.grove.nodes key) _ I.grove.canvas.is) (ap inner_in I.grove.canvas.is)
    (ap keys_in I.grove.canvas.opened ∙ I.grove.canvas.empty)

port_alone : (p q : Patch) (table : Names) (place : Place) (s : Seed) (key holder : ℕ) (side : Side) → IsPortPut p q table place s key holder side → keys_within q key ≡ key ∷ []
port_alone p q table place s key holder side I =
    ap (λ (g : Grove). part_keys (get g.nodes) (get g.boards) key) I.rest.grove ∙ comes_alone p I.ready table place s key I.comes

pub leaf_at_alone : (p q : Patch) (table : Names) (place : Place) (s : Seed) (key : ℕ) → PutsLeafAt p q table place s key → keys_within q key ≡ key ∷ []
leaf_at_alone p q table place s key L = ⊎_elim
    (λ (b : IsNoPort p place s.row.kind × PutsAt p q table place s key). comes_alone b.1.ready q table place s key b.1.put.comes)
    (λ (o : PutsPortAt p q table place s key). port_alone o.ready q table place s key o.holder o.side o.put) L

pub sub_at_alone : (p q : Patch) (table : Names) (place : Place) (s : Seed) (key : ℕ) → PutsSubAt p q table place s key → keys_within q key ≡ key ∷ []
sub_at_alone p q table place s key L = shell_alone L.ready q table place s key L.put.comes

-- so its key alone is told
pub told_alone : (xs : List ℕ) (key : ℕ) (keys : List ℕ) → xs ≡ [] → keys ≡ key ∷ [] → xs ++ key ∷ [] ≡ keys
told_alone xs key keys none alone = ap (λ (ks : List ℕ). ks ++ key ∷ []) none ∙ sym alone

-- so it is of what an edit put
module _ (p q : Patch) (now : ℕ) (a : Added) (key : ℕ) where
  pub box_alone : IsBoxPut p q now a key → keys_within q key ≡ key ∷ []
  box_alone P = comes_alone P.ready q a.known.names (last_place p a.canvas) P.seed key P.put.comes

  pub sub_alone : IsSubPut p q now a key → keys_within q key ≡ key ∷ []
  sub_alone P = shell_alone P.ready q a.known.names (last_place p a.canvas) P.seed key P.put.comes

  pub port_box_alone : IsPortBoxPut p q now a key → keys_within q key ≡ key ∷ []
  port_box_alone P = port_alone P.ready q a.known.names (last_place p a.canvas) P.seed key P.port.holder P.port.side P.put
