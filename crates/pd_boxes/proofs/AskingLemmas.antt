-- What a box that comes asks, of patches that are alike but for what boxes keep, of one whose wires differ, and of one that runs.
use Rattle.std.proofs.Common.{◌≡◌, ℕ, Option, Some, None, IsSome, refl, sym, ap, ◌∙◌, subst, List}
use Rattle.std.specs.Prelude.{option_map}
use Rattle.std.proofs.lemmas.Option.{none-some, same_Some}
use Rattle.slab.specs.Slab.{Slab, get}
use Rattle.pd_atom.specs.Names.{Names}
use Rattle.pd_clock.specs.declared.times.Rate.{Rate}
use Rattle.pd_object.specs.declared.kinds.Kind.{Kind}
use Rattle.pd_object.specs.Ports.{IsSmallKind}
use Rattle.pd_grove.specs.declared.nodes.Node.{Node}
use Rattle.pd_grove.specs.declared.boards.Board.{Board}
use Rattle.pd_grove.specs.declared.grove.Grove.{Grove}
use Rattle.pd_grove.specs.Standing.{depth_of}
use Rattle.pd_grove.specs.Owning.{board_in}
use Rattle.pd_grove.specs.Telling.{inner_in, keys_in, with_state}
use Rattle.pd_grove.specs.Forest.{IsForest, holder_in}
use Rattle.pd_grove.proofs.OpenLemmas.{forest_alike}
use Rattle.pd_bind.specs.Owning.{root_owner}
use Rattle.pd_web.specs.Jacks.{KindsSmall}
use Rattle.pd_patch.specs.declared.patch.Patch.{Patch}
use Rattle.pd_patch.specs.Built.{IsBuilt}
use Rattle.pd_wiring.specs.Changes.{CanRewire, AreAlike}
use Rattle.pd_wiring.proofs.AlikeLemmas.{rewires_alike}
use Rattle.pd_wiring.proofs.BuiltLemmas.{runs_rewire}
use Rattle.pd_boxes.specs.Put.{CanPut}

-- a box with its state left out
abbrev bare : Option Node → Option Node
bare o = option_map (with_state None) o

board_bare : (o : Option Node) → board_in (bare o) ≡ board_in o
board_bare None = refl
board_bare (Some n) = refl

inner_bare : (o : Option Node) → inner_in (bare o) ≡ inner_in o
inner_bare None = refl
inner_bare (Some n) = refl

board_alike : (a b : Option Node) → bare a ≡ bare b → board_in a ≡ board_in b
board_alike a b e = sym (board_bare a) ∙ ap board_in e ∙ board_bare b

inner_alike : (a b : Option Node) → bare a ≡ bare b → inner_in a ≡ inner_in b
inner_alike a b e = sym (inner_bare a) ∙ ap inner_in e ∙ inner_bare b

none_alike : (a b : Option Node) → bare a ≡ bare b → b ≡ None → a ≡ None
none_alike None b e none = refl
none_alike (Some m) None e none = absurd (none-some (with_state None m) (sym e))
none_alike (Some m) (Some n) e none = absurd (none-some n (sym none))

small_alike : (a b : Option Node) → bare a ≡ bare b → ((n : Node) → b ≡ Some n → IsSmallKind n.kind) → (n : Node) → a ≡ Some n → IsSmallKind n.kind
small_alike None b e small n is = absurd (none-some n is)
small_alike (Some m) None e small n is = absurd (none-some (with_state None m) (sym e))
small_alike (Some m) (Some x) e small n is =
    let kinds : x.kind ≡ n.kind = sym (ap (λ (y : Node). y.kind) (same_Some (with_state None m) (with_state None x) e)) ∙ ap (λ (y : Node). y.kind) (same_Some m n is) in
    subst (λ (kind : Kind). IsSmallKind kind) kinds (small x refl)

pub put_alike : (p q : Patch) → AreAlike p q → q.grove.root ≡ p.grove.root → CanPut p → CanPut q
put_alike p q A root P = record {
  forest = subst (λ (r : ℕ). IsForest (get q.grove.nodes) (get q.grove.boards) r) (sym root)
      (forest_alike (get p.grove.nodes) (get q.grove.nodes) (get p.grove.boards) (get q.grove.boards) p.grove.root
      (record {
        lie = λ k. board_alike (get q.grove.nodes k) (get p.grove.nodes k) (A.nodes k);
        hold = λ k. inner_alike (get q.grove.nodes k) (get p.grove.nodes k) (A.nodes k);
        keys = λ c. ap (λ (s : Slab Board). keys_in (get s c)) A.boards;
        holders = λ c. ap (λ (s : Slab Board). holder_in (get s c)) A.boards;
        depths = λ c. ap (λ (s : Slab Board). depth_of (get s c)) A.boards;
        live = λ c h. subst (λ (s : Slab Board). IsSome (get s c)) (sym A.boards) h;
        no_more = λ c h. subst (λ (s : Slab Board). IsSome (get s c)) A.boards h;
      })
      P.forest);
  small = λ k n is. small_alike (get q.grove.nodes k) (get p.grove.nodes k) (A.nodes k) (λ m was. P.small k m was) n is;
  apart = none_alike (get q.grove.nodes root_owner) (get p.grove.nodes root_owner) (A.nodes root_owner) P.apart;
  runs = rewires_alike p q A P.runs;
}

pub put_rewired : (p q : Patch) → q.grove ≡ p.grove → CanRewire q → CanPut p → CanPut q
put_rewired p q same R P = record {
  forest = subst (λ (g : Grove). IsForest (get g.nodes) (get g.boards) g.root) (sym same) P.forest;
  small = subst (λ (g : Grove). KindsSmall g) (sym same) P.small;
  apart = subst (λ (g : Grove). get g.nodes root_owner ≡ None) (sym same) P.apart;
  runs = R;
}

pub put_own : (p : Patch) → IsForest (get p.grove.nodes) (get p.grove.boards) p.grove.root → KindsSmall p.grove → (names : Names) (file : List ℕ) (rate : Rate) → IsBuilt p names file rate → CanPut p
put_own p F S names file rate b = record { forest = F; small = S; apart = b.apart; runs = runs_rewire p names file rate b }
