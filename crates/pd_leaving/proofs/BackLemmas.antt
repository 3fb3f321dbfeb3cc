-- A web in which a box has a port fewer: what stays of that with the port.
use Rattle.std.proofs.Common.{◌≡◌, ℕ, List, [], ◌∷◌, map, length, inl, inr, refl, sym, ap, ◌∙◌, subst, arith}
use Rattle.std.specs.List.{AllByRecursion}
use Rattle.std.proofs.lemmas.Bool.{cases_eq}
use Rattle.pd_grove.specs.declared.grove.Grove.{Grove}
use Rattle.pd_grove.specs.declared.ports.Side.{Side}
use Rattle.pd_grove.specs.declared.ports.Side.TheVariants.{Inlets, Outlets}
use Rattle.pd_links.specs.declared.links.Links.{Links}
use Rattle.pd_web.specs.declared.jacks.Jack.{Jack}
use Rattle.pd_web.specs.declared.web.Hop.{Hop}
use Rattle.pd_web.specs.declared.web.Web.{Web}
use Rattle.pd_web.specs.Hops.{fan_hops}
use Rattle.pd_ports.specs.Moves.{keys_at}
use Rattle.pd_patch.specs.Linked.{HasLinks, ShareCanvas, StayInside}
use Rattle.pd_taking.specs.Loosening.{hops_at}
use Rattle.pd_following.specs.Raising.{up, raised, Raises}
use Rattle.pd_following.proofs.RaiseLemmas.{hop_across, hops_keys}
use Rattle.pd_following.proofs.WireLemmas.{links_stay, wires_raised}

all_back : {X Y : Type 0} (P : X → Type 0) (Q : Y → Type 0) (f : X → Y) (xs : List X) → ((x : X) → Q (f x) → P x) → AllByRecursion Q (map f xs) → AllByRecursion P xs
all_back P Q f [] back A = tt
all_back P Q f (x ∷ xs) back A = (back x A.0, all_back P Q f xs back A.1)

inlets_inside : (w w' : Web) (key at : ℕ) (jack : Jack) → Raises w w' key Inlets at jack → (g : Grove) → StayInside g w' → StayInside g w
inlets_inside w w' key at jack X g inside u o =
    all_back (λ (h : Hop). ShareCanvas g u h.node) (λ (h : Hop). ShareCanvas g u h.node) (raised key at) (fan_hops w u o) (λ h s. s)
    (subst (AllByRecursion (λ (h : Hop). ShareCanvas g u h.node)) (X.across u o) (inside u o))

outlets_inside : (w w' : Web) (key at : ℕ) (jack : Jack) → Raises w w' key Outlets at jack → (g : Grove) → StayInside g w' → StayInside g w
outlets_inside w w' key at jack X g inside u o = elim (cases_eq u key) [
  | inr d ↦ subst (AllByRecursion (λ (h : Hop). ShareCanvas g u h.node)) (X.others u o d) (inside u o)
  | inl e ↦ subst (AllByRecursion (λ (h : Hop). ShareCanvas g u h.node)) (ap (λ x. fan_hops w' x (up at o)) e ∙ X.own o ∙ sym (ap (λ x. fan_hops w x o) e)) (inside u (up at o))
]

-- wires stay in their canvases
pub inside_lowered : (w w' : Web) (key : ℕ) (side : Side) (at : ℕ) (jack : Jack) → Raises w w' key side at jack → (g : Grove) → StayInside g w' → StayInside g w
inside_lowered w w' key Inlets at jack X = inlets_inside w w' key at jack X
inside_lowered w w' key Outlets at jack X = outlets_inside w w' key at jack X

-- and the links are the signal wires still
pub links_lowered : (w w' : Web) (key : ℕ) (side : Side) (at : ℕ) (jack : Jack) → Raises w w' key side at jack → (l : Links) → HasLinks w' l → HasLinks w l
links_lowered w w' key side at jack X = links_stay w' w (λ u. sym (wires_raised w w' key side at jack X u))

none_mapped : {X Y : Type 0} (f : X → Y) (xs : List X) → map f xs ≡ [] → xs ≡ []
none_mapped f [] e = refl
none_mapped f (x ∷ xs) e = let l = ap length e in absurd (omega (arith, l))

-- where no wire stands at a port, there is no key
pub no_keys : (w : Web) (side : Side) (n i : ℕ) → hops_at w side n i ≡ [] → keys_at w side n i ≡ []
no_keys w Inlets n i e = none_mapped (hop_across Inlets w) (keys_at w Inlets n i) (sym (hops_keys Inlets w n i) ∙ e)
no_keys w Outlets n i e = none_mapped (hop_across Outlets w) (keys_at w Outlets n i) (sym (hops_keys Outlets w n i) ∙ e)
