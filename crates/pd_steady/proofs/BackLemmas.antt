-- Wires at a box come back: each box stays, and what is said of the wires to inlets and of blocks is still so, where there are no more wires than a patch
-- may have.
use Rattle.std.proofs.Common.{arith, ◌≡◌, ◌⊎◌, ◌≤◌, ◌+◌, ℕ, List, [], ◌∷◌, length, Option, sym, ap, subst}
use Rattle.slab.specs.Slab.{get}
use Rattle.pd_grove.specs.declared.grove.Grove.{Grove}
use Rattle.pd_grove.specs.declared.nodes.Node.{Node}
use Rattle.pd_grove.specs.declared.ports.Side.TheVariants.{Outlets}
use Rattle.pd_web.specs.Changes.{wires_told, KeepsPorts}
use Rattle.pd_web.proofs.CountLemmas.{joined_is_one_more}
use Rattle.pd_patch.specs.declared.patch.Patch.{Patch}
use Rattle.pd_patch.specs.Fed.{AreFed}
use Rattle.pd_turning.specs.Returns.{Back, AreBack, Tightens}
use Rattle.pd_guards.specs.Sounds.{AreValues}
use Rattle.pd_sized.specs.Sizes.{IsBlock}
use Rattle.pd_stage.proofs.FedLemmas.{joined_fed}
use Rattle.pd_steady.proofs.LooseLemmas.{still_blocks, still_all}
use Rattle.pd_steady.proofs.NewLemmas.{IsNew, HasNew}

-- one after the other
back_fed : (box : ℕ) (p : Patch) (back : List Back) (q : Patch) → AreBack box p back q → wires_told q.web ≤ 65536 → AreFed p.web → AreFed q.web
back_fed box p [] q e few h = subst (λ (x : Patch). AreFed x.web) (sym e) h
back_fed box p (x ∷ xs) q g few h =
    let c = g.0 in
    let more : wires_told q.web ≡ wires_told x.before.web + 1 = joined_is_one_more x.before.web q.web x.key x.line c.fan_place c.place c.joins in
    joined_fed x.before.web q.web x.key x.line c.fan_place c.place c.joins (back_fed box p xs x.before g.1 (omega (arith, more, few)) h) (omega (arith, more, few))

module _ (p q : Patch) (box steps steps' : ℕ) (t : Tightens p q box steps steps') where
  -- there are no fewer wires
  fewer : wires_told q.web ≤ 65536 → wires_told p.web ≤ 65536
  fewer few = let more : wires_told q.web ≡ wires_told p.web + length t.back = t.count in omega (arith, more, few)

  -- each box stays
  pub back_node : (k : ℕ) → get q.grove.nodes k ≡ get p.grove.nodes k
  back_node k = ap (λ (g : Grove). get g.nodes k) t.rest.grove

  -- new boxes stand as before
  pub back_new : KeepsPorts p.web q.web → (o : Patch) (P : ℕ → Node → Type 0) → HasNew o p P → HasNew o q P
  back_new kept o P new = record {
    each = λ k. subst (λ (n : Option Node). (n ≡ get o.grove.nodes k) ⊎ IsNew (P k) n) (sym (back_node k)) (new.each k);
    fed = λ few h. back_fed box p t.back q t.one_by_one few (new.fed (fewer few) h);
    blocks = λ h. still_blocks p q t.rest.grove t.rest.values (kept.ports Outlets) (new.blocks h);
    values = λ h. still_all p q t.rest.grove t.rest.values (kept.ports Outlets) AreValues (new.values h);
    sizes = λ h. still_all p q t.rest.grove t.rest.values (kept.ports Outlets) IsBlock (new.sizes h);
  }
