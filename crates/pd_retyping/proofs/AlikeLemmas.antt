-- Which box can become another one in its place.
use Rattle.std.proofs.Common.{◌≡◌, ℕ, Bool, true, false, ◌||◌, not, is_some, Option, Some, None, inl, inr, refl, sym, ◌∙◌}
use Rattle.std.proofs.lemmas.Bool.{true≢false}
use mathlib.Core.Logic.{⊎_elim}
use Rattle.slab.specs.Slab.{get}
use Rattle.pd_object.specs.declared.kinds.Kind.{Kind}
use Rattle.pd_grove.specs.declared.ports.Side.{Side}
use Rattle.pd_grove.specs.declared.ports.Side.TheVariants.{Inlets, Outlets}
use Rattle.pd_grove.specs.Forest.{holder_in}
use Rattle.pd_grove.specs.Ports.{port_signal}
use Rattle.pd_patch.specs.declared.patch.Patch.{Patch}
use Rattle.pd_refitting.specs.Refits.{IsPlainIn}

pub none_of : {A : Type 0} (o : Option A) → is_some o ≡ false → o ≡ None
none_of None h = refl
none_of (Some a) h = cc

pub not_none : {A : Type 0} (o : Option A) → is_some o ≡ true → o ≡ None → ⊥
not_none None h e = cc
not_none (Some a) h e = cc

both_no : (a b : Bool) → (a || b) ≡ false → (a ≡ false) × (b ≡ false)
both_no true b h = cc
both_no false true h = cc
both_no false false h = (refl, refl)

no_sides : (k : Kind) → (is_some (port_signal Inlets k) || is_some (port_signal Outlets k)) ≡ false → (side : Side) → port_signal side k ≡ None
no_sides k h Inlets = none_of (port_signal Inlets k) (both_no (is_some (port_signal Inlets k)) (is_some (port_signal Outlets k)) h).0
no_sides k h Outlets = none_of (port_signal Outlets k) (both_no (is_some (port_signal Inlets k)) (is_some (port_signal Outlets k)) h).1

not_true : (b : Bool) → not b ≡ true → b ≡ false
not_true true h = cc
not_true false h = refl

not_false : (b : Bool) → not b ≡ false → b ≡ true
not_false true h = refl
not_false false h = cc

module _ (p : Patch) (canvas : ℕ) (k : Kind) where
  abbrev held : Bool
  held = is_some (holder_in (get p.grove.boards canvas))

  abbrev port : Bool
  port = is_some (port_signal Inlets k) || is_some (port_signal Outlets k)

  pub free_plain : (b : Bool) → b ≡ held → b ≡ false → IsPlainIn p canvas k
  free_plain b is h = inl (none_of (holder_in (get p.grove.boards canvas)) (sym is ∙ h))

  pub no_port_plain : (b : Bool) → b ≡ port → not b ≡ true → IsPlainIn p canvas k
  no_port_plain b is h = inr (no_sides k (sym is ∙ not_true b h))

  port_no : ((side : Side) → port_signal side k ≡ None) → port ≡ false
  port_no h = λ i. is_some (h Inlets i) || is_some (h Outlets i)

  pub port_not_plain : (b c : Bool) → b ≡ held → b ≡ true → c ≡ port → not c ≡ false → IsPlainIn p canvas k → ⊥
  port_not_plain b c is h same other P = ⊎_elim
      (λ (a : holder_in (get p.grove.boards canvas) ≡ None). not_none (holder_in (get p.grove.boards canvas)) (sym is ∙ h) a)
      (λ (a : (side : Side) → port_signal side k ≡ None). true≢false (sym (sym same ∙ not_false c other) ∙ port_no a)) P
