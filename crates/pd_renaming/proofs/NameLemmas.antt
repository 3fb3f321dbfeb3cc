-- The owners of names where a subpatch gets another text.
use Rattle.std.proofs.Common.{◌≡◌, ℕ, Bool, true, ◌&&◌, List, [], ◌∷◌, Option, Some, None, refl, sym, ap, ◌∙◌, subst}
use Rattle.std.specs.Prelude.{slice_get, option_map, if◌then◌else◌}
use Rattle.slab.specs.Slab.{get}
use Rattle.pd_atom.specs.declared.Atom.{Atom}
use Rattle.pd_atom.specs.Names.{Names}
use Rattle.pd_canvas.specs.Views.{entry_of}
use Rattle.pd_object.specs.declared.kinds.Kind.TheVariants as kind
use Rattle.pd_name.specs.declared.Class.{Class}
use Rattle.pd_name.specs.declared.Class.TheVariants.{Receiver}
use Rattle.pd_name.specs.Rows.{Row, owners_of}
use Rattle.pd_tree.specs.Trees.{Cell}
use Rattle.pd_grove.specs.declared.grove.Grove.{Grove}
use Rattle.pd_grove.specs.declared.nodes.Node.{Node}
use Rattle.pd_grove.specs.declared.spots.Spot.{Spot}
use Rattle.pd_grove.specs.Refits.{with_text, Alters}
use Rattle.pd_grove.specs.Standing.{node_seen}
use Rattle.pd_grove.specs.TextOrder.{is_sub, spots_in_order}
use Rattle.pd_bind.specs.Naming.{Owned, owned, owned_by, owned_by_kind, subpatch_symbol}
use Rattle.pd_bind.specs.Owning.{owners_in}
use Rattle.pd_owning.specs.Bound.{AreOwnersBut}
use Rattle.pd_owning.proofs.AlterLemmas.{KeepsShape, owners_alike}
use Rattle.pd_owning.proofs.ListLemmas.{all_kept_none}
use Rattle.pd_renaming.proofs.TextLemmas.{order_same}

-- a subpatch hears where its text says
hears : (table : Names) (c : Cell) → c.kind ≡ kind.Canvas → is_sub c.head.form ≡ true → owned_by table true c ≡ owned Receiver (subpatch_symbol table c.text)
hears table c canvas sub = ap (owned_by_kind table true c) canvas ∙ ap (λ (b : Bool). if true && b then owned Receiver (subpatch_symbol table c.text) else None) sub

-- two subpatches with the same text hear at the same name
pub hear_alike : (table : Names) (c d : Cell) → c.kind ≡ kind.Canvas → is_sub c.head.form ≡ true → d.kind ≡ kind.Canvas → is_sub d.head.form ≡ true → c.text ≡ d.text
    → owned_by table true c ≡ owned_by table true d
hear_alike table c d canvas sub canvas' sub' same =
    hears table c canvas sub ∙ ap (λ (text : List Atom). owned Receiver (subpatch_symbol table text)) same ∙ sym (hears table d canvas' sub')

-- a box with another text holds what it held, and is a subpatch where it was one
keeps_shape : (written text : List Atom) → KeepsShape (with_text written text)
keeps_shape written text = record { inner = λ n. refl; form = λ n. refl }

module _ (g h : Grove) (key : ℕ) (written text : List Atom) (A : Alters g h key (with_text written text)) where
  pub is_now : (n : Node) → get g.nodes key ≡ Some n → get h.nodes key ≡ Some (with_text written text n)
  is_now n is = A.box ∙ ap (option_map (with_text written text)) is

  -- the box stands where it stood in text order
  pub stands : (spot : Spot) → (i : ℕ) × (slice_get (spots_in_order g) i ≡ Some spot) → (i : ℕ) × (slice_get (spots_in_order h) i ≡ Some spot)
  stands spot at = (at.0, ap (λ (ps : List Spot). slice_get ps at.0) (order_same g h key written text A) ∙ at.1)

  -- where the box is unbound, gets its text and is bound again, each name has its owners
  pub owners_follow : (old mid new : List Row) (table : Names) (spot : Spot) → spot.node ≡ key
      → ((file away : List ℕ) → AreOwnersBut old table file g away → AreOwnersBut mid table file g (spot.node ∷ away))
      → ((file : List ℕ) → AreOwnersBut mid table file h (spot.node ∷ []) → AreOwnersBut new table file h [])
      → (file : List ℕ) → ((class : Class) (name : ℕ) → owners_of old class name ≡ owners_in table file g class name)
      → (class : Class) (name : ℕ) → owners_of new class name ≡ owners_in table file h class name
  owners_follow old mid new table spot e unbinds binds file H class name =
      let first : AreOwnersBut old table file g [] = λ c x. H c x ∙ sym (all_kept_none (owners_in table file g c x)) in
      let second : AreOwnersBut mid table file g (key ∷ []) = subst (λ k. AreOwnersBut mid table file g (k ∷ [])) e (unbinds file [] first) in
      let after : AreOwnersBut mid table file h (key ∷ []) =
      λ c x. second c x ∙ sym (owners_alike g h key (with_text written text) (keeps_shape written text) A table file [] c x) in
      binds file (subst (λ k. AreOwnersBut mid table file h (k ∷ [])) (sym e) after) class name ∙ all_kept_none (owners_in table file h class name)
