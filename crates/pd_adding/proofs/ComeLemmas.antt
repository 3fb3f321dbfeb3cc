-- Whether a box may come.
use Rattle.std.proofs.Common.{◌≡◌, ℕ, ◌-◌, ◌<◌, ◌≤◌, true, false, ◌&&◌, nat_lt, if◌then◌else◌, List, length, Option, Some, Ok, Err, sym, ap, ◌∙◌, subst, arith}
use Rattle.std.proofs.lemmas.Bool.Decides.{nat_tests}
use Rattle.pd_atom.specs.Names.{Names}
use Rattle.pd_canvas.specs.Pages.{Shape, Obj, Msg, Comment, FloatBox, SymbolBox, Sub, Array, Other, Boxes, End, Entry, weight}
use Rattle.pd_canvas.specs.Proper.{levels, levels_of}
use Rattle.pd_growth.specs.Suits.{TextsSuit, EntrySuits}
use Rattle.pd_grove.specs.OwnPaths.{sub_reached}
use Rattle.pd_grove.specs.TextOrder.{is_sub}
use Rattle.pd_patch.specs.declared.patch.Patch.{Patch}
use Rattle.pd_wiring.specs.declared.refusals.EditRefusal.TheVariants.{TextTooLong, TooDeep}
use Rattle.pd_adding.specs.Boxes.{IsBare}
use Rattle.pd_adding.specs.Coming.{coming_in, coming_by}
use Rattle.pd_adding.proofs.BoxLemmas.{bare_known}

pub come_by : (p : Patch) (path : List ℕ) (o : Option Entry) (e : Entry) (r : Option ℕ) → o ≡ Some e → sub_reached p.grove (Some p.grove.root) path ≡ r
    → coming_by p path o ≡ coming_in (length path) e r
come_by p path o e r h s = ap (coming_by p path) h ∙ ap (coming_in (length path) e) s

few_so : (n : ℕ) → n ≤ 1024 → nat_lt 1024 n ≡ false
few_so n h = grind (arith, nat_tests)

many_so : (n : ℕ) → 1024 < n → nat_lt 1024 n ≡ true
many_so n h = grind (arith, nat_tests)

module _ (depth : ℕ) (e : Entry) (canvas : ℕ) where
  pub come_ok : length e.head.text ≤ 1024 → (is_sub e.head.form && nat_lt 254 depth) ≡ false → coming_in depth e (Some canvas) ≡ Ok (canvas, e)
  come_ok short high =
      let a = few_so (length e.head.text) short in
      λ i. if a i then Err TextTooLong else if high i then Err TooDeep else Ok (canvas, e)

  pub come_long : 1024 < length e.head.text → coming_in depth e (Some canvas) ≡ Err TextTooLong
  come_long long =
      let a = many_so (length e.head.text) long in
      λ i. if a i then Err TextTooLong else if is_sub e.head.form && nat_lt 254 depth then Err TooDeep else Ok (canvas, e)

  pub come_deep : length e.head.text ≤ 1024 → (is_sub e.head.form && nat_lt 254 depth) ≡ true → coming_in depth e (Some canvas) ≡ Err TooDeep
  come_deep short deep =
      let a = few_so (length e.head.text) short in
      λ i. if a i then Err TextTooLong else if deep i then Err TooDeep else Ok (canvas, e)

not_deep : (depth : ℕ) → nat_lt 254 depth ≡ false → depth ≤ 254
not_deep depth h = grind (arith, nat_tests)

levels_fit : (form : Shape) (b : Boxes) (depth left : ℕ) → b ≡ End → (is_sub form && nat_lt 254 depth) ≡ false → left ≡ 255 - depth → levels_of form (levels b) ≤ left
levels_fit Sub b depth left none high room =
    let l = ap levels none in
    let d = not_deep depth high in
    omega (arith, l, d, room)
levels_fit Obj b depth left none high room = omega arith
levels_fit Msg b depth left none high room = omega arith
levels_fit Comment b depth left none high room = omega arith
levels_fit FloatBox b depth left none high room = omega arith
levels_fit SymbolBox b depth left none high room = omega arith
levels_fit (Array values) b depth left none high room = omega arith
levels_fit (Other s) b depth left none high room = omega arith

pub box_suits : (names : Names) (e : Entry) (depth left : ℕ) → IsBare names e → length e.head.text ≤ 1024 → (is_sub e.head.form && nat_lt 254 depth) ≡ false
    → left ≡ 255 - depth → EntrySuits names left e
box_suits names e depth left bare short high room =
    ((bare_known names e bare, short), subst (λ (b : Boxes). TextsSuit names b × (weight b ≤ 16384)) (sym bare.1) (tt, omega arith), levels_fit e.head.form e.page.boxes depth left bare.1 high room)
