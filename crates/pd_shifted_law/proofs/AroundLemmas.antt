-- The box around a canvas to which a path leads is that of the path's last number.
use Rattle.std.proofs.Common.{◌≡◌, ℕ, ℤ, List, [], ◌∷◌, ◌++◌, slice_get, Some, inr, refl, sym, ap, ◌∙◌}
use Rattle.std.specs.Prelude.{option_and_then}
use Rattle.std.proofs.lemmas.Option.{none-some, same_Some}
use Rattle.slab.specs.Slab.{get}
use Rattle.pd_canvas.specs.Pages.{Page}
use Rattle.pd_canvas.specs.Paths.{change_box, edit_at, inside}
use Rattle.pd_grove.specs.declared.grove.Grove.{Grove}
use Rattle.pd_grove.specs.Forest.{holder_in}
use Rattle.pd_grove.specs.OwnPaths.{sub_in, sub_reached}
use Rattle.pd_grove.specs.Owning.{board_in}
use Rattle.pd_web.specs.Canvases.{keys_at}
use Rattle.pd_patch.specs.declared.patch.Patch.{Patch}
use Rattle.pd_reload_law.proofs.EditLemmas.{sub_inner}
use Rattle.pd_putting_law.proofs.PathLemmas.{Forest, subs}
use Rattle.pd_following_law.specs.Raised.{StandsAt}
use Rattle.pd_shifting.specs.Moves.{ShiftsPort}
use Rattle.pd_shifted_law.specs.Ports.{edit_around}
use Rattle.pd_shifted_law.proofs.EitherLemmas.{box_alters}
use Rattle.pd_shifted_law.proofs.PathLemmas.{keys_same, sub_from_root}

-- a path from a canvas, and where the box of its last number stands
record LiesIn (g : Grove) (c : ℕ) (path : List ℕ) (holder : ℕ) : Type 0 where
  way : List ℕ
  number : ℕ
  whole : path ≡ way ++ number ∷ []
  canvas : ℕ
  leads : sub_reached g (Some c) way ≡ Some canvas
  at : slice_get (keys_at g canvas) number ≡ Some holder

lies_in : (g : Grove) → Forest g → (n : ℕ) (path : List ℕ) (c canvas holder : ℕ) → sub_reached g (Some c) (n ∷ path) ≡ Some canvas → holder_in (get g.boards canvas) ≡ Some holder
    → LiesIn g c (n ∷ path) holder
lies_in g F n [] c canvas holder on held =
    let s = subs g c n [] canvas on in
    let same : s.key ≡ holder =
    same_Some s.key holder (sym (F.inside s.key s.inner (sub_inner (get g.nodes s.key) s.inner s.sub)) ∙ ap (λ x. holder_in (get g.boards x)) (same_Some s.inner canvas s.on) ∙ held) in
    record { way = []; number = n; whole = refl; canvas = c; leads = refl; at = s.is ∙ ap (λ x. Some x) same }
lies_in g F n (m ∷ path) c canvas holder on held =
    let s = subs g c n (m ∷ path) canvas on in
    let r = lies_in g F m path s.inner canvas holder s.on held in
    record {
      way = n ∷ r.way;
      number = r.number;
      whole = ap (λ (l : List ℕ). n ∷ l) r.whole;
      canvas = r.canvas;
      leads = ap (λ o. sub_reached g (option_and_then (λ k. sub_in (get g.nodes k)) o) r.way) s.is ∙ ap (λ o. sub_reached g o r.way) s.sub ∙ r.leads;
      at = r.at;
    }

-- the canvas around in a document
pub record IsAround (g : Grove) (path : List ℕ) (holder : ℕ) : Type 0 where
  pub way : List ℕ
  pub number : ℕ
  pub whole : path ≡ way ++ number ∷ []
  pub stands : StandsAt g way number holder

pub around_is : (g : Grove) → Forest g → (path : List ℕ) (canvas holder : ℕ) → sub_reached g (Some g.root) path ≡ Some canvas → holder_in (get g.boards canvas) ≡ Some holder
    → IsAround g path holder
around_is g F [] canvas holder leads held =
    absurd (none-some holder (sym F.rooted.1 ∙ ap (λ x. holder_in (get g.boards x)) (same_Some g.root canvas leads) ∙ held))
around_is g F (n ∷ path) canvas holder leads held =
    let r = lies_in g F n path g.root canvas holder leads held in
    record { way = r.way; number = r.number; whole = r.whole; stands = record { canvas = r.canvas; leads = r.leads; at = r.at } }

-- ---- a port box that moved

module _ (p q : Patch) (path : List ℕ) (canvas key number : ℕ) (x y : ℤ) (F : Forest p.grove) (leads : sub_reached p.grove (Some p.grove.root) path ≡ Some canvas)
    (is : slice_get (keys_at p.grove canvas) number ≡ Some key) (s : ShiftsPort p q canvas key x y) where
  -- its canvas is the one in the box around
  lies : s.could.place.canvas ≡ canvas
  lies =
      s.could.canvas
      ∙ same_Some s.could.node.board canvas (sym (ap board_in s.could.stands) ∙ ap (λ (g : Grove). board_in (get g.nodes key)) s.room.grove ∙ F.own.home canvas number key is)

  held : holder_in (get p.grove.boards canvas) ≡ Some s.holder
  held = ap (λ (g : Grove). holder_in (get g.boards canvas)) (sym s.room.grove) ∙ ap (λ c. holder_in (get s.ready.grove.boards c)) (sym lies) ∙ s.could.at.held

  pub port_around : IsAround p.grove path s.holder
  port_around = around_is p.grove F path canvas s.holder leads held

  pub port_stands : StandsAt q.grove port_around.way port_around.number s.holder
  port_stands =
      let A = box_alters p q canvas key x y (inr s) in
      let r = port_around in
      record {
        canvas = r.stands.canvas;
        leads = sym (sub_from_root p.grove q.grove key x y A r.way) ∙ r.stands.leads;
        at = ap (λ (ks : List ℕ). slice_get ks r.number) (keys_same p.grove q.grove key x y A r.stands.canvas) ∙ r.stands.at;
      }

-- ---- pages

pub edit_around_is : (way : List ℕ) (n : ℕ) (f : ℕ → Page → Page) (p : Page) → edit_around (way ++ n ∷ []) f p ≡ edit_at way (f n) p
edit_around_is [] n f p = refl
edit_around_is (m ∷ []) n f p = ap (λ (g : Page → Page). change_box m (inside g) p) (λ i z. edit_around_is [] n f z i)
edit_around_is (m ∷ k ∷ way) n f p = ap (λ (g : Page → Page). change_box m (inside g) p) (λ i z. edit_around_is (k ∷ way) n f z i)
