-- From what grew to what the edit comes to.
use Rattle.std.proofs.Common.{◌≡◌, ◌≢◌, ℕ, ◌-◌, List, [], length, take, Option, Some, None, Result, Ok, Err, IfSome, sym, ap, ◌∙◌, subst, append-nil}
use Rattle.std.proofs.Math.Seq.{take-append_seam}
use Rattle.std.specs.declared.vec.Vec.{Vec}
use Rattle.std.specs.declared.alloc.Global.{Global}
use Rattle.pd_io.specs.declared.files.FileRow.{FileRow}
use Rattle.pd_atom.specs.Names.{Names, Extends}
use Rattle.pd_canvas.specs.declared.edits.Edit.{Edit}
use Rattle.pd_canvas.specs.Pages.{Entry}
use Rattle.pd_library.specs.declared.answers.Answer.{Answer}
use Rattle.pd_library.specs.Files.{answer_in}
use Rattle.pd_tree.specs.declared.rows.Row.{Row}
use Rattle.pd_tree.specs.Trees.{Trees, weight, zeros_in}
use Rattle.pd_growth.specs.Steps.{Stock, Step}
use Rattle.pd_growth.specs.Growth.{around_root, without_ending}
use Rattle.pd_gather.specs.Gather.{Known, known, Gathering, Gathered, asked_of, GathersBy, GoesOn}
use Rattle.pd_patch.specs.declared.patch.Patch.{Patch}
use Rattle.pd_regrowth_law.specs.Regrowth.{Takes}
use Rattle.pd_wiring.specs.declared.refusals.EditRefusal.{EditRefusal}
use Rattle.pd_wiring.specs.declared.refusals.EditRefusal.TheVariants.{ShelfFault, NoMemory}
use Rattle.pd_adding.specs.declared.counts.Counts.{Counts}
use Rattle.pd_adding.specs.Counts.{stock_by}
use Rattle.pd_adding.specs.Coming.{coming, own_zero}
use Rattle.pd_adding.specs.Growing.{Added, growth_of, totalled, grown_to, gathered_to, GrowsTo, EndsFor}
use Rattle.pd_adding.specs.Adding.{growth_at, coming_to, AreGiven, ComesTo}
use Rattle.pd_adding.proofs.SingleLemmas.{box_takes}
use Rattle.pd_adding.proofs.GrowLemmas.{growth_is}

nothing_held : (holds : Option (List FileRow)) → IfSome holds (λ rows. Unit {0})
nothing_held None = tt
nothing_held (Some rows) = tt

-- what is refused before the box grows
pub refused_first : (holds : Option (List FileRow)) (p : Patch) (n : Counts) (name path : List ℕ) (e : Edit) (k : Known) (why : EditRefusal)
    → coming k.names p path e ≡ Err why → ComesTo holds p n name path e k (Err why)
refused_first holds p n name path e k why h = record {
  fetches = [];
  comes = ap (coming_to p n name path k []) h;
  held = subst (λ r. IfSome holds (λ rows. AreGiven rows p n name path k [] r)) (sym h) (nothing_held holds);
}

-- the growth of the code is that of the edit's box
pub growth_there : (p : Patch) (n : Counts) (name path : List ℕ) (b : Entry) (own left : ℕ) → own ≡ own_zero p → left ≡ 255 - length path
    → growth_of own n name left b ≡ growth_at p n name path b
growth_there p n name path b own left z l = λ i. growth_of (z i) n name (l i) b

module _ (holds : Option (List FileRow)) (p : Patch) (n : Counts) (name path : List ℕ) (e : Edit) (k : Known) (canvas : ℕ) (b : Entry)
    (comes : coming k.names p path e ≡ Ok (canvas, b)) where
  comes_by : (g : Gathering) → GathersBy holds (asked_of (growth_at p n name path b)) k g → (r : Result Added EditRefusal)
      → gathered_to p.rate n canvas (growth_at p n name path b) g ≡ r → ComesTo holds p n name path e k r
  comes_by g gathers r h = record {
    fetches = gathers.fetches;
    comes = ap (coming_to p n name path k gathers.fetches) comes ∙ ap (gathered_to p.rate n canvas (growth_at p n name path b)) gathers.comes ∙ h;
    held = subst (λ r. IfSome holds (λ rows. AreGiven rows p n name path k gathers.fetches r)) (sym comes) gathers.held;
  }

  -- growth is refused
  pub refused_growing : (why : EditRefusal) → EndsFor holds (growth_at p n name path b) k why → why ≢ NoMemory → why ≢ ShelfFault → ComesTo holds p n name path e k (Err why)
  refused_growing why ends x y =
      let r = ends x y in
      comes_by r.last r.gathers (Err why) (r.comes p.rate n canvas)

  -- so too where it is told of the growth of the code
  pub refused_there : (why : EditRefusal) (grows : Known → Step Trees) → grows ≡ growth_at p n name path b → EndsFor holds grows k why
      → why ≢ NoMemory → why ≢ ShelfFault → ComesTo holds p n name path e k (Err why)
  refused_there why grows same ends x y = refused_growing why (subst (λ (f : Known → Step Trees). EndsFor holds f k why) same ends) x y

  -- the box grew
  pub grown_comes : (files : List (ℕ × Answer)) (rows : Vec Row Global) (w : Stock) (g : GrowsTo holds (growth_at p n name path b) k files rows w) (r : Result Added EditRefusal)
      → totalled p.rate n canvas (known files w.names) g.gives.boxes ≡ r → ComesTo holds p n name path e k r
  grown_comes files rows w g r h =
      comes_by (Gathered (known files g.names)) g.gathers r
      (ap (λ (s : Step Trees). grown_to p.rate n canvas (known files s.stock.names) s.answer) g.gives.step ∙ h)

-- what grew took of the counts
pub grown_takes : (holds : Option (List FileRow)) (own : ℕ) (n : Counts) (name : List ℕ) (left : ℕ) (b : Entry) (k : Known) (files : List (ℕ × Answer)) (rows : Vec Row Global) (w : Stock)
    (g : GrowsTo holds (growth_of own n name left b) k files rows w) → Takes (stock_by g.names n) (zeros_in g.gives.boxes) (weight g.gives.boxes) w
grown_takes holds own n name left b k files rows w g =
    box_takes (answer_in files) (without_ending name) left (around_root own) b (stock_by g.names n) w g.gives.boxes
    (sym (growth_is own n name left b (known files g.names)) ∙ g.gives.step)

-- what was learned is forgotten
pub files_cut : (old new kept : List (ℕ × Answer)) (len : ℕ) → GoesOn old new → len ≡ length old → kept ≡ take len new → kept ≡ old
files_cut old new kept len g n e = e ∙ (λ i. take (n i) (g.is i)) ∙ take-append_seam old g.more

pub extends_same : (names : Names) → Extends names names
extends_same names = ([], sym (append-nil names))
