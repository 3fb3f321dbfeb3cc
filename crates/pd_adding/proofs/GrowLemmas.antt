-- Growth at a site, and what it comes to for an edit.
use Rattle.std.proofs.Common.{◌≡◌, ℕ, ◌-◌, List, [], Option, refl, sym, ap, ◌∙◌, subst}
use Rattle.std.specs.declared.vec.Vec.{Vec}
use Rattle.std.specs.declared.alloc.Global.{Global}
use Rattle.pd_io.specs.declared.files.FileRow.{FileRow}
use Rattle.pd_canvas.specs.Pages.{Entry}
use Rattle.pd_library.specs.declared.answers.Answer.{Answer}
use Rattle.pd_library.specs.Files.{answer_in}
use Rattle.pd_tree.specs.declared.rows.Row.{Row}
use Rattle.pd_tree.specs.Trees.{Trees}
use Rattle.pd_growth.specs.declared.supply.Supply.{Supply}
use Rattle.pd_growth.specs.Steps.{Stock, Step, zeros_from}
use Rattle.pd_growth.specs.Growth.{box_grown, around_root, without_ending}
use Rattle.pd_growth.specs.Growing.{stock, inside_grown, HasGrown}
use Rattle.pd_gather.specs.declared.boxes.Site.{Site}
use Rattle.pd_gather.specs.declared.refusal.BoxRefusal.{BoxRefusal}
use Rattle.pd_gather.specs.declared.refusal.BoxRefusal.TheVariants as gather
use Rattle.pd_gather.specs.Gather.{Known, known, Gathered, Full, asked_of, GathersBy}
use Rattle.pd_gather.specs.Boxes.{box_growth, box_asked, GathersBox, GathersInVain}
use Rattle.pd_adding.specs.declared.counts.Counts.{Counts}
use Rattle.pd_adding.specs.Counts.{stock_by}
use Rattle.pd_adding.specs.Growing.{growth_of, grown_to, box_refusal, GrowsTo, Refused, EndsFor}

-- the site's growth
abbrev pub IsSiteOf : Site → List ℕ → ℕ → ℕ → Type 0
IsSiteOf site name own left = (e : Entry) (supply : Supply) (k : Known) → box_growth site e supply k
    ≡ box_grown (answer_in k.files) (without_ending name) left (inside_grown (answer_in k.files) (without_ending name) left) (around_root own) e (stock k.names supply)

pub growth_is : (own : ℕ) (n : Counts) (name : List ℕ) (left : ℕ) (e : Entry) (k : Known) → growth_of own n name left e k
    ≡ box_grown (answer_in k.files) (without_ending name) left (inside_grown (answer_in k.files) (without_ending name) left) (around_root own) e (stock_by k.names n)
unfolding growth_of
growth_is own n name left e k = refl

pub same_growth : (site : Site) (supply : Supply) (own : ℕ) (n : Counts) (name : List ℕ) (left : ℕ) (e : Entry) → IsSiteOf site name own left
    → supply.next_zero ≡ n.next_zero → supply.room ≡ 16384 - n.boxes → box_growth site e supply ≡ growth_of own n name left e
same_growth site supply own n name left e is zeros room =
    let at : (k : Known) → box_growth site e supply k ≡ growth_of own n name left e k = λ k.
    is e supply k
    ∙ (λ i. box_grown (answer_in k.files) (without_ending name) left (inside_grown (answer_in k.files) (without_ending name) left) (around_root own) e
    (record { names = k.names; zeros = zeros_from (zeros i); room = room i }))
    ∙ sym (growth_is own n name left e k) in
    λ i k. at k i

module _ (holds : Option (List FileRow)) (site : Site) (e : Entry) (supply : Supply) (k : Known) (grows : Known → Step Trees) (same : box_growth site e supply ≡ grows) where
  pub grows_to : (files : List (ℕ × Answer)) (rows : Vec Row Global) (w : Stock) → GathersBox holds site e supply k files rows w → GrowsTo holds grows k files rows w
  grows_to files rows w g = record {
    names = g.names;
    gathers = subst (λ (f : Known → Step Trees). GathersBy holds (asked_of f) k (Gathered (known files g.names))) same g.gathers;
    gives = subst (λ (f : Known → Step Trees). HasGrown 1 [] rows.items w (f (known files g.names))) same g.grows;
  }

  many_for : GathersInVain holds site e supply k → Refused holds grows k (box_refusal gather.TooManyBoxes)
  many_for g = record {
    last = Gathered g.last;
    gathers = subst (λ (f : Known → Step Trees). GathersBy holds (asked_of f) k (Gathered g.last)) same g.gathers;
    comes = λ rate n canvas. ap (λ (s : Step Trees). grown_to rate n canvas (known g.last.files s.stock.names) s.answer) (sym (ap (λ (f : Known → Step Trees). f g.last) same) ∙ g.stops.step);
  }

  full_for : GathersBy holds (box_asked site e supply) k Full → Refused holds grows k (box_refusal gather.SymbolsFull)
  full_for g = record {
    last = Full;
    gathers = subst (λ (f : Known → Step Trees). GathersBy holds (asked_of f) k Full) same g;
    comes = λ rate n canvas. refl;
  }

  pub ends_for : (r : BoxRefusal) → (r ≡ gather.TooManyBoxes → GathersInVain holds site e supply k)
      → (r ≡ gather.SymbolsFull → GathersBy holds (box_asked site e supply) k Full) → EndsFor holds grows k (box_refusal r)
  ends_for gather.TooManyBoxes many full a b = many_for (many refl)
  ends_for gather.ShelfFault many full a b = absurd (b refl)
  ends_for gather.SymbolsFull many full a b = full_for (full refl)
  ends_for gather.NoMemory many full a b = absurd (a refl)
