-- A box that grows again and again, while the files that it lacks are learned.
use Rattle.std.proofs.Common.{◌≡◌, ℕ, ◌≤◌, List, [], Option, None, IfOk, IsErrOf, refl, sym, ◌∙◌, subst, arith}
use Rattle.std.specs.declared.vec.Vec.{Vec}
use Rattle.std.specs.declared.alloc.Global.{Global}
use Rattle.pd_io.specs.declared.files.FileRow.{FileRow}
use Rattle.pd_atom.specs.Names.{Names, Extends}
use Rattle.pd_doc.proofs.ResultLemmas.{extends_on, extends_same}
use Rattle.pd_canvas.specs.Pages.{Entry}
use Rattle.pd_library.specs.Files.{answer_in}
use Rattle.pd_tree.specs.declared.rows.Row.{Row}
use Rattle.pd_tree.specs.Trees.{Trees}
use Rattle.pd_growth.specs.declared.growing.Stop.{Stop}
use Rattle.pd_growth.specs.declared.growing.Stop.TheVariants as stop
use Rattle.pd_growth.specs.declared.supply.Supply.{Supply}
use Rattle.pd_growth.specs.Steps.{Stock, Step, ends}
use Rattle.pd_growth.specs.Growth.{box_grown}
use Rattle.pd_growth.specs.Growing.{stock, around_of, inside_grown, Refuses, HasGrown}
use Rattle.pd_gather.specs.declared.boxes.Site.{Site}
use Rattle.pd_gather.specs.Gather.{Known, Asks, Gathered, Full, known, GathersBy, GoesOn, AreProper}
use Rattle.pd_gather.specs.declared.refusal.GatherRefusal.TheVariants.{SymbolsFull}
use Rattle.pd_gather.specs.Steps.{LearnsOne, FillsTable}
use Rattle.pd_gather.specs.Boxes.{box_growth, box_asked, trial_of, StopsSo, Tells, GathersBox, GathersInVain}
use Rattle.pd_gather.proofs.LackLemmas.{box_lacks_unknown}
use Rattle.pd_gather.proofs.AskLemmas.{box_lacks, box_full, box_many, box_whole}
use Rattle.pd_gather.proofs.GatherLemmas.{begun, one_more, one_too_many, comes_to, behind_on, behind_same}

abbrev pub grown_once : Site → Entry → Supply → Known → Step Trees
grown_once site e supply k =
    box_grown (answer_in k.files) site.root.now site.left (inside_grown (answer_in k.files) site.root.now site.left) (around_of site.scope) e (stock k.names supply)

module _ (site : Site) (e : Entry) (supply : Supply) (k : Known) where
  growth_is : box_growth site e supply k ≡ grown_once site e supply k
  unfolding box_growth
  growth_is = refl

  pub stops_so : (x : Stop) (table : Names) (left : Supply) → grown_once site e supply k ≡ ends x (stock table left) → StopsSo x table (box_growth site e supply k)
  stops_so x table left h = record { after = stock table left; step = growth_is ∙ h; names = refl }

  pub has_grown : (rows : List Row) (w : Stock) → HasGrown 1 [] rows w (grown_once site e supply k) → HasGrown 1 [] rows w (box_growth site e supply k)
  has_grown rows w h = subst (HasGrown 1 [] rows w) (sym growth_is) h

  pub is_unknown : (s : ℕ) (w : Stock) → grown_once site e supply k ≡ ends (stop.Lacks s) w → answer_in k.files s ≡ None
  is_unknown s w h = box_lacks_unknown (answer_in k.files) site.root.now site.left (around_of site.scope) e (stock k.names supply) w s h

  pub told_by : (x : Stop) (table : Names) (left : Supply) → Refuses x (stock table left) (grown_once site e supply k)
      → IfOk (trial_of x) (λ t. Tells t k.files table supply supply (box_growth site e supply k))
  told_by (stop.Lacks s) table left h = (stops_so (stop.Lacks s) table left h, refl, is_unknown s (stock table left) h)
  told_by stop.TooManyBoxes table left h = (stops_so stop.TooManyBoxes table left h, refl)
  told_by stop.SymbolsFull table left h = tt
  told_by stop.NoMemory table left h = tt

  pub full_by : (x : Stop) (table : Names) (left : Supply) → Refuses x (stock table left) (grown_once site e supply k)
      → IsErrOf (trial_of x) SymbolsFull → StopsSo stop.SymbolsFull table (box_growth site e supply k)
  full_by (stop.Lacks s) table left h is = (cc)
  full_by stop.TooManyBoxes table left h is = (cc)
  full_by stop.SymbolsFull table left h is = stops_so stop.SymbolsFull table left h
  full_by stop.NoMemory table left h is = (cc)

-- The files that the box lacked so far are known. It grows anew from the whole supply.
pub record IsTrying (holds now : Option (List FileRow)) (before faults : ℕ) (site : Site) (e : Entry) (first k : Known) (supply left : Supply) : Type 0 where
  pub gathers : GathersBy holds (box_asked site e supply) first (box_asked site e supply k)
  pub left_is : left ≡ supply
  pub kept : now ≡ holds
  pub counted : before ≤ faults
  pub found : AreProper k.names k.files
  pub behind : GoesOn first.files k.files
  pub extends : Extends first.names k.names

pub first_try : (holds : Option (List FileRow)) (before : ℕ) (site : Site) (e : Entry) (first : Known) (supply : Supply) → AreProper first.names first.files
    → IsTrying holds holds before before site e first first supply supply
first_try holds before site e first supply found = record {
  gathers = begun (box_asked site e supply) holds first;
  left_is = refl;
  kept = refl;
  counted = omega arith;
  found = found;
  behind = behind_same first.files;
  extends = extends_same first.names;
}

module _ (holds now : Option (List FileRow)) (before faults : ℕ) (site : Site) (e : Entry) (first k : Known) (supply left : Supply)
    (try : IsTrying holds now before faults site e first k supply left) where
  pub grows_last : (rows : Vec Row Global) (w : Stock) → HasGrown 1 [] rows.items w (box_growth site e left k) → GathersBox holds site e supply first k.files rows w
  grows_last rows w h =
      let g = subst (λ (x : Supply). HasGrown 1 [] rows.items w (box_growth site e x k)) try.left_is h in
      record {
        names = k.names;
        gathers = comes_to (box_asked site e supply) holds first k (Gathered k) try.gathers (box_whole site e supply k g.boxes w g.step);
        grows = g;
      }

  module _ (table : Names) where
    pub stops_last : StopsSo stop.TooManyBoxes table (box_growth site e left k) → GathersInVain holds site e supply first
    stops_last h =
        let g = subst (λ (x : Supply). StopsSo stop.TooManyBoxes table (box_growth site e x k)) try.left_is h in
        record {
          last = k;
          table = table;
          gathers = comes_to (box_asked site e supply) holds first k (Gathered k) try.gathers (box_many site e supply k table g);
          stops = g;
        }

    pub fills_last : StopsSo stop.SymbolsFull table (box_growth site e left k) → GathersBy holds (box_asked site e supply) first Full
    fills_last h =
        comes_to (box_asked site e supply) holds first k Full try.gathers
        (box_full site e supply k table (subst (λ (x : Supply). StopsSo stop.SymbolsFull table (box_growth site e x k)) try.left_is h))

    asks_next : (s : ℕ) → StopsSo (stop.Lacks s) table (box_growth site e left k) → box_asked site e supply k ≡ Asks s (known k.files table)
    asks_next s h = box_lacks site e supply k table s (subst (λ (x : Supply). StopsSo (stop.Lacks s) table (box_growth site e x k)) try.left_is h)

    pub fills_learning : (s : ℕ) → StopsSo (stop.Lacks s) table (box_growth site e left k) → FillsTable now s (known k.files table)
        → GathersBy holds (box_asked site e supply) first Full
    fills_learning s h fills =
        one_too_many (box_asked site e supply) holds first k s (known k.files table) try.gathers (asks_next s h)
        (subst (λ o. FillsTable o s (known k.files table)) try.kept fills)

    pub tries_on : (s : ℕ) (next : Known) (now3 : Option (List FileRow)) (faults3 : ℕ) (left3 : Supply) → StopsSo (stop.Lacks s) table (box_growth site e left k)
        → Extends k.names table → LearnsOne now s (known k.files table) next → Extends table next.names → AreProper next.names next.files
        → GoesOn k.files next.files → now3 ≡ now → faults ≤ faults3 → left3 ≡ left → IsTrying holds now3 before faults3 site e first next supply left3
    tries_on s next now3 faults3 left3 h x learns x3 found more kept counted same =
        let early : before ≤ faults = try.counted in
        record {
          gathers =
              one_more (box_asked site e supply) holds first k s (known k.files table) next try.gathers (asks_next s h)
              (subst (λ o. LearnsOne o s (known k.files table) next) try.kept learns);
          left_is = same ∙ try.left_is;
          kept = kept ∙ try.kept;
          counted = omega (arith, early, counted);
          found = found;
          behind = behind_on first.files k.files next.files try.behind more;
          extends = extends_on first.names k.names next.names try.extends (extends_on k.names table next.names x x3);
        }
