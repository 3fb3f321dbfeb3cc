-- From the answers of the layers to what growth gives.
use Rattle.std.proofs.Common.{arith, ◌≡◌, ℕ, ◌+◌, ◌<◌, ◌≤◌, Bool, true, false, nat_lt, List, length, Option, sym, ◌∙◌, subst}
use Rattle.std.proofs.lemmas.Bool.Decides.{nat_tests}
use Rattle.slab.specs.Slab.{get}
use Rattle.pd_atom.specs.Names.{Names}
use Rattle.pd_clock.specs.declared.times.Rate.{Rate}
use Rattle.pd_canvas.specs.Pages.{Page, elements_of}
use Rattle.pd_canvas.specs.Proper.{levels}
use Rattle.pd_library.specs.declared.answers.Answer.{Answer}
use Rattle.pd_tree.specs.declared.rows.Sheet.{Sheet}
use Rattle.pd_tree.specs.Trees.{Tree, width}
use Rattle.pd_fit.specs.Fitting.{wires_fitting}
use Rattle.pd_growth.specs.declared.growing.Stop.{Stop}
use Rattle.pd_growth.specs.declared.growing.Stop.TheVariants as stop
use Rattle.pd_growth.specs.declared.documents.Grown.{Grown}
use Rattle.pd_growth.specs.Steps.{Stock, Step}
use Rattle.pd_growth.specs.Growth.{grown}
use Rattle.pd_growth.specs.Growing.{GivesTree, EndsUnlessMemory}
use Rattle.pd_grove.specs.Standing.{GroveStands, NodesOf}
use Rattle.pd_grove.specs.TextOrder.{deep}
use Rattle.pd_grove.specs.Forest.{IsForest}
use Rattle.pd_web.specs.Jacks.{KindsSmall}
use Rattle.pd_patch.specs.declared.patch.Patch.{Patch}
use Rattle.pd_patch.specs.Refusals.{stopped}
use Rattle.pd_patch.specs.Sounds.{sound_in}
use Rattle.pd_patch.specs.Grown.{IsFresh, IsTree, HasCause, HasManyWires, HasMuchSound}
use Rattle.pd_patch.proofs.GrowthLemmas.{tree_fits, tree_shallow, sound_grown}
use Rattle.pd_patch.proofs.WiredLemmas.{wired}

-- growth that ends has its cause
pub stop_cause : (e : Stop) (names : Names) (s : Step Tree) (rate : Rate) → EndsUnlessMemory e names s → HasCause (stopped e) s rate
stop_cause stop.SymbolsFull names s rate h = record { after = h.after; step = h.step }
stop_cause stop.TooManyBoxes names s rate h = record { after = h.after; step = h.step }
stop_cause (stop.Lacks n) names s rate h = tt
stop_cause stop.NoMemory names s rate h = tt

-- the test of the wires, by each of its answers
pub many_wires : (n : ℕ) → true ≡ nat_lt 65536 n → 65536 < n
many_wires n h = grind (arith, nat_tests)

few_wires : (n : ℕ) → false ≡ nat_lt 65536 n → n ≤ 65536
few_wires n h = grind (arith, nat_tests)

pub few_fitting : (g : Grown) (names : Names) (s : Step Tree) (G : GivesTree g names s) (many : Bool) → many ≡ false → many ≡ nat_lt 65536 (wires_fitting g.sheet G.tree.boxes)
    → wires_fitting g.sheet G.tree.boxes ≤ 65536
few_fitting g names s G many f h = few_wires _ (sym f ∙ h)

-- the test of the sound, by each of its answers
pub much_sound : (n : ℕ) → true ≡ nat_lt 16777216 n → 16777216 < n
much_sound n h = grind (arith, nat_tests)

pub few_values : (n : ℕ) → false ≡ nat_lt 16777216 n → n ≤ 16777216
few_values n h = grind (arith, nat_tests)

-- the same for the sheet and the rows of a growth
pub sheet_wires : (P : ℕ → Type 0) (g : Grown) (names : Names) (s : Step Tree) (G : GivesTree g names s) → P (wires_fitting g.sheet G.tree.boxes) → P (wires_fitting G.tree.sheet G.tree.boxes)
sheet_wires P g names s G h = subst (λ (x : Sheet). P (wires_fitting x G.tree.boxes)) G.sheet h

pub wires_cause : (g : Grown) (names : Names) (s : Step Tree) (G : GivesTree g names s) → 65536 < wires_fitting g.sheet G.tree.boxes → HasManyWires s
wires_cause g names s G h = record { tree = G.tree; after = G.after; step = G.step; many = sheet_wires (λ n. 65536 < n) g names s G h }

pub sound_cause : (g : Grown) (names : Names) (s : Step Tree) (rate : Rate) (G : GivesTree g names s) → wires_fitting g.sheet G.tree.boxes ≤ 65536 → 16777216 < sound_in rate g.rows.items → HasMuchSound s rate
sound_cause g names s rate G few much =
    let e = sound_grown rate g.rows.items G.tree.boxes G.rows in
    record { tree = G.tree; after = G.after; step = G.step; few_wires = sheet_wires (λ n. n ≤ 65536) g names s G few; much = omega (arith, much, e) }

-- the tree of which the rows are the list is as wide as the document
pub is_wide : (lib : ℕ → Option Answer) (name : List ℕ) (page : Page) (w : Stock) (g : Grown) (names : Names) (G : GivesTree g names (grown lib name page w)) (count : ℕ) → count ≡ length (elements_of page)
    → width G.tree.boxes ≡ count
is_wide lib name page w g names G count e = (tree_fits lib name page w G.after G.tree G.step).0 ∙ sym e

pub tree_planted : (lib : ℕ → Option Answer) (name : List ℕ) (page : Page) (w : Stock) (g : Grown) (names table : Names) (rate : Rate) (G : GivesTree g names (grown lib name page w)) (p : Patch) (fresh : IsFresh p table name rate)
    → table ≡ names → levels page.boxes + 1 ≤ 256 → wires_fitting g.sheet G.tree.boxes ≤ 65536 → sound_in rate g.rows.items ≤ 16777216 → GroveStands p.grove g.sheet G.tree.boxes
    → NodesOf G.tree.boxes (get p.grove.nodes) → (deep G.tree.boxes < 257 → IsForest (get p.grove.nodes) (get p.grove.boards) p.grove.root) → KindsSmall p.grove
    → IsTree p table rate (grown lib name page w)
tree_planted lib name page w g names table rate G p fresh t low few l stands of_tree forest small =
    let e = sound_grown rate g.rows.items G.tree.boxes G.rows in
    let fits = tree_fits lib name page w G.after G.tree G.step in
    let planted = subst (λ (s : Sheet). GroveStands p.grove s G.tree.boxes) G.sheet stands in
    let shallow : deep G.tree.boxes + 1 ≤ 256 = tree_shallow lib name page w G.after G.tree low G.step in
    record {
      tree = G.tree;
      given = record { after = G.after; step = G.step; table = t ∙ G.names };
      stands = planted;
      of_tree = of_tree;
      forest = forest (omega (arith, shallow));
      small = small;
      shallow = shallow;
      wired = wired p.grove p.web G.tree fresh.wires fresh.own planted fits.2;
      few_wires = sheet_wires (λ n. n ≤ 65536) g names (grown lib name page w) G few;
      few_values = omega (arith, l, e);
    }
