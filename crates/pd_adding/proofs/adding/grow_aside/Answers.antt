use Rattle.std.proofs.Common.{ℕ, ◌<◌, ◌+◌, ◌-◌, List, length, Ok, refl, sym, ap, ◌∙◌, subst, arith}
use Rattle.slab.specs.Slab.{get}
use Rattle.pd_atom.specs.Names.{Extends}
use Rattle.pd_atom.proofs.NameLemmas.{six_names}
use Rattle.pd_canvas.specs.Views.{entry_of}
use Rattle.pd_library.specs.declared.answers.Answer.{Answer}
use Rattle.pd_tree.specs.Trees.{Trees, stands_in}
use Rattle.pd_growth.specs.Steps.{Step}
use Rattle.pd_growth.specs.Growing.{stock}
use Rattle.pd_gather.specs.Gather.{Known, known, GoesOn}
use Rattle.pd_grove.specs.Standing.{depth_of}
use Rattle.pd_grove.specs.TextOrder.{deep}
use Rattle.pd_gather.proofs.AskLemmas.{names_cut}
use Rattle.pd_gather.proofs.GatherLemmas.{behind_same}
use Rattle.pd_adding.specs.Coming.{own_zero}
use Rattle.pd_adding.specs.Growing.{Added, GrowsTo}
use Rattle.pd_adding.specs.Adding.{growth_at}
use Rattle.pd_adding.proofs.AddLemmas.{growth_there, grown_comes, grown_takes, files_cut, extends_same}
use Rattle.pd_adding.proofs.GrewLemmas.{grew_with}
use Rattle.pd_adding.proofs.ShallowLemmas.{same_tree, fits_there, grown_shallow}
use Rattle.pd_adding.proofs.adding.grow_aside.Goals as goal

pub returns-in-Ok-counts_with-clause-grown : goal.returns-in-Ok-counts_with-clause-grown
returns-in-Ok-counts_with-clause-grown g c =
    let holds = g.H.Shelf.holds c.args.shelf.now in
    let p = c.args.patch.now in
    let n = c.args.counts in
    let name = c.args.name.now in
    let path = c.args.path.now in
    let b = entry_of c.in_ok-coming.coming.element in
    let k = known c.args.library.now c.args.symbols.now in
    let files = c.grow_coming-grown.new.library in
    let rows = c.in-Ok.crop.rows in
    let w = stock c.grow_coming-grown.new.symbols c.in-Ok.crop.left in
    let there = growth_there p n name path b c.zero_of-zero.result c.in_ok-coming.coming.left c.zero_of-zero.ensures c.in_ok-coming.ensures.left in
    let G : GrowsTo holds (growth_at p n name path b) k files rows w = subst (λ (f : Known → Step Trees). GrowsTo holds f k files rows w) there c.in-Ok.ensures.grown in
    let takes = grown_takes holds (own_zero p) n name (255 - length path) b k files rows w G in
    let totals = c.in-Ok-counts_with.ensures.totals G.gives.boxes (ap stands_in c.as_slice.ensures.value ∙ G.gives.rows) takes.zeros takes.room in
    let added : Added = record {
      canvas = c.in_ok-coming.coming.canvas;
      boxes = G.gives.boxes;
      known = known files c.grow_coming-grown.new.symbols;
      counts = c.in-Ok-counts_with.counts;
    } in
    record {
      added = added;
      comes = grown_comes holds p n name path c.args.edit.now k c.in_ok-coming.coming.canvas b c.in_ok-coming.ensures.comes files rows w G (Ok added)
          (totals.1 c.in_ok-coming.coming.canvas (known files c.grow_coming-grown.new.symbols));
      files = known files G.names;
      grew = grew_with holds p n name path c.args.edit.now k c.in_ok-coming.coming.canvas b c.in_ok-coming.ensures.comes files rows w G c.in-Ok-counts_with.counts
          c.len-names.ensures.table c.len-after.ensures.table c.requires.found (totals.1 c.in_ok-coming.coming.canvas (known files c.grow_coming-grown.new.symbols));
      goes_on = c.in-Ok.ensures.extends;
      table = c.len-names.ensures.table;
      table_after = c.len-after.ensures.table;
      is = record { canvas = refl; one = G.gives.wide; rows = G.gives.rows; suit = G.gives.suit; counts = refl };
      known = refl;
    }

pub returns-in-Ok-counts_with-clause-within : goal.returns-in-Ok-counts_with-clause-within
returns-in-Ok-counts_with-clause-within g c =
    let holds = g.H.Shelf.holds c.args.shelf.now in
    let p = c.args.patch.now in
    let n = c.args.counts in
    let name = c.args.name.now in
    let path = c.args.path.now in
    let b = entry_of c.in_ok-coming.coming.element in
    let k = known c.args.library.now c.args.symbols.now in
    let files = c.grow_coming-grown.new.library in
    let rows = c.in-Ok.crop.rows in
    let w = stock c.grow_coming-grown.new.symbols c.in-Ok.crop.left in
    let there = growth_there p n name path b c.zero_of-zero.result c.in_ok-coming.coming.left c.zero_of-zero.ensures c.in_ok-coming.ensures.left in
    let G : GrowsTo holds (growth_at p n name path b) k files rows w = subst (λ (f : Known → Step Trees). GrowsTo holds f k files rows w) there c.in-Ok.ensures.grown in
    let takes = grown_takes holds (own_zero p) n name (255 - length path) b k files rows w G in
    let totals = c.in-Ok-counts_with.ensures.totals G.gives.boxes (ap stands_in c.as_slice.ensures.value ∙ G.gives.rows) takes.zeros takes.room in
    totals.0

pub returns-in-Ok-counts_with-clause-shallow : goal.returns-in-Ok-counts_with-clause-shallow
returns-in-Ok-counts_with-clause-shallow g c =
    let p = c.args.patch.now in
    let n = c.args.counts in
    let name = c.args.name.now in
    let path = c.args.path.now in
    let b = entry_of c.in_ok-coming.coming.element in
    let left = c.in_ok-coming.coming.left in
    let G = c.in-Ok.ensures.grown in
    let low = grown_shallow c.zero_of-zero.result n name left b c.grow_coming-grown.new.library G.names G.gives.boxes (stock c.grow_coming-grown.new.symbols c.in-Ok.crop.left)
    c.in_ok-coming.ensures.suits.2 G.gives.step in
    λ a A F.
    let same = same_tree a.boxes G.gives.boxes (sym A.rows ∙ G.gives.rows) (A.one ∙ sym G.gives.wide) in
    let fits = fits_there p path c.in_ok-coming.coming.canvas b F c.args.symbols.now c.args.edit.now left (deep G.gives.boxes) c.in_ok-coming.ensures.comes c.in_ok-coming.ensures.left low in
    subst (λ t. depth_of (get p.grove.boards c.in_ok-coming.coming.canvas) + deep t < 257) (sym same) fits

pub forget-requires : goal.forget-requires
forget-requires g c =
    let six = six_names c.args.symbols.now c.len-names.ensures.table in
    omega (arith, six, c.len-names.ensures.value)

pub returns-clause-behind : goal.returns-clause-behind
returns-clause-behind g c =
    let len = c.len-files.ensures.count ∙ ap (λ (xs : List (ℕ × Answer)). length xs) c.files.ensures in
    let same = files_cut c.args.library.now c.grow_coming-grown.new.library c.forget.new.self c.len-files.result c.in-Ok.ensures.behind len c.forget.ensures.files in
    subst (GoesOn c.args.library.now) (sym same) (behind_same c.args.library.now)

pub returns-clause-extends : goal.returns-clause-extends
returns-clause-extends g c =
    subst (Extends c.args.symbols.now)
    (sym (names_cut c.args.symbols.now c.grow_coming-grown.new.symbols c.forget.new.symbols c.len-names.result c.in-Ok.ensures.extends c.len-names.ensures.value c.forget.ensures.names))
    (extends_same c.args.symbols.now)
