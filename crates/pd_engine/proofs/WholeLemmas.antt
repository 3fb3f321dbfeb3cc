-- A tree stands in a run, and so its blocks are whole.
use Rattle.std.proofs.Common.{◌≡◌, ℕ, zero, suc, ◌+◌, ◌-◌, ◌<◌, ◌≤◌, arith, Bool, true, false, if◌then◌else◌, nat_le, nat_lt, List, [], Option, refl, sym, ap, ◌∙◌, subst}
use Rattle.std.specs.Prelude.{Some, None}
use Rattle.pd_io.specs.declared.files.FileRow.{FileRow}
use Rattle.pd_atom.specs.Names.{Names, Extends}
use Rattle.pd_library.specs.Files.{answer_in}
use Rattle.pd_growth.specs.Steps.{beginning}
use Rattle.pd_regrowth_law.proofs.StepLemmas.{extends_same}
use Rattle.pd_regrowth_law.proofs.SuitLemmas.{texts_of_sound}
use Rattle.pd_gather.proofs.KnownLemmas.{library_of}
use Rattle.pd_alike_law.specs.Alike.{OwnAlike}
use Rattle.pd_alike_law.proofs.NameLemmas.{grown_alike}
use Rattle.pd_canvas.specs.Pages.{Page}
use Rattle.pd_clock.specs.declared.times.Rate.{Rate}
use Rattle.pd_clock.specs.Queue.{Clock}
use Rattle.pd_tree.specs.declared.rows.Sheet.{Sheet}
use Rattle.pd_tree.specs.Trees.{Trees, Tree, weight}
use Rattle.pd_turns.specs.Turns.{World}
use Rattle.pd_hearing.specs.Worlds.{Kept}
use Rattle.pd_walk.specs.Outcome.{all_loaded}
use Rattle.pd_grove.specs.Standing.{GroveStands}
use Rattle.pd_grove.specs.TextOrder.{deep, keys_in_order}
use Rattle.pd_patch.specs.declared.patch.Patch.{Patch}
use Rattle.pd_patch.specs.Orders.{AreOrdered}
use Rattle.pd_patch.specs.Report.{loads_among}
use Rattle.pd_kind.specs.Forming.{cut_atoms}
use Rattle.pd_script.specs.declared.commands.Command.{Command}
use Rattle.pd_script.specs.declared.commands.Command.TheVariants as command
use Rattle.pd_block.specs.Nets as block
use Rattle.pd_block.specs.Blocks.{block_within, block_of}
use Rattle.pd_patch.proofs.BuiltLemmas.{is_built}
use Rattle.pd_wiring.proofs.BuiltLemmas.{runs_rewire}
use Rattle.pd_stage.specs.Choices.{Base, Wanted, Choice}
use Rattle.pd_stage.specs.Lawful.{AreLawful}
use Rattle.pd_stage.specs.Stages.{Stage, Taken, Passage, still, followed_by}
use Rattle.pd_stage.specs.Events.{Beginning, Message, Loading, Firing, with_kept, going_on, delivered, event, edit_event}
use Rattle.pd_web.specs.Changes.{wires_told}
use Rattle.pd_adding.specs.Counts.{AreWithin}
use Rattle.pd_stage.specs.Times.{with_wires, with_played, with_time, block_units, block_net, sound_at, played_at, taken_off, with_taken, with_fired, fires, fires_or_not, fires_below, next_clock, most_fired, clocks_fire, block_sounds, block_runs, blocks_run, comes_to, advanced, finished}
use Rattle.pd_stage.proofs.LeadLemmas.{lawful_first, lawful_second}
use Rattle.pd_stage.specs.Trees.{HasTree, HasOwners}
use Rattle.pd_stage.proofs.EditLemmas.{LoadsKeep, event_keeps, edit_event_keeps}
use Rattle.pd_engine.specs.Messages.{message_in}
use Rattle.pd_engine.specs.Commands.{commanded}
use Rattle.pd_engine.specs.Opening.{Grows, opened, first_stage}
use Rattle.pd_engine.proofs.TreeLemmas.{altered_tree, HasBoth, named_owners}

-- where only clocks, times, names, blocks of outlets and what boxes keep are others
pub tree_on : (s r : Stage) → block_net r ≡ block.with_clocks (block_net s) r.clocks → r.base ≡ s.base → HasTree s → HasTree r
tree_on s r e base t = record {
  patch = t.patch;
  tree = t.tree;
  stands = t.stands;
  of = record {
    web = t.of.web;
    links = t.of.links;
    orders = t.of.orders;
    net = e ∙ ap (λ (n : block.Net). block.with_clocks n r.clocks) t.of.net;
    rewires = t.of.rewires;
  };
  shallow = t.shallow;
  boxes = ap (λ (b : Base). b.counts.boxes) base ∙ t.boxes;
  wires = ap (λ (b : Base). b.counts.wires) base ∙ t.wires ∙ sym (ap (λ (n : block.Net). wires_told n.web) e);
  within = subst (λ (b : Base). AreWithin b.counts) (sym base) t.within;
  own = t.own;
  apart = t.apart;
}

-- the same with the owners of names, where names go on
pub both_on : (s r : Stage) → block_net r ≡ block.with_clocks (block_net s) r.clocks → r.base ≡ s.base → r.file ≡ s.file → Extends s.names r.names → HasBoth s → HasBoth r
unfolding tree_on
both_on s r e base file more t = record { tree = tree_on s r e base t.tree; owners = named_owners s r t.tree.patch t.tree.tree file more t.owners }

-- a part of a run in which each edit is lawful keeps a tree
abbrev pub Stays : Stage → Passage → Type 0
Stays s q = HasTree s → AreLawful q.edits → HasTree q.stage

either_of : (s : Stage) (b : Bool) (q r : Passage) → Stays s q → Stays s r → Stays s (if b then q else r)
either_of s true q r h k = h
either_of s false q r h k = k

then_of : (s : Stage) (q : Passage) (next : Stage → Passage) → Stays s q → ((r : Stage) → Stays r (next r)) → Stays s (followed_by q next)
then_of s q next first rest h lawful =
    let more : List Taken = (next q.stage).edits in
    rest q.stage (first h (lawful_first q.edits more lawful)) (lawful_second q.edits more lawful)

-- edits and events

-- deliveries leave the tree as it is
loads_of : LoadsKeep all_loaded HasTree
loads_of boxes l s h = let w : World Kept = all_loaded s.net s.time (going_on s l) boxes in tree_on s (with_kept s w.kept) refl refl h

pub event_of : (s : Stage) (b : Beginning) → Stays s (event s b)
event_of s b h lawful = event_keeps HasTree (λ r q a k. altered_tree r q a k) loads_of s b lawful (tree_on s (with_kept s (delivered s b).kept) refl refl h)

pub edit_event_of : (wanted : Wanted) (s : Stage) → Stays s (edit_event wanted s)
edit_event_of wanted s h lawful = edit_event_keeps HasTree (λ r q a k. altered_tree r q a k) loads_of wanted s lawful h

-- clocks and blocks

pub sounds_of : (s : Stage) → HasTree s → HasTree (block_sounds s).stage
unfolding block_sounds
sounds_of s h = tree_on s (with_played s (played_at s)) refl refl h

fires_of : (s : Stage) (c : Clock) → Stays s (fires s c)
fires_of s c h lawful =
    let r : Stage = with_fired (with_taken s (taken_off s.clocks)) c.time in
    event_of r (Firing c.owner) (tree_on s r refl refl h) lawful

clock_of : (s : Stage) (rest : Stage → Passage) (o : Option Clock) → ((r : Stage) → Stays r (rest r)) → Stays s (fires_or_not s rest o)
clock_of s rest None f h lawful = h
clock_of s rest (Some c) f h lawful = then_of s (fires s c) rest (fires_of s c) f h lawful

fires_below_of : (n limit : ℕ) (s : Stage) → Stays s (fires_below n limit s)
unfolding fires_below
fires_below_of zero limit s h lawful = h
fires_below_of (suc n) limit s h lawful = clock_of s (fires_below n limit) (next_clock limit s.clocks) (λ r. fires_below_of n limit r) h lawful

pub clocks_of : (limit : ℕ) (s : Stage) → Stays s (clocks_fire limit s)
clocks_of limit s h lawful = fires_below_of (most_fired - s.fired) limit s h lawful

block_runs_of : (s : Stage) → Stays s (block_runs s)
block_runs_of s h lawful = then_of s (clocks_fire s.block_end s) block_sounds (clocks_of s.block_end s) (λ r k l. sounds_of r k) h lawful

blocks_run_of : (n to : ℕ) (s : Stage) → Stays s (blocks_run n to s)
unfolding blocks_run
blocks_run_of zero to s h lawful = h
blocks_run_of (suc n) to s h lawful =
    either_of s (nat_le s.block_end to) (followed_by (block_runs s) (blocks_run n to)) (still s)
    (then_of s (block_runs s) (blocks_run n to) (block_runs_of s) (λ r. blocks_run_of n to r)) (λ k l. k) h lawful

comes_of : (to : ℕ) (s : Stage) → Stays s (comes_to to s)
comes_of to s h lawful =
    let r : Stage = (clocks_fire to s).stage in
    let k : HasTree r = clocks_of to s h (lawful_first (clocks_fire to s).edits [] lawful) in
    tree_on r (with_time to r) refl refl k

pub advanced_of : (to : ℕ) (s : Stage) → Stays s (advanced to s)
advanced_of to s h lawful = then_of s (blocks_run (to + 1) to s) (comes_to to) (blocks_run_of (to + 1) to s) (comes_of to) h lawful

pub finished_of : (s : Stage) → Stays s (finished s)
finished_of s h lawful = either_of s (nat_lt s.block_end (s.time + block_units)) (block_runs s) (still s) (block_runs_of s) (λ k l. k) h lawful

pub commanded_of : (c : Command) (s : Stage) → Stays s (commanded c s)
unfolding commanded
commanded_of (command.Send name atoms) s h lawful = event_of s (Message name (message_in atoms).selector (cut_atoms (message_in atoms).atoms)) h lawful
commanded_of (command.Edit place edit) s h lawful = edit_event_of _ s h lawful
commanded_of (command.Save document) s h lawful = edit_event_of _ s h lawful
commanded_of (command.Show path) s h lawful = h
commanded_of command.Undo s h lawful = edit_event_of _ s h lawful
commanded_of command.Redo s h lawful = edit_event_of _ s h lawful

-- ---- where a patch opens

module _ (holds : Option (List FileRow)) (name : List ℕ) (rate : Rate) (d : Page) (names table : Names) (p : Patch) (base : Base) (ahead : List Choice)
    (g : Grows holds name rate d names p table base) where
  pub first_tree : HasTree (first_stage name p table base ahead)
  first_tree = record {
    patch = p;
    tree = g.tree.tree;
    stands = g.tree.stands;
    of = record { web = p.web; links = p.links; orders = p.orders; net = refl; rewires = runs_rewire p table name rate (is_built p table name rate g.fresh) };
    shallow = (let low = g.tree.shallow in omega (arith, low));
    boxes = g.first.counted.boxes ∙ ap (λ (t : Tree). weight t.boxes) g.first.tree_is;
    wires = g.first.counted.wires;
    within = g.first.within;
    own = g.fresh.own;
    apart = g.fresh.apart;
  }

  -- where a patch has grown each name has its owners, and its boxes own the same in each table that goes on
  pub first_owners : HasOwners (first_stage name p table base ahead) p g.tree.tree
  first_owners = record {
    table = table;
    goes_on = extends_same table;
    owners = g.fresh.owners;
    alike = λ more x. subst (λ (n : Names). OwnAlike n more name g.tree.tree.boxes) (sym g.tree.given.table)
        (grown_alike (answer_in g.files.files) name d (beginning g.files.names 1001) g.tree.given.after g.tree.tree more (library_of g.files.names g.files.files g.found)
        (texts_of_sound g.files.names d g.proper.sound) g.tree.given.step (subst (λ (n : Names). Extends n more) g.tree.given.table x));
  }

  pub first_both : HasBoth (first_stage name p table base ahead)
  unfolding first_tree
  first_both = record { tree = first_tree; owners = first_owners }

  pub opened_of : AreLawful (opened name p table base ahead).edits → HasTree (opened name p table base ahead).stage
  opened_of lawful = event_of (first_stage name p table base ahead) (Loading (loads_among p.grove (keys_in_order p.grove))) first_tree lawful

-- what pd_block says of the levels of a patch whose tree stands
abbrev pub LevelsAreEnough : Type 0
LevelsAreEnough = (p : Patch) (s : Sheet) (t : Trees) → GroveStands p.grove s t → AreOrdered p.grove p.web p.orders.items → deep t ≤ 256 →
    (clocks : List Clock) (sound : block.Sound) (start levels : ℕ) → deep t < levels →
    block_within levels (block.with_clocks (block.net_of p) clocks) sound start ≡ block_of (block.with_clocks (block.net_of p) clocks) sound start

pub whole_block : (enough : LevelsAreEnough) (s : Stage) (levels : ℕ) → HasTree s → 256 ≤ levels → block_within levels (block_net s) (sound_at s) (s.block_end - block_units) ≡ played_at s
whole_block enough s levels t l =
    let shallow : deep t.tree.boxes ≤ 255 = t.shallow in
    subst (λ (n : block.Net). block_within levels n (sound_at s) (s.block_end - block_units) ≡ block_of n (sound_at s) (s.block_end - block_units)) (sym t.of.net)
    (enough (with_wires t.patch t.of.web t.of.links t.of.orders) t.tree.sheet t.tree.boxes t.stands t.of.rewires.orders (omega (arith, shallow)) s.clocks (sound_at s) (s.block_end - block_units) levels
    (omega (arith, shallow, l)))
