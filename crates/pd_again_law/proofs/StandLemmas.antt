-- An edit of a run leaves a tree that grows again from its own document, whatever wires and boxes came, went and moved, and whatever boxes became.
use Rattle.std.proofs.Common.{◌≡◌, ◌≤◌, inl, inr, ℕ, ℤ, List, [], length, Option, Some, None, refl, sym, ap, ◌∙◌, subst, arith}
use Rattle.std.specs.Prelude.{option_map}
use Rattle.slab.specs.Slab.{get}
use Rattle.pd_atom.specs.Names.{Names, Extends, IsTable}
use Rattle.pd_atom.specs.declared.Atom.{Atom}
use Rattle.pd_canvas.specs.declared.edits.Edit.{Edit}
use Rattle.pd_canvas.specs.declared.edits.Edit.TheVariants as edit
use Rattle.pd_canvas.specs.Proper.{IsProper}
use Rattle.pd_clock.specs.declared.times.Rate.{Rate}
use Rattle.pd_kind.specs.declared.states.State.{State}
use Rattle.pd_kind.specs.Fit.{blank}
use Rattle.pd_object.specs.declared.kinds.Kind.{Kind}
use Rattle.pd_library.specs.declared.answers.Answer.{Answer}
use Rattle.pd_library.specs.Files.{answer_in}
use Rattle.pd_tree.specs.Trees.{Tree, weight, document_in}
use Rattle.pd_grove.specs.Telling.{kind_in}
use Rattle.pd_grove.specs.TextOrder.{deep}
use Rattle.pd_patch.specs.declared.patch.Patch.{Patch}
use Rattle.pd_patch.specs.Sounds.{sound_of}
use Rattle.pd_gather.specs.Gather.{Known, GoesOn}
use Rattle.pd_wiring.specs.Plans.{Plan, Attaches, Detaches, IsCarriedOut}
use Rattle.pd_hearing.specs.Worlds.{Net, net_of, states_of}
use Rattle.pd_reload_law.specs.Reloading.{RunsAs}
use Rattle.pd_putting_law.specs.Again.{StandsAgain}
use Rattle.pd_taking_law.specs.Takes.{taken_at}
use Rattle.pd_steady.specs.PassedOn.{cell_become, kinds_of, blank_of, KeepsOfKind, Base, base_of, Wanted, Edits, Asks, Saves, Undoes, Redoes, Made, Choice, Refuses, Lacks, Makes, StandsAt, known_at, IsMade, IsShort, IsRewiringLawful, IsPutIn, IsUnputForRoom, IsPutLawful, IsTakenOut, IsLeftInForRoom, IsTakingLawful, IsMovedTo, IsLeftAtForRoom, IsMovingLawful, IsRetypedTo, IsUnretypedForRoom, IsRetypingLawful, IsEditLawful, IsSaved, MayCome, Stage, with_ahead, with_net, stage_by}
use Rattle.pd_retyping_law.specs.Retypes.{retyped_at}
use Rattle.pd_boxes.specs.Put.{CanPut}
use Rattle.pd_boxes.specs.Room.{SameButRoom}
use Rattle.pd_putting_law.specs.Puts.{put_at}
use Rattle.pd_shifted_law.specs.Shifts.{shifted_at}
use Rattle.pd_put_law.proofs.OwnerLemmas.{room_own}
use Rattle.pd_put_law.proofs.RoomLemmas as room
use Rattle.pd_put_law.proofs.WrittenLemmas.{room_contents}
use Rattle.pd_steady.proofs.PassedOn.{longer}
use Rattle.pd_contents_law.proofs.SettledLemmas.{onward}
use Rattle.pd_proper_law.proofs.SavableLemmas.{kinds_savable}
use Rattle.pd_steady.specs.Steady.{IsSteady}
use Rattle.pd_steady.proofs.FairLemmas.{IsRefusal, IsFair}
use Rattle.pd_again_law.specs.Again.{TakesNoNumber, BringsNoNumber, KeepsNumbers, LeavesNumbers}
use Rattle.pd_again_law.proofs.NumberLemmas.{HasFirstNumbers, still_first, put_first, goes_behind}
use Rattle.pd_again_law.proofs.HeldLemmas.{Settled, IsHeld, bare_kind, NetHeld, told, held_in, held_edit, held_room}
use Rattle.pd_again_law.proofs.PutLemmas.{PutLaws}
use Rattle.pd_again_law.proofs.PutLemmas as put
use Rattle.pd_again_law.proofs.TakeLemmas.{TakeLaws}
use Rattle.pd_again_law.proofs.TakeLemmas as take
use Rattle.pd_again_law.proofs.ShiftLemmas.{ShiftLaws}
use Rattle.pd_again_law.proofs.ShiftLemmas as shift
use Rattle.pd_again_law.proofs.RetypeLemmas.{RetypeLaws}
use Rattle.pd_again_law.proofs.RetypeLemmas as retype

-- ---- what is so of a stage of a run

-- as many boxes are counted as a tree has, and as many values of tables, arrays and delay lines
pub record HasCounted (rate : Rate) (b : Base) (t : Tree) : Type 0 where
  pub boxes : b.counts.boxes ≡ weight t.boxes
  pub sound : b.counts.sound ≡ sound_of rate t.boxes

enough : (a b : ℕ) → 6 ≤ a → a ≤ b → 6 ≤ b
enough a b h k = omega (arith, h, k)

pub six_more : (names more : Names) → Extends names more → 6 ≤ length names → 6 ≤ length more
six_more names more x h = enough (length names) (length more) h (longer names more x)

-- wherever the table of names goes on, the document of the tree is proper in it
abbrev pub StaysProper : Names → Tree → Type 0
StaysProper names t = (more : Names) → Extends names more → IsTable more → IsProper more (document_in t)

-- what the laws say of edits of boxes
pub record EditLaws : Type 0 where
  pub puts : PutLaws
  pub takes : TakeLaws
  pub shifts : ShiftLaws
  pub retypes : RetypeLaws

-- `clean` is what leaves the `$0` numbers of the tree the first ones
module _ (library : List (ℕ × Answer)) (rate : Rate) (name : List ℕ) (clean : Type 0) where
  -- A tree stands in each patch of which the stage tells, and grows again from its own document. What was known of files where the patch opened is known
  -- still, and as many boxes and values are counted as it has.
  pub record IsStanding (s : Stage) : Type 0 where
    pub file : s.file ≡ name
    pub rates : s.net.rate ≡ rate
    pub six : 6 ≤ length s.names
    pub tree : Tree
    pub low : deep tree.boxes ≤ 256
    pub again : StandsAgain (answer_in s.base.files) s.file s.names tree
    pub proper : StaysProper s.names tree
    pub numbers : clean → HasFirstNumbers tree
    pub files : GoesOn library s.base.files
    pub counted : HasCounted rate s.base tree
    pub held : NetHeld s.file s.names s.states tree s.net

  pub ahead_stands : (s : Stage) (ahead : List Choice) → IsStanding s → IsStanding (with_ahead s ahead)
  ahead_stands s ahead h = record {
    file = h.file;
    rates = h.rates;
    six = h.six;
    tree = h.tree;
    low = h.low;
    again = h.again;
    proper = h.proper;
    numbers = h.numbers;
    files = h.files;
    counted = h.counted;
    held = h.held;
  }

  -- a patch that stands at a stage
  held_at : (s : Stage) (p : Patch) (h : IsStanding s) → StandsAt p s → IsHeld s.file s.names s.states h.tree p
  held_at s p h at = h.held p (told s.net p at.net)

  rate_at : (s : Stage) (p : Patch) → IsStanding s → StandsAt p s → p.rate ≡ rate
  rate_at s p h at = sym (ap (λ (n : Net). n.rate) at.net) ∙ h.rates

  -- a stage with other wires
  rewired_stands : (s : Stage) (net : Net) (base : Base) (p q : Patch) (h : IsStanding s) → StandsAt p s → net ≡ net_of q → q.rate ≡ p.rate → base.files ≡ s.base.files
      → base.counts.boxes ≡ s.base.counts.boxes → base.counts.sound ≡ s.base.counts.sound → IsHeld s.file s.names s.states h.tree q
      → StandsAgain (answer_in base.files) s.file s.names h.tree × HasCounted rate base h.tree × NetHeld s.file s.names s.states h.tree net × (net.rate ≡ rate)
  rewired_stands s net base p q h at is same files boxes sound held = (
    subst (λ (fs : _). StandsAgain (answer_in fs) s.file s.names h.tree) (sym files) h.again,
    record { boxes = boxes ∙ h.counted.boxes; sound = sound ∙ h.counted.sound },
    held_in s.file s.names s.states h.tree q net is held,
    ap (λ (n : Net). n.rate) is ∙ same ∙ rate_at s p h at,
  )

  made_stands : (s : Stage) (path : List ℕ) (e : Edit) (m : Made) → IsMade s path e m → IsStanding s → IsStanding (stage_by s (Makes m))
  made_stands s path e m x h =
      let held : IsHeld s.file s.names s.states h.tree x.new =
      held_edit s.file s.names s.states h.tree h.low x.old x.new path e x.canvas x.stands.puts.runs x.rewired (held_at s x.old h x.stands) in
      let rest = rewired_stands s m.net m.base x.old x.new h x.stands x.net (rate_kept x.rewired.plan x.old x.new x.rewired.done) (ap (λ (b : Base). b.files) x.base)
      (ap (λ (b : Base). b.counts.boxes) x.base) (ap (λ (b : Base). b.counts.sound) x.base) held in
      record {
        file = h.file;
        rates = rest.3;
        six = subst (λ (ns : Names). 6 ≤ length ns) (sym x.names) h.six;
        tree = h.tree;
        low = h.low;
        again = subst (λ (ns : Names). StandsAgain (answer_in m.base.files) s.file ns h.tree) (sym x.names) rest.0;
        proper = subst (λ (ns : Names). StaysProper ns h.tree) (sym x.names) h.proper;
        numbers = h.numbers;
        files = subst (GoesOn library) (sym (ap (λ (b : Base). b.files) x.base)) h.files;
        counted = rest.1;
        held = subst (λ (ns : Names). NetHeld s.file ns m.states h.tree m.net) (sym x.names)
            (subst (λ (f : ℕ → Option State). NetHeld s.file s.names f h.tree m.net) (sym x.states) rest.2);
      }
    where
      rate_kept : (plan : Plan) (p q : Patch) → IsCarriedOut plan p q → q.rate ≡ p.rate
      rate_kept (Attaches c l) p q d = d.rest.rate
      rate_kept (Detaches c key l) p q d = d.rest.rate

  short_stands : (s : Stage) (path : List ℕ) (e : Edit) (net : Net) → IsShort s path e net → IsStanding s → IsStanding (with_net s net)
  short_stands s path e net x h =
      let held : IsHeld s.file s.names s.states h.tree x.new =
      held_room s.file s.names s.states h.tree h.low x.old x.new x.same (held_at s x.old h x.stands) in
      let rest = rewired_stands s net s.base x.old x.new h x.stands x.net_is x.same.rate refl refl refl held in
      record { file = h.file; rates = rest.3; six = h.six; tree = h.tree; low = h.low; again = rest.0; proper = h.proper; numbers = h.numbers; files = h.files; counted = rest.1; held = rest.2 }

  -- a patch that stands at a steady stage
  keeps_at : (most : ℕ) (s : Stage) (p : Patch) → IsSteady most s → StandsAt p s → KeepsOfKind (kinds_of p) (states_of p)
  keeps_at most s p steady at k =
      let kind : kind_in (s.net.nodes k) ≡ kinds_of p k = ap (λ (n : Net). kind_in (n.nodes k)) at.net ∙ bare_kind (get p.grove.nodes k) in
      ap (λ (f : ℕ → Option State). option_map blank (f k)) (sym at.states) ∙ steady.ready.kinds k ∙ ap (λ (o : Option Kind). option_map blank_of o) kind

  pub runs_at : (most : ℕ) (s : Stage) (p : Patch) (h : IsStanding s) → IsSteady most s → StandsAt p s → RunsAs p.grove h.tree
  runs_at most s p h steady at =
      record { stands = (held_at s p h at).stands; shallow = h.low; savable = kinds_savable p (keeps_at most s p steady at) }

  -- an edit that put a box
  module _ (puts : PutLaws) (most : ℕ) (s : Stage) (path : List ℕ) (e : Edit) (m : Made) (x : IsPutIn s path e m) (leaves : clean → BringsNoNumber s path e (Makes m))
      (steady : IsSteady most s) (h : IsStanding s) where
    abbrev can : CanPut x.old
    can = x.stands.puts

    abbrev before : Known
    before = known_at s

    abbrev now : Tree
    now = put_at path x.adds.added.boxes h.tree

    was : IsHeld s.file s.names s.states h.tree x.old
    was = held_at s x.old h x.stands

    runs : RunsAs x.old.grove h.tree
    runs = runs_at most s x.old h steady x.stands

    again : StandsAgain (answer_in x.after.files) s.file x.after.names now
    again = puts.again x.old x.new s.base.counts s.file path s.time e before x.after x.box h.tree x.adds can runs h.again

    new_runs : RunsAs x.new.grove now
    new_runs = puts.runs x.old x.new s.base.counts s.file path s.time e before x.after x.box h.tree x.adds can runs h.again

    on : Extends s.names x.after.names
    on = puts.names x.old x.new s.base.counts s.file path s.time e before x.after x.box x.adds

    counted : HasCounted rate (base_of x.after.files x.box.counts) now
    counted = record {
      boxes = puts.boxes x.old x.new s.base.counts s.file path s.time e before x.after x.box h.tree x.adds can runs h.counted.boxes;
      sound = subst (λ (r : Rate). x.box.counts.sound ≡ sound_of r now.boxes) (rate_at s x.old h x.stands)
          (puts.sound x.old x.new s.base.counts s.file path s.time e before x.after x.box h.tree x.adds can runs
          (subst (λ (r : Rate). s.base.counts.sound ≡ sound_of r h.tree.boxes) (sym (rate_at s x.old h x.stands)) h.counted.sound));
    }

    files : GoesOn library x.after.files
    files = goes_behind library s.base.files x.after.files h.files
        (subst (GoesOn s.base.files) (sym (ap (λ (k : Known). k.files) (x.adds.known_is ∙ x.adds.grew.known_is))) x.adds.grew.behind)

    few : weight now.boxes ≤ 16384
    few = as_few (weight now.boxes) x.box.counts.boxes 16384 counted.boxes (subst (λ (b : Base). b.counts.boxes ≤ 16384) x.base x.within.boxes)
      where
        as_few : (a b c : ℕ) → b ≡ a → b ≤ c → a ≤ c
        as_few a b c e l = omega (arith, e, l)

    held : IsHeld s.file x.after.names (states_of x.new) now x.new
    held = record {
      stands = new_runs.stands;
      fit = puts.fit x.old x.new s.base.counts s.file path s.time e before x.after x.box x.adds can was.fit;
      holds = puts.holds x.old x.new s.base.counts s.file path s.time e before x.after x.box h.tree x.adds can runs was.holds;
      owners = puts.owners x.old x.new s.base.counts s.file path s.time e before x.after x.box h.tree x.adds runs h.again was.owners;
      contents = puts.contents x.old x.new s.base.counts s.file path s.time e before x.after x.box h.tree x.adds can runs h.again
          (subst (λ (f : ℕ → Option State). Settled x.old s.names f) x.stands.states was.contents);
    }

    put_stands : IsStanding (stage_by s (Makes m))
    put_stands = record {
      file = h.file;
      rates = ap (λ (n : Net). n.rate) x.net ∙ put.same_rate x.old x.new s.time x.adds.added x.box.key x.adds.put ∙ rate_at s x.old h x.stands;
      six = subst (λ (ns : Names). 6 ≤ length ns) (sym x.names) (six_more s.names x.after.names on h.six);
      tree = now;
      low = new_runs.shallow;
      again = subst (λ (b : Base). StandsAgain (answer_in b.files) s.file m.names now) (sym x.base)
          (subst (λ (ns : Names). StandsAgain (answer_in x.after.files) s.file ns now) (sym x.names) again);
      proper = λ more on_more table.
          let later : Extends x.after.names more = subst (λ (ns : Names). Extends ns more) x.names on_more in
          puts.proper x.old x.new s.base.counts s.file path s.time e before x.after x.box h.tree more x.adds can runs h.again later table few
          (h.proper more (onward s.names x.after.names more on later) table);
      numbers = λ k. put_first x.adds.added.boxes (leaves k x) path h.tree (h.numbers k);
      files = subst (λ (b : Base). GoesOn library b.files) (sym x.base) files;
      counted = subst (λ (b : Base). HasCounted rate b now) (sym x.base) counted;
      held = held_in s.file m.names m.states now x.new m.net x.net
          (subst (λ (ns : Names). IsHeld s.file ns m.states now x.new) (sym x.names)
          (subst (λ (f : ℕ → Option State). IsHeld s.file x.after.names f now x.new) (sym x.states) held));
    }

  -- there is more room for boxes
  room_stands : (most : ℕ) (s : Stage) (net : Net) (p q : Patch) → StandsAt p s → SameButRoom p q → net ≡ net_of q → IsSteady most s → IsStanding s → IsStanding (with_net s net)
  room_stands most s net p q at same is steady h =
      let was : IsHeld s.file s.names s.states h.tree p = held_at s p h at in
      let held : IsHeld s.file s.names s.states h.tree q = record {
        stands = (room.room_runs p.grove q.grove same.grove h.tree (runs_at most s p h steady at)).stands;
        fit = room.room_fits p q same was.fit;
        holds = room.room_holds p q same h.tree was.holds;
        owners = room_own p q s.names s.file same was.owners;
        contents = room_contents p q s.names s.states same was.contents;
      } in
      record {
        file = h.file;
        rates = ap (λ (n : Net). n.rate) is ∙ same.rate ∙ rate_at s p h at;
        six = h.six;
        tree = h.tree;
        low = h.low;
        again = h.again;
        proper = h.proper;
        numbers = h.numbers;
        files = h.files;
        counted = h.counted;
        held = held_in s.file s.names s.states h.tree q net is held;
      }

  -- a box could have come
  unput_stands : (most : ℕ) (s : Stage) (path : List ℕ) (e : Edit) (net : Net) → IsUnputForRoom s path e net → IsSteady most s → IsStanding s → IsStanding (with_net s net)
  unput_stands most s path e net x steady h = room_stands most s net x.old x.new x.stands x.short.room x.net_is steady h

  -- an edit that took a box out
  module _ (takes : TakeLaws) (most : ℕ) (s : Stage) (path : List ℕ) (number : ℕ) (m : Made) (x : IsTakenOut s path number m) (leaves : clean → TakesNoNumber s path number (Makes m))
      (steady : IsSteady most s) (h : IsStanding s) where
    abbrev less : Tree
    less = taken_at path number h.tree

    stood : IsHeld s.file s.names s.states h.tree x.old
    stood = held_at s x.old h x.stands

    ran : RunsAs x.old.grove h.tree
    ran = runs_at most s x.old h steady x.stands

    goes_on_running : RunsAs x.new.grove less
    goes_on_running = takes.runs x.old x.new s.base.counts s.names path number x.steps x.steps' x.box h.tree x.deletes x.stands.puts ran

    grows_less : StandsAgain (answer_in s.base.files) s.file s.names less
    grows_less =
        takes.again x.old x.new s.base.counts s.names path number x.steps x.steps' x.box h.tree x.deletes x.stands.puts ran
        (answer_in s.base.files) s.file s.names h.again

    fewer_counted : HasCounted rate (base_of s.base.files x.box.counts) less
    fewer_counted = record {
      boxes = takes.boxes x.old x.new s.base.counts s.names path number x.steps x.steps' x.box h.tree x.deletes x.stands.puts ran h.counted.boxes;
      sound = subst (λ (r : Rate). x.box.counts.sound ≡ sound_of r less.boxes) (rate_at s x.old h x.stands)
          (takes.sound x.old x.new s.base.counts s.names path number x.steps x.steps' x.box h.tree x.deletes x.stands.puts ran
          (subst (λ (r : Rate). s.base.counts.sound ≡ sound_of r h.tree.boxes) (sym (rate_at s x.old h x.stands)) h.counted.sound));
    }

    held_less : IsHeld s.file s.names (states_of x.new) less x.new
    held_less = record {
      stands = goes_on_running.stands;
      fit = takes.fit x.old x.new s.base.counts s.names path number x.steps x.steps' x.box x.deletes x.stands.puts x.stands.meet stood.fit;
      holds = takes.holds x.old x.new s.base.counts s.names path number x.steps x.steps' x.box h.tree x.deletes x.stands.puts ran stood.holds;
      owners = takes.owners x.old x.new s.base.counts s.names path number x.steps x.steps' x.box x.deletes s.file stood.owners;
      contents = takes.contents x.old x.new s.base.counts s.names path number x.steps x.steps' x.box s.names x.deletes x.stands.puts
          (subst (λ (f : ℕ → Option State). Settled x.old s.names f) x.stands.states stood.contents);
    }

    take_stands : IsStanding (stage_by s (Makes m))
    take_stands = record {
      file = h.file;
      rates = ap (λ (n : Net). n.rate) x.net ∙ take.same_rate x.old x.new s.base.counts s.names path number x.steps x.steps' x.box x.deletes ∙ rate_at s x.old h x.stands;
      six = subst (λ (ns : Names). 6 ≤ length ns) (sym x.names) h.six;
      tree = less;
      low = goes_on_running.shallow;
      again = subst (λ (b : Base). StandsAgain (answer_in b.files) s.file m.names less) (sym x.base)
          (subst (λ (ns : Names). StandsAgain (answer_in s.base.files) s.file ns less) (sym x.names) grows_less);
      proper = subst (λ (ns : Names). StaysProper ns less) (sym x.names) (λ more on table.
          takes.proper x.old x.new s.base.counts s.names path number x.steps x.steps' x.box h.tree more x.deletes x.stands.puts ran (h.proper more on table));
      numbers = λ k. still_first h.tree less (leaves k x h.tree ran) (h.numbers k);
      files = subst (λ (b : Base). GoesOn library b.files) (sym x.base) h.files;
      counted = subst (λ (b : Base). HasCounted rate b less) (sym x.base) fewer_counted;
      held = held_in s.file m.names m.states less x.new m.net x.net
          (subst (λ (ns : Names). IsHeld s.file ns m.states less x.new) (sym x.names)
          (subst (λ (f : ℕ → Option State). IsHeld s.file s.names f less x.new) (sym x.states) held_less));
    }

  -- a box could have gone
  left_stands : (s : Stage) (path : List ℕ) (number : ℕ) (net : Net) → IsLeftInForRoom s path number net → IsStanding s → IsStanding (with_net s net)
  left_stands s path number net x h =
      let held : IsHeld s.file s.names s.states h.tree x.new =
      held_room s.file s.names s.states h.tree h.low x.old x.new x.short.room (held_at s x.old h x.stands) in
      let rest = rewired_stands s net s.base x.old x.new h x.stands x.net_is x.short.room.rate refl refl refl held in
      record { file = h.file; rates = rest.3; six = h.six; tree = h.tree; low = h.low; again = rest.0; proper = h.proper; numbers = h.numbers; files = h.files; counted = rest.1; held = rest.2 }

  -- an edit that moved a box
  module _ (shifts : ShiftLaws) (most : ℕ) (s : Stage) (path : List ℕ) (number : ℕ) (a b : ℤ) (m : Made) (x : IsMovedTo s path number a b m) (steady : IsSteady most s) (h : IsStanding s) where
    abbrev moved : Tree
    moved = shifted_at path number a b h.tree

    there : IsHeld s.file s.names s.states h.tree x.old
    there = held_at s x.old h x.stands

    ran_there : RunsAs x.old.grove h.tree
    ran_there = runs_at most s x.old h steady x.stands

    runs_moved : RunsAs x.new.grove moved
    runs_moved = shifts.runs x.old x.new path number a b x.box h.tree x.moves x.stands.puts ran_there

    grows_moved : StandsAgain (answer_in s.base.files) s.file s.names moved
    grows_moved = shifts.again x.old x.new path number a b x.box h.tree x.moves x.stands.puts ran_there (answer_in s.base.files) s.file s.names h.again

    same_counted : HasCounted rate s.base moved
    same_counted = record {
      boxes = h.counted.boxes ∙ sym (shifts.boxes path number a b h.tree);
      sound = h.counted.sound ∙ sym (shifts.sound rate path number a b h.tree);
    }

    held_moved : IsHeld s.file s.names (states_of x.new) moved x.new
    held_moved = record {
      stands = runs_moved.stands;
      fit = shifts.fit x.old x.new path number a b x.box x.moves there.fit;
      holds = shifts.holds x.old x.new path number a b x.box h.tree x.moves x.stands.puts ran_there there.holds;
      owners = shifts.owners x.old x.new path number a b x.box s.names s.file x.moves there.owners;
      contents = shifts.contents x.old x.new path number a b x.box s.names x.moves x.stands.puts
          (subst (λ (f : ℕ → Option State). Settled x.old s.names f) x.stands.states there.contents);
    }

    moved_stands : IsStanding (stage_by s (Makes m))
    moved_stands = record {
      file = h.file;
      rates = ap (λ (n : Net). n.rate) x.net ∙ shift.same_rate x.old x.new path number a b x.box x.moves ∙ rate_at s x.old h x.stands;
      six = subst (λ (ns : Names). 6 ≤ length ns) (sym x.names) h.six;
      tree = moved;
      low = runs_moved.shallow;
      again = subst (λ (c : Base). StandsAgain (answer_in c.files) s.file m.names moved) (sym x.base)
          (subst (λ (ns : Names). StandsAgain (answer_in s.base.files) s.file ns moved) (sym x.names) grows_moved);
      proper = subst (λ (ns : Names). StaysProper ns moved) (sym x.names) (λ more on table.
          shifts.proper x.old x.new path number a b x.box h.tree more x.moves x.stands.puts ran_there (h.proper more on table));
      numbers = λ k. still_first h.tree moved (shifts.zeros path number a b h.tree) (h.numbers k);
      files = subst (λ (c : Base). GoesOn library c.files) (sym x.base) h.files;
      counted = subst (λ (c : Base). HasCounted rate c moved) (sym x.base) same_counted;
      held = held_in s.file m.names m.states moved x.new m.net x.net
          (subst (λ (ns : Names). IsHeld s.file ns m.states moved x.new) (sym x.names)
          (subst (λ (f : ℕ → Option State). IsHeld s.file s.names f moved x.new) (sym x.states) held_moved));
    }

  -- a box could have moved
  unmoved_stands : (s : Stage) (path : List ℕ) (number : ℕ) (net : Net) → IsLeftAtForRoom s path number net → IsStanding s → IsStanding (with_net s net)
  unmoved_stands s path number net x h =
      let held : IsHeld s.file s.names s.states h.tree x.new =
      held_room s.file s.names s.states h.tree h.low x.old x.new x.short.room (held_at s x.old h x.stands) in
      let rest = rewired_stands s net s.base x.old x.new h x.stands x.net_is x.short.room.rate refl refl refl held in
      record { file = h.file; rates = rest.3; six = h.six; tree = h.tree; low = h.low; again = rest.0; proper = h.proper; numbers = h.numbers; files = h.files; counted = rest.1; held = rest.2 }

  -- an edit that made a box another one
  module _ (retypes : RetypeLaws) (most : ℕ) (s : Stage) (path : List ℕ) (number : ℕ) (text : List Atom) (m : Made) (x : IsRetypedTo s path number text m) (steady : IsSteady most s) (h : IsStanding s)
    where
      abbrev known_then : Known
      known_then = known_at s

      abbrev other : Tree
      other = retyped_at path number (cell_become x.retypes.became) h.tree

      one_stood : IsHeld s.file s.names s.states h.tree x.old
      one_stood = held_at s x.old h x.stands

      one_ran : RunsAs x.old.grove h.tree
      one_ran = runs_at most s x.old h steady x.stands

      runs_other : RunsAs x.new.grove other
      runs_other = retypes.runs x.old x.new s.base.counts s.file path number text s.time known_then x.after x.steps x.steps' x.box h.tree x.retypes x.stands.puts one_ran h.again

      grows_other : StandsAgain (answer_in x.after.files) s.file x.after.names other
      grows_other = retypes.again x.old x.new s.base.counts s.file path number text s.time known_then x.after x.steps x.steps' x.box h.tree x.retypes x.stands.puts one_ran h.again

      names_go_on : Extends s.names x.after.names
      names_go_on = retypes.names x.old x.new s.base.counts s.file path number text s.time known_then x.after x.steps x.steps' x.box x.retypes

      files_go_on : GoesOn library x.after.files
      files_go_on = goes_behind library s.base.files x.after.files h.files
          (subst (GoesOn s.base.files) (sym (ap (λ (k : Known). k.files) (x.retypes.known_is ∙ x.retypes.grew.known_is))) x.retypes.grew.behind)

      other_counted : HasCounted rate (base_of x.after.files x.box.counts) other
      other_counted = record {
        boxes = retypes.boxes x.old x.new s.base.counts s.file path number text s.time known_then x.after x.steps x.steps' x.box h.tree x.retypes x.stands.puts one_ran h.counted.boxes;
        sound = subst (λ (r : Rate). x.box.counts.sound ≡ sound_of r other.boxes) (rate_at s x.old h x.stands)
            (retypes.sound x.old x.new s.base.counts s.file path number text s.time known_then x.after x.steps x.steps' x.box h.tree x.retypes x.stands.puts one_ran
            (subst (λ (r : Rate). s.base.counts.sound ≡ sound_of r h.tree.boxes) (sym (rate_at s x.old h x.stands)) h.counted.sound));
      }

      few_there : weight h.tree.boxes ≤ 16384
      few_there = subst (λ (n : ℕ). n ≤ 16384) h.counted.boxes steady.tree.within.boxes

      held_other : IsHeld s.file x.after.names (states_of x.new) other x.new
      held_other = record {
        stands = runs_other.stands;
        fit = retypes.fit x.old x.new s.base.counts s.file path number text s.time known_then x.after x.steps x.steps' x.box x.retypes x.stands.puts one_stood.fit;
        holds = retypes.holds x.old x.new s.base.counts s.file path number text s.time known_then x.after x.steps x.steps' x.box h.tree x.retypes x.stands.puts one_ran one_stood.holds;
        owners = retypes.owners x.old x.new s.base.counts s.file path number text s.time known_then x.after x.steps x.steps' x.box h.tree x.retypes x.stands.puts one_ran h.again one_stood.owners;
        contents = retypes.contents x.old x.new s.base.counts s.file path number text s.time known_then x.after x.steps x.steps' x.box h.tree x.retypes x.stands.puts one_ran h.again
            (subst (λ (f : ℕ → Option State). Settled x.old s.names f) x.stands.states one_stood.contents);
      }

      stays_proper : StaysProper x.after.names other
      stays_proper more on table =
          retypes.proper x.old x.new s.base.counts s.file path number text s.time known_then x.after x.steps x.steps' x.box h.tree more x.retypes x.stands.puts one_ran h.again on table few_there
          (h.proper more (onward s.names x.after.names more names_go_on on) table)

      retyped_stands : IsStanding (stage_by s (Makes m))
      retyped_stands = record {
        file = h.file;
        rates = ap (λ (n : Net). n.rate) x.net ∙ retype.same_rate x.old x.new s.base.counts s.file path number text s.time known_then x.after x.steps x.steps' x.box x.retypes ∙ rate_at s x.old h x.stands;
        six = subst (λ (ns : Names). 6 ≤ length ns) (sym x.names) (six_more s.names x.after.names names_go_on h.six);
        tree = other;
        low = runs_other.shallow;
        again = subst (λ (c : Base). StandsAgain (answer_in c.files) s.file m.names other) (sym x.base)
            (subst (λ (ns : Names). StandsAgain (answer_in x.after.files) s.file ns other) (sym x.names) grows_other);
        proper = subst (λ (ns : Names). StaysProper ns other) (sym x.names) stays_proper;
        numbers = λ k. still_first h.tree other
            (retypes.zeros x.old x.new s.base.counts s.file path number text s.time known_then x.after x.steps x.steps' x.box h.tree x.retypes x.stands.puts one_ran) (h.numbers k);
        files = subst (λ (c : Base). GoesOn library c.files) (sym x.base) files_go_on;
        counted = subst (λ (c : Base). HasCounted rate c other) (sym x.base) other_counted;
        held = held_in s.file m.names m.states other x.new m.net x.net
            (subst (λ (ns : Names). IsHeld s.file ns m.states other x.new) (sym x.names)
            (subst (λ (f : ℕ → Option State). IsHeld s.file x.after.names f other x.new) (sym x.states) held_other));
      }

  -- a box could have become another one
  unretyped_stands : (most : ℕ) (s : Stage) (path : List ℕ) (number : ℕ) (text : List Atom) (net : Net) → IsUnretypedForRoom s path number text net → IsSteady most s → IsStanding s
      → IsStanding (with_net s net)
  unretyped_stands most s path number text net x steady h = room_stands most s net x.old x.new x.stands x.short.room x.net_is steady h

  saved_stands : (s : Stage) (m : Made) → IsSaved s m → IsStanding s → IsStanding (stage_by s (Makes m))
  saved_stands s m x h = record {
    file = h.file;
    rates = ap (λ (n : Net). n.rate) x.net ∙ h.rates;
    six = subst (λ (ns : Names). 6 ≤ length ns) (sym x.names) h.six;
    tree = h.tree;
    low = h.low;
    again = subst (λ (b : Base). StandsAgain (answer_in b.files) s.file m.names h.tree) (sym x.base)
        (subst (λ (ns : Names). StandsAgain (answer_in s.base.files) s.file ns h.tree) (sym x.names) h.again);
    proper = subst (λ (ns : Names). StaysProper ns h.tree) (sym x.names) h.proper;
    numbers = h.numbers;
    files = subst (λ (b : Base). GoesOn library b.files) (sym x.base) h.files;
    counted = subst (λ (b : Base). HasCounted rate b h.tree) (sym x.base) h.counted;
    held = subst (λ (n : Net). NetHeld s.file m.names m.states h.tree n) (sym x.net)
        (subst (λ (ns : Names). NetHeld s.file ns m.states h.tree s.net) (sym x.names) (subst (λ (f : ℕ → Option State). NetHeld s.file s.names f h.tree s.net) (sym x.states) h.held));
  }

  -- what is asked for, at a stage whose edits to come are these
  module _ (laws : EditLaws) (most : ℕ) (s : Stage) (ahead : List Choice) (steady : IsSteady most (with_ahead s [])) (h : IsStanding (with_ahead s [])) where
    on_ahead : (r : Stage) → IsStanding r → IsStanding (with_ahead r ahead)
    on_ahead r k = ahead_stands r ahead k

    wire_stands : (path : List ℕ) (e : Edit) (c : Choice) → IsRewiringLawful (with_ahead s []) path e c → IsStanding (stage_by (with_ahead s ahead) c)
    wire_stands path e (Refuses why) x = on_ahead (with_ahead s []) h
    wire_stands path e (Lacks net) x = on_ahead (with_net (with_ahead s []) net) (short_stands (with_ahead s []) path e net x h)
    wire_stands path e (Makes m) x = on_ahead (stage_by (with_ahead s []) (Makes m)) (made_stands (with_ahead s []) path e m x h)

    box_stands : (path : List ℕ) (e : Edit) (c : Choice) → (clean → BringsNoNumber (with_ahead s []) path e c) → IsPutLawful (with_ahead s []) path e c
        → IsStanding (stage_by (with_ahead s ahead) c)
    box_stands path e (Refuses why) leaves x = on_ahead (with_ahead s []) h
    box_stands path e (Lacks net) leaves x = on_ahead (with_net (with_ahead s []) net) (unput_stands most (with_ahead s []) path e net x steady h)
    box_stands path e (Makes m) leaves x = on_ahead (stage_by (with_ahead s []) (Makes m)) (put_stands laws.puts most (with_ahead s []) path e m x leaves steady h)

    gone_stands : (path : List ℕ) (number : ℕ) (c : Choice) → (clean → TakesNoNumber (with_ahead s []) path number c) → IsTakingLawful (with_ahead s []) path number c
        → IsStanding (stage_by (with_ahead s ahead) c)
    gone_stands path number (Refuses why) leaves x = on_ahead (with_ahead s []) h
    gone_stands path number (Lacks net) leaves x = on_ahead (with_net (with_ahead s []) net) (left_stands (with_ahead s []) path number net x h)
    gone_stands path number (Makes m) leaves x = on_ahead (stage_by (with_ahead s []) (Makes m)) (take_stands laws.takes most (with_ahead s []) path number m x leaves steady h)

    placed_stands : (path : List ℕ) (number : ℕ) (a b : ℤ) (c : Choice) → IsMovingLawful (with_ahead s []) path number a b c → IsStanding (stage_by (with_ahead s ahead) c)
    placed_stands path number a b (Refuses why) x = on_ahead (with_ahead s []) h
    placed_stands path number a b (Lacks net) x = on_ahead (with_net (with_ahead s []) net) (unmoved_stands (with_ahead s []) path number net x h)
    placed_stands path number a b (Makes m) x = on_ahead (stage_by (with_ahead s []) (Makes m)) (moved_stands laws.shifts most (with_ahead s []) path number a b m x steady h)

    become_stands : (path : List ℕ) (number : ℕ) (text : List Atom) (c : Choice) → IsRetypingLawful (with_ahead s []) path number text c → IsStanding (stage_by (with_ahead s ahead) c)
    become_stands path number text (Refuses why) x = on_ahead (with_ahead s []) h
    become_stands path number text (Lacks net) x = on_ahead (with_net (with_ahead s []) net) (unretyped_stands most (with_ahead s []) path number text net x steady h)
    become_stands path number text (Makes m) x = on_ahead (stage_by (with_ahead s []) (Makes m)) (retyped_stands laws.retypes most (with_ahead s []) path number text m x steady h)

    save_stands : (c : Choice) → MayCome (Saves None) (with_ahead s []) c → IsStanding (stage_by (with_ahead s ahead) c)
    save_stands (Refuses why) x = on_ahead (with_ahead s []) h
    save_stands (Lacks net) x = absurd x
    save_stands (Makes m) x = on_ahead (stage_by (with_ahead s []) (Makes m)) (saved_stands (with_ahead s []) m x h)

    none_stands : (c : Choice) (why : _) → c ≡ Refuses why → IsStanding (stage_by (with_ahead s ahead) c)
    none_stands c why x = subst (λ (y : Choice). IsStanding (stage_by (with_ahead s ahead) y)) (sym x) (on_ahead (with_ahead s []) h)

    edit_stands : (path : List ℕ) (e : Edit) (c : Choice) → (clean → KeepsNumbers (with_ahead s []) path e c) → IsEditLawful (with_ahead s []) path e c
        → IsStanding (stage_by (with_ahead s ahead) c)
    edit_stands path (edit.Connect v) c leaves x = wire_stands path (edit.Connect v) c x
    edit_stands path (edit.Disconnect v) c leaves x = wire_stands path (edit.Disconnect v) c x
    edit_stands path (edit.Delete number) c leaves x = gone_stands path number c leaves x
    edit_stands path (edit.Retype number text) c leaves x = become_stands path number text c x
    edit_stands path (edit.Move number a b) c leaves x = placed_stands path number a b c x
    edit_stands path (edit.Obj a b text) c leaves x = box_stands path (edit.Obj a b text) c leaves x
    edit_stands path (edit.Msg a b text) c leaves x = box_stands path (edit.Msg a b text) c leaves x
    edit_stands path (edit.Comment a b text) c leaves x = box_stands path (edit.Comment a b text) c leaves x
    edit_stands path (edit.FloatBox a b text) c leaves x = box_stands path (edit.FloatBox a b text) c leaves x
    edit_stands path (edit.SymbolBox a b text) c leaves x = box_stands path (edit.SymbolBox a b text) c leaves x
    edit_stands path (edit.Sub a b text) c leaves x = box_stands path (edit.Sub a b text) c leaves x

    choice_stands : (wanted : Wanted) (c : Choice) → (clean → LeavesNumbers wanted (with_ahead s []) c) → MayCome wanted (with_ahead s []) c → IsStanding (stage_by (with_ahead s ahead) c)
    choice_stands (Edits None path e) c leaves x = edit_stands path e c leaves x
    choice_stands (Edits (Some document) path e) c leaves x = none_stands c _ x
    choice_stands (Asks path e) c leaves x = edit_stands path e c leaves x
    choice_stands (Saves None) c leaves x = save_stands c x
    choice_stands (Saves (Some document)) c leaves x = none_stands c _ x
    choice_stands Undoes c leaves x = none_stands c _ x
    choice_stands Redoes c leaves x = none_stands c _ x

    refused_stands : (c : Choice) → IsRefusal c → IsStanding (stage_by (with_ahead s ahead) c)
    refused_stands (Refuses why) r = on_ahead (with_ahead s []) h
    refused_stands (Lacks net) r = absurd r
    refused_stands (Makes m) r = absurd r

    pub fair_stands : (wanted : Wanted) (c : Choice) → (clean → LeavesNumbers wanted (with_ahead s []) c) → IsFair (record { found = with_ahead s []; wanted = wanted; choice = c }) → IsStanding (stage_by (with_ahead s ahead) c)
    fair_stands wanted c leaves (inl l) = choice_stands wanted c leaves l
    fair_stands wanted c leaves (inr r) = refused_stands c r

-- what leaves its numbers the first ones may be more
pub stands_if : (library : List (ℕ × Answer)) (rate : Rate) (name : List ℕ) (c d : Type 0) → (d → c) → (s : Stage) → IsStanding library rate name c s → IsStanding library rate name d s
stands_if library rate name c d f s h = record {
  file = h.file;
  rates = h.rates;
  six = h.six;
  tree = h.tree;
  low = h.low;
  again = h.again;
  proper = h.proper;
  numbers = λ k. h.numbers (f k);
  files = h.files;
  counted = h.counted;
  held = h.held;
}
