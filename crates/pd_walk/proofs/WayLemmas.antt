-- A walk that is under way goes on, is cut off, ends or fails.
use Rattle.std.proofs.Common.{arith, ◌≡◌, ℕ, ◌+◌, ◌-◌, ◌<◌, Bool, true, false, List, [], ◌∷◌, ◌++◌, length, take, drop, get_or, refl, sym, ◌∙◌, ap, subst, append_assoc, append-nil}
use Rattle.std.specs.Prelude.{Option, Some, None}
use Rattle.std.specs.List.{flat_map}
use Rattle.pd_io.specs.Stream.{grown, IsPrefix, TookPart}
use Rattle.pd_say.specs.Gathering.{Says, Fails, IsSaid}
use Rattle.pd_turns.specs.Turns.{World}
use Rattle.pd_turns.proofs.Turns.{all_finished-step, all_finished-free, all_finished-cut, all_finished-end, all_finished-said, prefix-trans, prefix-whole}
use Rattle.std.proofs.lemmas.List.{take-append-drop, take_more}
use Rattle.pd_walk.specs.declared.walker.Budget.{Budget}
use Rattle.pd_stack.specs.declared.steps.Place.{Place}
use Rattle.pd_stack.specs.declared.steps.Place.TheVariants as place
use Rattle.pd_stack.specs.declared.steps.Task.{Task as Due}
use Rattle.pd_stack.specs.Pile.{Pile}
use Rattle.pd_hearing.specs.Worlds.{Net, Kept}
use Rattle.pd_stack.specs.Tasks.{Task, Nobody, nobody_text}
use Rattle.pd_walk.specs.Acts.{costs, rules, kept_after, said_at, caused, asked_for, cut_line}
use Rattle.pd_stack.specs.Piles.{LeftOn, AreLeft}
use Rattle.pd_stack.specs.Turns.{doing, told, told_list, nobodies, Yields, BreaksOff}
use Rattle.pd_walk.specs.Ways.{IsUnderWay, IsDone}
use Rattle.pd_kind.specs.Said.{Said}
use Rattle.pd_hearing.specs.Hearing.{loaded_at}
use Rattle.pd_hearing.specs.Deeds.{done}
use Rattle.pd_walk.specs.Outcome.{world, ran, after_deed, told_by, all_loaded, IsLeft}
use Rattle.pd_say.proofs.GatheringLemmas.{caught_up, took_held, printed_nothing}

-- a world by its parts
abbrev pub world_of : Kept → ℕ → Bool → List ℕ → World Kept
world_of kept left cut said = record { kept = kept; budget = left; cut = cut; said = said }

pub costs-doing : (p : Place) (depth selector : ℕ) (atoms : List _) → costs (doing p depth selector atoms) ≡ true
costs-doing (place.Inlet node inlet) depth selector atoms = refl
costs-doing (place.Canvas canvas) depth selector atoms = refl
costs-doing (place.Again node) depth selector atoms = refl

-- where nobody hears it is said, and nothing else changes
one-nobody : (net : Net) (now : ℕ) (kept : Kept) (left : ℕ) (said : List ℕ) (name : ℕ) (ts : List Task)
    → ran net now (world_of kept left false said) (Nobody name ∷ ts) ≡ ran net now (world_of kept left false (said ++ nobody_text kept.names name)) ts
unfolding kept_after said_at
one-nobody net now kept left said name ts =
    let e : left - 0 ≡ left = omega arith in
    all_finished-free (rules net now) (world_of kept left false said) (Nobody name) ts refl refl
    ∙ ap (λ (n : ℕ). ran net now (world_of kept n false (said ++ nobody_text kept.names name)) ts) e

pub some-nobodies : (net : Net) (now : ℕ) (kept : Kept) (left : ℕ) (said : List ℕ) (names : List ℕ) (ts : List Task)
    → ran net now (world_of kept left false said) (nobodies names ++ ts) ≡ ran net now (world_of kept left false (said ++ flat_map (nobody_text kept.names) names)) ts
some-nobodies net now kept left said [] ts = ap (λ (l : List ℕ). ran net now (world_of kept left false l) ts) (sym (append-nil said))
some-nobodies net now kept left said (name ∷ names) ts =
    one-nobody net now kept left said name (nobodies names ++ ts)
    ∙ some-nobodies net now kept left (said ++ nobody_text kept.names name) names ts
    ∙ ap (λ (l : List ℕ). ran net now (world_of kept left false l) ts) (append_assoc said (nobody_text kept.names name) (flat_map (nobody_text kept.names) names))

-- a task with its budget
pub step : (net : Net) (now : ℕ) (kept : Kept) (left : ℕ) (said : List ℕ) (t : Task) (ts : List Task) → costs t ≡ true → 0 < left
    → ran net now (world_of kept left false said) (t ∷ ts) ≡ ran net now (world_of (kept_after net now kept t) (left - 1) false (said ++ said_at net now kept t)) (caused net now kept t ++ ts)
step net now kept left said t ts pays more =
    all_finished-step (rules net now) (world_of kept left false said) t ts refl pays more ∙ rw pays refl

-- a first part of what is said in the whole
took_whole : (before now : Option (List ℕ)) (due whole : List ℕ) → TookPart before now due → IsPrefix due whole → TookPart before now whole
took_whole before now due whole t p = record { part = t.part; begins = prefix-trans t.part due whole t.begins p; is = t.is }

module _ (net : Net) (now : ℕ) (kept : Kept) (budget : Budget) (before old : Option (List ℕ)) (held : List ℕ) (final : World Kept) where
  -- it begins with a pile
  pub begins : (pile : Pile) (tasks : List Task) (said : List ℕ) → IsSaid before old held said → LeftOn net pile tasks → ran net now (world kept budget said) tasks ≡ final
      → IsUnderWay net now kept budget pile [] before old held final
  begins pile tasks said is_said left same = record { said = said; tasks = tasks; is_said = is_said; left = left; same = same }

  -- the next task is taken
  pub takes : (pile pile2 : Pile) (new : Option (List ℕ)) (held2 : List ℕ) (next : List Task) → budget.cut ≡ false
      → IsUnderWay net now kept budget pile [] before old held final
      → ((tasks : List Task) → LeftOn net pile tasks → Yields net kept.names old held new held2 pile2 next tasks)
      → IsUnderWay net now kept budget pile2 next before new held2 final
  takes pile pile2 new held2 next uncut way yields =
      let y = yields way.tasks way.left in
      let e : world kept budget way.said ≡ world_of kept budget.left false way.said = ap (λ (b : Bool). world_of kept budget.left b way.said) uncut in
      let f : world_of kept budget.left false (way.said ++ flat_map (nobody_text kept.names) y.unheard) ≡ world kept budget (way.said ++ flat_map (nobody_text kept.names) y.unheard)
      = ap (λ (b : Bool). world_of kept budget.left b (way.said ++ flat_map (nobody_text kept.names) y.unheard)) (sym uncut) in
      record {
        said = way.said ++ flat_map (nobody_text kept.names) y.unheard;
        tasks = y.later;
        is_said = y.says.goes_on before way.said way.is_said;
        left = y.left;
        same = ap (λ (w : World Kept). ran net now w (next ++ y.later)) (sym f)
            ∙ sym (some-nobodies net now kept budget.left way.said y.unheard (next ++ y.later))
            ∙ ap (λ (l : List Task). ran net now (world_of kept budget.left false way.said) l) (sym y.is)
            ∙ ap (λ (w : World Kept). ran net now w way.tasks) (sym e) ∙ way.same;
      }

  -- the same, where it is this task or none
  pub takes-some : (pile pile2 : Pile) (new : Option (List ℕ)) (held2 : List ℕ) (o : Option Due) (due : Due) → o ≡ Some due → budget.cut ≡ false
      → IsUnderWay net now kept budget pile [] before old held final
      → ((tasks : List Task) → LeftOn net pile tasks → Yields net kept.names old held new held2 pile2 (told_list pile2 o) tasks)
      → IsUnderWay net now kept budget pile2 (told pile2.atoms due ∷ []) before new held2 final
  takes-some pile pile2 new held2 o due is uncut way yields =
      subst (λ (p : Option Due). IsUnderWay net now kept budget pile2 (told_list pile2 p) before new held2 final) is
      (takes pile pile2 new held2 (told_list pile2 o) uncut way yields)

  pub takes-none : (pile pile2 : Pile) (new : Option (List ℕ)) (held2 : List ℕ) (o : Option Due) → o ≡ None → budget.cut ≡ false
      → IsUnderWay net now kept budget pile [] before old held final
      → ((tasks : List Task) → LeftOn net pile tasks → Yields net kept.names old held new held2 pile2 (told_list pile2 o) tasks)
      → IsUnderWay net now kept budget pile2 [] before new held2 final
  takes-none pile pile2 new held2 o is uncut way yields =
      subst (λ (p : Option Due). IsUnderWay net now kept budget pile2 (told_list pile2 p) before new held2 final) is
      (takes pile pile2 new held2 (told_list pile2 o) uncut way yields)

  -- it fails while the next task is taken
  pub takes-fails : (pile : Pile) (new : Option (List ℕ)) → budget.cut ≡ false → IsUnderWay net now kept budget pile [] before old held final
      → ((tasks : List Task) → LeftOn net pile tasks → BreaksOff kept.names old held new tasks) → TookPart before new final.said
  takes-fails pile new uncut way breaks =
      let b = breaks way.tasks way.left in
      let due : List ℕ = way.said ++ flat_map (nobody_text kept.names) b.unheard in
      let e : world kept budget way.said ≡ world_of kept budget.left false way.said = ap (λ (t : Bool). world_of kept budget.left t way.said) uncut in
      let f : ran net now (world_of kept budget.left false due) b.later ≡ final =
      sym (some-nobodies net now kept budget.left way.said b.unheard b.later)
      ∙ ap (λ (l : List Task). ran net now (world_of kept budget.left false way.said) l) (sym b.is)
      ∙ ap (λ (w : World Kept). ran net now w way.tasks) (sym e) ∙ way.same in
      took_whole before new due final.said (b.fails.breaks_off before way.said way.is_said)
      (subst (λ (w : World Kept). IsPrefix due w.said) f (all_finished-said (rules net now) (world_of kept budget.left false due) b.later))

  -- the task is done
  pub goes_on : (kept2 : Kept) (budget2 : Budget) (pile pile2 : Pile) (t : Task) (new : Option (List ℕ)) (held2 : List ℕ) → budget.cut ≡ false → 0 < budget.left → costs t ≡ true
      → IsUnderWay net now kept budget pile (t ∷ []) before old held final
      → budget2.left ≡ budget.left - 1 → budget2.cut ≡ budget.cut
      → kept2 ≡ kept_after net now kept t
      → Says old held new held2 (said_at net now kept t)
      → ((tasks : List Task) → LeftOn net pile tasks → LeftOn net pile2 (caused net now kept t ++ tasks))
      → IsUnderWay net now kept2 budget2 pile2 [] before new held2 final
  goes_on kept2 budget2 pile pile2 t new held2 uncut more pays way less same_cut keeps says left =
      let e : world kept budget way.said ≡ world_of kept budget.left false way.said = ap (λ (b : Bool). world_of kept budget.left b way.said) uncut in
      let f : world kept2 budget2 (way.said ++ said_at net now kept t) ≡ world_of (kept_after net now kept t) (budget.left - 1) false (way.said ++ said_at net now kept t)
      = rw (keeps, less, same_cut, uncut) refl in
      record {
        said = way.said ++ said_at net now kept t;
        tasks = caused net now kept t ++ way.tasks;
        is_said = says.goes_on before way.said way.is_said;
        left = left way.tasks way.left;
        same = ap (λ (w : World Kept). ran net now w (caused net now kept t ++ way.tasks)) f
            ∙ sym (step net now kept budget.left way.said t way.tasks pays more)
            ∙ ap (λ (w : World Kept). ran net now w (t ∷ way.tasks)) (sym e) ∙ way.same;
      }

  -- it fails in a task
  pub fails : (pile : Pile) (t : Task) (new : Option (List ℕ)) → budget.cut ≡ false → 0 < budget.left → costs t ≡ true
      → IsUnderWay net now kept budget pile (t ∷ []) before old held final → Fails old held new (said_at net now kept t) → TookPart before new final.said
  fails pile t new uncut more pays way failed =
      let due : List ℕ = way.said ++ said_at net now kept t in
      let w2 : World Kept = world_of (kept_after net now kept t) (budget.left - 1) false due in
      let e : world kept budget way.said ≡ world_of kept budget.left false way.said = ap (λ (b : Bool). world_of kept budget.left b way.said) uncut in
      let f : ran net now w2 (caused net now kept t ++ way.tasks) ≡ final =
      sym (step net now kept budget.left way.said t way.tasks pays more) ∙ ap (λ (w : World Kept). ran net now w (t ∷ way.tasks)) (sym e) ∙ way.same in
      took_whole before new due final.said (failed.breaks_off before way.said way.is_said)
      (subst (λ (w : World Kept). IsPrefix due w.said) f (all_finished-said (rules net now) w2 (caused net now kept t ++ way.tasks)))

  -- nothing is left
  pub ends : (pile : Pile) → pile.pendings ≡ [] → IsUnderWay net now kept budget pile [] before old held final → IsDone kept budget before old held final
  ends pile empty way =
      let none : way.tasks ≡ [] = subst (λ (ps : List _). AreLeft net pile.atoms ps way.tasks) empty way.left in
      let e : world kept budget way.said ≡ final = ap (λ (l : List Task). ran net now (world kept budget way.said) l) (sym none) ∙ way.same in
      record {
        kept_is = ap (λ (w : World Kept). w.kept) e;
        left = ap (λ (w : World Kept). w.budget) e;
        cut = ap (λ (w : World Kept). w.cut) e;
        is_said = subst (λ (l : List ℕ). IsSaid before old held l) (ap (λ (w : World Kept). w.said) e) way.is_said;
      }

  -- the event was cut off before
  pub stands : (pile : Pile) → budget.cut ≡ true → IsUnderWay net now kept budget pile [] before old held final → IsDone kept budget before old held final
  stands pile cut way =
      let e : world kept budget way.said ≡ final = sym (all_finished-cut (rules net now) (world kept budget way.said) way.tasks cut) ∙ way.same in
      record {
        kept_is = ap (λ (w : World Kept). w.kept) e;
        left = ap (λ (w : World Kept). w.budget) e;
        cut = ap (λ (w : World Kept). w.cut) e;
        is_said = subst (λ (l : List ℕ). IsSaid before old held l) (ap (λ (w : World Kept). w.said) e) way.is_said;
      }

  way-cut : (pile : Pile) (t : Task) → budget.cut ≡ false → budget.left ≡ 0 → costs t ≡ true → (way : IsUnderWay net now kept budget pile (t ∷ []) before old held final)
      → world_of kept budget.left true (way.said ++ cut_line) ≡ final
  way-cut pile t uncut none pays way =
      sym (all_finished-end (rules net now) (world kept budget way.said) t way.tasks uncut pays none) ∙ way.same

  -- the budget is used up
  pub is_cut : (budget2 : Budget) (pile : Pile) (t : Task) (new : Option (List ℕ)) (held2 : List ℕ) → budget.cut ≡ false → budget.left ≡ 0 → costs t ≡ true
      → IsUnderWay net now kept budget pile (t ∷ []) before old held final
      → budget2.left ≡ budget.left → budget2.cut ≡ true → Says old held new held2 cut_line → IsDone kept budget2 before new held2 final
  is_cut budget2 pile t new held2 uncut none pays way same cut says =
      let e = way-cut pile t uncut none pays way in
      record {
        kept_is = ap (λ (w : World Kept). w.kept) e;
        left = same ∙ ap (λ (w : World Kept). w.budget) e;
        cut = cut ∙ ap (λ (w : World Kept). w.cut) e;
        is_said = subst (λ (l : List ℕ). IsSaid before new held2 l) (ap (λ (w : World Kept). w.said) e) (says.goes_on before way.said way.is_said);
      }

  pub fails_cut : (pile : Pile) (t : Task) (new : Option (List ℕ)) → budget.cut ≡ false → budget.left ≡ 0 → costs t ≡ true
      → IsUnderWay net now kept budget pile (t ∷ []) before old held final → Fails old held new cut_line → TookPart before new final.said
  fails_cut pile t new uncut none pays way failed =
      let e = way-cut pile t uncut none pays way in
      subst (λ (l : List ℕ). TookPart before new l) (ap (λ (w : World Kept). w.said) e) (failed.breaks_off before way.said way.is_said)

-- boxes loaded in two parts
pub all_loaded-append : (net : Net) (now : ℕ) (w : World Kept) (xs ys : List ℕ) → all_loaded net now w (xs ++ ys) ≡ all_loaded net now (all_loaded net now w xs) ys
all_loaded-append net now w [] ys = refl
all_loaded-append net now w (x ∷ xs) ys = all_loaded-append net now (told_by net now x (loaded_at net w.kept.states x) w) xs ys

pub told_by-said : (net : Net) (now node : ℕ) (said : Said) (w : World Kept) → IsPrefix w.said (told_by net now node said w).said
told_by-said net now node said w = all_finished-said (rules net now) (after_deed net now node said w) (asked_for net 0 node said)

pub all_loaded-said : (net : Net) (now : ℕ) (w : World Kept) (nodes : List ℕ) → IsPrefix w.said (all_loaded net now w nodes).said
all_loaded-said net now w [] = prefix-whole w.said
all_loaded-said net now w (node ∷ nodes) =
    let one : World Kept = told_by net now node (loaded_at net w.kept.states node) w in
    prefix-trans w.said one.said (all_loaded net now one nodes).said (told_by-said net now node (loaded_at net w.kept.states node) w) (all_loaded-said net now one nodes)

one-more : (xs : List ℕ) (i x : ℕ) → i < length xs → x ≡ get_or xs i x → take (i + 1) xs ≡ take i xs ++ x ∷ []
one-more xs i x lt is = take_more xs i x lt ∙ ap (λ (y : ℕ). take i xs ++ y ∷ []) (sym is)

-- one more box is loaded
pub loads-more : (net : Net) (now : ℕ) (w : World Kept) (boxes : List ℕ) (i node : ℕ) → i < length boxes → node ≡ get_or boxes i node
    → all_loaded net now w (take (i + 1) boxes) ≡ (let v = all_loaded net now w (take i boxes) in told_by net now node (loaded_at net v.kept.states node) v)
loads-more net now w boxes i node lt is = ap (λ (l : List ℕ). all_loaded net now w l) (one-more boxes i node lt is) ∙ all_loaded-append net now w (take i boxes) (node ∷ [])

-- what is said while a box is loaded is said in the whole
pub loads-part : (net : Net) (now : ℕ) (w : World Kept) (boxes : List ℕ) (i node : ℕ) (before new : Option (List ℕ)) → i < length boxes → node ≡ get_or boxes i node
    → TookPart before new (let v = all_loaded net now w (take i boxes) in told_by net now node (loaded_at net v.kept.states node) v).said
    → TookPart before new (all_loaded net now w boxes).said
loads-part net now w boxes i node before new lt is took =
    let split = ap (λ (l : List ℕ). all_loaded net now w l) (sym (take-append-drop (i + 1) boxes)) ∙ all_loaded-append net now w (take (i + 1) boxes) (drop (i + 1) boxes) in
    took_whole before new (all_loaded net now w (take (i + 1) boxes)).said (all_loaded net now w boxes).said
    (subst (λ (v : World Kept). TookPart before new v.said) (sym (loads-more net now w boxes i node lt is)) took)
    (subst (λ (v : World Kept). IsPrefix (all_loaded net now w (take (i + 1) boxes)).said v.said) (sym split)
    (all_loaded-said net now (all_loaded net now w (take (i + 1) boxes)) (drop (i + 1) boxes)))

-- what a box says by itself is the same, where all it rests on is the same
pub told-same : (net net2 : Net) (now node : ℕ) (kept kept2 : Kept) (budget : Budget) (said : List ℕ) (r r2 : Said) → net2 ≡ net → kept2 ≡ kept → r2 ≡ r
    → told_by net2 now node r2 (world kept2 budget said) ≡ told_by net now node r (world kept budget said)
told-same net net2 now node kept kept2 budget said r r2 nets keeps says =
    ap (λ (n : Net). told_by n now node r2 (world kept2 budget said)) nets
    ∙ ap (λ (k : Kept). told_by net now node r2 (world k budget said)) keeps
    ∙ ap (λ (x : Said). told_by net now node x (world kept budget said)) says

pub loads-one : (net net2 : Net) (now node : ℕ) (kept : Kept) (budget : Budget) (v : World Kept) (r : Said) → net2 ≡ net → kept ≡ v.kept → budget.left ≡ v.budget → budget.cut ≡ v.cut
    → r ≡ loaded_at net2 kept.states node
    → told_by net2 now node r (world kept budget v.said) ≡ told_by net now node (loaded_at net v.kept.states node) v
loads-one net net2 now node kept budget v r nets keeps left cut says =
    ap (λ (x : Said). told_by net2 now node x (world kept budget v.said)) says
    ∙ ap (λ (n : Net). told_by n now node (loaded_at n kept.states node) (world kept budget v.said)) nets
    ∙ ap (λ (k : Kept). told_by net now node (loaded_at net k.states node) (world_of k budget.left budget.cut v.said)) keeps
    ∙ ap (λ (n : ℕ). told_by net now node (loaded_at net v.kept.states node) (world_of v.kept n budget.cut v.said)) left
    ∙ ap (λ (b : Bool). told_by net now node (loaded_at net v.kept.states node) (world_of v.kept v.budget b v.said)) cut

-- a box begins by itself: its sends lie on the pile
pub box-begins : (net net2 : Net) (now node : ℕ) (kept kept2 : Kept) (budget : Budget) (pile : Pile) (r : Said) (before t0 t1 : Option (List ℕ)) (h0 h1 said : List ℕ)
    → net2 ≡ net → kept2 ≡ done net now node r.deed kept → IsSaid before t0 h0 said → Says t0 h0 t1 h1 [] → LeftOn net2 pile (asked_for net2 0 node r ++ [])
    → IsUnderWay net2 now kept2 budget pile [] before t1 h1 (told_by net now node r (world kept budget said))
box-begins net net2 now node kept kept2 budget pile r before t0 t1 h0 h1 said nets keeps is_said says left = record {
  said = said;
  tasks = asked_for net2 0 node r;
  is_said = subst (λ (l : List ℕ). IsSaid before t1 h1 l) (append-nil said) (says.goes_on before said is_said);
  left = subst (λ (l : List Task). LeftOn net2 pile l) (append-nil (asked_for net2 0 node r)) left;
  same = ap (λ (n : Net). ran n now (world kept2 budget said) (asked_for n 0 node r)) nets ∙ ap (λ (k : Kept). ran net now (world k budget said) (asked_for net 0 node r)) keeps;
}

pub box-breaks : (net : Net) (now node : ℕ) (kept : Kept) (budget : Budget) (r : Said) (before t0 t1 : Option (List ℕ)) (h0 said : List ℕ)
    → IsSaid before t0 h0 said → Fails t0 h0 t1 [] → TookPart before t1 (told_by net now node r (world kept budget said)).said
box-breaks net now node kept budget r before t0 t1 h0 said is_said fails =
    let final : World Kept = told_by net now node r (world kept budget said) in
    took_whole before t1 (said ++ []) final.said (fails.breaks_off before said is_said)
    (subst (λ (l : List ℕ). IsPrefix l final.said) (sym (append-nil said)) (told_by-said net now node r (world kept budget said)))

-- the event begins with nothing said
pub said-none : (t : Option (List ℕ)) (held : List ℕ) → held ≡ [] → IsSaid t t held []
said-none t held e = record { out = []; taken = printed_nothing t [] refl; all = sym e }

-- what is held is handed on at the end
pub left-done : (kept : Kept) (budget : Budget) (before mid new : Option (List ℕ)) (held : List ℕ) (final : World Kept) → IsDone kept budget before mid held final
    → new ≡ grown mid held → IsLeft kept budget before new final
left-done kept budget before mid new held final d e = record { kept_is = d.kept_is; left = d.left; cut = d.cut; said = caught_up before mid new held final.said d.is_said e }

-- or a part of it
pub part-done : (kept : Kept) (budget : Budget) (before mid new : Option (List ℕ)) (held : List ℕ) (final : World Kept) → IsDone kept budget before mid held final
    → TookPart mid new held → TookPart before new final.said
part-done kept budget before mid new held final d t = subst (λ (l : List ℕ). TookPart before new l) (append-nil final.said) (took_held before mid new held final.said [] d.is_said t)
