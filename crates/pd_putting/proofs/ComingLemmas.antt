-- What an edit comes to that puts a box: into which canvas, with which counts, whatever the shelf holds.
use Rattle.std.proofs.Common.{◌≡◌, ℕ, Bool, true, false, ◌&&◌, nat_lt, if◌then◌else◌, List, length, Option, Some, None, Result, Ok, Err, ◌+◌, refl, sym, ap, subst}
use Rattle.pd_io.specs.declared.files.FileRow.{FileRow}
use Rattle.pd_clock.specs.declared.times.Rate.{Rate}
use Rattle.pd_canvas.specs.declared.edits.Edit.{Edit}
use Rattle.pd_canvas.specs.Pages.{Entry}
use Rattle.pd_tree.specs.Trees.{Trees}
use Rattle.pd_growth.specs.declared.growing.Stop.{Stop}
use Rattle.pd_growth.specs.Steps.{Step}
use Rattle.pd_gather.specs.declared.fetching.Fetch.{Fetch}
use Rattle.pd_gather.specs.Gather.{Known, known, Gathering, Asks, Gathered, Full, asked_of, gathered}
use Rattle.pd_grove.specs.OwnPaths.{sub_reached}
use Rattle.pd_grove.specs.TextOrder.{is_sub}
use Rattle.pd_patch.specs.declared.patch.Patch.{Patch}
use Rattle.pd_wiring.specs.declared.refusals.EditRefusal.{EditRefusal}
use Rattle.pd_wiring.specs.declared.refusals.EditRefusal.TheVariants.{TextTooLong, TooDeep, TooManyWires, TooMuchSound}
use Rattle.pd_adding.specs.declared.counts.Counts.{Counts}
use Rattle.pd_adding.specs.Boxes.{settled_edit, box_put}
use Rattle.pd_adding.specs.Coming.{coming, coming_by, coming_in}
use Rattle.pd_adding.specs.Counts.{with_boxes}
use Rattle.pd_adding.specs.Growing.{Added, grown_to, gathered_to}
use Rattle.pd_adding.specs.Adding.{growth_at, coming_to, ComesTo}
use Rattle.pd_fit.specs.Fitting.{wires_inside}
use Rattle.pd_patch.specs.Sounds.{sound_of}

err_ok : {A E : Type 0} (e : E) (a : A) → ◌≡◌ {A = Result A E} (Err e) (Ok a) → ⊥
err_ok e a h = cc

the_ok : {A E : Type 0} → A → Result A E → A
the_ok d (Ok a) = a
the_ok d (Err e) = d

same_ok : {A E : Type 0} (x y : A) → ◌≡◌ {A = Result A E} (Ok x) (Ok y) → x ≡ y
unfolding the_ok
same_ok x y h = ap (the_ok x) h

-- it comes to the same where nothing is told of the shelf
pub comes_anyhow : (holds : Option (List FileRow)) (p : Patch) (n : Counts) (name path : List ℕ) (e : Edit) (k : Known) (r : Result Added EditRefusal)
    → ComesTo holds p n name path e k r → ComesTo None p n name path e k r
comes_anyhow holds p n name path e k r c = record { fetches = c.fetches; comes = c.comes; held = tt }

-- into this canvas, with what grew counted
abbrev IsAt : Rate → Counts → ℕ → Added → Type 0
IsAt rate n canvas a = (a.canvas ≡ canvas) × (a.counts ≡ with_boxes rate a.boxes n)

at_total : (rate : Rate) (n : Counts) (canvas : ℕ) (k : Known) (t : Trees) (a : Added) (many much : Bool)
    → ◌≡◌ {A = Result Added EditRefusal} (if many then Err TooManyWires else if much then Err TooMuchSound else Ok (record { canvas = canvas; boxes = t; known = k; counts = with_boxes rate t n })) (Ok a)
    → IsAt rate n canvas a
at_total rate n canvas k t a true much h = absurd (err_ok TooManyWires a h)
at_total rate n canvas k t a false true h = absurd (err_ok TooMuchSound a h)
at_total rate n canvas k t a false false h =
    let x : Added = record { canvas = canvas; boxes = t; known = k; counts = with_boxes rate t n } in
    let same : x ≡ a = same_ok {E = EditRefusal} x a h in
    subst (IsAt rate n canvas) same (refl, refl)

at_grown : (rate : Rate) (n : Counts) (canvas : ℕ) (k : Known) (r : Result Trees Stop) (a : Added) → grown_to rate n canvas k r ≡ Ok a → IsAt rate n canvas a
at_grown rate n canvas k (Err why) a h = absurd (err_ok _ a h)
at_grown rate n canvas k (Ok t) a h = at_total rate n canvas k t a (nat_lt 65536 (n.wires + wires_inside t)) (nat_lt 16777216 (n.sound + sound_of rate t)) h

at_gathered : (rate : Rate) (n : Counts) (canvas : ℕ) (grows : Known → Step Trees) (g : Gathering) (a : Added) → gathered_to rate n canvas grows g ≡ Ok a → IsAt rate n canvas a
at_gathered rate n canvas grows (Asks s k) a h = absurd (err_ok _ a h)
at_gathered rate n canvas grows Full a h = absurd (err_ok _ a h)
at_gathered rate n canvas grows (Gathered k) a h = at_grown rate n canvas (known k.files (grows k).stock.names) (grows k).answer a h

-- the box comes into a canvas, and what grew is told there
record Comes (p : Patch) (n : Counts) (r : Result (ℕ × Entry) EditRefusal) (a : Added) : Type 0 where
  place : ℕ × Entry
  is : r ≡ Ok place
  at : IsAt p.rate n place.0 a

at_coming : (p : Patch) (n : Counts) (name path : List ℕ) (k : Known) (fetches : List Fetch) (r : Result (ℕ × Entry) EditRefusal) (a : Added)
    → coming_to p n name path k fetches r ≡ Ok a → Comes p n r a
at_coming p n name path k fetches (Err why) a h = absurd (err_ok why a h)
at_coming p n name path k fetches (Ok c) a h = record {
  place = c;
  is = refl;
  at = at_gathered p.rate n c.0 (growth_at p n name path c.1) (gathered (asked_of (growth_at p n name path c.1)) fetches (asked_of (growth_at p n name path c.1) k)) a h;
}

-- where a box may come there is a canvas

there_by : (e : Entry) (canvas : ℕ) (c : ℕ × Entry) (long deep : Bool)
    → ◌≡◌ {A = Result (ℕ × Entry) EditRefusal} (if long then Err TextTooLong else if deep then Err TooDeep else Ok (canvas, e)) (Ok c) → canvas ≡ c.0
there_by e canvas c true deep h = absurd (err_ok TextTooLong c h)
there_by e canvas c false true h = absurd (err_ok TooDeep c h)
there_by e canvas c false false h = let x : ℕ × Entry = (canvas, e) in ap (λ (y : ℕ × Entry). y.0) (same_ok {E = EditRefusal} x c h)

there_in : (depth : ℕ) (e : Entry) (o : Option ℕ) (c : ℕ × Entry) → coming_in depth e o ≡ Ok c → o ≡ Some c.0
there_in depth e None c h = absurd (err_ok _ c h)
there_in depth e (Some canvas) c h = ap (λ (x : ℕ). Some x) (there_by e canvas c (nat_lt 1024 (length e.head.text)) (is_sub e.head.form && nat_lt 254 depth) h)

there : (p : Patch) (path : List ℕ) (o : Option Entry) (c : ℕ × Entry) → coming_by p path o ≡ Ok c → sub_reached p.grove (Some p.grove.root) path ≡ Some c.0
there p path None c h = absurd (err_ok _ c h)
there p path (Some e) c h = there_in (length path) e (sub_reached p.grove (Some p.grove.root) path) c h

module _ (holds : Option (List FileRow)) (p : Patch) (n : Counts) (name path : List ℕ) (e : Edit) (k : Known) (a : Added) (C : ComesTo holds p n name path e k (Ok a)) where
  comes : Comes p n (coming k.names p path e) a
  comes = at_coming p n name path k C.fetches (coming k.names p path e) a C.comes

  pub canvas_there : sub_reached p.grove (Some p.grove.root) path ≡ Some a.canvas
  canvas_there =
      let at : sub_reached p.grove (Some p.grove.root) path ≡ Some comes.place.0 = there p path (box_put (settled_edit k.names e)) comes.place comes.is in
      subst (λ (c : ℕ). sub_reached p.grove (Some p.grove.root) path ≡ Some c) (sym comes.at.0) at

  pub counts_are : a.counts ≡ with_boxes p.rate a.boxes n
  counts_are = comes.at.1
