-- What grew for an edit is what grows where the files are known for which it asked.
use Rattle.std.proofs.Common.{◌≡◌, ◌≤◌, ◌+◌, ◌-◌, ℕ, Bool, true, false, nat_lt, if◌then◌else◌, List, length, Option, Result, Ok, Err, refl, sym, ap, ◌∙◌, subst, true≢false}
use Rattle.std.specs.declared.vec.Vec.{Vec}
use Rattle.std.specs.declared.alloc.Global.{Global}
use Rattle.pd_io.specs.declared.files.FileRow.{FileRow}
use Rattle.pd_atom.specs.Names.{Extends, IsTable}
use Rattle.pd_atom.proofs.NameLemmas.{six_names}
use Rattle.pd_clock.specs.declared.times.Rate.{Rate}
use Rattle.pd_canvas.specs.declared.edits.Edit.{Edit}
use Rattle.pd_canvas.specs.Pages.{Entry}
use Rattle.pd_library.specs.Files.{answer_in}
use Rattle.pd_library.specs.declared.answers.Answer.{Answer}
use Rattle.pd_tree.specs.declared.rows.Row.{Row}
use Rattle.pd_tree.specs.Trees.{Trees}
use Rattle.pd_fit.specs.Fitting.{wires_inside}
use Rattle.pd_growth.specs.Steps.{Stock, Step}
use Rattle.pd_growth.specs.Growth.{Inner, box_grown, around_root, without_ending}
use Rattle.pd_growth.proofs.TextLemmas.{longer_table}
use Rattle.pd_gather.specs.Gather.{Known, known, AreProper}
use Rattle.pd_patch.specs.declared.patch.Patch.{Patch}
use Rattle.pd_patch.specs.Sounds.{sound_of}
use Rattle.pd_wiring.specs.declared.refusals.EditRefusal.{EditRefusal}
use Rattle.pd_wiring.specs.declared.refusals.EditRefusal.TheVariants.{TooManyWires, TooMuchSound}
use Rattle.pd_adding.specs.declared.counts.Counts.{Counts}
use Rattle.pd_adding.specs.Coming.{coming, own_zero}
use Rattle.pd_adding.specs.Counts.{stock_by, with_boxes}
use Rattle.pd_adding.specs.Growing.{Added, growth_of, totalled, GrowsTo}
use Rattle.pd_adding.specs.Adding.{growth_at, GrewWith}
use Rattle.pd_adding.proofs.SingleLemmas.{same_inner}
use Rattle.pd_adding.proofs.GrowLemmas.{growth_is}
use Rattle.pd_adding.proofs.GatherLemmas.{IsWell, table_before, no_fewer, one_names, growth_reaches, growth_well}

-- names go on where a box grows in a canvas of the document
growth_names : (own : ℕ) (n : Counts) (name : List ℕ) (left : ℕ) (b : Entry) (k : Known) → Extends k.names (growth_of own n name left b k).stock.names
growth_names own n name left b k =
    subst (λ (s : Step Trees). Extends k.names s.stock.names)
    (ap (λ (inner : Inner). box_grown (answer_in k.files) (without_ending name) left inner (around_root own) b (stock_by k.names n)) (sym (same_inner (answer_in k.files) (without_ending name) left))
    ∙ sym (growth_is own n name left b k))
    (one_names (answer_in k.files) (without_ending name) left (around_root own) b (stock_by k.names n))

abbrev is_ok : Result Added EditRefusal → Bool
is_ok (Ok x) = true
is_ok (Err e) = false

abbrev counts_in : Counts → Result Added EditRefusal → Counts
counts_in d (Ok x) = x.counts
counts_in d (Err e) = d

never : (e : EditRefusal) (x : Added) → ◌≡◌ {A = Result Added EditRefusal} (Err e) (Ok x) → ⊥
never e x h = true≢false (sym (ap is_ok h))

module _ (rate : Rate) (n : Counts) (t : Trees) (canvas : ℕ) (k : Known) (a : Added) where
  counts_by : (many much : Bool) → nat_lt 65536 (n.wires + wires_inside t) ≡ many → nat_lt 16777216 (n.sound + sound_of rate t) ≡ much
      → ◌≡◌ {A = Result Added EditRefusal} (if many then Err TooManyWires else if much then Err TooMuchSound else
      Ok (record { canvas = canvas; boxes = t; known = k; counts = with_boxes rate t n })) (Ok a) → a.counts ≡ with_boxes rate t n
  counts_by true much x y h = absurd (never _ a h)
  counts_by false true x y h = absurd (never _ a h)
  counts_by false false x y h = sym (ap (counts_in a.counts) h)

  counts_so : totalled rate n canvas k t ≡ Ok a → a.counts ≡ with_boxes rate t n
  counts_so h = counts_by (nat_lt 65536 (n.wires + wires_inside t)) (nat_lt 16777216 (n.sound + sound_of rate t)) refl refl h

module _ (holds : Option (List FileRow)) (p : Patch) (n : Counts) (name path : List ℕ) (e : Edit) (k : Known) (canvas : ℕ) (b : Entry) (comes : coming k.names p path e ≡ Ok (canvas, b))
    (files : List (ℕ × Answer)) (rows : Vec Row Global) (w : Stock) (g : GrowsTo holds (growth_at p n name path b) k files rows w) where
  abbrev all_known : Known
  all_known = known files g.names

  on : (f : Known) → Extends f.names (growth_at p n name path b f).stock.names
  on f = growth_names (own_zero p) n name (255 - length path) b f

  onward : Extends g.names w.names
  onward = subst (λ (s : Step Trees). Extends g.names s.stock.names) g.gives.step (on all_known)

  well : IsTable k.names → IsTable w.names → AreProper k.names k.files → IsWell k all_known
  well first table found =
      let reach : Extends k.names g.names = growth_reaches (growth_at p n name path b) on k all_known g.gathers.fetches g.gathers.comes in
      let six : 6 ≤ length k.names = six_names k.names first in
      let here : IsTable g.names = table_before g.names w.names onward (no_fewer (length k.names) (length g.names) six (longer_table k.names g.names reach)) table in
      growth_well (growth_at p n name path b) on k all_known six here found g.gathers.fetches g.gathers.comes

  pub grew_with : (counts : Counts) → IsTable k.names → IsTable w.names → AreProper k.names k.files
      → totalled p.rate n canvas (known files w.names) g.gives.boxes ≡ Ok (record { canvas = canvas; boxes = g.gives.boxes; known = known files w.names; counts = counts })
      → GrewWith p n name path e k all_known (record { canvas = canvas; boxes = g.gives.boxes; known = known files w.names; counts = counts })
  grew_with counts first table found h =
      let added : Added = record { canvas = canvas; boxes = g.gives.boxes; known = known files w.names; counts = counts } in
      let so : IsWell k all_known = well first table found in
      record {
        entry = b;
        comes = comes;
        after = w;
        grew = g.gives.step;
        known_is = refl;
        counts = counts_so p.rate n g.gives.boxes canvas (known files w.names) added h;
        behind = so.behind;
        extends = so.extends;
        found = so.found;
        onward = onward;
      }
