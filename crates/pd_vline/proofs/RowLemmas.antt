-- What is kept after a message and after a block stands for the list of ramps.
use Rattle.std.proofs.Common.{◌≡◌, ℕ, ℤ, zero, suc, pos, ◌+◌, ◌*◌, ◌≤◌, true, false, List, [], ◌∷◌, ◌++◌, length, take, refl, sym, ap, ◌∙◌, subst, arith, ltb, leb, eqb, codes, bytes_eq}
use Rattle.std.proofs.lemmas.Bool.{ltb-true, ltb-false, le-leb, lt-leb}
use Rattle.std.proofs.lemmas.List.{length-take-le, length_push}
use Rattle.std.proofs.lemmas.List.Sums.{prefix_len-le-length}
use Rattle.std.specs.List.{filter}
use Rattle.pd_atom.specs.declared.Atom.{Atom}
use Rattle.pd_atom.specs.Names.{Names, name_of}
use Rattle.pd_object.specs.declared.kinds.Kind.{Kind}
use Rattle.pd_object.specs.declared.kinds.Kind.TheVariants as kind
use Rattle.pd_kind.specs.declared.messages.Sort.{Sort}
use Rattle.pd_kind.specs.declared.messages.Sort.TheVariants as sort
use Rattle.pd_kind.specs.declared.states.Ramp.{Ramp}
use Rattle.pd_kind.specs.declared.states.Ramps.{Ramps}
use Rattle.pd_kind.specs.declared.states.State.{State}
use Rattle.pd_kind.specs.declared.states.State.TheVariants as state
use Rattle.pd_kind.specs.Books.{with_times, with_ramp_last}
use Rattle.pd_kind.specs.Messages.{sort_of}
use Rattle.pd_kind.specs.Hearing.{first_sort}
use Rattle.pd_vline.specs.Ramps.{at, added, added_to, from_on, onto, AreBefore, AreFrom, Stands, IsStanding, AreSamples}
use Rattle.pd_vline.specs.Taken.{present, left_by_run, state_at, CanRun}
use Rattle.pd_vline.specs.Rows.{float_ramp, stop_ramp, staying, with_ramp, hot, cold, spread, vline_row, heard, list_after, list_after_row, heard_list, IsOpen}
use Rattle.pd_vline.proofs.RampLemmas.{by_test, older_stay, older_none, later_all, first_stay, from-push, onto-push, filter-onto, length-onto}
use Rattle.pd_vline.proofs.TakenLemmas.{value_stands, taken_stands}

-- the ramps that stay, with the new one
abbrev grown : List Ramp → Ramp → List Ramp
grown ramps new = take (staying new ramps) ramps ++ new ∷ []

grown_is : (end : ℕ) (ramps : List Ramp) (new : Ramp) → AreFrom end ramps → grown ramps new ≡ filter (λ r. ltb r.start new.start) ramps ++ new ∷ []
grown_is end ramps new late = ap (λ (m : List Ramp). m ++ new ∷ []) (first_stay new.start end ramps late)

added_is : (end : ℕ) (ramps older : List Ramp) (new : Ramp) → AreBefore end older → AreFrom end ramps → end ≤ new.start → added new (onto ramps older) ≡ onto (grown ramps new) older
added_is end ramps older new early late le =
    ap (λ (m : List Ramp). new ∷ m)
    (filter-onto (λ r. ltb r.start new.start) ramps older
    ∙ ap (onto (filter (λ r. ltb r.start new.start) ramps)) (older_stay end new.start older le early))
    ∙ sym (onto-push (filter (λ r. ltb r.start new.start) ramps) older new)
    ∙ sym (ap (λ (m : List Ramp). onto m older) (grown_is end ramps new late))

grown_late : (end : ℕ) (ramps : List Ramp) (new : Ramp) → AreFrom end ramps → end ≤ new.start → AreFrom end (grown ramps new)
grown_late end ramps new late le = subst (AreFrom end) (sym (grown_is end ramps new late)) (from-push end new ramps le late)

length_grown : (ramps : List Ramp) (new : Ramp) → length (grown ramps new) ≡ staying new ramps + 1
length_grown ramps new =
    length_push (take (staying new ramps) ramps) new
    ∙ ap (λ (n : ℕ). n + 1) (length-take-le (staying new ramps) ramps (prefix_len-le-length (λ r. ltb r.start new.start) ramps))

-- how many start at the end of the last block or later
count_is : (end : ℕ) (ramps older : List Ramp) (new : Ramp) → AreBefore end older → AreFrom end ramps → end ≤ new.start →
    length (from_on end (added new (onto ramps older))) ≡ staying new ramps + 1
count_is end ramps older new early late le =
    let some : from_on end (grown ramps new) ≡ grown ramps new = later_all end end (grown ramps new) (omega arith) (grown_late end ramps new late le) in
    let none : from_on end older ≡ [] = older_none end end older (omega arith) early in
    let whole : from_on end (added new (onto ramps older)) ≡ onto (grown ramps new) [] =
    ap (from_on end) (added_is end ramps older new early late le)
    ∙ filter-onto (λ r. leb end r.start) (grown ramps new) older
    ∙ ap (λ (m : List Ramp). onto m (from_on end older)) some
    ∙ ap (onto (grown ramps new)) none in
    let count : length (onto (grown ramps new) []) ≡ length (grown ramps new) + 0 = length-onto (grown ramps new) [] in
    ap length whole ∙ count ∙ omega (arith, length_grown ramps new)

ramp_stands : (r : Ramps) (new : Ramp) (l : List Ramp) → Stands r l → r.end ≤ new.start → Stands (with_ramp_last r (staying new r.ramps) new) (added new l)
ramp_stands r new l s le = record {
  older = s.older;
  split = ap (added new) s.split ∙ added_is r.end r.ramps s.older new s.early s.late le;
  early = s.early;
  late = grown_late r.end r.ramps new s.late le;
  same = s.same;
}

-- a ramp is added to what is kept and to the list, or to neither
pub with_ramp_stands : (r : Ramps) (new : Ramp) (l : List Ramp) → Stands r l → r.end ≤ new.start → Stands (with_ramp r new).ramps (added_to r.end new l)
with_ramp_stands r new l s le =
    let count : length (from_on r.end (added new l)) ≡ staying new r.ramps + 1 =
    ap (λ (m : List Ramp). length (from_on r.end (added new m))) s.split ∙ count_is r.end r.ramps s.older new s.early s.late le in
    by_test (ltb (staying new r.ramps) 256)
    (λ e. let f : leb (length (from_on r.end (added new l))) 256 ≡ true = le-leb _ _ (omega (arith, ltb-true (staying new r.ramps) 256 e)) in
    rw (e, f) (ramp_stands r new l s le))
    (λ e. let f : leb (length (from_on r.end (added new l))) 256 ≡ false = lt-leb _ _ (omega (arith, ltb-false (staying new r.ramps) 256 e)) in
    rw (e, f) s)

stop_stands : (r : Ramps) (now : ℕ) (l : List Ramp) → Stands r l → r.end ≤ now → Stands (with_ramp r (stop_ramp now (present r now))).ramps (added_to r.end (stop_ramp now (at l now)) l)
stop_stands r now l s le =
    subst (λ (z : ℤ). Stands (with_ramp r (stop_ramp now (present r now))).ramps (added_to r.end (stop_ramp now z) l))
    (value_stands r.end r.base r.ramps l now s le)
    (with_ramp_stands r (stop_ramp now (present r now)) l s le)

other_stands : (names : Names) (now : ℕ) (r : Ramps) (selector : ℕ) (l : List Ramp) → Stands r l → r.end ≤ now →
    Stands (hot names now r selector sort.Other).ramps (list_after names now r selector sort.Other l)
other_stands names now r selector l s le =
    by_test (bytes_eq (name_of names selector) (codes "stop"))
    (λ e. rw e (stop_stands r now l s le))
    (λ e. rw e s)

hot_stands : (names : Names) (now : ℕ) (r : Ramps) (selector : ℕ) (t : Sort) (l : List Ramp) → Stands r l → r.end ≤ now →
    Stands (hot names now r selector t).ramps (list_after names now r selector t l)
hot_stands names now r selector (sort.Float z) l s le =
    with_ramp_stands (with_times r (pos 0) (pos 0)) (float_ramp r now z) l s (omega arith)
hot_stands names now r selector sort.Bang l s le = s
hot_stands names now r selector (sort.Symbol n) l s le = s
hot_stands names now r selector sort.List l s le = other_stands names now r selector l s le
hot_stands names now r selector sort.Other l s le = other_stands names now r selector l s le

spread_stands : (t : Sort) (r : Ramps) (atoms : List Atom) (l : List Ramp) → Stands r l → Stands (spread t r atoms) l
spread_stands (sort.Float z) r atoms l s = s
spread_stands sort.Bang r atoms l s = s
spread_stands (sort.Symbol n) r atoms l s = s
spread_stands sort.List r atoms l s = s
spread_stands sort.Other r atoms l s = s

spread_end : (t : Sort) (r : Ramps) (atoms : List Atom) → (spread t r atoms).end ≡ r.end
spread_end (sort.Float z) r atoms = refl
spread_end sort.Bang r atoms = refl
spread_end (sort.Symbol n) r atoms = refl
spread_end sort.List r atoms = refl
spread_end sort.Other r atoms = refl

cold_stands : (r : Ramps) (inlet selector : ℕ) (t : Sort) (l : List Ramp) → Stands r l → Stands (cold r inlet selector t).ramps l
cold_stands r zero selector (sort.Float z) l s = s
cold_stands r (suc zero) selector (sort.Float z) l s = s
cold_stands r (suc (suc zero)) selector (sort.Float z) l s = s
cold_stands r (suc (suc (suc n))) selector (sort.Float z) l s = s
cold_stands r inlet selector sort.Bang l s = s
cold_stands r inlet selector (sort.Symbol n) l s = s
cold_stands r inlet selector sort.List l s = s
cold_stands r inlet selector sort.Other l s = s

row_stands : (names : Names) (now : ℕ) (r : Ramps) (inlet selector : ℕ) (atoms : List Atom) (l : List Ramp) → Stands r l → r.end ≤ now →
    Stands (vline_row names now r inlet selector atoms).ramps (list_after_row names now r inlet selector atoms l)
unfolding vline_row list_after_row
row_stands names now r inlet selector atoms l s le =
    let t = sort_of selector atoms in
    by_test (eqb inlet 0)
    (λ e. rw e
    (hot_stands names now (spread (sort_of selector atoms) r atoms) selector (first_sort (sort_of selector atoms) atoms) l
    (spread_stands (sort_of selector atoms) r atoms l s) (omega (arith, spread_end (sort_of selector atoms) r atoms))))
    (λ e. rw e (cold_stands r inlet selector (sort_of selector atoms) l s))

pub heard_stands : (names : Names) (now : ℕ) (k : Kind) (s : State) (inlet selector : ℕ) (atoms : List Atom) (l : List Ramp) → IsOpen now s → IsStanding s l →
    IsStanding (heard names now k s inlet selector atoms).state (heard_list names now k s inlet selector atoms l)
heard_stands names now kind.Vline (state.Vline r) inlet selector atoms l le h = row_stands names now r inlet selector atoms l h le
heard_stands names now k s inlet selector atoms l le h = h

pub run_stands : (start : ℕ) (s new : State) (out : List ℤ) (l : List Ramp) → new ≡ left_by_run start s → CanRun start s → AreSamples out (state_at s) start → IsStanding s l →
    IsStanding new l × AreSamples out (at l) start
run_stands start (state.Vline r) new out l e le samples h = (
  subst (λ (u : State). IsStanding u l) (sym e) (taken_stands r.end (start + 64000000000) r.base r.ramps l h (omega arith)),
  λ i few. samples i few ∙ value_stands r.end r.base r.ramps l (start + i * 1000000000) h (omega arith),
)
run_stands start s new out l e le samples h = absurd le
