-- Sends that go on a pile.
use Rattle.std.proofs.Common.{arith, ◌≡◌, ℕ, zero, suc, ◌+◌, ◌-◌, ◌<◌, ◌≤◌, Bool, true, false, ◌&&◌, List, [], ◌∷◌, ◌++◌, length, take, get_or, map, refl, sym, ◌∙◌, ap, subst, nat_le}
use Rattle.std.proofs.Math.Seq.{drop-append-add, drop-length}
use Rattle.std.proofs.lemmas.Bool.Decides.{nat_tests}
use Rattle.std.specs.List.{slice_range, slice_get, flat_map}
use Rattle.std.specs.Prelude.{Option, None}
use Rattle.pd_atom.specs.declared.Atom.{Atom}
use Rattle.pd_kind.specs.declared.sends.SendRow.{SendRow}
use Rattle.pd_kind.specs.Rows.{Send, send_of, are_within}
use Rattle.pd_web.specs.declared.web.Hop.{Hop}
use Rattle.pd_web.specs.Hops.{fan_hops}
use Rattle.pd_stack.specs.declared.stack.Pending.{Pending}
use Rattle.pd_stack.specs.Pile.{Pile}
use Rattle.pd_hearing.specs.Worlds.{Net}
use Rattle.pd_stack.specs.Tasks.{Task, sent, again_after}
use Rattle.pd_stack.specs.Piles.{IsAlong, AreLeft, AllLie, LeftOn, row_from, send_at}
use Rattle.pd_stack.proofs.PileLemmas.{left-agree, cut-agree, more-agree}
use Rattle.pd_stack.proofs.TurnLemmas.{get-none}

-- the wires of an outlet from the first one on
pub along_fan : (net : Net) (node outlet : ℕ) (next : Option Hop) → next ≡ slice_get (fan_hops net.web node outlet) 0 → IsAlong net next (fan_hops net.web node outlet)
along_fan net node outlet next first = record { node = node; outlet = outlet; place = 0; first = first; rest = refl }

-- no wires
pub along_none : (net : Net) → IsAlong net None []
along_none net = record {
  node = 0;
  outlet = 0;
  place = length (fan_hops net.web 0 0);
  first = get-none (fan_hops net.web 0 0);
  rest = sym (drop-length (fan_hops net.web 0 0));
}

-- atoms that lie behind others
pub slice-behind : (xs ys : List Atom) (a b : ℕ) → slice_range (xs ++ ys) (length xs + a) (length xs + b) ≡ slice_range ys a b
slice-behind xs ys a b =
    let e : (length xs + b) - (length xs + a) ≡ b - a = omega arith in
    rw (drop-append-add xs ys a, e) refl

-- sends whose atoms lie behind others
pub sends-behind : (xs ys : List Atom) (rows : List SendRow) → map (send_at (length xs) (xs ++ ys)) rows ≡ map (send_of ys) rows
sends-behind xs ys [] = refl
sends-behind xs ys (row ∷ rows) =
    ap (λ (l : List Atom). record { target = row.target; selector = row.selector; atoms = l } ∷ map (send_at (length xs) (xs ++ ys)) rows) (slice-behind xs ys row.first row.after)
    ∙ ap (λ (l : List Send). send_of ys row ∷ l) (sends-behind xs ys rows)

-- rows behind others lie within
and-both : (a b : Bool) → a ≡ true → b ≡ true → (a && b) ≡ true
and-both a b e f = rw (e, f) refl

and-first : (a b : Bool) → (a && b) ≡ true → a ≡ true
and-first true b e = refl
and-first false b e = e

and-second : (a b : Bool) → (a && b) ≡ true → b ≡ true
and-second true b e = e
and-second false b e = cc

le-true : (a b : ℕ) → nat_le a b ≡ true → a ≤ b
le-true a b e = grind (arith, nat_tests)

true-le : (a b : ℕ) → a ≤ b → nat_le a b ≡ true
true-le a b h = grind (arith, nat_tests)

-- a row among rows that lie within
pub row-within : (base full : ℕ) (rows : List SendRow) (k : ℕ) (row : SendRow) → are_within full (map (row_from base) rows) ≡ true → k < length rows → row ≡ get_or rows k row
    → (row.first ≤ row.after) × (base + row.after ≤ full)
row-within base full [] k row e lt is = absurd (omega (arith, lt))
row-within base full (r ∷ rows) zero row e lt is =
    let here = and-first _ _ e in
    let order : base + r.first ≤ base + r.after = le-true (base + r.first) (base + r.after) (and-first _ _ here) in
    let end : base + r.after ≤ full = le-true (base + r.after) full (and-second _ _ here) in
    subst (λ (x : SendRow). (x.first ≤ x.after) × (base + x.after ≤ full)) (sym is) (omega arith, end)
row-within base full (r ∷ rows) (suc k) row e lt is = row-within base full rows k row (and-second _ _ e) (omega (arith, lt)) is

pub within-behind : (base n : ℕ) (rows : List SendRow) → are_within n rows ≡ true → are_within (base + n) (map (row_from base) rows) ≡ true
within-behind base n [] e = refl
within-behind base n (row ∷ rows) e =
    let here = and-first _ _ e in
    let order : row.first ≤ row.after = le-true row.first row.after (and-first _ _ here) in
    let end : row.after ≤ n = le-true row.after n (and-second _ _ here) in
    and-both _ _ (and-both _ _ (true-le (base + row.first) (base + row.after) (omega arith)) (true-le (base + row.after) (base + n) (omega arith)))
    (within-behind base n rows (and-second _ _ e))

-- the whole group: what was below, whether the box is resumed, and its sends; and the atoms that are cut off again
pub group-left : (net : Net) (depth node : ℕ) (old more : List Atom) (rows : List SendRow) (again : Bool) (ps ps1 ps2 : List Pending) (floor : ℕ) (tasks : List Task)
    → AllLie (length old) ps → AllLie floor ps2
    → AreLeft net old ps tasks
    → ((ts : List Task) → AreLeft net (old ++ more) ps ts → AreLeft net (old ++ more) ps1 (again_after depth node again ++ ts))
    → ((ts : List Task) → AreLeft net (old ++ more) ps1 ts → AreLeft net (old ++ more) ps2 (flat_map (sent net (depth + 1) node) (map (send_at (length old) (old ++ more)) rows) ++ ts))
    → AreLeft net (take floor (old ++ more)) ps2 (flat_map (sent net (depth + 1) node) (map (send_of more) rows) ++ (again_after depth node again ++ tasks))
group-left net depth node old more rows again ps ps1 ps2 floor tasks lie lie2 left one two =
    let below : AreLeft net (old ++ more) ps tasks = left-agree net (length old) old (old ++ more) ps tasks (more-agree old more) lie left in
    let all = two (again_after depth node again ++ tasks) (one tasks below) in
    let all2 = subst (λ (l : List Send). AreLeft net (old ++ more) ps2 (flat_map (sent net (depth + 1) node) l ++ (again_after depth node again ++ tasks))) (sends-behind old more rows) all in
    left-agree net floor (old ++ more) (take floor (old ++ more)) ps2 _ (cut-agree floor (old ++ more)) lie2 all2

-- the same from pile to pile: the atoms go on it, then that the box is resumed, then its sends, and then the atoms go that nothing needs
pub piled-group : (net : Net) (depth node base floor : ℕ) (old more : List Atom) (rows : List SendRow) (again : Bool) (ps : List Pending) (pile1 pile2 pile3 pile4 : Pile) (tasks : List Task)
    → AllLie (length old) ps → AreLeft net old ps tasks
    → pile1 ≡ record { pendings = ps; atoms = old ++ more } → base ≡ length old
    → pile2.atoms ≡ pile1.atoms
    → ((n : Net) (ts : List Task) → AreLeft n pile1.atoms pile1.pendings ts → AreLeft n pile2.atoms pile2.pendings (again_after depth node again ++ ts))
    → pile3.atoms ≡ pile2.atoms → AllLie floor pile3.pendings
    → ((ts : List Task) → AreLeft net pile2.atoms pile2.pendings ts
    → AreLeft net pile3.atoms pile3.pendings (flat_map (sent net (depth + 1) node) (map (send_at base pile2.atoms) rows) ++ ts))
    → pile4 ≡ record { pendings = pile3.pendings; atoms = take floor pile3.atoms }
    → LeftOn net pile4 (flat_map (sent net (depth + 1) node) (map (send_of more) rows) ++ (again_after depth node again ++ tasks))
piled-group net depth node base floor old more rows again ps pile1 pile2 pile3 pile4 tasks lie left is1 begins same2 one same3 lie3 two is4 =
    let whole : List Atom = old ++ more in
    let a2 : pile2.atoms ≡ whole = same2 ∙ ap (λ (p : Pile). p.atoms) is1 in
    let a3 : pile3.atoms ≡ whole = same3 ∙ a2 in
    let due : List Task = flat_map (sent net (depth + 1) node) (map (send_of more) rows) ++ (again_after depth node again ++ tasks) in
    let first : (ts : List Task) → AreLeft net whole ps ts → AreLeft net whole pile2.pendings (again_after depth node again ++ ts)
    = λ ts l. subst (λ (a : List Atom). AreLeft net a pile2.pendings (again_after depth node again ++ ts)) a2
    (one net ts (subst (λ (p : Pile). AreLeft net p.atoms p.pendings ts) (sym is1) l)) in
    let second : (ts : List Task) → AreLeft net whole pile2.pendings ts
    → AreLeft net whole pile3.pendings (flat_map (sent net (depth + 1) node) (map (send_at (length old) whole) rows) ++ ts)
    = λ ts l.
    subst (λ (b : ℕ). AreLeft net whole pile3.pendings (flat_map (sent net (depth + 1) node) (map (send_at b whole) rows) ++ ts)) begins
    (subst (λ (a : List Atom). AreLeft net whole pile3.pendings (flat_map (sent net (depth + 1) node) (map (send_at base a) rows) ++ ts)) a2
    (subst (λ (a : List Atom). AreLeft net a pile3.pendings (flat_map (sent net (depth + 1) node) (map (send_at base pile2.atoms) rows) ++ ts)) a3
    (two ts (subst (λ (a : List Atom). AreLeft net a pile2.pendings ts) (sym a2) l)))) in
    subst (λ (p : Pile). LeftOn net p due) (sym is4)
    (subst (λ (a : List Atom). AreLeft net (take floor a) pile3.pendings due) (sym a3)
    (group-left net depth node old more rows again ps pile2.pendings pile3.pendings floor tasks lie lie3 left first second))
