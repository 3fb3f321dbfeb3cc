use Rattle.std.proofs.Common.{inl, inr, refl, ap, ◌∙◌}
use Rattle.slab.specs.Slab.{get}
use Rattle.pd_retyping.specs.Retypes.{with_wires}
use Rattle.pd_retyping.proofs.BecomeLemmas.{rows_small, rows_one, seed_leaf, seed_makes, has_become, same_patch, some_there}
use Rattle.pd_retyping.proofs.becoming.become_grown.Goals as goal

pub seed_of-requires-clause-small : goal.seed_of-requires-clause-small
seed_of-requires-clause-small g c = rows_small c.requires.grown.added.known.names c.args.grown.rows.items c.requires.grown.is.suit

pub seed_of-requires-clause-one : goal.seed_of-requires-clause-one
seed_of-requires-clause-one g c =
    let h = c.requires.grown in
    let n = some_there (get c.args.patch.now.grove.nodes c.args.key) c.requires.here in
    rows_one c.args.patch.now c.args.key n.0 c.args.grown h.added h.is (c.can_become.ensures.yes c.if-not-can_become.false n.0 h.added n.1 h.is)

pub changed_wires-requires-clause-small : goal.changed_wires-requires-clause-small
changed_wires-requires-clause-small g c =
    let p = c.args.patch.now in
    let h = c.requires.grown in
    let n = some_there (get p.grove.nodes c.args.key) c.requires.here in
    let P = c.can_become.ensures.yes c.if-not-can_become.false n.0 h.added n.1 h.is in
    (seed_leaf p c.args.key n.0 c.args.grown h.added h.is P c.in-Ok.seed c.in-Ok.ensures.stand c.in-Ok.ensures.leaf).small

pub make_other-requires : goal.make_other-requires
make_other-requires g c =
    let p = c.args.patch.now in
    let h = c.requires.grown in
    let n = some_there (get p.grove.nodes c.args.key) c.requires.here in
    let P = c.can_become.ensures.yes c.if-not-can_become.false n.0 h.added n.1 h.is in
    let seed = c.in-Ok.seed in
    let changed = c.in-Ok-changed_wires.changed in
    let e = c.in-Ok-changed_wires.ensures in
    let leaf = seed_leaf p c.args.key n.0 c.args.grown h.added h.is P seed c.in-Ok.ensures.stand c.in-Ok.ensures.leaf in
    record {
      can = (
        n.0,
        seed_makes p c.args.key n.0 c.args.grown h.added h.is P seed c.in-Ok.ensures.stand changed.gone.items changed.turned.items c.requires.can c.requires.meet n.1 leaf (e.gone n.0 n.1) e.gone_wires
            (e.turned n.0 n.1) e.turned_wires,
      );
      counted = c.requires.counted;
    }

pub returns-clause-became : goal.returns-clause-became
returns-clause-became g c = λ n a is A names.
    let p = c.args.patch.now in
    let P = c.can_become.ensures.yes c.if-not-can_become.false n a is A in
    let seed = c.in-Ok.seed in
    let changed = c.in-Ok-changed_wires.changed in
    let e = c.in-Ok-changed_wires.ensures in
    let leaf = seed_leaf p c.args.key n c.args.grown a A P seed c.in-Ok.ensures.stand c.in-Ok.ensures.leaf in
    has_become p c.args.key n c.args.grown a A P seed c.in-Ok.ensures.stand c.make_other.new.patch c.args.now c.args.symbols.now changed.gone.items changed.turned.items c.args.steps.now c.make_other.new.steps names
    leaf c.in-Ok.ensures.fresh c.make_other.ensures.goes_on (e.gone n is) (e.turned n is) (c.in-Ok-make_other.ensures.made n is)

pub returns-then-not-can_become-clause-refused : goal.returns-then-not-can_become-clause-refused
returns-then-not-can_become-clause-refused g c = λ n a is A. inr (refl, (refl, c.can_become.ensures.no c.if-not-can_become.true n a is A))

pub returns-in_default-clause-refused : goal.returns-in_default-clause-refused
returns-in_default-clause-refused g c = λ n a is A. inl (refl, (c.can_become.ensures.yes c.if-not-can_become.false n a is A, same_patch c.args.patch.now))

pub returns-in_default-changed_wires-clause-refused : goal.returns-in_default-changed_wires-clause-refused
returns-in_default-changed_wires-clause-refused g c = λ n a is A. inl (refl, (c.can_become.ensures.yes c.if-not-can_become.false n a is A, same_patch c.args.patch.now))

pub returns-in_default-make_other-clause-refused : goal.returns-in_default-make_other-clause-refused
returns-in_default-make_other-clause-refused g c = λ n a is A.
    inl (refl, (c.can_become.ensures.yes c.if-not-can_become.false n a is A, c.in_default-make_other.ensures.short))

pub returns-clause-counts : goal.returns-clause-counts
returns-clause-counts g c = c.counts_left-counts.ensures ∙ ap (with_wires c.args.grown.counts) c.in-Ok-make_other.ensures.counted
