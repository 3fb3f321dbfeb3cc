use Rattle.std.proofs.Common.{List, ◌∷◌, ◌++◌, [], Option, is_some, refl, sym, ap, ◌∙◌, subst, arith}
use Rattle.pd_web.specs.declared.lines.Line.{Line}
use Rattle.pd_web.specs.declared.web.Hop.{Hop}
use Rattle.pd_web.specs.Changes.{CutsWire, line_told}
use Rattle.pd_moving.proofs.LiftLemmas.{IsWeb, Lifting, lifting_begun, lifting_on, lifting_smaller, lifting_fits, lifting_wire, lifted, lifted_lines}
use Rattle.pd_moving.proofs.lifting.lift_outlet.Goals as goal

pub loop-next-init : goal.loop-next-init
loop-next-init c =
    let w = c.args.web.now in
    let P : List Line → Type 0 = λ lines. Lifting w w c.args.node c.args.outlet lines c.fan_first-next.result in
    (subst P (sym c.requires.empty) (lifting_begun w c.args.node c.args.outlet c.fan_first-next.result c.requires.meet c.fan_first-next.ensures), refl)

pub note-requires : goal.note-requires
note-requires c =
    let w = c.args.web.now in
    let v = c.loop-next.web in
    let P : Option Hop → Type 0 = λ next. Lifting w v c.args.node c.args.outlet c.loop-next.lines.items next in
    let fits = lifting_fits w v c.args.node c.args.outlet c.loop-next.lines.items c.in-Some.hop (subst P c.in-Some.is c.loop-next.invariant.0) in
    let room = c.requires.room in
    let same = c.loop-next.invariant.1 in
    omega (arith, fits, room, same)

pub cut-requires : goal.cut-requires
cut-requires c =
    let w = c.args.web.now in
    let v = c.loop-next.web in
    let P : Option Hop → Type 0 = λ next. Lifting w v c.args.node c.args.outlet c.loop-next.lines.items next in
    let is : IsWeb v = record { fans = c.laws.ensures.fans; feeds = c.laws.ensures.feeds; once = c.laws.ensures.once } in
    ap is_some (ap (line_told v) c.key.ensures ∙ lifting_wire w v c.args.node c.args.outlet c.loop-next.lines.items c.in-Some.hop (subst P c.in-Some.is c.loop-next.invariant.0) is)

pub loop-next-preserved : goal.loop-next-preserved
loop-next-preserved c =
    let w = c.args.web.now in
    let v = c.loop-next.web in
    let u = c.cut.new.self in
    let P : Option Hop → Type 0 = λ next. Lifting w v c.args.node c.args.outlet c.loop-next.lines.items next in
    let Q = λ (k : _). CutsWire v u k in
    let is : IsWeb v = record { fans = c.laws.ensures.fans; feeds = c.laws.ensures.feeds; once = c.laws.ensures.once } in (
      lifting_on w v u c.args.node c.args.outlet c.loop-next.lines.items c.in-Some.hop (subst P c.in-Some.is c.loop-next.invariant.0) is (subst Q c.key.ensures c.cut.ensures) c.note.new.lines.items c.fan_first-next-in-Some.result
          (c.note.ensures.told ∙ ap (λ (l : Line). c.loop-next.lines.items ++ l ∷ []) c.line_of.ensures) c.fan_first-next-in-Some.ensures,
      c.note.ensures.kept ∙ c.loop-next.invariant.1,
    )

pub loop-next-smaller : goal.loop-next-smaller
loop-next-smaller c =
    let w = c.args.web.now in
    let v = c.loop-next.web in
    let u = c.cut.new.self in
    let P : Option Hop → Type 0 = λ next. Lifting w v c.args.node c.args.outlet c.loop-next.lines.items next in
    let Q = λ (k : _). CutsWire v u k in
    let is : IsWeb v = record { fans = c.laws.ensures.fans; feeds = c.laws.ensures.feeds; once = c.laws.ensures.once } in
    let less = lifting_smaller w v u c.args.node c.args.outlet c.loop-next.lines.items c.in-Some.hop (subst P c.in-Some.is c.loop-next.invariant.0) is (subst Q c.key.ensures c.cut.ensures) in
    omega (arith, less)

pub returns-clause-lifts : goal.returns-clause-lifts
returns-clause-lifts c =
    let P : Option Hop → Type 0 = λ next. Lifting c.args.web.now c.loop-next.web c.args.node c.args.outlet c.loop-next.lines.items next in
    lifted c.args.web.now c.loop-next.web c.args.node c.args.outlet c.loop-next.lines.items (subst P c.in_default.is c.loop-next.invariant.0)

pub returns-clause-lines : goal.returns-clause-lines
returns-clause-lines c =
    let P : Option Hop → Type 0 = λ next. Lifting c.args.web.now c.loop-next.web c.args.node c.args.outlet c.loop-next.lines.items next in
    lifted_lines c.args.web.now c.loop-next.web c.args.node c.args.outlet c.loop-next.lines.items (subst P c.in_default.is c.loop-next.invariant.0)
