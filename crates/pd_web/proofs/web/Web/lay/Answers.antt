use Rattle.std.proofs.Common.{◌≡◌, ℕ, List, map, length, slice_get, ap, ◌∙◌, subst, sym, arith}
use Rattle.std.proofs.lemmas.List.{with_items_is}
use Rattle.std.specs.Vec.{with_items}
use Rattle.std.specs.declared.vec.Vec.{Vec}
use Rattle.std.specs.declared.alloc.Global.{Global}
use Rattle.slab.specs.Slab.{get}
use Rattle.pd_wire.specs.Book.{Book}
use Rattle.pd_grove.specs.declared.ports.Side.{Side}
use Rattle.pd_grove.specs.declared.ports.Side.TheVariants.{Inlets, Outlets}
use Rattle.pd_web.specs.declared.sockets.Sockets.{Sockets}
use Rattle.pd_web.specs.Spares.{AreFree}
use Rattle.pd_web.specs.Sockets.{AreFew, AreTied, IsBare, ports_at, end_under, made_at, jacks_of}
use Rattle.pd_web.specs.Wiring.{source_at, sink_at}
use Rattle.pd_web.specs.Jacks.{jacks_at, made_in}
use Rattle.pd_web.specs.Lines.{all_lines, laid_at, seen_at, fed_from, feeding, IsLaid}
use Rattle.pd_web.specs.Homes.{AreNear, AreTrue, AreKnown}
use Rattle.pd_web.specs.Hops.{hop_by, fan_under, feeds_under, places_of}
use Rattle.pd_web.proofs.SocketLemmas.{jacks_laid, tied_laid, none_bare, few_kept}
use Rattle.pd_web.proofs.LineLemmas.{seen_laid}
use Rattle.pd_web.proofs.FanLemmas.{fans_are, feeds_are, none_laid}
use Rattle.pd_web.proofs.ChangeLemmas.{none_free}
use Rattle.pd_web.proofs.MeetLemmas.{laid_meet}
use Rattle.pd_web.proofs.HomeLemmas.{all_near, homes_told, homes_found}
use Rattle.pd_web.proofs.web.Web.lay.Goals as goal

pub lay_homes-requires-clause-near : goal.lay_homes-requires-clause-near
lay_homes-requires-clause-near c =
    let P : List Sockets → Type 0 = λ all. AreNear all in
    let told = jacks_laid c.in_ok-sockets.sockets.items (λ side k. jacks_at side c.args.grove.now k) c.in_ok-sockets.ensures.told in
    subst P (sym c.as_slice.ensures.value) (all_near c.in_ok-sockets.sockets.items c.args.grove.now told c.in_ok-sockets.ensures.len)

pub lay_homes-requires-clause-few : goal.lay_homes-requires-clause-few
lay_homes-requires-clause-few c = let P : List Sockets → Type 0 = λ all. AreFew all in subst P (sym c.as_slice.ensures.value) c.in_ok-sockets.ensures.few

pub lay_homes-requires-clause-keys : goal.lay_homes-requires-clause-keys
lay_homes-requires-clause-keys c = let e = ap length c.as_slice.ensures.value in let h = c.in_ok-sockets.ensures.near in omega (arith, e, h)

pub lay_wires-requires-clause-tied : goal.lay_wires-requires-clause-tied
lay_wires-requires-clause-tied c =
    let P : List Sockets → Type 0 = λ all. AreTied all c.new-spots.result.items c.in_ok-book.book in
    let Q : Book → Type 0 = λ b. AreTied c.in_ok-sockets.sockets.items c.new-spots.result.items b in
    subst P (sym c.as_mut_slice.ensures.value)
    (subst Q (sym c.in_ok-book.ensures.empty) (tied_laid c.in_ok-sockets.sockets.items (λ side k. jacks_at side c.args.grove.now k) c.new-spots.result.items c.in_ok-sockets.ensures.told))

pub lay_wires-requires-clause-told : goal.lay_wires-requires-clause-told
lay_wires-requires-clause-told c =
    let P : List Sockets → Type 0 = λ all. (k : ℕ) → laid_at all k ≡ seen_at c.args.grove.now k in
    let told = jacks_laid c.in_ok-sockets.sockets.items (λ side k. jacks_at side c.args.grove.now k) c.in_ok-sockets.ensures.told in
    subst P (sym c.as_mut_slice.ensures.value) (seen_laid c.in_ok-sockets.sockets.items c.args.grove.now told c.in_ok-sockets.ensures.made)

-- what was written is all that the list has
whole : (v : Vec Sockets Global) (xs ys : List Sockets) → xs ≡ v.items → length ys ≡ length xs → (with_items v ys).items ≡ ys
whole v xs ys h e = let f = ap length h in let ok = v.ok.0 in with_items_is v ys (omega (arith, e, f, ok))

pub invariant_of-result : goal.invariant_of-result
invariant_of-result c =
    let new = c.lay_wires.new.sockets in
    let at = whole c.in_ok-sockets.sockets c.as_mut_slice.result.now new c.as_mut_slice.ensures.value c.lay_wires.auto.sockets in
    let P : List Sockets → Type 0 = λ all. AreFew all in
    let Q : List Sockets → Type 0 = λ all. AreTied all c.lay_wires.new.spots.items c.lay_wires.new.book in
    record {
      few = subst P (sym at) (few_kept c.as_mut_slice.result.now new c.in_ok-lay_wires.ensures.keeps (subst P (sym c.as_mut_slice.ensures.value) c.in_ok-sockets.ensures.few));
      tied = subst Q (sym at) c.in_ok-lay_wires.ensures.tied;
      free = let R : List ℕ → Type 0 = λ xs. AreFree (with_items c.in_ok-sockets.sockets new).items c.lay_wires.new.book xs in subst R (sym c.new-spare.ensures.items) (none_free _ _);
    }

pub returns-clause-ports : goal.returns-clause-ports
returns-clause-ports c =
    let new = c.lay_wires.new.sockets in
    let at = whole c.in_ok-sockets.sockets c.as_mut_slice.result.now new c.as_mut_slice.ensures.value c.lay_wires.auto.sockets in
    let told = jacks_laid c.in_ok-sockets.sockets.items (λ side k. jacks_at side c.args.grove.now k) c.in_ok-sockets.ensures.told in
    let P : List Sockets → Type 0 = λ all. (side : Side) (k : ℕ) → jacks_of (ports_at all side k) ≡ jacks_at side c.args.grove.now k in
    let was = subst P (sym c.as_mut_slice.ensures.value) told in
    subst P (sym at) (λ side k. c.in_ok-lay_wires.ensures.keeps.jacks side k ∙ was side k)

pub returns-clause-made : goal.returns-clause-made
returns-clause-made c =
    let new = c.lay_wires.new.sockets in
    let at = whole c.in_ok-sockets.sockets c.as_mut_slice.result.now new c.as_mut_slice.ensures.value c.lay_wires.auto.sockets in
    let P : List Sockets → Type 0 = λ all. (k : ℕ) → made_at all k ≡ made_in (get c.args.grove.now.nodes k) in
    let was = subst P (sym c.as_mut_slice.ensures.value) c.in_ok-sockets.ensures.made in
    subst P (sym at) (λ k. c.in_ok-lay_wires.ensures.keeps.made k ∙ was k)

pub returns-clause-fans : goal.returns-clause-fans
returns-clause-fans c =
    let new = c.lay_wires.new.sockets in
    let book = c.lay_wires.new.book in
    let spots = c.lay_wires.new.spots.items in
    let lines = all_lines c.args.grove.now in
    let at = whole c.in_ok-sockets.sockets c.as_mut_slice.result.now new c.as_mut_slice.ensures.value c.lay_wires.auto.sockets in
    let Q : Book → Type 0 = λ b. IsBare b in
    let laid = c.in_ok-lay_wires.ensures.laid (none_laid _ _ (subst Q (sym c.in_ok-book.ensures.empty) none_bare)) in
    let P : List Sockets → Type 0 = λ all. (k o : ℕ) → places_of (map (λ key. hop_by key (slice_get spots (sink_at book key))) (fan_under book (end_under all Outlets k o))) ≡ fed_from k o lines in
    subst P (sym at) (λ k o. fans_are new spots book lines k o c.in_ok-lay_wires.ensures.tied.placed laid)

pub returns-clause-feeds : goal.returns-clause-feeds
returns-clause-feeds c =
    let new = c.lay_wires.new.sockets in
    let book = c.lay_wires.new.book in
    let spots = c.lay_wires.new.spots.items in
    let lines = all_lines c.args.grove.now in
    let at = whole c.in_ok-sockets.sockets c.as_mut_slice.result.now new c.as_mut_slice.ensures.value c.lay_wires.auto.sockets in
    let Q : Book → Type 0 = λ b. IsBare b in
    let laid = c.in_ok-lay_wires.ensures.laid (none_laid _ _ (subst Q (sym c.in_ok-book.ensures.empty) none_bare)) in
    let P : List Sockets → Type 0 = λ all. (k i : ℕ) → places_of (map (λ key. hop_by key (slice_get spots (source_at book key))) (feeds_under book (end_under all Inlets k i))) ≡ feeding k i lines in
    subst P (sym at) (λ k i. feeds_are new spots book lines k i c.in_ok-lay_wires.ensures.tied.placed laid)

pub returns-clause-meet : goal.returns-clause-meet
returns-clause-meet c =
    let new = c.lay_wires.new.sockets in
    let book = c.lay_wires.new.book in
    let lines = all_lines c.args.grove.now in
    let at = whole c.in_ok-sockets.sockets c.as_mut_slice.result.now new c.as_mut_slice.ensures.value c.lay_wires.auto.sockets in
    let Q : Book → Type 0 = λ b. IsBare b in
    let laid = c.in_ok-lay_wires.ensures.laid (none_laid _ _ (subst Q (sym c.in_ok-book.ensures.empty) none_bare)) in
    let P : List Sockets → Type 0 = λ all. IsLaid all book lines in
    laid_meet _ lines c.laws.ensures (subst P (sym at) laid)

pub returns-clause-homes : goal.returns-clause-homes
returns-clause-homes c =
    let all = c.in_ok-sockets.sockets.items in
    let told = jacks_laid all (λ side k. jacks_at side c.args.grove.now k) c.in_ok-sockets.ensures.told in
    let P : List Sockets → Type 0 = λ xs. AreTrue xs c.in_ok-homes.homes.items in
    homes_told all c.in_ok-homes.homes.items c.args.grove.now told (subst P c.as_slice.ensures.value c.in_ok-homes.ensures.told)

pub returns-clause-homes_found : goal.returns-clause-homes_found
returns-clause-homes_found c =
    let all = c.in_ok-sockets.sockets.items in
    let told = jacks_laid all (λ side k. jacks_at side c.args.grove.now k) c.in_ok-sockets.ensures.told in
    let Q : List Sockets → Type 0 = λ xs. AreKnown xs c.in_ok-homes.homes.items (length xs) in
    homes_found all c.in_ok-homes.homes.items c.args.grove.now told (subst Q c.as_slice.ensures.value c.in_ok-homes.ensures.found)
