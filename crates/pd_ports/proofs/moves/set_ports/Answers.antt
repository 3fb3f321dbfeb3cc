use Rattle.std.proofs.Common.{List, length, slice_get, refl, sym, ap, ◌∙◌, subst, arith}
use Rattle.pd_web.specs.declared.sockets.Port.{Port}
use Rattle.pd_web.specs.declared.sockets.Sockets.{Sockets}
use Rattle.pd_web.specs.declared.sockets.Spot.{Spot}
use Rattle.pd_web.specs.Sockets.{ports_at, jacks_of}
use Rattle.pd_web.specs.Homes.{inner_of}
use Rattle.pd_web.proofs.CountLemmas.{wires_alike}
use Rattle.pd_ports.specs.Ends.{AreLive}
use Rattle.pd_ports.specs.Homes.{Forgets, Knows, IsInner}
use Rattle.pd_ports.specs.Moves.{AreOnce, AreApart, moved_ports}
use Rattle.pd_ports.proofs.HomeLemmas.{side_known}
use Rattle.pd_ports.proofs.TakeLemmas.{jacks_moved}
use Rattle.pd_ports.proofs.MoveLemmas.{Scene, moved_tied, moved_free, keys_went, keys_came, keys_stay, lines_went, lines_stay, no_lines}
use Rattle.pd_ports.proofs.ListedLemmas.{there_after}
use Rattle.pd_ports.proofs.MeetLemmas.{met_in, meet_in}
use Rattle.pd_ports.proofs.SetLemmas.{moved_count, olds_live, news_apart, news_once, moved_few, moved_by}
use Rattle.pd_ports.proofs.moves.set_ports.Goals as goal

pub side_at-old-requires : goal.side_at-old-requires
side_at-old-requires c = let e = ap length c.as_slice-sockets.ensures.value in let r = c.requires.here.boxes in omega (arith, e, r)

pub take_ports-list-requires-clause-once : goal.take_ports-list-requires-clause-once
take_ports-list-requires-clause-once c =
    let P : List Port → Type 0 = λ ports. AreOnce (jacks_of ports) in
    let old = c.side_at-old.ensures ∙ ap (λ (xs : List Sockets). ports_at xs c.args.side c.args.key) c.as_slice-sockets.ensures.value in
    subst P (sym old) c.requires.once_before

pub write_spots-requires-clause-apart : goal.write_spots-requires-clause-apart
write_spots-requires-clause-apart c =
    let w = c.args.web.now in
    let P : List Port → Type 0 = λ ports. AreApart w.spots.items ports in
    let old = c.side_at-old.ensures ∙ ap (λ (xs : List Sockets). ports_at xs c.args.side c.args.key) c.as_slice-sockets.ensures.value in
    let new = c.as_slice-new.ensures.value ∙ c.take_ports-list.ensures ∙ ap (λ (ports : List Port). moved_ports ports c.args.jacks.now) old in
    subst P (sym new) (news_apart w.sockets.items w.spots.items w.book c.args.side c.args.key c.args.jacks.now w.tied c.requires.once)

pub write_spots-requires-clause-few : goal.write_spots-requires-clause-few
write_spots-requires-clause-few c =
    let e = ap length (c.as_slice-new.ensures.value ∙ c.take_ports-list.ensures) ∙ moved_count c.side_at-old.result.now c.args.jacks.now in
    let f = c.requires.few in
    omega (arith, e, f)

pub drop_left-requires-clause-live : goal.drop_left-requires-clause-live
drop_left-requires-clause-live c =
    let w = c.args.web.now in
    let P : List Port → Type 0 = λ ports. AreLive w.book ports in
    let old = c.side_at-old.ensures ∙ ap (λ (xs : List Sockets). ports_at xs c.args.side c.args.key) c.as_slice-sockets.ensures.value in
    subst P (sym old) (olds_live w.sockets.items w.spots.items w.book c.args.side c.args.key w.tied)

pub drop_left-requires-clause-told : goal.drop_left-requires-clause-told
drop_left-requires-clause-told c = λ m e h.
    let spot : Spot = record { node = c.args.key; side = c.args.side; port = m } in
    (spot, ap (λ (xs : List Spot). slice_get xs e) c.as_slice-spots.ensures.value ∙ c.write_spots.ensures.told m e h, refl)

pub know_side-requires-clause-once : goal.know_side-requires-clause-once
know_side-requires-clause-once c = λ i m j p q.
    let new = c.as_slice-new.ensures.value ∙ c.take_ports-list.ensures in
    news_once c.side_at-old.result.now c.args.jacks.now c.requires.once i m j (ap (λ (ports : List Port). inner_of ports i) (sym new) ∙ p) (ap (λ (ports : List Port). inner_of ports m) (sym new) ∙ q)

pub know_side-requires-clause-few : goal.know_side-requires-clause-few
know_side-requires-clause-few c =
    let e = ap length (c.as_slice-new.ensures.value ∙ c.take_ports-list.ensures) ∙ moved_count c.side_at-old.result.now c.args.jacks.now in
    let f = c.requires.few in
    omega (arith, e, f)

pub put_side-requires : goal.put_side-requires
put_side-requires c = let r = c.requires.here.boxes in omega (arith, r)

pub invariant_of-web : goal.invariant_of-web
invariant_of-web c =
    let w = c.args.web.now in
    let old = c.side_at-old.ensures ∙ ap (λ (xs : List Sockets). ports_at xs c.args.side c.args.key) c.as_slice-sockets.ensures.value in
    let list = c.take_ports-list.ensures ∙ ap (λ (ports : List Port). moved_ports ports c.args.jacks.now) old in
    let s : Scene = record {
      all = w.sockets.items;
      all_after = c.put_side.new.sockets.items;
      spots = w.spots.items;
      spots_after = c.write_spots.new.spots.items;
      book = w.book;
      book_after = c.drop_left.new.book;
      spare = w.spare.items;
      key = c.args.key;
      side = c.args.side;
      jacks = c.args.jacks.now;
    } in
    let v = moved_by s c.side_at-old.result.now c.as_slice-new.result.now c.take_ports-list.result.items old (c.as_slice-new.ensures.value ∙ list) list c.laws.ensures w.tied w.free c.requires.once_before
    c.put_side.ensures c.write_spots.ensures c.drop_left.ensures in
    let e = ap length c.take_ports-list.ensures ∙ moved_count c.side_at-old.result.now c.args.jacks.now in
    let f = c.requires.few in
    record { few = moved_few w.sockets.items c.put_side.new.sockets.items c.args.key c.args.side c.take_ports-list.result.items c.put_side.ensures (omega (arith, e, f)) w.few; tied = moved_tied s v; free = moved_free s v }

pub returns-clause-follows : goal.returns-clause-follows
returns-clause-follows c =
    let w = c.args.web.now in
    let old = c.side_at-old.ensures ∙ ap (λ (xs : List Sockets). ports_at xs c.args.side c.args.key) c.as_slice-sockets.ensures.value in
    let list = c.take_ports-list.ensures ∙ ap (λ (ports : List Port). moved_ports ports c.args.jacks.now) old in
    let s : Scene = record {
      all = w.sockets.items;
      all_after = c.put_side.new.sockets.items;
      spots = w.spots.items;
      spots_after = c.write_spots.new.spots.items;
      book = w.book;
      book_after = c.drop_left.new.book;
      spare = w.spare.items;
      key = c.args.key;
      side = c.args.side;
      jacks = c.args.jacks.now;
    } in
    let v = moved_by s c.side_at-old.result.now c.as_slice-new.result.now c.take_ports-list.result.items old (c.as_slice-new.ensures.value ∙ list) list c.laws.ensures w.tied w.free c.requires.once_before
    c.put_side.ensures c.write_spots.ensures c.drop_left.ensures in
    let met = met_in w.sockets.items w.spots.items w.book c.requires.meet.fed c.requires.meet.fanned in
    record {
      ports = ap jacks_of v.puts.is ∙ jacks_moved (ports_at w.sockets.items c.args.side c.args.key) c.args.jacks.now;
      other_ports = λ t k ne. ap jacks_of (v.puts.others t k ne);
      made = v.puts.made;
      went = λ i m g. keys_went s i m v g;
      came = λ m never. keys_came s m v never;
      other_keys = λ t k i ne. keys_stay s t k i v ne;
      lines = λ k m l t h stands at g. lines_went s k m l t v met h stands at g;
      other_lines = λ k l t h stands ne. lines_stay s k l t v met h stands ne;
      no_lines = λ k h. no_lines s k v h;
    }

pub returns-clause-meet : goal.returns-clause-meet
returns-clause-meet c =
    let w = c.args.web.now in
    let old = c.side_at-old.ensures ∙ ap (λ (xs : List Sockets). ports_at xs c.args.side c.args.key) c.as_slice-sockets.ensures.value in
    let list = c.take_ports-list.ensures ∙ ap (λ (ports : List Port). moved_ports ports c.args.jacks.now) old in
    let s : Scene = record {
      all = w.sockets.items;
      all_after = c.put_side.new.sockets.items;
      spots = w.spots.items;
      spots_after = c.write_spots.new.spots.items;
      book = w.book;
      book_after = c.drop_left.new.book;
      spare = w.spare.items;
      key = c.args.key;
      side = c.args.side;
      jacks = c.args.jacks.now;
    } in
    let v = moved_by s c.side_at-old.result.now c.as_slice-new.result.now c.take_ports-list.result.items old (c.as_slice-new.ensures.value ∙ list) list c.laws.ensures w.tied w.free c.requires.once_before
    c.put_side.ensures c.write_spots.ensures c.drop_left.ensures in
    let met = met_in w.sockets.items w.spots.items w.book c.requires.meet.fed c.requires.meet.fanned in
    let after = meet_in c.put_side.new.sockets.items c.write_spots.new.spots.items c.drop_left.new.book c.laws-2.ensures.fans c.laws-2.ensures.feeds (there_after s v met c.requires.gone) in
    record { fed = after.fed; fanned = after.fanned }

pub returns-clause-homes : goal.returns-clause-homes
returns-clause-homes c =
    let w = c.args.web.now in
    let old = c.side_at-old.ensures ∙ ap (λ (xs : List Sockets). ports_at xs c.args.side c.args.key) c.as_slice-sockets.ensures.value in
    let new = c.as_slice-new.ensures.value ∙ c.take_ports-list.ensures ∙ ap (λ (ports : List Port). moved_ports ports c.args.jacks.now) old in
    let olds = ports_at w.sockets.items c.args.side c.args.key in
    let P : List Port → Type 0 = λ ports. Forgets w.homes.items c.forget_side.new.homes.items c.args.key (IsInner ports) in
    let Q : List Port → Type 0 = λ ports. Knows c.forget_side.new.homes.items c.know_side.new.homes.items ports c.args.side c.args.key in
    let k = side_known c.args.key c.args.side olds (moved_ports olds c.args.jacks.now) c.args.jacks.now w.homes.items c.forget_side.new.homes.items c.know_side.new.homes.items (subst P old c.forget_side.ensures)
    (subst Q new c.know_side.ensures) (jacks_moved olds c.args.jacks.now) (λ m j h. let r = (c.requires.near m j h).homes in omega (arith, r)) in
    record { found = k.found; gone = k.gone; others = k.others }

pub returns-clause-as_many : goal.returns-clause-as_many
returns-clause-as_many c = wires_alike c.args.web.now.book c.drop_left.new.book c.drop_left.ensures.wires
