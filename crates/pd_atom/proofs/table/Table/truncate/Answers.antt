use Rattle.std.proofs.Common.{◌≡◌, ◌+◌, ◌≤◌, length, take, sym, ap, ◌∙◌, subst, arith}
use Rattle.std.proofs.lemmas.List.{take-map, length-map, length-take}
use Rattle.indexmap.specs.IndexSet.{index_set_len, spare}
use Rattle.pd_atom.specs.Names.{AreDistinct, AreShort, most}
use Rattle.pd_atom.specs.Stored.{bytes_of}
use Rattle.pd_atom.proofs.NameLemmas.{distinct_take, short_take}
use Rattle.pd_atom.proofs.table.Table.truncate.Goals as goal

pub push_all-requires-clause-distinct : goal.push_all-requires-clause-distinct
push_all-requires-clause-distinct c =
    let keys = c.self.inside.names.keys in
    let kept : bytes_of (take c.args.len c.as_slice.result.now) ≡ take c.args.len (bytes_of keys) =
    ap (λ ks. bytes_of (take c.args.len ks)) c.as_slice.ensures.keys ∙ sym (take-map (λ v. v.items) c.args.len keys) in
    subst AreDistinct (sym kept) (distinct_take (bytes_of keys) c.args.len c.self.invariant.distinct)

pub invariant_of-self : goal.invariant_of-self
invariant_of-self c =
    let len = c.args.len in
    let keys = c.self.inside.names.keys in
    let old = bytes_of keys in
    let kept = take len c.as_slice.result.now in
    let same : bytes_of kept ≡ take len old = ap (λ ks. bytes_of (take len ks)) c.as_slice.ensures.keys ∙ sym (take-map (λ v. v.items) len keys) in
    let bytes : bytes_of c.swap.new.x.keys ≡ take len old = ap (λ s. bytes_of s.keys) c.swap.ensures.x_after ∙ c.push_all.ensures.names ∙ same in
    let count : length c.push_all.new.names.keys ≡ length kept =
    sym (length-map c.push_all.new.names.keys (λ v. v.items)) ∙ ap length c.push_all.ensures.names ∙ length-map kept (λ v. v.items) in
    let room : most ≤ index_set_len c.push_all.new.names + spare c.push_all.new.names =
    omega (arith, count, c.push_all.ensures.room, c.clear.ensures.capacity, c.self.invariant.spare_room) in
    record {
      distinct = subst AreDistinct (sym bytes) (distinct_take old len c.self.invariant.distinct);
      short = subst AreShort (sym bytes) (short_take old len c.self.invariant.short);
      few = omega (arith, ap length bytes, length-take len old, c.self.invariant.few);
      names_room = subst (λ s. most ≤ index_set_len s + spare s) (sym c.swap.ensures.x_after) room;
      spare_room = subst (λ s. most ≤ index_set_len s + spare s) (sym c.swap.ensures.y_after) c.self.invariant.names_room;
    }

pub returns : goal.returns
returns c =
    let keys = c.self.inside.names.keys in
    ap (λ s. bytes_of s.keys) c.swap.ensures.x_after ∙ c.push_all.ensures.names
    ∙ ap (λ ks. bytes_of (take c.args.len ks)) c.as_slice.ensures.keys ∙ sym (take-map (λ v. v.items) c.args.len keys)
    ∙ ap (take c.args.len) c.self.view_is
