use Rattle.std.proofs.Common.{◌≡◌, ℕ, ◌<◌, ◌==◌, cond, List, [], ◌∷◌, ◌++◌, length, sym, ap, ◌∙◌, subst, arith}
use Rattle.std.specs.declared.vec.Vec.{Vec}
use Rattle.std.specs.declared.alloc.Global.{Global}
use Rattle.std.specs.Vec.{with_items}
use Rattle.std.proofs.lemmas.List.{with_items_is}
use Rattle.pd_order.specs.Graph.{tally}
use Rattle.pd_links.specs.Rows.{keys_at, spare_at, OthersStay}
use Rattle.pd_links.proofs.RowLemmas.{one_more, takes_more, takes_other, there_by_room, TakesKeys}
use Rattle.pd_links.proofs.links.Links.add.Goals as goal

pub put-requires-clause-there : goal.put-requires-clause-there
put-requires-clause-there c = subst (λ (rows : List (Vec ℕ Global)). c.args.source < length rows) (sym c.as_mut_slice.ensures.value) (there_by_room c.args.self.now.from.items c.args.source c.requires.room_from)

pub put-requires-2-clause-there : goal.put-requires-2-clause-there
put-requires-2-clause-there c = subst (λ (rows : List (Vec ℕ Global)). c.args.sink < length rows) (sym c.as_mut_slice-2.ensures.value) (there_by_room c.args.self.now.into.items c.args.sink c.requires.room_into)

pub returns-clause-wires : goal.returns-clause-wires
returns-clause-wires c =
    let F = c.args.self.now.from in
    let T = c.args.self.now.into in
    let s : ℕ = c.args.source in
    let t : ℕ = c.args.sink in
    let lf : length c.put.new.rows ≡ F.len = (let a = c.put.auto.rows in let b = c.as_mut_slice.ensures.len in omega arith) in
    let lt : length c.put-2.new.rows ≡ T.len = (let a = c.put-2.auto.rows in let b = c.as_mut_slice-2.ensures.len in omega arith) in
    let ef : (with_items F c.put.new.rows).items ≡ c.put.new.rows = with_items_is F c.put.new.rows lf in
    let et : (with_items T c.put-2.new.rows).items ≡ c.put-2.new.rows = with_items_is T c.put-2.new.rows lt in
    let kf : keys_at c.put.new.rows s ≡ keys_at F.items s ++ t ∷ [] = c.put.ensures.keys ∙ ap (λ (rows : List (Vec ℕ Global)). keys_at rows s ++ t ∷ []) c.as_mut_slice.ensures.value in
    let kt : keys_at c.put-2.new.rows t ≡ keys_at T.items t ++ s ∷ [] = c.put-2.ensures.keys ∙ ap (λ (rows : List (Vec ℕ Global)). keys_at rows t ++ s ∷ []) c.as_mut_slice-2.ensures.value in
    let of : OthersStay F.items c.put.new.rows s = subst (λ (rows : List (Vec ℕ Global)). OthersStay rows c.put.new.rows s) c.as_mut_slice.ensures.value c.put.ensures.others in
    let ot : OthersStay T.items c.put-2.new.rows t = subst (λ (rows : List (Vec ℕ Global)). OthersStay rows c.put-2.new.rows t) c.as_mut_slice-2.ensures.value c.put-2.ensures.others in
    record {
      feeders = λ x u. subst (λ (rows : List (Vec ℕ Global)). tally u (keys_at rows x) ≡ tally u (cond (x == t) (s ∷ keys_at T.items x) (keys_at T.items x))) (sym et) (one_more T.items c.put-2.new.rows t s x u kt ot);
      followers = λ x u. subst (λ (rows : List (Vec ℕ Global)). tally u (keys_at rows x) ≡ tally u (cond (x == s) (t ∷ keys_at F.items x) (keys_at F.items x))) (sym ef) (one_more F.items c.put.new.rows s t x u kf of);
    }

pub returns-clause-room : goal.returns-clause-room
returns-clause-room c =
    let F = c.args.self.now.from in
    let T = c.args.self.now.into in
    let s : ℕ = c.args.source in
    let t : ℕ = c.args.sink in
    let lf : length c.put.new.rows ≡ F.len = (let a = c.put.auto.rows in let b = c.as_mut_slice.ensures.len in omega arith) in
    let lt : length c.put-2.new.rows ≡ T.len = (let a = c.put-2.auto.rows in let b = c.as_mut_slice-2.ensures.len in omega arith) in
    let ef : (with_items F c.put.new.rows).items ≡ c.put.new.rows = with_items_is F c.put.new.rows lf in
    let et : (with_items T c.put-2.new.rows).items ≡ c.put-2.new.rows = with_items_is T c.put-2.new.rows lt in
    let of : OthersStay F.items c.put.new.rows s = subst (λ (rows : List (Vec ℕ Global)). OthersStay rows c.put.new.rows s) c.as_mut_slice.ensures.value c.put.ensures.others in
    let ot : OthersStay T.items c.put-2.new.rows t = subst (λ (rows : List (Vec ℕ Global)). OthersStay rows c.put-2.new.rows t) c.as_mut_slice-2.ensures.value c.put-2.ensures.others in
    record {
      from = λ n A. subst (λ (rows : List (Vec ℕ Global)). TakesKeys rows s n) (sym ef) (takes_more F.items c.put.new.rows s t n
          (c.put.ensures.keys ∙ ap (λ (rows : List (Vec ℕ Global)). keys_at rows s ++ t ∷ []) c.as_mut_slice.ensures.value)
          (c.put.ensures.spare ∙ ap (λ (rows : List (Vec ℕ Global)). spare_at rows s) c.as_mut_slice.ensures.value) A);
      other_from = λ x n differ A. subst (λ (rows : List (Vec ℕ Global)). TakesKeys rows x n) (sym ef) (takes_other F.items c.put.new.rows s x n of differ A);
      into = λ n A. subst (λ (rows : List (Vec ℕ Global)). TakesKeys rows t n) (sym et) (takes_more T.items c.put-2.new.rows t s n
          (c.put-2.ensures.keys ∙ ap (λ (rows : List (Vec ℕ Global)). keys_at rows t ++ s ∷ []) c.as_mut_slice-2.ensures.value)
          (c.put-2.ensures.spare ∙ ap (λ (rows : List (Vec ℕ Global)). spare_at rows t) c.as_mut_slice-2.ensures.value) A);
      other_into = λ x n differ A. subst (λ (rows : List (Vec ℕ Global)). TakesKeys rows x n) (sym et) (takes_other T.items c.put-2.new.rows t x n ot differ A);
    }
