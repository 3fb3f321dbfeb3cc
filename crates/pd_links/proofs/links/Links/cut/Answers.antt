use Rattle.std.proofs.Common.{◌≡◌, ℕ, ◌<◌, ◌≤◌, ◌==◌, cond, List, ◌∷◌, length, sym, subst, arith}
use Rattle.std.specs.declared.vec.Vec.{Vec}
use Rattle.std.specs.declared.alloc.Global.{Global}
use Rattle.std.specs.Vec.{with_items}
use Rattle.std.proofs.lemmas.List.{with_items_is}
use Rattle.pd_order.specs.Graph.{tally}
use Rattle.pd_links.specs.Rows.{keys_at, spare_at, AreFew, OthersStay}
use Rattle.pd_links.proofs.RowLemmas.{one_less, few_less, takes_less, there_by_key, TakesKeys}
use Rattle.pd_links.proofs.links.Links.cut.Goals as goal

pub take-requires-clause-there : goal.take-requires-clause-there
take-requires-clause-there c = subst (λ (rows : List (Vec ℕ Global)). c.args.source < length rows) (sym c.as_mut_slice.ensures.value) (there_by_key c.args.self.now.from.items c.args.source c.args.sink c.requires.from)

pub take-requires-2-clause-there : goal.take-requires-2-clause-there
take-requires-2-clause-there c = subst (λ (rows : List (Vec ℕ Global)). c.args.sink < length rows) (sym c.as_mut_slice-2.ensures.value) (there_by_key c.args.self.now.into.items c.args.sink c.args.source c.requires.into)

pub invariant_of-self : goal.invariant_of-self
invariant_of-self c =
    let F = c.args.self.now.from in
    let T = c.args.self.now.into in
    let s : ℕ = c.args.source in
    let t : ℕ = c.args.sink in
    let lf : length c.take.new.rows ≡ F.len = (let a = c.take.auto.rows in let b = c.as_mut_slice.ensures.len in omega arith) in
    let lt : length c.take-2.new.rows ≡ T.len = (let a = c.take-2.auto.rows in let b = c.as_mut_slice-2.ensures.len in omega arith) in
    let ef : (with_items F c.take.new.rows).items ≡ c.take.new.rows = with_items_is F c.take.new.rows lf in
    let et : (with_items T c.take-2.new.rows).items ≡ c.take-2.new.rows = with_items_is T c.take-2.new.rows lt in
    record {
      few_into = subst (λ (rows : List (Vec ℕ Global)). AreFew rows) (sym et) (few_less T.items c.take-2.new.rows t s
          (λ u. subst (λ (rows : List (Vec ℕ Global)). tally u (keys_at rows t) ≡ tally u (s ∷ keys_at c.take-2.new.rows t)) c.as_mut_slice-2.ensures.value (c.take-2.ensures.keys u))
          (subst (λ (rows : List (Vec ℕ Global)). OthersStay rows c.take-2.new.rows t) c.as_mut_slice-2.ensures.value c.take-2.ensures.others) c.args.self.now.few_into);
      few_from = subst (λ (rows : List (Vec ℕ Global)). AreFew rows) (sym ef) (few_less F.items c.take.new.rows s t
          (λ u. subst (λ (rows : List (Vec ℕ Global)). tally u (keys_at rows s) ≡ tally u (t ∷ keys_at c.take.new.rows s)) c.as_mut_slice.ensures.value (c.take.ensures.keys u))
          (subst (λ (rows : List (Vec ℕ Global)). OthersStay rows c.take.new.rows s) c.as_mut_slice.ensures.value c.take.ensures.others) c.args.self.now.few_from);
    }

pub returns-clause-wires : goal.returns-clause-wires
returns-clause-wires c =
    let F = c.args.self.now.from in
    let T = c.args.self.now.into in
    let s : ℕ = c.args.source in
    let t : ℕ = c.args.sink in
    let lf : length c.take.new.rows ≡ F.len = (let a = c.take.auto.rows in let b = c.as_mut_slice.ensures.len in omega arith) in
    let lt : length c.take-2.new.rows ≡ T.len = (let a = c.take-2.auto.rows in let b = c.as_mut_slice-2.ensures.len in omega arith) in
    let ef : (with_items F c.take.new.rows).items ≡ c.take.new.rows = with_items_is F c.take.new.rows lf in
    let et : (with_items T c.take-2.new.rows).items ≡ c.take-2.new.rows = with_items_is T c.take-2.new.rows lt in
    record {
      feeders = λ x u. subst (λ (rows : List (Vec ℕ Global)). tally u (keys_at T.items x) ≡ tally u (cond (x == t) (s ∷ keys_at rows x) (keys_at rows x))) (sym et) (one_less T.items c.take-2.new.rows t s x u
          (subst (λ (rows : List (Vec ℕ Global)). tally u (keys_at rows t) ≡ tally u (s ∷ keys_at c.take-2.new.rows t)) c.as_mut_slice-2.ensures.value (c.take-2.ensures.keys u))
          (subst (λ (rows : List (Vec ℕ Global)). OthersStay rows c.take-2.new.rows t) c.as_mut_slice-2.ensures.value c.take-2.ensures.others));
      followers = λ x u. subst (λ (rows : List (Vec ℕ Global)). tally u (keys_at F.items x) ≡ tally u (cond (x == s) (t ∷ keys_at rows x) (keys_at rows x))) (sym ef) (one_less F.items c.take.new.rows s t x u
          (subst (λ (rows : List (Vec ℕ Global)). tally u (keys_at rows s) ≡ tally u (t ∷ keys_at c.take.new.rows s)) c.as_mut_slice.ensures.value (c.take.ensures.keys u))
          (subst (λ (rows : List (Vec ℕ Global)). OthersStay rows c.take.new.rows s) c.as_mut_slice.ensures.value c.take.ensures.others));
    }

pub returns-clause-room : goal.returns-clause-room
returns-clause-room c =
    let F = c.args.self.now.from in
    let T = c.args.self.now.into in
    let s : ℕ = c.args.source in
    let t : ℕ = c.args.sink in
    let lf : length c.take.new.rows ≡ F.len = (let a = c.take.auto.rows in let b = c.as_mut_slice.ensures.len in omega arith) in
    let lt : length c.take-2.new.rows ≡ T.len = (let a = c.take-2.auto.rows in let b = c.as_mut_slice-2.ensures.len in omega arith) in
    let ef : (with_items F c.take.new.rows).items ≡ c.take.new.rows = with_items_is F c.take.new.rows lf in
    let et : (with_items T c.take-2.new.rows).items ≡ c.take-2.new.rows = with_items_is T c.take-2.new.rows lt in
    record {
      from = λ x n A. subst (λ (rows : List (Vec ℕ Global)). TakesKeys rows x n) (sym ef) (takes_less F.items c.take.new.rows s t x n
          (λ u. subst (λ (rows : List (Vec ℕ Global)). tally u (keys_at rows s) ≡ tally u (t ∷ keys_at c.take.new.rows s)) c.as_mut_slice.ensures.value (c.take.ensures.keys u))
          (subst (λ (rows : List (Vec ℕ Global)). spare_at rows s ≤ spare_at c.take.new.rows s) c.as_mut_slice.ensures.value c.take.ensures.spare)
          (subst (λ (rows : List (Vec ℕ Global)). OthersStay rows c.take.new.rows s) c.as_mut_slice.ensures.value c.take.ensures.others) A);
      into = λ x n A. subst (λ (rows : List (Vec ℕ Global)). TakesKeys rows x n) (sym et) (takes_less T.items c.take-2.new.rows t s x n
          (λ u. subst (λ (rows : List (Vec ℕ Global)). tally u (keys_at rows t) ≡ tally u (s ∷ keys_at c.take-2.new.rows t)) c.as_mut_slice-2.ensures.value (c.take-2.ensures.keys u))
          (subst (λ (rows : List (Vec ℕ Global)). spare_at rows t ≤ spare_at c.take-2.new.rows t) c.as_mut_slice-2.ensures.value c.take-2.ensures.spare)
          (subst (λ (rows : List (Vec ℕ Global)). OthersStay rows c.take-2.new.rows t) c.as_mut_slice-2.ensures.value c.take-2.ensures.others) A);
    }
