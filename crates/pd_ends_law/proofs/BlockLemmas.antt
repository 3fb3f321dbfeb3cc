-- After a block no `vline~` has run one that ends later; and a block leaves what each box that doesn't run in it has run.
use Rattle.std.proofs.Common.{◌≡◌, ◌≤◌, ◌+◌, ℕ, ℤ, zero, suc, ◌==◌, Bool, true, false, nat_lt, List, [], ◌∷◌, ◌++◌, Option, Some, None, IfSome, option_map, refl, sym, ap, subst, ◌∙◌, arith}
use Rattle.std.specs.Prelude.{flat_map}
use Rattle.std.proofs.lemmas.Bool.{eqb-true}
use Rattle.pd_object.specs.declared.kinds.Kind.{Kind}
use Rattle.pd_object.specs.declared.kinds.Kind.TheVariants as kind
use Rattle.pd_kind.specs.declared.states.State.{State}
use Rattle.pd_kind.specs.declared.states.State.TheVariants as state
use Rattle.pd_kind.specs.declared.tables.Line.{Line}
use Rattle.pd_kind.specs.Tables.{shared_of, with_shared, block_begun}
use Rattle.pd_order.specs.Graph.{tally}
use Rattle.pd_order.proofs.Basics.{by_test, same_test, other_node, tally-append}
use Rattle.pd_vline.specs.Rows.{IsOpen}
use Rattle.pd_turn.specs.declared.sizes.Few.{Few}
use Rattle.pd_turn.specs.declared.sorts.Manner.{Manner}
use Rattle.pd_turn.specs.declared.sorts.Manner.TheVariants.{Own, Beside, Table, Dac, Inlet, Outlet, Never}
use Rattle.pd_turn.specs.Sizes.{few_of}
use Rattle.pd_turn.specs.Rows.{may_run, vline_if}
use Rattle.pd_turn.specs.Pairs.{line_at, by_values, pair_by}
use Rattle.pd_web.specs.declared.web.Web.{Web}
use Rattle.pd_patch.specs.Values.{Blocks}
use Rattle.pd_block.specs.Inlets.{inlet_blocks}
use Rattle.pd_block.specs.Nets.{Net, Sound, kind_at, inner_at, chain_at, stuck_at}
use Rattle.pd_block.specs.Blocks.{Played, played, own_in, own_by, table_beside, table_in, table_by, Aside, pair_few, pair_in, owner_in, aside_owner, aside_found, aside_by, with_none, beside_by, ran_as, manner_by, ran_plain, each, silenced, ran_box, ran_one, ran_canvas, begun, block_of}
use Rattle.pd_guards.proofs.FactLemmas.{either}
use Rattle.pd_sized.specs.Kinds.{KeepsOfKind}
use Rattle.pd_sized.proofs.KindLemmas.{kinds_last}
use Rattle.pd_sized.proofs.AlikeBlockLemmas.{block_alike}
use Rattle.pd_ends_law.specs.Once.{with_inside, boxes_run}
use Rattle.pd_ends_law.proofs.OpenLemmas.{AllOpen, all_open, set_open}

-- the boxes that run where a box of a canvas does
abbrev pub box_runs : Net → ℕ → ℕ → List ℕ
box_runs net levels node = with_inside (boxes_run net levels) node (inner_at net node)

-- a list in which something isn't
pub not_first : (x y : ℕ) (xs : List ℕ) → tally x (y ∷ xs) ≡ 0 → x ≡ y → ⊥
not_first x y xs h e =
    let t : (y == x) ≡ true = ap (λ (z : ℕ). y == z) e ∙ same_test y in
    let some : 1 + tally x xs ≡ 0 = rw t at h in
    omega (arith, some)

pub not_behind : (x y : ℕ) (xs : List ℕ) → tally x (y ∷ xs) ≡ 0 → tally x xs ≡ 0
not_behind x y xs h = omega (arith, h)

pub not_either : (x : ℕ) (xs ys : List ℕ) → tally x (xs ++ ys) ≡ 0 → (tally x xs ≡ 0) × (tally x ys ≡ 0)
not_either x xs ys h = let both : tally x (xs ++ ys) ≡ tally x xs + tally x ys = tally-append x xs ys in (omega (arith, both, h), omega (arith, both, h))

module _ (net : Net) (start t k : ℕ) where
  -- what one box keeps, while others run
  abbrev Open : Sound → Type 0
  Open s = IfSome (s.states k) (IsOpen t)

  shared_open : (other : State) (left : List ℤ) → IsOpen t other → IsOpen t (with_shared other left)
  shared_open (state.SignalSend held block) left h = tt
  shared_open (state.Catch sum) left h = tt
  shared_open (state.Delwrite held ring next ran) left h = tt
  shared_open s left h = h

  pair_open : (j : Kind) (s : State) (ins : List (List ℤ)) (other : State) (line : Line) (o : Option (List ℤ)) → IsOpen t other → IsOpen t (pair_by j s ins other line o).other
  pair_open j s ins other line None h = h
  pair_open j s ins other line (Some values) h = shared_open other (by_values j s ins line values).values h

  pair_few-open : (web : Web) (blocks : Blocks) (node : ℕ) (j : Kind) (s other : State) (o : Option Few) → IsOpen t other → IsOpen t (pair_few web blocks node j s other o).other
  pair_few-open web blocks node j s other None h = h
  pair_few-open web blocks node j s other (Some few) h = pair_open j s (inlet_blocks web blocks node few.inlets s) other (line_at other) (shared_of other) h

  pair_in-open : (web : Web) (blocks : Blocks) (node : ℕ) (j : Option Kind) (s other : State) → IsOpen t other → IsOpen t (pair_in web blocks node j s other).other
  pair_in-open web blocks node None s other h = h
  pair_in-open web blocks node (Some j) s other h = pair_few-open web blocks node j s other (few_of j) h

  owner_open : (s : Sound) (node : ℕ) (j : Option Kind) (st : State) (owner : ℕ) (o : Option State) → s.states owner ≡ o → Open s → Open (aside_owner net.web s node j st owner o).sound
  owner_open s node j st owner None e a = a
  owner_open s node j st owner (Some other) e a =
      set_open t s.states owner (Some (pair_in net.web s.blocks node j st other).other) k a
      (λ b. pair_in-open net.web s.blocks node j st other (subst (λ (o : Option State). IfSome o (IsOpen t)) (ap (λ (n : ℕ). s.states n) (eqb-true k owner b) ∙ e) a))

  found_open : (s : Sound) (node : ℕ) (j : Option Kind) (st : State) (o : Option ℕ) → Open s → Open (aside_found net.web s node j st o).sound
  found_open s node j st None a = a
  found_open s node j st (Some owner) a = owner_open s node j st owner (s.states owner) refl a

  -- another box
  never : (node : ℕ) (P : Type 0) → (k ≡ node → ⊥) → (k == node) ≡ true → P
  never node P other b = absurd (other (eqb-true k node b))

  own_open : (s : Sound) (node : ℕ) (j : Option Kind) (o : Option State) → (k ≡ node → ⊥) → Open s → Open (own_by net start s node j o)
  own_open s node j None other a = a
  own_open s node j (Some st) other a = set_open t s.states node (Some (own_in net.web s.blocks start node j st).state) k a (never node _ other)

  table_open : (s : Sound) (node : ℕ) (j : Option Kind) (o : Option State) → (k ≡ node → ⊥) → Open s → Open (table_by net s node j o)
  table_open s node j None other a = a
  table_open s node j (Some st) other a =
      set_open t s.states node (Some (table_in net.web s.blocks node j st (table_beside net.owners s.states node j)).state) k a (never node _ other)

  beside_open : (s : Sound) (node : ℕ) (j : Option Kind) (o : Option State) → (k ≡ node → ⊥) → Open s → Open (beside_by net s node j o)
  beside_open s node j None other a = a
  beside_open s node j (Some st) other a =
      let b : Aside = aside_by net (with_none s node) node j st in
      set_open t b.sound.states node (Some b.ran.state) k (found_open (with_none s node) node j st (owner_in net.owners j) (set_open t s.states node None k a (λ e. tt))) (never node _ other)

  as_open : (p : Played) (node : ℕ) (j : Option Kind) (m : Manner) → (k ≡ node → ⊥) → Open p.sound → Open (ran_as net start p node j m).sound
  as_open p node j Own other a = own_open p.sound node j (p.sound.states node) other a
  as_open p node j Beside other a = beside_open p.sound node j (p.sound.states node) other a
  as_open p node j Table other a = table_open p.sound node j (p.sound.states node) other a
  as_open p node j Dac other a = a
  as_open p node j Inlet other a = a
  as_open p node j Outlet other a = a
  as_open p node j Never other a = a

  plain_open : (p : Played) (node : ℕ) → (k ≡ node → ⊥) → Open p.sound → Open (ran_plain net start p node).sound
  unfolding ran_plain
  plain_open p node other a = as_open p node (kind_at net node) (manner_by (kind_at net node)) other a

  pub silent_open : (s : Sound) (ns : List ℕ) → Open s → Open (each silenced s ns)
  silent_open s [] a = a
  silent_open s (n ∷ ns) a = silent_open (silenced s n) ns a

  begun_state : (s : State) → IsOpen t s → IsOpen t (block_begun s)
  begun_state (state.Delwrite held values next ran) h = tt
  begun_state s h = h

  begun_some : (o : Option State) → IfSome o (IsOpen t) → IfSome (option_map block_begun o) (IsOpen t)
  begun_some None h = tt
  begun_some (Some s) h = begun_state s h

  pub begun_open : (s : Sound) → Open s → Open (begun s)
  begun_open s a = either (λ (o : Option State). IfSome o (IsOpen t)) (nat_lt k 4294967296) (option_map block_begun (s.states k)) (s.states k) (begun_some (s.states k) a) a

  -- a canvas in which the box doesn't run
  box_open : (levels : ℕ) (p : Played) (node : ℕ) (o : Option ℕ) → ((q : Played) (c : ℕ) → tally k (boxes_run net levels c) ≡ 0 → Open q.sound → Open (ran_canvas net start levels q c).sound)
      → tally k (with_inside (boxes_run net levels) node o) ≡ 0 → Open p.sound → Open (ran_box net start (ran_canvas net start levels) p node o).sound
  box_open levels p node None inside none a = plain_open p node (not_first k node [] none) a
  box_open levels p node (Some inner) inside none a = inside (played (silenced p.sound node) p.out) inner (not_behind k node (boxes_run net levels inner) none) a

  each_open : (levels : ℕ) (p : Played) (ns : List ℕ) → ((q : Played) (c : ℕ) → tally k (boxes_run net levels c) ≡ 0 → Open q.sound → Open (ran_canvas net start levels q c).sound)
      → tally k (flat_map (box_runs net levels) ns) ≡ 0 → Open p.sound → Open (each (ran_one net start (ran_canvas net start levels)) p ns).sound
  each_open levels p [] inside none a = a
  each_open levels p (n ∷ ns) inside none a =
      let apart = not_either k (box_runs net levels n) (flat_map (box_runs net levels) ns) none in
      each_open levels (ran_one net start (ran_canvas net start levels) p n) ns inside apart.1 (box_open levels p n (inner_at net n) inside apart.0 a)

  pub others_open : (levels : ℕ) (p : Played) (canvas : ℕ) → tally k (boxes_run net levels canvas) ≡ 0 → Open p.sound → Open (ran_canvas net start levels p canvas).sound
  unfolding ran_canvas boxes_run
  others_open zero p canvas none a = a
  others_open (suc levels) p canvas none a =
      each_open levels (played (each silenced p.sound (stuck_at net canvas)) p.out) (chain_at net canvas) (λ q c. others_open levels q c) none (silent_open p.sound (stuck_at net canvas) a)

  pub other_open : (levels : ℕ) (p : Played) (node : ℕ) → tally k (box_runs net levels node) ≡ 0 → Open p.sound → Open (ran_one net start (ran_canvas net start levels) p node).sound
  other_open levels p node none a = box_open levels p node (inner_at net node) (λ q c. others_open levels q c) none a

-- a `vline~` that runs
module _ (net : Net) (start later : ℕ) (l : start + 64000000000 ≤ later) where
  if_ends : (b : Bool) (s : State) → IsOpen later s → IsOpen later (vline_if b start s).state
  if_ends true (state.Vline r) h = l
  if_ends true s h = h
  if_ends false s h = h

  own_ends : (s : Sound) (node : ℕ) (o : Option State) → s.states node ≡ o → IfSome (s.states node) (IsOpen later) → IfSome ((own_by net start s node (Some kind.Vline) o).states node) (IsOpen later)
  own_ends s node None e a = a
  own_ends s node (Some st) e a =
      set_open later s.states node (Some (vline_if (may_run start st) start st).state) node a (λ b. if_ends (may_run start st) st (subst (λ (o : Option State). IfSome o (IsOpen later)) e a))

  plain_here : (p : Played) (node : ℕ) → kind_at net node ≡ Some kind.Vline → IfSome (p.sound.states node) (IsOpen later) → IfSome ((ran_plain net start p node).sound.states node) (IsOpen later)
  unfolding ran_plain
  plain_here p node e a =
      subst (λ (j : Option Kind). IfSome ((ran_as net start p node j (manner_by j)).sound.states node) (IsOpen later)) (sym e) (own_ends p.sound node (p.sound.states node) refl a)

  module _ (k : ℕ) (line : kind_at net k ≡ Some kind.Vline) where
    abbrev Ends : Sound → Type 0
    Ends s = IfSome (s.states k) (IsOpen later)

    plain_at : (p : Played) (node : ℕ) → k ≡ node → Ends p.sound → Ends (ran_plain net start p node).sound
    plain_at p node e a = subst (λ (n : ℕ). Ends (ran_plain net start p n).sound) e (plain_here p k line a)

    plain_ends : (p : Played) (node : ℕ) → Ends p.sound → Ends (ran_plain net start p node).sound
    plain_ends p node a = by_test (k == node) (λ b. plain_at p node (eqb-true k node b) a) (λ b. plain_open net start later k p node (other_node k node b) a)

    box_ends : (inside : Played → ℕ → Played) → ((p : Played) (c : ℕ) → Ends p.sound → Ends (inside p c).sound) → (p : Played) (node : ℕ) (o : Option ℕ) → Ends p.sound → Ends (ran_box net start inside p node o).sound
    box_ends inside f p node None a = plain_ends p node a
    box_ends inside f p node (Some inner) a = f (played (silenced p.sound node) p.out) inner a

    each_ends : (one : Played → ℕ → Played) → ((p : Played) (n : ℕ) → Ends p.sound → Ends (one p n).sound) → (p : Played) (ns : List ℕ) → Ends p.sound → Ends (each one p ns).sound
    each_ends one f p [] a = a
    each_ends one f p (n ∷ ns) a = each_ends one f (one p n) ns (f p n a)

    canvas_ends : (levels : ℕ) (p : Played) (canvas : ℕ) → Ends p.sound → Ends (ran_canvas net start levels p canvas).sound
    unfolding ran_canvas
    canvas_ends zero p canvas a = a
    canvas_ends (suc levels) p canvas a =
        each_ends (ran_one net start (ran_canvas net start levels)) (λ q node b. box_ends (ran_canvas net start levels) (canvas_ends levels) q node (inner_at net node) b)
        (played (each silenced p.sound (stuck_at net canvas)) p.out) (chain_at net canvas) (silent_open net start later k p.sound (stuck_at net canvas) a)

    block_ends : (s : Sound) → Ends s → Ends (block_of net s start).sound
    unfolding block_of
    block_ends s a = canvas_ends 257 _ net.root (begun_open net start later k s a)

pub block_open : (net : Net) (start later : ℕ) (s : Sound) → KeepsOfKind (kind_at net) s.states → start + 64000000000 ≤ later → AllOpen later s.states → AllOpen later (block_of net s start).sound.states
block_open net start later s kinds l a =
    all_open later (kind_at net) (block_of net s start).sound.states (kinds_last (kind_at net) s.states (block_of net s start).sound.states kinds (block_alike net start s))
    (λ k e. block_ends net start later l k e s (a k))
