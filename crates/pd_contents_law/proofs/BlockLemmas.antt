-- A block leaves the texts of message boxes, and as many values in each array and table.
use Rattle.std.proofs.Common.{◌≡◌, ℕ, ℤ, zero, suc, ◌==◌, nat_lt, List, [], ◌∷◌, Option, Some, None, IfSome, option_map, refl, sym, subst}
use Rattle.pd_atom.specs.Names.{Names}
use Rattle.pd_object.specs.declared.kinds.Kind.{Kind}
use Rattle.pd_kind.specs.declared.states.State.{State}
use Rattle.pd_kind.specs.declared.states.State.TheVariants as state
use Rattle.pd_kind.specs.Tables.{shared_of, block_begun}
use Rattle.pd_turn.specs.declared.sizes.Few.{Few}
use Rattle.pd_turn.specs.declared.sorts.Manner.{Manner}
use Rattle.pd_turn.specs.declared.sorts.Manner.TheVariants.{Own, Beside, Table, Dac, Inlet, Outlet, Never}
use Rattle.pd_turn.specs.Sizes.{few_of}
use Rattle.pd_turn.specs.Pairs.{line_at}
use Rattle.pd_web.specs.declared.web.Web.{Web}
use Rattle.pd_patch.specs.Values.{Blocks}
use Rattle.pd_block.specs.Inlets.{inlet_blocks}
use Rattle.pd_block.specs.Nets.{Net, Sound, kind_at, inner_at, chain_at, stuck_at, set_at}
use Rattle.pd_block.specs.Blocks.{Played, played, own_with, own_in, own_by, table_beside, table_with, table_in, table_by, Aside, pair_few, pair_in, alone_few, alone_in, owner_in, aside_alone, aside_owner, aside_found, aside_by, with_none, beside_by, ran_as, manner_by, ran_plain, each, silenced, ran_box, ran_one, ran_canvas, begun, block_of}
use Rattle.pd_guards.proofs.FactLemmas.{either, either_by}
use Rattle.pd_contents_law.specs.Contents.{HasContents, HaveContents}
use Rattle.pd_contents_law.proofs.SettledLemmas.{same_key}
use Rattle.pd_contents_law.proofs.TurnLemmas.{Turns, own_turn, table_turn, beside_turn, PairKept, pair_by-kept}

module _ (Mine : ℕ → Type 0) (counts : ℕ → ℕ) (names : Names) where
  abbrev Have : (ℕ → Option State) → Type 0
  Have states = HaveContents Mine counts names states

  -- another state in place of one
  set_kept : (states : ℕ → Option State) (node : ℕ) (o : Option State) → Have states → (Mine node → IfSome o (HasContents (counts node) names)) → Have (set_at states node o)
  set_kept states node o a h j own =
      either_by (λ (x : Option State). IfSome x (HasContents (counts j) names)) (j == node) o (states j)
      (λ e. subst (λ i. Mine i → IfSome o (HasContents (counts i) names)) (sym (same_key j node e)) h own) (λ e. a j own)

  kept_at : (states : ℕ → Option State) (node : ℕ) (s : State) → Have states → states node ≡ Some s → Mine node → HasContents (counts node) names s
  kept_at states node s a e own = subst (λ (o : Option State). IfSome o (HasContents (counts node) names)) e (a node own)

  module _ (net : Net) (start : ℕ) where
    own_few : (web : Web) (blocks : Blocks) (node : ℕ) (k : Kind) (s : State) (o : Option Few) → Turns s (own_with web blocks start node k s o)
    own_few web blocks node k s None = λ n ns h. h
    own_few web blocks node k s (Some few) = own_turn start k s (inlet_blocks web blocks node few.inlets s)

    own_some : (web : Web) (blocks : Blocks) (node : ℕ) (k : Option Kind) (s : State) → Turns s (own_in web blocks start node k s)
    own_some web blocks node None s = λ n ns h. h
    own_some web blocks node (Some k) s = own_few web blocks node k s (few_of k)

    own_sound : (s : Sound) (node : ℕ) (k : Option Kind) (o : Option State) → s.states node ≡ o → Have s.states → Have (own_by net start s node k o).states
    own_sound s node k None e a = a
    own_sound s node k (Some st) e a =
        set_kept s.states node (Some (own_in net.web s.blocks start node k st).state) a (λ own. own_some net.web s.blocks node k st (counts node) names (kept_at s.states node st a e own))

    table_few : (web : Web) (blocks : Blocks) (node : ℕ) (k : Kind) (s : State) (table : List ℤ) (o : Option Few) → Turns s (table_with web blocks node k s table o)
    table_few web blocks node k s table None = λ n ns h. h
    table_few web blocks node k s table (Some few) = table_turn k s (inlet_blocks web blocks node few.inlets s) table

    table_some : (web : Web) (blocks : Blocks) (node : ℕ) (k : Option Kind) (s : State) (table : List ℤ) → Turns s (table_in web blocks node k s table)
    table_some web blocks node None s table = λ n ns h. h
    table_some web blocks node (Some k) s table = table_few web blocks node k s table (few_of k)

    table_sound : (s : Sound) (node : ℕ) (k : Option Kind) (o : Option State) → s.states node ≡ o → Have s.states → Have (table_by net s node k o).states
    table_sound s node k None e a = a
    table_sound s node k (Some st) e a =
        let table : List ℤ = table_beside net.owners s.states node k in
        set_kept s.states node (Some (table_in net.web s.blocks node k st table).state) a (λ own. table_some net.web s.blocks node k st table (counts node) names (kept_at s.states node st a e own))

    alone_few-kept : (web : Web) (blocks : Blocks) (node : ℕ) (k : Kind) (s : State) (o : Option Few) → Turns s (alone_few web blocks node k s o)
    alone_few-kept web blocks node k s None = λ n ns h. h
    alone_few-kept web blocks node k s (Some few) = beside_turn k s (inlet_blocks web blocks node few.inlets s) [] _

    alone_some : (web : Web) (blocks : Blocks) (node : ℕ) (k : Option Kind) (s : State) → Turns s (alone_in web blocks node k s)
    alone_some web blocks node None s = λ n ns h. h
    alone_some web blocks node (Some k) s = alone_few-kept web blocks node k s (few_of k)

    pair_few-kept : (web : Web) (blocks : Blocks) (node : ℕ) (k : Kind) (s other : State) (o : Option Few) → PairKept s other (pair_few web blocks node k s other o)
    pair_few-kept web blocks node k s other None = record { ran = λ n ns h. h; other = λ n ns h. h }
    pair_few-kept web blocks node k s other (Some few) = pair_by-kept k s (inlet_blocks web blocks node few.inlets s) other (line_at other) (shared_of other)

    pair_some : (web : Web) (blocks : Blocks) (node : ℕ) (k : Option Kind) (s other : State) → PairKept s other (pair_in web blocks node k s other)
    pair_some web blocks node None s other = record { ran = λ n ns h. h; other = λ n ns h. h }
    pair_some web blocks node (Some k) s other = pair_few-kept web blocks node k s other (few_of k)

    record AsideKept (s : Sound) (st : State) (a : Aside) : Type 0 where
      ran : Turns st a.ran
      others : Have a.sound.states

    aside_alone-kept : (s : Sound) (node : ℕ) (k : Option Kind) (st : State) → Have s.states → AsideKept s st (aside_alone net.web s node k st)
    aside_alone-kept s node k st a = record { ran = alone_some net.web s.blocks node k st; others = a }

    aside_owner-kept : (s : Sound) (node : ℕ) (k : Option Kind) (st : State) (owner : ℕ) (o : Option State) → s.states owner ≡ o → Have s.states
        → AsideKept s st (aside_owner net.web s node k st owner o)
    aside_owner-kept s node k st owner None e a = aside_alone-kept s node k st a
    aside_owner-kept s node k st owner (Some other) e a =
        let p : PairKept st other (pair_in net.web s.blocks node k st other) = pair_some net.web s.blocks node k st other in
        record { ran = p.ran; others = set_kept s.states owner (Some (pair_in net.web s.blocks node k st other).other) a (λ own. p.other (counts owner) names (kept_at s.states owner other a e own)) }

    aside_found-kept : (s : Sound) (node : ℕ) (k : Option Kind) (st : State) (o : Option ℕ) → Have s.states → AsideKept s st (aside_found net.web s node k st o)
    aside_found-kept s node k st None a = aside_alone-kept s node k st a
    aside_found-kept s node k st (Some owner) a = aside_owner-kept s node k st owner (s.states owner) refl a

    beside_sound : (s : Sound) (node : ℕ) (k : Option Kind) (o : Option State) → s.states node ≡ o → Have s.states → Have (beside_by net s node k o).states
    beside_sound s node k None e a = a
    beside_sound s node k (Some st) e a =
        let b : Aside = aside_by net (with_none s node) node k st in
        let i : AsideKept (with_none s node) st b = aside_found-kept (with_none s node) node k st (owner_in net.owners k) (set_kept s.states node None a (λ own. tt)) in
        set_kept b.sound.states node (Some b.ran.state) i.others (λ own. i.ran (counts node) names (kept_at s.states node st a e own))

    as_kept : (p : Played) (node : ℕ) (k : Option Kind) (m : Manner) → Have p.sound.states → Have (ran_as net start p node k m).sound.states
    as_kept p node k Own a = own_sound p.sound node k (p.sound.states node) refl a
    as_kept p node k Beside a = beside_sound p.sound node k (p.sound.states node) refl a
    as_kept p node k Table a = table_sound p.sound node k (p.sound.states node) refl a
    as_kept p node k Dac a = a
    as_kept p node k Inlet a = a
    as_kept p node k Outlet a = a
    as_kept p node k Never a = a

    abbrev Kept : Played → Type 0
    Kept p = Have p.sound.states

    plain_kept : (p : Played) (node : ℕ) → Kept p → Kept (ran_plain net start p node)
    unfolding ran_plain
    plain_kept p node a = as_kept p node (kind_at net node) (manner_by (kind_at net node)) a

    -- boxes and canvases
    box_kept : (inside : Played → ℕ → Played) → ((p : Played) (c : ℕ) → Kept p → Kept (inside p c)) → (p : Played) (node : ℕ) (o : Option ℕ) → Kept p → Kept (ran_box net start inside p node o)
    box_kept inside k p node None a = plain_kept p node a
    box_kept inside k p node (Some inner) a = k (played (silenced p.sound node) p.out) inner a

    each_kept : (one : Played → ℕ → Played) → ((p : Played) (n : ℕ) → Kept p → Kept (one p n)) → (p : Played) (ns : List ℕ) → Kept p → Kept (each one p ns)
    each_kept one k p [] a = a
    each_kept one k p (n ∷ ns) a = each_kept one k (one p n) ns (k p n a)

    silent_kept : (s : Sound) (ns : List ℕ) → Have s.states → Have (each silenced s ns).states
    silent_kept s [] a = a
    silent_kept s (n ∷ ns) a = silent_kept (silenced s n) ns a

    canvas_kept : (levels : ℕ) (p : Played) (canvas : ℕ) → Kept p → Kept (ran_canvas net start levels p canvas)
    unfolding ran_canvas
    canvas_kept zero p canvas a = a
    canvas_kept (suc levels) p canvas a =
        each_kept (ran_one net start (ran_canvas net start levels)) (λ q node b. box_kept (ran_canvas net start levels) (canvas_kept levels) q node (inner_at net node) b)
        (played (each silenced p.sound (stuck_at net canvas)) p.out) (chain_at net canvas) (silent_kept p.sound (stuck_at net canvas) a)

    begun_state : (n : ℕ) (s : State) → HasContents n names s → HasContents n names (block_begun s)
    begun_state n (state.Delwrite held values next ran) h = h
    begun_state n s h = h

    begun_some : (n : ℕ) (o : Option State) → IfSome o (HasContents n names) → IfSome (option_map block_begun o) (HasContents n names)
    begun_some n None h = tt
    begun_some n (Some s) h = begun_state n s h

    begun_kept : (s : Sound) → Have s.states → Have (begun s).states
    begun_kept s a k own =
        either (λ (o : Option State). IfSome o (HasContents (counts k) names)) (nat_lt k 4294967296) (option_map block_begun (s.states k)) (s.states k) (begun_some (counts k) (s.states k) (a k own)) (a k own)

    pub block_kept : (s : Sound) → Have s.states → Have (block_of net s start).sound.states
    unfolding block_of
    block_kept s a = canvas_kept 257 _ net.root (begun_kept s a)
