use Rattle.std.proofs.Common.{◌≡◌, ℕ, List, [], ◌∷◌, ◌++◌, Some, sym, ap, ◌∙◌, subst}
use Rattle.std.specs.Prelude.{option_map}
use Rattle.std.specs.Option.{option_copied}
use Rattle.std.proofs.lemmas.Option.{same_Some}
use Rattle.slab.specs.Slab.{get}
use Rattle.pd_tree.specs.Trees.{zeros_in}
use Rattle.pd_grove.specs.Standing.{BoardSeen, board_seen, Stands}
use Rattle.pd_grove.proofs.grove.Grove.zeros.Goals as goal

pub returns : goal.returns
returns c = λ s t G l.
    let g = c.args.self.now in
    let board = c.in-Some.board.now in
    let there : get g.boards g.root ≡ Some board = sym c.get.ensures ∙ ap option_copied c.in-Some.is in
    let r = same_Some (board_seen board) _ (ap (option_map board_seen) (sym there) ∙ G.root) in
    let keys : G.keys ≡ c.as_slice.result.now = sym (ap (λ (x : BoardSeen). x.keys) r) ∙ sym c.as_slice.ensures.value in
    let Q : List ℕ → Type 0 = λ ks. Stands (get g.nodes) (get g.boards) g.root 0 ks t in
    let told = c.in_ok-push_zeros.ensures g.root 0 t (subst Q keys G.stands) l in
    c.from_vec-2.ensures ∙ told ∙ ap (λ x. x ++ zeros_in t) (c.in_ok-push.ensures.items ∙ ap (λ (x : List ℕ). x ++ board.sheet.zero ∷ []) c.new-zeros.ensures.items)
    ∙ ap (λ (x : BoardSeen). x.sheet.zero ∷ zeros_in t) r
