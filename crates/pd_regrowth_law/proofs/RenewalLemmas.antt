-- Elements regrow where each stays or is grown anew.
use Rattle.std.proofs.Common.{◌≡◌, ◌⊎◌, ℕ, ◌+◌, false, List, [], ◌∷◌, ◌++◌, Option, inl, inr}
use Rattle.pd_atom.specs.Names.{Names}
use Rattle.pd_canvas.specs.Pages.{Entry}
use Rattle.pd_library.specs.declared.answers.Answer.{Answer}
use Rattle.pd_tree.specs.Trees.{Trees, weight, zeros_in}
use Rattle.pd_growth.specs.Making.{Around}
use Rattle.pd_growth.specs.Growth.{box_grown, boxes_grown}
use Rattle.pd_regrowth_law.specs.Regrowth.{inner_of, stock, GivesAgain}
use Rattle.pd_regrowth_law.specs.Asking.{asks_for, AnswersAlikeBut}
use Rattle.pd_regrowth_law.specs.Renewal.{joined, AreRenewed}
use Rattle.pd_regrowth_law.proofs.PartLemmas.{nothing_regrows, first_again}
use Rattle.pd_regrowth_law.proofs.ChangeLemmas.{alike_but}
use Rattle.pd_regrowth_law.proofs.SameLemmas.{one_same}

-- what stays grows again under the new library
either_again : (lib lib2 : ℕ → Option Answer) (name : ℕ) (root : List ℕ) (left : ℕ) (a : Around) (e : Entry) (t : Trees) (names : Names) → AnswersAlikeBut name lib lib2
    → (GivesAgain (box_grown lib root left (inner_of lib root left) a e) t names (zeros_in t) (weight t) × (asks_for name t ≡ false))
    ⊎ GivesAgain (box_grown lib2 root left (inner_of lib2 root left) a e) t names (zeros_in t) (weight t)
    → GivesAgain (box_grown lib2 root left (inner_of lib2 root left) a e) t names (zeros_in t) (weight t)
either_again lib lib2 name root left a e t names like (inl h) names2 more room x =
    one_same lib lib2 root left a e (stock names2 (zeros_in t ++ more) (weight t + room)) (stock names2 more room) t (alike_but name lib lib2 t like h.1) (h.0 names2 more room x)
either_again lib lib2 name root left a e t names like (inr h) names2 more room x = h names2 more room x

pub renewed_again : (lib lib2 : ℕ → Option Answer) (name : ℕ) (root : List ℕ) (left : ℕ) (a : Around) (es : List Entry) (ts : List Trees) (names : Names) → AnswersAlikeBut name lib lib2
    → AreRenewed (box_grown lib root left (inner_of lib root left) a) (box_grown lib2 root left (inner_of lib2 root left) a) name names es ts
    → GivesAgain (boxes_grown lib2 root left (inner_of lib2 root left) a es) (joined ts) names (zeros_in (joined ts)) (weight (joined ts))
renewed_again lib lib2 name root left a [] [] names like h = nothing_regrows (record { lib = lib2; root = root; around = a; names = names }) left
renewed_again lib lib2 name root left a [] (t ∷ ts) names like h = absurd h
renewed_again lib lib2 name root left a (e ∷ es) [] names like h = absurd h
renewed_again lib lib2 name root left a (e ∷ es) (t ∷ ts) names like h =
    first_again (record { lib = lib2; root = root; around = a; names = names }) left e es t (joined ts) (either_again lib lib2 name root left a e t names like h.0)
    (renewed_again lib lib2 name root left a es ts names like h.1)
