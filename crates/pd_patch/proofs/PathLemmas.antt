-- The way out of a canvas.
use Rattle.std.proofs.Common.{arith, ◌≡◌, ℕ, suc, ◌+◌, ◌-◌, ◌<◌, ◌≤◌, List, ◌++◌, length, drop, sym, append_assoc, append-nil}
use Rattle.std.specs.List.{refill}
use Rattle.std.proofs.Math.Seq.{take-append_seam}
use Rattle.slab.specs.Slab.{Slab}
use Rattle.std.specs.Prelude.{Option, Some, None}
use Rattle.pd_grove.specs.declared.nodes.Node.{Node}
use Rattle.pd_grove.specs.declared.boards.Board.{Board}
use Rattle.pd_patch.specs.Paths.{outward, out_of, number_of}

pub outward-step : (nodes : ℕ → Option Node) (boards : Slab Board) (numbers path path2 : List ℕ) (i : ℕ) (here next : Option (ℕ × ℕ)) → i < 256
    → path2 ≡ path ++ number_of here → next ≡ out_of nodes boards numbers here
    → path2 ++ outward nodes boards numbers (256 - (i + 1)) next ≡ path ++ outward nodes boards numbers (256 - i) here
unfolding outward
outward-step nodes boards numbers path path2 i here next lt added out =
    let e : 256 - i ≡ suc (256 - (i + 1)) = omega arith in
    rw (e, added, out) (append_assoc path (number_of here) (outward nodes boards numbers (256 - (i + 1)) (out_of nodes boards numbers here)))

pub outward-end : (nodes : ℕ → Option Node) (boards : Slab Board) (numbers path : List ℕ) (i : ℕ) (here : Option (ℕ × ℕ)) → i ≡ 256
    → path ≡ path ++ outward nodes boards numbers (256 - i) here
unfolding outward
outward-end nodes boards numbers path i here e =
    let f : 256 - i ≡ 0 = omega arith in rw f (sym (append-nil path))

pub number-short : (here : Option (ℕ × ℕ)) → length (number_of here) ≤ 1
number-short None = omega arith
number-short (Some h) = omega arith

-- a list that is filled up by one as long is that one
pub refill-same : (xs ws : List ℕ) → length ws ≡ length xs → refill (length xs) xs ws ≡ ws
refill-same xs ws e = rw (← e) (take-append_seam ws (drop (length ws) xs))
