-- How many wires a book has.
use Rattle.std.proofs.Common.{◌≡◌, ℕ, suc, ◌+◌, ◌≤◌, Bool, true, false, not, is_some, cond, count_by, List, [], ◌∷◌, length, filter, map, Option, Some, None, refl, sym, ap, ◌∙◌, arith}
use Rattle.std.proofs.lemmas.List.Sums.{length-filter, count_by-le-length}
use Rattle.slab.specs.Slab.{Slab, slab_len, entries, entries_from}
use Rattle.slab.proofs.SlabLemmas.{length-entries}
use Rattle.pd_wire.specs.Book.{Book, live_wires}
use Rattle.pd_wire.specs.Stored.{book_of, wire_of_slot}
use Rattle.pd_wire.specs.declared.links.Node.{Node}

-- an entry of the slab that is a wire's
abbrev pub is_wire_entry : ℕ × Node → Bool
is_wire_entry e = not e.1.is_end

one_more : {X Y : Type 0} (b : Bool) (x : X) (y : Y) (xs : List X) (ys : List (Option Y)) → length xs ≡ length ys → length (cond b (x ∷ xs) xs) ≡ length (cond (is_some (cond b (Some y) None)) (cond b (Some y) None ∷ ys) ys)
one_more true x y xs ys h = ap suc h
one_more false x y xs ys h = h

-- the entries of wires are as many as the slots that are seen as wires
entries_counted : (key : ℕ) (slots : List (Option Node)) → length (filter is_wire_entry (entries_from key slots)) ≡ length (filter is_some (map wire_of_slot slots))
entries_counted key [] = refl
entries_counted key (None ∷ rest) = entries_counted (key + 1) rest
entries_counted key (Some node ∷ rest) = one_more (not node.is_end) (key, node) (node.fan.owner, node.feed.owner) _ _ (entries_counted (key + 1) rest)

-- the entries of wires are as many as the wires of the book
pub wires_counted : (s : Slab Node) (m n : ℕ) → count_by is_wire_entry (entries s) ≡ live_wires (book_of s m n)
wires_counted s m n = sym (length-filter is_wire_entry (entries s)) ∙ entries_counted 0 s.slots

-- there are no more wires than the slab holds
pub wires_fit : (s : Slab Node) (m n : ℕ) → live_wires (book_of s m n) ≤ slab_len s
wires_fit s m n = omega (arith, wires_counted s m n, count_by-le-length is_wire_entry (entries s), length-entries s)

-- so many wires and those of the entries left are all wires of the book
abbrev pub IsCounted : ℕ → List (ℕ × Node) → Book → Type 0
IsCounted count left b = count + length (filter is_wire_entry left) ≡ live_wires b

pub counted_start : (s : Slab Node) (m n : ℕ) → IsCounted 0 (entries s) (book_of s m n)
counted_start s m n = omega (arith, length-filter is_wire_entry (entries s), wires_counted s m n)

pub counted_wire : (count key : ℕ) (node : Node) (left : List (ℕ × Node)) (b : Book) → node.is_end ≡ false → IsCounted count ((key, node) ∷ left) b → IsCounted (count + 1) left b
counted_wire count key node left b w h =
    let more : length (filter is_wire_entry ((key, node) ∷ left)) ≡ suc (length (filter is_wire_entry left)) = ap (λ c. length (cond (not c) ((key, node) ∷ filter is_wire_entry left) (filter is_wire_entry left))) w in
    omega (arith, h, more)

pub counted_end : (count key : ℕ) (node : Node) (left : List (ℕ × Node)) (b : Book) → node.is_end ≡ true → IsCounted count ((key, node) ∷ left) b → IsCounted count left b
counted_end count key node left b w h =
    let same : length (filter is_wire_entry ((key, node) ∷ left)) ≡ length (filter is_wire_entry left) = ap (λ c. length (cond (not c) ((key, node) ∷ filter is_wire_entry left) (filter is_wire_entry left))) w in
    omega (arith, h, same)
