-- What a record is, by its first two words.
use Rattle.std.specs.Prelude.{ℕ, List, [], ◌∷◌, Option, Some, None, if◌then◌else◌, codes, bytes_eq}
use Rattle.pd_lex.specs.Text.{Piece}
use Rattle.pd_doc.specs.declared.kinds.Kind.{Kind}
use Rattle.pd_doc.specs.declared.kinds.Kind.TheVariants.{Canvas, Structure, Restore, Plain, Array, Connect, Coords, Kept, Row, Other}
use Rattle.pd_doc.specs.declared.kinds.BoxWord.{BoxWord}
use Rattle.pd_doc.specs.declared.kinds.BoxWord.TheVariants.{Obj, Msg, Text, FloatAtom, SymbolAtom, ListBox}
use Rattle.pd_doc.specs.Pieces.{spells, bytes_of, is_long}

-- the word of an element
abbrev pub box_word : List ℕ → Option BoxWord
box_word w =
    if bytes_eq w (codes "obj") then Some Obj else
    if bytes_eq w (codes "msg") then Some Msg else
    if bytes_eq w (codes "text") then Some Text else
    if bytes_eq w (codes "floatatom") then Some FloatAtom else
    if bytes_eq w (codes "symbolatom") then Some SymbolAtom else
    if bytes_eq w (codes "listbox") then Some ListBox else None

-- any other word of a record of `#X`
abbrev pub record_word : List ℕ → Kind
record_word w =
    if bytes_eq w (codes "restore") then Restore else
    if bytes_eq w (codes "array") then Array else
    if bytes_eq w (codes "connect") then Connect else
    if bytes_eq w (codes "coords") then Coords else
    if bytes_eq w (codes "scalar") then Structure else Kept

abbrev pub plain_or : Option BoxWord → Kind → Kind
plain_or None k = k
plain_or (Some w) k = Plain w

-- a record of `#X` and this word
abbrev pub word_kind : List ℕ → Kind
word_kind w = plain_or (box_word w) (record_word w)

-- a record of `#N` and this word
abbrev pub opening_kind : List ℕ → Kind
opening_kind w =
    if bytes_eq w (codes "canvas") then Canvas else
    if bytes_eq w (codes "struct") then Structure else Other

-- a record of `#X` or `#N`, by the tokens behind it
abbrev pub kind_behind : (List ℕ → Kind) → List Piece → Kind
kind_behind of_word [] = Other
kind_behind of_word (p ∷ ps) = if is_long p then Other else of_word (bytes_of p)

unfoldable pub kind_of : List Piece → Kind
kind_of [] = Other
kind_of (p ∷ ps) =
    if spells (codes "#N") p then kind_behind opening_kind ps else
    if spells (codes "#X") p then kind_behind word_kind ps else
    if spells (codes "#A") p then Row else Other
