-- The pieces of a line.
use Rattle.std.specs.Prelude.{ℕ, List, ◌<◌, length, decimal}
use Rattle.std.specs.List.{All, flat_map}
use Rattle.pd_atom.specs.Names.{Names}
use Rattle.pd_atom.specs.Atoms.{IsOf, spelled}
use Rattle.pd_say.specs.declared.pieces.Piece.{Piece}
use Rattle.pd_say.specs.declared.pieces.Piece.TheVariants.{Bytes, Count, Atom, Words, Message, Canvas, Numbers, Why}
use Rattle.pd_say.specs.Messages.{words_text, message_text}
use Rattle.pd_say.specs.Paths.{place_text, marked, DocumentOf}
use Rattle.pd_say.specs.Refusals.{why_text}

abbrev pub piece_text : Names → Piece → List ℕ
piece_text names (Bytes bytes) = bytes.now
piece_text names (Count count) = decimal count
piece_text names (Atom atom) = spelled names atom
piece_text names (Words words) = words_text names words.now
piece_text names (Message selector atoms) = message_text names selector atoms.now
piece_text names (Canvas document path) = place_text names document path.now
piece_text names (Numbers numbers) = marked 32 numbers.now
piece_text names (Why why) = why_text why

abbrev pub pieces_text : Names → List Piece → List ℕ
pieces_text names pieces = flat_map (piece_text names) pieces

-- what the piece names is of the table
abbrev pub PieceOf : Names → Piece → Type 0
PieceOf names (Bytes bytes) = Unit {0}
PieceOf names (Count count) = Unit {0}
PieceOf names (Atom atom) = IsOf names atom
PieceOf names (Words words) = All (λ a. IsOf names a) words.now
PieceOf names (Message selector atoms) = (selector < length names) × All (λ a. IsOf names a) atoms.now
PieceOf names (Canvas document path) = DocumentOf names document
PieceOf names (Numbers numbers) = Unit {0}
PieceOf names (Why why) = Unit {0}
