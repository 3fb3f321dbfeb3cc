use Rattle.pd_lex.proofs.Relation.{stands_read, records_stand, stand_pieces, body_stands}
use Rattle.pd_lex.proofs.Rest.{stands_spaces, fronts}
use Rattle.pd_lex.proofs.one_reading.Goals as goal

pub returns : goal.returns
returns c =
    record {
      only = stands_read;
      whole = records_stand;
      spaces = stands_spaces;
      front = fronts;
      tokens = stand_pieces;
      body = body_stands;
    }
