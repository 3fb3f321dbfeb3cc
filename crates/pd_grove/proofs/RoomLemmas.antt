-- Where room is set aside all is as it was.
use Rattle.std.proofs.Common.{◌≡◌, Option, Some, None, IsSome, refl, sym, ap, subst}
use Rattle.std.specs.Prelude.{option_map}
use Rattle.std.proofs.lemmas.Option.{none-some, same_Some}
use Rattle.slab.specs.Slab.{get}
use Rattle.pd_grove.specs.declared.boards.Board.{Board}
use Rattle.pd_grove.specs.declared.grove.Grove.{Grove}
use Rattle.pd_grove.specs.Standing.{BoardSeen, board_seen, depth_of}
use Rattle.pd_grove.specs.Telling.{inner_in, keys_in}
use Rattle.pd_grove.specs.Owning.{board_in}
use Rattle.pd_grove.specs.Forest.{holder_in, IsForest}
use Rattle.pd_grove.specs.Room.{IsSameButRoom}
use Rattle.pd_grove.proofs.OpenLemmas.{forest_alike}

keys_seen : (o o' : Option Board) → option_map board_seen o' ≡ option_map board_seen o → keys_in o' ≡ keys_in o
keys_seen None None e = refl
keys_seen None (Some b') e = absurd (none-some (board_seen b') (sym e))
keys_seen (Some b) None e = absurd (none-some (board_seen b) e)
keys_seen (Some b) (Some b') e = ap (λ (s : BoardSeen). s.keys) (same_Some (board_seen b') (board_seen b) e)

holder_seen : (o o' : Option Board) → option_map board_seen o' ≡ option_map board_seen o → holder_in o' ≡ holder_in o
holder_seen None None e = refl
holder_seen None (Some b') e = absurd (none-some (board_seen b') (sym e))
holder_seen (Some b) None e = absurd (none-some (board_seen b) e)
holder_seen (Some b) (Some b') e = ap (λ (s : BoardSeen). s.holder) (same_Some (board_seen b') (board_seen b) e)

depth_seen : (o o' : Option Board) → option_map board_seen o' ≡ option_map board_seen o → depth_of o' ≡ depth_of o
depth_seen None None e = refl
depth_seen None (Some b') e = absurd (none-some (board_seen b') (sym e))
depth_seen (Some b) None e = absurd (none-some (board_seen b) e)
depth_seen (Some b) (Some b') e = ap (λ (s : BoardSeen). s.depth) (same_Some (board_seen b') (board_seen b) e)

live_seen : (o o' : Option Board) → option_map board_seen o' ≡ option_map board_seen o → IsSome o → IsSome o'
live_seen None o' e h = absurd (cc)
live_seen (Some b) None e h = absurd (none-some (board_seen b) e)
live_seen (Some b) (Some b') e h = refl

pub room_forest : (old new : Grove) → IsSameButRoom old new → IsForest (get old.nodes) (get old.boards) old.root → IsForest (get new.nodes) (get new.boards) new.root
room_forest old new S F =
    subst (IsForest (get new.nodes) (get new.boards)) (sym S.root)
    (forest_alike (get old.nodes) (get new.nodes) (get old.boards) (get new.boards) old.root
    (record {
      lie = λ k. ap board_in (S.nodes k);
      hold = λ k. ap inner_in (S.nodes k);
      keys = λ c. keys_seen (get old.boards c) (get new.boards c) (S.boards c);
      holders = λ c. holder_seen (get old.boards c) (get new.boards c) (S.boards c);
      depths = λ c. depth_seen (get old.boards c) (get new.boards c) (S.boards c);
      live = λ c h. live_seen (get old.boards c) (get new.boards c) (S.boards c) h;
      no_more = λ c h. live_seen (get new.boards c) (get old.boards c) (sym (S.boards c)) h;
    })
    F)
