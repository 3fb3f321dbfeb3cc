-- Ends set aside for ports that have no wire yet.
use Rattle.std.specs.Prelude.{◌≡◌, ◌≢◌, ◌≤◌, ℕ, List, [], slice_get, length, Option, Some}
use Rattle.pd_wire.specs.Book.{Book, IsEnd, fan_of, feeds_of}
use Rattle.pd_grove.specs.declared.ports.Side.{Side}
use Rattle.pd_web.specs.declared.sockets.Sockets.{Sockets}
use Rattle.pd_web.specs.declared.sockets.Spot.{Spot}
use Rattle.pd_web.specs.Sockets.{end_at, ports_at, made_at}
use Rattle.pd_web.specs.Homes.{home_at}

-- each of these ends is live and has no wire, no port has it, and it stands here once
pub record AreFree (all : List Sockets) (book : Book) (spare : List ℕ) : Type 0 where
  pub live : (i e : ℕ) → slice_get spare i ≡ Some e → IsEnd book e
  pub no_fan : (i e : ℕ) → slice_get spare i ≡ Some e → fan_of book e ≡ []
  pub no_feeds : (i e : ℕ) → slice_get spare i ≡ Some e → feeds_of book e ≡ []
  pub of_no_port : (i e : ℕ) (s : Spot) → slice_get spare i ≡ Some e → end_at all s ≢ Some e
  pub once : (i j e : ℕ) → slice_get spare i ≡ Some e → slice_get spare j ≡ Some e → i ≡ j

-- the list may be longer
pub record IsLonger (spots spots' : List Spot) : Type 0 where
  pub kept : (e : ℕ) (s : Spot) → slice_get spots e ≡ Some s → slice_get spots' e ≡ Some s
  pub longer : length spots ≤ length spots'

-- there may be more boxes, all without ports
pub record SameSockets (all all' : List Sockets) : Type 0 where
  pub ports : (side : Side) (k : ℕ) → ports_at all' side k ≡ ports_at all side k
  pub made : (k : ℕ) → made_at all' k ≡ made_at all k
  pub longer : length all ≤ length all'

-- there may be more boxes, none of which is a port
pub record SameHomes (homes homes' : List (Option Spot)) : Type 0 where
  pub told : (j : ℕ) → home_at homes' j ≡ home_at homes j
  pub longer : length homes ≤ length homes'
