-- A box without wires loses its ports, and their ends are dropped.
use Rattle.std.proofs.Common.{◌≡◌, ℕ, List, [], slice_get, Some, ◌∙◌}
use Rattle.pd_wire.specs.Book.{Book}
use Rattle.pd_web.specs.declared.sockets.Sockets.{Sockets}
use Rattle.pd_web.specs.declared.sockets.Spot.{Spot}
use Rattle.pd_web.specs.Sockets.{AreFew, AreTied}
use Rattle.pd_web.specs.Spares.{AreFree}
use Rattle.pd_web.proofs.ChangeLemmas.{line_in, fan_in, feeds_in}
use Rattle.pd_ports.specs.Boxes.{Puts}
use Rattle.pd_ports.specs.Ends.{IsEndOf, Drops}
use Rattle.pd_ports.proofs.BoxLemmas.{closed_takes, none_few, put_few, put_tied, put_free, put_fans, put_feeds}
use Rattle.pd_ports.proofs.EndLemmas.{Dropped, olds_apart, olds_taken, dropped_tied, dropped_free, dropped_fans, dropped_feeds, line_alike}

-- the box had these ports, and has these others now, of which there are none
pub record Closes (all all' : List Sockets) (spots : List Spot) (b b' : Book) (spare : List ℕ) (key : ℕ) (old own : Sockets) : Type 0 where
  pub few : AreFew all
  pub tied : AreTied all spots b
  pub free : AreFree all b spare
  pub puts : Puts all all' key own
  pub was : slice_get all key ≡ Some old
  pub no_inlets : own.inlets.items ≡ []
  pub no_outlets : own.outlets.items ≡ []
  pub fans : (outlet : ℕ) → fan_in all spots b key outlet ≡ []
  pub feeds : (inlet : ℕ) → feeds_in all spots b key inlet ≡ []
  pub drops : Drops b b' (IsEndOf old)

-- what stays
pub record Stays (all all' : List Sockets) (spots : List Spot) (b b' : Book) (spare : List ℕ) : Type 0 where
  pub few : AreFew all'
  pub tied : AreTied all' spots b'
  pub free : AreFree all' b' spare
  pub lines : (k : ℕ) → line_in spots b' k ≡ line_in spots b k
  pub fans : (node outlet : ℕ) → fan_in all' spots b' node outlet ≡ fan_in all spots b node outlet
  pub feeds : (node inlet : ℕ) → feeds_in all' spots b' node inlet ≡ feeds_in all spots b node inlet

pub closes_stays : (all all' : List Sockets) (spots : List Spot) (b b' : Book) (spare : List ℕ) (key : ℕ) (old own : Sockets) → Closes all all' spots b b' spare key old own → Stays all all' spots b b' spare
closes_stays all all' spots b b' spare key old own c =
    let takes = closed_takes all all' spots b key own c.puts c.no_inlets c.no_outlets c.fans c.feeds in
    let dropped : Dropped all' b b' spare (IsEndOf old) = record {
      drops = c.drops;
      apart = olds_apart all all' spots b key old own c.tied c.was takes;
      taken = olds_taken all b spare key old c.free c.was;
    } in
    record {
      few = put_few all all' key own c.puts (none_few own c.no_inlets c.no_outlets) c.few;
      tied = dropped_tied all' spots b b' spare (IsEndOf old) dropped (put_tied all all' spots b key own takes c.tied);
      free = dropped_free all' b b' spare (IsEndOf old) dropped (put_free all all' spots b spare key own takes c.free);
      lines = λ k. line_alike spots b b' k (c.drops.wires k);
      fans = λ node outlet. dropped_fans all' spots b b' spare (IsEndOf old) dropped node outlet ∙ put_fans all all' spots b key own takes node outlet;
      feeds = λ node inlet. dropped_feeds all' spots b b' spare (IsEndOf old) dropped node inlet ∙ put_feeds all all' spots b key own takes node inlet;
    }
