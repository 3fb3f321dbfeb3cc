-- What is true of a feed's fields.
use Rattle.std.specs.Prelude.{◌≡◌, ℕ, ◌+◌, ◌<◌, ◌≤◌, Bool, false, List, length, take, IsTrue, vec_capacity}
use Rattle.std.specs.List.{prefix_len}
use Rattle.pd_lex.specs.Text.{is_space}
use Rattle.pd_lex.specs.Reading.{is_body}
use Rattle.pd_feed.specs.Scan.{scan_of}
use Rattle.pd_feed.specs.Feed.{Feed}
use Rattle.pd_feed.specs.declared.scan.Scan.TheVariants.{Ended}
use Rattle.pd_feed.specs.declared.feed.RecordFeed.TheInside.{Inside}

-- so many bytes at hand have been looked at: there is no semicolon that ends a record, and the first byte isn't white space
pub record IsSearched (bytes : List ℕ) (searched : ℕ) (escaped : Bool) : Type 0 where
  pub within : searched ≤ length bytes
  pub none : scan_of false (take searched bytes) ≡ Ended escaped
  pub begun : 0 < searched → prefix_len is_space bytes ≡ 0

pub record IsKept (f : Inside) : Type 0 where
  pub searching : IsSearched f.buffer f.searched f.escaped
  pub counted : f.passed + f.blank + length f.buffer ≤ 1073807361
  pub body : IsTrue (is_body f.last.items)
  pub short : length f.last.items ≤ 65535
  pub room : 65535 ≤ vec_capacity f.last

abbrev pub feed_of : Inside → Feed
feed_of f = record { passed = f.passed; blank = f.blank; bytes = f.buffer; last = f.last.items }
