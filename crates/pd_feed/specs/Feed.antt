-- What a feed has, and what becomes of it.
use Rattle.std.specs.Prelude.{◌≡◌, ℕ, ◌+◌, List, [], ◌++◌, length, drop, Option, Some, IfSome, IsTrue, IsFalse}
use Rattle.std.specs.List.{prefix_len}
use Rattle.pd_io.specs.Stream.{with_front}
use Rattle.pd_lex.specs.Text.{is_space}
use Rattle.pd_lex.specs.Reading.{semicolon}
use Rattle.pd_feed.specs.Script.{is_white, fed_of, is_shown, record_text, Script, with_first, ends_as, script_of}
use Rattle.pd_feed.specs.declared.feed.Fed.{Fed}
use Rattle.pd_feed.specs.declared.feed.Fed.TheVariants.{Record, End, TooLong, Unfinished}

-- `passed` bytes of the script have gone through the last whole record. After them come `blank` bytes of white space that weren't kept, and
-- then the bytes at hand. `last` is the record last given.
pub record Feed : Type 0 where
  pub passed : ℕ
  pub blank : ℕ
  pub bytes : List ℕ
  pub last : List ℕ

-- A record went: of the bytes ahead, the rest is what follows its semicolon.
pub record Takes (old : Feed) (ahead : List ℕ) (new : Feed) (rest : List ℕ) : Type 0 where
  pub place : ℕ
  pub ends : semicolon ahead ≡ Some place
  pub text : new.last ≡ record_text place ahead
  pub follows : rest ≡ drop (place + 1) ahead
  pub passed : new.passed ≡ old.passed + (old.blank + place + 1)
  pub blank : new.blank ≡ 0

-- No record went: the bytes ahead are still there, but for white space before them, which is counted.
pub record Stays (old : Feed) (ahead : List ℕ) (new : Feed) (rest : List ℕ) : Type 0 where
  pub white : List ℕ
  pub spaces : IsTrue (is_white white)
  pub follows : ahead ≡ white ++ rest
  pub blank : new.blank ≡ old.blank + length white
  pub passed : new.passed ≡ old.passed
  pub last : new.last ≡ old.last

abbrev pub Leaves : Fed → Feed → List ℕ → Feed → List ℕ → Type 0
Leaves Record old ahead new rest = Takes old ahead new rest
Leaves End old ahead new rest = Stays old ahead new rest
Leaves TooLong old ahead new rest = Stays old ahead new rest
Leaves Unfinished old ahead new rest = Stays old ahead new rest

-- nothing is left, where that is told
abbrev pub IsAtEnd : Option (List ℕ) → Type 0
IsAtEnd left = IfSome left (λ bytes. bytes ≡ [])

-- The answer is that of the bytes at hand and those that the source gave in the call. End and Unfinished come only at the source's end.
pub record Feeds (fed : Fed) (old : Feed) (left_old : Option (List ℕ)) (new : Feed) (left_new : Option (List ℕ)) : Type 0 where
  pub given : List ℕ
  pub came : left_old ≡ with_front given left_new
  pub answer : fed ≡ fed_of old.passed old.blank (old.bytes ++ given)
  pub leaves : Leaves fed old (old.bytes ++ given) new new.bytes
  pub ended : IsFalse (is_shown fed) → IsAtEnd left_new

-- Where the source tells what it has: the answer is that of all bytes ahead, and what is ahead after the call is what follows.
abbrev pub FeedsAll : Fed → Feed → Option (List ℕ) → Feed → Option (List ℕ) → Type 0
FeedsAll fed old left_old new left_new =
    (before after : List ℕ) → left_old ≡ Some before → left_new ≡ Some after →
    (fed ≡ fed_of old.passed old.blank (old.bytes ++ before)) × Leaves fed old (old.bytes ++ before) new (new.bytes ++ after)

-- all that comes, from the bytes at hand and those that the source has left
abbrev pub script_ahead : Feed → List ℕ → Script
script_ahead feed left = script_of feed.passed feed.blank (feed.bytes ++ left)

-- the record given was the first, and the others are still ahead; or there was none, and what is ahead ends so
abbrev pub Reads : Fed → List ℕ → Script → Script → Type 0
Reads Record last old new = old ≡ with_first last new
Reads End last old new = (old ≡ ends_as End) × (new ≡ old)
Reads TooLong last old new = (old ≡ ends_as TooLong) × (new ≡ old)
Reads Unfinished last old new = (old ≡ ends_as Unfinished) × (new ≡ old)

-- the same of the script, where the source tells what it has
abbrev pub ReadsScript : Fed → Feed → Option (List ℕ) → Feed → Option (List ℕ) → Type 0
ReadsScript fed old left_old new left_new =
    (before after : List ℕ) → left_old ≡ Some before → left_new ≡ Some after →
    Reads fed new.last (script_ahead old before) (script_ahead new after)

-- The source failed: what it gave before that is at hand, and shows no answer.
pub record Waits (old : Feed) (left_old : Option (List ℕ)) (new : Feed) (left_new : Option (List ℕ)) : Type 0 where
  pub given : List ℕ
  pub came : left_old ≡ with_front given left_new
  pub stays : Stays old (old.bytes ++ given) new new.bytes
  pub unshown : IsFalse (is_shown (fed_of new.passed new.blank new.bytes))

-- Where the source tells what it has: all that was ahead is still ahead.
abbrev pub WaitsAll : Feed → Option (List ℕ) → Feed → Option (List ℕ) → Type 0
WaitsAll old left_old new left_new =
    (before after : List ℕ) → left_old ≡ Some before → left_new ≡ Some after → Stays old (old.bytes ++ before) new (new.bytes ++ after)

-- the bytes at hand show this answer
pub record Shows (fed : Fed) (old new : Feed) : Type 0 where
  pub answer : fed ≡ fed_of old.passed old.blank old.bytes
  pub shown : IsTrue (is_shown fed)
  pub leaves : Leaves fed old old.bytes new new.bytes

-- the bytes at hand show no answer; the white space before them is counted
pub record Unshown (old new : Feed) : Type 0 where
  pub stays : Stays old old.bytes new new.bytes
  pub begun : prefix_len is_space new.bytes ≡ 0
  pub unshown : IsFalse (is_shown (fed_of new.passed new.blank new.bytes))
