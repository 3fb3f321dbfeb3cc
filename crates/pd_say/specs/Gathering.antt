-- Bytes that are gathered before a sink takes them.
use Rattle.std.specs.Prelude.{◌≡◌, ◌≤◌, ℕ, List, ◌++◌, Option, Result, OnErr}
use Rattle.pd_io.specs.Faults.{Rose}
use Rattle.pd_io.specs.Stream.{grown, TookPart}

-- Since a sink had taken `before`, these bytes were said: a first part of them it has taken by now, and the rest is held back.
pub record IsSaid (before now : Option (List ℕ)) (held said : List ℕ) : Type 0 where
  pub out : List ℕ
  pub taken : now ≡ grown before out
  pub all : said ≡ out ++ held

-- a step says these bytes after all that was said before it
pub record Says (old : Option (List ℕ)) (held : List ℕ) (new : Option (List ℕ)) (held' piece : List ℕ) : Type 0 where
  pub goes_on : (before : Option (List ℕ)) (said : List ℕ) → IsSaid before old held said → IsSaid before new held' (said ++ piece)

-- a step fails: of all that was said before it and of these bytes, a first part was taken
pub record Fails (old : Option (List ℕ)) (held : List ℕ) (new : Option (List ℕ)) (piece : List ℕ) : Type 0 where
  pub breaks_off : (before : Option (List ℕ)) (said : List ℕ) → IsSaid before old held said → TookPart before new (said ++ piece)

-- a sink's count of faults never falls, and it rose where the call failed
pub record HasCause {T E : Type 0} (before now : ℕ) (result : Result T E) : Type 0 where
  pub failed : OnErr result (Rose before now)
  pub counted : before ≤ now
