-- What a feed's answer says of the script ahead, whatever comes behind it.
use Rattle.std.proofs.Common.{◌≡◌, ℕ, ◌+◌, List, [], ◌++◌, drop, Option, Some, None, refl, ap, ◌∙◌}
use Rattle.std.specs.Prelude.{IfSome, IsFalse}
use Rattle.pd_lex.specs.Reading.{semicolon}
use Rattle.pd_feed.specs.Script.{Script, fed_of, is_shown, record_text, with_first, ends_as, script_at, script_of}
use Rattle.pd_feed.specs.Feed.{Feed, IsAtEnd, Feeds, Reads, Waits, script_ahead}
use Rattle.pd_feed.specs.declared.feed.Fed.{Fed}
use Rattle.pd_feed.specs.declared.feed.Fed.TheVariants.{Record, End, TooLong, Unfinished}
use Rattle.pd_feed.proofs.NextLemmas.{feeds_all, stays-fed}
use Rattle.pd_feed.proofs.ScriptLemmas.{reads_script, script_step}

-- what a source has left, where it tells that
abbrev pub told : Option (List ℕ) → List ℕ
told None = []
told (Some left) = left

pub told_is : (left : Option (List ℕ)) → IfSome left (λ bytes. bytes ≡ told left)
told_is None = tt
told_is (Some left) = refl

pub told_end : (left : Option (List ℕ)) → IsAtEnd left → told left ≡ []
told_end None e = refl
told_end (Some left) e = e

-- the same answer, where these bytes are still to come
reads_on : (fed : Fed) (f f' : Feed) (left left' : Option (List ℕ)) (h : Feeds fed f left f' left') (more : List ℕ) → (IsFalse (is_shown fed) → more ≡ []) →
    Reads fed f'.last (script_ahead f (h.given ++ more)) (script_ahead f' more)
reads_on fed f f' left left' h more e =
    let k : Feeds fed f (Some (h.given ++ more)) f' (Some more) =
    record { given = h.given; came = refl; answer = h.answer; leaves = h.leaves; ended = e } in
    reads_script fed f f' (Some (h.given ++ more)) (Some more) (feeds_all fed f f' (Some (h.given ++ more)) (Some more) k) (h.given ++ more) more refl refl

pub record_ahead : (f f' : Feed) (left left' : Option (List ℕ)) (h : Feeds Record f left f' left') (more : List ℕ) →
    script_ahead f (h.given ++ more) ≡ with_first f'.last (script_ahead f' more)
record_ahead f f' left left' h more = reads_on Record f f' left left' h more (λ e. absurd (cc))

pub too_long_ahead : (f f' : Feed) (left left' : Option (List ℕ)) (h : Feeds TooLong f left f' left') (more : List ℕ) →
    script_ahead f (h.given ++ more) ≡ ends_as TooLong
too_long_ahead f f' left left' h more = (reads_on TooLong f f' left left' h more (λ e. absurd (cc))).0

pub end_ahead : (f f' : Feed) (left left' : Option (List ℕ)) (h : Feeds End f left f' left') → script_ahead f (h.given ++ told left') ≡ ends_as End
end_ahead f f' left left' h = (reads_on End f f' left left' h (told left') (λ e. told_end left' (h.ended e))).0

pub unfinished_ahead : (f f' : Feed) (left left' : Option (List ℕ)) (h : Feeds Unfinished f left f' left') →
    script_ahead f (h.given ++ told left') ≡ ends_as Unfinished
unfinished_ahead f f' left left' h = (reads_on Unfinished f f' left left' h (told left') (λ e. told_end left' (h.ended e))).0

-- an answer that more bytes could change is no record
unshown_at : (fed : Fed) (o : Option ℕ) (after : ℕ → Script) → IsFalse (is_shown fed) → script_at fed o after ≡ ends_as fed
unshown_at Record o after e = absurd (cc)
unshown_at End o after e = refl
unshown_at TooLong o after e = refl
unshown_at Unfinished o after e = refl

-- where the source failed, no whole record is ahead in what it gave
pub waits_ahead : (f f' : Feed) (left left' : Option (List ℕ)) (h : Waits f left f' left') →
    script_ahead f h.given ≡ ends_as (fed_of f'.passed f'.blank f'.bytes)
waits_ahead f f' left left' h =
    let x : List ℕ = f.bytes ++ h.given in
    let after : ℕ → Script = λ place. with_first (record_text place x) (script_of (f.passed + (f.blank + place + 1)) 0 (drop (place + 1) x)) in
    let same : fed_of f.passed f.blank x ≡ fed_of f'.passed f'.blank f'.bytes = stays-fed f f' x f'.bytes h.stays in
    script_step f.passed f.blank x ∙ unshown_at (fed_of f.passed f.blank x) (semicolon x) after (ap is_shown same ∙ h.unshown) ∙ ap ends_as same
