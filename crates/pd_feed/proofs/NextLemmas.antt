-- What a call leaves of the bytes ahead, one step after another.
use Rattle.std.proofs.Common.{◌≡◌, ◌≢◌, ℕ, ◌+◌, ◌-◌, ◌<◌, Bool, true, false, List, [], ◌∷◌, ◌++◌, length, take, drop, Option, Some, None, refl, sym, ap, ◌∙◌, subst, arith, length-append, append_assoc}
use Rattle.std.specs.Prelude.{IfSome, ◌↔◌}
use Rattle.std.specs.Bool.{then_some}
use Rattle.std.specs.List.{prefix_len}
use Rattle.std.proofs.lemmas.List.{drop-drop, drop-append-le, take-append-le, drop_at, append-nil, nil_from_length}
use Rattle.std.proofs.Math.Seq.{take-append-add}
use Rattle.pd_io.specs.Stream.{with_front}
use Rattle.pd_lex.specs.Text.{is_space}
use Rattle.pd_lex.specs.Reading.{semicolon, plus}
use Rattle.pd_feed.specs.Script.{is_white, fed_of, is_shown, record_text}
use Rattle.pd_feed.specs.Bytes.{Gains}
use Rattle.pd_feed.specs.Feed.{Feed, Takes, Stays, Leaves, IsAtEnd, Feeds, FeedsAll, Waits, WaitsAll, Shows, Unshown}
use Rattle.pd_feed.proofs.ScanLemmas.{white-append, prefix-white}
use Rattle.pd_feed.proofs.FedLemmas.{semicolon-white, semicolon-append, fed-white, fed-append, unshown}
use Rattle.pd_feed.proofs.FeedLemmas.{semicolon-within}
use Rattle.pd_feed.specs.declared.feed.Fed.{Fed}
use Rattle.pd_feed.specs.declared.feed.Fed.TheVariants.{Record, End, TooLong, Unfinished}

-- ---- nothing went

pub stays_self : (f : Feed) (x : List ℕ) → Stays f x f x
stays_self f x = record { white = []; spaces = refl; follows = refl; blank = omega arith; passed = refl; last = refl }

pub stays_then : (a b c : Feed) (x y z : List ℕ) → Stays a x b y → Stays b y c z → Stays a x c z
stays_then a b c x y z s t = record {
  white = s.white ++ t.white;
  spaces = white-append s.white t.white s.spaces ∙ t.spaces;
  follows = s.follows ∙ ap (λ r. s.white ++ r) t.follows ∙ sym (append_assoc s.white t.white z);
  blank = omega (arith, s.blank, t.blank, length-append s.white t.white);
  passed = t.passed ∙ s.passed;
  last = t.last ∙ s.last;
}

pub stays_more : (a b : Feed) (x y more : List ℕ) → Stays a x b y → Stays a (x ++ more) b (y ++ more)
stays_more a b x y more s = record {
  white = s.white;
  spaces = s.spaces;
  follows = ap (λ r. r ++ more) s.follows ∙ append_assoc s.white y more;
  blank = s.blank;
  passed = s.passed;
  last = s.last;
}

pub stays-fed : (a b : Feed) (x y : List ℕ) → Stays a x b y → fed_of a.passed a.blank x ≡ fed_of b.passed b.blank y
stays-fed a b x y s =
    ap (fed_of a.passed a.blank) s.follows ∙ fed-white a.passed a.blank s.white y s.spaces
    ∙ ap (λ (p : ℕ). fed_of p (a.blank + length s.white) y) (sym s.passed) ∙ ap (λ (n : ℕ). fed_of b.passed n y) (sym s.blank)

-- ---- a record went

drop_behind : (w y : List ℕ) (n : ℕ) → drop (length w + n) (w ++ y) ≡ drop n y
drop_behind w y n = sym (drop-drop n (length w) (w ++ y)) ∙ ap (drop n) (drop_at w y (length w) refl)

text-white : (w y : List ℕ) (k : ℕ) → is_white w ≡ true → record_text (length w + k) (w ++ y) ≡ record_text k y
text-white w y k h =
    ap (λ t. drop (prefix_len is_space t) t) (take-append-add w y k) ∙ ap (λ n. drop n (w ++ take k y)) (prefix-white w (take k y) h)
    ∙ drop_behind w (take k y) (prefix_len is_space (take k y))

takes_then : (a b c : Feed) (x y z : List ℕ) → Stays a x b y → Takes b y c z → Takes a x c z
takes_then a b c x y z s t =
    let n : length s.white + (t.place + 1) ≡ length s.white + t.place + 1 = omega arith in
    record {
      place = length s.white + t.place;
      ends = ap semicolon s.follows ∙ semicolon-white s.white y s.spaces ∙ ap (plus (length s.white)) t.ends;
      text = t.text ∙ sym (ap (record_text (length s.white + t.place)) s.follows ∙ text-white s.white y t.place s.spaces);
      follows =
          t.follows ∙ sym (drop_behind s.white y (t.place + 1)) ∙ ap (λ r. drop (length s.white + (t.place + 1)) r) (sym s.follows)
          ∙ ap (λ k. drop k x) n;
      passed = omega (arith, t.passed, s.passed, s.blank);
      blank = t.blank;
    }

takes_more : (a b : Feed) (x y more : List ℕ) → Takes a x b y → Takes a (x ++ more) b (y ++ more)
takes_more a b x y more t =
    let w = semicolon-within x t.place t.ends in
    record {
      place = t.place;
      ends = semicolon-append x more t.place t.ends;
      text = t.text ∙ ap (λ r. drop (prefix_len is_space r) r) (sym (take-append-le t.place x more (omega (arith, w))));
      follows = ap (λ r. r ++ more) t.follows ∙ sym (drop-append-le (t.place + 1) x more (omega (arith, w)));
      passed = t.passed;
      blank = t.blank;
    }

leaves_then : (fed : Fed) (a b c : Feed) (x y z : List ℕ) → Stays a x b y → Leaves fed b y c z → Leaves fed a x c z
leaves_then Record a b c x y z s t = takes_then a b c x y z s t
leaves_then End a b c x y z s t = stays_then a b c x y z s t
leaves_then TooLong a b c x y z s t = stays_then a b c x y z s t
leaves_then Unfinished a b c x y z s t = stays_then a b c x y z s t

leaves_more : (fed : Fed) (a b : Feed) (x y more : List ℕ) → Leaves fed a x b y → Leaves fed a (x ++ more) b (y ++ more)
leaves_more Record a b x y more t = takes_more a b x y more t
leaves_more End a b x y more t = stays_more a b x y more t
leaves_more TooLong a b x y more t = stays_more a b x y more t
leaves_more Unfinished a b x y more t = stays_more a b x y more t

-- ---- all bytes ahead

some_is : (x y : List ℕ) → Some x ≡ Some y → x ≡ y
some_is x y h = cc

all_ahead : (lo ln : Option (List ℕ)) (given before after : List ℕ) → lo ≡ with_front given ln → lo ≡ Some before → ln ≡ Some after →
    before ≡ given ++ after
all_ahead lo ln given before after c b a = some_is before (given ++ after) (sym b ∙ c ∙ ap (with_front given) a)

at_end_is : (ln : Option (List ℕ)) (after : List ℕ) → ln ≡ Some after → IsAtEnd ln → after ≡ []
at_end_is (Some l) after e h = sym (some_is l after e) ∙ h
at_end_is None after e h = absurd (cc)

answer_all : (fed : Fed) (p b : ℕ) (x after : List ℕ) (ln : Option (List ℕ)) → fed ≡ fed_of p b x → ln ≡ Some after →
    (is_shown fed ≡ false → IsAtEnd ln) → (v : Bool) → is_shown fed ≡ v → fed ≡ fed_of p b (x ++ after)
answer_all fed p b x after ln e a n true v = e ∙ sym (fed-append p b x after (ap is_shown (sym e) ∙ v))
answer_all fed p b x after ln e a n false v =
    e ∙ ap (fed_of p b) (sym (append-nil x) ∙ ap (λ r. x ++ r) (sym (at_end_is ln after a (n v))))

pub feeds_all : (fed : Fed) (old new : Feed) (lo ln : Option (List ℕ)) → Feeds fed old lo new ln → FeedsAll fed old lo new ln
feeds_all fed old new lo ln f before after b a =
    let e : (old.bytes ++ f.given) ++ after ≡ old.bytes ++ before =
    append_assoc old.bytes f.given after ∙ ap (λ r. old.bytes ++ r) (sym (all_ahead lo ln f.given before after f.came b a)) in (
      answer_all fed old.passed old.blank (old.bytes ++ f.given) after ln f.answer a f.ended (is_shown fed) refl
          ∙ ap (fed_of old.passed old.blank) e,
      subst (λ x. Leaves fed old x new (new.bytes ++ after)) e (leaves_more fed old new (old.bytes ++ f.given) new.bytes after f.leaves),
    )

pub waits_all : (old new : Feed) (lo ln : Option (List ℕ)) → Waits old lo new ln → WaitsAll old lo new ln
waits_all old new lo ln f before after b a =
    let e : (old.bytes ++ f.given) ++ after ≡ old.bytes ++ before =
    append_assoc old.bytes f.given after ∙ ap (λ r. old.bytes ++ r) (sym (all_ahead lo ln f.given before after f.came b a)) in
    subst (λ x. Stays old x new (new.bytes ++ after)) e (stays_more old new (old.bytes ++ f.given) new.bytes after f.stays)

-- ---- the loop

-- so far no record went, and the bytes that the source gave are at hand
pub record IsUnderWay (old now : Feed) (left_old left_now : Option (List ℕ)) : Type 0 where
  pub given : List ℕ
  pub came : left_old ≡ with_front given left_now
  pub stays : Stays old (old.bytes ++ given) now now.bytes

front_none : (x : Option (List ℕ)) → x ≡ with_front [] x
front_none None = refl
front_none (Some l) = refl

front-front : (a b : List ℕ) (x : Option (List ℕ)) → with_front a (with_front b x) ≡ with_front (a ++ b) x
front-front a b None = refl
front-front a b (Some l) = ap Some (sym (append_assoc a b l))

pub begins : (f : Feed) (left : Option (List ℕ)) → IsUnderWay f f left left
begins f left = record {
  given = [];
  came = front_none left;
  stays = subst (λ x. Stays f x f f.bytes) (sym (append-nil f.bytes)) (stays_self f f.bytes);
}

pub goes_on : (a b c : Feed) (lo lb lc : Option (List ℕ)) (n : ℕ) → IsUnderWay a b lo lb → Gains n b.bytes lb c.bytes lc → c.passed ≡ b.passed →
    c.blank ≡ b.blank → c.last ≡ b.last → IsUnderWay a c lo lc
goes_on a b c lo lb lc n u g p k l = record {
  given = u.given ++ g.piece;
  came = u.came ∙ ap (with_front u.given) g.came ∙ front-front u.given g.piece lc;
  stays =
      stays_then a b c (a.bytes ++ (u.given ++ g.piece)) (b.bytes ++ g.piece) c.bytes
      (subst (λ x. Stays a x b (b.bytes ++ g.piece)) (append_assoc a.bytes u.given g.piece) (stays_more a b (a.bytes ++ u.given) b.bytes g.piece u.stays))
      (record { white = []; spaces = refl; follows = sym g.bytes; blank = omega (arith, k); passed = p; last = l });
}

pub stays_on : (a b c : Feed) (lo lb : Option (List ℕ)) → IsUnderWay a b lo lb → Stays b b.bytes c c.bytes → IsUnderWay a c lo lb
stays_on a b c lo lb u s = record {
  given = u.given;
  came = u.came;
  stays = stays_then a b c (a.bytes ++ u.given) b.bytes c.bytes u.stays s;
}

pub shown_feeds : (fed : Fed) (a b c : Feed) (lo lb : Option (List ℕ)) → IsUnderWay a b lo lb → Shows fed b c → Feeds fed a lo c lb
shown_feeds fed a b c lo lb u s = record {
  given = u.given;
  came = u.came;
  answer = s.answer ∙ sym (stays-fed a b (a.bytes ++ u.given) b.bytes u.stays);
  leaves = leaves_then fed a b c (a.bytes ++ u.given) b.bytes c.bytes u.stays s.leaves;
  ended = λ h. absurd (let q = s.shown in cc);
}

pub shows_after : (fed : Fed) (a b c : Feed) → Stays a a.bytes b b.bytes → fed ≡ fed_of b.passed b.blank b.bytes → is_shown (fed_of b.passed b.blank b.bytes) ≡ true →
    Leaves fed b b.bytes c c.bytes → Shows fed a c
shows_after fed a b c s e v l = record {
  answer = e ∙ sym (stays-fed a b a.bytes b.bytes s);
  shown = ap is_shown e ∙ v;
  leaves = leaves_then fed a b c a.bytes b.bytes c.bytes s l;
}

pub not_shown : (a b c : Feed) (lo lb : Option (List ℕ)) → IsUnderWay a b lo lb → Unshown b c → is_shown (fed_of a.passed a.blank a.bytes) ≡ true → ⊥
not_shown a b c lo lb u n h =
    let e : fed_of a.passed a.blank a.bytes ≡ fed_of c.passed c.blank c.bytes =
    sym (fed-append a.passed a.blank a.bytes u.given h) ∙ stays-fed a b (a.bytes ++ u.given) b.bytes u.stays ∙ stays-fed b c b.bytes c.bytes n.stays in
    let v = ap is_shown e in
    let w = n.unshown in
    let x : true ≡ false = sym h ∙ v ∙ w in
    cc

pub stays_same : (c d : Feed) → d.bytes ≡ c.bytes → d.passed ≡ c.passed → d.blank ≡ c.blank → d.last ≡ c.last → Stays c c.bytes d d.bytes
stays_same c d s p k l = record { white = []; spaces = refl; follows = sym s; blank = omega (arith, k); passed = p; last = l }

pub waits_now : (a b c d : Feed) (lo lb ld : Option (List ℕ)) → IsUnderWay a b lo lb → Unshown b c → d.bytes ≡ c.bytes → d.passed ≡ c.passed →
    d.blank ≡ c.blank → d.last ≡ c.last → ld ≡ lb → Waits a lo d ld
waits_now a b c d lo lb ld u n s p k l f =
    let w = stays_on a c d lo lb (stays_on a b c lo lb u n.stays) (stays_same c d s p k l) in
    record {
      given = w.given;
      came = w.came ∙ ap (with_front w.given) (sym f);
      stays = w.stays;
      unshown = ap is_shown (sym (stays-fed c d c.bytes d.bytes (stays_same c d s p k l))) ∙ n.unshown;
    }

leaves_unshown : (fed : Fed) (a b : Feed) (x y : List ℕ) → is_shown fed ≡ false → Stays a x b y → Leaves fed a x b y
leaves_unshown Record a b x y h s = absurd (cc)
leaves_unshown End a b x y h s = s
leaves_unshown TooLong a b x y h s = s
leaves_unshown Unfinished a b x y h s = s

append_is_nil : (x y : List ℕ) → x ++ y ≡ [] → y ≡ []
append_is_nil [] y h = h
append_is_nil (b ∷ x) y h = absurd (cc)

end_told : (n : ℕ) (piece : List ℕ) (lb ld : Option (List ℕ)) → lb ≡ with_front piece ld → n ≡ 0 → IfSome lb (λ left. (n ≡ 0) ↔ (left ≡ [])) → IsAtEnd ld
end_told n piece lb None e z h = tt
end_told n piece lb (Some l) e z h =
    let k : IfSome (Some (piece ++ l)) (λ left. (n ≡ 0) ↔ (left ≡ [])) = subst (λ x. IfSome x (λ left. (n ≡ 0) ↔ (left ≡ []))) e h in
    append_is_nil piece l (k.0 z)

nothing_came : (n : ℕ) (old new : List ℕ) (lo ln : Option (List ℕ)) → Gains n old lo new ln → n ≡ 0 → new ≡ old
nothing_came n old new lo ln g z =
    g.bytes ∙ ap (λ r. old ++ r) (nil_from_length g.piece (g.count_is ∙ z)) ∙ append-nil old

pub ends_feeds : (fed : Fed) (a b c d : Feed) (lo lb ld : Option (List ℕ)) (n : ℕ) → IsUnderWay a b lo lb → Unshown b c → Gains n c.bytes lb d.bytes ld →
    n ≡ 0 → IfSome lb (λ left. (n ≡ 0) ↔ (left ≡ [])) → d.passed ≡ c.passed → d.blank ≡ c.blank → d.last ≡ c.last →
    fed ≡ fed_of d.passed d.blank d.bytes → Feeds fed a lo d ld
ends_feeds fed a b c d lo lb ld n u h g z e p k l f =
    let same = nothing_came n c.bytes d.bytes lb ld g z in
    let w = goes_on a c d lo lb ld n (stays_on a b c lo lb u h.stays) g p k l in
    let v : is_shown fed ≡ false =
    ap is_shown (f ∙ sym (stays-fed c d c.bytes d.bytes (stays_same c d same p k l))) ∙ h.unshown in
    record {
      given = w.given;
      came = w.came;
      answer = f ∙ sym (stays-fed a d (a.bytes ++ w.given) d.bytes w.stays);
      leaves = leaves_unshown fed a d (a.bytes ++ w.given) d.bytes v w.stays;
      ended = λ _. end_told n g.piece lb ld g.came z e;
    }

pub stays-count : (a b : Feed) (x y : List ℕ) → Stays a x b y → a.passed + a.blank + length x ≡ b.passed + b.blank + length y
stays-count a b x y s = omega (arith, s.passed, s.blank, ap length s.follows, length-append s.white y)

pub smaller : (b c d : Feed) (lb ld : Option (List ℕ)) (n : ℕ) → Unshown b c → Gains n c.bytes lb d.bytes ld → n ≢ 0 → d.passed ≡ c.passed → d.blank ≡ c.blank →
    1073807362 - (d.passed + d.blank + length d.bytes) < 1073807362 - (b.passed + b.blank + length b.bytes)
smaller b c d lb ld n h g z p k =
    let u = unshown c.passed c.blank c.bytes h.begun h.unshown in
    omega (arith, u.in_script, stays-count b c b.bytes c.bytes h.stays, ap length g.bytes, length-append c.bytes g.piece, g.count_is)

then_shows_by : (test : Bool) (a b : Feed) → (test ≡ true → Shows TooLong a b) → IfSome (then_some test TooLong) (λ fed. Shows fed a b)
then_shows_by true a b h = h refl
then_shows_by false a b h = tt

pub then_shows : (test : Bool) (r : Option Fed) (a b : Feed) → r ≡ then_some test TooLong → (test ≡ true → Shows TooLong a b) →
    IfSome r (λ fed. Shows fed a b)
then_shows test r a b e h = subst (λ v. IfSome v (λ fed. Shows fed a b)) (sym e) (then_shows_by test a b h)
