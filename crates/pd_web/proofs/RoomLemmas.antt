-- Room for more ends, boxes and wires.
use Rattle.std.proofs.Common.{◌≡◌, ◌≢◌, ℕ, zero, suc, ◌+◌, ◌<◌, ◌≤◌, false, List, [], ◌∷◌, ◌++◌, length, get_or, map, slice_get, Option, Some, None, IsSome, is_some, true≢false, Result, Ok, Err, OnOk, OnErr, refl, sym, ap, ◌∙◌, subst, inl, inr, arith}
use Rattle.std.proofs.lemmas.Bool.{cases_eq, cases_lt}
use Rattle.std.proofs.lemmas.List.{length-append}
use Rattle.std.proofs.lemmas.Option.{slice_get_within, slice_get-get_or, slice_get_past}
use Rattle.std.proofs.lemmas.Result.{on_ok_weaker}
use Rattle.std.specs.Prelude.{option_and_then}
use Rattle.pd_wire.specs.Book.{Book, IsEnd, end_at as entry_at, wire_at, fan_of, feeds_of, fan_part, feed_part, IsLinked, MakesEnd, DropsEnd, with_room}
use Rattle.pd_grove.specs.declared.ports.Side.{Side}
use Rattle.pd_grove.specs.declared.ports.Side.TheVariants.{Inlets, Outlets}
use Rattle.pd_web.specs.declared.sockets.Port.{Port}
use Rattle.pd_web.specs.declared.sockets.Sockets.{Sockets}
use Rattle.pd_web.specs.declared.sockets.Spot.{Spot}
use Rattle.pd_web.specs.Sockets.{AreFew, AreTied, Grows, end_at, end_under, side_ports, ports_in, ports_at, made_of, made_at}
use Rattle.pd_web.specs.Spares.{AreFree, IsLonger, SameSockets, SameHomes}
use Rattle.pd_web.specs.Homes.{home_at}
use Rattle.pd_web.specs.Hops.{fan_under, feeds_under}
use Rattle.pd_web.proofs.SocketLemmas.{push_cases, push_below, push_at}
use Rattle.pd_web.proofs.ChangeLemmas.{AllStay, any, to_hop, from_hop, line_in, fan_in, feeds_in, lines_stay, fan_stays, feeds_stay}

-- what stays while there may be more ends
pub record Stands (all : List Sockets) (spots spots' : List Spot) (b b' : Book) (spare : List ℕ) : Type 0 where
  pub tied : AreTied all spots' b'
  pub free : AreFree all b' spare
  pub lines : (k : ℕ) → line_in spots' b' k ≡ line_in spots b k
  pub fans : (node outlet : ℕ) → fan_in all spots' b' node outlet ≡ fan_in all spots b node outlet
  pub feeds : (node inlet : ℕ) → feeds_in all spots' b' node inlet ≡ feeds_in all spots b node inlet

spot_grown : (spots spots' : List Spot) (b b' : Book) (e : ℕ) (d : Spot) → Grows spots spots' b b' → IsEnd b e → e < length spots → slice_get spots' e ≡ slice_get spots e
spot_grown spots spots' b b' e d grows live l = let was = slice_get-get_or spots e d l in grows.told e (get_or spots e d) live was ∙ sym was

grown_stay : (all : List Sockets) (spots spots' : List Spot) (b b' : Book) → IsLinked b → AreTied all spots b → Grows spots spots' b b' → AllStay spots spots' b b' any
grown_stay all spots spots' b b' linked tied grows k s t h p =
    let d : Spot = record { node = 0; side = Inlets; port = 0 } in
    record {
      was = h;
      is = grows.wires k ∙ h;
      from = spot_grown spots spots' b b' s d grows (linked.source k s t h) (tied.spotted s (linked.source k s t h));
      to = spot_grown spots spots' b b' t d grows (linked.sink k s t h) (tied.spotted t (linked.sink k s t h));
    }

fan_grown : (spots spots' : List Spot) (b b' : Book) (o : Option ℕ) → Grows spots spots' b b' → fan_under b' o ≡ fan_under b o
fan_grown spots spots' b b' None grows = refl
fan_grown spots spots' b b' (Some e) grows = grows.fans e

feeds_grown : (spots spots' : List Spot) (b b' : Book) (o : Option ℕ) → Grows spots spots' b b' → feeds_under b' o ≡ feeds_under b o
feeds_grown spots spots' b b' None grows = refl
feeds_grown spots spots' b b' (Some e) grows = grows.feeds e

pub grown_stands : (all : List Sockets) (spots spots' : List Spot) (b b' : Book) (spare : List ℕ) → IsLinked b → AreTied all spots b → AreFree all b spare → Grows spots spots' b b' → Stands all spots spots' b b' spare
grown_stands all spots spots' b b' spare linked tied free grows =
    let stay = grown_stay all spots spots' b b' linked tied grows in
    record {
      tied = record {
        placed = λ s e h. let a = tied.placed s e h in record { live = grows.ends e a.live; told = grows.told e s a.live a.told };
        spotted = grows.spotted tied.spotted;
      };
      free = record {
        live = λ i e h. grows.ends e (free.live i e h);
        no_fan = λ i e h. grows.fans e ∙ free.no_fan i e h;
        no_feeds = λ i e h. grows.feeds e ∙ free.no_feeds i e h;
        of_no_port = free.of_no_port;
        once = free.once;
      };
      lines = λ k. lines_stay spots spots' b b' any k stay (grows.wires k) tt;
      fans = λ node outlet.
          let o = end_under all Outlets node outlet in
          ap (map (to_hop spots' b')) (fan_grown spots spots' b b' o grows) ∙ fan_stays spots spots' b b' o linked stay;
      feeds = λ node inlet.
          let o = end_under all Inlets node inlet in
          ap (map (from_hop spots' b')) (feeds_grown spots spots' b b' o grows) ∙ feeds_stay spots spots' b b' o linked stay;
    }

-- A book with more room.

-- the same ends and wires, and no less room
pub record SameBook (b b' : Book) : Type 0 where
  pub ends : (e : ℕ) → entry_at b' e ≡ entry_at b e
  pub wires : (k : ℕ) → wire_at b' k ≡ wire_at b k
  pub room : b.spare_wires ≤ b'.spare_wires

live_through : (b b' : Book) (e : ℕ) → entry_at b' e ≡ entry_at b e → IsEnd b e → IsEnd b' e
live_through b b' e same h = let P : Option (List ℕ × List ℕ) → Type 0 = λ o. IsSome o in subst P (sym same) h

pub same_grows : (spots : List Spot) (b b' : Book) → SameBook b b' → Grows spots spots b b'
same_grows spots b b' same = record {
  ends = λ e h. live_through b b' e (same.ends e) h;
  told = λ e s l h. h;
  spotted = λ spotted e h. spotted e (live_through b' b e (sym (same.ends e)) h);
  fans = λ e. ap fan_part (same.ends e);
  feeds = λ e. ap feed_part (same.ends e);
  wires = same.wires;
}

room_same : (b : Book) (ends wires : ℕ) → SameBook b (with_room b ends wires)
room_same b ends wires = record { ends = λ e. refl; wires = λ k. refl; room = omega arith }

nothing_same : (b : Book) → SameBook b b
nothing_same b = record { ends = λ e. refl; wires = λ k. refl; room = omega arith }

pub book_reserved : {T E : Type 0} (r : Result T E) (b b' : Book) (ends wires : ℕ) → OnOk r (b' ≡ with_room b ends wires) → OnErr r (b' ≡ b) → SameBook b b'
book_reserved (Ok x) b b' ends wires ok err = let P : Book → Type 0 = λ a. SameBook b a in subst P (sym ok) (room_same b ends wires)
book_reserved (Err x) b b' ends wires ok err = let P : Book → Type 0 = λ a. SameBook b a in subst P (sym err) (nothing_same b)

-- A new end, kept or dropped.

vacant_ne : (b : Book) (e f : ℕ) → entry_at b e ≡ None → IsEnd b f → f ≢ e
vacant_ne b e f vacant live = λ same. true≢false (sym live ∙ ap is_some (ap (entry_at b) same ∙ vacant))

pub made_grows : (spots spots' : List Spot) (b b' : Book) (e : ℕ) → MakesEnd b b' e → IsLonger spots spots' → e < length spots' → Grows spots spots' b b'
made_grows spots spots' b b' e makes longer far = record {
  ends = λ f h. live_through b b' f (makes.other_ends f (vacant_ne b e f makes.was_vacant.0 h)) h;
  told = λ f s l h. longer.kept f s h;
  spotted = λ spotted f h. elim (cases_eq f e) [
    | inl same ↦ omega (arith, same, far)
    | inr differ ↦ let l = spotted f (live_through b' b f (sym (makes.other_ends f differ)) h) in let m = longer.longer in omega (arith, l, m)
  ];
  fans = λ f. elim (cases_eq f e) [
    | inl same ↦ ap (fan_of b') same ∙ ap fan_part makes.end ∙ sym (ap fan_part makes.was_vacant.0) ∙ sym (ap (fan_of b) same)
    | inr differ ↦ ap fan_part (makes.other_ends f differ)
  ];
  feeds = λ f. elim (cases_eq f e) [
    | inl same ↦ ap (feeds_of b') same ∙ ap feed_part makes.end ∙ sym (ap feed_part makes.was_vacant.0) ∙ sym (ap (feeds_of b) same)
    | inr differ ↦ ap feed_part (makes.other_ends f differ)
  ];
  wires = makes.wires;
}

pub dropped_grows : (spots spots' : List Spot) (b b' b'' : Book) (e : ℕ) → MakesEnd b b' e → DropsEnd b' b'' e → IsLonger spots spots' → Grows spots spots' b b''
dropped_grows spots spots' b b' b'' e makes drops longer =
    let same : (f : ℕ) → entry_at b'' f ≡ entry_at b f = λ f. elim (cases_eq f e) [
      | inl same ↦ ap (entry_at b'') same ∙ drops.end ∙ sym makes.was_vacant.0 ∙ sym (ap (entry_at b) same)
      | inr differ ↦ drops.other_ends f differ ∙ makes.other_ends f differ
    ] in
    record {
      ends = λ f h. live_through b b'' f (same f) h;
      told = λ f s l h. longer.kept f s h;
      spotted = λ spotted f h. let l = spotted f (live_through b'' b f (sym (same f)) h) in let m = longer.longer in omega (arith, l, m);
      fans = λ f. ap fan_part (same f);
      feeds = λ f. ap feed_part (same f);
      wires = λ k. drops.wires k ∙ makes.wires k;
    }

pub made_live : (b b' : Book) (e : ℕ) → MakesEnd b b' e → IsEnd b' e
made_live b b' e makes = ap is_some makes.end

pub free_more : (all : List Sockets) (spots : List Spot) (b b' : Book) (spare spare' : List ℕ) (e : ℕ) → AreTied all spots b → AreFree all b spare → AreFree all b' spare → MakesEnd b b' e → spare' ≡ spare ++ e ∷ [] → AreFree all b' spare'
free_more all spots b b' spare spare' e tied was free makes h =
    let cases = λ (i f : ℕ) (at : slice_get spare' i ≡ Some f). push_cases spare e f i (sym (ap (λ xs. slice_get xs i) h) ∙ at) in
    record {
      live = λ i f at. elim (cases i f at) [
        | inl a ↦ free.live i f a
        | inr q ↦ let P : ℕ → Type 0 = λ n. IsEnd b' n in subst P q.1 (made_live b b' e makes)
      ];
      no_fan = λ i f at. elim (cases i f at) [
        | inl a ↦ free.no_fan i f a
        | inr q ↦ ap (fan_of b') (sym q.1) ∙ ap fan_part makes.end
      ];
      no_feeds = λ i f at. elim (cases i f at) [
        | inl a ↦ free.no_feeds i f a
        | inr q ↦ ap (feeds_of b') (sym q.1) ∙ ap feed_part makes.end
      ];
      of_no_port = λ i f s at is. elim (cases i f at) [
        | inl a ↦ free.of_no_port i f s a is
        | inr q ↦ vacant_ne b e e makes.was_vacant.0 (tied.placed s e (is ∙ ap (λ n. Some n) (sym q.1))).live refl
      ];
      once = λ i j f at too. elim (cases i f at) [
        | inl a ↦ elim (cases j f too) [
          | inl x ↦ free.once i j f a x
          | inr q ↦ absurd (vacant_ne b e f makes.was_vacant.0 (was.live i f a) (sym q.1))
        ]
        | inr q ↦ elim (cases j f too) [
          | inl x ↦ absurd (vacant_ne b e f makes.was_vacant.0 (was.live j f x) (sym q.1))
          | inr x ↦ q.0 ∙ sym x.0
        ]
      ];
    }

-- a new end was made, and kept where its number and memory allowed it
pub record Made {T E : Type 0} (all : List Sockets) (spots spots' : List Spot) (b b' b'' : Book) (spare spare' : List ℕ) (e : ℕ) (r : Result T E) : Type 0 where
  pub linked : IsLinked b
  pub tied : AreTied all spots b
  pub free : AreFree all b spare
  pub makes : MakesEnd b b' e
  pub longer : IsLonger spots spots'
  pub far : OnOk r (e < length spots')
  pub kept : OnErr r (spare' ≡ spare)
  pub more : OnOk r (spare' ≡ spare ++ e ∷ [])
  pub ok : OnOk r (b'' ≡ b')
  pub err : OnErr r (DropsEnd b' b'' e)

kept_end : (all : List Sockets) (spots spots' : List Spot) (b b' b'' : Book) (spare spare' : List ℕ) (e : ℕ) → IsLinked b → AreTied all spots b → AreFree all b spare → MakesEnd b b' e → IsLonger spots spots' → e < length spots'
    → spare' ≡ spare ++ e ∷ [] → b'' ≡ b' → Stands all spots spots' b b'' spare'
kept_end all spots spots' b b' b'' spare spare' e linked tied free makes longer far more same =
    let s = grown_stands all spots spots' b b' spare linked tied free (made_grows spots spots' b b' e makes longer far) in
    let P : Book → Type 0 = λ a. Stands all spots spots' b a spare' in
    subst P (sym same) (record { tied = s.tied; free = free_more all spots b b' spare spare' e tied free s.free makes more; lines = s.lines; fans = s.fans; feeds = s.feeds })

lost_end : (all : List Sockets) (spots spots' : List Spot) (b b' b'' : Book) (spare spare' : List ℕ) (e : ℕ) → IsLinked b → AreTied all spots b → AreFree all b spare → MakesEnd b b' e → IsLonger spots spots'
    → spare' ≡ spare → DropsEnd b' b'' e → Stands all spots spots' b b'' spare'
lost_end all spots spots' b b' b'' spare spare' e linked tied free makes longer kept drops =
    let P : List ℕ → Type 0 = λ xs. Stands all spots spots' b b'' xs in
    subst P (sym kept) (grown_stands all spots spots' b b'' spare linked tied free (dropped_grows spots spots' b b' b'' e makes drops longer))

pub made_stands : {T E : Type 0} (all : List Sockets) (spots spots' : List Spot) (b b' b'' : Book) (spare spare' : List ℕ) (e : ℕ) (r : Result T E) → Made all spots spots' b b' b'' spare spare' e r → Stands all spots spots' b b'' spare'
made_stands all spots spots' b b' b'' spare spare' e (Ok x) m = kept_end all spots spots' b b' b'' spare spare' e m.linked m.tied m.free m.makes m.longer m.far m.more m.ok
made_stands all spots spots' b b' b'' spare spare' e (Err x) m = lost_end all spots spots' b b' b'' spare spare' e m.linked m.tied m.free m.makes m.longer m.kept m.err

-- no less is set aside
pub made_room : {T E : Type 0} (b b' b'' : Book) (spare spare' : List ℕ) (e : ℕ) (r : Result T E) → MakesEnd b b' e → OnErr r (spare' ≡ spare) → OnOk r (spare' ≡ spare ++ e ∷ []) → OnOk r (b'' ≡ b') → OnErr r (DropsEnd b' b'' e)
    → (length spare ≤ length spare') × (b.spare_wires ≤ b''.spare_wires)
made_room b b' b'' spare spare' e (Ok x) makes kept more ok err =
    let l = ap length more ∙ length-append spare (e ∷ []) in
    let s = ap (λ (a : Book). a.spare_wires) ok ∙ makes.spare_wires in
    (omega (arith, l), omega (arith, s))
made_room b b' b'' spare spare' e (Err x) makes kept more ok err =
    let l = ap length kept in
    let s = err.spare_wires ∙ makes.spare_wires in
    (omega (arith, l), omega (arith, s))

pub made_more : {T E : Type 0} (spare spare' : List ℕ) (e : ℕ) (r r' : Result T E) → r' ≡ r → OnOk r (spare' ≡ spare ++ e ∷ []) → OnOk r' (length spare' ≡ length spare + 1)
made_more spare spare' e r r' same more =
    let P : Result _ _ → Type 0 = λ x. OnOk x (length spare' ≡ length spare + 1) in
    subst P (sym same) (on_ok_weaker r (λ h. ap length h ∙ length-append spare (e ∷ [])) more)

-- More boxes, all without ports.

pub same_ends : (all all' : List Sockets) (s : Spot) → SameSockets all all' → end_at all' s ≡ end_at all s
same_ends all all' s same = ap (λ (ports : List Port). option_and_then (λ (p : Port). p.end) (slice_get ports s.port)) (same.ports s.side s.node)

pub sockets_stand : (all all' : List Sockets) (spots : List Spot) (b : Book) (spare : List ℕ) → SameSockets all all' → AreFew all → AreTied all spots b → AreFree all b spare → (AreFew all') × (AreTied all' spots b) × (AreFree all' b spare)
sockets_stand all all' spots b spare same few tied free = (
  λ side k. let e = ap length (same.ports side k) in let h = few side k in omega (arith, e, h),
  record { placed = λ s e h. tied.placed s e (sym (same_ends all all' s same) ∙ h); spotted = tied.spotted },
  record {
    live = free.live;
    no_fan = free.no_fan;
    no_feeds = free.no_feeds;
    of_no_port = λ i e s h is. free.of_no_port i e s h (sym (same_ends all all' s same) ∙ is);
    once = free.once;
  },
)

pub sockets_same : (all all' : List Sockets) (spots : List Spot) (b : Book) → SameSockets all all'
    → ((node outlet : ℕ) → fan_in all' spots b node outlet ≡ fan_in all spots b node outlet) × ((node inlet : ℕ) → feeds_in all' spots b node inlet ≡ feeds_in all spots b node inlet)
sockets_same all all' spots b same = (
  λ node outlet. ap (λ o. map (to_hop spots b) (fan_under b o)) (same_ends all all' (record { node = node; side = Outlets; port = outlet }) same),
  λ node inlet. ap (λ o. map (from_hop spots b) (feeds_under b o)) (same_ends all all' (record { node = node; side = Inlets; port = inlet }) same),
)

pub sockets_begun : (all : List Sockets) → SameSockets all all
sockets_begun all = record { ports = λ side k. refl; made = λ k. refl; longer = omega arith }

pub homes_begun : (homes : List (Option Spot)) → SameHomes homes homes
homes_begun homes = record { told = λ j. refl; longer = omega arith }

same_pushed : (all all' : List Sockets) (own : Sockets) (side : Side) (k : ℕ) → all' ≡ all ++ own ∷ [] → side_ports side own ≡ [] → ports_at all' side k ≡ ports_at all side k
same_pushed all all' own side k h none = elim (cases_lt k (length all)) [
  | inl l ↦ ap (λ (xs : List Sockets). ports_at xs side k) h ∙ ap (ports_in side) (push_below all own k l)
  | inr l ↦ elim (cases_eq (length all) k) [
    | inl e ↦ ap (λ (xs : List Sockets). ports_at xs side k) h ∙ ap (ports_in side) (push_at all own k e) ∙ none ∙ sym (ap (ports_in side) (slice_get_past all k l))
    | inr ne ↦
        let far = length-append all (own ∷ []) in
        ap (λ (xs : List Sockets). ports_at xs side k) h ∙ ap (ports_in side) (slice_get_past (all ++ own ∷ []) k (omega (arith, far, l, ne))) ∙ sym (ap (ports_in side) (slice_get_past all k l))
  ]
]

made_pushed : (all all' : List Sockets) (own : Sockets) (k : ℕ) → all' ≡ all ++ own ∷ [] → own.is_made ≡ false → made_at all' k ≡ made_at all k
made_pushed all all' own k h none = elim (cases_lt k (length all)) [
  | inl l ↦ ap (λ (xs : List Sockets). made_at xs k) h ∙ ap made_of (push_below all own k l)
  | inr l ↦ elim (cases_eq (length all) k) [
    | inl e ↦ ap (λ (xs : List Sockets). made_at xs k) h ∙ ap made_of (push_at all own k e) ∙ none ∙ sym (ap made_of (slice_get_past all k l))
    | inr ne ↦
        let far = length-append all (own ∷ []) in
        ap (λ (xs : List Sockets). made_at xs k) h ∙ ap made_of (slice_get_past (all ++ own ∷ []) k (omega (arith, far, l, ne))) ∙ sym (ap made_of (slice_get_past all k l))
  ]
]

pub sockets_pushed : (old all all' : List Sockets) (own : Sockets) → SameSockets old all → all' ≡ all ++ own ∷ [] → own.inlets.items ≡ [] → own.outlets.items ≡ [] → own.is_made ≡ false → SameSockets old all'
sockets_pushed old all all' own same h inlets outlets made = record {
  ports = λ side k. same_pushed all all' own side k h (none side) ∙ same.ports side k;
  made = λ k. made_pushed all all' own k h made ∙ same.made k;
  longer = let l = ap length h ∙ length-append all (own ∷ []) in let m = same.longer in omega (arith, l, m);
}
  where
    none : (side : Side) → side_ports side own ≡ []
    none Inlets = inlets
    none Outlets = outlets

home_pushed : (homes homes' : List (Option Spot)) (j : ℕ) → homes' ≡ homes ++ None ∷ [] → home_at homes' j ≡ home_at homes j
home_pushed homes homes' j h = ap (λ (xs : List (Option Spot)). home_at xs j) h ∙ at_end homes j
  where
    at_end : (xs : List (Option Spot)) (i : ℕ) → home_at (xs ++ None ∷ []) i ≡ home_at xs i
    at_end [] zero = refl
    at_end [] (suc i) = refl
    at_end (x ∷ xs) zero = refl
    at_end (x ∷ xs) (suc i) = at_end xs i

pub homes_pushed : (old homes homes' : List (Option Spot)) → SameHomes old homes → homes' ≡ homes ++ None ∷ [] → SameHomes old homes'
homes_pushed old homes homes' same h = record {
  told = λ j. home_pushed homes homes' j h ∙ same.told j;
  longer = let l = ap length h ∙ length-append homes (None ∷ []) in let m = same.longer in omega (arith, l, m);
}

pub longer_begun : (spots : List Spot) → IsLonger spots spots
longer_begun spots = record { kept = λ e s h. h; longer = omega arith }

pub longer_pushed : (old spots spots' : List Spot) (s : Spot) → IsLonger old spots → spots' ≡ spots ++ s ∷ [] → IsLonger old spots'
longer_pushed old spots spots' s was h = record {
  kept = λ e t at. ap (λ xs. slice_get xs e) h ∙ push_below spots s e (slice_get_within spots e t (was.kept e t at)) ∙ was.kept e t at;
  longer = let l = ap length h ∙ length-append spots (s ∷ []) in let m = was.longer in omega (arith, l, m);
}
